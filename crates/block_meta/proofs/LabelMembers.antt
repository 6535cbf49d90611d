-- Labels as members of a JSON object: reading adds them one after another, and what is written of a set reads as that set.
use Rattle.std.proofs.Common.{◌≡◌, ℕ, ◌+◌, ◌<◌, List, [], ◌∷◌, ◌++◌, length, take, get_or, Some, option_map, Ok, Err, ◌⊎◌, inl, inr, String, Global, string_bytes, Greater, nat_cmp, refl, sym, ap, ap₂, subst, ◌∙◌}
use Rattle.std.specs.Cmp.Lexicographic.{slice_cmp}
use Rattle.std.specs.Ordering.{ordering_reverse}
use Rattle.std.proofs.lemmas.Cmp.{nat_list_cmp_total}
use Rattle.std.proofs.lemmas.List.{take_more}
use Rattle.label_sets.specs.declared.label.Label.{Label}
use Rattle.label_sets.specs.Labels.{IsLabelSet, ComesBefore, value_of}
use Rattle.label_sets.proofs.LabelValues.{value_hit, value_miss, value_nil, value_of-below, stands_before_member}
use Rattle.serde_json.specs.Data.{string, object, put, member}
use Rattle.serde_json.specs.Find.{get_member}
use Rattle.serde_json.specs.View.{view, members_view}
use Rattle.serde_json.specs.declared.value.Value.{Value}
use Rattle.block_meta.specs.declared.refusal.MetaRefusal.{MetaRefusal}
use Rattle.block_meta.specs.declared.refusal.MetaRefusal.TheVariants.{NoMemory}
use Rattle.block_meta.specs.Members.{of_kind}
use Rattle.block_meta.specs.MetaReading.{labels_from, label_added}
use Rattle.block_meta.specs.MetaText.{NamesDiffer}
use Rattle.block_meta.specs.MetaValue.{label_members}
use Rattle.block_meta.proofs.FoundLabels.{same_or_not, member_hit, member_miss, labels_read}
use Rattle.base.proofs.Lists.{split_place}

abbrev Entry : Type 0
Entry = String Global × Value

-- ---- reading

pub labels_done : (labels : List Label) (es : List Entry) → es ≡ [] → labels_from labels (members_view es) ≡ Ok labels
unfolding labels_from
labels_done _ _ e = rw e refl

module _ (labels : List Label) (es rest : List Entry) (key : String Global) (value : Value) (name : List ℕ) (e : es ≡ (key, value) ∷ rest) (named : name ≡ string_bytes key) where
  pub labels_step : (more : List Label) → label_added labels name (view value) ≡ Ok more → labels_from labels (members_view es) ≡ labels_from more (members_view rest)
  unfolding labels_from
  labels_step _ here = let h = rw named at here in rw (e, h) refl

  pub labels_stop : (x : MetaRefusal) → (x ≡ NoMemory) ⊎ (label_added labels name (view value) ≡ Err x) → (x ≡ NoMemory) ⊎ (labels_from labels (members_view es) ≡ Err x)
  unfolding labels_from
  labels_stop _ (inl memory) = inl memory
  labels_stop _ (inr here) = let h = rw named at here in inr (rw (e, h) refl)

-- ---- writing

after : (one other : List ℕ) → ComesBefore one other → slice_cmp nat_cmp other one ≡ Greater
after one other before = nat_list_cmp_total.antisymm other one ∙ ap ordering_reverse before

put_last : (front : List Label) (l : Label) (rest : List Label) → IsLabelSet (front ++ l ∷ rest) → put l.name (string l.value) (label_members front) ≡ label_members (front ++ l ∷ [])
unfolding label_members
put_last [] l _ h = refl
put_last (x ∷ xs) l rest h = rw (after x.name l.name (stands_before_member _ xs l _ h.2)) (ap (member x.name (string x.value)) (put_last xs l rest h.3))

pub members_none : members_view [] ≡ label_members []
unfolding label_members
members_none = refl

-- one label more goes last
pub members_more : (labels : List Label) (i : ℕ) (l : Label) (old new : List Entry) (value : Value) → IsLabelSet labels → i < length labels → l ≡ get_or labels i l → members_view old ≡ label_members (take i labels) → view value ≡ string l.value → members_view new ≡ put l.name (view value) (members_view old) → members_view new ≡ label_members (take (i + 1) labels)
members_more labels i l _ _ _ lawful lt at so_far seen stored =
    let set = subst IsLabelSet (split_place labels i l lt at) lawful in
    let more = take_more _ i l lt ∙ ap (λ x. take i labels ++ x ∷ []) (sym at) in
    stored ∙ ap₂ (put l.name) seen so_far ∙ put_last _ l _ set ∙ ap label_members (sym more)

-- ---- reading what was written

label_at : (labels : List Label) (name : List ℕ) → get_member name (label_members labels) ≡ option_map string (value_of labels name)
unfolding label_members
label_at [] name = rw value_nil refl
label_at (l ∷ ls) name = elim (same_or_not l.name name) [
  | inl is ↦ rw (value_hit l ls name is) (subst (λ n. get_member n (member l.name (string l.value) (label_members ls)) ≡ option_map string (Some l.value)) is (member_hit l.name (string l.value) (label_members ls)))
  | inr not ↦ rw (value_miss l ls name not) (member_miss _ _ _ _ (λ e. not (sym e)) ∙ label_at ls name)
]

names_differ : (labels : List Label) → IsLabelSet labels → NamesDiffer (label_members labels)
unfolding label_members
names_differ [] h = tt
names_differ (l ∷ ls) h = (label_at ls l.name ∙ ap (option_map string) (value_of-below _ ls h.2), names_differ ls h.3)

pub labels_again : (labels : List Label) → IsLabelSet labels → labels_from [] (label_members labels) ≡ Ok labels
unfolding of_kind
labels_again labels h = labels_read.only {value = object (label_members labels)} (record { members = label_members labels; is_object = refl; differ = names_differ _ h; lawful = h; same = label_at labels })
