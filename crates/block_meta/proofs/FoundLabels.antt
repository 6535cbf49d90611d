-- The labels of an object: what is read of its members is the set that they make, and such a set is read.
use Rattle.std.proofs.Common.{◌≡◌, ◌≢◌, ℕ, List, [], ◌∷◌, Option, Some, None, option_map, Ok, ◌⊎◌, inl, inr, refl, sym, ap, subst, ◌∙◌, codes}
use Rattle.std.specs.declared.cmp.Ordering.{Ordering}
use Rattle.std.specs.declared.cmp.Ordering.TheVariants.{Less, Equal, Greater}
use Rattle.std.specs.Option.{option_or}
use Rattle.std.specs.Ordering.{match_ordering}
use Rattle.base.proofs.Bools.{by_order}
use Rattle.base.proofs.Lists.{some-from_length, length-some}
use Rattle.base.proofs.Options.{some_not_none, None-from_is_some, option_map-Some}
use Rattle.base.specs.Reading.{◌>>=◌}
use Rattle.base.proofs.Binds.{ok_is, cond_ok}
use Rattle.base.proofs.Bound.{OfValue, of_ok, of_weaker, of_bind, of_refused}
use Rattle.label_sets.specs.declared.label.Label.{Label}
use Rattle.label_sets.specs.declared.label_refusal.LabelRefusal.{LabelRefusal}
use Rattle.label_sets.specs.Labels.{compare_texts, IsLabelSet, has_lesser_name, value_of, added}
use Rattle.label_sets.specs.Ordered.{placed}
use Rattle.label_sets.proofs.LabelValues.{compare_self, before_differs, same_text, value_hit, value_miss, value_nil, same_sets}
use Rattle.label_sets.proofs.OrderedLabels.{value_of-placed, IsLabelSet-placed}
use Rattle.serde_json.specs.Data.{Data, string, Members, no_members, member}
use Rattle.serde_json.specs.Find.{get_member, as_object}
use Rattle.block_meta.specs.Members.{of_kind, text_of}
use Rattle.block_meta.specs.MetaReading.{label_added, labels_from}
use Rattle.block_meta.specs.MetaText.{NamesDiffer, AreLabels}
use Rattle.block_meta.proofs.Found.{IsReadAs, step, text, members_found as object_members_found}

-- ---- members by name

pub same_or_not : (a b : List ℕ) → (a ≡ b) ⊎ (a ≢ b)
same_or_not a b = by_order _ (λ e. inr (before_differs a b e)) (λ e. inl (same_text a b e)) (λ e. inr (λ h. let f = subst (λ n. compare_texts a n ≡ Equal) h (compare_self a) in cc))

pub member_hit : (name : List ℕ) (value : Data) (others : Members) → get_member name (member name value others) ≡ Some value
member_hit _ _ _ = rw compare_self refl

miss_at : (o : Ordering) (r s : Option Data) → o ≢ Equal → match_ordering o r s r ≡ r
miss_at Less r s h = refl
miss_at Equal r s h = absurd (h refl)
miss_at Greater r s h = refl

pub member_miss : (name other : List ℕ) (value : Data) (others : Members) → name ≢ other → get_member name (member other value others) ≡ get_member name others
member_miss _ _ _ _ differ = miss_at _ _ _ (λ e. differ (same_text _ _ e))

-- ---- one label more

-- the value is a text, and with it the second set has a label more than the first
record IsOneMore (labels more : List Label) (name : List ℕ) (value : Data) : Type 0 where
  text : List ℕ
  is_text : value ≡ string text
  missed : value_of labels name ≡ None
  here : value_of more name ≡ Some text
  others : (other : List ℕ) → name ≢ other → value_of more other ≡ value_of labels other
  lawful : IsLabelSet more

more_found : (labels : List Label) (name : List ℕ) (value : Data) → IsLabelSet labels → OfValue (label_added labels name value) (λ more. IsOneMore labels more name value)
unfolding label_added added
more_found labels name value lawful =
    step (text _) (λ t is. of_refused _ (added labels name t) (λ more e.
    let named = cond_ok _ _ _ _ e in
    let valued = cond_ok _ _ _ _ named.1 in
    let missed = cond_ok _ _ _ _ valued.1 in
    let none = None-from_is_some _ missed.0 in
    let l : Label = record { name = name; value = t } in
    subst (λ more. IsOneMore labels more name value) (ok_is {E = LabelRefusal} _ _ missed.1) (record {
      text = t;
      is_text = is;
      missed = none;
      here = value_of-placed l labels name ∙ value_hit l labels name refl;
      others = λ other differ. value_of-placed l labels other ∙ value_miss l labels other differ;
      lawful = IsLabelSet-placed l labels (some-from_length name named.0) (some-from_length t valued.0) none lawful;
    })))

more_read : (labels : List Label) (name text : List ℕ) → name ≢ [] → text ≢ [] → value_of labels name ≡ None → (more : List Label) × (label_added labels name (string text) ≡ Ok more)
unfolding label_added added text_of of_kind
more_read labels name text named valued missed = (placed has_lesser_name (record { name = name; value = text }) labels, rw (length-some name named, length-some text valued, missed) refl)

-- ---- all labels

-- the members were read after a first set, and made the second
record AreRead (first labels : List Label) (members : Members) : Type 0 where
  differ : NamesDiffer members
  lawful : IsLabelSet labels
  apart : (name text : List ℕ) → value_of first name ≡ Some text → get_member name members ≡ None
  same : (name : List ℕ) → option_map string (value_of labels name) ≡ option_or (option_map string (value_of first name)) (get_member name members)

module _ (first more labels : List Label) (name : List ℕ) (value : Data) (others : Members) (one : IsOneMore first more name value) where
  same_at : (other : List ℕ) → option_or (option_map string (value_of first other)) (get_member other (member name value others)) ≡ option_or (option_map string (value_of more other)) (get_member other others)
  same_at other = elim (same_or_not name other) [
    | inl is ↦ subst (λ n. option_or (option_map string (value_of first n)) (get_member n (member name value others)) ≡ option_or (option_map string (value_of more n)) (get_member n others)) is
        (rw (one.missed, member_hit name value others, one.here) (ap (λ v. Some v) one.is_text))
    | inr not ↦ rw (one.others other not, member_miss other name value others (λ is. not (sym is))) refl
  ]

  read_more : AreRead more labels others → AreRead first labels (member name value others)
  read_more read = record {
    differ = (read.apart name _ one.here, read.differ);
    lawful = read.lawful;
    apart = λ other t e.
        let not : name ≢ other = λ is. some_not_none _ _ e (subst (λ n. value_of first n ≡ None) is one.missed) in
        member_miss other name value others (λ is. not (sym is)) ∙ read.apart other t (one.others other not ∙ e);
    same = λ other. read.same other ∙ sym (same_at other);
  }

  read_less : AreRead first labels (member name value others) → AreRead more labels others
  read_less read = record {
    differ = read.differ.1;
    lawful = read.lawful;
    apart = λ other t e. elim (same_or_not name other) [
      | inl is ↦ subst (λ n. get_member n others ≡ None) is read.differ.0
      | inr not ↦ sym (member_miss other name value others (λ is. not (sym is))) ∙ read.apart other t (sym (one.others other not) ∙ e)
    ];
    same = λ other. read.same other ∙ same_at other;
  }

or_none : (o : Option Data) → o ≡ option_or o None
or_none None = refl
or_none (Some d) = refl

members_found : (members : Members) (first : List Label) → IsLabelSet first → OfValue (labels_from first members) (λ labels. AreRead first labels members)
unfolding labels_from
members_found no_members first lawful = of_ok (record { differ = tt; lawful = lawful; apart = λ name t e. refl; same = λ name. or_none _ })
members_found (member name value others) first lawful =
    of_bind _ (more_found first name value lawful) (λ more one. of_weaker (λ labels. read_more _ _ labels _ _ others one) (members_found others more one.lawful))

set_filled : (labels : List Label) (name text : List ℕ) → IsLabelSet labels → value_of labels name ≡ Some text → (name ≢ []) × (text ≢ [])
set_filled [] name _ lawful e = let none = value_nil name in absurd cc
set_filled (l ∷ ls) name text lawful e = elim (same_or_not _ name) [
  | inl is ↦ let here : l.value ≡ text = (let hit = value_hit l ls _ is in cc) in (subst (λ n. n ≢ []) is lawful.0, subst (λ t. t ≢ []) here lawful.1)
  | inr not ↦ set_filled _ _ _ lawful.3 (sym (value_miss l _ _ not) ∙ e)
]

texts_same : (o p : Option (List ℕ)) → option_map string o ≡ option_map string p → o ≡ p
texts_same None None e = refl
texts_same (Some t) (Some u) e = cc
texts_same _ _ e = absurd cc

none_at : (o : Option (List ℕ)) → ((text : List ℕ) → o ≢ Some text) → o ≡ None
none_at None h = refl
none_at (Some t) h = absurd (h t refl)

members_only : (members : Members) (first labels : List Label) → IsLabelSet first → AreRead first labels members → labels_from first members ≡ Ok labels
unfolding labels_from
members_only no_members first labels lawful read = ap (λ ls. Ok ls) (same_sets _ _ lawful read.lawful (λ name. texts_same _ _ (or_none _ ∙ sym (read.same name))))
members_only (member name value others) first labels lawful read =
    let missed = none_at (value_of first name) (λ t e. some_not_none _ _ (member_hit name value others) (read.apart name t e)) in
    let t = option_map-Some string (value_of labels name) value (read.same name ∙ rw (missed, member_hit name value others) refl) in
    let full = set_filled labels name t.0 read.lawful t.1 in
    let more = more_read first name t.0 full.0 full.1 missed in
    let made = subst (λ v. label_added first name v ≡ Ok more.0) t.2 more.1 in
    let one = (more_found first name value lawful).holds more.0 made in
    rw made (members_only others more.0 labels one.lawful (read_less _ _ _ _ _ _ one read))

pub labels_read : IsReadAs (λ value. of_kind (codes "labels") (as_object value) >>= labels_from []) AreLabels
unfolding of_kind
labels_read = record {
  found = λ value. of_bind _ (object_members_found (codes "labels") value) (λ members is. of_weaker (λ labels read.
      record { members = members; is_object = is; differ = read.differ; lawful = read.lawful; same = λ name. sym (rw value_nil at (read.same name)) })
      (members_found members [] tt));
  only = λ are. rw are.is_object (members_only are.members [] _ tt (record {
    differ = are.differ;
    lawful = are.lawful;
    apart = λ name t e. absurd (some_not_none _ _ e (value_nil name));
    same = λ name. rw value_nil (sym (are.same name));
  }));
}
