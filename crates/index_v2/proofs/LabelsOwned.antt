-- Labels of a set, added one after another.
use Rattle.std.proofs.Common.{◌≡◌, ◌≢◌, ℕ, suc, ◌+◌, ◌<◌, ◌≤◌, false, List, [], ◌∷◌, ◌++◌, length, drop, get_or, take, map, None, Ok, refl, sym, ap, ◌∙◌, subst, arith, add-one, drop-cons}
use Rattle.std.specs.Prelude.{◌==◌, IsOk}
use Rattle.std.proofs.lemmas.Bool.{ne_eqb}
use Rattle.std.proofs.lemmas.List.{map_more, map-append, take_all, take-append-drop}
use Rattle.base.proofs.Bools.{is_lt-from_Less}
use Rattle.base.proofs.Binds.{ok_is}
use Rattle.label_sets.specs.declared.label.Label.{Label}
use Rattle.label_sets.specs.declared.label_refusal.LabelRefusal.{LabelRefusal}
use Rattle.label_sets.specs.Ordered.{placed}
use Rattle.label_sets.specs.Labels.{compare_texts, ComesBefore, IsLabelSet, value_of, has_lesser_name, added}
use Rattle.label_sets.proofs.LabelValues.{before_differs, value_miss, value_nil, stands_before_member}
use Rattle.index_v2.specs.declared.lent_series.LentLabel.{LentLabel}
use Rattle.index_v2.specs.LentLabels.{as_label}

-- each of the labels has a name before this one
abbrev pub AllBefore : List ℕ → List Label → Type 0
AllBefore name [] = Unit {0}
AllBefore name (l ∷ ls) = ComesBefore l.name name × AllBefore name ls

pub no_value : (ls : List Label) (name : List ℕ) → AllBefore name ls → value_of ls name ≡ None
no_value [] _ all = value_nil _
no_value (l ∷ ls) _ all = value_miss l _ _ (before_differs _ _ all.0) ∙ no_value _ _ all.1

pub placed_last : (ls : List Label) (l : Label) → AllBefore l.name ls → placed has_lesser_name l ls ≡ ls ++ l ∷ []
unfolding placed
placed_last [] l all = refl
placed_last (m ∷ ls) l all = rw (is_lt-from_Less (compare_texts m.name l.name) all.0, placed_last ls l all.1) refl

pub some_bytes : (text : List ℕ) → text ≢ [] → (length text == 0) ≡ false
some_bytes [] h = absurd (h refl)
some_bytes (b ∷ text) h = ne_eqb (suc (length text)) 0 (omega arith)

-- a label of a set: all before it have lesser names, and neither of its texts is empty
record IsInside (front : List Label) (l : Label) : Type 0 where
  behind : AllBefore l.name front
  named : l.name ≢ []
  valued : l.value ≢ []

inside : (front : List Label) (l : Label) (after : List Label) → IsLabelSet (front ++ l ∷ after) → IsInside front l
inside [] l _ is = record { behind = tt; named = is.0; valued = is.1 }
inside (m ∷ front) l after is =
    let others = inside front l _ is.3 in
    record { behind = (stands_before_member m.name front l after is.2, others.behind); named = others.named; valued = others.valued }

-- the next label of a set is added behind those before it
added_next : (front : List Label) (l : Label) (after : List Label) → IsLabelSet (front ++ l ∷ after) → added front l.name l.value ≡ Ok (front ++ l ∷ [])
unfolding added
added_next front l _ is =
    let i = inside _ l _ is in
    rw (some_bytes l.name i.named, some_bytes l.value i.valued, no_value front l.name i.behind, placed_last front l i.behind) refl

split_at : (labels : List LentLabel) (i : ℕ) (d : LentLabel) → i < length labels → map as_label labels ≡ map as_label (take i labels) ++ as_label (get_or labels i d) ∷ map as_label (drop (i + 1) labels)
split_at labels i d lt = ap (map as_label) (sym (take-append-drop i labels) ∙ ap (λ (xs : List LentLabel). take i labels ++ xs) (rw add-one (drop-cons labels i d lt))) ∙ map-append as_label (take i labels) (get_or labels i d ∷ drop (i + 1) labels)

module _ (labels : List LentLabel) (place : ℕ) (d label : LentLabel) (old : List Label) (is : IsLabelSet (map as_label labels)) (far : old ≡ map as_label (take place labels)) (lt : place < length labels) (at : label ≡ get_or labels place d) where
  added_here : added old label.name.now label.value.now ≡ Ok (map as_label (take place labels) ++ as_label label ∷ [])
  added_here =
      let lawful = subst IsLabelSet (split_at _ _ d lt ∙ ap (λ l. map as_label (take place labels) ++ as_label l ∷ map as_label (drop (place + 1) labels)) (sym at)) is in
      ap (λ o. added o label.name.now label.value.now) far ∙ added_next (map as_label (take place labels)) (as_label label) (map as_label (drop (place + 1) labels)) lawful

  pub has_room : IsOk (added old label.name.now label.value.now)
  has_room = subst IsOk (sym added_here) refl

  pub copied_step : (next : ℕ) (new : List Label) → next ≡ place + 1 → added old label.name.now label.value.now ≡ Ok new → new ≡ map as_label (take next labels)
  copied_step next new n adds =
      ok_is {E = LabelRefusal} _ _ (sym adds ∙ added_here)
      ∙ ap (λ l. map as_label (take place labels) ++ as_label l ∷ []) at ∙ sym (map_more as_label _ _ d lt) ∙ ap (λ m. map as_label (take m labels)) (sym n)

pub copied_end : (labels : List LentLabel) (place : ℕ) (set : List Label) → set ≡ map as_label (take place labels) → length labels ≤ place → set ≡ map as_label labels
copied_end labels place _ far le = far ∙ ap (map as_label) (take_all place labels le)
