-- What the matchers before a place left of numbers, and what is still to be left.
use Rattle.std.proofs.Common.{◌≡◌, ℕ, ◌+◌, ◌<◌, ◌≤◌, List, [], ◌∷◌, ◌++◌, length, take, take_all, drop, get_or, Result, Ok, Err, refl, sym, ap, ◌∙◌, add-one, drop-cons}
use Rattle.std.specs.List.{flat_map}
use Rattle.std.specs.List.Sorted.{IsStrictlyIncreasing}
use Rattle.std.proofs.lemmas.List.{drop_all, take_more}
use Rattle.std.proofs.lemmas.List.Concat.{flat_map-append}
use Rattle.std.proofs.lemmas.List.{append-nil}
use Rattle.base.specs.Reading.{◌>>=◌}
use Rattle.label_sets.specs.declared.label.Label.{Label}
use Rattle.label_sets.specs.Labels.{value_of}
use Rattle.matchers.specs.declared.matcher.Matcher.{Matcher}
use Rattle.index_parts.specs.declared.postings_row.PostingsRow.{PostingsRow}
use Rattle.index_v2.specs.declared.refusal.IndexRefusal.{IndexRefusal}
use Rattle.index_v2.specs.Held.{Held}
use Rattle.series_selection.specs.Selections.{deciding}
use Rattle.series_selection.specs.SelectionSteps.{left_by, left_at, ListsStand}
use Rattle.series_selection.proofs.Walk.{stand_same, stand_append}

pub record LeftSoFar (held : Held) (external : List Label) (matchers : List Matcher) (numbers : List ℕ) (place : ℕ) (left : List ℕ) : Type 0 where
  pub whole : left_at held external matchers numbers ≡ left_at held external (drop place matchers) left
  pub rise : IsStrictlyIncreasing left
  pub stand : ListsStand held (flat_map (deciding external held.rows) (take place matchers))

left_first : (held : Held) (external : List Label) (m : Matcher) (matchers : List Matcher) (numbers : List ℕ) → left_at held external (m ∷ matchers) numbers ≡ (left_by (value_of external m.name) held.lists held.rows m numbers >>= left_at held external matchers)
unfolding left_at
left_first held external m matchers numbers = refl

left_none : (held : Held) (external : List Label) (numbers : List ℕ) → left_at held external [] numbers ≡ Ok numbers
unfolding left_at
left_none held external numbers = refl

drop_here : (matchers : List Matcher) (place : ℕ) (m : Matcher) → place < length matchers → m ≡ get_or matchers place m → drop place matchers ≡ m ∷ drop (place + 1) matchers
drop_here matchers place m lt e = rw (add-one) (drop-cons matchers place m lt) ∙ ap (λ (x : Matcher). x ∷ drop (place + 1) matchers) (sym e)

module _ (held : Held) (external : List Label) (matchers : List Matcher) (numbers : List ℕ) (place : ℕ) (m : Matcher) (left : List ℕ) (far : LeftSoFar held external matchers numbers place left) (lt : place < length matchers) (here : m ≡ get_or matchers place m) where
  next_is : left_at held external matchers numbers ≡ (left_by (value_of external m.name) held.lists held.rows m left >>= left_at held external (drop (place + 1) matchers))
  next_is = far.whole ∙ ap (λ (ms : List Matcher). left_at held external ms left) (drop_here matchers place m lt here) ∙ left_first held external m (drop (place + 1) matchers) left

  pub left_more : (new : List ℕ) → left_by (value_of external m.name) held.lists held.rows m left ≡ Ok new → IsStrictlyIncreasing new → ListsStand held (deciding external held.rows m) → LeftSoFar held external matchers numbers (place + 1) new
  left_more new read rise stand = record {
    whole = next_is ∙ ap (λ (r : Result (List ℕ) IndexRefusal). r >>= left_at held external (drop (place + 1) matchers)) read;
    rise = rise;
    stand = stand_same held (flat_map (deciding external held.rows) (take place matchers) ++ deciding external held.rows m) (flat_map (deciding external held.rows) (take (place + 1) matchers))
        (sym (ap (flat_map (deciding external held.rows)) (take_more matchers place m lt ∙ ap (λ (x : Matcher). take place matchers ++ x ∷ []) (sym here)) ∙ flat_map-append (deciding external held.rows) (take place matchers) (m ∷ []) ∙ ap (λ (rows : List PostingsRow). flat_map (deciding external held.rows) (take place matchers) ++ rows) (append-nil (deciding external held.rows m))))
        (stand_append held (flat_map (deciding external held.rows) (take place matchers)) (deciding external held.rows m) far.stand stand);
  }

  pub left_refused : (e : IndexRefusal) → left_by (value_of external m.name) held.lists held.rows m left ≡ Err e → left_at held external matchers numbers ≡ Err e
  left_refused e refused = next_is ∙ ap (λ (r : Result (List ℕ) IndexRefusal). r >>= left_at held external (drop (place + 1) matchers)) refused

pub left_end : (held : Held) (external : List Label) (matchers : List Matcher) (numbers : List ℕ) (place : ℕ) (left : List ℕ) → LeftSoFar held external matchers numbers place left → length matchers ≤ place → left_at held external matchers numbers ≡ Ok left
left_end held external matchers numbers place left far le = far.whole ∙ ap (λ (ms : List Matcher). left_at held external ms left) (drop_all place matchers le) ∙ left_none held external left

pub left_stand : (held : Held) (external : List Label) (matchers : List Matcher) (numbers : List ℕ) (place : ℕ) (left : List ℕ) → LeftSoFar held external matchers numbers place left → length matchers ≤ place → ListsStand held (flat_map (deciding external held.rows) matchers)
left_stand held external matchers numbers place left far le = stand_same held _ _ (ap (flat_map (deciding external held.rows)) (take_all place matchers le)) far.stand
