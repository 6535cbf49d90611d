-- The walk over the rows of a matcher's name: what is marked of the lists of the rows before a place.
use Rattle.std.proofs.Common.{◌≡◌, ◌≢◌, ℕ, ◌+◌, ◌≤◌, Bool, true, false, List, [], ◌++◌, length, Option, Some, Err, refl, ap, ◌∙◌}
use Rattle.std.specs.Prelude.{slice_get}
use Rattle.std.specs.List.{filter}
use Rattle.std.specs.List.Sorted.{IsStrictlySortedBy}
use Rattle.matchers.specs.declared.matcher.Matcher.{Matcher}
use Rattle.index_parts.specs.declared.postings_row.PostingsRow.{PostingsRow}
use Rattle.index_parts.specs.RowOrder.{BeginsAt}
use Rattle.index_parts.specs.Rows.{compare_rows}
use Rattle.index_v2.specs.declared.refusal.IndexRefusal.{IndexRefusal}
use Rattle.index_v2.specs.Held.{Held}
use Rattle.index_v2.specs.PostingsLists.{list_of}
use Rattle.series_selection.specs.Selections.{decides}
use Rattle.series_selection.specs.SelectionSteps.{numbers_at, marks_of, AreMarked, ListsStand, IsReadOn}
use Rattle.series_selection.proofs.Walk.{ReadSoFar, AllRead, walk_start, walk_stop, walk_end, passed, went_on, stopped}

pub record RowsMarked (held : Held) (m : Matcher) (first place : ℕ) (numbers : List ℕ) (marks : List Bool) : Type 0 where
  pub listed : List ℕ
  pub far : ReadSoFar held m first place listed
  pub marks_are : marks ≡ marks_of listed numbers

module _ (held : Held) (m : Matcher) (first : ℕ) (numbers : List ℕ) where
  pub rows_start : (marks : List Bool) → marks ≡ marks_of [] numbers → BeginsAt held.rows m.name first → RowsMarked held m first first numbers marks
  rows_start marks e begins = record { listed = []; far = walk_start held m first [] refl begins; marks_are = e }

  module _ (place : ℕ) (marks : List Bool) (row : PostingsRow) (so_far : RowsMarked held m first place numbers marks) (at : ◌≡◌ {A = Option PostingsRow} (Some row) (slice_get held.rows place)) where
    pub rows_past : (new : List Bool) → decides m row ≡ false → new ≡ marks → RowsMarked held m first (place + 1) numbers new
    rows_past new not_it e = record { listed = so_far.listed; far = passed held m first place so_far.listed row so_far.far at so_far.listed not_it refl; marks_are = e ∙ so_far.marks_are }

    pub rows_on : (new : List Bool) (list seen : List ℕ) → decides m row ≡ true → IsReadOn held place [] list → seen ≡ list → ((full : List ℕ) → marks ≡ marks_of full numbers → new ≡ marks_of (full ++ seen) numbers) → RowsMarked held m first (place + 1) numbers new
    rows_on new list seen it r same put = record {
      listed = so_far.listed ++ r.list;
      far = went_on held m first place so_far.listed row so_far.far at (so_far.listed ++ r.list) it (record { list = r.list; list_is = r.list_is; numbers_are = refl; rises = r.rises; stands = r.stands });
      marks_are = put so_far.listed so_far.marks_are ∙ ap (λ (l : List ℕ). marks_of (so_far.listed ++ l) numbers) (same ∙ r.numbers_are);
    }

    pub rows_stopped : (e : IndexRefusal) → decides m row ≡ true → list_of held.lists (slice_get held.rows place) ≡ Err e → numbers_at held.lists (filter (decides m) held.rows) ≡ Err e
    rows_stopped e it refused = stopped held m first place so_far.listed row so_far.far at e it refused

  all_marked : (marks : List Bool) (listed : List ℕ) → AllRead held m listed → marks ≡ marks_of listed numbers → AreMarked held.lists (filter (decides m) held.rows) numbers marks
  all_marked marks listed all e = record { listed = listed; read = all.read; marks_are = e }

  module _ (place : ℕ) (marks : List Bool) (so_far : RowsMarked held m first place numbers marks) where
    pub rows_stop : (row : PostingsRow) → IsStrictlySortedBy compare_rows held.rows → BeginsAt held.rows m.name first → slice_get held.rows place ≡ Some row → row.name ≢ m.name → AreMarked held.lists (filter (decides m) held.rows) numbers marks × ListsStand held (filter (decides m) held.rows)
    rows_stop row ascend begins at other =
        let all = walk_stop held m first place so_far.listed row ascend begins so_far.far at other in
        (all_marked marks so_far.listed all so_far.marks_are, all.stand)

    pub rows_end : length held.rows ≤ place → AreMarked held.lists (filter (decides m) held.rows) numbers marks × ListsStand held (filter (decides m) held.rows)
    rows_end le =
        let all = walk_end held m first place so_far.listed so_far.far le in
        (all_marked marks so_far.listed all so_far.marks_are, all.stand)
