-- What a selection comes to, from what its parts say.
use Rattle.std.proofs.Common.{◌≡◌, ℕ, Bool, true, false, not, List, [], ◌∷◌, Some, Result, Ok, Err, refl, sym, ap, subst, ◌∙◌, ◌⊎◌, inl, inr}
use Rattle.std.specs.Prelude.{IfOk, IfErr, OnOk, IsOk, MatchResult, is_some, take, if◌then◌else◌}
use Rattle.std.specs.List.{Contains, filter, flat_map}
use Rattle.std.specs.List.Sorted.{IsStrictlyIncreasing}
use Rattle.std.proofs.lemmas.List.Elements.{Contains-append_cases}
use Rattle.base.proofs.Membership.{contains_first, contains_later, no_member, only_member, of_filter, of_flat_map}
use Rattle.base.specs.Reading.{◌>>=◌, refused_as, Gives}
use Rattle.label_sets.specs.declared.label.Label.{Label}
use Rattle.label_sets.specs.Labels.{value_of}
use Rattle.matchers.specs.declared.matcher.Matcher.{Matcher}
use Rattle.matchers.specs.Selectors.{is_accepted}
use Rattle.matchers.specs.SelectorText.{named_replicas}
use Rattle.index_parts.specs.declared.postings_row.PostingsRow.{PostingsRow}
use Rattle.index_parts.specs.Postings.{IsNextPosting}
use Rattle.index_parts.specs.PostingsReading.{posting_at}
use Rattle.index_parts.proofs.ListLaws.{list_again}
use Rattle.index_parts.proofs.PostingsLaws.{posting_turn}
use Rattle.index_parts.specs.Parts.{Part, file, HoldsSection}
use Rattle.index_parts.specs.declared.index_series.IndexSeries.{IndexSeries}
use Rattle.index_parts.specs.Opened.{Opened}
use Rattle.index_parts.specs.IndexFile.{IsIndex}
use Rattle.index_v2.specs.declared.refusal.IndexRefusal.{IndexRefusal}
use Rattle.index_v2.specs.declared.refusal.IndexRefusal.TheVariants.{NoMemory}
use Rattle.index_v2.specs.Opening.{refused_in}
use Rattle.index_v2.specs.Held.{Held, opened_of, IsWhole, IsHeldOf}
use Rattle.index_v2.specs.PostingsLists.{list_of}
use Rattle.index_v2.specs.WholeReading.{lists_at}
use Rattle.index_v2.proofs.HeldLaws.{opened_whole}
use Rattle.index_v2.proofs.ReadersOf.{whole_holds}
use Rattle.index_v2.proofs.PostingsLaws.{opened_is}
use Rattle.series_selection.specs.Selections.{decides, deciding, rows_read, IsSelection, AreMatching}
use Rattle.series_selection.specs.SelectionSteps.{kept_numbers, numbers_at, left_by_rows, selected_at, ListsStand}
use Rattle.series_selection.proofs.Walk.{ok_same, stand_same, stand_append}
use Rattle.series_selection.proofs.Taking.{is_selection}
use Rattle.series_selection.proofs.Endings.{lists_same}
use Rattle.series_selection.proofs.Matching.{Stands, one_list, selection_matches}

-- ---- one matcher

pub rows_left : (part : Part) (rows : List PostingsRow) (m : Matcher) (numbers members listed seen left : List ℕ) (wanted : Bool) → numbers_at part (filter (decides m) rows) ≡ Ok listed → seen ≡ listed → members ≡ numbers → wanted ≡ not (is_accepted m.condition []) → left ≡ kept_numbers wanted seen members → left_by_rows part rows m numbers ≡ Ok left
unfolding left_by_rows
rows_left part rows m numbers members listed seen left wanted read s n w e =
    let made : left ≡ kept_numbers (not (is_accepted m.condition [])) listed numbers = e ∙ (λ i. kept_numbers (w i) (s i) (n i)) in
    ap (λ (r : Result (List ℕ) IndexRefusal). r >>= λ xs. Ok (kept_numbers (not (is_accepted m.condition [])) xs numbers)) read ∙ ap Ok (sym made)

pub rows_refused : (part : Part) (rows : List PostingsRow) (m : Matcher) (numbers : List ℕ) (e : IndexRefusal) → numbers_at part (filter (decides m) rows) ≡ Err e → left_by_rows part rows m numbers ≡ Err e
unfolding left_by_rows
rows_refused part rows m numbers e refused = rw refused refl

-- ---- all rows that are read

pub all_stand : (held : Held) (external : List Label) (selector matchers : List Matcher) (r : Result (List ℕ) IndexRefusal) → matchers ≡ selector → ListsStand held (take 1 held.rows) → OnOk r (ListsStand held (flat_map (deciding external held.rows) matchers)) → OnOk r (ListsStand held (rows_read external held.rows selector))
unfolding rows_read
all_stand held external selector matchers (Ok x) same first others = stand_append held (take 1 held.rows) (flat_map (deciding external held.rows) selector) first (stand_same held _ _ (ap (flat_map (deciding external held.rows)) same) others)
all_stand held external selector matchers (Err e) same first others = tt

pub first_row : (rows : List PostingsRow) (row : PostingsRow) → Contains (take 1 rows) row → Contains rows row
first_row [] row among = among
first_row (first ∷ rows) row among = subst (Contains (first ∷ rows)) (only_member first row among) (contains_first first rows)

deciding_row : (b : Bool) (m : Matcher) (rows : List PostingsRow) (row : PostingsRow) → Contains (if b then [] else filter (decides m) rows) row → Contains rows row
deciding_row true m rows row among = absurd (no_member row among)
deciding_row false m rows row among = of_filter (decides m) rows row among

pub read_rows : (external : List Label) (rows : List PostingsRow) (selector : List Matcher) (row : PostingsRow) → Contains (rows_read external rows selector) row → Contains rows row
unfolding rows_read
read_rows external rows selector row among = elim (Contains-append_cases (take 1 rows) (flat_map (deciding external rows) selector) row among) [
  | inl first ↦ first_row rows row first
  | inr other ↦ let o = of_flat_map (deciding external rows) selector row other in deciding_row (is_some (value_of external o.0.name)) o.0 rows row o.2
]

-- ---- the answer

ok_not_err : {A : Type 0} (r : Result A IndexRefusal) (e : IndexRefusal) → IsOk r → r ≡ Err e → ⊥
ok_not_err (Ok x) e ok h = cc
ok_not_err (Err d) e ok h = cc

ok_more : (r : Result (List (List ℕ)) IndexRefusal) (list : List ℕ) → IsOk r → IsOk (r >>= λ others. Ok (list ∷ others))
ok_more (Ok x) list ok = refl
ok_more (Err e) list ok = absurd cc

module _ (held : Held) (external : List Label) (selector : List Matcher) where
  pub selects : (r : Result (List ℕ) IndexRefusal) → Gives NoMemory (λ x. x) r (selected_at held external selector) → IfOk r IsStrictlyIncreasing → IfOk r (λ numbers. IsSelection (λ row listed. list_of held.lists (Some row) ≡ Ok listed) held.rows external selector numbers)
  selects (Ok numbers) given rise = is_selection (λ row listed. list_of held.lists (Some row) ≡ Ok listed) (λ row one other a b. ok_same one other (list_of held.lists (Some row)) a b) held external selector numbers rise (λ row among list e. e) given
  selects (Err e) given rise = tt

  pub found : (opened : Opened) → IsHeldOf held opened → (r : Result (List ℕ) IndexRefusal) → Gives NoMemory (λ x. x) r (selected_at held external selector) → IfOk r IsStrictlyIncreasing → OnOk r (ListsStand held (rows_read external held.rows selector)) → IfOk r (λ numbers. IsSelection (Stands opened.bytes) opened.rows external selector numbers)
  found opened is (Ok numbers) given rise stand = subst (λ (rows : List PostingsRow). IsSelection (Stands opened.bytes) rows external selector numbers) is.rows_are (is_selection (Stands opened.bytes) (one_list opened.bytes) held external selector numbers rise (stand opened is) given)
  found opened is (Err e) given rise stand = tt

  pub same : (opened : Opened) → IsHeldOf held opened → ((row : PostingsRow) → Contains (rows_read external held.rows selector) row → HoldsSection held.lists row.offset) → (r : Result (List ℕ) IndexRefusal) → IfErr r (λ e. (e ≡ NoMemory) ⊎ (lists_at held.lists (rows_read external held.rows selector) ≡ Err e)) → IfErr r (λ e. (e ≡ NoMemory) ⊎ (lists_at (file opened.bytes) (rows_read external opened.rows selector) ≡ Err e))
  same opened is lies (Ok x) why = tt
  same opened is lies (Err e) (inl out) = inl out
  same opened is lies (Err e) (inr refused) = inr (ap (λ (rows : List PostingsRow). lists_at (file opened.bytes) (rows_read external rows selector)) (sym is.rows_are) ∙ sym (lists_same held.lists opened.bytes (rows_read external held.rows selector) is.lists_are lies) ∙ refused)

  module _ (bytes : List ℕ) (list : List IndexSeries) (is : IsIndex bytes list) where
    lists_read : (rows : List PostingsRow) → ((row : PostingsRow) → Contains rows row → Contains is.opened.rows row) → IsOk (lists_at (file is.opened.bytes) rows)
    unfolding lists_at
    lists_read [] among = refl
    lists_read (row ∷ rows) among =
        let exact = is.rows_are row (among row (contains_first row rows)) in
        let here : list_of (file is.opened.bytes) (Some row) ≡ Ok exact.numbers = ap (refused_as (refused_in 5)) (list_again IsNextPosting posting_at posting_turn is.opened.bytes row.offset exact.numbers exact.stands) in
        let others = lists_read rows (λ other later. among other (contains_later row other rows later)) in
        rw here (ok_more (lists_at (file is.opened.bytes) rows) exact.numbers others)

    all_read : IsOk (lists_at (file is.opened.bytes) (rows_read external is.opened.rows selector))
    all_read = lists_read (rows_read external is.opened.rows selector) (read_rows external is.opened.rows selector)

    pub matching : (replicas : List (List ℕ)) → named_replicas replicas selector ≡ [] → (r : Result (List ℕ) IndexRefusal) → IfOk r (λ numbers. IsSelection (Stands is.opened.bytes) is.opened.rows external selector numbers) → IfOk r (λ numbers. AreMatching is.listed external replicas selector numbers)
    matching replicas none (Ok numbers) selection = selection_matches bytes list is external replicas selector numbers none selection
    matching replicas none (Err e) selection = tt

    pub wanting : (r : Result (List ℕ) IndexRefusal) → IfErr r (λ e. (e ≡ NoMemory) ⊎ (lists_at (file is.opened.bytes) (rows_read external is.opened.rows selector) ≡ Err e)) → IfErr r (λ e. e ≡ NoMemory)
    wanting (Ok x) why = tt
    wanting (Err e) (inl out) = out
    wanting (Err e) (inr refused) = absurd (ok_not_err (lists_at (file is.opened.bytes) (rows_read external is.opened.rows selector)) e all_read refused)

  -- ---- of a whole file

  whole_refused : IsWhole held → (r : Result (List ℕ) IndexRefusal) → IfErr r (λ e. (e ≡ NoMemory) ⊎ (lists_at held.lists (rows_read external held.rows selector) ≡ Err e)) → IfErr r (λ e. (e ≡ NoMemory) ⊎ (lists_at (file held.bytes) (rows_read external held.rows selector) ≡ Err e))
  whole_refused whole (Ok x) why = tt
  whole_refused whole (Err e) (inl out) = inl out
  whole_refused whole (Err e) (inr refused) = inr (ap (λ (p : Part). lists_at p (rows_read external held.rows selector)) (sym whole.lists_are) ∙ refused)

  both : (P : List ℕ → Type 0) (r : Result (List ℕ) IndexRefusal) → IfOk r P → IfErr r (λ e. e ≡ NoMemory) → MatchResult r P (λ e. e ≡ NoMemory)
  both P (Ok x) one other = one
  both P (Err e) one other = other

  pub agrees : IsWhole held → (list : List IndexSeries) (is : IsIndex held.bytes list) (replicas : List (List ℕ)) → named_replicas replicas selector ≡ [] → (r : Result (List ℕ) IndexRefusal) → Gives NoMemory (λ x. x) r (selected_at held external selector) → IfOk r IsStrictlyIncreasing → OnOk r (ListsStand held (rows_read external held.rows selector)) → IfErr r (λ e. (e ≡ NoMemory) ⊎ (lists_at held.lists (rows_read external held.rows selector) ≡ Err e))
      → MatchResult r (λ numbers. AreMatching is.listed external replicas selector numbers) (λ e. e ≡ NoMemory)
  agrees whole list is replicas none r given rise stand refused =
      let one : is.opened ≡ opened_of held = opened_is (opened_of held) (opened_whole held whole) list is in
      let of_it : IsHeldOf held is.opened = subst (IsHeldOf held) (sym one) (whole_holds held whole) in
      let why = whole_refused whole r refused in
      let P : Opened → Type 0 = λ o. IfErr r (λ e. (e ≡ NoMemory) ⊎ (lists_at (file o.bytes) (rows_read external o.rows selector) ≡ Err e)) in
      both (λ numbers. AreMatching is.listed external replicas selector numbers) r
      (matching held.bytes list is replicas none r (found is.opened of_it r given rise stand))
      (wanting held.bytes list is r (subst P (sym one) why))
