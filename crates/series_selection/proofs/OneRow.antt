-- The one row that decides for a matcher with one text.
use Rattle.std.proofs.Common.{◌≡◌, ℕ, Bool, true, false, not, ◌&&◌, List, [], ◌∷◌, ◌++◌, Option, Some, None, Result, Ok, Err, refl, sym, ap, subst, ◌∙◌, inl, inr, ◌⊎◌}
use Rattle.std.specs.Prelude.{slice_get, IfOk, IfErr, IfSome, OnOk}
use Rattle.std.specs.List.{filter}
use Rattle.std.specs.List.Sorted.{IsStrictlyIncreasing}
use Rattle.std.specs.Str.{bytes_eq}
use Rattle.std.proofs.lemmas.List.{append-nil}
use Rattle.std.proofs.lemmas.List.Elements.{filter_agree}
use Rattle.base.specs.Reading.{Gives}
use Rattle.label_sets.proofs.LabelValues.{bytes_eq_differs}
use Rattle.matchers.specs.declared.condition.Condition.{Condition}
use Rattle.matchers.specs.declared.condition.Condition.TheVariants.{Equal, NotEqual}
use Rattle.matchers.specs.declared.matcher.Matcher.{Matcher}
use Rattle.matchers.specs.Selectors.{is_accepted}
use Rattle.index_parts.specs.declared.postings_row.PostingsRow.{PostingsRow}
use Rattle.index_v2.specs.declared.refusal.IndexRefusal.{IndexRefusal}
use Rattle.index_v2.specs.declared.refusal.IndexRefusal.TheVariants.{NoMemory}
use Rattle.index_v2.specs.Held.{Held}
use Rattle.index_parts.specs.RowOrder.{IsAlone}
use Rattle.index_v2.specs.PostingsLists.{is_row_of, list_of}
use Rattle.series_selection.specs.Selections.{decides}
use Rattle.series_selection.specs.SelectionSteps.{numbers_at, ListsStand, IsReadOn, IsDecidedBy}
use Rattle.series_selection.proofs.NumbersRead.{numbers_none, numbers_with, numbers_refused}
use Rattle.series_selection.proofs.Walk.{stand_none, stand_same, stand_one, alone_rises}

-- ---- no row

module _ (held : Held) (passes : PostingsRow → Bool) (none : filter passes held.rows ≡ []) where
  pub nothing_given : (numbers : List ℕ) → numbers ≡ [] → numbers_at held.lists (filter passes held.rows) ≡ Ok numbers
  nothing_given numbers e = ap (numbers_at held.lists) none ∙ numbers_none held.lists ∙ ap Ok (sym e)

  pub nothing_stands : ListsStand held (filter passes held.rows)
  nothing_stands = stand_same held [] (filter passes held.rows) (sym none) (stand_none held)

-- ---- one row

module _ (held : Held) (passes : PostingsRow → Bool) (place : ℕ) (alone : IsAlone passes held.rows place) (before : List ℕ) (none : before ≡ []) where
  list_read : (list : List ℕ) → list_of held.lists (slice_get held.rows place) ≡ Ok list → list_of held.lists (Some alone.row) ≡ Ok list
  list_read list read = ap (list_of held.lists) (sym alone.stands) ∙ read

  row_given : (numbers : List ℕ) → IsReadOn held place before numbers → numbers_at held.lists (filter passes held.rows) ≡ Ok numbers
  row_given numbers r =
      ap (numbers_at held.lists) alone.only ∙ numbers_with held.lists alone.row [] r.list [] (list_read r.list r.list_is) (numbers_none held.lists)
      ∙ ap Ok (append-nil r.list ∙ sym (r.numbers_are ∙ ap (λ (xs : List ℕ). xs ++ r.list) none))

  row_refused : (e : IndexRefusal) → list_of held.lists (slice_get held.rows place) ≡ Err e → numbers_at held.lists (filter passes held.rows) ≡ Err e
  row_refused e refused = ap (numbers_at held.lists) alone.only ∙ numbers_refused held.lists [] alone.row [] [] e (numbers_none held.lists) (ap (list_of held.lists) (sym alone.stands) ∙ refused)

  row_stands : (numbers : List ℕ) → IsReadOn held place before numbers → ListsStand held (filter passes held.rows)
  row_stands numbers r = stand_same held (alone.row ∷ []) (filter passes held.rows) (sym alone.only)
      (stand_one held alone.row r.list (list_read r.list r.list_is) (λ opened is. r.stands opened is alone.row (ap (λ (rows : List PostingsRow). slice_get rows place) (sym is.rows_are) ∙ alone.stands)))

  module _ {X : Type 0} (numbers : X → List ℕ) where
    pub given_by : (result : Result X IndexRefusal) → IfOk result (λ x. IsReadOn held place before (numbers x)) → IfErr result (λ e. (e ≡ NoMemory) ⊎ (list_of held.lists (slice_get held.rows place) ≡ Err e)) → Gives NoMemory numbers result (numbers_at held.lists (filter passes held.rows))
    given_by (Ok x) read refused = row_given (numbers x) read
    given_by (Err e) read (inl out) = inl out
    given_by (Err e) read (inr refused) = inr (row_refused e refused)

    pub rises_by : (result : Result X IndexRefusal) → IfOk result (λ x. IsReadOn held place before (numbers x)) → IfOk result (λ x. IsStrictlyIncreasing (numbers x))
    rises_by (Ok x) read = alone_rises held place before (numbers x) read none
    rises_by (Err e) read = tt

    pub stands_by : (result : Result X IndexRefusal) → IfOk result (λ x. IsReadOn held place before (numbers x)) → OnOk result (ListsStand held (filter passes held.rows))
    stands_by (Ok x) read = row_stands (numbers x) read
    stands_by (Err e) read = tt

-- ---- which row it is

pub same_rows : (m : Matcher) (text : List ℕ) (wanted : Bool) (rows : List PostingsRow) → IsDecidedBy m.condition text wanted → filter (is_row_of m.name text) rows ≡ filter (decides m) rows
same_rows m text wanted rows is = filter_agree (is_row_of m.name text) (decides m) (λ row. ap (λ (b : Bool). bytes_eq row.name m.name && b) (sym (is.decides_it row.value))) rows

pub equal_decides : (text : List ℕ) → (text ≡ [] → ⊥) → IsDecidedBy (Equal text) text true
unfolding is_accepted
equal_decides text some =
    let other : bytes_eq [] text ≡ false = bytes_eq_differs [] text (λ e. some (sym e)) in
    record { wanted_is = rw other refl; decides_it = λ value. rw other refl }

not_twice : (b : Bool) → not (not b) ≡ b
not_twice true = refl
not_twice false = refl

pub differs_decides : (text : List ℕ) → (text ≡ [] → ⊥) → IsDecidedBy (NotEqual text) text false
unfolding is_accepted
differs_decides text some =
    let other : bytes_eq [] text ≡ false = bytes_eq_differs [] text (λ e. some (sym e)) in
    record { wanted_is = rw other refl; decides_it = λ value. rw other (not_twice (bytes_eq value text)) }

pub named_rows : (m : Matcher) (name text : List ℕ) (wanted : Bool) (rows : List PostingsRow) → name ≡ m.name → IsDecidedBy m.condition text wanted → filter (is_row_of name text) rows ≡ filter (decides m) rows
named_rows m name text wanted rows same is = ap (λ (n : List ℕ). filter (is_row_of n text) rows) same ∙ same_rows m text wanted rows is

module _ {X : Type 0} (shown : X → List ℕ) (wanted : X → Bool) where
  pub equal_found : (r : Option X) (condition : Condition) (text : List ℕ) → condition ≡ Equal text → IfSome r (λ one. shown one ≡ text) → IfSome r (λ one. wanted one ≡ true) → IfSome r (λ one. text ≡ [] → ⊥) → IfSome r (λ one. IsDecidedBy condition (shown one) (wanted one))
  equal_found None condition text is s w some = tt
  equal_found (Some x) condition text is s w some = subst (λ (k : Condition). IsDecidedBy k (shown x) (wanted x)) (sym is) (subst (λ (t : List ℕ). IsDecidedBy (Equal text) t (wanted x)) (sym s) (subst (IsDecidedBy (Equal text) text) (sym w) (equal_decides text some)))

  pub differs_found : (r : Option X) (condition : Condition) (text : List ℕ) → condition ≡ NotEqual text → IfSome r (λ one. shown one ≡ text) → IfSome r (λ one. wanted one ≡ false) → IfSome r (λ one. text ≡ [] → ⊥) → IfSome r (λ one. IsDecidedBy condition (shown one) (wanted one))
  differs_found None condition text is s w some = tt
  differs_found (Some x) condition text is s w some = subst (λ (k : Condition). IsDecidedBy k (shown x) (wanted x)) (sym is) (subst (λ (t : List ℕ). IsDecidedBy (NotEqual text) t (wanted x)) (sym s) (subst (IsDecidedBy (NotEqual text) text) (sym w) (differs_decides text some)))
