-- In an index of a list of series a selector takes exactly the series whose final labels match.
use Rattle.std.proofs.Common.{◌≡◌, ℕ, ◌<◌, Bool, true, false, cond, List, [], ◌∷◌, map, Option, Some, None, Result, Ok, refl, sym, ap, subst, ◌∙◌, inl, inr, arith}
use Rattle.std.specs.Prelude.{IsTrue, IsFalse, ◌↔◌, unwrap_or}
use Rattle.std.specs.List.{All, Contains, list_all}
use Rattle.std.specs.List.Sorted.{IsStrictlyIncreasing}
use Rattle.std.specs.Option.{option_or}
use Rattle.std.proofs.lemmas.Bool.{and_parts, and_from}
use Rattle.std.proofs.lemmas.List.Elements.{All-nil, All-cons, All-head, All-tail}
use Rattle.base.proofs.Membership.{no_member, of_map, into_map, member_cases}
use Rattle.base.proofs.Rising.{rest_rises}
use Rattle.base.proofs.Bools.{not_both}
use Rattle.label_sets.specs.declared.label.Label.{Label}
use Rattle.label_sets.specs.Labels.{value_of, IsLabelSet, StandsBefore, ComesBefore}
use Rattle.label_sets.specs.Finals.{final_of, is_among}
use Rattle.label_sets.proofs.FinalLabels.{value_of-final}
use Rattle.label_sets.proofs.LabelValues.{by_bool, value_hit, value_miss, value_nil, before_differs}
use Rattle.label_sets.proofs.SetLaws.{value_in}
use Rattle.matchers.specs.declared.matcher.Matcher.{Matcher}
use Rattle.matchers.specs.Selectors.{is_accepted, accepts, is_match, value_or_empty}
use Rattle.matchers.specs.SelectorText.{named_replicas}
use Rattle.index_parts.specs.declared.postings_row.PostingsRow.{PostingsRow}
use Rattle.index_parts.specs.Postings.{IsNextPosting, IsPostings}
use Rattle.index_parts.specs.PostingsReading.{posting_at, postings_at}
use Rattle.index_parts.proofs.ListLaws.{list_again}
use Rattle.index_parts.proofs.PostingsLaws.{posting_turn}
use Rattle.index_parts.specs.declared.index_series.IndexSeries.{IndexSeries}
use Rattle.index_parts.specs.IndexFile.{IsIndex, AreListed, BelongsTo}
use Rattle.index_v2.proofs.Apart.{above_first}
use Rattle.index_v2.proofs.ListNumbers.{listed_rises}
use Rattle.series_selection.specs.Selections.{HasNumber, IsListed, StandsUnder, TakesByRows, TakesBy, IsSelection, AreMatching}
use Rattle.series_selection.proofs.Taking.{taken_apart, apart_taken, taken_among, among_taken}

-- ---- labels of a set

stands_before : (name : List ℕ) (ls : List Label) (l : Label) → StandsBefore name ls → Contains ls l → ComesBefore name l.name
stands_before name [] l stands among = absurd (no_member l among)
stands_before name (m ∷ ls) l stands among = elim (member_cases m l ls among) [
  | inl same ↦ subst (λ (x : Label). ComesBefore name x.name) same stands.0
  | inr later ↦ stands_before name ls l stands.1 later
]

value_is : (ls : List Label) (l : Label) → IsLabelSet ls → Contains ls l → value_of ls l.name ≡ Some l.value
value_is [] l is among = absurd (no_member l among)
value_is (m ∷ ls) l is among = elim (member_cases m l ls among) [
  | inl same ↦ subst (λ (x : Label). value_of (m ∷ ls) x.name ≡ Some x.value) same (value_hit m ls m.name refl)
  | inr later ↦ value_miss m ls l.name (before_differs m.name l.name (stands_before m.name ls l is.2 later)) ∙ value_is ls l is.3 later
]

no_empty_name : (ls : List Label) → IsLabelSet ls → value_of ls [] ≡ None
no_empty_name [] is = value_nil []
no_empty_name (l ∷ ls) is = value_miss l ls [] is.0 ∙ no_empty_name ls is.3

-- ---- numbers of a list that ascends stand for one series each

abbrev pub first_of : ℕ × IndexSeries → ℕ
first_of one = one.0

one_series : (listed : List (ℕ × IndexSeries)) (number : ℕ) (one other : IndexSeries) → IsStrictlyIncreasing (map first_of listed) → Contains listed (number, one) → Contains listed (number, other) → one ≡ other
one_series [] number one other rise a b = absurd (no_member (number, one) a)
one_series (head ∷ listed) number one other rise a b =
    let no_later : (series : IndexSeries) (late : IndexSeries) → head ≡ (number, series) → Contains listed (number, late) → ⊥ = λ series late same later.
    let far : head.0 < number = above_first head.0 (map first_of listed) number rise (into_map first_of listed (number, late) later) in
    let here : head.0 ≡ number = ap first_of same in omega arith
    in
    elim (member_cases head (number, one) listed a) [
      | inl here ↦ elim (member_cases head (number, other) listed b) [
        | inl there ↦ ap (λ (p : ℕ × IndexSeries). p.1) (sym here ∙ there)
        | inr later ↦ absurd (no_later one other here later)
      ]
      | inr late ↦ elim (member_cases head (number, other) listed b) [
        | inl there ↦ absurd (no_later other one there late)
        | inr later ↦ one_series listed number one other (rest_rises head.0 (map first_of listed) rise) late later
      ]
    ]

-- ---- postings

abbrev pub Stands : List ℕ → PostingsRow → List ℕ → Type 0
Stands index row numbers = IsPostings index row.offset numbers

same_read : (one other : List ℕ) {E : Type 0} (r : Result (List ℕ) E) → r ≡ Ok one → r ≡ Ok other → one ≡ other
same_read one other r a b = cc

pub one_list : (index : List ℕ) (row : PostingsRow) (one other : List ℕ) → Stands index row one → Stands index row other → one ≡ other
one_list index row one other a b = same_read one other (postings_at index row.offset) (list_again IsNextPosting posting_at posting_turn index row.offset one a) (list_again IsNextPosting posting_at posting_turn index row.offset other b)

module _ (index : List ℕ) (numbers : List ℕ) (number : ℕ) where
  first_has : (rows : List PostingsRow) → AreListed index rows numbers → Contains numbers number → IsListed (Stands index) rows number
  first_has [] are has = absurd (no_member number (subst (λ (xs : List ℕ). Contains xs number) are has))
  first_has (row ∷ rows) are has = record { first = row; others = rows; begins = refl; listed = record { numbers = numbers; list_is = are; has = has } }

  has_first : (rows : List PostingsRow) → AreListed index rows numbers → IsListed (Stands index) rows number → Contains numbers number
  has_first [] are is = let no = is.begins in absurd cc
  has_first (row ∷ rows) are is =
      let begins = is.begins in
      let has = is.listed in
      let first : is.first ≡ row = cc in
      let same : has.numbers ≡ numbers = one_list index row has.numbers numbers (subst (λ (r : PostingsRow). Stands index r has.numbers) first has.list_is) are in
      subst (λ (xs : List ℕ). Contains xs number) same has.has

-- ---- tests

nothing_named : (b : Bool) (name : List ℕ) (names : List (List ℕ)) → cond b (name ∷ names) names ≡ [] → (b ≡ false) × (names ≡ [])
nothing_named true name names e = absurd cc
nothing_named false name names e = (refl, e)

not_named : (replicas : List (List ℕ)) (m : Matcher) (selector : List Matcher) → named_replicas replicas (m ∷ selector) ≡ [] → (is_among replicas m.name ≡ false) × (named_replicas replicas selector ≡ [])
not_named replicas m selector e = nothing_named (is_among replicas m.name) m.name (named_replicas replicas selector) e

-- ---- an index of a list

module _ (bytes : List ℕ) (list : List IndexSeries) (is : IsIndex bytes list) where
  pub row_has : (row : PostingsRow) (number : ℕ) → Contains is.opened.rows row → HasNumber (Stands is.opened.bytes) row number → (series : IndexSeries) × Contains is.listed (number, series) × BelongsTo row series
  row_has row number among has =
      let exact = is.rows_are row among in
      exact.only number (subst (λ (xs : List ℕ). Contains xs number) (one_list is.opened.bytes row has.numbers exact.numbers has.list_is exact.stands) has.has)

  has_row : (row : PostingsRow) (number : ℕ) (series : IndexSeries) → Contains is.opened.rows row → Contains is.listed (number, series) → BelongsTo row series → HasNumber (Stands is.opened.bytes) row number
  has_row row number series among has belongs =
      let exact = is.rows_are row among in
      record { numbers = exact.numbers; list_is = exact.stands; has = exact.all number series has belongs }

  of_listed : (number : ℕ) → IsListed (Stands is.opened.bytes) is.opened.rows number → (series : IndexSeries) × Contains is.listed (number, series)
  of_listed number listed =
      let m = of_map first_of is.listed number (has_first is.opened.bytes (map first_of is.listed) number is.opened.rows is.series_are.numbers_are listed) in
      (m.0.1, subst (λ (n : ℕ). Contains is.listed (n, m.0.1)) m.2 m.1)

  into_listed : (number : ℕ) (series : IndexSeries) → Contains is.listed (number, series) → IsListed (Stands is.opened.bytes) is.opened.rows number
  into_listed number series has = first_has is.opened.bytes (map first_of is.listed) number is.opened.rows is.series_are.numbers_are (into_map first_of is.listed (number, series) has)

  module _ (number : ℕ) (series : IndexSeries) (has : Contains is.listed (number, series)) (m : Matcher) where
    is_set : IsLabelSet series.labels
    is_set = (is.series_are.stand number series has).lawful

    -- each row of the name that has the number has the series' value, the empty one where the series has no such label
    pub row_value : (row : PostingsRow) → Contains is.opened.rows row → row.name ≡ m.name → HasNumber (Stands is.opened.bytes) row number → row.value ≡ unwrap_or (value_of series.labels m.name) []
    row_value row among name numbered =
        let found = row_has row number among numbered in
        let same : found.0 ≡ series = one_series is.listed number found.0 series (listed_rises is.opened.bytes is.opened.rows (map first_of is.listed) is.series_are.numbers_are) found.1 has in
        elim (subst (BelongsTo row) same found.2) [
          | inl empty ↦ empty.1 ∙ sym (ap (λ (o : Option (List ℕ)). unwrap_or o []) (ap (value_of series.labels) (sym name ∙ empty.0) ∙ no_empty_name series.labels is_set))
          | inr labelled ↦ sym (ap (λ (o : Option (List ℕ)). unwrap_or o []) (ap (value_of series.labels) (sym name) ∙ value_is series.labels (record { name = row.name; value = row.value }) is_set labelled))
        ]

    -- the series stands under its own value
    stands_under : (Holds : List ℕ → Type 0) (value : List ℕ) → value_of series.labels m.name ≡ Some value → Holds value → StandsUnder (Stands is.opened.bytes) is.opened.rows m.name Holds number
    stands_under Holds value e holds =
        let labelled = value_in series.labels m.name value e in
        let row = is.complete number series has (record { name = m.name; value = value }) labelled in
        let belongs : BelongsTo row.0 series = inr (subst (Contains series.labels) (λ i. record { name = sym row.2 i; value = sym row.3 i }) labelled) in
        record { row = row.0; among = row.1; name_is = row.2; holds = subst Holds (sym row.3) holds; listed = has_row row.0 number series row.1 has belongs }

    refused_under : (o : Option (List ℕ)) → value_of series.labels m.name ≡ o → is_accepted m.condition [] ≡ true → is_accepted m.condition (unwrap_or o []) ≡ false → StandsUnder (Stands is.opened.bytes) is.opened.rows m.name (λ value. IsFalse (is_accepted m.condition value)) number
    refused_under None e empty refused = absurd (not_both (is_accepted m.condition []) empty refused)
    refused_under (Some value) e empty refused = stands_under (λ v. IsFalse (is_accepted m.condition v)) value e refused

    accepted_under : (o : Option (List ℕ)) → value_of series.labels m.name ≡ o → is_accepted m.condition [] ≡ false → is_accepted m.condition (unwrap_or o []) ≡ true → StandsUnder (Stands is.opened.bytes) is.opened.rows m.name (λ value. IsTrue (is_accepted m.condition value)) number
    accepted_under None e empty accepted = absurd (not_both (is_accepted m.condition []) accepted empty)
    accepted_under (Some value) e empty accepted = stands_under (λ v. IsTrue (is_accepted m.condition v)) value e accepted

    by_own : (o : Option (List ℕ)) → value_of series.labels m.name ≡ o → TakesByRows (Stands is.opened.bytes) is.opened.rows m number ↔ IsTrue (is_accepted m.condition (unwrap_or o []))
    by_own o e = by_bool (is_accepted m.condition [])
        (λ empty. (
          λ takes. by_bool (is_accepted m.condition (unwrap_or o [])) (λ yes. yes) (λ refused. absurd (apart_taken (Stands is.opened.bytes) is.opened.rows m number empty takes (refused_under o e empty refused))),
          λ accepted. taken_apart (Stands is.opened.bytes) is.opened.rows m number empty (λ under. not_both (is_accepted m.condition (unwrap_or o [])) accepted (ap (is_accepted m.condition) (sym (row_value under.row under.among under.name_is under.listed ∙ ap (λ (p : Option (List ℕ)). unwrap_or p []) e)) ∙ under.holds)),
        ))
        (λ empty. (
          λ takes. let under = among_taken (Stands is.opened.bytes) is.opened.rows m number empty takes in ap (is_accepted m.condition) (sym (row_value under.row under.among under.name_is under.listed ∙ ap (λ (p : Option (List ℕ)). unwrap_or p []) e)) ∙ under.holds,
          λ accepted. taken_among (Stands is.opened.bytes) is.opened.rows m number empty (accepted_under o e empty accepted),
        ))

    by_final : (outer : Option (List ℕ)) → TakesBy outer (Stands is.opened.bytes) is.opened.rows m number ↔ IsTrue (is_accepted m.condition (unwrap_or (option_or outer (value_of series.labels m.name)) []))
    by_final (Some value) = (λ h. h, λ h. h)
    by_final None = by_own (value_of series.labels m.name) refl

    matcher_agrees : (external : List Label) (replicas : List (List ℕ)) → is_among replicas m.name ≡ false → TakesBy (value_of external m.name) (Stands is.opened.bytes) is.opened.rows m number ↔ IsTrue (accepts m (final_of series.labels external replicas))
    unfolding accepts value_or_empty
    matcher_agrees external replicas kept =
        let value : value_of (final_of series.labels external replicas) m.name ≡ option_or (value_of external m.name) (value_of series.labels m.name) = value_of-final series.labels external replicas m.name ∙ ap (λ (b : Bool). cond b None (option_or (value_of external m.name) (value_of series.labels m.name))) kept in
        let same : is_accepted m.condition (unwrap_or (value_of (final_of series.labels external replicas) m.name) []) ≡ is_accepted m.condition (unwrap_or (option_or (value_of external m.name) (value_of series.labels m.name)) []) = ap (λ (o : Option (List ℕ)). is_accepted m.condition (unwrap_or o [])) value in
        let law = by_final (value_of external m.name) in
        (λ takes. same ∙ law.0 takes, λ accepted. law.1 (sym same ∙ accepted))

  module _ (number : ℕ) (series : IndexSeries) (has : Contains is.listed (number, series)) (external : List Label) (replicas : List (List ℕ)) where
    selector_agrees : (selector : List Matcher) → named_replicas replicas selector ≡ [] → All (λ m. TakesBy (value_of external m.name) (Stands is.opened.bytes) is.opened.rows m number) selector ↔ IsTrue (is_match selector (final_of series.labels external replicas))
    unfolding is_match
    selector_agrees [] none = (λ all. refl, λ e. All-nil (λ m. TakesBy (value_of external m.name) (Stands is.opened.bytes) is.opened.rows m number))
    selector_agrees (m ∷ selector) none =
        let P : Matcher → Type 0 = λ m. TakesBy (value_of external m.name) (Stands is.opened.bytes) is.opened.rows m number in
        let parts = not_named replicas m selector none in
        let one = matcher_agrees number series has m external replicas parts.0 in
        let others = selector_agrees selector parts.1 in (
          λ all. and_from (accepts m (final_of series.labels external replicas)) (list_all (λ matcher. accepts matcher (final_of series.labels external replicas)) selector) (one.0 (All-head P m selector all)) (others.0 (All-tail P m selector all)),
          λ e. let b = and_parts (accepts m (final_of series.labels external replicas)) (list_all (λ matcher. accepts matcher (final_of series.labels external replicas)) selector) e in All-cons P m selector (one.1 b.0) (others.1 b.1),
        )

  pub selection_matches : (external : List Label) (replicas : List (List ℕ)) (selector : List Matcher) (numbers : List ℕ) → named_replicas replicas selector ≡ [] → IsSelection (Stands is.opened.bytes) is.opened.rows external selector numbers → AreMatching is.listed external replicas selector numbers
  selection_matches external replicas selector numbers none selection = record {
    only = λ number has.
        let taken = (selection.taken number).0 has in
        let found = of_listed number taken.listed in
        (found.0, found.1, (selector_agrees number found.0 found.1 external replicas selector none).0 taken.by_all);
    all = λ number series has matches.
        (selection.taken number).1 (record { listed = into_listed number series has; by_all = (selector_agrees number series has external replicas selector none).1 matches });
  }
