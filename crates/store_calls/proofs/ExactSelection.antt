-- What a selector takes by lists that are read in a part of an index, it takes by those that stand in the index.
use Rattle.std.proofs.Common.{◌≡◌, ℕ, Bool, true, false, not, List, [], ◌∷◌, take, Option, Some, None, Result, Ok, Err, refl, sym, ap, subst, ◌∙◌, inl, inr}
use Rattle.std.specs.Prelude.{Contains, IsOk, IsTrue, IsFalse, is_some, if◌then◌else◌, ◌&&◌}
use Rattle.std.specs.List.{filter, flat_map}
use Rattle.std.proofs.lemmas.Slice.Eq.{bytes_eq-Decides}
use Rattle.std.proofs.lemmas.List.Elements.{All-contains, All-from_recursion, Contains-append_left, Contains-append_right}
use Rattle.base.proofs.Membership.{all_members, contains_first, into_filter, into_flat_map, member_cases, no_member}
use Rattle.base.specs.Grammar.{IsBytes}
use Rattle.base.specs.Reading.{◌>>=◌}
use Rattle.base.proofs.Binds.{refused_as_ok}
use Rattle.label_sets.specs.declared.label.Label.{Label}
use Rattle.label_sets.specs.Labels.{value_of}
use Rattle.matchers.specs.declared.matcher.Matcher.{Matcher}
use Rattle.matchers.specs.Selectors.{is_accepted}
use Rattle.index_parts.specs.declared.postings_row.PostingsRow.{PostingsRow}
use Rattle.index_parts.specs.Postings.{IsPostings}
use Rattle.index_parts.specs.Parts.{IsPartOf, Part}
use Rattle.index_v2.specs.declared.refusal.IndexRefusal.{IndexRefusal}
use Rattle.index_v2.specs.PostingsLists.{list_of}
use Rattle.index_v2.specs.WholeReading.{lists_at}
use Rattle.series_selection.specs.Selections.{HasNumber, IsListed, IsSelection, IsTaken, StandsUnder, TakesBy, TakesByRows, decides, deciding, rows_read}
use Rattle.series_selection.proofs.Matching.{one_list}
use Rattle.series_selection.proofs.Taking.{among_taken, apart_taken, taken_among, taken_apart}
use Rattle.store_calls.proofs.PartLaws.{postings_in_index}

-- ---- two ways to say which numbers a row lists

abbrev Lists : Type 1
Lists = PostingsRow → List ℕ → Type 0

abbrev Goes : Lists → Lists → List PostingsRow → Type 0
Goes One Other rows = (row : PostingsRow) → Contains rows row → (numbers : List ℕ) → One row numbers → Other row numbers

has_same : (One Other : Lists) (row : PostingsRow) (number : ℕ) → ((numbers : List ℕ) → One row numbers → Other row numbers) → HasNumber One row number → HasNumber Other row number
has_same One Other row number goes has = record { numbers = has.numbers; list_is = goes has.numbers has.list_is; has = has.has }

test_refused : (named empty value : Bool) → named ≡ true → empty ≡ true → value ≡ false → (named && (if empty then not value else value)) ≡ true
test_refused named empty value a b c = rw (a, b, c) refl

test_accepted : (named empty value : Bool) → named ≡ true → empty ≡ false → value ≡ true → (named && (if empty then not value else value)) ≡ true
test_accepted named empty value a b c = rw (a, b, c) refl

module _ (external : List Label) (rows : List PostingsRow) (selector : List Matcher) where
  -- a row that decides what a matcher takes is read
  read_row : (m : Matcher) → Contains selector m → value_of external m.name ≡ None → (row : PostingsRow) → Contains rows row → decides m row ≡ true → Contains (rows_read external rows selector) row
  unfolding rows_read
  read_row m among none row has is =
      Contains-append_right (take 1 rows) (flat_map (deciding external rows) selector) row
      (into_flat_map (deciding external rows) selector m row among
      (subst (λ (o : Option (List ℕ)). Contains (if is_some o then [] else filter (decides m) rows) row) (sym none) (into_filter (decides m) rows row has is)))

  first_read : (first : PostingsRow) (others : List PostingsRow) → rows ≡ first ∷ others → Contains (rows_read external rows selector) first
  unfolding rows_read
  first_read first others is =
      Contains-append_left (take 1 rows) (flat_map (deciding external rows) selector) first (subst (λ l. Contains (take 1 l) first) (sym is) (contains_first first []))

  decides_refused : (m : Matcher) (row : PostingsRow) → row.name ≡ m.name → is_accepted m.condition [] ≡ true → is_accepted m.condition row.value ≡ false → decides m row ≡ true
  decides_refused m row name empty refused = test_refused _ _ _ ((bytes_eq-Decides row.name m.name).1 name) empty refused

  decides_accepted : (m : Matcher) (row : PostingsRow) → row.name ≡ m.name → is_accepted m.condition [] ≡ false → is_accepted m.condition row.value ≡ true → decides m row ≡ true
  decides_accepted m row name empty accepted = test_accepted _ _ _ ((bytes_eq-Decides row.name m.name).1 name) empty accepted

  module _ (One Other : Lists) (goes : Goes One Other (rows_read external rows selector)) (back : Goes Other One (rows_read external rows selector)) where
    listed_so : (number : ℕ) → IsListed One rows number → IsListed Other rows number
    listed_so number is =
        record { first = is.first; others = is.others; begins = is.begins; listed = has_same One Other is.first number (goes is.first (first_read is.first is.others is.begins)) is.listed }

    under_so : (A B : Lists) → Goes A B (rows_read external rows selector) → (m : Matcher) (number : ℕ) → Contains selector m → value_of external m.name ≡ None
        → (Such : List ℕ → Type 0) → ((row : PostingsRow) → row.name ≡ m.name → Such row.value → decides m row ≡ true)
        → StandsUnder A rows m.name Such number → StandsUnder B rows m.name Such number
    under_so A B on m number among none Such sure under = record {
      row = under.row;
      among = under.among;
      name_is = under.name_is;
      holds = under.holds;
      listed = has_same A B under.row number (on under.row (read_row m among none under.row under.among (sure under.row under.name_is under.holds))) under.listed;
    }

    by_rows : (m : Matcher) (number : ℕ) → Contains selector m → value_of external m.name ≡ None → (b : Bool) → is_accepted m.condition [] ≡ b
        → TakesByRows One rows m number → TakesByRows Other rows m number
    by_rows m number among none true empty takes =
        taken_apart Other rows m number empty (λ under. apart_taken One rows m number empty takes
        (under_so Other One back m number among none (λ value. IsFalse (is_accepted m.condition value)) (λ row name refused. decides_refused m row name empty refused) under))
    by_rows m number among none false empty takes =
        taken_among Other rows m number empty
        (under_so One Other goes m number among none (λ value. IsTrue (is_accepted m.condition value)) (λ row name accepted. decides_accepted m row name empty accepted)
        (among_taken One rows m number empty takes))

    by_label : (m : Matcher) (number : ℕ) → Contains selector m → (o : Option (List ℕ)) → value_of external m.name ≡ o → TakesBy o One rows m number → TakesBy o Other rows m number
    by_label m number among (Some value) is takes = takes
    by_label m number among None is takes = by_rows m number among is (is_accepted m.condition []) refl takes

    taken_so : (number : ℕ) → IsTaken One rows external selector number → IsTaken Other rows external selector number
    taken_so number is = record {
      listed = listed_so number is.listed;
      by_all = All-from_recursion (λ m. TakesBy (value_of external m.name) Other rows m number) selector
          (all_members (λ m. TakesBy (value_of external m.name) Other rows m number) selector
          (λ m among. by_label m number among (value_of external m.name) refl (All-contains (λ x. TakesBy (value_of external x.name) One rows x number) selector m is.by_all among)));
    }

  pub selection_so : (One Other : Lists) → Goes One Other (rows_read external rows selector) → Goes Other One (rows_read external rows selector) → (numbers : List ℕ)
      → IsSelection One rows external selector numbers → IsSelection Other rows external selector numbers
  selection_so One Other goes back numbers is = record {
    ascend = is.ascend;
    taken = λ number. ((λ has. taken_so One Other goes back number ((is.taken number).0 has)), (λ takes. (is.taken number).1 (taken_so Other One back goes number takes)));
  }

-- ---- lists of a part, and of the index

-- the first of these is read, and so are the others
both_read : (part : Part) (first : PostingsRow) (rows : List PostingsRow) → IsOk (lists_at part (first ∷ rows))
    → ((numbers : List ℕ) × (list_of part (Some first) ≡ Ok numbers)) × IsOk (lists_at part rows)
unfolding lists_at
both_read part first rows ok = by_first (list_of part (Some first)) (lists_at part rows) refl ok
  where
    by_first : (r : Result (List ℕ) IndexRefusal) (others : Result (List (List ℕ)) IndexRefusal) → list_of part (Some first) ≡ r → IsOk (r >>= λ list. others >>= λ lists. Ok (list ∷ lists))
        → ((numbers : List ℕ) × (list_of part (Some first) ≡ Ok numbers)) × IsOk others
    by_first (Ok x) (Ok lists) is ok = ((x, is), refl)
    by_first (Ok x) (Err e) is ok = absurd (cc (ok))
    by_first (Err d) others is ok = absurd (cc (ok))

all_read : (part : Part) (rows : List PostingsRow) → IsOk (lists_at part rows) → (row : PostingsRow) → Contains rows row → (numbers : List ℕ) × (list_of part (Some row) ≡ Ok numbers)
all_read part [] ok row has = absurd (no_member row has)
all_read part (first ∷ rows) ok row has =
    let both = both_read part first rows ok in
    elim (member_cases first row rows has) [
      | inl same ↦ subst (λ (o : PostingsRow). (numbers : List ℕ) × (list_of part (Some o) ≡ Ok numbers)) same both.0
      | inr among ↦ all_read part rows both.1 row among
    ]

pub selection_stands : (part : Part) (index : List ℕ) (external : List Label) (rows : List PostingsRow) (selector : List Matcher) (numbers : List ℕ) → IsPartOf part index → IsBytes part.bytes
    → IsOk (lists_at part (rows_read external rows selector)) → IsSelection (λ row listed. list_of part (Some row) ≡ Ok listed) rows external selector numbers
    → IsSelection (λ row listed. IsPostings index row.offset listed) rows external selector numbers
selection_stands part index external rows selector numbers is are ok selection =
    selection_so external rows selector (λ row listed. list_of part (Some row) ≡ Ok listed) (λ row listed. IsPostings index row.offset listed) goes back numbers selection
  where
    goes : (row : PostingsRow) → Contains (rows_read external rows selector) row → (listed : List ℕ) → list_of part (Some row) ≡ Ok listed → IsPostings index row.offset listed
    goes row among listed read = postings_in_index part index row.offset listed is are (refused_as_ok _ _ _ read)

    back : (row : PostingsRow) → Contains (rows_read external rows selector) row → (listed : List ℕ) → IsPostings index row.offset listed → list_of part (Some row) ≡ Ok listed
    back row among listed stands =
        let read = all_read part (rows_read external rows selector) ok row among in
        let same : read.0 ≡ listed = one_list index row read.0 listed (goes row among read.0 read.1) stands in
        read.1 ∙ ap (λ (l : List ℕ). Ok l) same
