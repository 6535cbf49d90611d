-- What a reader holds: of a whole file, and of parts.
use Rattle.std.proofs.Common.{◌≡◌, ℕ, ◌*◌, List, [], ◌∷◌, length, replicate, Option, Some, None, Result, Ok, Err, refl, sym, ap, ap₂, subst, ◌∙◌, arith, ◌⊎◌, inl, inr}
use Rattle.std.proofs.lemmas.List.{append-nil, length-replicate}
use Rattle.std.specs.Prelude.{IfOk, ◌==◌}
use Rattle.std.specs.Result.{IsOkAnd}
use Rattle.std.specs.List.{Contains}
use Rattle.base.proofs.Membership.{contains_first, contains_later}
use Rattle.base.proofs.Bools.{by_bool}
use Rattle.base.specs.Reading.{◌>>=◌, ◌>>◌, refused_as}
use Rattle.base.specs.Grammar.{IsBytes}
use Rattle.base.proofs.Binds.{ok_is, err_is}
use Rattle.wire_bytes.specs.Position.{Position}
use Rattle.index_parts.specs.declared.refusal.PartRefusal.{PartRefusal}
use Rattle.index_parts.specs.declared.refusal.PartRefusal.TheVariants as part
use Rattle.index_parts.specs.declared.toc_reading.Toc.{Toc}
use Rattle.index_parts.specs.declared.postings_row.PostingsRow.{PostingsRow}
use Rattle.index_parts.specs.Lists.{IsList}
use Rattle.index_parts.specs.SymbolsReading.{symbols_at}
use Rattle.index_parts.specs.RowsReading.{postings_table_at}
use Rattle.index_parts.specs.Symbols.{IsSymbols}
use Rattle.index_parts.specs.Rows.{IsPostingsTable}
use Rattle.index_parts.proofs.ListLaws.{IsTurnOf, list_again}
use Rattle.index_parts.specs.Postings.{IsNextPosting, IsPostings}
use Rattle.index_parts.specs.PostingsReading.{posting_at}
use Rattle.index_parts.proofs.PostingsLaws.{posting_turn}
use Rattle.index_parts.proofs.SymbolLaws.{symbol_turn}
use Rattle.index_parts.proofs.RowLaws.{row_turn}
use Rattle.index_parts.specs.declared.index_series.IndexSeries.{IndexSeries}
use Rattle.index_parts.specs.Opened.{Opened}
use Rattle.index_parts.specs.IndexFile.{Holds, IsOpened, IsIndex}
use Rattle.index_parts.proofs.Slices.{list_of_index}
use Rattle.index_parts.specs.Parts.{Part, file, known, IsPartOf, HoldsSection}
use Rattle.index_v2.specs.declared.refusal.IndexRefusal.{IndexRefusal}
use Rattle.index_v2.specs.declared.refusal.IndexRefusal.TheVariants.{NoMemory, BadSection, BadSeries}
use Rattle.index_v2.specs.declared.lent_parts.IndexParts.{IndexParts}
use Rattle.index_v2.specs.Held.{Held, opened_in, opened_of, whole_file, IsWhole, IsHeldOf, AreSlicesOf, held_of}
use Rattle.index_v2.specs.Opening.{refused_in, contents_at, held_at, opened_at}
use Rattle.index_v2.specs.PostingsLists.{row_of, list_of, postings_of}
use Rattle.index_v2.specs.WholeReading.{present_at, behind_at, all_at, lists_at, few_at, difference, differing_at, unless_differ, whole_at}
use Rattle.index_v2.proofs.PostingsLaws.{row_found}
use Rattle.index_v2.proofs.SeriesSlices.{number_absent}
use Rattle.index_v2.proofs.OpeningLaws.{opened_found, opened_again}
use Rattle.index_v2.proofs.WholeLoops.{nothing_left}
use Rattle.index_v2.proofs.ListsFew.{few_same}

-- ---- of a whole file

pub whole_is : (held : Held) → IsWhole held → held ≡ whole_file (opened_of held)
whole_is held is = λ i. record { bytes = held.bytes; toc = held.toc; symbols = held.symbols; rows = held.rows; lists = is.lists_are i; symbols_size = is.symbols_size_is i; rows_size = is.rows_size_is i }

pub opened_whole : (held : Held) → IsWhole held → opened_at held.bytes ≡ Ok (opened_of held)
opened_whole held is = opened_again held.bytes _ refl is.is_opened

-- what holds an index in its bytes is of a whole file
pub whole_or_none : (held : Held) → IsWhole held ⊎ (held.bytes ≡ []) → (list : List IndexSeries) → IsIndex held.bytes list → IsWhole held
whole_or_none _ (inl is) _ index = is
whole_or_none _ (inr none) _ index =
    let long = index.is_opened.long in
    let same = ap length index.bytes_are in
    let empty = ap length none in
    absurd (omega arith)

pub opened_from : (held : Held) → IsWhole held ⊎ (held.bytes ≡ []) → (list : List IndexSeries) → IsIndex held.bytes list → opened_at held.bytes ≡ Ok (opened_of held)
opened_from _ one _ index = opened_whole _ (whole_or_none _ one _ index)

opened_parts : (index : List ℕ) (toc : Toc) (symbols : List (List ℕ)) (rows : List PostingsRow) → contents_at index ≡ Ok toc → held_at 1 symbols_at index toc.symbols ≡ Ok symbols → held_at 6 postings_table_at index toc.postings_table ≡ Ok rows → opened_at index ≡ Ok (record { bytes = index; toc = toc; symbols = symbols; rows = rows })
unfolding opened_at
opened_parts _ _ _ _ a b c = rw (a, b, c) refl

pub read_whole : (index : List ℕ) (toc : Toc) (symbols : List (List ℕ)) (rows : List PostingsRow) (size : ℕ) → size ≡ length index → IsBytes index → contents_at index ≡ Ok toc → held_at 1 symbols_at index toc.symbols ≡ Ok symbols → held_at 6 postings_table_at index toc.postings_table ≡ Ok rows → IsWhole (record { bytes = index; toc = toc; symbols = symbols; rows = rows; lists = file index; symbols_size = size; rows_size = size })
read_whole index toc symbols rows size long are a b c =
    let opened : Opened = record { bytes = index; toc = toc; symbols = symbols; rows = rows } in
    record { is_opened = (opened_found index opened are (opened_parts index toc symbols rows a b c)).1; lists_are = refl; symbols_size_is = long; rows_size_is = long }

-- a part stands in the index as far as it is known
pub known_is : (here : Part) → IsPartOf here (known here)
known_is here = record { before = replicate here.begin 0; after = []; begins = length-replicate _ 0; stands = sym (append-nil (known here)) }

pub file_is : (index : List ℕ) → IsPartOf (file index) index
file_is _ = known_is _

pub both_ok : {X E : Type 0} (P Q : X → Type 0) (r : Result X E) → IfOk r P → IfOk r Q → IfOk r (λ x. P x × Q x)
both_ok P Q (Ok x) p q = (p, q)
both_ok P Q (Err e) p q = tt

pub whole_only : (r : Result Held IndexRefusal) (opened : Opened) → IfOk r IsWhole → IsOkAnd r (λ held. opened_of held ≡ opened) ⊎ (r ≡ Err NoMemory) → IsOkAnd r (λ held. held ≡ whole_file opened) ⊎ (r ≡ Err NoMemory)
whole_only (Ok held) _ is (inl same) = inl (whole_is _ is ∙ ap whole_file same)
whole_only (Ok held) _ is (inr e) = inr e
whole_only (Err d) _ is (inl none) = absurd none
whole_only (Err d) _ is (inr e) = inr e

-- ---- of parts

-- at a reference there is one list
one_list : {A : Type 0} (IsNext : Option A → List ℕ → A → Type 0) (read : Option A × Position → Result (A × (Option A × Position)) PartRefusal) → IsTurnOf IsNext read → (index : List ℕ) (reference : ℕ) (xs ys : List A) → Holds (IsList IsNext) index reference xs → Holds (IsList IsNext) index reference ys → xs ≡ ys
one_list {A} IsNext read turn index reference xs ys is other = by_bool {P = xs ≡ ys} (reference == 0)
    (λ zero_is. let x : xs ≡ [] = rw zero_is at is in let y : ys ≡ [] = rw zero_is at other in x ∙ sym y)
    (λ some. let x : IsList IsNext index reference xs = rw some at is in let y : IsList IsNext index reference ys = rw some at other in
    ok_is {E = PartRefusal} _ _ (sym (list_again IsNext read turn _ _ _ x) ∙ list_again IsNext read turn _ _ _ y))

pub held_of_slices : (parts : IndexParts) (opened : Opened) (symbols : List (List ℕ)) (rows : List PostingsRow) → IsOpened opened → parts.toc ≡ opened.toc → AreSlicesOf parts opened.bytes → Holds IsSymbols opened.bytes parts.toc.symbols symbols → Holds IsPostingsTable opened.bytes parts.toc.postings_table rows → IsHeldOf (held_of parts symbols rows) opened
held_of_slices parts opened symbols rows is toc slices s r = record {
  toc_is = toc;
  symbols_are = one_list _ _ symbol_turn _ _ _ _ (subst (λ t. Holds IsSymbols opened.bytes t.symbols symbols) toc s) is.symbols_are;
  rows_are = one_list _ _ row_turn _ _ _ _ (subst (λ t. Holds IsPostingsTable opened.bytes t.postings_table rows) toc r) is.rows_are;
  lists_are = slices.lists_are;
  series_are = inl refl;
}

-- of slices of any bytes, whatever these begin and end with
pub held_of_bytes : (parts : IndexParts) (index : List ℕ) (symbols : List (List ℕ)) (rows : List PostingsRow) → AreSlicesOf parts index → Holds IsSymbols index parts.toc.symbols symbols → Holds IsPostingsTable index parts.toc.postings_table rows
    → Holds IsSymbols index parts.toc.symbols symbols × Holds IsPostingsTable index parts.toc.postings_table rows × IsHeldOf (held_of parts symbols rows) (opened_in index (held_of parts symbols rows))
held_of_bytes parts index symbols rows slices s r =
    let held : IsHeldOf (held_of parts symbols rows) (opened_in index (held_of parts symbols rows)) = record { toc_is = refl; symbols_are = refl; rows_are = refl; lists_are = slices.lists_are; series_are = inl refl } in
    (s, r, held)

-- ---- what is read of parts is what is read of the index

pub list_same : (here : Part) (index : List ℕ) → IsPartOf here index → (row : Option PostingsRow) → ((r : PostingsRow) → row ≡ Some r → HoldsSection here r.offset) → list_of here row ≡ list_of (file index) row
list_same _ _ is None lies = refl
list_same _ _ is (Some row) lies = ap (refused_as (refused_in 5)) (list_of_index _ _ _ is (lies row refl))

lists_same : (here : Part) (index : List ℕ) → IsPartOf here index → (rows : List PostingsRow) → ((row : PostingsRow) → Contains rows row → HoldsSection here row.offset) → lists_at here rows ≡ lists_at (file index) rows
unfolding lists_at
lists_same _ _ is [] lie = refl
lists_same here index is (row ∷ rows) lie =
    rw (list_of_index here index row.offset is (lie row (contains_first _ _)), lists_same here index is rows (λ one has. lie one (contains_later _ _ _ has))) refl

-- where no series is to be read
none_listed : (held : Held) → postings_of held [] [] ≡ Ok [] → whole_at held ≡ (few_at held.toc held.lists held.rows [] >> (differing_at held.lists held.rows [] >>= λ found. unless_differ found >> Ok []))
unfolding whole_at present_at
none_listed _ none = rw (none, nothing_left) refl

differing_same : (here there : Part) (rows other : List PostingsRow) → lists_at here rows ≡ lists_at there other → rows ≡ other → differing_at here rows [] ≡ differing_at there other []
unfolding differing_at
differing_same here there rows other lists same = ap₂ (λ (r : Result (List (List ℕ)) IndexRefusal) (rs : List PostingsRow). r >>= λ lists. Ok (difference rs lists [])) lists same

none_same : (held : Held) (opened : Opened) → IsHeldOf held opened → ((row : PostingsRow) → Contains held.rows row → HoldsSection held.lists row.offset) → postings_of held [] [] ≡ Ok [] → whole_at held ≡ whole_at (whole_file opened)
none_same held opened is lie none =
    let first : postings_of held [] [] ≡ list_of (file opened.bytes) (row_of held.rows [] []) = list_same held.lists _ is.lists_are _ (λ row some. lie row (row_found _ _ _ _ some).0) in
    let there = ap (λ rows. list_of (file opened.bytes) (row_of rows [] [])) (sym is.rows_are) ∙ sym first ∙ none in
    let lists = lists_same _ _ is.lists_are _ lie ∙ ap (lists_at (file opened.bytes)) is.rows_are in
    none_listed _ none
    ∙ ap₂ (λ (t : Result (Unit {0}) IndexRefusal) (r : Result (Option ℕ) IndexRefusal). t >> (r >>= λ found. unless_differ found >> Ok [])) (few_same held.lists opened.bytes held.rows opened.rows held.toc opened.toc [] is.lists_are lie is.rows_are is.toc_is) (differing_same held.lists (file opened.bytes) held.rows opened.rows lists is.rows_are)
    ∙ sym (none_listed _ there)

-- where the first list is refused, or a section that its series need is absent
listed_refused : (held : Held) (d : IndexRefusal) → postings_of held [] [] ≡ Err d → whole_at held ≡ Err d
unfolding whole_at
listed_refused _ d e = rw e refl

section_absent : (held : Held) (numbers : List ℕ) (d : IndexRefusal) → postings_of held [] [] ≡ Ok numbers → present_at held.toc numbers ≡ Err d → whole_at held ≡ Err d
unfolding whole_at
section_absent _ _ d a b = rw (a, b) refl

by_list : {E P : Type 0} (r : Result (List ℕ) E) → (r ≡ Ok [] → P) → ((n : ℕ) (ns : List ℕ) → r ≡ Ok (n ∷ ns) → P) → ((d : E) → r ≡ Err d → P) → P
by_list (Ok []) f g h = f refl
by_list (Ok (n ∷ ns)) f g h = g n ns refl
by_list (Err d) f g h = h d refl

by_unit : {E P : Type 0} (r : Result (Unit {0}) E) → (r ≡ Ok tt → P) → ((d : E) → r ≡ Err d → P) → P
by_unit (Ok x) f g = f refl
by_unit (Err d) f g = g d refl

pub whole_same : (held : Held) (opened : Opened) → IsHeldOf held opened → ((row : PostingsRow) → Contains held.rows row → HoldsSection held.lists row.offset) → ((number : ℕ) (numbers : List ℕ) → postings_of held [] [] ≡ Ok (number ∷ numbers) → present_at held.toc (number ∷ numbers) ≡ Ok tt → ⊥) → whole_at held ≡ whole_at (whole_file opened)
whole_same held opened is lie unread =
    let first =
    list_same _ _ is.lists_are _ (λ row some. lie row (row_found _ _ _ _ some).0) ∙ ap (λ rows. list_of (file opened.bytes) (row_of rows [] [])) is.rows_are in
    by_list _ (none_same _ _ is lie)
    (λ n ns e. by_unit (present_at held.toc (n ∷ ns)) (λ present. absurd (unread n ns e present))
    (λ d absent. section_absent held (n ∷ ns) d e absent ∙ sym (section_absent _ _ d (sym first ∙ e) (ap (λ toc. present_at toc (n ∷ ns)) (sym is.toc_is) ∙ absent))))
    (λ d e. listed_refused held d e ∙ sym (listed_refused _ d (sym first ∙ e)))

all_absent : (symbols : List (List ℕ)) (number : ℕ) (numbers : List ℕ) → all_at [] symbols None None (number ∷ numbers) ≡ Err (BadSeries number (part.Short (16 * number)))
unfolding all_at behind_at
all_absent _ _ _ = rw (number_absent) refl

first_absent : (held : Held) (number : ℕ) (numbers : List ℕ) → postings_of held [] [] ≡ Ok (number ∷ numbers) → present_at held.toc (number ∷ numbers) ≡ Ok tt → all_at held.bytes held.symbols None None (number ∷ numbers) ≡ Err (BadSeries number (part.Short (16 * number))) → whole_at held ≡ Err (BadSeries number (part.Short (16 * number)))
unfolding whole_at
first_absent _ _ _ listed present e = rw (listed, present, e) refl

-- where one is to be read, and none is there
pub whole_absent : (held : Held) (number : ℕ) (numbers : List ℕ) → held.bytes ≡ [] → postings_of held [] [] ≡ Ok (number ∷ numbers) → present_at held.toc (number ∷ numbers) ≡ Ok tt → whole_at held ≡ Err (BadSeries number (part.Short (16 * number)))
whole_absent held number numbers none listed present = first_absent _ _ _ listed present (ap (λ bytes. all_at bytes held.symbols None None (number ∷ numbers)) none ∙ all_absent _ _ _)

-- what is read for a row is what the index has for it
pub found_of_row : (r : Result (List ℕ) IndexRefusal) (index : List ℕ) (rows : List PostingsRow) (name value : List ℕ) (row : PostingsRow) → row_of rows name value ≡ Some row → IfOk r (λ numbers. IsPostings index row.offset numbers) → IfOk r (λ numbers. list_of (file index) (row_of rows name value) ≡ Ok numbers)
found_of_row (Ok numbers) index _ _ _ _ is stands = ap (list_of (file index)) is ∙ ap (refused_as (refused_in 5)) (list_again IsNextPosting posting_at posting_turn _ _ _ stands)
found_of_row (Err e) _ _ _ _ _ is stands = tt

-- ---- refusals of sections

pub section_refused : {X : Type 0} (section : ℕ) (read : Result X PartRefusal) (e : PartRefusal) (f : IndexRefusal) → f ≡ refused_in section e → (e ≡ part.NoMemory) ⊎ (read ≡ Err e) → (f ≡ NoMemory) ⊎ (refused_as (refused_in section) read ≡ Err f)
section_refused section _ e f is (inl none) = inl (is ∙ ap (refused_in section) none)
section_refused section _ e f is (inr refused) = inr (ap (refused_as (refused_in section)) refused ∙ ap Err (sym is))

pub not_refused : {X E P : Type 0} (x : X) (d e : E) → (◌≡◌ {A = Result X E} (Ok x) (Err d)) ⊎ (◌≡◌ {A = Result X E} (Ok x) (Err e)) → P
not_refused x d e (inl h) = absurd cc
not_refused x d e (inr h) = absurd cc

pub section_outside : {X : Type 0} (section at : ℕ) (e : PartRefusal) (f : IndexRefusal) → f ≡ refused_in section e → (◌≡◌ {A = Result X PartRefusal} (Err e) (Err (part.Short at))) ⊎ (◌≡◌ {A = Result X PartRefusal} (Err e) (Err part.NoMemory)) → (◌≡◌ {A = Result X IndexRefusal} (Err f) (Err (BadSection section (part.Short at)))) ⊎ (◌≡◌ {A = Result X IndexRefusal} (Err f) (Err NoMemory))
section_outside {X} section _ e f is (inl h) = inl (ap Err (is ∙ ap (refused_in section) (err_is {A = X} e _ h)))
section_outside {X} section _ e f is (inr h) = inr (ap Err (is ∙ ap (refused_in section) (err_is {A = X} e _ h)))

pub no_row : {P : Type 0} (row : Option PostingsRow) (one : PostingsRow) → row ≡ None → row ≡ Some one → P
no_row _ _ none some = let no = sym none ∙ some in absurd cc
