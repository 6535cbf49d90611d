-- What is opened is in the grammar, and what is in the grammar is opened.
use Rattle.std.proofs.Common.{◌≡◌, ℕ, ◌≤◌, true, List, [], ◌∷◌, length, take, Result, Ok, refl, sym, ap, subst, ◌∙◌, arith}
use Rattle.std.specs.Prelude.{◌==◌, nat_le, nat_eq, slice_index}
use Rattle.std.specs.List.{starts_with}
use Rattle.std.proofs.lemmas.Bool.{eqb-true, eq-eqb, leb-true, le-leb}
use Rattle.std.specs.Cmp.Lexicographic.{bytes_decides}
use Rattle.base.proofs.Bools.{by_bool}
use Rattle.base.specs.Reading.{◌>>=◌, refused_as}
use Rattle.base.specs.Grammar.{IsBytes}
use Rattle.base.proofs.Binds.{bind_ok, unless_ok, refused_as_ok, ok_is}
use Rattle.index_parts.specs.declared.toc_reading.Toc.{Toc}
use Rattle.index_parts.specs.declared.refusal.PartRefusal.{PartRefusal}
use Rattle.index_parts.specs.declared.refusal.PartRefusal.TheVariants as part
use Rattle.index_parts.specs.Contents.{IsToc}
use Rattle.index_parts.specs.Symbols.{IsSymbols, IsNextSymbol}
use Rattle.index_parts.specs.SymbolsReading.{symbol_at, symbols_at}
use Rattle.index_parts.specs.Rows.{IsPostingsTable, IsNextRow}
use Rattle.index_parts.specs.RowsReading.{row_at, postings_table_at}
use Rattle.index_parts.proofs.TocLaws.{toc_found, toc_again}
use Rattle.index_parts.proofs.ListLaws.{list_found, list_again}
use Rattle.index_parts.proofs.SymbolLaws.{symbol_turn}
use Rattle.index_parts.proofs.RowLaws.{row_turn}
use Rattle.index_v2.specs.declared.refusal.IndexRefusal.{IndexRefusal}
use Rattle.index_v2.specs.declared.refusal.IndexRefusal.TheVariants.{BadSection}
use Rattle.index_parts.specs.Opened.{Opened}
use Rattle.index_v2.specs.Opening.{refused_in, contents_at, held_at, opened_at}
use Rattle.index_parts.specs.IndexFile.{magic, version, header, least_size, Holds, IsOpened}

-- ---- the header

five : (index : List ℕ) → least_size ≤ length index → (a b c d e : ℕ) × (others : List ℕ) × (index ≡ a ∷ b ∷ c ∷ d ∷ e ∷ others)
five [] le = absurd (omega arith)
five (a ∷ []) le = absurd (omega arith)
five (a ∷ b ∷ []) le = absurd (omega arith)
five (a ∷ b ∷ c ∷ []) le = absurd (omega arith)
five (a ∷ b ∷ c ∷ d ∷ []) le = absurd (omega arith)
five (a ∷ b ∷ c ∷ d ∷ e ∷ others) le = (a, b, c, d, e, others, refl)

header_five : (a b c d e : ℕ) (others : List ℕ) → starts_with nat_eq (a ∷ b ∷ c ∷ d ∷ e ∷ others) magic ≡ true → e ≡ version → take 5 (a ∷ b ∷ c ∷ d ∷ e ∷ others) ≡ header
header_five a b c d e _ m v =
    let front : magic ≡ a ∷ b ∷ c ∷ d ∷ [] = (bytes_decides magic (a ∷ b ∷ c ∷ d ∷ [])).0 m in
    let pa : a ≡ 186 = cc in
    let pb : b ≡ 170 = cc in
    let pc : c ≡ 215 = cc in
    let pd : d ≡ 0 = cc in
    rw (pa, pb, pc, pd, v) refl

header_found : (index : List ℕ) → least_size ≤ length index → starts_with nat_eq index magic ≡ true → slice_index index 4 ≡ version → take 5 index ≡ header
header_found _ long m v =
    let f = five _ long in
    let is = f.6 in
    let m' = ap (λ xs. starts_with nat_eq xs magic) (sym is) ∙ m in
    let v' = ap (λ xs. slice_index xs 4) (sym is) ∙ v in
    ap (λ xs. take 5 xs) is ∙ header_five _ _ _ _ _ f.5 m' v'

five_header : (a b c d e : ℕ) (others : List ℕ) → take 5 (a ∷ b ∷ c ∷ d ∷ e ∷ others) ≡ header → (starts_with nat_eq (a ∷ b ∷ c ∷ d ∷ e ∷ others) magic ≡ true) × (e ≡ version)
five_header a b c d e _ h =
    let front = h in
    let pa : a ≡ 186 = cc in
    let pb : b ≡ 170 = cc in
    let pc : c ≡ 215 = cc in
    let pd : d ≡ 0 = cc in
    let pe : e ≡ version = cc in
    (rw (pa, pb, pc, pd) refl, pe)

header_again : (index : List ℕ) → least_size ≤ length index → take 5 index ≡ header → (starts_with nat_eq index magic ≡ true) × (slice_index index 4 ≡ version)
header_again _ long h =
    let f = five _ long in
    let is = f.6 in
    let front = five_header _ _ _ _ _ f.5 (ap (λ xs. take 5 xs) (sym is) ∙ h) in
    (ap (λ xs. starts_with nat_eq xs magic) is ∙ front.0, ap (λ xs. slice_index xs 4) is ∙ front.1)

-- ---- the table of contents

contents_found : (index : List ℕ) (toc : Toc) → IsBytes index → contents_at index ≡ Ok toc → (least_size ≤ length index) × (take 5 index ≡ header) × IsToc index toc
unfolding contents_at
contents_found index toc are e =
    let long = unless_ok (nat_le least_size (length index)) (BadSection 0 (part.Short 0)) _ _ e in
    let begun = unless_ok _ _ _ _ long.1 in
    let right = unless_ok _ _ _ _ begun.1 in
    let enough = leb-true least_size (length index) long.0 in
    (enough, header_found _ enough begun.0 (eqb-true (slice_index index 4) version right.0), toc_found _ _ are (refused_as_ok _ _ _ right.1))

pub contents_again : (index : List ℕ) (toc : Toc) → least_size ≤ length index → take 5 index ≡ header → IsToc index toc → contents_at index ≡ Ok toc
unfolding contents_at
contents_again index toc long h is =
    let front = header_again index long h in
    rw (le-leb least_size (length index) long, front.0, eq-eqb (slice_index index 4) version front.1, toc_again index toc is) refl

-- ---- sections that may be absent

held_found : {A : Type 0} (section : ℕ) (read : List ℕ → ℕ → Result (List A) PartRefusal) (Is : List ℕ → ℕ → List A → Type 0) (index : List ℕ) (reference : ℕ) (members : List A) → ((xs : List A) → read index reference ≡ Ok xs → Is index reference xs) → held_at section read index reference ≡ Ok members → Holds Is index reference members
held_found {A} section read Is index reference members one e = by_bool {P = Holds Is index reference members} (reference == 0)
    (λ zero_is. let e' : ◌≡◌ {A = Result (List A) IndexRefusal} (Ok []) (Ok members) = rw zero_is at e in rw zero_is (sym (ok_is {E = IndexRefusal} [] members e')))
    (λ some. let e' : refused_as (refused_in section) (read index reference) ≡ Ok members = rw some at e in rw some (one members (refused_as_ok _ _ _ e')))

held_again : {A : Type 0} (section : ℕ) (read : List ℕ → ℕ → Result (List A) PartRefusal) (Is : List ℕ → ℕ → List A → Type 0) (index : List ℕ) (reference : ℕ) (members : List A) → (Is index reference members → read index reference ≡ Ok members) → Holds Is index reference members → held_at section read index reference ≡ Ok members
held_again {A} section read Is index reference members one holds = by_bool {P = held_at section read index reference ≡ Ok members} (reference == 0)
    (λ zero_is. let h : members ≡ [] = rw zero_is at holds in rw (zero_is, h) refl)
    (λ some. let h : Is index reference members = rw some at holds in rw (some, one h) refl)

-- ---- the opened index

pub opened_found : (index : List ℕ) (opened : Opened) → IsBytes index → opened_at index ≡ Ok opened → (opened.bytes ≡ index) × IsOpened opened
unfolding opened_at
opened_found index _ are e =
    let toc = bind_ok _ _ _ e in
    let symbols = bind_ok _ (λ symbols. held_at 6 postings_table_at index toc.0.postings_table >>= λ rows. Ok (record { bytes = index; toc = toc.0; symbols = symbols; rows = rows })) _ toc.2 in
    let rows = bind_ok _ (λ rows. Ok (record { bytes = index; toc = toc.0; symbols = symbols.0; rows = rows })) _ symbols.2 in
    let same = ok_is {E = IndexRefusal} _ _ rows.2 in
    let contents = contents_found _ _ are toc.1 in
    let is : IsOpened (record { bytes = index; toc = toc.0; symbols = symbols.0; rows = rows.0 }) = record {
      begins = contents.1;
      long = contents.0;
      toc_is = contents.2;
      symbols_are = held_found 1 symbols_at IsSymbols index toc.0.symbols _ (λ xs r. list_found IsNextSymbol symbol_at symbol_turn index toc.0.symbols xs are r) symbols.1;
      rows_are = held_found 6 postings_table_at IsPostingsTable index toc.0.postings_table _ (λ xs r. list_found IsNextRow row_at row_turn index toc.0.postings_table xs are r) rows.1;
    } in
    (ap (λ o. o.bytes) (sym same), subst IsOpened same is)

pub opened_again : (index : List ℕ) (opened : Opened) → opened.bytes ≡ index → IsOpened opened → opened_at index ≡ Ok opened
unfolding opened_at
opened_again index opened bytes is =
    let toc = contents_again opened.bytes opened.toc is.long is.begins is.toc_is in
    let symbols = held_again 1 symbols_at IsSymbols opened.bytes opened.toc.symbols opened.symbols (list_again IsNextSymbol symbol_at symbol_turn opened.bytes opened.toc.symbols opened.symbols) is.symbols_are in
    let rows = held_again 6 postings_table_at IsPostingsTable opened.bytes opened.toc.postings_table opened.rows (list_again IsNextRow row_at row_turn opened.bytes opened.toc.postings_table opened.rows) is.rows_are in
    rw (← bytes) (rw (toc, symbols, rows) refl)
