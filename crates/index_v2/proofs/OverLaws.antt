-- What a reader over parts of an index is, and what one of the whole index is.
use Rattle.std.proofs.Common.{◌≡◌, ℕ, List, [], Option, Result, Ok, Err, refl, sym, ap, subst, ◌∙◌, ◌⊎◌, inl, inr}
use Rattle.std.specs.Prelude.{IfOk, ◌==◌, if◌then◌else◌}
use Rattle.std.specs.Result.{IsOkAnd}
use Rattle.base.specs.Reading.{◌>>=◌, refused_as, Gives}
use Rattle.base.proofs.Binds.{ok_is, err_is}
use Rattle.wire_bytes.specs.Position.{Position}
use Rattle.index_parts.specs.declared.refusal.PartRefusal.{PartRefusal}
use Rattle.index_parts.specs.declared.postings_row.PostingsRow.{PostingsRow}
use Rattle.index_parts.specs.Contents.{IsToc}
use Rattle.index_parts.specs.ListReading.{list_at}
use Rattle.index_parts.specs.SymbolsReading.{symbol_at, symbols_at}
use Rattle.index_parts.specs.RowsReading.{postings_table_at}
use Rattle.index_parts.specs.Opened.{Opened}
use Rattle.index_parts.specs.IndexFile.{IsOpened}
use Rattle.index_parts.specs.Parts.{Part, known, IsPartOf, HoldsSection}
use Rattle.index_parts.proofs.SectionShifts.{Turned, symbol_turned, row_turned}
use Rattle.index_parts.proofs.Slices.{list_known}
use Rattle.index_v2.specs.declared.refusal.IndexRefusal.{IndexRefusal}
use Rattle.index_v2.specs.declared.refusal.IndexRefusal.TheVariants.{NoMemory}
use Rattle.index_v2.specs.declared.lent_parts.IndexParts.{IndexParts}
use Rattle.index_v2.specs.Held.{Held, opened_in, IsHeldOf, AreSlicesOf, HoldTables, symbols_of, table_of, held_of}
use Rattle.index_v2.specs.Opening.{refused_in, contents_at, held_at, opened_at, over_at}
use Rattle.index_v2.proofs.OpeningLaws.{contents_again, opened_again}

-- a section that is absent, or lies within its part, is read there as in the index
held_same : {A : Type 0} (section : ℕ) (read : Option A × Position → Result (A × (Option A × Position)) PartRefusal) → ((front : List ℕ) (most : ℕ) → Turned front most read) → (part : Part) (index : List ℕ) (reference : ℕ) → IsPartOf part index → (reference ≡ 0) ⊎ HoldsSection part reference → held_at section (list_at read) (known part) reference ≡ held_at section (list_at read) index reference
held_same _ _ turned _ _ _ is (inl absent) = rw absent refl
held_same {A} section _ turned _ _ reference is (inr lies) = ap (λ r. if reference == 0 then Ok [] else refused_as (refused_in section) r) (list_known _ turned _ _ _ is lies)

-- two steps whose end is seen in another way
seen : {X Y H O E : Type 0} (no_memory : E) (a : Result X E) (b : Result Y E) (make : X → Y → H) (view : H → O) (r : Result H E) → Gives no_memory (λ h. h) r (a >>= λ x. b >>= λ y. Ok (make x y)) → Gives no_memory view r (a >>= λ x. b >>= λ y. Ok (view (make x y)))
seen {E = E} _ (Ok x) (Ok y) _ view (Ok q) h = ap (λ z. Ok (view z)) (ok_is {E = E} _ q h)
seen _ (Ok x) (Ok y) _ _ (Err d) (inl out) = inl out
seen _ (Ok x) (Ok y) _ _ (Err d) (inr h) = absurd cc
seen _ (Ok x) (Err b) _ _ (Ok q) h = absurd cc
seen _ (Ok x) (Err b) _ _ (Err d) (inl out) = inl out
seen {H = H} _ (Ok x) (Err b) _ _ (Err d) (inr h) = inr (ap Err (err_is {A = H} b d h))
seen _ (Err a) b _ _ (Ok q) h = absurd cc
seen _ (Err a) b _ _ (Err d) (inl out) = inl out
seen {H = H} _ (Err a) b _ _ (Err d) (inr h) = inr (ap Err (err_is {A = H} a d h))

abbrev both_in : IndexParts → Result (List (List ℕ)) IndexRefusal → Result (List PostingsRow) IndexRefusal → Result Held IndexRefusal
both_in parts a b = a >>= λ symbols. b >>= λ rows. Ok (held_of parts symbols rows)

over_is : (parts : IndexParts) → over_at parts ≡ both_in parts (held_at 1 symbols_at (known (symbols_of parts)) parts.toc.symbols) (held_at 6 postings_table_at (known (table_of parts)) parts.toc.postings_table)
unfolding over_at
over_is _ = refl

opened_is : (parts : IndexParts) (index : List ℕ) → contents_at index ≡ Ok parts.toc → opened_at index ≡ (held_at 1 symbols_at index parts.toc.symbols >>= λ symbols. held_at 6 postings_table_at index parts.toc.postings_table >>= λ rows. Ok (opened_in index (held_of parts symbols rows)))
unfolding opened_at
opened_is _ _ contents = rw contents refl

-- of slices of an index in which its tables lie
pub over_same : (parts : IndexParts) (index : List ℕ) (r : Result Held IndexRefusal) → contents_at index ≡ Ok parts.toc → AreSlicesOf parts index → HoldTables parts → Gives NoMemory (λ h. h) r (over_at parts) → Gives NoMemory (opened_in index) r (opened_at index)
over_same parts index r contents slices hold given =
    let symbols = held_same 1 symbol_at symbol_turned (symbols_of parts) index parts.toc.symbols slices.symbols_are hold.symbols_lie in
    let rows = held_same 6 _ row_turned _ _ _ slices.table_is hold.table_lies in
    let there =
    over_is _ ∙ ap (λ a. both_in parts a (held_at 6 postings_table_at (known (table_of parts)) parts.toc.postings_table)) symbols
    ∙ ap (both_in parts (held_at 1 symbols_at index parts.toc.symbols)) rows in
    subst (Gives NoMemory (opened_in index) r) (sym (opened_is parts _ contents))
    (seen NoMemory (held_at 1 symbols_at index parts.toc.symbols) (held_at 6 postings_table_at index parts.toc.postings_table) (held_of parts) (opened_in index) r (subst (Gives NoMemory (λ h. h) r) there given))

held_or_none : (r : Result Held IndexRefusal) (opened : Opened) (Is : Held → Type 0) → opened_at opened.bytes ≡ Ok opened → IfOk r Is → Gives NoMemory (opened_in opened.bytes) r (opened_at opened.bytes) → IsOkAnd r Is ⊎ (r ≡ Err NoMemory)
held_or_none (Ok held) _ Is read holds given = inl holds
held_or_none (Err d) _ Is read holds (inl out) = inr (ap Err out)
held_or_none (Err d) _ Is read holds (inr refused) = let no = sym refused ∙ read in absurd cc

pub over_only : (parts : IndexParts) (opened : Opened) (r : Result Held IndexRefusal) → IsOpened opened → parts.toc ≡ opened.toc → AreSlicesOf parts opened.bytes → HoldTables parts → IfOk r (λ held. IsHeldOf held opened) → Gives NoMemory (λ h. h) r (over_at parts) → IsOkAnd r (λ held. IsHeldOf held opened) ⊎ (r ≡ Err NoMemory)
over_only parts opened r is toc slices hold holds given =
    held_or_none r opened _ (opened_again _ _ refl is) holds
    (over_same _ _ r (contents_again _ _ is.long is.begins (subst (IsToc opened.bytes) (sym toc) is.toc_is)) slices hold given)
