-- What a reader over parts of an index holds.
use Rattle.std.proofs.Common.{◌≡◌, ◌⊎◌, inl, inr, ℕ, ◌<◌, ◌==◌, Bool, true, false, List, [], refl, subst, Result, Ok, Err, arith}
use Rattle.std.proofs.lemmas.Bool.{ne_eqb}
use Rattle.std.specs.Prelude.{IsOk, if◌then◌else◌}
use Rattle.base.specs.Reading.{◌>>=◌, refused_as}
use Rattle.base.proofs.Binds.{bind_ok, refused_as_ok}
use Rattle.index_parts.specs.declared.postings_row.PostingsRow.{PostingsRow}
use Rattle.index_parts.specs.declared.refusal.PartRefusal.{PartRefusal}
use Rattle.index_parts.specs.SymbolsReading.{symbols_at}
use Rattle.index_parts.specs.RowsReading.{postings_table_at}
use Rattle.index_parts.specs.Parts.{known}
use Rattle.index_v2.specs.declared.refusal.IndexRefusal.{IndexRefusal}
use Rattle.index_v2.specs.declared.refusal.IndexRefusal.TheVariants.{NoMemory}
use Rattle.index_v2.specs.declared.lent_parts.IndexParts.{IndexParts}
use Rattle.index_v2.specs.Held.{Held, symbols_of, table_of, lists_of, held_of}
use Rattle.index_v2.specs.Opening.{refused_in, held_at, over_at}

-- what is chosen where a test does not hold
chosen : {A : Type 0} (test : Bool) (one other found : A) → test ≡ false → (if test then one else other) ≡ found → other ≡ found
chosen true one other found off is = absurd (cc (off))
chosen false one other found off is = is

-- a section that is there
held_there : {A : Type 0} (section : ℕ) (read : List ℕ → ℕ → Result (List A) PartRefusal) (index : List ℕ) (reference : ℕ) (found : List A)
    → 0 < reference → held_at section read index reference ≡ Ok found → read index reference ≡ Ok found
held_there section read index reference found there is =
    let some : (reference == 0) ≡ false = ne_eqb reference 0 (λ none. absurd (omega (arith, none, there))) in
    refused_as_ok (refused_in section) (read index reference) found (chosen (reference == 0) (Ok []) (refused_as (refused_in section) (read index reference)) (Ok found) some is)

-- what was read of the parts
pub record HoldsParts (parts : IndexParts) (held : Held) : Type 0 where
  pub symbols : 0 < parts.toc.symbols → symbols_at (known (symbols_of parts)) parts.toc.symbols ≡ Ok held.symbols
  pub rows : 0 < parts.toc.postings_table → postings_table_at (known (table_of parts)) parts.toc.postings_table ≡ Ok held.rows
  pub lists : held.lists ≡ lists_of parts

same_held : (one other : Held) → ◌≡◌ {A = Result Held IndexRefusal} (Ok one) (Ok other) → one ≡ other
same_held one other is = cc (is)

pub over_holds : (parts : IndexParts) (held : Held) → over_at parts ≡ Ok held → HoldsParts parts held
unfolding over_at
over_holds parts held is =
    let symbols = bind_ok (held_at 1 symbols_at (known (symbols_of parts)) parts.toc.symbols) _ held is in
    let rows = bind_ok (held_at 6 postings_table_at (known (table_of parts)) parts.toc.postings_table) _ held symbols.2 in
    let made : held_of parts symbols.0 rows.0 ≡ held = same_held (held_of parts symbols.0 rows.0) held rows.2 in
    subst (HoldsParts parts) made (record {
      symbols = λ there. held_there 1 symbols_at (known (symbols_of parts)) parts.toc.symbols symbols.0 there symbols.1;
      rows = λ there. held_there 6 postings_table_at (known (table_of parts)) parts.toc.postings_table rows.0 there rows.1;
      lists = refl;
    })

-- over a table that is read, and without symbols, nothing but memory is wanting

held_read : {A : Type 0} (section : ℕ) (b : Bool) (read : Result (List A) PartRefusal) → IsOk read → IsOk (if b then Ok [] else refused_as (refused_in section) read)
held_read section true read is = refl
held_read section false (Ok x) is = refl
held_read section false (Err e) is = absurd (cc (is))

absent_read : {A : Type 0} (section : ℕ) (read : List ℕ → ℕ → Result (List A) PartRefusal) (index : List ℕ) (reference : ℕ) → reference ≡ 0 → IsOk (held_at section read index reference)
absent_read section read index reference none = rw none refl

then_reads : {A B : Type 0} (r : Result A IndexRefusal) (later : A → Result B IndexRefusal) → IsOk r → ((x : A) → IsOk (later x)) → IsOk (r >>= later)
then_reads (Ok x) later is reads = reads x
then_reads (Err e) later is reads = absurd (cc (is))

pub over_reads : (parts : IndexParts) → parts.toc.symbols ≡ 0 → IsOk (postings_table_at (known (table_of parts)) parts.toc.postings_table) → IsOk (over_at parts)
unfolding over_at
over_reads parts none is =
    then_reads (held_at 1 symbols_at (known (symbols_of parts)) parts.toc.symbols) _ (absent_read 1 symbols_at (known (symbols_of parts)) parts.toc.symbols none)
    (λ symbols. then_reads (held_at 6 postings_table_at (known (table_of parts)) parts.toc.postings_table) _
    (held_read 6 (parts.toc.postings_table == 0) (postings_table_at (known (table_of parts)) parts.toc.postings_table) is) (λ rows. refl))

pub memory_alone : (e : IndexRefusal) (read : Result Held IndexRefusal) → IsOk read → (e ≡ NoMemory) ⊎ (read ≡ Err e) → e ≡ NoMemory
memory_alone e read is (inl out) = out
memory_alone e (Ok x) is (inr refused) = absurd cc
memory_alone e (Err d) is (inr refused) = absurd (cc (is))
