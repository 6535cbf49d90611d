-- Records: what is read is the record that the bytes are, and each record is read.
use Rattle.std.proofs.Common.{◌≡◌, ℕ, ◌+◌, ◌≤◌, true, List, [], ◌++◌, length, take, Result, Ok, Err, refl, sym, ap, subst, ◌∙◌, append_assoc, length-append, arith, ◌⊎◌, inl, inr}
use Rattle.std.specs.Prelude.{◌==◌, nat_le, IfOk}
use Rattle.std.proofs.lemmas.Bool.{eqb-true, eq-eqb, leb-true, le-leb}
use Rattle.std.proofs.lemmas.List.{take_at, append-nil, drop_all}
use Rattle.base.specs.Reading.{◌>>=◌, ◌>>◌, unless, Gives}
use Rattle.base.specs.Grammar.{IsBytes}
use Rattle.base.proofs.Binds.{bind_ok, then_ok, unless_ok, unless_is, ok_is}
use Rattle.wire_bytes.specs.Position.{Position, left, further, start}
use Rattle.wire_bytes.specs.Crc.{crc}
use Rattle.wire_bytes.proofs.FieldLaws.{left_after}
use Rattle.world_core.specs.Journals.{IsNumbered}
use Rattle.journal_records.specs.declared.cause.RecordCause.{RecordCause}
use Rattle.journal_records.specs.declared.cause.RecordCause.TheVariants.{TooLong, BadMagic, Trailing, BadSum, NoMemory}
use Rattle.journal_records.specs.declared.run_record.Record.{Record}
use Rattle.journal_records.specs.Limits.{magic, most_bytes}
use Rattle.journal_records.specs.FieldReading.{small_at, large_at, blob_at}
use Rattle.journal_records.specs.RecordReading.{entries_at, begin_at, body_at, test_sum, record_of}
use Rattle.journal_records.specs.RecordText.{Field, ◌▸◌, IsSmall, IsLarge, IsBlob, IsBody, IsRecord}
use Rattle.journal_records.proofs.Standing.{Stands, Reads, step, goes, join, bytes_behind}
use Rattle.journal_records.proofs.FieldsTied.{small_tied, large_tied, blob_tied}
use Rattle.journal_records.proofs.ManyTied.{Many}
use Rattle.journal_records.proofs.EntryNumbers.{AreNumbered, one_from_numbered, entries_numbered}
use Rattle.journal_records.proofs.EntriesTied.{EntryField, counted_stand, counted_read}

-- ---- the body

begin_stands : (p : Position) (r : List ℕ × Position) → IsBytes (left p) → begin_at p ≡ Ok r → Stands (IsLarge magic ▸ IsBlob r.0) p r.1
unfolding begin_at
begin_stands p r are e =
    let first = step large_at IsLarge _ p r large_tied are e in
    let tested = unless_ok (first.0.0 == magic) BadMagic _ r first.3 in
    let blob = blob_tied.found first.0.1 r first.2 tested.1 in
    let begins = subst (λ (n : ℕ). Stands (IsLarge n) p first.0.1) (eqb-true first.0.0 magic tested.0) first.1 in
    join (IsLarge magic) (IsBlob r.0) p first.0.1 r.1 begins blob

-- the parts of a body in another order of brackets
regroup : (F G H : Field) (p q : Position) → Stands ((F ▸ G) ▸ H) p q → Stands (F ▸ G ▸ H) p q
regroup F G H p q s =
    let outer = s.1 in
    let inner = outer.2 in
    let same : s.0 ≡ inner.0 ++ (inner.1 ++ outer.1) = outer.4 ∙ ap (λ (t : List ℕ). t ++ outer.1) inner.4 ∙ append_assoc inner.0 inner.1 outer.1 in
    (s.0, (inner.0, inner.1 ++ outer.1, inner.2, (inner.1, outer.1, inner.3, outer.3, refl), same), s.2, s.3)

body_stands : (p : Position) (r : Record × Position) → IsBytes (left p) → body_at p ≡ Ok r → Stands (IsBody r.0) p r.1 × IsNumbered r.0.journal
unfolding body_at
body_stands p r are e =
    let script = bind_ok (begin_at p) _ r e in
    let begins = begin_stands p script.0 are script.1 in
    let behind = bytes_behind (IsLarge magic ▸ IsBlob script.0.0) p script.0.1 begins are in
    let count = step large_at IsLarge _ script.0.1 r large_tied behind script.2 in
    let entries = bind_ok (entries_at count.0.0 count.0.1) _ r count.3 in
    let stand = counted_stand count.0.0 count.0.1 entries.0 count.2 entries.1 in
    let number = subst (λ (n : ℕ). Stands (IsLarge n) script.0.1 count.0.1) (sym stand.1) count.1 in
    let listed = join (IsLarge (length entries.0.0)) (Many EntryField entries.0.0) script.0.1 count.0.1 entries.0.1 number stand.0 in
    let whole = join (IsLarge magic ▸ IsBlob script.0.0) (IsLarge (length entries.0.0) ▸ Many EntryField entries.0.0) p script.0.1 entries.0.1 begins listed in
    let grouped = regroup (IsLarge magic) (IsBlob script.0.0) (IsLarge (length entries.0.0) ▸ Many EntryField entries.0.0) p entries.0.1 whole in
    subst (λ (y : Record × Position). Stands (IsBody y.0) p y.1 × IsNumbered y.0.journal) (ok_is {E = RecordCause} _ _ entries.2) (grouped, entries_numbered count.0.0 count.0.1 entries.0 entries.1)

begin_read : (script : List ℕ) → Reads begin_at (IsLarge magic ▸ IsBlob script) script
unfolding begin_at
begin_read script =
    goes large_at (IsLarge magic) magic (λ first. unless (first.0 == magic) BadMagic >> blob_at first.1) (IsBlob script) script (large_tied.again magic)
    (λ q bytes after is e. blob_tied.again script q bytes after is e)

grouped : (F G H : Field) (bytes : List ℕ) → (F ▸ G ▸ H) bytes → ((F ▸ G) ▸ H) bytes
grouped F G H bytes s =
    let inner = s.3 in
    let same : bytes ≡ (s.0 ++ inner.0) ++ inner.1 = s.4 ∙ ap (λ (t : List ℕ). s.0 ++ t) inner.4 ∙ sym (append_assoc s.0 inner.0 inner.1) in
    (s.0 ++ inner.0, inner.1, (s.0, inner.0, s.2, inner.2, refl), inner.3, same)

body_read : (r : Record) → AreNumbered 1 r.journal → Reads body_at (IsBody r) r
unfolding body_at
body_read r numbered p bytes after is e =
    let entries = Many EntryField r.journal in
    goes begin_at (IsLarge magic ▸ IsBlob r.script) r.script (λ script. large_at script.1 >>= λ count. (entries_at count.0 count.1 >>= λ found. Ok (record { script = script.0; journal = found.0 }, found.1)))
    (IsLarge (length r.journal) ▸ entries) r (begin_read r.script)
    (goes large_at (IsLarge (length r.journal)) (length r.journal) (λ count. entries_at count.0 count.1 >>= λ found. Ok (record { script = r.script; journal = found.0 }, found.1)) entries r (large_tied.again (length r.journal))
    (λ q own behind shown rest. rw (counted_read r.journal numbered q own behind shown rest) refl))
    p bytes after (grouped (IsLarge magic) (IsBlob r.script) (IsLarge (length r.journal) ▸ entries) bytes is) e

-- ---- the sum

-- what is left where nothing is left
nothing_left : (q : Position) → nat_le (length q.bytes) q.place ≡ true → left q ≡ []
nothing_left q all = drop_all q.place q.bytes (leb-true _ _ all)

sum_stands : (p : Position) → IsBytes (left p) → test_sum p ≡ Ok tt → IsSmall (crc (take p.place p.bytes)) (left p)
unfolding test_sum
sum_stands p are e =
    let kept = step small_at IsSmall _ p tt small_tied are e in
    let ended = unless_ok (nat_le (length kept.0.1.bytes) kept.0.1.place) (Trailing kept.0.1.place) _ tt kept.3 in
    let summed = unless_is (kept.0.0 == crc (take p.place p.bytes)) (BadSum kept.0.0 (crc (take p.place p.bytes))) ended.1 in
    let same = eqb-true kept.0.0 (crc (take p.place p.bytes)) summed in
    let stands = kept.1 in
    let none : left kept.0.1 ≡ [] = nothing_left kept.0.1 ended.0 in
    let all : left p ≡ stands.0 = stands.2 ∙ ap (λ (t : List ℕ). stands.0 ++ t) none ∙ append-nil stands.0 in
    subst (IsSmall (crc (take p.place p.bytes))) (sym all) (subst (λ (n : ℕ). IsSmall n stands.0) same stands.1)

-- ---- the record

pub record_found : (bytes : List ℕ) (r : Record) → IsBytes bytes → record_of bytes ≡ Ok r → IsRecord bytes r
unfolding record_of
record_found bytes r are e =
    let small = unless_ok (nat_le (length bytes) most_bytes) TooLong _ r e in
    let body = bind_ok (body_at (start bytes)) _ r small.1 in
    let tested = then_ok (test_sum body.0.1) _ r body.2 in
    let same : body.0.0 ≡ r = ok_is {E = RecordCause} _ _ tested.2 in
    let stands = body_stands (start bytes) body.0 are body.1 in
    let is = stands.0 in
    let behind = bytes_behind (IsBody body.0.0) (start bytes) body.0.1 is are in
    let sum = sum_stands body.0.1 behind tested.1 in
    let at : further (length is.0) (start bytes) ≡ body.0.1 = is.3 in
    let from : 0 + length is.0 ≡ length is.0 = omega arith in
    let front : take body.0.1.place body.0.1.bytes ≡ is.0 =
    ap (λ (x : Position). take x.place x.bytes) (sym at) ∙ ap (λ (n : ℕ). take n bytes) from ∙ ap (take (length is.0)) is.2 ∙ take_at is.0 (left body.0.1) (length is.0) refl in
    subst (IsRecord bytes) same (record {
      body = is.0;
      sum = left body.0.1;
      is_body = is.1;
      is_sum = subst (λ (t : List ℕ). IsSmall (crc t) (left body.0.1)) front sum;
      bytes_are = is.2;
      numbered = stands.1;
    })

sum_read : (p : Position) (front sum : List ℕ) → take p.place p.bytes ≡ front → length p.bytes ≤ p.place + length sum → IsSmall (crc front) sum → left p ≡ sum → test_sum p ≡ Ok tt
unfolding test_sum
sum_read p front sum before ended is_sum rest =
    let kept = small_tied.again (crc front) p sum [] is_sum (rest ∙ sym (append-nil sum)) in
    let all = le-leb (length p.bytes) (p.place + length sum) ended in
    rw (kept, all, before, eq-eqb (crc front) (crc front) refl) refl

pub record_again : (bytes : List ℕ) (r : Record) → IsRecord bytes r → length bytes ≤ most_bytes → record_of bytes ≡ Ok r
unfolding record_of
record_again bytes r is few =
    let p = further (length is.body) (start bytes) in
    let small = le-leb (length bytes) most_bytes few in
    let body = body_read r (one_from_numbered r.journal is.numbered) (start bytes) is.body is.sum is.is_body is.bytes_are in
    let from : 0 + length is.body ≡ length is.body = omega arith in
    let front : take (0 + length is.body) bytes ≡ is.body = ap (λ (n : ℕ). take n bytes) from ∙ ap (take (length is.body)) is.bytes_are ∙ take_at is.body is.sum (length is.body) refl in
    let long : length bytes ≤ 0 + length is.body + length is.sum = omega (arith, ap length is.bytes_are, length-append is.body is.sum) in
    let rest : left p ≡ is.sum = left_after is.body is.sum (start bytes) is.bytes_are in
    let summed = sum_read p is.body is.sum front long is.is_sum rest in
    rw (small, body, summed) refl

-- ---- of a call

pub call_finds : (bytes : List ℕ) (result : Result Record RecordCause) → IsBytes bytes → Gives NoMemory (λ r. r) result (record_of bytes) → IfOk result (IsRecord bytes)
call_finds bytes (Ok r) are gives = record_found bytes r are gives
call_finds bytes (Err e) are gives = tt

pub call_reads : (bytes : List ℕ) (result : Result Record RecordCause) → Gives NoMemory (λ r. r) result (record_of bytes) → (r : Record) → IsRecord bytes r → length bytes ≤ most_bytes → (result ≡ Ok r) ⊎ (result ≡ Err NoMemory)
call_reads bytes (Ok x) gives r is few = let same = ok_is {E = RecordCause} x r (sym gives ∙ record_again bytes r is few) in inl (ap (λ (y : Record). Ok y) same)
call_reads bytes (Err e) (inl out) r is few = inr (ap (λ (c : RecordCause). Err c) out)
call_reads bytes (Err e) (inr refused) r is few = let again = record_again bytes r is few in absurd cc
