-- The numbers of entries that are read.
use Rattle.std.proofs.Common.{◌≡◌, ℕ, zero, suc, ◌+◌, List, [], ◌∷◌, ◌++◌, length, Result, Ok, Err, refl, sym, ap, subst, ◌∙◌, arith}
use Rattle.std.specs.Prelude.{IfOk}
use Rattle.base.specs.Members.{members_at}
use Rattle.base.proofs.Binds.{bind_ok, ok_is}
use Rattle.base.proofs.Lists.{cons_parts, nil_not_middle}
use Rattle.base.proofs.Counted.{members_parts}
use Rattle.wire_bytes.specs.Position.{Position}
use Rattle.world_core.specs.Journals.{IsNumbered}
use Rattle.world_core.specs.declared.entry.Entry.{Entry}
use Rattle.journal_records.specs.declared.cause.RecordCause.{RecordCause}
use Rattle.journal_records.specs.declared.cause.RecordCause.TheVariants.{NoMemory}
use Rattle.journal_records.specs.FieldReading.{small_at, large_at, MovesOn}
use Rattle.journal_records.specs.RecordReading.{op_at, reply_at, entry_at, turn_at, entries_at}

-- entries are numbered on from a number
abbrev pub AreNumbered : ℕ → List Entry → Type 0
AreNumbered next [] = Unit {0}
AreNumbered next (e ∷ entries) = (e.seq ≡ next) × AreNumbered (next + 1) entries

each_numbered : (next : ℕ) (entries before after : List Entry) (e : Entry) → AreNumbered next entries → entries ≡ before ++ e ∷ after → e.seq ≡ next + length before
each_numbered next [] before after e are split = absurd (nil_not_middle e before after split)
each_numbered next (x ∷ entries) [] after e are split =
    let parts = cons_parts x e entries after split in
    let here : next ≡ next + 0 = omega arith in
    ap (λ (y : Entry). y.seq) (sym parts.0) ∙ are.0 ∙ here
each_numbered next (x ∷ entries) (b ∷ before) after e are split =
    let parts = cons_parts x b entries (before ++ e ∷ after) split in
    omega (arith, each_numbered (next + 1) entries before after e are.1 parts.1)

pub numbered_from_one : (entries : List Entry) → AreNumbered 1 entries → IsNumbered entries
numbered_from_one entries are before after e split = omega (arith, each_numbered 1 entries before after e are split)

numbered_on : (next : ℕ) (entries : List Entry) → ((before after : List Entry) (e : Entry) → entries ≡ before ++ e ∷ after → e.seq ≡ next + length before) → AreNumbered next entries
numbered_on next [] each = tt
numbered_on next (x ∷ entries) each =
    (omega (arith, each [] entries x refl), numbered_on (next + 1) entries (λ before after e split. omega (arith, each (x ∷ before) after e (ap (λ (l : List Entry). x ∷ l) split))))

pub one_from_numbered : (entries : List Entry) → IsNumbered entries → AreNumbered 1 entries
one_from_numbered entries are = numbered_on 1 entries (λ before after e split. omega (arith, are before after e split))

-- ---- what is read has them

entry_numbered : (seq : ℕ) (p : Position) (r : Entry × Position) → entry_at seq p ≡ Ok r → r.0.seq ≡ seq
unfolding entry_at
entry_numbered seq p r e =
    let seat = bind_ok (small_at p) _ r e in
    let moment = bind_ok (large_at seat.0.1) _ r seat.2 in
    let op = bind_ok (op_at moment.0.1) _ r moment.2 in
    let reply = bind_ok (reply_at op.0.0 op.0.1) _ r op.2 in
    ap (λ (y : Entry × Position). y.0.seq) (sym (ok_is {E = RecordCause} _ _ reply.2))

members_numbered : (n : ℕ) (p : Position) (seq : ℕ) (r : List Entry × (Position × ℕ)) → members_at turn_at n (p, seq) ≡ Ok r → AreNumbered seq r.0
unfolding members_at turn_at
members_numbered zero p seq r e = subst (λ (y : List Entry × (Position × ℕ)). AreNumbered seq y.0) (ok_is {E = RecordCause} _ _ e) tt
members_numbered (suc n) p seq r e =
    let parts = members_parts turn_at n (p, seq) r.1 r.0 e in
    let one = bind_ok (entry_at seq p) _ (parts.0, parts.1) parts.3 in
    let same : (one.0.0, (one.0.1, seq + 1)) ≡ (parts.0, parts.1) = ok_is {E = RecordCause} _ _ one.2 in
    let read : members_at turn_at n (one.0.1, seq + 1) ≡ Ok (parts.2, r.1) = ap (λ (y : Entry × (Position × ℕ)). members_at turn_at n y.1) same ∙ parts.4 in
    let all : one.0.0 ∷ parts.2 ≡ r.0 = ap (λ (y : Entry × (Position × ℕ)). y.0 ∷ parts.2) same ∙ parts.5 in
    subst (λ (es : List Entry). AreNumbered seq es) all (entry_numbered seq p one.0 one.1, members_numbered n one.0.1 (seq + 1) (parts.2, r.1) read)

pub entries_numbered : (count : ℕ) (p : Position) (r : List Entry × Position) → entries_at count p ≡ Ok r → IsNumbered r.0
unfolding entries_at
entries_numbered count p r e =
    let read = bind_ok (members_at turn_at count (p, 1)) _ r e in
    let same : (read.0.0, read.0.1.0) ≡ r = ok_is {E = RecordCause} _ _ read.2 in
    numbered_from_one r.0 (subst (λ (y : List Entry × Position). AreNumbered 1 y.0) same (members_numbered count p 1 read.0 read.1))

pub call_numbered : (count : ℕ) (p q : Position) (result : Result (List Entry) RecordCause) → MovesOn NoMemory (λ es. es) q result (entries_at count p) → IfOk result IsNumbered
call_numbered count p q (Ok entries) moves = entries_numbered count p (entries, q) moves
call_numbered count p q (Err e) moves = tt

pub read_numbered : (count : ℕ) (p : Position) (r : List Entry × (Position × ℕ)) → members_at turn_at count (p, 1) ≡ Ok r → IsNumbered r.0
read_numbered count p r e = numbered_from_one r.0 (members_numbered count p 1 r e)
