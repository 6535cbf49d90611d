-- Entries: what is read stands there, and what stands there in the order of its numbers is read.
use Rattle.std.proofs.Common.{◌≡◌, ℕ, zero, suc, ◌+◌, List, [], ◌∷◌, ◌++◌, length, Ok, refl, sym, ap, subst, ◌∙◌, append_assoc, arith}
use Rattle.base.specs.Reading.{◌>>=◌}
use Rattle.base.specs.Members.{members_at}
use Rattle.base.specs.Grammar.{IsBytes}
use Rattle.base.proofs.Binds.{bind_ok, ok_is}
use Rattle.base.proofs.Counted.{members_first, members_parts, length-members}
use Rattle.wire_bytes.specs.Position.{Position, left, further}
use Rattle.wire_bytes.proofs.FieldLaws.{left_after}
use Rattle.world_core.specs.Operations.{IsReplyTo}
use Rattle.world_core.specs.declared.op.Op.{Op}
use Rattle.world_core.specs.declared.reply.Reply.{Reply}
use Rattle.world_core.specs.declared.entry.Entry.{Entry}
use Rattle.journal_records.specs.declared.cause.RecordCause.{RecordCause}
use Rattle.journal_records.specs.FieldReading.{small_at, large_at}
use Rattle.journal_records.specs.RecordReading.{op_at, reply_at, entry_at, turn_at, entries_at}
use Rattle.journal_records.specs.RecordText.{Field, ◌▸◌, IsSmall, IsLarge, IsOp, IsReply, IsEntry}
use Rattle.journal_records.proofs.Standing.{Stands, Reads, step, goes, join, bytes_behind, further_joined}
use Rattle.journal_records.proofs.FieldsTied.{small_tied, large_tied}
use Rattle.journal_records.proofs.ManyTied.{Many, many_none, many_more}
use Rattle.journal_records.proofs.EntryNumbers.{AreNumbered}
use Rattle.journal_records.proofs.OpsTied.{op_tied}
use Rattle.journal_records.proofs.RepliesTied.{reply_stands, reply_read}

-- ---- an entry

abbrev pub EntryField : Entry → Field
EntryField e = λ bytes. IsEntry bytes e

abbrev entry_of : ℕ → ℕ → ℕ → Op → Reply → Entry
entry_of seq seat ms op reply = record { seq = seq; seat = seat; moment = record { ms = ms }; op = op; reply = reply }

fields_stand : (p q : Position) (e : Entry) → Stands (IsSmall e.seat ▸ IsLarge e.moment.ms ▸ IsOp e.op ▸ IsReply e.reply) p q → IsReplyTo e.op e.reply → Stands (EntryField e) p q
fields_stand p q e fields kind = (fields.0, record { fields = fields.1; kind = kind }, fields.2, fields.3)

entry_stands : (seq : ℕ) (p : Position) (r : Entry × Position) → IsBytes (left p) → entry_at seq p ≡ Ok r → Stands (EntryField r.0) p r.1
unfolding entry_at
entry_stands seq p r are e =
    let seat = step small_at IsSmall _ p r small_tied are e in
    let moment = step large_at IsLarge _ seat.0.1 r large_tied seat.2 seat.3 in
    let op = step op_at IsOp _ moment.0.1 r op_tied moment.2 moment.3 in
    let reply = bind_ok (reply_at op.0.0 op.0.1) _ r op.3 in
    let told = reply_stands op.0.0 op.0.1 reply.0 op.2 reply.1 in
    let acted = join (IsOp op.0.0) (IsReply reply.0.0) moment.0.1 op.0.1 reply.0.1 op.1 told.0 in
    let timed = join (IsLarge moment.0.0) (IsOp op.0.0 ▸ IsReply reply.0.0) seat.0.1 moment.0.1 reply.0.1 moment.1 acted in
    let whole = join (IsSmall seat.0.0) (IsLarge moment.0.0 ▸ IsOp op.0.0 ▸ IsReply reply.0.0) p seat.0.1 reply.0.1 seat.1 timed in
    subst (λ (y : Entry × Position). Stands (EntryField y.0) p y.1) (ok_is {E = RecordCause} _ _ reply.2) (fields_stand p reply.0.1 (entry_of seq seat.0.0 moment.0.0 op.0.0 reply.0.0) whole told.1)

entry_read : (e : Entry) → Reads (entry_at e.seq) (EntryField e) e
unfolding entry_at
entry_read e p bytes after is split =
    goes small_at (IsSmall e.seat) e.seat (λ seat. large_at seat.1 >>= λ moment. (op_at moment.1 >>= λ op. (reply_at op.0 op.1 >>= λ reply. Ok (entry_of e.seq seat.0 moment.0 op.0 reply.0, reply.1))))
    (IsLarge e.moment.ms ▸ IsOp e.op ▸ IsReply e.reply) e (small_tied.again e.seat)
    (goes large_at (IsLarge e.moment.ms) e.moment.ms (λ moment. op_at moment.1 >>= λ op. (reply_at op.0 op.1 >>= λ reply. Ok (entry_of e.seq e.seat moment.0 op.0 reply.0, reply.1)))
    (IsOp e.op ▸ IsReply e.reply) e (large_tied.again e.moment.ms)
    (goes op_at (IsOp e.op) e.op (λ op. reply_at op.0 op.1 >>= λ reply. Ok (entry_of e.seq e.seat e.moment.ms op.0 reply.0, reply.1)) (IsReply e.reply) e (op_tied.again e.op)
    (λ q own behind shown rest. rw (reply_read e.op e.reply is.kind q own behind shown rest) refl)))
    p bytes after is.fields split

-- ---- entries

entries_stand : (n : ℕ) (p : Position) (seq : ℕ) (r : List Entry × (Position × ℕ)) → IsBytes (left p) → members_at turn_at n (p, seq) ≡ Ok r → Stands (Many EntryField r.0) p r.1.0
unfolding members_at turn_at
entries_stand zero p seq r are e =
    subst (λ (y : List Entry × (Position × ℕ)). Stands (Many EntryField y.0) p y.1.0) (ok_is {E = RecordCause} _ _ e) (many_none EntryField p)
entries_stand (suc n) p seq r are e =
    let parts = members_parts turn_at n (p, seq) r.1 r.0 e in
    let one = bind_ok (entry_at seq p) _ (parts.0, parts.1) parts.3 in
    let same : (one.0.0, (one.0.1, seq + 1)) ≡ (parts.0, parts.1) = ok_is {E = RecordCause} _ _ one.2 in
    let first = entry_stands seq p one.0 are one.1 in
    let behind = bytes_behind (EntryField one.0.0) p one.0.1 first are in
    let read : members_at turn_at n (one.0.1, seq + 1) ≡ Ok (parts.2, r.1) = ap (λ (y : Entry × (Position × ℕ)). members_at turn_at n y.1) same ∙ parts.4 in
    let others = entries_stand n one.0.1 (seq + 1) (parts.2, r.1) behind read in
    let all : one.0.0 ∷ parts.2 ≡ r.0 = ap (λ (y : Entry × (Position × ℕ)). y.0 ∷ parts.2) same ∙ parts.5 in
    subst (λ (es : List Entry). Stands (Many EntryField es) p r.1.0) all (many_more EntryField one.0.0 parts.2 p one.0.1 r.1.0 first others)

turn_read : (e : Entry) (seq : ℕ) (p : Position) (bytes after : List ℕ) → e.seq ≡ seq → IsEntry bytes e → left p ≡ bytes ++ after → turn_at (p, seq) ≡ Ok (e, (further (length bytes) p, seq + 1))
unfolding turn_at
turn_read e seq p bytes after numbered is split =
    let read : entry_at seq p ≡ Ok (e, further (length bytes) p) = ap (λ (n : ℕ). entry_at n p) (sym numbered) ∙ entry_read e p bytes after is split in
    rw read refl

entries_again : (entries : List Entry) (p : Position) (seq : ℕ) (bytes after : List ℕ) → AreNumbered seq entries → Many EntryField entries bytes → left p ≡ bytes ++ after
    → (next : ℕ) × (members_at turn_at (length entries) (p, seq) ≡ Ok (entries, (further (length bytes) p, next)))
unfolding members_at
entries_again [] p seq bytes after numbered is split =
    let places : p.place ≡ p.place + 0 = omega arith in
    let same : p ≡ further (length bytes) p = ap (λ (place : ℕ). record { bytes = p.bytes; place = place }) places ∙ ap (λ (t : List ℕ). further (length t) p) (sym is) in
    (seq, ap (λ (z : Position). Ok ([], (z, seq))) same)
entries_again (e ∷ entries) p seq bytes after numbered is split =
    let whole : left p ≡ is.0 ++ (is.1 ++ after) = split ∙ ap (λ (t : List ℕ). t ++ after) is.4 ∙ append_assoc is.0 is.1 after in
    let q = further (length is.0) p in
    let first = turn_read e seq p is.0 (is.1 ++ after) numbered.0 is.2 whole in
    let others = entries_again entries q (seq + 1) is.1 after numbered.1 is.3 (left_after is.0 (is.1 ++ after) p whole) in
    let place : further (length is.1) q ≡ further (length bytes) p = further_joined is.0 is.1 p ∙ ap (λ (t : List ℕ). further (length t) p) (sym is.4) in
    (others.0, members_first turn_at (length entries) (p, seq) (q, seq + 1) (further (length is.1) q, others.0) e entries first others.1 ∙ ap (λ (z : Position). Ok (e ∷ entries, (z, others.0))) place)

-- ---- entries behind their count

pub counted_stand : (count : ℕ) (p : Position) (r : List Entry × Position) → IsBytes (left p) → entries_at count p ≡ Ok r → Stands (Many EntryField r.0) p r.1 × (length r.0 ≡ count)
unfolding entries_at
counted_stand count p r are e =
    let read = bind_ok (members_at turn_at count (p, 1)) _ r e in
    let same : (read.0.0, read.0.1.0) ≡ r = ok_is {E = RecordCause} _ _ read.2 in
    let stands = entries_stand count p 1 read.0 are read.1 in
    let many = length-members turn_at count (p, 1) read.0.1 read.0.0 read.1 in
    subst (λ (y : List Entry × Position). Stands (Many EntryField y.0) p y.1 × (length y.0 ≡ count)) same (stands, many)

pub counted_read : (entries : List Entry) → AreNumbered 1 entries → Reads (entries_at (length entries)) (Many EntryField entries) entries
unfolding entries_at
counted_read entries numbered p bytes after is split =
    let read = entries_again entries p 1 bytes after numbered is split in
    rw (read.1) refl
