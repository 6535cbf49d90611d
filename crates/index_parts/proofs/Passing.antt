-- Each field of a chunk takes a byte at least, whatever the bytes are.
use Rattle.std.proofs.Common.{◌≡◌, ℕ, zero, suc, ◌+◌, ◌-◌, ◌*◌, ◌≤◌, Bool, true, false, cond, List, [], ◌∷◌, length, drop, Option, Some, None, Result, Ok, Err, sym, ap, subst, arith, ℤ, pos, ◌+ℤ◌}
use Rattle.std.specs.Prelude.{nat_lt}
use Rattle.std.proofs.lemmas.List.{length-drop}
use Rattle.base.specs.Decimal.{fits_signed}
use Rattle.base.specs.Members.{members_at}
use Rattle.base.specs.Reading.{◌>>=◌}
use Rattle.base.proofs.Binds.{bind_ok, ok_is, unless_ok, refused_as_ok}
use Rattle.base.proofs.Counted.{members_parts}
use Rattle.wire_bytes.specs.Position.{Position, left, further}
use Rattle.wire_bytes.specs.Fields.{uvarint_at, varint_at, groups_of, group_base}
use Rattle.wire_bytes.specs.declared.varint.WireRefusal.{WireRefusal}
use Rattle.wire_bytes.specs.declared.varint.WireRefusal.TheVariants as wire
use Rattle.wire_bytes.proofs.FieldLaws.{left-further}
use Rattle.index_parts.specs.declared.chunk_place.ChunkPlace.{ChunkPlace}
use Rattle.index_parts.specs.declared.refusal.PartRefusal.{PartRefusal}
use Rattle.index_parts.specs.declared.refusal.PartRefusal.TheVariants.{Overlong}
use Rattle.index_parts.specs.Placed.{field, refused_at}
use Rattle.index_parts.specs.ListReading.{turns_at}
use Rattle.index_parts.specs.SeriesReading.{fits_unsigned, later_at, moved_at, begin_at, reference_at, chunk_at, chunks_at}

-- so many bytes at least lie between two positions
abbrev Passes : ℕ → Position → Position → Type 0
Passes least p q = length (left q) + least ≤ length (left p)

-- ---- groups

abbrev OfSome : List ℕ → ℕ → Type 0
OfSome bytes count = (1 ≤ count) × (count ≤ length bytes)

last_by : (b : Bool) (group n count : ℕ) (groups : List ℕ) → ◌≡◌ {A = Result (ℕ × ℕ) WireRefusal} (cond b (Ok (group, 1)) (Err wire.Overlong)) (Ok (n, count)) → OfSome (group ∷ groups) count
last_by true group n count groups e = let one : 1 ≡ count = ap (λ (x : ℕ × ℕ). x.1) (ok_is {E = WireRefusal} _ _ e) in (omega (arith, one), omega (arith, one))
last_by false group n count groups e = absurd cc

more_by : (b : Bool) (group n count : ℕ) (groups : List ℕ) (read : Result (ℕ × ℕ) WireRefusal) → ((m c : ℕ) → read ≡ Ok (m, c) → OfSome groups c)
    → cond {A = Result (ℕ × ℕ) WireRefusal} b (Ok (group, 1)) (read >>= λ high. Ok (group - group_base + group_base * high.0, high.1 + 1)) ≡ Ok (n, count) → OfSome (group ∷ groups) count
more_by true group n count groups read few e = let one : 1 ≡ count = ap (λ (x : ℕ × ℕ). x.1) (ok_is {E = WireRefusal} _ _ e) in (omega (arith, one), omega (arith, one))
more_by false group n count groups read few e =
    let high = bind_ok read _ _ e in
    let less = few high.0.0 high.0.1 high.1 in
    let one : high.0.1 + 1 ≡ count = ap (λ (x : ℕ × ℕ). x.1) (ok_is {E = WireRefusal} _ _ high.2) in
    (omega (arith, one, less.0), omega (arith, one, less.1))

groups_few : (more : ℕ) (bytes : List ℕ) (n count : ℕ) → groups_of more bytes ≡ Ok (n, count) → OfSome bytes count
unfolding groups_of
groups_few zero [] n count e = absurd cc
groups_few (suc more) [] n count e = absurd cc
groups_few zero (group ∷ groups) n count e = last_by (nat_lt group 2) group n count groups e
groups_few (suc more) (group ∷ groups) n count e = more_by (nat_lt group group_base) group n count groups (groups_of more groups) (λ m c read. groups_few more groups m c read) e

-- ---- fields

number_passes : (p q : Position) (n : ℕ) → uvarint_at p ≡ Ok (n, q) → Passes 1 p q
unfolding uvarint_at
number_passes p q n e =
    let read = bind_ok _ _ _ e in
    let few = groups_few _ (left p) read.0.0 read.0.1 read.1 in
    let here : Passes 1 p (further read.0.1 p) = omega (arith, few.0, few.1, ap length (left-further read.0.1 p), length-drop read.0.1 (left p)) in
    subst (Passes 1 p) (ap (λ (x : ℕ × Position). x.1) (ok_is {E = WireRefusal} _ _ read.2)) here

uvarint_passes : (p q : Position) (n : ℕ) → field uvarint_at p ≡ Ok (n, q) → Passes 1 p q
uvarint_passes p q n e = number_passes p q n (refused_as_ok (refused_at p.place) (uvarint_at p) (n, q) e)

varint_passes : (p q : Position) (z : ℤ) → field varint_at p ≡ Ok (z, q) → Passes 1 p q
unfolding varint_at
varint_passes p q z e =
    let read = bind_ok _ _ _ (refused_as_ok (refused_at p.place) (varint_at p) (z, q) e) in
    subst (Passes 1 p) (ap (λ (x : ℤ × Position). x.1) (ok_is {E = WireRefusal} _ _ read.2)) (number_passes p read.0.1 read.0.0 read.1)

-- ---- a chunk

later_passes : (time : ℤ) (p q : Position) (t : ℤ) → later_at time p ≡ Ok (t, q) → Passes 1 p q
unfolding later_at
later_passes time p q t e =
    let by = bind_ok _ _ _ e in
    let tested = unless_ok (fits_signed (time +ℤ pos by.0.0)) (Overlong p.place) _ _ by.2 in
    subst (Passes 1 p) (ap (λ (x : ℤ × Position). x.1) (ok_is {E = PartRefusal} _ _ tested.1)) (uvarint_passes p by.0.1 by.0.0 by.1)

moved_passes : (reference : ℕ) (p q : Position) (r : ℕ) → moved_at reference p ≡ Ok (r, q) → Passes 1 p q
unfolding moved_at
moved_passes reference p q r e =
    let by = bind_ok _ _ _ e in
    let tested = unless_ok (fits_unsigned (pos reference +ℤ by.0.0)) (Overlong p.place) _ _ by.2 in
    subst (Passes 1 p) (ap (λ (x : ℕ × Position). x.1) (ok_is {E = PartRefusal} _ _ tested.1)) (varint_passes p by.0.1 by.0.0 by.1)

begin_passes : (before : Option ChunkPlace) (p q : Position) (t : ℤ) → begin_at before p ≡ Ok (t, q) → Passes 1 p q
unfolding begin_at
begin_passes None p q t e = varint_passes p q t e
begin_passes (Some b) p q t e = later_passes b.max p q t e

reference_passes : (before : Option ChunkPlace) (p q : Position) (r : ℕ) → reference_at before p ≡ Ok (r, q) → Passes 1 p q
unfolding reference_at
reference_passes None p q r e = uvarint_passes p q r e
reference_passes (Some b) p q r e = moved_passes _ p q r e

abbrev Walker : Type 0
Walker = Option ChunkPlace × Position

chunk_passes : (s t : Walker) (x : ChunkPlace) → chunk_at s ≡ Ok (x, t) → Passes 3 s.1 t.1
unfolding chunk_at
chunk_passes s t x e =
    let min = bind_ok {A = ℤ × Position} {B = ChunkPlace × Walker} {E = PartRefusal} (begin_at s.0 s.1) _ _ e in
    let max = bind_ok {A = ℤ × Position} {B = ChunkPlace × Walker} {E = PartRefusal} (later_at min.0.0 min.0.1) _ _ min.2 in
    let reference = bind_ok {A = ℕ × Position} {B = ChunkPlace × Walker} {E = PartRefusal} (reference_at s.0 max.0.1) _ _ max.2 in
    let here : Passes 3 s.1 reference.0.1 = omega (arith, begin_passes s.0 s.1 min.0.1 min.0.0 min.1, later_passes min.0.0 min.0.1 max.0.1 max.0.0 max.1, reference_passes s.0 max.0.1 reference.0.1 reference.0.0 reference.1) in
    subst (Passes 3 s.1) (ap (λ (y : ChunkPlace × Walker). y.1.1) (ok_is {E = PartRefusal} _ _ reference.2)) here

all_pass : (n : ℕ) (s t : Walker) (chunks : List ChunkPlace) → members_at chunk_at n s ≡ Ok (chunks, t) → Passes (3 * length chunks) s.1 t.1
unfolding members_at
all_pass zero s t chunks e =
    let same = ok_is {E = PartRefusal} _ _ e in
    omega (arith, ap (λ (y : List ChunkPlace × Walker). length y.0) same, ap (λ (y : List ChunkPlace × Walker). length (left y.1.1)) same)
all_pass (suc n) s t chunks e =
    let m = members_parts chunk_at n s t chunks e in
    omega (arith, chunk_passes s m.1 m.0 m.3, all_pass n m.1 t m.2 m.4, ap length m.5)

-- Chunks are no more than a third of the bytes behind their count.
pub chunks_few : (p : Position) (chunks : List ChunkPlace) → chunks_at p ≡ Ok chunks → 3 * length chunks ≤ length (left p)
unfolding chunks_at turns_at
chunks_few p chunks e =
    let count = bind_ok _ _ _ e in
    let all = bind_ok _ _ _ count.2 in
    omega (arith, uvarint_passes p count.0.1 count.0.0 count.1, all_pass count.0.0 (None, count.0.1) all.0.1 all.0.0 all.1, ap length (ok_is {E = PartRefusal} _ _ all.2))
