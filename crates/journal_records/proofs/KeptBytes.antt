-- A field that was read leaves the bytes as they are, and moves the place on.
use Rattle.std.proofs.Common.{◌≡◌, ℕ, List, Result, Ok, Err, sym, ap}
use Rattle.std.specs.Borrow.{Bor}
use Rattle.std.specs.Int.{Width, byte_len}
use Rattle.base.specs.Reading.{Steps}
use Rattle.base.proofs.Binds.{cond_ok, ok_is}
use Rattle.wire_bytes.specs.Position.{Position, further}
use Rattle.wire_bytes.specs.Fields.{number_at, bytes_at}
use Rattle.wire_bytes.specs.declared.varint.WireRefusal.{WireRefusal}
use Rattle.wire_bytes.proofs.ByteFields.{bytes_parts}

pub number_moves : (w : Width) (p q : Position) (n : ℕ) → number_at w p ≡ Ok (n, q) → further (byte_len w) p ≡ q
unfolding number_at
number_moves w p q n e =
    let g = cond_ok _ _ _ _ e in
    ap (λ y. y.1) (ok_is {E = WireRefusal} _ _ g.1)

pub number_keeps : (w : Width) (p q : Position) (r : Result ℕ WireRefusal) → Steps (λ n. n) p q r (number_at w p) → q.bytes ≡ p.bytes
number_keeps w p q (Ok n) e = sym (ap (λ (x : Position). x.bytes) (number_moves w p q n e))
number_keeps w p q (Err d) e = ap (λ (x : Position). x.bytes) e.1

pub bytes_keep : (count : ℕ) (p q : Position) (r : Result (Bor (List ℕ)) WireRefusal) → Steps (λ bytes. bytes.now) p q r (bytes_at count p) → q.bytes ≡ p.bytes
bytes_keep count p q (Ok bytes) e = sym (ap (λ (x : Position). x.bytes) (bytes_parts count p q _ e).2)
bytes_keep count p q (Err d) e = ap (λ (x : Position). x.bytes) e.1
