-- Where numbers rise, no entry has a number above the last one's.
use Rattle.std.proofs.Common.{ℕ, ◌<◌, ◌≤◌, suc, zero, List, [], ◌∷◌, Contains, ap, arith}
use Rattle.std.specs.Prelude.{fold}
use Rattle.std.specs.List.{All}
use Rattle.std.proofs.lemmas.List.Elements.{All-weaker}
use Rattle.world_core.specs.declared.entry.Entry.{Entry}
use Rattle.lifecycle_core.specs.Tasks.{last_number}
use Rattle.lifecycle_core.proofs.journals.Told.{Rises}

stays : (n : ℕ) (entries : List Entry) → Rises entries → All (λ (x : Entry). n ≤ x.seq) entries → n ≤ fold (λ (last : ℕ) (e : Entry). e.seq) n entries
stays n [] rises all = omega arith
stays n (e ∷ entries) rises all =
    let own : n ≤ e.seq = all 0 e (omega arith) in
    let later = stays e.seq entries rises.1 (All-weaker (λ (x : Entry). (e.seq < x.seq) × (e.moment.ms ≤ x.moment.ms)) (λ (x : Entry). e.seq ≤ x.seq) (λ x both. omega (arith, both.0)) entries rises.0) in
    omega (arith, own, later)

reaches : (n : ℕ) (x : Entry) (entries : List Entry) → Rises entries → Contains entries x → x.seq ≤ fold (λ (last : ℕ) (e : Entry). e.seq) n entries
reaches n x [] rises (k, below, is) = absurd (omega (arith, below))
reaches n x (e ∷ entries) rises (zero, below, is) =
    let later = stays e.seq entries rises.1 (All-weaker (λ (z : Entry). (e.seq < z.seq) × (e.moment.ms ≤ z.moment.ms)) (λ (z : Entry). e.seq ≤ z.seq) (λ z both. omega (arith, both.0)) entries rises.0) in
    omega (arith, later, ap (λ (z : Entry). z.seq) is)
reaches n x (e ∷ entries) rises (suc k, below, is) = reaches e.seq x entries rises.1 (k, omega (arith, below), is)

-- no number is above the last one
pub within_last : (x : Entry) (entries : List Entry) → Rises entries → Contains entries x → x.seq ≤ last_number entries
within_last x entries rises among = reaches 0 x entries rises among
