-- Samples put one after another.
use Rattle.std.proofs.Common.{◌≡◌, ℕ, ◌+◌, ◌^◌, ◌<◌, ◌≤◌, Bool, List, ◌∷◌, ◌++◌, length, get_or, drop, refl, sym, ap, subst, ◌∙◌, append_assoc}
use Rattle.std.specs.List.{AllWithin}
use Rattle.std.proofs.lemmas.List.{append-nil, drop_more, drop_all, get_or_default}
use Rattle.std.proofs.lemmas.List.Elements.{AllWithin-more}
use Rattle.std.specs.Prelude.{FitsSigned}
use Rattle.std.specs.Int.{cast_signed, cast_unsigned, w64}
use Rattle.std.proofs.lemmas.Int.{to_z-of_z}
use Rattle.label_sets.specs.declared.sample.Sample.{Sample}
use Rattle.xor_chunks.specs.declared.encoding.LastWritten.{LastWritten}
use Rattle.xor_chunks.specs.Written.{CanFollow, AreToCome, put_after, next_bits, others_bits}

-- what a loop has put so far, with what is still to be put, is the whole
pub record HasPut (start : List Bool) (second : LastWritten) (samples : List Sample) (i : ℕ) (written : List Bool) (put : LastWritten) : Type 0 where
  pub to_come : AreToCome put (drop i samples)
  pub bits : written ++ others_bits put (drop i samples) ≡ start ++ others_bits second samples

pub put_begins : (start : List Bool) (second : LastWritten) (samples : List Sample) → AreToCome second samples → HasPut start second samples 0 start second
put_begins _ _ _ h = record { to_come = h; bits = refl }

-- the sample at the loop's place can follow
pub at_place : (start written : List Bool) (second put : LastWritten) (samples : List Sample) (i : ℕ) (d : Sample) → HasPut start second samples i written put → i < length samples → CanFollow put (get_or samples i d)
at_place _ _ _ put samples i d h lt = (subst (λ ss. AreToCome put ss) (drop_more samples i d lt) h.to_come).0

pub put_goes_on : (start written more : List Bool) (second put after : LastWritten) (samples : List Sample) (i : ℕ) (s d : Sample) → HasPut start second samples i written put → i < length samples → s ≡ get_or samples i d → more ≡ written ++ next_bits put s → after ≡ put_after put s
    → HasPut start second samples (i + 1) more after
put_goes_on _ written more second put after samples i s d h lt e bits after-is =
    let parts = drop_more samples i d lt ∙ ap (λ x. x ∷ drop (i + 1) samples) (sym e) in
    let to_come = (subst (λ ss. AreToCome put ss) parts h.to_come).1 in
    record {
      to_come = subst (λ (p : LastWritten). AreToCome p (drop (i + 1) samples)) (sym after-is) to_come;
      bits = ap (λ (a : List Bool). a ++ others_bits after (drop (i + 1) samples)) bits ∙ ap (λ (p : LastWritten). written ++ next_bits put s ++ others_bits p (drop (i + 1) samples)) after-is
          ∙ append_assoc written (next_bits put s) (others_bits (put_after put s) (drop (i + 1) samples)) ∙ ap (λ (ss : List Sample). written ++ others_bits put ss) (sym parts) ∙ h.bits;
    }

pub put_ends : (start written : List Bool) (second put : LastWritten) (samples : List Sample) (i : ℕ) → HasPut start second samples i written put → length samples ≤ i → written ≡ start ++ others_bits second samples
put_ends _ written _ put _ i h le = sym (append-nil written) ∙ ap (λ ss. written ++ others_bits put ss) (sym (drop_all i _ le)) ∙ h.bits

-- what was put, as the code hands its numbers on
pub put_cast : (put : LastWritten) → FitsSigned w64 put.time → FitsSigned w64 put.delta
    → put ≡ record { time = cast_signed w64 (cast_unsigned w64 put.time); delta = cast_signed w64 (cast_unsigned w64 put.delta); pattern = put.pattern; window = put.window }
put_cast put t d = rw (to_z-of_z w64 put.time t, to_z-of_z w64 put.delta d) refl

-- each pattern that a loop has seen is one of 64 bits
pub patterns_go_on : (samples : List Sample) (i : ℕ) (s d : Sample) → AllWithin (λ (x : Sample). x.pattern < 2 ^ 64) samples 0 i → i < length samples → s ≡ get_or samples i d → s.pattern < 2 ^ 64 → AllWithin (λ (x : Sample). x.pattern < 2 ^ 64) samples 0 (i + 1)
patterns_go_on samples i s d h lt e p =
    AllWithin-more (λ x. x.pattern < 2 ^ 64) _ 0 i h (λ other. subst (λ x. x.pattern < 2 ^ 64) (e ∙ get_or_default samples i d other lt) p)
