-- The data of one sample may be put as a chunk.
use Rattle.std.proofs.Common.{◌≡◌, ℕ, List, [], ◌∷◌, length, Some, sym, ap, slice_index_or, ℤ, arith}
use Rattle.label_sets.specs.declared.sample.Sample.{Sample}
use Rattle.label_sets.specs.Times.{IsWithin}
use Rattle.xor_chunks.specs.Grammar.{IsText}
use Rattle.block_writing.specs.Put.{PlanFields, IsStored}

pub one_stored : (plan : PlanFields) (content : List ℕ) (samples : List Sample) (d : Sample) (min max : ℤ) → IsText 8 content samples → length samples ≡ 1 → min ≡ (slice_index_or samples 0 d).time → max ≡ (slice_index_or samples 0 d).time → IsWithin plan.min_time plan.max_time (slice_index_or samples 0 d) → IsStored plan (record { content = content; min = min; max = max })
one_stored plan content [] d min max text one first last within = absurd cc
one_stored plan content (s ∷ []) d min max text one first last within = record { samples = s ∷ []; text_is = text; begins = ap (λ (t : ℤ). Some t) (sym first); ends = ap (λ (t : ℤ). Some t) (sym last); within = (within, tt) }
one_stored plan content (s ∷ t ∷ samples) d min max text one first last within = absurd (omega (arith, one))
