-- A test of a sample's time, and what it tells.
use Rattle.std.proofs.Common.{◌≡◌, ◌∙◌, ℤ, Bool, true, sym}
use Rattle.std.specs.Prelude.{IsTrue, ◌↔◌}
use Rattle.std.proofs.lemmas.Bool.{and_parts, and_from}
use Rattle.std.proofs.lemmas.Float.{T_from_true}
use Rattle.base.proofs.Bools.{true-from_T}
use Rattle.label_sets.specs.Times.{IsWithin, is_within}
use Rattle.label_sets.specs.declared.sample.Sample.{Sample}

pub within_found : (first last : ℤ) (sample : Sample) → is_within first last sample ≡ true → IsWithin first last sample
within_found first last sample e =
    let p = and_parts _ _ e in (record { le = T_from_true _ p.0 }, record { lt = T_from_true _ p.1 })

pub within_again : (first last : ℤ) (sample : Sample) → IsWithin first last sample → is_within first last sample ≡ true
within_again first last sample is = and_from _ _ (true-from_T _ is.0.le) (true-from_T _ is.1.lt)

pub within_told : (first last : ℤ) (sample : Sample) (r : Bool) → r ≡ is_within first last sample → IsTrue r ↔ IsWithin first last sample
within_told first last sample r is =
    (λ yes. within_found first last sample (sym is ∙ yes), λ within. is ∙ within_again first last sample within)
