-- Whole numbers with a sign, where the standard library has no lemma.
use Rattle.std.proofs.Common.{◌≡◌, ℤ, refl, sym, ◌∙◌, arith}
use Rattle.std.specs.Prelude.{◌≤ℤ◌, ◌<ℤ◌}
use Rattle.std.specs.declared.cmp.Ordering.TheVariants.{Less, Equal, Greater}
use Rattle.std.specs.Ordering.{int_cmp}
use Rattle.std.proofs.lemmas.Cmp.{int_ranked, by_ranked}
use Rattle.std.proofs.lemmas.Int.{ints}

pub le_itself : (a : ℤ) → a ≤ℤ a
le_itself a = omega (arith, ints)

pub le_le : (a b c : ℤ) → a ≤ℤ b → b ≤ℤ c → a ≤ℤ c
le_le a b c one two = omega (arith, ints)

pub lt_le : (a b c : ℤ) → a <ℤ b → b ≤ℤ c → a <ℤ c
lt_le a b c one two = omega (arith, ints)

pub same-from_int_cmp : (a b : ℤ) → int_cmp a b ≡ Equal → a ≡ b
same-from_int_cmp a b e = by_ranked _ _ _ (int_cmp a b) (int_ranked a b (int_cmp a b) refl)
    (λ f _. absurd (let g : Less ≡ Equal = sym f ∙ e in cc)) (λ _ same. same) (λ f _. absurd (let g : Greater ≡ Equal = sym f ∙ e in cc))
