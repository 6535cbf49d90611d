-- Two rules are named exactly where the rules disagree.
use Rattle.std.proofs.Common.{◌≡◌, ℕ, ◌+◌, Bool, true, false, nat_lt, List, [], ◌∷◌, refl, sym, arith, if◌then◌else◌}
use Rattle.std.specs.Prelude.{◌↔◌, IsTrue}
use Rattle.std.proofs.lemmas.Bool.Decides.{nat_tests}
use Rattle.base.proofs.Lists.{nil_not_cons}
use Rattle.moment_core.specs.declared.rules.Rules.{Rules}
use Rattle.script_fields.specs.Values.{agree}
use Rattle.run_messages.specs.RuleConflicts.{conflict_words, pair_words}

-- A test that a rule fails names it, and what passes all three is silent.
by_tests : (late later early agreed : Bool) (a b c : ℕ) (al bl cl : List ℕ) → (late ≡ true → agreed ≡ false) → (later ≡ true → agreed ≡ false) → (early ≡ true → agreed ≡ false)
    → (late ≡ false → later ≡ false → early ≡ false → agreed ≡ true)
    → ((if late then a ∷ al else if later then b ∷ bl else if early then c ∷ cl else []) ≡ []) ↔ IsTrue agreed
by_tests true later early agreed a b c al bl cl first second third all = (λ named. absurd (nil_not_cons a al (sym named)), λ agrees. absurd (let no = first refl in cc))
by_tests false true early agreed a b c al bl cl first second third all = (λ named. absurd (nil_not_cons b bl (sym named)), λ agrees. absurd (let no = second refl in cc))
by_tests false false true agreed a b c al bl cl first second third all = (λ named. absurd (nil_not_cons c cl (sym named)), λ agrees. absurd (let no = third refl in cc))
by_tests false false false agreed a b c al bl cl first second third all = (λ named. all refl refl refl, λ agrees. refl)

pub named_where : (rules : Rules) → (conflict_words rules ≡ []) ↔ IsTrue (agree rules)
unfolding conflict_words pair_words
named_where rules =
    by_tests (nat_lt rules.partial.ms rules.upload.ms) (nat_lt rules.delete.ms (rules.upload.ms + 1_000)) (nat_lt rules.delete.ms rules.ignore.ms) (agree rules) _ _ _ _ _ _
    (λ late. grind (arith, nat_tests)) (λ later. grind (arith, nat_tests)) (λ early. grind (arith, nat_tests)) (λ late later early. grind (arith, nat_tests))
