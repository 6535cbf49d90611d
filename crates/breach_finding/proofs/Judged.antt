-- One rule more is asked of an entry.
use Rattle.std.proofs.Common.{◌≡◌, inl, inr, ℕ, ◌+◌, ◌<◌, ◌≤◌, true, false, Option, Some, None, refl, sym, ap, subst, arith}
use Rattle.std.specs.Prelude.{is_some}
use Rattle.lifecycle_core.specs.Breaches.{Rule, honesty, mark_time, rank, upload_time}
use Rattle.lifecycle_core.proofs.journals.OneBreach.{same_rule}
use Rattle.breach_finding.specs.Judging.{IsJudged, refusal_of}
use Rattle.breach_finding.specs.Told.{IsTold}
use Rattle.breach_finding.specs.Walks.{rule_of}
use Rattle.breach_finding.specs.declared.found.BreachRule.{BreachRule}
use Rattle.breach_finding.specs.declared.found.BreachRule.TheVariants as found
use Rattle.breach_finding.specs.declared.found.Refusal.{Refusal}
use Rattle.base.proofs.Numbers.{last_or_below}

module _ (Refuses : Rule → ℕ → ℕ → Type 0) (below : ℕ) (rule : BreachRule) (is : rank (rule_of rule) ≡ below) (none : (other : Rule) (x y : ℕ) → rank other < below → Refuses other x y → ⊥) where
  -- where those of lower ranks do not refuse the entry, and of this one it is told
  pub judged_next : (told : Option (ℕ × ℕ)) → IsTold (Refuses (rule_of rule)) told → IsJudged Refuses (below + 1) (refusal_of rule told)
  judged_next None not = λ other x y less refuses. elim (last_or_below (rank other) below less) [
    | inl under ↦ none other x y under refuses
    | inr same ↦ not x y (subst (λ (r : Rule). Refuses r x y) (same_rule other (rule_of rule) (same_to (rank other) same)) refuses)
  ]
    where
      same_to : (n : ℕ) → n ≡ below → n ≡ rank (rule_of rule)
      same_to n same = omega (arith, same, is)
  judged_next (Some (x, y)) refuses = (omega (arith, is), refuses, λ other a b less. none other a b (omega (arith, is, less)))

-- ---- the first three rules

module _ (Refuses : Rule → ℕ → ℕ → Type 0) where
  nothing_below : (other : Rule) (x y : ℕ) → rank other < 0 → Refuses other x y → ⊥
  nothing_below other x y less refuses = omega (arith, less)

  widened : (below : ℕ) (r : Option Refusal) → below ≤ 3 → is_some r ≡ true → IsJudged Refuses below r → IsJudged Refuses 3 r
  widened below None few some judged = cc (some)
  widened below (Some r) few some judged = (let less = judged.0 in omega (arith, few, less), judged.1, judged.2)

  asked_none : (rule : BreachRule) (told : Option (ℕ × ℕ)) (r : Option Refusal) → r ≡ refusal_of rule told → is_some r ≡ false → told ≡ None
  asked_none rule None r is none = refl
  asked_none rule (Some told) r is none = cc (ap is_some is, none)

  module _ (lied : Option (ℕ × ℕ)) (first : Option Refusal) (lie_is : IsTold (Refuses honesty) lied) (is : first ≡ refusal_of found.Bucket lied) where
    module _ (none : is_some first ≡ false) (untimely : Option (ℕ × ℕ)) (second : Option Refusal) (upload_is : IsTold (Refuses upload_time) untimely) (so : second ≡ refusal_of found.UploadTime untimely) where
      no_lie : (other : Rule) (x y : ℕ) → rank other < 1 → Refuses other x y → ⊥
      no_lie = by_none lied (asked_none found.Bucket lied first is none) lie_is
        where
          by_none : (told : Option (ℕ × ℕ)) → told ≡ None → IsTold (Refuses honesty) told → (other : Rule) (x y : ℕ) → rank other < 1 → Refuses other x y → ⊥
          by_none None same not = judged_next Refuses 0 found.Bucket refl nothing_below None not
          by_none (Some told) same not = cc (same)

      two_asked : IsJudged Refuses 2 second
      two_asked = subst (IsJudged Refuses 2) (sym so) (judged_next Refuses 1 found.UploadTime refl no_lie untimely upload_is)

      pub early_two : is_some second ≡ true → IsJudged Refuses 3 second
      early_two some = widened 2 second (omega arith) some two_asked

      pub early_three : is_some second ≡ false → (late : Option (ℕ × ℕ)) (third : Option Refusal) → IsTold (Refuses mark_time) late → third ≡ refusal_of found.MarkTime late → IsJudged Refuses 3 third
      early_three past late third mark_is last = subst (IsJudged Refuses 3) (sym last) (judged_next Refuses 2 found.MarkTime refl (by_none untimely (asked_none found.UploadTime untimely second so past) upload_is) late mark_is)
        where
          by_none : (told : Option (ℕ × ℕ)) → told ≡ None → IsTold (Refuses upload_time) told → (other : Rule) (x y : ℕ) → rank other < 2 → Refuses other x y → ⊥
          by_none None same not = judged_next Refuses 1 found.UploadTime refl no_lie None not
          by_none (Some told) same not = cc (same)
