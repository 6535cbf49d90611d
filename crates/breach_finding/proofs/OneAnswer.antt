-- Of a journal there is one answer.
use Rattle.std.proofs.Common.{◌≡◌, ℕ, List, Option, Some, None, refl, sym, ap, subst}
use Rattle.world_core.specs.Worlds.{IsJournal}
use Rattle.world_core.specs.declared.entry.Entry.{Entry}
use Rattle.script_core.specs.Lawful.{IsLawfulScript}
use Rattle.lifecycle_core.specs.Breaches.{IsBreach, IsUnbroken, Rule}
use Rattle.lifecycle_core.specs.Setting.{Setting}
use Rattle.lifecycle_core.proofs.journals.OneBreach.{one_pair, one_place}
use Rattle.lifecycle_core.proofs.journals.Unbroken.{has_no_breach}
use Rattle.breach_finding.specs.Walks.{IsAnswer, rule_of}
use Rattle.breach_finding.specs.declared.found.Breach.{Breach}
use Rattle.breach_finding.specs.declared.found.BreachRule.{BreachRule}
use Rattle.breach_finding.specs.declared.found.BreachRule.TheVariants as found

-- rules that mean the same are the same
one_rule : (a b : BreachRule) → rule_of a ≡ rule_of b → a ≡ b
one_rule found.Bucket found.Bucket is = refl
one_rule found.UploadTime found.UploadTime is = refl
one_rule found.MarkTime found.MarkTime is = refl
one_rule found.SyncTime found.SyncTime is = refl
one_rule found.ViewTime found.ViewTime is = refl
one_rule found.ReadTime found.ReadTime is = refl
one_rule a b is = cc (is)

same_breach : (a b : Breach) → a.rule ≡ b.rule → a.entry ≡ b.entry → a.found ≡ b.found → a.allowed ≡ b.allowed → a ≡ b
same_breach a b rule entry shown owed = λ i. record { rule = rule i; entry = entry i; found = shown i; allowed = owed i }

pub one_answer : (setting : Setting) (tick : ℕ) (journal : List Entry) → IsLawfulScript setting.script → IsJournal tick journal → (one other : Option Breach) → IsAnswer setting journal one → IsAnswer setting journal other → one ≡ other
one_answer setting tick journal lawful kept None None a b = refl
one_answer setting tick journal lawful kept None (Some y) a b = absurd (has_no_breach setting journal (rule_of y.rule) y.entry y.found y.allowed a b)
one_answer setting tick journal lawful kept (Some x) None a b = absurd (has_no_breach setting journal (rule_of x.rule) x.entry x.found x.allowed b a)
one_answer setting tick journal lawful kept (Some x) (Some y) a b =
    let place = one_place setting journal (rule_of x.rule) (rule_of y.rule) x.entry y.entry x.found x.allowed y.found y.allowed a b in
    let moved : IsBreach setting journal (rule_of x.rule) x.entry y.found y.allowed =
    subst (λ (n : ℕ). IsBreach setting journal (rule_of x.rule) n y.found y.allowed) (sym place.1) (subst (λ (r : Rule). IsBreach setting journal r y.entry y.found y.allowed) (sym place.0) b) in
    let pair = one_pair setting tick journal lawful kept (rule_of x.rule) x.entry x.found x.allowed y.found y.allowed a moved in
    ap Some (same_breach x y (one_rule x.rule y.rule place.0) place.1 pair.0 pair.1)

pub breach_is : (setting : Setting) (journal : List Entry) (rule : Rule) (number x y : ℕ) (answer : Option Breach) → IsBreach setting journal rule number x y → IsAnswer setting journal answer
    → (found : Breach) × (answer ≡ Some found) × (rule ≡ rule_of found.rule) × (number ≡ found.entry)
breach_is setting journal rule number x y None breach none = absurd (has_no_breach setting journal rule number x y none breach)
breach_is setting journal rule number x y (Some b) breach is =
    let place = one_place setting journal rule (rule_of b.rule) number b.entry x y b.found b.allowed breach is in (b, refl, place.0, place.1)

pub no_breach : (setting : Setting) (journal : List Entry) (answer : Option Breach) → IsUnbroken setting journal → IsAnswer setting journal answer → answer ≡ None
no_breach setting journal None unbroken is = refl
no_breach setting journal (Some b) unbroken is = absurd (has_no_breach setting journal (rule_of b.rule) b.entry b.found b.allowed unbroken is)
