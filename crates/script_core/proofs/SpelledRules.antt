-- A rule line sets its rule and leaves the others.
use Rattle.std.proofs.Common.{◌≡◌, ◌≢◌, ℕ, Bool, true, false, ◌==◌, cond, Option, Some, None, refl, sym, ◌∙◌, arith}
use Rattle.std.proofs.lemmas.Bool.Decides.{nat_tests}
use Rattle.moment_core.specs.declared.rules.Rules.{Rules}
use Rattle.moment_core.specs.declared.span.Span.{Span}
use Rattle.script_fields.specs.declared.rule_name.RuleName.{RuleName}
use Rattle.script_fields.specs.declared.rule_name.RuleName.TheVariants as names
use Rattle.script_fields.specs.Values.{with_rule, span_from, retention_from}
use Rattle.script_core.specs.Spelling.{rule_value, Sets, KeepsFor, for_ever, so_long}

set_value : (name : RuleName) (value : ℕ) (rules : Rules) → rule_value name (with_rule name value rules) ≡ value
set_value names.Consistency value rules = refl
set_value name value rules = refl

other_value : (name other : RuleName) (value : ℕ) (rules : Rules) → other ≢ name → rule_value other (with_rule name value rules) ≡ rule_value other rules
other_value names.Consistency names.Consistency value rules apart = absurd (apart refl)
other_value names.Ignore names.Ignore value rules apart = absurd (apart refl)
other_value names.Delete names.Delete value rules apart = absurd (apart refl)
other_value names.Partial names.Partial value rules apart = absurd (apart refl)
other_value names.Upload names.Upload value rules apart = absurd (apart refl)
other_value names.Tick names.Tick value rules apart = absurd (apart refl)
other_value names.PageLimit names.PageLimit value rules apart = absurd (apart refl)
other_value name other value rules apart = refl

same_replicas : (name : RuleName) (value : ℕ) (rules : Rules) → (with_rule name value rules).replicas ≡ rules.replicas
same_replicas names.Consistency value rules = refl
same_replicas name value rules = refl

same_retention : (name : RuleName) (value : ℕ) (rules : Rules) → (with_rule name value rules).retention ≡ rules.retention
same_retention names.Consistency value rules = refl
same_retention name value rules = refl

pub rule_sets : (name : RuleName) (value : ℕ) (rules : Rules) → Sets name value rules (with_rule name value rules)
rule_sets name value rules =
    record { sets = set_value name value rules; others = λ other. other_value name other value rules; replicas = same_replicas name value rules; retention = same_retention name value rules }

-- rules are equal where all their values are
same_rules : (one other : Rules) → ((name : RuleName) → rule_value name one ≡ rule_value name other) → one.replicas ≡ other.replicas → one.retention ≡ other.retention → one ≡ other
same_rules one other same replicas retention i = record {
  consistency = record { ms = same names.Consistency i };
  ignore = record { ms = same names.Ignore i };
  delete = record { ms = same names.Delete i };
  partial = record { ms = same names.Partial i };
  upload = record { ms = same names.Upload i };
  tick = record { ms = same names.Tick i };
  page_limit = same names.PageLimit i;
  replicas = replicas i;
  retention = retention i;
}

-- what sets one rule sets all of them alike
same_values : (name other : RuleName) (value : ℕ) (rules one two : Rules) → Sets name value rules one → Sets name value rules two → rule_value other one ≡ rule_value other two
same_values names.Consistency names.Consistency value rules one two is are = is.sets ∙ sym are.sets
same_values names.Ignore names.Ignore value rules one two is are = is.sets ∙ sym are.sets
same_values names.Delete names.Delete value rules one two is are = is.sets ∙ sym are.sets
same_values names.Partial names.Partial value rules one two is are = is.sets ∙ sym are.sets
same_values names.Upload names.Upload value rules one two is are = is.sets ∙ sym are.sets
same_values names.Tick names.Tick value rules one two is are = is.sets ∙ sym are.sets
same_values names.PageLimit names.PageLimit value rules one two is are = is.sets ∙ sym are.sets
same_values name other value rules one two is are = is.others other (λ e. cc) ∙ sym (are.others other (λ e. cc))

pub rule_set : (name : RuleName) (value : ℕ) (before after : Rules) → Sets name value before after → after ≡ with_rule name value before
rule_set name value before after is =
    let made = rule_sets name value before in
    same_rules after (with_rule name value before) (λ other. same_values name other value before after (with_rule name value before) is made) (is.replicas ∙ sym made.replicas) (is.retention ∙ sym made.retention)

-- ---- the retention

keeps_by : (ms : ℕ) (b : Bool) → (ms == 0) ≡ b → KeepsFor ms (cond {A = Option Span} b None (Some (span_from ms)))
keeps_by ms true is = for_ever (grind (arith, nat_tests)) refl
keeps_by ms false is = so_long (grind (arith, nat_tests)) refl

pub keeps_for : (ms : ℕ) → KeepsFor ms (retention_from ms)
keeps_for ms = keeps_by ms (ms == 0) refl

pub keeps_again : (ms : ℕ) (retention : Option Span) → KeepsFor ms retention → retention_from ms ≡ retention
keeps_again ms retention (for_ever none is) = let test : (ms == 0) ≡ true = grind (arith, nat_tests) in rw test (sym is)
keeps_again ms retention (so_long some is) = let test : (ms == 0) ≡ false = grind (arith, nat_tests) in rw test (sym is)
