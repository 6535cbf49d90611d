use Rattle.std.proofs.Common.{◌≡◌, sym, subst}
use Rattle.std.specs.Option.{option_copied}
use Rattle.std.specs.declared.cmp.Ordering.TheVariants.{Less}
use Rattle.block_keys.specs.Keys.{key_cmp}
use Rattle.breach_finding.specs.Next.{IsFirstKey}
use Rattle.breach_finding.proofs.Ranges.{range_first, range_none}
use Rattle.breach_finding.proofs.standing.Standing.key_behind.Goals as goal

pub returns-in_err-first : goal.returns-in_err-first
returns-in_err-first c =
    subst (λ r. IsFirstKey (λ other. key_cmp c.args.key.now other ≡ Less) c.args.self.now.places (option_copied r)) (sym c.from_residual.ensures)
    (range_none c.args.self.now.places c.args.key.now c.range-behind.result (c.range-behind.ensures.in_range tt) c.in_err-first.ensures.steps.0)

pub returns : goal.returns
returns c = range_first c.args.self.now.places c.args.key.now c.range-behind.result (c.range-behind.ensures.in_range tt) (c.in_ok-first.first.now, c.in_ok-first.field-0-1.now) c.next.new.self c.in_ok-first.ensures.steps
