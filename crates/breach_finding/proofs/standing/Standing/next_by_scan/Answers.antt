use Rattle.std.proofs.Common.{Some, sym, ap, ◌∙◌}
use Rattle.std.specs.BTreeMap.{keys}
use Rattle.breach_finding.specs.Next.{is_due_block}
use Rattle.breach_finding.proofs.Scans.{scan_hit}
use Rattle.breach_finding.proofs.standing.Standing.next_by_scan.Goals as goal

pub returns-then-block_comes_after-clause-found : goal.returns-then-block_comes_after-clause-found
returns-then-block_comes_after-clause-found c =
    ap Some c.ulid.ensures
    ∙ sym (scan_hit (is_due_block c.args.after.now) c.loop-key.key-iterator (keys c.args.self.now.places) c.loop-key.invariant c.in-Some.key.now c.next.new.self c.in-Some.ensures.steps
    (sym c.block_comes_after.ensures ∙ c.if-block_comes_after.true))
