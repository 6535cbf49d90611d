use Rattle.breach_finding.specs.Next.{IsDueAt, IsFirstKey}
use Rattle.breach_finding.proofs.NextObjects.{due_behind, due_by_scan}
use Rattle.breach_finding.proofs.standing.Standing.object_after.Goals as goal
use Rattle.base.proofs.Options.{if_ok}

pub returns-then-eq : goal.returns-then-eq
returns-then-eq c texts = due_behind c.args.self.now.places texts c.args.ulid c.args.cursor.now c.args.key c.object_behind.result c.requires.written c.requires.text c.object_behind.ensures

pub returns : goal.returns
returns c texts =
    if_ok _ (IsFirstKey (IsDueAt c.args.ulid c.args.cursor.now) c.args.self.now.places) c.object_by_scan.result (c.object_by_scan.ensures.found texts)
    (λ r is. due_by_scan c.args.self.now.places c.args.ulid c.args.cursor.now r c.object_by_scan.ensures.ordered is)
