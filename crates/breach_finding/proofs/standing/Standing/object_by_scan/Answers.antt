use Rattle.std.proofs.Common.{◌≡◌, rules}
use Rattle.std.specs.BTreeMap.{keys}
use Rattle.breach_finding.specs.Next.{is_due_object}
use Rattle.breach_finding.proofs.Scans.{lawful_keys, left_begun}
use Rattle.breach_finding.proofs.standing.Standing.object_by_scan.Goals as goal

pub loop-key-init : goal.loop-key-init
loop-key-init c texts =
    let same : c.into_iter-key-iterator.result ≡ keys c.args.self.now.places = search rules in
    left_begun (is_due_object c.args.ulid c.args.cursor.now) c.into_iter-key-iterator.result (keys c.args.self.now.places) same (lawful_keys c.args.self.now.places texts)
