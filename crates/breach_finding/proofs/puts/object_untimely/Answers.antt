use Rattle.std.proofs.Common.{sym, ap, subst}
use Rattle.block_keys.specs.Keys.{key_ulid}
use Rattle.lifecycle_core.specs.TimeRules.{IsBlockObject}
use Rattle.breach_finding.proofs.PutTimes.{object_told}
use Rattle.breach_finding.proofs.puts.object_untimely.Goals as goal

pub returns-in-Meta : goal.returns-in-Meta
returns-in-Meta c = object_told c.args.key.now c.in-Meta.ulid c.args.moment c.args.limit c.untimely.result (subst IsBlockObject (sym c.in-Meta.is) tt) (sym (ap key_ulid c.in-Meta.is)) c.untimely.ensures

pub returns-in-Index : goal.returns-in-Index
returns-in-Index c = object_told c.args.key.now c.in-Index.ulid c.args.moment c.args.limit c.untimely-in-Index.result (subst IsBlockObject (sym c.in-Index.is) tt) (sym (ap key_ulid c.in-Index.is)) c.untimely-in-Index.ensures

pub returns-in-Segment : goal.returns-in-Segment
returns-in-Segment c = object_told c.args.key.now c.in-Segment.ulid c.args.moment c.args.limit c.untimely-in-Segment.result (subst IsBlockObject (sym c.in-Segment.is) tt) (sym (ap key_ulid c.in-Segment.is)) c.untimely-in-Segment.ensures
