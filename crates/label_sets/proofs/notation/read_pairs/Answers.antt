use Rattle.std.proofs.Common.{ap, arith, inl, inr, length}
use Rattle.label_sets.proofs.ReadPairs.{rest_past-only}
use Rattle.label_sets.proofs.ReadWalks.{on_the_way_refused, on_the_way_more, ended_ok, ended_err, past_utf8}
use Rattle.label_sets.proofs.notation.read_pairs.Goals as goal

pub returns-in-Err-clause-refused : goal.returns-in-Err-clause-refused
returns-in-Err-clause-refused c = elim c.in-Err.ensures.refused [
  | inl e ↦ inl e
  | inr h ↦ inr (on_the_way_refused _ _ _ _ _ c.loop-rest.invariant.way c.in-Err.ensures.unchanged h)
]

pub loop-rest-smaller : goal.loop-rest-smaller
loop-rest-smaller c = omega (arith, c.in-Ok.ensures.shorter, ap length (rest_past-only _ _ _ c.in-Ok-rest_past.ensures.answers))

pub loop-rest-preserved : goal.loop-rest-preserved
loop-rest-preserved c = record {
  way = on_the_way_more _ _ _ _ _ _ _ c.loop-rest.invariant.way c.in-Ok.ensures.added.1 c.in-Ok.ensures.added.2 c.in-Ok-rest_past.ensures.answers c.in-Ok.ensures.shorter;
  utf8 = past_utf8 _ _ _ (omega arith) c.in-Ok-rest_past.ensures.answers c.in-Ok.ensures.utf8;
}

pub returns-in-Err-rest_past-clause-read : goal.returns-in-Err-rest_past-clause-read
returns-in-Err-rest_past-clause-read c = ended_ok _ _ _ _ _ _ _ _ _ c.loop-rest.invariant.way c.in-Ok.ensures.added.1 c.in-Ok.ensures.added.2 c.in-Err-rest_past.ensures.answers c.end_at.ensures.read

pub returns-in-Err-rest_past-clause-refused : goal.returns-in-Err-rest_past-clause-refused
returns-in-Err-rest_past-clause-refused c = ended_err _ _ _ _ _ _ _ _ _ _ c.loop-rest.invariant.way c.in-Ok.ensures.added.1 c.in-Ok.ensures.added.2 c.in-Err-rest_past.ensures.answers c.end_at.ensures.refused
