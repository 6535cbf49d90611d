use Rattle.std.proofs.Common.{false, sym}
use Rattle.world_core.proofs.Turning.{acted_turned, more_turned, none_turned}
use Rattle.tests_runs.proofs.Acting.{turned_as}
use Rattle.tests_runs.proofs.threads.job.CallsJob.run.Goals as goal

pub loop-place-init : goal.loop-place-init
loop-place-init g c = none_turned g.H.Hand.told g.H.Hand.keeps g.met.H.Hand.keeps_none _ false

pub loop-place-preserved : goal.loop-place-preserved
loop-place-preserved g c =
    let a = c.act-acted.ensures in
    more_turned g.H.Hand.told g.H.Hand.keeps g.met.H.Hand.keeps_more _ _ _ false false c.loop-place.invariant
    (turned_as g.H.Hand.told g.H.Hand.keeps _ _ _ _ false false (acted_turned g.H.Hand.told g.H.Hand.keeps _ _ c.op_at-op.result c.act-acted.result a.entries a.seat a.refused a.full a.wanted a.keeps a.above a.within a.known) (c.is_done.ensures.full c.if-not-is_done.false) (c.is_done.ensures.wanted c.if-not-is_done.false))

pub returns-then-not-is_done-clause-hand : goal.returns-then-not-is_done-clause-hand
returns-then-not-is_done-clause-hand g c =
    let a = c.act-acted.ensures in
    more_turned g.H.Hand.told g.H.Hand.keeps g.met.H.Hand.keeps_more _ _ _ c.of.result.full c.of.result.wanted c.loop-place.invariant
    (turned_as g.H.Hand.told g.H.Hand.keeps _ _ _ _ c.of.result.full c.of.result.wanted (acted_turned g.H.Hand.told g.H.Hand.keeps _ _ c.op_at-op.result c.act-acted.result a.entries a.seat a.refused a.full a.wanted a.keeps a.above a.within a.known) (sym c.of.ensures.full) (sym c.of.ensures.wanted))
