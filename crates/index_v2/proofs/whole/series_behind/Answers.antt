use Rattle.std.proofs.Common.{inr, sym, subst, length, ◌-◌}
use Rattle.std.specs.Prelude.{slice_get}
use Rattle.index_v2.specs.Ranks.{IsRanked}
use Rattle.index_v2.proofs.RankedSeries.{behind_unread, behind_read, behind_within, behind_below}
use Rattle.index_v2.proofs.WholeLoops.{gives_stop}
use Rattle.index_v2.proofs.whole.series_behind.Goals.{else-stands_behind-via-then-stands_behind+else-may_stand_behind, else-stands_behind-via-else-stands_behind}
use Rattle.index_v2.proofs.whole.series_behind.Goals as goal

pub returns-in_err-one-clause-exact : goal.returns-in_err-one-clause-exact
returns-in_err-one-clause-exact c =
    λ made are. gives_stop _ _ _ _ _ _ c.from_residual.ensures.1 c.in_err-one.ensures.exact
    (λ refused. behind_unread _ _ c.args.last (slice_get made (length made - 1)) c.args.number _ refused)

pub returns-then-may_stand_behind-clause-exact : goal.returns-then-may_stand_behind-clause-exact
returns-then-may_stand_behind-clause-exact c =
    λ made are.
    let ranked = subst (IsRanked c.args.symbols.now c.in_ok-one.one.series) (sym c.members.ensures) c.in_ok-one.ensures.ranked in
    behind_read _ _ c.args.last (slice_get made (length made - 1)) c.args.number _ c.in_ok-one.ensures.exact _ _ c.stands_behind.ensures c.if-stands_behind.true
    (c.may_stand_behind.ensures c.args.symbols.now made c.in_ok-one.one.series c.in_ok-one.ensures.symbols are ranked) c.if-may_stand_behind.true

pub returns-clause-exact : goal.returns-clause-exact
returns-clause-exact c =
    λ made are. elim c.else-stands_behind.branch [
      | else-stands_behind-via-then-stands_behind+else-may_stand_behind w ↦
          let ranked = subst (IsRanked c.args.symbols.now c.in_ok-one.one.series) (sym w.members.ensures) c.in_ok-one.ensures.ranked in
          inr (behind_below _ _ c.args.last (slice_get made (length made - 1)) c.args.number _ c.in_ok-one.ensures.exact _ _ c.stands_behind.ensures w.if-stands_behind.true
          (w.may_stand_behind.ensures c.args.symbols.now made c.in_ok-one.one.series c.in_ok-one.ensures.symbols are ranked) w.if-may_stand_behind.false)
      | else-stands_behind-via-else-stands_behind w ↦ inr (behind_within _ _ c.args.last (slice_get made (length made - 1)) c.args.number _ c.in_ok-one.ensures.exact _ c.stands_behind.ensures w.if-stands_behind.false)
    ]
