use Rattle.std.proofs.Common.{sym, arith}
use Rattle.std.proofs.lemmas.Option.{slice_get-get_or}
use Rattle.index_v2.proofs.KeptLists.{kept_start, kept_step, kept_end}
use Rattle.index_v2.proofs.WholeLoops.{lists_start, lists_stop, stop_refused}
use Rattle.index_v2.proofs.whole.all_lists.Goals as goal

pub loop-place-init : goal.loop-place-init
loop-place-init c = λ symbols listed are its. kept_start _ _ _ _ (lists_start _ _) c.new-lists.ensures.items

pub returns-in_err-list-clause-read : goal.returns-in_err-list-clause-read
returns-in_err-list-clause-read c =
    λ symbols listed are its. stop_refused _ _ _ _ _ c.from_residual.ensures.1 c.in_err-list.ensures.exact
    (λ refused. lists_stop _ _ c.loop-place.place _ _ _ (c.loop-place.invariant symbols listed are its).far (sym c.in-Some.ensures) refused)

pub loop-place-preserved : goal.loop-place-preserved
loop-place-preserved c =
    λ symbols listed are its.
    let ranked = are.each c.loop-place.place _ _ (sym c.in-Some.ensures) (slice_get-get_or c.args.ranks.now c.loop-place.place (record { name = 0; value = 0 }) (omega arith)) in
    kept_step _ _ _ c.loop-place.place _ _ _ _ _ _ _ _ _ (c.loop-place.invariant symbols listed are its) (sym c.in-Some.ensures) c.in_ok-list.ensures.exact c.in_ok-list.ensures.rise c.members.ensures
    (c.is_kept-is_kept.ensures symbols _ listed (c.ranks_of_row-label.ensures symbols ranked) its) c.kept_or_none.ensures c.in_ok-push.ensures.items c.stray_at-stray.ensures

pub returns-clause-read : goal.returns-clause-read
returns-clause-read c = λ symbols listed are its. kept_end _ _ _ c.loop-place.place _ _ (c.loop-place.invariant symbols listed are its) (omega arith)
