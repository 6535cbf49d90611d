use Rattle.std.proofs.Common.{◌≡◌, ◌∙◌, ◌++◌, ◌∷◌, [], List, None, refl, sym, ap, subst, arith, append_assoc, slice_index_or, take}
use Rattle.std.proofs.lemmas.List.{get_or-set_other, take_all}
use Rattle.base.proofs.Lists.{take_place}
use Rattle.script_core.specs.declared.block.Block.{Block}
use Rattle.report_lines.specs.script_running.proofs.Taking.{found}
use Rattle.call_verdicts.specs.ShelfReads.{AreRead}
use Rattle.call_verdicts.proofs.ShelfReads.{one_read}
use Rattle.call_verdicts.proofs.Stages.{ended_at}
use Rattle.call_verdicts.proofs.shelf_reading.keep_group.Goals as goal

pub keep_next-requires : goal.keep_next-requires
keep_next-requires c =
    let v = c.replace-stage.ensures.value in
    let w = c.index-stages-place.is in
    let same : c.replace-stage.result ≡ slice_index_or c.loop-place.stages c.loop-place.place c.index-stages-place.result = cc in
    ended_at None c.args.group.now c.args.stages.now c.loop-place.stages c.loop-place.place c.index-group-place.result c.replace-stage.result c.index-stages-place.result c.requires.ended c.index-group-place.is same c.loop-place.invariant.0 c.loop-place-test.true

pub loop-place-preserved : goal.loop-place-preserved
loop-place-preserved c =
    let place = c.loop-place.place in
    let b = c.index-group-place.result in
    let v = c.replace-stage.ensures.value in
    let w = c.index-stages-place.is in
    let same : c.replace-stage.result ≡ slice_index_or c.loop-place.stages place c.index-stages-place.result = cc in
    let at = found c.args.group.now place place b refl c.loop-place-test.true c.index-group-place.is in
    let next = sym (take_place c.args.group.now place b at) in (
      λ j d h. get_or-set_other c.loop-place.stages place j c.replace-stage.new.dest d (λ e. omega arith) ∙ c.loop-place.invariant.0 j d (omega arith),
      λ told before ended are.
          let own = ended_at told c.args.group.now c.args.stages.now c.loop-place.stages place b c.replace-stage.result c.index-stages-place.result ended c.index-group-place.is same c.loop-place.invariant.0 c.loop-place-test.true in
          subst (λ (bs : List Block). AreRead told bs c.keep_next.new.read) (append_assoc before (take place c.args.group.now) (b ∷ []) ∙ ap (λ (bs : List Block). before ++ bs) next)
          (one_read told (before ++ take place c.args.group.now) b c.loop-place.read c.keep_next.new.read (c.loop-place.invariant.1 told before ended are) (c.in_ok-keep_next.ensures.read told own)),
    )

pub returns-clause-read : goal.returns-clause-read
returns-clause-read c = λ told before ended are.
    subst (λ (bs : List Block). AreRead told (before ++ bs) c.loop-place.read) (take_all c.loop-place.place c.args.group.now (omega (arith, c.loop-place-test.false))) (c.loop-place.invariant.1 told before ended are)
