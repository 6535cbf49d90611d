use Rattle.std.proofs.Common.{◌∙◌, sym, ap}
use Rattle.std.specs.Result.{result_ok}
use Rattle.ulid_core.specs.UlidText.{ulid_of}
use Rattle.world_core.proofs.PageNames.{add_found, add_none, no_ulid}
use Rattle.world_core.proofs.page_names.add_ulids.Goals as goal
use Rattle.world_core.proofs.page_names.add_ulids.Goals.{in-Ok+in_ok-push_back, in_default}

pub loop-name-preserved : goal.loop-name-preserved
loop-name-preserved c =
    elim c.match-read.branch [
      | in-Ok+in_ok-push_back w ↦ add_found (λ name. result_ok (ulid_of name)) c.args.names.now c.loop-name.name-index _ c.as_str.result.now w.in-Ok.ulid c.loop-name.ulids.items c.args.ulids.now.items _
          c.loop-name-test.true (c.as_str.ensures ∙ c.name-item.is) (ap result_ok (sym c.read.ensures.gives ∙ w.in-Ok.is)) c.loop-name.invariant (ap (λ q. q.items) w.ulids-is ∙ w.in_ok-push_back.ensures.items)
      | in_default w ↦ add_none (λ name. result_ok (ulid_of name)) c.args.names.now c.loop-name.name-index _ c.as_str.result.now c.loop-name.ulids.items c.args.ulids.now.items _
          c.loop-name-test.true (c.as_str.ensures ∙ c.name-item.is) (no_ulid (ulid_of c.as_str.result.now) (λ ulid is. w.in_default.not-Ok ulid (c.read.ensures.gives ∙ is))) c.loop-name.invariant (ap (λ q. q.items) w.ulids-is)
    ]
