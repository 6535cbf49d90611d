use Rattle.std.proofs.Common.{◌∙◌, sym, ap}
use Rattle.cleaner.specs.Objects.{data_named, have_lawful_keys}
use Rattle.cleaner.proofs.Keys.{lawful_more, lawful_some}
use Rattle.world_core.proofs.PageNames.{add_found, add_none, none_else}
use Rattle.cleaner.proofs.objects.add_data_keys.Goals as goal
use Rattle.cleaner.proofs.objects.add_data_keys.Goals.{in-Some+in_ok-push_back, in_default}

pub loop-name-preserved : goal.loop-name-preserved
loop-name-preserved c =
    elim c.match-branch-2.branch [
      | in-Some+in_ok-push_back w ↦ (
        add_found (data_named c.args.ulid) c.args.names.now c.loop-name.name-index _ c.as_str.result.now w.in-Some.key c.loop-name.keys.items c.args.keys.now.items _
            c.loop-name-test.true (c.as_str.ensures ∙ c.name-item.is) (sym c.in_ok-key.ensures.value ∙ w.in-Some.is) c.loop-name.invariant.0 (ap (λ q. q.items) w.keys-is ∙ w.in_ok-push_back.ensures.items),
        ap have_lawful_keys (ap (λ q. q.items) w.keys-is ∙ w.in_ok-push_back.ensures.items)
            ∙ lawful_more c.loop-name.keys.items w.in-Some.key c.loop-name.invariant.1 (lawful_some _ w.in-Some.key c.in_ok-key.ensures.lawful w.in-Some.is),
      )
      | in_default w ↦ (
        add_none (data_named c.args.ulid) c.args.names.now c.loop-name.name-index _ c.as_str.result.now c.loop-name.keys.items c.args.keys.now.items _
            c.loop-name-test.true (c.as_str.ensures ∙ c.name-item.is) (sym c.in_ok-key.ensures.value ∙ none_else _ w.in_default.not-Some) c.loop-name.invariant.0 (ap (λ q. q.items) w.keys-is),
        ap have_lawful_keys (ap (λ q. q.items) w.keys-is) ∙ c.loop-name.invariant.1,
      )
    ]
