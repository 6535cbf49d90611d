use Rattle.std.proofs.Common.{◌≡◌, sym, ◌∙◌, Some, ap}
use Rattle.world_core.proofs.Opening.{opened_empty, opened_sound, not_opened}
use Rattle.world_core.proofs.world.World.open.Goals as goal
use Rattle.world_core.proofs.world.World.open.Goals.{in-Names+in-Some, in-Failed, in-NoMemory}

pub returns-in-None-clause-empty : goal.returns-in-None-clause-empty
returns-in-None-clause-empty g c = opened_empty _ c.in-Names.names (λ d key told some. g.met.B.Bucket.only_keys c.args.bucket d key told some) (sym c.first_name.ensures ∙ c.in-None.is) c.in-Names.ensures.shown

pub invariant_of-result : goal.invariant_of-result
invariant_of-result g c = opened_sound g.B.Bucket.told c.args.bucket c.page.new.self c.empty.result c.args.tick.ms c.empty.ensures c.requires c.in-Names.ensures.left (returns-in-None-clause-empty g c)

pub returns-in-None-clause-holds : goal.returns-in-None-clause-holds
returns-in-None-clause-holds g c = (invariant_of-result g c).world

pub returns-clause-not_empty : goal.returns-clause-not_empty
returns-clause-not_empty g c =
    elim c.match-page.branch [
      | in-Names+in-Some w ↦ λ name is. let same : w.in-Some.name ≡ name = cc (w.refusal-is, is) in not_opened _ w.in-Names.names name (sym w.first_name.ensures ∙ w.in-Some.is ∙ ap Some same) w.in-Names.ensures.shown
      | in-Failed w ↦ λ name is. absurd (cc)
      | in-NoMemory w ↦ λ name is. absurd (cc)
    ]
