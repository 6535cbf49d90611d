use Rattle.std.proofs.Common.{sym, ◌∙◌}
use Rattle.compactor.specs.declared.stage.Stage.TheVariants.{Syncing}
use Rattle.compactor.proofs.CompactBegins.{fresh_sync}
use Rattle.compactor.proofs.CompactSteps.{compact_opens}
use Rattle.compactor.proofs.compact.CompactMachine.first.Goals as goal

pub first_sync-requires : goal.first_sync-requires
first_sync-requires c = record { fresh = fresh_sync c.args.self.now.stage c.in-Syncing.sync (sym c.replace-stage.ensures.value ∙ c.in-Syncing.is) c.requires }

pub returns : goal.returns
returns c = compact_opens (Syncing c.in-Syncing.sync) c.args.self.now c.first_sync.new.self c.first_sync.result (sym c.replace-stage.ensures.value ∙ c.in-Syncing.is) c.first_sync.ensures.goes_on
