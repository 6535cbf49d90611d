use Rattle.std.proofs.Common.{[], List, Some, sym, ap, subst, ◌∙◌}
use Rattle.std.specs.Prelude.{IfOk, IfSome, option_map}
use Rattle.bucket_core.specs.Contents.{nothing}
use Rattle.script_core.specs.declared.block.Block.{Block}
use Rattle.report_lines.specs.script_running.specs.Shelves.{AreAllAtHand, setting_by}
use Rattle.call_verdicts.specs.Asked.{names_asked, WasAsked, WasRead, shelf_ulids}
use Rattle.call_verdicts.specs.Checks.{files_held, files_in}
use Rattle.call_verdicts.specs.ShelfReads.{AreRead, IsOfShelf}
use Rattle.call_verdicts.proofs.ShelfReads.{broken_read, calm_read, hand_read, none_at_hand, none_told, told_read}
use Rattle.call_verdicts.proofs.shelf_reading.read_blocks.Goals as goal

pub returns-in-Some-clause-at_hand : goal.returns-in-Some-clause-at_hand
returns-in-Some-clause-at_hand g c =
    hand_read c.args.script.now (g.F.Shelf.told c.in-Some.shelf).files c.read_each-read.result.0 c.requires.lawful
    (subst (λ (bs : List Block). IfOk c.read_each-read.result.0 (λ read. AreRead (g.F.Shelf.told c.in-Some.shelf).files bs read)) c.members.ensures c.read_each-read.ensures.read)

pub returns-in-Some-clause-told : goal.returns-in-Some-clause-told
returns-in-Some-clause-told g c =
    subst (λ o. IfOk c.read_each-read.result.0 (λ blocks. IfSome (files_in g.F.Shelf.told o) (IsOfShelf (setting_by c.args.script.now blocks)))) (sym c.in-Some.is)
    (told_read c.args.script.now (g.F.Shelf.told c.in-Some.shelf).files c.read_each-read.result.0 c.requires.lawful
    (subst (λ (bs : List Block). IfOk c.read_each-read.result.0 (λ read. AreRead (g.F.Shelf.told c.in-Some.shelf).files bs read)) c.members.ensures c.read_each-read.ensures.read))

pub returns-in-Some-clause-broken : goal.returns-in-Some-clause-broken
returns-in-Some-clause-broken g c = broken_read g.F.Shelf.told c.args.shelf c.in-Some.shelf c.read_each-read.result.1 c.read_each-read.result.0 c.in-Some.is c.read_each-read.ensures.broken

pub returns-in-Some-clause-calm : goal.returns-in-Some-clause-calm
returns-in-Some-clause-calm g c =
    calm_read g.F.Shelf.told c.args.shelf c.in-Some.shelf c.read_each-read.result.1 c.read_each-read.result.0 c.in-Some.is c.read_each-read.ensures.calm c.read_each-read.ensures.broken

pub returns-in-Some-clause-asked : goal.returns-in-Some-clause-asked
returns-in-Some-clause-asked g c = λ was.
    subst (λ (bs : List Block). WasRead g.F.Shelf.told (shelf_ulids bs) c.read_each-read.result.1) c.members.ensures
    (c.read_each-read.ensures.asked (subst (λ o. IfSome o (WasAsked (names_asked g.F.Shelf.told) [])) c.in-Some.is was))

pub returns-in-Some-clause-same : goal.returns-in-Some-clause-same
returns-in-Some-clause-same g c = ap Some c.read_each-read.ensures.same ∙ sym (ap (option_map (files_held g.F.Shelf.told)) c.in-Some.is)

pub returns-in-None-clause-at_hand : goal.returns-in-None-clause-at_hand
returns-in-None-clause-at_hand g c = subst (AreAllAtHand c.args.script.now) (sym c.new.ensures) (none_at_hand c.args.script.now)

pub returns-in-None-clause-told : goal.returns-in-None-clause-told
returns-in-None-clause-told g c =
    subst (λ o. IfSome (files_in g.F.Shelf.told o) (IsOfShelf (setting_by c.args.script.now c.new.result))) (sym c.in-None.is)
    (subst (λ bs. IsOfShelf (setting_by c.args.script.now bs) nothing) (sym c.new.ensures) (none_told c.args.script.now))
