use Rattle.std.proofs.Common.{sym, subst}
use Rattle.bucket_core.specs.Causes.{Rose}
use Rattle.call_verdicts.specs.Verdicts.{IsChecked}
use Rattle.call_verdicts.specs.declared.verdict.Verdict.{Verdict}
use Rattle.call_verdicts.proofs.Checks.{check_caused}
use Rattle.call_verdicts.proofs.Unfailed.{not_short, short_checked}
use Rattle.call_verdicts.specs.Asked.{IsBroken}
use Rattle.call_verdicts.proofs.ShelfAsked.{broken_on, checked_since}
use Rattle.call_verdicts.proofs.check.check_files.Goals as goal

pub returns-clause-cause : goal.returns-clause-cause
returns-clause-cause g c =
    subst (λ (v : Verdict). IsChecked (g.F.Shelf.told c.args.shelf).files c.args.block (Rose (g.F.Shelf.told c.args.shelf).faults (g.F.Shelf.told c.check_on_shelf-checked.new.shelf).faults) v) (sym c.verdict_on.ensures)
    (check_caused (g.F.Shelf.told c.args.shelf).files c.args.block (Rose (g.F.Shelf.told c.args.shelf).faults (g.F.Shelf.told c.check_on_shelf-checked.new.shelf).faults) c.check_on_shelf-checked.result
    c.check_on_shelf-checked.ensures.passed c.check_on_shelf-checked.ensures.found c.check_on_shelf-checked.ensures.refused c.check_on_shelf-checked.ensures.kept.cause)

pub returns-clause-short : goal.returns-clause-short
returns-clause-short g c = not_short c.verdict_on.result _ _ c.verdict_on.ensures (short_checked c.args.block c.check_on_shelf-checked.result _ c.check_on_shelf-checked.ensures.kept.calm)

pub returns-clause-asked : goal.returns-clause-asked
returns-clause-asked g c = λ was.
    checked_since g.F.Shelf.told c.args.shelf c.check_on_shelf-checked.new.shelf c.args.block _ _ c.check_on_shelf-checked.result (IsBroken c.verdict_on.result) c.check_on_shelf-checked.ensures.asks
    (broken_on c.args.block c.check_on_shelf-checked.result c.verdict_on.result c.verdict_on.ensures) was
