use Rattle.call_verdicts.proofs.CheckedShelf.{none_opened}
use Rattle.std.proofs.Common.{◌≡◌, ◌∙◌}
use Rattle.call_verdicts.proofs.Unfailed.{if_some, short_map, short_of}
use Rattle.call_verdicts.specs.Asked.{IsBroken}
use Rattle.call_verdicts.proofs.ShelfAsked.{some_checked}
use Rattle.call_verdicts.proofs.check.check_opened.Goals as goal

pub returns-in-None-clause-cause : goal.returns-in-None-clause-cause
returns-in-None-clause-cause g c = none_opened g.F.Shelf.told c.args.shelf c.args.block c.absent.result c.in-None.is c.absent.ensures

pub returns-in-Some-clause-short : goal.returns-in-Some-clause-short
returns-in-Some-clause-short g c = λ fresh. short_map c.check_files-verdict.result.0 _ _ (λ same. same ∙ if_some c.args.shelf c.in-Some.shelf (λ files. (g.F.Shelf.told files).faults ≡ 0) c.in-Some.is fresh) c.check_files-verdict.ensures.short

pub returns-in-None-clause-short : goal.returns-in-None-clause-short
returns-in-None-clause-short g c = λ fresh. short_of c.absent.result _ tt

pub returns-in-Some-clause-asked : goal.returns-in-Some-clause-asked
returns-in-Some-clause-asked g c =
    some_checked g.F.Shelf.told c.args.shelf c.in-Some.shelf c.check_files-verdict.result.1 c.args.block (IsBroken c.check_files-verdict.result.0) c.in-Some.is c.check_files-verdict.ensures.asked
