use Rattle.base.proofs.Bound.{of_gives, of_weaker}
use Rattle.block_meta.proofs.FewMembers.{mark_few}
use Rattle.block_meta.proofs.FoundTexts.{mark_text_found, mark_text_only}
use Rattle.block_meta.proofs.deletion_mark.DeletionMark.read.Goals as goal

pub returns-clause-only : goal.returns-clause-only
returns-clause-only c = mark_text_only _

pub returns-clause-found : goal.returns-clause-found
returns-clause-found c = of_gives _ _ _ (mark_text_found _) c.of_text.ensures

pub returns-clause-few : goal.returns-clause-few
returns-clause-few c = of_gives _ _ _ (of_weaker (mark_few _) (mark_text_found _)) c.of_text.ensures
