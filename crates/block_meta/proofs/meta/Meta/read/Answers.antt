use Rattle.base.proofs.Bound.{of_gives, of_weaker}
use Rattle.block_meta.proofs.FewMembers.{meta_few}
use Rattle.block_meta.proofs.FoundTexts.{meta_text_found, meta_text_only}
use Rattle.block_meta.proofs.meta.Meta.read.Goals as goal

pub returns-clause-only : goal.returns-clause-only
returns-clause-only c = meta_text_only _

pub returns-clause-found : goal.returns-clause-found
returns-clause-found c = of_gives _ _ _ (meta_text_found _) c.of_text.ensures

pub returns-clause-few : goal.returns-clause-few
returns-clause-few c = of_gives _ _ _ (of_weaker (meta_few _) (meta_text_found _)) c.of_text.ensures
