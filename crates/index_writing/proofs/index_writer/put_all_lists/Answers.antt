use Rattle.std.proofs.Common.{ℕ, List}
use Rattle.index_writing.proofs.AlignedTexts.{makes_longer}
use Rattle.index_writing.proofs.PartsLaws.{indices_as}
use Rattle.index_writing.proofs.Standing.{longer}
use Rattle.index_writing.proofs.WrittenIndex.{lists_indices}
use Rattle.index_writing.proofs.index_writer.put_all_lists.Goals as goal

pub returns-in_err-label_indices-clause-makes : goal.returns-in_err-label_indices-clause-makes
returns-in_err-label_indices-clause-makes c =
    makes_longer (List ℕ) _ _ _ _ _ _ c.from_residual.ensures.1
    (indices_as _ _ _ _ _ c.requires.so_far c.members.ensures c.in_err-label_indices.ensures.makes) (longer (lists_indices _))
