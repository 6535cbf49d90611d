use Rattle.std.proofs.Common.{arith}
use Rattle.index_writing.proofs.AlignedTexts.{behind_padding}
use Rattle.index_writing.proofs.SectionSizes.{list_large}
use Rattle.index_writing.proofs.TableRows.{refused_stop}
use Rattle.index_writing.proofs.section_places.put_list.Goals as goal

pub returns-in_err-place-clause-makes : goal.returns-in_err-place-clause-makes
returns-in_err-place-clause-makes c =
    refused_stop _ _ _ _ _ c.from_residual.ensures.1
    (λ large. let many = c.in_err-place.ensures.large large in behind_padding 4 _ _ (λ before. list_large before c.args.numbers.now (omega arith))) (λ longer. longer)
