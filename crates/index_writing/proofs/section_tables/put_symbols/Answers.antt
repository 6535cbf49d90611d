use Rattle.std.proofs.Common.{ap, arith}
use Rattle.std.specs.List.{sum_by}
use Rattle.index_writing.specs.WriteSteps.{text_size}
use Rattle.index_writing.proofs.SectionSizes.{symbols_fit, symbols_large}
use Rattle.index_writing.proofs.TableRows.{measured_stop}
use Rattle.index_writing.proofs.section_tables.put_symbols.Goals as goal

pub returns-in_err-size_of_texts-clause-makes : goal.returns-in_err-size_of_texts-clause-makes
returns-in_err-size_of_texts-clause-makes c =
    measured_stop _ _ _ _ _ c.from_residual.ensures.1 c.in_err-size_of_texts.ensures
    (λ large. symbols_large c.args.out.now.items c.args.symbols.now (omega (arith, ap (sum_by text_size) c.members.ensures)))

pub write_symbols-requires : goal.write_symbols-requires
write_symbols-requires c = symbols_fit _ (let fits = c.in_ok-size_of_texts.ensures in omega (arith, ap (sum_by text_size) c.members.ensures))
