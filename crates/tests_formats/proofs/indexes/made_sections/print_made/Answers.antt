use Rattle.std.proofs.Common.{arith}
use Rattle.index_writing.proofs.Sizes.{texts_small}
use Rattle.tests_formats.proofs.indexes.made_sections.print_made.Goals as goal

pub write_symbols-requires : goal.write_symbols-requires
write_symbols-requires g = texts_small _ (omega (arith, g.texts_of.ensures.few, g.texts_of.ensures.short))
