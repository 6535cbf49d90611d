use Rattle.std.proofs.Common.{ap, ◌∙◌, arith}
use Rattle.std.proofs.lemmas.List.{length-map}
use Rattle.std.specs.List.{sum_by}
use Rattle.index_writing.specs.WriteSteps.{text_size}
use Rattle.index_writing.specs.Written.{name_texts}
use Rattle.index_writing.proofs.SectionSizes.{offsets_fit, offsets_large}
use Rattle.index_writing.proofs.TableRows.{measured_stop}
use Rattle.index_writing.proofs.section_tables.put_label_offsets.Goals as goal

pub returns-in_err-size_of_texts-clause-makes : goal.returns-in_err-size_of_texts-clause-makes
returns-in_err-size_of_texts-clause-makes c =
    measured_stop _ _ _ _ _ c.from_residual-in_err-size_of_texts.ensures.1 c.in_err-size_of_texts.ensures
    (λ large. offsets_large c.args.out.now.items (name_texts c.args.symbols.now c.args.names.now) c.args.places.now (length-map _ _ ∙ c.requires) (omega (arith, ap (sum_by text_size) (c.members.ensures ∙ c.in_ok-texts.ensures))))

pub write_label_offsets-requires-clause-size : goal.write_label_offsets-requires-clause-size
write_label_offsets-requires-clause-size c = offsets_fit _ _ (let fits = c.in_ok-size_of_texts.ensures in omega (arith, ap (sum_by text_size) c.members.ensures))
