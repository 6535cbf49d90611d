use Rattle.std.proofs.Common.{◌≡◌, ◌≤◌, take}
use Rattle.std.specs.List.{sum_by}
use Rattle.index_writing.specs.WriteSteps.{greatest, text_size}
use Rattle.index_writing.proofs.section_tables.size_of_texts.Given as goal

abbrev pub invariant-loop-text : goal.invariant-loop-text
invariant-loop-text l = (l.size ≡ sum_by text_size (take l.text-index l.texts)) × (l.size ≤ greatest)
