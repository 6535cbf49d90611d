use Rattle.std.proofs.Common.{[], ◌/◌, take}
use Rattle.index_parts.specs.SeriesEntry.{series_text}
use Rattle.index_writing.specs.WriteSteps.{EachStands}
use Rattle.index_writing.proofs.AlignedTexts.{SoFar}
use Rattle.index_writing.proofs.section_places.put_all_series.Given as goal

abbrev pub invariant-loop-one : goal.invariant-loop-one
invariant-loop-one l = SoFar 16 series_text (λ place. place / 16) l.initial.out.items [] l.series l.one-index l.out.items l.numbers × EachStands l.out.items l.numbers (take l.one-index l.series)
