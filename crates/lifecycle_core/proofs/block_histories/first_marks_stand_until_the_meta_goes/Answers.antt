use Rattle.std.proofs.Common.{◌∷◌, ◌++◌, refl}
use Rattle.lifecycle_core.proofs.deeds.ActingDeeds.{acting_deeds}
use Rattle.lifecycle_core.proofs.marks.Deletions.{first_before, first_mark_stands}
use Rattle.lifecycle_core.proofs.block_histories.first_marks_stand_until_the_meta_goes.Goals as goal

pub returns : goal.returns
returns c = record {
  stands = λ setting front middle after mark ulid second bytes lawful acts honest timely first puts kept.
      first_mark_stands setting (front ++ mark ∷ (middle ++ after)) lawful (acting_deeds setting (front ++ mark ∷ (middle ++ after)) lawful acts).deeds honest ulid timely front middle after mark second bytes refl first puts kept;
  late = λ setting before after e key ulid seq meta lawful acts honest timely complete deletes own.
      first_before setting (before ++ e ∷ after) lawful (acting_deeds setting (before ++ e ∷ after) lawful acts).deeds honest ulid timely seq meta complete before after e key refl deletes own;
}
