use Rattle.lifecycle_core.proofs.deeds.ActingDeeds.{acting_deeds}
use Rattle.lifecycle_core.proofs.views.Seen.{settled_is_covered}
use Rattle.lifecycle_core.proofs.views.Kept.{kept_is_whole, source_is_uploaded}
use Rattle.lifecycle_core.proofs.view_laws.views_are_worth_it.Goals as goal

pub returns : goal.returns
returns c = record {
  complete = λ setting journal gateway used sync found lawful acts gave honest among.
      kept_is_whole setting journal lawful (acting_deeds setting journal lawful acts).deeds honest gateway used sync gave found among;
  named = λ setting journal gateway used sync found ulid lawful acts gave honest among inside.
      source_is_uploaded setting journal lawful (acting_deeds setting journal lawful acts).deeds honest gateway used sync gave found among ulid inside;
  covered = λ setting journal gateway used sync ulid lawful acts gave honest timely quick settled.
      settled_is_covered setting journal lawful (acting_deeds setting journal lawful acts).deeds honest gateway used sync gave timely quick ulid settled;
}
