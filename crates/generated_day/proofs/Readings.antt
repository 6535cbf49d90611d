-- What reads the parts of the generated day.
use Rattle.std.proofs.Common.{◌≡◌, ℕ, ◌<◌, true, List, Result, OnOk, IfErr, ◌⊎◌, sym, subst}
use Rattle.std.specs.List.{list_all}
use Rattle.label_sets.specs.declared.label.Label.{Label}
use Rattle.label_sets.specs.declared.sample.Sample.{Sample}
use Rattle.script_fields.specs.Fields.{lines_of}
use Rattle.script_core.specs.Parts.{AreNextGivenUp, AreSeriesParts, IsEnded, IsPartRefused, Reads, series_front, series_text}
use Rattle.script_core.specs.declared.part_reader.PartReader.{PartReader}
use Rattle.script_fields.specs.declared.script_refusal.ScriptRefusal.{ScriptRefusal}
use Rattle.script_fields.specs.declared.script_refusal.ScriptRefusal.TheVariants.{NoMemory}
use Rattle.generated_day.specs.Day.{day_samples, labels_text, samples_text, series_line}
use Rattle.generated_day.specs.Wanting.{IsWanting, ReadsOrWants}
use Rattle.generated_day.proofs.DaySeries.{labels_at, series_parts}
use Rattle.generated_day.proofs.Wanting.{is_plain, lines_end, lines_want, series_end}

-- what a reader says of the lines of a text
abbrev MayRefuse : {A : Type 0} → PartReader → List ℕ → Result A ScriptRefusal → Type 0
MayRefuse before text result =
    IsEnded text → IfErr result (λ e. AreNextGivenUp before text e ⊎ IsPartRefused before text e)

module _ (before after : PartReader) (given text : List ℕ) (same : given ≡ text) (plain : list_all is_plain (lines_of text) ≡ true) (ended : IsEnded text) where
  pub text_end : {A : Type 0} (result : Result A ScriptRefusal) → OnOk result (Reads before after given) → MayRefuse before given result → ReadsOrWants before after text result
  text_end result reads refused =
      lines_end before after text result plain (subst (λ t. OnOk result (Reads before after t)) same reads) (subst (λ t. MayRefuse before t result) same refused ended)

  pub text_wants : (refusal : ScriptRefusal) → (IsEnded given → AreNextGivenUp before given refusal ⊎ IsPartRefused before given refusal) → IsWanting before text refusal
  text_wants refusal refused =
      lines_want before text refusal plain (subst (λ t. IsEnded t → AreNextGivenUp before t refusal ⊎ IsPartRefused before t refusal) same refused ended)

-- what it says of a series
pub line_end : {A : Type 0} (before after : PartReader) (labels : List ℕ) (samples : List Sample) (number block replica series : ℕ) (result : Result A ScriptRefusal) → block < 12 → series < 100 → labels ≡ labels_text series → samples ≡ day_samples number block replica series
    → OnOk result (Reads before after (series_text labels samples)) → ((set : List Label) → AreSeriesParts labels set samples → IfErr result (λ e. (e ≡ NoMemory) ⊎ IsPartRefused before (series_text labels samples) e))
    → ReadsOrWants before after (series_line number block replica series) result
unfolding series_text series_front series_line samples_text
line_end before after labels samples number block replica series result early few labels_are samples_are reads refused =
    let parts : AreSeriesParts labels (labels_at series) samples = subst (λ l. AreSeriesParts l (labels_at series) samples) (sym labels_are) (subst (AreSeriesParts (labels_text series) (labels_at series)) (sym samples_are) (series_parts number block replica early series few)) in
    let line_is : series_text labels samples ≡ series_line number block replica series = λ i. series_text (labels_are i) (samples_are i) in
    subst (λ t. ReadsOrWants before after t result) line_is (series_end before after (series_text labels samples) result reads (refused (labels_at series) parts))
