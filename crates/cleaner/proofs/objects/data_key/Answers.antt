use Rattle.std.proofs.Common.{◌∙◌, ap}
use Rattle.block_keys.specs.KeyText.{key_of}
use Rattle.cleaner.specs.Objects.{only_data}
use Rattle.cleaner.proofs.Keys.{key_of_name}
use Rattle.cleaner.proofs.objects.data_key.Goals as goal

pub returns-clause-value : goal.returns-clause-value
returns-clause-value c =
    c.only_data.ensures ∙ ap only_data (c.ok.ensures.value ∙ c.read.ensures.gives
    ∙ ap key_of (c.as_str.ensures.value ∙ c.in_ok-text.ensures.value) ∙ key_of_name c.args.ulid c.args.name.now c.in_ok-text.ensures.block)
