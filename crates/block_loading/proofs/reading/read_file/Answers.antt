use Rattle.std.proofs.Common.{◌∙◌, ℕ, List, [], ◌∷◌, inl, inr, ap}
use Rattle.block_loading.specs.declared.load_refusal.LoadRefusal.TheVariants.{NoMemory}
use Rattle.block_loading.specs.LoadReading.{RefusesFile}
use Rattle.block_loading.proofs.FileLaws.{read_is}
use Rattle.block_loading.proofs.Asked.{error_is, asks_none, asks_same, asks_as}
use Rattle.block_loading.proofs.Stopped.{said_on}
use Rattle.block_loading.proofs.reading.read_file.Goals as goal

pub returns-clause-read : goal.returns-clause-read
returns-clause-read g c = λ told h. read_is c.file_of.result _ told c.args.key.now c.as_str.result.now _ c.read-answer.ensures.shown h (c.as_str.ensures ∙ c.in_ok-name.ensures.value) c.file_of.ensures.read

pub returns-in_err-name-clause-asks : goal.returns-in_err-name-clause-asks
returns-in_err-name-clause-asks g c = inr (asks_none g.F.Shelf.told c.args.shelf.now, error_is c.from_residual.result NoMemory c.from_residual.ensures.1)

pub returns-clause-asks : goal.returns-clause-asks
returns-clause-asks g c =
    elim c.read-answer.ensures.asks [
      | inl asks ↦ inl (asks_as g.F.Shelf.told _ _ _ _ asks (ap (λ (n : List ℕ). n ∷ []) (c.as_str.ensures ∙ c.in_ok-name.ensures.value)))
      | inr unnoted ↦ inr (asks_same g.F.Shelf.told _ _ unnoted.0, c.file_of.ensures.memory unnoted.1)
    ]

pub returns-in_err-name-clause-stopped : goal.returns-in_err-name-clause-stopped
returns-in_err-name-clause-stopped g c = said_on (RefusesFile c.args.key.now) c.from_residual.result NoMemory c.from_residual.ensures.1 tt
