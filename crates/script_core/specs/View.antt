-- How the state of a script's lines is kept while they are read, and how a query's line is.
use Rattle.std.specs.Prelude.{option_map}
use Rattle.script_core.specs.declared.draft.Draft.{Draft}
use Rattle.script_core.specs.declared.phase_lines.Question.{Question}
use Rattle.script_core.specs.Lines.{Asked}
use Rattle.script_core.specs.State.{State, last_of}

unfoldable pub state_of : Draft → State
state_of draft =
    record { rules = draft.rules; gateways = draft.gateways; partitions = draft.partitions; synced = draft.synced.items; blocks = draft.blocks; last = option_map last_of draft.last; shelved = draft.shelved; continues = draft.continues; ulids = draft.ulids.keys; selectors = draft.selectors; phases = draft.phases; phase = draft.phase; hands = draft.hands.items; activities = draft.activities }

abbrev pub asked_of : Question → Asked
asked_of question = record { low = question.low; high = question.high; text = question.selector.now }
