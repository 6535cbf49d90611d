-- What is wrong with a line, as the refusal of that line and of its script.
use Rattle.std.specs.Prelude.{ℕ, Result}
use Rattle.base.specs.Reading.{refused_as}
use Rattle.script_fields.specs.declared.cause.LineCause.{LineCause}
use Rattle.script_fields.specs.declared.line_refusal.LineRefusal.{LineRefusal}
use Rattle.script_fields.specs.declared.line_refusal.LineRefusal.TheVariants as lines
use Rattle.script_fields.specs.declared.script_refusal.ScriptRefusal.{ScriptRefusal}
use Rattle.script_fields.specs.declared.script_refusal.ScriptRefusal.TheVariants as scripts

-- a cause of `BadLine` as a refusal
abbrev pub bad : {A : Type 0} → Result A LineCause → Result A LineRefusal
bad result = refused_as lines.Bad result

-- the refusal of the line with a number
abbrev pub of_line : ℕ → LineRefusal → ScriptRefusal
of_line number (lines.Bad cause) = scripts.BadLine number cause
of_line number lines.FallingMoment = scripts.FallingMoment number
of_line number lines.UnknownBlock = scripts.UnknownBlock number
of_line number lines.BlockChanged = scripts.BlockChanged number
of_line number lines.BadRules = scripts.BadRules number
of_line number lines.NeverSynced = scripts.NeverSynced number
of_line number lines.TwoCompactors = scripts.TwoCompactors number
of_line number lines.TooMany = scripts.TooMany number
of_line number lines.NoMemory = scripts.NoMemory
