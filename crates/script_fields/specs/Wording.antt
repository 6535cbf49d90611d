-- How reports word a refusal.
use Rattle.std.specs.Prelude.{ℕ, List, [], ◌++◌, codes}
use Rattle.base.specs.Decimal.{decimal_text}
use Rattle.script_fields.specs.declared.cause.LineCause.{LineCause}
use Rattle.script_fields.specs.declared.cause.LineCause.TheVariants as causes
use Rattle.script_fields.specs.declared.script_refusal.ScriptRefusal.{ScriptRefusal}
use Rattle.script_fields.specs.declared.script_refusal.ScriptRefusal.TheVariants as refusals

-- the numbers of the causes
abbrev pub cause_number : LineCause → ℕ
cause_number causes.NotText = 1
cause_number causes.UnknownWord = 2
cause_number causes.BadShape = 3
cause_number causes.BadNumber = 4
cause_number causes.BadMomentText = 5
cause_number causes.BadSpanText = 6
cause_number causes.BadUlidText = 7
cause_number causes.BadName = 8
cause_number causes.BadLabelText = 9
cause_number causes.BadSample = 10
cause_number causes.FallingTimes = 11
cause_number causes.OutsideBlock = 12
cause_number causes.RepeatedSeries = 13
cause_number causes.EmptyInline = 14
cause_number causes.NoBlock = 15
cause_number causes.NoPhase = 16
cause_number causes.LateLine = 17
cause_number causes.BadTimes = 18
cause_number causes.ReservedUlid = 19
cause_number causes.UnknownGateway = 20
cause_number causes.RepeatedGateway = 21
cause_number causes.BadSelectorText = 22
cause_number causes.BadPatternText = 23
cause_number causes.ReplicaNamed = 24
cause_number causes.PatternSizeText = 25

-- a line's number, and what is wrong with the line
abbrev pub line_text : ℕ → List ℕ → List ℕ
line_text line words = codes "line " ++ decimal_text line ++ codes ": " ++ words

-- Want of memory has no words.
abbrev pub refusal_text : ScriptRefusal → List ℕ
refusal_text refusals.TooLong = codes "too long"
refusal_text (refusals.BadLine line cause) = line_text line (codes "bad line " ++ decimal_text (cause_number cause))
refusal_text (refusals.FallingMoment line) = line_text line (codes "falling moment")
refusal_text (refusals.TwoCompactors line) = line_text line (codes "two compactors")
refusal_text (refusals.UnknownBlock line) = line_text line (codes "unknown block")
refusal_text (refusals.BlockChanged line) = line_text line (codes "block changed")
refusal_text (refusals.BadRules line) = line_text line (codes "bad rules")
refusal_text (refusals.NeverSynced line) = line_text line (codes "never synced")
refusal_text (refusals.TooMany line) = line_text line (codes "too many")
refusal_text refusals.NoMemory = []
