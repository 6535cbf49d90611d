-- The numbers, times, spans and ULIDs that stand in fields.
use Rattle.std.specs.Prelude.{ℕ, ◌+◌, ◌%◌, List, [], ◌∷◌, ◌++◌, Bool, ◌&&◌, ◌==◌, nat_le, nat_lt, Option, None, Some, option_map, ok_or, Result, Ok, ℤ, pos, negsuc, if◌then◌else◌}
use Rattle.base.specs.Reading.{◌>>=◌, ◌>>◌, unless, refused_as}
use Rattle.base.specs.Decimal.{unsigned_of, signed_of}
use Rattle.ulid_core.specs.UlidText.{ulid_of}
use Rattle.ulid_core.specs.Reserved.{least_reserved}
use Rattle.ulid_core.specs.Limits.{entropy_count}
use Rattle.label_sets.specs.Notation.{is_name}
use Rattle.label_sets.specs.Limits.{time_limit}
use Rattle.moment_core.specs.declared.span.Span.{Span}
use Rattle.moment_core.specs.declared.rules.Rules.{Rules}
use Rattle.moment_core.specs.Limits.{longest_tick, one_second}
use Rattle.script_fields.specs.Limits.{latest_stop, most_names}
use Rattle.script_fields.specs.declared.rule_kind.RuleKind.{RuleKind}
use Rattle.script_fields.specs.declared.rule_kind.RuleKind.TheVariants.{Valued, ReplicaLabel, Retention}
use Rattle.script_fields.specs.declared.rule_name.RuleName.{RuleName}
use Rattle.script_fields.specs.declared.rule_name.RuleName.TheVariants as names
use Rattle.moment_core.specs.SpanText.{span_of}
use Rattle.moment_core.specs.MomentText.{moment_of}
use Rattle.moment_core.specs.declared.moment.Moment.{Moment}
use Rattle.script_fields.specs.declared.cause.LineCause.{LineCause}
use Rattle.script_fields.specs.declared.cause.LineCause.TheVariants.{BadNumber, BadMomentText, BadSpanText, BadUlidText, BadName}

-- a time of the script
abbrev pub is_time : ℤ → Bool
is_time (pos n) = nat_le n time_limit
is_time (negsuc n) = nat_lt n time_limit

unfoldable pub time_field : List ℕ → Result ℤ LineCause
time_field field = do
  time ← refused_as (λ _. BadNumber) (signed_of field)
  unless (is_time time) BadNumber
  Ok time

unfoldable pub page_limit_field : List ℕ → Result ℕ LineCause
page_limit_field field = do
  limit ← refused_as (λ _. BadNumber) (unsigned_of field)
  unless (nat_le 1 limit && nat_le limit most_names) BadNumber
  Ok limit

unfoldable pub stop_count : List ℕ → Result ℕ LineCause
stop_count field = do
  count ← refused_as (λ _. BadNumber) (unsigned_of field)
  unless (nat_le 1 count && nat_le count latest_stop) BadNumber
  Ok count

abbrev pub span_from : ℕ → Span
span_from ms = record { ms = ms }

unfoldable pub span_field : List ℕ → Result Span LineCause
span_field field = ok_or (option_map span_from (span_of field)) BadSpanText

-- a span of at most a day
unfoldable pub tick_field : List ℕ → Result Span LineCause
tick_field field = do
  tick ← span_field field
  unless (nat_le tick.ms longest_tick) BadSpanText
  Ok tick

abbrev pub moment_from : ℕ → Moment
moment_from ms = record { ms = ms }

unfoldable pub moment_field : List ℕ → Result Moment LineCause
moment_field field = ok_or (option_map moment_from (moment_of field)) BadMomentText

unfoldable pub ulid_field : List ℕ → Result ℕ LineCause
ulid_field field = refused_as (λ _. BadUlidText) (ulid_of field)

-- The last ULIDs of each millisecond are kept for compacted blocks.
abbrev pub is_reserved : ℕ → Bool
is_reserved ulid = nat_le least_reserved (ulid % entropy_count)

-- what a text says of a rule's value, a span by its milliseconds
unfoldable pub value_field : RuleName → List ℕ → Result ℕ LineCause
value_field names.PageLimit text = page_limit_field text
value_field names.Tick text = do
  tick ← tick_field text
  Ok tick.ms
value_field name text = do
  span ← span_field text
  Ok span.ms

-- the rules with another value of one
abbrev pub with_rule : RuleName → ℕ → Rules → Rules
with_rule names.Consistency value rules = record rules { consistency = span_from value }
with_rule names.Ignore value rules = record rules { ignore = span_from value }
with_rule names.Delete value rules = record rules { delete = span_from value }
with_rule names.Partial value rules = record rules { partial = span_from value }
with_rule names.Upload value rules = record rules { upload = span_from value }
with_rule names.Tick value rules = record rules { tick = span_from value }
with_rule names.PageLimit value rules = record rules { page_limit = value }

-- what a rule's name and the text of its value make of the rules
unfoldable pub set_rule : RuleName → List ℕ → Rules → Result Rules LineCause
set_rule name text rules = do
  value ← value_field name text
  Ok (with_rule name value rules)

-- the rules with one more replica label
unfoldable pub add_replica : List ℕ → Rules → Result Rules LineCause
add_replica text rules = do
  unless (is_name text) BadName
  Ok (record rules { replicas = rules.replicas ++ text ∷ [] })

-- blocks are kept so long; for ever, where that is no time
abbrev pub retention_from : ℕ → Option Span
retention_from ms = if ms == 0 then None else Some (span_from ms)

-- the rules with another retention
unfoldable pub set_retention : List ℕ → Rules → Result Rules LineCause
set_retention text rules = do
  span ← span_field text
  Ok (record rules { retention = retention_from span.ms })

-- what a rule line of this kind makes of the rules, by the text of its value
abbrev pub apply_rule : RuleKind → List ℕ → Rules → Result Rules LineCause
apply_rule (Valued name) text rules = set_rule name text rules
apply_rule ReplicaLabel text rules = add_replica text rules
apply_rule Retention text rules = set_retention text rules

-- An upload has its time before a partial block is deleted, and a second more before a marked one is. A mark is heeded
-- no later than it deletes.
abbrev pub agree : Rules → Bool
agree set =
    nat_le set.upload.ms set.partial.ms && nat_le (set.upload.ms + one_second) set.delete.ms && nat_le set.ignore.ms set.delete.ms
