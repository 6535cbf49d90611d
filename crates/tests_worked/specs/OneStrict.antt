-- The script of one block with another ignore delay. Its run is the same.
use Rattle.std.specs.Prelude.{ℕ, List, [], None}
use Rattle.block_keys.specs.declared.key.Key.TheVariants as key
use Rattle.moment_core.specs.StandardRules.{minutes, hours}
use Rattle.moment_core.specs.declared.rules.Rules.{Rules}
use Rattle.moment_core.specs.declared.span.Span.{Span}
use Rattle.world_core.specs.declared.entry.Entry.{Entry}
use Rattle.script_core.specs.declared.script.Script.{Script}
use Rattle.lifecycle_core.specs.Setting.{Setting, setting_of}
use Rattle.tests_worked.specs.Entries.{found, stored}
use Rattle.tests_worked.specs.OneBlock as one
use Rattle.tests_worked.specs.SmallBlock as small
use Rattle.tests_worked.specs.SmallRuns as runs

-- the standard rules with this ignore delay
abbrev pub rules_with : Span → Rules
rules_with ignore = record {
  consistency = minutes 30;
  ignore = ignore;
  delete = hours 48;
  partial = hours 48;
  upload = minutes 30;
  tick = record { ms = 1 };
  page_limit = 1_000;
  replicas = [];
  retention = None;
}

abbrev pub script_with : Span → Script
script_with ignore = record {
  rules = rules_with ignore;
  gateways = one.script.gateways;
  partitions = one.script.partitions;
  blocks = one.script.blocks;
  selectors = one.script.selectors;
  phases = one.script.phases;
}

-- marks are ignored for a second
abbrev pub hasty : Setting
hasty = setting_of (script_with (record { ms = 1_000 }))

-- marks are ignored for as long as objects stand after their mark
abbrev pub idle : Setting
idle = setting_of (script_with (hours 48))

-- the sync's last read, and the query's first one
abbrev pub last_read : Entry
last_read = found 9 2 1_800_003 (key.Meta small.a) small.meta

abbrev pub first_call : Entry
first_call = runs.contents_read 10 2 1_800_004

-- a mark of these bytes is put a millisecond after the ignore delay
abbrev pub late_mark : List ℕ → Entry
late_mark bytes = stored 1 1 86_400_001 (key.Mark small.a) bytes
