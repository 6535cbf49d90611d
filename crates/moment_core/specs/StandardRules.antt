-- The rules of a script that sets none.
use Rattle.std.specs.Prelude.{ℕ, ◌*◌, [], None}
use Rattle.moment_core.specs.declared.rules.Rules.{Rules}
use Rattle.moment_core.specs.declared.span.Span.{Span}
use Rattle.moment_core.specs.Limits.{one_minute, one_hour}

abbrev pub minutes : ℕ → Span
minutes n = record { ms = n * one_minute }

abbrev pub hours : ℕ → Span
hours n = record { ms = n * one_hour }

abbrev pub standard_rules : Rules
standard_rules = record {
  consistency = minutes 30;
  ignore = hours 24;
  delete = hours 48;
  partial = hours 48;
  upload = minutes 30;
  tick = record { ms = 1 };
  page_limit = 1_000;
  replicas = [];
  retention = None;
}
