-- What the first gateways gave to a query.
use Rattle.std.specs.Prelude.{◌≡◌, List}
use Rattle.script_running.specs.Outcomes.{answers_of, first_none, names_of}
use Rattle.script_running.specs.declared.outcome.QueryPart.{QueryPart}
use Rattle.script_running.specs.declared.query_parts.Given.{Given}

-- By these parts this is told.
pub record HasGiven (parts : List QueryPart) (given : Given) : Type 0 where
  pub answers : given.answers ≡ answers_of parts
  pub names : given.names ≡ names_of 0 parts
  pub none : given.none ≡ first_none 0 parts
