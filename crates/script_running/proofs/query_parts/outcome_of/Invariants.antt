use Rattle.std.proofs.Common.{◌≡◌, ◌<◌, ◌^◌, List, length, map}
use Rattle.script_running.specs.Given.{HasGiven}
use Rattle.script_running.specs.declared.came.Came.TheVariants as part
use Rattle.script_running.specs.declared.outcome.QueryPart.{QueryPart}
use Rattle.script_running.proofs.query_parts.outcome_of.Given as goal

-- the parts so far are those of gateways
abbrev pub invariant-loop-part : goal.invariant-loop-part
invariant-loop-part g l = (own : List QueryPart) × (l.yielded ≡ map part.Query own)
    × (length l.fn.parts.items < 2 ^ 32 → (l.gateway ≡ length own) × HasGiven own l.given)
