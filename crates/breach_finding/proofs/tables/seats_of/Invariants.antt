use Rattle.std.proofs.Common.{◌≡◌}
use Rattle.script_core.specs.Lawful.{IsLawfulScript}
use Rattle.script_core.specs.Workers.{seats_before}
use Rattle.breach_finding.specs.Tables.{AreCompactors, AreSeatsOf}
use Rattle.breach_finding.proofs.tables.seats_of.Given as goal

abbrev pub invariant-loop-number : goal.invariant-loop-number
invariant-loop-number l = record {
  taken : l.before ≡ seats_before l.script l.number;
  gateways : IsLawfulScript l.script → AreSeatsOf l.script l.number l.gateways;
  compactors : AreCompactors l.script l.number l.compactors;
}
