-- Two texts that are written one after another.
use Rattle.std.proofs.Common.{◌≡◌, List, ℕ, ◌++◌, Option}
use Rattle.std.specs.Prelude.{OnErr, Ok, Err, Result, option_map}
use Rattle.call_verdicts.specs.Output.{IsWrittenInPart}
use Rattle.call_verdicts.specs.declared.output.SinkFault.{SinkFault}
use Rattle.call_verdicts.proofs.Pieces.{second_part}

pub on_any_err : {E P : Type 0} (r : Result (Unit {0}) E) → P → OnErr r P
on_any_err (Ok done) holds = tt
on_any_err (Err e) holds = holds

pub both_part : (one two : List ℕ) (before mid after : Option (List ℕ)) (r : Result (Unit {0}) SinkFault) → mid ≡ option_map (λ (bytes : List ℕ). bytes ++ one) before → OnErr r (IsWrittenInPart two mid after)
    → OnErr r (IsWrittenInPart (one ++ two) before after)
both_part one two before mid after (Ok done) first second = tt
both_part one two before mid after (Err e) first second = second_part one two before mid after first second
