use Rattle.std.proofs.Common.{◌≡◌, take}
use Rattle.std.specs.Str.Parse.{digits_value}
use Rattle.label_sets.proofs.sample.hex_number.Given as goal

-- the number of the signs so far
abbrev pub invariant-loop-sign : goal.invariant-loop-sign
invariant-loop-sign l = l.number ≡ digits_value 16 (take l.sign-index l.signs)
