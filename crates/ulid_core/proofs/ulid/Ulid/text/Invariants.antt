use Rattle.std.proofs.Common.{◌≡◌, ◌++◌, map, drop, length}
use Rattle.base.specs.FixedDigits.{fixed_digits}
use Rattle.ulid_core.specs.UlidText.{character, text_of}
use Rattle.ulid_core.proofs.ulid.Ulid.text.Given as goal

-- the characters that are still to come and those that stand are the text
abbrev pub invariant-loop-place : goal.invariant-loop-place
invariant-loop-place l = record {
  size : length l.text ≡ 26;
  whole : map character (fixed_digits 32 l.place l.rest) ++ drop l.place l.text ≡ text_of l.fn.self;
}
