use Rattle.std.proofs.Common.{◌≡◌, ◌-◌, ◌*◌, ◌^◌, ◌<◌, ◌++◌, length, take}
use Rattle.wire_bytes.specs.Written.{groups_text}
use Rattle.wire_bytes.proofs.varint.groups.Given as goal

-- the groups that are written, and what the rest of the number gives, are what the number gives
abbrev pub invariant-loop-i : goal.invariant-loop-i
invariant-loop-i l = record {
  room : length l.groups ≡ 10;
  small : l.high * 2 ^ (7 * l.i) < 2 ^ 64;
  whole : take l.i l.groups ++ groups_text (9 - l.i) l.high ≡ groups_text 9 l.n;
}
