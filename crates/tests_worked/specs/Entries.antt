-- Entries of journals, as the worked rows write them.
use Rattle.std.specs.Prelude.{ℕ, List, []}
use Rattle.block_keys.specs.declared.key.Key.{Key}
use Rattle.world_core.specs.declared.entry.Entry.{Entry}
use Rattle.world_core.specs.declared.op.Op.{Op}
use Rattle.world_core.specs.declared.op.Op.TheVariants as op
use Rattle.world_core.specs.declared.reply.Reply.{Reply}
use Rattle.world_core.specs.declared.reply.Reply.TheVariants as reply

-- number, seat, moment, operation and reply
abbrev pub entry : ℕ → ℕ → ℕ → Op → Reply → Entry
entry seq seat moment op reply = record {
  seq = seq;
  seat = seat;
  moment = record { ms = moment };
  op = op;
  reply = reply;
}

-- the clock is set to the moment
abbrev pub clock : ℕ → ℕ → Entry
clock seq moment = entry seq 0 moment (op.Clock (record { ms = moment })) reply.Clocked

abbrev pub stored : ℕ → ℕ → ℕ → Key → List ℕ → Entry
stored seq seat moment key bytes = entry seq seat moment (op.Put key bytes) reply.Stored

abbrev pub found : ℕ → ℕ → ℕ → Key → List ℕ → Entry
found seq seat moment key bytes = entry seq seat moment (op.Get key) (reply.Found bytes)

-- a range of an object: its place, how many bytes were asked for, and those that were shown
abbrev pub in_range : ℕ → ℕ → ℕ → Key → ℕ → ℕ → List ℕ → Entry
in_range seq seat moment key from len bytes = entry seq seat moment (op.GetRange key from len) (reply.Found bytes)

abbrev pub absent : ℕ → ℕ → ℕ → Key → Entry
absent seq seat moment key = entry seq seat moment (op.Get key) reply.Absent

abbrev pub deleted : ℕ → ℕ → ℕ → Key → Entry
deleted seq seat moment key = entry seq seat moment (op.Delete key) reply.Deleted

-- the first page of the names of blocks, by the standard limit
abbrev pub listed : ℕ → ℕ → ℕ → List (List ℕ) → Entry
listed seq seat moment names = entry seq seat moment (op.RootPage [] 1_000) (reply.Names names)
