-- A seat's syncs, watched along its entries.
use Rattle.std.specs.Prelude.{◌≡◌, ◌≢◌, ◌⊎◌, ℕ, List, [], ◌∷◌, ◌++◌, map, Option, Some, None, IfSome, is_some, if◌then◌else◌}
use Rattle.block_keys.specs.declared.key.Key.TheVariants as key
use Rattle.block_meta.specs.OfBlocks.{block_meta}
use Rattle.world_core.specs.Operations.{IsAnswer, entry_of}
use Rattle.world_core.specs.declared.entry.Entry.{Entry}
use Rattle.world_core.specs.declared.op.Op.{Op}
use Rattle.world_core.specs.declared.op.Op.TheVariants as op
use Rattle.world_core.specs.declared.reply.Reply.{Reply}
use Rattle.world_core.specs.declared.reply.Reply.TheVariants as reply
use Rattle.world_core.specs.declared.seen.Seen.{Seen}
use Rattle.meta_fetcher.specs.contracts.sync.SyncMachine.TheImpl.{ghosts as syncs}
use Rattle.meta_fetcher.specs.Syncs.{SyncRun}
use Rattle.meta_fetcher.specs.declared.rules.SyncRules.{SyncRules}
use Rattle.meta_fetcher.specs.declared.sync.Sync.{Sync}
use Rattle.meta_fetcher.specs.declared.sync.SyncEnd.{SyncEnd}
use Rattle.meta_fetcher.specs.declared.sync.SyncEnd.TheVariants as ended
use Rattle.breach_finding.specs.declared.watching.Came.{Came}
use Rattle.breach_finding.specs.declared.watching.Came.TheVariants as came
use Rattle.breach_finding.specs.declared.watching.Turn.{Turn}
use Rattle.breach_finding.specs.declared.watching.UnderWay.{UnderWay}

-- an operation of the kinds for which syncs ask
abbrev pub IsSyncOp : Op → Type 0
IsSyncOp (op.RootPage after limit) = Unit {0}
IsSyncOp (op.Get key) = Unit {0}
IsSyncOp (op.Clock moment) = ⊥
IsSyncOp (op.Put key bytes) = ⊥
IsSyncOp (op.GetRange key from len) = ⊥
IsSyncOp (op.Delete key) = ⊥
IsSyncOp (op.BlockPage ulid after limit) = ⊥

-- whether a sync gave a view
abbrev pub came_of : SyncEnd → Came
came_of (ended.View view) = came.View
came_of (ended.Fault entry) = came.Nothing
came_of (ended.Damaged entry) = came.Nothing
came_of ended.TooMany = came.Nothing

-- What a watched sync is told of a reply. Of a block's meta it is told that there is none: so it keeps no meta, and goes on as it would.
abbrev pub passed_on : Op → Reply → Reply
passed_on (op.Get (key.Meta ulid)) (reply.Found bytes) = if is_some (block_meta ulid bytes) then reply.Absent else reply.Found bytes
passed_on o r = r

-- the entry, with what the sync is told of it
abbrev pub as_passed : Entry → Entry
as_passed e = record { seq = e.seq; seat = e.seat; moment = e.moment; op = e.op; reply = passed_on e.op e.reply }

-- A sync by these rules made these entries, was told of them what is passed on, and waits for this operation.
pub record IsAt (rules : SyncRules) (made : List Entry) (machine : Sync) (asks : Op) : Type 0 where
  pub waits : syncs.asked machine ≡ Some asks
  pub onward : (entries : List Entry) (end : Option SyncEnd) (last : Sync) → syncs.may machine entries end last
      → SyncRun rules (map as_passed made ++ entries) end
  pub answered : (seat : ℕ) (seen : Seen) → IsAnswer asks seen → syncs.may machine (entry_of seat asks seen ∷ []) None machine

-- the machine waits for the operation that is kept beside it
abbrev pub IsWaiting : Option UnderWay → Type 0
IsWaiting under = IfSome under (λ w. syncs.asked w.machine ≡ Some w.asks)

-- what is told of an entry of a sync that began at this moment
abbrev pub IsToldAs : Turn → ℕ → Came → Type 0
IsToldAs turn begin how = IfSome turn.told (λ told. (told.begin ≡ begin) × (told.came ≡ how)) × (turn.told ≢ None)

-- The sync that made these entries, the first of them at the moment, goes on with this one,
pub record WentOn (rules : SyncRules) (made : List Entry) (e : Entry) (begin : ℕ) (turn : Turn) : Type 0 where
  pub next : UnderWay
  pub under : turn.under ≡ Some next
  pub told : IsToldAs turn begin came.GoesOn
  pub begun : next.begin ≡ begin
  pub at : IsAt rules (made ++ e ∷ []) next.machine next.asks

-- or it ends with this one.
pub record CameTo (rules : SyncRules) (made : List Entry) (e : Entry) (begin : ℕ) (turn : Turn) : Type 0 where
  pub end : SyncEnd
  pub under : turn.under ≡ None
  pub told : IsToldAs turn begin (came_of end)
  pub run : SyncRun rules (made ++ e ∷ []) (Some end)

abbrev pub Went : SyncRules → List Entry → Entry → ℕ → Turn → Type 0
Went rules made e begin turn = WentOn rules made e begin turn ⊎ CameTo rules made e begin turn

-- the entry begins a sync, or is none's
abbrev pub Begins : SyncRules → Entry → Turn → Type 0
Begins rules e turn =
    ((e.op ≡ op.RootPage [] rules.page_limit) × Went rules [] e e.moment.ms turn)
    ⊎ ((e.op ≢ op.RootPage [] rules.page_limit) × (turn.under ≡ None) × (turn.told ≡ None))

-- the entry goes on with the sync that is under way, or ends it, or that sync stops short and is none
abbrev pub IsTurn : SyncRules → Option UnderWay → Entry → Turn → Type 0
IsTurn rules None e turn = Begins rules e turn
IsTurn rules (Some w) e turn =
    ((w.asks ≡ e.op) × ((made : List Entry) → IsAt rules made w.machine w.asks → Went rules made e w.begin turn))
    ⊎ ((IsSyncOp w.asks → w.asks ≡ e.op → ⊥) × Begins rules e turn)
