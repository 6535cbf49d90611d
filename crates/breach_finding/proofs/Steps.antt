-- The steps of a sync that is watched.
use Rattle.std.proofs.Common.{◌≡◌, inl, inr, ◌≤◌, List, [], ◌∷◌, ◌++◌, Option, Some, None, Result, Ok, Err, refl, sym, ◌∙◌, ap, subst, append_assoc, arith}
use Rattle.std.specs.Prelude.{IfOk, map}
use Rattle.std.proofs.lemmas.List.{map-append}
use Rattle.base.specs.declared.memory.NoMemory.{NoMemory}
use Rattle.block_keys.specs.declared.key.Key.TheVariants as key
use Rattle.world_core.specs.Machines.{Asks, GoesOn}
use Rattle.world_core.specs.declared.act.Act.{Act}
use Rattle.world_core.specs.declared.act.Act.TheVariants.{Do, Done}
use Rattle.world_core.specs.declared.reply.Reply.{Reply}
use Rattle.world_core.specs.Operations.{IsAnswer, entry_of}
use Rattle.world_core.specs.declared.entry.Entry.{Entry}
use Rattle.world_core.specs.declared.op.Op.{Op}
use Rattle.world_core.specs.declared.op.Op.TheVariants as op
use Rattle.world_core.specs.declared.reply.Reply.TheVariants as reply
use Rattle.world_core.specs.declared.seen.Seen.{Seen}
use Rattle.meta_fetcher.specs.contracts.sync.SyncMachine.TheImpl.{ghosts as syncs}
use Rattle.meta_fetcher.specs.Syncs.{SyncRun}
use Rattle.meta_fetcher.specs.declared.rules.SyncRules.{SyncRules}
use Rattle.meta_fetcher.specs.declared.sync.Sync.{Sync}
use Rattle.meta_fetcher.specs.declared.sync.SyncEnd.{SyncEnd}
use Rattle.lifecycle_core.proofs.phases.TasksMade.{no_listing}
use Rattle.breach_finding.specs.Watching.{IsAt, Went, as_passed, came_of, passed_on}
use Rattle.breach_finding.proofs.PassedOn.{broken_off, ended}
use Rattle.breach_finding.specs.declared.watching.Came.TheVariants.{GoesOn as Going}
use Rattle.breach_finding.specs.declared.watching.Came.{Came}
use Rattle.breach_finding.specs.declared.watching.UnderWay.{UnderWay}
use Rattle.lifecycle_core.proofs.views.OneOpening.{sync_begins}

-- each operation has an answer
some_answer : (o : Op) → (seen : Seen) × IsAnswer o seen
some_answer (op.Clock moment) = (record { seq = 0; moment = record { ms = 0 }; reply = reply.Clocked }, record { kind = tt; moment = omega arith })
some_answer (op.Put key bytes) = (record { seq = 0; moment = record { ms = 0 }; reply = reply.Stored }, record { kind = tt; moment = omega arith })
some_answer (op.Get key) = (record { seq = 0; moment = record { ms = 0 }; reply = reply.Absent }, record { kind = tt; moment = omega arith })
some_answer (op.GetRange key start len) = (record { seq = 0; moment = record { ms = 0 }; reply = reply.Absent }, record { kind = tt; moment = omega arith })
some_answer (op.Delete key) = (record { seq = 0; moment = record { ms = 0 }; reply = reply.Deleted }, record { kind = tt; moment = omega arith })
some_answer (op.RootPage after limit) = (record { seq = 0; moment = record { ms = 0 }; reply = reply.Names [] }, record { kind = tt; moment = omega arith })
some_answer (op.BlockPage ulid after limit) = (record { seq = 0; moment = record { ms = 0 }; reply = reply.Names [] }, record { kind = tt; moment = omega arith })

-- and a sync is told all of it
some_passed : (o : Op) → passed_on o (some_answer o).0.reply ≡ (some_answer o).0.reply
unfolding some_answer
some_passed (op.Clock moment) = refl
some_passed (op.Put k bytes) = refl
some_passed (op.Get (key.Meta ulid)) = refl
some_passed (op.Get (key.Mark ulid)) = refl
some_passed (op.Get (key.Index ulid)) = refl
some_passed (op.Get (key.Segment ulid number)) = refl
some_passed (op.GetRange k start len) = refl
some_passed (op.Delete k) = refl
some_passed (op.RootPage after limit) = refl
some_passed (op.BlockPage ulid after limit) = refl

with_last : (made : List Entry) (e : Entry) → passed_on e.op e.reply ≡ e.reply → map as_passed (made ++ e ∷ []) ≡ map as_passed made ++ e ∷ []
with_last made e same = map-append as_passed made (e ∷ []) ∙ ap (λ (r : Reply). map as_passed made ++ record { seq = e.seq; seat = e.seat; moment = e.moment; op = e.op; reply = r } ∷ []) same

-- the operation that a sync waits for would go on with it
pub would_go_on : (rules : SyncRules) (made : List Entry) (machine : Sync) (asks : Op) → IsAt rules made machine asks → (x : Entry) × (x.op ≡ asks) × SyncRun rules (made ++ x ∷ []) None
would_go_on rules made machine asks at =
    let some = some_answer asks in
    let e = entry_of 0 asks some.0 in
    let run : SyncRun rules (map as_passed made ++ e ∷ []) None = at.onward (e ∷ []) None machine (at.answered 0 some.0 some.1) in
    (e, refl, broken_off rules (made ++ e ∷ []) (subst (λ (es : List Entry). SyncRun rules es None) (sym (with_last made e (some_passed asks))) run))

module _ (rules : SyncRules) (made : List Entry) (old : Sync) (asks : Op) (at : IsAt rules made old asks) (e : Entry) where
  pub at_next : (next : Op) (new : Sync) → Asks syncs.may syncs.asked old (as_passed e ∷ []) next new → IsAt rules (made ++ e ∷ []) new next
  at_next next new a = record {
    waits = a.waits;
    onward = λ entries end last run.
        let all : map as_passed (made ++ e ∷ []) ++ entries ≡ map as_passed made ++ as_passed e ∷ entries = ap (λ (es : List Entry). es ++ entries) (map-append as_passed made (e ∷ [])) ∙ append_assoc (map as_passed made) (as_passed e ∷ []) entries in
        subst (λ (es : List Entry). SyncRun rules es end) (sym all) (at.onward (as_passed e ∷ entries) end last (a.onward entries end last run));
    answered = a.answered;
  }

  pub at_done : (end : SyncEnd) (new : Sync) → syncs.may old (as_passed e ∷ []) (Some end) new → (own : SyncEnd) × (came_of end ≡ came_of own) × SyncRun rules (made ++ e ∷ []) (Some own)
  at_done end new run =
      ended rules (made ++ e ∷ []) end (subst (λ (es : List Entry). SyncRun rules es (Some end)) (sym (map-append as_passed made (e ∷ []))) (at.onward (as_passed e ∷ []) (Some end) new run))

-- ---- the first step

module _ (rules : SyncRules) (old : Sync) (starts : (entries : List Entry) (end : Option SyncEnd) (last : Sync) → syncs.may old entries end last → SyncRun rules entries end) where
  pub at_first : (asks : Op) (new : Sync) → Asks syncs.may syncs.asked old [] asks new → IsAt rules [] new asks
  at_first asks new a = record { waits = a.waits; onward = λ entries end last run. starts entries end last (a.onward entries end last run); answered = a.answered }

  pub first_asks : (low : 1 ≤ rules.page_limit) (asks : Op) (new : Sync) → Asks syncs.may syncs.asked old [] asks new → asks ≡ op.RootPage [] rules.page_limit
  first_asks low asks new a =
      let goes = would_go_on rules [] new asks (at_first asks new a) in
      sym goes.1 ∙ sync_begins rules goes.0 [] None goes.2

  pub first_not_done : (end : SyncEnd) (new : Sync) → syncs.may old [] (Some end) new → ⊥
  first_not_done end new run = let ended = starts [] (Some end) new run in no_listing rules 999_999 ended.0 ended.1

-- ---- a step by an entry

entry_is : (e : Entry) (r : Reply) → r ≡ passed_on e.op e.reply → entry_of e.seat e.op (record { seq = e.seq; moment = e.moment; reply = r }) ≡ as_passed e
entry_is e r same = ap (λ (q : Reply). entry_of e.seat e.op (record { seq = e.seq; moment = e.moment; reply = q })) same

pub came_do : (old new : Sync) (made : List Entry) (res : Result (Act SyncEnd) NoMemory) (next : Op) → GoesOn syncs.may syncs.asked old made res new → res ≡ Ok (Do next) → Asks syncs.may syncs.asked old made next new
came_do old new made res next goes is = subst (λ (q : Result (Act SyncEnd) NoMemory). GoesOn syncs.may syncs.asked old made q new) is goes

pub came_done : (old new : Sync) (made : List Entry) (res : Result (Act SyncEnd) NoMemory) (end : SyncEnd) → GoesOn syncs.may syncs.asked old made res new → res ≡ Ok (Done end) → syncs.may old made (Some end) new
came_done old new made res end goes is = subst (λ (q : Result (Act SyncEnd) NoMemory). GoesOn syncs.may syncs.asked old made q new) is goes

-- where a call did not stop for want of memory
ok_goes : (old : Sync) (made : List Entry) (res : Result (Act SyncEnd) NoMemory) (new : Sync) → GoesOn syncs.may syncs.asked old made res new → IfOk res (λ act. GoesOn syncs.may syncs.asked old made (Ok act) new)
ok_goes old made (Ok act) new goes = goes
ok_goes old made (Err none) new goes = tt

module _ (old new : Sync) (e : Entry) (r : Reply) (same : r ≡ passed_on e.op e.reply) (res : Result (Act SyncEnd) NoMemory)
    (goes : GoesOn syncs.may syncs.asked old (entry_of e.seat e.op (record { seq = e.seq; moment = e.moment; reply = r }) ∷ []) res new) where
  by_entry : GoesOn syncs.may syncs.asked old (as_passed e ∷ []) res new
  by_entry = subst (λ (x : Entry). GoesOn syncs.may syncs.asked old (x ∷ []) res new) (entry_is e r same) goes

  pub step_ok : IfOk res (λ act. GoesOn syncs.may syncs.asked old (as_passed e ∷ []) (Ok act) new)
  step_ok = ok_goes old (as_passed e ∷ []) res new by_entry

module _ (rules : SyncRules) (made : List Entry) (w : UnderWay) (at : IsAt rules made w.machine w.asks) (e : Entry) (new : Sync) where
  pub went_do : (next : Op) → Asks syncs.may syncs.asked w.machine (as_passed e ∷ []) next new
      → Went rules made e w.begin (record { under = Some (record { machine = new; asks = next; begin = w.begin }); told = Some (record { begin = w.begin; came = Going }) })
  went_do next asks = inl (record {
    next = record { machine = new; asks = next; begin = w.begin };
    under = refl;
    told = ((refl, refl), λ none. cc (none));
    begun = refl;
    at = at_next rules made w.machine w.asks at e next new asks;
  })

  pub went_done : (end : SyncEnd) (how : Came) → how ≡ came_of end → syncs.may w.machine (as_passed e ∷ []) (Some end) new
      → Went rules made e w.begin (record { under = None; told = Some (record { begin = w.begin; came = how }) })
  went_done end how is run =
      let own = at_done rules made w.machine w.asks at e end new run in
      inr (record { end = own.0; under = refl; told = ((refl, is ∙ own.1), λ none. cc (none)); run = own.2 })
