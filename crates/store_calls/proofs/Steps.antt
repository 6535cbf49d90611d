-- A series call's steps are those of its plan, where the reads of a block are a part of it.
use Rattle.std.proofs.Common.{◌≡◌, ◌↔◌, ℕ, ℤ, ◌≤◌, List, [], ◌∷◌, ◌++◌, length, drop, get_or, Option, Some, None, Result, Ok, Err, refl, sym, ap, ap₂, subst, inl, inr, ◌∙◌, append_assoc, append-nil}
use Rattle.base.specs.declared.memory.NoMemory.{NoMemory}
use Rattle.label_sets.specs.declared.series.Series.{Series}
use Rattle.label_sets.specs.Triples.{Triple}
use Rattle.matchers.specs.declared.matcher.Matcher.{Matcher}
use Rattle.vertical_merge.specs.Merged.{IsMerge}
use Rattle.world_core.specs.Machines.{Asks, GoesOn}
use Rattle.world_core.specs.Plans.{ComesTo}
use Rattle.world_core.specs.declared.act.Act.{Act}
use Rattle.world_core.specs.declared.act.Act.TheVariants.{Do, Done}
use Rattle.world_core.specs.declared.op.Op.{Op}
use Rattle.world_core.specs.declared.entry.Entry.{Entry}
use Rattle.world_core.proofs.PlanLaws.{breaks_off}
use Rattle.sync_filters.specs.declared.found.Found.{Found}
use Rattle.store_ranges.specs.Caches.{held}
use Rattle.store_ranges.specs.declared.cache.IndexCache.{IndexCache}
use Rattle.store_ranges.specs.ChunkRanges.{IsSetOf}
use Rattle.store_ranges.specs.Reads.{Query, Block, Cache, missing, damaged, fault}
use Rattle.store_calls.specs.BlockReads.{BlockEnd, gives, breaks_off as broken, block_call}
use Rattle.store_calls.specs.SeriesCalls.{CallEnd, Gives, StartsMeeting, took, broke, after_block, asking, reading, sources_of, to_read}
use Rattle.store_calls.specs.BlockRuns.{BlockRun, IsEnd, cache_of}
use Rattle.store_calls.specs.contracts.block_call.BlockCallMachine.TheImpl.{ghosts as reads}
use Rattle.store_calls.specs.CallStates.{Leads, Onward, Waits, after_reads, asked_at, asked_call, beyond, left_at, left_of, may_call, query_of, reads_of, told_by}
use Rattle.store_calls.specs.Endings.{ended_with, with_cache}
use Rattle.store_calls.specs.declared.block_call.BlockCall.{BlockCall}
use Rattle.store_calls.specs.declared.block_call.BlockOutcome.{BlockOutcome}
use Rattle.store_calls.specs.declared.block_call.BlockOutcome.TheVariants as outcome
use Rattle.store_calls.specs.declared.series_call.SeriesCall.{SeriesCall}
use Rattle.store_calls.specs.declared.series_call.SeriesEnd.{SeriesEnd}
use Rattle.store_calls.specs.declared.series_call.SeriesEnd.TheVariants as ended
use Rattle.store_calls.specs.declared.series_call.Stage.{Stage}
use Rattle.store_calls.specs.declared.series_call.Stage.TheVariants.{Fresh, Reading, Over}
use Rattle.world_core.proofs.PlanParts.{begun, followed}
use Rattle.store_calls.proofs.FirstReads.{reads_first}
use Rattle.store_calls.proofs.Meeting.{read_of, split_at_first}

-- ---- a block's reads begin

-- the end that the code gives tells what the reads came to
told_is : (told : BlockEnd) (came : BlockOutcome) (left : Cache) → IsEnd left told came → told_by came left ≡ told
told_is (gives triples cache) came left ((series, is, of), same) = ap (λ o. told_by o left) is ∙ ap₂ gives of same
told_is (broken (missing number) cache) came left (is, same) = ap (λ o. told_by o left) is ∙ ap (broken (missing number)) same
told_is (broken (damaged number) cache) came left (is, same) = ap (λ o. told_by o left) is ∙ ap (broken (damaged number)) same
told_is (broken (fault number) cache) came left (is, same) = ap (λ o. told_by o left) is ∙ ap (broken (fault number)) same

-- what a machine may do is the reads of this block
abbrev pub AreOf : BlockCall → Query → Block → Cache → Type 0
AreOf part query block cache =
    (entries : List Entry) (end : Option BlockOutcome) (last : BlockCall) → reads.may part entries end last → BlockRun query block cache entries end (cache_of last)

-- the reads of the first block and what follows them are the reads of all
block_first : (call : SeriesCall) (block : Block) (cache : Cache) (part : BlockCall) → AreOf part (query_of call.wanted) block cache
    → (entries : List Entry) (end : Option CallEnd) → beyond part (after_reads call) entries end → reads_of call (block ∷ left_of call) cache entries end
block_first call block cache part are entries end (inl (last, may, none)) =
    subst (reads_of call (block ∷ left_of call) cache entries) (sym none)
    (begun (block_call (query_of call.wanted) block cache) (after_block call.merger (reading (query_of call.wanted) (left_of call))) entries (are entries None last may))
block_first call block cache part are entries end (inr (own, others, came, last, is, may, next)) = by_told (are own (Some came) last may)
  where
    by_told : BlockRun (query_of call.wanted) block cache own (Some came) (cache_of last) → reads_of call (block ∷ left_of call) cache entries end
    by_told (told, run, tells) =
        subst (λ es. reads_of call (block ∷ left_of call) cache es end) (sym is)
        (followed (block_call (query_of call.wanted) block cache) (after_block call.merger (reading (query_of call.wanted) (left_of call))) (Gives (sources_of call.kept.now)) own others told end run
        (subst (λ t. ComesTo (after_block call.merger (reading (query_of call.wanted) (left_of call)) t) (Gives (sources_of call.kept.now)) others end) (told_is told came (cache_of last) tells) next))

-- these are the reads that the contract tells, whose times are as they were passed on
pub are_of : (part : BlockCall) (selector : List Matcher) (replicas : List (List ℕ)) (low high first last : ℤ) (block : Block) (cache : Cache) → first ≡ low → last ≡ high
    → ((entries : List Entry) (end : Option BlockOutcome) (left : BlockCall) → reads.may part entries end left ↔ BlockRun (asking selector replicas first last) block cache entries end (cache_of left))
    → AreOf part (asking selector replicas low high) block cache
are_of part selector replicas low high first last block cache from to run entries end left may =
    subst (λ (z : ℤ). BlockRun (asking selector replicas z high) block cache entries end (cache_of left)) from
    (subst (λ (z : ℤ). BlockRun (asking selector replicas first z) block cache entries end (cache_of left)) to ((run entries end left).0 may))

-- a machine that begins the reads of a block asks for an operation
pub asks_first : (part last : BlockCall) (query : Query) (block : Block) (cache : Cache) (came : BlockOutcome) → AreOf part query block cache → reads.may part [] (Some came) last → ⊥
asks_first part last query block cache came are may = by_told (are [] (Some came) last may)
  where
    by_told : BlockRun query block cache [] (Some came) (cache_of last) → ⊥
    by_told (told, run, tells) = reads_first query block cache told run

-- ---- they go on

-- the part asks for an operation, after these entries
part_asks : (call : SeriesCall) (part next : BlockCall) (made : List Entry) (op : Op) → Asks reads.may reads.asked part made op next
    → Waits (λ entries end. beyond part (after_reads call) (made ++ entries) end) op (record call { stage = Reading next })
part_asks call part next made op asks = record {
  lawful = asks.lawful;
  asks = asks.waits;
  onward = on;
  stopped = inl (next, asks.stopped, refl);
  answered = λ seat seen answer. inl (next, asks.answered seat seen answer, refl);
}
  where
    on : (entries : List Entry) (end : Option CallEnd) → beyond next (after_reads call) entries end → beyond part (after_reads call) (made ++ entries) end
    on entries end (inl (last, may, none)) = inl (last, asks.onward entries None last may, none)
    on entries end (inr (own, others, came, last, is, may, rest)) =
        inr (made ++ own, others, came, last, ap (λ es. made ++ es) is ∙ sym (append_assoc made own others), asks.onward own (Some came) last may, rest)

-- the reads of a block are begun
pub begins : (call : SeriesCall) (block : Block) (cache : Cache) (part next : BlockCall) (op : Op) → AreOf part (query_of call.wanted) block cache
    → Asks reads.may reads.asked part [] op next → Waits (reads_of call (block ∷ left_of call) cache) op (record call { stage = Reading next })
begins call block cache part next op are asks =
    let waits = part_asks call part next [] op asks in
    record {
      lawful = waits.lawful;
      asks = waits.asks;
      onward = λ entries end may. block_first call block cache part are entries end (waits.onward entries end may);
      stopped = waits.stopped;
      answered = waits.answered;
    }

-- ---- a call as a machine

-- a call that goes on as may follow goes on as more may follow
leads_more : (from to : Onward) (r : Result (Act SeriesEnd) NoMemory) (new : SeriesCall) → ((entries : List Entry) (end : Option CallEnd) → from entries end → to entries end)
    → Leads from r new → Leads to r new
leads_more from to (Ok (Do op)) new more leads = record {
  lawful = leads.lawful;
  asks = leads.asks;
  onward = λ entries end may. more entries end (leads.onward entries end may);
  stopped = leads.stopped;
  answered = leads.answered;
}
leads_more from to (Ok (Done end)) new more leads = record { over = leads.over; follows_so = more [] (with_cache end new.stage) leads.follows_so }
leads_more from to (Err none) new more leads = tt

-- what a call leads to after entries, as a machine
goes_as : (call new : SeriesCall) (made : List Entry) (r : Result (Act SeriesEnd) NoMemory) → left_at call.stage call made None
    → Leads (λ entries end. left_at call.stage call (made ++ entries) end) r new → GoesOn may_call asked_call call made r new
goes_as call new made (Ok (Do op)) stops leads = record {
  lawful = leads.lawful;
  waits = leads.asks;
  onward = λ entries end last may. record { left = leads.onward entries (ended_with end last) may.left; over = may.over };
  stopped = record { left = leads.stopped; over = λ one none. absurd (cc (none)) };
  answered = λ seat seen answer. record { left = leads.answered seat seen answer; over = λ one none. absurd (cc (none)) };
}
goes_as call new made (Ok (Done end)) stops leads =
    record { left = subst (λ es. left_at call.stage call es (ended_with (Some end) new)) (append-nil made) leads.follows_so; over = λ one is. leads.over }
goes_as call new made (Err e) stops leads = record { left = stops; over = λ one none. absurd (cc (none)) }

-- a call is begun
pub call_begins : (call new : SeriesCall) (cache : IndexCache) (r : Result (Act SeriesEnd) NoMemory) → call.stage ≡ Fresh cache
    → Leads (reads_of call (left_of call) (held cache)) r new → GoesOn may_call asked_call call [] r new
call_begins call new cache r fresh leads =
    goes_as call new [] r (subst (λ s. left_at s call [] None) (sym fresh) (breaks_off (reading (query_of call.wanted) (left_of call) call.merger (held cache))))
    (subst (λ s. Leads (λ entries end. left_at s call entries end) r new) (sym fresh) leads)

-- ---- a call that reads

abbrev pub at_reading : SeriesCall → BlockCall → SeriesCall
at_reading call part = record call { stage = Reading part }

-- what the part did, by what its call answered
pub does : (part next : BlockCall) (made : List Entry) (act : Act BlockOutcome) (op : Op) → act ≡ Do op → GoesOn reads.may reads.asked part made (Ok act) next → Asks reads.may reads.asked part made op next
does part next made act op is goes = subst (λ (a : Act BlockOutcome). GoesOn reads.may reads.asked part made (Ok a) next) is goes

pub came_to : (part next : BlockCall) (made : List Entry) (act : Act BlockOutcome) (came : BlockOutcome) → act ≡ Done came → GoesOn reads.may reads.asked part made (Ok act) next
    → reads.may part made (Some came) next
came_to part next made act came is goes = subst (λ (a : Act BlockOutcome). GoesOn reads.may reads.asked part made (Ok a) next) is goes

-- the block's reads go on
pub reads_on : (call : SeriesCall) (part next : BlockCall) (made : List Entry) (op : Op) → Asks reads.may reads.asked part made op next
    → GoesOn may_call asked_call (at_reading call part) made (Ok (Do op)) (at_reading call next)
reads_on call part next made op asks =
    goes_as (at_reading call part) (at_reading call next) made (Ok (Do op))
    (inl (next, subst (λ es. reads.may part es None next) (append-nil made) (asks.onward [] None next asks.stopped), refl)) (part_asks call part next made op asks)

-- they want memory
pub reads_stop : (call new : SeriesCall) (part last : BlockCall) (made : List Entry) (r : Result (Act SeriesEnd) NoMemory) (none : NoMemory) → r ≡ Err none → reads.may part made None last
    → GoesOn may_call asked_call (at_reading call part) made r new
reads_stop call new part last made r none is may =
    subst (λ (q : Result (Act SeriesEnd) NoMemory). GoesOn may_call asked_call (at_reading call part) made q new) (sym is)
    (goes_as (at_reading call part) new made (Err none) (inl (last, may, refl)) tt)

-- they come to their end, and the call goes on
pub reads_end : (call new : SeriesCall) (part last : BlockCall) (made : List Entry) (came : BlockOutcome) (cache : Cache) (r : Result (Act SeriesEnd) NoMemory)
    → reads.may part made (Some came) last → cache ≡ cache_of last → Leads (after_reads call came cache) r new → GoesOn may_call asked_call (at_reading call part) made r new
reads_end call new part last made came cache r may left leads =
    goes_as (at_reading call part) new made r
    (inr (made, [], came, last, sym (append-nil made), may, breaks_off (after_block call.merger (reading (query_of call.wanted) (left_of call)) (told_by came (cache_of last)))))
    (leads_more (after_reads call came (cache_of last)) (λ entries end. beyond part (after_reads call) (made ++ entries) end) r new
    (λ entries end rest. inr (made, entries, came, last, refl, may, rest)) (subst (λ c. Leads (after_reads call came c) r new) left leads))

-- a call that is in this state goes on so
pub in_reading : (call new : SeriesCall) (part : BlockCall) (made : List Entry) (r : Result (Act SeriesEnd) NoMemory) → call.stage ≡ Reading part
    → GoesOn may_call asked_call (at_reading call part) made r new → GoesOn may_call asked_call call made r new
in_reading call new part made r is goes = subst (λ (s : Stage). GoesOn may_call asked_call (record call { stage = s }) made r new) (sym is) goes

-- what such a call waits for, its block's reads wait for
pub asks_part : (call : SeriesCall) (part : BlockCall) (op : Op) → call.stage ≡ Reading part → asked_call call ≡ Some op → reads.asked part ≡ Some op
asks_part call part op is asks = subst (λ (s : Stage). asked_at s ≡ Some op) is asks

-- ---- ends

-- a call that has come to its end has its cache
ends_so : (follows : Onward) (end : SeriesEnd) (done : Act SeriesEnd) (new : SeriesCall) (cache : IndexCache) → done ≡ Done end → new.stage ≡ Over cache
    → follows [] (Some (record { end = end; cache = held cache })) → Leads follows (Ok done) new
ends_so follows end done new cache is over so =
    subst (λ (d : Act SeriesEnd). Leads follows (Ok d) new) (sym is)
    (record { over = (cache, over); follows_so = subst (λ (s : Stage). follows [] (with_cache end s)) (sym over) so })

pub ends_missing : (call new : SeriesCall) (came : BlockOutcome) (number : ℕ) (cache : IndexCache) (done : Act SeriesEnd) → came ≡ outcome.Missing number → done ≡ Done (ended.Missing number)
    → new.stage ≡ Over cache → Leads (after_reads call came (held cache)) (Ok done) new
ends_missing call new came number cache done is told over =
    subst (λ (o : BlockOutcome). Leads (after_reads call o (held cache)) (Ok done) new) (sym is)
    (ends_so (after_reads call (outcome.Missing number) (held cache)) (ended.Missing number) done new cache told over (broke (missing number) (held cache), (refl, inr refl), (refl, refl)))

pub ends_damaged : (call new : SeriesCall) (came : BlockOutcome) (number : ℕ) (cache : IndexCache) (done : Act SeriesEnd) → came ≡ outcome.Damaged number → done ≡ Done (ended.Damaged number)
    → new.stage ≡ Over cache → Leads (after_reads call came (held cache)) (Ok done) new
ends_damaged call new came number cache done is told over =
    subst (λ (o : BlockOutcome). Leads (after_reads call o (held cache)) (Ok done) new) (sym is)
    (ends_so (after_reads call (outcome.Damaged number) (held cache)) (ended.Damaged number) done new cache told over (broke (damaged number) (held cache), (refl, inr refl), (refl, refl)))

pub ends_fault : (call new : SeriesCall) (came : BlockOutcome) (number : ℕ) (cache : IndexCache) (done : Act SeriesEnd) → came ≡ outcome.Fault number → done ≡ Done (ended.Fault number)
    → new.stage ≡ Over cache → Leads (after_reads call came (held cache)) (Ok done) new
ends_fault call new came number cache done is told over =
    subst (λ (o : BlockOutcome). Leads (after_reads call o (held cache)) (Ok done) new) (sym is)
    (ends_so (after_reads call (outcome.Fault number) (held cache)) (ended.Fault number) done new cache told over (broke (fault number) (held cache), (refl, inr refl), (refl, refl)))

-- no block is left
pub answers : (call new : SeriesCall) (merger : List Triple) (series : List Series) (set : List ℕ) (cache : IndexCache) (done : Act SeriesEnd) → merger ≡ call.merger → IsMerge merger series
    → IsSetOf (sources_of call.kept.now) set → done ≡ Done (ended.Answer series set) → new.stage ≡ Over cache → Leads (reads_of call [] (held cache)) (Ok done) new
answers call new merger series set cache done same merge of told over =
    ends_so (reads_of call [] (held cache)) (ended.Answer series set) done new cache told over
    (took call.merger (held cache), (refl, inr refl), ((series, set, refl, subst (λ (m : List Triple). IsMerge m series) same merge, of), refl))

-- ---- the next block

-- the reads of the first block that meets the range are begun
pub next_leads : (call : SeriesCall) (blocks others : List Found) (block : Found) (cache : Cache) (r : Result (Act SeriesEnd) NoMemory) (new : SeriesCall)
    → to_read (query_of call.wanted) blocks ≡ left_of call → StartsMeeting (query_of call.wanted) blocks → 1 ≤ length blocks → block ≡ get_or blocks 0 block
    → Leads (reads_of call (read_of block ∷ to_read (query_of call.wanted) others) cache) r new → others ≡ drop 1 blocks → Leads (reads_of call (left_of call) cache) r new
next_leads call blocks others block cache r new same met some head leads behind =
    subst (λ (l : List Block). Leads (reads_of call l cache) r new) (sym (split_at_first (query_of call.wanted) blocks call.left.now others block same met some head behind)) leads
