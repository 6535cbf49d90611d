-- How a call goes on where its plan is known to go on in some way.
use Rattle.std.proofs.Common.{◌≡◌, ℕ, ◌<◌, ◌≤◌, ◌==◌, Bool, true, false, List, [], length, refl, sym, subst, inr, Option, Some, None, Result, Ok, Err, arith}
use Rattle.std.specs.Prelude.{IsErr}
use Rattle.std.proofs.lemmas.Bool.Decides.{Decides-eqb}
use Rattle.std.specs.Map.{lookup}
use Rattle.base.specs.declared.memory.NoMemory.{NoMemory}
use Rattle.block_keys.specs.declared.key.Key.TheVariants.{Index}
use Rattle.world_core.proofs.PlanLaws.{comes_kept}
use Rattle.world_core.specs.Plans.{Plan, Keeps, ends, choose, finds, IsAtMostOne}
use Rattle.world_core.specs.declared.op.Op.TheVariants.{GetRange}
use Rattle.world_core.specs.declared.entry.Entry.{Entry}
use Rattle.store_ranges.specs.Caches.{same_range}
use Rattle.store_ranges.specs.IndexRanges.{Piece}
use Rattle.store_ranges.specs.Reads.{Cache, Break, Reached, used, range_of, sized, by_cache, if_read}
use Rattle.store_ranges.specs.IndexReads.{reached, falls_back}
use Rattle.store_calls.specs.BlockReads.{BlockEnd, breaks_off}
use Rattle.store_ranges.specs.Asking.{query_asked, block_asked}
use Rattle.store_calls.specs.BlockRuns.{Onward, Leading, IsEnd, outcome_of}
use Rattle.store_calls.specs.WorkStates.{Where, Leads, may_at, asked_at, count_at, waits, after_index, range_left, sized_left, whole_left}
use Rattle.store_ranges.specs.declared.asked.Asked.{Asked}
use Rattle.store_calls.specs.declared.block_call.BlockOutcome.{BlockOutcome}
use Rattle.store_calls.specs.declared.work.Work.{Work}
use Rattle.store_calls.specs.declared.work.Step.{Step}
use Rattle.store_calls.specs.declared.work.Step.TheVariants.{Wait, Done}

pub leads_as : (asked : Asked) (cache : Cache) (less more : ℕ) (from to : Onward) (r : Result Step NoMemory) → less ≤ more
    → ((entries : List Entry) (end : Option BlockOutcome) (left : Cache) → from entries end left → to entries end left)
    → Leads asked cache less from r → Leads asked cache more to r
leads_as asked cache less more from to (Ok (Wait op work)) le on leads = record {
  lawful = leads.lawful;
  asks = leads.asks;
  falls = omega (arith, leads.falls);
  onward = λ entries end left run. on entries end left (leads.onward entries end left run);
}
leads_as asked cache less more from to (Ok (Done end)) le on leads = on [] (Some end) cache leads
leads_as asked cache less more from to (Err e) le on leads = tt

-- what the one plan leads to, the other does that keeps all its runs
pub leads_kept : (asked : Asked) (cache : Cache) (less more : ℕ) (one other : Plan BlockEnd) (r : Result Step NoMemory) → less ≤ more → Keeps one other
    → Leads asked cache less (Leading one) r → Leads asked cache more (Leading other) r
leads_kept asked cache less more one other r le keeps leads =
    leads_as asked cache less more (Leading one) (Leading other) r le (λ entries end left run. comes_kept one other (IsEnd left) keeps entries end run) leads

-- the same, where something holds
pub leads_where : (asked : Asked) (cache : Cache) (less more : ℕ) (Is So : Type 0) (one other : Plan BlockEnd) (r : Result Step NoMemory) → less ≤ more → (So → Is) → (So → Keeps one other)
    → Leads asked cache less (Where Is (Leading one)) r → Leads asked cache more (Where So (Leading other)) r
leads_where asked cache less more Is So one other r le is keeps leads =
    leads_as asked cache less more (Where Is (Leading one)) (Where So (Leading other)) r le
    (λ entries end left run so. comes_kept one other (IsEnd left) (keeps so) entries end (run (is so))) leads

pub leads_free : (asked : Asked) (cache : Cache) (less more : ℕ) (So : Type 0) (one other : Plan BlockEnd) (r : Result Step NoMemory) → less ≤ more → (So → Keeps one other)
    → Leads asked cache less (Leading one) r → Leads asked cache more (Where So (Leading other)) r
leads_free asked cache less more So one other r le keeps leads =
    leads_as asked cache less more (Leading one) (Where So (Leading other)) r le
    (λ entries end left run so. comes_kept one other (IsEnd left) (keeps so) entries end run) leads

pub leads_held : (asked : Asked) (cache : Cache) (less more : ℕ) (Is : Type 0) (one other : Plan BlockEnd) (r : Result Step NoMemory) → less ≤ more → Is → Keeps one other
    → Leads asked cache less (Where Is (Leading one)) r → Leads asked cache more (Leading other) r
leads_held asked cache less more Is one other r le is keeps leads =
    leads_as asked cache less more (Where Is (Leading one)) (Leading other) r le
    (λ entries end left run. comes_kept one other (IsEnd left) keeps entries end (run is)) leads

-- ---- plans that keep the runs of others

pub keeps_all : {E : Type 0} (plan : Plan E) → Keeps plan plan
keeps_all plan entries end run = run

pub keeps_on : {E : Type 0} (one other more : Plan E) → Keeps one other → Keeps other more → Keeps one more
keeps_on one other more first then entries end run = then entries end (first entries end run)

-- a test holds, or it does not
pub keeps_true : {E : Type 0} (test : Bool) (one other : Plan E) → test ≡ true → Keeps one (choose test one other)
keeps_true true one other is = keeps_all one
keeps_true false one other is = absurd (cc (is))

pub keeps_false : {E : Type 0} (test : Bool) (one other : Plan E) → test ≡ false → Keeps other (choose test one other)
keeps_false true one other is = absurd (cc (is))
keeps_false false one other is = keeps_all other

-- a value is read, or it is refused
pub keeps_read : {A R E : Type 0} (read : Result A R) (value : A) (next : A → Plan E) (refused : Plan E) → read ≡ Ok value → Keeps (next value) (if_read read next refused)
keeps_read read value next refused is = subst (λ x. Keeps (next value) (if_read x next refused)) (sym is) (keeps_all (next value))

pub keeps_refused : {A R E : Type 0} (read : Result A R) (next : A → Plan E) (refused : Plan E) → IsErr read → Keeps refused (if_read read next refused)
keeps_refused (Ok value) next refused is = absurd (cc (is))
keeps_refused (Err e) next refused is = keeps_all refused

-- the only one that is such was found
pub keeps_found : {A E : Type 0} (Is : A → Type 0) (one : IsAtMostOne Is) (next : A → Plan E) (found : A) → Is found → Keeps (next found) (finds Is one next)
keeps_found Is one next found is entries end run = inr (found, is, run)

-- the reads break off
pub breaks : (left : Cache) (break : Break) → Leading (ends (breaks_off break left)) [] (Some (outcome_of break)) left
breaks left break = (breaks_off break left, (refl, inr refl), (refl, refl))

-- ---- ranges

-- the bytes of a range are as many as were asked for, or they are not
pub keeps_sized : (asked : Asked) (piece : Piece) (at : Reached) (next : Reached → List ℕ → Plan BlockEnd) (bytes : List ℕ) → length bytes ≡ piece.len → Keeps (next at bytes) (sized_left asked piece at next bytes)
keeps_sized asked piece at next bytes is = keeps_true (length bytes == piece.len) (next at bytes) (whole_left asked at.cache) ((Decides-eqb (length bytes) piece.len).1 is)

pub keeps_unsized : (asked : Asked) (piece : Piece) (at : Reached) (next : Reached → List ℕ → Plan BlockEnd) (bytes : List ℕ) → (length bytes == piece.len) ≡ false → Keeps (whole_left asked at.cache) (sized_left asked piece at next bytes)
keeps_unsized asked piece at next bytes is = keeps_false (length bytes == piece.len) (next at bytes) (whole_left asked at.cache) is

-- the cache has the range
pub keeps_cached : (asked : Asked) (old new : Cache) (last : ℕ) (piece : Piece) (next : Reached → List ℕ → Plan BlockEnd) (bytes : List ℕ)
    → lookup (same_range (range_of (Index asked.ulid) piece)) old.entries ≡ Some bytes → new ≡ used (range_of (Index asked.ulid) piece) old
    → Keeps (sized_left asked piece (reached last new) next bytes) (range_left asked piece (reached last old) next)
keeps_cached asked old new last piece next bytes has same =
    subst (λ c. Keeps (sized_left asked piece (reached last c) next bytes) (range_left asked piece (reached last old) next)) (sym same)
    (subst (λ found. Keeps (sized_left asked piece (reached last (used (range_of (Index asked.ulid) piece) old)) next bytes) (by_cache breaks_off found (Index asked.ulid) piece (reached last old) (sized piece (falls_back breaks_off (query_asked asked) (block_asked asked) (after_index (query_asked asked) (block_asked asked))) next)))
    (sym has) (keeps_all (sized_left asked piece (reached last (used (range_of (Index asked.ulid) piece) old)) next bytes)))

-- it has not got it
pub keeps_waits : (asked : Asked) (old new : Cache) (last : ℕ) (piece : Piece) (next : Reached → List ℕ → Plan BlockEnd)
    → lookup (same_range (range_of (Index asked.ulid) piece)) old.entries ≡ None → new ≡ old
    → Keeps (waits asked piece new next) (range_left asked piece (reached last old) next)
keeps_waits asked old new last piece next none same =
    subst (λ c. Keeps (waits asked piece c next) (range_left asked piece (reached last old) next)) (sym same)
    (subst (λ found. Keeps (waits asked piece old next) (by_cache breaks_off found (Index asked.ulid) piece (reached last old) (sized piece (falls_back breaks_off (query_asked asked) (block_asked asked) (after_index (query_asked asked) (block_asked asked))) next)))
    (sym none) (keeps_all (waits asked piece old next)))

-- a call waits for a range
pub leads_wait : (asked : Asked) (cache : Cache) (limit : ℕ) (piece : Piece) (work : Work) (follows : Onward) (r : Step)
    → r ≡ Wait (GetRange (Index asked.ulid) piece.from piece.len) work
    → asked_at asked.ulid work ≡ Some (GetRange (Index asked.ulid) piece.from piece.len) → count_at work < limit
    → ((entries : List Entry) (end : Option BlockOutcome) (left : Cache) → may_at asked work cache entries end left → follows entries end left)
    → Leads asked cache limit follows (Ok r)
leads_wait asked cache limit piece work follows r is asks falls on = subst (λ x. Leads asked cache limit follows (Ok x)) (sym is) (record {
  lawful = tt;
  asks = asks;
  falls = falls;
  onward = on;
})
