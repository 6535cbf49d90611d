-- The run of the script of one block keeps the rules of time, and its query leaves no block out.
use Rattle.std.proofs.Common.{◌≡◌, ◌+◌, ◌*◌, ◌≤◌, ◌==◌, ℕ, All, Bool, true, false, cond, [], ◌∷◌, Some, None, is_some, refl, ap, subst, arith, lit<, lit≤}
use Rattle.std.proofs.lemmas.Bool.Decides.{nat_tests}
use Rattle.std.proofs.lemmas.List.Elements.{All-cons, All-contains, All-from_recursion, All-nil}
use Rattle.ulid_core.specs.Times.{time_of}
use Rattle.world_core.specs.declared.entry.Entry.{Entry}
use Rattle.lifecycle_core.specs.Guarantees.{LeavesNoneOut, NamesAll}
use Rattle.lifecycle_core.specs.SyncsAndCalls.{IsViewOf}
use Rattle.lifecycle_core.specs.Tasks.{sync_rules}
use Rattle.tests_worked.specs.SmallRuns as runs
use Rattle.tests_worked.proofs.small.SmallTasks.{sync_run}
use Rattle.tests_worked.proofs.one.OneAnswer.{one_named}
use Rattle.lifecycle_core.specs.TimeRules.{IsMarkedInTime, IsReadInTime, IsSyncedInTime, IsUploadedInTime, PutsMark, PutsObject}
use Rattle.tests_worked.specs.SmallBlock as small
use Rattle.tests_worked.specs.Entries.{listed}
use Rattle.tests_worked.specs.OneBlock as one

-- ---- uploads

abbrev pub InTime : ℕ → Entry → Type 0
InTime ulid e = PutsObject ulid e → (time_of ulid ≤ e.moment.ms) × (e.moment.ms ≤ time_of ulid + 1_800_000)

pub in_time : (ulid moment : ℕ) → moment ≤ 1_800_000 → small.a ≡ ulid → (time_of ulid ≤ moment) × (moment ≤ time_of ulid + 1_800_000)
in_time ulid moment early same = subst (λ u. (time_of u ≤ moment) × (moment ≤ time_of u + 1_800_000)) same (omega arith, omega (arith, early))

pub uploaded_in_time : (ulid : ℕ) → IsUploadedInTime one.script.rules ulid one.journal
uploaded_in_time ulid = All-from_recursion (InTime ulid) one.journal (λ p. cc (p.2), (λ p. cc (p.2), (λ p. in_time ulid 2 (lit≤ tt) (cc (p.2, p.3)), (λ p. in_time ulid 3 (lit≤ tt) (cc (p.2, p.3)), (λ p. in_time ulid 4 (lit≤ tt) (cc (p.2, p.3)), (λ p. cc (p.2), (λ p. cc (p.2), (λ p. cc (p.2), (λ p. cc (p.2), (λ p. cc (p.2), (λ p. cc (p.2), (λ p. cc (p.2), (λ p. cc (p.2), (λ p. cc (p.2), (λ p. cc (p.2), tt)))))))))))))))

-- ---- the sync

pub sync_is : IsViewOf (sync_rules one.setting 0) one.journal one.used one.sync
sync_is = record {
  seat = 2;
  sync = record { before = []; after = one.query; parts = refl; run = sync_run 7 2 1_800_001 (Some (runs.seen 1_800_001)) refl; whole = λ none. absurd (cc (none)) };
  last = refl;
}

pub synced_in_time : IsSyncedInTime one.script.rules one.sync
synced_in_time first last others is among =
    let begins : listed 7 2 1_800_001 (small.a_text ∷ []) ≡ first = cc (is) in
    let from : 1_800_001 ≡ first.moment.ms = ap (λ (e : Entry). e.moment.ms) begins in
    let until : last.moment.ms ≤ 1_800_003 = All-contains (λ (e : Entry). e.moment.ms ≤ 1_800_003) one.sync last (All-from_recursion (λ (e : Entry). e.moment.ms ≤ 1_800_003) one.sync (lit≤ tt, (lit≤ tt, (lit≤ tt, tt)))) among in
    omega (arith, from, until)

-- ---- marks and reads

pub marked_in_time : (ulid : ℕ) → IsMarkedInTime one.script.rules ulid one.journal
marked_in_time ulid = All-from_recursion (λ (e : Entry). (second : ℕ) → PutsMark ulid second e → e.moment.ms ≤ 1000 * second + 86_400_000) one.journal (λ second p. cc (p.2), (λ second p. cc (p.2), (λ second p. cc (p.2), (λ second p. cc (p.2), (λ second p. cc (p.2), (λ second p. cc (p.2), (λ second p. cc (p.2), (λ second p. cc (p.2), (λ second p. cc (p.2), (λ second p. cc (p.2), (λ second p. cc (p.2), (λ second p. cc (p.2), (λ second p. cc (p.2), (λ second p. cc (p.2), (λ second p. cc (p.2), tt)))))))))))))))

pub read_in_time : All (IsReadInTime one.script.rules one.used.view) one.query
read_in_time = All-from_recursion (IsReadInTime one.script.rules one.used.view) one.query (lit≤ tt, (lit≤ tt, (lit≤ tt, (lit≤ tt, (lit≤ tt, (lit≤ tt, tt))))))

-- ---- what has to be named

pub same_ulid : (ulid : ℕ) (b : Bool) → b ≡ (small.a == ulid) → is_some (cond b (Some small.block) None) ≡ true → small.a ≡ ulid
same_ulid ulid true is some = grind (arith, nat_tests)
same_ulid ulid false is some = absurd (cc)

pub leaves_none_out : LeavesNoneOut one.setting one.journal one.asked
leaves_none_out = All-cons (NamesAll one.setting one.journal) one_named []
    (λ ulid settled. let same = same_ulid ulid (small.a == ulid) refl settled.uploaded.is_declared in (0, lit< tt, same))
    (All-nil (NamesAll one.setting one.journal))
