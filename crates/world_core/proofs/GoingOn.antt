-- A world after one operation goes on as it did.
use Rattle.std.proofs.Common.{◌≡◌, ℕ, ◌+◌, ◌≤◌, Bool, true, false, cond, List, ◌++◌, refl, ◌∙◌, ap, arith, append-nil}
use Rattle.world_core.specs.Machines.{gained, is_failed, IfDone}
use Rattle.world_core.specs.Operations.{entry_of, has_failed}
use Rattle.world_core.specs.Worlds.{WorldGoesOn, WorldView, failed_count}
use Rattle.world_core.specs.declared.act.Acted.{Acted}
use Rattle.world_core.specs.declared.act.Acted.TheVariants.{Done, Full, NoMemory}
use Rattle.world_core.specs.declared.entry.Entry.{Entry}
use Rattle.world_core.specs.declared.op.Op.{Op}
use Rattle.world_core.proofs.Growing.{failed_more}
use Rattle.bucket_core.specs.Told.{BucketTold}

failed_by : (journal : List Entry) (seat : ℕ) (op : Op) (acted : Acted) → failed_count (journal ++ gained seat op acted) ≡ failed_count journal + cond (is_failed acted) 1 0
failed_by journal seat op (Done seen) = failed_more journal (entry_of seat op seen)
failed_by journal seat op Full = omega (arith, ap failed_count (append-nil journal))
failed_by journal seat op NoMemory = omega (arith, ap failed_count (append-nil journal))

uncounted : (failed : Bool) (before after : ℕ) → after ≡ before + cond failed 1 0 → after ≡ before → failed ≡ false
uncounted true before after counted same = absurd (omega (arith, counted, same))
uncounted false before after counted same = refl

unfailed : (acted : Acted) → IfDone acted (λ seen. has_failed seen.reply ≡ false) → is_failed acted ≡ false
unfailed (Done seen) done = done
unfailed Full done = refl
unfailed NoMemory done = refl

not_counted : (failed : Bool) (before after : ℕ) → after ≡ before + cond failed 1 0 → failed ≡ false → after ≡ before
not_counted true before after counted none = absurd (cc none)
not_counted false before after counted none = omega (arith, counted)

more_failed : (failed : Bool) (before after : ℕ) → after ≡ before + cond failed 1 0 → before ≤ after
more_failed true before after counted = omega (arith, counted)
more_failed false before after counted = omega (arith, counted)

pub acted_goes_on : {B : Type 0} (tells : B → BucketTold) (old new : WorldView B) (seat : ℕ) (op : Op) (acted : Acted) → new.journal ≡ old.journal ++ gained seat op acted → new.tick ≡ old.tick
    → (tells old.bucket).faults ≤ (tells new.bucket).faults → (is_failed acted ≡ false → (tells new.bucket).faults ≡ (tells old.bucket).faults) → ((tells old.bucket).quiet → (tells new.bucket).quiet × IfDone acted (λ seen. has_failed seen.reply ≡ false)) → WorldGoesOn tells old new
acted_goes_on tells old new seat op acted added tick later only calm =
    let counted : failed_count new.journal ≡ failed_count old.journal + cond (is_failed acted) 1 0 = ap failed_count added ∙ failed_by old.journal seat op acted in
    record {
      tick = tick;
      later = later;
      more = more_failed (is_failed acted) (failed_count old.journal) (failed_count new.journal) counted;
      only = λ same. only (uncounted (is_failed acted) (failed_count old.journal) (failed_count new.journal) counted same);
      calm = λ q. let c = calm q in (c.0, not_counted (is_failed acted) (failed_count old.journal) (failed_count new.journal) counted (unfailed acted c.1));
    }
