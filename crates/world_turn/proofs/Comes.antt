-- Worlds that come from one that was opened.
use Rattle.std.proofs.Common.{◌≡◌, ℕ, ◌≤◌, ◌++◌, false, List, [], ◌∷◌, Option, Some, sym, ap, ◌∙◌, arith}
use Rattle.bucket_core.specs.Asking.{Call}
use Rattle.bucket_core.specs.Told.{BucketTold}
use Rattle.world_core.specs.Asking.{IsAllAsked, calls_of, opening}
use Rattle.world_core.specs.declared.entry.Entry.{Entry}
use Rattle.world_core.specs.Machines.{IfDone, gained, is_failed}
use Rattle.world_core.specs.Operations.{has_failed}
use Rattle.world_core.specs.Worlds.{WorldGoesOn, WorldView, failed_count}
use Rattle.world_core.specs.declared.act.Acted.{Acted}
use Rattle.world_core.specs.declared.op.Op.{Op}
use Rattle.world_core.proofs.GoingOn.{acted_goes_on}
use Rattle.world_turn.specs.Opening.{AsksFrom, ComesFrom, opening_of}
use Rattle.world_turn.specs.Rule.{Opened}

pub from_opening : {B : Type 0} (tells : B → BucketTold) (opened world : WorldView B) → opened ≡ world → ComesFrom tells (opening_of tells opened) world
from_opening tells opened world is = record { tick = sym (ap (λ w. w.tick) is); unfailed = λ none. sym (ap (λ w. (tells w.bucket).faults) is) }

-- a world that goes on comes from where it came from
goes_from : {B : Type 0} (tells : B → BucketTold) (opened : Opened) (old new : WorldView B) → WorldGoesOn tells old new → ComesFrom tells opened old → ComesFrom tells opened new
goes_from tells opened old new on comes = record {
  tick = on.tick ∙ comes.tick;
  unfailed = λ none.
      let before : failed_count old.journal ≡ 0 = omega (arith, on.more, none) in
      on.only (none ∙ sym before) ∙ comes.unfailed before;
}

-- so it does after an operation
pub still_from : {B : Type 0} (tells : B → BucketTold) (opened : Opened) (old new : WorldView B) (seat : ℕ) (op : Op) (acted : Acted) → new.journal ≡ old.journal ++ gained seat op acted → new.tick ≡ old.tick
    → (tells old.bucket).faults ≤ (tells new.bucket).faults → (is_failed acted ≡ false → (tells new.bucket).faults ≡ (tells old.bucket).faults) → ((tells old.bucket).quiet → (tells new.bucket).quiet × IfDone acted (λ seen. has_failed seen.reply ≡ false))
    → ComesFrom tells opened old → ComesFrom tells opened new
still_from tells opened old new seat op acted added tick later only calm comes = goes_from tells opened old new (acted_goes_on tells old new seat op acted added tick later only calm) comes

-- what the bucket of a world was asked that was opened with no entry
pub asked_opening : {B : Type 0} (tells : B → BucketTold) (opened world : WorldView B) → opened ≡ world → world.journal ≡ [] → AsksFrom tells (opening_of tells opened) world
asked_opening {B} tells opened world is none before all =
    ap (λ (w : WorldView B). (tells w.bucket).asked) (sym is) ∙ (all ∙ ap (λ (j : List Entry). Some (before ++ opening ∷ calls_of j)) (sym none))

-- all was journaled as the world was opened, and so it is now
pub asked_since : {B : Type 0} (tells : B → BucketTold) (opened world : WorldView B) → opened.journal ≡ [] → AsksFrom tells (opening_of tells opened) world → (before : List Call) → IsAllAsked tells before opened → IsAllAsked tells before world
asked_since tells opened world none since before all =
    since before (all ∙ ap (λ (j : List Entry). Some (before ++ opening ∷ calls_of j)) none)
