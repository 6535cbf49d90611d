-- What operations keep of the hand of a run whose tasks are done one after another.
use Rattle.std.specs.Prelude.{◌≡◌, Bool, refl}
use Rattle.std.proofs.Common.{◌∙◌}
use Rattle.bucket_core.specs.Told.{BucketTold}
use Rattle.world_core.specs.Asking.{KeepsAsked, asked-more, asked-none}
use Rattle.world_core.specs.Worlds.{WorldGoesOn, WorldView, goes_on-more, goes_on-none}

-- The world of the hand goes on. Unless memory was wanted, all that its bucket was asked is journaled if it was before. The hand
-- is the one that was made over the same world.
pub record KeepsRun {B : Type 0} (tells : B → BucketTold) (opened : WorldView B) (wanted_before : Bool) (old still : WorldView B) (wanted_now : Bool) (new : WorldView B) : Type 0 where
  pub goes_on : WorldGoesOn tells old new
  pub asks : KeepsAsked tells wanted_before old wanted_now new
  pub same : still ≡ opened

pub keeps_run-none : {B : Type 0} (tells : B → BucketTold) (opened : WorldView B) (wanted : Bool) (world : WorldView B)
    → KeepsRun tells opened wanted world opened wanted world
keeps_run-none tells opened wanted world = record { goes_on = goes_on-none tells world; asks = asked-none tells wanted world; same = refl }

pub keeps_run-more : {B : Type 0} (tells : B → BucketTold) (opened still kept : WorldView B) (a b c : Bool) (first next last : WorldView B)
    → KeepsRun tells opened a first still b next → KeepsRun tells still b next kept c last → KeepsRun tells opened a first kept c last
keeps_run-more tells opened still kept a b c first next last one two = record {
  goes_on = goes_on-more tells first next last one.goes_on two.goes_on;
  asks = asked-more tells a b c first next last one.asks two.asks;
  same = two.same ∙ one.same;
}
