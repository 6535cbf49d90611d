-- What is known of a world as it is opened.
use Rattle.std.specs.Prelude.{ℕ, List, Option}
use Rattle.bucket_core.specs.Asking.{Call}
use Rattle.bucket_core.specs.Told.{BucketTold}
use Rattle.world_core.specs.Worlds.{WorldView}
use Rattle.world_turn.specs.Rule.{IsAsked, IsFrom, Opened}

abbrev pub opening_of : {B : Type 0} → (B → BucketTold) → WorldView B → Opened
opening_of tells world = record { tick = world.tick; faults = (tells world.bucket).faults; asked = (tells world.bucket).asked }

-- The world comes from one that was opened so: its bucket has failed no more often since, unless its journal shows it.
abbrev pub ComesFrom : {B : Type 0} → (B → BucketTold) → Opened → WorldView B → Type 0
ComesFrom tells opened world = IsFrom (λ w. w.journal) (λ w. w.tick) (λ w. tells w.bucket) opened world

-- All that the bucket was asked is journaled, if it was so as the world was opened.
abbrev pub AsksFrom : {B : Type 0} → (B → BucketTold) → Opened → WorldView B → Type 0
AsksFrom tells opened world = IsAsked (λ w. w.journal) (λ w. tells w.bucket) opened world
