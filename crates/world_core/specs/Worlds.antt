-- What is seen of a world, and what holds of every one.
use Rattle.std.specs.Prelude.{◌≡◌, ℕ, ◌+◌, ◌-◌, ◌*◌, ◌^◌, ◌<◌, ◌≤◌, min, List, length, count_by, Option, IfSome, refl}
use Rattle.std.proofs.Common.{◌∙◌, arith}
use Rattle.ulid_core.specs.Limits.{ulid_time_limit}
use Rattle.bucket_core.specs.Contents.{Contents}
use Rattle.bucket_core.specs.Told.{BucketTold}
use Rattle.world_core.specs.Operations.{IsLawful, IsReplyTo, PutsBytes, ShowsBytes, has_failed}
use Rattle.world_core.specs.Journals.{Each, IsNumbered}
use Rattle.world_core.specs.Keeping.{kept_bytes}
use Rattle.moment_core.specs.Limits.{longest_tick, moment_limit}
use Rattle.world_core.specs.Limits.{most_entries}
use Rattle.world_core.specs.Moments.{HasMoments, last_moment}
use Rattle.world_core.specs.Standing.{stands, left_by, IsHonest}
use Rattle.world_core.specs.declared.op.Op.{Op}
use Rattle.world_core.specs.declared.entry.Entry.{Entry}
use Rattle.world_core.specs.declared.act.Acted.{Acted}
use Rattle.world_core.specs.declared.act.Acted.TheVariants.{Done, Full, NoMemory}

-- a world: its bucket, its journal, and how many milliseconds an operation takes
pub record WorldView (B : Type 0) : Type 0 where
  pub bucket : B
  pub journal : List Entry
  pub tick : ℕ

-- the entries of failed calls
abbrev pub failed_count : List Entry → ℕ
failed_count entries = count_by (λ e. has_failed e.reply) entries

-- what holds of a world's journal
pub record IsJournal (tick : ℕ) (journal : List Entry) : Type 0 where
  pub few : length journal ≤ most_entries
  pub numbered : IsNumbered journal
  pub lawful : Each (λ before e. IsLawful e.op) journal
  pub kinds : Each (λ before e. IsReplyTo e.op e.reply) journal
  pub moments : HasMoments tick journal
  pub small : Each (λ before e. e.moment.ms < ulid_time_limit) journal

-- all that the journal's entries put and show is bytes, and names in UTF-8
abbrev pub IsOfBytes : List Entry → Type 0
IsOfBytes journal = Each (λ before e. PutsBytes e.op × ShowsBytes e.reply) journal

-- the journal is honest, and what stands at its end is what the bucket holds
pub record IsTrueOf (contents : Contents) (journal : List Entry) : Type 0 where
  pub honest : IsHonest journal
  pub held : contents ≡ stands journal

-- what holds of every world
pub record IsWorld {B : Type 0} (tells : B → BucketTold) (world : WorldView B) : Type 0 where
  pub journal : IsJournal world.tick world.journal
  pub bytes : IsOfBytes world.journal
  -- the bucket has failed at least as often as the journal's entries
  pub failures : failed_count world.journal ≤ (tells world.bucket).faults
  -- where the bucket tells what it holds
  pub honest : IfSome (tells world.bucket).contents (λ c. IsTrueOf c world.journal)

-- what a world keeps beside: the moment of the last entry, and how many bytes the journal keeps
pub record IsCounted (tick : ℕ) (journal : List Entry) (last kept : ℕ) : Type 0 where
  pub short : tick ≤ longest_tick
  pub latest : last ≡ last_moment journal
  pub bound : last ≤ moment_limit + longest_tick * length journal
  pub size : kept ≡ min (kept_bytes journal) (2 ^ 64 - 1)

pub record IsCountedWorld {B : Type 0} (tells : B → BucketTold) (bucket : B) (journal : List Entry) (tick last kept : ℕ) : Type 0 where
  pub counted : IsCounted tick journal last kept
  pub world : IsWorld tells (record { bucket = bucket; journal = journal; tick = tick })

-- what stands in the bucket after an operation was asked for
abbrev pub left_by_act : Op → Acted → Contents → Contents
left_by_act op (Done seen) contents = left_by op seen.reply contents
left_by_act op Full contents = contents
left_by_act op NoMemory contents = contents

-- A world after operations: time goes on as it did; the bucket's faults never fall, and rise only where a failed entry was added;
-- and a bucket without faults stays so.
pub record WorldGoesOn {B : Type 0} (tells : B → BucketTold) (old new : WorldView B) : Type 0 where
  pub tick : new.tick ≡ old.tick
  pub later : (tells old.bucket).faults ≤ (tells new.bucket).faults
  pub more : failed_count old.journal ≤ failed_count new.journal
  pub only : failed_count new.journal ≡ failed_count old.journal → (tells new.bucket).faults ≡ (tells old.bucket).faults
  pub calm : (tells old.bucket).quiet → (tells new.bucket).quiet × (failed_count new.journal ≡ failed_count old.journal)

pub goes_on-none : {B : Type 0} (tells : B → BucketTold) (world : WorldView B) → WorldGoesOn tells world world
goes_on-none tells world = record { tick = refl; later = omega arith; more = omega arith; only = λ same. refl; calm = λ q. (q, refl) }

pub goes_on-more : {B : Type 0} (tells : B → BucketTold) (first next last : WorldView B) → WorldGoesOn tells first next → WorldGoesOn tells next last → WorldGoesOn tells first last
goes_on-more tells first next last one two = record {
  tick = two.tick ∙ one.tick;
  later = omega (arith, one.later, two.later);
  more = omega (arith, one.more, two.more);
  only = λ same. two.only (omega (arith, one.more, two.more, same)) ∙ one.only (omega (arith, one.more, two.more, same));
  calm = λ q. let a = one.calm q in let b = two.calm a.0 in (b.0, b.1 ∙ a.1);
}
