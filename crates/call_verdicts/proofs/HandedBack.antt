-- What a world tells of the journal and the bucket that are handed back.
use Rattle.std.proofs.Common.{◌≡◌, ◌+◌, ◌<◌, ◌^◌, List, [], length, refl, sym, ◌∙◌, ap, subst, arith}
use Rattle.std.specs.Prelude.{Option, Some, None, IfSome}
use Rattle.bucket_core.specs.Contents.{nothing}
use Rattle.bucket_core.specs.Told.{BucketTold}
use Rattle.world_core.specs.declared.entry.Entry.{Entry}
use Rattle.world_core.specs.Operations.{IsLawful, IsReplyTo, PutsBytes, ShowsBytes}
use Rattle.world_core.specs.Moments.{moment_after, last_moment}
use Rattle.world_core.specs.Standing.{stands, Tells, IsHonest}
use Rattle.world_core.specs.Worlds.{WorldView, IsWorld, IsJournal, IsTrueOf}
use Rattle.world_core.proofs.Growing.{Each-none}
use Rattle.call_verdicts.specs.Kept.{IsTrueOfStore, IsHandedBack, IsUntouched}

pub if_map : {X : Type 0} (o : Option X) (P Q : X → Type 0) → ((x : X) → P x → Q x) → IfSome o P → IfSome o Q
if_map None P Q f holds = tt
if_map (Some x) P Q f holds = f x holds

pub true_of : {B : Type 0} (tells : B → BucketTold) (world : WorldView B) → IsWorld tells world → IsTrueOfStore tells world.journal world.bucket
true_of tells world is = record {
  journal = (world.tick, is.journal);
  bytes = is.bytes;
  failures = is.failures;
  honest = if_map (tells world.bucket).contents (λ c. IsTrueOf c world.journal) (λ c. IsHonest world.journal) (λ c t. t.honest) is.honest;
  held = λ some. if_map (tells world.bucket).contents (λ c. IsTrueOf c world.journal) (λ c. c ≡ stands world.journal) (λ c t. t.held) is.honest;
}

pub back_of : {B : Type 0} (tells : B → BucketTold) (world : WorldView B) (a : List Entry) (b : B) (j : Option (List Entry)) (s : Option B)
    → a ≡ world.journal → b ≡ world.bucket → j ≡ Some a → s ≡ Some b → IsWorld tells world → IsHandedBack tells j s
back_of {B} tells world a b j s journal bucket kept store is =
    subst (λ (x : Option (List Entry)). IsHandedBack tells x s) (sym (kept ∙ ap (λ (l : List Entry). Some l) journal))
    (subst (λ (y : Option B). IsHandedBack tells (Some world.journal) y) (sym (store ∙ ap (λ (x : B). Some x) bucket)) (true_of tells world is))

untouched_world : {B : Type 0} (tells : B → BucketTold) (world : WorldView B) → IsWorld tells world → IsUntouched tells nothing (Some world.journal) (Some world.bucket)
untouched_world tells world is none =
    if_map (tells world.bucket).contents (λ c. IsTrueOf c world.journal) (λ c. c ≡ nothing) (λ c t. t.held ∙ ap stands none) is.honest

pub untouched_of : {B : Type 0} (tells : B → BucketTold) (world : WorldView B) (a : List Entry) (b : B) (j : Option (List Entry)) (s : Option B)
    → a ≡ world.journal → b ≡ world.bucket → j ≡ Some a → s ≡ Some b → IsWorld tells world → IsUntouched tells nothing j s
untouched_of {B} tells world a b j s journal bucket kept store is =
    subst (λ (x : Option (List Entry)). IsUntouched tells nothing x s) (sym (kept ∙ ap (λ (l : List Entry). Some l) journal))
    (subst (λ (y : Option B). IsUntouched tells nothing (Some world.journal) y) (sym (store ∙ ap (λ (x : B). Some x) bucket)) (untouched_world tells world is))

no_journal : IsJournal 0 []
no_journal = record {
  few = omega arith;
  numbered = Each-none (λ before e. e.seq ≡ length before + 1);
  lawful = Each-none (λ before e. IsLawful e.op);
  kinds = Each-none (λ before e. IsReplyTo e.op e.reply);
  moments = Each-none (λ before e. e.moment.ms ≡ moment_after 0 (last_moment before) e.op);
  small = Each-none (λ before e. e.moment.ms < 2 ^ 48);
}

always : {X : Type 0} (o : Option X) (P : Type 0) → P → IfSome o (λ x. P)
always None P holds = tt
always (Some x) P holds = holds

-- a bucket that was not worked on
pub back_of_none : {B : Type 0} (tells : B → BucketTold) (store : B) (a : List Entry) (j : Option (List Entry)) (s : Option B)
    → a ≡ [] → j ≡ Some a → s ≡ Some store → IsHandedBack tells j s
back_of_none {B} tells store a j s none kept same =
    subst (λ (x : Option (List Entry)). IsHandedBack tells x s) (sym (kept ∙ ap (λ (l : List Entry). Some l) none))
    (subst (λ (y : Option B). IsHandedBack tells (Some []) y) (sym same) (record {
      journal = (0, no_journal);
      bytes = Each-none (λ before e. PutsBytes e.op × ShowsBytes e.reply);
      failures = omega arith;
      honest = always (tells store).contents (IsHonest []) (Each-none (λ before e. Tells (stands before) e.op e.reply));
      held = λ some. absurd (some refl);
    }))
