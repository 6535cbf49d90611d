-- What the hand of a run did, part after part, from one seat and from another.
use Rattle.std.proofs.Common.{◌≡◌, ◌⊎◌, inl, inr, ℕ, Bool, true, false, List, ◌++◌, IsTrue, length, take, drop, refl, sym, ◌∙◌, ap, subst, arith}
use Rattle.std.specs.Prelude.{IsErrAnd, Result, Ok, Err, Some}
use Rattle.std.proofs.lemmas.List.{append-nil, drop_all, take_all}
use Rattle.bucket_core.specs.Told.{BucketTold}
use Rattle.world_core.specs.Told.{HandTold}
use Rattle.world_core.specs.Turning.{Turned}
use Rattle.world_core.specs.Worlds.{WorldView}
use Rattle.world_core.proofs.Turning.{more_turned, none_turned}
use Rattle.report_lines.specs.script_running.specs.Tasks.{is_full_came, is_short_came}
use Rattle.report_lines.specs.script_running.specs.declared.came.Broken.{Broken}
use Rattle.report_lines.specs.script_running.specs.declared.came.Broken.TheVariants as broken
use Rattle.report_lines.specs.script_running.proofs.Leaving.{came_short}
use Rattle.run_notes.specs.LineHands.{KeepsRun, keeps_run-more, keeps_run-none}
use Rattle.run_notes.specs.LineTold.{line_told}
use Rattle.run_notes.specs.RunHands.{TurnedRun, keeps_run}
use Rattle.run_notes.specs.declared.line_hand.LineHand.{LineHand}

-- what the hand tells with its seat
abbrev pub seat_told : {B : Type 0} → LineHand B → HandTold
seat_told hand = record {
  entries = hand.world.journal;
  seat = hand.seat;
  front = Some hand.world.journal;
  known = length hand.world.journal;
  refused = hand.refused;
  wanted = hand.wanted;
}

module _ {B : Type 0} (tells : B → BucketTold) where
  abbrev pub By : {X : Type 0} → LineHand B → LineHand B → Result X Broken → Type 0
  By old new came = TurnedRun tells old new (is_full_came came) (is_short_came came)

  -- from its own seat
  pub from_seat : (old new : LineHand B) (full short : Bool) → Turned seat_told (keeps_run tells) old new full short → TurnedRun tells old new full short
  from_seat old new full short t = record {
    same_seat = refl;
    adds = record { made = t.adds.made; added = t.adds.added; above = t.adds.above; within = t.adds.within; later = t.adds.later };
    was_refused = t.was_refused;
    is_full = t.is_full;
    was_wanted = t.was_wanted;
    kept = t.kept;
  }

  -- after it went to another seat
  pub seated : (old set new : LineHand B) (seat : ℕ) (full short : Bool) → set ≡ record old { seat = seat } → TurnedRun tells set new full short → TurnedRun tells old new full short
  seated old set new seat full short is t =
      let u = subst (λ (h : LineHand B). TurnedRun tells h new full short) is t in
      record {
        same_seat = refl;
        adds = record { made = u.adds.made; added = u.adds.added; above = u.adds.above; within = u.adds.within; later = u.adds.later };
        was_refused = u.was_refused;
        is_full = u.is_full;
        was_wanted = u.was_wanted;
        kept = u.kept;
      }

  -- nothing was done
  pub idle : (hand : LineHand B) (short : Bool) → TurnedRun tells hand hand false short
  idle hand short = none_turned line_told (keeps_run tells) (λ h. keeps_run-none tells h.opened.value h.wanted h.world) hand short

  -- one part, and then more
  pub then_more : (first next last : LineHand B) (full short : Bool) → TurnedRun tells first next false false → TurnedRun tells next last full short → TurnedRun tells first last full short
  then_more first next last full short one two =
      more_turned line_told (keeps_run tells)
      (λ a b c one two. keeps_run-more tells a.opened.value b.opened.value c.opened.value a.wanted b.wanted c.wanted a.world b.world c.world one two) first next last full short one two

  -- a part that came to its end
  pub ended : {X : Type 0} (old new : LineHand B) (came : Result X Broken) (x : X) → came ≡ Ok x → By old new came → TurnedRun tells old new false false
  ended {X} old new came x is t = subst (λ (c : Result X Broken). By old new c) is t

  -- a part that broke off, after others that came to their ends
  pub broke : {X : Type 0} (Y : Type 0) (first next last : LineHand B) (came : Result X Broken) (why : Broken) → came ≡ Err why → TurnedRun tells first next false false → By next last came → By {X = Y} first last (Err why)
  broke {X} Y first next last came broken.Full is one two = then_more first next last true false one (subst (λ (c : Result X Broken). By next last c) is two)
  broke {X} Y first next last came broken.NoMemory is one two = then_more first next last false true one (subst (λ (c : Result X Broken). By next last c) is two)

  -- and one that took no operation
  pub still : {X : Type 0} (first next : LineHand B) (came : Result X Broken) → is_full_came came ≡ false → TurnedRun tells first next false false → By first next came
  still {X} first next came none one =
      then_more first next next (is_full_came came) (is_short_came came) one (subst (λ (b : Bool). TurnedRun tells next next b (is_short_came came)) (sym none) (idle next (is_short_came came)))

-- from a hand that was made over a world
pub kept_since : {B : Type 0} (tells : B → BucketTold) (world hand_world hand_opened still : WorldView B) (wanted now : Bool) (next : WorldView B)
    → hand_world ≡ world → hand_opened ≡ world → wanted ≡ false → KeepsRun tells hand_opened wanted hand_world still now next → KeepsRun tells world false world still now next
kept_since {B} tells world hand_world hand_opened still wanted now next one two none keeps =
    subst (λ (w : WorldView B). KeepsRun tells world false w still now next) one
    (subst (λ (f : Bool). KeepsRun tells world f hand_world still now next) none (subst (λ (w : WorldView B). KeepsRun tells w wanted hand_world still now next) two keeps))

-- which did nothing
pub kept_still : {B : Type 0} (tells : B → BucketTold) (world hand_world hand_opened : WorldView B) (wanted : Bool)
    → hand_world ≡ world → hand_opened ≡ world → wanted ≡ false → KeepsRun tells world false world hand_opened wanted hand_world
kept_still {B} tells world hand_world hand_opened wanted one two none =
    kept_since tells world hand_world hand_opened hand_opened wanted wanted hand_world one two none (keeps_run-none tells hand_opened wanted hand_world)

-- what did not break off for the full journal
pub not_full : {X : Type 0} (came : Result X Broken) → (came ≡ Err broken.Full → ⊥) → is_full_came came ≡ false
not_full (Ok x) never = refl
not_full (Err broken.Full) never = absurd (never refl)
not_full (Err broken.NoMemory) never = refl

-- what a question mark gives back
pub result_is : {X : Type 0} (came : Result X Broken) (why : Broken) → IsErrAnd came (λ b. b ≡ why) → came ≡ Err why
result_is (Ok x) why is = absurd is
result_is {X} (Err b) why is = ap (λ (y : Broken). Err y) is

-- a slice that was lent of a whole list
pub slice_back : {X : Type 0} (new items : List X) (len : ℕ) → length new ≡ length items → len ≡ length items → take len (new ++ drop (length new) items) ≡ new
slice_back {X} new items len same all =
    ap (λ (l : List X). take len (new ++ l)) (drop_all (length new) items (omega (arith, same))) ∙ ap (λ (l : List X). take len l) (append-nil new) ∙ take_all len new (omega (arith, same, all))

-- memory was wanted for an operation only where the run is broken off for that
pub wanted_by : {X : Type 0} (before now : Bool) (came : Result X Broken) → before ≡ false → (IsTrue now → IsTrue before ⊎ IsTrue (is_short_came came)) → IsTrue now → came ≡ Err broken.NoMemory
wanted_by before now came none step so = elim (step so) [ inl was ↦ absurd (cc (subst IsTrue none was)) | inr short ↦ came_short came short ]
