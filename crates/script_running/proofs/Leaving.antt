-- What a task leaves of the hand that did it.
use Rattle.std.proofs.Common.{◌≡◌, inl, inr, Bool, IsTrue, true, false, refl, sym, subst}
use Rattle.std.specs.Prelude.{Result, Ok, Err}
use Rattle.world_core.specs.Machines.{is_driven_full, is_driven_wanting}
use Rattle.world_core.specs.Told.{HandTold}
use Rattle.world_core.specs.Turning.{Turned}
use Rattle.world_core.specs.declared.driving.Driven.{Driven}
use Rattle.world_core.specs.declared.driving.Driven.TheVariants.{Ended, Stopped, Full, NoMemory}
use Rattle.world_core.proofs.Turning.{more_turned, none_turned}
use Rattle.script_running.specs.Drives.{came_by, driven_end, stop_of}
use Rattle.script_running.specs.Outcomes.{Part}
use Rattle.script_running.specs.Tasks.{is_full_came, is_short_came}
use Rattle.script_running.specs.declared.came.Broken.{Broken}
use Rattle.script_running.specs.declared.came.Broken.TheVariants as broken
use Rattle.script_running.specs.declared.came.Stop.{Stop}

pub came_short : {X : Type 0} (came : Result X Broken) → IsTrue (is_short_came came) → came ≡ Err broken.NoMemory
came_short (Ok x) is = absurd (cc (is))
came_short (Err broken.Full) is = absurd (cc (is))
came_short (Err broken.NoMemory) is = refl

module _ {H : Type 0} (told : H → HandTold) (keeps : H → H → Type 0) where
  abbrev pub Left : H → H → Bool → Bool → Type 0
  Left old new full short = Turned told keeps old new full short

  -- as what was come to says
  abbrev pub LeftBy : {X : Type 0} → H → H → Result X Broken → Type 0
  LeftBy old new came = Left old new (is_full_came came) (is_short_came came)

  -- nothing was done, and the journal was not full
  pub idle_left : {X : Type 0} → ((hand : H) → keeps hand hand) → (hand : H) (came : Result X Broken) → is_full_came came ≡ false → LeftBy hand hand came
  idle_left none hand came is =
      subst (λ (b : Bool). Left hand hand b (is_short_came came)) (sym is) (none_turned told keeps none hand (is_short_came came))

  -- what wanted no memory is no less if that is said of it
  shorter : (old new : H) (full short : Bool) → Left old new full false → Left old new full short
  shorter old new full short t = record {
    same_seat = t.same_seat;
    adds = t.adds;
    was_refused = t.was_refused;
    is_full = t.is_full;
    was_wanted = λ was. elim (t.was_wanted was) [ inl before ↦ inl before | inr none ↦ absurd (cc (none)) ];
    kept = t.kept;
  }

  stop_so : {E : Type 0} (out : Stop E → Part) (old new : H) (driven : Driven E) → Left old new (is_driven_full driven) (is_driven_wanting driven) → LeftBy old new (came_by out (stop_of driven))
  stop_so out old new (Ended end) t = t
  stop_so out old new (Stopped n) t = t
  stop_so out old new Full t = t
  stop_so out old new NoMemory t = t

  -- a drive that may be stopped
  pub stop_left : {E : Type 0} (out : Stop E → Part) (old new : H) (driven : Driven E) (came : Result Part Broken) → came ≡ came_by out (stop_of driven) → Left old new (is_driven_full driven) (is_driven_wanting driven) → LeftBy old new came
  stop_left out old new driven came is t = subst (λ (c : Result Part Broken). LeftBy old new c) (sym is) (stop_so out old new driven t)

  end_so : {E : Type 0} (out : E → Part) (old new : H) (driven : Driven E) → Left old new (is_driven_full driven) (is_driven_wanting driven) → LeftBy old new (came_by out (driven_end driven))
  end_so out old new (Ended end) t = t
  end_so out old new (Stopped n) t = shorter old new false true t
  end_so out old new Full t = t
  end_so out old new NoMemory t = t

  -- a drive that nothing stops
  pub end_left : {E : Type 0} (out : E → Part) (old new : H) (driven : Driven E) (came : Result Part Broken) → came ≡ came_by out (driven_end driven) → Left old new (is_driven_full driven) (is_driven_wanting driven) → LeftBy old new came
  end_left out old new driven came is t = subst (λ (c : Result Part Broken). LeftBy old new c) (sym is) (end_so out old new driven t)

  -- a task that came to its end
  pub done_left : (old new : H) (came : Result Part Broken) (part : Part) → came ≡ Ok part → LeftBy old new came → Left old new false false
  done_left old new came part is t = subst (λ (c : Result Part Broken). LeftBy old new c) is t

  -- tasks that came to their ends, and one that was broken off
  pub broken_left : ((first next last : H) → keeps first next → keeps next last → keeps first last) → (first next last : H) (came : Result Part Broken) (why : Broken) → came ≡ Err why → Left first next false false → LeftBy next last came
      → LeftBy {X = Unit {0}} first last (Err why)
  broken_left more first next last came broken.Full is one two =
      more_turned told keeps more first next last true false one (subst (λ (c : Result Part Broken). LeftBy next last c) is two)
  broken_left more first next last came broken.NoMemory is one two =
      more_turned told keeps more first next last false true one (subst (λ (c : Result Part Broken). LeftBy next last c) is two)
