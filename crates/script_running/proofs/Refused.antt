-- Whether a pass of a run met the full journal, or wanted memory, by what its phases came to.
use Rattle.std.proofs.Common.{◌≡◌, ◌≢◌, ◌||◌, ◌⊎◌, inl, inr, Bool, true, false, IsTrue, List, [], ◌∷◌, All, refl, sym, ◌∙◌, ap}
use Rattle.std.specs.Prelude.{Ok, Err, Result}
use Rattle.std.specs.List.{list_any}
use Rattle.std.proofs.lemmas.List.Elements.{All-head, All-tail, All-weaker}
use Rattle.base.proofs.Membership.{any_of_member}
use Rattle.base.proofs.Bools.{or_false}
use Rattle.world_turn.specs.declared.view.View.{View as Known}
use Rattle.script_workers.specs.declared.phase.Phase.{Phase}
use Rattle.script_running.specs.Gathering.{HaveCome}
use Rattle.script_running.specs.Going.{IsClockSet, Met}
use Rattle.script_running.specs.Tasks.{is_full_came, is_short_came}
use Rattle.script_running.specs.declared.came.Broken.{Broken}
use Rattle.script_running.specs.declared.came.Broken.TheVariants as broken
use Rattle.script_running.specs.declared.worker.WorkerEnd.{WorkerEnd}

abbrev Came : Type 0
Came = Result (Unit {0}) Broken

not_full : (came : Came) → came ≢ Err broken.Full → is_full_came came ≡ false
not_full (Ok done) never = refl
not_full (Err broken.Full) never = absurd (never refl)
not_full (Err broken.NoMemory) never = refl

abbrev IsMet : WorkerEnd → Bool
IsMet end = is_full_came end.came

none_any : (ends : List WorkerEnd) → All (λ (end : WorkerEnd). end.came ≢ Err broken.Full) ends → list_any IsMet ends ≡ false
none_any [] none = refl
none_any (end ∷ ends) none =
    let first : IsMet end ≡ false = not_full end.came (All-head (λ (e : WorkerEnd). e.came ≢ Err broken.Full) end ends none) in
    ap (λ (b : Bool). b || list_any IsMet ends) first ∙ none_any ends (All-tail (λ (e : WorkerEnd). e.came ≢ Err broken.Full) end ends none)

is_ended : (came : Came) → came ≡ Ok tt → came ≢ Err broken.Full
is_ended came done full = absurd (cc (done, full))

-- a phase is told as full just where a worker met the full journal
pub come_tells : (ends : List WorkerEnd) (came : Came) → HaveCome ends came → list_any (λ (end : WorkerEnd). is_full_came end.came) ends ≡ is_full_came came
come_tells ends (Ok done) all = none_any ends (All-weaker (λ (e : WorkerEnd). e.came ≡ Ok tt) (λ (e : WorkerEnd). e.came ≢ Err broken.Full) (λ e done. is_ended e.came done) ends all)
come_tells ends (Err broken.Full) (end, among, is) = any_of_member (λ (e : WorkerEnd). is_full_came e.came) ends end among (ap is_full_came is)
come_tells ends (Err broken.NoMemory) none = none_any ends none

-- where all have come to their ends, want of memory may still be told
pub still_come : (ends : List WorkerEnd) (came : Came) → HaveCome ends (Ok tt) → Met broken.NoMemory ends → came ≢ Err broken.Full → HaveCome ends came
still_come ends (Ok done) all none never = all
still_come ends (Err broken.Full) all none never = absurd (never refl)
still_come ends (Err broken.NoMemory) all none never = none

-- ---- from one phase to the next

-- the clock
pub clock_tells : (phase : Phase) (before after : Known) (came : Came) → IsClockSet phase before after came → after.refused ≡ (before.refused || is_full_came came)
clock_tells phase before after (Ok done) set = (set.1).refused
clock_tells phase before after (Err broken.Full) set = set.refused
clock_tells phase before after (Err broken.NoMemory) set = set.refused

-- the workers behind it
pub phase_tells : (first clock last any : Bool) (came : Came) → clock ≡ (first || false) → last ≡ (clock || any) → any ≡ is_full_came came → last ≡ (first || is_full_came came)
phase_tells first clock last any came set is told = is ∙ ap (λ (b : Bool). b || any) (set ∙ or_false first) ∙ ap (λ (b : Bool). first || b) told

pub clock_done : (phase : Phase) (before after : Known) (came : Came) → came ≡ Ok tt → IsClockSet phase before after came → after.refused ≡ (before.refused || false)
clock_done phase before after came is set = clock_tells phase before after came set ∙ ap (λ (c : Came). before.refused || is_full_came c) is

-- a phase that came to its end met nothing
pub on_tells : (first mid last : Bool) (came : Came) → mid ≡ first → last ≡ (mid || is_full_came came) → came ≡ Ok tt → last ≡ first
on_tells first mid last came same is done = is ∙ ap (λ (c : Came). mid || is_full_came c) done ∙ or_false mid ∙ same

pub off_tells : (first mid last : Bool) (came : Came) (why : Broken) → mid ≡ first → last ≡ (mid || is_full_came came) → came ≡ Err why → last ≡ (first || is_full_came {X = Unit {0}} (Err why))
off_tells first mid last came why same is off = is ∙ ap (λ (c : Came). mid || is_full_came c) off ∙ ap (λ (b : Bool). b || is_full_came {X = Unit {0}} (Err why)) same

pub all_tell : (first last : Bool) → last ≡ first → last ≡ (first || false)
all_tell first last same = same ∙ sym (or_false first)

-- ---- want of memory

abbrev IsShort : WorkerEnd → Bool
IsShort end = is_short_came end.came

none_short : (ends : List WorkerEnd) → All (λ (end : WorkerEnd). end.came ≡ Ok tt) ends → list_any IsShort ends ≡ false
none_short [] all = refl
none_short (end ∷ ends) all =
    let first : IsShort end ≡ false = ap is_short_came (All-head (λ (e : WorkerEnd). e.came ≡ Ok tt) end ends all) in
    ap (λ (b : Bool). b || list_any IsShort ends) first ∙ none_short ends (All-tail (λ (e : WorkerEnd). e.came ≡ Ok tt) end ends all)

-- of workers that all came to all their ends, none wanted memory
pub come_unwanted : (ends : List WorkerEnd) (came : Came) → HaveCome ends came → came ≡ Ok tt → list_any (λ (end : WorkerEnd). is_short_came end.came) ends ≡ false
come_unwanted ends (Ok done) all is = none_short ends all
come_unwanted ends (Err why) all is = absurd (cc is)

pub clock_unwanted : (phase : Phase) (before after : Known) (came : Came) → IsClockSet phase before after came → came ≡ Ok tt → before.wanted ≡ false → after.wanted ≡ false
clock_unwanted phase before after (Ok done) set is none = (set.1).wanted ∙ or_false before.wanted ∙ none
clock_unwanted phase before after (Err why) set is none = absurd (cc is)

pub phase_unwanted : (last clock any : Bool) → clock ≡ false → any ≡ false → (IsTrue last → IsTrue clock ⊎ IsTrue any) → last ≡ false
phase_unwanted false clock any none all step = refl
phase_unwanted true true any none all step = absurd (cc none)
phase_unwanted true false true none all step = absurd (cc all)
phase_unwanted true false false none all step = elim (step refl) [ inl so ↦ absurd (cc so) | inr so ↦ absurd (cc so) ]
