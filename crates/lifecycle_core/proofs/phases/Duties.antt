-- The duties of one hand among those of a phase, and the ends to which they came.
use Rattle.std.proofs.Common.{◌≡◌, true, false, cond, List, [], ◌∷◌, map, refl}
use Rattle.script_workers.specs.Hands.{same_hand}
use Rattle.script_workers.specs.declared.hand.Hand.{Hand}
use Rattle.script_workers.specs.declared.hand.Hand.TheVariants as hands
use Rattle.lifecycle_core.specs.Conducts.{Assigned}
use Rattle.lifecycle_core.specs.InLine.{Duty}
use Rattle.lifecycle_core.specs.Tasks.{End}

-- the duties of a hand, in their order
unfoldable pub part : Hand → List Duty → List Duty
part hand [] = []
part hand (duty ∷ duties) = cond (same_hand hand duty.hand) (duty ∷ part hand duties) (part hand duties)

-- the ends to which they came
unfoldable pub ends_by : Hand → List Duty → List End → List End
ends_by hand [] ends = []
ends_by hand (duty ∷ duties) [] = []
ends_by hand (duty ∷ duties) (end ∷ ends) = cond (same_hand hand duty.hand) (end ∷ ends_by hand duties ends) (ends_by hand duties ends)

abbrev pub tasks_of : List Duty → List Assigned
tasks_of duties = map (λ duty. record { place = duty.place; task = duty.task }) duties

pub part_own : (hand : Hand) (duty : Duty) (duties : List Duty) → same_hand hand duty.hand ≡ true → part hand (duty ∷ duties) ≡ duty ∷ part hand duties
unfolding part
part_own hand duty duties is = rw is refl

pub part_other : (hand : Hand) (duty : Duty) (duties : List Duty) → same_hand hand duty.hand ≡ false → part hand (duty ∷ duties) ≡ part hand duties
unfolding part
part_other hand duty duties is = rw is refl

pub ends_own : (hand : Hand) (duty : Duty) (duties : List Duty) (end : End) (ends : List End) → same_hand hand duty.hand ≡ true → ends_by hand (duty ∷ duties) (end ∷ ends) ≡ end ∷ ends_by hand duties ends
unfolding ends_by
ends_own hand duty duties end ends is = rw is refl

pub ends_other : (hand : Hand) (duty : Duty) (duties : List Duty) (end : End) (ends : List End) → same_hand hand duty.hand ≡ false → ends_by hand (duty ∷ duties) (end ∷ ends) ≡ ends_by hand duties ends
unfolding ends_by
ends_other hand duty duties end ends is = rw is refl

pub ends_none : (hand : Hand) (duties : List Duty) → ends_by hand duties [] ≡ []
unfolding ends_by
ends_none hand [] = refl
ends_none hand (duty ∷ duties) = refl
