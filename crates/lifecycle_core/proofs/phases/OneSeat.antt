-- In a lawful script each seat is one worker's.
use Rattle.base.proofs.Membership.{place_of_member}
use Rattle.std.proofs.Common.{◌≡◌, ℕ, zero, suc, ◌+◌, ◌<◌, ◌≤◌, ◌==◌, Bool, true, false, List, length, Contains, Option, Some, None, get_or, refl, sym, ◌∙◌, ap, subst, arith}
use Rattle.std.specs.Prelude.{slice_get}
use Rattle.std.proofs.lemmas.Bool.Decides.{nat_tests}
use Rattle.std.proofs.lemmas.List.{length-append}
use Rattle.std.proofs.lemmas.Option.{slice_get_within, slice_get-get_or}
use Rattle.script_workers.specs.Hands.{gateway_count, hands_of}
use Rattle.script_workers.specs.declared.hand.Hand.{Hand}
use Rattle.script_workers.specs.declared.hand.Hand.TheVariants as hands
use Rattle.script_workers.specs.declared.phase.Phase.{Phase}
use Rattle.script_workers.specs.declared.worker.Worker.{Worker}
use Rattle.script_core.specs.Lawful.{IsLawfulScript}
use Rattle.script_core.specs.Workers.{seats_before, workers_after, workers_before, workers_of}
use Rattle.script_core.specs.declared.script.Script.{Script}
use Rattle.script_core.proofs.SeatLaws.{are_seated}
use Rattle.lifecycle_core.specs.Breaches.{IsSeatOf}
use Rattle.lifecycle_core.specs.Setting.{Setting}

pub neither_less : (one other : ℕ) → ¬ (one < other) → ¬ (other < one) → one ≡ other
neither_less one other not turned = omega (arith, not, turned)

module _ (script : Script) (lawful : IsLawfulScript script) where
  -- the place of a worker in its phase, which tells its seat
  record HasPlace (number : ℕ) (worker : Worker) : Type 0 where
    place : ℕ
    at : slice_get (workers_of script number) place ≡ Some worker
    seat : worker.seat ≡ length (workers_before script number) + place + 1

  seated : (number place : ℕ) (worker : Worker) (o : Option Phase) → slice_get script.phases number ≡ o → slice_get (workers_after script (seats_before script number) o) place ≡ Some worker → worker.seat ≡ length (workers_before script number) + place + 1
  seated number place worker None phase at = absurd (cc (at))
  seated number place worker (Some phase) is at =
      let staff : List Hand = hands_of (gateway_count script.gateways) phase.tasks in
      let own : slice_get (workers_of script number) place ≡ Some worker = ap (λ (o : Option Phase). slice_get (workers_after script (seats_before script number) o) place) is ∙ at in
      let seats = are_seated script number phase lawful is in
      let within = slice_get_within (workers_of script number) place worker own in
      let hand = slice_get-get_or staff place (hands.Alone 0) (omega (arith, within, seats.count)) in
      (seats.each place (get_or staff place (hands.Alone 0)) worker hand own).seat

  has_place : (number : ℕ) (worker : Worker) → Contains (workers_of script number) worker → HasPlace number worker
  has_place number worker among =
      let at = place_of_member (workers_of script number) worker among in
      record { place = at.0; at = at.1; seat = seated number at.0 worker (slice_get script.phases number) refl at.1 }

  -- no worker has the clock's
  pub seat_above : (number : ℕ) (worker : Worker) → Contains (workers_of script number) worker → 0 < worker.seat
  seat_above number worker among = let h = has_place number worker among in omega (arith, h.seat)

  -- the workers of a phase are among those before a later one
  before_by : (number later : ℕ) (same : Bool) → (number == later) ≡ same → number < suc later
      → (number < later → length (workers_before script number) + length (workers_of script number) ≤ length (workers_before script later))
      → length (workers_before script number) + length (workers_of script number) ≤ length (workers_before script later) + length (workers_of script later)
  before_by number later true test less rest =
      let is : number ≡ later = grind (arith, nat_tests, test) in
      omega (arith, ap (λ (n : ℕ). length (workers_before script n)) is, ap (λ (n : ℕ). length (workers_of script n)) is)
  before_by number later false test less rest =
      let lower : number < later = grind (arith, nat_tests, test, less) in
      omega (arith, rest lower)

  before_later : (number later : ℕ) → number < later → length (workers_before script number) + length (workers_of script number) ≤ length (workers_before script later)
  before_later number zero less = absurd (omega (arith, less))
  before_later number (suc later) less =
      omega (arith, before_by number later (number == later) refl less (before_later number later), length-append (workers_before script later) (workers_of script later))

  not_later : (number later : ℕ) (worker other : Worker) → Contains (workers_of script number) worker → Contains (workers_of script later) other → worker.seat ≡ other.seat → ¬ (number < later)
  not_later number later worker other one two same less =
      let first = has_place number worker one in
      let second = has_place later other two in
      let within = slice_get_within (workers_of script number) first.place worker first.at in
      let most = before_later number later less in
      absurd (omega (arith, first.seat, second.seat, same, within, most))

  -- a seat tells its phase
  pub one_phase : (number also : ℕ) (worker other : Worker) → Contains (workers_of script number) worker → Contains (workers_of script also) other → worker.seat ≡ other.seat → number ≡ also
  one_phase number also worker other one two same = neither_less number also (not_later number also worker other one two same) (not_later also number other worker two one (sym same))

  pub one_worker : (number also : ℕ) (worker other : Worker) → Contains (workers_of script number) worker → Contains (workers_of script also) other → worker.seat ≡ other.seat → worker ≡ other
  one_worker number also worker other one two same =
      let phase : number ≡ also = neither_less number also (not_later number also worker other one two same) (not_later also number other worker two one (sym same)) in
      let first = has_place number worker one in
      let second = has_place number other (subst (λ (n : ℕ). Contains (workers_of script n) other) (sym phase) two) in
      let place : first.place ≡ second.place = omega (arith, first.seat, second.seat, same) in
      let at : slice_get (workers_of script number) second.place ≡ Some worker = ap (slice_get (workers_of script number)) (sym place) ∙ first.at in
      cc (at, second.at)

pub one_gateway : (setting : Setting) → IsLawfulScript setting.script → (gateway also seat : ℕ) → IsSeatOf setting gateway seat → IsSeatOf setting also seat → also ≡ gateway
one_gateway setting lawful gateway also seat (number, worker, among, is, sits) (number', other, among', is', sits') =
    let same : worker ≡ other = one_worker setting.script lawful number number' worker other among among' (sits ∙ sym sits') in
    let owns : worker.gateway ≡ Some also = ap (λ (w : Worker). w.gateway) same ∙ is' in
    cc (is, owns)
