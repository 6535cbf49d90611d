-- Whose gateway's a seat is.
use Rattle.base.proofs.Membership.{contains_first, contains_later, member_cases, no_member}
use Rattle.std.proofs.Common.{◌≡◌, ◌⊎◌, inl, inr, ℕ, ◌+◌, Bool, true, false, List, [], ◌∷◌, Contains, Option, Some, None, refl, sym, ◌∙◌, ap, subst, arith}
use Rattle.std.specs.BTreeMap.{BTreeMap, IsEmpty, get}
use Rattle.std.specs.Map.{lookup}
use Rattle.std.specs.Ordering.{is_eq, nat_cmp}
use Rattle.std.proofs.lemmas.Bool.{cases_lt}
use Rattle.base.proofs.Bools.{nat_cmp-Equal, same-from_is_eq}
use Rattle.script_core.specs.declared.script.Script.{Script}
use Rattle.script_core.specs.Lawful.{IsLawfulScript}
use Rattle.script_core.specs.Workers.{workers_of}
use Rattle.script_workers.specs.declared.worker.Worker.{Worker}
use Rattle.lifecycle_core.proofs.phases.OneSeat.{one_worker}
use Rattle.breach_finding.specs.Tables.{AreAdded, AreSeatsOf, Numbers, SitsBefore, gateway_or, seated}

pub num_itself : (m n : ℕ) → m ≡ n → is_eq (nat_cmp m n) ≡ true
num_itself m n same = ap (λ k. is_eq (nat_cmp m k)) (sym same) ∙ ap is_eq (nat_cmp-Equal m)

-- who sits there is one of the workers
abbrev SitsAmong : List Worker → ℕ → ℕ → Type 0
SitsAmong workers gateway seat = (worker : Worker) × Contains workers worker × (worker.gateway ≡ Some gateway) × (worker.seat ≡ seat)

among_later : (w : Worker) (workers : List Worker) (gateway seat : ℕ) → SitsAmong workers gateway seat → SitsAmong (w ∷ workers) gateway seat
among_later w workers gateway seat (worker, among, is, sits) = (worker, contains_later w worker workers among, is, sits)

own_or : (w : Worker) (o was : Option ℕ) (b : Bool) (seat gateway : ℕ) → w.gateway ≡ o → is_eq (nat_cmp w.seat seat) ≡ b → gateway_or o b was ≡ Some gateway → ((w.gateway ≡ Some gateway) × (w.seat ≡ seat)) ⊎ (was ≡ Some gateway)
own_or w None was b seat gateway is test found = inr found
own_or w (Some g) was true seat gateway is test found = inl (is ∙ found, same-from_is_eq w.seat seat test)
own_or w (Some g) was false seat gateway is test found = inr found

seated_found : (workers : List Worker) (seat gateway : ℕ) (was : Option ℕ) → seated workers seat was ≡ Some gateway → SitsAmong workers gateway seat ⊎ (was ≡ Some gateway)
seated_found [] seat gateway was found = inr found
seated_found (w ∷ workers) seat gateway was found = elim (seated_found workers seat gateway (gateway_or w.gateway (is_eq (nat_cmp w.seat seat)) was) found) [
  | inl among ↦ inl (among_later w workers gateway seat among)
  | inr here ↦ elim (own_or w w.gateway was (is_eq (nat_cmp w.seat seat)) seat gateway refl refl here) [
    | inl own ↦ inl (w, contains_first w workers, own.0, own.1)
    | inr before ↦ inr before
  ]
]

-- nobody else's gateway has the seat
abbrev IsSole : List Worker → ℕ → ℕ → Type 0
IsSole workers seat gateway = (w : Worker) (other : ℕ) → Contains workers w → w.seat ≡ seat → w.gateway ≡ Some other → other ≡ gateway

kept_or : (w : Worker) (o : Option ℕ) (b : Bool) (seat gateway : ℕ) → w.gateway ≡ o → is_eq (nat_cmp w.seat seat) ≡ b → ((other : ℕ) → w.seat ≡ seat → w.gateway ≡ Some other → other ≡ gateway) → gateway_or o b (Some gateway) ≡ Some gateway
kept_or w None b seat gateway is test sole = refl
kept_or w (Some g) true seat gateway is test sole = ap Some (sole g (same-from_is_eq w.seat seat test) is)
kept_or w (Some g) false seat gateway is test sole = refl

later_sole : (w : Worker) (workers : List Worker) (seat gateway : ℕ) → IsSole (w ∷ workers) seat gateway → IsSole workers seat gateway
later_sole w workers seat gateway sole x other among = sole x other (contains_later w x workers among)

seated_kept : (workers : List Worker) (seat gateway : ℕ) → IsSole workers seat gateway → seated workers seat (Some gateway) ≡ Some gateway
seated_kept [] seat gateway sole = refl
seated_kept (w ∷ workers) seat gateway sole =
    ap (seated workers seat) (kept_or w w.gateway (is_eq (nat_cmp w.seat seat)) seat gateway refl refl (λ other. sole w other (contains_first w workers)))
    ∙ seated_kept workers seat gateway (later_sole w workers seat gateway sole)

sits_or : (o was : Option ℕ) (b : Bool) (gateway : ℕ) → o ≡ Some gateway → b ≡ true → gateway_or o b was ≡ Some gateway
sits_or None was b gateway is test = cc (is)
sits_or (Some g) was true gateway is test = is
sits_or (Some g) was false gateway is test = cc (test)

seated_all : (workers : List Worker) (seat gateway : ℕ) (was : Option ℕ) → IsSole workers seat gateway → SitsAmong workers gateway seat → seated workers seat was ≡ Some gateway
seated_all [] seat gateway was sole (worker, among, is, sits) = absurd (no_member worker among)
seated_all (w ∷ workers) seat gateway was sole (worker, among, is, sits) = elim (member_cases w worker workers among) [
  | inl same ↦
      ap (seated workers seat) (sits_or w.gateway was (is_eq (nat_cmp w.seat seat)) gateway (ap (λ (x : Worker). x.gateway) same ∙ is) (num_itself w.seat seat (ap (λ (x : Worker). x.seat) same ∙ sits)))
      ∙ seated_kept workers seat gateway (later_sole w workers seat gateway sole)
  | inr later ↦ seated_all workers seat gateway (gateway_or w.gateway (is_eq (nat_cmp w.seat seat)) was) (later_sole w workers seat gateway sole) (worker, later, is, sits)
]

module _ (script : Script) (lawful : IsLawfulScript script) (number : ℕ) (old new : Numbers) (seats : AreSeatsOf script number old) (added : AreAdded (workers_of script number) old new) where
  here_or_before : (gateway seat : ℕ) → SitsBefore script (number + 1) gateway seat → SitsAmong (workers_of script number) gateway seat ⊎ SitsBefore script number gateway seat
  here_or_before gateway seat (own, less, worker, among, is, sits) = elim (cases_lt own number) [
    | inl below ↦ inr (own, below, worker, among, is, sits)
    | inr above ↦ (let same : own ≡ number = omega (arith, less, above) in inl (worker, subst (λ n. Contains (workers_of script n) worker) same among, is, sits))
  ]

  sole : (gateway seat : ℕ) → SitsBefore script (number + 1) gateway seat → IsSole (workers_of script number) seat gateway
  sole gateway seat (own, less, worker, among, is, sits) w other here at whose =
      let same : worker ≡ w = one_worker script lawful own number worker w among here (sits ∙ sym at) in
      let owns : Some other ≡ Some gateway = sym whose ∙ ap (λ (x : Worker). x.gateway) (sym same) ∙ is in
      cc (owns)

  all_here : (gateway seat : ℕ) (s : SitsBefore script (number + 1) gateway seat) → SitsAmong (workers_of script number) gateway seat ⊎ SitsBefore script number gateway seat → get nat_cmp new seat ≡ Some gateway
  all_here gateway seat s (inl among) = added seat ∙ seated_all (workers_of script number) seat gateway (get nat_cmp old seat) (sole gateway seat s) among
  all_here gateway seat s (inr before) = added seat ∙ ap (seated (workers_of script number) seat) (seats.all seat gateway before) ∙ seated_kept (workers_of script number) seat gateway (sole gateway seat s)

  -- the seats of one phase more
  pub one_phase_more : AreSeatsOf script (number + 1) new
  one_phase_more = record {
    found = λ seat gateway is. elim (seated_found (workers_of script number) seat gateway (get nat_cmp old seat) (sym (added seat) ∙ is)) [
      | inl (worker, among, whose, sits) ↦ (number, omega arith, worker, among, whose, sits)
      | inr before ↦ (let own = seats.found seat gateway before in (own.0, (let less = own.1 in omega (arith, less)), own.2, own.3, own.4, own.5))
    ];
    all = λ seat gateway s. all_here gateway seat s (here_or_before gateway seat s);
  }

pub empty_get : {X : Type 0} (m : BTreeMap ℕ X) → IsEmpty m → (q : ℕ) → get nat_cmp m q ≡ None
empty_get m none q = ap (λ es. lookup (λ k. is_eq (nat_cmp q k)) es) none

-- before the first phase
pub seats_none : (script : Script) (seats : Numbers) → IsEmpty seats → AreSeatsOf script 0 seats
seats_none script seats none = record {
  found = λ seat gateway is. cc (is, empty_get seats none seat);
  all = λ seat gateway s. let less = s.1 in absurd (omega (arith, less));
}
