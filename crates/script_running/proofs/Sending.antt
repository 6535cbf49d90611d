-- The workers of a phase, sent with what their gateways see, one after another.
use Rattle.std.proofs.Common.{◌≡◌, ◌≢◌, ℕ, zero, suc, ◌+◌, List, [], ◌∷◌, ◌++◌, take, Option, None, Some, refl, sym, subst}
use Rattle.std.specs.Prelude.{slice_get}
use Rattle.std.specs.List.{All, AllZip}
use Rattle.std.proofs.lemmas.List.Elements.{All-cons, All-contains, All-head, All-nil}
use Rattle.base.proofs.Lists.{All-append_left, All-append_right, take_none, take_place}
use Rattle.base.proofs.Membership.{contains_place}
use Rattle.base.proofs.Pairs.{AllZip-push}
use Rattle.script_workers.specs.declared.worker.Worker.{Worker}
use Rattle.lifecycle_core.specs.Holdings.{Holdings, holding_of, nothing_held}
use Rattle.script_running.specs.Beside.{AreSeen}
use Rattle.script_running.specs.Ended.{IsPostOf}
use Rattle.script_running.specs.Gathering.{HaveOwnGateways, AreSeenBeside, IsTaken}
use Rattle.script_running.specs.Lending.{Loan}
use Rattle.script_running.specs.Sights.{Sees, no_sight}
use Rattle.script_running.specs.Workers.{Post}
use Rattle.script_running.specs.declared.sight.Sight.{Sight}

abbrev NotOf : ℕ → Worker → Type 0
NotOf place w = w.gateway ≢ Some place

-- the workers before one are of other gateways
apart_before : (workers : List Worker) (k : ℕ) (w : Worker) (gateway : ℕ) → HaveOwnGateways workers → slice_get workers k ≡ Some w → w.gateway ≡ Some gateway → All (NotOf gateway) (take k workers)
apart_before [] k w gateway apart at is = absurd (cc (at))
apart_before (x ∷ workers) zero w gateway apart at is = subst (All (NotOf gateway)) (sym (take_none (x ∷ workers))) (All-nil (NotOf gateway))
apart_before (x ∷ workers) (suc k) w gateway apart at is =
    All-cons (NotOf gateway) x (take k workers) (λ same. All-contains (NotOf gateway) workers w (apart.0 gateway same) (contains_place workers k w at) is) (apart_before workers k w gateway apart.1 at is)

-- so many workers were sent, and what the other gateways see by is there
pub record AreSent (loan : Loan) (number : ℕ) (workers : List Worker) (before sights : List Sight) (posts : List Post) : Type 0 where
  pub sent : (held : Holdings) → AreSeen held before → AllZip (IsPostOf loan number held) workers posts
  pub left : (place : ℕ) (sight : Sight) → slice_get sights place ≡ Some sight → All (NotOf place) workers → slice_get before place ≡ Some sight

sees_own : (held : Holdings) (before : List Sight) (gateway : Option ℕ) (own : Sight) → AreSeen held before → (gateway ≡ None → own ≡ no_sight) → ((place : ℕ) → gateway ≡ Some place → slice_get before place ≡ Some own) → Sees (holding_of held gateway) own
sees_own held before None own seen none named = subst (Sees nothing_held) (sym (none refl)) (record { view_is = refl; cache_is = refl })
sees_own held before (Some place) own seen none named = seen place own (named place refl)

pub one_sent : (loan : Loan) (number k : ℕ) (workers : List Worker) (w : Worker) (before sights next : List Sight) (posts more : List Post) (post : Post) → HaveOwnGateways workers → slice_get workers k ≡ Some w → AreSent loan number (take k workers) before sights posts
    → post.loan ≡ loan → post.phase ≡ number → post.worker ≡ w → IsTaken w.gateway post.sight sights next → more ≡ posts ++ post ∷ [] → AreSent loan number (take (k + 1) workers) before next more
one_sent loan number k workers w before sights next posts more post apart at s its phase worker taken is =
    subst (λ (ws : List Worker). AreSent loan number ws before next more) (sym (take_place workers k w at))
    (subst (λ (ps : List Post). AreSent loan number (take k workers ++ w ∷ []) before next ps) (sym is) (record {
      sent = λ held seen. AllZip-push (IsPostOf loan number held) (take k workers) posts w post (s.sent held seen) (record {
        loan_is = its;
        phase_is = phase;
        worker_is = worker;
        sees = sees_own held before w.gateway post.sight seen taken.none (λ place named. s.left place post.sight (taken.named place named) (apart_before workers k w place apart at named));
      });
      left = λ place sight there none.
          s.left place sight (taken.left place sight there (All-head (NotOf place) w [] (All-append_right (NotOf place) (take k workers) (w ∷ []) none))) (All-append_left (NotOf place) (take k workers) (w ∷ []) none);
    }))

-- gateways without a worker have the sights of what they hold
pub seen_beside : (loan : Loan) (number : ℕ) (workers : List Worker) (before sights : List Sight) (posts : List Post) → AreSent loan number workers before sights posts → (held : Holdings) → AreSeen held before → AreSeenBeside held workers sights
seen_beside loan number workers before sights posts s held seen place sight is none = seen place sight (s.left place sight is none)
