-- Splitting one pass more.
use Rattle.std.proofs.Common.{◌≡◌, ℕ, ◌+◌, ◌<◌, ◌++◌, List, [], ◌∷◌, length, length-append, get_or, drop, Option, Some, None, refl, sym, ap, ◌∙◌, subst, arith, append_assoc, append-nil, drop_of_length-le}
use Rattle.std.proofs.lemmas.List.{drop_more}
use Rattle.atomic_table.specs.Seated.{TableId}
use Rattle.world_turn.specs.Passes.{table_of, view_of}
use Rattle.world_turn.specs.Turns.{IsNew, IsSplit}
use Rattle.world_turn.specs.declared.pass.Pass.{Pass}
use Rattle.world_turn.specs.declared.view.View.{View}
use Rattle.phase_runner.specs.Phases.{IsSeated, AreSeated, HasSplit}

-- what is left of a list behind one of its members more, and behind all
pub left_more : {J : Type 0} (xs done : List J) (x : J) → length done < length xs → x ≡ get_or xs (length done) x → drop (length done) xs ≡ x ∷ drop (length (done ++ x ∷ [])) xs
left_more xs done x less is =
    drop_more xs (length done) x less ∙ (ap (λ y. y ∷ drop (length done + 1) xs) (sym is) ∙ ap (λ (n : ℕ). x ∷ drop n xs) (sym (length-append done (x ∷ []))))

pub left_none : {J : Type 0} (xs done : List J) → length done ≡ length xs → drop (length done) xs ≡ []
left_none xs done same = drop_of_length-le xs (omega arith)

seated_snoc : {J : Type 0} (table : TableId) (v : View) (seat : ℕ) (done : List J) (works : List (Option J × Option Pass)) (job : J) (pass : Pass)
    → AreSeated table v seat done works → IsSeated table v (seat + length done) pass → AreSeated table v seat (done ++ job ∷ []) (works ++ (Some job, Some pass) ∷ [])
seated_snoc table v seat [] [] job pass a new = (refl, subst (λ (n : ℕ). IsSeated table v n pass) (omega arith) new, tt)
seated_snoc table v seat [] (w ∷ ws) job pass a new = absurd a
seated_snoc table v seat (j ∷ js) [] job pass a new = absurd a
seated_snoc table v seat (j ∷ js) ((None, p) ∷ ws) job pass a new = absurd a
seated_snoc table v seat (j ∷ js) ((Some w, None) ∷ ws) job pass a new = absurd a
seated_snoc table v seat (j ∷ js) ((Some w, Some p) ∷ ws) job pass a new =
    (a.0, a.1, seated_snoc table v (seat + 1) js ws job pass a.2 (subst (λ (n : ℕ). IsSeated table v n pass) (omega arith) new))

pub record HasSeated {J : Type 0} (table : TableId) (first root : Pass) (all jobs : List J) (works : List (Option J × Option Pass)) : Type 0 where
  pub done : List J
  pub parts : all ≡ done ++ jobs
  pub split : HasSplit first root (length done)
  pub seated : AreSeated table (view_of first) (first.splits + 1) done works

pub none_seated : {J : Type 0} (table : TableId) (root : Pass) (all : List J) → root.seat ≡ 0 → HasSeated table root root all all []
none_seated table root all seat = record {
  done = [];
  parts = refl;
  split = record { table = refl; root = seat; splits = omega arith; own = refl; front = refl; known = refl; joined = refl; refused = refl; wanted = refl; tick = refl };
  seated = tt;
}

pub one_seated : {J : Type 0} (table : TableId) (first root next pass : Pass) (all jobs rest : List J) (job : J) (works : List (Option J × Option Pass)) → HasSeated table first root all jobs works
    → jobs ≡ job ∷ rest → table_of root ≡ table → table_of next ≡ table_of root → next.seat ≡ 0 → next.splits ≡ root.splits + 1 → IsSplit (view_of root) (view_of next)
    → table_of pass ≡ table_of root → pass.seat ≡ root.splits + 1 → IsNew (view_of root) (view_of pass)
    → HasSeated table first next all rest (works ++ (Some job, Some pass) ∷ [])
one_seated table first root next pass all jobs rest job works h is of next_of next_seat_is next_splits next_view pass_of pass_seat pass_view =
    let s = h.split in
    let more : length (h.done ++ job ∷ []) ≡ length h.done + 1 = length-append h.done (job ∷ []) in
    let n = s.splits in
    record {
      done = h.done ++ job ∷ [];
      parts = h.parts ∙ (ap (λ l. h.done ++ l) is ∙ sym (append_assoc h.done (job ∷ []) rest));
      split = record {
        table = next_of ∙ s.table;
        root = next_seat_is;
        splits = omega arith;
        own = next_view.own ∙ s.own;
        front = next_view.front ∙ s.front;
        known = next_view.known ∙ s.known;
        joined = next_view.joined ∙ s.joined;
        refused = next_view.refused ∙ s.refused;
        wanted = next_view.wanted ∙ s.wanted;
        tick = next_view.tick ∙ s.tick;
      };
      seated = seated_snoc table (view_of first) (first.splits + 1) h.done works job pass h.seated record {
        table_is = pass_of ∙ of;
        sits = omega arith;
        own = pass_view.own;
        front = pass_view.front ∙ s.front;
        known = pass_view.known ∙ s.known;
        refused = pass_view.refused;
        wanted = pass_view.wanted;
      };
    }

pub all_seated : {J : Type 0} (table : TableId) (first root : Pass) (all : List J) (works : List (Option J × Option Pass)) → HasSeated table first root all [] works
    → HasSplit first root (length all) × AreSeated table (view_of first) (first.splits + 1) all works
all_seated table first root all works h =
    let e : h.done ≡ all = sym (h.parts ∙ append-nil h.done) in
    (subst (λ l. HasSplit first root (length l)) e h.split, subst (λ l. AreSeated table (view_of first) (first.splits + 1) l works) e h.seated)
