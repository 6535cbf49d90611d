-- Taking in one ended worker more.
use Rattle.std.proofs.Common.{◌≡◌, ◌⊎◌, inl, inr, ◌||◌, Bool, IsTrue, true, false, ℕ, ◌+◌, ◌≤◌, ◌++◌, List, [], ◌∷◌, length, length-append, max, Option, Some, None, refl, sym, ap, ap₂, ◌∙◌, subst, arith, append_assoc, append-nil, le_refl}
use Rattle.std.specs.List.{list_any}
use Rattle.atomic_table.specs.Seated.{TableId}
use Rattle.world_core.specs.declared.entry.Entry.{Entry}
use mathlib.Core.List.{IsPrefix}
use Rattle.world_turn.specs.Passes.{table_of, view_of}
use Rattle.world_turn.specs.Turns.{IsJoined}
use Rattle.world_turn.specs.declared.pass.Pass.{Pass}
use Rattle.world_turn.specs.declared.view.View.{View}
use Rattle.world_turn.proofs.Fronts.{front_whole, front_more}
use Rattle.world_turn.proofs.Later.{stand_more}
use Rattle.phase_runner.specs.Phases.{IsEnded, AreEnded, RanTo, Runs, HasJoined}
use Rattle.phase_runner.specs.Works.{Meaning, Telling}

max_more : (a b c : ℕ) → a ≤ b → a ≤ max b c
max_more a b c h = omega arith

pub or_false : (b : Bool) → b ≡ (b || false)
or_false true = refl
or_false false = refl

pub or_more : (a b c : Bool) → ((a || b) || c) ≡ (a || (b || c))
or_more true b c = refl
or_more false b c = refl

any_more : {E : Type 0} (met : E → Bool) (ends : List E) (end : E) → list_any met (ends ++ end ∷ []) ≡ (list_any met ends || met end)
any_more met [] end = sym (or_false (met end))
any_more met (e ∷ ends) end = ap (λ (b : Bool). met e || b) (any_more met ends end) ∙ sym (or_more (met e) (list_any met ends) (met end))

-- one more end, whose pass the root took in
any_joined : {E : Type 0} (met : E → Bool) (ends : List E) (end : E) (first root pass next : Bool) → next ≡ (root || pass) → pass ≡ met end → root ≡ (first || list_any met ends) → next ≡ (first || list_any met (ends ++ end ∷ []))
any_joined met ends end first root pass next both one before =
    both ∙ (ap₂ (λ (a b : Bool). a || b) before one ∙ (or_more first (list_any met ends) (met end) ∙ ap (λ (b : Bool). first || b) (sym (any_more met ends end))))

or_either : (a b : Bool) → IsTrue (a || b) → IsTrue a ⊎ IsTrue b
or_either true b is = inl refl
or_either false b is = inr is

pub or_left : (a b : Bool) → IsTrue a → IsTrue (a || b)
or_left a b is = ap (λ (x : Bool). x || b) is

pub or_right : (a b : Bool) → IsTrue b → IsTrue (a || b)
or_right true b is = refl
or_right false b is = is

any_wanted : {E : Type 0} (told : E → Bool) (ends : List E) (end : E) (root pass next : Bool) (P : Type 0) → next ≡ (root || pass) → (IsTrue pass → IsTrue (told end)) → (IsTrue root → P ⊎ IsTrue (list_any told ends)) → IsTrue next → P ⊎ IsTrue (list_any told (ends ++ end ∷ []))
any_wanted told ends end root pass next P both one before so =
    let more = any_more told ends end in
    elim (or_either root pass (subst IsTrue both so)) [ inl was ↦ elim (before was) [ inl first ↦ inl first | inr any ↦ inr (subst IsTrue (sym more) (or_left (list_any told ends) (told end) any)) ] | inr now ↦ inr (subst IsTrue (sym more) (or_right (list_any told ends) (told end) (one now))) ]

module _ {J E : Type 0} (may : Meaning J E) (tells : Telling E) where
  -- the first of the works is ended, and belongs to the first job
  pub record Opens (table : TableId) (v : View) (seat : ℕ) (rest : List J) (pass : Option Pass) (end : Option E) (works : List (Option Pass × Option E)) : Type 0 where
    pub job : J
    pub others : List J
    pub jobs : rest ≡ job ∷ others
    pub p : Pass
    pub e : E
    pub pass_is : pass ≡ Some p
    pub end_is : end ≡ Some e
    pub table_is : table_of p ≡ table
    pub ended : IsEnded may tells v seat job p e
    pub later : AreEnded may tells table v (seat + 1) others works

  pub opened : (table : TableId) (v : View) (seat : ℕ) (rest : List J) (pass : Option Pass) (end : Option E) (works : List (Option Pass × Option E))
      → AreEnded may tells table v seat rest ((pass, end) ∷ works) → Opens table v seat rest pass end works
  opened table v seat [] pass end works a = absurd a
  opened table v seat (j ∷ js) None end works a = absurd a
  opened table v seat (j ∷ js) (Some p) None works a = absurd a
  opened table v seat (j ∷ js) (Some p) (Some e) works a = record { job = j; others = js; jobs = refl; p = p; e = e; pass_is = refl; end_is = refl; table_is = a.0; ended = a.1; later = a.2 }

  seat_is : (above : ℕ) (front : List Entry) (seat seat' : ℕ) (job : J) (end : E) (k : ℕ × List Entry) → seat ≡ seat' → RanTo may above front seat job end k → RanTo may above front seat' job end k
  seat_is above front seat seat' job end k e r = subst (λ (n : ℕ). RanTo may above front n job end k) e r

  runs_snoc : (above : ℕ) (front : List Entry) (seat : ℕ) (jobs : List J) (ends : List E) (kept : List (ℕ × List Entry)) (job : J) (end : E) (k : ℕ × List Entry) → Runs may above front seat jobs ends kept → RanTo may above front (seat + length jobs) job end k
      → Runs may above front seat (jobs ++ job ∷ []) (ends ++ end ∷ []) (kept ++ k ∷ [])
  runs_snoc above front seat [] [] [] job end k r m = (seat_is above front (seat + 0) seat job end k (omega arith) m, tt)
  runs_snoc above front seat [] [] (x ∷ xs) job end k r m = absurd r
  runs_snoc above front seat [] (x ∷ xs) ks job end k r m = absurd r
  runs_snoc above front seat (j ∷ js) [] ks job end k r m = absurd r
  runs_snoc above front seat (j ∷ js) (e ∷ es) [] job end k r m = absurd r
  runs_snoc above front seat (j ∷ js) (e ∷ es) (x ∷ xs) job end k r m =
      (r.0, runs_snoc above front (seat + 1) js es xs job end k r.1 (seat_is above front (seat + length (j ∷ js)) ((seat + 1) + length js) job end k (omega arith) m))

  more_seen : (above : ℕ) (front front' : List Entry) (seat : ℕ) (job : J) (end : E) (k : ℕ × List Entry) → IsPrefix front front' → RanTo may above front seat job end k → RanTo may above front' seat job end k
  more_seen above front front' seat job end k f r = record {
    seated = r.seated;
    seen = r.seen;
    within = front_more r.seen front front' r.within f;
    run = r.run;
    stand = stand_more above above k.1 front front' (le_refl above) r.stand f;
  }

  runs_more : (above : ℕ) (front front' : List Entry) (seat : ℕ) (jobs : List J) (ends : List E) (kept : List (ℕ × List Entry)) → IsPrefix front front' → Runs may above front seat jobs ends kept → Runs may above front' seat jobs ends kept
  runs_more above front front' seat [] [] [] f r = tt
  runs_more above front front' seat [] [] (x ∷ xs) f r = absurd r
  runs_more above front front' seat [] (x ∷ xs) ks f r = absurd r
  runs_more above front front' seat (j ∷ js) [] ks f r = absurd r
  runs_more above front front' seat (j ∷ js) (e ∷ es) [] f r = absurd r
  runs_more above front front' seat (j ∷ js) (e ∷ es) (x ∷ xs) f r = (more_seen above front front' seat j e x f r.0, runs_more above front front' (seat + 1) js es xs f r.1)

  pub record HasTaken (table : TableId) (v : View) (seat : ℕ) (all : List J) (first root : Pass) (works : List (Option Pass × Option E)) (ends : List E) : Type 0 where
    pub done : List J
    pub rest : List J
    pub parts : all ≡ done ++ rest
    pub left : AreEnded may tells table v (seat + length done) rest works
    pub kept : List (ℕ × List Entry)
    pub joined : HasJoined first root kept
    pub runs : Runs may v.known (view_of root).front seat done ends kept
    pub refused : (view_of root).refused ≡ ((view_of first).refused || list_any tells.full ends)
    pub wanted : IsTrue (view_of root).wanted → IsTrue (view_of first).wanted ⊎ IsTrue (list_any tells.wanted ends)

  pub none_taken : (table : TableId) (v : View) (seat : ℕ) (all : List J) (root : Pass) (works : List (Option Pass × Option E)) → root.seat ≡ 0 → AreEnded may tells table v seat all works → HasTaken table v seat all root root works []
  none_taken table v seat all root works z a = record {
    done = [];
    rest = all;
    parts = refl;
    left = subst (λ (n : ℕ). AreEnded may tells table v n all works) (omega arith) a;
    kept = [];
    joined = record { table = refl; root = z; splits = refl; own = refl; front = front_whole (view_of root).front; known = omega arith; joined = sym (append-nil (view_of root).joined); tick = refl };
    runs = tt;
    refused = or_false (view_of root).refused;
    wanted = λ was. inl was;
  }

  pub one_taken : (table : TableId) (v : View) (seat : ℕ) (all : List J) (first root next pass : Pass) (end : E) (works : List (Option Pass × Option E)) (ends : List E)
      → HasTaken table v seat all first root ((Some pass, Some end) ∷ works) ends
      → table_of next ≡ table_of root → next.seat ≡ 0 → next.splits ≡ root.splits → IsJoined (view_of root) (view_of pass) (view_of next)
      → HasTaken table v seat all first next works (ends ++ end ∷ [])
  one_taken table v seat all first root next pass end works ends h of z n is = go h.rest h.parts h.left
    where
      go : (rest : List J) → all ≡ h.done ++ rest → AreEnded may tells table v (seat + length h.done) rest ((Some pass, Some end) ∷ works) → HasTaken table v seat all first next works (ends ++ end ∷ [])
      go [] parts a = absurd a
      go (job ∷ jobs) parts a =
          let j = h.joined in
          let k : ℕ × List Entry = ((view_of pass).seat, (view_of pass).own) in
          let sits : k.0 ≡ seat + length h.done = pass.rests.sits ∙ a.1.sits in
          let known = j.known in
          let more = max_more (view_of first).known (view_of root).known (view_of pass).known known in
          let longer : length (h.done ++ job ∷ []) ≡ length h.done + 1 = length-append h.done (job ∷ []) in
          record {
            done = h.done ++ job ∷ [];
            rest = jobs;
            parts = parts ∙ sym (append_assoc h.done (job ∷ []) jobs);
            left = subst (λ (m : ℕ). AreEnded may tells table v m jobs works) (omega arith) a.2;
            kept = h.kept ++ k ∷ [];
            joined = record {
              table = of ∙ j.table;
              root = z;
              splits = n ∙ j.splits;
              own = is.own ∙ j.own;
              front = front_more _ _ _ j.front is.first;
              known = subst (λ (m : ℕ). (view_of first).known ≤ m) (sym is.known) more;
              joined = is.joined ∙ (ap (λ l. l ++ k ∷ []) j.joined ∙ append_assoc (view_of first).joined h.kept (k ∷ []));
              tick = is.tick ∙ j.tick;
            };
            runs = runs_snoc v.known (view_of next).front seat h.done ends h.kept job end k (runs_more v.known (view_of root).front (view_of next).front seat h.done ends h.kept is.first h.runs)
                record {
                  seated = sits;
                  seen = (view_of pass).front;
                  within = is.second;
                  run = a.1.run;
                  stand = stand_more v.known v.known k.1 (view_of pass).front (view_of next).front (le_refl v.known) a.1.stand is.second;
                };
            refused = any_joined tells.full ends end (view_of first).refused (view_of root).refused (view_of pass).refused (view_of next).refused is.refused a.1.refused h.refused;
            wanted = any_wanted tells.wanted ends end (view_of root).wanted (view_of pass).wanted (view_of next).wanted (IsTrue (view_of first).wanted) is.wanted a.1.wanted h.wanted;
          }

  pub all_taken : (table : TableId) (v : View) (seat : ℕ) (all : List J) (first root : Pass) (works : List (Option Pass × Option E)) (ends : List E) → HasTaken table v seat all first root works ends → works ≡ []
      → (kept : List (ℕ × List Entry)) × HasJoined first root kept × Runs may v.known (view_of root).front seat all ends kept
  all_taken table v seat all first root works ends h none = go h.rest h.parts (subst (AreEnded may tells table v (seat + length h.done) h.rest) none h.left)
    where
      go : (rest : List J) → all ≡ h.done ++ rest → AreEnded may tells table v (seat + length h.done) rest [] → (kept : List (ℕ × List Entry)) × HasJoined first root kept × Runs may v.known (view_of root).front seat all ends kept
      go [] parts a = (h.kept, h.joined, subst (λ (l : List J). Runs may v.known (view_of root).front seat l ends h.kept) (sym (parts ∙ append-nil h.done)) h.runs)
      go (job ∷ jobs) parts a = absurd a
