-- A loop over a count keeps `members_at read i start ≡ Ok (what was read so far, what is left)`. It holds at 0 by refl,
-- `members_more` is its step and `members_stop` its early end; after the last member it is what the loop is to give.
use Rattle.std.proofs.Common.{◌≡◌, ℕ, zero, suc, ◌+◌, ◌<◌, List, [], ◌∷◌, ◌++◌, length, Result, Ok, Err, ◌⊎◌, inl, inr, refl, sym, ap, ◌∙◌, arith, add-one}
use Rattle.std.specs.Prelude.{IsErrAnd}
use Rattle.base.specs.Reading.{◌>>=◌, Gives}
use Rattle.base.specs.Members.{members_at}
use Rattle.base.proofs.Binds.{bind_ok, ok_is}

module _ {A S E : Type 0} (read : S → Result (A × S) E) where
  -- what the members but the first give is put behind the first
  abbrev others_of : ℕ → A × S → Result (List A × S) E
  others_of n first = members_at read n first.1 >>= λ others. Ok (first.0 ∷ others.0, others.1)

  -- what is read of n + 1 members begins with a member
  pub members_first : (n : ℕ) (s t u : S) (x : A) (xs : List A) → read s ≡ Ok (x, t) → members_at read n t ≡ Ok (xs, u) → members_at read (suc n) s ≡ Ok (x ∷ xs, u)
  unfolding members_at
  members_first n s t u x _ e f = rw (e, f) refl

  -- and is a member and n others
  pub members_parts : (n : ℕ) (s u : S) (all : List A) → members_at read (suc n) s ≡ Ok (all, u) → (x : A) × (t : S) × (xs : List A) × (read s ≡ Ok (x, t)) × (members_at read n t ≡ Ok (xs, u)) × (x ∷ xs ≡ all)
  unfolding members_at
  members_parts n s u _ e =
      let first = bind_ok _ _ _ e in
      let others = bind_ok _ _ _ first.2 in
      let whole = ok_is {E = E} _ _ others.2 in
      (first.0.0, first.0.1, others.0.0, first.1, others.1 ∙ ap (λ v. Ok (others.0.0, v)) (ap (λ p. p.1) whole), ap (λ p. p.0) whole)

  -- one member more at the end
  members_push : (n : ℕ) (s t u : S) (front : List A) (x : A) → members_at read n s ≡ Ok (front, t) → read t ≡ Ok (x, u) → members_at read (suc n) s ≡ Ok (front ++ x ∷ [], u)
  unfolding members_at
  members_push zero s t u _ x e f =
      let p = ok_is {E = E} _ _ e in
      let nothing = ap (λ p. p.0) p in
      let here = ap (λ p. p.1) p in
      rw (here, f, ← nothing) refl
  members_push (suc n) s t u _ x e f =
      let p = members_parts n s t _ e in
      members_first (suc n) s _ u _ _ p.3 (members_push n _ t u _ x p.4 f) ∙ ap (λ xs. Ok (xs ++ x ∷ [], u)) p.5

  pub members_more : (n : ℕ) (s t u : S) (front : List A) (x : A) → members_at read n s ≡ Ok (front, t) → read t ≡ Ok (x, u) → members_at read (n + 1) s ≡ Ok (front ++ x ∷ [], u)
  members_more n s t u front x e f = rw add-one (members_push n s t u front x e f)

  -- the first member that is refused decides
  pub members_stop : (i n : ℕ) (s t : S) (front : List A) (e : E) → i < n → members_at read i s ≡ Ok (front, t) → read t ≡ Err e → members_at read n s ≡ Err e
  unfolding members_at
  members_stop i zero s t _ e lt so_far refused = absurd (omega arith)
  members_stop zero (suc n) s t _ e lt so_far refused =
      let here = ap (λ p. p.1) (ok_is {E = E} _ _ so_far) in
      rw (here, refused) refl
  members_stop (suc i) (suc n) s t front e lt so_far refused =
      let p = members_parts i s t _ so_far in
      rw (p.3, members_stop i n p.1 t p.2 e (omega arith) p.4 refused) refl

  stopped : (no_memory : E) (i n : ℕ) (s t : S) (front : List A) (e : E) → i < n → members_at read i s ≡ Ok (front, t) → (e ≡ no_memory) ⊎ (read t ≡ Err e) → (e ≡ no_memory) ⊎ (members_at read n s ≡ Err e)
  stopped _ i n s t _ e lt so_far (inl out) = inl out
  stopped _ i n s t _ e lt so_far (inr refused) = inr (members_stop i n s t _ e lt so_far refused)

  pub length-members : (n : ℕ) (s t : S) (xs : List A) → members_at read n s ≡ Ok (xs, t) → length xs ≡ n
  unfolding members_at
  length-members zero s t _ e = sym (ap (λ p. length p.0) (ok_is {E = E} _ _ e))
  length-members (suc n) s t _ e =
      let p = members_parts n s t _ e in
      sym (ap length p.5) ∙ ap suc (length-members n _ t _ p.4)

  -- for a loop that keeps the invariant above: its start, its step, and its exit by `?`
  pub loop_start : (s : S) → members_at read 0 s ≡ Ok ([], s)
  unfolding members_at
  loop_start s = refl

  pub loop_step : (n k : ℕ) (s t u : S) (front all : List A) (x : A) → k ≡ n + 1 → all ≡ front ++ x ∷ [] → members_at read n s ≡ Ok (front, t) → read t ≡ Ok (x, u) → members_at read k s ≡ Ok (all, u)
  loop_step n k s t u _ _ x e f so_far one = rw (e, f) (members_more n s t u _ x so_far one)

  pub loop_exit : {X : Type 0} (no_memory : E) (view : X → List A × S) (result : Result X E) (i n : ℕ) (s t : S) (front : List A) (e : E) → members_at read i s ≡ Ok (front, t) → IsErrAnd result (λ d. d ≡ e) → (e ≡ no_memory) ⊎ (read t ≡ Err e) → i < n → Gives no_memory view result (members_at read n s)
  loop_exit _ _ (Ok y) i n s t _ e so_far is cause lt = absurd is
  loop_exit _ _ (Err d) i n s t _ e so_far is cause lt = rw is (stopped _ i n s t _ e lt so_far cause)

pub ruleset counting = (loop_start, loop_step, loop_exit)
