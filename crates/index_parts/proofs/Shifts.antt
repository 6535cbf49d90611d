-- Reading in a part of an index, and the same in the index: what is read is the same, and places are so much further.
use Rattle.std.proofs.Common.{◌≡◌, ℕ, zero, suc, ◌+◌, ◌≤◌, Bool, true, false, List, [], ◌∷◌, ◌++◌, length, drop, Result, Ok, Err, refl, sym, ap, subst, ◌∙◌}
use Rattle.std.proofs.lemmas.List.{drop_at, drop-drop}
use Rattle.base.specs.Reading.{◌>>=◌, ◌>>◌, unless}
use Rattle.base.specs.Members.{members_at}
use Rattle.wire_bytes.specs.Position.{Position, left}
use Rattle.index_parts.specs.declared.refusal.PartRefusal.{PartRefusal}
use Rattle.index_parts.specs.declared.refusal.PartRefusal.TheVariants.{Short, BadSum, Unordered, Overlong, NotText, NoMemory}
use Rattle.index_parts.specs.Shifting.{shifted_refusal}

-- a refusal whose place is at most so great
abbrev pub IsWithin : ℕ → PartRefusal → Type 0
IsWithin most (Short place) = place ≤ most
IsWithin most (BadSum kept computed) = Unit {0}
IsWithin most (Unordered place) = place ≤ most
IsWithin most (Overlong place) = place ≤ most
IsWithin most (NotText place) = place ≤ most
IsWithin most NoMemory = Unit {0}

-- in front of the part stand these bytes, and no place in it is greater than most
module _ (front : List ℕ) (most : ℕ) where
  -- a position in the part, and the same in the index
  pub record IsMoved (p q : Position) : Type 0 where
    pub bytes_are : q.bytes ≡ front ++ p.bytes
    pub place_is : q.place ≡ length front + p.place
    pub few : length p.bytes ≤ most
    pub within : p.place ≤ most

  pub left_same : (p q : Position) → IsMoved p q → left q ≡ left p
  left_same p q m =
      ap (λ (n : ℕ). drop n q.bytes) m.place_is ∙ ap (drop (length front + p.place)) m.bytes_are ∙ sym (drop-drop p.place (length front) (front ++ p.bytes)) ∙ ap (drop p.place) (drop_at front p.bytes (length front) refl)

  -- results that are the same, by what the same means of their values
  abbrev pub SameBy : {X Y : Type 0} → (X → Y → Type 0) → Result X PartRefusal → Result Y PartRefusal → Type 0
  SameBy R (Ok x) (Ok y) = R x y
  SameBy R (Ok x) (Err e) = ⊥
  SameBy R (Err d) (Ok y) = ⊥
  SameBy R (Err d) (Err e) = (e ≡ shifted_refusal (length front) d) × IsWithin most d

  pub record IsSame {X Y : Type 0} (R : X → Y → Type 0) (r : Result X PartRefusal) (s : Result Y PartRefusal) : Type 0 where
    pub same : SameBy R r s

  -- a value, and the state behind it
  pub record IsStep {V S : Type 0} (Rel : S → S → Type 0) (x y : V × S) : Type 0 where
    pub value : x.0 ≡ y.0
    pub state : Rel x.1 y.1

  pub same_value : {X Y : Type 0} (R : X → Y → Type 0) (x : X) (y : Y) → R x y → IsSame R (Ok x) (Ok y)
  same_value R x y h = record { same = h }

  pub same_refusal : {X Y : Type 0} (R : X → Y → Type 0) (d e : PartRefusal) → e ≡ shifted_refusal (length front) d → IsWithin most d → IsSame R (Err d) (Err e)
  same_refusal R d e h within = record { same = (h, within) }

  bind_by : {X Y A B : Type 0} (R : X → Y → Type 0) (S : A → B → Type 0) (r : Result X PartRefusal) (s : Result Y PartRefusal) (f : X → Result A PartRefusal) (g : Y → Result B PartRefusal) → SameBy R r s → ((x : X) (y : Y) → r ≡ Ok x → R x y → IsSame S (f x) (g y)) → SameBy S (r >>= f) (s >>= g)
  bind_by R S (Ok x) (Ok y) f g h k = (k x y refl h).same
  bind_by R S (Ok x) (Err e) f g h k = absurd h
  bind_by R S (Err d) (Ok y) f g h k = absurd h
  bind_by R S (Err d) (Err e) f g h k = h

  pub same_bind : {X Y A B : Type 0} (R : X → Y → Type 0) (S : A → B → Type 0) (r : Result X PartRefusal) (s : Result Y PartRefusal) (f : X → Result A PartRefusal) (g : Y → Result B PartRefusal) → IsSame R r s → ((x : X) (y : Y) → r ≡ Ok x → R x y → IsSame S (f x) (g y)) → IsSame S (r >>= f) (s >>= g)
  same_bind R S r s f g h k = record { same = bind_by R S r s f g h.same k }

  -- the same where the value of the first step is one value
  pub same_step : {V T A B : Type 0} (Rel : T → T → Type 0) (S : A → B → Type 0) (r s : Result (V × T) PartRefusal) (f : V × T → Result A PartRefusal) (g : V × T → Result B PartRefusal) → IsSame (IsStep Rel) r s → ((v : V) (a b : T) → r ≡ Ok (v, a) → Rel a b → IsSame S (f (v, a)) (g (v, b))) → IsSame S (r >>= f) (s >>= g)
  same_step {V} {T} Rel S r s f g h k =
      same_bind (IsStep Rel) S r s f g h (λ x y e step. subst (λ (v : V). IsSame S (f x) (g (v, y.1))) step.value (k x.0 x.1 y.1 e step.state))

  unless_by : {A B : Type 0} (S : A → B → Type 0) (b : Bool) (d e : PartRefusal) (r : Result A PartRefusal) (s : Result B PartRefusal) → e ≡ shifted_refusal (length front) d → IsWithin most d → (b ≡ true → IsSame S r s) → SameBy S (unless b d >> r) (unless b e >> s)
  unless_by S true d e r s h within k = (k refl).same
  unless_by S false d e r s h within k = (h, within)

  pub same_unless : {A B : Type 0} (S : A → B → Type 0) (b : Bool) (d e : PartRefusal) (r : Result A PartRefusal) (s : Result B PartRefusal) → e ≡ shifted_refusal (length front) d → IsWithin most d → (b ≡ true → IsSame S r s) → IsSame S (unless b d >> r) (unless b e >> s)
  same_unless S b d e r s h within k = record { same = unless_by S b d e r s h within k }

  -- so many members
  pub same_members : {A T : Type 0} (Rel : T → T → Type 0) (read : T → Result (A × T) PartRefusal) → ((a b : T) → Rel a b → IsSame (IsStep Rel) (read a) (read b)) → (n : ℕ) (a b : T) → Rel a b → IsSame (IsStep Rel) (members_at read n a) (members_at read n b)
  unfolding members_at
  same_members Rel read one zero a b m = same_value (IsStep Rel) ([], a) ([], b) (record { value = refl; state = m })
  same_members {A} {T} Rel read one (suc n) a b m =
      same_step Rel (IsStep Rel) (read a) (read b) _ _ (one a b m) (λ v s t e h.
      same_step Rel (IsStep Rel) (members_at read n s) (members_at read n t) _ _ (same_members Rel read one n s t h) (λ vs s' t' e' h'.
      same_value (IsStep Rel) (v ∷ vs, s') (v ∷ vs, t') (record { value = refl; state = h' })))
