-- Chunks each of which meets one before it are connected.
use Rattle.std.proofs.Common.{◌≡◌, ◌≢◌, Bool, true, false, List, [], ◌∷◌, refl, sym, ap, ◌∙◌, subst, inl, inr, ◌⊎◌}
use Rattle.std.specs.Prelude.{Any, Contains}
use Rattle.std.proofs.lemmas.Bool.{true≢false, cases_Bool}
use Rattle.base.proofs.Membership.{no_member, contains_first, contains_later, member_cases}
use Rattle.block_writing.specs.Put.{PutChunk}
use Rattle.block_merging.specs.Runs.{Meet, AreConnected}

-- ---- some member

pub any_of : {A : Type 0} (P : A → Type 0) (xs : List A) (x : A) → Contains xs x → P x → Any P xs
any_of P xs x (k, below, at) holds = (k, x, below, at, holds)

pub member_of : {A : Type 0} (P : A → Type 0) (xs : List A) → Any P xs → (x : A) × Contains xs x × P x
member_of P xs (k, x, below, at, holds) = (x, (k, below, at), holds)

-- ---- each of the chunks behind meets one of those before it

abbrev pub Chained : List PutChunk → List PutChunk → Type 0
Chained front [] = Unit {0}
Chained front (c ∷ cs) = Any (Meet c) front × Chained (c ∷ front) cs

-- the two sides of chunks that were passed, one of which has only these
pub record Crossed (side : PutChunk → Bool) (chunks : List PutChunk) : Type 0 where
  pub one : PutChunk
  pub other : PutChunk
  pub one_in : Contains chunks one
  pub other_in : Contains chunks other
  pub one_side : side one ≡ true
  pub other_side : side other ≡ false
  pub meet : Meet one other

swap : (one other : PutChunk) → Meet one other → Meet other one
swap one other m = (m.1, m.0)

-- a chunk of another side than all before it meets one of them
crosses : (side : PutChunk → Bool) (b : Bool) (front : List PutChunk) (c : PutChunk) (all : List PutChunk)
    → ((x : PutChunk) → Contains front x → side x ≡ b) → ((x : PutChunk) → Contains front x → Contains all x) → Contains all c → (side c ≡ b → ⊥) → Any (Meet c) front → Crossed side all
crosses side true front c all same among here apart meets =
    let m = member_of (Meet c) front meets in
    record { one = m.0; other = c; one_in = among m.0 m.1; other_in = here; one_side = same m.0 m.1; other_side = elim (cases_Bool (side c)) [ inl t ↦ absurd (apart t) | inr f ↦ f ]; meet = swap c m.0 m.2 }
crosses side false front c all same among here apart meets =
    let m = member_of (Meet c) front meets in
    record { one = c; other = m.0; one_in = here; other_in = among m.0 m.1; one_side = elim (cases_Bool (side c)) [ inl t ↦ t | inr f ↦ absurd (apart f) ]; other_side = same m.0 m.1; meet = m.2 }

same_or_not : (a b : Bool) → (a ≡ b) ⊎ (a ≡ b → ⊥)
same_or_not true true = inl refl
same_or_not true false = inr true≢false
same_or_not false true = inr (λ e. true≢false (sym e))
same_or_not false false = inl refl

-- where a chunk behind is of another side
cross : (side : PutChunk → Bool) (b : Bool) (front cs : List PutChunk) (all : List PutChunk) (x : PutChunk)
    → ((x : PutChunk) → Contains front x → side x ≡ b) → ((x : PutChunk) → Contains front x → Contains all x) → ((x : PutChunk) → Contains cs x → Contains all x)
    → Chained front cs → Contains cs x → (side x ≡ b → ⊥) → Crossed side all
cross side b front [] all x same among behind chained here apart = absurd (no_member x here)
cross side b front (c ∷ cs) all x same among behind chained here apart = elim (same_or_not (side c) b) [
  | inr other ↦ crosses side b front c all same among (behind c (contains_first c cs)) other chained.0
  | inl equal ↦ elim (member_cases c x cs here) [
    | inl is ↦ absurd (apart (ap side (sym is) ∙ equal))
    | inr later ↦ cross side b (c ∷ front) cs all x
        (λ y m. elim (member_cases c y front m) [ inl is ↦ ap side (sym is) ∙ equal | inr old ↦ same y old ])
        (λ y m. elim (member_cases c y front m) [ inl is ↦ subst (Contains all) is (behind c (contains_first c cs)) | inr old ↦ among y old ])
        (λ y m. behind y (contains_later c y cs m)) chained.1 later apart
  ]
]

first_alone : (side : PutChunk → Bool) (c x : PutChunk) → Contains (c ∷ []) x → side x ≡ side c
first_alone side c x m = elim (member_cases c x [] m) [ inl is ↦ ap side (sym is) | inr none ↦ absurd (no_member x none) ]

first_among : (c x : PutChunk) (cs : List PutChunk) → Contains (c ∷ []) x → Contains (c ∷ cs) x
first_among c x cs m = elim (member_cases c x [] m) [ inl is ↦ subst (Contains (c ∷ cs)) is (contains_first c cs) | inr none ↦ absurd (no_member x none) ]

pub chained_crossed : (side : PutChunk → Bool) (c : PutChunk) (cs : List PutChunk) → Chained (c ∷ []) cs
    → Any (λ one. side one ≡ true) (c ∷ cs) → Any (λ other. side other ≡ false) (c ∷ cs) → Crossed side (c ∷ cs)
chained_crossed side c cs chained pass fail =
    let y = member_of (λ one. side one ≡ true) (c ∷ cs) pass in
    let n = member_of (λ one. side one ≡ false) (c ∷ cs) fail in
    let begin = λ (x : PutChunk) (m : Contains (c ∷ []) x). first_alone side c x m in
    let among = λ (x : PutChunk) (m : Contains (c ∷ []) x). first_among c x cs m in
    let behind = λ (x : PutChunk) (m : Contains cs x). contains_later c x cs m in
    elim (cases_Bool (side c)) [
      | inl t ↦ elim (member_cases c n.0 cs n.1) [
        | inl is ↦ absurd (true≢false (sym t ∙ ap side is ∙ n.2))
        | inr later ↦ cross side (side c) (c ∷ []) cs (c ∷ cs) n.0 begin among behind chained later (λ e. true≢false (sym t ∙ sym e ∙ n.2))
      ]
      | inr f ↦ elim (member_cases c y.0 cs y.1) [
        | inl is ↦ absurd (true≢false (sym y.2 ∙ ap side (sym is) ∙ f))
        | inr later ↦ cross side (side c) (c ∷ []) cs (c ∷ cs) y.0 begin among behind chained later (λ e. true≢false (sym y.2 ∙ e ∙ f))
      ]
    ]

-- chunks with the same members
pub connected_from : (xs ys : List PutChunk) → ((x : PutChunk) → Contains xs x → Contains ys x) → ((x : PutChunk) → Contains ys x → Contains xs x)
    → ((side : PutChunk → Bool) → Any (λ one. side one ≡ true) xs → Any (λ other. side other ≡ false) xs → Crossed side xs) → ys ≢ [] → AreConnected ys
connected_from xs ys into back crossed some = record {
  some = some;
  joined = λ side pass fail.
      let y = member_of (λ one. side one ≡ true) ys pass in
      let n = member_of (λ one. side one ≡ false) ys fail in
      let c = crossed side (any_of (λ one. side one ≡ true) xs y.0 (back y.0 y.1) y.2) (any_of (λ one. side one ≡ false) xs n.0 (back n.0 n.1) n.2) in
      any_of (λ one. (side one ≡ true) × Any (λ other. (side other ≡ false) × Meet one other) ys) ys c.one (into c.one c.one_in)
      (c.one_side, any_of (λ other. (side other ≡ false) × Meet c.one other) ys c.other (into c.other c.other_in) (c.other_side, c.meet));
}
