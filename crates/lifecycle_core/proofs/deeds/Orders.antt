-- The order of a journal's entries: by their places, their numbers and their moments.
use Rattle.base.proofs.Membership.{into_filter, member_cases, member_passes, no_member, of_filter}
use Rattle.std.proofs.Common.{◌≡◌, ◌⊎◌, inl, inr, ℕ, ◌<◌, ◌≤◌, ◌==◌, true, List, [], ◌∷◌, ◌++◌, Contains, refl, sym, ◌∙◌, ap, subst, arith}
use Rattle.std.proofs.lemmas.Bool.{eq-eqb}
use Rattle.std.proofs.lemmas.Bool.Decides.{nat_tests}
use Rattle.std.proofs.lemmas.List.Elements.{All-contains, Contains-append_cases}
use Rattle.world_core.specs.declared.entry.Entry.{Entry}
use Rattle.world_core.specs.Journals.{of_seat}
use Rattle.lifecycle_core.proofs.journals.Positions.{stands_in, unfilter}
use Rattle.lifecycle_core.proofs.journals.Told.{Rises}

-- ---- numbers and moments

-- one entry is earlier than another
abbrev pub IsEarlier : Entry → Entry → Type 0
IsEarlier x e = (x.seq < e.seq) × (x.moment.ms ≤ e.moment.ms)

pub front_is_earlier : (front back : List Entry) (e x : Entry) → Rises (front ++ e ∷ back) → Contains front x → IsEarlier x e
front_is_earlier [] back e x rises among = absurd (no_member x among)
front_is_earlier (y ∷ front) back e x rises among = elim (member_cases y x front among) [
  | inl same ↦ subst (λ (z : Entry). IsEarlier z e) same (All-contains (IsEarlier y) (front ++ e ∷ back) e rises.0 (stands_in front back e))
  | inr later ↦ front_is_earlier front back e x rises.1 later
]

pub back_is_later : (front back : List Entry) (e x : Entry) → Rises (front ++ e ∷ back) → Contains back x → IsEarlier e x
back_is_later [] back e x rises among = All-contains (IsEarlier e) back x rises.0 among
back_is_later (y ∷ front) back e x rises among = back_is_later front back e x rises.1 among

pub lower_is_in_front : (front back : List Entry) (e x : Entry) → Rises (front ++ e ∷ back) → Contains (front ++ e ∷ back) x → x.seq < e.seq → Contains front x
lower_is_in_front front back e x rises among lower = elim (Contains-append_cases front (e ∷ back) x among) [
  | inl first ↦ first
  | inr rest ↦ elim (member_cases e x back rest) [
    | inl same ↦ absurd (omega (arith, lower, ap (λ (z : Entry). z.seq) same))
    | inr later ↦ let higher = back_is_later front back e x rises later in absurd (omega (arith, lower, higher.0))
  ]
]

pub higher_is_in_back : (front back : List Entry) (e x : Entry) → Rises (front ++ e ∷ back) → Contains (front ++ e ∷ back) x → e.seq < x.seq → Contains back x
higher_is_in_back front back e x rises among higher = elim (Contains-append_cases front (e ∷ back) x among) [
  | inl first ↦ let lower = front_is_earlier front back e x rises first in absurd (omega (arith, higher, lower.0))
  | inr rest ↦ elim (member_cases e x back rest) [
    | inl same ↦ absurd (omega (arith, higher, ap (λ (z : Entry). z.seq) same))
    | inr later ↦ later
  ]
]

-- an entry is told by its number
pub one_entry : (entries : List Entry) → Rises entries → (x y : Entry) → Contains entries x → Contains entries y → x.seq ≡ y.seq → x ≡ y
one_entry [] rises x y one other same = absurd (no_member x one)
one_entry (z ∷ entries) rises x y one other same = elim (member_cases z x entries one) [
  | inl is ↦ elim (member_cases z y entries other) [
    | inl so ↦ sym is ∙ so
    | inr later ↦ let higher = All-contains (IsEarlier z) entries y rises.0 later in absurd (omega (arith, higher.0, same, ap (λ (w : Entry). w.seq) is))
  ]
  | inr first ↦ elim (member_cases z y entries other) [
    | inl so ↦ let higher = All-contains (IsEarlier z) entries x rises.0 first in absurd (omega (arith, higher.0, same, ap (λ (w : Entry). w.seq) so))
    | inr later ↦ one_entry entries rises.1 x y first later same
  ]
]

-- and so stands at one place
pub one_place : (front back also behind : List Entry) (e : Entry) → Rises (front ++ e ∷ back) → front ++ e ∷ back ≡ also ++ e ∷ behind → front ≡ also
one_place [] back [] behind e rises is = refl
one_place [] back (x ∷ also) behind e rises is =
    let rest : back ≡ also ++ e ∷ behind = cc (is) in
    let higher = All-contains (IsEarlier e) back e rises.0 (subst (λ es. Contains es e) (sym rest) (stands_in also behind e)) in absurd (omega (arith, higher.0))
one_place (x ∷ front) back [] behind e rises is =
    let same : x ≡ e = cc (is) in
    let higher = All-contains (IsEarlier x) (front ++ e ∷ back) e rises.0 (stands_in front back e) in absurd (omega (arith, higher.0, ap (λ (z : Entry). z.seq) same))
one_place (x ∷ front) back (y ∷ also) behind e rises is =
    let same : x ≡ y = cc (is) in
    let rest = one_place front back also behind e rises.1 (cc (is)) in cc (same, rest)

-- of two entries one comes first, or they are one
pub ordered : (entries : List Entry) → Rises entries → (x y : Entry) → Contains entries x → Contains entries y → (IsEarlier x y ⊎ IsEarlier y x) ⊎ (x ≡ y)
ordered [] rises x y one other = absurd (no_member x one)
ordered (z ∷ entries) rises x y one other = elim (member_cases z x entries one) [
  | inl is ↦ elim (member_cases z y entries other) [
    | inl so ↦ inr (sym is ∙ so)
    | inr later ↦ inl (inl (subst (λ (w : Entry). IsEarlier w y) is (All-contains (IsEarlier z) entries y rises.0 later)))
  ]
  | inr first ↦ elim (member_cases z y entries other) [
    | inl so ↦ inl (inr (subst (λ (w : Entry). IsEarlier w x) so (All-contains (IsEarlier z) entries x rises.0 first)))
    | inr later ↦ ordered entries rises.1 x y first later
  ]
]

-- ---- the entries of a seat

pub in_seat : (seat : ℕ) (entries : List Entry) (e : Entry) → Contains (of_seat seat entries) e → Contains entries e × (e.seat ≡ seat)
in_seat seat entries e among =
    let test : (e.seat == seat) ≡ true = member_passes (λ (x : Entry). x.seat == seat) entries e among in
    (of_filter (λ (x : Entry). x.seat == seat) entries e among, grind (arith, nat_tests, test))

pub to_seat : (seat : ℕ) (entries : List Entry) (e : Entry) → Contains entries e → e.seat ≡ seat → Contains (of_seat seat entries) e
to_seat seat entries e among is = into_filter (λ (x : Entry). x.seat == seat) entries e among (eq-eqb e.seat seat is)

-- where an entry stands among those of its seat, it stands in the whole
pub record StandsWhole (seat : ℕ) (entries front : List Entry) (e : Entry) : Type 0 where
  pub before : List Entry
  pub after : List Entry
  pub parts : entries ≡ before ++ e ∷ after
  pub own : of_seat seat before ≡ front

pub stands_whole : (seat : ℕ) (entries front back : List Entry) (e : Entry) → of_seat seat entries ≡ front ++ e ∷ back → StandsWhole seat entries front e
stands_whole seat entries front back e is =
    let at = unfilter (λ (x : Entry). x.seat == seat) entries front back e is in
    record { before = at.0; after = at.1; parts = at.2; own = at.3 }
