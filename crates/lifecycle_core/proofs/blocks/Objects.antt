-- Under which keys the objects of a block stand, and with which bytes.
use Rattle.std.proofs.Common.{◌≡◌, ℕ, zero, suc, ◌+◌, List, [], ◌∷◌, ◌++◌, Contains, Some, refl, sym, ◌∙◌, ap, subst, append_assoc, inl, inr, arith}
use Rattle.std.specs.Prelude.{slice_get}
use Rattle.std.proofs.lemmas.List.Elements.{Contains-append_cases, Contains-append_left, Contains-append_right}
use Rattle.base.proofs.Membership.{contains_first, contains_later, member_cases, no_member, only_member}
use Rattle.block_keys.specs.Keys.{key_ulid}
use Rattle.block_keys.specs.declared.key.Key.{Key}
use Rattle.block_keys.specs.declared.key.Key.TheVariants as key
use Rattle.block_keys.specs.declared.object.Object.{Object}
use Rattle.block_meta.specs.Built.{objects_of, segment_objects}

abbrev pub object : Key → List ℕ → Object
object k bytes = record { key = k; bytes = bytes }

-- by the key: of a block of these segments and this index, whose meta has this text
abbrev pub IsObjectOf : ℕ → List (List ℕ) → List ℕ → List ℕ → Key → List ℕ → Type 0
IsObjectOf ulid segments index meta (key.Meta own) bytes = (own ≡ ulid) × (bytes ≡ meta)
IsObjectOf ulid segments index meta (key.Index own) bytes = (own ≡ ulid) × (bytes ≡ index)
IsObjectOf ulid segments index meta (key.Segment own number) bytes = (own ≡ ulid) × (place : ℕ) × (number ≡ place + 1) × (slice_get segments place ≡ Some bytes)
IsObjectOf ulid segments index meta (key.Mark own) bytes = ⊥

-- ---- segments

abbrev IsSegmentOf : ℕ → ℕ → List (List ℕ) → Object → Type 0
IsSegmentOf ulid number segments o = (place : ℕ) × (o.key ≡ key.Segment ulid (number + place)) × (slice_get segments place ≡ Some o.bytes)

segment_is : (ulid number : ℕ) (segments : List (List ℕ)) (o : Object) → Contains (segment_objects ulid number segments) o → IsSegmentOf ulid number segments o
unfolding segment_objects
segment_is ulid number [] o has = absurd (no_member o has)
segment_is ulid number (bytes ∷ segments) o has = elim (member_cases (object (key.Segment ulid number) bytes) o (segment_objects ulid (number + 1) segments) has) [
  | inl same ↦
      let here : number ≡ number + 0 = omega arith in
      (0, sym (ap (λ (x : Object). x.key) same) ∙ ap (key.Segment ulid) here, ap (λ (x : Object). Some x.bytes) same)
  | inr later ↦
      let rest = segment_is ulid (number + 1) segments o later in
      let there : number + 1 + rest.0 ≡ number + suc rest.0 = omega arith in
      (suc rest.0, rest.1 ∙ ap (key.Segment ulid) there, rest.2)
]

segment_there : (ulid number : ℕ) (segments : List (List ℕ)) (place : ℕ) (bytes : List ℕ) → slice_get segments place ≡ Some bytes → Contains (segment_objects ulid number segments) (object (key.Segment ulid (number + place)) bytes)
unfolding segment_objects
segment_there ulid number [] place bytes is = absurd (cc (is))
segment_there ulid number (first ∷ segments) zero bytes is =
    let same : first ≡ bytes = cc (is) in
    let here : number ≡ number + 0 = omega arith in
    subst (λ n. Contains (object (key.Segment ulid number) first ∷ segment_objects ulid (number + 1) segments) (object (key.Segment ulid n) bytes)) here
    (subst (λ b. Contains (object (key.Segment ulid number) first ∷ segment_objects ulid (number + 1) segments) (object (key.Segment ulid number) b)) same
    (contains_first (object (key.Segment ulid number) first) (segment_objects ulid (number + 1) segments)))
segment_there ulid number (first ∷ segments) (suc place) bytes is =
    let there : number + 1 + place ≡ number + suc place = omega arith in
    contains_later (object (key.Segment ulid number) first) (object (key.Segment ulid (number + suc place)) bytes) (segment_objects ulid (number + 1) segments)
    (subst (λ n. Contains (segment_objects ulid (number + 1) segments) (object (key.Segment ulid n) bytes)) there (segment_there ulid (number + 1) segments place bytes is))

-- ---- all objects

module _ (ulid : ℕ) (segments : List (List ℕ)) (index meta : List ℕ) where
  abbrev Is : Key → List ℕ → Type 0
  Is = IsObjectOf ulid segments index meta

  abbrev IsOne : Object → Type 0
  IsOne o = Is o.key o.bytes

  abbrev last_two : List Object
  last_two = object (key.Index ulid) index ∷ object (key.Meta ulid) meta ∷ []

  of_segment : (o : Object) → IsSegmentOf ulid 1 segments o → IsOne o
  of_segment o (place, is, at) =
      let number : 1 + place ≡ place + 1 = omega arith in
      subst (λ k. Is k o.bytes) (sym is) (refl, place, number, at)

  of_last : (o : Object) → Contains last_two o → IsOne o
  of_last o has = elim (member_cases (object (key.Index ulid) index) o (object (key.Meta ulid) meta ∷ []) has) [
    | inl same ↦ subst IsOne same (refl, refl)
    | inr later ↦ elim (member_cases (object (key.Meta ulid) meta) o [] later) [
      | inl same ↦ subst IsOne same (refl, refl)
      | inr none ↦ absurd (no_member o none)
    ]
  ]

  pub object_is : (k : Key) (bytes : List ℕ) → Contains (objects_of ulid segments index meta) (object k bytes) → Is k bytes
  unfolding objects_of
  object_is k bytes has = elim (Contains-append_cases (segment_objects ulid 1 segments) last_two (object k bytes) has) [
    | inl first ↦ of_segment (object k bytes) (segment_is ulid 1 segments (object k bytes) first)
    | inr later ↦ of_last (object k bytes) later
  ]

  pub index_among : Contains (objects_of ulid segments index meta) (object (key.Index ulid) index)
  unfolding objects_of
  index_among = Contains-append_right (segment_objects ulid 1 segments) last_two (object (key.Index ulid) index) (contains_first (object (key.Index ulid) index) (object (key.Meta ulid) meta ∷ []))

  pub segment_among : (place : ℕ) (bytes : List ℕ) → slice_get segments place ≡ Some bytes → Contains (objects_of ulid segments index meta) (object (key.Segment ulid (place + 1)) bytes)
  unfolding objects_of
  segment_among place bytes is =
      let number : 1 + place ≡ place + 1 = omega arith in
      Contains-append_left (segment_objects ulid 1 segments) last_two (object (key.Segment ulid (place + 1)) bytes)
      (subst (λ n. Contains (segment_objects ulid 1 segments) (object (key.Segment ulid n) bytes)) number (segment_there ulid 1 segments place bytes is))

  -- one key, one object
  pub object_once : (k : Key) (one other : List ℕ) → Is k one → Is k other → one ≡ other
  object_once (key.Meta own) one other is so = is.1 ∙ sym so.1
  object_once (key.Index own) one other is so = is.1 ∙ sym so.1
  object_once (key.Segment own number) one other (same, place, at, is) (also, second, there, so) =
      let places : place ≡ second = omega (arith, at, there) in
      let both : slice_get segments second ≡ Some one = ap (slice_get segments) (sym places) ∙ is in
      cc (both, so)
  object_once (key.Mark own) one other is so = absurd is

  pub object_ulid : (k : Key) (bytes : List ℕ) → Is k bytes → key_ulid k ≡ ulid
  object_ulid (key.Meta own) bytes is = is.0
  object_ulid (key.Index own) bytes is = is.0
  object_ulid (key.Segment own number) bytes is = is.0
  object_ulid (key.Mark own) bytes is = absurd is

-- the objects before the last one, which is the meta
abbrev pub before_meta : ℕ → List (List ℕ) → List ℕ → List Object
before_meta ulid segments index = segment_objects ulid 1 segments ++ object (key.Index ulid) index ∷ []

pub meta_last : (ulid : ℕ) (segments : List (List ℕ)) (index meta : List ℕ) → objects_of ulid segments index meta ≡ before_meta ulid segments index ++ object (key.Meta ulid) meta ∷ []
unfolding objects_of
meta_last ulid segments index meta = sym (append_assoc (segment_objects ulid 1 segments) (object (key.Index ulid) index ∷ []) (object (key.Meta ulid) meta ∷ []))

-- the key of an index or of a segment
abbrev pub IsOfSamples : Key → Type 0
IsOfSamples (key.Meta own) = ⊥
IsOfSamples (key.Index own) = Unit {0}
IsOfSamples (key.Segment own number) = Unit {0}
IsOfSamples (key.Mark own) = ⊥

-- each of them is such
pub before_other : (ulid : ℕ) (segments : List (List ℕ)) (index : List ℕ) (o : Object) → Contains (before_meta ulid segments index) o → IsOfSamples o.key
before_other ulid segments index o has = elim (Contains-append_cases (segment_objects ulid 1 segments) (object (key.Index ulid) index ∷ []) o has) [
  | inl first ↦ let s = segment_is ulid 1 segments o first in subst IsOfSamples (sym s.1) tt
  | inr later ↦ subst (λ (x : Object). IsOfSamples x.key) (only_member (object (key.Index ulid) index) o later) tt
]
