-- What is planned of a group are members of it, which are blocks that the view keeps.
use Rattle.base.proofs.Membership.{contains_first, contains_later, member_cases, no_member, of_filter, of_in_order, of_map, found_among}
use Rattle.std.proofs.Common.{◌≡◌, inl, inr, ℕ, ℤ, ◌-◌, Bool, true, false, cond, List, [], ◌∷◌, ◌++◌, map, Contains, Option, Some, None, sym, subst}
use Rattle.std.specs.Prelude.{find}
use Rattle.std.specs.List.{filter}
use Rattle.std.specs.Option.{option_map_or}
use Rattle.base.specs.Ordered.{in_order}
use Rattle.std.proofs.lemmas.List.Elements.{Contains-append_cases, Contains-append_left, Contains-append_right}
use Rattle.block_meta.specs.declared.meta.Meta.{Meta}
use Rattle.group_planner.specs.Groups.{AreGroups, comes_before, group_of, has_key}
use Rattle.group_planner.specs.Overlaps.{IsOverlapPlan}
use Rattle.group_planner.specs.Parts.{AreParts}
use Rattle.group_planner.specs.Selections.{AreCandidates, Candidate, IsSelection, is_wanted, last_begin, ranges}
use Rattle.group_planner.specs.declared.group.Group.{Group}

-- ---- a plan

overlap_within : (members overlap : List Meta) → IsOverlapPlan members overlap → (m : Meta) → Contains overlap m → Contains members m
overlap_within members [] is m among = absurd (no_member m among)
overlap_within members (first ∷ run) is m among =
    subst (λ ms. Contains ms m) (sym is.are) (elim (member_cases first m run among) [
      | inl same ↦
          Contains-append_left (is.front ++ first ∷ []) (run ++ is.behind) m
          (Contains-append_right is.front (first ∷ []) m (subst (Contains (first ∷ [])) same (contains_first first [])))
      | inr later ↦ Contains-append_right (is.front ++ first ∷ []) (run ++ is.behind) m (Contains-append_left run is.behind m later)
    ])

part_within : (range : ℤ) (members : List Meta) (parts : List (List Meta)) → AreParts range members parts → (part : List Meta) → Contains parts part → (m : Meta) → Contains part m → Contains members m
part_within range members [] are part among m inside = absurd (no_member part among)
part_within range members (first ∷ parts) (behind, next, rest) part among m inside =
    subst (λ ms. Contains ms m) (sym next.are) (elim (member_cases first part parts among) [
      | inl same ↦ Contains-append_right next.passed (first ++ behind) m (Contains-append_left first behind m (subst (λ p. Contains p m) (sym same) inside))
      | inr later ↦ Contains-append_right next.passed (first ++ behind) m (Contains-append_right first behind m (part_within range behind parts rest part later m inside))
    ])

candidate_within : (rs : List ℤ) (members : List Meta) (candidates : List Candidate) → AreCandidates rs members candidates → (c : Candidate) → Contains candidates c → (m : Meta) → Contains c.part m → Contains members m
candidate_within [] members candidates are c among m inside = absurd (no_member c (subst (λ cs. Contains cs c) are among))
candidate_within (range ∷ rs) members candidates (parts, others, own, rest, is) c among m inside =
    elim (Contains-append_cases (map (λ (part : List Meta). record { range = range; part = part }) parts) others c (subst (λ cs. Contains cs c) is among)) [
      | inl first ↦
          let p = of_map (λ (part : List Meta). record { range = range; part = part }) parts c first in
          part_within range members parts own p.0 p.1 m (subst (λ (x : Candidate). Contains x.part m) (sym p.2) inside)
      | inr later ↦ candidate_within rs members others rest c later m inside
    ]

found_by : {X : Type 0} (p : X → Bool) (y : X) (xs : List X) (x : X) (b : Bool) → (find p xs ≡ Some x → Contains xs x) → cond b (Some y) (find p xs) ≡ Some x → Contains (y ∷ xs) x
found_by {X} p y xs x true rest same = let e : y ≡ x = cc (same) in subst (Contains (y ∷ xs)) e (contains_first y xs)
found_by {X} p y xs x false rest same = contains_later y x xs (rest same)

chosen_within : (members : List Meta) (candidates : List Candidate) → AreCandidates ranges members candidates → (o : Option Candidate) → find (is_wanted (last_begin members)) candidates ≡ o
    → (m : Meta) → Contains (option_map_or (λ (c : Candidate). c.part) o []) m → Contains members m
chosen_within members candidates are None is m among = absurd (no_member m among)
chosen_within members candidates are (Some c) is m among = candidate_within ranges members candidates are c (found_among (is_wanted (last_begin members)) candidates c is) m among

selection_within : (members selected : List Meta) → IsSelection members selected → (m : Meta) → Contains selected m → Contains members m
selection_within members selected is m among =
    chosen_within members is.candidates is.listed (find (is_wanted (last_begin members)) is.candidates) (λ i. find (is_wanted (last_begin members)) is.candidates) m (subst (λ ms. Contains ms m) is.first among)

-- ---- a group

pub member_within : (replicas : List (List ℕ)) (metas : List Meta) (groups : List Group) → AreGroups replicas metas groups → (group : Group) → Contains groups group → (m : Meta) → Contains group.members m → Contains metas m
member_within replicas metas groups are group among m inside =
    let k = of_map (group_of replicas metas) are.keys group (subst (λ gs. Contains gs group) are.are among) in
    let own : Contains (in_order comes_before (filter (has_key replicas k.0) metas)) m = subst (λ (g : Group). Contains g.members m) (sym k.2) inside in
    of_filter (has_key replicas k.0) metas m (of_in_order comes_before m (filter (has_key replicas k.0) metas) own)
