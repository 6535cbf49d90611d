-- There is one selection, and how loops over ranges and parts find it.
use Rattle.std.proofs.Common.{◌≡◌, ℕ, ◌+◌, ◌-◌, ◌<◌, true, false, cond, List, [], ◌∷◌, ◌++◌, length, get_or, drop, map, refl, sym, ap, ◌∙◌, subst, arith, Option, Some, None}
use Rattle.std.specs.Prelude.{ℤ, pos, slice_get}
use Rattle.std.specs.List.{find}
use Rattle.std.specs.Option.{option_or, option_map, option_map_or}
use Rattle.std.proofs.lemmas.List.{drop_more}
use Rattle.std.proofs.lemmas.Option.{slice_get-get_or}
use Rattle.std.proofs.lemmas.List.Folds.{find-append}
use Rattle.block_meta.specs.declared.meta.Meta.{Meta}
use Rattle.group_planner.specs.Parts.{IsNextPart, AreParts, NoneFits}
use Rattle.group_planner.specs.Selections.{Candidate, AreCandidates, is_worthwhile, is_wanted, ranges, last_begin, IsSelection}
use Rattle.group_planner.proofs.PartLaws.{one_parts, parts_of, PartsUpTo, up_to_next, up_to_all}
use Rattle.base.proofs.Lists.{find-map}

abbrev pub as_candidates : ℤ → List (List Meta) → List Candidate
as_candidates range parts = map (λ part. record { range = range; part = part }) parts

-- ---- there is one

one_candidates : (those : List ℤ) (members : List Meta) (one other : List Candidate) → AreCandidates those members one → AreCandidates those members other → one ≡ other
one_candidates [] members one other a b = a ∙ sym b
one_candidates (range ∷ those) members one other a b =
    let parts : a.0 ≡ b.0 = one_parts range members a.0 b.0 a.2 b.2 in
    let others : a.1 ≡ b.1 = one_candidates those members a.1 b.1 a.3 b.3 in
    a.4 ∙ ap (λ ps. as_candidates range ps ++ a.1) parts ∙ ap (λ cs. as_candidates range b.0 ++ cs) others ∙ sym b.4

pub one_selection : (members one other : List Meta) → IsSelection members one → IsSelection members other → one ≡ other
one_selection members one other a b =
    a.first ∙ ap (λ cs. option_map_or (λ candidate. candidate.part) (find (is_wanted (last_begin members)) cs) [])
    (one_candidates ranges members a.candidates b.candidates a.listed b.listed) ∙ sym b.first

candidates_of : (those : List ℤ) (members : List Meta) → (candidates : List Candidate) × AreCandidates those members candidates
candidates_of [] members = ([], refl)
candidates_of (range ∷ those) members =
    let parts : (found : List (List Meta)) × AreParts range members found = parts_of range members in
    let others : (candidates : List Candidate) × AreCandidates those members candidates = candidates_of those members in
    (as_candidates range parts.0 ++ others.0, (parts.0, others.0, parts.1, others.1, refl))

-- ---- the first of one range

-- the parts so far are none of those that are wanted
pub record Searched (range high : ℤ) (metas left : List Meta) : Type 0 where
  pub done : List (List Meta)
  pub none : find (is_worthwhile range high) done ≡ None
  pub up_to : PartsUpTo range metas left done

pub record Found (range high : ℤ) (metas : List Meta) (part : Option (List Meta)) : Type 0 where
  pub parts : List (List Meta)
  pub are : AreParts range metas parts
  pub first : find (is_worthwhile range high) parts ≡ part

pub searched_more : (range high : ℤ) (metas left part behind : List Meta) → IsNextPart range left part behind → is_worthwhile range high part ≡ false
    → Searched range high metas left → Searched range high metas behind
searched_more range high metas left part behind next test so_far = record {
  done = so_far.done ++ part ∷ [];
  none = find-append (is_worthwhile range high) so_far.done (part ∷ []) ∙ ap (λ o. option_or o (cond (is_worthwhile range high part) (Some part) None)) so_far.none
      ∙ ap (λ b. cond b (Some part) None) test;
  up_to = up_to_next range metas left part behind so_far.done next so_far.up_to;
}

pub searched_hit : (range high : ℤ) (metas left part behind : List Meta) → IsNextPart range left part behind → is_worthwhile range high part ≡ true
    → Searched range high metas left → Found range high metas (Some part)
searched_hit range high metas left part behind next test so_far =
    let others : (found : List (List Meta)) × AreParts range behind found = parts_of range behind in
    record {
      parts = so_far.done ++ part ∷ others.0;
      are = so_far.up_to.complete (part ∷ others.0) (behind, next, others.1);
      first = find-append (is_worthwhile range high) so_far.done (part ∷ others.0)
          ∙ ap (λ o. option_or o (cond (is_worthwhile range high part) (Some part) (find (is_worthwhile range high) others.0))) so_far.none
          ∙ ap (λ b. cond b (Some part) (find (is_worthwhile range high) others.0)) test;
    }

pub searched_all : (range high : ℤ) (metas left : List Meta) → NoneFits range left → Searched range high metas left → Found range high metas None
searched_all range high metas left none so_far = record {
  parts = so_far.done;
  are = up_to_all range metas left so_far.done none so_far.up_to;
  first = so_far.none;
}

-- ---- the first of all ranges

first_candidate : (range high : ℤ) (parts : List (List Meta)) (others : List Candidate) (first : Option (List Meta)) → find (is_worthwhile range high) parts ≡ first
    → find (is_wanted high) (as_candidates range parts ++ others) ≡ option_or (option_map (λ part. record { range = range; part = part }) first) (find (is_wanted high) others)
first_candidate range high parts others first e =
    find-append (is_wanted high) (as_candidates range parts) others
    ∙ ap (λ o. option_or o (find (is_wanted high) others)) (find-map (is_wanted high) (λ part. record { range = range; part = part }) parts ∙ ap (option_map (λ part. record { range = range; part = part })) e)

pub record FoundAmong (those : List ℤ) (high : ℤ) (metas : List Meta) (candidate : Option Candidate) : Type 0 where
  pub candidates : List Candidate
  pub are : AreCandidates those metas candidates
  pub first : find (is_wanted high) candidates ≡ candidate

-- what is the first of the rest is the first of all
pub record Ranged (those rest : List ℤ) (high : ℤ) (metas : List Meta) : Type 0 where
  pub complete : (candidate : Option Candidate) → FoundAmong rest high metas candidate → FoundAmong those high metas candidate

pub ranged_more : (those : List ℤ) (place : ℕ) (range high : ℤ) (metas : List Meta) → place < length those → range ≡ get_or those place (pos 0)
    → Found range high metas None → Ranged those (drop place those) high metas → Ranged those (drop (place + 1) those) high metas
ranged_more those place range high metas within at none so_far = record {
  complete = λ candidate found. so_far.complete candidate
      (subst (λ l. FoundAmong l high metas candidate) (sym (drop_more those place (pos 0) within ∙ ap (λ x. x ∷ drop (place + 1) those) (sym at))) (record {
        candidates = as_candidates range none.parts ++ found.candidates;
        are = (none.parts, found.candidates, none.are, found.are, refl);
        first = first_candidate range high none.parts found.candidates None none.first ∙ found.first;
      }));
}

pub ranged_hit : (those : List ℤ) (place : ℕ) (range high : ℤ) (metas part : List Meta) → place < length those → range ≡ get_or those place (pos 0)
    → Found range high metas (Some part) → Ranged those (drop place those) high metas → FoundAmong those high metas (Some (record { range = range; part = part }))
ranged_hit those place range high metas part within at hit so_far =
    let others : (candidates : List Candidate) × AreCandidates (drop (place + 1) those) metas candidates = candidates_of (drop (place + 1) those) metas in
    so_far.complete (Some (record { range = range; part = part }))
    (subst (λ l. FoundAmong l high metas (Some (record { range = range; part = part }))) (sym (drop_more those place (pos 0) within ∙ ap (λ x. x ∷ drop (place + 1) those) (sym at))) (record {
      candidates = as_candidates range hit.parts ++ others.0;
      are = (hit.parts, others.0, hit.are, others.1, refl);
      first = first_candidate range high hit.parts others.0 (Some part) hit.first;
    }))

nothing_left : {A : Type 0} (xs : List A) → drop (length xs) xs ≡ []
nothing_left [] = refl
nothing_left (x ∷ xs) = nothing_left xs

pub ranged_all : (those : List ℤ) (high : ℤ) (metas : List Meta) (place : ℕ) → place ≡ length those → Ranged those (drop place those) high metas → FoundAmong those high metas None
ranged_all those high metas place all so_far =
    so_far.complete None (subst (λ l. FoundAmong l high metas None) (sym (ap (λ n. drop n those) all ∙ nothing_left those)) (record { candidates = []; are = refl; first = refl }))

-- ---- the selection

pub selection_of_none : (metas : List Meta) → metas ≡ [] → IsSelection metas metas
selection_of_none metas e = subst (λ l. IsSelection l l) (sym e) (record {
  candidates = [];
  listed = ([], [], tt, ([], [], tt, ([], [], tt, ([], [], tt, refl, refl), refl), refl), refl);
  first = refl;
})

-- ---- where numbers were passed on

pub found_at : (range high r h : ℤ) (metas : List Meta) (part : Option (List Meta)) → r ≡ range → h ≡ high → Found r h metas part → Found range high metas part
found_at range high r h metas part same also found = subst (λ z. Found z high metas part) same (subst (λ z. Found r z metas part) also found)

pub among_at : (those : List ℤ) (high h : ℤ) (metas : List Meta) (candidate : Option Candidate) → h ≡ high → FoundAmong those h metas candidate → FoundAmong those high metas candidate
among_at those high h metas candidate same found = subst (λ z. FoundAmong those z metas candidate) same found

-- no last member, no member
pub none_last : (metas : List Meta) → None ≡ slice_get metas (length metas - 1) → metas ≡ []
none_last [] e = refl
none_last (x ∷ metas) e =
    let some : slice_get (x ∷ metas) (length (x ∷ metas) - 1) ≡ Some (get_or (x ∷ metas) (length (x ∷ metas) - 1) x) =
    slice_get-get_or (x ∷ metas) (length (x ∷ metas) - 1) x (omega arith) in
    absurd cc

pub a_selection : (members : List Meta) → (selected : List Meta) × IsSelection members selected
a_selection members =
    let found : (candidates : List Candidate) × AreCandidates ranges members candidates = candidates_of ranges members in
    (option_map_or (λ candidate. candidate.part) (find (is_wanted (last_begin members)) found.0) [], record { candidates = found.0; listed = found.1; first = refl })
