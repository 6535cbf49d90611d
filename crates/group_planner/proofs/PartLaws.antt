-- A range has one list of parts, and how a loop finds it.
use Rattle.std.proofs.Common.{◌≡◌, ◌≢◌, ℕ, zero, suc, ◌+◌, ◌<◌, ◌≤◌, Bool, true, false, not, List, [], ◌∷◌, ◌++◌, length, get_or, take, drop, append_assoc, append-nil, length-append, map, refl, sym, ap, ◌∙◌, subst, arith, inl, inr}
use Rattle.std.specs.Prelude.{◌⊎◌, ℤ, Result, Ok, Err, IfOk}
use Rattle.std.specs.Ordering.{int_eq}
use Rattle.std.proofs.lemmas.Bool.{and_from, and_parts, not-false}
use Rattle.std.proofs.lemmas.Int.{ints}
use Rattle.std.proofs.lemmas.List.{take-append-drop, drop_more, map-append}
use Rattle.block_meta.specs.declared.meta.Meta.{Meta}
use Rattle.base.proofs.Lists.{cons_parts, nil_not_cons, some-length}
use Rattle.group_planner.specs.Members.{ulids_of}
use Rattle.group_planner.specs.Runs.{EachPasses, IsLongestRun}
use Rattle.group_planner.specs.Parts.{start_of, fits, fits_at, NoneFits, IsNextPart, AreParts}
use Rattle.group_planner.proofs.LongestRuns.{Cut, cut_of, one_run, all_or_cut, stops_first, each_more, stops_at}
use Rattle.group_planner.proofs.OverlapLaws.{nothing_behind}

-- ---- tests

same_int : (a b : ℤ) → int_eq a b ≡ true → a ≡ b
same_int a b e = grind (arith, ints)

int_itself : (a : ℤ) → int_eq a a ≡ true
int_itself a = grind (arith, ints)

abbrev is_unfit : ℤ → List Meta → Meta → Bool
is_unfit range before meta = not (fits range meta)

abbrev fits_there : ℤ → ℤ → List Meta → Meta → Bool
fits_there range start before meta = fits_at range start meta

has_fit : (range start : ℤ) (meta : Meta) → fits_at range start meta ≡ true → not (fits range meta) ≡ false
has_fit range start meta e = ap not (and_parts (int_eq (start_of range meta.min_time) start) (fits range meta) e).1

is_start : (range start : ℤ) (meta : Meta) → fits_at range start meta ≡ true → start_of range meta.min_time ≡ start
is_start range start meta e = same_int (start_of range meta.min_time) start (and_parts (int_eq (start_of range meta.min_time) start) (fits range meta) e).0

pub fits_own : (range : ℤ) (meta : Meta) → fits range meta ≡ true → fits_at range (start_of range meta.min_time) meta ≡ true
fits_own range meta e = and_from (int_eq (start_of range meta.min_time) (start_of range meta.min_time)) (fits range meta) (int_itself (start_of range meta.min_time)) e

-- ---- the next part

unfit_run : (range start : ℤ) (passed part behind : List Meta) → NoneFits range passed → IsLongestRun (fits_there range start) [] part behind → part ≢ []
    → IsLongestRun (is_unfit range) [] passed (part ++ behind)
unfit_run range start passed [] behind none longest some = absurd (some refl)
unfit_run range start passed (one ∷ part) behind none longest some = record { each = none; ends = has_fit range start one longest.each.0 }

same_start : (range start other : ℤ) (part behind more left : List Meta) → IsLongestRun (fits_there range start) [] part behind → IsLongestRun (fits_there range other) [] more left
    → part ≢ [] → more ≢ [] → part ++ behind ≡ more ++ left → start ≡ other
same_start range start other [] behind more left a b s t e = absurd (s refl)
same_start range start other (x ∷ part) behind [] left a b s t e = absurd (t refl)
same_start range start other (x ∷ part) behind (y ∷ more) left a b s t e =
    sym (is_start range start x a.each.0) ∙ ap (λ m. start_of range m.min_time) (cons_parts x y (part ++ behind) (more ++ left) e).0 ∙ is_start range other y b.each.0

one_next : (range : ℤ) (members part behind other left : List Meta) → IsNextPart range members part behind → IsNextPart range members other left → (part ≡ other) × (behind ≡ left)
one_next range members part behind other left a b =
    let cut : (a.passed ≡ b.passed) × (part ++ behind ≡ other ++ left) =
    one_run (is_unfit range) [] a.passed (part ++ behind) b.passed (other ++ left) (unfit_run range a.start a.passed part behind a.none a.longest a.some)
    (unfit_run range b.start b.passed other left b.none b.longest b.some) (sym a.are ∙ b.are) in
    let start : a.start ≡ b.start = same_start range a.start b.start part behind other left a.longest b.longest a.some b.some cut.1 in
    one_run (fits_there range b.start) [] part behind other left (subst (λ s. IsLongestRun (fits_there range s) [] part behind) start a.longest) b.longest cut.1

none_and_next : (range start : ℤ) (members passed part behind : List Meta) → NoneFits range members → NoneFits range passed → IsLongestRun (fits_there range start) [] part behind → part ≢ []
    → members ≡ passed ++ (part ++ behind) → ⊥
none_and_next range start members passed [] behind all none longest some are = some refl
none_and_next range start members passed (one ∷ part) behind all none longest some are =
    all_or_cut (is_unfit range) [] members passed (part ++ behind) one all (record { each = none; ends = has_fit range start one longest.each.0 }) are

-- ---- there is one list

pub one_parts : (range : ℤ) (members : List Meta) (one other : List (List Meta)) → AreParts range members one → AreParts range members other → one ≡ other
one_parts range members [] [] a b = refl
one_parts range members [] (part ∷ parts) a b = absurd (none_and_next range b.1.start members b.1.passed part b.0 a b.1.none b.1.longest b.1.some b.1.are)
one_parts range members (part ∷ parts) [] a b = absurd (none_and_next range a.1.start members a.1.passed part a.0 b a.1.none a.1.longest a.1.some a.1.are)
one_parts range members (part ∷ parts) (more ∷ others) a b =
    let next : (part ≡ more) × (a.0 ≡ b.0) = one_next range members part a.0 more b.0 a.1 b.1 in
    let rest : parts ≡ others = one_parts range b.0 parts others (subst (λ l. AreParts range l parts) next.1 a.2) b.2 in
    ap (λ p. p ∷ parts) next.0 ∙ ap (λ ps. more ∷ ps) rest

-- ---- there always is one

pub record Next (range : ℤ) (members : List Meta) : Type 0 where
  pub part : List Meta
  pub behind : List Meta
  pub is : IsNextPart range members part behind

part_some : (range start : ℤ) (one : Meta) (left part behind : List Meta) → fits_at range start one ≡ true → IsLongestRun (fits_there range start) [] part behind
    → one ∷ left ≡ part ++ behind → part ≢ []
part_some range start one left [] behind e longest are some = stops_first (fits_there range start) [] behind one left longest.ends (sym are) e
part_some range start one left (x ∷ part) behind e longest are some = nil_not_cons x part (sym some)

next_from : (range : ℤ) (members passed left : List Meta) → members ≡ passed ++ left → IsLongestRun (is_unfit range) [] passed left → NoneFits range members ⊎ Next range members
next_from range members passed [] are longest = inl (subst (NoneFits range) (sym (are ∙ append-nil passed)) longest.each)
next_from range members passed (one ∷ left) are longest =
    let fit : fits_at range (start_of range one.min_time) one ≡ true = fits_own range one (not-false (fits range one) longest.ends) in
    let cut : Cut (fits_there range (start_of range one.min_time)) [] (one ∷ left) = cut_of (fits_there range (start_of range one.min_time)) [] (one ∷ left) in
    inr (record {
      part = cut.run;
      behind = cut.behind;
      is = record {
        passed = passed;
        start = start_of range one.min_time;
        are = are ∙ ap (λ l. passed ++ l) cut.are;
        none = longest.each;
        longest = cut.longest;
        some = part_some range (start_of range one.min_time) one left cut.run cut.behind fit cut.longest cut.are;
      };
    })

next_of : (range : ℤ) (members : List Meta) → NoneFits range members ⊎ Next range members
next_of range members = let cut : Cut (is_unfit range) [] members = cut_of (is_unfit range) [] members in next_from range members cut.run cut.behind cut.are cut.longest

pub behind_shorter : (range : ℤ) (members part behind : List Meta) → IsNextPart range members part behind → length behind < length members
behind_shorter range members part behind next =
    let some : 0 < length part = some-length part next.some in
    let sizes : length members ≡ length next.passed + (length part + length behind) =
    ap length next.are ∙ length-append next.passed (part ++ behind) ∙ ap (λ n. length next.passed + n) (length-append part behind) in
    omega arith

parts_within : (fuel : ℕ) (range : ℤ) (members : List Meta) → length members ≤ fuel → (parts : List (List Meta)) × AreParts range members parts
parts_within zero range [] le = ([], tt)
parts_within zero range (x ∷ members) le = absurd (omega arith)
parts_within (suc fuel) range members le = elim (next_of range members) [
  | inl none ↦ ([], none)
  | inr next ↦
      let rest : (parts : List (List Meta)) × AreParts range next.behind parts =
      parts_within fuel range next.behind (let shorter : length next.behind < length members = behind_shorter range members next.part next.behind next.is in omega arith) in
      (next.part ∷ rest.0, (next.behind, next.is, rest.1))
]

pub parts_of : (range : ℤ) (members : List Meta) → (parts : List (List Meta)) × AreParts range members parts
parts_of range members = parts_within (length members) range members (omega arith)

-- so there is one where memory runs out too
pub parts_told : (range passed : ℤ) (metas members : List Meta) {E : Type 0} (r : Result (List (List ℕ)) E) → passed ≡ range → members ≡ metas → IfOk r (λ made. (parts : List (List Meta)) × AreParts passed members parts × (made ≡ map ulids_of parts))
    → (parts : List (List Meta)) × AreParts range metas parts × IfOk r (λ made. made ≡ map ulids_of parts)
parts_told range passed metas members {E} (Ok made) same are told = (told.0, subst (λ m. AreParts range m told.0) are (subst (λ n. AreParts n members told.0) same told.1), told.2)
parts_told range passed metas members {E} (Err e) same are told = let made = parts_of range metas in (made.0, made.1, tt)

-- ---- how a loop finds the next one

pub next_found : (range : ℤ) (metas : List Meta) (place : ℕ) (one : Meta) (count : ℕ) → place < length metas → one ≡ get_or metas place one → fits range one ≡ true
    → NoneFits range (take place metas)
    → IsLongestRun (λ before meta. fits_at range (start_of range one.min_time) meta) [] (take count (drop place metas)) (drop count (drop place metas))
    → IsNextPart range metas (take count (drop place metas)) (drop count (drop place metas))
next_found range metas place one count within at fit none longest =
    let first : one ∷ drop (place + 1) metas ≡ drop place metas = sym (drop_more metas place one within ∙ ap (λ x. x ∷ drop (place + 1) metas) (sym at)) in
    record {
      passed = take place metas;
      start = start_of range one.min_time;
      are = sym (take-append-drop place metas) ∙ ap (λ l. take place metas ++ l) (sym (take-append-drop count (drop place metas)));
      none = none;
      longest = longest;
      some = part_some range (start_of range one.min_time) one (drop (place + 1) metas) (take count (drop place metas)) (drop count (drop place metas)) (fits_own range one fit) longest
          (first ∙ sym (take-append-drop count (drop place metas)));
    }

-- ---- how a loop finds them all

-- what completes the parts of the rest completes these
pub record PartsUpTo (range : ℤ) (metas left : List Meta) (done : List (List Meta)) : Type 0 where
  pub complete : (rest : List (List Meta)) → AreParts range left rest → AreParts range metas (done ++ rest)

pub up_to_next : (range : ℤ) (metas left part behind : List Meta) (done : List (List Meta)) → IsNextPart range left part behind → PartsUpTo range metas left done
    → PartsUpTo range metas behind (done ++ part ∷ [])
up_to_next range metas left part behind done next up = record {
  complete = λ rest are. subst (AreParts range metas) (sym (append_assoc done (part ∷ []) rest)) (up.complete (part ∷ rest) (behind, next, are));
}

pub up_to_all : (range : ℤ) (metas left : List Meta) (done : List (List Meta)) → NoneFits range left → PartsUpTo range metas left done → AreParts range metas done
up_to_all range metas left done none up = subst (AreParts range metas) (append-nil done) (up.complete [] none)

-- ---- loops, where numbers were passed on

pub part_stops : (range start r s : ℤ) (metas : List Meta) (place : ℕ) (one : Meta) → r ≡ range → s ≡ start → place < length metas → one ≡ get_or metas place one
    → false ≡ fits_at r s one → EachPasses (λ before meta. fits_at r s meta) [] (take place metas)
    → IsLongestRun (λ before meta. fits_at range start meta) [] (take place metas) (drop place metas)
part_stops range start r s metas place one same also within at fails each =
    subst (λ z. IsLongestRun (λ before meta. fits_at z start meta) [] (take place metas) (drop place metas)) same
    (subst (λ z. IsLongestRun (λ before meta. fits_at r z meta) [] (take place metas) (drop place metas)) also
    (record { each = each; ends = stops_at (fits_there r s) (take place metas) metas place one within at (sym fails) }))

pub part_more : (r s : ℤ) (metas : List Meta) (place : ℕ) (one : Meta) → place < length metas → one ≡ get_or metas place one
    → true ≡ fits_at r s one → EachPasses (λ before meta. fits_at r s meta) [] (take place metas) → EachPasses (λ before meta. fits_at r s meta) [] (take (place + 1) metas)
part_more r s metas place one within at passes each = each_more (fits_there r s) [] metas place one within at each (sym passes)

pub part_ends : (range start r s : ℤ) (metas : List Meta) (place : ℕ) → r ≡ range → s ≡ start → place ≡ length metas
    → EachPasses (λ before meta. fits_at r s meta) [] (take place metas)
    → IsLongestRun (λ before meta. fits_at range start meta) [] (take (length metas) metas) (drop (length metas) metas)
part_ends range start r s metas place same also all each =
    subst (λ z. IsLongestRun (λ before meta. fits_at z start meta) [] (take (length metas) metas) (drop (length metas) metas)) same
    (subst (λ z. IsLongestRun (λ before meta. fits_at r z meta) [] (take (length metas) metas) (drop (length metas) metas)) also
    (record {
      each = subst (λ n. EachPasses (fits_there r s) [] (take n metas)) all each;
      ends = nothing_behind (fits_there r s) (take (length metas) metas) metas;
    }))

pub none_more : (r : ℤ) (metas : List Meta) (place : ℕ) (one : Meta) → place < length metas → one ≡ get_or metas place one → false ≡ fits r one
    → NoneFits r (take place metas) → NoneFits r (take (place + 1) metas)
none_more r metas place one within at fails none = each_more (is_unfit r) [] metas place one within at none (ap not (sym fails))

pub next_at : (range r s t : ℤ) (metas left front back : List Meta) (place count : ℕ) (one : Meta) → r ≡ range → s ≡ t → t ≡ start_of r one.min_time
    → place < length metas → one ≡ get_or metas place one → true ≡ fits r one → NoneFits r (take place metas)
    → left ≡ drop place metas → front ≡ take count left → back ≡ drop count left
    → IsLongestRun (λ before meta. fits_at r s meta) [] (take count left) (drop count left) → IsNextPart range metas front back
next_at range r s t metas left front back place count one same cast start within at fit none is_left is_front is_back longest =
    let run : IsLongestRun (λ before meta. fits_at r (start_of r one.min_time) meta) [] (take count (drop place metas)) (drop count (drop place metas)) =
    subst (λ l. IsLongestRun (λ before meta. fits_at r (start_of r one.min_time) meta) [] (take count l) (drop count l)) is_left
    (subst (λ z. IsLongestRun (λ before meta. fits_at r z meta) [] (take count left) (drop count left)) (cast ∙ start) longest) in
    let next : IsNextPart r metas (take count (drop place metas)) (drop count (drop place metas)) = next_found r metas place one count within at (sym fit) none run in
    subst (λ z. IsNextPart z metas front back) same
    (subst (λ l. IsNextPart r metas l back) (sym (is_front ∙ ap (take count) is_left))
    (subst (λ l. IsNextPart r metas (take count (drop place metas)) l) (sym (is_back ∙ ap (drop count) is_left)) next))

-- ---- the ULIDs of the parts

pub pushed_part : (made pushed : List (List ℕ)) (done : List (List Meta)) (part : List Meta) (ulids : List ℕ) → made ≡ map ulids_of done → ulids ≡ ulids_of part
    → pushed ≡ made ++ ulids ∷ [] → pushed ≡ map ulids_of (done ++ part ∷ [])
pushed_part made pushed done part ulids is_made is_part is =
    is ∙ ap (λ l. l ++ ulids ∷ []) is_made ∙ ap (λ u. map ulids_of done ++ u ∷ []) is_part ∙ sym (map-append ulids_of done (part ∷ []))
