-- The first block that meets the range, and what is left from it on.
use Rattle.std.proofs.Common.{◌≡◌, ℕ, suc, ◌+◌, ◌-◌, ◌<◌, ◌≤◌, Bool, true, false, not, cond, List, [], ◌∷◌, drop, length, get_or, map, refl, sym, ◌∙◌, ap, subst, Some, None, take, arith}
use Rattle.std.specs.Prelude.{nat_lt}
use Rattle.std.specs.List.{position, position_or_len}
use Rattle.std.proofs.lemmas.Bool.{ltb-false}
use Rattle.std.proofs.lemmas.List.{drop_all, nil_from_length, take_rest}
use Rattle.label_sets.proofs.LabelValues.{by_bool}
use Rattle.label_sets.proofs.StableSorts.{filter_hit, filter_miss}
use Rattle.sync_filters.specs.declared.found.Found.{Found}
use Rattle.store_ranges.specs.Reads.{Query, Block, block_of}
use Rattle.store_calls.specs.SeriesCalls.{meets, to_read, StartsMeeting}

abbrev pub read_of : Found → Block
read_of block = block_of block.ulid block.meta

-- a block that meets the range is the first that is read
first_read : (query : Query) (block : Found) (blocks : List Found) → meets query block ≡ true → to_read query (block ∷ blocks) ≡ read_of block ∷ to_read query blocks
first_read query block blocks met = ap (map read_of) (filter_hit (meets query) block blocks met)

passed_over : (query : Query) (block : Found) (blocks : List Found) → meets query block ≡ false → to_read query (block ∷ blocks) ≡ to_read query blocks
passed_over query block blocks met = ap (map read_of) (filter_miss (meets query) block blocks met)

place_here : (query : Query) (b : Found) (bs : List Found) → meets query b ≡ true → position_or_len (meets query) (b ∷ bs) ≡ 0
place_here query b bs met = ap (λ t. cond (not t) (1 + position_or_len (meets query) bs) 0) met

place_later : (query : Query) (b : Found) (bs : List Found) → meets query b ≡ false → position_or_len (meets query) (b ∷ bs) ≡ suc (position_or_len (meets query) bs)
place_later query b bs met = ap (λ t. cond (not t) (1 + position_or_len (meets query) bs) 0) met ∙ omega arith

-- what is skipped is not read
skipped : (query : Query) (blocks : List Found) (place : ℕ) → place ≡ position_or_len (meets query) blocks → to_read query (drop place blocks) ≡ to_read query blocks
skipped query [] place is = ap (λ n. to_read query (drop n [])) is
skipped query (b ∷ bs) place is = by_bool (meets query b)
    (λ t. ap (λ n. to_read query (drop n (b ∷ bs))) (is ∙ place_here query b bs t))
    (λ f. ap (λ n. to_read query (drop n (b ∷ bs))) (is ∙ place_later query b bs f) ∙ skipped query bs (position_or_len (meets query) bs) refl ∙ sym (passed_over query b bs f))

starts : (query : Query) (blocks : List Found) (place : ℕ) → place ≡ position_or_len (meets query) blocks → StartsMeeting query (drop place blocks)
starts query [] place is = subst (λ n. StartsMeeting query (drop n [])) (sym is) tt
starts query (b ∷ bs) place is = by_bool (meets query b)
    (λ t. subst (λ n. StartsMeeting query (drop n (b ∷ bs))) (sym (is ∙ place_here query b bs t)) t)
    (λ f. subst (λ n. StartsMeeting query (drop n (b ∷ bs))) (sym (is ∙ place_later query b bs f)) (starts query bs (position_or_len (meets query) bs) refl))

-- ---- the place of the first block

some_place : (b : Bool) (place first : ℕ) → Some place ≡ cond b (Some first) None → place ≡ first
some_place true place first e = cc
some_place false place first e = absurd cc

no_place : (b : Bool) (first : ℕ) → None ≡ cond b (Some first) None → b ≡ false
no_place true first e = absurd cc
no_place false first e = refl

none_meets : (query : Query) (blocks : List Found) → length blocks ≤ position_or_len (meets query) blocks → to_read query blocks ≡ []
none_meets query [] le = refl
none_meets query (b ∷ bs) le = by_bool (meets query b)
    (λ t. let e : position_or_len (meets query) (b ∷ bs) ≡ 0 = place_here query b bs t in absurd (omega (arith, e, le)))
    (λ f. let e : position_or_len (meets query) (b ∷ bs) ≡ suc (position_or_len (meets query) bs) = place_later query b bs f in
    passed_over query b bs f ∙ none_meets query bs (omega (arith, e, le)))

pub from_place : (query : Query) (blocks : List Found) (place : ℕ) → Some place ≡ position (meets query) blocks
    → (to_read query (take (length blocks - place) (drop place blocks)) ≡ to_read query blocks) × StartsMeeting query (take (length blocks - place) (drop place blocks))
from_place query blocks place e =
    let is : place ≡ position_or_len (meets query) blocks = some_place (nat_lt (position_or_len (meets query) blocks) (length blocks)) place (position_or_len (meets query) blocks) e in (
      ap (to_read query) (take_rest blocks place) ∙ skipped query blocks place is,
      subst (StartsMeeting query) (sym (take_rest blocks place)) (starts query blocks place is),
    )

pub from_none : (query : Query) (blocks : List Found) → None ≡ position (meets query) blocks
    → (to_read query (take (length blocks - length blocks) (drop (length blocks) blocks)) ≡ to_read query blocks) × StartsMeeting query (take (length blocks - length blocks) (drop (length blocks) blocks))
from_none query blocks e =
    let beyond : length blocks ≤ position_or_len (meets query) blocks =
    ltb-false (position_or_len (meets query) blocks) (length blocks) (no_place (nat_lt (position_or_len (meets query) blocks) (length blocks)) (position_or_len (meets query) blocks) e) in
    let none : take (length blocks - length blocks) (drop (length blocks) blocks) ≡ [] = take_rest blocks (length blocks) ∙ drop_all (length blocks) blocks (omega arith) in (
      ap (to_read query) none ∙ sym (none_meets query blocks beyond),
      subst (StartsMeeting query) (sym none) tt,
    )

-- ---- the first block, and those behind it

-- none of the blocks is read
pub none_left : (query : Query) (rest blocks : List Found) → to_read query rest ≡ to_read query blocks → length rest < 1 → to_read query blocks ≡ []
none_left query rest blocks same none = sym same ∙ ap (to_read query) (nil_from_length rest (omega arith))

-- the first of these is read, and then those of the others that meet the range
pub split_at_first : (query : Query) (rest blocks others : List Found) (block : Found) → to_read query rest ≡ to_read query blocks → StartsMeeting query rest → 1 ≤ length rest
    → block ≡ get_or rest 0 block → others ≡ drop 1 rest → to_read query blocks ≡ read_of block ∷ to_read query others
split_at_first query [] blocks others block same met some head behind = absurd (omega arith)
split_at_first query (b ∷ bs) blocks others block same met some head behind =
    sym same ∙ first_read query b bs met ∙ ap (λ (x : Found). read_of x ∷ to_read query bs) (sym head) ∙ ap (λ l. read_of block ∷ to_read query l) (sym behind)
