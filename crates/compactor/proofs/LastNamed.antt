-- The last segment that series name, one series and one chunk after another, and that each chunk stands in one that is named.
use Rattle.std.proofs.Common.{◌≡◌, inl, inr, ℕ, ◌+◌, ◌<◌, ◌≤◌, Bool, true, false, max, fold, List, [], ◌∷◌, ◌++◌, length, Contains, Some, take, map, get_or, refl, sym, ap, ◌∙◌, arith}
use Rattle.std.specs.List.{flat_map}
use Rattle.std.proofs.lemmas.List.{take_more, take_all, append-nil, map-append}
use Rattle.std.proofs.lemmas.List.Concat.{flat_map-append}
use Rattle.std.proofs.lemmas.List.Sums.{fold-append}
use Rattle.base.proofs.Membership.{into_flat_map, into_map, member_cases, no_member}
use Rattle.index_parts.specs.declared.chunk_place.ChunkPlace.{ChunkPlace}
use Rattle.index_parts.specs.declared.index_series.IndexSeries.{IndexSeries}
use Rattle.compactor.specs.Named.{segment_number, last_named, if_few}

pub chunks_start : (before : ℕ) (chunks : List ChunkPlace) → before ≡ fold max before (map segment_number (take 0 chunks))
chunks_start before chunks = refl

pub chunks_more : (before last more : ℕ) (chunks : List ChunkPlace) (i : ℕ) (place d : ChunkPlace) → last ≡ fold max before (map segment_number (take i chunks)) → i < length chunks → place ≡ get_or chunks i d → more ≡ max last (segment_number place)
    → more ≡ fold max before (map segment_number (take (i + 1) chunks))
chunks_more before last more chunks i place d far lt at is =
    let front : take (i + 1) chunks ≡ take i chunks ++ place ∷ [] = take_more chunks i d lt ∙ ap (λ (p : ChunkPlace). take i chunks ++ p ∷ []) (sym at) in
    let numbers : map segment_number (take (i + 1) chunks) ≡ map segment_number (take i chunks) ++ segment_number place ∷ [] = ap (map segment_number) front ∙ map-append segment_number (take i chunks) (place ∷ []) in
    is ∙ ap (λ (n : ℕ). max n (segment_number place)) far
    ∙ sym (ap (fold max before) numbers ∙ fold-append max before (map segment_number (take i chunks)) (segment_number place ∷ []))

pub chunks_end : (before last : ℕ) (chunks : List ChunkPlace) (i : ℕ) → last ≡ fold max before (map segment_number (take i chunks)) → length chunks ≤ i → last ≡ fold max before (map segment_number chunks)
chunks_end before last chunks i far le = far ∙ ap (λ (xs : List ChunkPlace). fold max before (map segment_number xs)) (take_all i chunks le)

pub named_start : (indexed : List IndexSeries) → 0 ≡ last_named (take 0 indexed)
named_start indexed = refl

pub named_more : (last more : ℕ) (indexed : List IndexSeries) (i : ℕ) (one d : IndexSeries) (seen : List ChunkPlace) → last ≡ last_named (take i indexed) → i < length indexed → one ≡ get_or indexed i d → seen ≡ one.chunks → more ≡ fold max last (map segment_number seen)
    → more ≡ last_named (take (i + 1) indexed)
named_more last more indexed i one d seen far lt at lent is =
    let places : List IndexSeries → List ChunkPlace = λ xs. flat_map (λ (s : IndexSeries). s.chunks) xs in
    let front : take (i + 1) indexed ≡ take i indexed ++ one ∷ [] = take_more indexed i d lt ∙ ap (λ (s : IndexSeries). take i indexed ++ s ∷ []) (sym at) in
    let spread : places (take (i + 1) indexed) ≡ places (take i indexed) ++ one.chunks =
    ap places front ∙ flat_map-append (λ (s : IndexSeries). s.chunks) (take i indexed) (one ∷ []) ∙ ap (λ (t : List ChunkPlace). places (take i indexed) ++ t) (append-nil one.chunks) in
    let numbers : map segment_number (places (take (i + 1) indexed)) ≡ map segment_number (places (take i indexed)) ++ map segment_number one.chunks = ap (map segment_number) spread ∙ map-append segment_number (places (take i indexed)) one.chunks in
    is ∙ ap (λ (xs : List ChunkPlace). fold max last (map segment_number xs)) lent ∙ ap (λ (n : ℕ). fold max n (map segment_number one.chunks)) far
    ∙ sym (ap (fold max 0) numbers ∙ fold-append max 0 (map segment_number (places (take i indexed))) (map segment_number one.chunks))

pub named_end : (last : ℕ) (indexed : List IndexSeries) (i : ℕ) → last ≡ last_named (take i indexed) → length indexed ≤ i → last ≡ last_named indexed
named_end last indexed i far le = far ∙ ap (λ (xs : List IndexSeries). last_named xs) (take_all i indexed le)

-- ---- what is named

pub grows : (numbers : List ℕ) (before : ℕ) → before ≤ fold max before numbers
grows [] before = omega arith
grows (n ∷ numbers) before = let up = grows numbers (max before n) in omega (arith, up)

pub reached : (numbers : List ℕ) (before n : ℕ) → Contains numbers n → n ≤ fold max before numbers
reached [] before n among = absurd (no_member n among)
reached (m ∷ numbers) before n among = elim (member_cases m n numbers among) [
  | inl same ↦ let up = grows numbers (max before m) in omega (arith, up, same)
  | inr later ↦ reached numbers (max before m) n later
]

pub few_is : (b : Bool) (n count : ℕ) → if_few b n ≡ Some count → n ≡ count
few_is true n count is = cc (is)
few_is false n count is = absurd (cc (is))

-- each chunk of an index stands in a segment that it names
pub chunk_named : (indexed : List IndexSeries) (one : IndexSeries) (place : ChunkPlace) → Contains indexed one → Contains one.chunks place → place.segment < last_named indexed
chunk_named indexed one place among inside =
    let places : List ChunkPlace = flat_map (λ (s : IndexSeries). s.chunks) indexed in
    let up = reached (map segment_number places) 0 (segment_number place) (into_map segment_number places place (into_flat_map (λ (s : IndexSeries). s.chunks) indexed one place among inside)) in
    omega (arith, up)
