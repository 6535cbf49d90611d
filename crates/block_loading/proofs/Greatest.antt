-- The greatest file number of lists of places.
use Rattle.std.proofs.Common.{◌≡◌, ℕ, ◌+◌, ◌<◌, ◌≤◌, max, List, [], ◌∷◌, ◌++◌, length, take, map, get_or, refl, sym, ap, ◌∙◌, arith}
use Rattle.std.specs.List.{flat_map}
use Rattle.std.proofs.lemmas.List.{take_more, take_all, append-nil, map-append}
use Rattle.std.proofs.lemmas.List.Concat.{flat_map-append}
use Rattle.index_parts.specs.declared.chunk_place.ChunkPlace.{ChunkPlace}
use Rattle.index_parts.specs.declared.index_series.IndexSeries.{IndexSeries}
use Rattle.block_loading.specs.Loading.{file_number, greatest, last_segment}

greatest-append : (xs ys : List ℕ) → greatest (xs ++ ys) ≡ max (greatest xs) (greatest ys)
unfolding greatest
greatest-append [] ys = omega arith
greatest-append (x ∷ xs) ys = let e = greatest-append xs ys in omega (arith, e)

greatest-one : (x : ℕ) → greatest (x ∷ []) ≡ x
unfolding greatest
greatest-one x = omega arith

pub numbers_start : (before : ℕ) (chunks : List ChunkPlace) → before ≡ max before (greatest (map file_number (take 0 chunks)))
unfolding greatest
numbers_start before chunks = omega arith

pub numbers_more : (before last more : ℕ) (chunks : List ChunkPlace) (i : ℕ) (place d : ChunkPlace) → last ≡ max before (greatest (map file_number (take i chunks))) → i < length chunks → place ≡ get_or chunks i d → more ≡ max last (file_number place)
    → more ≡ max before (greatest (map file_number (take (i + 1) chunks)))
numbers_more before last more chunks i place d far lt at is =
    let front : take (i + 1) chunks ≡ take i chunks ++ place ∷ [] = take_more chunks i d lt ∙ ap (λ (p : ChunkPlace). take i chunks ++ p ∷ []) (sym at) in
    let numbers : map file_number (take (i + 1) chunks) ≡ map file_number (take i chunks) ++ file_number place ∷ [] = ap (map file_number) front ∙ map-append file_number (take i chunks) (place ∷ []) in
    let all : greatest (map file_number (take (i + 1) chunks)) ≡ max (greatest (map file_number (take i chunks))) (file_number place) =
    ap greatest numbers ∙ greatest-append (map file_number (take i chunks)) (file_number place ∷ []) ∙ ap (max (greatest (map file_number (take i chunks)))) (greatest-one (file_number place)) in
    omega (arith, far, is, all)

pub numbers_end : (before last : ℕ) (chunks : List ChunkPlace) (i : ℕ) → last ≡ max before (greatest (map file_number (take i chunks))) → length chunks ≤ i → last ≡ max before (greatest (map file_number chunks))
numbers_end before last chunks i far le = far ∙ ap (λ (xs : List ChunkPlace). max before (greatest (map file_number xs))) (take_all i chunks le)

pub last_start : (indexed : List IndexSeries) → 0 ≡ last_segment (take 0 indexed)
unfolding last_segment greatest
last_start indexed = refl

pub last_more : (last more : ℕ) (indexed : List IndexSeries) (i : ℕ) (one d : IndexSeries) (seen : List ChunkPlace) → last ≡ last_segment (take i indexed) → i < length indexed → one ≡ get_or indexed i d → seen ≡ one.chunks → more ≡ max last (greatest (map file_number seen))
    → more ≡ last_segment (take (i + 1) indexed)
unfolding last_segment
last_more last more indexed i one d seen far lt at lent is =
    let places : List IndexSeries → List ChunkPlace = λ xs. flat_map (λ (s : IndexSeries). s.chunks) xs in
    let front : take (i + 1) indexed ≡ take i indexed ++ one ∷ [] = take_more indexed i d lt ∙ ap (λ (s : IndexSeries). take i indexed ++ s ∷ []) (sym at) in
    let spread : places (take (i + 1) indexed) ≡ places (take i indexed) ++ one.chunks =
    ap places front ∙ flat_map-append (λ (s : IndexSeries). s.chunks) (take i indexed) (one ∷ []) ∙ ap (λ (t : List ChunkPlace). places (take i indexed) ++ t) (append-nil one.chunks) in
    let numbers : map file_number (places (take (i + 1) indexed)) ≡ map file_number (places (take i indexed)) ++ map file_number one.chunks = ap (map file_number) spread ∙ map-append file_number (places (take i indexed)) one.chunks in
    let all : greatest (map file_number (places (take (i + 1) indexed))) ≡ max (greatest (map file_number (places (take i indexed)))) (greatest (map file_number one.chunks)) =
    ap greatest numbers ∙ greatest-append (map file_number (places (take i indexed))) (map file_number one.chunks) in
    let told : more ≡ max last (greatest (map file_number one.chunks)) = is ∙ ap (λ (xs : List ChunkPlace). max last (greatest (map file_number xs))) lent in
    told ∙ ap (λ (n : ℕ). max n (greatest (map file_number one.chunks))) far ∙ sym all

pub last_end : (last : ℕ) (indexed : List IndexSeries) (i : ℕ) → last ≡ last_segment (take i indexed) → length indexed ≤ i → last ≡ last_segment indexed
last_end last indexed i far le = far ∙ ap last_segment (take_all i indexed le)

numbers_most : (places : List ChunkPlace) → greatest (map file_number places) ≤ 999_999
unfolding greatest
numbers_most [] = omega arith
numbers_most (place ∷ places) = let most = numbers_most places in omega (arith, most)

pub last_most : (indexed : List IndexSeries) → last_segment indexed ≤ 999_999
unfolding last_segment
last_most indexed = numbers_most (flat_map (λ (s : IndexSeries). s.chunks) indexed)
