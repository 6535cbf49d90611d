-- Whether places ascend, told place by place.
use Rattle.std.proofs.Common.{◌≡◌, ℕ, ◌+◌, ◌<◌, ◌≤◌, List, ◌∷◌, ◌++◌, Bool, true, false, ◌&&◌, length, drop, get_or, Option, None, Some, sym, ap, ◌∙◌}
use Rattle.std.proofs.lemmas.List.{drop_more, drop_all}
use Rattle.index_parts.specs.declared.chunk_place.ChunkPlace.{ChunkPlace}
use Rattle.index_parts.specs.declared.index_series.IndexSeries.{IndexSeries}
use Rattle.block_content.specs.StoredPlaces.{place_number, places_of, comes_behind, ascend}

-- what is left decides
abbrev pub AscendSoFar : List IndexSeries → Option ℕ → ℕ → Type 0
AscendSoFar indexed before i = ascend None (places_of indexed) ≡ ascend before (places_of (drop i indexed))

-- within the chunks of one series
abbrev pub AscendWithin : List IndexSeries → List ChunkPlace → Option ℕ → ℕ → ℕ → Type 0
AscendWithin indexed chunks before i j = ascend None (places_of indexed) ≡ ascend before (drop j chunks ++ places_of (drop (i + 1) indexed))

module _ (indexed : List IndexSeries) (i : ℕ) where
  pub ascend_in : (one d : IndexSeries) (chunks : List ChunkPlace) (before : Option ℕ) → AscendSoFar indexed before i → i < length indexed → one ≡ get_or indexed i d → chunks ≡ one.chunks → AscendWithin indexed chunks before i 0
  ascend_in one d chunks before far lt at are =
      let up : drop i indexed ≡ one ∷ drop (i + 1) indexed = drop_more indexed i d lt ∙ ap (λ (x : IndexSeries). x ∷ drop (i + 1) indexed) (sym at) in
      far ∙ ap (λ (xs : List IndexSeries). ascend before (places_of xs)) up ∙ ap (λ (xs : List ChunkPlace). ascend before (xs ++ places_of (drop (i + 1) indexed))) (sym are)

  module _ (chunks : List ChunkPlace) (before : Option ℕ) where
    at_place : (j : ℕ) (place d : ChunkPlace) → j < length chunks → place ≡ get_or chunks j d → AscendWithin indexed chunks before i j
        → ascend None (places_of indexed) ≡ (comes_behind before (place_number place) && ascend (Some (place_number place)) (drop (j + 1) chunks ++ places_of (drop (i + 1) indexed)))
    unfolding ascend
    at_place j place d lt at far =
        far ∙ ap (λ (xs : List ChunkPlace). ascend before (xs ++ places_of (drop (i + 1) indexed))) (drop_more chunks j d lt ∙ ap (λ (x : ChunkPlace). x ∷ drop (j + 1) chunks) (sym at))

    pub ascend_step : (j number : ℕ) (place d : ChunkPlace) (r : Bool) → AscendWithin indexed chunks before i j → j < length chunks → place ≡ get_or chunks j d → number ≡ place_number place → r ≡ comes_behind before number → r ≡ true → AscendWithin indexed chunks (Some number) i (j + 1)
    ascend_step j number place d r far lt at is told passed =
        let behind : comes_behind before (place_number place) ≡ true = ap (comes_behind before) (sym is) ∙ sym told ∙ passed in
        at_place j place d lt at far ∙ ap (λ (b : Bool). b && ascend (Some (place_number place)) (drop (j + 1) chunks ++ places_of (drop (i + 1) indexed))) behind
        ∙ ap (λ (n : ℕ). ascend (Some n) (drop (j + 1) chunks ++ places_of (drop (i + 1) indexed))) (sym is)

    pub ascend_stop : (j number : ℕ) (place d : ChunkPlace) (r : Bool) → AscendWithin indexed chunks before i j → j < length chunks → place ≡ get_or chunks j d → number ≡ place_number place → r ≡ comes_behind before number → r ≡ false → false ≡ ascend None (places_of indexed)
    ascend_stop j number place d r far lt at is told failed =
        let not_behind : comes_behind before (place_number place) ≡ false = ap (comes_behind before) (sym is) ∙ sym told ∙ failed in
        sym (at_place j place d lt at far ∙ ap (λ (b : Bool). b && ascend (Some (place_number place)) (drop (j + 1) chunks ++ places_of (drop (i + 1) indexed))) not_behind)

    pub ascend_out : (j : ℕ) → AscendWithin indexed chunks before i j → length chunks ≤ j → AscendSoFar indexed before (i + 1)
    ascend_out j far le = far ∙ ap (λ (xs : List ChunkPlace). ascend before (xs ++ places_of (drop (i + 1) indexed))) (drop_all j chunks le)

pub ascend_end : (indexed : List IndexSeries) (before : Option ℕ) (i : ℕ) → AscendSoFar indexed before i → length indexed ≤ i → true ≡ ascend None (places_of indexed)
unfolding ascend
ascend_end indexed before i far le = sym (far ∙ ap (λ (xs : List IndexSeries). ascend before (places_of xs)) (drop_all i indexed le))
