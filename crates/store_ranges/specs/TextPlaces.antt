-- Texts that stand in one text, each from one place up to another.
use Rattle.std.specs.Prelude.{◌≡◌, ℕ, ◌-◌, ◌≤◌, List, length, map, take, drop, sum_by}
use Rattle.std.specs.List.{All}
use Rattle.std.specs.Str.{IsCharBoundary}
use Rattle.store_ranges.specs.declared.span.Span.{Span}

abbrev pub text_at : List ℕ → Span → List ℕ
text_at all place = take (place.end - place.start) (drop place.start all)

-- they stand within the text, and cut no character
abbrev pub IsTextAt : List ℕ → Span → Type 0
IsTextAt all place = (place.start ≤ place.end) × IsCharBoundary all place.start × IsCharBoundary all place.end

abbrev pub texts_at : List ℕ → List Span → List (List ℕ)
texts_at all places = map (text_at all) places

-- The text has texts at these places, and is no more than these.
pub record AreTextsAt (all : List ℕ) (places : List Span) : Type 0 where
  pub are_texts : All (IsTextAt all) places
  pub no_more : sum_by length (texts_at all places) ≡ length all
