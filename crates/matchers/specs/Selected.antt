-- Which samples a query asks for, and what answers it.
use Rattle.std.specs.Prelude.{ℤ, List, Bool, ◌&&◌}
use Rattle.std.specs.Ordering.{int_cmp, is_le}
use Rattle.std.specs.List.{filter}
use Rattle.label_sets.specs.Triples.{Triple, IsDeduplication}
use Rattle.matchers.specs.declared.matcher.Matcher.{Matcher}
use Rattle.matchers.specs.Selectors.{is_match}

-- whether a time is from low to high, both included
abbrev pub is_between : ℤ → ℤ → ℤ → Bool
is_between low high time = is_le (int_cmp low time) && is_le (int_cmp time high)

-- whether all matchers accept the labels, and the time is within the range
unfoldable pub is_selected : List Matcher → ℤ → ℤ → Triple → Bool
is_selected selector low high t = is_match selector t.labels && is_between low high t.time

-- those of the samples that the query asks for
unfoldable pub selected : List Matcher → ℤ → ℤ → List Triple → List Triple
selected selector low high list = filter (is_selected selector low high) list

-- The answer to a query over these samples: the deduplication of those that the query asks for.
abbrev pub IsQueryAnswer : List Matcher → ℤ → ℤ → List Triple → List Triple → Type 0
IsQueryAnswer selector low high answer held = IsDeduplication answer (selected selector low high held)
