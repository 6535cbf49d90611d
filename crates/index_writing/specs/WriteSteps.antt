-- What a call comes to that makes a text in steps, up to the greatest length of an index.
use Rattle.std.specs.Prelude.{◌≡◌, ℕ, ◌+◌, ◌*◌, ◌<◌, ◌≤◌, List, [], ◌∷◌, ◌++◌, length, Result, Ok, Err, ◌^◌}
use Rattle.wire_bytes.specs.Files.{file_limit}
use Rattle.index_parts.specs.declared.postings_row.PostingsRow.{PostingsRow}
use Rattle.index_parts.specs.declared.raw_series.RawSeries.{RawSeries}
use Rattle.index_parts.specs.Turns.{InOrder}
use Rattle.index_parts.specs.SeriesEntry.{IsSeries, StartsAfter}
use Rattle.index_parts.specs.IndexFile.{series_unit}
use Rattle.index_writing.specs.declared.write_refusal.IndexWriteRefusal.{IndexWriteRefusal}
use Rattle.index_writing.specs.declared.write_refusal.IndexWriteRefusal.TheVariants.{TooLarge, NoMemory}

-- the greatest length of an index: 64 MiB
abbrev pub greatest : ℕ
greatest = file_limit

-- how many numbers a section may have
abbrev pub most_numbers : ℕ
most_numbers = 2 ^ 24

-- It made exactly this text, which is not too long; or it says that the text is too long, or it wants memory.
abbrev pub Makes : {A : Type 0} → Result A IndexWriteRefusal → List ℕ → List ℕ → Type 0
Makes (Ok x) made text = (made ≡ text) × (length text ≤ greatest)
Makes (Err TooLarge) made text = greatest < length text
Makes (Err NoMemory) made text = Unit {0}

-- It gives this size, which is not too large; or it says that the size is too large.
abbrev pub Measures : Result ℕ IndexWriteRefusal → ℕ → Type 0
Measures (Ok found) size = (found ≡ size) × (size ≤ greatest)
Measures (Err TooLarge) size = greatest < size
Measures (Err NoMemory) size = ⊥

-- the least number of bytes of a text behind its length, and of a row of the postings table
abbrev pub text_size : List ℕ → ℕ
text_size text = 1 + length text

abbrev pub row_size : PostingsRow → ℕ
row_size row = 4 + length row.name + length row.value

-- Each series stands at sixteen times its number, whatever follows the text.
abbrev pub EachStands : List ℕ → List ℕ → List RawSeries → Type 0
EachStands text [] [] = Unit {0}
EachStands text [] (one ∷ series) = ⊥
EachStands text (number ∷ numbers) [] = ⊥
EachStands text (number ∷ numbers) (one ∷ series) = ((after : List ℕ) → IsSeries (text ++ after) (series_unit * number) one) × EachStands text numbers series

-- what a writer of a series asks of it
abbrev pub IsStorable : RawSeries → Type 0
IsStorable series = (length series.names ≡ length series.values) × InOrder StartsAfter series.chunks
