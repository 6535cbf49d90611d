-- What reading a whole index gives a caller.
use Rattle.std.specs.Prelude.{◌≡◌, ◌⊎◌, ◌+◌, ◌*◌, ◌≤◌, ℕ, List, [], ◌∷◌, length, sum_by, All, IfOk, Result, Ok, Err, Contains}
use Rattle.std.specs.Result.{IsOkAnd}
use Rattle.base.specs.Reading.{Gives}
use Rattle.index_parts.specs.declared.postings_row.PostingsRow.{PostingsRow}
use Rattle.index_parts.specs.declared.refusal.PartRefusal.TheVariants.{Short}
use Rattle.index_parts.specs.Parts.{HoldsSection}
use Rattle.index_parts.specs.Opened.{Opened}
use Rattle.index_parts.specs.IndexFile.{IsIndex, series_unit}
use Rattle.index_parts.specs.declared.index_series.IndexSeries.{IndexSeries}
use Rattle.index_v2.specs.declared.refusal.IndexRefusal.{IndexRefusal}
use Rattle.index_v2.specs.declared.refusal.IndexRefusal.TheVariants.{NoMemory, BadSeries, PostingsDiffer}
use Rattle.index_v2.specs.Held.{Held, IsWhole, IsHeldOf, opened_of, whole_file}
use Rattle.index_v2.specs.PostingsLists.{postings_of}
use Rattle.index_v2.specs.Sizes.{members_of}
use Rattle.index_v2.specs.WholeReading.{present_at, whole_at}
use Rattle.index_v2.specs.Differing.{DifferFirstAt}

pub record GivesWhole (held : Held) (result : Result (List IndexSeries) IndexRefusal) : Type 0 where
  -- A whole file is read exactly where its bytes are an index of the list.
  pub found : IsWhole held → IfOk result (λ list. IsIndex held.bytes list)
  pub only : (list : List IndexSeries) → IsIndex held.bytes list → IsOkAnd result (λ found. found ≡ list) ⊎ (result ≡ Err NoMemory)
  -- The lists are said to differ at a place exactly where the series that the first row lists and the lists of all rows stand,
  -- and it is the first place of the table at which the lists are not exactly those of the series. Only memory may run out first.
  pub differs : IsWhole held → (place : ℕ) → result ≡ Err (PostingsDiffer place) → DifferFirstAt (opened_of held) place
  pub differing : IsWhole held → (place : ℕ) → DifferFirstAt (opened_of held) place → (result ≡ Err (PostingsDiffer place)) ⊎ (result ≡ Err NoMemory)
  -- the first refusal
  pub exact : Gives NoMemory (λ (list : List IndexSeries). list) result (whole_at held)
  -- Where parts are there, the first listed series is not; and where no series would be read it is as of the whole index.
  pub absent : (number : ℕ) (numbers : List ℕ) → held.bytes ≡ [] → postings_of held [] [] ≡ Ok (number ∷ numbers) → present_at held.toc (number ∷ numbers) ≡ Ok tt
      → (result ≡ Err (BadSeries number (Short (series_unit * number)))) ⊎ (result ≡ Err NoMemory)
  pub same : (opened : Opened) → IsHeldOf held opened → ((row : PostingsRow) → Contains held.rows row → HoldsSection held.lists row.offset)
      → ((number : ℕ) (numbers : List ℕ) → postings_of held [] [] ≡ Ok (number ∷ numbers) → present_at held.toc (number ∷ numbers) ≡ Ok tt → ⊥)
      → Gives NoMemory (λ (list : List IndexSeries). list) result (whole_at (whole_file opened))
  -- what it takes: together the series have no more labels and chunks than the file has bytes
  pub bounded : IfOk result (λ list. sum_by members_of list ≤ length held.bytes)
  pub few : IsWhole held → IfOk result (λ list. (4 * length list ≤ length held.bytes) × All (λ series. 2 * length series.labels + 3 * length series.chunks ≤ length held.bytes) list)
