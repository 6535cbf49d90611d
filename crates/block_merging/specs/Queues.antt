-- The series of blocks on their way into a merge: each block's in the order of their reduced labels, taken from the front.
use Rattle.std.specs.Prelude.{◌≡◌, ◌≢◌, ℕ, ◌+◌, ◌<◌, ◌≤◌, nat_lt, List, [], ◌∷◌, ◌++◌, map, drop, length, slice_index_or, Bool, false, ◌&&◌, Option, None, Some, Contains, if◌then◌else◌}
use Rattle.std.specs.List.{filter, flat_map, AllByRecursion}
use Rattle.std.specs.Ordering.{is_lt, is_eq}
use Rattle.base.specs.Ordered.{in_order, Rises}
use Rattle.base.specs.Lists.{joined}
use Rattle.base.specs.Grammar.{IsBytes}
use Rattle.label_sets.specs.declared.label.Label.{Label}
use Rattle.label_sets.specs.Labels.{compare_sets, IsLabelSet}
use Rattle.label_sets.specs.Finals.{reduced_of}
use Rattle.index_parts.specs.declared.chunk_place.ChunkPlace.{ChunkPlace}
use Rattle.index_parts.specs.Opened.{Opened}
use Rattle.index_parts.specs.declared.index_series.IndexSeries.{IndexSeries}
use Rattle.index_parts.specs.IndexFile.{IsSeriesOf, IsIndex}
use Rattle.index_v2.specs.Held.{Held, whole_file}
use Rattle.index_v2.specs.LentLabels.{as_label}
use Rattle.block_meta.specs.declared.block_files.BlockFiles.{BlockFiles}
use Rattle.block_content.specs.Content.{StandsAt}
use Rattle.block_writing.specs.Put.{PutChunk, PutSeries}
use Rattle.block_writing.specs.Writing.{chunk_in}
use Rattle.block_merging.specs.declared.listing.ListedSeries.{ListedSeries}
use Rattle.block_merging.specs.declared.listing.SeriesPlace.{SeriesPlace}
use Rattle.block_merging.specs.declared.series_queue.SeriesQueue.{SeriesQueue}
use Rattle.block_merging.specs.Inputs.{AreTaken, taken}
use Rattle.block_merging.specs.MergedBlock.{has_labels}

-- ---- series by their labels

abbrev pub have_lesser_labels : PutSeries → PutSeries → Bool
have_lesser_labels one other = is_lt (compare_sets one.labels other.labels)

-- Both have the same series under each label set, in the same order.
abbrev pub AreAlike : List PutSeries → List PutSeries → Type 0
AreAlike one other = (labels : List Label) → filter (has_labels labels) one ≡ filter (has_labels labels) other

-- the chunks of all series, one series after another
abbrev pub chunks_of : List PutSeries → List PutChunk
chunks_of all = flat_map (λ s. s.chunks) all

-- ---- the places of a block's series

-- the labels under which a series is listed
abbrev pub listed_labels : ListedSeries → List Label
listed_labels one = map as_label one.labels.items

-- a series with its number
abbrev pub listed_pair : ListedSeries → ℕ × IndexSeries
listed_pair one = (one.number, one.series.now)

abbrev pub place_pair : SeriesPlace → ℕ × IndexSeries
place_pair place = (place.number, place.indexed.value)

-- no label of a series is left out
abbrev pub LosesNothing : List Label → List (List ℕ) → IndexSeries → Type 0
LosesNothing external replicas series = reduced_of series.labels external replicas ≡ series.labels

abbrev pub IsReducedAs : List Label → List (List ℕ) → ListedSeries → Type 0
IsReducedAs external replicas one = listed_labels one ≡ reduced_of one.series.now.labels external replicas

abbrev pub is_listed_before : ListedSeries → ListedSeries → Bool
is_listed_before one other = is_lt (compare_sets (listed_labels one) (listed_labels other))

-- whether a series has lesser reduced labels
abbrev pub is_reduced_before : List Label → List (List ℕ) → ℕ × IndexSeries → ℕ × IndexSeries → Bool
is_reduced_before external replicas one other = is_lt (compare_sets (reduced_of one.1.labels external replicas) (reduced_of other.1.labels external replicas))

-- The series were listed under their reduced labels, each with its number.
pub record AreListed (external : List Label) (replicas : List (List ℕ)) (numbers : List ℕ) (indexed : List IndexSeries) (made : List ListedSeries) : Type 0 where
  pub reduced : AllByRecursion (IsReducedAs external replicas) made
  pub numbers_are : map (λ one. one.number) made ≡ numbers
  pub series_are : map (λ one. one.series.now) made ≡ indexed

-- The reader is that of the whole opened index, and these are the numbers of its series.
pub record IsOpenedIndex (opened : Opened) (listed : List (ℕ × IndexSeries)) (reader : Held) (numbers : List ℕ) : Type 0 where
  pub reader_is : reader ≡ whole_file opened
  pub numbers_are : numbers ≡ map (λ one. one.0) listed

-- ---- what is left of a block

-- the chunk that a place names is there
abbrev pub IsStanding : List (List ℕ) → ChunkPlace → Type 0
IsStanding segments place = (content : List ℕ) × StandsAt segments place content

abbrev pub HasStanding : List (List ℕ) → IndexSeries → Type 0
HasStanding segments series = AllByRecursion (IsStanding segments) series.chunks

-- Under the place's number stands its series.
abbrev pub IsRead : Held → SeriesPlace → Type 0
IsRead held place = IsSeriesOf held.bytes held.symbols place.number place.indexed.value

-- These are the reduced labels and the chunks of the series behind so many, if there is one.
pub record IsNext (external : List Label) (replicas : List (List ℕ)) (places : List SeriesPlace) (taken : ℕ) (labels : List Label) (chunks : List ChunkPlace) : Type 0 where
  pub labels_are : (d : SeriesPlace) → taken < length places → labels ≡ reduced_of (slice_index_or places taken d).indexed.value.labels external replicas
  pub chunks_are : (d : SeriesPlace) → taken < length places → chunks ≡ (slice_index_or places taken d).indexed.value.chunks
  pub lawful : taken < length places → IsLabelSet labels

-- the reduced labels of the next series, and the places of its chunks
abbrev pub labels_in : SeriesQueue → List Label
labels_in queue = map as_label queue.labels.items

abbrev pub places_in : SeriesQueue → List ChunkPlace
places_in queue = queue.chunks.items

-- Each series can be read, its chunks are there, and the next one was read.
pub record IsQueue (external : List Label) (replicas : List (List ℕ)) (queue : SeriesQueue) : Type 0 where
  pub within : queue.taken ≤ length queue.places.items
  pub read : AllByRecursion (IsRead queue.reader) queue.places.items
  pub stand : AllByRecursion (λ place. HasStanding queue.block.now.segments place.indexed.value) queue.places.items
  pub next : IsNext external replicas queue.places.items queue.taken (labels_in queue) (places_in queue)

-- the series that are left
abbrev pub left_in : List Label → List (List ℕ) → SeriesQueue → List PutSeries
left_in external replicas queue = map (λ place. taken external replicas queue.block.now.segments place.indexed.value) (drop queue.taken queue.places.items)

-- a series that comes next, as one that is put
abbrev pub next_in : SeriesQueue → PutSeries
next_in queue = record { labels = labels_in queue; chunks = map (chunk_in queue.block.now.segments) (places_in queue) }

abbrev pub head_is : SeriesQueue → List Label → Bool → Type 0
head_is queue labels result = result ≡ (nat_lt queue.taken (length queue.places.items) && is_eq (compare_sets (labels_in queue) labels))

-- The next series was let go.
pub record HasAdvanced (external : List Label) (replicas : List (List ℕ)) (old new : SeriesQueue) : Type 0 where
  pub is : IsQueue external replicas new
  pub left : left_in external replicas old ≡ next_in old ∷ left_in external replicas new
  pub counted : new.taken ≡ old.taken + 1
  pub as_many : length new.places.items ≡ length old.places.items

-- The series of a block, which holds something that can be read, are those that are left, in the order of their labels.
pub record HasQueue (external : List Label) (replicas : List (List ℕ)) (block : BlockFiles) (queue : SeriesQueue) : Type 0 where
  pub series : List IndexSeries
  pub index_is : IsIndex block.index series
  pub bytes : IsBytes block.index
  pub is : IsQueue external replicas queue
  pub left : left_in external replicas queue ≡ in_order have_lesser_labels (map (taken external replicas block.segments) series)

-- ---- what is left of all blocks

abbrev pub lefts_in : List Label → List (List ℕ) → List SeriesQueue → List (List PutSeries)
lefts_in external replicas queues = map (left_in external replicas) queues

pub record HasQueues (external : List Label) (replicas : List (List ℕ)) (blocks : List BlockFiles) (queues : List SeriesQueue) : Type 0 where
  pub all : List PutSeries
  pub are : AreTaken external replicas blocks all
  pub bytes : AllByRecursion (λ block. IsBytes block.index) blocks
  pub each : AllByRecursion (IsQueue external replicas) queues
  pub rise : AllByRecursion (Rises have_lesser_labels) (lefts_in external replicas queues)
  pub alike : AreAlike (joined (lefts_in external replicas queues)) all

-- Some series has these labels, which are a label set, and none has lesser ones.
pub record IsLeastOf (labels : List Label) (all : List PutSeries) : Type 0 where
  pub among : (s : PutSeries) × Contains all s × (s.labels ≡ labels)
  pub least : AllByRecursion (λ s. is_lt (compare_sets s.labels labels) ≡ false) all
  pub lawful : IsLabelSet labels

-- the least labels, where there is a series
abbrev pub LeastIs : Option (List Label) → List PutSeries → Type 0
LeastIs None all = all ≡ []
LeastIs (Some labels) all = IsLeastOf labels all

abbrev pub lesser : Option (List Label) → Option (List Label) → Option (List Label)
lesser None other = other
lesser (Some one) None = Some one
lesser (Some one) (Some other) = if is_lt (compare_sets other one) then Some other else Some one

-- All series with these labels were taken from the front, and their chunks were added behind others.
pub record IsFrontOf (labels : List Label) (old new : List PutSeries) (before after : List PutChunk) : Type 0 where
  pub front : List PutSeries
  pub whole : old ≡ front ++ new
  pub same : AllByRecursion (λ s. s.labels ≡ labels) front
  pub others : (s : PutSeries) (left : List PutSeries) → new ≡ s ∷ left → s.labels ≢ labels
  pub chunks : after ≡ before ++ chunks_of front

-- They were taken from the front of each list; these are their chunks.
abbrev pub TakesGroup : List Label → List (List PutSeries) → List (List PutSeries) → List PutChunk → Type 0
TakesGroup labels [] [] chunks = chunks ≡ []
TakesGroup labels (old ∷ olds) (new ∷ news) chunks = (own others : List PutChunk) × IsFrontOf labels old new [] own × TakesGroup labels olds news others × (chunks ≡ own ++ others)
TakesGroup labels _ _ chunks = ⊥
