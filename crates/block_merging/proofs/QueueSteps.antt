-- The series of one block: listed, put in the order of their reduced labels, read again one after another.
use Rattle.std.proofs.Common.{◌≡◌, ◌≢◌, inl, inr, ℕ, zero, suc, ◌+◌, ◌^◌, ◌<◌, ◌≤◌, Bool, true, false, cond, ◌&&◌, List, [], ◌∷◌, ◌++◌, length, map, take, drop, get_or, refl, sym, ap, subst, ◌∙◌, append-nil, append_assoc, arith}
use Rattle.std.specs.Prelude.{Contains, zip, nat_lt, All}
use Rattle.std.specs.Cmp.{IsStrictWeakOrder}
use Rattle.std.specs.List.{AllByRecursion}
use Rattle.std.specs.List.Sorted.{IsStrictlyIncreasing}
use Rattle.std.specs.Ordering.{is_lt, is_eq}
use Rattle.std.proofs.lemmas.Bool.{lt-ltb, le-ltb, cases_lt, true≢false, and_parts}
use Rattle.std.proofs.lemmas.List.{map-append, take_more, take_all, drop_more, drop_all, length-map}
use Rattle.std.proofs.lemmas.List.Sorted.{ranks_by}
use Rattle.std.proofs.lemmas.Grind.{flat_map-append}
use Rattle.base.specs.Ordered.{placed, in_order}
use Rattle.base.proofs.Lists.{drop_none, take_none, zip_parts, AllByRecursion-push}
use Rattle.base.proofs.StableSorts.{NoneLess, Rises}
use Rattle.base.proofs.Membership.{contains_first, each_member, all_members, of_in_order, into_map}
use Rattle.base.specs.Grammar.{IsBytes}
use Rattle.label_sets.specs.declared.label.Label.{Label}
use Rattle.label_sets.specs.Labels.{compare_sets, IsLabelSet}
use Rattle.label_sets.specs.Finals.{reduced_of}
use Rattle.label_sets.proofs.FinalLabels.{IsLabelSet-reduced}
use Rattle.vertical_merge.proofs.Orders.{sets_total, set_itself}
use Rattle.index_parts.specs.declared.chunk_place.ChunkPlace.{ChunkPlace}
use Rattle.index_parts.specs.Opened.{Opened}
use Rattle.index_parts.specs.declared.index_series.IndexSeries.{IndexSeries}
use Rattle.index_parts.specs.IndexFile.{IsSeriesOf, AreNumbersOf, IsOpened, IsIndex}
use Rattle.index_v2.specs.Held.{Held, IsReaderOf, whole_file}
use Rattle.block_meta.specs.declared.block_files.BlockFiles.{BlockFiles}
use Rattle.block_writing.specs.Put.{PutChunk, PutSeries}
use Rattle.block_writing.specs.Writing.{chunk_in}
use Rattle.block_writing.proofs.Tested.{refused_at}
use Rattle.block_merging.specs.declared.listing.ListedSeries.{ListedSeries}
use Rattle.block_merging.specs.declared.listing.SeriesPlace.{SeriesPlace}
use Rattle.block_merging.specs.declared.series_queue.SeriesQueue.{SeriesQueue}
use Rattle.block_merging.specs.Inputs.{HasContent, taken}
use Rattle.block_merging.specs.Queues.{have_lesser_labels, chunks_of, listed_labels, listed_pair, place_pair, IsReducedAs, is_listed_before, is_reduced_before, AreListed, IsOpenedIndex, IsStanding, HasStanding, IsRead, IsNext, labels_in, places_in, IsQueue, left_in, next_in, head_is, HasAdvanced, HasQueue, IsLeastOf, IsFrontOf}
use Rattle.block_merging.proofs.Grouping.{same_labels, are_same}
use Rattle.block_merging.proofs.StandingData.{all_stand}
use Rattle.block_merging.proofs.UnderNumbers.{listed_small, numbers_listed}

-- ---- a list in another order, member by member

module _ {A B : Type 0} (f : A → B) (less : A → A → Bool) (low : B → B → Bool) (Q : A → Type 0) (agree : (x y : A) → Q x → Q y → less y x ≡ low (f y) (f x)) where
  chosen : (b : Bool) (x y : A) (ys others : List A) (mapped : List B) → map f others ≡ mapped → map f (cond b (y ∷ others) (x ∷ y ∷ ys)) ≡ cond b (f y ∷ mapped) (f x ∷ f y ∷ map f ys)
  chosen true x y ys others mapped e = ap (λ (l : List B). f y ∷ l) e
  chosen false x y ys others mapped e = refl

  placed_map : (x : A) (ys : List A) → Q x → AllByRecursion Q ys → map f (placed less x ys) ≡ placed low (f x) (map f ys)
  unfolding placed
  placed_map x [] q all = refl
  placed_map x (y ∷ ys) q all =
      chosen (less y x) x y ys (placed less x ys) (placed low (f x) (map f ys)) (placed_map x ys q all.1)
      ∙ ap (λ (b : Bool). cond b (f y ∷ placed low (f x) (map f ys)) (f x ∷ f y ∷ map f ys)) (agree x y q all.0)

  pub in_order_map : (xs : List A) → AllByRecursion Q xs → map f (in_order less xs) ≡ in_order low (map f xs)
  unfolding in_order
  in_order_map [] all = refl
  in_order_map (x ∷ xs) all =
      placed_map x (in_order less xs) all.0 (all_members Q (in_order less xs) (λ y among. each_member Q xs y all.1 (of_in_order less y xs among))) ∙ ap (placed low (f x)) (in_order_map xs all.1)

map_map : {A B C : Type 0} (g : B → C) (f : A → B) (xs : List A) → map g (map f xs) ≡ map (λ x. g (f x)) xs
map_map g f [] = refl
map_map {A} {B} {C} g f (x ∷ xs) = ap (λ (l : List C). g (f x) ∷ l) (map_map g f xs)

-- ---- a listing

pub listed_ranked : IsStrictWeakOrder is_listed_before
listed_ranked = ranks_by sets_total listed_labels

pub maps_more : {A B : Type 0} (f : A → B) (made new : List A) (x : A) (xs : List B) (k : ℕ) (d : B) → k < length xs → map f made ≡ take k xs → f x ≡ get_or xs k d → new ≡ made ++ x ∷ [] → map f new ≡ take (k + 1) xs
maps_more {A} {B} f made new x xs k d lt was is added =
    ap (map f) added ∙ map-append f made (x ∷ []) ∙ ap (λ (l : List B). l ++ f x ∷ []) was ∙ ap (λ (y : B). take k xs ++ y ∷ []) is ∙ sym (take_more xs k d lt)

pub record ListedSoFar (external : List Label) (replicas : List (List ℕ)) (numbers : List ℕ) (indexed : List IndexSeries) (place : ℕ) (made : List ListedSeries) : Type 0 where
  pub reduced : AllByRecursion (IsReducedAs external replicas) made
  pub numbers_are : map (λ one. one.number) made ≡ take place numbers
  pub series_are : map (λ one. one.series.now) made ≡ take place indexed

pub listed_none : (external : List Label) (replicas : List (List ℕ)) (numbers : List ℕ) (indexed : List IndexSeries) (made : List ListedSeries) → made ≡ [] → ListedSoFar external replicas numbers indexed 0 made
listed_none external replicas numbers indexed made none = record {
  reduced = subst (AllByRecursion (IsReducedAs external replicas)) (sym none) tt;
  numbers_are = ap (map (λ (one : ListedSeries). one.number)) none ∙ sym (take_none numbers);
  series_are = ap (map (λ (one : ListedSeries). one.series.now)) none ∙ sym (take_none indexed);
}

pub listed_more : (external : List Label) (replicas : List (List ℕ)) (numbers : List ℕ) (indexed : List IndexSeries) (place : ℕ) (made new : List ListedSeries) (one : ListedSeries) (d : ℕ) (e : IndexSeries) → length numbers ≡ length indexed → place < length indexed
    → ListedSoFar external replicas numbers indexed place made → IsReducedAs external replicas one → one.number ≡ get_or numbers place d → one.series.now ≡ get_or indexed place e → new ≡ made ++ one ∷ [] → ListedSoFar external replicas numbers indexed (place + 1) new
listed_more external replicas numbers indexed place made new one d e as_many lt h reduced number series added = record {
  reduced = subst (AllByRecursion (IsReducedAs external replicas)) (sym added) (AllByRecursion-push (IsReducedAs external replicas) made one h.reduced reduced);
  numbers_are = maps_more (λ (x : ListedSeries). x.number) made new one numbers place d (omega (arith, as_many, lt)) h.numbers_are number added;
  series_are = maps_more (λ (x : ListedSeries). x.series.now) made new one indexed place e lt h.series_are series added;
}

pub listed_all : (external : List Label) (replicas : List (List ℕ)) (numbers : List ℕ) (indexed : List IndexSeries) (place : ℕ) (made : List ListedSeries) → length numbers ≡ length indexed → length indexed ≤ place
    → ListedSoFar external replicas numbers indexed place made → AreListed external replicas numbers indexed made
listed_all external replicas numbers indexed place made as_many all h = record {
  reduced = h.reduced;
  numbers_are = h.numbers_are ∙ take_all place numbers (omega (arith, as_many, all));
  series_are = h.series_are ∙ take_all place indexed all;
}

pub zip_maps : {A B C : Type 0} (f : A → B) (g : A → C) (xs : List A) → map (λ x. (f x, g x)) xs ≡ zip (map f xs) (map g xs)
zip_maps f g [] = refl
zip_maps {A} {B} {C} f g (x ∷ xs) = ap (λ (l : List (B × C)). (f x, g x) ∷ l) (zip_maps f g xs)

agrees : (external : List Label) (replicas : List (List ℕ)) (x y : ListedSeries) → IsReducedAs external replicas x → IsReducedAs external replicas y → is_listed_before y x ≡ is_reduced_before external replicas (listed_pair y) (listed_pair x)
agrees external replicas x y p q =
    ap (λ (l : List Label). is_lt (compare_sets l (listed_labels x))) q ∙ ap (λ (l : List Label). is_lt (compare_sets (reduced_of y.series.now.labels external replicas) l)) p

pub places_are : (external : List Label) (replicas : List (List ℕ)) (numbers : List ℕ) (indexed : List IndexSeries) (made sorted items : List ListedSeries) (places : List SeriesPlace) → AreListed external replicas numbers indexed made → sorted ≡ in_order is_listed_before made → items ≡ sorted
    → map place_pair places ≡ map listed_pair items → map place_pair places ≡ in_order (is_reduced_before external replicas) (zip numbers indexed)
places_are external replicas numbers indexed made sorted items places are by same placed =
    placed ∙ ap (map listed_pair) (same ∙ by) ∙ in_order_map listed_pair is_listed_before (is_reduced_before external replicas) (IsReducedAs external replicas) (agrees external replicas) made are.reduced
    ∙ ap (in_order (is_reduced_before external replicas)) (zip_maps (λ (x : ListedSeries). x.number) (λ (x : ListedSeries). x.series.now) made ∙ ap (λ (l : List ℕ). zip l (map (λ (x : ListedSeries). x.series.now) made)) are.numbers_are ∙ ap (zip numbers) are.series_are)

-- ---- an index that is opened again

pub opened_index : (index : List ℕ) (list : List IndexSeries) (is : IsIndex index list) (reader : Held) (numbers : List ℕ) → ((opened : Opened) → opened.bytes ≡ index → IsOpened opened → reader ≡ whole_file opened) → IsStrictlyIncreasing numbers
    → ((bytes : List ℕ) (l : List IndexSeries) (too : IsIndex bytes l) → IsReaderOf reader too.opened → AreNumbersOf too.listed [] [] numbers) → IsOpenedIndex is.opened is.listed reader numbers
opened_index index list is reader numbers found rises agrees =
    let reader_is : reader ≡ whole_file is.opened = found is.opened is.bytes_are is.is_opened in
    record { reader_is = reader_is; numbers_are = numbers_listed is.opened is.listed numbers is.series_are rises (agrees index list is (inl (ap (λ (h : Held). h.bytes) reader_is))) }

-- ---- the series of a block that is opened

abbrev taken_pair : List Label → List (List ℕ) → List (List ℕ) → ℕ × IndexSeries → PutSeries
taken_pair external replicas segments one = taken external replicas segments one.1

lefts_are : (external : List Label) (replicas : List (List ℕ)) (block : BlockFiles) (list : List IndexSeries) (listed : List (ℕ × IndexSeries)) (places : List SeriesPlace) → map (λ one. one.1) listed ≡ list
    → map place_pair places ≡ in_order (is_reduced_before external replicas) listed
    → map (λ place. taken external replicas block.segments place.indexed.value) places ≡ in_order have_lesser_labels (map (taken external replicas block.segments) list)
lefts_are external replicas block list listed places list_is are =
    sym (map_map (taken_pair external replicas block.segments) place_pair places) ∙ ap (map (taken_pair external replicas block.segments)) are
    ∙ in_order_map (taken_pair external replicas block.segments) (is_reduced_before external replicas) have_lesser_labels (λ _. Unit {0}) (λ x y p q. refl) listed (all_members (λ _. Unit {0}) listed (λ x among. tt))
    ∙ ap (in_order have_lesser_labels) (sym (map_map (taken external replicas block.segments) (λ (one : ℕ × IndexSeries). one.1) listed) ∙ ap (map (taken external replicas block.segments)) list_is)

pub numbers_small : (index : List ℕ) (list : List IndexSeries) (is : IsIndex index list) (reader : Held) (numbers members : List ℕ) → IsOpenedIndex is.opened is.listed reader numbers → members ≡ numbers → All (λ n. n < 2 ^ 32) members
numbers_small index list is reader numbers members opened same =
    subst (All (λ n. n < 2 ^ 32)) (sym (same ∙ opened.numbers_are)) (listed_small is.opened.bytes is.opened.rows (map (λ (one : ℕ × IndexSeries). one.0) is.listed) is.series_are.numbers_are)

pub numbers_many : (index : List ℕ) (list items : List IndexSeries) (is : IsIndex index list) (reader : Held) (numbers members : List ℕ) → IsOpenedIndex is.opened is.listed reader numbers → members ≡ numbers → items ≡ list → length members ≡ length items
numbers_many index list items is reader numbers members opened same items_are =
    ap length (same ∙ opened.numbers_are) ∙ length-map is.listed (λ (one : ℕ × IndexSeries). one.0) ∙ sym (length-map is.listed (λ (one : ℕ × IndexSeries). one.1)) ∙ ap length (is.list_is ∙ sym items_are)

module _ (external : List Label) (replicas : List (List ℕ)) (block : BlockFiles) (list : List IndexSeries) (is : IsIndex block.index list) (reader : Held) (numbers members : List ℕ) (items : List IndexSeries) (places : List SeriesPlace) (opened : IsOpenedIndex is.opened is.listed reader numbers) (same : members ≡ numbers) (items_are : items ≡ list) (are : map place_pair places ≡ in_order (is_reduced_before external replicas) (zip members items)) where
  pairs_are : zip members items ≡ is.listed
  pairs_are = ap (λ (l : List ℕ). zip l items) (same ∙ opened.numbers_are) ∙ ap (zip (map (λ (one : ℕ × IndexSeries). one.0) is.listed)) (items_are ∙ sym is.list_is) ∙ zip_parts is.listed

  placed_are : map place_pair places ≡ in_order (is_reduced_before external replicas) is.listed
  placed_are = are ∙ ap (in_order (is_reduced_before external replicas)) pairs_are

  is_listed : (place : SeriesPlace) → Contains places place → Contains is.listed (place_pair place)
  is_listed place among = of_in_order (is_reduced_before external replicas) (place_pair place) is.listed (subst (λ (l : List (ℕ × IndexSeries)). Contains l (place_pair place)) placed_are (into_map place_pair places place among))

  pub each_read : AllByRecursion (IsRead reader) places
  each_read = all_members (IsRead reader) places (λ place among.
      subst (λ (h : Held). IsSeriesOf h.bytes h.symbols place.number place.indexed.value) (sym opened.reader_is) (is.series_are.stand place.number place.indexed.value (is_listed place among)))

  each_stand : IsBytes block.index → HasContent block → AllByRecursion (λ (place : SeriesPlace). HasStanding block.segments place.indexed.value) places
  each_stand bytes content = all_members (λ (place : SeriesPlace). HasStanding block.segments place.indexed.value) places (λ place among.
      each_member (HasStanding block.segments) list place.indexed.value (all_stand block list list block.segments refl refl is bytes content)
      (subst (λ (l : List IndexSeries). Contains l place.indexed.value) is.list_is (into_map (λ (one : ℕ × IndexSeries). one.1) is.listed (place_pair place) (is_listed place among))))

  pub queue_begins : (queue : SeriesQueue) → IsBytes block.index → HasContent block → queue.block.now ≡ block → queue.reader ≡ reader → queue.places.items ≡ places → queue.taken ≡ 0 → IsNext external replicas queue.places.items queue.taken (labels_in queue) (places_in queue)
      → HasQueue external replicas block queue
  queue_begins queue bytes content block_is reader_is places_are none next = record {
    series = list;
    index_is = is;
    bytes = bytes;
    is = record {
      within = omega (arith, none);
      read = subst (λ (h : Held). AllByRecursion (IsRead h) queue.places.items) (sym reader_is) (subst (AllByRecursion (IsRead reader)) (sym places_are) each_read);
      stand = subst (λ (b : BlockFiles). AllByRecursion (λ (place : SeriesPlace). HasStanding b.segments place.indexed.value) queue.places.items) (sym block_is)
          (subst (AllByRecursion (λ (place : SeriesPlace). HasStanding block.segments place.indexed.value)) (sym places_are) (each_stand bytes content));
      next = next;
    };
    left = ap (λ (b : BlockFiles). map (λ (place : SeriesPlace). taken external replicas b.segments place.indexed.value) (drop queue.taken queue.places.items)) block_is
        ∙ ap (map (λ (place : SeriesPlace). taken external replicas block.segments place.indexed.value)) (ap (λ (n : ℕ). drop n queue.places.items) none ∙ drop_none queue.places.items ∙ places_are)
        ∙ lefts_are external replicas block list is.listed places is.list_is placed_are;
  }

-- ---- the next series

any_d : (places : List SeriesPlace) (k : ℕ) (d e : SeriesPlace) → k < length places → get_or places k d ≡ get_or places k e
any_d [] k d e lt = absurd (omega (arith, lt))
any_d (x ∷ xs) zero d e lt = refl
any_d (x ∷ xs) (suc k) d e lt = any_d xs k d e (omega (arith, lt))

pub no_next : (external : List Label) (replicas : List (List ℕ)) (places : List SeriesPlace) (taken : ℕ) (labels : List Label) (chunks : List ChunkPlace) → length places ≤ taken → IsNext external replicas places taken labels chunks
no_next external replicas places taken labels chunks all = record { labels_are = λ d lt. absurd (omega (arith, all, lt)); chunks_are = λ d lt. absurd (omega (arith, all, lt)); lawful = λ lt. absurd (omega (arith, all, lt)) }

pub read_here : (held : Held) (places : List SeriesPlace) (taken number : ℕ) (place d : SeriesPlace) → AllByRecursion (IsRead held) places → taken < length places → place ≡ get_or places taken d → number ≡ place.number → (series : IndexSeries) × IsSeriesOf held.bytes held.symbols number series
read_here held places taken number place d all lt at number_is = (place.indexed.value, subst (λ (n : ℕ). IsSeriesOf held.bytes held.symbols n place.indexed.value) (sym number_is) (refused_at (IsRead held) places taken place d lt at all))

pub next_read : (external : List Label) (replicas : List (List ℕ)) (held : Held) (places : List SeriesPlace) (taken number : ℕ) (place d : SeriesPlace) (series : IndexSeries) (labels : List Label) (chunks : List ChunkPlace) → AllByRecursion (IsRead held) places → taken < length places → place ≡ get_or places taken d → number ≡ place.number
    → ((s : IndexSeries) → IsSeriesOf held.bytes held.symbols number s → series ≡ s) → labels ≡ reduced_of series.labels external replicas → chunks ≡ series.chunks → IsNext external replicas places taken labels chunks
next_read external replicas held places taken number place d series labels chunks all lt at number_is found labels_is chunks_is =
    let there : IsRead held place = refused_at (IsRead held) places taken place d lt at all in
    let read : series ≡ place.indexed.value = found place.indexed.value (subst (λ (n : ℕ). IsSeriesOf held.bytes held.symbols n place.indexed.value) (sym number_is) there) in
    record {
      labels_are = λ e within. labels_is ∙ ap (λ (s : IndexSeries). reduced_of s.labels external replicas) read ∙ ap (λ (p : SeriesPlace). reduced_of p.indexed.value.labels external replicas) (at ∙ any_d places taken d e lt);
      lawful = λ within. subst IsLabelSet (sym (labels_is ∙ ap (λ (s : IndexSeries). reduced_of s.labels external replicas) read)) (IsLabelSet-reduced place.indexed.value.labels external replicas there.lawful);
      chunks_are = λ e within. chunks_is ∙ ap (λ (s : IndexSeries). s.chunks) read ∙ ap (λ (p : SeriesPlace). p.indexed.value.chunks) (at ∙ any_d places taken d e lt);
    }

-- what is left begins with the next series
left_begins : (external : List Label) (replicas : List (List ℕ)) (queue : SeriesQueue) (d : SeriesPlace) → IsQueue external replicas queue → queue.taken < length queue.places.items
    → left_in external replicas queue ≡ next_in queue ∷ map (λ (place : SeriesPlace). taken external replicas queue.block.now.segments place.indexed.value) (drop (queue.taken + 1) queue.places.items)
left_begins external replicas queue d is lt =
    let rest : List PutSeries = map (λ (place : SeriesPlace). taken external replicas queue.block.now.segments place.indexed.value) (drop (queue.taken + 1) queue.places.items) in
    ap (map (λ (place : SeriesPlace). taken external replicas queue.block.now.segments place.indexed.value)) (drop_more queue.places.items queue.taken d lt)
    ∙ ap (λ (l : List Label). record { labels = l; chunks = map (chunk_in queue.block.now.segments) (get_or queue.places.items queue.taken d).indexed.value.chunks } ∷ rest) (sym (is.next.labels_are d lt))
    ∙ ap (λ (l : List ChunkPlace). record { labels = labels_in queue; chunks = map (chunk_in queue.block.now.segments) l } ∷ rest) (sym (is.next.chunks_are d lt))

some_place : (places : List SeriesPlace) → 0 < length places → SeriesPlace
some_place [] lt = absurd (omega (arith, lt))
some_place (p ∷ ps) lt = p

pub none_left : (external : List Label) (replicas : List (List ℕ)) (queue : SeriesQueue) → length queue.places.items ≤ queue.taken → left_in external replicas queue ≡ []
none_left external replicas queue all = ap (map (λ (place : SeriesPlace). taken external replicas queue.block.now.segments place.indexed.value)) (drop_all queue.taken queue.places.items all)

pub has_advanced : (external : List Label) (replicas : List (List ℕ)) (old new : SeriesQueue) → IsQueue external replicas old → old.taken < length old.places.items → new.block.now ≡ old.block.now → new.reader ≡ old.reader → new.places.items ≡ old.places.items → new.taken ≡ old.taken + 1
    → IsNext external replicas old.places.items new.taken (labels_in new) (places_in new) → HasAdvanced external replicas old new
has_advanced external replicas old new is lt block_is reader_is places_are taken_is next =
    let d = some_place old.places.items (omega (arith, lt)) in
    record {
      is = record {
        within = omega (arith, lt, taken_is, ap length places_are);
        read = subst (λ (h : Held). AllByRecursion (IsRead h) new.places.items) (sym reader_is) (subst (AllByRecursion (IsRead old.reader)) (sym places_are) is.read);
        stand = subst (λ (b : BlockFiles). AllByRecursion (λ (place : SeriesPlace). HasStanding b.segments place.indexed.value) new.places.items) (sym block_is)
            (subst (AllByRecursion (λ (place : SeriesPlace). HasStanding old.block.now.segments place.indexed.value)) (sym places_are) is.stand);
        next = subst (λ (l : List SeriesPlace). IsNext external replicas l new.taken (labels_in new) (places_in new)) (sym places_are) next;
      };
      left = left_begins external replicas old d is lt
          ∙ ap (λ (l : List SeriesPlace). next_in old ∷ map (λ (place : SeriesPlace). taken external replicas old.block.now.segments place.indexed.value) l) (sym (ap (λ (l : List SeriesPlace). drop new.taken l) places_are ∙ ap (λ (n : ℕ). drop n old.places.items) taken_is))
          ∙ ap (λ (b : BlockFiles). next_in old ∷ map (λ (place : SeriesPlace). taken external replicas b.segments place.indexed.value) (drop new.taken new.places.items)) (sym block_is);
      counted = taken_is;
      as_many = ap length places_are;
    }

-- ---- the least of one queue

least_first : (labels : List Label) (x : PutSeries) (xs : List PutSeries) → x.labels ≡ labels → NoneLess have_lesser_labels x xs → AllByRecursion (λ s. is_lt (compare_sets s.labels labels) ≡ false) xs
least_first labels x [] is none = tt
least_first labels x (y ∷ ys) is none = (subst (λ (l : List Label). is_lt (compare_sets y.labels l) ≡ false) is none.0, least_first labels x ys is none.1)

least_of : (labels : List Label) (x : PutSeries) (all xs : List PutSeries) → all ≡ x ∷ xs → x.labels ≡ labels → IsLabelSet labels → Rises have_lesser_labels all → IsLeastOf labels all
least_of labels x all xs whole is lawful rises =
    let up : Rises have_lesser_labels (x ∷ xs) = subst (Rises have_lesser_labels) whole rises in
    subst (IsLeastOf labels) (sym whole) (record {
      among = (x, contains_first x xs, is);
      least = (subst (λ (l : List Label). is_lt (compare_sets l labels) ≡ false) (sym is) (ap is_lt (set_itself labels)), least_first labels x xs is up.0);
      lawful = lawful;
    })

pub next_is_least : (external : List Label) (replicas : List (List ℕ)) (queue : SeriesQueue) (labels : List Label) → labels ≡ labels_in queue → queue.taken < length queue.places.items → IsQueue external replicas queue → Rises have_lesser_labels (left_in external replicas queue)
    → IsLeastOf labels (left_in external replicas queue)
next_is_least external replicas queue labels same lt is rises =
    let d = some_place queue.places.items (omega (arith, lt)) in
    least_of labels (next_in queue) (left_in external replicas queue) (map (λ (place : SeriesPlace). taken external replicas queue.block.now.segments place.indexed.value) (drop (queue.taken + 1) queue.places.items)) (left_begins external replicas queue d is lt) (sym same) (subst IsLabelSet (sym same) (is.next.lawful lt)) rises

-- ---- taking from the front

lt_of : (a b : ℕ) → nat_lt a b ≡ true → a < b
lt_of a b e = elim (cases_lt a b) [ inl lt ↦ lt | inr le ↦ absurd (true≢false (sym e ∙ le-ltb a b le)) ]

pub has_next_told : (queue : SeriesQueue) (labels : List Label) (b : Bool) → head_is queue labels b → b ≡ true → (queue.taken < length queue.places.items) × (labels_in queue ≡ labels)
has_next_told queue labels b is t =
    let p = and_parts (nat_lt queue.taken (length queue.places.items)) (is_eq (compare_sets (labels_in queue) labels)) (sym is ∙ t) in
    (lt_of queue.taken (length queue.places.items) p.0, same_labels (labels_in queue) labels p.1)

-- what was taken so far
pub record FrontSoFar (labels : List Label) (old now : List PutSeries) (before after : List PutChunk) : Type 0 where
  pub front : List PutSeries
  pub whole : old ≡ front ++ now
  pub same : AllByRecursion (λ s. s.labels ≡ labels) front
  pub chunks : after ≡ before ++ chunks_of front

pub front_begins : (labels : List Label) (left : List PutSeries) (chunks : List PutChunk) → FrontSoFar labels left left chunks chunks
front_begins labels left chunks = record { front = []; whole = refl; same = tt; chunks = sym (append-nil chunks) }

pub front_more : (labels : List Label) (old now new : List PutSeries) (before after more : List PutChunk) (x : PutSeries) → FrontSoFar labels old now before after → now ≡ x ∷ new → x.labels ≡ labels → more ≡ after ++ x.chunks → FrontSoFar labels old new before more
front_more labels old now new before after more x h next is added = record {
  front = h.front ++ x ∷ [];
  whole = h.whole ∙ ap (λ (l : List PutSeries). h.front ++ l) next ∙ sym (append_assoc h.front (x ∷ []) new);
  same = AllByRecursion-push (λ s. s.labels ≡ labels) h.front x h.same is;
  chunks = added ∙ ap (λ (l : List PutChunk). l ++ x.chunks) h.chunks ∙ append_assoc before (chunks_of h.front) x.chunks
      ∙ ap (λ (l : List PutChunk). before ++ l) (sym (flat_map-append (λ (s : PutSeries). s.chunks) h.front (x ∷ []) ∙ ap (λ (l : List PutChunk). chunks_of h.front ++ l) (append-nil x.chunks)));
}

nothing_next : (labels : List Label) (left : List PutSeries) → left ≡ [] → (s : PutSeries) (rest : List PutSeries) → left ≡ s ∷ rest → s.labels ≢ labels
nothing_next labels left none s rest is = absurd (let e : [] ≡ s ∷ rest = sym none ∙ is in cc)

other_next : (labels : List Label) (left : List PutSeries) (x : PutSeries) (xs : List PutSeries) → left ≡ x ∷ xs → (x.labels ≡ labels → ⊥) → (s : PutSeries) (rest : List PutSeries) → left ≡ s ∷ rest → s.labels ≢ labels
other_next labels left x xs whole apart s rest is same =
    let e : x ∷ xs ≡ s ∷ rest = sym whole ∙ is in
    let first : x ≡ s = cc in
    apart (ap (λ (p : PutSeries). p.labels) first ∙ same)

pub front_ends : (external : List Label) (replicas : List (List ℕ)) (queue : SeriesQueue) (labels : List Label) (b : Bool) (old : List PutSeries) (before after : List PutChunk) → IsQueue external replicas queue → head_is queue labels b → b ≡ false → FrontSoFar labels old (left_in external replicas queue) before after
    → IsFrontOf labels old (left_in external replicas queue) before after
front_ends external replicas queue labels b old before after is told f h = record {
  front = h.front;
  whole = h.whole;
  same = h.same;
  others = elim (cases_lt queue.taken (length queue.places.items)) [
    | inl lt ↦ other_next labels (left_in external replicas queue) (next_in queue) _ (left_begins external replicas queue (some_place queue.places.items (omega (arith, lt))) is lt)
        (λ same. true≢false (sym (ap (λ (x : Bool). x && is_eq (compare_sets (labels_in queue) labels)) (lt-ltb queue.taken (length queue.places.items) lt) ∙ are_same (labels_in queue) labels same) ∙ sym told ∙ f))
    | inr all ↦ nothing_next labels (left_in external replicas queue) (none_left external replicas queue all)
  ];
  chunks = h.chunks;
}

-- the chunks of the next series stand
pub next_stands : (external : List Label) (replicas : List (List ℕ)) (queue : SeriesQueue) (segments : List (List ℕ)) (places : List ChunkPlace) → IsQueue external replicas queue → queue.taken < length queue.places.items → segments ≡ queue.block.now.segments → places ≡ places_in queue → AllByRecursion (IsStanding segments) places
next_stands external replicas queue segments places is lt segments_are places_are =
    let d = some_place queue.places.items (omega (arith, lt)) in
    let there : HasStanding queue.block.now.segments (get_or queue.places.items queue.taken d).indexed.value = refused_at (λ (place : SeriesPlace). HasStanding queue.block.now.segments place.indexed.value) queue.places.items queue.taken (get_or queue.places.items queue.taken d) d lt refl is.stand in
    subst (λ (s : List (List ℕ)). AllByRecursion (IsStanding s) places) (sym segments_are) (subst (AllByRecursion (IsStanding queue.block.now.segments)) (sym (places_are ∙ is.next.chunks_are d lt)) there)

-- the chunks of the next series, behind those that were taken
pub chunks_next : (queue : SeriesQueue) (segments : List (List ℕ)) (places : List ChunkPlace) (before after : List PutChunk) → segments ≡ queue.block.now.segments → places ≡ places_in queue → after ≡ before ++ map (chunk_in segments) places → after ≡ before ++ (next_in queue).chunks
chunks_next queue segments places before after segments_are places_are added =
    added ∙ ap (λ (s : List (List ℕ)). before ++ map (chunk_in s) places) segments_are ∙ ap (λ (l : List ChunkPlace). before ++ map (chunk_in queue.block.now.segments) l) places_are

pub next_again : (external : List Label) (replicas : List (List ℕ)) (items places : List SeriesPlace) (taken : ℕ) (labels : List Label) (chunks : List ChunkPlace) → items ≡ places → IsNext external replicas items taken labels chunks → IsNext external replicas places taken labels chunks
next_again external replicas items places taken labels chunks same next = subst (λ (l : List SeriesPlace). IsNext external replicas l taken labels chunks) same next

pub head_then : (queue : SeriesQueue) (items labels : List Label) (b : Bool) → queue.taken < length queue.places.items → items ≡ labels_in queue → b ≡ is_eq (compare_sets items labels) → head_is queue labels b
head_then queue items labels b lt items_are told =
    told ∙ ap (λ (l : List Label). is_eq (compare_sets l labels)) items_are ∙ sym (ap (λ (x : Bool). x && is_eq (compare_sets (labels_in queue) labels)) (lt-ltb queue.taken (length queue.places.items) lt))

pub head_else : (queue : SeriesQueue) (labels : List Label) → length queue.places.items ≤ queue.taken → head_is queue labels false
head_else queue labels all = sym (ap (λ (x : Bool). x && is_eq (compare_sets (labels_in queue) labels)) (le-ltb queue.taken (length queue.places.items) all))
