-- Runs that are put one after another.
use Rattle.std.proofs.Common.{◌≡◌, ◌≢◌, ℕ, zero, suc, ◌+◌, ◌-◌, ◌^◌, ◌<◌, ◌≤◌, true, false, List, [], ◌∷◌, ◌++◌, length, map, take, drop, get_or, Result, Ok, Err, refl, sym, ap, subst, ◌∙◌, length-append, take-append-drop, arith, ℤ, append-nil}
use Rattle.std.specs.Prelude.{Any, Contains, OnOk, ◌≤ℤ◌, ◌<ℤ◌}
use Rattle.std.specs.List.{AllByRecursion, filter, AllZip}
use Rattle.std.specs.Ordering.{int_cmp, is_lt}
use Rattle.std.proofs.lemmas.Int.{ints, by_lt_z}
use Rattle.std.proofs.lemmas.Bool.{true≢false}
use Rattle.std.proofs.lemmas.Grind.{flat_map-append}
use Rattle.std.proofs.lemmas.List.{map-append, get_or-drop, get_or-take, drop-drop, length-take, length-drop, length-map, nil_from_length, take_all}
use borrow.Author.Count.{below_more}
use Rattle.base.specs.Ordered.{in_order}
use Rattle.base.proofs.Lists.{drop_none, joined-push}
use Rattle.base.proofs.Membership.{no_member, contains_first, contains_later, each_member, all_members, of_in_order, into_in_order, of_map, into_map}
use Rattle.base.proofs.StableSorts.{NoneLess, Rises, Rises-in_order}
use Rattle.base.proofs.Integers.{le_itself, lt_le}
use Rattle.base.proofs.Pairs.{AllZip-append}
use Rattle.base.specs.Lists.{joined}
use Rattle.label_sets.specs.declared.label.Label.{Label}
use Rattle.label_sets.specs.declared.sample.Sample.{Sample}
use Rattle.block_meta.specs.Lawful.{AreLawfulTimes}
use Rattle.block_writing.specs.Put.{PlanFields, PutChunk, PutSeries, Put, IsStored, IsAfterChunks, IsAfterSeries, fitted, with_series}
use Rattle.block_writing.specs.Built.{IsEncoded, StandsFor}
use Rattle.block_writing.proofs.DataLaws.{data_rise}
use Rattle.block_merging.specs.declared.input_chunk.InputChunk.{InputChunk}
use Rattle.block_merging.specs.declared.placed_chunk.PlacedChunk.{PlacedChunk}
use Rattle.block_merging.specs.Placed.{chunk_of, placed_chunk, placed_from, begins_before, stands_before, AreByBegin, IsFirstRun}
use Rattle.block_merging.specs.Runs.{Meet, AreConnected, Span, lies_in, AreRuns}
use Rattle.block_merging.specs.MergedSeries.{Becomes, HasMerged}
use Rattle.block_merging.specs.Steps.{run_in, HasRun, HasRuns, EndBefore, AreSwept, HasSwept}
use Rattle.block_merging.proofs.Chains.{any_of, Chained, chained_crossed, connected_from}
use Rattle.block_merging.proofs.PlacedOrders.{begins_ranked, stands_ranked, places_ascend, chunks_placed}
use Rattle.block_merging.proofs.Spans.{Swept, swept_runs, joined_more}

get_same : (chunks : List PlacedChunk) (k : ℕ) (d e : PlacedChunk) → k < length chunks → get_or chunks k d ≡ get_or chunks k e
get_same [] k d e lt = absurd (omega (arith, lt))
get_same (c ∷ cs) zero d e lt = refl
get_same (c ∷ cs) (suc k) d e lt = get_same cs k d e (omega (arith, lt))

-- ---- parts of lists

all_take : (P : PutChunk → Type 0) (n : ℕ) (xs : List PlacedChunk) → AllByRecursion P (map placed_chunk xs) → AllByRecursion P (map placed_chunk (take n xs))
all_take P zero [] all = tt
all_take P zero (x ∷ xs) all = tt
all_take P (suc n) [] all = tt
all_take P (suc n) (x ∷ xs) all = (all.0, all_take P n xs all.1)

all_drop : (P : PutChunk → Type 0) (n : ℕ) (xs : List PlacedChunk) → AllByRecursion P (map placed_chunk xs) → AllByRecursion P (map placed_chunk (drop n xs))
all_drop P zero [] all = tt
all_drop P zero (x ∷ xs) all = all
all_drop P (suc n) [] all = tt
all_drop P (suc n) (x ∷ xs) all = all_drop P n xs all.1

pub by_drop : (k : ℕ) (xs : List PlacedChunk) → AreByBegin xs → AreByBegin (drop k xs)
by_drop k xs by = record {
  timed = λ j d lt. subst (λ (c : PlacedChunk). c.chunk.min ≤ℤ c.chunk.max) (sym (get_or-drop k xs j d)) (by.timed (k + j) d (omega (arith, lt, length-drop k xs)));
  sorted = λ i j d le lt. subst (λ (c : PlacedChunk). c.chunk.min ≤ℤ (get_or (drop k xs) j d).chunk.min) (sym (get_or-drop k xs i d))
      (subst (λ (c : PlacedChunk). (get_or xs (k + i) d).chunk.min ≤ℤ c.chunk.min) (sym (get_or-drop k xs j d)) (by.sorted (k + i) (k + j) d (omega (arith, le)) (omega (arith, lt, length-drop k xs))));
}

-- what is left, as a slice up to the end
pub left_is : (start : ℕ) (sorted : List PlacedChunk) → take (length sorted - start) (drop start sorted) ≡ drop start sorted
left_is start sorted = take_all (length sorted - start) (drop start sorted) (omega (arith, length-drop start sorted))

-- ---- a run is connected

chained_at : (part : List PlacedChunk) (k : ℕ) (rest : List PlacedChunk) (front : List PutChunk) → rest ≡ drop k part → 0 < k
    → ((j : ℕ) → j < k → (d : PlacedChunk) → Contains front (placed_chunk (get_or part j d)))
    → ((i : ℕ) (d : PlacedChunk) → 0 < i → i < length part → (j : ℕ) × (j < i) × Meet (placed_chunk (get_or part i d)) (placed_chunk (get_or part j d))) → Chained front (map placed_chunk rest)
chained_at part k [] front is some has chained = tt
chained_at part k (r ∷ rs) front is some has chained =
    let lt : k < length part = omega (arith, ap length is, length-drop k part) in
    let zero_more : k + 0 ≡ k = omega arith in
    let here : r ≡ get_or part k r = ap (λ l. get_or l 0 r) is ∙ get_or-drop k part 0 r ∙ ap (λ n. get_or part n r) zero_more in
    let w = chained k r some lt in
    let behind : rs ≡ drop (k + 1) part = ap (drop 1) is ∙ drop-drop 1 k part in (
      any_of (Meet (placed_chunk r)) front (placed_chunk (get_or part w.0 r)) (has w.0 w.1 r) (subst (λ (c : PlacedChunk). Meet (placed_chunk c) (placed_chunk (get_or part w.0 r))) (sym here) w.2),
      chained_at part (k + 1) rs (placed_chunk r ∷ front) behind (omega arith)
          (below_more (λ j. (d : PlacedChunk) → Contains (placed_chunk r ∷ front) (placed_chunk (get_or part j d))) k
          (λ j below d. contains_later (placed_chunk r) (placed_chunk (get_or part j d)) front (has j below d))
          (λ d. subst (λ (c : PlacedChunk). Contains (placed_chunk r ∷ front) (placed_chunk c)) (here ∙ get_same part k r d lt) (contains_first (placed_chunk r) front)))
          chained,
    )

first_there : (x : PlacedChunk) (xs : List PlacedChunk) (j : ℕ) (d : PlacedChunk) → j < 1 → Contains (placed_chunk x ∷ []) (placed_chunk (get_or (x ∷ xs) j d))
first_there x xs zero d below = contains_first (placed_chunk x) []
first_there x xs (suc j) d below = absurd (omega (arith, below))

connected_part : (part : List PlacedChunk) → 0 < length part
    → ((i : ℕ) (d : PlacedChunk) → 0 < i → i < length part → (j : ℕ) × (j < i) × Meet (placed_chunk (get_or part i d)) (placed_chunk (get_or part j d))) → AreConnected (run_in part)
connected_part [] some chained = absurd (omega (arith, some))
connected_part (x ∷ xs) some chained =
    let chain : Chained (placed_chunk x ∷ []) (map placed_chunk xs) = chained_at (x ∷ xs) 1 xs (placed_chunk x ∷ []) (sym (drop_none xs)) (omega arith)
    (λ j below d. first_there x xs j d below) chained in
    connected_from (map placed_chunk (x ∷ xs)) (run_in (x ∷ xs))
    (λ c m. let w = of_map placed_chunk (x ∷ xs) c m in subst (Contains (run_in (x ∷ xs))) w.2 (into_map placed_chunk (in_order stands_before (x ∷ xs)) w.0 (into_in_order stands_before w.0 (x ∷ xs) w.1)))
    (λ c m. let w = of_map placed_chunk (in_order stands_before (x ∷ xs)) c m in subst (Contains (map placed_chunk (x ∷ xs))) w.2 (into_map placed_chunk (x ∷ xs) w.0 (of_in_order stands_before w.0 (x ∷ xs) w.1)))
    (λ side pass fail. chained_crossed side (placed_chunk x) (map placed_chunk xs) chain pass fail)
    (λ none. no_member (placed_chunk x) (subst (λ (l : List PutChunk). Contains l (placed_chunk x)) none (into_map placed_chunk (in_order stands_before (x ∷ xs)) x (into_in_order stands_before x (x ∷ xs) (contains_first x xs)))))

take_size : (n : ℕ) (left : List PlacedChunk) → n ≤ length left → length (take n left) ≡ n
take_size n left within = omega (arith, within, length-take n left)

connected_front : (left : List PlacedChunk) (n : ℕ) → IsFirstRun left n → AreConnected (run_in (take n left))
connected_front left n first =
    let size = take_size n left first.within in
    connected_part (take n left) (omega (arith, size, first.some)) (λ i d some lt.
    let below : i < n = omega (arith, size, lt) in
    let w = first.chained i d some below in
    let lower : w.0 < n = omega (arith, w.1, below) in (
      w.0,
      w.1,
      subst (λ (c : PlacedChunk). Meet (placed_chunk c) (placed_chunk (get_or (take n left) w.0 d))) (sym (get_or-take n left i d below))
          (subst (λ (c : PlacedChunk). Meet (placed_chunk (get_or left i d)) (placed_chunk c)) (sym (get_or-take n left w.0 d lower)) w.2),
    ))

ended_one : (left : List PlacedChunk) (n : ℕ) (x y : PlacedChunk) → AreByBegin left → IsFirstRun left n → Contains (take n left) x → Contains (drop n left) y → x.chunk.max <ℤ y.chunk.min
ended_one left n x y by first (k, k_lt, k_is) (j, j_lt, j_is) =
    let below : k < n = omega (arith, k_lt, take_size n left first.within) in
    let within : n + j < length left = omega (arith, j_lt, length-drop n left) in
    let x_is : get_or left k x ≡ x = sym (get_or-take n left k x below) ∙ k_is in
    let y_is : get_or left (n + j) x ≡ y = get_same left (n + j) x y within ∙ sym (get_or-drop n left j y) ∙ j_is in
    let all : (get_or left k x).chunk.max <ℤ (get_or left (n + j) x).chunk.min = lt_le (get_or left k x).chunk.max (get_or left n x).chunk.min (get_or left (n + j) x).chunk.min (first.ended k x below (omega (arith, within))) (by.sorted n (n + j) x (omega arith) within) in
    subst (λ (c : PlacedChunk). c.chunk.max <ℤ y.chunk.min) x_is (subst (λ (c : PlacedChunk). (get_or left k x).chunk.max <ℤ c.chunk.min) y_is all)

ended_apart : (left : List PlacedChunk) (n : ℕ) → AreByBegin left → IsFirstRun left n → EndBefore (map placed_chunk (take n left)) (map placed_chunk (drop n left))
ended_apart left n by first =
    all_members (λ c. AllByRecursion (λ (y : PutChunk). c.max <ℤ y.min) (map placed_chunk (drop n left))) (map placed_chunk (take n left)) (λ c m.
    let x = of_map placed_chunk (take n left) c m in
    subst (λ (d : PutChunk). AllByRecursion (λ (y : PutChunk). d.max <ℤ y.min) (map placed_chunk (drop n left))) x.2
    (all_members (λ (y : PutChunk). x.0.chunk.max <ℤ y.min) (map placed_chunk (drop n left)) (λ e k.
    let y = of_map placed_chunk (drop n left) e k in subst (λ (z : PutChunk). x.0.chunk.max <ℤ z.min) y.2 (ended_one left n x.0 y.0 by first x.1 y.1))))

areswept_more : (parts : List (List PlacedChunk)) (part left : List PlacedChunk) → AreSwept parts (part ++ left) → AreConnected (run_in part) → EndBefore (map placed_chunk part) (map placed_chunk left)
    → AreSwept (parts ++ part ∷ []) left
areswept_more [] part left swept connected before = (connected, before, tt)
areswept_more (p ∷ parts) part left swept connected before =
    (swept.0, subst (λ l. EndBefore (map placed_chunk p) (map placed_chunk l)) (sym (joined_more parts part left)) swept.1, areswept_more parts part left swept.2 connected before)

-- ---- what was put so far

pub record SweptSoFar (begin : Put) (labels : List Label) (sorted : List PlacedChunk) (start : ℕ) (now : Put) : Type 0 where
  pub within : start ≤ length sorted
  pub swept : List (List PlacedChunk)
  pub whole : joined swept ++ drop start sorted ≡ sorted
  pub apart : AreSwept swept (drop start sorted)
  pub made : List (List PutChunk)
  pub each : AllZip (Becomes labels) (map run_in swept) made
  pub parts : List (List Sample)
  pub read : AllZip StandsFor (joined made) parts
  pub plan_is : now.plan ≡ begin.plan
  pub series_are : now.series ≡ begin.series
  pub chunks_are : now.chunks ≡ joined made
  pub samples_are : now.samples ≡ fitted (begin.samples + length (joined parts))
  pub behind : AllByRecursion (λ c. IsAfterChunks now.chunks c.min) (map placed_chunk (drop start sorted))

pub none_swept : (begin : Put) (labels : List Label) (sorted : List PlacedChunk) → begin.chunks ≡ [] → begin.samples < 2 ^ 64 → SweptSoFar begin labels sorted 0 begin
none_swept begin labels sorted none counted = record {
  within = omega arith;
  swept = [];
  whole = drop_none sorted;
  apart = tt;
  made = [];
  each = tt;
  parts = [];
  read = tt;
  plan_is = refl;
  series_are = refl;
  chunks_are = none;
  samples_are = omega (arith, counted);
  behind = all_members (λ c. IsAfterChunks begin.chunks c.min) (map placed_chunk (drop 0 sorted)) (λ c m. subst (λ (l : List PutChunk). IsAfterChunks l c.min) (sym none) tt);
}

pub run_some : (left : List PlacedChunk) (n : ℕ) → IsFirstRun left n → 0 < length (take n left)
run_some left n first = omega (arith, take_size n left first.within, first.some)

pub run_stored : (begin : Put) (labels : List Label) (sorted : List PlacedChunk) (start n : ℕ) (now : Put) → AllByRecursion (IsStored begin.plan) (map placed_chunk sorted) → SweptSoFar begin labels sorted start now
    → AllByRecursion (IsStored now.plan) (map placed_chunk (take n (drop start sorted)))
run_stored begin labels sorted start n now stored h =
    subst (λ (p : PlanFields). AllByRecursion (IsStored p) (map placed_chunk (take n (drop start sorted)))) (sym h.plan_is)
    (all_take (IsStored begin.plan) n (drop start sorted) (all_drop (IsStored begin.plan) start sorted stored))

pub run_after : (begin : Put) (labels : List Label) (sorted : List PlacedChunk) (start n : ℕ) (now : Put) → SweptSoFar begin labels sorted start now → AllByRecursion (λ c. IsAfterChunks now.chunks c.min) (map placed_chunk (take n (drop start sorted)))
run_after begin labels sorted start n now h = all_take (λ c. IsAfterChunks now.chunks c.min) n (drop start sorted) h.behind

pub run_times : (begin : Put) (labels : List Label) (sorted : List PlacedChunk) (start : ℕ) (now : Put) → AreLawfulTimes begin.plan.min_time begin.plan.max_time → SweptSoFar begin labels sorted start now → AreLawfulTimes now.plan.min_time now.plan.max_time
run_times begin labels sorted start now times h = subst (λ (p : PlanFields). AreLawfulTimes p.min_time p.max_time) (sym h.plan_is) times

pub run_counted : (begin : Put) (labels : List Label) (sorted : List PlacedChunk) (start : ℕ) (now : Put) → SweptSoFar begin labels sorted start now → now.samples < 2 ^ 64
run_counted begin labels sorted start now h = omega (arith, h.samples_are)

pub sweep_more : (begin now new : Put) (labels : List Label) (sorted : List PlacedChunk) (start n : ℕ) → AreByBegin sorted → SweptSoFar begin labels sorted start now → IsFirstRun (drop start sorted) n
    → HasRun now labels (run_in (take n (drop start sorted))) new → SweptSoFar begin labels sorted (start + n) new
sweep_more begin now new labels sorted start n by h first has =
    let left : List PlacedChunk = drop start sorted in
    let part : List PlacedChunk = take n left in
    let after : drop n left ≡ drop (start + n) sorted = drop-drop n start sorted in
    let split : part ++ drop (start + n) sorted ≡ left = ap (λ l. part ++ l) (sym after) ∙ take-append-drop n left in
    let ended : EndBefore (map placed_chunk part) (map placed_chunk (drop (start + n) sorted)) = subst (λ l. EndBefore (map placed_chunk part) (map placed_chunk l)) after (ended_apart left n (by_drop start sorted by) first) in
    let made_is : joined (h.made ++ has.made ∷ []) ≡ joined h.made ++ has.made = joined-push h.made has.made in
    let parts_are : joined (h.parts ++ has.parts) ≡ joined h.parts ++ joined has.parts = flat_map-append (λ (p : List Sample). p) h.parts has.parts in
    record {
      within = omega (arith, h.within, first.within, length-drop start sorted);
      swept = h.swept ++ part ∷ [];
      whole = joined_more h.swept part (drop (start + n) sorted) ∙ ap (λ l. joined h.swept ++ l) split ∙ h.whole;
      apart = areswept_more h.swept part (drop (start + n) sorted) (subst (AreSwept h.swept) (sym split) h.apart) (connected_front left n first) ended;
      made = h.made ++ has.made ∷ [];
      each = subst (λ (l : List (List PutChunk)). AllZip (Becomes labels) l (h.made ++ has.made ∷ [])) (sym (map-append run_in h.swept (part ∷ []))) (AllZip-append (Becomes labels) (map run_in h.swept) (run_in part ∷ []) h.made (has.made ∷ []) h.each (has.becomes, tt));
      parts = h.parts ++ has.parts;
      read = subst (λ (l : List PutChunk). AllZip StandsFor l (h.parts ++ has.parts)) (sym made_is) (AllZip-append StandsFor (joined h.made) has.made h.parts has.parts h.read has.read);
      plan_is = has.plan_is ∙ h.plan_is;
      series_are = has.series_are ∙ h.series_are;
      chunks_are = has.chunks_are ∙ ap (λ (l : List PutChunk). l ++ has.made) h.chunks_are ∙ sym made_is;
      samples_are = omega (arith, has.samples_are, h.samples_are, ap length parts_are, length-append (joined h.parts) (joined has.parts));
      behind = all_members (λ c. IsAfterChunks new.chunks c.min) (map placed_chunk (drop (start + n) sorted)) (λ c m. has.behind c.min
          (all_members (λ d. d.max <ℤ c.min) (run_in part) (λ d k. let w = of_map placed_chunk (in_order stands_before part) d k in
          subst (λ (e : PutChunk). e.max <ℤ c.min) w.2 (each_member (λ (y : PutChunk). w.0.chunk.max <ℤ y.min) (map placed_chunk (drop (start + n) sorted)) c
          (each_member (λ x. AllByRecursion (λ (y : PutChunk). x.max <ℤ y.min) (map placed_chunk (drop (start + n) sorted))) (map placed_chunk part) (placed_chunk w.0) ended (into_map placed_chunk part w.0 (of_in_order stands_before w.0 part w.1))) m))));
    }

nothing_behind : (start : ℕ) (sorted : List PlacedChunk) → length sorted ≤ start → drop start sorted ≡ []
nothing_behind start sorted all = nil_from_length (drop start sorted) (omega (arith, all, length-drop start sorted))

pub all_swept : (begin : Put) (labels : List Label) (sorted : List PlacedChunk) (start : ℕ) (now : Put) → length sorted ≤ start → SweptSoFar begin labels sorted start now → HasSwept begin labels sorted now
all_swept begin labels sorted start now all h =
    let none = nothing_behind start sorted all in
    record {
      swept = h.swept;
      whole = sym (append-nil (joined h.swept)) ∙ ap (λ l. joined h.swept ++ l) (sym none) ∙ h.whole;
      apart = subst (AreSwept h.swept) none h.apart;
      made = h.made;
      each = h.each;
      parts = h.parts;
      read = h.read;
      plan_is = h.plan_is;
      series_are = h.series_are;
      chunks_are = h.chunks_are;
      samples_are = h.samples_are;
    }

-- ---- all runs

swept_same : (parts : List (List PlacedChunk)) (left : List PlacedChunk) → AreSwept parts left → Swept placed_chunk stands_before parts left
swept_same [] left swept = tt
swept_same (p ∷ parts) left swept = (swept.0, swept.1, swept_same parts left swept.2)

pub sorted_stored : (P : PutChunk → Type 0) (chunks : List InputChunk) (sorted : List PlacedChunk) → sorted ≡ in_order begins_before (placed_from 0 chunks) → AllByRecursion P (map chunk_of chunks) → AllByRecursion P (map placed_chunk sorted)
sorted_stored P chunks sorted is all = all_members P (map placed_chunk sorted) (λ c m. let w = of_map placed_chunk sorted c m in
    subst P w.2 (each_member P (map placed_chunk (placed_from 0 chunks)) (placed_chunk w.0) (subst (AllByRecursion P) (sym (chunks_placed 0 chunks)) all)
    (into_map placed_chunk (placed_from 0 chunks) w.0 (of_in_order begins_before w.0 (placed_from 0 chunks) (subst (λ l. Contains l w.0) is w.1)))))

less_time : (a b : ℤ) → a <ℤ b → is_lt (int_cmp a b) ≡ true
less_time a b h = grind (arith, ints)

not_less : (a b : ℤ) → is_lt (int_cmp a b) ≡ false → b ≤ℤ a
not_less a b e = by_lt_z a b (λ lt. absurd (true≢false (sym (less_time a b lt) ∙ e))) (λ le. le)

none_at : (x : PlacedChunk) (ys : List PlacedChunk) (k : ℕ) (d : PlacedChunk) → NoneLess begins_before x ys → k < length ys → x.chunk.min ≤ℤ (get_or ys k d).chunk.min
none_at x [] k d none lt = absurd (omega (arith, lt))
none_at x (y ∷ ys) zero d none lt = not_less y.chunk.min x.chunk.min none.0
none_at x (y ∷ ys) (suc k) d none lt = none_at x ys k d none.1 (omega (arith, lt))

rises_at : (xs : List PlacedChunk) (j k : ℕ) (d : PlacedChunk) → Rises begins_before xs → j ≤ k → k < length xs → (get_or xs j d).chunk.min ≤ℤ (get_or xs k d).chunk.min
rises_at [] j k d rises le lt = absurd (omega (arith, lt))
rises_at (x ∷ xs) zero zero d rises le lt = le_itself x.chunk.min
rises_at (x ∷ xs) zero (suc k) d rises le lt = none_at x xs k d rises.0 (omega (arith, lt))
rises_at (x ∷ xs) (suc j) zero d rises le lt = absurd (omega (arith, le))
rises_at (x ∷ xs) (suc j) (suc k) d rises le lt = rises_at xs j k d rises.1 (omega (arith, le)) (omega (arith, lt))

there : (xs : List PlacedChunk) (k : ℕ) (d : PlacedChunk) → k < length xs → Contains xs (get_or xs k d)
there xs k d lt = (k, lt, get_same xs k (get_or xs k d) d lt)

pub sorted_by : (plan : PlanFields) (chunks : List InputChunk) (sorted : List PlacedChunk) → sorted ≡ in_order begins_before (placed_from 0 chunks) → AllByRecursion (IsStored plan) (map chunk_of chunks) → AreByBegin sorted
sorted_by plan chunks sorted is stored = record {
  timed = λ k d lt. data_rise plan (placed_chunk (get_or sorted k d)) (each_member (IsStored plan) (map placed_chunk sorted) (placed_chunk (get_or sorted k d)) (sorted_stored (IsStored plan) chunks sorted is stored) (into_map placed_chunk sorted (get_or sorted k d) (there sorted k d lt)));
  sorted = λ j k d le lt. rises_at sorted j k d (subst (Rises begins_before) (sym is) (Rises-in_order begins_before begins_ranked (placed_from 0 chunks))) le lt;
}

placed_stored : (plan : PlanFields) (chunks : List InputChunk) (x : PlacedChunk) → AllByRecursion (IsStored plan) (map chunk_of chunks) → Contains (placed_from 0 chunks) x → x.chunk.min ≤ℤ x.chunk.max
placed_stored plan chunks x stored among = data_rise plan (placed_chunk x) (each_member (IsStored plan) (map placed_chunk (placed_from 0 chunks)) (placed_chunk x) (subst (AllByRecursion (IsStored plan)) (sym (chunks_placed 0 chunks)) stored) (into_map placed_chunk (placed_from 0 chunks) x among))

all_runs : (old new : Put) (labels : List Label) (chunks : List InputChunk) (sorted : List PlacedChunk) → sorted ≡ in_order begins_before (placed_from 0 chunks) → AllByRecursion (IsStored old.plan) (map chunk_of chunks)
    → HasSwept old labels sorted new → HasRuns old labels (map chunk_of chunks) new
all_runs old new labels chunks sorted is stored has = record {
  runs = map run_in has.swept;
  runs_are = subst (λ (l : List PutChunk). AreRuns l (map run_in has.swept)) (chunks_placed 0 chunks)
      (swept_runs placed_chunk begins_before stands_before begins_ranked stands_ranked (placed_from 0 chunks) has.swept (places_ascend 0 chunks) (λ x m. placed_stored old.plan chunks x stored m) (has.whole ∙ is) (swept_same has.swept [] has.apart));
  made = has.made;
  each = has.each;
  parts = has.parts;
  read = has.read;
  plan_is = has.plan_is;
  series_are = has.series_are;
  chunks_are = has.chunks_are;
  samples_are = has.samples_are;
}

pub runs_told : {U E : Type 0} (r : Result U E) (old new : Put) (labels : List Label) (chunks : List InputChunk) (sorted : List PlacedChunk) → sorted ≡ in_order begins_before (placed_from 0 chunks) → AllByRecursion (IsStored old.plan) (map chunk_of chunks)
    → OnOk r (HasSwept old labels sorted new) → OnOk r (HasRuns old labels (map chunk_of chunks) new)
runs_told (Err e) old new labels chunks sorted is stored ok = tt
runs_told (Ok x) old new labels chunks sorted is stored ok = all_runs old new labels chunks sorted is stored ok

-- ---- the series

no_parts : (parts : List (List Sample)) → AllZip IsEncoded parts [] → joined parts ≡ []
no_parts [] each = refl
no_parts (p ∷ parts) each = absurd each

becomes_some : (labels : List Label) (run made : List PutChunk) → AreConnected run → Becomes labels run made → made ≢ []
becomes_some labels [] made connected becomes none = connected.some refl
becomes_some labels (c ∷ []) made connected becomes none = absurd (let e : [] ≡ c ∷ [] = sym none ∙ becomes in cc)
becomes_some labels (c ∷ d ∷ run) made connected becomes none =
    becomes.kept_is.inhabited 0 becomes.kept (omega arith) (sym becomes.made_is.whole ∙ no_parts becomes.made_is.parts (subst (AllZip IsEncoded becomes.made_is.parts) none becomes.made_is.chunks))

front_none : (xs ys : List PutChunk) → xs ++ ys ≡ [] → xs ≡ []
front_none [] ys e = refl
front_none (x ∷ xs) ys e = absurd cc

made_some : (labels : List Label) (runs made : List (List PutChunk)) → AllByRecursion AreConnected runs → AllZip (Becomes labels) runs made → runs ≢ [] → joined made ≢ []
made_some labels [] made connected each some none = some refl
made_some labels (r ∷ runs) [] connected each some none = absurd each
made_some labels (r ∷ runs) (m ∷ made) connected each some none = becomes_some labels r m connected.0 each.0 (front_none m (joined made) none)

no_span : (P : Span → Type 0) (spans : List Span) → spans ≡ [] → Any P spans → ⊥
no_span P spans e any = absurd (omega (arith, any.2, ap length e))

runs_some : (chunks : List PutChunk) (runs : List (List PutChunk)) → AreRuns chunks runs → chunks ≢ [] → runs ≢ []
runs_some [] runs are some none = some refl
runs_some (c ∷ chunks) runs are some none =
    let spans : are.spans ≡ [] = nil_from_length are.spans (omega (arith, ap length none, ap length are.runs_are, length-map are.spans (λ span. filter (lies_in span) (c ∷ chunks)))) in
    no_span (λ span. lies_in span c ≡ true) are.spans spans (are.covered 0 c (omega arith))

pub chunks_some : (old now : Put) (labels : List Label) (chunks : List PutChunk) → HasRuns old labels chunks now → chunks ≢ [] → now.chunks ≢ []
chunks_some old now labels chunks has some none = made_some labels has.runs has.made has.runs_are.connected has.each (runs_some chunks has.runs has.runs_are some) (sym has.chunks_are ∙ none)

map_some : (chunks : List InputChunk) → chunks ≢ [] → map chunk_of chunks ≢ []
map_some [] some none = some refl
map_some (c ∷ cs) some none = absurd cc

pub mapped_some : (old now : Put) (labels : List Label) (chunks : List InputChunk) → HasRuns old labels (map chunk_of chunks) now → chunks ≢ [] → now.chunks ≢ []
mapped_some old now labels chunks has some = chunks_some old now labels (map chunk_of chunks) has (map_some chunks some)

pub after_same : (old now : Put) (labels : List Label) (chunks : List PutChunk) → HasRuns old labels chunks now → IsAfterSeries old.series labels → IsAfterSeries now.series labels
after_same old now labels chunks has after = subst (λ (l : List PutSeries). IsAfterSeries l labels) (sym has.series_are) after

whole_put : (old now new : Put) (labels : List Label) (chunks : List PutChunk) → HasRuns old labels chunks now → new ≡ with_series now labels → HasMerged old labels chunks new
whole_put old now new labels chunks has is =
    let put : PutSeries = record { labels = labels; chunks = now.chunks } in
    record {
      put = put;
      put_is = record { runs = has.runs; runs_are = has.runs_are; made = has.made; each = has.each; labels_are = refl; chunks_are = has.chunks_are };
      series = record { labels = labels; samples = joined has.parts };
      series_is = record { parts = has.parts; chunks_are = subst (λ (l : List PutChunk). AllZip StandsFor l has.parts) (sym has.chunks_are) has.read; labels_are = refl; samples_are = refl };
      plan_is = ap (λ (p : Put). p.plan) is ∙ has.plan_is;
      series_are = ap (λ (p : Put). p.series) is ∙ ap (λ (l : List PutSeries). l ++ put ∷ []) has.series_are;
      nothing_left = ap (λ (p : Put). p.chunks) is;
      samples_are = ap (λ (p : Put). p.samples) is ∙ has.samples_are;
    }

pub series_told : {U E : Type 0} (r : Result U E) (old now new : Put) (labels : List Label) (chunks : List PutChunk) → HasRuns old labels chunks now → OnOk r (new ≡ with_series now labels) → OnOk r (HasMerged old labels chunks new)
series_told (Err e) old now new labels chunks has ok = tt
series_told (Ok x) old now new labels chunks has ok = whole_put old now new labels chunks has ok
