-- The parts of a lawful script stay lawful as lines are added.
use Rattle.std.proofs.Common.{◌≡◌, ℕ, zero, suc, ◌+◌, ◌^◌, ◌<◌, ◌≤◌, ℤ, pos, negsuc, neg_ℤ, ◌≤ℤ◌, Bool, true, false, ◌==◌, ◌||◌, nat_eq, List, [], ◌∷◌, ◌++◌, length, map, get_or, refl, sym, ap, ◌∙◌, subst, arith, inl, inr}
use Rattle.std.specs.List.{All, AllByRecursion, IsDistinct, list_any}
use Rattle.std.specs.List.Sorted.{IsStrictlySortedBy, IsNonDecreasingBy}
use Rattle.std.specs.Cmp.{IsTotalOrder}
use Rattle.std.specs.Ordering.{match_ordering, ordering_reverse}
use Rattle.std.specs.declared.cmp.Ordering.{Ordering}
use Rattle.std.specs.declared.cmp.Ordering.TheVariants.{Less, Equal, Greater}
use Rattle.std.proofs.lemmas.Bool.{cases_lt, or_parts}
use Rattle.std.proofs.lemmas.Bool.Decides.{nat_tests}
use Rattle.std.proofs.lemmas.Cmp.{lists_total, nat_eq_equiv, then_total, on_total, nat_list_cmp_total}
use Rattle.std.proofs.lemmas.Int.{ints}
use Rattle.std.proofs.lemmas.List.{length-append, get_or_at, get_or_append_left, map-append}
use Rattle.std.proofs.lemmas.Map.Keys.{IsDistinct-push}
use Rattle.label_sets.specs.Labels.{compare_sets}
use Rattle.label_sets.specs.declared.label.Label.{Label}
use Rattle.label_sets.specs.declared.series.Series.{Series}
use Rattle.script_core.specs.declared.block.Block.{Block}
use Rattle.std.proofs.lemmas.List.Quantifiers.{all_pairs_push}
use Rattle.script_workers.specs.Works.{is_compaction, has_compaction, CompactOnce}
use Rattle.script_workers.specs.declared.phase.Phase.{Phase}
use Rattle.script_workers.specs.declared.task.Task.{Task}
use Rattle.script_fields.specs.Values.{is_time}
use Rattle.script_core.specs.State.{insert_series}
use Rattle.script_core.specs.Blocks.{declares}
use Rattle.base.proofs.Lists.{last_or_none}

-- ---- ends of lists

pub All-front : {A : Type 0} (P : A → Type 0) (xs : List A) (x : A) → All P (xs ++ x ∷ []) → All P xs
All-front P xs x all k d below =
    subst P (get_or_append_left xs (x ∷ []) d k below) (all k d (omega (arith, length-append xs (x ∷ []))))

pub All-last : {A : Type 0} (P : A → Type 0) (xs : List A) (x : A) → All P (xs ++ x ∷ []) → P x
All-last P xs x all =
    subst P (get_or_at xs x [] x (length xs) refl) (all (length xs) x (omega (arith, length-append xs (x ∷ []))))

-- ---- times

pub near_low : (time : ℤ) → is_time time ≡ true → neg_ℤ (pos (2 ^ 62)) ≤ℤ time
near_low (pos n) near = omega (arith, ints)
near_low (negsuc n) near = let l : n < 2 ^ 62 = grind (arith, nat_tests) in omega (arith, ints)

pub near_high : (time : ℤ) → is_time time ≡ true → time ≤ℤ pos (2 ^ 62)
near_high (pos n) near = let l : n ≤ 2 ^ 62 = grind (arith, nat_tests) in omega (arith, ints)
near_high (negsuc n) near = omega (arith, ints)

-- ---- series in order

abbrev pub labels_of : List Series → List (List Label)
labels_of series = map (λ (one : Series). one.labels) series

pub sets_total : IsTotalOrder compare_sets
sets_total = lists_total (then_total (on_total (λ (l : Label). l.name) nat_list_cmp_total) (on_total (λ (l : Label). l.value) nat_list_cmp_total))

pub above_all : (labels : List (List Label)) (one other : List Label) → compare_sets one other ≡ Less → AllByRecursion (λ y. compare_sets other y ≡ Less) labels → AllByRecursion (λ y. compare_sets one y ≡ Less) labels
above_all [] one other below all = tt
above_all (first ∷ labels) one other below all =
    (sets_total.trans one other first below all.0, above_all labels one other below all.1)

all_insert_by : (series : List Series) (new first : Series) (one : List Label) (o : Ordering) → compare_sets one new.labels ≡ Less → AllByRecursion (λ y. compare_sets one y ≡ Less) (labels_of (first ∷ series)) → AllByRecursion (λ y. compare_sets one y ≡ Less) (labels_of (insert_series series new)) → AllByRecursion (λ y. compare_sets one y ≡ Less) (labels_of (match_ordering o (new ∷ first ∷ series) (record first { samples = new.samples } ∷ series) (first ∷ insert_series series new)))
all_insert_by series new first one Less below all later = (below, all)
all_insert_by series new first one Equal below all later = all
all_insert_by series new first one Greater below all later = (all.0, later)

all_insert : (series : List Series) (new : Series) (one : List Label) → compare_sets one new.labels ≡ Less → AllByRecursion (λ y. compare_sets one y ≡ Less) (labels_of series) → AllByRecursion (λ y. compare_sets one y ≡ Less) (labels_of (insert_series series new))
all_insert [] new one below all = (below, tt)
all_insert (first ∷ series) new one below all =
    all_insert_by series new first one (compare_sets new.labels first.labels) below all (all_insert series new one below all.1)

sorted_by : (series : List Series) (new first : Series) (o : Ordering) → compare_sets new.labels first.labels ≡ o → IsStrictlySortedBy compare_sets (labels_of (first ∷ series)) → IsStrictlySortedBy compare_sets (labels_of (insert_series series new)) → IsStrictlySortedBy compare_sets (labels_of (match_ordering o (new ∷ first ∷ series) (record first { samples = new.samples } ∷ series) (first ∷ insert_series series new)))
unfolding IsStrictlySortedBy
sorted_by series new first Less is sorted later =
    ((is, above_all (labels_of series) new.labels first.labels is sorted.0), sorted)
sorted_by series new first Equal is sorted later = sorted
sorted_by series new first Greater is sorted later =
    let below : compare_sets first.labels new.labels ≡ Less = sets_total.antisymm first.labels new.labels ∙ ap ordering_reverse is in
    (all_insert series new first.labels below sorted.0, later)

pub sorted_insert : (series : List Series) (new : Series) → IsStrictlySortedBy compare_sets (labels_of series) → IsStrictlySortedBy compare_sets (labels_of (insert_series series new))
unfolding IsStrictlySortedBy
sorted_insert [] new sorted = (tt, tt)
sorted_insert (first ∷ series) new sorted =
    sorted_by series new first (compare_sets new.labels first.labels) refl sorted (sorted_insert series new sorted.1)

-- ---- ULIDs

abbrev pub ulids_of : List Block → List ℕ
ulids_of blocks = map (λ (block : Block). block.ulid) blocks

-- the test of a declared ULID, as that of a member
declared_among : (blocks : List Block) (ulid : ℕ) → list_any (nat_eq ulid) (ulids_of blocks) ≡ declares blocks ulid
declared_among [] ulid = refl
declared_among (block ∷ blocks) ulid =
    let same : nat_eq ulid block.ulid ≡ (block.ulid == ulid) = grind (arith, nat_tests) in
    λ i. same i || declared_among blocks ulid i

pub once_push : (blocks : List Block) (block : Block) → IsDistinct nat_eq (ulids_of blocks) → declares blocks block.ulid ≡ false → IsDistinct nat_eq (ulids_of (blocks ++ block ∷ []))
once_push blocks block once fresh =
    subst (IsDistinct nat_eq) (sym (map-append (λ (b : Block). b.ulid) blocks (block ∷ [])))
    (IsDistinct-push nat_eq_equiv (ulids_of blocks) block.ulid once (declared_among blocks block.ulid ∙ fresh))

pub same_ulids : (blocks : List Block) (one other : Block) → one.ulid ≡ other.ulid → ulids_of (blocks ++ one ∷ []) ≡ ulids_of (blocks ++ other ∷ [])
same_ulids blocks one other same =
    map-append (λ (b : Block). b.ulid) blocks (one ∷ []) ∙ ap (λ u. ulids_of blocks ++ u ∷ []) same ∙ sym (map-append (λ (b : Block). b.ulid) blocks (other ∷ []))

-- ---- moments

abbrev Moments : List Phase → Type 0
Moments phases = IsNonDecreasingBy (λ (phase : Phase). phase.moment.ms) phases

-- no phase is later than the new one
to_new : (phases : List Phase) (new : Phase) → Moments phases → ((others : List Phase) (last : Phase) → phases ≡ others ++ last ∷ [] → last.moment.ms ≤ new.moment.ms) → (i : ℕ) (d : Phase) → i < length phases → (get_or phases i d).moment.ms ≤ new.moment.ms
to_new phases new moments later i d inside =
    elim (last_or_none phases) [
      | inl none ↦ absurd (omega (arith, ap length none))
      | inr more ↦
          let size : length phases ≡ length more.0 + 1 = ap length more.2 ∙ length-append more.0 (more.1 ∷ []) in
          let end : get_or phases (length more.0) d ≡ more.1 = ap (λ l. get_or l (length more.0) d) more.2 ∙ get_or_at more.0 more.1 [] d (length more.0) refl in
          let before = moments i (length more.0) d (omega arith) (omega arith) in
          let last = later more.0 more.1 more.2 in
          let same : (get_or phases (length more.0) d).moment.ms ≡ more.1.moment.ms = ap (λ (p : Phase). p.moment.ms) end in
          omega (arith, before, last, same)
    ]

to_last : (phases : List Phase) (new : Phase) → Moments phases → ((others : List Phase) (last : Phase) → phases ≡ others ++ last ∷ [] → last.moment.ms ≤ new.moment.ms) → (i : ℕ) (d : Phase) → i ≤ length phases → (get_or (phases ++ new ∷ []) i d).moment.ms ≤ new.moment.ms
to_last phases new moments later i d inside =
    elim (cases_lt i (length phases)) [
      | inl within ↦
          subst (λ (p : Phase). p.moment.ms ≤ new.moment.ms) (sym (get_or_append_left phases (new ∷ []) d i within)) (to_new phases new moments later i d within)
      | inr past ↦
          let at_end : length phases ≡ i = omega (arith, past) in
          subst (λ (p : Phase). p.moment.ms ≤ new.moment.ms) (sym (get_or_at phases new [] d i at_end)) (omega arith)
    ]

-- one more phase, not sooner than the last
pub moments_push : (phases : List Phase) (new : Phase) → Moments phases → ((others : List Phase) (last : Phase) → phases ≡ others ++ last ∷ [] → last.moment.ms ≤ new.moment.ms) → Moments (phases ++ new ∷ [])
moments_push phases new moments later i j d below inside =
    elim (cases_lt j (length phases)) [
      | inl within ↦
          let first : i < length phases = omega arith in
          subst (λ (p : Phase). p.moment.ms ≤ (get_or (phases ++ new ∷ []) j d).moment.ms) (sym (get_or_append_left phases (new ∷ []) d i first)) (subst (λ (p : Phase). (get_or phases i d).moment.ms ≤ p.moment.ms) (sym (get_or_append_left phases (new ∷ []) d j within)) (moments i j d below within))
      | inr past ↦
          let size = length-append phases (new ∷ []) in
          let at_end : length phases ≡ j = omega (arith, past) in
          let last_is : get_or (phases ++ new ∷ []) j d ≡ new = get_or_at phases new [] d j at_end in
          subst (λ (p : Phase). (get_or (phases ++ new ∷ []) i d).moment.ms ≤ p.moment.ms) (sym last_is) (to_last phases new moments later i d (omega arith))
    ]

-- ---- compactions

-- where no task is a compaction, none of them is
each_other : (tasks : List Task) → has_compaction tasks ≡ false → (k : ℕ) (d : Task) → k < length tasks → is_compaction (get_or tasks k d).work ≡ false
each_other [] none k d inside = absurd (omega (arith, inside))
each_other (task ∷ tasks) none zero d inside = (or_parts (is_compaction task.work) (has_compaction tasks) none).0
each_other (task ∷ tasks) none (suc k) d inside =
    each_other tasks (or_parts (is_compaction task.work) (has_compaction tasks) none).1 k d (omega (arith, inside))

-- another compaction would be the second one
not_second : (one other : Bool) → (other ≡ true → one ≡ false) → one ≡ true → other ≡ false
not_second one true first is = let none = first refl in absurd cc
not_second one false first is = refl

-- one more task, where it is no compaction or the first one
pub compacts_push : (tasks : List Task) (task : Task) → CompactOnce tasks → (is_compaction task.work ≡ true → has_compaction tasks ≡ false) → CompactOnce (tasks ++ task ∷ [])
compacts_push tasks task once first =
    all_pairs_push (λ (one other : Task). is_compaction one.work ≡ true → is_compaction other.work ≡ false) tasks task once
    (λ k d inside. not_second (is_compaction (get_or tasks k d).work) (is_compaction task.work) (λ is. each_other tasks (first is) k d inside))

pub compacts_nil : CompactOnce []
compacts_nil = λ i j d below inside. absurd (omega (arith, inside))
