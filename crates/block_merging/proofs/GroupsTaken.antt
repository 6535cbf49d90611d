-- Series that are taken in the order of their labels, one group of equal labels after another.
use Rattle.std.proofs.Common.{◌≡◌, ◌≢◌, ℕ, ◌+◌, ◌<◌, ◌-◌, ◌^◌, false, cond, List, [], ◌∷◌, ◌++◌, length, length-append, refl, sym, ap, subst, ◌∙◌, append-nil, append_assoc, arith, inl, inr}
use Rattle.std.specs.Prelude.{Contains}
use Rattle.std.specs.Cmp.{IsStrictWeakOrder}
use Rattle.std.specs.List.{AllByRecursion, filter, flat_map, sum_by}
use Rattle.std.specs.declared.cmp.Ordering.TheVariants.{Less, Equal, Greater}
use Rattle.std.specs.declared.cmp.Ordering.{Ordering}
use Rattle.std.specs.Ordering.{is_lt, is_eq, ordering_reverse}
use Rattle.std.proofs.lemmas.Bool.{true≢false}
use Rattle.std.proofs.lemmas.List.Elements.{filter-append, Contains-append_left, Contains-append_right, Contains-append_cases}
use Rattle.std.proofs.lemmas.List.Sorted.{ranks_by}
use Rattle.std.proofs.lemmas.List.Sums.{sum_by-append}
use Rattle.std.proofs.lemmas.Grind.{flat_map-append}
use Rattle.base.specs.Ordered.{placed, in_order}
use Rattle.base.proofs.Bools.{by_bool, by_order}
use Rattle.base.proofs.StableSorts.{NoneLess, Rises}
use Rattle.base.proofs.Lists.{filter_miss, AllByRecursion-append, AllByRecursion-weaker}
use Rattle.base.proofs.Membership.{no_member, each_member, all_members, member_passes, of_filter, into_filter, contains_place, of_flat_map, into_flat_map}
use Rattle.base.proofs.Pairs.{AllZip-append}
use Rattle.base.specs.Lists.{joined}
use Rattle.label_sets.specs.Counts.{sample_count}
use Rattle.label_sets.specs.declared.label.Label.{Label}
use Rattle.label_sets.specs.declared.series.Series.{Series}
use Rattle.label_sets.specs.Labels.{compare_sets}
use Rattle.label_sets.proofs.LabelValues.{same_set}
use Rattle.vertical_merge.proofs.Orders.{sets_total, set_itself}
use Rattle.block_meta.specs.Lawful.{AreLawfulTimes}
use Rattle.block_writing.specs.Put.{PutChunk, PutSeries, PlanFields, Put, IsStored, IsAfterSeries, nothing_put}
use Rattle.block_writing.proofs.Builds.{one_sum}
use Rattle.block_merging.specs.PutContent.{IsSeriesOf, AreSeriesOf}
use Rattle.block_merging.specs.MergedSeries.{IsMergedSeries}
use Rattle.block_merging.specs.MergedBlock.{has_labels, chunks_under, AreMerges}
use Rattle.block_merging.specs.MergeSteps.{HasGroup, HasAll}
use Rattle.block_merging.specs.Queues.{have_lesser_labels, AreAlike, chunks_of, IsLeastOf, IsFrontOf, TakesGroup}
use Rattle.block_merging.proofs.Filters.{filter_in_order}
use Rattle.block_merging.proofs.Grouping.{same_labels, are_same, not_itself, not_same, under_some, merged_same, merged_more, merges_none, HasItsLabels}

-- ---- the order of labels

pub labels_ranked : IsStrictWeakOrder have_lesser_labels
labels_ranked = ranks_by sets_total (λ (s : PutSeries). s.labels)

reversed : (a b : Ordering) → a ≡ ordering_reverse b → (a ≡ Greater) → b ≡ Less
reversed a Less e g = refl
reversed a Equal e g = absurd (let f : Greater ≡ Equal = sym g ∙ e in cc)
reversed a Greater e g = absurd (let f : Greater ≡ Less = sym g ∙ e in cc)

turned : (one other : List Label) → compare_sets one other ≡ Greater → compare_sets other one ≡ Less
turned one other g = reversed (compare_sets one other) (compare_sets other one) (sets_total.antisymm one other) g

-- labels that are others, and not less, are greater
pub not_before : (one other : List Label) → is_lt (compare_sets other one) ≡ false → one ≢ other → compare_sets one other ≡ Less
not_before one other none apart = by_order (compare_sets one other) (λ l. l) (λ e. absurd (apart (same_set one other e)))
    (λ g. absurd (true≢false (sym (ap is_lt (turned one other g)) ∙ none)))

pub less_on : (one other third : List Label) → compare_sets one other ≡ Less → is_lt (compare_sets third other) ≡ false → compare_sets one third ≡ Less
less_on one other third less none = by_order (compare_sets one third) (λ l. l)
    (λ e. absurd (true≢false (sym (ap is_lt (subst (λ l. compare_sets l other ≡ Less) (same_set one third e) less)) ∙ none)))
    (λ g. absurd (true≢false (sym (ap is_lt (sets_total.trans third one other (turned one third g) less)) ∙ none)))

-- what is not below other labels is not below those that are not above them
pub not_greater : (one other third : List Label) → is_lt (compare_sets other one) ≡ false → is_lt (compare_sets third other) ≡ false → is_lt (compare_sets third one) ≡ false
not_greater one other third low none =
    labels_ranked.chain (record { labels = third; chunks = [] }) (record { labels = other; chunks = [] }) (record { labels = one; chunks = [] }) none low

-- ---- lists with the same series under each label set

pub alike_append : (a b c d : List PutSeries) → AreAlike a b → AreAlike c d → AreAlike (a ++ c) (b ++ d)
alike_append a b c d ab cd = λ labels.
    filter-append (has_labels labels) a c ∙ ap (λ (l : List PutSeries). l ++ filter (has_labels labels) c) (ab labels) ∙ ap (λ (l : List PutSeries). filter (has_labels labels) b ++ l) (cd labels) ∙ sym (filter-append (has_labels labels) b d)

pub alike_chain : (a b c : List PutSeries) → AreAlike a b → AreAlike b c → AreAlike a c
alike_chain a b c ab bc = λ labels. ab labels ∙ bc labels

pub alike_back : (a b : List PutSeries) → AreAlike a b → AreAlike b a
alike_back a b ab = λ labels. sym (ab labels)

pub alike_same : (a b : List PutSeries) → a ≡ b → AreAlike a b
alike_same a b e = λ labels. ap (filter (has_labels labels)) e

pub member_alike : (a b : List PutSeries) (s : PutSeries) → AreAlike a b → Contains a s → Contains b s
member_alike a b s ab among = of_filter (has_labels s.labels) b s (subst (λ (l : List PutSeries). Contains l s) (ab s.labels) (into_filter (has_labels s.labels) a s among (are_same s.labels s.labels refl)))

placed_first : (x : PutSeries) (ys : List PutSeries) → AllByRecursion (λ y. have_lesser_labels y x ≡ false) ys → placed have_lesser_labels x ys ≡ x ∷ ys
unfolding placed
placed_first x [] none = refl
placed_first x (y ∷ ys) none = ap (λ b. cond b (y ∷ placed have_lesser_labels x ys) (x ∷ y ∷ ys)) none.0

not_lesser : (x y : PutSeries) (labels : List Label) → x.labels ≡ labels → y.labels ≡ labels → have_lesser_labels y x ≡ false
not_lesser x y labels is same = ap is_lt (ap (λ l. compare_sets l x.labels) same ∙ ap (compare_sets labels) is ∙ set_itself labels)

-- series with the same labels keep their order
in_place : (labels : List Label) (xs : List PutSeries) → AllByRecursion (λ x. x.labels ≡ labels) xs → in_order have_lesser_labels xs ≡ xs
unfolding in_order
in_place labels [] same = refl
in_place labels (x ∷ xs) same = ap (placed have_lesser_labels x) (in_place labels xs same.1) ∙ placed_first x xs (AllByRecursion-weaker (λ (y : PutSeries). y.labels ≡ labels) (λ y. have_lesser_labels y x ≡ false) (λ y e. not_lesser x y labels same.0 e) xs same.1)

-- a list that was put in the order of labels
pub in_order_alike : (xs : List PutSeries) → AreAlike (in_order have_lesser_labels xs) xs
in_order_alike xs = λ labels.
    filter_in_order have_lesser_labels labels_ranked (has_labels labels) xs
    ∙ in_place labels (filter (has_labels labels) xs) (all_members (λ (x : PutSeries). x.labels ≡ labels) (filter (has_labels labels) xs) (λ x among. same_labels x.labels labels (member_passes (has_labels labels) xs x among)))

chunks_alike : (one other : List PutSeries) → AreAlike one other → (labels : List Label) → chunks_under labels one ≡ chunks_under labels other
chunks_alike one other alike labels = ap (flat_map (λ (s : PutSeries). s.chunks)) (alike labels)

-- what is the merge of the one is that of the other
pub merges_alike : (one other merged : List PutSeries) → AreAlike one other → AreMerges one merged → AreMerges other merged
merges_alike one other merged alike h = record {
  ascend = h.ascend;
  some = AllByRecursion-weaker (λ s. chunks_under s.labels one ≢ []) (λ s. chunks_under s.labels other ≢ []) (λ s some none. some (chunks_alike one other alike s.labels ∙ none)) merged h.some;
  each = AllByRecursion-weaker (λ s. IsMergedSeries s.labels (chunks_under s.labels one) s) (λ s. IsMergedSeries s.labels (chunks_under s.labels other) s)
      (λ s each. subst (λ l. IsMergedSeries s.labels l s) (chunks_alike one other alike s.labels) each) merged h.each;
  complete = all_members (HasItsLabels merged) other (λ s among. each_member (HasItsLabels merged) one s h.complete (member_alike other one s (alike_back one other alike) among));
}

-- ---- a group that is taken

rises_right : (xs ys : List PutSeries) → Rises have_lesser_labels (xs ++ ys) → Rises have_lesser_labels ys
rises_right [] ys rises = rises
rises_right (x ∷ xs) ys rises = rises_right xs ys rises.1

all_right : (P : PutSeries → Type 0) (xs ys : List PutSeries) → AllByRecursion P (xs ++ ys) → AllByRecursion P ys
all_right P [] ys all = all
all_right P (x ∷ xs) ys all = all_right P xs ys all.1

all_left : (P : PutSeries → Type 0) (xs ys : List PutSeries) → AllByRecursion P (xs ++ ys) → AllByRecursion P xs
all_left P [] ys all = tt
all_left P (x ∷ xs) ys all = (all.0, all_left P xs ys all.1)

abbrev AreLater : List Label → List PutSeries → Type 0
AreLater labels all = AllByRecursion (λ s. compare_sets labels s.labels ≡ Less) all

later_ones : (labels : List Label) (z : PutSeries) (zs : List PutSeries) → compare_sets labels z.labels ≡ Less → NoneLess have_lesser_labels z zs → AreLater labels zs
later_ones labels z [] less none = tt
later_ones labels z (y ∷ ys) less none = (less_on labels z.labels y.labels less none.0, later_ones labels z ys less none.1)

-- what stands behind the front has greater labels
behind_front : (labels : List Label) (front new : List PutSeries) → Rises have_lesser_labels (front ++ new) → AllByRecursion (λ s. is_lt (compare_sets s.labels labels) ≡ false) (front ++ new)
    → ((s : PutSeries) (left : List PutSeries) → new ≡ s ∷ left → s.labels ≢ labels) → AreLater labels new
behind_front labels front [] rises least others = tt
behind_front labels front (z ∷ zs) rises least others =
    let low = all_right (λ s. is_lt (compare_sets s.labels labels) ≡ false) front (z ∷ zs) least in
    let next : compare_sets labels z.labels ≡ Less = not_before labels z.labels low.0 (λ e. others z zs refl (sym e)) in
    (next, later_ones labels z zs next (rises_right front (z ∷ zs) rises).0)

none_under : (labels : List Label) (xs : List PutSeries) → AllByRecursion (λ s. has_labels labels s ≡ false) xs → filter (has_labels labels) xs ≡ []
none_under labels [] all = refl
none_under labels (x ∷ xs) all = filter_miss (has_labels labels) x xs all.0 ∙ none_under labels xs all.1

others_under : (labels sought : List Label) (s : PutSeries) → is_eq (compare_sets labels sought) ≡ false → s.labels ≡ labels → has_labels sought s ≡ false
others_under labels sought s apart e = ap (λ (l : List Label). is_eq (compare_sets l sought)) e ∙ apart

-- series with the labels change places with later ones
alike_swapped : (labels : List Label) (group later : List PutSeries) → AllByRecursion (λ s. s.labels ≡ labels) group → AreLater labels later → AreAlike (group ++ later) (later ++ group)
alike_swapped labels group later same behind sought = by_bool (is_eq (compare_sets labels sought))
    (λ t. let is : labels ≡ sought = same_labels labels sought t in
    let none : filter (has_labels sought) later ≡ [] =
    none_under sought later (AllByRecursion-weaker (λ s. compare_sets labels s.labels ≡ Less) (λ s. has_labels sought s ≡ false) (λ s less. subst (λ (l : List Label). is_eq (compare_sets s.labels l) ≡ false) is (not_same labels s.labels less)) later behind) in
    filter-append (has_labels sought) group later ∙ ap (λ (l : List PutSeries). filter (has_labels sought) group ++ l) none ∙ append-nil (filter (has_labels sought) group)
    ∙ sym (filter-append (has_labels sought) later group ∙ ap (λ (l : List PutSeries). l ++ filter (has_labels sought) group) none))
    (λ f. let none : filter (has_labels sought) group ≡ [] =
    none_under sought group (AllByRecursion-weaker (λ s. s.labels ≡ labels) (λ s. has_labels sought s ≡ false) (λ s e. others_under labels sought s f e) group same) in
    filter-append (has_labels sought) group later ∙ ap (λ (l : List PutSeries). l ++ filter (has_labels sought) later) none
    ∙ sym (filter-append (has_labels sought) later group ∙ ap (λ (l : List PutSeries). filter (has_labels sought) later ++ l) none ∙ append-nil (filter (has_labels sought) later)))

-- All series with the labels were taken, and these are their chunks.
pub record IsGroup (labels : List Label) (old new : List PutSeries) (chunks : List PutChunk) : Type 0 where
  pub group : List PutSeries
  pub same : AllByRecursion (λ s. s.labels ≡ labels) group
  pub later : AreLater labels new
  pub alike : AreAlike (group ++ new) old
  pub chunks_are : chunks_of group ≡ chunks
  pub counted : length old ≡ length group + length new

chunks_joined : (one other : List PutSeries) → chunks_of (one ++ other) ≡ chunks_of one ++ chunks_of other
chunks_joined one other = flat_map-append (λ (s : PutSeries). s.chunks) one other

-- the group of one list, and that of those behind it
group_with : (labels : List Label) (old new olds news : List PutSeries) (own others chunks : List PutChunk) → Rises have_lesser_labels old → AllByRecursion (λ s. is_lt (compare_sets s.labels labels) ≡ false) old → IsFrontOf labels old new [] own
    → IsGroup labels olds news others → chunks ≡ own ++ others → IsGroup labels (old ++ olds) (new ++ news) chunks
group_with labels old new olds news own others chunks rises least is g chunks_is =
    let later : AreLater labels new = behind_front labels is.front new (subst (Rises have_lesser_labels) is.whole rises) (subst (AllByRecursion (λ s. is_lt (compare_sets s.labels labels) ≡ false)) is.whole least) is.others in
    let regrouped : (is.front ++ g.group) ++ (new ++ news) ≡ is.front ++ ((g.group ++ new) ++ news) = append_assoc is.front g.group (new ++ news) ∙ ap (λ (l : List PutSeries). is.front ++ l) (sym (append_assoc g.group new news)) in
    let turned_round : is.front ++ ((new ++ g.group) ++ news) ≡ (is.front ++ new) ++ (g.group ++ news) = ap (λ (l : List PutSeries). is.front ++ l) (append_assoc new g.group news) ∙ sym (append_assoc is.front new (g.group ++ news)) in
    record {
      group = is.front ++ g.group;
      same = AllByRecursion-append (λ s. s.labels ≡ labels) is.front g.group is.same g.same;
      later = AllByRecursion-append (λ s. compare_sets labels s.labels ≡ Less) new news later g.later;
      alike = λ sought.
          ap (filter (has_labels sought)) regrouped
          ∙ alike_append is.front is.front ((g.group ++ new) ++ news) ((new ++ g.group) ++ news) (λ l. refl) (alike_append (g.group ++ new) (new ++ g.group) news news (alike_swapped labels g.group new g.same later) (λ l. refl)) sought
          ∙ ap (filter (has_labels sought)) turned_round
          ∙ alike_append (is.front ++ new) old (g.group ++ news) olds (alike_same (is.front ++ new) old (sym is.whole)) g.alike sought;
      chunks_are = chunks_joined is.front g.group ∙ ap (λ (l : List PutChunk). l ++ chunks_of g.group) (sym is.chunks) ∙ ap (λ (l : List PutChunk). own ++ l) g.chunks_are ∙ sym chunks_is;
      counted = omega (arith, length-append old olds, length-append new news, length-append is.front g.group, ap length is.whole, length-append is.front new, g.counted);
    }

pub group_taken : (labels : List Label) (olds news : List (List PutSeries)) (chunks : List PutChunk) → AllByRecursion (Rises have_lesser_labels) olds → AllByRecursion (λ s. is_lt (compare_sets s.labels labels) ≡ false) (joined olds)
    → TakesGroup labels olds news chunks → IsGroup labels (joined olds) (joined news) chunks
group_taken labels [] [] chunks rise least none = record { group = []; same = tt; later = tt; alike = λ l. refl; chunks_are = sym none; counted = omega arith }
group_taken labels [] (new ∷ news) chunks rise least none = absurd none
group_taken labels (old ∷ olds) [] chunks rise least none = absurd none
group_taken labels (old ∷ olds) (new ∷ news) chunks rise least (own, others, is, more, chunks_is) =
    group_with labels old new (joined olds) (joined news) own others chunks rise.0 (all_left (λ s. is_lt (compare_sets s.labels labels) ≡ false) old (joined olds) least) is
    (group_taken labels olds news others rise.1 (all_right (λ s. is_lt (compare_sets s.labels labels) ≡ false) old (joined olds) least) more) chunks_is

rises_on : (labels : List Label) (olds news : List (List PutSeries)) (chunks : List PutChunk) → AllByRecursion (Rises have_lesser_labels) olds → TakesGroup labels olds news chunks → AllByRecursion (Rises have_lesser_labels) news
rises_on labels [] [] chunks rise none = tt
rises_on labels [] (new ∷ news) chunks rise none = absurd none
rises_on labels (old ∷ olds) [] chunks rise none = absurd none
rises_on labels (old ∷ olds) (new ∷ news) chunks rise (own, others, is, more, chunks_is) =
    (rises_right is.front new (subst (Rises have_lesser_labels) is.whole rise.0), rises_on labels olds news others rise.1 more)

-- ---- the walk

pub record WalkSoFar (plan : PlanFields) (all : List PutSeries) (lefts : List (List PutSeries)) (now : Put) : Type 0 where
  pub done : List PutSeries
  pub has : HasAll plan done now
  pub apart : (x y : PutSeries) → Contains done x → Contains (joined lefts) y → compare_sets x.labels y.labels ≡ Less
  pub alike : AreAlike (done ++ joined lefts) all
  pub rise : AllByRecursion (Rises have_lesser_labels) lefts

pub walk_begins : (lefts : List (List PutSeries)) (begin : Put) → AllByRecursion (Rises have_lesser_labels) lefts → begin ≡ nothing_put begin.plan → WalkSoFar begin.plan (joined lefts) lefts begin
unfolding sample_count
walk_begins lefts begin rise is = record {
  done = [];
  has = record {
    merged = subst (AreMerges []) (sym (ap (λ (p : Put). p.series) is)) merges_none;
    plan_is = refl;
    nothing_left = ap (λ (p : Put). p.chunks) is;
    list = [];
    list_is = subst (λ (l : List PutSeries). AreSeriesOf l []) (sym (ap (λ (p : Put). p.series) is)) tt;
    samples_are = ap (λ (p : Put). p.samples) is;
  };
  apart = λ x y here there. absurd (no_member x here);
  alike = λ labels. refl;
  rise = rise;
}

-- a group more was put
has_more : (plan : PlanFields) (done group : List PutSeries) (labels : List Label) (chunks : List PutChunk) (now new : Put) → chunks_of group ≡ chunks
    → AllByRecursion (λ s. s.labels ≡ labels) group → AllByRecursion (λ s. compare_sets s.labels labels ≡ Less) done → HasAll plan done now → HasGroup now labels chunks new → HasAll plan (done ++ group) new
unfolding sample_count
has_more plan done group labels [] now new none same later h is = record {
  merged = subst (AreMerges (done ++ group)) (sym (ap (λ (p : Put). p.series) is)) (merged_same done group labels same later now.series h.merged none);
  plan_is = ap (λ (p : Put). p.plan) is ∙ h.plan_is;
  nothing_left = ap (λ (p : Put). p.chunks) is ∙ h.nothing_left;
  list = h.list;
  list_is = subst (λ (l : List PutSeries). AreSeriesOf l h.list) (sym (ap (λ (p : Put). p.series) is)) h.list_is;
  samples_are = ap (λ (p : Put). p.samples) is ∙ h.samples_are;
}
has_more plan done group labels (c ∷ cs) now new all same later h is =
    let sum : sum_by (λ (s : Series). length s.samples) (h.list ++ is.series ∷ []) ≡ sum_by (λ (s : Series). length s.samples) h.list + length is.series.samples =
    sum_by-append (λ (s : Series). length s.samples) h.list (is.series ∷ []) ∙ ap (λ (n : ℕ). sum_by (λ (s : Series). length s.samples) h.list + n) (one_sum is.series) in
    record {
      merged = subst (AreMerges (done ++ group)) (sym is.series_are) (merged_more done group labels same later now.series h.merged is.put (λ none. absurd (let e : c ∷ cs ≡ [] = sym all ∙ none in cc)) (subst (λ l. IsMergedSeries labels l is.put) (sym all) is.put_is));
      plan_is = is.plan_is ∙ h.plan_is;
      nothing_left = is.nothing_left;
      list = h.list ++ is.series ∷ [];
      list_is = subst (λ (l : List PutSeries). AreSeriesOf l (h.list ++ is.series ∷ [])) (sym is.series_are) (AllZip-append IsSeriesOf now.series (is.put ∷ []) h.list (is.series ∷ []) h.list_is (is.series_is, tt));
      samples_are = omega (arith, is.samples_are, h.samples_are, sum);
    }

module _ (plan : PlanFields) (all : List PutSeries) (lefts news : List (List PutSeries)) (labels : List Label) (chunks : List PutChunk) (now : Put) (h : WalkSoFar plan all lefts now) (least : IsLeastOf labels (joined lefts)) (takes : TakesGroup labels lefts news chunks) where
  taken_group : IsGroup labels (joined lefts) (joined news) chunks
  taken_group = group_taken labels lefts news chunks h.rise least.least takes

  before_group : AllByRecursion (λ s. compare_sets s.labels labels ≡ Less) h.done
  before_group = all_members (λ s. compare_sets s.labels labels ≡ Less) h.done (λ x here. subst (λ (l : List Label). compare_sets x.labels l ≡ Less) least.among.2 (h.apart x least.among.0 here least.among.1))

  still_left : (y : PutSeries) → Contains (joined news) y → Contains (joined lefts) y
  still_left y there = member_alike (taken_group.group ++ joined news) (joined lefts) y taken_group.alike (Contains-append_right taken_group.group (joined news) y there)

  pub walk_on : (new : Put) → HasGroup now labels chunks new → WalkSoFar plan all news new
  walk_on new has = record {
    done = h.done ++ taken_group.group;
    has = has_more plan h.done taken_group.group labels chunks now new taken_group.chunks_are taken_group.same before_group h.has has;
    apart = λ x y here there. elim (Contains-append_cases h.done taken_group.group x here) [
      | inl old ↦ h.apart x y old (still_left y there)
      | inr own ↦ subst (λ (l : List Label). compare_sets l y.labels ≡ Less) (sym (each_member (λ s. s.labels ≡ labels) taken_group.group x taken_group.same own))
          (each_member (λ s. compare_sets labels s.labels ≡ Less) (joined news) y taken_group.later there)
    ];
    alike = λ sought.
        ap (filter (has_labels sought)) (append_assoc h.done taken_group.group (joined news))
        ∙ alike_append h.done h.done (taken_group.group ++ joined news) (joined lefts) (λ l. refl) taken_group.alike sought ∙ h.alike sought;
    rise = rises_on labels lefts news chunks h.rise takes;
  }

  not_left : taken_group.group ≡ [] → ⊥
  not_left none =
      let there : Contains (joined news) least.among.0 = subst (λ (l : List PutSeries). Contains (l ++ joined news) least.among.0) none (member_alike (joined lefts) (taken_group.group ++ joined news) least.among.0 (alike_back (taken_group.group ++ joined news) (joined lefts) taken_group.alike) least.among.1) in
      not_itself labels (subst (λ (l : List Label). compare_sets labels l ≡ Less) least.among.2 (each_member (λ s. compare_sets labels s.labels ≡ Less) (joined news) least.among.0 taken_group.later there))

  some_taken : (group : List PutSeries) → length (joined lefts) ≡ length group + length (joined news) → (group ≡ [] → ⊥) → length (joined news) < length (joined lefts)
  some_taken [] counted some = absurd (some refl)
  some_taken (g ∷ gs) counted some = omega (arith, counted)

  -- fewer are left
  pub walk_lessens : length (joined news) < length (joined lefts)
  walk_lessens = some_taken taken_group.group taken_group.counted (λ none. not_left none)

  -- ---- what putting the group needs

  pub walk_stored : AllByRecursion (IsStored plan) (chunks_of all) → AllByRecursion (IsStored now.plan) chunks
  walk_stored stored =
      subst (λ (p : PlanFields). AllByRecursion (IsStored p) chunks) (sym h.has.plan_is)
      (all_members (IsStored plan) chunks (λ c among. let w = of_flat_map (λ (s : PutSeries). s.chunks) taken_group.group c (subst (λ (l : List PutChunk). Contains l c) (sym taken_group.chunks_are) among) in
      each_member (IsStored plan) (chunks_of all) c stored (into_flat_map (λ (s : PutSeries). s.chunks) all w.0 c
      (member_alike (h.done ++ joined lefts) all w.0 h.alike (Contains-append_right h.done (joined lefts) w.0
      (member_alike (taken_group.group ++ joined news) (joined lefts) w.0 taken_group.alike (Contains-append_left taken_group.group (joined news) w.0 w.1)))) w.2)))

  -- the labels of what was put last stand before those of the group
  pub walk_greater : IsAfterSeries now.series labels
  walk_greater last there =
      let among : Contains now.series last = contains_place now.series (length now.series - 1) last there in
      let w = under_some last.labels h.done (each_member (λ s. chunks_under s.labels h.done ≢ []) now.series last h.has.merged.some among) in
      subst (λ (l : List Label). compare_sets l labels ≡ Less) w.2 (each_member (λ s. compare_sets s.labels labels ≡ Less) h.done w.0 before_group w.1)

pub walk_times : (plan : PlanFields) (all : List PutSeries) (lefts : List (List PutSeries)) (now : Put) → AreLawfulTimes plan.min_time plan.max_time → WalkSoFar plan all lefts now → AreLawfulTimes now.plan.min_time now.plan.max_time
walk_times plan all lefts now times h = subst (λ (p : PlanFields). AreLawfulTimes p.min_time p.max_time) (sym h.has.plan_is) times

pub walk_counted : (plan : PlanFields) (all : List PutSeries) (lefts : List (List PutSeries)) (now : Put) → WalkSoFar plan all lefts now → now.samples < 2 ^ 64
unfolding sample_count
walk_counted plan all lefts now h = omega (arith, h.has.samples_are)

pub walk_ends : (plan : PlanFields) (all : List PutSeries) (lefts : List (List PutSeries)) (now : Put) → joined lefts ≡ [] → WalkSoFar plan all lefts now → HasAll plan all now
walk_ends plan all lefts now none h = record {
  merged = merges_alike h.done all now.series (alike_chain h.done (h.done ++ joined lefts) all (alike_same h.done (h.done ++ joined lefts) (sym (ap (λ (l : List PutSeries). h.done ++ l) none ∙ append-nil h.done))) h.alike) h.has.merged;
  plan_is = h.has.plan_is;
  nothing_left = h.has.nothing_left;
  list = h.has.list;
  list_is = h.has.list_is;
  samples_are = h.has.samples_are;
}
