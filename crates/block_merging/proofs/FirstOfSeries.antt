-- What one merged series holds: the first pattern at each time of the chunks that were given.
use Rattle.std.proofs.Common.{◌≡◌, ◌≢◌, true, false, ◌&&◌, List, [], ◌∷◌, ◌++◌, map, Some, refl, sym, ap, subst, ◌∙◌, arith, inl, inr, ◌⊎◌, ℤ, Less, append-nil}
use Rattle.std.specs.Prelude.{Any, All, Contains, int_le, ◌≤ℤ◌, ◌<ℤ◌}
use Rattle.std.specs.List.{AllByRecursion, AllZip, filter, find, list_any}
use Rattle.std.specs.List.Sorted.{IsStrictlySortedBy}
use Rattle.std.specs.declared.cmp.Ordering.{Ordering}
use Rattle.std.specs.Ordering.{int_cmp, ordering_then, is_eq}
use Rattle.std.specs.Cmp.{IsEquivalence}
use Rattle.std.proofs.lemmas.Int.{ints}
use Rattle.std.proofs.lemmas.Bool.{true≢false, and_from, and_left, and_right}
use Rattle.std.proofs.lemmas.List.Elements.{All-from_recursion, All-contains, filter-append}
use Rattle.std.proofs.lemmas.Grind.{flat_map-append}
use Rattle.std.proofs.lemmas.Map.Keys.{sorted_head, sorted_tail}
use Rattle.base.proofs.Bools.{by_bool}
use Rattle.base.proofs.Lists.{filter_hit, filter_miss, filter_all, filter_none}
use Rattle.base.proofs.Order.{sorted_map, sorted_unmap}
use Rattle.base.proofs.Membership.{no_member, contains_first, contains_later, member_cases, each_member, all_members, any_of_member, of_map, of_filter}
use Rattle.base.proofs.Integers.{le_le}
use Rattle.base.specs.Lists.{joined}
use Rattle.label_sets.specs.declared.label.Label.{Label}
use Rattle.label_sets.specs.declared.sample.Sample.{Sample}
use Rattle.label_sets.specs.declared.series.Series.{Series}
use Rattle.label_sets.specs.Triples.{Triple, triples_under, compare_keys, has_same_key}
use Rattle.vertical_merge.specs.Merged.{AreFirst}
use Rattle.vertical_merge.proofs.Orders.{keys_total, set_itself}
use Rattle.vertical_merge.proofs.Merging.{triple_of}
use Rattle.vertical_merge.proofs.Laws.{find_here, find_skip}
use Rattle.vertical_merge.proofs.Joining.{triples_under-append}
use Rattle.std.proofs.lemmas.Cmp.{eq_by_cmp_equiv}
use Rattle.block_writing.specs.Put.{PlanFields, PutChunk, PutSeries, IsStored}
use Rattle.block_writing.specs.Built.{StandsFor}
use Rattle.block_writing.proofs.Parts.{texts_of}
use Rattle.block_merging.specs.PutContent.{IsSeriesOf}
use Rattle.block_merging.proofs.Content.{text_once}
use Rattle.block_merging.specs.Runs.{AreConnected, Span, lies_in}
use Rattle.block_merging.specs.MergedSeries.{Becomes, IsMergedSeries}
use Rattle.block_merging.proofs.Chains.{any_of, member_of}
use Rattle.block_merging.proofs.Merged.{part_inside, IsInside, samples_inside}
use Rattle.block_merging.proofs.OneMerge.{first_labels, one_triples, of_under, under}
use Rattle.block_merging.proofs.OneCut.{lies, AreApart, of_two}
use Rattle.block_merging.proofs.SameLists.{each_once, split_zip}
use Rattle.block_merging.proofs.Rising.{text_ascends}
use Rattle.block_merging.proofs.Firsts.{in_span, AreFirstOfEach, first_joined}
use Rattle.block_merging.proofs.Spans.{le_false, le_true}

-- ---- a chunk in a span, and one outside it

lt_first : (a b c d : ℤ) → a ≤ℤ b → b ≤ℤ c → c <ℤ d → a <ℤ d
lt_first a b c d h k l = omega (arith, ints)

lt_last : (a b c d : ℤ) → a <ℤ b → b ≤ℤ c → c ≤ℤ d → a <ℤ d
lt_last a b c d h k l = omega (arith, ints)

sample_in : (span : Span) (c : PutChunk) (labels : List Label) (s : Sample) → lies_in span c ≡ true → IsInside c s → in_span span (triple_of labels s) ≡ true
sample_in span c labels s here inside =
    let l = lies span c here in
    and_from (int_le span.begin s.time) (int_le s.time span.end) (le_true span.begin s.time (le_le span.begin c.min s.time l.0 inside.0)) (le_true s.time span.end (le_le s.time c.max span.end inside.1 l.1))

-- a sample of a chunk in another span
sample_before : (span other : Span) (c : PutChunk) (labels : List Label) (s : Sample) → other.end <ℤ span.begin → lies_in other c ≡ true → IsInside c s → in_span span (triple_of labels s) ≡ false
sample_before span other c labels s apart there inside =
    and_left (int_le span.begin s.time) (int_le s.time span.end) (le_false span.begin s.time (lt_first s.time c.max other.end span.begin inside.1 (lies other c there).1 apart))

sample_behind : (span other : Span) (c : PutChunk) (labels : List Label) (s : Sample) → span.end <ℤ other.begin → lies_in other c ≡ true → IsInside c s → in_span span (triple_of labels s) ≡ false
sample_behind span other c labels s apart there inside =
    and_right (int_le span.begin s.time) (int_le s.time span.end) (le_false s.time span.end (lt_last span.end other.begin c.min s.time apart (lies other c there).0 inside.0))

in_triples : (P : Triple → Type 0) (labels : List Label) (part : List Sample) → ((s : Sample) → Contains part s → P (triple_of labels s)) → All P (triples_under labels part)
unfolding triples_under
in_triples P labels part each = All-from_recursion P (triples_under labels part) (all_members P (map (triple_of labels) part) (λ t among.
    let w = of_map (triple_of labels) part t among in subst P w.2 (each w.0 w.1)))

module _ (plan : PlanFields) (labels : List Label) (spans : List Span) (apart : AreApart spans) where
  -- whether the samples of a chunk lie in a span tells the chunk itself
  kept_of_chunk : (span : Span) (c : PutChunk) (part : List Sample) → Contains spans span → IsStored plan c → StandsFor c part → Any (λ s. lies_in s c ≡ true) spans
      → ((lies_in span c ≡ true) × (filter (in_span span) (triples_under labels part) ≡ triples_under labels part)) ⊎ ((lies_in span c ≡ false) × (filter (in_span span) (triples_under labels part) ≡ []))
  kept_of_chunk span c part among stored text covered =
      let inside : AllByRecursion (IsInside c) part = part_inside plan c part stored text in
      by_bool (lies_in span c)
      (λ here. inl (here, filter_all (in_span span) (triples_under labels part) (in_triples (λ t. in_span span t ≡ true) labels part (λ s within. sample_in span c labels s here (each_member (IsInside c) part s inside within)))))
      (λ f. let other = member_of (λ s. lies_in s c ≡ true) spans covered in
      inr (
        f,
        filter_none (in_span span) (triples_under labels part) (in_triples (λ t. in_span span t ≡ false) labels part (λ s within.
            let here : IsInside c s = each_member (IsInside c) part s inside within in
            elim (of_two spans span other.0 apart among other.1) [
              | inl is ↦ absurd (true≢false (sym (subst (λ w. lies_in w c ≡ true) (sym is) other.2) ∙ f))
              | inr (inl before) ↦ sample_behind span other.0 c labels s before other.2 here
              | inr (inr behind) ↦ sample_before span other.0 c labels s behind other.2 here
            ])),
      ))

  -- the chunks of a span, and the samples in it
  pub run_parts : (span : Span) (chunks : List PutChunk) (parts : List (List Sample)) → Contains spans span → AllByRecursion (IsStored plan) chunks → ((c : PutChunk) → Contains chunks c → Any (λ s. lies_in s c ≡ true) spans) → AllZip StandsFor chunks parts
      → (own : List (List Sample)) × AllZip StandsFor (filter (lies_in span) chunks) own × (filter (in_span span) (triples_under labels (joined parts)) ≡ triples_under labels (joined own))
  unfolding triples_under
  run_parts span [] [] among stored covered each = ([], tt, refl)
  run_parts span [] (p ∷ parts) among stored covered each = absurd each
  run_parts span (c ∷ chunks) [] among stored covered each = absurd each
  run_parts span (c ∷ chunks) (p ∷ parts) among stored covered each =
      let w = run_parts span chunks parts among stored.1 (λ d within. covered d (contains_later c d chunks within)) each.1 in
      let cut : filter (in_span span) (triples_under labels (p ++ joined parts)) ≡ filter (in_span span) (triples_under labels p) ++ filter (in_span span) (triples_under labels (joined parts)) =
      ap (filter (in_span span)) (triples_under-append labels p (joined parts)) ∙ filter-append (in_span span) (triples_under labels p) (triples_under labels (joined parts)) in
      elim (kept_of_chunk span c p among stored.0 each.0 (covered c (contains_first c chunks))) [
        | inl (here, all) ↦ (
          p ∷ w.0,
          subst (λ (l : List PutChunk). AllZip StandsFor l (p ∷ w.0)) (sym (filter_hit (lies_in span) c chunks here)) (each.0, w.1),
          cut ∙ ap (λ (l : List Triple). l ++ filter (in_span span) (triples_under labels (joined parts))) all ∙ ap (λ (l : List Triple). triples_under labels p ++ l) w.2 ∙ sym (triples_under-append labels p (joined w.0)),
        )
        | inr (f, none) ↦ (
          w.0,
          subst (λ (l : List PutChunk). AllZip StandsFor l w.0) (sym (filter_miss (lies_in span) c chunks f)) w.1,
          cut ∙ ap (λ (l : List Triple). l ++ filter (in_span span) (triples_under labels (joined parts))) none ∙ w.2,
        )
      ]

-- ---- what becomes of a run

keys_alike : IsEquivalence has_same_key
keys_alike = eq_by_cmp_equiv keys_total

found_itself : (list : List Triple) (t : Triple) → IsStrictlySortedBy compare_keys list → Contains list t → find (has_same_key t) list ≡ Some t
found_itself [] t up among = absurd (no_member t among)
found_itself (x ∷ xs) t up among = elim (member_cases x t xs among) [
  | inl is ↦ find_here (has_same_key t) x xs (ap (has_same_key t) is ∙ keys_alike.refl t) ∙ ap (λ (u : Triple). Some u) is
  | inr later ↦
      find_skip (has_same_key t) x xs (keys_alike.symm t x ∙ ap is_eq (each_member (λ u. compare_keys x u ≡ Less) xs t (sorted_head compare_keys x xs up) later))
      ∙ found_itself xs t (sorted_tail compare_keys x xs up) later
]

-- an ascending list is its own first
first_itself : (list : List Triple) → IsStrictlySortedBy compare_keys list → AreFirst list list
first_itself list up = record {
  ascending = up;
  first = All-from_recursion (λ t. find (has_same_key t) list ≡ Some t) list (all_members (λ t. find (has_same_key t) list ≡ Some t) list (λ t among. found_itself list t up among));
  complete = All-from_recursion (λ t. list_any (has_same_key t) list ≡ true) list (all_members (λ t. list_any (has_same_key t) list ≡ true) list (λ t among. any_of_member (has_same_key t) list t among (keys_alike.refl t)));
}

parts_once : (chunks : List PutChunk) (one other : List (List Sample)) → AllZip StandsFor chunks one → AllZip StandsFor chunks other → one ≡ other
parts_once chunks one other are too = each_once StandsFor (λ c p q r s. text_once c.content p q r s) chunks one other are too

abbrev by_time : Sample → Sample → Ordering
by_time one other = int_cmp one.time other.time

ascends_under : (labels : List Label) (samples : List Sample) → IsStrictlySortedBy int_cmp (map (λ (s : Sample). s.time) samples) → IsStrictlySortedBy compare_keys (triples_under labels samples)
unfolding triples_under
ascends_under labels samples up =
    sorted_map by_time compare_keys (triple_of labels) (λ x y less. ap (λ o. ordering_then o (int_cmp x.time y.time)) (set_itself labels) ∙ less) samples
    (sorted_unmap by_time int_cmp (λ (s : Sample). s.time) (λ x y less. less) samples up)

alone_ascends : (labels : List Label) (c : PutChunk) (own : List (List Sample)) → AllZip StandsFor (c ∷ []) own → IsStrictlySortedBy compare_keys (triples_under labels (joined own))
alone_ascends labels c [] each = absurd each
alone_ascends labels c (p ∷ []) each = subst (λ (l : List Sample). IsStrictlySortedBy compare_keys (triples_under labels l)) (sym (append-nil p)) (ascends_under labels p (text_ascends c.content p each.0))
alone_ascends labels c (p ∷ q ∷ own) each = absurd each.1

pub run_first : (plan : PlanFields) (labels : List Label) (run made : List PutChunk) (own read : List (List Sample)) → run ≢ [] → AllByRecursion (IsStored plan) run → AllZip StandsFor run own → Becomes labels run made → AllZip StandsFor made read
    → AreFirst (triples_under labels (joined own)) (triples_under labels (joined read))
run_first plan labels [] made own read some stored each becomes reads = absurd (some refl)
run_first plan labels (c ∷ []) made own read some stored each becomes reads =
    let same : own ≡ read = parts_once (c ∷ []) own read each (subst (λ (l : List PutChunk). AllZip StandsFor l read) becomes reads) in
    subst (λ (r : List (List Sample)). AreFirst (triples_under labels (joined own)) (triples_under labels (joined r))) same (first_itself (triples_under labels (joined own)) (alone_ascends labels c own each))
run_first plan labels (c ∷ d ∷ run) made own read some stored each becomes reads =
    let given : becomes.given.samples ≡ joined own = becomes.given_is.samples_are ∙ ap joined (parts_once (c ∷ d ∷ run) becomes.given_is.parts own becomes.given_is.chunks_are each) in
    let kept : becomes.kept.samples ≡ joined read = sym becomes.made_is.whole ∙ ap joined (parts_once made becomes.made_is.parts read (texts_of becomes.made_is.parts made becomes.made_is.chunks) reads) in
    let first : AreFirst (triples_under labels becomes.given.samples) (triples_under becomes.kept.labels becomes.kept.samples) = subst (AreFirst (triples_under labels becomes.given.samples)) (one_triples becomes.kept) becomes.kept_is.first in
    let named : becomes.kept.labels ≡ labels = first_labels labels becomes.given.samples becomes.kept [] becomes.kept_is in
    subst (λ (l : List Sample). AreFirst (triples_under labels l) (triples_under labels (joined read))) given
    (subst (λ (l : List Sample). AreFirst (triples_under labels becomes.given.samples) (triples_under labels l)) kept
    (subst (λ (n : List Label). AreFirst (triples_under labels becomes.given.samples) (triples_under n becomes.kept.samples)) named first))

-- ---- all runs of a series

module _ (plan : PlanFields) (labels : List Label) (spans : List Span) (apart : AreApart spans) (chunks : List PutChunk) (parts : List (List Sample)) (stored : AllByRecursion (IsStored plan) chunks)
    (covered : (c : PutChunk) → Contains chunks c → Any (λ s. lies_in s c ≡ true) spans) (each : AllZip StandsFor chunks parts) where
  run_stored : (span : Span) → AllByRecursion (IsStored plan) (filter (lies_in span) chunks)
  run_stored span = all_members (IsStored plan) (filter (lies_in span) chunks) (λ c among. each_member (IsStored plan) chunks c stored (of_filter (lies_in span) chunks c among))

  runs_first : (more : List Span) (made : List (List PutChunk)) (read : List (List Sample)) → ((s : Span) → Contains more s → Contains spans s) → AllByRecursion AreConnected (map (λ span. filter (lies_in span) chunks) more)
      → AllZip (Becomes labels) (map (λ span. filter (lies_in span) chunks) more) made → AllZip StandsFor (joined made) read
      → (kepts : List (List Triple)) × AreFirstOfEach (triples_under labels (joined parts)) more kepts × (joined kepts ≡ triples_under labels (joined read))
  unfolding triples_under
  runs_first [] [] [] within connected becomes reads = ([], tt, refl)
  runs_first [] [] (r ∷ read) within connected becomes reads = absurd reads
  runs_first [] (m ∷ made) read within connected becomes reads = absurd becomes
  runs_first (s ∷ more) [] read within connected becomes reads = absurd becomes
  runs_first (s ∷ more) (m ∷ made) read within connected becomes reads =
      let cut = split_zip StandsFor m (joined made) read reads in
      let w = run_parts plan labels spans apart s chunks parts (within s (contains_first s more)) stored covered each in
      let others = runs_first more made cut.1 (λ u among. within u (contains_later s u more among)) connected.1 becomes.1 cut.3 in
      let first = run_first plan labels (filter (lies_in s) chunks) m w.0 cut.0 connected.0.some (run_stored s) w.1 becomes.0 cut.2 in (
        triples_under labels (joined cut.0) ∷ others.0,
        (subst (λ (l : List Triple). AreFirst l (triples_under labels (joined cut.0))) (sym w.2) first, others.1),
        ap (λ (l : List Triple). triples_under labels (joined cut.0) ++ l) others.2 ∙ sym (triples_under-append labels (joined cut.0) (joined cut.1))
            ∙ ap (triples_under labels) (sym (flat_map-append (λ (p : List Sample). p) cut.0 cut.1) ∙ ap joined (sym cut.4)),
      )

  time_covered : (t : Triple) → Contains (triples_under labels (joined parts)) t → Any (λ s. in_span s t ≡ true) spans
  time_covered t among =
      let s = of_under labels (joined parts) t among in
      let c = samples_inside plan chunks parts s.0 stored each s.1 in
      let u = member_of (λ span. lies_in span c.0 ≡ true) spans (covered c.0 c.1) in
      any_of (λ span. in_span span t ≡ true) spans u.0 u.1 (subst (λ (z : ℤ). (int_le (u.0).begin z && int_le z (u.0).end) ≡ true) s.2 (sample_in u.0 c.0 labels s.0 u.2 c.2))

  pub spans_first : (made : List (List PutChunk)) (read : List (List Sample)) → AllByRecursion AreConnected (map (λ span. filter (lies_in span) chunks) spans) → AllZip (Becomes labels) (map (λ span. filter (lies_in span) chunks) spans) made
      → AllZip StandsFor (joined made) read → AreFirst (triples_under labels (joined parts)) (triples_under labels (joined read))
  spans_first made read connected becomes reads =
      let w = runs_first spans made read (λ s among. among) connected becomes reads in
      subst (AreFirst (triples_under labels (joined parts))) w.2
      (first_joined (triples_under labels (joined parts)) labels (under labels (joined parts)) spans w.0 apart w.1 time_covered)

pub series_first : (plan : PlanFields) (labels : List Label) (chunks : List PutChunk) (parts : List (List Sample)) (put : PutSeries) (out : Series) → AllByRecursion (IsStored plan) chunks → AllZip StandsFor chunks parts → IsMergedSeries labels chunks put → IsSeriesOf put out
    → AreFirst (triples_under labels (joined parts)) (triples_under labels out.samples)
series_first plan labels chunks parts put out stored each is of =
    let spans = is.runs_are.spans in
    subst (λ (l : List Sample). AreFirst (triples_under labels (joined parts)) (triples_under labels l)) (sym of.samples_are)
    (spans_first plan labels spans is.runs_are.apart chunks parts stored (λ c among. All-contains (λ chunk. Any (λ span. lies_in span chunk ≡ true) spans) chunks c is.runs_are.covered among) each is.made of.parts
    (subst (AllByRecursion AreConnected) is.runs_are.runs_are is.runs_are.connected)
    (subst (λ (l : List (List PutChunk)). AllZip (Becomes labels) l is.made) is.runs_are.runs_are is.each)
    (subst (λ (l : List PutChunk). AllZip StandsFor l of.parts) is.chunks_are of.chunks_are))
