-- An answer over blocks each of which holds what its sources hold is exact: it is the deduplication of what the sources hold that the
-- query asks for.
use Rattle.base.proofs.Lists.{cons_same}
use Rattle.base.proofs.Membership.{any_of_member, each_member, into_filter, into_flat_map, member_cases, member_of_any, member_passes, of_filter, of_flat_map, of_map}
use Rattle.std.proofs.Common.{◌≡◌, inl, inr, ℕ, ℤ, ◌≤ℤ◌, ◌<ℤ◌, true, ◌&&◌, List, [], ◌∷◌, map, Contains, refl, sym, ◌∙◌, ap, subst, arith}
use Rattle.std.specs.Cmp.{IsEquivalence}
use Rattle.std.specs.List.{All, AllByRecursion, AllZip, filter, list_any}
use Rattle.std.specs.Option.{option_map_or}
use Rattle.std.specs.Prelude.{int_le, int_lt}
use Rattle.std.proofs.lemmas.Cmp.{eq_by_cmp_equiv}
use Rattle.std.proofs.lemmas.Int.{ints}
use Rattle.std.proofs.lemmas.List.Elements.{All-contains, All-from_recursion, Contains-append_cases, Contains-append_left, Contains-append_right}
use Rattle.base.proofs.Membership.{all_members}
use Rattle.base.proofs.Bools.{and_second}
use Rattle.label_sets.specs.Finals.{final_of}
use Rattle.label_sets.specs.declared.label.Label.{Label}
use Rattle.label_sets.specs.declared.sample.Sample.{Sample}
use Rattle.label_sets.specs.declared.series.Series.{Series}
use Rattle.label_sets.specs.Triples.{Triple, has_same_key, triples_of, triples_under}
use Rattle.matchers.specs.Selected.{IsQueryAnswer, is_between, is_selected, selected}
use Rattle.matchers.specs.Selectors.{is_match}
use Rattle.matchers.specs.declared.matcher.Matcher.{Matcher}
use Rattle.vertical_merge.specs.Merged.{IsDeduplication, IsMerge}
use Rattle.vertical_merge.proofs.Laws.{deduplicates}
use Rattle.vertical_merge.proofs.Orders.{keys_total, same_key}
use Rattle.block_meta.specs.MetaFields.{MetaFields, fields_of}
use Rattle.store_ranges.specs.ChunkRanges.{IsSetOf}
use Rattle.store_ranges.specs.Reads.{Query as Question, block_of}
use Rattle.store_calls.specs.Exact.{asked_of, asked_of_all}
use Rattle.store_calls.specs.SeriesCalls.{asking, meets, sources_of, to_read}
use Rattle.sync_filters.specs.declared.found.Found.{Found}
use Rattle.world_core.specs.declared.entry.Entry.{Entry}
use Rattle.lifecycle_core.specs.MergedLabels.{seen_as}
use Rattle.lifecycle_core.proofs.activities.MergedBlocks.{are_same}
use Rattle.lifecycle_core.specs.Held.{declared, held, held_by}
use Rattle.lifecycle_core.specs.Setting.{Setting}
use Rattle.lifecycle_core.proofs.blocks.Contents.{IsHeldWhole}

-- ---- keys

alike : IsEquivalence has_same_key
alike = eq_by_cmp_equiv keys_total

-- what is asked for is told by the key
asked_too : (selector : List Matcher) (low high : ℤ) (t x : Triple) → has_same_key t x ≡ true → is_selected selector low high t ≡ true → is_selected selector low high x ≡ true
unfolding is_selected
asked_too selector low high t x same passes =
    let k = same_key t x same in
    subst (λ l. (is_match selector l && is_between low high x.time) ≡ true) k.0 (subst (λ z. (is_match selector t.labels && is_between low high z) ≡ true) k.1 passes)

-- ---- times

abbrev AreBetween : ℤ → ℤ → Series → Type 0
AreBetween first last s = AllByRecursion (λ (x : Sample). (first ≤ℤ x.time) × (x.time <ℤ last)) s.samples

timed : (labels : List Label) (replicas : List (List ℕ)) (list : List Series) (first last : ℤ) (t : Triple) → AllByRecursion (AreBetween first last) list → Contains (seen_as labels replicas list) t → (first ≤ℤ t.time) × (t.time <ℤ last)
unfolding triples_under
timed labels replicas list first last t within among =
    let m = of_flat_map (λ (s : Series). triples_under (final_of s.labels labels replicas) s.samples) list t among in
    let one : Series = m.0 in
    let under : List Label = final_of one.labels labels replicas in
    let s = of_map (λ (x : Sample). record { labels = under; time = x.time; pattern = x.pattern }) one.samples t m.2 in
    let sample : Sample = s.0 in
    let own : AreBetween first last one = each_member (AreBetween first last) list one within m.1 in
    let times = each_member (λ (x : Sample). (first ≤ℤ x.time) × (x.time <ℤ last)) one.samples sample own s.1 in
    let time : sample.time ≡ t.time = ap (λ (x : Triple). x.time) s.2 in
    (subst (λ z. first ≤ℤ z) time times.0, subst (λ z. z <ℤ last) time times.1)

range_holds : (selector : List Matcher) (low high : ℤ) (t : Triple) → is_selected selector low high t ≡ true → is_between low high t.time ≡ true
unfolding is_selected
range_holds selector low high t passes = and_second (is_match selector t.labels) (is_between low high t.time) passes

-- a block meets the range where a sample of it is within both
meets_range : (low high first last time : ℤ) → is_between low high time ≡ true → first ≤ℤ time → time <ℤ last → (int_le first high && int_lt low last) ≡ true
meets_range low high first last time within from below = grind (arith, ints)

-- ---- blocks

-- the block was complete, and its files hold what its sources hold
abbrev pub IsKeptWhole : Setting → List Entry → Found → Type 0
IsKeptWhole setting journal f = (seq : ℕ) × IsHeldWhole setting journal f.ulid seq (fields_of f.meta)

module _ (setting : Setting) (journal : List Entry) where
  -- the series of their files
  abbrev pub lists_of : (blocks : List Found) → AllByRecursion (IsKeptWhole setting journal) blocks → List (List Series)
  lists_of [] all = []
  lists_of (b ∷ blocks) all = ((all.0).1).list ∷ lists_of blocks all.1

  -- the list is that of its files
  abbrev pub HoldsList : Found → List Series → Type 0
  HoldsList f list = (w : IsKeptWhole setting journal f) × ((w.1).list ≡ list)

  of_lists : (blocks : List Found) (lists : List (List Series)) → AllZip HoldsList blocks lists → (all : AllByRecursion (IsKeptWhole setting journal) blocks) × (lists_of blocks all ≡ lists)
  of_lists [] [] are = (tt, refl)
  of_lists [] (l ∷ lists) are = absurd are
  of_lists (b ∷ blocks) [] are = absurd are
  of_lists (b ∷ blocks) (l ∷ lists) are =
      let own = are.0 in
      let rest = of_lists blocks lists are.1 in
      ((own.0, rest.0), cons_same ((own.0).1).list l (lists_of blocks rest.0) lists own.1 rest.1)

  module _ (selector : List Matcher) (low high : ℤ) where
    abbrev asked : Question
    asked = asking selector setting.script.rules.replicas low high

    -- the samples of a block's files
    abbrev seen : (f : Found) → IsKeptWhole setting journal f → List Triple
    seen f w = seen_as f.meta.labels setting.script.rules.replicas (w.1).list

    abbrev share : (f : Found) → IsKeptWhole setting journal f → List Triple
    share f w = asked_of asked (block_of f.ulid f.meta) (w.1).list

    abbrev total : (blocks : List Found) → AllByRecursion (IsKeptWhole setting journal) blocks → List Triple
    total blocks all = asked_of_all asked (map (λ (b : Found). block_of b.ulid b.meta) blocks) (lists_of blocks all)

    -- the share of each block is in the total
    into_total : (blocks : List Found) (all : AllByRecursion (IsKeptWhole setting journal) blocks) (f : Found) → Contains blocks f → (w : IsKeptWhole setting journal f) × ((t : Triple) → Contains (share f w) t → Contains (total blocks all) t)
    into_total [] all f among = absurd (none f among)
      where
        none : (x : Found) → Contains [] x → ⊥
        none x (k, below, is) = omega (arith, below)
    into_total (b ∷ blocks) all f among = elim (member_cases b f blocks among) [
      | inl same ↦
          subst (λ (x : Found). (w : IsKeptWhole setting journal x) × ((t : Triple) → Contains (share x w) t → Contains (total (b ∷ blocks) all) t)) same
          (all.0, λ t inside. Contains-append_left (share b all.0) (total blocks all.1) t inside)
      | inr later ↦
          let rest = into_total blocks all.1 f later in
          (rest.0, λ t inside. Contains-append_right (share b all.0) (total blocks all.1) t (rest.1 t inside))
    ]

    from_total : (blocks : List Found) (all : AllByRecursion (IsKeptWhole setting journal) blocks) (t : Triple) → Contains (total blocks all) t → (f : Found) × Contains blocks f × (w : IsKeptWhole setting journal f) × Contains (share f w) t
    from_total [] all t (k, below, is) = absurd (omega (arith, below))
    from_total (b ∷ blocks) all t among = elim (Contains-append_cases (share b all.0) (total blocks all.1) t among) [
      | inl own ↦ (b, (0, omega arith, refl), all.0, own)
      | inr later ↦ let rest = from_total blocks all.1 t later in (rest.0, contains_behind b rest.0 blocks rest.1, rest.2, rest.3)
    ]
      where
        contains_behind : (y x : Found) (xs : List Found) → Contains xs x → Contains (y ∷ xs) x
        contains_behind y x xs inside = Contains-append_right (y ∷ []) xs x inside

    -- a block of which a sample is asked for meets the range
    meets_asked : (f : Found) (w : IsKeptWhole setting journal f) (t : Triple) → Contains (seen f w) t → is_selected selector low high t ≡ true → meets asked f ≡ true
    meets_asked f w t among passes =
        let h = w.1 in
        let begin : h.files.meta.min_time ≡ f.meta.min_time = ap (λ (m : MetaFields). m.min_time) h.meta_is in
        let end : h.files.meta.max_time ≡ f.meta.max_time = ap (λ (m : MetaFields). m.max_time) h.meta_is in
        let times = timed f.meta.labels setting.script.rules.replicas h.list h.files.meta.min_time h.files.meta.max_time t h.content.within among in
        meets_range low high f.meta.min_time f.meta.max_time t.time (range_holds selector low high t passes) (subst (λ z. z ≤ℤ t.time) begin times.0) (subst (λ z. t.time <ℤ z) end times.1)

    -- what is asked for of a block's files is in its share
    into_share : (f : Found) (w : IsKeptWhole setting journal f) (t : Triple) → Contains (seen f w) t → is_selected selector low high t ≡ true → Contains (share f w) t
    unfolding selected
    into_share f w t among passes = into_filter (is_selected selector low high) (seen f w) t among passes

    from_share : (f : Found) (w : IsKeptWhole setting journal f) (t : Triple) → Contains (share f w) t → Contains (seen f w) t × (is_selected selector low high t ≡ true)
    unfolding selected
    from_share f w t among = (of_filter (is_selected selector low high) (seen f w) t among, member_passes (is_selected selector low high) (seen f w) t among)

    abbrev under : ℕ → List Triple
    under ulid = option_map_or (held_by setting setting.script.rules.replicas) (declared setting.script ulid) []

    into_held : (ulids : List ℕ) (ulid : ℕ) (t : Triple) → Contains ulids ulid → Contains (under ulid) t → Contains (held setting ulids) t
    unfolding held
    into_held ulids ulid t among inside = into_flat_map under ulids ulid t among inside

    from_held : (ulids : List ℕ) (t : Triple) → Contains (held setting ulids) t → (ulid : ℕ) × Contains ulids ulid × Contains (under ulid) t
    unfolding held
    from_held ulids t among = of_flat_map under ulids t among

    -- ---- answers

    module _ (kept : List Found) (whole : AllByRecursion (IsKeptWhole setting journal) kept) (met : AllByRecursion (IsKeptWhole setting journal) (filter (meets asked) kept)) (series : List Series) (sources : List ℕ)
        (merge : IsMerge (asked_of_all asked (to_read asked kept) (lists_of (filter (meets asked) kept) met)) series) (set : IsSetOf (sources_of kept) sources) where
      abbrev all : List Triple
      all = total (filter (meets asked) kept) met

      abbrev answer : List Triple
      answer = triples_of series

      dedup : IsDeduplication answer all
      dedup = deduplicates all all series refl merge

      abbrev wanted : List Triple
      wanted = selected selector low high (held setting sources)

      is_wanted : (t : Triple) → Contains (held setting sources) t → is_selected selector low high t ≡ true → Contains wanted t
      unfolding selected
      is_wanted t among passes = into_filter (is_selected selector low high) (held setting sources) t among passes

      of_wanted : (t : Triple) → Contains wanted t → Contains (held setting sources) t × (is_selected selector low high t ≡ true)
      unfolding selected
      of_wanted t among = (of_filter (is_selected selector low high) (held setting sources) t among, member_passes (is_selected selector low high) (held setting sources) t among)

      -- what was taken is wanted
      taken : (t : Triple) → Contains all t → Contains wanted t
      taken t among =
          let f = from_total (filter (meets asked) kept) met t among in
          let own = from_share f.0 f.2 t f.3 in
          let inside : Contains (held setting (f.0).meta.sources) t = All-contains (Contains (held setting (f.0).meta.sources)) (seen f.0 f.2) t ((f.2).1).taken own.0 in
          let u = from_held (f.0).meta.sources t inside in
          let block : Contains kept f.0 = of_filter (meets asked) kept f.0 f.1 in
          let named : Contains sources u.0 = (set.members u.0).1 (into_flat_map (λ (b : Found). b.meta.sources) kept f.0 u.0 block u.1) in
          is_wanted t (into_held sources u.0 t named u.2) own.1

      -- what is wanted is in the answer, by its key
      complete : (t : Triple) → Contains wanted t → list_any (has_same_key t) answer ≡ true
      complete t among =
          let own = of_wanted t among in
          let u = from_held sources t own.0 in
          let f = of_flat_map (λ (b : Found). b.meta.sources) kept u.0 ((set.members u.0).0 u.1) in
          let there : Contains (held setting (f.0).meta.sources) t = into_held (f.0).meta.sources u.0 t f.2 u.2 in
          let w : IsKeptWhole setting journal f.0 = each_member (IsKeptWhole setting journal) kept f.0 whole f.1 in
          let x = member_of_any (has_same_key t) (seen f.0 w) (All-contains (λ y. list_any (has_same_key y) (seen f.0 w) ≡ true) (held setting (f.0).meta.sources) t (w.1).complete there) in
          let meet : meets asked f.0 ≡ true = meets_asked f.0 w x.0 x.1 (asked_too selector low high t x.0 x.2 own.1) in
          let v = into_total (filter (meets asked) kept) met f.0 (into_filter (meets asked) kept f.0 f.1 meet) in
          let y = member_of_any (has_same_key t) (seen f.0 v.0) (All-contains (λ z. list_any (has_same_key z) (seen f.0 v.0) ≡ true) (held setting (f.0).meta.sources) t ((v.0).1).complete there) in
          let inside : Contains all y.0 = v.1 y.0 (into_share f.0 v.0 y.0 y.1 (asked_too selector low high t y.0 y.2 own.1)) in
          let z = member_of_any (has_same_key y.0) answer (All-contains (λ r. list_any (has_same_key r) answer ≡ true) all y.0 dedup.one_to_one.complete inside) in
          let one = same_key t y.0 y.2 in
          let two = same_key y.0 z.0 z.2 in
          any_of_member (has_same_key t) answer z.0 z.1 (are_same t z.0 (one.0 ∙ two.0) (one.1 ∙ two.1))

      each_of : (P : Triple → Type 0) (xs : List Triple) → ((t : Triple) → Contains xs t → P t) → All P xs
      each_of P xs each = All-from_recursion P xs (all_members P xs each)

      pub answer_is_exact : IsQueryAnswer selector low high (triples_of series) (held setting sources)
      answer_is_exact = record {
        ascending = dedup.ascending;
        one_to_one = record {
          once = dedup.one_to_one.once;
          taken = each_of (Contains wanted) answer (λ t among. taken t (All-contains (Contains all) answer t dedup.one_to_one.taken among));
          complete = each_of (λ t. list_any (has_same_key t) answer ≡ true) wanted complete;
        };
      }

    pub lists_are_exact : (kept : List Found) → AllByRecursion (IsKeptWhole setting journal) kept → (lists : List (List Series)) → AllZip HoldsList (filter (meets asked) kept) lists → (series : List Series) (sources : List ℕ)
        → IsMerge (asked_of_all asked (to_read asked kept) lists) series → IsSetOf (sources_of kept) sources → IsQueryAnswer selector low high (triples_of series) (held setting sources)
    lists_are_exact kept whole lists are series sources merge set =
        let met = of_lists (filter (meets asked) kept) lists are in
        answer_is_exact kept whole met.0 series sources (subst (λ (ls : List (List Series)). IsMerge (asked_of_all asked (to_read asked kept) ls) series) (sym met.1) merge) set
