-- What merged blocks hold: the first pattern at each label set and time.
use Rattle.std.proofs.Common.{◌≡◌, ◌≢◌, ℕ, Bool, true, false, List, [], ◌∷◌, ◌++◌, map, Some, refl, sym, ap, subst, ◌∙◌, Less}
use Rattle.std.specs.Prelude.{All, Contains}
use Rattle.std.specs.List.{AllByRecursion, AllZip, filter, flat_map, find, list_any}
use Rattle.std.specs.List.Sorted.{IsStrictlySortedBy}
use Rattle.std.specs.Ordering.{int_cmp, ordering_then, is_eq}
use Rattle.std.proofs.lemmas.Bool.{true≢false}
use Rattle.std.proofs.lemmas.List.Elements.{All-from_recursion, All-contains, filter-append}
use Rattle.std.proofs.lemmas.Grind.{flat_map-append}
use Rattle.std.proofs.lemmas.Map.Keys.{sorted_head, sorted_tail}
use Rattle.base.proofs.Bools.{by_bool}
use Rattle.base.proofs.Lists.{filter_hit, filter_miss, filter_all, filter_none}
use Rattle.base.proofs.Order.{sorted_nil, sorted_append}
use Rattle.base.proofs.Membership.{no_member, contains_first, contains_later, each_member, all_members, any_of_member, member_of_any, into_filter, of_filter, of_map, into_map, of_flat_map, into_flat_map, some_member}
use Rattle.base.proofs.Pairs.{AllZip-append}
use Rattle.base.specs.Lists.{joined}
use Rattle.base.specs.Grammar.{IsBytes}
use Rattle.label_sets.specs.declared.label.Label.{Label}
use Rattle.label_sets.specs.declared.sample.Sample.{Sample}
use Rattle.label_sets.specs.declared.series.Series.{Series}
use Rattle.label_sets.specs.Labels.{compare_sets}
use Rattle.label_sets.specs.Finals.{reduced_of}
use Rattle.label_sets.specs.Triples.{Triple, triples_of, triples_under, compare_keys, has_same_key}
use Rattle.vertical_merge.specs.Merged.{AreFirst, IsMerge}
use Rattle.vertical_merge.proofs.Orders.{same_key}
use Rattle.vertical_merge.proofs.Merging.{triple_of}
use Rattle.vertical_merge.proofs.Joining.{triples_under-append}
use Rattle.index_parts.specs.declared.chunk_place.ChunkPlace.{ChunkPlace}
use Rattle.index_parts.specs.declared.index_series.IndexSeries.{IndexSeries}
use Rattle.xor_chunks.specs.Grammar.{IsText}
use Rattle.block_meta.specs.declared.block_files.BlockFiles.{BlockFiles}
use Rattle.block_content.specs.Content.{IsChunkOf, HoldsSeries, IsContent}
use Rattle.block_writing.specs.Put.{PlanFields, PutChunk, PutSeries, IsStored}
use Rattle.block_writing.specs.Writing.{chunk_in}
use Rattle.block_writing.specs.Built.{StandsFor}
use Rattle.block_merging.specs.PutContent.{IsSeriesOf, AreSeriesOf}
use Rattle.block_merging.specs.Inputs.{AreTaken, taken}
use Rattle.block_merging.specs.MergedSeries.{IsMergedSeries}
use Rattle.block_merging.specs.MergedBlock.{has_labels, chunks_under, AreMerges}
use Rattle.block_merging.specs.MergedContent.{reduced_triples, all_triples}
use Rattle.block_merging.proofs.Grouping.{same_labels, are_same}
use Rattle.block_merging.proofs.Merged.{some_inside}
use Rattle.block_merging.proofs.OneMerge.{under, into_under, of_under}
use Rattle.block_merging.proofs.Firsts.{find_filter}
use Rattle.block_merging.proofs.StoredInputs.{index_once, data_there}
use Rattle.block_merging.proofs.SameLists.{zip_back, zip_member}
use Rattle.block_merging.proofs.FirstOfSeries.{series_first}

-- ---- what is given under labels

abbrev pub is_under : List Label → Triple → Bool
is_under labels t = is_eq (compare_sets t.labels labels)

under_itself : (labels : List Label) (samples : List Sample) → All (λ t. is_under labels t ≡ true) (triples_under labels samples)
under_itself labels samples = All-from_recursion (λ t. is_under labels t ≡ true) (triples_under labels samples)
    (all_members (λ t. is_under labels t ≡ true) (triples_under labels samples) (λ t among. are_same t.labels labels (under labels samples t among)))

under_other : (labels other : List Label) (samples : List Sample) → is_eq (compare_sets other labels) ≡ false → All (λ t. is_under labels t ≡ false) (triples_under other samples)
under_other labels other samples f = All-from_recursion (λ t. is_under labels t ≡ false) (triples_under other samples)
    (all_members (λ t. is_under labels t ≡ false) (triples_under other samples) (λ t among. ap (λ l. is_eq (compare_sets l labels)) (under other samples t among) ∙ f))

record IsUnder (labels : List Label) (all : List PutSeries) (given : List Series) : Type 0 where
  parts : List (List Sample)
  read : AllZip StandsFor (chunks_under labels all) parts
  are : filter (is_under labels) (triples_of given) ≡ triples_under labels (joined parts)

under_more : (labels : List Label) (s : PutSeries) (all : List PutSeries) (g : Series) (given : List Series) → IsSeriesOf s g → IsUnder labels all given → IsUnder labels (s ∷ all) (g ∷ given)
unfolding triples_of
under_more labels s all g given is h =
    let cut : filter (is_under labels) (triples_of (g ∷ given)) ≡ filter (is_under labels) (triples_under g.labels g.samples) ++ filter (is_under labels) (triples_of given) = filter-append (is_under labels) (triples_under g.labels g.samples) (triples_of given) in
    by_bool (has_labels labels s)
    (λ t. let named : g.labels ≡ labels = is.labels_are ∙ same_labels s.labels labels t in
    record {
      parts = is.parts ++ h.parts;
      read = subst (λ (l : List PutChunk). AllZip StandsFor l (is.parts ++ h.parts)) (sym (ap (flat_map (λ (x : PutSeries). x.chunks)) (filter_hit (has_labels labels) s all t)))
          (AllZip-append StandsFor s.chunks (chunks_under labels all) is.parts h.parts is.chunks_are h.read);
      are = cut ∙ ap (λ (l : List Triple). l ++ filter (is_under labels) (triples_of given))
          (ap (λ (n : List Label). filter (is_under labels) (triples_under n g.samples)) named ∙ filter_all (is_under labels) (triples_under labels g.samples) (under_itself labels g.samples))
          ∙ ap (λ (l : List Triple). triples_under labels g.samples ++ l) h.are ∙ sym (triples_under-append labels g.samples (joined h.parts))
          ∙ ap (triples_under labels) (ap (λ (l : List Sample). l ++ joined h.parts) is.samples_are ∙ sym (flat_map-append (λ (p : List Sample). p) is.parts h.parts));
    })
    (λ f. record {
      parts = h.parts;
      read = subst (λ (l : List PutChunk). AllZip StandsFor l h.parts) (sym (ap (flat_map (λ (x : PutSeries). x.chunks)) (filter_miss (has_labels labels) s all f))) h.read;
      are = cut ∙ ap (λ (l : List Triple). l ++ filter (is_under labels) (triples_of given))
          (filter_none (is_under labels) (triples_under g.labels g.samples) (under_other labels g.labels g.samples (ap (λ l. is_eq (compare_sets l labels)) is.labels_are ∙ f))) ∙ h.are;
    })

under_none : (labels : List Label) → IsUnder labels [] []
unfolding triples_of triples_under
under_none labels = record { parts = []; read = tt; are = refl }

under_all : (labels : List Label) (all : List PutSeries) (given : List Series) → AreSeriesOf all given → IsUnder labels all given
under_all labels [] [] are = under_none labels
under_all labels [] (g ∷ given) are = absurd are
under_all labels (s ∷ all) [] are = absurd are
under_all labels (s ∷ all) (g ∷ given) are = under_more labels s all g given are.0 (under_all labels all given are.1)

-- ---- all series

of_triples : (list : List Series) (t : Triple) → Contains (triples_of list) t → (s : Series) × Contains list s × Contains (triples_under s.labels s.samples) t
unfolding triples_of
of_triples list t among = of_flat_map (λ (s : Series). triples_under s.labels s.samples) list t among

into_triples : (list : List Series) (s : Series) (t : Triple) → Contains list s → Contains (triples_under s.labels s.samples) t → Contains (triples_of list) t
unfolding triples_of
into_triples list s t among here = into_flat_map (λ (x : Series). triples_under x.labels x.samples) list s t among here

key_less : (t u : Triple) → compare_sets t.labels u.labels ≡ Less → compare_keys t u ≡ Less
key_less t u less = ap (λ o. ordering_then o (int_cmp t.time u.time)) less

triples_ascend : (list : List Series) → IsStrictlySortedBy compare_sets (map (λ (s : Series). s.labels) list) → ((s : Series) → Contains list s → IsStrictlySortedBy compare_keys (triples_under s.labels s.samples)) → IsStrictlySortedBy compare_keys (triples_of list)
unfolding triples_of
triples_ascend [] up each = sorted_nil compare_keys
triples_ascend (s ∷ list) up each =
    sorted_append compare_keys (triples_under s.labels s.samples) (triples_of list) (each s (contains_first s list))
    (triples_ascend list (sorted_tail compare_sets s.labels (map (λ (x : Series). x.labels) list) up) (λ x among. each x (contains_later s x list among)))
    (λ t u here there. let v = of_triples list u there in
    key_less t u (subst (λ l. compare_sets l u.labels ≡ Less) (sym (under s.labels s.samples t here)) (subst (λ l. compare_sets s.labels l ≡ Less) (sym (under (v.0).labels (v.0).samples u v.2))
    (each_member (λ l. compare_sets s.labels l ≡ Less) (map (λ (x : Series). x.labels) list) (v.0).labels (sorted_head compare_sets s.labels (map (λ (x : Series). x.labels) list) up) (into_map (λ (x : Series). x.labels) list v.0 v.1)))))

labels_same : (puts : List PutSeries) (list : List Series) → AreSeriesOf puts list → map (λ (s : Series). s.labels) list ≡ map (λ (p : PutSeries). p.labels) puts
labels_same [] [] are = refl
labels_same [] (s ∷ list) are = absurd are
labels_same (p ∷ puts) [] are = absurd are
labels_same (p ∷ puts) (s ∷ list) are = ap (λ (n : List Label). n ∷ map (λ (x : Series). x.labels) list) are.0.labels_are ∙ ap (λ (l : List (List Label)). p.labels ∷ l) (labels_same puts list are.1)

none_of : (parts : List (List Sample)) (x : Sample) → AllZip (λ (c : PutChunk) (part : List Sample). IsText 8 c.content part) [] parts → Contains (flat_map (λ (part : List Sample). part) parts) x → ⊥
none_of [] x each among = no_member x among
none_of (p ∷ parts) x each among = absurd each

no_chunks_no_samples : (s : PutSeries) (g : Series) (x : Sample) → IsSeriesOf s g → Contains g.samples x → s.chunks ≡ [] → ⊥
no_chunks_no_samples s g x is among none =
    none_of is.parts x (subst (λ l. AllZip (λ (c : PutChunk) (part : List Sample). IsText 8 c.content part) l is.parts) none is.chunks_are) (subst (λ l. Contains l x) is.samples_are among)

none_any : (labels : List Label) (samples : List Sample) (t : Triple) → samples ≡ [] → list_any (has_same_key t) (triples_under labels samples) ≡ true → ⊥
unfolding triples_under
none_any labels samples t none any = absurd (true≢false (sym any ∙ ap (λ (l : List Sample). list_any (has_same_key t) (triples_under labels l)) none))

module _ (plan : PlanFields) (all : List PutSeries) (given : List Series) (stored : (s : PutSeries) (c : PutChunk) → Contains all s → Contains s.chunks c → IsStored plan c) (are : AreSeriesOf all given)
    (merged : List PutSeries) (list : List Series) (is : AreMerges all merged) (out : AreSeriesOf merged list) where
  under_stored : (labels : List Label) → AllByRecursion (IsStored plan) (chunks_under labels all)
  under_stored labels = all_members (IsStored plan) (chunks_under labels all) (λ c among.
      let s = of_flat_map (λ (x : PutSeries). x.chunks) (filter (has_labels labels) all) c among in
      stored s.0 c (of_filter (has_labels labels) all s.0 s.1) s.2)

  -- a series that was made, and the one for which it stands
  made_first : (m : PutSeries) (o : Series) → Contains merged m → IsSeriesOf m o → AreFirst (filter (is_under o.labels) (triples_of given)) (triples_under o.labels o.samples)
  made_first m o among of =
      let u = under_all m.labels all given are in
      let first = series_first plan m.labels (chunks_under m.labels all) u.parts m o (under_stored m.labels) u.read (each_member (λ s. IsMergedSeries s.labels (chunks_under s.labels all) s) merged m is.each among) of in
      subst (λ (l : List Label). AreFirst (filter (is_under l) (triples_of given)) (triples_under l o.samples)) (sym of.labels_are)
      (subst (λ (l : List Triple). AreFirst l (triples_under m.labels o.samples)) (sym u.are) first)

  out_first : (o : Series) → Contains list o → AreFirst (filter (is_under o.labels) (triples_of given)) (triples_under o.labels o.samples)
  out_first o among = let m = zip_back IsSeriesOf merged list o out among in made_first m.0 o m.1 m.2

  -- a series that was made has a sample
  out_some : (o : Series) → Contains list o → o.samples ≢ []
  out_some o among none =
      let m = zip_back IsSeriesOf merged list o out among in
      let u = under_all (m.0).labels all given are in
      let c = some_member (chunks_under (m.0).labels all) (each_member (λ s. chunks_under s.labels all ≢ []) merged m.0 is.some m.1) in
      let s = some_inside plan (chunks_under (m.0).labels all) u.parts c.0 (under_stored (m.0).labels) u.read c.1 in
      let t = into_under (m.0).labels (joined u.parts) s.0 s.1 in
      let there : Contains (filter (is_under o.labels) (triples_of given)) (triple_of (m.0).labels s.0) =
      subst (λ l. Contains (filter (is_under l) (triples_of given)) (triple_of (m.0).labels s.0)) (sym m.2.labels_are) (subst (λ l. Contains l (triple_of (m.0).labels s.0)) (sym u.are) t) in
      none_any o.labels o.samples (triple_of (m.0).labels s.0) none (All-contains (λ t. list_any (has_same_key t) (triples_under o.labels o.samples) ≡ true) (filter (is_under o.labels) (triples_of given)) (triple_of (m.0).labels s.0) (out_first o among).complete there)

  first_found : (t : Triple) → Contains (triples_of list) t → find (has_same_key t) (triples_of given) ≡ Some t
  first_found t among =
      let o = of_triples list t among in
      sym (find_filter (has_same_key t) (is_under (o.0).labels) (λ x same. are_same x.labels (o.0).labels (sym (same_key t x same).0 ∙ under (o.0).labels (o.0).samples t o.2)) (triples_of given))
      ∙ All-contains (λ u. find (has_same_key u) (filter (is_under (o.0).labels) (triples_of given)) ≡ Some u) (triples_under (o.0).labels (o.0).samples) t (out_first o.0 o.1).first o.2

  all_kept : (t : Triple) → Contains (triples_of given) t → list_any (has_same_key t) (triples_of list) ≡ true
  all_kept t among =
      let g = of_triples given t among in
      let x = of_under (g.0).labels (g.0).samples t g.2 in
      let s = zip_back IsSeriesOf all given g.0 are g.1 in
      let named = of_map (λ (m : PutSeries). m.labels) merged (s.0).labels (each_member (λ p. p.chunks ≢ [] → Contains (map (λ (m : PutSeries). m.labels) merged) p.labels) all s.0 is.complete s.1 (λ none. no_chunks_no_samples s.0 g.0 x.0 s.2 x.1 none)) in
      let o = zip_member IsSeriesOf merged list named.0 out named.1 in
      let labels_are : t.labels ≡ (o.0).labels = under (g.0).labels (g.0).samples t g.2 ∙ s.2.labels_are ∙ sym named.2 ∙ sym o.2.labels_are in
      let there : Contains (filter (is_under (o.0).labels) (triples_of given)) t = into_filter (is_under (o.0).labels) (triples_of given) t among (are_same t.labels (o.0).labels labels_are) in
      let kept = member_of_any (has_same_key t) (triples_under (o.0).labels (o.0).samples) (All-contains (λ u. list_any (has_same_key u) (triples_under (o.0).labels (o.0).samples) ≡ true) (filter (is_under (o.0).labels) (triples_of given)) t (out_first o.0 o.1).complete there) in
      any_of_member (has_same_key t) (triples_of list) kept.0 (into_triples list o.0 kept.0 o.1 kept.1) kept.2

  pub merges_first : IsMerge (triples_of given) list
  merges_first = record {
    ascending = subst (IsStrictlySortedBy compare_sets) (sym (labels_same merged list out)) is.ascend;
    inhabited = All-from_recursion (λ s. s.samples ≢ []) list (all_members (λ s. s.samples ≢ []) list out_some);
    first = record {
      ascending = triples_ascend list (subst (IsStrictlySortedBy compare_sets) (sym (labels_same merged list out)) is.ascend) (λ o among. (out_first o among).ascending);
      first = All-from_recursion (λ t. find (has_same_key t) (triples_of given) ≡ Some t) (triples_of list) (all_members (λ t. find (has_same_key t) (triples_of given) ≡ Some t) (triples_of list) first_found);
      complete = All-from_recursion (λ t. list_any (has_same_key t) (triples_of list) ≡ true) (triples_of given) (all_members (λ t. list_any (has_same_key t) (triples_of list) ≡ true) (triples_of given) all_kept);
    };
  }

-- ---- the series of blocks under reduced labels

abbrev under_reduced : List Label → List (List ℕ) → Series → Series
under_reduced external replicas s = record { labels = reduced_of s.labels external replicas; samples = s.samples }

chunks_read : (segments : List (List ℕ)) (places : List ChunkPlace) (parts : List (List Sample)) → AllZip (IsChunkOf segments) places parts → AllZip StandsFor (map (chunk_in segments) places) parts
chunks_read segments [] [] each = tt
chunks_read segments [] (p ∷ parts) each = absurd each
chunks_read segments (c ∷ places) [] each = absurd each
chunks_read segments (c ∷ places) (p ∷ parts) each =
    (subst (λ b. IsText 8 b p) (sym (data_there segments c each.0.content each.0.stands)) each.0.reads, chunks_read segments places parts each.1)

series_taken : (external : List Label) (replicas : List (List ℕ)) (segments : List (List ℕ)) (indexed : List IndexSeries) (list : List Series) → AllZip (HoldsSeries segments) indexed list
    → AreSeriesOf (map (taken external replicas segments) indexed) (map (under_reduced external replicas) list)
series_taken external replicas segments [] [] each = tt
series_taken external replicas segments [] (s ∷ list) each = absurd each
series_taken external replicas segments (i ∷ indexed) [] each = absurd each
series_taken external replicas segments (i ∷ indexed) (s ∷ list) each = (
  record {
    parts = each.0.parts;
    chunks_are = chunks_read segments i.chunks each.0.parts each.0.chunks_are;
    labels_are = ap (λ (l : List Label). reduced_of l external replicas) each.0.labels_are;
    samples_are = each.0.samples_are;
  },
  series_taken external replicas segments indexed list each.1,
)

triples_reduced : (external : List Label) (replicas : List (List ℕ)) (list : List Series) → triples_of (map (under_reduced external replicas) list) ≡ reduced_triples external replicas list
unfolding triples_of
triples_reduced external replicas [] = refl
triples_reduced external replicas (s ∷ list) = ap (λ (l : List Triple). triples_under (reduced_of s.labels external replicas) s.samples ++ l) (triples_reduced external replicas list)

triples-append : (xs ys : List Series) → triples_of (xs ++ ys) ≡ triples_of xs ++ triples_of ys
unfolding triples_of
triples-append xs ys = flat_map-append (λ (s : Series). triples_under s.labels s.samples) xs ys

triples_none : triples_of [] ≡ []
unfolding triples_of
triples_none = refl

pub given_of : (external : List Label) (replicas : List (List ℕ)) (blocks : List BlockFiles) (contents : List (List Series)) (all : List PutSeries) → AllByRecursion (λ block. IsBytes block.index) blocks → AllZip IsContent blocks contents → AreTaken external replicas blocks all
    → (given : List Series) × AreSeriesOf all given × (triples_of given ≡ all_triples external replicas contents)
given_of external replicas [] [] all bytes held none = ([], subst (λ l. AreSeriesOf l []) (sym none) tt, triples_none)
given_of external replicas [] (c ∷ contents) all bytes held are = absurd held
given_of external replicas (block ∷ blocks) [] all bytes held are = absurd held
given_of external replicas (block ∷ blocks) (c ∷ contents) all bytes held (indexed, others, index_is, are, is) =
    let w = given_of external replicas blocks contents others bytes.1 held.1 are in
    let same : held.0.indexed ≡ indexed = index_once block.index held.0.indexed indexed bytes.0 held.0.index_is index_is in
    let here : AreSeriesOf (map (taken external replicas block.segments) indexed) (map (under_reduced external replicas) c) = series_taken external replicas block.segments indexed c (subst (λ l. AllZip (HoldsSeries block.segments) l c) same held.0.series_are) in (
      map (under_reduced external replicas) c ++ w.0,
      subst (λ l. AreSeriesOf l (map (under_reduced external replicas) c ++ w.0)) (sym is) (AllZip-append IsSeriesOf (map (taken external replicas block.segments) indexed) others (map (under_reduced external replicas) c) w.0 here w.1),
      triples-append (map (under_reduced external replicas) c) w.0 ∙ ap (λ (l : List Triple). l ++ triples_of w.0) (triples_reduced external replicas c) ∙ ap (λ (l : List Triple). reduced_triples external replicas c ++ l) w.2,
    )
