-- Blocks are merged in one way.
use Rattle.std.proofs.Common.{◌≡◌, ◌≢◌, ℕ, List, [], ◌∷◌, ◌++◌, map, refl, sym, ap, subst, ◌∙◌, Less, Equal}
use Rattle.std.specs.Prelude.{Contains}
use Rattle.std.specs.List.{AllByRecursion, AllZip, filter, flat_map}
use Rattle.std.specs.declared.cmp.Ordering.{Ordering}
use Rattle.base.proofs.Order.{sorted_unmap}
use Rattle.base.proofs.Membership.{no_member, each_member, of_map, of_filter, member_passes, of_flat_map, some_member}
use Rattle.base.proofs.SameMembers.{same_ascending}
use Rattle.base.specs.Grammar.{IsBytes}
use Rattle.label_sets.specs.declared.label.Label.{Label}
use Rattle.label_sets.specs.declared.sample.Sample.{Sample}
use Rattle.label_sets.specs.declared.series.Series.{Series}
use Rattle.label_sets.specs.Labels.{compare_sets}
use Rattle.label_sets.specs.Triples.{Triple, triples_of, triples_under}
use Rattle.vertical_merge.specs.Merged.{IsMerge}
use Rattle.vertical_merge.proofs.Orders.{sets_total, set_itself}
use Rattle.vertical_merge.proofs.OneMerge.{one_kept}
use Rattle.index_parts.specs.declared.index_series.IndexSeries.{IndexSeries}
use Rattle.block_meta.specs.declared.block_plan.BlockPlan.{BlockPlan}
use Rattle.block_meta.specs.declared.block_files.BlockFiles.{BlockFiles}
use Rattle.xor_chunks.specs.Grammar.{IsText}
use Rattle.block_writing.specs.Put.{PutChunk, PutSeries, Put}
use Rattle.block_writing.specs.Writing.{plan_fields}
use Rattle.block_writing.specs.Built.{IsPutAs}
use Rattle.block_writing.proofs.OnePut.{series_once as put_as_once}
use Rattle.block_writing.proofs.DataLaws.{data_rise}
use Rattle.block_merging.specs.PutContent.{IsSeriesOf, AreSeriesOf}
use Rattle.block_merging.proofs.Content.{text_once}
use Rattle.block_merging.specs.Inputs.{LiesWithin, HasContent, AreTaken, taken}
use Rattle.block_merging.specs.MergedSeries.{AreMerged, Becomes, IsMergedSeries}
use Rattle.block_merging.specs.MergedBlock.{has_labels, chunks_under, AreMerges, IsMergedPut}
use Rattle.block_merging.proofs.Grouping.{same_labels}
use Rattle.block_merging.proofs.OneMerge.{first_labels, one_triples}
use Rattle.block_merging.proofs.OneCut.{IsTimed, runs_once}
use Rattle.block_merging.proofs.SameLists.{each_once}
use Rattle.block_merging.proofs.StoredInputs.{index_once, taken_stored}

-- ---- samples

pub series_once : (put : PutSeries) (one other : Series) → IsSeriesOf put one → IsSeriesOf put other → one ≡ other
series_once put one other is too =
    let parts : is.parts ≡ too.parts = each_once (λ (c : PutChunk) (part : List Sample). IsText 8 c.content part) (λ c p q r s. text_once c.content p q r s) put.chunks is.parts too.parts is.chunks_are too.chunks_are in
    ap (λ (l : List Label). record { labels = l; samples = one.samples }) (is.labels_are ∙ sym too.labels_are)
    ∙ ap (λ (l : List Sample). record { labels = other.labels; samples = l }) (is.samples_are ∙ ap (flat_map (λ (part : List Sample). part)) parts ∙ sym too.samples_are)

pub all_series_once : (puts : List PutSeries) (one other : List Series) → AreSeriesOf puts one → AreSeriesOf puts other → one ≡ other
all_series_once puts one other are too = each_once IsSeriesOf series_once puts one other are too

-- ---- a run

abbrev sample_of : Triple → Sample
sample_of t = record { time = t.time; pattern = t.pattern }

samples_back : (labels : List Label) (samples : List Sample) → map sample_of (triples_under labels samples) ≡ samples
unfolding triples_under
samples_back labels [] = refl
samples_back labels (s ∷ ss) = ap (λ (l : List Sample). s ∷ l) (samples_back labels ss)

kept_once : (labels : List Label) (samples : List Sample) (k l : Series) → IsMerge (triples_under labels samples) (k ∷ []) → IsMerge (triples_under labels samples) (l ∷ []) → k ≡ l
kept_once labels samples k l is too =
    let named : k.labels ≡ l.labels = first_labels labels samples k [] is ∙ sym (first_labels labels samples l [] too) in
    let triples : triples_under k.labels k.samples ≡ triples_under l.labels l.samples = sym (one_triples k) ∙ one_kept (triples_under labels samples) (triples_of (k ∷ [])) (triples_of (l ∷ [])) is.first too.first ∙ one_triples l in
    let samples_are : k.samples ≡ l.samples = sym (samples_back k.labels k.samples) ∙ ap (map sample_of) triples ∙ samples_back l.labels l.samples in
    ap (λ (n : List Label). record { labels = n; samples = k.samples }) named ∙ ap (λ (n : List Sample). record { labels = l.labels; samples = n }) samples_are

merged_once : (labels : List Label) (run made other : List PutChunk) → AreMerged labels run made → AreMerged labels run other → made ≡ other
merged_once labels run made other is too =
    let given : is.given ≡ too.given = series_once (record { labels = labels; chunks = run }) is.given too.given is.given_is too.given_is in
    let kept : is.kept ≡ too.kept = kept_once labels is.given.samples is.kept too.kept is.kept_is (subst (λ (g : Series). IsMerge (triples_under labels g.samples) (too.kept ∷ [])) (sym given) too.kept_is) in
    ap (λ (p : PutSeries). p.chunks) (put_as_once is.kept (record { labels = labels; chunks = made }) (record { labels = labels; chunks = other }) is.made_is (subst (λ (k : Series). IsPutAs k (record { labels = labels; chunks = other })) (sym kept) too.made_is))

becomes_once : (labels : List Label) (run made other : List PutChunk) → Becomes labels run made → Becomes labels run other → made ≡ other
becomes_once labels [] made other is too = is ∙ sym too
becomes_once labels (c ∷ []) made other is too = is ∙ sym too
becomes_once labels (c ∷ d ∷ run) made other is too = merged_once labels (c ∷ d ∷ run) made other is too

-- ---- a series

series_merged_once : (labels : List Label) (chunks : List PutChunk) (p q : PutSeries) → ((c : PutChunk) → Contains chunks c → IsTimed c) → IsMergedSeries labels chunks p → IsMergedSeries labels chunks q → p ≡ q
series_merged_once labels chunks p q timed is too =
    let runs : is.runs ≡ too.runs = runs_once chunks is.runs too.runs timed is.runs_are too.runs_are in
    let made : is.made ≡ too.made = each_once (Becomes labels) (becomes_once labels) is.runs is.made too.made is.each (subst (λ (r : List (List PutChunk)). AllZip (Becomes labels) r too.made) (sym runs) too.each) in
    ap (λ (l : List Label). record { labels = l; chunks = p.chunks }) (is.labels_are ∙ sym too.labels_are)
    ∙ ap (λ (l : List PutChunk). record { labels = q.labels; chunks = l }) (is.chunks_are ∙ ap (flat_map (λ (part : List PutChunk). part)) made ∙ sym too.chunks_are)

-- ---- all series

abbrev compare_labels_of : PutSeries → PutSeries → Ordering
compare_labels_of p q = compare_sets p.labels q.labels

no_labels_turn : (p q : PutSeries) → compare_labels_of p q ≡ Less → compare_labels_of q p ≡ Less → ⊥
no_labels_turn p q less more = let e : Less ≡ Equal = sym (sets_total.trans p.labels q.labels p.labels less more) ∙ set_itself p.labels in absurd cc

some_chunk : (labels : List Label) (all : List PutSeries) → chunks_under labels all ≢ [] → (s : PutSeries) × Contains all s × (s.labels ≡ labels) × (s.chunks ≢ [])
some_chunk labels all some =
    let c = some_member (chunks_under labels all) some in
    let s = of_flat_map (λ (x : PutSeries). x.chunks) (filter (has_labels labels) all) c.0 c.1 in
    (s.0, of_filter (has_labels labels) all s.0 s.1, same_labels (s.0).labels labels (member_passes (has_labels labels) all s.0 s.1), λ none. no_member c.0 (subst (λ l. Contains l c.0) none s.2))

module _ (all : List PutSeries) (timed : (s : PutSeries) (c : PutChunk) → Contains all s → Contains s.chunks c → IsTimed c) where
  under_timed : (labels : List Label) (c : PutChunk) → Contains (chunks_under labels all) c → IsTimed c
  under_timed labels c among =
      let s = of_flat_map (λ (x : PutSeries). x.chunks) (filter (has_labels labels) all) c among in
      timed s.0 c (of_filter (has_labels labels) all s.0 s.1) s.2

  merged_in : (ps qs : List PutSeries) → AreMerges all ps → AreMerges all qs → (p : PutSeries) → Contains ps p → Contains qs p
  merged_in ps qs is too p among =
      let s = some_chunk p.labels all (each_member (λ x. chunks_under x.labels all ≢ []) ps p is.some among) in
      let named : Contains (map (λ (m : PutSeries). m.labels) qs) p.labels = subst (Contains (map (λ (m : PutSeries). m.labels) qs)) s.2
      (each_member (λ x. x.chunks ≢ [] → Contains (map (λ (m : PutSeries). m.labels) qs) x.labels) all s.0 too.complete s.1 s.3) in
      let q = of_map (λ (m : PutSeries). m.labels) qs p.labels named in
      let p_is : IsMergedSeries p.labels (chunks_under p.labels all) p = each_member (λ x. IsMergedSeries x.labels (chunks_under x.labels all) x) ps p is.each among in
      let q_is : IsMergedSeries p.labels (chunks_under p.labels all) q.0 = subst (λ (l : List Label). IsMergedSeries l (chunks_under l all) q.0) q.2 (each_member (λ x. IsMergedSeries x.labels (chunks_under x.labels all) x) qs q.0 too.each q.1) in
      subst (Contains qs) (sym (series_merged_once p.labels (chunks_under p.labels all) p q.0 (under_timed p.labels) p_is q_is)) q.1

  pub merges_once : (ps qs : List PutSeries) → AreMerges all ps → AreMerges all qs → ps ≡ qs
  merges_once ps qs is too =
      same_ascending compare_labels_of no_labels_turn ps qs
      (sorted_unmap compare_labels_of compare_sets (λ (m : PutSeries). m.labels) (λ x y less. less) ps is.ascend)
      (sorted_unmap compare_labels_of compare_sets (λ (m : PutSeries). m.labels) (λ x y less. less) qs too.ascend)
      (merged_in ps qs is too) (merged_in qs ps too is)

-- ---- blocks

taken_once : (external : List Label) (replicas : List (List ℕ)) (blocks : List BlockFiles) (all other : List PutSeries) → AllByRecursion (λ block. IsBytes block.index) blocks → AreTaken external replicas blocks all → AreTaken external replicas blocks other → all ≡ other
taken_once external replicas [] all other bytes are too = are ∙ sym too
taken_once external replicas (block ∷ blocks) all other bytes (series, others, index_is, are, is) (series', others', index_is', are', is') =
    is ∙ ap (λ (l : List IndexSeries). map (taken external replicas block.segments) l ++ others) (index_once block.index series series' bytes.0 index_is index_is')
    ∙ ap (λ (l : List PutSeries). map (taken external replicas block.segments) series' ++ l) (taken_once external replicas blocks others others' bytes.1 are are') ∙ sym is'

module _ (plan : BlockPlan) (replicas : List (List ℕ)) (blocks : List BlockFiles) (lie : AllByRecursion (LiesWithin plan) blocks) (bytes : AllByRecursion (λ block. IsBytes block.index) blocks) where
  pub all_timed : (all : List PutSeries) → AllByRecursion HasContent blocks → AreTaken plan.labels replicas blocks all → (s : PutSeries) (c : PutChunk) → Contains all s → Contains s.chunks c → IsTimed c
  all_timed all held are s c among here = data_rise (plan_fields plan) c (taken_stored plan replicas blocks all s c lie held bytes are among here)

  pub puts_once : (put other : Put) → IsMergedPut plan replicas blocks put → IsMergedPut plan replicas blocks other → put.series ≡ other.series
  puts_once put other is too =
      let same : is.all ≡ too.all = taken_once plan.labels replicas blocks is.all too.all bytes is.all_are too.all_are in
      merges_once is.all (all_timed is.all is.held is.all_are) put.series other.series is.series_are (subst (λ (l : List PutSeries). AreMerges l other.series) (sym same) too.series_are)
