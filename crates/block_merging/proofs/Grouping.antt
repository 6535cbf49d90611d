-- Series that are merged one group of equal labels after another.
use Rattle.std.proofs.Common.{◌≡◌, ◌≢◌, true, false, List, [], ◌∷◌, ◌++◌, map, refl, sym, ap, subst, ◌∙◌, append-nil}
use Rattle.std.specs.Prelude.{Contains}
use Rattle.std.specs.List.{AllByRecursion, filter}
use Rattle.std.specs.List.Sorted.{IsStrictlySortedBy}
use Rattle.std.specs.declared.cmp.Ordering.TheVariants.{Less, Equal}
use Rattle.std.specs.Ordering.{is_eq}
use Rattle.std.proofs.lemmas.Grind.{flat_map-append}
use Rattle.std.proofs.lemmas.List.{map-append}
use Rattle.std.proofs.lemmas.List.Elements.{filter-append, Contains-append_left, Contains-append_right}
use Rattle.base.proofs.Bools.{by_bool, Equal-from_is_eq}
use Rattle.base.proofs.Lists.{filter_hit, filter_miss, AllByRecursion-append, AllByRecursion-weaker}
use Rattle.base.proofs.Membership.{no_member, contains_first, contains_later, only_member, each_member, all_members, of_map, into_flat_map}
use Rattle.base.proofs.Order.{sorted_nil, sorted_cons, sorted_append}
use Rattle.label_sets.specs.declared.label.Label.{Label}
use Rattle.label_sets.specs.Labels.{compare_sets}
use Rattle.label_sets.proofs.LabelValues.{same_set}
use Rattle.vertical_merge.proofs.Orders.{set_itself}
use Rattle.block_writing.specs.Put.{PutChunk, PutSeries}
use Rattle.block_merging.specs.MergedSeries.{IsMergedSeries}
use Rattle.block_merging.specs.MergedBlock.{has_labels, chunks_under, AreMerges}
use Rattle.block_merging.specs.Queues.{chunks_of}

-- ---- labels

pub same_labels : (one other : List Label) → is_eq (compare_sets one other) ≡ true → one ≡ other
same_labels one other t = same_set one other (Equal-from_is_eq (compare_sets one other) t)

pub are_same : (one other : List Label) → one ≡ other → is_eq (compare_sets one other) ≡ true
are_same one other e = subst (λ l. is_eq (compare_sets one l) ≡ true) e (ap is_eq (set_itself one))

pub not_itself : {P : Type 0} (one : List Label) → compare_sets one one ≡ Less → P
not_itself one less = absurd (let f : Less ≡ Equal = sym less ∙ set_itself one in cc)

pub not_same : (one other : List Label) → compare_sets one other ≡ Less → is_eq (compare_sets other one) ≡ false
not_same one other less = by_bool (is_eq (compare_sets other one))
    (λ t. not_itself one (subst (λ l. compare_sets one l ≡ Less) (same_labels other one t) less)) (λ f. f)

-- ---- the chunks under labels

under-append : (labels : List Label) (xs ys : List PutSeries) → chunks_under labels (xs ++ ys) ≡ chunks_under labels xs ++ chunks_under labels ys
under-append labels xs ys = ap chunks_of (filter-append (has_labels labels) xs ys) ∙ flat_map-append (λ (s : PutSeries). s.chunks) (filter (has_labels labels) xs) (filter (has_labels labels) ys)

under_none : (labels : List Label) (xs : List PutSeries) → AllByRecursion (λ s. has_labels labels s ≡ false) xs → chunks_under labels xs ≡ []
under_none labels [] all = refl
under_none labels (x ∷ xs) all = ap chunks_of (filter_miss (has_labels labels) x xs all.0) ∙ under_none labels xs all.1

under_all : (labels : List Label) (xs : List PutSeries) → AllByRecursion (λ s. has_labels labels s ≡ true) xs → chunks_under labels xs ≡ chunks_of xs
under_all labels [] all = refl
under_all labels (x ∷ xs) all = ap chunks_of (filter_hit (has_labels labels) x xs all.0) ∙ ap (λ (l : List PutChunk). x.chunks ++ l) (under_all labels xs all.1)

pub under_some : (labels : List Label) (xs : List PutSeries) → chunks_under labels xs ≢ [] → (s : PutSeries) × Contains xs s × (s.labels ≡ labels)
under_some labels [] some = absurd (some refl)
under_some labels (x ∷ xs) some = by_bool (has_labels labels x)
    (λ t. (x, contains_first x xs, same_labels x.labels labels t))
    (λ f. let w = under_some labels xs (λ none. some (ap chunks_of (filter_miss (has_labels labels) x xs f) ∙ none)) in (w.0, contains_later x w.0 xs w.1, w.2))

no_chunks : (xs : List PutChunk) → ((c : PutChunk) → Contains xs c → ⊥) → xs ≡ []
no_chunks [] none = refl
no_chunks (x ∷ xs) none = absurd (none x (contains_first x xs))

pub none_of_group : (group : List PutSeries) (s : PutSeries) → chunks_of group ≡ [] → Contains group s → s.chunks ≡ []
none_of_group group s none among = no_chunks s.chunks (λ c here. no_member c (subst (λ l. Contains l c) none (into_flat_map (λ (x : PutSeries). x.chunks) group s c among here)))

-- ---- a group more

-- a series with chunks has its labels among those of the merged ones
abbrev pub HasItsLabels : List PutSeries → PutSeries → Type 0
HasItsLabels merged s = s.chunks ≢ [] → Contains (map (λ (m : PutSeries). m.labels) merged) s.labels

module _ (done group : List PutSeries) (labels : List Label) (same : AllByRecursion (λ s. s.labels ≡ labels) group) (later : AllByRecursion (λ s. compare_sets s.labels labels ≡ Less) done) where
  under_group : chunks_under labels (done ++ group) ≡ chunks_of group
  under_group =
      under-append labels done group
      ∙ ap (λ (l : List PutChunk). l ++ chunks_under labels group) (under_none labels done (AllByRecursion-weaker (λ s. compare_sets s.labels labels ≡ Less) (λ s. has_labels labels s ≡ false) (λ s less. ap is_eq less) done later))
      ∙ under_all labels group (AllByRecursion-weaker (λ s. s.labels ≡ labels) (λ s. has_labels labels s ≡ true) (λ s e. are_same s.labels labels e) group same)

  -- the labels of a merged series stand before those of the group
  before : (m : PutSeries) → chunks_under m.labels done ≢ [] → compare_sets m.labels labels ≡ Less
  before m some = let w = under_some m.labels done some in subst (λ l. compare_sets l labels ≡ Less) w.2 (each_member (λ s. compare_sets s.labels labels ≡ Less) done w.0 later w.1)

  under_old : (m : PutSeries) → chunks_under m.labels done ≢ [] → chunks_under m.labels done ≡ chunks_under m.labels (done ++ group)
  under_old m some = sym (under-append m.labels done group
      ∙ ap (λ (l : List PutChunk). chunks_under m.labels done ++ l) (under_none m.labels group (AllByRecursion-weaker (λ s. s.labels ≡ labels) (λ s. has_labels m.labels s ≡ false)
      (λ s e. subst (λ l. is_eq (compare_sets l m.labels) ≡ false) (sym e) (not_same m.labels labels (before m some))) group same))
      ∙ append-nil (chunks_under m.labels done))

  module _ (merged : List PutSeries) (h : AreMerges done merged) where
    some_of : (m : PutSeries) → Contains merged m → chunks_under m.labels done ≢ []
    some_of m among = each_member (λ s. chunks_under s.labels done ≢ []) merged m h.some among

    old_some : AllByRecursion (λ s. chunks_under s.labels (done ++ group) ≢ []) merged
    old_some = all_members (λ s. chunks_under s.labels (done ++ group) ≢ []) merged (λ m among. λ none. some_of m among (under_old m (some_of m among) ∙ none))

    old_each : AllByRecursion (λ s. IsMergedSeries s.labels (chunks_under s.labels (done ++ group)) s) merged
    old_each = all_members (λ s. IsMergedSeries s.labels (chunks_under s.labels (done ++ group)) s) merged (λ m among.
        subst (λ l. IsMergedSeries m.labels l m) (under_old m (some_of m among)) (each_member (λ s. IsMergedSeries s.labels (chunks_under s.labels done) s) merged m h.each among))

    -- the group has no chunk
    pub merged_same : chunks_of group ≡ [] → AreMerges (done ++ group) merged
    merged_same none = record {
      ascend = h.ascend;
      some = old_some;
      each = old_each;
      complete = AllByRecursion-append (HasItsLabels merged) done group h.complete (all_members (HasItsLabels merged) group (λ s among some. absurd (some (none_of_group group s none among))));
    }

    pub merged_more : (put : PutSeries) → chunks_of group ≢ [] → IsMergedSeries labels (chunks_of group) put → AreMerges (done ++ group) (merged ++ put ∷ [])
    merged_more put some is =
        let named : map (λ (m : PutSeries). m.labels) (merged ++ put ∷ []) ≡ map (λ (m : PutSeries). m.labels) merged ++ put.labels ∷ [] = map-append (λ (m : PutSeries). m.labels) merged (put ∷ []) in
        let alike : chunks_under put.labels (done ++ group) ≡ chunks_of group = ap (λ l. chunks_under l (done ++ group)) is.labels_are ∙ under_group in
        record {
          ascend = subst (IsStrictlySortedBy compare_sets) (sym named) (sorted_append compare_sets (map (λ (m : PutSeries). m.labels) merged) (put.labels ∷ []) h.ascend (sorted_cons compare_sets put.labels [] tt (sorted_nil compare_sets))
              (λ x y here there. let w = of_map (λ (m : PutSeries). m.labels) merged x here in
              subst (λ l. compare_sets l y ≡ Less) w.2 (subst (λ l. compare_sets w.0.labels l ≡ Less) (sym is.labels_are ∙ only_member put.labels y there) (before w.0 (some_of w.0 w.1)))));
          some = AllByRecursion-append (λ s. chunks_under s.labels (done ++ group) ≢ []) merged (put ∷ []) old_some ((λ none. some (sym alike ∙ none)), tt);
          each = AllByRecursion-append (λ s. IsMergedSeries s.labels (chunks_under s.labels (done ++ group)) s) merged (put ∷ []) old_each
              (subst (λ l. IsMergedSeries l (chunks_under l (done ++ group)) put) (sym is.labels_are) (subst (λ c. IsMergedSeries labels c put) (sym under_group) is), tt);
          complete = AllByRecursion-append (HasItsLabels (merged ++ put ∷ [])) done group
              (AllByRecursion-weaker (HasItsLabels merged) (HasItsLabels (merged ++ put ∷ [])) (λ s w chunks. subst (λ l. Contains l s.labels) (sym named) (Contains-append_left (map (λ (m : PutSeries). m.labels) merged) (put.labels ∷ []) s.labels (w chunks))) done h.complete)
              (AllByRecursion-weaker (λ s. s.labels ≡ labels) (HasItsLabels (merged ++ put ∷ [])) (λ s e chunks. subst (λ l. Contains l s.labels) (sym named)
              (Contains-append_right (map (λ (m : PutSeries). m.labels) merged) (put.labels ∷ []) s.labels (subst (Contains (put.labels ∷ [])) (is.labels_are ∙ sym e) (contains_first put.labels [])))) group same);
        }

-- nothing is the merge of nothing
pub merges_none : AreMerges [] []
unfolding IsStrictlySortedBy
merges_none = record { ascend = tt; some = tt; each = tt; complete = tt }
