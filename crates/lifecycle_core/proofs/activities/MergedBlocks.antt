-- A block that others are merged into holds, under final labels, what these held.
use Rattle.std.proofs.Common.{◌≡◌, inl, inr, ℕ, Bool, true, false, cond, List, [], ◌∷◌, ◌++◌, map, Option, Some, None, refl, sym, ap, subst, ◌∙◌}
use Rattle.std.specs.Prelude.{All, Contains}
use Rattle.std.specs.Cmp.{IsEquivalence}
use Rattle.std.specs.Option.{option_or, is_some}
use Rattle.std.specs.Ordering.{int_cmp, is_eq, ordering_then}
use Rattle.std.specs.List.{AllByRecursion, AllZip, flat_map, list_any, IsDistinct}
use Rattle.std.proofs.lemmas.Bool.{true≢false}
use Rattle.std.proofs.lemmas.Cmp.{eq_by_cmp_equiv}
use Rattle.std.proofs.lemmas.List.{map-append}
use Rattle.std.proofs.lemmas.List.Elements.{All-contains, All-from_recursion, Contains-append_left, Contains-append_right, Contains-append_cases}
use Rattle.std.proofs.lemmas.Map.Keys.{IsDistinct-head, IsDistinct-tail, IsDistinct-cons}
use Rattle.base.proofs.Bools.{by_bool}
use Rattle.base.proofs.Membership.{no_member, contains_first, contains_later, each_member, all_members, member_of_any, any_of_member, of_map, into_map, of_flat_map}
use Rattle.label_sets.specs.declared.label.Label.{Label}
use Rattle.label_sets.specs.declared.sample.Sample.{Sample}
use Rattle.label_sets.specs.declared.series.Series.{Series}
use Rattle.label_sets.specs.Finals.{is_among, without, final_of, reduced_of}
use Rattle.label_sets.specs.Labels.{IsLabelSet, compare_sets, value_of}
use Rattle.label_sets.specs.Triples.{IsOneToOne, Triple, has_same_key, triples_of, triples_under}
use Rattle.label_sets.proofs.FinalLabels.{IsLabelSet-without, IsLabelSet-reduced, IsLabelSet-final, value_of-without, value_of-final, value_of-reduced}
use Rattle.label_sets.proofs.LabelValues.{same_sets}
use Rattle.vertical_merge.proofs.Orders.{keys_total, same_key}
use Rattle.index_parts.specs.declared.index_series.IndexSeries.{IndexSeries}
use Rattle.index_parts.specs.IndexFile.{IsIndex}
use Rattle.block_meta.specs.declared.block_files.BlockFiles.{BlockFiles}
use Rattle.block_meta.specs.MetaFields.{MetaFields}
use Rattle.block_content.specs.Content.{IsContent, HoldsSeries}
use Rattle.block_writing.specs.Put.{PlanFields, Put}
use Rattle.block_writing.specs.WrittenMeta.{IsWritten, meta_with}
use Rattle.block_merging.specs.MergedContent.{reduced_triples, all_triples}
use Rattle.block_merging.proofs.SameLists.{zip_back}
use Rattle.block_merging.proofs.PlansFit.{compacted_lie}
use Rattle.block_merging.proofs.MergeLaws.{merge_held, merge_deduplicates}
use Rattle.block_merging.proofs.OneMerge.{under as labels_under}
use Rattle.lifecycle_core.specs.MergedLabels.{seen_as, Holds, AreMergedAs}

-- ---- final labels of reduced ones

kept_again : (gone : Bool) (outer own : Option (List ℕ))
    → cond gone None (option_or (cond gone None outer) (cond gone None (cond (is_some (cond gone None outer)) None own))) ≡ cond gone None (option_or outer own)
kept_again true outer own = refl
kept_again false None own = refl
kept_again false (Some x) own = refl

pub final_again : (own external labels : List Label) (replicas : List (List ℕ)) → IsLabelSet own → IsLabelSet external → without replicas external ≡ labels
    → final_of (reduced_of own labels replicas) labels replicas ≡ final_of own external replicas
final_again own external labels replicas p q is =
    let set : IsLabelSet labels = subst IsLabelSet is (IsLabelSet-without replicas external q) in
    same_sets (final_of (reduced_of own labels replicas) labels replicas) (final_of own external replicas)
    (IsLabelSet-final (reduced_of own labels replicas) labels replicas (IsLabelSet-reduced own labels replicas p) set)
    (IsLabelSet-final own external replicas p q)
    (λ name. let v : value_of labels name ≡ cond (is_among replicas name) None (value_of external name) = ap (λ l. value_of l name) (sym is) ∙ value_of-without replicas external name in
    value_of-final (reduced_of own labels replicas) labels replicas name
    ∙ ap (λ w. cond (is_among replicas name) None (option_or (value_of labels name) w)) (value_of-reduced own labels replicas name)
    ∙ ap (λ o. cond (is_among replicas name) None (option_or o (cond (is_among replicas name) None (cond (is_some o) None (value_of own name))))) v
    ∙ kept_again (is_among replicas name) (value_of external name) (value_of own name)
    ∙ sym (value_of-final own external replicas name))

own_value : (gone : Bool) (outer own : Option (List ℕ))
    → cond gone None (cond (is_some outer) None own) ≡ cond gone None (cond (is_some outer) None (cond gone None (option_or outer (cond gone None (cond (is_some outer) None own)))))
own_value true outer own = refl
own_value false None own = refl
own_value false (Some x) own = refl

-- reduced labels are told by the final ones
reduced_value : (own labels : List Label) (replicas : List (List ℕ)) (name : List ℕ)
    → value_of (reduced_of own labels replicas) name ≡ cond (is_among replicas name) None (cond (is_some (value_of labels name)) None (value_of (final_of (reduced_of own labels replicas) labels replicas) name))
reduced_value own labels replicas name =
    value_of-reduced own labels replicas name ∙ own_value (is_among replicas name) (value_of labels name) (value_of own name)
    ∙ ap (λ v. cond (is_among replicas name) None (cond (is_some (value_of labels name)) None v))
    (sym (value_of-final (reduced_of own labels replicas) labels replicas name
    ∙ ap (λ w. cond (is_among replicas name) None (option_or (value_of labels name) w)) (value_of-reduced own labels replicas name)))

reduced_apart : (one other labels : List Label) (replicas : List (List ℕ)) → IsLabelSet one → IsLabelSet other
    → final_of (reduced_of one labels replicas) labels replicas ≡ final_of (reduced_of other labels replicas) labels replicas → reduced_of one labels replicas ≡ reduced_of other labels replicas
reduced_apart one other labels replicas p q same =
    same_sets (reduced_of one labels replicas) (reduced_of other labels replicas) (IsLabelSet-reduced one labels replicas p) (IsLabelSet-reduced other labels replicas q)
    (λ name. reduced_value one labels replicas name
    ∙ ap (λ l. cond (is_among replicas name) None (cond (is_some (value_of labels name)) None (value_of l name))) same
    ∙ sym (reduced_value other labels replicas name))

-- ---- keys

alike : IsEquivalence has_same_key
alike = eq_by_cmp_equiv keys_total

pub are_same : (one other : Triple) → one.labels ≡ other.labels → one.time ≡ other.time → has_same_key one other ≡ true
are_same one other labels times =
    subst (λ t. is_eq (ordering_then (compare_sets one.labels other.labels) (int_cmp one.time t)) ≡ true) times
    (subst (λ l. is_eq (ordering_then (compare_sets one.labels l) (int_cmp one.time one.time)) ≡ true) labels (alike.refl one))

all_of : {A : Type 0} (P : A → Type 0) (xs : List A) → ((x : A) → Contains xs x → P x) → All P xs
all_of P xs each = All-from_recursion P xs (all_members P xs each)

-- ---- triples under other labels

module _ (F : List Label → List Label) where
  abbrev again : Triple → Triple
  again t = record { labels = F t.labels; time = t.time; pattern = t.pattern }

  under_again : (labels : List Label) (samples : List Sample) → map again (triples_under labels samples) ≡ triples_under (F labels) samples
  unfolding triples_under
  under_again labels [] = refl
  under_again labels (s ∷ samples) = ap (λ (l : List Triple). record { labels = F labels; time = s.time; pattern = s.pattern } ∷ l) (under_again labels samples)

  list_again : (G : List Label → List Label) (list : List Series)
      → map again (flat_map (λ (s : Series). triples_under (G s.labels) s.samples) list) ≡ flat_map (λ (s : Series). triples_under (F (G s.labels)) s.samples) list
  list_again G [] = refl
  list_again G (s ∷ list) =
      map-append again (triples_under (G s.labels) s.samples) (flat_map (λ (s : Series). triples_under (G s.labels) s.samples) list)
      ∙ ap (λ (l : List Triple). l ++ map again (flat_map (λ (s : Series). triples_under (G s.labels) s.samples) list)) (under_again (G s.labels) s.samples)
      ∙ ap (λ (l : List Triple). triples_under (F (G s.labels)) s.samples ++ l) (list_again G list)

  own_again : (list : List Series) → map again (triples_of list) ≡ flat_map (λ (s : Series). triples_under (F s.labels) s.samples) list
  unfolding triples_of
  own_again list = list_again (λ l. l) list

  apart_again : (x z : Triple) → (F x.labels ≡ F z.labels → x.labels ≡ z.labels) → has_same_key x z ≡ false → has_same_key (again x) (again z) ≡ false
  apart_again x z tells apart = by_bool (has_same_key (again x) (again z))
      (λ t. let same = same_key (again x) (again z) t in absurd (true≢false (sym (are_same x z (tells same.0) same.1) ∙ apart)))
      (λ f. f)

  once_again : (xs : List Triple) → ((x z : Triple) → Contains xs x → Contains xs z → F x.labels ≡ F z.labels → x.labels ≡ z.labels) → IsDistinct has_same_key xs → IsDistinct has_same_key (map again xs)
  unfolding IsDistinct
  once_again [] tells once = tt
  once_again (x ∷ xs) tells once = IsDistinct-cons has_same_key (again x) (map again xs)
      (all_members (λ y. has_same_key (again x) y ≡ false) (map again xs) (λ y among. let w = of_map again xs y among in
      subst (λ v. has_same_key (again x) v ≡ false) w.2
      (apart_again x w.0 (tells x w.0 (contains_first x xs) (contains_later x w.0 xs w.1)) (each_member (λ v. has_same_key x v ≡ false) xs w.0 (IsDistinct-head has_same_key x xs once) w.1))))
      (once_again xs (λ y z here there. tells y z (contains_later x y xs here) (contains_later x z xs there)) (IsDistinct-tail has_same_key x xs once))

  -- a key that another one's relabelled triple has is had by the relabelled triple of the other's key
  key_again : (h t x : Triple) → has_same_key h (again t) ≡ true → has_same_key t x ≡ true → has_same_key h (again x) ≡ true
  key_again h t x one other =
      let a = same_key h (again t) one in
      let b = same_key t x other in
      are_same h (again x) (a.0 ∙ ap F b.0) (a.1 ∙ b.1)

  -- one-to-one of a list, relabelled, is so of what has the same keys as the relabelled list
  joined_again : (kept list held : List Triple) → IsOneToOne kept list → ((x z : Triple) → Contains list x → Contains list z → F x.labels ≡ F z.labels → x.labels ≡ z.labels)
      → ((t : Triple) → Contains list t → Contains held (again t)) → ((h : Triple) → Contains held h → (t : Triple) × Contains list t × (has_same_key h (again t) ≡ true)) → IsOneToOne (map again kept) held
  joined_again kept list held one tells taken complete = record {
    once = once_again kept (λ x z here there. tells x z (All-contains (Contains list) kept x one.taken here) (All-contains (Contains list) kept z one.taken there)) one.once;
    taken = all_of (Contains held) (map again kept) (λ y among. let w = of_map again kept y among in subst (Contains held) w.2 (taken w.0 (All-contains (Contains list) kept w.0 one.taken w.1)));
    complete = all_of (λ h. list_any (has_same_key h) (map again kept) ≡ true) held (λ h among.
        let w = complete h among in
        let x = member_of_any (has_same_key w.0) kept (All-contains (λ t. list_any (has_same_key t) kept ≡ true) list w.0 one.complete w.1) in
        any_of_member (has_same_key h) (map again kept) (again x.0) (into_map again kept x.0 x.1) (key_again h w.0 x.0 w.2 x.2));
  }

-- ---- what the blocks hold

-- The block holds these, and nothing else: at each of their keys it has a sample, and each of its samples is one of them. It may hold
-- one twice.
pub record HoldsThese (replicas : List (List ℕ)) (block : BlockFiles) (held : List Triple) : Type 0 where
  pub list : List Series
  pub content : IsContent block list
  pub taken : All (Contains held) (seen_as block.meta.labels replicas list)
  pub complete : All (λ t. list_any (has_same_key t) (seen_as block.meta.labels replicas list) ≡ true) held

hold_these : (replicas : List (List ℕ)) (blocks : List BlockFiles) (held : List (List Triple)) → AllZip (Holds replicas) blocks held → AllZip (HoldsThese replicas) blocks held
hold_these replicas [] [] each = tt
hold_these replicas [] (h ∷ held) each = absurd each
hold_these replicas (block ∷ blocks) [] each = absurd each
hold_these replicas (block ∷ blocks) (h ∷ held) each = (
  record { list = each.0.list; content = each.0.content; taken = each.0.one_to_one.taken; complete = each.0.one_to_one.complete },
  hold_these replicas blocks held each.1,
)

abbrev one_under : List Label → Sample → Triple
one_under labels s = record { labels = labels; time = s.time; pattern = s.pattern }

index_sets : (index : List ℕ) (indexed : List IndexSeries) (one : IndexSeries) → IsIndex index indexed → Contains indexed one → IsLabelSet one.labels
index_sets index indexed one is among =
    let p = of_map (λ (e : ℕ × IndexSeries). e.1) is.listed one (subst (λ l. Contains l one) (sym is.list_is) among) in
    subst (λ (s : IndexSeries). IsLabelSet s.labels) p.2 (is.series_are.stand p.0.0 p.0.1 p.1).lawful

pub content_sets : (block : BlockFiles) (list : List Series) → IsContent block list → AllByRecursion (λ (s : Series). IsLabelSet s.labels) list
content_sets block list content = all_members (λ (s : Series). IsLabelSet s.labels) list (λ s among.
    let w = zip_back (HoldsSeries block.segments) content.indexed list s content.series_are among in
    subst IsLabelSet (sym w.2.labels_are) (index_sets block.index content.indexed w.0 content.index_is w.1))

seen_reduced : (external labels : List Label) (replicas : List (List ℕ)) (list : List Series) → AllByRecursion (λ (s : Series). IsLabelSet s.labels) list → IsLabelSet external → without replicas external ≡ labels
    → seen_as external replicas list ≡ flat_map (λ (s : Series). triples_under (final_of (reduced_of s.labels labels replicas) labels replicas) s.samples) list
seen_reduced external labels replicas [] sets set is = refl
seen_reduced external labels replicas (s ∷ list) sets set is =
    ap (λ (l : List Label). triples_under l s.samples ++ seen_as external replicas list) (sym (final_again s.labels external labels replicas sets.0 set is))
    ∙ ap (λ (l : List Triple). triples_under (final_of (reduced_of s.labels labels replicas) labels replicas) s.samples ++ l) (seen_reduced external labels replicas list sets.1 set is)

module _ (replicas : List (List ℕ)) (labels : List Label) where
  abbrev seen : List Label → List Label
  seen own = final_of own labels replicas

  record IsReduced (t : Triple) : Type 0 where
    own : List Label
    set : IsLabelSet own
    is : t.labels ≡ reduced_of own labels replicas

  reduced_in : (list : List Series) (t : Triple) → AllByRecursion (λ (s : Series). IsLabelSet s.labels) list → Contains (reduced_triples labels replicas list) t → IsReduced t
  reduced_in list t sets among =
      let w = of_flat_map (λ (s : Series). triples_under (reduced_of s.labels labels replicas) s.samples) list t among in
      record {
        own = w.0.labels;
        set = each_member (λ (s : Series). IsLabelSet s.labels) list w.0 sets w.1;
        is = labels_under (reduced_of w.0.labels labels replicas) w.0.samples t w.2;
      }

  -- the contents of blocks, and what they hold
  record AreJoined (blocks : List BlockFiles) (held : List (List Triple)) : Type 0 where
    contents : List (List Series)
    content : AllZip IsContent blocks contents
    reduced : (t : Triple) → Contains (all_triples labels replicas contents) t → IsReduced t
    taken : (t : Triple) → Contains (all_triples labels replicas contents) t → Contains (flat_map (λ one. one) held) (again seen t)
    complete : (h : Triple) → Contains (flat_map (λ one. one) held) h → (t : Triple) × Contains (all_triples labels replicas contents) t × (has_same_key h (again seen t) ≡ true)

  nothing_joined : AreJoined [] []
  nothing_joined = record {
    contents = [];
    content = tt;
    reduced = λ t among. absurd (no_member t among);
    taken = λ t among. absurd (no_member t among);
    complete = λ h among. absurd (no_member h among);
  }

  one_seen : (block : BlockFiles) (list : List Series) → IsContent block list → IsLabelSet block.meta.labels → without replicas block.meta.labels ≡ labels
      → seen_as block.meta.labels replicas list ≡ map (again seen) (reduced_triples labels replicas list)
  one_seen block list content set is =
      seen_reduced block.meta.labels labels replicas list (content_sets block list content) set is ∙ sym (list_again (λ own. final_of own labels replicas) (λ own. reduced_of own labels replicas) list)

  one_joined : (block : BlockFiles) (blocks : List BlockFiles) (h : List Triple) (held : List (List Triple)) → IsLabelSet block.meta.labels → without replicas block.meta.labels ≡ labels → HoldsThese replicas block h
      → AreJoined blocks held → AreJoined (block ∷ blocks) (h ∷ held)
  one_joined block blocks h held set is holds w =
      let own : List Triple = reduced_triples labels replicas holds.list in
      let others : List Triple = all_triples labels replicas w.contents in
      let same : seen_as block.meta.labels replicas holds.list ≡ map (again seen) own = one_seen block holds.list holds.content set is in
      let here : All (Contains h) (map (again seen) own) = subst (All (Contains h)) same holds.taken in
      let there : All (λ t. list_any (has_same_key t) (map (again seen) own) ≡ true) h = subst (λ l. All (λ t. list_any (has_same_key t) l ≡ true) h) same holds.complete in
      record {
        contents = holds.list ∷ w.contents;
        content = (holds.content, w.content);
        reduced = λ t among. elim (Contains-append_cases own others t among) [
          | inl mine ↦ reduced_in holds.list t (content_sets block holds.list holds.content) mine
          | inr later ↦ w.reduced t later
        ];
        taken = λ t among. elim (Contains-append_cases own others t among) [
          | inl mine ↦ Contains-append_left h (flat_map (λ one. one) held) (again seen t) (All-contains (Contains h) (map (again seen) own) (again seen t) here (into_map (again seen) own t mine))
          | inr later ↦ Contains-append_right h (flat_map (λ one. one) held) (again seen t) (w.taken t later)
        ];
        complete = λ x among. elim (Contains-append_cases h (flat_map (λ one. one) held) x among) [
          | inl mine ↦
              let found = member_of_any (has_same_key x) (map (again seen) own) (All-contains (λ t. list_any (has_same_key t) (map (again seen) own) ≡ true) h x there mine) in
              let from = of_map (again seen) own found.0 found.1 in
              (from.0, Contains-append_left own others from.0 from.1, subst (λ y. has_same_key x y ≡ true) (sym from.2) found.2)
          | inr later ↦ let found = w.complete x later in (found.0, Contains-append_right own others found.0 found.1, found.2)
        ];
      }

  all_joined : (blocks : List BlockFiles) (held : List (List Triple)) → AllByRecursion (λ (one : BlockFiles). IsLabelSet one.meta.labels) blocks → AllByRecursion (λ (one : BlockFiles). without replicas one.meta.labels ≡ labels) blocks
      → AllZip (HoldsThese replicas) blocks held → AreJoined blocks held
  all_joined [] [] sets grouped each = nothing_joined
  all_joined [] (h ∷ held) sets grouped each = absurd each
  all_joined (block ∷ blocks) [] sets grouped each = absurd each
  all_joined (block ∷ blocks) (h ∷ held) sets grouped each = one_joined block blocks h held sets.0 grouped.0 each.0 (all_joined blocks held sets.1 grouped.1 each.1)

  told_apart : (x z : Triple) → IsReduced x → IsReduced z → seen x.labels ≡ seen z.labels → x.labels ≡ z.labels
  told_apart x z a b same =
      a.is ∙ reduced_apart a.own b.own labels replicas a.set b.set (sym (ap (λ l. final_of l labels replicas) a.is) ∙ same ∙ ap (λ l. final_of l labels replicas) b.is) ∙ sym b.is

  own_seen : (external : List Label) (list : List Series) → external ≡ labels → seen_as external replicas list ≡ map (again seen) (triples_of list)
  own_seen external list is = ap (λ l. seen_as l replicas list) is ∙ sym (own_again (λ own. final_of own labels replicas) list)

labels_written : (put : Put) (block : BlockFiles) → IsWritten put block → block.meta.labels ≡ put.plan.labels
unfolding meta_with
labels_written put block is = ap (λ (f : MetaFields). f.labels) is.meta

-- the block has what the others hold, each sample once
pub merge_joins : (replicas : List (List ℕ)) (ulid : ℕ) (labels : List Label) (blocks : List BlockFiles) (block : BlockFiles) (held : List (List Triple)) → AreMergedAs replicas ulid labels blocks block → AllZip (HoldsThese replicas) blocks held
    → Holds replicas block (flat_map (λ one. one) held)
merge_joins replicas ulid labels blocks block held m each =
    let j = all_joined replicas labels blocks held m.sets m.grouped each in
    let content = merge_held m.plan replicas blocks block m.merged in
    let kept = merge_deduplicates m.plan replicas blocks block j.contents content.0 m.bytes m.own (compacted_lie blocks ulid labels m.plan m.planned) j.content m.merged content.1 in
    let one : IsOneToOne (triples_of content.0) (all_triples labels replicas j.contents) = subst (λ l. IsOneToOne (triples_of content.0) (all_triples l replicas j.contents)) m.planned.labels_are kept.one_to_one in
    let own : block.meta.labels ≡ labels = labels_written m.merged.put block m.merged.block_is ∙ ap (λ (p : PlanFields). p.labels) m.merged.put_is.plan_is ∙ m.planned.labels_are in
    record {
      list = content.0;
      content = content.1;
      one_to_one = subst (λ l. IsOneToOne l (flat_map (λ one. one) held)) (sym (own_seen replicas labels block.meta.labels content.0 own))
          (joined_again (seen replicas labels) (triples_of content.0) (all_triples labels replicas j.contents) (flat_map (λ one. one) held) one
          (λ x z here there. told_apart replicas labels x z (j.reduced x here) (j.reduced z there)) j.taken j.complete);
    }

pub merge_holds : (replicas : List (List ℕ)) (ulid : ℕ) (labels : List Label) (blocks : List BlockFiles) (block : BlockFiles) (held : List (List Triple)) → AreMergedAs replicas ulid labels blocks block → AllZip (Holds replicas) blocks held
    → Holds replicas block (flat_map (λ one. one) held)
merge_holds replicas ulid labels blocks block held m each = merge_joins replicas ulid labels blocks block held m (hold_these replicas blocks held each)
