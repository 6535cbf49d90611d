-- A call is exact where its reads and its cache show the blocks as they stand.
use Rattle.std.proofs.Common.{◌≡◌, ℕ, Bool, true, false, cond, List, [], ◌∷◌, ◌++◌, Some, refl, sym, ap, ap₂, subst, ◌∙◌, inl, inr, append_assoc, append-nil}
use Rattle.std.specs.Prelude.{◌&&◌, ◌==◌}
use Rattle.std.specs.List.{AllByRecursion, AllZip}
use Rattle.std.specs.Map.{lookup}
use Rattle.std.proofs.lemmas.Bool.{and_parts, eqb-true}
use Rattle.std.proofs.lemmas.List.Elements.{recursion_from_All}
use Rattle.label_sets.specs.declared.series.Series.{Series}
use Rattle.label_sets.specs.Triples.{Triple}
use Rattle.matchers.specs.SelectorText.{named_replicas}
use Rattle.block_keys.specs.declared.key.Key.{Key}
use Rattle.block_keys.specs.declared.key.Key.TheVariants.{Meta, Index, Segment, Mark}
use Rattle.bucket_core.specs.Contents.{Contents}
use Rattle.world_core.specs.Plans.{Runs, ends}
use Rattle.world_core.specs.Standing.{Tells}
use Rattle.world_core.specs.declared.op.Op.{Op}
use Rattle.world_core.specs.declared.op.Op.TheVariants.{Get, GetRange}
use Rattle.world_core.specs.declared.reply.Reply.{Reply}
use Rattle.world_core.specs.declared.reply.Reply.TheVariants.{Found}
use Rattle.world_core.specs.declared.entry.Entry.{Entry}
use Rattle.world_core.proofs.PlanLaws.{EndsAre, end_is}
use Rattle.world_core.proofs.PlanParts.{Parts, broken, both, parts}
use Rattle.meta_fetcher.specs.declared.view.View.{View}
use Rattle.vertical_merge.specs.Merged.{IsMerge}
use Rattle.store_ranges.specs.Caches.{same_key, same_range}
use Rattle.store_ranges.specs.declared.range.Range.{Range}
use Rattle.store_ranges.specs.IndexRanges.{Piece}
use Rattle.store_ranges.specs.Reads.{Block, Cache, Query, missing, damaged, fault, range_of}
use Rattle.store_calls.specs.BlockReads.{BlockEnd, gives, breaks_off, block_call}
use Rattle.store_calls.specs.Exact.{AreShown, HoldsBlock, IsCacheOf, StandsIn, asked_of, asked_of_all}
use Rattle.store_calls.specs.SeriesCalls.{Called, took, broke, CallEnd, Gives, SeriesRun, after_block, reading, sources_of, to_read}
use Rattle.store_calls.specs.declared.series_call.SeriesEnd.TheVariants as ended
use Rattle.store_calls.proofs.BlockWalk.{block_holds}
use Rattle.store_calls.proofs.CacheChanges.{all_kept, all_promoted}
use Rattle.store_calls.proofs.CallLaws.{each_front}
use Rattle.store_calls.proofs.ExactBlock.{KnownIn, WholeIn, share_is}

-- ---- ranges of a cache

key_is : (one other : Key) → same_key one other ≡ true → one ≡ other
key_is (Meta ulid) (Meta other) same = ap Meta (eqb-true ulid other same)
key_is (Index ulid) (Index other) same = ap Index (eqb-true ulid other same)
key_is (Segment ulid number) (Segment other second) same =
    let p = and_parts (ulid == other) (number == second) same in ap₂ Segment (eqb-true ulid other p.0) (eqb-true number second p.1)
key_is (Mark ulid) (Mark other) same = ap Mark (eqb-true ulid other same)
key_is (Meta ulid) (Index other) same = absurd (cc (same))
key_is (Meta ulid) (Segment other second) same = absurd (cc (same))
key_is (Meta ulid) (Mark other) same = absurd (cc (same))
key_is (Index ulid) (Meta other) same = absurd (cc (same))
key_is (Index ulid) (Segment other second) same = absurd (cc (same))
key_is (Index ulid) (Mark other) same = absurd (cc (same))
key_is (Segment ulid number) (Meta other) same = absurd (cc (same))
key_is (Segment ulid number) (Index other) same = absurd (cc (same))
key_is (Segment ulid number) (Mark other) same = absurd (cc (same))
key_is (Mark ulid) (Meta other) same = absurd (cc (same))
key_is (Mark ulid) (Index other) same = absurd (cc (same))
key_is (Mark ulid) (Segment other second) same = absurd (cc (same))

range_is : (one other : Range) → same_range one other ≡ true → one ≡ other
range_is one other same =
    let p = and_parts (same_key one.key other.key) (one.from == other.from && one.len == other.len) same in
    let q = and_parts (one.from == other.from) (one.len == other.len) p.1 in
    let keys : one.key ≡ other.key = key_is one.key other.key p.0 in
    let froms : one.from ≡ other.from = eqb-true one.from other.from q.0 in
    let lens : one.len ≡ other.len = eqb-true one.len other.len q.1 in
    λ i. record { key = keys i; from = froms i; len = lens i }

-- what a cache has of a range, it keeps under the range
pub kept_under : (P : Range × List ℕ → Type 0) (range : Range) (entries : List (Range × List ℕ)) (bytes : List ℕ) → AllByRecursion P entries → lookup (same_range range) entries ≡ Some bytes → P (range, bytes)
kept_under P range [] bytes all is = absurd (cc (is))
kept_under P range (e ∷ entries) bytes all is = by_test (same_range range e.0) refl is (kept_under P range entries bytes all.1)
  where
    by_test : (b : Bool) → same_range range e.0 ≡ b → cond b (Some e.1) (lookup (same_range range) entries) ≡ Some bytes → (lookup (same_range range) entries ≡ Some bytes → P (range, bytes)) → P (range, bytes)
    by_test true same found later =
        let ranges : e.0 ≡ range = sym (range_is range e.0 same) in
        let shown : e.1 ≡ bytes = cc (found) in
        subst (λ (r : Range). P (r, bytes)) ranges (subst (λ (b : List ℕ). P (e.0, b)) shown all.0)
    by_test false same found later = later found

-- ---- what an entry shows

abbrev Shows : Contents → Entry → Type 0
Shows contents e = Tells contents e.op e.reply

pub range_shown : (contents : Contents) (e : Entry) (key : Key) (piece : Piece) (bytes : List ℕ) → e.op ≡ GetRange key piece.from piece.len → Shows contents e → e.reply ≡ Found bytes → KnownIn contents key piece bytes
range_shown contents e key piece bytes op shows reply =
    subst (λ (r : Reply). Tells contents (GetRange key piece.from piece.len) r) reply (subst (λ (o : Op). Tells contents o e.reply) op shows)

pub whole_shown : (contents : Contents) (e : Entry) (key : Key) (bytes : List ℕ) → e.op ≡ Get key → Shows contents e → e.reply ≡ Found bytes → WholeIn contents key bytes
whole_shown contents e key bytes op shows reply =
    subst (λ (r : Reply). Tells contents (Get key) r) reply (subst (λ (o : Op). Tells contents o e.reply) op shows)

-- ---- the reads of a block

abbrev Standing : Contents → Range × List ℕ → Type 0
Standing contents kept = StandsIn contents kept.0 kept.1

-- an end of the reads of a block is exact
abbrev EndsExact : Contents → List Triple → BlockEnd → Type 0
EndsExact contents share (gives triples cache) = (triples ≡ share) × IsCacheOf contents cache
EndsExact contents share (breaks_off why cache) = IsCacheOf contents cache

block_exact : (contents : Contents) (query : Query) (block : Block) (list : List Series) → named_replicas query.replicas query.selector ≡ [] → HoldsBlock contents block list → (cache : Cache) → IsCacheOf contents cache
    → EndsAre (Shows contents) (λ made end. EndsExact contents (asked_of query block list) end) [] (block_call query block cache)
block_exact contents query block list unnamed holds cache fine =
    block_holds {E = BlockEnd} breaks_off (EndsAre (Shows contents) (λ made end. EndsExact contents (asked_of query block list) end)) (λ op. Unit {0}) (Shows contents) (IsCacheOf contents)
    (KnownIn contents) (WholeIn contents)
    (λ made. tt) (λ made op next is on. on) (λ A made Such one next on. on) (λ made e op c is same given absent fine. fine) (λ made e landed c given so fine. fine)
    (λ range c fine. all_promoted (Standing contents) (same_range range) c.entries fine)
    (λ e key piece bytes c same given found none fine. all_kept (Standing contents) same_range c (range_of key piece) bytes none (range_shown contents e key piece bytes same given found) fine)
    (range_shown contents)
    (λ key piece bytes c fine has. kept_under (Standing contents) (range_of key piece) c.entries bytes (recursion_from_All (Standing contents) c.entries fine) has)
    (whole_shown contents)
    query block tt (λ from len. tt) (λ series are reference sought from len. tt) (λ made number c spoilt fine. fine) (λ after triples. ends (gives triples after))
    (λ made after series all are read_so set fine. (share_is contents query block list holds unnamed series all are read_so set, fine)) [] cache fine

-- ---- calls

-- an end of a call is exact
abbrev ToldExact : Contents → List Triple → Called → Type 0
ToldExact contents all (took taken cache) = (taken ≡ all) × IsCacheOf contents cache
ToldExact contents all (broke why cache) = IsCacheOf contents cache

module _ (contents : Contents) (query : Query) (unnamed : named_replicas query.replicas query.selector ≡ []) where
  abbrev AllExact : List Block → List (List Series) → Type 0
  AllExact blocks lists =
      (taken : List Triple) (before : Cache) (entries : List Entry) (told : Called) → AllByRecursion (Shows contents) entries → IsCacheOf contents before
      → Runs (reading query blocks taken before) entries (Some told) → ToldExact contents (taken ++ asked_of_all query blocks lists) told

  first_exact : (block : Block) (blocks : List Block) (list : List Series) (lists : List (List Series)) → HoldsBlock contents block list → AllExact blocks lists → AllExact (block ∷ blocks) (list ∷ lists)
  first_exact block blocks list lists holds later taken before entries told shown fine run =
      by_parts (parts (block_call query block before) (after_block taken (reading query blocks)) entries (Some told) run)
    where
      by_end : (others : List Entry) (last : BlockEnd) → AllByRecursion (Shows contents) others → EndsExact contents (asked_of query block list) last
          → Runs (after_block taken (reading query blocks) last) others (Some told) → ToldExact contents (taken ++ asked_of_all query (block ∷ blocks) (list ∷ lists)) told
      by_end others (gives share next) rest exact run =
          subst (λ l. ToldExact contents l told)
          (append_assoc taken share (asked_of_all query blocks lists) ∙ ap (λ l. taken ++ (l ++ asked_of_all query blocks lists)) exact.0)
          (later (taken ++ share) next others told rest exact.1 run)
      by_end others (breaks_off why next) rest exact (none, inl wrong) = absurd (cc (wrong))
      by_end others (breaks_off why next) rest exact (none, inr is) =
          let same : told ≡ broke why next = cc (is) in
          subst (ToldExact contents (taken ++ asked_of_all query (block ∷ blocks) (list ∷ lists))) (sym same) exact

      by_parts : Parts (block_call query block before) (after_block taken (reading query blocks)) entries (Some told) → ToldExact contents (taken ++ asked_of_all query (block ∷ blocks) (list ∷ lists)) told
      by_parts (broken first none) = absurd (cc (none))
      by_parts (both own others last is first rest) =
          let each = each_front (Shows contents) own others (subst (AllByRecursion (Shows contents)) is shown) in
          by_end others last each.1
          (end_is (Shows contents) (λ made end. EndsExact contents (asked_of query block list) end) (block_call query block before) [] own last
          (block_exact contents query block list unnamed holds before fine) each.0 first) rest

  all_exact : (blocks : List Block) (lists : List (List Series)) → AllZip (HoldsBlock contents) blocks lists → AllExact blocks lists
  all_exact [] [] hold taken before entries told shown fine (none, inl wrong) = absurd (cc (wrong))
  all_exact [] [] hold taken before entries told shown fine (none, inr is) =
      let same : told ≡ took taken before = cc (is) in subst (ToldExact contents (taken ++ [])) (sym same) (sym (append-nil taken), fine)
  all_exact [] (list ∷ lists) hold taken before entries told shown fine run = absurd hold
  all_exact (block ∷ blocks) [] hold taken before entries told shown fine run = absurd hold
  all_exact (block ∷ blocks) (list ∷ lists) hold taken before entries told shown fine run =
      first_exact block blocks list lists hold.0 (all_exact blocks lists hold.1) taken before entries told shown fine run

-- ---- answers

abbrev answer : List Series → List ℕ → Cache → CallEnd
answer series sources after = record { end = ended.Answer series sources; cache = after }

by_told : (contents : Contents) (all : List Triple) (named : List ℕ) (told : Called) (series : List Series) (sources : List ℕ) (after : Cache) → ToldExact contents all told
    → Gives named told (answer series sources after) → IsMerge all series × IsCacheOf contents after
by_told contents all named (took taken cache) series sources after exact ((others, set, is, merge, of), same) =
    let same_series : series ≡ others = cc (is) in
    (subst (λ l. IsMerge l series) exact.0 (subst (IsMerge taken) (sym same_series) merge), subst (IsCacheOf contents) (sym same) exact.1)
by_told contents all named (broke (missing number) cache) series sources after exact (is, same) = absurd (cc (is))
by_told contents all named (broke (damaged number) cache) series sources after exact (is, same) = absurd (cc (is))
by_told contents all named (broke (fault number) cache) series sources after exact (is, same) = absurd (cc (is))

pub answer_exact : (view : View) (query : Query) (contents : Contents) (lists : List (List Series)) (before after : Cache) (entries : List Entry) (series : List Series) (sources : List ℕ)
    → named_replicas query.replicas query.selector ≡ [] → AllZip (HoldsBlock contents) (to_read query view.kept) lists → AreShown contents entries → IsCacheOf contents before
    → SeriesRun view query before entries (Some (answer series sources after)) → IsMerge (asked_of_all query (to_read query view.kept) lists) series × IsCacheOf contents after
answer_exact view query contents lists before after entries series sources unnamed hold shown fine (told, run, is) =
    by_told contents (asked_of_all query (to_read query view.kept) lists) (sources_of view.kept) told series sources after
    (all_exact contents query unnamed (to_read query view.kept) lists hold [] before entries told (recursion_from_All (Shows contents) entries shown) fine run) is
