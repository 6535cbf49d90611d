-- What is spelled is lawful.
use Rattle.std.proofs.Common.{◌≡◌, ◌≢◌, ℕ, ◌+◌, ◌%◌, ◌^◌, ◌<◌, ◌≤◌, ℤ, Bool, true, false, cond, nat_eq, nat_lt, List, [], ◌∷◌, ◌++◌, length, get_or, Option, Some, None, refl, sym, ap, ◌∙◌, subst, arith, inl, inr, append_assoc, append-nil}
use Rattle.std.specs.Bool.{MatchBool}
use Rattle.std.specs.List.{All, IsDistinct, position_or_len}
use Rattle.std.specs.List.Sorted.{IsNonDecreasingBy}
use Rattle.std.specs.Str.{IsUtf8, is_utf8, bytes_eq}
use Rattle.std.proofs.lemmas.Bool.{cases_lt}
use Rattle.std.proofs.lemmas.Bool.Decides.{nat_tests}
use Rattle.std.proofs.lemmas.List.{length-append, get_or_at, get_or_append_left, same_from_push}
use Rattle.std.proofs.lemmas.List.Elements.{All-nil, All-push, All-weaker}
use Rattle.std.proofs.lemmas.Str.{IsUtf8-from_is_utf8}
use Rattle.label_sets.specs.Labels.{compare_sets}
use Rattle.label_sets.specs.Notation.{is_name}
use Rattle.label_sets.specs.declared.sample.Sample.{Sample}
use Rattle.label_sets.specs.declared.series.Series.{Series}
use Rattle.matchers.specs.declared.matcher.Matcher.{Matcher}
use Rattle.moment_core.specs.declared.partition.Partition.{Partition}
use Rattle.moment_core.specs.declared.rules.Rules.{Rules}
use Rattle.moment_core.specs.declared.span.Span.{Span}
use Rattle.moment_core.specs.Limits.{moment_limit}
use Rattle.base.proofs.Order.{sorted_nil}
use Rattle.base.proofs.Lists.{last_or_none, pushed_not_nil, nil_not_middle}
use Rattle.script_core.specs.declared.block.Block.{Block}
use Rattle.script_core.specs.declared.body.Body.TheVariants.{Inline, OnShelf}
use Rattle.script_workers.specs.declared.phase.Phase.{Phase}
use Rattle.script_fields.specs.declared.rule_name.RuleName.{RuleName}
use Rattle.script_fields.specs.declared.rule_name.RuleName.TheVariants as names
use Rattle.script_core.specs.declared.script.Script.{Script}
use Rattle.script_workers.specs.declared.task.Task.{Task}
use Rattle.script_workers.specs.declared.work.Work.{Work}
use Rattle.script_workers.specs.declared.work.Work.TheVariants.{Upload, Sync, Compact, Clean, Query}
use Rattle.script_fields.specs.Fields.{lines_of, is_silent}
use Rattle.script_workers.specs.Hands.{gateway_count, hands_of, hands_from}
use Rattle.script_core.specs.State.{gateway_named}
use Rattle.script_fields.specs.Values.{with_rule, agree}
use Rattle.script_workers.specs.Works.{works_in, works_of, asks_all, has_sync, is_compaction, has_compaction, CompactOnce}
use Rattle.script_core.specs.Lawful.{AreLawfulRules, AreLawfulLabels, HasLawfulSamples, IsLawfulInline, HasSeries, IsLawfulBlock, AreLawfulBlocks, IsLawfulRetention, IsLawfulStop, IsLawfulWork, IsLawfulPhase, AreLawfulPhases, IsLawfulPartition, IsLawfulSelector, IsLawfulScript}
use Rattle.script_core.specs.Spelling as spelling
use Rattle.script_core.specs.Spelling.{SoFar, HasEnded, IsValueText, AreSampleFields, RuleLine, ReplicaLine, KeepsFor, RetentionLine, ArePartitionTexts, GatewayLine, BlockLine, ShelfLine, SeriesLine, AtLine, AddsTask, AreStopTexts, UploadLine, SyncLine, CompactLine, CleanLine, QueryLine, Says, Say, Spells}
use Rattle.script_core.proofs.Kept.{works_of-append, works_of-more}
use Rattle.script_core.proofs.LawfulLabels.{block_labels, shelf_labels, series_labels, small_patterns}
use Rattle.script_core.proofs.LawfulParts.{compacts_push, compacts_nil, All-front, All-last, once_push, same_ulids, ulids_of, moments_push}
use Rattle.script_core.proofs.SpelledValues.{free_tested, agree_tested, within_tested}
use Rattle.script_core.proofs.SpelledSeries.{each_placed}
use Rattle.script_workers.proofs.HandLaws.{few_counted}
use Rattle.script_core.proofs.SpelledRules.{rule_set}
use Rattle.script_workers.specs.Limits.{most_workers}
use Rattle.script_fields.specs.Limits.{most_gateways, most_tasks}

-- what is lawful so far: all but the last block have series
pub record IsLawfulSoFar (so_far : SoFar) : Type 0 where
  pub rules : AreLawfulRules so_far.script.rules
  pub agreed : so_far.script.phases ≢ [] → agree so_far.script.rules ≡ true
  pub few_gateways : length so_far.script.gateways ≤ most_gateways
  pub names : All (λ name. is_name name ≡ true) so_far.script.gateways
  pub partitioned : length so_far.script.partitions ≡ length so_far.script.gateways
  pub partitions : All IsLawfulPartition so_far.script.partitions
  pub blocks : AreLawfulBlocks so_far.script.blocks
  pub full : (others : List Block) (block : Block) → so_far.script.blocks ≡ others ++ block ∷ [] → All (λ (b : Block). HasSeries b.body) others
  pub selectors : All (IsLawfulSelector so_far.script.rules.replicas) so_far.script.selectors
  -- a selector is read once the rules are complete
  pub none_selected : so_far.script.phases ≡ [] → so_far.script.selectors ≡ []
  pub phases : AreLawfulPhases so_far.script.gateways so_far.script.blocks (length so_far.script.selectors) so_far.script.phases
  pub early : so_far.in_block ≡ true → so_far.script.phases ≡ []

no_phases : (gateways : List (List ℕ)) (blocks : List Block) (selectors : ℕ) → AreLawfulPhases gateways blocks selectors []
no_phases gateways blocks selectors = record {
  each = All-nil (IsLawfulPhase gateways blocks selectors);
  moments = λ i j d below inside. absurd (omega arith);
  few_tasks = omega arith;
  synced = λ before after work gateway is asks below. absurd (nil_not_middle work before after is);
}

early_phases : (gateways : List (List ℕ)) (blocks : List Block) (selectors : ℕ) (phases : List Phase) → phases ≡ [] → AreLawfulPhases gateways blocks selectors phases
early_phases gateways blocks selectors phases early =
    subst (AreLawfulPhases gateways blocks selectors) (sym early) (no_phases gateways blocks selectors)

-- no selector is read yet
early_selectors : (replicas : List (List ℕ)) (selectors : List (List Matcher)) → selectors ≡ [] → All (IsLawfulSelector replicas) selectors
early_selectors replicas selectors none = subst (All (IsLawfulSelector replicas)) (sym none) (All-nil (IsLawfulSelector replicas))

-- ---- rules, gateways and blocks

lawful_rule : (name : RuleName) (text : List ℕ) (value : ℕ) (rules : Rules) → IsValueText name text value → AreLawfulRules rules → AreLawfulRules (with_rule name value rules)
lawful_rule names.Consistency text value rules is lawful = record { consistency = is.at_most; ignore = lawful.ignore; delete = lawful.delete; partial = lawful.partial; upload = lawful.upload; tick = lawful.tick; page_limit_low = lawful.page_limit_low; page_limit_high = lawful.page_limit_high; replicas = lawful.replicas; retention = lawful.retention }
lawful_rule names.Ignore text value rules is lawful = record { consistency = lawful.consistency; ignore = is.at_most; delete = lawful.delete; partial = lawful.partial; upload = lawful.upload; tick = lawful.tick; page_limit_low = lawful.page_limit_low; page_limit_high = lawful.page_limit_high; replicas = lawful.replicas; retention = lawful.retention }
lawful_rule names.Delete text value rules is lawful = record { consistency = lawful.consistency; ignore = lawful.ignore; delete = is.at_most; partial = lawful.partial; upload = lawful.upload; tick = lawful.tick; page_limit_low = lawful.page_limit_low; page_limit_high = lawful.page_limit_high; replicas = lawful.replicas; retention = lawful.retention }
lawful_rule names.Partial text value rules is lawful = record { consistency = lawful.consistency; ignore = lawful.ignore; delete = lawful.delete; partial = is.at_most; upload = lawful.upload; tick = lawful.tick; page_limit_low = lawful.page_limit_low; page_limit_high = lawful.page_limit_high; replicas = lawful.replicas; retention = lawful.retention }
lawful_rule names.Upload text value rules is lawful = record { consistency = lawful.consistency; ignore = lawful.ignore; delete = lawful.delete; partial = lawful.partial; upload = is.at_most; tick = lawful.tick; page_limit_low = lawful.page_limit_low; page_limit_high = lawful.page_limit_high; replicas = lawful.replicas; retention = lawful.retention }
lawful_rule names.Tick text value rules is lawful = record { consistency = lawful.consistency; ignore = lawful.ignore; delete = lawful.delete; partial = lawful.partial; upload = lawful.upload; tick = is.1; page_limit_low = lawful.page_limit_low; page_limit_high = lawful.page_limit_high; replicas = lawful.replicas; retention = lawful.retention }
lawful_rule names.PageLimit text value rules is lawful = record { consistency = lawful.consistency; ignore = lawful.ignore; delete = lawful.delete; partial = lawful.partial; upload = lawful.upload; tick = lawful.tick; page_limit_low = is.1; page_limit_high = is.2; replicas = lawful.replicas; retention = lawful.retention }

-- with the last block complete, all blocks are
all_full : (blocks : List Block) → ((others : List Block) (block : Block) → blocks ≡ others ++ block ∷ [] → All (λ (b : Block). HasSeries b.body) others) → HasEnded blocks → All (λ (b : Block). HasSeries b.body) blocks
all_full blocks full ended =
    elim (last_or_none blocks) [
      | inl none ↦ subst (All (λ (b : Block). HasSeries b.body)) (sym none) (All-nil (λ (b : Block). HasSeries b.body))
      | inr more ↦ subst (All (λ (b : Block). HasSeries b.body)) (sym more.2) (All-push (λ (b : Block). HasSeries b.body) more.0 more.1 (full more.0 more.1 more.2) (ended more.0 more.1 more.2))
    ]

some_samples : (texts : List (List ℕ)) (samples : List Sample) → texts ≢ [] → AreSampleFields texts samples → samples ≢ []
some_samples [] samples some are none = some refl
some_samples (text ∷ texts) [] some are none = are
some_samples (text ∷ texts) (sample ∷ samples) some are none = cc

lawful_partition : (texts : List (List ℕ)) (partition : Partition) → ArePartitionTexts texts partition → IsLawfulPartition partition
lawful_partition texts partition (spelling.at_all_times none is) = inl is
lawful_partition texts partition (spelling.from_to low_text high_text are low high order) = inr (low.near.early, order, high.near.late)

lawful_retention : (ms : ℕ) (retention : Option Span) → ms ≤ 2 ^ 46 → KeepsFor ms retention → IsLawfulRetention retention
lawful_retention ms retention fits (spelling.for_ever none is) = subst IsLawfulRetention (sym is) tt
lawful_retention ms retention fits (spelling.so_long some is) = subst IsLawfulRetention (sym is) (some, fits)

lawful_stop : (texts : List (List ℕ)) (stop : Option ℕ) → AreStopTexts texts stop → IsLawfulStop stop
lawful_stop texts stop (spelling.no_stop none is) = subst IsLawfulStop (sym is) tt
lawful_stop texts stop (spelling.stops_at text count are field written low high is) =
    subst IsLawfulStop (sym is) (low, high)

module _ (before after : SoFar) (line : List ℕ) (order : IsLawfulSoFar before) where
  -- a rule's line leaves all but the rules
  with_rules : (rules : Rules) → AreLawfulRules rules → before.script.phases ≡ [] → IsLawfulSoFar (spelling.outside (record before.script { rules = rules }))
  with_rules rules lawful early = record {
    rules = lawful;
    agreed = λ some. absurd (some early);
    few_gateways = order.few_gateways;
    names = order.names;
    partitioned = order.partitioned;
    partitions = order.partitions;
    blocks = order.blocks;
    full = order.full;
    selectors = early_selectors rules.replicas before.script.selectors (order.none_selected early);
    none_selected = order.none_selected;
    phases = order.phases;
    early = λ e. absurd cc;
  }

  rule_keeps : RuleLine before line after → IsLawfulSoFar after
  rule_keeps says =
      subst IsLawfulSoFar (sym says.adds) (with_rules says.set (subst AreLawfulRules (sym (rule_set says.name says.value before.script.rules says.set says.sets)) (lawful_rule says.name says.text says.value before.script.rules says.is_value order.rules)) says.early)

  replica_keeps : ReplicaLine before line after → IsLawfulSoFar after
  replica_keeps says = subst IsLawfulSoFar (sym says.adds) (with_rules (record before.script.rules { replicas = before.script.rules.replicas ++ says.name ∷ [] }) (record {
    consistency = order.rules.consistency;
    ignore = order.rules.ignore;
    delete = order.rules.delete;
    partial = order.rules.partial;
    upload = order.rules.upload;
    tick = order.rules.tick;
    page_limit_low = order.rules.page_limit_low;
    page_limit_high = order.rules.page_limit_high;
    replicas = All-push (λ name. is_name name ≡ true) before.script.rules.replicas says.name order.rules.replicas says.is_name;
    retention = order.rules.retention;
  }) says.early)

  retention_keeps : RetentionLine before line after → IsLawfulSoFar after
  retention_keeps says = subst IsLawfulSoFar (sym says.adds) (with_rules (record before.script.rules { retention = says.retention }) (record {
    consistency = order.rules.consistency;
    ignore = order.rules.ignore;
    delete = order.rules.delete;
    partial = order.rules.partial;
    upload = order.rules.upload;
    tick = order.rules.tick;
    page_limit_low = order.rules.page_limit_low;
    page_limit_high = order.rules.page_limit_high;
    replicas = order.rules.replicas;
    retention = lawful_retention says.ms says.retention says.is_span.at_most says.keeps;
  }) says.early)

  gateway_keeps : GatewayLine before line after → IsLawfulSoFar after
  gateway_keeps says =
      let size = length-append before.script.gateways (says.name ∷ []) in
      let few = says.few in
      subst IsLawfulSoFar (sym says.adds) (record {
        rules = order.rules;
        agreed = order.agreed;
        few_gateways = omega arith;
        names = All-push (λ name. is_name name ≡ true) before.script.gateways says.name order.names says.is_name;
        partitioned = omega (arith, order.partitioned, size, length-append before.script.partitions (says.partition ∷ []));
        partitions = All-push IsLawfulPartition before.script.partitions says.partition order.partitions (lawful_partition says.texts says.partition says.are_texts);
        blocks = order.blocks;
        full = order.full;
        selectors = order.selectors;
        none_selected = order.none_selected;
        phases = early_phases _ before.script.blocks (length before.script.selectors) before.script.phases says.early;
        early = λ e. absurd cc;
      })

  block_keeps : IsUtf8 line → HasEnded before.script.blocks → BlockLine before line after → IsLawfulSoFar after
  block_keeps utf8 ended says =
      let new : Block = record { ulid = says.ulid; labels = says.labels; body = Inline says.min_time says.max_time [] } in
      let size = length-append before.script.blocks (new ∷ []) in
      let few = says.few in
      let inline : IsLawfulInline says.min_time says.max_time [] = record { early = says.is_min.near.early; ascend = says.times; late = says.is_max.near.late; labels = All-nil (λ (one : Series). AreLawfulLabels one.labels); ordered = sorted_nil compare_sets; samples = All-nil (HasLawfulSamples says.min_time says.max_time) } in
      subst IsLawfulSoFar (sym says.adds) (record {
        rules = order.rules;
        agreed = order.agreed;
        few_gateways = order.few_gateways;
        names = order.names;
        partitioned = order.partitioned;
        partitions = order.partitions;
        blocks = record {
          few = omega arith;
          each = All-push IsLawfulBlock before.script.blocks new order.blocks.each (record {
            ulid = says.is_ulid.written.fits;
            not_reserved = free_tested (says.ulid % 2 ^ 80) says.is_ulid.not_reserved;
            labels = block_labels before after line utf8 says;
            body = inline;
          });
          once = once_push before.script.blocks new order.blocks.once says.new;
        };
        full = λ others block is. subst (All (λ (b : Block). HasSeries b.body)) (same_from_push before.script.blocks others new block is).0 (all_full before.script.blocks order.full ended);
        selectors = order.selectors;
        none_selected = order.none_selected;
        phases = early_phases before.script.gateways _ (length before.script.selectors) before.script.phases says.early;
        early = λ e. says.early;
      })

  shelf_keeps : IsUtf8 line → HasEnded before.script.blocks → ShelfLine before line after → IsLawfulSoFar after
  shelf_keeps utf8 ended says =
      let new : Block = record { ulid = says.ulid; labels = says.labels; body = OnShelf } in
      let size = length-append before.script.blocks (new ∷ []) in
      let few = says.few in
      subst IsLawfulSoFar (sym says.adds) (record {
        rules = order.rules;
        agreed = order.agreed;
        few_gateways = order.few_gateways;
        names = order.names;
        partitioned = order.partitioned;
        partitions = order.partitions;
        blocks = record {
          few = omega arith;
          each = All-push IsLawfulBlock before.script.blocks new order.blocks.each (record {
            ulid = says.is_ulid.written.fits;
            not_reserved = free_tested (says.ulid % 2 ^ 80) says.is_ulid.not_reserved;
            labels = shelf_labels before after line utf8 says;
            body = tt;
          });
          once = once_push before.script.blocks new order.blocks.once says.new;
        };
        full = λ others block is. subst (All (λ (b : Block). HasSeries b.body)) (same_from_push before.script.blocks others new block is).0 (all_full before.script.blocks order.full ended);
        selectors = order.selectors;
        none_selected = order.none_selected;
        phases = early_phases before.script.gateways _ (length before.script.selectors) before.script.phases says.early;
        early = λ e. absurd cc;
      })

  series_keeps : IsUtf8 line → SeriesLine before line after → IsLawfulSoFar after
  series_keeps utf8 says =
      let new : Series = record { labels = says.labels; samples = says.samples } in
      let last : Block = record { ulid = says.ulid; labels = says.block_labels; body = Inline says.min_time says.max_time (says.lesser ++ says.greater) } in
      let more : Block = record { ulid = says.ulid; labels = says.block_labels; body = Inline says.min_time says.max_time (says.lesser ++ new ∷ says.greater) } in
      let each : All IsLawfulBlock (says.others ++ last ∷ []) = subst (All IsLawfulBlock) says.last order.blocks.each in
      let old : IsLawfulBlock last = All-last IsLawfulBlock says.others last each in
      let size = ap length says.last ∙ length-append says.others (last ∷ []) in
      let size_more = length-append says.others (more ∷ []) in
      let few = order.blocks.few in
      let early = order.early says.in_block in
      let inline : IsLawfulInline says.min_time says.max_time (says.lesser ++ new ∷ says.greater) = record {
        early = old.body.early;
        ascend = old.body.ascend;
        late = old.body.late;
        labels = each_placed (λ (one : Series). AreLawfulLabels one.labels) says.lesser says.greater new old.body.labels (series_labels before after line utf8 says);
        ordered = says.ascend;
        samples = each_placed (HasLawfulSamples says.min_time says.max_time) says.lesser says.greater new old.body.samples (record {
          some = some_samples says.texts says.samples says.some says.are_samples;
          rising = says.rising;
          within = within_tested says.min_time says.max_time says.samples says.within;
          patterns = small_patterns says.texts says.samples says.are_samples;
        });
      } in
      subst IsLawfulSoFar (sym says.adds) (record {
        rules = order.rules;
        agreed = order.agreed;
        few_gateways = order.few_gateways;
        names = order.names;
        partitioned = order.partitioned;
        partitions = order.partitions;
        blocks = record {
          few = omega arith;
          each = All-push IsLawfulBlock says.others more (All-front IsLawfulBlock says.others last each) (record { ulid = old.ulid; not_reserved = old.not_reserved; labels = old.labels; body = inline });
          once = subst (IsDistinct nat_eq) (ap ulids_of says.last ∙ same_ulids says.others last more refl) order.blocks.once;
        };
        full = λ others block is. subst (All (λ (b : Block). HasSeries b.body)) (same_from_push says.others others more block is).0 (order.full says.others last says.last);
        selectors = order.selectors;
        none_selected = order.none_selected;
        phases = early_phases before.script.gateways _ (length before.script.selectors) before.script.phases early;
        early = λ e. early;
      })

-- ---- phases and tasks

no_workers : (gateways : ℕ) → length (hands_of gateways []) ≤ most_workers
unfolding hands_from
no_workers gateways = omega arith

phase_keeps : (gateways : List (List ℕ)) (blocks : List Block) (selectors : ℕ) (phases : List Phase) (phase : Phase) → AreLawfulPhases gateways blocks selectors phases → phase.tasks ≡ [] → phase.moment.ms < moment_limit → ((others : List Phase) (last : Phase) → phases ≡ others ++ last ∷ [] → last.moment.ms ≤ phase.moment.ms) → AreLawfulPhases gateways blocks selectors (phases ++ phase ∷ [])
phase_keeps gateways blocks selectors phases phase lawful none below later =
    let same : works_of (phases ++ phase ∷ []) ≡ works_of phases = works_of-append phases phase ∙ ap (λ tasks. works_of phases ++ works_in tasks) none ∙ append-nil (works_of phases) in
    record {
      each = All-push (IsLawfulPhase gateways blocks selectors) phases phase lawful.each (record {
        moment = below;
        tasks = subst (All (λ (task : Task). IsLawfulWork gateways blocks selectors task.work)) (sym none) (All-nil (λ (task : Task). IsLawfulWork gateways blocks selectors task.work));
        few_workers = subst (λ tasks. length (hands_of (gateway_count gateways) tasks) ≤ most_workers) (sym none) (no_workers (gateway_count gateways));
        compacts_once = subst CompactOnce (sym none) compacts_nil;
      });
      moments = moments_push phases phase lawful.moments later;
      few_tasks = subst (λ works. length works ≤ most_tasks) (sym same) lawful.few_tasks;
      synced = λ before after one gateway is asks inside. lawful.synced before after one gateway (sym same ∙ is) asks inside;
    }

-- phases whose last has another list of tasks have the same moments
same_moment : (others : List Phase) (one other : Phase) → one.moment.ms ≡ other.moment.ms → (i : ℕ) (d : Phase) → i < length (others ++ one ∷ []) → (get_or (others ++ one ∷ []) i d).moment.ms ≡ (get_or (others ++ other ∷ []) i d).moment.ms
same_moment others one other same i d inside =
    elim (cases_lt i (length others)) [
      | inl within ↦
          ap (λ (p : Phase). p.moment.ms) (get_or_append_left others (one ∷ []) d i within ∙ sym (get_or_append_left others (other ∷ []) d i within))
      | inr past ↦
          let size = length-append others (one ∷ []) in
          let at_end : length others ≡ i = omega (arith, past) in
          ap (λ (p : Phase). p.moment.ms) (get_or_at others one [] d i at_end) ∙ same ∙ ap (λ (p : Phase). p.moment.ms) (sym (get_or_at others other [] d i at_end))
    ]

same_moments : (others : List Phase) (one other : Phase) → one.moment.ms ≡ other.moment.ms → IsNonDecreasingBy (λ (p : Phase). p.moment.ms) (others ++ one ∷ []) → IsNonDecreasingBy (λ (p : Phase). p.moment.ms) (others ++ other ∷ [])
same_moments others one other same moments i j d below inside =
    let sizes : length (others ++ one ∷ []) ≡ length (others ++ other ∷ []) = length-append others (one ∷ []) ∙ sym (length-append others (other ∷ [])) in
    let within : j < length (others ++ one ∷ []) = omega arith in
    let old = moments i j d below within in
    omega (arith, old, same_moment others one other same i d (omega arith), same_moment others one other same j d within)

-- what asks all gateways among the tasks with one more
sync_by : (gateways : ℕ) (works : List Work) (work : Work) → ((before after : List Work) (one : Work) (gateway : ℕ) → works ≡ before ++ one ∷ after → asks_all one ≡ true → gateway < gateways → has_sync before gateway ≡ true) → ((gateway : ℕ) → asks_all work ≡ true → gateway < gateways → has_sync works gateway ≡ true) → (before after : List Work) (one : Work) (gateway : ℕ) → works ++ work ∷ [] ≡ before ++ one ∷ after → asks_all one ≡ true → gateway < gateways → has_sync before gateway ≡ true
sync_by gateways works work old new before after one gateway is asks inside =
    elim (last_or_none after) [
      | inl none ↦
          let p = same_from_push works before work one (is ∙ ap (λ rest. before ++ one ∷ rest) none) in
          subst (λ (ws : List Work). has_sync ws gateway ≡ true) p.0 (new gateway (ap asks_all p.1 ∙ asks) inside)
      | inr more ↦
          let regrouped : before ++ one ∷ after ≡ (before ++ one ∷ more.0) ++ more.1 ∷ [] = ap (λ rest. before ++ one ∷ rest) more.2 ∙ sym (append_assoc before (one ∷ more.0) (more.1 ∷ [])) in
          let p = same_from_push works (before ++ one ∷ more.0) work more.1 (is ∙ regrouped) in
          old before more.0 one gateway p.0 asks inside
    ]

task_keeps : (before after : Script) (selectors number : ℕ) (work : Work) → AreLawfulPhases before.gateways before.blocks selectors before.phases → (adds : AddsTask before number work after) → IsLawfulWork before.gateways before.blocks selectors work → (is_compaction work ≡ true → has_compaction adds.phase.tasks ≡ false) → ((gateway : ℕ) → asks_all work ≡ true → gateway < length before.gateways → has_sync (works_of before.phases) gateway ≡ true) → AreLawfulPhases before.gateways before.blocks selectors after.phases
task_keeps before after selectors number work lawful adds fits first syncs =
    let task : Task = record { line = number; work = work } in
    let old : Phase = adds.phase in
    let new : Phase = record old { tasks = old.tasks ++ task ∷ [] } in
    let each : All (IsLawfulPhase before.gateways before.blocks selectors) (adds.others ++ old ∷ []) = subst (All (IsLawfulPhase before.gateways before.blocks selectors)) adds.last lawful.each in
    let last = All-last (IsLawfulPhase before.gateways before.blocks selectors) adds.others old each in
    let works : works_of (adds.others ++ new ∷ []) ≡ works_of before.phases ++ work ∷ [] = works_of-more adds.others old task ∙ ap (λ phases. works_of phases ++ work ∷ []) (sym adds.last) in
    let size = ap length works ∙ length-append (works_of before.phases) (work ∷ []) in
    let few = adds.few in
    let phases : AreLawfulPhases before.gateways before.blocks selectors (adds.others ++ new ∷ []) = record {
      each = All-push (IsLawfulPhase before.gateways before.blocks selectors) adds.others new (All-front (IsLawfulPhase before.gateways before.blocks selectors) adds.others old each) (record {
        moment = last.moment;
        tasks = All-push (λ (t : Task). IsLawfulWork before.gateways before.blocks selectors t.work) old.tasks task last.tasks fits;
        few_workers = few_counted (gateway_count before.gateways) (old.tasks ++ task ∷ []) adds.few_workers;
        compacts_once = compacts_push old.tasks task last.compacts_once first;
      });
      moments = same_moments adds.others old new refl (subst (IsNonDecreasingBy (λ (p : Phase). p.moment.ms)) adds.last lawful.moments);
      few_tasks = omega arith;
      synced = λ front rest one gateway is asks inside. sync_by (length before.gateways) (works_of before.phases) work lawful.synced syncs front rest one gateway (sym works ∙ is) asks inside;
    } in
    subst (AreLawfulPhases before.gateways before.blocks selectors) (ap (λ (s : Script). s.phases) (sym adds.adds)) phases

named_by : (gateways : List (List ℕ)) (place gateway : ℕ) (b : Bool) → nat_lt place (length gateways) ≡ b → cond b (Some place) None ≡ Some gateway → gateway < length gateways
named_by gateways place gateway true inside is =
    let same : place ≡ gateway = cc in
    let within : place < length gateways = grind (arith, nat_tests) in
    omega arith
named_by gateways place gateway false inside is = absurd cc

-- a gateway of a name has a place
named_inside : (gateways : List (List ℕ)) (name : List ℕ) (gateway : ℕ) → gateway_named gateways name ≡ Some gateway → gateway < length gateways
named_inside gateways name gateway named =
    named_by gateways (position_or_len (λ one. bytes_eq one name) gateways) gateway (nat_lt (position_or_len (λ one. bytes_eq one name) gateways) (length gateways)) refl named

-- with one more selector
more_selectors : (gateways : List (List ℕ)) (blocks : List Block) (selectors : ℕ) (work : Work) → IsLawfulWork gateways blocks selectors work → IsLawfulWork gateways blocks (selectors + 1) work
more_selectors gateways blocks selectors (Upload ulid stop) lawful = lawful
more_selectors gateways blocks selectors (Sync gateway) lawful = lawful
more_selectors gateways blocks selectors (Compact stop) lawful = lawful
more_selectors gateways blocks selectors (Clean stop) lawful = lawful
more_selectors gateways blocks selectors (Query low high selector) lawful =
    let below = lawful.3 in (lawful.0, lawful.1, lawful.2, omega arith)

selector_keeps : (gateways : List (List ℕ)) (blocks : List Block) (selectors : ℕ) (phases : List Phase) → AreLawfulPhases gateways blocks selectors phases → AreLawfulPhases gateways blocks (selectors + 1) phases
selector_keeps gateways blocks selectors phases lawful = record {
  each = All-weaker (IsLawfulPhase gateways blocks selectors) (IsLawfulPhase gateways blocks (selectors + 1)) (λ phase is. record {
    moment = is.moment;
    tasks = All-weaker (λ (t : Task). IsLawfulWork gateways blocks selectors t.work) (λ (t : Task). IsLawfulWork gateways blocks (selectors + 1) t.work) (λ task fits. more_selectors gateways blocks selectors task.work fits) phase.tasks is.tasks;
    few_workers = is.few_workers;
    compacts_once = is.compacts_once;
  }) phases lawful.each;
  moments = lawful.moments;
  few_tasks = lawful.few_tasks;
  synced = lawful.synced;
}

agreed_by : (set : Rules) (phases : List Phase) → (phases ≡ [] → agree set ≡ true) → (phases ≢ [] → agree set ≡ true) → agree set ≡ true
agreed_by set [] first later = first refl
agreed_by set (phase ∷ phases) first later = later (λ none. cc)

module _ (before after : SoFar) (number : ℕ) (line : List ℕ) (order : IsLawfulSoFar before) where
  at_keeps : AtLine before number line after → IsLawfulSoFar after
  at_keeps says =
      let new : Phase = record { line = number; moment = record { ms = says.moment }; tasks = [] } in
      subst IsLawfulSoFar (sym says.adds) (record {
        rules = order.rules;
        agreed = λ _. agreed_by before.script.rules before.script.phases (λ early. agree_tested before.script.rules (says.first early)) order.agreed;
        few_gateways = order.few_gateways;
        names = order.names;
        partitioned = order.partitioned;
        partitions = order.partitions;
        blocks = order.blocks;
        full = order.full;
        selectors = order.selectors;
        none_selected = λ none. absurd (pushed_not_nil before.script.phases new none);
        phases = phase_keeps before.script.gateways before.script.blocks (length before.script.selectors) before.script.phases new order.phases refl says.is_moment.below says.later;
        early = λ e. absurd cc;
      })

  -- a task leaves all but the phases
  with_task : (script : Script) (work : Work) → AddsTask before.script number work script → AreLawfulPhases before.script.gateways before.script.blocks (length before.script.selectors) script.phases → IsLawfulSoFar (spelling.outside script)
  with_task script work adds phases =
      let all : IsLawfulSoFar (spelling.outside (record before.script { phases = adds.others ++ record adds.phase { tasks = adds.phase.tasks ++ record { line = number; work = work } ∷ [] } ∷ [] })) = record {
        rules = order.rules;
        agreed = λ _. order.agreed (λ none. pushed_not_nil adds.others adds.phase (sym adds.last ∙ none));
        few_gateways = order.few_gateways;
        names = order.names;
        partitioned = order.partitioned;
        partitions = order.partitions;
        blocks = order.blocks;
        full = order.full;
        selectors = order.selectors;
        none_selected = λ none. absurd (pushed_not_nil adds.others (record adds.phase { tasks = adds.phase.tasks ++ record { line = number; work = work } ∷ [] }) none);
        phases = subst (AreLawfulPhases before.script.gateways before.script.blocks (length before.script.selectors)) (ap (λ (s : Script). s.phases) adds.adds) phases;
        early = λ e. absurd cc;
      } in
      subst (λ (s : Script). IsLawfulSoFar (spelling.outside s)) (sym adds.adds) all

  upload_keeps : UploadLine before number line after → IsLawfulSoFar after
  upload_keeps says =
      subst IsLawfulSoFar (sym says.adds) (with_task says.script (Upload says.ulid says.stop) says.task (task_keeps before.script says.script (length before.script.selectors) number (Upload says.ulid says.stop) order.phases says.task (says.declared, lawful_stop says.texts says.stop says.are_texts) (λ is. absurd cc) (λ gateway asks inside. absurd cc)))

  sync_keeps : SyncLine before number line after → IsLawfulSoFar after
  sync_keeps says =
      subst IsLawfulSoFar (sym says.adds) (with_task says.script (Sync says.gateway) says.task (task_keeps before.script says.script (length before.script.selectors) number (Sync says.gateway) order.phases says.task (named_inside before.script.gateways says.name says.gateway says.declared) (λ is. absurd cc) (λ gateway asks inside. absurd cc)))

  compact_keeps : CompactLine before number line after → IsLawfulSoFar after
  compact_keeps says =
      subst IsLawfulSoFar (sym says.adds) (with_task says.script (Compact says.stop) says.task (task_keeps before.script says.script (length before.script.selectors) number (Compact says.stop) order.phases says.task (lawful_stop says.texts says.stop says.are_texts) (λ is. says.first) (λ gateway asks inside. absurd cc)))

  clean_keeps : CleanLine before number line after → IsLawfulSoFar after
  clean_keeps says =
      subst IsLawfulSoFar (sym says.adds) (with_task says.script (Clean says.stop) says.task (task_keeps before.script says.script (length before.script.selectors) number (Clean says.stop) order.phases says.task (lawful_stop says.texts says.stop says.are_texts) (λ is. absurd cc) (λ gateway asks inside. absurd cc)))

  query_keeps : QueryLine before number line after → IsLawfulSoFar after
  query_keeps says =
      let selectors = length before.script.selectors in
      let work : Work = Query says.low says.high selectors in
      let adds = says.task in
      let script : Script = record before.script { phases = adds.others ++ record adds.phase { tasks = adds.phase.tasks ++ record { line = number; work = work } ∷ [] } ∷ [] } in
      let fits : IsLawfulWork before.script.gateways before.script.blocks (selectors + 1) work = (says.is_low.near.early, says.times, says.is_high.near.late, omega arith) in
      let phases = task_keeps before.script says.script (selectors + 1) number work (selector_keeps before.script.gateways before.script.blocks selectors before.script.phases order.phases) adds fits (λ is. absurd cc) (λ gateway asks inside. says.synced gateway inside) in
      let moved : AreLawfulPhases before.script.gateways before.script.blocks (selectors + 1) script.phases = subst (AreLawfulPhases before.script.gateways before.script.blocks (selectors + 1)) (ap (λ (s : Script). s.phases) adds.adds) phases in
      let all : IsLawfulSoFar (spelling.outside (record script { selectors = before.script.selectors ++ says.selector ∷ [] })) = record {
        rules = order.rules;
        agreed = λ _. order.agreed (λ none. pushed_not_nil adds.others adds.phase (sym adds.last ∙ none));
        few_gateways = order.few_gateways;
        names = order.names;
        partitioned = order.partitioned;
        partitions = order.partitions;
        blocks = order.blocks;
        full = order.full;
        selectors = All-push (IsLawfulSelector before.script.rules.replicas) before.script.selectors says.selector order.selectors (says.selector_text, says.is_selector);
        none_selected = λ none. absurd (pushed_not_nil adds.others (record adds.phase { tasks = adds.phase.tasks ++ record { line = number; work = work } ∷ [] }) none);
        phases = subst (λ n. AreLawfulPhases before.script.gateways before.script.blocks n script.phases) (sym (length-append before.script.selectors (says.selector ∷ []))) moved;
        early = λ e. absurd cc;
      } in
      subst IsLawfulSoFar (sym (says.adds ∙ ap (λ (s : Script). spelling.outside (record s { selectors = s.selectors ++ says.selector ∷ [] })) adds.adds)) all

  says_keeps : IsUtf8 line → Says before number line after → IsLawfulSoFar after
  says_keeps utf8 (spelling.series says) = series_keeps before after line order utf8 says
  says_keeps utf8 (spelling.rule ended says) = rule_keeps before after line order says
  says_keeps utf8 (spelling.replica ended says) = replica_keeps before after line order says
  says_keeps utf8 (spelling.retention ended says) = retention_keeps before after line order says
  says_keeps utf8 (spelling.gateway ended says) = gateway_keeps before after line order says
  says_keeps utf8 (spelling.block ended says) = block_keeps before after line order utf8 ended says
  says_keeps utf8 (spelling.shelf ended says) = shelf_keeps before after line order utf8 ended says
  says_keeps utf8 (spelling.at ended says) = at_keeps says
  says_keeps utf8 (spelling.upload ended says) = upload_keeps says
  says_keeps utf8 (spelling.sync ended says) = sync_keeps says
  says_keeps utf8 (spelling.compact ended says) = compact_keeps says
  says_keeps utf8 (spelling.clean ended says) = clean_keeps says
  says_keeps utf8 (spelling.query ended says) = query_keeps says

-- ---- whole texts

say_by : (before after : SoFar) (number : ℕ) (line : List ℕ) (lines : List (List ℕ)) (b : Bool) → IsLawfulSoFar before → ((next : SoFar) → IsLawfulSoFar next → Say next (number + 1) lines after → IsLawfulSoFar after) → MatchBool b (Say before (number + 1) lines after) ((next : SoFar) × (is_utf8 line ≡ true) × Says before number line next × Say next (number + 1) lines after) → IsLawfulSoFar after
say_by before after number line lines true order later said = later before order said
say_by before after number line lines false order later said =
    later said.0 (says_keeps before said.0 number line order (IsUtf8-from_is_utf8 line said.1) said.2) said.3

say_keeps : (before after : SoFar) (number : ℕ) (lines : List (List ℕ)) → IsLawfulSoFar before → Say before number lines after → IsLawfulSoFar after
say_keeps before after number [] order said = subst IsLawfulSoFar said order
say_keeps before after number (line ∷ lines) order said =
    say_by before after number line lines (is_silent line) order (λ next next_order later. say_keeps next after (number + 1) lines next_order later) said

none_once : IsDistinct nat_eq (ulids_of [])
unfolding IsDistinct
none_once = tt

nothing_lawful : IsLawfulSoFar spelling.nothing
nothing_lawful = record {
  rules = record { consistency = omega arith; ignore = omega arith; delete = omega arith; partial = omega arith; upload = omega arith; tick = omega arith; page_limit_low = omega arith; page_limit_high = omega arith; replicas = All-nil (λ name. is_name name ≡ true); retention = tt };
  agreed = λ some. absurd (some refl);
  few_gateways = omega arith;
  names = All-nil (λ name. is_name name ≡ true);
  partitioned = refl;
  partitions = All-nil IsLawfulPartition;
  blocks = record { few = omega arith; each = All-nil IsLawfulBlock; once = none_once };
  full = λ others block is. absurd (pushed_not_nil others block (sym is));
  selectors = All-nil (IsLawfulSelector []);
  none_selected = λ none. refl;
  phases = no_phases [] [] 0;
  early = λ e. absurd cc;
}

-- what a text spells is lawful
pub spelled_lawful : (text : List ℕ) (script : Script) → Spells text script → IsLawfulScript script
spelled_lawful text script spells =
    let order = say_keeps spelling.nothing (record { script = script; in_block = spells.in_block }) 1 (lines_of text) nothing_lawful spells.lines in
    record {
      rules = order.rules;
      agreed = order.agreed;
      few_gateways = order.few_gateways;
      names = order.names;
      partitioned = order.partitioned;
      partitions = order.partitions;
      blocks = order.blocks;
      full = all_full script.blocks order.full spells.ended;
      selectors = order.selectors;
      phases = order.phases;
    }
