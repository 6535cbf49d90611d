-- What a line before the first phase spells is read of it; of series lines AgainSeries speaks.
use Rattle.std.proofs.Common.{◌≡◌, ℕ, ◌%◌, ◌^◌, ℤ, ◌<ℤ◌, ◌≤ℤ◌, true, false, not, ◌==◌, nat_lt, int_lt, List, [], ◌∷◌, ◌++◌, length, Option, Some, None, is_none, Ok, refl, sym, ap, ◌∙◌, subst, arith, append-nil, codes, append_assoc}
use Rattle.std.proofs.lemmas.Bool.Decides.{nat_tests}
use Rattle.std.proofs.lemmas.Int.{ints}
use Rattle.std.specs.BTreeSet.{insert_key}
use Rattle.std.specs.Ordering.{nat_cmp}
use Rattle.label_sets.proofs.SetLaws.{set_text_again}
use Rattle.label_sets.specs.Notation.{is_name, read_set, set_text}
use Rattle.label_sets.specs.SetText.{IsSetText}
use Rattle.label_sets.specs.declared.label.Label.{Label}
use Rattle.script_core.specs.declared.block.Block.{Block}
use Rattle.script_core.specs.declared.body.Body.TheVariants.{OnShelf}
use Rattle.script_fields.specs.declared.line_kind.LineKind.{LineKind}
use Rattle.script_fields.specs.declared.line_kind.LineKind.TheVariants as kinds
use Rattle.script_fields.specs.declared.rule_kind.RuleKind.TheVariants.{Valued}
use Rattle.script_fields.specs.Fields.{is_empty, next_field, only_field, rule_kind}
use Rattle.script_fields.specs.Values.{add_replica, is_reserved, with_rule, set_rule, set_retention, span_from, retention_from}
use Rattle.script_core.specs.Lines.{fields_line, rule_line, partition_field, gateway_line, block_line, shelf_line, last_labels}
use Rattle.script_core.specs.State.{State, Last, add_gateway, gateway_named, add_shelf, begin_block, block_of, is_declared, with_last, all_blocks, script_of_state}
use Rattle.script_core.specs.Spelling.{SoFar, outside, spaced, IsField, IsTimeText, rule_word, RuleLine, ReplicaLine, RetentionLine, ArePartitionTexts, at_all_times, from_to, GatewayLine, BlockLine, ShelfLine, inside}
use Rattle.script_fields.proofs.FieldLaws.{cut_again, cut_last}
use Rattle.script_core.proofs.ValueLaws.{time_again, ulid_again, value_again, span_again}
use Rattle.script_core.proofs.Kept.{Kept, so_far_of}
use Rattle.script_core.proofs.LineTools.{is_some_field, only_again, line_word, word_free, name_free, valued_again, replica_free, retention_free, early_again}
use Rattle.script_core.proofs.FoundSetup.{closed}
use Rattle.moment_core.specs.Partitions.{all_times}
use Rattle.moment_core.specs.declared.partition.Partition.{Partition}
use Rattle.moment_core.specs.declared.rules.Rules.{Rules}
use Rattle.moment_core.specs.declared.span.Span.{Span}
use Rattle.script_core.proofs.SpelledValues.{near_tested, free_tested}
use Rattle.script_core.proofs.SpelledRules.{rule_set, keeps_again}
use Rattle.script_fields.specs.Limits.{most_gateways, most_blocks}

-- A line that is read in this state as one of a kind, and leads to what is so far.
pub record IsRead (st : State) (number : ℕ) (line : List ℕ) (kind : LineKind) (next : SoFar) : Type 0 where
  pub left : Option (List ℕ)
  pub after : State
  pub cut : next_field (Some line) ≡ (line_word kind, left)
  pub read : fields_line st number kind left ≡ Ok after
  pub next_is : so_far_of after ≡ next

-- the line's word and what follows it
pub starts_again : (line : List ℕ) (kind : LineKind) (rest : List ℕ) → line ≡ line_word kind ++ 32 ∷ rest → next_field (Some line) ≡ (line_word kind, Some rest)
starts_again line kind rest is =
    ap (λ l. next_field (Some l)) is ∙ cut_again (line_word kind) rest (word_free kind)

below_again : (a b : ℤ) → a <ℤ b → int_lt a b ≡ true
below_again a b below = grind (arith, ints)

not_below_again : (low high : ℤ) → low ≤ℤ high → not (int_lt high low) ≡ true
not_below_again low high order = let test : int_lt high low ≡ false = grind (arith, ints) in rw test refl

whole_again : (partition : Partition) → partition ≡ all_times → (partition_field None ≡ Ok partition) × (not (int_lt partition.high partition.low) ≡ true)
unfolding partition_field
whole_again partition is = (ap Ok (sym is), ap (λ (p : Partition). not (int_lt p.high p.low)) is)

part_again : (low_text high_text : List ℕ) (partition : Partition) → IsTimeText low_text partition.low → IsTimeText high_text partition.high → partition_field (Some (low_text ++ 32 ∷ high_text)) ≡ Ok partition
unfolding partition_field
part_again low_text high_text partition low high =
    let cut = cut_again low_text high_text low.field.no_space in
    let only = only_again high_text high.field in
    let some = is_some_field low_text low.field in
    let read_low = time_again low_text partition.low low.written (near_tested partition.low low.near) in
    let read_high = time_again high_text partition.high high.written (near_tested partition.high high.near) in
    rw (cut, only, some, read_low, read_high) refl

labels_by : (text : List ℕ) (labels : List Label) → not (is_empty text) ≡ true → read_set text ≡ Ok (labels, length text) → last_labels (Some text) ≡ Ok (Some labels)
unfolding last_labels
labels_by text labels some read =
    let whole : (length text == length text) ≡ true = grind (arith, nat_tests) in rw (some, read, whole) refl

-- a text of a label set is not empty
set_some : (text : List ℕ) (labels : List Label) → IsSetText text labels → not (is_empty text) ≡ true
unfolding set_text
set_some text labels is = subst (λ t. not (is_empty t) ≡ true) (sym is.written) (grind (arith, nat_tests))

pub labels_again : (text : List ℕ) (labels : List Label) → IsSetText text labels → last_labels (Some text) ≡ Ok (Some labels)
labels_again text labels is =
    labels_by text labels (set_some text labels is) (ap read_set (sym (append-nil text)) ∙ set_text_again text [] labels is)

module _ (st : State) (number : ℕ) (line : List ℕ) (next : SoFar) (kept : Kept st) where
  pub rule_line_again : RuleLine (so_far_of st) line next → IsRead (closed st) number line kinds.Rule next
  unfolding fields_line rule_line set_rule
  rule_line_again says =
      let word = rule_word says.name in
      let text : List ℕ = word ++ 32 ∷ says.text in
      let cut : next_field (Some text) ≡ (word, Some says.text) = cut_again word says.text (name_free says.name) in
      let named : rule_kind word ≡ Some (Valued says.name) = valued_again says.name in
      let only : only_field (Some says.text) ≡ Ok says.text = only_again says.text says.field in
      let early : is_none st.phase ≡ true = early_again st.phases st.phase says.early in
      let valued = value_again says.name says.text says.value says.is_value in
      record {
        left = Some text;
        after = record (closed st) { rules = with_rule says.name says.value st.rules };
        cut = starts_again line kinds.Rule text says.spelled;
        read = rw (cut, named, only, valued, early) refl;
        next_is = ap (λ (set : Rules). outside (record (script_of_state st) { rules = set })) (sym (rule_set says.name says.value st.rules says.set says.sets)) ∙ sym says.adds;
      }

  pub replica_line_again : ReplicaLine (so_far_of st) line next → IsRead (closed st) number line kinds.Rule next
  unfolding fields_line rule_line add_replica
  replica_line_again says =
      let word : List ℕ = codes "replica-label" in
      let text : List ℕ = word ++ 32 ∷ says.name in
      let cut : next_field (Some text) ≡ (word, Some says.name) = cut_again word says.name replica_free in
      let only : only_field (Some says.name) ≡ Ok says.name = only_again says.name says.field in
      let named = says.is_name in
      let early : is_none st.phase ≡ true = early_again st.phases st.phase says.early in
      record {
        left = Some text;
        after = record (closed st) { rules = record st.rules { replicas = st.rules.replicas ++ says.name ∷ [] } };
        cut = starts_again line kinds.Rule text says.spelled;
        read = rw (cut, only, named, early) refl;
        next_is = sym says.adds;
      }

  pub retention_line_again : RetentionLine (so_far_of st) line next → IsRead (closed st) number line kinds.Rule next
  unfolding fields_line rule_line set_retention
  retention_line_again says =
      let word : List ℕ = codes "retention" in
      let text : List ℕ = word ++ 32 ∷ says.text in
      let cut : next_field (Some text) ≡ (word, Some says.text) = cut_again word says.text retention_free in
      let only : only_field (Some says.text) ≡ Ok says.text = only_again says.text says.field in
      let read = span_again says.text (span_from says.ms) says.is_span in
      let early : is_none st.phase ≡ true = early_again st.phases st.phase says.early in
      record {
        left = Some text;
        after = record (closed st) { rules = record st.rules { retention = retention_from says.ms } };
        cut = starts_again line kinds.Rule text says.spelled;
        read = rw (cut, only, read, early) refl;
        next_is = ap (λ (r : Option Span). outside (record (script_of_state st) { rules = record st.rules { retention = r } })) (keeps_again says.ms says.retention says.keeps) ∙ sym says.adds;
      }

  -- a gateway line whose partition is read
  gateway_read : (name : List ℕ) (partition : Partition) (left rest : Option (List ℕ)) → next_field left ≡ (name, rest) → IsField name → is_name name ≡ true → partition_field rest ≡ Ok partition
      → is_none st.phase ≡ true → not (int_lt partition.high partition.low) ≡ true → gateway_named st.gateways name ≡ None → nat_lt (length st.gateways) most_gateways ≡ true
      → gateway_line (closed st) left ≡ Ok (record (closed st) { gateways = st.gateways ++ name ∷ []; partitions = st.partitions ++ partition ∷ [] })
  unfolding gateway_line add_gateway
  gateway_read name partition left rest cut field named read early order new few =
      let some = is_some_field name field in
      rw (cut, some, read, named, early, order, new, few) refl

  gateway_by : (texts : List (List ℕ)) (says : GatewayLine (so_far_of st) line next) → ArePartitionTexts texts says.partition → says.texts ≡ texts → IsRead (closed st) number line kinds.Gateway next
  unfolding fields_line
  gateway_by texts says (at_all_times none is) same =
      let few : nat_lt (length st.gateways) most_gateways ≡ true = let l = says.few in grind (arith, nat_tests) in
      record {
        left = Some says.name;
        after = record (closed st) { gateways = st.gateways ++ says.name ∷ []; partitions = st.partitions ++ says.partition ∷ [] };
        cut = starts_again line kinds.Gateway says.name (says.spelled ∙ ap (λ ts. spaced (codes "gateway" ∷ says.name ∷ ts)) (same ∙ none));
        read = gateway_read says.name says.partition (Some says.name) None (cut_last says.name says.field.no_space) says.field says.is_name (whole_again says.partition is).0 (early_again st.phases st.phase says.early) (whole_again says.partition is).1 says.new few;
        next_is = sym says.adds;
      }
  gateway_by texts says (from_to low_text high_text are low high order) same =
      let few : nat_lt (length st.gateways) most_gateways ≡ true = let l = says.few in grind (arith, nat_tests) in
      let rest : List ℕ = low_text ++ 32 ∷ high_text in
      record {
        left = Some (says.name ++ 32 ∷ rest);
        after = record (closed st) { gateways = st.gateways ++ says.name ∷ []; partitions = st.partitions ++ says.partition ∷ [] };
        cut = starts_again line kinds.Gateway (says.name ++ 32 ∷ rest) (says.spelled ∙ ap (λ ts. spaced (codes "gateway" ∷ says.name ∷ ts)) (same ∙ are));
        read = gateway_read says.name says.partition (Some (says.name ++ 32 ∷ rest)) (Some rest) (cut_again says.name rest says.field.no_space) says.field says.is_name (part_again low_text high_text says.partition low high) (early_again st.phases st.phase says.early) (not_below_again says.partition.low says.partition.high order) says.new few;
        next_is = sym says.adds;
      }

  pub gateway_line_again : GatewayLine (so_far_of st) line next → IsRead (closed st) number line kinds.Gateway next
  gateway_line_again says = gateway_by says.texts says says.are_texts refl

  pub block_line_again : BlockLine (so_far_of st) line next → IsRead (closed st) number line kinds.Block next
  unfolding fields_line block_line begin_block
  block_line_again says =
      let ulid = says.is_ulid in
      let low = says.is_min in
      let high = says.is_max in
      let rest : List ℕ = says.ulid_text ++ 32 ∷ (says.min_text ++ 32 ∷ (says.max_text ++ 32 ∷ says.labels_text)) in
      let new : Last = record { line = number; ulid = says.ulid; labels = says.labels; min_time = says.min_time; max_time = says.max_time; series = [] } in
      let first = cut_again says.ulid_text (says.min_text ++ 32 ∷ (says.max_text ++ 32 ∷ says.labels_text)) ulid.field.no_space in
      let second = cut_again says.min_text (says.max_text ++ 32 ∷ says.labels_text) low.field.no_space in
      let third = cut_again says.max_text says.labels_text high.field.no_space in
      let some_ulid = is_some_field says.ulid_text ulid.field in
      let some_min = is_some_field says.min_text low.field in
      let some_max = is_some_field says.max_text high.field in
      let set = labels_again says.labels_text says.labels says.are_labels in
      let read_min = time_again says.min_text says.min_time low.written (near_tested says.min_time low.near) in
      let read_max = time_again says.max_text says.max_time high.written (near_tested says.max_time high.near) in
      let read_ulid = ulid_again says.ulid_text says.ulid ulid.written in
      let early : is_none st.phase ≡ true = early_again st.phases st.phase says.early in
      let times : int_lt says.min_time says.max_time ≡ true = below_again says.min_time says.max_time says.times in
      let free : is_reserved says.ulid ≡ false = free_tested (says.ulid % 2 ^ 80) ulid.not_reserved in
      let fresh : is_declared st says.ulid ≡ false = kept.blocks.declared says.ulid ∙ says.new in
      let few : nat_lt (length st.ulids) most_blocks ≡ true = let l = says.few in let n = kept.blocks.count in grind (arith, nat_tests) in
      record {
        left = Some rest;
        after = record (closed st) { blocks = all_blocks st.blocks st.last st.shelved; last = Some new; shelved = []; continues = true; ulids = insert_key nat_cmp st.ulids says.ulid };
        cut = starts_again line kinds.Block rest says.spelled;
        read = rw (first, second, third, some_ulid, some_min, some_max, set, read_min, read_max, read_ulid, early, times, free, fresh, few) refl;
        next_is = ap (λ (bs : List Block). inside (record (script_of_state st) { blocks = bs })) (append-nil (all_blocks st.blocks st.last st.shelved ++ block_of new ∷ [])) ∙ sym says.adds;
      }

  pub shelf_line_again : ShelfLine (so_far_of st) line next → IsRead (closed st) number line kinds.Shelf next
  unfolding fields_line shelf_line add_shelf
  shelf_line_again says =
      let ulid = says.is_ulid in
      let rest : List ℕ = says.ulid_text ++ 32 ∷ says.labels_text in
      let new : Block = record { ulid = says.ulid; labels = says.labels; body = OnShelf } in
      let first = cut_again says.ulid_text says.labels_text ulid.field.no_space in
      let some = is_some_field says.ulid_text ulid.field in
      let set = labels_again says.labels_text says.labels says.are_labels in
      let read_ulid = ulid_again says.ulid_text says.ulid ulid.written in
      let early : is_none st.phase ≡ true = early_again st.phases st.phase says.early in
      let free : is_reserved says.ulid ≡ false = free_tested (says.ulid % 2 ^ 80) ulid.not_reserved in
      let fresh : is_declared st says.ulid ≡ false = kept.blocks.declared says.ulid ∙ says.new in
      let few : nat_lt (length st.ulids) most_blocks ≡ true = let l = says.few in let n = kept.blocks.count in grind (arith, nat_tests) in
      record {
        left = Some rest;
        after = record (closed st) { shelved = st.shelved ++ new ∷ []; ulids = insert_key nat_cmp st.ulids says.ulid };
        cut = starts_again line kinds.Shelf rest says.spelled;
        read = rw (first, some, set, read_ulid, early, free, fresh, few) refl;
        next_is = ap (λ (bs : List Block). outside (record (script_of_state st) { blocks = bs })) (sym (append_assoc (with_last st.blocks st.last) st.shelved (new ∷ []))) ∙ sym says.adds;
      }
