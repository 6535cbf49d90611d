-- What is read of a line before the first phase is what the line spells; of series lines FoundSeries speaks.
use Rattle.std.proofs.Common.{◌≡◌, ℕ, ◌%◌, ◌^◌, ◌<◌, ℤ, ◌<ℤ◌, ◌≤ℤ◌, Bool, true, false, not, ◌==◌, ◌&&◌, ltb-true, int_lt, List, [], ◌∷◌, ◌++◌, length, Option, Some, None, Result, Ok, Err, refl, sym, ap, ◌∙◌, subst, arith, codes, ◌⊎◌, inl, inr, append-nil, append_assoc}
use Rattle.std.proofs.lemmas.Bool.Decides.{nat_tests}
use Rattle.std.proofs.lemmas.Int.{ints}
use Rattle.std.proofs.lemmas.Option.{same_Some}
use Rattle.base.proofs.Binds.{bind_ok, then_ok, unless_is, unless_ok, ok_is, refused_as_ok, ok_or_ok}
use Rattle.std.proofs.lemmas.Bool.{and_parts, not-true}
use Rattle.std.proofs.lemmas.List.{take_all}
use Rattle.label_sets.proofs.SetLaws.{set_text_found}
use Rattle.label_sets.specs.Notation.{read_set}
use Rattle.label_sets.specs.SetText.{IsSetText}
use Rattle.label_sets.specs.declared.label.Label.{Label}
use Rattle.label_sets.specs.declared.label_refusal.LabelRefusal.{LabelRefusal}
use Rattle.script_core.specs.declared.block.Block.{Block}
use Rattle.script_core.specs.declared.body.Body.TheVariants.{Inline, OnShelf}
use Rattle.script_fields.specs.declared.cause.LineCause.TheVariants as causes
use Rattle.script_fields.specs.declared.line_refusal.LineRefusal.TheVariants.{Bad}
use Rattle.moment_core.specs.declared.rules.Rules.{Rules}
use Rattle.script_core.specs.declared.inline_block.BlockHead.{BlockHead}
use Rattle.script_fields.specs.declared.rule_kind.RuleKind.{RuleKind}
use Rattle.script_fields.specs.declared.rule_kind.RuleKind.TheVariants.{Valued, ReplicaLabel, Retention}
use Rattle.moment_core.specs.declared.partition.Partition.{Partition}
use Rattle.script_fields.specs.Fields.{is_empty, next_field, only_field, rule_kind}
use Rattle.script_fields.specs.Values.{add_replica, apply_rule, set_rule, set_retention, is_reserved, retention_from, time_field, ulid_field}
use Rattle.script_fields.specs.LineRefusals.{bad}
use Rattle.script_core.specs.Lines.{is_early, rule_line, partition_field, gateway_line, block_head, test_head, block_line, whole_labels, last_labels, test_shelf, shelf_line}
use Rattle.script_core.specs.State.{State, Last, add_gateway, all_phases, begin_block, is_declared, script_of_state, add_shelf, all_blocks, with_last}
use Rattle.script_core.specs.Spelling.{SoFar, spaced, IsField, IsTimeText, outside, Sets, RuleLine, ReplicaLine, RetentionLine, ArePartitionTexts, at_all_times, from_to, GatewayLine, BlockLine, ShelfLine, HasEnded, inside}
use Rattle.script_fields.proofs.FieldLaws.{no_space, Cut, cut_found}
use Rattle.script_core.proofs.ValueLaws.{is_none_is, time_found, ulid_found, value_found, span_found}
use Rattle.script_core.proofs.Kept.{Kept, so_far_of, gateway_kept, block_kept, shelf_kept}
use Rattle.script_core.proofs.LineTools.{unit_is, is_field, cut_rest, cut_end, only_found, valued_found, replica_found, retention_found, early_found, ended_again}
use Rattle.script_core.proofs.SpelledValues.{near_spelled, free_spelled}
use Rattle.script_core.proofs.SpelledRules.{rule_sets, keeps_for}
use Rattle.script_fields.specs.Limits.{most_blocks}

-- what is left stands behind the line's word and a space
abbrev pub Starts : List ℕ → List ℕ → Option (List ℕ) → Type 0
Starts line word left = (rest : List ℕ) → left ≡ Some rest → line ≡ word ++ 32 ∷ rest

-- no series line may follow
abbrev pub closed : State → State
closed st = record st { continues = false }

pub below_is : (a b : ℤ) → int_lt a b ≡ true → a <ℤ b
below_is a b e = grind (arith, ints)

-- a label set that takes all that is left
whole_found : (count : ℕ) (read : Result (List Label × ℕ) LabelRefusal) (labels : List Label) → whole_labels count read ≡ Ok (Some labels) → read ≡ Ok (labels, count)
whole_found count (Err refusal) labels h = absurd cc
whole_found count (Ok found) labels h =
    let a = unless_ok (found.1 == count) (Bad causes.BadShape) (Ok (Some found.0)) (Some labels) h in
    let size : found.1 ≡ count = let test = a.0 in grind (arith, nat_tests) in
    let set : found.0 ≡ labels = same_Some _ _ (ok_is _ _ a.1) in
    λ i. Ok (set i, size i)

pub labels_found : (left : Option (List ℕ)) (labels : List Label) → last_labels left ≡ Ok (Some labels) → (text : List ℕ) × (left ≡ Some text) × IsSetText text labels
unfolding last_labels
labels_found None labels h = absurd cc
labels_found (Some text) labels h =
    let a = unless_ok (not (is_empty text)) (Bad causes.BadShape) (whole_labels (length text) (read_set text)) (Some labels) h in
    (text, refl, subst (λ t. IsSetText t labels) (take_all (length text) text (omega arith)) (set_text_found text labels (length text) (whole_found (length text) (read_set text) labels a.1)))

pub not_below : (low high : ℤ) → not (int_lt high low) ≡ true → low ≤ℤ high
not_below low high h = let test = not-true (int_lt high low) h in grind (arith, ints)

-- ---- partitions

-- what is left behind a field, as its texts
abbrev pub AreLeft : Option (List ℕ) → List (List ℕ) → Type 0
AreLeft rest [] = rest ≡ None
AreLeft rest (text ∷ texts) = rest ≡ Some (spaced (text ∷ texts))

partition_found : (rest : Option (List ℕ)) (partition : Partition) → partition_field rest ≡ Ok partition → partition.low ≤ℤ partition.high
    → (texts : List (List ℕ)) × AreLeft rest texts × ArePartitionTexts texts partition
unfolding partition_field
partition_found None partition h order = ([], refl, at_all_times refl (sym (ok_is _ _ h)))
partition_found (Some text) partition h order =
    let low_text = (next_field (Some text)).0 in
    let after_low = (next_field (Some text)).1 in
    let a = bind_ok (only_field after_low) _ _ h in
    let b = unless_ok (not (is_empty low_text)) causes.BadShape _ _ a.2 in
    let c = bind_ok (time_field low_text) _ _ b.1 in
    let d = bind_ok (time_field a.0) _ _ c.2 in
    let made : record { low = c.0; high = d.0 } ≡ partition = ok_is _ _ d.2 in
    let high = only_found after_low a.0 a.1 in
    let cut = cut_rest (Some text) low_text after_low a.0 (cut_found (Some text)) high.0 in
    let low_is = time_found low_text c.0 c.1 in
    let high_is = time_found a.0 d.0 d.1 in
    let low_at : IsTimeText low_text partition.low = subst (IsTimeText low_text) (ap (λ (p : Partition). p.low) made) (record { field = is_field low_text b.0 cut.1; written = low_is.0; near = near_spelled c.0 low_is.1 }) in
    let high_at : IsTimeText a.0 partition.high = subst (IsTimeText a.0) (ap (λ (p : Partition). p.high) made) (record { field = high.1; written = high_is.0; near = near_spelled d.0 high_is.1 }) in
    (low_text ∷ a.0 ∷ [], cut.0, from_to low_text a.0 refl low_at high_at order)

-- a name with the texts behind it
pub named_cut : (left : Option (List ℕ)) (name : List ℕ) (rest : Option (List ℕ)) (texts : List (List ℕ)) → Cut left name rest → not (is_empty name) ≡ true → AreLeft rest texts
    → (left ≡ Some (spaced (name ∷ texts))) × (no_space name ≡ true)
named_cut left name rest [] cut some are = cut_end left name rest cut are some
named_cut left name rest (text ∷ texts) cut some are = cut_rest left name rest (spaced (text ∷ texts)) cut are

-- what a block line says before its labels, and what it is tested for
head_found : (ulid_text min_text max_text : List ℕ) (head : BlockHead) → block_head ulid_text min_text max_text ≡ Ok head
    → (time_field min_text ≡ Ok head.min_time) × (time_field max_text ≡ Ok head.max_time) × (ulid_field ulid_text ≡ Ok head.ulid)
head_found ulid_text min_text max_text head h =
    let low = bind_ok (time_field min_text) _ _ h in
    let high = bind_ok (time_field max_text) _ _ low.2 in
    let ulid = bind_ok (ulid_field ulid_text) _ _ high.2 in
    let made : record { ulid = ulid.0; min_time = low.0; max_time = high.0 } ≡ head = ok_is _ _ ulid.2 in (
      low.1 ∙ ap (λ (one : BlockHead). Ok one.min_time) made,
      high.1 ∙ ap (λ (one : BlockHead). Ok one.max_time) made,
      ulid.1 ∙ ap (λ (one : BlockHead). Ok one.ulid) made,
    )

head_tested : (early : Bool) (head : BlockHead) → test_head early head ≡ Ok tt → (early ≡ true) × (int_lt head.min_time head.max_time ≡ true) × (not (is_reserved head.ulid) ≡ true)
head_tested early head tested =
    let a = unless_ok early (Bad causes.LateLine) _ _ tested in
    let b = unless_ok (int_lt head.min_time head.max_time) (Bad causes.BadTimes) _ _ a.1 in
    (a.0, b.0, unless_is (not (is_reserved head.ulid)) _ b.1)

-- a rule line of one of the three kinds
abbrev pub IsRuleLine : SoFar → List ℕ → SoFar → Type 0
IsRuleLine before line after = RuleLine before line after ⊎ (ReplicaLine before line after ⊎ RetentionLine before line after)

module _ (st after : State) (line : List ℕ) (left : Option (List ℕ)) (kept : Kept st) where
  -- a rule line by what it says, where all that a rule line asks for holds
  rule_by : (word text : List ℕ) (kind : RuleKind) (set : Rules) → IsField text → rule_kind word ≡ Some kind → apply_rule kind text st.rules ≡ Ok set
      → line ≡ codes "rule" ++ 32 ∷ (word ++ 32 ∷ text) → all_phases st.phases st.phase ≡ [] → record (closed st) { rules = set } ≡ after
      → IsRuleLine (so_far_of st) line (so_far_of after)
  unfolding set_rule add_replica set_retention
  rule_by word text (Valued name) set field known is spelled early same =
      let value = bind_ok _ _ _ is in
      inl (record {
        name = name;
        text = text;
        value = value.0;
        spelled = spelled ∙ ap (λ w. codes "rule" ++ 32 ∷ (w ++ 32 ∷ text)) (valued_found word name known);
        field = field;
        is_value = value_found name text value.0 value.1;
        early = early;
        set = set;
        sets = subst (Sets name value.0 st.rules) (ok_is _ _ value.2) (rule_sets name value.0 st.rules);
        adds = ap so_far_of (sym same);
      })
  rule_by word text ReplicaLabel set field known is spelled early same =
      let named = unless_ok _ _ _ _ is in
      let made : record st.rules { replicas = st.rules.replicas ++ text ∷ [] } ≡ set = ok_is _ _ named.1 in
      inr (inl (record {
        name = text;
        spelled = spelled ∙ ap (λ w. codes "rule" ++ 32 ∷ (w ++ 32 ∷ text)) (replica_found word known);
        field = field;
        is_name = named.0;
        early = early;
        adds = ap so_far_of (sym same) ∙ ap (λ (rules : Rules). outside (record (script_of_state st) { rules = rules })) (sym made);
      }))
  rule_by word text Retention set field known is spelled early same =
      let span = bind_ok _ _ _ is in
      let made : record st.rules { retention = retention_from span.0.ms } ≡ set = ok_is _ _ span.2 in
      inr (inr (record {
        text = text;
        ms = span.0.ms;
        spelled = spelled ∙ ap (λ w. codes "rule" ++ 32 ∷ (w ++ 32 ∷ text)) (retention_found word known);
        field = field;
        is_span = span_found text span.0 span.1;
        early = early;
        retention = retention_from span.0.ms;
        keeps = keeps_for span.0.ms;
        adds = ap so_far_of (sym same) ∙ ap (λ (rules : Rules). outside (record (script_of_state st) { rules = rules })) (sym made);
      }))

  pub rule_line_found : Starts line (codes "rule") left → rule_line (closed st) left ≡ Ok after
      → IsRuleLine (so_far_of st) line (so_far_of after) × Kept after
  unfolding rule_line
  rule_line_found starts h =
      let a = bind_ok _ _ _ h in
      let b = bind_ok _ _ _ a.2 in
      let c = bind_ok _ _ _ b.2 in
      let d = bind_ok _ _ _ c.2 in
      let e = unless_ok _ _ _ _ d.2 in
      let same = ok_is _ _ e.1 in
      let word = (next_field (Some a.0)).0 in
      let text = only_found (next_field (Some a.0)).1 c.0 (refused_as_ok _ _ _ c.1) in
      let cut = cut_rest (Some a.0) word (next_field (Some a.0)).1 c.0 (cut_found (Some a.0)) text.0 in
      let spelled = starts a.0 (ok_or_ok _ _ _ a.1) ∙ ap (λ rest. codes "rule" ++ 32 ∷ rest) (same_Some a.0 (word ++ 32 ∷ c.0) cut.0) in (
        rule_by word c.0 b.0 d.0 text.1 (ok_or_ok _ _ _ b.1) (refused_as_ok _ _ _ d.1) spelled (early_found st.phases st.phase kept.tasks.no_phase e.0) same,
        subst Kept same (record { blocks = kept.blocks; follows = λ c. absurd cc; tasks = kept.tasks }),
      )

  pub gateway_line_found : Starts line (codes "gateway") left → gateway_line (closed st) left ≡ Ok after → GatewayLine (so_far_of st) line (so_far_of after) × Kept after
  unfolding gateway_line add_gateway
  gateway_line_found starts h =
      let name = (next_field left).0 in
      let rest = (next_field left).1 in
      let a = unless_ok (not (is_empty name)) (Bad causes.BadShape) _ _ h in
      let b = bind_ok (bad (partition_field rest)) _ _ a.1 in
      let c = unless_ok _ _ _ _ b.2 in
      let d = unless_ok _ _ _ _ c.1 in
      let e = unless_ok _ _ _ _ d.1 in
      let f = unless_ok _ _ _ _ e.1 in
      let g = unless_ok _ _ _ _ f.1 in
      let same = ok_is _ _ g.1 in
      let found = partition_found rest b.0 (refused_as_ok _ _ _ b.1) (not_below b.0.low b.0.high e.0) in
      let cut = named_cut left name rest found.0 (cut_found left) a.0 found.1 in (
        record {
          name = name;
          texts = found.0;
          partition = b.0;
          spelled = starts (spaced (name ∷ found.0)) cut.0;
          field = is_field name a.0 cut.1;
          is_name = c.0;
          are_texts = found.2;
          early = early_found st.phases st.phase kept.tasks.no_phase d.0;
          new = is_none_is _ f.0;
          few = ltb-true _ _ g.0;
          adds = ap so_far_of (sym same);
        },
        subst Kept same (record { blocks = kept.blocks; follows = λ c. absurd cc; tasks = gateway_kept st.gateways st.phases st.phase st.synced st.hands st.activities kept.tasks name (is_none_is st.phase d.0) }),
      )

  pub block_line_found : (number : ℕ) → Starts line (codes "block") left → block_line (closed st) number left ≡ Ok after → BlockLine (so_far_of st) line (so_far_of after) × Kept after
  unfolding block_line begin_block
  block_line_found number starts h =
      let ulid_text = (next_field left).0 in
      let after_ulid = (next_field left).1 in
      let min_text = (next_field after_ulid).0 in
      let after_min = (next_field after_ulid).1 in
      let max_text = (next_field after_min).0 in
      let after_max = (next_field after_min).1 in
      let a = unless_ok (not (is_empty ulid_text) && not (is_empty min_text) && not (is_empty max_text)) (Bad causes.BadShape) _ _ h in
      let b = bind_ok _ _ _ a.1 in
      let c = bind_ok _ _ _ b.2 in
      let head = c.0 in
      let f = bind_ok _ _ _ c.2 in
      let stands = then_ok (test_head (is_early st) head) _ _ f.2 in
      let tests = head_tested (is_early st) head (stands.1 ∙ unit_is stands.0) in
      let declared = bind_ok _ _ _ stands.2 in
      let k = unless_ok _ _ _ _ declared.1 in
      let l = unless_ok _ _ _ _ k.1 in
      let new : Last = record { line = number; ulid = head.ulid; labels = f.0; min_time = head.min_time; max_time = head.max_time; series = [] } in
      let same = ap (λ (s : State). record s { last = Some new; continues = true }) (ok_is _ _ l.1) ∙ ok_is _ _ declared.2 in
      let front = and_parts (not (is_empty ulid_text) && not (is_empty min_text)) (not (is_empty max_text)) a.0 in
      let fields = and_parts (not (is_empty ulid_text)) (not (is_empty min_text)) front.0 in
      let set = labels_found after_max f.0 (subst (λ o. last_labels after_max ≡ Ok o) (ok_or_ok b.0 _ f.0 f.1) b.1) in
      let third = cut_rest after_min max_text after_max set.0 (cut_found after_min) set.1 in
      let second = cut_rest after_ulid min_text after_min (max_text ++ 32 ∷ set.0) (cut_found after_ulid) third.0 in
      let first = cut_rest left ulid_text after_ulid (min_text ++ 32 ∷ (max_text ++ 32 ∷ set.0)) (cut_found left) second.0 in
      let read = head_found ulid_text min_text max_text head (refused_as_ok _ _ _ c.1) in
      let min_is = time_found min_text head.min_time read.0 in
      let max_is = time_found max_text head.max_time read.1 in
      let fresh : is_declared st head.ulid ≡ false = not-true _ k.0 in
      let few : length st.ulids < most_blocks = ltb-true _ _ l.0 in (
        record {
          ulid_text = ulid_text;
          min_text = min_text;
          max_text = max_text;
          labels_text = set.0;
          ulid = head.ulid;
          min_time = head.min_time;
          max_time = head.max_time;
          labels = f.0;
          spelled = starts (ulid_text ++ 32 ∷ (min_text ++ 32 ∷ (max_text ++ 32 ∷ set.0))) first.0;
          is_ulid = record { field = is_field ulid_text fields.0 first.1; written = ulid_found ulid_text head.ulid read.2; not_reserved = free_spelled (head.ulid % 2 ^ 80) (not-true _ tests.2) };
          is_min = record { field = is_field min_text fields.1 second.1; written = min_is.0; near = near_spelled head.min_time min_is.1 };
          is_max = record { field = is_field max_text front.1 third.1; written = max_is.0; near = near_spelled head.max_time max_is.1 };
          are_labels = set.2;
          early = early_found st.phases st.phase kept.tasks.no_phase tests.0;
          times = below_is head.min_time head.max_time tests.1;
          new = sym (kept.blocks.declared head.ulid) ∙ fresh;
          few = omega (arith, kept.blocks.count, few);
          adds = ap so_far_of (sym same) ∙ ap (λ (bs : List Block). inside (record (script_of_state st) { blocks = bs })) (append-nil (all_blocks st.blocks st.last st.shelved ++ record { ulid = head.ulid; labels = f.0; body = Inline head.min_time head.max_time [] } ∷ []));
        },
        subst Kept same (record { blocks = block_kept st.blocks st.last st.shelved st.ulids kept.blocks new refl fresh; follows = λ c. refl; tasks = kept.tasks }),
      )

  pub shelf_line_found : HasEnded (all_blocks st.blocks st.last st.shelved) → Starts line (codes "shelf") left → shelf_line (closed st) left ≡ Ok after → ShelfLine (so_far_of st) line (so_far_of after) × Kept after
  unfolding shelf_line add_shelf
  shelf_line_found ended starts h =
      let ulid_text = (next_field left).0 in
      let after_ulid = (next_field left).1 in
      let a = unless_ok (not (is_empty ulid_text)) (Bad causes.BadShape) _ _ h in
      let b = bind_ok _ _ _ a.1 in
      let c = bind_ok _ _ _ b.2 in
      let d = bind_ok _ _ _ c.2 in
      let stands = then_ok (test_shelf (is_early st) c.0) _ _ d.2 in
      let e = unless_ok (is_early st) (Bad causes.LateLine) _ _ (stands.1 ∙ unit_is stands.0) in
      let free = unless_is (not (is_reserved c.0)) _ e.1 in
      let declared = bind_ok _ _ _ stands.2 in
      let g = unless_ok _ _ _ _ declared.1 in
      let i = unless_ok _ _ _ _ g.1 in
      let new : Block = record { ulid = c.0; labels = d.0; body = OnShelf } in
      let same = ap (λ (s : State). record s { shelved = s.shelved ++ new ∷ [] }) (ok_is _ _ i.1) ∙ ok_is _ _ declared.2 in
      let set = labels_found after_ulid d.0 (subst (λ o. last_labels after_ulid ≡ Ok o) (ok_or_ok b.0 _ d.0 d.1) b.1) in
      let first = cut_rest left ulid_text after_ulid set.0 (cut_found left) set.1 in
      let fresh : is_declared st c.0 ≡ false = not-true _ g.0 in
      let few : length st.ulids < most_blocks = ltb-true _ _ i.0 in
      let ends = ended_again st.blocks st.last st.shelved kept.blocks.ended ended in (
        record {
          ulid_text = ulid_text;
          labels_text = set.0;
          ulid = c.0;
          labels = d.0;
          spelled = starts (ulid_text ++ 32 ∷ set.0) first.0;
          is_ulid = record { field = is_field ulid_text a.0 first.1; written = ulid_found ulid_text c.0 (refused_as_ok _ _ _ c.1); not_reserved = free_spelled (c.0 % 2 ^ 80) (not-true _ free) };
          are_labels = set.2;
          early = early_found st.phases st.phase kept.tasks.no_phase e.0;
          new = sym (kept.blocks.declared c.0) ∙ fresh;
          few = omega (arith, kept.blocks.count, few);
          adds = ap so_far_of (sym same) ∙ ap (λ (bs : List Block). outside (record (script_of_state st) { blocks = bs })) (sym (append_assoc (with_last st.blocks st.last) st.shelved (new ∷ [])));
        },
        subst Kept same (record { blocks = shelf_kept st.blocks st.last st.shelved st.ulids kept.blocks new refl ends fresh; follows = λ c. absurd cc; tasks = kept.tasks }),
      )
