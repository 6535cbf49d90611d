-- What is read of a line of a phase is what the line spells.
use Rattle.std.proofs.Common.{◌≡◌, ℕ, zero, suc, ◌+◌, ◌%◌, ◌^◌, ◌<◌, ◌≤◌, ◌≤ℤ◌, Bool, true, false, not, ◌==◌, ◌&&◌, ◌||◌, cond, nat_le, ltb-true, leb-true, int_lt, List, [], ◌∷◌, ◌++◌, length, Option, Some, None, is_some, unwrap_or, Ok, refl, sym, ap, ◌∙◌, subst, arith, codes, inl, inr}
use Rattle.std.specs.List.{list_all, range_with_len}
use Rattle.std.specs.Str.{bytes_eq}
use Rattle.std.proofs.lemmas.Bool.Decides.{nat_tests}
use Rattle.std.proofs.lemmas.Option.{same_Some}
use Rattle.std.proofs.Math.Bool.{or-false}
use Rattle.base.proofs.Binds.{bind_ok, unless_ok, ok_is, refused_as_ok, unless_is, then_ok, ok_or_ok}
use Rattle.std.proofs.lemmas.Bool.{and_parts, not-true, cases_Bool}
use Rattle.base.proofs.Bools.{same_texts}
use Rattle.base.specs.Lists.{is_one_of}
use Rattle.base.proofs.Lists.{pushed_not_nil}
use Rattle.moment_core.specs.declared.moment.Moment.{Moment}
use Rattle.moment_core.specs.declared.rules.Rules.{Rules}
use Rattle.script_fields.specs.declared.cause.LineCause.TheVariants as causes
use Rattle.script_fields.specs.declared.line_refusal.LineRefusal.TheVariants.{Bad, BadRules, FallingMoment}
use Rattle.script_workers.specs.declared.phase.Phase.{Phase}
use Rattle.script_workers.specs.declared.work.Work.{Work}
use Rattle.script_workers.specs.declared.work.Work.TheVariants as works
use Rattle.script_fields.specs.Fields.{is_empty, next_field, only_field}
use Rattle.script_workers.specs.Hands.{gateway_count, with_hands}
use Rattle.script_fields.specs.Values.{agree, stop_count}
use Rattle.script_fields.specs.LineRefusals.{bad}
use Rattle.script_core.specs.Lines.{may_begin, at_line, stop_field, upload_line, sync_line, compact_line, clean_line, query_line, Asked, has_begun, question_at, selector_field}
use Rattle.script_core.specs.State.{State, all_phases, begin_phase, add_task, add_query, note_sync, is_declared, script_of_state, are_all_synced, phase_compacts}
use Rattle.script_workers.specs.Works.{is_sync_of}
use Rattle.script_core.specs.Spelling.{spaced, IsTimeText, AtLine, AddsTask, AreStopTexts, no_stop, stops_at, UploadLine, SyncLine, CompactLine, CleanLine, QueryLine}
use Rattle.script_fields.proofs.FieldLaws.{Cut, cut_found}
use Rattle.script_core.proofs.ValueLaws.{time_found, ulid_found, moment_found, stop_count_found}
use Rattle.script_core.proofs.Kept.{Kept, KeepsTasks, at, so_far_of, phase_kept, task_kept, sync_noted, hands_of-append}
use Rattle.script_core.proofs.LineTools.{is_field, cut_rest, only_found, last_phase, unit_is}
use Rattle.script_core.proofs.FoundSetup.{Starts, closed, not_below, AreLeft, named_cut}
use Rattle.script_core.proofs.SpelledValues.{near_spelled, free_spelled, agree_spelled}
use Rattle.script_core.proofs.ReadSelectors.{selector_found}
use Rattle.script_workers.proofs.HandLaws.{few_spelled}
use Rattle.script_workers.specs.Limits.{most_workers}
use Rattle.script_fields.specs.Limits.{most_tasks}

-- ---- moments

first_agrees : (rules : Rules) (phases : List Phase) (phase : Option Phase) (moment : Moment) → may_begin rules phase moment ≡ Ok tt → all_phases phases phase ≡ [] → agree rules ≡ true
first_agrees rules phases None moment h early = unless_is (agree rules) BadRules h
first_agrees rules phases (Some phase) moment h early = absurd (pushed_not_nil phases phase early)

not_sooner : (rules : Rules) (last : Phase) (moment : Moment) → may_begin rules (Some last) moment ≡ Ok tt → last.moment.ms ≤ moment.ms
not_sooner rules last moment h = leb-true _ _ (unless_is (nat_le last.moment.ms moment.ms) FallingMoment h)

-- ---- tasks

-- a task that was added
pub record Added (st : State) (number : ℕ) (work : Work) (after : State) : Type 0 where
  pub phase : Phase
  pub begun : st.phase ≡ Some phase
  pub few : st.activities < most_tasks
  pub few_workers : length (with_hands (gateway_count st.gateways) st.hands (length phase.tasks) work) ≤ most_workers
  pub is : record st { phase = Some (record phase { tasks = phase.tasks ++ record { line = number; work = work } ∷ [] }); hands = with_hands (gateway_count st.gateways) st.hands (length phase.tasks) work; activities = st.activities + 1 } ≡ after

pub added : (st after : State) (number : ℕ) (work : Work) → add_task st number work ≡ Ok after → Added st number work after
unfolding add_task
added st after number work h =
    let a = unless_ok _ _ _ _ h in
    let b = bind_ok _ _ _ a.1 in
    let c = unless_ok _ _ _ _ b.2 in
    record { phase = b.0; begun = ok_or_ok _ _ _ b.1; few = ltb-true _ _ a.0; few_workers = leb-true _ _ c.0; is = ok_is _ _ c.1 }

module _ (st after : State) (number : ℕ) (work : Work) (kept : Kept st) (task : Added st number work after) where
  with_phase : (a : Option Phase) → st.phase ≡ a → KeepsTasks st.gateways st.phases a st.synced st.hands st.activities
  with_phase a is = subst (λ p. KeepsTasks st.gateways st.phases p st.synced st.hands st.activities) is kept.tasks

  pub adds_task : AddsTask (script_of_state st) number work (script_of_state after)
  adds_task =
      let hands = kept.tasks.are_hands task.phase task.begun in
      record {
        others = st.phases;
        phase = task.phase;
        last = ap (all_phases st.phases) task.begun;
        few = subst (λ n. n < most_tasks) kept.tasks.are_counted task.few;
        few_workers = few_spelled (gateway_count st.gateways) (task.phase.tasks ++ record { line = number; work = work } ∷ []) (subst (λ hs. length hs ≤ most_workers) (ap (λ hs. with_hands (gateway_count st.gateways) hs (length task.phase.tasks) work) hands ∙ sym (hands_of-append (gateway_count st.gateways) task.phase.tasks (record { line = number; work = work }))) task.few_workers);
        adds = ap script_of_state (sym task.is);
      }

  -- the last phase with the task, whatever syncs are noted beside it
  pub more_kept : (noted : List ℕ) → ((gateway : ℕ) → is_one_of noted gateway ≡ (is_one_of st.synced gateway || is_sync_of gateway work)) → Kept (record after { synced = noted })
  more_kept noted notes =
      let tasks = task_kept st.gateways st.phases task.phase st.synced noted st.hands st.activities (record { line = number; work = work }) (with_phase (Some task.phase) task.begun) notes in
      subst (λ (s : State). Kept (record s { synced = noted })) task.is (record { blocks = kept.blocks; follows = kept.follows; tasks = tasks })

  -- nothing is noted
  pub same_kept : ((gateway : ℕ) → is_sync_of gateway work ≡ false) → Kept after
  same_kept never =
      let all = more_kept st.synced (λ gateway. sym (or-false (is_one_of st.synced gateway)) ∙ ap (λ b. is_one_of st.synced gateway || b) (sym (never gateway))) in
      subst (λ (s : State). Kept (record s { synced = st.synced }) → Kept s) task.is (λ k. k) all

-- ---- queries

-- a test of each number of a range
pub all_in_range : (p : ℕ → Bool) (first count : ℕ) → list_all p (range_with_len first count) ≡ true → (n : ℕ) → first ≤ n → n < first + count → p n ≡ true
all_in_range p first zero h n low high = absurd (omega arith)
all_in_range p first (suc count) h n low high =
    let parts = and_parts (p first) (list_all p (range_with_len (first + 1) count)) h in
    elim (cases_Bool (first == n)) [
      | inl same ↦ let e : first ≡ n = grind (arith, nat_tests) in ap p (sym e) ∙ parts.0
      | inr other ↦ let later : first + 1 ≤ n = grind (arith, nat_tests) in all_in_range p (first + 1) count parts.1 n later (omega arith)
    ]

-- what a query line asks for before its selector is read
pub record Asks (st : State) (left : Option (List ℕ)) (asked : Asked) : Type 0 where
  pub low_text : List ℕ
  pub high_text : List ℕ
  pub left_is : left ≡ Some (low_text ++ 32 ∷ (high_text ++ 32 ∷ asked.text))
  pub is_low : IsTimeText low_text asked.low
  pub is_high : IsTimeText high_text asked.high
  pub begun : is_some st.phase ≡ true
  pub times : asked.low ≤ℤ asked.high

-- something is left
some_left : (left : Option (List ℕ)) → not (is_empty (unwrap_or left [])) ≡ true → left ≡ Some (unwrap_or left [])
some_left None some = absurd cc
some_left (Some text) some = refl

pub question_found : (st : State) (left : Option (List ℕ)) (asked : Asked) → question_at (has_begun st) left ≡ Ok asked → Asks st left asked
unfolding question_at
question_found st left asked h =
    let low_text = (next_field left).0 in
    let after_low = (next_field left).1 in
    let high_text = (next_field after_low).0 in
    let after_high = (next_field after_low).1 in
    let text = unwrap_or after_high [] in
    let a = unless_ok (not (is_empty low_text) && not (is_empty high_text) && not (is_empty text)) (Bad causes.BadShape) _ _ h in
    let b = bind_ok _ _ _ a.1 in
    let c = bind_ok _ _ _ b.2 in
    let d = unless_ok (is_some st.phase) (Bad causes.NoPhase) _ _ c.2 in
    let e = unless_ok (not (int_lt c.0 b.0)) (Bad causes.BadTimes) _ _ d.1 in
    let front = and_parts (not (is_empty low_text) && not (is_empty high_text)) (not (is_empty text)) a.0 in
    let fields = and_parts (not (is_empty low_text)) (not (is_empty high_text)) front.0 in
    let second = cut_rest after_low high_text after_high text (cut_found after_low) (some_left after_high front.1) in
    let first = cut_rest left low_text after_low (high_text ++ 32 ∷ text) (cut_found left) second.0 in
    let low_is = time_found low_text b.0 (refused_as_ok _ _ _ b.1) in
    let high_is = time_found high_text c.0 (refused_as_ok _ _ _ c.1) in
    let made : record { low = b.0; high = c.0; text = text } ≡ asked = ok_is _ _ e.1 in
    subst (Asks st left) made (record {
      low_text = low_text;
      high_text = high_text;
      left_is = first.0;
      is_low = record { field = is_field low_text fields.0 first.1; written = low_is.0; near = near_spelled b.0 low_is.1 };
      is_high = record { field = is_field high_text fields.1 second.1; written = high_is.0; near = near_spelled c.0 high_is.1 };
      begun = d.0;
      times = not_below b.0 c.0 e.0;
    })

-- ---- stops

stop_found : (rest : Option (List ℕ)) (stop : Option ℕ) → stop_field rest ≡ Ok stop → (texts : List (List ℕ)) × AreLeft rest texts × AreStopTexts texts stop
unfolding stop_field
stop_found None stop h = ([], refl, no_stop refl (sym (ok_is _ _ h)))
stop_found (Some text) stop h =
    let word = (next_field (Some text)).0 in
    let after_word = (next_field (Some text)).1 in
    let a = bind_ok (only_field after_word) _ _ h in
    let b = unless_ok (bytes_eq word (codes "stop")) causes.BadShape _ _ a.2 in
    let c = bind_ok (stop_count a.0) _ _ b.1 in
    let made : Some c.0 ≡ stop = ok_is _ _ c.2 in
    let last = only_found after_word a.0 a.1 in
    let cut = cut_rest (Some text) word after_word a.0 (cut_found (Some text)) last.0 in
    let named : word ≡ codes "stop" = same_texts word (codes "stop") b.0 in
    let number = stop_count_found a.0 c.0 c.1 in
    (word ∷ a.0 ∷ [], cut.0, stops_at a.0 c.0 (ap (λ w. w ∷ a.0 ∷ []) named) last.1 number.0 number.1 number.2 (sym made))

-- ---- lines

module _ (st after : State) (number : ℕ) (line : List ℕ) (left : Option (List ℕ)) (kept : Kept st) where
  kept_closed : Kept (closed st)
  kept_closed = record { blocks = kept.blocks; follows = λ c. absurd cc; tasks = kept.tasks }

  pub at_line_found : Starts line (codes "at") left → at_line (closed st) number left ≡ Ok after → AtLine (so_far_of st) number line (so_far_of after) × Kept after
  unfolding at_line begin_phase
  at_line_found starts h =
      let a = bind_ok _ _ _ h in
      let b = bind_ok _ _ _ a.2 in
      let c = then_ok (may_begin st.rules st.phase b.0) _ _ b.2 in
      let same = ok_is _ _ c.2 in
      let may : may_begin st.rules st.phase b.0 ≡ Ok tt = c.1 ∙ unit_is c.0 in
      let text = only_found left a.0 (refused_as_ok _ _ _ a.1) in (
        record {
          text = a.0;
          moment = b.0.ms;
          spelled = starts a.0 text.0;
          field = text.1;
          is_moment = moment_found a.0 b.0 (refused_as_ok _ _ _ b.1);
          first = λ early. agree_spelled st.rules (first_agrees st.rules st.phases st.phase b.0 may early);
          later = λ others last is. let p = last_phase st.phases st.phase others last kept.tasks.no_phase is in not_sooner st.rules last b.0 (ap (λ o. may_begin st.rules o b.0) (sym p.0) ∙ may);
          adds = ap so_far_of (sym same);
        },
        subst Kept same (record { blocks = kept.blocks; follows = λ c. absurd cc; tasks = phase_kept st.gateways st.phases st.phase st.synced st.hands st.activities kept.tasks number b.0 }),
      )

  pub upload_line_found : Starts line (codes "upload") left → upload_line (closed st) number left ≡ Ok after → UploadLine (so_far_of st) number line (so_far_of after) × Kept after
  unfolding upload_line
  upload_line_found starts h =
      let text = (next_field left).0 in
      let rest = (next_field left).1 in
      let a = unless_ok (not (is_empty text)) (Bad causes.BadShape) _ _ h in
      let b = bind_ok (bad (stop_field rest)) _ _ a.1 in
      let c = bind_ok _ _ _ b.2 in
      let d = unless_ok _ _ _ _ c.2 in
      let e = unless_ok _ _ _ _ d.1 in
      let f = unless_ok _ _ _ _ e.1 in
      let found = stop_found rest b.0 (refused_as_ok _ _ _ b.1) in
      let cut = named_cut left text rest found.0 (cut_found left) a.0 found.1 in
      let task = added (closed st) after number (works.Upload c.0 b.0) f.1 in
      let declared : is_declared st c.0 ≡ true = f.0 in (
        record {
          text = text;
          ulid = c.0;
          texts = found.0;
          stop = b.0;
          spelled = starts (spaced (text ∷ found.0)) cut.0;
          are_texts = found.2;
          is_ulid = record { field = is_field text a.0 cut.1; written = ulid_found text c.0 (refused_as_ok _ _ _ c.1); not_reserved = free_spelled (c.0 % 2 ^ 80) (not-true _ e.0) };
          declared = sym (kept.blocks.declared c.0) ∙ declared;
          script = script_of_state after;
          task = adds_task (closed st) after number (works.Upload c.0 b.0) kept_closed task;
          adds = ap (λ (s : State). at (script_of_state after) s.continues) (sym task.is);
        },
        same_kept (closed st) after number (works.Upload c.0 b.0) kept_closed task (λ gateway. refl),
      )

  pub sync_line_found : Starts line (codes "sync") left → sync_line (closed st) number left ≡ Ok after → SyncLine (so_far_of st) number line (so_far_of after) × Kept after
  unfolding sync_line note_sync
  sync_line_found starts h =
      let a = bind_ok _ _ _ h in
      let b = unless_ok _ _ _ _ a.2 in
      let c = unless_ok _ _ _ _ b.1 in
      let d = bind_ok _ _ _ c.1 in
      let e = bind_ok _ _ _ d.2 in
      let same = ok_is _ _ e.2 in
      let name = only_found left a.0 (refused_as_ok _ _ _ a.1) in
      let task = added (closed st) e.0 number (works.Sync d.0) e.1 in
      let synced : e.0.synced ≡ st.synced = ap (λ (s : State). s.synced) (sym task.is) in
      let noted = more_kept (closed st) e.0 number (works.Sync d.0) kept_closed task (cond (is_one_of e.0.synced d.0) e.0.synced (e.0.synced ++ d.0 ∷ [])) (λ gateway. sync_noted e.0.synced d.0 gateway ∙ ap (λ s. is_one_of s gateway || (d.0 == gateway)) synced) in (
        record {
          name = a.0;
          gateway = d.0;
          spelled = starts a.0 name.0;
          field = name.1;
          is_name = b.0;
          declared = ok_or_ok _ _ _ d.1;
          script = script_of_state e.0;
          task = adds_task (closed st) e.0 number (works.Sync d.0) kept_closed task;
          adds = ap so_far_of (sym same) ∙ ap (λ (s : State). at (script_of_state e.0) s.continues) (sym task.is);
        },
        subst Kept same noted,
      )

  pub compact_line_found : Cut (Some line) (codes "compact") left → compact_line (closed st) number left ≡ Ok after → CompactLine (so_far_of st) number line (so_far_of after) × Kept after
  unfolding compact_line adds_task
  compact_line_found cut h =
      let a = bind_ok (bad (stop_field left)) _ _ h in
      let b = unless_ok _ _ _ _ a.2 in
      let c = unless_ok _ _ _ _ b.1 in
      let found = stop_found left a.0 (refused_as_ok _ _ _ a.1) in
      let whole = named_cut (Some line) (codes "compact") left found.0 cut refl found.1 in
      let task = added (closed st) after number (works.Compact a.0) c.1 in
      let none : phase_compacts st.phase ≡ false = not-true _ c.0 in (
        record {
          texts = found.0;
          stop = a.0;
          spelled = same_Some _ _ whole.0;
          are_texts = found.2;
          script = script_of_state after;
          task = adds_task (closed st) after number (works.Compact a.0) kept_closed task;
          first = ap phase_compacts (sym task.begun) ∙ none;
          adds = ap (λ (s : State). at (script_of_state after) s.continues) (sym task.is);
        },
        same_kept (closed st) after number (works.Compact a.0) kept_closed task (λ gateway. refl),
      )

  pub clean_line_found : Cut (Some line) (codes "clean") left → clean_line (closed st) number left ≡ Ok after → CleanLine (so_far_of st) number line (so_far_of after) × Kept after
  unfolding clean_line
  clean_line_found cut h =
      let a = bind_ok (bad (stop_field left)) _ _ h in
      let b = unless_ok _ _ _ _ a.2 in
      let found = stop_found left a.0 (refused_as_ok _ _ _ a.1) in
      let whole = named_cut (Some line) (codes "clean") left found.0 cut refl found.1 in
      let task = added (closed st) after number (works.Clean a.0) b.1 in (
        record {
          texts = found.0;
          stop = a.0;
          spelled = same_Some _ _ whole.0;
          are_texts = found.2;
          script = script_of_state after;
          task = adds_task (closed st) after number (works.Clean a.0) kept_closed task;
          adds = ap (λ (s : State). at (script_of_state after) s.continues) (sym task.is);
        },
        same_kept (closed st) after number (works.Clean a.0) kept_closed task (λ gateway. refl),
      )

  pub query_line_found : Starts line (codes "query") left → query_line (closed st) number left ≡ Ok after → QueryLine (so_far_of st) number line (so_far_of after) × Kept after
  unfolding query_line add_query
  query_line_found starts h =
      let a = bind_ok (question_at (has_begun st) left) _ _ h in
      let b = bind_ok (bad (selector_field st.rules.replicas a.0.text)) _ _ a.2 in
      let c = unless_ok (are_all_synced (closed st)) _ _ _ b.2 in
      let d = bind_ok _ _ _ c.1 in
      let same = ok_is _ _ d.2 in
      let asks = question_found (closed st) left a.0 a.1 in
      let work : Work = works.Query a.0.low a.0.high (length st.selectors) in
      let task = added (closed st) d.0 number work d.1 in
      let k = same_kept (closed st) d.0 number work kept_closed task (λ gateway. refl) in (
        record {
          low_text = asks.low_text;
          high_text = asks.high_text;
          selector_text = a.0.text;
          low = a.0.low;
          high = a.0.high;
          selector = b.0;
          spelled = starts (asks.low_text ++ 32 ∷ (asks.high_text ++ 32 ∷ a.0.text)) asks.left_is;
          is_low = asks.is_low;
          is_high = asks.is_high;
          is_selector = selector_found st.rules.replicas a.0.text b.0 (refused_as_ok _ _ _ b.1);
          times = asks.times;
          synced = λ gateway below. sym (kept.tasks.are_synced gateway) ∙ all_in_range (is_one_of st.synced) 0 (length st.gateways) c.0 gateway (omega arith) (omega arith);
          script = script_of_state d.0;
          task = adds_task (closed st) d.0 number work kept_closed task;
          adds = ap so_far_of (sym same) ∙ ap (λ (s : State). at (record (script_of_state d.0) { selectors = d.0.selectors ++ b.0 ∷ [] }) s.continues) (sym task.is);
        },
        subst Kept same (record { blocks = k.blocks; follows = k.follows; tasks = k.tasks }),
      )
