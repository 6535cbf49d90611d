-- What a line of a phase spells is read of it.
use Rattle.std.proofs.Common.{◌≡◌, ℕ, zero, suc, ◌+◌, ◌%◌, ◌^◌, ◌<◌, ◌≤◌, Bool, true, false, not, nat_lt, nat_le, int_lt, List, [], ◌∷◌, ◌++◌, length, Option, Some, None, is_some, Ok, refl, sym, ap, ◌∙◌, subst, arith, inl, inr, codes}
use Rattle.std.specs.List.{list_all, range_with_len}
use Rattle.std.proofs.lemmas.Bool.Decides.{nat_tests}
use Rattle.base.proofs.Lists.{nil_not_middle}
use Rattle.base.specs.Lists.{is_one_of}
use Rattle.matchers.specs.SelectorText.{IsSelectorText}
use Rattle.matchers.specs.Selectors.{is_metric_name}
use Rattle.matchers.specs.declared.matcher.Matcher.{Matcher}
use Rattle.moment_core.specs.declared.moment.Moment.{Moment}
use Rattle.moment_core.specs.declared.rules.Rules.{Rules}
use Rattle.base.specs.Decimal.{decimal_text}
use Rattle.script_fields.specs.declared.line_kind.LineKind.TheVariants as kinds
use Rattle.script_workers.specs.declared.phase.Phase.{Phase}
use Rattle.script_core.specs.declared.script.Script.{Script}
use Rattle.script_workers.specs.declared.work.Work.{Work}
use Rattle.script_workers.specs.declared.work.Work.TheVariants as works
use Rattle.script_fields.specs.Fields.{is_empty, next_field}
use Rattle.script_workers.specs.Hands.{gateway_count, with_hands, hands_of}
use Rattle.script_fields.specs.Values.{is_reserved, agree, moment_from}
use Rattle.script_core.specs.Lines.{fields_line, may_begin, at_line, stop_field, upload_line, sync_line, compact_line, clean_line, query_line, question_at, selector_field}
use Rattle.script_core.specs.State.{State, all_phases, begin_phase, add_task, add_query, note_sync, is_declared, script_of_state, are_all_synced, phase_compacts}
use Rattle.script_core.specs.Spelling.{SoFar, spaced, IsField, AtLine, AddsTask, AreStopTexts, no_stop, stops_at, UploadLine, SyncLine, CompactLine, CleanLine, QueryLine}
use Rattle.script_fields.proofs.FieldLaws.{no_space, cut_again, cut_last}
use Rattle.script_core.proofs.ValueLaws.{time_again, ulid_again, moment_again, stop_count_again}
use Rattle.script_core.proofs.Kept.{Kept, at, so_far_of, hands_of-append}
use Rattle.script_core.proofs.LineTools.{is_some_field, only_again, last_phase, word_free}
use Rattle.script_core.proofs.FoundSetup.{closed}
use Rattle.script_core.proofs.AgainSetup.{IsRead, starts_again}
use Rattle.script_core.proofs.SpelledValues.{near_tested, free_tested, agree_tested, not_before}
use Rattle.script_core.proofs.ReadSelectors.{selector_again}
use Rattle.script_workers.proofs.HandLaws.{few_counted}
use Rattle.script_workers.specs.Limits.{most_workers}
use Rattle.script_fields.specs.Limits.{most_tasks, latest_stop}

may_again : (rules : Rules) (phases : List Phase) (phase : Option Phase) (moment : Moment) → (phase ≡ None → phases ≡ []) → (all_phases phases phase ≡ [] → agree rules ≡ true) → ((others : List Phase) (last : Phase) → all_phases phases phase ≡ others ++ last ∷ [] → last.moment.ms ≤ moment.ms) → may_begin rules phase moment ≡ Ok tt
may_again rules phases None moment first agreed later = let agrees = agreed (first refl) in rw agrees refl
may_again rules phases (Some phase) moment first agreed later =
    let below = later phases phase refl in
    let test : nat_le phase.moment.ms moment.ms ≡ true = grind (arith, nat_tests) in
    rw test refl

-- ---- tasks

-- a task that is added in this state, and leads to a script
pub record IsAdded (st : State) (number : ℕ) (work : Work) (script : Script) : Type 0 where
  pub after : State
  pub begun : is_some st.phase ≡ true
  pub read : add_task st number work ≡ Ok after
  pub script_is : script_of_state after ≡ script
  pub in_block : after.continues ≡ st.continues
  pub selectors : after.selectors ≡ st.selectors

begun_by : {A : Type 0} (o : Option A) (x : A) → o ≡ Some x → is_some o ≡ true
begun_by o x is = ap is_some is

add_again : (st : State) (number : ℕ) (work : Work) (phase : Phase) → st.phase ≡ Some phase → nat_lt st.activities most_tasks ≡ true → nat_le (length (with_hands (gateway_count st.gateways) st.hands (length phase.tasks) work)) most_workers ≡ true → add_task st number work ≡ Ok (record st { phase = Some (record phase { tasks = phase.tasks ++ record { line = number; work = work } ∷ [] }); hands = with_hands (gateway_count st.gateways) st.hands (length phase.tasks) work; activities = st.activities + 1 })
unfolding add_task
add_again st number work phase is few few_workers = rw (few, is, few_workers) refl

pub task_again : (st : State) (number : ℕ) (work : Work) (script : Script) → Kept st → AddsTask (script_of_state st) number work script → IsAdded st number work script
task_again st number work script kept adds =
    let last = last_phase st.phases st.phase adds.others adds.phase kept.tasks.no_phase adds.last in
    let count = kept.tasks.are_counted in
    let below = adds.few in
    let few : nat_lt st.activities most_tasks ≡ true = grind (arith, nat_tests) in
    let hands : hands_of (gateway_count st.gateways) (adds.phase.tasks ++ record { line = number; work = work } ∷ []) ≡ with_hands (gateway_count st.gateways) st.hands (length adds.phase.tasks) work = hands_of-append (gateway_count st.gateways) adds.phase.tasks (record { line = number; work = work }) ∙ ap (λ hs. with_hands (gateway_count st.gateways) hs (length adds.phase.tasks) work) (sym (kept.tasks.are_hands adds.phase last.0)) in
    let counted = few_counted (gateway_count st.gateways) (adds.phase.tasks ++ record { line = number; work = work } ∷ []) adds.few_workers in
    let fits : length (with_hands (gateway_count st.gateways) st.hands (length adds.phase.tasks) work) ≤ most_workers = subst (λ hs. length hs ≤ most_workers) hands counted in
    let few_workers : nat_le (length (with_hands (gateway_count st.gateways) st.hands (length adds.phase.tasks) work)) most_workers ≡ true = grind (arith, nat_tests) in
    record {
      after = record st { phase = Some (record adds.phase { tasks = adds.phase.tasks ++ record { line = number; work = work } ∷ [] }); hands = with_hands (gateway_count st.gateways) st.hands (length adds.phase.tasks) work; activities = st.activities + 1 };
      begun = begun_by st.phase adds.phase last.0;
      read = add_again st number work adds.phase last.0 few few_workers;
      script_is = ap (λ (others : List Phase). record (script_of_state st) { phases = others ++ record adds.phase { tasks = adds.phase.tasks ++ record { line = number; work = work } ∷ [] } ∷ [] }) last.1 ∙ sym adds.adds;
      in_block = refl;
      selectors = refl;
    }

-- ---- queries

-- a text of a selector is not empty
selector_some : (text : List ℕ) (selector : List Matcher) → IsSelectorText text selector → not (is_empty text) ≡ true
unfolding is_metric_name
selector_some [] selector (inl metric) = absurd cc
selector_some [] selector (inr braces) = absurd (nil_not_middle 123 braces.metric (braces.inside ++ 125 ∷ []) braces.written)
selector_some (byte ∷ text) selector is = grind (arith, nat_tests)

range_passes : (p : ℕ → Bool) (first count : ℕ) → ((n : ℕ) → first ≤ n → n < first + count → p n ≡ true) → list_all p (range_with_len first count) ≡ true
range_passes p first zero each = refl
range_passes p first (suc count) each =
    let one = each first (omega arith) (omega arith) in
    let others = range_passes p (first + 1) count (λ n low high. each n (omega arith) (omega arith)) in
    rw one others

-- ---- lines

-- what is left of a line in front of some texts
abbrev left_of : List (List ℕ) → Option (List ℕ)
left_of [] = None
left_of (text ∷ texts) = Some (spaced (text ∷ texts))

-- a word and the texts behind it
word_again : (word : List ℕ) (texts : List (List ℕ)) → no_space word ≡ true → next_field (Some (spaced (word ∷ texts))) ≡ (word, left_of texts)
word_again word [] free = cut_last word free
word_again word (text ∷ texts) free = cut_again word (spaced (text ∷ texts)) free

count_again : (text : List ℕ) (count : ℕ) → IsField text → text ≡ decimal_text count → 1 ≤ count → count ≤ latest_stop → stop_field (Some (codes "stop" ++ 32 ∷ text)) ≡ Ok (Some count)
unfolding stop_field
count_again text count field written low high =
    let cut : next_field (Some (codes "stop" ++ 32 ∷ text)) ≡ (codes "stop", Some text) = cut_again (codes "stop") text refl in
    let only = only_again text field in
    let read = stop_count_again text count written low high in
    rw (cut, only, read) refl

no_count : stop_field None ≡ Ok None
unfolding stop_field
no_count = refl

stop_again : (texts : List (List ℕ)) (stop : Option ℕ) → AreStopTexts texts stop → stop_field (left_of texts) ≡ Ok stop
stop_again texts stop (no_stop none is) = ap (λ ts. stop_field (left_of ts)) none ∙ no_count ∙ ap Ok (sym is)
stop_again texts stop (stops_at text count are field written low high is) =
    ap (λ ts. stop_field (left_of ts)) are ∙ count_again text count field written low high ∙ ap Ok (sym is)

module _ (st : State) (number : ℕ) (line : List ℕ) (next : SoFar) (kept : Kept st) where
  kept_closed : Kept (closed st)
  kept_closed = record { blocks = kept.blocks; follows = λ c. absurd cc; tasks = kept.tasks }

  pub at_line_again : AtLine (so_far_of st) number line next → IsRead (closed st) number line kinds.At next
  unfolding fields_line at_line begin_phase
  at_line_again says =
      let only = only_again says.text says.field in
      let read = moment_again says.text says.moment says.is_moment in
      let may = may_again st.rules st.phases st.phase (moment_from says.moment) kept.tasks.no_phase (λ early. agree_tested st.rules (says.first early)) says.later in
      record {
        left = Some says.text;
        after = begin_phase (closed st) (record { line = number; moment = moment_from says.moment; tasks = [] });
        cut = starts_again line kinds.At says.text says.spelled;
        read = rw (only, read, may) refl;
        next_is = sym says.adds;
      }

  pub upload_line_again : UploadLine (so_far_of st) number line next → IsRead (closed st) number line kinds.Upload next
  unfolding fields_line upload_line
  upload_line_again says =
      let ulid = says.is_ulid in
      let rest : List ℕ = spaced (says.text ∷ says.texts) in
      let cut = word_again says.text says.texts ulid.field.no_space in
      let some = is_some_field says.text ulid.field in
      let stop = stop_again says.texts says.stop says.are_texts in
      let read_ulid = ulid_again says.text says.ulid ulid.written in
      let free : is_reserved says.ulid ≡ false = free_tested (says.ulid % 2 ^ 80) ulid.not_reserved in
      let declared : is_declared st says.ulid ≡ true = kept.blocks.declared says.ulid ∙ says.declared in
      let task = task_again (closed st) number (works.Upload says.ulid says.stop) says.script kept_closed says.task in
      let begun : is_some st.phase ≡ true = task.begun in
      let added = task.read in
      record {
        left = Some rest;
        after = task.after;
        cut = starts_again line kinds.Upload rest says.spelled;
        read = rw (cut, some, stop, read_ulid, begun, free, declared) added;
        next_is = (λ i. at (task.script_is i) (task.in_block i)) ∙ sym says.adds;
      }

  pub sync_line_again : SyncLine (so_far_of st) number line next → IsRead (closed st) number line kinds.Sync next
  unfolding fields_line sync_line note_sync
  sync_line_again says =
      let only = only_again says.name says.field in
      let named = says.is_name in
      let declared = says.declared in
      let task = task_again (closed st) number (works.Sync says.gateway) says.script kept_closed says.task in
      let begun : is_some st.phase ≡ true = task.begun in
      let added = task.read in
      record {
        left = Some says.name;
        after = note_sync task.after says.gateway;
        cut = starts_again line kinds.Sync says.name says.spelled;
        read = rw (only, named, begun, declared, added) refl;
        next_is = (λ i. at (task.script_is i) (task.in_block i)) ∙ sym says.adds;
      }

  pub compact_line_again : CompactLine (so_far_of st) number line next → IsRead (closed st) number line kinds.Compact next
  unfolding fields_line compact_line
  compact_line_again says =
      let stop = stop_again says.texts says.stop says.are_texts in
      let task = task_again (closed st) number (works.Compact says.stop) says.script kept_closed says.task in
      let begun : is_some st.phase ≡ true = task.begun in
      let last = last_phase st.phases st.phase says.task.others says.task.phase kept.tasks.no_phase says.task.last in
      let first : phase_compacts st.phase ≡ false = ap phase_compacts last.0 ∙ says.first in
      let added = task.read in
      record {
        left = left_of says.texts;
        after = task.after;
        cut = ap (λ l. next_field (Some l)) says.spelled ∙ word_again (codes "compact") says.texts (word_free kinds.Compact);
        read = rw (stop, begun, first) added;
        next_is = (λ i. at (task.script_is i) (task.in_block i)) ∙ sym says.adds;
      }

  pub clean_line_again : CleanLine (so_far_of st) number line next → IsRead (closed st) number line kinds.Clean next
  unfolding fields_line clean_line
  clean_line_again says =
      let stop = stop_again says.texts says.stop says.are_texts in
      let task = task_again (closed st) number (works.Clean says.stop) says.script kept_closed says.task in
      let begun : is_some st.phase ≡ true = task.begun in
      let added = task.read in
      record {
        left = left_of says.texts;
        after = task.after;
        cut = ap (λ l. next_field (Some l)) says.spelled ∙ word_again (codes "clean") says.texts (word_free kinds.Clean);
        read = rw (stop, begun) added;
        next_is = (λ i. at (task.script_is i) (task.in_block i)) ∙ sym says.adds;
      }

  pub query_line_again : QueryLine (so_far_of st) number line next → IsRead (closed st) number line kinds.Query next
  unfolding fields_line query_line question_at add_query
  query_line_again says =
      let low = says.is_low in
      let high = says.is_high in
      let rest : List ℕ = says.low_text ++ 32 ∷ (says.high_text ++ 32 ∷ says.selector_text) in
      let first = cut_again says.low_text (says.high_text ++ 32 ∷ says.selector_text) low.field.no_space in
      let second = cut_again says.high_text says.selector_text high.field.no_space in
      let some_low = is_some_field says.low_text low.field in
      let some_high = is_some_field says.high_text high.field in
      let some_selector = selector_some says.selector_text says.selector says.is_selector.is_text in
      let selector : selector_field st.rules.replicas says.selector_text ≡ Ok says.selector = selector_again st.rules.replicas says.selector_text says.selector says.is_selector in
      let read_low = time_again says.low_text says.low low.written (near_tested says.low low.near) in
      let read_high = time_again says.high_text says.high high.written (near_tested says.high high.near) in
      let times : int_lt says.high says.low ≡ false = not_before says.low says.high says.times in
      let synced : are_all_synced (closed st) ≡ true = range_passes (is_one_of st.synced) 0 (length st.gateways) (λ gateway from below. kept.tasks.are_synced gateway ∙ says.synced gateway (omega arith)) in
      let task = task_again (closed st) number (works.Query says.low says.high (length st.selectors)) says.script kept_closed says.task in
      let begun : is_some st.phase ≡ true = task.begun in
      let added = task.read in
      record {
        left = Some rest;
        after = record task.after { selectors = task.after.selectors ++ says.selector ∷ [] };
        cut = starts_again line kinds.Query rest says.spelled;
        read = rw (first, second, some_low, some_high, some_selector, read_low, read_high, begun, times, selector, synced, added) refl;
        next_is = (λ i. at (record (task.script_is i) { selectors = (task.script_is i).selectors ++ says.selector ∷ [] }) (task.in_block i)) ∙ sym says.adds;
      }
