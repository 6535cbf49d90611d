-- The phases of the generated day.
use Rattle.std.proofs.Common.{◌≡◌, ℕ, ◌+◌, ◌<◌, ◌≤◌, ◌^◌, pos, Bool, true, false, ◌||◌, nat_le, List, [], ◌∷◌, ◌++◌, length, None, Some, inl, inr, refl, sym, ap, ◌∙◌, subst, arith, codes, append-nil}
use Rattle.std.specs.List.{list_all, list_any}
use Rattle.std.proofs.lemmas.Bool.Decides.{nat_tests}
use Rattle.std.proofs.lemmas.Grind.{flat_map-append}
use Rattle.std.proofs.lemmas.Int.{ints}
use Rattle.std.proofs.lemmas.List.{length-append, length-map, same_from_push}
use Rattle.std.proofs.lemmas.List.Elements.{All-nil}
use Rattle.std.proofs.lemmas.List.Folds.{list_any-append}
use Rattle.base.specs.Decimal.{decimal_text, is_decimal}
use Rattle.base.specs.ShortNumber.{is_number}
use Rattle.base.proofs.Decimals.{decimal_again, decimal_digits, decimal_found}
use Rattle.ulid_core.specs.UlidText.{text_of}
use Rattle.moment_core.specs.MomentText.{IsMomentText}
use Rattle.matchers.specs.SelectorRefusals.{IsReadable}
use Rattle.matchers.specs.declared.matcher.Matcher.{Matcher}
use Rattle.script_workers.specs.Hands.{hands_of}
use Rattle.script_workers.specs.Works.{has_compaction, has_sync, is_sync_of, works_in, works_of}
use Rattle.script_workers.specs.declared.phase.Phase.{Phase}
use Rattle.script_workers.specs.declared.task.Task.{Task}
use Rattle.script_workers.specs.declared.work.Work.{Work}
use Rattle.script_workers.specs.declared.work.Work.TheVariants as works
use Rattle.script_workers.proofs.HandLaws.{few_spelled}
use Rattle.script_fields.specs.Limits.{most_tasks}
use Rattle.script_core.specs.Spelling.{AddsTask, AtLine, CleanLine, CompactLine, HasEnded, IsField, IsTimeText, QueryLine, SoFar, SyncLine, UploadLine, no_stop}
use Rattle.script_core.specs.Spelling as spelling
use Rattle.script_core.specs.declared.block.Block.{Block}
use Rattle.script_core.specs.declared.script.Script.{Script}
use Rattle.std.specs.Str.{bytes_eq}
use Rattle.std.specs.Prelude.{position}
use Rattle.base.specs.Lines.{line_feed}
use Rattle.label_sets.specs.Notation.{is_name}
use Rattle.script_core.proofs.Kept.{works_of-append}
use Rattle.script_core.proofs.SampleSigns.{all_joined}
use Rattle.script_core.proofs.SpelledValues.{agree_spelled}
use Rattle.generated_day.specs.Day.{at_line, ulid_of, upload_line}
use Rattle.generated_day.proofs.DayNumbers.{decimal_short}
use Rattle.generated_day.proofs.DayBlocks.{Ready, day_gateways, day_rules, decimal_field, digits_print, is_ulid, setup, time_text, ulid_prints}
use Rattle.generated_day.proofs.Tells.{Tells, is_print, speaks, tells_line}
use Rattle.base.proofs.Bools.{or_true}
use Rattle.base.proofs.Lists.{pushed_not_nil}

-- ---- moments

moment_number : (moment : ℕ) → moment < 2 ^ 42 → is_number 15 (decimal_text moment) ≡ true
moment_number moment small =
    let digits = decimal_digits (decimal_text moment) (decimal_again moment).0 in
    let some = digits.0 in
    let few = decimal_short moment small in
    let low : nat_le 1 (length (decimal_text moment)) ≡ true = grind (arith, nat_tests) in
    let high : nat_le (length (decimal_text moment)) 15 ≡ true = grind (arith, nat_tests) in
    let all = digits.1 in
    rw (low, high, all) refl

moment_text : (moment : ℕ) → moment < 2 ^ 42 → IsMomentText (decimal_text moment) moment
moment_text moment small =
    let number = moment_number moment small in
    record { below = omega (arith, small); written = rw number (sym (decimal_again moment).1) }

-- ---- the phases so far

-- They end no later than this moment, and have no more tasks.
pub record Stands (phases : List Phase) (moment tasks : ℕ) : Type 0 where
  pub not_late : (others : List Phase) (last : Phase) → phases ≡ others ++ last ∷ [] → last.moment.ms ≤ moment
  pub few : length (works_of phases) ≤ tasks

pub none_stand : Stands [] 0 0
none_stand = record { not_late = λ others last is. absurd (pushed_not_nil others last (sym is)); few = omega arith }

works_more : (phases : List Phase) (phase : Phase) → length (works_of (phases ++ phase ∷ [])) ≡ length (works_of phases) + length phase.tasks
works_more phases phase =
    ap (length {A = Work}) (flat_map-append (λ (p : Phase). works_in p.tasks) phases (phase ∷ [])) ∙ length-append (works_of phases) (works_in phase.tasks ++ [])
    ∙ ap (λ n. length (works_of phases) + n) (ap (length {A = Work}) (append-nil (works_in phase.tasks)) ∙ length-map phase.tasks (λ (task : Task). task.work))

pub more_stand : (phases : List Phase) (phase : Phase) (last tasks : ℕ) → Stands phases last tasks → Stands (phases ++ phase ∷ []) phase.moment.ms (tasks + length phase.tasks)
more_stand phases phase last tasks stands = record {
  not_late = λ others late is.
      let same = same_from_push phases others phase late is in
      let moments : phase.moment.ms ≡ late.moment.ms = ap (λ (p : Phase). p.moment.ms) same.1 in
      omega (arith, moments);
  few = omega (arith, works_more phases phase, stands.few);
}

pub stand_later : (phases : List Phase) (one other tasks : ℕ) → one ≤ other → Stands phases one tasks → Stands phases other tasks
stand_later phases one other tasks later stands =
    record { not_late = λ others last is. omega (arith, stands.not_late others last is, later); few = stands.few }

at_prints : (moment : ℕ) → list_all is_print (codes "at " ++ decimal_text moment) ≡ true
at_prints moment = all_joined is_print (codes "at ") (decimal_text moment) refl (digits_print moment)

upload_prints : (block replica : ℕ) → block < 12 → replica < 2 → list_all is_print (codes "upload " ++ text_of (ulid_of block replica)) ≡ true
upload_prints block replica early two =
    all_joined is_print (codes "upload ") (text_of (ulid_of block replica)) refl (ulid_prints 0 block replica early two)

-- ---- the times and the selector of the queries

low_text : decimal_text 1_728_000_000_000 ≡ codes "1728000000000"
unfolding is_decimal
low_text = decimal_found (codes "1728000000000") refl

high_text : decimal_text 1_728_086_400_000 ≡ codes "1728086400000"
unfolding is_decimal
high_text = decimal_found (codes "1728086400000") refl

is_low : IsTimeText (codes "1728000000000") (pos 1_728_000_000_000)
is_low = subst (λ t. IsTimeText t (pos 1_728_000_000_000)) low_text (time_text 1_728_000_000_000 (omega arith))

is_high : IsTimeText (codes "1728086400000") (pos 1_728_086_400_000)
is_high = subst (λ t. IsTimeText t (pos 1_728_086_400_000)) high_text (time_text 1_728_086_400_000 (omega arith))

reads_all : (replicas : List (List ℕ)) → IsReadable (codes "{}") replicas []
reads_all replicas = record {
  is_text = inr (record { metric = []; matchers = []; inside = []; written = refl; is_metric = inl refl; listed = inl refl; named = All-nil _; selector_is = refl });
  lawful = refl;
  no_replica = refl;
}

module _ (blocks : List Block) (ready : Ready blocks 24) where
  -- the script with these selectors and phases
  abbrev pub with_phases : List (List Matcher) → List Phase → Script
  with_phases selectors phases = record (setup blocks) { selectors = selectors; phases = phases }

  abbrev pub state : Bool → List (List Matcher) → List Phase → SoFar
  state flag selectors phases = record { script = with_phases selectors phases; in_block = flag }

  abbrev pub phase_of : ℕ → ℕ → List Task → Phase
  phase_of line moment tasks = record { line = line; moment = record { ms = moment }; tasks = tasks }

  still_ended : (flag : Bool) (selectors : List (List Matcher)) (phases : List Phase) → HasEnded (state flag selectors phases).script.blocks
  still_ended flag selectors phases = ready.ended

  module _ (selectors : List (List Matcher)) (phases : List Phase) (flag : Bool) (line moment last tasks : ℕ) (stands : Stands phases last tasks) where
    at_says : last ≤ moment → moment < 2 ^ 42 → AtLine (state flag selectors phases) line (codes "at " ++ decimal_text moment) (state false selectors (phases ++ phase_of line moment [] ∷ []))
    at_says not_before below = record {
      text = decimal_text moment;
      moment = moment;
      spelled = refl;
      field = decimal_field moment;
      is_moment = moment_text moment below;
      first = λ early. agree_spelled day_rules refl;
      later = λ others late is. omega (arith, stands.not_late others late is, not_before);
      adds = refl;
    }

    pub at_tells : last ≤ moment → moment < 2 ^ 42 → Tells (state flag selectors phases) line (at_line moment) (state false selectors (phases ++ phase_of line moment [] ∷ [])) (line + 1)
    unfolding at_line
    at_tells not_before below =
        tells_line (state flag selectors phases) (state false selectors (phases ++ phase_of line moment [] ∷ [])) line (codes "at " ++ decimal_text moment) (speaks 97 (codes "t " ++ decimal_text moment) refl) (at_prints moment) (spelling.at (still_ended flag selectors phases) (at_says not_before below))

  -- ---- tasks

  module _ (selectors : List (List Matcher)) (phases : List Phase) (start moment : ℕ) (done : List Task) (line count : ℕ) (stands : length (works_of phases) ≤ count) (small : count + length done < most_tasks) where
    abbrev pub now : SoFar
    now = state false selectors (phases ++ phase_of start moment done ∷ [])

    abbrev pub with_task : Work → List Phase
    with_task work = phases ++ phase_of start moment (done ++ record { line = line; work = work } ∷ []) ∷ []

    module _ (work : Work) (hands : length (hands_of 2 (done ++ record { line = line; work = work } ∷ [])) ≤ 64) where
      adds_task : AddsTask (with_phases selectors (phases ++ phase_of start moment done ∷ [])) line work (with_phases selectors (with_task work))
      adds_task = record {
        others = phases;
        phase = phase_of start moment done;
        last = refl;
        few = omega (arith, works_more phases (phase_of start moment done), stands, small);
        few_workers = few_spelled 2 (done ++ record { line = line; work = work } ∷ []) hands;
        adds = refl;
      }

    pub upload_tells : (block replica : ℕ) → block < 12 → replica < 2 → length (hands_of 2 (done ++ record { line = line; work = works.Upload (ulid_of block replica) None } ∷ [])) ≤ 64 → Tells now line (upload_line block replica) (state false selectors (with_task (works.Upload (ulid_of block replica) None))) (line + 1)
    unfolding upload_line
    upload_tells block replica early two hands =
        let ulid = ulid_of block replica in
        let work = works.Upload ulid None in
        let says : UploadLine now line (codes "upload " ++ text_of ulid) (state false selectors (with_task work)) = record { text = text_of ulid; ulid = ulid; texts = []; stop = None; spelled = refl; is_ulid = is_ulid 0 block replica early two; are_texts = no_stop refl refl; declared = ready.there block replica (omega (arith, early, two)) two; script = with_phases selectors (with_task work); task = adds_task work hands; adds = refl } in
        tells_line now (state false selectors (with_task work)) line (codes "upload " ++ text_of ulid) (speaks 117 (codes "pload " ++ text_of ulid) refl) (upload_prints block replica early two) (spelling.upload (still_ended false selectors (phases ++ phase_of start moment done ∷ [])) says)

    pub sync_tells : (name : List ℕ) (gateway : ℕ) → IsField name → is_name name ≡ true → position (λ one. bytes_eq one name) day_gateways ≡ Some gateway → list_all is_print (codes "sync " ++ name) ≡ true → length (hands_of 2 (done ++ record { line = line; work = works.Sync gateway } ∷ [])) ≤ 64 → Tells now line ((codes "sync " ++ name) ++ line_feed ∷ []) (state false selectors (with_task (works.Sync gateway))) (line + 1)
    sync_tells name gateway field named declared print hands =
        let work = works.Sync gateway in
        let says : SyncLine now line (codes "sync " ++ name) (state false selectors (with_task work)) = record { name = name; gateway = gateway; spelled = refl; field = field; is_name = named; declared = declared; script = with_phases selectors (with_task work); task = adds_task work hands; adds = refl } in
        tells_line now (state false selectors (with_task work)) line (codes "sync " ++ name) (speaks 115 (codes "ync " ++ name) refl) print (spelling.sync (still_ended false selectors (phases ++ phase_of start moment done ∷ [])) says)

    pub query_tells : ((gateway : ℕ) → gateway < 2 → has_sync (works_in done) gateway ≡ true) → length (hands_of 2 (done ++ record { line = line; work = works.Query (pos 1_728_000_000_000) (pos 1_728_086_400_000) (length selectors) } ∷ [])) ≤ 64 → Tells now line (codes "query 1728000000000 1728086400000 {}\n") (state false (selectors ++ [] ∷ []) (with_task (works.Query (pos 1_728_000_000_000) (pos 1_728_086_400_000) (length selectors)))) (line + 1)
    query_tells synced hands =
        let work = works.Query (pos 1_728_000_000_000) (pos 1_728_086_400_000) (length selectors) in
        let says : QueryLine now line (codes "query 1728000000000 1728086400000 {}") (state false (selectors ++ [] ∷ []) (with_task work)) = record { low_text = codes "1728000000000"; high_text = codes "1728086400000"; selector_text = codes "{}"; low = pos 1_728_000_000_000; high = pos 1_728_086_400_000; selector = []; spelled = refl; is_low = is_low; is_high = is_high; is_selector = reads_all day_rules.replicas; times = grind (arith, ints); synced = λ gateway few. ap (list_any (is_sync_of gateway)) (works_of-append phases (phase_of start moment done)) ∙ list_any-append (is_sync_of gateway) (works_of phases) (works_in done) ∙ ap (λ b. list_any (is_sync_of gateway) (works_of phases) || b) (synced gateway few) ∙ or_true (list_any (is_sync_of gateway) (works_of phases)); script = with_phases selectors (with_task work); task = adds_task work hands; adds = refl } in
        tells_line now (state false (selectors ++ [] ∷ []) (with_task work)) line (codes "query 1728000000000 1728086400000 {}") refl refl (spelling.query (still_ended false selectors (phases ++ phase_of start moment done ∷ [])) says)

    pub compact_tells : done ≡ [] → length (hands_of 2 (done ++ record { line = line; work = works.Compact None } ∷ [])) ≤ 64 → Tells now line (codes "compact\n") (state false selectors (with_task (works.Compact None))) (line + 1)
    unfolding adds_task
    compact_tells none hands =
        let work = works.Compact None in
        let says : CompactLine now line (codes "compact") (state false selectors (with_task work)) = record { texts = []; stop = None; spelled = refl; are_texts = no_stop refl refl; script = with_phases selectors (with_task work); task = adds_task work hands; first = ap has_compaction none; adds = refl } in
        tells_line now (state false selectors (with_task work)) line (codes "compact") refl refl (spelling.compact (still_ended false selectors (phases ++ phase_of start moment done ∷ [])) says)

    pub clean_tells : length (hands_of 2 (done ++ record { line = line; work = works.Clean None } ∷ [])) ≤ 64 → Tells now line (codes "clean\n") (state false selectors (with_task (works.Clean None))) (line + 1)
    clean_tells hands =
        let work = works.Clean None in
        let says : CleanLine now line (codes "clean") (state false selectors (with_task work)) = record { texts = []; stop = None; spelled = refl; are_texts = no_stop refl refl; script = with_phases selectors (with_task work); task = adds_task work hands; adds = refl } in
        tells_line now (state false selectors (with_task work)) line (codes "clean") refl refl (spelling.clean (still_ended false selectors (phases ++ phase_of start moment done ∷ [])) says)
