-- The text of the generated day spells a script.
use Rattle.std.proofs.Common.{◌≡◌, ℕ, zero, suc, ◌+◌, ◌-◌, ◌*◌, ◌<◌, ◌≤◌, ◌^◌, pos, Bool, true, false, List, [], ◌∷◌, ◌++◌, length, None, refl, sym, subst, arith, codes, append-nil}
use Rattle.std.specs.List.{list_all, flat_map, range_with_len}
use Rattle.std.proofs.lemmas.List.{length-append}
use Rattle.base.specs.Decimal.{decimal_text}
use Rattle.ulid_core.specs.UlidText.{text_of}
use Rattle.ulid_core.proofs.UlidLaws.{length-text_of}
use Rattle.label_sets.specs.Notation.{is_name}
use Rattle.matchers.specs.declared.matcher.Matcher.{Matcher}
use Rattle.script_workers.specs.Hands.{hands_from, hands_of, hands_of_task, with_hands}
use Rattle.script_workers.specs.Works.{has_sync, works_in}
use Rattle.script_workers.specs.declared.phase.Phase.{Phase}
use Rattle.script_workers.specs.declared.task.Task.{Task}
use Rattle.script_workers.specs.declared.work.Work.TheVariants as works
use Rattle.script_fields.specs.Fields.{lines_of}
use Rattle.script_fields.specs.Limits.{longest_text}
use Rattle.script_core.specs.Spelling.{Say, SoFar, nothing}
use Rattle.script_core.specs.declared.block.Block.{Block}
use Rattle.generated_day.specs.Day.{all_blocks_text, all_rounds_text, all_uploads_text, at_line, block_start, cleaning_text, day_start, day_text, hours, look_text, minutes, phases_text, round_text, setup_text, ulid_of, upload_line, uploads_at}
use Rattle.generated_day.specs.Wanting.{IsShortScript}
use Rattle.generated_day.proofs.DayNumbers.{decimal_short}
use Rattle.generated_day.proofs.DayBlocks.{Ready, all_blocks_short, all_told, setup_tells, with_blocks}
use Rattle.generated_day.proofs.DayPhases.{Stands, at_tells, clean_tells, compact_tells, more_stand, none_stand, phase_of, query_tells, stand_later, state, sync_tells, upload_tells}
use Rattle.generated_day.proofs.Tells.{Tells, is_print, tells_both, tells_nothing}

-- ---- how many work

alone : (line : ℕ) (ulid : ℕ) → length (hands_of 2 (record { line = line; work = works.Upload ulid None } ∷ [])) ≡ 1
unfolding hands_from with_hands hands_of_task
alone line ulid = refl

both : (one two first second : ℕ) → length (hands_of 2 (record { line = one; work = works.Upload first None } ∷ record { line = two; work = works.Upload second None } ∷ [])) ≡ 2
unfolding hands_from with_hands hands_of_task
both one two first second = refl

compacts : (line : ℕ) → length (hands_of 2 (record { line = line; work = works.Compact None } ∷ [])) ≡ 1
unfolding hands_from with_hands hands_of_task
compacts line = refl

cleans : (line : ℕ) → length (hands_of 2 (record { line = line; work = works.Clean None } ∷ [])) ≡ 1
unfolding hands_from with_hands hands_of_task
cleans line = refl

-- the tasks of a look
abbrev pub looks : ℕ → ℕ → List Task
looks line selectors =
    record { line = line + 1; work = works.Sync 0 } ∷ record { line = line + 1 + 1; work = works.Sync 1 }
    ∷ record { line = line + 1 + 1 + 1; work = works.Query (pos 1_728_000_000_000) (pos 1_728_086_400_000) selectors }
    ∷ []

first_sync : (line : ℕ) → length (hands_of 2 (record { line = line; work = works.Sync 0 } ∷ [])) ≡ 1
unfolding hands_from with_hands hands_of_task
first_sync line = refl

both_sync : (line other : ℕ) → length (hands_of 2 (record { line = line; work = works.Sync 0 } ∷ record { line = other; work = works.Sync 1 } ∷ [])) ≡ 2
unfolding hands_from with_hands hands_of_task
both_sync line other = refl

they_look : (line selectors : ℕ) → length (hands_of 2 (looks line selectors)) ≡ 2
unfolding hands_from with_hands hands_of_task
they_look line selectors = refl

synced : (line other gateway : ℕ) → gateway < 2 → has_sync (works_in (record { line = line; work = works.Sync 0 } ∷ record { line = other; work = works.Sync 1 } ∷ [])) gateway ≡ true
synced line other zero few = refl
synced line other (suc zero) few = refl
synced line other (suc (suc gateway)) few = absurd (omega (arith, few))

name_one : is_name (codes "g1") ≡ true
unfolding is_name
name_one = refl

name_two : is_name (codes "g2") ≡ true
unfolding is_name
name_two = refl

prints_one : list_all is_print (codes "sync g1") ≡ true
prints_one = refl

prints_two : list_all is_print (codes "sync g2") ≡ true
prints_two = refl

module _ (blocks : List Block) (ready : Ready blocks 24) where
  -- Lines lead to phases that end no later than a moment, with so many tasks.
  record Goes (before : SoFar) (line : ℕ) (text : List ℕ) (moment tasks : ℕ) : Type 0 where
    flag : Bool
    selectors : List (List Matcher)
    phases : List Phase
    next : ℕ
    tells : Tells before line text (state blocks ready flag selectors phases) next
    stands : Stands phases moment tasks

  -- what goes on from any phases that stand so
  abbrev GoesOn : List ℕ → ℕ → ℕ → ℕ → ℕ → Type 0
  GoesOn text last done moment tasks =
      (flag : Bool) (selectors : List (List Matcher)) (phases : List Phase) (line : ℕ) → Stands phases last done → Goes (state blocks ready flag selectors phases) line text moment tasks

  go_both : (front text : List ℕ) (last done middle more moment tasks : ℕ) → GoesOn front last done middle more → GoesOn text middle more moment tasks → GoesOn (front ++ text) last done moment tasks
  go_both front text last done middle more moment tasks one two flag selectors phases line stands =
      let first = one flag selectors phases line stands in
      let second = two first.flag first.selectors first.phases first.next first.stands in
      record {
        flag = second.flag;
        selectors = second.selectors;
        phases = second.phases;
        next = second.next;
        tells = tells_both (state blocks ready flag selectors phases) (state blocks ready first.flag first.selectors first.phases) (state blocks ready second.flag second.selectors second.phases) line first.next second.next front text first.tells second.tells;
        stands = second.stands;
      }

  go_nowhere : (last done moment tasks : ℕ) → last ≤ moment → done ≡ tasks → GoesOn [] last done moment tasks
  go_nowhere last done moment tasks later same flag selectors phases line stands = record {
    flag = flag;
    selectors = selectors;
    phases = phases;
    next = line;
    tells = tells_nothing (state blocks ready flag selectors phases) line;
    stands = subst (Stands phases moment) same (stand_later phases last moment done later stands);
  }

  uploads_go : (block last done : ℕ) → block < 12 → last ≤ block_start (block + 1) → done ≤ 100 → GoesOn (uploads_at block) last done (block_start (block + 1)) (done + 2)
  unfolding uploads_at
  uploads_go block last done early later few flag selectors phases line stands =
      let moment : ℕ = block_start (block + 1) in
      let begun = phases ++ phase_of blocks ready line moment [] ∷ [] in
      let one_task : Task = record { line = line + 1; work = works.Upload (ulid_of block 0) None } in
      let two_task : Task = record { line = line + 1 + 1; work = works.Upload (ulid_of block 1) None } in
      let one = phases ++ phase_of blocks ready line moment (one_task ∷ []) ∷ [] in
      let two = phases ++ phase_of blocks ready line moment (one_task ∷ two_task ∷ []) ∷ [] in
      let at = at_tells blocks ready selectors phases flag line moment last done stands later (omega (arith, early)) in
      let first = upload_tells blocks ready selectors phases line moment [] (line + 1) done stands.few (omega (arith, few)) block 0 early (omega arith) (omega (arith, alone (line + 1) (ulid_of block 0))) in
      let second = upload_tells blocks ready selectors phases line moment (one_task ∷ []) (line + 1 + 1) done stands.few (omega (arith, few)) block 1 early (omega arith) (omega (arith, both (line + 1) (line + 1 + 1) (ulid_of block 0) (ulid_of block 1))) in
      record {
        flag = false;
        selectors = selectors;
        phases = two;
        next = line + 1 + 1 + 1;
        tells = tells_both (state blocks ready flag selectors phases) (state blocks ready false selectors one) (state blocks ready false selectors two) line (line + 1 + 1) (line + 1 + 1 + 1) (at_line moment ++ upload_line block 0) (upload_line block 1) (tells_both (state blocks ready flag selectors phases) (state blocks ready false selectors begun) (state blocks ready false selectors one) line (line + 1) (line + 1 + 1) (at_line moment) (upload_line block 0) at first) second;
        stands = more_stand phases (phase_of blocks ready line moment (one_task ∷ two_task ∷ [])) last done stands;
      }

  all_uploads_go : (block count : ℕ) → block + count ≡ 12 → GoesOn (flat_map uploads_at (range_with_len block count)) (block_start block) (2 * block) (block_start 12) 24
  all_uploads_go block zero all = go_nowhere (block_start block) (2 * block) (block_start 12) 24 (omega (arith, all)) (omega (arith, all))
  all_uploads_go block (suc count) all =
      let more : 2 * block + 2 ≡ 2 * (block + 1) = omega arith in
      go_both (uploads_at block) (flat_map uploads_at (range_with_len (block + 1) count)) (block_start block) (2 * block) (block_start (block + 1)) (2 * (block + 1)) (block_start 12) 24 (subst (GoesOn (uploads_at block) (block_start block) (2 * block) (block_start (block + 1))) more (uploads_go block (block_start block) (2 * block) (omega (arith, all)) (omega arith) (omega (arith, all)))) (all_uploads_go (block + 1) count (omega (arith, all)))

  look_goes : (moment last done : ℕ) → last ≤ moment → moment < 2 ^ 42 → done ≤ 100 → GoesOn (look_text moment) last done moment (done + 3)
  unfolding look_text
  look_goes moment last done later below few flag selectors phases line stands =
      let begun = phases ++ phase_of blocks ready line moment [] ∷ [] in
      let one_task : Task = record { line = line + 1; work = works.Sync 0 } in
      let two_task : Task = record { line = line + 1 + 1; work = works.Sync 1 } in
      let one = phases ++ phase_of blocks ready line moment (one_task ∷ []) ∷ [] in
      let two = phases ++ phase_of blocks ready line moment (one_task ∷ two_task ∷ []) ∷ [] in
      let three = phases ++ phase_of blocks ready line moment (looks line (length selectors)) ∷ [] in
      let asked = selectors ++ [] ∷ [] in
      let at = at_tells blocks ready selectors phases flag line moment last done stands later below in
      let first = sync_tells blocks ready selectors phases line moment [] (line + 1) done stands.few (omega (arith, few)) (codes "g1") 0 (record { some = λ e. cc; no_space = refl }) name_one refl prints_one (omega (arith, first_sync (line + 1))) in
      let second = sync_tells blocks ready selectors phases line moment (one_task ∷ []) (line + 1 + 1) done stands.few (omega (arith, few)) (codes "g2") 1 (record { some = λ e. cc; no_space = refl }) name_two refl prints_two (omega (arith, both_sync (line + 1) (line + 1 + 1))) in
      let third = query_tells blocks ready selectors phases line moment (one_task ∷ two_task ∷ []) (line + 1 + 1 + 1) done stands.few (omega (arith, few)) (synced (line + 1) (line + 1 + 1)) (omega (arith, they_look line (length selectors))) in
      let questions = tells_both (state blocks ready false selectors one) (state blocks ready false selectors two) (state blocks ready false asked three) (line + 1 + 1) (line + 1 + 1 + 1) (line + 1 + 1 + 1 + 1) (codes "sync g2\n") (codes "query 1728000000000 1728086400000 {}\n") second third in
      let all = tells_both (state blocks ready false selectors begun) (state blocks ready false selectors one) (state blocks ready false asked three) (line + 1) (line + 1 + 1) (line + 1 + 1 + 1 + 1) (codes "sync g1\n") (codes "sync g2\nquery 1728000000000 1728086400000 {}\n") first questions in
      record {
        flag = false;
        selectors = asked;
        phases = three;
        next = line + 1 + 1 + 1 + 1;
        tells = tells_both (state blocks ready flag selectors phases) (state blocks ready false selectors begun) (state blocks ready false asked three) line (line + 1) (line + 1 + 1 + 1 + 1) (at_line moment) (codes "sync g1\nsync g2\nquery 1728000000000 1728086400000 {}\n") at all;
        stands = more_stand phases (phase_of blocks ready line moment (looks line (length selectors))) last done stands;
      }

  round_goes : (round last done : ℕ) → 1 ≤ round → round ≤ 15 → last ≤ day_start + hours 25 + minutes round → done ≤ 100 → GoesOn (round_text round) last done (day_start + hours 25 + minutes round) (done + 1)
  unfolding round_text
  round_goes round last done some early later few flag selectors phases line stands =
      let moment : ℕ = day_start + hours 25 + minutes round in
      let begun = phases ++ phase_of blocks ready line moment [] ∷ [] in
      let task : Task = record { line = line + 1; work = works.Compact None } in
      let one = phases ++ phase_of blocks ready line moment (task ∷ []) ∷ [] in
      let at = at_tells blocks ready selectors phases flag line moment last done stands later (omega (arith, early)) in
      let first = compact_tells blocks ready selectors phases line moment [] (line + 1) done stands.few (omega (arith, few)) refl (omega (arith, compacts (line + 1))) in
      record {
        flag = false;
        selectors = selectors;
        phases = one;
        next = line + 1 + 1;
        tells = tells_both (state blocks ready flag selectors phases) (state blocks ready false selectors begun) (state blocks ready false selectors one) line (line + 1) (line + 1 + 1) (at_line moment) (codes "compact\n") at first;
        stands = more_stand phases (phase_of blocks ready line moment (task ∷ [])) last done stands;
      }

  all_rounds_go : (round count done : ℕ) → 1 ≤ round → round + count ≡ 16 → done + count ≡ 42 → GoesOn (flat_map round_text (range_with_len round count)) (day_start + hours 25 + minutes (round - 1)) done (day_start + hours 26) 42
  all_rounds_go round zero done some all tasks =
      go_nowhere (day_start + hours 25 + minutes (round - 1)) done (day_start + hours 26) 42 (omega (arith, all)) (omega (arith, tasks))
  all_rounds_go round (suc count) done some all tasks =
      let back : round ≡ round + 1 - 1 = omega arith in
      let one = round_goes round (day_start + hours 25 + minutes (round - 1)) done some (omega (arith, all)) (omega (arith, some)) (omega (arith, tasks)) in
      go_both (round_text round) (flat_map round_text (range_with_len (round + 1) count)) (day_start + hours 25 + minutes (round - 1)) done (day_start + hours 25 + minutes round) (done + 1) (day_start + hours 26) 42 one (subst (λ r. GoesOn (flat_map round_text (range_with_len (round + 1) count)) (day_start + hours 25 + minutes r) (done + 1) (day_start + hours 26) 42) (sym back) (all_rounds_go (round + 1) count (done + 1) (omega arith) (omega (arith, all)) (omega (arith, tasks))))

  cleaning_goes : (last done : ℕ) → last ≤ day_start + hours 74 → done ≤ 100 → GoesOn cleaning_text last done (day_start + hours 74) (done + 1)
  unfolding cleaning_text
  cleaning_goes last done later few flag selectors phases line stands =
      let moment : ℕ = day_start + hours 74 in
      let begun = phases ++ phase_of blocks ready line moment [] ∷ [] in
      let task : Task = record { line = line + 1; work = works.Clean None } in
      let one = phases ++ phase_of blocks ready line moment (task ∷ []) ∷ [] in
      let at = at_tells blocks ready selectors phases flag line moment last done stands later (omega arith) in
      let first = clean_tells blocks ready selectors phases line moment [] (line + 1) done stands.few (omega (arith, few)) (omega (arith, cleans (line + 1))) in
      record {
        flag = false;
        selectors = selectors;
        phases = one;
        next = line + 1 + 1;
        tells = tells_both (state blocks ready flag selectors phases) (state blocks ready false selectors begun) (state blocks ready false selectors one) line (line + 1) (line + 1 + 1) (at_line moment) (codes "clean\n") at first;
        stands = more_stand phases (phase_of blocks ready line moment (task ∷ [])) last done stands;
      }

  phases_go : GoesOn phases_text (block_start 0) 0 (day_start + hours 74 + minutes 1) 49
  unfolding phases_text all_uploads_text all_rounds_text
  phases_go =
      let first = look_goes (day_start + hours 25) (block_start 12) 24 (omega arith) (omega arith) (omega arith) in
      let second = look_goes (day_start + hours 26) (day_start + hours 26) 42 (omega arith) (omega arith) (omega arith) in
      let third = look_goes (day_start + hours 74 + minutes 1) (day_start + hours 74) 46 (omega arith) (omega arith) (omega arith) in
      go_both (all_uploads_text ++ look_text (day_start + hours 25) ++ all_rounds_text ++ look_text (day_start + hours 26) ++ cleaning_text) (look_text (day_start + hours 74 + minutes 1)) (block_start 0) 0 (day_start + hours 74) 46 (day_start + hours 74 + minutes 1) 49 (go_both (all_uploads_text ++ look_text (day_start + hours 25) ++ all_rounds_text ++ look_text (day_start + hours 26)) cleaning_text (block_start 0) 0 (day_start + hours 26) 45 (day_start + hours 74) 46 (go_both (all_uploads_text ++ look_text (day_start + hours 25) ++ all_rounds_text) (look_text (day_start + hours 26)) (block_start 0) 0 (day_start + hours 26) 42 (day_start + hours 26) 45 (go_both (all_uploads_text ++ look_text (day_start + hours 25)) all_rounds_text (block_start 0) 0 (day_start + hours 25) 27 (day_start + hours 26) 42 (go_both all_uploads_text (look_text (day_start + hours 25)) (block_start 0) 0 (block_start 12) 24 (day_start + hours 25) 27 (all_uploads_go 0 12 refl) first) (all_rounds_go 1 15 27 (omega arith) refl refl)) second) (cleaning_goes (day_start + hours 26) 45 (omega arith) (omega arith))) third

-- ---- the whole

at_short : (moment : ℕ) → moment < 2 ^ 42 → length (at_line moment) ≤ 18
unfolding at_line
at_short moment small =
    omega (arith, decimal_short moment small, length-append (codes "at ") (decimal_text moment), length-append (codes "at " ++ decimal_text moment) (codes "\n"))

upload_short : (block replica : ℕ) → length (upload_line block replica) ≤ 34
unfolding upload_line
upload_short block replica =
    let text = text_of (ulid_of block replica) in
    omega (arith, length-text_of (ulid_of block replica), length-append (codes "upload ") text, length-append (codes "upload " ++ text) (codes "\n"))

uploads_short : (block count : ℕ) → block + count ≤ 12 → length (flat_map uploads_at (range_with_len block count)) ≤ 86 * count
unfolding uploads_at
uploads_short block zero few = omega arith
uploads_short block (suc count) few =
    let moment : ℕ = block_start (block + 1) in
    omega (
      arith,
      length-append (uploads_at block) (flat_map uploads_at (range_with_len (block + 1) count)),
      length-append (at_line moment) (upload_line block 0),
      length-append (at_line moment ++ upload_line block 0) (upload_line block 1),
      at_short moment (omega (arith, few)),
      upload_short block 0,
      upload_short block 1,
      uploads_short (block + 1) count (omega (arith, few)),
    )

rounds_short : (round count : ℕ) → round + count ≤ 16 → length (flat_map round_text (range_with_len round count)) ≤ 26 * count
unfolding round_text
rounds_short round zero few = omega arith
rounds_short round (suc count) few =
    let moment : ℕ = day_start + hours 25 + minutes round in
    omega (
      arith,
      length-append (round_text round) (flat_map round_text (range_with_len (round + 1) count)),
      length-append (at_line moment) (codes "compact\n"),
      at_short moment (omega (arith, few)),
      rounds_short (round + 1) count (omega (arith, few)),
    )

look_short : (moment : ℕ) → moment < 2 ^ 42 → length (look_text moment) ≤ 100
unfolding look_text
look_short moment small =
    omega (arith, at_short moment small, length-append (at_line moment) (codes "sync g1\nsync g2\nquery 1728000000000 1728086400000 {}\n"))

cleaning_short : length cleaning_text ≤ 30
unfolding cleaning_text
cleaning_short =
    omega (arith, at_short (day_start + hours 74) (omega arith), length-append (at_line (day_start + hours 74)) (codes "clean\n"))

phases_short : length phases_text ≤ 100_000
unfolding phases_text all_uploads_text all_rounds_text
phases_short =
    let one : List ℕ = all_uploads_text ++ look_text (day_start + hours 25) in
    let two : List ℕ = one ++ all_rounds_text in
    let three : List ℕ = two ++ look_text (day_start + hours 26) in
    let four : List ℕ = three ++ cleaning_text in
    omega (
      arith,
      uploads_short 0 12 (omega arith),
      rounds_short 1 15 (omega arith),
      look_short (day_start + hours 25) (omega arith),
      look_short (day_start + hours 26) (omega arith),
      look_short (day_start + hours 74 + minutes 1) (omega arith),
      cleaning_short,
      length-append all_uploads_text (look_text (day_start + hours 25)),
      length-append one all_rounds_text,
      length-append two (look_text (day_start + hours 26)),
      length-append three cleaning_text,
      length-append four (look_text (day_start + hours 74 + minutes 1)),
    )

day_short : (number : ℕ) → 2 * length (day_text number) ≤ longest_text
unfolding day_text setup_text
day_short number =
    omega (arith, length-append (setup_text ++ all_blocks_text number) phases_text, length-append setup_text (all_blocks_text number), all_blocks_short number, phases_short)

pub day_spells : (number : ℕ) → IsShortScript (day_text number)
unfolding day_text
day_spells number =
    let told = all_told number in
    let blocks = told.blocks in
    let phases = phases_go blocks told.ready told.in_block [] [] 2_428 (stand_later [] 0 (block_start 0) 0 (omega arith) none_stand) in
    let last = state blocks told.ready phases.flag phases.selectors phases.phases in
    let tells : Tells nothing 1 (day_text number) last phases.next = tells_both nothing (with_blocks blocks told.in_block) last 1 2_428 phases.next (setup_text ++ all_blocks_text number) phases_text (tells_both nothing (with_blocks [] false) (with_blocks blocks told.in_block) 1 4 2_428 setup_text (all_blocks_text number) setup_tells told.tells) phases.tells in
    record {
      script = last.script;
      spelled = record {
        short = omega (arith, day_short number);
        in_block = phases.flag;
        lines = subst (λ t. Say nothing 1 (lines_of t) last) (append-nil (day_text number)) (tells [] last refl);
        ended = told.ready.ended;
      };
      short = day_short number;
    }
