-- What the state of the lines so far keeps beside the script so far.
use Rattle.std.proofs.Common.{◌≡◌, ◌≢◌, ℕ, ◌+◌, suc, Bool, true, false, ◌==◌, ◌||◌, cond, List, [], ◌∷◌, ◌++◌, length, Option, Some, None, option_map, Ok, refl, sym, ap, ◌∙◌, subst, arith, append-nil, append_assoc}
use Rattle.std.specs.List.{All, list_any}
use Rattle.std.proofs.lemmas.List.Elements.{All-nil, All-push}
use Rattle.std.specs.Ordering.{is_eq, match_ordering, nat_cmp}
use Rattle.std.specs.declared.cmp.Ordering.{Ordering}
use Rattle.std.specs.declared.cmp.Ordering.TheVariants.{Less, Equal, Greater}
use Rattle.std.specs.BTreeMap.{is_at}
use Rattle.std.specs.BTreeSet.{insert_key}
use Rattle.std.proofs.Math.Bool.{or-false, or_assoc, or_comm}
use Rattle.std.proofs.lemmas.Bool.Decides.{nat_tests}
use Rattle.std.proofs.lemmas.Option.{same_Some}
use Rattle.std.proofs.lemmas.List.{length-append, map-append}
use Rattle.std.proofs.lemmas.List.Concat.{flat_map-append}
use Rattle.std.proofs.lemmas.List.Folds.{list_any-append}
use Rattle.std.specs.List.Sorted.{IsStrictlySortedBy}
use Rattle.label_sets.specs.Labels.{compare_sets}
use Rattle.label_sets.specs.declared.series.Series.{Series}
use Rattle.moment_core.specs.declared.moment.Moment.{Moment}
use Rattle.base.proofs.Bools.{same-from_Equal}
use Rattle.base.proofs.Order.{sorted_nil}
use Rattle.base.specs.Lists.{is_one_of}
use Rattle.script_core.specs.declared.block.Block.{Block}
use Rattle.script_core.specs.declared.body.Body.TheVariants.{OnShelf}
use Rattle.script_workers.specs.declared.hand.Hand.{Hand}
use Rattle.script_workers.specs.declared.phase.Phase.{Phase}
use Rattle.script_core.specs.declared.script.Script.{Script}
use Rattle.script_workers.specs.declared.task.Task.{Task}
use Rattle.script_workers.specs.declared.work.Work.{Work}
use Rattle.script_workers.specs.Hands.{gateway_count, with_hands, hands_of, hands_from}
use Rattle.script_core.specs.State.{State, Last, start, block_of, with_last, all_blocks, has_ended, all_phases, with_series, script_of_state}
use Rattle.script_core.specs.Spelling.{SoFar, nothing}
use Rattle.script_workers.specs.Works.{works_in, works_of, is_sync_of, has_sync}
use Rattle.script_core.specs.Blocks.{declares}
use Rattle.moment_core.specs.StandardRules.{standard_rules}
use Rattle.script_core.proofs.LawfulParts.{labels_of, sorted_insert}

abbrev pub at : Script → Bool → SoFar
at script in_block = record { script = script; in_block = in_block }

-- the script so far
abbrev pub so_far_of : State → SoFar
so_far_of st = at (script_of_state st) st.continues

-- the ULIDs are those of the blocks, and the shelf's blocks stand behind an inline one that has ended
pub record KeepsBlocks (blocks : List Block) (last : Option Last) (shelved : List Block) (ulids : List ℕ) : Type 0 where
  pub no_last : last ≡ None → blocks ≡ []
  pub on_shelf : All (λ (b : Block). b.body ≡ OnShelf) shelved
  pub ended : shelved ≢ [] → has_ended last ≡ Ok tt
  pub declared : (ulid : ℕ) → list_any (is_at (nat_cmp ulid)) ulids ≡ declares (all_blocks blocks last shelved) ulid
  pub count : length ulids ≡ length (all_blocks blocks last shelved)
  pub ascend : (block : Last) → last ≡ Some block → IsStrictlySortedBy compare_sets (labels_of block.series)

-- what is kept of the tasks is what they give
pub record KeepsTasks (gateways : List (List ℕ)) (phases : List Phase) (phase : Option Phase) (synced : List ℕ) (hands : List Hand) (activities : ℕ) : Type 0 where
  pub no_phase : phase ≡ None → phases ≡ []
  pub are_synced : (gateway : ℕ) → is_one_of synced gateway ≡ has_sync (works_of (all_phases phases phase)) gateway
  pub are_hands : (last : Phase) → phase ≡ Some last → hands ≡ hands_of (gateway_count gateways) last.tasks
  pub are_counted : activities ≡ length (works_of (all_phases phases phase))

pub record Kept (st : State) : Type 0 where
  pub blocks : KeepsBlocks st.blocks st.last st.shelved st.ulids
  -- a series line follows no block of the shelf
  pub follows : st.continues ≡ true → st.shelved ≡ []
  pub tasks : KeepsTasks st.gateways st.phases st.phase st.synced st.hands st.activities

pub start_kept : Kept (start standard_rules)
unfolding start
start_kept = record {
  blocks = record { no_last = λ _. refl; on_shelf = All-nil (λ (b : Block). b.body ≡ OnShelf); ended = λ some. refl; declared = λ _. refl; count = refl; ascend = λ block is. absurd cc };
  follows = λ _. refl;
  tasks = record { no_phase = λ _. refl; are_synced = λ _. refl; are_hands = λ last is. absurd cc; are_counted = refl };
}

pub start_is : so_far_of (start standard_rules) ≡ nothing
unfolding start
start_is = refl

-- ---- blocks

equal_number : (a b : ℕ) → is_eq (nat_cmp a b) ≡ (b == a)
equal_number a b = grind (arith, nat_tests)

twice : (a b : Bool) → (a || b) ≡ ((a || b) || a)
twice true b = refl
twice false true = refl
twice false false = refl

insert_by : (ulid new first : ℕ) (ulids : List ℕ) (o : Ordering) → nat_cmp new first ≡ o → list_any (is_at (nat_cmp ulid)) (insert_key nat_cmp ulids new) ≡ (list_any (is_at (nat_cmp ulid)) ulids || (new == ulid)) → list_any (is_at (nat_cmp ulid)) (match_ordering o (new ∷ first ∷ ulids) (first ∷ ulids) (first ∷ insert_key nat_cmp ulids new)) ≡ (list_any (is_at (nat_cmp ulid)) (first ∷ ulids) || (new == ulid))
insert_by ulid new first ulids Less is later =
    ap (λ b. b || list_any (is_at (nat_cmp ulid)) (first ∷ ulids)) (equal_number ulid new) ∙ or_comm (new == ulid) (list_any (is_at (nat_cmp ulid)) (first ∷ ulids))
insert_by ulid new first ulids Equal is later =
    let same : first ≡ new = sym (same-from_Equal new first is) in
    let e : is_eq (nat_cmp ulid first) ≡ (new == ulid) = equal_number ulid first ∙ ap (λ n. n == ulid) same in
    rw e (twice (new == ulid) (list_any (is_at (nat_cmp ulid)) ulids))
insert_by ulid new first ulids Greater is later =
    ap (λ b. is_eq (nat_cmp ulid first) || b) later ∙ sym (or_assoc (is_eq (nat_cmp ulid first)) (list_any (is_at (nat_cmp ulid)) ulids) (new == ulid))

among-insert : (ulid new : ℕ) (ulids : List ℕ) → list_any (is_at (nat_cmp ulid)) (insert_key nat_cmp ulids new) ≡ (list_any (is_at (nat_cmp ulid)) ulids || (new == ulid))
among-insert ulid new [] = ap (λ b. b || false) (equal_number ulid new) ∙ or-false (new == ulid)
among-insert ulid new (first ∷ ulids) = insert_by ulid new first ulids (nat_cmp new first) refl (among-insert ulid new ulids)

longer_by : (new first : ℕ) (ulids : List ℕ) (o : Ordering) → nat_cmp new first ≡ o → list_any (is_at (nat_cmp new)) (first ∷ ulids) ≡ false → (list_any (is_at (nat_cmp new)) ulids ≡ false → length (insert_key nat_cmp ulids new) ≡ length ulids + 1) → length (match_ordering o (new ∷ first ∷ ulids) (first ∷ ulids) (first ∷ insert_key nat_cmp ulids new)) ≡ length (first ∷ ulids) + 1
longer_by new first ulids Less is fresh later = omega arith
longer_by new first ulids Equal is fresh later = let taken : list_any (is_at (nat_cmp new)) (first ∷ ulids) ≡ true = rw is refl in absurd cc
longer_by new first ulids Greater is fresh later =
    let fresh_later : list_any (is_at (nat_cmp new)) ulids ≡ false = ap (λ o. is_eq o || list_any (is_at (nat_cmp new)) ulids) (sym is) ∙ fresh in
    omega (arith, later fresh_later)

length-insert : (new : ℕ) (ulids : List ℕ) → list_any (is_at (nat_cmp new)) ulids ≡ false → length (insert_key nat_cmp ulids new) ≡ length ulids + 1
length-insert new [] fresh = refl
length-insert new (first ∷ ulids) fresh = longer_by new first ulids (nat_cmp new first) refl fresh (length-insert new ulids)

pub declares-append : (blocks : List Block) (block : Block) (ulid : ℕ) → declares (blocks ++ block ∷ []) ulid ≡ (declares blocks ulid || (block.ulid == ulid))
declares-append blocks block ulid =
    list_any-append (λ (b : Block). b.ulid == ulid) blocks (block ∷ []) ∙ ap (λ b. declares blocks ulid || b) (or-false (block.ulid == ulid))

declares-nil : (blocks : List Block) (ulid : ℕ) → declares (blocks ++ []) ulid ≡ declares blocks ulid
declares-nil blocks ulid = ap (λ bs. declares bs ulid) (append-nil blocks)

module _ (blocks : List Block) (last : Option Last) (shelved : List Block) (ulids : List ℕ) (kept : KeepsBlocks blocks last shelved ulids) where
  abbrev all : List Block
  all = all_blocks blocks last shelved

  -- one more inline block
  pub block_kept : (new : Last) → new.series ≡ [] → list_any (is_at (nat_cmp new.ulid)) ulids ≡ false → KeepsBlocks all (Some new) [] (insert_key nat_cmp ulids new.ulid)
  block_kept new none fresh =
      record {
        no_last = λ none. absurd cc;
        on_shelf = All-nil (λ (b : Block). b.body ≡ OnShelf);
        ended = λ some. absurd (some refl);
        declared = λ ulid. among-insert ulid new.ulid ulids ∙ ap (λ b. b || (new.ulid == ulid)) (kept.declared ulid) ∙ sym (declares-append all (block_of new) ulid) ∙ sym (declares-nil (all ++ block_of new ∷ []) ulid);
        count = length-insert new.ulid ulids fresh ∙ ap (λ n. n + 1) kept.count ∙ sym (length-append all (block_of new ∷ [])) ∙ sym (ap length (append-nil (all ++ block_of new ∷ [])));
        ascend = λ block is. subst (λ (series : List Series). IsStrictlySortedBy compare_sets (labels_of series)) (sym none ∙ ap (λ (l : Last). l.series) (same_Some new block is)) (sorted_nil compare_sets);
      }

  -- one more block of the shelf
  pub shelf_kept : (new : Block) → new.body ≡ OnShelf → has_ended last ≡ Ok tt → list_any (is_at (nat_cmp new.ulid)) ulids ≡ false → KeepsBlocks blocks last (shelved ++ new ∷ []) (insert_key nat_cmp ulids new.ulid)
  shelf_kept new is ends fresh =
      let more : all ++ new ∷ [] ≡ all_blocks blocks last (shelved ++ new ∷ []) = append_assoc (with_last blocks last) shelved (new ∷ []) in
      record {
        no_last = kept.no_last;
        on_shelf = All-push (λ (b : Block). b.body ≡ OnShelf) shelved new kept.on_shelf is;
        ended = λ some. ends;
        declared = λ ulid. among-insert ulid new.ulid ulids ∙ ap (λ b. b || (new.ulid == ulid)) (kept.declared ulid) ∙ sym (declares-append all new ulid) ∙ ap (λ bs. declares bs ulid) more;
        count = length-insert new.ulid ulids fresh ∙ ap (λ n. n + 1) kept.count ∙ sym (length-append all (new ∷ [])) ∙ ap length more;
        ascend = kept.ascend;
      }

-- one more series of the last block, behind which no block of the shelf stands
pub series_kept : (blocks : List Block) (last : Option Last) (ulids : List ℕ) (series : Series) → KeepsBlocks blocks last [] ulids → KeepsBlocks blocks (option_map (with_series series) last) [] ulids
series_kept blocks None ulids series kept = kept
series_kept blocks (Some last) ulids series kept =
    let same : (ulid : ℕ) → declares (all_blocks blocks (Some last) []) ulid ≡ declares (all_blocks blocks (Some (with_series series last)) []) ulid = λ ulid.
    declares-nil (blocks ++ block_of last ∷ []) ulid ∙ declares-append blocks (block_of last) ulid
    ∙ sym (declares-append blocks (block_of (with_series series last)) ulid) ∙ sym (declares-nil (blocks ++ block_of (with_series series last) ∷ []) ulid) in
    record {
      no_last = λ none. absurd cc;
      on_shelf = kept.on_shelf;
      ended = λ some. absurd (some refl);
      declared = λ ulid. kept.declared ulid ∙ same ulid;
      count = kept.count ∙ ap length (append-nil (blocks ++ block_of last ∷ [])) ∙ length-append blocks (block_of last ∷ []) ∙ sym (length-append blocks (block_of (with_series series last) ∷ [])) ∙ sym (ap length (append-nil (blocks ++ block_of (with_series series last) ∷ [])));
      ascend = λ block is. subst (λ (series : List Series). IsStrictlySortedBy compare_sets (labels_of series)) (ap (λ (l : Last). l.series) (same_Some (with_series series last) block is)) (sorted_insert last.series series (kept.ascend last refl));
    }

-- ---- phases and tasks

pub works_of-append : (phases : List Phase) (phase : Phase) → works_of (phases ++ phase ∷ []) ≡ works_of phases ++ works_in phase.tasks
works_of-append phases phase =
    flat_map-append (λ (p : Phase). works_in p.tasks) phases (phase ∷ []) ∙ ap (λ works. works_of phases ++ works) (append-nil (works_in phase.tasks))

-- the last phase with one more task
pub works_of-more : (phases : List Phase) (phase : Phase) (task : Task) → works_of (phases ++ record phase { tasks = phase.tasks ++ task ∷ [] } ∷ []) ≡ works_of (phases ++ phase ∷ []) ++ task.work ∷ []
works_of-more phases phase task =
    works_of-append phases (record phase { tasks = phase.tasks ++ task ∷ [] })
    ∙ ap (λ works. works_of phases ++ works) (map-append (λ (t : Task). t.work) phase.tasks (task ∷ []))
    ∙ sym (append_assoc (works_of phases) (works_in phase.tasks) (task.work ∷ []))
    ∙ ap (λ works. works ++ task.work ∷ []) (sym (works_of-append phases phase))

pub has_sync-append : (works : List Work) (work : Work) (gateway : ℕ) → has_sync (works ++ work ∷ []) gateway ≡ (has_sync works gateway || is_sync_of gateway work)
has_sync-append works work gateway =
    list_any-append (is_sync_of gateway) works (work ∷ []) ∙ ap (λ b. has_sync works gateway || b) (or-false (is_sync_of gateway work))

add_none : (n : ℕ) → n ≡ n + 0
add_none n = omega arith

further : (n m : ℕ) → n + 1 + m ≡ n + suc m
further n m = omega arith

hands_from-append : (gateways : ℕ) (others : List Hand) (place : ℕ) (tasks : List Task) (task : Task) → hands_from gateways others place (tasks ++ task ∷ []) ≡ with_hands gateways (hands_from gateways others place tasks) (place + length tasks) task.work
unfolding hands_from
hands_from-append gateways others place [] task = ap (λ n. with_hands gateways others n task.work) (add_none place)
hands_from-append gateways others place (first ∷ tasks) task =
    hands_from-append gateways (with_hands gateways others place first.work) (place + 1) tasks task
    ∙ ap (λ n. with_hands gateways (hands_from gateways (with_hands gateways others place first.work) (place + 1) tasks) n task.work) (further place (length tasks))

zero_first : (n : ℕ) → 0 + n ≡ n
zero_first n = omega arith

-- who does the tasks with one more
pub hands_of-append : (gateways : ℕ) (tasks : List Task) (task : Task) → hands_of gateways (tasks ++ task ∷ []) ≡ with_hands gateways (hands_of gateways tasks) (length tasks) task.work
hands_of-append gateways tasks task =
    hands_from-append gateways [] 0 tasks task ∙ ap (λ n. with_hands gateways (hands_of gateways tasks) n task.work) (zero_first (length tasks))

no_hands : (gateways : ℕ) (last : Phase) (line : ℕ) (moment : Moment) → ◌≡◌ {A = Option Phase} (Some (record { line = line; moment = moment; tasks = [] })) (Some last) → [] ≡ hands_of gateways last.tasks
unfolding hands_from
no_hands gateways last line moment is =
    ap (λ (p : Phase). hands_of gateways p.tasks) (same_Some (record { line = line; moment = moment; tasks = [] }) last is)

module _ (gateways : List (List ℕ)) (phases : List Phase) (phase : Option Phase) (synced : List ℕ) (hands : List Hand) (activities : ℕ) (kept : KeepsTasks gateways phases phase synced hands activities) where
  -- another gateway before the first phase
  pub gateway_kept : (name : List ℕ) → phase ≡ None → KeepsTasks (gateways ++ name ∷ []) phases phase synced hands activities
  gateway_kept name none =
      record { no_phase = kept.no_phase; are_synced = kept.are_synced; are_hands = λ last is. absurd cc; are_counted = kept.are_counted }

  -- another phase
  pub phase_kept : (line : ℕ) (moment : Moment) → KeepsTasks gateways (all_phases phases phase) (Some (record { line = line; moment = moment; tasks = [] })) synced [] activities
  phase_kept line moment =
      let same : works_of (all_phases phases phase ++ record { line = line; moment = moment; tasks = [] } ∷ []) ≡ works_of (all_phases phases phase) = works_of-append (all_phases phases phase) (record { line = line; moment = moment; tasks = [] }) ∙ append-nil (works_of (all_phases phases phase)) in
      record {
        no_phase = λ none. absurd cc;
        are_synced = λ gateway. kept.are_synced gateway ∙ ap (λ works. has_sync works gateway) (sym same);
        are_hands = λ last is. no_hands (gateway_count gateways) last line moment is;
        are_counted = kept.are_counted ∙ ap length (sym same);
      }

-- another task of the last phase
pub task_kept : (gateways : List (List ℕ)) (phases : List Phase) (phase : Phase) (synced noted : List ℕ) (hands : List Hand) (activities : ℕ) (task : Task) → KeepsTasks gateways phases (Some phase) synced hands activities → ((gateway : ℕ) → is_one_of noted gateway ≡ (is_one_of synced gateway || is_sync_of gateway task.work)) → KeepsTasks gateways phases (Some (record phase { tasks = phase.tasks ++ task ∷ [] })) noted (with_hands (gateway_count gateways) hands (length phase.tasks) task.work) (activities + 1)
task_kept gateways phases phase synced noted hands activities task kept notes =
    let more = works_of-more phases phase task in
    record {
      no_phase = λ none. absurd cc;
      are_synced = λ gateway. notes gateway ∙ ap (λ b. b || is_sync_of gateway task.work) (kept.are_synced gateway) ∙ sym (has_sync-append (works_of (phases ++ phase ∷ [])) task.work gateway) ∙ ap (λ works. has_sync works gateway) (sym more);
      are_hands = λ last is. ap (λ hs. with_hands (gateway_count gateways) hs (length phase.tasks) task.work) (kept.are_hands phase refl) ∙ sym (hands_of-append (gateway_count gateways) phase.tasks task) ∙ ap (λ (p : Phase). hands_of (gateway_count gateways) p.tasks) (same_Some _ _ is);
      are_counted = ap (λ n. n + 1) kept.are_counted ∙ sym (length-append (works_of (phases ++ phase ∷ [])) (task.work ∷ [])) ∙ ap length (sym more);
    }

is_synced-same : (synced : List ℕ) (own gateway : ℕ) → own ≡ gateway → is_one_of synced own ≡ true → is_one_of synced gateway ≡ true
is_synced-same synced own gateway same is = ap (is_one_of synced) (sym same) ∙ is

noted_in : (synced : List ℕ) (own gateway : ℕ) (b : Bool) → is_one_of synced own ≡ true → (own == gateway) ≡ b → is_one_of synced gateway ≡ (is_one_of synced gateway || b)
noted_in synced own gateway true is same =
    let e : own ≡ gateway = grind (arith, nat_tests) in is_synced-same synced own gateway e is ∙ or_comm true (is_one_of synced gateway)
noted_in synced own gateway false is same = sym (or-false (is_one_of synced gateway))

noted_by : (synced : List ℕ) (own gateway : ℕ) (b : Bool) → is_one_of synced own ≡ b → is_one_of (cond b synced (synced ++ own ∷ [])) gateway ≡ (is_one_of synced gateway || (own == gateway))
noted_by synced own gateway true is =
    noted_in synced own gateway (own == gateway) is refl
noted_by synced own gateway false is =
    list_any-append (λ place. place == gateway) synced (own ∷ []) ∙ ap (λ b. is_one_of synced gateway || b) (or-false (own == gateway))

-- a sync line is noted
pub sync_noted : (synced : List ℕ) (own gateway : ℕ) → is_one_of (cond (is_one_of synced own) synced (synced ++ own ∷ [])) gateway ≡ (is_one_of synced gateway || (own == gateway))
sync_noted synced own gateway = noted_by synced own gateway (is_one_of synced own) refl
