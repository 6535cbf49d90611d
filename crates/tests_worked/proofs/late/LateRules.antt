-- The script by which a compaction reads late is a lawful one.
use Rattle.std.proofs.Common.{zero, suc, [], ◌∷◌, refl, arith, lit<, lit≤}
use Rattle.std.specs.List.{All, IsDistinct}
use Rattle.std.specs.List.Sorted.{IsNonDecreasingBy}
use Rattle.std.proofs.lemmas.List.Elements.{All-from_recursion, All-head, All-nil}
use Rattle.script_core.specs.Lawful.{AreLawfulBlocks, AreLawfulPhases, AreLawfulRules, HasSeries, IsLawfulBlock, IsLawfulPartition, IsLawfulPhase, IsLawfulScript, IsLawfulSelector, IsLawfulWork}
use Rattle.script_core.specs.declared.block.Block.{Block}
use Rattle.script_workers.specs.Hands.{hands_of_task, with_hands, hands_from}
use Rattle.script_workers.specs.Works.{CompactOnce}
use Rattle.script_workers.specs.declared.phase.Phase.{Phase}
use Rattle.script_workers.specs.declared.task.Task.{Task}
use Rattle.tests_worked.specs.LateCompaction as row
use Rattle.tests_worked.specs.SmallBlock as small
use Rattle.tests_worked.proofs.small.Texts.{one_lawful}

rules : AreLawfulRules row.rules
rules = record {
  consistency = lit≤ tt;
  ignore = lit≤ tt;
  delete = lit≤ tt;
  partial = lit≤ tt;
  upload = lit≤ tt;
  tick = lit≤ tt;
  page_limit_low = lit≤ tt;
  page_limit_high = lit≤ tt;
  replicas = All-nil _;
  retention = (lit≤ tt, lit≤ tt);
}

-- ---- the blocks

first_block : IsLawfulBlock small.block
first_block = All-head IsLawfulBlock small.block [] one_lawful.blocks.each

-- the other block differs in its ULID alone
second_block : IsLawfulBlock (small.block_of row.b)
second_block = record { ulid = lit< tt; not_reserved = refl; labels = first_block.labels; body = first_block.body }

blocks : AreLawfulBlocks row.script.blocks
unfolding IsDistinct
blocks = record {
  few = lit≤ tt;
  each = All-from_recursion IsLawfulBlock row.script.blocks (first_block, (second_block, tt));
  once = ((refl, tt), (tt, tt));
}

full : All (λ (block : Block). HasSeries block.body) row.script.blocks
full = All-from_recursion (λ (block : Block). HasSeries block.body) row.script.blocks (λ none. cc (none), (λ none. cc (none), tt))

-- ---- the phases

abbrev IsLawful : Phase → Type 0
IsLawful = IsLawfulPhase [] row.script.blocks 0

abbrev Works : Task → Type 0
Works task = IsLawfulWork [] row.script.blocks 0 task.work

uploads_once : CompactOnce row.upload_tasks
uploads_once zero zero d less within = absurd (omega (arith, less))
uploads_once zero (suc zero) d less within = λ compacts. cc (compacts)
uploads_once zero (suc (suc j)) d less within = absurd (omega (arith, within))
uploads_once (suc i) zero d less within = absurd (omega (arith, less))
uploads_once (suc i) (suc j) d less within = absurd (omega (arith, less, within))

one_once : (task : Task) → CompactOnce (task ∷ [])
one_once task i j d less within = absurd (omega (arith, less, within))

beside_once : CompactOnce row.beside_tasks
beside_once zero zero d less within = absurd (omega (arith, less))
beside_once zero (suc zero) d less within = λ compacts. refl
beside_once zero (suc (suc j)) d less within = absurd (omega (arith, within))
beside_once (suc i) zero d less within = absurd (omega (arith, less))
beside_once (suc i) (suc j) d less within = absurd (omega (arith, less, within))

uploads : IsLawful row.uploads
unfolding hands_of_task with_hands hands_from
uploads = record { moment = lit< tt; tasks = All-from_recursion Works row.upload_tasks ((refl, tt), ((refl, tt), tt)); few_workers = lit≤ tt; compacts_once = uploads_once }

marking : IsLawful row.marking
unfolding hands_of_task with_hands hands_from
marking = record { moment = lit< tt; tasks = All-from_recursion Works row.marking.tasks (tt, tt); few_workers = lit≤ tt; compacts_once = one_once _ }

beside : IsLawful row.beside
unfolding hands_of_task with_hands hands_from
beside = record { moment = lit< tt; tasks = All-from_recursion Works row.beside_tasks (tt, (tt, tt)); few_workers = lit≤ tt; compacts_once = beside_once }

rise : IsNonDecreasingBy (λ (phase : Phase). phase.moment.ms) row.script.phases
rise zero zero d le within = omega arith
rise zero (suc zero) d le within = lit≤ tt
rise zero (suc (suc zero)) d le within = lit≤ tt
rise (suc zero) zero d le within = absurd (omega (arith, le))
rise (suc zero) (suc zero) d le within = omega arith
rise (suc zero) (suc (suc zero)) d le within = lit≤ tt
rise (suc (suc zero)) zero d le within = absurd (omega (arith, le))
rise (suc (suc zero)) (suc zero) d le within = absurd (omega (arith, le))
rise (suc (suc zero)) (suc (suc zero)) d le within = omega arith
rise i (suc (suc (suc j))) d le within = absurd (omega (arith, within))
rise (suc (suc (suc i))) j d le within = absurd (omega (arith, le, within))

phases : AreLawfulPhases [] row.script.blocks 0 row.script.phases
phases = record {
  each = All-from_recursion IsLawful row.script.phases (uploads, (marking, (beside, tt)));
  moments = rise;
  few_tasks = lit≤ tt;
  synced = λ before after work gateway is asks less. absurd (omega (arith, less));
}

pub lawful : IsLawfulScript row.script
lawful = record {
  rules = rules;
  agreed = λ some. refl;
  few_gateways = lit≤ tt;
  names = All-nil _;
  partitioned = refl;
  partitions = All-nil IsLawfulPartition;
  blocks = blocks;
  full = full;
  selectors = All-nil (IsLawfulSelector []);
  phases = phases;
}
