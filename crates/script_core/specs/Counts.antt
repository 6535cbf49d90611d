-- How many members the lists of a script have together. The bytes of texts are counted as members.
use Rattle.std.specs.Prelude.{ℕ, ◌+◌, List, length}
use Rattle.std.specs.List.{sum_by}
use Rattle.label_sets.specs.Counts.{members_in}
use Rattle.label_sets.specs.declared.series.Series.{Series}
use Rattle.matchers.specs.declared.matcher.Matcher.{Matcher}
use Rattle.script_workers.specs.declared.phase.Phase.{Phase}
use Rattle.script_core.specs.declared.block.Block.{Block}
use Rattle.script_core.specs.declared.body.Body.{Body}
use Rattle.script_core.specs.declared.body.Body.TheVariants.{Inline, OnShelf}
use Rattle.script_core.specs.declared.script.Script.{Script}

abbrev pub members_of_name : List ℕ → ℕ
members_of_name name = 1 + length name

abbrev pub members_of_series : Series → ℕ
members_of_series one = 1 + members_in one.labels + length one.samples

abbrev pub members_of_body : Body → ℕ
members_of_body (Inline min_time max_time series) = sum_by members_of_series series
members_of_body OnShelf = 0

abbrev pub members_of_block : Block → ℕ
members_of_block block = 1 + members_in block.labels + members_of_body block.body

abbrev pub members_of_selector : List Matcher → ℕ
members_of_selector selector = 1 + length selector

abbrev pub members_of_phase : Phase → ℕ
members_of_phase phase = 1 + length phase.tasks

abbrev pub members_of_script : Script → ℕ
members_of_script script =
    sum_by members_of_name script.rules.replicas
    + sum_by members_of_name script.gateways
    + length script.partitions
    + sum_by members_of_block script.blocks
    + sum_by members_of_selector script.selectors
    + sum_by members_of_phase script.phases
