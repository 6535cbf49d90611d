-- What the blocks that a script declares hold.
use Rattle.std.specs.Prelude.{ℕ, ◌==◌, List, [], find, Option}
use Rattle.std.specs.List.{flat_map}
use Rattle.std.specs.Option.{option_map_or}
use Rattle.label_sets.specs.declared.series.Series.{Series}
use Rattle.label_sets.specs.Finals.{final_of}
use Rattle.label_sets.specs.Triples.{Triple, triples_under}
use Rattle.script_core.specs.declared.block.Block.{Block}
use Rattle.script_core.specs.declared.body.Body.{Body}
use Rattle.script_core.specs.declared.body.Body.TheVariants.{Inline, OnShelf}
use Rattle.script_core.specs.declared.script.Script.{Script}
use Rattle.lifecycle_core.specs.Setting.{FromShelf, Setting, holding, refusing}

-- the series of a block that was read of a shelf; one that is refused has none
abbrev pub series_from : FromShelf → List Series
series_from (holding files series) = series
series_from (refusing refusal) = []

-- the series of a declared block, ascending by their labels: those of its lines, or those that its files hold
abbrev pub given_by : Setting → ℕ → Body → List Series
given_by setting ulid (Inline min_time max_time series) = series
given_by setting ulid OnShelf = series_from (setting.shelf ulid)

abbrev pub given : Setting → Block → List Series
given setting block = given_by setting block.ulid block.body

-- the samples of a declared block under their final labels, where these are the replica labels
unfoldable pub held_by : Setting → List (List ℕ) → Block → List Triple
held_by setting replicas block =
    flat_map (λ s. triples_under (final_of s.labels block.labels replicas) s.samples) (given setting block)

-- the block that the script declares under this ULID
abbrev pub declared : Script → ℕ → Option Block
declared script ulid = find (λ block. block.ulid == ulid) script.blocks

-- What these blocks hold, one after another. A sample that two of them hold stands twice.
unfoldable pub held : Setting → List ℕ → List Triple
held setting ulids =
    flat_map (λ ulid. option_map_or (held_by setting setting.script.rules.replicas) (declared setting.script ulid) []) ulids
