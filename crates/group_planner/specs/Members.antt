-- The blocks of a list by their ULIDs.
use Rattle.std.specs.Prelude.{ℕ, List, map}
use Rattle.block_meta.specs.declared.meta.Meta.{Meta}

abbrev pub ulids_of : List Meta → List ℕ
ulids_of metas = map (λ meta. meta.ulid) metas
