-- What the blocks of a call gave, block by block.
use Rattle.std.specs.Prelude.{◌≡◌, List, [], ◌∷◌, ◌++◌, Some}
use Rattle.std.specs.List.{flat_map}
use Rattle.label_sets.specs.Triples.{Triple}
use Rattle.world_core.specs.Plans.{Runs}
use Rattle.world_core.specs.declared.entry.Entry.{Entry}
use Rattle.store_ranges.specs.Reads.{Query, Block, Cache}
use Rattle.store_calls.specs.BlockReads.{gives, block_call}

-- The entries are runs of the reads of these blocks, one after another, each by the cache that the one before it left. Each block
-- gave such samples, and last comes this cache.
abbrev pub AreShares : Query → List Block → Cache → List Entry → List (List Triple) → Cache → Type 0
AreShares query [] before entries shares after = (entries ≡ []) × (shares ≡ []) × (after ≡ before)
AreShares query (block ∷ blocks) before entries [] after = ⊥
AreShares query (block ∷ blocks) before entries (share ∷ shares) after =
    (own : List Entry) × (others : List Entry) × (next : Cache) × (entries ≡ own ++ others)
    × Runs (block_call query block before) own (Some (gives share next)) × AreShares query blocks next others shares after

-- the samples of all shares, in the blocks' order
abbrev pub all_shares : List (List Triple) → List Triple
all_shares shares = flat_map (λ share. share) shares
