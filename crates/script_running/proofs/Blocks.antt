-- Declared blocks by their ULIDs.
use Rattle.std.proofs.Common.{◌≡◌, ℕ, Bool, true, false, List, [], ◌∷◌, refl}
use Rattle.std.specs.Prelude.{◌==◌, ◌≢◌, None, Some, find}
use Rattle.base.proofs.Lists.{find_holds}
use Rattle.script_core.specs.Blocks.{declares}
use Rattle.script_core.specs.Lawful.{IsLawfulBlock, IsLawfulScript}
use Rattle.script_core.specs.declared.script.Script.{Script}
use Rattle.script_core.specs.declared.block.Block.{Block}

found_or_later : (ulid : ℕ) (first : Block) (blocks : List Block) (own : Bool) → (first.ulid == ulid) ≡ own → declares (first ∷ blocks) ulid ≡ true
    → find (λ (block : Block). block.ulid == ulid) (first ∷ blocks) ≡ None → (declares blocks ulid ≡ true) × (find (λ (block : Block). block.ulid == ulid) blocks ≡ None)
found_or_later ulid first blocks true is declared none = absurd (cc (is, none))
found_or_later ulid first blocks false is declared none = (cc (is, declared), cc (is, none))

-- a block that the list declares is found in it
pub is_found : (blocks : List Block) (ulid : ℕ) → declares blocks ulid ≡ true → find (λ (block : Block). block.ulid == ulid) blocks ≢ None
is_found [] ulid declared none = absurd (cc (declared))
is_found (first ∷ blocks) ulid declared none =
    let later = found_or_later ulid first blocks (first.ulid == ulid) refl declared none in
    is_found blocks ulid later.0 later.1

-- the block that is found is lawful
pub found_lawful : (script : Script) (ulid : ℕ) (block : Block) → IsLawfulScript script → find (λ (b : Block). b.ulid == ulid) script.blocks ≡ Some block → IsLawfulBlock block
found_lawful script ulid block lawful is = find_holds IsLawfulBlock (λ (b : Block). b.ulid == ulid) script.blocks block lawful.blocks.each is
