-- The block that a script declares under a ULID.
use Rattle.base.proofs.Lists.{find_passes, find_holds}
use Rattle.std.proofs.Common.{◌≡◌, ◌^◌, ◌<◌, ◌==◌, ℕ, Some, true, subst, arith}
use Rattle.std.proofs.lemmas.Bool.Decides.{nat_tests}
use Rattle.script_core.specs.declared.block.Block.{Block}
use Rattle.script_core.specs.Lawful.{IsLawfulBlock, IsLawfulScript}
use Rattle.lifecycle_core.specs.Held.{declared}
use Rattle.lifecycle_core.specs.Setting.{Setting}

module _ (setting : Setting) (ulid : ℕ) (block : Block) (is : declared setting.script ulid ≡ Some block) where
  pub declared_ulid : block.ulid ≡ ulid
  declared_ulid =
      let test : (block.ulid == ulid) ≡ true = find_passes (λ (b : Block). b.ulid == ulid) setting.script.blocks block is in
      grind (arith, nat_tests, test)

  pub declared_lawful : IsLawfulScript setting.script → IsLawfulBlock block
  declared_lawful lawful = find_holds IsLawfulBlock (λ (b : Block). b.ulid == ulid) setting.script.blocks block lawful.blocks.each is

  pub blocks_are_small : IsLawfulScript setting.script → ulid < 2 ^ 128
  blocks_are_small lawful = subst (λ n. n < 2 ^ 128) declared_ulid (declared_lawful lawful).ulid
