use Rattle.std.proofs.Common.{◌==◌, ap, sym, ◌∙◌, Bor, List, find, option_map}
use Rattle.script_core.specs.declared.block.Block.{Block}
use Rattle.script_running.proofs.Blocks.{found_lawful}
use Rattle.script_running.proofs.declared.block_among.Goals as goal

pub returns-clause-lawful : goal.returns-clause-lawful
returns-clause-lawful c =
    found_lawful c.args.script.now.value c.args.ulid c.in-Some.block.now c.requires.lawful
    (ap (λ (blocks : List Block). find (λ (b : Block). b.ulid == c.args.ulid) blocks) (sym c.requires.own) ∙ sym c.find_block.ensures ∙ ap (option_map (λ (b : Bor Block). b.now)) c.in-Some.is)
