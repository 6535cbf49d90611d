use Rattle.std.proofs.Common.{arith}
use Rattle.xor_chunks.proofs.Zeros.{counts_apart}
use Rattle.xor_chunks.proofs.window.Window.around.Goals as goal

pub overflow_sub-result : goal.overflow_sub-result
overflow_sub-result c = omega (arith, counts_apart c.args.change c.requires (omega arith), c.min-lead.ensures)

pub invariant_of-result : goal.invariant_of-result
invariant_of-result c =
    let apart = counts_apart _ c.requires (omega arith) in
    (omega arith, omega arith, omega arith)
