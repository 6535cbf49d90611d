use Rattle.std.proofs.Common.{◌<◌, ◌^◌, sym, ◌∙◌, arith}
use Rattle.store_ranges.proofs.Behind.{behind_small}
use Rattle.store_ranges.proofs.run_reads.end_of_run.Goals as goal

pub overflow_mul-result : goal.overflow_mul-result
overflow_mul-result c =
    let small : c.in-Some.next < 2 ^ 32 = behind_small c.args.last c.in-Some.next c.args.all.now c.requires.all_small (sym c.number_behind.ensures ∙ c.in-Some.is) in
    omega (arith, small)
