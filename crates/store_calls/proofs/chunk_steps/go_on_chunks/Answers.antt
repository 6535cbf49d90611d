use Rattle.std.proofs.Common.{subst}
use Rattle.store_calls.specs.ChunkFindings.{ShowsFirst}
use Rattle.store_calls.specs.declared.chunk_steps.Shown.TheVariants.{SticksOut}
use Rattle.store_calls.proofs.ChunkPlans.{single_asked, all_shown_on}
use Rattle.store_calls.proofs.chunk_steps.go_on_chunks.Goals as goal

pub returns-in-SticksOut : goal.returns-in-SticksOut
returns-in-SticksOut c = λ cache.
    single_asked c.args.asked.now cache c.args.work c.args.chunks.items (SticksOut c.in-SticksOut.found c.in-SticksOut.reference c.in-SticksOut.len c.in-SticksOut.pending)
    (subst (ShowsFirst c.args.work.found.items c.args.chunks.items) c.in-SticksOut.is c.in_ok-found.ensures)

pub returns-in-All : goal.returns-in-All
returns-in-All c = λ cache.
    all_shown_on c.args.asked.now cache c.args.work c.in-All.found c.args.chunks.items c.go_on_groups.result
    (subst (ShowsFirst c.args.work.found.items c.args.chunks.items) c.in-All.is c.in_ok-found.ensures)
    (c.go_on_groups.ensures cache)
