use Rattle.std.proofs.Common.{ap, ◌∙◌}
use Rattle.label_sets.specs.Triples.{triples_of}
use Rattle.store_ranges.specs.Asking.{query_asked, block_asked}
use Rattle.store_chunks.specs.ChunksRead.{reads_apart}
use Rattle.store_chunks.specs.Taken.{shown}
use Rattle.store_chunks.proofs.ShownSamples.{none_shown, more_shown}
use Rattle.store_chunks.proofs.shown.shown_apart.Goals as goal

pub loop-one-init : goal.loop-one-init
loop-one-init c = λ up. ap triples_of c.new-made.ensures.items ∙ none_shown (shown (query_asked c.args.asked.now) (block_asked c.args.asked.now) (reads_apart c.args.found.now))

pub loop-one-preserved : goal.loop-one-preserved
loop-one-preserved c = λ up. more_shown (shown (query_asked c.args.asked.now) (block_asked c.args.asked.now) (reads_apart c.args.found.now)) c.args.series.now c.loop-one.one-index _ c.loop-one.made.items c.push.new.self.items c.in_ok-shown.field-0
    c.loop-one-test.true (c.loop-one.invariant up) (c.in_ok-shown.ensures up ∙ ap (shown (query_asked c.args.asked.now) (block_asked c.args.asked.now) (reads_apart c.args.found.now)) c.one-item.is) c.in_ok-push.ensures.items
