use Rattle.std.proofs.Common.{ap, sym, ◌∙◌, get_or, List, arith}
use Rattle.label_sets.specs.declared.label.Label.{Label}
use Rattle.label_sets.specs.Finals.{reduced_of}
use Rattle.block_merging.specs.declared.listing.SeriesPlace.{SeriesPlace}
use Rattle.block_merging.proofs.QueueSteps.{no_next, read_here, next_read}
use Rattle.block_merging.proofs.series_queue.next_of.Goals as goal

pub returns-then-taken-places : goal.returns-then-taken-places
returns-then-taken-places c = no_next c.args.external.now c.args.replicas.now c.args.places.now c.args.taken _ _ c.if-taken-places.true

pub series_at-requires : goal.series_at-requires
series_at-requires c =
    read_here c.args.reader.now c.args.places.now c.args.taken (get_or c.args.places.now c.args.taken c.index-places-taken.result).number c.index-places-taken.result c.index-places-taken.result c.requires (omega (arith, c.if-taken-places.false)) c.index-places-taken.is
    (sym (ap (λ (p : SeriesPlace). p.number) c.index-places-taken.is))

pub returns : goal.returns
returns c =
    next_read c.args.external.now c.args.replicas.now c.args.reader.now c.args.places.now c.args.taken (get_or c.args.places.now c.args.taken c.index-places-taken.result).number c.index-places-taken.result c.index-places-taken.result c.in_ok-series.series _ _ c.requires (omega (arith, c.if-taken-places.false)) c.index-places-taken.is
    (sym (ap (λ (p : SeriesPlace). p.number) c.index-places-taken.is)) c.in_ok-series.ensures
    (c.kept_lent.ensures ∙ ap (λ (l : List Label). reduced_of l c.args.external.now c.args.replicas.now) c.into_lists-labels.ensures.labels) c.into_lists-labels.ensures.chunks
