use Rattle.std.proofs.Common.{length, refl, ap, inl, inr, arith}
use Rattle.block_loading.specs.LoadReading.{RefusesFile, file_at, segment_at}
use Rattle.block_loading.proofs.Asked.{file_asked, file_stopped}
use Rattle.block_loading.proofs.LoadSteps.{stops, stops_first}
use Rattle.block_loading.proofs.SegmentLaws.{segment_unread, segment_passes, segment_fits}
use Rattle.block_loading.proofs.Stopped.{said_on}
use Rattle.block_loading.proofs.reading.read_segment.Goals as goal

pub returns-in_err-segment-clause-read : goal.returns-in_err-segment-clause-read
returns-in_err-segment-clause-read g c = λ told h. stops (λ bytes. bytes) (segment_at told c.args.key.now c.args.before) c.from_residual.result c.in_err-segment.field-0.0 c.from_residual.ensures.1
    (stops_first (file_at told c.args.key.now) (segment_at told c.args.key.now c.args.before) c.in_err-segment.field-0.0 (segment_unread told c.args.key.now c.args.before c.in_err-segment.field-0.0) (c.in_err-segment.ensures.read told h))

pub returns-in_err-segment-clause-stopped : goal.returns-in_err-segment-clause-stopped
returns-in_err-segment-clause-stopped g c = said_on (RefusesFile c.args.key.now) c.from_residual.result c.in_err-segment.field-0.0 c.from_residual.ensures.1 c.in_err-segment.ensures.stopped

pub returns-in_err-segment-clause-asks : goal.returns-in_err-segment-clause-asks
returns-in_err-segment-clause-asks g c = file_stopped g.F.Shelf.told _ _ _ c.in_err-segment.field-0.0 c.from_residual.result c.from_residual.ensures.1 c.in_err-segment.ensures.asks

pub returns-then-bytes-gt-LOAD_LIMIT-clause-read : goal.returns-then-bytes-gt-LOAD_LIMIT-clause-read
returns-then-bytes-gt-LOAD_LIMIT-clause-read g c = λ told h. inr (segment_passes told c.args.key.now c.args.before c.in_ok-segment.segment c.bytes.result.now _ (c.in_ok-segment.ensures.read told h) c.bytes.ensures refl c.if-bytes-gt-LOAD_LIMIT.true)

pub returns-then-bytes-gt-LOAD_LIMIT-clause-asks : goal.returns-then-bytes-gt-LOAD_LIMIT-clause-asks
returns-then-bytes-gt-LOAD_LIMIT-clause-asks g c = inl (file_asked g.F.Shelf.told _ _ _ c.in_ok-segment.segment c.in_ok-segment.ensures.asks)

pub returns-clause-read : goal.returns-clause-read
returns-clause-read g c = λ told h. segment_fits told c.args.key.now c.args.before c.in_ok-segment.segment c.bytes.result.now _ (c.in_ok-segment.ensures.read told h) c.bytes.ensures refl c.if-bytes-gt-LOAD_LIMIT.false

pub returns-clause-together : goal.returns-clause-together
returns-clause-together g c = omega (arith, c.if-bytes-gt-LOAD_LIMIT.false, ap length c.bytes.ensures)

pub returns-clause-asks : goal.returns-clause-asks
returns-clause-asks g c = inl (file_asked g.F.Shelf.told _ _ _ c.in_ok-segment.segment c.in_ok-segment.ensures.asks)
