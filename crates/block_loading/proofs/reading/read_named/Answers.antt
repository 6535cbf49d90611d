use Rattle.std.proofs.Common.{ℕ, List, false, inl, refl, sym, subst}
use Rattle.block_keys.specs.declared.key.Key.TheVariants.{Index}
use Rattle.block_loading.specs.Loading.{NamesLast, StopsAt}
use Rattle.block_loading.specs.LoadReading.{was_fault, file_at, index_in}
use Rattle.block_loading.proofs.Stopped.{calm_on, said_on, file_last, index_second}
use Rattle.block_loading.proofs.Kept.{kept_as}
use Rattle.block_loading.proofs.LoadSteps.{stops_index, stops_first, no_index, index_read, index_stopped}
use Rattle.block_loading.proofs.Asked.{file_asked, file_stopped}
use Rattle.block_loading.proofs.reading.read_named.Goals as goal

pub returns-in_err-index-clause-read : goal.returns-in_err-index-clause-read
returns-in_err-index-clause-read g c = λ told h. stops_index (index_in told c.args.ulid) c.from_residual.result c.in_err-index.field-0.0 c.from_residual.ensures.1
    (stops_first (file_at told (Index c.args.ulid)) (index_in told c.args.ulid) c.in_err-index.field-0.0 (no_index told c.args.ulid c.in_err-index.field-0.0) (c.in_err-index.ensures.read told h))

pub returns-clause-read : goal.returns-clause-read
returns-clause-read g c = λ told h indexed read. index_read told c.args.ulid c.in_ok-index.index c.in_ok-index.index (c.in_ok-index.ensures.read told h) refl indexed read

pub returns-clause-named : goal.returns-clause-named
returns-clause-named g c = subst (λ (b : List ℕ). NamesLast b c.in_ok-last.last) c.bytes.ensures c.in_ok-last.ensures.named

pub returns-in_err-last-clause-read : goal.returns-in_err-last-clause-read
returns-in_err-last-clause-read g c =
    let why = c.in_err-last.ensures.stopped in
    λ told h. stops_index (index_in told c.args.ulid) c.from_residual-in_err-last.result c.in_err-last.field-0.0 c.from_residual-in_err-last.ensures.1
    (index_stopped told c.args.ulid c.in_ok-index.index c.bytes.result.now (c.in_ok-index.ensures.read told h) c.bytes.ensures why.0 c.in_err-last.field-0.0 why.2 why.1)

pub returns-in_err-index-clause-asks : goal.returns-in_err-index-clause-asks
returns-in_err-index-clause-asks g c = file_stopped g.F.Shelf.told _ _ _ c.in_err-index.field-0.0 c.from_residual.result c.from_residual.ensures.1 c.in_err-index.ensures.asks

pub returns-clause-asks : goal.returns-clause-asks
returns-clause-asks g c = inl (file_asked g.F.Shelf.told _ _ _ c.in_ok-index.index c.in_ok-index.ensures.asks)

pub returns-in_err-last-clause-asks : goal.returns-in_err-last-clause-asks
returns-in_err-last-clause-asks g c = inl (file_asked g.F.Shelf.told _ _ _ c.in_ok-index.index c.in_ok-index.ensures.asks)

pub returns-in_err-index-clause-stopped : goal.returns-in_err-index-clause-stopped
returns-in_err-index-clause-stopped g c = said_on (StopsAt c.args.ulid 2) c.from_residual.result c.in_err-index.field-0.0 c.from_residual.ensures.1 (file_last c.args.ulid 1 2 (Index c.args.ulid) refl refl c.in_err-index.field-0.0 c.in_err-index.ensures.stopped)

pub returns-in_err-last-clause-stopped : goal.returns-in_err-last-clause-stopped
returns-in_err-last-clause-stopped g c =
    let why = c.in_err-last.ensures.stopped in
    said_on (StopsAt c.args.ulid 2) c.from_residual-in_err-last.result c.in_err-last.field-0.0 c.from_residual-in_err-last.ensures.1
    (index_second c.args.ulid c.in_ok-index.index c.in_ok-index.ensures.within c.bytes.result.now c.bytes.ensures why.0 c.in_err-last.field-0.0 why.2 why.1)

pub returns-in_err-last-clause-kept : goal.returns-in_err-last-clause-kept
returns-in_err-last-clause-kept g c =
    let why = c.in_err-last.ensures.stopped in
    kept_as g.F.Shelf.told _ _ false (was_fault c.from_residual-in_err-last.result) (sym (calm_on c.from_residual-in_err-last.result c.in_err-last.field-0.0 why.0 c.from_residual-in_err-last.ensures.1 why.1)) c.in_ok-index.ensures.kept
