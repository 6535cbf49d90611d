use Rattle.std.proofs.Common.{inl, refl}
use Rattle.block_keys.specs.declared.key.Key.TheVariants.{Meta}
use Rattle.block_meta.specs.MetaFields.{fields_of}
use Rattle.block_loading.specs.Loading.{StopsAt}
use Rattle.block_loading.specs.LoadReading.{file_at, meta_at}
use Rattle.block_loading.proofs.Stopped.{said_on, file_last, meta_first, of_text}
use Rattle.block_loading.proofs.LoadSteps.{stops, stops_first, no_meta, meta_read, meta_stopped}
use Rattle.block_loading.proofs.Asked.{file_asked, file_stopped}
use Rattle.block_loading.proofs.reading.read_meta.Goals as goal

pub returns-in_err-text-clause-read : goal.returns-in_err-text-clause-read
returns-in_err-text-clause-read g c = λ told h. stops fields_of (meta_at told c.args.ulid) c.from_residual.result c.in_err-text.field-0.0 c.from_residual.ensures.1
    (stops_first (file_at told (Meta c.args.ulid)) (meta_at told c.args.ulid) c.in_err-text.field-0.0 (no_meta told c.args.ulid c.in_err-text.field-0.0) (c.in_err-text.ensures.read told h))

pub returns-in-Ok-clause-read : goal.returns-in-Ok-clause-read
returns-in-Ok-clause-read g c = λ told h. meta_read told c.args.ulid c.in_ok-text.text c.bytes.result.now (c.in_ok-text.ensures.read told h) c.bytes.ensures (fields_of c.in-Ok.meta) c.in-Ok.ensures.gives

pub returns-clause-read : goal.returns-clause-read
returns-clause-read g c = λ told h. meta_stopped told c.args.ulid c.in_ok-text.text c.bytes.result.now (c.in_ok-text.ensures.read told h) c.bytes.ensures c.in-Err.refusal c.refused_meta.result c.in-Err.ensures.gives c.refused_meta.ensures

pub returns-in_err-text-clause-asks : goal.returns-in_err-text-clause-asks
returns-in_err-text-clause-asks g c = file_stopped g.F.Shelf.told _ _ _ c.in_err-text.field-0.0 c.from_residual.result c.from_residual.ensures.1 c.in_err-text.ensures.asks

pub returns-in-Ok-clause-asks : goal.returns-in-Ok-clause-asks
returns-in-Ok-clause-asks g c = inl (file_asked g.F.Shelf.told _ _ _ c.in_ok-text.text c.in_ok-text.ensures.asks)

pub returns-clause-asks : goal.returns-clause-asks
returns-clause-asks g c = inl (file_asked g.F.Shelf.told _ _ _ c.in_ok-text.text c.in_ok-text.ensures.asks)

pub returns-in-Ok-clause-within : goal.returns-in-Ok-clause-within
returns-in-Ok-clause-within g c = of_text c.in_ok-text.text c.bytes.result.now (fields_of c.in-Ok.meta) c.bytes.ensures c.in_ok-text.ensures.within c.in-Ok.ensures.gives c.in-Ok.ensures.few

pub returns-in_err-text-clause-stopped : goal.returns-in_err-text-clause-stopped
returns-in_err-text-clause-stopped g c = said_on (StopsAt c.args.ulid 1) c.from_residual.result c.in_err-text.field-0.0 c.from_residual.ensures.1 (file_last c.args.ulid 0 1 (Meta c.args.ulid) refl refl c.in_err-text.field-0.0 c.in_err-text.ensures.stopped)

pub returns-clause-stopped : goal.returns-clause-stopped
returns-clause-stopped g c = meta_first c.args.ulid c.in_ok-text.text c.in_ok-text.ensures.within c.bytes.result.now c.bytes.ensures c.in-Err.refusal c.refused_meta.result c.in-Err.ensures.gives c.refused_meta.ensures
