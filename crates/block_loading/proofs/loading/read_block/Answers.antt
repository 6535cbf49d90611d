use Rattle.std.proofs.Common.{◌∙◌, ℕ, ◌+◌, ap, sym, refl, inr}
use Rattle.block_meta.specs.MetaFields.{fields_of}
use Rattle.block_loading.specs.Loading.{StopsAt}
use Rattle.block_loading.specs.LoadReading.{meta_at, index_in, segments_at, load_at, parts_of}
use Rattle.block_loading.proofs.Calls.{answered, passed_on}
use Rattle.block_loading.proofs.LoadSteps.{stops, stops_first, without_meta, without_index, without_segment, all_loaded}
use Rattle.block_loading.proofs.Asked.{file_asked}
use Rattle.block_loading.proofs.Stopped.{said_on, fault_on}
use Rattle.block_loading.proofs.AskedBlock.{asked_meta, asked_index, asked_segments, no_value}
use Rattle.block_loading.proofs.loading.read_block.Goals as goal

pub returns-in_err-meta-clause-loaded : goal.returns-in_err-meta-clause-loaded
returns-in_err-meta-clause-loaded g c = λ told h. stops parts_of (load_at told c.args.ulid) c.from_residual.result c.in_err-meta.field-0.0 c.from_residual.ensures.1
    (stops_first (meta_at told c.args.ulid) (load_at told c.args.ulid) c.in_err-meta.field-0.0 (without_meta told c.args.ulid c.in_err-meta.field-0.0) (c.in_err-meta.ensures.read told h))

pub returns-in_err-index-clause-loaded : goal.returns-in_err-index-clause-loaded
returns-in_err-index-clause-loaded g c = λ told h. stops parts_of (load_at told c.args.ulid) c.from_residual-in_err-index.result c.in_err-index.field-0.0 c.from_residual-in_err-index.ensures.1
    (stops_first (index_in told c.args.ulid) (load_at told c.args.ulid) c.in_err-index.field-0.0 (without_index told c.args.ulid (fields_of c.in_ok-meta.meta) (c.in_ok-meta.ensures.read told h) c.in_err-index.field-0.0) (c.in_err-index.ensures.read told (c.in_ok-meta.ensures.kept.same ∙ h)))

pub returns-in_err-segments-clause-loaded : goal.returns-in_err-segments-clause-loaded
returns-in_err-segments-clause-loaded g c = λ told h. stops parts_of (load_at told c.args.ulid) c.from_residual-in_err-segments.result c.in_err-segments.field-0.0 c.from_residual-in_err-segments.ensures.1
    (stops_first (segments_at told c.args.ulid 1 0 c.in_ok-index.last) (load_at told c.args.ulid) c.in_err-segments.field-0.0
    (without_segment told c.args.ulid (fields_of c.in_ok-meta.meta) (c.in_ok-meta.ensures.read told h) c.in_ok-index.index c.in_ok-index.ensures.named.0 (c.in_ok-index.ensures.read told (c.in_ok-meta.ensures.kept.same ∙ h) c.in_ok-index.ensures.named.0 c.in_ok-index.ensures.named.1) c.in_ok-index.last c.in_ok-index.ensures.named.2 c.in_err-segments.field-0.0)
    (c.in_err-segments.ensures.read told (c.in_ok-index.ensures.kept.same ∙ (c.in_ok-meta.ensures.kept.same ∙ h))))

pub returns-clause-loaded : goal.returns-clause-loaded
returns-clause-loaded g c = λ told h. all_loaded told c.args.ulid (fields_of c.in_ok-meta.meta) (c.in_ok-meta.ensures.read told h) c.in_ok-index.index c.in_ok-index.ensures.named.0 (c.in_ok-index.ensures.read told (c.in_ok-meta.ensures.kept.same ∙ h) c.in_ok-index.ensures.named.0 c.in_ok-index.ensures.named.1) c.in_ok-index.last
    c.in_ok-index.ensures.named.2 c.in_ok-segments.segments (c.in_ok-segments.ensures.read told (c.in_ok-index.ensures.kept.same ∙ (c.in_ok-meta.ensures.kept.same ∙ h)))

pub returns-in_err-meta-clause-asks : goal.returns-in_err-meta-clause-asks
returns-in_err-meta-clause-asks g c = asked_meta g.F.Shelf.told _ c.args.ulid c.from_residual.result _ _ c.in_err-meta.field-0.0 c.from_residual.ensures.1 c.in_err-meta.ensures.asks (λ told h. c.in_err-meta.ensures.read told h) c.in_err-meta.ensures.stopped

pub returns-in_err-index-clause-asks : goal.returns-in_err-index-clause-asks
returns-in_err-index-clause-asks g c = asked_index g.F.Shelf.told _ c.args.ulid c.from_residual-in_err-index.result _ _ (file_asked g.F.Shelf.told _ _ _ c.in_ok-meta.meta c.in_ok-meta.ensures.asks) (c.in_ok-meta.ensures.kept.calm refl) (fields_of c.in_ok-meta.meta) (λ told h. c.in_ok-meta.ensures.read told h) _ c.in_err-index.field-0.0 c.from_residual-in_err-index.ensures.1 c.in_err-index.ensures.asks
    (λ told h. c.in_err-index.ensures.read told (c.in_ok-meta.ensures.kept.same ∙ h)) c.in_err-index.ensures.stopped

pub returns-in_err-segments-clause-asks : goal.returns-in_err-segments-clause-asks
returns-in_err-segments-clause-asks g c = asked_segments g.F.Shelf.told _ c.args.ulid c.from_residual-in_err-segments.result _ _ (file_asked g.F.Shelf.told _ _ _ c.in_ok-meta.meta c.in_ok-meta.ensures.asks) (c.in_ok-meta.ensures.kept.calm refl) (fields_of c.in_ok-meta.meta) (λ told h. c.in_ok-meta.ensures.read told h) c.in_ok-index.index c.in_ok-index.ensures.named.0 c.in_ok-index.last _ _ _
    (file_asked g.F.Shelf.told _ _ _ (c.in_ok-index.index, c.in_ok-index.last) c.in_ok-index.ensures.asks) (λ told h. c.in_ok-index.ensures.read told (c.in_ok-meta.ensures.kept.same ∙ h) c.in_ok-index.ensures.named.0 c.in_ok-index.ensures.named.1) c.in_ok-index.ensures.named.2 (c.in_ok-index.ensures.kept.same ∙ c.in_ok-meta.ensures.kept.same) (c.in_ok-index.ensures.kept.calm refl ∙ c.in_ok-meta.ensures.kept.calm refl) c.in_err-segments.ensures.asks
    (λ off. passed_on c.from_residual-in_err-segments.result c.in_err-segments.field-0.0 c.from_residual-in_err-segments.ensures.1 (inr off)) (no_value _ c.from_residual-in_err-segments.result c.in_err-segments.field-0.0 c.from_residual-in_err-segments.ensures.1)
    (λ said. said_on (StopsAt c.args.ulid (2 + c.in_err-segments.ensures.asks.count)) c.from_residual-in_err-segments.result c.in_err-segments.field-0.0 c.from_residual-in_err-segments.ensures.1 said)
    (fault_on c.from_residual-in_err-segments.result c.in_err-segments.field-0.0 c.from_residual-in_err-segments.ensures.1)

pub returns-clause-asks : goal.returns-clause-asks
returns-clause-asks g c = asked_segments g.F.Shelf.told _ c.args.ulid _ _ _ (file_asked g.F.Shelf.told _ _ _ c.in_ok-meta.meta c.in_ok-meta.ensures.asks) (c.in_ok-meta.ensures.kept.calm refl) (fields_of c.in_ok-meta.meta) (λ told h. c.in_ok-meta.ensures.read told h) c.in_ok-index.index c.in_ok-index.ensures.named.0 c.in_ok-index.last _ _ _
    (file_asked g.F.Shelf.told _ _ _ (c.in_ok-index.index, c.in_ok-index.last) c.in_ok-index.ensures.asks) (λ told h. c.in_ok-index.ensures.read told (c.in_ok-meta.ensures.kept.same ∙ h) c.in_ok-index.ensures.named.0 c.in_ok-index.ensures.named.1) c.in_ok-index.ensures.named.2 (c.in_ok-index.ensures.kept.same ∙ c.in_ok-meta.ensures.kept.same) (c.in_ok-index.ensures.kept.calm refl ∙ c.in_ok-meta.ensures.kept.calm refl) c.in_ok-segments.ensures.asks
    (λ off. absurd (answered c.in_ok-segments.segments (inr off))) (ap (λ (n : ℕ). 2 + n) (c.in_ok-segments.ensures.asks.whole ∙ sym c.in_ok-segments.ensures.many)) (λ said. tt) (λ fault. fault)

pub returns-clause-within : goal.returns-clause-within
returns-clause-within g c = record { meta_is = c.in_ok-meta.ensures.within; index_is = c.in_ok-index.ensures.within; segments_are = c.in_ok-segments.ensures.within; together = c.in_ok-segments.ensures.together }

pub returns-clause-named : goal.returns-clause-named
returns-clause-named g c = (c.in_ok-index.ensures.named.0, c.in_ok-index.ensures.named.1, c.in_ok-segments.ensures.many ∙ c.in_ok-index.ensures.named.2)
