use Rattle.std.proofs.Common.{ℕ, List, [], ◌∷◌, length, ◌+◌, ◌-◌, ap, sym, subst, ◌∙◌, false, refl, arith}
use Rattle.std.proofs.lemmas.List.{length-append}
use Rattle.std.proofs.lemmas.List.Sums.{sum_by_push}
use Rattle.block_keys.specs.declared.key.Key.TheVariants.{Segment}
use Rattle.block_loading.specs.Loading.{HasSegments}
use Rattle.block_loading.specs.LoadReading.{segment_at, segments_at}
use Rattle.block_loading.proofs.Kept.{kept_here, kept_then}
use Rattle.block_loading.proofs.LoadSteps.{stops, stops_first}
use Rattle.block_loading.proofs.SegmentLaws.{with_front, size_of, read_start, read_step, read_stop, read_end}
use Rattle.block_loading.proofs.Asked.{asks_first, file_asked}
use Rattle.block_loading.proofs.Stopped.{none_large, one_more}
use Rattle.block_loading.proofs.AskedSegments.{stand_none, stand_more, asked_one, segment_stopped, segment_unkept, segments_ended}
use Rattle.block_loading.proofs.reading.read_segments.Goals as goal

pub returns-in_err-segment-clause-read : goal.returns-in_err-segment-clause-read
returns-in_err-segment-clause-read g c = λ told h. stops (λ segments. segments) (segments_at told c.args.ulid 1 0 c.args.last) c.from_residual.result c.in_err-segment.field-0.0 c.from_residual.ensures.1
    (stops_first (segment_at told (Segment c.args.ulid (c.loop-number.number + 1)) c.loop-number.bytes) (segments_at told c.args.ulid 1 0 c.args.last) c.in_err-segment.field-0.0
    (λ refused. read_stop told c.args.ulid c.args.last c.loop-number.number c.loop-number.bytes c.loop-number.segments c.in_err-segment.field-0.0 (c.loop-number.invariant.read told h) c.loop-number-test.true refused)
    (c.in_err-segment.ensures.read told (c.loop-number.invariant.kept.same ∙ h)))

pub loop-number-preserved : goal.loop-number-preserved
loop-number-preserved g c = record {
  many = let before = c.loop-number.invariant.many in omega (arith, before, ap length c.in_ok-push.ensures.ok, length-append c.loop-number.segments (c.in_ok-segment.segment ∷ []));
  read = λ told h. read_step told c.args.ulid c.args.last c.loop-number.number c.loop-number.bytes (c.loop-number.bytes + length c.bytes.result.now) c.loop-number.segments c.in_ok-segment.segment (c.loop-number.invariant.read told h) c.loop-number-test.true (c.in_ok-segment.ensures.read told (c.loop-number.invariant.kept.same ∙ h)) (ap (λ (b : List ℕ). c.loop-number.bytes + length b) c.bytes.ensures)
      ∙ ap (λ xs. with_front xs (segments_at told c.args.ulid ((c.loop-number.number + 1) + 1) (c.loop-number.bytes + length c.bytes.result.now) (c.args.last - (c.loop-number.number + 1)))) (sym c.in_ok-push.ensures.ok);
  asked = asked_one g.F.Shelf.told c.args.ulid c.args.shelf.now c.loop-number.shelf c.read_segment.new.shelf c.loop-number.number c.loop-number.invariant.asked (file_asked g.F.Shelf.told _ _ _ c.in_ok-segment.segment c.in_ok-segment.ensures.asks);
  stood = λ told h. subst (HasSegments told c.args.ulid) (sym c.in_ok-push.ensures.ok) (stand_more told c.args.ulid c.loop-number.segments c.loop-number.number c.loop-number.bytes c.in_ok-segment.segment (c.loop-number.invariant.stood told h) c.loop-number.invariant.many c.loop-number.invariant.counted (c.in_ok-segment.ensures.read told (c.loop-number.invariant.kept.same ∙ h)));
  counted = omega (arith, c.loop-number.invariant.counted, ap length c.bytes.ensures, ap size_of c.in_ok-push.ensures.ok, sum_by_push length c.loop-number.segments c.in_ok-segment.segment);
  together = omega (arith, c.in_ok-segment.ensures.together, ap length c.bytes.ensures);
  sized = one_more c.loop-number.segments _ c.in_ok-segment.segment c.in_ok-push.ensures.ok c.loop-number.invariant.sized c.in_ok-segment.ensures.within;
  kept = kept_then g.F.Shelf.told c.args.shelf.now c.loop-number.shelf c.read_segment.new.shelf false c.loop-number.invariant.kept c.in_ok-segment.ensures.kept;
}

pub returns-clause-read : goal.returns-clause-read
returns-clause-read g c = λ told h. read_end told c.args.ulid c.args.last c.loop-number.number c.loop-number.bytes c.loop-number.segments (c.loop-number.invariant.read told h) (omega arith)

pub loop-number-init : goal.loop-number-init
loop-number-init g c = record {
  many = ap length c.new-segments.ensures;
  read = λ told h. read_start told c.args.ulid c.args.last ∙ ap (λ xs. with_front xs (segments_at told c.args.ulid 1 0 (c.args.last - 0))) (sym c.new-segments.ensures);
  asked = asks_first g.F.Shelf.told c.args.shelf.now c.args.ulid 2;
  stood = λ told h. subst (HasSegments told c.args.ulid) (sym c.new-segments.ensures) (stand_none told c.args.ulid);
  counted = ap size_of (sym c.new-segments.ensures);
  together = omega arith;
  sized = none_large _ c.new-segments.ensures;
  kept = kept_here g.F.Shelf.told c.args.shelf.now;
}

pub returns-in_err-segment-clause-asks : goal.returns-in_err-segment-clause-asks
returns-in_err-segment-clause-asks g c = segment_stopped g.F.Shelf.told c.args.ulid c.args.last c.from_residual.result c.args.shelf.now c.loop-number.shelf c.loop-number.number c.loop-number.segments c.loop-number.invariant.asked c.loop-number.invariant.stood c.loop-number.invariant.many c.loop-number.bytes c.loop-number.invariant.counted (c.loop-number.invariant.kept.calm refl) c.loop-number-test.true c.read_segment.new.shelf c.in_err-segment.field-0.0 c.from_residual.ensures.1 c.in_err-segment.ensures.asks
    (λ told h. c.in_err-segment.ensures.read told (c.loop-number.invariant.kept.same ∙ h)) c.in_err-segment.ensures.stopped

pub returns-in_err-push-clause-asks : goal.returns-in_err-push-clause-asks
returns-in_err-push-clause-asks g c = segment_unkept g.F.Shelf.told c.args.ulid c.args.last _ c.args.shelf.now c.loop-number.shelf c.loop-number.number c.loop-number.segments c.loop-number.invariant.asked c.loop-number.invariant.stood c.loop-number.invariant.many c.loop-number.bytes c.loop-number.invariant.counted (c.loop-number.invariant.kept.calm refl) c.loop-number-test.true c.read_segment.new.shelf c.from_residual-in_err-push.ensures.1 (file_asked g.F.Shelf.told _ _ _ c.in_ok-segment.segment c.in_ok-segment.ensures.asks)

pub returns-clause-asks : goal.returns-clause-asks
returns-clause-asks g c = segments_ended g.F.Shelf.told c.args.ulid c.args.last _ c.args.shelf.now c.loop-number.shelf c.loop-number.number c.loop-number.segments c.loop-number.invariant.asked c.loop-number.invariant.stood c.loop-number.invariant.many c.loop-number.bytes c.loop-number.invariant.counted (c.loop-number.invariant.kept.calm refl) (let end = c.loop-number.auto.number-end in omega (arith, end)) tt refl

pub returns-clause-together : goal.returns-clause-together
returns-clause-together g c = let few = c.loop-number.invariant.together in let counted = c.loop-number.invariant.counted in omega (arith, few, counted)
