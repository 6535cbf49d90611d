use Rattle.std.proofs.Common.{Some, ap, refl}
use Rattle.call_verdicts.proofs.HandedBack.{back_of, untouched_of}
use Rattle.call_verdicts.proofs.ended.Ended.of_run.Goals as goal

pub returns : goal.returns
returns g c = record {
  verdict = refl;
  journal = ap (λ es. Some es) c.into_parts-note.ensures.journal;
  store = ap (λ b. Some b) c.into_parts-note.ensures.bucket;
  note = c.into_parts-note.ensures.note;
  shelf = refl;
  back = back_of g.B.Bucket.told _ _ _ _ _ c.into_parts-note.ensures.journal c.into_parts-note.ensures.bucket refl refl c.into_parts-note.ensures.holds;
  untouched = untouched_of g.B.Bucket.told _ _ _ _ _ c.into_parts-note.ensures.journal c.into_parts-note.ensures.bucket refl refl c.into_parts-note.ensures.holds;
}
