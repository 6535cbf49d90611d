use Rattle.std.proofs.Common.{ap, inr, refl}
use Rattle.std.specs.Option.{option_copied}
use Rattle.std.proofs.lemmas.Result.{err_from_is_err_and}
use Rattle.script_fields.specs.LineRefusals.{bad}
use Rattle.script_fields.specs.Samples.{samples_from, texts_of}
use Rattle.script_fields.proofs.SampleLists.{after_none, less_left, sample_more, sample_refused, samples_end}
use Rattle.script_fields.proofs.samples.all_samples.Goals as goal

pub loop-left-init : goal.loop-left-init
loop-left-init c = rw c.new-samples.ensures (after_none (samples_from (texts_of c.args.texts.now)))

pub loop-left-smaller : goal.loop-left-smaller
loop-left-smaller c =
    less_left (option_copied c.loop-left.left) c.in-Some.text.now c.next_field.result.0.now (option_copied c.next_field.result.1) (ap option_copied c.in-Some.is) c.next_field.ensures

pub loop-left-preserved : goal.loop-left-preserved
loop-left-preserved c =
    sample_more (option_copied c.loop-left.left) c.in-Some.text.now c.next_field.result.0.now (option_copied c.next_field.result.1) c.loop-left.samples _ c.in_ok-read_sample.field-0 _ (ap option_copied c.in-Some.is) c.next_field.ensures c.in_ok-read_sample.ensures c.in_ok-push.ensures.ok c.loop-left.invariant

pub returns-in_err-read_sample : goal.returns-in_err-read_sample
returns-in_err-read_sample c =
    let p = err_from_is_err_and c.from_residual.result c.from_residual.ensures.1 in
    let refused = sample_refused (option_copied c.loop-left.left) c.in-Some.text.now c.next_field.result.0.now (option_copied c.next_field.result.1) c.loop-left.samples _ c.in_err-read_sample.field-0.0 (ap option_copied c.in-Some.is) c.next_field.ensures c.in_err-read_sample.ensures c.loop-left.invariant in
    rw (p.1, p.2, refused) (inr refl)

pub returns : goal.returns
returns c =
    ap bad (samples_end (option_copied c.loop-left.left) c.loop-left.samples _ (ap option_copied c.in_default.is) c.loop-left.invariant)
