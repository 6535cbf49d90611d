use Rattle.std.proofs.Common.{◌≡◌, ◌+◌, ◌-◌, length, ap, arith}
use Rattle.shipper.specs.Limits.{begun}
use Rattle.shipper.specs.UploadStates.{count_at}
use Rattle.shipper.proofs.Steps.{waits_first, last_is, more_wait, put_fails, put_last, put_goes, falls_put}
use Rattle.shipper.proofs.upload.Upload.after_put.Goals as goal

pub returns-in-Failed-clause-goes_on : goal.returns-in-Failed-clause-goes_on
returns-in-Failed-clause-goes_on c = λ seat op asks. put_fails c.args.self.now seat op c.args.seen c.in-Failed.field-0 c.requires.stage asks c.in-Failed.is

pub returns-then-is_empty : goal.returns-then-is_empty
returns-then-is_empty c =
    let m = c.args.self.now in
    let from = waits_first m.stage m.objects.value.items m.waiting.items m.place (m.place + 1) m.rest (ap (λ s. begun s m.place) c.requires.stage) in
    let last = last_is m.objects.value.items m.waiting.items m.place _ c.is_empty.result from m.within m.waiting.ok.0 c.is_empty.ensures c.if-is_empty.true in
    record {
      goes_on = λ seat op asks. put_last m seat op c.args.seen c.requires.stage c.requires.answer c.in_default.not-Failed asks last;
      falls = tt;
    }

pub put_at-requires-clause-next : goal.put_at-requires-clause-next
put_at-requires-clause-next c = ap (λ s. begun s c.args.self.now.place) c.requires.stage

pub put_at-requires-clause-some : goal.put_at-requires-clause-some
put_at-requires-clause-some c =
    let m = c.args.self.now in
    let from = waits_first m.stage m.objects.value.items m.waiting.items m.place (m.place + 1) m.rest (ap (λ s. begun s m.place) c.requires.stage) in
    more_wait m.objects.value.items m.waiting.items m.place _ c.is_empty.result from m.waiting.ok.0 c.is_empty.ensures c.if-is_empty.false

pub returns : goal.returns
returns c =
    let m = c.args.self.now in
    record {
      goes_on = λ seat op asks. put_goes m seat op c.args.seen c.requires.stage c.requires.answer c.in_default.not-Failed asks
          c.put_at.new.self c.put_at.result c.put_at.ensures.puts c.put_at.ensures.waits c.put_at.ensures.objects c.put_at.ensures.place;
      falls = falls_put _ c.put_at.new.self m.objects.value.items (m.place + 1) c.put_at.result c.put_at.ensures.puts c.put_at.ensures.waits c.put_at.ensures.objects c.put_at.ensures.place
          (let e : count_at m.stage m.objects.value.items m.place ≡ length m.objects.value.items - m.place = ap (λ s. count_at s m.objects.value.items m.place) c.requires.stage in omega (arith, e, m.within));
    }
