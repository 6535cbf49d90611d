use Rattle.std.proofs.Common.{◌≡◌, ◌+◌, length, ap, arith}
use Rattle.shipper.specs.Limits.{begun}
use Rattle.shipper.specs.UploadStates.{count_at}
use Rattle.shipper.proofs.Steps.{look_goes, falls_put}
use Rattle.shipper.proofs.upload.Upload.after_look.Goals as goal

pub put_at-requires-clause-next : goal.put_at-requires-clause-next
put_at-requires-clause-next c = ap (λ s. begun s c.args.self.now.place) c.requires.stage

pub put_at-requires-clause-some : goal.put_at-requires-clause-some
put_at-requires-clause-some c = omega (arith, c.args.self.now.within)

pub returns : goal.returns
returns c =
    let m = c.args.self.now in
    record {
      goes_on = λ seat op asks. look_goes m c.put_at.new.self seat op c.args.seen c.put_at.result c.requires.stage c.requires.answer
          c.in_default.not-Found c.in_default.not-Failed c.put_at.ensures.puts c.put_at.ensures.waits c.put_at.ensures.objects c.put_at.ensures.place asks;
      falls = falls_put _ c.put_at.new.self m.objects.value.items 0 c.put_at.result c.put_at.ensures.puts c.put_at.ensures.waits c.put_at.ensures.objects c.put_at.ensures.place
          (let e : count_at m.stage m.objects.value.items m.place ≡ length m.objects.value.items + 1 = ap (λ s. count_at s m.objects.value.items m.place) c.requires.stage in omega (arith, e));
    }
