use Rattle.std.proofs.Common.{◌≡◌, drop, sym, ◌∙◌}
use Rattle.shipper.proofs.Steps.{waits_first, some_wait, waits_behind, asks_put}
use Rattle.shipper.proofs.upload.Upload.put_at.Goals as goal

pub take_first-object-requires : goal.take_first-object-requires
take_first-object-requires c =
    let m = c.args.self.now in
    some_wait m.objects.value.items m.waiting.items c.args.place (waits_first m.stage m.objects.value.items m.waiting.items m.place c.args.place m.rest c.requires.next) c.requires.some

pub invariant_of-self : goal.invariant_of-self
invariant_of-self c =
    let m = c.args.self.now in
    let from : m.waiting.items ≡ drop c.args.place m.objects.value.items = waits_first m.stage m.objects.value.items m.waiting.items m.place c.args.place m.rest c.requires.next in
    record {
      keys = m.keys;
      few = m.few;
      within = c.requires.some;
      rest = waits_behind m.objects.value.items c.take_first-object.new.waiting.items c.args.place c.take_first-object.result c.requires.some (sym from ∙ c.take_first-object.ensures);
    }

pub returns-clause-puts : goal.returns-clause-puts
returns-clause-puts c =
    let m = c.args.self.now in
    let from : m.waiting.items ≡ drop c.args.place m.objects.value.items = waits_first m.stage m.objects.value.items m.waiting.items m.place c.args.place m.rest c.requires.next in
    asks_put m.objects.value.items c.take_first-object.new.waiting.items c.args.place c.take_first-object.result (sym from ∙ c.take_first-object.ensures)
