use Rattle.std.proofs.Common.{◌≤◌, ap, length, subst, sym, arith}
use Rattle.compactor.specs.ReadRoom.{most_off}
use Rattle.compactor.proofs.ReadRooms.{named_each}
use Rattle.compactor.proofs.reads.Reads.next_block.Goals as goal

pub returns-in-None-clause-fits : goal.returns-in-None-clause-fits
returns-in-None-clause-fits c = record {
  moment = c.requires.moment;
  many = omega (arith, c.requires.many, ap length c.replace-inputs.ensures.value, c.in-None.ensures.cases.0, c.args.self.now.waiting.ok.0);
  named = named_each c.replace-inputs.result (subst (λ l. most_off l ≤ 0) (sym c.replace-inputs.ensures.value) c.args.self.now.named);
}
