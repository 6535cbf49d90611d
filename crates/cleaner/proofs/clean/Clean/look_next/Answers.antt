use Rattle.std.proofs.Common.{refl, sym, []}
use Rattle.std.proofs.lemmas.List.{nil_from_length}
use Rattle.std.proofs.Common.{◌∙◌}
use Rattle.cleaner.proofs.Blocks.{next_block, no_block}
use Rattle.cleaner.proofs.clean.Clean.look_next.Goals as goal

pub returns-in-Some-clause-leads : goal.returns-in-Some-clause-leads
returns-in-Some-clause-leads c = record {
  lawful = tt;
  asks = refl;
  onward = λ entries end run. next_block c.args.self.now c.in-Some.ulid c.pop_front.new.self.items entries end c.in-Some.ensures.items (λ can. run [] 0 can);
}

pub returns-in-None-clause-leads : goal.returns-in-None-clause-leads
returns-in-None-clause-leads c = no_block c.args.self.now (nil_from_length c.args.self.now.waiting.items (sym c.args.self.now.waiting.ok.0 ∙ c.in-None.ensures.cases.0))
