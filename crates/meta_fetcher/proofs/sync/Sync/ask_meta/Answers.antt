use Rattle.std.proofs.Common.{refl, []}
use Rattle.meta_fetcher.proofs.sync.Sync.ask_meta.Goals as goal

pub returns-clause-leads : goal.returns-clause-leads
returns-clause-leads c = record { lawful = tt; asks = refl; onward = λ entries end run. run [] 0 tt }
