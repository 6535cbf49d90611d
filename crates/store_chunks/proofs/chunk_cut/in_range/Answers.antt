use Rattle.std.proofs.Common.{rules}
use Rattle.std.proofs.lemmas.Fn.{filter_same}
use Rattle.label_sets.specs.declared.sample.Sample.{Sample}
use Rattle.matchers.specs.Selected.{is_between}
use Rattle.store_chunks.proofs.chunk_cut.in_range.Goals as goal

pub returns : goal.returns
returns c = filter_same _ (λ (s : Sample). is_between c.args.asked.now.low c.args.asked.now.high s.time) _ (λ x b f' k. search rules) _ _ c.retain.ensures.filtered
