use Rattle.std.proofs.Common.{◌∙◌, sym}
use Rattle.label_sets.proofs.SampleTexts.{found_of, sample_of-only, sample_of-large, sample_of-large_again, sample_of-none, sample_of-none_again}
use Rattle.label_sets.proofs.sample.Sample.read.Goals as goal

pub returns-clause-found : goal.returns-clause-found
returns-clause-found c = found_of _ _ c.read_sample.ensures

pub returns-clause-only : goal.returns-clause-only
returns-clause-only c = λ sample fits small is. c.read_sample.ensures ∙ sample_of-only _ _ fits small is

pub returns-clause-out_of_range : goal.returns-clause-out_of_range
returns-clause-out_of_range c = (
  λ e. sample_of-large c.args.text.now (sym c.read_sample.ensures ∙ e),
  λ w. c.read_sample.ensures ∙ sample_of-large_again _ _ _ w.2 w.3 w.4,
)

pub returns-clause-no_sample : goal.returns-clause-no_sample
returns-clause-no_sample c = (
  λ e. sample_of-none c.args.text.now (sym c.read_sample.ensures ∙ e),
  λ none. c.read_sample.ensures ∙ sample_of-none_again _ none,
)
