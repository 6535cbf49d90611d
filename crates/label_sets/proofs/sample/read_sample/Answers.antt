use Rattle.std.proofs.Common.{None, sym, arith}
use Rattle.std.proofs.lemmas.Str.Pattern.{split_once_first}
use Rattle.label_sets.proofs.SampleTexts.{uncut}
use Rattle.label_sets.proofs.sample.read_sample.Goals as goal

pub returns-in_default : goal.returns-in_default
returns-in_default c = sym (uncut _ (split_once_first _ _ None c.in_default.ensures.cases (omega arith)))
