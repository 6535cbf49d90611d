use Rattle.std.proofs.Common.{not, ◌==◌, length, lit<, rules, tests}
use Rattle.std.proofs.lemmas.Iterator.Search.{all_from_yields_List}
use Rattle.std.proofs.lemmas.Iterator.Splits.{YieldsList-from_str_split}
use Rattle.script_fields.proofs.samples.are_whole.Goals as goal

pub returns : goal.returns
returns c =
    all_from_yields_List (λ text. not (length text == 0)) _ _ _ c.all.ensures.ran (YieldsList-from_str_split 32 c.args.texts.now (lit< tt) c.split.ensures.text c.split.ensures.has_more c.split.ensures.pattern) (λ x b q k. search (rules, tests))
