use Rattle.std.proofs.Common.{refl, arith}
use Rattle.std.proofs.lemmas.Bool.{lt-ltb, le-ltb}
use Rattle.index_v2.proofs.sizes.list_size.Goals as goal

pub returns-then-at-part : goal.returns-then-at-part
returns-then-at-part c = rw (lt-ltb c.args.at c.args.part.begin (omega arith)) refl

pub returns : goal.returns
returns c = rw (le-ltb c.args.at c.args.part.begin (omega arith)) c.size_at.ensures
