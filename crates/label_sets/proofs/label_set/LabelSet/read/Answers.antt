use Rattle.std.proofs.Common.{ℕ, List}
use Rattle.label_sets.specs.declared.label.Label.{Label}
use Rattle.label_sets.specs.declared.label_set.LabelSet.{LabelSet}
use Rattle.label_sets.proofs.SetLaws.{found_of, only_of}
use Rattle.label_sets.proofs.SetSizes.{members_read}
use Rattle.label_sets.proofs.RefusalLaws.{refused_of, exact_of}
use Rattle.label_sets.proofs.label_set.LabelSet.read.Goals as goal

-- the labels of a set that was read, and how many bytes it took
abbrev labels_read : LabelSet × ℕ → List Label × ℕ
labels_read read = (read.0, read.1)

pub returns-clause-found : goal.returns-clause-found
returns-clause-found c = found_of _ _ _ c.read_front.ensures.gives

pub returns-clause-only : goal.returns-clause-only
returns-clause-only c = λ front after set is e. only_of labels_read c.read_front.result c.args.text.now front after set c.read_front.ensures.gives is e

pub returns-clause-bounded : goal.returns-clause-bounded
returns-clause-bounded c = members_read _ _ _ c.read_front.ensures.gives

pub returns-clause-refused : goal.returns-clause-refused
returns-clause-refused c = refused_of _ _ _ c.read_front.ensures.gives

pub returns-clause-exact : goal.returns-clause-exact
returns-clause-exact c = λ refusal t. exact_of labels_read c.read_front.result c.args.text.now refusal c.read_front.ensures.gives t
