use Rattle.matchers.proofs.FewMatchers.{read_few}
use Rattle.matchers.proofs.OneCause.{only_of, exact_of}
use Rattle.matchers.proofs.selector.Selector.read.Goals as goal

pub returns-clause-only : goal.returns-clause-only
returns-clause-only c = λ selector readable. only_of (λ x. x) c.read_selector.result c.args.text.now c.args.replicas.now selector c.read_selector.ensures.found c.read_selector.ensures.refused readable

pub returns-clause-exact : goal.returns-clause-exact
returns-clause-exact c = λ refusal why. exact_of (λ x. x) c.read_selector.result c.args.text.now c.args.replicas.now refusal c.read_selector.ensures.found c.read_selector.ensures.refused why

pub returns-clause-few : goal.returns-clause-few
returns-clause-few c = read_few (λ x. x) c.read_selector.result c.args.text.now c.args.replicas.now c.read_selector.ensures.found
