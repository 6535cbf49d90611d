use Rattle.series_selection.proofs.Endings.{selected_ending, read_all, refused_first}
use Rattle.series_selection.proofs.Answered.{selects, found, same, matching, wanting, agrees}
use Rattle.series_selection.proofs.selection.select_postings.Goals as goal

pub returns-clause-selects : goal.returns-clause-selects
returns-clause-selects c = selects c.args.index.now c.args.external.now c.args.selector.now c.selected_numbers.result c.selected_numbers.ensures.gives c.selected_numbers.ensures.rises

pub returns-clause-read : goal.returns-clause-read
returns-clause-read c = read_all (λ x. x) c.selected_numbers.result _ _ (selected_ending c.args.index.now c.args.external.now c.args.selector.now) c.selected_numbers.ensures.gives

pub returns-clause-refused : goal.returns-clause-refused
returns-clause-refused c = refused_first (λ x. x) c.selected_numbers.result _ _ (selected_ending c.args.index.now c.args.external.now c.args.selector.now) c.selected_numbers.ensures.gives

pub returns-clause-found : goal.returns-clause-found
returns-clause-found c = λ opened is. found c.args.index.now c.args.external.now c.args.selector.now opened is c.selected_numbers.result c.selected_numbers.ensures.gives c.selected_numbers.ensures.rises c.selected_numbers.ensures.stand

pub returns-clause-same : goal.returns-clause-same
returns-clause-same c = λ opened is lies. same c.args.index.now c.args.external.now c.args.selector.now opened is lies c.selected_numbers.result (returns-clause-refused c)

pub returns-clause-matching : goal.returns-clause-matching
returns-clause-matching c = λ bytes list is of_it replicas none. matching c.args.index.now c.args.external.now c.args.selector.now bytes list is replicas none c.selected_numbers.result (returns-clause-found c is.opened of_it)

pub returns-clause-wanting : goal.returns-clause-wanting
returns-clause-wanting c = λ bytes list is of_it lies. wanting c.args.index.now c.args.external.now c.args.selector.now bytes list is c.selected_numbers.result (returns-clause-same c is.opened of_it lies)

pub returns-clause-agrees : goal.returns-clause-agrees
returns-clause-agrees c = λ whole list is replicas none. agrees c.args.index.now c.args.external.now c.args.selector.now whole list is replicas none c.selected_numbers.result c.selected_numbers.ensures.gives c.selected_numbers.ensures.rises c.selected_numbers.ensures.stand (returns-clause-refused c)
