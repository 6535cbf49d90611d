use Rattle.script_core.proofs.FewMembers.{few_of}
use Rattle.script_core.proofs.ReadScripts.{found_of, only_of, lawful_of, gives_of}
use Rattle.script_core.proofs.script.Script.read.Goals as goal

pub returns-clause-found : goal.returns-clause-found
returns-clause-found c = found_of c.args.text.now c.read_script.result c.read_script.ensures

pub returns-clause-lawful : goal.returns-clause-lawful
returns-clause-lawful c = lawful_of c.args.text.now c.read_script.result c.read_script.ensures

pub returns-clause-only : goal.returns-clause-only
returns-clause-only c script spells = only_of c.args.text.now c.read_script.result c.read_script.ensures script spells

pub returns-clause-bounded : goal.returns-clause-bounded
returns-clause-bounded c = few_of c.args.text.now c.read_script.result c.read_script.ensures

pub returns-clause-gives : goal.returns-clause-gives
returns-clause-gives c = gives_of c.args.text.now c.read_script.result c.read_script.ensures
