use Rattle.lifecycle_core.proofs.laws.unbroken_journals_miss_nothing.Goals as goal

pub returns : goal.returns
returns c = λ setting journal ends explained unbroken end number came missing. let x = explained end number came missing in unbroken x.before x.after x.entry x.parts x.rule x.x x.y x.refused
