use Rattle.lifecycle_core.proofs.answers.NamedUploads.{none_left_out}
use Rattle.lifecycle_core.proofs.laws.settled_uploads_are_named.Goals as goal

pub returns : goal.returns
returns c = none_left_out
