use Rattle.script_fields.proofs.Newlines.{first_newline}
use Rattle.script_fields.proofs.fields.newline_place.Goals as goal

pub returns : goal.returns
returns c = first_newline c.args.text.now c.memchr.result c.memchr.ensures
