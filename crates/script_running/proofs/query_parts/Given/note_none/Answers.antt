use Rattle.script_running.proofs.GivenParts.{none_kept, none_put}
use Rattle.script_running.proofs.query_parts.Given.note_none.Goals as goal

pub returns-then-is_none : goal.returns-then-is_none
returns-then-is_none c = λ parts part gives count h. none_put parts part c.args.self.now c.args.gateway c.args.why c.is_none.result c.is_none.ensures c.if-is_none.true gives count h

pub returns-else-is_none : goal.returns-else-is_none
returns-else-is_none c = λ parts part gives count h. none_kept parts part c.args.self.now c.args.gateway c.args.why c.is_none.result c.is_none.ensures c.if-is_none.false gives count h
