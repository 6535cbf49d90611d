use Rattle.std.proofs.Common.{Some, None}
use Rattle.block_content.proofs.SlashNames.{cut_behind}
use Rattle.block_content.proofs.shipping.behind_slash.Goals as goal

pub returns-in-Some : goal.returns-in-Some
returns-in-Some c = λ before rest is. (cut_behind c.args.text.now before rest (Some (c.in-Some.field-0-0, c.in-Some.rest)) c.in-Some.ensures.cases is).1

pub returns-in-None : goal.returns-in-None
returns-in-None c = λ before rest is. absurd (cut_behind c.args.text.now before rest None c.in-None.ensures.cases is)
