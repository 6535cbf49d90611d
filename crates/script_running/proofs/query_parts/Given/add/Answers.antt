use Rattle.std.proofs.Common.{ap}
use Rattle.script_running.specs.Outcomes.{why_none}
use Rattle.script_running.proofs.GivenParts.{answer_added, unasked_added}
use Rattle.script_running.proofs.query_parts.Given.add.Goals as goal

pub returns-in-NotAsked : goal.returns-in-NotAsked
returns-in-NotAsked c = λ parts count h. unasked_added parts c.args.self.now c.args.part c.in-NotAsked.is h

pub returns-in-NoView : goal.returns-in-NoView
returns-in-NoView c = λ parts count h. c.note_none.ensures parts c.args.part (ap why_none c.in-NoView.is) count h

pub returns-in_ok-push-in-Answer : goal.returns-in_ok-push-in-Answer
returns-in_ok-push-in-Answer c = λ parts count h.
    answer_added parts c.args.self.now c.take.new.self c.push.new.self c.args.gateway c.in-Answer.answer c.in-Answer.field-1 c.in_ok-sources-in-Answer.sources c.args.part c.take.result
    c.in-Answer.is c.in_ok-sources-in-Answer.ensures c.take.ensures.ok c.in_ok-push-in-Answer.ensures.ok count h

pub returns-in-NoAnswer : goal.returns-in-NoAnswer
returns-in-NoAnswer c = λ parts count h. c.note_none-in-NoAnswer.ensures parts c.args.part (ap why_none c.in-NoAnswer.is) count h
