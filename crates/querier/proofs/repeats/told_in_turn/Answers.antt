use Rattle.std.proofs.Common.{◌++◌, ◌∷◌, [], List, sym, ap, subst, ◌∙◌}
use Rattle.querier.specs.Gathered.{TellTheSame}
use Rattle.querier.specs.declared.answer.Answer.{Answer}
use Rattle.querier.proofs.Compared.{told_itself}
use Rattle.querier.proofs.repeats.told_in_turn.Goals as goal

pub loop-answer-init : goal.loop-answer-init
loop-answer-init c =
    subst (TellTheSame (c.args.first ∷ [])) (sym (c.in_ok-push.ensures.items ∙ ap (λ (xs : List Answer). xs ++ c.args.first ∷ []) c.new-told.ensures.items)) (told_itself (c.args.first ∷ []))

pub loop-answer-preserved : goal.loop-answer-preserved
loop-answer-preserved c = c.in_ok-tell_once.ensures (c.args.first ∷ c.loop-answer.yielded) c.loop-answer.invariant
