use Rattle.std.proofs.Common.{◌≡◌, ◌<◌, ◌++◌, ◌∷◌, ◌∙◌, List, length, take, drop, ap, subst, arith}
use Rattle.std.proofs.lemmas.Result.{IfOk-weaker}
use Rattle.std.proofs.lemmas.List.{take-append-le, take_all}
use Rattle.querier.specs.Gathered.{TellTheSame}
use Rattle.querier.specs.declared.answer.Answer.{Answer}
use Rattle.querier.proofs.Compared.{compared_told, told_itself}
use Rattle.querier.proofs.repeats.without_repeats.Goals as goal

pub returns-then-is_empty : goal.returns-then-is_empty
returns-then-is_empty g c = told_itself c.args.answers.items

pub returns : goal.returns
returns g c =
    let first = c.remove-first.result in
    let items = c.remove-first.new.self.items in
    let after = c.compare_all.new.others in
    let some : 0 < length c.args.answers.items = let ok = c.args.answers.ok in omega (arith, c.remove-first.ensures.len) in
    let same : length after ≡ length items = c.compare_all.auto.others ∙ ap length c.as_mut_slice.ensures.value in
    let long : length after ≡ c.remove-first.new.self.len = (let b = c.remove-first.new.self.ok in omega (arith, same)) in
    let whole = take-append-le c.remove-first.new.self.len after (drop (length after) items) (omega (arith, long)) ∙ take_all c.remove-first.new.self.len after (omega (arith, long)) in
    IfOk-weaker c.told_in_turn.result (λ told. TellTheSame (first ∷ take c.remove-first.new.self.len (after ++ drop (length after) items)) told.items) (λ told. TellTheSame c.args.answers.items told.items)
    (λ told tells. compared_told c.args.answers.items c.as_mut_slice.result.now after told.items first some c.remove-first.ensures.value (c.as_mut_slice.ensures.value ∙ c.remove-first.ensures.items)
    c.compare_all.auto.others c.compare_all.ensures (subst (λ (xs : List Answer). TellTheSame (first ∷ xs) told.items) whole tells))
    c.told_in_turn.ensures
