use Rattle.std.proofs.Common.{◌++◌, ◌∷◌, [], sym, subst}
use Rattle.std.specs.Prelude.{Contains}
use Rattle.querier.specs.Gathered.{TellTheSame}
use Rattle.querier.proofs.ToldOnce.{told_more, told_again}
use Rattle.querier.proofs.repeats.tell_once.Goals as goal

pub returns-in_ok-push : goal.returns-in_ok-push
returns-in_ok-push c answers same = subst (TellTheSame (answers ++ c.args.answer ∷ [])) (sym c.in_ok-push.ensures.items) (told_more answers c.args.told.now.items c.args.answer same)

pub returns-else-not-repeats_last : goal.returns-else-not-repeats_last
returns-else-not-repeats_last c answers same =
    let found = c.repeats_last.ensures c.if-not-repeats_last.false in
    told_again answers c.args.told.now.items found.0 c.args.answer same (subst (λ xs. Contains xs found.0) c.as_slice.ensures.value found.1) found.2
