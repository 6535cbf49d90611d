use Rattle.std.proofs.Common.{ℕ, List, [], ◌∷◌, ◌++◌, ap, ◌∙◌}
use Rattle.world_core.specs.declared.entry.Entry.{Entry}
use Rattle.world_turn.specs.Passes.{view_of}
use Rattle.tests_runs.proofs.Joined.{two_joined}
use Rattle.tests_runs.proofs.threads.passes.joined_both.Goals as goal

pub returns-clause-all : goal.returns-clause-all
returns-clause-all c =
    let a = c.join_pass-once.ensures.joined in
    let b = c.join_pass-twice.ensures.joined in
    let one : ℕ × List Entry = ((view_of c.args.one).seat, (view_of c.args.one).own) in
    let two : ℕ × List Entry = ((view_of c.args.two).seat, (view_of c.args.two).own) in
    two_joined (view_of c.join_pass-twice.result) one two (b.seats ∙ (a.seats ∙ c.requires.seats.0))
    (b.joined ∙ ap (λ l. l ++ two ∷ []) (a.joined ∙ ap (λ l. l ++ one ∷ []) c.requires.seats.1))
    (c.args.one.rests.sits ∙ c.requires.one.1) (c.args.two.rests.sits ∙ c.requires.two.1)
