use Rattle.std.proofs.Common.{false, refl, ◌∙◌, ap, [], ◌∷◌, ◌++◌, arith}
use Rattle.world_core.specs.Operations.{entry_of}
use Rattle.world_core.specs.declared.act.Acted.TheVariants.{Done}
use Rattle.world_core.proofs.Turning.{acted_turned, more_turned}
use Rattle.world_core.proofs.Turns.{ends, stops, goes_on}
use Rattle.world_core.proofs.driving.drive.Goals as goal

pub returns-then-answered-last-clause-run : goal.returns-then-answered-last-clause-run
returns-then-answered-last-clause-run g c =
    stops g.M.Machine.may g.M.Machine.asked _ _ _ _ _ _ _ _ c.turns.invariant.waiting c.args.stop _ c.in-Done.seen _ c.unwrap_or-last.ensures
    (c.in-Done.ensures.entries ∙ ap (λ s. (g.H.Hand.told c.turns.hand).entries ++ entry_of s c.turns.op c.in-Done.seen ∷ []) c.turns.invariant.turned.same_seat)
    (omega arith) c.in-Done.ensures.answer refl

pub returns-in-Ok-Done-step-clause-run : goal.returns-in-Ok-Done-step-clause-run
returns-in-Ok-Done-step-clause-run g c =
    ends g.M.Machine.may g.M.Machine.asked _ _ _ _ _ _ _ _ c.turns.invariant.waiting c.args.stop _ c.in-Done.seen _ c.unwrap_or-last.ensures
    (c.in-Done.ensures.entries ∙ ap (λ s. (g.H.Hand.told c.turns.hand).entries ++ entry_of s c.turns.op c.in-Done.seen ∷ []) c.turns.invariant.turned.same_seat)
    (λ e. omega arith) (omega arith) _
    (rw c.in-Ok-Done-step.field-0-is at (c.in-Ok-Done-step.ensures.goes_on (g.H.Hand.told c.args.hand.now).seat c.turns.op c.turns.invariant.waiting.asks.waits))
    (λ n e. cc) (λ e. cc)

pub returns-in-Err-step-clause-run : goal.returns-in-Err-step-clause-run
returns-in-Err-step-clause-run g c =
    ends g.M.Machine.may g.M.Machine.asked _ _ _ _ _ _ _ _ c.turns.invariant.waiting c.args.stop _ c.in-Done.seen _ c.unwrap_or-last.ensures
    (c.in-Done.ensures.entries ∙ ap (λ s. (g.H.Hand.told c.turns.hand).entries ++ entry_of s c.turns.op c.in-Done.seen ∷ []) c.turns.invariant.turned.same_seat)
    (λ e. omega arith) (omega arith) _
    (c.in-Err-step.ensures.goes_on (g.H.Hand.told c.args.hand.now).seat c.turns.op c.turns.invariant.waiting.asks.waits)
    (λ n e. cc) (λ e. cc)

pub turns-preserved : goal.turns-preserved
turns-preserved g c = record {
  waiting =
      goes_on g.M.Machine.may g.M.Machine.asked _ _ _ _ _ _ _ _ c.turns.invariant.waiting c.in-Done.seen _ _ _ _ c.saturating_add-answered.ensures
      (c.in-Done.ensures.entries ∙ ap (λ s. (g.H.Hand.told c.turns.hand).entries ++ entry_of s c.turns.op c.in-Done.seen ∷ []) c.turns.invariant.turned.same_seat)
      (λ e. omega arith) (omega arith)
      (rw c.in-Ok-Do-step.field-0-is at (c.in-Ok-Do-step.ensures.goes_on (g.H.Hand.told c.args.hand.now).seat c.turns.op c.turns.invariant.waiting.asks.waits));
  turned =
      more_turned g.H.Hand.told g.H.Hand.keeps g.met.H.Hand.keeps_more _ _ _ false false c.turns.invariant.turned
      (acted_turned g.H.Hand.told g.H.Hand.keeps _ _ c.turns.op (Done c.in-Done.seen) c.in-Done.ensures.entries c.in-Done.ensures.seat c.in-Done.ensures.refused c.in-Done.ensures.full c.in-Done.ensures.wanted c.in-Done.ensures.keeps c.in-Done.ensures.above c.in-Done.ensures.within c.in-Done.ensures.known);
}
