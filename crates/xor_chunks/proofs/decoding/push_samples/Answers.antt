use Rattle.std.proofs.Common.{inr, ap, subst, ◌∙◌, ◌++◌, ◌∷◌, ◌-◌, []}
use Rattle.base.specs.Reading.{Gives}
use Rattle.xor_chunks.specs.declared.refusal.XorRefusal.TheVariants.{NoMemory}
use Rattle.xor_chunks.specs.Data.{rest_at, with_front}
use Rattle.xor_chunks.proofs.Appending.{gives_stop, no_samples, no_first, first_steps}
use Rattle.xor_chunks.proofs.decoding.push_samples.Goals as goal

pub returns-then-count-eq0 : goal.returns-then-count-eq0
returns-then-count-eq0 c = no_samples _ _ _ _ c.if-count-eq0.true c.new.ensures

pub returns-in_err-first : goal.returns-in_err-first
returns-in_err-first c = gives_stop _ _ _ _ c.from_residual.ensures.1
    (inr (no_first _ _ _ _ c.if-count-eq0.false c.in_err-first.ensures))

pub returns : goal.returns
returns c =
    let pushed = c.in_ok-push.ensures.items ∙ ap (λ xs. xs ++ c.in_ok-first.first ∷ []) c.in_ok-reserve.ensures.items in
    let same = ap (λ s. with_front c.push.new.self.items (rest_at (c.args.count - 1) s c.in_ok-first.rest.now)) c.of_first.ensures ∙ first_steps _ _ _ _ _ _ c.if-count-eq0.false c.in_ok-first.ensures pushed in
    subst (λ r. Gives NoMemory (λ x. (x.0.items, x.1)) c.push_rest.result r) same c.push_rest.ensures
