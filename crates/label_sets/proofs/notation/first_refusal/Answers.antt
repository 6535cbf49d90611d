use Rattle.std.proofs.Common.{◌∷◌, sym, ap, ◌∙◌}
use Rattle.label_sets.specs.Labels.{names_of}
use Rattle.label_sets.specs.Notation.{repeats}
use Rattle.label_sets.proofs.ReadSets.{concluded_repeat, concluded_stop, name_front}
use Rattle.label_sets.proofs.notation.first_refusal.Goals as goal

pub returns-then-repeats_with-clause-first : goal.returns-then-repeats_with-clause-first
returns-then-repeats_with-clause-first c = concluded_repeat _ _ _ _ _ _ c.in_ok-sort_by_name.ensures.ordered
    (name_front _ _ _ c.name_length.ensures.value c.split_at.ensures.front)
    (ap (λ ls. repeats (c.split_at.result.0.now ∷ names_of ls)) (sym c.as_slice.ensures.value) ∙ sym c.if-repeats_with.ensures)

pub returns-clause-first : goal.returns-clause-first
returns-clause-first c = concluded_stop _ _ _ _ _ _ _ c.in_ok-sort_by_name.ensures.ordered
    (name_front _ _ _ c.name_length.ensures.value c.split_at.ensures.front)
    (ap (λ ls. repeats (c.split_at.result.0.now ∷ names_of ls)) (sym c.as_slice.ensures.value) ∙ sym c.if-repeats_with.ensures) c.placed_at.ensures
