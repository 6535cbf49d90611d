use Rattle.std.proofs.Common.{ℕ, List, [], ◌∷◌, ◌++◌, refl, sym, ap, ◌∙◌}
use Rattle.block_writing.specs.WrittenMeta.{names_from}
use Rattle.block_writing.proofs.Names.{names_more}
use Rattle.block_writing.proofs.written_meta.names_of.Goals as goal

pub loop-place-init : goal.loop-place-init
unfolding names_from
loop-place-init c = c.new-names.ensures

pub loop-place-preserved : goal.loop-place-preserved
loop-place-preserved c =
    c.in_ok-push.ensures.ok ∙ ap (λ (l : List (List ℕ)). l ++ c.in_ok-segment_name.field-0 ∷ []) c.loop-place.invariant
    ∙ ap (λ (x : List ℕ). names_from 1 c.loop-place.place ++ x ∷ []) c.in_ok-segment_name.ensures ∙ sym (names_more c.loop-place.place _ refl)
