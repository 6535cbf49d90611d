use Rattle.std.proofs.Common.{ℕ, List, [], ◌∷◌, ◌++◌, take, map, refl, sym, ap, ◌∙◌, arith}
use Rattle.block_meta.specs.Built.{segment_objects}
use Rattle.block_content.specs.Shipped.{segment_name}
use Rattle.block_content.proofs.ListedFiles.{no_names, names_more, all_names}
use Rattle.block_content.proofs.shipping.names_of.Goals as goal

pub loop-place-init : goal.loop-place-init
loop-place-init c = c.new-names.ensures ∙ sym (no_names c.args.ulid c.args.segments.now)

pub loop-place-preserved : goal.loop-place-preserved
loop-place-preserved c =
    c.in_ok-push.ensures.ok ∙ ap (λ (l : List (List ℕ)). l ++ c.in_ok-segment_name.field-0 ∷ []) c.loop-place.invariant
    ∙ ap (λ (x : List ℕ). map segment_name (segment_objects c.args.ulid 1 (take c.loop-place.place c.args.segments.now)) ++ x ∷ []) c.in_ok-segment_name.ensures ∙ sym (names_more c.args.ulid c.args.segments.now c.loop-place.place _ (omega arith) refl)

pub returns : goal.returns
returns c = all_names c.args.ulid c.args.segments.now c.loop-place.place c.loop-place.names c.loop-place.invariant (omega arith)
