use Rattle.std.proofs.Common.{◌≡◌, List, [], ◌∷◌, ◌++◌, sym, ap, ◌∙◌, append-nil, append_assoc}
use Rattle.script_core.specs.declared.block.Block.{Block}
use Rattle.script_core.proofs.draft.push_all.Goals as goal

-- one block more is one yielded more
one_pushed : (first yielded before after : List Block) (block : Block) → before ≡ first ++ yielded → after ≡ before ++ block ∷ [] → after ≡ first ++ (yielded ++ block ∷ [])
one_pushed first yielded before after block so is =
    is ∙ ap (λ bs. bs ++ block ∷ []) so ∙ append_assoc first yielded (block ∷ [])

pub loop-block-init : goal.loop-block-init
loop-block-init c = sym (append-nil c.args.blocks.now)

pub loop-block-preserved : goal.loop-block-preserved
loop-block-preserved c = one_pushed _ _ _ _ _ c.loop-block.invariant c.in_ok-push.ensures.ok
