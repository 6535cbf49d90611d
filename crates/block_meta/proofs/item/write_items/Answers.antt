use Rattle.std.proofs.Common.{rules, ◌≡◌, ◌<◌, ◌++◌, ◌∷◌, [], ℕ, List, Ok, length, take, get_or, sym, ap, ◌∙◌, arith}
use Rattle.std.proofs.lemmas.List.{take_more}
use Rattle.std.proofs.lemmas.List.Elements.{All-push, All-nil}
use Rattle.block_meta.proofs.Lists.{written_none, written_more}
use Rattle.block_meta.proofs.item.write_items.Goals as goal

pub loop-item-init : goal.loop-item-init
loop-item-init g c = record { written = rw c.new-made.ensures.items (written_none g.T.Item.written); again = All-nil _; fits = All-nil _ }

pub loop-item-preserved : goal.loop-item-preserved
loop-item-preserved g c =
    let xs = c.args.items.now in
    let i = c.loop-item.item-index in
    let lt : i < length xs = omega arith in
    let at : c.item-item.result ≡ get_or xs i c.item-item.result = search rules in
    let more = take_more _ i _ lt ∙ ap (λ x. take i xs ++ x ∷ []) (sym at) in
    record {
      written = rw (c.in_ok-push.ensures.items, more) (written_more g.T.Item.written c.loop-item.made.items (take i xs) c.in_ok-write.field-0 c.item-item.result c.loop-item.invariant.written c.in_ok-write.ensures.value);
      again = rw more (All-push (λ x. (name : List ℕ) → g.T.Item.reads name (g.T.Item.written x) ≡ Ok x) (take i xs) c.item-item.result c.loop-item.invariant.again c.in_ok-write.ensures.again);
      fits = rw more (All-push g.T.Item.fits (take i xs) c.item-item.result c.loop-item.invariant.fits c.in_ok-write.ensures.fits);
    }
