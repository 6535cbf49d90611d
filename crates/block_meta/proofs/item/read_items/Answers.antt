use Rattle.std.proofs.Common.{rules, ◌≡◌, ◌<◌, length, arith, get_or}
use Rattle.block_meta.proofs.Lists.{each_none, each_more, each_refused}
use Rattle.block_meta.proofs.item.read_items.Goals as goal

pub loop-value-init : goal.loop-value-init
loop-value-init g c = rw c.new-found.ensures (each_none _)

pub returns-in_err-read : goal.returns-in_err-read
returns-in_err-read g c =
    let vs = c.args.values.now.items in
    let i = c.loop-value.value-index in
    let lt : i < length vs = omega arith in
    let at : c.value-item.result ≡ get_or vs i c.value-item.result = search rules in
    let h = each_refused (g.T.Item.reads c.args.list.now) _ i _ _ _ lt at c.loop-value.invariant c.in_err-read.ensures in
    search rules

pub loop-value-preserved : goal.loop-value-preserved
loop-value-preserved g c =
    let vs = c.args.values.now.items in
    let i = c.loop-value.value-index in
    let lt : i < length vs = omega arith in
    let at : c.value-item.result ≡ get_or vs i c.value-item.result = search rules in
    let h = each_more (g.T.Item.reads c.args.list.now) _ i _ _ _ lt at c.loop-value.invariant c.in_ok-read.ensures in
    rw c.in_ok-push.ensures.ok h
