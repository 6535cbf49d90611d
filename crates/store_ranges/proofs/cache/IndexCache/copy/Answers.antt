use Rattle.std.proofs.Common.{◌++◌, ◌∷◌, [], ◌∙◌, ap, sym}
use Rattle.store_ranges.proofs.Copying.{copied, copy_step, none_copied}
use Rattle.store_ranges.proofs.cache.IndexCache.copy.Goals as goal

pub loop-range-init : goal.loop-range-init
loop-range-init c = none_copied c.args.self.now.cache c.in_ok-cache.cache c.iter-left.result _ c.iter-left.ensures.rest c.in_ok-cache.ensures c.cap.ensures

pub loop-range-preserved : goal.loop-range-preserved
loop-range-preserved c =
    copy_step _ c.args.self.now.cache.entries c.loop-range.left c.next_back.new.self c.loop-range.cache c.put.new.self c.args.self.now.cache.cap c.in-Some.range.now c.in_ok-copy.field-0
    c.len-count.ensures.valid.0 c.len-count.ensures.valid.1 c.loop-range.invariant
    (c.in-Some.ensures.steps ∙ ap (λ b. c.next_back.new.self ++ (c.in-Some.range.now, b) ∷ []) (sym c.in_ok-copy.ensures))
    c.in_ok-put.ensures.entries

pub loop-range-preserved-in_ok-put : goal.loop-range-preserved-in_ok-put
loop-range-preserved-in_ok-put c =
    copy_step _ c.args.self.now.cache.entries c.loop-range.left c.next_back.new.self c.loop-range.cache c.put.new.self c.args.self.now.cache.cap c.in-Some.range.now c.in_ok-copy.field-0
    c.len-count.ensures.valid.0 c.len-count.ensures.valid.1 c.loop-range.invariant
    (c.in-Some.ensures.steps ∙ ap (λ b. c.next_back.new.self ++ (c.in-Some.range.now, b) ∷ []) (sym c.in_ok-copy.ensures))
    c.in_ok-put.ensures.entries

pub loop-range-preserved-in_ok-put-2 : goal.loop-range-preserved-in_ok-put-2
loop-range-preserved-in_ok-put-2 c =
    copy_step _ c.args.self.now.cache.entries c.loop-range.left c.next_back.new.self c.loop-range.cache c.put.new.self c.args.self.now.cache.cap c.in-Some.range.now c.in_ok-copy.field-0
    c.len-count.ensures.valid.0 c.len-count.ensures.valid.1 c.loop-range.invariant
    (c.in-Some.ensures.steps ∙ ap (λ b. c.next_back.new.self ++ (c.in-Some.range.now, b) ∷ []) (sym c.in_ok-copy.ensures))
    c.in_ok-put.ensures.entries

pub loop-range-preserved-in_ok-put-3 : goal.loop-range-preserved-in_ok-put-3
loop-range-preserved-in_ok-put-3 c =
    copy_step _ c.args.self.now.cache.entries c.loop-range.left c.next_back.new.self c.loop-range.cache c.put.new.self c.args.self.now.cache.cap c.in-Some.range.now c.in_ok-copy.field-0
    c.len-count.ensures.valid.0 c.len-count.ensures.valid.1 c.loop-range.invariant
    (c.in-Some.ensures.steps ∙ ap (λ b. c.next_back.new.self ++ (c.in-Some.range.now, b) ∷ []) (sym c.in_ok-copy.ensures))
    c.in_ok-put.ensures.entries

pub returns : goal.returns
returns c = copied c.args.self.now.cache c.loop-range.cache c.loop-range.left c.loop-range.invariant c.in_default.ensures.steps.0
