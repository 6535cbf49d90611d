use Rattle.std.proofs.Common.{sym, ◌∙◌}
use Rattle.index_v2.proofs.ValuesListed.{no_values, listed_start, listed_stop, listed_more, other_name, same_name}
use Rattle.index_v2.proofs.postings.values_of.Goals as goal

pub returns-then-is_empty : goal.returns-then-is_empty
returns-then-is_empty c = c.new-values.ensures ∙ sym (no_values _ _ (sym c.is_empty.ensures ∙ c.if-is_empty.true))

pub loop-place-init : goal.loop-place-init
loop-place-init c = (c.first_of-place.ensures.begins, listed_start _ _ _ _ c.new-values.ensures (sym c.is_empty.ensures ∙ c.if-is_empty.false) c.first_of-place.ensures.begins)

pub returns-then-ne : goal.returns-then-ne
returns-then-ne c = sym (listed_stop _ _ _ _ _ _ c.first_of-place.ensures.ascending c.loop-place.invariant.0 c.loop-place.invariant.1 (sym c.in-Some.ensures)
    (other_name _ _ _ c.ne.ensures c.if-ne.true))

pub loop-place-preserved : goal.loop-place-preserved
loop-place-preserved c = (c.loop-place.invariant.0, listed_more _ _ _ _ _ _ _ _ c.loop-place.invariant.1 (sym c.in-Some.ensures) (same_name _ _ _ c.ne.ensures c.if-ne.false) c.in_ok-from_str.ensures c.in_ok-push.ensures.ok)
