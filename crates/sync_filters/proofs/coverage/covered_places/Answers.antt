use Rattle.std.proofs.Common.{List, length, sym, subst, ◌∙◌}
use Rattle.sync_filters.specs.Holders.{AreHolders, digest_alone, each_source}
use Rattle.sync_filters.specs.declared.holders.Holder.{Holder}
use Rattle.sync_filters.proofs.coverage.covered_places.Goals as goal

pub is_covered-requires-clause-equals : goal.is_covered-requires-clause-equals
is_covered-requires-clause-equals c =
    subst (λ (l : List Holder). AreHolders digest_alone (length c.args.listed.now) c.args.listed.now l) (sym c.deref.ensures.value) c.in_ok-equals.ensures.complete

pub is_covered-requires-clause-holders : goal.is_covered-requires-clause-holders
is_covered-requires-clause-holders c =
    subst (λ (l : List Holder). AreHolders each_source (length c.args.listed.now) c.args.listed.now l) (sym c.deref-in-loop-block.ensures.value) c.in_ok-holders.ensures.complete

pub is_covered-requires-clause-marks : goal.is_covered-requires-clause-marks
is_covered-requires-clause-marks c = c.deref-in-loop-block-2.ensures.value ∙ c.in_ok-marks.ensures
