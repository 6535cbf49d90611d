use Rattle.std.proofs.Common.{sym, ap, subst, ◌∙◌, List, ℕ, length, zip}
use Rattle.std.specs.List.{All}
use Rattle.std.specs.List.Sorted.{IsStrictlyIncreasing}
use Rattle.index_v2.specs.Ranks.{AreRanked, AreRowRanks}
use Rattle.index_v2.specs.WholeReading.{earlier_place, gap_among}
use Rattle.index_v2.proofs.KeptLists.{told_by, refused_by, small_by}
use Rattle.index_v2.proofs.WholeLoops.{gives_stop}
use Rattle.index_v2.proofs.whole.differing_place.Goals as goal

pub all_lists-requires-clause-one_each : goal.all_lists-requires-clause-one_each
all_lists-requires-clause-one_each c = (c.in_ok-ranks.ensures).many ∙ sym (ap (λ l. length l) c.as_slice.ensures.value)

pub difference-requires-clause-rise : goal.difference-requires-clause-rise
difference-requires-clause-rise c =
    let rows = subst (AreRowRanks c.args.symbols.now c.args.rows.now) (sym c.as_slice.ensures.value) c.in_ok-ranks.ensures in
    let series = subst (AreRanked c.args.symbols.now c.args.all.now.series.items) (sym c.as_slice-series.ensures.value) c.requires.ranked in
    subst (All IsStrictlyIncreasing) (sym c.as_slice-3.ensures.value) (c.in_ok-kept.ensures.read _ _ rows series).rise

pub difference-requires-clause-one_each : goal.difference-requires-clause-one_each
difference-requires-clause-one_each c =
    let rows = subst (AreRowRanks c.args.symbols.now c.args.rows.now) (sym c.as_slice.ensures.value) c.in_ok-ranks.ensures in
    let series = subst (AreRanked c.args.symbols.now c.args.all.now.series.items) (sym c.as_slice-series.ensures.value) c.requires.ranked in
    ap (λ l. length l) c.as_slice-2.ensures.value ∙ sym (c.in_ok-ranks.ensures).many ∙ (c.in_ok-kept.ensures.read _ _ rows series).many ∙ ap (λ (l : List (List ℕ)). length l) (sym c.as_slice-3.ensures.value)

pub returns-in_err-kept-clause-exact : goal.returns-in_err-kept-clause-exact
returns-in_err-kept-clause-exact c =
    let rows = subst (AreRowRanks c.args.symbols.now c.args.rows.now) (sym c.as_slice.ensures.value) c.in_ok-ranks.ensures in
    let series = subst (AreRanked c.args.symbols.now c.args.all.now.series.items) (sym c.as_slice-series.ensures.value) c.requires.ranked in
    gives_stop _ _ _ _ _ _ c.from_residual-in_err-kept.ensures.1 (c.in_err-kept.ensures.read _ _ rows series) (λ refused. refused_by _ _ _ _ refused)

pub returns-clause-exact : goal.returns-clause-exact
returns-clause-exact c =
    let rows = subst (AreRowRanks c.args.symbols.now c.args.rows.now) (sym c.as_slice.ensures.value) c.in_ok-ranks.ensures in
    let also = subst (AreRowRanks c.args.symbols.now c.args.rows.now) (sym c.as_slice-2.ensures.value) c.in_ok-ranks.ensures in
    let series = subst (AreRanked c.args.symbols.now c.args.all.now.series.items) (sym c.as_slice-series.ensures.value) c.requires.ranked in
    told_by _ _ _ _ _ _ (c.in_ok-kept.ensures.read _ _ rows series)
    (c.difference.ensures _ _ _ also series ∙ ap (λ (l : List (List ℕ)). earlier_place c.in_ok-kept.kept.stray (gap_among c.args.rows.now l (zip c.args.numbers.now c.args.all.now.series.items))) c.as_slice-3.ensures.value)

pub returns-clause-small : goal.returns-clause-small
returns-clause-small c =
    let rows = subst (AreRowRanks c.args.symbols.now c.args.rows.now) (sym c.as_slice.ensures.value) c.in_ok-ranks.ensures in
    let also = subst (AreRowRanks c.args.symbols.now c.args.rows.now) (sym c.as_slice-2.ensures.value) c.in_ok-ranks.ensures in
    let series = subst (AreRanked c.args.symbols.now c.args.all.now.series.items) (sym c.as_slice-series.ensures.value) c.requires.ranked in
    small_by _ _ _ _ _ _ _ c.in_ok-kept.ensures.few (c.in_ok-kept.ensures.read _ _ rows series)
    (c.difference.ensures _ _ _ also series ∙ ap (λ (l : List (List ℕ)). earlier_place c.in_ok-kept.kept.stray (gap_among c.args.rows.now l (zip c.args.numbers.now c.args.all.now.series.items))) c.as_slice-3.ensures.value)
