use Rattle.std.proofs.Common.{◌≡◌, ◌∙◌, List, refl, sym, ap, subst}
use Rattle.std.specs.Prelude.{map}
use Rattle.std.specs.List.Sorted.{IsStrictlyIncreasing}
use Rattle.sync_filters.specs.Filters.{Splits}
use Rattle.sync_filters.specs.declared.found.Found.{Found}
use Rattle.meta_fetcher.specs.Sightings.{passed_by, kept_by, covered_by}
use Rattle.meta_fetcher.proofs.Ascending.{passed_ascend, kept_ascend, covered_ascend}
use Rattle.meta_fetcher.proofs.SplitBlocks.{leave_rises, split_kept, split_covered, stay_rises}
use Rattle.meta_fetcher.proofs.sync.Sync.take_view.Goals as goal

pub returns : goal.returns
returns c = λ up.
    let passed : c.passed_blocks.result ≡ passed_by c.args.self.now.rules c.args.self.now.found.items =
    c.passed_blocks.ensures ∙ ap (λ q. passed_by c.args.self.now.rules q.items) c.replace-found.ensures.value in
    let split : Splits (passed_by c.args.self.now.rules c.args.self.now.found.items) c.in_ok-kept.kept c.in_ok-kept.covered =
    subst (λ (l : List Found). Splits l c.in_ok-kept.kept c.in_ok-kept.covered) passed c.in_ok-kept.ensures in
    let rise = passed_ascend c.args.self.now.rules c.args.self.now.found.items up in
    let kept : c.in_ok-kept.kept ≡ kept_by c.args.self.now.rules c.args.self.now.found.items =
    split_kept (passed_by c.args.self.now.rules c.args.self.now.found.items) c.in_ok-kept.kept c.in_ok-kept.covered split rise in
    let covered : c.in_ok-kept.covered ≡ covered_by c.args.self.now.rules c.args.self.now.found.items =
    split_covered (passed_by c.args.self.now.rules c.args.self.now.found.items) c.in_ok-kept.kept c.in_ok-kept.covered split rise in
    record {
      first = refl;
      begin = refl;
      end = refl;
      found = c.args.self.now.found.items;
      sighted = refl;
      kept = kept;
      covered = covered;
      kept_ascend = subst (λ (l : List Found). IsStrictlyIncreasing (map (λ block. block.ulid) l)) (sym kept) (kept_ascend c.args.self.now.rules c.args.self.now.found.items up);
      covered_ascend = subst (λ (l : List Found). IsStrictlyIncreasing (map (λ block. block.ulid) l)) (sym covered) (covered_ascend c.args.self.now.rules c.args.self.now.found.items up);
    }

pub invariant_of-result : goal.invariant_of-result
invariant_of-result c = record {
  kept_rise = stay_rises c.passed_blocks.result c.in_ok-kept.kept c.in_ok-kept.covered c.in_ok-kept.ensures;
  covered_rise = leave_rises c.passed_blocks.result c.in_ok-kept.kept c.in_ok-kept.covered c.in_ok-kept.ensures;
}
