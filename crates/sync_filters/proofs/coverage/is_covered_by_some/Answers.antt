use Rattle.std.proofs.Common.{ℕ, List, sym, ap, subst, ◌∙◌}
use Rattle.sync_filters.specs.Holders.{HasLarger, digest_of}
use Rattle.sync_filters.proofs.HolderLaws.{better_found, some_cover}
use Rattle.sync_filters.proofs.coverage.is_covered_by_some.Goals as goal

pub returns-then-is_covered_by_one : goal.returns-then-is_covered_by_one
returns-then-is_covered_by_one c = c.if-is_covered_by_one.true
    ∙ sym (better_found c.args.listed.now c.holders_of.result.now c.args.block.now (sym c.is_covered_by_one.ensures ∙ c.if-is_covered_by_one.true))

pub returns-else-is_covered_by_one : goal.returns-else-is_covered_by_one
returns-else-is_covered_by_one c = some_cover c.is_covered_by_one-else-is_covered_by_one.result c.args.listed.now c.args.equals.now c.args.holders.now c.holders_of.result.now
    c.fewest_larger.result.now c.args.block.now
    c.requires.equals c.requires.holders c.digest.result (c.digest.ensures ∙ ap digest_of c.members-sources.ensures) c.holders_of.ensures
    (subst (λ (l : List ℕ). HasLarger c.args.holders.now l c.fewest_larger.result.now) c.members-sources.ensures c.fewest_larger.ensures)
    c.is_covered_by_one.result c.is_covered_by_one.ensures c.if-is_covered_by_one.false c.is_covered_by_one-else-is_covered_by_one.ensures
