-- Blocks have one compacted plan.
use Rattle.std.proofs.Common.{◌≡◌, ℕ, ℤ, ◌+◌, ◌≤◌, min, List, sym, ap, subst, ◌∙◌, arith}
use Rattle.std.specs.Prelude.{◌≤ℤ◌}
use Rattle.std.specs.List.Sorted.{IsStrictlyIncreasing}
use Rattle.std.proofs.lemmas.Int.{ints}
use Rattle.std.proofs.lemmas.List.Elements.{All-contains}
use Rattle.label_sets.specs.declared.label.Label.{Label}
use Rattle.block_meta.specs.Lawful.{AreLawfulTimes}
use Rattle.block_meta.specs.declared.block_plan.BlockPlan.{BlockPlan}
use Rattle.block_meta.specs.declared.meta.Meta.{Meta}
use Rattle.block_meta.specs.declared.parent.Parent.{Parent}
use Rattle.block_meta.proofs.SameMetas.{times_prop, distinct_prop}
use Rattle.vertical_merge.specs.Compacted.{IsCompactedPlan, IsLeast, IsGreatest, IsGreatestLevel, IsNextLevel}

-- ---- least and greatest

alike : (a b : ℤ) → a ≤ℤ b → b ≤ℤ a → a ≡ b
alike a b below above = grind (arith, ints)

least_once : (time_of : Meta → ℤ) (metas : List Meta) (a b : ℤ) → IsLeast time_of metas a → IsLeast time_of metas b → a ≡ b
least_once time_of _ a b is so =
    alike a b
    (subst (λ t. a ≤ℤ t) so.one.4 (All-contains (λ m. a ≤ℤ time_of m) _ _ is.none_below (so.one.0, so.one.2, so.one.3)))
    (subst (λ t. b ≤ℤ t) is.one.4 (All-contains (λ m. b ≤ℤ time_of m) _ _ so.none_below (is.one.0, is.one.2, is.one.3)))

greatest_once : (time_of : Meta → ℤ) (metas : List Meta) (a b : ℤ) → IsGreatest time_of metas a → IsGreatest time_of metas b → a ≡ b
greatest_once time_of _ a b is so =
    alike a b
    (subst (λ t. t ≤ℤ b) is.one.4 (All-contains (λ m. time_of m ≤ℤ b) _ _ so.none_above (is.one.0, is.one.2, is.one.3)))
    (subst (λ t. t ≤ℤ a) so.one.4 (All-contains (λ m. time_of m ≤ℤ a) _ _ is.none_above (so.one.0, so.one.2, so.one.3)))

level_once : (metas : List Meta) (a b : ℕ) → IsGreatestLevel metas a → IsGreatestLevel metas b → a ≡ b
level_once _ a b is so =
    let below = subst (λ n. n ≤ b) is.one.4 (All-contains (λ m. m.level ≤ b) _ _ so.none_above (is.one.0, is.one.2, is.one.3)) in
    let above = subst (λ n. n ≤ a) so.one.4 (All-contains (λ m. m.level ≤ a) _ _ is.none_above (so.one.0, so.one.2, so.one.3)) in
    omega arith

next_once : (metas : List Meta) (a b : ℕ) → IsNextLevel metas a → IsNextLevel metas b → a ≡ b
next_once _ a b is so =
    is.next ∙ ap (λ n. min (n + 1) 4294967295) (level_once _ _ _ is.is_greatest so.is_greatest) ∙ sym so.next

-- ---- the plan, without the proofs that it carries

record Fields : Type 0 where
  ulid : ℕ
  min_time : ℤ
  max_time : ℤ
  level : ℕ
  sources : List ℕ
  parents : List Parent
  labels : List Label
  source : List ℕ

abbrev fields_of : BlockPlan → Fields
fields_of plan = record { ulid = plan.ulid; min_time = plan.min_time; max_time = plan.max_time; level = plan.level; sources = plan.sources; parents = plan.parents; labels = plan.labels; source = plan.source }

abbrev made : (f : Fields) → AreLawfulTimes f.min_time f.max_time → IsStrictlyIncreasing f.sources → BlockPlan
made f times distinct = record { ulid = f.ulid; min_time = f.min_time; max_time = f.max_time; level = f.level; sources = f.sources; parents = f.parents; labels = f.labels; source = f.source; times = times; distinct = distinct }

same_made : (f g : Fields) → f ≡ g → (t : AreLawfulTimes f.min_time f.max_time) (d : IsStrictlyIncreasing f.sources) (t' : AreLawfulTimes g.min_time g.max_time) (d' : IsStrictlyIncreasing g.sources) → made f t d ≡ made g t' d'
same_made f g e t d =
    subst (λ h. (t' : AreLawfulTimes h.min_time h.max_time) (d' : IsStrictlyIncreasing h.sources) → made f t d ≡ made h t' d') e
    (λ t' d'. ap (λ x. made f x d) (times_prop _ _ t t') ∙ ap (λ x. made f t' x) (distinct_prop _ d d'))

pub one_compacted : (inputs : List Meta) (ulid : ℕ) (labels : List Label) (plan other : BlockPlan) → IsCompactedPlan inputs ulid labels plan → IsCompactedPlan inputs ulid labels other → plan ≡ other
one_compacted _ ulid labels _ _ is so =
    let ulids = is.ulid_is ∙ sym so.ulid_is in
    let begins = least_once _ _ _ _ is.begin so.begin in
    let ends = greatest_once _ _ _ _ is.end so.end in
    let levels = next_once _ _ _ is.level so.level in
    let sources = is.sources ∙ sym so.sources in
    let parents = is.parents ∙ sym so.parents in
    let their = is.labels_are ∙ sym so.labels_are in
    let source = is.source ∙ sym so.source in
    same_made _ _
    (λ i. record { ulid = ulids i; min_time = begins i; max_time = ends i; level = levels i; sources = sources i; parents = parents i; labels = their i; source = source i })
    _ _ _ _
