-- The first key of a range of keys.
use Rattle.std.proofs.Common.{◌≡◌, ℕ, List, [], ◌∷◌, Some, None, ap, subst}
use Rattle.std.specs.Prelude.{IfSome, is_some, slice_get}
use Rattle.std.specs.BTreeMap.{get}
use Rattle.std.specs.BTreeMap.Range.{IsEntryInRange, IsLeBy, IsRangeOf}
use Rattle.std.specs.declared.ops.Bound.TheVariants.{Excluded, Unbounded}
use Rattle.std.specs.declared.cmp.Ordering.TheVariants.{Less}
use Rattle.block_keys.specs.Keys.{key_cmp}
use Rattle.block_keys.specs.declared.key.Key.{Key}
use Rattle.breach_finding.specs.Held.{Places}
use Rattle.breach_finding.specs.Next.{IsFirstKey}

module _ (places : Places) (key : Key) (range : List (Key × ℕ)) (is : IsRangeOf key_cmp (Excluded key) Unbounded places range) where
  pub range_none : range ≡ [] → IsFirstKey (λ other. key_cmp key other ≡ Less) places None
  range_none nil = λ q stands less. let none : get key_cmp places q ≡ None = is.5 nil q (less, tt) in cc (ap (λ o. is_some o) none, stands)

  pub range_first : (e : Key × ℕ) (others : List (Key × ℕ)) → range ≡ e ∷ others → IsFirstKey (λ other. key_cmp key other ≡ Less) places (Some e.0)
  range_first e others begins =
      let own : IsEntryInRange key_cmp (Excluded key) Unbounded places e = subst (λ (r : List (Key × ℕ)). IfSome (slice_get r 0) (IsEntryInRange key_cmp (Excluded key) Unbounded places)) begins is.1 in (
        ap (λ o. is_some o) own.1,
        own.0.0,
        λ q stands less. subst (λ (r : List (Key × ℕ)). IfSome (slice_get r 0) (λ x. IsLeBy key_cmp x.0 q)) begins (is.2 q (less, tt) stands),
      )
