-- The derived equality of ranges is the one that the clauses name.
use Rattle.std.proofs.Common.{◌≡◌, ℕ, Bool, ◌&&◌, refl, ap, nat_eq, sym, subst, List, IsSome}
use Rattle.std.specs.Map.{lookup}
use mathlib.Core.Path.{fun_ext}
use Rattle.block_keys.specs.declared.key.Key.{Key}
use Rattle.block_keys.specs.declared.key.Key.TheVariants.{Meta, Index, Segment, Mark}
use Rattle.store_ranges.specs.Caches.{same_key, same_range}
use Rattle.store_ranges.specs.declared.range.Range.{Range}
use Rattle.block_keys.specs.contracts.key.KeyPartialEq.TheImpl as keys
use Rattle.store_ranges.specs.contracts.range.RangePartialEq.TheImpl as ranges

same_keys : (one other : Key) → keys.ghosts.eq one other ≡ same_key one other
same_keys (Meta ulid) (Meta other) = refl
same_keys (Meta ulid) (Index other) = refl
same_keys (Meta ulid) (Segment other number) = refl
same_keys (Meta ulid) (Mark other) = refl
same_keys (Index ulid) (Meta other) = refl
same_keys (Index ulid) (Index other) = refl
same_keys (Index ulid) (Segment other number) = refl
same_keys (Index ulid) (Mark other) = refl
same_keys (Segment ulid number) (Meta other) = refl
same_keys (Segment ulid number) (Index other) = refl
same_keys (Segment ulid number) (Segment other second) = refl
same_keys (Segment ulid number) (Mark other) = refl
same_keys (Mark ulid) (Meta other) = refl
same_keys (Mark ulid) (Index other) = refl
same_keys (Mark ulid) (Segment other number) = refl
same_keys (Mark ulid) (Mark other) = refl

same_ranges : (one other : Range) → ranges.ghosts.eq one other ≡ same_range one other
same_ranges one other = ap (λ b. b && (nat_eq one.from other.from && nat_eq one.len other.len)) (same_keys one.key other.key)

derived : (one : Range) → ranges.ghosts.eq one ≡ same_range one
derived one = fun_ext (same_ranges one)

-- a test that is known of the one is known of the other
pub there : (one : Range) (entries : List (Range × List ℕ)) → IsSome (lookup (same_range one) entries) → IsSome (lookup (ranges.ghosts.eq one) entries)
there one entries some = subst (λ (test : Range → Bool). IsSome (lookup test entries)) (sym (derived one)) some
