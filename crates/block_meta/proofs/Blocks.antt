-- The objects of a block, as they are put together.
use Rattle.std.proofs.Common.{◌≡◌, ℕ, zero, suc, ◌+◌, ◌<◌, ◌≤◌, List, [], ◌∷◌, ◌++◌, length, take, get_or, arith, ◌∙◌, ap, sym, subst, append_assoc}
use Rattle.std.specs.Prelude.{All}
use Rattle.std.specs.List.{AllByRecursion}
use Rattle.std.proofs.lemmas.List.{take_more}
use Rattle.std.proofs.lemmas.List.Elements.{All-append}
use Rattle.base.proofs.Lists.{AllByRecursion-push}
use Rattle.block_keys.specs.Blocks.{IsSegmentOf, IsBlock}
use Rattle.block_keys.specs.declared.key.Key.TheVariants.{Meta, Index, Segment}
use Rattle.block_meta.specs.Built.{segment_objects}
use Rattle.block_keys.specs.declared.object.Object.{Object}

all_single : {X : Type 0} (P : X → Type 0) (x : X) → P x → All P (x ∷ [])
all_single P x holds zero d below = holds
all_single P x holds (suc k) d below = absurd (omega arith)

-- what holds of all and of one more, holds of all with it
pub all_pushed : {X : Type 0} (P : X → Type 0) (xs : List X) (x : X) → All P xs → P x → All P (xs ++ x ∷ [])
all_pushed P xs x all holds = All-append P xs (x ∷ []) all (all_single P x holds)

-- what holds of a front and of the next member holds of the front with it
pub front_more : {X : Type 0} (P : X → Type 0) (xs : List X) (place : ℕ) (x d : X) → AllByRecursion P (take place xs) → place < length xs → x ≡ get_or xs place d → P x → AllByRecursion P (take (place + 1) xs)
front_more P xs place x d all below at holds =
    subst (AllByRecursion P) (sym (take_more xs place d below ∙ ap (λ y. take place xs ++ y ∷ []) (sym at))) (AllByRecursion-push P (take place xs) x all holds)

-- segments, then an index, then a meta
pub block_of : (ulid : ℕ) (segments one both : List Object) (index meta : Object) → All (λ object. IsSegmentOf ulid object.key) segments
    → length segments ≤ 999_999 → one ≡ segments ++ index ∷ [] → both ≡ one ++ meta ∷ [] → index.key ≡ Index ulid → meta.key ≡ Meta ulid → IsBlock ulid both
block_of ulid segments one both index meta keys few first second index_key meta_key = record {
  segments = segments;
  index = index;
  meta = meta;
  in_order = second ∙ (ap (λ (l : List Object). l ++ meta ∷ []) first ∙ append_assoc segments (index ∷ []) (meta ∷ []));
  segment_keys = keys;
  index_key = index_key;
  meta_key = meta_key;
  few = few;
}

-- one more segment takes the next number
pub segments_pushed : (ulid number : ℕ) (segments : List (List ℕ)) (bytes : List ℕ) (next : ℕ) → next ≡ number + length segments
    → segment_objects ulid number (segments ++ bytes ∷ []) ≡ segment_objects ulid number segments ++ record { key = Segment ulid next; bytes = bytes } ∷ []
unfolding segment_objects
segments_pushed ulid number [] bytes next e = let f : next ≡ number = omega arith in ap (λ n. record { key = Segment ulid n; bytes = bytes } ∷ []) (sym f)
segments_pushed ulid number (b ∷ bs) bytes next e =
    ap (λ (l : List Object). record { key = Segment ulid number; bytes = b } ∷ l) (segments_pushed ulid (number + 1) bs bytes next (omega arith))
