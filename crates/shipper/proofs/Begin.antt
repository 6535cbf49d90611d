-- What the objects of a block give an upload to begin with.
use Rattle.std.proofs.Common.{◌≡◌, ℕ, ◌≤◌, ◌<◌, ◌+◌, suc, true, List, [], ◌∷◌, ◌++◌, length, get_or, refl, ◌∙◌, ap, arith, length-append}
use Rattle.std.specs.Prelude.{nat_le, All}
use Rattle.std.proofs.lemmas.Bool.{and_from, le-leb}
use Rattle.std.proofs.lemmas.List.Folds.{list_all-append}
use Rattle.block_keys.specs.Keys.{key_ulid, is_lawful_key}
use Rattle.block_keys.specs.declared.key.Key.{Key}
use Rattle.block_keys.specs.declared.key.Key.TheVariants as key
use Rattle.block_keys.specs.declared.object.Object.{Object}
use Rattle.block_keys.specs.Blocks.{IsBlock, IsSegmentOf}
use Rattle.shipper.specs.Limits.{have_lawful_keys}

segment_lawful : (ulid : ℕ) (k : Key) → IsSegmentOf ulid k → is_lawful_key k ≡ true
segment_lawful ulid (key.Segment owner number) is =
    and_from (nat_le 1 number) (nat_le number 999_999) (le-leb 1 number is.1.0) (le-leb number 999_999 is.1.1)
segment_lawful ulid (key.Meta owner) is = absurd is
segment_lawful ulid (key.Index owner) is = absurd is
segment_lawful ulid (key.Mark owner) is = absurd is

segments_lawful : (ulid : ℕ) (segments : List Object) → All (λ object. IsSegmentOf ulid object.key) segments → have_lawful_keys segments ≡ true
segments_lawful ulid [] all = refl
segments_lawful ulid (o ∷ os) all =
    and_from (is_lawful_key o.key) (have_lawful_keys os) (segment_lawful ulid o.key (all 0 o (omega arith)))
    (segments_lawful ulid os (λ k d lt. all (suc k) d (omega arith)))

pub block_lawful : (ulid : ℕ) (objects : List Object) → IsBlock ulid objects → have_lawful_keys objects ≡ true
block_lawful ulid objects block =
    let last : have_lawful_keys (block.index ∷ block.meta ∷ []) ≡ true =
    and_from (is_lawful_key block.index.key) (have_lawful_keys (block.meta ∷ [])) (ap is_lawful_key block.index_key)
    (and_from (is_lawful_key block.meta.key) true (ap is_lawful_key block.meta_key) refl) in
    ap have_lawful_keys block.in_order
    ∙ list_all-append (λ object. is_lawful_key object.key) block.segments (block.index ∷ block.meta ∷ [])
    ∙ and_from (have_lawful_keys block.segments) (have_lawful_keys (block.index ∷ block.meta ∷ [])) (segments_lawful ulid block.segments block.segment_keys) last

pub block_length : (ulid : ℕ) (objects : List Object) → IsBlock ulid objects → (length objects ≤ 1_000_001) × (0 < length objects)
block_length ulid objects block =
    let e : length objects ≡ length block.segments + 2 = ap length block.in_order ∙ length-append block.segments (block.index ∷ block.meta ∷ []) in
    (omega (arith, e, block.few), omega (arith, e))

segment_ulid : (ulid : ℕ) (k : Key) → IsSegmentOf ulid k → key_ulid k ≡ ulid
segment_ulid ulid (key.Segment owner number) is = is.0
segment_ulid ulid (key.Meta owner) is = absurd is
segment_ulid ulid (key.Index owner) is = absurd is
segment_ulid ulid (key.Mark owner) is = absurd is

first_of : (ulid : ℕ) (segments : List Object) (index meta d : Object) → All (λ object. IsSegmentOf ulid object.key) segments → index.key ≡ key.Index ulid
    → key_ulid (get_or (segments ++ index ∷ meta ∷ []) 0 d).key ≡ ulid
first_of ulid [] index meta d all is = ap key_ulid is
first_of ulid (o ∷ os) index meta d all is = segment_ulid ulid o.key (all 0 o (omega arith))

-- the first object's key names the block
pub first_ulid : (ulid : ℕ) (objects : List Object) (d : Object) → IsBlock ulid objects → key_ulid (get_or objects 0 d).key ≡ ulid
first_ulid ulid objects d block =
    ap (λ l. key_ulid (get_or l 0 d).key) block.in_order ∙ first_of ulid block.segments block.index block.meta d block.segment_keys block.index_key
