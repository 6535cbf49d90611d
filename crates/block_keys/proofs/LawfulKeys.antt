-- The test of a lawful key.
use Rattle.std.proofs.Common.{◌≡◌, ℕ, true}
use Rattle.std.specs.Prelude.{nat_le}
use Rattle.std.proofs.lemmas.Bool.{and_parts, leb-true}
use Rattle.block_keys.specs.Keys.{IsLawfulKey, is_lawful_key, segment_limit}
use Rattle.block_keys.specs.declared.key.Key.{Key}
use Rattle.block_keys.specs.declared.key.Key.TheVariants.{Meta, Index, Segment, Mark}

pub lawful_key : (k : Key) → is_lawful_key k ≡ true → IsLawfulKey k
lawful_key (Segment ulid number) e =
    let parts : _ = and_parts (nat_le 1 number) (nat_le number segment_limit) e in (leb-true 1 number parts.0, leb-true number segment_limit parts.1)
lawful_key (Meta ulid) e = tt
lawful_key (Index ulid) e = tt
lawful_key (Mark ulid) e = tt
