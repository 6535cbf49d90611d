use Rattle.std.proofs.Common.{◌≡◌, ℕ, ◌+◌, ◌*◌, ◌/◌, ◌%◌, ◌<◌, map, refl, ◌∙◌, get_or, arith, zero-add}
use Rattle.std.proofs.lemmas.List.FromFn.{get_or-map-range_with_len}
use Rattle.std.specs.List.{range_with_len}
use Rattle.wire_bytes.specs.declared.crc_tables.TheConstants.{TABLES}
use Rattle.wire_bytes.specs.Crc.{times_x_to}

pub tables_are : TABLES ≡ map (λ i. times_x_to (8 * (i / 256 + 1)) (i % 256)) (range_with_len 0 4096)
unfolding times_x_to
tables_are = refl

-- the entry of a byte in a slice
pub entry_is : (slice byte : ℕ) → slice < 16 → byte < 256 → get_or TABLES (256 * slice + byte) 0 ≡ times_x_to (8 * (slice + 1)) byte
entry_is slice byte few small =
    let row : (256 * slice + byte) / 256 ≡ slice = omega arith in
    let column : (256 * slice + byte) % 256 ≡ byte = omega arith in
    rw tables_are (get_or-map-range_with_len (λ i. times_x_to (8 * (i / 256 + 1)) (i % 256)) 0 4096 (256 * slice + byte) (256 * slice + byte) 0 (omega arith) (zero-add (256 * slice + byte))
    ∙ rw (row, column) refl)
