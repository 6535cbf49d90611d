-- A ULID is a number of sixteen bytes: two numbers of eight bytes.
use Rattle.std.proofs.Common.{◌≡◌, ℕ, ◌+◌, ◌*◌, ◌/◌, ◌%◌, ◌^◌, ◌<◌, List, [], ◌∷◌, ◌++◌, length, take, drop, get_or, refl, sym, ap, ◌∙◌, arith}
use Rattle.std.specs.Int.{w64, w128, from_be_bytes, to_be_bytes}
use Rattle.std.proofs.lemmas.List.{take-append-drop, get_or-take, get_or-drop, length-take, length-drop}
use Rattle.std.proofs.lemmas.Nat.{from_be_bytes-to_be_bytes_8}
use Rattle.base.specs.Grammar.{IsBytes}
use Rattle.base.proofs.Fronts.{IsBytes-take, IsBytes-drop}
use Rattle.wire_bytes.proofs.FixedLaws.{IsWide, wide64}
use Rattle.journal_records.specs.FieldReading.{ulid_at}
use Rattle.journal_records.specs.RecordText.{IsUlid}
use Rattle.journal_records.proofs.Standing.{Ties}
use Rattle.journal_records.proofs.FieldsTied.{number_tied}

-- the bytes of two halves
byte_0 : (q r : ℕ) → r < 18446744073709551616 → (q * 18446744073709551616 + r) % 256 ≡ r % 256
byte_0 q r small = omega arith

byte_1 : (q r : ℕ) → r < 18446744073709551616 → (q * 18446744073709551616 + r) / 256 % 256 ≡ r / 256 % 256
byte_1 q r small = omega arith

byte_2 : (q r : ℕ) → r < 18446744073709551616 → (q * 18446744073709551616 + r) / 65536 % 256 ≡ r / 65536 % 256
byte_2 q r small = omega arith

byte_3 : (q r : ℕ) → r < 18446744073709551616 → (q * 18446744073709551616 + r) / 16777216 % 256 ≡ r / 16777216 % 256
byte_3 q r small = omega arith

byte_4 : (q r : ℕ) → r < 18446744073709551616 → (q * 18446744073709551616 + r) / 4294967296 % 256 ≡ r / 4294967296 % 256
byte_4 q r small = omega arith

byte_5 : (q r : ℕ) → r < 18446744073709551616 → (q * 18446744073709551616 + r) / 1099511627776 % 256 ≡ r / 1099511627776 % 256
byte_5 q r small = omega arith

byte_6 : (q r : ℕ) → r < 18446744073709551616 → (q * 18446744073709551616 + r) / 281474976710656 % 256 ≡ r / 281474976710656 % 256
byte_6 q r small = omega arith

byte_7 : (q r : ℕ) → r < 18446744073709551616 → (q * 18446744073709551616 + r) / 72057594037927936 % 256 ≡ r / 72057594037927936 % 256
byte_7 q r small = omega arith

byte_8 : (q r : ℕ) → r < 18446744073709551616 → (q * 18446744073709551616 + r) / 18446744073709551616 % 256 ≡ q % 256
byte_8 q r small = omega arith

byte_9 : (q r : ℕ) → r < 18446744073709551616 → (q * 18446744073709551616 + r) / 4722366482869645213696 % 256 ≡ q / 256 % 256
byte_9 q r small = omega arith

byte_10 : (q r : ℕ) → r < 18446744073709551616 → (q * 18446744073709551616 + r) / 1208925819614629174706176 % 256 ≡ q / 65536 % 256
byte_10 q r small = omega arith

byte_11 : (q r : ℕ) → r < 18446744073709551616 → (q * 18446744073709551616 + r) / 309485009821345068724781056 % 256 ≡ q / 16777216 % 256
byte_11 q r small = omega arith

byte_12 : (q r : ℕ) → r < 18446744073709551616 → (q * 18446744073709551616 + r) / 79228162514264337593543950336 % 256 ≡ q / 4294967296 % 256
byte_12 q r small = omega arith

byte_13 : (q r : ℕ) → r < 18446744073709551616 → (q * 18446744073709551616 + r) / 20282409603651670423947251286016 % 256 ≡ q / 1099511627776 % 256
byte_13 q r small = omega arith

byte_14 : (q r : ℕ) → r < 18446744073709551616 → (q * 18446744073709551616 + r) / 5192296858534827628530496329220096 % 256 ≡ q / 281474976710656 % 256
byte_14 q r small = omega arith

byte_15 : (q r : ℕ) → r < 18446744073709551616 → (q * 18446744073709551616 + r) / 1329227995784915872903807060280344576 % 256 ≡ q / 72057594037927936 % 256
byte_15 q r small = omega arith

written_halves : (q r : ℕ) → r < 18446744073709551616 → to_be_bytes w128 (q * 18446744073709551616 + r) ≡ to_be_bytes w64 q ++ to_be_bytes w64 r
written_halves q r small = λ i. byte_15 q r small i ∷ byte_14 q r small i ∷ byte_13 q r small i ∷ byte_12 q r small i ∷ byte_11 q r small i ∷ byte_10 q r small i ∷ byte_9 q r small i ∷ byte_8 q r small i ∷ byte_7 q r small i ∷ byte_6 q r small i ∷ byte_5 q r small i ∷ byte_4 q r small i ∷ byte_3 q r small i ∷ byte_2 q r small i ∷ byte_1 q r small i ∷ byte_0 q r small i ∷ []

sixteen : (a7 a6 a5 a4 a3 a2 a1 a0 b7 b6 b5 b4 b3 b2 b1 b0 : ℕ) → from_be_bytes w128 ((a7 ∷ a6 ∷ a5 ∷ a4 ∷ a3 ∷ a2 ∷ a1 ∷ a0 ∷ []) ++ (b7 ∷ b6 ∷ b5 ∷ b4 ∷ b3 ∷ b2 ∷ b1 ∷ b0 ∷ [])) ≡ from_be_bytes w64 (a7 ∷ a6 ∷ a5 ∷ a4 ∷ a3 ∷ a2 ∷ a1 ∷ a0 ∷ []) * 18446744073709551616 + from_be_bytes w64 (b7 ∷ b6 ∷ b5 ∷ b4 ∷ b3 ∷ b2 ∷ b1 ∷ b0 ∷ [])
sixteen a7 a6 a5 a4 a3 a2 a1 a0 b7 b6 b5 b4 b3 b2 b1 b0 = omega arith

read_written : (q r : ℕ) → from_be_bytes w128 (to_be_bytes w64 q ++ to_be_bytes w64 r) ≡ from_be_bytes w64 (to_be_bytes w64 q) * 18446744073709551616 + from_be_bytes w64 (to_be_bytes w64 r)
read_written q r = sixteen (q / 72057594037927936 % 256) (q / 281474976710656 % 256) (q / 1099511627776 % 256) (q / 4294967296 % 256) (q / 16777216 % 256) (q / 65536 % 256) (q / 256 % 256) (q % 256) (r / 72057594037927936 % 256) (r / 281474976710656 % 256) (r / 1099511627776 % 256) (r / 4294967296 % 256) (r / 16777216 % 256) (r / 65536 % 256) (r / 256 % 256) (r % 256)

read_halves : (bytes : List ℕ) → from_be_bytes w128 bytes ≡ from_be_bytes w64 (take 8 bytes) * 18446744073709551616 + from_be_bytes w64 (drop 8 bytes)
read_halves bytes =
    let h0 : get_or (take 8 bytes) 0 0 ≡ get_or bytes 0 0 = get_or-take 8 bytes 0 0 (omega arith) in
    let l0 : get_or (drop 8 bytes) 0 0 ≡ get_or bytes 8 0 = get_or-drop 8 bytes 0 0 in
    let h1 : get_or (take 8 bytes) 1 0 ≡ get_or bytes 1 0 = get_or-take 8 bytes 1 0 (omega arith) in
    let l1 : get_or (drop 8 bytes) 1 0 ≡ get_or bytes 9 0 = get_or-drop 8 bytes 1 0 in
    let h2 : get_or (take 8 bytes) 2 0 ≡ get_or bytes 2 0 = get_or-take 8 bytes 2 0 (omega arith) in
    let l2 : get_or (drop 8 bytes) 2 0 ≡ get_or bytes 10 0 = get_or-drop 8 bytes 2 0 in
    let h3 : get_or (take 8 bytes) 3 0 ≡ get_or bytes 3 0 = get_or-take 8 bytes 3 0 (omega arith) in
    let l3 : get_or (drop 8 bytes) 3 0 ≡ get_or bytes 11 0 = get_or-drop 8 bytes 3 0 in
    let h4 : get_or (take 8 bytes) 4 0 ≡ get_or bytes 4 0 = get_or-take 8 bytes 4 0 (omega arith) in
    let l4 : get_or (drop 8 bytes) 4 0 ≡ get_or bytes 12 0 = get_or-drop 8 bytes 4 0 in
    let h5 : get_or (take 8 bytes) 5 0 ≡ get_or bytes 5 0 = get_or-take 8 bytes 5 0 (omega arith) in
    let l5 : get_or (drop 8 bytes) 5 0 ≡ get_or bytes 13 0 = get_or-drop 8 bytes 5 0 in
    let h6 : get_or (take 8 bytes) 6 0 ≡ get_or bytes 6 0 = get_or-take 8 bytes 6 0 (omega arith) in
    let l6 : get_or (drop 8 bytes) 6 0 ≡ get_or bytes 14 0 = get_or-drop 8 bytes 6 0 in
    let h7 : get_or (take 8 bytes) 7 0 ≡ get_or bytes 7 0 = get_or-take 8 bytes 7 0 (omega arith) in
    let l7 : get_or (drop 8 bytes) 7 0 ≡ get_or bytes 15 0 = get_or-drop 8 bytes 7 0 in
    omega (arith, h0, l0, h1, l1, h2, l2, h3, l3, h4, l4, h5, l5, h6, l6, h7, l7)

ulid_again : (n : ℕ) → n < 2 ^ 128 → from_be_bytes w128 (to_be_bytes w128 n) ≡ n
ulid_again n fits =
    let q = n / 18446744073709551616 in
    let r = n % 18446744073709551616 in
    let whole : q * 18446744073709551616 + r ≡ n = omega arith in
    let high : from_be_bytes w64 (to_be_bytes w64 q) ≡ q = from_be_bytes-to_be_bytes_8 q (omega arith) in
    let low : from_be_bytes w64 (to_be_bytes w64 r) ≡ r = from_be_bytes-to_be_bytes_8 r (omega arith) in
    ap (λ m. from_be_bytes w128 (to_be_bytes w128 m)) (sym whole) ∙ ap (from_be_bytes w128) (written_halves q r (omega arith)) ∙ read_written q r
    ∙ ap (λ m. m * 18446744073709551616 + from_be_bytes w64 (to_be_bytes w64 r)) high ∙ ap (λ m. q * 18446744073709551616 + m) low ∙ whole

ulid_back : (bytes : List ℕ) → length bytes ≡ 16 → IsBytes bytes → to_be_bytes w128 (from_be_bytes w128 bytes) ≡ bytes
ulid_back bytes len are =
    let high = take 8 bytes in
    let low = drop 8 bytes in
    let back_high = wide64.back high (omega (arith, length-take 8 bytes, len)) (IsBytes-take 8 bytes are) in
    let back_low = wide64.back low (omega (arith, length-drop 8 bytes, len)) (IsBytes-drop 8 bytes are) in
    let small = wide64.below low (IsBytes-drop 8 bytes are) in
    ap (to_be_bytes w128) (read_halves bytes) ∙ written_halves (from_be_bytes w64 high) (from_be_bytes w64 low) small
    ∙ ap (λ (t : List ℕ). t ++ to_be_bytes w64 (from_be_bytes w64 low)) back_high ∙ ap (λ (t : List ℕ). high ++ t) back_low ∙ take-append-drop 8 bytes

ulid_below : (bytes : List ℕ) → IsBytes bytes → from_be_bytes w128 bytes < 2 ^ 128
ulid_below bytes are =
    omega (arith, read_halves bytes, wide64.below (take 8 bytes) (IsBytes-take 8 bytes are), wide64.below (drop 8 bytes) (IsBytes-drop 8 bytes are))

wide128 : IsWide w128
wide128 = record {
  len = λ n. refl;
  back = ulid_back;
  again = ulid_again;
  below = ulid_below;
}

pub ulid_tied : Ties ulid_at IsUlid
ulid_tied = number_tied w128 wide128
