-- The names and sizes of segments, one by one.
use Rattle.std.proofs.Common.{◌≡◌, ℕ, zero, suc, ◌+◌, ◌/◌, ◌%◌, ◌<◌, List, [], ◌∷◌, ◌++◌, length, take, get_or, sym, ap, subst, ◌∙◌, arith}
use Rattle.std.specs.Str.{IsUtf8, IsAscii}
use Rattle.std.proofs.lemmas.List.{take_more, length-take}
use Rattle.std.proofs.lemmas.Str.{IsUtf8-from_ascii}
use Rattle.std.proofs.lemmas.Str.Ascii.{IsAscii-nil, IsAscii-cons}
use Rattle.block_keys.specs.KeyText.{six_digits}
use Rattle.block_keys.proofs.NameText.{six_digits-is}
use Rattle.block_meta.specs.declared.file_size.FileSize.{FileSize}
use Rattle.block_writing.specs.WrittenMeta.{segment_size, sizes_from, names_from}

six_ascii : (a b c d e f : ℕ) → a < 128 → b < 128 → c < 128 → d < 128 → e < 128 → f < 128 → IsAscii (a ∷ b ∷ c ∷ d ∷ e ∷ f ∷ [])
six_ascii a b c d e f la lb lc ld le lf =
    IsAscii-cons a (b ∷ c ∷ d ∷ e ∷ f ∷ []) la (IsAscii-cons b (c ∷ d ∷ e ∷ f ∷ []) lb (IsAscii-cons c (d ∷ e ∷ f ∷ []) lc (IsAscii-cons d (e ∷ f ∷ []) ld (IsAscii-cons e (f ∷ []) le (IsAscii-cons f [] lf IsAscii-nil)))))

pub IsUtf8-six_digits : (number : ℕ) → IsUtf8 (six_digits number)
IsUtf8-six_digits number =
    IsUtf8-from_ascii (six_digits number) (subst IsAscii (sym (six_digits-is number))
    (six_ascii (48 + number / 100_000 % 10) (48 + number / 10_000 % 10) (48 + number / 1_000 % 10) (48 + number / 100 % 10) (48 + number / 10 % 10) (48 + number % 10) (omega arith) (omega arith) (omega arith) (omega arith) (omega arith) (omega arith)))

sizes_push : (number : ℕ) (front : List (List ℕ)) (segment : List ℕ) → sizes_from number (front ++ segment ∷ []) ≡ sizes_from number front ++ segment_size (number + length front) segment ∷ []
unfolding sizes_from
sizes_push number [] segment = let e : number ≡ number + 0 = omega arith in ap (λ (n : ℕ). segment_size n segment ∷ []) e
sizes_push number (first ∷ front) segment =
    let e : (number + 1) + length front ≡ number + length (first ∷ front) = omega arith in
    ap (λ (l : List FileSize). segment_size number first ∷ l) (sizes_push (number + 1) front segment ∙ ap (λ (n : ℕ). sizes_from (number + 1) front ++ segment_size n segment ∷ []) e)

pub sizes_more : (segments : List (List ℕ)) (place number : ℕ) (segment d : List ℕ) → place < length segments → segment ≡ get_or segments place d → number ≡ place + 1 → sizes_from 1 (take (place + 1) segments) ≡ sizes_from 1 (take place segments) ++ segment_size number segment ∷ []
sizes_more segments place number segment d within at numbered =
    let e : 1 + length (take place segments) ≡ number = omega (arith, numbered, length-take place segments) in
    ap (sizes_from 1) (take_more segments place d within) ∙ sizes_push 1 (take place segments) (get_or segments place d)
    ∙ ap (λ (n : ℕ). sizes_from 1 (take place segments) ++ segment_size n (get_or segments place d) ∷ []) e ∙ ap (λ (l : List ℕ). sizes_from 1 (take place segments) ++ segment_size number l ∷ []) (sym at)

names_push : (number count : ℕ) → names_from number (suc count) ≡ names_from number count ++ six_digits (number + count) ∷ []
unfolding names_from
names_push number zero = let e : number ≡ number + 0 = omega arith in ap (λ (n : ℕ). six_digits n ∷ []) e
names_push number (suc count) =
    let e : (number + 1) + count ≡ number + suc count = omega arith in
    ap (λ (l : List (List ℕ)). six_digits number ∷ l) (names_push (number + 1) count ∙ ap (λ (n : ℕ). names_from (number + 1) count ++ six_digits n ∷ []) e)

pub names_more : (place number : ℕ) → number ≡ place + 1 → names_from 1 (place + 1) ≡ names_from 1 place ++ six_digits number ∷ []
names_more place number numbered =
    let e : place + 1 ≡ suc place = omega arith in
    let f : 1 + place ≡ number = omega (arith, numbered) in
    ap (names_from 1) e ∙ names_push 1 place ∙ ap (λ (n : ℕ). names_from 1 place ++ six_digits n ∷ []) f
