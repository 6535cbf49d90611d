-- A text that is cut at an ASCII byte, and the text for which a quoted one stands.
use Rattle.std.proofs.Common.{◌≡◌, ℕ, zero, suc, ◌+◌, ◌<◌, cond, List, [], ◌∷◌, ◌++◌, length, get_or, drop, refl, sym, ap, ◌∙◌, subst, arith, append_assoc, take_at, eqb}
use Rattle.std.proofs.lemmas.List.{length-append, get_or_at, drop_at}
use Rattle.std.proofs.lemmas.Str.{IsUtf8-append, IsUtf8-take, IsUtf8-drop, IsUtf8-from_ascii, IsCharBoundary-before_ascii, IsCharBoundary-after_ascii}
use Rattle.std.specs.Str.{IsUtf8}
use Rattle.std.proofs.lemmas.Bool.{eqb-true}
use Rattle.label_sets.specs.Notation.{quoted, quoted_byte}
use Rattle.label_sets.proofs.LabelValues.{by_bool}

pub cut_front : (xs ys : List ℕ) (c : ℕ) → c < 128 → IsUtf8 (xs ++ c ∷ ys) → IsUtf8 xs
cut_front xs ys c a u =
    let bs = xs ++ c ∷ ys in
    let here = get_or_at _ c ys 0 (length xs) refl in
    let l : length xs < length bs = omega (arith, length-append xs (c ∷ ys)) in
    subst IsUtf8 (take_at xs (c ∷ ys) (length xs) refl) (IsUtf8-take bs (length xs) u (IsCharBoundary-before_ascii bs (length xs) l (omega arith)))

pub cut_rest : (xs ys : List ℕ) (c : ℕ) → c < 128 → IsUtf8 (xs ++ c ∷ ys) → IsUtf8 ys
cut_rest xs ys c a u =
    let bs = xs ++ c ∷ ys in
    let here = get_or_at _ c ys 0 (length xs) refl in
    let l : length xs < length bs = omega (arith, length-append xs (c ∷ ys)) in
    let e : bs ≡ (xs ++ c ∷ []) ++ ys = sym (append_assoc xs (c ∷ []) ys) in
    let n : length (xs ++ c ∷ []) ≡ length xs + 1 = omega (arith, length-append xs (c ∷ [])) in
    subst IsUtf8 (ap (drop (length xs + 1)) e ∙ drop_at (xs ++ c ∷ []) ys (length xs + 1) n)
    (IsUtf8-drop bs (length xs + 1) u (IsCharBoundary-after_ascii bs (length xs) u l (omega arith)))

one_ascii : (c : ℕ) → c < 128 → (i : ℕ) → get_or (c ∷ []) i 0 < 128
one_ascii c l zero = l
one_ascii c l (suc i) = omega arith

-- an ASCII byte more
after_ascii : (a bs : List ℕ) (c : ℕ) → c < 128 → IsUtf8 a → IsUtf8 bs → IsUtf8 (a ++ c ∷ bs)
after_ascii a _ c l p q = IsUtf8-append a _ p (IsUtf8-append (c ∷ []) _ (IsUtf8-from_ascii _ (one_ascii c l)) q)

quoted-cons : (byte : ℕ) (value : List ℕ) → quoted (byte ∷ value) ≡ quoted_byte byte ++ quoted value
unfolding quoted
quoted-cons _ _ = refl

-- a text with an escape in it: what stands before the escape, and what after
escape_parts : (a rest : List ℕ) (c : ℕ) → c < 128 → IsUtf8 (a ++ 92 ∷ c ∷ rest) → IsUtf8 a × IsUtf8 rest
escape_parts a _ c l u = (cut_front a _ _ (omega arith) u, cut_rest [] _ c l (cut_rest a _ _ (omega arith) u))

-- the byte is a backslash, a quote or a newline, or stands for itself
by_byte : {P : Type 0} (byte : ℕ)
    → (byte ≡ 92 → quoted_byte byte ≡ 92 ∷ 92 ∷ [] → P) → (byte ≡ 34 → quoted_byte byte ≡ 92 ∷ 34 ∷ [] → P)
    → (byte ≡ 10 → quoted_byte byte ≡ 92 ∷ 110 ∷ [] → P) → (quoted_byte byte ≡ byte ∷ [] → P) → P
unfolding quoted_byte
by_byte byte f g h k = by_bool (eqb byte 92)
    (λ t. f (eqb-true _ _ t) (ap (λ b. cond b (92 ∷ 92 ∷ []) (cond (eqb byte 34) (92 ∷ 34 ∷ []) (cond (eqb byte 10) (92 ∷ 110 ∷ []) (byte ∷ [])))) t))
    (λ n. by_bool (eqb byte 34)
    (λ t. g (eqb-true _ _ t) (λ i. cond (n i) (92 ∷ 92 ∷ []) (cond (t i) (92 ∷ 34 ∷ []) (cond (eqb byte 10) (92 ∷ 110 ∷ []) (byte ∷ [])))))
    (λ m. by_bool (eqb byte 10)
    (λ t. h (eqb-true _ _ t) (λ i. cond (n i) (92 ∷ 92 ∷ []) (cond (m i) (92 ∷ 34 ∷ []) (cond (t i) (92 ∷ 110 ∷ []) (byte ∷ [])))))
    (λ o. k (λ i. cond (n i) (92 ∷ 92 ∷ []) (cond (m i) (92 ∷ 34 ∷ []) (cond (o i) (92 ∷ 110 ∷ []) (byte ∷ [])))))))

-- with what stands before it, a value is a text where its quoted form is one
pub unquoted_after : (a value : List ℕ) → IsUtf8 (a ++ quoted value) → IsUtf8 (a ++ value)
unfolding quoted
unquoted_after a [] u = u
unquoted_after a (byte ∷ value) u =
    let escaped : (c : ℕ) → c < 128 → byte < 128 → quoted_byte byte ≡ 92 ∷ c ∷ [] → IsUtf8 (a ++ byte ∷ value) = λ c l b e.
    let parts = escape_parts a (quoted value) c l (subst (λ q. IsUtf8 (a ++ (q ++ quoted value))) e u) in
    after_ascii a value byte b parts.0 (unquoted_after [] value parts.1) in
    by_byte _
    (λ e q. escaped 92 (omega arith) (omega arith) q)
    (λ e q. escaped 34 (omega arith) (omega arith) q)
    (λ e q. escaped 110 (omega arith) (omega arith) q)
    (λ q. subst IsUtf8 (append_assoc a (byte ∷ []) value)
    (unquoted_after (a ++ byte ∷ []) _ (subst IsUtf8 (sym (append_assoc a (byte ∷ []) (quoted value))) (subst (λ q. IsUtf8 (a ++ (q ++ quoted value))) q u))))

pub unquoted : (value : List ℕ) → IsUtf8 (quoted value) → IsUtf8 value
unquoted value u = unquoted_after [] value u
