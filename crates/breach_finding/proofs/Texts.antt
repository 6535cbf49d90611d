-- The first place in which texts differ.
use Rattle.std.proofs.Common.{◌≡◌, ◌≢◌, ◌⊎◌, inl, inr, ℕ, zero, suc, ◌+◌, ◌<◌, ◌≤◌, List, [], ◌∷◌, ◌++◌, take, drop, length, Option, Some, None, sym, ◌∙◌, ap, subst, arith}
use Rattle.std.proofs.lemmas.List.{take-append-drop}
use Rattle.world_core.specs.declared.reply.Reply.{Reply}
use Rattle.world_core.specs.declared.reply.Reply.TheVariants.{Found, Names}
use Rattle.lifecycle_core.specs.Breaches.{FirstDiffer, next_byte, shown_by}
use Rattle.breach_finding.specs.Told.{IsDifference, IsShownWrong, ended_names}

-- texts that begin alike differ in what comes next
pub differ_at : (one other : List ℕ) (place x y : ℕ) → take place one ≡ take place other → x ≡ next_byte (drop place one) → y ≡ next_byte (drop place other) → x ≢ y → FirstDiffer one other x y
differ_at one other place x y same is_x is_y apart = (
  take place one,
  drop place one,
  drop place other,
  sym (take-append-drop place one),
  sym (take-append-drop place other) ∙ ap (λ (front : List ℕ). front ++ drop place other) (sym same),
  sym is_x,
  sym is_y,
  apart,
)

-- texts that begin alike, and go on alike, begin alike one byte further
further : (place : ℕ) (one other : List ℕ) → place < length one → place < length other → take place one ≡ take place other → next_byte (drop place one) ≡ next_byte (drop place other) → take (suc place) one ≡ take (suc place) other
further zero (x ∷ one) (y ∷ other) less low same next = ap (λ (z : ℕ). z ∷ []) next
further (suc place) (x ∷ one) (y ∷ other) less low same next = cc (same, further place one other (omega (arith, less)) (omega (arith, low)) (cc (same)) next)
further place [] other less low same next = absurd (omega (arith, less))
further place (x ∷ one) [] less low same next = absurd (omega (arith, low))

pub one_further : (one other : List ℕ) (place count : ℕ) → place < count → count ≤ length one → count ≤ length other → take place one ≡ take place other → next_byte (drop place one) ≡ next_byte (drop place other) → take (place + 1) one ≡ take (place + 1) other
one_further one other place count less few low same next =
    let more : suc place ≡ place + 1 = omega arith in
    subst (λ n. take n one ≡ take n other) more (further place one other (omega (arith, less, few)) (omega (arith, less, low)) same next)

-- a letter before both texts changes nothing
pub behind_letter : (letter : ℕ) (one other : List ℕ) (told : Option (ℕ × ℕ)) → IsDifference one other told → IsDifference (letter ∷ one) (letter ∷ other) told
behind_letter letter one other None same = ap (λ (text : List ℕ). letter ∷ text) same
behind_letter letter one other (Some (x, y)) (front, left, right, begins, goes, is_x, is_y, apart) =
    (letter ∷ front, left, right, ap (λ (text : List ℕ). letter ∷ text) begins, ap (λ (text : List ℕ). letter ∷ text) goes, is_x, is_y, apart)

-- at the end of the shorter of two texts of different lengths
pub ends_apart : (m n count x y : ℕ) → count ≤ m → count ≤ n → (m ≡ count) ⊎ (n ≡ count) → m ≢ n → (count < m → x < 256) → (m ≤ count → x ≡ 256) → (count < n → y < 256) → (n ≤ count → y ≡ 256) → x ≢ y
ends_apart m n count x y within also (inl is) apart byte end byte' end' same =
    let x_is : x ≡ 256 = end (omega (arith, is)) in
    let y_is : y < 256 = byte' (let not : n ≢ count = λ e. apart (is ∙ sym e) in omega (arith, also, not)) in
    omega (arith, x_is, y_is, same)
ends_apart m n count x y within also (inr is) apart byte end byte' end' same =
    let y_is : y ≡ 256 = end' (omega (arith, is)) in
    let x_is : x < 256 = byte (let not : m ≢ count = λ e. apart (e ∙ sym is) in omega (arith, within, not)) in
    omega (arith, x_is, y_is, same)

pub shown_found : (reply : Reply) (bytes owed : List ℕ) (told : Option (ℕ × ℕ)) → reply ≡ Found bytes → IsDifference bytes owed told → IsShownWrong (shown_by reply) (70 ∷ owed) told
shown_found reply bytes owed told is differ = subst (λ r. IsShownWrong (shown_by r) (70 ∷ owed) told) (sym is) (behind_letter 70 bytes owed told differ)

pub shown_names : (reply : Reply) (names owed : List (List ℕ)) (told : Option (ℕ × ℕ)) → reply ≡ Names names → IsDifference (ended_names names) (ended_names owed) told → IsShownWrong (shown_by reply) (78 ∷ ended_names owed) told
shown_names reply names owed told is differ = subst (λ r. IsShownWrong (shown_by r) (78 ∷ ended_names owed) told) (sym is) (behind_letter 78 (ended_names names) (ended_names owed) told differ)
