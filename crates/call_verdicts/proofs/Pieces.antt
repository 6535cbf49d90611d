-- Streams that are written or read piece by piece.
use Rattle.std.proofs.Common.{◌≡◌, ℕ, List, ◌++◌, take, drop, sym, ◌∙◌, ap, append_assoc, take-append-drop}
use Rattle.std.specs.Prelude.{Option, Some, None, option_map}
use Rattle.call_verdicts.specs.Output.{IsWrittenInPart}

-- one more piece of what is left was written
pub one_more_written : (text left : List ℕ) (before now after : Option (List ℕ)) (count : ℕ)
    → (front : List ℕ) × (text ≡ front ++ left) × (now ≡ option_map (λ (bytes : List ℕ). bytes ++ front) before)
    → after ≡ option_map (λ (bytes : List ℕ). bytes ++ take count left) now
    → (front : List ℕ) × (text ≡ front ++ drop count left) × (after ≡ option_map (λ (bytes : List ℕ). bytes ++ front) before)
one_more_written text left None now after count w added = (
  w.0 ++ take count left,
  w.1 ∙ (ap (λ (l : List ℕ). w.0 ++ l) (sym (take-append-drop count left)) ∙ sym (append_assoc w.0 (take count left) (drop count left))),
  added ∙ ap (λ (o : Option (List ℕ)). option_map (λ (bytes : List ℕ). bytes ++ take count left) o) w.2,
)
one_more_written text left (Some bytes) now after count w added = (
  w.0 ++ take count left,
  w.1 ∙ (ap (λ (l : List ℕ). w.0 ++ l) (sym (take-append-drop count left)) ∙ sym (append_assoc w.0 (take count left) (drop count left))),
  added ∙ (ap (λ (o : Option (List ℕ)). option_map (λ (b : List ℕ). b ++ take count left) o) w.2 ∙ ap (λ (l : List ℕ). Some l) (append_assoc bytes w.0 (take count left))),
)

-- ---- one text after another

pub both_written : (one two : List ℕ) (before mid after : Option (List ℕ)) → mid ≡ option_map (λ (bytes : List ℕ). bytes ++ one) before → after ≡ option_map (λ (bytes : List ℕ). bytes ++ two) mid
    → after ≡ option_map (λ (bytes : List ℕ). bytes ++ (one ++ two)) before
both_written one two None mid after first second = second ∙ ap (λ (o : Option (List ℕ)). option_map (λ (bytes : List ℕ). bytes ++ two) o) first
both_written one two (Some bytes) mid after first second = second ∙ (ap (λ (o : Option (List ℕ)). option_map (λ (b : List ℕ). b ++ two) o) first ∙ ap (λ (l : List ℕ). Some l) (append_assoc bytes one two))

-- a part of the first
pub first_part : (one two : List ℕ) (before after : Option (List ℕ)) → IsWrittenInPart one before after → IsWrittenInPart (one ++ two) before after
first_part one two before after part = (part.0, part.1 ++ two, ap (λ (l : List ℕ). l ++ two) part.2 ∙ append_assoc part.0 part.1 two, part.3)

-- all of the first, and a part of the second
pub second_part : (one two : List ℕ) (before mid after : Option (List ℕ)) → mid ≡ option_map (λ (bytes : List ℕ). bytes ++ one) before → IsWrittenInPart two mid after → IsWrittenInPart (one ++ two) before after
second_part one two before mid after first part = (one ++ part.0, part.1, ap (λ (l : List ℕ). one ++ l) part.2 ∙ sym (append_assoc one part.0 part.1), both_written one part.0 before mid after first part.3)
