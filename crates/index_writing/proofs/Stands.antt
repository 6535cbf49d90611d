-- What is written stands where it was written.
use Rattle.std.proofs.Common.{◌≡◌, ℕ, ◌^◌, ◌<◌, List, ◌++◌, length, drop, Result, Ok, Err, refl, sym, ap, subst, ◌∙◌, append_assoc, arith}
use Rattle.std.specs.Prelude.{OnOk}
use Rattle.std.specs.Int.{w32, to_be_bytes}
use Rattle.std.proofs.lemmas.List.{drop_at}
use Rattle.wire_bytes.specs.Crc.{crc}
use Rattle.index_parts.specs.Framed.{IsFramed, IsSection, section_text}

behind : (before size content sum after : List ℕ) → drop (length before) ((before ++ (size ++ content ++ sum)) ++ after) ≡ size ++ content ++ sum ++ after
behind before size content sum after = ap (drop (length before)) (append_assoc before (size ++ content ++ sum) after) ∙ drop_at before ((size ++ content ++ sum) ++ after) (length before) refl

pub framed_stands : (IsSize : List ℕ → ℕ → Type 0) (before size content after : List ℕ) → IsSize size (length content) → crc content < 2 ^ 32 → IsFramed IsSize ((before ++ (size ++ content ++ to_be_bytes w32 (crc content))) ++ after) (length before) content
framed_stands IsSize before size content after is sum = record {
  size = size;
  sum = to_be_bytes w32 (crc content);
  after = after;
  size_is = is;
  sum_is = record { digits = refl; fits = sum };
  stands = behind before size content (to_be_bytes w32 (crc content)) after;
}

pub section_stands : (before content after : List ℕ) → length content < 2 ^ 32 → crc content < 2 ^ 32 → IsSection ((before ++ section_text content) ++ after) (length before) content
unfolding section_text
section_stands before _ _ fits sum = framed_stands _ _ _ _ _ (record { digits = refl; fits = fits }) sum

pub framed_written : {E : Type 0} (IsSize : List ℕ → ℕ → Type 0) (r put : Result (Unit {0}) E) (old written new size content after : List ℕ) (sum : ℕ) → r ≡ put → OnOk r (new ≡ written) → OnOk put (written ≡ old ++ (size ++ content ++ to_be_bytes w32 (crc content))) → IsSize size (length content) → sum ≡ crc content → sum < 2 ^ 32 → OnOk r (IsFramed IsSize (new ++ after) (length old) content)
framed_written IsSize (Ok x) _ old written _ size content after _ same kept put is e small =
    let is_put = subst (λ r. OnOk r (written ≡ old ++ (size ++ content ++ to_be_bytes w32 (crc content)))) (sym same) put in
    subst (λ a. IsFramed IsSize (a ++ after) (length old) content) (sym (kept ∙ is_put)) (framed_stands _ _ _ _ _ is (omega arith))
framed_written IsSize (Err d) _ _ _ _ _ _ _ _ same kept put is e small = tt
