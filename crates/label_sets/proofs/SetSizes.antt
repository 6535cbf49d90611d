-- A text of a label set is longer than what it lists.
use Rattle.std.proofs.Common.{◌≡◌, ℕ, ◌≤◌, Bool, true, false, cond, List, [], ◌∷◌, ◌++◌, length, take, Result, Ok, Err, refl, sym, ap, ◌∙◌, arith}
use Rattle.std.specs.Prelude.{IfOk, ◌==◌}
use Rattle.std.specs.List.{flat_map}
use Rattle.std.proofs.lemmas.List.{length-append, take_at}
use Rattle.std.proofs.lemmas.List.Sorted.{sum_by-IsPermutation}
use Rattle.std.proofs.lemmas.List.Sums.{sum_by-cons}
use Rattle.base.specs.Reading.{Gives}
use Rattle.label_sets.specs.declared.label.Label.{Label}
use Rattle.label_sets.specs.declared.label_refusal.LabelRefusal.{LabelRefusal}
use Rattle.label_sets.specs.declared.label_refusal.LabelRefusal.TheVariants.{NoMemory}
use Rattle.label_sets.specs.Counts.{members_of, members_in}
use Rattle.label_sets.specs.Notation.{quoted_byte, quoted, pair_text, comma_pair_text, pairs_text, set_text, read_set}
use Rattle.label_sets.specs.SetText.{IsSetText}
use Rattle.label_sets.proofs.SetsFound.{set_found}
use Rattle.label_sets.proofs.SetLaws.{set_text_found}

some_byte : (a b c : Bool) (byte : ℕ) → 1 ≤ length (cond a (92 ∷ 92 ∷ []) (cond b (92 ∷ 34 ∷ []) (cond c (92 ∷ 110 ∷ []) (byte ∷ []))))
some_byte true b c _ = omega arith
some_byte false true c _ = omega arith
some_byte false false true _ = omega arith
some_byte false false false _ = omega arith

longer_quoted : (value : List ℕ) → length value ≤ length (quoted value)
unfolding quoted quoted_byte
longer_quoted [] = omega arith
longer_quoted (byte ∷ value) =
    omega (arith, longer_quoted value, some_byte (byte == 92) (byte == 34) (byte == 10) byte, length-append (quoted_byte byte) (quoted value))

longer_pair : (label : Label) → members_of label ≤ length (pair_text label)
unfolding pair_text
longer_pair label = simp length-append (omega (arith, longer_quoted label.value))

longer_pairs : (labels : List Label) → members_in labels ≤ length (flat_map comma_pair_text labels)
unfolding comma_pair_text
longer_pairs [] = omega arith
longer_pairs (l ∷ ls) =
    omega (arith, sum_by-cons members_of l ls, longer_pair l, longer_pairs ls, length-append (comma_pair_text l) (flat_map comma_pair_text ls))

pub longer_set : (labels : List Label) → members_in labels ≤ length (set_text labels)
unfolding set_text pairs_text
longer_set [] = omega arith
longer_set (l ∷ ls) =
    omega (arith, sum_by-cons members_of l ls, longer_pair l, longer_pairs ls, length-append (pair_text l) (flat_map comma_pair_text ls), length-append (pairs_text (l ∷ ls)) (125 ∷ []))

take_front : (text : List ℕ) (labels : List Label) (after : List ℕ) (taken : ℕ) → text ≡ set_text labels ++ after → taken ≡ length (set_text labels) → take taken text ≡ set_text labels
take_front _ _ _ _ whole is = (λ i. take (is i) (whole i)) ∙ take_at _ _ _ refl

pub longer_text : (text : List ℕ) (set : List Label) → IsSetText text set → members_in set ≤ length text
longer_text text set is = omega (arith, longer_set is.listed, ap length is.written, sum_by-IsPermutation members_of is.listed set is.arranged)

-- so what is read has no more members than the bytes that it takes
pub members_read : {X : Type 0} (view : X → List Label × ℕ) (r : Result X LabelRefusal) (text : List ℕ) → Gives NoMemory view r (read_set text)
    → IfOk r (λ x. (members_in (view x).0 ≤ (view x).1) × ((view x).1 ≤ length text))
members_read view (Ok x) text h =
    let s = set_found text (view x).0 (view x).1 h in
    let is = set_text_found text (view x).0 _ h in
    let front = ap length (take_front _ _ _ _ s.whole s.taken_is) ∙ sym s.taken_is in
    (omega (arith, longer_text (take (view x).1 text) (view x).0 is, front), omega (arith, ap length s.whole, length-append (set_text s.labels) s.after))
members_read _ (Err e) _ h = tt
