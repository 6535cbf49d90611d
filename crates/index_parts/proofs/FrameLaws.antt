-- The frames of sections: what is read is in the grammar, and what is in the grammar is read.
use Rattle.std.proofs.Common.{◌≡◌, ℕ, ◌+◌, ◌<◌, ◌≤◌, List, ◌++◌, length, take, drop, Ok, refl, sym, ap, subst, ◌∙◌, append_assoc, length-append, arith, Result}
use Rattle.std.specs.Prelude.{◌==◌}
use Rattle.std.specs.Int.{w32}
use Rattle.std.proofs.lemmas.Bool.{eqb-true, eq-eqb}
use Rattle.std.proofs.lemmas.List.{drop-take, drop_at, length-drop}
use Rattle.base.specs.Grammar.{IsBytes}
use Rattle.base.proofs.Fronts.{IsBytes-after, IsBytes-drop}
use Rattle.base.proofs.Binds.{bind_ok, unless_ok, refused_as_ok, ok_is}
use Rattle.wire_bytes.specs.Position.{Position, left, further}
use Rattle.wire_bytes.specs.declared.varint.WireRefusal.{WireRefusal}
use Rattle.wire_bytes.specs.FieldTexts.{IsFixed}
use Rattle.wire_bytes.specs.Crc.{crc}
use Rattle.wire_bytes.proofs.FieldLaws.{left-further}
use Rattle.base.proofs.Fronts.{IsBytes-take}
use Rattle.wire_bytes.proofs.FixedLaws.{wide32, number_found, number_again}
use Rattle.index_parts.specs.declared.refusal.PartRefusal.{PartRefusal}
use Rattle.index_parts.specs.declared.refusal.PartRefusal.TheVariants.{Short, BadSum}
use Rattle.index_parts.specs.Placed.{at_place, field}
use Rattle.index_parts.specs.Framed.{IsFramed}
use Rattle.index_parts.specs.Framing.{summed_at, framed_at}
use Rattle.wire_bytes.proofs.ByteFields.{bytes_parts, bytes_split, bytes_again}
use Rattle.index_parts.proofs.FieldLaws.{IsFieldOf}

-- content and its sum, and what follows
pub record IsSummed (bytes content after : List ℕ) : Type 0 where
  pub sum : List ℕ
  pub sum_is : IsFixed w32 sum (crc content)
  pub bytes_are : bytes ≡ content ++ sum ++ after

pub content_left : (p : Position) (size : ℕ) → left (at_place (take (p.place + size) p.bytes) p.place) ≡ take size (left p)
content_left p size = drop-take p.place size p.bytes

pub summed_found : (at size : ℕ) (p q : Position) → IsBytes (left p) → summed_at at size p ≡ Ok q → (after : List ℕ) × IsSummed (left p) (left q) after × (length (left q) ≡ size) × IsBytes (left q)
unfolding summed_at
summed_found at size p q are e =
    let x = bind_ok _ _ _ e in
    let y = bind_ok _ _ _ x.2 in
    let tested = unless_ok (y.0.0 == crc x.0.0) (BadSum y.0.0 (crc x.0.0)) _ _ y.2 in
    let content_read = refused_as_ok (λ _. Short at) _ _ x.1 in
    let parts = bytes_parts _ p _ _ content_read in
    let content = bytes_split _ p _ _ content_read in
    let kept = number_found _ wide32 _ _ _ (IsBytes-after _ _ _ content.1 are) (refused_as_ok _ _ _ y.1) in
    let end = ap (λ r. r.place) parts.2 in
    let here = ap left (sym (ok_is {E = PartRefusal} _ _ tested.1)) ∙ ap (λ n. left (at_place (take n p.bytes) p.place)) (sym end) ∙ content_left p _ ∙ parts.1 in
    let sum = subst (IsFixed w32 kept.0) (eqb-true y.0.0 (crc x.0.0) tested.0 ∙ ap crc (sym here)) kept.1 in (
      left y.0.1,
      record {
        sum = kept.0;
        sum_is = sum;
        bytes_are = content.1 ∙ ap (λ (a : List ℕ). x.0.0 ++ a) kept.2 ∙ ap (λ (a : List ℕ). a ++ (kept.0 ++ left y.0.1)) (sym here) ∙ sym (append_assoc (left q) kept.0 (left y.0.1));
      },
      ap length here ∙ content.0,
      subst IsBytes (sym (here ∙ sym parts.1)) (IsBytes-take size (left p) are),
    )

pub summed_again : (at : ℕ) (p : Position) (content after : List ℕ) → IsSummed (left p) content after → (q : Position) × (summed_at at (length content) p ≡ Ok q) × (left q ≡ content)
unfolding summed_at
summed_again _ p content after is =
    let whole = is.bytes_are ∙ append_assoc content is.sum after in
    let front = bytes_again _ p _ _ refl whole in
    let r = further (length content) p in
    let rest = left-further _ p ∙ ap (drop (length content)) whole ∙ drop_at content (is.sum ++ after) (length content) refl in
    let kept = number_again _ wide32 r _ _ _ is.sum_is rest in
    let parts = bytes_parts _ p r _ front in
    (at_place (take (p.place + length content) p.bytes) p.place, rw (front, kept, eq-eqb (crc content) (crc content) refl) refl, content_left p _ ∙ parts.1)

pub regroup : (size content sum after : List ℕ) → size ++ (content ++ sum ++ after) ≡ size ++ content ++ sum ++ after
regroup size content sum after = sym (append_assoc size (content ++ sum) after) ∙ ap (λ a. a ++ after) (sym (append_assoc size content sum))

-- a frame, by the texts of its length and how that is read
module _ (IsSize : List ℕ → ℕ → Type 0) (size_at : Position → Result (ℕ × Position) WireRefusal) (size_field : IsFieldOf IsSize (field size_at)) where
  pub framed_found : (index : List ℕ) (at : ℕ) (q : Position) → IsBytes index → framed_at size_at index at ≡ Ok q → IsFramed IsSize index at (left q) × IsBytes (left q)
  unfolding framed_at
  framed_found index at q are e =
      let x = bind_ok _ _ _ e in
      let size = size_field.found _ _ _ (IsBytes-drop at index are) x.1 in
      let summed = summed_found at x.0.0 x.0.1 q (IsBytes-after size.0 _ _ size.2 (IsBytes-drop at index are)) x.2 in (
        record {
          size = size.0;
          sum = summed.1.sum;
          after = summed.0;
          size_is = subst (IsSize size.0) (sym summed.2) size.1;
          sum_is = summed.1.sum_is;
          stands = size.2 ∙ ap (λ (a : List ℕ). size.0 ++ a) summed.1.bytes_are ∙ regroup size.0 (left q) summed.1.sum summed.0;
        },
        summed.3,
      )

  pub framed_again : (index : List ℕ) (at : ℕ) (content : List ℕ) → IsFramed IsSize index at content → (q : Position) × (framed_at size_at index at ≡ Ok q) × (left q ≡ content)
  unfolding framed_at
  framed_again index at content is =
      let size = size_field.again (at_place index at) is.size (length content) (content ++ is.sum ++ is.after) is.size_is (is.stands ∙ sym (regroup is.size _ _ _)) in
      let summed = summed_again at size.0 content is.after (record { sum = is.sum; sum_is = is.sum_is; bytes_are = size.2 }) in
      (summed.0, rw size.1 summed.1, summed.2)

-- no more bytes in a frame than in the index
pub framed_small : (IsSize : List ℕ → ℕ → Type 0) (index : List ℕ) (at : ℕ) (content : List ℕ) → IsFramed IsSize index at content → length content ≤ length index
framed_small IsSize index at content is =
    let e = ap length is.stands in
    omega (arith, length-drop at index, length-append (is.size ++ content ++ is.sum) is.after, length-append (is.size ++ content) is.sum, length-append is.size content)

-- a content that has bytes ends within the index
pub framed_within : (IsSize : List ℕ → ℕ → Type 0) (index : List ℕ) (at : ℕ) (content : List ℕ) → IsFramed IsSize index at content → 0 < length content → at + length content ≤ length index
framed_within IsSize index at content is some =
    let e = ap length is.stands in
    omega (arith, some, length-drop at index, length-append (is.size ++ content ++ is.sum) is.after, length-append (is.size ++ content) is.sum, length-append is.size content)
