-- A series that does not end within the part in which it is read is not there.
use Rattle.std.proofs.Common.{◌≡◌, ℕ, ◌+◌, ◌-◌, ◌*◌, ◌^◌, ◌<◌, ◌≤◌, List, [], length, drop, Err, refl, sym, ap, subst, ◌∙◌, arith, inl, inr}
use Rattle.std.specs.Result.{IsOkAnd}
use Rattle.std.proofs.lemmas.Bool.{cases_lt}
use Rattle.std.proofs.lemmas.List.{length-drop}
use Rattle.base.specs.Reading.{refused_as}
use Rattle.base.proofs.Binds.{by_result}
use Rattle.wire_bytes.specs.Position.{Position}
use Rattle.wire_bytes.specs.declared.varint.WireRefusal.{WireRefusal}
use Rattle.wire_bytes.specs.declared.varint.WireRefusal.TheVariants as wire
use Rattle.wire_bytes.specs.Fields.{uvarint_at}
use Rattle.index_parts.specs.declared.refusal.PartRefusal.{PartRefusal}
use Rattle.index_parts.specs.declared.refusal.PartRefusal.TheVariants as part
use Rattle.index_parts.specs.Placed.{at_place, refused_at}
use Rattle.index_parts.specs.Framing.{summed_at, framed_at}
use Rattle.index_parts.specs.SeriesReading.{labels_begin_at}
use Rattle.index_parts.specs.Parts.{Part, known, HoldsSeries}
use Rattle.index_parts.proofs.Longer.{framed_is, framed_refused, no_content, no_sum, entry_longer}
use Rattle.index_v2.specs.declared.refusal.IndexRefusal.TheVariants.{BadSeries}
use Rattle.index_v2.specs.Opening.{refused_of}
use Rattle.index_v2.specs.SeriesLabels.{numbered_at}
use Rattle.index_v2.proofs.LabelledSeries.{labelled_not_begun}
use Rattle.index_v2.proofs.SeriesSlices.{series_known_told}

only_short : (d : WireRefusal) → (d ≡ wire.Overlong → ⊥) → d ≡ wire.Short
only_short wire.Short other = refl
only_short wire.Overlong other = absurd (other refl)

summed_short : (place : ℕ) (bytes : List ℕ) (at count : ℕ) → length bytes < at + count + 4 → summed_at place count (at_place bytes at) ≡ Err (part.Short place)
summed_short _ bytes at count past =
    elim (cases_lt (length (drop at bytes)) count) [
      | inl few ↦ no_content _ _ at count few
      | inr enough ↦ no_sum _ _ at count enough (omega (arith, length-drop (at + count) bytes))
    ]

entry_short : (bytes : List ℕ) (at : ℕ) → (IsOkAnd (uvarint_at (at_place bytes at)) (λ (size : ℕ × Position). size.1.place + size.0 + 4 ≤ length bytes) → ⊥) → (uvarint_at (at_place bytes at) ≡ Err wire.Overlong → ⊥) → framed_at uvarint_at bytes at ≡ Err (part.Short at)
entry_short bytes at outside told = by_result _
    (λ size e.
    let here = ap (λ xs. at_place xs size.1.place) (sym (entry_longer.again bytes [] at size e).0) in
    elim (cases_lt (length bytes) (size.1.place + size.0 + 4)) [
      | inl past ↦ framed_is _ _ at size e ∙ ap (summed_at at size.0) (sym here) ∙ summed_short at bytes size.1.place size.0 past
      | inr within ↦ absurd (outside (subst (λ r. IsOkAnd r (λ size. size.1.place + size.0 + 4 ≤ length bytes)) (sym e) within))
    ])
    (λ d e. framed_refused uvarint_at bytes at d e ∙ ap (λ x. Err (refused_at at x)) (only_short d (λ over. told (e ∙ ap Err over))))

not_begun : (bytes : List ℕ) (at : ℕ) (d : PartRefusal) → framed_at uvarint_at bytes at ≡ Err d → labels_begin_at bytes at ≡ Err d
unfolding labels_begin_at
not_begun _ _ d e = rw e refl

pub series_outside : (here : Part) (symbols : List (List ℕ)) (number : ℕ) → here.begin ≤ 16 * number → 16 * number < 2 ^ 64 → here.begin + length here.bytes < 2 ^ 64 → (HoldsSeries here (16 * number) → ⊥) → (uvarint_at (at_place here.bytes (16 * number - here.begin)) ≡ Err wire.Overlong → ⊥) → numbered_at (known here) symbols number ≡ Err (BadSeries number (part.Short (16 * number)))
series_outside here _ number begins small fits outside told =
    let k = 16 * number - here.begin in
    let place : here.begin + k ≡ 16 * number = omega arith in
    let short = labelled_not_begun _ _ k _ (not_begun _ k _ (entry_short _ k (λ lies. outside (begins, lies)) told)) in
    ap (refused_as (refused_of number)) ((series_known_told _ _ _ begins small fits).refused (part.Short k) short) ∙ ap (λ n. Err (BadSeries number (part.Short n))) place
