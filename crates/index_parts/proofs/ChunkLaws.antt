-- The chunks of a series against their grammar.
use Rattle.std.proofs.Common.{◌≡◌, ℕ, ◌+◌, ◌*◌, ◌/◌, ◌%◌, ◌^◌, ◌<◌, ◌≤◌, true, List, ◌++◌, length, Option, Some, None, Ok, refl, sym, ap, subst, ◌∙◌, append_assoc, length-append, arith, ℤ, pos, negsuc, ◌+ℤ◌}
use Rattle.std.specs.Int.{w64}
use Rattle.std.specs.Int.RustNames.{FitsSigned, unsigned_abs}
use Rattle.std.proofs.lemmas.Bool.{ltb-true, lt-ltb}
use Rattle.base.specs.Decimal.{fits_signed}
use Rattle.base.specs.Grammar.{IsBytes, HasFront}
use Rattle.base.proofs.Fronts.{IsBytes-after}
use Rattle.base.proofs.Binds.{bind_ok, unless_ok}
use Rattle.wire_bytes.specs.Position.{Position, left}
use Rattle.wire_bytes.specs.Fields.{zigzag}
use Rattle.wire_bytes.specs.FieldTexts.{IsUvarint, IsVarint}
use Rattle.index_parts.specs.declared.refusal.PartRefusal.TheVariants.{Overlong}
use Rattle.index_parts.specs.declared.chunk_place.ChunkPlace.{ChunkPlace}
use Rattle.index_parts.specs.SeriesEntry.{reference_of, Begins, Refers, IsNextChunk}
use Rattle.index_parts.specs.SeriesReading.{fits_unsigned, later_at, moved_at, begin_at, reference_at, chunk_of, chunk_at}
use Rattle.base.proofs.SignedRanges.{fits_from_test, test_from_fits}
use Rattle.index_parts.proofs.FieldLaws.{uvarint_field, varint_field}
use Rattle.index_parts.proofs.TurnLaws.{field_found, turn_found}
use Rattle.index_parts.proofs.ListLaws.{IsTurnOf}
use Rattle.index_parts.proofs.SymbolLaws.{uvarint_size}

-- ---- times

-- a number that stands in zigzag order within 64 bits is one of 64 bits
zigzag_fits : (z : ℤ) → zigzag z < 2 ^ 64 → FitsSigned w64 z
zigzag_fits (pos n) lt = record { sfits = omega arith }
zigzag_fits (negsuc n) lt = record { sfits = omega arith }

-- so long after a time
pub record IsLater (time : ℤ) (text : List ℕ) (t : ℤ) : Type 0 where
  pub by : ℕ
  pub text_is : IsUvarint text by
  pub value : t ≡ time +ℤ pos by
  pub fits : FitsSigned w64 t

later_found : (time : ℤ) (p q : Position) (t : ℤ) → IsBytes (left p) → later_at time p ≡ Ok (t, q) → HasFront (IsLater time) (left p) t (left q)
unfolding later_at
later_found time p q t are e =
    let by = bind_ok _ _ _ e in
    let tested = unless_ok (fits_signed (time +ℤ pos by.0.0)) (Overlong p.place) _ _ by.2 in
    let front = uvarint_field.found p by.0.1 by.0.0 are by.1 in
    field_found (IsLater time) p by.0.1 q front.0 (time +ℤ pos by.0.0) t (record { by = by.0.0; text_is = front.1; value = refl; fits = fits_from_test _ tested.0 }) front.2 tested.1

later_again : (time : ℤ) (p : Position) (text : List ℕ) (t : ℤ) (after : List ℕ) → IsLater time text t → left p ≡ text ++ after → (q : Position) × (later_at time p ≡ Ok (t, q)) × (left q ≡ after)
unfolding later_at
later_again _ p text t after is e =
    let by = uvarint_field.again p text is.by after is.text_is e in
    let tested = subst (λ z. fits_signed z ≡ true) is.value (test_from_fits t is.fits) in
    (by.0, rw (by.1, tested, is.value) refl, by.2)

-- the begin of the next chunk, within 64 bits
begin_found : (before : Option ChunkPlace) (p q : Position) (t : ℤ) → IsBytes (left p) → begin_at before p ≡ Ok (t, q) → HasFront (λ text z. Begins before text z × FitsSigned w64 z) (left p) t (left q)
unfolding begin_at
begin_found None p q t are e = let front = varint_field.found p q t are e in (front.0, (front.1, zigzag_fits t front.1.fits), front.2)
begin_found (Some b) p q t are e = let front = later_found b.max p q t are e in (front.0, ((front.1.by, front.1.text_is, front.1.value), front.1.fits), front.2)

begin_again : (before : Option ChunkPlace) (p : Position) (text : List ℕ) (t : ℤ) (after : List ℕ) → Begins before text t → FitsSigned w64 t → left p ≡ text ++ after → (q : Position) × (begin_at before p ≡ Ok (t, q)) × (left q ≡ after)
unfolding begin_at
begin_again None p text t after is fits e = varint_field.again p text t after is e
begin_again (Some b) p _ t _ is fits e = later_again _ p _ t _ (record { by = is.0; text_is = is.1; value = is.2; fits = fits }) e

-- ---- references

abbrev Moved : ℕ → List ℕ → ℕ → Type 0
Moved reference text r = (step : ℤ) × IsVarint text step × (pos r ≡ pos reference +ℤ step)

abs_back : (z : ℤ) → fits_unsigned z ≡ true → (pos (unsigned_abs z) ≡ z) × (unsigned_abs z < 2 ^ 64)
abs_back (pos n) e = (refl, ltb-true n (2 ^ 64) e)
abs_back (negsuc n) e = absurd cc

moved_found : (reference : ℕ) (p q : Position) (r : ℕ) → IsBytes (left p) → moved_at reference p ≡ Ok (r, q) → HasFront (λ text n. Moved reference text n × (n < 2 ^ 64)) (left p) r (left q)
unfolding moved_at
moved_found reference p q r are e =
    let by = bind_ok _ _ _ e in
    let tested = unless_ok _ _ _ _ by.2 in
    let front = varint_field.found p by.0.1 by.0.0 are by.1 in
    let back = abs_back _ tested.0 in
    field_found (λ text n. Moved reference text n × (n < 2 ^ 64)) p by.0.1 q front.0 (unsigned_abs (pos reference +ℤ by.0.0)) r ((by.0.0, front.1, back.0), back.1) front.2 tested.1

moved_again : (reference : ℕ) (p : Position) (text : List ℕ) (r : ℕ) (after : List ℕ) → Moved reference text r → r < 2 ^ 64 → left p ≡ text ++ after → (q : Position) × (moved_at reference p ≡ Ok (r, q)) × (left q ≡ after)
unfolding moved_at
moved_again _ p text r after is fits e =
    let by = varint_field.again p text is.0 after is.1 e in
    let tested = subst (λ z. fits_unsigned z ≡ true) is.2 (lt-ltb r (2 ^ 64) fits) in
    let value = ap unsigned_abs (sym is.2) in
    (by.0, rw (by.1, tested, value) refl, by.2)

reference_found : (before : Option ChunkPlace) (p q : Position) (r : ℕ) → IsBytes (left p) → reference_at before p ≡ Ok (r, q) → HasFront (λ text n. Refers before text n × (n < 2 ^ 64)) (left p) r (left q)
unfolding reference_at
reference_found None p q r are e = let front = uvarint_field.found p q r are e in (front.0, (front.1, front.1.fits), front.2)
reference_found (Some b) p q r are e = moved_found _ p q r are e

reference_again : (before : Option ChunkPlace) (p : Position) (text : List ℕ) (r : ℕ) (after : List ℕ) → Refers before text r → r < 2 ^ 64 → left p ≡ text ++ after → (q : Position) × (reference_at before p ≡ Ok (r, q)) × (left q ≡ after)
unfolding reference_at
reference_again None p text r after is fits e = uvarint_field.again p text r after is e
reference_again (Some b) p _ r _ is fits e = moved_again _ p _ r _ is fits e

split : (r : ℕ) → r / 2 ^ 32 * 2 ^ 32 + r % 2 ^ 32 ≡ r
split r = omega arith

-- ---- a chunk

pub regroup : (a b c after : List ℕ) → (a ++ b ++ c) ++ after ≡ a ++ (b ++ (c ++ after))
regroup a b c after = append_assoc (a ++ b) c after ∙ append_assoc a b (c ++ after)

found : (before : Option ChunkPlace) (p : Position) (x : ChunkPlace) (t : Option ChunkPlace × Position) → IsBytes (left p) → chunk_at (before, p) ≡ Ok (x, t) → HasFront (IsNextChunk before) (left p) x (left t.1) × (t.0 ≡ Some x)
unfolding chunk_at
found before p x t are e =
    let min = bind_ok _ _ _ e in
    let max = bind_ok _ _ _ min.2 in
    let reference = bind_ok _ _ _ max.2 in
    let chunk = chunk_of min.0.0 max.0.0 reference.0.0 in
    let f0 = begin_found _ p _ _ are min.1 in
    let are1 = IsBytes-after _ _ _ f0.2 are in
    let f1 = later_found _ _ _ _ are1 max.1 in
    let are2 = IsBytes-after _ _ _ f1.2 are1 in
    let f2 = reference_found _ _ _ _ are2 reference.1 in
    let is : IsNextChunk before (f0.0 ++ f1.0 ++ f2.0) chunk = record {
      begin = f0.0;
      span = f1.0;
      reference = f2.0;
      lasts = f1.1.by;
      begins = f0.1.0;
      span_is = f1.1.text_is;
      max_is = f1.1.value;
      min_fits = f0.1.1;
      max_fits = f1.1.fits;
      refers = subst (λ r. Refers before f2.0 r) (sym (split _)) f2.1.0;
      segment_fits = omega arith;
      offset_fits = omega arith;
      text_is = refl;
    } in
    let whole = f0.2 ∙ ap (λ a. f0.0 ++ a) (f1.2 ∙ ap (λ a. f1.0 ++ a) f2.2) ∙ sym (regroup f0.0 f1.0 f2.0 (left reference.0.1)) in
    turn_found IsNextChunk before p _ (f0.0 ++ f1.0 ++ f2.0) _ x t is whole reference.2

joined : (min max : ℤ) (segment offset : ℕ) → offset < 2 ^ 32 → chunk_of min max (segment * 2 ^ 32 + offset) ≡ record { min = min; max = max; segment = segment; offset = offset }
joined _ _ segment offset small =
    let high : (segment * 2 ^ 32 + offset) / 2 ^ 32 ≡ segment = omega arith in
    let low : (segment * 2 ^ 32 + offset) % 2 ^ 32 ≡ offset = omega arith in
    rw (high, low) refl

again : (before : Option ChunkPlace) (p : Position) (text : List ℕ) (x : ChunkPlace) (after : List ℕ) → IsNextChunk before text x → left p ≡ text ++ after → (q : Position) × (chunk_at (before, p) ≡ Ok (x, (Some x, q))) × (left q ≡ after)
unfolding chunk_at
again before p text x after is e =
    let whole = e ∙ ap (λ a. a ++ after) is.text_is ∙ regroup _ _ is.reference after in
    let min = begin_again before p is.begin x.min (is.span ++ (is.reference ++ after)) is.begins is.min_fits whole in
    let max = later_again x.min min.0 is.span x.max (is.reference ++ after) (record { by = is.lasts; text_is = is.span_is; value = is.max_is; fits = is.max_fits }) min.2 in
    let reference = reference_again before max.0 is.reference (reference_of x) after is.refers (omega (arith, is.segment_fits, is.offset_fits)) max.2 in
    let chunk : chunk_of x.min x.max (reference_of x) ≡ x = joined x.min x.max x.segment x.offset is.offset_fits in
    (reference.0, rw (min.1, max.1, reference.1) (ap (λ (y : ChunkPlace). Ok (y, (Some y, reference.0))) chunk), reference.2)

pub chunk_turn : IsTurnOf IsNextChunk chunk_at
chunk_turn = record { found = found; again = again }

begin_size : (before : Option ChunkPlace) (text : List ℕ) (t : ℤ) → Begins before text t → 1 ≤ length text
begin_size None _ t is = uvarint_size _ _ is
begin_size (Some b) _ t is = uvarint_size _ _ is.1

reference_size : (before : Option ChunkPlace) (text : List ℕ) (r : ℕ) → Refers before text r → 1 ≤ length text
reference_size None _ r is = uvarint_size _ r is
reference_size (Some b) _ r is = uvarint_size _ _ is.1

pub chunk_size : (before : Option ChunkPlace) (text : List ℕ) (x : ChunkPlace) → IsNextChunk before text x → 3 ≤ length text
chunk_size before _ x is =
    let a = begin_size _ _ _ is.begins in
    let b = uvarint_size _ _ is.span_is in
    let c = reference_size _ _ _ is.refers in
    omega (arith, ap length is.text_is, length-append (is.begin ++ is.span) is.reference, length-append is.begin is.span)
