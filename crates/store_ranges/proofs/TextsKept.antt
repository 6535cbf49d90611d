-- Texts in one text, once another is put behind them.
use Rattle.std.proofs.Common.{◌≡◌, ℕ, ◌+◌, ◌-◌, ◌<◌, ◌≤◌, List, [], ◌∷◌, ◌++◌, length, take, drop, get_or, Some, refl, sym, ap, ap₂, subst, ◌∙◌, ⊎_elim, arith}
use Rattle.std.specs.Prelude.{sum_by, slice_get}
use Rattle.std.specs.List.{All}
use Rattle.std.specs.Str.{IsCharBoundary, IsUtf8}
use Rattle.std.proofs.lemmas.Bool.{cases_eq}
use Rattle.std.proofs.lemmas.Str.{IsCharBoundary-at_seam, IsCharBoundary-end}
use Rattle.std.proofs.lemmas.List.{get_or-take, take_more, take-append-le, drop-append-le, drop_at, take_all, length-append, length-drop, map-append}
use Rattle.std.proofs.lemmas.List.Elements.{All-push, All-head, All-tail, All-cons, All-nil}
use Rattle.std.proofs.lemmas.List.Sums.{sum_by-append, sum_by-cons}
use Rattle.std.proofs.lemmas.Option.{slice_get_within, get_or_from_slice_get}
use Rattle.store_ranges.specs.TextPlaces.{text_at, IsTextAt, texts_at, AreTextsAt}
use Rattle.store_ranges.specs.declared.span.Span.{Span}

module _ (bytes more : List ℕ) where
  text_kept : (place : Span) → IsTextAt bytes place → text_at (bytes ++ more) place ≡ text_at bytes place
  text_kept place (begins, first, last) =
      ap (take (place.end - place.start)) (drop-append-le place.start bytes more first.0)
      ∙ take-append-le (place.end - place.start) (drop place.start bytes) more (omega (arith, begins, length-drop place.start bytes, last.0))

  byte_kept : (place : ℕ) → place < length bytes → get_or (bytes ++ more) place 0 ≡ get_or bytes place 0
  byte_kept place low =
      sym (get_or-take (length bytes) (bytes ++ more) place 0 low)
      ∙ ap (λ (l : List ℕ). get_or l place 0) (take-append-le (length bytes) bytes more (omega arith) ∙ take_all (length bytes) bytes (omega arith))

  boundary_kept : (place : ℕ) → IsUtf8 more → IsCharBoundary bytes place → IsCharBoundary (bytes ++ more) place
  boundary_kept place utf8 at =
      ⊎_elim
      (λ same. subst (IsCharBoundary (bytes ++ more)) (sym same) (IsCharBoundary-at_seam (bytes ++ more) bytes more refl utf8))
      (λ other.
      let low : place < length bytes = omega (arith, at.0) in
      (omega (arith, low, length-append bytes more), λ _ high. subst (λ n. 192 ≤ n) (sym (byte_kept place low)) (at.1 low (subst (λ n. 128 ≤ n) (byte_kept place low) high))))
      (cases_eq place (length bytes))

  still_there : IsUtf8 more → (place : Span) → IsTextAt bytes place → IsTextAt (bytes ++ more) place
  still_there utf8 place is = (is.0, boundary_kept place.start utf8 is.1, boundary_kept place.end utf8 is.2)

  texts_kept : (places : List Span) → All (IsTextAt bytes) places → texts_at (bytes ++ more) places ≡ texts_at bytes places
  texts_kept [] all = refl
  texts_kept (place ∷ places) all =
      ap₂ (λ (t : List ℕ) (ts : List (List ℕ)). t ∷ ts) (text_kept place (All-head (IsTextAt bytes) place places all)) (texts_kept places (All-tail (IsTextAt bytes) place places all))

  all_there : IsUtf8 more → (places : List Span) → All (IsTextAt bytes) places → All (IsTextAt (bytes ++ more)) places
  all_there utf8 [] all = All-nil (IsTextAt (bytes ++ more))
  all_there utf8 (place ∷ places) all =
      All-cons (IsTextAt (bytes ++ more)) place places (still_there utf8 place (All-head (IsTextAt bytes) place places all)) (all_there utf8 places (All-tail (IsTextAt bytes) place places all))

module _ (bytes text new : List ℕ) (places more : List Span) (last : Span) (were : AreTextsAt bytes places) (utf8 : IsUtf8 text)
    (grown : new ≡ bytes ++ text) (starts : last.start ≡ length bytes) (ends : last.end ≡ length new) (pushed : more ≡ places ++ last ∷ []) where
  text_last : text_at (bytes ++ text) last ≡ text
  text_last =
      let long : last.end - last.start ≡ length text = omega (arith, starts, ends, ap length grown, length-append bytes text) in
      ap₂ (λ (n k : ℕ). take n (drop k (bytes ++ text))) long starts ∙ ap (take (length text)) (drop_at bytes text (length bytes) refl) ∙ take_all (length text) text (omega arith)

  pub texts_pushed : texts_at new more ≡ texts_at bytes places ++ text ∷ []
  texts_pushed =
      ap₂ texts_at grown pushed ∙ map-append (text_at (bytes ++ text)) places (last ∷ [])
      ∙ ap₂ (λ (ts : List (List ℕ)) (t : List ℕ). ts ++ t ∷ []) (texts_kept bytes text places were.are_texts) text_last

  is_last : IsTextAt (bytes ++ text) last
  is_last = (
    omega (arith, starts, ends, ap length grown, length-append bytes text),
    subst (IsCharBoundary (bytes ++ text)) (sym starts) (IsCharBoundary-at_seam (bytes ++ text) bytes text refl utf8),
    subst (IsCharBoundary (bytes ++ text)) (ap length (sym grown) ∙ sym ends) (IsCharBoundary-end (bytes ++ text)),
  )

  pub are_pushed : AreTextsAt new more
  are_pushed = record {
    are_texts = subst (λ (b : List ℕ). All (IsTextAt b) more) (sym grown) (subst (All (IsTextAt (bytes ++ text))) (sym pushed)
        (All-push (IsTextAt (bytes ++ text)) places last (all_there bytes text utf8 places were.are_texts) is_last));
    no_more =
        ap (sum_by (λ (t : List ℕ). length t)) texts_pushed ∙ sum_by-append (λ (t : List ℕ). length t) (texts_at bytes places) (text ∷ [])
        ∙ ap₂ (λ (n k : ℕ). n + k) were.no_more (sum_by-cons (λ (t : List ℕ). length t) text [] ∙ omega arith) ∙ sym (length-append bytes text) ∙ ap length (sym grown);
  }

pub texts_more : (table done : List (List ℕ)) (number : ℕ) (text : List ℕ) → done ≡ take number table → slice_get table number ≡ Some text → done ++ text ∷ [] ≡ take (number + 1) table
texts_more table done number text so is =
    ap₂ (λ (ts : List (List ℕ)) (t : List ℕ). ts ++ t ∷ []) so (sym (get_or_from_slice_get table number text text is)) ∙ sym (take_more table number text (slice_get_within table number text is))
