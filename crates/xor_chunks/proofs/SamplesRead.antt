-- Samples one after another: what is read is in the grammar, and what is in the grammar is read.
use Rattle.std.proofs.Common.{◌≡◌, ℕ, zero, suc, ◌+◌, ◌<◌, ◌≤◌, Bool, true, false, List, [], ◌∷◌, ◌++◌, length, Ok, refl, sym, ap, ◌∙◌, append_assoc, length-append, arith, ℤ, pos, negsuc, ◌+ℤ◌}
use Rattle.std.specs.Prelude.{cond, Err}
use Rattle.std.proofs.lemmas.Bool.{leb-true, le-leb}
use Rattle.base.specs.Grammar.{IsBytes, HasFront}
use Rattle.wire_bytes.specs.FieldTexts.{IsUvarint}
use Rattle.wire_bytes.proofs.FieldLaws.{uvarint_found, uvarint_again, left_after}
use Rattle.wire_bytes.specs.Position.{start}
use Rattle.base.specs.Decimal.{fits_signed}
use Rattle.base.specs.Members.{members_at}
use Rattle.label_sets.specs.declared.sample.Sample.{Sample}
use Rattle.xor_chunks.specs.State.{State}
use Rattle.xor_chunks.specs.declared.refusal.XorRefusal.TheVariants.{OutOfRange}
use Rattle.xor_chunks.specs.Steps.{time_after, risen, follow_at, next_at}
use Rattle.xor_chunks.specs.Samples.{sample_of}
use Rattle.xor_chunks.specs.Data.{gap_at, sample_at}
use Rattle.xor_chunks.specs.Window.{Window, IsInside, is_inside}
use Rattle.xor_chunks.specs.Grammar.{IsChange, unchanged, row_14, row_17, row_20, row_64, IsValue, same_pattern, in_window, opens, Follows, IsNext, AreOthers}
use Rattle.base.proofs.Bound.{OfValue, of_ok, of_err, of_weaker, of_bind, of_unless, of_bind_as}
use Rattle.base.proofs.SignedRanges.{fits_from_test, test_from_fits}
use Rattle.xor_chunks.proofs.FieldsRead.{HasText, Finds, change_found, change_again, value_found, value_again, value_inside}

after_at : (before delta : ℤ) (fits : Bool) → fits_signed (before +ℤ delta) ≡ fits → OfValue (cond fits (risen (before +ℤ delta) delta) (Err OutOfRange)) (λ x. (delta ≡ pos x.1) × Follows before x.0 x.1)
after_at _ (pos zero) true e = of_err
after_at _ (pos (suc n)) true e = of_ok (refl, record { later = refl; rises = omega arith; fits = fits_from_test _ e })
after_at _ (negsuc n) true e = of_err
after_at _ _ false e = of_err

after_found : (before delta : ℤ) → OfValue (time_after before delta) (λ x. (delta ≡ pos x.1) × Follows before x.0 x.1)
unfolding time_after
after_found _ _ = after_at _ _ _ refl

after_again : (before time : ℤ) (d : ℕ) → Follows before time d → time_after before (pos d) ≡ Ok (time, d)
unfolding time_after
after_again _ _ zero h = absurd (omega arith)
after_again _ time (suc d) h =
    rw (ap fits_signed (sym h.later) ∙ test_from_fits time h.fits) (ap (λ z. Ok (z, suc d)) (sym h.later))

-- the sample comes later by a step that is so much longer, and has this text of its value
abbrev pub Shows : State → ℤ → List Bool → State → Type 0
Shows last change text next = (pos next.delta ≡ pos last.delta +ℤ change) × Follows last.time next.time next.delta × IsValue last.window last.pattern text next.pattern next.window

pub follow_found : (last : State) (change : ℤ) (bits : List Bool) → Finds (Shows last change) bits (follow_at last change bits)
unfolding follow_at
follow_found _ _ _ =
    of_bind _ (value_found _ _ _) (λ v h. of_unless (is_inside v.0.1) _ _ (λ inside.
    of_bind _ (after_found _ _) (λ t a. of_ok (record {
      text = h.text;
      is = (sym a.0, a.1, h.is (leb-true (v.0.1.lead + v.0.1.width) 64 inside));
      whole = h.whole;
    }))))

pub follow_again : (last : State) (change : ℤ) (text : List Bool) (next : State) (after : List Bool) → IsInside last.window → pos next.delta ≡ pos last.delta +ℤ change → Follows last.time next.time next.delta → IsValue last.window last.pattern text next.pattern next.window
    → follow_at last change (text ++ after) ≡ Ok (next, after)
unfolding follow_at
follow_again last _ text next after inside longer follows shows =
    let within = le-leb (next.window.lead + next.window.width) 64 (value_inside _ _ _ _ _ inside shows) in
    rw (value_again last.window last.pattern text next.pattern next.window after shows, within, sym longer, after_again last.time next.time next.delta follows) refl

-- what begins with one text and goes on with another
joined : (bits more after one other : List Bool) → bits ≡ one ++ more → more ≡ other ++ after → bits ≡ (one ++ other) ++ after
joined _ _ after one other p q = p ∙ ap (λ a. one ++ a) q ∙ sym (append_assoc one other after)

pub next_found : (last : State) (bits : List Bool) → Finds (IsNext last) bits (next_at last bits)
unfolding next_at
next_found _ _ =
    of_bind _ (change_found _) (λ c step. of_weaker (λ n value. record {
      text = step.text ++ value.text;
      is = record { change = c.0; step = step.text; value = value.text; text = refl; changes = step.is; longer = value.is.0; follows = value.is.1; shows = value.is.2 };
      whole = joined _ _ _ _ _ step.whole value.whole;
    }) (follow_found _ _ _))

pub next_again : (last : State) (text : List Bool) (next : State) (after : List Bool) → IsInside last.window → IsNext last text next → next_at last (text ++ after) ≡ Ok (next, after)
unfolding next_at
next_again last text _ after inside h =
    let parts = ap (λ x. x ++ after) h.text ∙ append_assoc h.step h.value after in
    rw (parts, change_again h.step h.change (h.value ++ after) h.changes) (follow_again _ _ _ _ _ inside h.longer h.follows h.shows)

-- ---- samples after the second

sample_found : (last : State) (bits : List Bool) → OfValue (sample_at (last, bits)) (λ x. (x.0 ≡ sample_of x.1.0) × HasText (IsNext last) bits x.1.0 x.1.1)
unfolding sample_at
sample_found _ _ = of_bind _ (next_found _ _) (λ n h. of_ok (refl, h))

pub others_found : (count : ℕ) (last : State) (bits : List Bool) → OfValue (members_at sample_at count (last, bits)) (λ x. (length x.0 ≡ count) × HasText (λ text ss. AreOthers last text ss) bits x.0 x.1.1)
unfolding members_at sample_at
others_found zero _ _ = of_ok (refl, record { text = []; is = refl; whole = refl })
others_found (suc count) _ _ =
    of_bind _ (sample_found _ _) (λ x one. of_bind _ (others_found _ _ _) (λ y more. of_ok (
      ap suc more.0,
      record {
        text = one.1.text ++ more.1.text;
        is = (x.1.0, one.1.text, more.1.text, refl, one.1.is, one.0, more.1.is);
        whole = joined _ _ _ one.1.text more.1.text one.1.whole more.1.whole;
      },
    )))

sample_again : (last : State) (text : List Bool) (next : State) (after : List Bool) → IsInside last.window → IsNext last text next → sample_at (last, text ++ after) ≡ Ok (sample_of next, (next, after))
unfolding sample_at
sample_again last text next after inside h = rw (next_again last text next after inside h) refl

pub others_again : (samples : List Sample) (last : State) (text after : List Bool) → IsInside last.window → AreOthers last text samples → (end : State) × (members_at sample_at (length samples) (last, text ++ after) ≡ Ok (samples, (end, after)))
unfolding members_at
others_again [] last text after inside h = (last, ap (λ (a : List Bool). Ok ([], (last, a ++ after))) h)
others_again (s ∷ ss) last text after inside h =
    let next = h.0 in
    let more = others_again ss next h.2 after (value_inside last.window last.pattern h.4.value next.pattern next.window inside h.4.shows) h.6 in
    let parts : text ++ after ≡ h.1 ++ (h.2 ++ after) = ap (λ (a : List Bool). a ++ after) h.3 ∙ append_assoc h.1 h.2 after in
    (more.0, rw (parts, sample_again last h.1 next (h.2 ++ after) inside h.4, more.1, ← h.5) refl)

-- each sample has a bit at least
change_some : (text : List Bool) (z : ℤ) → IsChange text z → 0 < length text
change_some _ z (unchanged e v) = omega (arith, ap length e)
change_some text z (row_14 r) = omega (arith, ap length r.text)
change_some text z (row_17 r) = omega (arith, ap length r.text)
change_some text z (row_20 r) = omega (arith, ap length r.text)
change_some text z (row_64 r) = omega (arith, ap length r.text)

pub value_some : (window : Window) (before : ℕ) (text : List Bool) (pattern : ℕ) (next : Window) → IsValue window before text pattern next → 0 < length text
value_some _ _ _ _ _ (same_pattern e p w) = omega (arith, ap length e)
value_some _ _ _ _ _ (in_window within e w h) = omega (arith, ap length e)
value_some _ _ _ _ _ (opens opened e h) = omega (arith, ap length e)

pub others_few : (samples : List Sample) (last : State) (text : List Bool) → AreOthers last text samples → length samples ≤ length text
others_few [] _ _ h = omega arith
others_few (s ∷ ss) _ text h =
    omega (arith, ap length h.3, length-append h.1 h.2, ap length h.4.text, length-append h.4.step h.4.value, change_some h.4.step h.4.change h.4.changes, others_few ss h.0 h.2 h.6)

-- ---- from bytes to the second sample

pub gap_found : (bytes : List ℕ) → IsBytes bytes → OfValue (gap_at bytes) (λ x. HasFront IsUvarint bytes x.0 x.1)
unfolding gap_at
gap_found _ are = of_bind_as _ _ _ (λ g e. of_ok (uvarint_found _ _ _ are e))

pub gap_again : (bytes : List ℕ) (gap : ℕ) (after : List ℕ) → HasFront IsUvarint bytes gap after → gap_at bytes ≡ Ok (gap, after)
unfolding gap_at
gap_again bytes gap after h =
    let read = uvarint_again (start bytes) h.0 gap after h.1 h.2 in
    rw read (ap (λ (a : List ℕ). Ok (gap, a)) (left_after _ _ _ h.2))
