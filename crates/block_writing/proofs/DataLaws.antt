-- Stored chunk data are no longer than a segment can hold, and their times rise.
use Rattle.std.proofs.Common.{◌≡◌, ℕ, ◌+◌, ◌-◌, ◌*◌, ◌≤◌, Bool, false, List, [], ◌∷◌, ◌++◌, length, replicate, Option, Some, refl, sym, ap, ◌∙◌, length-append, arith, ℤ, pos, ◌+ℤ◌}
use Rattle.std.specs.Prelude.{slice_get, ◌≤ℤ◌}
use Rattle.std.specs.Int.{w32, to_be_bytes}
use Rattle.std.proofs.lemmas.Int.{ints}
use Rattle.std.proofs.lemmas.List.{length-replicate}
use Rattle.wire_bytes.specs.Crc.{crc}
use Rattle.wire_bytes.specs.Written.{uvarint_text}
use Rattle.wire_bytes.proofs.GroupTexts.{few_groups}
use Rattle.label_sets.specs.declared.sample.Sample.{Sample}
use Rattle.label_sets.specs.Times.{times_of}
use Rattle.wire_bytes.specs.Bits.{bits_of}
use Rattle.xor_chunks.specs.State.{State}
use Rattle.xor_chunks.specs.Window.{Window}
use Rattle.xor_chunks.specs.Grammar.{IsChange, unchanged, row_14, row_17, row_20, row_64, IsInWindow, IsValue, same_pattern, in_window, opens, AreOthers, AreRest, AreSamples, IsText}
use Rattle.wire_bytes.proofs.BitLists.{length-bits_of, length-bits_in}
use Rattle.chunk_files.specs.Layout.{header_size, greatest, xor}
use Rattle.chunk_files.specs.Chunk.{frame_text}
use Rattle.block_writing.specs.Put.{PlanFields, PutChunk, IsStored}

-- ---- how long data are

within_short : (window : Window) (before : ℕ) (text : List Bool) (pattern : ℕ) → IsInWindow window before text pattern → length text ≤ 64
within_short window before text pattern h = omega (arith, ap length h.text, length-bits_of window.width h.field, h.inside)

change_short : (text : List Bool) (z : ℤ) → IsChange text z → length text ≤ 68
change_short text z (unchanged e v) = omega (arith, ap length e)
change_short text z (row_14 r) = omega (arith, ap length r.text, length-bits_of 14 r.field)
change_short text z (row_17 r) = omega (arith, ap length r.text, length-bits_of 17 r.field)
change_short text z (row_20 r) = omega (arith, ap length r.text, length-bits_of 20 r.field)
change_short text z (row_64 r) = omega (arith, ap length r.text, length-bits_of 64 r.field)

value_short : (window : Window) (before : ℕ) (text : List Bool) (pattern : ℕ) (next : Window) → IsValue window before text pattern next → length text ≤ 77
value_short window before text pattern next (same_pattern e p w) = omega (arith, ap length e)
value_short window before text pattern next (in_window within e w h) = omega (arith, ap length e, within_short window before within pattern h)
value_short window before text pattern next (opens opened e h) =
    omega (arith, ap length e, ap length h.text, length-append (bits_of 5 next.lead ++ bits_of 6 next.width) h.within, length-append (bits_of 5 next.lead) (bits_of 6 next.width), length-bits_of 5 next.lead, length-bits_of 6 next.width, within_short next before h.within pattern h.field)

others_short : (samples : List Sample) (last : State) (text : List Bool) → AreOthers last text samples → length text ≤ 145 * length samples
others_short [] last text h = omega (arith, ap length h)
others_short (s ∷ ss) last text h =
    omega (arith, ap length h.3, length-append h.1 h.2, ap length h.4.text, length-append h.4.step h.4.value, change_short h.4.step h.4.change h.4.changes, value_short last.window last.pattern h.4.value h.0.pattern h.0.window h.4.shows, others_short ss h.0 h.2 h.6)

rest_short : (first : Sample) (bytes : List ℕ) (others : List Sample) (left : List Bool) → AreRest first bytes others left → 8 * length bytes ≤ 80 + 77 + 145 * length others + length left
rest_short first bytes [] left h = omega (arith, ap length h, length-bits_in bytes)
rest_short first bytes (second ∷ others) left h =
    let gap : length h.gap_is.0 ≤ 10 = h.gap_is.1.few in
    omega (
      arith,
      gap,
      ap length h.gap_is.2,
      length-append h.gap_is.0 h.after,
      ap length h.bits_are,
      length-bits_in h.after,
      length-append h.value (h.rest ++ left),
      length-append h.rest left,
      value_short _ _ h.value second.pattern h.window h.shows,
      others_short others _ h.rest h.others_are,
    )

samples_short : (bytes : List ℕ) (samples : List Sample) (left : List Bool) → AreSamples bytes samples left → 8 * length bytes ≤ 400 + 145 * length samples + length left
samples_short bytes [] left h = omega (arith, ap length h, length-bits_in bytes)
samples_short bytes (first ∷ others) left h =
    let time : length h.time_is.0 ≤ 10 = h.time_is.1.few in
    omega (arith, time, ap length h.time_is.2, length-append h.time_is.0 h.after_time, ap length h.pattern_is.2, length-append h.pattern_is.0 h.after, ap length h.pattern_is.1.digits, rest_short first h.after others left h.rest_are)

pub text_short : (bytes : List ℕ) (samples : List Sample) → IsText 8 bytes samples → length bytes ≤ 1_200_000
text_short bytes samples h =
    omega (arith, ap length h.counted.2, length-append h.counted.0 h.after, ap length h.counted.1.digits, h.counted.1.fits, samples_short h.after samples (replicate h.left false) h.samples_are, length-replicate {A = Bool} h.left false, h.filling)

pub data_fit : (plan : PlanFields) (chunk : PutChunk) → IsStored plan chunk → header_size + length (frame_text chunk.content) ≤ greatest
data_fit plan chunk h =
    let content : List ℕ = chunk.content in
    omega (arith, text_short content h.samples h.text_is, few_groups 9 (length content), length-append (uvarint_text (length content) ++ (xor ∷ content)) (to_be_bytes w32 (crc (xor ∷ content))), length-append (uvarint_text (length content)) (xor ∷ content))

-- ---- times

pub same_some : (s t : ℤ) → ◌≡◌ {A = Option ℤ} (Some s) (Some t) → s ≡ t
same_some s t e = cc

later : (s t : ℤ) (delta : ℕ) → t ≡ s +ℤ pos delta → s ≤ℤ t
later s t delta e = omega (arith, ints)

others_rise : (samples : List Sample) (first : Sample) (last : State) (text : List Bool) (time : ℤ) → AreOthers last text samples → last.time ≡ first.time → slice_get (times_of (first ∷ samples)) (length samples) ≡ Some time → first.time ≤ℤ time
others_rise [] first last text time h same at = let e : first.time ≡ time = same_some _ _ at in omega (arith, ints)
others_rise (s ∷ ss) first last text time h same at =
    let own : s.time ≡ h.0.time = ap (λ (x : Sample). x.time) h.5 in
    let step : last.time ≤ℤ h.0.time = later last.time h.0.time h.0.delta h.4.follows.later in
    let rest : s.time ≤ℤ time = others_rise ss s h.0 h.2 time h.6 (sym own) at in
    omega (arith, ints)

samples_rise : (bytes : List ℕ) (samples : List Sample) (left : List Bool) (min max : ℤ) → AreSamples bytes samples left → slice_get (times_of samples) 0 ≡ Some min → slice_get (times_of samples) (length samples - 1) ≡ Some max → min ≤ℤ max
samples_rise bytes [] left min max h begins ends = absurd cc
samples_rise bytes (first ∷ []) left min max h begins ends =
    let low : first.time ≡ min = same_some _ _ begins in
    let high : first.time ≡ max = same_some _ _ ends in
    omega (arith, ints)
samples_rise bytes (first ∷ second ∷ others) left min max h begins ends =
    let low : first.time ≡ min = same_some _ _ begins in
    let step : first.time ≤ℤ second.time = later first.time second.time h.rest_are.gap h.rest_are.follows.later in
    let place : length (first ∷ second ∷ others) - 1 ≡ length (second ∷ others) = omega arith in
    let at : slice_get (times_of (second ∷ others)) (length others) ≡ Some max = ap (slice_get (times_of (first ∷ second ∷ others))) (sym place) ∙ ends in
    let rest : second.time ≤ℤ max = others_rise others second _ h.rest_are.rest max h.rest_are.others_are refl at in
    omega (arith, ints)

pub data_rise : (plan : PlanFields) (chunk : PutChunk) → IsStored plan chunk → chunk.min ≤ℤ chunk.max
data_rise plan chunk h = samples_rise h.text_is.after h.samples _ chunk.min chunk.max h.text_is.samples_are h.begins h.ends
