-- Samples that are put part by part.
use Rattle.std.proofs.Common.{◌≡◌, ℕ, zero, suc, ◌+◌, ◌-◌, ◌<◌, ◌≤◌, List, [], ◌∷◌, ◌++◌, length, Less, get_or, take, drop, None, Some, refl, sym, ap, subst, ◌∙◌, append-nil, append_assoc, length-append, take-append-drop, arith, inl, inr, ℤ, pos, negsuc, to_z, of_z}
use Rattle.std.specs.Prelude.{slice_get, min, ◌^◌, ◌<ℤ◌, ◌≤ℤ◌, neg_ℤ, Contains, OnErr, OnOk, Result, Ok, Err, FitsSigned}
use Rattle.std.specs.Int.{w64}
use Rattle.std.proofs.lemmas.Int.{ints, to_z-of_z}
use Rattle.std.specs.Ordering.{int_cmp}
use Rattle.std.specs.List.{AllZip}
use Rattle.std.specs.List.Sorted.{IsStrictlySortedBy}
use Rattle.std.proofs.lemmas.Cmp.{int_ranked}
use Rattle.std.proofs.lemmas.List.{map-append, length-map, length-take, length-drop, nil_from_length}
use Rattle.std.specs.List.{AllByRecursion}
use Rattle.std.proofs.lemmas.List.Elements.{All-from_recursion, Contains-append_right}
use Rattle.base.proofs.Lists.{AllByRecursion-weaker, last_or_none, AllByRecursion-append_right, joined-push, pushed_not_nil}
use Rattle.base.proofs.Order.{Less-at_places, sorted_left, sorted_right}
use Rattle.base.proofs.Membership.{contains_first, each_member, contains_place, of_map, into_flat_map}
use Rattle.base.proofs.Pairs.{AllZip-append, AllZip-first}
use Rattle.base.specs.Lists.{joined}
use Rattle.base.specs.Grammar.{IsBytes}
use Rattle.index_parts.specs.Turns.{InOrder}
use Rattle.label_sets.specs.declared.label.Label.{Label}
use Rattle.label_sets.specs.declared.sample.Sample.{Sample}
use Rattle.label_sets.specs.declared.series.Series.{Series}
use Rattle.label_sets.specs.Times.{IsWithin, times_of}
use Rattle.wire_bytes.specs.Bits.{bits_in, filled}
use Rattle.xor_chunks.specs.Grammar.{IsText}
use Rattle.block_meta.specs.Lawful.{AreLawfulTimes}
use Rattle.xor_chunks.specs.Written.{written, IsChunkTime, AreOfChunk}
use Rattle.block_writing.specs.Put.{PlanFields, PutChunk, PutSeries, Put, IsStored, IsAfterChunks, fitted, with_chunk, with_series}
use Rattle.block_writing.specs.Built.{IsPart, IsEncoded, AreOfBlock, BeginAfter, HasFront, HasMore, HasParts, StandsFor}
use Rattle.block_writing.proofs.Runs.{order_more}
use Rattle.block_writing.proofs.Lists.{pushed_parts, all_left}
use Rattle.block_writing.proofs.PutLaws.{behind_last}

-- ---- a chunk of a part

pub time_at : (part : List Sample) (k : ℕ) (s d : Sample) → k < length part → s ≡ get_or part k d → slice_get (times_of part) k ≡ Some s.time
time_at [] k s d within at = absurd (omega (arith, within))
time_at (x ∷ part) zero s d within at = ap (λ (y : Sample). Some y.time) (sym at)
time_at (x ∷ part) (suc k) s d within at = time_at part k s d (omega (arith, within)) at

pub stored_text : (content : List ℕ) (samples : List Sample) → IsText 7 content samples → IsText 8 content samples
stored_text content samples h = record { after = h.after; left = h.left; counted = h.counted; samples_are = h.samples_are; filling = omega (arith, h.filling) }

pub data_of_part : (plan : PlanFields) (part : List Sample) (content : List ℕ) (low high : ℤ) → IsText 7 content part → slice_get (times_of part) 0 ≡ Some low → slice_get (times_of part) (length part - 1) ≡ Some high → AllByRecursion (IsWithin plan.min_time plan.max_time) part
    → IsStored plan (record { content = content; min = low; max = high })
data_of_part plan part content low high text begins ends within = record { samples = part; text_is = stored_text content part text; begins = begins; ends = ends; within = within }

pub part_put : (old new : Put) (part : List Sample) (content : List ℕ) (low high : ℤ) → IsText 7 content part → IsBytes content → bits_in content ≡ filled (written part) → slice_get (times_of part) 0 ≡ Some low → slice_get (times_of part) (length part - 1) ≡ Some high
    → ((samples : List Sample) → IsText 8 content samples → new ≡ with_chunk old (record { content = content; min = low; max = high }) (length samples))
    → (chunk : PutChunk) × IsEncoded part chunk × (new ≡ with_chunk old chunk (length part))
part_put old new part content low high text bytes bits begins ends is =
    (record { content = content; min = low; max = high }, record { text_is = text; bytes = bytes; bits = bits; begins = begins; ends = ends }, is part (stored_text content part text))

time_fits : (t : ℤ) → IsChunkTime t → FitsSigned w64 t
time_fits (pos n) h = let high = h.1 in record { sfits = omega (arith, ints) }
time_fits (negsuc n) h = let low = h.0 in record { sfits = omega (arith, ints) }

-- a time as the code hands it on
pub told_time : (part : List Sample) (k : ℕ) (d : Sample) → AreOfChunk part → k < length part → slice_get (times_of part) k ≡ Some (to_z w64 (of_z w64 (get_or part k d).time))
told_time part k d h within = time_at part k (get_or part k d) d within refl ∙ ap Some (sym (to_z-of_z w64 (get_or part k d).time (time_fits (get_or part k d).time (h.times k d within))))

pub part_returns : {A E : Type 0} (r : Result A E) (old new : Put) (part : List Sample) (content : List ℕ) (low high : ℤ) → IsText 7 content part → IsBytes content → bits_in content ≡ filled (written part) → slice_get (times_of part) 0 ≡ Some low → slice_get (times_of part) (length part - 1) ≡ Some high
    → ((samples : List Sample) → IsText 8 content samples → OnOk r (new ≡ with_chunk old (record { content = content; min = low; max = high }) (length samples)))
    → OnOk r ((chunk : PutChunk) × IsEncoded part chunk × (new ≡ with_chunk old chunk (length part)))
part_returns (Ok x) old new part content low high text bytes bits begins ends is = part_put old new part content low high text bytes bits begins ends is
part_returns (Err e) old new part content low high text bytes bits begins ends is = tt

-- ---- lists

got_left : {A : Type 0} (xs ys : List A) (k : ℕ) → k < length xs → slice_get (xs ++ ys) k ≡ slice_get xs k
got_left [] ys k within = absurd (omega (arith, within))
got_left (x ∷ xs) ys zero within = refl
got_left (x ∷ xs) ys (suc k) within = got_left xs ys k (omega (arith, within))

got_right : {A : Type 0} (xs ys : List A) → slice_get (xs ++ ys) (length xs) ≡ slice_get ys 0
got_right [] ys = refl
got_right (x ∷ xs) ys = got_right xs ys

-- ---- parts that are put, and samples that are left

pub record SoFar (begin : Put) (samples left : List Sample) (now : Put) : Type 0 where
  pub parts : List (List Sample)
  pub whole : joined parts ++ left ≡ samples
  pub cut : InOrder IsPart parts
  pub full : (front : List (List Sample)) (last : List Sample) → 0 < length left → parts ≡ front ++ last ∷ [] → length last ≡ 120
  pub made : List PutChunk
  pub chunks : AllZip IsEncoded parts made
  pub chunks_are : now.chunks ≡ begin.chunks ++ made
  pub behind : BeginAfter now.chunks left
  pub plan_is : now.plan ≡ begin.plan
  pub series_is : now.series ≡ begin.series
  pub samples_is : now.samples ≡ fitted (begin.samples + length (joined parts))
  pub ascend : IsStrictlySortedBy int_cmp (times_of left)
  pub within : AllByRecursion (IsWithin begin.plan.min_time begin.plan.max_time) left

-- nothing is put yet
pub none_yet : (begin : Put) (samples : List Sample) → AreOfBlock begin.plan samples → BeginAfter begin.chunks samples → begin.samples < 2 ^ 64 → SoFar begin samples samples begin
none_yet begin samples are after counted = record {
  parts = [];
  whole = refl;
  cut = tt;
  full = λ front last some e. absurd (pushed_not_nil front last (sym e));
  made = [];
  chunks = tt;
  chunks_are = sym (append-nil begin.chunks);
  behind = after;
  plan_is = refl;
  series_is = refl;
  samples_is = omega (arith, counted);
  ascend = are.ascend;
  within = are.within;
}

-- a part of the samples that are left is a chunk's
chunk_time : (plan : PlanFields) → AreLawfulTimes plan.min_time plan.max_time → (s : Sample) → IsWithin plan.min_time plan.max_time s → IsChunkTime s.time
chunk_time plan lawful s within =
    let early : neg_ℤ (pos (2 ^ 62)) ≤ℤ plan.min_time = lawful.early in
    let late : plan.max_time ≤ℤ pos (2 ^ 62) = lawful.late in
    let low : plan.min_time ≤ℤ s.time = within.0 in
    let high : s.time <ℤ plan.max_time = within.1 in
    (omega (arith, ints), omega (arith, ints))

pub part_within : (begin : Put) (samples left : List Sample) (now : Put) (k : ℕ) → SoFar begin samples left now → AllByRecursion (IsWithin now.plan.min_time now.plan.max_time) (take k left)
part_within begin samples left now k h =
    subst (λ (p : PlanFields). AllByRecursion (IsWithin p.min_time p.max_time) (take k left)) (sym h.plan_is)
    (all_left (IsWithin begin.plan.min_time begin.plan.max_time) (take k left) (drop k left) (subst (AllByRecursion (IsWithin begin.plan.min_time begin.plan.max_time)) (sym (take-append-drop k left)) h.within))

pub of_chunk : (begin : Put) (samples left : List Sample) (now : Put) (k : ℕ) → AreLawfulTimes begin.plan.min_time begin.plan.max_time → SoFar begin samples left now → 0 < length left → k ≡ min (length left) 120 → AreOfChunk (take k left)
of_chunk begin samples left now k lawful h some few =
    let split : times_of left ≡ times_of (take k left) ++ times_of (drop k left) = ap times_of (sym (take-append-drop k left)) ∙ map-append (λ (s : Sample). s.time) (take k left) (drop k left) in
    record {
      some = omega (arith, some, few, length-take k left);
      few = omega (arith, few, length-take k left);
      ascend = sorted_left int_cmp (times_of (take k left)) (times_of (drop k left)) (subst (IsStrictlySortedBy int_cmp) split h.ascend);
      times = All-from_recursion (λ (s : Sample). IsChunkTime s.time) (take k left) (AllByRecursion-weaker (IsWithin begin.plan.min_time begin.plan.max_time) (λ (s : Sample). IsChunkTime s.time) (chunk_time begin.plan lawful) (take k left)
          (all_left (IsWithin begin.plan.min_time begin.plan.max_time) (take k left) (drop k left) (subst (AllByRecursion (IsWithin begin.plan.min_time begin.plan.max_time)) (sym (take-append-drop k left)) h.within)));
    }

-- the chunk of a part ends before the samples behind it begin
ends_before : (part after : List Sample) (chunk : PutChunk) (time : ℤ) → 0 < length part → IsEncoded part chunk → IsStrictlySortedBy int_cmp (times_of part ++ times_of after) → slice_get (times_of after) 0 ≡ Some time → chunk.max <ℤ time
ends_before part after chunk time some coded ascend at =
    let within : length part - 1 < length (times_of part) = omega (arith, some, length-map part (λ (s : Sample). s.time)) in
    let last : slice_get (times_of part ++ times_of after) (length part - 1) ≡ Some chunk.max = got_left (times_of part) (times_of after) (length part - 1) within ∙ coded.ends in
    let next : slice_get (times_of part ++ times_of after) (length (times_of part)) ≡ Some time = got_right (times_of part) (times_of after) ∙ at in
    int_ranked chunk.max time Less (sym (Less-at_places int_cmp (times_of part ++ times_of after) (length part - 1) (length (times_of part)) chunk.max time ascend within last next))

cut_more : (parts : List (List Sample)) (part : List Sample) → InOrder IsPart parts → 0 < length part → length part ≤ 120 → ((front : List (List Sample)) (last : List Sample) → parts ≡ front ++ last ∷ [] → length last ≡ 120) → InOrder IsPart (parts ++ part ∷ [])
cut_more parts part cut some few full = elim (last_or_none parts) [
  | inl none ↦ subst (λ (l : List (List Sample)). InOrder IsPart (l ++ part ∷ [])) (sym none) ((some, few), tt)
  | inr (front, last, e) ↦ subst (λ (l : List (List Sample)). InOrder IsPart (l ++ part ∷ [])) (sym e) (order_more IsPart front None last part (subst (InOrder IsPart) e cut) (full front last e, some, few))
]

pub part_more : (begin : Put) (samples left part after : List Sample) (now new : Put) (k : ℕ) → SoFar begin samples left now → 0 < length left → k ≡ min (length left) 120 → part ≡ take k left → after ≡ drop k left
    → ((chunk : PutChunk) × IsEncoded part chunk × (new ≡ with_chunk now chunk (length part))) → SoFar begin samples after new
part_more begin samples left part after now new k h some few part_is after_is (chunk, coded, new_is) =
    let whole : part ++ after ≡ left = ap (λ (l : List Sample). l ++ after) part_is ∙ ap (λ (l : List Sample). take k left ++ l) after_is ∙ take-append-drop k left in
    let size : length part ≡ k = omega (arith, few, ap length part_is, length-take k left) in
    let split : times_of left ≡ times_of part ++ times_of after = ap times_of (sym whole) ∙ map-append (λ (s : Sample). s.time) part after in
    let ascend : IsStrictlySortedBy int_cmp (times_of part ++ times_of after) = subst (IsStrictlySortedBy int_cmp) split h.ascend in
    let many : 0 < length part = omega (arith, size, few, some) in
    let most : length part ≤ 120 = omega (arith, size, few) in
    let chunks_are : new.chunks ≡ now.chunks ++ chunk ∷ [] = ap (λ (p : Put). p.chunks) new_is in
    record {
      parts = h.parts ++ part ∷ [];
      whole = ap (λ (l : List Sample). l ++ after) (joined-push h.parts part) ∙ append_assoc (joined h.parts) part after ∙ ap (λ (l : List Sample). joined h.parts ++ l) whole ∙ h.whole;
      cut = cut_more h.parts part h.cut many most (λ front last e. h.full front last some e);
      full = λ front last more e. ap length (sym (pushed_parts h.parts front part last e).1) ∙ omega (arith, size, few, more, ap length after_is, length-drop k left);
      made = h.made ++ chunk ∷ [];
      chunks = AllZip-append IsEncoded h.parts (part ∷ []) h.made (chunk ∷ []) h.chunks (coded, tt);
      chunks_are = chunks_are ∙ ap (λ (l : List PutChunk). l ++ chunk ∷ []) h.chunks_are ∙ append_assoc begin.chunks h.made (chunk ∷ []);
      behind = λ time at. subst (λ (l : List PutChunk). IsAfterChunks l time) (sym chunks_are) (behind_last now.chunks chunk time (ends_before part after chunk time many coded ascend at));
      plan_is = ap (λ (p : Put). p.plan) new_is ∙ h.plan_is;
      series_is = ap (λ (p : Put). p.series) new_is ∙ h.series_is;
      samples_is = omega (arith, ap (λ (p : Put). p.samples) new_is, h.samples_is, ap length (joined-push h.parts part), length-append (joined h.parts) part);
      ascend = sorted_right int_cmp (times_of part) (times_of after) ascend;
      within = AllByRecursion-append_right (IsWithin begin.plan.min_time begin.plan.max_time) part after (subst (AllByRecursion (IsWithin begin.plan.min_time begin.plan.max_time)) (sym whole) h.within);
    }

-- ---- all parts

no_parts : (parts : List (List Sample)) (chunks : List PutChunk) → AllZip IsEncoded parts chunks → chunks ≡ [] → joined parts ≡ []
no_parts [] chunks each none = refl
no_parts (p ∷ parts) [] each none = absurd each
no_parts (p ∷ parts) (c ∷ chunks) each none = absurd cc

-- of samples chunks are made
some_made : (parts : List (List Sample)) (made : List PutChunk) (samples : List Sample) → AllZip IsEncoded parts made → joined parts ≡ samples → 0 < length samples → made ≡ [] → ⊥
some_made parts made samples each whole some empty =
    absurd (omega (arith, some, ap length whole, ap length (no_parts parts made each empty)))

-- the chunk ends at the time of one of the samples
ends_at : (parts : List (List Sample)) (made : List PutChunk) (chunk : PutChunk) → AllZip IsEncoded parts made → Contains made chunk → (s : Sample) × Contains (joined parts) s × (s.time ≡ chunk.max)
ends_at parts made chunk each among =
    let w = AllZip-first IsEncoded parts made chunk each among in
    let at = of_map (λ (s : Sample). s.time) w.0 chunk.max (contains_place (times_of w.0) (length w.0 - 1) chunk.max w.2.ends) in
    (at.0, into_flat_map (λ (p : List Sample). p) parts w.0 at.0 w.1 at.1, at.2)

pub all_parts : (begin : Put) (samples left : List Sample) (now : Put) → AreOfBlock begin.plan samples → SoFar begin samples left now → length left ≡ 0 → HasParts begin samples now
all_parts begin samples left now are h none =
    let empty : left ≡ [] = nil_from_length left none in
    let whole : joined h.parts ≡ samples = sym (append-nil (joined h.parts)) ∙ ap (λ (l : List Sample). joined h.parts ++ l) (sym empty) ∙ h.whole in
    record {
      parts = h.parts;
      whole = whole;
      cut = h.cut;
      made = h.made;
      chunks = h.chunks;
      plan_is = h.plan_is;
      series_are = h.series_is;
      chunks_are = h.chunks_are;
      samples_are = omega (arith, h.samples_is, ap length whole);
      behind = λ time all. elim (last_or_none h.made) [
        | inl nothing ↦ absurd (some_made h.parts h.made samples h.chunks whole are.some nothing)
        | inr (front, last, e) ↦
            let at = ends_at h.parts h.made last h.chunks (subst (λ (l : List PutChunk). Contains l last) (sym e) (Contains-append_right front (last ∷ []) last (contains_first last []))) in
            let before : last.max <ℤ time = subst (λ (t : ℤ). t <ℤ time) at.2 (each_member (λ (s : Sample). s.time <ℤ time) samples at.0 all (subst (λ (l : List Sample). Contains l at.0) whole at.1)) in
            let split : now.chunks ≡ (begin.chunks ++ front) ++ last ∷ [] = h.chunks_are ∙ ap (λ (l : List PutChunk). begin.chunks ++ l) e ∙ sym (append_assoc begin.chunks front (last ∷ [])) in
            subst (λ (l : List PutChunk). IsAfterChunks l time) (sym split) (behind_last (begin.chunks ++ front) last time before)
      ];
    }

-- what was put before memory ran out
pub front_put : {T E : Type 0} (r : Result T E) (begin : Put) (samples left : List Sample) (now new : Put) → SoFar begin samples left now → new ≡ now → OnErr r (HasFront begin samples new)
front_put (Ok t) begin samples left now new h same = tt
front_put (Err e) begin samples left now new h same = subst (HasFront begin samples) (sym same) (record {
  parts = h.parts;
  left = left;
  whole = h.whole;
  cut = h.cut;
  made = h.made;
  chunks = h.chunks;
  plan_is = h.plan_is;
  series_are = h.series_is;
  chunks_are = h.chunks_are;
  samples_are = h.samples_is;
})

-- ---- a series of its own

-- no chunk stands before the samples
pub begin_after : (chunks : List PutChunk) (samples : List Sample) → chunks ≡ [] → BeginAfter chunks samples
begin_after chunks samples none time at = subst (λ (l : List PutChunk). IsAfterChunks l time) (sym none) tt

-- the chunks are those of the parts
own_chunks : (old : Put) (samples : List Sample) (new : Put) (h : HasParts old samples new) → old.chunks ≡ [] → new.chunks ≡ h.made
own_chunks old samples new h none = h.chunks_are ∙ ap (λ (l : List PutChunk). l ++ h.made) none

pub have_chunks : (old : Put) (samples : List Sample) (new : Put) → HasParts old samples new → old.chunks ≡ [] → 0 < length samples → new.chunks ≡ [] → ⊥
have_chunks old samples new h none some empty =
    some_made h.parts h.made samples h.chunks h.whole some (sym (own_chunks old samples new h none) ∙ empty)

pub series_more : {U E : Type 0} (r : Result U E) (old between new : Put) (series : Series) (samples : List Sample) (labels : List Label) → samples ≡ series.samples → labels ≡ series.labels → old.chunks ≡ [] → HasParts old samples between → OnOk r (new ≡ with_series between labels) → OnOk r (HasMore old series new)
series_more (Err e) old between new series samples labels samples_are labels_are none h is = tt
series_more (Ok x) old between new series samples labels samples_are labels_are none h is = record {
  put = record { labels = labels; chunks = between.chunks };
  put_is = record {
    parts = h.parts;
    whole = h.whole ∙ samples_are;
    cut = h.cut;
    chunks = subst (AllZip IsEncoded h.parts) (sym (own_chunks old samples between h none)) h.chunks;
    labels = labels_are;
  };
  plan_is = ap (λ (p : Put). p.plan) is ∙ h.plan_is;
  series_is = ap (λ (p : Put). p.series) is ∙ ap (λ (l : List PutSeries). l ++ record { labels = labels; chunks = between.chunks } ∷ []) h.series_are;
  nothing_left = ap (λ (p : Put). p.chunks) is;
  samples_is = ap (λ (p : Put). p.samples) is ∙ h.samples_are ∙ ap (λ (l : List Sample). fitted (old.samples + length l)) samples_are;
}

-- ---- the texts of chunks

pub texts_of : (parts : List (List Sample)) (chunks : List PutChunk) → AllZip IsEncoded parts chunks → AllZip StandsFor chunks parts
texts_of [] [] each = tt
texts_of [] (c ∷ chunks) each = absurd each
texts_of (p ∷ parts) [] each = absurd each
texts_of (p ∷ parts) (c ∷ chunks) each = (stored_text c.content p each.0.text_is, texts_of parts chunks each.1)
