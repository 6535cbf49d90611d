-- One chunk more: the last run grows, or the next one begins.
use Rattle.std.proofs.Common.{◌≡◌, ℕ, ◌+◌, ◌-◌, ◌<◌, ◌≤◌, List, [], ◌∷◌, ◌++◌, length, map, get_or, Option, None, Some, Result, Ok, Err, refl, sym, ap, subst, ◌∙◌, append_assoc, length-append, arith, inl, inr}
use Rattle.std.specs.Prelude.{IfOk, OnOk}
use Rattle.std.specs.List.{flat_map, AllByRecursion}
use Rattle.std.proofs.Math.ListN.{set}
use Rattle.std.proofs.Math.Seq.{set-append_seam, get_or-append_seam}
use Rattle.std.proofs.lemmas.Grind.{flat_map-append}
use Rattle.std.proofs.lemmas.List.{map-append, length-map, flat_map_more, append-nil}
use Rattle.base.proofs.Lists.{AllByRecursion-push, last_or_none}
use Rattle.index_parts.specs.Turns.{InOrder, InOrderAfter}
use Rattle.chunk_files.specs.Layout.{header_size, greatest}
use Rattle.chunk_files.specs.Chunk.{header, frame_text}
use Rattle.chunk_files.specs.declared.segment_refusal.SegmentRefusal.{SegmentRefusal}
use Rattle.chunk_files.specs.declared.segment_refusal.SegmentRefusal.TheVariants.{Full}
use Rattle.block_writing.specs.declared.segments.SegmentPlace.{SegmentPlace}
use Rattle.block_writing.specs.Segments.{segment_text, Begins, AreRuns, offsets_behind, place_in, places_from, AreSegments}

-- ---- one chunk more in a run

pub text_more : (run : List (List ℕ)) (content : List ℕ) → segment_text (run ++ content ∷ []) ≡ segment_text run ++ frame_text content
text_more run content = sym (flat_map_more frame_text header run content)

offsets_more : (size : ℕ) (run : List (List ℕ)) (content : List ℕ) → offsets_behind size (run ++ content ∷ []) ≡ offsets_behind size run ++ (size + length (flat_map frame_text run)) ∷ []
offsets_more size [] content = let e : size ≡ size + 0 = omega arith in ap (λ (n : ℕ). n ∷ []) e
offsets_more size (first ∷ run) content =
    let e : (size + length (frame_text first)) + length (flat_map frame_text run) ≡ size + length (frame_text first ++ flat_map frame_text run) =
    omega (arith, length-append (frame_text first) (flat_map frame_text run)) in
    ap (λ (l : List ℕ). size ∷ l) (offsets_more (size + length (frame_text first)) run content
    ∙ ap (λ (n : ℕ). offsets_behind (size + length (frame_text first)) run ++ n ∷ []) e)

places_behind : (front : List (List (List ℕ))) (run : List (List ℕ)) (number : ℕ) → places_from number (front ++ run ∷ []) ≡ places_from number front ++ map (place_in (number + length front)) (offsets_behind header_size run)
places_behind [] run number =
    let e : number ≡ number + 0 = omega arith in
    append-nil (map (place_in number) (offsets_behind header_size run)) ∙ ap (λ (n : ℕ). map (place_in n) (offsets_behind header_size run)) e
places_behind (first ∷ front) run number =
    let e : (number + 1) + length front ≡ number + length (first ∷ front) = omega arith in
    ap (λ (l : List SegmentPlace). map (place_in number) (offsets_behind header_size first) ++ l)
    (places_behind front run (number + 1) ∙ ap (λ (n : ℕ). places_from (number + 1) front ++ map (place_in n) (offsets_behind header_size run)) e)
    ∙ sym (append_assoc (map (place_in number) (offsets_behind header_size first)) (places_from (number + 1) front) (map (place_in (number + length (first ∷ front))) (offsets_behind header_size run)))

header_long : length header ≡ header_size
header_long = refl

places_more : (front : List (List (List ℕ))) (run : List (List ℕ)) (content : List ℕ) → places_from 0 (front ++ (run ++ content ∷ []) ∷ []) ≡ places_from 0 (front ++ run ∷ []) ++ place_in (length front) (length (segment_text run)) ∷ []
places_more front run content =
    let at : 0 + length front ≡ length front = omega arith in
    let long : header_size + length (flat_map frame_text run) ≡ length (segment_text run) = omega (arith, length-append header (flat_map frame_text run), header_long) in
    let last : map (place_in (0 + length front)) (offsets_behind header_size (run ++ content ∷ [])) ≡ map (place_in (0 + length front)) (offsets_behind header_size run) ++ place_in (length front) (length (segment_text run)) ∷ [] =
    ap (map (place_in (0 + length front))) (offsets_more header_size run content)
    ∙ map-append (place_in (0 + length front)) (offsets_behind header_size run) ((header_size + length (flat_map frame_text run)) ∷ [])
    ∙ ap (λ (p : SegmentPlace). map (place_in (0 + length front)) (offsets_behind header_size run) ++ p ∷ []) (ap (λ (n : ℕ). place_in n (header_size + length (flat_map frame_text run))) at ∙ ap (place_in (length front)) long) in
    places_behind front (run ++ content ∷ []) 0
    ∙ ap (λ (l : List SegmentPlace). places_from 0 front ++ l) last
    ∙ sym (append_assoc (places_from 0 front) (map (place_in (0 + length front)) (offsets_behind header_size run)) (place_in (length front) (length (segment_text run)) ∷ []))
    ∙ ap (λ (l : List SegmentPlace). l ++ place_in (length front) (length (segment_text run)) ∷ []) (sym (places_behind front run 0))

-- ---- runs

whole_more : (front : List (List (List ℕ))) (run : List (List ℕ)) (content : List ℕ) → flat_map (λ r. r) (front ++ (run ++ content ∷ []) ∷ []) ≡ flat_map (λ r. r) (front ++ run ∷ []) ++ content ∷ []
whole_more [] run content = append-nil (run ++ content ∷ []) ∙ ap (λ (l : List (List ℕ)). l ++ content ∷ []) (sym (append-nil run))
whole_more (first ∷ front) run content =
    ap (λ (l : List (List ℕ)). first ++ l) (whole_more front run content) ∙ sym (append_assoc first (flat_map (λ r. r) (front ++ run ∷ [])) (content ∷ []))

begins_longer : (before : Option (List (List ℕ))) (run : List (List ℕ)) (content : List ℕ) → Begins before run → Begins before (run ++ content ∷ [])
begins_longer None [] content begins = absurd begins
begins_longer (Some before) [] content begins = absurd begins
begins_longer None (first ∷ run) content begins = tt
begins_longer (Some before) (first ∷ run) content begins = begins

order_longer : (front : List (List (List ℕ))) (before : Option (List (List ℕ))) (run : List (List ℕ)) (content : List ℕ) → InOrderAfter Begins before (front ++ run ∷ []) → InOrderAfter Begins before (front ++ (run ++ content ∷ []) ∷ [])
order_longer [] before run content order = (begins_longer before run content order.0, tt)
order_longer (first ∷ front) before run content order = (order.0, order_longer front (Some first) run content order.1)

pub order_more : {A : Type 0} (R : Option A → A → Type 0) (front : List A) (before : Option A) (last next : A) → InOrderAfter R before (front ++ last ∷ []) → R (Some last) next → InOrderAfter R before ((front ++ last ∷ []) ++ next ∷ [])
order_more R [] before last next order follows = (order.0, (follows, tt))
order_more R (first ∷ front) before last next order follows = (order.0, order_more R front (Some first) last next order.1 follows)

fit_front : (P : List (List ℕ) → Type 0) (front : List (List (List ℕ))) (run : List (List ℕ)) → AllByRecursion P (front ++ run ∷ []) → AllByRecursion P front
fit_front P [] run all = tt
fit_front P (first ∷ front) run all = (all.0, fit_front P front run all.1)

-- ---- segments

abbrev Fits : List (List ℕ) → Type 0
Fits run = length (segment_text run) ≤ greatest

-- the chunk stands behind those of the last run
pub grown : (contents : List (List ℕ)) (places : List SegmentPlace) (front : List (List (List ℕ))) (run : List (List ℕ)) (content : List ℕ) (place : SegmentPlace) (new : List (List ℕ)) → AreRuns contents (front ++ run ∷ []) → places ≡ places_from 0 (front ++ run ∷ []) → length (segment_text run) + length (frame_text content) ≤ greatest → place ≡ place_in (length front) (length (segment_text run)) → new ≡ map segment_text front ++ (segment_text run ++ frame_text content) ∷ [] → AreSegments (contents ++ content ∷ []) (places ++ place ∷ []) new
grown contents places front run content place new are placed fits at is =
    let long : length (segment_text (run ++ content ∷ [])) ≤ greatest = omega (arith, fits, ap length (text_more run content), length-append (segment_text run) (frame_text content)) in
    record {
      runs = front ++ (run ++ content ∷ []) ∷ [];
      runs_are = record {
        whole = whole_more front run content ∙ ap (λ (l : List (List ℕ)). l ++ content ∷ []) are.whole;
        fit = AllByRecursion-push Fits front (run ++ content ∷ []) (fit_front Fits front run are.fit) long;
        begin = order_longer front None run content are.begin;
      };
      places_are = ap (λ (l : List SegmentPlace). l ++ place ∷ []) placed ∙ ap (λ (p : SegmentPlace). places_from 0 (front ++ run ∷ []) ++ p ∷ []) at ∙ sym (places_more front run content);
      segments_are = is ∙ ap (λ (l : List ℕ). map segment_text front ++ l ∷ []) (sym (text_more run content)) ∙ sym (map-append segment_text front ((run ++ content ∷ []) ∷ []));
    }

-- the chunk begins a segment
places_new : (runs : List (List (List ℕ))) (content : List ℕ) → places_from 0 (runs ++ (content ∷ []) ∷ []) ≡ places_from 0 runs ++ place_in (length runs) header_size ∷ []
places_new runs content =
    let at : 0 + length runs ≡ length runs = omega arith in
    places_behind runs (content ∷ []) 0 ∙ ap (λ (n : ℕ). places_from 0 runs ++ place_in n header_size ∷ []) at

whole_new : (runs : List (List (List ℕ))) (content : List ℕ) → flat_map (λ r. r) (runs ++ (content ∷ []) ∷ []) ≡ flat_map (λ r. r) runs ++ content ∷ []
whole_new runs content = flat_map-append (λ (r : List (List ℕ)). r) runs ((content ∷ []) ∷ [])

one_text : (content : List ℕ) → segment_text (content ∷ []) ≡ header ++ frame_text content
one_text content = ap (λ (l : List ℕ). header ++ l) (append-nil (frame_text content))

pub begun : (contents : List (List ℕ)) (places : List SegmentPlace) (runs : List (List (List ℕ))) (content : List ℕ) (place : SegmentPlace) (new : List (List ℕ)) → AreRuns contents runs → places ≡ places_from 0 runs → header_size + length (frame_text content) ≤ greatest → InOrder Begins (runs ++ (content ∷ []) ∷ []) → place ≡ place_in (length runs) header_size → new ≡ map segment_text runs ++ (header ++ frame_text content) ∷ [] → AreSegments (contents ++ content ∷ []) (places ++ place ∷ []) new
begun contents places runs content place new are placed fits order at is =
    let long : length (segment_text (content ∷ [])) ≤ greatest = omega (arith, fits, ap length (one_text content), length-append header (frame_text content), header_long) in
    record {
      runs = runs ++ (content ∷ []) ∷ [];
      runs_are = record {
        whole = whole_new runs content ∙ ap (λ (l : List (List ℕ)). l ++ content ∷ []) are.whole;
        fit = AllByRecursion-push Fits runs (content ∷ []) are.fit long;
        begin = order;
      };
      places_are = ap (λ (l : List SegmentPlace). l ++ place ∷ []) placed ∙ ap (λ (p : SegmentPlace). places_from 0 runs ++ p ∷ []) at ∙ sym (places_new runs content);
      segments_are = is ∙ ap (λ (l : List ℕ). map segment_text runs ++ l ∷ []) (sym (one_text content)) ∙ sym (map-append segment_text runs ((content ∷ []) ∷ []));
    }

-- ---- what a call that appends leaves

pub last_put : (r : Result ℕ SegmentRefusal) (items front : List (List ℕ)) (last old new text : List ℕ) (n : ℕ) → n ≡ length items → items ≡ front ++ last ∷ [] → old ≡ get_or items (n - 1) old → IfOk r (λ offset. offset ≡ length old) → OnOk r (new ≡ old ++ text) → IfOk r (λ offset. (offset ≡ length last) × (set items (n - 1) new ≡ front ++ (last ++ text) ∷ []))
last_put (Ok offset) items front last old new text n many is at offset_is new_is =
    let place : n - 1 ≡ length front = omega (arith, many, ap length is, length-append front (last ∷ [])) in
    let same : old ≡ last = at ∙ ap (λ (l : List (List ℕ)). get_or l (n - 1) old) is ∙ ap (λ (k : ℕ). get_or (front ++ last ∷ []) k old) place ∙ get_or-append_seam front last [] old in (
      offset_is ∙ ap length same,
      ap (λ (l : List (List ℕ)). set l (n - 1) new) is ∙ ap (λ (k : ℕ). set (front ++ last ∷ []) k new) place ∙ set-append_seam front last [] new ∙ ap (λ (l : List ℕ). front ++ l ∷ []) (new_is ∙ ap (λ (l : List ℕ). l ++ text) same),
    )
last_put (Err e) items front last old new text n many is at offset_is new_is = tt

-- the chunk was appended to the last segment
pub grow_put : (contents : List (List ℕ)) (places : List SegmentPlace) (old new : List (List ℕ)) (content : List ℕ) (n number offset : ℕ) → AreSegments contents places old → n ≡ length old → 0 < n → number ≡ n - 1
    → ((front : List (List ℕ)) (last : List ℕ) → old ≡ front ++ last ∷ [] → (offset ≡ length last) × (new ≡ front ++ (last ++ frame_text content) ∷ []))
    → ((front : List (List ℕ)) (last : List ℕ) → old ≡ front ++ last ∷ [] → greatest < length last + length (frame_text content) → ⊥)
    → AreSegments (contents ++ content ∷ []) (places ++ place_in number offset ∷ []) new
grow_put contents places old new content n number offset h many some number_is put room = elim (last_or_none h.runs) [
  | inl none ↦ absurd (omega (arith, many, some, ap length h.segments_are, ap length none, length-map h.runs segment_text))
  | inr (front, last, e) ↦
      let split : old ≡ map segment_text front ++ segment_text last ∷ [] = h.segments_are ∙ ap (map segment_text) e ∙ map-append segment_text front (last ∷ []) in
      let is = put (map segment_text front) (segment_text last) split in
      let no : greatest < length (segment_text last) + length (frame_text content) → ⊥ = room (map segment_text front) (segment_text last) split in
      let number_front : number ≡ length front = omega (arith, many, number_is, ap length split, length-append (map segment_text front) (segment_text last ∷ []), length-map front segment_text) in
      grown contents places front last content (place_in number offset) new (subst (AreRuns contents) e h.runs_are) (h.places_are ∙ ap (places_from 0) e) (omega (arith, no))
      (ap (λ (k : ℕ). place_in k offset) number_front ∙ ap (place_in (length front)) is.0) is.1
]

-- the chunk began a segment
order_new : (runs : List (List (List ℕ))) (content : List ℕ) → InOrder Begins runs → ((front : List (List (List ℕ))) (last : List (List ℕ)) → runs ≡ front ++ last ∷ [] → greatest < length (segment_text last) + length (frame_text content)) → InOrder Begins (runs ++ (content ∷ []) ∷ [])
order_new runs content order due = elim (last_or_none runs) [
  | inl none ↦ subst (λ (l : List (List (List ℕ))). InOrder Begins (l ++ (content ∷ []) ∷ [])) (sym none) (tt, tt)
  | inr (front, last, e) ↦ subst (λ (l : List (List (List ℕ))). InOrder Begins (l ++ (content ∷ []) ∷ [])) (sym e) (order_more Begins front None last (content ∷ []) (subst (InOrder Begins) e order) (due front last e))
]

pub begin_put : {E : Type 0} (r : Result SegmentPlace E) (contents : List (List ℕ)) (places : List SegmentPlace) (old new : List (List ℕ)) (content : List ℕ) → AreSegments contents places old → header_size + length (frame_text content) ≤ greatest
    → ((front : List (List ℕ)) (last : List ℕ) → old ≡ front ++ last ∷ [] → greatest < length last + length (frame_text content))
    → IfOk r (λ place. (place ≡ place_in (length old) header_size) × (new ≡ old ++ (header ++ frame_text content) ∷ []))
    → IfOk r (λ place. AreSegments (contents ++ content ∷ []) (places ++ place ∷ []) new)
begin_put (Ok place) contents places old new content h fits due is =
    let many : length old ≡ length h.runs = ap length h.segments_are ∙ length-map h.runs segment_text in
    let order = order_new h.runs content h.runs_are.begin (λ front last e. due (map segment_text front) (segment_text last) (h.segments_are ∙ ap (map segment_text) e ∙ map-append segment_text front (last ∷ []))) in
    begun contents places h.runs content place new h.runs_are h.places_are fits order (is.0 ∙ ap (λ (k : ℕ). place_in k header_size) many)
    (is.1 ∙ ap (λ (l : List (List ℕ)). l ++ (header ++ frame_text content) ∷ []) h.segments_are)
begin_put (Err e) contents places old new content h fits due is = tt

pub none_due : (old front : List (List ℕ)) (last : List ℕ) (P : Type 0) → length old ≡ 0 → old ≡ front ++ last ∷ [] → P
none_due old front last P none e = absurd (omega (arith, none, ap length e, length-append front (last ∷ [])))

pub full_error : (e : SegmentRefusal) → e ≡ Full → ◌≡◌ {A = Result ℕ SegmentRefusal} (Err e) (Err Full)
full_error e is = cc

pub ok_not_full : (offset : ℕ) → ◌≡◌ {A = Result ℕ SegmentRefusal} (Ok offset) (Err Full) → ⊥
ok_not_full offset e = absurd cc
