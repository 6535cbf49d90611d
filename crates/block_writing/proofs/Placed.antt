-- Each chunk stands at its place.
use Rattle.std.proofs.Common.{◌≡◌, ℕ, ◌+◌, ◌^◌, ◌<◌, ◌≤◌, List, [], ◌∷◌, ◌++◌, length, map, Some, refl, sym, ap, subst, ◌∙◌, append_assoc, length-append, arith}
use Rattle.std.specs.Prelude.{slice_get}
use Rattle.std.specs.Int.{w32, to_be_bytes}
use Rattle.std.specs.List.{flat_map, AllByRecursion, AllZip}
use Rattle.std.proofs.lemmas.Grind.{flat_map-append}
use Rattle.wire_bytes.specs.Crc.{crc}
use Rattle.wire_bytes.specs.Written.{uvarint_text}
use Rattle.wire_bytes.proofs.GroupTexts.{uvarint_text_is}
use Rattle.chunk_files.specs.Layout.{magic, version, header_size, greatest, xor}
use Rattle.chunk_files.specs.Chunk.{IsChunk, IsPlace, IsFilled, header, frame_text}
use Rattle.chunk_files.proofs.SegmentLaws.{placed, still}
use Rattle.chunk_files.proofs.ChunkLaws.{place_again}
use Rattle.block_writing.specs.declared.segments.SegmentPlace.{SegmentPlace}
use Rattle.block_writing.specs.Segments.{segment_text, offsets_behind, place_in, places_from, AreSegments}
use Rattle.block_writing.specs.Standing.{content_at}
use Rattle.base.proofs.Pairs.{AllZip-append}
use Rattle.index_writing.proofs.ListPlaces.{crc_fits}

-- The segment that a place names is one of the block's, and these data stand in it at the place.
pub record StandsAt (segments : List (List ℕ)) (place : SegmentPlace) (content : List ℕ) : Type 0 where
  pub segment : List ℕ
  pub named : slice_get segments place.segment ≡ Some segment
  pub stands : IsPlace segment place.offset content

-- ---- members of two lists, each to its own

pub each_map : {A B C : Type 0} (R : A → B → Type 0) (S : C → B → Type 0) (f : A → C) → ((x : A) (y : B) → R x y → S (f x) y) → (xs : List A) (ys : List B) → AllZip R xs ys → AllZip S (map f xs) ys
each_map R S f turns [] [] each = tt
each_map R S f turns [] (y ∷ ys) each = absurd each
each_map R S f turns (x ∷ xs) [] each = absurd each
each_map R S f turns (x ∷ xs) (y ∷ ys) each = (turns x y each.0, each_map R S f turns xs ys each.1)

-- ---- in one segment

chunk_is : (content : List ℕ) → length content < 2 ^ 64 → IsChunk (frame_text content) content
chunk_is content few = record {
  size = uvarint_text (length content);
  sum = to_be_bytes w32 (crc (xor ∷ content));
  size_is = uvarint_text_is (length content) few;
  sum_is = record { digits = refl; fits = crc_fits (xor ∷ content) };
  text_is = refl;
}

content_short : (content : List ℕ) → length content ≤ length (frame_text content)
content_short content =
    omega (arith, length-append (uvarint_text (length content) ++ (xor ∷ content)) (to_be_bytes w32 (crc (xor ∷ content))), length-append (uvarint_text (length content)) (xor ∷ content))

filled : (run : List (List ℕ)) → length (segment_text run) ≤ greatest → IsFilled (segment_text run)
filled run fits = record {
  begins = record {
    after_magic = version ∷ 0 ∷ 0 ∷ 0 ∷ flat_map frame_text run;
    after = 0 ∷ 0 ∷ 0 ∷ flat_map frame_text run;
    begins = (to_be_bytes w32 magic, record { digits = refl; fits = omega arith }, append_assoc (to_be_bytes w32 magic) (version ∷ 0 ∷ 0 ∷ 0 ∷ []) (flat_map frame_text run));
    numbered = (version ∷ [], record { digits = refl; fits = omega arith }, refl);
  };
  low = omega (arith, length-append header (flat_map frame_text run));
  high = fits;
}

part_text : (front run : List (List ℕ)) → segment_text (front ++ run) ≡ segment_text front ++ flat_map frame_text run
part_text front run = ap (λ (l : List ℕ). header ++ l) (flat_map-append frame_text front run) ∙ sym (append_assoc header (flat_map frame_text front) (flat_map frame_text run))

part_size : (front run : List (List ℕ)) → length (segment_text (front ++ run)) ≡ length (segment_text front) + length (flat_map frame_text run)
part_size front run = ap length (part_text front run) ∙ length-append (segment_text front) (flat_map frame_text run)

in_run : (front run : List (List ℕ)) → length (segment_text (front ++ run)) ≤ greatest → AllZip (λ offset content. IsPlace (segment_text (front ++ run)) offset content) (offsets_behind (length (segment_text front)) run) run
in_run front [] fits = tt
in_run front (content ∷ run) fits =
    let split : (front ++ content ∷ []) ++ run ≡ front ++ content ∷ run = append_assoc front (content ∷ []) run in
    let size : length (segment_text front) + length (frame_text content ++ flat_map frame_text run) ≤ greatest = omega (arith, fits, part_size front (content ∷ run)) in
    let few : length content < 2 ^ 64 = omega (arith, size, content_short content, length-append (frame_text content) (flat_map frame_text run)) in
    let whole_is : segment_text (front ++ content ∷ run) ≡ (segment_text front ++ frame_text content) ++ flat_map frame_text run =
    part_text front (content ∷ run) ∙ sym (append_assoc (segment_text front) (frame_text content) (flat_map frame_text run)) in
    let first : IsPlace (segment_text front ++ frame_text content) (length (segment_text front)) content =
    placed (segment_text front) (segment_text front ++ frame_text content) (frame_text content) (frame_text content) content (length (segment_text front)) (filled front (omega (arith, size))) (chunk_is content few) refl refl refl in
    let here : IsPlace (segment_text (front ++ content ∷ run)) (length (segment_text front)) content =
    still (segment_text front ++ frame_text content) (segment_text (front ++ content ∷ run)) (flat_map frame_text run) content (length (segment_text front)) whole_is first in
    let next : length (segment_text (front ++ content ∷ [])) ≡ length (segment_text front) + length (frame_text content) =
    omega (arith, part_size front (content ∷ []), length-append (frame_text content) []) in
    let fits_too : length (segment_text ((front ++ content ∷ []) ++ run)) ≤ greatest = omega (arith, fits, ap (λ (l : List (List ℕ)). length (segment_text l)) split) in
    let later = in_run (front ++ content ∷ []) run fits_too in
    let moved : AllZip (λ offset one. IsPlace (segment_text (front ++ content ∷ run)) offset one) (offsets_behind (length (segment_text (front ++ content ∷ []))) run) run =
    subst (λ (l : List (List ℕ)). AllZip (λ offset one. IsPlace (segment_text l) offset one) (offsets_behind (length (segment_text (front ++ content ∷ []))) run) run) split later in
    (here, subst (λ (n : ℕ). AllZip (λ offset one. IsPlace (segment_text (front ++ content ∷ run)) offset one) (offsets_behind n run) run) next moved)

-- ---- in all of them

named_at : (before after : List (List ℕ)) (segment : List ℕ) → slice_get (before ++ segment ∷ after) (length before) ≡ Some segment
named_at [] after segment = refl
named_at (first ∷ before) after segment = named_at before after segment

in_runs : (before : List (List ℕ)) (runs : List (List (List ℕ))) → AllByRecursion (λ run. length (segment_text run) ≤ greatest) runs → AllZip (StandsAt (before ++ map segment_text runs)) (places_from (length before) runs) (flat_map (λ run. run) runs)
in_runs before [] fit = tt
in_runs before (run ∷ runs) fit =
    let own : AllZip (StandsAt (before ++ segment_text run ∷ map segment_text runs)) (map (place_in (length before)) (offsets_behind header_size run)) run =
    each_map (λ offset content. IsPlace (segment_text run) offset content) (StandsAt (before ++ segment_text run ∷ map segment_text runs)) (place_in (length before))
    (λ offset content is. record { segment = segment_text run; named = named_at before (map segment_text runs) (segment_text run); stands = is }) (offsets_behind header_size run) run (in_run [] run fit.0) in
    let split : (before ++ segment_text run ∷ []) ++ map segment_text runs ≡ before ++ segment_text run ∷ map segment_text runs = append_assoc before (segment_text run ∷ []) (map segment_text runs) in
    let next : length (before ++ segment_text run ∷ []) ≡ length before + 1 = omega (arith, length-append before (segment_text run ∷ [])) in
    let later = in_runs (before ++ segment_text run ∷ []) runs fit.1 in
    let moved : AllZip (StandsAt (before ++ segment_text run ∷ map segment_text runs)) (places_from (length (before ++ segment_text run ∷ [])) runs) (flat_map (λ r. r) runs) =
    subst (λ (l : List (List ℕ)). AllZip (StandsAt l) (places_from (length (before ++ segment_text run ∷ [])) runs) (flat_map (λ r. r) runs)) split later in
    AllZip-append (StandsAt (before ++ segment_text run ∷ map segment_text runs)) (map (place_in (length before)) (offsets_behind header_size run)) (places_from (length before + 1) runs) run (flat_map (λ r. r) runs) own
    (subst (λ (n : ℕ). AllZip (StandsAt (before ++ segment_text run ∷ map segment_text runs)) (places_from n runs) (flat_map (λ r. r) runs)) next moved)

pub all_stand : (contents : List (List ℕ)) (places : List SegmentPlace) (segments : List (List ℕ)) → AreSegments contents places segments → AllZip (StandsAt segments) places contents
all_stand contents places segments h =
    subst (λ (l : List (List ℕ)). AllZip (StandsAt l) places contents) (sym h.segments_are)
    (subst (λ (l : List SegmentPlace). AllZip (StandsAt (map segment_text h.runs)) l contents) (sym h.places_are)
    (subst (λ (l : List (List ℕ)). AllZip (StandsAt (map segment_text h.runs)) (places_from 0 h.runs) l) h.runs_are.whole (in_runs [] h.runs h.runs_are.fit)))

-- ---- what is read there

pub read_there : (segments : List (List ℕ)) (place : SegmentPlace) (content : List ℕ) → StandsAt segments place content → content_at segments place ≡ content
unfolding content_at
read_there segments place content h = rw (h.named, place_again h.segment place.offset content h.stands) refl

read_each : (segments : List (List ℕ)) (places : List SegmentPlace) (contents : List (List ℕ)) → AllZip (StandsAt segments) places contents → map (content_at segments) places ≡ contents
read_each segments [] [] each = refl
read_each segments [] (content ∷ contents) each = absurd each
read_each segments (place ∷ places) [] each = absurd each
read_each segments (place ∷ places) (content ∷ contents) each =
    ap (λ (l : List ℕ). l ∷ map (content_at segments) places) (read_there segments place content each.0) ∙ ap (λ (l : List (List ℕ)). content ∷ l) (read_each segments places contents each.1)

pub read_all : (contents : List (List ℕ)) (places : List SegmentPlace) (segments : List (List ℕ)) → AreSegments contents places segments → map (content_at segments) places ≡ contents
read_all contents places segments h = read_each segments places contents (all_stand contents places segments h)
