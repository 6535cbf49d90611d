-- The data that is lent of a chunk that stands at a place is the chunk's.
use Rattle.std.proofs.Common.{◌≡◌, ℕ, ◌+◌, ◌<◌, ◌≤◌, List, [], ◌∷◌, ◌++◌, length, take, drop, Ok, Err, refl, sym, ap, subst, ◌∙◌, append_assoc, arith}
use Rattle.std.specs.Int.{w32}
use Rattle.std.specs.List.{AllByRecursion}
use Rattle.std.proofs.Math.Seq.{take-append_seam}
use Rattle.std.proofs.lemmas.List.{length-append}
use Rattle.base.proofs.Membership.{all_members}
use Rattle.base.specs.Grammar.{IsBytes}
use Rattle.base.proofs.Binds.{ok_is}
use Rattle.wire_bytes.specs.Crc.{crc}
use Rattle.wire_bytes.specs.FieldTexts.{IsFixed}
use Rattle.wire_bytes.specs.Position.{Position, left, further, start}
use Rattle.wire_bytes.specs.Fields.{uvarint_at}
use Rattle.wire_bytes.specs.declared.varint.WireRefusal.{WireRefusal}
use Rattle.wire_bytes.proofs.FieldLaws.{uvarint_again, left_after}
use Rattle.chunk_files.specs.Chunk.{IsFront, IsPlace}
use Rattle.chunk_files.specs.Layout.{xor}
use Rattle.chunk_files.proofs.ChunkLaws.{chunk_again, too_far}
use Rattle.index_parts.specs.declared.index_series.IndexSeries.{IndexSeries}
use Rattle.index_parts.specs.IndexFile.{IsIndex}
use Rattle.block_meta.specs.declared.block_files.BlockFiles.{BlockFiles}
use Rattle.block_content.specs.Content.{IsChunkOf, HoldsSeries}
use Rattle.block_merging.specs.Inputs.{HasContent}
use Rattle.block_merging.specs.Queues.{IsStanding, HasStanding}
use Rattle.block_merging.proofs.SameLists.{zip_member}
use Rattle.block_merging.proofs.StoredInputs.{index_once}

-- a chunk in its parts
whole : (part content : List ℕ) (h : IsFront part content) → part ≡ h.1.1.size ++ ((xor ∷ content) ++ (h.1.1.sum ++ h.0))
whole part content h =
    let is = h.1.1 in
    h.1.2 ∙ ap (λ (a : List ℕ). a ++ h.0) is.text_is ∙ append_assoc (is.size ++ (xor ∷ content)) is.sum h.0 ∙ append_assoc is.size (xor ∷ content) (is.sum ++ h.0)

told : (part content : List ℕ) (h : IsFront part content) → uvarint_at (start part) ≡ Ok (length content, further (length h.1.1.size) (start part))
told part content h = uvarint_again (start part) h.1.1.size (length content) ((xor ∷ content) ++ (h.1.1.sum ++ h.0)) h.1.1.size_is (whole part content h)

data_in_front : (content others framed lent : List ℕ) (size : ℕ) → size ≡ length content → framed ≡ (xor ∷ content) ++ others → (size < length framed → lent ≡ take size (drop 1 framed)) → lent ≡ content
data_in_front content others framed lent size many is cut =
    cut (omega (arith, many, ap length is, length-append content others)) ∙ ap (λ (l : List ℕ). take size (drop 1 l)) is ∙ ap (λ (n : ℕ). take n (content ++ others)) many ∙ take-append_seam content others

-- what is behind the length of a chunk begins with its data behind one byte
pub front_lent : (part content framed lent : List ℕ) (size : ℕ) (after : Position) → uvarint_at (start part) ≡ Ok (size, after) → framed ≡ left after → (size < length framed → lent ≡ take size (drop 1 framed)) → IsFront part content → lent ≡ content
front_lent part content framed lent size after read rest cut h =
    let same : (size, after) ≡ (length content, further (length h.1.1.size) (start part)) = ok_is {E = WireRefusal} _ _ (sym read ∙ told part content h) in
    data_in_front content (h.1.1.sum ++ h.0) framed lent size (ap (λ p. p.0) same)
    (rest ∙ ap (λ p. left p.1) same ∙ left_after h.1.1.size ((xor ∷ content) ++ (h.1.1.sum ++ h.0)) (start part) (whole part content h)) cut

-- behind so many bytes of the front stands what follows it
cut_behind : (front rest : List ℕ) → drop (length front) (front ++ rest) ≡ rest
cut_behind [] rest = refl
cut_behind (b ∷ bs) rest = cut_behind bs rest

pub left_behind : (framed front text after : List ℕ) (size : ℕ) (at : Position) → at ≡ record { bytes = framed; place = size + 1 } → length front ≡ size + 1 → framed ≡ front ++ (text ++ after) → left at ≡ text ++ after
left_behind framed front text after size at at_is many is =
    ap left at_is ∙ ap (λ (n : ℕ). drop n framed) (sym many) ∙ ap (drop (length front)) is ∙ cut_behind front (text ++ after)

pub front_within : (framed front text after : List ℕ) (size : ℕ) → length front ≡ size + 1 → framed ≡ front ++ (text ++ after) → length framed ≤ size → ⊥
front_within framed front text after size many is few = omega (arith, many, few, ap length is, length-append front (text ++ after))

-- behind the data of a chunk stands the sum of its encoding and data
pub front_summed : (part content framed : List ℕ) (sum size : ℕ) (after : Position) → uvarint_at (start part) ≡ Ok (size, after) → framed ≡ left after
    → ((front text others : List ℕ) (n : ℕ) → length front ≡ size + 1 → IsFixed w32 text n → framed ≡ front ++ (text ++ others) → sum ≡ n) → IsFront part content → sum ≡ crc (xor ∷ content)
front_summed part content framed sum size after read rest there h =
    let same : (size, after) ≡ (length content, further (length h.1.1.size) (start part)) = ok_is {E = WireRefusal} _ _ (sym read ∙ told part content h) in
    let many : size ≡ length content = ap (λ p. p.0) same in
    there (xor ∷ content) h.1.1.sum h.0 (crc (xor ∷ content)) (omega (arith, many)) h.1.1.sum_is
    (rest ∙ ap (λ p. left p.1) same ∙ left_after h.1.1.size ((xor ∷ content) ++ (h.1.1.sum ++ h.0)) (start part) (whole part content h))

-- a chunk has a length
pub front_has_length : (part content : List ℕ) (e : WireRefusal) → uvarint_at (start part) ≡ Err e → IsFront part content → ⊥
front_has_length part content e none h = let no = sym none ∙ told part content h in absurd cc

-- no chunk stands past the end
pub none_past_end : (segment content : List ℕ) (offset : ℕ) → length segment < offset → IsPlace segment offset content → ⊥
none_past_end segment content offset lt h = let no = sym (too_far segment offset lt) ∙ chunk_again (drop offset segment) content h.stands in absurd cc

-- the chunks of a block that holds something that can be read
pub all_stand : (block : BlockFiles) (indexed items : List IndexSeries) (segments : List (List ℕ)) → segments ≡ block.segments → items ≡ indexed → IsIndex block.index indexed → IsBytes block.index → HasContent block → AllByRecursion (HasStanding segments) items
all_stand block indexed items segments segments_are same is bytes (list, content) =
    let there : AllByRecursion (HasStanding block.segments) content.indexed = all_members (HasStanding block.segments) content.indexed (λ one among.
    let s = zip_member (HoldsSeries block.segments) content.indexed list one content.series_are among in
    all_members (IsStanding block.segments) one.chunks (λ place here.
    let part = zip_member (IsChunkOf block.segments) one.chunks s.2.parts place s.2.chunks_are here in
    (part.2.content, part.2.stands))) in
    subst (λ (s : List (List ℕ)). AllByRecursion (HasStanding s) items) (sym segments_are)
    (subst (AllByRecursion (HasStanding block.segments)) (index_once block.index content.indexed indexed bytes content.index_is is ∙ sym same) there)
