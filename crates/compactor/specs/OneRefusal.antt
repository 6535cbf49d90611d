-- There is one first block that is refused, and one entry at which its refusal's cause was read.
use Rattle.std.proofs.Common.{◌≡◌, ℕ, zero, suc, List, [], ◌∷◌, map, Some, Result, Ok, Err, refl, sym, ap, subst, ◌∙◌}
use Rattle.std.specs.Prelude.{slice_get}
use Rattle.std.specs.List.{AllByRecursion}
use Rattle.base.proofs.Binds.{err_is}
use Rattle.label_sets.specs.declared.sample.Sample.{Sample}
use Rattle.label_sets.specs.declared.series.Series.{Series}
use Rattle.index_parts.specs.declared.chunk_place.ChunkPlace.{ChunkPlace}
use Rattle.index_parts.specs.declared.index_series.IndexSeries.{IndexSeries}
use Rattle.block_meta.specs.declared.block_files.BlockFiles.{BlockFiles}
use Rattle.block_content.specs.ContentReading.{content_at}
use Rattle.block_content.specs.ContentRefusals.{RefusesContent, HasBadChunk, IsFirstBadChunk}
use Rattle.block_content.specs.declared.chunk_cause.ChunkCause.{ChunkCause}
use Rattle.block_content.specs.declared.check_refusal.CheckRefusal.{CheckRefusal}
use Rattle.block_content.specs.declared.check_refusal.CheckRefusal.TheVariants.{BadChunk}
use Rattle.base.proofs.FirstLaws.{some_is, bad_head, bad_tail, nothing_there}
use Rattle.block_content.proofs.ContentLaws.{block_tells, content_again, content_refuses}
use Rattle.block_merging.specs.PutContent.{AreBytes}
use Rattle.block_merging.specs.Inputs.{HasContent, IsFirstRefused}
use Rattle.block_merging.proofs.StoredInputs.{index_once}
use Rattle.compactor.specs.declared.input.Input.{Input}
use Rattle.compactor.specs.Merges.{WasReadAt, IsRefused}

-- ---- the first block

not_both : (block : BlockFiles) (cause : CheckRefusal) → AreBytes block → HasContent block → RefusesContent block cause → ⊥
not_both block cause bytes (list, held) refused =
    let ok : content_at block ≡ Ok list = content_again block bytes.index bytes.segments list held in
    let err : content_at block ≡ Err cause = content_refuses block bytes.index bytes.segments cause refused in
    let e : ◌≡◌ {A = Result (List Series) CheckRefusal} (Ok list) (Err cause) = sym ok ∙ err in cc

one_cause : (block : BlockFiles) (c d : CheckRefusal) → AreBytes block → RefusesContent block c → RefusesContent block d → c ≡ d
one_cause block c d bytes is so =
    let e : ◌≡◌ {A = Result (List Series) CheckRefusal} (Err c) (Err d) = sym (content_refuses block bytes.index bytes.segments c is) ∙ content_refuses block bytes.index bytes.segments d so in cc

pub first_once : (blocks : List BlockFiles) (p q : ℕ) (c d : CheckRefusal) → AllByRecursion AreBytes blocks → IsFirstRefused blocks p c → IsFirstRefused blocks q d → (p ≡ q) × (c ≡ d)
first_once [] p q c d bytes is so = absurd (nothing_there p is.member is.stands)
first_once (x ∷ xs) zero zero c d bytes is so =
    (refl, one_cause x c d bytes.0 (bad_head HasContent (λ b. RefusesContent b c) x xs is) (bad_head HasContent (λ b. RefusesContent b d) x xs so))
first_once (x ∷ xs) zero (suc q) c d bytes is so =
    absurd (not_both x c bytes.0 (bad_tail HasContent (λ b. RefusesContent b d) x xs q so).0 (bad_head HasContent (λ b. RefusesContent b c) x xs is))
first_once (x ∷ xs) (suc p) zero c d bytes is so =
    absurd (not_both x d bytes.0 (bad_tail HasContent (λ b. RefusesContent b c) x xs p is).0 (bad_head HasContent (λ b. RefusesContent b d) x xs so))
first_once (x ∷ xs) (suc p) (suc q) c d bytes is so =
    let r = first_once xs p q c d bytes.1 (bad_tail HasContent (λ b. RefusesContent b c) x xs p is).1 (bad_tail HasContent (λ b. RefusesContent b d) x xs q so).1 in
    (ap (λ n. suc n) r.0, r.1)

pub none_refused : (blocks : List BlockFiles) (p : ℕ) (c : CheckRefusal) → AllByRecursion AreBytes blocks → AllByRecursion HasContent blocks → IsFirstRefused blocks p c → ⊥
none_refused [] p c bytes held is = nothing_there p is.member is.stands
none_refused (x ∷ xs) zero c bytes held is = not_both x c bytes.0 held.0 (bad_head HasContent (λ b. RefusesContent b c) x xs is)
none_refused (x ∷ xs) (suc p) c bytes held is = none_refused xs p c bytes.1 held.1 (bad_tail HasContent (λ b. RefusesContent b c) x xs p is).1

-- ---- the entry

same_there : {A : Type 0} (xs : List A) (p q : ℕ) (x y : A) → p ≡ q → slice_get xs p ≡ Some x → slice_get xs q ≡ Some y → x ≡ y
same_there {A} xs p q x y same is so = some_is x y (sym is ∙ ap (slice_get xs) same ∙ so)

-- the first bad chunk stands in one segment
one_segment : (block : BlockFiles) (series chunk : ℕ) (cause : ChunkCause) → AreBytes block → (one other : HasBadChunk block series chunk cause) → one.first.bad.member.segment ≡ other.first.bad.member.segment
one_segment block series chunk cause bytes one other =
    let lists : one.indexed ≡ other.indexed = index_once block.index one.indexed other.indexed bytes.index one.index_is other.index_is in
    let there : IsFirstBadChunk block.segments one.indexed other.at_series other.at_chunk cause = subst (λ l. IsFirstBadChunk block.segments l other.at_series other.at_chunk cause) (sym lists) other.first in
    let tells = block_tells block.segments bytes.segments in
    let e : ◌≡◌ {A = Result (List (List (List Sample))) (ℕ × (ℕ × ChunkCause))} (Err (one.at_series, (one.at_chunk, cause))) (Err (other.at_series, (other.at_chunk, cause))) =
    sym (tells.refuses one.indexed (one.at_series, (one.at_chunk, cause)) one.first) ∙ tells.refuses one.indexed (other.at_series, (other.at_chunk, cause)) there in
    let places : ◌≡◌ {A = ℕ × (ℕ × ChunkCause)} (one.at_series, (one.at_chunk, cause)) (other.at_series, (other.at_chunk, cause)) = err_is {A = List (List (List Sample))} (one.at_series, (one.at_chunk, cause)) (other.at_series, (other.at_chunk, cause)) e in
    let series' : one.at_series ≡ other.at_series = ap (λ (r : ℕ × (ℕ × ChunkCause)). r.0) places in
    let chunk' : one.at_chunk ≡ other.at_chunk = ap (λ (r : ℕ × (ℕ × ChunkCause)). r.1.0) places in
    let members : one.first.member ≡ other.first.member = same_there one.indexed one.at_series other.at_series one.first.member other.first.member series' one.first.stands (ap (λ l. slice_get l other.at_series) lists ∙ other.first.stands) in
    ap (λ (place : ChunkPlace). place.segment)
    (same_there one.first.member.chunks one.at_chunk other.at_chunk one.first.bad.member other.first.bad.member chunk' one.first.bad.stands
    (ap (λ (s : IndexSeries). slice_get s.chunks other.at_chunk) members ∙ other.first.bad.stands))

one_entry : (input : Input) (block : BlockFiles) (cause : CheckRefusal) (n m : ℕ) → AreBytes block → WasReadAt input block cause n → WasReadAt input block cause m → n ≡ m
one_entry input block (BadChunk series chunk cause) n m bytes (one, is) (other, so) =
    same_there (map (λ segment. segment.number) input.segments) one.first.bad.member.segment other.first.bad.member.segment n m (one_segment block series chunk cause bytes one other) is so
one_entry input block other n m bytes is so = is ∙ sym so

bytes_at : (blocks : List BlockFiles) (p : ℕ) (block : BlockFiles) → AllByRecursion AreBytes blocks → slice_get blocks p ≡ Some block → AreBytes block
bytes_at [] p block bytes is = absurd (nothing_there p block is)
bytes_at (x ∷ xs) zero block bytes is = subst AreBytes (some_is x block is) bytes.0
bytes_at (x ∷ xs) (suc p) block bytes is = bytes_at xs p block bytes.1 is

pub refused_once : (inputs : List Input) (blocks : List BlockFiles) (n m : ℕ) → AllByRecursion AreBytes blocks → IsRefused inputs blocks n → IsRefused inputs blocks m → n ≡ m
refused_once inputs blocks n m bytes is so =
    let firsts = first_once blocks is.place so.place is.cause so.cause bytes is.first so.first in
    let input : is.input ≡ so.input = same_there inputs is.place so.place is.input so.input firsts.0 is.stands so.stands in
    let block : is.first.member ≡ so.first.member = same_there blocks is.place so.place is.first.member so.first.member firsts.0 is.first.stands so.first.stands in
    let shown : WasReadAt is.input is.first.member is.cause m =
    subst (λ (i : Input). WasReadAt i is.first.member is.cause m) (sym input)
    (subst (λ (b : BlockFiles). WasReadAt so.input b is.cause m) (sym block)
    (subst (λ (c : CheckRefusal). WasReadAt so.input so.first.member c m) (sym firsts.1) so.shown)) in
    one_entry is.input is.first.member is.cause n m (bytes_at blocks is.place is.first.member bytes is.first.stands) is.shown shown
