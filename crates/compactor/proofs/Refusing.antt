-- The entry that shows why a block is refused.
use Rattle.std.proofs.Common.{◌≡◌, ◌<◌, ℕ, zero, suc, List, [], ◌∷◌, length, map, Contains, None, Some, Result, Ok, Err, IfOk, refl, sym, ap, subst, ◌∙◌, ◌⊎◌, inl, inr, arith}
use Rattle.std.specs.Prelude.{slice_get, nat_le}
use Rattle.std.specs.List.{AllZip}
use Rattle.base.specs.declared.memory.NoMemory.{NoMemory as OutOfMemory}
use Rattle.base.proofs.Binds.{ok_is}
use Rattle.base.specs.Grammar.{IsBytes}
use Rattle.base.specs.Reading.{refused_as}
use Rattle.index_parts.specs.declared.index_series.IndexSeries.{IndexSeries}
use Rattle.index_parts.specs.IndexFile.{IsIndex}
use Rattle.index_parts.specs.declared.chunk_place.ChunkPlace.{ChunkPlace}
use Rattle.index_v2.specs.declared.refusal.IndexRefusal.{IndexRefusal}
use Rattle.block_meta.specs.declared.block_files.BlockFiles.{BlockFiles}
use Rattle.block_content.specs.ContentReading.{fitted, index_at, refused_index}
use Rattle.block_content.specs.ContentRefusals.{RefusesContent, HasBadChunk}
use Rattle.block_content.specs.declared.check_refusal.CheckRefusal.{CheckRefusal}
use Rattle.block_content.specs.declared.check_refusal.CheckRefusal.TheVariants.{BadChunk}
use Rattle.block_content.specs.declared.check_refusal.CheckRefusal.TheVariants as check
use Rattle.block_content.specs.declared.chunk_cause.ChunkCause.{ChunkCause}
use Rattle.base.proofs.FirstLaws.{some_is}
use Rattle.base.proofs.Membership.{contains_first, contains_later}
use Rattle.block_content.proofs.TimesAndOrder.{index_again}
use Rattle.block_merging.specs.Inputs.{IsFirstRefused}
use Rattle.compactor.specs.Inputs.{IsInput}
use Rattle.compactor.specs.InputFiles.{numbers_of, AreNamed, IsShownBy, NamesChunk, IsPlaceOf}
use Rattle.compactor.specs.Named.{named_by, named_segments, last_named}
use Rattle.compactor.proofs.LastNamed.{few_is, chunk_named}
use Rattle.compactor.specs.Merges.{WasReadAt, IsRefused}
use Rattle.compactor.specs.declared.input.Input.{Input}
use Rattle.compactor.specs.declared.input_files.Numbers.{Numbers}

-- a number of 32 bits below the greatest one stands for itself
pub stands_for_itself : (number place : ℕ) → number < 4294967295 → number ≡ fitted place → number ≡ place
stands_for_itself number place less is = omega (arith, less, is)

-- ---- the block

-- what was read of a block was read at the same place
input_at : (inputs : List Input) (blocks : List BlockFiles) (k : ℕ) (block : BlockFiles) → AllZip IsInput inputs blocks → slice_get blocks k ≡ Some block
    → (input : Input) × (slice_get inputs k ≡ Some input) × (slice_get (map numbers_of inputs) k ≡ Some (numbers_of input))
input_at [] [] k block are is = absurd (none k is)
  where
    none : (k : ℕ) → slice_get {X = BlockFiles} [] k ≡ Some block → ⊥
    none k e = absurd cc
input_at [] (b ∷ bs) k block are is = absurd are
input_at (i ∷ others) [] k block are is = absurd are
input_at (i ∷ others) (b ∷ bs) zero block are is = (i, refl, refl)
input_at (i ∷ others) (b ∷ bs) (suc k) block are is = input_at others bs k block are.1 is

was_read : (input : Input) (block : BlockFiles) (cause : CheckRefusal) (number : ℕ) → IsShownBy (numbers_of input) block cause number → WasReadAt input block cause number
was_read input block (BadChunk series chunk cause) number is = is
was_read input block other number is = is

pub refused_so : (blocks : List BlockFiles) (numbers : List Numbers) (place at number : ℕ) (cause : CheckRefusal) (block : BlockFiles) (read : Numbers) → place < 4294967295
    → place ≡ fitted at → (first : IsFirstRefused blocks at cause) → slice_get blocks place ≡ Some block → slice_get numbers place ≡ Some read
    → IsShownBy read block cause number → (inputs : List Input) → AllZip IsInput inputs blocks → numbers ≡ map numbers_of inputs → IsRefused inputs blocks number
refused_so blocks numbers place at number cause block read other is first stands told shown inputs are numbered =
    let same : place ≡ at = stands_for_itself place at other is in
    let here = input_at inputs blocks at first.member are first.stands in
    let one : block ≡ first.member = some_is block first.member (sym stands ∙ ap (slice_get blocks) same ∙ first.stands) in
    let its : read ≡ numbers_of here.0 = some_is read (numbers_of here.0) (sym told ∙ ap (slice_get numbers) same ∙ ap (λ (l : List Numbers). slice_get l at) numbered ∙ here.2) in
    record {
      place = at;
      cause = cause;
      first = first;
      input = here.0;
      stands = here.1;
      shown = was_read here.0 first.member cause number (subst (λ (b : BlockFiles). IsShownBy (numbers_of here.0) b cause number) one (subst (λ (r : Numbers). IsShownBy r block cause number) its shown));
    }

-- ---- the entry

pub shown_at : (read : Numbers) (block : BlockFiles) (cause : CheckRefusal) (series chunk : ℕ) (c : ChunkCause) (place : ChunkPlace) (number : ℕ) → cause ≡ BadChunk series chunk c → RefusesContent block cause
    → (bytes : List ℕ) → bytes ≡ block.index → IsPlaceOf bytes series chunk place → slice_get read.segments place.segment ≡ Some number → IsShownBy read block cause number
shown_at read block cause series chunk c place number is refuses bytes bytes_are places there =
    let bad : HasBadChunk block series chunk c = (subst (RefusesContent block) is refuses).0 in
    let same : place ≡ bad.first.bad.member =
    places bad.indexed bad.first.member bad.first.bad.member bad.at_series bad.at_chunk (subst (λ (b : List ℕ). IsIndex b bad.indexed) (sym bytes_are) bad.index_is) bad.series_is bad.chunk_is bad.first.stands bad.first.bad.stands in
    subst (λ (k : CheckRefusal). IsShownBy read block k number) (sym is) (bad, ap (λ (p : ChunkPlace). slice_get read.segments p.segment) (sym same) ∙ there)

pub refused_result : (r : Result ℕ OutOfMemory) (blocks : List BlockFiles) (numbers : List Numbers) (place at : ℕ) (cause : CheckRefusal) (block : BlockFiles) (read : Numbers) → place < 4294967295
    → place ≡ fitted at → (first : IsFirstRefused blocks at cause) → slice_get blocks place ≡ Some block → slice_get numbers place ≡ Some read → IfOk r (IsShownBy read block cause)
    → IfOk r (λ number. (inputs : List Input) → AllZip IsInput inputs blocks → numbers ≡ map numbers_of inputs → IsRefused inputs blocks number)
refused_result (Ok number) blocks numbers place at cause block read less is first stands told shown = refused_so blocks numbers place at number cause block read less is first stands told shown
refused_result (Err none) blocks numbers place at cause block read less is first stands told shown = tt

-- where a block is refused for a chunk, its index names this
pub names_chunk : (block : BlockFiles) (cause : CheckRefusal) (series chunk : ℕ) (c : ChunkCause) (bytes : List ℕ) → cause ≡ BadChunk series chunk c → RefusesContent block cause → bytes ≡ block.index → NamesChunk bytes series chunk
names_chunk block cause series chunk c bytes is refuses bytes_are =
    let bad : HasBadChunk block series chunk c = (subst (RefusesContent block) is refuses).0 in
    record {
      indexed = bad.indexed;
      index_is = subst (λ (b : List ℕ). IsIndex b bad.indexed) (sym bytes_are) bad.index_is;
      at_series = bad.at_series;
      at_chunk = bad.at_chunk;
      one = bad.first.member;
      place = bad.first.bad.member;
      stands = bad.first.stands;
      names = bad.first.bad.stands;
      series_is = bad.series_is;
      chunk_is = bad.chunk_is;
    }

module _ (bytes : List ℕ) (is_bytes : IsBytes bytes) where
  one_list : (read indexed : List IndexSeries) → IsIndex bytes read → IsIndex bytes indexed → read ≡ indexed
  one_list read indexed is other = ok_is {E = IndexRefusal} read indexed (sym (index_again bytes read is_bytes is) ∙ index_again bytes indexed is_bytes other)

  -- an index is read, unless memory runs out
  pub read_wants : (indexed : List IndexSeries) (e : CheckRefusal) → IsIndex bytes indexed → (e ≡ check.NoMemory) ⊎ (refused_as refused_index (index_at bytes) ≡ Err e) → e ≡ check.NoMemory
  read_wants indexed e is (inl none) = none
  read_wants indexed e is (inr h) = let both = sym (ap (refused_as refused_index) (index_again bytes indexed is_bytes is)) ∙ h in absurd cc

  pub series_there : (read : List IndexSeries) (series chunk : ℕ) → IsIndex bytes read → NamesChunk bytes series chunk → series < 4294967295 → slice_get read series ≡ None → ⊥
  series_there read series chunk is names small none =
      let same = ap (λ (l : List IndexSeries). slice_get l series) (one_list read names.indexed is names.index_is) ∙ ap (slice_get names.indexed) (stands_for_itself series names.at_series small names.series_is) in
      let both = sym none ∙ same ∙ names.stands in
      absurd cc

  pub chunk_there : (read : List IndexSeries) (one : IndexSeries) (series chunk : ℕ) → IsIndex bytes read → NamesChunk bytes series chunk → series < 4294967295 → chunk < 4294967295 → slice_get read series ≡ Some one → slice_get one.chunks chunk ≡ None → ⊥
  chunk_there read one series chunk is names small few stands none =
      let same = ap (λ (l : List IndexSeries). slice_get l series) (one_list read names.indexed is names.index_is) ∙ ap (slice_get names.indexed) (stands_for_itself series names.at_series small names.series_is) in
      let members : one ≡ names.one = some_is one names.one (sym stands ∙ same ∙ names.stands) in
      let both = sym none ∙ ap (λ (s : IndexSeries). slice_get s.chunks chunk) members ∙ ap (slice_get names.one.chunks) (stands_for_itself chunk names.at_chunk few names.chunk_is) ∙ names.names in
      absurd cc

  pub place_is : (read : List IndexSeries) (series chunk : ℕ) (one : IndexSeries) (place : ChunkPlace) → IsIndex bytes read → series < 4294967295 → chunk < 4294967295
      → slice_get read series ≡ Some one → slice_get one.chunks chunk ≡ Some place → IsPlaceOf bytes series chunk place
  place_is read series chunk one place is small few stands there indexed other found at_series at_chunk index_is series_is chunk_is so found_there =
      let lists : read ≡ indexed = one_list read indexed is index_is in
      let members : one ≡ other = some_is one other (sym stands ∙ ap (λ (l : List IndexSeries). slice_get l series) lists ∙ ap (slice_get indexed) (stands_for_itself series at_series small series_is) ∙ so) in
      some_is place found (sym there ∙ ap (λ (s : IndexSeries). slice_get s.chunks chunk) members ∙ ap (slice_get other.chunks) (stands_for_itself chunk at_chunk few chunk_is) ∙ found_there)

-- ---- what cannot be

-- the first block that is refused stands in the list
pub block_there : (blocks : List BlockFiles) (place at : ℕ) (cause : CheckRefusal) → place < 4294967295 → place ≡ fitted at → IsFirstRefused blocks at cause → slice_get blocks place ≡ None → ⊥
block_there blocks place at cause less is first none =
    let both = sym none ∙ ap (slice_get blocks) (stands_for_itself place at less is) ∙ first.stands in
    absurd cc

-- of each block that stands in the list there are the numbers of its entries
pub numbers_there : (blocks : List BlockFiles) (numbers : List Numbers) (k : ℕ) (block : BlockFiles) → AllZip AreNamed blocks numbers → slice_get blocks k ≡ Some block → slice_get numbers k ≡ None → ⊥
numbers_there [] numbers k block named there none = absurd cc
numbers_there (b ∷ blocks) [] k block named there none = absurd named
numbers_there (b ∷ blocks) (n ∷ numbers) zero block named there none = absurd cc
numbers_there (b ∷ blocks) (n ∷ numbers) (suc k) block named there none = numbers_there blocks numbers k block named.1 there none

pub named_at : (blocks : List BlockFiles) (numbers : List Numbers) (k : ℕ) (block : BlockFiles) (read : Numbers) → AllZip AreNamed blocks numbers → slice_get blocks k ≡ Some block → slice_get numbers k ≡ Some read → AreNamed block read
named_at [] numbers k block read named there told = absurd cc
named_at (b ∷ blocks) [] k block read named there told = absurd named
named_at (b ∷ blocks) (n ∷ numbers) zero block read named there told =
    let one : b ≡ block = some_is b block there in
    let its : n ≡ read = some_is n read told in
    subst (λ (x : BlockFiles). AreNamed x read) one (subst (AreNamed b) its named.0)
named_at (b ∷ blocks) (n ∷ numbers) (suc k) block read named there told = named_at blocks numbers k block read named.1 there told

-- a list has a member at a place below its length
member_there : {A : Type 0} (xs : List A) (k : ℕ) → k < length xs → slice_get xs k ≡ None → ⊥
member_there [] k low none = absurd (omega (arith, low))
member_there (x ∷ xs) zero low none = absurd cc
member_there (x ∷ xs) (suc k) low none = member_there xs k (omega (arith, low)) none

is_among : {A : Type 0} (xs : List A) (k : ℕ) (x : A) → slice_get xs k ≡ Some x → Contains xs x
is_among [] k x there = absurd cc
is_among (y ∷ ys) zero x there = subst (λ (z : _). Contains (z ∷ ys) x) (sym (some_is y x there)) (contains_first x ys)
is_among (y ∷ ys) (suc k) x there = contains_later y x ys (is_among ys k x there)

-- the segment of a chunk that the index names was read
pub segment_there : (block : BlockFiles) (read : Numbers) (series chunk : ℕ) (bytes : List ℕ) (place : ChunkPlace) → bytes ≡ block.index → IsBytes bytes → NamesChunk bytes series chunk → IsPlaceOf bytes series chunk place → AreNamed block read → slice_get read.segments place.segment ≡ None → ⊥
segment_there block read series chunk bytes place bytes_are is_bytes names places named none =
    let same : place ≡ names.place = places names.indexed names.one names.place names.at_series names.at_chunk names.index_is names.series_is names.chunk_is names.stands names.names in
    let told : named_by (Ok names.indexed) ≡ Some (length read.segments) = ap named_by (sym (index_again bytes names.indexed is_bytes names.index_is)) ∙ ap named_segments bytes_are ∙ named in
    let last : last_named names.indexed ≡ length read.segments = few_is (nat_le (last_named names.indexed) 999_999) (last_named names.indexed) (length read.segments) told in
    let low = chunk_named names.indexed names.one names.place (is_among names.indexed names.at_series names.one names.stands) (is_among names.one.chunks names.at_chunk names.place names.names) in
    member_there read.segments names.place.segment (omega (arith, low, last)) (ap (λ (p : ChunkPlace). slice_get read.segments p.segment) (sym same) ∙ none)
