-- Counting what a block holds: chunk by chunk, and series by series.
use Rattle.std.proofs.Common.{◌≡◌, ℕ, suc, ◌+◌, ◌-◌, ◌^◌, ◌<◌, ◌≤◌, min, List, [], ◌∷◌, ◌++◌, length, take, drop, get_or, sum_by, Option, None, Some, Ok, Err, ℤ, refl, sym, ap, subst, ◌∙◌, arith, ◌⊎◌, inl, inr}
use Rattle.std.specs.Prelude.{option_map}
use Rattle.std.proofs.lemmas.List.{take_all, length-append}
use Rattle.base.specs.Lists.{joined}
use Rattle.base.proofs.Lists.{sum_by-push, joined-push}
use Rattle.label_sets.specs.declared.sample.Sample.{Sample}
use Rattle.label_sets.specs.declared.series.Series.{Series}
use Rattle.label_sets.specs.Counts.{sample_count}
use Rattle.index_parts.specs.declared.chunk_place.ChunkPlace.{ChunkPlace}
use Rattle.index_parts.specs.declared.index_series.IndexSeries.{IndexSeries}
use Rattle.block_meta.specs.declared.meta.Meta.{Meta}
use Rattle.base.specs.Firsts.{each_at, first_at, or_else}
use Rattle.block_content.specs.ContentReading.{chunk_at, chunk_bytes, chunks_at, series_bytes, series_of, list_of, outside_of, first_time, first_outside, fitted, refused_cause, refused_chunk}
use Rattle.block_content.specs.CheckReading.{IsFirstFound}
use Rattle.xor_chunks.specs.declared.refusal.XorRefusal.TheVariants as xor
use Rattle.block_content.specs.declared.chunk_cause.ChunkCause.{ChunkCause}
use Rattle.block_content.specs.declared.chunk_cause.ChunkCause.TheVariants.{Data}
use Rattle.block_content.specs.declared.check_refusal.CheckRefusal.{CheckRefusal}
use Rattle.block_content.specs.declared.check_refusal.CheckRefusal.TheVariants.{NoMemory}
use Rattle.base.proofs.FirstLaws.{each_push, each_stop, each_many, joins, none_push, some_behind}
use Rattle.block_content.proofs.ChunkWalks.{front, behind, taken, sum_more, sum_end, fitted_more, list_of_more}

-- ---- times

mapped_joins : (one : Option ℤ) (others : Option (ℕ × ℤ)) → option_map (λ (r : ℕ × ℤ). r.1) (joins one others) ≡ or_else one (option_map (λ (r : ℕ × ℤ). r.1) others)
mapped_joins None None = refl
mapped_joins None (Some r) = refl
mapped_joins (Some t) others = refl

or_else_again : {X : Type 0} (a b c : Option X) → or_else a (or_else b c) ≡ or_else (or_else a b) c
or_else_again None b c = refl
or_else_again (Some x) b c = refl

pub time_cons : (meta : Meta) (x : Sample) (xs : List Sample) → first_time meta (x ∷ xs) ≡ or_else (outside_of meta x) (first_time meta xs)
unfolding first_at
time_cons meta x xs = mapped_joins (outside_of meta x) (first_at (outside_of meta) xs)

pub no_time : (meta : Meta) → first_time meta [] ≡ None
unfolding first_at
no_time meta = refl

time_append : (meta : Meta) (xs ys : List Sample) → first_time meta (xs ++ ys) ≡ or_else (first_time meta xs) (first_time meta ys)
time_append meta [] ys = rw (no_time meta) refl
time_append meta (x ∷ xs) ys =
    time_cons meta x (xs ++ ys) ∙ ap (or_else (outside_of meta x)) (time_append meta xs ys) ∙ or_else_again (outside_of meta x) (first_time meta xs) (first_time meta ys)
    ∙ ap (λ (o : Option ℤ). or_else o (first_time meta ys)) (sym (time_cons meta x xs))

-- ---- the chunks of a series

pub record CountedSoFar (meta : Meta) (segments : List (List ℕ)) (chunks : List ChunkPlace) (i bytes samples : ℕ) (outside : Option ℤ) (chunk : ℕ) : Type 0 where
  pub parts : List (List Sample)
  pub read : each_at (chunk_at segments) (take i chunks) ≡ Ok parts
  pub count : samples ≡ min (length (joined parts)) (2 ^ 64 - 1)
  pub time : outside ≡ first_time meta (joined parts)
  pub sum : bytes ≡ min (sum_by (chunk_bytes segments) (take i chunks)) (2 ^ 64 - 1)
  pub number : chunk ≡ fitted i

module _ (meta : Meta) (segments : List (List ℕ)) (chunks : List ChunkPlace) where
  pub counted_start : CountedSoFar meta segments chunks 0 0 0 None 0
  unfolding each_at
  counted_start = record { parts = []; read = refl; count = refl; time = sym (no_time meta); sum = refl; number = refl }

  pub counted_step : (i bytes longer long samples more chunk next size : ℕ) (place d : ChunkPlace) (outside later : Option ℤ) (part : List Sample) → CountedSoFar meta segments chunks i bytes samples outside chunk → i < length chunks → place ≡ get_or chunks i d
      → chunk_at segments place ≡ Ok part → more ≡ min (samples + size) (2 ^ 64 - 1) → size ≡ length part → later ≡ or_else outside (first_time meta part) → longer ≡ min (bytes + long) (2 ^ 64 - 1) → long ≡ chunk_bytes segments place → next ≡ min (chunk + 1) (2 ^ 32 - 1) → CountedSoFar meta segments chunks (i + 1) longer more later next
  counted_step i bytes longer long samples more chunk next size place d outside later part far lt at read added size_is found lengthened long_is counted =
      let up = front chunks i place d lt at in
      let more_are = joined-push far.parts part in
      record {
        parts = far.parts ++ part ∷ [];
        read = ap (λ (xs : List ChunkPlace). each_at (chunk_at segments) xs) up ∙ each_push (chunk_at segments) (take i chunks) far.parts place part far.read read;
        count = let c = far.count in omega (arith, c, added, size_is, ap length more_are, length-append (joined far.parts) part);
        time = found ∙ ap (λ (o : Option ℤ). or_else o (first_time meta part)) far.time ∙ sym (time_append meta (joined far.parts) part) ∙ ap (first_time meta) (sym more_are);
        sum = sum_more (chunk_bytes segments) chunks i place d bytes longer long far.sum lt at lengthened (ap (λ (n : ℕ). min n (2 ^ 64 - 1)) long_is);
        number = fitted_more i chunk next far.number counted;
      }

  pub counted_sum : (i bytes samples chunk : ℕ) (outside : Option ℤ) → CountedSoFar meta segments chunks i bytes samples outside chunk → length chunks ≤ i → bytes ≡ min (sum_by (chunk_bytes segments) chunks) (2 ^ 64 - 1)
  counted_sum i bytes samples chunk outside far le = sum_end (chunk_bytes segments) chunks i bytes far.sum le

  pub counted_stop : (i bytes samples chunk series : ℕ) (place d : ChunkPlace) (outside : Option ℤ) (cause : ChunkCause) (refusal : CheckRefusal) → CountedSoFar meta segments chunks i bytes samples outside chunk → i < length chunks → place ≡ get_or chunks i d
      → chunk_at segments place ≡ Err cause → refusal ≡ refused_cause series chunk cause → (r : ℕ × ChunkCause) × (each_at (chunk_at segments) chunks ≡ Err r) × (refusal ≡ refused_cause series (fitted r.0) r.1)
  counted_stop i bytes samples chunk series place d outside cause refusal far lt at refused is =
      let stopped = each_stop (chunk_at segments) (take i chunks) (drop (i + 1) chunks) far.parts place cause far.read refused in
      let whole : each_at (chunk_at segments) chunks ≡ Err (length (take i chunks), cause) = ap (λ (xs : List ChunkPlace). each_at (chunk_at segments) xs) (behind chunks i place d lt at) ∙ stopped in
      ((i, cause), whole ∙ ap (λ (n : ℕ). Err (n, cause)) (taken chunks i lt), is ∙ ap (λ (n : ℕ). refused_cause series n cause) far.number)

  pub counted_stopped : (i bytes samples chunk series : ℕ) (place d : ChunkPlace) (outside : Option ℤ) (cause : ChunkCause) (refusal : CheckRefusal) → CountedSoFar meta segments chunks i bytes samples outside chunk → i < length chunks → place ≡ get_or chunks i d
      → (cause ≡ Data xor.NoMemory) ⊎ (chunk_at segments place ≡ Err cause) → refusal ≡ refused_cause series chunk cause → (refusal ≡ NoMemory) ⊎ ((r : ℕ × ChunkCause) × (each_at (chunk_at segments) chunks ≡ Err r) × (refusal ≡ refused_cause series (fitted r.0) r.1))
  counted_stopped i bytes samples chunk series place d outside cause refusal far lt at (inl none) is = inl (is ∙ ap (refused_cause series chunk) none)
  counted_stopped i bytes samples chunk series place d outside cause refusal far lt at (inr refused) is = inr (counted_stop i bytes samples chunk series place d outside cause refusal far lt at refused is)

-- ---- the series of the block

kept_by : {X : Type 0} (one : Option X) (others all : Option (ℕ × X)) (r : ℕ × X) → ((s : ℕ × X) → others ≡ Some s → all ≡ Some s) → joins one others ≡ Some r → joins one all ≡ Some r
kept_by None None all r kept e = absurd cc
kept_by None (Some s) all r kept e = rw (kept s refl) e
kept_by (Some x) others all r kept e = e

module _ {A X : Type 0} (found : A → Option X) where
  first_kept : (xs zs : List A) (r : ℕ × X) → first_at found xs ≡ Some r → first_at found (xs ++ zs) ≡ Some r
  unfolding first_at
  first_kept [] zs r e = absurd cc
  first_kept (x ∷ xs) zs r e = kept_by (found x) (first_at found xs) (first_at found (xs ++ zs)) r (λ s f. first_kept xs zs s f) e

found_more : (f : Series → Option ℤ) (xs : List Series) (x : Series) (one : Option ℤ) (outside later : Option (ℕ × ℤ)) (series : ℕ) → IsFirstFound (first_at f xs) outside → series ≡ fitted (length xs) → f x ≡ one
    → later ≡ or_else outside (option_map (λ (t : ℤ). (series, t)) one) → IsFirstFound (first_at f (xs ++ x ∷ [])) later
found_more f xs x one (Some told) later series (place, is, number) at here e = rw e (place, first_kept f xs (x ∷ []) (place, told.1) is, number)
found_more f xs x None None later series none at here e = rw e (none_push f xs x none here)
found_more f xs x (Some t) None later series none at here e = rw e (length xs, some_behind f xs [] x t none here, at)

pub length-list_of : (indexed : List IndexSeries) (parts : List (List (List Sample))) → length indexed ≡ length parts → length (list_of indexed parts) ≡ length indexed
unfolding list_of
length-list_of [] parts many = refl
length-list_of (x ∷ indexed) [] many = absurd (omega (arith, many))
length-list_of (x ∷ indexed) (p ∷ parts) many = ap suc (length-list_of indexed parts (omega (arith, many)))

pub record AllSoFar (meta : Meta) (segments : List (List ℕ)) (indexed : List IndexSeries) (i bytes samples : ℕ) (outside : Option (ℕ × ℤ)) (series : ℕ) : Type 0 where
  pub parts : List (List (List Sample))
  pub read : each_at (chunks_at segments) (take i indexed) ≡ Ok parts
  pub count : samples ≡ min (sum_by (λ (s : Series). length s.samples) (list_of (take i indexed) parts)) (2 ^ 64 - 1)
  pub found : IsFirstFound (first_at (first_outside meta) (list_of (take i indexed) parts)) outside
  pub sum : bytes ≡ min (sum_by (series_bytes segments) (take i indexed)) (2 ^ 64 - 1)
  pub number : series ≡ fitted i

module _ (meta : Meta) (segments : List (List ℕ)) (indexed : List IndexSeries) where
  pub all_start : AllSoFar meta segments indexed 0 0 0 None 0
  unfolding each_at list_of first_at
  all_start = record { parts = []; read = refl; count = refl; found = refl; sum = refl; number = refl }

  pub all_step : (i bytes longer long samples more series next size : ℕ) (one d : IndexSeries) (outside later : Option (ℕ × ℤ)) (time : Option ℤ) → AllSoFar meta segments indexed i bytes samples outside series → i < length indexed → one ≡ get_or indexed i d
      → ((first : List (List Sample)) × (each_at (chunk_at segments) one.chunks ≡ Ok first) × ((size ≡ min (length (joined first)) (2 ^ 64 - 1)) × (time ≡ first_time meta (joined first))))
      → more ≡ min (samples + size) (2 ^ 64 - 1) → later ≡ or_else outside (option_map (λ (t : ℤ). (series, t)) time) → longer ≡ min (bytes + long) (2 ^ 64 - 1) → long ≡ min (series_bytes segments one) (2 ^ 64 - 1) → next ≡ min (series + 1) (2 ^ 32 - 1) → AllSoFar meta segments indexed (i + 1) longer more later next
  all_step i bytes longer long samples more series next size one d outside later time far lt at (first, read, (size_is, time_is)) added found lengthened long_is counted =
      let up = front indexed i one d lt at in
      let many = each_many (chunks_at segments) (take i indexed) far.parts far.read in
      let list_is : list_of (take (i + 1) indexed) (far.parts ++ first ∷ []) ≡ list_of (take i indexed) far.parts ++ series_of one first ∷ [] =
      ap (λ (xs : List IndexSeries). list_of xs (far.parts ++ first ∷ [])) up ∙ list_of_more (take i indexed) far.parts one first many in
      let place : length (list_of (take i indexed) far.parts) ≡ i = length-list_of (take i indexed) far.parts many ∙ taken indexed i lt in
      record {
        parts = far.parts ++ first ∷ [];
        read = ap (λ (xs : List IndexSeries). each_at (chunks_at segments) xs) up ∙ each_push (chunks_at segments) (take i indexed) far.parts one first far.read read;
        count = let c = far.count in omega (arith, c, added, size_is, ap (sum_by (λ (s : Series). length s.samples)) list_is, sum_by-push (λ (s : Series). length s.samples) (list_of (take i indexed) far.parts) (series_of one first));
        found = subst (λ (xs : List Series). IsFirstFound (first_at (first_outside meta) xs) later) (sym list_is)
            (found_more (first_outside meta) (list_of (take i indexed) far.parts) (series_of one first) time outside later series far.found (far.number ∙ ap fitted (sym place)) (sym time_is) found);
        sum = sum_more (series_bytes segments) indexed i one d bytes longer long far.sum lt at lengthened (omega (arith, long_is));
        number = fitted_more i series next far.number counted;
      }

  pub all_stop : (i bytes samples series : ℕ) (one d : IndexSeries) (outside : Option (ℕ × ℤ)) (refusal : CheckRefusal) → AllSoFar meta segments indexed i bytes samples outside series → i < length indexed → one ≡ get_or indexed i d
      → (refusal ≡ NoMemory) ⊎ ((r : ℕ × ChunkCause) × (each_at (chunk_at segments) one.chunks ≡ Err r) × (refusal ≡ refused_cause series (fitted r.0) r.1))
      → (refusal ≡ NoMemory) ⊎ ((r : ℕ × (ℕ × ChunkCause)) × (each_at (chunks_at segments) indexed ≡ Err r) × (refusal ≡ refused_chunk r))
  all_stop i bytes samples series one d outside refusal far lt at (inl none) = inl none
  all_stop i bytes samples series one d outside refusal far lt at (inr (r, refused, is)) =
      let stopped = each_stop (chunks_at segments) (take i indexed) (drop (i + 1) indexed) far.parts one r far.read refused in
      inr ((i, r), ap (λ (xs : List IndexSeries). each_at (chunks_at segments) xs) (behind indexed i one d lt at) ∙ stopped ∙ ap (λ (n : ℕ). Err (n, r)) (taken indexed i lt), is ∙ ap (λ (n : ℕ). refused_cause n (fitted r.0) r.1) far.number)

  pub all_end : (i bytes samples series : ℕ) (outside : Option (ℕ × ℤ)) → AllSoFar meta segments indexed i bytes samples outside series → length indexed ≤ i
      → (parts : List (List (List Sample))) × (each_at (chunks_at segments) indexed ≡ Ok parts) × ((samples ≡ sample_count (list_of indexed parts)) × IsFirstFound (first_at (first_outside meta) (list_of indexed parts)) outside)
  unfolding sample_count
  all_end i bytes samples series outside far le =
      let all = take_all i indexed le in (
        far.parts,
        ap (λ (xs : List IndexSeries). each_at (chunks_at segments) xs) (sym all) ∙ far.read,
        (
          far.count ∙ ap (λ (xs : List IndexSeries). min (sum_by (λ (s : Series). length s.samples) (list_of xs far.parts)) (2 ^ 64 - 1)) all,
          subst (λ (xs : List IndexSeries). IsFirstFound (first_at (first_outside meta) (list_of xs far.parts)) outside) all far.found,
        ),
      )

  pub all_sum : (i bytes samples series : ℕ) (outside : Option (ℕ × ℤ)) → AllSoFar meta segments indexed i bytes samples outside series → length indexed ≤ i → bytes ≡ min (sum_by (series_bytes segments) indexed) (2 ^ 64 - 1)
  all_sum i bytes samples series outside far le = sum_end (series_bytes segments) indexed i bytes far.sum le
