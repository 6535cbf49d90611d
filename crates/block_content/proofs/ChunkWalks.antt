-- Walks over chunks and over series: what was read of the front, and the first refusal.
use Rattle.std.proofs.Common.{◌≡◌, ℕ, ◌+◌, ◌-◌, ◌*◌, ◌^◌, ◌<◌, ◌≤◌, min, List, [], ◌∷◌, ◌++◌, length, take, drop, get_or, sum_by, Result, Ok, Err, refl, sym, ap, ap₂, subst, ◌∙◌, arith, ◌⊎◌, inl, inr}
use Rattle.std.specs.Prelude.{IsErrAnd}
use Rattle.std.specs.List.{AllByRecursion}
use Rattle.std.proofs.lemmas.List.{take_all, take_more, drop_more, length-append, length-take-le, take-append-drop}
use Rattle.base.proofs.Lists.{sum_by-push, joined-push}
use Rattle.base.proofs.Pairs.{AllZip-push}
use Rattle.base.specs.Lists.{joined}
use Rattle.base.specs.Grammar.{IsBytes}
use Rattle.label_sets.specs.declared.label.Label.{Label}
use Rattle.label_sets.specs.declared.sample.Sample.{Sample}
use Rattle.label_sets.specs.declared.series.Series.{Series}
use Rattle.index_parts.specs.declared.chunk_place.ChunkPlace.{ChunkPlace}
use Rattle.block_meta.proofs.Blocks.{front_more}
use Rattle.index_parts.specs.declared.index_series.IndexSeries.{IndexSeries}
use Rattle.base.specs.Firsts.{each_at}
use Rattle.block_content.specs.ContentReading.{chunk_at, chunk_bytes, chunks_at, series_bytes, series_of, list_of, fitted, refused_cause, refused_chunk, AreFew, WalksSeries}
use Rattle.xor_chunks.specs.declared.refusal.XorRefusal.TheVariants as xor
use Rattle.block_content.specs.declared.chunk_cause.ChunkCause.{ChunkCause}
use Rattle.block_content.specs.declared.chunk_cause.ChunkCause.TheVariants.{Data}
use Rattle.block_content.specs.declared.check_refusal.CheckRefusal.TheVariants.{NoMemory}
use Rattle.block_content.specs.declared.check_refusal.CheckRefusal.{CheckRefusal}
use Rattle.base.proofs.FirstLaws.{each_push, each_stop, each_many}

-- ---- fronts of a list

pub front : {A : Type 0} (xs : List A) (i : ℕ) (x d : A) → i < length xs → x ≡ get_or xs i d → take (i + 1) xs ≡ take i xs ++ x ∷ []
front xs i x d lt at = take_more xs i d lt ∙ ap (λ y. take i xs ++ y ∷ []) (sym at)

pub behind : {A : Type 0} (xs : List A) (i : ℕ) (x d : A) → i < length xs → x ≡ get_or xs i d → xs ≡ take i xs ++ x ∷ drop (i + 1) xs
behind xs i x d lt at = sym (take-append-drop i xs) ∙ ap (λ ys. take i xs ++ ys) (drop_more xs i d lt ∙ ap (λ y. y ∷ drop (i + 1) xs) (sym at))

pub taken : {A : Type 0} (xs : List A) (i : ℕ) → i < length xs → length (take i xs) ≡ i
taken xs i lt = length-take-le i xs (omega arith)

-- a number that is counted on, up to the greatest
pub fitted_more : (place n more : ℕ) → n ≡ fitted place → more ≡ min (n + 1) (2 ^ 32 - 1) → more ≡ fitted (place + 1)
fitted_more place n more e e' = omega (arith, e, e')

-- ---- sums that are counted up to the greatest number

pub sum_more : {A : Type 0} (f : A → ℕ) (xs : List A) (i : ℕ) (x d : A) (sum more n : ℕ) → sum ≡ min (sum_by f (take i xs)) (2 ^ 64 - 1) → i < length xs → x ≡ get_or xs i d → more ≡ min (sum + n) (2 ^ 64 - 1) → min n (2 ^ 64 - 1) ≡ min (f x) (2 ^ 64 - 1) → more ≡ min (sum_by f (take (i + 1) xs)) (2 ^ 64 - 1)
sum_more f xs i x d sum more n far lt at added is = omega (arith, far, added, is, sum_by-push f (take i xs) x, ap (sum_by f) (front xs i x d lt at))

pub sum_end : {A : Type 0} (f : A → ℕ) (xs : List A) (i sum : ℕ) → sum ≡ min (sum_by f (take i xs)) (2 ^ 64 - 1) → length xs ≤ i → sum ≡ min (sum_by f xs) (2 ^ 64 - 1)
sum_end {A} f xs i sum far le = far ∙ ap (λ (ys : List A). min (sum_by f ys) (2 ^ 64 - 1)) (take_all i xs le)

-- ---- the bytes of segments

pub bytes_step : (segments : List (List ℕ)) (i : ℕ) (segment d lent : List ℕ) → AllByRecursion IsBytes (take i segments) → i < length segments → segment ≡ get_or segments i d → lent ≡ segment → IsBytes lent → AllByRecursion IsBytes (take (i + 1) segments)
bytes_step segments i segment d lent far lt at is are = front_more IsBytes segments i segment d far lt at (subst IsBytes is are)

-- ---- the chunks of a series

pub record ChunksSoFar (segments : List (List ℕ)) (chunks : List ChunkPlace) (i : ℕ) (samples : List Sample) (chunk : ℕ) : Type 0 where
  pub parts : List (List Sample)
  pub read : each_at (chunk_at segments) (take i chunks) ≡ Ok parts
  pub joined_are : samples ≡ joined parts
  pub few : length samples ≤ 8 * sum_by (chunk_bytes segments) (take i chunks)
  pub number : chunk ≡ fitted i

module _ (segments : List (List ℕ)) (chunks : List ChunkPlace) where
  pub chunks_start : (samples : List Sample) → samples ≡ [] → ChunksSoFar segments chunks 0 samples 0
  unfolding each_at
  chunks_start samples none = record { parts = []; read = refl; joined_are = none; few = omega (arith, ap length none); number = refl }

  pub chunks_step : (i : ℕ) (place d : ChunkPlace) (samples more part : List Sample) (chunk next : ℕ) → ChunksSoFar segments chunks i samples chunk → i < length chunks → place ≡ get_or chunks i d
      → chunk_at segments place ≡ Ok part → more ≡ samples ++ part → length part ≤ 8 * chunk_bytes segments place → next ≡ min (chunk + 1) (2 ^ 32 - 1) → ChunksSoFar segments chunks (i + 1) more next
  chunks_step i place d samples more part chunk next far lt at read pushed few counted =
      let up = front chunks i place d lt at in
      let sums = sum_by-push (chunk_bytes segments) (take i chunks) place in
      record {
        parts = far.parts ++ part ∷ [];
        read = ap (λ (xs : List ChunkPlace). each_at (chunk_at segments) xs) up ∙ each_push (chunk_at segments) (take i chunks) far.parts place part far.read read;
        joined_are = pushed ∙ ap (λ (t : List Sample). t ++ part) far.joined_are ∙ sym (joined-push far.parts part);
        few = let f = far.few in omega (arith, f, few, sums, ap (sum_by (chunk_bytes segments)) up, ap length pushed, length-append samples part);
        number = fitted_more i chunk next far.number counted;
      }

  chunks_stop : (i : ℕ) (place d : ChunkPlace) (samples : List Sample) (chunk series : ℕ) (cause : ChunkCause) (refusal : CheckRefusal) → ChunksSoFar segments chunks i samples chunk → i < length chunks → place ≡ get_or chunks i d
      → chunk_at segments place ≡ Err cause → refusal ≡ refused_cause series chunk cause → (r : ℕ × ChunkCause) × (each_at (chunk_at segments) chunks ≡ Err r) × (refusal ≡ refused_cause series (fitted r.0) r.1)
  chunks_stop i place d samples chunk series cause refusal far lt at refused is =
      let stopped = each_stop (chunk_at segments) (take i chunks) (drop (i + 1) chunks) far.parts place cause far.read refused in
      let whole : each_at (chunk_at segments) chunks ≡ Err (length (take i chunks), cause) = ap (λ (xs : List ChunkPlace). each_at (chunk_at segments) xs) (behind chunks i place d lt at) ∙ stopped in
      ((i, cause), whole ∙ ap (λ (n : ℕ). Err (n, cause)) (taken chunks i lt), is ∙ ap (λ (n : ℕ). refused_cause series n cause) far.number)

  pub chunks_stopped : (i : ℕ) (place d : ChunkPlace) (samples : List Sample) (chunk series : ℕ) (cause : ChunkCause) (refusal : CheckRefusal) → ChunksSoFar segments chunks i samples chunk → i < length chunks → place ≡ get_or chunks i d
      → (cause ≡ Data xor.NoMemory) ⊎ (chunk_at segments place ≡ Err cause) → refusal ≡ refused_cause series chunk cause → (refusal ≡ NoMemory) ⊎ ((r : ℕ × ChunkCause) × (each_at (chunk_at segments) chunks ≡ Err r) × (refusal ≡ refused_cause series (fitted r.0) r.1))
  chunks_stopped i place d samples chunk series cause refusal far lt at (inl none) is = inl (is ∙ ap (refused_cause series chunk) none)
  chunks_stopped i place d samples chunk series cause refusal far lt at (inr refused) is = inr (chunks_stop i place d samples chunk series cause refusal far lt at refused is)

-- ---- the series of an index

pub record SeriesSoFar (segments : List (List ℕ)) (indexed : List IndexSeries) (i : ℕ) (made : List Series) (number : ℕ) : Type 0 where
  pub parts : List (List (List Sample))
  pub read : each_at (chunks_at segments) (take i indexed) ≡ Ok parts
  pub made_are : made ≡ list_of (take i indexed) parts
  pub few : AreFew segments (take i indexed) made
  pub counted : number ≡ fitted i

pub list_of_more : (indexed : List IndexSeries) (parts : List (List (List Sample))) (one : IndexSeries) (first : List (List Sample)) → length indexed ≡ length parts → list_of (indexed ++ one ∷ []) (parts ++ first ∷ []) ≡ list_of indexed parts ++ series_of one first ∷ []
unfolding list_of
list_of_more [] [] one first many = refl
list_of_more [] (p ∷ parts) one first many = absurd (omega (arith, many))
list_of_more (x ∷ indexed) [] one first many = absurd (omega (arith, many))
list_of_more (x ∷ indexed) (p ∷ parts) one first many = ap (λ (t : List Series). series_of x p ∷ t) (list_of_more indexed parts one first (omega (arith, many)))

module _ (segments : List (List ℕ)) (indexed : List IndexSeries) where
  pub series_start : (made : List Series) → made ≡ [] → SeriesSoFar segments indexed 0 made 0
  unfolding each_at list_of
  series_start made none = rw none (record { parts = []; read = refl; made_are = refl; few = tt; counted = refl })

  pub series_step : (i number next : ℕ) (one d : IndexSeries) (made more : List Series) (series : Series) → SeriesSoFar segments indexed i made number → i < length indexed → one ≡ get_or indexed i d
      → ((first : List (List Sample)) × (each_at (chunk_at segments) one.chunks ≡ Ok first) × (series ≡ series_of one first)) → more ≡ made ++ series ∷ [] → length series.samples ≤ 8 * series_bytes segments one → next ≡ min (number + 1) (2 ^ 32 - 1) → SeriesSoFar segments indexed (i + 1) more next
  series_step i number next one d made more series far lt at (first, read, is) pushed few counted =
      let up = front indexed i one d lt at in
      let many = each_many (chunks_at segments) (take i indexed) far.parts far.read in
      rw pushed (record {
        parts = far.parts ++ first ∷ [];
        read = ap (λ (xs : List IndexSeries). each_at (chunks_at segments) xs) up ∙ each_push (chunks_at segments) (take i indexed) far.parts one first far.read read;
        made_are = ap (λ (t : List Series). t ++ series ∷ []) far.made_are ∙ ap (λ (s : Series). list_of (take i indexed) far.parts ++ s ∷ []) is ∙ sym (list_of_more (take i indexed) far.parts one first many) ∙ sym (ap (λ (xs : List IndexSeries). list_of xs (far.parts ++ first ∷ [])) up);
        few = subst (λ (xs : List IndexSeries). AreFew segments xs (made ++ series ∷ [])) (sym up) (AllZip-push (λ (one : IndexSeries) (made : Series). length made.samples ≤ 8 * series_bytes segments one) (take i indexed) made one series far.few few);
        counted = fitted_more i number next far.counted counted;
      })

  pub series_stopped : (i number : ℕ) (one d : IndexSeries) (made : List Series) (refusal : CheckRefusal) → SeriesSoFar segments indexed i made number → i < length indexed → one ≡ get_or indexed i d
      → (refusal ≡ NoMemory) ⊎ ((r : ℕ × ChunkCause) × (each_at (chunk_at segments) one.chunks ≡ Err r) × (refusal ≡ refused_cause number (fitted r.0) r.1)) → (refusal ≡ NoMemory) ⊎ ((r : ℕ × (ℕ × ChunkCause)) × (each_at (chunks_at segments) indexed ≡ Err r) × (refusal ≡ refused_chunk r))
  series_stopped i number one d made refusal far lt at (inl none) = inl none
  series_stopped i number one d made refusal far lt at (inr (r, refused, is)) =
      let stopped = each_stop (chunks_at segments) (take i indexed) (drop (i + 1) indexed) far.parts one r far.read refused in
      inr ((i, r), ap (λ (xs : List IndexSeries). each_at (chunks_at segments) xs) (behind indexed i one d lt at) ∙ stopped ∙ ap (λ (n : ℕ). Err (n, r)) (taken indexed i lt), is ∙ ap (λ (n : ℕ). refused_cause n (fitted r.0) r.1) far.counted)

  pub series_end : (i number : ℕ) (made : List Series) → SeriesSoFar segments indexed i made number → length indexed ≤ i → (parts : List (List (List Sample))) × (each_at (chunks_at segments) indexed ≡ Ok parts) × (made ≡ list_of indexed parts)
  series_end i number made far le =
      let all = take_all i indexed le in
      (far.parts, ap (λ (xs : List IndexSeries). each_at (chunks_at segments) xs) (sym all) ∙ far.read, far.made_are ∙ ap (λ (xs : List IndexSeries). list_of xs far.parts) all)

  pub series_few : (i number : ℕ) (made : List Series) → SeriesSoFar segments indexed i made number → length indexed ≤ i → AreFew segments indexed made
  series_few i number made far le = subst (λ (xs : List IndexSeries). AreFew segments xs made) (take_all i indexed le) far.few

-- ---- from one walk to another

-- why a walk over the chunks of a series stopped, and over all series
abbrev pub ChunksStopped : List (List ℕ) → ℕ → List ChunkPlace → CheckRefusal → Type 0
ChunksStopped segments series chunks e = (e ≡ NoMemory) ⊎ ((r : ℕ × ChunkCause) × (each_at (chunk_at segments) chunks ≡ Err r) × (e ≡ refused_cause series (fitted r.0) r.1))

abbrev pub SeriesStopped : List (List ℕ) → List IndexSeries → CheckRefusal → Type 0
SeriesStopped segments indexed e = (e ≡ NoMemory) ⊎ ((r : ℕ × (ℕ × ChunkCause)) × (each_at (chunks_at segments) indexed ≡ Err r) × (e ≡ refused_chunk r))

pub moved_stop : (segments : List (List ℕ)) (series : ℕ) (seen chunks : List ChunkPlace) (e : CheckRefusal) → seen ≡ chunks → ChunksStopped segments series seen e → ChunksStopped segments series chunks e
moved_stop segments series seen chunks e same stopped = subst (λ (xs : List ChunkPlace). ChunksStopped segments series xs e) same stopped

pub moved_read : (segments : List (List ℕ)) (seen chunks : List ChunkPlace) (Is : List (List Sample) → Type 0) → seen ≡ chunks → ((parts : List (List Sample)) × (each_at (chunk_at segments) seen ≡ Ok parts) × Is parts) → (parts : List (List Sample)) × (each_at (chunk_at segments) chunks ≡ Ok parts) × Is parts
moved_read segments seen chunks Is same read = subst (λ (xs : List ChunkPlace). (parts : List (List Sample)) × (each_at (chunk_at segments) xs ≡ Ok parts) × Is parts) same read

abbrev pub series_with : List Label → List Sample → Series
series_with labels samples = record { labels = labels; samples = samples }

-- a series of an index with the samples that were read
pub one_made : (segments : List (List ℕ)) (one : IndexSeries) (seen : List ChunkPlace) (labels lent : List Label) (samples items : List Sample) → seen ≡ one.chunks → labels ≡ lent → lent ≡ one.labels → samples ≡ items
    → ((parts : List (List Sample)) × (each_at (chunk_at segments) seen ≡ Ok parts) × (items ≡ joined parts)) → (parts : List (List Sample)) × (each_at (chunk_at segments) one.chunks ≡ Ok parts) × (series_with labels samples ≡ series_of one parts)
one_made segments one seen labels lent samples items same told lends are read =
    let p = moved_read segments seen one.chunks (λ parts. items ≡ joined parts) same read in
    (p.0, p.1, ap₂ series_with (told ∙ lends) (are ∙ p.2))

pub walk_stops : {X : Type 0} (segments : List (List ℕ)) (indexed : List IndexSeries) (Is : X → List (List (List Sample)) → Type 0) (result : Result X CheckRefusal) (e : CheckRefusal) → IsErrAnd result (λ d. d ≡ e) → SeriesStopped segments indexed e → WalksSeries segments indexed Is result
walk_stops segments indexed Is (Ok x) e is why = absurd is
walk_stops segments indexed Is (Err d) e is why = subst (λ (c : CheckRefusal). SeriesStopped segments indexed c) (sym is) why
