-- The index, the times of samples, and the order of chunks: what the functions give is what the relations say.
use Rattle.std.proofs.Common.{◌≡◌, ℕ, List, [], ◌∷◌, Bool, true, false, Option, None, Some, Ok, ℤ, refl, sym, ap, subst, ◌∙◌}
use Rattle.std.specs.Prelude.{option_map, if◌then◌else◌}
use Rattle.std.proofs.lemmas.Bool.{and_parts, true≢false, and_from, false_from_ne_true}
use Rattle.std.proofs.lemmas.Float.{T_from_true}
use Rattle.base.specs.Grammar.{IsBytes}
use Rattle.base.proofs.Binds.{bind_ok}
use Rattle.label_sets.proofs.TimesWithin.{within_found, within_again}
use Rattle.label_sets.specs.Times.{IsWithin, is_within}
use Rattle.index_parts.specs.Turns.{InOrderAfter}
use Rattle.index_parts.specs.declared.chunk_place.ChunkPlace.{ChunkPlace}
use Rattle.index_parts.specs.declared.index_series.IndexSeries.{IndexSeries}
use Rattle.index_parts.specs.IndexFile.{IsIndex}
use Rattle.index_v2.specs.Opening.{opened_at}
use Rattle.index_v2.proofs.OpeningLaws.{opened_found, opened_again}
use Rattle.index_v2.proofs.WholeRead.{whole_found, whole_again}
use Rattle.block_meta.specs.declared.meta.Meta.{Meta}
use Rattle.base.specs.Firsts.{IsFirstAt}
use Rattle.block_content.specs.Content.{BeginsAfter, IsApart, AreWithin}
use Rattle.block_content.specs.ContentReading.{outside_of, first_outside, begins_after, follow, repeated_in, index_at}
use Rattle.block_content.specs.ContentRefusals.{IsOutside}
use Rattle.base.proofs.FirstLaws.{Finds, all_good, all_pass, first_found, first_again}
use Rattle.base.proofs.Options.{option_map-Some}
use Rattle.base.proofs.Bools.{true-from_T}

-- ---- the index

pub index_found : (bytes : List ℕ) (list : List IndexSeries) → IsBytes bytes → index_at bytes ≡ Ok list → IsIndex bytes list
unfolding index_at
index_found bytes list are e =
    let opened = bind_ok _ _ _ e in
    let is = opened_found bytes opened.0 are opened.1 in
    subst (λ (b : List ℕ). IsIndex b list) is.0 (whole_found opened.0 (subst IsBytes (sym is.0) are) is.1 list opened.2)

pub index_again : (bytes : List ℕ) (list : List IndexSeries) → IsBytes bytes → IsIndex bytes list → index_at bytes ≡ Ok list
unfolding index_at
index_again bytes list are is =
    let opened = opened_again bytes is.opened is.bytes_are is.is_opened in
    let same : opened_at is.opened.bytes ≡ Ok is.opened = ap opened_at is.bytes_are ∙ opened in
    rw opened (whole_again is.opened list (subst IsBytes (sym is.bytes_are) are) same (subst (λ (b : List ℕ). IsIndex b list) (sym is.bytes_are) is))

-- ---- samples within the block's times

-- a test that finds something where it does not hold
chosen_none : {X : Type 0} (b : Bool) (x : X) → (if b then None else Some x) ≡ None → b ≡ true
chosen_none true x e = refl
chosen_none false x e = absurd cc

chosen_some : {X : Type 0} (b : Bool) (x y : X) → (if b then None else Some x) ≡ Some y → (b ≡ false) × (x ≡ y)
chosen_some true x y e = absurd cc
chosen_some false x y e = (refl, cc)

sample_finds : (meta : Meta) → Finds (outside_of meta) (IsWithin meta.min_time meta.max_time) (λ sample time. IsOutside meta time sample)
sample_finds meta = record {
  none = λ sample e. within_found meta.min_time meta.max_time sample (chosen_none _ _ e);
  passes = λ sample is. rw (within_again meta.min_time meta.max_time sample is) refl;
  some = λ sample time e. let c = chosen_some _ _ _ e in record { outside = λ is. true≢false (sym (within_again meta.min_time meta.max_time sample is) ∙ c.0); at = sym c.1 };
  finds = λ sample time is. rw (false_from_ne_true (is_within meta.min_time meta.max_time sample) (λ e. is.outside (within_found meta.min_time meta.max_time sample e))) (ap (λ (t : ℤ). Some t) (sym is.at));
}

mapped_none : {X Y : Type 0} (f : X → Y) (o : Option X) → option_map f o ≡ None → o ≡ None
mapped_none f None e = refl
mapped_none f (Some x) e = absurd cc

pub times_find : (meta : Meta) → Finds (first_outside meta) (AreWithin meta) (λ series time. (place : ℕ) × IsFirstAt (IsWithin meta.min_time meta.max_time) (IsOutside meta time) series.samples place)
times_find meta = record {
  none = λ series e. all_good _ _ _ (sample_finds meta) series.samples (mapped_none _ _ e);
  passes = λ series all. rw (all_pass _ _ _ (sample_finds meta) series.samples all) refl;
  some = λ series time e. let r = option_map-Some _ _ _ e in (r.0.0, subst (λ (t : ℤ). IsFirstAt (IsWithin meta.min_time meta.max_time) (IsOutside meta t) series.samples r.0.0) r.2 (first_found _ _ _ (sample_finds meta) series.samples r.0 r.1));
  finds = λ series time is. rw (first_again _ _ _ (sample_finds meta) series.samples is.0 time is.1) refl;
}

-- ---- chunks that follow one another

begins_found : (before : Option ChunkPlace) (chunk : ChunkPlace) → begins_after before chunk ≡ true → BeginsAfter before chunk
begins_found None chunk e = tt
begins_found (Some before) chunk e = record { lt = T_from_true _ e }

begins_again : (before : Option ChunkPlace) (chunk : ChunkPlace) → BeginsAfter before chunk → begins_after before chunk ≡ true
begins_again None chunk is = refl
begins_again (Some before) chunk is = true-from_T _ is.lt

pub follow_found : (before : Option ChunkPlace) (chunks : List ChunkPlace) → follow before chunks ≡ true → InOrderAfter BeginsAfter before chunks
unfolding follow
follow_found before [] e = tt
follow_found before (chunk ∷ chunks) e = let p = and_parts _ _ e in (begins_found before chunk p.0, follow_found (Some chunk) chunks p.1)

pub follow_again : (before : Option ChunkPlace) (chunks : List ChunkPlace) → InOrderAfter BeginsAfter before chunks → follow before chunks ≡ true
unfolding follow
follow_again before [] up = refl
follow_again before (chunk ∷ chunks) up = and_from _ _ (begins_again before chunk up.0) (follow_again (Some chunk) chunks up.1)

pub order_finds : Finds repeated_in IsApart (λ one (u : Unit {0}). IsApart one → ⊥)
order_finds = record {
  none = λ one e. follow_found None one.chunks (chosen_none _ _ e);
  passes = λ one up. rw (follow_again None one.chunks up) refl;
  some = λ one u e. let c = chosen_some _ _ _ e in λ up. true≢false (sym (follow_again None one.chunks up) ∙ c.0);
  finds = λ one u never. rw (false_from_ne_true (follow None one.chunks) (λ e. never (follow_found None one.chunks e))) refl;
}
