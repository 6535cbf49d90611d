-- One chunk that is read behind others.
use Rattle.std.proofs.Common.{◌≡◌, ◌↔◌, ℕ, Bool, true, false, List, [], ◌++◌, length, drop, Option, Some, None, Result, Ok, Err, refl, sym, ap, subst, ◌∙◌, ◌⊎◌, inl, inr}
use Rattle.std.specs.Prelude.{IsErr}
use Rattle.std.specs.List.{list_all}
use Rattle.label_sets.specs.declared.sample.Sample.{Sample}
use Rattle.index_parts.specs.declared.chunk_place.ChunkPlace.{ChunkPlace}
use Rattle.xor_chunks.specs.declared.refusal.XorRefusal.{XorRefusal}
use Rattle.xor_chunks.specs.declared.refusal.XorRefusal.TheVariants as xor
use Rattle.xor_chunks.specs.Data.{data_at, with_samples}
use Rattle.chunk_files.specs.ChunkReading.{chunk_at}
use Rattle.block_content.proofs.Appending.{parts_of_whole, part_behind, refused_alone}
use Rattle.store_ranges.specs.Reads.{Block}
use Rattle.store_chunks.specs.ChunkReads.{is_chunk_of, stored_at, tested_at}
use Rattle.store_ranges.specs.Findings.{ReadsBehind}
use Rattle.store_chunks.proofs.OneChunk.{no_data, stored}
use Rattle.store_ranges.proofs.Readings.{err_of}
use Rattle.base.proofs.Bools.{not_both}

-- ---- its data

pub data_behind : (front all : List Sample) (bytes content : List ℕ) → chunk_at bytes ≡ Ok content → with_samples front (data_at 8 content) ≡ Ok all
    → (more : List Sample) × (stored_at bytes ≡ Ok more) × (all ≡ front ++ more)
data_behind front all bytes content is so =
    let p = parts_of_whole front all (data_at 8 content) so in (p.0, stored bytes content p.0 is p.1, p.2)

pub data_stops : (front : List Sample) (bytes content : List ℕ) (e : XorRefusal) (wants : Bool) → chunk_at bytes ≡ Ok content → (wants ≡ true) ↔ (e ≡ xor.NoMemory) → wants ≡ false
    → (e ≡ xor.NoMemory) ⊎ (with_samples front (data_at 8 content) ≡ Err e) → IsErr (stored_at bytes)
data_stops front bytes content e wants is told not_so (inl none) = absurd (not_both wants (told.1 none) not_so)
data_stops front bytes content e wants is told not_so (inr so) = no_data bytes content e is (refused_alone front (data_at 8 content) e so)

-- ---- its places

module _ (block : Block) (places : List ChunkPlace) (bytes : List ℕ) where
  tested : (samples : List Sample) → stored_at bytes ≡ Ok samples → list_all (is_chunk_of block samples) places ≡ true → tested_at block places bytes ≡ Ok samples
  unfolding tested_at
  tested samples is are = rw (is, are) refl

  failed : (samples : List Sample) → stored_at bytes ≡ Ok samples → list_all (is_chunk_of block samples) places ≡ false → IsErr (tested_at block places bytes)
  unfolding tested_at
  failed samples is are = rw (is, are) refl

  stopped : {e : Unit {0}} → stored_at bytes ≡ Err e → IsErr (tested_at block places bytes)
  unfolding tested_at
  stopped is = rw is refl

  pub chunk_stops : IsErr (stored_at bytes) → IsErr (tested_at block places bytes)
  chunk_stops refused = stopped (err_of (stored_at bytes) refused).1

  -- the samples behind as many are those that were read
  module _ (front all seen : List Sample) (before : ℕ) (read : (more : List Sample) × (stored_at bytes ≡ Ok more) × (all ≡ front ++ more)) (count : before ≡ length front) (cut : seen ≡ drop before all) where
    same_part : seen ≡ read.0
    same_part = part_behind front read.0 all seen before read.2 count cut

    pub chunk_behind : list_all (is_chunk_of block seen) places ≡ true → (more : List Sample) × (tested_at block places bytes ≡ Ok more) × (all ≡ front ++ more)
    chunk_behind are = (read.0, tested read.0 read.1 (ap (λ (l : List Sample). list_all (is_chunk_of block l) places) (sym same_part) ∙ are), read.2)

    pub chunk_fails : list_all (is_chunk_of block seen) places ≡ false → IsErr (tested_at block places bytes)
    chunk_fails are = failed read.0 read.1 (ap (λ (l : List Sample). list_all (is_chunk_of block l) places) (sym same_part) ∙ are)

-- ---- what was found, by cases

-- what was read behind others, and where nothing was
pub some_behind : {X A R : Type 0} (view : X → List A) (front : List A) (read : Result (List A) R) (found : Option X) (x : X) → found ≡ Some x → ReadsBehind view front read found
    → (more : List A) × (read ≡ Ok more) × (view x ≡ front ++ more)
some_behind view front read found x is reads = subst (ReadsBehind view front read) is reads

pub none_behind : {X A R : Type 0} (view : X → List A) (front : List A) (read : Result (List A) R) (found : Option X) → found ≡ None → ReadsBehind view front read found → IsErr read
none_behind view front read found is reads = subst (ReadsBehind view front read) is reads

-- behind nothing
pub alone_as : {X A R : Type 0} (view : X → List A) (front : List A) (read : Result (List A) R) (x : X) (kept : List A) → front ≡ [] → kept ≡ view x
    → ((more : List A) × (read ≡ Ok more) × (view x ≡ front ++ more)) → read ≡ Ok kept
alone_as {X} {A} view front read x kept none same (more, is, are) =
    is ∙ ap (λ (l : List A). Ok l) (sym (same ∙ are ∙ ap (λ (l : List A). l ++ more) none))
