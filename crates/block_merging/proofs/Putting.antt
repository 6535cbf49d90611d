-- A chunk that is carried, and samples that are read of chunks.
use Rattle.std.proofs.Common.{◌≡◌, ℕ, ◌+◌, ◌<◌, List, [], ◌∷◌, ◌++◌, length, map, take, get_or, Result, Ok, Err, refl, sym, ap, subst, ◌∙◌, ◌⊎◌, inl, inr, arith, append-nil}
use Rattle.std.specs.Prelude.{OnOk}
use Rattle.base.proofs.Binds.{err_is}
use Rattle.std.specs.List.{AllByRecursion, AllZip}
use Rattle.base.specs.Ordered.{in_order}
use Rattle.std.proofs.lemmas.List.{map-append, take_more}
use Rattle.label_sets.specs.declared.label.Label.{Label}
use Rattle.label_sets.specs.declared.sample.Sample.{Sample}
use Rattle.xor_chunks.specs.Grammar.{IsText}
use Rattle.block_writing.specs.Put.{PlanFields, PutChunk, Put, IsStored, IsAfterChunks, with_chunk}
use Rattle.block_writing.proofs.Tested.{refused_at}
use Rattle.block_writing.proofs.PutLaws.{behind_last}
use Rattle.block_writing.specs.Built.{StandsFor}
use Rattle.block_merging.specs.declared.placed_chunk.PlacedChunk.{PlacedChunk}
use Rattle.block_merging.specs.Placed.{placed_chunk, stands_before}
use Rattle.block_merging.specs.Steps.{IsReadable, run_in, HasRun}
use Rattle.base.proofs.Pairs.{AllZip-append}
use Rattle.base.specs.Lists.{joined}
use Rattle.base.proofs.Lists.{joined-push}

pub alone_put : {U E : Type 0} (r : Result U E) (old new : Put) (labels : List Label) (chunk : PutChunk) → IsStored old.plan chunk
    → ((samples : List Sample) → IsText 8 chunk.content samples → OnOk r (new ≡ with_chunk old chunk (length samples))) → OnOk r (HasRun old labels (chunk ∷ []) new)
alone_put (Err e) old new labels chunk stored ok = tt
alone_put (Ok x) old new labels chunk stored ok =
    let is : new ≡ with_chunk old chunk (length stored.samples) = ok stored.samples stored.text_is in
    let flat : length (joined (stored.samples ∷ [])) ≡ length stored.samples = ap length (append-nil stored.samples) in
    record {
      made = chunk ∷ [];
      becomes = refl;
      parts = stored.samples ∷ [];
      read = (stored.text_is, tt);
      plan_is = ap (λ (p : Put). p.plan) is;
      series_are = ap (λ (p : Put). p.series) is;
      chunks_are = ap (λ (p : Put). p.chunks) is;
      samples_are = omega (arith, ap (λ (p : Put). p.samples) is, flat);
      behind = λ time all. subst (λ (l : List PutChunk). IsAfterChunks l time) (sym (ap (λ (p : Put). p.chunks) is)) (behind_last old.chunks chunk time all.0);
    }

-- ---- samples that are read

-- what is wanting where all else was there
pub wanting : {X E : Type 0} (refusal none : E) → ⊥ ⊎ (◌≡◌ {A = Result X E} (Err refusal) (Err none)) → refusal ≡ none
wanting refusal none (inl found) = absurd found
wanting {X} refusal none (inr same) = err_is {A = X} refusal none same

pub all_readable : (plan : PlanFields) (chunks : List PutChunk) → AllByRecursion (IsStored plan) chunks → AllByRecursion IsReadable chunks
all_readable plan [] all = tt
all_readable plan (c ∷ cs) all = ((all.0.samples, all.0.text_is), all_readable plan cs all.1)

of_placed : (chunks : List PlacedChunk) → AllByRecursion IsReadable (map placed_chunk chunks) → AllByRecursion (λ one. IsReadable (placed_chunk one)) chunks
of_placed [] all = tt
of_placed (c ∷ cs) all = (all.0, of_placed cs all.1)

pub readable_here : (run sorted : List PlacedChunk) (k : ℕ) (one d : PlacedChunk) → AllByRecursion IsReadable (run_in run) → sorted ≡ in_order stands_before run → k < length sorted → one ≡ get_or sorted k d → IsReadable (placed_chunk one)
readable_here run sorted k one d all is lt at = refused_at (λ (x : PlacedChunk). IsReadable (placed_chunk x)) sorted k one d lt at (of_placed sorted (subst (λ (l : List PlacedChunk). AllByRecursion IsReadable (map placed_chunk l)) (sym is) all))

pub record Read (chunks : List PlacedChunk) (samples : List Sample) : Type 0 where
  pub parts : List (List Sample)
  pub are : AllZip StandsFor (map placed_chunk chunks) parts
  pub whole : samples ≡ joined parts

pub none_read : Read [] []
none_read = record { parts = []; are = tt; whole = refl }

pub read_more : (chunks : List PlacedChunk) (k : ℕ) (d : PlacedChunk) (samples new : List Sample) → k < length chunks → Read (take k chunks) samples
    → ((read : List Sample) × IsText 8 (get_or chunks k d).chunk.bytes.now read × (new ≡ samples ++ read)) → Read (take (k + 1) chunks) new
read_more chunks k d samples new lt h (read, text, is) =
    let split : take (k + 1) chunks ≡ take k chunks ++ get_or chunks k d ∷ [] = take_more chunks k d lt in
    let mapped : map placed_chunk (take (k + 1) chunks) ≡ map placed_chunk (take k chunks) ++ placed_chunk (get_or chunks k d) ∷ [] = ap (map placed_chunk) split ∙ map-append placed_chunk (take k chunks) (get_or chunks k d ∷ []) in
    record {
      parts = h.parts ++ read ∷ [];
      are = subst (λ (l : List PutChunk). AllZip StandsFor l (h.parts ++ read ∷ [])) (sym mapped) (AllZip-append StandsFor (map placed_chunk (take k chunks)) (placed_chunk (get_or chunks k d) ∷ []) h.parts (read ∷ []) h.are (text, tt));
      whole = is ∙ ap (λ (l : List Sample). l ++ read) h.whole ∙ sym (joined-push h.parts read);
    }
