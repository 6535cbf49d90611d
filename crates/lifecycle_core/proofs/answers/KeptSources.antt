-- Which sources an answer names: those of the blocks of the view, each of which is an upload that was complete before.
use Rattle.base.proofs.Membership.{all_members, into_flat_map, of_flat_map}
use Rattle.std.proofs.Common.{◌≡◌, ℕ, List, Contains, Option, Some, None, refl, subst, arith}
use Rattle.std.specs.List.{All}
use Rattle.std.specs.Prelude.{option_map}
use Rattle.std.proofs.lemmas.List.Elements.{All-contains, All-from_recursion}
use Rattle.label_sets.specs.declared.series.Series.{Series}
use Rattle.block_meta.specs.MetaFields.{fields_of}
use Rattle.store_ranges.specs.ChunkRanges.{IsSetOf}
use Rattle.store_ranges.specs.Reads.{Query as Question, damaged, fault, missing}
use Rattle.store_calls.specs.SeriesCalls.{CallEnd, Called, Gives, SeriesRun, broke, sources_of, took}
use Rattle.store_calls.specs.declared.series_call.SeriesEnd.{SeriesEnd}
use Rattle.store_calls.specs.declared.series_call.SeriesEnd.TheVariants as called
use Rattle.sync_filters.specs.declared.found.Found.{Found}
use Rattle.world_core.specs.Standing.{IsHonest}
use Rattle.world_core.specs.declared.entry.Entry.{Entry}
use Rattle.script_core.specs.Lawful.{IsLawfulScript}
use Rattle.lifecycle_core.specs.Completed.{IsUploadedBefore}
use Rattle.lifecycle_core.specs.Holdings.{Use}
use Rattle.lifecycle_core.specs.PutBlocks.{LiesWithin}
use Rattle.lifecycle_core.specs.Setting.{Setting}
use Rattle.lifecycle_core.specs.SyncsAndCalls.{IsCallIn}
use Rattle.lifecycle_core.proofs.blocks.Known.{complete_is_known}
use Rattle.lifecycle_core.proofs.deeds.Words.{AreDeeds}
use Rattle.lifecycle_core.proofs.views.Seen.{IsCompleteFound}

-- ---- a call's answer

given_sources : (sources : List ℕ) (told : Called) (call : CallEnd) (series : List Series) (set : List ℕ) → Gives sources told call → call.end ≡ called.Answer series set → IsSetOf sources set
given_sources sources (took taken cache) call series set ((one, own, is, merge, of), left) same = let here : own ≡ set = cc (is, same) in subst (IsSetOf sources) here of
given_sources sources (broke (missing number) cache) call series set (is, left) same = absurd (cc (is, same))
given_sources sources (broke (damaged number) cache) call series set (is, left) same = absurd (cc (is, same))
given_sources sources (broke (fault number) cache) call series set (is, left) same = absurd (cc (is, same))

-- the end of a call that came to one
pub own_end : (own : Option CallEnd) (end : SeriesEnd) → Some end ≡ option_map (λ (call : CallEnd). call.end) own → (call : CallEnd) × (own ≡ Some call) × (call.end ≡ end)
own_end None end is = absurd (cc (is))
own_end (Some call) end is = (call, refl, cc (is))

pub call_sources : (journal entries : List Entry) (used : Use) (query : Question) (series : List Series) (sources : List ℕ) → IsCallIn journal used query entries (Some (called.Answer series sources)) → IsSetOf (sources_of used.view.kept) sources
call_sources journal entries used query series sources call =
    let own = own_end call.own (called.Answer series sources) call.is in
    let run : SeriesRun used.view query call.cache entries (Some own.0) = subst (SeriesRun used.view query call.cache entries) own.1 call.run in
    given_sources (sources_of used.view.kept) run.0 own.0 series sources run.2 own.2

-- ---- its sources

-- the sources of a block of the view are named
pub names_found : (kept : List Found) (sources : List ℕ) → IsSetOf (sources_of kept) sources → (f : Found) → Contains kept f → (ulid : ℕ) → Contains f.meta.sources ulid → Contains sources ulid
names_found kept sources set f among ulid inside = (set.members ulid).1 (into_flat_map (λ (b : Found). b.meta.sources) kept f ulid among inside)

module _ (setting : Setting) (journal : List Entry) (lawful : IsLawfulScript setting.script) (deeds : AreDeeds setting journal) (honest : IsHonest journal) (number : ℕ) where
  -- what is named was complete before
  pub names_uploads : (kept : List Found) → All (IsCompleteFound journal number) kept → (sources : List ℕ) → IsSetOf (sources_of kept) sources → All (λ ulid. IsUploadedBefore setting journal ulid number) sources
  names_uploads kept complete sources set =
      All-from_recursion (λ (u : ℕ). IsUploadedBefore setting journal u number) sources (all_members (λ (u : ℕ). IsUploadedBefore setting journal u number) sources uploaded)
    where
      uploaded : (u : ℕ) → Contains sources u → IsUploadedBefore setting journal u number
      uploaded u named =
          let f = of_flat_map (λ (b : Found). b.meta.sources) kept u ((set.members u).0 named) in
          let c = All-contains (IsCompleteFound journal number) kept f.0 complete f.1 in
          let known = complete_is_known setting journal lawful deeds honest (f.0).ulid c.seq (fields_of (f.0).meta) c.completed in
          let l : LiesWithin setting journal c.seq (fields_of (f.0).meta) u = All-contains (LiesWithin setting journal c.seq (fields_of (f.0).meta)) (f.0).meta.sources u known.sources f.2 in
          record {
            is_declared = l.uploaded.is_declared;
            seq = l.uploaded.seq;
            meta = l.uploaded.meta;
            completed = l.uploaded.completed;
            earlier = omega (arith, l.uploaded.earlier, c.earlier);
          }
