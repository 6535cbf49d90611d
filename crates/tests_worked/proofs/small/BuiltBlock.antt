-- The small files are those that are built of the one series, and so a declared block of it is shipped with them.
use Rattle.std.proofs.Common.{◌≡◌, ℕ, pos, List, [], ◌∷◌, length, codes, refl, sym, ap, subst, ◌∙◌, append-nil, arith, lit<, lit≤, ◌≤◌}
use Rattle.std.proofs.lemmas.Int.{ints}
use Rattle.std.specs.List.Sorted.{IsStrictlySortedBy}
use Rattle.base.specs.FixedDigits.{fixed_digits}
use Rattle.block_keys.specs.KeyText.{six_digits}
use Rattle.block_meta.specs.declared.block_plan.BlockPlan.{BlockPlan}
use Rattle.block_meta.specs.MetaFields.{fields_of}
use Rattle.block_meta.specs.MetaValue.{meta_text}
use Rattle.block_meta.specs.Built.{objects_of, segment_objects}
use Rattle.block_meta.specs.declared.block_files.BlockFiles.{BlockFiles}
use Rattle.label_sets.specs.Counts.{sample_count}
use Rattle.chunk_files.specs.Chunk.{frame_text}
use Rattle.chunk_files.specs.Layout.{greatest}
use Rattle.block_writing.specs.Built.{IsBuilt, IsEncoded, IsPutAs, IsPutOf}
use Rattle.block_writing.specs.Files.{AreFilesOf}
use Rattle.block_writing.specs.Put.{IsPut, IsStored, Put, PutChunk, PutSeries}
use Rattle.block_writing.specs.Segments.{segment_text}
use Rattle.block_writing.specs.Writing.{plan_fields}
use Rattle.block_writing.specs.WrittenMeta.{counts_of, meta_with, names_from, sizes_from, sizes_of}
use Rattle.block_content.specs.Content.{IsContent}
use Rattle.block_merging.specs.PutContent.{AreBytes}
use Rattle.block_merging.proofs.Content.{built_holds}
use Rattle.lifecycle_core.specs.Setting.{Setting}
use Rattle.lifecycle_core.specs.Shipped.{IsShipped}
use Rattle.tests_worked.specs.SmallBlock as small
use Rattle.tests_worked.specs.SmallFiles as files
use Rattle.tests_worked.proofs.small.SmallBytes.{bits_are, chunk_is, content_bytes, index_bytes, segment_bytes, stands, stands_filled}
use Rattle.tests_worked.proofs.small.SmallIndex.{index_is, is_index, listed}

-- ---- what is put

abbrev pub chunk : PutChunk
chunk = record { content = files.content; min = pos 1000; max = pos 1000 }

abbrev pub series : PutSeries
series = record { labels = files.up.labels; chunks = chunk ∷ [] }

unfoldable plan_of : ℕ → BlockPlan
plan_of ulid = record {
  ulid = ulid;
  min_time = pos 1000;
  max_time = pos 2000;
  level = 1;
  sources = ulid ∷ [];
  parents = [];
  labels = [];
  source = codes "sidecar";
  times = (small.said_of ulid).times;
  distinct = (small.said_of ulid).distinct;
}

abbrev put_of : ℕ → Put
put_of ulid = record { plan = plan_fields (plan_of ulid); series = series ∷ []; chunks = []; samples = 1 }

encoded : IsEncoded files.up.samples chunk
encoded = record { text_is = stands_filled; bytes = content_bytes; bits = bits_are; begins = refl; ends = refl }

pub put_as : IsPutAs files.up series
put_as = record { parts = files.up.samples ∷ []; whole = refl; cut = ((lit< tt, lit≤ tt), tt); chunks = (encoded, tt); labels = refl }

put_is : (ulid : ℕ) → IsPutOf (plan_fields (plan_of ulid)) (files.up ∷ []) (put_of ulid)
unfolding sample_count
put_is ulid = record { plan_is = refl; series_are = (put_as, tt); nothing_left = refl; samples_are = refl }

stored : (ulid : ℕ) → IsStored (plan_fields (plan_of ulid)) chunk
unfolding plan_of
stored ulid = record { samples = files.up.samples; text_is = stands; begins = refl; ends = refl; within = ((omega (arith, ints), omega (arith, ints)), tt) }

lawful : (ulid : ℕ) → IsPut (put_of ulid)
unfolding IsStrictlySortedBy
lawful ulid = record {
  series = (record { some = λ none. cc (none); chunks = record { stored = (stored ulid, tt); apart = (tt, tt) } }, tt);
  ascend = (tt, tt);
  chunks = record { stored = tt; apart = tt };
}

-- ---- what is written

pub segment_is : files.segment ≡ segment_text (files.content ∷ [])
unfolding files.segment
segment_is = ap (λ (c : List ℕ). 0x85 ∷ 0xbd ∷ 0x40 ∷ 0xdd ∷ 1 ∷ 0 ∷ 0 ∷ 0 ∷ c) (chunk_is ∙ sym (append-nil (frame_text files.content)))

pub segment_fits : length files.segment ≤ greatest
unfolding files.segment files.chunk files.content
segment_fits = lit≤ tt

pub index_fits : length files.index ≤ greatest
unfolding files.index files.symbols files.series files.label_index files.lists files.label_offsets files.table files.contents
index_fits = lit≤ tt

unfoldable pub files_are : AreFilesOf (series ∷ []) files.index (files.segment ∷ [])
files_are = record {
  listed = listed ∷ [];
  series_are = (record { labels_are = refl; times_are = refl }, tt);
  segments_are = record {
    runs = (files.content ∷ []) ∷ [];
    runs_are = record { whole = refl; fit = (subst (λ (s : List ℕ). length s ≤ greatest) segment_is segment_fits, tt); begin = (tt, tt) };
    places_are = refl;
    segments_are = ap (λ (s : List ℕ). s ∷ []) segment_is;
  };
  index_is = index_is;
}

abbrev pub files_of : ℕ → BlockFiles
files_of ulid = record { meta = small.said_of ulid; index = files.index; segments = files.segment ∷ []; numbered = lit≤ tt }

said_is : (ulid : ℕ) → fields_of (small.said_of ulid) ≡ meta_with (plan_fields (plan_of ulid)) (counts_of (put_of ulid)) files.index (files.segment ∷ [])
unfolding plan_of meta_with sizes_of sizes_from names_from six_digits fixed_digits
    files.segment files.chunk files.content files.index files.symbols files.series files.label_index files.lists files.label_offsets files.table files.contents
said_is ulid = refl

built : (ulid : ℕ) → IsBuilt (plan_of ulid) (files.up ∷ []) (files_of ulid)
unfolding files_are
built ulid = record {
  put = put_of ulid;
  put_is = put_is ulid;
  block_is = record { lawful = lawful ulid; files = files_are; indexed = is_index; small = index_fits; meta = said_is ulid };
}

-- so they hold the series
pub content : (ulid : ℕ) → IsContent (files_of ulid) (files.up ∷ [])
content ulid = built_holds (plan_of ulid) (files.up ∷ []) (files_of ulid) (built ulid)

pub bytes : (ulid : ℕ) → AreBytes (files_of ulid)
bytes ulid = record { index = index_bytes; segments = (segment_bytes, tt) }

-- ---- its objects

pub same_objects : (ulid : ℕ) (text other : List ℕ) → text ≡ other → small.objects_with ulid other ≡ objects_of ulid (files.segment ∷ []) files.index text
unfolding objects_of segment_objects
same_objects ulid text other is = ap (λ (t : List ℕ). small.objects_with ulid t) (sym is)

pub shipped_objects : (setting : Setting) (ulid : ℕ) (text : List ℕ) → meta_text (fields_of (small.said_of ulid)) ≡ text → IsShipped setting (small.block_of ulid) (small.objects_with ulid text)
unfolding plan_of
shipped_objects setting ulid text is = record {
  plan = plan_of ulid;
  planned = record { ulid = refl; early = refl; late = refl; level = refl; sources = refl; parents = refl; labels = refl; source = refl };
  files = files_of ulid;
  built = built ulid;
  bytes = bytes ulid;
  are = same_objects ulid (meta_text (fields_of (small.said_of ulid))) text is;
}
