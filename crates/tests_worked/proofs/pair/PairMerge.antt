-- The two blocks, as a compaction reads them, are merged into the new block.
use Rattle.std.proofs.Common.{◌≡◌, ◌≢◌, ◌≤◌, inl, inr, ℕ, pos, true, List, [], ◌∷◌, ◌++◌, Contains, Some, refl, sym, ap, ◌∙◌, arith, lit<, lit≤, codes}
use Rattle.std.specs.Prelude.{◌≤ℤ◌, Any}
use Rattle.std.specs.List.{find, list_any}
use Rattle.std.specs.List.Sorted.{IsStrictlySortedBy}
use Rattle.std.proofs.lemmas.Int.{ints}
use Rattle.std.proofs.lemmas.List.Elements.{All-cons, All-nil, All-from_recursion}
use Rattle.base.proofs.Membership.{member_cases, only_member}
use Rattle.base.specs.FixedDigits.{fixed_digits}
use Rattle.block_keys.specs.KeyText.{six_digits}
use Rattle.label_sets.specs.Counts.{sample_count}
use Rattle.label_sets.specs.Finals.{is_among, reduced_of, without}
use Rattle.label_sets.specs.Triples.{Triple, has_same_key, triples_of, triples_under}
use Rattle.label_sets.specs.declared.series.Series.{Series}
use Rattle.vertical_merge.specs.Compacted.{IsCompactedPlan}
use Rattle.vertical_merge.specs.Merged.{AreFirst, IsMerge}
use Rattle.block_meta.specs.MetaFields.{fields_of}
use Rattle.block_meta.specs.declared.block_plan.BlockPlan.{BlockPlan}
use Rattle.block_meta.specs.declared.block_files.BlockFiles.{BlockFiles}
use Rattle.block_writing.specs.Put.{IsPut, IsStored, Put, PutChunk, PutSeries}
use Rattle.block_writing.specs.Standing.{content_at}
use Rattle.block_writing.specs.Writing.{plan_fields}
use Rattle.chunk_files.specs.ChunkReading.{chunk_at, header_at, segment_at}
use Rattle.wire_bytes.specs.Crc.{crc, remainder}
use Rattle.wire_bytes.specs.Fields.{bytes_at, groups_of, number_at, uvarint_at}
use Rattle.block_writing.specs.WrittenMeta.{IsWritten, counts_of, meta_with, names_from, sizes_from, sizes_of}
use Rattle.block_merging.specs.Inputs.{taken}
use Rattle.block_merging.specs.MergedBlock.{AreMerges, IsMergeOf}
use Rattle.block_merging.specs.MergedSeries.{AreMerged, IsMergedSeries}
use Rattle.block_merging.specs.Runs.{AreConnected, AreRuns, Span, lies_in}
use Rattle.compactor.specs.Inputs.{IsInput}
use Rattle.compactor.specs.Merges.{IsMerging}
use Rattle.compactor.specs.declared.input.Input.{Input}
use Rattle.compactor.specs.declared.merging.Merging.TheVariants.{Merged}
use Rattle.tests_worked.specs.CompactedPair as row
use Rattle.tests_worked.specs.SmallBlock as small
use Rattle.tests_worked.specs.SmallFiles as files
use Rattle.tests_worked.proofs.small.BuiltBlock.{bytes, chunk, content, files_are, files_of, index_fits, put_as, series}
use Rattle.tests_worked.proofs.small.SmallBytes.{stands}
use Rattle.tests_worked.proofs.small.SmallIndex.{is_index, listed}

-- ---- what was read

abbrev pub input : ℕ → ℕ → ℕ → Input
input ulid index segment = record {
  meta = small.said_of ulid;
  index = record { number = index; bytes = small.index };
  segments = record { number = segment; bytes = small.segment } ∷ [];
}

abbrev pub inputs : List Input
inputs = input small.a 16 17 ∷ input row.b 18 19 ∷ []

is_input : (ulid one other : ℕ) → IsInput (input ulid one other) (files_of ulid)
is_input ulid one other = record { meta = refl; index = refl; segments = refl; bytes = bytes ulid }

abbrev blocks : List BlockFiles
blocks = files_of small.a ∷ files_of row.b ∷ []

-- ---- what the new block says of itself

unfoldable plan : BlockPlan
plan = record {
  ulid = row.n;
  min_time = pos 1000;
  max_time = pos 2000;
  level = 2;
  sources = row.said.sources;
  parents = row.said.parents;
  labels = [];
  source = codes "compactor";
  times = row.said.times;
  distinct = row.said.distinct;
}

planned : IsCompactedPlan (small.said ∷ small.said_of row.b ∷ []) row.n [] plan
unfolding plan
planned = record {
  ulid_is = refl;
  begin = record { one = (0, small.said, lit< tt, refl, refl); none_below = All-from_recursion (λ m. pos 1000 ≤ℤ m.min_time) (small.said ∷ small.said_of row.b ∷ []) (omega (arith, ints), (omega (arith, ints), tt)) };
  end = record { one = (0, small.said, lit< tt, refl, refl); none_above = All-from_recursion (λ m. m.max_time ≤ℤ pos 2000) (small.said ∷ small.said_of row.b ∷ []) (omega (arith, ints), (omega (arith, ints), tt)) };
  level = record { greatest = 1; is_greatest = record { one = (0, small.said, lit< tt, refl, refl); none_above = All-from_recursion (λ m. m.level ≤ 1) (small.said ∷ small.said_of row.b ∷ []) (lit≤ tt, (lit≤ tt, tt)) }; next = refl };
  sources = refl;
  parents = refl;
  labels_are = refl;
  source = refl;
}

-- ---- what is put

abbrev put : Put
put = record { plan = plan_fields plan; series = series ∷ []; chunks = []; samples = 1 }

stored : IsStored (plan_fields plan) chunk
unfolding plan
stored = record { samples = files.up.samples; text_is = stands; begins = refl; ends = refl; within = ((omega (arith, ints), omega (arith, ints)), tt) }

lawful : IsPut put
unfolding IsStrictlySortedBy
lawful = record {
  series = (record { some = λ none. cc (none); chunks = record { stored = (stored, tt); apart = (tt, tt) } }, tt);
  ascend = (tt, tt);
  chunks = record { stored = tt; apart = tt };
}

-- ---- one chunk of both, which share a time

abbrev given : Series
given = record { labels = files.up.labels; samples = files.up.samples ++ files.up.samples }

twice_first : (t : Triple) → has_same_key t t ≡ true → AreFirst (t ∷ t ∷ []) (t ∷ [])
unfolding IsStrictlySortedBy
twice_first t same = record {
  ascending = (tt, tt);
  first = All-cons (λ u. find (has_same_key u) (t ∷ t ∷ []) ≡ Some u) t [] (rw same refl) (All-nil (λ u. find (has_same_key u) (t ∷ t ∷ []) ≡ Some u));
  complete = All-from_recursion (λ u. list_any (has_same_key u) (t ∷ []) ≡ true) (t ∷ t ∷ []) (rw same refl, (rw same refl, tt));
}

kept : IsMerge (triples_under files.up.labels given.samples) (files.up ∷ [])
unfolding triples_of triples_under IsStrictlySortedBy
kept = record { ascending = (tt, tt); inhabited = All-cons (λ s. s.samples ≢ []) files.up [] (λ none. cc) (All-nil (λ (s : Series). s.samples ≢ [])); first = twice_first _ refl }

merged : AreMerged files.up.labels (chunk ∷ chunk ∷ []) (chunk ∷ [])
merged = record {
  given = given;
  given_is = record { parts = files.up.samples ∷ files.up.samples ∷ []; chunks_are = (stands, (stands, tt)); labels_are = refl; samples_are = refl };
  kept = files.up;
  kept_is = kept;
  made_is = put_as;
}

abbrev both : List PutChunk
both = chunk ∷ chunk ∷ []

-- each of both is the one chunk
one_chunk : (c : PutChunk) → Contains both c → chunk ≡ c
one_chunk c among = elim (member_cases chunk c (chunk ∷ []) among) [ inl is ↦ is | inr later ↦ only_member chunk c later ]

connected : AreConnected both
connected = record {
  some = λ none. cc (none);
  joined = λ side one other.
      let same : one.1 ≡ other.1 = sym (one_chunk one.1 (one.0, one.2, one.3)) ∙ one_chunk other.1 (other.0, other.2, other.3) in
      absurd (cc (one.4, other.4, same));
}

abbrev span : Span
span = record { begin = pos 1000; end = pos 1000 }

runs_are : AreRuns both (both ∷ [])
runs_are = record {
  spans = span ∷ [];
  runs_are = refl;
  covered = All-from_recursion (λ c. Any (λ s. lies_in s c ≡ true) (span ∷ [])) both ((0, span, lit< tt, refl, refl), ((0, span, lit< tt, refl, refl), tt));
  apart = λ i j d less inside. absurd (omega (arith, less, inside));
  connected = (connected, tt);
}

one_series : IsMergedSeries files.up.labels both series
one_series = record { runs = both ∷ []; runs_are = runs_are; made = (chunk ∷ []) ∷ []; each = (merged, tt); labels_are = refl; chunks_are = refl }

-- ---- the merge

taken_is : taken [] [] (files.segment ∷ []) listed ≡ series
unfolding reduced_of without is_among content_at segment_at header_at chunk_at bytes_at number_at uvarint_at groups_of crc remainder files.segment files.chunk files.content
taken_is = refl

merges : AreMerges (series ∷ series ∷ []) (series ∷ [])
unfolding IsStrictlySortedBy
merges = record {
  ascend = (tt, tt);
  some = (λ none. cc (none), tt);
  each = (one_series, tt);
  complete = (λ some. (0, lit< tt, refl), (λ some. (0, lit< tt, refl), tt));
}

said_is : fields_of row.said ≡ meta_with (plan_fields plan) (counts_of put) files.index (files.segment ∷ [])
unfolding plan meta_with sizes_of sizes_from names_from six_digits fixed_digits
    files.segment files.chunk files.content files.index files.symbols files.series files.label_index files.lists files.label_offsets files.table files.contents
said_is = refl

abbrev pub merged_files : BlockFiles
merged_files = record { meta = row.said; index = files.index; segments = files.segment ∷ []; numbered = lit≤ tt }

written : IsWritten put merged_files
unfolding files_are
written = record { lawful = lawful; files = files_are; indexed = is_index; small = index_fits; meta = said_is }

is_merge : IsMergeOf plan [] blocks merged_files
unfolding sample_count plan
is_merge = record {
  put = put;
  put_is = record {
    held = ((files.up ∷ [], content small.a), ((files.up ∷ [], content row.b), tt));
    all = series ∷ series ∷ [];
    all_are = (listed ∷ [], series ∷ [], is_index, (listed ∷ [], [], is_index, refl, ap (λ (s : PutSeries). s ∷ []) (sym taken_is)), ap (λ (s : PutSeries). s ∷ series ∷ []) (sym taken_is));
    series_are = merges;
    plan_is = refl;
    nothing_left = refl;
    list = files.up ∷ [];
    list_is = (record { parts = files.up.samples ∷ []; chunks_are = (stands, tt); labels_are = refl; samples_are = refl }, tt);
    samples_are = refl;
  };
  block_is = written;
}

pub merging : IsMerging [] row.n [] inputs (Merged merged_files)
merging = (record { blocks = blocks; read = (is_input small.a 16 17, (is_input row.b 18 19, tt)); plan = plan; planned = planned }, is_merge)
