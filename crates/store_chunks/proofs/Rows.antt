-- Chunks whose samples stand in one list, one behind another.
use Rattle.std.proofs.Common.{◌≡◌, ℕ, ◌+◌, ◌-◌, ◌≤◌, List, [], ◌∷◌, ◌++◌, map, take, drop, length, Result, Ok, Err, refl, sym, ap, ap₂, ◌∙◌, append_assoc, append-nil, arith, length-append}
use Rattle.std.specs.Prelude.{IfOk}
use Rattle.std.specs.List.{flat_map}
use Rattle.std.proofs.lemmas.List.{take_all, length-drop, nil_from_length, take-append-drop, take-append-le, drop-append-le}
use Rattle.std.proofs.lemmas.List.Concat.{flat_map-append}
use Rattle.base.specs.declared.memory.NoMemory.{NoMemory}
use Rattle.label_sets.specs.declared.sample.Sample.{Sample}
use Rattle.store_chunks.specs.ChunkReads.{Read, read}
use Rattle.store_chunks.specs.RowCounts.{counted}
use Rattle.store_chunks.specs.ChunksRead.{reads_from, row_reads, reads_of, references_read}
use Rattle.store_chunks.specs.declared.chunk_row.RowChunk.{RowChunk}
use Rattle.store_chunks.specs.declared.chunk_row.ChunkRow.{ChunkRow}

-- ---- one chunk more

pub counted_push : (chunks : List RowChunk) (next : RowChunk) → counted (chunks ++ next ∷ []) ≡ counted chunks + next.count
counted_push [] next = omega (arith)
counted_push (chunk ∷ chunks) next = let more = counted_push chunks next in omega (arith, more)

-- there is room for the chunks that follow
left_counted : (samples : List Sample) (chunk : RowChunk) (chunks : List RowChunk) → counted (chunk ∷ chunks) ≡ length samples → counted chunks ≡ length (drop chunk.count samples)
left_counted samples chunk chunks are = omega (arith, are, length-drop chunk.count samples)

pub push_from : (samples part : List Sample) (chunks : List RowChunk) (next : RowChunk) → counted chunks ≡ length samples → next.count ≡ length part
    → reads_from (samples ++ part) (chunks ++ next ∷ []) ≡ reads_from samples chunks ++ read next.reference part ∷ []
push_from samples part [] next are is =
    ap (λ (l : List Sample). read next.reference l ∷ []) (ap (λ (l : List Sample). take next.count (l ++ part)) (nil_from_length samples (sym are)) ∙ take_all next.count part (omega (arith, is)))
push_from samples part (chunk ∷ chunks) next are is =
    let few : chunk.count ≤ length samples = omega (arith, are) in
    ap₂ (λ (a : List Sample) (b : List Read). read chunk.reference a ∷ b) (take-append-le chunk.count samples part few)
    (ap (λ (l : List Sample). reads_from l (chunks ++ next ∷ [])) (drop-append-le chunk.count samples part few)
    ∙ push_from (drop chunk.count samples) part chunks next (left_counted samples chunk chunks are) is)

-- as many samples as were put behind the others
pub count_behind : (front part all : List Sample) (before count : ℕ) → all ≡ front ++ part → before ≡ length front → count ≡ length all - before → count ≡ length part
count_behind front part all before count is same many = omega (arith, many, same, ap length is, length-append front part)

-- a row with one chunk more is whole
pub whole_still : (front part all : List Sample) (chunks more : List RowChunk) (next : RowChunk) → all ≡ front ++ part → more ≡ chunks ++ next ∷ [] → counted chunks ≡ length front → next.count ≡ length part
    → counted more ≡ length all
whole_still front part all chunks more next is so are count =
    ap counted so ∙ counted_push chunks next ∙ ap₂ (λ (a b : ℕ). a + b) are count ∙ sym (length-append front part) ∙ ap length (sym is)

-- the reads of a row with one chunk more
pub row_with_more : (front part all : List Sample) (chunks more : List RowChunk) (next : RowChunk) → all ≡ front ++ part → more ≡ chunks ++ next ∷ [] → counted chunks ≡ length front → next.count ≡ length part
    → reads_from all more ≡ reads_from front chunks ++ read next.reference part ∷ []
row_with_more front part all chunks more next is so are count = ap₂ reads_from is so ∙ push_from front part chunks next are count

-- a row of one chunk
pub row_alone : (samples : List Sample) (chunks : List RowChunk) (one : RowChunk) → chunks ≡ one ∷ [] → one.count ≡ length samples → reads_from samples chunks ≡ read one.reference samples ∷ []
row_alone samples chunks one is count =
    ap (reads_from samples) is ∙ ap (λ (l : List Sample). read one.reference l ∷ []) (take_all one.count samples (omega (arith, count)))

-- ---- the reads of rows

pub reads_push : (rows : List ChunkRow) (row : ChunkRow) → reads_of (rows ++ row ∷ []) ≡ reads_of rows ++ row_reads row
reads_push rows row = flat_map-append row_reads rows (row ∷ []) ∙ ap (λ (l : List Read). reads_of rows ++ l) (append-nil (row_reads row))

-- the last row with one chunk more
pub rows_read : (old rows more : List ChunkRow) (row next : ChunkRow) (reference : ℕ) (samples : List Sample) → reads_of old ≡ reads_of rows ++ row_reads row
    → row_reads next ≡ row_reads row ++ read reference samples ∷ [] → more ≡ rows ++ next ∷ [] → reads_of more ≡ reads_of old ++ read reference samples ∷ []
rows_read old rows more row next reference samples was is so =
    ap reads_of so ∙ reads_push rows next ∙ ap (λ (l : List Read). reads_of rows ++ l) is
    ∙ sym (append_assoc (reads_of rows) (row_reads row) (read reference samples ∷ [])) ∙ ap (λ (l : List Read). l ++ read reference samples ∷ []) (sym was)

-- the last row is taken
pub last_taken : (old new : List ChunkRow) (row : ChunkRow) → old ≡ new ++ row ∷ [] → reads_of old ≡ reads_of new ++ row_reads row
last_taken old new row is = ap reads_of is ∙ reads_push new row

-- the last row is put back as another one that reads the same
pub last_put_back : (old rest new : List ChunkRow) (last row : ChunkRow) → old ≡ rest ++ last ∷ [] → row_reads row ≡ row_reads last → new ≡ rest ++ row ∷ [] → reads_of old ≡ reads_of new
last_put_back old rest new last row was same is =
    last_taken old rest last was ∙ ap (λ (l : List Read). reads_of rest ++ l) (sym same) ∙ sym (last_taken new rest row is)

-- a row that begins, where no other changes
pub row_begins : (old new : List ChunkRow) (r : Result ChunkRow NoMemory) → reads_of old ≡ reads_of new → IfOk r (λ row. row_reads row ≡ []) → IfOk r (λ row. reads_of old ≡ reads_of new ++ row_reads row)
row_begins old new (Ok row) same empty = same ∙ sym (append-nil (reads_of new)) ∙ ap (λ (l : List Read). reads_of new ++ l) (sym empty)
row_begins old new (Err none) same empty = tt

-- ---- what a row has

-- all samples of a row, one chunk behind another
pub row_joined : (samples : List Sample) (chunks : List RowChunk) → counted chunks ≡ length samples → flat_map (λ (one : Read). one.samples) (reads_from samples chunks) ≡ samples
row_joined samples [] are = sym (nil_from_length samples (sym are))
row_joined samples (chunk ∷ chunks) are =
    ap (λ (l : List Sample). take chunk.count samples ++ l) (row_joined (drop chunk.count samples) chunks (left_counted samples chunk chunks are)) ∙ take-append-drop chunk.count samples

pub row_named : (samples : List Sample) (chunks : List RowChunk) → references_read (reads_from samples chunks) ≡ map (λ (one : RowChunk). one.reference) chunks
row_named samples [] = refl
row_named samples (chunk ∷ chunks) = ap (λ (l : List ℕ). chunk.reference ∷ l) (row_named (drop chunk.count samples) chunks)
