-- Reading one chunk.
use Rattle.std.proofs.Common.{◌≡◌, ℕ, ◌<◌, List, length, None, Ok, Err, refl, sym, ap, arith}
use Rattle.std.specs.Prelude.{IsErr}
use Rattle.std.specs.Result.{result_ok}
use Rattle.std.proofs.lemmas.List.{drop_all}
use Rattle.base.proofs.Binds.{bind_ok, ok_is}
use Rattle.wire_bytes.specs.Position.{Position, left, further}
use Rattle.wire_bytes.specs.Fields.{uvarint_at, groups_of}
use Rattle.label_sets.specs.declared.sample.Sample.{Sample}
use Rattle.xor_chunks.specs.declared.refusal.XorRefusal.{XorRefusal}
use Rattle.xor_chunks.specs.Data.{data_at}
use Rattle.chunk_files.specs.declared.refusal.ChunkRefusal.{ChunkRefusal}
use Rattle.chunk_files.specs.ChunkReading.{chunk_at}
use Rattle.store_chunks.specs.ChunkReads.{chunk_len_at, stored_at}

-- reading a number leaves the bytes as they are
pub same_bytes : (p q : Position) (n : ℕ) → uvarint_at p ≡ Ok (n, q) → length q.bytes ≡ length p.bytes
unfolding uvarint_at
same_bytes p q n e =
    let x = bind_ok (groups_of 9 (left p)) (λ (m : ℕ × ℕ). Ok (m.0, further m.1 p)) (n, q) e in
    let pair = ok_is (x.0.0, further x.0.1 p) (n, q) x.2 in
    sym (ap (λ (r : ℕ × Position). length r.1.bytes) pair)

-- no chunk begins behind the end
pub begins_behind : (bytes : List ℕ) (at : ℕ) → length bytes < at → result_ok (chunk_len_at bytes at) ≡ None
unfolding chunk_len_at uvarint_at groups_of
begins_behind bytes at h = rw (drop_all at bytes (omega (arith, h))) refl

pub no_chunk : (bytes : List ℕ) (e : ChunkRefusal) → chunk_at bytes ≡ Err e → IsErr (stored_at bytes)
unfolding stored_at
no_chunk bytes e is = rw is refl

pub no_data : (bytes content : List ℕ) (e : XorRefusal) → chunk_at bytes ≡ Ok content → data_at 8 content ≡ Err e → IsErr (stored_at bytes)
unfolding stored_at
no_data bytes content e is so = rw (is, so) refl

pub stored : (bytes content : List ℕ) (samples : List Sample) → chunk_at bytes ≡ Ok content → data_at 8 content ≡ Ok samples → stored_at bytes ≡ Ok samples
unfolding stored_at
stored bytes content samples is so = rw (is, so) refl
