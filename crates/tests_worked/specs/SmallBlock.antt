-- A block of the small files, the objects that an upload ships of it, and what a sync and a query see of it.
use Rattle.std.specs.Prelude.{ℕ, pos, List, [], ◌∷◌, codes, None}
use Rattle.std.proofs.Common.{arith}
use Rattle.std.proofs.lemmas.Int.{ints}
use Rattle.label_sets.specs.Triples.{Triple}
use Rattle.block_keys.specs.declared.key.Key.TheVariants as key
use Rattle.block_keys.specs.declared.object.Object.{Object}
use Rattle.block_meta.specs.declared.meta.Meta.{Meta}
use Rattle.sync_filters.specs.declared.found.Found.{Found}
use Rattle.script_core.specs.declared.block.Block.{Block}
use Rattle.script_core.specs.declared.body.Body.TheVariants.{Inline}
pub use Rattle.tests_worked.specs.SmallFiles.{up}
unfoldable pub use Rattle.tests_worked.specs.SmallFiles.{segment, index}

-- the ULID, and its text
abbrev pub a : ℕ
a = 10

abbrev pub a_text : List ℕ
a_text = codes "0000000000000000000000000A"

-- a block of the one series under a ULID
abbrev pub block_of : ℕ → Block
block_of ulid = record { ulid = ulid; labels = []; body = Inline (pos 1000) (pos 2000) (up ∷ []) }

-- block 0000000000000000000000000A 1000 2000 {}
abbrev pub block : Block
block = block_of a

-- ---- its objects

unfoldable pub meta : List ℕ
meta = codes "{\"compaction\":{\"level\":1,\"sources\":[\"0000000000000000000000000A\"]},\"maxTime\":2000,\"minTime\":1000,\"stats\":{\"numChunks\":1,\"numSamples\":1,\"numSeries\":1},\"thanos\":{\"downsample\":{\"resolution\":0},\"files\":[{\"rel_path\":\"chunks/000001\",\"size_bytes\":26},{\"rel_path\":\"index\",\"size_bytes\":205}],\"labels\":{},\"segment_files\":[\"000001\"],\"source\":\"sidecar\",\"version\":1},\"ulid\":\"0000000000000000000000000A\",\"version\":1}"

-- in the order of their puts, with this text of the meta
abbrev pub objects_with : ℕ → List ℕ → List Object
objects_with ulid text =
    record { key = key.Segment ulid 1; bytes = segment }
    ∷ record { key = key.Index ulid; bytes = index }
    ∷ record { key = key.Meta ulid; bytes = text }
    ∷ []

-- ---- what is seen of it

-- what the meta of such a block says
abbrev pub said_of : ℕ → Meta
said_of ulid = record {
  ulid = ulid;
  min_time = pos 1000;
  max_time = pos 2000;
  series = 1;
  samples = 1;
  chunks = 1;
  level = 1;
  sources = ulid ∷ [];
  parents = [];
  labels = [];
  resolution = pos 0;
  source = codes "sidecar";
  files =
      record { path = codes "chunks/000001"; bytes = 26 }
      ∷ record { path = codes "index"; bytes = 205 }
      ∷ [];
  segment_files = codes "000001" ∷ [];
  times = record {
    early = omega (arith, ints);
    ascend = omega (arith, ints);
    late = omega (arith, ints);
  };
  distinct = λ k more. omega (arith, more);
}

abbrev pub said : Meta
said = said_of a

-- a sync that looked for its mark and read its meta at these moments
abbrev pub found : ℕ → ℕ → Found
found mark_read meta_read = record {
  ulid = a;
  mark = None;
  mark_read = record { ms = mark_read };
  meta = said;
  meta_read = record { ms = meta_read };
}

-- what a query that asks for all sees of it
abbrev pub triple : Triple
triple = record {
  labels = record { name = codes "__name__"; value = codes "up" } ∷ [];
  time = pos 1000;
  pattern = 0x3ff0_0000_0000_0000;
}
