-- What is no run of the script of one block, and not its report: each time one thing differs from what `OneBlock` has.
use Rattle.std.specs.Prelude.{ℕ, pos, List, [], ◌∷◌, ◌++◌, codes}
use Rattle.std.specs.List.{join_with_byte}
use Rattle.block_keys.specs.declared.key.Key.TheVariants as key
use Rattle.label_sets.specs.Triples.{Triple}
use Rattle.world_core.specs.declared.entry.Entry.{Entry}
use Rattle.lifecycle_core.specs.Guarantees.{Answered}
use Rattle.tests_worked.specs.SmallBlock as small
use Rattle.tests_worked.specs.SmallRuns as runs
use Rattle.tests_worked.specs.OneBlock as one
use Rattle.tests_worked.specs.Entries.{clock, stored, absent, listed}

-- the index is put before the segment
abbrev pub index_first : List Entry
index_first =
    clock 1 0 ∷ absent 2 1 1 (key.Meta small.a) ∷ stored 3 1 2 (key.Index small.a) small.index ∷ []

-- the segment is put without a look at the meta
abbrev pub no_look : List Entry
no_look = clock 1 0 ∷ stored 2 1 1 (key.Segment small.a 1) small.segment ∷ []

-- the upload's worker has the gateway's seat
abbrev pub at_gateways_seat : List Entry
at_gateways_seat = clock 1 0 ∷ runs.upload 2 2 1

-- the sync begins at the very moment to which the clock was set
abbrev pub clock_stands : List Entry
clock_stands = clock 1 0 ∷ one.upload ++ clock 6 1_800_000 ∷ runs.sync 7 2 1_800_000

-- the sync finds no meta, and the query reads the block all the same
abbrev pub meta_absent : List Entry
meta_absent =
    clock 1 0
    ∷ one.upload ++ clock 6 1_800_000
    ∷ listed 7 2 1_800_001 (small.a_text ∷ [])
    ∷ absent 8 2 1_800_002 (key.Mark small.a)
    ∷ absent 9 2 1_800_003 (key.Meta small.a)
    ∷ runs.contents_read 10 2 1_800_004
    ∷ []

-- the answer's source is not printed
unfoldable pub report_without_source : List ℕ
report_without_source = join_with_byte 10 (
    codes "upload 0000000000000000000000000A: ok 3 objects"
    ∷ codes "sync g: 1 blocks"
    ∷ codes "query 0 5000: 1 series 1 samples 1 sources"
    ∷ codes "series {__name__=\"up\"} 1000:3ff0000000000000"
    ∷ [] ∷ []
    )

-- ---- other answers to its query

abbrev pub with_answer : List Triple → List ℕ → Answered
with_answer samples sources = record {
  selector = one.selector;
  named = record { gateway = 0; used = one.used; low = pos 0; high = pos 5000; sources = sources } ∷ [];
  samples = samples;
}

-- it names no block, and has no sample
abbrev pub nothing_answered : Answered
nothing_answered = with_answer [] []

-- it names the block, and has no sample
abbrev pub nothing_of_block : Answered
nothing_of_block = with_answer [] (small.a ∷ [])

-- it names a block that the script does not declare
abbrev pub strange_source : Answered
strange_source = with_answer (small.triple ∷ []) (11 ∷ [])
