-- The run of the script of one block is of bytes, and so its block holds what its source holds.
use Rattle.std.proofs.Common.{◌≡◌, ℕ, true, refl}
use Rattle.std.specs.Str.{chars, is_utf8}
use lib.Utf8.{encode}
use Rattle.std.proofs.lemmas.Str.{IsUtf8-from_is_utf8}
use Rattle.base.specs.Grammar.{IsBytes}
use Rattle.block_meta.specs.MetaFields.{MetaFields}
use Rattle.world_core.specs.Operations.{PutsBytes, ShowsBytes}
use Rattle.world_core.specs.Standing.{IsHonest}
use Rattle.world_core.specs.Worlds.{IsOfBytes}
use Rattle.lifecycle_core.specs.Completed.{IsCompletedAt}
use Rattle.lifecycle_core.specs.PutBlocks.{HoldsItsSources}
use Rattle.lifecycle_core.proofs.blocks.Contents.{complete_holds, of_whole}
use Rattle.lifecycle_core.proofs.deeds.ActingDeeds.{acting_deeds}
use Rattle.lifecycle_core.proofs.phases.ActingRuns.{runs_act}
use Rattle.tests_worked.specs.OneBlock as one
use Rattle.tests_worked.specs.SmallBlock as small
use Rattle.tests_worked.specs.SmallFiles as files
use Rattle.tests_worked.proofs.small.Each.{each_of}
use Rattle.tests_worked.proofs.one.OneBlock.{run}
use Rattle.tests_worked.proofs.small.SmallBytes.{are_bytes, index_bytes, segment_bytes}
use Rattle.tests_worked.proofs.small.Texts.{one_lawful}

meta_bytes : IsBytes small.meta
unfolding small.meta
meta_bytes = are_bytes small.meta refl

contents_bytes : IsBytes files.contents
unfolding files.contents
contents_bytes = are_bytes files.contents refl

symbols_bytes : IsBytes files.symbols
unfolding files.symbols
symbols_bytes = are_bytes files.symbols refl

table_bytes : IsBytes files.table
unfolding files.table
table_bytes = are_bytes files.table refl

lists_bytes : IsBytes files.lists
unfolding files.lists
lists_bytes = are_bytes files.lists refl

series_bytes : IsBytes files.series
unfolding files.series
series_bytes = are_bytes files.series refl

chunk_bytes : IsBytes files.chunk
unfolding files.chunk files.content
chunk_bytes = are_bytes files.chunk refl

name_is_text : is_utf8 small.a_text ≡ true
unfolding is_utf8 chars encode
name_is_text = refl

of_bytes : IsOfBytes one.journal
of_bytes = each_of (λ before e. PutsBytes e.op × ShowsBytes e.reply) one.journal ((tt, tt), ((tt, tt), ((segment_bytes, tt), ((index_bytes, tt), ((meta_bytes, tt), ((tt, tt), ((tt, (IsUtf8-from_is_utf8 small.a_text name_is_text, tt)), ((tt, tt), ((tt, meta_bytes), ((tt, contents_bytes), ((tt, symbols_bytes), ((tt, table_bytes), ((tt, lists_bytes), ((tt, series_bytes), ((tt, chunk_bytes), tt)))))))))))))))

pub held : IsHonest one.journal → (ulid seq : ℕ) (meta : MetaFields) → IsCompletedAt one.journal ulid seq meta → HoldsItsSources one.setting one.journal ulid seq
held honest ulid seq meta complete =
    of_whole one.setting one.journal ulid seq meta
    (complete_holds one.setting one.journal one_lawful (acting_deeds one.setting one.journal one_lawful (runs_act one.setting one.journal one.ends one_lawful run)).deeds of_bytes honest ulid seq meta complete)
