use Rattle.std.proofs.Common.{◌*◌, ◌+◌, length, map, refl}
use Rattle.store_ranges.specs.Caches.{held}
use Rattle.store_calls.specs.WorkStates.{most, symbols_piece, table_piece, lists_piece, with_symbols, with_table, with_lists, with_run, with_bytes, texts_of}
use Rattle.store_ranges.specs.Asking.{piece_of}
use Rattle.store_ranges.specs.ToRead.{run_read}
use Rattle.store_calls.specs.declared.work.Work.TheVariants as work
use Rattle.store_calls.proofs.Taking.{takes_as, leads_freely, leads_read}
use Rattle.store_calls.proofs.block_call.take_bytes.Goals as goal

pub returns-in-Contents : goal.returns-in-Contents
returns-in-Contents c =
    takes_as c.args.asked.now (held c.args.cache.now) (held c.take_contents.new.cache) c.args.seq c.bytes-in-Contents.result.now c.args.bytes c.take_contents.result c.args.work (work.Contents c.in-Contents.size) c.in-Contents.is c.bytes-in-Contents.ensures
    (leads_freely c.args.asked.now (held c.take_contents.new.cache) (8 * most * most) (Unit {0}) (with_bytes c.args.asked.now (work.Contents c.in-Contents.size) (held c.args.cache.now) c.args.seq c.bytes-in-Contents.result.now) c.take_contents.result c.take_contents.ensures)

pub returns-in-Whole : goal.returns-in-Whole
returns-in-Whole c =
    takes_as c.args.asked.now (held c.args.cache.now) (held c.args.cache.now) c.args.seq c.bytes-in-Whole-2.result.now c.args.bytes c.take_whole.result c.args.work work.Whole c.in-Whole.is c.bytes-in-Whole-2.ensures
    (leads_freely c.args.asked.now (held c.args.cache.now) (3 * most * most) (Unit {0}) (with_bytes c.args.asked.now work.Whole (held c.args.cache.now) c.args.seq c.bytes-in-Whole-2.result.now) c.take_whole.result (c.take_whole.ensures (held c.args.cache.now)))

pub returns-in-Group : goal.returns-in-Group
returns-in-Group c =
    takes_as c.args.asked.now (held c.args.cache.now) (held c.args.cache.now) c.args.seq c.args.bytes c.args.bytes c.take_group.result c.args.work (work.Group c.in-Group.chunks) c.in-Group.is refl
    (c.take_group.ensures (held c.args.cache.now))

pub returns-in-Single : goal.returns-in-Single
returns-in-Single c =
    takes_as c.args.asked.now (held c.args.cache.now) (held c.args.cache.now) c.args.seq c.bytes-in-Single-2.result.now c.args.bytes c.take_single.result c.args.work (work.Single c.in-Single.chunks c.in-Single.reference c.in-Single.field-2 c.in-Single.pending) c.in-Single.is c.bytes-in-Single-2.ensures
    (c.take_single.ensures (held c.args.cache.now))

pub returns-in_ok-keep-in-Symbols : goal.returns-in_ok-keep-in-Symbols
returns-in_ok-keep-in-Symbols c =
    takes_as c.args.asked.now (held c.args.cache.now) (held c.take_symbols.new.cache) c.args.seq c.args.bytes c.args.bytes c.take_symbols.result c.args.work (work.Symbols c.in-Symbols.places) c.in-Symbols.is refl
    (leads_read c.args.asked.now (symbols_piece c.in-Symbols.places) (piece_of c.symbols_range.result) (held c.args.cache.now) (held c.keep.new.cache) (held c.take_symbols.new.cache) c.args.seq (7 * most * most) (with_symbols c.args.asked.now c.in-Symbols.places) c.args.bytes (Unit {0}) c.take_symbols.result
    c.symbols_range.ensures.value c.in_ok-keep-in-Symbols.ensures c.take_symbols.ensures)

pub returns-in_ok-keep-in-Table : goal.returns-in_ok-keep-in-Table
returns-in_ok-keep-in-Table c =
    takes_as c.args.asked.now (held c.args.cache.now) (held c.take_table.new.cache) c.args.seq c.args.bytes c.args.bytes c.take_table.result c.args.work (work.Table c.in-Table.read) c.in-Table.is refl
    (leads_read c.args.asked.now (table_piece c.in-Table.read.places) (piece_of c.table_range.result) (held c.args.cache.now) (held c.keep-in-Table.new.cache) (held c.take_table.new.cache) c.args.seq (6 * most * most) (with_table c.args.asked.now c.in-Table.read) c.args.bytes (Unit {0}) c.take_table.result
    c.table_range.ensures.value c.in_ok-keep-in-Table.ensures c.take_table.ensures)

pub returns-in_ok-keep-in-Lists : goal.returns-in_ok-keep-in-Lists
returns-in_ok-keep-in-Lists c =
    takes_as c.args.asked.now (held c.args.cache.now) (held c.take_lists.new.cache) c.args.seq c.args.bytes c.args.bytes c.take_lists.result c.args.work (work.Lists c.in-Lists.read) c.in-Lists.is refl
    (leads_read c.args.asked.now (lists_piece c.in-Lists.read.first.places) (piece_of c.lists_range.result) (held c.args.cache.now) (held c.keep-in-Lists.new.cache) (held c.take_lists.new.cache) c.args.seq (5 * most * most) (with_lists c.args.asked.now c.in-Lists.read) c.args.bytes (Unit {0}) c.take_lists.result
    c.lists_range.ensures.value c.in_ok-keep-in-Lists.ensures c.take_lists.ensures)

pub returns-in_ok-keep-in-Run : goal.returns-in_ok-keep-in-Run
returns-in_ok-keep-in-Run c =
    takes_as c.args.asked.now (held c.args.cache.now) (held c.take_run.new.cache) c.args.seq c.args.bytes c.args.bytes c.take_run.result c.args.work (work.Run c.in-Run.runs) c.in-Run.is refl
    (leads_read c.args.asked.now (piece_of c.in-Run.runs.run.range) (piece_of c.in-Run.runs.run.range) (held c.args.cache.now) (held c.keep-in-Run.new.cache) (held c.take_run.new.cache) c.args.seq (4 * most * most + length c.in-Run.runs.later.items)
    (with_run c.args.asked.now (texts_of c.in-Run.runs.read) (run_read c.in-Run.runs.run) (map run_read c.in-Run.runs.later.items) c.in-Run.runs.series.items) c.args.bytes (Unit {0}) c.take_run.result
    refl c.in_ok-keep-in-Run.ensures c.take_run.ensures)
