use Rattle.std.proofs.Common.{◌*◌, ◌∙◌, refl, ap, subst, arith}
use Rattle.block_keys.specs.declared.key.Key.TheVariants.{Index}
use Rattle.world_core.specs.declared.op.Op.TheVariants.{GetRange}
use Rattle.store_ranges.specs.Caches.{held}
use Rattle.store_ranges.specs.IndexRanges.{Piece}
use Rattle.store_ranges.specs.Reads.{range_of}
use Rattle.store_ranges.specs.Caching.{IsFromCache}
use Rattle.store_calls.specs.WorkStates.{most, left_at, table_piece, with_table}
use Rattle.store_calls.specs.declared.work.Work.TheVariants.{Table}
use Rattle.store_calls.specs.declared.work.Step.TheVariants.{Wait}
use Rattle.store_calls.proofs.Leading.{keeps_all}
use Rattle.store_calls.proofs.Waiting.{leads_cached, leads_absent}
use Rattle.store_calls.proofs.index_steps.want_table.Goals as goal

pub returns-in-Some : goal.returns-in-Some
returns-in-Some c =
    leads_cached c.args.asked.now (held c.args.cache.now) (held c.from_cache.new.cache) c.args.last (table_piece c.args.read.places) (with_table c.args.asked.now c.args.read) (held c.take_table.new.cache) (6 * most * most) (7 * most * most) c.in-Some.bytes c.take_table.result (omega arith)
    (subst (λ found. IsFromCache (range_of (Index c.args.asked.now.ulid) (table_piece c.args.read.places)) (held c.args.cache.now) found (held c.from_cache.new.cache)) c.in-Some.is
    (subst (λ p. IsFromCache (range_of (Index c.args.asked.now.ulid) p) (held c.args.cache.now) c.in_ok-bytes.field-0 (held c.from_cache.new.cache)) c.table_range-range.ensures.value c.in_ok-bytes.ensures))
    c.take_table.ensures

pub returns-in-None : goal.returns-in-None
returns-in-None c =
    leads_absent c.args.asked.now (held c.args.cache.now) (held c.from_cache.new.cache) c.args.last (table_piece c.args.read.places) (with_table c.args.asked.now c.args.read) (7 * most * most) (Table c.args.read) c.ask_range.result
    (subst (λ found. IsFromCache (range_of (Index c.args.asked.now.ulid) (table_piece c.args.read.places)) (held c.args.cache.now) found (held c.from_cache.new.cache)) c.in-None.is
    (subst (λ p. IsFromCache (range_of (Index c.args.asked.now.ulid) p) (held c.args.cache.now) c.in_ok-bytes.field-0 (held c.from_cache.new.cache)) c.table_range-range.ensures.value c.in_ok-bytes.ensures))
    (c.ask_range.ensures ∙ ap (λ (p : Piece). Wait (GetRange (Index c.args.asked.now.ulid) p.from p.len) (Table c.args.read)) c.table_range-range.ensures.value)
    refl (omega arith) tt (keeps_all (left_at c.args.asked.now (Table c.args.read) (held c.from_cache.new.cache)))
