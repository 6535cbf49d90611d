use Rattle.std.proofs.Common.{◌*◌, ◌∙◌, refl, ap, subst, arith}
use Rattle.block_keys.specs.declared.key.Key.TheVariants.{Index}
use Rattle.world_core.specs.declared.op.Op.TheVariants.{GetRange}
use Rattle.store_ranges.specs.Caches.{held}
use Rattle.store_ranges.specs.IndexRanges.{Piece}
use Rattle.store_ranges.specs.Reads.{range_of}
use Rattle.store_ranges.specs.Caching.{IsFromCache}
use Rattle.store_calls.specs.WorkStates.{most, left_at, lists_piece, with_lists}
use Rattle.store_calls.specs.declared.work.Work.TheVariants.{Lists}
use Rattle.store_calls.specs.declared.work.Step.TheVariants.{Wait}
use Rattle.store_calls.proofs.Leading.{keeps_all}
use Rattle.store_calls.proofs.Waiting.{leads_cached, leads_absent}
use Rattle.store_calls.proofs.index_steps.want_lists.Goals as goal

pub returns-in-Some : goal.returns-in-Some
returns-in-Some c =
    leads_cached c.args.asked.now (held c.args.cache.now) (held c.from_cache.new.cache) c.args.last (lists_piece c.args.read.first.places) (with_lists c.args.asked.now c.args.read) (held c.take_lists.new.cache) (5 * most * most) (6 * most * most) c.in-Some.bytes c.take_lists.result (omega arith)
    (subst (λ found. IsFromCache (range_of (Index c.args.asked.now.ulid) (lists_piece c.args.read.first.places)) (held c.args.cache.now) found (held c.from_cache.new.cache)) c.in-Some.is
    (subst (λ p. IsFromCache (range_of (Index c.args.asked.now.ulid) p) (held c.args.cache.now) c.in_ok-bytes.field-0 (held c.from_cache.new.cache)) c.lists_range-range.ensures.value c.in_ok-bytes.ensures))
    c.take_lists.ensures

pub returns-in-None : goal.returns-in-None
returns-in-None c =
    leads_absent c.args.asked.now (held c.args.cache.now) (held c.from_cache.new.cache) c.args.last (lists_piece c.args.read.first.places) (with_lists c.args.asked.now c.args.read) (6 * most * most) (Lists c.args.read) c.ask_range.result
    (subst (λ found. IsFromCache (range_of (Index c.args.asked.now.ulid) (lists_piece c.args.read.first.places)) (held c.args.cache.now) found (held c.from_cache.new.cache)) c.in-None.is
    (subst (λ p. IsFromCache (range_of (Index c.args.asked.now.ulid) p) (held c.args.cache.now) c.in_ok-bytes.field-0 (held c.from_cache.new.cache)) c.lists_range-range.ensures.value c.in_ok-bytes.ensures))
    (c.ask_range.ensures ∙ ap (λ (p : Piece). Wait (GetRange (Index c.args.asked.now.ulid) p.from p.len) (Lists c.args.read)) c.lists_range-range.ensures.value)
    refl (omega arith) tt (keeps_all (left_at c.args.asked.now (Lists c.args.read) (held c.from_cache.new.cache)))
