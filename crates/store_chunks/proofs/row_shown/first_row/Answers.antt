use Rattle.std.proofs.Common.{◌∙◌, ap, sym, refl}
use Rattle.std.specs.Prelude.{not}
use Rattle.std.specs.List.{list_all}
use Rattle.std.proofs.lemmas.List.{nil_from_length}
use Rattle.index_parts.specs.declared.chunk_place.ChunkPlace.{ChunkPlace}
use Rattle.store_ranges.specs.Asking.{query_asked}
use Rattle.store_ranges.specs.ChunkRanges.{meets}
use Rattle.store_chunks.specs.RowsFit.{references_taken}
use Rattle.store_chunks.proofs.RowSamples.{none_named, some_named, took_none, took_first, took_nothing}
use Rattle.store_chunks.proofs.row_shown.first_row.Goals as goal

pub returns-then-takes_none : goal.returns-then-takes_none
returns-then-takes_none c = λ others begins. took_none (references_taken (query_asked c.args.asked.now) c.args.series.now) c.args.left.now.items c.args.left.now.items others c.new.result.items
    (none_named (meets c.args.asked.now.low c.args.asked.now.high) c.args.series.now.chunks
    (ap (list_all (λ (place : ChunkPlace). not (meets c.args.asked.now.low c.args.asked.now.high place))) (sym c.members.ensures) ∙ sym c.takes_none.ensures ∙ c.if-takes_none.true))
    refl c.new.ensures.items begins

pub returns-in-Some : goal.returns-in-Some
returns-in-Some c = λ others begins. took_first (references_taken (query_asked c.args.asked.now) c.args.series.now) c.args.left.now.items c.pop_front.new.self.items others c.in-Some.row c.in-Some.row.samples.items
    (some_named (meets c.args.asked.now.low c.args.asked.now.high) c.args.series.now.chunks
    (ap (list_all (λ (place : ChunkPlace). not (meets c.args.asked.now.low c.args.asked.now.high place))) (sym c.members.ensures) ∙ sym c.takes_none.ensures ∙ c.if-takes_none.false))
    c.in-Some.ensures.items refl begins

pub returns-in-None : goal.returns-in-None
returns-in-None c = λ others begins. took_nothing (references_taken (query_asked c.args.asked.now) c.args.series.now) c.args.left.now.items c.pop_front.new.self.items others c.new-in-None.result.items
    (some_named (meets c.args.asked.now.low c.args.asked.now.high) c.args.series.now.chunks
    (ap (list_all (λ (place : ChunkPlace). not (meets c.args.asked.now.low c.args.asked.now.high place))) (sym c.members.ensures) ∙ sym c.takes_none.ensures ∙ c.if-takes_none.false))
    (nil_from_length c.args.left.now.items (sym c.args.left.now.ok.0 ∙ c.in-None.ensures.cases.0)) begins
