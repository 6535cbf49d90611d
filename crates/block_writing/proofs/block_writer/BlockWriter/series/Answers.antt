use Rattle.std.proofs.Common.{◌≡◌, [], ◌∷◌, ◌++◌, List, rules, sym, ap, subst, ◌∙◌}
use Rattle.index_parts.specs.declared.chunk_place.ChunkPlace.{ChunkPlace}
use Rattle.index_parts.specs.declared.index_series.IndexSeries.{IndexSeries}
use Rattle.block_writing.specs.Put.{Put, IsAfterSeries, with_series}
use Rattle.block_writing.specs.Writing.{IsWriting}
use Rattle.block_writing.proofs.Puts.{behind_put, series_put}
use Rattle.block_writing.proofs.block_writer.BlockWriter.series.Goals as goal

pub add-added-requires-clause-greater : goal.add-added-requires-clause-greater
add-added-requires-clause-greater c =
    behind_put c.self.inside.segments.items c.self.inside.index c.args.labels (subst (λ (p : Put). IsAfterSeries p.series c.args.labels) (sym c.self.view_is) c.requires.greater)

pub invariant_of-self : goal.invariant_of-self
invariant_of-self c =
    let chunks : c.into_vec.result.items ≡ c.self.inside.chunks.items = search rules in
    let index : c.add-added.new.self ≡ c.self.inside.index = c.in_err-added.ensures.err in
    subst (λ (l : List IndexSeries). IsWriting c.self.inside.plan c.self.inside.segments.items l c.into_vec.result.items c.self.inside.counts) (sym index)
    (subst (λ (l : List ChunkPlace). IsWriting c.self.inside.plan c.self.inside.segments.items c.self.inside.index l c.self.inside.counts) (sym chunks) c.self.invariant)

pub invariant_of-self-2 : goal.invariant_of-self-2
invariant_of-self-2 c =
    let more : c.add-added.new.self ≡ c.self.inside.index ++ record { labels = c.args.labels; chunks = c.self.inside.chunks.items } ∷ [] = search rules in
    (series_put c.self.inside.plan c.self.inside.segments.items c.self.inside.index c.add-added.new.self c.self.inside.chunks.items c.clear.new.self.items c.self.inside.counts c.with_series-self-inside.result c.args.labels c.self.invariant
    (λ none. c.requires.some (sym (ap (λ (p : Put). p.chunks) c.self.view_is) ∙ none)) (subst (λ (p : Put). IsAfterSeries p.series c.args.labels) (sym c.self.view_is) c.requires.greater)
    more c.clear.ensures.items c.with_series-self-inside.ensures).writing

pub returns-clause-ok : goal.returns-clause-ok
returns-clause-ok c =
    let more : c.add-added.new.self ≡ c.self.inside.index ++ record { labels = c.args.labels; chunks = c.self.inside.chunks.items } ∷ [] = search rules in
    (series_put c.self.inside.plan c.self.inside.segments.items c.self.inside.index c.add-added.new.self c.self.inside.chunks.items c.clear.new.self.items c.self.inside.counts c.with_series-self-inside.result c.args.labels c.self.invariant
    (λ none. c.requires.some (sym (ap (λ (p : Put). p.chunks) c.self.view_is) ∙ none)) (subst (λ (p : Put). IsAfterSeries p.series c.args.labels) (sym c.self.view_is) c.requires.greater)
    more c.clear.ensures.items c.with_series-self-inside.ensures).view_is
    ∙ ap (λ (p : Put). with_series p c.args.labels) c.self.view_is
