use Rattle.std.proofs.Common.{◌≡◌, ◌≤◌, ◌++◌, ◌∷◌, [], ℕ, length, rules, sym, ap, subst, ◌∙◌}
use Rattle.block_writing.specs.Put.{Put, IsStored, IsAfterChunks, with_chunk}
use Rattle.block_writing.proofs.DataLaws.{data_fit}
use Rattle.block_writing.proofs.Puts.{chunk_put}
use Rattle.block_writing.proofs.block_writer.BlockWriter.put_chunk.Goals as goal

pub append_chunk-requires-clause-fits : goal.append_chunk-requires-clause-fits
append_chunk-requires-clause-fits c = data_fit c.args.self.now.plan (record { content = c.args.bytes.now; min = c.args.min; max = c.args.max }) c.requires.stored

pub invariant_of-self-2 : goal.invariant_of-self-2
invariant_of-self-2 c =
    let few : length c.append_chunk.new.segments.items ≤ 999_999 = search rules in
    let put : c.push_reserved.new.self.items ≡ c.self.inside.chunks.items ++ record { min = c.args.min; max = c.args.max; segment = c.in_ok-place.place.segment; offset = c.in_ok-place.place.offset } ∷ [] = search rules in
    (chunk_put c.self.inside.plan c.self.inside.segments.items c.append_chunk.new.segments.items c.self.inside.index c.self.inside.chunks.items c.push_reserved.new.self.items c.self.inside.counts c.with_chunk-self-inside.result
    c.args.bytes.now c.args.min c.args.max c.in_ok-place.place.segment c.in_ok-place.place.offset c.count_of.result c.self.invariant c.in_ok-place.ensures.ok few c.in_ok-place.ensures.number
    (subst (λ (p : Put). IsStored p.plan (record { content = c.args.bytes.now; min = c.args.min; max = c.args.max })) (sym c.self.view_is) c.requires.stored)
    (subst (λ (p : Put). IsAfterChunks p.chunks c.args.min) (sym c.self.view_is) c.requires.after) put c.with_chunk-self-inside.ensures).writing

pub returns-clause-ok : goal.returns-clause-ok
returns-clause-ok c samples text =
    let few : length c.append_chunk.new.segments.items ≤ 999_999 = search rules in
    let put : c.push_reserved.new.self.items ≡ c.self.inside.chunks.items ++ record { min = c.args.min; max = c.args.max; segment = c.in_ok-place.place.segment; offset = c.in_ok-place.place.offset } ∷ [] = search rules in
    (chunk_put c.self.inside.plan c.self.inside.segments.items c.append_chunk.new.segments.items c.self.inside.index c.self.inside.chunks.items c.push_reserved.new.self.items c.self.inside.counts c.with_chunk-self-inside.result
    c.args.bytes.now c.args.min c.args.max c.in_ok-place.place.segment c.in_ok-place.place.offset c.count_of.result c.self.invariant c.in_ok-place.ensures.ok few c.in_ok-place.ensures.number
    (subst (λ (p : Put). IsStored p.plan (record { content = c.args.bytes.now; min = c.args.min; max = c.args.max })) (sym c.self.view_is) c.requires.stored)
    (subst (λ (p : Put). IsAfterChunks p.chunks c.args.min) (sym c.self.view_is) c.requires.after) put c.with_chunk-self-inside.ensures).view_is
    ∙ ap (λ (p : Put). with_chunk p (record { content = c.args.bytes.now; min = c.args.min; max = c.args.max }) c.count_of.result) c.self.view_is
    ∙ ap (λ (n : ℕ). with_chunk c.args.self.now (record { content = c.args.bytes.now; min = c.args.min; max = c.args.max }) n) (c.count_of.ensures samples text)

pub count_of-requires : goal.count_of-requires
count_of-requires c = (c.requires.stored.samples, c.requires.stored.text_is)
