use Rattle.std.proofs.Common.{rules}
use Rattle.chunk_files.specs.Chunk.{frame_text}
use Rattle.block_writing.proofs.Runs.{last_put}
use Rattle.block_writing.proofs.segments.append_to_last.Goals as goal

pub returns-in-Some-clause-ok : goal.returns-in-Some-clause-ok
returns-in-Some-clause-ok c front last e =
    last_put c.append_one.result c.args.segments.now.items front last c.in-Some.last.now c.append_one.new.writer (frame_text c.args.bytes.now) _ (search rules) e c.in-Some.ensures.value c.append_one.ensures.offset c.append_one.ensures.ok
