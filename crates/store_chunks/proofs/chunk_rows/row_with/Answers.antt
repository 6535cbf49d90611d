use Rattle.std.proofs.Common.{◌∙◌, arith}
use Rattle.store_chunks.proofs.ChunkBehind.{some_behind, none_behind}
use Rattle.store_chunks.proofs.Rows.{count_behind, whole_still, row_with_more}
use Rattle.store_chunks.proofs.chunk_rows.row_with.Goals as goal

pub returns-in-None : goal.returns-in-None
returns-in-None c = none_behind (λ all. all.items) c.args.row.samples.items _ c.in_ok-samples.field-0 c.in-None.is c.in_ok-samples.ensures

pub invariant_of-result : goal.invariant_of-result
invariant_of-result c =
    let read = some_behind (λ all. all.items) c.args.row.samples.items _ c.in_ok-samples.field-0 c.in-Some.samples c.in-Some.is c.in_ok-samples.ensures in
    record {
      whole = whole_still c.args.row.samples.items read.0 c.in-Some.samples.items c.args.row.chunks.items c.push.new.self.items (record { reference = c.args.reference; count = c.saturating_sub-count.result })
          read.2 c.in_ok-push.ensures.items c.args.row.whole
          (count_behind c.args.row.samples.items read.0 c.in-Some.samples.items c.len-before.result c.saturating_sub-count.result read.2 (c.len-before.ensures ∙ c.args.row.samples.ok.0)
          (omega (arith, c.saturating_sub-count.ensures, c.len.ensures, c.in-Some.samples.ok.0)));
    }

pub returns : goal.returns
returns c =
    let read = some_behind (λ all. all.items) c.args.row.samples.items _ c.in_ok-samples.field-0 c.in-Some.samples c.in-Some.is c.in_ok-samples.ensures in (
      read.0,
      read.1,
      row_with_more c.args.row.samples.items read.0 c.in-Some.samples.items c.args.row.chunks.items c.push.new.self.items (record { reference = c.args.reference; count = c.saturating_sub-count.result })
          read.2 c.in_ok-push.ensures.items c.args.row.whole
          (count_behind c.args.row.samples.items read.0 c.in-Some.samples.items c.len-before.result c.saturating_sub-count.result read.2 (c.len-before.ensures ∙ c.args.row.samples.ok.0)
          (omega (arith, c.saturating_sub-count.ensures, c.len.ensures, c.in-Some.samples.ok.0))),
    )
