use Rattle.std.proofs.Common.{◌≡◌, arith, rules, refl, sym, subst, ◌∙◌, length}
use Rattle.block_writing.specs.Segments.{AreSegments}
use Rattle.block_writing.proofs.Runs.{grow_put, begin_put, none_due, full_error, ok_not_full}
use Rattle.block_writing.proofs.segments.append_chunk.Goals as goal

pub returns-then-count-eq0-clause-ok : goal.returns-then-count-eq0-clause-ok
returns-then-count-eq0-clause-ok c contents places h =
    let none : length c.args.segments.now.items ≡ 0 = search rules in
    begin_put c.begin_segment.result contents places c.args.segments.now.items c.begin_segment.new.segments.items c.args.bytes.now h c.requires.fits (λ front last e. none_due c.args.segments.now.items front last _ none e) c.begin_segment.ensures.ok

pub returns-in-Ok-clause-ok : goal.returns-in-Ok-clause-ok
returns-in-Ok-clause-ok c contents places h =
    let many : c.len-count.result ≡ length c.args.segments.now.items = search rules in
    grow_put contents places c.args.segments.now.items c.append_to_last.new.segments.items c.args.bytes.now c.len-count.result _ c.in-Ok.offset h many (omega arith) refl
    (λ front last e. c.in-Ok.ensures.ok front last e)
    (λ front last e lt. ok_not_full c.in-Ok.offset ((c.in-Ok.ensures.full front last e).1 lt))

pub returns-in-Err-Full-clause-ok : goal.returns-in-Err-Full-clause-ok
returns-in-Err-Full-clause-ok c contents places h =
    let same : c.append_to_last.new.segments.items ≡ c.args.segments.now.items = c.in-Err-Full.ensures.err in
    begin_put c.begin_segment-in-Err-Full.result contents places c.append_to_last.new.segments.items c.begin_segment-in-Err-Full.new.segments.items c.args.bytes.now
    (subst (AreSegments contents places) (sym same) h) c.requires.fits
    (λ front last e. (c.in-Err-Full.ensures.full front last (sym same ∙ e)).0 (full_error _ c.in-Err-Full.field-0-is)) c.begin_segment-in-Err-Full.ensures.ok
