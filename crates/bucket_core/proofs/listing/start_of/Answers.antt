use Rattle.std.proofs.Common.{◌∙◌}
use Rattle.bucket_core.proofs.PageOf.{root_start, folder_start}
use Rattle.bucket_core.proofs.listing.start_of.Goals as goal

pub returns-then-is_empty : goal.returns-then-is_empty
returns-then-is_empty c =
    root_start c.args.within.now c.args.after.now c.args.objects.now c.place_of.result c.if-is_empty.ensures c.requires c.place_of.ensures

pub returns : goal.returns
returns c =
    folder_start c.args.within.now c.args.after.now c.as_str.result.now c.args.objects.now c.place_of-2.result
    c.if-is_empty.ensures (c.as_str.ensures.value ∙ c.in_ok-key.ensures) c.requires c.place_of-2.ensures
