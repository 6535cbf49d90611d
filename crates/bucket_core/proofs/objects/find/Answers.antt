use Rattle.std.proofs.Common.{sym}
use Rattle.std.proofs.lemmas.Bool.{iff_false}
use Rattle.bucket_core.proofs.AtPlace.{found_at, absent_at}
use Rattle.bucket_core.proofs.objects.find.Goals as goal

pub returns-then-stands_at : goal.returns-then-stands_at
returns-then-stands_at c =
    sym (found_at c.args.key.now c.args.objects.now c.place_of-place.result c.index-objects-place.result c.place_of-place.ensures (c.stands_at.ensures.0 c.if-stands_at.true))

pub returns-else-stands_at : goal.returns-else-stands_at
returns-else-stands_at c =
    sym (absent_at c.args.key.now c.args.objects.now c.place_of-place.result c.requires c.place_of-place.ensures (iff_false c.stands_at.ensures c.if-stands_at.false))
