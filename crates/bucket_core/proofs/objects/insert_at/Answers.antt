use Rattle.bucket_core.proofs.AtPlace.{inserted_at}
use Rattle.bucket_core.proofs.objects.insert_at.Goals as goal

pub returns-clause-ok : goal.returns-clause-ok
returns-clause-ok c =
    rw c.in_ok-insert.ensures.items
    (inserted_at c.args.object c.args.objects.now.items c.args.place c.requires.ordered c.requires.keys c.requires.key c.requires.place c.requires.free)
