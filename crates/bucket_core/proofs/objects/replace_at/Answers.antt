use Rattle.std.proofs.Common.{ap, ◌∙◌}
use Rattle.bucket_core.proofs.AtPlace.{replaced_at}
use Rattle.bucket_core.proofs.objects.replace_at.Goals as goal

pub returns : goal.returns
returns c =
    replaced_at c.args.key.now c.args.objects.now.items c.args.place (record { key = c.index_mut.result.now.key; bytes = c.args.bytes })
    c.requires.ordered c.requires.keys c.requires.place c.requires.stands
    (ap (λ o. o.key) c.index_mut.ensures.value ∙ c.requires.stands.1 c.index_mut.result.now)
