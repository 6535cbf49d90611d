use Rattle.std.proofs.Common.{subst, ◌<◌, ◌^◌}
use Rattle.ulid_core.proofs.UlidLaws.{slice_cmp-text_of}
use Rattle.ulid_core.proofs.ulid.Ulid.texts_are_ordered.Goals as goal

pub returns : goal.returns
returns c =
    slice_cmp-text_of c.args.self c.args.other
    (subst (λ n. n < 2 ^ 128) c.self.view_is c.self.invariant) (subst (λ n. n < 2 ^ 128) c.other.view_is c.other.invariant)
