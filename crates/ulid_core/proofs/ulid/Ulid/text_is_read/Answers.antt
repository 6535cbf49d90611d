use Rattle.std.proofs.Common.{subst, ◌<◌, ◌^◌}
use Rattle.ulid_core.proofs.UlidLaws.{IsUlidText-text_of, ulid_of-only}
use Rattle.ulid_core.proofs.ulid.Ulid.text_is_read.Goals as goal

pub returns : goal.returns
returns c = ulid_of-only _ _ (IsUlidText-text_of c.args.self (subst (λ n. n < 2 ^ 128) c.self.view_is c.self.invariant))
