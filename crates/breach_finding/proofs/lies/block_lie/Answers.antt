use Rattle.std.proofs.Common.{List, ℕ, subst}
use Rattle.ulid_core.specs.UlidText.{text_of}
use Rattle.bucket_core.specs.Contents.{Contents}
use Rattle.world_core.specs.declared.entry.Entry.{Entry}
use Rattle.breach_finding.specs.Standings.{IsStanding}
use Rattle.lifecycle_core.specs.Breaches.{shown_by}
use Rattle.breach_finding.specs.Told.{IsPageWrong, IsShownWrong, names_text}
use Rattle.breach_finding.proofs.lies.block_lie.Goals as goal
use Rattle.base.proofs.Options.{if_ok}

pub returns : goal.returns
returns c =
    if_ok (IsShownWrong (shown_by c.args.reply.now) (names_text c.members.result.now))
    (λ told. (entries : List Entry) → (contents : Contents) → IsStanding entries c.args.standing.now contents → IsPageWrong contents (text_of c.args.ulid) c.args.after.now c.args.limit c.args.reply.now told)
    c.names_lie.result c.names_lie.ensures
    (λ told wrong entries contents is. (c.in_ok-owed.owed, c.in_ok-owed.ensures entries contents is, subst (λ (ns : List (List ℕ)). IsShownWrong (shown_by c.args.reply.now) (names_text ns) told) c.members.ensures wrong))
