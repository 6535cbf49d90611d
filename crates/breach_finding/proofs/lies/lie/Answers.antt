use Rattle.std.proofs.Common.{◌≡◌, List, [], ℕ, Some, sym, subst}
use Rattle.std.specs.Option.{option_copied}
use Rattle.ulid_core.specs.UlidText.{text_of}
use Rattle.bucket_core.specs.Contents.{Contents}
use Rattle.world_core.specs.Operations.{IsReplyTo}
use Rattle.world_core.specs.Standing.{stands}
use Rattle.world_core.specs.declared.entry.Entry.{Entry}
use Rattle.breach_finding.specs.Standings.{IsStanding}
use Rattle.world_core.specs.declared.op.Op.{Op}
use Rattle.world_core.specs.declared.reply.Reply.{Reply}
use Rattle.lifecycle_core.specs.Breaches.{IsLie, shown_by}
use Rattle.breach_finding.specs.Told.{IsPageWrong, IsTold}
use Rattle.breach_finding.proofs.Owed.{block_told, clock_silent, delete_silent, get_told, part_told, put_silent, root_told, silent_told}
use Rattle.breach_finding.proofs.lies.lie.Goals as goal
use Rattle.base.proofs.Options.{if_ok}

pub returns-in-Get : goal.returns-in-Get
returns-in-Get c before is = get_told before c.args.entry.now c.object_lie.result c.in-Get.key (option_copied c.get.result) c.in-Get.is (c.get.ensures (stands before) is) c.object_lie.ensures

pub returns-in-GetRange : goal.returns-in-GetRange
returns-in-GetRange c before is =
    part_told before c.args.entry.now c.part_lie.result c.in-GetRange.key c.in-GetRange.from c.in-GetRange.len (option_copied c.get-in-GetRange.result) c.in-GetRange.is (c.get-in-GetRange.ensures (stands before) is) c.part_lie.ensures

pub returns-in-RootPage : goal.returns-in-RootPage
returns-in-RootPage c =
    if_ok (λ told. (entries : List Entry) → (contents : Contents) → IsStanding entries c.args.standing.now contents → IsPageWrong contents [] c.as_str.result.now c.in-RootPage.limit c.args.entry.now.reply told)
    (λ told. (before : List Entry) → IsStanding c.args.entries.now c.args.standing.now (stands before) → IsTold (IsLie before c.args.entry.now) told)
    c.root_lie.result c.root_lie.ensures
    (λ told wrong before is. root_told before c.args.entry.now told c.in-RootPage.after c.in-RootPage.limit c.in-RootPage.is
    (subst (λ (t : List ℕ). IsPageWrong (stands before) [] t c.in-RootPage.limit c.args.entry.now.reply told) c.as_str.ensures (wrong c.args.entries.now (stands before) is)))

pub returns-in-BlockPage : goal.returns-in-BlockPage
returns-in-BlockPage c =
    if_ok (λ told. (entries : List Entry) → (contents : Contents) → IsStanding entries c.args.standing.now contents → IsPageWrong contents (text_of c.in-BlockPage.ulid) c.as_str-in-BlockPage.result.now c.in-BlockPage.limit c.args.entry.now.reply told)
    (λ told. (before : List Entry) → IsStanding c.args.entries.now c.args.standing.now (stands before) → IsTold (IsLie before c.args.entry.now) told)
    c.block_lie.result c.block_lie.ensures
    (λ told wrong before is. block_told before c.args.entry.now told c.in-BlockPage.ulid c.in-BlockPage.after c.in-BlockPage.limit c.in-BlockPage.is
    (subst (λ (t : List ℕ). IsPageWrong (stands before) (text_of c.in-BlockPage.ulid) t c.in-BlockPage.limit c.args.entry.now.reply told) c.as_str-in-BlockPage.ensures (wrong c.args.entries.now (stands before) is)))

pub returns-in-Clock : goal.returns-in-Clock
returns-in-Clock c before is = silent_told before c.args.entry.now (subst (λ (o : Op). (reply : Reply) (text : List ℕ) → IsReplyTo o reply → shown_by reply ≡ Some text → ⊥) (sym c.in-Clock.is) (clock_silent c.in-Clock.field-0))

pub returns-in-Put : goal.returns-in-Put
returns-in-Put c before is = silent_told before c.args.entry.now (subst (λ (o : Op). (reply : Reply) (text : List ℕ) → IsReplyTo o reply → shown_by reply ≡ Some text → ⊥) (sym c.in-Put.is) (put_silent c.in-Put.field-0 c.in-Put.field-1))

pub returns-in-Delete : goal.returns-in-Delete
returns-in-Delete c before is = silent_told before c.args.entry.now (subst (λ (o : Op). (reply : Reply) (text : List ℕ) → IsReplyTo o reply → shown_by reply ≡ Some text → ⊥) (sym c.in-Delete.is) (delete_silent c.in-Delete.field-0))
