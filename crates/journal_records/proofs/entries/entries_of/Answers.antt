use Rattle.std.proofs.Common.{◌≡◌, ℕ, ◌+◌, List, Ok, refl, sym, subst}
use Rattle.base.specs.Members.{members_at}
use Rattle.base.proofs.Counted.{loop_exit, loop_start, loop_step}
use Rattle.wire_bytes.specs.Position.{Position}
use Rattle.world_core.specs.declared.entry.Entry.{Entry}
use Rattle.journal_records.specs.RecordReading.{turn_at}
use Rattle.journal_records.specs.declared.cause.RecordCause.TheVariants.{NoMemory}
use Rattle.journal_records.proofs.entries.entries_of.Goals as goal

pub loop-place-init : goal.loop-place-init
loop-place-init c =
    let s : Position × ℕ = (c.args.reader.now, 1) in
    subst (λ (es : List Entry). members_at turn_at 0 s ≡ Ok (es, s)) (sym c.in_ok-entries.ensures) (loop_start turn_at s)

pub returns-in_err-entry : goal.returns-in_err-entry
returns-in_err-entry c =
    loop_exit turn_at NoMemory _ c.from_residual-in_err-entry.result c.loop-place.place c.args.count (c.args.reader.now, 1) (c.loop-place.reader, c.loop-place.place + 1) c.loop-place.entries c.in_err-entry.field-0.0 c.loop-place.invariant
    c.from_residual-in_err-entry.ensures.1 c.in_err-entry.ensures c.loop-place-test.true

pub loop-place-preserved : goal.loop-place-preserved
loop-place-preserved c = loop_step turn_at _ _ _ _ _ _ _ _ refl c.in_ok-push.ensures.ok c.loop-place.invariant c.in_ok-entry.ensures
