use Rattle.std.proofs.Common.{rules, refl}
use Rattle.base.proofs.Counted.{loop_exit, loop_start, loop_step}
use Rattle.journal_records.specs.FieldReading.{text_at}
use Rattle.journal_records.specs.declared.cause.RecordCause.TheVariants.{NoMemory}
use Rattle.journal_records.proofs.fields.texts_of.Goals as goal

pub returns-in_err-text : goal.returns-in_err-text
returns-in_err-text c =
    loop_exit text_at NoMemory _ c.from_residual.result c.loop.counter c.args.count c.args.reader.now c.loop.reader c.loop.texts c.in_err-text.field-0.0 c.loop.invariant
    c.from_residual.ensures.1 c.in_err-text.ensures c.loop-test.true

pub loop-init : goal.loop-init
loop-init c = search (rules, loop_start)

pub loop-preserved : goal.loop-preserved
loop-preserved c = loop_step text_at _ _ _ _ _ _ _ _ refl c.in_ok-push.ensures.ok c.loop.invariant c.in_ok-text.ensures
