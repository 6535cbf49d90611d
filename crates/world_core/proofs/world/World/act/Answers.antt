use Rattle.std.proofs.Common.{refl, ap}
use Rattle.world_core.proofs.Growing.{sound_more, sound_later, room}
use Rattle.world_core.proofs.world.World.act.Goals as goal

pub invariant_of-self : goal.invariant_of-self
invariant_of-self g c =
    let i = c.self.inside in
    sound_more g.B.Bucket.told i.bucket c.record.new.bucket i.journal c.record.new.self i.tick.ms i.last.ms i.kept c.moment_of-moment.result.ms c.saturating_add-self-inside.result c.args.seat c.args.op c.in-Ok.seen c.self.invariant
    (room c.is_full.result i.journal (rw (← c.self.view_is) at c.is_full.ensures) c.if-is_full.false) c.requires c.in-Ok.ensures.performed.kind c.put_size-size.ensures.bytes c.told_size.ensures.bytes c.in-Ok.ensures.seq (ap (λ m. m.ms) c.in-Ok.ensures.moment) (rw (← c.self.view_is) at c.moment_of-moment.ensures.value) c.moment_of-moment.ensures.bound (rw (c.saturating_add-self-inside.ensures, c.saturating_add.ensures, c.told_size.ensures.size, c.put_size-size.ensures.size) refl) c.in-Ok.ensures.performed.kept.later c.in-Ok.ensures.performed.kept.cause c.in-Ok.ensures.performed.told c.in-Ok.ensures.performed.left c.in-Ok.ensures.added

pub invariant_of-self-in-Err : goal.invariant_of-self-in-Err
invariant_of-self-in-Err g c =
    let i = c.self.inside in
    sound_later g.B.Bucket.told i.bucket c.record.new.bucket i.journal c.record.new.self i.tick.ms i.last.ms i.kept c.self.invariant c.in-Err.ensures.performed.kept.later c.in-Err.ensures.performed.left c.in-Err.ensures.err

pub returns-in-Ok-clause-holds : goal.returns-in-Ok-clause-holds
returns-in-Ok-clause-holds g c = (invariant_of-self g c).world
