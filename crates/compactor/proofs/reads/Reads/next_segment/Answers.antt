use Rattle.std.proofs.Common.{◌≡◌, ◌∙◌, ◌≤◌, ◌+◌, ◌-◌, ℕ, suc, length, Some, sym, ap, subst, arith}
use Rattle.block_keys.specs.Keys.{IsLawfulKey}
use Rattle.world_core.specs.Plans.{Runs}
use Rattle.world_core.specs.declared.op.Op.TheVariants as op
use Rattle.world_core.specs.Leads.{LeadsBy}
use Rattle.compactor.specs.Reading.{blocks_of}
use Rattle.compactor.specs.ReadStates.{segments_of, left_at, left_of, asked_at, asked_read}
use Rattle.compactor.specs.declared.reads.ReadStage.{ReadStage}
use Rattle.compactor.specs.Named.{named_segments}
use Rattle.compactor.specs.ReadRoom.{others_of}
use Rattle.compactor.proofs.ReadRooms.{none_waits, next_waits, pushed_named, pushed_many}
use Rattle.world_core.proofs.LeadSteps.{falls_more}
use Rattle.compactor.proofs.reads.Reads.next_segment.Goals as goal

pub returns-then-more-gt0-clause-leads : goal.returns-then-more-gt0-clause-leads
returns-then-more-gt0-clause-leads c = λ last number moment.
    let one_less : suc (c.args.more - 1) ≡ c.args.more = omega (arith, c.if-more-gt0.true) in
    let within : length c.args.input.segments + 1 ≤ 999_999 = omega (arith, c.if-more-gt0.true, c.requires.room) in
    record {
      lawful = subst IsLawfulKey (sym c.next_key-key.ensures) (omega arith, within);
      asks = ap asked_at c.replace.ensures.after ∙ ap (λ k. Some (op.Get k)) (sym c.next_key-key.ensures);
      onward = λ entries end run. subst (λ (n : ℕ). Runs (segments_of c.args.self.now.inputs c.args.self.now.waiting.items c.args.input n last) entries end) one_less
          (subst (λ (stage : ReadStage). Runs (left_at stage c.args.self.now.inputs c.args.self.now.waiting.items) entries end) c.replace.ensures.after run);
    }

pub returns-in_ok-push-clause-leads : goal.returns-in_ok-push-clause-leads
returns-in_ok-push-clause-leads c = λ last number moment.
    let none : 0 ≡ c.args.more = omega (arith, c.if-more-gt0.false) in
    subst (λ (n : ℕ). LeadsBy left_of asked_read (segments_of c.args.self.now.inputs c.args.self.now.waiting.items c.args.input n last) c.next_block.result c.next_block.new.self) none
    (subst (λ l. LeadsBy left_of asked_read (blocks_of l c.args.self.now.waiting.items last) c.next_block.result c.next_block.new.self) c.in_ok-push.ensures.ok
    (c.next_block.ensures.leads last number moment))

pub returns-in_ok-push-clause-falls : goal.returns-in_ok-push-clause-falls
returns-in_ok-push-clause-falls c = falls_more _ _ c.next_block.result _ (omega arith) c.next_block.ensures.falls

pub invariant_of-self-else-more-gt0 : goal.invariant_of-self-else-more-gt0
invariant_of-self-else-more-gt0 c = record {
  room = c.args.self.now.room;
  named = pushed_named c.push.result c.args.self.now.inputs c.push.new.self c.args.input c.push.ensures.ok c.push.ensures.err c.args.self.now.named
      (none_waits (named_segments c.args.input.index.bytes) (length c.args.input.segments) c.args.more (omega (arith, c.if-more-gt0.false)) c.requires.named);
  names = c.args.self.now.names;
  many = pushed_many c.push.result c.args.self.now.inputs c.push.new.self c.args.input (others_of c.args.self.now.stage) (length c.args.self.now.waiting.items) c.push.ensures.ok c.push.ensures.err c.args.self.now.many;
}
