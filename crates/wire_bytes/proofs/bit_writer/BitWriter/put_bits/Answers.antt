use Rattle.std.proofs.Common.{◌++◌, refl, sym, ap, ◌∙◌, arith, length}
use Rattle.std.proofs.lemmas.List.{append-nil}
use Rattle.wire_bytes.specs.Bits.{bits_of}
use Rattle.wire_bytes.proofs.BitLists.{bits_of-nil}
use Rattle.wire_bytes.proofs.Writers.{put_within, put_past, puts_within, puts_past}
use Rattle.wire_bytes.proofs.bit_writer.BitWriter.put_bits.Goals as goal

pub returns-then-count-eq0-clause-ok : goal.returns-then-count-eq0-clause-ok
returns-then-count-eq0-clause-ok c = sym (ap (λ a. c.args.self.now ++ a) (ap (λ k. bits_of k c.args.value) c.if-count-eq0.true ∙ bits_of-nil _) ∙ append-nil c.args.self.now)

pub invariant_of-self-then-total-lt64 : goal.invariant_of-self-then-total-lt64
invariant_of-self-then-total-lt64 c =
    let i = c.self.inside in
    record { buffer = (put_within i.word i.count c.args.value c.args.count _ _ c.self.invariant.buffer c.requires c.if-total-lt64.true refl refl).0; room = λ _. c.in_ok-reserve.ensures.ok }

pub returns-in_ok-reserve-clause-ok : goal.returns-in_ok-reserve-clause-ok
returns-in_ok-reserve-clause-ok c =
    let i = c.self.inside in
    puts_within _ _ _ _ _ _ _ _ _ c.self.invariant.buffer c.requires c.if-total-lt64.true refl refl c.in_ok-reserve.ensures.items c.self.view_is

pub invariant_of-self-else-total-lt64 : goal.invariant_of-self-else-total-lt64
invariant_of-self-else-total-lt64 c =
    let i = c.self.inside in
    record {
      buffer = (put_past i.word i.count c.args.value c.args.count _ _ _ c.self.invariant.buffer c.requires c.if-total-lt64.false refl refl refl).0;
      room = λ _.
          let len = rw c.unwrap.ensures at c.extend_from_slice.ensures.len in
          omega (arith, len, ap length c.to_be_bytes.ensures, c.in_ok-reserve-2.ensures.ok, c.extend_from_slice.ensures.capacity);
    }

pub returns-in_ok-reserve-2-clause-ok : goal.returns-in_ok-reserve-2-clause-ok
returns-in_ok-reserve-2-clause-ok c =
    let i = c.self.inside in
    let items = rw c.unwrap.ensures at c.extend_from_slice.ensures.items in
    puts_past _ _ _ _ _ _ _ _ _ _ c.self.invariant.buffer c.requires c.if-total-lt64.false refl refl refl
    (items ∙ ap (λ a. a ++ c.to_be_bytes.result) c.in_ok-reserve-2.ensures.items ∙ ap (λ a. i.bytes.items ++ a) c.to_be_bytes.ensures) c.self.view_is
