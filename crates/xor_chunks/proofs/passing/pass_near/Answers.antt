use Rattle.std.proofs.Common.{refl, ◌∙◌, arith}
use Rattle.wire_bytes.specs.Bits.{bits_in}
use Rattle.xor_chunks.proofs.Peeks.{shows_less}
use Rattle.xor_chunks.proofs.BitPlaces.{ends_on, bits_left}
use Rattle.xor_chunks.proofs.passing.pass_near.Goals as goal

pub loop-left-init : goal.loop-left-init
loop-left-init c = (refl, c.requires.within)

pub loop-left-preserved : goal.loop-left-preserved
loop-left-preserved c = (
  ends_on _ _ _ c.loop-left.place _ _ _ _ _ _ (bits_in c.args.bytes.now) c.loop-left.invariant.0 c.loop-left-test.true refl refl
      (c.in-Some.ensures.passed _ (shows_less _ _ _ _ (omega arith) c.word_at.ensures) (bits_left _ _ _ c.if-place-greatest.true refl c.requires.room))
      ∙ c.pass_window-more.ensures.end,
  c.pass_window-more.ensures.within,
)

pub loop-left-smaller : goal.loop-left-smaller
loop-left-smaller c = omega arith
