use Rattle.std.proofs.Common.{◌≤◌, ◌/◌, take, length, sym, ap, subst, refl, ◌∙◌, arith}
use Rattle.std.proofs.lemmas.List.{take_rest, length-drop}
use Rattle.wire_bytes.specs.Bits.{bits_in}
use Rattle.xor_chunks.proofs.BitPlaces.{word_shows}
use Rattle.xor_chunks.proofs.passing.word_at.Goals as goal

pub first_word-requires : goal.first_word-requires
first_word-requires c = subst (λ l. 8 ≤ length l) (sym (take_rest _ (c.args.place / 8))) (omega (arith, length-drop (c.args.place / 8) c.args.bytes.now))

pub returns : goal.returns
returns c =
    word_shows _ _ _ _ (c.first_word.ensures ∙ ap (λ l. bits_in (take 8 l)) (take_rest c.args.bytes.now (c.args.place / 8))) (omega arith) refl
