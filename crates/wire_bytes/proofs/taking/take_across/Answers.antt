use Rattle.std.proofs.Common.{◌≡◌, ℕ, ◌-◌, ◌*◌, ◌%◌, ◌^◌, ◌<◌, ap, ◌∙◌, arith}
use Rattle.std.proofs.lemmas.List.{take_rest}
use Rattle.wire_bytes.proofs.Crossings.{across, shl_twice}
use Rattle.wire_bytes.proofs.taking.take_across.Goals as goal

shifted : (n lacking : ℕ) → 0 < lacking → n * 2 % 2 ^ 64 * 2 ^ (lacking - 1) % 2 ^ 64 ≡ n * 2 ^ lacking % 2 ^ 64
shifted n lacking some = shl_twice n _ ∙ ap (λ k. n * 2 ^ k % 2 ^ 64) (omega arith)

pub returns : goal.returns
returns c =
    let next = c.from_be_bytes-next in
    let all = across _ _ _ _ _ c.args.bytes.now _ c.requires.buffer c.ranges.word.fits next.type_inv next.ensures (λ i. omega (arith, c.type_inv.bytes i)) c.requires.bytes c.requires.more c.requires.few
    (shifted next.result _ (omega arith)) (take_rest _ 8) in
    record { taken = all.1; number = all.2; buffer = all.0 }
