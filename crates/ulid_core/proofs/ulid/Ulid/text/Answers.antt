use Rattle.std.proofs.Common.{◌≡◌, ◌<◌, ◌≤◌, ◌^◌, ◌-◌, subst, arith, length, refl, ◌∙◌}
use Rattle.std.proofs.lemmas.List.{length-set}
use Rattle.base.proofs.FixedTexts.{none_written, one_written, all_written}
use Rattle.ulid_core.proofs.UlidLaws.{IsUlidText-text_of}
use Rattle.ulid_core.specs.UlidText.{character, text_of}
use Rattle.ulid_core.proofs.ulid.Ulid.text.Goals as goal

pub loop-place-init : goal.loop-place-init
unfolding text_of
loop-place-init c = record { size = refl; whole = none_written 32 26 character c.args.self c.self.inside.number c.self.view_is }

pub loop-place-preserved : goal.loop-place-preserved
loop-place-preserved c =
    let room : c.loop-place.place ≤ length c.loop-place.text = omega arith in
    record {
      size = length-set c.loop-place.text (c.loop-place.place - 1) c.character.result ∙ c.loop-place.invariant.size;
      whole = one_written 32 character (text_of c.args.self) c.loop-place.text c.loop-place.place c.loop-place.rest c.character.result
          c.loop-place-test.true room c.character.ensures c.loop-place.invariant.whole;
    }

pub returns-clause-value : goal.returns-clause-value
returns-clause-value c =
    all_written 32 character (text_of c.args.self) c.loop-place.text c.loop-place.place c.loop-place.rest c.loop-place-test.false c.loop-place.invariant.whole

pub returns-clause-written : goal.returns-clause-written
returns-clause-written c =
    let whole : c.loop-place.text ≡ text_of c.args.self =
    all_written 32 character (text_of c.args.self) c.loop-place.text c.loop-place.place c.loop-place.rest c.loop-place-test.false c.loop-place.invariant.whole in
    rw whole (IsUlidText-text_of c.args.self (subst (λ n. n < 2 ^ 128) c.self.view_is c.self.invariant))
