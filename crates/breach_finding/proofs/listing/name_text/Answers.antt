use Rattle.std.proofs.Common.{◌≡◌, ◌∙◌, ap}
use Rattle.std.specs.List.{after_first}
use Rattle.block_keys.specs.KeyText.{is_slash, key_text, name_of}
use Rattle.block_keys.proofs.KeyLaws.{IsLawfulKey-text}
use Rattle.breach_finding.proofs.Objects.{object_name}
use Rattle.breach_finding.proofs.listing.name_text.Goals as goal
use Rattle.base.proofs.Options.{if_ok}

pub returns-then-not-is_lawful : goal.returns-then-not-is_lawful
returns-then-not-is_lawful c is = cc (c.is_lawful.ensures.1 (IsLawfulKey-text (key_text c.args.key.now) c.args.key.now is), c.if-not-is_lawful.true)

pub returns : goal.returns
returns c is =
    if_ok (λ made. made ≡ c.behind_slash.result.now) (λ name. name ≡ name_of c.args.key.now) c.from_str-2.result c.from_str-2.ensures
    (λ made e. e ∙ c.behind_slash.ensures ∙ ap (after_first is_slash) (c.as_str.ensures ∙ c.in_ok-text.ensures.value) ∙ object_name c.args.key.now is)
