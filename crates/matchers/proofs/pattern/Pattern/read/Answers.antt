use Rattle.std.proofs.Common.{◌∙◌}
use Rattle.matchers.proofs.PatternLemmas.{searches, read_is_pattern, refused_is_none, too_big_is_pattern, handed_on}
use Rattle.matchers.proofs.pattern.Pattern.read.Goals as goal

pub returns-in_err-regex-clause-bad : goal.returns-in_err-regex-clause-bad
returns-in_err-regex-clause-bad c =
    let refused = c.in_err-regex.ensures in
    λ same. refused_is_none c.in_err-regex.field-0.0 _ _ (c.as_str.ensures.value ∙ c.in_ok-composed.ensures) refused.by_grammar refused.kind
    (handed_on _ _ _ c.from_residual-in_err-regex.ensures.1 same)

pub returns-in_err-regex-clause-size : goal.returns-in_err-regex-clause-size
returns-in_err-regex-clause-size c =
    let refused = c.in_err-regex.ensures in
    λ same. too_big_is_pattern c.in_err-regex.field-0.0 _ _ (c.as_str.ensures.value ∙ c.in_ok-composed.ensures) refused.kind
    (handed_on _ _ _ c.from_residual-in_err-regex.ensures.1 same)

pub invariant_of-result : goal.invariant_of-result
invariant_of-result c =
    let made = c.in_ok-regex.ensures in
    rw c.in_ok-from_str.ensures
    (searches c.in_ok-regex.regex _ _ (c.as_str.ensures.value ∙ c.in_ok-composed.ensures) made.source made.config made.read)

pub returns-clause-read : goal.returns-clause-read
returns-clause-read c =
    let made = c.in_ok-regex.ensures in
    read_is_pattern c.in_ok-regex.regex _ _ (c.as_str.ensures.value ∙ c.in_ok-composed.ensures) made.source made.config made.read
