use Rattle.std.proofs.Common.{List, sym, subst}
use Rattle.matchers.specs.declared.matcher.Matcher.{Matcher}
use Rattle.matchers.specs.SelectorRefusals.{IsReadable}
use Rattle.matchers.proofs.Refused.{fails_on, unread, unbuilt, named, found}
use Rattle.matchers.proofs.selector.read_selector.Goals as goal

pub returns-in_err-draft-clause-refused : goal.returns-in_err-draft-clause-refused
returns-in_err-draft-clause-refused c = fails_on c.from_residual.result c.args.text.now c.args.replicas.now c.in_err-draft.field-0.0 c.from_residual.ensures.1
    (unread c.args.text.now c.as_bytes.result.now c.args.replicas.now _ c.as_bytes.ensures.value c.in_err-draft.ensures.gives)

pub returns-in_err-matchers-clause-refused : goal.returns-in_err-matchers-clause-refused
returns-in_err-matchers-clause-refused c = fails_on c.from_residual-in_err-matchers.result c.args.text.now c.args.replicas.now c.in_err-matchers.field-0.0 c.from_residual-in_err-matchers.ensures.1
    (unbuilt c.args.text.now c.as_bytes.result.now c.args.replicas.now c.in_ok-draft.draft _ c.as_bytes.ensures.value c.in_ok-draft.ensures.gives c.in_err-matchers.ensures.refused)

pub returns-in-Some-clause-refused : goal.returns-in-Some-clause-refused
returns-in-Some-clause-refused c =
    named c.args.text.now c.as_bytes.result.now c.args.replicas.now c.in_ok-draft.draft c.in_ok-matchers.matchers.items c.deref.result.now c.in-Some.name.now c.in_ok-copy.field-0
    c.as_bytes.ensures.value c.in_ok-draft.ensures.gives c.in_ok-matchers.ensures.value c.in_ok-matchers.ensures.lawful c.deref.ensures.value c.in-Some.ensures.some c.in_ok-copy.ensures

pub keep_text-requires : goal.keep_text-requires
keep_text-requires c =
    let is : _ = found c.args.text.now c.as_bytes.result.now c.args.replicas.now c.in_ok-draft.draft c.in_ok-matchers.matchers.items c.deref.result.now
    c.as_bytes.ensures.value c.in_ok-draft.ensures.gives c.in_ok-matchers.ensures.value c.in_ok-matchers.ensures.lawful c.deref.ensures.value c.in_default.ensures.none in
    is.is_text

pub returns-clause-found : goal.returns-clause-found
returns-clause-found c =
    let is : _ = found c.args.text.now c.as_bytes.result.now c.args.replicas.now c.in_ok-draft.draft c.in_ok-matchers.matchers.items c.deref.result.now
    c.as_bytes.ensures.value c.in_ok-draft.ensures.gives c.in_ok-matchers.ensures.value c.in_ok-matchers.ensures.lawful c.deref.ensures.value c.in_default.ensures.none in
    subst (λ (s : List Matcher). IsReadable c.args.text.now c.args.replicas.now s) (sym c.in_ok-keep_text.ensures) is
