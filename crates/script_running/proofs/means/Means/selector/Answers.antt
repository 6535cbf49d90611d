use Rattle.std.proofs.Common.{◌≡◌, ◌<◌, ap, length, List, subst, sym, arith}
use Rattle.std.specs.Prelude.{IfOk, Some, slice_get}
use Rattle.matchers.specs.declared.matcher.Matcher.{Matcher}
use Rattle.script_running.specs.Lending.{Loan}
use Rattle.script_running.proofs.Texts.{read_before, read_again, texts_long}
use Rattle.script_running.proofs.means.Means.selector.Goals as goal

pub read_at-requires-clause-place : goal.read_at-requires-clause-place
read_at-requires-clause-place c =
    let i = c.self.inside in
    let below : c.args.place < length i.script.value.selectors = subst (λ (l : Loan). c.args.place < length l.script.selectors) (sym c.self.view_is) c.requires in
    let long = texts_long i.script.value.selectors i.texts.now c.self.invariant.texts_are in
    omega (arith, long, below)

pub read_at-requires-clause-read : goal.read_at-requires-clause-read
read_at-requires-clause-read c =
    let i = c.self.inside in
    let a = c.self.invariant in
    let below : c.args.place < length i.script.value.selectors = subst (λ (l : Loan). c.args.place < length l.script.selectors) (sym c.self.view_is) c.requires in
    read_before i.script.value i.texts.now i.rules.now.replicas c.args.place a.lawful (ap (λ r. r.replicas) a.rules_are) a.texts_are below

pub returns : goal.returns
returns c =
    let i = c.self.inside in
    let a = c.self.invariant in
    let below : c.args.place < length i.script.value.selectors = subst (λ (l : Loan). c.args.place < length l.script.selectors) (sym c.self.view_is) c.requires in
    subst (λ (l : Loan). IfOk c.read_at.result (λ (s : List Matcher). slice_get l.script.selectors c.args.place ≡ Some s)) c.self.view_is
    (read_again i.script.value i.texts.now i.rules.now.replicas c.args.place a.lawful (ap (λ r. r.replicas) a.rules_are) a.texts_are below c.read_at.result c.read_at.ensures)
