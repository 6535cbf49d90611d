use Rattle.std.proofs.Common.{◌≡◌, ℕ, List, refl, sym, ◌∙◌, subst}
use Rattle.matchers.specs.SelectorRefusals.{IsReadable}
use Rattle.script_running.proofs.Taking.{found}
use Rattle.script_running.proofs.means.read_at.Goals as goal

pub returns-in-Ok : goal.returns-in-Ok
returns-in-Ok c = λ text selector at may.
    let own = c.index-texts-place.result in
    let here = found c.args.texts.now c.args.place c.args.place own refl c.requires.place c.index-texts-place.is in
    let same : own ≡ text = cc (here, at) in
    let lent : c.as_str.result.now ≡ text = c.as_str.ensures ∙ same in
    c.in-Ok.ensures.only selector (subst (λ (t : List ℕ). IsReadable t c.args.replicas.now selector) (sym lent) may)

pub given_up-requires : goal.given_up-requires
given_up-requires c =
    let (text, selector, at, may) = c.requires.read in
    let own = c.index-texts-place.result in
    let here = found c.args.texts.now c.args.place c.args.place own refl c.requires.place c.index-texts-place.is in
    let same : own ≡ text = cc (here, at) in
    let lent : c.as_str.result.now ≡ text = c.as_str.ensures ∙ same in
    (c.as_str.result.now, c.in-Err.ensures.only selector (subst (λ (t : List ℕ). IsReadable t c.args.replicas.now selector) (sym lent) may))
