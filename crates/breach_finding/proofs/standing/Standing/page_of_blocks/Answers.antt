use Rattle.std.proofs.Common.{◌≡◌, ℕ, ◌+◌, ◌-◌, Option, Some, None, List, [], ◌∷◌, ◌++◌, sym, ◌∙◌, ap, subst}
use Rattle.ulid_core.specs.UlidText.{text_of}
use Rattle.bucket_core.specs.Pages.{IsPage}
use Rattle.breach_finding.specs.Held.{HaveTexts, Places}
use Rattle.breach_finding.specs.Next.{IsLeast, IsNextBlock}
use Rattle.breach_finding.proofs.Blocks.{least_due, none_due}
use Rattle.breach_finding.proofs.Pages.{page_begun, page_done, page_on, page_over}
use Rattle.breach_finding.proofs.standing.Standing.page_of_blocks.Goals.{else-loop-test, then-loop-test+in_default}
use Rattle.breach_finding.proofs.standing.Standing.page_of_blocks.Goals as goal

pub loop-init : goal.loop-init
loop-init c entries contents holds others page = page_begun contents [] c.args.after.now c.in_ok-last.last c.args.limit c.new-names.result others c.new-names.ensures c.in_ok-last.ensures page

pub loop-preserved : goal.loop-preserved
loop-preserved c entries contents holds others page =
    let texts : HaveTexts c.args.self.now.places = λ key stands. (holds.there key stands).0 in
    let next : IsNextBlock c.args.self.now.places c.loop.last (Some c.in-Some.block) = subst (λ (t : List ℕ). IsNextBlock c.args.self.now.places t (Some c.in-Some.block)) c.as_str.ensures (c.in-Some.ensures texts) in
    let least : IsLeast contents [] c.loop.last (text_of c.in-Some.block) = least_due entries c.args.self.now.places contents holds c.loop.last c.in-Some.block next in
    let name : c.from_string-name.result ≡ text_of c.in-Some.block = c.from_string-name.ensures ∙ c.in_ok-to_string.ensures.value in
    let rest : IsPage contents [] (text_of c.in-Some.block) (c.args.limit - (c.loop.counter + 1)) others = subst (λ (t : List ℕ). IsPage contents [] t (c.args.limit - (c.loop.counter + 1)) others) (c.in_ok-last-2.ensures ∙ name) page in
    let names : c.push.new.self ≡ c.loop.names ++ text_of c.in-Some.block ∷ [] = c.in_ok-push.ensures.ok ∙ ap (λ (n : List ℕ). c.loop.names ++ n ∷ []) name in
    subst (λ (ns : List (List ℕ)). IsPage contents [] c.args.after.now c.args.limit (ns ++ others)) (sym names)
    (page_on contents [] c.args.after.now c.loop.last c.args.limit c.loop.counter c.loop.names (c.loop.invariant entries contents holds) (text_of c.in-Some.block) others c.loop-test.true least rest)

nothing_next : (places : Places) (text last : List ℕ) (r : Option ℕ) → HaveTexts places → (HaveTexts places → IsNextBlock places text r) → text ≡ last → r ≡ None → IsNextBlock places last None
nothing_next places text last r texts next same none = subst (λ (o : Option ℕ). IsNextBlock places last o) none (subst (λ (t : List ℕ). IsNextBlock places t r) same (next texts))

pub returns : goal.returns
returns c entries contents holds = elim c.loop-test.branch [
  | else-loop-test w ↦ page_done contents [] c.args.after.now c.loop.last c.args.limit c.loop.counter c.loop.names (c.loop.invariant entries contents holds) w.loop-test.false
  | then-loop-test+in_default w ↦ page_over contents [] c.args.after.now c.loop.last c.args.limit c.loop.counter c.loop.names (c.loop.invariant entries contents holds)
      (none_due entries c.args.self.now.places contents holds c.loop.last (nothing_next c.args.self.now.places w.as_str.result.now c.loop.last w.next_block.result (λ key stands. (holds.there key stands).0) w.next_block.ensures w.as_str.ensures w.in_default.is))
]
