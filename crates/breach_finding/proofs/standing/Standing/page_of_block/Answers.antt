use Rattle.std.proofs.Common.{◌≡◌, ℕ, ◌+◌, ◌-◌, List, [], ◌∷◌, ◌++◌, refl, sym, ◌∙◌, ap, subst}
use Rattle.ulid_core.specs.UlidText.{IsUlidText, text_of}
use Rattle.ulid_core.proofs.UlidLaws.{ulid_of-found}
use Rattle.block_keys.specs.KeyText.{name_of}
use Rattle.bucket_core.specs.Pages.{IsPage}
use Rattle.breach_finding.specs.Held.{HaveTexts}
use Rattle.breach_finding.specs.Next.{IsDueAt, IsDueIn, IsFirstKey, IsLeast}
use Rattle.breach_finding.proofs.Objects.{least_object, no_object_due, object_stands}
use Rattle.breach_finding.proofs.Pages.{page_begun, page_done, page_on, page_over}
use Rattle.breach_finding.proofs.standing.Standing.page_of_block.Goals.{else-loop-test, then-loop-test+in_ok-key+in_default}
use Rattle.breach_finding.proofs.standing.Standing.page_of_block.Goals as goal

pub loop-init : goal.loop-init
loop-init c entries contents holds others page = page_begun contents (text_of c.args.ulid) c.args.after.now c.in_ok-last.last c.args.limit c.new-names.result others c.new-names.ensures c.in_ok-last.ensures page

pub loop-preserved : goal.loop-preserved
loop-preserved c entries contents holds others page =
    let texts : HaveTexts c.args.self.now.places = λ key stands. (holds.there key stands).0 in
    let own : IsUlidText (text_of c.args.ulid) c.args.ulid = ulid_of-found (text_of c.args.ulid) c.args.ulid c.text_is_read.ensures in
    let first : IsFirstKey (IsDueAt c.args.ulid (text_of c.args.ulid ++ 47 ∷ c.loop.last)) c.args.self.now.places c.in_ok-key.field-0 =
    subst (λ (t : List ℕ). IsFirstKey (IsDueIn c.args.ulid t) c.args.self.now.places c.in_ok-key.field-0) c.as_str.ensures (c.in_ok-key.ensures texts) in
    let stands = object_stands entries c.args.self.now.places contents holds c.args.ulid own c.loop.last (text_of c.args.ulid ++ 47 ∷ c.loop.last) refl c.in_ok-key.field-0 c.in-Some.key first c.in-Some.is in
    let least : IsLeast contents (text_of c.args.ulid) c.loop.last (name_of c.in-Some.key) = least_object entries c.args.self.now.places contents holds c.args.ulid own c.loop.last (text_of c.args.ulid ++ 47 ∷ c.loop.last) refl c.in_ok-key.field-0 c.in-Some.key first c.in-Some.is in
    let name : c.in_ok-name.name ≡ name_of c.in-Some.key = c.in_ok-name.ensures (holds.there c.in-Some.key stands).0 in
    let rest : IsPage contents (text_of c.args.ulid) (name_of c.in-Some.key) (c.args.limit - (c.loop.counter + 1)) others = subst (λ (t : List ℕ). IsPage contents (text_of c.args.ulid) t (c.args.limit - (c.loop.counter + 1)) others) (c.in_ok-last-2.ensures ∙ name) page in
    let names : c.push.new.self ≡ c.loop.names ++ name_of c.in-Some.key ∷ [] = c.in_ok-push.ensures.ok ∙ ap (λ (n : List ℕ). c.loop.names ++ n ∷ []) name in
    subst (λ (ns : List (List ℕ)). IsPage contents (text_of c.args.ulid) c.args.after.now c.args.limit (ns ++ others)) (sym names)
    (page_on contents (text_of c.args.ulid) c.args.after.now c.loop.last c.args.limit c.loop.counter c.loop.names (c.loop.invariant entries contents holds) (name_of c.in-Some.key) others c.loop-test.true least rest)

pub returns : goal.returns
returns c entries contents holds = elim c.loop-test.branch [
  | else-loop-test w ↦ page_done contents (text_of c.args.ulid) c.args.after.now c.loop.last c.args.limit c.loop.counter c.loop.names (c.loop.invariant entries contents holds) w.loop-test.false
  | then-loop-test+in_ok-key+in_default w ↦
      let own : IsUlidText (text_of c.args.ulid) c.args.ulid = ulid_of-found (text_of c.args.ulid) c.args.ulid c.text_is_read.ensures in
      page_over contents (text_of c.args.ulid) c.args.after.now c.loop.last c.args.limit c.loop.counter c.loop.names (c.loop.invariant entries contents holds)
      (no_object_due entries c.args.self.now.places contents holds c.args.ulid own c.loop.last (text_of c.args.ulid ++ 47 ∷ c.loop.last) refl w.in_ok-key.field-0
      (subst (λ (t : List ℕ). IsFirstKey (IsDueIn c.args.ulid t) c.args.self.now.places w.in_ok-key.field-0) w.as_str.ensures (w.in_ok-key.ensures (λ key stands. (holds.there key stands).0))) w.in_default.is)
]
