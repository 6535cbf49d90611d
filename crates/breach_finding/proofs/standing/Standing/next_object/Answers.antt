use Rattle.std.proofs.Common.{◌≡◌, ◌++◌, ◌∷◌, [], List, ℕ, Option, sym, ◌∙◌, subst}
use Rattle.ulid_core.specs.UlidText.{text_of}
use Rattle.block_keys.specs.declared.key.Key.{Key}
use Rattle.breach_finding.specs.Next.{IsDueAt, IsDueIn, IsFirstKey}
use Rattle.breach_finding.proofs.NextObjects.{due_by_scan, due_first, no_names}
use Rattle.breach_finding.proofs.standing.Standing.next_object.Goals as goal
use Rattle.base.proofs.Options.{if_ok}

pub returns-then-is_empty : goal.returns-then-is_empty
returns-then-is_empty c texts =
    let none : c.args.after.now ≡ [] = no_names c.args.after.now c.is_empty.result c.is_empty.ensures c.if-is_empty.true in
    subst (λ (t : List ℕ). IsFirstKey (IsDueIn c.args.ulid t) c.args.self.now.places c.object_behind.result) (sym none) (due_first c.args.self.now.places texts c.args.ulid c.object_behind.result c.object_behind.ensures)

pub returns : goal.returns
returns c texts =
    let is : c.as_str-in-Err.result.now ≡ text_of c.args.ulid ++ 47 ∷ c.args.after.now = c.as_str-in-Err.ensures.value ∙ c.in_ok-cursor.ensures in
    if_ok _ (IsFirstKey (IsDueIn c.args.ulid c.args.after.now) c.args.self.now.places) c.object_by_scan.result (c.object_by_scan.ensures.found texts)
    (λ (r : Option Key) found. subst (λ (t : List ℕ). IsFirstKey (IsDueAt c.args.ulid t) c.args.self.now.places r) is (due_by_scan c.args.self.now.places c.args.ulid c.as_str-in-Err.result.now r c.object_by_scan.ensures.ordered found))
