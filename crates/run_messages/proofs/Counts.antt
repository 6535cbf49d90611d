-- Three texts that are appended one after another.
use Rattle.std.proofs.Common.{◌≡◌, ℕ, List, ◌++◌, Result, Ok, Err, sym, ap, ◌∙◌, append_assoc}
use Rattle.std.specs.Prelude.{OnOk}

module _ {T E : Type 0} (made front middle out a d n : List ℕ) where
  pub three_put : (r : Result T E) → front ≡ out ++ a → middle ≡ front ++ d → OnOk r (made ≡ middle ++ n) → OnOk r (made ≡ out ++ (a ++ d ++ n))
  three_put (Ok x) first second third =
      third ∙ ap (λ (t : List ℕ). t ++ n) (second ∙ ap (λ (t : List ℕ). t ++ d) first) ∙ append_assoc (out ++ a) d n ∙ append_assoc out a (d ++ n)
      ∙ ap (λ (t : List ℕ). out ++ t) (sym (append_assoc a d n))
  three_put (Err e) first second third = tt
