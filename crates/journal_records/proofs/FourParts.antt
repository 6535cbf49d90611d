-- Four parts that were put one behind the other.
use Rattle.std.proofs.Common.{◌≡◌, List, ◌++◌, Result, Ok, Err, ap, ◌∙◌, append_assoc}
use Rattle.std.specs.Prelude.{OnOk}

four_parts : {A : Type 0} (old a b c d m n o new : List A) → m ≡ old ++ a → n ≡ m ++ b → o ≡ n ++ c → new ≡ o ++ d → new ≡ old ++ (a ++ (b ++ (c ++ d)))
four_parts {A} old a b c d m n o new first second third last =
    last ∙ ap (λ (t : List A). t ++ d) (third ∙ ap (λ (t : List A). t ++ c) (second ∙ ap (λ (t : List A). t ++ b) first))
    ∙ append_assoc ((old ++ a) ++ b) c d ∙ append_assoc (old ++ a) b (c ++ d) ∙ append_assoc old a (b ++ (c ++ d))

pub four_put : {A X E : Type 0} (r : Result X E) (old a b c d m n o new : List A) → m ≡ old ++ a → n ≡ m ++ b → o ≡ n ++ c → OnOk r (new ≡ o ++ d) → OnOk r (new ≡ old ++ (a ++ (b ++ (c ++ d))))
four_put (Ok x) old a b c d m n o new first second third last = four_parts old a b c d m n o new first second third last
four_put (Err e) old a b c d m n o new first second third last = tt

pub two_put : {A X E : Type 0} (r : Result X E) (old a b m new : List A) → m ≡ old ++ a → OnOk r (new ≡ m ++ b) → OnOk r (new ≡ old ++ (a ++ b))
two_put {A} (Ok x) old a b m new first last = last ∙ ap (λ (t : List A). t ++ b) first ∙ append_assoc old a b
two_put (Err e) old a b m new first last = tt
