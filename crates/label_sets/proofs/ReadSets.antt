-- What reading a whole label set gives, from the walk over its pairs.
use Rattle.std.proofs.Common.{◌≡◌, ℕ, true, false, cond, List, ◌∷◌, length, take, drop, Result, Ok, Err, sym, ap, ◌∙◌, nat_lt}
use Rattle.base.specs.Reading.{◌>>=◌, ◌>>◌, unless}
use Rattle.base.proofs.Binds.{bind_ok, unless_ok, ok_is}
use Rattle.label_sets.specs.declared.label.Label.{Label}
use Rattle.label_sets.specs.declared.label_refusal.LabelRefusal.{LabelRefusal}
use Rattle.label_sets.specs.declared.label_refusal.LabelRefusal.TheVariants.{EmptyName, EmptyValue, Repeated}
use Rattle.label_sets.specs.Labels.{names_of, has_lesser_name}
use Rattle.label_sets.specs.Ordered.{in_order}
use Rattle.label_sets.specs.Notation.{rest_past, name_length, name_at, value_at, pair_at, repeats, placed_at, conclusion}
use Rattle.label_sets.proofs.RepeatedNames.{repeats_sorted_with}

-- the steps of reading a pair
pub record PairSteps (text : List ℕ) (label : Label) (rest : List ℕ) : Type 0 where
  pub after : List ℕ
  pub inside : List ℕ
  pub past_equals : rest_past 61 (drop (name_length text) text) ≡ Ok after
  pub named : nat_lt 0 (name_length text) ≡ true
  pub past_quote : rest_past 34 after ≡ Ok inside
  pub read_value : value_at false inside ≡ Ok (label.value, rest)
  pub valued : nat_lt 0 (length label.value) ≡ true
  pub name_is : label.name ≡ name_at text

-- what follows the equals sign, the opening quote and the value of a pair
unfoldable pub with_value : List ℕ → List ℕ × List ℕ → Result (Label × List ℕ) LabelRefusal
with_value name value = unless (nat_lt 0 (length value.0)) EmptyValue >> Ok (record { name = name; value = value.0 }, value.1)

unfoldable pub after_quote : List ℕ → List ℕ → Result (Label × List ℕ) LabelRefusal
after_quote name inside = value_at false inside >>= with_value name

unfoldable pub after_equals : List ℕ → ℕ → List ℕ → Result (Label × List ℕ) LabelRefusal
after_equals name n after = unless (nat_lt 0 n) EmptyName >> (rest_past 34 after >>= after_quote name)

same_read : (text value after : List ℕ) (label : Label) (rest : List ℕ) → ◌≡◌ {A = Result (Label × List ℕ) LabelRefusal} (Ok (record { name = name_at text; value = value }, after)) (Ok (label, rest))
    → (name_at text ≡ label.name) × (value ≡ label.value) × (after ≡ rest)
same_read _ value _ _ _ q =
    let e = ok_is _ _ q in
    (ap (λ x. x.0.name) e, ap (λ x. x.0.value) e, ap (λ x. x.1) e)

pub pair_steps : (text : List ℕ) (label : Label) (rest : List ℕ) → pair_at text ≡ Ok (label, rest) → PairSteps text label rest
unfolding pair_at with_value after_quote after_equals
pair_steps _ _ _ e =
    let a = bind_ok _ _ _ e in
    let b = unless_ok _ _ _ _ a.2 in
    let c = bind_ok _ _ _ b.1 in
    let d = bind_ok _ _ _ c.2 in
    let f = unless_ok _ _ _ _ d.2 in
    let g = same_read _ _ _ _ _ f.1 in
    record {
      after = a.0;
      inside = c.0;
      past_equals = a.1;
      named = b.0;
      past_quote = c.1;
      read_value = d.1 ∙ (λ i. Ok (g.1 i, g.2 i));
      valued = ap (λ v. nat_lt 0 (length v)) (sym g.1) ∙ f.0;
      name_is = sym g.0;
    }

pub concluded_repeat : (total : ℕ) (labels sorted : List Label) (e : LabelRefusal) (pair name : List ℕ) → sorted ≡ in_order has_lesser_name labels → name ≡ name_at pair → repeats (name ∷ names_of sorted) ≡ true
    → conclusion total labels (Err (e, pair)) ≡ Err Repeated
unfolding conclusion
concluded_repeat total labels sorted e pair name s n t =
    ap (λ b. cond b (Err Repeated) (Err (placed_at total e))) (ap (λ x. repeats (x ∷ names_of labels)) (sym n) ∙ sym (repeats_sorted_with _ _ _ s) ∙ t)

pub concluded_stop : (total : ℕ) (labels sorted : List Label) (e placed : LabelRefusal) (pair name : List ℕ) → sorted ≡ in_order has_lesser_name labels → name ≡ name_at pair → repeats (name ∷ names_of sorted) ≡ false
    → placed ≡ placed_at total e → conclusion total labels (Err (e, pair)) ≡ Err placed
unfolding conclusion
concluded_stop total labels _ e _ _ _ s n f p =
    ap (λ b. cond b (Err Repeated) (Err (placed_at total e))) (ap (λ x. repeats (x ∷ names_of labels)) (sym n) ∙ sym (repeats_sorted_with _ _ _ s) ∙ f) ∙ ap (λ x. Err x) (sym p)

pub name_front : (text name : List ℕ) (n : ℕ) → n ≡ name_length text → name ≡ take n text → name ≡ name_at text
unfolding name_at
name_front text _ n e f = f ∙ ap (λ m. take m text) e
