-- Answers that all have the same series.
use Rattle.std.proofs.Common.{◌≡◌, ◌⊎◌, inl, inr, ℕ, ◌+◌, ◌<◌, ◌≤◌, List, length, get_or, sym, ap, ◌∙◌, arith}
use Rattle.std.specs.Prelude.{All, Some, slice_get}
use Rattle.std.specs.Option.{unwrap_or}
use Rattle.std.proofs.lemmas.Bool.{cases_lt}
use Rattle.std.proofs.lemmas.List.{same_lists, get_or_default}
use Rattle.std.proofs.lemmas.Option.{unwrap_or-slice_get}
use Rattle.label_sets.specs.declared.series.Series.{Series}
use Rattle.querier.specs.declared.answer.Answer.{Answer}

-- as many series, and the same one at each place
pub each_alike : (series : List Series) (answers : List Answer) → All (λ answer. length answer.series ≡ length series) answers
    → ((k : ℕ) → k < length series → All (λ answer. slice_get answer.series k ≡ slice_get series k) answers)
    → All (λ answer. series ≡ answer.series) answers
each_alike series answers count at = λ j d below. same_lists series (get_or answers j d).series (sym (count j d below))
    (λ k e within. sym (unwrap_or-slice_get series k e) ∙ (ap (λ f. unwrap_or f e) (sym (at k within j d below)) ∙ unwrap_or-slice_get (get_or answers j d).series k e))

pub one_more : (series : List Series) (answers : List Answer) (place : ℕ) (one : Series) → slice_get series place ≡ Some one
    → ((k : ℕ) → k < place → All (λ answer. slice_get answer.series k ≡ slice_get series k) answers)
    → All (λ answer. slice_get answer.series place ≡ Some one) answers
    → (k : ℕ) → k < place + 1 → All (λ answer. slice_get answer.series k ≡ slice_get series k) answers
one_more series answers place one stands before at k under = elim (cases_lt k place) [
  | inl less ↦ before k less
  | inr most ↦ let same : k ≡ place = omega (arith, under, most) in
      λ j d below. ap (slice_get (get_or answers j d).series) same ∙ (at j d below ∙ (sym stands ∙ sym (ap (slice_get series) same)))
]

pub four_more : (place : ℕ) (answers : List Answer) (one : Series) (start : ℕ)
    → ((k : ℕ) (d : Answer) → k < start → k < length answers → slice_get (get_or answers k d).series place ≡ Some one)
    → ((k : ℕ) (d : Answer) → start ≤ k → k < start + 4 → k < length answers → slice_get (get_or answers k d).series place ≡ Some one)
    → (k : ℕ) (d : Answer) → k < start + 4 → k < length answers → slice_get (get_or answers k d).series place ≡ Some one
four_more place answers one start before four k d under below = elim (cases_lt k start) [ inl less ↦ before k d less below | inr most ↦ four k d most under below ]

-- a place of four
pub one_of_four : (k start : ℕ) → start ≤ k → k < start + 4 → (k ≡ start) ⊎ ((k ≡ start + 1) ⊎ ((k ≡ start + 2) ⊎ (k ≡ start + 3)))
one_of_four k start most under = elim (cases_lt start k) [
  | inr a ↦ inl (omega (arith, a, most))
  | inl a ↦ elim (cases_lt (start + 1) k) [
    | inr b ↦ inr (inl (omega (arith, a, b)))
    | inl b ↦ elim (cases_lt (start + 2) k) [
      | inr c ↦ inr (inr (inl (omega (arith, b, c))))
      | inl c ↦ inr (inr (inr (omega (arith, c, under))))
    ]
  ]
]

at_place : (place : ℕ) (answers : List Answer) (series one : Series) (k at : ℕ) (e d : Answer) → at < length answers → k ≡ at
    → Some one ≡ slice_get (get_or answers at e).series place → series ≡ one → slice_get (get_or answers k d).series place ≡ Some series
at_place place answers series one k at e d within same stands equal =
    ap (λ (n : ℕ). slice_get (get_or answers n d).series place) same
    ∙ (ap (λ (a : Answer). slice_get a.series place) (get_or_default answers at d e within) ∙ (sym stands ∙ ap Some (sym equal)))

pub four_have : (place : ℕ) (answers : List Answer) (series one two three four : Series) (start : ℕ) (first second third fourth : Answer) → start + 3 < length answers
    → Some one ≡ slice_get (get_or answers start first).series place → Some two ≡ slice_get (get_or answers (start + 1) second).series place
    → Some three ≡ slice_get (get_or answers (start + 2) third).series place → Some four ≡ slice_get (get_or answers (start + 3) fourth).series place
    → (series ≡ one) × (series ≡ two) × (series ≡ three) × (series ≡ four)
    → (k : ℕ) (d : Answer) → start ≤ k → k < start + 4 → k < length answers → slice_get (get_or answers k d).series place ≡ Some series
four_have place answers series one two three four start first second third fourth within s1 s2 s3 s4 same k d most under below = elim (one_of_four k start most under) [
  | inl e ↦ at_place place answers series one k start first d (omega (arith, within)) e s1 same.0
  | inr (inl e) ↦ at_place place answers series two k (start + 1) second d (omega (arith, within)) e s2 same.1
  | inr (inr (inl e)) ↦ at_place place answers series three k (start + 2) third d (omega (arith, within)) e s3 same.2
  | inr (inr (inr e)) ↦ at_place place answers series four k (start + 3) fourth d within e s4 same.3
]
