-- The symbols in use and their numbers, both ways.
use Rattle.std.proofs.Common.{◌≡◌, ℕ, suc, ◌+◌, ◌<◌, true, false, cond, List, [], ◌∷◌, Some, None, sym, ap, ◌∙◌, subst, arith, inl, inr}
use Rattle.std.specs.Prelude.{slice_get, unwrap_or}
use Rattle.std.specs.declared.cmp.Ordering.TheVariants.{Less}
use Rattle.std.specs.Ordering.{is_lt}
use Rattle.std.specs.List.{prefix_len, Contains}
use Rattle.std.specs.List.Sorted.{IsStrictlySortedBy}
use Rattle.std.specs.Cmp.Lexicographic.{nat_list_cmp_total, nat_list_eq_equiv}
use Rattle.std.proofs.lemmas.Cmp.{tied_itself}
use Rattle.std.proofs.lemmas.List.Kept.{Contains-dedup}
use Rattle.label_sets.specs.declared.label.Label.{Label}
use Rattle.label_sets.specs.Labels.{compare_texts, is_lesser_text}
use Rattle.index_parts.specs.Turns.{InOrder}
use Rattle.index_parts.specs.declared.index_series.IndexSeries.{IndexSeries}
use Rattle.index_writing.specs.SymbolsInUse.{texts_of_labels, texts_of, symbols_of, number_of, symbol_of}
use Rattle.base.proofs.Membership.{contains_first, contains_later, no_member, member_cases, each_member, all_members, into_flat_map, into_in_order}
use Rattle.base.proofs.Order.{order_from_sorted, Less-at_places}
use Rattle.index_writing.proofs.SortedTexts.{symbols_strict}
use Rattle.base.proofs.Bools.{same_texts}
use Rattle.base.specs.Order.{ComesAfter}

-- ---- symbols in use

pub symbol_in : (list : List IndexSeries) (text : List ℕ) → Contains (texts_of list) text → Contains (symbols_of list) text
unfolding symbols_of
symbol_in _ _ h = Contains-dedup nat_list_eq_equiv same_texts _ _ (into_in_order is_lesser_text _ _ h)

in_labels : (labels : List Label) (label : Label) → Contains labels label → Contains (texts_of_labels labels) label.name × Contains (texts_of_labels labels) label.value
in_labels _ label h = (
  into_flat_map (λ l. l.name ∷ l.value ∷ []) _ _ _ h (contains_first _ (label.value ∷ [])),
  into_flat_map (λ l. l.name ∷ l.value ∷ []) _ _ _ h (contains_later label.name _ (label.value ∷ []) (contains_first _ [])),
)

in_texts : (list : List IndexSeries) (series : IndexSeries) (text : List ℕ) → Contains list series → Contains (texts_of_labels series.labels) text → Contains (texts_of list) text
unfolding texts_of
in_texts _ _ _ h i = into_flat_map _ _ _ _ h i

pub label_in : (list : List IndexSeries) (series : IndexSeries) (label : Label) → Contains list series → Contains series.labels label → Contains (symbols_of list) label.name × Contains (symbols_of list) label.value
label_in list series label h i =
    let both = in_labels series.labels _ i in
    (symbol_in _ _ (in_texts _ _ _ h both.0), symbol_in _ _ (in_texts _ _ _ h both.1))

-- ---- numbers

less_is : (x y : List ℕ) → compare_texts x y ≡ Less → is_lesser_text x y ≡ true
less_is x y e = ap is_lt e

equal_is : (x y : List ℕ) → x ≡ y → is_lesser_text x y ≡ false
equal_is x y e = ap (λ z. is_lesser_text x z) (sym e) ∙ ap is_lt (tied_itself nat_list_cmp_total x)

hit : (symbols : List (List ℕ)) (x text : List ℕ) → is_lesser_text x text ≡ true → number_of (x ∷ symbols) text ≡ 1 + number_of symbols text
unfolding number_of
hit symbols x text e = ap (λ b. cond b (1 + prefix_len (λ symbol. is_lesser_text symbol text) symbols) 0) e

miss : (symbols : List (List ℕ)) (x text : List ℕ) → is_lesser_text x text ≡ false → number_of (x ∷ symbols) text ≡ 0
unfolding number_of
miss symbols x text e = ap (λ b. cond b (1 + prefix_len (λ symbol. is_lesser_text symbol text) symbols) 0) e

next_at : {A : Type 0} (x : A) (xs : List A) (n : ℕ) → slice_get (x ∷ xs) (1 + n) ≡ slice_get xs n
next_at x xs n = let e : 1 + n ≡ suc n = omega arith in ap (slice_get (x ∷ xs)) e

-- the symbol of a number in use
pub number_at : (symbols : List (List ℕ)) (text : List ℕ) → IsStrictlySortedBy compare_texts symbols → Contains symbols text → slice_get symbols (number_of symbols text) ≡ Some text
unfolding IsStrictlySortedBy
number_at [] _ up h = absurd (no_member _ h)
number_at (x ∷ symbols) text up h = elim (member_cases x _ _ h) [
  | inl e ↦ ap (slice_get (x ∷ symbols)) (miss _ x _ (equal_is x _ e)) ∙ ap Some e
  | inr r ↦ ap (slice_get (x ∷ symbols)) (hit _ x _ (less_is x _ (each_member _ _ _ up.0 r))) ∙ next_at x symbols (number_of symbols text) ∙ number_at symbols _ up.1 r
]

-- numbers ascend as texts do
pub number_less : (symbols : List (List ℕ)) (text other : List ℕ) → IsStrictlySortedBy compare_texts symbols → Contains symbols text → compare_texts text other ≡ Less → number_of symbols text < number_of symbols other
unfolding IsStrictlySortedBy
number_less [] _ _ up h less = absurd (no_member _ h)
number_less (x ∷ symbols) text other up h less = elim (member_cases x _ _ h) [
  | inl e ↦ omega (arith, miss symbols x text (equal_is x _ e), hit symbols x other (less_is x _ (subst (λ (t : List ℕ). compare_texts t other ≡ Less) (sym e) less)))
  | inr r ↦ let first : compare_texts x text ≡ Less = each_member _ _ _ up.0 r in
      omega (arith, hit symbols x text (less_is x _ first), hit symbols x other (less_is x _ (nat_list_cmp_total.trans x text other first less)), number_less symbols text other up.1 r less)
]

-- ---- symbols in order

pub symbols_in_order : (symbols : List (List ℕ)) → IsStrictlySortedBy compare_texts symbols → InOrder (ComesAfter compare_texts) symbols
symbols_in_order _ up = order_from_sorted compare_texts None _ (all_members _ _ (λ x h. tt)) up

-- ---- what the number of a symbol in use tells

pub record IsNumber (list : List IndexSeries) (n : ℕ) (text : List ℕ) : Type 0 where
  pub among : Contains (symbols_of list) text
  pub is : n ≡ number_of (symbols_of list) text

module _ {list : List IndexSeries} {n : ℕ} {text : List ℕ} (known : IsNumber list n text) where
  pub symbol_there : slice_get (symbols_of list) n ≡ Some text
  symbol_there = ap (slice_get (symbols_of list)) known.is ∙ number_at _ _ (symbols_strict list) known.among

  pub symbol_is : symbol_of (symbols_of list) n ≡ text
  unfolding symbol_of
  symbol_is = ap (λ o. unwrap_or o []) symbol_there

-- what is less by numbers is less as texts
pub symbols_less : {list : List IndexSeries} {n m : ℕ} {text other : List ℕ} → IsNumber list n text → IsNumber list m other → n < m → compare_texts (symbol_of (symbols_of list) n) (symbol_of (symbols_of list) m) ≡ Less
symbols_less {list} one two lt =
    rw (symbol_is one, symbol_is two) (Less-at_places compare_texts (symbols_of list) _ _ _ _ (symbols_strict list) lt (symbol_there one) (symbol_there two))
