-- Of what stands under finitely many keys there is each page.
use Rattle.base.proofs.Membership.{contains_first, contains_later, member_cases, no_member}
use Rattle.base.proofs.Lists.{AllByRecursion-weaker}
use Rattle.std.proofs.Common.{◌≡◌, ◌⊎◌, inl, inr, ℕ, zero, suc, ◌≤◌, List, [], ◌∷◌, ◌++◌, length, Contains, Option, Some, None, refl, sym, ◌∙◌, ap, subst, arith}
use Rattle.std.specs.Prelude.{IsSome, is_some, ◌==◌}
use Rattle.std.specs.List.{AllByRecursion, before_first}
use Rattle.std.specs.Ordering.{nat_cmp, is_eq, ordering_reverse}
use Rattle.std.specs.Cmp.Lexicographic.{slice_cmp}
use Rattle.std.specs.declared.cmp.Ordering.{Ordering}
use Rattle.std.specs.declared.cmp.Ordering.TheVariants.{Less, Equal, Greater}
use Rattle.std.proofs.lemmas.Bool.{cases_eq}
use Rattle.std.proofs.lemmas.Cmp.{nat_list_cmp_total}
use Rattle.std.proofs.lemmas.List.{append_cancel_left}
use Rattle.std.proofs.lemmas.List.Elements.{All-from_recursion}
use Rattle.std.proofs.lemmas.Map.Text.{is_eq-slice_cmp}
use Rattle.std.proofs.lemmas.Slice.Eq.{bytes_eq-Decides}
use Rattle.base.specs.Order.{InOrderAfter, ComesAfter}
use Rattle.label_sets.specs.Labels.{ComesBefore, compare_texts}
use Rattle.bucket_core.specs.Contents.{Contents}
use Rattle.bucket_core.specs.Pages.{IsName, IsPage, Lists}

-- ---- the least names of a list

-- of two texts the one is the other or less, or the other is less
ordered_by : (x y : List ℕ) (o : Ordering) → slice_cmp nat_cmp x y ≡ o → ((x ≡ y) ⊎ ComesBefore x y) ⊎ ComesBefore y x
ordered_by x y Less is = inl (inr is)
ordered_by x y Equal is = inl (inl ((bytes_eq-Decides x y).0 (sym (is_eq-slice_cmp x y) ∙ ap is_eq is)))
ordered_by x y Greater is = inr (nat_list_cmp_total.antisymm y x ∙ ap ordering_reverse is)

ordered : (x y : List ℕ) → ((x ≡ y) ⊎ ComesBefore x y) ⊎ ComesBefore y x
ordered x y = ordered_by x y (slice_cmp nat_cmp x y) refl

pub not_itself : (x : List ℕ) → ¬ ComesBefore x x
not_itself x less = let turned : slice_cmp nat_cmp x x ≡ ordering_reverse (slice_cmp nat_cmp x x) = nat_list_cmp_total.antisymm x x in absurd (cc (less, turned))

not_both : (x y : List ℕ) → (x ≡ y) ⊎ ComesBefore x y → ¬ ComesBefore y x
not_both x y (inl same) less = not_itself x (subst (λ z. ComesBefore z x) (sym same) less)
not_both x y (inr more) less = not_itself x (nat_list_cmp_total.trans x y x more less)

then_before : (m x name : List ℕ) → (m ≡ x) ⊎ ComesBefore m x → (x ≡ name) ⊎ ComesBefore x name → (m ≡ name) ⊎ ComesBefore m name
then_before m x name (inl same) (inl also) = inl (same ∙ also)
then_before m x name (inl same) (inr due) = inr (subst (λ y. ComesBefore y name) (sym same) due)
then_before m x name (inr less) (inl same) = inr (subst (ComesBefore m) same less)
then_before m x name (inr less) (inr due) = inr (nat_list_cmp_total.trans m x name less due)

-- the least name of a list that is greater than the cursor
record IsLeast (after : List ℕ) (names : List (List ℕ)) (m : List ℕ) : Type 0 where
  among : Contains names m
  due : ComesBefore after m
  least : (name : List ℕ) → Contains names name → ComesBefore after name → (m ≡ name) ⊎ ComesBefore m name

abbrev NoneDue : List ℕ → List (List ℕ) → Type 0
NoneDue after names = (name : List ℕ) → Contains names name → ¬ ComesBefore after name

abbrev Least : List ℕ → List (List ℕ) → Type 0
Least after names = NoneDue after names ⊎ ((m : List ℕ) × IsLeast after names m)

-- with one name more
least_first : (after x : List ℕ) (xs : List (List ℕ)) → ComesBefore after x → ((name : List ℕ) → Contains xs name → ComesBefore after name → (x ≡ name) ⊎ ComesBefore x name) → Least after (x ∷ xs)
least_first after x xs due least = inr (
  x,
  record {
    among = contains_first x xs;
    due = due;
    least = λ name among later. elim (member_cases x name xs among) [ inl same ↦ inl same | inr there ↦ least name there later ];
  },
)

least_later : (after x : List ℕ) (xs : List (List ℕ)) (m : List ℕ) → IsLeast after xs m → (ComesBefore after x → (m ≡ x) ⊎ ComesBefore m x) → Least after (x ∷ xs)
least_later after x xs m is lower = inr (
  m,
  record {
    among = contains_later x m xs is.among;
    due = is.due;
    least = λ name among later. elim (member_cases x name xs among) [
      | inl same ↦ subst (λ z. (m ≡ z) ⊎ ComesBefore m z) same (lower (subst (ComesBefore after) (sym same) later))
      | inr there ↦ is.least name there later
    ];
  },
)

first_due : (after x : List ℕ) (xs : List (List ℕ)) → ComesBefore after x → Least after xs → Least after (x ∷ xs)
first_due after x xs due (inl none) = least_first after x xs due (λ name there later. absurd (none name there later))
first_due after x xs due (inr (m, is)) = elim (ordered x m) [
  | inl low ↦ least_first after x xs due (λ name there later. then_before x m name low (is.least name there later))
  | inr less ↦ least_later after x xs m is (λ own. inr less)
]

first_passed : (after x : List ℕ) (xs : List (List ℕ)) → ¬ ComesBefore after x → Least after xs → Least after (x ∷ xs)
first_passed after x xs early (inl none) = inl (λ name among later. elim (member_cases x name xs among) [ inl same ↦ early (subst (ComesBefore after) (sym same) later) | inr there ↦ none name there later ])
first_passed after x xs early (inr (m, is)) = least_later after x xs m is (λ own. absurd (early own))

least_of : (after : List ℕ) (names : List (List ℕ)) → Least after names
least_of after [] = inl (λ name among later. absurd (no_member name among))
least_of after (x ∷ xs) = elim (ordered x after) [
  | inl low ↦ first_passed after x xs (not_both x after low) (least_of after xs)
  | inr due ↦ first_due after x xs due (least_of after xs)
]

-- the first names of a list that are greater than the cursor, in their order
record IsFirstOf (names : List (List ℕ)) (after : List ℕ) (limit : ℕ) (page : List (List ℕ)) : Type 0 where
  ascend : InOrderAfter (ComesAfter compare_texts) (Some after) page
  few : length page ≤ limit
  own : AllByRecursion (Contains names) page
  whole : (name : List ℕ) → Contains names name → ComesBefore after name → Contains page name ⊎ ((length page ≡ limit) × AllByRecursion (λ listed. ComesBefore listed name) page)

with_least : (names : List (List ℕ)) (after m : List ℕ) (limit : ℕ) (page : List (List ℕ)) → IsLeast after names m → IsFirstOf names m limit page → IsFirstOf names after (suc limit) (m ∷ page)
with_least names after m limit page is rest = record {
  ascend = (is.due, rest.ascend);
  few = omega (arith, rest.few);
  own = (is.among, rest.own);
  whole = λ name among due. elim (is.least name among due) [
    | inl same ↦ inl (subst (Contains (m ∷ page)) same (contains_first m page))
    | inr later ↦ elim (rest.whole name among later) [
      | inl there ↦ inl (contains_later m name page there)
      | inr full ↦ inr (omega (arith, full.0), (later, full.1))
    ]
  ];
}

first_names : (names : List (List ℕ)) (limit : ℕ) (after : List ℕ) → (page : List (List ℕ)) × IsFirstOf names after limit page
first_names names zero after = ([], record { ascend = tt; few = omega arith; own = tt; whole = λ name among due. inr (refl, tt) })
first_names names (suc limit) after = elim (least_of after names) [
  | inl none ↦ ([], record { ascend = tt; few = omega arith; own = tt; whole = λ name among due. absurd (none name among due) })
  | inr (m, is) ↦ let rest = first_names names limit m in (m ∷ rest.0, with_least names after m limit rest.0 is rest.1)
]

-- ---- the names of keys

-- a text begins with another, or does not
rest_of : (front text : List ℕ) → ((rest : List ℕ) × (text ≡ front ++ rest)) ⊎ ((rest : List ℕ) → ¬ (text ≡ front ++ rest))
rest_of [] text = inl (text, refl)
rest_of (b ∷ front) [] = inr (λ rest is. cc (is))
rest_of (b ∷ front) (x ∷ text) = elim (cases_eq x b) [
  | inl same ↦ elim (rest_of front text) [
    | inl (rest, is) ↦ inl (rest, cc (same, is))
    | inr none ↦ inr (λ rest is. none rest (cc (is)))
  ]
  | inr other ↦ inr (λ rest is. other (cc (is)))
]

within_of : (b : ℕ) (w key : List ℕ) → ((rest : List ℕ) × (key ≡ (b ∷ w) ++ 47 ∷ rest)) ⊎ ((rest : List ℕ) → ¬ (key ≡ (b ∷ w) ++ 47 ∷ rest))
within_of b w key = elim (rest_of (b ∷ w) key) [
  | inl ([], is) ↦ inr (λ rest so. let none : [] ≡ 47 ∷ rest = append_cancel_left (b ∷ w) [] (47 ∷ rest) (sym is ∙ so) in cc (none))
  | inl (x ∷ text, is) ↦ elim (cases_eq x 47) [
    | inl same ↦ inl (text, is ∙ ap (λ n. (b ∷ w) ++ n ∷ text) same)
    | inr other ↦ inr (λ rest so. let tail : x ∷ text ≡ 47 ∷ rest = append_cancel_left (b ∷ w) (x ∷ text) (47 ∷ rest) (sym is ∙ so) in other (cc (tail)))
  ]
  | inr none ↦ inr (λ rest is. none (47 ∷ rest) is)
]

-- the one name under which a key is listed, if there is one
abbrev Listing : List ℕ → List ℕ → Type 0
Listing within key = ((name : List ℕ) × Lists within key name × ((other : List ℕ) → Lists within key other → name ≡ other)) ⊎ ((name : List ℕ) → ¬ Lists within key name)

listing : (within key : List ℕ) → Listing within key
listing [] key = inl (before_first (λ byte. byte == 47) key, refl, λ other is. sym is)
listing (b ∷ w) key = elim (within_of b w key) [
  | inl (rest, is) ↦ inl (rest, is, λ other so. let tail : 47 ∷ rest ≡ 47 ∷ other = append_cancel_left (b ∷ w) (47 ∷ rest) (47 ∷ other) (sym is ∙ so) in cc (tail))
  | inr none ↦ inr none
]

module _ (contents : Contents) (within : List ℕ) where
  -- the names under which these keys are listed, where objects stand
  record AreNamesOf (keys names : List (List ℕ)) : Type 0 where
    stand : (name : List ℕ) → Contains names name → IsName contents within name
    all : (key name : List ℕ) → Contains keys key → IsSome (contents key) → Lists within key name → Contains names name

  passed : (k : List ℕ) (keys names : List (List ℕ)) → AreNamesOf keys names → (IsSome (contents k) → (name : List ℕ) → ¬ Lists within k name) → AreNamesOf (k ∷ keys) names
  passed k keys names rest never = record {
    stand = rest.stand;
    all = λ key name among some lists. elim (member_cases k key keys among) [
      | inl same ↦ absurd (never (subst (λ x. IsSome (contents x)) (sym same) some) name (subst (λ x. Lists within x name) (sym same) lists))
      | inr there ↦ rest.all key name there some lists
    ];
  }

  listed : (k : List ℕ) (keys names : List (List ℕ)) (own : List ℕ) → AreNamesOf keys names → IsSome (contents k) → Lists within k own → ((other : List ℕ) → Lists within k other → own ≡ other) → AreNamesOf (k ∷ keys) (own ∷ names)
  listed k keys names own rest some lists only = record {
    stand = λ name among. elim (member_cases own name names among) [ inl same ↦ subst (IsName contents within) same (k, some, lists) | inr there ↦ rest.stand name there ];
    all = λ key name among stands so. elim (member_cases k key keys among) [
      | inl same ↦ subst (Contains (own ∷ names)) (only name (subst (λ x. Lists within x name) (sym same) so)) (contains_first own names)
      | inr there ↦ contains_later own name names (rest.all key name there stands so)
    ];
  }

  one_more : (k : List ℕ) (keys names : List (List ℕ)) (o : Option (List ℕ)) → contents k ≡ o → Listing within k → AreNamesOf keys names → (found : List (List ℕ)) × AreNamesOf (k ∷ keys) found
  one_more k keys names None is of_key rest = (names, passed k keys names rest (λ some name lists. cc (is, some)))
  one_more k keys names (Some bytes) is (inl (own, lists, only)) rest = (own ∷ names, listed k keys names own rest (ap is_some is) lists only)
  one_more k keys names (Some bytes) is (inr never) rest = (names, passed k keys names rest (λ some. never))

  names_of : (keys : List (List ℕ)) → (names : List (List ℕ)) × AreNamesOf keys names
  names_of [] = ([], record { stand = λ name among. absurd (no_member name among); all = λ key name among. absurd (no_member key among) })
  names_of (k ∷ keys) = let rest = names_of keys in one_more k keys rest.0 (contents k) refl (listing within k) rest.1

  -- where all that stands stands under these keys
  pub page_there : (keys : List (List ℕ)) → ((key : List ℕ) → IsSome (contents key) → Contains keys key) → (after : List ℕ) (limit : ℕ) → (names : List (List ℕ)) × IsPage contents within after limit names
  page_there keys all after limit =
      let names = names_of keys in
      let are = names.1 in
      let first = first_names names.0 limit after in
      let is = first.1 in (
        first.0,
        record {
          ascend = is.ascend;
          few = is.few;
          stand = All-from_recursion (IsName contents within) first.0 (AllByRecursion-weaker (Contains names.0) (IsName contents within) are.stand first.0 is.own);
          whole = λ name named due. elim (is.whole name (are.all named.0 name (all named.0 named.1) named.1 named.2) due) [
            | inl there ↦ inl there
            | inr full ↦ inr (full.0, All-from_recursion (λ listed. ComesBefore listed name) first.0 full.1)
          ];
        },
      )
