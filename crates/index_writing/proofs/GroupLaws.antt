-- What groups are made of members that strictly ascend by their keys, and by their numbers where keys are the same.
use Rattle.std.proofs.Common.{◌≡◌, ℕ, ◌<◌, Bool, true, false, List, [], ◌∷◌, ◌++◌, map, sym, ap, ◌∙◌, subst, inl, inr, ◌⊎◌}
use Rattle.std.proofs.lemmas.Bool.{true≢false}
use Rattle.std.specs.List.{AllByRecursion, Contains, AllPairs}
use Rattle.index_writing.specs.LabelGroups.{with_first, grouped}
use Rattle.base.proofs.Membership.{contains_first, contains_later, no_member, member_cases, each_member, all_members}
use Rattle.base.proofs.Bools.{by_bool}
use Rattle.index_writing.proofs.OrderedEntries.{Below, no_pairs, pairs_cons, first_pairs, later_pairs}

module _ {X A K : Type 0} (key_of : X → K) (number : X → ℕ) (key : A → K) (numbers : A → List ℕ) (R : K → K → Type 0) where
  -- how members, their keys and numbers, and their groups go together
  pub record IsGrouping (Before : X → X → Type 0) (same : A → A → Bool) (join : A → A → A) (of : X → A) : Type 0 where
    pub before_parts : (x y : X) → Before x y → R (key_of x) (key_of y) ⊎ ((key_of x ≡ key_of y) × (number x < number y))
    pub irreflexive : (k : K) → R k k → ⊥
    pub trans : (a b c : K) → R a b → R b c → R a c
    pub same_keys : (a b : A) → same a b ≡ true → key a ≡ key b
    pub same_test : (a b : A) → key a ≡ key b → same a b ≡ true
    pub of_key : (x : X) → key (of x) ≡ key_of x
    pub of_numbers : (x : X) → numbers (of x) ≡ number x ∷ []
    pub join_key : (a b : A) → key (join a b) ≡ key a
    pub join_numbers : (a b : A) → numbers (join a b) ≡ numbers a ++ numbers b

  abbrev GroupBefore : A → A → Type 0
  GroupBefore a b = R (key a) (key b)

  -- A group's numbers rise, and are of members of its key.
  pub record IsGroup (xs : List X) (g : A) : Type 0 where
    pub rise : AllPairs Below (numbers g)
    pub some : (n : ℕ) × Contains (numbers g) n
    pub only : (n : ℕ) → Contains (numbers g) n → (x : X) × Contains xs x × (key_of x ≡ key g) × (number x ≡ n)

  abbrev HasGroup : List A → X → Type 0
  HasGroup groups x = (g : A) × Contains groups g × (key g ≡ key_of x) × Contains (numbers g) (number x)

  -- The groups ascend by their keys, and each member has its group.
  pub record AreGroups (xs : List X) (groups : List A) : Type 0 where
    pub ascend : AllPairs GroupBefore groups
    pub each : (g : A) → Contains groups g → IsGroup xs g
    pub all : (x : X) → Contains xs x → HasGroup groups x

module _ {X A K : Type 0} {key_of : X → K} {number : X → ℕ} {key : A → K} {numbers : A → List ℕ} {R : K → K → Type 0} {Before : X → X → Type 0} {same : A → A → Bool} {join : A → A → A} {of : X → A} (law : IsGrouping key_of number key numbers R Before same join of) where
  abbrev IsPart : List X → A → Type 0
  IsPart = IsGroup key_of number key numbers R

  abbrev Has : List A → X → Type 0
  Has = HasGroup key_of number key numbers R

  abbrev Are : List X → List A → Type 0
  Are = AreGroups key_of number key numbers R

  abbrev Ahead : A → A → Type 0
  Ahead a b = R (key a) (key b)

  -- two of one key are one
  pub one_group : (groups : List A) (one other : A) → AllPairs Ahead groups → Contains groups one → Contains groups other → key one ≡ key other → one ≡ other
  one_group [] one _ up h i alike = absurd (no_member _ h)
  one_group (x ∷ groups) one other up h i alike =
      let behind = first_pairs Ahead x groups up in
      elim (member_cases x one _ h) [
        | inl a ↦ elim (member_cases x other _ i) [
          | inl b ↦ sym a ∙ b
          | inr b ↦ absurd (law.irreflexive (key other) (subst (λ k. R k (key other)) (ap key a ∙ alike) (each_member _ _ other behind b)))
        ]
        | inr a ↦ elim (member_cases x other _ i) [
          | inl b ↦ absurd (law.irreflexive (key one) (subst (λ k. R k (key one)) (ap key b ∙ sym alike) (each_member _ _ one behind a)))
          | inr b ↦ one_group groups one other (later_pairs Ahead x groups up) a b alike
        ]
      ]

  module _ (x : X) (xs : List X) (before : AllByRecursion (Before x) xs) where
    -- a member before all others has a lesser key than a group of theirs, or that key and a lesser number
    before_group : (g : A) (n : ℕ) → IsPart xs g → Contains (numbers g) n → R (key_of x) (key g) ⊎ ((key_of x ≡ key g) × (number x < n))
    before_group g n is i =
        let found = is.only n i in
        elim (law.before_parts x found.0 (each_member _ _ _ before found.1)) [
          | inl k ↦ inl (subst (R (key_of x)) found.2 k)
          | inr s ↦ inr (s.0 ∙ found.2, subst (λ m. number x < m) found.3 s.1)
        ]

    key_case : (g : A) → IsPart xs g → R (key_of x) (key g) ⊎ (key_of x ≡ key g)
    key_case g is = elim (before_group g is.some.0 is is.some.1) [ inl k ↦ inl k | inr s ↦ inr s.0 ]

    -- a group of its number and of later ones, before groups of greater keys
    groups_with : (g : A) (ns : List ℕ) (rest : List A) → key g ≡ key_of x → numbers g ≡ number x ∷ ns → AllPairs Below ns → ((n : ℕ) → Contains ns n → (number x < n) × (z : X) × Contains xs z × (key_of z ≡ key g) × (number z ≡ n)) → AllByRecursion (λ h. R (key_of x) (key h)) rest → AllPairs Ahead rest → ((h : A) → Contains rest h → IsPart xs h) → ((z : X) → Contains xs z → Has (g ∷ rest) z)
        → Are (x ∷ xs) (g ∷ rest)
    groups_with g ns rest its are rise each behind up parts all =
        let first = subst (λ l. Contains l (number x)) (sym are) (contains_first _ _) in
        let own : IsPart (x ∷ xs) g = record {
          rise = subst (AllPairs Below) (sym are) (pairs_cons Below _ _ (all_members _ ns (λ n h. (each n h).0)) rise);
          some = (number x, first);
          only = λ n i. elim (member_cases _ n _ (subst (λ l. Contains l n) are i)) [
            | inl a ↦ (x, contains_first x _, sym its, a)
            | inr b ↦ let found = each n b in (found.1, contains_later x _ _ found.2, found.3, found.4)
          ];
        } in
        record {
          ascend = pairs_cons Ahead g _ (subst (λ k. AllByRecursion (λ h. R k (key h)) rest) (sym its) behind) up;
          each = λ h among. elim (member_cases g h _ among) [
            | inl is ↦ subst (IsPart (x ∷ xs)) is own
            | inr r ↦ let part = parts h r in record { rise = part.rise; some = part.some; only = λ n i. let found = part.only n i in (found.0, contains_later x _ _ found.1, found.2, found.3) }
          ];
          all = λ z among. elim (member_cases x z _ among) [
            | inl is ↦ subst (Has (g ∷ rest)) is (g, contains_first g _, its, first)
            | inr r ↦ all z r
          ];
        }

    apart_groups : (groups : List A) → Are xs groups → ((g : A) → Contains groups g → key_of x ≡ key g → ⊥) → Are (x ∷ xs) (of x ∷ groups)
    apart_groups groups are apart =
        groups_with (of x) [] groups (law.of_key x) (law.of_numbers x) (no_pairs Below) (λ n h. absurd (no_member n h))
        (all_members _ _ (λ g h. elim (key_case g (are.each g h)) [ inl k ↦ k | inr s ↦ absurd (apart g h s) ])) are.ascend are.each (λ z h. let found = are.all z h in (found.0, contains_later _ _ _ found.1, found.2, found.3))

    joined_groups : (y : A) (ys : List A) → Are xs (y ∷ ys) → key_of x ≡ key y → Are (x ∷ xs) (join (of x) y ∷ ys)
    joined_groups y ys are alike =
        let its = law.join_key (of x) y ∙ law.of_key x in
        let both = law.join_numbers (of x) y ∙ ap (λ l. l ++ numbers y) (law.of_numbers x) in
        let here = are.each y (contains_first y _) in
        groups_with (join (of x) y) (numbers y) ys its both here.rise
        (λ n i.
        let found = here.only n i in
        let less : number x < n = elim (before_group y n here i) [
          | inl k ↦ absurd (law.irreflexive (key y) (subst (λ l. R l (key y)) alike k))
          | inr s ↦ s.1
        ] in
        (less, found.0, found.1, found.2 ∙ sym alike ∙ sym its, found.3))
        (subst (λ k. AllByRecursion (λ h. R k (key h)) ys) (sym alike) (first_pairs Ahead y _ are.ascend)) (later_pairs Ahead y _ are.ascend) (λ h i. are.each h (contains_later y h _ i))
        (λ z h.
        let found = are.all z h in
        elim (member_cases y _ _ found.1) [
          | inl is ↦ (join (of x) y, contains_first _ _, its ∙ alike ∙ ap key is ∙ found.2, subst (λ l. Contains l (number z)) (sym both) (contains_later _ _ _ (subst (λ g. Contains (numbers g) (number z)) (sym is) found.3)))
          | inr r ↦ (found.0, contains_later _ _ _ r, found.2, found.3)
        ])

    -- a member with another key than the first group's has a key of its own
    apart_first : (y : A) (ys : List A) → Are xs (y ∷ ys) → same (of x) y ≡ false → (g : A) → Contains (y ∷ ys) g → key_of x ≡ key g → ⊥
    apart_first y ys are apart g h alike = elim (member_cases y g _ h) [
      | inl is ↦ true≢false (sym (law.same_test (of x) y (law.of_key x ∙ alike ∙ ap key (sym is))) ∙ apart)
      | inr r ↦ let behind = each_member _ _ g (first_pairs Ahead y _ are.ascend) r in
          elim (key_case y (are.each y (contains_first y _))) [
            | inl less ↦ law.irreflexive (key g) (subst (λ l. R l (key g)) alike (law.trans (key_of x) (key y) (key g) less behind))
            | inr is ↦ law.irreflexive (key g) (subst (λ l. R l (key g)) (sym is ∙ alike) behind)
          ]
    ]

    groups_first : (groups : List A) → Are xs groups → Are (x ∷ xs) (with_first same join (of x) groups)
    groups_first [] are = apart_groups [] are (λ g h. absurd (no_member g h))
    groups_first (y ∷ ys) are = by_bool (same (of x) y)
        (λ is. rw is (joined_groups y ys are (sym (law.of_key x) ∙ law.same_keys (of x) y is)))
        (λ is. rw is (apart_groups (y ∷ ys) are (apart_first y ys are is)))

  pub are_groups : (xs : List X) → AllPairs Before xs → Are xs (grouped same join (map of xs))
  unfolding grouped
  are_groups [] up = record { ascend = no_pairs Ahead; each = λ g h. absurd (no_member g h); all = λ x h. absurd (no_member x h) }
  are_groups (x ∷ xs) up = groups_first x xs (first_pairs Before x _ up) _ (are_groups xs (later_pairs Before x _ up))
