-- A page is its first name and then the page after that.
use Rattle.base.proofs.Membership.{contains_first, contains_later}
use Rattle.std.proofs.Common.{◌≡◌, inl, inr, ℕ, suc, ◌+◌, ◌-◌, ◌<◌, ◌≤◌, List, [], ◌∷◌, ◌++◌, refl, sym, subst, arith, append_assoc, append-nil}
use Rattle.std.specs.Prelude.{Contains}
use Rattle.std.proofs.lemmas.List.Elements.{All-cons, All-nil}
use Rattle.label_sets.specs.Labels.{ComesBefore}
use Rattle.bucket_core.specs.Contents.{Contents}
use Rattle.bucket_core.specs.Pages.{IsName, IsPage}
use Rattle.breach_finding.specs.Next.{IsLeast}

module _ (contents : Contents) (within : List ℕ) where
  -- no name is asked for
  pub page_full : (after : List ℕ) → IsPage contents within after 0 []
  page_full after = record { ascend = tt; few = omega arith; stand = All-nil (IsName contents within); whole = λ name named due. inr (refl, All-nil (λ listed. ComesBefore listed name)) }

  -- no name is due
  pub page_none : (after : List ℕ) (limit : ℕ) → ((name : List ℕ) → IsName contents within name → ¬ ComesBefore after name) → IsPage contents within after limit []
  page_none after limit none = record { ascend = tt; few = omega arith; stand = All-nil (IsName contents within); whole = λ name named due. absurd (none name named due) }

  -- the least name that is due, and the page after it
  pub page_more : (after name : List ℕ) (limit : ℕ) (page : List (List ℕ)) → IsLeast contents within after name → IsPage contents within name limit page → IsPage contents within after (suc limit) (name ∷ page)
  page_more after name limit page is others = record {
    ascend = (is.due, others.ascend);
    few = omega (arith, others.few);
    stand = All-cons (IsName contents within) name page is.named others.stand;
    whole = λ other named due. elim (is.least other named due) [
      | inl same ↦ inl (subst (Contains (name ∷ page)) same (contains_first name page))
      | inr later ↦ elim (others.whole other named later) [
        | inl there ↦ inl (contains_later name other page there)
        | inr full ↦ inr (omega (arith, full.0), All-cons (λ listed. ComesBefore listed other) name page later full.1)
      ]
    ];
  }

-- ---- a page, name by name

module _ (contents : Contents) (within after last : List ℕ) (limit count : ℕ) (names : List (List ℕ)) (completes : (others : List (List ℕ)) → IsPage contents within last (limit - count) others → IsPage contents within after limit (names ++ others)) where
  pub page_on : (name : List ℕ) (others : List (List ℕ)) → count < limit → IsLeast contents within last name → IsPage contents within name (limit - (count + 1)) others → IsPage contents within after limit ((names ++ name ∷ []) ++ others)
  page_on name others more is page =
      let room : suc (limit - (count + 1)) ≡ limit - count = omega (arith, more) in
      subst (IsPage contents within after limit) (sym (append_assoc names (name ∷ []) others))
      (completes (name ∷ others) (subst (λ n. IsPage contents within last n (name ∷ others)) room (page_more contents within last name (limit - (count + 1)) others is page)))

  pub page_done : limit ≤ count → IsPage contents within after limit names
  page_done done =
      let none : 0 ≡ limit - count = omega (arith, done) in
      subst (IsPage contents within after limit) (append-nil names) (completes [] (subst (λ n. IsPage contents within last n []) none (page_full contents within last)))

  pub page_over : ((name : List ℕ) → IsName contents within name → ¬ ComesBefore last name) → IsPage contents within after limit names
  page_over none = subst (IsPage contents within after limit) (append-nil names) (completes [] (page_none contents within last (limit - count) none))

-- no name was taken yet
pub page_begun : (contents : Contents) (within after last : List ℕ) (limit : ℕ) (names others : List (List ℕ)) → names ≡ [] → last ≡ after → IsPage contents within last (limit - 0) others → IsPage contents within after limit (names ++ others)
page_begun contents within after last limit names others none starts page =
    let all : limit - 0 ≡ limit = omega arith in
    subst (λ ns. IsPage contents within after limit (ns ++ others)) (sym none)
    (subst (λ n. IsPage contents within after n others) all (subst (λ t. IsPage contents within t (limit - 0) others) starts page))
