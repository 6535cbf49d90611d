-- What is picked behind the cursor's place is the page.
use Rattle.std.proofs.Common.{◌≡◌, ℕ, suc, true, false, cond, List, [], ◌∷◌, ◌++◌, length, take, drop, refl, sym, ◌∙◌, ap, subst, inl, inr, arith, Option, Some, None}
use Rattle.std.proofs.lemmas.List.Elements.{All-from_recursion, Contains-append_cases, Contains-append_right}
use Rattle.std.specs.Prelude.{◌==◌, IsSome, is_some, Contains}
use Rattle.std.specs.List.{AllByRecursion}
use Rattle.std.specs.List.Sorted.{IsStrictlySortedBy}
use Rattle.std.specs.Option.{option_map_or}
use Rattle.std.specs.Ordering.{is_lt}
use Rattle.std.specs.Str.{bytes_eq}
use Rattle.std.specs.declared.cmp.Ordering.TheVariants.{Less}
use Rattle.std.proofs.lemmas.Bool.{cases_Bool, eqb-true}
use Rattle.std.proofs.lemmas.List.{take-append-drop}
use Rattle.std.proofs.lemmas.Map.Keys.{sorted_head, sorted_tail}
use Rattle.base.proofs.Bools.{Less-from_is_lt, bytes_eq-itself, same_texts}
use Rattle.base.specs.Ordered.{Rises}
use Rattle.base.proofs.Membership.{contains_first, contains_later, each_member, member_cases, no_member}
use Rattle.base.proofs.Order.{sorted_drop}
use Rattle.label_sets.specs.Labels.{ComesBefore, is_lesser_text}
use Rattle.bucket_core.specs.Contents.{Contents}
use Rattle.bucket_core.specs.Pages.{Lists, IsName, IsPage}
use Rattle.bucket_core.specs.declared.objects.Stored.{Stored}
use Rattle.bucket_core.specs.Stored.{first_part, key_cmp, is_before, by_key, object_in, name_of, names_of, text_after, picked, IsPlace, IsStart}
use Rattle.bucket_core.proofs.Order.{root_skipped, folder_cmp, folder_key, folder_name, names_rise, key_between, not_below}
use Rattle.bucket_core.proofs.Picks.{picked_ascends, picked_few, picked_within, picked_whole}

-- what stands, stands for a member
pub stands_for : (os : List Stored) (key : List ℕ) → IsSome (object_in os key) → (p : Stored) × Contains os p × (p.key ≡ key)
stands_for [] _ some = cc
stands_for (o ∷ os) key some =
    elim (cases_Bool _) [
      | inl same ↦ (o, contains_first o os, same_texts _ _ same)
      | inr differs ↦ (let below : _ = stands_for os _ (sym (ap (λ b. is_some (cond b (Some o.bytes) (object_in os key))) differs) ∙ some) in
          (below.0, contains_later o below.0 os below.1, below.2))
    ]

-- a member stands
pub member_stands : (os : List Stored) (p : Stored) → Contains os p → IsSome (object_in os p.key)
member_stands [] p among = absurd (no_member p among)
member_stands (o ∷ os) p among = elim (member_cases o p os among) [
  | inl same ↦ ap (λ b. is_some (cond b (Some o.bytes) (object_in os p.key))) (ap (λ k. bytes_eq o.key k.key) (sym same) ∙ bytes_eq-itself o.key)
  | inr later ↦ elim (cases_Bool (bytes_eq o.key p.key)) [
    | inl same ↦ ap (λ b. is_some (cond b (Some o.bytes) (object_in os p.key))) same
    | inr differs ↦ ap (λ b. is_some (cond b (Some o.bytes) (object_in os p.key))) differs ∙ member_stands os p later
  ]
]

-- a name as the definition of listings has it
lists_of : (within key name : List ℕ) → name_of within key ≡ Some name → Lists within key name
lists_of [] _ _ e = cc
lists_of (b ∷ w) _ _ e = folder_key (b ∷ w) _ _ e

name_from : (within key name : List ℕ) → Lists within key name → name_of within key ≡ Some name
name_from [] key _ lists = ap (λ n. Some n) (sym lists)
name_from (b ∷ w) _ _ lists = ap (text_after ((b ∷ w) ++ 47 ∷ [])) lists ∙ folder_name (b ∷ w) _

-- the names of a run of objects, by whether the first has one
by_names : (P : List (List ℕ) → Type 0) (within : List ℕ) (o : Stored) (os : List Stored) → (name_of within o.key ≡ None → P [])
    → ((n : List ℕ) → name_of within o.key ≡ Some n → P (n ∷ names_of within os)) → P (names_of within (o ∷ os))
by_names P within o os none some =
    let cases : (r : Option (List ℕ)) → name_of within o.key ≡ r → P (option_map_or (λ name. name ∷ names_of within os) r []) =
    (elim [ None ↦ none | Some n ↦ some n ]) in
    cases (name_of within o.key) refl

names_stand : (within : List ℕ) (contents : Contents) (os : List Stored) → ((o : Stored) → Contains os o → IsSome (contents o.key))
    → AllByRecursion (IsName contents within) (names_of within os)
names_stand _ _ [] stand = tt
names_stand within contents (o ∷ os) stand =
    by_names (AllByRecursion (IsName contents within)) within o os (λ none. tt)
    (λ n some. ((o.key, stand o (contains_first o os), lists_of within o.key n some), names_stand within contents os (λ p among. stand p (contains_later o p os among))))

later_names : (within : List ℕ) (o : Stored) (n : List ℕ) (os : List Stored) → name_of within o.key ≡ Some n
    → AllByRecursion (λ l. by_key o l ≡ Less) os → AllByRecursion (λ m. is_lesser_text m n ≡ false) (names_of within os)
later_names _ o n [] named all = tt
later_names within o n (l ∷ os) named all =
    by_names (AllByRecursion (λ m. is_lesser_text m n ≡ false)) within l os (λ none. tt)
    (λ m some. (names_rise within o.key l.key n m all.0 named some, later_names within o n os named all.1))

-- the names of objects in order do not fall
pub names_in_order : (within : List ℕ) (os : List Stored) → IsStrictlySortedBy by_key os → Rises is_lesser_text (names_of within os)
names_in_order _ [] ordered = tt
names_in_order within (o ∷ os) ordered =
    by_names (Rises is_lesser_text) within o os (λ none. tt)
    (λ n some. (later_names within o n os some (sorted_head by_key o os ordered), names_in_order within os (sorted_tail by_key o os ordered)))

-- what is picked behind a place is the page, where all of the folder's names that are due stand behind it
pub page_is : (objects : List Stored) (within after : List ℕ) (limit place : ℕ) → IsStrictlySortedBy by_key objects
    → ((p : Stored) (name : List ℕ) → Contains (take place objects) p → name_of within p.key ≡ Some name → is_lesser_text after name ≡ false)
    → ((p : Stored) (name : List ℕ) → Contains (drop place objects) p → name_of within p.key ≡ Some name → Contains (names_of within (drop place objects)) name)
    → IsPage (object_in objects) within after limit (picked after limit (names_of within (drop place objects)))
page_is objects within after limit place ordered skipped behind =
    let back : List Stored = drop place objects in
    let names = names_of within back in
    let page = picked after limit names in
    record {
      ascend = picked_ascends after limit names;
      few = picked_few after limit names;
      stand = All-from_recursion (IsName (object_in objects) within) page
          (picked_within (IsName (object_in objects) within) after limit names
          (names_stand within (object_in objects) back (λ o among. member_stands objects o (subst (λ (os : List Stored). Contains os o) (take-append-drop place objects) (Contains-append_right (take place objects) back o among)))));
      whole = λ name is due. (let found : (p : Stored) × Contains objects p × (p.key ≡ is.0) = stands_for objects is.0 is.1 in
          let named : name_of within found.0.key ≡ Some name = ap (name_of within) found.2 ∙ name_from within is.0 name is.2 in
          let whole_list : take place objects ++ back ≡ objects = take-append-drop place objects in
          elim (Contains-append_cases (take place objects) back found.0 (subst (λ (os : List Stored). Contains os found.0) (sym whole_list) found.1)) [
            | inl front ↦ absurd (let e : is_lesser_text after name ≡ false = skipped found.0 name front named in
                let t : is_lesser_text after name ≡ true = ap is_lt due in cc)
            | inr there ↦ elim (picked_whole after limit names name (names_in_order within back (sorted_drop by_key place objects ordered)) (behind found.0 name there named) (ap is_lt due)) [
              | inl among ↦ inl among
              | inr full ↦ inr (full.0, All-from_recursion (λ listed. ComesBefore listed name) page full.1)
            ]
          ]);
    }

-- each object has a name in the listing of the whole bucket
root_names : (p : Stored) (name : List ℕ) (os : List Stored) → Contains os p → name_of [] p.key ≡ Some name → Contains (names_of [] os) name
root_names p name [] among named = absurd (no_member p among)
root_names p name (o ∷ os) among named = elim (member_cases o p os among) [
  | inl same ↦
      let e : first_part p.key ≡ name = cc in
      subst (Contains (first_part o.key ∷ names_of [] os)) (ap (λ (q : Stored). first_part q.key) same ∙ e) (contains_first (first_part o.key) (names_of [] os))
  | inr later ↦ contains_later (first_part o.key) name (names_of [] os) (root_names p name os later named)
]

pub root_page : (objects : List Stored) (after : List ℕ) (limit place : ℕ) → IsStrictlySortedBy by_key objects → IsPlace after objects place
    → IsPage (object_in objects) [] after limit (picked after limit (names_of [] (drop place objects)))
root_page objects after limit place ordered at =
    page_is objects _ _ _ _ ordered
    (λ p name among named. (let e : first_part p.key ≡ name = cc in
    ap (is_lesser_text after) (sym e) ∙ root_skipped p.key after (Less-from_is_lt _ (each_member _ _ p at.front among))))
    (λ p name among named. root_names p name (drop place objects) among named)

-- from the cursor on, the objects of a folder stand together
folder_names : (b : ℕ) (w after : List ℕ) (p : Stored) (name : List ℕ) (os : List Stored) → IsStrictlySortedBy by_key os
    → AllByRecursion (λ o. is_before ((b ∷ w) ++ 47 ∷ after) o ≡ false) os → Contains os p → name_of (b ∷ w) p.key ≡ Some name
    → Contains (names_of (b ∷ w) os) name
folder_names b w after p name [] ordered all among named = absurd (no_member p among)
folder_names b w after p name (o ∷ os) ordered all among named = elim (member_cases o p os among) [
  | inl same ↦
      let e : name_of (b ∷ w) o.key ≡ Some name = ap (λ (q : Stored). name_of (b ∷ w) q.key) same ∙ named in
      by_names (λ (names : List (List ℕ)). Contains names name) (b ∷ w) o os
      (λ none. absurd cc)
      (λ n some. (let s : n ≡ name = cc in subst (Contains (n ∷ names_of (b ∷ w) os)) s (contains_first n (names_of (b ∷ w) os))))
  | inr later ↦
      let ahead : key_cmp o.key p.key ≡ Less = each_member (λ l. by_key o l ≡ Less) os p (sorted_head by_key o os ordered) later in
      let between : (n : List ℕ) × (text_after ((b ∷ w) ++ 47 ∷ []) o.key ≡ Some n) =
      key_between (b ∷ w) after o.key name all.0 (ap (key_cmp o.key) (sym (folder_key (b ∷ w) p.key name named)) ∙ ahead) in
      by_names (λ (names : List (List ℕ)). Contains names name) (b ∷ w) o os
      (λ none. absurd (let e = between.1 in cc))
      (λ n some. contains_later n name (names_of (b ∷ w) os) (folder_names b w after p name os (sorted_tail by_key o os ordered) all.1 later named))
]

pub folder_page : (objects : List Stored) (within after : List ℕ) (limit place : ℕ) → (within ≡ [] → ⊥) → IsStrictlySortedBy by_key objects
    → IsPlace (within ++ 47 ∷ after) objects place
    → IsPage (object_in objects) within after limit (picked after limit (names_of within (drop place objects)))
folder_page _ [] _ _ _ given ordered at = absurd (given refl)
folder_page objects (b ∷ w) after _ place given ordered at =
    page_is _ _ _ _ _ ordered
    (λ p name among named. (let before = Less-from_is_lt _ (each_member _ _ p at.front among) in
    let e =
    sym (folder_cmp (b ∷ w) name after) ∙ ap (λ k. key_cmp k ((b ∷ w) ++ 47 ∷ after)) (sym (folder_key (b ∷ w) _ _ named)) ∙ before in
    not_below name after (inr e)))
    (λ p name among named. folder_names b w after p name (drop place objects) (sorted_drop by_key place objects ordered) at.back among named)

-- the places behind which pages are picked
pub root_start : (within after : List ℕ) (objects : List Stored) (place : ℕ) → true ≡ (length within == 0) → IsStrictlySortedBy by_key objects
    → IsPlace after objects place → IsStart within after objects place
root_start [] after objects place empty ordered at = record {
  start_within = at.within;
  page = λ limit. root_page objects after limit place ordered at;
}
root_start (b ∷ w) after _ _ empty ordered at = absurd (let e : suc (length w) ≡ 0 = eqb-true (suc (length w)) 0 (sym empty) in omega arith)

pub folder_start : (within after key : List ℕ) (objects : List Stored) (place : ℕ) → false ≡ (length within == 0) → key ≡ within ++ 47 ∷ after
    → IsStrictlySortedBy by_key objects → IsPlace key objects place → IsStart within after objects place
folder_start [] after _ _ _ given is ordered at = cc
folder_start (b ∷ w) after _ objects place given is ordered at = record {
  start_within = at.within;
  page = λ limit. folder_page objects (b ∷ w) after limit place (λ e. cc) ordered (subst (λ k. IsPlace k objects place) is at);
}
