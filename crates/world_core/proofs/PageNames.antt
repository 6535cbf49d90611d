-- Names of a page, the ULIDs among them, and the last one.
use Rattle.std.proofs.Common.{◌≡◌, ℕ, ◌≤◌, ◌<◌, ◌+◌, ◌-◌, suc, List, [], ◌∷◌, ◌++◌, length, get_or, refl, sym, ◌∙◌, ap, arith, Option, Some, None, Result, Ok, Err, append_assoc, append-nil, take, ◌^◌}
use Rattle.std.specs.Prelude.{IfOk}
use Rattle.base.specs.declared.memory.NoMemory.{NoMemory}
use Rattle.std.specs.List.{last_or, cons_option, filter_map, AllByRecursion}
use Rattle.std.specs.Result.{result_ok}
use Rattle.std.proofs.lemmas.List.Elements.{filter_map-append}
use Rattle.std.proofs.lemmas.List.{take_more}
use Rattle.ulid_core.specs.UlidText.{ulid_of}
use Rattle.ulid_core.specs.declared.ulid.UlidRefusal.{UlidRefusal}
use Rattle.ulid_core.proofs.UlidLaws.{ulid_of-found}
use Rattle.world_core.specs.Walks.{last_listed, ulids_in}

-- ---- what is found among names

module _ {X : Type 0} (read : List ℕ → Option X) where
  length-cons_option : (o : Option X) (xs : List X) → length (cons_option o xs) ≤ length xs + 1
  length-cons_option None xs = omega arith
  length-cons_option (Some x) xs = omega arith

  -- no more than there are names
  pub length-found : (names : List (List ℕ)) → length (filter_map read names) ≤ length names
  length-found [] = omega arith
  length-found (name ∷ names) =
      let few : length (filter_map read names) ≤ length names = length-found names in
      let more : length (cons_option (read name) (filter_map read names)) ≤ length (filter_map read names) + 1 = length-cons_option (read name) (filter_map read names) in
      omega (arith, few, more)

  -- one name more
  found-more : (names : List (List ℕ)) (i : ℕ) (d name : List ℕ) → i < length names → name ≡ get_or names i d
      → filter_map read (take (i + 1) names) ≡ filter_map read (take i names) ++ cons_option (read name) []
  found-more names i d name lt is =
      ap (filter_map read) (take_more names i d lt ∙ ap (λ n. take i names ++ n ∷ []) (sym is)) ∙ filter_map-append read (take i names) (name ∷ [])

  pub add_found : (names : List (List ℕ)) (i : ℕ) (d name : List ℕ) (x : X) (before old new : List X) → i < length names → name ≡ get_or names i d
      → read name ≡ Some x → before ≡ old ++ filter_map read (take i names) → new ≡ before ++ x ∷ [] → new ≡ old ++ filter_map read (take (i + 1) names)
  add_found names i d name x before old new lt is gives invariant pushed =
      pushed ∙ ap (λ l. l ++ x ∷ []) invariant ∙ append_assoc old (filter_map read (take i names)) (x ∷ [])
      ∙ ap (λ o. old ++ (filter_map read (take i names) ++ cons_option o [])) (sym gives) ∙ ap (λ l. old ++ l) (sym (found-more names i d name lt is))

  pub add_none : (names : List (List ℕ)) (i : ℕ) (d name : List ℕ) (before old new : List X) → i < length names → name ≡ get_or names i d
      → read name ≡ None → before ≡ old ++ filter_map read (take i names) → new ≡ before → new ≡ old ++ filter_map read (take (i + 1) names)
  add_none names i d name before old new lt is none invariant same =
      same ∙ invariant ∙ sym (ap (λ l. old ++ l) (found-more names i d name lt is ∙ ap (λ o. filter_map read (take i names) ++ cons_option o []) none ∙ append-nil (filter_map read (take i names))))

pub none_else : {X : Type 0} (o : Option X) → ((x : X) → o ≡ Some x → ⊥) → o ≡ None
none_else None refused = refl
none_else (Some x) refused = absurd (refused x refl)

pub no_ulid : {E : Type 0} (read : Result ℕ E) → ((ulid : ℕ) → read ≡ Ok ulid → ⊥) → result_ok read ≡ None
no_ulid (Ok ulid) refused = absurd (refused ulid refl)
no_ulid (Err e) refused = refl

pub ulids_in-append : (before more : List (List ℕ)) → ulids_in (before ++ more) ≡ ulids_in before ++ ulids_in more
ulids_in-append before more = filter_map-append (λ name. result_ok (ulid_of name)) before more

pub length-ulids_in : (names : List (List ℕ)) → length (ulids_in names) ≤ length names
length-ulids_in names = length-found (λ name. result_ok (ulid_of name)) names

-- ---- the last name

last_or-append : {X : Type 0} (o : Option X) (xs : List X) (y : X) (ys : List X) → last_or o (xs ++ y ∷ ys) ≡ last_or (Some y) ys
last_or-append o [] y ys = refl
last_or-append o (x ∷ xs) y ys = last_or-append (Some x) xs y ys

-- the last of more names is the last of all
pub last_listed-append : (before more : List (List ℕ)) → 0 < length more → last_listed (before ++ more) ≡ last_listed more
last_listed-append before [] some = absurd (omega arith)
last_listed-append before (x ∷ more) some = last_or-append None before x more

pub last_listed-more : (before more : List (List ℕ)) (name : List ℕ) → last_listed more ≡ Some name → last_listed (before ++ more) ≡ Some name
last_listed-more before [] name is = absurd (cc)
last_listed-more before (x ∷ more) name is = last_or-append None before x more ∙ is

last_or-at : {X : Type 0} (o : Option X) (xs : List X) (d : X) → 0 < length xs → last_or o xs ≡ Some (get_or xs (length xs - 1) d)
last_or-at o [] d some = absurd (omega arith)
last_or-at o (x ∷ []) d some = refl
last_or-at o (x ∷ y ∷ xs) d some =
    let here : length (x ∷ y ∷ xs) - 1 ≡ suc (length (y ∷ xs) - 1) = omega arith in
    last_or-at (Some x) (y ∷ xs) d (omega arith) ∙ ap (λ n. Some (get_or (x ∷ y ∷ xs) n d)) (sym here)

pub last_listed-at : (names : List (List ℕ)) (d : List ℕ) → 0 < length names → last_listed names ≡ Some (get_or names (length names - 1) d)
last_listed-at names d some = last_or-at None names d some

pub last_copied : (r : Result (List ℕ) NoMemory) (names : List (List ℕ)) (name d : List ℕ) → 0 < length names
    → name ≡ get_or names (length names - 1) d → IfOk r (λ copied. copied ≡ name) → IfOk r (λ copied. last_listed names ≡ Some copied)
last_copied (Ok copied) names name d some at is = last_listed-at names d some ∙ ap Some (sym (is ∙ at))
last_copied (Err e) names name d some at is = tt

-- the ULIDs that wait once a page more was listed
pub all_wait : (before : List ℕ) (page names : List (List ℕ)) (waiting : List ℕ) → waiting ≡ before ++ ulids_in page → ulids_in names ≡ before → waiting ≡ ulids_in (names ++ page)
all_wait before page names waiting added listed = added ∙ ap (λ l. l ++ ulids_in page) (sym listed) ∙ sym (ulids_in-append names page)

-- ---- numbers of 128 bits

abbrev pub AreSmall : List ℕ → Type 0
AreSmall ulids = AllByRecursion (λ ulid. ulid < 2 ^ 128) ulids

pub one_small : (r : Result ℕ UlidRefusal) (ulids : List ℕ) → ((ulid : ℕ) → r ≡ Ok ulid → ulid < 2 ^ 128) → AreSmall ulids → AreSmall (cons_option (result_ok r) ulids)
one_small (Ok ulid) ulids small all = (small ulid refl, all)
one_small (Err e) ulids small all = all

pub ulids_small : (names : List (List ℕ)) → AreSmall (ulids_in names)
ulids_small [] = tt
ulids_small (name ∷ names) = one_small (ulid_of name) (ulids_in names) (λ ulid is. (ulid_of-found name ulid is).fits) (ulids_small names)
