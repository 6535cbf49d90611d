-- Longest runs: there is always one, and never two; and how a loop counts one.
use Rattle.std.proofs.Common.{◌≡◌, ℕ, ◌+◌, ◌<◌, Bool, true, false, List, [], ◌∷◌, ◌++◌, length, get_or, take, drop, append_assoc, append-nil, refl, sym, ap, ◌∙◌, subst}
use Rattle.std.proofs.lemmas.Bool.{true≢false}
use Rattle.std.proofs.lemmas.List.{take_more, drop_more}
use Rattle.base.proofs.Bools.{by_bool}
use Rattle.base.proofs.Lists.{cons_parts, nil_not_cons}
use Rattle.group_planner.specs.Runs.{EachPasses, Stops, IsLongestRun}

-- ---- there is one

pub record Cut {A : Type 0} (test : List A → A → Bool) (before members : List A) : Type 0 where
  pub run : List A
  pub behind : List A
  pub are : members ≡ run ++ behind
  pub longest : IsLongestRun test before run behind

one_more : {A : Type 0} (test : List A → A → Bool) (before members : List A) (one : A) → test before one ≡ true
    → Cut test (before ++ one ∷ []) members → Cut test before (one ∷ members)
one_more test before members one passes cut = record {
  run = one ∷ cut.run;
  behind = cut.behind;
  are = ap (λ l. one ∷ l) cut.are;
  longest = record { each = (passes, cut.longest.each); ends = subst (λ l. Stops test l cut.behind) (append_assoc before (one ∷ []) cut.run) cut.longest.ends };
}

no_more : {A : Type 0} (test : List A → A → Bool) (before members : List A) (one : A) → test before one ≡ false → Cut test before (one ∷ members)
no_more test before members one fails = record {
  run = [];
  behind = one ∷ members;
  are = refl;
  longest = record { each = tt; ends = subst (λ l. test l one ≡ false) (sym (append-nil before)) fails };
}

pub cut_of : {A : Type 0} (test : List A → A → Bool) (before members : List A) → Cut test before members
cut_of test before [] = record { run = []; behind = []; are = refl; longest = record { each = tt; ends = tt } }
cut_of test before (one ∷ members) = by_bool (test before one)
    (λ passes. one_more test before members one passes (cut_of test (before ++ one ∷ []) members))
    (λ fails. no_more test before members one fails)

-- ---- there are no two

pub stops_first : {A : Type 0} (test : List A → A → Bool) (before behind : List A) (one : A) (members : List A) → Stops test (before ++ []) behind → behind ≡ one ∷ members
    → test before one ≡ true → ⊥
stops_first test before behind one members stops are passes =
    true≢false (sym passes ∙ subst (λ l. test l one ≡ false) (append-nil before) (subst (Stops test (before ++ [])) are stops))

behind_first : {A : Type 0} (test : List A → A → Bool) (before : List A) (one : A) (run behind : List A) → IsLongestRun test before (one ∷ run) behind
    → IsLongestRun test (before ++ one ∷ []) run behind
behind_first test before one run behind longest = record {
  each = longest.each.1;
  ends = subst (λ l. Stops test l behind) (sym (append_assoc before (one ∷ []) run)) longest.ends;
}

pub one_run : {A : Type 0} (test : List A → A → Bool) (before run behind other left : List A) → IsLongestRun test before run behind → IsLongestRun test before other left
    → run ++ behind ≡ other ++ left → (run ≡ other) × (behind ≡ left)
one_run test before [] behind [] left a b same = (refl, same)
one_run test before [] behind (y ∷ other) left a b same = absurd (stops_first test before behind y (other ++ left) a.ends same b.each.0)
one_run test before (x ∷ run) behind [] left a b same = absurd (stops_first test before left x (run ++ behind) b.ends (sym same) a.each.0)
one_run test before (x ∷ run) behind (y ∷ other) left a b same =
    let parts : (x ≡ y) × (run ++ behind ≡ other ++ left) = cons_parts x y (run ++ behind) (other ++ left) same in
    let tail : IsLongestRun test (before ++ x ∷ []) other left =
    subst (λ z. IsLongestRun test (before ++ z ∷ []) other left) (sym parts.0) (behind_first test before y other left b) in
    let rest : (run ≡ other) × (behind ≡ left) = one_run test (before ++ x ∷ []) run behind other left (behind_first test before x run behind a) tail parts.1 in
    (ap (λ z. z ∷ run) parts.0 ∙ ap (λ l. y ∷ l) rest.0, rest.1)

-- all members are one run exactly where nothing is left
pub all_or_cut : {A : Type 0} (test : List A → A → Bool) (before members run behind : List A) (one : A) → EachPasses test before members
    → IsLongestRun test before run (one ∷ behind) → members ≡ run ++ one ∷ behind → ⊥
all_or_cut test before members run behind one each longest are =
    let whole : IsLongestRun test before members [] = record { each = each; ends = tt } in
    nil_not_cons one behind (one_run test before members [] run (one ∷ behind) whole longest (append-nil members ∙ are)).1

-- ---- a loop that counts a run

each-append : {A : Type 0} (test : List A → A → Bool) (before members : List A) (one : A) → EachPasses test before members → test (before ++ members) one ≡ true
    → EachPasses test before (members ++ one ∷ [])
each-append test before [] one each passes = (subst (λ l. test l one ≡ true) (append-nil before) passes, tt)
each-append test before (x ∷ members) one each passes =
    (each.0, each-append test (before ++ x ∷ []) members one each.1 (subst (λ l. test l one ≡ true) (sym (append_assoc before (x ∷ []) members)) passes))

pub each_more : {A : Type 0} (test : List A → A → Bool) (before members : List A) (place : ℕ) (one : A) → place < length members → one ≡ get_or members place one
    → EachPasses test before (take place members) → test (before ++ take place members) one ≡ true → EachPasses test before (take (place + 1) members)
each_more test before members place one within at each passes =
    subst (EachPasses test before) (sym (take_more members place one within ∙ ap (λ x. take place members ++ x ∷ []) (sym at)))
    (each-append test before (take place members) one each passes)

pub stops_at : {A : Type 0} (test : List A → A → Bool) (before members : List A) (place : ℕ) (one : A) → place < length members → one ≡ get_or members place one
    → test before one ≡ false → Stops test before (drop place members)
stops_at test before members place one within at fails =
    subst (Stops test before) (sym (drop_more members place one within ∙ ap (λ x. x ∷ drop (place + 1) members) (sym at))) fails
