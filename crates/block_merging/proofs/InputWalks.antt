-- Blocks that are tested and taken one after another.
use Rattle.std.proofs.Common.{◌≡◌, ℕ, zero, suc, ◌+◌, ◌-◌, ◌^◌, ◌<◌, ◌≤◌, Bool, true, false, List, [], ◌∷◌, ◌++◌, length, map, take, get_or, Some, Result, Ok, Err, refl, sym, ap, subst, ◌∙◌, append-nil, append_assoc, inl, inr, ◌⊎◌, arith}
use Rattle.std.specs.Prelude.{slice_get, min, IfErr, IsTrue, ◌↔◌}
use Rattle.std.specs.Result.{IsErrAnd}
use Rattle.std.specs.List.{AllByRecursion}
use Rattle.std.proofs.lemmas.List.{map-append, take_more, take_all}
use Rattle.std.proofs.lemmas.Option.{slice_get_within, slice_get-get_or}
use Rattle.base.proofs.Lists.{take_none, AllByRecursion-append, AllByRecursion-weaker}
use Rattle.base.proofs.Membership.{each_member, contains_place}
use Rattle.base.proofs.Binds.{err_is}
use Rattle.label_sets.specs.declared.label.Label.{Label}
use Rattle.label_sets.specs.declared.series.Series.{Series}
use Rattle.index_parts.specs.declared.index_series.IndexSeries.{IndexSeries}
use Rattle.index_parts.specs.IndexFile.{IsIndex}
use Rattle.block_meta.specs.declared.block_plan.BlockPlan.{BlockPlan}
use Rattle.block_meta.specs.declared.block_files.BlockFiles.{BlockFiles}
use Rattle.base.proofs.FirstLaws.{some_is}
use Rattle.block_content.specs.Content.{IsContent}
use Rattle.block_content.specs.ContentReading.{fitted}
use Rattle.block_content.specs.ContentRefusals.{RefusesContent}
use Rattle.block_content.specs.declared.check_refusal.CheckRefusal.{CheckRefusal}
use Rattle.block_content.specs.declared.check_refusal.CheckRefusal.TheVariants as check
use Rattle.block_writing.specs.Put.{PutSeries}
use Rattle.block_writing.proofs.Tested.{tested_all, refused_at, never, not_told}
use Rattle.block_merging.specs.declared.merge_refusal.MergeRefusal.{MergeRefusal}
use Rattle.block_merging.specs.declared.merge_refusal.MergeRefusal.TheVariants.{Input, NoMemory}
use Rattle.block_merging.specs.Inputs.{LiesWithin, HasContent, IsFirstRefused, AreTaken, taken}
use Rattle.block_merging.specs.MergeSteps.{IsTest, AreTests, refused_input}

-- ---- blocks that are tested

abbrev pub Holds : BlockFiles → Type 0
Holds block = HasContent block × ((cause : CheckRefusal) → RefusesContent block cause → ⊥)

pub record TestedSoFar (inputs : List BlockFiles) (i number : ℕ) : Type 0 where
  pub count : number ≡ fitted i
  pub good : AllByRecursion Holds (take i inputs)

pub tested_none : (inputs : List BlockFiles) → TestedSoFar inputs 0 0
tested_none inputs = record { count = omega arith; good = tt }

passed : {X : Type 0} (block : BlockFiles) (r : Result X CheckRefusal) (x : X) → IsTest block r → r ≡ Ok x → Holds block
passed {X} block (Err e) x test ok = absurd cc
passed {X} block (Ok y) x test ok = (test.held, λ cause refused. elim (test.refuses cause refused) [ inl e ↦ absurd cc | inr e ↦ absurd cc ])

pub tested_more : {X : Type 0} (inputs : List BlockFiles) (i number next : ℕ) (block d : BlockFiles) (r : Result X CheckRefusal) (x : X) → TestedSoFar inputs i number → i < length inputs → block ≡ get_or inputs i d
    → IsTest block r → r ≡ Ok x → next ≡ min (number + 1) (2 ^ 32 - 1) → TestedSoFar inputs (i + 1) next
tested_more {X} inputs i number next block d r x h lt at test ok is = record {
  count = omega (arith, h.count, is);
  good = subst (AllByRecursion Holds) (sym (take_more inputs i d lt)) (AllByRecursion-append Holds (take i inputs) (get_or inputs i d ∷ []) h.good (subst Holds at (passed block r x test ok), tt));
}

kept_cause : (number : ℕ) (block : BlockFiles) (cause : CheckRefusal) → RefusesContent block cause → refused_input number cause ≡ Input number cause
kept_cause number block check.NoMemory refused = absurd refused
kept_cause number block cause refused = refl

there : (inputs : List BlockFiles) (i : ℕ) (block d : BlockFiles) → i < length inputs → block ≡ get_or inputs i d → slice_get inputs i ≡ Some block
there inputs i block d lt at = slice_get-get_or inputs i d lt ∙ ap Some (sym at)

abbrev pub FirstTold : List BlockFiles → MergeRefusal → Type 0
FirstTold inputs refusal = (refusal ≡ NoMemory) ⊎ ((place : ℕ) × (cause : CheckRefusal) × IsFirstRefused inputs place cause × (refusal ≡ Input (fitted place) cause))

tested_stop : {X : Type 0} (inputs : List BlockFiles) (i number : ℕ) (block d : BlockFiles) (r : Result X CheckRefusal) (e : CheckRefusal) (refusal : MergeRefusal) → TestedSoFar inputs i number → i < length inputs → block ≡ get_or inputs i d
    → IsTest block r → r ≡ Err e → refusal ≡ refused_input number e → FirstTold inputs refusal
tested_stop {X} inputs i number block d (Ok x) e refusal h lt at test is told = absurd cc
tested_stop {X} inputs i number block d (Err f) e refusal h lt at test is told =
    let same : f ≡ e = cc in
    elim (test.refused) [
      | inl none ↦ inl (told ∙ ap (refused_input number) (sym same ∙ none))
      | inr refused ↦ inr (
        i,
        f,
        record { member = block; stands = there inputs i block d lt at; bad = refused; before = AllByRecursion-weaker Holds HasContent (λ b holds. holds.0) (take i inputs) h.good },
        told ∙ ap (refused_input number) (sym same) ∙ kept_cause number block f refused ∙ ap (λ n. Input n f) h.count,
      )
    ]

abbrev pub FirstDecides : {X : Type 0} → List BlockFiles → Result X MergeRefusal → Type 0
FirstDecides inputs result = (place : ℕ) (cause : CheckRefusal) → IsFirstRefused inputs place cause → (result ≡ Err (Input (fitted place) cause)) ⊎ (result ≡ Err NoMemory)

took : (inputs : List BlockFiles) (n place : ℕ) (block : BlockFiles) → place < n → slice_get inputs place ≡ Some block → slice_get (take n inputs) place ≡ Some block
took inputs zero place block lt at = absurd (omega (arith, lt))
took [] (suc n) place block lt at = at
took (x ∷ inputs) (suc n) zero block lt at = at
took (x ∷ inputs) (suc n) (suc place) block lt at = took inputs n place block (omega (arith, lt)) at

same_there : (inputs : List BlockFiles) (place i : ℕ) (one other : BlockFiles) → place ≡ i → slice_get inputs place ≡ Some one → slice_get inputs i ≡ Some other → one ≡ other
same_there inputs place i one other same at too = some_is one other (sym at ∙ ap (slice_get inputs) same ∙ too)

-- one that was passed is not refused
not_passed : {P : Type 0} (inputs : List BlockFiles) (i place : ℕ) (cause : CheckRefusal) → AllByRecursion Holds (take i inputs) → IsFirstRefused inputs place cause → place < i → P
not_passed inputs i place cause good first lt =
    absurd ((each_member Holds (take i inputs) first.member good (contains_place (take i inputs) place first.member (took inputs i place first.member lt first.stands))).1 cause first.bad)

by_place : {P : Type 0} (a b : ℕ) → (a < b → P) → (a ≡ b → P) → (b < a → P) → P
by_place zero zero f g h = g refl
by_place zero (suc b) f g h = f (omega arith)
by_place (suc a) zero f g h = h (omega arith)
by_place (suc a) (suc b) f g h = by_place a b (λ l. f (omega (arith, l))) (λ e. g (ap suc e)) (λ l. h (omega (arith, l)))

short_of : {X : Type 0} (r : Result X CheckRefusal) (e : CheckRefusal) → r ≡ Err e → IfErr r (λ cause. cause ≡ check.NoMemory) → e ≡ check.NoMemory
short_of {X} (Ok x) e is none = absurd cc
short_of {X} (Err f) e is none = let same : f ≡ e = cc in sym same ∙ none

stop_decides : {X Y : Type 0} (inputs : List BlockFiles) (i number : ℕ) (block d : BlockFiles) (r : Result X CheckRefusal) (e : CheckRefusal) (refusal : MergeRefusal) → TestedSoFar inputs i number → i < length inputs → block ≡ get_or inputs i d
    → IsTest block r → r ≡ Err e → refusal ≡ refused_input number e → FirstDecides {X = Y} inputs (Err refusal)
stop_decides {X} {Y} inputs i number block d r e refusal h lt at test is told place cause first = by_place place i
    (λ before. not_passed inputs i place cause h.good first before)
    (λ here. let same : first.member ≡ block = same_there inputs place i first.member block here first.stands (there inputs i block d lt at) in
    elim (test.refuses cause (subst (λ b. RefusesContent b cause) same first.bad)) [
      | inl one ↦ inl (ap Err (told ∙ ap (refused_input number) (let f : e ≡ cause = cc in f) ∙ kept_cause number block cause (subst (λ b. RefusesContent b cause) same first.bad) ∙ ap (λ n. Input n cause) (h.count ∙ ap fitted (sym here))))
      | inr none ↦ inr (ap Err (told ∙ ap (refused_input number) (let f : e ≡ check.NoMemory = cc in f)))
    ])
    (λ behind. inr (ap Err (told ∙ ap (refused_input number)
    (short_of r e is (test.only (each_member HasContent (take place inputs) block first.before (contains_place (take place inputs) i block (took inputs place i block behind (there inputs i block d lt at)))))))))

-- a block was refused
pub tests_stop : {X Y : Type 0} (inputs : List BlockFiles) (i number : ℕ) (block d : BlockFiles) (r : Result X CheckRefusal) (e : CheckRefusal) (refusal : MergeRefusal) → TestedSoFar inputs i number → i < length inputs → block ≡ get_or inputs i d
    → IsTest block r → r ≡ Err e → refusal ≡ refused_input number e → AreTests {X = Y} inputs (Err refusal)
tests_stop {X} {Y} inputs i number block d r e refusal h lt at test is told = record {
  held = tt;
  refused = tested_stop inputs i number block d r e refusal h lt at test is told;
  only = λ all. told ∙ ap (refused_input number) (short_of r e is (test.only (each_member HasContent inputs block all (contains_place inputs i block (there inputs i block d lt at)))));
  refuses = stop_decides inputs i number block d r e refusal h lt at test is told;
}

-- no block was refused
pub tests_end : {X : Type 0} (inputs : List BlockFiles) (i number : ℕ) (x : X) → TestedSoFar inputs i number → length inputs ≤ i → AreTests inputs (Ok x)
tests_end {X} inputs i number x h all = record {
  held = AllByRecursion-weaker Holds HasContent (λ b holds. holds.0) inputs (subst (AllByRecursion Holds) (take_all i inputs all) h.good);
  refused = tt;
  only = λ held. tt;
  refuses = λ place cause first. not_passed inputs i place cause h.good first (omega (arith, all, slice_get_within inputs place first.member first.stands));
}

-- ---- blocks that are taken

pub taken_push : (external : List Label) (replicas : List (List ℕ)) (blocks : List BlockFiles) (block : BlockFiles) (all new : List PutSeries) (series : List IndexSeries) → AreTaken external replicas blocks all → IsIndex block.index series
    → new ≡ all ++ map (taken external replicas block.segments) series → AreTaken external replicas (blocks ++ block ∷ []) new
taken_push external replicas [] block all new series none index_is is =
    (series, [], index_is, refl, is ∙ ap (λ (l : List PutSeries). l ++ map (taken external replicas block.segments) series) none ∙ sym (append-nil (map (taken external replicas block.segments) series)))
taken_push external replicas (b ∷ blocks) block all new series (first, others, first_is, are, all_is) index_is is = (
  first,
  others ++ map (taken external replicas block.segments) series,
  first_is,
  taken_push external replicas blocks block others (others ++ map (taken external replicas block.segments) series) series are index_is refl,
  is ∙ ap (λ (l : List PutSeries). l ++ map (taken external replicas block.segments) series) all_is ∙ append_assoc (map (taken external replicas b.segments) first) others (map (taken external replicas block.segments) series),
)

-- a member more on both sides
pub mapped_more : {A B C : Type 0} (f : A → C) (g : B → C) (base : List C) (made new : List A) (x : A) (xs : List B) (k : ℕ) (d : B) → k < length xs → map f made ≡ base ++ map g (take k xs) → f x ≡ g (get_or xs k d) → new ≡ made ++ x ∷ []
    → map f new ≡ base ++ map g (take (k + 1) xs)
mapped_more {A} {B} {C} f g base made new x xs k d lt was is added =
    ap (map f) added ∙ map-append f made (x ∷ []) ∙ ap (λ (l : List C). l ++ f x ∷ []) was ∙ ap (λ (y : C). (base ++ map g (take k xs)) ++ y ∷ []) is
    ∙ append_assoc base (map g (take k xs)) (g (get_or xs k d) ∷ []) ∙ ap (λ (l : List C). base ++ l) (sym (ap (map g) (take_more xs k d lt) ∙ map-append g (take k xs) (get_or xs k d ∷ [])))

pub mapped_none : {A B C : Type 0} (f : A → C) (g : B → C) (made : List A) (xs : List B) → map f made ≡ map f made ++ map g (take 0 xs)
mapped_none {A} {B} {C} f g made xs = sym (ap (λ (l : List B). map f made ++ map g l) (take_none xs) ∙ append-nil (map f made))

pub mapped_all : {A B C : Type 0} (f : A → C) (g : B → C) (base : List C) (made : List A) (xs ys : List B) (k : ℕ) → xs ≡ ys → length xs ≤ k → map f made ≡ base ++ map g (take k xs) → map f made ≡ base ++ map g ys
mapped_all {A} {B} {C} f g base made xs ys k same all was = was ∙ ap (λ (l : List B). base ++ map g l) (take_all k xs all ∙ same)

-- ---- blocks that may be merged

pub one_refused : (plan : BlockPlan) (inputs : List BlockFiles) (k : ℕ) (block d : BlockFiles) (b : Bool) → k < length inputs → block ≡ get_or inputs k d → IsTrue b ↔ LiesWithin plan block → b ≡ false
    → IsTrue false ↔ AllByRecursion (LiesWithin plan) inputs
one_refused plan inputs k block d b lt at is e = never (AllByRecursion (LiesWithin plan) inputs) (λ all. not_told b (LiesWithin plan block) is e (refused_at (LiesWithin plan) inputs k block d lt at all))

pub all_lie : (plan : BlockPlan) (inputs : List BlockFiles) (k : ℕ) → length inputs ≤ k → AllByRecursion (LiesWithin plan) (take k inputs) → IsTrue true ↔ AllByRecursion (LiesWithin plan) inputs
all_lie plan inputs k all tested = (λ told. tested_all (LiesWithin plan) inputs k all tested, λ each. refl)

-- ---- one block that is tested

err_twice : {X Y : Type 0} (e f : CheckRefusal) → ◌≡◌ {A = Result X CheckRefusal} (Err e) (Err f) → ◌≡◌ {A = Result Y CheckRefusal} (Err e) (Err f)
err_twice {X} {Y} e f h = ap Err (err_is {A = X} e f h)

-- the test of a block's files stopped
pub test_stopped : {X : Type 0} (block : BlockFiles) (r : Result X CheckRefusal) (e : CheckRefusal) → IsErrAnd r (λ x. x ≡ e) → (e ≡ check.NoMemory) ⊎ RefusesContent block e
    → ((list : List Series) → IsContent block list → ⊥ ⊎ (◌≡◌ {A = Result (List IndexSeries) CheckRefusal} (Err e) (Err check.NoMemory)))
    → ((cause : CheckRefusal) → RefusesContent block cause → (◌≡◌ {A = Result (List IndexSeries) CheckRefusal} (Err e) (Err cause)) ⊎ (◌≡◌ {A = Result (List IndexSeries) CheckRefusal} (Err e) (Err check.NoMemory)))
    → IsTest block r
test_stopped {X} block (Ok x) e is why only refuses = absurd is
test_stopped {X} block (Err f) e is why only refuses = record {
  held = tt;
  refused = subst (λ c. (c ≡ check.NoMemory) ⊎ RefusesContent block c) (sym is) why;
  only = λ (list, content). elim (only list content) [ inl none ↦ absurd none | inr no' ↦ is ∙ err_is {A = List IndexSeries} e check.NoMemory no' ];
  refuses = λ cause refused. elim (refuses cause refused) [ inl told ↦ inl (ap Err is ∙ err_twice e cause told) | inr none ↦ inr (ap Err is ∙ err_twice e check.NoMemory none) ];
}

-- memory ran out behind the test
pub test_short : {X : Type 0} (block : BlockFiles) (r : Result X CheckRefusal) → IsErrAnd r (λ x. x ≡ check.NoMemory) → IsTest block r
test_short {X} block (Ok x) is = absurd is
test_short {X} block (Err f) is = record { held = tt; refused = inl is; only = λ held. is; refuses = λ cause refused. inr (ap Err is) }

pub test_passed : {X : Type 0} (block : BlockFiles) (indexed : List IndexSeries) (x : X) → HasContent block
    → ((cause : CheckRefusal) → RefusesContent block cause → (◌≡◌ {A = Result (List IndexSeries) CheckRefusal} (Ok indexed) (Err cause)) ⊎ (◌≡◌ {A = Result (List IndexSeries) CheckRefusal} (Ok indexed) (Err check.NoMemory)))
    → IsTest block (Ok x)
test_passed {X} block indexed x held refuses = record {
  held = held;
  refused = tt;
  only = λ has. tt;
  refuses = λ cause refused. elim (refuses cause refused) [ inl told ↦ absurd cc | inr none ↦ absurd cc ];
}
