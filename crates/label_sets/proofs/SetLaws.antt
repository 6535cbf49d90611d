-- What is read as a label set is a text of it, and each text of a set is read, whatever follows.
use Rattle.std.proofs.Common.{◌≡◌, ◌≢◌, ℕ, zero, suc, ◌+◌, ◌-◌, ◌<◌, ◌≤◌, true, false, cond, List, [], ◌∷◌, ◌++◌, length, take, get_or, Option, Some, None, Result, Ok, Err, refl, sym, ap, ◌∙◌, subst, arith, inl, inr}
use Rattle.base.proofs.Binds.{one_answer, ok_not_err}
use Rattle.std.proofs.lemmas.List.{length-append, take_at}
use Rattle.std.proofs.lemmas.List.Sorted.{IsPermutation-refl, IsPermutation-sym, IsPermutation-cons, IsPermutation-trans, IsPermutation-middle, All-permutation, Contains-permutation, sum_by-IsPermutation}
use Rattle.std.proofs.lemmas.List.Sums.{sum_by-cons}
use Rattle.std.proofs.lemmas.List.Elements.{All-cons, All-nil, All-head, All-tail}
use Rattle.std.proofs.lemmas.Bool.{true≢false}
use Rattle.std.specs.Cmp.Lexicographic.{bytes_decides}
use Rattle.std.specs.Prelude.{All, Contains, IsPermutation, IfOk, MatchResult}
use Rattle.base.specs.Reading.{Gives}
use Rattle.std.specs.List.{sum_by}
use Rattle.std.specs.Str.{bytes_eq}
use Rattle.label_sets.specs.declared.label.Label.{Label}
use Rattle.label_sets.specs.declared.label_refusal.LabelRefusal.{LabelRefusal}
use Rattle.label_sets.specs.declared.label_refusal.LabelRefusal.TheVariants.{Repeated, NoMemory}
use Rattle.label_sets.specs.Labels.{IsLabelSet, MakeASet, value_of, names_of, has_lesser_name}
use Rattle.label_sets.specs.Ordered.{placed, in_order}
use Rattle.label_sets.specs.SetText.{AreNamed, ArePairs, IsSetText}
use Rattle.label_sets.specs.Notation.{repeats, conclusion, read_set, set_text}
use Rattle.label_sets.proofs.LabelValues.{by_bool, bytes_eq_differs, value_hit, value_miss, value_nil, some_not_none, one_value, same_sets}
use Rattle.label_sets.proofs.OrderedLabels.{value_of-in_order, IsLabelSet-in_order, MakeASet-from_set}
use Rattle.label_sets.proofs.RepeatedNames.{MakeASet-from_pairs, once_from_able}
use Rattle.label_sets.proofs.SetsFound.{set_found}
use Rattle.label_sets.proofs.SetsAgain.{walk_again}

-- ---- the labels in the order of the text

-- labels in braces that make a set are read, whatever follows
pub read_set-again : (labels : List Label) (after : List ℕ) → ArePairs labels → MakeASet labels → read_set (set_text labels ++ after) ≡ Ok (in_order has_lesser_name labels, length (set_text labels))
unfolding read_set conclusion
read_set-again labels after are able =
    let total = length (set_text labels ++ after) in
    let front : total - length after ≡ length (set_text labels) = omega (arith, length-append (set_text labels) after) in
    ap (λ w. conclusion total w.0 w.1) (walk_again _ _ are)
    ∙ ap (λ b. cond b (Err Repeated) (Ok (in_order has_lesser_name labels, total - length after))) (once_from_able _ able)
    ∙ ap (λ n. Ok (in_order has_lesser_name labels, n)) front

-- ---- the labels in any order

swapped : (x y : Label) (ys zs : List Label) → IsPermutation (x ∷ ys) zs → IsPermutation (x ∷ y ∷ ys) (y ∷ zs)
swapped x y ys zs p = IsPermutation-trans _ _ _ (IsPermutation-sym (y ∷ x ∷ ys) (x ∷ y ∷ ys) (IsPermutation-middle (y ∷ []) x ys)) (IsPermutation-cons y (x ∷ ys) zs p)

placed_moves : (x : Label) (ys : List Label) → IsPermutation (x ∷ ys) (placed has_lesser_name x ys)
unfolding placed
placed_moves x [] = IsPermutation-refl (x ∷ [])
placed_moves x (y ∷ ys) = elim (has_lesser_name y x) as (λ b. IsPermutation (x ∷ y ∷ ys) (cond b (y ∷ placed has_lesser_name x ys) (x ∷ y ∷ ys))) [
  | true ↦ swapped x y ys _ (placed_moves x _)
  | false ↦ IsPermutation-refl (x ∷ y ∷ ys)
]

pub order_moves : (labels : List Label) → IsPermutation labels (in_order has_lesser_name labels)
unfolding in_order
order_moves [] = IsPermutation-refl []
order_moves (l ∷ ls) = IsPermutation-trans _ _ _
    (IsPermutation-cons l ls (in_order has_lesser_name ls) (order_moves _)) (placed_moves l _)

-- how many labels have this name
count_of : List ℕ → List Label → ℕ
count_of name labels = sum_by (λ l. cond (bytes_eq l.name name) 1 0) labels

count-cons : (name : List ℕ) (l : Label) (ls : List Label) → count_of name (l ∷ ls) ≡ cond (bytes_eq l.name name) 1 0 + count_of name ls
unfolding count_of
count-cons name l ls = sum_by-cons (λ l. cond (bytes_eq l.name name) 1 0) l ls

count-hit : (name : List ℕ) (l : Label) (ls : List Label) → l.name ≡ name → count_of name (l ∷ ls) ≡ 1 + count_of name ls
count-hit name l ls e = count-cons name l _ ∙ ap (λ b. cond b 1 0 + count_of name ls) ((bytes_decides l.name name).1 e)

count-miss : (name : List ℕ) (l : Label) (ls : List Label) → l.name ≢ name → count_of name (l ∷ ls) ≡ count_of name ls
count-miss name l ls n = count-cons _ l _ ∙ ap (λ b. cond b 1 0 + count_of name ls) (bytes_eq_differs _ _ n) ∙ omega arith

pub by_name : {P : Type 0} (one other : List ℕ) → (one ≡ other → P) → (one ≢ other → P) → P
by_name one other f g = by_bool (bytes_eq one other) (λ t. f ((bytes_decides one other).0 t)) (λ n. g (λ e. true≢false (sym ((bytes_decides one other).1 e) ∙ n)))

count_none : (ls : List Label) (name : List ℕ) → value_of ls name ≡ None → count_of name ls ≡ 0
unfolding count_of
count_none [] _ none = refl
count_none (l ∷ ls) name none = by_name _ _
    (λ e. absurd (some_not_none l.value (value_of (l ∷ ls) name) (value_hit l _ _ e) none))
    (λ n. count-miss name l ls n ∙ count_none _ _ (sym (value_miss l _ _ n) ∙ none))

none_count : (ls : List Label) (name : List ℕ) → count_of name ls ≡ 0 → value_of ls name ≡ None
none_count [] _ zero_of = value_nil _
none_count (l ∷ ls) name zero_of = by_name _ _
    (λ e. absurd (omega (arith, count-hit name l ls e)))
    (λ n. value_miss l ls name n ∙ none_count _ _ (sym (count-miss _ l _ n) ∙ zero_of))

counts_from_able : (ls : List Label) → MakeASet ls → (name : List ℕ) → count_of name ls ≤ 1
unfolding count_of
counts_from_able [] able _ = omega arith
counts_from_able (l ∷ ls) able name = by_name _ _
    (λ e. omega (arith, count-hit name l ls e, count_none ls name (subst (λ n. value_of ls n ≡ None) e able.2)))
    (λ n. omega (arith, count-miss name l ls n, counts_from_able ls able.3 name))

abbrev IsFilled : Label → Type 0
IsFilled l = (l.name ≢ []) × (l.value ≢ [])

able_from_counts : (ls : List Label) → All IsFilled ls → ((name : List ℕ) → count_of name ls ≤ 1) → MakeASet ls
able_from_counts [] filled few = tt
able_from_counts (l ∷ ls) filled few =
    let here = All-head IsFilled l _ filled in (
      here.0,
      here.1,
      none_count _ _ (omega (arith, count-hit l.name l ls refl, few l.name)),
      able_from_counts ls (All-tail IsFilled l _ filled) (λ name. omega (arith, count-cons name l ls, few name)),
    )

all_filled : (ls : List Label) → MakeASet ls → All IsFilled ls
all_filled [] able = All-nil IsFilled
all_filled (l ∷ ls) able = All-cons IsFilled l _ (able.0, able.1) (all_filled ls able.3)

-- labels that are those of a set in another order make a set
able_from_order : (listed set : List Label) → MakeASet set → IsPermutation listed set → MakeASet listed
unfolding count_of
able_from_order listed set able p =
    able_from_counts _ (All-permutation IsFilled _ _ (IsPermutation-sym listed set p) (all_filled _ able))
    (λ name. omega (arith, sum_by-IsPermutation (λ l. cond (bytes_eq l.name name) 1 0) listed set p, counts_from_able set able name))

pub value_in : (ls : List Label) (name value : List ℕ) → value_of ls name ≡ Some value → Contains ls (record { name = name; value = value })
value_in [] name value some = absurd (some_not_none value (value_of [] name) some (value_nil _))
value_in (l ∷ ls) name value some = by_name _ _
    (λ e. let same = one_value l.value value (value_of (l ∷ ls) name) (value_hit l _ _ e) some in
    (0, omega arith, λ i. record { name = e i; value = same i }))
    (λ n. let later = value_in _ _ _ (sym (value_miss l _ _ n) ∙ some) in (suc later.0, omega arith, later.2))

in_value : (ls : List Label) (l : Label) (k : ℕ) → MakeASet ls → k < length ls → get_or ls k l ≡ l → value_of ls l.name ≡ Some l.value
in_value [] l k able within e = absurd (omega arith)
in_value (x ∷ xs) l zero able within e = value_hit x _ _ (ap (λ y. y.name) e) ∙ ap (λ y. Some y.value) e
in_value (x ∷ xs) l (suc k) able within e =
    let later = in_value _ l k able.3 (omega arith) e in
    value_miss x _ _ (λ same. some_not_none l.value (value_of xs l.name) later (subst (λ n. value_of xs n ≡ None) same able.2)) ∙ later

-- the values under all names are the same in another order
moved_value : (xs ys : List Label) (name value : List ℕ) → MakeASet ys → IsPermutation xs ys → value_of xs name ≡ Some value → value_of ys name ≡ Some value
moved_value _ _ _ _ able p some =
    let there = Contains-permutation _ _ _ p (value_in _ _ _ some) in
    in_value _ _ _ able there.1 there.2

pub by_option : {P : Type 0} (o : Option (List ℕ)) → ((v : List ℕ) → o ≡ Some v → P) → (o ≡ None → P) → P
by_option None f g = g refl
by_option (Some v) f g = f v refl

same_values : (xs ys : List Label) (name : List ℕ) → MakeASet xs → MakeASet ys → IsPermutation xs ys → value_of xs name ≡ value_of ys name
same_values xs ys name able_x able_y p = by_option _
    (λ v e. e ∙ sym (moved_value _ _ _ v able_y p e))
    (λ none. by_option (value_of ys name)
    (λ v e. absurd (some_not_none v (value_of xs name) (moved_value _ _ _ v able_x (IsPermutation-sym xs ys p) e) none))
    (λ also. none ∙ sym also))

-- in order, they are the set
order_is : (listed set : List Label) → IsLabelSet set → IsPermutation listed set → in_order has_lesser_name listed ≡ set
order_is listed set lawful p =
    let able_set = MakeASet-from_set set lawful in
    let able = able_from_order listed _ able_set p in
    same_sets _ _ (IsLabelSet-in_order _ able) lawful (λ name. value_of-in_order listed name ∙ same_values _ _ _ able able_set p)

-- ---- the laws

-- labels that can stand as pairs, no two of one name, are those of a set
pub pairs_make_text : (labels : List Label) → ArePairs labels → repeats (names_of labels) ≡ false → IsSetText (set_text labels) (in_order has_lesser_name labels)
pairs_make_text labels are once = record {
  listed = labels;
  written = refl;
  named = λ k d lt. (are k d lt).0;
  arranged = order_moves _;
  lawful = IsLabelSet-in_order _ (MakeASet-from_pairs _ are once);
}

pairs_from_named : (ls : List Label) → AreNamed ls → MakeASet ls → ArePairs ls
pairs_from_named _ named able k d lt = (named k d lt, (all_filled _ able k d lt).1)

-- what is read is a text of the set
pub set_text_found : (text : List ℕ) (set : List Label) (taken : ℕ) → read_set text ≡ Ok (set, taken) → IsSetText (take taken text) set
set_text_found text set taken e =
    let s = set_found text set _ e in
    let front : take taken text ≡ set_text s.labels = (λ i. take (s.taken_is i) (s.whole i)) ∙ take_at _ _ _ refl in
    subst (λ t. IsSetText t set) (sym front) (subst (IsSetText (set_text s.labels)) (sym s.made_is) (pairs_make_text _ s.are_pairs s.once))

-- so it is lawful
pub read_set-lawful : (text : List ℕ) (set : List Label) (taken : ℕ) → read_set text ≡ Ok (set, taken) → IsLabelSet set
read_set-lawful _ _ _ e = (set_text_found _ _ _ e).lawful

-- and each text of a set is read, whatever follows
pub set_text_again : (front after : List ℕ) (set : List Label) → IsSetText front set → read_set (front ++ after) ≡ Ok (set, length front)
set_text_again _ after _ is =
    let able = able_from_order _ _ (MakeASet-from_set _ is.lawful) is.arranged in
    ap (λ t. read_set (t ++ after)) is.written
    ∙ read_set-again _ _ (pairs_from_named _ is.named able) able
    ∙ (λ i. Ok (order_is _ _ is.lawful is.arranged i, length (sym is.written i)))

-- the written text of a set is one of them
pub set_text_is : (set : List Label) → IsLabelSet set → AreNamed set → IsSetText (set_text set) set
set_text_is set lawful named = record { listed = set; written = refl; named = named; arranged = IsPermutation-refl set; lawful = lawful }

-- what a call that reads a set answers
pub found_of : {X : Type 0} (view : X → List Label × ℕ) (r : Result X LabelRefusal) (text : List ℕ) → Gives NoMemory view r (read_set text) → IfOk r (λ x. IsSetText (take (view x).1 text) (view x).0)
found_of _ (Ok x) _ h = set_text_found _ _ _ h
found_of _ (Err e) _ h = tt

pub only_of : {X : Type 0} (view : X → List Label × ℕ) (r : Result X LabelRefusal) (text front after : List ℕ) (set : List Label) → Gives NoMemory view r (read_set text) → IsSetText front set → text ≡ front ++ after
    → MatchResult r (λ x. ((view x).0 ≡ set) × ((view x).1 ≡ length front)) (λ e. e ≡ NoMemory)
only_of _ (Ok x) _ _ _ _ h is e =
    let same = one_answer _ _ _ h (ap read_set e ∙ set_text_again _ _ _ is) in
    (ap (λ y. y.0) same, ap (λ y. y.1) same)
only_of _ (Err refusal) _ _ _ _ (inl none) is e = none
only_of _ (Err refusal) _ _ _ _ (inr h) is e =
    absurd (ok_not_err _ _ _ (ap read_set e ∙ set_text_again _ _ _ is) h)
