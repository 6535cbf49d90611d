-- Labels that an index lends: whether two lists have the same, told from their ends.
use Rattle.std.proofs.Common.{◌≡◌, ℕ, ◌+◌, ◌<◌, ◌≤◌, Bool, true, false, ◌&&◌, List, [], ◌∷◌, ◌++◌, length, map, take, get_or, refl, sym, ap, ◌∙◌, ◌≢◌, arith}
use Rattle.std.specs.declared.cmp.Ordering.{Ordering}
use Rattle.std.specs.declared.cmp.Ordering.TheVariants.{Less, Equal, Greater}
use Rattle.std.specs.Ordering.{ordering_then, is_eq}
use Rattle.std.specs.Cmp.Lexicographic.{texts_ties}
use Rattle.std.specs.Str.{bytes_eq}
use Rattle.std.proofs.lemmas.List.{take_more, take_all, length-map, length-take-le}
use Rattle.base.proofs.Lists.{take_none}
use Rattle.base.proofs.Bools.{Equal-from_is_eq}
use Rattle.label_sets.specs.Labels.{compare_texts, compare_labels, compare_sets}
use Rattle.label_sets.proofs.LabelValues.{same_set}
use Rattle.index_v2.specs.declared.lent_series.LentLabel.{LentLabel}
use Rattle.index_v2.specs.LentLabels.{as_label}

abbrev are_tied : List LentLabel → List LentLabel → Bool
are_tied one other = is_eq (compare_sets (map as_label one) (map as_label other))

abbrev pub is_tied : LentLabel → LentLabel → Bool
is_tied one other = is_eq (compare_labels (as_label one) (as_label other))

both_equal : (o r : Ordering) → is_eq (ordering_then o r) ≡ (is_eq o && is_eq r)
both_equal Less r = refl
both_equal Equal r = refl
both_equal Greater r = refl

in_either_order : (a b : Bool) → (a && b) ≡ (b && a)
in_either_order true true = refl
in_either_order true false = refl
in_either_order false true = refl
in_either_order false false = refl

-- a label's value and its name, in this order
tied_parts : (one other : LentLabel) → (bytes_eq one.value.now other.value.now && bytes_eq one.name.now other.name.now) ≡ is_tied one other
tied_parts one other =
    in_either_order (bytes_eq one.value.now other.value.now) (bytes_eq one.name.now other.name.now)
    ∙ ap (λ (b : Bool). b && bytes_eq one.value.now other.value.now) (texts_ties one.name.now other.name.now)
    ∙ ap (λ (b : Bool). is_eq (compare_texts one.name.now other.name.now) && b) (texts_ties one.value.now other.value.now)
    ∙ sym (both_equal (compare_texts one.name.now other.name.now) (compare_texts one.value.now other.value.now))

pub value_same : (one other : LentLabel) (value name : Bool) → value ≡ bytes_eq one.value.now other.value.now → value ≡ true → name ≡ bytes_eq one.name.now other.name.now → name ≡ is_tied one other
value_same one other value name is same named = named ∙ ap (λ (b : Bool). b && bytes_eq one.name.now other.name.now) (sym same ∙ is) ∙ tied_parts one other

pub value_differs : (one other : LentLabel) (value : Bool) → value ≡ bytes_eq one.value.now other.value.now → value ≡ false → value ≡ is_tied one other
value_differs one other value is apart = apart ∙ ap (λ (b : Bool). b && bytes_eq one.name.now other.name.now) (sym apart ∙ is) ∙ tied_parts one other

with_equal : (o : Ordering) → is_eq (ordering_then o Equal) ≡ (is_eq o && true)
with_equal Less = refl
with_equal Equal = refl
with_equal Greater = refl

second_first : (a b c : Bool) → (a && (b && c)) ≡ (b && (a && c))
second_first true b c = refl
second_first false true c = refl
second_first false false c = refl

-- lists of one length with a label more at the end of each
last_told : (one other : List LentLabel) (x y : LentLabel) → length one ≡ length other → are_tied (one ++ x ∷ []) (other ++ y ∷ []) ≡ (is_tied x y && are_tied one other)
last_told [] [] x y many = with_equal (compare_labels (as_label x) (as_label y))
last_told [] (o ∷ os) x y many = absurd (omega (arith, many))
last_told (l ∷ ls) [] x y many = absurd (omega (arith, many))
last_told (l ∷ ls) (o ∷ os) x y many =
    both_equal (compare_labels (as_label l) (as_label o)) (compare_sets (map as_label (ls ++ x ∷ [])) (map as_label (os ++ y ∷ [])))
    ∙ ap (λ (b : Bool). is_tied l o && b) (last_told ls os x y (omega (arith, many)))
    ∙ second_first (is_tied l o) (is_tied x y) (are_tied ls os)
    ∙ ap (λ (b : Bool). is_tied x y && b) (sym (both_equal (compare_labels (as_label l) (as_label o)) (compare_sets (map as_label ls) (map as_label os))))

-- they have as many labels, and the same behind so many
pub record SameBehind (one other : List LentLabel) (left : ℕ) : Type 0 where
  pub many : length one ≡ length other
  pub within : left ≤ length one
  pub rest : are_tied one other ≡ are_tied (take left one) (take left other)

pub nothing_behind : (one other : List LentLabel) (left : ℕ) → length one ≡ length other → left ≡ length one → SameBehind one other left
nothing_behind one other left many all = record {
  many = many;
  within = omega (arith, all);
  rest = sym (ap (λ (l : List LentLabel). are_tied l (take left other)) (take_all left one (omega (arith, all))) ∙ ap (are_tied one) (take_all left other (omega (arith, all, many))));
}

one_less : (one other : List LentLabel) (left k : ℕ) (x y d e : LentLabel) → left ≡ k + 1 → 0 < left → x ≡ get_or one k d → y ≡ get_or other k e → SameBehind one other left → are_tied one other ≡ (is_tied x y && are_tied (take k one) (take k other))
one_less one other left k x y d e is some at there h =
    h.rest
    ∙ ap (λ (n : ℕ). are_tied (take n one) (take n other)) is
    ∙ ap (λ (l : List LentLabel). are_tied l (take (k + 1) other)) (take_more one k d (omega (arith, is, h.within)) ∙ ap (λ (z : LentLabel). take k one ++ z ∷ []) (sym at))
    ∙ ap (are_tied (take k one ++ x ∷ [])) (take_more other k e (omega (arith, is, h.within, h.many)) ∙ ap (λ (z : LentLabel). take k other ++ z ∷ []) (sym there))
    ∙ last_told (take k one) (take k other) x y (length-take-le k one (omega (arith, is, h.within)) ∙ sym (length-take-le k other (omega (arith, is, h.within, h.many))))

pub same_behind : (one other : List LentLabel) (left k : ℕ) (x y d e : LentLabel) (b : Bool) → left ≡ k + 1 → x ≡ get_or one k d → y ≡ get_or other k e → SameBehind one other left → b ≡ is_tied x y → b ≡ true → SameBehind one other k
same_behind one other left k x y d e b is at there h told tied = record {
  many = h.many;
  within = omega (arith, is, h.within);
  rest = one_less one other left k x y d e is (omega (arith, is)) at there h ∙ ap (λ (c : Bool). c && are_tied (take k one) (take k other)) (sym told ∙ tied);
}

pub differ_behind : (one other : List LentLabel) (left k : ℕ) (x y d e : LentLabel) (b : Bool) → left ≡ k + 1 → x ≡ get_or one k d → y ≡ get_or other k e → SameBehind one other left → b ≡ is_tied x y → b ≡ false → false ≡ are_tied one other
differ_behind one other left k x y d e b is at there h told apart = sym (one_less one other left k x y d e is (omega (arith, is)) at there h ∙ ap (λ (c : Bool). c && are_tied (take k one) (take k other)) (sym told ∙ apart))

pub all_same : (one other : List LentLabel) (left : ℕ) → left ≡ 0 → SameBehind one other left → true ≡ are_tied one other
all_same one other left none h =
    sym (h.rest ∙ ap (λ (n : ℕ). are_tied (take n one) (take n other)) none ∙ ap (λ (l : List LentLabel). are_tied l (take 0 other)) (take_none one) ∙ ap (are_tied []) (take_none other))

untied : (b : Bool) → (b ≢ true) → false ≡ b
untied true h = absurd (h refl)
untied false h = refl

pub not_as_many : (one other : List LentLabel) → length one ≢ length other → false ≡ are_tied one other
not_as_many one other apart = untied (are_tied one other) (λ tied. apart (sym (length-map one as_label) ∙ ap length (same_set (map as_label one) (map as_label other) (Equal-from_is_eq (compare_sets (map as_label one) (map as_label other)) tied)) ∙ length-map other as_label))
