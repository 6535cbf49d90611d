-- What `value_of` finds in a list of labels, and that a label set is determined by it.
use Rattle.std.proofs.Common.{◌≡◌, ◌≢◌, ℕ, false, cond, List, [], ◌∷◌, Some, None, refl, sym, ap, ◌∙◌, subst, ◌++◌}
pub use Rattle.base.proofs.Bools.{by_bool}
pub use Rattle.base.proofs.Options.{one_value, some_not_none}
use Rattle.std.specs.declared.cmp.Ordering.{Ordering}
use Rattle.std.specs.declared.cmp.Ordering.TheVariants.{Less, Equal, Greater}
use Rattle.std.specs.Ordering.{ordering_reverse, is_eq}
use Rattle.std.specs.Cmp.Lexicographic.{nat_list_cmp_total, bytes_decides, texts_ties}
use Rattle.std.specs.Str.{bytes_eq}
use Rattle.std.proofs.lemmas.Cmp.{tied_itself}
use Rattle.std.proofs.lemmas.Bool.{true≢false, false_from_ne_true}
use Rattle.label_sets.specs.declared.label.Label.{Label}
use Rattle.label_sets.specs.Labels.{compare_texts, ComesBefore, StandsBefore, IsLabelSet, value_of, compare_labels, compare_sets}
use Rattle.base.proofs.Bools.{by_order, Equal-from_then}

lesser_equal : (r : Ordering) → r ≡ Less → r ≡ Equal → ⊥
lesser_equal r p q = cc

pub compare_self : (name : List ℕ) → compare_texts name name ≡ Equal
compare_self name = tied_itself nat_list_cmp_total name

pub before_differs : (one other : List ℕ) → ComesBefore one other → one ≢ other
before_differs one _ b e = lesser_equal _ (subst (λ n. ComesBefore one n) (sym e) b) (compare_self one)

pub above_nothing : (before name : List ℕ) → ComesBefore before name → name ≢ []
above_nothing [] [] h e = cc
above_nothing (b ∷ before) [] h e = cc
above_nothing _ (n ∷ name) h e = cc

pub before_trans : (a b c : List ℕ) → ComesBefore a b → ComesBefore b c → ComesBefore a c
before_trans a b c p q = nat_list_cmp_total.trans a b c p q

pub bytes_eq_differs : (one other : List ℕ) → one ≢ other → bytes_eq one other ≡ false
bytes_eq_differs one other n = false_from_ne_true _ (λ t. n ((bytes_decides one other).0 t))

pub same_text : (one other : List ℕ) → compare_texts one other ≡ Equal → one ≡ other
same_text one other e = (bytes_decides one other).0 (texts_ties one other ∙ ap is_eq e)

pub value_hit : (l : Label) (ls : List Label) (name : List ℕ) → l.name ≡ name → value_of (l ∷ ls) name ≡ Some l.value
unfolding value_of
value_hit l ls name e = ap (λ b. cond b (Some l.value) (value_of ls name)) ((bytes_decides l.name name).1 e)

pub value_miss : (l : Label) (ls : List Label) (name : List ℕ) → l.name ≢ name → value_of (l ∷ ls) name ≡ value_of ls name
unfolding value_of
value_miss l ls name n = ap (λ b. cond b (Some l.value) (value_of ls name)) (bytes_eq_differs _ _ n)

pub value_nil : (name : List ℕ) → value_of [] name ≡ None
unfolding value_of
value_nil _ = refl

-- a name that stands before all names is not among them
pub value_of-below : (name : List ℕ) (ls : List Label) → StandsBefore name ls → value_of ls name ≡ None
value_of-below name [] h = value_nil name
value_of-below name (l ∷ ls) h = value_miss l _ _ (λ e. before_differs name l.name h.0 (sym e)) ∙ value_of-below _ _ h.1

pub StandsBefore-trans : (a b : List ℕ) (ls : List Label) → ComesBefore a b → StandsBefore b ls → StandsBefore a ls
StandsBefore-trans a b [] p h = tt
StandsBefore-trans a b (l ∷ ls) p h = (before_trans a b l.name p h.0, StandsBefore-trans a b ls p h.1)

-- a set that begins after the name has no value under it, as one that begins with it has
head_not_before : (x y : Label) (xs ys : List Label) → StandsBefore y.name ys → value_of (x ∷ xs) x.name ≡ value_of (y ∷ ys) x.name → ComesBefore x.name y.name → ⊥
head_not_before x y _ _ q same b = some_not_none _ _ (value_hit x _ _ refl)
    (same ∙ value_of-below _ _ (b, StandsBefore-trans _ _ _ b q))

tail_values : (x y : Label) (xs ys : List Label) (name : List ℕ) → x.name ≡ y.name → StandsBefore x.name xs → StandsBefore y.name ys → value_of (x ∷ xs) name ≡ value_of (y ∷ ys) name → value_of xs name ≡ value_of ys name
tail_values x y xs ys name e p q same = by_bool _
    (λ t. let here : x.name ≡ name = (bytes_decides x.name name).0 t in
    subst (λ n. value_of xs n ≡ value_of ys n) here
    (value_of-below _ _ p ∙ sym (subst (λ n. value_of ys n ≡ None) (sym e) (value_of-below _ _ q))))
    (λ f. let apart : x.name ≢ name = λ h. true≢false (sym ((bytes_decides x.name name).1 h) ∙ f) in
    sym (value_miss x _ _ apart) ∙ same ∙ value_miss y _ _ (λ h. apart (e ∙ h)))

-- A label set is determined by the values under all names.
pub same_sets : (xs ys : List Label) → IsLabelSet xs → IsLabelSet ys → ((name : List ℕ) → value_of xs name ≡ value_of ys name) → xs ≡ ys
same_sets [] [] p q same = refl
same_sets [] (y ∷ ys) p q same = absurd (some_not_none _ _ (value_hit y _ _ refl) (sym (same y.name) ∙ value_nil _))
same_sets (x ∷ xs) [] p q same = absurd (some_not_none _ _ (value_hit x _ _ refl) (same x.name ∙ value_nil _))
same_sets (x ∷ xs) (y ∷ ys) p q same = by_order _
    (λ b. absurd (head_not_before x y _ _ q.2 (same x.name) b))
    (λ t. let e = same_text _ _ t in
    let v = one_value _ _ _ (value_hit x _ _ refl) (same x.name ∙ value_hit y _ _ (sym e)) in
    let l : x ≡ y = λ i. record { name = e i; value = v i } in
    let ls = same_sets _ _ p.3 q.3 (λ name. tail_values x y xs ys name e p.2 q.2 (same name)) in
    λ i. l i ∷ ls i)
    (λ g. absurd (head_not_before y x _ _ p.2 (sym (same y.name)) (nat_list_cmp_total.antisymm y.name x.name ∙ ap ordering_reverse g)))

-- labels, and lists of them, that compare as equal are one
pub same_label : (one other : Label) → compare_labels one other ≡ Equal → one ≡ other
same_label one other e =
    let parts = Equal-from_then (compare_texts one.name other.name) (compare_texts one.value other.value) e in
    λ i. record { name = same_text one.name other.name parts.0 i; value = same_text one.value other.value parts.1 i }

pub same_set : (one other : List Label) → compare_sets one other ≡ Equal → one ≡ other
same_set [] [] e = refl
same_set [] (o ∷ os) e = absurd (let f : Less ≡ Equal = e in cc)
same_set (l ∷ ls) [] e = absurd (let f : Greater ≡ Equal = e in cc)
same_set (l ∷ ls) (o ∷ os) e =
    let parts = Equal-from_then (compare_labels l o) (compare_sets ls os) e in
    let head : l ≡ o = same_label l o parts.0 in
    let tail : ls ≡ os = same_set ls os parts.1 in
    λ i. head i ∷ tail i

-- a name that stands before all labels comes before each
pub stands_before_member : (name : List ℕ) (front : List Label) (l : Label) (rest : List Label) → StandsBefore name (front ++ l ∷ rest) → ComesBefore name l.name
stands_before_member _ [] l _ h = h.0
stands_before_member name (x ∷ xs) l rest h = stands_before_member name xs l _ h.1
