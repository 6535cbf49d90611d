-- The first key that is due, in a list of keys in order.
use Rattle.std.proofs.Common.{◌≡◌, ◌⊎◌, inl, inr, ℕ, Bool, true, false, cond, List, [], ◌∷◌, Option, Some, None, refl, sym, ◌∙◌, ap, subst}
use Rattle.std.specs.Prelude.{IsSome, is_some, find, option_map}
use Rattle.std.specs.BTreeMap.{is_at, keys, IsOrdered}
use Rattle.std.specs.List.{AllByRecursion}
use Rattle.std.specs.List.Sorted.{IsStrictlySortedBy}
use Rattle.std.specs.Map.{keys_of, lookup}
use Rattle.std.specs.Ordering.{is_eq, is_gt}
use Rattle.std.specs.declared.cmp.Ordering.TheVariants.{Less}
use Rattle.std.proofs.lemmas.Bool.{cases_Bool}
use Rattle.std.proofs.lemmas.Map.Keys.{sorted_head, sorted_tail}
use Rattle.base.proofs.Bools.{Less-from_is_lt, is_lt-from_Less}
use Rattle.block_keys.specs.Keys.{IsLawfulKey, key_cmp, key_ulid}
use Rattle.block_keys.specs.KeyText.{key_text}
use Rattle.block_keys.proofs.KeyLaws.{IsLawfulKey-text}
use Rattle.block_keys.specs.declared.key.Key.{Key}
use Rattle.breach_finding.specs.Held.{HaveTexts, Places}
use Rattle.breach_finding.specs.Next.{IsNextBlock, is_due_block}
use Rattle.breach_finding.proofs.Changes.{key_itself, same_key}
use Rattle.breach_finding.proofs.Blocks.{not_greater}

-- the key is one of these entries'
abbrev pub Has : List (Key × ℕ) → Key → Type 0
Has es key = IsSome (lookup (is_at (key_cmp key)) es)

-- a key of entries is the first one or another's
has_cases : (e : Key × ℕ) (es : List (Key × ℕ)) (key : Key) → Has (e ∷ es) key → (key ≡ e.0) ⊎ Has es key
has_cases e es key has = elim (cases_Bool (is_at (key_cmp key) e.0)) [
  | inl same ↦ inl (same_key key e.0 same)
  | inr other ↦ inr (subst (λ b. IsSome (cond b (Some e.1) (lookup (is_at (key_cmp key)) es))) other has)
]

has_first : (e : Key × ℕ) (es : List (Key × ℕ)) → Has (e ∷ es) e.0
has_first e es = ap (λ o. is_some (cond (is_eq o) (Some e.1) (lookup (is_at (key_cmp e.0)) es))) (key_itself e.0)

has_later : (e : Key × ℕ) (es : List (Key × ℕ)) (key : Key) → Has es key → Has (e ∷ es) key
has_later e es key has = elim (cases_Bool (is_at (key_cmp key) e.0)) [
  | inl same ↦ subst (λ b. IsSome (cond b (Some e.1) (lookup (is_at (key_cmp key)) es))) (sym same) refl
  | inr other ↦ subst (λ b. IsSome (cond b (Some e.1) (lookup (is_at (key_cmp key)) es))) (sym other) has
]

all_have : (P : Key → Type 0) (es : List (Key × ℕ)) (key : Key) → AllByRecursion P (keys_of es) → Has es key → P key
all_have P [] key all has = cc (has)
all_have P (e ∷ es) key all has = elim (has_cases e es key has) [ inl same ↦ subst P (sym same) all.0 | inr later ↦ all_have P es key all.1 later ]

module _ (due : Key → Bool) where
  abbrev pub FirstDue : List (Key × ℕ) → Option Key → Type 0
  FirstDue es None = (key : Key) → Has es key → due key ≡ false
  FirstDue es (Some first) = Has es first × (due first ≡ true) × ((key : Key) → Has es key → due key ≡ true → is_gt (key_cmp first key) ≡ false)

  later_due : (e : Key × ℕ) (es : List (Key × ℕ)) (r : Option Key) → due e.0 ≡ false → FirstDue es r → FirstDue (e ∷ es) r
  later_due e es None early rest = λ key has. elim (has_cases e es key has) [ inl same ↦ ap due same ∙ early | inr later ↦ rest key later ]
  later_due e es (Some first) early (has, is, least) = (
    has_later e es first has,
    is,
    λ key own also. elim (has_cases e es key own) [ inl same ↦ cc (also, ap due same, early) | inr later ↦ least key later also ],
  )

  pub scanned : (es : List (Key × ℕ)) → IsStrictlySortedBy key_cmp (keys_of es) → FirstDue es (find due (keys_of es))
  scanned [] sorted = λ key has. cc (has)
  scanned (e ∷ es) sorted = elim (cases_Bool (due e.0)) [
    | inl is ↦ subst (λ b. FirstDue (e ∷ es) (cond b (Some e.0) (find due (keys_of es)))) (sym is) (
      has_first e es,
      is,
      λ key has also. elim (has_cases e es key has) [
        | inl same ↦ ap (λ k. is_gt (key_cmp e.0 k)) same ∙ ap is_gt (key_itself e.0)
        | inr later ↦ ap is_gt (all_have (λ k. key_cmp e.0 k ≡ Less) es key (sorted_head key_cmp e.0 (keys_of es) sorted) later)
      ],
    )
    | inr early ↦ subst (λ b. FirstDue (e ∷ es) (cond b (Some e.0) (find due (keys_of es)))) (sym early)
        (later_due e es (find due (keys_of es)) early (scanned es (sorted_tail key_cmp e.0 (keys_of es) sorted)))
  ]

next_of : (places : Places) (after : List ℕ) (r : Option Key) → FirstDue (is_due_block after) places.entries r → IsNextBlock places after (option_map key_ulid r)
next_of places after None none = λ key stands before. cc (none key stands, is_lt-from_Less _ before)
next_of places after (Some first) (has, is, least) = (
  first,
  has,
  refl,
  Less-from_is_lt _ is,
  λ key stands before. not_greater first key (least key stands (is_lt-from_Less _ before)),
)

-- what a scan finds is the next block
pub next_by_scan : (places : Places) (after : List ℕ) → IsOrdered key_cmp places → IsNextBlock places after (option_map key_ulid (find (is_due_block after) (keys places)))
next_by_scan places after ordered = next_of places after (find (is_due_block after) (keys places)) (scanned (is_due_block after) places.entries ordered)

-- ---- the scan, key by key

module _ (due : Key → Bool) (left all : List Key) (same : find due left ≡ find due all) where
  pub scan_hit : (key : Key) (later : List Key) → left ≡ key ∷ later → due key ≡ true → option_map key_ulid (find due all) ≡ Some (key_ulid key)
  scan_hit key later begins is = ap (option_map key_ulid) (sym same ∙ ap (find due) begins ∙ ap (λ b. cond b (Some key) (find due later)) is)

-- ---- keys that have texts are lawful

all_of : (P : Key → Type 0) (es : List (Key × ℕ)) → ((key : Key) → Has es key → P key) → AllByRecursion P (keys_of es)
all_of P [] each = tt
all_of P (e ∷ es) each = (each e.0 (has_first e es), all_of P es (λ key has. each key (has_later e es key has)))

pub lawful_keys : (places : Places) → HaveTexts places → AllByRecursion IsLawfulKey (keys places)
lawful_keys places texts = all_of IsLawfulKey places.entries (λ key has. IsLawfulKey-text (key_text key) key (texts key has))

module _ (due : Key → Bool) (left all : List Key) where
  abbrev pub IsLeft : Type 0
  IsLeft = AllByRecursion IsLawfulKey left × (find due left ≡ find due all)

  pub left_begun : left ≡ all → AllByRecursion IsLawfulKey all → IsLeft
  left_begun same lawful = (subst (AllByRecursion IsLawfulKey) (sym same) lawful, ap (find due) same)

  pub left_end : left ≡ [] → IsLeft → None ≡ find due all
  left_end ends is = sym (ap (find due) ends) ∙ is.1
