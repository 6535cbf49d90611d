-- Labels that an index lends: those that are kept.
use Rattle.std.proofs.Common.{◌≡◌, ℕ, ◌+◌, ◌<◌, Bool, true, false, cond, not, Option, None, Some, List, [], ◌∷◌, ◌++◌, length, map, take, get_or, refl, sym, ap, subst, ◌∙◌, arith, append-nil}
use Rattle.std.specs.List.{items_where_true}
use Rattle.std.specs.List.Retain.{ReturnsInTurn, IsFiltered}
use Rattle.std.proofs.lemmas.List.{map-append, take_more, length-map}
use Rattle.base.proofs.Lists.{take_none}
use Rattle.label_sets.specs.declared.label.Label.{Label}
use Rattle.label_sets.specs.Labels.{value_of}
use Rattle.label_sets.specs.Finals.{is_among, reduced_of}
use Rattle.label_sets.proofs.FinalLabels.{reduced-nil, reduced-append, reduced_external, reduced_own}
use Rattle.index_v2.specs.declared.lent_series.LentLabel.{LentLabel}
use Rattle.index_v2.specs.LentLabels.{as_label}
use Rattle.index_v2.proofs.LentOrder.{at_mapped}

-- ---- labels that are kept

pub has_value : (external : List Label) (label : Label) (replicas : List (List ℕ)) (found : Option (List ℕ)) (value : List ℕ) → found ≡ value_of external label.name → found ≡ Some value → reduced_of (label ∷ []) external replicas ≡ []
has_value external label replicas found value is some = reduced_external label external replicas value (sym is ∙ some)

pub has_none : (external : List Label) (label : Label) (replicas names : List (List ℕ)) (found : Option (List ℕ)) (b : Bool) → found ≡ value_of external label.name → found ≡ None → names ≡ replicas → b ≡ is_among names label.name → reduced_of (label ∷ []) external replicas ≡ cond (not b) (label ∷ []) []
has_none external label replicas names found b is none same told = reduced_own label external replicas b (sym is ∙ none) (told ∙ ap (λ (l : List (List ℕ)). is_among l label.name) same)

-- labels of a set, which lend their texts
pub no_label_kept : (labels : List Label) (kept : List LentLabel) (external : List Label) (replicas : List (List ℕ)) → kept ≡ [] → map as_label kept ≡ reduced_of (take 0 labels) external replicas
no_label_kept labels kept external replicas none = ap (map as_label) none ∙ sym (ap (λ (l : List Label). reduced_of l external replicas) (take_none labels) ∙ reduced-nil external replicas)

part_more : (labels : List Label) (kept now part : List LentLabel) (k : ℕ) (label d : Label) (external : List Label) (replicas : List (List ℕ)) → k < length labels → label ≡ get_or labels k d → map as_label kept ≡ reduced_of (take k labels) external replicas
    → reduced_of (label ∷ []) external replicas ≡ map as_label part → now ≡ kept ++ part → map as_label now ≡ reduced_of (take (k + 1) labels) external replicas
part_more labels kept now part k label d external replicas lt at was one added =
    ap (map as_label) added ∙ map-append as_label kept part ∙ ap (λ (l : List Label). l ++ map as_label part) was ∙ ap (λ (l : List Label). reduced_of (take k labels) external replicas ++ l) (sym one)
    ∙ sym (ap (λ (l : List Label). reduced_of l external replicas) (take_more labels k d lt ∙ ap (λ (x : Label). take k labels ++ x ∷ []) (sym at)) ∙ reduced-append (take k labels) (label ∷ []) external replicas)

pub label_kept : (labels : List Label) (kept now : List LentLabel) (k : ℕ) (label d : Label) (lent : LentLabel) (external : List Label) (replicas : List (List ℕ)) → k < length labels → label ≡ get_or labels k d → map as_label kept ≡ reduced_of (take k labels) external replicas → as_label lent ≡ label
    → reduced_of (as_label lent ∷ []) external replicas ≡ as_label lent ∷ [] → now ≡ kept ++ lent ∷ [] → map as_label now ≡ reduced_of (take (k + 1) labels) external replicas
label_kept labels kept now k label d lent external replicas lt at was same one added =
    part_more labels kept now (lent ∷ []) k label d external replicas lt at was (ap (λ (l : Label). reduced_of (l ∷ []) external replicas) (sym same) ∙ one) added

pub label_left_out : (labels : List Label) (kept now : List LentLabel) (k : ℕ) (label d : Label) (lent : LentLabel) (external : List Label) (replicas : List (List ℕ)) → k < length labels → label ≡ get_or labels k d → map as_label kept ≡ reduced_of (take k labels) external replicas → as_label lent ≡ label
    → reduced_of (as_label lent ∷ []) external replicas ≡ [] → now ≡ kept → map as_label now ≡ reduced_of (take (k + 1) labels) external replicas
label_left_out labels kept now k label d lent external replicas lt at was same one still =
    part_more labels kept now [] k label d external replicas lt at was (ap (λ (l : Label). reduced_of (l ∷ []) external replicas) (sym same) ∙ one) (still ∙ sym (append-nil kept))

-- the same of labels that are lent already
pub lent_kept : (labels kept now : List LentLabel) (k : ℕ) (x d : LentLabel) (external : List Label) (replicas : List (List ℕ)) → k < length labels → x ≡ get_or labels k d → map as_label kept ≡ reduced_of (take k (map as_label labels)) external replicas
    → reduced_of (as_label x ∷ []) external replicas ≡ as_label x ∷ [] → now ≡ kept ++ x ∷ [] → map as_label now ≡ reduced_of (take (k + 1) (map as_label labels)) external replicas
lent_kept labels kept now k x d external replicas lt at was one added =
    label_kept (map as_label labels) kept now k (as_label x) (as_label x) x external replicas (omega (arith, lt, length-map labels as_label)) (at_mapped labels k x d (as_label x) lt at) was refl one added

pub lent_left_out : (labels kept now : List LentLabel) (k : ℕ) (x d : LentLabel) (external : List Label) (replicas : List (List ℕ)) → k < length labels → x ≡ get_or labels k d → map as_label kept ≡ reduced_of (take k (map as_label labels)) external replicas
    → reduced_of (as_label x ∷ []) external replicas ≡ [] → now ≡ kept → map as_label now ≡ reduced_of (take (k + 1) (map as_label labels)) external replicas
lent_left_out labels kept now k x d external replicas lt at was one still =
    label_left_out (map as_label labels) kept now k (as_label x) (as_label x) x external replicas (omega (arith, lt, length-map labels as_label)) (at_mapped labels k x d (as_label x) lt at) was refl one still

-- lent labels of which a closure keeps those that the reduction keeps
module _ {F : Type 0} (R : F → LentLabel → Bool → F → Type 0) (f : F) (external : List Label) (replicas : List (List ℕ)) (told : (label : LentLabel) (b : Bool) (f' : F) → R f label b f' → (reduced_of (as_label label ∷ []) external replicas ≡ cond b (as_label label ∷ []) []) × (f' ≡ f)) where
  first_kept : (label : LentLabel) (labels kept : List LentLabel) (b : Bool) → reduced_of (as_label label ∷ []) external replicas ≡ cond b (as_label label ∷ []) [] → map as_label kept ≡ reduced_of (map as_label labels) external replicas
      → map as_label (cond b (label ∷ kept) kept) ≡ reduced_of (as_label label ∷ map as_label labels) external replicas
  first_kept label labels kept true one behind = ap (λ (l : List Label). as_label label ∷ l) behind ∙ sym (reduced-append (as_label label ∷ []) (map as_label labels) external replicas ∙ ap (λ (l : List Label). l ++ reduced_of (map as_label labels) external replicas) one)
  first_kept label labels kept false one behind = behind ∙ sym (reduced-append (as_label label ∷ []) (map as_label labels) external replicas ∙ ap (λ (l : List Label). l ++ reduced_of (map as_label labels) external replicas) one)

  kept_in_turn : (bs : List Bool) (labels : List LentLabel) (g last : F) → g ≡ f → length bs ≡ length labels → ReturnsInTurn R g bs labels last → map as_label (items_where_true bs labels) ≡ reduced_of (map as_label labels) external replicas
  kept_in_turn [] [] g last same many turn = sym (reduced-nil external replicas)
  kept_in_turn [] (label ∷ labels) g last same many turn = absurd (omega arith)
  kept_in_turn (b ∷ bs) [] g last same many turn = absurd (omega arith)
  kept_in_turn (true ∷ bs) (label ∷ labels) g last same many turn =
      let one = told label true turn.0 (subst (λ (h : F). R h label true turn.0) same turn.1) in
      first_kept label labels (items_where_true bs labels) true one.0 (kept_in_turn bs labels turn.0 last one.1 (omega arith) turn.2)
  kept_in_turn (false ∷ bs) (label ∷ labels) g last same many turn =
      let one = told label false turn.0 (subst (λ (h : F). R h label false turn.0) same turn.1) in
      first_kept label labels (items_where_true bs labels) false one.0 (kept_in_turn bs labels turn.0 last one.1 (omega arith) turn.2)

  pub retained : (labels kept : List LentLabel) → IsFiltered R f labels kept → map as_label kept ≡ reduced_of (map as_label labels) external replicas
  retained labels kept h = ap (map as_label) h.4 ∙ kept_in_turn h.0 labels f h.1 refl h.2 h.3
