-- Label sets as lists of labels, and their order.
use Rattle.std.specs.Prelude.{◌≡◌, ◌≢◌, ℕ, List, [], ◌∷◌, map, length, Option, Some, None, is_some, Bool, Result, Ok, Err, if◌then◌else◌, ◌==◌}
use Rattle.std.specs.declared.cmp.Ordering.{Ordering}
use Rattle.std.specs.declared.cmp.Ordering.TheVariants.{Less}
use Rattle.std.specs.Ordering.{nat_cmp, ordering_then, is_lt}
use Rattle.std.specs.Cmp.Lexicographic.{slice_cmp}
use Rattle.std.specs.Str.{bytes_eq}
use Rattle.std.specs.List.{AllByRecursion}
use Rattle.label_sets.specs.declared.label.Label.{Label}
use Rattle.label_sets.specs.declared.label_refusal.LabelRefusal.{LabelRefusal}
use Rattle.label_sets.specs.declared.label_refusal.LabelRefusal.TheVariants.{EmptyName, EmptyValue, Repeated}
use Rattle.label_sets.specs.Ordered.{placed}

-- the order of texts: by their bytes
abbrev pub compare_texts : List ℕ → List ℕ → Ordering
compare_texts = slice_cmp nat_cmp

-- one text stands before another
abbrev pub ComesBefore : List ℕ → List ℕ → Type 0
ComesBefore one other = compare_texts one other ≡ Less

-- the same as a test
abbrev pub is_lesser_text : List ℕ → List ℕ → Bool
is_lesser_text one other = is_lt (compare_texts one other)

-- the order of labels: by name and then by value
abbrev pub compare_labels : Label → Label → Ordering
compare_labels one other = ordering_then (compare_texts one.name other.name) (compare_texts one.value other.value)

-- the order of label sets, as lists of labels
abbrev pub compare_sets : List Label → List Label → Ordering
compare_sets = slice_cmp compare_labels

-- a label whose name stands before another's
abbrev pub has_lesser_name : Label → Label → Bool
has_lesser_name one other = is_lt (compare_texts one.name other.name)

-- the name stands before the name of each of these labels
abbrev pub StandsBefore : List ℕ → List Label → Type 0
StandsBefore name labels = AllByRecursion (λ (label : Label). ComesBefore name label.name) labels

-- A label set: the names strictly ascend, and no name and no value is empty.
abbrev pub IsLabelSet : List Label → Type 0
IsLabelSet [] = Unit {0}
IsLabelSet (l ∷ ls) = (l.name ≢ []) × (l.value ≢ []) × StandsBefore l.name ls × IsLabelSet ls

-- the value of the first label of this name
unfoldable pub value_of : List Label → List ℕ → Option (List ℕ)
value_of [] name = None
value_of (l ∷ ls) name = if bytes_eq l.name name then Some l.value else value_of ls name

-- the names
abbrev pub names_of : List Label → List (List ℕ)
names_of labels = map (λ l. l.name) labels

-- Labels, in any order, of which a set can be made: no name twice, and no name and no value empty.
abbrev pub MakeASet : List Label → Type 0
MakeASet [] = Unit {0}
MakeASet (l ∷ ls) = (l.name ≢ []) × (l.value ≢ []) × (value_of ls l.name ≡ None) × MakeASet ls

-- What adding a label to a set gives: the set with the label at its place, or the first cause to refuse it.
unfoldable pub added : List Label → List ℕ → List ℕ → Result (List Label) LabelRefusal
added labels name value =
    if length name == 0 then Err EmptyName
    else (if length value == 0 then Err EmptyValue
    else (if is_some (value_of labels name) then Err Repeated
    else Ok (placed has_lesser_name (record { name = name; value = value }) labels)))
