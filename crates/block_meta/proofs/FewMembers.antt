-- The lists and the texts of a meta have no more members than its text has bytes.
use Rattle.std.proofs.Common.{◌≡◌, ◌≢◌, inl, inr, ℕ, suc, ◌+◌, ◌≤◌, List, [], ◌∷◌, ◌++◌, length, Option, Some, None, option_map, Contains, refl, sym, ap, subst, ◌∙◌, arith, codes}
use Rattle.std.specs.Ordering.{match_ordering}
use Rattle.std.specs.declared.cmp.Ordering.{Ordering}
use Rattle.std.specs.declared.cmp.Ordering.TheVariants.{Less, Equal, Greater}
use Rattle.std.specs.List.{AllByRecursion}
use Rattle.std.specs.List.Sorted.{IsStrictlySortedBy}
use Rattle.std.proofs.lemmas.List.{length-append}
use Rattle.std.proofs.lemmas.List.Elements.{Contains-append_left, Contains-append_right, Contains-append_cases}
use Rattle.std.proofs.lemmas.Map.Keys.{sorted_from_strictly_increasing}
use Rattle.base.proofs.Membership.{contains_first, contains_later, no_member, member_cases}
use Rattle.label_sets.specs.declared.label.Label.{Label}
use Rattle.label_sets.specs.Labels.{IsLabelSet, StandsBefore, value_of, names_of}
use Rattle.label_sets.proofs.LabelValues.{before_differs, value_hit, value_miss}
use Rattle.serde_json.specs.Data.{Data, null, boolean, number, string, array, object, Items, no_items, item, Members, no_members, member}
use Rattle.serde_json.specs.Find.{get, get_member}
use Rattle.block_meta.specs.declared.file_size.FileSize.{FileSize}
use Rattle.block_meta.specs.declared.thanos.Thanos.{Thanos}
use Rattle.block_meta.specs.Bounds.{HasFew, HasSmallTexts}
use Rattle.block_meta.specs.MetaFields.{MetaFields, MarkFields, compaction_part, thanos_part, no_thanos}
use Rattle.block_meta.specs.MetaText.{HasOr, IsText, IsList, IsFile, AreItems, AreSources, IsUlid, AreLabels, IsCompaction, IsThanos, IsMetaText, IsMarkText}
use Rattle.block_meta.proofs.AscendingOnce.{above_all}
use Rattle.block_meta.proofs.FoundLabels.{same_or_not, member_miss}
use Rattle.block_meta.proofs.Sizes.{size_of, size_of_items, size_of_members, reads_few}

-- ---- different members of a list are no more than its members

abbrev AreDistinct : {A : Type 0} → List A → Type 0
AreDistinct [] = Unit {0}
AreDistinct (x ∷ xs) = (Contains xs x → ⊥) × AreDistinct xs

record IsTakenOut {A : Type 0} (x : A) (ys : List A) : Type 0 where
  front : List A
  back : List A
  are : ys ≡ front ++ x ∷ back

taken_later : {A : Type 0} (x y : A) (ys : List A) → IsTakenOut x ys → IsTakenOut x (y ∷ ys)
taken_later x y _ out = record { front = y ∷ out.front; back = out.back; are = ap (λ l. y ∷ l) out.are }

taken_out : {A : Type 0} (x : A) (ys : List A) → Contains ys x → IsTakenOut x ys
taken_out x [] among = absurd (no_member x among)
taken_out {A} x (y ∷ ys) among = elim (member_cases y x _ among) [
  | inl same ↦ record { front = []; back = ys; are = ap (λ z. z ∷ ys) same }
  | inr later ↦ taken_later x y _ (taken_out x _ later)
]

still_among : {A : Type 0} (x z : A) (front back : List A) → x ≢ z → Contains (front ++ x ∷ back) z → Contains (front ++ back) z
still_among x z front back differ among = elim (Contains-append_cases front (x ∷ back) z among) [
  | inl before ↦ Contains-append_left front back z before
  | inr behind ↦ elim (member_cases x z back behind) [ inl same ↦ absurd (differ same) | inr later ↦ Contains-append_right front back z later ]
]

no_more : {A : Type 0} (xs ys : List A) → AreDistinct xs → ((x : A) → Contains xs x → Contains ys x) → length xs ≤ length ys
no_more [] ys distinct within = omega arith
no_more {A} (x ∷ xs) ys distinct within =
    let out = taken_out x _ (within x (contains_first x _)) in
    let others : length xs ≤ length (out.front ++ out.back) =
    no_more xs _ distinct.1 (λ z among. still_among x z out.front out.back
    (λ same. distinct.0 (subst (λ y. Contains xs y) (sym same) among))
    (subst (λ (l : List A). Contains l z) out.are (within z (contains_later x z xs among)))) in
    omega (arith, ap length out.are, length-append out.front (x ∷ out.back), length-append out.front out.back, others)

-- ---- what a value holds is smaller

positive : (d : Data) → 1 ≤ size_of d
positive null = omega arith
positive (boolean b) = omega arith
positive (number n) = omega arith
positive (string s) = omega arith
positive (array ds) = omega arith
positive (object ms) = omega arith

abbrev SmallIn : ℕ → Option Data → Type 0
SmallIn n None = Unit {0}
SmallIn n (Some d) = size_of d ≤ n

small_more : (n m : ℕ) (o : Option Data) → SmallIn n o → n ≤ m → SmallIn m o
small_more n m None h le = tt
small_more n m (Some d) h le = omega arith

small_at : (o : Ordering) (n : ℕ) (a b c : Option Data) → SmallIn n a → SmallIn n b → SmallIn n c → SmallIn n (match_ordering o a b c)
small_at Less n a b c x y z = x
small_at Equal n a b c x y z = y
small_at Greater n a b c x y z = z

member_small : (k : List ℕ) (ms : Members) → SmallIn (size_of_members ms) (get_member k ms)
member_small k no_members = tt
member_small k (member l d ms) =
    let later = small_more _ (length l + (size_of d + size_of_members ms)) _ (member_small k ms) (omega arith) in
    small_at _ _ _ (Some d) (get_member k ms) later (omega arith) later

found_small : (n : ℕ) (o : Option Data) (d : Data) → SmallIn n o → o ≡ Some d → size_of d ≤ n
found_small n o d h is = subst (SmallIn n) is h

get_small : (k : List ℕ) (within d : Data) → get k within ≡ Some d → suc (size_of d) ≤ size_of within
get_small k null d is = absurd cc
get_small k (boolean b) d is = absurd cc
get_small k (number n) d is = absurd cc
get_small k (string s) d is = absurd cc
get_small k (array ds) d is = absurd cc
get_small k (object ms) d is = omega (arith, found_small (size_of_members ms) (get_member k ms) d (member_small k _) is)

-- ---- lists

items_few : {A : Type 0} (Is : Data → A → Type 0) (values : Items) (xs : List A) → AreItems Is values xs → length xs ≤ size_of_items values
items_few Is no_items [] are = omega arith
items_few Is no_items (x ∷ xs) are = absurd are
items_few Is (item v vs) [] are = omega arith
items_few Is (item v vs) (x ∷ xs) are = omega (arith, positive v, items_few Is vs xs are.1)

list_few : {A : Type 0} (Is : Data → A → Type 0) (value : Data) (xs : List A) → IsList Is value xs → length xs ≤ size_of value
list_few Is _ xs are = omega (arith, items_few Is are.0 xs are.2, ap size_of are.1)

rising_distinct : (xs : List ℕ) → IsStrictlySortedBy Rattle.std.specs.Ordering.nat_cmp xs → AreDistinct xs
unfolding IsStrictlySortedBy
rising_distinct [] rise = tt
rising_distinct (x ∷ xs) rise = ((λ among. omega (arith, above_all x x xs rise.0 among)), rising_distinct xs rise.1)

sources_few : (value : Data) (sources : List ℕ) → AreSources value sources → length sources ≤ size_of value
sources_few value sources are =
    omega (arith, no_more sources are.listed (rising_distinct _ (sorted_from_strictly_increasing _ are.ascend)) (λ u among. (are.same u).1 among), list_few IsUlid value are.listed are.are)

-- ---- texts

text_few : (value : Data) (text : List ℕ) → IsText value text → suc (length text) ≤ size_of value
text_few value text is = omega (arith, ap size_of is)

-- each of the members is told by a value that has no less
items_all : {A : Type 0} (Is : Data → A → Type 0) (length_of : A → ℕ) → ((value : Data) (x : A) → Is value x → length_of x ≤ size_of value) → (values : Items) (xs : List A) → AreItems Is values xs
    → (most : ℕ) → size_of_items values ≤ most → AllByRecursion (λ x. length_of x ≤ most) xs
items_all Is length_of one no_items [] are most le = tt
items_all Is length_of one no_items (x ∷ xs) are most le = absurd are
items_all Is length_of one (item v vs) [] are most le = tt
items_all Is length_of one (item v vs) (x ∷ xs) are most le = (omega (arith, le, one v x are.0), items_all Is length_of one vs xs are.1 most (omega (arith, le)))

list_all : {A : Type 0} (Is : Data → A → Type 0) (length_of : A → ℕ) → ((value : Data) (x : A) → Is value x → length_of x ≤ size_of value) → (value : Data) (xs : List A) → IsList Is value xs
    → (most : ℕ) → size_of value ≤ most → AllByRecursion (λ x. length_of x ≤ most) xs
list_all Is length_of one value xs are most le = items_all Is length_of one are.0 xs are.2 most (omega (arith, le, ap size_of are.1))

file_few : (value : Data) (file : FileSize) → IsFile value file → length file.path ≤ size_of value
file_few value file is = omega (arith, get_small (codes "rel_path") value is.path.0 is.path.1.there, text_few is.path.0 file.path is.path.2)

-- ---- labels

keys : Members → List (List ℕ)
keys no_members = []
keys (member k d ms) = k ∷ keys ms

keys_few : (ms : Members) → length (keys ms) ≤ size_of_members ms
unfolding keys
keys_few no_members = omega arith
keys_few (member k d ms) = omega (arith, positive d, keys_few ms)

key_there : (name : List ℕ) (ms : Members) (d : Data) → get_member name ms ≡ Some d → Contains (keys ms) name
unfolding keys
key_there name no_members d is = absurd cc
key_there name (member k e ms) d is = elim (same_or_not _ k) [
  | inl same ↦ subst (λ z. Contains (k ∷ keys ms) z) (sym same) (contains_first k _)
  | inr differ ↦ contains_later k name (keys ms) (key_there name ms d (sym (member_miss _ k e _ differ) ∙ is))
]

name_later : (name : List ℕ) (labels : List Label) → StandsBefore name labels → Contains (names_of labels) name → ⊥
name_later _ [] before among = no_member _ among
name_later name (l ∷ ls) before among = elim (member_cases _ _ _ among) [
  | inl same ↦ before_differs _ _ before.0 (sym same)
  | inr later ↦ name_later name ls before.1 later
]

names_distinct : (labels : List Label) → IsLabelSet labels → AreDistinct (names_of labels)
names_distinct [] set = tt
names_distinct (l ∷ ls) set = (name_later l.name ls set.2, names_distinct ls set.3)

name_valued : (labels : List Label) (name : List ℕ) → Contains (names_of labels) name → (value : List ℕ) × (value_of labels name ≡ Some value)
name_valued [] _ among = absurd (no_member _ among)
name_valued (l ∷ ls) _ among = elim (same_or_not _ _) [
  | inl same ↦ (l.value, value_hit l _ _ same)
  | inr differ ↦ elim (member_cases _ _ _ among) [
    | inl same ↦ absurd (differ same)
    | inr later ↦ let found = name_valued _ _ later in (found.0, value_miss l _ _ differ ∙ found.1)
  ]
]

length_names : (labels : List Label) → length (names_of labels) ≡ length labels
length_names [] = refl
length_names (l ∷ ls) = ap suc (length_names ls)

labels_few : (value : Data) (labels : List Label) → AreLabels value labels → length labels ≤ size_of value
labels_few _ labels are =
    omega (
      arith,
      length_names labels,
      ap size_of are.is_object,
      keys_few are.members,
      no_more (names_of labels) (keys are.members) (names_distinct _ are.lawful) (λ name among.
          let found = name_valued _ _ among in key_there _ _ _ (are.same name ∙ ap (option_map string) found.1)),
    )

-- the texts of a label are a name and a string of the object

key_small : (ms : Members) (name : List ℕ) → Contains (keys ms) name → length name ≤ size_of_members ms
unfolding keys
key_small no_members name among = absurd (no_member name among)
key_small (member k d ms) name among = elim (member_cases k name (keys ms) among) [
  | inl same ↦ omega (arith, ap length same)
  | inr later ↦ omega (arith, key_small ms name later)
]

-- each label of a set is the one of its name
abbrev Valued : List Label → Label → Type 0
Valued labels label = value_of labels label.name ≡ Some label.value

later_valued : (l : Label) (all ls : List Label) → StandsBefore l.name ls → AllByRecursion (Valued all) ls → AllByRecursion (Valued (l ∷ all)) ls
later_valued l all [] before each = tt
later_valued l all (m ∷ ls) before each = (value_miss l all m.name (before_differs l.name m.name before.0) ∙ each.0, later_valued l all ls before.1 each.1)

all_valued : (labels : List Label) → IsLabelSet labels → AllByRecursion (Valued labels) labels
all_valued [] set = tt
all_valued (l ∷ ls) set = (value_hit l ls l.name refl, later_valued l ls ls set.2 (all_valued ls set.3))

label_texts : (ms : Members) (most : ℕ) → size_of_members ms ≤ most → (all labels : List Label) → ((name : List ℕ) → get_member name ms ≡ option_map string (value_of all name)) → AllByRecursion (Valued all) labels → AllByRecursion (HasSmallTexts most) labels
label_texts ms most le all [] same each = tt
label_texts ms most le all (l ∷ ls) same each =
    let here : get_member l.name ms ≡ Some (string l.value) = same l.name ∙ ap (option_map string) each.0 in
    let value = found_small (size_of_members ms) (get_member l.name ms) (string l.value) (member_small l.name ms) here in
    ((omega (arith, le, key_small ms l.name (key_there l.name ms (string l.value) here)), omega (arith, le, value)), label_texts ms most le all ls same each.1)

labels_all : (value : Data) (labels : List Label) → AreLabels value labels → (most : ℕ) → size_of value ≤ most → AllByRecursion (HasSmallTexts most) labels
labels_all value labels are most le =
    label_texts are.members most (omega (arith, le, ap size_of are.is_object)) labels labels are.same (all_valued labels are.lawful)

-- ---- the whole

few_or_none : {A : Type 0} (Is : Data → List A → Type 0) (name : List ℕ) (within : Data) (xs : List A)
    → ((value : Data) (ys : List A) → Is value ys → length ys ≤ size_of value) → HasOr [] Is name within xs → length xs ≤ size_of within
few_or_none Is _ _ _ few (inl none) = omega (arith, ap length none.1)
few_or_none Is name within xs few (inr there) = omega (arith, get_small name within there.0 there.1.there, few there.0 xs there.2)

-- what the part on shipping says, within a size
record HasFewParts (meta : MetaFields) (most : ℕ) : Type 0 where
  labels : length meta.labels ≤ most
  segment_files : length meta.segment_files ≤ most
  files : length meta.files ≤ most
  source : length meta.source ≤ most
  label_texts : AllByRecursion (HasSmallTexts most) meta.labels
  segment_texts : AllByRecursion (λ text. length text ≤ most) meta.segment_files
  file_texts : AllByRecursion (λ (file : FileSize). length file.path ≤ most) meta.files

all_or_none : {A : Type 0} (P : A → Type 0) (Is : Data → List A → Type 0) (name : List ℕ) (within : Data) (xs : List A) (most : ℕ)
    → ((value : Data) → suc (size_of value) ≤ size_of within → Is value xs → AllByRecursion P xs) → HasOr [] Is name within xs → AllByRecursion P xs
all_or_none P Is name within xs most each (inl none) = subst (AllByRecursion P) (sym none.1) tt
all_or_none P Is name within xs most each (inr there) = each there.0 (get_small name within there.0 there.1.there) there.2

no_thanos_few : (meta : MetaFields) (n : ℕ) → thanos_part meta ≡ no_thanos → HasFewParts meta n
unfolding no_thanos
no_thanos_few meta n none = record {
  labels = omega (arith, ap (λ (t : Thanos). length t.labels) none);
  segment_files = omega (arith, ap (λ (t : Thanos). length t.segment_files) none);
  files = omega (arith, ap (λ (t : Thanos). length t.files) none);
  source = omega (arith, ap (λ (t : Thanos). length t.source) none);
  label_texts = subst (AllByRecursion (HasSmallTexts n)) (sym (ap (λ (t : Thanos). t.labels) none)) tt;
  segment_texts = subst (AllByRecursion (λ text. length text ≤ n)) (sym (ap (λ (t : Thanos). t.segment_files) none)) tt;
  file_texts = subst (AllByRecursion (λ (file : FileSize). length file.path ≤ n)) (sym (ap (λ (t : Thanos). t.files) none)) tt;
}

thanos_few : (meta : MetaFields) (value : Data) (n : ℕ) → size_of value ≤ n → IsThanos value (thanos_part meta) → HasFewParts meta n
thanos_few meta value n le is = record {
  labels = omega (arith, le, few_or_none _ _ value meta.labels labels_few is.labels);
  segment_files = omega (arith, le, few_or_none _ _ value meta.segment_files (list_few _) is.segment_files);
  files = omega (arith, le, few_or_none _ _ value meta.files (list_few _) is.files);
  source = omega (arith, le, few_or_none IsText (codes "source") value meta.source (λ v text (e : IsText v text). omega (arith, text_few v text e)) is.source);
  label_texts = all_or_none (HasSmallTexts n) AreLabels (codes "labels") value meta.labels n (λ v small are. labels_all v meta.labels are n (omega (arith, le, small))) is.labels;
  segment_texts = all_or_none (λ text. length text ≤ n) (IsList IsText) (codes "segment_files") value meta.segment_files n (λ v small are. list_all IsText length (λ w text (e : IsText w text). omega (arith, text_few w text e)) v meta.segment_files are n (omega (arith, le, small))) is.segment_files;
  file_texts = all_or_none (λ (file : FileSize). length file.path ≤ n) (IsList IsFile) (codes "files") value meta.files n (λ v small are. list_all IsFile (λ (file : FileSize). length file.path) file_few v meta.files are n (omega (arith, le, small))) is.files;
}

thanos_or_none : (meta : MetaFields) (n : ℕ) (within : Data) → size_of within ≤ suc n → HasOr no_thanos IsThanos (codes "thanos") within (thanos_part meta) → HasFewParts meta n
thanos_or_none meta n _ size (inl none) = no_thanos_few meta n none.1
thanos_or_none meta n within size (inr there) = thanos_few meta there.0 n (omega (arith, size, get_small (codes "thanos") within there.0 there.1.there)) there.2

compaction_few : (meta : MetaFields) (value : Data) → IsCompaction value (compaction_part meta) → (length meta.sources ≤ size_of value) × (length meta.parents ≤ size_of value)
compaction_few meta value is = (
  few_or_none _ _ _ _ sources_few is.sources,
  few_or_none _ _ _ _ (list_few _) is.parents,
)

pub meta_few : (text : List ℕ) (meta : MetaFields) → IsMetaText text meta → HasFew meta (length text)
meta_few text meta is =
    let size = reads_few _ _ is.reads in
    let part = is.is.compaction in
    let small = get_small (codes "compaction") is.value part.0 part.1.there in
    let compacted = compaction_few meta part.0 part.2 in
    let others = thanos_or_none meta (length text) is.value size is.is.thanos in
    record {
      sources = omega (arith, compacted.0, small, size);
      parents = omega (arith, compacted.1, small, size);
      labels = others.labels;
      label_texts = others.label_texts;
      source = others.source;
      files = others.files;
      file_texts = others.file_texts;
      segment_files = others.segment_files;
      segment_texts = others.segment_texts;
    }

details_few : (text : List ℕ) (mark : MarkFields) (value : Data) → size_of value ≤ suc (length text) → HasOr [] IsText (codes "details") value mark.details → length mark.details ≤ length text
details_few text mark value size (inl none) = omega (arith, ap length none.1)
details_few text mark value size (inr there) = omega (arith, size, get_small (codes "details") value there.0 there.1.there, text_few there.0 mark.details there.2)

-- the text of a mark is no longer than its own
pub mark_few : (text : List ℕ) (mark : MarkFields) → IsMarkText text mark → length mark.details ≤ length text
mark_few text mark is = details_few text mark is.value (reads_few _ _ is.reads) is.is.details
