-- The text of a meta is read as that meta, where its numbers fit and its texts are UTF-8.
use Rattle.std.proofs.Common.{◌≡◌, ℕ, ℤ, pos, negsuc, ◌^◌, ◌<◌, true, nat_lt, List, [], ◌∷◌, get_or, All, Ok, Less, nat_cmp, FitsSigned, w64, IsUtf8, codes, rules, refl, sym, ap, subst, arith}
use Rattle.std.specs.Prelude.{◌||◌, IsTrue}
use Rattle.std.specs.Char.{is_ascii_digit}
use Rattle.std.specs.List.{AllByRecursion, list_all}
use Rattle.std.specs.Cmp.Lexicographic.{slice_cmp}
use Rattle.std.specs.List.Sorted.{IsStrictlyIncreasing, IsStrictlySortedBy}
use Rattle.std.proofs.lemmas.Bool.{and_from, and_parts}
use Rattle.std.proofs.lemmas.Bool.Decides.{nat_tests}
use Rattle.std.proofs.lemmas.Int.{ints}
use Rattle.std.proofs.lemmas.List.Elements.{All-from_recursion, recursion_from_All}
use Rattle.json.proofs.Printed.Utf8.{are_ascii, IsUtf8-are_ascii}
use Rattle.serde_json.specs.Data.{Data, string}
use Rattle.serde_json.specs.Find.{of_integer}
use Rattle.serde_json.specs.Written.{compact_text}
use Rattle.ulid_core.proofs.UlidLaws.{IsUlidText-text_of}
use Rattle.label_sets.specs.declared.label.Label.{Label}
use Rattle.label_sets.specs.Labels.{IsLabelSet, StandsBefore}
use Rattle.label_sets.specs.Notation.{is_name, is_name_byte, is_name_start}
use Rattle.label_sets.specs.SetText.{AreNamed}
use Rattle.block_meta.specs.Bounds.{FitsParent}
use Rattle.block_meta.specs.declared.file_size.FileSize.{FileSize}
use Rattle.block_meta.specs.declared.parent.Parent.{Parent}
use Rattle.block_meta.specs.Lawful.{AreLawfulTimes}
use Rattle.block_meta.specs.Members.{ulid_of, each}
use Rattle.block_meta.specs.MetaFields.{MetaFields}
use Rattle.block_meta.specs.MetaReading.{meta_of, meta_of_text, parent_of}
use Rattle.block_meta.specs.MetaValue.{ulid_value, parent_value, file_value, items_value, label_members, stats_value, compaction_value, thanos_value, meta_value, meta_text}
use Rattle.block_meta.proofs.Again.{ulid_again, parent_again, compaction_again, thanos_written, meta_again}
use Rattle.block_meta.proofs.LabelMembers.{labels_again}
use Rattle.block_meta.proofs.Lists.{each_again}
use Rattle.block_meta.proofs.Rising.{ascending_already, lawful_passes}
use Rattle.block_meta.proofs.Texts.{meta_reads}
use Rattle.ulid_core.proofs.AsciiTexts.{IsUtf8-text_of}
use Rattle.block_meta.proofs.JsonAgain.{FitsNumber, keys, IsPlain, ArePlainItems, ArePlainMembers, plain_read, plain_utf8}

-- What a meta's text needs to be read as the meta. A shipped meta drops no samples.
pub record IsReadAgain (m : MetaFields) : Type 0 where
  pub ulid : m.ulid < 2 ^ 128
  pub times : AreLawfulTimes m.min_time m.max_time
  pub series : m.series < 2 ^ 64
  pub samples : m.samples < 2 ^ 64
  pub chunks : m.chunks < 2 ^ 64
  pub level : m.level < 2 ^ 32
  pub sources : All (λ u. u < 2 ^ 128) m.sources
  pub distinct : IsStrictlyIncreasing m.sources
  pub parents : AllByRecursion FitsParent m.parents
  pub lawful : IsLabelSet m.labels
  pub named : AreNamed m.labels
  pub values : All (λ (l : Label). IsUtf8 l.value) m.labels
  pub resolution : m.resolution ≡ pos 0
  pub source : IsUtf8 m.source
  pub files : All (λ (f : FileSize). IsUtf8 f.path × (f.bytes < 2 ^ 64)) m.files
  pub segment_files : All IsUtf8 m.segment_files

-- ---- parts of the value

signed_fits : (z : ℤ) → FitsSigned w64 z → FitsNumber (of_integer z)
signed_fits (pos n) fits = let small : n < 2 ^ 63 = omega (arith, ints) in omega arith
signed_fits (negsuc n) fits = omega (arith, ints)

pub lawful_fits : (min max : ℤ) → AreLawfulTimes min max → FitsSigned w64 min × FitsSigned w64 max
lawful_fits min max lawful = (omega (arith, ints, lawful), omega (arith, ints, lawful))

items_plain : {A : Type 0} (P : A → Type 0) (one : A → Data) → ((x : A) → P x → IsPlain (one x)) → (xs : List A) → AllByRecursion P xs → ArePlainItems (items_value one xs)
unfolding items_value
items_plain P one plain [] h = tt
items_plain P one plain (x ∷ xs) h = (plain x h.0, items_plain P one plain xs h.1)

ulid_plain : (u : ℕ) → u < 2 ^ 128 → IsPlain (ulid_value u)
unfolding ulid_value
ulid_plain u fits = IsUtf8-text_of u

file_plain : (f : FileSize) → IsUtf8 f.path × (f.bytes < 2 ^ 64) → IsPlain (file_value f)
unfolding file_value IsStrictlySortedBy
file_plain f h = search rules

none_dropped : (m : MetaFields) → IsReadAgain m → FitsSigned w64 m.resolution
none_dropped m h = subst (FitsSigned w64) (sym h.resolution) (omega (arith, ints))

-- ---- labels

name_bytes : (name : List ℕ) → is_name name ≡ true → list_all is_name_byte name ≡ true
unfolding is_name
name_bytes [] is = refl
name_bytes (b ∷ bs) is =
    let p : _ = and_parts (is_name_start b) (list_all is_name_byte bs) is in
    and_from (is_name_byte b) (list_all is_name_byte bs) (ap (λ s. s || is_ascii_digit b) p.0) p.1

name_byte_ascii : (b : ℕ) → is_name_byte b ≡ true → nat_lt b 128 ≡ true
name_byte_ascii b is = grind (arith, nat_tests)

name_ascii : (text : List ℕ) → list_all is_name_byte text ≡ true → are_ascii text ≡ true
name_ascii [] all = refl
name_ascii (b ∷ bs) all =
    let p : _ = and_parts (is_name_byte b) (list_all is_name_byte bs) all in
    and_from (nat_lt b 128) (are_ascii bs) (name_byte_ascii b p.0) (name_ascii bs p.1)

label_stands : (name : List ℕ) (labels : List Label) → StandsBefore name labels → AllByRecursion (λ key. slice_cmp nat_cmp name key ≡ Less) (keys (label_members labels))
unfolding label_members
label_stands name [] h = tt
label_stands name (l ∷ ls) h = (h.0, label_stands name ls h.1)

labels_ascend : (labels : List Label) → IsLabelSet labels → IsStrictlySortedBy (slice_cmp nat_cmp) (keys (label_members labels))
unfolding label_members IsStrictlySortedBy
labels_ascend [] h = tt
labels_ascend (l ∷ ls) h = (label_stands l.name ls h.2, labels_ascend ls h.3)

labels_plain : (labels : List Label) → AllByRecursion (λ (l : Label). IsTrue (is_name l.name)) labels → AllByRecursion (λ (l : Label). IsUtf8 l.value) labels → ArePlainMembers (label_members labels)
unfolding label_members
labels_plain [] named values = tt
labels_plain (l ∷ ls) named values = (IsUtf8-are_ascii l.name (name_ascii l.name (name_bytes l.name named.0)), values.0, labels_plain ls named.1 values.1)

-- ---- sections

stats_plain : (series samples chunks : ℕ) → series < 2 ^ 64 → samples < 2 ^ 64 → chunks < 2 ^ 64 → IsPlain (stats_value series samples chunks)
unfolding stats_value IsStrictlySortedBy
stats_plain series samples chunks p q r = search rules

parent_plain : (p : Parent) → FitsParent p → IsPlain (parent_value p)
unfolding parent_value IsStrictlySortedBy
parent_plain p h =
    let early : FitsNumber (of_integer p.min_time) = signed_fits p.min_time h.early in
    let late : FitsNumber (of_integer p.max_time) = signed_fits p.max_time h.late in
    let ulid : IsPlain (ulid_value p.ulid) = ulid_plain p.ulid h.ulid in
    search rules

parents_plain : (parents : List Parent) → AllByRecursion FitsParent parents → ArePlainItems (items_value parent_value parents)
parents_plain parents fit = items_plain FitsParent parent_value parent_plain parents fit

compaction_plain : (level : ℕ) (sources : List ℕ) (parents : List Parent) → level < 2 ^ 64 → All (λ u. u < 2 ^ 128) sources → AllByRecursion FitsParent parents → IsPlain (compaction_value level sources parents)
unfolding compaction_value IsStrictlySortedBy
compaction_plain level sources [] fits small fit =
    let listed : ArePlainItems (items_value ulid_value sources) = items_plain _ ulid_value ulid_plain sources (recursion_from_All _ sources small) in
    search rules
compaction_plain level sources (p ∷ ps) fits small fit =
    let listed : ArePlainItems (items_value ulid_value sources) = items_plain _ ulid_value ulid_plain sources (recursion_from_All _ sources small) in
    let before : ArePlainItems (items_value parent_value (p ∷ ps)) = parents_plain (p ∷ ps) fit in
    search rules

thanos_plain : (m : MetaFields) → IsReadAgain m → IsPlain (thanos_value m)
unfolding thanos_value IsStrictlySortedBy
thanos_plain m h =
    let files : ArePlainItems (items_value file_value m.files) = items_plain _ file_value file_plain m.files (recursion_from_All _ m.files h.files) in
    let segments : ArePlainItems (items_value string m.segment_files) = items_plain _ string (λ text utf8. utf8) m.segment_files (recursion_from_All _ m.segment_files h.segment_files) in
    let labels : ArePlainMembers (label_members m.labels) = labels_plain m.labels (recursion_from_All _ m.labels h.named) (recursion_from_All _ m.labels h.values) in
    let ascend : IsStrictlySortedBy (slice_cmp nat_cmp) (keys (label_members m.labels)) = labels_ascend m.labels h.lawful in
    let resolution : FitsNumber (of_integer m.resolution) = signed_fits m.resolution (none_dropped m h) in
    search rules

meta_plain : (m : MetaFields) → IsReadAgain m → IsPlain (meta_value m)
unfolding meta_value IsStrictlySortedBy
meta_plain m h =
    let times : FitsSigned w64 m.min_time × FitsSigned w64 m.max_time = lawful_fits m.min_time m.max_time h.times in
    let early : FitsNumber (of_integer m.min_time) = signed_fits m.min_time times.0 in
    let late : FitsNumber (of_integer m.max_time) = signed_fits m.max_time times.1 in
    let compaction : IsPlain (compaction_value m.level m.sources m.parents) = compaction_plain m.level m.sources m.parents (omega (arith, h.level)) h.sources h.parents in
    let stats : IsPlain (stats_value m.series m.samples m.chunks) = stats_plain m.series m.samples m.chunks h.series h.samples h.chunks in
    let thanos : IsPlain (thanos_value m) = thanos_plain m h in
    let ulid : IsPlain (ulid_value m.ulid) = ulid_plain m.ulid h.ulid in
    search rules

-- ---- the whole

sources_again : (sources : List ℕ) → All (λ u. u < 2 ^ 128) sources → each (ulid_of (codes "sources")) (items_value ulid_value sources) ≡ Ok sources
sources_again sources small =
    each_again ulid_value (ulid_of (codes "sources")) sources (λ k d lt. ulid_again (codes "sources") (get_or sources k d) (IsUlidText-text_of (get_or sources k d) (small k d lt)))

parents_again : (parents : List Parent) → AllByRecursion FitsParent parents → each (parent_of (codes "parents")) (items_value parent_value parents) ≡ Ok parents
parents_again parents fit =
    let all : All FitsParent parents = All-from_recursion FitsParent parents fit in
    each_again parent_value (parent_of (codes "parents")) parents
    (λ k d lt. parent_again (codes "parents") (get_or parents k d) (IsUlidText-text_of (get_or parents k d).ulid (all k d lt).ulid) (all k d lt).early (all k d lt).late)

value_again : (m : MetaFields) → IsReadAgain m → meta_of (meta_value m) ≡ Ok m
value_again m h =
    meta_again m (IsUlidText-text_of m.ulid h.ulid) (lawful_passes m.min_time m.max_time h.times) (ascending_already m.sources h.distinct)
    (compaction_again m.level m.sources m.parents h.level (sources_again m.sources h.sources) (parents_again m.parents h.parents))
    (thanos_written m (none_dropped m h) (labels_again m.labels h.lawful))

pub meta_read_again : (m : MetaFields) → IsReadAgain m → meta_of_text (meta_text m) ≡ Ok m
unfolding meta_text
meta_read_again m h =
    let plain : IsPlain (meta_value m) = meta_plain m h in
    meta_reads (compact_text (meta_value m)) (meta_value m) m refl refl (plain_utf8 (meta_value m) plain) (plain_read (meta_value m) plain) (value_again m h)
