-- The labels and the patterns of a line are lawful.
use Rattle.std.proofs.Common.{ℕ, ◌^◌, ◌<◌, List, [], ◌∷◌, ◌++◌, subst, arith}
use Rattle.std.specs.Prelude.{IsTrue, codes}
use Rattle.std.specs.List.{All, flat_map}
use Rattle.std.specs.Str.{IsUtf8}
use Rattle.std.proofs.lemmas.List.Elements.{All-nil, All-cons}
use Rattle.std.proofs.lemmas.List.Sorted.{All-permutation}
use Rattle.label_sets.specs.declared.label.Label.{Label}
use Rattle.label_sets.specs.declared.sample.Sample.{Sample}
use Rattle.label_sets.specs.Notation.{is_name, quoted, pair_text, comma_pair_text, pairs_text, set_text}
use Rattle.label_sets.specs.SetText.{IsSetText}
use Rattle.label_sets.proofs.SetsAgain.{pair_shape_again}
use Rattle.label_sets.proofs.Utf8Parts.{cut_front, cut_rest, unquoted}
use Rattle.script_core.specs.Lawful.{AreLawfulLabels}
use Rattle.script_core.specs.Spelling.{SoFar, spaced, AreSampleFields, BlockLine, ShelfLine, SeriesLine}

-- ---- the values of a label set

abbrev HasText : Label → Type 0
HasText l = IsUtf8 l.value

-- the value of a pair, and what follows the pair
pair_parts : (l : Label) (rest : List ℕ) → IsUtf8 (pair_text l ++ rest) → HasText l × IsUtf8 rest
pair_parts l rest utf8 =
    let value : List ℕ = quoted l.value ++ 34 ∷ rest in
    let pair : IsUtf8 (l.name ++ 61 ∷ 34 ∷ value) = subst IsUtf8 (pair_shape_again l rest) utf8 in
    let behind : IsUtf8 value = cut_rest [] value 34 (omega arith) (cut_rest l.name (34 ∷ value) 61 (omega arith) pair) in
    (unquoted l.value (cut_front (quoted l.value) rest 34 (omega arith) behind), cut_rest (quoted l.value) rest 34 (omega arith) behind)

comma_texts : (labels : List Label) → IsUtf8 (flat_map comma_pair_text labels) → All HasText labels
unfolding comma_pair_text
comma_texts [] utf8 = All-nil HasText
comma_texts (l ∷ ls) utf8 =
    let parts = pair_parts l (flat_map comma_pair_text ls) (cut_rest [] (pair_text l ++ flat_map comma_pair_text ls) 44 (omega arith) utf8) in
    All-cons HasText l ls parts.0 (comma_texts ls parts.1)

pairs_texts : (labels : List Label) → IsUtf8 (pairs_text labels) → All HasText labels
unfolding pairs_text
pairs_texts [] utf8 = All-nil HasText
pairs_texts (l ∷ ls) utf8 =
    let parts = pair_parts l (flat_map comma_pair_text ls) utf8 in
    All-cons HasText l ls parts.0 (comma_texts ls parts.1)

set_texts : (labels : List Label) → IsUtf8 (set_text labels) → All HasText labels
unfolding set_text
set_texts labels utf8 =
    pairs_texts labels (cut_front (pairs_text labels) [] 125 (omega arith) (cut_rest [] (pairs_text labels ++ 125 ∷ []) 123 (omega arith) utf8))

-- what stands in a text as a label set
lawful_labels : (text : List ℕ) (labels : List Label) → IsUtf8 text → IsSetText text labels → AreLawfulLabels labels
lawful_labels text labels utf8 is = record {
  set = is.lawful;
  named = All-permutation (λ (l : Label). IsTrue (is_name l.name)) is.listed labels is.arranged is.named;
  texts = All-permutation HasText is.listed labels is.arranged (set_texts is.listed (subst IsUtf8 is.written utf8));
}

-- ---- lines

second_field : (one two three : List ℕ) → IsUtf8 (spaced (one ∷ two ∷ three ∷ [])) → IsUtf8 two
second_field one two three utf8 = cut_front two three 32 (omega arith) (cut_rest one (two ++ 32 ∷ three) 32 (omega arith) utf8)

third_field : (one two three : List ℕ) → IsUtf8 (spaced (one ∷ two ∷ three ∷ [])) → IsUtf8 three
third_field one two three utf8 = cut_rest two three 32 (omega arith) (cut_rest one (two ++ 32 ∷ three) 32 (omega arith) utf8)

last_field : (one two three four five : List ℕ) → IsUtf8 (spaced (one ∷ two ∷ three ∷ four ∷ five ∷ [])) → IsUtf8 five
last_field one two three four five utf8 =
    let behind_one : IsUtf8 (two ++ 32 ∷ (three ++ 32 ∷ (four ++ 32 ∷ five))) = cut_rest one (two ++ 32 ∷ (three ++ 32 ∷ (four ++ 32 ∷ five))) 32 (omega arith) utf8 in
    let behind_two : IsUtf8 (three ++ 32 ∷ (four ++ 32 ∷ five)) = cut_rest two (three ++ 32 ∷ (four ++ 32 ∷ five)) 32 (omega arith) behind_one in
    cut_rest four five 32 (omega arith) (cut_rest three (four ++ 32 ∷ five) 32 (omega arith) behind_two)

module _ (before after : SoFar) (line : List ℕ) (utf8 : IsUtf8 line) where
  pub block_labels : (says : BlockLine before line after) → AreLawfulLabels says.labels
  block_labels says =
      lawful_labels says.labels_text says.labels (last_field (codes "block") says.ulid_text says.min_text says.max_text says.labels_text (subst IsUtf8 says.spelled utf8)) says.are_labels

  pub shelf_labels : (says : ShelfLine before line after) → AreLawfulLabels says.labels
  shelf_labels says =
      lawful_labels says.labels_text says.labels (third_field (codes "shelf") says.ulid_text says.labels_text (subst IsUtf8 says.spelled utf8)) says.are_labels

  pub series_labels : (says : SeriesLine before line after) → AreLawfulLabels says.labels
  series_labels says =
      lawful_labels says.labels_text says.labels (second_field (codes "series") says.labels_text (spaced says.texts) (subst IsUtf8 says.spelled utf8)) says.are_labels

pub small_patterns : (texts : List (List ℕ)) (samples : List Sample) → AreSampleFields texts samples → All (λ (s : Sample). s.pattern < 2 ^ 64) samples
small_patterns [] [] are = All-nil (λ (s : Sample). s.pattern < 2 ^ 64)
small_patterns [] (sample ∷ samples) are = absurd are
small_patterns (text ∷ texts) [] are = absurd are
small_patterns (text ∷ texts) (sample ∷ samples) are =
    All-cons (λ (s : Sample). s.pattern < 2 ^ 64) sample samples are.0.pattern (small_patterns texts samples are.1)
