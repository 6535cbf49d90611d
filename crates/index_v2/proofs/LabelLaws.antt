-- Series with their labels: what is read is in the grammar, and what is in the grammar is read.
use Rattle.std.proofs.Common.{◌≡◌, ◌≢◌, ℕ, ◌*◌, ◌<◌, List, [], ◌∷◌, length, map, Some, Result, Ok, refl, ap, subst, arith}
use Rattle.std.specs.Prelude.{slice_get}
use Rattle.std.proofs.lemmas.Bool.{lt-ltb}
use Rattle.base.proofs.Bools.{is_lt-from_Less}
use Rattle.base.proofs.Lists.{cons_same, some-from_long}
use Rattle.base.specs.Members.{members_at}
use Rattle.base.specs.Grammar.{IsBytes}
use Rattle.base.proofs.Binds.{bind_ok, refused_as_ok, ok_is}
use Rattle.label_sets.specs.declared.label.Label.{Label}
use Rattle.label_sets.specs.Labels.{ComesBefore, StandsBefore, IsLabelSet}
use Rattle.label_sets.proofs.LabelValues.{StandsBefore-trans, above_nothing}
use Rattle.index_parts.specs.declared.refusal.PartRefusal.{PartRefusal}
use Rattle.index_parts.proofs.SeriesLaws.{series_found, series_again}
use Rattle.index_parts.specs.declared.index_series.IndexSeries.{IndexSeries}
use Rattle.index_parts.specs.declared.raw_series.RawLabel.{RawLabel}
use Rattle.index_parts.specs.SeriesReading.{label_at, names_of, values_of}
use Rattle.index_v2.specs.SeriesLabels.{label_of, labels_of, texts_at, labelled_at, numbered_at}
use Rattle.index_parts.specs.IndexFile.{StandFor, IsSeriesOf}
use Rattle.wire_bytes.specs.Position.{Position}
use Rattle.index_v2.proofs.LabelReading.{label_parts}
use Rattle.index_v2.proofs.LabelledSeries.{labelled_parts, raw_stands}

-- ---- label sets as chains

-- each name is above the one before it, and no value is empty
abbrev pub AreChained : List ℕ → List Label → Type 0
AreChained before [] = Unit {0}
AreChained before (l ∷ ls) = ComesBefore before l.name × (0 < length l.value) × AreChained l.name ls

pub set_from_chain : (before : List ℕ) (ls : List Label) → AreChained before ls → IsLabelSet ls × StandsBefore before ls
set_from_chain _ [] chain = (tt, tt)
set_from_chain _ (l ∷ ls) chain =
    let others = set_from_chain l.name ls chain.2 in
    ((above_nothing _ _ chain.0, some-from_long _ chain.1, others.1, others.0), (chain.0, StandsBefore-trans _ _ _ chain.0 others.1))

some_length : (value : List ℕ) → value ≢ [] → 0 < length value
some_length [] h = absurd (h refl)
some_length (v ∷ value) h = omega arith

chain_from_set : (before : List ℕ) (ls : List Label) → IsLabelSet ls → StandsBefore before ls → AreChained before ls
chain_from_set _ [] is stands = tt
chain_from_set _ (l ∷ ls) is stands = (stands.0, some_length l.value is.1, chain_from_set l.name ls is.3 is.2)

nothing_before : (name : List ℕ) → name ≢ [] → ComesBefore [] name
nothing_before [] h = absurd (h refl)
nothing_before (n ∷ name) h = refl

all_above_nothing : (ls : List Label) → IsLabelSet ls → StandsBefore [] ls
all_above_nothing [] is = tt
all_above_nothing (l ∷ ls) is = (nothing_before l.name is.0, all_above_nothing ls is.3)

-- ---- labels

pub labels_parts : (symbols : List (List ℕ)) (before : List ℕ) (raw : RawLabel) (others : List RawLabel) (labels : List Label) → labels_of symbols before (raw ∷ others) ≡ Ok labels
    → (label : Label) × (behind : List Label) × (label_of symbols before raw ≡ Ok label) × (labels_of symbols label.name others ≡ Ok behind) × (label ∷ behind ≡ labels)
unfolding labels_of
labels_parts _ _ _ _ _ e =
    let first = bind_ok _ _ _ e in
    let others = bind_ok _ _ _ first.2 in
    (first.0, others.0, first.1, others.1, ok_is {A = List Label} {E = PartRefusal} _ _ others.2)

pub no_labels : (symbols : List (List ℕ)) (before : List ℕ) (labels : List Label) → labels_of symbols before [] ≡ Ok labels → [] ≡ labels
unfolding labels_of
no_labels _ _ _ e = ok_is {A = List Label} {E = PartRefusal} _ _ e

pub labels_found : (symbols : List (List ℕ)) (before : List ℕ) (raws : List RawLabel) (labels : List Label) → labels_of symbols before raws ≡ Ok labels
    → StandFor symbols (names_of raws) (map (λ (l : Label). l.name) labels) × StandFor symbols (values_of raws) (map (λ (l : Label). l.value) labels) × AreChained before labels
labels_found symbols before [] _ e = subst (λ ls. StandFor symbols [] (map (λ l. l.name) ls) × StandFor symbols [] (map (λ l. l.value) ls) × AreChained before ls) (no_labels _ _ _ e) (refl, refl, tt)
labels_found symbols before (raw ∷ others) _ e =
    let p = labels_parts _ _ _ _ _ e in
    let is = label_parts _ _ _ _ p.2 in
    let behind = labels_found symbols p.0.name others p.1 p.3 in
    subst (λ ls. StandFor symbols (names_of (raw ∷ others)) (map (λ l. l.name) ls) × StandFor symbols (values_of (raw ∷ others)) (map (λ l. l.value) ls) × AreChained before ls) p.4
    (cons_same _ _ _ _ is.name_is behind.0, cons_same _ _ _ _ is.value_is behind.1, (is.ascends, is.some, behind.2))

-- labels that were read are a set
pub labels_lawful_read : (symbols : List (List ℕ)) (count : ℕ) (p : Position) (labels : List Label) (q : Position) → texts_at symbols [] count p ≡ Ok (Ok labels, q) → IsLabelSet labels
unfolding texts_at
labels_lawful_read _ count p _ _ e =
    let raws = bind_ok (members_at label_at count p) _ _ e in
    let same = ok_is {E = PartRefusal} _ _ raws.2 in
    (set_from_chain _ _ (labels_found _ _ raws.0.0 _ (ap (λ (r : Result (List Label) PartRefusal × Position). r.0) same)).2).0

pub one_label : (symbols : List (List ℕ)) (before : List ℕ) (raw : RawLabel) (label : Label) → slice_get symbols raw.name.number ≡ Some label.name → slice_get symbols raw.value.number ≡ Some label.value → ComesBefore before label.name → 0 < length label.value → label_of symbols before raw ≡ Ok label
unfolding label_of
one_label _ _ _ label n v ascends some = rw (n, is_lt-from_Less, v, lt-ltb 0 (length label.value) some) refl

labels_joined : (symbols : List (List ℕ)) (before : List ℕ) (raw : RawLabel) (others : List RawLabel) (label : Label) (labels : List Label) → label_of symbols before raw ≡ Ok label → labels_of symbols label.name others ≡ Ok labels → labels_of symbols before (raw ∷ others) ≡ Ok (label ∷ labels)
unfolding labels_of
labels_joined _ _ _ _ _ _ e f = rw (e, f) refl

pub labels_none : (symbols : List (List ℕ)) (before : List ℕ) → labels_of symbols before [] ≡ Ok []
unfolding labels_of
labels_none _ _ = refl

labels_again : (symbols : List (List ℕ)) (before : List ℕ) (raws : List RawLabel) (labels : List Label) → StandFor symbols (names_of raws) (map (λ (l : Label). l.name) labels) → StandFor symbols (values_of raws) (map (λ (l : Label). l.value) labels) → AreChained before labels → labels_of symbols before raws ≡ Ok labels
labels_again _ _ [] [] n v chain = labels_none _ _
labels_again _ _ [] (label ∷ labels) n v chain = absurd cc
labels_again _ _ (raw ∷ others) [] n v chain = absurd cc
labels_again symbols _ (raw ∷ others) (label ∷ labels) n v chain =
    let name_is : slice_get symbols raw.name.number ≡ Some label.name = cc in
    let value_is : slice_get symbols raw.value.number ≡ Some label.value = cc in
    let names_are : StandFor symbols (names_of others) (map (λ (l : Label). l.name) labels) = cc in
    let values_are : StandFor symbols (values_of others) (map (λ (l : Label). l.value) labels) = cc in
    labels_joined _ _ _ _ _ _ (one_label _ _ raw label name_is value_is chain.0 chain.1) (labels_again symbols label.name others labels names_are values_are chain.2)

-- ---- the series

labelled_is : (index : List ℕ) (symbols : List (List ℕ)) (number : ℕ) (series : IndexSeries) → IsBytes index → labelled_at index symbols (16 * number) ≡ Ok series → IsSeriesOf index symbols number series
labelled_is index symbols number series are e =
    let p = labelled_parts _ _ _ _ e in
    let labels = labels_found _ _ _ _ p.labels_are in
    record {
      names = names_of p.raws;
      values = values_of p.raws;
      stands = series_found _ _ _ are p.stands;
      names_are = labels.0;
      values_are = labels.1;
      lawful = (set_from_chain _ _ labels.2).0;
    }

pub numbered_found : (index : List ℕ) (symbols : List (List ℕ)) (number : ℕ) (series : IndexSeries) → IsBytes index → numbered_at index symbols number ≡ Ok series → IsSeriesOf index symbols number series
numbered_found _ _ _ _ are e = labelled_is _ _ _ _ are (refused_as_ok _ _ _ e)

pub numbered_again : (index : List ℕ) (symbols : List (List ℕ)) (number : ℕ) (series : IndexSeries) → IsSeriesOf index symbols number series → numbered_at index symbols number ≡ Ok series
numbered_again index symbols number series is =
    let placed = raw_stands index symbols (16 * number) (record { names = is.names; values = is.values; chunks = series.chunks }) (series_again _ _ _ is.stands) in
    let names_are : StandFor symbols (names_of placed.raws) (map (λ (l : Label). l.name) series.labels) = rw placed.names_are is.names_are in
    let values_are : StandFor symbols (values_of placed.raws) (map (λ (l : Label). l.value) series.labels) = rw placed.values_are is.values_are in
    let labels = labels_again symbols [] placed.raws series.labels names_are values_are (chain_from_set _ _ is.lawful (all_above_nothing _ is.lawful)) in
    rw (placed.read_is, labels) refl
