-- Labels whose texts are looked up and added to a set, one behind another.
use Rattle.std.proofs.Common.{◌≡◌, ◌≢◌, ◌⊎◌, inl, inr, ℕ, ◌+◌, ◌<◌, ◌≤◌, List, [], ◌∷◌, ◌++◌, length, drop, get_or, Some, None, Result, Ok, Err, refl, sym, ap, ap₂, ◌∙◌, subst, append-nil, arith}
use Rattle.std.specs.Prelude.{IsOk}
use Rattle.std.specs.Result.{result_ok}
use Rattle.std.proofs.lemmas.List.{drop_more, drop_all}
use Rattle.base.specs.Reading.{◌>>=◌}
use Rattle.base.proofs.Binds.{ok_is}
use Rattle.label_sets.specs.declared.label.Label.{Label}
use Rattle.label_sets.specs.declared.label_refusal.LabelRefusal.{LabelRefusal}
use Rattle.label_sets.specs.Labels.{ComesBefore, added}
use Rattle.label_sets.proofs.LabelValues.{before_trans, above_nothing}
use Rattle.index_v2.specs.SeriesLabels.{label_of, labels_of, unplaced, all_unplaced}
use Rattle.index_v2.proofs.LabelReading.{label_parts, again, moved, one_more, none_more}
use Rattle.index_v2.proofs.LabelsOwned.{AllBefore, some_bytes, no_value, placed_last}
use Rattle.index_v2.proofs.LabelLaws.{labels_none}
use Rattle.base.proofs.Lists.{some-from_long}

-- ---- a label behind those of a set

-- each of the labels has this name at most
abbrev pub UpTo : List ℕ → List Label → Type 0
UpTo name [] = Unit {0}
UpTo name (l ∷ ls) = ((l.name ≡ name) ⊎ ComesBefore l.name name) × UpTo name ls

below : (before name : List ℕ) (ls : List Label) → ComesBefore before name → UpTo before ls → AllBefore name ls
below before name [] less up = tt
below before name (l ∷ ls) less (inl same, others) = (subst (λ (n : List ℕ). ComesBefore n name) (sym same) less, below before name ls less others)
below before name (l ∷ ls) less (inr lesser, others) = (before_trans l.name before name lesser less, below before name ls less others)

up_to : (name : List ℕ) (ls : List Label) (l : Label) → l.name ≡ name → AllBefore name ls → UpTo name (ls ++ l ∷ [])
up_to name [] l is all = (inl is, tt)
up_to name (m ∷ ls) l is all = (inr all.0, up_to name ls l is all.1)

added_last : (ls : List Label) (l : Label) → AllBefore l.name ls → l.name ≢ [] → l.value ≢ [] → added ls l.name l.value ≡ Ok (ls ++ l ∷ [])
unfolding added
added_last ls l all named valued = rw (some_bytes l.name named, some_bytes l.value valued, no_value ls l.name all, placed_last ls l all) refl

-- ---- the loop over symbol numbers

-- labels before those that follow
abbrev behind : {E : Type 0} → List Label → Result (List Label) E → Result (List Label) E
behind front r = r >>= λ others. Ok (front ++ others)

refused_at : {A E : Type 0} (r : Result A E) → None ≡ result_ok r → (e : E) × (r ≡ Err e)
refused_at (Ok x) none = absurd (cc (none))
refused_at (Err e) none = (e, refl)

read_as : {A E : Type 0} (r : Result A E) (x : A) → Some x ≡ result_ok r → r ≡ Ok x
read_as (Ok y) x some = cc (some)
read_as (Err e) x some = absurd (cc (some))

-- The labels are those of the front of the numbers: with what the numbers from this place on give, they are the whole.
pub record AreNamed (symbols : List (List ℕ)) (names values before : List ℕ) (place : ℕ) (labels : List Label) : Type 0 where
  pub whole : labels_of symbols [] (all_unplaced names values) ≡ (labels_of symbols before (all_unplaced (drop place names) (drop place values)) >>= λ others. Ok (labels ++ others))
  pub up : UpTo before labels

module _ (symbols : List (List ℕ)) (names values : List ℕ) where
  pub named_begin : (before : List ℕ) (labels : List Label) → before ≡ [] → labels ≡ [] → AreNamed symbols names values before 0 labels
  named_begin before labels first none = rw (first, none) (record { whole = again (labels_of symbols [] (all_unplaced names values)); up = tt })

  module _ (before : List ℕ) (place : ℕ) (labels : List Label) (far : AreNamed symbols names values before place labels) where
    named_all : length names ≤ place → labels_of symbols [] (all_unplaced names values) ≡ Ok labels
    named_all le =
        far.whole ∙ ap (behind labels)
        (ap (λ (l : List ℕ). labels_of symbols before (all_unplaced l (drop place values))) (drop_all place names le) ∙ labels_none symbols before) ∙ ap Ok (append-nil labels)

    pub named_end : length names ≤ place → Some labels ≡ result_ok (labels_of symbols [] (all_unplaced names values))
    named_end le = sym (ap result_ok (named_all le))

    module _ (name value : ℕ) (lt : place < length names) (many : length names ≡ length values) (name_is : name ≡ get_or names place 0) (value_is : value ≡ get_or values place 0) where
      next_pair : labels_of symbols before (all_unplaced (drop place names) (drop place values)) ≡ labels_of symbols before (unplaced name value ∷ all_unplaced (drop (place + 1) names) (drop (place + 1) values))
      next_pair =
          ap₂ (λ (ns vs : List ℕ). labels_of symbols before (all_unplaced ns vs)) (drop_more names place 0 lt ∙ ap (λ (n : ℕ). n ∷ drop (place + 1) names) (sym name_is))
          (drop_more values place 0 (omega (arith, lt, many)) ∙ ap (λ (n : ℕ). n ∷ drop (place + 1) values) (sym value_is))

      pub named_refused : None ≡ result_ok (label_of symbols before (unplaced name value)) → None ≡ result_ok (labels_of symbols [] (all_unplaced names values))
      named_refused none =
          let e = refused_at (label_of symbols before (unplaced name value)) none in
          sym (ap result_ok (far.whole ∙ ap (behind labels)
          (next_pair ∙ none_more symbols before (unplaced name value) (all_unplaced (drop (place + 1) names) (drop (place + 1) values)) e.0 e.1)))

      module _ (label : Label) (some : Some label ≡ result_ok (label_of symbols before (unplaced name value))) where
        found : label_of symbols before (unplaced name value) ≡ Ok label
        found = read_as (label_of symbols before (unplaced name value)) label some

        added_is : added labels label.name label.value ≡ Ok (labels ++ label ∷ [])
        added_is =
            let is = label_parts symbols before (unplaced name value) label found in
            added_last labels label (below before label.name labels is.ascends far.up) (above_nothing before label.name is.ascends) (some-from_long label.value is.some)

        -- the set has room for it
        pub has_room : IsOk (added labels label.name label.value)
        has_room = subst IsOk (sym added_is) refl

        pub named_step : (new : List Label) (next : ℕ) → added labels label.name label.value ≡ Ok new → next ≡ place + 1 → AreNamed symbols names values label.name next new
        named_step new next adds next_is =
            let is = label_parts symbols before (unplaced name value) label found in
            let new_is : new ≡ labels ++ label ∷ [] = ok_is {E = LabelRefusal} _ _ (sym adds ∙ added_is) in
            rw (next_is, new_is) (record {
              whole =
                  far.whole ∙ ap (behind labels)
                  (next_pair ∙ one_more symbols before (unplaced name value) (all_unplaced (drop (place + 1) names) (drop (place + 1) values)) label found) ∙ moved _ label labels;
              up = up_to label.name labels label refl (below before label.name labels is.ascends far.up);
            })
