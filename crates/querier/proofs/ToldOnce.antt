-- Answers without those that say what the one before them says: their merge is that of all.
use Rattle.std.proofs.Common.{◌≡◌, inl, inr, Bool, true, List, [], ◌∷◌, ◌++◌, refl, sym, ap, ◌∙◌, subst}
use Rattle.std.specs.Prelude.{All, Contains, Option, Some, None, Result, Ok, Err, IfOk}
use Rattle.std.specs.List.{find, list_any}
use Rattle.std.specs.Option.{option_or}
use Rattle.std.specs.Ordering.{is_eq}
use Rattle.std.proofs.lemmas.List.Elements.{All-append, All-contains, All-contains_itself, All-weaker, Contains-append_left, Contains-append_right}
use Rattle.std.proofs.lemmas.List.Folds.{find-append}
use Rattle.std.proofs.lemmas.List.Concat.{flat_map-append, flat_map-cons}
use Rattle.std.proofs.lemmas.List.{append-nil}
use Rattle.base.proofs.Membership.{member_cases, no_member}
use Rattle.base.proofs.Bools.{Equal-from_is_eq}
use Rattle.label_sets.specs.declared.label.Label.{Label}
use Rattle.label_sets.specs.declared.sample.Sample.{Sample}
use Rattle.label_sets.specs.declared.series.Series.{Series}
use Rattle.label_sets.specs.Labels.{compare_sets}
use Rattle.label_sets.specs.Triples.{Triple, has_same_key, triples_of, IsDeduplication}
use Rattle.label_sets.proofs.LabelValues.{same_set}
use Rattle.vertical_merge.specs.Merged.{IsMerge}
use Rattle.vertical_merge.proofs.Laws.{deduplicates}
use Rattle.querier.specs.declared.answer.Answer.{Answer}
use Rattle.querier.specs.Gathered.{gathered_samples, TellTheSame}

pub merge_told : (answers told : List Answer) (made : List Series) → TellTheSame answers told → IsMerge (gathered_samples told) made → IsMerge (gathered_samples answers) made
merge_told answers told made same merge = record {
  ascending = merge.ascending;
  inhabited = merge.inhabited;
  first = record {
    ascending = merge.first.ascending;
    first = All-weaker (λ t. find (has_same_key t) (gathered_samples told) ≡ Some t) (λ t. find (has_same_key t) (gathered_samples answers) ≡ Some t) (λ t is. same.first t ∙ is) (triples_of made) merge.first.first;
    complete = All-weaker (Contains (gathered_samples told)) (λ t. list_any (has_same_key t) (triples_of made) ≡ true)
        (λ t stands. All-contains (λ u. list_any (has_same_key u) (triples_of made) ≡ true) (gathered_samples told) t merge.first.complete stands) (gathered_samples answers) same.nothing_more;
  };
}

pub told_once : (answers told : List Answer) (made : List Series) → TellTheSame answers told → IsMerge (gathered_samples told) made → IsDeduplication (triples_of made) (gathered_samples answers)
told_once answers told made same merge = deduplicates (gathered_samples answers) (gathered_samples answers) made refl (merge_told answers told made same merge)

pub gathered_more : (answers : List Answer) (answer : Answer) → gathered_samples (answers ++ answer ∷ []) ≡ gathered_samples answers ++ triples_of answer.series
gathered_more answers answer = flat_map-append (λ (one : Answer). triples_of one.series) answers (answer ∷ []) ∙ ap (λ ts. gathered_samples answers ++ ts) (append-nil (triples_of answer.series))

find_more : (p : Triple → Bool) (answers : List Answer) (answer : Answer) → find p (gathered_samples (answers ++ answer ∷ [])) ≡ option_or (find p (gathered_samples answers)) (find p (triples_of answer.series))
find_more p answers answer = ap (find p) (gathered_more answers answer) ∙ find-append p (gathered_samples answers) (triples_of answer.series)

pub told_more : (answers told : List Answer) (answer : Answer) → TellTheSame answers told → TellTheSame (answers ++ answer ∷ []) (told ++ answer ∷ [])
told_more answers told answer same = record {
  nothing_more = subst (λ ts. All (Contains ts) (gathered_samples (answers ++ answer ∷ []))) (sym (gathered_more told answer))
      (subst (All (Contains (gathered_samples told ++ triples_of answer.series))) (sym (gathered_more answers answer))
      (All-append (Contains (gathered_samples told ++ triples_of answer.series)) (gathered_samples answers) (triples_of answer.series)
      (All-weaker (Contains (gathered_samples told)) (Contains (gathered_samples told ++ triples_of answer.series)) (Contains-append_left (gathered_samples told) (triples_of answer.series)) (gathered_samples answers) same.nothing_more)
      (All-weaker (Contains (triples_of answer.series)) (Contains (gathered_samples told ++ triples_of answer.series)) (Contains-append_right (gathered_samples told) (triples_of answer.series)) (triples_of answer.series) (All-contains_itself (triples_of answer.series)))));
  first = λ t. find_more (has_same_key t) answers answer ∙ (ap (λ f. option_or f (find (has_same_key t) (triples_of answer.series))) (same.first t) ∙ sym (find_more (has_same_key t) told answer));
}

or_first : (f g : Option Triple) → option_or (option_or f g) f ≡ option_or f g
or_first (Some t) g = refl
or_first None (Some t) = refl
or_first None None = refl

or_later : (f g h : Option Triple) → option_or g h ≡ g → option_or (option_or f g) h ≡ option_or f g
or_later (Some t) g h same = refl
or_later None g h same = same

find_again : (p : Triple → Bool) (told : List Answer) (last : Answer) → Contains told last → option_or (find p (gathered_samples told)) (find p (triples_of last.series)) ≡ find p (gathered_samples told)
find_again p [] last among = absurd (no_member last among)
find_again p (one ∷ told) last among =
    let parts : find p (gathered_samples (one ∷ told)) ≡ option_or (find p (triples_of one.series)) (find p (gathered_samples told)) = ap (find p) (flat_map-cons (λ (a : Answer). triples_of a.series) one told) ∙ find-append p (triples_of one.series) (gathered_samples told) in
    ap (λ f. option_or f (find p (triples_of last.series))) parts
    ∙ (elim (member_cases one last told among) [
      | inl same ↦ subst (λ (a : Answer). option_or (option_or (find p (triples_of one.series)) (find p (gathered_samples told))) (find p (triples_of a.series)) ≡ option_or (find p (triples_of one.series)) (find p (gathered_samples told))) same (or_first (find p (triples_of one.series)) (find p (gathered_samples told)))
      | inr later ↦ or_later (find p (triples_of one.series)) (find p (gathered_samples told)) (find p (triples_of last.series)) (find_again p told last later)
    ]
    ∙ sym parts)

contains_again : (told : List Answer) (last : Answer) → Contains told last → (t : Triple) → Contains (triples_of last.series) t → Contains (gathered_samples told) t
contains_again [] last among t stands = absurd (no_member last among)
contains_again (one ∷ told) last among t stands = subst (λ ts. Contains ts t) (sym (flat_map-cons (λ (a : Answer). triples_of a.series) one told))
    (elim (member_cases one last told among) [
      | inl same ↦ Contains-append_left (triples_of one.series) (gathered_samples told) t (subst (λ (a : Answer). Contains (triples_of a.series) t) (sym same) stands)
      | inr later ↦ Contains-append_right (triples_of one.series) (gathered_samples told) t (contains_again told last later t stands)
    ])

pub told_again : (answers told : List Answer) (last answer : Answer) → TellTheSame answers told → Contains told last → last.series ≡ answer.series → TellTheSame (answers ++ answer ∷ []) told
told_again answers told last answer same among is = record {
  nothing_more = subst (All (Contains (gathered_samples told))) (sym (gathered_more answers answer))
      (All-append (Contains (gathered_samples told)) (gathered_samples answers) (triples_of answer.series) same.nothing_more
      (subst (λ s. All (Contains (gathered_samples told)) (triples_of s)) is
      (All-weaker (Contains (triples_of last.series)) (Contains (gathered_samples told)) (contains_again told last among) (triples_of last.series) (All-contains_itself (triples_of last.series)))));
  first = λ t. find_more (has_same_key t) answers answer
      ∙ (ap (λ f. option_or f (find (has_same_key t) (triples_of answer.series))) (same.first t)
      ∙ (ap (λ s. option_or (find (has_same_key t) (gathered_samples told)) (find (has_same_key t) (triples_of s))) (sym is)
      ∙ find_again (has_same_key t) told last among));
}

-- ---- in results

pub is_merged : {E : Type 0} (answers items told : List Answer) (r : Result (List Series) E) → items ≡ answers → TellTheSame items told → IfOk r (IsMerge (gathered_samples told)) → IfOk r (IsMerge (gathered_samples answers))
is_merged answers items told (Ok made) is same merge = merge_told answers told made (subst (λ (xs : List Answer). TellTheSame xs told) is same) merge
is_merged answers items told (Err e) is same merge = merge

pub is_deduplicated : {E : Type 0} (answers items told : List Answer) (r : Result (List Series) E) → items ≡ answers → TellTheSame items told → IfOk r (IsMerge (gathered_samples told)) → IfOk r (λ made. IsDeduplication (triples_of made) (gathered_samples answers))
is_deduplicated answers items told (Ok made) is same merge = told_once answers told made (subst (λ (xs : List Answer). TellTheSame xs told) is same) merge
is_deduplicated answers items told (Err e) is same merge = merge

-- ---- series that were compared

abbrev with_both : List Label → List Sample → Series
with_both labels samples = record { labels = labels; samples = samples }

pub same_series : (one other : Series) → is_eq (compare_sets one.labels other.labels) ≡ true → one.samples ≡ other.samples → one ≡ other
same_series one other labels samples =
    ap (λ (l : List Label). with_both l one.samples) (same_set one.labels other.labels (Equal-from_is_eq (compare_sets one.labels other.labels) labels))
    ∙ ap (λ (s : List Sample). with_both other.labels s) samples
