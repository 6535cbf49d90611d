-- Answers that were compared with the first one: together they tell what they told before.
use Rattle.std.proofs.Common.{◌≡◌, inl, inr, ℕ, suc, ◌<◌, List, [], ◌∷◌, ◌++◌, length, get_or, drop, refl, sym, ap, ◌∙◌, subst, arith}
use Rattle.std.specs.Prelude.{All, Contains, remove}
use Rattle.std.specs.List.{find}
use Rattle.std.proofs.lemmas.List.{append-nil, append_assoc}
use Rattle.std.proofs.lemmas.List.Elements.{All-contains, All-contains_itself, All-weaker, Contains-append_left}
use Rattle.base.proofs.Lists.{split_place, take_none}
use Rattle.base.proofs.Membership.{contains_first}
use Rattle.label_sets.specs.Triples.{Triple, has_same_key, triples_of}
use Rattle.querier.specs.declared.answer.Answer.{Answer}
use Rattle.querier.specs.Gathered.{gathered_samples, IsComparedWith, TellTheSame}
use Rattle.querier.proofs.ToldOnce.{gathered_more, told_again, told_more}

pub told_itself : (answers : List Answer) → TellTheSame answers answers
told_itself answers = record {
  nothing_more = All-contains_itself (gathered_samples answers);
  first = λ t. refl;
}

told_through : (answers between told : List Answer) → TellTheSame answers between → TellTheSame between told → TellTheSame answers told
told_through answers between told one other = record {
  nothing_more = All-weaker (Contains (gathered_samples between)) (Contains (gathered_samples told))
      (λ t stands. All-contains (Contains (gathered_samples told)) (gathered_samples between) t other.nothing_more stands) (gathered_samples answers) one.nothing_more;
  first = λ t. one.first t ∙ other.first t;
}

-- an answer that has no series tells nothing
told_empty : (answers told : List Answer) (answer : Answer) → answer.series ≡ [] → TellTheSame answers told → TellTheSame answers (told ++ answer ∷ [])
unfolding triples_of
told_empty answers told answer none same =
    let are : gathered_samples told ≡ gathered_samples (told ++ answer ∷ []) =
    sym (gathered_more told answer ∙ (ap (λ s. gathered_samples told ++ triples_of s) none ∙ append-nil (gathered_samples told))) in
    record {
      nothing_more = subst (λ (ts : List Triple). All (Contains ts) (gathered_samples answers)) are same.nothing_more;
      first = λ t. same.first t ∙ ap (find (has_same_key t)) are;
    }

compared_one : (first : Answer) (before done : List Answer) (old new : Answer) → Contains done first → TellTheSame before done → IsComparedWith first old new → TellTheSame (before ++ old ∷ []) (done ++ new ∷ [])
compared_one first before done old new among same (inl stays) = subst (λ (one : Answer). TellTheSame (before ++ old ∷ []) (done ++ one ∷ [])) (sym stays) (told_more before done old same)
compared_one first before done old new among same (inr (repeats, none)) = told_empty (before ++ old ∷ []) done new none (told_again before done first old same among repeats)

compared_rest : (first : Answer) (before done old new : List Answer) → Contains done first → TellTheSame before done → length new ≡ length old
    → ((i : ℕ) (d : Answer) → i < length old → IsComparedWith first (get_or old i d) (get_or new i d)) → TellTheSame (before ++ old) (done ++ new)
compared_rest first before done [] [] among same many each = subst (λ (xs : List Answer). TellTheSame xs (done ++ [])) (sym (append-nil before)) (subst (TellTheSame before) (sym (append-nil done)) same)
compared_rest first before done [] (n ∷ new) among same many each = absurd (omega (arith, many))
compared_rest first before done (o ∷ old) [] among same many each = absurd (omega (arith, many))
compared_rest first before done (o ∷ old) (n ∷ new) among same many each =
    subst (λ (xs : List Answer). TellTheSame xs (done ++ n ∷ new)) (append_assoc before (o ∷ []) old)
    (subst (TellTheSame ((before ++ o ∷ []) ++ old)) (append_assoc done (n ∷ []) new)
    (compared_rest first (before ++ o ∷ []) (done ++ n ∷ []) old new (Contains-append_left done (n ∷ []) first among) (compared_one first before done o n among same (each 0 o (omega arith)))
    (omega (arith, many)) (λ i d below. each (suc i) d (omega (arith, below)))))

first_and_others : (answers : List Answer) (first : Answer) → 0 < length answers → first ≡ get_or answers 0 first → first ∷ remove answers 0 ≡ answers
first_and_others answers first some is =
    ap (λ (xs : List Answer). first ∷ (xs ++ drop 1 answers)) (take_none answers)
    ∙ sym (split_place answers 0 first some is ∙ ap (λ (xs : List Answer). xs ++ first ∷ drop 1 answers) (take_none answers))

-- the first one is taken out, the others are compared with it, and all are told
pub compared_told : (answers old new told : List Answer) (first : Answer) → 0 < length answers → first ≡ get_or answers 0 first → old ≡ remove answers 0 → length new ≡ length old
    → ((i : ℕ) (d : Answer) → i < length old → IsComparedWith first (get_or old i d) (get_or new i d)) → TellTheSame (first ∷ new) told → TellTheSame answers told
compared_told answers old new told first some is others many each same =
    subst (λ (xs : List Answer). TellTheSame xs told) (ap (λ (xs : List Answer). first ∷ xs) others ∙ first_and_others answers first some is)
    (told_through (first ∷ old) (first ∷ new) told (compared_rest first (first ∷ []) (first ∷ []) old new (contains_first first []) (told_itself (first ∷ [])) many each) same)
