-- Tallies to which activities are added.
use Rattle.std.proofs.Common.{◌≡◌, ◌&&◌, ℕ, Bool, true, false, List, [], ◌∷◌, ◌++◌, length, refl, sym, ◌∙◌, ap, ap₂, subst, append_assoc, append-nil, arith}
use Rattle.std.specs.Prelude.{Ok, Err, OnErr, OnOk, Result, take}
use Rattle.std.specs.List.{list_all, sum_by}
use Rattle.std.proofs.lemmas.List.{length-append}
use Rattle.std.proofs.lemmas.List.Concat.{flat_map-append}
use Rattle.std.proofs.lemmas.List.Sums.{sum_by-append}
use Rattle.script_core.specs.declared.script.Script.{Script}
use Rattle.script_workers.specs.declared.task.Task.{Task}
use Rattle.script_running.specs.Outcomes.{Outcome, is_as_asked}
use Rattle.report_lines.proofs.ReportLists.{all_append}
use Rattle.report_lines.specs.Tallies.{AddsUp, AreSums, AreTallied, IsOneMore, amiss_line, amiss_of, answers_in, cleaned_in, collected_in, compacted_in, counts_in, partials_in, plus, rounds_in, total, uploads_in}
use Rattle.report_lines.specs.declared.sums.Sums.{Sums}
use Rattle.report_lines.specs.declared.tally.Tally.{Tally}

-- ---- sums

plus_total : (count : Outcome → ℕ) (first later : List Outcome) (one more both : ℕ) → one ≡ total count first → more ≡ total count later → both ≡ plus one more → both ≡ total count (first ++ later)
plus_total count first later one more both is other sum = omega (arith, sum_by-append count first later, is, other, sum)

both_sums : (one more both : Sums) (first later : List Outcome) → AreSums one first → AreSums more later → AddsUp one more both → AreSums both (first ++ later)
both_sums one more both first later a b add = record {
  uploaded = plus_total uploads_in first later one.uploaded more.uploaded both.uploaded a.uploaded b.uploaded add.uploaded;
  rounds = plus_total rounds_in first later one.rounds more.rounds both.rounds a.rounds b.rounds add.rounds;
  compacted = plus_total compacted_in first later one.compacted more.compacted both.compacted a.compacted b.compacted add.compacted;
  collected = plus_total collected_in first later one.collected more.collected both.collected a.collected b.collected add.collected;
  cleaned = plus_total cleaned_in first later one.cleaned more.cleaned both.cleaned a.cleaned b.cleaned add.cleaned;
  partials = plus_total partials_in first later one.partials more.partials both.partials a.partials b.partials add.partials;
}

one_total : (count : Outcome → ℕ) (o : Outcome) (first : List Outcome) (one more both : ℕ) → one ≡ total count first → more ≡ count o → both ≡ plus one more → both ≡ total count (first ++ o ∷ [])
one_total count o first one more both is other sum = let last : sum_by count (o ∷ []) ≡ count o = omega arith in omega (arith, sum_by-append count first (o ∷ []), last, is, other, sum)

more_sums : (one more both : Sums) (first : List Outcome) (o : Outcome) → AreSums one first → IsOneMore o more → AddsUp one more both → AreSums both (first ++ o ∷ [])
more_sums one more both first o a b add = record {
  uploaded = one_total uploads_in o first one.uploaded more.uploaded both.uploaded a.uploaded b.uploaded add.uploaded;
  rounds = one_total rounds_in o first one.rounds more.rounds both.rounds a.rounds b.rounds add.rounds;
  compacted = one_total compacted_in o first one.compacted more.compacted both.compacted a.compacted b.compacted add.compacted;
  collected = one_total collected_in o first one.collected more.collected both.collected a.collected b.collected add.collected;
  cleaned = one_total cleaned_in o first one.cleaned more.cleaned both.cleaned a.cleaned b.cleaned add.cleaned;
  partials = one_total partials_in o first one.partials more.partials both.partials a.partials b.partials add.partials;
}

-- ---- lines

none_amiss : (script : Script) (tasks : List Task) → amiss_of script tasks [] ≡ []
unfolding amiss_of
none_amiss script [] = refl
none_amiss script (task ∷ tasks) = refl

amiss_append : (script : Script) (done tasks : List Task) (one other : List Outcome) → length one ≡ length done → amiss_of script (done ++ tasks) (one ++ other) ≡ amiss_of script done one ++ amiss_of script tasks other
unfolding amiss_of
amiss_append script [] tasks [] other same = refl
amiss_append script [] tasks (o ∷ os) other same = absurd (omega (arith, same))
amiss_append script (t ∷ ts) tasks [] other same = absurd (omega (arith, same))
amiss_append script (t ∷ ts) tasks (o ∷ os) other same =
    ap (λ text. amiss_line script t.work o ++ text) (amiss_append script ts tasks os other (omega (arith, same)))
    ∙ sym (append_assoc (amiss_line script t.work o) (amiss_of script ts os) (amiss_of script tasks other))

one_amiss : (script : Script) (task : Task) (o : Outcome) → amiss_of script (task ∷ []) (o ∷ []) ≡ amiss_line script task.work o
unfolding amiss_of
one_amiss script task o = append-nil (amiss_line script task.work o)

pub last_flag : (b : Bool) → b && true ≡ b
last_flag true = refl
last_flag false = refl

one_answer : (o : Outcome) → answers_in (o ∷ []) ≡ counts_in o
one_answer o = append-nil (counts_in o)

-- ---- tallies

zero_total : (count : Outcome → ℕ) (n : ℕ) → n ≡ 0 → n ≡ total count []
zero_total count n none = omega (arith, none)

-- before the first task
pub none_tallied : (tally : Tally) (script : Script) → tally.as_asked ≡ true → tally.amiss.items ≡ [] → tally.sums ≡ record { uploaded = 0; rounds = 0; compacted = 0; collected = 0; cleaned = 0; partials = 0 } → tally.answers.items ≡ [] → AreTallied tally script [] []
none_tallied tally script flag lines sums answers = record {
  each = refl;
  flag = flag;
  amiss = lines ∙ sym (none_amiss script []);
  sums = record {
    uploaded = zero_total uploads_in _ (ap (λ s. s.uploaded) sums);
    rounds = zero_total rounds_in _ (ap (λ s. s.rounds) sums);
    compacted = zero_total compacted_in _ (ap (λ s. s.compacted) sums);
    collected = zero_total collected_in _ (ap (λ s. s.collected) sums);
    cleaned = zero_total cleaned_in _ (ap (λ s. s.cleaned) sums);
    partials = zero_total partials_in _ (ap (λ s. s.partials) sums);
  };
  answers = answers;
}

more : (old new : Tally) (script : Script) (task : Task) (o : Outcome) (tasks : List Task) (outcomes : List Outcome) → AreTallied old script tasks outcomes → new.as_asked ≡ old.as_asked && is_as_asked o
    → new.amiss.items ≡ old.amiss.items ++ amiss_line script task.work o → (sums : Sums) × IsOneMore o sums × AddsUp old.sums sums new.sums → new.answers.items ≡ old.answers.items ++ counts_in o → AreTallied new script (tasks ++ task ∷ []) (outcomes ++ o ∷ [])
more old new script task o tasks outcomes are flag lines (sums, one, add) answers = record {
  each = omega (arith, length-append outcomes (o ∷ []), length-append tasks (task ∷ []), are.each);
  flag = flag ∙ ap (λ b. b && is_as_asked o) are.flag ∙ sym (all_append outcomes (o ∷ []) ∙ ap (λ b. list_all is_as_asked outcomes && b) (last_flag (is_as_asked o)));
  amiss = lines ∙ ap₂ (λ (xs ys : _). xs ++ ys) are.amiss (sym (one_amiss script task o)) ∙ sym (amiss_append script tasks (task ∷ []) outcomes (o ∷ []) are.each);
  sums = more_sums old.sums sums new.sums outcomes o are.sums one add;
  answers = answers ∙ ap₂ (λ (xs ys : _). xs ++ ys) are.answers (sym (one_answer o)) ∙ sym (flat_map-append counts_in outcomes (o ∷ []));
}

-- one task more
pub more_tallied : {E : Type 0} (old new : Tally) (script : Script) (task : Task) (o : Outcome) (tasks : List Task) (outcomes : List Outcome) (r : Result (Unit {0}) E) → AreTallied old script tasks outcomes → OnOk r (new.as_asked ≡ old.as_asked && is_as_asked o)
    → OnOk r (new.amiss.items ≡ old.amiss.items ++ amiss_line script task.work o) → OnOk r ((sums : Sums) × IsOneMore o sums × AddsUp old.sums sums new.sums) → OnOk r (new.answers.items ≡ old.answers.items ++ counts_in o)
    → OnOk r (AreTallied new script (tasks ++ task ∷ []) (outcomes ++ o ∷ []))
more_tallied old new script task o tasks outcomes (Ok done) are flag lines sums answers = more old new script task o tasks outcomes are flag lines sums answers
more_tallied old new script task o tasks outcomes (Err e) are flag lines sums answers = tt

joined : (old own new : Tally) (script : Script) (done tasks : List Task) (first later : List Outcome) → AreTallied old script done first → AreTallied own script tasks later → new.as_asked ≡ old.as_asked && own.as_asked
    → new.amiss.items ≡ old.amiss.items ++ own.amiss.items → AddsUp old.sums own.sums new.sums → new.answers.items ≡ old.answers.items ++ own.answers.items → AreTallied new script (done ++ tasks) (first ++ later)
joined old own new script done tasks first later one two flag lines sums answers = record {
  each = omega (arith, length-append first later, length-append done tasks, one.each, two.each);
  flag = flag ∙ ap₂ (λ b c. b && c) one.flag two.flag ∙ sym (all_append first later);
  amiss = lines ∙ ap₂ (λ (xs ys : _). xs ++ ys) one.amiss two.amiss ∙ sym (amiss_append script done tasks first later one.each);
  sums = both_sums old.sums own.sums new.sums first later one.sums two.sums sums;
  answers = answers ∙ ap₂ (λ (xs ys : _). xs ++ ys) one.answers two.answers ∙ sym (flat_map-append counts_in first later);
}

-- the tasks of a phase more
pub joined_tallied : {E : Type 0} (old own new : Tally) (script : Script) (done tasks : List Task) (first later : List Outcome) (r : Result (Unit {0}) E) → AreTallied old script done first → AreTallied own script tasks later → OnOk r (new.as_asked ≡ old.as_asked && own.as_asked)
    → OnOk r (new.amiss.items ≡ old.amiss.items ++ own.amiss.items) → OnOk r (AddsUp old.sums own.sums new.sums) → OnOk r (new.answers.items ≡ old.answers.items ++ own.answers.items)
    → OnOk r (AreTallied new script (done ++ tasks) (first ++ later))
joined_tallied old own new script done tasks first later (Ok fine) one two flag lines sums answers = joined old own new script done tasks first later one two flag lines sums answers
joined_tallied old own new script done tasks first later (Err e) one two flag lines sums answers = tt

-- for want of memory nothing was added
pub kept_tallied : {E : Type 0} (old new : Tally) (script : Script) (done : List Task) (first : List Outcome) (r : Result (Unit {0}) E) → AreTallied old script done first
    → OnErr r ((new.as_asked ≡ old.as_asked) × (new.amiss.items ≡ old.amiss.items) × (new.sums ≡ old.sums) × (new.answers.items ≡ old.answers.items)) → OnErr r (AreTallied new script done first)
kept_tallied old new script done first (Ok fine) are same = tt
kept_tallied old new script done first (Err e) are same = record { each = are.each; flag = same.0 ∙ are.flag; amiss = same.1 ∙ are.amiss; sums = subst (λ s. AreSums s first) (sym same.2) are.sums; answers = same.3 ∙ are.answers }

-- the first of a text and of what was added to it
first_alone : (xs more : List ℕ) → take (length xs) (xs ++ more) ≡ xs
first_alone [] [] = refl
first_alone [] (y ∷ more) = refl
first_alone (x ∷ xs) more = ap (λ (l : List ℕ). x ∷ l) (first_alone xs more)

-- what was added is cut off again
pub cut_text : (old more mid new : List ℕ) (count : ℕ) → count ≡ length old → mid ≡ old ++ more → new ≡ take count mid → new ≡ old
cut_text old more mid new count is added cut = cut ∙ ap (λ (n : ℕ). take n mid) is ∙ ap (take (length old)) added ∙ first_alone old more
