-- Other answers to the query of the script of one block are worth less than is guaranteed.
use Rattle.std.proofs.Common.{◌≡◌, refl, ℕ, pos, List, [], ◌∷◌, All, true, false, arith}
use Rattle.std.proofs.lemmas.List.Elements.{All-head}
use Rattle.std.specs.List.{list_any}
use Rattle.label_sets.specs.Finals.{is_among, without, final_of}
use Rattle.label_sets.specs.Labels.{value_of}
use Rattle.label_sets.specs.Ordered.{in_order, placed}
use Rattle.label_sets.specs.Triples.{Triple, triples_under, has_same_key}
use Rattle.matchers.specs.Selected.{is_selected, selected}
use Rattle.matchers.specs.Selectors.{is_match, accepts, is_accepted, value_or_empty}
use Rattle.store_calls.specs.declared.series_call.SeriesEnd.TheVariants as called
use Rattle.lifecycle_core.specs.Causes.{IsExplained}
use Rattle.lifecycle_core.specs.Completed.{IsUploadedBefore}
use Rattle.lifecycle_core.specs.Guarantees.{IsExact, IsGuaranteed, LeavesNoneOut, Named, NamesAll, NamesUploads}
use Rattle.lifecycle_core.specs.Held.{held, held_by}
use Rattle.lifecycle_core.specs.Phases.{IsInTurn}
use Rattle.tests_worked.proofs.one.OtherReads.{query_came}
use Rattle.lifecycle_core.proofs.journals.Unbroken.{explains_nothing}
use Rattle.tests_worked.specs.LostIndex as lost
use Rattle.tests_worked.specs.OneBlock as one
use Rattle.tests_worked.specs.OneBlockChanged as changed
use Rattle.tests_worked.specs.SmallBlock as small
use Rattle.tests_worked.proofs.one.OneAnswer.{settled}
use Rattle.tests_worked.proofs.one.OneBlock.{first_done}
use Rattle.tests_worked.proofs.one.OneUnbroken.{unbroken}

-- the gateway's part of another answer
abbrev named_with : List ℕ → Named
named_with sources = record { gateway = 0; used = one.used; low = pos 0; high = pos 5000; sources = sources }

pub nothing_leaves_out : ¬ LeavesNoneOut one.setting one.journal changed.nothing_answered
nothing_leaves_out none =
    let first = All-head (NamesAll one.setting one.journal) (named_with []) [] none in
    let among = first small.a settled in omega (arith, among.1)

pub not_exact : ¬ IsExact one.setting changed.nothing_of_block
unfolding held held_by triples_under selected is_selected is_match accepts is_accepted value_or_empty value_of final_of without is_among in_order placed
not_exact exact =
    let no : list_any (has_same_key small.triple) [] ≡ true = All-head (λ (t : Triple). list_any (has_same_key t) [] ≡ true) small.triple [] exact.one_to_one.complete in
    cc (no)

pub strange_refused : ¬ NamesUploads one.setting one.journal changed.strange_source
strange_refused named =
    let all = All-head (λ (n : Named). All (λ ulid. IsUploadedBefore one.setting one.journal ulid n.used.last) n.sources) (named_with (11 ∷ [])) [] named in
    let first = All-head (λ ulid. IsUploadedBefore one.setting one.journal ulid one.used.last) 11 [] all in
    let no : false ≡ true = first.is_declared in
    cc (no)

pub no_cause : (number : ℕ) → ¬ IsExplained one.setting one.journal number
no_cause number = explains_nothing one.setting one.journal number unbroken

-- both phases were done
in_turn : IsInTurn one.setting lost.ends
in_turn = (λ more. first_done, (λ more. absurd (more refl), tt))

pub no_guarantee : ¬ IsGuaranteed one.setting one.journal lost.ends
no_guarantee guaranteed = no_cause 10 (guaranteed.explained in_turn lost.missing 10 (query_came (called.Missing 10)) refl)
