-- Phases that are finished, and those behind which a run was cut off, were done one after another.
use Rattle.std.proofs.Common.{◌≡◌, ℕ, ◌+◌, List, [], ◌∷◌, ◌++◌, length, refl, sym, subst, arith}
use Rattle.world_core.specs.declared.entry.Entry.{Entry}
use Rattle.script_workers.specs.declared.phase.Phase.{Phase}
use Rattle.lifecycle_core.specs.Cuts.{IsCutBehind}
use Rattle.lifecycle_core.specs.Phases.{IsFinished, IsInTurn, by_workers}
use Rattle.lifecycle_core.specs.Setting.{Setting}
use Rattle.lifecycle_core.specs.Tasks.{End}
use Rattle.lifecycle_core.specs.Ways.{AreFinished, AreInTurn, AreUnfinished, Way}

-- no phase more is begun
pub none_turns : {State Ends : Type 0} (way : Way State Ends) (number : ℕ) (left : List Phase) → AreInTurn way number left []
none_turns way number [] = tt
none_turns way number (phase ∷ left) = tt

-- one more is begun, and no other
pub one_turns : {State Ends : Type 0} (way : Way State Ends) (number : ℕ) (phase : Phase) (left : List Phase) (own : Ends) → AreInTurn way number (phase ∷ left) (own ∷ [])
one_turns way number phase left own = (λ more. absurd (more refl), none_turns way (number + 1) left)

pub unfinished_turns : {State Ends : Type 0} (way : Way State Ends) (number : ℕ) (left : List Phase) (untold : List Ends) → AreUnfinished way number left untold → AreInTurn way number left untold
unfinished_turns way number [] [] none = tt
unfinished_turns way number (phase ∷ left) [] none = tt
unfinished_turns way number [] (own ∷ ends) none = absurd none
unfinished_turns {State} {Ends} way number (phase ∷ left) (own ∷ ends) (undone, last) = subst (λ (es : List Ends). AreInTurn way number (phase ∷ left) (own ∷ es)) (sym last) (one_turns way number phase left own)

-- behind phases that are finished
pub turns_behind : {State Ends : Type 0} (way : Way State Ends) (number place : ℕ) (done left : List Phase) (told untold : List Ends) → number + length done ≡ place → AreFinished way number done told → AreInTurn way place left untold → AreInTurn way number (done ++ left) (told ++ untold)
turns_behind {State} {Ends} way number place [] left told untold is finished behind =
    let here : place ≡ number = omega (arith, is) in
    let turns : AreInTurn way number left untold = subst (λ (n : ℕ). AreInTurn way n left untold) here behind in
    subst (λ (es : List Ends). AreInTurn way number left (es ++ untold)) (sym finished) turns
turns_behind way number place (phase ∷ done) left [] untold is finished behind = absurd finished
turns_behind way number place (phase ∷ done) left (first ∷ told) untold is finished behind =
    (λ more. finished.0, turns_behind way (number + 1) place done left told untold (omega (arith, is)) finished.1 behind)

finished_turns : {State Ends : Type 0} (way : Way State Ends) (number : ℕ) (phases : List Phase) (ends : List Ends) → AreFinished way number phases ends → AreInTurn way number phases ends
finished_turns {State} {Ends} way number [] ends finished = subst (λ (es : List Ends). AreInTurn way number [] es) (sym finished) tt
finished_turns way number (phase ∷ phases) [] finished = absurd finished
finished_turns way number (phase ∷ phases) (first ∷ later) finished = (λ more. finished.0, finished_turns way (number + 1) phases later finished.1)

pub finished_in_turn : (setting : Setting) (ends : List (List (List End))) → IsFinished setting ends → IsInTurn setting ends
finished_in_turn setting ends finished = finished_turns (by_workers setting) 0 setting.script.phases ends finished

pub cut_in_turn : (setting : Setting) (journal : List Entry) (done : List Phase) (told : List (List (List End))) (cut : IsCutBehind setting journal done told) → IsInTurn setting (told ++ cut.untold)
cut_in_turn setting journal done told cut =
    subst (λ (ps : List Phase). AreInTurn (by_workers setting) 0 ps (told ++ cut.untold)) (sym cut.phases) (turns_behind (by_workers setting) 0 (length done) done cut.left told cut.untold (omega arith) cut.finished (unfinished_turns (by_workers setting) (length done) cut.left cut.untold cut.unfinished))
