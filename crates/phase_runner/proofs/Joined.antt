-- After a phase every seat was joined, if it was so before.
use Rattle.std.proofs.Common.{◌≡◌, ℕ, suc, ◌+◌, ◌<◌, ◌≤◌, ◌++◌, List, [], ◌∷◌, length, sym, ap, ◌∙◌, subst, arith, map}
use mathlib.Core.Logic.{dite}
use native.Mathlib.Decide.{dec_le}
use Rattle.world_core.specs.declared.entry.Entry.{Entry}
use Rattle.std.specs.Prelude.{Contains}
use Rattle.std.proofs.lemmas.List.Elements.{Contains-append_left, Contains-append_right}
use mathlib.Core.List.{map-append}
use Rattle.world_turn.specs.Closing.{AllJoined}
use Rattle.world_turn.specs.Passes.{view_of}
use Rattle.world_turn.specs.declared.pass.Pass.{Pass}
use Rattle.phase_runner.specs.Phases.{HasSplit, HasJoined, Runs}
use Rattle.phase_runner.specs.Works.{Meaning}

abbrev seats_of : List (ℕ × List Entry) → List ℕ
seats_of kept = map (λ k. k.0) kept

module _ {J E : Type 0} (may : Meaning J E) where
  runs_have : (above : ℕ) (front : List Entry) (seat : ℕ) (jobs : List J) (ends : List E) (kept : List (ℕ × List Entry)) → Runs may above front seat jobs ends kept → (n : ℕ) → seat ≤ n → n < seat + length jobs → Contains (seats_of kept) n
  runs_have above front seat [] ends kept r n a b = absurd (omega arith)
  runs_have above front seat (j ∷ js) [] kept r n a b = absurd r
  runs_have above front seat (j ∷ js) (e ∷ es) [] r n a b = absurd r
  runs_have above front seat (j ∷ js) (e ∷ es) (k ∷ ks) r n a b = dite (dec_le (seat + 1) n)
      (λ more. let h = runs_have above front (seat + 1) js es ks r.1 n more (omega arith) in (suc h.0, (let l = h.1 in omega arith), h.2))
      (λ less. (0, omega arith, r.0.seated ∙ omega arith))

  pub all_joined : (above : ℕ) (front : List Entry) (first mid last : Pass) (count : ℕ) (jobs : List J) (ends : List E) (kept : List (ℕ × List Entry)) → first.seat ≡ 0 → length jobs ≡ count → HasSplit first mid count → HasJoined mid last kept
      → Runs may above front (first.splits + 1) jobs ends kept → AllJoined (view_of first) → AllJoined (view_of last)
  all_joined above front first mid last count jobs ends kept z len s j r all n some below =
      let a : (view_of last).seats ≡ last.splits + 1 = last.rests.counts j.root in
      let b : (view_of first).seats ≡ first.splits + 1 = first.rests.counts z in
      let c = j.splits in
      let d = s.splits in
      let is : seats_of (view_of last).joined ≡ seats_of (view_of first).joined ++ seats_of kept =
      ap seats_of (j.joined ∙ ap (λ l. l ++ kept) s.joined) ∙ map-append (λ (k : ℕ × List Entry). k.0) (view_of first).joined kept in
      subst (λ l. Contains l n) (sym is)
      (dite (dec_le (first.splits + 1) n)
      (λ late. Contains-append_right (seats_of (view_of first).joined) (seats_of kept) n (runs_have above front (first.splits + 1) jobs ends kept r n late (omega arith)))
      (λ early. Contains-append_left (seats_of (view_of first).joined) (seats_of kept) n (all n some (omega arith))))
