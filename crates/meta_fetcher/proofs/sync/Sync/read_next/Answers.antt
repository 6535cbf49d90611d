use Rattle.std.proofs.Common.{◌∙◌, List, [], ℕ, refl, sym, subst, Some}
use Rattle.std.proofs.lemmas.List.{nil_from_length}
use Rattle.meta_fetcher.specs.Syncs.{reading}
use Rattle.meta_fetcher.specs.SyncStates.{Goes, course_of, sightings_of}
use Rattle.meta_fetcher.proofs.Ascending.{sighted_ascend}
use Rattle.meta_fetcher.proofs.Steps.{over}
use Rattle.meta_fetcher.proofs.sync.Sync.read_next.Goals as goal

pub returns-in-Some-clause-leads : goal.returns-in-Some-clause-leads
returns-in-Some-clause-leads c =
    let s = c.args.self.now in
    record {
      lawful = tt;
      asks = refl;
      onward = λ entries end run.
          subst (λ (l : List ℕ). Goes s.rules (Some (course_of s)) (reading (sightings_of s) l) entries end) (sym c.in-Some.ensures.items) (run [] 0 tt);
    }

pub returns-in_ok-take_view-in-None-clause-leads : goal.returns-in_ok-take_view-in-None-clause-leads
returns-in_ok-take_view-in-None-clause-leads c =
    let s = c.args.self.now in
    over s.rules (course_of s) (sightings_of s) s.waiting.items c.in_ok-take_view-in-None.field-0 (nil_from_length s.waiting.items (sym s.waiting.ok.0 ∙ c.in-None.ensures.cases.0))
    (λ ascend. c.in_ok-take_view-in-None.ensures (sighted_ascend s.found.items ascend))
