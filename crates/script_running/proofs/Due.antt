-- Where the full journal broke a worker off, its operation is due, whatever the other workers of the phase came to.
use Rattle.std.proofs.Common.{◌≡◌, ◌≢◌, inl, inr, ℕ, ◌+◌, ◌<◌, ◌≤◌, List, [], ◌∷◌, ◌++◌, length, map, Contains, refl, sym, ◌∙◌, ap, subst, append_assoc, append-nil, arith}
use Rattle.std.specs.Prelude.{Err}
use Rattle.std.specs.List.{All, AllByRecursion}
use Rattle.std.proofs.lemmas.List.Elements.{All-push}
use Rattle.base.proofs.Membership.{contains_first, contains_later, member_cases, no_member}
use Rattle.world_core.specs.Operations.{IsAnswer, IsLawful, entry_of}
use Rattle.world_core.specs.declared.entry.Entry.{Entry}
use Rattle.world_core.specs.declared.op.Op.{Op}
use Rattle.world_core.specs.declared.seen.Seen.{Seen}
use Rattle.world_turn.proofs.Fronts.{of_seat-other, of_seat-own}
use Rattle.world_core.specs.Journals.{of_seat}
use Rattle.script_core.specs.Workers.{workers_of}
use Rattle.script_workers.specs.declared.phase.Phase.{Phase}
use Rattle.script_workers.specs.declared.task.Task.{Task}
use Rattle.script_workers.specs.declared.worker.Worker.{Worker}
use Rattle.lifecycle_core.specs.Conducts.{who_of}
use Rattle.lifecycle_core.specs.Holdings.{Holding, Holdings, holding_of, none_held}
use Rattle.lifecycle_core.specs.Phases.{by_script, by_workers}
use Rattle.lifecycle_core.specs.Setting.{Setting}
use Rattle.lifecycle_core.specs.Tasks.{End}
use Rattle.lifecycle_core.specs.Ways.{BeginsPhase, IsOperationDue, PhasesRun}
use Rattle.lifecycle_core.proofs.phases.Fronts.{IsCutWell}
use Rattle.script_running.specs.Begun.{Made, WasBegun, WasKept, WereBegun, WereKept, ends_in, kept_in, workers_in}
use Rattle.script_running.specs.Cutting.{AreParts, Passed}
use Rattle.script_running.specs.Ended.{AreInRow, HasEnded, HaveEnded}
use Rattle.script_running.specs.Workers.{IsBrokenOff, OwnRun}
use Rattle.script_running.specs.declared.came.Broken.TheVariants as broken
use Rattle.script_running.specs.declared.worker.WorkerEnd.{WorkerEnd}
use Rattle.script_running.proofs.Begun.{begun_more, phases_run, same_seats}
use Rattle.script_running.proofs.Ending.{was_begun, were_kept}

abbrev Kept : Type 0
Kept = ℕ × List Entry

-- what was kept of each worker's seat are its entries of the phase
abbrev AreOwn : List Entry → List Kept → Type 0
AreOwn made kept = AllByRecursion (λ (k : Kept). k.1 ≡ of_seat k.0 made) kept

-- ---- the workers of the phase

-- with one entry more the workers have made runs again
record GoOn (setting : Setting) (tasks : List Task) (before : Holdings) (made : List Made) (e : Entry) : Type 0 where
  pub next : List Made
  pub workers : workers_in next ≡ workers_in made
  pub were : WereKept setting tasks before next
  pub own : (entries : List Entry) → AreOwn entries (kept_in made) → AreOwn (entries ++ e ∷ []) (kept_in next)

-- an operation is due at a seat of the workers
record AreDue (setting : Setting) (tasks : List Task) (before : Holdings) (seat : ℕ) (made : List Made) : Type 0 where
  pub at : ℕ
  pub low : seat ≤ at
  pub among : Contains (map (λ (w : Worker). w.seat) (workers_in made)) at
  pub op : Op
  pub lawful : IsLawful op
  pub on : (seen : Seen) → IsAnswer op seen → GoOn setting tasks before made (entry_of at op seen)

-- workers of later seats have no part in the entry
others_stay : (setting : Setting) (tasks : List Task) (before : Holdings) (seat : ℕ) (made : List Made) (e : Entry) (entries : List Entry) → WereKept setting tasks before made → AreInRow seat (workers_in made) → e.seat < seat
    → AreOwn entries (kept_in made) → AreOwn (entries ++ e ∷ []) (kept_in made)
others_stay setting tasks before seat [] e entries were row less own = tt
others_stay setting tasks before seat (one ∷ made) e entries were row less own =
    let sits : one.kept.0 ≡ seat = (were.0).seat ∙ row.0 in
    let apart : e.seat ≢ one.kept.0 = λ same. absurd (omega (arith, less, same, sits)) in (
      own.0 ∙ sym (of_seat-other one.kept.0 entries e apart),
      others_stay setting tasks before (seat + 1) made e entries were.1 row.1 (omega (arith, less)) own.1,
    )

-- the worker itself
first_due : (setting : Setting) (tasks : List Task) (before : Holdings) (front : List Entry) (seat : ℕ) (one : Made) (made : List Made) (end : WorkerEnd) (others : List WorkerEnd)
    → HasEnded setting tasks before front one end → HaveEnded setting tasks before front made others → AreInRow seat (workers_in (one ∷ made)) → end.came ≡ Err broken.Full → AreDue setting tasks before seat (one ∷ made)
first_due setting tasks before front seat one made end others h have row full =
    let run : List Entry → List End → Holding → Type 0 = OwnRun setting (who_of one.worker) (holding_of before one.worker.gateway) (h.was).own in
    let b = subst (IsBrokenOff run (length (h.was).own) one.worker.seat one.kept.1 one.ends) full h.cut in
    let rest = were_kept setting tasks before front made others have in
    let sits : one.kept.0 ≡ one.worker.seat = (h.was).seat in
    record {
      at = one.worker.seat;
      low = omega (arith, row.0);
      among = contains_first one.worker.seat (map (λ (w : Worker). w.seat) (workers_in made));
      op = (b.1).0;
      lawful = (b.1).1;
      on = λ seen answer.
          let e = entry_of one.worker.seat (b.1).0 seen in
          let next = (b.1).2 seen answer in
          record {
            next = record { worker = one.worker; kept = (one.kept.0, one.kept.1 ++ e ∷ []); ends = (next.0).0; last = (next.0).1 } ∷ made;
            workers = refl;
            were = (record { seat = sits; own = (h.was).own; are = (h.was).are; run = next.1 }, rest);
            own = λ entries own. (
              ap (λ l. l ++ e ∷ []) own.0 ∙ sym (of_seat-own one.kept.0 entries e (sym sits)),
              others_stay setting tasks before (seat + 1) made e entries rest row.1 (omega (arith, row.0)) own.1,
            );
          };
    }

-- a worker behind the first
later_due : (setting : Setting) (tasks : List Task) (before : Holdings) (seat : ℕ) (one : Made) (made : List Made) → WasKept setting tasks before one → one.worker.seat ≡ seat → AreDue setting tasks before (seat + 1) made → AreDue setting tasks before seat (one ∷ made)
later_due setting tasks before seat one made was sits due =
    let above = due.low in
    record {
      at = due.at;
      low = omega (arith, above);
      among = contains_later one.worker.seat due.at (map (λ (w : Worker). w.seat) (workers_in made)) due.among;
      op = due.op;
      lawful = due.lawful;
      on = λ seen answer.
          let e = entry_of due.at due.op seen in
          let g = due.on seen answer in
          let here : one.kept.0 ≡ seat = was.seat ∙ sits in
          let apart : e.seat ≢ one.kept.0 = λ same. absurd (omega (arith, above, same, here)) in
          record {
            next = one ∷ g.next;
            workers = ap (λ (ws : List Worker). one.worker ∷ ws) g.workers;
            were = (was, g.were);
            own = λ entries own. (own.0 ∙ sym (of_seat-other one.kept.0 entries e apart), g.own entries own.1);
          };
    }

are_due : (setting : Setting) (tasks : List Task) (before : Holdings) (front : List Entry) (seat : ℕ) (made : List Made) (others : List WorkerEnd) (end : WorkerEnd)
    → HaveEnded setting tasks before front made others → AreInRow seat (workers_in made) → Contains others end → end.came ≡ Err broken.Full → AreDue setting tasks before seat made
are_due setting tasks before front seat made [] end have row among full = absurd (no_member end among)
are_due setting tasks before front seat [] (o ∷ others) end have row among full = absurd have
are_due setting tasks before front seat (one ∷ made) (o ∷ others) end have row among full = elim (member_cases o end others among) [
  | inl same ↦ first_due setting tasks before front seat one made o others have.0 have.1 row (ap (λ (y : WorkerEnd). y.came) same ∙ full)
  | inr later ↦ later_due setting tasks before seat one made (have.0).was row.0 (are_due setting tasks before front (seat + 1) made others end have.1 row.1 later full)
]

-- ---- the journal

-- an entry of the last phase's workers goes on with the journal
parts_more : (passed : List Passed) (one : Passed) (kept : List Kept) (journal : List Entry) (e : Entry) → AreParts (passed ++ one ∷ []) journal → map (λ (k : Kept). k.0) kept ≡ map (λ (k : Kept). k.0) one.kept → Contains (map (λ (k : Kept). k.0) one.kept) e.seat
    → ((made : List Entry) → AreOwn made one.kept → AreOwn (made ++ e ∷ []) kept) → AreParts (passed ++ record { clock = one.clock; kept = kept } ∷ []) (journal ++ e ∷ [])
parts_more [] one kept journal e (made, others, is, seats, are, none) same among own = (
  made ++ e ∷ [],
  [],
  ap (λ l. l ++ e ∷ []) (is ∙ ap (λ l. one.clock ∷ made ++ l) none ∙ ap (λ l. one.clock ∷ l) (append-nil made)) ∙ sym (ap (λ l. one.clock ∷ l) (append-nil (made ++ e ∷ []))),
  subst (λ (ns : List ℕ). All (λ (x : Entry). Contains ns x.seat) (made ++ e ∷ [])) (sym same) (All-push (λ (x : Entry). Contains (map (λ (k : Kept). k.0) one.kept) x.seat) made e seats among),
  own made are,
  refl,
)
parts_more (p ∷ passed) one kept journal e (made, others, is, seats, are, rest) same among own = (
  made,
  others ++ e ∷ [],
  ap (λ l. l ++ e ∷ []) is ∙ ap (λ l. p.clock ∷ l) (append_assoc made others (e ∷ [])),
  seats,
  are,
  parts_more passed one kept others e rest same among own,
)

pub is_due : (setting : Setting) → IsCutWell (by_script setting) → (after : Holdings) (done left : List Phase) (phase : Phase) (passed : List Passed) (one : Passed) (told : List (List (List End))) (front : List Entry) (seat : ℕ) (made : List Made) (others : List WorkerEnd) (end : WorkerEnd) (journal : List Entry)
    → WereBegun setting 0 none_held done passed told after → BeginsPhase phase one.clock → workers_in made ≡ workers_of setting.script (length done) → kept_in made ≡ one.kept → HaveEnded setting phase.tasks after front made others → AreInRow seat (workers_in made)
    → Contains others end → end.came ≡ Err broken.Full → AreParts (passed ++ one ∷ []) journal → IsOperationDue (by_workers setting) none_held (done ++ phase ∷ left) journal told
is_due setting well after done left phase passed one told front seat made others end journal begun begins staff kept have row among full parts =
    let due = are_due setting phase.tasks after front seat made others end have row among full in
    let kept_seats : map (λ (k : Kept). k.0) one.kept ≡ map (λ (w : Worker). w.seat) (workers_in made) = ap (map (λ (k : Kept). k.0)) (sym kept) ∙ same_seats setting phase.tasks after made (were_kept setting phase.tasks after front made others have) in (
      due.at,
      (
        due.op,
        due.lawful,
        λ seen answer.
            let e = entry_of due.at due.op seen in
            let g = due.on seen answer in
            let next : Passed = record { clock = one.clock; kept = kept_in g.next } in
            let seats : map (λ (k : Kept). k.0) (kept_in g.next) ≡ map (λ (k : Kept). k.0) one.kept = same_seats setting phase.tasks after g.next g.were ∙ ap (map (λ (w : Worker). w.seat)) g.workers ∙ sym kept_seats in
            let first : 0 + length done ≡ length done = omega arith in
            let b = was_begun setting well (length done) phase after next g.next (g.workers ∙ staff) refl begins g.were in
            let all = begun_more setting 0 none_held after b.0 done passed told phase next (ends_in g.next) begun (subst (λ (n : ℕ). WasBegun setting n phase after next (ends_in g.next) b.0) (sym first) b.2) in
            let on = parts_more passed one (kept_in g.next) journal e parts seats (subst (λ (ns : List ℕ). Contains ns due.at) (sym kept_seats) due.among) (λ entries own. g.own entries (subst (AreOwn entries) (sym kept) own)) in (
              ends_in g.next,
              subst (λ (ps : List Phase). PhasesRun (by_workers setting) 0 none_held ps (journal ++ e ∷ []) (told ++ ends_in g.next ∷ [])) (append_assoc done (phase ∷ []) left)
                  (phases_run setting 0 none_held b.0 (done ++ phase ∷ []) left (passed ++ next ∷ []) (told ++ ends_in g.next ∷ []) (journal ++ e ∷ []) all on),
            ),
      ),
    )
