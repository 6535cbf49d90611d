-- Journals that are no run of the script of one block.
use Rattle.std.proofs.Common.{◌≡◌, ◌≢◌, ℕ, List, [], ◌∷◌, ◌++◌, All, Contains, Some, None, refl, sym, ap, subst, ◌∙◌, arith}
use Rattle.std.proofs.lemmas.List.Elements.{All-nil, All-cons, All-head, All-tail}
use Rattle.block_keys.specs.declared.key.Key.TheVariants as key
use Rattle.world_core.specs.declared.entry.Entry.{Entry}
use Rattle.moment_core.specs.declared.moment.Moment.{Moment}
use Rattle.std.specs.List.{AllByRecursion}
use Rattle.world_core.specs.Standing.{IsHonest}
use Rattle.world_core.specs.declared.op.Op.TheVariants as op
use Rattle.script_workers.specs.declared.worker.Worker.{Worker}
use Rattle.world_core.specs.Journals.{of_seat}
use Rattle.lifecycle_core.specs.Holdings.{Holdings, nothing_held}
use Rattle.lifecycle_core.specs.Phases.{IsLawfulJournal, by_workers}
use Rattle.lifecycle_core.specs.Tasks.{End, UploadTask}
use Rattle.lifecycle_core.specs.Ways.{PhasesRun}
use Rattle.tests_worked.proofs.small.Bucket.{shows_meta}
use Rattle.tests_worked.proofs.one.OneBlock.{uploader}
use Rattle.tests_worked.specs.SmallBlock as small
use Rattle.tests_worked.specs.SmallRuns as runs
use Rattle.tests_worked.specs.Entries.{clock, stored, absent, found, listed}
use Rattle.tests_worked.specs.OneBlock as one
use Rattle.tests_worked.specs.OneBlockChanged as changed
use Rattle.tests_worked.proofs.one.OneLater.{no_read_after_absent}
use Rattle.base.proofs.Membership.{only_member}
use Rattle.tests_worked.proofs.one.OneUpload.{BeginsAnew, FirstPhase, second, first_phase_of, stays, upload_of, uploads_of, first_is_look, second_is_put}
use Rattle.tests_worked.proofs.small.Each.{workers_seats}

pub no_look_refused : (rest : List Entry) → ¬ IsLawfulJournal one.setting (changed.no_look ++ rest)
no_look_refused rest lawful =
    let put : Entry = stored 2 1 1 (key.Segment small.a 1) small.segment in
    let phase = first_phase_of (clock 1 0) (put ∷ rest) lawful in
    let own = stays phase.1 phase.0 put rest phase.3.parts phase.3.anew (λ moment is. cc (is)) in
    let upload = upload_of phase.1 phase.3.ends phase.2 phase.3.run in
    let uploads = uploads_of put (of_seat 1 own.0) upload.0 (subst (λ es. UploadTask one.setting small.a None (of_seat 1 es) upload.0) {y = put ∷ own.0} own.1 upload.1) in
    cc (first_is_look put (of_seat 1 own.0) uploads)

pub index_first_refused : (rest : List Entry) → ¬ IsLawfulJournal one.setting (changed.index_first ++ rest)
index_first_refused rest lawful =
    let look : Entry = absent 2 1 1 (key.Meta small.a) in
    let put : Entry = stored 3 1 2 (key.Index small.a) small.index in
    let phase = first_phase_of (clock 1 0) (look ∷ put ∷ rest) lawful in
    let own = stays phase.1 phase.0 look (put ∷ rest) phase.3.parts phase.3.anew (λ moment is. cc (is)) in
    let two = stays own.0 phase.0 put rest own.2 phase.3.anew (λ moment is. cc (is)) in
    let upload = upload_of phase.1 phase.3.ends phase.2 phase.3.run in
    let made : phase.1 ≡ look ∷ put ∷ two.0 = cc (own.1, two.1) in
    let uploads = uploads_of look (put ∷ of_seat 1 two.0) upload.0 (subst (λ es. UploadTask one.setting small.a None (of_seat 1 es) upload.0) {y = look ∷ put ∷ two.0} made upload.1) in
    cc (second_is_put look put (of_seat 1 two.0) refl uploads)

pub seat_refused : (rest : List Entry) → ¬ IsLawfulJournal one.setting (changed.at_gateways_seat ++ rest)
seat_refused rest lawful =
    let look : Entry = absent 2 2 1 (key.Meta small.a) in
    let puts : List Entry = stored 3 2 2 (key.Segment small.a 1) small.segment ∷ stored 4 2 3 (key.Index small.a) small.index ∷ stored 5 2 4 (key.Meta small.a) small.meta ∷ rest in
    let phase = first_phase_of (clock 1 0) (look ∷ puts) lawful in
    let one = stays phase.1 phase.0 look puts phase.3.parts phase.3.anew (λ moment is. cc (is)) in
    let first : Contains {X = ℕ} (1 ∷ []) 2 = All-head (λ (e : Entry). Contains (1 ∷ []) e.seat) look one.0 (subst (All (λ (e : Entry). Contains (1 ∷ []) e.seat)) one.1 (workers_seats (1 ∷ []) phase.1 phase.3.run.seats)) in
    let same : 1 ≡ 2 = only_member 1 2 first in
    omega (arith, same)

pub clock_refused : (rest : List Entry) → ¬ IsLawfulJournal one.setting (changed.clock_stands ++ rest)
clock_refused rest lawful =
    let reads : List Entry = absent 8 2 1_800_001 (key.Mark small.a) ∷ found 9 2 1_800_002 (key.Meta small.a) small.meta ∷ rest in
    let moves : 1_800_000 ≡ 1_800_001 = lawful.1.kept.moments (clock 1 0 ∷ one.upload ++ clock 6 1_800_000 ∷ []) reads (listed 7 2 1_800_000 (small.a_text ∷ [])) refl in
    omega (arith, moves)

-- ---- a query that reads a block whose meta was absent

-- the clock's setting is no worker's
no_clock : (left others : List Entry) (tail : List Entry) → clock 6 1_800_000 ∷ tail ≡ left ++ others → All (λ (e : Entry). Contains (1 ∷ []) e.seat) left → left ≡ []
no_clock [] others tail is seats = refl
no_clock (x ∷ left) others tail is seats =
    let same : clock 6 1_800_000 ≡ x = cc (is) in
    let seat : 1 ≡ x.seat = only_member 1 x.seat (All-head (λ (e : Entry). Contains (1 ∷ []) e.seat) x left seats) in
    absurd (omega (arith, seat, ap (λ (e : Entry). e.seat) same))

-- the entry sets no clock
abbrev IsOther : Entry → Type 0
IsOther e = (moment : Moment) → e.op ≡ op.Clock moment → ⊥

-- entries that set no clock belong to the phase
all_stay : (P : Entry → Type 0) (entries tail made others : List Entry) → entries ++ tail ≡ made ++ others → BeginsAnew others → AllByRecursion IsOther entries → All P made
    → (left : List Entry) × (tail ≡ left ++ others) × All P left
all_stay P [] tail made others is anew other seats = (made, is, seats)
all_stay P (e ∷ entries) tail made others is anew other seats =
    let one = stays made others e (entries ++ tail) is anew other.0 in
    all_stay P entries tail one.0 others one.2 anew other.1 (All-tail P e one.0 (subst (All P) one.1 seats))

after_upload : (made others tail : List Entry) → one.upload ++ clock 6 1_800_000 ∷ tail ≡ made ++ others → BeginsAnew others → All (λ (e : Entry). Contains (1 ∷ []) e.seat) made
    → others ≡ clock 6 1_800_000 ∷ tail
after_upload made others tail is anew seats =
    let rest = all_stay (λ (e : Entry). Contains (1 ∷ []) e.seat) one.upload (clock 6 1_800_000 ∷ tail) made others is anew (λ m h. cc (h), (λ m h. cc (h), (λ m h. cc (h), (λ m h. cc (h), tt)))) seats in
    let none = no_clock rest.0 others tail rest.1 rest.2 in
    cc (rest.1, ap (λ es. es ++ others) none)

second_begins : (entries others made : List Entry) (after : Holdings) (tail : List Entry) → FirstPhase entries others made after → entries ≡ one.upload ++ clock 6 1_800_000 ∷ tail
    → (ends : List (List (List End))) × PhasesRun (by_workers one.setting) 1 after (second ∷ []) (clock 6 1_800_000 ∷ tail) ends × (after 0 ≡ nothing_held)
second_begins entries others made after tail phase is =
    let next = after_upload made others tail (sym is ∙ phase.parts) phase.anew (workers_seats (1 ∷ []) made phase.run.seats) in
    let none = phase.run.kept 0 (All-cons (λ (w : Worker). w.gateway ≢ Some 0) uploader [] (λ h. cc (h)) (All-nil (λ (w : Worker). w.gateway ≢ Some 0))) in
    (phase.later.0, subst (λ (es : List Entry). PhasesRun (by_workers one.setting) 1 after (second ∷ []) es phase.later.0) next phase.later.1, none)

abbrev after_clock : List Entry → List Entry
after_clock rest =
    listed 7 2 1_800_001 (small.a_text ∷ []) ∷ absent 8 2 1_800_002 (key.Mark small.a) ∷ absent 9 2 1_800_003 (key.Meta small.a) ∷ runs.contents_read 10 2 1_800_004 ∷ rest

pub meta_absent_refused : (rest : List Entry) → ¬ IsLawfulJournal one.setting (changed.meta_absent ++ rest)
meta_absent_refused rest lawful =
    let phase = first_phase_of (clock 1 0) (one.upload ++ clock 6 1_800_000 ∷ after_clock rest) lawful in
    let later = second_begins (one.upload ++ clock 6 1_800_000 ∷ after_clock rest) phase.0 phase.1 phase.2 (after_clock rest) phase.3 refl in
    no_read_after_absent phase.2 later.2 (clock 6 1_800_000) rest later.0 later.1

-- ---- and no honest bucket shows it

pub meta_absent_is_a_lie : (rest : List Entry) → ¬ IsHonest (changed.meta_absent ++ rest)
meta_absent_is_a_lie rest honest =
    let told = honest (clock 1 0 ∷ one.upload ++ clock 6 1_800_000 ∷ listed 7 2 1_800_001 (small.a_text ∷ []) ∷ absent 8 2 1_800_002 (key.Mark small.a) ∷ []) (runs.contents_read 10 2 1_800_004 ∷ rest) (absent 9 2 1_800_003 (key.Meta small.a)) refl in
    cc (told, shows_meta)
