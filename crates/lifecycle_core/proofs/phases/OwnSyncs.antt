-- Where a gateway's tasks have come to their ends, each of its syncs that gave a view is one of them. So the view that it holds is
-- that of its last sync that gave one.
use Rattle.base.proofs.Membership.{contains_first, into_filter, member_cases, no_member, of_filter, of_map}
use Rattle.std.proofs.Common.{◌≡◌, ◌≢◌, ◌⊎◌, inl, inr, ℕ, ◌+◌, ◌<◌, ◌≤◌, ◌==◌, IsTrue, List, [], ◌∷◌, ◌++◌, length, map, Contains, Option, Some, None, refl, sym, ◌∙◌, ap, subst, append_assoc, append-nil, arith}
use Rattle.std.specs.Prelude.{option_map}
use Rattle.std.specs.List.{All}
use Rattle.std.proofs.lemmas.Bool.{cases_lt}
use Rattle.std.proofs.lemmas.Bool.Decides.{nat_tests}
use Rattle.std.proofs.lemmas.List.{length-append}
use Rattle.std.proofs.lemmas.List.Elements.{All-append, All-cons, All-contains, All-contains_itself, All-nil, All-weaker, Contains-append_cases, Contains-append_left, Contains-append_right, filter-append}
use Rattle.world_core.specs.declared.entry.Entry.{Entry}
use Rattle.world_core.specs.declared.op.Op.TheVariants as op
use Rattle.world_core.proofs.PlanLaws.{once}
use Rattle.meta_fetcher.specs.Syncs.{SyncRun, sync}
use Rattle.meta_fetcher.specs.declared.rules.SyncRules.{SyncRules}
use Rattle.meta_fetcher.specs.declared.sync.SyncEnd.{SyncEnd}
use Rattle.meta_fetcher.specs.declared.sync.SyncEnd.TheVariants as fetched
use Rattle.meta_fetcher.specs.declared.view.View.{View}
use Rattle.store_ranges.specs.Reads.{Query as Question}
use Rattle.store_calls.specs.Asking.{IsReadOf, IsReadOfOne}
use Rattle.store_calls.specs.SeriesCalls.{to_read}
use Rattle.store_calls.proofs.CallLaws.{call_asks}
use Rattle.script_core.specs.Lawful.{IsLawfulScript}
use Rattle.script_core.specs.Workers.{workers_of}
use Rattle.script_workers.specs.declared.task.Task.{Task}
use Rattle.script_workers.specs.Works.{asks_all}
use Rattle.script_workers.specs.declared.work.Work.{Work}
use Rattle.script_workers.specs.declared.work.Work.TheVariants.{Upload, Sync, Compact, Clean, Query}
use Rattle.script_workers.specs.declared.worker.Worker.{Worker}
use Rattle.lifecycle_core.specs.Breaches.{IsSeatOf, IsSyncIn}
use Rattle.world_core.specs.Journals.{of_seat}
use Rattle.lifecycle_core.specs.Conducts.{PhaseRun, Who}
use Rattle.lifecycle_core.specs.Holdings.{Holding, Holdings, Use}
use Rattle.lifecycle_core.specs.Phases.{by_script}
use Rattle.lifecycle_core.specs.Setting.{Setting}
use Rattle.lifecycle_core.specs.SyncsAndCalls.{IsSyncBy}
use Rattle.lifecycle_core.specs.Tasks.{End, QueryTask, TaskRun, ask_to, last_number, sync_rules, synced, synced_with}
use Rattle.lifecycle_core.proofs.deeds.Orders.{front_is_earlier}
use Rattle.lifecycle_core.proofs.journals.OneViewAt.{last_of, of_journal}
use Rattle.lifecycle_core.proofs.journals.Positions.{stands_in}
use Rattle.lifecycle_core.proofs.journals.Told.{Rises}
use Rattle.lifecycle_core.proofs.phases.Fronts.{AreApart, apart_of}
use Rattle.lifecycle_core.proofs.phases.GatewayParts.{part_entries, query_is}
use Rattle.lifecycle_core.proofs.phases.OneSeat.{one_worker, seat_above}
use Rattle.lifecycle_core.proofs.phases.Stretches.{Follows, all_left, all_of_seat, all_right, no_listing, rises_filter, rises_left}
use Rattle.lifecycle_core.proofs.phases.TaskRuns.{task_leaves}
use Rattle.lifecycle_core.proofs.phases.WholeSeats.{clock_apart, quiet_phase}
use Rattle.lifecycle_core.proofs.views.Alone.{cut_front}
use Rattle.lifecycle_core.proofs.views.OneOpening.{sync_begins}
use Rattle.lifecycle_core.proofs.views.SyncEnds.{sync_tells}
use Rattle.lifecycle_core.proofs.deeds.ActingDeeds.{rises_apart, other_first}

-- a worker of this gateway may have the task: a sync is its gateway's, and a query is any gateway's
abbrev pub IsFitFor : Option ℕ → Work → Type 0
IsFitFor by (Upload ulid stop) = by ≡ None
IsFitFor by (Sync gateway) = by ≡ Some gateway
IsFitFor by (Compact stop) = by ≡ None
IsFitFor by (Clean stop) = by ≡ None
IsFitFor by (Query low high selector) = Unit {0}

pub asking_fits : (by : Option ℕ) (w : Work) → IsTrue (asks_all w) → IsFitFor by w
asking_fits by (Upload ulid stop) is = absurd (cc (is))
asking_fits by (Sync gateway) is = absurd (cc (is))
asking_fits by (Compact stop) is = absurd (cc (is))
asking_fits by (Clean stop) is = absurd (cc (is))
asking_fits by (Query low high selector) is = tt

-- the entry reads the index or the segments of a block
abbrev pub ReadsABlock : Entry → Type 0
ReadsABlock e = (ulid : ℕ) × IsReadOf ulid e.op

-- ---- lists in two parts

head_of : (n rest after : List Entry) (x : Entry) → x ∷ rest ≡ n ++ after → 1 ≤ length n → (back : List Entry) × (n ≡ x ∷ back)
head_of [] rest after x is some = absurd (omega (arith, some))
head_of (y ∷ n) rest after x is some = let same : y ≡ x = cc (is) in (n, ap (λ (z : Entry). z ∷ n) same)

in_first : (c : List Entry) (x : Entry) (d a b : List Entry) → c ++ x ∷ d ≡ a ++ b → length c < length a → Contains a x
in_first c x d a b is less =
    let one = cut_front c (x ∷ d) a b is (omega (arith, less)) in
    let long : length a ≡ length c + length one.0 = ap (length {A = Entry}) one.1 ∙ length-append c one.0 in
    let head = head_of one.0 d b x one.2 (omega (arith, long, less)) in
    subst (λ (es : List Entry). Contains es x) (sym (one.1 ∙ ap (λ (es : List Entry). c ++ es) head.1)) (stands_in c head.0 x)

in_last : (c : List Entry) (x : Entry) (d a b : List Entry) → c ++ x ∷ d ≡ a ++ b → length a ≤ length c → Contains b x
in_last c x d a b is less =
    let one = cut_front a b c (x ∷ d) (sym is) less in
    subst (λ (es : List Entry). Contains es x) (sym one.2) (stands_in one.0 d x)

none_of : (m : List Entry) → length m ≡ 0 → m ≡ []
none_of [] none = refl
none_of (x ∷ m) none = absurd (omega (arith, none))

some_of : (m : List Entry) → 1 ≤ length m → (x : Entry) × (back : List Entry) × (m ≡ x ∷ back)
some_of [] some = absurd (omega (arith, some))
some_of (x ∷ m) some = (x, m, refl)

-- ---- numbers

member_below : (a b : List Entry) → Rises (a ++ b) → (x : Entry) → Contains a x → All (λ (e : Entry). x.seq < e.seq) b
member_below a b rises x among = All-weaker (Contains b) (λ (e : Entry). x.seq < e.seq) (λ e behind. rises_apart a b rises x e among behind) b (All-contains_itself b)

-- a number is below those of entries that rise, or the first is not above it
below_or : (es : List Entry) → Rises es → (n : ℕ) → All (λ (e : Entry). n < e.seq) es ⊎ ((e : Entry) × (back : List Entry) × (es ≡ e ∷ back) × (e.seq ≤ n))
below_or [] rises n = inl (All-nil (λ (e : Entry). n < e.seq))
below_or (e ∷ es) rises n = elim (cases_lt n e.seq) [
  | inl less ↦ inl (All-cons (λ (x : Entry). n < x.seq) e es less (All-weaker (Follows e) (λ (x : Entry). n < x.seq) (λ x follows. omega (arith, less, follows.0)) es rises.0))
  | inr most ↦ inr (e, es, refl, most)
]

-- no entry of a sync that gave a view is later than its last
pub upto_last : (rules : SyncRules) (entries : List Entry) (view : View) → SyncRun rules entries (Some (fetched.View view)) → Rises entries → (e : Entry) → Contains entries e → e.seq ≤ last_number entries
upto_last rules entries view run rises e among =
    let l = last_of rules entries view run in
    elim (Contains-append_cases l.front (l.entry ∷ []) e (subst (λ (es : List Entry). Contains es e) l.parts among)) [
      | inl front ↦ let less = front_is_earlier l.front [] l.entry e (subst Rises l.parts rises) front in omega (arith, less.0, l.number)
      | inr last ↦ elim (member_cases l.entry e [] last) [ inl same ↦ omega (arith, ap (λ (z : Entry). z.seq) same, l.number) | inr none ↦ absurd (no_member e none) ]
    ]

-- ---- the syncs of a seat

module _ (setting : Setting) (journal : List Entry) (rises : Rises journal) (own seat : ℕ) where
  abbrev rules : SyncRules
  rules = sync_rules setting own

  -- a sync of a seat that gave a view, into which no earlier one reaches
  pub record IsAt (n : ℕ) (others : List Entry) (other : View) : Type 0 where
    pub sync : IsSyncBy rules journal n others (Some (fetched.View other))
    pub alone : (o : List Entry) (end : Option SyncEnd) → (t : IsSyncBy rules journal n o end) → length t.before < length sync.before → length t.before + length o ≤ length sync.before

  -- none of them goes over this place of the seat's entries
  abbrev pub NoneOver : ℕ → Type 0
  NoneOver place = (others : List Entry) (other : View) → (y : IsAt seat others other) → length y.sync.before < place → length y.sync.before + length others ≤ place

  -- these entries of the seat are a sync that came to its end, of which something holds, or reads of blocks
  module _ (before made after : List Entry) (lays : of_seat seat journal ≡ (before ++ made) ++ after) (P : SyncEnd → Type 0) (did : All ReadsABlock made ⊎ ((end : SyncEnd) × SyncRun rules made (Some end) × P end)) where
    -- the other one is this one
    record IsThis (others : List Entry) (other : View) (place : ℕ) : Type 0 where
      begins : place ≡ length before
      same : others ≡ made
      gives : P (fetched.View other)

    module _ (first : Entry) (more : List Entry) (other : View) (y : IsAt seat (first ∷ more) other) (low : length before ≤ length y.sync.before) (high : length y.sync.before < length before + length made) where
      all : before ++ (made ++ after) ≡ y.sync.before ++ (first ∷ (more ++ y.sync.after))
      all = sym (append_assoc before made after) ∙ sym lays ∙ y.sync.parts ∙ append_assoc y.sync.before (first ∷ more) y.sync.after

      one : (m : List Entry) × (y.sync.before ≡ before ++ m) × (made ++ after ≡ m ++ (first ∷ (more ++ y.sync.after)))
      one = cut_front before (made ++ after) y.sync.before (first ∷ (more ++ y.sync.after)) all low

      long : length y.sync.before ≡ length before + length one.0
      long = ap (length {A = Entry}) one.1 ∙ length-append before one.0

      two : (n : List Entry) × (made ≡ one.0 ++ n) × (first ∷ (more ++ y.sync.after) ≡ n ++ after)
      two = cut_front one.0 (first ∷ (more ++ y.sync.after)) made after (sym one.2) (omega (arith, long, high))

      size : length made ≡ length one.0 + length two.0
      size = ap (length {A = Entry}) two.1 ∙ length-append one.0 two.0

      inside : Contains made first
      inside =
          let head = head_of two.0 (more ++ y.sync.after) after first two.2 (omega (arith, long, high, size)) in
          subst (λ (es : List Entry). Contains es first) (sym (two.1 ∙ ap (λ (es : List Entry). one.0 ++ es) head.1)) (stands_in one.0 head.0 first)

      -- it begins with a page
      no_read : All ReadsABlock made → ⊥
      no_read reads =
          let read = All-contains ReadsABlock made first reads inside in
          let opens : first.op ≡ op.RootPage [] rules.page_limit = sync_begins rules first more (Some (fetched.View other)) y.sync.run in
          subst (IsReadOf read.0) opens read.1

      module _ (end : SyncEnd) (run : SyncRun rules made (Some end)) (holds : P end) where
        starts : length y.sync.before ≡ length before
        starts = elim (cases_lt (length before) (length y.sync.before)) [
          | inl later ↦
              let t : IsSyncBy rules journal seat made (Some end) = record { before = before; after = after; parts = lays; run = run; whole = λ none. absurd (cc (none)) } in
              let most : length before + length made ≤ length y.sync.before = y.alone made (Some end) t later in
              absurd (omega (arith, most, high))
          | inr most ↦ omega (arith, most, low)
        ]

        here : made ++ after ≡ (first ∷ more) ++ y.sync.after
        here = one.2 ∙ ap (λ (es : List Entry). es ++ (first ∷ (more ++ y.sync.after))) (none_of one.0 (omega (arith, starts, long)))

        -- neither ends before the other
        same_entries : first ∷ more ≡ made
        same_entries = elim (cases_lt (length made) (length (first ∷ more))) [
          | inl shorter ↦
              let rest = cut_front made after (first ∷ more) y.sync.after here (omega (arith, shorter)) in
              let some = some_of rest.0 (omega (arith, shorter, ap (length {A = Entry}) rest.1, length-append made rest.0)) in
              let longer : SyncRun rules (made ++ some.0 ∷ some.1) (Some (fetched.View other)) =
              subst (λ (es : List Entry). SyncRun rules es (Some (fetched.View other))) (rest.1 ∙ ap (λ (es : List Entry). made ++ es) some.2) y.sync.run in
              absurd (once (sync rules) made run.0 some.0 some.1 (Some longer.0) run.1 longer.1)
          | inr most ↦ by_rest (cut_front (first ∷ more) y.sync.after made after (sym here) most)
        ]
          where
            by_rest : (rest : List Entry) × (made ≡ (first ∷ more) ++ rest) × (y.sync.after ≡ rest ++ after) → first ∷ more ≡ made
            by_rest ([], is, left) = sym (is ∙ append-nil (first ∷ more))
            by_rest (z ∷ rest, is, left) =
                let longer : SyncRun rules ((first ∷ more) ++ z ∷ rest) (Some end) = subst (λ (es : List Entry). SyncRun rules es (Some end)) is run in
                absurd (once (sync rules) (first ∷ more) y.sync.run.0 z rest (Some longer.0) y.sync.run.1 longer.1)

        is_this : IsThis (first ∷ more) other (length y.sync.before)
        is_this = record {
          begins = starts;
          same = same_entries;
          gives = subst P (sync_tells rules made end (fetched.View other) run (subst (λ (es : List Entry). SyncRun rules es (Some (fetched.View other))) same_entries y.sync.run)) holds;
        }

    -- one that begins in it is this one
    begins_in : (others : List Entry) (other : View) (y : IsAt seat others other) → length before ≤ length y.sync.before → length y.sync.before < length before + length made → IsThis others other (length y.sync.before)
    begins_in [] other y low high = absurd (no_listing rules 999_999 y.sync.run.0 y.sync.run.1)
    begins_in (first ∷ more) other y low high = elim did [
      | inl reads ↦ absurd (no_read first more other y low high reads)
      | inr (end, run, holds) ↦ is_this first more other y low high end run holds
    ]

    pub none_behind : NoneOver (length before) → NoneOver (length (before ++ made))
    none_behind none others other y less =
        let size : length (before ++ made) ≡ length before + length made = length-append before made in
        elim (cases_lt (length y.sync.before) (length before)) [
          | inl early ↦ let most = none others other y early in omega (arith, most, size)
          | inr late ↦
              let this = begins_in others other y late (omega (arith, less, size)) in
              omega (arith, this.begins, ap (length {A = Entry}) this.same, size)
        ]

    -- one that ends in it is this one
    ends_in : NoneOver (length before) → (e : Entry) (rest : List Entry) → made ≡ e ∷ rest → (others : List Entry) (other : View) (y : IsAt seat others other) → e.seq ≤ last_number others → All (λ (z : Entry). last_number others < z.seq) after
        → IsThis others other (length y.sync.before)
    ends_in none e rest is others other y from upto =
        let l = last_of rules others other y.sync.run in
        let up : Rises (of_seat seat journal) = rises_filter (λ (z : Entry). z.seat == seat) journal rises in
        let lead : List Entry = y.sync.before ++ l.front in
        let whole : of_seat seat journal ≡ lead ++ l.entry ∷ y.sync.after =
        y.sync.parts ∙ ap (λ (es : List Entry). (y.sync.before ++ es) ++ y.sync.after) l.parts ∙ ap (λ (es : List Entry). es ++ y.sync.after) (sym (append_assoc y.sync.before l.front (l.entry ∷ []))) ∙ append_assoc lead (l.entry ∷ []) y.sync.after in
        let mine : of_seat seat journal ≡ before ++ e ∷ (rest ++ after) = lays ∙ ap (λ (es : List Entry). (before ++ es) ++ after) is ∙ append_assoc before (e ∷ rest) after in
        let own_size : length (before ++ made) ≡ length before + length made = length-append before made in
        let lead_size : length lead ≡ length y.sync.before + length l.front = length-append y.sync.before l.front in
        let size : length others ≡ length l.front + 1 = ap (length {A = Entry}) l.parts ∙ length-append l.front (l.entry ∷ []) in
        let not_first : ¬ (length lead < length before) = λ less.
        let early = front_is_earlier before (rest ++ after) e l.entry (subst Rises mine up) (in_first lead l.entry y.sync.after before (e ∷ (rest ++ after)) (sym whole ∙ mine) less) in
        omega (arith, early.0, from, l.number) in
        let not_last : ¬ (length (before ++ made) ≤ length lead) = λ most.
        let late = All-contains (λ (z : Entry). last_number others < z.seq) after l.entry upto (in_last lead l.entry y.sync.after (before ++ made) after (sym whole ∙ lays) most) in
        omega (arith, late, l.number) in
        elim (cases_lt (length lead) (length before)) [
          | inl less ↦ absurd (not_first less)
          | inr low ↦ elim (cases_lt (length lead) (length (before ++ made))) [
            | inr most ↦ absurd (not_last most)
            | inl high ↦ elim (cases_lt (length y.sync.before) (length before)) [
              | inl early ↦ let over = none others other y early in absurd (omega (arith, over, low, lead_size, size))
              | inr late ↦ begins_in others other y late (omega (arith, high, own_size, lead_size))
            ]
          ]
        ]

-- ---- what a gateway holds

-- what is held has a view of a sync that ended at the entry of this number, or later
abbrev pub IsHeld : Holding → ℕ → Type 0
IsHeld held number = (used : Use) × (held.used ≡ Some used) × (number ≤ used.last)

-- the view that is held is not older than those of the gateway's syncs that ended before all of these entries
abbrev pub IsLatest : Setting → List Entry → ℕ → List Entry → Holding → Type 0
IsLatest setting journal own rest held =
    (others : List Entry) (other : View) → IsSyncIn setting journal own others (Some (fetched.View other)) → All (λ (e : Entry). last_number others < e.seq) rest → IsHeld held (last_number others)

-- nor than those that ended before one of them
abbrev pub IsLatestAt : Setting → List Entry → ℕ → List Entry → Holding → Type 0
IsLatestAt setting journal own made held =
    (others : List Entry) (other : View) → IsSyncIn setting journal own others (Some (fetched.View other)) → (e : Entry) → Contains made e → last_number others < e.seq → IsHeld held (last_number others)

-- no other seat of the gateway has an entry from one of these on that is before all of those
abbrev pub IsLone : Setting → List Entry → ℕ → ℕ → List Entry → List Entry → Type 0
IsLone setting journal own seat made rest =
    (x : Entry) → Contains journal x → IsSeatOf setting own x.seat → (e : Entry) → Contains made e → e.seq ≤ x.seq → All (λ (y : Entry). x.seq < y.seq) rest → x.seat ≡ seat

-- the last entry of a sync of the gateway, which was made at this seat
record HasEntry (setting : Setting) (journal : List Entry) (own : ℕ) (others : List Entry) (seat : ℕ) : Type 0 where
  entry : Entry
  inside : Contains journal entry
  at_seat : entry.seat ≡ seat
  sits : IsSeatOf setting own entry.seat
  number : last_number others ≡ entry.seq

last_entry : (setting : Setting) (journal : List Entry) → Rises journal → (own : ℕ) (others : List Entry) (other : View) (s : IsSyncIn setting journal own others (Some (fetched.View other))) → HasEntry setting journal own others s.seat
last_entry setting journal rises own others other s =
    let l = last_of (sync_rules setting own) others other s.sync.run in
    let among : Contains others l.entry = subst (λ (es : List Entry). Contains es l.entry) (sym l.parts) (stands_in l.front [] l.entry) in
    let at_seat : l.entry.seat ≡ s.seat =
    All-contains (λ (z : Entry). z.seat ≡ s.seat) (of_seat s.seat journal) l.entry (all_of_seat s.seat journal)
    (subst (λ (es : List Entry). Contains es l.entry) (sym s.sync.parts) (Contains-append_left (s.sync.before ++ others) s.sync.after l.entry (Contains-append_right s.sync.before others l.entry among))) in record {
      entry = l.entry;
      inside = of_journal setting journal rises own others other l.entry s among;
      at_seat = at_seat;
      sits = subst (IsSeatOf setting own) (sym at_seat) s.sits;
      number = l.number;
    }

-- no sync ended before all entries
pub latest_none : (setting : Setting) (journal : List Entry) → Rises journal → (own : ℕ) (held : Holding) → IsLatest setting journal own journal held
latest_none setting journal rises own held others other s upto =
    let l = last_entry setting journal rises own others other s in
    let less = All-contains (λ (z : Entry). last_number others < z.seq) journal l.entry upto l.inside in
    absurd (omega (arith, less, l.number))

-- a task of a gateway's worker that came to its end, and the entries that follow it
module _ (setting : Setting) (journal : List Entry) (rises : Rises journal) (own : ℕ) (who : Who) (by : who.gateway ≡ Some own) (place : ℕ) (w : Work) (held after : Holding) (end : End) (before made behind rest : List Entry)
    (lays : of_seat who.seat journal ≡ (before ++ made) ++ behind) (up : Rises (made ++ rest)) (tail : (P : Entry → Type 0) → All P rest → All P behind) (fit : IsFitFor who.gateway w) (run : TaskRun setting who place w held made (Some end) after) where
  -- what a sync left
  abbrev Left : SyncEnd → Type 0
  Left last = after ≡ synced_with held made (Some last)

  abbrev Did : Type 0
  Did = All ReadsABlock made ⊎ ((last : SyncEnd) × SyncRun (sync_rules setting own) made (Some last) × Left last)

  query_reads : (used : Option Use) (asked : Option Question) → QueryTask used asked held made (Some end) after → All ReadsABlock made
  query_reads used asked query = elim (query_is used asked held made (Some end) after query) [
    | inl none ↦ subst (All ReadsABlock) (sym none.0.0) (All-nil ReadsABlock)
    | inr call ↦
        All-weaker (λ (e : Entry). IsReadOfOne (to_read call.question call.from.view.kept) e.op) ReadsABlock (λ e is. (is.0.ulid, is.2)) made (call_asks call.from.view call.question held.cache made call.own call.run)
  ]

  sync_did : (gateway : ℕ) → gateway ≡ own → (last : Option SyncEnd) → SyncRun (sync_rules setting gateway) made last → Some end ≡ option_map synced last → after ≡ synced_with held made last → Did
  sync_did gateway same None done is left = absurd (cc (is))
  sync_did gateway same (Some last) done is left = inr (last, subst (λ (n : ℕ). SyncRun (sync_rules setting n) made (Some last)) same done, left)

  did_by : (work : Work) → IsFitFor who.gateway work → TaskRun setting who place work held made (Some end) after → Did
  did_by (Upload ulid stop) none done = absurd (cc (by, none))
  did_by (Sync gateway) mine (last, done, is, left) = let same : gateway ≡ own = cc (by, mine) in sync_did gateway same last done is left
  did_by (Compact stop) none done = absurd (cc (by, none))
  did_by (Clean stop) none done = absurd (cc (by, none))
  did_by (Query low high selector) any done = inl (part_entries setting selector (All ReadsABlock) (ask_to setting who.gateway low high) held after made (Some end) (All-nil ReadsABlock) (λ asked query. query_reads held.used asked query) done)

  did : Did
  did = did_by w fit run

  made_up : Rises made
  made_up = rises_left made rest up

  -- what is held becomes no older
  keeps : ((used : Use) → held.used ≡ Some used → All (λ (e : Entry). used.last < e.seq) made) → (used : Use) → held.used ≡ Some used → IsHeld after used.last
  keeps later used is =
      task_leaves (λ (h : Holding). IsHeld h used.last) setting who place held (used, is, omega arith) made w (Some end) after
      (λ gateway last same done new gives.
      let l = last_of (sync_rules setting gateway) made new (subst (SyncRun (sync_rules setting gateway) made) gives done) in
      let less = All-contains (λ (e : Entry). used.last < e.seq) made l.entry (later used is) (subst (λ (es : List Entry). Contains es l.entry) (sym l.parts) (stands_in l.front [] l.entry)) in
      (record { view = new; last = last_number made }, refl, omega (arith, less, l.number)))
      (λ from asked call same done. (used, is, omega arith)) run

  module _ (lone : IsLone setting journal own who.seat made rest) (none : NoneOver setting journal rises own who.seat (length before)) where
    -- a sync that gave a view, from one of these entries on and before those that follow, is the task
    its : (e : Entry) (back : List Entry) → made ≡ e ∷ back → (others : List Entry) (other : View) → IsSyncIn setting journal own others (Some (fetched.View other)) → e.seq ≤ last_number others → All (λ (z : Entry). last_number others < z.seq) rest
        → (others ≡ made) × IsHeld after (last_number others)
    its e back is others other s from upto =
        let l = last_entry setting journal rises own others other s in
        let upto_entry : All (λ (z : Entry). l.entry.seq < z.seq) rest = subst (λ (n : ℕ). All (λ (z : Entry). n < z.seq) rest) l.number upto in
        let mine : l.entry.seat ≡ who.seat = lone l.entry l.inside l.sits e (subst (λ (es : List Entry). Contains es e) (sym is) (contains_first e back)) (omega (arith, from, l.number)) upto_entry in
        let y : IsAt setting journal rises own who.seat who.seat others other = subst (λ (n : ℕ). IsAt setting journal rises own who.seat n others other) (sym l.at_seat ∙ mine) (record { sync = s.sync; alone = s.alone }) in
        let this = ends_in setting journal rises own who.seat before made behind lays Left did none e back is others other y from (tail (λ (z : Entry). last_number others < z.seq) upto) in
        (this.same, (record { view = other; last = last_number made }, ap (λ (h : Holding). h.used) this.gives, omega (arith, ap last_number this.same)))

    -- so the view is the latest at each of these entries
    pub latest_at : IsLatest setting journal own (made ++ rest) held → IsLatestAt setting journal own made held
    latest_at latest others other s e among less =
        let beyond : All (λ (z : Entry). last_number others < z.seq) rest = All-weaker (λ (z : Entry). e.seq < z.seq) (λ (z : Entry). last_number others < z.seq) (λ z more. omega (arith, less, more)) rest (member_below made rest up e among) in
        elim (below_or made made_up (last_number others)) [
          | inl all ↦ latest others other s (All-append (λ (z : Entry). last_number others < z.seq) made rest all beyond)
          | inr (first, back, is, from) ↦
              let this = its first back is others other s from beyond in
              let run : SyncRun (sync_rules setting own) made (Some (fetched.View other)) = subst (λ (es : List Entry). SyncRun (sync_rules setting own) es (Some (fetched.View other))) this.0 s.sync.run in
              absurd (omega (arith, less, upto_last (sync_rules setting own) made other run made_up e among, ap last_number this.0))
        ]

    -- and before those that follow
    pub latest_behind : ((used : Use) → held.used ≡ Some used → All (λ (e : Entry). used.last < e.seq) made) → IsLatest setting journal own (made ++ rest) held → IsLatest setting journal own rest after
    latest_behind later latest others other s beyond = elim (below_or made made_up (last_number others)) [
      | inl all ↦
          let h = latest others other s (All-append (λ (z : Entry). last_number others < z.seq) made rest all beyond) in
          let k = keeps later h.0 h.1 in (k.0, k.1, omega (arith, h.2, k.2))
      | inr (first, back, is, from) ↦ (its first back is others other s from beyond).1
    ]

    pub none_over : NoneOver setting journal rises own who.seat (length (before ++ made))
    none_over = none_behind setting journal rises own who.seat before made behind lays Left did none

-- ---- the seats of a gateway

apart_same : (ws : List Worker) → AreApart ws → (own : ℕ) (a b : Worker) → Contains ws a → Contains ws b → a.gateway ≡ Some own → b.gateway ≡ Some own → a ≡ b
apart_same [] apart own a b one other by also = absurd (no_member a one)
apart_same (w ∷ ws) apart own a b one other by also = elim (member_cases w a ws one) [
  | inl first ↦ elim (member_cases w b ws other) [
    | inl second ↦ sym first ∙ second
    | inr later ↦ absurd (All-contains (λ (x : Worker). x.gateway ≢ Some own) ws b (apart.0 own (ap (λ (x : Worker). x.gateway) first ∙ by)) later also)
  ]
  | inr inside ↦ elim (member_cases w b ws other) [
    | inl second ↦ absurd (All-contains (λ (x : Worker). x.gateway ≢ Some own) ws a (apart.0 own (ap (λ (x : Worker). x.gateway) second ∙ also)) inside by)
    | inr later ↦ apart_same ws apart.1 own a b inside later by also
  ]
]

module _ (setting : Setting) (lawful : IsLawfulScript setting.script) where
  -- the workers of this phase and of those after it made none of these entries
  abbrev pub AreQuiet : ℕ → List Entry → Type 0
  AreQuiet number front = (n : ℕ) (a : Worker) → Contains (workers_of setting.script n) a → number ≤ n → of_seat a.seat front ≡ []

  pub quiet_clock : (number : ℕ) (front : List Entry) (clock : Entry) → clock.seat ≡ 0 → AreQuiet number front → AreQuiet number (front ++ clock ∷ [])
  quiet_clock number front clock sets quiet n a inside low =
      filter-append (λ (x : Entry). x.seat == a.seat) front (clock ∷ []) ∙ ap (λ (es : List Entry). es ++ of_seat a.seat (clock ∷ [])) (quiet n a inside low) ∙ other_first a.seat clock [] (clock_apart setting lawful n a inside clock sets)

  -- the clock's entry is no gateway's
  pub latest_past : (journal front rest : List Entry) (clock : Entry) → Rises journal → journal ≡ front ++ clock ∷ rest → clock.seat ≡ 0 → (own : ℕ) (held : Holding) → IsLatest setting journal own (clock ∷ rest) held → IsLatest setting journal own rest held
  latest_past journal front rest clock rises is sets own held latest others other s late =
      let l = last_entry setting journal rises own others other s in
      elim (cases_lt (last_number others) clock.seq) [
        | inl less ↦ latest others other s (All-cons (λ (z : Entry). last_number others < z.seq) clock rest less late)
        | inr most ↦ elim (Contains-append_cases front (clock ∷ rest) l.entry (subst (λ (es : List Entry). Contains es l.entry) is l.inside)) [
          | inl first ↦ let lower = front_is_earlier front rest clock l.entry (subst Rises is rises) first in absurd (omega (arith, lower.0, most, l.number))
          | inr behind ↦ elim (member_cases clock l.entry rest behind) [
            | inl same ↦
                let above = seat_above setting.script lawful l.sits.0 l.sits.1 l.sits.2 in
                absurd (omega (arith, above, l.sits.4, ap (λ (z : Entry). z.seat) same, sets))
            | inr later ↦ let more = All-contains (λ (z : Entry). last_number others < z.seq) rest l.entry late later in absurd (omega (arith, more, l.number))
          ]
        ]
      ]

  module _ (number : ℕ) (tasks : List Task) (views : Holdings) (made : List Entry) (ends : List (List End)) (after : Holdings) (run : PhaseRun (by_script setting) tasks (workers_of setting.script number) views made ends after) where
    pub quiet_next : (front : List Entry) (clock : Entry) → clock.seat ≡ 0 → AreQuiet number front → AreQuiet (number + 1) (front ++ clock ∷ made)
    quiet_next front clock sets quiet n a inside low =
        filter-append (λ (x : Entry). x.seat == a.seat) front (clock ∷ made) ∙ ap (λ (es : List Entry). es ++ of_seat a.seat (clock ∷ made)) (quiet n a inside (omega (arith, low)))
        ∙ other_first a.seat clock made (clock_apart setting lawful n a inside clock sets)
        ∙ quiet_phase setting lawful n a inside number tasks views made ends after (λ same. absurd (omega (arith, low, same))) run

    -- an entry of the gateway, from one of these on and before those that follow, is a worker's of the phase
    its_worker : (journal front beyond : List Entry) → Rises journal → journal ≡ front ++ (made ++ beyond) → (own : ℕ) → (x : Entry) → Contains journal x → IsSeatOf setting own x.seat → (e : Entry) → Contains made e → e.seq ≤ x.seq → All (λ (y : Entry). x.seq < y.seq) beyond
        → Contains made x × ((v : Worker) × Contains (workers_of setting.script number) v × (v.gateway ≡ Some own) × (v.seat ≡ x.seat))
    its_worker journal front beyond rises is own x inside (n, w, there, owns, sits) e held low upto =
        elim (Contains-append_cases front (made ++ beyond) x (subst (λ (es : List Entry). Contains es x) is inside)) [
          | inl first ↦
              let less = rises_apart front (made ++ beyond) (subst Rises is rises) x e first (Contains-append_left made beyond e held) in
              absurd (omega (arith, less, low))
          | inr rest ↦ elim (Contains-append_cases made beyond x rest) [
            | inr late ↦ let more = All-contains (λ (y : Entry). x.seq < y.seq) beyond x upto late in absurd (omega (arith, more))
            | inl mine ↦ elim (All-contains (λ (y : Entry). Contains (map (λ (v : Worker). v.seat) (workers_of setting.script number)) y.seat ⊎ (by_script setting).bystands y) made x run.seats mine) [
              | inr none ↦ absurd none
              | inl seat ↦
                  let v = of_map (λ (v : Worker). v.seat) (workers_of setting.script number) x.seat seat in
                  let same : v.0 ≡ w = one_worker setting.script lawful number n v.0 w v.1 there (v.2 ∙ sym sits) in
                  (mine, (v.0, v.1, ap (λ (z : Worker). z.gateway) same ∙ owns, v.2))
            ]
          ]
        ]

    -- the gateway has one seat in a phase
    one_seat : (journal front beyond : List Entry) → Rises journal → journal ≡ front ++ (made ++ beyond) → (worker : Worker) → Contains (workers_of setting.script number) worker → (own : ℕ) → worker.gateway ≡ Some own
        → (x : Entry) → Contains journal x → IsSeatOf setting own x.seat → (e : Entry) → Contains made e → e.seq ≤ x.seq → All (λ (y : Entry). x.seq < y.seq) beyond → Contains made x × (x.seat ≡ worker.seat)
    one_seat journal front beyond rises is worker among own by x inside sits e held low upto =
        let its = its_worker journal front beyond rises is own x inside sits e held low upto in
        let v = its.1 in
        let one : v.0 ≡ worker = apart_same (workers_of setting.script number) (apart_of setting number) own v.0 worker v.1 among v.2 by in
        (its.0, sym v.3 ∙ ap (λ (z : Worker). z.seat) one)

    pub lone_in : (journal front beyond : List Entry) → Rises journal → journal ≡ front ++ (made ++ beyond) → (worker : Worker) → Contains (workers_of setting.script number) worker → (own : ℕ) → worker.gateway ≡ Some own
        → IsLone setting journal own worker.seat (of_seat worker.seat made) beyond
    lone_in journal front beyond rises is worker among own by x inside sits e held low upto =
        (one_seat journal front beyond rises is worker among own by x inside sits e (of_filter (λ (z : Entry). z.seat == worker.seat) made e held) low upto).1

    -- so what is the latest view before the phase's entries is so before the worker's
    pub latest_in : (journal front beyond : List Entry) → Rises journal → Rises (made ++ beyond) → journal ≡ front ++ (made ++ beyond) → (worker : Worker) → Contains (workers_of setting.script number) worker → (own : ℕ) → worker.gateway ≡ Some own → (held : Holding)
        → IsLatest setting journal own (made ++ beyond) held → IsLatest setting journal own (of_seat worker.seat made ++ beyond) held
    latest_in journal front beyond rises up is worker among own by held latest others other s upto =
        let late = all_right (λ (z : Entry). last_number others < z.seq) (of_seat worker.seat made) beyond upto in
        elim (below_or made (rises_left made beyond up) (last_number others)) [
          | inl all ↦ latest others other s (All-append (λ (z : Entry). last_number others < z.seq) made beyond all late)
          | inr (e, back, begins, from) ↦
              let l = last_entry setting journal rises own others other s in
              let both =
              one_seat journal front beyond rises is worker among own by l.entry l.inside l.sits e (subst (λ (es : List Entry). Contains es e) (sym begins) (contains_first e back)) (omega (arith, from, l.number)) (subst (λ (n : ℕ). All (λ (z : Entry). n < z.seq) beyond) l.number late) in
              let same = both.1 in
              let mine : Contains (of_seat worker.seat made) l.entry = into_filter (λ (z : Entry). z.seat == worker.seat) made l.entry both.0 (grind (arith, nat_tests, same)) in
              let less = All-contains (λ (z : Entry). last_number others < z.seq) (of_seat worker.seat made) l.entry (all_left (λ (z : Entry). last_number others < z.seq) (of_seat worker.seat made) beyond upto) mine in
              absurd (omega (arith, less, l.number))
        ]

    -- and what is the latest view of a gateway without a worker stays so
    pub latest_stays : (journal front beyond : List Entry) → Rises journal → Rises (made ++ beyond) → journal ≡ front ++ (made ++ beyond) → (own : ℕ) → All (λ (w : Worker). w.gateway ≢ Some own) (workers_of setting.script number) → (held : Holding)
        → IsLatest setting journal own (made ++ beyond) held → IsLatest setting journal own beyond held
    latest_stays journal front beyond rises up is own idle held latest others other s late = elim (below_or made (rises_left made beyond up) (last_number others)) [
      | inl all ↦ latest others other s (All-append (λ (z : Entry). last_number others < z.seq) made beyond all late)
      | inr (e, back, begins, from) ↦
          let l = last_entry setting journal rises own others other s in
          let its =
          its_worker journal front beyond rises is own l.entry l.inside l.sits e (subst (λ (es : List Entry). Contains es e) (sym begins) (contains_first e back)) (omega (arith, from, l.number)) (subst (λ (n : ℕ). All (λ (z : Entry). n < z.seq) beyond) l.number late) in
          let v = its.1 in
          absurd (All-contains (λ (w : Worker). w.gateway ≢ Some own) (workers_of setting.script number) v.0 idle v.1 v.2)
    ]
