-- All that is guaranteed of a run holds of that of the script of one block, and of the one that loses the index.
use Rattle.std.proofs.Common.{◌≡◌, ℕ, ℤ, zero, suc, pos, List, [], ◌∷◌, All, Option, Some, None, inl, inr, refl, sym, ◌∙◌, ap, subst, arith, lit≤}
use Rattle.std.proofs.Common.{◌⊎◌}
use Rattle.std.specs.Prelude.{slice_get}
use Rattle.std.proofs.lemmas.List.Elements.{All-from_recursion, All-weaker}
use Rattle.std.specs.List.{AllZip, flat_map}
use Rattle.std.specs.Prelude.{map}
use Rattle.base.proofs.Lists.{cons_parts}
use Rattle.base.proofs.Membership.{only_member}
use Rattle.querier.specs.declared.asking.Ask.{Ask}
use Rattle.label_sets.specs.declared.series.Series.{Series}
use Rattle.vertical_merge.specs.Merged.{IsMerge, PatternsAgree}
use Rattle.vertical_merge.proofs.Laws.{deduplicates, only_one}
use Rattle.world_core.specs.declared.entry.Entry.{Entry}
use Rattle.lifecycle_core.specs.SyncsAndCalls.{IsViewOf}
use Rattle.lifecycle_core.specs.TimeRules.{IsSyncedInTime}
use Rattle.tests_worked.proofs.small.SmallCalls.{merge_given, question}
use Rattle.block_keys.specs.declared.key.Key.TheVariants as key
use Rattle.label_sets.specs.Triples.{Triple, triples_of, triples_under}
use Rattle.matchers.specs.declared.matcher.Matcher.{Matcher}
use Rattle.meta_fetcher.specs.declared.sync.SyncEnd.TheVariants as fetched
use Rattle.store_ranges.specs.Reads.{missing}
use Rattle.store_calls.specs.SeriesCalls.{broke}
use Rattle.store_calls.specs.declared.series_call.SeriesEnd.TheVariants as called
use Rattle.block_keys.specs.KeyText.{key_text}
use Rattle.world_core.specs.Standing.{IsHonest}
use Rattle.script_core.specs.Workers.{workers_of}
use Rattle.script_workers.specs.declared.worker.Worker.{Worker}
use Rattle.script_workers.specs.declared.phase.Phase.{Phase}
use Rattle.script_workers.specs.declared.task.Task.{Task}
use Rattle.script_workers.specs.declared.work.Work.TheVariants as works
use Rattle.compactor.specs.declared.compact_end.CompactEnd.TheVariants as compacting
use Rattle.lifecycle_core.specs.Breaches.{IsUnbroken, honesty, watched}
use Rattle.lifecycle_core.specs.Causes.{IsDamaged, IsExplained, IsExplainedBy, IsFault, IsMissing, IsWell, blamed_for}
use Rattle.lifecycle_core.specs.Conducts.{CameTo}
use Rattle.lifecycle_core.specs.Guarantees.{Answered, IsGiven, IsGuaranteed, IsPartGiven, IsSound, Named, NamesAll, ask_by}
use Rattle.lifecycle_core.specs.Holdings.{Use, empty_cache}
use Rattle.lifecycle_core.specs.Phases.{IsFinished, IsRunOf}
use Rattle.lifecycle_core.specs.Quiet.{DeletesNothing}
use Rattle.lifecycle_core.specs.Tasks.{End, QueryTask, answered, asks_in, compacted, sync_rules, synced}
use Rattle.tests_worked.specs.LostIndex as lost
use Rattle.tests_worked.specs.OneBlock as one
use Rattle.tests_worked.specs.SmallBlock as small
use Rattle.tests_worked.proofs.small.Ends.{came_among, of_each, one_of_two}
use Rattle.tests_worked.proofs.one.OneAnswer.{exact, names, one_named}
use Rattle.tests_worked.proofs.small.Bucket.{full, shows_index}
use Rattle.tests_worked.proofs.one.OneBlock.{first_tasks, gateway, holding, second_ends, second_tasks, second_workers}
use Rattle.tests_worked.proofs.one.OtherReads.{broken, finished_with, run_with}
use Rattle.world_core.specs.declared.reply.Reply.TheVariants.{Absent}
use Rattle.tests_worked.proofs.one.OneInTime.{leaves_none_out}
use Rattle.tests_worked.proofs.one.OneHeld.{held}
use Rattle.tests_worked.proofs.one.OneUnbroken.{front, lost_is_lie}

all_ends : (Q : End → Type 0) (one two three : End) → Q one → Q two → Q three → All (All (All Q)) (((one ∷ []) ∷ []) ∷ ((two ∷ three ∷ []) ∷ []) ∷ [])
all_ends Q one two three first second third =
    All-from_recursion (All (All Q)) (((one ∷ []) ∷ []) ∷ ((two ∷ three ∷ []) ∷ []) ∷ []) (
      All-from_recursion (All Q) ((one ∷ []) ∷ []) (All-from_recursion Q (one ∷ []) (first, tt), tt),
      (All-from_recursion (All Q) ((two ∷ three ∷ []) ∷ []) (All-from_recursion Q (two ∷ three ∷ []) (second, (third, tt)), tt), tt),
    )

-- ---- the answered query

abbrev ask : List Matcher → List Named → List Triple → Answered
ask selector named samples = record { selector = selector; named = named; samples = samples }

same_query : (s s' : List Matcher) (n n' : List Named) (t t' : List Triple) → s ≡ s' → n ≡ n' → t ≡ t' → ask s n t ≡ ask s' n' t'
same_query s s' n n' t t' a b c = cc (a, b, c)

abbrev name : ℕ → Use → ℤ → ℤ → List ℕ → Named
name gateway used low high sources = record { gateway = gateway; used = used; low = low; high = high; sources = sources }

same_named : (g g' : ℕ) (u u' : Use) (l l' h h' : ℤ) (o o' : List ℕ) → g ≡ g' → u ≡ u' → l ≡ l' → h ≡ h' → o ≡ o' → name g u l h o ≡ name g' u' l' h' o'
same_named g g' u u' l l' h h' o o' a b c d e = cc (a, b, c, d, e)

abbrev answer : End
answer = answered one.used (called.Answer (small.up ∷ []) (small.a ∷ []))

up_triples : triples_of (small.up ∷ []) ≡ small.triple ∷ []
unfolding triples_of triples_under
up_triples = refl

abbrev first_phase : Phase
first_phase = record { line = 5; moment = record { ms = 0 }; tasks = first_tasks }

abbrev second_phase : Phase
second_phase = record { line = 7; moment = record { ms = 1_800_000 }; tasks = second_tasks }

own_phase : (n : ℕ) (phase : Phase) → slice_get one.script.phases n ≡ Some phase → (first_phase ≡ phase) ⊎ ((n ≡ 1) × (second_phase ≡ phase))
own_phase zero phase at = inl (cc (at))
own_phase (suc zero) phase at = inr (refl, cc (at))
own_phase (suc (suc n)) phase at = absurd (cc (at))

no_query : (place sel : ℕ) (task : Task) (low high : ℤ) → slice_get first_tasks place ≡ Some task → task.work ≡ works.Query low high sel → ⊥
no_query zero sel task low high at asks =
    let same : record { line = 6; work = works.Upload small.a None } ≡ task = cc (at) in
    let w : works.Upload small.a None ≡ task.work = ap (λ (t : Task). t.work) same in
    cc (w, asks)
no_query (suc place) sel task low high at asks = cc (at)

the_query : (place sel : ℕ) (task : Task) (low high : ℤ) → slice_get second_tasks place ≡ Some task → task.work ≡ works.Query low high sel → (place ≡ 1) × (sel ≡ 0) × (pos 0 ≡ low) × (pos 5000 ≡ high)
the_query zero sel task low high at asks =
    let same : record { line = 8; work = works.Sync 0 } ≡ task = cc (at) in
    let w : works.Sync 0 ≡ task.work = ap (λ (t : Task). t.work) same in
    absurd (cc (w, asks))
the_query (suc zero) sel task low high at asks =
    let same : record { line = 9; work = works.Query (pos 0) (pos 5000) 0 } ≡ task = cc (at) in
    let w : works.Query (pos 0) (pos 5000) 0 ≡ task.work = ap (λ (t : Task). t.work) same in
    let all : works.Query (pos 0) (pos 5000) 0 ≡ works.Query low high sel = w ∙ asks in
    (refl, cc (all), cc (all), cc (all))
the_query (suc (suc place)) sel task low high at asks = absurd (cc (at))

answer_came : (hand : Option ℕ) (end : End) → CameTo (gateway ∷ []) second_ends hand 1 end → answer ≡ end
answer_came hand end came =
    elim (one_of_two (0, synced (fetched.View one.view)) (1, answer) (1, end) (came_among gateway (synced (fetched.View one.view) ∷ answer ∷ []) hand 1 end came)) [
      | inl is ↦ absurd (omega (arith, ap (λ (p : ℕ × End). p.0) is))
      | inr is ↦ ap (λ (p : ℕ × End). p.1) is
    ]

-- for what the one gateway is asked
abbrev the_ask : Ask
the_ask = record { gateway = 0; low = pos 0; high = pos 5000 }

-- what the one gateway gave, to this query
record IsOnly (workers : List Worker) (ends : List (List End)) (place : ℕ) (named : List Named) (parts : List (List Series)) : Type 0 where
  n : Named
  part : List Series
  are : n ∷ [] ≡ named
  parts_are : parts ≡ part ∷ []
  asked : ask_by n ≡ the_ask
  given : IsPartGiven workers ends place n part

only_part : (workers : List Worker) (ends : List (List End)) (place : ℕ) (named : List Named) (parts : List (List Series)) → map ask_by named ≡ the_ask ∷ [] → AllZip (IsPartGiven workers ends place) named parts → IsOnly workers ends place named parts
only_part workers ends place [] parts every given = absurd (cc (every))
only_part workers ends place (n ∷ []) [] every given = absurd given
only_part workers ends place (n ∷ []) (part ∷ []) every given = record { n = n; part = part; are = refl; parts_are = refl; asked = (cons_parts (ask_by n) the_ask [] [] every).0; given = given.0 }
only_part workers ends place (n ∷ []) (part ∷ other ∷ parts) every given = absurd given.1
only_part workers ends place (n ∷ other ∷ named) parts every given = absurd (cc (every))

patterns_agree : PatternsAgree (small.triple ∷ [])
patterns_agree one other among too same =
    let first : small.triple ≡ one = only_member small.triple one among in
    let second : small.triple ≡ other = only_member small.triple other too in
    ap (λ (t : Triple). t.pattern) (sym first ∙ second)

total_is : flat_map triples_of ((small.up ∷ []) ∷ []) ≡ small.triple ∷ []
unfolding triples_of triples_under
total_is = refl

-- such parts have one merge
one_merge : (parts : List (List Series)) (series : List Series) → parts ≡ (small.up ∷ []) ∷ [] → IsMerge (flat_map triples_of parts) series → small.triple ∷ [] ≡ triples_of series
one_merge parts series are merge =
    let mine : IsMerge (small.triple ∷ []) (small.up ∷ []) = subst (λ (ts : List Triple). IsMerge ts (small.up ∷ [])) total_is merge_given in
    let other : IsMerge (small.triple ∷ []) series = subst (λ (ts : List Triple). IsMerge ts series) (ap (flat_map triples_of) are ∙ total_is) merge in
    sym up_triples ∙ only_one (small.triple ∷ []) (small.triple ∷ []) series refl other patterns_agree (triples_of (small.up ∷ [])) (deduplicates (small.triple ∷ []) (small.triple ∷ []) (small.up ∷ []) refl mine)

-- the run gives this answer, and no other
given_is : (query : Answered) → IsGiven one.setting one.ends query → one.asked ≡ query
given_is query g = elim (own_phase g.phase_number g.phase g.in_phases) [
  | inl is ↦ absurd (no_query g.place g.selector_number g.task g.low g.high (subst (λ (p : Phase). slice_get p.tasks g.place ≡ Some g.task) (sym is) g.in_tasks) g.asks)
  | inr (number, is) ↦
      let asked = the_query g.place g.selector_number g.task g.low g.high (subst (λ (p : Phase). slice_get p.tasks g.place ≡ Some g.task) (sym is) g.in_tasks) g.asks in
      let selects : slice_get one.script.selectors 0 ≡ Some query.selector = subst (λ (n : ℕ). slice_get one.script.selectors n ≡ Some query.selector) asked.1 g.selects in
      let ends : slice_get one.ends 1 ≡ Some g.phase_ends = subst (λ (n : ℕ). slice_get one.ends n ≡ Some g.phase_ends) number g.phase_came in
      let are : second_ends ≡ g.phase_ends = cc (ends) in
      let every : map ask_by query.named ≡ the_ask ∷ [] =
      g.every ∙ ap (λ (l : ℤ). asks_in one.setting l g.high) (sym asked.2) ∙ ap (λ (h : ℤ). asks_in one.setting (pos 0) h) (sym asked.3) in
      let only = only_part (workers_of one.script g.phase_number) g.phase_ends g.place query.named g.parts every g.given in
      let end : End = answered only.n.used (called.Answer only.part only.n.sources) in
      let here : CameTo (workers_of one.script 1) g.phase_ends (Some only.n.gateway) g.place end = subst (λ (n : ℕ). CameTo (workers_of one.script n) g.phase_ends (Some only.n.gateway) g.place end) number only.given in
      let among : CameTo (gateway ∷ []) g.phase_ends (Some only.n.gateway) g.place end = subst (λ (ws : List Worker). CameTo ws g.phase_ends (Some only.n.gateway) g.place end) second_workers here in
      let came : CameTo (gateway ∷ []) second_ends (Some only.n.gateway) 1 end =
      subst (λ (n : ℕ). CameTo (gateway ∷ []) second_ends (Some only.n.gateway) n end) asked.0 (subst (λ (l : List (List End)). CameTo (gateway ∷ []) l (Some only.n.gateway) g.place end) (sym are) among) in
      let told : answer ≡ end = answer_came (Some only.n.gateway) end came in
      let used : one.used ≡ only.n.used = cc (told) in
      let series : small.up ∷ [] ≡ only.part = cc (told) in
      let sources : small.a ∷ [] ≡ only.n.sources = cc (told) in
      let parts : g.parts ≡ (small.up ∷ []) ∷ [] = only.parts_are ∙ ap (λ (p : List Series). p ∷ []) (sym series) in
      let named : one_named ≡ only.n =
      same_named 0 only.n.gateway one.used only.n.used (pos 0) only.n.low (pos 5000) only.n.high (small.a ∷ []) only.n.sources (sym (ap (λ (a : Ask). a.gateway) only.asked)) used (sym (ap (λ (a : Ask). a.low) only.asked)) (sym (ap (λ (a : Ask). a.high) only.asked)) sources in
      same_query one.selector query.selector (one_named ∷ []) query.named (small.triple ∷ []) query.samples
      (cc (selects)) (ap (λ (n : Named). n ∷ []) named ∙ only.are) (one_merge g.parts g.series parts g.merged ∙ sym g.samples)
]

-- whatever is said of the syncs
abbrev Covered : Named → Type 0
Covered n = ((entries : List Entry) → IsViewOf (sync_rules one.setting n.gateway) one.journal n.used entries → IsSyncedInTime one.script.rules entries) → NamesAll one.setting one.journal n

in_time : All Covered one.asked.named
in_time = All-weaker (NamesAll one.setting one.journal) Covered (λ n all synced. all) one.asked.named leaves_none_out

sound : IsSound one.setting one.journal one.asked
sound = record { exact = exact; named = names; covered = λ uploaded. in_time }

-- no compaction came to it
abbrev IsOther : End → Type 0
IsOther (compacted end) = ⊥
IsOther other = Unit {0}

pub guaranteed : IsGuaranteed one.setting one.journal one.ends
guaranteed = record {
  explained = λ turns end number came none. absurd (of_each (λ end. (n : ℕ) → ¬ IsMissing end n) one.ends end (all_ends (λ end. (n : ℕ) → ¬ IsMissing end n) _ _ _ (λ n f. f) (λ n f. f) (λ n f. f)) came number none);
  compactions = λ number came. absurd (of_each IsOther one.ends (compacted (compacting.Missing number)) (all_ends IsOther _ _ _ tt tt tt) came);
  faults = λ end number came fault. absurd (of_each (λ end. (n : ℕ) → ¬ IsFault end n) one.ends end (all_ends (λ end. (n : ℕ) → ¬ IsFault end n) _ _ _ (λ n f. f) (λ n f. f) (λ n f. f)) came number fault);
  undamaged = λ honest end came. of_each (λ end. ¬ IsDamaged end) one.ends end (all_ends (λ end. ¬ IsDamaged end) _ _ _ (λ d. d) (λ d. d) (λ d. d)) came;
  sound = λ honest query given. subst (IsSound one.setting one.journal) (given_is query given) sound;
  held = held;
  complete = λ turns honest none end came. of_each IsWell one.ends end (all_ends IsWell _ _ _ tt tt tt) came;
}

-- ---- where the index is lost

missing_run : QueryTask (Some one.used) (Some (question one.selector)) holding (lost.lost ∷ []) (Some lost.missing) holding
missing_run = (Some (broken (called.Missing 10)), (broke (missing 10) empty_cache, (refl, (refl, inr refl)), (refl, refl)), refl, refl)

pub lost_run : IsRunOf one.setting lost.journal lost.ends
lost_run = run_with Absent (called.Missing 10) tt missing_run

pub lost_finished : IsFinished one.setting lost.ends
lost_finished = finished_with Absent (called.Missing 10) missing_run

pub lost_explained : IsExplained one.setting lost.journal 10
lost_explained = record {
  missed = lost.lost;
  key = key.Index small.a;
  at = refl;
  reads = refl;
  absent = refl;
  rule = honesty;
  before = front;
  entry = lost.lost;
  after = [];
  x = 65;
  y = 70;
  parts = refl;
  early = lit≤ tt;
  refused = lost_is_lie;
  blamed = tt;
}

lost_is_dishonest : ¬ IsHonest lost.journal
lost_is_dishonest honest = let told : full (key_text (key.Index small.a)) ≡ None = honest front [] lost.lost refl in cc (told, shows_index)

lost_not_whole : ¬ (IsUnbroken one.setting lost.journal ⊎ (IsHonest lost.journal × DeletesNothing one.script))
lost_not_whole (inl unbroken) = unbroken front [] lost.lost refl honesty 65 70 lost_is_lie
lost_not_whole (inr whole) = lost_is_dishonest whole.0

-- its misses are explained
abbrev Explained : End → Type 0
Explained end = (n : ℕ) → IsMissing end n → IsExplainedBy one.setting (watched one.setting lost.journal) (blamed_for end) lost.journal n

pub lost_guaranteed : IsGuaranteed one.setting lost.journal lost.ends
lost_guaranteed = record {
  explained = λ turns end number came misses. of_each Explained lost.ends end
      (all_ends Explained _ _ _ (λ n f. absurd f) (λ n f. absurd f) (λ n same. subst (IsExplained one.setting lost.journal) same lost_explained)) came number misses;
  compactions = λ number came. absurd (of_each IsOther lost.ends (compacted (compacting.Missing number)) (all_ends IsOther _ _ _ tt tt tt) came);
  faults = λ end number came fault. absurd (of_each (λ end. (n : ℕ) → ¬ IsFault end n) lost.ends end (all_ends (λ end. (n : ℕ) → ¬ IsFault end n) _ _ _ (λ n f. f) (λ n f. f) (λ n f. f)) came number fault);
  undamaged = λ honest end came. absurd (lost_is_dishonest honest);
  sound = λ honest query given. absurd (lost_is_dishonest honest);
  held = λ honest ulid seq meta complete. absurd (lost_is_dishonest honest);
  complete = λ turns either. absurd (lost_not_whole either);
}
