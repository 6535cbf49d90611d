-- Where a call says that an object was missing, or that an operation failed, its last entry shows that.
use Rattle.std.proofs.Common.{◌≡◌, ℕ, IsTrue, List, [], ◌∷◌, ◌++◌, Some, refl, sym, ap, subst, ◌∙◌, inl, inr, append_assoc, append-nil}
use Rattle.label_sets.specs.Triples.{Triple}
use Rattle.world_core.specs.Operations.{has_failed}
use Rattle.world_core.specs.Plans.{Runs, ends}
use Rattle.world_core.specs.declared.entry.Entry.{Entry}
use Rattle.world_core.specs.declared.reply.Reply.{Reply}
use Rattle.world_core.specs.declared.reply.Reply.TheVariants.{Absent}
use Rattle.world_core.proofs.PlanLaws.{EndsAre, end_is, nothing_given}
use Rattle.world_core.proofs.PlanParts.{Parts, broken, both, parts}
use Rattle.meta_fetcher.specs.declared.view.View.{View}
use Rattle.store_ranges.specs.Reads.{Block, Break, Cache, Query, missing, damaged, fault}
use Rattle.store_calls.specs.BlockReads.{BlockEnd, gives, breaks_off, block_call}
use Rattle.store_calls.specs.LastEntries.{EndsWith}
use Rattle.store_calls.specs.SeriesCalls.{Called, took, broke, CallEnd, Gives, SeriesRun, after_block, reading, sources_of, to_read}
use Rattle.store_calls.specs.declared.series_call.SeriesEnd.TheVariants as ended
use Rattle.store_calls.proofs.BlockWalk.{block_holds}

abbrev IsAbsent : Reply → Type 0
IsAbsent reply = reply ≡ Absent

abbrev IsFailed : Reply → Type 0
IsFailed reply = IsTrue (has_failed reply)

-- the entries show why reads broke off
abbrev ShowsBreak : List Entry → Break → Type 0
ShowsBreak made (missing number) = EndsWith made number IsAbsent
ShowsBreak made (damaged number) = Unit {0}
ShowsBreak made (fault number) = EndsWith made number IsFailed

abbrev ShowsEnd : List Entry → BlockEnd → Type 0
ShowsEnd made (gives triples cache) = Unit {0}
ShowsEnd made (breaks_off why cache) = ShowsBreak made why

block_shows : (query : Query) (block : Block) (cache : Cache) → EndsAre (λ e. Unit {0}) ShowsEnd [] (block_call query block cache)
block_shows query block cache =
    block_holds {E = BlockEnd} breaks_off (EndsAre (λ e. Unit {0}) ShowsEnd) (λ op. Unit {0}) (λ e. Unit {0}) (λ c. Unit {0}) (λ key piece bytes. Unit {0}) (λ key bytes. Unit {0})
    (λ made. tt) (λ made op next is on. on) (λ A made Such one next on. on)
    (λ made e op c is same given absent fine. record { front = made; last = e; parts = refl; is = refl; replied = absent })
    (λ made e landed c given so fine. record { front = made; last = e; parts = refl; is = refl; replied = ap has_failed so })
    (λ range c fine. tt) (λ e key piece bytes c same given found none fine. tt)
    (λ e key piece bytes same given found. tt) (λ key piece bytes c fine has. tt) (λ e key bytes same given found. tt)
    query block tt (λ from len. tt) (λ series are reference sought from len. tt) (λ made number c spoilt fine. tt) (λ after triples. ends (gives triples after)) (λ made after series all are read_so set fine. tt) [] cache tt

-- ---- calls

abbrev ShowsTold : List Entry → Called → Type 0
ShowsTold made (took taken cache) = Unit {0}
ShowsTold made (broke why cache) = ShowsBreak made why

ends_behind : (Such : Reply → Type 0) (own others : List Entry) (number : ℕ) → EndsWith others number Such → EndsWith (own ++ others) number Such
ends_behind Such own others number is =
    record { front = own ++ is.front; last = is.last; parts = ap (λ es. own ++ es) is.parts ∙ sym (append_assoc own is.front (is.last ∷ [])); is = is.is; replied = is.replied }

behind : (own others : List Entry) (told : Called) → ShowsTold others told → ShowsTold (own ++ others) told
behind own others (took taken cache) is = tt
behind own others (broke (missing number) cache) is = ends_behind IsAbsent own others number is
behind own others (broke (damaged number) cache) is = tt
behind own others (broke (fault number) cache) is = ends_behind IsFailed own others number is

abbrev AllShow : Query → List Block → Type 0
AllShow query blocks = (taken : List Triple) (before : Cache) (entries : List Entry) (told : Called) → Runs (reading query blocks taken before) entries (Some told) → ShowsTold entries told

first_shows : (query : Query) (block : Block) (blocks : List Block) → AllShow query blocks → AllShow query (block ∷ blocks)
first_shows query block blocks later taken before entries told run =
    by_parts (parts (block_call query block before) (after_block taken (reading query blocks)) entries (Some told) run)
  where
    by_end : (own others : List Entry) (last : BlockEnd) → ShowsEnd own last → Runs (after_block taken (reading query blocks) last) others (Some told) → ShowsTold (own ++ others) told
    by_end own others (gives share next) shows run = behind own others told (later (taken ++ share) next others told run)
    by_end own others (breaks_off why next) shows (none, inl wrong) = absurd (cc (wrong))
    by_end own others (breaks_off why next) shows (none, inr is) =
        let same : told ≡ broke why next = cc (is) in
        subst (ShowsTold (own ++ others)) (sym same) (subst (λ es. ShowsBreak es why) (sym (ap (λ es. own ++ es) none ∙ append-nil own)) shows)

    by_parts : Parts (block_call query block before) (after_block taken (reading query blocks)) entries (Some told) → ShowsTold entries told
    by_parts (broken first none) = absurd (cc (none))
    by_parts (both own others last is first rest) =
        subst (λ es. ShowsTold es told) (sym is)
        (by_end own others last (end_is (λ e. Unit {0}) ShowsEnd (block_call query block before) [] own last (block_shows query block before) (nothing_given own) first) rest)

reading_shows : (query : Query) (blocks : List Block) → AllShow query blocks
reading_shows query [] taken before entries told (none, inl wrong) = absurd (cc (wrong))
reading_shows query [] taken before entries told (none, inr is) = let same : told ≡ took taken before = cc (is) in subst (ShowsTold entries) (sym same) tt
reading_shows query (block ∷ blocks) taken before entries told run = first_shows query block blocks (reading_shows query blocks) taken before entries told run

told_missing : (sources : List ℕ) (made : List Entry) (told : Called) (call : CallEnd) (number : ℕ) → Gives sources told call → call.end ≡ ended.Missing number → ShowsTold made told → EndsWith made number IsAbsent
told_missing sources made (took taken cache) call number ((series, set, is, merge, of), same) so shows = absurd (cc (is, so))
told_missing sources made (broke (missing n) cache) call number (is, same) so shows = let one : n ≡ number = cc (is, so) in subst (λ m. EndsWith made m IsAbsent) one shows
told_missing sources made (broke (damaged n) cache) call number (is, same) so shows = absurd (cc (is, so))
told_missing sources made (broke (fault n) cache) call number (is, same) so shows = absurd (cc (is, so))

told_failed : (sources : List ℕ) (made : List Entry) (told : Called) (call : CallEnd) (number : ℕ) → Gives sources told call → call.end ≡ ended.Fault number → ShowsTold made told → EndsWith made number IsFailed
told_failed sources made (took taken cache) call number ((series, set, is, merge, of), same) so shows = absurd (cc (is, so))
told_failed sources made (broke (missing n) cache) call number (is, same) so shows = absurd (cc (is, so))
told_failed sources made (broke (damaged n) cache) call number (is, same) so shows = absurd (cc (is, so))
told_failed sources made (broke (fault n) cache) call number (is, same) so shows = let one : n ≡ number = cc (is, so) in subst (λ m. EndsWith made m IsFailed) one shows

pub shows_missing : (view : View) (query : Query) (before : Cache) (entries : List Entry) (call : CallEnd) (number : ℕ) → SeriesRun view query before entries (Some call) → call.end ≡ ended.Missing number
    → EndsWith entries number IsAbsent
shows_missing view query before entries call number (told, run, ended_so) is =
    told_missing (sources_of view.kept) entries told call number ended_so is (reading_shows query (to_read query view.kept) [] before entries told run)

pub shows_failed : (view : View) (query : Query) (before : Cache) (entries : List Entry) (call : CallEnd) (number : ℕ) → SeriesRun view query before entries (Some call) → call.end ≡ ended.Fault number
    → EndsWith entries number IsFailed
shows_failed view query before entries call number (told, run, ended_so) is =
    told_failed (sources_of view.kept) entries told call number ended_so is (reading_shows query (to_read query view.kept) [] before entries told run)
