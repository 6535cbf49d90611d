-- A compaction or a cleaning that ended with a failed call has an entry of that number which was answered so.
use Rattle.std.proofs.Common.{◌≡◌, ℕ, List, [], ◌∷◌, ◌++◌, Contains, Option, Some, None, refl, sym, ap, subst}
use Rattle.std.proofs.lemmas.List.Elements.{Contains-append_left, Contains-append_right}
use Rattle.block_keys.specs.declared.key.Key.{Key}
use Rattle.block_keys.specs.declared.key.Key.TheVariants as key
use Rattle.block_meta.specs.MetaFields.{MarkFields}
use Rattle.block_meta.specs.OfBlocks.{block_mark}
use Rattle.moment_core.specs.declared.rules.Rules.{Rules}
use Rattle.world_core.specs.Limits.{most_listed}
use Rattle.world_core.specs.Operations.{has_failed}
use Rattle.world_core.specs.Plans.{Plan, ends, choose, after_delete}
use Rattle.world_core.specs.Walks.{ulids_in}
use Rattle.world_core.specs.declared.entry.Entry.{Entry}
use Rattle.world_core.specs.declared.op.Op.TheVariants as op
use Rattle.world_core.specs.declared.reply.Reply.{Reply}
use Rattle.world_core.specs.declared.reply.Reply.TheVariants as reply
use Rattle.world_core.proofs.PlanLaws.{EndsAre, end_is, nothing_given}
use Rattle.world_core.proofs.PlanWords.{chosen, gets_are, pages_are}
use Rattle.meta_fetcher.specs.Syncs.{SyncRun}
use Rattle.meta_fetcher.specs.declared.sync.SyncEnd.TheVariants as fetched
use Rattle.compactor.specs.Compactions.{CompactRun, rounds, sync_rules}
use Rattle.compactor.specs.declared.compact_end.CompactEnd.TheVariants as compact
use Rattle.cleaner.specs.Cleanings.{CleanRun, Counts, cleaning, deleting, deletion, if_mark, looking, none_deleted, one_block_more, one_partial_more, reads_meta, rules_of, walk_ends}
use Rattle.cleaner.specs.Marks.{is_old_block, is_old_mark}
use Rattle.cleaner.specs.Objects.{objects_of}
use Rattle.cleaner.specs.declared.clean.CleanEnd.{CleanEnd}
use Rattle.cleaner.specs.declared.clean.CleanEnd.TheVariants as clean
use Rattle.cleaner.specs.declared.clean_rules.CleanRules.{CleanRules}
use Rattle.lifecycle_core.proofs.misses.Faults.{ShowsFault, sync_shows}
use Rattle.lifecycle_core.proofs.misses.RoundEnds.{Any, EndsIn, Shown, by_rounds, by_sync, ends_in, rounds_end, shown_failed}

-- ---- cleanings

abbrev CleanShown : List Entry → CleanEnd → Type 0
CleanShown made (clean.Fault number) = ShowsFault made number
CleanShown made other = Unit {0}

abbrev Cleans : List Entry → Plan CleanEnd → Type 0
Cleans made plan = EndsAre Any CleanShown made plan

delete_by : (made : List Entry) (e : Entry) (next : Plan CleanEnd) (r : Reply) → e.reply ≡ r → Cleans (made ++ e ∷ []) next → Cleans (made ++ e ∷ []) (after_delete r next (ends (clean.Fault e.seq)))
delete_by made e next reply.Deleted same on = on
delete_by made e next (reply.Failed landed) same on = shown_failed made e (ap has_failed same)
delete_by made e next reply.Clocked same on = tt
delete_by made e next reply.Stored same on = tt
delete_by made e next (reply.Found bytes) same on = tt
delete_by made e next reply.Absent same on = tt
delete_by made e next (reply.Names names) same on = tt

deleting_end : (keys : List Key) (next : Plan CleanEnd) (made : List Entry) → ((made : List Entry) → Cleans made next) → Cleans made (deleting keys next)
deleting_end [] next made on = on made
deleting_end (k ∷ keys) next made on = λ e is given. delete_by made e (deleting keys next) e.reply refl (deleting_end keys next (made ++ e ∷ []) on)

deletion_end : (rules : CleanRules) (ulid : ℕ) (next : Plan CleanEnd) (made : List Entry) → ((made : List Entry) → Cleans made next) → Cleans made (deletion rules ulid next)
deletion_end rules ulid next made on =
    pages_are walk_ends (λ cursor. op.BlockPage ulid cursor rules.page_limit) rules.page_limit (λ names. deleting (objects_of ulid names) next) Any CleanShown (λ made listed. Unit {0})
    (λ made listed names e own is given replied up. tt)
    (λ made listed names e own is given replied up short. deleting_end (objects_of ulid (listed ++ names)) next (made ++ e ∷ []) on)
    (λ made e given failed. shown_failed made e failed)
    (λ made listed names e own is given replied down. tt)
    (λ made. tt)
    most_listed made [] tt

mark_end : (seq : ℕ) (mark : Option MarkFields) (next : MarkFields → Plan CleanEnd) (made : List Entry) → ((mark : MarkFields) → Cleans made (next mark)) → Cleans made (if_mark seq mark next)
mark_end seq None next made on = tt
mark_end seq (Some mark) next made on = on mark

meta_end : (rules : CleanRules) (ulid : ℕ) (kept deleted : Plan CleanEnd) (made : List Entry) → ((made : List Entry) → Cleans made kept) → ((made : List Entry) → Cleans made deleted) → Cleans made (reads_meta rules ulid kept deleted)
meta_end rules ulid kept deleted made keep delete =
    gets_are Any CleanShown made clean.Fault (key.Meta ulid) (λ e bytes. kept) (λ e. choose (is_old_block ulid e.moment rules.partial) deleted kept)
    (λ e bytes is given found. keep (made ++ e ∷ []))
    (λ e is given absent. chosen (Cleans (made ++ e ∷ [])) (is_old_block ulid e.moment rules.partial) deleted kept (λ old. delete (made ++ e ∷ [])) (λ young. keep (made ++ e ∷ [])))
    (λ e is given failed. shown_failed made e failed)

looking_end : (rules : CleanRules) (counts : Counts) (ulids : List ℕ) (made : List Entry) → Cleans made (looking rules counts ulids)
looking_end rules counts [] made = tt
looking_end rules counts (ulid ∷ ulids) made =
    gets_are Any CleanShown made clean.Fault (key.Mark ulid)
    (λ e bytes. if_mark e.seq (block_mark ulid bytes) (λ mark.
    choose (is_old_mark mark e.moment rules.delete) (deletion rules ulid (looking rules (one_block_more counts) ulids)) (looking rules counts ulids)))
    (λ e. reads_meta rules ulid (looking rules counts ulids) (deletion rules ulid (looking rules (one_partial_more counts) ulids)))
    (λ e bytes is given found. mark_end e.seq (block_mark ulid bytes)
    (λ mark. choose (is_old_mark mark e.moment rules.delete) (deletion rules ulid (looking rules (one_block_more counts) ulids)) (looking rules counts ulids)) (made ++ e ∷ [])
    (λ mark. chosen (Cleans (made ++ e ∷ [])) (is_old_mark mark e.moment rules.delete) (deletion rules ulid (looking rules (one_block_more counts) ulids)) (looking rules counts ulids)
    (λ old. deletion_end rules ulid (looking rules (one_block_more counts) ulids) (made ++ e ∷ []) (λ made. looking_end rules (one_block_more counts) ulids made))
    (λ young. looking_end rules counts ulids (made ++ e ∷ []))))
    (λ e is given absent. meta_end rules ulid (looking rules counts ulids) (deletion rules ulid (looking rules (one_partial_more counts) ulids)) (made ++ e ∷ [])
    (λ made. looking_end rules counts ulids made)
    (λ made. deletion_end rules ulid (looking rules (one_partial_more counts) ulids) made (λ made. looking_end rules (one_partial_more counts) ulids made)))
    (λ e is given failed. shown_failed made e failed)

cleaning_end : (rules : Rules) → Cleans [] (cleaning rules)
cleaning_end rules =
    pages_are walk_ends (λ cursor. op.RootPage cursor rules.page_limit) rules.page_limit (λ names. looking (rules_of rules) none_deleted (ulids_in names)) Any CleanShown (λ made listed. Unit {0})
    (λ made listed names e own is given replied up. tt)
    (λ made listed names e own is given replied up short. looking_end (rules_of rules) none_deleted (ulids_in (listed ++ names)) (made ++ e ∷ []))
    (λ made e given failed. shown_failed made e failed)
    (λ made listed names e own is given replied down. tt)
    (λ made. tt)
    most_listed [] [] tt

pub cleaning_shows : (rules : Rules) (entries : List Entry) (number : ℕ) → CleanRun rules entries (Some (clean.Fault number)) → ShowsFault entries number
cleaning_shows rules entries number run = end_is Any CleanShown (cleaning rules) [] entries (clean.Fault number) (cleaning_end rules) (nothing_given entries) run

-- ---- compactions

module _ (rules : Rules) (entries : List Entry) (number : ℕ) where
  of_own : (own others : List Entry) (n : ℕ) → entries ≡ own ++ others → ShowsFault own n → number ≡ n → ShowsFault entries number
  of_own own others n same (e, among, is, failed) one =
      (e, subst (λ (es : List Entry). Contains es e) (sym same) (Contains-append_left own others e among), subst (λ (m : ℕ). e.seq ≡ m) (sym one) is, failed)

  of_others : (own others : List Entry) → entries ≡ own ++ others → ShowsFault others number → ShowsFault entries number
  of_others own others same (e, among, is, failed) =
      (e, subst (λ (es : List Entry). Contains es e) (sym same) (Contains-append_right own others e among), is, failed)

  of_end : EndsIn rules entries (compact.Fault number) → ShowsFault entries number
  of_end (by_sync own others (fetched.View view) same first is) = absurd is
  of_end (by_sync own others (fetched.Fault n) same first is) = of_own own others n same (sync_shows (sync_rules rules) own (Some (fetched.Fault n)) first n refl) (cc (is))
  of_end (by_sync own others (fetched.Damaged n) same first is) = absurd (cc (is))
  of_end (by_sync own others fetched.TooMany same first is) = absurd (cc (is))
  of_end (by_rounds own others view same first run) =
      of_others own others same (end_is Any Shown (rounds rules.replicas rules.retention view) [] others (compact.Fault number) (rounds_end rules.replicas rules.retention view []) (nothing_given others) run)

  pub compaction_shows : CompactRun rules entries (Some (compact.Fault number)) → ShowsFault entries number
  compaction_shows run = of_end (ends_in rules entries (compact.Fault number) run)

-- a compaction that listed too many names did so in its sync
module _ (rules : Rules) (entries : List Entry) where
  abbrev ListsMany : Type 0
  ListsMany = (own : List Entry) × (others : List Entry) × (entries ≡ own ++ others) × SyncRun (sync_rules rules) own (Some fetched.TooMany)

  many_of : EndsIn rules entries compact.TooMany → ListsMany
  many_of (by_sync own others (fetched.View view) same first is) = absurd is
  many_of (by_sync own others (fetched.Fault n) same first is) = absurd (cc (is))
  many_of (by_sync own others (fetched.Damaged n) same first is) = absurd (cc (is))
  many_of (by_sync own others fetched.TooMany same first is) = (own, others, same, first)
  many_of (by_rounds own others view same first run) =
      absurd (end_is Any Shown (rounds rules.replicas rules.retention view) [] others compact.TooMany (rounds_end rules.replicas rules.retention view []) (nothing_given others) run)

  pub compaction_lists_many : CompactRun rules entries (Some compact.TooMany) → ListsMany
  compaction_lists_many run = many_of (ends_in rules entries compact.TooMany run)
