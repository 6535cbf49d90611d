-- A compaction that found an object missing: its last entry is a read of an index that shows nothing, or of a segment that an index which it
-- read before names.
use Rattle.std.proofs.Common.{◌≡◌, ℕ, append_assoc, ◌∙◌, List, [], ◌∷◌, ◌++◌, Some, sym, ap}
use Rattle.std.proofs.lemmas.List.Elements.{Contains-append_right}
use Rattle.moment_core.specs.declared.rules.Rules.{Rules}
use Rattle.world_core.specs.declared.entry.Entry.{Entry}
use Rattle.world_core.proofs.PlanLaws.{end_is, nothing_given}
use Rattle.meta_fetcher.specs.declared.sync.SyncEnd.TheVariants as fetched
use Rattle.compactor.specs.Compactions.{CompactRun, rounds}
use Rattle.compactor.specs.declared.compact_end.CompactEnd.TheVariants as compact
use Rattle.lifecycle_core.proofs.misses.RoundEnds.{Any, EndsIn, IsOwed, Shown, ShowsMissing, by_rounds, by_sync, ends_in, owed_index, owed_segment, rounds_end}

module _ (rules : Rules) (entries : List Entry) (number : ℕ) where
  -- what entries owe, more entries before them owe
  more_owed : (own front : List Entry) (e : Entry) → IsOwed front e → IsOwed (own ++ front) e
  more_owed own front e (owed_index ulid wants) = owed_index ulid wants
  more_owed own front e (owed_segment ulid place wants one among index bytes shows count named below) = owed_segment ulid place wants one (Contains-append_right own front one among) index bytes shows count named below

  of_others : (own others : List Entry) → entries ≡ own ++ others → ShowsMissing others number → ShowsMissing entries number
  of_others own others same s = record {
    front = own ++ s.front;
    missed = s.missed;
    are = same ∙ ap (λ (es : List Entry). own ++ es) s.are ∙ sym (append_assoc own s.front (s.missed ∷ []));
    is = s.is;
    absent = s.absent;
    owed = more_owed own s.front s.missed s.owed;
  }

  of_end : EndsIn rules entries (compact.Missing number) → ShowsMissing entries number
  of_end (by_sync own others (fetched.View view) same first is) = absurd is
  of_end (by_sync own others (fetched.Fault n) same first is) = absurd (cc (is))
  of_end (by_sync own others (fetched.Damaged n) same first is) = absurd (cc (is))
  of_end (by_sync own others fetched.TooMany same first is) = absurd (cc (is))
  of_end (by_rounds own others view same first run) =
      of_others own others same (end_is Any Shown (rounds rules.replicas rules.retention view) [] others (compact.Missing number) (rounds_end rules.replicas rules.retention view []) (nothing_given others) run)

  pub compaction_misses : CompactRun rules entries (Some (compact.Missing number)) → ShowsMissing entries number
  compaction_misses run = of_end (ends_in rules entries (compact.Missing number) run)
