-- What is told of an entry along a walk, and how the walk goes on.
use Rattle.std.proofs.Common.{◌≡◌, ◌⊎◌, inl, inr, ℕ, ◌+◌, ◌<◌, ◌≤◌, List, [], ◌∷◌, ◌++◌, Contains, length, Option, Some, None, refl, sym, ◌∙◌, subst, arith}
use Rattle.std.specs.BTreeMap.{get}
use Rattle.std.specs.Ordering.{nat_cmp}
use Rattle.std.proofs.lemmas.List.{length-append}
use Rattle.std.proofs.lemmas.List.Sums.{fold-append}
use Rattle.block_keys.specs.declared.key.Key.{Key}
use Rattle.block_keys.specs.declared.key.Key.TheVariants.{Index, Mark, Meta, Segment}
use Rattle.bucket_core.specs.Contents.{Contents, nothing}
use Rattle.world_core.specs.Standing.{left_by, stands}
use Rattle.world_core.specs.Worlds.{IsJournal, IsOfBytes}
use Rattle.world_core.specs.declared.entry.Entry.{Entry}
use Rattle.script_core.specs.Lawful.{IsLawfulScript}
use Rattle.breach_finding.specs.Standings.{IsStanding}
use Rattle.breach_finding.specs.declared.standing.Standing.{Standing}
use Rattle.lifecycle_core.specs.Breaches.{HoldsSamples, IsBreach, IsKept, IsSeatOf, ReadsSamples, Refuses, Rule, honesty, mark_time, rank, read_key, read_time, sync_time, upload_time, view_time}
use Rattle.world_core.specs.Journals.{of_seat}
use Rattle.lifecycle_core.specs.Setting.{Setting}
use Rattle.lifecycle_core.specs.Tasks.{sync_rules}
use Rattle.lifecycle_core.proofs.journals.Positions.{stands_in}
use Rattle.lifecycle_core.proofs.journals.Rising.{journal_rises}
use Rattle.lifecycle_core.proofs.journals.Told.{Rises}
use Rattle.lifecycle_core.proofs.phases.OneSeat.{one_gateway}
use Rattle.breach_finding.specs.Judging.{IsJudged, IsLateTold, first_of, refusal_of}
use Rattle.breach_finding.specs.Seats.{IsToldOf}
use Rattle.breach_finding.specs.Tables.{Numbers}
use Rattle.breach_finding.specs.Told.{IsTold}
use Rattle.breach_finding.specs.Views.{IsLastView}
use Rattle.breach_finding.specs.Walks.{IsWalked, rule_of}
use Rattle.breach_finding.specs.declared.followed.Followed.{Followed}
use Rattle.breach_finding.specs.declared.found.BreachRule.TheVariants as found
use Rattle.breach_finding.specs.declared.found.Refusal.{Refusal}
use Rattle.breach_finding.proofs.Judged.{judged_next}
use Rattle.breach_finding.proofs.LastEntries.{last_so, not_last, number_of_last}
use Rattle.breach_finding.proofs.Named.{seat_named}
use Rattle.lifecycle_core.proofs.views.OneOpening.{AllList}
use Rattle.breach_finding.proofs.SyncTimes.{sync_told}
use Rattle.breach_finding.proofs.ViewSteps.{sits_last, views_on, views_past}
use Rattle.breach_finding.proofs.ViewTimes.{not_read, not_seated, view_told}
use Rattle.breach_finding.proofs.WalkSteps.{kept_more, told_on, waits_on, watched_on, watched_past}

-- ---- whether an entry reads samples

holds_or_not : (key : Key) → HoldsSamples key ⊎ (HoldsSamples key → ⊥)
holds_or_not (Meta ulid) = inr (λ holds. holds)
holds_or_not (Index ulid) = inl tt
holds_or_not (Segment ulid number) = inl tt
holds_or_not (Mark ulid) = inr (λ holds. holds)

reads_or_not : (e : Entry) → ReadsSamples e ⊎ (ReadsSamples e → ⊥)
reads_or_not e = by_key (read_key e.op) refl
  where
    by_key : (o : Option Key) → read_key e.op ≡ o → ReadsSamples e ⊎ (ReadsSamples e → ⊥)
    by_key None is = inr (λ (key, reads, holds). cc (is, reads))
    by_key (Some key) is = elim (holds_or_not key) [
      | inl holds ↦ inl (key, is, holds)
      | inr none ↦ inr (λ (other, reads, holds). let same : other ≡ key = cc (is, reads) in none (subst HoldsSamples same holds))
    ]

module _ (setting : Setting) (lawful : IsLawfulScript setting.script) (tick : ℕ) (journal : List Entry) (is : IsJournal tick journal) (bytes : IsOfBytes journal) (before after : List Entry) (e : Entry) (parts : journal ≡ before ++ e ∷ after)
    (old : Followed) (walked : IsWalked setting journal before old.standing old.unders old.views) where
  abbrev R : Rule → ℕ → ℕ → Type 0
  R rule = Refuses setting journal rule before e

  rises : Rises journal
  rises = journal_rises tick journal is

  among : Contains journal e
  among = subst (λ (es : List Entry). Contains es e) (sym parts) (stands_in before after e)

  number : e.seq ≡ length before + 1
  number = is.numbered before after e parts

  low : 1 ≤ setting.script.rules.page_limit
  low = lawful.rules.page_limit_low

  named : AllList (of_seat e.seat before)
  named = seat_named setting tick journal is bytes before (e ∷ after) parts walked.kept e.seat

  seen_here : (gateway : ℕ) → IsLastView setting journal gateway e.seq (get nat_cmp old.views gateway)
  seen_here gateway = subst (λ (n : ℕ). IsLastView setting journal gateway n (get nat_cmp old.views gateway)) (sym number) (walked.seen gateway)

  -- ---- the answers

  pub found_breach : (below : ℕ) (r : Refusal) → IsJudged R below (Some r) → IsBreach setting journal (rule_of r.rule) e.seq r.found r.allowed
  found_breach below r (low_rank, refuses, others) = record { before = before; entry = e; after = after; parts = parts; is = refl; refused = refuses; first = walked.kept; foremost = λ other one two less refused. others other one two less refused }

  six : (rule : Rule) → rank rule < 6
  six honesty = omega arith
  six upload_time = omega arith
  six mark_time = omega arith
  six sync_time = omega arith
  six view_time = omega arith
  six read_time = omega arith

  pub is_kept : IsJudged R 6 None → IsKept setting journal before e
  is_kept none rule x y refuses = none rule x y (six rule) refuses

  -- what the rules on syncs and views tell, and then the rule on compactions
  pub judged_all : (late told : Option Refusal) (slow : Option (ℕ × ℕ)) → IsJudged R 5 late → IsTold (R read_time) slow → told ≡ first_of late (refusal_of found.ReadTime slow) → IsJudged R 6 told
  judged_all None told slow late slow_is is = subst (IsJudged R 6) (sym is) (judged_next R 5 found.ReadTime refl late slow slow_is)
  judged_all (Some r) told slow late slow_is is = subst (IsJudged R 6) (sym is) ((let less = late.0 in omega (arith, less)), late.1, late.2)

  next_number : length (before ++ e ∷ []) + 1 ≡ e.seq + 1
  next_number = omega (arith, length-append before (e ∷ []), number)

  stands_next : stands (before ++ e ∷ []) ≡ left_by e.op e.reply (stands before)
  stands_next = fold-append (λ (c : Contents) (x : Entry). left_by x.op x.reply c) nothing before (e ∷ [])

  -- ---- at a seat that is no gateway's

  module _ (none : (gateway : ℕ) → IsSeatOf setting gateway e.seat → ⊥) (early : IsJudged R 3 None) where
    no_sync : (x y : ℕ) → R sync_time x y → ⊥
    no_sync x y (entries, end, first, others, front, (gateway, s), begins, ends, over) = none gateway (sits_last setting journal e gateway entries front end s ends)

    pub judged_past : IsJudged R 5 None
    judged_past =
        judged_next R 4 found.ViewTime refl (judged_next R 3 found.SyncTime refl early None no_sync) None (not_seated setting journal before e none)

    pub walked_past : IsKept setting journal before e → (stood : Standing) → IsStanding journal stood (left_by e.op e.reply (stands before)) → IsWalked setting journal (before ++ e ∷ []) stood old.unders old.views
    walked_past kept stood held = record {
      held = subst (IsStanding journal stood) (sym stands_next) held;
      watched = watched_past setting before e old.unders old.unders none walked.watched;
      waits = walked.waits;
      seen = λ gateway. subst (λ (n : ℕ). IsLastView setting journal gateway n (get nat_cmp old.views gateway)) (sym next_number) (views_past setting lawful journal rises e among none gateway (get nat_cmp old.views gateway) (seen_here gateway));
      kept = kept_more setting journal before e walked.kept kept;
    }

  -- ---- at a gateway's seat

  module _ (gateway : ℕ) (sits : IsSeatOf setting gateway e.seat) (lasts : Numbers) (known : (seat : ℕ) → get nat_cmp lasts seat ≡ number_of_last (of_seat seat journal)) (early : IsJudged R 3 None)
      (new : Followed) (told : Option Refusal) (late : IsLateTold setting.script lasts old new gateway e told) where
    one : (other : ℕ) → IsSeatOf setting other e.seat → other ≡ gateway
    one other sits' = one_gateway setting lawful gateway other e.seat sits sits'

    of_sync : IsToldOf (sync_rules setting gateway) (of_seat e.seat before) e late.sync
    of_sync = told_on setting before e old.unders new.unders gateway sits one late.sync late.turn low named walked.watched

    slow_told : IsTold (R sync_time) late.slow
    slow_told =
        sync_told setting lawful journal before after e parts rises gateway sits low named late.sync late.last
        (λ last. last_so journal before after e parts rises (sym (known e.seat) ∙ late.is_last.0 last))
        (λ more. not_last journal before after e parts rises (λ same. cc (more, late.is_last.1 (known e.seat ∙ same))))
        late.slow of_sync late.slow_is

    stale_told : IsTold (R view_time) late.stale
    stale_told = elim (reads_or_not e) [
      | inl reads ↦ view_told setting journal before e lawful rises gateway sits reads (get nat_cmp old.views gateway) (seen_here gateway) late.stale (late.stale_is reads)
      | inr none ↦ subst (IsTold (R view_time)) (sym (late.no_read none)) (not_read setting journal before e none)
    ]

    by_slow : (slow : Option (ℕ × ℕ)) → IsTold (R sync_time) slow → IsJudged R 5 (first_of (refusal_of found.SyncTime slow) (refusal_of found.ViewTime late.stale))
    by_slow None not = judged_next R 4 found.ViewTime refl (judged_next R 3 found.SyncTime refl early None not) late.stale stale_told
    by_slow (Some (x, y)) refuses = let own = judged_next R 3 found.SyncTime refl early (Some (x, y)) refuses in (omega arith, own.1, own.2)

    pub judged_late : IsJudged R 5 told
    judged_late = subst (IsJudged R 5) (sym late.answer) (by_slow late.slow slow_told)

    pub walked_on : IsKept setting journal before e → (stood : Standing) → IsStanding journal stood (left_by e.op e.reply (stands before)) → IsWalked setting journal (before ++ e ∷ []) stood new.unders new.views
    walked_on kept stood held = record {
      held = subst (IsStanding journal stood) (sym stands_next) held;
      watched = watched_on setting before e old.unders new.unders gateway sits one late.sync late.turn low named walked.watched;
      waits = waits_on setting before e old.unders new.unders gateway sits one late.sync late.turn low named walked.watched walked.waits;
      seen = λ other.
          subst (λ (n : ℕ). IsLastView setting journal other n (get nat_cmp new.views other)) (sym next_number)
          (subst (IsLastView setting journal other (e.seq + 1)) (sym (late.views other))
          (views_on setting lawful journal before after e parts rises gateway sits low named late.sync of_sync other (get nat_cmp old.views other) (seen_here other)));
      kept = kept_more setting journal before e walked.kept kept;
    }
