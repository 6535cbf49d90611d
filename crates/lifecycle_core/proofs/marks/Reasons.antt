-- What a compaction had seen of a block that it marks.
use Rattle.base.proofs.Membership.{of_filter, of_map}
use Rattle.std.proofs.Common.{◌≡◌, ℕ, ◌==◌, Bool, true, false, cond, List, ◌∷◌, ◌++◌, Contains, Some, None, sym, ◌∙◌, ap, subst, append_assoc, arith}
use Rattle.std.proofs.lemmas.Bool.Decides.{nat_tests}
use Rattle.std.proofs.lemmas.List.Elements.{All-contains}
use Rattle.block_meta.specs.MetaFields.{MetaFields, fields_of}
use Rattle.block_meta.specs.MetaReading.{meta_of_text}
use Rattle.block_meta.specs.declared.meta.Meta.{Meta}
use Rattle.moment_core.specs.declared.rules.Rules.{Rules}
use Rattle.world_core.specs.declared.entry.Entry.{Entry}
use Rattle.sync_filters.specs.declared.found.Found.{Found}
use Rattle.meta_fetcher.specs.Sightings.{covered_by, passed_by}
use Rattle.meta_fetcher.specs.declared.rules.SyncRules.{SyncRules}
use Rattle.meta_fetcher.specs.declared.view.View.{View}
use Rattle.compactor.specs.Compactions.{metas_of, sync_rules}
use Rattle.lifecycle_core.specs.CompactionOps.{HasSynced, IsKept, IsReason, WasCompacted, compacted, covered, expired}
use Rattle.lifecycle_core.specs.Sights.{IsSeen, IsSight}
use Rattle.lifecycle_core.proofs.activities.SyncSights.{sync_sight}
use Rattle.lifecycle_core.proofs.activities.CompactionGroups.{plan_among, named_is, of_passed}
use Rattle.lifecycle_core.proofs.blocks.PlanMembers.{member_within}

-- ---- what a view's sync saw

covered_found : (rules : SyncRules) (found : List Found) (f : Found) → Contains (covered_by rules found) f → Contains found f
covered_found rules found f among = of_filter _ found f (of_filter _ _ f (of_filter _ _ f (of_filter _ (passed_by rules found) f among)))

pub kept_is_seen : (rules : SyncRules) (entries : List Entry) (view : View) → IsSight rules entries view → (f : Found) → Contains view.kept f → IsSeen entries f
kept_is_seen rules entries view sight f among = All-contains (IsSeen entries) sight.found f sight.seen (of_passed rules sight.found f (subst (λ fs. Contains fs f) sight.kept among))

pub covered_is_seen : (rules : SyncRules) (entries : List Entry) (view : View) → IsSight rules entries view → (f : Found) → Contains view.covered f → IsSeen entries f
covered_is_seen rules entries view sight f among = All-contains (IsSeen entries) sight.found f sight.seen (covered_found rules sight.found f (subst (λ fs. Contains fs f) sight.covered among))

-- what entries saw, more entries saw
pub seen_by_more : (entries others : List Entry) (f : Found) → IsSeen entries f → IsSeen (entries ++ others) f
seen_by_more entries others f is = record {
  front = is.front;
  looked = is.looked;
  middle = is.middle;
  read = is.read;
  back = is.back ++ others;
  parts = ap (λ es. es ++ others) is.parts ∙ append_assoc is.front (is.looked ∷ (is.middle ++ is.read ∷ is.back)) others
      ∙ ap (λ es. is.front ++ is.looked ∷ es) (append_assoc is.middle (is.read ∷ is.back) others);
  small = is.small;
  asks_mark = is.asks_mark;
  tells = is.tells;
  mark_moment = is.mark_moment;
  asks_meta = is.asks_meta;
  bytes = is.bytes;
  shows = is.shows;
  meta_is = is.meta_is;
  meta_moment = is.meta_moment;
}

-- by the entries of a compaction
module _ (rules : Rules) (own : List Entry) (view : View) (synced : HasSynced rules own view) where
  pub sight : IsSight (sync_rules rules) synced.sync view
  sight = sync_sight (sync_rules rules) synced.sync view synced.run

  pub kept_seen : (f : Found) → Contains view.kept f → IsSeen own f
  kept_seen f among = subst (λ es. IsSeen es f) (sym synced.parts) (seen_by_more synced.sync synced.others f (kept_is_seen (sync_rules rules) synced.sync view sight f among))

  pub covered_seen : (f : Found) → Contains view.covered f → IsSeen own f
  covered_seen f among = subst (λ es. IsSeen es f) (sym synced.parts) (seen_by_more synced.sync synced.others f (covered_is_seen (sync_rules rules) synced.sync view sight f among))

-- a meta that was read of a block names it
named_test : (ulid : ℕ) (m meta : MetaFields) (b : Bool) → (m.ulid == ulid) ≡ b → cond b (Some m) None ≡ Some meta → meta.ulid ≡ ulid
named_test ulid m meta true test is = let same : m ≡ meta = cc (is) in ap (λ (x : MetaFields). x.ulid) (sym same) ∙ grind (arith, nat_tests, test)
named_test ulid m meta false test is = absurd (cc (is))

-- an input of a block that was compacted is one that the view keeps
pub input_is_kept : (rules : Rules) (own : List Entry) (view : View) (ulid : ℕ) → HasSynced rules own view → WasCompacted rules own view ulid → (f : Found) × IsKept view ulid f
input_is_kept rules own view ulid synced was =
    let merged = (was.made).merged in
    let same = was.same in
    let m = was.input.0 in
    let member = plan_among (merged.group).members merged.metas merged.planned m was.input.1 in
    let meta = member_within rules.replicas (metas_of (was.made).view.kept) merged.groups merged.grouped merged.group merged.among m member in
    let f = of_map (λ (b : Found). b.meta) (was.made).view.kept m meta in
    let among : Contains view.kept f.0 = subst (λ (v : View). Contains v.kept f.0) same f.1 in
    let seen = kept_seen rules own view synced f.0 among in
    let name : (f.0).meta.ulid ≡ (f.0).ulid = named_is (f.0).ulid (meta_of_text seen.bytes) (fields_of (f.0).meta) seen.meta_is in
    (f.0, (among, sym name ∙ ap (λ (x : Meta). x.ulid) f.2 ∙ was.input.2))

-- the block of a mark was seen
pub reason_seen : (rules : Rules) (own : List Entry) (view : View) (ulid : ℕ) → HasSynced rules own view → IsReason rules own view ulid → (f : Found) × IsSeen own f × (f.ulid ≡ ulid)
reason_seen rules own view ulid synced (covered among) =
    let f = of_map (λ (b : Found). b.ulid) view.covered ulid among in (f.0, covered_seen rules own view synced f.0 f.1, f.2)
reason_seen rules own view ulid synced (expired f kept old) = (f, kept_seen rules own view synced f kept.0, kept.1)
reason_seen rules own view ulid synced (compacted was) =
    let f = input_is_kept rules own view ulid synced was in (f.0, kept_seen rules own view synced f.0 (f.1).0, (f.1).1)
