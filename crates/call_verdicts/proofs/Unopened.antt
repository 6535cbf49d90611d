-- A call whose run is made ready, or that ends before: each way out of the opening as one record.
use Rattle.std.proofs.Common.{◌≡◌, ◌≢◌, ℕ, ◌+◌, ◌<◌, List, [], ◌∷◌, inl, inr, refl, sym, ◌∙◌, ap, subst, arith}
use Rattle.std.specs.Prelude.{Option, Some, None, IfErr, IfOk, IfSome, IsSome, IsSomeAnd, MatchResult, Result, Ok, Err, is_some}
use Rattle.bucket_core.specs.Asking.{AsksOnce}
use Rattle.bucket_core.specs.Causes.{CountsFaults, Rose, opening_failed}
use Rattle.bucket_core.specs.Contents.{Contents}
use Rattle.bucket_core.specs.Openings.{IsBucketAsTold}
use Rattle.bucket_core.specs.Pages.{IsPage}
use Rattle.bucket_core.specs.Told.{BucketTold, ShelfTold, SiteTold, SourceTold, next_bucket}
use Rattle.bucket_core.specs.declared.site_refusal.SiteRefusal.{SiteRefusal}
use Rattle.bucket_core.specs.declared.site_refusal.SiteRefusal.TheVariants as site
use Rattle.world_core.specs.Asking.{opening}
use Rattle.world_core.specs.Worlds.{WorldView}
use Rattle.world_core.specs.declared.entry.Entry.{Entry}
use Rattle.world_core.specs.declared.world.OpenRefusal.{OpenRefusal}
use Rattle.world_core.specs.declared.world.OpenRefusal.TheVariants as unopened
use Rattle.script_core.specs.Lawful.{IsLawfulScript}
use Rattle.script_core.specs.declared.script.Script.{Script}
use Rattle.report_lines.specs.lifecycle_core.specs.Setting.{setting_of}
use Rattle.call_verdicts.specs.Asked.{WasAsked, WasReadFor, names_asked, shelf_ulids}
use Rattle.call_verdicts.specs.Kept.{AsksNoBucket, HoldsNothing, IsOpened, IsUnfailed}
use Rattle.call_verdicts.specs.Openings.{HasEnded, HasNotOpened, IsNewWorld, IsOpen, IsShelfOpen, IsUnopened, IsUnused, around_ended}
use Rattle.call_verdicts.specs.Outside.{Outside, outside, site_call}
use Rattle.call_verdicts.specs.Undone.{IsUndone}
use Rattle.call_verdicts.specs.Verdicts.{IfShort, IsEarly, IsScriptRead, IsUnread, SiteFailed, held_in}
use Rattle.call_verdicts.specs.declared.ended.Ended.{Ended}
use Rattle.call_verdicts.specs.declared.verdict.Verdict.{Verdict}
use Rattle.call_verdicts.specs.declared.verdict.Verdict.TheVariants as verdict
use Rattle.call_verdicts.proofs.BucketAsked.{back_opened, just_handed, none_asked, none_opened, only_opened, unopened_asked, unshelved_asked}
use Rattle.call_verdicts.proofs.Checks.{back_none, handed_none, not_named}
use Rattle.call_verdicts.proofs.HandedBack.{back_of_none, if_map}
use Rattle.call_verdicts.proofs.Opened.{first_none, first_told, opened_told, unhanded_told, unshelved_told}
use Rattle.call_verdicts.proofs.Openings.{both_gone, both_there, handed_one, no_shelf, open_behind, refusal_calm, refusal_failed, short_both, unopened_told, untouched_gone, untouched_kept}
use Rattle.call_verdicts.proofs.ShelfReads.{read_for, read_none}
use Rattle.call_verdicts.proofs.Unfailed.{short_map, short_of, short_refused, short_unopened, unfailed_at, unfailed_none}
use Rattle.call_verdicts.proofs.Verdicts.{before_opening, behind_opening, if_told, unread, worked_early}

-- ---- no world

-- the world was not opened
pub unopened_world : {B F : Type 0} (tells : B → BucketTold) (script : Script) (bucket store : B) (refusal : OpenRefusal) (said : Verdict) (empty : List Entry) (ended : Ended B F)
    → ended.verdict ≡ said → ended.journal ≡ Some empty → empty ≡ [] → ended.store ≡ Some store → IsUnused (tells bucket)
    → (refusal ≡ unopened.Failed → Rose (tells bucket).faults (tells store).faults) → ((name : List ℕ) → refusal ≡ unopened.NotEmpty name → IfSome (tells bucket).contents (λ c. IsPage c [] [] 1 (name ∷ [])))
    → (refusal ≢ unopened.Failed → (tells store).faults ≡ (tells bucket).faults) → (tells store).contents ≡ (tells bucket).contents → AsksOnce (tells bucket).asked (tells store).asked opening refusal unopened.NoMemory
    → (refusal ≡ unopened.Failed → said ≡ verdict.SiteFault) → ((name : List ℕ) → refusal ≡ unopened.NotEmpty name → said ≡ verdict.NotEmpty name) → (refusal ≡ unopened.NoMemory → said ≡ verdict.NoMemory) → IsEarly said
    → IsUnopened tells script (tells bucket).contents (IsSomeAnd ended.store (λ s. 0 < (tells s).faults)) ended
unopened_world tells script bucket store refusal said empty ended is kept none handed unused fails stands calm same asks failed other short early = record {
  cause =
      opened_told IsUndone (setting_of script) refl (tells bucket).contents tells store refusal ended.verdict empty ended.journal ended.store kept none handed
      (λ f. let rose = fails f in let fresh = unused.unfailed in omega (arith, fresh, rose)) stands (λ f. is ∙ failed f) (λ name f. is ∙ other name f) (λ f. is ∙ short f);
  first = first_told tells bucket store refusal ended.verdict ended.store handed same stands (λ f. is ∙ failed f) (λ name f. is ∙ other name f) (λ f. is ∙ short f);
  early = subst IsEarly (sym is) early;
  unfailed = short_unopened refusal ended.verdict (IsUnfailed tells 0 ended.journal ended.store) (λ f. is ∙ failed f) (λ never. unfailed_at tells 0 ended.journal ended.store store handed (calm never ∙ unused.unfailed));
  kept = both_there ended.journal ended.store empty store kept handed;
  back = back_of_none tells store empty ended.journal ended.store none kept handed;
  untouched = untouched_kept tells bucket store ended.journal ended.store empty kept handed same;
  asked = λ never. unopened_asked tells bucket store refusal ended.verdict ended.journal ended.store empty kept none handed (λ f. is ∙ short f) asks (just_handed tells bucket unused.unasked) never;
  opened = back_opened tells ended.store store handed (only_opened tells bucket store refusal unopened.NoMemory asks (just_handed tells bucket unused.unasked));
}

-- the shelf was not opened
pub unshelved : {B F : Type 0} (tells : B → BucketTold) (bucket : B) (refusal : SiteRefusal) (said : Verdict) (empty : List Entry) (ended : Ended B F)
    → ended.verdict ≡ said → ended.journal ≡ Some empty → empty ≡ [] → ended.store ≡ Some bucket → IsUnused (tells bucket)
    → (refusal ≡ site.Failed → said ≡ verdict.SiteFault) → (refusal ≡ site.NoMemory → said ≡ verdict.NoMemory) → IsEarly said
    → (script : Script) → IsUnopened tells script (tells bucket).contents (refusal ≡ site.Failed) ended
unshelved tells bucket refusal said empty ended is kept none handed unused failed short early script = record {
  cause = unshelved_told IsUndone (setting_of script) refl (tells bucket).contents refusal ended.verdict empty ended.journal kept none (λ f. is ∙ failed f) (λ f. is ∙ short f);
  first = first_none (held_in tells ended.store) refusal ended.verdict (λ f. is ∙ failed f) (λ f. is ∙ short f);
  early = subst IsEarly (sym is) early;
  unfailed = short_of ended.verdict (IsUnfailed tells 0 ended.journal ended.store) (unfailed_at tells 0 ended.journal ended.store bucket handed unused.unfailed);
  kept = both_there ended.journal ended.store empty bucket kept handed;
  back = back_of_none tells bucket empty ended.journal ended.store none kept handed;
  untouched = untouched_kept tells bucket bucket ended.journal ended.store empty kept handed refl;
  asked = λ never. unshelved_asked tells bucket refusal ended.verdict ended.journal ended.store (kept ∙ ap (λ (entries : List Entry). Some entries) none) handed (λ f. is ∙ failed f) (λ f. is ∙ short f) (just_handed tells bucket unused.unasked) never;
  opened = back_opened tells ended.store bucket handed (inl (just_handed tells bucket unused.unasked));
}

-- what was just handed out was not used
pub unused_yet : (next : Option Contents) (store : BucketTold) → IsBucketAsTold next store → IsUnused store
unused_yet next store told = record { unfailed = told.fresh; unasked = told.unasked }

-- nothing is said of what is not there
none_there : {F : Type 0} (P : F → Type 0) (o : Option F) → o ≡ None → IfSome o P
none_there P None none = tt
none_there P (Some x) none = absurd (cc (none))

-- ---- what a site opened

module _ {B F : Type 0} (before mid after : SiteTold) (store : B → BucketTold) (files : F → ShelfTold) (name : List ℕ) (word : Option (List ℕ)) (script : Script) where
  -- it handed out no bucket
  pub unhanded : (refusal : SiteRefusal) (said : Verdict) (x : Ended B F) → CountsFaults before.faults after.faults (opening_failed {X = B} (Err refusal)) → after.buckets ≡ before.buckets → after.shelves ≡ before.shelves → after.shelf_at ≡ before.shelf_at
      → x.verdict ≡ said → x.journal ≡ None → x.store ≡ None → (refusal ≡ site.Failed → said ≡ verdict.SiteFault) → (refusal ≡ site.NoMemory → said ≡ verdict.NoMemory) → IsEarly said → x.shelf ≡ None → x.note ≡ None
      → HasNotOpened (site_call before after store files) name word script x
  unhanded refusal said x counts buckets shelves places is gone nothing failed short early no_files no_note = record {
    unopened = record {
      cause = unhanded_told IsUndone (setting_of script) (next_bucket before name) (SiteFailed before after store x.store) refusal x.verdict x.journal gone (λ f. inl (refusal_failed before.faults after.faults refusal counts f)) (λ f. is ∙ failed f) (λ f. is ∙ short f);
      first = first_none (held_in store x.store) refusal x.verdict (λ f. is ∙ failed f) (λ f. is ∙ short f);
      early = subst IsEarly (sym is) early;
      unfailed = short_of x.verdict (IsUnfailed store 0 x.journal x.store) (unfailed_none store 0 x.journal x.store gone);
      kept = both_gone x.journal x.store gone nothing;
      back = back_none store x.journal x.store gone nothing;
      untouched = untouched_gone store (next_bucket before name) x.journal x.store gone;
      asked = λ never. none_asked store x.verdict x.journal x.store gone;
      opened = none_opened store x.store nothing;
    };
    site = short_refused refusal x.verdict (after.faults ≡ before.faults) (λ f. is ∙ failed f) (λ other. refusal_calm before.faults after.faults refusal counts other);
    handed = handed_none before.buckets after.buckets x.store nothing buckets;
    named = before_opening refusal x.verdict (IsOpened {F = F} (Some name) word x.store x.shelf) (λ f. is ∙ failed f) (λ f. is ∙ short f);
    of = no_shelf files before after word x.shelf no_files shelves (λ gone. places);
    unfailed = none_there _ x.shelf no_files;
    unasked = none_there _ x.shelf no_files;
    note = no_note;
  }

  module _ (bucket : B) (told : IsBucketAsTold (next_bucket before name) (store bucket)) (calm : mid.faults ≡ before.faults) (one : mid.buckets ≡ before.buckets + 1) (shelves : mid.shelves ≡ before.shelves) (places : mid.shelf_at ≡ before.shelf_at) (still : AsksNoBucket mid after) where
    -- it handed out the bucket, and no shelf
    pub unshelved_site : (refusal : SiteRefusal) (x : Ended B F) → (refusal ≡ site.Failed → Rose mid.faults after.faults) → (refusal ≢ site.Failed → after.faults ≡ mid.faults) → after.shelves ≡ mid.shelves → IsSome word
        → (refusal ≡ site.Failed → x.verdict ≡ verdict.SiteFault) → (refusal ≡ site.NoMemory → x.verdict ≡ verdict.NoMemory) → IsUnopened store script (store bucket).contents (refusal ≡ site.Failed) x → x.store ≡ Some bucket → x.shelf ≡ None → x.note ≡ None
        → HasNotOpened (site_call before after store files) name word script x
    unshelved_site refusal x fails only refused some failed short ended handed no_files no_note = record {
      unopened = unopened_told store script (next_bucket before name) (store bucket).contents (refusal ≡ site.Failed) (SiteFailed before after store x.store) x told.holds (λ f. let rose = fails f in inl (omega (arith, calm, rose))) ended;
      site = short_refused refusal x.verdict (after.faults ≡ before.faults) failed (λ other. only other ∙ calm);
      handed = handed_one before.buckets after.buckets x.store (ap (λ (o : Option B). is_some o) handed) (still.handed ∙ one);
      named = before_opening refusal x.verdict (IsOpened {F = F} (Some name) word x.store x.shelf) failed short;
      of = no_shelf files before after word x.shelf no_files (refused ∙ shelves) (λ gone. absurd (not_named word gone some));
      unfailed = none_there _ x.shelf no_files;
      unasked = none_there _ x.shelf no_files;
      note = no_note;
    }

    module _ (shelf : Option F) (same : after.faults ≡ mid.faults) (own : IsShelfOpen files word mid after shelf) where
      -- it handed out both, and no world was opened
      pub unopened_site : (x : Ended B F) → IsUnopened store script (store bucket).contents (IsSomeAnd x.store (λ s. 0 < (store s).faults)) x → IsSome x.store → x.shelf ≡ shelf → x.note ≡ None
          → HasNotOpened (site_call before after store files) name word script x
      unopened_site x ended some its no_note = let mine = subst (IsShelfOpen files word mid after) (sym its) own in record {
        unopened = unopened_told store script (next_bucket before name) (store bucket).contents (IsSomeAnd x.store (λ s. 0 < (store s).faults)) (SiteFailed before after store x.store) x told.holds (λ rose. inr rose) ended;
        site = short_of x.verdict (after.faults ≡ before.faults) (same ∙ calm);
        handed = handed_one before.buckets after.buckets x.store some (still.handed ∙ one);
        named = behind_opening x.verdict (IsOpened (Some name) word x.store x.shelf) (some, mine.named);
        of = (open_behind files word before mid after x.shelf shelves places mine).of;
        unfailed = mine.unfailed;
        unasked = mine.unasked;
        note = no_note;
      }

      -- and a world was
      pub all_opened : (world : WorldView B) → IsNewWorld store script world → IfSome (store bucket).contents HoldsNothing → IsOpen (site_call before after store files) name word script world shelf
      all_opened world new empty = record {
        site = same ∙ calm;
        buckets = still.handed ∙ one;
        empty = if_told HoldsNothing (next_bucket before name) (store bucket).contents told.holds empty;
        new = new;
        own = open_behind files word before mid after shelf shelves places own;
      }

      -- whichever it was
      abbrev Whichever : Result (WorldView B × Option F) (Ended B F) → Type 0
      Whichever r = MatchResult r (λ ready. ready.1 ≡ shelf) (λ ended. (ended.shelf ≡ shelf) × (ended.note ≡ None))

      pub opened_so : (r : Result (WorldView B × Option F) (Ended B F)) → IfOk r (λ ready. IsNewWorld store script ready.0) → IfOk r (λ _. IfSome (store bucket).contents HoldsNothing) → Whichever r
          → IfOk r (λ ready. IsOpen (site_call before after store files) name word script ready.0 ready.1)
      opened_so (Ok (world, its)) new empty same = subst (IsOpen (site_call before after store files) name word script world) (sym same) (all_opened world new empty)
      opened_so (Err ended) new empty same = tt

      pub unopened_so : (r : Result (WorldView B × Option F) (Ended B F)) → IfErr r (λ ended. IsUnopened store script (store bucket).contents (IsSomeAnd ended.store (λ s. 0 < (store s).faults)) ended) → IfErr r (λ ended. IsSome ended.store) → Whichever r
          → IfErr r (HasNotOpened (site_call before after store files) name word script)
      unopened_so (Ok ready) ends some same = tt
      unopened_so (Err ended) ends some same = unopened_site ended ends some same.0 same.1

-- ---- the call

-- the script was read, and then the call ended
pub ended_site : {B F : Type 0} (o : Outside B F) (name : List ℕ) (word : Option (List ℕ)) (script : Script) (ended : Ended B F) → IsScriptRead o.source.left o.read.left script → IsLawfulScript script → o.read.faults ≡ o.source.faults
    → HasNotOpened o.site name word script ended → HasEnded o name word ended
ended_site o name word script ended read lawful calm not = record {
  cause = worked_early (around_ended o name word ended) script ended.verdict read lawful not.named not.unopened.early not.unopened.cause not.unopened.first;
  short =
      short_map ended.verdict ((o.site.after.faults ≡ o.site.before.faults) × IsUnfailed o.site.store 0 ended.journal ended.store) (around_ended o name word ended).unfailed
      (λ both. (calm, both.0, both.1, not.unfailed)) (short_both ended.verdict _ _ not.site not.unopened.unfailed);
  handed = not.handed;
  kept = not.unopened.kept;
  back = not.unopened.back;
  untouched = not.unopened.untouched;
  asked = not.unopened.asked;
  opened = not.unopened.opened;
  of = not.of;
  read =
      if_map ended.shelf (WasAsked (names_asked o.site.files) []) (WasReadFor o.site.files o.source.left)
      (λ s was. read_for o.site.files o.source.left o.read.left script s read (read_none o.site.files (shelf_ulids script.blocks) s was)) not.unasked;
  note = not.note;
}

-- no script was read
pub ended_source : {B F : Type 0} (source read : SourceTold) (told : SiteTold) (store : B → BucketTold) (files : F → ShelfTold) (name : List ℕ) (word : Option (List ℕ)) (said : Verdict) (x : Ended B F)
    → x.verdict ≡ said → x.journal ≡ None → x.store ≡ None → x.shelf ≡ None → x.note ≡ None → IsUnread source.left read.left (Rose source.faults read.faults) said → IfShort said (read.faults ≡ source.faults)
    → HasEnded (outside source read (site_call told told store files)) name word x
ended_source {B} {F} source read told store files name word said x is gone nothing no_files no_note why calm = record {
  cause =
      unread (around_ended {B = B} {F = F} (outside source read (site_call told told store files)) name word x) x.verdict
      (subst (IsUnread source.left read.left (Rose source.faults read.faults)) (sym is) why) gone (record { handed = refl; next = refl }, record { handed = refl; next = refl });
  short =
      short_map x.verdict (read.faults ≡ source.faults) (around_ended (outside source read (site_call told told store files)) name word x).unfailed
      (λ same. (same, refl, unfailed_none store 0 x.journal x.store gone, none_there _ x.shelf no_files)) (subst (λ (w : Verdict). IfShort w (read.faults ≡ source.faults)) (sym is) calm);
  handed = handed_none told.buckets told.buckets x.store nothing refl;
  kept = both_gone x.journal x.store gone nothing;
  back = back_none store x.journal x.store gone nothing;
  untouched = untouched_gone store (next_bucket told name) x.journal x.store gone;
  asked = λ never. none_asked store x.verdict x.journal x.store gone;
  opened = none_opened store x.store nothing;
  of = no_shelf files told told word x.shelf no_files refl (λ none. refl);
  read = none_there _ x.shelf no_files;
  note = no_note;
}
