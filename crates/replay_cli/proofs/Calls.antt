-- What a call leaves that read a script and ran it, whatever the way.
use Rattle.std.proofs.Common.{◌≡◌, ◌≢◌, ◌⊎◌, inl, inr, ℕ, ◌+◌, ◌<◌, List, [], Option, None, Some, refl, sym, ◌∙◌, ap, subst}
use Rattle.std.specs.Prelude.{IfSome, IsSomeAnd, is_some, option_map}
use Rattle.bucket_core.specs.Asking.{Call}
use Rattle.bucket_core.specs.Contents.{nothing}
use Rattle.bucket_core.specs.Told.{next_bucket}
use Rattle.world_core.specs.Asking.{IsAllAsked}
use Rattle.world_core.specs.Worlds.{WorldView, failed_count}
use Rattle.script_core.specs.Lawful.{IsLawfulScript}
use Rattle.script_core.specs.declared.script.Script.{Script}
use Rattle.run_notes.specs.declared.run_note.RunNote.{RunNote}
use Rattle.call_verdicts.specs.lifecycle_core.specs.Setting.{Setting, setting_of}
use Rattle.call_verdicts.specs.lifecycle_core.proofs.phases.FirstPhases.{none_in_line}
use Rattle.call_verdicts.specs.script_running.specs.Shelves.{setting_by}
use Rattle.call_verdicts.specs.script_running.specs.declared.shelf.ShelfBlock.{ShelfBlock}
use Rattle.call_verdicts.specs.Asked.{WasAsked, WasRead, WasReadFor, calls_asked, for_opening, shelf_ulids}
use Rattle.call_verdicts.specs.Checks.{HasFailed, files_held, files_of}
use Rattle.call_verdicts.specs.Kept.{HoldsNothing, IsShelfOf, IsUntouched}
use Rattle.call_verdicts.specs.Noted.{IsNoted}
use Rattle.call_verdicts.specs.Outside.{Outside}
use Rattle.call_verdicts.specs.ShelfReads.{IsBrokenOff, IsOfShelf}
use Rattle.call_verdicts.specs.Verdicts.{BehindReading, IfShort, IsRun, IsScriptRead}
use Rattle.call_verdicts.specs.Ends.{IsEndOfRun}
use Rattle.call_verdicts.specs.declared.ended.Ended.{Ended}
use Rattle.call_verdicts.specs.declared.verdict.Verdict.{Verdict}
use Rattle.call_verdicts.specs.declared.verdict.Verdict.TheVariants.{NoMemory}
use Rattle.call_verdicts.proofs.BucketAsked.{ended_asked}
use Rattle.call_verdicts.proofs.CheckedShelf.{named_kept, shelf_kept}
use Rattle.call_verdicts.proofs.Checks.{handed_some}
use Rattle.call_verdicts.proofs.HandedBack.{if_map}
use Rattle.call_verdicts.proofs.Noted.{noted_as}
use Rattle.call_verdicts.proofs.ShelfReads.{read_for}
use Rattle.call_verdicts.proofs.Unfailed.{not_short, short_map, short_of, unfailed_ended}
use Rattle.call_verdicts.proofs.Verdicts.{before_reading, behind_reading, if_nothing, is_named, run_weaker, worked_run}
use Rattle.replay_cli.specs.Calls.{HasOpened, IsPrepared, Leaves, around_run, run_names}
use Rattle.replay_cli.specs.Ways.{HasRun, MayRun, Way, beside, in_line, is_done_by, tells_by}
use Rattle.replay_cli.specs.declared.preparing.Prepared.{Prepared}
use Rattle.replay_cli.proofs.NoneInPhases.{none_in_phases}
use Rattle.replay_cli.proofs.Unread.{broken_more, broken_run, failed_since, is_early, tells_none}

-- nothing was done yet
pub none_done : (way : Way) (setting : Setting) → is_done_by way setting []
none_done in_line setting = none_in_line setting
none_done beside setting = none_in_phases setting

module _ {B F : Type 0} (o : Outside B F) (bucket : List ℕ) (word : Option (List ℕ)) where
  -- ---- what was opened

  -- a shelf of which blocks were read is the one that was opened
  pub is_open : (script : Script) (world : WorldView B) (before after : Option F) → IsScriptRead o.source.left o.read.left script
      → o.read.faults ≡ o.source.faults → o.site.after.faults ≡ o.site.before.faults → o.site.after.buckets ≡ o.site.before.buckets + 1
      → IfSome (next_bucket o.site.before bucket) HoldsNothing → (o.site.store world.bucket).faults ≡ 0 → is_some before ≡ is_some word
      → IsShelfOf o.site.files word o.site.before o.site.after before → option_map (files_held o.site.files) after ≡ option_map (files_held o.site.files) before
      → IfSome after (WasRead o.site.files (shelf_ulids script.blocks)) → HasOpened o bucket word script world after
  is_open script world before after read source site buckets empty unfailed opened shelf same asked = record {
    read = read;
    source = source;
    site = site;
    buckets = buckets;
    empty = empty;
    unfailed = unfailed;
    named = named_kept o.site.files word after before same opened;
    shelf = shelf_kept o.site.files word o.site.before o.site.after after before same shelf;
    asked = if_map after (WasRead o.site.files (shelf_ulids script.blocks)) (WasReadFor o.site.files o.source.left) (λ s was. read_for o.site.files o.source.left o.read.left script s read was) asked;
  }

  -- ---- what is left

  -- by the world that is left, and by what was read for the setting
  leaves : (way : Way) (setting : Setting) (old new : WorldView B) (note : Option (RunNote B)) (shelf : Option F) (v : Verdict) (ended : Ended B F)
      → IsLawfulScript setting.script → HasOpened o bucket word setting.script old ended.shelf → old.journal ≡ [] → WasAsked (calls_asked o.site.store) for_opening old.bucket
      → BehindReading v (Some new.journal) (IfSome (files_of o.site.files o.site.before word ended.shelf) (IsOfShelf setting))
      → IsRun (is_done_by way) setting (Some nothing) ((around_run way o (run_names bucket word) ended).site_failed ⊎ (around_run way o (run_names bucket word) ended).shelf_failed) (Some new.journal) v
      → IfShort v (IfSome ended.shelf (λ s. (o.site.files s).faults ≡ 0)) → (failed_count new.journal ≡ 0 → (o.site.store new.bucket).faults ≡ (o.site.store old.bucket).faults)
      → (v ≢ NoMemory → (before : List Call) → IsAllAsked o.site.store before old → IsAllAsked o.site.store before new)
      → IsNoted (tells_by way) o.site.store v (Some new.journal) (Some new.bucket) note → IsEndOfRun o.site.store v new note shelf ended → Leaves way o (run_names bucket word) ended
  leaves way setting old new note shelf v ended lawful is fresh was behind run calm unfailed all noted end =
      let verdict = ended.verdict in
      let journal = ended.journal in
      let store = ended.store in
      record {
        cause = (
          inl (is_named bucket (Some bucket) refl, refl, worked_run (around_run way o (run_names bucket word) ended) setting new.journal v verdict is.read lawful (ap is_some end.store, is.named) is.empty end.journal end.verdict behind run),
          not_short verdict v _ end.verdict (short_map v _ _ (λ fresh. (is.source, is.site, unfailed_ended o.site.store old new journal store unfailed is.unfailed end.journal end.store, fresh)) calm),
        );
        handed = handed_some o.site.before.buckets o.site.after.buckets store new.bucket end.store is.buckets;
        kept = ap is_some end.journal ∙ sym (ap is_some end.store);
        back = end.back;
        untouched = if_nothing (λ k. IsUntouched o.site.store k journal store) (next_bucket o.site.before bucket) is.empty end.untouched;
        closed = λ none. absurd (cc (none));
        asked_bucket = λ never. ended_asked o.site.store old new verdict journal store fresh was (all (λ same. never (end.verdict ∙ same))) end.journal end.store;
        noted = noted_as (tells_by way) o.site.store v verdict new journal store note ended.note end.verdict end.journal end.store end.note noted;
        shelf = is.shelf;
        asked = is.asked;
      }

  -- ---- a run

  -- it can be run over the members of the list that was read
  pub may_run : (p : Prepared B F) (members : List ShelfBlock) → members ≡ p.blocks → IsPrepared o bucket word p → MayRun o.site.store p.script members p.world
  may_run p members same is = subst (λ (own : List ShelfBlock). MayRun o.site.store p.script own p.world) (sym same) is.may

  pub ran : (way : Way) (p : Prepared B F) (members : List ShelfBlock) (new : WorldView B) (note : Option (RunNote B)) (v : Verdict) (ended : Ended B F) → members ≡ p.blocks → IsPrepared o bucket word p
      → HasRun way o.site.store (setting_by p.script members) p.world v new note → IsEndOfRun o.site.store v new note p.shelf ended → Leaves way o (run_names bucket word) ended
  ran way p members new note v ended same is has end =
      let setting = setting_by p.script p.blocks in
      let run = subst (λ (own : List ShelfBlock). HasRun way o.site.store (setting_by p.script own) p.world v new note) same has in
      leaves way setting p.world new note p.shelf v ended is.may.lawful (subst (λ (s : Option F). HasOpened o bucket word p.script p.world s) (sym end.shelf) is.opened) is.may.fresh is.may.asked
      (behind_reading v (Some new.journal) (IfSome (files_of o.site.files o.site.before word ended.shelf) (IsOfShelf setting)) (subst (λ (s : Option F). IfSome (files_of o.site.files o.site.before word s) (IsOfShelf setting)) (sym end.shelf) is.told))
      (run_weaker (is_done_by way) setting (Some nothing) ⊥ _ (Some new.journal) v (λ no. absurd no) run.cause)
      (short_of v _ (subst (λ (shelf : Option F). IfSome shelf (λ s. (o.site.files s).faults ≡ 0)) (sym end.shelf) is.calm)) run.unfailed run.all run.noted end

  -- ---- a call that ended before

  -- reading the shelf was broken off
  pub unread : (way : Way) (script : Script) (world new : WorldView B) (note : Option (RunNote B)) (before after : Option F) (v : Verdict) (ended : Ended B F) → new ≡ world → note ≡ None → IsLawfulScript script → HasOpened o bucket word script world after
      → world.journal ≡ [] → WasAsked (calls_asked o.site.store) for_opening world.bucket → IfSome before (λ s. (o.site.files s).faults ≡ 0) → IsBrokenOff (HasFailed o.site.files before after) v → IfShort v (IfSome after (λ s. (o.site.files s).faults ≡ 0))
      → IsEndOfRun o.site.store v new note after ended → Leaves way o (run_names bucket word) ended
  unread way script world new note before after v ended same none lawful is fresh was calm broken short end =
      let setting = setting_of script in
      let of_call : (P : Option F → Type 0) → P after → P ended.shelf = λ P holds. subst P (sym end.shelf) holds in
      let fails : HasFailed o.site.files before after → (around_run way o (run_names bucket word) ended).site_failed ⊎ (around_run way o (run_names bucket word) ended).shelf_failed =
      λ failed. inr (inr (of_call (λ shelf. IsSomeAnd shelf (λ s. 0 < (o.site.files s).faults)) (failed_since o.site.files before after calm failed))) in
      leaves way setting world world None after v ended lawful (of_call (HasOpened o bucket word script world) is) fresh was
      (before_reading v (Some world.journal) (IfSome (files_of o.site.files o.site.before word ended.shelf) (IsOfShelf setting)) (is_early v broken) fresh)
      (broken_run (is_done_by way) script _ world.journal v (none_done way setting) fresh (broken_more _ _ v fails broken))
      (of_call (λ shelf. IfShort v (IfSome shelf (λ s. (o.site.files s).faults ≡ 0))) short) (λ none. refl) (λ never before all. all) (fresh, tells_none v broken, inr was)
      (subst (λ (n : Option (RunNote B)). IsEndOfRun o.site.store v world n after ended) none (subst (λ (w : WorldView B). IsEndOfRun o.site.store v w note after ended) same end))
