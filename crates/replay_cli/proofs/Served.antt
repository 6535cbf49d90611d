-- What a call promises, by what it leaves before it says a word.
use Rattle.std.proofs.Common.{◌≡◌, ℕ, List, Option, Some, None, refl, sym, ◌∙◌, ap, subst}
use Rattle.std.specs.Prelude.{IsSome, is_some}
use Rattle.bucket_core.specs.Told.{BucketTold, ShelfTold, SiteTold, SourceTold, next_bucket}
use Rattle.call_verdicts.specs.Checks.{files_of}
use Rattle.call_verdicts.specs.Noted.{tells_full}
use Rattle.call_verdicts.specs.Outside.{Names, Outside, names, outside, site_call}
use Rattle.call_verdicts.specs.Statuses.{number_of}
use Rattle.call_verdicts.specs.Verdicts.{IsSaid, Saying}
use Rattle.call_verdicts.specs.declared.ended.Ended.{Ended}
use Rattle.call_verdicts.specs.declared.run.Run.{Run}
use Rattle.call_verdicts.specs.declared.status.Status.{Status}
use Rattle.call_verdicts.specs.declared.verdict.Verdict.TheVariants.{WordsRefused}
use Rattle.call_verdicts.proofs.BucketAsked.{none_asked}
use Rattle.call_verdicts.proofs.Checks.{back_none, caused_words, check_said, handed_none, not_named}
use Rattle.call_verdicts.proofs.Noted.{full_said, without_bucket}
use Rattle.call_verdicts.proofs.Openings.{no_shelf}
use Rattle.call_verdicts.proofs.ShelfAsked.{call_asked}
use Rattle.call_verdicts.proofs.Unfailed.{not_short}
use Rattle.replay_cli.specs.Calls.{Leaves, around_run}
use Rattle.replay_cli.specs.Promises.{Serves, call_of}
use Rattle.replay_cli.specs.Ways.{Way, tells_by}
use Rattle.replay_cli.proofs.Calm.{calm_end}
use Rattle.replay_cli.proofs.DayCalls.{if_none}

-- the same is named by words that are equal
pub same_names : (bucket other_bucket shelf other_shelf : Option (List ℕ)) (block other_block : Option ℕ) → bucket ≡ other_bucket → shelf ≡ other_shelf → block ≡ other_block → names bucket shelf block ≡ names other_bucket other_shelf other_block
same_names bucket other_bucket shelf other_shelf block other_block one two three =
    ap (λ (b : Option (List ℕ)). names b shelf block) one ∙ ap (λ (s : Option (List ℕ)). names other_bucket s block) two ∙ ap (λ (k : Option ℕ). names other_bucket other_shelf k) three

-- what it leaves, and then its verdict is said
pub served : {B F : Type 0} (way : Way) (of : Names) (o : Outside B F) (ended : Ended B F) (saying : Saying) (status : Status) (run : Run B F) → Leaves way o of ended → IsSaid ended.verdict saying status
    → run ≡ record { status = number_of status; journal = ended.journal; store = ended.store; shelf = ended.shelf; note = ended.note; day = None } → Serves way of (call_of o saying run)
served {B} {F} way of o ended saying status run is said same =
    let verdict = ended.verdict in
    let around = around_run way o of ended in
    let files = files_of o.site.files o.site.before of.shelf ended.shelf in
    subst (λ (r : Run B F). Serves way of (call_of o saying r)) (sym same) (record {
      ends = record {
        verdict = verdict;
        status = status;
        cause = is.cause;
        said = said;
        number = refl;
        asked = is.asked_bucket;
        noted = is.noted;
        full = full_said (tells_by way) o.site.store verdict saying status ended.journal ended.store ended.note is.noted said;
        calm = λ calm. calm_end around saying verdict status calm is.cause said;
      };
      bucket = record { handed = is.handed; kept = is.kept; back = is.back; untouched = is.untouched; closed = is.closed };
      shelf = record {
        shelf = is.shelf;
        asked = call_asked o.site.files files o.source.left of.block ended.shelf verdict saying status said is.asked;
      };
      check = λ block named. check_said around saying verdict status block named is.cause said;
      no_day = refl;
    })

-- words that are no form of a call
pub refused : {B F : Type 0} (way : Way) (source : SourceTold) (site : SiteTold) (store : B → BucketTold) (files : F → ShelfTold) (of : Names) (ended : Ended B F) → names None None None ≡ of
    → ended.verdict ≡ WordsRefused → ended.journal ≡ None → ended.store ≡ None → ended.shelf ≡ None → ended.note ≡ None → Leaves way (outside source source (site_call site site store files)) of ended
refused {B} {F} way source site store files of ended no_word is journal bucket shelf note =
    let o = outside source source (site_call site site store files) in
    let verdict = ended.verdict in
    subst (λ (n : Names). Leaves way o n ended) no_word (record {
      cause = (
        caused_words (around_run way o (names None None None) ended) verdict (not_named None refl) journal refl refl is (record { handed = refl; next = refl }, record { handed = refl; next = refl }),
        not_short verdict WordsRefused _ is tt,
      );
      handed = handed_none site.buckets site.buckets ended.store bucket refl;
      kept = ap is_some journal ∙ sym (ap is_some bucket);
      back = back_none store ended.journal ended.store journal bucket;
      untouched = tt;
      closed = λ none. record { handed = refl; next = refl };
      asked_bucket = λ never. none_asked store verdict ended.journal ended.store journal;
      noted = without_bucket (tells_by way) store verdict ended.journal ended.store ended.note note journal bucket (ap tells_full is);
      shelf = no_shelf files site site None ended.shelf shelf refl (λ none. refl);
      asked = if_none ended.shelf _ shelf;
    })
