-- What a call comes to by what its words ask for.
use Rattle.std.proofs.Common.{◌≡◌, ◌⊎◌, inl, inr, ℕ, ◌+◌, List, ◌++◌, subst, sym, ◌∙◌, refl, ap}
use Rattle.std.specs.Prelude.{IsTrue, is_some, if◌then◌else◌, Option, Some, None, IfSome, IsSome, IsSomeAnd, Result, Ok, Err, IfOk, option_map}
use Rattle.bucket_core.specs.Contents.{Contents, nothing}
use Rattle.bucket_core.specs.Told.{BucketTold}
use Rattle.bucket_core.specs.declared.site_refusal.SiteRefusal.{SiteRefusal}
use Rattle.bucket_core.specs.declared.site_refusal.SiteRefusal.TheVariants as site
use Rattle.world_core.specs.declared.entry.Entry.{Entry}
use Rattle.block_keys.specs.declared.key.Key.TheVariants.{Meta}
use Rattle.block_content.specs.Checked.{checked_files, checked_series, checked_samples}
use Rattle.block_content.specs.Checking.{HasPassed}
use Rattle.block_content.specs.declared.check_refusal.CheckRefusal.{CheckRefusal}
use Rattle.block_content.specs.declared.check_refusal.CheckRefusal.TheVariants as cause
use Rattle.block_content.specs.declared.checked.Checked.{Checked as CheckedBlock}
use Rattle.block_loading.specs.Loading.{IsLoaded, RefusesOnShelf}
use Rattle.block_loading.specs.LoadReading.{was_fault}
use Rattle.block_loading.specs.declared.load_refusal.LoadRefusal.{LoadRefusal}
use Rattle.block_loading.specs.declared.load_refusal.LoadRefusal.TheVariants as end
use Rattle.call_verdicts.specs.Checks.{cause_number, IsCheckOf}
use Rattle.report_lines.specs.CheckLines.{check_line}
use Rattle.call_verdicts.specs.CheckVerdicts.{refused_for, verdict_on}
use Rattle.call_verdicts.specs.Kept.{IsHandedBack, IsHandedOut, IsUntouched, told_of}
use Rattle.call_verdicts.specs.Statuses.{number_of}
use Rattle.report_lines.specs.declared.check_outcome.CheckOutcome.{CheckOutcome}
use Rattle.report_lines.specs.declared.check_outcome.CheckOutcome.TheVariants.{Passed, Refused}
use Rattle.call_verdicts.proofs.Verdicts.{if_told as if_told_before}
use Rattle.call_verdicts.specs.Verdicts.{Around, BehindOpening, IsCalled, IsCaused, IsChecked, IsCheckDone, IsCheckSaid, IsSaid, IsWorked, Saying, status_of}
use Rattle.call_verdicts.specs.declared.status.Status.{Status}
use Rattle.call_verdicts.specs.declared.status.Status.TheVariants as status
use Rattle.call_verdicts.specs.declared.verdict.Verdict.{Verdict}
use Rattle.call_verdicts.specs.declared.verdict.Verdict.TheVariants.{WordsRefused, SourceFault, ScriptRefused, SiteFault, NotEmpty, Full, Report, Checked, NoMemory}

-- a word that names nothing
pub not_named : (word : Option (List ℕ)) → word ≡ None → ¬ IsSome word
not_named None none some = absurd (cc (some))
not_named (Some name) none some = absurd (cc (none))

-- a run, where the bucket, the shelf and the block are named by words
pub caused_run : (around : Option (List ℕ) → Option (List ℕ) → Option ℕ → Around) (bucket other_bucket shelf other_shelf : Option (List ℕ)) (block other_block : Option ℕ) (v : Verdict)
    → bucket ≡ other_bucket → shelf ≡ other_shelf → block ≡ other_block → (around other_bucket other_shelf other_block).run → (around other_bucket other_shelf other_block).block ≡ None → IsWorked (around bucket shelf block) v
    → IsCalled (around other_bucket other_shelf other_block) v
caused_run around bucket other_bucket shelf other_shelf block other_block v one two three run none w =
    inl (
      run,
      none,
      subst (λ (b : Option (List ℕ)). IsWorked (around b other_shelf other_block) v) one
          (subst (λ (s : Option (List ℕ)). IsWorked (around bucket s other_block) v) two
          (subst (λ (k : Option ℕ). IsWorked (around bucket shelf k) v) three w)),
    )

-- the check of a block, in the same way
pub caused_check : (around : Option (List ℕ) → Option (List ℕ) → Option ℕ → Around) (bucket other_bucket shelf other_shelf : Option (List ℕ)) (block other_block : Option ℕ) (v : Verdict)
    → bucket ≡ other_bucket → shelf ≡ other_shelf → block ≡ other_block → IsCheckDone (around bucket shelf block) v → IsCalled (around other_bucket other_shelf other_block) v
caused_check around bucket other_bucket shelf other_shelf block other_block v one two three done =
    inr (inl (subst (λ (b : Option (List ℕ)). IsCheckDone (around b other_shelf other_block) v) one
    (subst (λ (s : Option (List ℕ)). IsCheckDone (around bucket s other_block) v) two
    (subst (λ (k : Option ℕ). IsCheckDone (around bucket shelf k) v) three done))))

-- words that are no form of a call
pub caused_words : (around : Around) (v : Verdict) → ¬ around.run → around.journal ≡ None → around.left ≡ around.text → around.block ≡ None → v ≡ WordsRefused → around.unasked → IsCalled around v
caused_words around v none journal unread block is unasked = inr (inr (record { none = none; journal = journal; unread = unread }, block, is, unasked))

-- what holds behind an opening, with a weaker fact
pub behind_map : (v : Verdict) (P Q : Type 0) → (P → Q) → BehindOpening v P → BehindOpening v Q
behind_map WordsRefused P Q weaker holds = holds
behind_map SourceFault P Q weaker holds = holds
behind_map (ScriptRefused refusal) P Q weaker holds = holds
behind_map SiteFault P Q weaker holds = holds
behind_map (NotEmpty name) P Q weaker holds = weaker holds
behind_map (Full lines) P Q weaker holds = weaker holds
behind_map (Report lines as_asked) P Q weaker holds = weaker holds
behind_map (Checked block outcome) P Q weaker holds = weaker holds
behind_map NoMemory P Q weaker holds = holds

-- a fact of what is told, from one of each told contents
each_told : (told : Option Contents) (P : Contents → Type 0) → ((c : Contents) → told ≡ Some c → P c) → IfSome told P
each_told None P each = tt
each_told (Some c) P each = each c refl

refused_check : (told : Option Contents) (block : ℕ) (failed : Type 0) (refusal : CheckRefusal) (number : Option ℕ) → cause_number refusal ≡ number → IfSome told (λ c. RefusesOnShelf c block refusal)
    → IsChecked told block failed (refused_for block number)
refused_check told block failed refusal (Some number) numbered first = (refl, record { refusal = refusal; numbered = numbered; first = first })
refused_check told block failed refusal None numbered first = tt

-- what a check comes to has its cause
pub check_caused : (told : Option Contents) (block : ℕ) (failed : Type 0) (checked : Result CheckedBlock LoadRefusal)
    → IfOk checked (λ c. HasPassed block (checked_files c) (checked_series c) (checked_samples c))
    → ((t : Contents) → told ≡ Some t → IfOk checked (λ c. IsLoaded t block (checked_files c)))
    → ((t : Contents) → told ≡ Some t → (refusal : CheckRefusal) → checked ≡ Err (end.Refused refusal) → RefusesOnShelf t block refusal)
    → (IsTrue (was_fault checked) → failed)
    → IsChecked told block failed (verdict_on block checked)
check_caused told block failed (Ok checked) passed found refused fault =
    (refl, record { files = checked_files checked; passed = passed; loaded = each_told told (λ t. IsLoaded t block (checked_files checked)) found })
check_caused told block failed (Err (end.Refused refusal)) passed found refused fault =
    refused_check told block failed refusal (cause_number refusal) refl (each_told told (λ t. RefusesOnShelf t block refusal) (λ t is. refused t is refusal refl))
check_caused told block failed (Err end.ShelfFault) passed found refused fault = fault refl
check_caused told block failed (Err end.NoMemory) passed found refused fault = tt

-- without a shelf there is no block
pub absent_caused : (block : ℕ) (failed : Type 0) → IsChecked (Some nothing) block failed (refused_for block (cause_number (cause.NoFile (Meta block))))
absent_caused block failed = refused_check (Some nothing) block failed (cause.NoFile (Meta block)) (Some 1) refl (inl (refl, refl))

-- what holds of what is told holds of what was told before, and of a weaker failure
pub checked_told : (before told : Option Contents) (block : ℕ) (failed other : Type 0) (v : Verdict) → IfSome before (λ c. told ≡ Some c) → (failed → other)
    → IsChecked told block failed v → IsChecked before block other v
checked_told before told block failed other WordsRefused same weaker is = absurd is
checked_told before told block failed other SourceFault same weaker is = absurd is
checked_told before told block failed other (ScriptRefused refusal) same weaker is = absurd is
checked_told before told block failed other SiteFault same weaker is = weaker is
checked_told before told block failed other (NotEmpty name) same weaker is = absurd is
checked_told before told block failed other (Full lines) same weaker is = absurd is
checked_told before told block failed other (Report lines as_asked) same weaker is = absurd is
checked_told before told block failed other (Checked own (Passed series samples)) same weaker is =
    (is.0, record { files = is.1.files; passed = is.1.passed; loaded = if_told_before (λ t. IsLoaded t block is.1.files) before told same is.1.loaded })
checked_told before told block failed other (Checked own (Refused number)) same weaker is =
    (is.0, record { refusal = is.1.refusal; numbered = is.1.numbered; first = if_told_before (λ t. RefusesOnShelf t block is.1.refusal) before told same is.1.first })
checked_told before told block failed other NoMemory same weaker is = is

-- a shelf that was not opened
pub unopened_caused : (told : Option Contents) (block : ℕ) (failed : Type 0) (refusal : SiteRefusal) (v : Verdict) → (refusal ≡ site.Failed → failed) → (refusal ≡ site.Failed → v ≡ SiteFault) → (refusal ≡ site.NoMemory → v ≡ NoMemory)
    → IsChecked told block failed v
unopened_caused told block failed site.Failed v fails one two = subst (IsChecked told block failed) (sym (one refl)) (fails refl)
unopened_caused told block failed site.NoMemory v fails one two = subst (IsChecked told block failed) (sym (two refl)) tt

-- ---- where no bucket was handed out

pub handed_none : {B : Type 0} (before now : ℕ) (store : Option B) → store ≡ None → now ≡ before → IsHandedOut before now store
handed_none {B} before now store none same = subst (λ (o : Option B). now ≡ (if is_some o then before + 1 else before)) (sym none) same

pub handed_some : {B : Type 0} (before now : ℕ) (store : Option B) (bucket : B) → store ≡ Some bucket → now ≡ before + 1 → IsHandedOut before now store
handed_some {B} before now store bucket some more = subst (λ (o : Option B). now ≡ (if is_some o then before + 1 else before)) (sym some) more

pub back_none : {B : Type 0} (tells : B → BucketTold) (journal : Option (List Entry)) (store : Option B) → journal ≡ None → store ≡ None → IsHandedBack tells journal store
back_none {B} tells journal store one two =
    subst (λ (j : Option (List Entry)). IsHandedBack tells j store) (sym one) (subst (λ (s : Option B). IsHandedBack tells None s) (sym two) tt)

pub untouched_none : {B : Type 0} (tells : B → BucketTold) (told : List ℕ → Option Contents) (word : Option (List ℕ)) (journal : Option (List Entry)) (store : Option B) → None ≡ word
    → IfSome (told_of told word) (λ c. IsUntouched tells c journal store)
untouched_none {B} tells told word journal store none = subst (λ (w : Option (List ℕ)). IfSome (told_of told w) (λ c. IsUntouched tells c journal store)) none tt

-- ---- what is said

-- a status that is none of a check
no_check : (result other : Status) → result ≡ other → (number_of other ≡ 0 → ⊥) → (number_of other ≡ 5 → ⊥) → (number_of result ≡ 0) ⊎ (number_of result ≡ 5) → ⊥
no_check result other is one two (inl none) = one (sym (ap number_of is) ∙ none)
no_check result other is one two (inr five) = two (sym (ap number_of is) ∙ five)

told_check : (files : Option Contents) (saying : Saying) (result : Status) (block own : ℕ) (outcome : CheckOutcome) → own ≡ block → IsCheckOf files block outcome → IsSaid (Checked own outcome) saying result
    → IsCheckSaid files block saying (number_of result)
told_check files saying result block own outcome same is (inl (of, added)) =
    λ number. (outcome, is, ap number_of of, subst (λ (b : ℕ). saying.written_after ≡ option_map (λ bytes. bytes ++ check_line b outcome) saying.written_before) same added)
told_check files saying result block own outcome same is (inr (inl (failed, some, rose, part))) = λ number. absurd (no_check result status.SinkFault failed (λ e. absurd (cc (e))) (λ e. absurd (cc (e))) number)
told_check files saying result block own outcome same is (inr (inr (short, mute, kept, none))) = λ number. absurd (no_check result status.NoMemory short (λ e. absurd (cc (e))) (λ e. absurd (cc (e))) number)

-- a verdict whose status is none of a check
other_said : (files : Option Contents) (saying : Saying) (verdict : Verdict) (result : Status) (block : ℕ) → (number_of (status_of verdict) ≡ 0 → ⊥) → (number_of (status_of verdict) ≡ 5 → ⊥) → IsSaid verdict saying result
    → IsCheckSaid files block saying (number_of result)
other_said files saying verdict result block one two (inl (of, added)) = λ number. absurd (no_check result (status_of verdict) of one two number)
other_said files saying verdict result block one two (inr (inl (failed, some, rose, part))) = λ number. absurd (no_check result status.SinkFault failed (λ e. absurd (cc (e))) (λ e. absurd (cc (e))) number)
other_said files saying verdict result block one two (inr (inr (short, mute, kept, none))) = λ number. absurd (no_check result status.NoMemory short (λ e. absurd (cc (e))) (λ e. absurd (cc (e))) number)

said_check : (files : Option Contents) (failed : Type 0) (saying : Saying) (verdict : Verdict) (result : Status) (block : ℕ) → IsChecked files block failed verdict → IsSaid verdict saying result
    → IsCheckSaid files block saying (number_of result)
said_check files failed saying WordsRefused result block is said = absurd is
said_check files failed saying SourceFault result block is said = absurd is
said_check files failed saying (ScriptRefused refusal) result block is said = absurd is
said_check files failed saying SiteFault result block is said = other_said files saying SiteFault result block (λ e. absurd (cc (e))) (λ e. absurd (cc (e))) said
said_check files failed saying (NotEmpty name) result block is said = absurd is
said_check files failed saying (Full lines) result block is said = absurd is
said_check files failed saying (Report lines as_asked) result block is said = absurd is
said_check files failed saying (Checked own outcome) result block is said = told_check files saying result block own outcome is.0 is.1 said
said_check files failed saying NoMemory result block is said = other_said files saying NoMemory result block (λ e. absurd (cc (e))) (λ e. absurd (cc (e))) said

pub check_said : (around : Around) (saying : Saying) (verdict : Verdict) (result : Status) (block : ℕ) → around.block ≡ Some block → IsCaused around verdict → IsSaid verdict saying result
    → IsCheckSaid around.files block saying (number_of result)
check_said around saying verdict result block named (inl (run, none, worked), short) said = absurd (cc (none, named))
check_said around saying verdict result block named (inr (inl (no_run, checked, opened)), short) said =
    said_check around.files around.shelf_failed saying verdict result block (subst (λ (o : Option ℕ). IsSomeAnd o (λ ulid. IsChecked around.files ulid around.shelf_failed verdict)) named checked) said
check_said around saying verdict result block named (inr (inr (no_run, none, refused, unasked)), short) said = absurd (cc (none, named))
