-- A script has no more members than its text has bytes: each line adds no more than it has.
use Rattle.std.proofs.Common.{◌≡◌, inl, inr, ℕ, suc, ◌+◌, ◌≤◌, List, [], ◌∷◌, ◌++◌, length, Bool, true, false, Result, Ok, Err, IfOk, refl, ap, arith, codes}
use Rattle.std.specs.Bool.{MatchBool}
use Rattle.std.specs.Prelude.{IsTrue}
use Rattle.std.specs.Str.{is_utf8}
use Rattle.std.specs.List.{sum_by, join_with_byte}
use Rattle.std.proofs.lemmas.List.{length-append}
use Rattle.std.proofs.lemmas.List.Concat.{flat_map-cons}
use Rattle.std.proofs.lemmas.List.Sums.{sum_by-append, sum_by-cons}
use Rattle.std.proofs.lemmas.List.Splits.{join_with_byte-slice_split}
use Rattle.label_sets.specs.Characters.{space}
use Rattle.label_sets.specs.declared.sample.Sample.{Sample}
use Rattle.label_sets.specs.declared.series.Series.{Series}
use Rattle.label_sets.proofs.SetSizes.{longer_text}
use Rattle.matchers.specs.declared.matcher.Matcher.{Matcher}
use Rattle.matchers.specs.SelectorText.{IsSelectorText, AreListed, comma_text, commas_text, matcher_text, metric_part}
use Rattle.script_workers.specs.declared.work.Work.{Work}
use Rattle.script_core.specs.declared.block.Block.{Block}
use Rattle.script_core.specs.declared.body.Body.TheVariants.{Inline, OnShelf}
use Rattle.script_core.specs.declared.script.Script.{Script}
use Rattle.script_core.specs.Counts.{members_of_name, members_of_series, members_of_block, members_of_selector, members_of_phase, members_of_script}
use Rattle.script_fields.specs.Fields.{lines_of, is_silent}
use Rattle.script_core.specs.GivenUp.{GivesUnless, IsWholeGivenUp}
use Rattle.script_core.specs.Reading.{script_of}
use Rattle.script_core.specs.Spelling.{spaced, IsField, AreSampleFields, SoFar, nothing, GatewayLine, BlockLine, ShelfLine, SeriesLine, AtLine, AddsTask, UploadLine, SyncLine, CompactLine, CleanLine, QueryLine, RuleLine, ReplicaLine, RetentionLine, Says, Say, Spells}
use Rattle.script_core.proofs.ReadScripts.{found_of}
use Rattle.base.proofs.Lists.{sum_by-push}

-- ---- fields

longer_field : (first next : List ℕ) (more : List (List ℕ)) → length (spaced (first ∷ next ∷ more)) ≡ length first + suc (length (spaced (next ∷ more)))
longer_field first next more = length-append first (space ∷ spaced (next ∷ more))

two_fields : (first next : List ℕ) → length (spaced (first ∷ next ∷ [])) ≡ length first + suc (length next)
two_fields first next = longer_field first next []

three_fields : (first next last : List ℕ) → length (spaced (first ∷ next ∷ last ∷ [])) ≡ length first + suc (length next + suc (length last))
three_fields first next last = omega (arith, longer_field first next (last ∷ []), two_fields next last)

first_fits : (first : List ℕ) (more : List (List ℕ)) → length first ≤ length (spaced (first ∷ more))
first_fits first [] = omega arith
first_fits first (next ∷ more) = omega (arith, longer_field first next more)

some_field : (field : List ℕ) → IsField field → 1 ≤ length field
some_field [] is = absurd (is.some refl)
some_field (x ∷ xs) is = omega arith

samples_fit : (texts : List (List ℕ)) (samples : List Sample) → AreSampleFields texts samples → length samples ≤ length (spaced texts)
samples_fit [] [] are = omega arith
samples_fit [] (s ∷ ss) are = absurd are
samples_fit (text ∷ texts) [] are = absurd are
samples_fit (text ∷ []) (s ∷ []) are = some_field text are.0.field
samples_fit (text ∷ []) (s ∷ t ∷ ss) are = absurd are.1
samples_fit (text ∷ next ∷ texts) (s ∷ ss) are = omega (arith, longer_field text next texts, samples_fit (next ∷ texts) ss are.1)

-- each matcher in braces has its comma, and the last one the byte that closes them
commas_fit : (matchers : List Matcher) → length matchers ≤ length (commas_text matchers)
commas_fit [] = omega arith
commas_fit (m ∷ matchers) =
    omega (arith, commas_fit matchers, ap length (flat_map-cons comma_text m matchers), length-append (comma_text m) (commas_text matchers), length-append (matcher_text m) (44 ∷ []))

listed_fit : (inside : List ℕ) (matchers : List Matcher) → AreListed inside matchers → length matchers ≤ length inside + 1
listed_fit inside matchers (inl all) = omega (arith, commas_fit matchers, ap length all)
listed_fit inside matchers (inr less) = omega (arith, commas_fit matchers, ap length less, length-append inside (44 ∷ []))

metric_fits : (metric : List ℕ) → length (metric_part metric) ≤ length metric
metric_fits [] = omega arith
metric_fits (byte ∷ bytes) = omega arith

selector_fits : (text : List ℕ) (selector : List Matcher) → IsSelectorText text selector → length selector ≤ length text + 1
selector_fits text selector (inl one) = omega (arith, ap length one.1)
selector_fits text selector (inr is) =
    omega (
      arith,
      ap length is.selector_is,
      length-append (metric_part is.metric) is.matchers,
      metric_fits is.metric,
      listed_fit is.inside is.matchers is.listed,
      ap length is.written,
      length-append is.metric (123 ∷ (is.inside ++ 125 ∷ [])),
      length-append is.inside (125 ∷ []),
    )

-- ---- lists with one member more, and with their last member changed

at_end : {A : Type 0} (f : A → ℕ) (xs front : List A) (x : A) → xs ≡ front ++ x ∷ [] → sum_by f xs ≡ sum_by f front + f x
at_end f xs front x is = omega (arith, ap (sum_by f) is, sum_by-push f front x)

among : {A : Type 0} (f : A → ℕ) (front back : List A) (x : A) → sum_by f (front ++ x ∷ back) ≡ sum_by f (front ++ back) + f x
among f front back x = omega (arith, sum_by-append f front (x ∷ back), sum_by-cons f x back, sum_by-append f front back)

-- ---- lines

abbrev size_of : SoFar → ℕ
size_of so_far = members_of_script so_far.script

gateway_adds : (before after : SoFar) (line : List ℕ) → GatewayLine before line after → size_of after ≤ size_of before + length line
gateway_adds before after line is =
    omega (
      arith,
      ap size_of is.adds,
      sum_by-push members_of_name before.script.gateways is.name,
      length-append before.script.partitions (is.partition ∷ []),
      ap length is.spelled,
      longer_field (codes "gateway") is.name is.texts,
      first_fits is.name is.texts,
    )

rule_adds : (before after : SoFar) (line : List ℕ) → RuleLine before line after → size_of after ≤ size_of before + length line
rule_adds before after line is =
    omega (arith, ap size_of is.adds, ap (sum_by members_of_name) is.sets.replicas)

replica_adds : (before after : SoFar) (line : List ℕ) → ReplicaLine before line after → size_of after ≤ size_of before + length line
replica_adds before after line is =
    omega (
      arith,
      ap size_of is.adds,
      sum_by-push members_of_name before.script.rules.replicas is.name,
      ap length is.spelled,
      three_fields (codes "rule") (codes "replica-label") is.name,
    )

retention_adds : (before after : SoFar) (line : List ℕ) → RetentionLine before line after → size_of after ≤ size_of before + length line
retention_adds before after line is = omega (arith, ap size_of is.adds)

block_adds : (before after : SoFar) (line : List ℕ) → BlockLine before line after → size_of after ≤ size_of before + length line
block_adds before after line is =
    omega (
      arith,
      ap size_of is.adds,
      ap length is.spelled,
      longer_text is.labels_text is.labels is.are_labels,
      longer_field (codes "block") is.ulid_text (is.min_text ∷ is.max_text ∷ is.labels_text ∷ []),
      longer_field is.ulid_text is.min_text (is.max_text ∷ is.labels_text ∷ []),
      three_fields is.min_text is.max_text is.labels_text,
      sum_by-push members_of_block before.script.blocks (record { ulid = is.ulid; labels = is.labels; body = Inline is.min_time is.max_time [] }),
    )

shelf_adds : (before after : SoFar) (line : List ℕ) → ShelfLine before line after → size_of after ≤ size_of before + length line
shelf_adds before after line is =
    omega (
      arith,
      ap size_of is.adds,
      ap length is.spelled,
      longer_text is.labels_text is.labels is.are_labels,
      three_fields (codes "shelf") is.ulid_text is.labels_text,
      sum_by-push members_of_block before.script.blocks (record { ulid = is.ulid; labels = is.labels; body = OnShelf }),
    )

series_adds : (before after : SoFar) (line : List ℕ) → SeriesLine before line after → size_of after ≤ size_of before + length line
series_adds before after line is =
    let one : Series = record { labels = is.labels; samples = is.samples } in
    let old : Block = record { ulid = is.ulid; labels = is.block_labels; body = Inline is.min_time is.max_time (is.lesser ++ is.greater) } in
    let new : Block = record { ulid = is.ulid; labels = is.block_labels; body = Inline is.min_time is.max_time (is.lesser ++ one ∷ is.greater) } in
    omega (
      arith,
      ap size_of is.adds,
      ap length is.spelled,
      longer_text is.labels_text is.labels is.are_labels,
      samples_fit is.texts is.samples is.are_samples,
      three_fields (codes "series") is.labels_text (spaced is.texts),
      at_end members_of_block before.script.blocks is.others old is.last,
      sum_by-push members_of_block is.others new,
      among members_of_series is.lesser is.greater one,
    )

at_adds : (before after : SoFar) (number : ℕ) (line : List ℕ) → AtLine before number line after → size_of after ≤ size_of before + length line
at_adds before after number line is =
    omega (
      arith,
      ap size_of is.adds,
      ap length is.spelled,
      two_fields (codes "at") is.text,
      sum_by-push members_of_phase before.script.phases (record { line = number; moment = record { ms = is.moment }; tasks = [] }),
    )

task_adds : (before after : Script) (number : ℕ) (work : Work) → AddsTask before number work after → members_of_script after ≡ members_of_script before + 1
task_adds before after number work is =
    omega (
      arith,
      ap members_of_script is.adds,
      at_end members_of_phase before.phases is.others is.phase is.last,
      sum_by-push members_of_phase is.others (record is.phase { tasks = is.phase.tasks ++ record { line = number; work = work } ∷ [] }),
      length-append is.phase.tasks (record { line = number; work = work } ∷ []),
    )

upload_adds : (before after : SoFar) (number : ℕ) (line : List ℕ) → UploadLine before number line after → size_of after ≤ size_of before + length line
upload_adds before after number line is =
    omega (arith, ap size_of is.adds, ap length is.spelled, longer_field (codes "upload") is.text is.texts, task_adds before.script is.script number _ is.task)

sync_adds : (before after : SoFar) (number : ℕ) (line : List ℕ) → SyncLine before number line after → size_of after ≤ size_of before + length line
sync_adds before after number line is =
    omega (arith, ap size_of is.adds, ap length is.spelled, two_fields (codes "sync") is.name, task_adds before.script is.script number _ is.task)

compact_adds : (before after : SoFar) (number : ℕ) (line : List ℕ) → CompactLine before number line after → size_of after ≤ size_of before + length line
compact_adds before after number line is =
    omega (arith, ap size_of is.adds, ap length is.spelled, first_fits (codes "compact") is.texts, task_adds before.script is.script number _ is.task)

clean_adds : (before after : SoFar) (number : ℕ) (line : List ℕ) → CleanLine before number line after → size_of after ≤ size_of before + length line
clean_adds before after number line is =
    omega (arith, ap size_of is.adds, ap length is.spelled, first_fits (codes "clean") is.texts, task_adds before.script is.script number _ is.task)

query_adds : (before after : SoFar) (number : ℕ) (line : List ℕ) → QueryLine before number line after → size_of after ≤ size_of before + length line
query_adds before after number line is =
    omega (
      arith,
      ap size_of is.adds,
      ap length is.spelled,
      longer_field (codes "query") is.low_text (is.high_text ∷ is.selector_text ∷ []),
      selector_fits is.selector_text is.selector is.is_selector.is_text,
      three_fields is.low_text is.high_text is.selector_text,
      task_adds before.script is.script number _ is.task,
      sum_by-push members_of_selector is.script.selectors is.selector,
    )

line_adds : (before after : SoFar) (number : ℕ) (line : List ℕ) → Says before number line after → size_of after ≤ size_of before + length line
line_adds before after number line (Says.series is) = series_adds before after line is
line_adds before after number line (Says.rule ended is) = rule_adds before after line is
line_adds before after number line (Says.replica ended is) = replica_adds before after line is
line_adds before after number line (Says.retention ended is) = retention_adds before after line is
line_adds before after number line (Says.gateway ended is) = gateway_adds before after line is
line_adds before after number line (Says.block ended is) = block_adds before after line is
line_adds before after number line (Says.shelf ended is) = shelf_adds before after line is
line_adds before after number line (Says.at ended is) = at_adds before after number line is
line_adds before after number line (Says.upload ended is) = upload_adds before after number line is
line_adds before after number line (Says.sync ended is) = sync_adds before after number line is
line_adds before after number line (Says.compact ended is) = compact_adds before after number line is
line_adds before after number line (Says.clean ended is) = clean_adds before after number line is
line_adds before after number line (Says.query ended is) = query_adds before after number line is

-- ---- texts

line_by : (silent : Bool) (line : List ℕ) (lines : List (List ℕ)) (before after : SoFar) (number : ℕ)
    → ((now : SoFar) (next : ℕ) → Say now next lines after → size_of after ≤ size_of now + sum_by length lines)
    → MatchBool silent (Say before (number + 1) lines after)
    ((next : SoFar) × IsTrue (is_utf8 line) × Says before number line next × Say next (number + 1) lines after)
    → size_of after ≤ size_of before + sum_by length (line ∷ lines)
line_by true line lines before after number others say = omega (arith, others before (number + 1) say, sum_by-cons length line lines)
line_by false line lines before after number others say =
    omega (arith, line_adds before say.0 number line say.2, others say.0 (number + 1) say.3, sum_by-cons length line lines)

lines_add : (lines : List (List ℕ)) (before after : SoFar) (number : ℕ) → Say before number lines after → size_of after ≤ size_of before + sum_by length lines
lines_add [] before after number say = omega (arith, ap size_of say)
lines_add (line ∷ lines) before after number say = line_by (is_silent line) line lines before after number (λ now next said. lines_add lines now after next said) say

joined : (c : ℕ) (parts : List (List ℕ)) → sum_by length parts ≤ length (join_with_byte c parts)
joined c [] = omega arith
joined c (x ∷ []) = omega (arith, sum_by-cons length x [])
joined c (x ∷ y ∷ parts) = omega (arith, sum_by-cons length x (y ∷ parts), joined c (y ∷ parts), length-append x (c ∷ join_with_byte c (y ∷ parts)))

lines_fit : (text : List ℕ) → sum_by length (lines_of text) ≤ length text
lines_fit text = omega (arith, joined 10 (lines_of text), ap length (join_with_byte-slice_split 10 text))

spelled_few : (text : List ℕ) (script : Script) → Spells text script → members_of_script script ≤ length text
spelled_few text script spells =
    omega (arith, lines_add (lines_of text) nothing (record { script = script; in_block = spells.in_block }) 1 spells.lines, lines_fit text)

pub few_of : (text : List ℕ) (result : Result Script _) → GivesUnless (IsWholeGivenUp text) (λ (script : Script). script) result (script_of text) → IfOk result (λ script. members_of_script script ≤ length text)
few_of text (Ok script) read = spelled_few text script (found_of text (Ok script) read)
few_of text (Err refusal) read = tt

pub few_end : {E : Type 0} (text : List ℕ) (result : Result Script E) → IfOk result (λ script. Spells text script) → IfOk result (λ script. members_of_script script ≤ length text)
few_end text (Ok script) spells = spelled_few text script spells
few_end text (Err refusal) spells = tt
