-- What the run shows in which a block is deleted while it is uploaded: its breach, and why an object was missing.
use Rattle.base.proofs.Membership.{contains_first}
use Rattle.std.proofs.Common.{◌≡◌, inr, ℕ, ◌+◌, ◌<◌, ◌≤◌, List, [], ◌∷◌, Contains, refl, sym, subst, arith, lit<, lit≤}
use Rattle.std.specs.Prelude.{drop}
use Rattle.std.specs.List.{All}
use Rattle.std.proofs.lemmas.List.Elements.{All-contains, All-from_recursion, Contains-append_right}
use Rattle.block_keys.specs.declared.key.Key.TheVariants as key
use Rattle.world_core.specs.Journals.{Each}
use Rattle.world_core.specs.Operations.{IsReplyTo}
use Rattle.world_core.specs.Standing.{Tells, stands}
use Rattle.world_core.specs.declared.entry.Entry.{Entry}
use Rattle.lifecycle_core.specs.Breaches.{IsBreach, IsKept, Refuses, Rule, honesty, mark_time, rank, read_time, sync_time, upload_time, view_time}
use Rattle.lifecycle_core.specs.Causes.{IsExplained}
use Rattle.lifecycle_core.specs.TimeRules.{PutsMark, PutsObject}
use Rattle.lifecycle_core.proofs.journals.Honesty.{no_lie}
use Rattle.tests_worked.specs.DeletedUpload as row
use Rattle.tests_worked.specs.Entries.{absent, clock}
use Rattle.tests_worked.specs.SmallBlock as small
use Rattle.tests_worked.proofs.deleted.DeletedUpload.{honest, kept}
use Rattle.tests_worked.proofs.small.Each.{each_of}

-- ---- which rules refuse

-- it comes in the first hours, and puts no mark
abbrev IsQuiet : Entry → Type 0
IsQuiet e = (e.moment.ms ≤ 1_870_000) × ((ulid second : ℕ) → ¬ PutsMark ulid second e)

all_quiet : All IsQuiet row.journal
all_quiet = All-from_recursion IsQuiet row.journal ((lit≤ tt, λ ulid second p. cc (p.2)), ((lit≤ tt, λ ulid second p. cc (p.2)), ((lit≤ tt, λ ulid second p. cc (p.2)), ((lit≤ tt, λ ulid second p. cc (p.2)), ((lit≤ tt, λ ulid second p. cc (p.2)), ((lit≤ tt, λ ulid second p. cc (p.2)), ((lit≤ tt, λ ulid second p. cc (p.2)), ((lit≤ tt, λ ulid second p. cc (p.2)), ((lit≤ tt, λ ulid second p. cc (p.2)), ((lit≤ tt, λ ulid second p. cc (p.2)), ((lit≤ tt, λ ulid second p. cc (p.2)), ((lit≤ tt, λ ulid second p. cc (p.2)), ((lit≤ tt, λ ulid second p. cc (p.2)), ((lit≤ tt, λ ulid second p. cc (p.2)), ((lit≤ tt, λ ulid second p. cc (p.2)), ((lit≤ tt, λ ulid second p. cc (p.2)), ((lit≤ tt, λ ulid second p. cc (p.2)), ((lit≤ tt, λ ulid second p. cc (p.2)), ((lit≤ tt, λ ulid second p. cc (p.2)), tt)))))))))))))))))))

abbrev OnlyUploads : List Entry → Entry → Type 0
OnlyUploads before e = (rule : Rule) (x y : ℕ) → Refuses row.setting row.journal rule before e x y → rule ≡ upload_time

only_upload : (before : List Entry) (e : Entry) → IsReplyTo e.op e.reply → Tells (stands before) e.op e.reply → IsQuiet e → OnlyUploads before e
only_upload before e kind tells quiet honesty x y lie = absurd (no_lie before e x y kind tells lie)
only_upload before e kind tells quiet upload_time x y refused = refl
only_upload before e kind tells quiet mark_time x y (ulid, second, puts, over) = absurd (quiet.1 ulid second puts)
only_upload before e kind tells quiet sync_time x y (entries, end, first, others, front, sync, begins, ends, (is, most, over)) = let far : first.moment.ms + 86_400_000 < e.moment.ms + 1000 = over in absurd (omega (arith, quiet.0, far))
only_upload before e kind tells quiet view_time x y (view, reads, (is, most, over)) = let far : view.begin.ms + 172_800_000 < e.moment.ms + 86_400_000 = over in absurd (omega (arith, quiet.0, far))
only_upload before e kind tells quiet read_time x y (begin, reads, (is, most, over)) = let far : begin.ms + 86_400_000 < e.moment.ms = over in absurd (omega (arith, quiet.0, far))

all_only : Each OnlyUploads row.journal
all_only before after e parts =
    let among : Contains row.journal e = subst (λ (es : List Entry). Contains es e) (sym parts) (Contains-append_right before (e ∷ after) e (contains_first e after)) in
    only_upload before e (kept.kinds before after e parts) (honest before after e parts) (All-contains IsQuiet row.journal e all_quiet among)

-- ---- the breach

abbrev front : List Entry
front = clock 1 1_800_000 ∷ absent 2 1 1_800_001 (key.Meta small.a) ∷ []

-- an entry that puts nothing
keeps : (before : List Entry) (e : Entry) → OnlyUploads before e → ((ulid : ℕ) → ¬ PutsObject ulid e) → IsKept row.setting row.journal before e
keeps before e only none rule x y refused =
    let late : Refuses row.setting row.journal upload_time before e x y = subst (λ (r : Rule). Refuses row.setting row.journal r before e x y) (only rule x y refused) refused in
    none late.0 late.1

late_put : Refuses row.setting row.journal upload_time front row.segment_put 1_800_002 1_800_000
late_put = (small.a, (key.Segment small.a 1, small.segment, refl, refl, tt), inr (refl, refl, lit< tt))

foremost : (other : Rule) (x y : ℕ) → rank other < 1 → ¬ Refuses row.setting row.journal other front row.segment_put x y
foremost honesty x y less lie = no_lie front row.segment_put x y tt tt lie
foremost upload_time x y less refused = absurd (omega (arith, less))
foremost mark_time x y less refused = absurd (omega (arith, less))
foremost sync_time x y less refused = absurd (omega (arith, less))
foremost view_time x y less refused = absurd (omega (arith, less))
foremost read_time x y less refused = absurd (omega (arith, less))

pub is_breach : IsBreach row.setting row.journal upload_time 3 1_800_002 1_800_000
is_breach = record {
  before = front;
  entry = row.segment_put;
  after = drop 3 row.journal;
  parts = refl;
  is = refl;
  refused = late_put;
  first = each_of (IsKept row.setting row.journal) front (
    keeps [] (clock 1 1_800_000) (all_only [] (drop 1 row.journal) (clock 1 1_800_000) refl) (λ ulid p. cc (p.2)),
    (keeps (clock 1 1_800_000 ∷ []) (absent 2 1 1_800_001 (key.Meta small.a)) (all_only (clock 1 1_800_000 ∷ []) (drop 2 row.journal) (absent 2 1 1_800_001 (key.Meta small.a)) refl) (λ ulid p. cc (p.2)), tt),
  );
  foremost = foremost;
}

-- ---- the missing object

pub explained : IsExplained row.setting row.journal 19
explained = record {
  missed = row.read;
  key = key.Index small.a;
  at = refl;
  reads = refl;
  absent = refl;
  rule = upload_time;
  before = front;
  entry = row.segment_put;
  after = drop 3 row.journal;
  x = 1_800_002;
  y = 1_800_000;
  parts = refl;
  early = lit≤ tt;
  refused = late_put;
  blamed = (key.Segment small.a 1, small.segment, refl, refl, tt);
}

pub only_cause : (cause : IsExplained row.setting row.journal 19) → cause.rule ≡ upload_time
only_cause cause = all_only cause.before cause.after cause.entry cause.parts cause.rule cause.x cause.y cause.refused
