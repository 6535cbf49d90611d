-- No entry of the run of the setting of one block breaks a rule.
use Rattle.std.proofs.Common.{◌≡◌, ◌<◌, ◌≤◌, ◌/◌, ℕ, List, [], ◌∷◌, ◌++◌, codes, inl, inr, refl, sym, ap, subst, arith, lit<, lit≤}
use Rattle.block_keys.specs.declared.key.Key.{Key}
use Rattle.block_keys.specs.declared.key.Key.TheVariants as key
use Rattle.bucket_core.specs.Contents.{Contents}
use Rattle.bucket_core.specs.Pages.{IsPage}
use Rattle.world_core.specs.Journals.{Each}
use Rattle.world_core.specs.Operations.{IsReplyTo}
use Rattle.world_core.specs.Standing.{stands, Tells}
use Rattle.world_core.specs.declared.entry.Entry.{Entry}
use Rattle.world_core.proofs.Growing.{Each-push}
use Rattle.lifecycle_core.specs.Breaches.{IsBreach, IsKept, IsLie, IsUnbroken, Refuses, Rule, honesty, mark_time, rank, read_time, sync_time, upload_time, view_time}
use Rattle.lifecycle_core.specs.Causes.{IsExplained}
use Rattle.lifecycle_core.specs.Setting.{FromShelf, Setting}
use Rattle.lifecycle_core.specs.TimeRules.{PutsMark}
use Rattle.world_core.specs.declared.op.Op.TheVariants as op
use Rattle.world_core.specs.declared.reply.Reply.TheVariants.{Found}
use Rattle.tests_worked.specs.Entries.{absent, clock, in_range, stored, listed}
use Rattle.tests_worked.specs.SmallBlock as small
use Rattle.tests_worked.specs.SmallFiles as files
use Rattle.tests_worked.specs.OneBlock as one
use Rattle.tests_worked.specs.LostIndex as lost
use Rattle.tests_worked.specs.LateUpload as late
use Rattle.moment_core.specs.StandardRules.{standard_rules}
use Rattle.moment_core.specs.declared.rules.Rules.{Rules}
use Rattle.tests_worked.proofs.small.Bucket.{contents_told, full, page, query_told, shows_meta, shows_index, shows_segment, shows_no_mark}
use Rattle.tests_worked.proofs.small.Each.{EachAfter, each_after, each_of}
use Rattle.lifecycle_core.proofs.journals.Honesty.{no_lie}
use Rattle.tests_worked.proofs.one.OneInTime.{InTime, in_time}

-- An entry of the first half hour can only be a lie, where it puts objects in time, and no mark.
only_lies : (setting : Setting) → setting.script.rules ≡ standard_rules → (journal before : List Entry) (e : Entry) → e.moment.ms ≤ 1_800_010 → ((ulid : ℕ) → InTime ulid e) → ((ulid second : ℕ) → ¬ PutsMark ulid second e)
    → (rule : Rule) (x y : ℕ) → Refuses setting journal rule before e x y → rule ≡ honesty
only_lies setting standard journal before e early timely unmarked honesty x y lie = refl
only_lies setting standard journal before e early timely unmarked upload_time x y (ulid, puts, inl (is, most, over)) = let limits = timely ulid puts in absurd (omega (arith, limits.0, over))
only_lies setting standard journal before e early timely unmarked upload_time x y (ulid, puts, inr (is, most, over)) =
    let limits = timely ulid puts in absurd (omega (arith, limits.1, over, ap (λ (r : Rules). r.upload.ms) standard))
only_lies setting standard journal before e early timely unmarked mark_time x y (ulid, second, puts, (is, most, over)) = absurd (unmarked ulid second puts)
only_lies setting standard journal before e early timely unmarked sync_time x y (entries, end, first, others, front, sync, begins, ends, (is, most, over)) =
    absurd (omega (arith, early, over, ap (λ (r : Rules). r.ignore.ms) standard))
only_lies setting standard journal before e early timely unmarked view_time x y (view, reads, (is, most, over)) =
    absurd (omega (arith, early, over, ap (λ (r : Rules). r.ignore.ms) standard, ap (λ (r : Rules). r.delete.ms) standard))
only_lies setting standard journal before e early timely unmarked read_time x y (begin, reads, (is, most, over)) =
    let half : setting.script.rules.delete.ms / 2 ≡ 86_400_000 = ap (λ (r : Rules). r.delete.ms / 2) standard in absurd (omega (arith, early, over, half))

-- so it breaks no rule where it is no lie
keeps : (setting : Setting) → setting.script.rules ≡ standard_rules → (journal before : List Entry) (e : Entry) → e.moment.ms ≤ 1_800_010 → ((x y : ℕ) → ¬ IsLie before e x y) → ((ulid : ℕ) → InTime ulid e) → ((ulid second : ℕ) → ¬ PutsMark ulid second e)
    → IsKept setting journal before e
keeps setting standard journal before e early true_is timely unmarked rule x y refused =
    let lies = only_lies setting standard journal before e early timely unmarked rule x y refused in
    true_is x y (subst (λ (r : Rule). Refuses setting journal r before e x y) lies refused)

-- where it shows what stands
true_keeps : (setting : Setting) → setting.script.rules ≡ standard_rules → (journal before : List Entry) (e : Entry) → e.moment.ms ≤ 1_800_010 → IsReplyTo e.op e.reply → Tells (stands before) e.op e.reply → ((ulid : ℕ) → InTime ulid e)
    → ((ulid second : ℕ) → ¬ PutsMark ulid second e) → IsKept setting journal before e
true_keeps setting standard journal before e early kind tells timely unmarked = keeps setting standard journal before e early (λ x y. no_lie before e x y kind tells) timely unmarked

clock_keeps : (setting : Setting) → setting.script.rules ≡ standard_rules → (journal before : List Entry) (seq moment : ℕ) → moment ≤ 1_800_010 → IsKept setting journal before (clock seq moment)
clock_keeps setting standard journal before seq moment early = true_keeps setting standard journal before (clock seq moment) early tt tt (λ ulid p. cc (p.2)) (λ ulid second p. cc (p.2))

get_keeps : (setting : Setting) → setting.script.rules ≡ standard_rules → (journal before : List Entry) (e : Entry) (k : Key) → e.moment.ms ≤ 1_800_010 → e.op ≡ op.Get k → IsReplyTo e.op e.reply → Tells (stands before) e.op e.reply → IsKept setting journal before e
get_keeps setting standard journal before e k early is kind tells = true_keeps setting standard journal before e early kind tells (λ ulid p. cc (is, p.2)) (λ ulid second p. cc (is, p.2))

range_keeps : (setting : Setting) → setting.script.rules ≡ standard_rules → (journal before : List Entry) (seq seat moment : ℕ) (k : Key) (from len : ℕ) (bytes : List ℕ) → moment ≤ 1_800_010 → Tells (stands before) (op.GetRange k from len) (Found bytes) → IsKept setting journal before (in_range seq seat moment k from len bytes)
range_keeps setting standard journal before seq seat moment k from len bytes early tells =
    true_keeps setting standard journal before (in_range seq seat moment k from len bytes) early tt tells (λ ulid p. cc (p.2)) (λ ulid second p. cc (p.2))

put_keeps : (setting : Setting) → setting.script.rules ≡ standard_rules → (journal before : List Entry) (seq seat moment : ℕ) (k : Key) (bytes : List ℕ) → moment ≤ 1_800_000 → ((ulid : ℕ) → InTime ulid (stored seq seat moment k bytes)) → ((ulid second : ℕ) → ¬ PutsMark ulid second (stored seq seat moment k bytes))
    → IsKept setting journal before (stored seq seat moment k bytes)
put_keeps setting standard journal before seq seat moment k bytes early timely unmarked = true_keeps setting standard journal before (stored seq seat moment k bytes) (omega (arith, early)) tt tt timely unmarked

page_keeps : (setting : Setting) → setting.script.rules ≡ standard_rules → (journal before : List Entry) (seq seat moment : ℕ) → moment ≤ 1_800_010 → stands before ≡ full → IsKept setting journal before (listed seq seat moment (small.a_text ∷ []))
page_keeps setting standard journal before seq seat moment early stood =
    true_keeps setting standard journal before (listed seq seat moment (small.a_text ∷ [])) early tt (subst (λ (c : Contents). IsPage c [] [] 1_000 (small.a_text ∷ [])) (sym stood) page) (λ ulid p. cc (p.2)) (λ ulid second p. cc (p.2))

-- ---- entry by entry

abbrev pub front : List Entry
front = clock 1 0 ∷ one.upload ++ clock 6 1_800_000 ∷ one.sync

-- the index stands, and the first letter of what is owed is not that of an absent object
pub lost_is_lie : IsLie front lost.lost 65 70
lost_is_lie = (Found files.contents, codes "A", codes "F" ++ files.contents, tt, contents_told full shows_index, refl, refl, ([], codes "A", codes "F" ++ files.contents, refl, refl, refl, refl, λ same. omega (arith, same)))

module _ (setting : Setting) (standard : setting.script.rules ≡ standard_rules) (journal : List Entry) where
  abbrev Keeps : List Entry → Entry → Type 0
  Keeps = IsKept setting journal

  uploads_keep : EachAfter Keeps (clock 1 0 ∷ []) one.upload
  uploads_keep = (
    get_keeps setting standard journal _ _ (key.Meta small.a) (lit≤ tt) refl tt refl,
    (
      put_keeps setting standard journal _ 3 1 2 (key.Segment small.a 1) small.segment (lit≤ tt) (λ ulid p. in_time ulid 2 (lit≤ tt) (cc (p.2, p.3))) (λ ulid second p. cc (p.2)),
      (
        put_keeps setting standard journal _ 4 1 3 (key.Index small.a) small.index (lit≤ tt) (λ ulid p. in_time ulid 3 (lit≤ tt) (cc (p.2, p.3))) (λ ulid second p. cc (p.2)),
        (put_keeps setting standard journal _ 5 1 4 (key.Meta small.a) small.meta (lit≤ tt) (λ ulid p. in_time ulid 4 (lit≤ tt) (cc (p.2, p.3))) (λ ulid second p. cc (p.2)), tt),
      ),
    ),
  )

  sync_keeps : EachAfter Keeps (clock 1 0 ∷ one.upload ++ clock 6 1_800_000 ∷ []) one.sync
  sync_keeps = (
    page_keeps setting standard journal _ 7 2 1_800_001 (lit≤ tt) refl,
    (
      get_keeps setting standard journal _ _ (key.Mark small.a) (lit≤ tt) refl tt shows_no_mark,
      (get_keeps setting standard journal _ _ (key.Meta small.a) (lit≤ tt) refl tt shows_meta, tt),
    ),
  )

  front_keeps : EachAfter Keeps [] front
  front_keeps = (
    clock_keeps setting standard journal [] 1 0 (lit≤ tt),
    each_after Keeps (clock 1 0 ∷ []) one.upload (clock 6 1_800_000 ∷ one.sync) uploads_keep (clock_keeps setting standard journal (clock 1 0 ∷ one.upload) 6 1_800_000 (lit≤ tt), sync_keeps),
  )

  -- the entries up to the end of the sync
  front_kept : Each Keeps front
  front_kept = each_of Keeps front front_keeps

  query_keeps : EachAfter Keeps front one.query
  query_keeps =
      let told = query_told full shows_index shows_segment 10 2 1_800_004 in (
        range_keeps setting standard journal _ 10 2 1_800_004 (key.Index small.a) 153 52 files.contents (lit≤ tt) told.0,
        (
          range_keeps setting standard journal _ 11 2 1_800_005 (key.Index small.a) 5 27 files.symbols (lit≤ tt) told.1.0,
          (
            range_keeps setting standard journal _ 12 2 1_800_006 (key.Index small.a) 123 30 files.table (lit≤ tt) told.1.1.0,
            (
              range_keeps setting standard journal _ 13 2 1_800_007 (key.Index small.a) 68 32 files.lists (lit≤ tt) told.1.1.1.0,
              (
                range_keeps setting standard journal _ 14 2 1_800_008 (key.Index small.a) 32 16 files.series (lit≤ tt) told.1.1.1.1.0,
                (range_keeps setting standard journal _ 15 2 1_800_009 (key.Segment small.a 1) 8 4096 files.chunk (lit≤ tt) told.1.1.1.1.1.0, tt),
              ),
            ),
          ),
        ),
      )

pub front_is_kept : (journal : List Entry) → Each (IsKept one.setting journal) front
front_is_kept journal = front_kept one.setting refl journal

-- the script over any shelf
abbrev over : (ℕ → FromShelf) → Setting
over shelf = record { script = one.script; shelf = shelf }

pub unbroken_over : (shelf : ℕ → FromShelf) → IsUnbroken (record { script = one.script; shelf = shelf }) one.journal
unbroken_over shelf = each_of (IsKept (over shelf) one.journal) one.journal
    (each_after (IsKept (over shelf) one.journal) [] front one.query (front_keeps (over shelf) refl one.journal) (query_keeps (over shelf) refl one.journal))

pub unbroken : IsUnbroken one.setting one.journal
unbroken = unbroken_over one.setting.shelf

-- ---- where the index is lost

pub lost_is_breach : IsBreach one.setting lost.journal honesty 10 65 70
lost_is_breach = record {
  before = front;
  entry = lost.lost;
  after = [];
  parts = refl;
  is = refl;
  refused = lost_is_lie;
  first = front_is_kept lost.journal;
  foremost = λ other x y less. absurd (omega (arith, less));
}

-- no other rule refuses an entry
abbrev OnlyLies : List Entry → Entry → Type 0
OnlyLies before e = (rule : Rule) (x y : ℕ) → Refuses one.setting lost.journal rule before e x y → rule ≡ honesty

lost_entries : Each OnlyLies lost.journal
lost_entries = Each-push OnlyLies front lost.lost (λ before after e parts rule x y refused. absurd (front_is_kept lost.journal before after e parts rule x y refused))
    (only_lies one.setting refl lost.journal front lost.lost (lit≤ tt) (λ ulid p. cc (p.2)) (λ ulid second p. cc (p.2)))

pub lost_is_only_cause : (cause : IsExplained one.setting lost.journal 10) → cause.rule ≡ honesty
lost_is_only_cause cause = lost_entries cause.before cause.after cause.entry cause.parts cause.rule cause.x cause.y cause.refused

-- ---- where the block is uploaded too late

late_put : Refuses late.setting late.journal upload_time (clock 1 1_800_000 ∷ absent 2 1 1_800_001 (key.Meta small.a) ∷ []) (stored 3 1 1_800_002 (key.Segment small.a 1) small.segment) 1_800_002 1_800_000
late_put = (small.a, (key.Segment small.a 1, small.segment, refl, refl, tt), inr (refl, refl, lit< tt))

late_first : (other : Rule) (x y : ℕ) → rank other < 1 → ¬ Refuses late.setting late.journal other (clock 1 1_800_000 ∷ absent 2 1 1_800_001 (key.Meta small.a) ∷ []) (stored 3 1 1_800_002 (key.Segment small.a 1) small.segment) x y
late_first honesty x y less = no_lie (clock 1 1_800_000 ∷ absent 2 1 1_800_001 (key.Meta small.a) ∷ []) (stored 3 1 1_800_002 (key.Segment small.a 1) small.segment) x y tt tt
late_first upload_time x y less = absurd (omega (arith, less))
late_first mark_time x y less = absurd (omega (arith, less))
late_first sync_time x y less = absurd (omega (arith, less))
late_first view_time x y less = absurd (omega (arith, less))
late_first read_time x y less = absurd (omega (arith, less))

pub late_is_breach : IsBreach late.setting late.journal upload_time 3 1_800_002 1_800_000
late_is_breach = record {
  before = clock 1 1_800_000 ∷ absent 2 1 1_800_001 (key.Meta small.a) ∷ [];
  entry = stored 3 1 1_800_002 (key.Segment small.a 1) small.segment;
  after = stored 4 1 1_800_003 (key.Index small.a) small.index ∷ stored 5 1 1_800_004 (key.Meta small.a) small.meta ∷ [];
  parts = refl;
  is = refl;
  refused = late_put;
  first = each_of (IsKept late.setting late.journal) (clock 1 1_800_000 ∷ absent 2 1 1_800_001 (key.Meta small.a) ∷ [])
      (clock_keeps late.setting refl late.journal [] 1 1_800_000 (lit≤ tt), (get_keeps late.setting refl late.journal _ _ (key.Meta small.a) (lit≤ tt) refl tt refl, tt));
  foremost = late_first;
}
