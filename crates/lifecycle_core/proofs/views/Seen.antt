-- What a sync of an honest journal comes to: the blocks that it keeps are complete, and the one that holds a settled upload is kept.
use Rattle.base.proofs.Membership.{any_of_member, contains_first, contains_later, into_filter, member_cases, member_of_any, no_member, only_member}
use Rattle.base.proofs.Integers.{le_le}
use Rattle.std.proofs.Common.{◌≡◌, ◌⊎◌, inl, inr, ℕ, ◌+◌, ◌*◌, ◌<◌, ◌≤◌, ◌^◌, ◌==◌, ℤ, Bool, true, false, not, ◌&&◌, cond, List, [], ◌∷◌, ◌++◌, length, Contains, Option, Some, None, refl, sym, ◌∙◌, ap, subst, append_assoc, arith}
use Rattle.std.specs.Prelude.{int_le, is_some, nat_lt, nat_le, option_map, pos, ◌+ℤ◌, ◌<ℤ◌, ◌≤ℤ◌}
use Rattle.std.specs.List.{All, list_any}
use Rattle.std.proofs.lemmas.Bool.{and_parts, le-leb, or_cases, or_left, or_right}
use Rattle.std.proofs.lemmas.Bool.Decides.{nat_tests}
use Rattle.std.proofs.lemmas.Int.{ints}
use Rattle.std.proofs.lemmas.List.Elements.{All-contains, All-contains_itself, All-weaker, Contains-append_left, Contains-append_right}
use Rattle.block_keys.specs.KeyText.{key_text}
use Rattle.block_keys.specs.declared.key.Key.{Key}
use Rattle.block_keys.specs.declared.key.Key.TheVariants as key
use Rattle.block_meta.specs.MetaFields.{MetaFields, fields_of, mark_fields_of}
use Rattle.block_meta.specs.OfBlocks.{block_meta}
use Rattle.block_meta.specs.declared.deletion_mark.DeletionMark.{DeletionMark}
use Rattle.block_meta.specs.declared.meta.Meta.{Meta}
use Rattle.moment_core.specs.declared.moment.Moment.{Moment}
use Rattle.moment_core.specs.declared.span.Span.{Span}
use Rattle.ulid_core.specs.Times.{time_of}
use Rattle.ulid_core.specs.UlidText.{text_of}
use Rattle.bucket_core.specs.Pages.{IsPage}
use Rattle.world_core.specs.Standing.{IsHonest, Tells, has_landed, stands}
use Rattle.world_core.specs.declared.op.Op.{Op}
use Rattle.world_core.specs.declared.op.Op.TheVariants as op
use Rattle.world_core.specs.declared.reply.Reply.{Reply}
use Rattle.world_core.specs.declared.reply.Reply.TheVariants as reply
use Rattle.world_core.specs.declared.entry.Entry.{Entry}
use Rattle.sync_filters.specs.Filters.{has_all, has_more, is_better, is_consistent, is_covered, is_in_partition, is_late_source, is_recent, is_unmarked}
use Rattle.sync_filters.specs.declared.found.Found.{Found}
use Rattle.sync_filters.proofs.HolderLaws.{has_source}
use Rattle.meta_fetcher.specs.Sightings.{kept_by, passed_by}
use Rattle.meta_fetcher.specs.declared.rules.SyncRules.{SyncRules}
use Rattle.lifecycle_core.specs.Sights.{IsSeen, IsSight, ShowsBlock, TellsMark}
use Rattle.lifecycle_core.proofs.activities.SyncSights.{sync_sight}
use Rattle.script_core.specs.Lawful.{IsLawfulScript}
use Rattle.lifecycle_core.specs.Completed.{IsCompletedAt, IsExpired, IsSettled}
use Rattle.world_core.specs.Journals.{of_seat}
use Rattle.lifecycle_core.specs.Holdings.{Use}
use Rattle.lifecycle_core.specs.Marked.{IsBetter, LandsDelete}
use Rattle.lifecycle_core.specs.PutBlocks.{LiesWithin, WasPutBefore}
use Rattle.lifecycle_core.specs.Setting.{Setting}
use Rattle.lifecycle_core.specs.SyncsAndCalls.{IsViewOf}
use Rattle.lifecycle_core.specs.Tasks.{sync_rules}
use Rattle.lifecycle_core.specs.TimeRules.{IsSyncedInTime, IsUploadedInTime, PutsMark}
use Rattle.lifecycle_core.proofs.blocks.Contents.{declared_own}
use Rattle.lifecycle_core.proofs.blocks.Known.{IsKnown, complete_is_known, put_is_complete}
use Rattle.lifecycle_core.proofs.deeds.Orders.{IsEarlier, front_is_earlier, lower_is_in_front, ordered}
use Rattle.lifecycle_core.proofs.deeds.Sources.{mark_source}
use Rattle.lifecycle_core.proofs.deeds.Stood.{WasDeleted, absent_stands, deleted_since, found_stands, stood}
use Rattle.lifecycle_core.proofs.deeds.Words.{AreDeeds, Cleans, Compacts, cleans as cleans_deed, clocks as clocks_deed, compacts as compacts_deed, reads as reads_deed, ships as ships_deed}
use Rattle.lifecycle_core.proofs.journals.Positions.{stands_in}
use Rattle.lifecycle_core.proofs.journals.Rising.{journal_rises, root_name}
use Rattle.lifecycle_core.proofs.journals.Standing.{parted}
use Rattle.lifecycle_core.proofs.journals.Told.{IsPart, Rises}
use Rattle.lifecycle_core.proofs.marks.Causes.{mark_cause}
use Rattle.lifecycle_core.proofs.marks.Decided.{delays_agree}
use Rattle.lifecycle_core.proofs.marks.Deletions.{deletions_are_late}
use Rattle.lifecycle_core.proofs.marks.Looks.{mark_is_read}
use Rattle.lifecycle_core.proofs.marks.Reasons.{kept_is_seen}
use Rattle.lifecycle_core.proofs.phases.TasksMade.{part_filter, part_middle, part_whole}
use Rattle.lifecycle_core.proofs.journals.LastNumbers.{within_last}
use Rattle.lifecycle_core.proofs.deeds.ActingDeeds.{trichotomy}
use Rattle.lifecycle_core.proofs.misses.Deleted.{delete_cleans}

-- The block was complete, with the meta that was found, before an entry.
pub record IsCompleteFound (journal : List Entry) (number : ℕ) (found : Found) : Type 0 where
  pub seq : ℕ
  pub completed : IsCompletedAt journal found.ulid seq (fields_of found.meta)
  pub earlier : seq < number

-- ---- the greatest of a list

-- more sources, or as many and the smaller ULID
abbrev IsGreater : ℕ → ℕ → ℕ → ℕ → Type 0
IsGreater more name many other = (many < more) ⊎ ((many ≡ more) × (name < other))

further : (a b c x y z : ℕ) → IsGreater a x b y → IsGreater b y c z → IsGreater a x c z
further a b c x y z (inl one) (inl two) = inl (omega (arith, one, two))
further a b c x y z (inl one) (inr two) = inl (omega (arith, one, two.0))
further a b c x y z (inr one) (inl two) = inl (omega (arith, one.0, two))
further a b c x y z (inr one) (inr two) = inr (omega (arith, one.0, two.0), omega (arith, one.1, two.1))

not_itself : (a x : ℕ) → ¬ IsGreater a x a x
not_itself a x (inl more) = absurd (omega (arith, more))
not_itself a x (inr same) = absurd (omega (arith, same.1))

greater_or_not : (a x b y : ℕ) → IsGreater a x b y ⊎ (IsGreater a x b y → ⊥)
greater_or_not a x b y = elim (trichotomy b a) [
  | inl less ↦ inl (inl less)
  | inr rest ↦ elim rest [
    | inl more ↦ inr (λ is. elim is [ inl one ↦ absurd (omega (arith, one, more)) | inr two ↦ absurd (omega (arith, two.0, more)) ])
    | inr same ↦ elim (trichotomy x y) [
      | inl less ↦ inl (inr (same, less))
      | inr other ↦ elim other [
        | inl more ↦ inr (λ is. elim is [ inl one ↦ absurd (omega (arith, one, same)) | inr two ↦ absurd (omega (arith, two.1, more)) ])
        | inr equal ↦ inr (λ is. elim is [ inl one ↦ absurd (omega (arith, one, same)) | inr two ↦ absurd (omega (arith, two.1, equal)) ])
      ]
    ]
  ]
]

module _ {X : Type 0} (size name : X → ℕ) (Is : X → Type 0) (decide : (x : X) → Is x ⊎ (Is x → ⊥)) where
  abbrev Beats : X → X → Type 0
  Beats y g = IsGreater (size y) (name y) (size g) (name g)

  record Greatest (xs : List X) (from : List X) : Type 0 where
    one : X
    among : Contains from one
    is : Is one
    best : (y : X) → Contains xs y → Is y → Beats y one → ⊥

  one_more : (x : X) (xs from : List X) → Contains from x → (g : Greatest xs from) → Is x ⊎ (Is x → ⊥) → Beats x g.one ⊎ (Beats x g.one → ⊥) → Greatest (x ∷ xs) from
  one_more x xs from inside g (inl holds) (inl beats) = record {
    one = x;
    among = inside;
    is = holds;
    best = λ y among own more. elim (member_cases x y xs among) [
      | inl same ↦ not_itself (size x) (name x) (subst (λ (z : X). Beats z x) (sym same) more)
      | inr later ↦ g.best y later own (further (size y) (size x) (size g.one) (name y) (name x) (name g.one) more beats)
    ];
  }
  one_more x xs from inside g (inl holds) (inr not) = record {
    one = g.one;
    among = g.among;
    is = g.is;
    best = λ y among own more. elim (member_cases x y xs among) [ inl same ↦ not (subst (λ (z : X). Beats z g.one) (sym same) more) | inr later ↦ g.best y later own more ];
  }
  one_more x xs from inside g (inr lacks) beats = record {
    one = g.one;
    among = g.among;
    is = g.is;
    best = λ y among own more. elim (member_cases x y xs among) [ inl same ↦ lacks (subst Is (sym same) own) | inr later ↦ g.best y later own more ];
  }

  greatest : (xs from : List X) → ((x : X) → Contains xs x → Contains from x) → (x : X) → Contains from x → Is x → Greatest xs from
  greatest [] from within x inside holds = record { one = x; among = inside; is = holds; best = λ y among own more. absurd (no_member y among) }
  greatest (y ∷ xs) from within x inside holds =
      let g = greatest xs from (λ z among. within z (contains_later y z xs among)) x inside holds in
      one_more y xs from (within y (contains_first y xs)) g (decide y) (greater_or_not (size y) (name y) (size g.one) (name g.one))

-- ---- the puts of metas

-- the meta that an entry put, if the put landed
abbrev meta_of_op : Op → Reply → Option MetaFields
meta_of_op (op.Clock moment) r = None
meta_of_op (op.Put (key.Meta ulid) bytes) r = cond (has_landed r) (block_meta ulid bytes) None
meta_of_op (op.Put (key.Index ulid) bytes) r = None
meta_of_op (op.Put (key.Segment ulid number) bytes) r = None
meta_of_op (op.Put (key.Mark ulid) bytes) r = None
meta_of_op (op.Get k) r = None
meta_of_op (op.GetRange k from len) r = None
meta_of_op (op.Delete k) r = None
meta_of_op (op.RootPage after limit) r = None
meta_of_op (op.BlockPage ulid after limit) r = None

abbrev meta_put : Entry → Option MetaFields
meta_put e = meta_of_op e.op e.reply

-- the put, by the meta that it put
record IsMetaPut (e : Entry) (meta : MetaFields) : Type 0 where
  ulid : ℕ
  bytes : List ℕ
  puts : e.op ≡ op.Put (key.Meta ulid) bytes
  landed : has_landed e.reply ≡ true
  reads : block_meta ulid bytes ≡ Some meta

landed_meta : (b : Bool) (o : Option MetaFields) (meta : MetaFields) → cond b o None ≡ Some meta → (b ≡ true) × (o ≡ Some meta)
landed_meta true o meta is = (refl, is)
landed_meta false o meta is = absurd (cc (is))

meta_put_by : (e : Entry) (o : Op) (meta : MetaFields) → e.op ≡ o → meta_of_op o e.reply ≡ Some meta → IsMetaPut e meta
meta_put_by e (op.Put (key.Meta ulid) bytes) meta is told = let l = landed_meta (has_landed e.reply) (block_meta ulid bytes) meta told in record { ulid = ulid; bytes = bytes; puts = is; landed = l.0; reads = l.1 }
meta_put_by e (op.Put (key.Index ulid) bytes) meta is told = absurd (cc (told))
meta_put_by e (op.Put (key.Segment ulid number) bytes) meta is told = absurd (cc (told))
meta_put_by e (op.Put (key.Mark ulid) bytes) meta is told = absurd (cc (told))
meta_put_by e (op.Clock moment) meta is told = absurd (cc (told))
meta_put_by e (op.Get k) meta is told = absurd (cc (told))
meta_put_by e (op.GetRange k from len) meta is told = absurd (cc (told))
meta_put_by e (op.Delete k) meta is told = absurd (cc (told))
meta_put_by e (op.RootPage after limit) meta is told = absurd (cc (told))
meta_put_by e (op.BlockPage ulid after limit) meta is told = absurd (cc (told))

put_tells : (e : Entry) (meta : MetaFields) → IsMetaPut e meta → meta_put e ≡ Some meta
put_tells e meta p = ap (λ (o : Op). meta_of_op o e.reply) p.puts ∙ ap (λ (b : Bool). cond b (block_meta p.ulid p.bytes) None) p.landed ∙ p.reads

abbrev sources_told : Option MetaFields → ℕ
sources_told None = 0
sources_told (Some meta) = length meta.sources

abbrev ulid_told : Option MetaFields → ℕ
ulid_told None = 0
ulid_told (Some meta) = meta.ulid

-- the entry put a meta, before that of a number, of a block that has this source
abbrev PutsHolder : ℕ → ℕ → Entry → Type 0
PutsHolder number source e = (meta : MetaFields) × (meta_put e ≡ Some meta) × Contains meta.sources source × (e.seq < number)

has_or_not : (source : ℕ) (sources : List ℕ) → Contains sources source ⊎ (Contains sources source → ⊥)
has_or_not source sources = by (list_any (λ (x : ℕ). x == source) sources) refl
  where
    by : (b : Bool) → list_any (λ (x : ℕ). x == source) sources ≡ b → Contains sources source ⊎ (Contains sources source → ⊥)
    by true test = let f = member_of_any (λ (x : ℕ). x == source) sources test in let same = f.2 in inl (subst (Contains sources) (grind (arith, nat_tests, same)) f.1)
    by false test = inr (λ among. let yes = any_of_member (λ (x : ℕ). x == source) sources source among (grind (arith, nat_tests)) in cc (test, yes))

puts_holder_by : (number source : ℕ) (e : Entry) (o : Option MetaFields) → meta_put e ≡ o → PutsHolder number source e ⊎ (PutsHolder number source e → ⊥)
puts_holder_by number source e None is = inr (λ h. cc (h.1, is))
puts_holder_by number source e (Some meta) is = elim (has_or_not source meta.sources) [
  | inr lacks ↦ inr (λ h. let same : h.0 ≡ meta = cc (h.1, is) in lacks (subst (λ (m : MetaFields). Contains m.sources source) same h.2))
  | inl has ↦ elim (trichotomy e.seq number) [
    | inl less ↦ inl (meta, is, has, less)
    | inr rest ↦ elim rest [ inl more ↦ inr (λ h. absurd (omega (arith, h.3, more))) | inr same ↦ inr (λ h. absurd (omega (arith, h.3, same))) ]
  ]
]

puts_holder : (number source : ℕ) (e : Entry) → PutsHolder number source e ⊎ (PutsHolder number source e → ⊥)
puts_holder number source e = puts_holder_by number source e (meta_put e) refl

-- ---- a sync

module _ (setting : Setting) (journal : List Entry) (lawful : IsLawfulScript setting.script) (deeds : AreDeeds setting journal) (honest : IsHonest journal) (rules : SyncRules) (used : Use) (sync : List Entry) (gave : IsViewOf rules journal used sync) where
  rising : Rises journal
  rising = journal_rises setting.script.rules.tick.ms journal deeds.kept

  sight : IsSight rules sync used.view
  sight = sync_sight rules sync used.view gave.sync.run

  part : IsPart journal sync
  part =
      let own : IsPart journal (of_seat gave.seat journal) = part_filter journal (λ (e : Entry). e.seat == gave.seat) journal (part_whole journal rising) in
      part_middle journal gave.sync.before sync gave.sync.after (subst (IsPart journal) (gave.sync.parts ∙ append_assoc gave.sync.before sync gave.sync.after) own)

  -- what was read at an entry of the journal was put before, and stands
  read_put : (front back : List Entry) (e : Entry) → journal ≡ front ++ e ∷ back → (ulid : ℕ) → ulid < 2 ^ 128 → (bytes : List ℕ) → e.op ≡ op.Get (key.Meta ulid) → e.reply ≡ reply.Found bytes → WasPutBefore journal (key.Meta ulid) bytes e.seq
  read_put front back e at ulid small bytes asks shows =
      let last = stood setting journal lawful deeds front (e ∷ back) at (key.Meta ulid) small tt bytes (found_stands setting journal front back e honest at (key.Meta ulid) bytes asks shows) in
      let among : Contains front last.put = subst (λ (es : List Entry). Contains es last.put) (sym last.parts) (stands_in last.front last.back last.put) in
      let early : IsEarlier last.put e = front_is_earlier front back e last.put (subst Rises at rising) among in
      (last.put, subst (λ (es : List Entry). Contains es last.put) (sym at) (Contains-append_left front (e ∷ back) last.put among), last.puts.0, last.puts.1, early.0)

  -- what a sync saw is complete
  record IsWhole (f : Found) (number : ℕ) : Type 0 where
    seq : ℕ
    completed : IsCompletedAt journal f.ulid seq (fields_of f.meta)
    earlier : seq < number

  seen_complete : (f : Found) → (s : IsSeen sync f) → IsWhole f s.read.seq
  seen_complete f s =
      let among : Contains sync s.read = subst (λ (es : List Entry). Contains es s.read) (sym s.parts) (Contains-append_right s.front (s.looked ∷ (s.middle ++ s.read ∷ s.back)) s.read (contains_later s.looked s.read (s.middle ++ s.read ∷ s.back) (stands_in s.middle s.back s.read))) in
      let at = parted journal s.read (part.among s.read among) in
      let c = put_is_complete setting journal lawful deeds honest f.ulid s.read.seq s.bytes (read_put at.0 at.1 s.read at.2 f.ulid s.small s.bytes s.asks_meta s.shows) in
      let meta : c.1 ≡ fields_of f.meta = cc (c.4, s.meta_is) in
      record { seq = c.0; completed = subst (IsCompletedAt journal f.ulid c.0) meta c.2; earlier = c.3 }

  read_among : (f : Found) (s : IsSeen sync f) → Contains sync s.read
  read_among f s = subst (λ (es : List Entry). Contains es s.read) (sym s.parts) (Contains-append_right s.front (s.looked ∷ (s.middle ++ s.read ∷ s.back)) s.read (contains_later s.looked s.read (s.middle ++ s.read ∷ s.back) (stands_in s.middle s.back s.read)))

  looked_among : (f : Found) (s : IsSeen sync f) → Contains sync s.looked
  looked_among f s = subst (λ (es : List Entry). Contains es s.looked) (sym s.parts) (stands_in s.front (s.middle ++ s.read ∷ s.back) s.looked)

  found_complete : (f : Found) → IsSeen sync f → IsCompleteFound journal used.last f
  found_complete f s =
      let w = seen_complete f s in
      let last = within_last s.read sync part.rises (read_among f s) in
      record { seq = w.seq; completed = w.completed; earlier = omega (arith, w.earlier, last, gave.last) }

  pub kept_is_complete : All (IsCompleteFound journal used.last) used.view.kept
  kept_is_complete =
      All-weaker (Contains used.view.kept) (IsCompleteFound journal used.last) (λ f among. found_complete f (kept_is_seen rules sync used.view sight f among)) used.view.kept (All-contains_itself used.view.kept)

-- ---- numbers

sum_less : (a b : ℤ) (r m n : ℕ) → a ≤ℤ b → m ≤ n → (b +ℤ pos r) <ℤ pos m → (a +ℤ pos r) <ℤ pos n
sum_less a b r m n low late less = omega (arith, ints)

-- what ended no later has expired where the other had
expired_later : (o : Option Span) (one other : MetaFields) (m n : Moment) → other.resolution ≡ pos 0 → other.max_time ≤ℤ one.max_time → m.ms ≤ n.ms → IsExpired o one m → IsExpired o other n
expired_later None one other m n whole low late old = old
expired_later (Some span) one other m n whole low late old = (whole, sum_less other.max_time one.max_time span.ms m.ms n.ms low late old.1)

within_both : (low high first last : ℤ) → low ≤ℤ last → first ≤ℤ high → int_le low last && int_le first high ≡ true
within_both low high first last from upto = grind (arith, ints)

-- a mark that is young, or none
unmarked_by : (mark : Option DeletionMark) (read : Moment) (delay : Span) → ((d : DeletionMark) → mark ≡ Some d → read.ms ≤ 1000 * d.deletion_time + delay.ms) → is_recent mark read delay ≡ true
unmarked_by None read delay young = refl
unmarked_by (Some d) read delay young = le-leb read.ms (1000 * d.deletion_time + delay.ms) (young d refl)

more_is_greater : (one other : Meta) → has_more one other ≡ true → IsGreater (length one.sources) one.ulid (length other.sources) other.ulid
more_is_greater one other is = elim (or_cases (nat_lt (length other.sources) (length one.sources)) _ is) [
  | inl more ↦ inl (grind (arith, nat_tests, more))
  | inr same ↦
      let both = and_parts (length one.sources == length other.sources) (nat_lt one.ulid other.ulid) same in
      let equal = both.0 in
      let less = both.1 in
      inr (sym (grind (arith, nat_tests, equal)), grind (arith, nat_tests, less))
]

-- ---- coverage

-- blocks were uploaded in time, and the sync was quick
abbrev IsInTime : Setting → List Entry → List Entry → Type 0
IsInTime setting journal sync = ((ulid : ℕ) → IsUploadedInTime setting.script.rules ulid journal) × IsSyncedInTime setting.script.rules sync

-- no mark was put, and nothing was deleted
abbrev IsUntouched : List Entry → Type 0
IsUntouched journal = ((m : Entry) → Contains journal m → (ulid second : ℕ) → ¬ PutsMark ulid second m) × ((d : Entry) → Contains journal d → (k : Key) → ¬ LandsDelete k d)

module _ (setting : Setting) (journal : List Entry) (lawful : IsLawfulScript setting.script) (deeds : AreDeeds setting journal) (honest : IsHonest journal) (gateway : ℕ) (used : Use) (sync : List Entry) (gave : IsViewOf (sync_rules setting gateway) journal used sync)
    (how : IsInTime setting journal sync ⊎ IsUntouched journal) (source : ℕ) (settled : IsSettled setting journal (sync_rules setting gateway) used source) where
  rises : Rises journal
  rises = journal_rises setting.script.rules.tick.ms journal deeds.kept

  saw : IsSight (sync_rules setting gateway) sync used.view
  saw = sight setting journal lawful deeds honest (sync_rules setting gateway) used sync gave

  own : IsPart journal sync
  own = part setting journal lawful deeds honest (sync_rules setting gateway) used sync gave

  abbrev first : Entry
  first = saw.first

  first_in : Contains sync first
  first_in = subst (λ (es : List Entry). Contains es first) (sym saw.are) (contains_first first saw.others)

  since : (e : Entry) → Contains sync e → (first.seq ≤ e.seq) × (first.moment.ms ≤ e.moment.ms)
  since e among = elim (member_cases first e saw.others (subst (λ (es : List Entry). Contains es e) saw.are among)) [
    | inl same ↦ subst (λ (z : Entry). (first.seq ≤ z.seq) × (first.moment.ms ≤ z.moment.ms)) same (omega arith, omega arith)
    | inr later ↦ let after = All-contains (IsEarlier first) saw.others e (subst Rises saw.are own.rises).0 later in (omega (arith, after.0), after.1)
  ]

  quickly : IsSyncedInTime setting.script.rules sync → (e : Entry) → Contains sync e → e.moment.ms + 1000 ≤ first.moment.ms + setting.script.rules.ignore.ms
  quickly quick e among = quick first e saw.others saw.are among

  -- moments go by numbers
  no_later : (x y : Entry) → Contains journal x → Contains journal y → x.seq ≤ y.seq → x.moment.ms ≤ y.moment.ms
  no_later x y one two less = elim (ordered journal rises x y one two) [
    | inl order ↦ elim order [ inl early ↦ early.1 | inr late ↦ absurd (omega (arith, late.0, less)) ]
    | inr same ↦ let equal : x.moment.ms ≡ y.moment.ms = ap (λ (z : Entry). z.moment.ms) same in omega (arith, equal)
  ]

  one_meta : (ulid seq : ℕ) (meta also : MetaFields) → IsCompletedAt journal ulid seq meta → (p : Entry) (bytes : List ℕ) → Contains journal p → p.op ≡ op.Put (key.Meta ulid) bytes → block_meta ulid bytes ≡ Some also → meta ≡ also
  one_meta ulid seq meta also c p bytes among puts reads =
      let known = complete_is_known setting journal lawful deeds honest ulid seq meta c in
      let is = known.read p bytes among puts in
      cc (is, reads)

  completing : (ulid seq : ℕ) (meta : MetaFields) (c : IsCompletedAt journal ulid seq meta) → Contains journal c.entry
  completing ulid seq meta c = subst (λ (es : List Entry). Contains es c.entry) (sym c.is) (stands_in c.before c.after c.entry)

  -- who holds the source and was complete before the sync, put a meta that tells so
  holder : (ulid seq : ℕ) (meta : MetaFields) (c : IsCompletedAt journal ulid seq meta) → seq < first.seq → Contains meta.sources source → (meta_put c.entry ≡ Some meta) × PutsHolder first.seq source c.entry
  holder ulid seq meta c early has =
      let known = complete_is_known setting journal lawful deeds honest ulid seq meta c in
      let reads = known.read c.entry c.bytes (completing ulid seq meta c) c.puts in
      let tells = put_tells c.entry meta (record { ulid = ulid; bytes = c.bytes; puts = c.puts; landed = c.landed; reads = reads }) in
      (tells, (meta, tells, has, omega (arith, early, c.number)))

  own_source : settled.uploaded.meta.sources ≡ source ∷ []
  own_source = declared_own setting journal lawful deeds honest source settled.uploaded.seq settled.uploaded.meta settled.uploaded.is_declared settled.uploaded.completed

  abbrev IsHolder : Entry → Type 0
  IsHolder e = PutsHolder first.seq source e

  its_put : IsHolder settled.uploaded.completed.entry
  its_put =
      let early : settled.uploaded.seq < first.seq = omega (arith, settled.uploaded.earlier, saw.number) in
      (holder source settled.uploaded.seq settled.uploaded.meta settled.uploaded.completed early (subst (λ (l : List ℕ). Contains l source) (sym own_source) (contains_first source []))).1

  -- the greatest of them
  top : Greatest (λ (e : Entry). sources_told (meta_put e)) (λ (e : Entry). ulid_told (meta_put e)) IsHolder (puts_holder first.seq source) journal journal
  top =
      greatest (λ (e : Entry). sources_told (meta_put e)) (λ (e : Entry). ulid_told (meta_put e)) IsHolder (puts_holder first.seq source) journal journal (λ x among. among) settled.uploaded.completed.entry
      (completing source settled.uploaded.seq settled.uploaded.meta settled.uploaded.completed) its_put

  abbrev put : Entry
  put = top.one

  abbrev meta : MetaFields
  meta = top.is.0

  what : IsMetaPut put meta
  what = meta_put_by put put.op meta refl top.is.1

  abbrev ulid : ℕ
  ulid = what.ulid

  record IsTop : Type 0 where
    seq : ℕ
    completed : IsCompletedAt journal ulid seq meta
    earlier : seq < first.seq

  is_top : IsTop
  is_top =
      let c = put_is_complete setting journal lawful deeds honest ulid first.seq what.bytes (put, top.among, what.puts, what.landed, top.is.3) in
      let same : c.1 ≡ meta = cc (c.4, what.reads) in
      record { seq = c.0; completed = subst (IsCompletedAt journal ulid c.0) same c.2; earlier = c.3 }

  known : IsKnown setting journal ulid is_top.seq meta
  known = complete_is_known setting journal lawful deeds honest ulid is_top.seq meta is_top.completed

  -- the source lies within it
  record Lies : Type 0 where
    from : meta.min_time ≤ℤ settled.uploaded.meta.min_time
    upto : settled.uploaded.meta.max_time ≤ℤ meta.max_time

  lies : Lies
  lies =
      let l = All-contains (LiesWithin setting journal is_top.seq meta) meta.sources source known.sources top.is.2 in
      let c = settled.uploaded.completed in
      let reads = (complete_is_known setting journal lawful deeds honest source settled.uploaded.seq settled.uploaded.meta c).read c.entry c.bytes (completing source settled.uploaded.seq settled.uploaded.meta c) c.puts in
      let same = one_meta source l.uploaded.seq l.uploaded.meta settled.uploaded.meta l.uploaded.completed c.entry c.bytes (completing source settled.uploaded.seq settled.uploaded.meta c) c.puts reads in
      record {
        from = subst (λ (m : MetaFields). meta.min_time ≤ℤ m.min_time) same l.from;
        upto = subst (λ (m : MetaFields). m.max_time ≤ℤ meta.max_time) same l.upto;
      }

  -- no block that was complete before the sync is better
  none_better : (other seq : ℕ) (better : MetaFields) → IsCompletedAt journal other seq better → seq < first.seq → IsBetter better meta → ⊥
  none_better other seq better c early is =
      let h = holder other seq better c early (is.all source top.is.2) in
      let one : sources_told (meta_put c.entry) ≡ length better.sources = ap sources_told h.0 in
      let name : ulid_told (meta_put c.entry) ≡ better.ulid = ap ulid_told h.0 in
      let most : sources_told (meta_put put) ≡ length meta.sources = ap sources_told top.is.1 in
      let called : ulid_told (meta_put put) ≡ meta.ulid = ap ulid_told top.is.1 in
      top.best c.entry (completing other seq better c) h.1
      (subst (λ (n : ℕ). IsGreater n (ulid_told (meta_put c.entry)) (sources_told (meta_put put)) (ulid_told (meta_put put))) (sym one)
      (subst (λ (n : ℕ). IsGreater (length better.sources) n (sources_told (meta_put put)) (ulid_told (meta_put put))) (sym name)
      (subst (λ (n : ℕ). IsGreater (length better.sources) better.ulid n (ulid_told (meta_put put))) (sym most) (subst (λ (n : ℕ). IsGreater (length better.sources) better.ulid (length meta.sources) n) (sym called) is.more))))

  -- each mark of it is late
  mark_late : (m : Entry) → Contains journal m → (second : ℕ) → PutsMark ulid second m → first.moment.ms < 1000 * second + 1000
  mark_late m among second marks =
      let at = parted journal m among in
      let why = mark_cause setting journal lawful deeds honest at.0 at.1 m at.2 ulid second marks in
      let same = one_meta ulid why.seq why.meta meta why.completed put what.bytes top.among what.puts what.reads in
      elim (trichotomy why.look.seq first.seq) [
        | inl less ↦ elim why.cause [
          | inl better ↦ absurd (none_better better.ulid better.seq better.better better.completed (omega (arith, better.earlier, less)) (subst (IsBetter better.better) same better.is))
          | inr old ↦
              let early = no_later why.look first why.looked (own.among first first_in) (omega (arith, less)) in
              let begin : why.look.moment.ms ≤ used.view.begin.ms = subst (λ (x : Moment). why.look.moment.ms ≤ x.ms) (sym saw.begin) early in
              let r = complete_is_known setting journal lawful deeds honest source settled.uploaded.seq settled.uploaded.meta settled.uploaded.completed in
              absurd (settled.fresh (expired_later setting.script.rules.retention meta settled.uploaded.meta why.look.moment used.view.begin r.whole lies.upto begin (subst (λ (x : MetaFields). IsExpired setting.script.rules.retention x why.look.moment) same old)))
        ]
        | inr rest ↦
            let later : first.seq ≤ why.look.seq = elim rest [ inl more ↦ omega (arith, more) | inr equal ↦ omega (arith, equal) ] in
            let after = no_later first why.look (own.among first first_in) why.looked later in
            omega (arith, after, why.upto)
      ]

  -- ---- what each entry of the sync shows

  module _ (e : Entry) (among : Contains sync e) (front back : List Entry) (at : journal ≡ front ++ e ∷ back) where
    put_in_front : Contains front put
    put_in_front = let s = since e among in lower_is_in_front front back e put (subst Rises at rises) (subst (λ (es : List Entry). Contains es put) at top.among) (omega (arith, top.is.3, s.0))

    not_deleted : WasDeleted front put (key.Meta ulid) → ⊥
    not_deleted w =
        let place : journal ≡ w.before ++ w.delete ∷ (w.after ++ e ∷ back) = at ∙ ap (λ (es : List Entry). es ++ e ∷ back) w.parts ∙ append_assoc w.before (w.delete ∷ w.after) (e ∷ back) in
        elim how [
          | inr none ↦ none.1 w.delete (subst (λ (es : List Entry). Contains es w.delete) (sym place) (stands_in w.before (w.after ++ e ∷ back) w.delete)) (key.Meta ulid) w.deletes
          | inl timely ↦
              let late = deletions_are_late setting journal lawful deeds honest ulid (timely.0 ulid) put top.among (what.bytes, what.puts, what.landed) w.before (w.after ++ e ∷ back) w.delete (key.Meta ulid) place w.deletes.0 refl in
              let mark_in : Contains journal late.1.mark = subst (λ (es : List Entry). Contains es late.1.mark) (sym late.1.parts) (stands_in late.1.front late.1.back late.1.mark) in
              let marked = mark_late late.1.mark mark_in late.0 late.1.is.marks in
              let before : IsEarlier w.delete e = front_is_earlier front back e w.delete (subst Rises at rises) (subst (λ (es : List Entry). Contains es w.delete) (sym w.parts) (stands_in w.before w.after w.delete)) in
              let soon = quickly timely.1 e among in
              let agreed = delays_agree setting journal lawful deeds honest front back e at in
              absurd (omega (arith, late.3, marked, before.1, soon, agreed.ignore))
        ]

    stays_by : (o : Option (List ℕ)) → stands front (key_text (key.Meta ulid)) ≡ o → (bytes : List ℕ) × (stands front (key_text (key.Meta ulid)) ≡ Some bytes)
    stays_by None is = absurd (not_deleted (deleted_since setting journal lawful deeds front (e ∷ back) at (key.Meta ulid) known.small tt put what.bytes put_in_front (what.puts, what.landed) is))
    stays_by (Some bytes) is = (bytes, is)

    stays : (bytes : List ℕ) × (stands front (key_text (key.Meta ulid)) ≡ Some bytes)
    stays = stays_by (stands front (key_text (key.Meta ulid))) refl

    shows_block : ShowsBlock ulid e
    shows_block = record {
      listed = λ after limit names asks told later.
          let page : IsPage (stands front) [] after limit names = subst (λ (o : Op). Tells (stands front) o (reply.Names names)) asks (subst (λ (r : Reply). Tells (stands front) e.op r) told (honest front back e at)) in
          page.whole (text_of ulid) (key_text (key.Meta ulid), ap is_some stays.1, root_name (key.Meta ulid)) later;
      met = λ asks absent. let none = absent_stands setting journal front back e honest at (key.Meta ulid) asks absent in let both : None ≡ Some stays.0 = sym none ∙ stays.1 in cc (both);
    }

  shown : All (ShowsBlock ulid) sync
  shown = All-weaker (Contains sync) (ShowsBlock ulid) (λ e among. let at = parted journal e (own.among e among) in shows_block e among at.0 at.1 at.2) sync (All-contains_itself sync)

  -- ---- what was found of it

  record IsFoundTop : Type 0 where
    found : Found
    among : Contains saw.found found
    seen : IsSeen sync found
    name : found.ulid ≡ ulid
    is : fields_of found.meta ≡ meta

  found_top : IsFoundTop
  found_top =
      let f = saw.all ulid known.small shown in
      let seen = All-contains (IsSeen sync) saw.found f.0 saw.seen f.1 in
      let w = seen_complete setting journal lawful deeds honest (sync_rules setting gateway) used sync gave f.0 seen in
      let c : IsCompletedAt journal ulid w.seq (fields_of f.0.meta) = subst (λ (n : ℕ). IsCompletedAt journal n w.seq (fields_of f.0.meta)) f.2 w.completed in
      record { found = f.0; among = f.1; seen = seen; name = f.2; is = one_meta ulid w.seq (fields_of f.0.meta) meta c put what.bytes top.among what.puts what.reads }

  abbrev found : Found
  found = found_top.found

  has_it : Contains found.meta.sources source
  has_it = subst (λ (m : MetaFields). Contains m.sources source) (sym found_top.is) top.is.2

  in_partition : is_in_partition found.meta (sync_rules setting gateway).partition ≡ true
  in_partition =
      within_both (sync_rules setting gateway).partition.low (sync_rules setting gateway).partition.high found.meta.min_time found.meta.max_time
      (subst (λ (m : MetaFields). (sync_rules setting gateway).partition.low ≤ℤ m.max_time) (sym found_top.is) (le_le (sync_rules setting gateway).partition.low settled.uploaded.meta.max_time meta.max_time settled.passes.from lies.upto))
      (subst (λ (m : MetaFields). m.min_time ≤ℤ (sync_rules setting gateway).partition.high) (sym found_top.is) (le_le meta.min_time settled.uploaded.meta.min_time (sync_rules setting gateway).partition.high lies.from settled.passes.upto))

  old_enough : is_consistent found (sync_rules setting gateway).consistency ≡ true
  old_enough = elim known.origin [
    | inl late ↦
        or_right (nat_le (time_of found.ulid + (sync_rules setting gateway).consistency.ms) found.meta_read.ms) (is_late_source found.meta.source) (subst (λ (m : MetaFields). is_late_source m.source ≡ true) (sym found_top.is) late)
    | inr alone ↦
        let own_ulid : source ≡ ulid = sym (only_member ulid source (subst (λ (l : List ℕ). Contains l source) alone top.is.2)) in
        let name : source ≡ found.ulid = own_ulid ∙ sym found_top.name in
        let old = subst (λ (n : ℕ). time_of n + (sync_rules setting gateway).consistency.ms ≤ used.view.begin.ms) name settled.old in
        let read = since found_top.seen.read (read_among setting journal lawful deeds honest (sync_rules setting gateway) used sync gave found found_top.seen) in
        let begin : used.view.begin.ms ≡ first.moment.ms = ap (λ (x : Moment). x.ms) saw.begin in
        let when : found.meta_read.ms ≡ found_top.seen.read.moment.ms = ap (λ (x : Moment). x.ms) found_top.seen.meta_moment in
        or_left (nat_le (time_of found.ulid + (sync_rules setting gateway).consistency.ms) found.meta_read.ms) (is_late_source found.meta.source)
        (le-leb (time_of found.ulid + (sync_rules setting gateway).consistency.ms) found.meta_read.ms (omega (arith, old, read.1, begin, when)))
  ]

  young_mark : (d : DeletionMark) → found.mark ≡ Some d → found.mark_read.ms ≤ 1000 * d.deletion_time + (sync_rules setting gateway).mark_delay.ms
  young_mark d is =
      let s = found_top.seen in
      let told : TellsMark found.ulid (Some (mark_fields_of d)) s.looked.reply = subst (λ (o : Option DeletionMark). TellsMark found.ulid (option_map mark_fields_of o) s.looked.reply) is s.tells in
      let inside = looked_among setting journal lawful deeds honest (sync_rules setting gateway) used sync gave found s in
      let at = parted journal s.looked (own.among s.looked inside) in
      let holds = found_stands setting journal at.0 at.1 s.looked honest at.2 (key.Mark found.ulid) told.0 s.asks_mark told.1 in
      let last = stood setting journal lawful deeds at.0 (s.looked ∷ at.1) at.2 (key.Mark found.ulid) s.small tt told.0 holds in
      let early : Contains at.0 last.put = subst (λ (es : List Entry). Contains es last.put) (sym last.parts) (stands_in last.front last.back last.put) in
      let in_journal : Contains journal last.put = subst (λ (es : List Entry). Contains es last.put) (sym at.2) (Contains-append_left at.0 (s.looked ∷ at.1) last.put early) in
      let marks : PutsMark found.ulid d.deletion_time last.put = (told.0, mark_fields_of d, last.puts.0, last.puts.1, mark_is_read found.ulid told.0 (mark_fields_of d) told.2, refl) in
      let when : found.mark_read.ms ≡ s.looked.moment.ms = ap (λ (x : Moment). x.ms) s.mark_moment in
      elim how [
        | inr none ↦ absurd (none.0 last.put in_journal found.ulid d.deletion_time marks)
        | inl timely ↦
            let late = mark_late last.put in_journal d.deletion_time (subst (λ (n : ℕ). PutsMark n d.deletion_time last.put) found_top.name marks) in
            let soon = quickly timely.1 s.looked inside in
            omega (arith, late, soon, when)
      ]

  unmarked : is_unmarked found (sync_rules setting gateway).mark_delay ≡ true
  unmarked = unmarked_by found.mark found.mark_read (sync_rules setting gateway).mark_delay young_mark

  abbrev passed : List Found
  passed = passed_by (sync_rules setting gateway) saw.found

  passes : Contains passed found
  passes =
      into_filter (λ (b : Found). is_unmarked b (sync_rules setting gateway).mark_delay) _ found
      (into_filter (λ (b : Found). is_consistent b (sync_rules setting gateway).consistency) _ found (into_filter (λ (b : Found). is_in_partition b.meta (sync_rules setting gateway).partition) saw.found found found_top.among in_partition) old_enough) unmarked

  -- ---- the greatest of those that pass is kept

  chosen : Greatest (λ (g : Found). length g.meta.sources) (λ (g : Found). g.meta.ulid) (λ (g : Found). Contains g.meta.sources source) (λ (g : Found). has_or_not source g.meta.sources) passed passed
  chosen = greatest (λ (g : Found). length g.meta.sources) (λ (g : Found). g.meta.ulid) (λ (g : Found). Contains g.meta.sources source) (λ (g : Found). has_or_not source g.meta.sources) passed passed (λ x among. among) found passes has_it

  not_covered : (b : Bool) → is_covered passed chosen.one ≡ b → is_covered passed chosen.one ≡ false
  not_covered false is = is
  not_covered true is =
      let o = member_of_any (λ (other : Found). is_better other.meta chosen.one.meta) passed is in
      let whole = and_parts _ (has_all o.0.meta.sources chosen.one.meta.sources) o.2 in
      let more = (and_parts _ (has_more o.0.meta chosen.one.meta) whole.0).1 in
      absurd (chosen.best o.0 o.1 (has_source o.0.meta.sources chosen.one.meta.sources source whole.1 chosen.is) (more_is_greater o.0.meta chosen.one.meta more))

  is_kept : (g : Found) × Contains used.view.kept g × Contains g.meta.sources source
  is_kept =
      let kept : Contains (kept_by (sync_rules setting gateway) saw.found) chosen.one = into_filter (λ (b : Found). not (is_covered passed b)) passed chosen.one chosen.among (ap not (not_covered (is_covered passed chosen.one) refl)) in
      (chosen.one, subst (λ (l : List Found). Contains l chosen.one) (sym saw.kept) kept, chosen.is)

-- coverage: by the rules of time
pub settled_is_covered : (setting : Setting) (journal : List Entry) (lawful : IsLawfulScript setting.script) (deeds : AreDeeds setting journal) (honest : IsHonest journal) (gateway : ℕ) (used : Use) (sync : List Entry)
    → IsViewOf (sync_rules setting gateway) journal used sync → ((ulid : ℕ) → IsUploadedInTime setting.script.rules ulid journal) → IsSyncedInTime setting.script.rules sync
    → (ulid : ℕ) → IsSettled setting journal (sync_rules setting gateway) used ulid → (found : Found) × Contains used.view.kept found × Contains found.meta.sources ulid
settled_is_covered setting journal lawful deeds honest gateway used sync gave timely quick ulid settled = is_kept setting journal lawful deeds honest gateway used sync gave (inl (timely, quick)) ulid settled

-- or where nothing is compacted and nothing deleted
pub settled_is_kept : (setting : Setting) (journal : List Entry) (lawful : IsLawfulScript setting.script) (deeds : AreDeeds setting journal) → ((seat : ℕ) → ¬ Compacts (deeds.deed seat)) → ((seat : ℕ) → ¬ Cleans (deeds.deed seat)) → IsHonest journal
    → (gateway : ℕ) (used : Use) (sync : List Entry) → IsViewOf (sync_rules setting gateway) journal used sync
    → (ulid : ℕ) → IsSettled setting journal (sync_rules setting gateway) used ulid → (found : Found) × Contains used.view.kept found × Contains found.meta.sources ulid
settled_is_kept setting journal lawful deeds uncompacted undeleted honest gateway used sync gave ulid settled =
    is_kept setting journal lawful deeds honest gateway used sync gave
    (inr (
      (λ m among ulid second marks. let at = parted journal m among in uncompacted m.seat (mark_source setting journal deeds at.0 at.1 m at.2 ulid marks.0 marks.2).0),
      (λ d among k deletes. let at = parted journal d among in undeleted d.seat (delete_cleans setting journal deeds at.0 at.1 d at.2 k deletes.0)),
    )) ulid settled
