-- No sync and no compaction of an honest journal lists too many names: each name that its pages list is that of a block of which an
-- object was put, behind a look at one of its objects, and names strictly ascend, so that they are at most half as many as the entries.
use Rattle.base.proofs.Membership.{contains_first, contains_later, member_cases, no_member}
use Rattle.base.proofs.Options.{Some-from_is_some}
use Rattle.std.proofs.Common.{◌≡◌, inl, inr, ℕ, suc, zero, ◌+◌, ◌≤◌, ◌==◌, ℤ, true, List, [], ◌∷◌, ◌++◌, length, Contains, Option, Some, None, refl, sym, ◌∙◌, ap, subst, arith}
use Rattle.std.specs.Prelude.{fold, nat_le, option_map, unwrap_or}
use Rattle.std.specs.List.{All, before_first, last_or}
use Rattle.std.proofs.lemmas.Bool.{leb-true}
use Rattle.std.proofs.lemmas.Cmp.{nat_list_cmp_total, tied_itself}
use Rattle.std.proofs.lemmas.List.{length-append}
use Rattle.std.proofs.lemmas.List.Elements.{All-append, All-cons, All-contains, All-contains_itself, All-nil, All-weaker, Contains-append_cases, Contains-append_left, Contains-append_right, recursion_from_All}
use Rattle.base.specs.Order.{InOrderAfter, ComesAfter}
use Rattle.ulid_core.specs.UlidText.{text_of}
use Rattle.label_sets.specs.Labels.{ComesBefore, compare_texts}
use Rattle.block_keys.specs.Keys.{key_ulid}
use Rattle.block_keys.specs.declared.key.Key.{Key}
use Rattle.block_keys.specs.declared.key.Key.TheVariants as key
use Rattle.block_keys.specs.declared.object.Object.{Object}
use Rattle.block_meta.specs.Built.{objects_of}
use Rattle.block_meta.specs.MetaFields.{fields_of}
use Rattle.block_meta.specs.MetaValue.{meta_text}
use Rattle.moment_core.specs.declared.rules.Rules.{Rules}
use Rattle.bucket_core.specs.Contents.{nothing}
use Rattle.bucket_core.specs.Pages.{IsName}
use Rattle.world_core.specs.Plans.{Runs, ends as comes_to}
use Rattle.world_core.specs.Standing.{IsHonest, Tells, stands}
use Rattle.world_core.specs.declared.entry.Entry.{Entry}
use Rattle.world_core.specs.declared.op.Op.{Op}
use Rattle.world_core.specs.declared.op.Op.TheVariants as op
use Rattle.world_core.specs.declared.reply.Reply.TheVariants as reply
use Rattle.world_core.proofs.PlanLaws.{AsksFor, asked_are}
use Rattle.world_core.proofs.PlanWords.{gets_ask, puts_ask}
use Rattle.shipper.specs.Uploads.{putting, upload}
use Rattle.shipper.specs.declared.upload.UploadEnd.{UploadEnd}
use Rattle.shipper.specs.declared.upload.UploadEnd.TheVariants.{Already, Fault}
use Rattle.meta_fetcher.specs.Syncs.{Course, IsEnd, Synced, SyncRun, with_entry}
use Rattle.meta_fetcher.specs.Syncs as sync_told
use Rattle.meta_fetcher.specs.declared.rules.SyncRules.{SyncRules}
use Rattle.meta_fetcher.proofs.SyncLaws.{Comes, KeptByPages, KeptByReads, page_after, synced as walked}
use Rattle.meta_fetcher.specs.declared.sync.SyncEnd.{SyncEnd}
use Rattle.meta_fetcher.specs.declared.sync.SyncEnd.TheVariants as fetched
use Rattle.compactor.specs.Compactions.{CompactRun, compaction}
use Rattle.compactor.specs.Compactions as compactions
use Rattle.compactor.specs.declared.compact_end.CompactEnd.{CompactEnd}
use Rattle.compactor.specs.declared.compact_end.CompactEnd.TheVariants as compact
use Rattle.cleaner.specs.Cleanings.{cleaning}
use Rattle.store_ranges.specs.Reads.{Query as Question}
use Rattle.store_calls.specs.SeriesCalls.{CallEnd}
use Rattle.store_calls.specs.declared.series_call.SeriesEnd.{SeriesEnd}
use Rattle.script_core.specs.declared.block.Block.{Block}
use Rattle.script_workers.specs.declared.work.Work.{Work}
use Rattle.script_workers.specs.declared.work.Work.TheVariants.{Upload, Sync, Compact, Clean, Query}
use Rattle.lifecycle_core.specs.CleaningOps.{IsCleanOp}
use Rattle.lifecycle_core.specs.CompactionOps.{IsCompactOp, IsObjectMade}
use Rattle.lifecycle_core.proofs.activities.CleaningAsks.{cleaning_op, each_at}
use Rattle.lifecycle_core.specs.Acting.{IsReading}
use Rattle.lifecycle_core.specs.Causes.{SomeCame}
use Rattle.world_core.specs.Journals.{of_seat}
use Rattle.lifecycle_core.specs.Conducts.{Who}
use Rattle.lifecycle_core.specs.Held.{declared}
use Rattle.lifecycle_core.specs.Holdings.{Holding, Use}
use Rattle.lifecycle_core.specs.Phases.{IsRunOf}
use Rattle.lifecycle_core.specs.Setting.{Setting}
use Rattle.lifecycle_core.specs.Shipped.{IsShipped}
use Rattle.lifecycle_core.specs.Tasks.{End, QueryTask, TaskRun, answered, ask_to, cleaned, compacted, question_of, sync_rules, synced, without_view, not_asked}
use Rattle.lifecycle_core.proofs.blocks.Declared.{declared_ulid}
use Rattle.lifecycle_core.proofs.blocks.Objects.{object_is, object_ulid}
use Rattle.lifecycle_core.proofs.blocks.OneShipped.{ends_with_meta}
use Rattle.lifecycle_core.proofs.activities.CompactionAsks.{compaction_op}
use Rattle.lifecycle_core.proofs.deeds.Fronts.{done_at}
use Rattle.lifecycle_core.proofs.deeds.Orders.{in_seat}
use Rattle.lifecycle_core.proofs.deeds.Words.{AreDeeds, Done, IsClock, cleaning as cleans, clocking, compacting, reading, shipping}
use Rattle.lifecycle_core.proofs.journals.Positions.{stands_in}
use Rattle.lifecycle_core.proofs.journals.Rising.{journal_rises, root_name}
use Rattle.lifecycle_core.proofs.journals.Standing.{parted, was_put}
use Rattle.lifecycle_core.proofs.journals.Told.{Rises}
use Rattle.lifecycle_core.proofs.misses.RoundFaults.{compaction_lists_many}
use Rattle.lifecycle_core.proofs.phases.GatewayParts.{part_ends, query_is}
use Rattle.lifecycle_core.proofs.phases.ShipEnds.{ship_end, stopped_end}
use Rattle.lifecycle_core.proofs.phases.TasksMade.{ends_are_made}

-- ---- how many names ascend

-- names that ascend after the last of others continue them
ascends_joined : (before : Option (List ℕ)) (xs ys : List (List ℕ)) → InOrderAfter (ComesAfter compare_texts) (Some (unwrap_or before [])) xs → InOrderAfter (ComesAfter compare_texts) (Some (unwrap_or (last_or before xs) [])) ys → InOrderAfter (ComesAfter compare_texts) (Some (unwrap_or before [])) (xs ++ ys)
ascends_joined before [] ys up next = next
ascends_joined before (x ∷ xs) ys up next = (up.0, ascends_joined (Some x) xs ys up.1 next)

-- a name is before each of those that ascend after it
all_after : (name : List ℕ) (names : List (List ℕ)) → InOrderAfter (ComesAfter compare_texts) (Some name) names → All (ComesBefore name) names
all_after name [] up = All-nil (ComesBefore name)
all_after name (x ∷ names) up =
    All-cons (ComesBefore name) x names up.0 (All-weaker (ComesBefore x) (ComesBefore name) (λ y later. nat_list_cmp_total.trans name x y up.0 later) names (all_after x names up.1))

not_itself : (name : List ℕ) → ComesBefore name name → ⊥
not_itself name less = cc (less, tied_itself nat_list_cmp_total name)

-- another member is still one where that is taken out
still_in : (front back : List (List ℕ)) (name x : List ℕ) → ComesBefore name x → Contains (front ++ name ∷ back) x → Contains (front ++ back) x
still_in front back name x less among = elim (Contains-append_cases front (name ∷ back) x among) [
  | inl first ↦ Contains-append_left front back x first
  | inr (zero, below, is) ↦ absurd (not_itself name (subst (ComesBefore name) (sym is) less))
  | inr (suc k, below, is) ↦ Contains-append_right front back x (k, omega (arith, below), is)
]

-- names that ascend are at most as many as the texts among which they are
few_ascend : (after : List ℕ) (names texts : List (List ℕ)) → InOrderAfter (ComesAfter compare_texts) (Some after) names → ((x : List ℕ) → Contains names x → Contains texts x) → length names ≤ length texts
few_ascend after [] texts up among = omega arith
few_ascend after (name ∷ names) texts up among =
    let at = parted texts name (among name (contains_first name names)) in
    let front = at.0 in
    let back = at.1 in
    let others : (x : List ℕ) → Contains names x → Contains (front ++ back) x = λ x inside.
    still_in front back name x (All-contains (ComesBefore name) names x (all_after name names up.1) inside) (subst (λ ts. Contains ts x) at.2 (among x (contains_later name x names inside))) in
    let rest : length names ≤ length (front ++ back) = few_ascend name names (front ++ back) up.1 others in
    omega (arith, rest, ap (length {A = List ℕ}) at.2, length-append front (name ∷ back), length-append front back)

-- ---- the names of what was put, and of what was read

abbrev put_name : Op → List (List ℕ)
put_name (op.Clock moment) = []
put_name (op.Put k bytes) = text_of (key_ulid k) ∷ []
put_name (op.Get k) = []
put_name (op.GetRange k from len) = []
put_name (op.Delete k) = []
put_name (op.RootPage after limit) = []
put_name (op.BlockPage ulid after limit) = []

abbrev got_name : Op → List (List ℕ)
got_name (op.Clock moment) = []
got_name (op.Put k bytes) = []
got_name (op.Get k) = text_of (key_ulid k) ∷ []
got_name (op.GetRange k from len) = []
got_name (op.Delete k) = []
got_name (op.RootPage after limit) = []
got_name (op.BlockPage ulid after limit) = []

names_by : (Op → List (List ℕ)) → List Entry → List (List ℕ)
names_by f [] = []
names_by f (e ∷ entries) = f e.op ++ names_by f entries

one_at_most : (o : Op) → length (put_name o) + length (got_name o) ≤ 1
one_at_most (op.Clock moment) = omega arith
one_at_most (op.Put k bytes) = omega arith
one_at_most (op.Get k) = omega arith
one_at_most (op.GetRange k from len) = omega arith
one_at_most (op.Delete k) = omega arith
one_at_most (op.RootPage after limit) = omega arith
one_at_most (op.BlockPage ulid after limit) = omega arith

-- an entry puts or reads
counted : (entries : List Entry) → length (names_by put_name entries) + length (names_by got_name entries) ≤ length entries
unfolding names_by
counted [] = omega arith
counted (e ∷ entries) =
    let one = one_at_most e.op in
    let rest = counted entries in
    omega (arith, one, rest, length-append (put_name e.op) (names_by put_name entries), length-append (got_name e.op) (names_by got_name entries))

named : (f : Op → List (List ℕ)) (entries : List Entry) (e : Entry) (name : List ℕ) → Contains entries e → Contains (f e.op) name → Contains (names_by f entries) name
unfolding names_by
named f [] e name among here = absurd (no_member e among)
named f (x ∷ entries) e name among here = elim (member_cases x e entries among) [
  | inl same ↦ Contains-append_left (f x.op) (names_by f entries) name (subst (λ (y : Entry). Contains (f y.op) name) (sym same) here)
  | inr later ↦ Contains-append_right (f x.op) (names_by f entries) name (named f entries e name later here)
]

put_named : (entries : List Entry) (e : Entry) (k : Key) (bytes : List ℕ) → Contains entries e → e.op ≡ op.Put k bytes → Contains (names_by put_name entries) (text_of (key_ulid k))
put_named entries e k bytes among puts =
    named put_name entries e (text_of (key_ulid k)) among (subst (λ (o : Op). Contains (put_name o) (text_of (key_ulid k))) (sym puts) (contains_first (text_of (key_ulid k)) []))

read_named : (entries : List Entry) (e : Entry) (k : Key) → Contains entries e → e.op ≡ op.Get k → Contains (names_by got_name entries) (text_of (key_ulid k))
read_named entries e k among reads_it =
    named got_name entries e (text_of (key_ulid k)) among (subst (λ (o : Op). Contains (got_name o) (text_of (key_ulid k))) (sym reads_it) (contains_first (text_of (key_ulid k)) []))

-- ---- each put is behind a look at its block

-- an object of the block was asked for
record IsLooked (own : List Entry) (ulid : ℕ) : Type 0 where
  look : Entry
  among : Contains own look
  looked_key : Key
  asks : look.op ≡ op.Get looked_key
  under : key_ulid looked_key ≡ ulid

looked_more : (made : List Entry) (e : Entry) (ulid : ℕ) → IsLooked made ulid → IsLooked (made ++ e ∷ []) ulid
looked_more made e ulid l = record { look = l.look; among = Contains-append_left made (e ∷ []) l.look l.among; looked_key = l.looked_key; asks = l.asks; under = l.under }

-- in an upload
abbrev PutsOwn : ℕ → List Object → List Entry → Op → Type 0
PutsOwn ulid objects made o = (k : Key) (bytes : List ℕ) → o ≡ op.Put k bytes → IsLooked made ulid × ((x : Object) × Contains objects x × (x.key ≡ k))

module _ (ulid : ℕ) (objects : List Object) where
  putting_looks : (total : ℕ) (left : List Object) (made : List Entry) → ((x : Object) → Contains left x → Contains objects x) → IsLooked made ulid → AsksFor (PutsOwn ulid objects) made (putting total left)
  putting_looks total [] made inside is = tt
  putting_looks total (o ∷ os) made inside is =
      puts_ask (PutsOwn ulid objects) made Fault o.key o.bytes (λ e. putting total os)
      (λ k bytes same. let key_is : o.key ≡ k = cc (same) in (is, (o, inside o (contains_first o os), key_is)))
      (λ e puts stored. putting_looks total os (made ++ e ∷ []) (λ x among. inside x (contains_later o x os among)) (looked_more made e ulid is))

  upload_looks : AsksFor (PutsOwn ulid objects) [] (upload ulid objects)
  upload_looks =
      gets_ask (PutsOwn ulid objects) [] Fault (key.Meta ulid) (λ e bytes. comes_to Already) (λ e. putting (length objects) objects) (λ k bytes same. absurd (cc (same))) (λ e bytes is found. tt)
      (λ e is absent. putting_looks (length objects) objects (e ∷ []) (λ x among. among) (record { look = e; among = contains_first e []; looked_key = key.Meta ulid; asks = is; under = refl }))

  upload_looked : (own : List Entry) (e : Entry) (rest : List Entry) (end : Option UploadEnd) → Runs (upload ulid objects) (own ++ e ∷ rest) end → PutsOwn ulid objects own e.op
  upload_looked own e rest end run = each_at (PutsOwn ulid objects) [] own e rest (asked_are (PutsOwn ulid objects) (upload ulid objects) [] (own ++ e ∷ rest) end upload_looks run)

-- in a compaction
made_looked : (rules : Rules) (own : List Entry) (k : Key) (bytes : List ℕ) → IsObjectMade rules own k bytes → IsLooked own (key_ulid k)
made_looked rules own k bytes m =
    let text : List ℕ = meta_text (fields_of (m.block).meta) in
    let inside : Contains (objects_of m.ulid (m.block).segments (m.block).index text) (record { key = k; bytes = bytes }) =
    subst (λ os. Contains os (record { key = k; bytes = bytes })) (sym m.objects) (stands_in m.done m.left (record { key = k; bytes = bytes })) in
    record {
      look = m.look;
      among = subst (λ es. Contains es m.look) (sym m.parts) (stands_in m.read m.puts m.look);
      looked_key = key.Meta m.ulid;
      asks = m.asks;
      under = sym (object_ulid m.ulid (m.block).segments (m.block).index text k bytes (object_is m.ulid (m.block).segments (m.block).index text k bytes inside));
    }

compact_looked : (rules : Rules) (own : List Entry) (k : Key) (bytes : List ℕ) → IsCompactOp rules own (op.Put k bytes) → IsLooked own (key_ulid k)
compact_looked rules own (key.Meta ulid) bytes m = made_looked rules own (key.Meta ulid) bytes m
compact_looked rules own (key.Index ulid) bytes m = made_looked rules own (key.Index ulid) bytes m
compact_looked rules own (key.Segment ulid number) bytes m = made_looked rules own (key.Segment ulid number) bytes m
compact_looked rules own (key.Mark ulid) bytes m =
    record { look = m.look; among = subst (λ es. Contains es m.look) (sym m.parts) (stands_in m.front [] m.look); looked_key = key.Mark ulid; asks = m.asks; under = refl }

shipped_looked : (setting : Setting) (ulid : ℕ) (block : Block) (objects : List Object) (own : List Entry) (k : Key) → declared setting.script ulid ≡ Some block → IsShipped setting block objects
    → IsLooked own ulid × ((x : Object) × Contains objects x × (x.key ≡ k)) → IsLooked own (key_ulid k)
shipped_looked setting ulid block objects own k known shipped_is (looked, (x, among, same)) =
    let under : key_ulid k ≡ ulid = ap key_ulid (sym same) ∙ (ends_with_meta setting block block.body objects shipped_is).under x among ∙ declared_ulid setting ulid block known in
    subst (IsLooked own) (sym under) looked

module _ (setting : Setting) (journal : List Entry) (deeds : AreDeeds setting journal) (before after : List Entry) (e : Entry) (parts : journal ≡ before ++ e ∷ after) (k : Key) (bytes : List ℕ)
    (puts : e.op ≡ op.Put k bytes) where
  abbrev own : List Entry
  own = of_seat e.seat before

  put_looked : Done setting before e → IsLooked own (key_ulid k)
  put_looked (shipping ulid block objects known shipped_is run) = shipped_looked setting ulid block objects own k known shipped_is (upload_looked ulid objects own e [] None run k bytes puts)
  put_looked (compacting run) = compact_looked setting.script.rules own k bytes (subst (IsCompactOp setting.script.rules own) puts (compaction_op setting.script.rules own e [] None run))
  put_looked (cleans run) = absurd (subst (IsCleanOp setting.script.rules own) puts (cleaning_op setting.script.rules own e [] None run))
  put_looked (reading is) = absurd (subst IsReading puts is)
  put_looked (clocking is) = absurd (subst IsClock puts is)

  looked_named : Contains (names_by got_name journal) (text_of (key_ulid k))
  looked_named =
      let l = put_looked (done_at setting journal deeds before after e parts) in
      let inside : Contains journal l.look = subst (λ es. Contains es l.look) (sym parts) (Contains-append_left before (e ∷ after) l.look (in_seat e.seat before l.look l.among).0) in
      subst (λ (u : ℕ). Contains (names_by got_name journal) (text_of u)) l.under (read_named journal l.look l.looked_key inside l.asks)

-- ---- the names of pages

-- an object of such a block was put, and one was asked for
abbrev IsKnown : List Entry → List ℕ → Type 0
IsKnown journal name = Contains (names_by put_name journal) name × Contains (names_by got_name journal) name

-- what was listed: names of such blocks, in order
record AreListed (journal : List Entry) (names : List (List ℕ)) : Type 0 where
  pub ascend : InOrderAfter (ComesAfter compare_texts) (Some []) names
  pub known : All (IsKnown journal) names

too_few : (n : ℕ) → n ≤ 524_288 → nat_le 1_000_000 n ≡ true → ⊥
too_few n few many = omega (arith, few, leb-true 1_000_000 n many)

-- what a sync comes to is not too many names
abbrev AreFew : List Entry → Synced → Type 0
AreFew made (sync_told.sighted sightings) = Unit {0}
AreFew made (sync_told.fault number) = Unit {0}
AreFew made (sync_told.damaged number) = Unit {0}
AreFew made sync_told.too_many = ⊥

-- an end that is no other
not_too_many : (rules : SyncRules) (made : List Entry) (last : Synced) (course : Option Course) → AreFew made last → IsEnd rules (last, course) fetched.TooMany → ⊥
not_too_many rules made (sync_told.sighted sightings) (Some course) few (view, is, v) = cc (is)
not_too_many rules made (sync_told.sighted sightings) None few is = is
not_too_many rules made (sync_told.fault number) course few is = cc (is)
not_too_many rules made (sync_told.damaged number) course few is = cc (is)
not_too_many rules made sync_told.too_many course few is = few

module _ (setting : Setting) (journal : List Entry) (deeds : AreDeeds setting journal) (honest : IsHonest journal) where
  put_known : (e : Entry) (k : Key) (bytes : List ℕ) → Contains journal e → e.op ≡ op.Put k bytes → IsKnown journal (text_of (key_ulid k))
  put_known e k bytes among puts =
      let at = parted journal e among in
      (put_named journal e k bytes among puts, looked_named setting journal deeds at.0 at.1 e at.2 k bytes puts)

  name_known : (before after : List Entry) (page : Entry) → journal ≡ before ++ page ∷ after → (name : List ℕ) → IsName (stands before) [] name → IsKnown journal name
  name_known before after page parts name (text, stand, lists) =
      let here = Some-from_is_some (stands before text) stand in
      elim (was_put before nothing text here.0 here.1) [
        | inl w ↦
            let among : Contains journal w.entry = subst (λ es. Contains es w.entry) (sym parts) (Contains-append_left before (page ∷ after) w.entry (subst (λ es. Contains es w.entry) (sym w.parts) (stands_in w.front w.back w.entry))) in
            subst (IsKnown journal) (sym (lists ∙ ap (before_first (λ byte. byte == 47)) (sym w.same) ∙ sym (root_name w.key_is))) (put_known w.entry w.key_is here.0 among w.puts)
        | inr none ↦ absurd (cc (none))
      ]

  page_shows : (page : Entry) (cursor : List ℕ) (limit : ℕ) (names : List (List ℕ)) → Contains journal page → page.op ≡ op.RootPage cursor limit → page.reply ≡ reply.Names names
      → InOrderAfter (ComesAfter compare_texts) (Some cursor) names × All (IsKnown journal) names
  page_shows page cursor limit names among asked told =
      let at = parted journal page among in
      let tells : Tells (stands at.0) (op.RootPage cursor limit) (reply.Names names) =
      subst (λ x. Tells (stands at.0) x (reply.Names names)) asked (subst (λ x. Tells (stands at.0) page.op x) told (honest at.0 at.1 page at.2)) in
      (tells.ascend, All-weaker (IsName (stands at.0) []) (IsKnown journal) (name_known at.0 at.1 page at.2) names tells.stand)

  listed_few : (names : List (List ℕ)) → AreListed journal names → length names ≤ 524_288
  listed_few names listed =
      let puts : length names ≤ length (names_by put_name journal) = few_ascend [] names (names_by put_name journal) listed.ascend (λ x inside. (All-contains (IsKnown journal) names x listed.known inside).0) in
      let looks : length names ≤ length (names_by got_name journal) = few_ascend [] names (names_by got_name journal) listed.ascend (λ x inside. (All-contains (IsKnown journal) names x listed.known inside).1) in
      omega (arith, puts, looks, counted journal, deeds.kept.few)

  -- ---- the walk

  more_listed : (limit : ℕ) (listed names : List (List ℕ)) (page : Entry) → Comes (Contains journal) (AreListed journal listed) (page_after limit listed) (reply.Names names) page → AreListed journal (listed ++ names)
  more_listed limit listed names page came =
      let shown = page_shows page _ limit names came.given came.asks came.shows in
      record { ascend = ascends_joined None listed names came.before.ascend shown.0; known = All-append (IsKnown journal) listed names came.before.known shown.1 }

  few_reads : KeptByReads (Contains journal) AreFew (λ made sightings ulids. Unit {0})
  few_reads = record {
    over = λ made sightings j. tt;
    mark_failed = λ made sightings ulid ulids e landed came. tt;
    no_mark = λ made sightings ulid ulids e bytes came none. tt;
    marked = λ made sightings ulid ulids e bytes mark came read. tt;
    unmarked = λ made sightings ulid ulids e came. tt;
    meta_failed = λ made sightings ulid ulids e landed came. tt;
    unread = λ made sightings ulid ulids e bytes came none. tt;
    seen = λ made sightings ulid ulids e bytes mark mark_read meta looked came read. tt;
    missed = λ made sightings ulid ulids e came. tt;
  }

  few_pages : (limit : ℕ) → KeptByPages (Contains journal) AreFew limit (λ made. AreListed journal) (λ made listed. Unit {0})
  few_pages limit = record {
    failed = λ made listed page landed came. tt;
    unordered = λ made listed names page came down. tt;
    short = λ made listed names page came up few. tt;
    full = λ made listed names page came up many. more_listed limit listed names page came;
    many = λ made names i many. too_few (length names) (listed_few names i) many;
  }

  -- no sync of the journal finds too many names, by whichever rules
  pub syncs_find_few : (rules : SyncRules) (entries : List Entry) → ((e : Entry) → Contains entries e → Contains journal e) → ¬ SyncRun rules entries (Some fetched.TooMany)
  syncs_find_few rules entries inside run =
      let all = recursion_from_All (Contains journal) entries (All-weaker (Contains entries) (Contains journal) inside entries (All-contains_itself entries)) in
      let s = walked (Contains journal) AreFew rules (λ made. AreListed journal) (λ made listed. Unit {0}) (λ made sightings ulids. Unit {0})
      (few_pages rules.page_limit) few_reads (record { ascend = tt; known = All-nil (IsKnown journal) }) (λ made names l. tt) entries fetched.TooMany all run in
      not_too_many rules entries s.0 (fold with_entry None entries) s.1 s.2

  -- nor does a compaction
  pub compactions_find_few : (rules : Rules) (entries : List Entry) → ((e : Entry) → Contains entries e → Contains journal e) → ¬ CompactRun rules entries (Some compact.TooMany)
  compactions_find_few rules entries inside run =
      let many = compaction_lists_many rules entries run in
      syncs_find_few (compactions.sync_rules rules) many.0 (λ e among. inside e (subst (λ es. Contains es e) (sym many.2) (Contains-append_left many.0 many.1 e among))) many.3

-- ---- the ends

-- an end that is none of a gateway's part
module _ (end : End) (view : end ≡ without_view → ⊥) (call : (from : Use) (c : SeriesEnd) → end ≡ answered from c → ⊥) where
  no_call : (from : Use) (own : Option CallEnd) → Some end ≡ option_map (λ (c : CallEnd). answered from c.end) own → ⊥
  no_call from None is = cc (is)
  no_call from (Some own) is = call from own.end (cc (is))

  no_query : (used : Option Use) (asked : Option Question) (before after : Holding) (entries : List Entry) → ¬ QueryTask used asked before entries (Some end) after
  no_query used asked before after entries run = elim (query_is used asked before entries (Some end) after run) [
    | inl none ↦ elim none.0.1 [ inl off ↦ cc (off) | inr same ↦ view (cc (same)) ]
    | inr own ↦ no_call own.from own.own own.came
  ]

  no_part : (setting : Setting) (who : Who) (place : ℕ) (low high : ℤ) (selector : ℕ) (held after : Holding) (entries : List Entry) → (end ≡ not_asked → ⊥) → ¬ TaskRun setting who place (Query low high selector) held entries (Some end) after
  no_part setting who place low high selector held after entries asked run =
      let part = part_ends setting selector (ask_to setting who.gateway low high) held after entries end asked run in
      no_query held.used (question_of setting selector part.0) held after entries part.2

module _ (setting : Setting) (who : Who) (place : ℕ) (held after : Holding) (entries : List Entry) where
  no_task_finds_many : (w : Work) → ((gateway : ℕ) → ¬ SyncRun (sync_rules setting gateway) entries (Some fetched.TooMany)) → ¬ TaskRun setting who place w held entries (Some (synced fetched.TooMany)) after
  no_task_finds_many (Upload ulid stop) few ((block, is, ships), left) =
      ship_end (λ (x : End). x ≡ synced fetched.TooMany → ⊥) setting block stop entries (synced fetched.TooMany) (λ objects own run same. cc (same)) (λ cause same. cc (same)) (λ n same. cc (same)) ships (λ i. synced fetched.TooMany)
  no_task_finds_many (Sync gateway) few (None, run, same, left) = cc (same)
  no_task_finds_many (Sync gateway) few (Some own, run, same, left) =
      let one : own ≡ fetched.TooMany = cc (same) in
      few gateway (subst (λ (x : SyncEnd). SyncRun (sync_rules setting gateway) entries (Some x)) one run)
  no_task_finds_many (Compact stop) few (run, left) =
      stopped_end (λ (x : End). x ≡ synced fetched.TooMany → ⊥) (compaction setting.script.rules) compacted stop entries (synced fetched.TooMany) (λ own done same. cc (same)) (λ n same. cc (same)) run (λ i. synced fetched.TooMany)
  no_task_finds_many (Clean stop) few (run, left) =
      stopped_end (λ (x : End). x ≡ synced fetched.TooMany → ⊥) (cleaning setting.script.rules) cleaned stop entries (synced fetched.TooMany) (λ own done same. cc (same)) (λ n same. cc (same)) run (λ i. synced fetched.TooMany)
  no_task_finds_many (Query low high selector) few run =
      no_part (synced fetched.TooMany) (λ is. cc (is)) (λ from c is. cc (is)) setting who place low high selector held after entries (λ is. cc (is)) run

  no_task_compacts_many : (w : Work) → ¬ CompactRun setting.script.rules entries (Some compact.TooMany) → ¬ TaskRun setting who place w held entries (Some (compacted compact.TooMany)) after
  no_task_compacts_many (Upload ulid stop) few ((block, is, ships), left) =
      ship_end (λ (x : End). x ≡ compacted compact.TooMany → ⊥) setting block stop entries (compacted compact.TooMany) (λ objects own run same. cc (same)) (λ cause same. cc (same)) (λ n same. cc (same)) ships (λ i. compacted compact.TooMany)
  no_task_compacts_many (Sync gateway) few (None, run, same, left) = cc (same)
  no_task_compacts_many (Sync gateway) few (Some own, run, same, left) = cc (same)
  no_task_compacts_many (Compact stop) few (run, left) =
      stopped_end (λ (x : End). x ≡ compacted compact.TooMany → ⊥) (compaction setting.script.rules) compacted stop entries (compacted compact.TooMany)
      (λ own done same. let one : own ≡ compact.TooMany = cc (same) in few (subst (λ (x : CompactEnd). CompactRun setting.script.rules entries (Some x)) one done)) (λ n same. cc (same)) run (λ i. compacted compact.TooMany)
  no_task_compacts_many (Clean stop) few (run, left) =
      stopped_end (λ (x : End). x ≡ compacted compact.TooMany → ⊥) (cleaning setting.script.rules) cleaned stop entries (compacted compact.TooMany) (λ own done same. cc (same)) (λ n same. cc (same)) run (λ i. compacted compact.TooMany)
  no_task_compacts_many (Query low high selector) few run =
      no_part (compacted compact.TooMany) (λ is. cc (is)) (λ from c is. cc (is)) setting who place low high selector held after entries (λ is. cc (is)) run

module _ (setting : Setting) (journal : List Entry) (ends : List (List (List End))) (deeds : AreDeeds setting journal) (honest : IsHonest journal) (run : IsRunOf setting journal ends) where
  rises : Rises journal
  rises = journal_rises setting.script.rules.tick.ms journal deeds.kept

  -- no worker says that a sync found too many names
  pub none_found_many : ¬ SomeCame ends (synced fetched.TooMany)
  none_found_many came =
      let made = ends_are_made setting journal ends rises run (synced fetched.TooMany) came in
      let m = made.1 in
      no_task_finds_many setting m.who m.place m.held m.after m.entries (made.0).work (λ gateway. syncs_find_few setting journal deeds honest (sync_rules setting gateway) m.entries m.part.among) m.run

  -- nor that a compaction did
  pub none_compacted_many : ¬ SomeCame ends (compacted compact.TooMany)
  none_compacted_many came =
      let made = ends_are_made setting journal ends rises run (compacted compact.TooMany) came in
      let m = made.1 in
      no_task_compacts_many setting m.who m.place m.held m.after m.entries (made.0).work (compactions_find_few setting journal deeds honest setting.script.rules m.entries m.part.among) m.run
