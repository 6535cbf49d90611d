-- What a call over a view comes to, where the bucket is honest: what its reads show is what was ever put, and the view's blocks hold it.
use Rattle.base.proofs.Membership.{contains_first, contains_later, into_filter, member_passes, of_filter, of_map}
use Rattle.std.proofs.Common.{◌≡◌, ◌≢◌, inl, inr, ℕ, ◌+◌, ◌<◌, ◌^◌, Bool, true, false, List, [], ◌∷◌, ◌++◌, map, length, Contains, Option, Some, None, refl, sym, ◌∙◌, ap, subst, arith}
use Rattle.std.specs.Prelude.{codes, get_or, option_map, ◌≤ℤ◌, ◌<ℤ◌}
use Rattle.std.specs.List.{All, AllByRecursion, AllZip, filter}
use Rattle.std.proofs.lemmas.List.Elements.{All-contains, All-contains_itself, All-weaker, Contains-append_left, Contains-append_right}
use Rattle.label_sets.specs.declared.series.Series.{Series}
use Rattle.block_keys.specs.Keys.{IsLawfulKey, key_ulid}
use Rattle.block_keys.specs.KeyText.{key_text, name_of, six_digits}
use Rattle.ulid_core.specs.UlidText.{text_of}
use Rattle.ulid_core.proofs.UlidLaws.{length-text_of}
use Rattle.std.proofs.lemmas.List.{length-append}
use Rattle.block_keys.specs.declared.key.Key.{Key}
use Rattle.block_keys.specs.declared.key.Key.TheVariants as key
use Rattle.block_meta.specs.MetaFields.{MetaFields, fields_of}
use Rattle.bucket_core.specs.Contents.{Contents, nothing, range_of}
use Rattle.store_ranges.specs.declared.range.Range.{Range}
use Rattle.sync_filters.specs.declared.found.Found.{Found}
use Rattle.meta_fetcher.specs.declared.rules.SyncRules.{SyncRules}
use Rattle.meta_fetcher.specs.declared.view.View.{View}
use Rattle.world_core.specs.Operations.{IsLawful}
use Rattle.world_core.specs.Standing.{IsHonest, Tells, TellsOf, stands}
use Rattle.world_core.specs.Worlds.{IsOfBytes}
use Rattle.world_core.specs.declared.entry.Entry.{Entry}
use Rattle.world_core.specs.declared.op.Op.{Op}
use Rattle.world_core.specs.declared.op.Op.TheVariants as op
use Rattle.world_core.specs.declared.reply.Reply.{Reply}
use Rattle.world_core.specs.declared.reply.Reply.TheVariants as reply
use Rattle.store_ranges.specs.Reads.{Block, Cache, Query as Question, block_of}
use Rattle.store_calls.specs.Asking.{IsReadOf, IsReadOfOne}
use Rattle.matchers.specs.SelectorText.{named_replicas}
use Rattle.vertical_merge.specs.Merged.{IsMerge}
use Rattle.store_calls.specs.Exact.{AreShown, HoldsBlock, HoldsWhole, IsCacheOf, StandsIn, asked_of_all}
use Rattle.store_calls.specs.KeptRanges.{IsOfReads, IsReadIn}
use Rattle.store_calls.specs.SeriesCalls.{CallEnd, SeriesRun, meets, to_read}
use Rattle.store_calls.specs.declared.series_call.SeriesEnd.TheVariants as called
use Rattle.store_calls.proofs.CallLaws.{call_asks}
use Rattle.store_calls.proofs.ExactCalls.{answer_exact}
use Rattle.store_calls.proofs.FoundBlocks.{finds_blocks}
use Rattle.script_core.specs.Lawful.{IsLawfulScript}
use Rattle.lifecycle_core.specs.Sights.{IsSeen, IsSight}
use Rattle.lifecycle_core.specs.Breaches.{HoldsSamples, read_key}
use Rattle.block_meta.specs.OfBlocks.{block_meta}
use Rattle.lifecycle_core.specs.Completed.{IsCompletedAt}
use Rattle.lifecycle_core.specs.PutBlocks.{WasPutBefore}
use Rattle.lifecycle_core.specs.Setting.{Setting}
use Rattle.lifecycle_core.specs.TimeRules.{IsBlockObject}
use Rattle.lifecycle_core.proofs.blocks.Contents.{IsHeldWhole, complete_holds}
use Rattle.lifecycle_core.proofs.blocks.Known.{put_is_complete}
use Rattle.lifecycle_core.proofs.blocks.OneKey.{one_text}
use Rattle.lifecycle_core.proofs.deeds.Orders.{front_is_earlier}
use Rattle.lifecycle_core.proofs.deeds.Sources.{put_is_small}
use Rattle.lifecycle_core.proofs.deeds.Stood.{LandsPut, found_stands, stood}
use Rattle.lifecycle_core.proofs.deeds.Words.{AreDeeds}
use Rattle.lifecycle_core.proofs.journals.Positions.{stands_in}
use Rattle.lifecycle_core.proofs.journals.Rising.{journal_rises, one_key}
use Rattle.lifecycle_core.proofs.journals.Standing.{parted, put_stays, was_put}
use Rattle.lifecycle_core.proofs.journals.Told.{IsPart, Rises}
use Rattle.lifecycle_core.proofs.marks.Reasons.{kept_is_seen}
use Rattle.lifecycle_core.proofs.misses.ReadMisses.{is_object}

-- ---- reads

-- what a read tells is told by what stands under its key
tells_at : (one other : Contents) (o : Op) (k : Key) (r : Reply) → read_key o ≡ Some k → one (key_text k) ≡ other (key_text k) → Tells one o r → Tells other o r
tells_at one other (op.Get own) k r reads same tells =
    let is : own ≡ k = cc (reads) in
    let here : one (key_text own) ≡ other (key_text own) = subst (λ (x : Key). one (key_text x) ≡ other (key_text x)) (sym is) same in
    subst (λ (o : Option (List ℕ)). TellsOf o o r) here tells
tells_at one other (op.GetRange own from len) k r reads same tells =
    let is : own ≡ k = cc (reads) in
    let here : one (key_text own) ≡ other (key_text own) = subst (λ (x : Key). one (key_text x) ≡ other (key_text x)) (sym is) same in
    subst (λ (o : Option (List ℕ)). TellsOf o (option_map (range_of from len) o) r) here tells
tells_at one other (op.Clock moment) k r reads same tells = absurd (cc (reads))
tells_at one other (op.Put own new) k r reads same tells = absurd (cc (reads))
tells_at one other (op.Delete own) k r reads same tells = absurd (cc (reads))
tells_at one other (op.RootPage after limit) k r reads same tells = absurd (cc (reads))
tells_at one other (op.BlockPage ulid after limit) k r reads same tells = absurd (cc (reads))

tells_none : (a b c d : Option (List ℕ)) (r : Reply) → b ≡ None → (r ≡ reply.Absent → c ≡ None) → TellsOf a b r → TellsOf c d r
tells_none a b c d (reply.Found bytes) none owed tells = absurd (cc (tells, none))
tells_none a b c d reply.Absent none owed tells = owed refl
tells_none a b c d (reply.Failed landed) none owed tells = tt
tells_none a b c d reply.Clocked none owed tells = tt
tells_none a b c d reply.Stored none owed tells = tt
tells_none a b c d reply.Deleted none owed tells = tt
tells_none a b c d (reply.Names names) none owed tells = tt

-- where nothing stands, a read shows nothing
none_tells : (one other : Contents) (o : Op) (k : Key) (r : Reply) → read_key o ≡ Some k → one (key_text k) ≡ None → (r ≡ reply.Absent → other (key_text k) ≡ None) → Tells one o r → Tells other o r
none_tells one other (op.Get own) k r reads none owed tells =
    let is : own ≡ k = cc (reads) in
    tells_none (one (key_text own)) (one (key_text own)) (other (key_text own)) (other (key_text own)) r (ap (λ (x : Key). one (key_text x)) is ∙ none) (λ absent. ap (λ (x : Key). other (key_text x)) is ∙ owed absent) tells
none_tells one other (op.GetRange own from len) k r reads none owed tells =
    let is : own ≡ k = cc (reads) in
    tells_none (one (key_text own)) (option_map (range_of from len) (one (key_text own))) (other (key_text own)) (option_map (range_of from len) (other (key_text own))) r
    (ap (λ (x : Key). option_map (range_of from len) (one (key_text x))) is ∙ ap (option_map (range_of from len)) none) (λ absent. ap (λ (x : Key). other (key_text x)) is ∙ owed absent) tells
none_tells one other (op.Clock moment) k r reads none owed tells = absurd (cc (reads))
none_tells one other (op.Put own new) k r reads none owed tells = absurd (cc (reads))
none_tells one other (op.Delete own) k r reads none owed tells = absurd (cc (reads))
none_tells one other (op.RootPage after limit) k r reads none owed tells = absurd (cc (reads))
none_tells one other (op.BlockPage ulid after limit) k r reads none owed tells = absurd (cc (reads))

-- a read of a block asks under a key of its index or of its segments
pub read_of_block : (ulid : ℕ) (o : Op) → IsReadOf ulid o → (k : Key) × (read_key o ≡ Some k) × (key_ulid k ≡ ulid) × HoldsSamples k
read_of_block ulid (op.Get (key.Index own)) is = (key.Index own, refl, is, tt)
read_of_block ulid (op.GetRange (key.Index own) from len) is = (key.Index own, refl, is, tt)
read_of_block ulid (op.GetRange (key.Segment own number) from len) is = (key.Segment own number, refl, is, tt)
read_of_block ulid (op.Get (key.Meta own)) is = absurd is
read_of_block ulid (op.Get (key.Segment own number)) is = absurd is
read_of_block ulid (op.Get (key.Mark own)) is = absurd is
read_of_block ulid (op.GetRange (key.Meta own) from len) is = absurd is
read_of_block ulid (op.GetRange (key.Mark own) from len) is = absurd is
read_of_block ulid (op.Clock moment) is = absurd is
read_of_block ulid (op.Put own new) is = absurd is
read_of_block ulid (op.Delete own) is = absurd is
read_of_block ulid (op.RootPage after limit) is = absurd is
read_of_block ulid (op.BlockPage own after limit) is = absurd is

pub lawful_read : (o : Op) (k : Key) → read_key o ≡ Some k → IsLawful o → IsLawfulKey k
lawful_read (op.Get own) k reads lawful = subst IsLawfulKey (cc (reads)) lawful
lawful_read (op.GetRange own from len) k reads lawful = subst IsLawfulKey (cc (reads)) lawful
lawful_read (op.Clock moment) k reads lawful = absurd (cc (reads))
lawful_read (op.Put own new) k reads lawful = absurd (cc (reads))
lawful_read (op.Delete own) k reads lawful = absurd (cc (reads))
lawful_read (op.RootPage after limit) k reads lawful = absurd (cc (reads))
lawful_read (op.BlockPage ulid after limit) k reads lawful = absurd (cc (reads))

-- ---- texts

behind_front : (xs ys zs ws : List ℕ) → length xs ≡ length zs → xs ++ ys ≡ zs ++ ws → ys ≡ ws
behind_front [] ys [] ws size same = same
behind_front [] ys (z ∷ zs) ws size same = absurd (omega (arith, size))
behind_front (x ∷ xs) ys [] ws size same = absurd (omega (arith, size))
behind_front (x ∷ xs) ys (z ∷ zs) ws size same = behind_front xs ys zs ws (omega (arith, size)) (cc (same))

block_size : (ulid : ℕ) → length (text_of ulid ++ codes "/") ≡ 27
block_size ulid = length-append (text_of ulid) (codes "/") ∙ ap (λ (n : ℕ). n + 1) (length-text_of ulid)

-- no mark has the text of an index or of a segment
mark_apart : (own : ℕ) (k : Key) → HoldsSamples k → key_text (key.Mark own) ≢ key_text k
unfolding key_text name_of
mark_apart own (key.Meta ulid) holds same = absurd holds
mark_apart own (key.Mark ulid) holds same = absurd holds
mark_apart own (key.Index ulid) holds same =
    let names = behind_front (text_of own ++ codes "/") (codes "deletion-mark.json") (text_of ulid ++ codes "/") (codes "index") (block_size own ∙ sym (block_size ulid)) same in
    let heads : 100 ≡ 105 = ap (λ (l : List ℕ). get_or l 0 0) names in
    absurd (omega (arith, heads))
mark_apart own (key.Segment ulid n) holds same =
    let names = behind_front (text_of own ++ codes "/") (codes "deletion-mark.json") (text_of ulid ++ codes "/") (codes "chunks/" ++ six_digits n) (block_size own ∙ sym (block_size ulid)) same in
    let heads : 100 ≡ 99 = ap (λ (l : List ℕ). get_or l 0 0) names in
    absurd (omega (arith, heads))

-- ---- what was ever put

abbrev stays : Op → Bool
stays (op.Clock moment) = true
stays (op.Put k bytes) = true
stays (op.Get k) = true
stays (op.GetRange k from len) = true
stays (op.Delete k) = false
stays (op.RootPage after limit) = true
stays (op.BlockPage ulid after limit) = true

module _ (setting : Setting) (journal : List Entry) (lawful : IsLawfulScript setting.script) (deeds : AreDeeds setting journal) where
  abbrev left : List Entry
  left = filter (λ (e : Entry). stays e.op) journal

  -- what would stand if nothing had been deleted
  abbrev pub ever : Contents
  ever = stands left

  no_delete : (e : Entry) → Contains left e → (k : Key) → e.op ≢ op.Delete k
  no_delete e among k is = let passes : stays e.op ≡ true = member_passes (λ (x : Entry). stays x.op) journal e among in let fails : stays e.op ≡ false = ap stays is in cc (passes, fails)

  written : (p : Entry) (k : Key) (bytes : List ℕ) → Contains journal p → p.op ≡ op.Put k bytes → IsLawfulKey k
  written p k bytes among puts = let at = parted journal p among in subst IsLawful puts (deeds.kept.lawful at.0 at.1 p at.2)

  small_put : (p : Entry) (k : Key) (bytes : List ℕ) → Contains journal p → p.op ≡ op.Put k bytes → key_ulid k < 2 ^ 128
  small_put p k bytes among puts = let at = parted journal p among in put_is_small setting journal deeds at.0 at.1 p at.2 lawful k bytes puts

  -- it was put
  pub ever_was : (k : Key) (bytes : List ℕ) → key_ulid k < 2 ^ 128 → IsLawfulKey k → ever (key_text k) ≡ Some bytes → (p : Entry) × Contains journal p × LandsPut k bytes p
  ever_was k bytes small lawful_key is = elim (was_put left nothing (key_text k) bytes is) [
    | inl w ↦
        let inside : Contains left w.entry = subst (λ (es : List Entry). Contains es w.entry) (sym w.parts) (stands_in w.front w.back w.entry) in
        let among : Contains journal w.entry = of_filter (λ (x : Entry). stays x.op) journal w.entry inside in
        let same : w.key_is ≡ k = one_key w.key_is k (written w.entry w.key_is bytes among w.puts) lawful_key (small_put w.entry w.key_is bytes among w.puts) small w.same in
        (w.entry, among, (w.puts ∙ ap (λ (x : Key). op.Put x bytes) same, w.landed))
    | inr none ↦ absurd (cc (none))
  ]

  -- what was put is that
  pub ever_put : (k : Key) (bytes : List ℕ) → IsBlockObject k → (p : Entry) → Contains journal p → LandsPut k bytes p → ever (key_text k) ≡ Some bytes
  ever_put k bytes object p among puts =
      let inside : Contains left p = into_filter (λ (x : Entry). stays x.op) journal p among (ap stays puts.0) in
      let holds = put_stays left nothing k no_delete (p, inside, (bytes, puts.0, puts.1)) in
      let w = ever_was k holds.0 (small_put p k bytes among puts.0) (written p k bytes among puts.0) holds.1 in
      holds.1 ∙ ap (λ (b : List ℕ). Some b) (one_text setting journal lawful deeds w.0 p w.1 among k holds.0 bytes w.2.0 puts.0 object)

  module _ (of_bytes : IsOfBytes journal) (honest : IsHonest journal) where
    -- what stood before an entry is that
    lasts : (front back : List Entry) (e : Entry) → journal ≡ front ++ e ∷ back → (k : Key) (bytes : List ℕ) → IsBlockObject k → key_ulid k < 2 ^ 128 → IsLawfulKey k → stands front (key_text k) ≡ Some bytes → ever (key_text k) ≡ Some bytes
    lasts front back e at k bytes object small lawful_key is =
        let last = stood setting journal lawful deeds front (e ∷ back) at k small lawful_key bytes is in
        let inside : Contains front last.put = subst (λ (es : List Entry). Contains es last.put) (sym last.parts) (stands_in last.front last.back last.put) in
        ever_put k bytes object last.put (subst (λ (es : List Entry). Contains es last.put) (sym at) (Contains-append_left front (e ∷ back) last.put inside)) last.puts

    -- a read shows it, unless it shows nothing of what was put
    shows_ever : (e : Entry) → Contains journal e → (k : Key) → read_key e.op ≡ Some k → HoldsSamples k → key_ulid k < 2 ^ 128 → (e.reply ≡ reply.Absent → ever (key_text k) ≡ None) → Tells ever e.op e.reply
    shows_ever e among k reads samples small owed = by (stands at.0 (key_text k)) refl
      where
        at : (front : List Entry) × (back : List Entry) × (journal ≡ front ++ e ∷ back)
        at = parted journal e among

        by : (o : Option (List ℕ)) → stands at.0 (key_text k) ≡ o → Tells ever e.op e.reply
        by (Some bytes) is =
            let here = lasts at.0 at.1 e at.2 k bytes (is_object k samples) small (lawful_read e.op k reads (deeds.kept.lawful at.0 at.1 e at.2)) is in
            tells_at (stands at.0) ever e.op k e.reply reads (is ∙ sym here) (honest at.0 at.1 e at.2)
        by None is = none_tells (stands at.0) ever e.op k e.reply reads is owed (honest at.0 at.1 e at.2)

    -- ---- the blocks of a view

    module _ (rules : SyncRules) (sync : List Entry) (view : View) (sees : IsSight rules sync view) (part : IsPart journal sync) where
      pub record IsHeldFound (found : Found) : Type 0 where
        pub small : found.ulid < 2 ^ 128
        pub seq : ℕ
        pub holds : IsHeldWhole setting journal found.ulid seq (fields_of found.meta)

      pub held_found : (found : Found) → Contains view.kept found → IsHeldFound found
      held_found found kept = record { small = seen.small; seq = complete.0; holds = subst (IsHeldWhole setting journal found.ulid complete.0) same (complete_holds setting journal lawful deeds of_bytes honest found.ulid complete.0 complete.1 complete.2) }
        where
          seen : IsSeen sync found
          seen = kept_is_seen rules sync view sees found kept

          read_in : Contains sync seen.read
          read_in = subst (λ (es : List Entry). Contains es seen.read) (sym seen.parts)
              (Contains-append_right seen.front (seen.looked ∷ (seen.middle ++ seen.read ∷ seen.back)) seen.read (contains_later seen.looked seen.read (seen.middle ++ seen.read ∷ seen.back) (stands_in seen.middle seen.back seen.read)))

          at : (front : List Entry) × (back : List Entry) × (journal ≡ front ++ seen.read ∷ back)
          at = parted journal seen.read (part.among seen.read read_in)

          put : WasPutBefore journal (key.Meta found.ulid) seen.bytes seen.read.seq
          put =
              let holds = found_stands setting journal at.0 at.1 seen.read honest at.2 (key.Meta found.ulid) seen.bytes seen.asks_meta seen.shows in
              let last = stood setting journal lawful deeds at.0 (seen.read ∷ at.1) at.2 (key.Meta found.ulid) seen.small tt seen.bytes holds in
              let inside : Contains at.0 last.put = subst (λ (es : List Entry). Contains es last.put) (sym last.parts) (stands_in last.front last.back last.put) in
              let less = front_is_earlier at.0 at.1 seen.read last.put (subst Rises at.2 (journal_rises setting.script.rules.tick.ms journal deeds.kept)) inside in
              (last.put, subst (λ (es : List Entry). Contains es last.put) (sym at.2) (Contains-append_left at.0 (seen.read ∷ at.1) last.put inside), last.puts.0, last.puts.1, less.0)

          complete : (seq : ℕ) × (meta : MetaFields) × IsCompletedAt journal found.ulid seq meta × (seq < seen.read.seq) × (block_meta found.ulid seen.bytes ≡ Some meta)
          complete = put_is_complete setting journal lawful deeds honest found.ulid seen.read.seq seen.bytes put

          same : complete.1 ≡ fields_of found.meta
          same = cc (complete.4, seen.meta_is)

      -- it is held whole
      module _ (found : Found) (h : IsHeldFound found) where
        abbrev w : IsHeldWhole setting journal found.ulid h.seq (fields_of found.meta)
        w = h.holds

        held_block : HoldsBlock ever (block_of found.ulid found.meta) w.list
        held_block = record {
          index = w.files.index;
          index_stands = let p = w.put.index in ever_put (key.Index found.ulid) w.files.index tt p.0 p.1 (p.2, p.3);
          size_told = w.sized;
          segments = w.files.segments;
          segments_stand = λ place segment is. let p = w.put.segments place segment is in ever_put (key.Segment found.ulid (place + 1)) segment tt p.0 p.1 (p.2, p.3);
          bytes = (w.bytes.index, w.bytes.segments);
          indexed = w.content.indexed;
          index_is = w.content.index_is;
          series_are = w.content.series_are;
        }

        pub held_whole : HoldsWhole ever (block_of found.ulid found.meta) w.list
        unfolding held_block
        held_whole = record {
          holds = held_block;
          bounds = record {
            few = w.few;
            short = w.short;
            within = subst (λ (m : MetaFields). AllByRecursion (λ s. AllByRecursion (λ sample. (m.min_time ≤ℤ sample.time) × (sample.time <ℤ m.max_time)) s.samples) w.list) w.meta_is w.content.within;
          };
        }

      -- the series of blocks
      abbrev pub lists_of : (blocks : List Found) → AllByRecursion IsHeldFound blocks → List (List Series)
      lists_of [] all = []
      lists_of (b ∷ blocks) all = all.0.holds.list ∷ lists_of blocks all.1

      all_whole : (blocks : List Found) (all : AllByRecursion IsHeldFound blocks) → AllZip (HoldsWhole ever) (map (λ (b : Found). block_of b.ulid b.meta) blocks) (lists_of blocks all)
      all_whole [] all = tt
      all_whole (b ∷ blocks) all = (held_whole b all.0, all_whole blocks all.1)

      all_blocks : (blocks : List Found) (all : AllByRecursion IsHeldFound blocks) → AllZip (HoldsBlock ever) (map (λ (b : Found). block_of b.ulid b.meta) blocks) (lists_of blocks all)
      all_blocks [] all = tt
      all_blocks (b ∷ blocks) all = (held_block b all.0, all_blocks blocks all.1)

      held_all : (blocks : List Found) → ((f : Found) → Contains blocks f → Contains view.kept f) → AllByRecursion IsHeldFound blocks
      held_all [] within = tt
      held_all (b ∷ blocks) within = (held_found b (within b (contains_first b blocks)), held_all blocks (λ f among. within f (contains_later b f blocks among)))

      -- ---- a call

      module _ (question : Question) (entries : List Entry) (inside : (e : Entry) → Contains entries e → Contains journal e) (cache : Cache) (earlier : List Entry) (known : (e : Entry) → Contains earlier e → Contains journal e) (cached : IsOfReads earlier cache)
          (of_blocks : All (λ (one : Entry). (ulid : ℕ) × IsReadOf ulid one.op) earlier) (own : Option CallEnd) (run : SeriesRun view question cache entries own)
          (owed : (e : Entry) → Contains entries e → e.reply ≡ reply.Absent → (k : Key) → read_key e.op ≡ Some k → ever (key_text k) ≡ None) where
        abbrev pub met : List Found
        met = filter (meets question) view.kept

        pub held_met : AllByRecursion IsHeldFound met
        held_met = held_all met (λ f among. of_filter (meets question) view.kept f among)

        entry_shown : (e : Entry) → Contains entries e → IsReadOfOne (to_read question view.kept) e.op → Tells ever e.op e.reply
        entry_shown e among (block, there, is) =
            let f = of_map (λ (b : Found). block_of b.ulid b.meta) met block there in
            let h = held_found f.0 (of_filter (meets question) view.kept f.0 f.1) in
            let ulid : block.ulid ≡ f.0.ulid = sym (ap (λ (b : Block). b.ulid) f.2) in
            let k = read_of_block block.ulid e.op is in
            shows_ever e (inside e among) k.0 k.1 k.3 (subst (λ (n : ℕ). n < 2 ^ 128) (sym (k.2 ∙ ulid)) h.small) (λ absent. owed e among absent k.0 k.1)

        call_shown : AreShown ever entries
        call_shown =
            let reads = call_asks view question cache entries own run in
            All-weaker (Contains entries) (λ (e : Entry). Tells ever e.op e.reply)
            (λ e among. entry_shown e among (All-contains (λ (x : Entry). IsReadOfOne (to_read question view.kept) x.op) entries e reads among)) entries (All-contains_itself entries)

        some_range : (range : Range) (bytes : List ℕ) (o : Option (List ℕ)) → option_map (range_of range.from range.len) o ≡ Some bytes → (object : List ℕ) × (o ≡ Some object)
        some_range range bytes None is = absurd (cc (is))
        some_range range bytes (Some object) is = (object, refl)

        -- what stood under the text of a key that holds samples was put under such a key
        put_samples : (k own : Key) → HoldsSamples k → key_text own ≡ key_text k → IsBlockObject own
        put_samples k (key.Meta ulid) holds same = tt
        put_samples k (key.Index ulid) holds same = tt
        put_samples k (key.Segment ulid n) holds same = tt
        put_samples k (key.Mark ulid) holds same = absurd (mark_apart ulid k holds same)

        text_lasts : (front back : List Entry) (x : Entry) → journal ≡ front ++ x ∷ back → (k : Key) (text : List ℕ) → HoldsSamples k → stands front (key_text k) ≡ Some text → ever (key_text k) ≡ Some text
        text_lasts front back x is k text holds stood_so = elim (was_put front nothing (key_text k) text stood_so) [
          | inl w ↦
              let there : Contains front w.entry = subst (λ (es : List Entry). Contains es w.entry) (sym w.parts) (stands_in w.front w.back w.entry) in
              let here = ever_put w.key_is text (put_samples k w.key_is holds w.same) w.entry (subst (λ (es : List Entry). Contains es w.entry) (sym is) (Contains-append_left front (x ∷ back) w.entry there)) (w.puts, w.landed) in
              subst (λ (t : List ℕ). ever t ≡ Some text) w.same here
          | inr none ↦ absurd (cc (none))
        ]

        range_stands : (range : Range) (bytes : List ℕ) → IsReadIn earlier range bytes → StandsIn ever range bytes
        range_stands range bytes (e, among, asks, found) =
            let at = parted journal e (known e among) in
            let shown : option_map (range_of range.from range.len) (stands at.0 (key_text range.key)) ≡ Some bytes =
            subst (λ (o : Op). Tells (stands at.0) o (reply.Found bytes)) asks (subst (λ (r : Reply). Tells (stands at.0) e.op r) found (honest at.0 at.1 e at.2)) in
            let object = some_range range bytes (stands at.0 (key_text range.key)) shown in
            let block = All-contains (λ (one : Entry). (ulid : ℕ) × IsReadOf ulid one.op) earlier e of_blocks among in
            let read = read_of_block block.0 e.op block.1 in
            let both : Some range.key ≡ Some read.0 = ap read_key (sym asks) ∙ read.1 in
            let keys : range.key ≡ read.0 = cc (both) in
            let holds : HoldsSamples range.key = subst HoldsSamples (sym keys) read.3 in
            ap (option_map (range_of range.from range.len)) (text_lasts at.0 at.1 e at.2 range.key object.0 holds object.1 ∙ sym object.1) ∙ shown

        cache_shown : IsCacheOf ever cache
        cache_shown =
            All-weaker (λ (one : Range × List ℕ). IsReadIn earlier one.0 one.1) (λ (one : Range × List ℕ). StandsIn ever one.0 one.1) (λ one read. range_stands one.0 one.1 read) cache.entries cached

        -- nothing is missing and nothing damaged
        pub call_finds : (end : CallEnd) → own ≡ Some end → (number : ℕ) → (end.end ≢ called.Missing number) × (end.end ≢ called.Damaged number)
        call_finds end is number =
            finds_blocks view question ever (lists_of met held_met) cache entries end number (all_whole met held_met) call_shown cache_shown (subst (SeriesRun view question cache entries) is run)

        -- an answer is the merge of what the blocks hold
        pub call_merges : named_replicas question.replicas question.selector ≡ [] → (series : List Series) (sources : List ℕ) (after : Cache) → own ≡ Some (record { end = called.Answer series sources; cache = after })
            → IsMerge (asked_of_all question (to_read question view.kept) (lists_of met held_met)) series
        call_merges unnamed series sources after is =
            (answer_exact view question ever (lists_of met held_met) cache after entries series sources unnamed (all_blocks met held_met) call_shown cache_shown (subst (SeriesRun view question cache entries) is run)).0
