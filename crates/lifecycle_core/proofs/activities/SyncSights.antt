-- What a sync saw that gave a view.
use Rattle.std.proofs.Common.{◌≡◌, ◌⊎◌, inl, inr, ℕ, ◌<◌, ◌^◌, suc, zero, List, [], ◌∷◌, ◌++◌, map, length, Contains, Option, Some, None, refl, sym, ◌∙◌, ap, subst, append_assoc, arith}
use Rattle.std.specs.Prelude.{fold, unwrap_or}
use Rattle.std.specs.List.{All, AllByRecursion}
use Rattle.std.proofs.lemmas.Bool.{ltb-true}
use Rattle.std.proofs.lemmas.List.Elements.{All-from_recursion, Contains-append_left, Contains-push, recursion_from_All}
use Rattle.base.proofs.Membership.{contains_first, contains_later}
use Rattle.ulid_core.specs.UlidText.{text_of}
use Rattle.label_sets.specs.Labels.{ComesBefore}
use Rattle.block_keys.specs.declared.key.Key.TheVariants as key
use Rattle.block_meta.specs.MetaFields.{MarkFields, MetaFields}
use Rattle.block_meta.specs.OfBlocks.{block_meta}
use Rattle.moment_core.specs.declared.moment.Moment.{Moment}
use Rattle.world_core.specs.Walks.{last_listed}
use Rattle.world_core.specs.declared.op.Op.TheVariants as op
use Rattle.world_core.specs.declared.reply.Reply.{Reply}
use Rattle.world_core.specs.declared.reply.Reply.TheVariants as reply
use Rattle.world_core.specs.declared.entry.Entry.{Entry}
use Rattle.world_core.proofs.PlanLaws.{nothing_given}
use Rattle.world_core.proofs.PageNames.{ulids_small, AreSmall}
use Rattle.sync_filters.specs.declared.found.Found.{Found}
use Rattle.meta_fetcher.specs.Sightings.{IsView, Sighting, sighting_of}
use Rattle.meta_fetcher.specs.Syncs.{Course, IsEnd, SyncRun, Synced}
use Rattle.meta_fetcher.specs.Syncs as sync_told
use Rattle.meta_fetcher.proofs.SyncLaws as laws
use Rattle.meta_fetcher.proofs.SyncLaws.{Comes, IsMarkRead, KeptByPages, KeptByReads, course_of_all, page_after, sighting_at, told}
use Rattle.meta_fetcher.specs.declared.rules.SyncRules.{SyncRules}
use Rattle.meta_fetcher.specs.declared.sync.SyncEnd.TheVariants as fetched
use Rattle.meta_fetcher.specs.declared.view.View.{View}
use Rattle.lifecycle_core.specs.Sights.{IsSeen, IsSight, ShowsBlock, TellsMark}
use Rattle.lifecycle_core.proofs.activities.Listing.{IsToBeListed, before_first_page, listed_at_last, listed_on, ulid_listed}

-- ---- what was seen of a block

-- the entries saw what the sighting tells
record IsSighted (made : List Entry) (s : Sighting) : Type 0 where
  front : List Entry
  looked : Entry
  middle : List Entry
  read : Entry
  back : List Entry
  parts : made ≡ front ++ looked ∷ (middle ++ read ∷ back)
  small : s.ulid < 2 ^ 128
  asks_mark : looked.op ≡ op.Get (key.Mark s.ulid)
  tells : TellsMark s.ulid s.mark looked.reply
  mark_moment : s.mark_read ≡ looked.moment
  asks_meta : read.op ≡ op.Get (key.Meta s.ulid)
  bytes : List ℕ
  shows : read.reply ≡ reply.Found bytes
  meta_is : block_meta s.ulid bytes ≡ Some s.meta
  meta_moment : s.meta_read ≡ read.moment

sighted_more : (made : List Entry) (e : Entry) (s : Sighting) → IsSighted made s → IsSighted (made ++ e ∷ []) s
sighted_more made e s is = record {
  front = is.front;
  looked = is.looked;
  middle = is.middle;
  read = is.read;
  back = is.back ++ e ∷ [];
  parts = ap (λ es. es ++ e ∷ []) is.parts ∙ append_assoc is.front (is.looked ∷ (is.middle ++ is.read ∷ is.back)) (e ∷ [])
      ∙ ap (λ es. is.front ++ is.looked ∷ es) (append_assoc is.middle (is.read ∷ is.back) (e ∷ []));
  small = is.small;
  asks_mark = is.asks_mark;
  tells = is.tells;
  mark_moment = is.mark_moment;
  asks_meta = is.asks_meta;
  bytes = is.bytes;
  shows = is.shows;
  meta_is = is.meta_is;
  meta_moment = is.meta_moment;
}

abbrev AllSighted : List Entry → List Sighting → Type 0
AllSighted made sightings = AllByRecursion (IsSighted made) sightings

all_more : (made : List Entry) (e : Entry) (sightings : List Sighting) → AllSighted made sightings → AllSighted (made ++ e ∷ []) sightings
all_more made e [] all = tt
all_more made e (s ∷ sightings) all = (sighted_more made e s all.0, all_more made e sightings all.1)

and_one : (made : List Entry) (sightings : List Sighting) (s : Sighting) → AllSighted made sightings → IsSighted made s → AllSighted made (sightings ++ s ∷ [])
and_one made [] s all is = (is, tt)
and_one made (x ∷ sightings) s all is = (all.0, and_one made sightings s all.1 is)

tells_so : (ulid : ℕ) (mark : Option MarkFields) (r : Reply) → laws.TellsMark ulid mark r → TellsMark ulid mark r
tells_so ulid None r tells = tells
tells_so ulid (Some mark) r tells = tells

abbrev Any : Entry → Type 0
Any e = Unit {0}

abbrev AreSeen : List Entry → Synced → Type 0
AreSeen made (sync_told.sighted sightings) = AllSighted made sightings
AreSeen made (sync_told.fault number) = Unit {0}
AreSeen made (sync_told.damaged number) = Unit {0}
AreSeen made sync_told.too_many = Unit {0}

abbrev SeenSoFar : List Entry → List Sighting → List ℕ → Type 0
SeenSoFar made sightings ulids = AllSighted made sightings × AreSmall ulids

seen_now : (made : List Entry) (ulid : ℕ) (e : Entry) (bytes : List ℕ) (mark : Option MarkFields) (mark_read : Moment) (meta : MetaFields) → ulid < 2 ^ 128 → IsMarkRead Any made ulid mark mark_read
    → e.op ≡ op.Get (key.Meta ulid) → e.reply ≡ reply.Found bytes → block_meta ulid bytes ≡ Some meta → IsSighted (made ++ e ∷ []) (sighting_at ulid mark mark_read e.moment meta)
seen_now made ulid e bytes mark mark_read meta small looked asks shows read = record {
  front = looked.front;
  looked = looked.entry;
  middle = [];
  read = e;
  back = [];
  parts = ap (λ es. es ++ e ∷ []) looked.last ∙ append_assoc looked.front (looked.entry ∷ []) (e ∷ []);
  small = small;
  asks_mark = looked.asks;
  tells = tells_so ulid mark (looked.entry).reply looked.tells;
  mark_moment = sym looked.moment;
  asks_meta = asks;
  bytes = bytes;
  shows = shows;
  meta_is = read;
  meta_moment = refl;
}

seen_reads : KeptByReads Any AreSeen SeenSoFar
seen_reads = record {
  over = λ made sightings j. j.0;
  mark_failed = λ made sightings ulid ulids e landed came. tt;
  no_mark = λ made sightings ulid ulids e bytes came none. tt;
  marked = λ made sightings ulid ulids e bytes mark came read. (all_more made e sightings (came.before).0, (came.before).1);
  unmarked = λ made sightings ulid ulids e came. (all_more made e sightings (came.before).0, (came.before).1);
  meta_failed = λ made sightings ulid ulids e landed came. tt;
  unread = λ made sightings ulid ulids e bytes came none. tt;
  seen = λ made sightings ulid ulids e bytes mark mark_read meta looked came read. (
    and_one (made ++ e ∷ []) sightings (sighting_at ulid mark mark_read e.moment meta) (all_more made e sightings (came.before).0)
        (seen_now made ulid e bytes mark mark_read meta ((came.before).1).0 looked came.asks came.shows read),
    ((came.before).1).1,
  );
  missed = λ made sightings ulid ulids e came. (all_more made e sightings (came.before).0, ((came.before).1).1);
}

seen_pages : (limit : ℕ) → KeptByPages Any AreSeen limit (λ made listed. Unit {0}) (λ made listed. Unit {0})
seen_pages limit = record {
  failed = λ made listed page landed came. tt;
  unordered = λ made listed names page came down. tt;
  short = λ made listed names page came up few. tt;
  full = λ made listed names page came up many. tt;
  many = λ made names i many. tt;
}

-- ---- a block that all entries show

-- a sighting of the block
abbrev Sights : ℕ → List Sighting → Type 0
Sights ulid sightings = (s : Sighting) × Contains sightings s × (s.ulid ≡ ulid)

abbrev IsMet : ℕ → List Entry → Synced → Type 0
IsMet ulid made (sync_told.sighted sightings) = Sights ulid sightings
IsMet ulid made (sync_told.fault number) = Unit {0}
IsMet ulid made (sync_told.damaged number) = Unit {0}
IsMet ulid made sync_told.too_many = Unit {0}

abbrev MetSoFar : ℕ → List Entry → List Sighting → List ℕ → Type 0
MetSoFar ulid made sightings ulids = Contains ulids ulid ⊎ Sights ulid sightings

module _ (ulid : ℕ) (small : ulid < 2 ^ 128) where
  met_all : (sightings : List Sighting) → Contains [] ulid ⊎ Sights ulid sightings → Sights ulid sightings
  met_all sightings (inl among) = absurd (omega (arith, among.1))
  met_all sightings (inr own) = own

  met_seen : (sightings : List Sighting) (s : Sighting) (u : ℕ) (ulids : List ℕ) → s.ulid ≡ u → Contains (u ∷ ulids) ulid ⊎ Sights ulid sightings → Contains ulids ulid ⊎ Sights ulid (sightings ++ s ∷ [])
  met_seen sightings s u ulids same (inl (zero, below, is)) = inr (s, Contains-push sightings s, same ∙ is)
  met_seen sightings s u ulids same (inl (suc k, below, is)) = inl (k, omega (arith, below), is)
  met_seen sightings s u ulids same (inr (own, among, is)) = inr (own, Contains-append_left sightings (s ∷ []) own among, is)

  met_missed : (sightings : List Sighting) (u : ℕ) (ulids : List ℕ) → (u ≡ ulid → ⊥) → Contains (u ∷ ulids) ulid ⊎ Sights ulid sightings → Contains ulids ulid ⊎ Sights ulid sightings
  met_missed sightings u ulids other (inl (zero, below, is)) = absurd (other is)
  met_missed sightings u ulids other (inl (suc k, below, is)) = inl (k, omega (arith, below), is)
  met_missed sightings u ulids other (inr own) = inr own

  met_reads : KeptByReads (ShowsBlock ulid) (IsMet ulid) (MetSoFar ulid)
  met_reads = record {
    over = λ made sightings j. met_all sightings j;
    mark_failed = λ made sightings u ulids e landed came. tt;
    no_mark = λ made sightings u ulids e bytes came none. tt;
    marked = λ made sightings u ulids e bytes mark came read. came.before;
    unmarked = λ made sightings u ulids e came. came.before;
    meta_failed = λ made sightings u ulids e landed came. tt;
    unread = λ made sightings u ulids e bytes came none. tt;
    seen = λ made sightings u ulids e bytes mark mark_read meta looked came read. met_seen sightings (sighting_at u mark mark_read e.moment meta) u ulids refl came.before;
    missed = λ made sightings u ulids e came. met_missed sightings u ulids (λ same. (came.given).met (came.asks ∙ ap (λ n. op.Get (key.Meta n)) same) came.shows) came.before;
  }

  on_page : (limit : ℕ) (listed names : List (List ℕ)) (page : Entry) → Comes (ShowsBlock ulid) (IsToBeListed listed (text_of ulid)) (page_after limit listed) (reply.Names names) page → ComesBefore (unwrap_or (last_listed listed) []) (text_of ulid)
      → Contains names (text_of ulid) ⊎ ((length names ≡ limit) × All (λ name. ComesBefore name (text_of ulid)) names)
  on_page limit listed names page came less = (came.given).listed (unwrap_or (last_listed listed) []) limit names came.asks came.shows less

  met_pages : (limit : ℕ) → KeptByPages (ShowsBlock ulid) (IsMet ulid) limit (λ made listed. IsToBeListed listed (text_of ulid)) (λ made listed. Contains listed (text_of ulid))
  met_pages limit = record {
    failed = λ made listed page landed came. tt;
    unordered = λ made listed names page came down. tt;
    short = λ made listed names page came up few. listed_at_last limit listed names (text_of ulid) (on_page limit listed names page came) (ltb-true (length names) limit few) came.before;
    full = λ made listed names page came up many. listed_on limit listed names (text_of ulid) (on_page limit listed names page came) came.before;
    many = λ made names i many. tt;
  }

-- ---- the view

of_sights : (found : List Found) (ulid : ℕ) → Sights ulid (map sighting_of found) → (f : Found) × Contains found f × (f.ulid ≡ ulid)
of_sights [] ulid (s, (k, below, at), is) = absurd (omega (arith, below))
of_sights (f ∷ found) ulid (s, (zero, below, at), is) = (f, contains_first f found, ap (λ (x : Sighting). x.ulid) at ∙ is)
of_sights (f ∷ found) ulid (s, (suc k, below, at), is) =
    let rest = of_sights found ulid (s, (k, omega (arith, below), at), is) in (rest.0, contains_later f rest.0 found rest.1, rest.2)

of_sighting : (made : List Entry) (f : Found) → IsSighted made (sighting_of f) → IsSeen made f
of_sighting made f is = record {
  front = is.front;
  looked = is.looked;
  middle = is.middle;
  read = is.read;
  back = is.back;
  parts = is.parts;
  small = is.small;
  asks_mark = is.asks_mark;
  tells = is.tells;
  mark_moment = is.mark_moment;
  asks_meta = is.asks_meta;
  bytes = is.bytes;
  shows = is.shows;
  meta_is = is.meta_is;
  meta_moment = is.meta_moment;
}

of_sightings : (made : List Entry) (found : List Found) → AllSighted made (map sighting_of found) → AllByRecursion (IsSeen made) found
of_sightings made [] all = tt
of_sightings made (f ∷ found) all = (of_sighting made f all.0, of_sightings made found all.1)

module _ (rules : SyncRules) (first : Entry) (others : List Entry) (view : View) where
  abbrev entries : List Entry
  entries = first ∷ others

  abbrev ended : Moment
  ended = fold (λ (last : Moment) (e : Entry). e.moment) first.moment others

  abbrev course : Course
  course = record { first = first.seq; begin = first.moment; end = ended }

  sight_of : (sightings : List Sighting) → AllSighted entries sightings → ((ulid : ℕ) → ulid < 2 ^ 128 → All (ShowsBlock ulid) entries → Sights ulid sightings)
      → (other : View) → other ≡ view → IsView rules first.seq first.moment ended sightings other → IsSight rules entries view
  sight_of sightings seen met other same v = subst (IsSight rules entries) same (record {
    first = first;
    others = others;
    are = refl;
    number = v.first;
    begin = v.begin;
    found = v.found;
    kept = v.kept;
    covered = v.covered;
    seen = All-from_recursion (IsSeen entries) v.found (of_sightings entries v.found (subst (AllSighted entries) (sym v.sighted) seen));
    all = λ ulid small shows. of_sights v.found ulid (subst (Sights ulid) (sym v.sighted) (met ulid small shows));
  })

  by_end : (last : Synced) → AreSeen entries last → ((ulid : ℕ) → ulid < 2 ^ 128 → All (ShowsBlock ulid) entries → IsMet ulid entries last) → IsEnd rules (last, Some course) (fetched.View view) → IsSight rules entries view
  by_end (sync_told.sighted sightings) seen met (other, is, v) = sight_of sightings seen met other (cc (is)) v
  by_end (sync_told.fault number) seen met is = absurd (cc (is))
  by_end (sync_told.damaged number) seen met is = absurd (cc (is))
  by_end sync_told.too_many seen met is = absurd (cc (is))

  sight_by : SyncRun rules entries (Some (fetched.View view)) → IsSight rules entries view
  sight_by ((last, came), run, is) =
      let one = told Any AreSeen rules (λ made listed. Unit {0}) (λ made listed. Unit {0}) SeenSoFar (seen_pages rules.page_limit) seen_reads tt (λ made names l. (tt, ulids_small names)) entries last came (nothing_given entries) run in
      let met : (ulid : ℕ) → ulid < 2 ^ 128 → All (ShowsBlock ulid) entries → IsMet ulid entries last =
      λ ulid small shows.
      (told (ShowsBlock ulid) (IsMet ulid) rules (λ made listed. IsToBeListed listed (text_of ulid)) (λ made listed. Contains listed (text_of ulid)) (MetSoFar ulid) (met_pages ulid small rules.page_limit) (met_reads ulid small)
      (inr (before_first_page ulid)) (λ made names l. inl (ulid_listed names ulid small l)) entries last came (recursion_from_All (ShowsBlock ulid) entries shows) run).0 in
      by_end last one.0 met (subst (λ c. IsEnd rules (last, c) (fetched.View view)) (one.1 ∙ course_of_all first others) is)

pub sync_sight : (rules : SyncRules) (entries : List Entry) (view : View) → SyncRun rules entries (Some (fetched.View view)) → IsSight rules entries view
sync_sight rules [] view run = absurd ((let none = run.1 in cc (none)))
sync_sight rules (first ∷ others) view run = sight_by rules first others view run
