-- A sync that is told of no meta of a block goes on as it would, and gives a view where it would.
use Rattle.std.proofs.Common.{◌≡◌, inl, inr, ℕ, zero, suc, Bool, true, false, cond, List, [], ◌∷◌, ◌++◌, length, Option, Some, None, refl, sym, ap, subst}
use Rattle.std.specs.Prelude.{is_some, map, nat_le, nat_lt, unwrap_or}
use Rattle.base.specs.Order.{are_in_order_after, comes_after}
use Rattle.label_sets.specs.Labels.{compare_texts}
use Rattle.block_keys.specs.declared.key.Key.TheVariants as key
use Rattle.block_meta.specs.MetaFields.{MarkFields, MetaFields}
use Rattle.block_meta.specs.OfBlocks.{block_mark, block_meta}
use Rattle.moment_core.specs.declared.moment.Moment.{Moment}
use Rattle.world_core.specs.Limits.{most_listed}
use Rattle.world_core.specs.Plans.{Plan, Runs, after_get, asks, choose, ends, never, noting}
use Rattle.world_core.specs.Walks.{after_page, last_listed, ulids_in}
use Rattle.world_core.specs.declared.entry.Entry.{Entry}
use Rattle.world_core.specs.declared.op.Op.{Op}
use Rattle.world_core.specs.declared.op.Op.TheVariants as op
use Rattle.world_core.specs.declared.reply.Reply.{Reply}
use Rattle.world_core.specs.declared.reply.Reply.TheVariants as reply
use Rattle.meta_fetcher.specs.Sightings.{Sighting}
use Rattle.meta_fetcher.specs.Syncs.{Course, IsEnd, SyncRun, Synced, damaged, fault, if_mark, if_meta, listing, reading, reads_meta, sighted, too_many, walk_ends, with_entry}
use Rattle.meta_fetcher.specs.declared.rules.SyncRules.{SyncRules}
use Rattle.meta_fetcher.specs.declared.sync.SyncEnd.{SyncEnd}
use Rattle.meta_fetcher.specs.declared.sync.SyncEnd.TheVariants as fetched
use Rattle.breach_finding.specs.Watching.{as_passed, came_of, passed_on}
use Rattle.breach_finding.proofs.FoundViews.{view_there}

-- ---- what it comes to

-- the same, whatever was sighted
abbrev IsLike : Synced → Synced → Type 0
IsLike (sighted one) (sighted other) = Unit {0}
IsLike (fault one) (fault other) = one ≡ other
IsLike (damaged one) (damaged other) = one ≡ other
IsLike too_many too_many = Unit {0}
IsLike one other = ⊥

abbrev Told : Type 0
Told = Option (Synced × Option Course)

abbrev AreLike : Told → Told → Type 0
AreLike None None = Unit {0}
AreLike (Some one) (Some other) = IsLike one.0 other.0 × (one.1 ≡ other.1)
AreLike one other = ⊥

-- where the one plan is told what is passed on, and comes to something, the other comes to what is like that
abbrev Follows : Plan Synced → Plan Synced → Type 0
Follows one other =
    (course : Option Course) (entries : List Entry) (told : Told) → Runs (noting with_entry course one) (map as_passed entries) told
    → (own : Told) × Runs (noting with_entry course other) entries own × AreLike told own

-- ---- the words of plans

none_left : (entries : List Entry) → map as_passed entries ≡ [] → entries ≡ []
none_left [] is = refl
none_left (e ∷ entries) is = absurd (cc (is))

same_course : (course : Option Course) (e : Entry) → with_entry course (as_passed e) ≡ with_entry course e
same_course None e = refl
same_course (Some course) e = refl

follows_end : (one other : Synced) → IsLike one other → Follows (ends one) (ends other)
follows_end one other like course entries told (none, inl broken) = (None, (none_left entries none, inl refl), subst (λ (o : Told). AreLike o None) (sym broken) tt)
follows_end one other like course entries told (none, inr came) = (Some (other, course), (none_left entries none, inr refl), subst (λ (o : Told). AreLike o (Some (other, course))) (sym came) (like, refl))

follows_never : Follows never never
follows_never course entries told (none, broken) = (None, (none_left entries none, refl), subst (λ (o : Told). AreLike o None) (sym broken) tt)

follows_choose : (test : Bool) (one two other also : Plan Synced) → Follows one other → Follows two also → Follows (choose test one two) (choose test other also)
follows_choose true one two other also first second = first
follows_choose false one two other also first second = second

follows_asks : (o : Op) (one other : Entry → Plan Synced) → ((e : Entry) → e.op ≡ o → Follows (one (as_passed e)) (other e)) → Follows (asks o one) (asks o other)
follows_asks o one other next course [] told run = (None, refl, subst (λ (t : Told). AreLike t None) (sym run) tt)
follows_asks o one other next course (e ∷ entries) told (is, run) =
    let moved = subst (λ (c : Option Course). Runs (noting with_entry c (one (as_passed e))) (map as_passed entries) told) (same_course course e) run in
    let on = next e is (with_entry course e) entries told moved in (on.0, (is, on.1), on.2)

-- ---- the reads

-- a read of which the reply is passed on
follows_get : (given shown : Reply) (one other : List ℕ → Plan Synced) (two also failed : Plan Synced) → given ≡ shown → ((bytes : List ℕ) → Follows (one bytes) (other bytes)) → Follows two also → Follows failed failed
    → Follows (after_get given one two failed) (after_get shown other also failed)
follows_get given (reply.Found bytes) one other two also failed same found absent fails = subst (λ (r : Reply). Follows (after_get r one two failed) (other bytes)) (sym same) (found bytes)
follows_get given reply.Absent one other two also failed same found absent fails = subst (λ (r : Reply). Follows (after_get r one two failed) also) (sym same) absent
follows_get given (reply.Failed landed) one other two also failed same found absent fails = subst (λ (r : Reply). Follows (after_get r one two failed) failed) (sym same) fails
follows_get given reply.Clocked one other two also failed same found absent fails = subst (λ (r : Reply). Follows (after_get r one two failed) never) (sym same) follows_never
follows_get given reply.Stored one other two also failed same found absent fails = subst (λ (r : Reply). Follows (after_get r one two failed) never) (sym same) follows_never
follows_get given reply.Deleted one other two also failed same found absent fails = subst (λ (r : Reply). Follows (after_get r one two failed) never) (sym same) follows_never
follows_get given (reply.Names names) one other two also failed same found absent fails = subst (λ (r : Reply). Follows (after_get r one two failed) never) (sym same) follows_never

failing : (seq : ℕ) → Follows (ends (fault seq)) (ends (fault seq))
failing seq = follows_end (fault seq) (fault seq) refl

by_mark : (seq : ℕ) (mark : Option MarkFields) (one other : MarkFields → Plan Synced) → ((own : MarkFields) → Follows (one own) (other own)) → Follows (if_mark seq mark one) (if_mark seq mark other)
by_mark seq None one other next = follows_end (damaged seq) (damaged seq) refl
by_mark seq (Some mark) one other next = next mark

module _ (ulid : ℕ) (one other : MetaFields → Moment → Plan Synced) (two also : Plan Synced) (found : (meta : MetaFields) (moment : Moment) → Follows two (other meta moment)) (absent : Follows two also) where
  -- by what is read as the block's meta
  by_bytes : (e : Entry) (bytes : List ℕ) (meta : Option MetaFields) → block_meta ulid bytes ≡ meta
      → Follows (after_get (cond (is_some meta) reply.Absent (reply.Found bytes)) (λ own. if_meta e.seq (block_meta ulid own) (λ m. one m e.moment)) two (ends (fault e.seq))) (if_meta e.seq meta (λ m. other m e.moment))
  by_bytes e bytes None is = subst (λ (o : Option MetaFields). Follows (if_meta e.seq o (λ m. one m e.moment)) (ends (damaged e.seq))) (sym is) (follows_end (damaged e.seq) (damaged e.seq) refl)
  by_bytes e bytes (Some meta) is = found meta e.moment

  -- by the reply to the read of the meta
  meta_shown : (e : Entry) (shown : Reply) → Follows (after_get (passed_on (op.Get (key.Meta ulid)) shown) (λ bytes. if_meta e.seq (block_meta ulid bytes) (λ meta. one meta e.moment)) two (ends (fault e.seq)))
      (after_get shown (λ bytes. if_meta e.seq (block_meta ulid bytes) (λ meta. other meta e.moment)) also (ends (fault e.seq)))
  meta_shown e (reply.Found bytes) = by_bytes e bytes (block_meta ulid bytes) refl
  meta_shown e reply.Absent = absent
  meta_shown e (reply.Failed landed) = failing e.seq
  meta_shown e reply.Clocked = follows_never
  meta_shown e reply.Stored = follows_never
  meta_shown e reply.Deleted = follows_never
  meta_shown e (reply.Names names) = follows_never

  by_entry : (e : Entry) → e.op ≡ op.Get (key.Meta ulid) → Follows (after_get (as_passed e).reply (λ bytes. if_meta e.seq (block_meta ulid bytes) (λ meta. one meta e.moment)) two (ends (fault e.seq)))
      (after_get e.reply (λ bytes. if_meta e.seq (block_meta ulid bytes) (λ meta. other meta e.moment)) also (ends (fault e.seq)))
  by_entry e is =
      subst (λ (o : Op). Follows (after_get (passed_on o e.reply) (λ bytes. if_meta e.seq (block_meta ulid bytes) (λ meta. one meta e.moment)) two (ends (fault e.seq)))
      (after_get e.reply (λ bytes. if_meta e.seq (block_meta ulid bytes) (λ meta. other meta e.moment)) also (ends (fault e.seq)))) (sym is) (meta_shown e e.reply)

  follows_meta : Follows (reads_meta ulid one two) (reads_meta ulid other also)
  follows_meta = follows_asks (op.Get (key.Meta ulid)) (λ e. after_get e.reply (λ bytes. if_meta e.seq (block_meta ulid bytes) (λ meta. one meta e.moment)) two (ends (fault e.seq)))
      (λ e. after_get e.reply (λ bytes. if_meta e.seq (block_meta ulid bytes) (λ meta. other meta e.moment)) also (ends (fault e.seq))) by_entry

abbrev seen : ℕ → Option MarkFields → Moment → MetaFields → Moment → Sighting
seen ulid mark mark_read meta meta_read = record { ulid = ulid; mark = mark; mark_read = mark_read; meta = meta; meta_read = meta_read }

-- what follows the read of a mark
abbrev after_mark : ℕ → List ℕ → List Sighting → Option MarkFields → Moment → Plan Synced
after_mark ulid ulids sightings mark mark_read =
    reads_meta ulid (λ meta meta_read. reading (sightings ++ seen ulid mark mark_read meta meta_read ∷ []) ulids) (reading sightings ulids)

mark_passed : (ulid : ℕ) (o : Op) (r : Reply) → o ≡ op.Get (key.Mark ulid) → passed_on o r ≡ r
mark_passed ulid o r is = subst (λ (own : Op). passed_on own r ≡ r) (sym is) refl

follows_reads : (ulids : List ℕ) (one other : List Sighting) → Follows (reading one ulids) (reading other ulids)
follows_reads [] one other = follows_end (sighted one) (sighted other) tt
follows_reads (ulid ∷ ulids) one other =
    let after : (mark : Option MarkFields) (moment : Moment) → Follows (after_mark ulid ulids one mark moment) (after_mark ulid ulids other mark moment) = λ mark moment.
    follows_meta ulid (λ meta meta_read. reading (one ++ seen ulid mark moment meta meta_read ∷ []) ulids) (λ meta meta_read. reading (other ++ seen ulid mark moment meta meta_read ∷ []) ulids) (reading one ulids) (reading other ulids)
    (λ meta meta_read. follows_reads ulids one (other ++ seen ulid mark moment meta meta_read ∷ [])) (follows_reads ulids one other) in
    follows_asks (op.Get (key.Mark ulid)) (λ e. after_get e.reply (λ bytes. if_mark e.seq (block_mark ulid bytes) (λ mark. after_mark ulid ulids one (Some mark) e.moment)) (after_mark ulid ulids one None e.moment) (ends (fault e.seq)))
    (λ e. after_get e.reply (λ bytes. if_mark e.seq (block_mark ulid bytes) (λ mark. after_mark ulid ulids other (Some mark) e.moment)) (after_mark ulid ulids other None e.moment) (ends (fault e.seq)))
    (λ e is.
    follows_get (passed_on e.op e.reply) e.reply (λ bytes. if_mark e.seq (block_mark ulid bytes) (λ mark. after_mark ulid ulids one (Some mark) e.moment)) (λ bytes. if_mark e.seq (block_mark ulid bytes) (λ mark. after_mark ulid ulids other (Some mark) e.moment))
    (after_mark ulid ulids one None e.moment) (after_mark ulid ulids other None e.moment) (ends (fault e.seq)) (mark_passed ulid e.op e.reply is)
    (λ bytes. by_mark e.seq (block_mark ulid bytes) (λ mark. after_mark ulid ulids one (Some mark) e.moment) (λ mark. after_mark ulid ulids other (Some mark) e.moment) (λ mark. after (Some mark) e.moment)) (after None e.moment) (failing e.seq))

-- ---- the pages

page_passed : (after : List ℕ) (limit : ℕ) (o : Op) (r : Reply) → o ≡ op.RootPage after limit → passed_on o r ≡ r
page_passed after limit o r is = subst (λ (own : Op). passed_on own r ≡ r) (sym is) refl

-- the same plan behind what is passed on
abbrev Same : Plan Synced → Type 0
Same plan = Follows plan plan

follows_page : (limit : ℕ) (listed : List (List ℕ)) (seq : ℕ) (given shown : Reply) (next more : List (List ℕ) → Plan Synced) → given ≡ shown → ((names : List (List ℕ)) → Same (next names)) → ((names : List (List ℕ)) → Same (more names))
    → Follows (after_page walk_ends limit listed seq given next more) (after_page walk_ends limit listed seq shown next more)
follows_page limit listed seq given shown next more same nexts mores = subst (λ (r : Reply). Follows (after_page walk_ends limit listed seq r next more) (after_page walk_ends limit listed seq shown next more)) (sym same) (by shown)
  where
    by : (r : Reply) → Same (after_page walk_ends limit listed seq r next more)
    by (reply.Names names) =
        follows_choose (are_in_order_after (comes_after compare_texts) (last_listed listed) names) _ _ _ _
        (follows_choose (nat_lt (length names) limit) _ _ _ _ (nexts (listed ++ names)) (follows_choose (nat_le most_listed (length (listed ++ names))) _ _ _ _ (follows_end too_many too_many tt) (mores (listed ++ names))))
        (follows_end (damaged seq) (damaged seq) refl)
    by (reply.Failed landed) = failing seq
    by reply.Clocked = follows_never
    by reply.Stored = follows_never
    by (reply.Found bytes) = follows_never
    by reply.Absent = follows_never
    by reply.Deleted = follows_never

follows_listing : (rules : SyncRules) (more : ℕ) (listed : List (List ℕ)) → Same (listing rules more listed)
follows_listing rules zero listed = follows_never
follows_listing rules (suc more) listed =
    follows_asks (op.RootPage (unwrap_or (last_listed listed) []) rules.page_limit) (λ e. after_page walk_ends rules.page_limit listed e.seq e.reply (λ names. reading [] (ulids_in names)) (listing rules more))
    (λ e. after_page walk_ends rules.page_limit listed e.seq e.reply (λ names. reading [] (ulids_in names)) (listing rules more))
    (λ e is.
    follows_page rules.page_limit listed e.seq (passed_on e.op e.reply) e.reply (λ names. reading [] (ulids_in names)) (listing rules more) (page_passed (unwrap_or (last_listed listed) []) rules.page_limit e.op e.reply is)
    (λ names. follows_reads (ulids_in names) [] []) (follows_listing rules more))

-- ---- syncs

module _ (rules : SyncRules) (entries : List Entry) where
  abbrev own_run : (told : Told) → Runs (noting with_entry None (listing rules most_listed [])) (map as_passed entries) told → (own : Told) × Runs (noting with_entry None (listing rules most_listed [])) entries own × AreLike told own
  own_run told run = follows_listing rules most_listed [] None entries told run

  -- one that is broken off
  pub broken_off : SyncRun rules (map as_passed entries) None → SyncRun rules entries None
  broken_off run = let own = own_run None run in none_too own.0 own.1 own.2
    where
      none_too : (own : Told) → Runs (noting with_entry None (listing rules most_listed [])) entries own → AreLike None own → SyncRun rules entries None
      none_too None run like = run
      none_too (Some own) run like = absurd like

  abbrev EndsLike : SyncEnd → Type 0
  EndsLike end = (own : SyncEnd) × (came_of end ≡ came_of own) × SyncRun rules entries (Some own)

  -- and one that came to an end
  pub ended : (end : SyncEnd) → SyncRun rules (map as_passed entries) (Some end) → (own : SyncEnd) × (came_of end ≡ came_of own) × SyncRun rules entries (Some own)
  ended end (told, run, gives) = let own = own_run (Some told) run in by told.0 told.1 own.0 own.1 own.2 gives
    where
      by : (last : Synced) (course : Option Course) (own : Told) → Runs (noting with_entry None (listing rules most_listed [])) entries own → AreLike (Some (last, course)) own → IsEnd rules (last, course) end → EndsLike end
      by last course None run like gives = absurd like
      by (sighted one) (Some course) (Some (sighted other, also)) run like (view, is, isview) =
          let moved : Runs (noting with_entry None (listing rules most_listed [])) entries (Some (sighted other, Some course)) = subst (λ (c : Option Course). Runs (noting with_entry None (listing rules most_listed [])) entries (Some (sighted other, c))) (sym like.1) run in
          let there = view_there rules entries other course moved in
          (fetched.View there.0, ap came_of is, ((sighted other, Some course), moved, (there.0, refl, there.1)))
      by (sighted one) None (Some (sighted other, also)) run like gives = absurd gives
      by (fault number) course (Some (fault other, also)) run like gives = (fetched.Fault other, ap came_of gives, ((fault other, also), run, refl))
      by (damaged number) course (Some (damaged other, also)) run like gives = (fetched.Damaged other, ap came_of gives, ((damaged other, also), run, refl))
      by too_many course (Some (too_many, also)) run like gives = (fetched.TooMany, ap came_of gives, ((too_many, also), run, refl))
      by (sighted one) course (Some (fault other, also)) run like gives = absurd like.0
      by (sighted one) course (Some (damaged other, also)) run like gives = absurd like.0
      by (sighted one) course (Some (too_many, also)) run like gives = absurd like.0
      by (fault number) course (Some (sighted other, also)) run like gives = absurd like.0
      by (fault number) course (Some (damaged other, also)) run like gives = absurd like.0
      by (fault number) course (Some (too_many, also)) run like gives = absurd like.0
      by (damaged number) course (Some (sighted other, also)) run like gives = absurd like.0
      by (damaged number) course (Some (fault other, also)) run like gives = absurd like.0
      by (damaged number) course (Some (too_many, also)) run like gives = absurd like.0
      by too_many course (Some (sighted other, also)) run like gives = absurd like.0
      by too_many course (Some (fault other, also)) run like gives = absurd like.0
      by too_many course (Some (damaged other, also)) run like gives = absurd like.0
