-- What a cleaning asks for.
use Rattle.std.proofs.Common.{◌≡◌, inl, inr, ℕ, ◌<◌, ◌^◌, Bool, true, false, List, [], ◌∷◌, ◌++◌, Option, Some, None, Contains, refl, sym, ◌∙◌, ap, subst, append_assoc, append-nil, codes, cond}
use Rattle.std.specs.Prelude.{option_map}
use Rattle.std.specs.List.{AllByRecursion, cons_option}
use Rattle.std.specs.Str.{bytes_eq}
use Rattle.std.proofs.lemmas.List.Elements.{Contains-append_left, Contains-push}
use Rattle.block_keys.specs.Keys.{key_ulid}
use Rattle.block_keys.specs.KeyText.{key_named, segment_of}
use Rattle.block_keys.specs.declared.key.Key.{Key}
use Rattle.block_keys.specs.declared.key.Key.TheVariants as key
use Rattle.block_meta.specs.MetaFields.{MarkFields}
use Rattle.block_meta.specs.OfBlocks.{block_mark}
use Rattle.moment_core.specs.declared.rules.Rules.{Rules}
use Rattle.world_core.specs.Limits.{most_listed}
use Rattle.world_core.specs.Plans.{Plan, choose}
use Rattle.world_core.specs.Walks.{ulids_in}
use Rattle.world_core.specs.declared.op.Op.{Op}
use Rattle.world_core.specs.declared.op.Op.TheVariants as op
use Rattle.world_core.specs.declared.reply.Reply.TheVariants as reply
use Rattle.world_core.specs.declared.entry.Entry.{Entry}
use Rattle.world_core.proofs.PlanLaws.{AsksFor, EachAfter, asked_are}
use Rattle.world_core.proofs.PlanWords.{chosen, gets_ask}
use Rattle.world_core.proofs.PageNames.{ulids_small, AreSmall}
use Rattle.cleaner.specs.Cleanings.{CleanRun, Counts, cleaning, deleting, deletion, if_mark, looking, none_deleted, one_block_more, one_partial_more, reads_meta, rules_of, walk_ends}
use Rattle.cleaner.specs.Marks.{is_old_block, is_old_mark}
use Rattle.cleaner.specs.Objects.{data_keys, data_named, objects_of, only_data}
use Rattle.cleaner.specs.declared.clean.CleanEnd.{CleanEnd}
use Rattle.cleaner.specs.declared.clean.CleanEnd.TheVariants.{Fault}
use Rattle.lifecycle_core.specs.CleaningOps.{IsCleanOp, IsDecision, IsDeleting}
use Rattle.lifecycle_core.proofs.activities.PagesAsk.{deletes_ask, pages_ask_on}

-- ---- keys of one block

abbrev IsOf : ℕ → Key → Type 0
IsOf ulid k = key_ulid k ≡ ulid

abbrev IfOf : ℕ → Option Key → Type 0
IfOf ulid None = Unit {0}
IfOf ulid (Some k) = IsOf ulid k

segment_is : (ulid : ℕ) (o : Option ℕ) → IfOf ulid (option_map (λ number. key.Segment ulid number) o)
segment_is ulid None = tt
segment_is ulid (Some number) = refl

by_test : (ulid : ℕ) (b : Bool) (k : Key) (o : Option Key) → IsOf ulid k → IfOf ulid o → IfOf ulid (cond b (Some k) o)
by_test ulid true k o own rest = own
by_test ulid false k o own rest = rest

named_is : (ulid : ℕ) (name : List ℕ) → IfOf ulid (key_named ulid name)
unfolding key_named
named_is ulid name =
    by_test ulid (bytes_eq name (codes "meta.json")) (key.Meta ulid) _ refl
    (by_test ulid (bytes_eq name (codes "index")) (key.Index ulid) _ refl
    (by_test ulid (bytes_eq name (codes "deletion-mark.json")) (key.Mark ulid) _ refl (segment_is ulid (segment_of name))))

only_is : (ulid : ℕ) (o : Option Key) → IfOf ulid o → IfOf ulid (only_data o)
only_is ulid None is = tt
only_is ulid (Some (key.Meta own)) is = tt
only_is ulid (Some (key.Index own)) is = is
only_is ulid (Some (key.Segment own number)) is = is
only_is ulid (Some (key.Mark own)) is = tt

with_key : (ulid : ℕ) (o : Option Key) (keys : List Key) → IfOf ulid o → AllByRecursion (IsOf ulid) keys → AllByRecursion (IsOf ulid) (cons_option o keys)
with_key ulid None keys is all = all
with_key ulid (Some k) keys is all = (is, all)

data_is : (ulid : ℕ) (names : List (List ℕ)) → AllByRecursion (IsOf ulid) (data_keys ulid names)
data_is ulid [] = tt
data_is ulid (name ∷ names) = with_key ulid (data_named ulid name) (data_keys ulid names) (only_is ulid (key_named ulid name) (named_is ulid name)) (data_is ulid names)

and_last : (ulid : ℕ) (keys : List Key) (k : Key) → AllByRecursion (IsOf ulid) keys → IsOf ulid k → AllByRecursion (IsOf ulid) (keys ++ k ∷ [])
and_last ulid [] k all is = (is, tt)
and_last ulid (x ∷ keys) k all is = (all.0, and_last ulid keys k all.1 is)

-- ---- what is known of the entries before

-- the cleaning decided that the block is deleted
record HasDecided (rules : Rules) (ulid : ℕ) (made : List Entry) : Type 0 where
  front : List Entry
  decision : Entry
  later : List Entry
  parts : made ≡ front ++ decision ∷ later
  small : ulid < 2 ^ 128
  decides : IsDecision rules ulid decision

abbrev decided_more : (rules : Rules) (ulid : ℕ) (made : List Entry) (e : Entry) → HasDecided rules ulid made → HasDecided rules ulid (made ++ e ∷ [])
decided_more rules ulid made e d = record {
  front = d.front;
  decision = d.decision;
  later = d.later ++ e ∷ [];
  parts = ap (λ es. es ++ e ∷ []) d.parts ∙ append_assoc d.front (d.decision ∷ d.later) (e ∷ []);
  small = d.small;
  decides = d.decides;
}

-- and has deleted its meta
record HasDeleted (rules : Rules) (ulid : ℕ) (made : List Entry) : Type 0 where
  decided : HasDecided rules ulid made
  delete : Entry
  among : Contains decided.later delete
  deletes : delete.op ≡ op.Delete (key.Meta ulid)
  done : delete.reply ≡ reply.Deleted

deleted_more : (rules : Rules) (ulid : ℕ) (made : List Entry) (e : Entry) → HasDeleted rules ulid made → HasDeleted rules ulid (made ++ e ∷ [])
deleted_more rules ulid made e d = record {
  decided = decided_more rules ulid made e d.decided;
  delete = d.delete;
  among = Contains-append_left (d.decided).later (e ∷ []) d.delete d.among;
  deletes = d.deletes;
  done = d.done;
}

meta_deleted : (rules : Rules) (ulid : ℕ) (made : List Entry) (e : Entry) → HasDecided rules ulid made → e.op ≡ op.Delete (key.Meta ulid) → e.reply ≡ reply.Deleted → HasDeleted rules ulid (made ++ e ∷ [])
meta_deleted rules ulid made e d is done = record {
  decided = decided_more rules ulid made e d;
  delete = e;
  among = Contains-push d.later e;
  deletes = is;
  done = done;
}

meta_asked : (rules : Rules) (ulid : ℕ) (made : List Entry) → HasDecided rules ulid made → IsDeleting rules made (key.Meta ulid)
meta_asked rules ulid made d = record { front = d.front; decision = d.decision; later = d.later; parts = d.parts; small = d.small; decides = d.decides; meta_first = inl refl }

other_asked : (rules : Rules) (ulid : ℕ) (made : List Entry) (k : Key) → HasDeleted rules ulid made → IsOf ulid k → IsDeleting rules made k
other_asked rules ulid made k d own = record {
  front = (d.decided).front;
  decision = (d.decided).decision;
  later = (d.decided).later;
  parts = (d.decided).parts;
  small = subst (λ (u : ℕ). u < 2 ^ 128) (sym own) (d.decided).small;
  decides = subst (λ (u : ℕ). IsDecision rules u (d.decided).decision) (sym own) (d.decided).decides;
  meta_first = inr (d.delete, d.among, d.deletes ∙ ap (λ (u : ℕ). op.Delete (key.Meta u)) (sym own), d.done);
}

-- ---- what is asked for

module _ (rules : Rules) where
  abbrev Is : List Entry → Op → Type 0
  Is = IsCleanOp rules

  -- what follows asks so, whatever is behind it
  abbrev Asks : Plan CleanEnd → Type 0
  Asks plan = (made : List Entry) → AsksFor Is made plan

  others_ask : (ulid : ℕ) (keys : List Key) (next : Plan CleanEnd) → Asks next → AllByRecursion (IsOf ulid) keys → (made : List Entry) → HasDeleted rules ulid made → AsksFor Is made (deleting keys next)
  others_ask ulid [] next rest all made d = rest made
  others_ask ulid (k ∷ keys) next rest all made d =
      deletes_ask Is made Fault k (λ e. deleting keys next) (other_asked rules ulid made k d all.0)
      (λ e is done. others_ask ulid keys next rest all.1 (made ++ e ∷ []) (deleted_more rules ulid made e d))

  objects_ask : (ulid : ℕ) (names : List (List ℕ)) (next : Plan CleanEnd) → Asks next → (made : List Entry) → HasDecided rules ulid made → AsksFor Is made (deleting (objects_of ulid names) next)
  objects_ask ulid names next rest made d =
      let others : List Key = data_keys ulid names ++ key.Mark ulid ∷ [] in
      deletes_ask Is made Fault (key.Meta ulid) (λ e. deleting others next) (meta_asked rules ulid made d)
      (λ e is done. others_ask ulid others next rest (and_last ulid (data_keys ulid names) (key.Mark ulid) (data_is ulid names) refl) (made ++ e ∷ []) (meta_deleted rules ulid made e d is done))

  deletion_asks : (ulid : ℕ) (next : Plan CleanEnd) → Asks next → (made : List Entry) → HasDecided rules ulid made → AsksFor Is made (deletion (rules_of rules) ulid next)
  deletion_asks ulid next rest made d =
      pages_ask_on walk_ends (λ cursor. op.BlockPage ulid cursor (rules_of rules).page_limit) (rules_of rules).page_limit (λ names. deleting (objects_of ulid names) next) Is (HasDecided rules ulid)
      (decided_more rules ulid) (λ made cursor j. tt) (λ made names j. objects_ask ulid names next rest made j) most_listed made [] d

  -- ---- the looks at the blocks

  decides_by : (ulid : ℕ) (made : List Entry) (e : Entry) → ulid < 2 ^ 128 → IsDecision rules ulid e → HasDecided rules ulid (made ++ e ∷ [])
  decides_by ulid made e small decides = record { front = made; decision = e; later = []; parts = refl; small = small; decides = decides }

  mark_asks : (ulid : ℕ) (deleted kept : Plan CleanEnd) (e : Entry) (bytes : List ℕ) (made : List Entry) (o : Option MarkFields) → block_mark ulid bytes ≡ o → ulid < 2 ^ 128 → e.op ≡ op.Get (key.Mark ulid) → e.reply ≡ reply.Found bytes
      → Asks deleted → Asks kept → AsksFor Is (made ++ e ∷ []) (if_mark e.seq o (λ mark. choose (is_old_mark mark e.moment rules.delete) (deletion (rules_of rules) ulid deleted) kept))
  mark_asks ulid deleted kept e bytes made None read small is found d k = tt
  mark_asks ulid deleted kept e bytes made (Some mark) read small is found d k =
      chosen (AsksFor Is (made ++ e ∷ [])) (is_old_mark mark e.moment rules.delete) _ _
      (λ old. deletion_asks ulid deleted d (made ++ e ∷ []) (decides_by ulid made e small (inl (record { bytes = bytes; mark = mark; asks = is; found = found; reads = read; old = old }))))
      (λ recent. k (made ++ e ∷ []))

  meta_asks : (ulid : ℕ) (deleted kept : Plan CleanEnd) (made : List Entry) → ulid < 2 ^ 128 → Asks deleted → Asks kept → AsksFor Is made (reads_meta (rules_of rules) ulid kept (deletion (rules_of rules) ulid deleted))
  meta_asks ulid deleted kept made small d k =
      gets_ask Is made Fault (key.Meta ulid) (λ e bytes. kept) (λ e. choose (is_old_block ulid e.moment (rules_of rules).partial) (deletion (rules_of rules) ulid deleted) kept) tt
      (λ e bytes is found. k (made ++ e ∷ []))
      (λ e is absent.
      chosen (AsksFor Is (made ++ e ∷ [])) (is_old_block ulid e.moment rules.partial) _ _
      (λ old. deletion_asks ulid deleted d (made ++ e ∷ []) (decides_by ulid made e small (inr (record { asks = is; absent = absent; old = old }))))
      (λ young. k (made ++ e ∷ [])))

  looking_asks : (ulids : List ℕ) (counts : Counts) → AreSmall ulids → Asks (looking (rules_of rules) counts ulids)
  looking_asks [] counts small made = tt
  looking_asks (ulid ∷ ulids) counts small made =
      let kept : Asks (looking (rules_of rules) counts ulids) = looking_asks ulids counts small.1 in
      let block : Asks (looking (rules_of rules) (one_block_more counts) ulids) = looking_asks ulids (one_block_more counts) small.1 in
      let partial : Asks (looking (rules_of rules) (one_partial_more counts) ulids) = looking_asks ulids (one_partial_more counts) small.1 in
      gets_ask Is made Fault (key.Mark ulid)
      (λ e bytes. if_mark e.seq (block_mark ulid bytes) (λ mark. choose (is_old_mark mark e.moment (rules_of rules).delete) (deletion (rules_of rules) ulid (looking (rules_of rules) (one_block_more counts) ulids)) (looking (rules_of rules) counts ulids)))
      (λ e. reads_meta (rules_of rules) ulid (looking (rules_of rules) counts ulids) (deletion (rules_of rules) ulid (looking (rules_of rules) (one_partial_more counts) ulids))) tt
      (λ e bytes is found. mark_asks ulid (looking (rules_of rules) (one_block_more counts) ulids) (looking (rules_of rules) counts ulids) e bytes made (block_mark ulid bytes) refl small.0 is found block kept)
      (λ e is absent. meta_asks ulid (looking (rules_of rules) (one_partial_more counts) ulids) (looking (rules_of rules) counts ulids) (made ++ e ∷ []) small.0 partial kept)

  cleaning_asks : AsksFor Is [] (cleaning rules)
  cleaning_asks =
      pages_ask_on walk_ends (λ cursor. op.RootPage cursor (rules_of rules).page_limit) (rules_of rules).page_limit (λ names. looking (rules_of rules) none_deleted (ulids_in names)) Is (λ made. Unit {0})
      (λ made e j. tt) (λ made cursor j. tt) (λ made names j. looking_asks (ulids_in names) none_deleted (ulids_small names) made) most_listed [] [] tt

-- what is true of each entry after those before it, at one of them
pub each_at : (Is : List Entry → Op → Type 0) (made front : List Entry) (e : Entry) (back : List Entry) → EachAfter Is made (front ++ e ∷ back) → Is (made ++ front) e.op
each_at Is made [] e back all = subst (λ es. Is es e.op) (sym (append-nil made)) all.0
each_at Is made (x ∷ front) e back all = subst (λ es. Is es e.op) (append_assoc made (x ∷ []) front) (each_at Is (made ++ x ∷ []) front e back all.1)

pub cleaning_op : (rules : Rules) (own : List Entry) (e : Entry) (rest : List Entry) (end : Option CleanEnd) → CleanRun rules (own ++ e ∷ rest) end → IsCleanOp rules own e.op
cleaning_op rules own e rest end run = each_at (IsCleanOp rules) [] own e rest (asked_are (IsCleanOp rules) (cleaning rules) [] (own ++ e ∷ rest) end (cleaning_asks rules) run)
