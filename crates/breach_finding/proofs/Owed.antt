-- When a reply is a lie, by what is owed.
use Rattle.std.proofs.Common.{◌≡◌, ℕ, List, [], Option, Some, None, refl, sym, ◌∙◌, ap, subst}
use Rattle.std.specs.Prelude.{option_map}
use Rattle.ulid_core.specs.UlidText.{text_of}
use Rattle.block_keys.specs.KeyText.{key_text}
use Rattle.bucket_core.specs.Contents.{range_of}
use Rattle.block_keys.specs.declared.key.Key.{Key}
use Rattle.moment_core.specs.declared.moment.Moment.{Moment}
use Rattle.world_core.specs.Operations.{IsReplyTo}
use Rattle.world_core.specs.Standing.{Tells, stands}
use Rattle.world_core.specs.declared.entry.Entry.{Entry}
use Rattle.world_core.specs.declared.op.Op.TheVariants.{BlockPage, Clock, Delete, Get, GetRange, Put, RootPage}
use Rattle.world_core.specs.declared.reply.Reply.{Reply}
use Rattle.world_core.specs.declared.reply.Reply.TheVariants.{Absent, Clocked, Deleted, Failed, Found, Names, Stored}
use Rattle.lifecycle_core.specs.Breaches.{IsLie, shown_by}
use Rattle.lifecycle_core.proofs.journals.Honesty.{one_reply, same_text}
use Rattle.breach_finding.specs.Told.{IsPageWrong, IsShownWrong, IsTold, names_text, object_text}

module _ (before : List Entry) (e : Entry) (owed : Reply) (text : List ℕ) (kind : IsReplyTo e.op owed) (tells : Tells (stands before) e.op owed) (is : shown_by owed ≡ Some text) where
  by_shown : (shown : Option (List ℕ)) (told : Option (ℕ × ℕ)) → shown_by e.reply ≡ shown → IsShownWrong shown text told → IsTold (IsLie before e) told
  by_shown None None none wrong = λ x y (reply, one, other, own, also, shows, owes, differ). cc (none, shows)
  by_shown None (Some told) none wrong = cc (wrong)
  by_shown (Some one) None shown same = λ x y (reply, first, other, own, also, shows, owes, differ).
      let begins : first ≡ one = cc (shown, shows) in
      same_text first other x y (begins ∙ same ∙ one_reply (stands before) e.op owed reply text other kind tells own also is owes) differ
  by_shown (Some one) (Some (x, y)) shown differ = (owed, one, text, kind, tells, shown, is, differ)

  -- a reply is a lie where it shows something else than what is owed
  pub lie_told : (told : Option (ℕ × ℕ)) → IsShownWrong (shown_by e.reply) text told → IsTold (IsLie before e) told
  lie_told told wrong = by_shown (shown_by e.reply) told refl wrong

-- ---- what is owed

-- the reply that shows an object, or its absence
abbrev owed_reply : Option (List ℕ) → Reply
owed_reply None = Absent
owed_reply (Some bytes) = Found bytes

shown_owed : (object : Option (List ℕ)) → shown_by (owed_reply object) ≡ Some (object_text object)
shown_owed None = refl
shown_owed (Some bytes) = refl

module _ (before : List Entry) (e : Entry) (told : Option (ℕ × ℕ)) where
  get_kind : (key : Key) (object : Option (List ℕ)) → IsReplyTo (Get key) (owed_reply object)
  get_kind key None = tt
  get_kind key (Some bytes) = tt

  get_tells : (key : Key) (object : Option (List ℕ)) → object ≡ stands before (key_text key) → Tells (stands before) (Get key) (owed_reply object)
  get_tells key None is = sym is
  get_tells key (Some bytes) is = sym is

  pub get_told : (key : Key) (object : Option (List ℕ)) → e.op ≡ Get key → object ≡ stands before (key_text key) → IsShownWrong (shown_by e.reply) (object_text object) told → IsTold (IsLie before e) told
  get_told key object op is wrong =
      lie_told before e (owed_reply object) (object_text object) (subst (λ o. IsReplyTo o (owed_reply object)) (sym op) (get_kind key object))
      (subst (λ o. Tells (stands before) o (owed_reply object)) (sym op) (get_tells key object is)) (shown_owed object) told wrong

  part_kind : (key : Key) (start len : ℕ) (object : Option (List ℕ)) → IsReplyTo (GetRange key start len) (owed_reply object)
  part_kind key start len None = tt
  part_kind key start len (Some bytes) = tt

  part_tells : (key : Key) (start len : ℕ) (object : Option (List ℕ)) → object ≡ stands before (key_text key) → Tells (stands before) (GetRange key start len) (owed_reply (option_map (range_of start len) object))
  part_tells key start len None is = sym is
  part_tells key start len (Some bytes) is = ap (option_map (range_of start len)) (sym is)

  pub part_told : (key : Key) (start len : ℕ) (object : Option (List ℕ)) → e.op ≡ GetRange key start len → object ≡ stands before (key_text key) → IsShownWrong (shown_by e.reply) (object_text (option_map (range_of start len) object)) told → IsTold (IsLie before e) told
  part_told key start len object op is wrong =
      let part = option_map (range_of start len) object in
      lie_told before e (owed_reply part) (object_text part) (subst (λ o. IsReplyTo o (owed_reply part)) (sym op) (part_kind key start len part))
      (subst (λ o. Tells (stands before) o (owed_reply part)) (sym op) (part_tells key start len object is)) (shown_owed part) told wrong

  pub root_told : (after : List ℕ) (limit : ℕ) → e.op ≡ RootPage after limit → IsPageWrong (stands before) [] after limit e.reply told → IsTold (IsLie before e) told
  root_told after limit op (names, page, wrong) =
      lie_told before e (Names names) (names_text names) (subst (λ o. IsReplyTo o (Names names)) (sym op) tt) (subst (λ o. Tells (stands before) o (Names names)) (sym op) page) refl told wrong

  pub block_told : (ulid : ℕ) (after : List ℕ) (limit : ℕ) → e.op ≡ BlockPage ulid after limit → IsPageWrong (stands before) (text_of ulid) after limit e.reply told → IsTold (IsLie before e) told
  block_told ulid after limit op (names, page, wrong) =
      lie_told before e (Names names) (names_text names) (subst (λ o. IsReplyTo o (Names names)) (sym op) tt) (subst (λ o. Tells (stands before) o (Names names)) (sym op) page) refl told wrong

-- ---- operations that show nothing

pub silent_told : (before : List Entry) (e : Entry) → ((reply : Reply) (text : List ℕ) → IsReplyTo e.op reply → shown_by reply ≡ Some text → ⊥) → IsTold (IsLie before e) None
silent_told before e silent = λ x y (reply, one, other, own, also, shows, owes, differ). silent reply other own owes

pub clock_silent : (moment : Moment) (reply : Reply) (text : List ℕ) → IsReplyTo (Clock moment) reply → shown_by reply ≡ Some text → ⊥
clock_silent moment (Found shown) text kind is = absurd kind
clock_silent moment Absent text kind is = absurd kind
clock_silent moment (Names names) text kind is = absurd kind
clock_silent moment Clocked text kind is = cc (is)
clock_silent moment Stored text kind is = cc (is)
clock_silent moment Deleted text kind is = cc (is)
clock_silent moment (Failed landed) text kind is = cc (is)

pub put_silent : (key : Key) (bytes : List ℕ) (reply : Reply) (text : List ℕ) → IsReplyTo (Put key bytes) reply → shown_by reply ≡ Some text → ⊥
put_silent key bytes (Found shown) text kind is = absurd kind
put_silent key bytes Absent text kind is = absurd kind
put_silent key bytes (Names names) text kind is = absurd kind
put_silent key bytes Clocked text kind is = cc (is)
put_silent key bytes Stored text kind is = cc (is)
put_silent key bytes Deleted text kind is = cc (is)
put_silent key bytes (Failed landed) text kind is = cc (is)

pub delete_silent : (key : Key) (reply : Reply) (text : List ℕ) → IsReplyTo (Delete key) reply → shown_by reply ≡ Some text → ⊥
delete_silent key (Found shown) text kind is = absurd kind
delete_silent key Absent text kind is = absurd kind
delete_silent key (Names names) text kind is = absurd kind
delete_silent key Clocked text kind is = cc (is)
delete_silent key Stored text kind is = cc (is)
delete_silent key Deleted text kind is = cc (is)
delete_silent key (Failed landed) text kind is = cc (is)
