-- What stands after the last landed put or delete of a key, and fronts of journals.
use Rattle.std.proofs.Common.{◌≡◌, ◌≢◌, ℕ, Bool, true, false, cond, IsTrue, Some, None, List, [], ◌∷◌, ◌++◌, refl, ap, ◌∙◌, append_assoc}
use Rattle.std.specs.List.{fold}
use Rattle.std.specs.Str.{bytes_eq}
use Rattle.std.proofs.lemmas.List.Sums.{fold-append}
use Rattle.std.proofs.lemmas.Slice.Eq.{bytes_eq-Decides}
use Rattle.base.proofs.Bools.{bytes_eq-itself}
use Rattle.block_keys.specs.KeyText.{key_text}
use Rattle.block_keys.specs.declared.key.Key.{Key}
use Rattle.bucket_core.specs.Contents.{Contents, nothing, with_object, without_object}
use Rattle.world_core.specs.Journals.{Each}
use Rattle.world_core.specs.Standing.{has_landed, left_by, stands, changed_by, IsUnchanged}
use Rattle.world_core.specs.declared.op.Op.{Op}
use Rattle.world_core.specs.declared.op.Op.TheVariants.{Clock, Put, Get, GetRange, Delete, RootPage, BlockPage}
use Rattle.world_core.specs.declared.reply.Reply.{Reply}
use Rattle.world_core.specs.declared.entry.Entry.{Entry}

other_bytes : (b : Bool) (one other : List ℕ) → bytes_eq one other ≡ b → one ≢ other → b ≡ false
other_bytes true one other is differ = absurd (differ ((bytes_eq-Decides one other).0 is))
other_bytes false one other is differ = refl

-- a put or a delete of another key, or one that did not land, leaves what stands under the key
put_elsewhere : (landed : Bool) (text key bytes : List ℕ) (c : Contents) → cond landed (Some key) None ≢ Some text → cond landed (with_object key bytes c) c text ≡ c text
put_elsewhere true text key bytes c differ = rw (other_bytes _ key text refl (λ same. differ (ap Some same))) refl
put_elsewhere false text key bytes c differ = refl

delete_elsewhere : (landed : Bool) (text key : List ℕ) (c : Contents) → cond landed (Some key) None ≢ Some text → cond landed (without_object key c) c text ≡ c text
delete_elsewhere true text key c differ = rw (other_bytes _ key text refl (λ same. differ (ap Some same))) refl
delete_elsewhere false text key c differ = refl

unchanged_by : (op : Op) (reply : Reply) (text : List ℕ) (c : Contents) → changed_by op reply ≢ Some text → left_by op reply c text ≡ c text
unchanged_by (Clock moment) reply text c differ = refl
unchanged_by (Put key bytes) reply text c differ = put_elsewhere (has_landed reply) text (key_text key) bytes c differ
unchanged_by (Get key) reply text c differ = refl
unchanged_by (GetRange key from len) reply text c differ = refl
unchanged_by (Delete key) reply text c differ = delete_elsewhere (has_landed reply) text (key_text key) c differ
unchanged_by (RootPage after limit) reply text c differ = refl
unchanged_by (BlockPage ulid after limit) reply text c differ = refl

pub unchanged_along : (entries : List Entry) (text : List ℕ) (c : Contents) → IsUnchanged text entries → fold (λ d e. left_by e.op e.reply d) c entries text ≡ c text
unchanged_along [] text c all = refl
unchanged_along (e ∷ es) text c all = unchanged_along es text (left_by e.op e.reply c) all.1 ∙ unchanged_by e.op e.reply text c all.0

after_last : (before after : List Entry) (e : Entry) (text : List ℕ) → IsUnchanged text after → stands (before ++ e ∷ after) text ≡ left_by e.op e.reply (stands before) text
after_last before after e text all =
    ap (λ (c : Contents). c text) (fold-append (λ d x. left_by x.op x.reply d) nothing before (e ∷ after)) ∙ unchanged_along after text (left_by e.op e.reply (stands before)) all

landed_put : (op : Op) (reply : Reply) (c : Contents) (key : Key) (bytes : List ℕ) → op ≡ Put key bytes → IsTrue (has_landed reply) → left_by op reply c (key_text key) ≡ Some bytes
landed_put op reply c key bytes is landed =
    ap (λ o. left_by o reply c (key_text key)) is
    ∙ ap (λ b. cond b (with_object (key_text key) bytes c) c (key_text key)) landed
    ∙ ap (λ b. cond b (Some bytes) (c (key_text key))) (bytes_eq-itself (key_text key))

landed_delete : (op : Op) (reply : Reply) (c : Contents) (key : Key) → op ≡ Delete key → IsTrue (has_landed reply) → left_by op reply c (key_text key) ≡ None
landed_delete op reply c key is landed =
    ap (λ o. left_by o reply c (key_text key)) is
    ∙ ap (λ b. cond b (without_object (key_text key) c) c (key_text key)) landed
    ∙ ap (λ b. cond b None (c (key_text key))) (bytes_eq-itself (key_text key))

pub put_stands : (before after : List Entry) (e : Entry) (key : Key) (bytes : List ℕ) → e.op ≡ Put key bytes → IsTrue (has_landed e.reply) → IsUnchanged (key_text key) after → stands (before ++ e ∷ after) (key_text key) ≡ Some bytes
put_stands before after e key bytes is landed all = after_last before after e (key_text key) all ∙ landed_put e.op e.reply (stands before) key bytes is landed

pub deleted_stands : (before after : List Entry) (e : Entry) (key : Key) → e.op ≡ Delete key → IsTrue (has_landed e.reply) → IsUnchanged (key_text key) after → stands (before ++ e ∷ after) (key_text key) ≡ None
deleted_stands before after e key is landed all = after_last before after e (key_text key) all ∙ landed_delete e.op e.reply (stands before) key is landed

-- what holds of each entry holds in each front
pub Each-front : (P : List Entry → Entry → Type 0) (front others : List Entry) → Each P (front ++ others) → Each P front
Each-front P front others each before after e is = each before (after ++ others) e (ap (λ es. es ++ others) is ∙ append_assoc before (e ∷ after) others)
