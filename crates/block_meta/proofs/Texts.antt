-- The value of a text, by what the readers of text and of JSON say of it.
use Rattle.std.proofs.Common.{◌≡◌, ℕ, List, Bool, true, false, Some, None, is_some, Ok, Err, cond, ◌≤◌, arith, refl, ap, ◌∙◌}
use Rattle.std.specs.Str.{IsUtf8}
use Rattle.std.proofs.lemmas.Str.{IsUtf8-from_is_utf8, is_utf8-from_IsUtf8}
use Rattle.serde_json.specs.Data.{Data, depth}
use Rattle.serde_json.specs.Find.{as_object}
use Rattle.serde_json.specs.Read.{read}
use Rattle.serde_json.specs.Written.{has_float, compact_text}
use Rattle.block_meta.specs.declared.refusal.MetaRefusal.TheVariants.{NotJson}
use Rattle.block_meta.specs.Members.{Read, json_of, object_of}
use Rattle.block_meta.specs.MetaFields.{MetaFields, MarkFields}
use Rattle.block_meta.specs.MetaReading.{meta_of, meta_of_text, mark_of, mark_of_text}
use Rattle.block_meta.specs.MetaValue.{meta_value, meta_text, mark_value, mark_text}
use Rattle.block_meta.proofs.Plain.{IsPlain, meta_plain, meta_is_object, mark_plain, mark_is_object}

pub json_read : (text : List ℕ) (value : Data) → IsUtf8 text → read text ≡ Some value → json_of text ≡ Ok value
unfolding json_of
json_read _ _ utf8 e = rw (is_utf8-from_IsUtf8, e) refl

pub json_refused : (text : List ℕ) → IsUtf8 text → read text ≡ None → json_of text ≡ Err NotJson
unfolding json_of
json_refused _ utf8 e = rw (is_utf8-from_IsUtf8, e) refl

no_text : (b : Bool) (r : Read Data) → ¬ (b ≡ true) → cond b r (Err NotJson) ≡ Err NotJson
no_text true r h = absurd (h refl)
no_text false r h = refl

pub json_not_text : (text : List ℕ) → ¬ (IsUtf8 text) → json_of text ≡ Err NotJson
unfolding json_of
json_not_text _ h = no_text _ _ (λ e. h (IsUtf8-from_is_utf8 _ e))

-- ---- what was written

pub written : (bytes : List ℕ) (value d : Data) → value ≡ d → IsPlain 127 d → (has_float value ≡ false → bytes ≡ compact_text value) → bytes ≡ compact_text d
written _ _ _ is plain text = text (ap has_float is ∙ plain.0) ∙ ap compact_text is

object_again : (bytes : List ℕ) (value d : Data) → value ≡ d → IsUtf8 bytes → (depth value ≤ 127 → read bytes ≡ Some value) → IsPlain 127 d → is_some (as_object d) ≡ true → object_of bytes ≡ Ok d
unfolding object_of
object_again bytes value d is utf8 reads plain an_object =
    let shallow : depth value ≤ 127 = omega (arith, ap depth is, plain.1) in
    rw (json_read bytes d utf8 (reads shallow ∙ ap (λ v. Some v) is), an_object) refl

pub meta_reads : (bytes : List ℕ) (value : Data) (m : MetaFields) → value ≡ meta_value m → bytes ≡ meta_text m → IsUtf8 bytes → (depth value ≤ 127 → read bytes ≡ Some value) → meta_of (meta_value m) ≡ Ok m → meta_of_text (meta_text m) ≡ Ok m
unfolding meta_of_text
meta_reads bytes value m is text utf8 reads again = rw (← text, object_again bytes value _ is utf8 reads (meta_plain m) (meta_is_object m)) again

pub mark_reads : (bytes : List ℕ) (value : Data) (m : MarkFields) → value ≡ mark_value m → bytes ≡ mark_text m → IsUtf8 bytes → (depth value ≤ 127 → read bytes ≡ Some value) → mark_of (mark_value m) ≡ Ok m → mark_of_text (mark_text m) ≡ Ok m
unfolding mark_of_text
mark_reads bytes value m is text utf8 reads again = rw (← text, object_again bytes value _ is utf8 reads (mark_plain m) (mark_is_object m)) again
