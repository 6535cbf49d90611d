-- The text of a deletion mark is read as that mark, where its numbers fit and its details are UTF-8.
use Rattle.std.proofs.Common.{◌≡◌, ℕ, ◌^◌, ◌<◌, List, Some, None, Ok, IsUtf8, rules, refl, sym, ap, ◌∙◌, arith, eqb}
use Rattle.std.specs.List.Sorted.{IsStrictlySortedBy}
use Rattle.std.proofs.lemmas.Bool.{eq-eqb, cond-true}
use Rattle.serde_json.specs.Written.{compact_text}
use Rattle.ulid_core.proofs.AsciiTexts.{IsUtf8-text_of}
use Rattle.ulid_core.proofs.UlidLaws.{IsUlidText-text_of}
use Rattle.base.proofs.Binds.{ok_is}
use Rattle.block_meta.specs.declared.refusal.MetaRefusal.{MetaRefusal}
use Rattle.block_meta.specs.MetaFields.{MarkFields}
use Rattle.block_meta.specs.MetaReading.{mark_of_text}
use Rattle.block_meta.specs.MetaText.{IsMarkText}
use Rattle.block_meta.specs.MetaValue.{ulid_value, mark_value, mark_text}
use Rattle.block_meta.specs.OfBlocks.{named_mark, block_mark}
use Rattle.block_meta.proofs.Again.{mark_again}
use Rattle.block_meta.proofs.FoundTexts.{mark_text_found, mark_text_only}
use Rattle.block_meta.proofs.Texts.{mark_reads}
use Rattle.block_meta.proofs.JsonAgain.{IsPlain, plain_read, plain_utf8}

ulid_plain : (u : ℕ) → IsPlain (ulid_value u)
unfolding ulid_value
ulid_plain u = IsUtf8-text_of u

mark_plain : (m : MarkFields) → m.deletion_time < 2 ^ 46 → IsUtf8 m.details → IsPlain (mark_value m)
unfolding mark_value IsStrictlySortedBy
mark_plain m early utf8 =
    let time : m.deletion_time < 2 ^ 64 = omega (arith, early) in
    let id : IsPlain (ulid_value m.id) = ulid_plain m.id in
    search rules

pub mark_read_again : (m : MarkFields) → m.id < 2 ^ 128 → m.deletion_time < 2 ^ 46 → IsUtf8 m.details → mark_of_text (mark_text m) ≡ Ok m
unfolding mark_text
mark_read_again m fits early utf8 =
    let plain : IsPlain (mark_value m) = mark_plain m early utf8 in
    mark_reads (compact_text (mark_value m)) (mark_value m) m refl refl (plain_utf8 (mark_value m) plain) (plain_read (mark_value m) plain)
    (mark_again m (IsUlidText-text_of m.id fits) early)

pub own_mark : (m : MarkFields) → m.id < 2 ^ 128 → m.deletion_time < 2 ^ 46 → IsUtf8 m.details → block_mark m.id (mark_text m) ≡ Some m
own_mark m fits early utf8 =
    ap (named_mark m.id) (mark_read_again m fits early utf8) ∙ cond-true (eqb m.id m.id) (Some m) None (eq-eqb m.id m.id refl)

pub mark_text_is : (m : MarkFields) → m.id < 2 ^ 128 → m.deletion_time < 2 ^ 46 → IsUtf8 m.details → IsMarkText (mark_text m) m
mark_text_is m fits early utf8 = (mark_text_found (mark_text m)).holds m (mark_read_again m fits early utf8)

pub one_mark : (bytes : List ℕ) (one other : MarkFields) → IsMarkText bytes one → IsMarkText bytes other → one ≡ other
one_mark bytes one other is so = ok_is {E = MetaRefusal} one other (sym (mark_text_only bytes one is) ∙ mark_text_only bytes other so)
