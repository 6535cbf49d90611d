-- What the rules of time on puts refuse.
use Rattle.std.proofs.Common.{◌≡◌, ◌⊎◌, ℕ, ◌+◌, ◌*◌, Bool, false, List, Option, Some, None, Result, Ok, refl, sym, ◌∙◌, ap, subst}
use Rattle.std.specs.Prelude.{IfSome, IsTrue, is_some, not}
use Rattle.std.specs.Result.{result_ok}
use Rattle.ulid_core.specs.Times.{time_of}
use Rattle.block_keys.specs.Keys.{key_ulid}
use Rattle.block_keys.specs.declared.key.Key.{Key}
use Rattle.block_keys.specs.declared.key.Key.TheVariants.{Mark}
use Rattle.block_meta.specs.declared.refusal.MetaRefusal.{MetaRefusal}
use Rattle.block_meta.specs.MetaFields.{MarkFields}
use Rattle.block_meta.specs.MetaReading.{mark_of_text}
use Rattle.block_meta.specs.MetaText.{IsMarkText}
use Rattle.block_meta.proofs.FoundTexts.{mark_text_only}
use Rattle.moment_core.specs.declared.rules.Rules.{Rules}
use Rattle.world_core.specs.Standing.{has_landed}
use Rattle.world_core.specs.declared.entry.Entry.{Entry}
use Rattle.world_core.specs.declared.op.Op.TheVariants.{Put}
use Rattle.lifecycle_core.specs.Breaches.{IsOver, Refuses, mark_time, upload_time}
use Rattle.lifecycle_core.specs.Setting.{Setting}
use Rattle.lifecycle_core.specs.TimeRules.{IsBlockObject}
use Rattle.breach_finding.specs.Told.{IsLateMark, IsTold}

-- the block's time does not fit the moment
abbrev Untimely : Key → ℕ → ℕ → ℕ → ℕ → Type 0
Untimely key moment limit x y = IsOver (time_of (key_ulid key)) moment x y ⊎ IsOver moment (time_of (key_ulid key) + limit) x y

module _ (setting : Setting) (journal before : List Entry) (rules : Rules) (e : Entry) (key : Key) (bytes : List ℕ) (same : setting.script.rules ≡ rules) (is : e.op ≡ Put key bytes) where
  of_put : (x y : ℕ) → IsBlockObject key × Untimely key e.moment.ms rules.upload.ms x y → Refuses setting journal upload_time before e x y
  of_put x y (object, late) = (
    key_ulid key,
    (key, bytes, is, refl, object),
    subst (λ (r : Rules). Untimely key e.moment.ms r.upload.ms x y) (sym same) late,
  )

  to_put : (x y : ℕ) → Refuses setting journal upload_time before e x y → IsBlockObject key × Untimely key e.moment.ms rules.upload.ms x y
  to_put x y (ulid, (other, text, put, own, object), late) =
      let one : other ≡ key = cc (put, is) in (
        subst IsBlockObject one object,
        subst (λ (r : Rules). Untimely key e.moment.ms r.upload.ms x y) same
            (subst (λ (k : Key). Untimely k e.moment.ms setting.script.rules.upload.ms x y) one
            (subst (λ (u : ℕ). IsOver (time_of u) e.moment.ms x y ⊎ IsOver e.moment.ms (time_of u + setting.script.rules.upload.ms) x y) (sym own) late)),
      )

  pub upload_told : (told : Option (ℕ × ℕ)) → IsTold (λ x y. IsBlockObject key × Untimely key e.moment.ms rules.upload.ms x y) told → IsTold (Refuses setting journal upload_time before e) told
  upload_told None none = λ x y refuses. none x y (to_put x y refuses)
  upload_told (Some (x, y)) late = of_put x y late

-- bytes that are read as no mark are no mark's
pub no_mark : (bytes : List ℕ) → None ≡ result_ok (mark_of_text bytes) → (mark : MarkFields) → ¬ IsMarkText bytes mark
no_mark bytes none mark text = cc (none, ap result_ok (mark_text_only bytes mark text))

-- of an object that is no mark
pub object_told : (key : Key) (ulid moment limit : ℕ) (told : Option (ℕ × ℕ)) → IsBlockObject key → ulid ≡ key_ulid key
    → IsTold (λ x y. IsOver (time_of ulid) moment x y ⊎ IsOver moment (time_of ulid + limit) x y) told → IsTold (λ x y. IsBlockObject key × Untimely key moment limit x y) told
object_told key ulid moment limit None object own none = λ x y late. none x y (subst (λ (u : ℕ). IsOver (time_of u) moment x y ⊎ IsOver moment (time_of u + limit) x y) (sym own) late.1)
object_told key ulid moment limit (Some (x, y)) object own late = (object, subst (λ (u : ℕ). IsOver (time_of u) moment x y ⊎ IsOver moment (time_of u + limit) x y) own late)

-- ---- marks

one_second : (bytes : List ℕ) (mark other : MarkFields) → IsMarkText bytes mark → IsMarkText bytes other → other.deletion_time ≡ mark.deletion_time
one_second bytes mark other is also = let same : other ≡ mark = one_mark (mark_of_text bytes) (mark_text_only bytes mark is) (mark_text_only bytes other also) in ap (λ (m : MarkFields). m.deletion_time) same
  where
    one_mark : (r : Result MarkFields MetaRefusal) → r ≡ Ok mark → r ≡ Ok other → other ≡ mark
    one_mark r is also = cc (is, also)

module _ (setting : Setting) (journal before : List Entry) (rules : Rules) (e : Entry) (ulid : ℕ) (bytes : List ℕ) (same : setting.script.rules ≡ rules) (is : e.op ≡ Put (Mark ulid) bytes) where
  of_mark : IsTrue (has_landed e.reply) → (x y : ℕ) → IsLateMark bytes e.moment.ms rules.ignore.ms x y → Refuses setting journal mark_time before e x y
  of_mark landed x y (mark, text, late) = (
    ulid,
    mark.deletion_time,
    (bytes, mark, is, landed, text, refl),
    subst (λ (r : Rules). IsOver e.moment.ms (1000 * mark.deletion_time + r.ignore.ms) x y) (sym same) late,
  )

  to_mark : (x y : ℕ) → Refuses setting journal mark_time before e x y → IsLateMark bytes e.moment.ms rules.ignore.ms x y
  to_mark x y (own, second, (text, mark, put, landed, reads, told), late) =
      let one : text ≡ bytes = cc (put, is) in (
        mark,
        subst (λ (t : List ℕ). IsMarkText t mark) one reads,
        subst (λ (r : Rules). IsOver e.moment.ms (1000 * mark.deletion_time + r.ignore.ms) x y) same (subst (λ (s : ℕ). IsOver e.moment.ms (1000 * s + setting.script.rules.ignore.ms) x y) (sym told) late),
      )

  pub mark_told : IsTrue (has_landed e.reply) → (told : Option (ℕ × ℕ)) → IsTold (IsLateMark bytes e.moment.ms rules.ignore.ms) told → IsTold (Refuses setting journal mark_time before e) told
  mark_told landed None none = λ x y refuses. none x y (to_mark x y refuses)
  mark_told landed (Some (x, y)) late = of_mark landed x y late

-- a key that was found to be a mark's
pub some_mark : (key : Key) (o : Option ℕ) (b : Bool) → is_some o ≡ not b → b ≡ false → IfSome o (λ ulid. key ≡ Mark ulid) → (ulid : ℕ) × (key ≡ Mark ulid)
some_mark key None b is other mark = cc (is, ap not other)
some_mark key (Some ulid) b is other mark = (ulid, mark)
