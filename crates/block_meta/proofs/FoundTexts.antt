-- What is read of a text is the meta or the mark that it says, and such a text is read.
use Rattle.std.proofs.Common.{◌≡◌, ℕ, ◌<◌, ◌^◌, List, Bool, true, false, cond, Some, is_some, Ok, Err, refl, codes}
use Rattle.std.specs.Option.{ok_or}
use Rattle.std.specs.Str.{IsUtf8, is_utf8}
use Rattle.std.proofs.lemmas.Str.{IsUtf8-from_is_utf8}
use Rattle.base.specs.Reading.{◌>>=◌}
use Rattle.base.proofs.Bound.{OfValue, of_ok, of_err, of_weaker, of_bind, of_then, of_unless}
use Rattle.serde_json.specs.Data.{Data}
use Rattle.serde_json.specs.Read.{read}
use Rattle.serde_json.specs.Find.{as_object}
use Rattle.block_meta.specs.declared.refusal.MetaRefusal.TheVariants.{NotJson}
use Rattle.block_meta.specs.Members.{Read, json_of, object_of}
use Rattle.block_meta.specs.MetaFields.{MetaFields, MarkFields}
use Rattle.block_meta.specs.MetaReading.{meta_of, meta_of_text, deletion_time_of, mark_of, mark_of_text}
use Rattle.block_meta.specs.MetaText.{Has, IsUnsigned, IsMeta, IsMetaText, IsMark, IsMarkText}
use Rattle.block_meta.proofs.Found.{IsReadAs, step, needed, some_found, unsigned_number, version, optional_text, is_object_found, is_object_only}
use Rattle.block_meta.proofs.Texts.{json_read}
use Rattle.block_meta.proofs.FoundSections.{IsSection, HasTimes, below, named, times_read, stats_read, compaction_read, thanos_read}

-- ---- the text

json_found : (text : List ℕ) (b : Bool) → is_utf8 text ≡ b → OfValue (cond b (ok_or (read text) NotJson) (Err NotJson)) (λ value. IsUtf8 text × (read text ≡ Some value))
json_found _ true e = of_weaker (λ value reads. (IsUtf8-from_is_utf8 _ e, reads)) (some_found _ _)
json_found _ false e = of_err

-- the text is that of a JSON object, of which more is read
module _ {A : Type 0} {next : Data → Read A} {Is : Data → A → Type 0} (r : IsSection next Is) where
  object_found : (text : List ℕ) → OfValue (object_of text >>= next) (λ x. (value : Data) × IsUtf8 text × (read text ≡ Some value) × Is value x)
  unfolding object_of json_of
  object_found text =
      of_bind next (of_bind _ (json_found text _ refl) (λ value j. of_unless (is_some (as_object value)) _ _ (λ o. of_ok {P = λ v. IsUtf8 text × (read text ≡ Some v) × (is_some (as_object v) ≡ true)} (j.0, j.1, o))))
      (λ value j. of_weaker (λ x is. (value, j.0, j.1, is)) (r.found value (is_object_found value j.2)))

  object_only : (text : List ℕ) (value : Data) (x : A) → IsUtf8 text → read text ≡ Some value → Is value x → (object_of text >>= next) ≡ Ok x
  unfolding object_of
  object_only text value _ utf8 reads is = rw (json_read text value utf8 reads, is_object_only _ (r.is_object is)) (r.only is)

-- ---- metas

meta_read : IsSection meta_of IsMeta
unfolding meta_of
meta_read = record {
  found = λ value is.
      of_then _ ((needed (codes "version") version).found value) (λ _ v.
      step (named (codes "ulid")) (λ ulid u. step times_read (λ times t.
      step stats_read (λ stats s. step compaction_read (λ compaction c.
      step thanos_read (λ thanos h.
      of_ok (record { is_object = is; version = v; ulid = u; min_time = t.min_time; max_time = t.max_time; times = t.lawful; stats = s; compaction = c; thanos = h })))))));
  only = λ {value} {x = meta} is.
      let times : HasTimes value (record { min = meta.min_time; max = meta.max_time }) = record { min_time = is.min_time; max_time = is.max_time; lawful = is.times } in
      rw (
        (needed _ version).only is.version,
        (named _).only is.ulid,
        times_read.only times,
        stats_read.only is.stats,
        compaction_read.only is.compaction,
        thanos_read.only is.thanos,
      ) refl;
  is_object = λ is. is.is_object;
}

pub meta_text_found : (text : List ℕ) → OfValue (meta_of_text text) (IsMetaText text)
unfolding meta_of_text
meta_text_found _ = of_weaker (λ meta h. record { utf8 = h.1; value = h.0; reads = h.2; is = h.3 }) (object_found meta_read _)

pub meta_text_only : (text : List ℕ) (meta : MetaFields) → IsMetaText text meta → meta_of_text text ≡ Ok meta
unfolding meta_of_text
meta_text_only _ _ is = object_only meta_read _ _ _ is.utf8 is.reads is.is

-- ---- deletion marks

seconds : IsReadAs deletion_time_of (λ value n. Has IsUnsigned (codes "deletion_time") value n × (n < 2 ^ 46))
unfolding deletion_time_of
seconds = below _ _ (needed _ (unsigned_number _))

mark_read : IsSection mark_of IsMark
unfolding mark_of
mark_read = record {
  found = λ value is.
      of_then _ ((needed (codes "version") version).found value) (λ _ v. step (named _) (λ id u.
      step seconds (λ time t. step (optional_text _) (λ details d.
      of_ok (record { is_object = is; version = v; id = u; deletion_time = t.0; early = t.1; details = d })))));
  only = λ is.
      rw (
        (needed _ version).only is.version,
        (named _).only is.id,
        seconds.only (is.deletion_time, is.early),
        (optional_text _).only is.details,
      ) refl;
  is_object = λ is. is.is_object;
}

pub mark_text_found : (text : List ℕ) → OfValue (mark_of_text text) (IsMarkText text)
unfolding mark_of_text
mark_text_found _ = of_weaker (λ mark h. record { utf8 = h.1; value = h.0; reads = h.2; is = h.3 }) (object_found mark_read _)

pub mark_text_only : (text : List ℕ) (mark : MarkFields) → IsMarkText text mark → mark_of_text text ≡ Ok mark
unfolding mark_of_text
mark_text_only _ _ is = object_only mark_read _ _ _ is.utf8 is.reads is.is
