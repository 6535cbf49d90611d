-- What is read of a section stands in it, and what stands in it is read.
use Rattle.std.proofs.Common.{◌≡◌, ℕ, ℤ, pos, ◌<◌, ◌^◌, List, [], true, ltb, Option, Some, Ok, inl, inr, refl, ap, ltb-true, lt-ltb, codes}
use Rattle.std.specs.Option.{ok_or}
use Rattle.std.proofs.lemmas.Bool.{and_parts}
use Rattle.std.proofs.lemmas.Float.{T_from_true}
use Rattle.base.specs.Reading.{◌>>=◌, ◌>>◌, unless}
use Rattle.base.proofs.Bound.{OfValue, of_ok, of_err, of_weaker, of_bind, of_then, of_unless}
use Rattle.serde_json.specs.Data.{Data, object}
use Rattle.serde_json.specs.Find.{as_object}
use Rattle.block_meta.specs.declared.refusal.MetaRefusal.{MetaRefusal}
use Rattle.block_meta.specs.declared.times.Times.{Times}
use Rattle.block_meta.specs.Lawful.{AreLawfulTimes, are_lawful_times, ascending}
use Rattle.block_meta.specs.Members.{Read, needed_of, section_from, section_of, of_kind, signed_of, whole_of, or_absent, list_of, text_of, ulid_of}
use Rattle.block_meta.specs.MetaFields.{no_thanos}
use Rattle.block_meta.specs.MetaReading.{times_of, stats_members_of, stats_of, level_of, sources_of, parent_of, compaction_members_of, compaction_of, labels_of, resolution_of, file_of, thanos_members_of, thanos_of}
use Rattle.block_meta.specs.MetaText.{Has, HasOr, IsUlid, IsUnsigned, IsSigned, IsWhole, IsText, IsObject, IsList, AreSources, IsParent, IsFile, AreLabels, AreStats, IsCompaction, IsDownsample, IsThanos}
use Rattle.block_meta.proofs.AscendingOnce.{ascending_rises, ascending_same, ascending_only}
use Rattle.block_meta.proofs.Rising.{lawful_passes}
use Rattle.block_meta.proofs.Found.{IsReadAs, step, needed_by, optional_by, members_found, is_object_only, needed, optional, text, unsigned_number, signed_number, whole_number, ulid_text, version, counted, optional_text, listed}
use Rattle.block_meta.proofs.FoundLabels.{labels_read}

-- ---- a section, that may be absent or has to be there

-- a way to read an object, and what it reads
pub record IsSection {A : Type 0} (read : Data → Read A) (Is : Data → A → Type 0) : Type 0 where
  pub found : (value : Data) → IsObject value → OfValue (read value) (Is value)
  pub only : {value : Data} {x : A} → Is value x → read value ≡ Ok x
  pub is_object : {value : Data} {x : A} → Is value x → IsObject value

in_section : {A : Type 0} {P : A → Type 0} (name : List ℕ) (next : Option Data → Read A) (value : Data) → (IsObject value → OfValue (next (Some value)) P) → OfValue (section_from name (Some value) >>= next) P
in_section _ _ (object ms) h = h (ms, refl)
in_section _ _ _ h = of_err

module _ {A : Type 0} {Is : Data → A → Type 0} (name : List ℕ) (next : Option Data → Read A) (r : IsSection (λ value. next (Some value)) Is) where
  as_section : IsReadAs (λ value. section_from name (Some value) >>= next) Is
  as_section = record {
    found = λ value. in_section name next value (r.found value);
    only = λ is. rw (is_object_only _ (r.is_object is)) (r.only is);
  }

module _ {A : Type 0} {read : Data → Read A} {Is : Data → A → Type 0} (name : List ℕ) (r : IsSection read Is) where
  section : (default : A) → IsReadAs (λ within. section_of name within >>= or_absent default read) (HasOr default Is name)
  unfolding section_of
  section default = optional_by name (λ o. section_from name o >>= or_absent default read) (as_section name (or_absent default read) r) refl

  needed_section : (missing : MetaRefusal) → IsReadAs (λ within. section_of name within >>= λ found. ok_or found missing >>= read) (Has Is name)
  unfolding section_of
  needed_section missing =
      let next = λ (found : Option Data). ok_or found missing >>= read in
      needed_by name (λ o. section_from name o >>= next) (as_section name next r) refl

-- ---- times

lawful_found : (min max : ℤ) → are_lawful_times min max ≡ true → AreLawfulTimes min max
unfolding are_lawful_times
lawful_found _ _ e =
    let p = and_parts _ _ e in
    let q = and_parts _ _ p.0 in
    record { early = record { le = T_from_true _ q.0 }; ascend = record { lt = T_from_true _ q.1 }; late = record { le = T_from_true _ p.1 } }

-- the two times of a meta
pub record HasTimes (value : Data) (times : Times) : Type 0 where
  pub min_time : Has IsWhole (codes "minTime") value times.min
  pub max_time : Has IsWhole (codes "maxTime") value times.max
  pub lawful : AreLawfulTimes times.min times.max

whole : (name : List ℕ) → IsReadAs (λ value. needed_of name value >>= whole_of name) (Has IsWhole name)
whole _ = needed _ (whole_number _)

pub times_read : IsReadAs times_of HasTimes
unfolding times_of
times_read = record {
  found = λ _.
      step (whole (codes "minTime")) (λ min a. step (whole _) (λ max b.
      of_unless (are_lawful_times min max) _ _ (λ c. of_ok (record { min_time = a; max_time = b; lawful = lawful_found _ _ c }))));
  only = λ has. rw ((whole _).only has.min_time, (whole _).only has.max_time, lawful_passes _ _ has.lawful) refl;
}

-- ---- stats

pub stats_read : IsReadAs stats_of (Has AreStats (codes "stats"))
unfolding stats_of stats_members_of
stats_read = needed_section _ (record {
  found = λ _ is.
      step (counted _) (λ series a. step (counted _) (λ samples b. step (counted _) (λ chunks c.
      of_ok (record { is_object = is; series = a; samples = b; chunks = c }))));
  only = λ are. rw ((counted _).only are.series, (counted _).only are.samples, (counted _).only are.chunks) refl;
  is_object = λ are. are.is_object;
}) _

-- ---- compaction

-- a number below a limit
pub below : {read : Data → Read ℕ} {Is : Data → ℕ → Type 0} (limit : ℕ) (e : MetaRefusal) → IsReadAs read Is → IsReadAs (λ value. read value >>= λ n. unless (ltb n limit) e >> Ok n) (λ value n. Is value n × (n < limit))
below limit _ r = record {
  found = λ value. step r (λ n has. of_unless (ltb n limit) _ _ (λ test. of_ok (has, ltb-true _ _ test)));
  only = λ has. rw (r.only has.0, lt-ltb _ _ has.1) refl;
}

level : IsReadAs level_of (λ value n. Has IsUnsigned (codes "level") value n × (n < 2 ^ 32))
unfolding level_of
level = below _ _ (needed _ (unsigned_number _))

ulids : IsReadAs (list_of ulid_of (codes "sources")) (HasOr [] (IsList IsUlid) (codes "sources"))
ulids = listed _ _ (ulid_text _)

sources_at : (value : Data) (listed : List ℕ) → HasOr [] (IsList IsUlid) (codes "sources") value listed → HasOr [] AreSources (codes "sources") value (ascending listed)
sources_at _ _ (inl (lacks, none)) = inl (lacks, ap ascending none)
sources_at _ listed (inr has) = inr (has.0, has.1, record { listed = listed; are = has.2; same = ascending_same _; ascend = ascending_rises listed })

sources_only : (value : Data) (sources : List ℕ) → HasOr [] AreSources (codes "sources") value sources → sources_of value ≡ Ok sources
unfolding sources_of
sources_only _ _ (inl (lacks, none)) = rw (ulids.only (inl (lacks, refl)), none) refl
sources_only _ _ (inr has) = let are = has.2 in rw (ulids.only (inr (has.0, has.1, are.are)), ascending_only are.listed _ are.ascend are.same) refl

sources : IsReadAs sources_of (HasOr [] AreSources (codes "sources"))
unfolding sources_of
sources = record { found = λ value. step ulids (λ listed has. of_ok (sources_at value _ has)); only = λ has. sources_only _ _ has }

signed : (name : List ℕ) → IsReadAs (λ value. needed_of name value >>= signed_of name) (Has IsSigned name)
signed _ = needed _ (signed_number _)

pub named : (name : List ℕ) → IsReadAs (λ value. needed_of name value >>= ulid_of name) (Has IsUlid name)
named _ = needed _ (ulid_text _)

parents : IsReadAs (list_of parent_of (codes "parents")) (HasOr [] (IsList IsParent) (codes "parents"))
unfolding parent_of of_kind
parents = listed _ _ (record {
  found = λ value.
      of_bind _ (members_found (codes "parents") value) (λ members is. step (named _) (λ ulid u.
      step (signed _) (λ min a. step (signed _) (λ max b.
      of_ok (record { is_object = (members, is); ulid = u; min_time = a; max_time = b })))));
  only = λ is. rw (ap as_object is.is_object.1, (named _).only is.ulid, (signed _).only is.min_time, (signed _).only is.max_time) refl;
})

pub compaction_read : IsReadAs compaction_of (Has IsCompaction (codes "compaction"))
unfolding compaction_of compaction_members_of
compaction_read = needed_section _ (record {
  found = λ _ is.
      step level (λ level l. step sources (λ sources s. step parents (λ parents p.
      of_ok (record { is_object = is; level = l.0; fits = l.1; sources = s; parents = p }))));
  only = λ is. rw (level.only (is.level, is.fits), sources.only is.sources, parents.only is.parents) refl;
  is_object = λ is. is.is_object;
}) _

-- ---- what the system adds

files : IsReadAs (list_of file_of (codes "files")) (HasOr [] (IsList IsFile) (codes "files"))
unfolding file_of of_kind
files = listed file_of _ (record {
  found = λ value.
      of_bind _ (members_found (codes "files") value) (λ members is.
      step (needed _ (text _)) (λ path p. step (counted _) (λ bytes b.
      of_ok (record { is_object = (members, is); path = p; bytes = b }))));
  only = λ is. rw (ap as_object is.is_object.1, (needed _ (text (codes "rel_path"))).only is.path, (counted _).only is.bytes) refl;
})

labels : IsReadAs labels_of (HasOr [] AreLabels (codes "labels"))
unfolding labels_of
labels = optional _ labels_read _

resolution : IsReadAs resolution_of (HasOr (pos 0) IsDownsample (codes "downsample"))
unfolding resolution_of
resolution =
    let member = optional (codes "resolution") (signed_number (codes "resolution")) (pos 0) in
    section _ (record {
      found = λ value is. of_weaker (λ time has. record { is_object = is; resolution = has }) (member.found value);
      only = λ is. member.only is.resolution;
      is_object = λ is. is.is_object;
    }) _

segment_files : IsReadAs (list_of text_of (codes "segment_files")) (HasOr [] (IsList IsText) (codes "segment_files"))
segment_files = listed _ _ (text _)

pub thanos_read : IsReadAs thanos_of (HasOr no_thanos IsThanos (codes "thanos"))
unfolding thanos_of thanos_members_of
thanos_read = section _ (record {
  found = λ value is.
      of_then _ ((optional _ version tt).found value) (λ _ v. step labels (λ labels l.
      step resolution (λ time r. step (optional_text _) (λ source s.
      step segment_files (λ segments g. step files (λ sizes f.
      of_ok (record { is_object = is; version = v; labels = l; resolution = r; source = s; segment_files = g; files = f })))))));
  only = λ is.
      rw (
        (optional _ version tt).only is.version,
        labels.only is.labels,
        resolution.only is.resolution,
        (optional_text _).only is.source,
        segment_files.only is.segment_files,
        files.only is.files,
      ) refl;
  is_object = λ is. is.is_object;
}) _
