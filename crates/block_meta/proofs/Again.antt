-- What is written of a part reads as that part again.
use Rattle.std.proofs.Common.{◌≡◌, ℕ, ℤ, pos, negsuc, ◌<◌, ◌^◌, List, [], ◌∷◌, true, false, Some, is_some, ◌⊎◌, inl, inr, Ok, Err, FitsSigned, w64, refl, arith, lt-ltb, codes}
use Rattle.std.proofs.lemmas.Bool.Decides.{nat_tests}
use Rattle.ulid_core.specs.UlidText as ulid
use Rattle.ulid_core.proofs.UlidLaws.{ulid_of-only}
use Rattle.serde_json.specs.Data.{Data, string}
use Rattle.serde_json.specs.Find.{as_null, as_object, as_i64, as_integer, of_integer}
use Rattle.block_meta.specs.declared.parent.Parent.{Parent}
use Rattle.block_meta.specs.declared.file_size.FileSize.{FileSize}
use Rattle.block_meta.specs.declared.refusal.MetaRefusal.{MetaRefusal}
use Rattle.block_meta.specs.declared.refusal.MetaRefusal.TheVariants.{NoMemory}
use Rattle.label_sets.specs.declared.label.Label.{Label}
use Rattle.block_meta.specs.Members.{member_of, needed_of, of_kind, signed_of, unsigned_of, text_of, ulid_of, count_of, list_of, each, section_of, version_of, whole_of, or_absent}
use Rattle.block_meta.specs.Lawful.{ascending, are_lawful_times}
use Rattle.block_meta.specs.MetaFields.{MetaFields, MarkFields, thanos_part}
use Rattle.block_meta.specs.MetaReading.{parent_of, file_of, compaction_members_of, compaction_of, level_of, sources_of, stats_members_of, stats_of, thanos_members_of, thanos_of, labels_of, labels_from, resolution_of, text_or_empty, times_of, meta_of, mark_of, deletion_time_of}
use Rattle.block_meta.specs.MetaValue.{ulid_value, signed_value, parent_value, file_value, items_value, compaction_value, stats_value, thanos_value, meta_value, mark_value, label_members}
use Rattle.block_meta.proofs.Lists.{each_again}

pub ulid_again : (name : List ℕ) (u : ℕ) → ulid.IsUlidText (ulid.text_of u) u → ulid_of name (ulid_value u) ≡ Ok u
unfolding ulid_of text_of of_kind ulid_value
ulid_again _ u written = rw (ulid_of-only (ulid.text_of u) u written) refl

as_i64-of_integer : (z : ℤ) → FitsSigned w64 z → as_i64 (of_integer z) ≡ Some z
as_i64-of_integer (pos n) fits = let lt : n < 2 ^ 63 = omega arith in grind (arith, nat_tests)
as_i64-of_integer (negsuc n) fits = refl

pub signed_again : (name : List ℕ) (z : ℤ) → FitsSigned w64 z → signed_of name (signed_value z) ≡ Ok z
unfolding signed_of of_kind
signed_again _ z fits = rw (as_i64-of_integer z fits) refl

pub parent_again : (list : List ℕ) (p : Parent) → ulid.IsUlidText (ulid.text_of p.ulid) p.ulid → FitsSigned w64 p.min_time → FitsSigned w64 p.max_time → parent_of list (parent_value p) ≡ Ok p
unfolding parent_of parent_value needed_of member_of of_kind ulid_value
parent_again _ p written min max = rw (ulid_again, signed_again, signed_again) refl

pub file_again : (list : List ℕ) (f : FileSize) → file_of list (file_value f) ≡ Ok f
unfolding file_of file_value needed_of member_of of_kind text_of count_of unsigned_of
file_again _ f = refl

-- ---- sections

pub compaction_again : (level : ℕ) (sources : List ℕ) (parents : List Parent) → level < 2 ^ 32 → each (ulid_of (codes "sources")) (items_value ulid_value sources) ≡ Ok sources → each (parent_of (codes "parents")) (items_value parent_value parents) ≡ Ok parents → compaction_members_of (compaction_value level sources parents) ≡ Ok (record { level = level; sources = ascending sources; parents = parents })
unfolding compaction_members_of compaction_value level_of sources_of list_of needed_of member_of of_kind unsigned_of
compaction_again _ _ [] fits listed before = rw (lt-ltb _ _ fits, listed) refl
compaction_again _ _ (p ∷ ps) fits listed before = rw (lt-ltb _ _ fits, listed, before) refl

pub compaction_again_alone : (level : ℕ) (sources : List ℕ) (parents : List Parent) → level < 2 ^ 32 → each (ulid_of (codes "sources")) (items_value ulid_value sources) ≡ Ok sources → parents ≡ [] → compaction_members_of (compaction_value level sources parents) ≡ Ok (record { level = level; sources = ascending sources; parents = parents })
unfolding each items_value
compaction_again_alone _ _ _ fits listed none = rw none (compaction_again _ _ _ fits listed refl)

pub thanos_written : (m : MetaFields) → FitsSigned w64 m.resolution → labels_from [] (label_members m.labels) ≡ Ok m.labels → thanos_members_of (thanos_value m) ≡ Ok (thanos_part m)
unfolding thanos_members_of thanos_value labels_of resolution_of text_or_empty list_of section_of member_of of_kind version_of text_of
thanos_written m fits labels =
    rw (
      labels,
      signed_again (codes "resolution") m.resolution fits,
      each_again string (text_of (codes "segment_files")) m.segment_files (λ k d lt. refl),
      each_again file_value (file_of (codes "files")) m.files (λ k d lt. file_again _ _),
    ) refl

as_integer-of_integer : (z : ℤ) → as_integer (of_integer z) ≡ Some z
as_integer-of_integer (pos n) = refl
as_integer-of_integer (negsuc n) = refl

whole_again : (name : List ℕ) (z : ℤ) → whole_of name (signed_value z) ≡ Ok z
unfolding whole_of of_kind
whole_again _ z = rw (as_integer-of_integer) refl

times_again : (m : MetaFields) → are_lawful_times m.min_time m.max_time ≡ true → times_of (meta_value m) ≡ Ok (record { min = m.min_time; max = m.max_time })
unfolding times_of meta_value needed_of member_of
times_again m lawful = rw (whole_again, whole_again, lawful) refl

stats_there : (m : MetaFields) → stats_of (meta_value m) ≡ Ok (record { series = m.series; samples = m.samples; chunks = m.chunks })
unfolding stats_of meta_value section_of member_of stats_value stats_members_of count_of of_kind unsigned_of
stats_there m = refl

compaction_is_object : (level : ℕ) (sources : List ℕ) (parents : List Parent) → (is_some (as_null (compaction_value level sources parents)) ≡ false) × (is_some (as_object (compaction_value level sources parents)) ≡ true)
unfolding compaction_value
compaction_is_object _ _ [] = (refl, refl)
compaction_is_object _ _ _ = (refl, refl)

compaction_there : (m : MetaFields) → compaction_of (meta_value m) ≡ compaction_members_of (compaction_value m.level m.sources m.parents)
unfolding compaction_of meta_value section_of member_of
compaction_there m = let is = compaction_is_object m.level m.sources m.parents in rw (is.0, is.1) refl

thanos_there : (m : MetaFields) → thanos_of (meta_value m) ≡ thanos_members_of (thanos_value m)
unfolding thanos_of meta_value section_of member_of thanos_value
thanos_there m = refl

pub meta_again : (m : MetaFields) → ulid.IsUlidText (ulid.text_of m.ulid) m.ulid → are_lawful_times m.min_time m.max_time ≡ true → ascending m.sources ≡ m.sources
    → compaction_members_of (compaction_value m.level m.sources m.parents) ≡ Ok (record { level = m.level; sources = ascending m.sources; parents = m.parents })
    → thanos_members_of (thanos_value m) ≡ Ok (thanos_part m)
    → meta_of (meta_value m) ≡ Ok m
unfolding meta_of meta_value needed_of member_of version_of ulid_value
meta_again m written lawful rising compaction thanos =
    rw (ulid_again, times_again, stats_there, compaction_there, compaction, thanos_there, thanos, rising) refl

pub mark_again : (m : MarkFields) → ulid.IsUlidText (ulid.text_of m.id) m.id → m.deletion_time < 2 ^ 46 → mark_of (mark_value m) ≡ Ok m
unfolding mark_of mark_value needed_of member_of version_of ulid_value deletion_time_of unsigned_of of_kind text_or_empty text_of
mark_again _ written early = rw (ulid_again, lt-ltb _ _ early) refl

-- ---- reading the members of `thanos`

module _ (t : Data) (labels : List Label) (resolution : ℤ) (source : List ℕ) (segments : List (List ℕ)) (v : or_absent tt version_of (member_of (codes "version") t) ≡ Ok tt) (l : labels_of t ≡ Ok labels) (r : resolution_of t ≡ Ok resolution) (s : text_or_empty (codes "source") t ≡ Ok source) (g : list_of text_of (codes "segment_files") t ≡ Ok segments) where
  pub thanos_read : (files : List FileSize) → list_of file_of (codes "files") t ≡ Ok files → thanos_members_of t ≡ Ok (record { labels = labels; resolution = resolution; source = source; segment_files = segments; files = files })
  unfolding thanos_members_of
  thanos_read _ f = rw (v, l, r, s, g, f) refl

  pub thanos_files_refused : (e : MetaRefusal) → (e ≡ NoMemory) ⊎ (list_of file_of (codes "files") t ≡ Err e) → (e ≡ NoMemory) ⊎ (thanos_members_of t ≡ Err e)
  unfolding thanos_members_of
  thanos_files_refused _ (inl memory) = inl memory
  thanos_files_refused _ (inr f) = inr (rw (v, l, r, s, g, f) refl)
