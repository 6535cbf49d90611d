-- What is written has no float and nests a few levels deep.
use Rattle.std.proofs.Common.{◌≡◌, ℕ, ℤ, pos, negsuc, ◌≤◌, List, [], ◌∷◌, true, false, is_some, refl, arith}
use Rattle.serde_json.specs.Data.{Data, string, depth, items_depth, members_depth}
use Rattle.serde_json.specs.Find.{of_integer, is_float, as_object}
use Rattle.serde_json.specs.Written.{has_float, items_have_float, members_have_float}
use Rattle.label_sets.specs.declared.label.Label.{Label}
use Rattle.block_meta.specs.declared.parent.Parent.{Parent}
use Rattle.block_meta.specs.declared.file_size.FileSize.{FileSize}
use Rattle.block_meta.specs.MetaFields.{MetaFields, MarkFields}
use Rattle.block_meta.specs.MetaValue.{ulid_value, parent_value, file_value, items_value, compaction_value, stats_value, thanos_value, meta_value, mark_value, label_members}

-- no float stands in it, and no more levels
abbrev pub IsPlain : ℕ → Data → Type 0
IsPlain n value = (has_float value ≡ false) × (depth value ≤ n)

no_float : (z : ℤ) → is_float (of_integer z) ≡ false
no_float (pos n) = refl
no_float (negsuc n) = refl

items_plain : {A : Type 0} (n : ℕ) (one : A → Data) → ((x : A) → IsPlain n (one x)) → (xs : List A) → (items_have_float (items_value one xs) ≡ false) × (items_depth (items_value one xs) ≤ n)
unfolding items_value
items_plain _ _ plain [] = (refl, omega arith)
items_plain n one plain (x ∷ xs) = let p = plain x in let q = items_plain n one plain xs in (rw (p.0, q.0) refl, omega (arith, p.1, q.1))

parent_plain : (p : Parent) → IsPlain 1 (parent_value p)
unfolding parent_value ulid_value
parent_plain p = (rw (no_float, no_float) refl, omega arith)

file_plain : (f : FileSize) → IsPlain 1 (file_value f)
unfolding file_value
file_plain f = (refl, omega arith)

ulid_plain : (u : ℕ) → IsPlain 0 (ulid_value u)
unfolding ulid_value
ulid_plain u = (refl, omega arith)

labels_plain : (labels : List Label) → (members_have_float (label_members labels) ≡ false) × (members_depth (label_members labels) ≤ 0)
unfolding label_members
labels_plain [] = (refl, omega arith)
labels_plain (l ∷ ls) = let p = labels_plain ls in (p.0, omega (arith, p.1))

compaction_plain : (level : ℕ) (sources : List ℕ) (parents : List Parent) → IsPlain 4 (compaction_value level sources parents)
unfolding compaction_value
compaction_plain _ sources [] = let s = items_plain 0 ulid_value ulid_plain sources in (rw s.0 refl, omega (arith, s.1))
compaction_plain _ sources (p ∷ ps) =
    let s = items_plain 0 ulid_value ulid_plain sources in
    let ps = items_plain 1 parent_value parent_plain (p ∷ ps) in
    (rw (s.0, ps.0) refl, omega (arith, s.1, ps.1))

thanos_plain : (m : MetaFields) → IsPlain 4 (thanos_value m)
unfolding thanos_value
thanos_plain m =
    let f = items_plain 1 file_value file_plain m.files in
    let l = labels_plain m.labels in
    let s = items_plain 0 string (λ t. (refl, omega arith)) m.segment_files in
    (rw (no_float m.resolution, f.0, l.0, s.0) refl, omega (arith, f.1, l.1, s.1))

stats_plain : (series samples chunks : ℕ) → IsPlain 4 (stats_value series samples chunks)
unfolding stats_value
stats_plain _ _ _ = (refl, omega arith)

pub meta_plain : (m : MetaFields) → IsPlain 127 (meta_value m)
unfolding meta_value ulid_value
meta_plain m =
    let c = compaction_plain m.level m.sources m.parents in
    let s = stats_plain m.series m.samples m.chunks in
    let t = thanos_plain m in
    (rw (c.0, no_float, no_float, s.0, t.0) refl, omega (arith, c.1, s.1, t.1))

pub mark_plain : (m : MarkFields) → IsPlain 127 (mark_value m)
unfolding mark_value ulid_value
mark_plain m = (refl, omega arith)

pub meta_is_object : (m : MetaFields) → is_some (as_object (meta_value m)) ≡ true
unfolding meta_value
meta_is_object m = refl

pub mark_is_object : (m : MarkFields) → is_some (as_object (mark_value m)) ≡ true
unfolding mark_value
mark_is_object m = refl
