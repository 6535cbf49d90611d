-- The files of a block as a meta lists them, one by one, and their names.
use Rattle.std.proofs.Common.{◌≡◌, ℕ, ◌+◌, ◌<◌, ◌≤◌, List, [], ◌∷◌, ◌++◌, length, take, map, get_or, Result, Ok, Err, refl, sym, ap, subst, ◌∙◌, arith}
use Rattle.std.specs.Prelude.{IfOk, OnOk}
use Rattle.std.proofs.lemmas.List.{take_more, take_all, length-take-le, map-append}
use Rattle.label_sets.specs.declared.label.Label.{Label}
use Rattle.block_keys.specs.Blocks.{IsBlock}
use Rattle.block_meta.specs.Bounds.{HasFittingNumbers}
use Rattle.block_meta.specs.declared.meta.Meta.{Meta}
use Rattle.block_meta.specs.MetaFields.{MetaFields, fields_of}
use Rattle.block_meta.specs.Built.{segment_objects, objects_of}
use Rattle.block_meta.proofs.Blocks.{segments_pushed}
use Rattle.block_keys.specs.declared.key.Key.TheVariants as key
use Rattle.block_keys.specs.declared.object.Object.{Object}
use Rattle.block_keys.specs.KeyText.{six_digits}
use Rattle.block_meta.specs.declared.file_size.FileSize.{FileSize}
use Rattle.block_content.specs.Shipped.{size_of, segment_name, sizes_of, names_of, shipped_meta}

abbrev numbered : ℕ → ℕ → List ℕ → Object
numbered ulid number bytes = record { key = key.Segment ulid number; bytes = bytes }

objects_more : (ulid : ℕ) (segments : List (List ℕ)) (place number : ℕ) (segment d : List ℕ) → place < length segments → segment ≡ get_or segments place d → number ≡ place + 1
    → segment_objects ulid 1 (take (place + 1) segments) ≡ segment_objects ulid 1 (take place segments) ++ numbered ulid number segment ∷ []
objects_more ulid segments place number segment d lt at is =
    let count : length (take place segments) ≡ place = length-take-le place segments (omega (arith, lt)) in
    let next : number ≡ 1 + length (take place segments) = omega (arith, is, count) in
    ap (segment_objects ulid 1) (take_more segments place d lt ∙ ap (λ (b : List ℕ). take place segments ++ b ∷ []) (sym at)) ∙ segments_pushed ulid 1 (take place segments) segment number next

pub no_sizes : (ulid : ℕ) (segments : List (List ℕ)) → map size_of (segment_objects ulid 1 (take 0 segments)) ≡ []
unfolding segment_objects
no_sizes ulid segments = refl

pub sizes_more : (ulid : ℕ) (segments : List (List ℕ)) (place number : ℕ) (segment d : List ℕ) → place < length segments → segment ≡ get_or segments place d → number ≡ place + 1
    → map size_of (segment_objects ulid 1 (take (place + 1) segments)) ≡ map size_of (segment_objects ulid 1 (take place segments)) ++ size_of (numbered ulid number segment) ∷ []
sizes_more ulid segments place number segment d lt at is =
    ap (map size_of) (objects_more ulid segments place number segment d lt at is) ∙ map-append size_of (segment_objects ulid 1 (take place segments)) (numbered ulid number segment ∷ [])

pub all_sizes : (ulid : ℕ) (segments : List (List ℕ)) (index : List ℕ) (place : ℕ) (sizes more : List FileSize) (last : FileSize) → sizes ≡ map size_of (segment_objects ulid 1 (take place segments)) → length segments ≤ place
    → last ≡ size_of (record { key = key.Index ulid; bytes = index }) → more ≡ sizes ++ last ∷ [] → more ≡ sizes_of ulid segments index
unfolding sizes_of
all_sizes ulid segments index place sizes more last far le is pushed =
    let whole : sizes ≡ map size_of (segment_objects ulid 1 segments) = far ∙ ap (λ (xs : List (List ℕ)). map size_of (segment_objects ulid 1 xs)) (take_all place segments le) in
    pushed ∙ ap (λ (l : List FileSize). l ++ last ∷ []) whole ∙ ap (λ (x : FileSize). map size_of (segment_objects ulid 1 segments) ++ x ∷ []) is
    ∙ sym (map-append size_of (segment_objects ulid 1 segments) (record { key = key.Index ulid; bytes = index } ∷ []))

pub no_names : (ulid : ℕ) (segments : List (List ℕ)) → map segment_name (segment_objects ulid 1 (take 0 segments)) ≡ []
unfolding segment_objects
no_names ulid segments = refl

pub names_more : (ulid : ℕ) (segments : List (List ℕ)) (place number : ℕ) → place < length segments → number ≡ place + 1
    → map segment_name (segment_objects ulid 1 (take (place + 1) segments)) ≡ map segment_name (segment_objects ulid 1 (take place segments)) ++ six_digits number ∷ []
names_more ulid segments place number lt is =
    ap (map segment_name) (objects_more ulid segments place number (get_or segments place []) [] lt refl is) ∙ map-append segment_name (segment_objects ulid 1 (take place segments)) (numbered ulid number (get_or segments place []) ∷ [])

pub all_names : (ulid : ℕ) (segments : List (List ℕ)) (place : ℕ) (names : List (List ℕ)) → names ≡ map segment_name (segment_objects ulid 1 (take place segments)) → length segments ≤ place → names ≡ names_of ulid segments
unfolding names_of
all_names ulid segments place names far le = far ∙ ap (λ (xs : List (List ℕ)). map segment_name (segment_objects ulid 1 xs)) (take_all place segments le)

-- ---- the objects

pub shipped_ulid : (shipped meta : Meta) (segments : List (List ℕ)) (index : List ℕ) (external : List Label) → fields_of shipped ≡ shipped_meta meta segments index external → shipped.ulid ≡ meta.ulid
unfolding shipped_meta
shipped_ulid shipped meta segments index external e = ap (λ (f : MetaFields). f.ulid) e

pub moved_block : {E : Type 0} (r : Result (List Object) E) (u v : ℕ) → u ≡ v → IfOk r (IsBlock u) → IfOk r (IsBlock v)
moved_block r u v same is = subst (λ (n : ℕ). IfOk r (IsBlock n)) same is

pub moved_objects : {E : Type 0} (r : Result (List Object) E) (u v : ℕ) (s t : List (List ℕ)) (i j m n : List ℕ) → u ≡ v → s ≡ t → i ≡ j → m ≡ n → IfOk r (λ o. o ≡ objects_of u s i m) → IfOk r (λ o. o ≡ objects_of v t j n)
moved_objects (Ok o) u v s t i j m n eu es ei em is = is ∙ ap (λ (x : ℕ). objects_of x s i m) eu ∙ ap (λ (x : List (List ℕ)). objects_of v x i m) es ∙ ap (λ (x : List ℕ). objects_of v t x m) ei ∙ ap (objects_of v t j) em
moved_objects (Err e) u v s t i j m n eu es ei em is = tt

-- the numbers of a meta stay as it is shipped
pub moved_numbers : {A E : Type 0} (r : Result A E) (shipped meta : Meta) (segments : List (List ℕ)) (index : List ℕ) (external : List Label) → fields_of shipped ≡ shipped_meta meta segments index external → OnOk r (HasFittingNumbers (fields_of shipped)) → OnOk r (HasFittingNumbers (fields_of meta))
unfolding shipped_meta
moved_numbers (Ok a) shipped meta segments index external e fits =
    let h : HasFittingNumbers (shipped_meta meta segments index external) = subst HasFittingNumbers e fits in
    record { series = h.series; samples = h.samples; chunks = h.chunks; parents = h.parents }
moved_numbers (Err why) shipped meta segments index external e fits = tt
