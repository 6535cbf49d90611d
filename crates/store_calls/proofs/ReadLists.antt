-- Lists of what is read: members read one by one, groups of references, runs of series.
use Rattle.std.proofs.Common.{◌≡◌, ℕ, ◌+◌, ◌-◌, ◌≤◌, ◌*◌, Bool, true, false, List, [], ◌∷◌, ◌++◌, Some, None, map, drop, Result, Ok, Err, refl, sym, ap, subst, ◌∙◌, arith}
use Rattle.std.specs.Prelude.{IsOk, nat_le, nat_lt}
use Rattle.std.specs.List.{AllByRecursion, AllZip, flat_map, list_all}
use Rattle.std.specs.List.Sorted.{IsStrictlyIncreasing}
use Rattle.std.proofs.lemmas.Bool.{and_parts}
use Rattle.std.specs.Ordering.{nat_cmp}
use Rattle.std.proofs.lemmas.Map.Keys.{sorted_from_strictly_increasing}
use Rattle.base.proofs.Binds.{bind_ok}
use Rattle.label_sets.specs.declared.sample.Sample.{Sample}
use Rattle.index_parts.specs.declared.toc_reading.Toc.{Toc}
use Rattle.base.specs.Firsts.{each_at}
use Rattle.base.proofs.FirstLaws.{each_found}
use Rattle.store_ranges.specs.ChunkRanges.{AreGroups, Group, IsNear}
use Rattle.store_chunks.specs.ChunkReads.{Tests, chunk_len_at, glimpse, glimpse_at, shows}
use Rattle.store_ranges.specs.IndexRanges.{AreRuns, Run, has_bytes, has_sections, run_of, section_piece}
use Rattle.store_ranges.specs.Stretches.{AreJoined, IsJoined, Stretch, last_behind, last_of, members}
use Rattle.store_calls.proofs.BlockFindings.{IsWithin}
use Rattle.base.proofs.Bools.{and_first, and_second, lt-from_Less}
use Rattle.base.specs.Order.{InOrderAfter, ComesAfter}
use Rattle.base.proofs.Order.{order_from_sorted}
use Rattle.base.proofs.Membership.{all_members}

-- ---- members

pub ok_read : {A R : Type 0} (r : Result A R) (x : A) → r ≡ Ok x → IsOk r
ok_read (Ok y) x is = refl
ok_read (Err e) x is = absurd (cc (is))

pub each_read : {A B R : Type 0} (read : A → Result B R) (xs : List A) (ys : List B) → each_at read xs ≡ Ok ys → AllZip (λ x y. read x ≡ Ok y) xs ys
each_read read xs ys is =
    each_found read (λ x y. read x ≡ Ok y) (λ x e. read x ≡ Err e) (record { found = λ x y so. so; again = λ x y so. so; refused = λ x e so. so; refuses = λ x e so. so }) xs ys is

-- ---- numbers that ascend

rises_up : (xs : List ℕ) → IsStrictlyIncreasing xs → InOrderAfter (ComesAfter nat_cmp) None xs
rises_up xs rises = order_from_sorted nat_cmp None xs (all_members (ComesAfter nat_cmp None) xs (λ x among. tt)) (sorted_from_strictly_increasing xs rises)

later_rises : (one : ℕ) (others rest : List ℕ) → InOrderAfter (ComesAfter nat_cmp) (Some one) (others ++ rest) → InOrderAfter (ComesAfter nat_cmp) None rest
later_rises one [] [] up = tt
later_rises one [] (x ∷ xs) up = (tt, up.1)
later_rises one (o ∷ others) rest up = later_rises o others rest up.1

-- ---- runs of series

pub numbers_of : (toc : Toc) (size : ℕ) (all : List ℕ) (runs : List (Stretch ℕ)) → flat_map (λ (run : Run). run.numbers) (map (run_of toc size all) runs) ≡ flat_map members runs
numbers_of toc size all [] = refl
numbers_of toc size all (run ∷ runs) = ap (λ l. members run ++ l) (numbers_of toc size all runs)

behind_all : (first one : ℕ) (others rest : List ℕ) → first ≤ one → InOrderAfter (ComesAfter nat_cmp) (Some one) (others ++ rest) → AllByRecursion (λ number. 16 * first ≤ 16 * number) others
behind_all first one [] rest le up = tt
behind_all first one (o ∷ others) rest le up =
    let far : first ≤ o = omega (arith, le, lt-from_Less one o up.0) in
    let here : 16 * first ≤ 16 * o = omega (arith, far) in (here, behind_all first o others rest far up.1)

-- each run begins with its first series
pub hold_runs : (toc : Toc) (size : ℕ) (all numbers : List ℕ) (runs : List (Stretch ℕ)) → IsStrictlyIncreasing numbers → AreRuns all numbers runs
    → list_all (λ (run : Run). has_bytes run.piece) (map (run_of toc size all) runs) ≡ true
    → AllByRecursion (λ (run : Run). (has_bytes run.piece ≡ true) × AllByRecursion (λ number. run.piece.from ≤ 16 * number) run.numbers) (map (run_of toc size all) runs)
hold_runs toc size all numbers runs rises cut have = each runs (subst (InOrderAfter (ComesAfter nat_cmp) None) (sym cut.whole) (rises_up numbers rises)) have
  where
    each : (runs : List (Stretch ℕ)) → InOrderAfter (ComesAfter nat_cmp) None (flat_map members runs) → list_all (λ (run : Run). has_bytes run.piece) (map (run_of toc size all) runs) ≡ true
        → AllByRecursion (λ (run : Run). (has_bytes run.piece ≡ true) × AllByRecursion (λ number. run.piece.from ≤ 16 * number) run.numbers) (map (run_of toc size all) runs)
    each [] up have = tt
    each (run ∷ runs) up have =
        let both = and_parts (has_bytes (run_of toc size all run).piece) (list_all (λ (r : Run). has_bytes r.piece) (map (run_of toc size all) runs)) have in
        let here : 16 * run.first ≤ 16 * run.first = omega arith in
        ((both.0, (here, behind_all run.first run.first run.others (flat_map members runs) (omega arith) up.1)), each runs (later_rises run.first run.others (flat_map members runs) up.1) both.1)

-- ---- sections

pub symbols_there : (toc : Toc) (size : ℕ) → has_sections toc size ≡ true → nat_lt 0 toc.symbols ≡ true
symbols_there toc size has = and_first _ _ (and_first _ _ (and_first _ _ (and_first _ _ (and_first _ _ (and_first _ _ has)))))

pub table_there : (toc : Toc) (size : ℕ) → has_sections toc size ≡ true → nat_lt 0 toc.postings_table ≡ true
table_there toc size has = and_second _ _ (and_first _ _ (and_first _ _ (and_first _ _ has)))

pub symbols_some : (toc : Toc) (size : ℕ) → has_sections toc size ≡ true → has_bytes (section_piece toc size toc.symbols) ≡ true
symbols_some toc size has = and_second _ _ (and_first _ _ (and_first _ _ has))

pub table_some : (toc : Toc) (size : ℕ) → has_sections toc size ≡ true → has_bytes (section_piece toc size toc.postings_table) ≡ true
table_some toc size has = and_second _ _ (and_first _ _ has)

pub lists_some : (toc : Toc) (size : ℕ) → has_sections toc size ≡ true → has_bytes (section_piece toc size toc.postings) ≡ true
lists_some toc size has = and_second _ _ has

-- ---- groups of references

last_up : (one : ℕ) (others rest : List ℕ) → InOrderAfter (ComesAfter nat_cmp) (Some one) (others ++ rest) → one ≤ last_behind one others
last_up one [] rest up = omega arith
last_up one (o ∷ others) rest up = let later = last_up o others rest up.1 in omega (arith, lt-from_Less one o up.0, later)

near_members : (stretch : Stretch ℕ) (one : ℕ) (others rest : List ℕ) → IsWithin stretch one → last_of stretch ≡ last_behind one others → AreJoined IsNear one others → InOrderAfter (ComesAfter nat_cmp) (Some one) (others ++ rest)
    → AllByRecursion (IsWithin stretch) others
near_members stretch one [] rest within last joined up = tt
near_members stretch one (o ∷ others) rest within last joined up =
    let most = last_up o others rest up.1 in
    let so : IsWithin stretch o = record {
      same_segment = within.same_segment ∙ joined.0.same_segment;
      behind = omega (arith, within.behind, lt-from_Less one o up.0);
      upto = omega (arith, most, last);
    } in (so, near_members stretch o others rest so last joined.1 up.1)

near_cut : (groups : List (Stretch ℕ)) → AllByRecursion (IsJoined IsNear) groups → InOrderAfter (ComesAfter nat_cmp) None (flat_map members groups) → AllByRecursion (λ stretch. AllByRecursion (IsWithin stretch) (members stretch)) groups
near_cut [] joined up = tt
near_cut (stretch ∷ groups) joined up =
    let most = last_up stretch.first stretch.others (flat_map members groups) up.1 in
    let here : IsWithin stretch stretch.first = record { same_segment = refl; behind = omega arith; upto = most } in (
      (here, near_members stretch stretch.first stretch.others (flat_map members groups) here refl joined.0 up.1),
      near_cut groups joined.1 (later_rises stretch.first stretch.others (flat_map members groups) up.1),
    )

pub near_groups : (references : List ℕ) (groups : List (Stretch ℕ)) → IsStrictlyIncreasing references → AreGroups references groups
    → AllByRecursion (λ stretch. AllByRecursion (IsWithin stretch) (members stretch)) groups
near_groups references groups rises is = near_cut groups is.joined (subst (InOrderAfter (ComesAfter nat_cmp) None) (sym is.whole) (rises_up references rises))

-- what holds of the members of all groups holds in each group
front_each : {A : Type 0} (P : A → Type 0) (xs ys : List A) → AllByRecursion P (xs ++ ys) → AllByRecursion P xs × AllByRecursion P ys
front_each P [] ys all = (tt, all)
front_each P (x ∷ xs) ys all = let rest = front_each P xs ys all.1 in ((all.0, rest.0), rest.1)

both_each : {A : Type 0} (P Q : A → Type 0) (xs : List A) → AllByRecursion P xs → AllByRecursion Q xs → AllByRecursion (λ x. P x × Q x) xs
both_each P Q [] one other = tt
both_each P Q (x ∷ xs) one other = ((one.0, other.0), both_each P Q xs one.1 other.1)

pub sought_groups : (IsSought : ℕ → Type 0) (groups : List (Stretch ℕ)) → AllByRecursion (λ stretch. AllByRecursion (IsWithin stretch) (members stretch)) groups → AllByRecursion IsSought (flat_map members groups)
    → AllByRecursion (λ stretch. AllByRecursion (λ reference. IsWithin stretch reference × IsSought reference) (members stretch)) groups
sought_groups IsSought [] within sought = tt
sought_groups IsSought (stretch ∷ groups) within sought =
    let parts = front_each IsSought (members stretch) (flat_map members groups) sought in
    (both_each (IsWithin stretch) IsSought (members stretch) within.0 parts.0, sought_groups IsSought groups within.1 parts.1)

-- ---- a chunk of a group

pub none_behind : (n : ℕ) → n - n ≡ 0
none_behind n = omega arith

seen_whole : (b : Bool) (r : Result (List Sample) (Unit {0})) (len : ℕ) (samples : List Sample) → glimpse b r len ≡ Ok (shows samples) → r ≡ Ok samples
seen_whole true (Ok list) len samples is = cc (is)
seen_whole true (Err e) len samples is = absurd (cc (is))
seen_whole false r len samples is = absurd (cc (is))

pub shown_is : (tests : Tests) (group : Group) (bytes : List ℕ) (reference : ℕ) (samples : List Sample) → glimpse_at tests group bytes reference ≡ Ok (shows samples)
    → tests reference (drop (reference - group.first) bytes) ≡ Ok samples
unfolding glimpse_at
shown_is tests group bytes reference samples is =
    let len =
    bind_ok (chunk_len_at bytes (reference - group.first))
    (λ len. glimpse (nat_le (reference - group.first + len) group.piece.len) (tests reference (drop (reference - group.first) bytes)) len) (shows samples) is in
    seen_whole (nat_le (reference - group.first + len.0) group.piece.len) (tests reference (drop (reference - group.first) bytes)) len.0 samples len.2
