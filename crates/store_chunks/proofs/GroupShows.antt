-- What the read of a group shows of its chunks, one after another.
use Rattle.std.proofs.Common.{◌≡◌, Vec, Global, ℕ, ◌+◌, ◌-◌, ◌<◌, ◌≤◌, ◌==◌, Bool, true, false, List, [], ◌∷◌, ◌++◌, map, take, drop, length, get_or, Option, Some, None, Result, Ok, Err, refl, sym, ap, ap₂, subst, ◌∙◌, arith}
use Rattle.std.specs.Prelude.{zip, IsErr, IfOk, nat_le}
use Rattle.std.specs.Result.{result_ok}
use Rattle.std.proofs.lemmas.List.{take_more, map_push, nil_from_length}
use Rattle.std.proofs.lemmas.Bool.Decides.{nat_tests}
use Rattle.std.proofs.lemmas.Bool.{le-leb}
use Rattle.base.specs.Firsts.{each_at}
use Rattle.base.proofs.FirstLaws.{each_many}
use Rattle.base.specs.declared.memory.NoMemory.{NoMemory}
use Rattle.label_sets.specs.declared.sample.Sample.{Sample}
use Rattle.store_ranges.specs.ChunkRanges.{Group}
use Rattle.store_chunks.specs.ChunkReads.{Read, read, Tests, Glimpse, shows, sticks_out, glimpse, glimpse_at, chunk_len_at}
use Rattle.store_chunks.specs.ChunksRead.{reads_of}
use Rattle.store_chunks.specs.Glimpsed.{glimpse_seen, pending_chunk, shown_first, shows_one, shown_so, ShowsOne, ShowsGroup}
use Rattle.store_chunks.specs.declared.glimpse.Glimpse.TheVariants.{Shows, SticksOut}
use Rattle.store_chunks.specs.declared.glimpse.Pending.{Pending}
use Rattle.store_chunks.specs.declared.glimpse.GroupShown.{GroupShown}
use Rattle.store_chunks.specs.declared.chunk_row.ChunkRow.{ChunkRow}
use Rattle.store_ranges.proofs.Readings.{err_of, each_none, each_more, each_refused, zip_push}

-- one chunk more, of those that were shown
pub first_push : (chunks : List (ℕ × Glimpse)) (found : List Read) (reference : ℕ) (seen : Glimpse)
    → shown_first (chunks ++ (reference, seen) ∷ []) found ≡ shows_one (shown_first chunks found).0 (shown_first chunks found).1 reference seen
first_push [] found reference (shows samples) = refl
first_push [] found reference (sticks_out len) = refl
first_push ((one, shows samples) ∷ chunks) found reference seen = first_push chunks (found ++ read one samples ∷ []) reference seen
first_push ((one, sticks_out len) ∷ chunks) found reference seen = refl

module _ {R : Type 0} (reads : ℕ → Result Glimpse R) (refs : List ℕ) (found : List Read) where
  abbrev pub ShownUpto : ℕ → GroupShown → Type 0
  ShownUpto i shown = ShowsGroup found (take i refs) (each_at reads (take i refs)) (Some shown)

  pub shown_none : (shown : GroupShown) → shown_so shown ≡ (found, []) → ShownUpto 0 shown
  shown_none shown is = ([], each_none reads refs 0 0, is)

  pub shown_more : (i : ℕ) (before after : GroupShown) → i < length refs → ShownUpto i before → ShowsOne (shown_so before) (get_or refs i 0) (reads (get_or refs i 0)) (Some after) → ShownUpto (i + 1) after
  shown_more i before after within (all, was, are) (seen, is, so) =
      let here = get_or refs i 0 in (
        all ++ seen ∷ [],
        each_more reads refs i 0 all seen within was is,
        so ∙ ap (λ (p : List Read × List (ℕ × Glimpse)). shows_one p.0 p.1 here seen) are
            ∙ sym (first_push (zip (take i refs) all) found here seen)
            ∙ ap (λ (l : List (ℕ × Glimpse)). shown_first l found)
            (sym (zip_push (take i refs) all here seen (each_many reads (take i refs) all was)) ∙ sym (ap (λ (l : List ℕ). zip l (all ++ seen ∷ [])) (take_more refs i 0 within))),
      )

  pub shown_refused : (i : ℕ) (before : GroupShown) → i < length refs → ShownUpto i before → IsErr (reads (get_or refs i 0)) → IsErr (each_at reads refs)
  shown_refused i before within (all, was, are) refused = each_refused reads refs i 0 all within was refused

-- ---- one chunk

-- whether any waits
pub none_waits : (waiting : List Pending) (count : ℕ) (empty : Bool) → count ≡ length waiting → empty ≡ (count == 0) → empty ≡ true → waiting ≡ []
none_waits waiting count empty many is none =
    let t : (count == 0) ≡ true = sym is ∙ none in
    let zero_is : count ≡ 0 = grind (arith, nat_tests) in
    nil_from_length waiting (sym many ∙ zero_is)

pub one_waits : (waiting : List Pending) (count : ℕ) (empty : Bool) → count ≡ length waiting → empty ≡ (count == 0) → empty ≡ false → waiting ≡ [] → ⊥
one_waits waiting count empty many is some none =
    let f : (count == 0) ≡ false = sym is ∙ some in
    let zero_is : count ≡ 0 = many ∙ ap length none in
    grind (arith, nat_tests)

-- it is read behind the others, where none waits
pub shows_read : (shown made : GroupShown) (reference : ℕ) (tested : Result (List Sample) (Unit {0})) → shown.pending.items ≡ [] → made.pending.items ≡ shown.pending.items
    → ((samples : List Sample) × (tested ≡ Ok samples) × (reads_of made.rows.items ≡ reads_of shown.rows.items ++ read reference samples ∷ []))
    → ShowsOne (shown_so shown) reference (glimpse true tested 0) (Some made)
shows_read shown made reference tested none same (samples, is, are) = (
  shows samples,
  ap (λ (r : Result (List Sample) (Unit {0})). glimpse true r 0) is,
  ap₂ (λ (a : List Read) (b : List Pending). (a, map pending_chunk b)) are (same ∙ none)
      ∙ sym (ap (λ (l : List Pending). shows_one (reads_of shown.rows.items) (map pending_chunk l) reference (shows samples)) none),
)

waits : (found : List Read) (waiting : List Pending) (next : Pending) → (waiting ≡ [] → ⊥)
    → ◌≡◌ {A = List Read × List (ℕ × Glimpse)} (found, map pending_chunk (waiting ++ next ∷ [])) (shows_one found (map pending_chunk waiting) next.reference (glimpse_seen next.glimpse))
waits found [] next some = absurd (some refl)
waits found (one ∷ waiting) next some = ap (λ (l : List (ℕ × Glimpse)). (found, pending_chunk one ∷ l)) (map_push pending_chunk waiting next)

sticks : (found : List Read) (waiting : List Pending) (reference len : ℕ)
    → ◌≡◌ {A = List Read × List (ℕ × Glimpse)} (found, map pending_chunk (waiting ++ record { reference = reference; glimpse = SticksOut len } ∷ [])) (shows_one found (map pending_chunk waiting) reference (sticks_out len))
sticks found [] reference len = refl
sticks found (one ∷ waiting) reference len = ap (λ (l : List (ℕ × Glimpse)). (found, pending_chunk one ∷ l)) (map_push pending_chunk waiting (record { reference = reference; glimpse = SticksOut len }))

made_so : (shown made : GroupShown) (next : Pending) → made.rows ≡ shown.rows → made.pending.items ≡ shown.pending.items ++ next ∷ [] → shown_so made ≡ (reads_of shown.rows.items, map pending_chunk (shown.pending.items ++ next ∷ []))
made_so shown made next same is = ap₂ (λ (a : Vec ChunkRow Global) (b : List Pending). (reads_of a.items, map pending_chunk b)) same is

-- it waits behind others
pub shows_waiting : (shown made : GroupShown) (reference : ℕ) (samples : List Sample) (tested : Result (List Sample) (Unit {0})) → (shown.pending.items ≡ [] → ⊥) → tested ≡ Ok samples → made.rows ≡ shown.rows
    → made.pending.items ≡ shown.pending.items ++ record { reference = reference; glimpse = Shows samples } ∷ [] → ShowsOne (shown_so shown) reference (glimpse true tested 0) (Some made)
shows_waiting shown made reference samples tested some is same are = (
  shows samples,
  ap (λ (r : Result (List Sample) (Unit {0})). glimpse true r 0) is,
  made_so shown made (record { reference = reference; glimpse = Shows samples }) same are ∙ waits (reads_of shown.rows.items) shown.pending.items (record { reference = reference; glimpse = Shows samples }) some,
)

pub shows_refused : (tested : Result (List Sample) (Unit {0})) → IsErr tested → IsErr (glimpse true tested 0)
shows_refused (Ok samples) refused = absurd (cc (refused))
shows_refused (Err e) refused = refl

-- ---- by the bytes of the group

none_read : (r : Result ℕ (Unit {0})) → None ≡ result_ok r → IsErr r
none_read (Ok len) is = absurd (cc (is))
none_read (Err e) is = refl

some_read : (r : Result ℕ (Unit {0})) (len : ℕ) → Some len ≡ result_ok r → r ≡ Ok len
some_read (Ok x) len is = let same : Some len ≡ Some x = is in cc
some_read (Err e) len is = absurd (cc (is))

is_out : (a b : ℕ) → b < a → nat_le a b ≡ false
is_out a b less = grind (arith, nat_tests)

module _ (tests : Tests) (group : Group) (bytes : List ℕ) (reference : ℕ) where
  abbrev Seen : Result Glimpse (Unit {0})
  Seen = glimpse_at tests group bytes reference

  -- its length cannot be read
  no_length : IsErr (chunk_len_at bytes (reference - group.first)) → IsErr Seen
  unfolding glimpse_at
  no_length refused = let e = err_of (chunk_len_at bytes (reference - group.first)) refused in let is = e.1 in rw is refl

  out_is : (len : ℕ) → chunk_len_at bytes (reference - group.first) ≡ Ok len → nat_le (reference - group.first + len) group.piece.len ≡ false → Seen ≡ Ok (sticks_out len)
  unfolding glimpse_at
  out_is len is out = rw (is, out) refl

  -- it sticks out
  shows_out_one : (shown made : GroupShown) (len : ℕ) → chunk_len_at bytes (reference - group.first) ≡ Ok len → nat_le (reference - group.first + len) group.piece.len ≡ false → made.rows ≡ shown.rows
      → made.pending.items ≡ shown.pending.items ++ record { reference = reference; glimpse = SticksOut len } ∷ [] → ShowsOne (shown_so shown) reference Seen (Some made)
  shows_out_one shown made len is out same are =
      (sticks_out len, out_is len is out, made_so shown made (record { reference = reference; glimpse = SticksOut len }) same are ∙ sticks (reads_of shown.rows.items) shown.pending.items reference len)

  -- all of it is there
  within_is : (len : ℕ) → chunk_len_at bytes (reference - group.first) ≡ Ok len → nat_le (reference - group.first + len) group.piece.len ≡ true → Seen ≡ glimpse true (tests reference (drop (reference - group.first) bytes)) 0
  unfolding glimpse_at
  within_is len is within = rw (is, within) refl

  shows_there : (before : List Read × List (ℕ × Glimpse)) (found : Option GroupShown) (len : ℕ) → chunk_len_at bytes (reference - group.first) ≡ Ok len → nat_le (reference - group.first + len) group.piece.len ≡ true
      → ShowsOne before reference (glimpse true (tests reference (drop (reference - group.first) bytes)) 0) found → ShowsOne before reference Seen found
  shows_there before found len is within shows_so = subst (λ (r : Result Glimpse (Unit {0})). ShowsOne before reference r found) (sym (within_is len is within)) shows_so

  -- ---- by what was measured at its place

  module _ (at : ℕ) (measured : Option ℕ) (there : at ≡ reference - group.first) (told : measured ≡ result_ok (chunk_len_at bytes at)) where
    told_there : measured ≡ result_ok (chunk_len_at bytes (reference - group.first))
    told_there = told ∙ ap (λ (n : ℕ). result_ok (chunk_len_at bytes n)) there

    pub none_measured : measured ≡ None → IsErr Seen
    none_measured none = no_length (none_read (chunk_len_at bytes (reference - group.first)) (sym none ∙ told_there))

    module _ (len : ℕ) (some : measured ≡ Some len) where
      length_is : chunk_len_at bytes (reference - group.first) ≡ Ok len
      length_is = some_read (chunk_len_at bytes (reference - group.first)) len (sym some ∙ told_there)

      end_is : reference - group.first + len ≡ at + len
      end_is = ap (λ (n : ℕ). n + len) (sym there)

      pub out_measured : (shown made : GroupShown) → group.piece.len < at + len → made.rows ≡ shown.rows
          → made.pending.items ≡ shown.pending.items ++ record { reference = reference; glimpse = SticksOut len } ∷ [] → ShowsOne (shown_so shown) reference Seen (Some made)
      out_measured shown made out same are = shows_out_one shown made len length_is (ap (λ (n : ℕ). nat_le n group.piece.len) end_is ∙ is_out (at + len) group.piece.len out) same are

      pub within_measured : (before : List Read × List (ℕ × Glimpse)) (cut : List ℕ) (r : Result (Option GroupShown) NoMemory) → at + len ≤ group.piece.len → cut ≡ drop at bytes
          → IfOk r (ShowsOne before reference (glimpse true (tests reference cut) 0)) → IfOk r (ShowsOne before reference Seen)
      within_measured before cut (Err none) within is shows_so = tt
      within_measured before cut (Ok found) within is shows_so =
          shows_there before found len length_is (ap (λ (n : ℕ). nat_le n group.piece.len) end_is ∙ le-leb (at + len) group.piece.len within)
          (subst (λ (l : List ℕ). ShowsOne before reference (glimpse true (tests reference l) 0) found) (is ∙ ap (λ (n : ℕ). drop n bytes) there) shows_so)
