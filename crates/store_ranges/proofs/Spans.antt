-- The members of a stretch, by the places of the first and the last.
use Rattle.std.proofs.Common.{◌≡◌, ℕ, zero, suc, ◌+◌, ◌-◌, ◌<◌, ◌≤◌, List, take, drop, length, get_or, sym, ap, ap₂, subst, ◌∙◌, arith}
use Rattle.std.specs.Prelude.{◌*◌, ◌/◌, ◌%◌, ◌^◌, All}
use Rattle.std.specs.List.Sorted.{IsStrictlyIncreasing}
use Rattle.std.proofs.lemmas.List.{drop_more, length-drop, get_or-drop}
use Rattle.std.proofs.lemmas.List.Elements.{All-take}
use Rattle.std.proofs.lemmas.Map.Keys.{sorted_from_strictly_increasing, non_decreasing_from_sorted}
use Rattle.index_parts.specs.declared.toc_reading.Toc.{Toc}
use Rattle.store_ranges.specs.IndexRanges.{Run, run_of, run_end}
use Rattle.store_ranges.specs.ChunkRanges.{Group, group_of}
use Rattle.store_ranges.specs.Stretches.{members, last_behind, last_of, stretch_at, IsSpanOf}
use Rattle.store_ranges.specs.declared.span.Span.{Span}
use Rattle.base.proofs.Lists.{get_or-any}

pub members_at : (list : List ℕ) (span : Span) → IsSpanOf list span → take (span.end - span.start) (drop span.start list) ≡ members (stretch_at list span)
members_at list span is =
    let n : span.end - span.start ≡ suc (span.end - (span.start + 1)) = omega (arith, is.0) in
    ap₂ (λ k (xs : List ℕ). take k xs) n (drop_more list span.start 0 (omega (arith, is.0, is.1)))

last_upto : (list : List ℕ) (n start last : ℕ) → start + n ≡ last → last < length list → last_behind (get_or list start 0) (take n (drop (start + 1) list)) ≡ get_or list last 0
last_upto list zero start last is within = let e : start ≡ last = omega arith in ap (λ k. get_or list k 0) e
last_upto list (suc n) start last is within =
    let h : start + 1 < length list = omega arith in
    let later = last_upto list n (start + 1) last (omega arith) within in
    let F : List ℕ → Type 0 = λ xs. last_behind (get_or list start 0) (take (suc n) xs) ≡ get_or list last 0 in
    subst F (sym (drop_more list (start + 1) 0 h)) later

pub last_at : (list : List ℕ) (span : Span) → IsSpanOf list span → get_or list (span.end - 1) 0 ≡ last_of (stretch_at list span)
last_at list span is = sym (last_upto list (span.end - (span.start + 1)) span.start (span.end - 1) (omega (arith, is.0)) (omega (arith, is.0, is.1)))

-- ---- what is read of them

pub group_eq : (list : List ℕ) (span : Span) (len : ℕ) (numbers : List ℕ) → IsSpanOf list span → len ≡ get_or list (span.end - 1) 0 - get_or list span.start 0
    → numbers ≡ take (span.end - span.start) (drop span.start list)
    → ◌≡◌ {A = Group} (record { segment = get_or list span.start 0 / 4294967296 + 1; first = get_or list span.start 0; piece = record { from = get_or list span.start 0 % 4294967296; len = len + 4096 }; references = numbers }) (group_of (stretch_at list span))
group_eq list span len numbers is len_is are =
    ap₂ (λ (l : ℕ) (ns : List ℕ). record { segment = get_or list span.start 0 / 4294967296 + 1; first = get_or list span.start 0; piece = record { from = get_or list span.start 0 % 4294967296; len = l + 4096 }; references = ns })
    (len_is ∙ ap (λ k. k - get_or list span.start 0) (last_at list span is)) (are ∙ members_at list span is)

pub run_eq : (toc : Toc) (size : ℕ) (all list : List ℕ) (span : Span) (end len : ℕ) (numbers : List ℕ) → IsSpanOf list span → end ≡ run_end toc size all (get_or list (span.end - 1) 0)
    → len ≡ end - 16 * get_or list span.start 0 → numbers ≡ take (span.end - span.start) (drop span.start list)
    → ◌≡◌ {A = Run} (record { piece = record { from = 16 * get_or list span.start 0; len = len }; numbers = numbers }) (run_of toc size all (stretch_at list span))
run_eq toc size all list span end len numbers is end_is len_is are =
    ap₂ (λ (l : ℕ) (ns : List ℕ). record { piece = record { from = 16 * get_or list span.start 0; len = l }; numbers = ns })
    (len_is ∙ ap (λ k. k - 16 * get_or list span.start 0) (end_is ∙ ap (run_end toc size all) (last_at list span is))) (are ∙ members_at list span is)

pub run_small : (list : List ℕ) (span : Span) (numbers : List ℕ) → All (λ n. n < 2 ^ 32) list → numbers ≡ take (span.end - span.start) (drop span.start list) → All (λ n. n < 2 ^ 32) numbers
run_small list span numbers small are =
    subst (All (λ n. n < 2 ^ 32)) (sym are) (All-take (λ n. n < 2 ^ 32) (span.end - span.start) (drop span.start list)
    (λ k d h. subst (λ n. n < 2 ^ 32) (sym (get_or-drop span.start list k d)) (small (span.start + k) d (omega (arith, h, length-drop span.start list)))))

pub run_begins : (list : List ℕ) (span : Span) (numbers : List ℕ) → IsSpanOf list span → IsStrictlyIncreasing list → numbers ≡ take (span.end - span.start) (drop span.start list)
    → All (λ n. 16 * get_or list span.start 0 ≤ 16 * n) numbers
run_begins list span numbers is up are =
    let rises = non_decreasing_from_sorted list (sorted_from_strictly_increasing list up) in
    subst (All (λ n. 16 * get_or list span.start 0 ≤ 16 * n)) (sym are) (All-take (λ n. 16 * get_or list span.start 0 ≤ 16 * n) (span.end - span.start) (drop span.start list)
    (λ k d h.
    let within : span.start + k < length list = omega (arith, h, length-drop span.start list) in
    let le : get_or list span.start d ≤ get_or list (span.start + k) d = rises span.start (span.start + k) d (omega arith) within in
    let same : get_or list span.start d ≡ get_or list span.start 0 = get_or-any list span.start d 0 (omega (arith, within)) in
    subst (λ n. 16 * get_or list span.start 0 ≤ 16 * n) (sym (get_or-drop span.start list k d)) (omega (arith, le, same))))
