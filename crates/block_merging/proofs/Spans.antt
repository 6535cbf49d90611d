-- Chunks in the order of their begins that fall into parts which lie apart: each part is a run.
use Rattle.std.proofs.Common.{◌≡◌, ◌≢◌, Bool, true, false, List, [], ◌∷◌, ◌++◌, map, refl, sym, ap, ◌∙◌, subst, arith, inl, inr, ℤ, append_assoc}
use Rattle.std.specs.Prelude.{Any, Contains, int_le, ◌≤ℤ◌, ◌<ℤ◌}
use Rattle.std.specs.Cmp.{IsStrictWeakOrder}
use Rattle.std.specs.List.{AllByRecursion, AllPairs, filter}
use Rattle.std.proofs.lemmas.Int.{ints, by_lt_z}
use Rattle.std.proofs.lemmas.List.{append-nil, map-append}
use Rattle.std.proofs.lemmas.List.Elements.{All-from_recursion, filter-append, Contains-append_left, Contains-append_right, Contains-append_cases}
use Rattle.std.proofs.lemmas.List.Kept.{AllPairs-cons}
use Rattle.std.proofs.lemmas.Bool.{and_from, and_left, and_right}
use Rattle.base.specs.Ordered.{in_order}
use Rattle.base.proofs.Lists.{AllByRecursion-append, AllByRecursion-weaker, filter-map, AllByRecursion-append_right}
use Rattle.base.proofs.Membership.{no_member, contains_first, contains_later, each_member, all_members, of_in_order, into_in_order, of_map, into_map, filter_whole, filter_nothing}
use Rattle.base.proofs.Integers.{le_itself}
use Rattle.base.specs.Lists.{joined}
use Rattle.block_writing.specs.Put.{PutChunk}
use Rattle.block_merging.specs.Runs.{AreConnected, Span, lies_in, AreRuns}
use Rattle.block_merging.specs.Steps.{EndBefore}
use Rattle.block_merging.proofs.Filters.{Ascends, filter_in_order, ascends-filter, put_back}
use Rattle.block_merging.proofs.Chains.{any_of, member_of}
use Rattle.block_merging.proofs.Sweeps.{weaken}

-- it ends where it begins or later
abbrev pub IsTimed : PutChunk → Type 0
IsTimed chunk = chunk.min ≤ℤ chunk.max

-- ---- the span of a part

record IsSpanOf (chunks : List PutChunk) (span : Span) : Type 0 where
  low : AllByRecursion (λ (x : PutChunk). span.begin ≤ℤ x.min) chunks
  high : AllByRecursion (λ (x : PutChunk). x.max ≤ℤ span.end) chunks
  first : PutChunk
  first_in : Contains chunks first
  first_is : first.min ≡ span.begin
  last : PutChunk
  last_in : Contains chunks last
  last_is : last.max ≡ span.end

record IsLeastOf (chunks : List PutChunk) (begin : ℤ) : Type 0 where
  low : AllByRecursion (λ (x : PutChunk). begin ≤ℤ x.min) chunks
  first : PutChunk
  first_in : Contains chunks first
  first_is : first.min ≡ begin

record IsGreatestOf (chunks : List PutChunk) (end : ℤ) : Type 0 where
  high : AllByRecursion (λ (x : PutChunk). x.max ≤ℤ end) chunks
  last : PutChunk
  last_in : Contains chunks last
  last_is : last.max ≡ end

weaker_low : (a b : ℤ) → a ≤ℤ b → (x : PutChunk) → b ≤ℤ x.min → a ≤ℤ x.min
weaker_low a b le x h = omega (arith, ints)

weaker_high : (a b : ℤ) → a ≤ℤ b → (x : PutChunk) → x.max ≤ℤ a → x.max ≤ℤ b
weaker_high a b le x h = omega (arith, ints)

least_of : (c : PutChunk) (cs : List PutChunk) → (begin : ℤ) × IsLeastOf (c ∷ cs) begin
least_of c [] = (c.min, record { low = (le_itself c.min, tt); first = c; first_in = contains_first c []; first_is = refl })
least_of c (d ∷ ds) =
    let others = least_of d ds in
    by_lt_z c.min others.0
    (λ lt. (
      c.min,
      record {
        low = (le_itself c.min, AllByRecursion-weaker (λ (x : PutChunk). others.0 ≤ℤ x.min) (λ (x : PutChunk). c.min ≤ℤ x.min) (weaker_low c.min others.0 (weaken c.min others.0 lt)) (d ∷ ds) others.1.low);
        first = c;
        first_in = contains_first c (d ∷ ds);
        first_is = refl;
      },
    ))
    (λ le. (others.0, record { low = (le, others.1.low); first = others.1.first; first_in = contains_later c others.1.first (d ∷ ds) others.1.first_in; first_is = others.1.first_is }))

greatest_of : (c : PutChunk) (cs : List PutChunk) → (end : ℤ) × IsGreatestOf (c ∷ cs) end
greatest_of c [] = (c.max, record { high = (le_itself c.max, tt); last = c; last_in = contains_first c []; last_is = refl })
greatest_of c (d ∷ ds) =
    let others = greatest_of d ds in
    by_lt_z others.0 c.max
    (λ lt. (
      c.max,
      record {
        high = (le_itself c.max, AllByRecursion-weaker (λ (x : PutChunk). x.max ≤ℤ others.0) (λ (x : PutChunk). x.max ≤ℤ c.max) (weaker_high others.0 c.max (weaken others.0 c.max lt)) (d ∷ ds) others.1.high);
        last = c;
        last_in = contains_first c (d ∷ ds);
        last_is = refl;
      },
    ))
    (λ le. (others.0, record { high = (le, others.1.high); last = others.1.last; last_in = contains_later c others.1.last (d ∷ ds) others.1.last_in; last_is = others.1.last_is }))

span_exists : (chunks : List PutChunk) → chunks ≢ [] → (span : Span) × IsSpanOf chunks span
span_exists [] some = absurd (some refl)
span_exists (c ∷ cs) some =
    let l = least_of c cs in
    let g = greatest_of c cs in
    (record { begin = l.0; end = g.0 }, record { low = l.1.low; high = g.1.high; first = l.1.first; first_in = l.1.first_in; first_is = l.1.first_is; last = g.1.last; last_in = g.1.last_in; last_is = g.1.last_is })

pub le_true : (a b : ℤ) → a ≤ℤ b → int_le a b ≡ true
le_true a b h = grind (arith, ints)

pub le_false : (a b : ℤ) → b <ℤ a → int_le a b ≡ false
le_false a b h = grind (arith, ints)

lies : (chunks : List PutChunk) (span : Span) (x : PutChunk) → IsSpanOf chunks span → Contains chunks x → lies_in span x ≡ true
lies chunks span x is among =
    and_from (int_le span.begin x.min) (int_le x.max span.end) (le_true span.begin x.min (each_member (λ (y : PutChunk). span.begin ≤ℤ y.min) chunks x is.low among))
    (le_true x.max span.end (each_member (λ (y : PutChunk). y.max ≤ℤ span.end) chunks x is.high among))

below_begin : (a b c d : ℤ) → a ≤ℤ b → b <ℤ c → c ≡ d → a <ℤ d
below_begin a b c d h k e = omega (arith, ints)

above_end : (a b c d : ℤ) → a ≡ b → a <ℤ c → c ≤ℤ d → b <ℤ d
above_end a b c d e h k = omega (arith, ints)

-- what ends before, and what begins behind
earlier_out : (chunks : List PutChunk) (span : Span) (x : PutChunk) → IsSpanOf chunks span → IsTimed x → AllByRecursion (λ (y : PutChunk). x.max <ℤ y.min) chunks → lies_in span x ≡ false
earlier_out chunks span x is timed before =
    and_left (int_le span.begin x.min) (int_le x.max span.end) (le_false span.begin x.min
    (below_begin x.min x.max is.first.min span.begin timed (each_member (λ (y : PutChunk). x.max <ℤ y.min) chunks is.first before is.first_in) is.first_is))

later_out : (chunks : List PutChunk) (span : Span) (x : PutChunk) → IsSpanOf chunks span → IsTimed x → ((y : PutChunk) → Contains chunks y → y.max <ℤ x.min) → lies_in span x ≡ false
later_out chunks span x is timed behind =
    and_right (int_le span.begin x.min) (int_le x.max span.end) (le_false x.max span.end
    (above_end is.last.max span.end x.min x.max is.last_is (behind is.last is.last_in) timed))

between_ends : (a b c d : ℤ) → a ≡ b → a <ℤ c → c ≡ d → b <ℤ d
between_ends a b c d e h f = omega (arith, ints)

ends_begin : (chunks : List PutChunk) (span : Span) (x : PutChunk) (behind : Span) → IsSpanOf chunks span → x.min ≡ behind.begin → ((y : PutChunk) → Contains chunks y → y.max <ℤ x.min) → span.end <ℤ behind.begin
ends_begin chunks span x behind is begin before = between_ends is.last.max span.end x.min behind.begin is.last_is (before is.last is.last_in) begin

-- ---- parts that lie apart

-- the run of a part: its chunks in the order in which they were given
abbrev pub run_of : {A : Type 0} → (A → PutChunk) → (A → A → Bool) → List A → List PutChunk
run_of of low part = map of (in_order low part)

pub joined_more : {A : Type 0} (parts : List (List A)) (part left : List A) → joined (parts ++ part ∷ []) ++ left ≡ joined parts ++ (part ++ left)
joined_more [] part left = ap (λ l. l ++ left) (append-nil part)
joined_more (p ∷ parts) part left = append_assoc p (joined (parts ++ part ∷ [])) left ∙ ap (λ l. p ++ l) (joined_more parts part left) ∙ sym (append_assoc p (joined parts) (part ++ left))

-- Each part's run is connected, and each part ends before those behind it, and what is left, begin.
abbrev pub Swept : {A : Type 0} → (A → PutChunk) → (A → A → Bool) → List (List A) → List A → Type 0
Swept of low [] left = Unit {0}
Swept of low (part ∷ parts) left = AreConnected (run_of of low part) × EndBefore (map of part) (map of (joined parts ++ left)) × Swept of low parts left

module _ {A : Type 0} (of : A → PutChunk) (low : A → A → Bool) where
  run_none : (part : List A) → part ≡ [] → run_of of low part ≡ []
  unfolding in_order
  run_none part e = ap (run_of of low) e

  pub part_some : (part : List A) → AreConnected (run_of of low part) → part ≢ []
  part_some part h e = h.some (run_none part e)

  map_some : (part : List A) → part ≢ [] → map of part ≢ []
  map_some [] some e = some refl
  map_some (x ∷ xs) some e = absurd cc

  -- the spans of parts behind others
  record HasSpans (front : List A) (parts : List (List A)) : Type 0 where
    spans : List Span
    parts_are : parts ≡ map (λ span. filter (λ x. lies_in span (of x)) (front ++ joined parts)) spans
    apart : AllPairs (λ (one other : Span). one.end <ℤ other.begin) spans
    begins : AllByRecursion (λ (span : Span). (x : A) × Contains (joined parts) x × ((of x).min ≡ span.begin)) spans
    covered : (x : A) → Contains (joined parts) x → Any (λ span. lies_in span (of x) ≡ true) spans

  ends_first : (xs ys : List A) (x y : A) → EndBefore (map of xs) (map of ys) → Contains xs x → Contains ys y → (of x).max <ℤ (of y).min
  ends_first xs ys x y before here there =
      each_member (λ (z : PutChunk). (of x).max <ℤ z.min) (map of ys) (of y)
      (each_member (λ (w : PutChunk). AllByRecursion (λ (z : PutChunk). w.max <ℤ z.min) (map of ys)) (map of xs) (of x) before (into_map of xs x here)) (into_map of ys y there)

  only_part : (front part others : List A) (span : Span) → ((x : A) → Contains (front ++ (part ++ others)) x → IsTimed (of x))
      → EndBefore (map of front) (map of (part ++ others)) → EndBefore (map of part) (map of others) → IsSpanOf (map of part) span
      → filter (λ x. lies_in span (of x)) (front ++ (part ++ others)) ≡ part
  only_part front part others span timed before behind is =
      let q = λ (x : A). lies_in span (of x) in
      filter-append q front (part ++ others) ∙ ap (λ l. filter q front ++ l) (filter-append q part others)
      ∙ ap (λ l. l ++ (filter q part ++ filter q others)) (filter_nothing q front (λ x m. earlier_out (map of part) span (of x) is (timed x (Contains-append_left front (part ++ others) x m))
      (all_members (λ (y : PutChunk). (of x).max <ℤ y.min) (map of part) (λ y among. let w = of_map of part y among in
      subst (λ (z : PutChunk). (of x).max <ℤ z.min) w.2 (ends_first front (part ++ others) x w.0 before m (Contains-append_left part others w.0 w.1))))))
      ∙ ap (λ l. l ++ filter q others) (filter_whole q part (λ x m. lies (map of part) span (of x) is (into_map of part x m)))
      ∙ ap (λ l. part ++ l) (filter_nothing q others (λ x m. later_out (map of part) span (of x) is (timed x (Contains-append_right front (part ++ others) x (Contains-append_right part others x m)))
      (λ y among. let w = of_map of part y among in subst (λ (z : PutChunk). z.max <ℤ (of x).min) w.2 (ends_first part others w.0 x behind w.1 m))))
      ∙ append-nil part

  end_before_both : (xs ys zs : List PutChunk) → EndBefore xs zs → EndBefore ys zs → EndBefore (xs ++ ys) zs
  end_before_both xs ys zs h k = AllByRecursion-append (λ (x : PutChunk). AllByRecursion (λ (y : PutChunk). x.max <ℤ y.min) zs) xs ys h k

  more_parts : (part : List A) (parts : List (List A)) (all : List A) (span : Span) (spans : List Span) → part ≡ filter (λ x. lies_in span (of x)) all → parts ≡ map (λ s. filter (λ x. lies_in s (of x)) all) spans
      → part ∷ parts ≡ map (λ s. filter (λ x. lies_in s (of x)) all) (span ∷ spans)
  more_parts part parts all span spans e f = λ i. e i ∷ f i

  first_member : (part others : List A) (span : Span) → IsSpanOf (map of part) span → (x : A) × Contains (part ++ others) x × ((of x).min ≡ span.begin)
  first_member part others span is = let w = of_map of part is.first is.first_in in (w.0, Contains-append_left part others w.0 w.1, ap (λ (c : PutChunk). c.min) w.2 ∙ is.first_is)

  spans_of : (front : List A) (parts : List (List A)) → ((x : A) → Contains (front ++ joined parts) x → IsTimed (of x))
      → EndBefore (map of front) (map of (joined parts)) → Swept of low parts [] → HasSpans front parts
  spans_of front [] timed before swept = record { spans = []; parts_are = refl; apart = λ i j d lt within. absurd (omega (arith, within)); begins = tt; covered = λ x m. absurd (no_member x m) }
  spans_of front (part ∷ parts) timed before swept =
      let some : part ≢ [] = part_some part swept.0 in
      let span = span_exists (map of part) (map_some part some) in
      let behind : EndBefore (map of part) (map of (joined parts)) = subst (λ l. EndBefore (map of part) (map of l)) (append-nil (joined parts)) swept.1 in
      let halves : EndBefore (map of front) (map of part ++ map of (joined parts)) = subst (EndBefore (map of front)) (map-append of part (joined parts)) before in
      let fronts : EndBefore (map of front) (map of (joined parts)) = AllByRecursion-weaker (λ (x : PutChunk). AllByRecursion (λ (y : PutChunk). x.max <ℤ y.min) (map of part ++ map of (joined parts))) (λ (x : PutChunk). AllByRecursion (λ (y : PutChunk). x.max <ℤ y.min) (map of (joined parts)))
      (λ x all. AllByRecursion-append_right (λ (y : PutChunk). x.max <ℤ y.min) (map of part) (map of (joined parts)) all) (map of front) halves in
      let both : EndBefore (map of (front ++ part)) (map of (joined parts)) = subst (λ l. EndBefore l (map of (joined parts))) (sym (map-append of front part)) (end_before_both (map of front) (map of part) (map of (joined parts)) fronts behind) in
      let same : (front ++ part) ++ joined parts ≡ front ++ (part ++ joined parts) = append_assoc front part (joined parts) in
      let others = spans_of (front ++ part) parts (λ x m. timed x (subst (λ l. Contains l x) same m)) both swept.2 in
      let here : filter (λ x. lies_in span.0 (of x)) (front ++ (part ++ joined parts)) ≡ part = only_part front part (joined parts) span.0 timed before behind span.1 in
      record {
        spans = span.0 ∷ others.spans;
        parts_are = more_parts part parts (front ++ (part ++ joined parts)) span.0 others.spans (sym here) (subst (λ l. parts ≡ map (λ s. filter (λ x. lies_in s (of x)) l) others.spans) same others.parts_are);
        apart = AllPairs-cons (λ (one other : Span). one.end <ℤ other.begin) span.0 others.spans (All-from_recursion (λ (other : Span). (span.0).end <ℤ other.begin) others.spans
            (AllByRecursion-weaker (λ (s : Span). (x : A) × Contains (joined parts) x × ((of x).min ≡ s.begin)) (λ (s : Span). (span.0).end <ℤ s.begin)
            (λ s w. ends_begin (map of part) span.0 (of w.0) s span.1 w.2 (λ y among. let v = of_map of part y among in subst (λ (z : PutChunk). z.max <ℤ (of w.0).min) v.2 (ends_first part (joined parts) v.0 w.0 behind v.1 w.1))) others.spans others.begins)) others.apart;
        begins = (
          first_member part (joined parts) span.0 span.1,
          AllByRecursion-weaker (λ (s : Span). (x : A) × Contains (joined parts) x × ((of x).min ≡ s.begin)) (λ (s : Span). (x : A) × Contains (part ++ joined parts) x × ((of x).min ≡ s.begin))
              (λ s w. (w.0, Contains-append_right part (joined parts) w.0 w.1, w.2)) others.spans others.begins,
        );
        covered = λ x m. elim (Contains-append_cases part (joined parts) x m) [
          | inl own ↦ any_of (λ s. lies_in s (of x) ≡ true) (span.0 ∷ others.spans) span.0 (contains_first span.0 others.spans) (lies (map of part) span.0 (of x) span.1 (into_map of part x own))
          | inr later ↦ let w = member_of (λ s. lies_in s (of x) ≡ true) others.spans (others.covered x later) in any_of (λ s. lies_in s (of x) ≡ true) (span.0 ∷ others.spans) w.0 (contains_later span.0 w.0 others.spans w.1) w.2
        ];
      }

-- one part more behind the others
pub swept_more : {A : Type 0} (of : A → PutChunk) (low : A → A → Bool) (parts : List (List A)) (part left : List A) → Swept of low parts (part ++ left) → AreConnected (run_of of low part) → EndBefore (map of part) (map of left)
    → Swept of low (parts ++ part ∷ []) left
swept_more of low [] part left swept connected before = (connected, before, tt)
swept_more of low (p ∷ parts) part left swept connected before =
    (swept.0, subst (λ l. EndBefore (map of p) (map of l)) (sym (joined_more parts part left)) swept.1, swept_more of low parts part left swept.2 connected before)

connected_each : {A : Type 0} (of : A → PutChunk) (low : A → A → Bool) (parts : List (List A)) (left : List A) → Swept of low parts left → AllByRecursion AreConnected (map (run_of of low) parts)
connected_each of low [] left swept = tt
connected_each of low (p ∷ parts) left swept = (swept.0, connected_each of low parts left swept.2)

map_twice : {A B C : Type 0} (f : A → B) (g : B → C) (xs : List A) → map g (map f xs) ≡ map (λ x. g (f x)) xs
map_twice f g [] = refl
map_twice f g (x ∷ xs) = ap (λ l. g (f x) ∷ l) (map_twice f g xs)

module _ {A : Type 0} (of : A → PutChunk) (less low : A → A → Bool) (o : IsStrictWeakOrder less) (p : IsStrictWeakOrder low) where
  run_in : (given : List A) → Ascends low given → (span : Span) → run_of of low (filter (λ x. lies_in span (of x)) (in_order less given)) ≡ filter (lies_in span) (map of given)
  run_in given up span =
      let q = λ (x : A). lies_in span (of x) in
      ap (run_of of low) (filter_in_order less o q given) ∙ ap (map of) (put_back less low o p (filter q given) (ascends-filter less low o p q given up)) ∙ sym (filter-map (lies_in span) of given)

  -- chunks that were given in an ascending order, and then fell into parts in the order of their begins
  pub swept_runs : (given : List A) (parts : List (List A)) → Ascends low given → ((x : A) → Contains given x → IsTimed (of x)) → joined parts ≡ in_order less given → Swept of low parts []
      → AreRuns (map of given) (map (run_of of low) parts)
  swept_runs given parts up timed whole swept =
      let has : HasSpans of low [] parts = spans_of of low [] parts (λ x m. timed x (of_in_order less x given (subst (λ l. Contains l x) whole m))) tt swept in
      record {
        spans = has.spans;
        runs_are = ap (map (run_of of low)) has.parts_are ∙ map_twice (λ span. filter (λ x. lies_in span (of x)) (joined parts)) (run_of of low) has.spans
            ∙ ap (λ l. map (λ span. run_of of low (filter (λ x. lies_in span (of x)) l)) has.spans) whole
            ∙ (let pointwise : (span : Span) → run_of of low (filter (λ x. lies_in span (of x)) (in_order less given)) ≡ filter (lies_in span) (map of given) = run_in given up in λ i. map (λ span. pointwise span i) has.spans);
        covered = All-from_recursion (λ chunk. Any (λ span. lies_in span chunk ≡ true) has.spans) (map of given)
            (all_members (λ chunk. Any (λ span. lies_in span chunk ≡ true) has.spans) (map of given) (λ c m. let w = of_map of given c m in
            subst (λ d. Any (λ span. lies_in span d ≡ true) has.spans) w.2 (has.covered w.0 (subst (λ l. Contains l w.0) (sym whole) (into_in_order less w.0 given w.1)))));
        apart = has.apart;
        connected = connected_each of low parts [] swept;
      }
