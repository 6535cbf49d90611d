-- Chunks fall into runs in one way.
use Rattle.std.proofs.Common.{◌≡◌, suc, Bool, true, false, List, [], ◌∷◌, map, refl, sym, ap, subst, ◌∙◌, arith, inl, inr, ◌⊎◌, ℤ}
use Rattle.std.specs.Prelude.{Any, All, Contains, not, int_le, ◌≤ℤ◌, ◌<ℤ◌}
use Rattle.std.specs.List.{AllByRecursion, AllPairs, filter}
use Rattle.std.proofs.lemmas.Int.{ints}
use Rattle.std.proofs.lemmas.Bool.{and_parts, true≢false, not_from_false}
use Rattle.std.proofs.lemmas.List.Elements.{All-contains}
use Rattle.base.proofs.Bools.{by_bool, not_negated}
use Rattle.base.proofs.Membership.{no_member, contains_first, contains_later, member_cases, of_filter, into_filter, member_passes, some_member}
use Rattle.block_writing.specs.Put.{PutChunk}
use Rattle.block_merging.specs.Runs.{Meet, AreConnected, Span, lies_in, AreRuns}
use Rattle.block_merging.proofs.Chains.{any_of, member_of}
use Rattle.block_merging.proofs.SameLists.{filter_same, filter_within}

abbrev pub IsTimed : PutChunk → Type 0
IsTimed c = c.min ≤ℤ c.max

pub le_from : (a b : ℤ) → int_le a b ≡ true → a ≤ℤ b
le_from a b h = grind (arith, ints)

pub lies : (span : Span) (c : PutChunk) → lies_in span c ≡ true → (span.begin ≤ℤ c.min) × (c.max ≤ℤ span.end)
lies span c h = let p = and_parts (int_le span.begin c.min) (int_le c.max span.end) h in (le_from span.begin c.min p.0, le_from c.max span.end p.1)

crossing : (end begin min max : ℤ) → end <ℤ begin → min ≤ℤ max → max ≤ℤ end → begin ≤ℤ min → ⊥
crossing end begin min max apart timed first second = omega (arith, ints)

far_apart : (end begin max min : ℤ) → end <ℤ begin → max ≤ℤ end → begin ≤ℤ min → min ≤ℤ max → ⊥
far_apart end begin max min apart first second meet = omega (arith, ints)

round_trip : (e v b c u a : ℤ) (d f : ℤ) → e <ℤ v → v ≤ℤ b → b ≤ℤ c → c ≤ℤ d → d <ℤ u → u ≤ℤ a → a ≤ℤ f → f ≤ℤ e → ⊥
round_trip e v b c u a d f h1 h2 h3 h4 h5 h6 h7 h8 = omega (arith, ints)

-- no chunk lies in two spans that are apart
pub not_both : (one other : Span) (c : PutChunk) → IsTimed c → one.end <ℤ other.begin → lies_in one c ≡ true → lies_in other c ≡ true → ⊥
not_both one other c timed apart here there = crossing one.end other.begin c.min c.max apart timed (lies one c here).1 (lies other c there).0

not_meeting : (one other : Span) (c d : PutChunk) → one.end <ℤ other.begin → lies_in one c ≡ true → lies_in other d ≡ true → d.min ≤ℤ c.max → ⊥
not_meeting one other c d apart here there meet = far_apart one.end other.begin c.max d.min apart (lies one c here).1 (lies other d there).0 meet

-- ---- spans that are apart

abbrev pub AreApart : List Span → Type 0
AreApart spans = AllPairs (λ (one other : Span). one.end <ℤ other.begin) spans

pub first_apart : (s : Span) (spans : List Span) → AreApart (s ∷ spans) → All (λ (other : Span). s.end <ℤ other.begin) spans
first_apart s spans apart = λ k d lt. apart 0 (suc k) d (omega arith) (omega (arith, lt))

pub others_apart : (s : Span) (spans : List Span) → AreApart (s ∷ spans) → AreApart spans
others_apart s spans apart = λ i j d lt within. apart (suc i) (suc j) d (omega (arith, lt)) (omega (arith, within))

pub before_later : (s other : Span) (spans : List Span) → AreApart (s ∷ spans) → Contains spans other → s.end <ℤ other.begin
before_later s other spans apart there = All-contains (λ (o : Span). s.end <ℤ o.begin) spans other (first_apart s spans apart) there

pub of_two : (spans : List Span) (s t : Span) → AreApart spans → Contains spans s → Contains spans t → (s ≡ t) ⊎ ((s.end <ℤ t.begin) ⊎ (t.end <ℤ s.begin))
of_two [] s t apart here there = absurd (no_member s here)
of_two (u ∷ spans) s t apart here there = elim (member_cases u s spans here) [
  | inl is ↦ elim (member_cases u t spans there) [
    | inl too ↦ inl (sym is ∙ too)
    | inr later ↦ inr (inl (subst (λ (w : Span). w.end <ℤ t.begin) is (before_later u t spans apart later)))
  ]
  | inr later ↦ elim (member_cases u t spans there) [
    | inl too ↦ inr (inr (subst (λ (w : Span). w.end <ℤ s.begin) too (before_later u s spans apart later)))
    | inr both ↦ of_two spans s t (others_apart u spans apart) later both
  ]
]

-- ---- chunks that are cut

abbrev pub run_in : List PutChunk → Span → List PutChunk
run_in chunks span = filter (lies_in span) chunks

pub record IsCut (chunks : List PutChunk) (spans : List Span) : Type 0 where
  pub timed : (c : PutChunk) → Contains chunks c → IsTimed c
  pub covered : (c : PutChunk) → Contains chunks c → Any (λ span. lies_in span c ≡ true) spans
  pub apart : AreApart spans
  pub connected : AllByRecursion AreConnected (map (run_in chunks) spans)

-- connected chunks, one of which lies in a span, all do
all_in : (chunks : List PutChunk) (spans : List Span) (s : Span) (run : List PutChunk) (a x : PutChunk) → IsCut chunks spans → Contains spans s → AreConnected run → ((y : PutChunk) → Contains run y → Contains chunks y)
    → Contains run a → lies_in s a ≡ true → Contains run x → lies_in s x ≡ true
all_in chunks spans s run a x cut among connected within here lying there = by_bool (lies_in s x) (λ t. t) (λ f.
    let one = member_of (λ one. (lies_in s one ≡ true) × Any (λ other. (lies_in s other ≡ false) × Meet one other) run) run
    (connected.joined (lies_in s) (any_of (λ one. lies_in s one ≡ true) run a here lying) (any_of (λ other. lies_in s other ≡ false) run x there f)) in
    let other = member_of (λ other. (lies_in s other ≡ false) × Meet one.0 other) run one.2.1 in
    let span = member_of (λ span. lies_in span other.0 ≡ true) spans (cut.covered other.0 (within other.0 other.1)) in
    elim (of_two spans s span.0 cut.apart among span.1) [
      | inl is ↦ absurd (true≢false (sym (subst (λ w. lies_in w other.0 ≡ true) (sym is) span.2) ∙ other.2.0))
      | inr (inl before) ↦ absurd (not_meeting s span.0 one.0 other.0 before one.2.0 span.2 other.2.1.1)
      | inr (inr behind) ↦ absurd (not_meeting span.0 s other.0 one.0 behind span.2 one.2.0 other.2.1.0)
    ])

module _ (chunks : List PutChunk) where
  -- the first span of a cut holds what stands in the first one of another
  first_holds : (s t : Span) (ss ts : List Span) (a : PutChunk) → IsCut chunks (s ∷ ss) → IsCut chunks (t ∷ ts) → Contains (run_in chunks s) a → lies_in t a ≡ true
  first_holds s t ss ts a cut too here =
      let a_in : Contains chunks a = of_filter (lies_in s) chunks a here in
      let a_lies : lies_in s a ≡ true = member_passes (lies_in s) chunks a here in
      let u = member_of (λ span. lies_in span a ≡ true) (t ∷ ts) (too.covered a a_in) in
      elim (member_cases t u.0 ts u.1) [
        | inl is ↦ subst (λ w. lies_in w a ≡ true) (sym is) u.2
        | inr later ↦
            let b = some_member (run_in chunks t) too.connected.0.some in
            let b_in : Contains chunks b.0 = of_filter (lies_in t) chunks b.0 b.1 in
            let b_lies : lies_in t b.0 ≡ true = member_passes (lies_in t) chunks b.0 b.1 in
            let far : t.end <ℤ (u.0).begin = before_later t u.0 ts too.apart later in
            let v = member_of (λ span. lies_in span b.0 ≡ true) (s ∷ ss) (cut.covered b.0 b_in) in
            elim (member_cases s v.0 ss v.1) [
              | inl is ↦
                  let b_here : lies_in s b.0 ≡ true = subst (λ w. lies_in w b.0 ≡ true) (sym is) v.2 in
                  let b_there : lies_in u.0 b.0 ≡ true = all_in chunks (t ∷ ts) u.0 (run_in chunks s) a b.0 too u.1 cut.connected.0 (λ y. of_filter (lies_in s) chunks y) here u.2 (into_filter (lies_in s) chunks b.0 b_in b_here) in
                  absurd (not_both t u.0 b.0 (too.timed b.0 b_in) far b_lies b_there)
              | inr behind ↦
                  absurd (round_trip s.end (v.0).begin (b.0).min (b.0).max (u.0).begin a.min t.end a.max (before_later s v.0 ss cut.apart behind) (lies v.0 b.0 v.2).0 (too.timed b.0 b_in) (lies t b.0 b_lies).1 far (lies u.0 a u.2).0
                  (cut.timed a a_in) (lies s a a_lies).1)
            ]
      ]

  same_tests : (s t : Span) (ss ts : List Span) → IsCut chunks (s ∷ ss) → IsCut chunks (t ∷ ts) → (x : PutChunk) → Contains chunks x → lies_in s x ≡ lies_in t x
  same_tests s t ss ts cut too x among = by_bool (lies_in s x)
      (λ here. here ∙ sym (first_holds s t ss ts x cut too (into_filter (lies_in s) chunks x among here)))
      (λ f. f ∙ sym (by_bool (lies_in t x) (λ there. absurd (true≢false (sym (first_holds t s ts ss x too cut (into_filter (lies_in t) chunks x among there)) ∙ f))) (λ g. g)))

abbrev outside : Span → PutChunk → Bool
outside s c = not (lies_in s c)

-- what lies in a later span is left
later_run : (chunks : List PutChunk) (s u : Span) (ss : List Span) → IsCut chunks (s ∷ ss) → Contains ss u → run_in (filter (outside s) chunks) u ≡ run_in chunks u
later_run chunks s u ss cut among = filter_within (lies_in u) (outside s) chunks (λ x within here.
    not_from_false (lies_in s x) (by_bool (lies_in s x) (λ t. absurd (not_both s u x (cut.timed x within) (before_later s u ss cut.apart among) t here)) (λ f. f)))

later_runs : (chunks : List PutChunk) (s : Span) (ss more : List Span) → IsCut chunks (s ∷ ss) → ((u : Span) → Contains more u → Contains ss u) → map (run_in (filter (outside s) chunks)) more ≡ map (run_in chunks) more
later_runs chunks s ss [] cut within = refl
later_runs chunks s ss (u ∷ more) cut within =
    ap (λ (r : List PutChunk). r ∷ map (run_in (filter (outside s) chunks)) more) (later_run chunks s u ss cut (within u (contains_first u more)))
    ∙ ap (λ (l : List (List PutChunk)). run_in chunks u ∷ l) (later_runs chunks s ss more cut (λ w among. within w (contains_later u w more among)))

rest_cut : (chunks : List PutChunk) (s : Span) (ss : List Span) → IsCut chunks (s ∷ ss) → IsCut (filter (outside s) chunks) ss
rest_cut chunks s ss cut = record {
  timed = λ c among. cut.timed c (of_filter (outside s) chunks c among);
  covered = λ c among. let u = member_of (λ span. lies_in span c ≡ true) (s ∷ ss) (cut.covered c (of_filter (outside s) chunks c among)) in
      elim (member_cases s u.0 ss u.1) [
        | inl is ↦ absurd (not_negated (lies_in s c) (member_passes (outside s) chunks c among) (subst (λ w. lies_in w c ≡ true) (sym is) u.2))
        | inr later ↦ any_of (λ span. lies_in span c ≡ true) ss u.0 later u.2
      ];
  apart = others_apart s ss cut.apart;
  connected = subst (AllByRecursion AreConnected) (sym (later_runs chunks s ss ss cut (λ u among. among))) cut.connected.1;
}

nothing_covers : (chunks : List PutChunk) (t : Span) (ts : List Span) → IsCut chunks [] → IsCut chunks (t ∷ ts) → ⊥
nothing_covers chunks t ts cut too =
    let b = some_member (run_in chunks t) too.connected.0.some in
    no_member (member_of (λ span. lies_in span b.0 ≡ true) [] (cut.covered b.0 (of_filter (lies_in t) chunks b.0 b.1))).0 (member_of (λ span. lies_in span b.0 ≡ true) [] (cut.covered b.0 (of_filter (lies_in t) chunks b.0 b.1))).1

cut_once : (chunks : List PutChunk) (ss ts : List Span) → IsCut chunks ss → IsCut chunks ts → map (run_in chunks) ss ≡ map (run_in chunks) ts
cut_once chunks [] [] cut too = refl
cut_once chunks [] (t ∷ ts) cut too = absurd (nothing_covers chunks t ts cut too)
cut_once chunks (s ∷ ss) [] cut too = absurd (nothing_covers chunks s ss too cut)
cut_once chunks (s ∷ ss) (t ∷ ts) cut too =
    let tests = same_tests chunks s t ss ts cut too in
    let first : run_in chunks s ≡ run_in chunks t = filter_same (lies_in s) (lies_in t) chunks tests in
    let rest : filter (outside t) chunks ≡ filter (outside s) chunks = filter_same (outside t) (outside s) chunks (λ x among. ap not (sym (tests x among))) in
    let others : map (run_in (filter (outside s) chunks)) ss ≡ map (run_in (filter (outside s) chunks)) ts = cut_once (filter (outside s) chunks) ss ts (rest_cut chunks s ss cut) (subst (λ (l : List PutChunk). IsCut l ts) rest (rest_cut chunks t ts too)) in
    ap (λ (r : List PutChunk). r ∷ map (run_in chunks) ss) first
    ∙ ap (λ (l : List (List PutChunk)). run_in chunks t ∷ l)
    (sym (later_runs chunks s ss ss cut (λ u among. among)) ∙ others ∙ ap (λ (c : List PutChunk). map (run_in c) ts) (sym rest) ∙ later_runs chunks t ts ts too (λ u among. among))

pub as_cut : (chunks : List PutChunk) (runs : List (List PutChunk)) → ((c : PutChunk) → Contains chunks c → IsTimed c) → (are : AreRuns chunks runs) → IsCut chunks are.spans
as_cut chunks runs timed are = record {
  timed = timed;
  covered = λ c among. All-contains (λ chunk. Any (λ span. lies_in span chunk ≡ true) are.spans) chunks c are.covered among;
  apart = are.apart;
  connected = subst (AllByRecursion AreConnected) are.runs_are are.connected;
}

pub runs_once : (chunks : List PutChunk) (runs others : List (List PutChunk)) → ((c : PutChunk) → Contains chunks c → IsTimed c) → AreRuns chunks runs → AreRuns chunks others → runs ≡ others
runs_once chunks runs others timed are too =
    are.runs_are ∙ cut_once chunks are.spans too.spans (as_cut chunks runs timed are) (as_cut chunks others timed too) ∙ sym too.runs_are
