-- A journal that came out of a shared world is the phases that its root knows, one after another.
use Rattle.std.proofs.Common.{◌≡◌, inl, inr, ℕ, ◌+◌, ◌<◌, ◌≤◌, ◌==◌, true, false, List, [], ◌∷◌, ◌++◌, length, map, Contains, refl, sym, ◌∙◌, ap, subst, append_assoc, append-nil, arith}
use Rattle.std.specs.List.{All, AllByRecursion}
use Rattle.std.proofs.lemmas.Bool.{cases_Bool, eq-eqb}
use Rattle.std.proofs.lemmas.Bool.Decides.{nat_tests}
use Rattle.std.proofs.lemmas.List.{length-append}
use Rattle.std.proofs.lemmas.List.Elements.{All-contains, Contains-append_left, Contains-append_right, All-from_recursion}
use Rattle.base.proofs.Lists.{cons_parts, filter_hit, filter_miss, nil_not_cons}
use Rattle.base.proofs.Membership.{all_members, contains_first, contains_later, each_member, into_flat_map, into_map, member_cases, member_passes, no_member, of_filter, of_flat_map, of_map}
use Rattle.base.proofs.Numbers.{above_zero}
use Rattle.std.specs.Prelude.{nat_lt, Some}
use Rattle.world_core.specs.Journals.{IsNumbered, entry_at, of_seat}
use Rattle.world_core.specs.declared.entry.Entry.{Entry}
use Rattle.world_turn.specs.Closing.{AllJoined, Closes}
use Rattle.world_turn.specs.Seats.{Stand}
use Rattle.world_turn.specs.declared.view.View.{View as Known}
use Rattle.script_running.specs.Cutting.{AreApart, AreParts, KnowsPhases, Passed}
use Rattle.lifecycle_core.proofs.deeds.Orders.{to_seat}
use Rattle.lifecycle_core.proofs.phases.Fronts.{seat_parts}

-- what was kept of a seat
abbrev Kept : Type 0
Kept = ℕ × List Entry

-- ---- numbers rise

abbrev Climbs : List Entry → Type 0
Climbs [] = Unit {0}
Climbs (e ∷ entries) = ((x : Entry) → Contains entries x → e.seq < x.seq) × Climbs entries

-- entries whose numbers go on from this one
abbrev Follow : ℕ → List Entry → Type 0
Follow number entries = ((x : Entry) → Contains entries x → number < x.seq) × Climbs entries

follow_more : (number : ℕ) (e : Entry) (entries : List Entry) → e.seq ≡ number + 1 → Follow e.seq entries → Follow number (e ∷ entries)
follow_more number e entries is rest = (
  (λ x among. elim (member_cases e x entries among) [
    | inl same ↦ let q : e.seq ≡ x.seq = ap (λ (y : Entry). y.seq) same in omega (arith, is, q)
    | inr later ↦ let less = rest.0 x later in omega (arith, is, less)
  ]),
  rest,
)

follow_from : (before entries : List Entry) → IsNumbered (before ++ entries) → Follow (length before) entries
follow_from before [] numbered = ((λ x among. absurd (no_member x among)), tt)
follow_from before (e ∷ entries) numbered =
    let same : (before ++ e ∷ []) ++ entries ≡ before ++ e ∷ entries = append_assoc before (e ∷ []) entries in
    let number : e.seq ≡ length before + 1 = numbered before entries e refl in
    let count : length (before ++ e ∷ []) ≡ e.seq = length-append before (e ∷ []) ∙ sym number in
    follow_more (length before) e entries number (subst (λ n. Follow n entries) count (follow_from (before ++ e ∷ []) entries (subst IsNumbered (sym same) numbered)))

climbs_back : (front back : List Entry) → Climbs (front ++ back) → Climbs back
climbs_back [] back climbs = climbs
climbs_back (e ∷ front) back climbs = climbs_back front back climbs.1

climbs_across : (front back : List Entry) (x y : Entry) → Climbs (front ++ back) → Contains front x → Contains back y → x.seq < y.seq
climbs_across [] back x y climbs one two = absurd (no_member x one)
climbs_across (e ∷ front) back x y climbs one two = elim (member_cases e x front one) [
  | inl same ↦ subst (λ (z : Entry). z.seq < y.seq) same (climbs.0 y (Contains-append_right front back y two))
  | inr later ↦ climbs_across front back x y climbs.1 later two
]

-- ---- entries of a seat

nobody : {X : Type 0} (xs : List X) → ((x : X) → Contains xs x → ⊥) → xs ≡ []
nobody [] none = refl
nobody (x ∷ xs) none = absurd (none x (contains_first x xs))

miss : (a b : ℕ) → a ≡ 0 → 0 < b → (a == b) ≡ false
miss a b none some = grind (arith, nat_tests)

is_zero : (a : ℕ) → (a == 0) ≡ true → a ≡ 0
is_zero a test = grind (arith, nat_tests)

inside : (seat : ℕ) (entries : List Entry) (e : Entry) → Contains (of_seat seat entries) e → Contains entries e
inside seat entries e among = of_filter (λ (x : Entry). x.seat == seat) entries e among

-- ---- up to the next clock

abbrev BeginsAtZero : List Entry → Type 0
BeginsAtZero [] = Unit {0}
BeginsAtZero (e ∷ entries) = e.seat ≡ 0

record CutAt (entries : List Entry) : Type 0 where
  made : List Entry
  others : List Entry
  parts : entries ≡ made ++ others
  working : (e : Entry) → Contains made e → 0 < e.seat
  next : BeginsAtZero others

cut_on : (e : Entry) (entries : List Entry) → 0 < e.seat → CutAt entries → CutAt (e ∷ entries)
cut_on e entries some cut = record {
  made = e ∷ cut.made;
  others = cut.others;
  parts = ap (λ (l : List Entry). e ∷ l) cut.parts;
  working = λ x among. elim (member_cases e x cut.made among) [
    | inl same ↦ subst (λ (y : Entry). 0 < y.seat) same some
    | inr later ↦ cut.working x later
  ];
  next = cut.next;
}

cut_at : (entries : List Entry) → CutAt entries
cut_at [] = record { made = []; others = []; parts = refl; working = λ e among. absurd (no_member e among); next = tt }
cut_at (e ∷ entries) = elim (cases_Bool (e.seat == 0)) [
  | inl test ↦ record { made = []; others = e ∷ entries; parts = refl; working = λ x among. absurd (no_member x among); next = is_zero e.seat test }
  | inr test ↦ cut_on e entries (above_zero e.seat test) (cut_at entries)
]

-- ---- the phases that are left

-- the entries of a worker of a phase stand before the clocks of the later phases
abbrev Precede : List Passed → Type 0
Precede [] = Unit {0}
Precede (one ∷ passed) =
    ((later : Passed) (kept : Kept) (e : Entry) → Contains passed later → Contains one.kept kept → Contains kept.1 e → e.seq < later.clock.seq)
    × Precede passed

-- the worker of a phase that has this seat
record Worker (passed : List Passed) (seat : ℕ) : Type 0 where
  phase : Passed
  kept : Kept
  one_of : Contains passed phase
  of_phase : Contains phase.kept kept
  seat_is : kept.0 ≡ seat

-- what is left of the journal has these phases' clocks and workers' entries, and no others
record IsLeft (entries : List Entry) (passed : List Passed) : Type 0 where
  climbs : Climbs entries
  clocks : map (λ (one : Passed). one.clock) passed ≡ of_seat 0 entries
  own : (one : Passed) (kept : Kept) → Contains passed one → Contains one.kept kept → (0 < kept.0) × (kept.1 ≡ of_seat kept.0 entries)
  workers : (e : Entry) → Contains entries e → 0 < e.seat → Worker passed e.seat
  behind : (one : Passed) (kept : Kept) (e : Entry) → Contains passed one → Contains one.kept kept → Contains kept.1 e → one.clock.seq < e.seq
  before : Precede passed

clock_among : (entries : List Entry) (passed : List Passed) (one : Passed) → IsLeft entries passed → Contains passed one → Contains entries one.clock
clock_among entries passed one l among = inside 0 entries one.clock (subst (λ (es : List Entry). Contains es one.clock) l.clocks (into_map (λ (p : Passed). p.clock) passed one among))

-- an entry of a worker is one of those kept
worked : (entries : List Entry) (passed : List Passed) (l : IsLeft entries passed) (e : Entry) → Contains entries e → (w : Worker passed e.seat) → Contains (w.kept).1 e
worked entries passed l e among w =
    subst (λ (es : List Entry). Contains es e) (sym (l.own w.phase w.kept w.one_of w.of_phase).1) (to_seat (w.kept).0 entries e among (sym w.seat_is))

-- the first entry is the clock's
never_first : (e : Entry) (entries : List Entry) (passed : List Passed) → IsLeft (e ∷ entries) passed → 0 < e.seat → ⊥
never_first e entries passed l some =
    let w = l.workers e (contains_first e entries) some in
    let less = l.behind w.phase w.kept e w.one_of w.of_phase (worked (e ∷ entries) passed l e (contains_first e entries) w) in
    elim (member_cases e w.phase.clock entries (clock_among (e ∷ entries) passed w.phase l w.one_of)) [
      | inl same ↦ let q : e.seq ≡ w.phase.clock.seq = ap (λ (x : Entry). x.seq) same in omega (arith, less, q)
      | inr later ↦ let more = l.climbs.0 w.phase.clock later in omega (arith, less, more)
    ]

-- an entry of what is left whose number is below each later clock's would stand before the first of them
before_next : (others : List Entry) (passed : List Passed) → BeginsAtZero others → Climbs others → map (λ (p : Passed). p.clock) passed ≡ of_seat 0 others → (e : Entry) → Contains others e
    → ((later : Passed) → Contains passed later → e.seq < later.clock.seq) → ⊥
before_next [] passed next climbs clocks e among below = no_member e among
before_next (c ∷ others) [] next climbs clocks e among below = nil_not_cons c (of_seat 0 others) (clocks ∙ filter_hit (λ (x : Entry). x.seat == 0) c others (eq-eqb c.seat 0 next))
before_next (c ∷ others) (p ∷ passed) next climbs clocks e among below =
    let same = (cons_parts p.clock c (map (λ (p : Passed). p.clock) passed) (of_seat 0 others) (clocks ∙ filter_hit (λ (x : Entry). x.seat == 0) c others (eq-eqb c.seat 0 next))).0 in
    let q : p.clock.seq ≡ c.seq = ap (λ (x : Entry). x.seq) same in
    let less = below p (contains_first p passed) in
    elim (member_cases c e others among) [
      | inl here ↦ let r : c.seq ≡ e.seq = ap (λ (x : Entry). x.seq) here in omega (arith, q, r, less)
      | inr later ↦ let more = climbs.0 e later in omega (arith, q, more, less)
    ]

module _ (clock : Entry) (made others : List Entry) (one : Passed) (passed : List Passed) (zeroth : clock.seat ≡ 0) (working : (e : Entry) → Contains made e → 0 < e.seat) (next : BeginsAtZero others)
    (l : IsLeft (clock ∷ made ++ others) (one ∷ passed)) where
  abbrev all : List Entry
  all = clock ∷ made ++ others

  in_made : (e : Entry) → Contains made e → Contains all e
  in_made e among = contains_later clock e (made ++ others) (Contains-append_left made others e among)

  in_others : (e : Entry) → Contains others e → Contains all e
  in_others e among = contains_later clock e (made ++ others) (Contains-append_right made others e among)

  -- entries of a worker's seat
  of_worker : (seat : ℕ) → 0 < seat → of_seat seat all ≡ of_seat seat made ++ of_seat seat others
  of_worker seat some = filter_miss (λ (e : Entry). e.seat == seat) clock (made ++ others) (miss clock.seat seat zeroth some) ∙ seat_parts seat made others

  no_zero_made : (e : Entry) → Contains (of_seat 0 made) e → ⊥
  no_zero_made e among =
      let some = working e (inside 0 made e among) in
      let none = is_zero e.seat (member_passes (λ (x : Entry). x.seat == 0) made e among) in
      omega (arith, some, none)

  clocks_first : of_seat 0 all ≡ clock ∷ of_seat 0 others
  clocks_first =
      filter_hit (λ (e : Entry). e.seat == 0) clock (made ++ others) (eq-eqb clock.seat 0 zeroth)
      ∙ ap (λ (es : List Entry). clock ∷ es) (seat_parts 0 made others ∙ ap (λ (es : List Entry). es ++ of_seat 0 others) (nobody (of_seat 0 made) no_zero_made))

  same_clock : one.clock ≡ clock
  same_clock = (cons_parts one.clock clock (map (λ (p : Passed). p.clock) passed) (of_seat 0 others) (l.clocks ∙ clocks_first)).0

  later_clocks : map (λ (p : Passed). p.clock) passed ≡ of_seat 0 others
  later_clocks = (cons_parts one.clock clock (map (λ (p : Passed). p.clock) passed) (of_seat 0 others) (l.clocks ∙ clocks_first)).1

  -- what a worker of a later phase made is not of this phase
  not_later : (later : Passed) (kept : Kept) (e : Entry) → Contains passed later → Contains later.kept kept → Contains kept.1 e → Contains made e → ⊥
  not_later later kept e of_later of_phase of_kept among =
      let at : Contains others later.clock = inside 0 others later.clock (subst (λ (es : List Entry). Contains es later.clock) later_clocks (into_map (λ (p : Passed). p.clock) passed later of_later)) in
      let less = climbs_across made others e later.clock l.climbs.1 among at in
      let more = l.behind later kept e (contains_later one later passed of_later) of_phase of_kept in
      omega (arith, less, more)

  -- what a worker of this phase made stands before the next clock
  not_first : (kept : Kept) (e : Entry) → Contains one.kept kept → Contains kept.1 e → Contains others e → ⊥
  not_first kept e of_phase of_kept among = before_next others passed next (climbs_back made others l.climbs.1) later_clocks e among (λ later of_later. l.before.0 later kept e of_later of_phase of_kept)

  kept_made : (kept : Kept) → Contains one.kept kept → kept.1 ≡ of_seat kept.0 made
  kept_made kept among =
      let k = l.own one kept (contains_first one passed) among in
      let is : kept.1 ≡ of_seat kept.0 made ++ of_seat kept.0 others = k.1 ∙ of_worker kept.0 k.0 in
      let none : of_seat kept.0 others ≡ [] = nobody (of_seat kept.0 others) (λ e there.
      not_first kept e among (subst (λ (es : List Entry). Contains es e) (sym is) (Contains-append_right (of_seat kept.0 made) (of_seat kept.0 others) e there)) (inside kept.0 others e there)) in
      is ∙ ap (λ (es : List Entry). of_seat kept.0 made ++ es) none ∙ append-nil (of_seat kept.0 made)

  kept_later : (later : Passed) (kept : Kept) → Contains passed later → Contains later.kept kept → kept.1 ≡ of_seat kept.0 others
  kept_later later kept of_later among =
      let k = l.own later kept (contains_later one later passed of_later) among in
      let is : kept.1 ≡ of_seat kept.0 made ++ of_seat kept.0 others = k.1 ∙ of_worker kept.0 k.0 in
      let none : of_seat kept.0 made ≡ [] = nobody (of_seat kept.0 made) (λ e there.
      not_later later kept e of_later among (subst (λ (es : List Entry). Contains es e) (sym is) (Contains-append_left (of_seat kept.0 made) (of_seat kept.0 others) e there)) (inside kept.0 made e there)) in
      is ∙ ap (λ (es : List Entry). es ++ of_seat kept.0 others) none

  seat_made : (e : Entry) → Contains made e → Contains (map (λ (kept : Kept). kept.0) one.kept) e.seat
  seat_made e among =
      let w = l.workers e (in_made e among) (working e among) in
      elim (member_cases one w.phase passed w.one_of) [
        | inl same ↦ subst (Contains (map (λ (kept : Kept). kept.0) one.kept)) w.seat_is (into_map (λ (kept : Kept). kept.0) one.kept w.kept (subst (λ (p : Passed). Contains p.kept w.kept) (sym same) w.of_phase))
        | inr later ↦ absurd (not_later w.phase w.kept e later w.of_phase (worked all (one ∷ passed) l e (in_made e among) w) among)
      ]

  worker_later : (e : Entry) → Contains others e → 0 < e.seat → Worker passed e.seat
  worker_later e among some =
      let w = l.workers e (in_others e among) some in
      elim (member_cases one w.phase passed w.one_of) [
        | inl same ↦ absurd (not_first w.kept e (subst (λ (p : Passed). Contains p.kept w.kept) (sym same) w.of_phase) (worked all (one ∷ passed) l e (in_others e among) w) among)
        | inr later ↦ record { phase = w.phase; kept = w.kept; one_of = later; of_phase = w.of_phase; seat_is = w.seat_is }
      ]

  rest_is_left : IsLeft others passed
  rest_is_left = record {
    climbs = climbs_back made others l.climbs.1;
    clocks = later_clocks;
    own = λ later kept of_later among. ((l.own later kept (contains_later one later passed of_later) among).0, kept_later later kept of_later among);
    workers = worker_later;
    behind = λ later kept e of_later. l.behind later kept e (contains_later one later passed of_later);
    before = l.before.1;
  }

  seats_made : All (λ (e : Entry). Contains (map (λ (kept : Kept). kept.0) one.kept) e.seat) made
  seats_made = All-from_recursion (λ (e : Entry). Contains (map (λ (kept : Kept). kept.0) one.kept) e.seat) made (all_members (λ (e : Entry). Contains (map (λ (kept : Kept). kept.0) one.kept) e.seat) made seat_made)

  first_part : (entries : List Entry) → entries ≡ clock ∷ made ++ others → AreParts passed others → AreParts (one ∷ passed) entries
  first_part entries is later = (made, others, is ∙ ap (λ (e : Entry). e ∷ made ++ others) (sym same_clock), seats_made, all_members (λ (kept : Kept). kept.1 ≡ of_seat kept.0 made) one.kept kept_made, later)

none_left : (entries : List Entry) → IsLeft entries [] → entries ≡ []
none_left [] l = refl
none_left (e ∷ entries) l = elim (cases_Bool (e.seat == 0)) [
  | inl test ↦ absurd (nil_not_cons e (of_seat 0 entries) (l.clocks ∙ filter_hit (λ (x : Entry). x.seat == 0) e entries test))
  | inr test ↦ let w = l.workers e (contains_first e entries) (above_zero e.seat test) in absurd (no_member w.phase w.one_of)
]

left_parts : (passed : List Passed) (entries : List Entry) → IsLeft entries passed → AreParts passed entries
left_parts [] entries l = none_left entries l
left_parts (one ∷ passed) [] l = absurd (nil_not_cons one.clock (map (λ (p : Passed). p.clock) passed) (sym l.clocks))
left_parts (one ∷ passed) (e ∷ entries) l = elim (cases_Bool (e.seat == 0)) [
  | inl test ↦
      let cut = cut_at entries in
      let is : e ∷ entries ≡ e ∷ cut.made ++ cut.others = ap (λ (es : List Entry). e ∷ es) cut.parts in
      let l' = subst (λ (es : List Entry). IsLeft es (one ∷ passed)) is l in
      let zeroth = is_zero e.seat test in
      first_part e cut.made cut.others one passed zeroth cut.working cut.next l' (e ∷ entries) is
      (left_parts passed cut.others (rest_is_left e cut.made cut.others one passed zeroth cut.working cut.next l'))
  | inr test ↦ absurd (never_first e entries (one ∷ passed) l (above_zero e.seat test))
]

-- ---- the whole journal

precede : (front : List Entry) (passed : List Passed) → AreApart front passed → Precede passed
precede front [] apart = tt
precede front (one ∷ passed) apart = (
  (λ later kept e of_later among of_kept.
      let all = All-contains (λ (p : Passed). AllByRecursion (λ (k : Kept). All (λ (x : Entry). x.seq < p.clock.seq) k.1) one.kept) passed later apart.1 of_later in
      All-contains (λ (x : Entry). x.seq < later.clock.seq) kept.1 e (each_member (λ (k : Kept). All (λ (x : Entry). x.seq < later.clock.seq) k.1) one.kept kept all among) of_kept),
  precede front passed apart.2,
)

stand_behind : (front : List Entry) (passed : List Passed) → AreApart front passed → (one : Passed) (kept : Kept) (e : Entry) → Contains passed one → Contains one.kept kept → Contains kept.1 e → one.clock.seq < e.seq
stand_behind front [] apart one kept e of_passed among of_kept = absurd (no_member one of_passed)
stand_behind front (first ∷ passed) apart one kept e of_passed among of_kept = elim (member_cases first one passed of_passed) [
  | inl same ↦
      let all = subst (λ (p : Passed). AllByRecursion (λ (k : Kept). Stand p.clock.seq k.1 front) p.kept) same apart.0 in
      (each_member (λ (x : Entry). (one.clock.seq < x.seq) × (entry_at front x.seq ≡ Some x)) kept.1 e (each_member (λ (k : Kept). Stand one.clock.seq k.1 front) one.kept kept all among) of_kept).0
  | inr later ↦ stand_behind front passed apart.2 one kept e later among of_kept
]

module _ (known : Known) (tick : ℕ) (journal : List Entry) (passed : List Passed) (closes : Closes known tick journal) (joined : AllJoined known) (knows : KnowsPhases known passed) where
  kept_of : (one : Passed) (kept : Kept) → Contains passed one → Contains one.kept kept → (0 < kept.0) × (kept.1 ≡ of_seat kept.0 journal)
  kept_of one kept of_passed among = (
    All-contains (λ (k : Kept). 0 < k.0) one.kept kept (All-contains (λ (p : Passed). All (λ (k : Kept). 0 < k.0) p.kept) passed one knows.seats of_passed) among,
    each_member (λ (k : Kept). k.1 ≡ of_seat k.0 journal) known.joined kept closes.joined
        (subst (λ (ks : List Kept). Contains ks kept) (sym knows.joined) (into_flat_map (λ (p : Passed). p.kept) passed one kept of_passed among)),
  )

  seat_made_once : (e : Entry) → Contains journal e → e.seat < known.seats
  seat_made_once e among = elim (cases_Bool (nat_lt e.seat known.seats)) [
    | inl test ↦ grind (arith, nat_tests)
    | inr test ↦
        let beyond : known.seats ≤ e.seat = grind (arith, nat_tests) in
        absurd (no_member e (subst (λ (es : List Entry). Contains es e) (closes.nobody e.seat beyond) (to_seat e.seat journal e among refl)))
  ]

  worker_of : (e : Entry) → Contains journal e → 0 < e.seat → Worker passed e.seat
  worker_of e among some =
      let kept = of_map (λ (k : Kept). k.0) known.joined e.seat (joined e.seat some (seat_made_once e among)) in
      let phase = of_flat_map (λ (p : Passed). p.kept) passed kept.0 (subst (λ (ks : List Kept). Contains ks kept.0) knows.joined kept.1) in
      record { phase = phase.0; kept = kept.0; one_of = phase.1; of_phase = phase.2; seat_is = kept.2 }

  pub parts : IsNumbered journal → AreParts passed journal
  parts numbered = left_parts passed journal (record {
    climbs = (follow_from [] journal numbered).1;
    clocks = sym knows.own ∙ closes.own;
    own = kept_of;
    workers = worker_of;
    behind = stand_behind known.front passed knows.apart;
    before = precede known.front passed knows.apart;
  })
