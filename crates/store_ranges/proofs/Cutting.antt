-- Cutting a list into its longest stretches from its front on.
use Rattle.std.proofs.Common.{◌≡◌, ℕ, zero, suc, ◌+◌, ◌-◌, ◌<◌, ◌≤◌, List, [], ◌∷◌, ◌++◌, map, take, drop, length, get_or, sym, ap, subst, ◌∙◌, append_assoc, ◌⊎◌, inl, inr, arith}
use Rattle.std.specs.Prelude.{flat_map, All}
use Rattle.std.proofs.lemmas.List.{append-nil, drop_more, drop_all, drop-drop, take-append-drop, map_push}
use Rattle.std.proofs.lemmas.List.Elements.{All-nil, All-push}
use Rattle.store_ranges.specs.Stretches.{Stretch, members, last_behind, AreJoined, BeginAnew, AreStretches, stretch_at, IsSpanOf}
use Rattle.store_ranges.specs.declared.span.Span.{Span}
use Rattle.base.proofs.Numbers.{last_or_below}

abbrev pub span : ℕ → ℕ → Span
span start end = record { start = start; end = end }

-- what a list begins with behind so many members
head_at : (xs : List ℕ) (n y : ℕ) (ys : List ℕ) → y ∷ ys ≡ drop n xs → (n < length xs) × (get_or xs n 0 ≡ y)
head_at [] zero y ys is = absurd (cc)
head_at [] (suc n) y ys is = absurd (cc)
head_at (x ∷ xs) zero y ys is = (omega arith, cc)
head_at (x ∷ xs) (suc n) y ys is = let h = head_at xs n y ys is in (omega (arith, h.0), h.1)

-- a stretch and what comes behind it
parted : (list : List ℕ) (start end n : ℕ) → start < length list → (start + 1) + n ≡ end → get_or list start 0 ∷ (take n (drop (start + 1) list) ++ drop end list) ≡ drop start list
parted list start end n within is =
    let e : drop n (drop (start + 1) list) ≡ drop end list = drop-drop n (start + 1) list ∙ ap (λ k. drop k list) is in
    ap (λ (xs : List ℕ). get_or list start 0 ∷ (take n (drop (start + 1) list) ++ xs)) (sym e)
    ∙ ap (λ (xs : List ℕ). get_or list start 0 ∷ xs) (take-append-drop n (drop (start + 1) list))
    ∙ sym (drop_more list start 0 within)

module _ (Joins : ℕ → ℕ → Type 0) (list : List ℕ) where
  -- the member behind the one at a place joins it
  abbrev pub JoinsNext : ℕ → Type 0
  JoinsNext k = Joins (get_or list k 0) (get_or list (k + 1) 0)

  abbrev pub GoesOn : ℕ → Type 0
  GoesOn place = (place + 1 < length list) × JoinsNext place

  abbrev Upto : ℕ → ℕ → List ℕ → Type 0
  Upto start last xs = AreJoined Joins (get_or list start 0) xs × (last_behind (get_or list start 0) xs ≡ get_or list last 0)

  joined_upto : (n start last : ℕ) → start + n ≡ last → last < length list → ((k : ℕ) → start ≤ k → k < last → JoinsNext k) → Upto start last (take n (drop (start + 1) list))
  joined_upto zero start last is within joins =
      let e : start ≡ last = omega arith in
      (tt, ap (λ k. get_or list k 0) e)
  joined_upto (suc n) start last is within joins =
      let h : start + 1 < length list = omega arith in
      let later = joined_upto n (start + 1) last (omega arith) within (λ k a b. joins k (omega arith) b) in
      let F : List ℕ → Type 0 = λ xs. Upto start last (take (suc n) xs) in
      subst F (sym (drop_more list (start + 1) 0 h)) ((joins start (omega arith) (omega arith), later.0), later.1)

  anew : (place : ℕ) (rest : List (Stretch ℕ)) → (GoesOn place → ⊥) → flat_map members rest ≡ drop (place + 1) list → BeginAnew Joins (get_or list place 0) rest
  anew place [] stops is = tt
  anew place (next ∷ rest) stops is =
      let h = head_at list (place + 1) next.first (next.others ++ flat_map members rest) is in
      λ joins. stops (h.0, subst (Joins (get_or list place 0)) (sym h.1) joins)

  -- How far a list is cut: these spans are done, and the next stretch goes from its start to this place at least. Whatever cuts
  -- what is left completes them.
  pub record IsCutUpto (spans : List Span) (start place : ℕ) : Type 0 where
    pub low : start ≤ place
    pub joins : (k : ℕ) → start ≤ k → k < place → JoinsNext k
    pub ended : length list ≤ place → place ≤ start
    pub within : All (IsSpanOf list) spans
    pub completes : (rest : List (Stretch ℕ)) → AreStretches Joins (drop start list) rest → AreStretches Joins list (map (stretch_at list) spans ++ rest)

  pub cut_none : IsCutUpto [] 0 0
  cut_none = record {
    low = omega arith;
    joins = λ k a b. absurd (omega arith);
    ended = λ a. omega arith;
    within = All-nil (IsSpanOf list);
    completes = λ rest is. is;
  }

  more : (start place k : ℕ) → ((k : ℕ) → start ≤ k → k < place → JoinsNext k) → JoinsNext place → start ≤ k → (k < place) ⊎ (k ≡ place) → JoinsNext k
  more start place k joins on low (inl below) = joins k low below
  more start place k joins on low (inr here) = subst JoinsNext (sym here) on

  pub cut_on : (spans : List Span) (start place : ℕ) → GoesOn place → IsCutUpto spans start place → IsCutUpto spans start (place + 1)
  cut_on spans start place on upto = record {
    low = omega (arith, upto.low);
    joins = λ k a b. more start place k upto.joins on.1 a (last_or_below k place b);
    ended = λ a. absurd (omega (arith, on.0));
    within = upto.within;
    completes = upto.completes;
  }

  stretch_here : (start place : ℕ) (rest : List (Stretch ℕ)) → start ≤ place → place < length list → ((k : ℕ) → start ≤ k → k < place → JoinsNext k) → (GoesOn place → ⊥) → AreStretches Joins (drop (place + 1) list) rest → AreStretches Joins (drop start list) (stretch_at list (span start (place + 1)) ∷ rest)
  stretch_here start place rest low within joins stops is =
      let upto = joined_upto ((place + 1) - (start + 1)) start place (omega arith) within joins in
      record {
        whole = ap (λ (xs : List ℕ). get_or list start 0 ∷ (take ((place + 1) - (start + 1)) (drop (start + 1) list) ++ xs)) is.whole ∙ parted list start (place + 1) ((place + 1) - (start + 1)) (omega arith) (omega arith);
        joined = (upto.0, is.joined);
        longest = (subst (λ one. BeginAnew Joins one rest) (sym upto.1) (anew place rest stops is.whole), is.longest);
      }

  pub cut_here : (spans : List Span) (start place : ℕ) → place < length list → (GoesOn place → ⊥) → IsCutUpto spans start place → IsCutUpto (spans ++ span start (place + 1) ∷ []) (place + 1) (place + 1)
  cut_here spans start place within stops upto = record {
    low = omega arith;
    joins = λ k a b. absurd (omega arith);
    ended = λ a. omega arith;
    within = All-push (IsSpanOf list) spans (span start (place + 1)) upto.within (omega (arith, upto.low), omega (arith, within));
    completes = λ rest is.
        let e : map (stretch_at list) (spans ++ span start (place + 1) ∷ []) ++ rest ≡ map (stretch_at list) spans ++ (stretch_at list (span start (place + 1)) ∷ rest) = ap (λ (ss : List (Stretch ℕ)). ss ++ rest) (map_push (stretch_at list) spans (span start (place + 1))) ∙ append_assoc (map (stretch_at list) spans) (stretch_at list (span start (place + 1)) ∷ []) rest in
        subst (AreStretches Joins list) (sym e) (upto.completes (stretch_at list (span start (place + 1)) ∷ rest) (stretch_here start place rest upto.low within upto.joins stops is));
  }

  pub cut_all : (spans : List Span) (start place : ℕ) → length list ≤ place → IsCutUpto spans start place → AreStretches Joins list (map (stretch_at list) spans)
  cut_all spans start place all upto =
      subst (AreStretches Joins list) (append-nil (map (stretch_at list) spans))
      (upto.completes [] (record { whole = sym (drop_all start list (omega (arith, upto.ended all))); joined = tt; longest = tt }))

  -- one turn of a loop that cuts: the stretch ends here
  pub turn_here : (spans more : List Span) (start place next : ℕ) → place < length list → (GoesOn place → ⊥) → IsCutUpto spans start place → more ≡ spans ++ span start (place + 1) ∷ [] → next ≡ place + 1 → IsCutUpto more next (place + 1)
  turn_here spans more start place next within stops upto is so =
      subst (λ (ss : List Span). IsCutUpto ss next (place + 1)) (sym is)
      (subst (λ n. IsCutUpto (spans ++ span start (place + 1) ∷ []) n (place + 1)) (sym so) (cut_here spans start place within stops upto))

  -- it goes on
  pub turn_on : (spans more : List Span) (start place next : ℕ) → GoesOn place → IsCutUpto spans start place → more ≡ spans → next ≡ start → IsCutUpto more next (place + 1)
  turn_on spans more start place next on upto is so =
      subst (λ (ss : List Span). IsCutUpto ss next (place + 1)) (sym is)
      (subst (λ n. IsCutUpto spans n (place + 1)) (sym so) (cut_on spans start place on upto))
