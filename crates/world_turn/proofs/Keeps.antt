-- Each step keeps the rule.
use Rattle.std.proofs.Common.{◌≡◌, ◌≢◌, ◌⊎◌, ℕ, zero, suc, ◌+◌, ◌%◌, ◌^◌, ◌<◌, ◌≤◌, eqb, eq-eqb, ne_eqb, List, [], ◌∷◌, ◌++◌, length, set, max, Bool, true, false, true≢false, Option, Some, None, refl, sym, ap, ap₂, ◌∙◌, subst, inl, inr, length-set, ⊎_elim, arith, length-append, mod-eq_of_lt}
use mathlib.Core.Logic.{dite}
use mathlib.Core.Option.{some, none, some-injective, some-ne-none}
use native.Mathlib.Decide.{ℕ_discrete}
use lib.ListN.{get_elem?}
use lib.Seq.{set-get_or}
use prog.Atomic.{either}
use Rattle.std.specs.Prelude.{slice_index, map, Contains}
use Rattle.std.specs.List.{AllByRecursion}
use mathlib.Core.List.{IsPrefix}
use Rattle.atomic_table.specs.Table.{State, Me, Step, step, opening, Final, Seen, Act, keeps, takes, gives, stepped, rest, put_back, Allows, Splits, Joins}
use Rattle.bucket_core.specs.Asking.{Call}
use Rattle.bucket_core.specs.Told.{BucketTold}
use Rattle.atomic_table.proofs.Lists.{at_last, at_set, set_again, set_here, set_else, at_longer}
use Rattle.std.proofs.lemmas.List.{map-append}
use Rattle.std.proofs.lemmas.List.Elements.{Contains-append_left, Contains-push}
use Rattle.std.proofs.lemmas.Bool.{or_left, or_right, false_from_ne_true}
use Rattle.world_core.specs.declared.entry.Entry.{Entry}
use Rattle.world_turn.specs.declared.view.View.{View}
use Rattle.world_core.specs.Journals.{of_seat}
use Rattle.world_turn.specs.Rule.{Fits, HasSeat, IsAsked, IsFrom, IsKept, IsSeen, IsToldWanted, Opened, Rule, SomeView, opened_of, root, spent}
use Rattle.world_turn.specs.Closing.{AllJoined, Closes}
use Rattle.world_turn.specs.Steps.{holding, adding, leaving, leaving_full, leaving_short, looking, one_more, next_seat, joining, comparing, Lies, Takes, Appends, Gives, GivesFull, GivesShort, Counts, Compares}
use Rattle.world_turn.proofs.Fronts.{of_seat-own, of_seat-other, front_whole, front_none, front_more, front_length, no_front, one_last, longer_front, longer_first, longer_second, longer_whole}
use Rattle.base.proofs.Lists.{AllByRecursion-weaker, AllByRecursion-push}

at_lt : {A : Type 0} (l : List A) (i : ℕ) (a : A) → get_elem? l i ≡ some a → i < length l
at_lt [] i a e = absurd (some-ne-none a (sym e))
at_lt (x ∷ xs) zero a e = omega arith
at_lt (x ∷ xs) (suc i) a e = let h = at_lt xs i a e in omega arith

max_le : (a b n : ℕ) → a ≤ n → b ≤ n → max a b ≤ n
max_le a b n h k = omega arith

-- a member of a list with one more at its end
snoc_at : {A : Type 0} (l : List A) (a b : A) (j : ℕ) → get_elem? (l ++ a ∷ []) j ≡ some b → (get_elem? l j ≡ some b) ⊎ ((a ≡ b) × (j ≡ length l))
snoc_at [] a b zero e = inr (some-injective a b e, refl)
snoc_at [] a b (suc j) e = absurd (some-ne-none b (sym e))
snoc_at (x ∷ xs) a b zero e = inl e
snoc_at (x ∷ xs) a b (suc j) e = ⊎_elim (λ h. inl h) (λ (h : (a ≡ b) × (j ≡ length xs)). inr (h.0, ap suc h.1)) (snoc_at xs a b j e)

-- what holds of some view still does, if a view that changes keeps it
some_still : (P : View → Type 0) (views : List View) (id : ℕ) (v w : View) → get_elem? views id ≡ some v → (P v → P w) → SomeView P views → SomeView P (set views id w)
some_still P views id v w at more t =
    dite (ℕ_discrete t.0 id)
    (λ same. let is : t.1 ≡ v = some-injective _ _ (sym t.2 ∙ (ap (get_elem? views) same ∙ at)) in (id, w, set_here views id w (at_lt views id v at), more (subst P is t.3)))
    (λ apart. (t.0, t.1, set_else views id t.0 w apart ∙ t.2, t.3))

-- so it does beside further views
some_longer : (P : View → Type 0) (views more : List View) → SomeView P views → SomeView P (views ++ more)
some_longer P views more t = (t.0, t.1, at_longer views more t.0 t.1 t.2, t.3)

seat_still : (views : List View) (joined joined' : List (ℕ × List Entry)) (id : ℕ) (v w : View) (seat : ℕ) → get_elem? views id ≡ some v → ((v.live ≡ true) × (v.seat ≡ seat) → (w.live ≡ true) × (w.seat ≡ seat))
    → (Contains (map (λ kept. kept.0) joined) seat → Contains (map (λ kept. kept.0) joined') seat) → HasSeat views joined seat → HasSeat (set views id w) joined' seat
seat_still views joined joined' id v w seat at more kept = ⊎_elim (λ t. inl (some_still (λ u. (u.live ≡ true) × (u.seat ≡ seat)) views id v w at more t)) (λ c. inr (kept c))

joined_longer : (joined : List (ℕ × List Entry)) (seat : ℕ) (own : List Entry) (n : ℕ) → Contains (map (λ kept. kept.0) joined) n → Contains (map (λ kept. kept.0) (joined ++ (seat, own) ∷ [])) n
joined_longer joined seat own n c = subst (λ l. Contains l n) (sym (map-append (λ kept. kept.0) joined ((seat, own) ∷ []))) (Contains-append_left (map (λ kept. kept.0) joined) (seat ∷ []) n c)

joined_last : (joined : List (ℕ × List Entry)) (seat : ℕ) (own : List Entry) (n : ℕ) → seat ≡ n → Contains (map (λ kept. kept.0) (joined ++ (seat, own) ∷ [])) n
joined_last joined seat own n is = subst (λ l. Contains l n) (sym (map-append (λ kept. kept.0) joined ((seat, own) ∷ []))) (subst (Contains (map (λ kept. kept.0) joined ++ seat ∷ [])) is (Contains-push (map (λ kept. kept.0) joined) seat))

-- what holds of some view does so when one is given up, or it held of that one
some_given : (P : View → Type 0) (views : List View) (id : ℕ) (v w : View) → get_elem? views id ≡ some v → SomeView P views → SomeView P (set views id w) ⊎ P v
some_given P views id v w at t =
    dite (ℕ_discrete t.0 id)
    (λ same. let is : t.1 ≡ v = some-injective _ _ (sym t.2 ∙ (ap (get_elem? views) same ∙ at)) in inr (subst P is t.3))
    (λ apart. inl (t.0, t.1, set_else views id t.0 w apart ∙ t.2, t.3))

-- where nothing lies beside the front of a view that has seen the whole journal, the front is that
bare_front : (v : View) (log : List Entry) → v.beside ≡ [] → IsPrefix v.front log → (v.front ≡ log) ⊎ (v.beside ≡ log) → v.front ≡ log
bare_front v log bare begins = ⊎_elim
    (λ m. m)
    (λ (m : v.beside ≡ log). let none : log ≡ [] = sym m ∙ bare in no_front v.front begins.0 (begins.1 ∙ none) ∙ sym none)

module _ {W : Type 0} (journal : W → List Entry) (ticks : W → ℕ) (tells : W → BucketTold) (opened : Opened) where
  abbrev St : Type 0
  St = State (Option W) View

  abbrev M : Type 0
  M = Me (Option W) View

  abbrev R : St → Type 0
  R = Rule journal ticks tells opened

  abbrev From : Opened → W → Type 0
  From = IsFrom journal ticks tells

  abbrev Asked : Opened → W → Type 0
  Asked = IsAsked journal tells

  -- what a step may change of the rule's own data
  abbrev Free : List (mathlib.Core.Option.Option (Option W)) → ℕ → Bool → List Entry → Type 0
  Free homes turn wanted log = turn ≡ 0 → (w : W) × (homes ≡ some (Some w) ∷ []) × (journal w ≡ log) × From opened w × (wanted ≡ false → Asked opened w)

  abbrev Taken : List (mathlib.Core.Option.Option (Option W)) → ℕ → ℕ → List View → Type 0
  Taken homes turn holder views = turn ≢ 0 → (turn ≡ 1) × (homes ≡ none ∷ []) × ((v : View) × (get_elem? views holder ≡ some v) × (v.holds ≡ true))

  -- the view of another seat, after the journal has grown
  others_fit : (turn holder turn' holder' : ℕ) (wanted wanted' : Bool) (log log' : List Entry) (seats : ℕ) (joined : List (ℕ × List Entry)) (place : ℕ → ℕ) (j : ℕ) (u : View) → IsPrefix log log'
      → (u.live ≡ true → of_seat u.seat log ≡ of_seat u.seat log') → (u.holds ≡ true → (turn' ≡ 1) × (j ≡ holder') × (u.held ≡ log') × (u.held_wanted ≡ wanted'))
      → Fits turn holder wanted opened log seats joined place j u → Fits turn' holder' wanted' opened log' seats joined place j u
  others_fit turn holder turn' holder' wanted wanted' log log' seats joined place j u grown same held f =
      let l = front_length log log' grown in
      let k = f.known in
      record {
        front = front_more u.front log log' f.front grown;
        known = omega arith;
        comes = f.comes;
        own = λ live. f.own live ∙ same live;
        seated = f.seated;
        beside = front_more u.beside log log' f.beside grown;
        rooted = f.rooted;
        holds = λ h. let x = held h in (x.0, x.1, (f.holds h).2, x.2, x.3);
      }

  -- A seat has a new view, and the journal may have grown by entries of that seat.
  moved : (s : St) (r : R s) (words : List ℕ) (homes : List (mathlib.Core.Option.Option (Option W))) (id : ℕ) (v w : View) (turn holder : ℕ) (wanted : Bool) (log : List Entry)
      → get_elem? s.views id ≡ some v → v.live ≡ true → w.live ≡ true → w.seat ≡ v.seat → IsPrefix r.log log
      → ((seat : ℕ) → seat ≢ v.seat → of_seat seat r.log ≡ of_seat seat log)
      → ((j : ℕ) (u : View) → j ≢ id → get_elem? s.views j ≡ some u → u.holds ≡ true → (turn ≡ 1) × (j ≡ holder) × (u.held ≡ log) × (u.held_wanted ≡ wanted))
      → words ≡ length log ∷ turn ∷ []
      → Fits turn holder wanted opened log r.seats r.joined r.place id w
      → Free homes turn wanted log
      → Taken homes turn holder (set s.views id w)
      → (wanted ≡ true → IsToldWanted (set s.views id w))
      → IsSeen log (set s.views id w)
      → R record { words = words; homes = homes; views = set s.views id w }
  moved s r words homes id v w turn holder wanted log at live live' seat grown same held words_are mine free taken told longest =
      let mine_before = r.each id v at in
      let own_seat = mine_before.seated live in
      record {
        turn = turn;
        holder = holder;
        wanted = wanted;
        log = log;
        seats = r.seats;
        joined = r.joined;
        place = r.place;
        words = words_are;
        each = λ j u e. ⊎_elim
            (λ (t : (j ≡ id) × (w ≡ u)). subst (λ (x : ℕ × View). Fits turn holder wanted opened log r.seats r.joined r.place x.0 x.1) (λ i. (sym t.0 i, t.1 i)) mine)
            (λ (t : (j ≢ id) × (get_elem? s.views j ≡ some u)).
            let f = r.each j u t.1 in
            others_fit r.turn r.holder turn holder r.wanted wanted r.log log r.seats r.joined r.place j u grown
            (λ l. same u.seat (λ e'. t.0 (sym ((f.seated l).1) ∙ (ap r.place e' ∙ own_seat.1)))) (λ h. held j u t.0 t.1 h) f)
            (at_set s.views id j w u e);
        kept = AllByRecursion-weaker (IsKept r.log s.views r.seats) (IsKept log (set s.views id w) r.seats) (λ k i. record {
          own = i.own ∙ same k.0 (λ e. i.gone id v at live (sym e));
          seated = i.seated;
          gone = λ j u e l. ⊎_elim
              (λ (t : (j ≡ id) × (w ≡ u)). λ (is : u.seat ≡ k.0). i.gone id v at live (sym seat ∙ (ap (λ (x : View). x.seat) t.1 ∙ is)))
              (λ (t : (j ≢ id) × (get_elem? s.views j ≡ some u)). i.gone j u t.1 l)
              (at_set s.views id j w u e);
        }) r.joined r.kept;
        nobody = λ n le. sym (same n (λ e. let a = own_seat.0 in absurd (omega arith))) ∙ r.nobody n le;
        free = free;
        taken = taken;
        told = told;
        longest = longest;
        everybody = λ n lt. seat_still s.views r.joined r.joined id v w n at (λ m. (live', seat ∙ m.1)) (λ c. c) (r.everybody n lt);
      }

  -- a live view says that memory was wanted, if one did before
  told_still : (s : St) (r : R s) (id : ℕ) (v w : View) → get_elem? s.views id ≡ some v → w.live ≡ true → (v.wanted ≡ true → w.wanted ≡ true) → r.wanted ≡ true → IsToldWanted (set s.views id w)
  told_still s r id v w at live more so = some_still (λ u. (u.live ≡ true) × (u.wanted ≡ true)) s.views id v w at (λ m. (live, more m.1)) (r.told so)

  -- the whole journal is still a front
  longest_still : (s : St) (r : R s) (id : ℕ) (v w : View) → get_elem? s.views id ≡ some v → w.live ≡ true → w.front ≡ v.front → w.beside ≡ v.beside → IsSeen r.log (set s.views id w)
  longest_still s r id v w at live front beside =
      some_still (λ u. (u.live ≡ true) × ((u.front ≡ r.log) ⊎ (u.beside ≡ r.log))) s.views id v w at (λ m. (live, ⊎_elim (λ q. inl (front ∙ q)) (λ q. inr (beside ∙ q)) m.1)) r.longest

  -- no other seat holds the turn
  alone : (s : St) (r : R s) (id : ℕ) (v : View) → get_elem? s.views id ≡ some v → v.holds ≡ true → (j : ℕ) (u : View) → j ≢ id → get_elem? s.views j ≡ some u → u.holds ≡ true → ⊥
  alone s r id v at h j u apart at' h' = apart (((r.each j u at').holds h').1 ∙ sym (((r.each id v at).holds h).1))

  -- nothing changed
  unmoved : (s : St) (r : R s) (i id : ℕ) (v : View) → get_elem? s.views id ≡ some v → R record { words = set s.words i (slice_index s.words i); homes = s.homes; views = set s.views id v }
  unmoved s r i id v at =
      subst (λ (ws : List ℕ). R record { words = ws; homes = s.homes; views = set s.views id v }) (sym (set-get_or s.words i 0))
      (subst (λ (vs : List View). R record { words = s.words; homes = s.homes; views = vs }) (sym (set_again s.views id v at)) r)

  take_at : (s : St) (r : R s) (slots id : ℕ) (v : View) (c : List (ℕ × Option W)) (n : ℕ) → n ≡ r.turn → get_elem? s.views id ≡ some v → v.live ≡ true → Dec (n ≡ 0) → n ≡ slice_index s.words 1
      → (w : View) × (a : Act (Option W)) × Rattle.atomic_table.specs.Table.Valid s.homes c a × R (stepped s 1 (either (eqb n 0) 1 n) id c w a)
      × Takes journal ticks tells (step slots 1 0 1 none) (v, c) n (w, Rattle.atomic_table.specs.Table.carried_after c a)
  take_at s r slots id v c n is at live (yes z) here =
      let f = r.each id v at in
      let h = r.free (sym is ∙ z) in
      let w = holding v (journal h.0) r.wanted in
      let homes : set s.homes 0 none ≡ none ∷ [] = ap (λ hs. set hs 0 none) h.1 in (
        w,
        takes 0 (Some h.0),
        ap (λ hs. get_elem? hs 0) h.1,
        subst (λ (b : Bool). R (stepped s 1 (either b 1 n) id c w (takes 0 (Some h.0)))) (sym (eq-eqb n 0 z))
            (moved s r (set s.words 1 1) (set s.homes 0 none) id v w 1 id r.wanted r.log at live live refl (front_whole r.log) (λ _ _. refl)
            (λ j u apart at' h'. let t = (f' j u at').holds h' in absurd (turned t.0 (sym is ∙ z)))
            (ap (λ ws. set ws 1 1) r.words)
            record { front = f.front; known = f.known; comes = f.comes; own = f.own; seated = f.seated; beside = f.beside; rooted = f.rooted; holds = λ _. (refl, refl, live, h.2, refl) }
            (λ e. absurd (omega arith))
            (λ _. (refl, homes, (w, set_here s.views id w (at_lt s.views id v at), refl)))
            (told_still s r id v w at live (λ so. so))
            (longest_still s r id v w at live refl refl)),
        (
          (λ _. (h.0, refl, subst (λ (o : Opened). From o h.0) (sym (f.comes live)) h.3, (λ never. subst (λ (o : Opened). Asked o h.0) (sym (f.comes live)) (h.4 never)), subst (IsPrefix v.front) (sym h.2) f.front, subst (λ l. v.known ≤ length l) (sym h.2) f.known, subst (λ l. v.own ≡ of_seat v.seat l) (sym h.2) (f.own live))),
          (λ not. absurd (not z)),
        ),
      )
    where
      f' : (j : ℕ) (u : View) → get_elem? s.views j ≡ some u → Fits r.turn r.holder r.wanted opened r.log r.seats r.joined r.place j u
      f' j u e = r.each j u e

      turned : r.turn ≡ 1 → r.turn ≡ 0 → ⊥
      turned a b = absurd (omega arith)
  take_at s r slots id v c n is at live (no nz) here = (
    v,
    keeps,
    tt,
    subst (λ (b : Bool). R (stepped s 1 (either b 1 n) id c v keeps)) (sym (ne_eqb n 0 nz)) (subst (λ (m : ℕ). R (stepped s 1 m id c v keeps)) (sym here) (unmoved s r 1 id v at)),
    ((λ z. absurd (nz z)), (λ _. refl)),
  )

  pub takes_turn : (slots id : ℕ) (v : View) (c : List (ℕ × Option W)) → v.live ≡ true → Allows R slots id (v, c) 1 (λ n. either (eqb n 0) 1 n) (Takes journal ticks tells (step slots 1 0 1 none) (v, c))
  takes_turn slots id v c live s r len at small =
      take_at s r slots id v c (slice_index s.words 1) (ap (λ ws. slice_index ws 1) r.words) at live (ℕ_discrete (slice_index s.words 1) 0) refl

  abbrev lying : List (ℕ × Option W) → List Entry
  lying [] = []
  lying ((k, None) ∷ xs) = []
  lying ((k, Some w) ∷ xs) = journal w

  lies_so : (c : List (ℕ × Option W)) (l : List Entry) → Lies journal ticks tells c l → lying c ≡ l
  lies_so c l x = ap lying x.1 ∙ x.2

  pub appends : (slots id : ℕ) (v : View) (c : List (ℕ × Option W)) (e : Entry) → v.live ≡ true → v.holds ≡ true → e.seat ≡ v.seat → length v.held + 1 < 2 ^ 64 → Lies journal ticks tells c (v.held ++ e ∷ [])
      → Allows R slots id (v, c) 0 (λ n. (n + 1) % 2 ^ 64) (Appends journal ticks tells (step slots 0 1 0 none) (v, c))
  appends slots id v c e live h is room lies s r len at small =
      let f = r.each id v at in
      let x = f.holds h in
      let w = adding v e in
      let log = r.log ++ e ∷ [] in
      let found : slice_index s.words 0 ≡ length r.log = ap (λ ws. slice_index ws 0) r.words in
      let same : length v.held ≡ length r.log = ap length x.3 in
      let more : length log ≡ length r.log + 1 = length-append r.log (e ∷ []) in
      let small' : slice_index s.words 0 + 1 < 2 ^ 64 = omega arith in
      let up : (slice_index s.words 0 + 1) % 2 ^ 64 ≡ length log = mod-eq_of_lt small' ∙ omega arith in (
        w,
        keeps,
        tt,
        moved s r (set s.words 0 ((slice_index s.words 0 + 1) % 2 ^ 64)) s.homes id v w r.turn r.holder r.wanted log at live live refl (e ∷ [], refl)
            (λ n apart. sym (of_seat-other n r.log e (λ t. apart (sym t ∙ is))))
            (λ j u apart at' h'. absurd (alone s r id v at h j u apart at' h'))
            (ap (λ ws. set ws 0 ((slice_index s.words 0 + 1) % 2 ^ 64)) r.words ∙ ap (λ (n : ℕ). n ∷ r.turn ∷ []) up)
            record {
              front = subst (λ l. IsPrefix (l ++ e ∷ []) log) (sym x.3) (front_whole log);
              known = omega arith;
              comes = f.comes;
              own = λ l. ap (λ o. o ++ e ∷ []) (f.own l) ∙ sym (of_seat-own v.seat r.log e is);
              seated = f.seated;
              beside = front_more v.beside r.log log f.beside (e ∷ [], refl);
              rooted = f.rooted;
              holds = λ _. (x.0, x.1, live, ap (λ l. l ++ e ∷ []) x.3, x.4);
            }
            (λ z. let a = x.0 in absurd (omega arith))
            (λ nz. let t = r.taken nz in (t.0, t.1, (w, subst (λ (n : ℕ). get_elem? (set s.views id w) n ≡ some w) x.1 (set_here s.views id w (at_lt s.views id v at)), h)))
            (told_still s r id v w at live (λ so. so))
            (id, w, set_here s.views id w (at_lt s.views id v at), (live, inl (ap (λ l. l ++ e ∷ []) x.3))),
        λ e' lies'. ap (λ (y : Entry). (adding v y, c)) (one_last v.held e e' (sym (lies_so c _ lies) ∙ lies_so c _ lies')),
      )

  -- the turn is as it was, where the seat does not hold it
  taken_still : (s : St) (r : R s) (id : ℕ) (v w : View) → get_elem? s.views id ≡ some v → v.holds ≡ false → Taken s.homes r.turn r.holder (set s.views id w)
  taken_still s r id v w at rests nz =
      let t = r.taken nz in
      (t.0, t.1, (t.2.0, set_else s.views id r.holder w (λ (e : r.holder ≡ id). off v t.2.0 (some-injective _ _ (sym at ∙ (ap (get_elem? s.views) (sym e) ∙ t.2.1))) rests t.2.2) ∙ t.2.1, t.2.2))
    where
      off : (v u : View) → v ≡ u → v.holds ≡ false → u.holds ≡ true → ⊥
      off v u e a b = true≢false (sym b ∙ (ap (λ (x : View). x.holds) (sym e) ∙ a))

  -- a resting seat has another view
  rests_on : (s : St) (r : R s) (i id : ℕ) (v w : View) → get_elem? s.views id ≡ some v → v.live ≡ true → v.holds ≡ false → w.live ≡ true → w.seat ≡ v.seat → (v.wanted ≡ true → w.wanted ≡ true)
      → IsSeen r.log (set s.views id w)
      → Fits r.turn r.holder r.wanted opened r.log r.seats r.joined r.place id w → R record { words = set s.words i (slice_index s.words i); homes = s.homes; views = set s.views id w }
  rests_on s r i id v w at live rests live' seat more longest mine =
      moved s r (set s.words i (slice_index s.words i)) s.homes id v w r.turn r.holder r.wanted r.log at live live' seat (front_whole r.log) (λ _ _. refl)
      (λ j u apart at' h'. let t = (r.each j u at').holds h' in (t.0, t.1, t.3, t.4))
      (set-get_or s.words i 0 ∙ r.words) mine r.free (taken_still s r id v w at rests) (told_still s r id v w at live' more) longest

  pub looks : (slots id : ℕ) (v : View) (c : List (ℕ × Option W)) → v.live ≡ true → v.holds ≡ false → Allows R slots id (v, c) 0 (λ n. n) (Counts journal ticks tells (step slots 0 0 0 none) (v, c))
  looks slots id v c live rests s r len at small =
      let f = r.each id v at in
      let found : slice_index s.words 0 ≡ length r.log = ap (λ ws. slice_index ws 0) r.words in
      let k = f.known in
      let w = looking v (slice_index s.words 0) in (
        w,
        keeps,
        tt,
        rests_on s r 0 id v w at live rests live refl (λ so. so) (longest_still s r id v w at live refl refl)
            record { front = f.front; known = omega arith; comes = f.comes; own = f.own; seated = f.seated; beside = f.beside; rooted = f.rooted; holds = λ h. absurd (true≢false (sym h ∙ rests)) },
        (omega arith, refl),
      )

  pub compares : (slots id : ℕ) (v : View) (c : List (ℕ × Option W)) → v.live ≡ true → v.holds ≡ false → Allows R slots id (v, c) 0 (λ n. n) (Compares journal ticks tells (step slots 0 0 0 none) (v, c))
  compares slots id v c live rests s r len at small =
      let f = r.each id v at in
      let w = comparing v in (
        w,
        keeps,
        tt,
        rests_on s r 0 id v w at live rests live refl (λ so. so)
            (some_still (λ u. (u.live ≡ true) × ((u.front ≡ r.log) ⊎ (u.beside ≡ r.log))) s.views id v w at (λ m. (live, inl (longer_whole v.front v.beside r.log f.front f.beside m.1))) r.longest)
            record { front = longer_front v.front v.beside r.log f.front f.beside; known = f.known; comes = f.comes; own = f.own; seated = f.seated; beside = front_none r.log; rooted = f.rooted; holds = λ h. absurd (true≢false (sym h ∙ rests)) },
        (refl, longer_first v.front v.beside r.log f.front f.beside, longer_second v.front v.beside r.log f.front f.beside),
      )

  -- what lies in the slot comes home
  gives_back : (s : St) (r : R s) (id : ℕ) (v w : View) (c : List (ℕ × Option W)) (world : W) (wanted : Bool) → get_elem? s.views id ≡ some v → v.live ≡ true → v.holds ≡ true
      → c ≡ (0, Some world) ∷ [] → journal world ≡ v.held → From (opened_of v) world → (wanted ≡ false → Asked (opened_of v) world) → w.live ≡ true → w.holds ≡ false → w.seat ≡ v.seat → (v.held ≡ r.log → Fits 0 r.holder wanted opened r.log r.seats r.joined r.place id w)
      → (wanted ≡ true → IsToldWanted (set s.views id w)) → (v.held ≡ r.log → IsSeen r.log (set s.views id w))
      → R record { words = set s.words 1 0; homes = put_back s.homes c; views = set s.views id w }
  gives_back s r id v w c world wanted at live h is j t all live' rests seat mine told longest =
      let f = r.each id v at in
      let x = f.holds h in
      let homes : put_back s.homes c ≡ some (Some world) ∷ [] = ap (put_back s.homes) is ∙ ap (λ hs. set hs 0 (some (Some world))) ((r.taken (λ z. let a = x.0 in absurd (omega arith))).1) in
      moved s r (set s.words 1 0) (put_back s.homes c) id v w 0 r.holder wanted r.log at live live' seat (front_whole r.log) (λ _ _. refl)
      (λ j u apart at' h'. absurd (alone s r id v at h j u apart at' h'))
      (ap (λ ws. set ws 1 0) r.words) (mine x.3)
      (λ _. (world, homes, j ∙ x.3, subst (λ (o : Opened). From o world) (f.comes live) t, (λ never. subst (λ (o : Opened). Asked o world) (f.comes live) (all never))))
      (λ nz. absurd (nz refl))
      told
      (longest x.3)

  pub gives_turn : (slots id : ℕ) (v : View) (c : List (ℕ × Option W)) (world : W) → v.live ≡ true → v.holds ≡ true → c ≡ (0, Some world) ∷ [] → journal world ≡ v.held → From (opened_of v) world → (v.held_wanted ≡ false → Asked (opened_of v) world)
      → Allows R slots id (v, c) 1 (λ _. 0) (λ _. Gives journal ticks tells (step slots 1 0 0 none) (v, c) 0)
  gives_turn slots id v c world live h is j t all s r len at small =
      let f = r.each id v at in
      let w = leaving v in (
        w,
        gives,
        tt,
        gives_back s r id v w c world r.wanted at live h is j t (λ never. all ((f.holds h).4 ∙ never)) live refl refl
            (λ same. record { front = f.front; known = f.known; comes = f.comes; own = f.own; seated = f.seated; beside = f.beside; rooted = f.rooted; holds = λ b. absurd (true≢false (sym b)) })
            (told_still s r id v w at live (λ so. so))
            (λ same. longest_still s r id v w at live refl refl),
        refl,
      )

  pub gives_turn_full : (slots id : ℕ) (v : View) (c : List (ℕ × Option W)) (world : W) → v.live ≡ true → v.holds ≡ true → c ≡ (0, Some world) ∷ [] → journal world ≡ v.held → From (opened_of v) world → (v.held_wanted ≡ false → Asked (opened_of v) world)
      → Allows R slots id (v, c) 1 (λ _. 0) (λ _. GivesFull journal ticks tells (step slots 1 0 0 none) (v, c) 0)
  gives_turn_full slots id v c world live h is j t all s r len at small =
      let f = r.each id v at in
      let w = leaving_full v in (
        w,
        gives,
        tt,
        gives_back s r id v w c world r.wanted at live h is j t (λ never. all ((f.holds h).4 ∙ never)) live refl refl
            (λ same. record { front = subst (λ l. IsPrefix l r.log) (sym same) (front_whole r.log); known = subst (λ l. length l ≤ length r.log) (sym same) (omega arith); comes = f.comes; own = f.own; seated = f.seated; beside = f.beside; rooted = f.rooted; holds = λ b. absurd (true≢false (sym b)) })
            (told_still s r id v w at live (λ so. so))
            (λ same. (id, w, set_here s.views id w (at_lt s.views id v at), (live, inl same))),
        refl,
      )

  pub gives_turn_short : (slots id : ℕ) (v : View) (c : List (ℕ × Option W)) (world : W) → v.live ≡ true → v.holds ≡ true → c ≡ (0, Some world) ∷ [] → journal world ≡ v.held → From (opened_of v) world
      → Allows R slots id (v, c) 1 (λ _. 0) (λ _. GivesShort journal ticks tells (step slots 1 0 0 none) (v, c) 0)
  gives_turn_short slots id v c world live h is j t s r len at small =
      let f = r.each id v at in
      let w = leaving_short v in (
        w,
        gives,
        tt,
        gives_back s r id v w c world true at live h is j t (λ never. absurd (true≢false never)) live refl refl
            (λ same. record { front = f.front; known = f.known; comes = f.comes; own = f.own; seated = f.seated; beside = f.beside; rooted = f.rooted; holds = λ b. absurd (true≢false (sym b)) })
            (λ _. (id, w, set_here s.views id w (at_lt s.views id v at), (live, refl)))
            (λ same. longest_still s r id v w at live refl refl),
        refl,
      )

  pub splits : (id : ℕ) (v : View) → id ≡ 0 → v.live ≡ true → v.holds ≡ false → Splits R id v (one_more v) (next_seat v)
  splits id v root live rests s r at =
      let f = r.each id v at in
      let x = f.rooted root in
      let left = one_more v in
      let right = next_seat v in
      let views = set s.views id left in
      let place = λ (n : ℕ). either (eqb n r.seats) (length s.views) (r.place n) in
      let new_place : place v.seats ≡ length s.views = ap (λ (b : Bool). either b (length s.views) (r.place v.seats)) (eq-eqb v.seats r.seats x.0) in
      let wide : length views ≡ length s.views = length-set s.views id left in
      let same = λ (u : View) (m : u.seat < r.seats). ap (λ (b : Bool). either b (length s.views) (r.place u.seat)) (ne_eqb u.seat r.seats (λ e. omega arith)) in
      record {
        turn = r.turn;
        holder = r.holder;
        wanted = r.wanted;
        log = r.log;
        seats = r.seats + 1;
        joined = r.joined;
        place = place;
        words = r.words;
        each = λ j u e. ⊎_elim
            (λ old. ⊎_elim
            (λ (t : (j ≡ id) × (left ≡ u)). subst (λ (y : ℕ × View). Fits r.turn r.holder r.wanted opened r.log (r.seats + 1) r.joined place y.0 y.1) (λ i. (sym t.0 i, t.1 i)) record {
              front = f.front;
              known = f.known;
              comes = f.comes;
              own = f.own;
              seated = λ l. let y = f.seated l in let m = y.0 in (omega arith, same v m ∙ y.1);
              beside = f.beside;
              rooted = λ z. (ap (λ (n : ℕ). n + 1) x.0, x.1);
              holds = λ h. absurd (true≢false (sym h ∙ rests));
            })
            (λ (t : (j ≢ id) × (get_elem? s.views j ≡ some u)). let g = r.each j u t.1 in record {
              front = g.front;
              known = g.known;
              comes = g.comes;
              own = g.own;
              seated = λ l. let y = g.seated l in let m = y.0 in (omega arith, same u m ∙ y.1);
              beside = g.beside;
              rooted = λ z. absurd (t.0 (z ∙ sym root));
              holds = g.holds;
            })
            (at_set s.views id j left u old))
            (λ (t : (right ≡ u) × (j ≡ length views)). subst (λ (y : ℕ × View). Fits r.turn r.holder r.wanted opened r.log (r.seats + 1) r.joined place y.0 y.1) (λ i. (sym t.1 i, t.0 i)) record {
              front = f.front;
              known = f.known;
              comes = λ _. f.comes live;
              own = λ l. let n = x.0 in sym (r.nobody v.seats (omega arith));
              seated = λ l. let n = x.0 in (omega arith, new_place ∙ sym wide);
              beside = front_none r.log;
              rooted = λ z. let lt = at_lt s.views id v at in absurd (omega arith);
              holds = λ h. absurd (true≢false (sym h));
            })
            (snoc_at views right u j e);
        kept = AllByRecursion-weaker (IsKept r.log s.views r.seats) (IsKept r.log (views ++ right ∷ []) (r.seats + 1)) (λ k i. let m = i.seated in record {
          own = i.own;
          seated = omega arith;
          gone = λ j u e l. ⊎_elim
              (λ old. ⊎_elim
              (λ (t : (j ≡ id) × (left ≡ u)). λ (is : u.seat ≡ k.0). i.gone id v at live (ap (λ (y : View). y.seat) t.1 ∙ is))
              (λ (t : (j ≢ id) × (get_elem? s.views j ≡ some u)). i.gone j u t.1 l)
              (at_set s.views id j left u old))
              (λ (t : (right ≡ u) × (j ≡ length views)). λ (is : u.seat ≡ k.0). let q : v.seats ≡ k.0 = ap (λ (y : View). y.seat) t.0 ∙ is in let n = x.0 in absurd (omega arith))
              (snoc_at views right u j e);
        }) r.joined r.kept;
        nobody = λ n le. r.nobody n (omega arith);
        free = r.free;
        taken = λ nz. let t = taken_still s r id v left at rests nz in (t.0, t.1, (t.2.0, at_longer views (right ∷ []) r.holder t.2.0 t.2.1, t.2.2));
        told = λ so. some_longer (λ u. (u.live ≡ true) × (u.wanted ≡ true)) views (right ∷ []) (told_still s r id v left at live (λ y. y) so);
        longest = some_longer (λ u. (u.live ≡ true) × ((u.front ≡ r.log) ⊎ (u.beside ≡ r.log))) views (right ∷ []) (longest_still s r id v left at live refl refl);
        everybody = λ n lt. dite (ℕ_discrete n r.seats)
            (λ same. inl (length views, right, at_last views right (length views) refl, (refl, x.0 ∙ sym same)))
            (λ apart. ⊎_elim (λ t. inl (some_longer (λ u. (u.live ≡ true) × (u.seat ≡ n)) views (right ∷ []) t)) (λ c. inr c) (seat_still s.views r.joined r.joined id v left n at (λ m. m) (λ c. c) (r.everybody n (omega arith))));
      }

  off_too : (v u : View) → v ≡ u → v.holds ≡ false → u.holds ≡ true → ⊥
  off_too v u e a b = true≢false (sym b ∙ (ap (λ (x : View). x.holds) (sym e) ∙ a))

  pub joins : (id : ℕ) (v : View) (other : ℕ) (w : View) → id ≡ 0 → v.live ≡ true → v.holds ≡ false → w.live ≡ true → w.holds ≡ false → v.beside ≡ [] → w.beside ≡ [] → Joins R id v other w (joining v w) spent
  joins id v other w root live rests live' rests' bare bare' s r at apart there =
      let both = joining v w in
      let f = r.each id v at in
      let x = f.rooted root in
      let at' : get_elem? s.views other ≡ some w = sym (set_else s.views id other both apart) ∙ there in
      let g = r.each other w at' in
      let views = set s.views id both in
      let last = set views other spent in
      let joined = r.joined ++ (w.seat, w.own) ∷ [] in
      let here : get_elem? last id ≡ some both = set_else views other id spent (λ (e : id ≡ other). apart (sym e)) ∙ set_here s.views id both (at_lt s.views id v at) in
      -- whoever has a live view in the end is the root or was there
      let who = λ (P : ℕ → View → Type 0) (mine : P id both) (rest : (j : ℕ) (u : View) → j ≢ id → j ≢ other → get_elem? s.views j ≡ some u → P j u) (gone : P other spent) (j : ℕ) (u : View) (e : get_elem? last j ≡ some u).
      ⊎_elim
      (λ (t : (j ≡ other) × (spent ≡ u)). subst (λ (y : ℕ × View). P y.0 y.1) (λ i. (sym t.0 i, t.1 i)) gone)
      (λ (t : (j ≢ other) × (get_elem? views j ≡ some u)). ⊎_elim
      (λ (q : (j ≡ id) × (both ≡ u)). subst (λ (y : ℕ × View). P y.0 y.1) (λ i. (sym q.0 i, q.1 i)) mine)
      (λ (q : (j ≢ id) × (get_elem? s.views j ≡ some u)). rest j u q.0 t.0 q.1)
      (at_set s.views id j both u t.1))
      (at_set views other j spent u e) in
      record {
        turn = r.turn;
        holder = r.holder;
        wanted = r.wanted;
        log = r.log;
        seats = r.seats;
        joined = joined;
        place = r.place;
        words = r.words;
        each = who (Fits r.turn r.holder r.wanted opened r.log r.seats joined r.place)
            record {
              front = f.front;
              known = max_le v.known w.known (length r.log) f.known g.known;
              comes = f.comes;
              own = f.own;
              seated = f.seated;
              beside = g.front;
              rooted = λ z. (x.0, ap (λ l. l ++ (w.seat, w.own) ∷ []) x.1);
              holds = λ h. absurd (true≢false (sym h ∙ rests));
            }
            (λ j u a b e. let h = r.each j u e in record { front = h.front; known = h.known; comes = h.comes; own = h.own; seated = h.seated; beside = h.beside; rooted = λ z. absurd (a (z ∙ sym root)); holds = h.holds })
            record { front = front_none r.log; known = omega arith; comes = λ l. absurd (true≢false (sym l)); own = λ l. absurd (true≢false (sym l)); seated = λ l. absurd (true≢false (sym l)); beside = front_none r.log; rooted = λ z. absurd (apart (z ∙ sym root)); holds = λ h. absurd (true≢false (sym h)) };
        kept = AllByRecursion-push (IsKept r.log last r.seats) r.joined (w.seat, w.own)
            (AllByRecursion-weaker (IsKept r.log s.views r.seats) (IsKept r.log last r.seats) (λ k i. record {
              own = i.own;
              seated = i.seated;
              gone = who (λ j u. u.live ≡ true → u.seat ≢ k.0) (λ l. i.gone id v at live) (λ j u a b e l. i.gone j u e l) (λ l. absurd (true≢false (sym l)));
            }) r.joined r.kept)
            record {
              own = g.own live';
              seated = (g.seated live').0;
              gone = who (λ j u. u.live ≡ true → u.seat ≢ w.seat)
                  (λ l. λ (is : v.seat ≡ w.seat). apart (sym ((g.seated live').1) ∙ (ap r.place (sym is) ∙ (f.seated live).1)))
                  (λ j u a b e l. λ (is : u.seat ≡ w.seat). b (sym (((r.each j u e).seated l).1) ∙ (ap r.place is ∙ (g.seated live').1)))
                  (λ l. absurd (true≢false (sym l)));
            };
        nobody = r.nobody;
        free = r.free;
        taken = λ nz. let t = taken_still s r id v both at rests nz in (t.0, t.1, (t.2.0, set_else views other r.holder spent (λ (e : r.holder ≡ other). off_too w t.2.0 (some-injective _ _ (sym there ∙ (ap (get_elem? views) (sym e) ∙ t.2.1))) rests' t.2.2) ∙ t.2.1, t.2.2));
        told = λ so.
            let t = r.told so in
            dite (ℕ_discrete t.0 other)
            (λ same. let is : t.1 ≡ w = some-injective _ _ (sym t.2 ∙ (ap (get_elem? s.views) same ∙ at')) in (id, both, here, (live, or_right v.wanted w.wanted (sym (ap (λ (x : View). x.wanted) is) ∙ t.3.1))))
            (λ off. dite (ℕ_discrete t.0 id)
            (λ same. let is : t.1 ≡ v = some-injective _ _ (sym t.2 ∙ (ap (get_elem? s.views) same ∙ at)) in (id, both, here, (live, or_left v.wanted w.wanted (sym (ap (λ (x : View). x.wanted) is) ∙ t.3.1))))
            (λ apart'. (t.0, t.1, set_else views other t.0 spent off ∙ (set_else s.views id t.0 both apart' ∙ t.2), t.3)));
        longest = ⊎_elim
            (λ t. t)
            (λ m. (id, both, here, (live, inr (bare_front w r.log bare' g.front m.1))))
            (some_given (λ u. (u.live ≡ true) × ((u.front ≡ r.log) ⊎ (u.beside ≡ r.log))) views other w spent there
            (some_still (λ u. (u.live ≡ true) × ((u.front ≡ r.log) ⊎ (u.beside ≡ r.log))) s.views id v both at (λ m. (live, inl (bare_front v r.log bare f.front m.1))) r.longest));
        everybody = λ n lt. ⊎_elim
            (λ t. ⊎_elim (λ left. inl left) (λ m. inr (joined_last r.joined w.seat w.own n m.1)) (some_given (λ u. (u.live ≡ true) × (u.seat ≡ n)) views other w spent there t))
            (λ c. inr c)
            (seat_still s.views r.joined joined id v both n at (λ m. m) (joined_longer r.joined w.seat w.own n) (r.everybody n lt));
      }

  pub opens : (w : W) → journal w ≡ [] → From opened w → Asked opened w → R (opening (0 ∷ 0 ∷ []) (Some w ∷ []) (root opened))
  opens w empty same all = record {
    turn = 0;
    holder = 0;
    wanted = false;
    log = [];
    seats = 1;
    joined = [];
    place = λ _. 0;
    words = refl;
    each = one;
    kept = tt;
    nobody = λ _ _. refl;
    free = λ _. (w, refl, empty, same, λ _. all);
    taken = λ nz. absurd (nz refl);
    told = λ so. absurd (true≢false (sym so));
    longest = (0, root opened, refl, (refl, inl refl));
    everybody = λ n lt. inl (0, root opened, refl, (refl, let z : n ≡ 0 = omega arith in sym z));
  }
    where
      at_first : Fits 0 0 false opened [] 1 [] (λ _. 0) 0 (root opened)
      at_first = record { front = front_none []; known = omega arith; comes = λ _. refl; own = λ _. refl; seated = λ _. (omega arith, refl); beside = front_none []; rooted = λ _. (refl, refl); holds = λ h. absurd (true≢false (sym h)) }

      one : (port : ℕ) (v : View) → get_elem? (root opened ∷ []) port ≡ some v → Fits 0 0 false opened [] 1 [] (λ _. 0) port v
      one zero v e = subst (Fits 0 0 false opened [] 1 [] (λ _. 0) 0) (some-injective _ _ e) at_first
      one (suc port) v e = absurd (some-ne-none v (sym e))

  not_gone : (s : St) (r : R s) (port : ℕ) (u : View) → get_elem? s.views port ≡ some u → u.live ≡ true → (joined : List (ℕ × List Entry)) → AllByRecursion (IsKept r.log s.views r.seats) joined
      → Contains (map (λ kept. kept.0) joined) u.seat → ⊥
  not_gone s r port u at live [] e (k, lt, is) = absurd (omega arith)
  not_gone s r port u at live (k ∷ ks) e (zero, lt, is) = e.0.gone port u at live (sym is)
  not_gone s r port u at live (k ∷ ks) e (suc i, lt, is) = not_gone s r port u at live ks e.1 (i, omega arith, is)

  off_wanted : (v u : View) → u ≡ v → v.wanted ≡ false → u.wanted ≡ true → ⊥
  off_wanted v u e a b = true≢false (sym b ∙ (ap (λ (x : View). x.wanted) e ∙ a))

  -- once every other seat was joined, no other view is live
  last_live : (s : St) (r : R s) (id : ℕ) (v : View) → get_elem? s.views id ≡ some v → id ≡ 0 → v.live ≡ true → v.seat ≡ 0 → AllJoined v → (port : ℕ) (u : View) → get_elem? s.views port ≡ some u → u.live ≡ true → u ≡ v
  last_live s r id v at first live seat all port u at' live' =
      let f = r.each id v at in
      let x = f.rooted first in
      let y = (r.each port u at').seated live' in
      dite (ℕ_discrete u.seat 0)
      (λ z. let same : port ≡ id = sym y.1 ∙ (ap r.place (z ∙ sym seat) ∙ (f.seated live).1) in some-injective _ _ (sym at' ∙ (ap (get_elem? s.views) same ∙ at)))
      (λ some_seat. let m = y.0 in let n = x.0 in absurd (not_gone s r port u at' live' r.joined r.kept (subst (λ (j : List (ℕ × List Entry)). Contains (map (λ kept. kept.0) j) u.seat) x.1 (all u.seat (omega arith) (omega arith)))))

  -- once every other seat was joined, the root says whether memory was wanted
  unwanted : (s : St) (r : R s) (id : ℕ) (v : View) → get_elem? s.views id ≡ some v → id ≡ 0 → v.live ≡ true → v.seat ≡ 0 → AllJoined v → v.wanted ≡ false → r.wanted ≡ false
  unwanted s r id v at first live seat all never =
      false_from_ne_true r.wanted (λ so.
      let t = r.told so in
      off_wanted v t.1 (last_live s r id v at first live seat all t.0 t.1 t.2 t.3.0) never t.3.1)

  -- and it has seen the whole journal
  saw_all : (s : St) (r : R s) (id : ℕ) (v : View) → get_elem? s.views id ≡ some v → id ≡ 0 → v.live ≡ true → v.seat ≡ 0 → v.beside ≡ [] → AllJoined v → v.front ≡ r.log
  saw_all s r id v at first live seat bare all =
      let t = r.longest in
      let is = last_live s r id v at first live seat all t.0 t.1 t.2 t.3.0 in
      bare_front v r.log bare ((r.each id v at).front) (subst (λ (u : View). (u.front ≡ r.log) ⊎ (u.beside ≡ r.log)) is t.3.1)

  -- what the root knows once every other seat was joined
  pub closes : (id : ℕ) (v : View) (words : List ℕ) (slots : List (Option W)) → id ≡ 0 → v.live ≡ true → v.holds ≡ false → v.seat ≡ 0 → v.beside ≡ [] → AllJoined v
      → Final (Seen R id v) words slots → (w : W) × (get_elem? slots 0 ≡ some (Some w)) × Closes v (ticks w) (journal w) × From opened w × (v.wanted ≡ false → Asked opened w)
  closes id v words slots root live rests seat bare all end =
      let s = end.0 in
      let r = end.1.0 in
      let at = end.1.1 in
      let f = r.each id v at in
      let x = f.rooted root in
      dite (ℕ_discrete r.turn 0)
      (λ z. let h = r.free z in (
        h.0,
        end.4 0 (Some h.0) (ap (λ hs. get_elem? hs 0) h.1),
        record {
          ticks = h.3.tick ∙ sym (ap (λ (o : Opened). o.tick) (f.comes live));
          front = saw_all s r id v at root live seat bare all ∙ sym h.2;
          known = subst (λ (es : List Entry). v.known ≤ length es) (sym h.2) f.known;
          own = f.own live ∙ ap₂ of_seat seat (sym h.2);
          joined = subst (λ (j : List (ℕ × List Entry)). AllByRecursion (λ k. k.1 ≡ of_seat k.0 (journal h.0)) j) (sym x.1) (AllByRecursion-weaker (IsKept r.log s.views r.seats) (λ k. k.1 ≡ of_seat k.0 (journal h.0)) (λ k i. i.own ∙ ap (of_seat k.0) (sym h.2)) r.joined r.kept);
          nobody = λ n le. ap (of_seat n) h.2 ∙ (let m = x.0 in r.nobody n (omega arith));
        },
        h.3,
        λ never. h.4 (unwanted s r id v at root live seat all never),
      ))
      (λ nz.
      let t = r.taken nz in
      let u = t.2.0 in
      let l = ((r.each r.holder u t.2.1).holds t.2.2).2 in
      absurd (off_too v u (sym (last_live s r id v at root live seat all r.holder u t.2.1 l)) rests t.2.2))
