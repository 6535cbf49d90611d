-- The turns of a drive, over plain variables.
use Rattle.std.proofs.Common.{◌≡◌, ℕ, ◌+◌, ◌<◌, List, [], ◌∷◌, ◌++◌, length, All, Option, Some, None, unwrap_or, min, refl, sym, ap, ◌∙◌, subst, arith, length-append, append_assoc}
use Rattle.std.proofs.lemmas.List.Elements.{All-push}
use Rattle.world_core.specs.Operations.{IsAnswer, entry_of}
use Rattle.world_core.specs.Machines.{Asks, Drives, end_of}
use Rattle.world_core.specs.declared.op.Op.{Op}
use Rattle.world_core.specs.declared.seen.Seen.{Seen}
use Rattle.world_core.specs.declared.entry.Entry.{Entry}
use Rattle.world_core.specs.declared.driving.Driven.{Driven}
use Rattle.world_core.specs.declared.driving.Driven.TheVariants.{Stopped, Full}

-- the machine has asked for an operation after these entries, and its stop was not reached yet
pub record Waiting {M E : Type 0} (may : M → List Entry → Option E → M → Type 0) (asked : M → Option Op) (seat last : ℕ) (first : M) (old : List Entry) (op : Op) (answered : ℕ) (now : M) (new : List Entry) : Type 0 where
  pub made : List Entry
  pub entries : new ≡ old ++ made
  pub asks : Asks may asked first made op now
  pub seats : All (λ e. e.seat ≡ seat) made
  pub before : 0 < last → (answered ≡ length made) × (length made < last)

-- what the stop says, as a number
number_of : (stop : Option ℕ) (last n : ℕ) → last ≡ unwrap_or stop 0 → stop ≡ Some n → last ≡ n
number_of stop last n is_last is_n = is_last ∙ ap (λ o. unwrap_or o 0) is_n

stop_of : (stop : Option ℕ) (last : ℕ) → last ≡ unwrap_or stop 0 → 0 < last → stop ≡ Some last
stop_of None last is_last above = absurd (omega arith)
stop_of (Some n) last is_last above = ap Some (sym is_last)

-- a count that goes on by one, and misses the stop, is still below it
count_before : (made last answered : ℕ) → (0 < last → (answered ≡ made) × (made < last)) → (min (answered + 1) 4294967295 ≡ last → ⊥) → last < 4294967296 → 0 < last → (min (answered + 1) 4294967295 ≡ made + 1) × (made + 1 < last)
count_before made last answered before missed small above = let b = before above in (omega (arith, b.0, b.1), omega (arith, b.0, b.1, missed))

-- a drive from an equal seat and between equal lists
pub drives_alike : {E : Type 0} (is_run : List Entry → Option E → Type 0) (seat own : ℕ) (stop : Option ℕ) (driven : Driven E) (old was new now : List Entry) → seat ≡ own → old ≡ was → new ≡ now → Drives is_run seat stop driven old new → Drives is_run own stop driven was now
drives_alike is_run seat own stop driven old was new now a b c d =
    subst (λ n. Drives is_run n stop driven was now) a (subst (λ es. Drives is_run seat stop driven es now) b (subst (Drives is_run seat stop driven old) c d))

module _ {M E : Type 0} (may : M → List Entry → Option E → M → Type 0) (asked : M → Option Op) (seat last : ℕ) (first : M) (old : List Entry) (op : Op) (answered : ℕ) (now : M) (new : List Entry) (w : Waiting may asked seat last first old op answered now new) where
  -- a drive that was not stopped, after one more entry
  pub ends : (stop : Option ℕ) (driven : Driven E) (seen : Seen) (later : List Entry) → last ≡ unwrap_or stop 0 → later ≡ new ++ entry_of seat op seen ∷ [] → (min (answered + 1) 4294967295 ≡ last → ⊥) → last < 4294967296 → (then : M) → may now (entry_of seat op seen ∷ []) (end_of driven) then → ((n : ℕ) → driven ≡ Stopped n → ⊥) → (driven ≡ Full → ⊥) → Drives (λ made end. may first made end then) seat stop driven old later
  ends stop driven seen later is_last added missed small then run other room =
      let e = entry_of seat op seen in
      let longer = length-append w.made (e ∷ []) in
      record {
        made = w.made ++ e ∷ [];
        entries = added ∙ ap (λ es. es ++ e ∷ []) w.entries ∙ append_assoc old w.made (e ∷ []);
        run = w.asks.onward (e ∷ []) (end_of driven) then run;
        seats = All-push (λ x. x.seat ≡ seat) w.made e w.seats refl;
        stopped = λ n. (λ is. absurd (other n is), λ h. let l = number_of stop last n is_last h.0 in let k = count_before (length w.made) last answered w.before missed small (omega (arith, h.1)) in absurd (omega (arith, h.2, k.1)));
        within = λ n is above. let l = number_of stop last n is_last is in let k = count_before (length w.made) last answered w.before missed small (omega arith) in omega (arith, k.1);
        waits = λ is. absurd (room is);
      }

  -- a drive that was stopped
  pub stops : (stop : Option ℕ) (driven : Driven E) (seen : Seen) (later : List Entry) → last ≡ unwrap_or stop 0 → later ≡ new ++ entry_of seat op seen ∷ [] → min (answered + 1) 4294967295 ≡ last → IsAnswer op seen → driven ≡ Stopped last → Drives (λ made end. may first made end now) seat stop driven old later
  stops stop driven seen later is_last added reached answer is =
      let e = entry_of seat op seen in
      let longer = length-append w.made (e ∷ []) in
      let above : 0 < last = omega (arith, reached) in
      let b = w.before above in
      let reaches : length (w.made ++ e ∷ []) ≡ last = omega (arith, longer, b.0, b.1, reached) in
      record {
        made = w.made ++ e ∷ [];
        entries = added ∙ ap (λ es. es ++ e ∷ []) w.entries ∙ append_assoc old w.made (e ∷ []);
        run = rw is (w.asks.onward (e ∷ []) None now (w.asks.answered seat seen answer));
        seats = All-push (λ x. x.seat ≡ seat) w.made e w.seats refl;
        stopped = λ n. (λ other. let same : last ≡ n = cc (is, other) in (stop_of stop last is_last above ∙ ap Some same, omega (arith, same), reaches ∙ same), λ h. is ∙ ap (λ m. Stopped m) (number_of stop last n is_last h.0));
        within = λ n is_n above_n. let l = number_of stop last n is_last is_n in omega (arith, reaches);
        waits = λ full. absurd (cc (is, full));
      }

  -- a drive that goes on
  pub goes_on : (seen : Seen) (later : List Entry) (next : Op) (then : M) (count : ℕ) → count ≡ min (answered + 1) 4294967295 → later ≡ new ++ entry_of seat op seen ∷ [] → (min (answered + 1) 4294967295 ≡ last → ⊥) → last < 4294967296 → Asks may asked now (entry_of seat op seen ∷ []) next then → Waiting may asked seat last first old next count then later
  goes_on seen later next then count counted added missed small asks =
      let e = entry_of seat op seen in
      let longer = length-append w.made (e ∷ []) in
      record {
        made = w.made ++ e ∷ [];
        entries = added ∙ ap (λ es. es ++ e ∷ []) w.entries ∙ append_assoc old w.made (e ∷ []);
        asks = record {
          lawful = asks.lawful;
          waits = asks.waits;
          onward = λ es end final run. rw append_assoc (w.asks.onward (e ∷ es) end final (asks.onward es end final run));
          stopped = asks.stopped;
          answered = asks.answered;
        };
        seats = All-push (λ x. x.seat ≡ seat) w.made e w.seats refl;
        before = λ above. let k = count_before (length w.made) last answered w.before missed small above in (omega (arith, k.0, counted), omega (arith, k.1));
      }
