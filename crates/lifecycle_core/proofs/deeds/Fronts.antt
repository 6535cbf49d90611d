-- A front of a journal of deeds is one, and what was done at an entry.
use Rattle.std.proofs.Common.{◌≡◌, ◌≢◌, inl, inr, ℕ, ◌+◌, ◌<◌, ◌==◌, true, List, [], ◌∷◌, ◌++◌, length, Contains, Option, None, refl, sym, ◌∙◌, ap, subst, append_assoc, append-nil, arith}
use Rattle.std.specs.List.{All}
use Rattle.std.proofs.lemmas.Bool.Decides.{nat_tests}
use Rattle.std.proofs.lemmas.List.{length-append}
use Rattle.std.proofs.lemmas.List.Elements.{All-contains, Contains-append_left, filter-append}
use Rattle.ulid_core.specs.Limits.{ulid_time_limit}
use Rattle.world_core.specs.Moments.{last_moment, moment_after}
use Rattle.world_core.specs.Operations.{IsLawful, IsReplyTo}
use Rattle.world_core.specs.Plans.{Plan, Runs}
use Rattle.world_core.specs.Worlds.{IsJournal}
use Rattle.world_core.specs.declared.entry.Entry.{Entry}
use Rattle.world_core.proofs.LastLanded.{Each-front}
use Rattle.world_core.proofs.PlanLaws.{front as run_front, untold}
use Rattle.shipper.specs.Uploads.{upload}
use Rattle.compactor.specs.Compactions.{compaction}
use Rattle.cleaner.specs.Cleanings.{cleaning as clean_plan}
use Rattle.lifecycle_core.specs.Acting.{IsReading}
use Rattle.world_core.specs.Journals.{of_seat}
use Rattle.lifecycle_core.specs.Setting.{Setting}
use Rattle.lifecycle_core.proofs.deeds.Words.{AreDeeds, Compacts, Deed, Done, IsClock, cleaning, cleans, clocking, clocks, compacting, compacts, reading, reads, shipping, ships}
use Rattle.lifecycle_core.proofs.journals.Positions.{filtered, stands_in}
use Rattle.lifecycle_core.proofs.phases.Stretches.{all_left}

-- ---- runs

cut_run : {E : Type 0} (plan : Plan E) (xs ys : List Entry) (end : Option E) → Runs plan (xs ++ ys) end → Runs plan xs None
cut_run plan xs [] end run = subst (λ es. Runs plan es None) (append-nil xs) (untold plan (xs ++ []) end run)
cut_run plan xs (y ∷ ys) end run = run_front plan xs y ys end run

-- ---- deeds

cut_deed : (setting : Setting) (whole xs ys : List Entry) → whole ≡ xs ++ ys → Deed setting whole → Deed setting xs
cut_deed setting whole xs ys is (ships ulid block objects end known shipped run) = ships ulid block objects None known shipped (cut_run (upload ulid objects) xs ys end (subst (λ es. Runs (upload ulid objects) es end) is run))
cut_deed setting whole xs ys is (compacts end run) = compacts None (cut_run (compaction setting.script.rules) xs ys end (subst (λ es. Runs (compaction setting.script.rules) es end) is run))
cut_deed setting whole xs ys is (cleans end run) = cleans None (cut_run (clean_plan setting.script.rules) xs ys end (subst (λ es. Runs (clean_plan setting.script.rules) es end) is run))
cut_deed setting whole xs ys is (reads all) = reads (all_left (λ (e : Entry). IsReading e.op) xs ys (subst (All (λ (e : Entry). IsReading e.op)) is all))
cut_deed setting whole xs ys is (clocks all) = clocks (all_left (λ (e : Entry). IsClock e.op) xs ys (subst (All (λ (e : Entry). IsClock e.op)) is all))

cut_compacts : (setting : Setting) (whole xs ys : List Entry) (is : whole ≡ xs ++ ys) (deed : Deed setting whole) → Compacts (cut_deed setting whole xs ys is deed) → Compacts deed
unfolding cut_deed
cut_compacts setting whole xs ys is (ships ulid block objects end known shipped run) c = c
cut_compacts setting whole xs ys is (compacts end run) c = c
cut_compacts setting whole xs ys is (cleans end run) c = c
cut_compacts setting whole xs ys is (reads all) c = c
cut_compacts setting whole xs ys is (clocks all) c = c

cut_compacts_too : (setting : Setting) (whole xs ys : List Entry) (is : whole ≡ xs ++ ys) (deed : Deed setting whole) → Compacts deed → Compacts (cut_deed setting whole xs ys is deed)
unfolding cut_deed
cut_compacts_too setting whole xs ys is (ships ulid block objects end known shipped run) c = c
cut_compacts_too setting whole xs ys is (compacts end run) c = c
cut_compacts_too setting whole xs ys is (cleans end run) c = c
cut_compacts_too setting whole xs ys is (reads all) c = c
cut_compacts_too setting whole xs ys is (clocks all) c = c

-- ---- fronts

pub journal_front : (tick : ℕ) (front back : List Entry) → IsJournal tick (front ++ back) → IsJournal tick front
journal_front tick front back kept = record {
  few = omega (arith, kept.few, length-append front back);
  numbered = Each-front (λ before e. e.seq ≡ length before + 1) front back kept.numbered;
  lawful = Each-front (λ before e. IsLawful e.op) front back kept.lawful;
  kinds = Each-front (λ before e. IsReplyTo e.op e.reply) front back kept.kinds;
  moments = Each-front (λ before e. e.moment.ms ≡ moment_after tick (last_moment before) e.op) front back kept.moments;
  small = Each-front (λ before e. e.moment.ms < ulid_time_limit) front back kept.small;
}

no_more : (front back : List Entry) → front ≢ [] → front ++ back ≢ []
no_more [] back some nil = some refl
no_more (e ∷ front) back some nil = cc (nil)

pub deeds_front : (setting : Setting) (front back : List Entry) → AreDeeds setting (front ++ back) → AreDeeds setting front
deeds_front setting front back deeds =
    let is : (seat : ℕ) → of_seat seat (front ++ back) ≡ of_seat seat front ++ of_seat seat back = λ seat. filter-append (λ (x : Entry). x.seat == seat) front back in
    let deed : (seat : ℕ) → Deed setting (of_seat seat front) = λ seat. cut_deed setting (of_seat seat (front ++ back)) (of_seat seat front) (of_seat seat back) (is seat) (deeds.deed seat) in
    let into : (seat : ℕ) (x : Entry) → Contains (of_seat seat front) x → Contains (of_seat seat (front ++ back)) x =
    λ seat x among. subst (λ es. Contains es x) (sym (is seat)) (Contains-append_left (of_seat seat front) (of_seat seat back) x among) in
    let compacting_too : (seat : ℕ) → Compacts (deed seat) → Compacts (deeds.deed seat) = λ seat c. cut_compacts setting (of_seat seat (front ++ back)) (of_seat seat front) (of_seat seat back) (is seat) (deeds.deed seat) c in
    record {
      kept = journal_front setting.script.rules.tick.ms front back deeds.kept;
      agreed = λ some. deeds.agreed (no_more front back some);
      deed = deed;
      apart = λ one other differ c d. elim (deeds.apart one other differ (compacting_too one c) (compacting_too other d)) [
        | inl first ↦ inl (λ x y a b. first x y (into one x a) (into other y b))
        | inr second ↦ inr (λ x y a b. second x y (into other x a) (into one y b))
      ];
    }

-- who compacts, compacts in the front
pub front_compacts : (setting : Setting) (front back : List Entry) (deeds : AreDeeds setting (front ++ back)) (seat : ℕ) → Compacts (deeds.deed seat) → Compacts ((deeds_front setting front back deeds).deed seat)
unfolding deeds_front
front_compacts setting front back deeds seat c = cut_compacts_too setting (of_seat seat (front ++ back)) (of_seat seat front) (of_seat seat back) (filter-append (λ (x : Entry). x.seat == seat) front back) (deeds.deed seat) c

-- ---- what was done at an entry

-- the entries of an entry's seat
pub at_seat : (journal before after : List Entry) (e : Entry) → journal ≡ before ++ e ∷ after → of_seat e.seat journal ≡ of_seat e.seat before ++ e ∷ of_seat e.seat after
at_seat journal before after e parts =
    let test : (e.seat == e.seat) ≡ true = grind (arith, nat_tests) in
    ap (of_seat e.seat) parts ∙ filtered (λ (x : Entry). x.seat == e.seat) before after e test

done_by : (setting : Setting) (before : List Entry) (e : Entry) (whole rest : List Entry) → whole ≡ (of_seat e.seat before ++ e ∷ []) ++ rest → Deed setting whole → Done setting before e
done_by setting before e whole rest is (ships ulid block objects end known shipped run) =
    shipping ulid block objects known shipped (cut_run (upload ulid objects) (of_seat e.seat before ++ e ∷ []) rest end (subst (λ es. Runs (upload ulid objects) es end) is run))
done_by setting before e whole rest is (compacts end run) = compacting (cut_run (compaction setting.script.rules) (of_seat e.seat before ++ e ∷ []) rest end (subst (λ es. Runs (compaction setting.script.rules) es end) is run))
done_by setting before e whole rest is (cleans end run) = cleaning (cut_run (clean_plan setting.script.rules) (of_seat e.seat before ++ e ∷ []) rest end (subst (λ es. Runs (clean_plan setting.script.rules) es end) is run))
done_by setting before e whole rest is (reads all) =
    reading (All-contains (λ (x : Entry). IsReading x.op) whole e all (subst (λ es. Contains es e) (sym is) (Contains-append_left (of_seat e.seat before ++ e ∷ []) rest e (stands_in (of_seat e.seat before) [] e))))
done_by setting before e whole rest is (clocks all) =
    clocking (All-contains (λ (x : Entry). IsClock x.op) whole e all (subst (λ es. Contains es e) (sym is) (Contains-append_left (of_seat e.seat before ++ e ∷ []) rest e (stands_in (of_seat e.seat before) [] e))))

pub done_at : (setting : Setting) (journal : List Entry) → AreDeeds setting journal → (before after : List Entry) (e : Entry) → journal ≡ before ++ e ∷ after → Done setting before e
done_at setting journal deeds before after e parts =
    done_by setting before e (of_seat e.seat journal) (of_seat e.seat after)
    (at_seat journal before after e parts ∙ sym (append_assoc (of_seat e.seat before) (e ∷ []) (of_seat e.seat after))) (deeds.deed e.seat)
