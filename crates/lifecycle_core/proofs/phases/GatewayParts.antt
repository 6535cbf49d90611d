-- A gateway's part of a query: nothing is done where it is not asked, and else its view is.
use Rattle.base.proofs.Membership.{contains_place, member_cases, of_filter}
use Rattle.std.proofs.Common.{◌≡◌, inl, inr, ℕ, ℤ, zero, suc, ◌+◌, ◌<◌, ◌≤◌, ◌==◌, Bool, true, false, cond, List, [], ◌∷◌, map, length, Contains, Option, Some, None, refl, sym, ◌∙◌, ap, subst, arith}
use Rattle.std.specs.Prelude.{find, option_map, slice_get, ◌⊎◌}
use Rattle.std.specs.List.{enumerate_from}
use Rattle.std.proofs.lemmas.Bool.Decides.{nat_tests}
use Rattle.std.proofs.lemmas.List.Elements.{All-contains_itself}
use Rattle.base.proofs.Lists.{find_holds, find_passes}
use Rattle.moment_core.specs.declared.partition.Partition.{Partition}
use Rattle.querier.specs.declared.asking.Ask.{Ask}
use Rattle.querier.specs.Asks.{ask_of, asks_from, has_times}
use Rattle.world_core.specs.declared.entry.Entry.{Entry}
use Rattle.store_ranges.specs.Reads.{Query as Question}
use Rattle.lifecycle_core.specs.Holdings.{Holding, Use}
use Rattle.lifecycle_core.specs.Setting.{Setting}
use Rattle.store_calls.specs.SeriesCalls.{CallEnd, SeriesRun}
use Rattle.lifecycle_core.specs.Tasks.{End, NothingDone, PartTask, QueryTask, answered, ask_to, asks_in, called_with, not_asked, question_of, without_view}

module _ (setting : Setting) (selector : ℕ) where
  -- what holds of no entries, and of those of a query of the view, holds of the part's
  pub part_entries : (P : List Entry → Type 0) (ask : Option Ask) (before after : Holding) (entries : List Entry) (end : Option End) → P []
      → ((asked : Option Question) → QueryTask before.used asked before entries end after → P entries) → PartTask setting selector ask before entries end after → P entries
  part_entries P None before after entries end none by ((nil, how), same) = subst P (sym nil) none
  part_entries P (Some ask) before after entries end none by run = by (question_of setting selector ask) run

  -- the part of one that came to another end is a query of the view
  pub part_ends : (ask : Option Ask) (before after : Holding) (entries : List Entry) (end : End) → (end ≡ not_asked → ⊥) → PartTask setting selector ask before entries (Some end) after
      → (own : Ask) × (ask ≡ Some own) × QueryTask before.used (question_of setting selector own) before entries (Some end) after
  part_ends None before after entries end differ ((nil, inl none), kept) = absurd (cc (none))
  part_ends None before after entries end differ ((nil, inr same), kept) = absurd (differ (cc (same)))
  part_ends (Some own) before after entries end differ run = (own, refl, run)

-- what is asked of a view
pub record Asks (used : Option Use) (asked : Option Question) (before : Holding) (entries : List Entry) (end : Option End) (after : Holding) : Type 0 where
  pub from : Use
  pub view : used ≡ Some from
  pub question : Question
  pub is : asked ≡ Some question
  pub own : Option CallEnd
  pub run : SeriesRun from.view question before.cache entries own
  pub came : end ≡ option_map (λ call. answered from call.end) own
  pub left : after ≡ called_with before own

-- a query of a gateway without a view does nothing, and any other is a call
pub query_is : (used : Option Use) (asked : Option Question) (before : Holding) (entries : List Entry) (end : Option End) (after : Holding) → QueryTask used asked before entries end after
    → (NothingDone without_view entries end × (used ≡ None) × (after ≡ before)) ⊎ Asks used asked before entries end after
query_is None asked before entries end after run = inl (run.0, refl, run.1)
query_is (Some used) None before entries end after run = absurd run
query_is (Some used) (Some asked) before entries end after (own, run, is, same) =
    inr (record { from = used; view = refl; question = asked; is = refl; own = own; run = run; came = is; left = same })

-- ---- what is asked

module _ (times : Partition) where
  -- what is asked, by its gateway's place behind those before it
  abbrev IsAskFrom : ℕ → List Partition → Ask → Type 0
  IsAskFrom number partitions ask = (k : ℕ) × (partition : Partition) × (slice_get partitions k ≡ Some partition) × (ask ≡ ask_of times (number + k) partition)

  ask_from : (number : ℕ) (partitions : List Partition) (ask : Ask) → Contains (map (λ (gateway : ℕ × Partition). ask_of times gateway.0 gateway.1) (enumerate_from number partitions)) ask → IsAskFrom number partitions ask
  ask_from number [] ask (k, below, at) = absurd (omega (arith, below))
  ask_from number (p ∷ partitions) ask among =
      elim (member_cases (ask_of times number p) ask (map (λ (gateway : ℕ × Partition). ask_of times gateway.0 gateway.1) (enumerate_from (number + 1) partitions)) among) [
        | inl same ↦
            let here : number ≡ number + 0 = omega arith in
            (0, p, refl, sym same ∙ ap (λ (n : ℕ). ask_of times n p) here)
        | inr later ↦
            let rest = ask_from (number + 1) partitions ask later in
            let there : number + 1 + rest.0 ≡ number + suc rest.0 = omega arith in
            (suc rest.0, rest.1, rest.2, rest.3 ∙ ap (λ (n : ℕ). ask_of times n rest.1) there)
      ]

  asked_once : (partitions : List Partition) (one other : Ask) → IsAskFrom 0 partitions one → IsAskFrom 0 partitions other → one.gateway ≡ other.gateway → one ≡ other
  asked_once partitions one other (k, p, at, is) (j, q, there, so) same =
      let number : 0 + k ≡ 0 + j = sym (ap (λ (a : Ask). a.gateway) is) ∙ same ∙ ap (λ (a : Ask). a.gateway) so in
      let place : k ≡ j = omega (arith, number) in
      let both : slice_get partitions k ≡ Some q = ap (slice_get partitions) place ∙ there in
      let own : p ≡ q = cc (at, both) in
      is ∙ ap (ask_of times (0 + k)) own ∙ ap (λ (n : ℕ). ask_of times n q) number ∙ sym so

-- what a gateway's worker is asked is for that gateway
pub ask_gateway : (setting : Setting) (gateway : ℕ) (low high : ℤ) (own : Ask) → ask_to setting (Some gateway) low high ≡ Some own → own.gateway ≡ gateway
ask_gateway setting gateway low high own found =
    let test : (own.gateway == gateway) ≡ true = find_passes (λ (a : Ask). a.gateway == gateway) (asks_in setting low high) own found in grind (arith, nat_tests, test)

-- and it is what its gateway is asked in the query
pub one_ask : (setting : Setting) (gateway : ℕ) (low high : ℤ) (own ask : Ask) → ask_to setting (Some gateway) low high ≡ Some own → Contains (asks_in setting low high) ask → ask.gateway ≡ gateway → own ≡ ask
one_ask setting gateway low high own ask found among is =
    let times : Partition = record { low = low; high = high } in
    let all = map (λ (own : ℕ × Partition). ask_of times own.0 own.1) (enumerate_from 0 setting.script.partitions) in
    let inside : Contains (asks_in setting low high) own = find_holds (Contains (asks_in setting low high)) (λ (a : Ask). a.gateway == gateway) (asks_in setting low high) own (All-contains_itself (asks_in setting low high)) found in
    let whose = ask_gateway setting gateway low high own found in
    asked_once times setting.script.partitions own ask
    (ask_from times 0 setting.script.partitions own (of_filter has_times all own inside))
    (ask_from times 0 setting.script.partitions ask (of_filter has_times all ask among)) (whose ∙ sym is)

-- it is for the times of some partition
pub ask_partition : (setting : Setting) (gateway : ℕ) (low high : ℤ) (ask : Ask) → ask_to setting (Some gateway) low high ≡ Some ask
    → (number : ℕ) × (p : Partition) × Contains setting.script.partitions p × (ask ≡ ask_of (record { low = low; high = high }) number p)
ask_partition setting gateway low high ask found =
    let times : Partition = record { low = low; high = high } in
    let all = map (λ (own : ℕ × Partition). ask_of times own.0 own.1) (enumerate_from 0 setting.script.partitions) in
    let inside : Contains (asks_in setting low high) ask = find_holds (Contains (asks_in setting low high)) (λ (a : Ask). a.gateway == gateway) (asks_in setting low high) ask (All-contains_itself (asks_in setting low high)) found in
    let from = ask_from times 0 setting.script.partitions ask (of_filter has_times all ask inside) in
    (0 + from.0, from.1, contains_place setting.script.partitions from.0 from.1 from.2, from.3)

-- ---- what all gateways are asked

-- what is asked of so many gateways, the first of which has this number
abbrev pub asks_with : Option Ask → List Ask → List Ask
asks_with None asks = asks
asks_with (Some ask) asks = ask ∷ asks

abbrev pub asks_on : (ℕ → Option Ask) → ℕ → ℕ → List Ask
asks_on ask gateway zero = []
asks_on ask gateway (suc count) = asks_with (ask gateway) (asks_on ask (gateway + 1) count)

module _ (times : Partition) where
  abbrev Sought : ℕ → List Ask → Option Ask
  Sought gateway asks = find (λ (ask : Ask). ask.gateway == gateway) asks

  below_first : (gateway number : ℕ) (p : Partition) (asks : List Ask) (b : Bool) → gateway < number → Sought gateway asks ≡ None → Sought gateway (cond b (ask_of times number p ∷ asks) asks) ≡ None
  below_first gateway number p asks true less none =
      let other : (number == gateway) ≡ false = grind (arith, nat_tests, less) in
      ap (λ (c : Bool). cond c (Some (ask_of times number p)) (Sought gateway asks)) other ∙ none
  below_first gateway number p asks false less none = none

  none_below : (gateway number : ℕ) (partitions : List Partition) → gateway < number → Sought gateway (asks_from times number partitions) ≡ None
  none_below gateway number [] less = refl
  none_below gateway number (p ∷ partitions) less =
      below_first gateway number p (asks_from times (number + 1) partitions) (has_times (ask_of times number p)) less (none_below gateway (number + 1) partitions (omega (arith, less)))

  on_first : (ask : ℕ → Option Ask) (number count : ℕ) (p : Partition) (asks : List Ask) (b : Bool) → ((gateway : ℕ) → number ≤ gateway → ask gateway ≡ Sought gateway (cond b (ask_of times number p ∷ asks) asks)) → Sought number asks ≡ None
      → (((gateway : ℕ) → number + 1 ≤ gateway → ask gateway ≡ Sought gateway asks) → asks_on ask (number + 1) count ≡ asks)
      → asks_with (ask number) (asks_on ask (number + 1) count) ≡ cond b (ask_of times number p ∷ asks) asks
  on_first ask number count p asks true known none rest =
      let own : (number == number) ≡ true = grind (arith, nat_tests) in
      let here : ask number ≡ Some (ask_of times number p) = known number (omega arith) ∙ ap (λ (c : Bool). cond c (Some (ask_of times number p)) (Sought number asks)) own in
      let later : (gateway : ℕ) → number + 1 ≤ gateway → ask gateway ≡ Sought gateway asks = λ gateway above.
      let other : (number == gateway) ≡ false = grind (arith, nat_tests, above) in
      known gateway (omega (arith, above)) ∙ ap (λ (c : Bool). cond c (Some (ask_of times number p)) (Sought gateway asks)) other in
      ap (λ (o : Option Ask). asks_with o (asks_on ask (number + 1) count)) here ∙ ap (λ (l : List Ask). ask_of times number p ∷ l) (rest later)
  on_first ask number count p asks false known none rest =
      let here : ask number ≡ None = known number (omega arith) ∙ none in
      ap (λ (o : Option Ask). asks_with o (asks_on ask (number + 1) count)) here ∙ rest (λ gateway above. known gateway (omega (arith, above)))

  asks_on_are : (ask : ℕ → Option Ask) (number : ℕ) (partitions : List Partition) → ((gateway : ℕ) → number ≤ gateway → ask gateway ≡ Sought gateway (asks_from times number partitions))
      → asks_on ask number (length partitions) ≡ asks_from times number partitions
  asks_on_are ask number [] known = refl
  asks_on_are ask number (p ∷ partitions) known =
      on_first ask number (length partitions) p (asks_from times (number + 1) partitions) (has_times (ask_of times number p)) known (none_below number (number + 1) partitions (omega arith))
      (λ later. asks_on_are ask (number + 1) partitions later)

-- what each gateway is asked is what all of them are asked
pub asked_each : (setting : Setting) (low high : ℤ) (count : ℕ) → length setting.script.partitions ≡ count → asks_on (λ gateway. ask_to setting (Some gateway) low high) 0 count ≡ asks_in setting low high
asked_each setting low high count same =
    ap (asks_on (λ gateway. ask_to setting (Some gateway) low high) 0) (sym same)
    ∙ asks_on_are (record { low = low; high = high }) (λ gateway. ask_to setting (Some gateway) low high) 0 setting.script.partitions (λ gateway above. refl)
