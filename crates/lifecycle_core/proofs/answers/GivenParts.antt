-- What gateways gave to an answered query of a run: each part is the answer of a call in the journal, over the view of a sync in it.
use Rattle.base.proofs.Membership.{into_map}
use Rattle.base.proofs.Pairs.{AllZip-second}
use Rattle.std.proofs.Common.{◌≡◌, ℕ, List, Contains, Option, Some, refl, sym, ◌∙◌, ap, subst}
use Rattle.std.specs.Prelude.{get_or}
use Rattle.std.specs.List.{All}
use Rattle.std.proofs.lemmas.List.Elements.{All-contains_itself}
use Rattle.label_sets.specs.declared.series.Series.{Series}
use Rattle.world_core.specs.declared.entry.Entry.{Entry}
use Rattle.store_calls.specs.SeriesCalls.{asking}
use Rattle.store_calls.specs.declared.series_call.SeriesEnd.{SeriesEnd}
use Rattle.store_calls.specs.declared.series_call.SeriesEnd.TheVariants as called
use Rattle.querier.specs.declared.asking.Ask.{Ask}
use Rattle.script_core.specs.Workers.{workers_of}
use Rattle.lifecycle_core.specs.Conducts.{Who, who_of}
use Rattle.lifecycle_core.specs.Guarantees.{Answered, IsGiven, IsPartGiven, Named, ask_by}
use Rattle.lifecycle_core.specs.Phases.{IsRunOf}
use Rattle.lifecycle_core.specs.Setting.{Setting}
use Rattle.lifecycle_core.specs.SyncsAndCalls.{IsCallIn, IsViewOf}
use Rattle.lifecycle_core.specs.Tasks.{End, answered, ask_to, asks_in, sync_rules}
use Rattle.lifecycle_core.proofs.answers.EndsAreCalls.{Called, called_in, task_called, view_of}
use Rattle.lifecycle_core.proofs.journals.Rising.{journal_rises}
use Rattle.lifecycle_core.proofs.journals.Told.{IsMade, IsOrigin}
use Rattle.lifecycle_core.proofs.phases.GatewayParts.{one_ask}
use Rattle.lifecycle_core.proofs.phases.TasksMade.{IsMadeBy, answers_are_made}

module _ (setting : Setting) (journal : List Entry) (ends : List (List (List End))) (run : IsRunOf setting journal ends) (query : Answered) (given : IsGiven setting ends query) where
  abbrev pub Part : Named → List Series → Type 0
  Part = IsPartGiven (workers_of setting.script given.phase_number) given.phase_ends given.place

  -- one gateway's part
  module _ (named : Named) (series : List Series) (among : Contains query.named named) (part : Part named series) where
    abbrev end : SeriesEnd
    end = called.Answer series named.sources

    pub made_by : IsMadeBy setting journal (who_of part.worker) given.task (answered named.used end)
    made_by = answers_are_made setting journal ends (journal_rises setting.script.rules.tick.ms journal run.kept) run given.phase_number given.phase given.phase_ends (Some named.gateway) given.place given.task (answered named.used end) given.in_phases
        given.in_tasks given.phase_came part

    abbrev pub made : IsMade setting journal given.task (answered named.used end)
    made = made_by.0

    pub by_gateway : made.who.gateway ≡ Some named.gateway
    by_gateway = ap (λ (who : Who). who.gateway) made_by.1 ∙ part.is

    -- the call is for the times that are named
    pub the_call : Called setting made.held made.entries named.used end named.low named.high query.selector
    the_call =
        let call = task_called setting made.who made.place given.task.work made.held made.after made.entries named.used end given.low given.high given.selector_number query.selector given.asks given.selects made.run in
        let asks : Contains (asks_in setting given.low given.high) (ask_by named) = subst (λ (l : List Ask). Contains l (ask_by named)) given.every (into_map ask_by query.named named among) in
        let found : ask_to setting (Some named.gateway) given.low given.high ≡ Some call.0 = ap (λ (o : Option ℕ). ask_to setting o given.low given.high) (sym by_gateway) ∙ call.1 in
        let same : call.0 ≡ ask_by named = one_ask setting named.gateway given.low given.high call.0 (ask_by named) found asks refl in
        subst (λ (ask : Ask). Called setting made.held made.entries named.used end ask.low ask.high query.selector) same call.2

    pub in_journal : IsCallIn journal named.used (asking query.selector setting.script.rules.replicas named.low named.high) made.entries (Some end)
    in_journal = called_in setting journal named.used end made named.low named.high query.selector the_call

    -- the view is of a sync by its own gateway's rules
    abbrev pub origin : IsOrigin setting journal named.used
    origin = made.origin named.used the_call.is

    unfoldable pub view : IsViewOf (sync_rules setting named.gateway) journal named.used origin.entries
    view = view_of setting journal named.gateway named.used origin (made.same named.used the_call.is named.gateway by_gateway)

  -- what holds of each gateway's part holds of all that are named
  pub of_parts : (P : Named → Type 0) → ((named : Named) (series : List Series) → Contains query.named named → Part named series → P named) → All P query.named
  of_parts P each = λ k d below.
      let named = get_or query.named k d in
      let among = All-contains_itself query.named k d below in
      let part = AllZip-second Part query.named given.parts named given.given among in
      each named part.0 among part.2
