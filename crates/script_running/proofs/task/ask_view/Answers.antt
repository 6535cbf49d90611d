use Rattle.std.proofs.Common.{true, false, refl, ◌∙◌, ap}
use Rattle.std.specs.Prelude.{slice_get}
use Rattle.std.specs.Int.{w64}
use Rattle.std.proofs.lemmas.Int.{to_z-of_z}
use Rattle.store_ranges.specs.Caches.{held}
use Rattle.store_calls.specs.SeriesCalls.{asking}
use Rattle.store_calls.specs.declared.running.CallLeft.{CallLeft}
use Rattle.script_running.specs.Outcomes.{call_part}
use Rattle.script_running.specs.Sights.{cache_of}
use Rattle.script_running.specs.declared.came.Came.TheVariants as part
use Rattle.script_running.proofs.Calls.{call_told, drives_same}
use Rattle.world_core.proofs.Turning.{none_turned}
use Rattle.script_running.proofs.Leaving.{end_left}
use Rattle.script_running.proofs.TaskSteps.{asked_again, blind_asked, call_asked, short_asked}
use Rattle.script_running.proofs.task.ask_view.Goals as goal
use Rattle.base.proofs.Options.{one_value}

pub returns-clause-asked : goal.returns-clause-asked
returns-clause-asked g c = λ holding selector sees at.
    let low = c.args.ask.now.low in
    let high = c.args.ask.now.high in
    let seat = (g.H.Hand.told c.args.hand.now).seat in
    let old = (g.H.Hand.told c.args.hand.now).entries in
    let new = (g.H.Hand.told c.run_call-driven.new.hand).entries in
    let own = c.in-Ok.selector in
    let rules = c.rules.result.now in
    let same = one_value own selector (slice_get c.args.means.now.script.selectors c.args.number) c.in-Ok.ensures at in
    let drives = drives_same c.in-Some.view own rules.replicas (held c.in-Ok-own_cache.own) _ low _ high seat c.run_call-driven.result old new (to_z-of_z w64 low c.requires.fits.0) (to_z-of_z w64 high c.requires.fits.1) c.run_call-driven.ensures.run in
    asked_again holding own selector rules c.args.means.now.script.rules low high seat old new (record { view = c.args.sight.now.view; cache = c.take_cache.new.cache }) c.take_cache.result same c.rules.ensures.are
    (call_asked holding (asking own rules.replicas low high) seat old new c.take_cache.result c.args.sight.now (record { view = c.args.sight.now.view; cache = c.take_cache.new.cache }) c.in-Some.view (held c.in-Ok-own_cache.own)
    c.in-Some.is refl (c.in-Ok-own_cache.ensures ∙ ap cache_of c.take.ensures.value)
    (λ used same. call_told c.in-Some.view (asking own rules.replicas low high) (held c.in-Ok-own_cache.own) seat old new used same _ _ c.run_call-driven.result c.take_cache.result c.take_cache.ensures.came c.take_cache.ensures.cache drives)
    sees)

pub returns-clause-hand : goal.returns-clause-hand
returns-clause-hand g c = end_left g.H.Hand.told g.H.Hand.keeps (λ (left : CallLeft). part.Query (call_part c.in-Some.view.first left.end)) _ _ c.run_call-driven.result c.take_cache.result c.take_cache.ensures.came c.run_call-driven.ensures.hand

pub returns-in_default-selector-clause-asked : goal.returns-in_default-selector-clause-asked
returns-in_default-selector-clause-asked g c = λ holding selector sees at.
    short_asked holding (asking selector c.args.means.now.script.rules.replicas c.args.ask.now.low c.args.ask.now.high) (g.H.Hand.told c.args.hand.now).seat (g.H.Hand.told c.args.hand.now).entries _

pub returns-in_default-own_cache-clause-asked : goal.returns-in_default-own_cache-clause-asked
returns-in_default-own_cache-clause-asked g c = λ holding selector sees at.
    short_asked holding (asking selector c.args.means.now.script.rules.replicas c.args.ask.now.low c.args.ask.now.high) (g.H.Hand.told c.args.hand.now).seat (g.H.Hand.told c.args.hand.now).entries _

pub returns-in_default-clause-asked : goal.returns-in_default-clause-asked
returns-in_default-clause-asked g c = λ holding selector sees at.
    blind_asked holding (asking selector c.args.means.now.script.rules.replicas c.args.ask.now.low c.args.ask.now.high) (g.H.Hand.told c.args.hand.now).seat (g.H.Hand.told c.args.hand.now).entries
    c.args.sight.now c.in_default.is sees

pub returns-in_default-selector-clause-hand : goal.returns-in_default-selector-clause-hand
returns-in_default-selector-clause-hand g c = none_turned g.H.Hand.told g.H.Hand.keeps g.met.H.Hand.keeps_none _ true

pub returns-in_default-own_cache-clause-hand : goal.returns-in_default-own_cache-clause-hand
returns-in_default-own_cache-clause-hand g c = none_turned g.H.Hand.told g.H.Hand.keeps g.met.H.Hand.keeps_none _ true

pub returns-in_default-clause-hand : goal.returns-in_default-clause-hand
returns-in_default-clause-hand g c = none_turned g.H.Hand.told g.H.Hand.keeps g.met.H.Hand.keeps_none _ false
