-- Where no block of a script is refused, no task of a run comes to such an end.
use Rattle.std.proofs.Common.{◌≡◌, ℕ, List, Option, Some, None, inl, inr, sym, subst}
use Rattle.world_core.specs.Plans.{Plan}
use Rattle.world_core.specs.declared.entry.Entry.{Entry}
use Rattle.compactor.specs.Compactions.{compaction}
use Rattle.cleaner.specs.Cleanings.{cleaning}
use Rattle.store_ranges.specs.Reads.{Query as Question}
use Rattle.querier.specs.declared.asking.Ask.{Ask}
use Rattle.script_core.specs.declared.block.Block.{Block}
use Rattle.script_workers.specs.declared.work.Work.{Work}
use Rattle.script_workers.specs.declared.work.Work.TheVariants.{Upload, Sync, Compact, Clean, Query}
use Rattle.call_verdicts.specs.lifecycle_core.specs.Causes.{SomeCame}
use Rattle.call_verdicts.specs.lifecycle_core.specs.Conducts.{Who}
use Rattle.call_verdicts.specs.lifecycle_core.specs.Holdings.{Holding, Use}
use Rattle.call_verdicts.specs.lifecycle_core.specs.Phases.{IsRunOf}
use Rattle.call_verdicts.specs.lifecycle_core.specs.Setting.{Setting}
use Rattle.call_verdicts.specs.lifecycle_core.specs.Shipped.{IsRefused}
use Rattle.call_verdicts.specs.lifecycle_core.specs.Tasks.{End, PartTask, QueryTask, ShipTask, StoppedRun, TaskRun, ask_to, cleaned, compacted, question_of, refused}
use Rattle.call_verdicts.specs.lifecycle_core.proofs.journals.Rising.{journal_rises}
use Rattle.call_verdicts.specs.lifecycle_core.proofs.phases.TasksMade.{ends_are_made}
use Rattle.call_verdicts.specs.Shippable.{RefusesNone}

-- a run that may be stopped does not end so
stopped_refused : {E : Type 0} (plan : Plan E) (gives : E → End) (stop : Option ℕ) (entries : List Entry) (cause : ℕ) → ((own : E) → gives own ≡ refused cause → ⊥) → ¬ StoppedRun plan gives stop entries (Some (refused cause))
stopped_refused plan gives stop entries cause never (None, run, inl (is, early)) = cc (is)
stopped_refused plan gives stop entries cause never (Some own, run, inl (is, early)) = never own (cc (is))
stopped_refused plan gives stop entries cause never (own, run, inr (n, reached, is)) = cc (is)

-- an upload that ends as refused is of a block that is refused
ship_refused : (setting : Setting) (block : Block) (stop : Option ℕ) (entries : List Entry) (cause : ℕ) → ShipTask setting block stop entries (Some (refused cause)) → IsRefused setting block cause
ship_refused setting block stop entries cause (inl (objects, None, shipped, run, inl (is, early))) = absurd (cc (is))
ship_refused setting block stop entries cause (inl (objects, Some own, shipped, run, inl (is, early))) = absurd (cc (is))
ship_refused setting block stop entries cause (inl (objects, own, shipped, run, inr (n, reached, is))) = absurd (cc (is))
ship_refused setting block stop entries cause (inr (inl (other, is, (nil, inl off)))) = absurd (cc (off))
ship_refused setting block stop entries cause (inr (inl (other, is, (nil, inr same)))) = let e : cause ≡ other = cc (same) in subst (IsRefused setting block) (sym e) is
ship_refused setting block stop entries cause (inr (inr (nil, off))) = absurd (cc (off))

query_refused : (used : Option Use) (asked : Option Question) (before after : Holding) (entries : List Entry) (cause : ℕ) → ¬ QueryTask used asked before entries (Some (refused cause)) after
query_refused None asked before after entries cause ((nil, inl off), left) = cc (off)
query_refused None asked before after entries cause ((nil, inr same), left) = cc (same)
query_refused (Some used) None before after entries cause run = run
query_refused (Some used) (Some asked) before after entries cause (None, run, same, left) = cc (same)
query_refused (Some used) (Some asked) before after entries cause (Some call, run, same, left) = cc (same)

part_refused : (setting : Setting) (selector : ℕ) (ask : Option Ask) (before after : Holding) (entries : List Entry) (cause : ℕ) → ¬ PartTask setting selector ask before entries (Some (refused cause)) after
part_refused setting selector None before after entries cause ((nil, inl off), left) = cc (off)
part_refused setting selector None before after entries cause ((nil, inr same), left) = cc (same)
part_refused setting selector (Some ask) before after entries cause run = query_refused before.used (question_of setting selector ask) before after entries cause run

task_refused : (setting : Setting) (who : Who) (place : ℕ) (w : Work) (held after : Holding) (entries : List Entry) (cause : ℕ) → RefusesNone setting → ¬ TaskRun setting who place w held entries (Some (refused cause)) after
task_refused setting who place (Upload ulid stop) held after entries cause none ((block, is, ships), left) = none ulid block cause is (ship_refused setting block stop entries cause ships)
task_refused setting who place (Sync gateway) held after entries cause none (None, run, same, left) = cc (same)
task_refused setting who place (Sync gateway) held after entries cause none (Some own, run, same, left) = cc (same)
task_refused setting who place (Compact stop) held after entries cause none (run, left) = stopped_refused (compaction setting.script.rules) compacted stop entries cause (λ own is. cc (is)) run
task_refused setting who place (Clean stop) held after entries cause none (run, left) = stopped_refused (cleaning setting.script.rules) cleaned stop entries cause (λ own is. cc (is)) run
task_refused setting who place (Query low high selector) held after entries cause none run = part_refused setting selector (ask_to setting who.gateway low high) held after entries cause run

pub none_refused : (setting : Setting) (journal : List Entry) (ends : List (List (List End))) → RefusesNone setting → IsRunOf setting journal ends → (end : End) → SomeCame ends end → (cause : ℕ) → ¬ (end ≡ refused cause)
none_refused setting journal ends none run end came cause is =
    let made = ends_are_made setting journal ends (journal_rises setting.script.rules.tick.ms journal run.kept) run (refused cause) (subst (SomeCame ends) is came) in
    let m = made.1 in
    task_refused setting m.who m.place (made.0).work m.held m.after m.entries cause none m.run
