-- The parts of all who do a task, by their ends.
use Rattle.std.proofs.Common.{◌≡◌, ℕ, Bool, true, false, Option, ◌≤◌, List, [], ◌∷◌, length, map, refl, ◌∙◌, ap, arith}
use Rattle.std.specs.Prelude.{if◌then◌else◌}
use Rattle.std.specs.List.{AllZip, range_with_len}
use Rattle.std.proofs.lemmas.List.FromFn.{length-map-range_with_len}
use Rattle.script_workers.specs.Hands.{hands_of_task, own_hand}
use Rattle.script_workers.specs.Works.{asks_all}
use Rattle.script_workers.specs.declared.hand.Hand.{Hand}
use Rattle.script_workers.specs.declared.hand.Hand.TheVariants as hands
use Rattle.script_workers.specs.declared.work.Work.{Work}
use Rattle.script_workers.specs.declared.work.Work.TheVariants as work
use Rattle.lifecycle_core.specs.Tasks.{End, answered, cleaned, compacted, not_asked, refused, stopped, synced, uploaded, without_view}
use Rattle.script_running.specs.Outcomes.{AreAllParts, IsGatewayPart, IsOwnPart, IsPart, IsWhole, Outcome, Part, PartBy, PartsBy, call_part, sync_outcome}
use Rattle.script_running.specs.declared.came.Came.TheVariants as came_to
use Rattle.script_running.specs.declared.came.Stop.TheVariants as halt
use Rattle.script_running.specs.declared.outcome.QueryPart.{QueryPart}
use Rattle.script_running.specs.declared.outcome.QueryPart.TheVariants as given

one_gateway : (end : End) (one : Part) → IsGatewayPart end one → (own : QueryPart) × (one ≡ came_to.Query own)
one_gateway (uploaded e) one is = absurd is
one_gateway (synced e) one is = absurd is
one_gateway (compacted e) one is = absurd is
one_gateway (cleaned e) one is = absurd is
one_gateway (answered used e) one is = (call_part used.view.first e, is)
one_gateway without_view one is = (given.NoView, is)
one_gateway not_asked one is = (given.NotAsked, is)
one_gateway (refused cause) one is = absurd is
one_gateway (stopped count) one is = absurd is

gateway_parts : (ends : List End) (parts : List Part) → AllZip IsGatewayPart ends parts → (own : List QueryPart) × (parts ≡ map came_to.Query own)
gateway_parts [] [] all = ([], refl)
gateway_parts [] (one ∷ parts) all = absurd all
gateway_parts (end ∷ ends) [] all = absurd all
gateway_parts (end ∷ ends) (one ∷ parts) all =
    let first = one_gateway end one all.0 in
    let rest = gateway_parts ends parts all.1 in
    (first.0 ∷ rest.0, ap (λ (p : Part). p ∷ parts) first.1 ∙ ap (λ (l : List Part). came_to.Query first.0 ∷ l) rest.1)

-- one part that is the whole of its task
whole_by : (one own : Part) (o : Outcome) → one ≡ own → IsWhole own o → (p : Part) × (q : Outcome) × (one ∷ [] ≡ p ∷ []) × IsWhole p q
whole_by one own o is whole = (own, o, ap (λ (p : Part). p ∷ []) is, whole)

one_upload : (ulid : ℕ) (stop : Option ℕ) (end : End) (one : Part) → IsOwnPart (work.Upload ulid stop) end one → PartsBy false (one ∷ [])
one_upload ulid stop (uploaded e) one is = whole_by one _ (came_to.Upload (halt.Ended e)) is refl
one_upload ulid stop (synced e) one is = absurd is
one_upload ulid stop (compacted e) one is = absurd is
one_upload ulid stop (cleaned e) one is = absurd is
one_upload ulid stop (answered used e) one is = absurd is
one_upload ulid stop without_view one is = absurd is
one_upload ulid stop not_asked one is = absurd is
one_upload ulid stop (refused cause) one is = whole_by one _ (came_to.Unshipped cause) is refl
one_upload ulid stop (stopped count) one is = whole_by one _ (came_to.Upload (halt.At count)) is refl

one_sync : (gateway : ℕ) (end : End) (one : Part) → IsOwnPart (work.Sync gateway) end one → PartsBy false (one ∷ [])
one_sync gateway (uploaded e) one is = absurd is
one_sync gateway (synced e) one is = whole_by one _ (came_to.Sync (sync_outcome e)) is refl
one_sync gateway (compacted e) one is = absurd is
one_sync gateway (cleaned e) one is = absurd is
one_sync gateway (answered used e) one is = absurd is
one_sync gateway without_view one is = absurd is
one_sync gateway not_asked one is = absurd is
one_sync gateway (refused cause) one is = absurd is
one_sync gateway (stopped count) one is = absurd is

one_compact : (stop : Option ℕ) (end : End) (one : Part) → IsOwnPart (work.Compact stop) end one → PartsBy false (one ∷ [])
one_compact stop (uploaded e) one is = absurd is
one_compact stop (synced e) one is = absurd is
one_compact stop (compacted e) one is = whole_by one _ (came_to.Compact (halt.Ended e)) is refl
one_compact stop (cleaned e) one is = absurd is
one_compact stop (answered used e) one is = absurd is
one_compact stop without_view one is = absurd is
one_compact stop not_asked one is = absurd is
one_compact stop (refused cause) one is = absurd is
one_compact stop (stopped count) one is = whole_by one _ (came_to.Compact (halt.At count)) is refl

one_clean : (stop : Option ℕ) (end : End) (one : Part) → IsOwnPart (work.Clean stop) end one → PartsBy false (one ∷ [])
one_clean stop (uploaded e) one is = absurd is
one_clean stop (synced e) one is = absurd is
one_clean stop (compacted e) one is = absurd is
one_clean stop (cleaned e) one is = whole_by one _ (came_to.Clean (halt.Ended e)) is refl
one_clean stop (answered used e) one is = absurd is
one_clean stop without_view one is = absurd is
one_clean stop not_asked one is = absurd is
one_clean stop (refused cause) one is = absurd is
one_clean stop (stopped count) one is = whole_by one _ (came_to.Clean (halt.At count)) is refl

one_own : (w : Work) (end : End) (one : Part) → IsOwnPart w end one → PartsBy false (one ∷ [])
one_own (work.Upload ulid stop) end one is = one_upload ulid stop end one is
one_own (work.Sync gateway) end one is = one_sync gateway end one is
one_own (work.Compact stop) end one is = one_compact stop end one is
one_own (work.Clean stop) end one is = one_clean stop end one is
one_own (work.Query low high selector) end one is = absurd is

-- one who does a task alone has one end and one part
alone_parts : (w : Work) (ends : List End) (parts : List Part) → length ends ≡ 1 → AllZip (IsOwnPart w) ends parts → PartsBy false parts
alone_parts w [] parts count all = absurd (omega (arith, count))
alone_parts w (end ∷ []) [] count all = absurd all
alone_parts w (end ∷ []) (one ∷ []) count all = one_own w end one all.0
alone_parts w (end ∷ []) (one ∷ other ∷ parts) count all = absurd all.1
alone_parts w (end ∷ next ∷ ends) parts count all = absurd (omega (arith, count))

-- those who do a task, by whether it asks all gateways
abbrev HandsBy : Bool → ℕ → ℕ → Work → List Hand
HandsBy asks gateways place w = if asks then map hands.Gateway (range_with_len 0 gateways) else own_hand place w ∷ []

parts_by : (asks : Bool) (w : Work) (gateways place : ℕ) (ends : List End) (parts : List Part) → length ends ≡ length (HandsBy asks gateways place w) → AllZip (PartBy asks w) ends parts → PartsBy asks parts
parts_by true w gateways place ends parts count all = gateway_parts ends parts all
parts_by false w gateways place ends parts count all = alone_parts w ends parts count all

-- the parts of as many as do the task are those of all who do it
pub all_parts : (w : Work) (gateways place : ℕ) (ends : List End) (parts : List Part) → length ends ≡ length (hands_of_task gateways place w) → AllZip (IsPart w) ends parts → AreAllParts w parts
unfolding hands_of_task
all_parts w gateways place ends parts count all = parts_by (asks_all w) w gateways place ends parts count all

few_by : (asks : Bool) (w : Work) (gateways place : ℕ) → gateways ≤ 16 → length (HandsBy asks gateways place w) ≤ 16
few_by true w gateways place few = let count = length-map-range_with_len hands.Gateway 0 gateways in omega (arith, few, count)
few_by false w gateways place few = omega arith

-- so there are few of them
pub few_parts : (w : Work) (gateways place : ℕ) → gateways ≤ 16 → length (hands_of_task gateways place w) ≤ 16
unfolding hands_of_task
few_parts w gateways place few = few_by (asks_all w) w gateways place few
