-- A worker's job may go to another thread. Each type stands here by itself, since a `search` that goes down through all of them runs
-- out of steps.
use denote.Ref.{NamedLft}
use denote.Param.Send.{IsSend, IsSync, sendable}
use Rattle.std.proofs.Crossing.{crosses}
use Rattle.std.proofs.MapsCrossing.{crosses as maps_cross}
use Rattle.bytes.proofs.block.Block.TheSendSync as block
use Rattle.bytes.proofs.block.Seen.TheSendSync as seen
use Rattle.lru.proofs.list.List.TheSendSync as nodes
use Rattle.lru.proofs.entry.Deed.TheSendSync as deed
use Rattle.lru.proofs.key_ref.KeyRef.TheSendSync as key
use Rattle.wire_bytes.specs.contracts.blob.Kept as Kept
use Rattle.wire_bytes.specs.contracts.blob.Blob as Blob
use Rattle.block_keys.specs.contracts.object.Object as Object
use Rattle.label_sets.specs.contracts.label_set.LabelSet as LabelSet
use Rattle.meta_fetcher.specs.contracts.view.View as View
use Rattle.sync_filters.specs.contracts.found.Found as Found
use Rattle.store_ranges.specs.contracts.cache.IndexCache as IndexCache
use Rattle.script_core.specs.contracts.block.Block as Block
use Rattle.script_core.specs.contracts.body.Body as Body
use Rattle.script_workers.specs.contracts.task.Task as Task
use Rattle.script_workers.specs.contracts.worker.Worker as Worker
use Rattle.script_running.specs.contracts.sight.Sight as Sight
use Rattle.script_running.specs.contracts.worker.WorkerJob as WorkerJob
use Rattle.script_running.specs.contracts.shelf.ShelfBlock as ShelfBlock
use Rattle.script_running.specs.contracts.shelf.ShelfFound as ShelfFound

kept_sent : IsSend (Kept.the_field).row
kept_sent = search (sendable, crosses, block.the_send, block.the_sync, seen.the_send) depth 40 fits 40000

blob_send : IsSend Blob.the_row
blob_send = let kept = kept_sent in search (sendable, crosses) depth 24

blob_sent : IsSend (Blob.the_field).row
blob_sent = let blob = blob_send in search (sendable, crosses) depth 24

kept_field : IsSync (Kept.the_field).row
kept_field = search (sendable, crosses, block.the_send, block.the_sync, seen.the_sync) depth 40 fits 40000

blob_sync : IsSync Blob.the_row
blob_sync = let kept = kept_field in search (sendable, crosses) depth 24

blob_field : IsSync (Blob.the_field).row
blob_field = let blob = blob_sync in search (sendable, crosses) depth 24

object_field : IsSync (Object.the_field).row
object_field = let blob = blob_field in search (sendable, crosses) depth 24

found_sync : IsSync ShelfFound.the_row
found_sync = let object = object_field in search (sendable, crosses) depth 24

found_field : IsSync (ShelfFound.the_field).row
found_field = let object = object_field in search (sendable, crosses) depth 40 fits 40000

shelf_sync : IsSync ShelfBlock.the_row
shelf_sync = let found = found_sync in let field = found_field in search (sendable, crosses) depth 40

pub shelf_field : IsSync (ShelfBlock.the_field).row
shelf_field = let found = found_sync in let field = found_field in let shelf = shelf_sync in search (sendable, crosses) depth 40

labels_field : IsSync (LabelSet.the_field).row
labels_field = search (sendable, crosses) depth 40 fits 40000

body_field : IsSync (Body.the_field).row
body_field = search (sendable, crosses) depth 40 fits 40000

pub block_field : IsSync (Block.the_field).row
block_field = let labels = labels_field in let body = body_field in search (sendable, crosses) depth 40 fits 40000

pub task_field : IsSync (Task.the_field).row
task_field = search (sendable, crosses) depth 40 fits 40000

pub worker_field : IsSend (Worker.the_field).row
worker_field = search (sendable, crosses) depth 40 fits 40000

found_list : IsSend (Found.the_field).row
found_list = search (sendable, crosses) depth 60 fits 40000

view_field : IsSend (View.the_field).row
view_field = let found = found_list in search (sendable, crosses) depth 60 fits 40000

cache_field : IsSend (IndexCache.the_field).row
cache_field = let blob = blob_sent in search (sendable, crosses, maps_cross, nodes.the_send, deed.the_send, key.the_send) depth 60 fits 40000

sight_field : IsSend (Sight.the_field).row
sight_field = let view = view_field in let cache = cache_field in search (sendable, crosses) depth 60 fits 40000

pub job_send : (κ : NamedLft) → IsSend (WorkerJob.the_row κ)
job_send κ = let shelf = shelf_field in let block = block_field in let task = task_field in let worker = worker_field in let sight = sight_field in search (sendable, crosses) depth 60 fits 40000
