-- To which ends a task with a stop comes. An upload: that of its operations, that its block is not shipped, or the stop of its line.
use Rattle.std.proofs.Common.{◌≡◌, ℕ, List, Option, Some, None, inl, inr, sym, subst}
use Rattle.std.specs.Prelude.{option_map}
use Rattle.block_keys.specs.declared.object.Object.{Object}
use Rattle.world_core.specs.Plans.{Plan, Runs}
use Rattle.world_core.specs.declared.entry.Entry.{Entry}
use Rattle.shipper.specs.Uploads.{upload}
use Rattle.shipper.specs.declared.upload.UploadEnd.{UploadEnd}
use Rattle.script_core.specs.declared.block.Block.{Block}
use Rattle.lifecycle_core.specs.Setting.{Setting}
use Rattle.lifecycle_core.specs.Tasks.{End, ShipTask, StoppedRun, refused, stopped, uploaded}

module _ (P : End → Type 0) (setting : Setting) (block : Block) (stop : Option ℕ) (entries : List Entry) (end : End)
    (by_upload : (objects : List Object) (own : UploadEnd) → Runs (upload block.ulid objects) entries (Some own) → P (uploaded own)) (by_refusal : (cause : ℕ) → P (refused cause)) (by_stop : (n : ℕ) → P (stopped n)) where
  some_is : (other : End) → Some end ≡ Some other → P other → P end
  some_is other is own = let same : end ≡ other = cc (is) in subst P (sym same) own

  own_end : (objects : List Object) (own : Option UploadEnd) → Runs (upload block.ulid objects) entries own → Some end ≡ option_map uploaded own → P end
  own_end objects None run is = absurd (cc (is))
  own_end objects (Some own) run is = some_is (uploaded own) is (by_upload objects own run)

  pub ship_end : ShipTask setting block stop entries (Some end) → P end
  ship_end (inl (objects, own, shipped, run, inl (is, early))) = own_end objects own run is
  ship_end (inl (objects, own, shipped, run, inr (n, reached, is))) = some_is (stopped n) is (by_stop n)
  ship_end (inr (inl (cause, none, (nil, inl off)))) = absurd (cc (off))
  ship_end (inr (inl (cause, none, (nil, inr is)))) = some_is (refused cause) is (by_refusal cause)
  ship_end (inr (inr (nil, off))) = absurd (cc (off))

-- a compaction or a cleaning: that of its operations, or the stop of its line
module _ {E : Type 0} (P : End → Type 0) (plan : Plan E) (gives : E → End) (stop : Option ℕ) (entries : List Entry) (end : End)
    (by_run : (own : E) → Runs plan entries (Some own) → P (gives own)) (by_stop : (n : ℕ) → P (stopped n)) where
  run_end : (own : Option E) → Runs plan entries own → Some end ≡ option_map gives own → P end
  run_end None run is = absurd (cc (is))
  run_end (Some own) run is = let same : end ≡ gives own = cc (is) in subst P (sym same) (by_run own run)

  pub stopped_end : StoppedRun plan gives stop entries (Some end) → P end
  stopped_end (own, run, inl (is, early)) = run_end own run is
  stopped_end (own, run, inr (n, reached, is)) = let same : end ≡ stopped n = cc (is) in subst P (sym same) (by_stop n)
