use Rattle.world_core.proofs.LastLanded.{put_stands, deleted_stands, unchanged_along}
use Rattle.bucket_core.specs.Contents.{nothing}
use Rattle.world_core.proofs.laws.last_landed_stands.Goals as goal

pub returns : goal.returns
returns c = record {
  put = put_stands;
  deleted = deleted_stands;
  never_put = λ entries text all. unchanged_along entries text nothing all;
}
