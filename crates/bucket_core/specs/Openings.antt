-- What a site hands out: it has not failed yet and was asked for nothing, and it holds what was told of it.
use Rattle.std.specs.Prelude.{◌≡◌, [], Option, Some, IfSome}
use Rattle.bucket_core.specs.Contents.{Contents}
use Rattle.bucket_core.specs.Told.{BucketTold, ShelfTold}

pub record IsBucketAsTold (next : Option Contents) (store : BucketTold) : Type 0 where
  pub fresh : store.faults ≡ 0
  pub unasked : IfSome store.asked (λ calls. calls ≡ [])
  pub holds : IfSome next (λ c. store.contents ≡ Some c)

pub record IsShelfAsTold (next : Option Contents) (shelf : ShelfTold) : Type 0 where
  pub fresh : shelf.faults ≡ 0
  pub unasked : IfSome shelf.asked (λ names. names ≡ [])
  pub holds : IfSome next (λ c. shelf.files ≡ Some c)
