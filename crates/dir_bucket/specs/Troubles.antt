-- Why the system refused something of a folder, and what is kept of that.
use Rattle.std.specs.Prelude.{◌≡◌, Bool, true, false, Option, IsSome}
use Rattle.std.specs.declared.io.ErrorKind.{ErrorKind}
use Rattle.std.specs.declared.io.ErrorKind.TheVariants as kinds
use Rattle.dir_bucket.specs.declared.trouble.Trouble.{Trouble}
use Rattle.dir_bucket.specs.declared.trouble.Trouble.TheVariants as troubles

-- what an error of this kind says of a folder
unfoldable pub trouble_of : ErrorKind → Trouble
trouble_of kinds.WouldBlock = troubles.InUse
trouble_of kinds.NotFound = troubles.Absent
trouble_of kinds.NotADirectory = troubles.NoFolder
trouble_of kinds.InvalidFilename = troubles.NoFolder
trouble_of kinds.PermissionDenied = troubles.Forbidden
trouble_of kinds.ReadOnlyFilesystem = troubles.Forbidden
trouble_of kinds.StorageFull = troubles.Full
trouble_of kinds.QuotaExceeded = troubles.Full
trouble_of kinds.OutOfMemory = troubles.NoMemory
trouble_of _ = troubles.Other

-- Of the failures so far the first one's trouble is kept, and there is one where a call has failed.
pub record KeepsTrouble (old new : Option Trouble) (failed : Bool) : Type 0 where
  pub first : IsSome old → new ≡ old
  pub cause : failed ≡ true → IsSome new
  pub only : failed ≡ false → new ≡ old
