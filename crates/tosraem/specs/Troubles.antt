-- What standard error is told of a folder, or of standard output, with which there was trouble.
use Rattle.std.specs.Prelude.{ℕ, List, [], Option, Some, None, codes}
use Rattle.std.specs.declared.io.ErrorKind.{ErrorKind}
use Rattle.std.specs.declared.io.ErrorKind.TheVariants as kinds
use Rattle.dir_bucket.specs.declared.trouble.Trouble.{Trouble}
use Rattle.dir_bucket.specs.declared.trouble.Trouble.TheVariants.{InUse, Absent, NoFolder, Forbidden, Full, NoMemory, Other}
use Rattle.tosraem.specs.Advice.{line}
use Rattle.tosraem.specs.declared.report_sink.ReportTrouble.{ReportTrouble}
use Rattle.tosraem.specs.declared.report_sink.ReportTrouble.TheVariants as reports

abbrev pub bucket_words : Option Trouble → List ℕ
bucket_words None = []
bucket_words (Some InUse) = line (codes "BUCKET: another run uses this folder. Wait until it ends, or name another folder.")
bucket_words (Some Absent) = line (codes "BUCKET: there is no such folder and it can't be made, or a file of it is gone.")
bucket_words (Some NoFolder) = line (codes "BUCKET: the name, or a part of it, is not that of a folder.")
bucket_words (Some Forbidden) = line (codes "BUCKET: the right to list, to read or to write there is lacking, or its disk may only be read.")
bucket_words (Some Full) = line (codes "BUCKET: there is no room left on its disk.")
bucket_words (Some NoMemory) = line (codes "BUCKET: the system refused a call there.")
bucket_words (Some Other) = line (codes "BUCKET: the system refused a call there. A file may stand under its name.")

abbrev pub shelf_words : Option Trouble → List ℕ
shelf_words None = []
shelf_words (Some InUse) = line (codes "SHELF: the system refused a call there.")
shelf_words (Some Absent) = line (codes "SHELF: there is no such folder.")
shelf_words (Some NoFolder) = line (codes "SHELF: the name, or a part of it, is not that of a folder.")
shelf_words (Some Forbidden) = line (codes "SHELF: the right to list the folder or to read a file of it is lacking.")
shelf_words (Some Full) = line (codes "SHELF: the system refused a call there.")
shelf_words (Some NoMemory) = line (codes "SHELF: the system refused a call there.")
shelf_words (Some Other) = line (codes "SHELF: the system refused a call there.")

abbrev pub report_words : Option ReportTrouble → List ℕ
report_words None = []
report_words (Some reports.ReaderGone) = line (codes "Standard output: its reader went away before it had all.")
report_words (Some reports.Full) = line (codes "Standard output: there is no room left for it.")
report_words (Some reports.Other) = []

-- what a failed write tells of standard output
unfoldable pub report_trouble_of : ErrorKind → ReportTrouble
report_trouble_of kinds.BrokenPipe = reports.ReaderGone
report_trouble_of kinds.StorageFull = reports.Full
report_trouble_of kinds.QuotaExceeded = reports.Full
report_trouble_of _ = reports.Other
