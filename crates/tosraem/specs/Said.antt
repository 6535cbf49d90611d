-- What standard error is told of a call: what to do, by its status, and then a line on each of the two folders and on standard
-- output, where there was trouble.
use Rattle.std.specs.Prelude.{ℕ, List, ◌++◌}
use Rattle.replay_cli.specs.call_verdicts.specs.declared.status.Status.{Status}
use Rattle.tosraem.specs.Advice.{advice_of}
use Rattle.tosraem.specs.Troubles.{bucket_words, report_words, shelf_words}
use Rattle.tosraem.specs.declared.troubles.Troubles.{Troubles}

abbrev pub said_of : Status → Troubles → List ℕ
said_of status troubles =
    advice_of status ++ bucket_words troubles.bucket ++ shelf_words troubles.shelf ++ report_words troubles.report
