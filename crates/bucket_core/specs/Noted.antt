-- The calls that notes are of.
use Rattle.std.specs.Prelude.{List, [], ◌∷◌, ◌++◌, Option, Some, None}
use Rattle.std.specs.declared.snapshot.Snapshot.{Snapshot}
use Rattle.bucket_core.specs.Asking.{Call, puts, gets, gets_range, deletes, lists}
use Rattle.bucket_core.specs.declared.notes.Asked.{Asked}
use Rattle.bucket_core.specs.declared.notes.Asked.TheVariants.{Put, Get, GetRange, Delete, Page}
use Rattle.bucket_core.specs.declared.notes.CallNotes.{CallNotes}
use Rattle.bucket_core.specs.declared.notes.Calls.{Calls, Calls', Held-Calls-before, None', Some'}
use Rattle.bucket_core.specs.Spelled.{text_told}

abbrev pub call_of : Asked → Call
call_of (Put key bytes) = puts (text_told key) (text_told bytes)
call_of (Get key) = gets (text_told key)
call_of (GetRange key from len) = gets_range (text_told key) from len
call_of (Delete key) = deletes (text_told key)
call_of (Page within after limit) = lists (text_told within) (text_told after) limit

abbrev mutual
  pub calls_in : Calls → List Call
  calls_in (Calls' last before) = calls_behind before ++ call_of last ∷ []

  pub calls_behind : Held-Calls-before → List Call
  calls_behind None' = []
  calls_behind (Some' p calls) = calls_in calls

abbrev pub calls_so_far : Option (Snapshot Calls) → List Call
calls_so_far None = []
calls_so_far (Some calls) = calls_in calls.value

abbrev pub calls_told : CallNotes → List Call
calls_told notes = calls_so_far notes.calls
