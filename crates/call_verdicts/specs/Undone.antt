-- What a call has done that ended before its run began.
use Rattle.std.specs.Prelude.{◌≡◌, List, []}
use Rattle.world_core.specs.declared.entry.Entry.{Entry}
use Rattle.report_lines.specs.lifecycle_core.specs.Setting.{Setting}

-- no operation was done
abbrev pub IsUndone : Setting → List Entry → Type 0
IsUndone setting entries = entries ≡ []
