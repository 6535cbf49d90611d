use Rattle.std.proofs.Common.{ℕ, take}
use Rattle.std.specs.BTreeMap.{get}
use Rattle.std.specs.Ordering.{nat_cmp}
use Rattle.world_core.specs.Worlds.{IsJournal, IsOfBytes}
use Rattle.script_core.specs.Lawful.{IsLawfulScript}
use Rattle.lifecycle_core.specs.Setting.{FromShelf}
use Rattle.breach_finding.specs.Walks.{IsWalked, setting_with}
use Rattle.breach_finding.specs.Watching.{IsWaiting}
use Rattle.breach_finding.proofs.walking.breach.Given as goal

-- each sync that is under way waits for an operation; and of a script's journal none of the entries until now is refused, whatever
-- stands on a shelf
abbrev pub invariant-loop-place : goal.invariant-loop-place
invariant-loop-place l =
    ((seat : ℕ) → IsWaiting (get nat_cmp l.followed.unders seat))
    × ((shelf : ℕ → FromShelf) → IsLawfulScript l.script → IsJournal l.script.rules.tick.ms l.journal → IsOfBytes l.journal
    → IsWalked (setting_with l.script shelf) l.journal (take l.place l.journal) l.followed.standing l.followed.unders l.followed.views)
