use Rattle.std.proofs.Common.{ℕ, ◌-◌, List, [], ◌++◌}
use Rattle.bucket_core.specs.Contents.{Contents}
use Rattle.bucket_core.specs.Pages.{IsPage}
use Rattle.breach_finding.specs.Held.{Holds}
use Rattle.world_core.specs.declared.entry.Entry.{Entry}
use Rattle.breach_finding.proofs.standing.Standing.page_of_blocks.Given as goal

-- whatever completes the rest of the page completes the whole
abbrev pub invariant-loop : goal.invariant-loop
invariant-loop l =
    (entries : List Entry) (contents : Contents) → Holds entries l.self.places contents
    → (others : List (List ℕ)) → IsPage contents [] l.last (l.limit - l.counter) others → IsPage contents [] l.after l.limit (l.names ++ others)
