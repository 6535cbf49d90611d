use Rattle.std.proofs.Common.{◌≡◌, ◌++◌, ◌-◌, ◌≤◌, length, drop}
use denote.Text.{Utf8}
use denote.Shadow.{shadow}
use Rattle.bucket_core.specs.Stored.{names_of, picked}
use Rattle.bucket_core.proofs.listing.pick_names.Given as goal

-- what was picked and what is still to pick are all
abbrev pub invariant-loop-object : goal.invariant-loop-object
invariant-loop-object l = record {
  text : shadow (Utf8 l.last);
  room : length l.names ≤ l.limit;
  whole : l.names ++ picked l.last (l.limit - length l.names) (names_of l.within (drop l.object-index l.objects)) ≡ picked l.after l.limit (names_of l.within l.objects);
}
