use Rattle.std.proofs.Common.{◌≡◌, ◌++◌, take, true}
use Rattle.cleaner.specs.Objects.{data_keys, have_lawful_keys}
use Rattle.cleaner.proofs.objects.add_data_keys.Given as goal

abbrev pub invariant-loop-name : goal.invariant-loop-name
invariant-loop-name l =
    (l.keys.items ≡ l.initial.keys.items ++ data_keys l.ulid (take l.name-index l.names)) × (have_lawful_keys l.keys.items ≡ true)
