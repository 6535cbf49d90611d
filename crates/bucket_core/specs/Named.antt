-- The names that notes are of.
use Rattle.std.specs.Prelude.{ℕ, List, [], ◌∷◌, ◌++◌, Option, Some, None}
use Rattle.std.specs.declared.snapshot.Snapshot.{Snapshot}
use Rattle.bucket_core.specs.declared.notes.NameNotes.{NameNotes}
use Rattle.bucket_core.specs.declared.notes.Names.{Names, Names', Held-Names-before, None', Some'}
use Rattle.bucket_core.specs.Spelled.{text_told}

abbrev mutual
  pub names_in : Names → List (List ℕ)
  names_in (Names' last before) = names_behind before ++ text_told last ∷ []

  pub names_behind : Held-Names-before → List (List ℕ)
  names_behind None' = []
  names_behind (Some' p names) = names_in names

abbrev pub names_so_far : Option (Snapshot Names) → List (List ℕ)
names_so_far None = []
names_so_far (Some names) = names_in names.value

abbrev pub names_told : NameNotes → List (List ℕ)
names_told notes = names_so_far notes.names
