-- The text that a spelling is of.
use Rattle.std.specs.Prelude.{ℕ, List, [], ◌∷◌, ◌++◌, Option, Some, None}
use Rattle.std.specs.declared.snapshot.Snapshot.{Snapshot}
use Rattle.bucket_core.specs.declared.notes.TextNotes.{TextNotes}
use Rattle.bucket_core.specs.declared.notes.Spelling.{Spelling, Spelling', Held-Spelling-before, None', Some'}

abbrev mutual
  pub text_in : Spelling → List ℕ
  text_in (Spelling' last before) = text_behind before ++ last ∷ []

  pub text_behind : Held-Spelling-before → List ℕ
  text_behind None' = []
  text_behind (Some' p spelling) = text_in spelling

abbrev pub text_told : Option (Snapshot Spelling) → List ℕ
text_told None = []
text_told (Some spelling) = text_in spelling.value

-- the text that notes are of
abbrev pub text_noted : TextNotes → List ℕ
text_noted notes = text_told notes.text
