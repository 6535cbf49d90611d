-- How the entries of a call end.
use Rattle.std.specs.Prelude.{◌≡◌, ℕ, List, [], ◌∷◌, ◌++◌}
use Rattle.world_core.specs.declared.reply.Reply.{Reply}
use Rattle.world_core.specs.declared.entry.Entry.{Entry}

-- The last of the entries has this number, and such a reply.
pub record EndsWith (entries : List Entry) (number : ℕ) (Such : Reply → Type 0) : Type 0 where
  pub front : List Entry
  pub last : Entry
  pub parts : entries ≡ front ++ last ∷ []
  pub is : last.seq ≡ number
  pub replied : Such last.reply
