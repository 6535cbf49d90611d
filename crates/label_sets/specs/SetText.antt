-- The texts of a label set, apart from how one is read or written.
use Rattle.std.specs.Prelude.{◌≡◌, ◌≢◌, ℕ, List, [], All, IsTrue, IsPermutation}
use Rattle.label_sets.specs.declared.label.Label.{Label}
use Rattle.label_sets.specs.Labels.{IsLabelSet}
use Rattle.label_sets.specs.Notation.{is_name, set_text}

-- Each name has the form of a name: a letter or `_`, and then letters, digits or `_`.
abbrev pub AreNamed : List Label → Type 0
AreNamed labels = All (λ l. IsTrue (is_name l.name)) labels

-- Each label can stand as a pair: its name has the form of a name, and its value is not empty.
abbrev pub ArePairs : List Label → Type 0
ArePairs labels = All (λ l. IsTrue (is_name l.name) × (l.value ≢ [])) labels

-- A text of a label set: its labels in braces with commas between, in any order. Each has a name and its value in quotes.
pub record IsSetText (text : List ℕ) (set : List Label) : Type 0 where
  pub listed : List Label
  pub written : text ≡ set_text listed
  pub named : AreNamed listed
  pub arranged : IsPermutation listed set
  pub lawful : IsLabelSet set
