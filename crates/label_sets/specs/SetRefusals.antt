-- Why no label set is read at the front of a text, by what stands there.
use Rattle.std.specs.Prelude.{◌≡◌, ◌≢◌, ℕ, ◌<◌, ◌≤◌, suc, List, ◌∷◌, ◌++◌, length, take, codes, IsTrue, IsFalse}
use Rattle.std.specs.List.{flat_map}
use Rattle.label_sets.specs.declared.label.Label.{Label}
use Rattle.label_sets.specs.declared.label_refusal.LabelRefusal.{LabelRefusal}
use Rattle.label_sets.specs.declared.label_refusal.LabelRefusal.TheVariants.{EmptyName, EmptyValue, Repeated, BadText, NoMemory}
use Rattle.label_sets.specs.Labels.{names_of}
use Rattle.label_sets.specs.Notation.{is_name, name_at, repeats, pair_text}
use Rattle.label_sets.specs.SetText.{ArePairs, IsSetText}

-- a pair and a comma
unfoldable pub pair_comma_text : Label → List ℕ
pair_comma_text label = pair_text label ++ codes ","

-- The opening brace, pairs with a comma after each, and then the rest of the text.
pub record HasPairs (text : List ℕ) (listed : List Label) (after : List ℕ) : Type 0 where
  pub begins : text ≡ codes "{" ++ (flat_map pair_comma_text listed ++ after)
  pub lawful : ArePairs listed

-- An equals sign stands where a name is due, and no name has stood twice.
pub record LacksName (text : List ℕ) : Type 0 where
  pub listed : List Label
  pub after : List ℕ
  pub pairs : HasPairs text listed (codes "=" ++ after)
  pub once : IsFalse (repeats (names_of listed))

-- A name stands with an empty value, and no name has stood twice, this one neither.
pub record LacksValue (text : List ℕ) : Type 0 where
  pub listed : List Label
  pub name : List ℕ
  pub after : List ℕ
  pub pairs : HasPairs text listed (name ++ codes "=\"\"" ++ after)
  pub named : IsTrue (is_name name)
  pub once : IsFalse (repeats (name ∷ names_of listed))

-- Some name has stood twice, among those of the pairs and the whole one that stands behind them.
pub record RepeatsName (text : List ℕ) : Type 0 where
  pub listed : List Label
  pub after : List ℕ
  pub pairs : HasPairs text listed after
  pub again : IsTrue (repeats (name_at after ∷ names_of listed))

-- Some text of a label set begins with it.
pub record BeginsASet (front : List ℕ) : Type 0 where
  pub after : List ℕ
  pub set : List Label
  pub is_text : IsSetText (front ++ after) set

-- A label set goes on up to this place and not to the next.
pub record GoesOnTo (text : List ℕ) (place : ℕ) : Type 0 where
  pub within : place ≤ length text
  pub so_far : BeginsASet (take place text)
  pub no_further : place < length text → ¬ BeginsASet (take (suc place) text)

-- It goes on to this place, and none of the other causes is there, nor a whole set at the front.
pub record StopsAt (text : List ℕ) (place : ℕ) : Type 0 where
  pub goes_on : GoesOnTo text place
  pub no_set : (front after : List ℕ) (set : List Label) → IsSetText front set → text ≢ front ++ after
  pub no_lack : ¬ LacksName text
  pub no_empty : ¬ LacksValue text
  pub no_repeat : ¬ RepeatsName text

-- The one cause to refuse a text.
abbrev pub IsRefused : List ℕ → LabelRefusal → Type 0
IsRefused text EmptyName = LacksName text
IsRefused text EmptyValue = LacksValue text
IsRefused text Repeated = RepeatsName text
IsRefused text (BadText place) = StopsAt text place
IsRefused text NoMemory = ⊥
