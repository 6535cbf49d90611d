-- Members of a JSON object, each of the kind that its field has. A refusal names the field.
use Rattle.std.specs.Prelude.{ℕ, ℤ, ◌==◌, List, [], ◌∷◌, Option, Some, None, is_some, option_and_then, Result, Ok, Err, if◌then◌else◌}
use Rattle.std.specs.Option.{ok_or}
use Rattle.std.specs.Str.{is_utf8}
use Rattle.base.specs.Reading.{◌>>=◌, ◌>>◌, unless, refused_as}
use Rattle.ulid_core.specs.UlidText as ulid
use Rattle.serde_json.specs.Data.{Data, Items, no_items, item}
use Rattle.serde_json.specs.Read.{read}
use Rattle.serde_json.specs.Find.{get, as_null, as_number, as_str, as_array, as_object, as_u64, as_i64, as_integer}
use Rattle.block_meta.specs.declared.refusal.MetaRefusal.{MetaRefusal}
use Rattle.block_meta.specs.declared.refusal.MetaRefusal.TheVariants.{NotJson, MissingField, WrongKind, BadVersion, BadUlid}

-- what is read, or the first refusal
abbrev pub Read : Type 0 → Type 0
Read A = Result A MetaRefusal

-- the value of a text that is JSON
unfoldable pub json_of : List ℕ → Read Data
json_of text = if is_utf8 text then ok_or (read text) NotJson else Err NotJson

-- the value of a text that is one JSON object
unfoldable pub object_of : List ℕ → Read Data
object_of text = do
  value ← json_of text
  unless (is_some (as_object value)) NotJson
  Ok value

-- the member of that name, where it is there and not null
unfoldable pub member_of : List ℕ → Data → Option Data
member_of name within = option_and_then (λ value. if is_some (as_null value) then None else Some value) (get name within)

-- the member of that name, which has to be there
unfoldable pub needed_of : List ℕ → Data → Read Data
needed_of name within = ok_or (member_of name within) (MissingField name)

-- a value that is there only where it is of the field's kind
unfoldable pub of_kind : {A : Type 0} → List ℕ → Option A → Read A
of_kind name value = ok_or value (WrongKind name)

-- a number from 0 on that fits 64 bits
unfoldable pub unsigned_of : List ℕ → Data → Read ℕ
unsigned_of name value = of_kind name (option_and_then as_u64 (as_number value))

-- a number that fits 64 bits with a sign
unfoldable pub signed_of : List ℕ → Data → Read ℤ
signed_of name value = of_kind name (option_and_then as_i64 (as_number value))

-- a number of 64 bits, with or without a sign
unfoldable pub whole_of : List ℕ → Data → Read ℤ
whole_of name value = of_kind name (option_and_then as_integer (as_number value))

unfoldable pub text_of : List ℕ → Data → Read (List ℕ)
text_of name value = of_kind name (as_str value)

-- the text of a ULID
unfoldable pub ulid_of : List ℕ → Data → Read ℕ
ulid_of name value = do
  text ← text_of name value
  refused_as (λ _. BadUlid name) (ulid.ulid_of text)

-- a version is the number 1
abbrev pub version_from : Option ℕ → Read (Unit {0})
version_from None = Err BadVersion
version_from (Some number) = unless (number == 1) BadVersion

unfoldable pub version_of : Data → Read (Unit {0})
version_of value = version_from (option_and_then as_u64 (as_number value))

-- the member that is an object, if it is there
abbrev pub section_from : List ℕ → Option Data → Read (Option Data)
section_from name None = Ok None
section_from name (Some value) = if is_some (as_object value) then Ok (Some value) else Err (WrongKind name)

unfoldable pub section_of : List ℕ → Data → Read (Option Data)
section_of name within = section_from name (member_of name within)

-- what read makes of a member, or a default where it is absent
abbrev pub or_absent : {A : Type 0} → A → (Data → Read A) → Option Data → Read A
or_absent default read None = Ok default
or_absent default read (Some value) = read value

-- a number that counts, 0 where it is absent
unfoldable pub count_of : List ℕ → Data → Read ℕ
count_of name within = or_absent 0 (unsigned_of name) (member_of name within)

-- the items of a list, each read by the same function
unfoldable pub each : {A : Type 0} → (Data → Read A) → Items → Read (List A)
each read no_items = Ok []
each read (item value values) = do
  first ← read value
  others ← each read values
  Ok (first ∷ others)

-- the list of that name, empty where it is absent
unfoldable pub list_of : {A : Type 0} → (List ℕ → Data → Read A) → List ℕ → Data → Read (List A)
list_of read name within = or_absent [] (λ value. of_kind name (as_array value) >>= each (read name)) (member_of name within)
