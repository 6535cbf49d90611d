-- What reading a field of a record gives at a position, or the refusal with its place.
use Rattle.std.specs.Prelude.{◌≡◌, ◌⊎◌, ℕ, List, Option, Some, None, Result, Ok, Err, MatchResult}
use Rattle.std.specs.Int.{w8, w32, w64, w128}
use Rattle.std.specs.Str.{is_utf8}
use Rattle.base.specs.Reading.{◌>>=◌, ◌>>◌, unless, refused_as}
use Rattle.base.specs.Members.{members_at}
use Rattle.block_keys.specs.KeyText.{key_of}
use Rattle.block_keys.specs.declared.key.Key.{Key}
use Rattle.wire_bytes.specs.Position.{Position}
use Rattle.wire_bytes.specs.Fields.{bytes_at, number_at}
use Rattle.wire_bytes.specs.declared.varint.WireRefusal.{WireRefusal}
use Rattle.journal_records.specs.declared.cause.RecordCause.{RecordCause}
use Rattle.journal_records.specs.declared.cause.RecordCause.TheVariants.{Short, BadText, BadKey}

-- what reading gives: a value and the position behind it, or the first cause
abbrev pub At : Type 0 → Type 0
At A = Result (A × Position) RecordCause

-- A call that moves a reader on gives what the reading function gives, unless memory runs out, and the reader stands behind it.
-- On a refusal the reader may stand anywhere.
abbrev pub MovesOn : {X Y S : Type 0} → RecordCause → (X → Y) → S → Result X RecordCause → Result (Y × S) RecordCause → Type 0
MovesOn no_memory view after result read = MatchResult result (λ x. read ≡ Ok (view x, after)) (λ e. (e ≡ no_memory) ⊎ (read ≡ Err e))

-- a field that ends first is refused where it begins
abbrev pub field : {A : Type 0} → (Position → Result (A × Position) WireRefusal) → Position → At A
field read p = refused_as (λ refusal. Short p.place) (read p)

abbrev pub byte_at : Position → At ℕ
byte_at = field (number_at w8)

abbrev pub small_at : Position → At ℕ
small_at = field (number_at w32)

abbrev pub large_at : Position → At ℕ
large_at = field (number_at w64)

abbrev pub ulid_at : Position → At ℕ
ulid_at = field (number_at w128)

-- bytes behind their length
unfoldable pub blob_at : Position → At (List ℕ)
blob_at p = do
  size ← small_at p
  field (bytes_at size.0) size.1

-- a text is refused behind its length
unfoldable pub text_at : Position → At (List ℕ)
text_at p = do
  size ← small_at p
  text ← field (bytes_at size.0) size.1
  unless (is_utf8 text.0) (BadText size.1.place)
  Ok text

abbrev pub key_or : Option Key → RecordCause → Result Key RecordCause
key_or (Some key) cause = Ok key
key_or None cause = Err cause

unfoldable pub key_at : Position → At Key
key_at p = do
  size ← small_at p
  text ← field (bytes_at size.0) size.1
  unless (is_utf8 text.0) (BadText size.1.place)
  key ← key_or (key_of text.0) (BadKey size.1.place)
  Ok (key, text.1)

-- texts behind their count
unfoldable pub names_at : Position → At (List (List ℕ))
names_at p = do
  count ← small_at p
  members_at text_at count.0 count.1
