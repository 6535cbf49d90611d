-- Sections and texts of an index, apart from reading and writing.
use Rattle.std.specs.Prelude.{◌≡◌, ℕ, List, ◌++◌, length, drop}
use Rattle.std.specs.Int.{w32, to_be_bytes}
use Rattle.std.specs.Str.{IsUtf8}
use Rattle.wire_bytes.specs.FieldTexts.{IsFixed, IsUvarint}
use Rattle.wire_bytes.specs.Written.{uvarint_text}
use Rattle.wire_bytes.specs.Crc.{crc}

-- At a place of the index stands content in a frame: how many bytes the content has, the content, and its sum.
pub record IsFramed (IsSize : List ℕ → ℕ → Type 0) (index : List ℕ) (at : ℕ) (content : List ℕ) : Type 0 where
  pub size : List ℕ
  pub sum : List ℕ
  pub after : List ℕ
  pub size_is : IsSize size (length content)
  pub sum_is : IsFixed w32 sum (crc content)
  pub stands : drop at index ≡ size ++ content ++ sum ++ after

-- a section, whose length has four bytes
abbrev pub IsSection : List ℕ → ℕ → List ℕ → Type 0
IsSection = IsFramed (IsFixed w32)

-- an entry, whose length is in base 128, as each series stands
abbrev pub IsEntry : List ℕ → ℕ → List ℕ → Type 0
IsEntry = IsFramed IsUvarint

-- a text in UTF-8 behind its length
pub record IsText (bytes text : List ℕ) : Type 0 where
  pub size : List ℕ
  pub size_is : IsUvarint size (length text)
  pub utf8 : IsUtf8 text
  pub bytes_are : bytes ≡ size ++ text

-- ---- what a writer puts

unfoldable pub section_text : List ℕ → List ℕ
section_text content = to_be_bytes w32 (length content) ++ content ++ to_be_bytes w32 (crc content)

unfoldable pub entry_text : List ℕ → List ℕ
entry_text content = uvarint_text (length content) ++ content ++ to_be_bytes w32 (crc content)

abbrev pub text_field : List ℕ → List ℕ
text_field text = uvarint_text (length text) ++ text
