-- The table of contents (TOC), which is the last bytes of an index.
use Rattle.std.specs.Prelude.{◌≡◌, ℕ, List, [], ◌∷◌, ◌++◌}
use Rattle.std.specs.Int.{w32, w64, to_be_bytes}
use Rattle.std.specs.List.{flat_map}
use Rattle.base.specs.Grammar.{AreTexts}
use Rattle.wire_bytes.specs.FieldTexts.{IsFixed}
use Rattle.wire_bytes.specs.Crc.{crc}
use Rattle.index_parts.specs.declared.toc_reading.Toc.{Toc}

-- its references in the order in which they stand
abbrev pub references_of : Toc → List ℕ
references_of toc = toc.symbols ∷ toc.series ∷ toc.label_indices ∷ toc.label_offsets ∷ toc.postings ∷ toc.postings_table ∷ []

-- how many bytes the references take
abbrev pub references_size : ℕ
references_size = 48

-- how many bytes they and their sum take
abbrev pub contents_size : ℕ
contents_size = 52

-- The index ends with the references, each in eight bytes, and their sum.
pub record IsToc (index : List ℕ) (toc : Toc) : Type 0 where
  pub before : List ℕ
  pub references : List ℕ
  pub sum : List ℕ
  pub references_are : AreTexts (IsFixed w64) references (references_of toc)
  pub sum_is : IsFixed w32 sum (crc references)
  pub stands : index ≡ before ++ references ++ sum

unfoldable pub references_text : Toc → List ℕ
references_text toc = flat_map (to_be_bytes w64) (references_of toc)

-- what a writer puts
unfoldable pub toc_text : Toc → List ℕ
toc_text toc = references_text toc ++ to_be_bytes w32 (crc (references_text toc))
