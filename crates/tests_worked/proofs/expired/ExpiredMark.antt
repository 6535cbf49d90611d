-- The mark of the block that expired is read as what it says, and says what a compaction writes.
use Rattle.std.proofs.Common.{◌≡◌, Ok, Some, refl, codes}
use Rattle.std.specs.Fmt.{digits}
use Rattle.std.specs.Str.{is_utf8, chars}
use Rattle.compactor.specs.NewMarks.{new_mark_text}
use Rattle.block_meta.proofs.FoundTexts.{mark_text_found}
use Rattle.block_meta.proofs.Plain.{mark_is_object}
use Rattle.block_meta.specs.Members.{json_of, object_of, member_of, needed_of, of_kind, unsigned_of, version_of}
use Rattle.block_meta.specs.Members as members
use Rattle.block_meta.specs.MetaReading.{deletion_time_of, mark_of, mark_of_text, text_or_empty}
use Rattle.block_meta.specs.MetaText.{IsMarkText}
use Rattle.block_meta.specs.MetaValue.{mark_text, mark_value, ulid_value}
use Rattle.block_meta.specs.OfBlocks.{block_mark}
use Rattle.serde_json.proofs.OnLiterals.{serde_json_on_literals}
use Rattle.ulid_core.specs.FixedDigits.{fixed_digits}
use Rattle.ulid_core.specs.UlidText.{alphabet, bad_place, character, digit_of, number_of, text_of, ulid_of}
use Rattle.tests_worked.specs.ExpiredBlock as row
use Rattle.tests_worked.specs.SmallBlock as small

pub mark_is : new_mark_text small.a (record { ms = 1_860_004 }) (codes "expired") ≡ row.mark
unfolding row.mark mark_text mark_value ulid_value text_of character alphabet fixed_digits digits serde_json_on_literals
mark_is = refl

mark_value_read : json_of row.mark ≡ Ok (mark_value row.marked)
unfolding row.mark json_of is_utf8 chars mark_value ulid_value text_of character alphabet fixed_digits serde_json_on_literals
mark_value_read = refl

mark_fields_read : mark_of (mark_value row.marked) ≡ Ok row.marked
unfolding mark_value ulid_value text_of character alphabet fixed_digits
    mark_of deletion_time_of text_or_empty member_of needed_of of_kind unsigned_of members.text_of members.ulid_of version_of ulid_of bad_place digit_of number_of
mark_fields_read = refl

pub mark_reads : mark_of_text row.mark ≡ Ok row.marked
unfolding mark_of_text object_of
mark_reads = rw (mark_value_read, mark_is_object row.marked) mark_fields_read

pub block_mark_reads : block_mark small.a row.mark ≡ Some row.marked
block_mark_reads = rw mark_reads refl

pub is_mark_text : IsMarkText row.mark row.marked
is_mark_text = (mark_text_found row.mark).holds row.marked mark_reads
