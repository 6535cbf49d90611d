-- The bytes of the small block's meta are those of what it says, and are read as that again.
use Rattle.std.proofs.Common.{◌≡◌, Ok, refl}
use Rattle.std.specs.Fmt.{digits}
use Rattle.std.specs.Str.{is_utf8, chars}
use Rattle.block_meta.proofs.FoundTexts.{meta_text_found}
use Rattle.block_meta.proofs.Plain.{meta_is_object}
use Rattle.block_meta.specs.MetaText.{IsMetaText}
use Rattle.serde_json.proofs.OnLiterals.{serde_json_on_literals}
use Rattle.ulid_core.specs.FixedDigits.{fixed_digits}
use Rattle.ulid_core.specs.UlidText.{alphabet, character, digit_of, text_of, number_of, bad_place, ulid_of}
use Rattle.block_meta.specs.MetaFields.{fields_of}
use Rattle.block_meta.specs.Members.{json_of, object_of, member_of, needed_of, of_kind, unsigned_of, signed_of, whole_of, version_of, section_of, count_of, each, list_of}
use Rattle.block_meta.specs.Members as members
use Rattle.block_meta.specs.Lawful.{are_lawful_times}
use Rattle.block_meta.specs.MetaReading.{meta_of_text, meta_of, times_of, stats_of, stats_members_of, compaction_of, compaction_members_of, level_of, sources_of, thanos_of, thanos_members_of, labels_of, labels_from, resolution_of, text_or_empty, file_of, parent_of}
use Rattle.block_meta.specs.MetaValue.{ulid_value, items_value, file_value, label_members, stats_value, compaction_value, thanos_value, meta_value, meta_text}
use Rattle.tests_worked.specs.SmallBlock as small

pub meta_is : meta_text (fields_of small.said) ≡ small.meta
unfolding small.meta meta_text meta_value thanos_value compaction_value stats_value label_members file_value items_value ulid_value text_of character alphabet fixed_digits digits serde_json_on_literals
meta_is = refl

-- ---- what a sync reads

pub a_reads : ulid_of small.a_text ≡ Ok small.a
unfolding ulid_of bad_place digit_of alphabet number_of
a_reads = refl

meta_value_read : json_of small.meta ≡ Ok (meta_value (fields_of small.said))
unfolding small.meta json_of is_utf8 chars meta_value thanos_value compaction_value stats_value label_members file_value items_value ulid_value text_of character alphabet fixed_digits serde_json_on_literals
meta_value_read = refl

meta_fields_read : meta_of (meta_value (fields_of small.said)) ≡ Ok (fields_of small.said)
unfolding meta_value thanos_value compaction_value stats_value label_members file_value items_value ulid_value text_of character alphabet fixed_digits
    meta_of times_of stats_of stats_members_of compaction_of compaction_members_of level_of sources_of thanos_of thanos_members_of labels_of labels_from resolution_of text_or_empty file_of parent_of
    member_of needed_of of_kind unsigned_of signed_of whole_of members.text_of members.ulid_of version_of section_of count_of each list_of are_lawful_times ulid_of bad_place digit_of number_of
meta_fields_read = refl

pub meta_reads : meta_of_text small.meta ≡ Ok (fields_of small.said)
unfolding meta_of_text object_of
meta_reads = rw (meta_value_read, meta_is_object (fields_of small.said)) meta_fields_read

-- so it is the text of a meta
pub is_meta_text : IsMetaText small.meta (fields_of small.said)
is_meta_text = (meta_text_found small.meta).holds (fields_of small.said) meta_reads
