-- The texts of the metas and of the marks of the two blocks and of the new one, and what they say.
use Rattle.std.proofs.Common.{◌≡◌, Ok, Some, refl, codes}
use Rattle.std.specs.Fmt.{digits}
use Rattle.std.specs.Str.{is_utf8, chars}
use Rattle.compactor.specs.NewMarks.{new_mark_text}
use Rattle.block_meta.proofs.FoundTexts.{mark_text_found, meta_text_found}
use Rattle.block_meta.proofs.Plain.{mark_is_object, meta_is_object}
use Rattle.block_meta.specs.Lawful.{are_lawful_times}
use Rattle.block_meta.specs.Members.{json_of, object_of, member_of, needed_of, of_kind, unsigned_of, signed_of, whole_of, version_of, section_of, count_of, each, list_of}
use Rattle.block_meta.specs.Members as members
use Rattle.block_meta.specs.MetaFields.{fields_of}
use Rattle.block_meta.specs.MetaReading.{meta_of_text, meta_of, times_of, stats_of, stats_members_of, compaction_of, compaction_members_of, level_of, sources_of, thanos_of, thanos_members_of, labels_of, labels_from, resolution_of, text_or_empty, file_of, parent_of}
use Rattle.block_meta.specs.MetaReading.{deletion_time_of, mark_of, mark_of_text}
use Rattle.block_meta.specs.MetaText.{IsMarkText, IsMetaText}
use Rattle.block_meta.specs.MetaValue.{ulid_value, items_value, file_value, label_members, stats_value, compaction_value, thanos_value, meta_value, meta_text, parent_value, mark_text, mark_value}
use Rattle.block_meta.specs.OfBlocks.{block_mark, block_meta}
use Rattle.serde_json.proofs.OnLiterals.{serde_json_on_literals}
use Rattle.ulid_core.specs.FixedDigits.{fixed_digits}
use Rattle.ulid_core.specs.UlidText.{alphabet, character, digit_of, text_of, number_of, bad_place, ulid_of}
use Rattle.tests_worked.specs.CompactedPair as row
use Rattle.tests_worked.specs.SmallBlock as small

pub b_reads : ulid_of row.b_text ≡ Ok row.b
unfolding ulid_of bad_place digit_of alphabet number_of
b_reads = refl

pub n_reads : ulid_of row.n_text ≡ Ok row.n
unfolding ulid_of bad_place digit_of alphabet number_of
n_reads = refl

-- ---- the meta of b

pub b_meta_is : meta_text (fields_of (small.said_of row.b)) ≡ row.b_meta
unfolding row.b_meta meta_text meta_value thanos_value compaction_value stats_value label_members file_value items_value ulid_value text_of character alphabet fixed_digits digits serde_json_on_literals
b_meta_is = refl

b_value_read : json_of row.b_meta ≡ Ok (meta_value (fields_of (small.said_of row.b)))
unfolding row.b_meta json_of is_utf8 chars meta_value thanos_value compaction_value stats_value label_members file_value items_value ulid_value text_of character alphabet fixed_digits serde_json_on_literals
b_value_read = refl

b_fields_read : meta_of (meta_value (fields_of (small.said_of row.b))) ≡ Ok (fields_of (small.said_of row.b))
unfolding meta_value thanos_value compaction_value stats_value label_members file_value items_value ulid_value text_of character alphabet fixed_digits
    meta_of times_of stats_of stats_members_of compaction_of compaction_members_of level_of sources_of thanos_of thanos_members_of labels_of labels_from resolution_of text_or_empty file_of parent_of
    member_of needed_of of_kind unsigned_of signed_of whole_of members.text_of members.ulid_of version_of section_of count_of each list_of are_lawful_times ulid_of bad_place digit_of number_of
b_fields_read = refl

pub b_meta_reads : meta_of_text row.b_meta ≡ Ok (fields_of (small.said_of row.b))
unfolding meta_of_text object_of
b_meta_reads = rw (b_value_read, meta_is_object (fields_of (small.said_of row.b))) b_fields_read

pub b_is_meta : IsMetaText row.b_meta (fields_of (small.said_of row.b))
b_is_meta = (meta_text_found row.b_meta).holds (fields_of (small.said_of row.b)) b_meta_reads

pub b_block_meta : block_meta row.b row.b_meta ≡ Some (fields_of (small.said_of row.b))
b_block_meta = rw b_meta_reads refl

-- ---- the meta of n

pub n_meta_is : meta_text (fields_of row.said) ≡ row.n_meta
unfolding row.n_meta parent_value meta_text meta_value thanos_value compaction_value stats_value label_members file_value items_value ulid_value text_of character alphabet fixed_digits digits serde_json_on_literals
n_meta_is = refl

n_value_read : json_of row.n_meta ≡ Ok (meta_value (fields_of row.said))
unfolding row.n_meta parent_value json_of is_utf8 chars meta_value thanos_value compaction_value stats_value label_members file_value items_value ulid_value text_of character alphabet fixed_digits serde_json_on_literals
n_value_read = refl

n_fields_read : meta_of (meta_value (fields_of row.said)) ≡ Ok (fields_of row.said)
unfolding parent_value meta_value thanos_value compaction_value stats_value label_members file_value items_value ulid_value text_of character alphabet fixed_digits
    meta_of times_of stats_of stats_members_of compaction_of compaction_members_of level_of sources_of thanos_of thanos_members_of labels_of labels_from resolution_of text_or_empty file_of parent_of
    member_of needed_of of_kind unsigned_of signed_of whole_of members.text_of members.ulid_of version_of section_of count_of each list_of are_lawful_times ulid_of bad_place digit_of number_of
n_fields_read = refl

pub n_meta_reads : meta_of_text row.n_meta ≡ Ok (fields_of row.said)
unfolding meta_of_text object_of
n_meta_reads = rw (n_value_read, meta_is_object (fields_of row.said)) n_fields_read

pub n_is_meta : IsMetaText row.n_meta (fields_of row.said)
n_is_meta = (meta_text_found row.n_meta).holds (fields_of row.said) n_meta_reads

pub n_block_meta : block_meta row.n row.n_meta ≡ Some (fields_of row.said)
n_block_meta = rw n_meta_reads refl

-- ---- the mark of a

pub a_mark_is : new_mark_text small.a (record { ms = 1_800_014 }) (codes "compacted") ≡ row.a_mark
unfolding row.a_mark mark_text mark_value ulid_value text_of character alphabet fixed_digits digits serde_json_on_literals
a_mark_is = refl

a_mark_value : json_of row.a_mark ≡ Ok (mark_value (row.marked small.a))
unfolding row.a_mark json_of is_utf8 chars mark_value ulid_value text_of character alphabet fixed_digits serde_json_on_literals
a_mark_value = refl

a_mark_fields : mark_of (mark_value (row.marked small.a)) ≡ Ok (row.marked small.a)
unfolding mark_value ulid_value text_of character alphabet fixed_digits
    mark_of deletion_time_of text_or_empty member_of needed_of of_kind unsigned_of members.text_of members.ulid_of version_of ulid_of bad_place digit_of number_of
a_mark_fields = refl

a_mark_reads : mark_of_text row.a_mark ≡ Ok (row.marked small.a)
unfolding mark_of_text object_of
a_mark_reads = rw (a_mark_value, mark_is_object (row.marked small.a)) a_mark_fields

pub a_is_mark : IsMarkText row.a_mark (row.marked small.a)
a_is_mark = (mark_text_found row.a_mark).holds (row.marked small.a) a_mark_reads

pub a_block_mark : block_mark small.a row.a_mark ≡ Some (row.marked small.a)
a_block_mark = rw a_mark_reads refl

-- ---- the mark of b

pub b_mark_is : new_mark_text row.b (record { ms = 1_800_016 }) (codes "compacted") ≡ row.b_mark
unfolding row.b_mark mark_text mark_value ulid_value text_of character alphabet fixed_digits digits serde_json_on_literals
b_mark_is = refl

b_mark_value : json_of row.b_mark ≡ Ok (mark_value (row.marked row.b))
unfolding row.b_mark json_of is_utf8 chars mark_value ulid_value text_of character alphabet fixed_digits serde_json_on_literals
b_mark_value = refl

b_mark_fields : mark_of (mark_value (row.marked row.b)) ≡ Ok (row.marked row.b)
unfolding mark_value ulid_value text_of character alphabet fixed_digits
    mark_of deletion_time_of text_or_empty member_of needed_of of_kind unsigned_of members.text_of members.ulid_of version_of ulid_of bad_place digit_of number_of
b_mark_fields = refl

b_mark_reads : mark_of_text row.b_mark ≡ Ok (row.marked row.b)
unfolding mark_of_text object_of
b_mark_reads = rw (b_mark_value, mark_is_object (row.marked row.b)) b_mark_fields

pub b_is_mark : IsMarkText row.b_mark (row.marked row.b)
b_is_mark = (mark_text_found row.b_mark).holds (row.marked row.b) b_mark_reads

pub b_block_mark : block_mark row.b row.b_mark ≡ Some (row.marked row.b)
b_block_mark = rw b_mark_reads refl
