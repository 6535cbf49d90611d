-- The scripts are what their texts spell.
use Rattle.std.proofs.Common.{◌≡◌, Ok, refl}
use Rattle.std.specs.Str.{is_utf8, chars}
use lib.Utf8.{encode}
use Rattle.base.specs.Decimal.{is_decimal, is_signed_decimal, unsigned_of, signed_of}
use Rattle.ulid_core.specs.UlidText.{alphabet, digit_of, number_of, bad_place, ulid_of}
use Rattle.label_sets.specs.Notation.{is_name, rest_past, name_length, name_at, with_byte, value_at, pair_at, with_label, stopped_at, at_end, end_at, at_comma, after_pair, on_pair, pairs_at, after_brace, at_brace, walk_at, repeats, placed_at, conclusion, read_set}
use Rattle.label_sets.specs.Finals.{is_among}
use Rattle.label_sets.specs.Ordered.{placed, in_order}
use Rattle.label_sets.specs.SampleText.{is_hex_sign, hex_number, pattern_of, sample_with, sample_of}
use Rattle.matchers.specs.Selectors.{metric_matcher}
use Rattle.matchers.specs.Stages.{after_start, after_metric, after_comma, step, ended_draft, read_from}
use Rattle.moment_core.specs.MomentText.{moment_of}
use Rattle.script_fields.specs.Fields.{next_field, only_field, after_space}
use Rattle.script_fields.specs.Samples.{has_small_number, samples_from}
use Rattle.script_fields.specs.Values.{time_field, moment_field, ulid_field}
use Rattle.script_workers.specs.Hands.{hands_of_task, with_hands}
use Rattle.script_core.specs.State.{start, end_block, add_gateway, begin_block, add_series, begin_phase, add_task, add_query, note_sync, finish}
use Rattle.script_core.specs.Lines.{partition_field, gateway_line, last_labels, block_line, first_labels, series_line, at_line, upload_line, sync_line, question_at, selector_field, query_line, fields_line, stop_field}
use Rattle.script_core.specs.Reading.{kind_line, text_line, spoken_line, line_at, lines_at, script_of}
use Rattle.script_core.specs.Lawful.{IsLawfulScript}
use Rattle.script_core.specs.Spelling.{Spells}
use Rattle.script_core.proofs.FoundLines.{script_found}
use Rattle.script_core.proofs.LawfulScripts.{spelled_lawful}
use Rattle.tests_worked.specs.OneBlock as one
use Rattle.tests_worked.specs.YoungBlock as young

pub one_read : script_of one.text ≡ Ok one.script
unfolding one.text is_utf8 chars encode is_decimal is_signed_decimal unsigned_of signed_of alphabet digit_of number_of bad_place ulid_of
    is_name rest_past name_length name_at with_byte value_at pair_at with_label stopped_at at_end end_at at_comma after_pair on_pair pairs_at after_brace at_brace walk_at repeats placed_at conclusion read_set is_among placed in_order
    is_hex_sign hex_number pattern_of sample_with sample_of metric_matcher after_start after_metric after_comma step ended_draft read_from moment_of
    next_field only_field after_space has_small_number samples_from time_field moment_field ulid_field hands_of_task with_hands
    start end_block add_gateway begin_block add_series begin_phase add_task add_query note_sync finish
    partition_field gateway_line last_labels block_line first_labels series_line at_line stop_field upload_line sync_line question_at selector_field query_line fields_line
    kind_line text_line spoken_line line_at lines_at script_of
one_read = refl

pub young_read : script_of young.text ≡ Ok young.script
unfolding young.text is_utf8 chars encode is_decimal is_signed_decimal unsigned_of signed_of alphabet digit_of number_of bad_place ulid_of
    is_name rest_past name_length name_at with_byte value_at pair_at with_label stopped_at at_end end_at at_comma after_pair on_pair pairs_at after_brace at_brace walk_at repeats placed_at conclusion read_set is_among placed in_order
    is_hex_sign hex_number pattern_of sample_with sample_of metric_matcher after_start after_metric after_comma step ended_draft read_from moment_of
    next_field only_field after_space has_small_number samples_from time_field moment_field ulid_field hands_of_task with_hands
    start end_block add_gateway begin_block add_series begin_phase add_task add_query note_sync finish
    partition_field gateway_line last_labels block_line first_labels series_line at_line stop_field upload_line sync_line question_at selector_field query_line fields_line
    kind_line text_line spoken_line line_at lines_at script_of
young_read = refl

pub one_spelled : Spells one.text one.script
one_spelled = script_found one.text one.script one_read

pub young_spelled : Spells young.text young.script
young_spelled = script_found young.text young.script young_read

pub one_lawful : IsLawfulScript one.script
one_lawful = spelled_lawful one.text one.script one_spelled

pub young_lawful : IsLawfulScript young.script
young_lawful = spelled_lawful young.text young.script young_spelled
