-- The lines of a report: one for each activity, and more for an answered query.
use Rattle.std.specs.Prelude.{ℕ, ◌-◌, ◌^◌, min, ℤ, Bool, true, false, is_some, not, ◌&&◌, List, [], ◌++◌, length, codes, slice_get, if◌then◌else◌}
use Rattle.std.specs.List.{flat_map, list_any, sum_by}
use Rattle.std.specs.Option.{option_map_or}
use Rattle.std.specs.Ordering.{int_eq}
use Rattle.base.specs.Decimal.{decimal_text, signed_text}
use Rattle.base.specs.Lines.{newline}
use Rattle.ulid_core.specs.UlidText.{text_of}
use Rattle.label_sets.specs.Counts.{sample_count}
use Rattle.label_sets.specs.SampleText.{series_text}
use Rattle.label_sets.specs.declared.series.Series.{Series}
use Rattle.moment_core.specs.Partitions.{all_times}
use Rattle.moment_core.specs.declared.partition.Partition.{Partition}
use Rattle.querier.specs.declared.answer.Names.{Names}
use Rattle.script_core.specs.declared.script.Script.{Script}
use Rattle.script_workers.specs.declared.work.Work.{Work}
use Rattle.script_workers.specs.declared.work.Work.TheVariants as work
use Rattle.script_running.specs.Outcomes.{Outcome}
use Rattle.script_running.specs.declared.came.Came.TheVariants as outcome
use Rattle.script_running.specs.declared.came.Stop.{Stop}
use Rattle.script_running.specs.declared.came.Stop.TheVariants as stop
use Rattle.script_running.specs.shipper.specs.declared.upload.UploadEnd.{UploadEnd}
use Rattle.script_running.specs.shipper.specs.declared.upload.UploadEnd.TheVariants as upload
use Rattle.script_running.specs.compactor.specs.declared.compact_end.CompactEnd.{CompactEnd}
use Rattle.script_running.specs.compactor.specs.declared.compact_end.CompactEnd.TheVariants as compact
use Rattle.script_running.specs.cleaner.specs.declared.clean.CleanEnd.{CleanEnd}
use Rattle.script_running.specs.cleaner.specs.declared.clean.CleanEnd.TheVariants as clean
use Rattle.script_running.specs.declared.outcome.SyncOutcome.{SyncOutcome}
use Rattle.script_running.specs.declared.outcome.SyncOutcome.TheVariants as sync
use Rattle.script_running.specs.declared.outcome.QueryOutcome.{QueryOutcome}
use Rattle.script_running.specs.declared.outcome.QueryOutcome.TheVariants as query
use Rattle.script_running.specs.declared.outcome.NoAnswer.{NoAnswer}
use Rattle.script_running.specs.declared.outcome.NoAnswer.TheVariants as none

unfoldable pub upload_words : Stop UploadEnd → List ℕ
upload_words (stop.Ended (upload.Done count)) = codes "ok " ++ decimal_text count ++ codes " objects"
upload_words (stop.Ended upload.Already) = codes "already"
upload_words (stop.Ended (upload.Fault entry)) = codes "fault " ++ decimal_text entry
upload_words (stop.At count) = codes "stopped " ++ decimal_text count

unfoldable pub sync_words : SyncOutcome → List ℕ
sync_words (sync.Blocks count) = decimal_text count ++ codes " blocks"
sync_words (sync.Fault entry) = codes "fault " ++ decimal_text entry
sync_words (sync.Damaged entry) = codes "damaged " ++ decimal_text entry
sync_words sync.TooMany = codes "too many"

-- how many expired blocks were marked, where the script sets a retention
abbrev pub expired_words : Bool → ℕ → List ℕ
expired_words true expired = codes " expired " ++ decimal_text expired
expired_words false expired = []

unfoldable pub compact_words : Bool → Stop CompactEnd → List ℕ
compact_words retains (stop.Ended (compact.Done collected compacted expired)) =
    codes "collected " ++ decimal_text collected ++ codes " compacted " ++ decimal_text compacted
    ++ expired_words retains expired
compact_words retains (stop.Ended (compact.Fault entry)) = codes "fault " ++ decimal_text entry
compact_words retains (stop.Ended (compact.Missing entry)) = codes "missing " ++ decimal_text entry
compact_words retains (stop.Ended (compact.Damaged entry)) = codes "damaged " ++ decimal_text entry
compact_words retains (stop.Ended compact.TooMany) = codes "too many"
compact_words retains (stop.Ended compact.TooLarge) = codes "too large"
compact_words retains (stop.At count) = codes "stopped " ++ decimal_text count

unfoldable pub clean_words : Stop CleanEnd → List ℕ
clean_words (stop.Ended (clean.Done blocks partials)) = codes "blocks " ++ decimal_text blocks ++ codes " partials " ++ decimal_text partials
clean_words (stop.Ended (clean.Fault entry)) = codes "fault " ++ decimal_text entry
clean_words (stop.Ended (clean.Damaged entry)) = codes "damaged " ++ decimal_text entry
clean_words (stop.Ended clean.TooMany) = codes "too many"
clean_words (stop.At count) = codes "stopped " ++ decimal_text count

unfoldable pub no_answer_words : NoAnswer → List ℕ
no_answer_words none.NoView = codes "no view"
no_answer_words (none.Missing entry) = codes "missing " ++ decimal_text entry
no_answer_words (none.Damaged entry) = codes "damaged " ++ decimal_text entry
no_answer_words (none.Fault entry) = codes "fault " ++ decimal_text entry

-- the name of the gateway at a place
abbrev pub gateway_name : Script → ℕ → List ℕ
gateway_name script gateway = option_map_or (λ name. name) (slice_get script.gateways gateway) []

unfoldable pub source_line : ℕ → List ℕ
source_line ulid = codes "source " ++ text_of ulid ++ newline

-- a source of a gateway's answer
unfoldable pub named_line : Script → ℕ → ℕ → List ℕ
named_line script gateway ulid =
    codes "source " ++ gateway_name script gateway ++ codes " " ++ text_of ulid ++ newline

unfoldable pub named_lines : Script → Names → List ℕ
named_lines script names = flat_map (named_line script names.gateway) names.sources

-- A gateway's line gives it a partition. None gives it all times.
abbrev pub is_part : Partition → Bool
is_part partition = not (int_eq partition.low all_times.low && int_eq partition.high all_times.high)

-- some gateway's line does
abbrev pub are_parted : Script → Bool
are_parted script = list_any is_part script.partitions

-- how many uploads gateways name together; the count stands still at the end of 64 bits
unfoldable pub named_count : List Names → ℕ
named_count names = min (sum_by (λ one. length one.sources) names) (2 ^ 64 - 1)

unfoldable pub series_line : Series → List ℕ
series_line series = codes "series " ++ series_text series ++ newline

-- how many series, samples and sources an answer has
unfoldable pub counts_text : List Series → ℕ → List ℕ
counts_text series sources =
    decimal_text (length series) ++ codes " series " ++ (decimal_text (sample_count series) ++ codes " samples ")
    ++ (decimal_text sources ++ codes " sources") ++ newline

-- the counts of an answer, a line for each source and one for each series
unfoldable pub answer_text : List Series → List ℕ → List ℕ
answer_text series sources =
    counts_text series (length sources) ++ flat_map source_line sources ++ flat_map series_line series

-- the same with the sources by gateway
unfoldable pub parted_text : Script → List Series → List Names → List ℕ
parted_text script series names =
    counts_text series (named_count names) ++ flat_map (named_lines script) names ++ flat_map series_line series

-- An answered query tells its sources by gateway where some gateway has a partition, and else those of all gateways together.
unfoldable pub query_text : Script → QueryOutcome → List ℕ
query_text script (query.Answer answer names) =
    if are_parted script then parted_text script answer.series names else answer_text answer.series answer.sources
query_text script (query.NoAnswer gateway why) = gateway_name script gateway ++ codes " " ++ no_answer_words why ++ newline

abbrev pub upload_of : ℕ → List ℕ
upload_of ulid = codes "upload " ++ text_of ulid ++ codes ": "

abbrev pub upload_line : ℕ → Stop UploadEnd → List ℕ
upload_line ulid end = upload_of ulid ++ upload_words end ++ newline

-- the line of an upload whose block is not shipped
abbrev pub unshipped_line : ℕ → ℕ → List ℕ
unshipped_line ulid cause = upload_of ulid ++ codes "refused " ++ decimal_text cause ++ newline

abbrev pub sync_line : List ℕ → SyncOutcome → List ℕ
sync_line name end = codes "sync " ++ name ++ codes ": " ++ sync_words end ++ newline

abbrev pub compact_line : Bool → Stop CompactEnd → List ℕ
compact_line retains end = codes "compact: " ++ compact_words retains end ++ newline

abbrev pub clean_line : Stop CleanEnd → List ℕ
clean_line end = codes "clean: " ++ clean_words end ++ newline

abbrev pub query_line : Script → ℤ → ℤ → QueryOutcome → List ℕ
query_line script low high end =
    codes "query " ++ signed_text low ++ codes " " ++ signed_text high ++ codes ": " ++ query_text script end

-- the lines of one activity
unfoldable pub activity_text : Script → Work → Outcome → List ℕ
activity_text script (work.Upload ulid count) (outcome.Upload end) = upload_line ulid end
activity_text script (work.Upload ulid count) (outcome.Unshipped cause) = unshipped_line ulid cause
activity_text script (work.Sync gateway) (outcome.Sync end) = sync_line (gateway_name script gateway) end
activity_text script (work.Compact count) (outcome.Compact end) = compact_line (is_some script.rules.retention) end
activity_text script (work.Clean count) (outcome.Clean end) = clean_line end
activity_text script (work.Query low high selector) (outcome.Query end) = query_line script low high end
activity_text script other end = []
