use Rattle.std.proofs.Common.{rules}
use Rattle.block_meta.proofs.Again.{thanos_read, thanos_files_refused}
use Rattle.block_meta.proofs.thanos.Thanos.read_members.Goals as goal

pub returns-in_err-read_list-2 : goal.returns-in_err-read_list-2
returns-in_err-read_list-2 c =
    let h = thanos_files_refused _ _ _ _ _ c.in_ok-read_version.ensures c.in_ok-read_labels.ensures c.in_ok-read_resolution.ensures c.in_ok-read_text_or_empty.ensures c.in_ok-read_list.ensures _ c.in_err-read_list-2.ensures in
    search rules

pub returns : goal.returns
returns c = thanos_read _ _ _ _ _ c.in_ok-read_version.ensures c.in_ok-read_labels.ensures (search rules) c.in_ok-read_text_or_empty.ensures c.in_ok-read_list.ensures _ c.in_ok-read_list-2.ensures
