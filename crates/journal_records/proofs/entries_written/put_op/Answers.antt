use Rattle.std.proofs.Common.{[], ◌∷◌, ◌++◌}
use Rattle.std.specs.Int.{w32, w64, w128, to_be_bytes}
use Rattle.block_keys.specs.KeyText.{key_text}
use Rattle.journal_records.specs.RecordWritten.{counted}
use Rattle.journal_records.proofs.FourParts.{two_put}
use Rattle.journal_records.proofs.entries_written.put_op.Goals as goal

pub returns-in_ok-put_key-in-GetRange-clause-ok : goal.returns-in_ok-put_key-in-GetRange-clause-ok
returns-in_ok-put_key-in-GetRange-clause-ok c =
    let arm = c.in-GetRange in
    let numbers = to_be_bytes w64 arm.from ++ to_be_bytes w64 arm.len in
    let put = two_put c.put_numbers.result c.args.out.now.items (4 ∷ counted (key_text arm.key)) numbers _ _ c.in_ok-put_key-in-GetRange.ensures.ok c.put_numbers.ensures.ok in
    rw (arm.is) put

pub returns-in_ok-put_u8-in-BlockPage-clause-ok : goal.returns-in_ok-put_u8-in-BlockPage-clause-ok
returns-in_ok-put_u8-in-BlockPage-clause-ok c =
    let arm = c.in-BlockPage in
    let page = to_be_bytes w128 arm.ulid ++ (counted arm.after ++ to_be_bytes w32 arm.limit) in
    let put = two_put c.put_block_page.result c.args.out.now.items (7 ∷ []) page _ _ c.in_ok-put_u8-in-BlockPage.ensures.ok c.put_block_page.ensures.ok in
    rw (arm.is) put
