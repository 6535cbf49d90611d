use Rattle.std.proofs.Common.{◌≡◌, sym, ◌∙◌, subst}
use Rattle.block_content.specs.Checked.{checked_files, checked_samples, checked_series}
use Rattle.block_meta.specs.declared.block_files.BlockFiles.{BlockFiles}
use Rattle.script_running.specs.Shelves.{AreObjects}
use Rattle.script_running.proofs.Shelves.{objects_held}
use Rattle.script_running.proofs.shelf.ShelfBlock.of_checked.Goals as goal

pub returns-clause-held : goal.returns-clause-held
returns-clause-held c =
    let files : BlockFiles = checked_files c.args.checked in
    let same : c.of-of.result.value ≡ files = c.of-of.ensures ∙ c.files-files.ensures.files in
    subst (AreObjects c.args.block.now c.in_ok-objects.objects) (sym same)
    (objects_held c.args.block.now c.in_ok-objects.objects files (checked_series c.args.checked) (checked_samples c.args.checked) c.requires.passed
    (record { index = c.in_ok-objects.ensures.bytes.0; segments = c.in_ok-objects.ensures.bytes.1 }) c.requires.short c.in_ok-objects.ensures.numbers c.in_ok-objects.ensures.objects c.in_ok-objects.ensures.block)
