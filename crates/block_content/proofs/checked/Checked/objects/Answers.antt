use Rattle.std.proofs.Common.{ap}
use Rattle.block_meta.specs.MetaValue.{meta_text}
use Rattle.block_content.proofs.ListedFiles.{shipped_ulid, moved_block, moved_numbers, moved_objects}
use Rattle.block_content.proofs.checked.Checked.objects.Goals as goal

pub returns-clause-block : goal.returns-clause-block
returns-clause-block c = moved_block c.files_objects.result _ _ (shipped_ulid c.in_ok-files.files.meta c.args.self.files.meta c.args.self.files.segments c.args.self.files.index c.args.external.now c.in_ok-files.ensures.meta) c.files_objects.ensures.block

pub returns-clause-objects : goal.returns-clause-objects
returns-clause-objects c =
    moved_objects c.files_objects.result _ _ _ _ _ _ _ _ (shipped_ulid c.in_ok-files.files.meta c.args.self.files.meta c.args.self.files.segments c.args.self.files.index c.args.external.now c.in_ok-files.ensures.meta) c.in_ok-files.ensures.segments c.in_ok-files.ensures.index (ap meta_text c.in_ok-files.ensures.meta)
    c.files_objects.ensures.objects

pub returns-clause-numbers : goal.returns-clause-numbers
returns-clause-numbers c =
    moved_numbers c.files_objects.result c.in_ok-files.files.meta c.args.self.files.meta c.args.self.files.segments c.args.self.files.index c.args.external.now c.in_ok-files.ensures.meta c.files_objects.ensures.numbers
