use Rattle.compactor.proofs.MergedInputs.{blocks_many, all_named, named_few}
use Rattle.compactor.proofs.merging.merge_inputs.Goals as goal

pub merge_files-merging-requires : goal.merge_files-merging-requires
merge_files-merging-requires c = record {
  many = blocks_many c.args.inputs c.in_ok-files.files.blocks c.in_ok-files.ensures.read c.requires.many;
  named = all_named c.args.inputs c.in_ok-files.files.blocks c.in_ok-files.files.numbers c.requires.named c.in_ok-files.ensures;
}

pub all_files-requires : goal.all_files-requires
all_files-requires c = record { few = named_few c.args.inputs c.requires.named }

pub returns : goal.returns
returns c = c.merge_files-merging.ensures c.args.inputs c.in_ok-files.ensures
