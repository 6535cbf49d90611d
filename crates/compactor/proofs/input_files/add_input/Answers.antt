use Rattle.compactor.proofs.PutTogether.{files_more}
use Rattle.compactor.proofs.input_files.add_input.Goals as goal

pub returns : goal.returns
returns c = λ inputs are.
    files_more inputs c.args.blocks.now _ c.args.numbers.now _ c.args.input c.in_ok-files.files c.in_ok-files.read c.in_ok-files.ensures.files c.in_ok-files.ensures.numbers
    c.in_ok-push.ensures.ok c.in_ok-push-2.ensures.ok are
