use Rattle.shipper.proofs.Steps.{asks_look}
use Rattle.shipper.proofs.upload.UploadMachine.first.Goals as goal

pub returns : goal.returns
returns c = asks_look c.args.self.now c.requires
