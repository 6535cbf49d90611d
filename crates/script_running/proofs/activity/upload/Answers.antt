use Rattle.script_running.specs.declared.came.Came.TheVariants as part
use Rattle.script_running.proofs.Leaving.{idle_left, stop_left}
use Rattle.script_running.proofs.Uploads.{unshipped_told, upload_told}
use Rattle.script_running.proofs.activity.upload.Goals as goal

pub returns-in-Ok-clause-ran : goal.returns-in-Ok-clause-ran
returns-in-Ok-clause-ran g c = λ setting ulid known.
    upload_told setting c.args.block.now c.in-Ok.objects c.args.stop (g.H.Hand.told c.args.hand.now).seat c.run_upload.result (g.H.Hand.told c.args.hand.now).entries (g.H.Hand.told c.run_upload.new.hand).entries c.upload_came.result ulid
    c.upload_came.ensures (c.in-Ok.ensures.shipped setting known) (c.run_upload.ensures.run c.args.block.now.ulid c.in-Ok.ensures.block)

pub returns-in-Ok-clause-hand : goal.returns-in-Ok-clause-hand
returns-in-Ok-clause-hand g c = stop_left g.H.Hand.told g.H.Hand.keeps (λ end. part.Upload end) _ _ c.run_upload.result c.upload_came.result c.upload_came.ensures c.run_upload.ensures.hand

pub returns-in-Err-clause-ran : goal.returns-in-Err-clause-ran
returns-in-Err-clause-ran g c = λ setting ulid known.
    unshipped_told setting c.args.block.now c.args.stop (g.H.Hand.told c.args.hand.now).seat (g.H.Hand.told c.args.hand.now).entries ulid c.in-Err.why c.unshipped_came.result c.unshipped_came.ensures.came (c.in-Err.ensures.refused setting known)

pub returns-in-Err-clause-hand : goal.returns-in-Err-clause-hand
returns-in-Err-clause-hand g c = idle_left g.H.Hand.told g.H.Hand.keeps g.met.H.Hand.keeps_none _ c.unshipped_came.result c.unshipped_came.ensures.other
