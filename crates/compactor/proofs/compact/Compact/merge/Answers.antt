use Rattle.std.proofs.Common.{Ok, subst}
use Rattle.world_core.specs.declared.act.Act.TheVariants as act
use Rattle.compactor.specs.Merges.{IsMerging}
use Rattle.compactor.specs.declared.compact_end.CompactEnd.TheVariants as compact
use Rattle.compactor.proofs.AfterMerge.{merges}
use Rattle.compactor.proofs.MergedInputs.{merged_ulid}
use Rattle.world_core.proofs.LeadSteps.{ended}
use Rattle.compactor.proofs.compact.Compact.merge.Goals as goal

pub upload-requires : goal.upload-requires
upload-requires c = record {
  ulid = merged_ulid c.args.self.now.replicas c.new_ulid-ulid.result c.args.labels c.args.all.inputs c.in-Merged.block
      (subst (IsMerging c.args.self.now.replicas c.new_ulid-ulid.result c.args.labels c.args.all.inputs) c.in-Merged.is c.in_ok-merging.ensures);
}

pub returns-in-Merged-clause-leads : goal.returns-in-Merged-clause-leads
returns-in-Merged-clause-leads c =
    merges c.args.self.now c.args.labels c.args.parents.items c.args.all.inputs c.args.all.number c.args.all.moment c.new_ulid-ulid.result _ _ c.upload.result c.upload.new.self
    c.new_ulid-ulid.ensures c.in-Merged.is c.in_ok-merging.ensures c.upload.ensures.leads

pub returns-in-Refused-clause-leads : goal.returns-in-Refused-clause-leads
returns-in-Refused-clause-leads c =
    merges c.args.self.now c.args.labels c.args.parents.items c.args.all.inputs c.args.all.number c.args.all.moment c.new_ulid-ulid.result _ _
    (Ok (act.Done (compact.Damaged c.in-Refused.number))) c.args.self.now
    c.new_ulid-ulid.ensures c.in-Refused.is c.in_ok-merging.ensures (ended (compact.Damaged c.in-Refused.number))

pub returns-clause-leads : goal.returns-clause-leads
returns-clause-leads c =
    merges c.args.self.now c.args.labels c.args.parents.items c.args.all.inputs c.args.all.number c.args.all.moment c.new_ulid-ulid.result _ _
    (Ok (act.Done compact.TooLarge)) c.args.self.now
    c.new_ulid-ulid.ensures c.in-TooLarge.is c.in_ok-merging.ensures (ended compact.TooLarge)
