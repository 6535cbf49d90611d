use Rattle.std.proofs.Common.{◌≡◌, ◌⊎◌, ◌∙◌, inl, inr}
use Rattle.block_content.specs.Checking.{RefusesBlock}
use Rattle.block_content.specs.declared.check_refusal.CheckRefusal.{CheckRefusal}
use Rattle.block_content.specs.declared.check_refusal.CheckRefusal.TheVariants.{NoMemory}
use Rattle.block_content.proofs.CheckLaws.{held_passes, held_only, held_not_refused, refused_why, refused_passing, refused_other, stopped_with, stopped_not, stopped_why, stopped_other, moved_passed}
use Rattle.block_content.proofs.checking.check.Goals as goal

pub new-requires : goal.new-requires
new-requires c = held_passes c.args.files c.bytes.result.now c.members.result.now c.bytes.ensures c.members.ensures c.count_block.ensures.bytes c.args.ulid c.in_ok-series.series c.in_ok-series.samples c.in_ok-series.ensures.exact

pub returns : goal.returns
returns c = record {
  found = (
    c.new.ensures.files,
    moved_passed c.args.ulid c.args.files c.in_ok-series.series c.in_ok-series.samples _ _ c.new.ensures.series c.new.ensures.samples
        (held_passes c.args.files c.bytes.result.now c.members.result.now c.bytes.ensures c.members.ensures c.count_block.ensures.bytes c.args.ulid c.in_ok-series.series c.in_ok-series.samples c.in_ok-series.ensures.exact),
  );
  passes = λ list is. let counts = held_only c.args.files c.bytes.result.now c.members.result.now c.bytes.ensures c.members.ensures c.count_block.ensures.bytes c.args.ulid c.in_ok-series.series c.in_ok-series.samples list c.in_ok-series.ensures.exact is in
      inl (c.new.ensures.files, c.new.ensures.series ∙ counts.0, c.new.ensures.samples ∙ counts.1);
  refused = tt;
  refuses = λ refusal is. absurd (held_not_refused c.args.files c.bytes.result.now c.members.result.now c.bytes.ensures c.members.ensures c.count_block.ensures.bytes c.args.ulid c.in_ok-series.series c.in_ok-series.samples refusal c.in_ok-series.ensures.exact is);
}

pub returns-in_err-series : goal.returns-in_err-series
returns-in_err-series c = record {
  found = stopped_not _ c.from_residual.result c.in_err-series.field-0.0 c.from_residual.ensures.1;
  passes = λ list is. inr (stopped_with c.from_residual.result c.in_err-series.field-0.0 NoMemory c.from_residual.ensures.1 (refused_passing c.args.files c.bytes.result.now c.members.result.now c.bytes.ensures c.members.ensures c.count_block.ensures.bytes c.args.ulid list c.in_err-series.field-0.0 is c.in_err-series.ensures.exact));
  refused = stopped_why (λ (d : CheckRefusal). (d ≡ NoMemory) ⊎ RefusesBlock c.args.ulid c.args.files d) c.from_residual.result c.in_err-series.field-0.0 c.from_residual.ensures.1 (refused_why c.args.files c.bytes.result.now c.members.result.now c.bytes.ensures c.members.ensures c.count_block.ensures.bytes c.args.ulid c.in_err-series.field-0.0 c.in_err-series.ensures.exact);
  refuses = λ refusal is. stopped_other c.from_residual.result c.in_err-series.field-0.0 refusal c.from_residual.ensures.1 (refused_other c.args.files c.bytes.result.now c.members.result.now c.bytes.ensures c.members.ensures c.count_block.ensures.bytes c.args.ulid refusal c.in_err-series.field-0.0 is c.in_err-series.ensures.exact);
}
