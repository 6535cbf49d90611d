use Rattle.std.proofs.Common.{◌∙◌, List, map, refl, ap, arith, rules}
use Rattle.std.specs.Int.{w64}
use Rattle.std.specs.Prelude.{FitsSigned}
use Rattle.std.specs.List.{flat_map}
use Rattle.std.proofs.lemmas.Int.{to_z-of_z}
use Rattle.block_meta.specs.Lawful.{ascending}
use Rattle.block_meta.specs.declared.meta.Meta.{Meta}
use Rattle.vertical_merge.specs.Compacted.{parent_of}
use Rattle.vertical_merge.proofs.Extremes.{first_and_others, least_of, greatest_of, next_level_of}
use Rattle.vertical_merge.proofs.compacted.compacted_plan.Goals as goal

pub returns : goal.returns
returns c =
    let begins : FitsSigned w64 c.least_time.result = search rules in
    let ends : FitsSigned w64 c.greatest_time.result = search rules in
    let inputs =
    first_and_others _ _ _ c.members.ensures (omega arith) c.first-item.is in
    record {
      ulid_is = refl;
      begin = least_of c.args.inputs.now _ _ _ _ inputs (to_z-of_z w64 c.least_time.result begins) c.least_time.ensures;
      end = greatest_of c.args.inputs.now _ _ _ _ inputs (to_z-of_z w64 c.greatest_time.result ends) c.greatest_time.ensures;
      level = next_level_of c.args.inputs.now _ _ _ _ inputs (omega (arith, c.saturating_add.ensures)) c.greatest_level.ensures;
      sources = c.in_ok-union_of_sources.ensures.value ∙ ap (λ (l : List Meta). ascending (flat_map (λ m. m.sources) l)) c.members-2.ensures;
      parents = c.in_ok-parents_of.ensures ∙ ap (map parent_of) c.members-3.ensures;
      labels_are = c.in_ok-copy.ensures;
      source = c.in_ok-from_str.ensures;
    }
