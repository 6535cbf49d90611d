use Rattle.std.proofs.Common.{List, ◌≡◌, ◌≤◌, ◌<◌, length, refl, ap, ◌∙◌, sym, subst}
use Rattle.block_keys.specs.Keys.{key_ulid}
use Rattle.block_keys.specs.declared.object.Object.{Object}
use Rattle.block_keys.specs.Blocks.{IsBlock}
use Rattle.world_core.specs.Plans.{Runs}
use Rattle.shipper.specs.Limits.{most_objects, have_lawful_keys}
use Rattle.shipper.specs.Uploads.{upload}
use Rattle.shipper.proofs.Begin.{block_lawful, block_length, first_ulid}
use Rattle.shipper.proofs.upload.Upload.start.Goals as goal

pub invariant_of-result : goal.invariant_of-result
invariant_of-result c =
    let block : IsBlock c.requires.0 c.into_vec-objects.result.items = subst (λ (l : List Object). IsBlock c.requires.0 l) (sym c.into_vec-objects.ensures) c.requires.1 in
    let same : c.into_vec-objects.result.items ≡ c.of-all.result.value.items = ap (λ v. v.items) (sym c.of-all.ensures) in
    record {
      keys = ap have_lawful_keys (sym same) ∙ block_lawful c.requires.0 c.into_vec-objects.result.items block;
      few = subst (λ (l : List Object). length l ≤ most_objects) same (block_length c.requires.0 c.into_vec-objects.result.items block).0;
      within = subst (λ (l : List Object). 0 < length l) same (block_length c.requires.0 c.into_vec-objects.result.items block).1;
      rest = c.from_vec-waiting.ensures.items ∙ same;
    }

pub returns : goal.returns
returns c = record {
  begun = refl;
  run = λ ulid given entries end last run. (let block : IsBlock ulid c.into_vec-objects.result.items = subst (λ (l : List Object). IsBlock ulid l) (sym c.into_vec-objects.ensures) given in
      let same : c.ulid-ulid.result ≡ ulid =
      c.ulid-ulid.ensures ∙ ap (λ (o : Object). key_ulid o.key) c.index.ensures ∙ first_ulid ulid c.into_vec-objects.result.items c.index.result.now block in
      let kept : c.of-all.result.value.items ≡ c.into_vec-objects.result.items = ap (λ v. v.items) c.of-all.ensures in
      subst (λ (l : List Object). Runs (upload ulid l) entries end) (kept ∙ c.into_vec-objects.ensures)
      (subst (λ u. Runs (upload u c.of-all.result.value.items) entries end) same run));
}
