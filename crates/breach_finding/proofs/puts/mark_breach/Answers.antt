use Rattle.std.proofs.Common.{◌≡◌, ℕ, List, sym, ◌∙◌, ap, subst}
use Rattle.block_keys.specs.declared.key.Key.{Key}
use Rattle.world_core.specs.declared.entry.Entry.{Entry}
use Rattle.world_core.specs.declared.op.Op.TheVariants.{Put}
use Rattle.lifecycle_core.specs.Breaches.{Refuses, mark_time}
use Rattle.lifecycle_core.specs.Setting.{Setting}
use Rattle.breach_finding.specs.Told.{IsLateMark, IsTold}
use Rattle.breach_finding.proofs.PutTimes.{mark_told, some_mark}
use Rattle.breach_finding.proofs.puts.mark_breach.Goals as goal
use Rattle.base.proofs.Options.{if_ok}

pub returns-else-not-has_landed : goal.returns-else-not-has_landed
returns-else-not-has_landed c =
    let found = some_mark c.in-Put.key c.marked_block.result c.is_none.result c.is_none.ensures c.if-is_none.false c.marked_block.ensures.mark in
    if_ok (IsTold (IsLateMark c.bytes.result.now c.args.entry.now.moment.ms c.args.rules.now.ignore.ms))
    (λ told. (setting : Setting) → (journal : List Entry) → (before : List Entry) → setting.script.rules ≡ c.args.rules.now → IsTold (Refuses setting journal mark_time before c.args.entry.now) told)
    c.late_mark.result c.late_mark.ensures
    (λ told late setting journal before same. mark_told setting journal before c.args.rules.now c.args.entry.now found.0 c.in-Put.bytes same
    (c.in-Put.is ∙ ap (λ (k : Key). Put k c.in-Put.bytes) found.1) (sym c.has_landed.ensures ∙ c.if-not-has_landed.false) told
    (subst (λ (t : List ℕ). IsTold (IsLateMark t c.args.entry.now.moment.ms c.args.rules.now.ignore.ms) told) c.bytes.ensures late))
