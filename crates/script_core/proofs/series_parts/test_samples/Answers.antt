use Rattle.std.proofs.Common.{rules, ◌≡◌}
use Rattle.script_core.specs.Lines.{times_ascend}
use Rattle.script_core.proofs.SpelledValues.{ascend_told}
use Rattle.script_core.proofs.series_parts.test_samples.Goals as goal

pub returns : goal.returns
returns c =
    let told : c.times_ascend.result ≡ times_ascend c.args.samples.now = ascend_told _ _ c.times_ascend.ensures in search rules
