use Rattle.std.proofs.Common.{◌+◌, ◌*◌, ◌^◌, inl, inr}
use Rattle.std.proofs.lemmas.Bool.{cases_lt}
use Rattle.index_v2.proofs.SeriesApart.{behind_past}
use Rattle.index_v2.proofs.sizes.stands_behind.Goals as goal

pub returns-in-None : goal.returns-in-None
returns-in-None c =
    behind_past c.args.index.now c.args.before c.in-Some.before c.args.number c.series_bytes.result c.in-Some.is c.series_bytes.ensures c.requires.small
    (elim (cases_lt (16 * c.in-Some.before + c.series_bytes.result) (2 ^ 64)) [ inl lt ↦ absurd (c.in-None.ensures lt) | inr ge ↦ ge ])
