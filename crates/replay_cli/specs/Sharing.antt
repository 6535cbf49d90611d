-- A lemma that source text cites: there is at most one proof that a type may be shared among threads.
use Rattle.std.specs.Thread.{IsSync}
use Rattle.std.specs.Coded.{×_prop, Π_prop, Unit-prop}
use mathlib.Core.HLevel.{⊥_prop}
use base.Fml.{Fml, fsep, fand, for, fwand, fex, fall, fupd, fhide, fbor, fobor, flent, fshr_bor, finv, fnamed, ftok, fkid, fme}
use base.Shift.{Keyless}
use denote.RattleType.{RattleType}

keyless_prop : (P : Fml) → IsProp (Keyless P)
keyless_prop (fsep P Q) = ×_prop (keyless_prop P) (keyless_prop Q)
keyless_prop (fand P Q) = ×_prop (keyless_prop P) (keyless_prop Q)
keyless_prop (for P Q) = ×_prop (keyless_prop P) (keyless_prop Q)
keyless_prop (fwand P Q) = ×_prop (keyless_prop P) (keyless_prop Q)
keyless_prop (fupd P) = keyless_prop P
keyless_prop (fhide P) = keyless_prop P
keyless_prop (fbor κ P) = keyless_prop P
keyless_prop (fobor κ q P) = keyless_prop P
keyless_prop (flent κ P) = keyless_prop P
keyless_prop (finv P) = keyless_prop P
keyless_prop (fnamed name P) = keyless_prop P
keyless_prop (fex X F) = Π_prop (λ x. keyless_prop (F x))
keyless_prop (fall X F) = Π_prop (λ x. keyless_prop (F x))
keyless_prop (fshr_bor κ F) = Π_prop (λ q. keyless_prop (F q))
keyless_prop (ftok E) = ⊥_prop
keyless_prop (fkid h a) = ⊥_prop
keyless_prop (fme h) = ⊥_prop
keyless_prop other = Unit-prop

pub sync_prop : (R : RattleType) → IsProp (IsSync R)
sync_prop R s t i = record { shared = λ x b o κ. keyless_prop (R.shr_at x b o κ) (s.shared x b o κ) (t.shared x b o κ) i }
