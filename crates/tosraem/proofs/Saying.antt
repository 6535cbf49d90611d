-- Texts that are written one after another.
use Rattle.std.proofs.Common.{ℕ, List, ◌++◌}
use Rattle.std.specs.Prelude.{Option}
use Rattle.std.specs.Io.KnownBytes.{Appends}
use Rattle.std.proofs.KnownBytes.{Appends-trans}

pub said_in_turn : (a b c d e f : Option (List ℕ)) (v w x y z : List ℕ) → Appends a b v → Appends b c w → Appends c d x → Appends d e y → Appends e f z → Appends a f (v ++ (w ++ x ++ y ++ z))
said_in_turn a b c d e f v w x y z first second third fourth fifth =
    Appends-trans a b f v (w ++ x ++ y ++ z) first
    (Appends-trans b e f (w ++ x ++ y) z (Appends-trans b d e (w ++ x) y (Appends-trans b c d w x second third) fourth) fifth)
