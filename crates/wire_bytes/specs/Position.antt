-- Where a cursor stands: the bytes that it goes over, and how many of them it has passed.
use Rattle.std.specs.Prelude.{ℕ, ◌+◌, List, drop}

pub record Position : Type 0 where
  pub bytes : List ℕ
  pub place : ℕ

-- in front of the first byte
abbrev pub start : List ℕ → Position
start bytes = record { bytes = bytes; place = 0 }

-- the bytes that are still to be read
abbrev pub left : Position → List ℕ
left p = drop p.place p.bytes

-- so many bytes further
abbrev pub further : ℕ → Position → Position
further count p = record { bytes = p.bytes; place = p.place + count }
