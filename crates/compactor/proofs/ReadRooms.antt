-- The blocks that were read have just the segments that their indexes name.
use Rattle.std.proofs.Common.{◌≡◌, ◌≤◌, ◌<◌, ◌+◌, ◌-◌, ℕ, List, [], ◌∷◌, ◌++◌, length, length-append, Option, None, Some, Result, Ok, Err, sym, ap, subst, ◌∙◌, arith}
use Rattle.std.specs.Prelude.{OnOk, OnErr}
use Rattle.std.specs.List.{AllByRecursion}
use Rattle.compactor.specs.Inputs.{HasNamed}
use Rattle.compactor.specs.Named.{named_segments}
use Rattle.compactor.specs.ReadRoom.{off, most_off}
use Rattle.compactor.specs.declared.input.Input.{Input}
use Rattle.compactor.specs.declared.input.Read.{Read}

-- so many segments are just those that are named, or they are not
off_none : (named : Option ℕ) (many : ℕ) → off named many ≤ 0 → named ≡ Some many
off_none None many none = absurd (omega (arith, none))
off_none (Some count) many none = ap (λ (n : ℕ). Some n) (omega (arith, none))

-- an index names so many, and all are to come
pub all_come : (named : Option ℕ) (count : ℕ) (segments : List Read) → named ≡ Some count → segments ≡ [] → off named (length segments + count) ≤ 0
all_come named count segments is none =
    let many : length segments ≡ 0 = ap length none in
    subst (λ (o : Option ℕ). off o (length segments + count) ≤ 0) (sym is) (omega (arith, many))

-- one that was to come has come
pub one_came : (named : Option ℕ) (segments new : List Read) (read : Read) (more : ℕ) → new ≡ segments ++ read ∷ [] → off named (length segments + 1 + more) ≤ 0 → off named (length new + more) ≤ 0
one_came named segments new read more pushed far =
    let many : length new ≡ length segments + length (read ∷ []) = ap length pushed ∙ length-append segments (read ∷ []) in
    let same : length segments + 1 + more ≡ length new + more = omega (arith, many) in
    subst (λ (n : ℕ). off named n ≤ 0) same far

-- the next one is waited for
pub next_waits : (named : Option ℕ) (many more : ℕ) → 0 < more → off named (many + more) ≤ 0 → off named (many + 1 + (more - 1)) ≤ 0
next_waits named many more some far = subst (λ (n : ℕ). off named n ≤ 0) (omega (arith, some)) far

-- none is to come
pub none_waits : (named : Option ℕ) (many more : ℕ) → more ≡ 0 → off named (many + more) ≤ 0 → off named many ≤ 0
none_waits named many more none far = subst (λ (n : ℕ). off named n ≤ 0) (omega (arith, none)) far

one_more : (inputs : List Input) (input : Input) → most_off inputs ≤ 0 → off (named_segments input.index.bytes) (length input.segments) ≤ 0 → most_off (inputs ++ input ∷ []) ≤ 0
one_more [] input named one = omega (arith, one)
one_more (i ∷ inputs) input named one =
    let rest : most_off (inputs ++ input ∷ []) ≤ 0 = one_more inputs input (omega (arith, named)) one in omega (arith, named, rest)

-- after a push, whether there was memory for it or not
pub pushed_named : {T E : Type 0} (r : Result T E) (inputs new : List Input) (input : Input) → OnOk r (new ≡ inputs ++ input ∷ []) → OnErr r (new ≡ inputs) → most_off inputs ≤ 0 → off (named_segments input.index.bytes) (length input.segments) ≤ 0 → most_off new ≤ 0
pushed_named (Ok t) inputs new input ok err named one = subst (λ (l : List Input). most_off l ≤ 0) (sym ok) (one_more inputs input named one)
pushed_named (Err e) inputs new input ok err named one = subst (λ (l : List Input). most_off l ≤ 0) (sym err) named

pub pushed_many : {T E : Type 0} (r : Result T E) (inputs new : List Input) (input : Input) (others waiting : ℕ) → OnOk r (new ≡ inputs ++ input ∷ []) → OnErr r (new ≡ inputs) → others ≤ length inputs + waiting → others ≤ length new + waiting
pushed_many (Ok t) inputs new input others waiting ok err many =
    let more : length new ≡ length inputs + length (input ∷ []) = ap length ok ∙ length-append inputs (input ∷ []) in omega (arith, more, many)
pushed_many (Err e) inputs new input others waiting ok err many = let same : length new ≡ length inputs = ap length err in omega (arith, same, many)

pub named_each : (inputs : List Input) → most_off inputs ≤ 0 → AllByRecursion HasNamed inputs
named_each [] named = tt
named_each (i ∷ inputs) named = (off_none (named_segments i.index.bytes) (length i.segments) (omega (arith, named)), named_each inputs (omega (arith, named)))
