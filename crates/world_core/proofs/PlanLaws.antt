-- Laws of all plans.
use Rattle.std.proofs.Common.{◌≡◌, inl, inr, List, [], ◌∷◌, ◌++◌, Option, Some, None, refl, sym, ap, subst, ◌∙◌, append_assoc, append-nil}
use Rattle.std.specs.List.{AllByRecursion}
use Rattle.world_core.specs.Plans.{Plan, ends, never, asks, finds, Runs, ComesTo, Keeps, asked}
use Rattle.world_core.specs.declared.op.Op.{Op}
use Rattle.world_core.specs.declared.entry.Entry.{Entry}
use Rattle.base.proofs.Lists.{middle_not_nil}

-- ---- runs and their fronts

-- a run may be broken off at once
pub breaks_off : {E : Type 0} (plan : Plan E) → Runs plan [] None
breaks_off (ends last) = (refl, inl refl)
breaks_off never = (refl, refl)
breaks_off (asks op next) = refl
breaks_off (finds Is one next) = inl (refl, refl)

-- a run that is not told its end
pub untold : {E : Type 0} (plan : Plan E) (entries : List Entry) (end : Option E) → Runs plan entries end → Runs plan entries None
untold (ends last) entries end run = (run.0, inl refl)
untold never entries end run = (run.0, refl)
untold (asks op next) [] end run = refl
untold (asks op next) (e ∷ entries) end run = (run.0, untold (next e) entries end run.1)
untold (finds Is one next) entries end (inl none) = inl (none.0, refl)
untold (finds Is one next) entries end (inr (found, is, run)) = inr (found, is, untold (next found) entries end run)

-- what was cut off before its last entries is a run without an end
pub front : {E : Type 0} (plan : Plan E) (xs : List Entry) (y : Entry) (rest : List Entry) (end : Option E) → Runs plan (xs ++ y ∷ rest) end → Runs plan xs None
front (ends last) xs y rest end run = absurd (middle_not_nil xs y rest run.0)
front never xs y rest end run = absurd (middle_not_nil xs y rest run.0)
front (asks op next) [] y rest end run = refl
front (asks op next) (e ∷ xs) y rest end run = (run.0, front (next e) xs y rest end run.1)
front (finds Is one next) xs y rest end (inl none) = absurd (middle_not_nil xs y rest none.0)
front (finds Is one next) xs y rest end (inr (found, is, run)) = inr (found, is, front (next found) xs y rest end run)

-- a run that came to an end is no front of a longer run
pub once : {E : Type 0} (plan : Plan E) (xs : List Entry) (last : E) (y : Entry) (rest : List Entry) (end : Option E) → Runs plan xs (Some last) → Runs plan (xs ++ y ∷ rest) end → ⊥
once (ends last') xs last y rest end run more = middle_not_nil xs y rest more.0
once never xs last y rest end run more = middle_not_nil xs y rest more.0
once (asks op next) [] last y rest end run more = cc (run)
once (asks op next) (e ∷ xs) last y rest end run more = once (next e) xs last y rest end run.1 more.1
once (finds Is one next) xs last y rest end (inl none) more = cc (none.1)
once (finds Is one next) xs last y rest end (inr run) (inl none) = middle_not_nil xs y rest none.0
once (finds Is one next) xs last y rest end (inr (found, is, run)) (inr (other, so, more)) =
    once (next found) xs last y rest end run (subst (λ a. Runs (next a) (xs ++ y ∷ rest) end) (one other found so is) more)

-- the same entries lead to one end
pub one_end : {E : Type 0} (plan : Plan E) (entries : List Entry) (last other : E) → Runs plan entries (Some last) → Runs plan entries (Some other) → last ≡ other
one_end (ends end) entries last other (nil, inl none) two = absurd (cc (none))
one_end (ends end) entries last other (nil, inr is) (nil', inl none) = absurd (cc (none))
one_end (ends end) entries last other (nil, inr is) (nil', inr so) = cc (is, so)
one_end never entries last other run two = absurd (cc (run.1))
one_end (asks op next) [] last other run two = absurd (cc (run))
one_end (asks op next) (e ∷ entries) last other run two = one_end (next e) entries last other run.1 two.1
one_end (finds Is one next) entries last other (inl none) two = absurd (cc (none.1))
one_end (finds Is one next) entries last other (inr run) (inl none) = absurd (cc (none.1))
one_end (finds Is one next) entries last other (inr (found, is, run)) (inr (found', so, two)) =
    one_end (next found) entries last other run (subst (λ a. Runs (next a) entries (Some other)) (one found' found so is) two)

-- after the same entries, two runs ask for the same operation
pub same_op : {E : Type 0} (plan : Plan E) (xs : List Entry) (y z : Entry) (rest others : List Entry) (end other : Option E) → Runs plan (xs ++ y ∷ rest) end → Runs plan (xs ++ z ∷ others) other → y.op ≡ z.op
same_op (ends last) xs y z rest others end other run two = absurd (middle_not_nil xs y rest run.0)
same_op never xs y z rest others end other run two = absurd (middle_not_nil xs y rest run.0)
same_op (asks op next) [] y z rest others end other run two = cc (run.0, two.0)
same_op (asks op next) (e ∷ xs) y z rest others end other run two = same_op (next e) xs y z rest others end other run.1 two.1
same_op (finds Is one next) xs y z rest others end other (inl none) two = absurd (middle_not_nil xs y rest none.0)
same_op (finds Is one next) xs y z rest others end other (inr run) (inl none) = absurd (middle_not_nil xs z others none.0)
same_op (finds Is one next) xs y z rest others end other (inr (found, is, run)) (inr (found', so, two)) =
    same_op (next found) xs y z rest others end other run (subst (λ a. Runs (next a) (xs ++ z ∷ others) other) (one found' found so is) two)

-- a run goes on with the entry that its plan asks for, whatever follows
pub answered : {E : Type 0} (plan : Plan E) (e : Entry) → asked plan ≡ Some e.op → Runs plan (e ∷ []) None
answered (ends last) e is = absurd (cc (is))
answered never e is = absurd (cc (is))
answered (asks op next) e is = (cc (is), breaks_off (next e))
answered (finds Such one next) e is = absurd (cc (is))

-- ---- what a plan comes to

pub comes_front : {T E : Type 0} (plan : Plan T) (Gives : T → E → Type 0) (xs : List Entry) (y : Entry) (rest : List Entry) (end : Option E) → ComesTo plan Gives (xs ++ y ∷ rest) end → ComesTo plan Gives xs None
comes_front plan Gives xs y rest None run = front plan xs y rest None run
comes_front plan Gives xs y rest (Some end) (told, run, is) = front plan xs y rest (Some told) run

-- what one plan keeps of another, it comes to no other ends
pub comes_kept : {T E : Type 0} (one other : Plan T) (Gives : T → E → Type 0) → Keeps one other → (entries : List Entry) (end : Option E) → ComesTo one Gives entries end → ComesTo other Gives entries end
comes_kept one other Gives keeps entries None run = keeps entries None run
comes_kept one other Gives keeps entries (Some end) (told, run, is) = (told, keeps entries (Some told) run, is)

-- ---- the ends and the operations of plans

-- Each end to which the plan may come is such, by the entries that led to it, where each of these is as is given.
abbrev pub EndsAre : {E : Type 0} → (Entry → Type 0) → (List Entry → E → Type 0) → List Entry → Plan E → Type 0
EndsAre Given Is made (ends last) = Is made last
EndsAre Given Is made never = Unit {0}
EndsAre Given Is made (asks op next) = (e : Entry) → e.op ≡ op → Given e → EndsAre Given Is (made ++ e ∷ []) (next e)
EndsAre Given Is made (finds Such one next) = (found : _) → Such found → EndsAre Given Is made (next found)

-- the end of a run
pub end_is : {E : Type 0} (Given : Entry → Type 0) (Is : List Entry → E → Type 0) (plan : Plan E) (made entries : List Entry) (last : E) → EndsAre Given Is made plan → AllByRecursion Given entries → Runs plan entries (Some last) → Is (made ++ entries) last
end_is Given Is (ends end) made entries last all given (nil, inl none) = absurd (cc (none))
end_is Given Is (ends end) made entries last all given (nil, inr same) =
    subst (λ es. Is es last) (sym (append-nil made) ∙ ap (λ es. made ++ es) (sym nil)) (subst (Is made) (cc (same)) all)
end_is Given Is never made entries last all given run = absurd (cc (run.1))
end_is Given Is (asks op next) made [] last all given run = absurd (cc (run))
end_is Given Is (asks op next) made (e ∷ entries) last all given run =
    subst (λ es. Is es last) (append_assoc made (e ∷ []) entries) (end_is Given Is (next e) (made ++ e ∷ []) entries last (all e run.0 given.0) given.1 run.1)
end_is Given Is (finds Such one next) made entries last all given (inl none) = absurd (cc (none.1))
end_is Given Is (finds Such one next) made entries last all given (inr (found, is, run)) = end_is Given Is (next found) made entries last (all found is) given run

-- Each operation for which the plan may ask is such, after the entries that led to it.
abbrev pub AsksFor : {E : Type 0} → (List Entry → Op → Type 0) → List Entry → Plan E → Type 0
AsksFor Is made (ends last) = Unit {0}
AsksFor Is made never = Unit {0}
AsksFor Is made (asks op next) = Is made op × ((e : Entry) → e.op ≡ op → AsksFor Is (made ++ e ∷ []) (next e))
AsksFor Is made (finds Such one next) = (found : _) → Such found → AsksFor Is made (next found)

-- of each entry, after those before it
abbrev pub EachAfter : (List Entry → Op → Type 0) → List Entry → List Entry → Type 0
EachAfter Is made [] = Unit {0}
EachAfter Is made (e ∷ entries) = Is made e.op × EachAfter Is (made ++ e ∷ []) entries

-- the entries of a run
pub asked_are : {E : Type 0} (Is : List Entry → Op → Type 0) (plan : Plan E) (made entries : List Entry) (end : Option E) → AsksFor Is made plan → Runs plan entries end → EachAfter Is made entries
asked_are Is plan made [] end all run = tt
asked_are Is (ends last) made (e ∷ entries) end all run = absurd (cc (run.0))
asked_are Is never made (e ∷ entries) end all run = absurd (cc (run.0))
asked_are Is (asks op next) made (e ∷ entries) end all run =
    (subst (Is made) (sym run.0) all.0, asked_are Is (next e) (made ++ e ∷ []) entries end (all.1 e run.0) run.1)
asked_are Is (finds Such one next) made (e ∷ entries) end all (inl none) = absurd (cc (none.0))
asked_are Is (finds Such one next) made (e ∷ entries) end all (inr (found, is, run)) = asked_are Is (next found) made (e ∷ entries) end (all found is) run

-- what is known of operations alone
pub each_op : (Is : Op → Type 0) (made entries : List Entry) → EachAfter (λ before op. Is op) made entries → AllByRecursion (λ e. Is e.op) entries
each_op Is made [] all = tt
each_op Is made (e ∷ entries) all = (all.0, each_op Is (made ++ e ∷ []) entries all.1)

-- where nothing is given of the entries
pub nothing_given : (entries : List Entry) → AllByRecursion (λ e. Unit {0}) entries
nothing_given [] = tt
nothing_given (e ∷ entries) = (tt, nothing_given entries)
