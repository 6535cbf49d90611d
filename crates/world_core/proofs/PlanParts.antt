-- Plans of plans.
use Rattle.std.proofs.Common.{◌≡◌, inl, inr, List, [], ◌∷◌, ◌++◌, Option, Some, None, refl, sym, ap, subst, ◌∙◌, append_assoc}
use Rattle.std.specs.Prelude.{fold, option_map}
use Rattle.world_core.specs.Parts.{PartThen, after_entries}
use Rattle.world_core.specs.Plans.{Plan, ends, never, asks, finds, Runs, ComesTo, and_then, noting}
use Rattle.world_core.proofs.PlanLaws.{breaks_off}
use Rattle.world_core.specs.declared.entry.Entry.{Entry}

-- ---- notes

-- a run that takes notes is a run
pub noted_run : {S A : Type 0} (note : S → Entry → S) (noted : S) (plan : Plan A) (entries : List Entry) → Runs (noting note noted plan) entries None → Runs plan entries None
noted_run note noted (ends last) entries run = (run.0, inl refl)
noted_run note noted never entries run = (run.0, refl)
noted_run note noted (asks op on) [] run = refl
noted_run note noted (asks op on) (e ∷ entries) run = (run.0, noted_run note (note noted e) (on e) entries run.1)
noted_run note noted (finds Is one on) entries (inl none) = inl (none.0, refl)
noted_run note noted (finds Is one on) entries (inr (found, is, run)) = inr (found, is, noted_run note noted (on found) entries run)

-- which notes that comes to the same end, with what was noted of its entries
pub noted_end : {S A : Type 0} (note : S → Entry → S) (noted : S) (plan : Plan A) (entries : List Entry) (last : A) (told : S) → Runs (noting note noted plan) entries (Some (last, told)) → Runs plan entries (Some last) × (told ≡ fold note noted entries)
noted_end note noted (ends end) entries last told (nil, inl none) = absurd (cc (none))
noted_end {S} {A} note noted (ends end) entries last told (nil, inr is) =
    let notes' : Some told ≡ Some noted = ap (option_map (λ (p : A × S). p.1)) is in
    ((nil, inr (ap (option_map (λ (p : A × S). p.0)) is)), cc (notes') ∙ ap (fold note noted) (sym nil))
noted_end note noted never entries last told run = absurd (cc (run.1))
noted_end note noted (asks op on) [] last told run = absurd (cc (run))
noted_end note noted (asks op on) (e ∷ entries) last told run =
    let later = noted_end note (note noted e) (on e) entries last told run.1 in ((run.0, later.0), later.1)
noted_end note noted (finds Is one on) entries last told (inl none) = absurd (cc (none.1))
noted_end note noted (finds Is one on) entries last told (inr (found, is, run)) =
    let later = noted_end note noted (on found) entries last told run in (inr (found, is, later.0), later.1)

-- and each run may take notes
pub notes : {S A : Type 0} (note : S → Entry → S) (noted : S) (plan : Plan A) (entries : List Entry) → Runs plan entries None → Runs (noting note noted plan) entries None
notes note noted (ends last) entries run = (run.0, inl refl)
notes note noted never entries run = (run.0, refl)
notes note noted (asks op on) [] run = refl
notes note noted (asks op on) (e ∷ entries) run = (run.0, notes note (note noted e) (on e) entries run.1)
notes note noted (finds Is one on) entries (inl none) = inl (none.0, refl)
notes note noted (finds Is one on) entries (inr (found, is, run)) = inr (found, is, notes note noted (on found) entries run)

-- ---- one plan, and then another

-- how a run of both falls apart
pub data Parts {A E : Type 0} (first : Plan A) (next : A → Plan E) (entries : List Entry) (end : Option E) : Type 0 where
  broken : Runs first entries None → end ≡ None → Parts first next entries end
  both : (own others : List Entry) (last : A) → entries ≡ own ++ others → Runs first own (Some last) → Runs (next last) others end → Parts first next entries end

pub parts : {A E : Type 0} (first : Plan A) (next : A → Plan E) (entries : List Entry) (end : Option E) → Runs (and_then first next) entries end → Parts first next entries end
parts (ends last) next entries end run = both [] entries last refl (refl, inr refl) run
parts never next entries end run = broken (run.0, refl) run.1
parts (asks op on) next [] end run = broken refl run
parts {A} {E} (asks op on) next (e ∷ entries) end run = grown (parts (on e) next entries end run.1)
  where
    grown : Parts (on e) next entries end → Parts (asks op on) next (e ∷ entries) end
    grown (broken one none) = broken (run.0, one) none
    grown (both own others last is one other) = both (e ∷ own) others last (ap (λ es. e ∷ es) is) (run.0, one) other
parts {A} {E} (finds Is one on) next entries end (inl none) = broken (inl (none.0, refl)) none.1
parts {A} {E} (finds Is one on) next entries end (inr (found, is, run)) = grown (parts (on found) next entries end run)
  where
    grown : Parts (on found) next entries end → Parts (finds Is one on) next entries end
    grown (broken first none) = broken (inr (found, is, first)) none
    grown (both own others last same first other) = both own others last same (inr (found, is, first)) other

-- the parts joined
pub joined : {A E : Type 0} (first : Plan A) (next : A → Plan E) (own others : List Entry) (last : A) (end : Option E) → Runs first own (Some last) → Runs (next last) others end → Runs (and_then first next) (own ++ others) end
joined (ends end') next own others last end (nil, inl none) run = absurd (cc (none))
joined (ends end') next own others last end (nil, inr is) run =
    let same : last ≡ end' = cc (is) in
    subst (λ es. Runs (next end') (es ++ others) end) (sym nil) (subst (λ x. Runs (next x) others end) same run)
joined never next own others last end one run = absurd (cc (one.1))
joined (asks op on) next [] others last end one run = absurd (cc (one))
joined (asks op on) next (e ∷ own) others last end one run = (one.0, joined (on e) next own others last end one.1 run)
joined (finds Is once on) next own others last end (inl none) run = absurd (cc (none.1))
joined (finds Is once on) next own others last end (inr (found, is, one)) run = inr (found, is, joined (on found) next own others last end one run)

-- ---- a machine as a part of another

module _ {M A E : Type 0} (may : M → List Entry → Option A → M → Type 0) where
  -- the part goes on
  pub goes_on : (old new : M) (next : List Entry → A → Plan E) (made entries : List Entry) (end : Option E)
      → ((own : List Entry) (came : Option A) (last : M) → may new own came last → may old (made ++ own) came last)
      → PartThen may new (after_entries made next) entries end → PartThen may old next (made ++ entries) end
  goes_on old new next made entries end onward (inl (off, none)) = inl ((off.0, onward entries None off.0 off.1), none)
  goes_on old new next made entries end onward (inr hands) = inr (record {
    own = made ++ hands.own;
    others = hands.others;
    are = ap (λ es. made ++ es) hands.are ∙ sym (append_assoc made hands.own hands.others);
    came = hands.came;
    last = hands.last;
    first = onward hands.own (Some hands.came) hands.last hands.first;
    rest = hands.rest;
  })

  -- the part has come to its end, and what follows goes on
  pub hands_on : (old last : M) (next : List Entry → A → Plan E) (made entries : List Entry) (came : A) (end : Option E)
      → may old made (Some came) last → Runs (next made came) entries end → PartThen may old next (made ++ entries) end
  hands_on old last next made entries came end first rest = inr (record {
    own = made;
    others = entries;
    are = refl;
    came = came;
    last = last;
    first = first;
    rest = rest;
  })

  -- the part is broken off
  pub breaks : (old last : M) (next : List Entry → A → Plan E) (made : List Entry) → may old made None last → PartThen may old next made None
  breaks old last next made run = inl ((last, run), refl)

-- a plan that was broken off is one that goes on, broken off
pub begun : {A E : Type 0} (first : Plan A) (next : A → Plan E) (entries : List Entry) → Runs first entries None → Runs (and_then first next) entries None
begun (ends last) next entries run = subst (λ es. Runs (next last) es None) (sym run.0) (breaks_off (next last))
begun never next entries run = (run.0, refl)
begun (asks op on) next [] run = refl
begun (asks op on) next (e ∷ entries) run = (run.0, begun (on e) next entries run.1)
begun (finds Is one on) next entries (inl none) = inl (none.0, refl)
begun (finds Is one on) next entries (inr (found, is, run)) = inr (found, is, begun (on found) next entries run)

-- what the whole comes to, where a part came to its end and what follows comes to that
pub followed : {A T E : Type 0} (first : Plan A) (next : A → Plan T) (Gives : T → E → Type 0) (own others : List Entry) (last : A) (end : Option E)
    → Runs first own (Some last) → ComesTo (next last) Gives others end → ComesTo (and_then first next) Gives (own ++ others) end
followed first next Gives own others last None one run = joined first next own others last None one run
followed first next Gives own others last (Some end) one (told, run, is) = (told, joined first next own others last (Some told) one run, is)
