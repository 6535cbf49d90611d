-- What an activity may do, as a plan: which operation it asks for, and how it goes on by the entry of that.
use Rattle.std.specs.Prelude.{◌≡◌, ◌⊎◌, ℕ, Bool, true, false, List, [], ◌∷◌, Option, Some, None}
use Rattle.block_keys.specs.declared.key.Key.{Key}
use Rattle.world_core.specs.declared.op.Op.{Op}
use Rattle.world_core.specs.declared.op.Op.TheVariants.{Put, Get, Delete}
use Rattle.world_core.specs.declared.reply.Reply.{Reply}
use Rattle.world_core.specs.declared.reply.Reply.TheVariants.{Stored, Found, Absent, Deleted, Failed}
use Rattle.world_core.specs.declared.entry.Entry.{Entry}

-- no two of them are such
abbrev pub IsAtMostOne : {A : Type 0} → (A → Type 0) → Type 0
IsAtMostOne {A} Is = (one other : A) → Is one → Is other → one ≡ other

-- What an activity may do from here on.
pub data Plan (E : Type 0) : Type 1 where
  -- it has come to this end
  ends : E → Plan E
  -- no reply of this kind comes: nothing follows
  never : Plan E
  -- it asks for an operation, and goes on by the entry of that
  asks : Op → (Entry → Plan E) → Plan E
  -- it goes on from the only one that is such, where no function finds it
  finds : {A : Type 0} (Is : A → Type 0) → IsAtMostOne Is → (A → Plan E) → Plan E

-- The entries are a run of the plan, which came to this end. A run without an end was broken off.
abbrev pub Runs : {E : Type 0} → Plan E → List Entry → Option E → Type 0
Runs (ends last) entries end = (entries ≡ []) × ((end ≡ None) ⊎ (end ≡ Some last))
Runs never entries end = (entries ≡ []) × (end ≡ None)
Runs (asks op next) [] end = end ≡ None
Runs (asks op next) (e ∷ entries) end = (e.op ≡ op) × Runs (next e) entries end
Runs (finds {A} Is one next) entries end =
    ((entries ≡ []) × (end ≡ None)) ⊎ ((found : A) × Is found × Runs (next found) entries end)

-- The entries are a run of the plan, and what it comes to gives this end.
abbrev pub ComesTo : {T E : Type 0} → Plan T → (T → E → Type 0) → List Entry → Option E → Type 0
ComesTo plan Gives entries None = Runs plan entries None
ComesTo {T} plan Gives entries (Some end) = (told : T) × Runs plan entries (Some told) × Gives told end

-- each run of the one is a run of the other
abbrev pub Keeps : {E : Type 0} → Plan E → Plan E → Type 0
Keeps {E} one other = (entries : List Entry) (end : Option E) → Runs one entries end → Runs other entries end

-- the operation that a plan asks for next, if it is known
abbrev pub asked : {E : Type 0} → Plan E → Option Op
asked (asks op next) = Some op
asked other = None

-- ---- the words that plans are made of

-- the one where a test holds, and else the other
abbrev pub choose : {E : Type 0} → Bool → Plan E → Plan E → Plan E
choose true one other = one
choose false one other = other

-- what follows a read, by its reply
abbrev pub after_get : {E : Type 0} → Reply → (List ℕ → Plan E) → Plan E → Plan E → Plan E
after_get (Found bytes) found absent failed = found bytes
after_get Absent found absent failed = absent
after_get (Failed landed) found absent failed = failed
after_get other found absent failed = never

-- the read of the object under a key; one that fails is the end
abbrev pub gets : {E : Type 0} → (ℕ → E) → Key → (Entry → List ℕ → Plan E) → (Entry → Plan E) → Plan E
gets fault key found absent = asks (Get key) (λ e. after_get e.reply (found e) (absent e) (ends (fault e.seq)))

-- what follows a put, by its reply
abbrev pub after_put : {E : Type 0} → Reply → Plan E → Plan E → Plan E
after_put Stored stored failed = stored
after_put (Failed landed) stored failed = failed
after_put other stored failed = never

-- the put of an object; one that fails is the end
abbrev pub puts : {E : Type 0} → (ℕ → E) → Key → List ℕ → (Entry → Plan E) → Plan E
puts fault key bytes stored = asks (Put key bytes) (λ e. after_put e.reply (stored e) (ends (fault e.seq)))

-- what follows a delete, by its reply
abbrev pub after_delete : {E : Type 0} → Reply → Plan E → Plan E → Plan E
after_delete Deleted deleted failed = deleted
after_delete (Failed landed) deleted failed = failed
after_delete other deleted failed = never

-- the delete of an object; one that fails is the end
abbrev pub deletes : {E : Type 0} → (ℕ → E) → Key → (Entry → Plan E) → Plan E
deletes fault key deleted = asks (Delete key) (λ e. after_delete e.reply (deleted e) (ends (fault e.seq)))

-- ---- plans of plans

-- one plan, and after its end another, which takes that end
abbrev pub and_then : {A E : Type 0} → Plan A → (A → Plan E) → Plan E
and_then (ends last) next = next last
and_then never next = never
and_then (asks op on) next = asks op (λ e. and_then (on e) next)
and_then (finds Is one on) next = finds Is one (λ found. and_then (on found) next)

-- a plan that takes note of each entry, and comes to its end with what was noted
abbrev pub noting : {S A : Type 0} → (S → Entry → S) → S → Plan A → Plan (A × S)
noting note noted (ends last) = ends (last, noted)
noting note noted never = never
noting note noted (asks op on) = asks op (λ e. noting note (note noted e) (on e))
noting note noted (finds Is one on) = finds Is one (λ found. noting note noted (on found))
