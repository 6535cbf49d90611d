-- The words of plans: for what they ask, and to which ends they come, with replies told apart here alone.
use Rattle.std.proofs.Common.{◌≡◌, ℕ, zero, suc, Bool, true, false, List, [], ◌∷◌, ◌++◌, length, unwrap_or, refl, ap}
use Rattle.std.specs.Prelude.{nat_lt, nat_le}
use Rattle.base.specs.Order.{are_in_order_after, comes_after}
use Rattle.label_sets.specs.Labels.{compare_texts}
use Rattle.block_keys.specs.declared.key.Key.{Key}
use Rattle.world_core.proofs.PlanLaws.{AsksFor, EndsAre}
use Rattle.world_core.specs.Limits.{most_listed}
use Rattle.world_core.specs.Operations.{has_failed}
use Rattle.world_core.specs.Plans.{Plan, Runs, Keeps, ends, asks as asks_for, and_then, choose, after_get, gets, after_put, puts}
use Rattle.world_core.specs.Walks.{WalkEnds, after_page, last_listed, pages}
use Rattle.world_core.specs.declared.op.Op.{Op}
use Rattle.world_core.specs.declared.op.Op.TheVariants.{Put, Get}
use Rattle.world_core.specs.declared.reply.Reply.{Reply}
use Rattle.world_core.specs.declared.reply.Reply.TheVariants.{Clocked, Stored, Found, Absent, Deleted, Names, Failed}
use Rattle.world_core.specs.declared.entry.Entry.{Entry}

-- ---- what is asked for

module _ {E : Type 0} (Is : List Entry → Op → Type 0) (made : List Entry) (fault : ℕ → E) where
  pub gets_ask : (key : Key) (found : Entry → List ℕ → Plan E) (absent : Entry → Plan E) → Is made (Get key)
      → ((e : Entry) (bytes : List ℕ) → e.op ≡ Get key → e.reply ≡ Found bytes → AsksFor Is (made ++ e ∷ []) (found e bytes))
      → ((e : Entry) → e.op ≡ Get key → e.reply ≡ Absent → AsksFor Is (made ++ e ∷ []) (absent e))
      → AsksFor Is made (gets fault key found absent)
  gets_ask key found absent this f a = (this, λ e is. by e is e.reply refl)
    where
      by : (e : Entry) → e.op ≡ Get key → (r : Reply) → e.reply ≡ r → AsksFor Is (made ++ e ∷ []) (after_get r (found e) (absent e) (ends (fault e.seq)))
      by e is (Found bytes) same = f e bytes is same
      by e is Absent same = a e is same
      by e is (Failed landed) same = tt
      by e is Clocked same = tt
      by e is Stored same = tt
      by e is Deleted same = tt
      by e is (Names names) same = tt

  pub puts_ask : (key : Key) (bytes : List ℕ) (stored : Entry → Plan E) → Is made (Put key bytes)
      → ((e : Entry) → e.op ≡ Put key bytes → e.reply ≡ Stored → AsksFor Is (made ++ e ∷ []) (stored e))
      → AsksFor Is made (puts fault key bytes stored)
  puts_ask key bytes stored this s = (this, λ e is. by e is e.reply refl)
    where
      by : (e : Entry) → e.op ≡ Put key bytes → (r : Reply) → e.reply ≡ r → AsksFor Is (made ++ e ∷ []) (after_put r (stored e) (ends (fault e.seq)))
      by e is Stored same = s e is same
      by e is (Failed landed) same = tt
      by e is Clocked same = tt
      by e is (Found b) same = tt
      by e is Absent same = tt
      by e is Deleted same = tt
      by e is (Names names) same = tt

-- ---- the ends

module _ {E : Type 0} (Given : Entry → Type 0) (Is : List Entry → E → Type 0) (made : List Entry) (fault : ℕ → E) where
  pub gets_are : (key : Key) (found : Entry → List ℕ → Plan E) (absent : Entry → Plan E)
      → ((e : Entry) (bytes : List ℕ) → e.op ≡ Get key → Given e → e.reply ≡ Found bytes → EndsAre Given Is (made ++ e ∷ []) (found e bytes))
      → ((e : Entry) → e.op ≡ Get key → Given e → e.reply ≡ Absent → EndsAre Given Is (made ++ e ∷ []) (absent e))
      → ((e : Entry) → e.op ≡ Get key → Given e → has_failed e.reply ≡ true → Is (made ++ e ∷ []) (fault e.seq))
      → EndsAre Given Is made (gets fault key found absent)
  gets_are key found absent f a x = λ e is given. by e is given e.reply refl
    where
      by : (e : Entry) → e.op ≡ Get key → Given e → (r : Reply) → e.reply ≡ r → EndsAre Given Is (made ++ e ∷ []) (after_get r (found e) (absent e) (ends (fault e.seq)))
      by e is given (Found bytes) same = f e bytes is given same
      by e is given Absent same = a e is given same
      by e is given (Failed landed) same = x e is given (ap has_failed same)
      by e is given Clocked same = tt
      by e is given Stored same = tt
      by e is given Deleted same = tt
      by e is given (Names names) same = tt

  pub puts_are : (key : Key) (bytes : List ℕ) (stored : Entry → Plan E)
      → ((e : Entry) → e.op ≡ Put key bytes → Given e → e.reply ≡ Stored → EndsAre Given Is (made ++ e ∷ []) (stored e))
      → ((e : Entry) → e.op ≡ Put key bytes → Given e → has_failed e.reply ≡ true → Is (made ++ e ∷ []) (fault e.seq))
      → EndsAre Given Is made (puts fault key bytes stored)
  puts_are key bytes stored s x = λ e is given. by e is given e.reply refl
    where
      by : (e : Entry) → e.op ≡ Put key bytes → Given e → (r : Reply) → e.reply ≡ r → EndsAre Given Is (made ++ e ∷ []) (after_put r (stored e) (ends (fault e.seq)))
      by e is given Stored same = s e is given same
      by e is given (Failed landed) same = x e is given (ap has_failed same)
      by e is given Clocked same = tt
      by e is given (Found b) same = tt
      by e is given Absent same = tt
      by e is given Deleted same = tt
      by e is given (Names names) same = tt

-- ---- walks of pages

-- what the two that may be chosen have in common
pub chosen : {E : Type 0} (P : Plan E → Type 0) (test : Bool) (one other : Plan E) → (test ≡ true → P one) → (test ≡ false → P other) → P (choose test one other)
chosen P true one other is differs = is refl
chosen P false one other is differs = differs refl

module _ {E : Type 0} (ways : WalkEnds E) (ask : List ℕ → Op) (limit : ℕ) (next : List (List ℕ) → Plan E) where
  pub pages_ask : (Is : List Entry → Op → Type 0) → ((made : List Entry) (cursor : List ℕ) → Is made (ask cursor)) → ((made : List Entry) (names : List (List ℕ)) → AsksFor Is made (next names))
      → (more : ℕ) (made : List Entry) (listed : List (List ℕ)) → AsksFor Is made (pages ways ask limit next more listed)
  pages_ask Is asks then zero made listed = tt
  pages_ask Is asks then (suc more) made listed = (asks made _, λ e is. by (made ++ e ∷ []) e e.reply (λ names. pages_ask Is asks then more (made ++ e ∷ []) names))
    where
      by : (made : List Entry) (e : Entry) (r : Reply) → ((names : List (List ℕ)) → AsksFor Is made (pages ways ask limit next more names)) → AsksFor Is made (after_page ways limit listed e.seq r next (pages ways ask limit next more))
      by made e (Names names) on =
          chosen (AsksFor Is made) (are_in_order_after (comes_after compare_texts) (last_listed listed) names) _ _
          (λ up. chosen (AsksFor Is made) (nat_lt (length names) limit) _ _ (λ short. then made (listed ++ names))
          (λ full. chosen (AsksFor Is made) (nat_le most_listed (length (listed ++ names))) _ _ (λ many. tt) (λ few. on (listed ++ names))))
          (λ down. tt)
      by made e (Failed landed) on = tt
      by made e Clocked on = tt
      by made e Stored on = tt
      by made e (Found bytes) on = tt
      by made e Absent on = tt
      by made e Deleted on = tt

  -- `Listed` is what the pages that were read say of the names
  module _ (Given : Entry → Type 0) (Is : List Entry → E → Type 0) (Listed : List Entry → List (List ℕ) → Type 0)
      (goes : (made : List Entry) (listed names : List (List ℕ)) (e : Entry) → Listed made listed → e.op ≡ ask (unwrap_or (last_listed listed) []) → Given e → e.reply ≡ Names names → are_in_order_after (comes_after compare_texts) (last_listed listed) names ≡ true → Listed (made ++ e ∷ []) (listed ++ names))
      (comes : (made : List Entry) (listed names : List (List ℕ)) (e : Entry) → Listed made listed → e.op ≡ ask (unwrap_or (last_listed listed) []) → Given e → e.reply ≡ Names names → are_in_order_after (comes_after compare_texts) (last_listed listed) names ≡ true → nat_lt (length names) limit ≡ true → EndsAre Given Is (made ++ e ∷ []) (next (listed ++ names)))
      (fails : (made : List Entry) (e : Entry) → Given e → has_failed e.reply ≡ true → Is (made ++ e ∷ []) (ways.fault e.seq))
      (damages : (made : List Entry) (listed names : List (List ℕ)) (e : Entry) → Listed made listed → e.op ≡ ask (unwrap_or (last_listed listed) []) → Given e → e.reply ≡ Names names → are_in_order_after (comes_after compare_texts) (last_listed listed) names ≡ false → Is (made ++ e ∷ []) (ways.damaged e.seq))
      (fills : (made : List Entry) → Is made ways.too_many) where
    pub pages_are : (more : ℕ) (made : List Entry) (listed : List (List ℕ)) → Listed made listed → EndsAre Given Is made (pages ways ask limit next more listed)
    pages_are zero made listed own = tt
    pages_are (suc more) made listed own = λ e is given. by e is given e.reply refl (λ names. pages_are more (made ++ e ∷ []) names)
      where
        by : (e : Entry) → e.op ≡ ask (unwrap_or (last_listed listed) []) → Given e → (r : Reply) → e.reply ≡ r
            → ((names : List (List ℕ)) → Listed (made ++ e ∷ []) names → EndsAre Given Is (made ++ e ∷ []) (pages ways ask limit next more names))
            → EndsAre Given Is (made ++ e ∷ []) (after_page ways limit listed e.seq r next (pages ways ask limit next more))
        by e is given (Names names) same on =
            chosen (EndsAre Given Is (made ++ e ∷ [])) (are_in_order_after (comes_after compare_texts) (last_listed listed) names) _ _
            (λ up. chosen (EndsAre Given Is (made ++ e ∷ [])) (nat_lt (length names) limit) _ _ (λ short. comes made listed names e own is given same up short)
            (λ full. chosen (EndsAre Given Is (made ++ e ∷ [])) (nat_le most_listed (length (listed ++ names))) _ _ (λ many. fills (made ++ e ∷ []))
            (λ few. on (listed ++ names) (goes made listed names e own is given same up))))
            (λ down. damages made listed names e own is given same down)
        by e is given (Failed landed) same on = fails made e given (ap has_failed same)
        by e is given Clocked same on = tt
        by e is given Stored same on = tt
        by e is given (Found bytes) same on = tt
        by e is given Absent same on = tt
        by e is given Deleted same on = tt

-- ---- a plan, and then another, word by word

module _ {A E : Type 0} (fault : ℕ → A) (fault' : ℕ → E) (next : A → Plan E) (fails : (n : ℕ) → next (fault n) ≡ ends (fault' n)) where
  pub gets_then : (key : Key) (found : Entry → List ℕ → Plan A) (absent : Entry → Plan A) (found' : Entry → List ℕ → Plan E) (absent' : Entry → Plan E)
      → ((e : Entry) (bytes : List ℕ) → and_then (found e bytes) next ≡ found' e bytes) → ((e : Entry) → and_then (absent e) next ≡ absent' e)
      → and_then (gets fault key found absent) next ≡ gets fault' key found' absent'
  gets_then key found absent found' absent' f a = λ i. asks_for (Get key) (λ e. by e e.reply i)
    where
      by : (e : Entry) (r : Reply) → and_then (after_get r (found e) (absent e) (ends (fault e.seq))) next ≡ after_get r (found' e) (absent' e) (ends (fault' e.seq))
      by e (Found bytes) = f e bytes
      by e Absent = a e
      by e (Failed landed) = fails e.seq
      by e Clocked = refl
      by e Stored = refl
      by e Deleted = refl
      by e (Names names) = refl

  pub puts_then : (key : Key) (bytes : List ℕ) (stored : Entry → Plan A) (stored' : Entry → Plan E)
      → ((e : Entry) → and_then (stored e) next ≡ stored' e)
      → and_then (puts fault key bytes stored) next ≡ puts fault' key bytes stored'
  puts_then key bytes stored stored' s = λ i. asks_for (Put key bytes) (λ e. by e e.reply i)
    where
      by : (e : Entry) (r : Reply) → and_then (after_put r (stored e) (ends (fault e.seq))) next ≡ after_put r (stored' e) (ends (fault' e.seq))
      by e Stored = s e
      by e (Failed landed) = fails e.seq
      by e Clocked = refl
      by e (Found b) = refl
      by e Absent = refl
      by e Deleted = refl
      by e (Names names) = refl

-- ---- what a word keeps of what follows it

module _ {E : Type 0} (fault : ℕ → E) where
  pub gets_keeps : (key : Key) (found found' : Entry → List ℕ → Plan E) (absent absent' : Entry → Plan E)
      → ((e : Entry) (bytes : List ℕ) → Keeps (found e bytes) (found' e bytes)) → ((e : Entry) → Keeps (absent e) (absent' e))
      → Keeps (gets fault key found absent) (gets fault key found' absent')
  gets_keeps key found found' absent absent' f a [] end run = run
  gets_keeps key found found' absent absent' f a (e ∷ entries) end run = (run.0, by e.reply run.1)
    where
      by : (r : Reply) → Runs (after_get r (found e) (absent e) (ends (fault e.seq))) entries end → Runs (after_get r (found' e) (absent' e) (ends (fault e.seq))) entries end
      by (Found bytes) rest = f e bytes entries end rest
      by Absent rest = a e entries end rest
      by (Failed landed) rest = rest
      by Clocked rest = rest
      by Stored rest = rest
      by Deleted rest = rest
      by (Names names) rest = rest

  pub puts_keeps : (key : Key) (bytes : List ℕ) (stored stored' : Entry → Plan E) → ((e : Entry) → Keeps (stored e) (stored' e))
      → Keeps (puts fault key bytes stored) (puts fault key bytes stored')
  puts_keeps key bytes stored stored' s [] end run = run
  puts_keeps key bytes stored stored' s (e ∷ entries) end run = (run.0, by e.reply run.1)
    where
      by : (r : Reply) → Runs (after_put r (stored e) (ends (fault e.seq))) entries end → Runs (after_put r (stored' e) (ends (fault e.seq))) entries end
      by Stored rest = s e entries end rest
      by (Failed landed) rest = rest
      by Clocked rest = rest
      by (Found b) rest = rest
      by Absent rest = rest
      by Deleted rest = rest
      by (Names names) rest = rest
