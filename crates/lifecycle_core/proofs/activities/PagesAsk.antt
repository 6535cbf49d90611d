-- What walks of pages and deletes ask for, where something is known of the entries before and stays so.
use Rattle.std.proofs.Common.{◌≡◌, ℕ, zero, suc, List, [], ◌∷◌, ◌++◌, length, refl}
use Rattle.std.specs.Prelude.{nat_le, nat_lt, unwrap_or}
use Rattle.base.specs.Order.{are_in_order_after, comes_after}
use Rattle.label_sets.specs.Labels.{compare_texts}
use Rattle.block_keys.specs.declared.key.Key.{Key}
use Rattle.world_core.specs.Limits.{most_listed}
use Rattle.world_core.specs.Plans.{Plan, after_delete, deletes, ends}
use Rattle.world_core.specs.Walks.{WalkEnds, after_page, last_listed, pages}
use Rattle.world_core.specs.declared.op.Op.{Op}
use Rattle.world_core.specs.declared.op.Op.TheVariants.{Delete}
use Rattle.world_core.specs.declared.reply.Reply.{Reply}
use Rattle.world_core.specs.declared.reply.Reply.TheVariants as reply
use Rattle.world_core.specs.declared.entry.Entry.{Entry}
use Rattle.world_core.proofs.PlanLaws.{AsksFor}
use Rattle.world_core.proofs.PlanWords.{chosen}

-- a delete, by its reply
pub deletes_ask : {E : Type 0} (Is : List Entry → Op → Type 0) (made : List Entry) (fault : ℕ → E) (k : Key) (deleted : Entry → Plan E) → Is made (Delete k)
    → ((e : Entry) → e.op ≡ Delete k → e.reply ≡ reply.Deleted → AsksFor Is (made ++ e ∷ []) (deleted e)) → AsksFor Is made (deletes fault k deleted)
deletes_ask {E} Is made fault k deleted this d = (this, λ e is. by e is e.reply refl)
  where
    by : (e : Entry) → e.op ≡ Delete k → (r : Reply) → e.reply ≡ r → AsksFor Is (made ++ e ∷ []) (after_delete r (deleted e) (ends (fault e.seq)))
    by e is reply.Deleted same = d e is same
    by e is (reply.Failed landed) same = tt
    by e is reply.Clocked same = tt
    by e is (reply.Found b) same = tt
    by e is reply.Absent same = tt
    by e is reply.Stored same = tt
    by e is (reply.Names names) same = tt

-- a walk, of whose entries J stays true
module _ {E : Type 0} (ways : WalkEnds E) (ask : List ℕ → Op) (limit : ℕ) (next : List (List ℕ) → Plan E) (Is : List Entry → Op → Type 0) (J : List Entry → Type 0)
    (more_made : (made : List Entry) (e : Entry) → J made → J (made ++ e ∷ [])) (asks : (made : List Entry) (cursor : List ℕ) → J made → Is made (ask cursor))
    (then : (made : List Entry) (names : List (List ℕ)) → J made → AsksFor Is made (next names)) where
  pub pages_ask_on : (more : ℕ) (made : List Entry) (listed : List (List ℕ)) → J made → AsksFor Is made (pages ways ask limit next more listed)
  pages_ask_on zero made listed j = tt
  pages_ask_on (suc more) made listed j = (asks made (unwrap_or (last_listed listed) []) j, λ e is. by (made ++ e ∷ []) (more_made made e j) e e.reply (λ names. pages_ask_on more (made ++ e ∷ []) names (more_made made e j)))
    where
      by : (made : List Entry) → J made → (e : Entry) (r : Reply) → ((names : List (List ℕ)) → AsksFor Is made (pages ways ask limit next more names)) → AsksFor Is made (after_page ways limit listed e.seq r next (pages ways ask limit next more))
      by made j e (reply.Names names) on =
          chosen (AsksFor Is made) (are_in_order_after (comes_after compare_texts) (last_listed listed) names) _ _
          (λ up. chosen (AsksFor Is made) (nat_lt (length names) limit) _ _ (λ short. then made (listed ++ names) j)
          (λ full. chosen (AsksFor Is made) (nat_le most_listed (length (listed ++ names))) _ _ (λ many. tt) (λ few. on (listed ++ names))))
          (λ down. tt)
      by made j e (reply.Failed landed) on = tt
      by made j e reply.Clocked on = tt
      by made j e reply.Stored on = tt
      by made j e (reply.Found bytes) on = tt
      by made j e reply.Absent on = tt
      by made j e reply.Deleted on = tt
