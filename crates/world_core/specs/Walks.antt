-- Walks of pages, which several machines use. A walk asks for page after page of names, each after the last name of the
-- pages before it, until a page has fewer names than its limit.
use Rattle.std.specs.Prelude.{ℕ, zero, suc, nat_lt, nat_le, List, [], ◌++◌, length, Option, None, unwrap_or}
use Rattle.std.specs.List.{last_or, filter_map}
use Rattle.std.specs.Result.{result_ok}
use Rattle.base.specs.Order.{are_in_order_after, comes_after}
use Rattle.ulid_core.specs.UlidText.{ulid_of}
use Rattle.label_sets.specs.Labels.{compare_texts}
use Rattle.world_core.specs.Limits.{most_listed}
use Rattle.world_core.specs.Plans.{Plan, ends, never, asks, choose}
use Rattle.world_core.specs.declared.op.Op.{Op}
use Rattle.world_core.specs.declared.reply.Reply.{Reply}
use Rattle.world_core.specs.declared.reply.Reply.TheVariants.{Names, Failed}

-- the last name of those that were listed
abbrev pub last_listed : List (List ℕ) → Option (List ℕ)
last_listed listed = last_or None listed

-- the ULIDs among names, in order; every other name is passed over
abbrev pub ulids_in : List (List ℕ) → List ℕ
ulids_in names = filter_map (λ name. result_ok (ulid_of name)) names

-- how a run ends during its walk, by the number of the page's entry
pub record WalkEnds (E : Type 0) : Type 0 where
  -- the call failed
  pub fault : ℕ → E
  -- a name is not greater than the one before it
  pub damaged : ℕ → E
  -- as many names were listed as may be, and the last page was not a short one
  pub too_many : E

-- What follows a page, by its reply: its names are tested first, then its length, and then how many names were listed.
-- `next` follows the last page of a walk, and `more` any other.
abbrev pub after_page : {E : Type 0} → WalkEnds E → ℕ → List (List ℕ) → ℕ → Reply → (List (List ℕ) → Plan E) → (List (List ℕ) → Plan E) → Plan E
after_page ways limit listed seq (Names names) next more =
    choose (are_in_order_after (comes_after compare_texts) (last_listed listed) names)
    (choose (nat_lt (length names) limit)
    (next (listed ++ names))
    (choose (nat_le most_listed (length (listed ++ names))) (ends ways.too_many) (more (listed ++ names))))
    (ends (ways.damaged seq))
after_page ways limit listed seq (Failed landed) next more = ends (ways.fault seq)
after_page ways limit listed seq other next more = never

-- At most so many pages after these names, up to the first short one, and then what follows all names. Each page that is
-- not short has a name at least, so a walk has no more pages than names may be listed.
abbrev pub pages : {E : Type 0} → WalkEnds E → (List ℕ → Op) → ℕ → (List (List ℕ) → Plan E) → ℕ → List (List ℕ) → Plan E
pages ways ask limit next zero listed = never
pages ways ask limit next (suc more) listed =
    asks (ask (unwrap_or (last_listed listed) []))
    (λ e. after_page ways limit listed e.seq e.reply next (pages ways ask limit next more))
