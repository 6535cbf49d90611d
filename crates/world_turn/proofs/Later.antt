-- A call through the turn leaves its pass with no less than it knew.
use Rattle.std.proofs.Common.{◌≡◌, ◌↔◌, ◌||◌, ℕ, Bool, true, false, None, if◌then◌else◌, ne_eqb, ◌+◌, ◌-◌, ◌<◌, ◌≤◌, List, [], ◌∷◌, ◌++◌, length, slice_get, Some, refl, sym, ap, ◌∙◌, subst, arith, le_refl, append-nil, append_assoc}
use Rattle.base.proofs.Bools.{or_false}
use mathlib.Core.List.{IsPrefix}
use Rattle.world_core.specs.Journals.{entry_at}
use Rattle.world_core.specs.Keeping.{IsFull}
use Rattle.world_core.specs.Machines.{IfDone, gained, is_full, is_wanting}
use Rattle.world_core.specs.Moments.{moment_after, last_moment}
use Rattle.world_core.specs.Operations.{IsAnswer, entry_of}
use Rattle.world_core.specs.declared.op.Op.{Op}
use Rattle.world_core.specs.declared.entry.Entry.{Entry}
use Rattle.world_core.specs.declared.act.Acted.{Acted}
use Rattle.world_core.specs.declared.act.Acted.TheVariants.{Done, Full, NoMemory}
use Rattle.world_turn.specs.Seats.{Stand}
use Rattle.world_turn.specs.Steps.{holding}
use Rattle.world_turn.specs.Turns.{Finds, Acts, settled, front_after, known_after, IsSame, IsLater}
use Rattle.world_turn.specs.declared.view.View.{View}
use Rattle.world_turn.proofs.Fronts.{front_whole, front_more, front_get}

get_last : (xs : List Entry) (e : Entry) → slice_get (xs ++ e ∷ []) (length xs) ≡ Some e
get_last [] e = refl
get_last (x ∷ xs) e = get_last xs e

pub entry_there : (xs : List Entry) (number : ℕ) → 0 < number → entry_at xs number ≡ slice_get xs (number - 1)
entry_there xs number some = ap (λ (b : Bool). if b then None else slice_get xs (number - 1)) (ne_eqb number 0 (λ z. absurd (omega arith)))

-- an entry of a front has the same number in the whole
entry_more : (xs ys : List Entry) (number : ℕ) (e : Entry) → 0 < number → IsPrefix xs ys → entry_at xs number ≡ Some e → entry_at ys number ≡ Some e
entry_more xs ys number e some p h = entry_there ys number some ∙ front_get xs ys (number - 1) e p (sym (entry_there xs number some) ∙ h)

entry_last : (xs : List Entry) (number : ℕ) (e : Entry) → number ≡ length xs + 1 → entry_at (xs ++ e ∷ []) number ≡ Some e
entry_last xs number e is =
    entry_there (xs ++ e ∷ []) number (omega arith) ∙ (ap (slice_get (xs ++ e ∷ [])) (let n : number - 1 ≡ length xs = omega arith in n) ∙ get_last xs e)

pub stand_more : (low above : ℕ) (es xs ys : List Entry) → low ≤ above → Stand above es xs → IsPrefix xs ys → Stand low es ys
stand_more low above [] xs ys le s f = tt
stand_more low above (e ∷ es) xs ys le s f =
    let a = s.0.0 in
    ((omega arith, entry_more xs ys e.seq e (omega arith) f s.0.1), stand_more low above es xs ys le s.1 f)

pub stand_both : (above : ℕ) (es fs xs : List Entry) → Stand above es xs → Stand above fs xs → Stand above (es ++ fs) xs
stand_both above [] fs xs s t = t
stand_both above (e ∷ es) fs xs s t = (s.0, stand_both above es fs xs s.1 t)

or_true : (b : Bool) → true ≡ (b || true)
or_true true = refl
or_true false = refl

-- what a pass knows that held the turn at a journal, and whose operation was answered so
module _ (v : View) (journal : List Entry) (wanted : Bool) (op : Op) where
  own_then : (acted : Acted) → (settled (holding v journal wanted) op acted).own ≡ v.own ++ gained v.seat op acted
  own_then (Done seen) = refl
  own_then Full = sym (append-nil v.own)
  own_then NoMemory = sym (append-nil v.own)

  front_then : (acted : Acted) → (settled (holding v journal wanted) op acted).front ≡ front_after v journal op acted
  front_then (Done seen) = refl
  front_then Full = refl
  front_then NoMemory = refl

  known_then : (acted : Acted) → (settled (holding v journal wanted) op acted).known ≡ known_after v journal acted
  known_then (Done seen) = refl
  known_then Full = refl
  known_then NoMemory = refl

  refused_then : (acted : Acted) → (settled (holding v journal wanted) op acted).refused ≡ (v.refused || is_full acted)
  refused_then (Done seen) = sym (or_false v.refused)
  refused_then Full = or_true v.refused
  refused_then NoMemory = sym (or_false v.refused)

  wanted_then : (acted : Acted) → (settled (holding v journal wanted) op acted).wanted ≡ (v.wanted || is_wanting acted)
  wanted_then (Done seen) = sym (or_false v.wanted)
  wanted_then Full = sym (or_false v.wanted)
  wanted_then NoMemory = or_true v.wanted

  same_then : (acted : Acted) → IsSame v (settled (holding v journal wanted) op acted)
  same_then (Done seen) = record { seat = refl; tick = refl; seats = refl; joined = refl }
  same_then Full = record { seat = refl; tick = refl; seats = refl; joined = refl }
  same_then NoMemory = record { seat = refl; tick = refl; seats = refl; joined = refl }

  later_then : (acted : Acted) → Finds v journal → IfDone acted (λ seen. seen.seq ≡ length journal + 1) → IsLater v (settled (holding v journal wanted) op acted)
  later_then (Done seen) f is =
      let k = f.known in
      let e = entry_of v.seat op seen in
      record { known = omega arith; front = front_more v.front journal (journal ++ e ∷ []) f.front (e ∷ [], refl); made = (e ∷ [], refl, ((omega arith, entry_last journal e.seq e is), tt)) }
  later_then Full f is = record { known = f.known; front = f.front; made = ([], sym (append-nil v.own), tt) }
  later_then NoMemory f is = record { known = le_refl v.known; front = front_whole v.front; made = ([], sym (append-nil v.own), tt) }

  pub acts_then : (acted : Acted) (w : View) → Finds v journal → (acted ≡ Full) ↔ IsFull journal → IfDone acted (IsAnswer op) → IfDone acted (λ seen. seen.seq ≡ length journal + 1)
      → IfDone acted (λ seen. seen.moment.ms ≡ moment_after v.tick (last_moment journal) op) → w ≡ settled (holding v journal wanted) op acted → Acts v op acted w
  acts_then acted w finds full answer number moment is = record {
    journal = journal;
    finds = finds;
    full = full;
    answer = answer;
    number = number;
    moment = moment;
    own = ap (λ x. x.own) is ∙ own_then acted;
    front = ap (λ x. x.front) is ∙ front_then acted;
    known = ap (λ x. x.known) is ∙ known_then acted;
    refused = ap (λ x. x.refused) is ∙ refused_then acted;
    wanted = ap (λ x. x.wanted) is ∙ wanted_then acted;
    same = subst (IsSame v) (sym is) (same_then acted);
  }

  pub later_settled : (acted : Acted) (w : View) → Finds v journal → IfDone acted (λ seen. seen.seq ≡ length journal + 1) → w ≡ settled (holding v journal wanted) op acted → IsLater v w
  later_settled acted w finds number is = subst (IsLater v) (sym is) (later_then acted finds number)

pub later-none : (v : View) → IsLater v v
later-none v = record { known = le_refl v.known; front = front_whole v.front; made = ([], sym (append-nil v.own), tt) }

pub later-more : (first next last : View) → IsLater first next → IsLater next last → IsLater first last
later-more first next last one two = record {
  known = omega (arith, one.known, two.known);
  front = front_more first.front next.front last.front one.front two.front;
  made = (
    one.made.0 ++ two.made.0,
    two.made.1 ∙ (ap (λ l. l ++ two.made.0) one.made.1 ∙ append_assoc first.own one.made.0 two.made.0),
    stand_both first.known one.made.0 two.made.0 last.front
        (stand_more first.known first.known one.made.0 next.front last.front (le_refl first.known) one.made.2 two.front)
        (stand_more first.known next.known two.made.0 last.front last.front one.known two.made.2 (front_whole last.front)),
  );
}
