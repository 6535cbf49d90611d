-- A seat's syncs go on with its entries.
use Rattle.std.proofs.Common.{◌≡◌, ◌≢◌, inl, inr, ℕ, ◌≤◌, List, [], ◌∷◌, ◌++◌, Option, Some, None, refl, sym, ◌∙◌, ap, subst, append_assoc, append-nil}
use Rattle.std.specs.Prelude.{IfSome}
use Rattle.std.specs.List.{AllByRecursion}
use Rattle.world_core.specs.declared.entry.Entry.{Entry}
use Rattle.world_core.specs.declared.op.Op.TheVariants as op
use Rattle.world_core.proofs.PlanLaws.{comes_front}
use Rattle.meta_fetcher.specs.Syncs.{IsEnd, SyncRun, sync}
use Rattle.meta_fetcher.specs.declared.rules.SyncRules.{SyncRules}
use Rattle.meta_fetcher.specs.declared.sync.SyncEnd.{SyncEnd}
use Rattle.meta_fetcher.proofs.SyncLaws.{only_asks}
use Rattle.breach_finding.specs.Seats.{CanGoOn, IsIdle, IsOfSync, IsToldOf, IsUnderWay, IsWatched}
use Rattle.breach_finding.specs.Watching.{Begins, CameTo, IsAt, IsSyncOp, IsTurn, Went, WentOn, came_of}
use Rattle.breach_finding.specs.declared.watching.Came.{Came}
use Rattle.breach_finding.specs.declared.watching.Came.TheVariants.{GoesOn}
use Rattle.breach_finding.specs.declared.watching.Told.{Told}
use Rattle.breach_finding.specs.declared.watching.Turn.{Turn}
use Rattle.breach_finding.specs.declared.watching.UnderWay.{UnderWay}
use Rattle.lifecycle_core.proofs.views.Alone.{each_at, right_list}
use Rattle.lifecycle_core.proofs.views.OneOpening.{AllList, Is, one_opening, sync_begins}
use Rattle.breach_finding.proofs.Steps.{would_go_on}
use Rattle.breach_finding.proofs.SyncSteps.{ends_there, next_is_one}

-- ---- lists

pub no_parts : (a b : List Entry) → [] ≡ a ++ b → b ≡ []
no_parts [] b is = sym is
no_parts (x ∷ a) b is = cc (is)

-- a part that ends a list which ends with an entry ends with it
pub last_split : (a b own : List Entry) (e : Entry) → own ++ e ∷ [] ≡ a ++ b → b ≢ [] → (made : List Entry) × (b ≡ made ++ e ∷ []) × (own ≡ a ++ made)
last_split [] b own e is some = (own, sym is, refl)
last_split (x ∷ a) b [] e is some = let none : [] ≡ a ++ b = cc (is) in absurd (some (no_parts a b none))
last_split (x ∷ a) b (y ∷ own) e is some =
    let others = last_split a b own e (cc (is)) some in
    let first : y ≡ x = cc (is) in (others.0, others.1, cc (first, others.2))

last_of_all : (P : Entry → Type 0) (a : List Entry) (e : Entry) → AllByRecursion P (a ++ e ∷ []) → P e
last_of_all P [] e all = all.0
last_of_all P (x ∷ a) e all = last_of_all P a e all.1

told_by : (rules : SyncRules) (own : List Entry) (e : Entry) (begin : ℕ) (how : Came) (o : Option Told) → IfSome o (λ told. (told.begin ≡ begin) × (told.came ≡ how)) → o ≢ None → IsOfSync rules own e begin how → IsToldOf rules own e o
told_by rules own e begin how None is some of_sync = absurd (some refl)
told_by rules own e begin how (Some told) is some of_sync =
    subst (λ (c : Came). IsOfSync rules own e told.begin c) (sym is.1) (subst (λ (b : ℕ). IsOfSync rules own e b how) (sym is.0) of_sync)

module _ (rules : SyncRules) (low : 1 ≤ rules.page_limit) (own : List Entry) (e : Entry) where
  -- what goes on with the entry is what these have made
  abbrev IsSole : List Entry → Type 0
  IsSole sole = (begins made others : List Entry) (also : Option SyncEnd) → own ≡ begins ++ made → SyncRun rules (made ++ e ∷ others) also → made ≡ sole

  abbrev Starts : List Entry → ℕ → Type 0
  Starts sole begin = (first : Entry) × (others : List Entry) × (sole ++ e ∷ [] ≡ first ∷ others) × (first.moment.ms ≡ begin)

  abbrev Stepped : Turn → Type 0
  Stepped turn = IsWatched rules (own ++ e ∷ []) turn.under × IsToldOf rules own e turn.told

  module _ (front sole : List Entry) (parts : own ≡ front ++ sole) (is_sole : IsSole sole) (begin : ℕ) (starts : Starts sole begin) where
    whole : own ++ e ∷ [] ≡ front ++ starts.0 ∷ starts.1
    whole = ap (λ (l : List Entry). l ++ e ∷ []) parts ∙ append_assoc front sole (e ∷ []) ∙ ap (λ (l : List Entry). front ++ l) starts.2

    -- what may go on behind the entry is what these have made, with it
    goes_behind : (begins made : List Entry) → own ++ e ∷ [] ≡ begins ++ made → made ≢ [] → CanGoOn rules made → made ≡ sole ++ e ∷ []
    goes_behind begins made is some (x, more, also, run) =
        let cut = last_split begins made own e is some in
        let run' : SyncRun rules (cut.0 ++ e ∷ x ∷ more) also = subst (λ (es : List Entry). SyncRun rules es also) (ap (λ (l : List Entry). l ++ x ∷ more) cut.1 ∙ append_assoc cut.0 (e ∷ []) (x ∷ more)) run in
        cut.1 ∙ ap (λ (l : List Entry). l ++ e ∷ []) (is_sole begins cut.0 (x ∷ more) also cut.2 run')

    ends_with : (begins made : List Entry) (also : Option SyncEnd) → own ≡ begins ++ made → SyncRun rules (made ++ e ∷ []) also → made ++ e ∷ [] ≡ starts.0 ∷ starts.1
    ends_with begins made also is run = ap (λ (l : List Entry). l ++ e ∷ []) (is_sole begins made [] also is run) ∙ starts.2

    went_on : (turn : Turn) → WentOn rules sole e begin turn → Stepped turn
    went_on turn w =
        let at : IsAt rules (starts.0 ∷ starts.1) w.next.machine w.next.asks = subst (λ (es : List Entry). IsAt rules es w.next.machine w.next.asks) starts.2 w.at in
        let goes = would_go_on rules (starts.0 ∷ starts.1) w.next.machine w.next.asks at in
        let under : IsUnderWay rules (own ++ e ∷ []) w.next = record {
          front = front;
          first = starts.0;
          others = starts.1;
          parts = whole;
          begun = starts.3 ∙ sym w.begun;
          at = at;
          only = λ begins made is some can. goes_behind begins made is some can ∙ starts.2;
        } in
        let of_sync : IsOfSync rules own e begin GoesOn = record {
          front = front;
          first = starts.0;
          others = starts.1;
          parts = whole;
          begun = starts.3;
          end = None;
          run = comes_front (sync rules) (IsEnd rules) (starts.0 ∷ starts.1) goes.0 [] None goes.2;
          come = (refl, λ end run. ends_there rules (starts.0 ∷ starts.1) [] goes.0 end None run goes.2);
          only = ends_with;
        } in (
          subst (IsWatched rules (own ++ e ∷ [])) (sym w.under) under,
          told_by rules own e begin GoesOn turn.told w.told.0 w.told.1 of_sync,
        )

    came_there : (turn : Turn) → CameTo rules sole e begin turn → Stepped turn
    came_there turn w =
        let run : SyncRun rules (starts.0 ∷ starts.1) (Some w.end) = subst (λ (es : List Entry). SyncRun rules es (Some w.end)) starts.2 w.run in
        let idle : IsIdle rules (own ++ e ∷ []) = λ begins made is some can.
        (let same = goes_behind begins made is some can in
        ends_there rules (sole ++ e ∷ []) can.1 can.0 w.end can.2 w.run (subst (λ (es : List Entry). SyncRun rules (es ++ can.0 ∷ can.1) can.2) same can.3)) in
        let of_sync : IsOfSync rules own e begin (came_of w.end) = record {
          front = front;
          first = starts.0;
          others = starts.1;
          parts = whole;
          begun = starts.3;
          end = Some w.end;
          run = run;
          come = refl;
          only = ends_with;
        } in (
          subst (IsWatched rules (own ++ e ∷ [])) (sym w.under) idle,
          told_by rules own e begin (came_of w.end) turn.told w.told.0 w.told.1 of_sync,
        )

    went : (turn : Turn) → Went rules sole e begin turn → Stepped turn
    went turn (inl on) = went_on turn on
    went turn (inr there) = came_there turn there

  -- ---- where no sync is under way

  idle_sole : IsIdle rules own → IsSole []
  idle_sole idle begins [] others also is run = refl
  idle_sole idle begins (x ∷ made) others also is run = absurd (idle begins (x ∷ made) is (λ none. cc (none)) (e, others, also, run))

  not_begun : IsSole [] → e.op ≢ op.RootPage [] rules.page_limit → (begins made others : List Entry) (also : Option SyncEnd) → own ≡ begins ++ made → SyncRun rules (made ++ e ∷ others) also → ⊥
  not_begun sole other begins made others also is run =
      other (sync_begins rules e others also (subst (λ (es : List Entry). SyncRun rules (es ++ e ∷ others) also) (sole begins made others also is run) run))

  begun : (turn : Turn) → IsSole [] → Begins rules e turn → Stepped turn
  begun turn sole (inl (opens, goes)) = went own [] (sym (append-nil own)) sole e.moment.ms (e, [], refl, refl) turn goes
  begun turn sole (inr (other, under, told)) = (
    subst (IsWatched rules (own ++ e ∷ [])) (sym under) (λ begins made is some can.
        let cut = last_split begins made own e is some in
        not_begun sole other begins cut.0 (can.0 ∷ can.1) can.2 cut.2 (subst (λ (es : List Entry). SyncRun rules es can.2) (ap (λ (l : List Entry). l ++ can.0 ∷ can.1) cut.1 ∙ append_assoc cut.0 (e ∷ []) (can.0 ∷ can.1)) can.3)),
    subst (IsToldOf rules own e) (sym told) (λ begins made also is run. not_begun sole other begins made [] also is run),
  )

  -- ---- where one is

  module _ (w : UnderWay) (u : IsUnderWay rules own w) where
    goes : (x : Entry) × (x.op ≡ w.asks) × SyncRun rules ((u.first ∷ u.others) ++ x ∷ []) None
    goes = would_go_on rules (u.first ∷ u.others) w.machine w.asks u.at

    asks_so : IsSyncOp w.asks
    asks_so = subst IsSyncOp goes.1 (last_of_all (λ x. IsSyncOp x.op) (u.first ∷ u.others) goes.0 (only_asks IsSyncOp rules (λ cursor. tt) (λ ulid. tt) (λ ulid. tt) ((u.first ∷ u.others) ++ goes.0 ∷ []) None goes.2))

    under_sole : AllList own → w.asks ≡ e.op → IsSole (u.first ∷ u.others)
    under_sole named same begins [] others also is run =
        let opens : e.op ≡ op.RootPage [] rules.page_limit = sync_begins rules e others also run in
        let all : AllList (u.first ∷ u.others) = right_list u.front (u.first ∷ u.others) (subst AllList u.parts named) in
        absurd (each_at Is (u.first ∷ []) u.others [] goes.0 (one_opening rules low u.first (u.others ++ goes.0 ∷ []) None goes.2) all rules.page_limit (goes.1 ∙ same ∙ opens))
    under_sole named same begins (x ∷ made) others also is run = u.only begins (x ∷ made) is (λ none. cc (none)) (e, others, also, run)

    past_sole : (w.asks ≡ e.op → ⊥) → IsSole []
    past_sole other begins [] others also is run = refl
    past_sole other begins (x ∷ made) others also is run =
        let same = u.only begins (x ∷ made) is (λ none. cc (none)) (e, others, also, run) in
        let run' : SyncRun rules ((u.first ∷ u.others) ++ e ∷ others) also = subst (λ (es : List Entry). SyncRun rules (es ++ e ∷ others) also) same run in
        absurd (other (sym goes.1 ∙ next_is_one rules (u.first ∷ u.others) [] others goes.0 e None also goes.2 run'))

  -- what is watched stays so with one entry more, and what is told of that is so
  pub seat_step : AllList own → (under : Option UnderWay) (turn : Turn) → IsWatched rules own under → IsTurn rules under e turn → Stepped turn
  seat_step named None turn idle begins = begun turn (idle_sole idle) begins
  seat_step named (Some w) turn u (inl (same, on)) =
      went u.front (u.first ∷ u.others) u.parts (under_sole w u named same) w.begin (u.first, u.others ++ e ∷ [], refl, u.begun) turn (on (u.first ∷ u.others) u.at)
  seat_step named (Some w) turn u (inr (other, begins)) = begun turn (past_sole w u (other (asks_so w u))) begins
