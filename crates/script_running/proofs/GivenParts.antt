-- What gateways gave to a query, one after another.
use Rattle.std.proofs.Common.{◌≡◌, ◌≢◌, ℕ, suc, ◌+◌, ◌<◌, get_or, take, drop, Bool, true, false, List, [], ◌∷◌, ◌++◌, length, map, Option, Some, None, refl, sym, ◌∙◌, ap, subst, arith, append-nil}
use Rattle.std.specs.Prelude.{Ok, Err, OnOk, Result, is_some, not}
use Rattle.std.proofs.lemmas.List.{map-append, map-id, take-append-drop}
use Rattle.base.proofs.Lists.{drop_place}
use Rattle.querier.specs.Gathered.{IsGathered}
use Rattle.querier.specs.declared.answer.Answer.{Answer}
use Rattle.querier.specs.declared.answer.Names.{Names}
use Rattle.script_workers.specs.Works.{asks_all}
use Rattle.script_workers.specs.declared.work.Work.{Work}
use Rattle.script_running.specs.Given.{HasGiven}
use Rattle.script_running.specs.Outcomes.{AreAllParts, IsOutcomeOf, IsQueryOutcome, IsWhole, Outcome, OutcomeBy, Part, PartsBy, answers_of, first_none, names_of, or_first, why_none}
use Rattle.script_running.specs.declared.outcome.NoAnswer.{NoAnswer}
use Rattle.script_running.specs.declared.came.Came.TheVariants as came_to
use Rattle.script_running.specs.declared.outcome.QueryOutcome.{QueryOutcome}
use Rattle.script_running.specs.declared.outcome.QueryOutcome.TheVariants as query
use Rattle.script_running.specs.declared.outcome.QueryPart.{QueryPart}
use Rattle.script_running.specs.declared.outcome.QueryPart.TheVariants as given
use Rattle.script_running.specs.declared.query_parts.Given.{Given}
use Rattle.script_running.proofs.Taking.{found}

-- ---- one part more

-- what one part adds
abbrev answer_in : QueryPart → List Answer
answer_in given.NotAsked = []
answer_in given.NoView = []
answer_in (given.Answer own first) = own ∷ []
answer_in (given.NoAnswer why first) = []

abbrev names_in : ℕ → QueryPart → List Names
names_in gateway given.NotAsked = []
names_in gateway given.NoView = []
names_in gateway (given.Answer own first) = record { gateway = gateway; sources = own.sources } ∷ []
names_in gateway (given.NoAnswer why first) = []

answers_more : (parts : List QueryPart) (one : QueryPart) → answers_of (parts ++ one ∷ []) ≡ answers_of parts ++ answer_in one
answers_more [] given.NotAsked = refl
answers_more [] given.NoView = refl
answers_more [] (given.Answer own first) = refl
answers_more [] (given.NoAnswer why first) = refl
answers_more (given.NotAsked ∷ parts) one = answers_more parts one
answers_more (given.NoView ∷ parts) one = answers_more parts one
answers_more (given.Answer own first ∷ parts) one = ap (λ (l : List Answer). own ∷ l) (answers_more parts one)
answers_more (given.NoAnswer why first ∷ parts) one = answers_more parts one

names_more : (gateway : ℕ) (parts : List QueryPart) (one : QueryPart) → names_of gateway (parts ++ one ∷ []) ≡ names_of gateway parts ++ names_in (gateway + length parts) one
names_more gateway [] given.NotAsked = refl
names_more gateway [] given.NoView = refl
names_more gateway [] (given.Answer own first) = let here : gateway ≡ gateway + 0 = omega arith in ap (λ (n : ℕ). record { gateway = n; sources = own.sources } ∷ []) here
names_more gateway [] (given.NoAnswer why first) = refl
names_more gateway (given.NotAsked ∷ parts) one =
    let there : gateway + 1 + length parts ≡ gateway + suc (length parts) = omega arith in
    names_more (gateway + 1) parts one ∙ ap (λ (n : ℕ). names_of (gateway + 1) parts ++ names_in n one) there
names_more gateway (given.NoView ∷ parts) one =
    let there : gateway + 1 + length parts ≡ gateway + suc (length parts) = omega arith in
    names_more (gateway + 1) parts one ∙ ap (λ (n : ℕ). names_of (gateway + 1) parts ++ names_in n one) there
names_more gateway (given.Answer own first ∷ parts) one =
    let there : gateway + 1 + length parts ≡ gateway + suc (length parts) = omega arith in
    ap (λ (l : List Names). record { gateway = gateway; sources = own.sources } ∷ l) (names_more (gateway + 1) parts one ∙ ap (λ (n : ℕ). names_of (gateway + 1) parts ++ names_in n one) there)
names_more gateway (given.NoAnswer why first ∷ parts) one =
    let there : gateway + 1 + length parts ≡ gateway + suc (length parts) = omega arith in
    names_more (gateway + 1) parts one ∙ ap (λ (n : ℕ). names_of (gateway + 1) parts ++ names_in n one) there

-- a first one, or else another
abbrev or_other : Option (ℕ × NoAnswer) → Option (ℕ × NoAnswer) → Option (ℕ × NoAnswer)
or_other (Some own) others = Some own
or_other None others = others

or_both : (why : Option NoAnswer) (gateway : ℕ) (own others : Option (ℕ × NoAnswer)) → or_first why gateway (or_other own others) ≡ or_other (or_first why gateway own) others
or_both (Some why) gateway own others = refl
or_both None gateway own others = refl

none_more : (gateway : ℕ) (parts : List QueryPart) (one : QueryPart) → first_none gateway (parts ++ one ∷ []) ≡ or_other (first_none gateway parts) (or_first (why_none one) (gateway + length parts) None)
none_more gateway [] one = let here : gateway ≡ gateway + 0 = omega arith in ap (λ (n : ℕ). or_first (why_none one) n None) here
none_more gateway (first ∷ parts) one =
    let there : gateway + 1 + length parts ≡ gateway + suc (length parts) = omega arith in
    ap (or_first (why_none first) gateway) (none_more (gateway + 1) parts one ∙ ap (λ (n : ℕ). or_other (first_none (gateway + 1) parts) (or_first (why_none one) n None)) there)
    ∙ or_both (why_none first) gateway (first_none (gateway + 1) parts) (or_first (why_none one) (gateway + suc (length parts)) None)

or_none : (own : Option (ℕ × NoAnswer)) → or_other own None ≡ own
or_none None = refl
or_none (Some own) = refl

-- a gateway that is not asked adds nothing
pub unasked_more : (parts : List QueryPart) (before : Given) → HasGiven parts before → HasGiven (parts ++ given.NotAsked ∷ []) before
unasked_more parts before h = record {
  answers = h.answers ∙ sym (append-nil (answers_of parts)) ∙ sym (answers_more parts given.NotAsked);
  names = h.names ∙ sym (append-nil (names_of 0 parts)) ∙ sym (names_more 0 parts given.NotAsked);
  none = h.none ∙ sym (or_none (first_none 0 parts)) ∙ sym (none_more 0 parts given.NotAsked);
}

-- an answer joins those before it
pub answer_more : (parts : List QueryPart) (before after : Given) (gateway : ℕ) (own : Answer) (first : ℕ) (sources : List ℕ) → length parts ≡ gateway → sources ≡ own.sources
    → after.answers ≡ before.answers ++ own ∷ [] → after.names ≡ before.names ++ record { gateway = gateway; sources = sources } ∷ [] → after.none ≡ before.none
    → HasGiven parts before → HasGiven (parts ++ given.Answer own first ∷ []) after
answer_more parts before after gateway own first sources count same answers names none h =
    let here : gateway ≡ 0 + length parts = omega (arith, count) in
    record {
      answers = answers ∙ ap (λ (l : List Answer). l ++ own ∷ []) h.answers ∙ sym (answers_more parts (given.Answer own first));
      names = names ∙ ap (λ (l : List Names). l ++ record { gateway = gateway; sources = sources } ∷ []) h.names
          ∙ ap (λ (l : List ℕ). names_of 0 parts ++ record { gateway = gateway; sources = l } ∷ []) same
          ∙ ap (λ (n : ℕ). names_of 0 parts ++ record { gateway = n; sources = own.sources } ∷ []) here ∙ sym (names_more 0 parts (given.Answer own first));
      none = none ∙ h.none ∙ sym (or_none (first_none 0 parts)) ∙ sym (none_more 0 parts (given.Answer own first));
    }

-- what gives no answer has none, and names nothing
none_in : (one : QueryPart) (why : NoAnswer) (gateway : ℕ) → why_none one ≡ Some why → (answer_in one ≡ []) × (names_in gateway one ≡ [])
none_in given.NotAsked why gateway is = absurd (cc (is))
none_in given.NoView why gateway is = (refl, refl)
none_in (given.Answer own first) why gateway is = absurd (cc (is))
none_in (given.NoAnswer also first) why gateway is = (refl, refl)

noted_by : (parts : List QueryPart) (one : QueryPart) (gateway : ℕ) (why : NoAnswer) (before after : Option (ℕ × NoAnswer)) → why_none one ≡ Some why → gateway ≡ 0 + length parts → before ≡ first_none 0 parts → (before ≡ None → after ≡ Some (gateway, why)) → ((own : ℕ × NoAnswer) → before ≡ Some own → after ≡ before)
    → after ≡ first_none 0 (parts ++ one ∷ [])
noted_by parts one gateway why None after gives here is first other =
    first refl ∙ ap (λ (n : ℕ). or_other None (Some (n, why))) here ∙ ap (λ (o : Option (ℕ × NoAnswer)). or_other o (Some (0 + length parts, why))) is
    ∙ ap (λ (w : Option NoAnswer). or_other (first_none 0 parts) (or_first w (0 + length parts) None)) (sym gives) ∙ sym (none_more 0 parts one)
noted_by parts one gateway why (Some own) after gives here is first other =
    other own refl ∙ ap (λ (o : Option (ℕ × NoAnswer)). or_other o (Some (0 + length parts, why))) is
    ∙ ap (λ (w : Option NoAnswer). or_other (first_none 0 parts) (or_first w (0 + length parts) None)) (sym gives) ∙ sym (none_more 0 parts one)

-- a gateway that gave no answer is noted, if it is the first
pub none_noted : (parts : List QueryPart) (one : QueryPart) (before after : Given) (gateway : ℕ) (why : NoAnswer) → why_none one ≡ Some why → length parts ≡ gateway → after.answers ≡ before.answers → after.names ≡ before.names
    → (before.none ≡ None → after.none ≡ Some (gateway, why)) → ((own : ℕ × NoAnswer) → before.none ≡ Some own → after.none ≡ before.none)
    → HasGiven parts before → HasGiven (parts ++ one ∷ []) after
none_noted parts one before after gateway why gives count answers names first other h =
    let none = none_in one why (0 + length parts) gives in
    record {
      answers = answers ∙ h.answers ∙ sym (append-nil (answers_of parts)) ∙ ap (λ (l : List Answer). answers_of parts ++ l) (sym none.0) ∙ sym (answers_more parts one);
      names = names ∙ h.names ∙ sym (append-nil (names_of 0 parts)) ∙ ap (λ (l : List Names). names_of 0 parts ++ l) (sym none.1) ∙ sym (names_more 0 parts one);
      none = noted_by parts one gateway why before.none after.none gives (omega (arith, count)) h.none first other;
    }

was_none : {X : Type 0} (o : Option X) (test : Bool) → is_some o ≡ not test → test ≡ true → o ≡ None
was_none None test shows so = refl
was_none (Some x) true shows so = absurd (cc (shows))
was_none (Some x) false shows so = absurd (cc (so))

was_some : {X : Type 0} (o : Option X) (test : Bool) → is_some o ≡ not test → test ≡ false → o ≢ None
was_some None true shows so = absurd (cc (so))
was_some None false shows so = absurd (cc (shows))
was_some (Some x) test shows so = λ is. absurd (cc (is))

-- as the test shows it
pub none_put : (parts : List QueryPart) (one : QueryPart) (before : Given) (gateway : ℕ) (why : NoAnswer) (test : Bool) → is_some before.none ≡ not test → test ≡ true → why_none one ≡ Some why → length parts ≡ gateway → HasGiven parts before
    → HasGiven (parts ++ one ∷ []) (record { answers = before.answers; names = before.names; none = Some (gateway, why) })
none_put parts one before gateway why test shows so gives count h =
    let none = was_none before.none test shows so in
    none_noted parts one before (record { answers = before.answers; names = before.names; none = Some (gateway, why) }) gateway why gives count refl refl (λ is. refl) (λ own is. absurd (cc (none, is))) h

pub none_kept : (parts : List QueryPart) (one : QueryPart) (before : Given) (gateway : ℕ) (why : NoAnswer) (test : Bool) → is_some before.none ≡ not test → test ≡ false → why_none one ≡ Some why → length parts ≡ gateway → HasGiven parts before
    → HasGiven (parts ++ one ∷ []) (record { answers = before.answers; names = before.names; none = before.none })
none_kept parts one before gateway why test shows so gives count h =
    none_noted parts one before (record { answers = before.answers; names = before.names; none = before.none }) gateway why gives count refl refl (λ is. absurd (was_some before.none test shows so is)) (λ own is. refl) h

-- what a gateway gave, as it was added
pub unasked_added : (parts : List QueryPart) (before : Given) (one : QueryPart) → one ≡ given.NotAsked → HasGiven parts before → HasGiven (parts ++ one ∷ []) before
unasked_added parts before one is h = subst (λ (p : QueryPart). HasGiven (parts ++ p ∷ []) before) (sym is) (unasked_more parts before h)

pub answer_added : {E : Type 0} (parts : List QueryPart) (before : Given) (answers : List Answer) (names : List Names) (gateway : ℕ) (own : Answer) (first : ℕ) (sources : List ℕ) (one : QueryPart) (r : Result (Unit {0}) E)
    → one ≡ given.Answer own first → sources ≡ own.sources → OnOk r (answers ≡ before.answers ++ own ∷ []) → names ≡ before.names ++ record { gateway = gateway; sources = sources } ∷ [] → length parts ≡ gateway → HasGiven parts before
    → OnOk r (HasGiven (parts ++ one ∷ []) (record { answers = answers; names = names; none = before.none }))
answer_added parts before answers names gateway own first sources one (Err e) is same took named count h = tt
answer_added parts before answers names gateway own first sources one (Ok tt) is same took named count h =
    subst (λ (p : QueryPart). HasGiven (parts ++ p ∷ []) (record { answers = answers; names = names; none = before.none })) (sym is)
    (answer_more parts before (record { answers = answers; names = names; none = before.none }) gateway own first sources count same took named refl h)

-- ---- the outcome

pub none_first : (parts : List QueryPart) (before : Given) (gateway : ℕ) (why : NoAnswer) → HasGiven parts before → before.none ≡ Some (gateway, why) → IsQueryOutcome parts (query.NoAnswer gateway why)
none_first parts before gateway why h is = sym h.none ∙ is

pub all_answered : (parts : List QueryPart) (before : Given) (own : Answer) → HasGiven parts before → before.none ≡ None → IsGathered before.answers own → IsQueryOutcome parts (query.Answer own before.names)
all_answered parts before own h none gathered = (sym h.none ∙ none, subst (λ (l : List Answer). IsGathered l own) h.answers gathered, h.names)

-- ---- a task's outcome, by the parts that came before one, and all of them

inner : (own : QueryPart) (other : QueryPart) → came_to.Query own ≡ came_to.Query other → own ≡ other
inner own other is = cc (is)

pub same_parts : (one other : List QueryPart) → map came_to.Query one ≡ map came_to.Query other → one ≡ other
same_parts [] [] is = refl
same_parts [] (q ∷ other) is = absurd (cc (is))
same_parts (p ∷ one) [] is = absurd (cc (is))
same_parts (p ∷ one) (q ∷ other) is =
    let first : came_to.Query p ≡ came_to.Query q = cc (is) in
    let rest : map came_to.Query one ≡ map came_to.Query other = cc (is) in
    ap (λ (x : QueryPart). x ∷ one) (inner p q first) ∙ ap (λ (l : List QueryPart). q ∷ l) (same_parts one other rest)

-- one gateway's part more
pub part_more : (own : List QueryPart) (yielded : List Part) (one : Part) (part : QueryPart) → yielded ≡ map came_to.Query own → one ≡ came_to.Query part → yielded ++ one ∷ [] ≡ map came_to.Query (own ++ part ∷ [])
part_more own yielded one part are is =
    ap (λ (l : List Part). l ++ one ∷ []) are ∙ ap (λ (p : Part). map came_to.Query own ++ p ∷ []) is ∙ sym (map-append came_to.Query own (part ∷ []))

-- all parts were those of gateways
no_whole : (own : List QueryPart) (parts : List Part) (one : Part) (o : Outcome) → parts ≡ map came_to.Query own → parts ≡ one ∷ [] → IsWhole one o → ⊥
no_whole [] parts one o are only whole = absurd (cc (are, only))
no_whole (q ∷ own) parts one o are only whole =
    let is : one ≡ came_to.Query q = cc (are, only) in subst (λ (p : Part). IsWhole p o) is whole

query_by : (own : List QueryPart) (end : QueryOutcome) (parts : List Part) → parts ≡ map came_to.Query own → IsQueryOutcome own end → (all : Bool) → PartsBy all parts → OutcomeBy all parts (came_to.Query end)
query_by own end parts are is true all = (own, end, are, is, refl)
query_by own end parts are is false (one, o, only, whole) = absurd (no_whole own parts one o are only whole)

pub query_whole : (own : List QueryPart) (end : QueryOutcome) (parts : List Part) → parts ≡ map came_to.Query own → IsQueryOutcome own end → (w : Work) → AreAllParts w parts → IsOutcomeOf w parts (came_to.Query end)
query_whole own end parts are is w all = query_by own end parts are is (asks_all w) all

-- the whole of a task is no gateway's part of a query
not_query : (one : Part) (o : Outcome) (q : QueryPart) → IsWhole one o → one ≢ came_to.Query q
not_query one o q whole = λ is. subst (λ (p : Part). IsWhole p o) is whole

not_all : (own others : List QueryPart) (one : Part) (o : Outcome) (rest : List Part) → IsWhole one o → map came_to.Query own ++ one ∷ rest ≡ map came_to.Query others → ⊥
not_all [] [] one o rest whole is = absurd (cc (is))
not_all [] (q ∷ others) one o rest whole is = not_query one o q whole (cc (is))
not_all (p ∷ own) [] one o rest whole is = absurd (cc (is))
not_all (p ∷ own) (q ∷ others) one o rest whole is = not_all own others one o rest whole (cc (is))

only_one : (own : List QueryPart) (one other : Part) (o : Outcome) (rest parts : List Part) → parts ≡ map came_to.Query own ++ one ∷ rest → parts ≡ other ∷ [] → IsWhole other o → one ≡ other
only_one [] one other o rest parts are only whole = cc (are, only)
only_one (p ∷ own) one other o rest parts are only whole = absurd (not_query other o p whole (cc (are, only)))

-- one of them was the whole of its task
first_by : (own : List QueryPart) (one : Part) (o : Outcome) (rest parts : List Part) → parts ≡ map came_to.Query own ++ one ∷ rest → IsWhole one o → (all : Bool) → PartsBy all parts → OutcomeBy all parts o
first_by own one o rest parts are whole false (other, p, only, also) =
    (other, only, subst (λ (x : Part). IsWhole x o) (only_one own one other p rest parts are only also) whole)
first_by own one o rest parts are whole true (others, all) = absurd (not_all own others one o rest whole (sym are ∙ all))

-- the part that comes next is the first of those that are left
parts_here : (parts yielded : List Part) (x : Part) → map (λ (y : Part). y) yielded ≡ take (length yielded) parts → (length yielded < length parts) × (x ≡ get_or parts (length yielded) x) → parts ≡ yielded ++ x ∷ drop (length yielded + 1) parts
parts_here parts yielded x so_far turn =
    let at = drop_place parts (length yielded) x (found parts (length yielded) (length yielded) x refl turn.0 turn.1) in
    sym (take-append-drop (length yielded) parts) ∙ ap (λ (l : List Part). l ++ drop (length yielded) parts) (sym so_far ∙ map-id yielded) ∙ ap (λ (l : List Part). yielded ++ l) at

pub whole_here : (own : List QueryPart) (o : Outcome) (parts yielded : List Part) (one : Part) → IsWhole one o → yielded ≡ map came_to.Query own → map (λ (y : Part). y) yielded ≡ take (length yielded) parts → (length yielded < length parts) × (one ≡ get_or parts (length yielded) one)
    → (w : Work) → AreAllParts w parts → IsOutcomeOf w parts o
whole_here own o parts yielded one whole are so_far turn = λ w all.
    first_by own one o (drop (length yielded + 1) parts) parts
    (parts_here parts yielded one so_far turn ∙ ap (λ (l : List Part). l ++ one ∷ drop (length yielded + 1) parts) are) whole (asks_all w) all
