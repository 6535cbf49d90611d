-- Reading functions: from what is left to read, mostly a list of bytes, to a value and what is left after it, or to the
-- first refusal. A format crate writes one such function for each field, in `do` notation:
--
--     unfoldable pub name_at : List ℕ → Result (List ℕ × List ℕ) Refusal
--     name_at bytes = do
--       count ← number_at bytes
--       unless (nat_lt 0 count.0) NoName
--       text_at count.0 count.1
--
-- Each function of the code then has one clause, `Gives ..`, `Answers ..` or `Steps ..`, and straight-line code with `?`
-- proves it under `#[tactic(auto, unfolding(crate::specs::NAME::name_at))]` with no proof file.
use Rattle.std.specs.Prelude.{◌≡◌, Bool, true, false, Result, Ok, Err, ◌⊎◌, MatchResult}

infixl 10 ◌>>=◌
-- one step, and then what follows on its value; the first refusal is that of the whole
abbrev pub ◌>>=◌ : {A B E : Type 0} → Result A E → (A → Result B E) → Result B E
(Ok x) >>= f = f x
(Err e) >>= f = Err e

infixl 10 ◌>>◌
-- the same where the first step has no value of its own
abbrev pub ◌>>◌ : {A B E : Type 0} → Result A E → Result B E → Result B E
(Ok x) >> r = r
(Err e) >> r = Err e

-- goes on where the test holds
abbrev pub unless : {E : Type 0} → Bool → E → Result (Unit {0}) E
unless true e = Ok tt
unless false e = Err e

-- a refusal of a part, said in the words of the whole
abbrev pub refused_as : {A D E : Type 0} → (D → E) → Result A D → Result A E
refused_as f (Ok x) = Ok x
refused_as f (Err d) = Err (f d)

-- What a function of the code returned, seen by view, is what the reading function gives.
abbrev pub Answers : {X Y E : Type 0} → (X → Y) → Result X E → Result Y E → Type 0
Answers view result read = MatchResult result (λ x. read ≡ Ok (view x)) (λ e. read ≡ Err e)

-- The same of a function that takes memory, unless that runs out: it may answer no_memory whatever stands to be read.
abbrev pub Gives : {X Y E : Type 0} → E → (X → Y) → Result X E → Result Y E → Type 0
Gives no_memory view result read = MatchResult result (λ x. read ≡ Ok (view x)) (λ e. (e ≡ no_memory) ⊎ (read ≡ Err e))

-- The same of a method that moves a cursor from one state to another, which stays where it is on a refusal.
abbrev pub Steps : {X Y S E : Type 0} → (X → Y) → S → S → Result X E → Result (Y × S) E → Type 0
Steps view before after result read = MatchResult result (λ x. read ≡ Ok (view x, after)) (λ e. (read ≡ Err e) × (after ≡ before))
