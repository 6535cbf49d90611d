-- What holds of each entry of a list that is written out.
use Rattle.std.proofs.Common.{◌⊎◌, inl, inr, ℕ, Contains, List, [], ◌∷◌, ◌++◌, sym, subst, append-nil, append_assoc}
use Rattle.std.specs.List.{All}
use Rattle.std.proofs.lemmas.List.Elements.{All-weaker}
use Rattle.world_core.specs.Journals.{Each}
use Rattle.world_core.specs.declared.entry.Entry.{Entry}
use Rattle.world_core.proofs.Growing.{Each-none, Each-push}

-- it holds of each of these entries, where others stand before them
abbrev pub EachAfter : (List Entry → Entry → Type 0) → List Entry → List Entry → Type 0
EachAfter P before [] = Unit {0}
EachAfter P before (e ∷ entries) = P before e × EachAfter P (before ++ e ∷ []) entries

each_on : (P : List Entry → Entry → Type 0) (front entries : List Entry) → Each P front → EachAfter P front entries → Each P (front ++ entries)
each_on P front [] each on = subst (Each P) (sym (append-nil front)) each
each_on P front (e ∷ entries) each on =
    subst (Each P) (append_assoc front (e ∷ []) entries) (each_on P (front ++ e ∷ []) entries (Each-push P front e each on.0) on.1)

pub each_of : (P : List Entry → Entry → Type 0) (entries : List Entry) → EachAfter P [] entries → Each P entries
each_of P entries on = each_on P [] entries (Each-none P) on

pub each_after : (P : List Entry → Entry → Type 0) (before one other : List Entry) → EachAfter P before one → EachAfter P (before ++ one) other → EachAfter P before (one ++ other)
each_after P before [] other first rest = subst (λ es. EachAfter P es other) (append-nil before) rest
each_after P before (e ∷ one) other first rest =
    (first.0, each_after P (before ++ e ∷ []) one other first.1 (subst (λ es. EachAfter P es other) (sym (append_assoc before (e ∷ []) one)) rest))

-- entries that are all of workers' seats
pub by_workers_alone : (seats : List ℕ) (entries : List Entry) → All (λ (e : Entry). Contains seats e.seat) entries → All (λ (e : Entry). Contains seats e.seat ⊎ ⊥) entries
by_workers_alone seats entries all = All-weaker (λ (e : Entry). Contains seats e.seat) (λ (e : Entry). Contains seats e.seat ⊎ ⊥) (λ e sits. inl sits) entries all

pub workers_seats : (seats : List ℕ) (entries : List Entry) → All (λ (e : Entry). Contains seats e.seat ⊎ ⊥) entries → All (λ (e : Entry). Contains seats e.seat) entries
workers_seats seats entries all = All-weaker (λ (e : Entry). Contains seats e.seat ⊎ ⊥) (λ (e : Entry). Contains seats e.seat) (λ e sits. elim sits [ inl own ↦ own | inr none ↦ absurd none ]) entries all
