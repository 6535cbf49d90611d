-- Parts of a journal, in their order, and the stretches of a seat.
use Rattle.base.proofs.Membership.{of_filter}
use Rattle.std.proofs.Common.{◌≡◌, ℕ, suc, ◌<◌, ◌≤◌, ◌==◌, Bool, true, false, List, [], ◌∷◌, ◌++◌, Contains, Option, Some, None, refl, sym, ◌∙◌, ap, append_assoc}
use Rattle.std.specs.Prelude.{fold}
use Rattle.std.specs.List.{All, filter}
use Rattle.std.proofs.lemmas.List.Elements.{All-append, All-contains, All-contains_itself, All-filter, All-weaker, Contains-append_left, Contains-append_right, filter-append, filter_passes}
use Rattle.std.proofs.lemmas.Bool.{eqb-true}
use Rattle.world_core.specs.declared.entry.Entry.{Entry}
use Rattle.world_core.specs.Plans.{Runs, noting}
use Rattle.meta_fetcher.specs.Syncs.{Course, SyncRun, Synced, listing, with_entry}
use Rattle.meta_fetcher.specs.declared.rules.SyncRules.{SyncRules}
use Rattle.meta_fetcher.specs.declared.view.View.{View}
use Rattle.meta_fetcher.specs.declared.sync.SyncEnd.TheVariants as fetched
use Rattle.world_core.specs.Journals.{of_seat}
use Rattle.lifecycle_core.specs.Tasks.{last_number}
use Rattle.lifecycle_core.proofs.journals.Told.{IsPart, Rises}

-- ---- parts of a journal

-- the entry has a greater number, and no earlier moment
abbrev pub Follows : Entry → Entry → Type 0
Follows e x = (e.seq < x.seq) × (e.moment.ms ≤ x.moment.ms)

pub all_left : (P : Entry → Type 0) (xs ys : List Entry) → All P (xs ++ ys) → All P xs
all_left P xs ys all = All-weaker (Contains xs) P (λ x among. All-contains P (xs ++ ys) x all (Contains-append_left xs ys x among)) xs (All-contains_itself xs)

pub rises_left : (xs ys : List Entry) → Rises (xs ++ ys) → Rises xs
rises_left [] ys rises = tt
rises_left (x ∷ xs) ys rises = (all_left (Follows x) xs ys rises.0, rises_left xs ys rises.1)

pub rises_right : (xs ys : List Entry) → Rises (xs ++ ys) → Rises ys
rises_right [] ys rises = rises
rises_right (x ∷ xs) ys rises = rises_right xs ys rises.1

rises_first : (p : Entry → Bool) (e : Entry) (es : List Entry) (b : Bool) → p e ≡ b → All (Follows e) es → Rises (filter p es) → Rises (filter p (e ∷ es))
rises_first p e es true is all rises = rw is (All-filter p (Follows e) es all, rises)
rises_first p e es false is all rises = rw is rises

pub rises_filter : (p : Entry → Bool) (es : List Entry) → Rises es → Rises (filter p es)
rises_filter p [] rises = tt
rises_filter p (e ∷ es) rises = rises_first p e es (p e) refl rises.0 (rises_filter p es rises.1)

-- a journal is part of itself
pub part_whole : (journal : List Entry) → Rises journal → IsPart journal journal
part_whole journal rises = record { among = λ e own. own; rises = rises }

pub part_left : (journal xs ys : List Entry) → IsPart journal (xs ++ ys) → IsPart journal xs
part_left journal xs ys part = record { among = λ e own. part.among e (Contains-append_left xs ys e own); rises = rises_left xs ys part.rises }

pub part_right : (journal xs ys : List Entry) → IsPart journal (xs ++ ys) → IsPart journal ys
part_right journal xs ys part = record { among = λ e own. part.among e (Contains-append_right xs ys e own); rises = rises_right xs ys part.rises }

pub part_middle : (journal xs ys zs : List Entry) → IsPart journal (xs ++ (ys ++ zs)) → IsPart journal ys
part_middle journal xs ys zs part = part_left journal ys zs (part_right journal xs (ys ++ zs) part)

pub part_filter : (journal : List Entry) (p : Entry → Bool) (es : List Entry) → IsPart journal es → IsPart journal (filter p es)
part_filter journal p es part = record { among = λ e own. part.among e (of_filter p es e own); rises = rises_filter p es part.rises }

pub all_right : (P : Entry → Type 0) (xs ys : List Entry) → All P (xs ++ ys) → All P ys
all_right P xs ys all = All-weaker (Contains ys) P (λ x among. All-contains P (xs ++ ys) x all (Contains-append_right xs ys x among)) ys (All-contains_itself ys)

pub all_before : (p : Entry → Bool) (P : Entry → Type 0) (es beyond : List Entry) → All P (es ++ beyond) → All P (filter p es ++ beyond)
all_before p P es beyond all = All-append P (filter p es) beyond (All-filter p P es (all_left P es beyond all)) (all_right P es beyond all)

rises_on : (p : Entry → Bool) (e : Entry) (es beyond : List Entry) (b : Bool) → p e ≡ b → All (Follows e) (es ++ beyond) → Rises (filter p es ++ beyond) → Rises (filter p (e ∷ es) ++ beyond)
rises_on p e es beyond true is all rises = rw is (all_before p (Follows e) es beyond all, rises)
rises_on p e es beyond false is all rises = rw is rises

-- what passes a test rises before what follows
pub rises_before : (p : Entry → Bool) (es beyond : List Entry) → Rises (es ++ beyond) → Rises (filter p es ++ beyond)
rises_before p [] beyond rises = rises
rises_before p (e ∷ es) beyond rises = rises_on p e es beyond (p e) refl rises.0 (rises_before p es beyond rises.1)

-- ---- what comes after a sync

below : (n : ℕ) (es beyond : List Entry) → All (λ (x : Entry). n < x.seq) beyond → Rises (es ++ beyond) → All (λ (x : Entry). fold (λ last e. e.seq) n es < x.seq) beyond
below n [] beyond all rises = all
below n (e ∷ es) beyond all rises = below e.seq es beyond (All-weaker (Follows e) (λ (x : Entry). e.seq < x.seq) (λ x follows. follows.0) beyond (all_right (Follows e) es beyond rises.0)) rises.1

-- a sync without an entry gave no view
pub no_listing : (rules : SyncRules) (more : ℕ) (told : Synced × Option Course) → Runs (noting with_entry None (listing rules (suc more) [])) [] (Some told) → ⊥
no_listing rules more told run = cc (run)

pub after_last : (rules : SyncRules) (made beyond : List Entry) (view : View) → SyncRun rules made (Some (fetched.View view)) → Rises (made ++ beyond) → All (λ (x : Entry). last_number made < x.seq) beyond
after_last rules [] beyond view run rises = absurd (no_listing rules 999_999 run.0 run.1)
after_last rules (e ∷ made) beyond view run rises = below e.seq made beyond (All-weaker (Follows e) (λ (x : Entry). e.seq < x.seq) (λ x follows. follows.0) beyond (all_right (Follows e) made beyond rises.0)) rises.1

-- ---- stretches

pub regroup : (a b c d : List Entry) → (a ++ (b ++ c)) ++ d ≡ (a ++ b) ++ (c ++ d)
regroup a b c d = ap (λ (l : List Entry). l ++ d) (sym (append_assoc a b c)) ∙ append_assoc (a ++ b) c d

pub regroup_on : (a b c d : List Entry) → (a ++ (b ++ c)) ++ d ≡ ((a ++ b) ++ c) ++ d
regroup_on a b c d = ap (λ (l : List Entry). l ++ d) (sym (append_assoc a b c))

-- what a seat made of a stretch of the journal
pub lies_within : (journal : List Entry) (seat : ℕ) (front made back : List Entry) → journal ≡ front ++ (made ++ back) → of_seat seat journal ≡ (of_seat seat front ++ of_seat seat made) ++ of_seat seat back
lies_within journal seat front made back is =
    let p : Entry → Bool = λ x. x.seat == seat in
    ap (of_seat seat) is ∙ filter-append p front (made ++ back) ∙ ap (λ (l : List Entry). of_seat seat front ++ l) (filter-append p made back) ∙ sym (append_assoc (of_seat seat front) (of_seat seat made) (of_seat seat back))

-- the entries of a seat are made there
pub all_of_seat : (seat : ℕ) (es : List Entry) → All (λ (e : Entry). e.seat ≡ seat) (of_seat seat es)
all_of_seat seat es = All-weaker (λ (e : Entry). (e.seat == seat) ≡ true) (λ (e : Entry). e.seat ≡ seat) (λ e test. eqb-true e.seat seat test) (of_seat seat es) (filter_passes (λ (e : Entry). e.seat == seat) es)
