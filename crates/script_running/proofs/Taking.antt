-- Workers that are taken in one after another.
use Rattle.std.proofs.Common.{◌≡◌, ◌≢◌, ◌⊎◌, inl, inr, ℕ, zero, suc, ◌+◌, ◌<◌, ◌≤◌, Bool, true, false, List, [], ◌∷◌, ◌++◌, length, drop, map, get_or, Contains, Option, None, Some, refl, sym, ◌∙◌, ap, subst, arith, append_assoc, append-nil}
use Rattle.std.specs.Prelude.{◌==◌, Ok, Err, Result, if◌then◌else◌, slice_get}
use Rattle.std.specs.List.{All, zip}
use Rattle.std.proofs.Math.ListN.{set}
use Rattle.std.proofs.lemmas.Bool.Decides.{nat_tests}
use Rattle.std.proofs.lemmas.List.Elements.{All-nil, All-push, All-weaker, Contains-append_left, Contains-push}
use Rattle.std.proofs.lemmas.List.{drop_all}
use Rattle.std.proofs.lemmas.Option.{slice_get-get_or}
use Rattle.base.proofs.Bools.{by_bool}
use Rattle.base.proofs.Lists.{drop_none, drop_place, flat_map-push, map-push, slice_get-set_other}
use Rattle.base.proofs.Membership.{All-place}
use Rattle.script_workers.specs.declared.worker.Worker.{Worker}
use Rattle.script_running.specs.declared.gathering.CameBack.{CameBack}
use Rattle.script_running.specs.declared.gathering.TaskParts.{TaskParts}
use Rattle.script_running.specs.Outcomes.{Part}
use Rattle.script_running.specs.declared.sight.Sight.{Sight}
use Rattle.script_running.specs.declared.worker.WorkerEnd.{WorkerEnd}
use Rattle.script_running.specs.declared.came.Broken.{Broken}
use Rattle.script_running.specs.declared.came.Broken.TheVariants as broken
use Rattle.script_running.specs.Gathering.{AreTakenIn, HaveCome, IsSeen, IsWorse, back_of, in_them, own_parts, paired_with, parts_at, parts_of}

-- ---- members at places

pub set_here : {X : Type 0} (xs : List X) (i : ℕ) (y : X) → i < length xs → slice_get (set xs i y) i ≡ Some y
set_here [] i y less = absurd (omega (arith, less))
set_here (x ∷ xs) zero y less = refl
set_here (x ∷ xs) (suc i) y less = set_here xs i y (omega (arith, less))

-- the member that an iterator gives
pub found : {X : Type 0} (xs : List X) (n k : ℕ) (x : X) → k ≡ n → n < length xs → x ≡ get_or xs n x → slice_get xs k ≡ Some x
found {X} xs n k x same less is = ap (slice_get xs) same ∙ slice_get-get_or xs n x less ∙ ap (λ (y : X). Some y) (sym is)

-- ---- what broke them off

-- none of them met the full journal, where something else is told of them
pub not_full : (ends : List WorkerEnd) (came : Result (Unit {0}) Broken) → came ≢ Err broken.Full → HaveCome ends came → All (λ (x : WorkerEnd). x.came ≢ Err broken.Full) ends
not_full ends (Ok tt) other have = All-weaker (λ (x : WorkerEnd). x.came ≡ Ok tt) (λ (x : WorkerEnd). x.came ≢ Err broken.Full) (λ x is so. cc (is, so)) ends have
not_full ends (Err broken.NoMemory) other have = have
not_full ends (Err broken.Full) other have = absurd (other refl)

-- one worker more
pub come_more : (ends : List WorkerEnd) (e : WorkerEnd) (one both : Result (Unit {0}) Broken) → IsWorse one e.came both → HaveCome ends one → HaveCome (ends ++ e ∷ []) both
come_more ends e one (Ok tt) worse have =
    let w = worse.none refl in All-push (λ (x : WorkerEnd). x.came ≡ Ok tt) ends e (subst (HaveCome ends) w.0 have) w.1
come_more ends e one (Err broken.NoMemory) worse have =
    All-push (λ (x : WorkerEnd). x.came ≢ Err broken.Full) ends e (not_full ends one (λ is. let so = worse.first is in cc (so)) have) (λ is. let so = worse.second is in cc (so))
come_more ends e one (Err broken.Full) worse have = elim (worse.full refl) [
  | inl before ↦ let h = subst (HaveCome ends) before have in (h.0, Contains-append_left ends (e ∷ []) h.0 h.1, h.2)
  | inr here ↦ (e, Contains-push ends e, here)
]

-- ---- beside each other

pub zip_start : (workers : List Worker) (ends : List WorkerEnd) → zip (drop 0 workers) (drop 0 ends) ≡ zip workers ends
zip_start workers ends = ap (λ (l : List Worker). zip l (drop 0 ends)) (drop_none workers) ∙ ap (λ (l : List WorkerEnd). zip workers l) (drop_none ends)

pub zip_more : (workers : List Worker) (ends : List WorkerEnd) (number : ℕ) (backs now : List CameBack) (back : CameBack) → slice_get workers number ≡ Some back.worker.now → slice_get ends number ≡ Some back.end → now ≡ backs ++ back ∷ []
    → map back_of backs ++ zip (drop number workers) (drop number ends) ≡ zip workers ends → map back_of now ++ zip (drop (number + 1) workers) (drop (number + 1) ends) ≡ zip workers ends
zip_more workers ends number backs now back at is pushed so_far =
    ap (λ (l : List CameBack). map back_of l ++ zip (drop (number + 1) workers) (drop (number + 1) ends)) pushed
    ∙ ap (λ (l : List (Worker × WorkerEnd)). l ++ zip (drop (number + 1) workers) (drop (number + 1) ends)) (map-push back_of backs back)
    ∙ append_assoc (map back_of backs) (back_of back ∷ []) (zip (drop (number + 1) workers) (drop (number + 1) ends))
    ∙ ap (λ (l : List WorkerEnd). map back_of backs ++ zip (back.worker.now ∷ drop (number + 1) workers) l) (sym (drop_place ends number back.end is))
    ∙ ap (λ (l : List Worker). map back_of backs ++ zip l (drop number ends)) (sym (drop_place workers number back.worker.now at)) ∙ so_far

pub zip_end : (workers : List Worker) (ends : List WorkerEnd) (number : ℕ) (backs : List CameBack) → length workers ≤ number → map back_of backs ++ zip (drop number workers) (drop number ends) ≡ zip workers ends → map back_of backs ≡ zip workers ends
zip_end workers ends number backs past so_far =
    sym (append-nil (map back_of backs)) ∙ ap (λ (l : List Worker). map back_of backs ++ zip l (drop number ends)) (sym (drop_all number workers past)) ∙ so_far

-- ---- parts of one worker

none_paired : (place : ℕ) (places : List ℕ) → paired_with place (zip places []) ≡ []
none_paired place [] = refl
none_paired place (p ∷ places) = refl

-- one pair more, by whether it has this place
pair_first : (place p : ℕ) (x : Part) (pairs : List (ℕ × Part)) (front more : List Part) → (p ≡ place → more ≡ front ++ x ∷ []) → (p ≢ place → more ≡ front) → more ++ paired_with place pairs ≡ front ++ paired_with place ((p, x) ∷ pairs)
pair_first place p x pairs front more here there = by_bool (p == place)
    (λ yes. let same : p ≡ place = grind (arith, nat_tests, yes) in
    ap (λ (l : List Part). l ++ paired_with place pairs) (here same) ∙ append_assoc front (x ∷ []) (paired_with place pairs)
    ∙ ap (λ (b : Bool). front ++ (if b then x ∷ paired_with place pairs else paired_with place pairs)) (sym yes))
    (λ no. let apart : p ≢ place = λ same. absurd (let twice : (p == place) ≡ true = grind (arith, nat_tests, same) in cc (twice, no)) in
    ap (λ (l : List Part). l ++ paired_with place pairs) (there apart)
    ∙ ap (λ (b : Bool). front ++ (if b then x ∷ paired_with place pairs else paired_with place pairs)) (sym no))

-- a part was added at a place
pub laid_one : (lists now : List TaskParts) (p : ℕ) (own more : TaskParts) (x : Part) → slice_get lists p ≡ Some own → p < length lists → now ≡ set lists p more → more.parts.items ≡ own.parts.items ++ x ∷ []
    → (place : ℕ) (pairs : List (ℕ × Part)) → parts_at now place ++ paired_with place pairs ≡ parts_at lists place ++ paired_with place ((p, x) ∷ pairs)
laid_one lists now p own more x at within is pushed place pairs = pair_first place p x pairs (parts_at lists place) (parts_at now place)
    (λ same.
    ap (λ (l : List TaskParts). parts_at l place) is ∙ ap (λ (n : ℕ). parts_at (set lists p more) n) (sym same) ∙ ap in_them (set_here lists p more within) ∙ pushed
    ∙ ap (λ (o : Option TaskParts). in_them o ++ x ∷ []) (sym at) ∙ ap (λ (n : ℕ). parts_at lists n ++ x ∷ []) same)
    (λ apart. ap (λ (l : List TaskParts). parts_at l place) is ∙ ap in_them (slice_get-set_other lists p place more (λ same. apart (sym same))))

-- parts that are laid, and those that are left
abbrev pub IsOnWay : List ℕ → List Part → ℕ → List TaskParts → List TaskParts → Type 0
IsOnWay places parts number old now =
    (place : ℕ) → parts_at now place ++ paired_with place (zip (drop number places) (drop number parts)) ≡ parts_at old place ++ paired_with place (zip places parts)

pub lay_start : (places : List ℕ) (parts : List Part) (lists : List TaskParts) → IsOnWay places parts 0 lists lists
lay_start places parts lists place = ap (λ (l : List ℕ). parts_at lists place ++ paired_with place (zip l (drop 0 parts))) (drop_none places) ∙ ap (λ (l : List Part). parts_at lists place ++ paired_with place (zip places l)) (drop_none parts)

pub lay_step : (places : List ℕ) (parts : List Part) (number : ℕ) (old lists now : List TaskParts) (p : ℕ) (own more : TaskParts) (x : Part) → slice_get places number ≡ Some p → slice_get parts number ≡ Some x
    → slice_get lists p ≡ Some own → p < length lists → now ≡ set lists p more → more.parts.items ≡ own.parts.items ++ x ∷ [] → IsOnWay places parts number old lists → IsOnWay places parts (number + 1) old now
lay_step places parts number old lists now p own more x at is there within put pushed way place =
    laid_one lists now p own more x there within put pushed place (zip (drop (number + 1) places) (drop (number + 1) parts))
    ∙ ap (λ (l : List Part). parts_at lists place ++ paired_with place (zip (p ∷ drop (number + 1) places) l)) (sym (drop_place parts number x is))
    ∙ ap (λ (l : List ℕ). parts_at lists place ++ paired_with place (zip l (drop number parts))) (sym (drop_place places number p at)) ∙ way place

pub lay_past : (places : List ℕ) (parts : List Part) (number : ℕ) (old now : List TaskParts) → length places ≤ number → IsOnWay places parts number old now → (place : ℕ) → parts_at now place ≡ parts_at old place ++ paired_with place (zip places parts)
lay_past places parts number old now past way place =
    sym (append-nil (parts_at now place)) ∙ ap (λ (l : List ℕ). parts_at now place ++ paired_with place (zip l (drop number parts))) (sym (drop_all number places past)) ∙ way place

pub lay_end : (places : List ℕ) (parts : List Part) (number : ℕ) (old now : List TaskParts) → length parts ≤ number → IsOnWay places parts number old now → (place : ℕ) → parts_at now place ≡ parts_at old place ++ paired_with place (zip places parts)
lay_end places parts number old now past way place =
    sym (append-nil (parts_at now place)) ∙ ap (λ (l : List Part). parts_at now place ++ l) (sym (none_paired place (drop number places)))
    ∙ ap (λ (l : List Part). parts_at now place ++ paired_with place (zip (drop number places) l)) (sym (drop_all number parts past)) ∙ way place

-- ---- workers

pub takes_none : (sights : List Sight) (lists : List TaskParts) → All (λ (own : TaskParts). own.parts.items ≡ []) lists → AreTakenIn [] sights sights lists
takes_none sights lists none = record {
  sights_are = λ place sight is. inr (is, All-nil (λ (back : Worker × WorkerEnd). back.0.gateway ≢ Some place));
  parts_are = λ place. nothing (slice_get lists place) (λ own at. All-place (λ (own : TaskParts). own.parts.items ≡ []) lists place own none at);
}
  where
    nothing : (at : Option TaskParts) → ((own : TaskParts) → at ≡ Some own → own.parts.items ≡ []) → in_them at ≡ []
    nothing None all = refl
    nothing (Some own) all = all own refl

pub takes_one : (backs : List (Worker × WorkerEnd)) (back : Worker × WorkerEnd) (sights mid seen : List Sight) (lists now : List TaskParts) → AreTakenIn backs sights mid lists → IsSeen back.0.gateway back.1.sight mid seen
    → ((place : ℕ) → parts_at now place ≡ parts_at lists place ++ own_parts place back) → AreTakenIn (backs ++ back ∷ []) sights seen now
takes_one backs back sights mid seen lists now t sees laid = record {
  sights_are = λ place sight is. elim (sees place sight is) [
    | inl here ↦ inl (back, Contains-push backs back, here.0, here.1)
    | inr before ↦ elim (t.sights_are place sight before.0) [
      | inl one ↦ inl (one.0, Contains-append_left backs (back ∷ []) one.0 one.1, one.2, one.3)
      | inr older ↦ inr (older.0, All-push (λ (b : Worker × WorkerEnd). b.0.gateway ≢ Some place) backs back older.1 before.1)
    ]
  ];
  parts_are = λ place. laid place ∙ ap (λ (l : List Part). l ++ own_parts place back) (t.parts_are place) ∙ sym (flat_map-push (own_parts place) backs back);
}
