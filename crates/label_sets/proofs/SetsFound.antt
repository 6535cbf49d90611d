-- What a walk over a text reads is what stands there.
use Rattle.std.proofs.Common.{◌≡◌, ◌≢◌, Bool, true, cond, ◌||◌, ◌&&◌, nat_lt, ℕ, zero, suc, ◌+◌, ◌-◌, ◌<◌, false, List, [], ◌∷◌, ◌++◌, length, take, get_or, Result, Ok, Err, refl, sym, ap, ◌∙◌, subst, arith, append_assoc, append-nil, ◌⊎◌, inl, inr}
use Rattle.std.proofs.lemmas.List.{length-append, get_or_at}
use Rattle.std.proofs.lemmas.List.Elements.{All-nil, All-push}
use Rattle.std.proofs.lemmas.Grind.{flat_map-append}
use Rattle.std.proofs.lemmas.Bool.{true≢false}
use Rattle.std.specs.Prelude.{IfOk, IsErr}
use Rattle.std.specs.Result.{is_err}
use Rattle.std.proofs.lemmas.Str.{IsCharBoundary-after_ascii}
use Rattle.std.specs.Str.{IsUtf8, IsCharBoundary}
use Rattle.std.specs.List.{flat_map, prefix_len, list_all}
use Rattle.base.proofs.Binds.{cond_ok, ok_is}
use Rattle.label_sets.specs.declared.label.Label.{Label}
use Rattle.label_sets.specs.declared.label_refusal.LabelRefusal.{LabelRefusal}
use Rattle.label_sets.specs.declared.label_refusal.LabelRefusal.TheVariants.{BadText}
use Rattle.label_sets.specs.Labels.{names_of, has_lesser_name}
use Rattle.label_sets.specs.Ordered.{in_order}
use Rattle.label_sets.specs.SetText.{ArePairs}
use Rattle.label_sets.specs.SetRefusals.{pair_comma_text, HasPairs}
use Rattle.label_sets.specs.Notation.{is_name, is_name_start, is_name_byte, Walk, rest_past, pair_at, pairs_at, on_pair, with_label, after_pair, at_comma, end_at, at_end, at_brace, after_brace, stopped_at, walk_at, repeats, name_at, name_length, conclusion, read_set, pair_text, comma_pair_text, pairs_text, set_text}
use Rattle.label_sets.proofs.ReadPairs.{rest_past-only, pair_shape}
use Rattle.label_sets.proofs.ReadSets.{pair_steps}
use Rattle.label_sets.proofs.LabelValues.{by_bool}
use Rattle.std.specs.Char.{is_ascii_digit}
use Rattle.base.proofs.Numbers.{one_more_is}

refused_not_read : {A E : Type 0} (e : E) (x : A) → Err e ≡ Ok x → ⊥
refused_not_read e x h = cc

-- the text of a pair that was read
pub pair_found : (text : List ℕ) (label : Label) (rest : List ℕ) → pair_at text ≡ Ok (label, rest) → text ≡ pair_text label ++ rest
unfolding pair_text name_at
pair_found text label rest e =
    let s = pair_steps text _ _ e in
    pair_shape _ _ _ _ _ _ _ _ _ refl s.name_is refl s.past_equals s.past_quote s.read_value
    ∙ simp append_assoc

prefix_all : (p : ℕ → Bool) (xs : List ℕ) → list_all p (take (prefix_len p xs) xs) ≡ true
prefix_all p [] = refl
prefix_all p (x ∷ xs) = by_bool (p x)
    (λ t. ap (λ b. list_all p (take (cond b (1 + prefix_len p xs) 0) (x ∷ xs))) t ∙ ap (λ n. list_all p (take n (x ∷ xs))) (one_more_is _) ∙ (λ i. t i && prefix_all p xs i))
    (λ f. ap (λ b. list_all p (take (cond b (1 + prefix_len p xs) 0) (x ∷ xs))) f)

pub start_is_byte : (x : ℕ) → is_name_start x ≡ true → is_name_byte x ≡ true
start_is_byte x t = ap (λ b. b || is_ascii_digit x) t

-- the longest name at the front of a text has the form of a name
pub name_read : (text : List ℕ) → nat_lt 0 (name_length text) ≡ true → is_name (name_at text) ≡ true
unfolding name_length name_at is_name
name_read [] some = absurd cc
name_read (x ∷ xs) some = by_bool (is_name_start x)
    (λ t.
    ap (λ b. is_name (take (cond b (prefix_len is_name_byte (x ∷ xs)) 0) (x ∷ xs))) t
    ∙ ap (λ b. is_name (take (cond b (1 + prefix_len is_name_byte xs) 0) (x ∷ xs))) (start_is_byte x t)
    ∙ ap (λ n. is_name (take n (x ∷ xs))) (one_more_is _)
    ∙ (λ i. t i && prefix_all is_name_byte xs i))
    (λ f. let none = ap (λ b. nat_lt 0 (cond b (prefix_len is_name_byte (x ∷ xs)) 0)) (sym f) ∙ some in absurd (cc none))

pub pair_written : (text : List ℕ) (label : Label) (rest : List ℕ) → pair_at text ≡ Ok (label, rest) → (is_name label.name ≡ true) × (label.value ≢ [])
pair_written text label _ e =
    let s = pair_steps _ _ _ e in
    (ap is_name s.name_is ∙ name_read _ s.named, λ none. true≢false (sym s.valued ∙ ap (λ v. nat_lt 0 (length v)) none))

-- ---- pairs, each with a comma after it

-- one more of them
commas_more : (front : List Label) (l : Label) (next : List ℕ) → flat_map pair_comma_text (front ++ l ∷ []) ++ next ≡ flat_map pair_comma_text front ++ (pair_text l ++ 44 ∷ next)
unfolding pair_comma_text
commas_more front l next = ap (λ t. t ++ next) (flat_map-append _ front (l ∷ [])) ∙ simp append_assoc

comma_after : (xs : List Label) (l : Label) → flat_map comma_pair_text (xs ++ l ∷ []) ≡ 44 ∷ pairs_text (xs ++ l ∷ [])
unfolding comma_pair_text pairs_text
comma_after [] l = refl
comma_after (x ∷ xs) l = refl

-- the pairs of a set, the last of which has none
pub pairs_and_last : (front : List Label) (l : Label) → pairs_text (front ++ l ∷ []) ≡ flat_map pair_comma_text front ++ pair_text l
unfolding pairs_text pair_comma_text
pairs_and_last [] l = append-nil (pair_text l)
pairs_and_last (x ∷ xs) l = ap (λ t. pair_text x ++ t) (comma_after _ l ∙ ap (λ t. 44 ∷ t) (pairs_and_last xs l)) ∙ simp append_assoc

-- ---- where a walk over pairs ends

-- these pairs, with commas between them, and then the rest
pub record BehindPairs (text : List ℕ) (labels : List Label) (rest : List ℕ) : Type 0 where
  pub front : List Label
  pub last : Label
  pub labels_are : labels ≡ front ++ last ∷ []
  pub pairs : HasPairs text front (pair_text last ++ rest)
  pub lawful : ArePairs labels

-- in a pair, before which each has a comma after it
abbrev pub StopsInPair : List ℕ → List Label → LabelRefusal × List ℕ → Type 0
StopsInPair text labels stop = HasPairs text labels stop.1 × (pair_at stop.1 ≡ Err stop.0)

-- behind a pair, at what is neither a comma nor the closing brace
pub record StopsBehind (text : List ℕ) (labels : List Label) (stop : LabelRefusal × List ℕ) : Type 0 where
  pub rest : List ℕ
  pub behind : BehindPairs text labels rest
  pub stop_is : stop ≡ (BadText (length rest), [])
  pub no_comma : IsErr (rest_past 44 rest)
  pub no_end : IsErr (rest_past 125 rest)

abbrev pub WalkEnds : List ℕ → List Label → Result (List ℕ) (LabelRefusal × List ℕ) → Type 0
WalkEnds text labels (Ok after) = BehindPairs text labels (125 ∷ after)
WalkEnds text labels (Err stop) = StopsInPair text labels stop ⊎ StopsBehind text labels stop

end_ends : (text : List ℕ) (labels : List Label) (rest : List ℕ) (r : Result (List ℕ) LabelRefusal) → BehindPairs text labels rest → IsErr (rest_past 44 rest) → rest_past 125 rest ≡ r → WalkEnds text (labels ++ (at_end rest r).0) (at_end rest r).1
unfolding at_end stopped_at
end_ends text labels _ (Ok after) b c p = subst (λ ls. BehindPairs text ls (125 ∷ after)) (sym (append-nil labels)) (subst (BehindPairs text labels) (rest_past-only _ _ _ p) b)
end_ends text labels rest (Err d) b c p = subst (λ ls. WalkEnds text ls (Err (BadText (length rest), []))) (sym (append-nil labels)) (inr (record { rest = rest; behind = b; stop_is = refl; no_comma = c; no_end = ap is_err p }))

-- a walk goes on from what is left, behind these labels
abbrev GoesOn : (List ℕ → Walk) → List ℕ → ℕ → Type 0
GoesOn more text n = (labels : List Label) (next : List ℕ) → length next < n → HasPairs text labels next → WalkEnds text (labels ++ (more next).0) (more next).1

comma_ends : (more : List ℕ → Walk) (text : List ℕ) (front : List Label) (l : Label) (rest : List ℕ) (r : Result (List ℕ) LabelRefusal) → HasPairs text front (pair_text l ++ rest) → ArePairs (front ++ l ∷ []) → GoesOn more text (length rest)
    → rest_past 44 rest ≡ r → WalkEnds text ((front ++ l ∷ []) ++ (at_comma more rest r).0) (at_comma more rest r).1
unfolding at_comma end_at
comma_ends _ _ front l rest (Ok next) p are go e =
    let is = rest_past-only _ _ _ e in
    go (front ++ l ∷ []) next (omega (arith, ap length is)) (record {
      begins = p.begins ∙ ap (λ t. 123 ∷ t) (ap (λ t. flat_map pair_comma_text front ++ (pair_text l ++ t)) is ∙ sym (commas_more _ l _));
      lawful = are;
    })
comma_ends _ _ front l _ (Err d) p are go e =
    end_ends _ _ _ _ (record { front = front; last = l; labels_are = refl; pairs = p; lawful = are }) (ap is_err e) refl

on_pair_ends : (more : List ℕ → Walk) (text : List ℕ) (labels : List Label) (pair : List ℕ) (r : Result (Label × List ℕ) LabelRefusal) → HasPairs text labels pair → GoesOn more text (length pair)
    → pair_at pair ≡ r → WalkEnds text (labels ++ (on_pair more pair r).0) (on_pair more pair r).1
unfolding on_pair with_label after_pair
on_pair_ends more text labels _ (Ok read) p go e =
    let w = at_comma more read.1 (rest_past 44 read.1) in
    let found = pair_found _ _ _ e in
    let lawful = All-push (λ l. (is_name l.name ≡ true) × (l.value ≢ [])) _ _ p.lawful (pair_written _ _ _ e) in
    subst (λ ls. WalkEnds text ls w.1) (append_assoc labels (read.0 ∷ []) w.0)
    (comma_ends _ _ _ _ _ _ (subst (HasPairs text labels) found p) lawful
    (λ ls next few. go ls next (omega (arith, ap length found, length-append (pair_text read.0) read.1))) refl)
on_pair_ends _ text labels pair (Err d) p go e = subst (λ ls. WalkEnds text ls (Err (d, pair))) (sym (append-nil labels)) (inl (p, e))

pairs_end : (n : ℕ) (text : List ℕ) → GoesOn (pairs_at n) text n
unfolding pairs_at
pairs_end zero _ labels pair few p = absurd (omega arith)
pairs_end (suc n) text labels pair few p = on_pair_ends _ _ _ _ _ p (λ ls next l. pairs_end n text ls next (omega arith)) refl

-- pairs behind the opening brace
abbrev pub InBraces : List ℕ → List Label → Result (List ℕ) (LabelRefusal × List ℕ) → Type 0
InBraces text labels end = ((inside : List ℕ) → text ≡ 123 ∷ inside → IsErr (rest_past 125 inside)) × WalkEnds text labels end

-- what a walk comes to: no opening brace, a set without labels, or pairs
abbrev pub IsWalk : List ℕ → Walk → Type 0
IsWalk text w = (IsErr (rest_past 123 text) × (w ≡ stopped_at text)) ⊎ (((after : List ℕ) × (text ≡ 123 ∷ 125 ∷ after) × (w ≡ ([], Ok after))) ⊎ InBraces text w.0 w.1)

same_inside : (inside other : List ℕ) → 123 ∷ inside ≡ 123 ∷ other → inside ≡ other
same_inside _ _ e = cc

brace_walk : (text inside : List ℕ) (r : Result (List ℕ) LabelRefusal) → text ≡ 123 ∷ inside → rest_past 125 inside ≡ r → IsWalk text (after_brace inside r)
unfolding after_brace
brace_walk _ _ (Ok after) shape p = inr (inl (after, shape ∙ ap (λ t. 123 ∷ t) (rest_past-only _ _ _ p), refl))
brace_walk _ inside (Err d) shape p = inr (inr (
  (λ other e. subst (λ t. IsErr (rest_past 125 t)) (same_inside _ _ (sym shape ∙ e)) (ap is_err p)),
  pairs_end _ _ [] inside (omega arith) (record { begins = shape; lawful = All-nil (λ l. (is_name l.name ≡ true) × (l.value ≢ [])) }),
))

start_walk : (text : List ℕ) (r : Result (List ℕ) LabelRefusal) → rest_past 123 text ≡ r → IsWalk text (at_brace text r)
unfolding at_brace
start_walk _ (Ok inside) p = brace_walk _ _ _ (rest_past-only _ _ _ p) refl
start_walk _ (Err d) p = inl (ap is_err p, refl)

pub walk_is : (text : List ℕ) → IsWalk text (walk_at text)
unfolding walk_at
walk_is _ = start_walk _ _ refl

-- ---- what was read

abbrev ReadsSet : List ℕ → Walk → Type 0
ReadsSet text w = IfOk w.1 (λ after. (text ≡ set_text w.0 ++ after) × ArePairs w.0)

braces_read : (text : List ℕ) (labels : List Label) (end : Result (List ℕ) (LabelRefusal × List ℕ)) → InBraces text labels end → ReadsSet text (labels, end)
unfolding set_text
braces_read _ labels (Ok after) b =
    let p = b.1 in
    let pairs = ap pairs_text p.labels_are ∙ pairs_and_last _ _ in
    (p.pairs.begins ∙ ap (λ t. 123 ∷ t) (sym (append_assoc (flat_map pair_comma_text p.front) (pair_text p.last) (125 ∷ after)) ∙ ap (λ t. t ++ 125 ∷ after) (sym pairs) ∙ sym (append_assoc (pairs_text labels) (125 ∷ []) after)), p.lawful)
braces_read _ _ (Err stop) b = tt

walk_reads : (text : List ℕ) (w : Walk) → IsWalk text w → ReadsSet text w
unfolding set_text pairs_text stopped_at
walk_reads text w (inl stop) = subst (ReadsSet text) (sym stop.1) tt
walk_reads text w (inr (inl empty)) = subst (ReadsSet text) (sym empty.2) (empty.1, All-nil (λ l. (is_name l.name ≡ true) × (l.value ≢ [])))
walk_reads _ w (inr (inr braces)) = braces_read _ _ _ braces

-- the labels in braces stand at the front of what was read well
pub walk_found : (text : List ℕ) (labels : List Label) (after : List ℕ) → walk_at text ≡ (labels, Ok after) → (text ≡ set_text labels ++ after) × ArePairs labels
walk_found text _ _ e = subst (ReadsSet text) e (walk_reads _ _ (walk_is _))

-- what a conclusion of a set rests on
pub concluded : (total : ℕ) (labels : List Label) (o : Result (List ℕ) (LabelRefusal × List ℕ)) (made : List Label) (taken : ℕ) → conclusion total labels o ≡ Ok (made, taken)
    → (after : List ℕ) × (o ≡ Ok after) × (repeats (names_of labels) ≡ false) × (made ≡ in_order has_lesser_name labels) × (taken ≡ total - length after)
unfolding conclusion
concluded _ _ (Ok after) _ _ e =
    let c = cond_ok _ _ _ _ e in
    let s = ok_is _ _ c.1 in
    (after, refl, c.0, ap (λ x. x.0) (sym s), ap (λ x. x.1) (sym s))
concluded _ _ (Err stop) _ _ e =
    absurd (refused_not_read _ _ (cond_ok _ _ _ _ e).1)

-- where a set was read, the labels that stand there and what follows
pub record IsReadSet (text : List ℕ) (made : List Label) (taken : ℕ) : Type 0 where
  pub labels : List Label
  pub after : List ℕ
  pub walked : walk_at text ≡ (labels, Ok after)
  pub whole : text ≡ set_text labels ++ after
  pub taken_is : taken ≡ length (set_text labels)
  pub made_is : made ≡ in_order has_lesser_name labels
  pub once : repeats (names_of labels) ≡ false
  pub are_pairs : ArePairs labels

pub set_found : (text : List ℕ) (made : List Label) (taken : ℕ) → read_set text ≡ Ok (made, taken) → IsReadSet text made taken
unfolding read_set
set_found text _ _ e =
    let c = concluded _ _ _ _ _ e in
    let w = ap (λ r. ((walk_at text).0, r)) c.1 in
    let f = walk_found _ _ _ w in
    record {
      labels = (walk_at text).0;
      after = c.0;
      walked = w;
      whole = f.0;
      taken_is = c.4 ∙ omega (arith, ap length f.0, length-append (set_text (walk_at text).0) c.0);
      made_is = c.3;
      once = c.2;
      are_pairs = f.1;
    }

-- a text can be cut after the closing brace
cut_after : (text front after : List ℕ) (byte n : ℕ) → byte < 128 → text ≡ (front ++ byte ∷ []) ++ after → n ≡ length (front ++ byte ∷ []) → IsUtf8 text → IsCharBoundary text n
cut_after text front after byte n a e k u =
    let whole = e ∙ append_assoc front (byte ∷ []) after in
    let here = ap (λ t. get_or t (length front) 0) whole ∙ get_or_at _ _ after 0 (length front) refl in
    let place : length front + 1 ≡ n = omega (arith, length-append front (byte ∷ [])) in
    let inside : length front < length text = omega (arith, ap length whole, length-append front (byte ∷ after)) in
    subst (IsCharBoundary text) place (IsCharBoundary-after_ascii text _ u inside (omega arith))

pub set_cut : (text bytes : List ℕ) (made : List Label) (taken : ℕ) → IsUtf8 text → bytes ≡ text → read_set bytes ≡ Ok (made, taken) → IsCharBoundary text taken
unfolding set_text
set_cut _ _ _ taken u same r =
    let e = ap read_set (sym same) ∙ r in
    let s = set_found _ _ _ e in
    cut_after _ (123 ∷ pairs_text s.labels) s.after 125 taken (omega arith) s.whole s.taken_is u
