-- The labels that stand in braces are read, whatever follows them.
use Rattle.std.proofs.Common.{◌≡◌, ◌≢◌, ℕ, zero, suc, ◌+◌, ◌-◌, ◌≤◌, Bool, true, false, cond, eqb, ◌||◌, ◌&&◌, List, [], ◌∷◌, ◌++◌, length, take, drop, Some, Result, Ok, Err, refl, sym, ap, ◌∙◌, subst, arith, append_assoc, nat_lt}
use Rattle.std.proofs.lemmas.Bool.Decides.{nat_tests}
use Rattle.std.proofs.lemmas.List.{length-append, take_at, drop_at}
use Rattle.std.specs.Prelude.{IsErr}
use Rattle.std.specs.Result.{is_err}
use Rattle.std.specs.List.{flat_map, prefix_len, list_all}
use Rattle.label_sets.specs.declared.label.Label.{Label}
use Rattle.label_sets.specs.declared.label_refusal.LabelRefusal.{LabelRefusal}
use Rattle.label_sets.specs.declared.label_refusal.LabelRefusal.TheVariants.{EmptyName, EmptyValue, BadText}
use Rattle.label_sets.specs.Notation.{is_name, is_name_start, is_name_byte, name_length, name_at, rest_past, with_byte, value_at, Walk, pair_at, pairs_at, on_pair, with_label, after_pair, at_comma, end_at, at_end, at_brace, after_brace, walk_at, quoted, quoted_byte, pair_text, pairs_text, set_text}
use Rattle.label_sets.specs.SetText.{ArePairs}
use Rattle.label_sets.specs.SetRefusals.{pair_comma_text}
use Rattle.label_sets.proofs.LabelValues.{by_bool}
use Rattle.label_sets.proofs.ReadSets.{with_value, after_quote, after_equals}
use Rattle.label_sets.proofs.SetsFound.{pairs_and_last}
use Rattle.std.proofs.lemmas.Bool.{true≢false, and_parts}
use Rattle.std.proofs.lemmas.List.Elements.{All-pop}
use Rattle.std.specs.Char.{is_ascii_digit}
use Rattle.base.specs.Reading.{◌>>=◌, ◌>>◌, unless}

-- ---- a value

pub past_it : (byte : ℕ) (text : List ℕ) → rest_past byte (byte ∷ text) ≡ Ok text
unfolding rest_past
past_it byte text = let same : eqb byte byte ≡ true = grind (arith, nat_tests) in ap (λ b. cond b (Ok text) (Err (BadText (length (byte ∷ text))))) same

pub past_other : (byte first : ℕ) (text : List ℕ) → first ≢ byte → rest_past byte (first ∷ text) ≡ Err (BadText (length (first ∷ text)))
unfolding rest_past
past_other byte first text differs = let other : eqb first byte ≡ false = grind (arith, nat_tests) in ap (λ b. cond b (Ok text) (Err (BadText (length (first ∷ text))))) other

-- what is read behind a byte of a value that stands in quotes
byte_again : (byte : ℕ) (text value after : List ℕ) → value_at false text ≡ Ok (value, after) → value_at false (quoted_byte byte ++ text) ≡ Ok (byte ∷ value, after)
unfolding value_at with_byte quoted_byte
byte_again byte text value after h =
    let read = ap (with_byte byte) h in
    by_bool (eqb byte 92)
    (λ b. let is : byte ≡ 92 = grind (arith, nat_tests) in
    subst (λ n. value_at false (quoted_byte n ++ text) ≡ Ok (n ∷ value, after)) (sym is) (ap (with_byte 92) h))
    (λ b. by_bool (eqb byte 34)
    (λ q. let is : byte ≡ 34 = grind (arith, nat_tests) in
    subst (λ n. value_at false (quoted_byte n ++ text) ≡ Ok (n ∷ value, after)) (sym is) (ap (with_byte 34) h))
    (λ q. by_bool (eqb byte 10)
    (λ n. let is : byte ≡ 10 = grind (arith, nat_tests) in
    subst (λ n. value_at false (quoted_byte n ++ text) ≡ Ok (n ∷ value, after)) (sym is) (ap (with_byte 10) h))
    (λ n.
    ap (λ front. value_at false (front ++ text)) (λ i. cond (b i) (92 ∷ 92 ∷ []) (cond (q i) (92 ∷ 34 ∷ []) (cond (n i) (92 ∷ 110 ∷ []) (byte ∷ []))))
    ∙ (λ i. cond (q i) (Ok ([], text)) (cond (n i) (Err (BadText (length (byte ∷ text)))) (cond (b i) (value_at true text) (with_byte byte (value_at false text)))))
    ∙ read)))

pub value_again : (value after : List ℕ) → value_at false (quoted value ++ 34 ∷ after) ≡ Ok (value, after)
unfolding value_at quoted
value_again [] _ = refl
value_again (byte ∷ value) after =
    ap (value_at false) (append_assoc (quoted_byte byte) (quoted value) (34 ∷ after))
    ∙ byte_again _ _ _ _ (value_again _ _)

-- ---- a name

equals_sign : is_name_byte 61 ≡ false
equals_sign = refl

prefix_through : (p : ℕ → Bool) (front rest : List ℕ) (c : ℕ) → list_all p front ≡ true → p c ≡ false → prefix_len p (front ++ c ∷ rest) ≡ length front
prefix_through p [] rest c all stop = ap (λ b. cond b (1 + prefix_len p rest) 0) stop
prefix_through p (x ∷ front) rest c all stop =
    let b = and_parts (p x) (list_all p front) all in
    ap (λ t. cond t (1 + prefix_len p (front ++ c ∷ rest)) 0) b.0 ∙ ap (λ n. 1 + n) (prefix_through p front rest c b.1 stop) ∙ omega arith

-- the name at the front of a text is the longest one there
pub name_again : (name rest : List ℕ) (c : ℕ) → is_name name ≡ true → is_name_byte c ≡ false → name_length (name ++ c ∷ rest) ≡ length name
unfolding is_name name_length
name_again [] _ c is stop = absurd cc
name_again (x ∷ name) rest c is stop =
    let b = and_parts (is_name_start x) (list_all is_name_byte name) is in
    let all : list_all is_name_byte (x ∷ name) ≡ true = (λ i. (b.0 i || is_ascii_digit x) && b.1 i) in
    ap (λ t. cond t (prefix_len is_name_byte (x ∷ (name ++ c ∷ rest))) 0) b.0 ∙ prefix_through is_name_byte (x ∷ name) rest c all stop

pub name_some : (name : List ℕ) → is_name name ≡ true → nat_lt 0 (length name) ≡ true
unfolding is_name
name_some [] is = absurd cc
name_some (x ∷ name) is = grind (arith, nat_tests)

pub value_some : (value : List ℕ) → value ≢ [] → nat_lt 0 (length value) ≡ true
value_some [] some = absurd (some refl)
value_some (x ∷ value) some = grind (arith, nat_tests)

-- ---- a pair

pub pair_shape_again : (label : Label) (rest : List ℕ) → pair_text label ++ rest ≡ label.name ++ 61 ∷ 34 ∷ (quoted label.value ++ 34 ∷ rest)
unfolding pair_text
pair_shape_again _ _ = simp append_assoc

-- a pair whose name is whole and is followed by an equals sign
pub pair_named : (text name after : List ℕ) → is_name name ≡ true → text ≡ name ++ 61 ∷ after → pair_at text ≡ (rest_past 34 after >>= after_quote name)
unfolding pair_at name_at after_quote after_equals with_value
pair_named text name after is e =
    let n : name_length text ≡ length name = ap name_length e ∙ name_again _ _ _ is equals_sign in
    let d : drop (name_length text) text ≡ 61 ∷ after = (λ i. drop (n i) (e i)) ∙ drop_at name (61 ∷ after) (length name) refl in
    let t : take (name_length text) text ≡ name = (λ i. take (n i) (e i)) ∙ take_at _ _ _ refl in
    (λ i. rest_past 61 (d i) >>= after_equals (t i) (n i))
    ∙ ap (λ r. r >>= after_equals name (length name)) (past_it _ _)
    ∙ ap (λ b. unless b EmptyName >> (rest_past 34 after >>= after_quote name)) (name_some _ is)

pair_steps_again : (text name value rest : List ℕ) → is_name name ≡ true → value ≢ [] → text ≡ name ++ 61 ∷ 34 ∷ (quoted value ++ 34 ∷ rest) → pair_at text ≡ Ok (record { name = name; value = value }, rest)
unfolding pair_at name_at with_value after_quote after_equals
pair_steps_again _ name value rest is some e =
    let inside = quoted value ++ 34 ∷ rest in
    pair_named _ _ _ is e
    ∙ ap (λ r. r >>= after_quote name) (past_it _ _)
    ∙ ap (λ r. r >>= with_value name) (value_again _ _)
    ∙ ap (λ b. unless b EmptyValue >> Ok (record { name = name; value = value }, rest)) (value_some _ some)

pub pair_again : (label : Label) (rest : List ℕ) → is_name label.name ≡ true → label.value ≢ [] → pair_at (pair_text label ++ rest) ≡ Ok (label, rest)
pair_again _ _ is some = pair_steps_again _ _ _ _ is some (pair_shape_again _ _)

-- ---- pairs with a comma after each

commas_shape : (l : Label) (ls : List Label) (text : List ℕ) → flat_map pair_comma_text (l ∷ ls) ++ text ≡ pair_text l ++ 44 ∷ (flat_map pair_comma_text ls ++ text)
unfolding pair_comma_text
commas_shape l _ _ = simp append_assoc

pairs_go_on : (labels : List Label) (n fuel : ℕ) (text : List ℕ) → fuel ≡ length labels + n → ArePairs labels → pairs_at fuel (flat_map pair_comma_text labels ++ text) ≡ (labels ++ (pairs_at n text).0, (pairs_at n text).1)
unfolding pairs_at on_pair with_label after_pair at_comma
pairs_go_on [] n fuel text e are = let same : fuel ≡ n = omega arith in ap (λ f. pairs_at f text) same
pairs_go_on (l ∷ ls) n zero _ e are = absurd (omega arith)
pairs_go_on (l ∷ ls) n (suc fuel) text e are =
    let after = flat_map pair_comma_text ls ++ text in
    let one = are 0 l (omega arith) in
    ap (pairs_at (suc fuel)) (commas_shape l _ _)
    ∙ ap (on_pair (pairs_at fuel) (pair_text l ++ 44 ∷ after)) (pair_again l _ one.0 one.1)
    ∙ ap (λ r. with_label l (at_comma (pairs_at fuel) (44 ∷ after) r)) (past_it _ _)
    ∙ ap (with_label l) (pairs_go_on ls n fuel text (omega arith) (λ k d lt. are (suc k) d (omega arith)))

at_most_text : (ls : List Label) → length ls ≤ length (flat_map pair_comma_text ls)
unfolding pair_comma_text
at_most_text [] = omega arith
at_most_text (l ∷ ls) = omega (arith, at_most_text ls, length-append (pair_text l ++ 44 ∷ []) (flat_map pair_comma_text ls), length-append (pair_text l) (44 ∷ []))

pub begins_no_end : (name rest : List ℕ) → is_name name ≡ true → IsErr (rest_past 125 (name ++ rest))
unfolding is_name
begins_no_end [] _ is = absurd cc
begins_no_end (x ∷ name) _ is =
    let b = and_parts (is_name_start x) (list_all is_name_byte name) is in
    let other : x ≢ 125 = λ e. let closing = ap is_name_start (sym e) ∙ b.0 in absurd (cc closing) in
    ap is_err (past_other _ x _ other)

pair_no_end : (l : Label) (rest : List ℕ) → is_name l.name ≡ true → IsErr (rest_past 125 (pair_text l ++ rest))
pair_no_end l _ is = subst (λ t. IsErr (rest_past 125 t)) (sym (pair_shape_again l _)) (begins_no_end _ _ is)

no_end_at_once : (labels : List Label) (text : List ℕ) → ArePairs labels → (labels ≡ [] → IsErr (rest_past 125 text)) → IsErr (rest_past 125 (flat_map pair_comma_text labels ++ text))
no_end_at_once [] _ are unclosed = unclosed refl
no_end_at_once (l ∷ ls) _ are unclosed = subst (λ t. IsErr (rest_past 125 t)) (sym (commas_shape l _ _)) (pair_no_end l _ (are 0 l (omega arith)).0)

unclosed_braces : (inside : List ℕ) (r : Result (List ℕ) LabelRefusal) → IsErr r → after_brace inside r ≡ pairs_at (suc (length inside)) inside
unfolding after_brace
unclosed_braces _ (Ok after) bad = absurd (true≢false (sym bad))
unclosed_braces _ (Err e) bad = refl

-- a walk goes on behind them
pub walk_goes_on : (labels : List Label) (pair : List ℕ) → ArePairs labels → (labels ≡ [] → IsErr (rest_past 125 pair))
    → (n : ℕ) × (walk_at (123 ∷ (flat_map pair_comma_text labels ++ pair)) ≡ (labels ++ (on_pair (pairs_at n) pair (pair_at pair)).0, (on_pair (pairs_at n) pair (pair_at pair)).1))
unfolding walk_at at_brace pairs_at
walk_goes_on labels pair are unclosed =
    let inside = flat_map pair_comma_text labels ++ pair in
    let n = length inside - length labels in (
      n,
      ap (at_brace (123 ∷ inside)) (past_it _ _)
          ∙ unclosed_braces _ _ (no_end_at_once _ _ are unclosed)
          ∙ pairs_go_on _ (suc n) (suc (length inside)) pair (omega (arith, at_most_text labels, length-append (flat_map pair_comma_text labels) pair)) are,
    )

no_comma_here : (more : List ℕ → Walk) (rest : List ℕ) (r : Result (List ℕ) LabelRefusal) → IsErr r → at_comma more rest r ≡ end_at rest
unfolding at_comma
no_comma_here _ _ (Ok next) bad = absurd (true≢false (sym bad))
no_comma_here _ _ (Err e) bad = refl

-- and comes to its end behind the last one
pub walk_ends_behind : (front : List Label) (l : Label) (rest : List ℕ) → ArePairs (front ++ l ∷ []) → IsErr (rest_past 44 rest)
    → walk_at (123 ∷ (flat_map pair_comma_text front ++ (pair_text l ++ rest))) ≡ (front ++ l ∷ (end_at rest).0, (end_at rest).1)
unfolding on_pair with_label after_pair
walk_ends_behind front l rest are no_comma =
    let parts = All-pop (λ l. (is_name l.name ≡ true) × (l.value ≢ [])) _ _ (Some l) refl are in
    let one = parts.1 in
    let w = walk_goes_on front (pair_text l ++ rest) parts.0 (λ none. pair_no_end l rest one.0) in
    w.1
    ∙ ap (λ (x : Walk). (front ++ x.0, x.1))
    (ap (on_pair (pairs_at w.0) (pair_text l ++ rest)) (pair_again l _ one.0 one.1) ∙ ap (with_label l) (no_comma_here _ _ _ no_comma))

last_of : (l : Label) (ls : List Label) → (front : List Label) × (last : Label) × (l ∷ ls ≡ front ++ last ∷ [])
last_of l [] = ([], l, refl)
last_of l (m ∷ ms) = let v = last_of m _ in (l ∷ v.0, v.1, ap (λ xs. l ∷ xs) v.2)

-- the labels that stand in braces are read
pub walk_again : (labels : List Label) (after : List ℕ) → ArePairs labels → walk_at (set_text labels ++ after) ≡ (labels, Ok after)
unfolding walk_at at_brace after_brace set_text pairs_text end_at at_end rest_past
walk_again [] _ are = refl
walk_again (l ∷ ls) after are =
    let v = last_of l _ in
    let shape =
    ap (λ x. pairs_text x ++ 125 ∷ after) v.2 ∙ ap (λ t. t ++ 125 ∷ after) (pairs_and_last _ _) ∙ append_assoc (flat_map pair_comma_text v.0) (pair_text v.1) (125 ∷ after) in
    ap (λ t. walk_at (123 ∷ t)) (append_assoc (pairs_text (l ∷ ls)) (125 ∷ []) after ∙ shape)
    ∙ walk_ends_behind _ _ _ (subst ArePairs v.2 are) refl
    ∙ ap (λ x. (x, Ok after)) (sym v.2)
