-- Lines that are told one after another, whatever follows them.
use Rattle.std.proofs.Common.{◌≡◌, ℕ, ◌+◌, ◌-◌, ◌<◌, ◌≤◌, Bool, true, false, not, ◌&&◌, nat_lt, ◌==◌, List, [], ◌∷◌, ◌++◌, length, sym, ◌∙◌, subst, arith, rules, tests, append_assoc}
use Rattle.std.specs.Bool.{MatchBool}
use Rattle.std.specs.Char.{is_ascii_digit}
use Rattle.std.specs.List.{list_all, range_with_len}
use Rattle.std.specs.Str.{is_utf8}
use Rattle.std.proofs.lemmas.Bool.{and_parts}
use Rattle.std.proofs.lemmas.Bool.Decides.{nat_tests}
use Rattle.std.proofs.lemmas.List.FromFn.{get_or-range_with_len, length-range_with_len}
use Rattle.std.proofs.lemmas.List.Sums.{AllPass-from_list_all}
use Rattle.std.proofs.lemmas.Str.Ascii.{IsAscii-from_all}
use Rattle.std.proofs.lemmas.Str.{IsUtf8-from_ascii, is_utf8-from_IsUtf8}
use Rattle.base.specs.Lines.{line_feed}
use Rattle.script_fields.specs.Fields.{is_newline, is_silent, lines_of}
use Rattle.script_core.specs.Parts.{IsOneLine}
use Rattle.script_core.specs.Spelling.{Say, Says, SoFar}
use Rattle.script_core.proofs.PartLaws.{cut_one}
use Rattle.script_core.proofs.SampleSigns.{all_weaker}

-- The text leads from one script so far to another, and from one line's number to another.
abbrev pub Tells : SoFar → ℕ → List ℕ → SoFar → ℕ → Type 0
Tells before number text after next =
    (more : List ℕ) (last : SoFar) → Say after next (lines_of more) last → Say before number (lines_of (text ++ more)) last

pub tells_nothing : (so : SoFar) (number : ℕ) → Tells so number [] so number
tells_nothing so number more last said = said

pub tells_both : (before middle after : SoFar) (number next further : ℕ) (front text : List ℕ) → Tells before number front middle next → Tells middle next text after further → Tells before number (front ++ text) after further
tells_both before middle after number next further front text one two more last said =
    subst (λ t. Say before number (lines_of t) last) (sym (append_assoc front text more)) (one (text ++ more) last (two more last said))

-- ---- a line

-- a byte of a line
abbrev pub is_print : ℕ → Bool
is_print byte = not (is_newline byte) && nat_lt byte 128

print_not_newline : (byte : ℕ) → is_print byte ≡ true → not (is_newline byte) ≡ true
print_not_newline byte is = (and_parts (not (is_newline byte)) (nat_lt byte 128) is).0

print_ascii : (byte : ℕ) → is_print byte ≡ true → nat_lt byte 128 ≡ true
print_ascii byte is = (and_parts (not (is_newline byte)) (nat_lt byte 128) is).1

pub digit_prints : (byte : ℕ) → is_ascii_digit byte ≡ true → is_print byte ≡ true
digit_prints byte is = search (rules, tests)

pub print_line : (line : List ℕ) → list_all is_print line ≡ true → IsOneLine line
print_line line print = all_weaker is_print (λ byte. not (is_newline byte)) print_not_newline line print

pub print_utf8 : (line : List ℕ) → list_all is_print line ≡ true → is_utf8 line ≡ true
print_utf8 line print =
    is_utf8-from_IsUtf8 line (IsUtf8-from_ascii line (IsAscii-from_all line (λ k d below.
    let test = AllPass-from_list_all (λ byte. nat_lt byte 128) line (all_weaker is_print (λ byte. nat_lt byte 128) print_ascii line print) k d below in
    grind (arith, nat_tests))))

pub speaks : (first : ℕ) (rest : List ℕ) → (first == 35) ≡ false → is_silent (first ∷ rest) ≡ false
speaks first rest other =
    let some : (length (first ∷ rest) == 0) ≡ false = grind (arith, nat_tests) in rw some other

spoken : (before after last : SoFar) (number : ℕ) (line : List ℕ) (lines : List (List ℕ)) → is_silent line ≡ false → is_utf8 line ≡ true → Says before number line after → Say after (number + 1) lines last → Say before number (line ∷ lines) last
spoken before after last number line lines silent utf8 says said =
    subst (λ b. MatchBool b (Say before (number + 1) lines last) ((next : SoFar) × (is_utf8 line ≡ true) × Says before number line next × Say next (number + 1) lines last)) (sym silent) (after, utf8, says, said)

pub tells_line : (before after : SoFar) (number : ℕ) (line : List ℕ) → is_silent line ≡ false → list_all is_print line ≡ true → Says before number line after → Tells before number (line ++ line_feed ∷ []) after (number + 1)
tells_line before after number line silent print says more last said =
    subst (λ t. Say before number (lines_of t) last) (sym (append_assoc line (line_feed ∷ []) more))
    (subst (λ (ls : List (List ℕ)). Say before number ls last) (sym (cut_one line (print_line line print) more)) (spoken before after last number line (lines_of more) silent (print_utf8 line print) says said))

-- ---- tests over a range

pub in_range : (p : ℕ → Bool) (from count place : ℕ) → list_all p (range_with_len from count) ≡ true → from ≤ place → place < from + count → p place ≡ true
in_range p from count place all low high =
    let here : from + (place - from) ≡ place = omega (arith, low) in
    let below : place - from < length (range_with_len from count) = omega (arith, length-range_with_len from count, low, high) in
    subst (λ n. p n ≡ true) (get_or-range_with_len from count (place - from) 0 (omega (arith, low, high)) ∙ here) (AllPass-from_list_all p (range_with_len from count) all (place - from) 0 below)
