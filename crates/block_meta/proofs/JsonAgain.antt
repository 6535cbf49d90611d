-- The compact text of a JSON value is UTF-8 and is read as that value, where its texts are UTF-8, its numbers are integers that
-- fit 64 bits, and the keys of each object ascend.
use Rattle.std.proofs.Common.{◌≡◌, ℕ, suc, max, pos, negsuc, ◌^◌, ◌<◌, ◌≤◌, Bool, true, false, List, [], ◌∷◌, Some, option_map, option_and_then, Less, Greater, nat_cmp, decimal, IsUtf8, refl, sym, ap, ap₂, ◌∙◌, subst, arith, append-nil}
use Rattle.std.specs.Prelude.{⊤}
use Rattle.std.specs.Cmp.Lexicographic.{slice_cmp}
use Rattle.std.specs.List.{AllByRecursion}
use Rattle.std.specs.List.Sorted.{IsStrictlySortedBy}
use Rattle.std.specs.Ordering.{ordering_reverse}
use Rattle.std.proofs.lemmas.Cmp.{nat_list_cmp_total}
use Rattle.std.proofs.lemmas.Str.{IsUtf8-append, IsUtf8-nil}
use Rattle.std.proofs.lemmas.Fmt.{decimal_is_IsNumeral}
use Rattle.std.proofs.lemmas.Bool.{and_from, lt-ltb}
use Rattle.std.specs.Char.{digit_value}
use Rattle.std.specs.Str.Parse.{AllDigits}
use Rattle.json.specs.Lex.{tokens}
use Rattle.json.specs.Print.{IsNumber}
use Rattle.json.specs.Json as json
use Rattle.json.specs.Tree as tree
use Rattle.json.proofs.Printed.Decimals.{IsNumber-decimal, IsNumber-signed_decimal}
use Rattle.json.proofs.Printed.Tokens.{tokens-print}
use Rattle.json.proofs.Printed.Trees.{value-json_tokens, ArePrintable-json_tokens}
use Rattle.json.proofs.Printed.Utf8.{are_ascii, IsUtf8-are_ascii, IsUtf8-boolean, IsUtf8-quoted}
use Rattle.serde_json.specs.Data.{Num, unsigned, negative, float, Data, null, boolean, number, string, array, object, Items, no_items, item, Members, no_members, member, put, depth, items_depth, members_depth}
use Rattle.serde_json.specs.Read.{read, number_of, of_json, of_items, of_members, max_depth}
use Rattle.serde_json.specs.Written.{number_text, outline, items_outline, members_outline, comma_if, compact_text, items_text, members_text}
use Rattle.serde_json.proofs.Numbers.{number_of-decimal, number_of-negative}
use Rattle.serde_json.proofs.Texts.{print-outline}

-- ---- which values

-- an integer of 64 bits, with or without a sign
abbrev pub FitsNumber : Num → Type 0
FitsNumber (unsigned n) = n < 2 ^ 64
FitsNumber (negative (pos n)) = ⊥
FitsNumber (negative (negsuc n)) = n < 2 ^ 63
FitsNumber (float x) = ⊥

-- the keys of an object, in its order
abbrev pub keys : Members → List (List ℕ)
keys no_members = []
keys (member k d ms) = k ∷ keys ms

abbrev mutual
  pub IsPlain : Data → Type 0
  IsPlain null = ⊤
  IsPlain (boolean b) = ⊤
  IsPlain (number n) = FitsNumber n
  IsPlain (string s) = IsUtf8 s
  IsPlain (array ds) = ArePlainItems ds
  IsPlain (object ms) = IsStrictlySortedBy (slice_cmp nat_cmp) (keys ms) × ArePlainMembers ms

  pub ArePlainItems : Items → Type 0
  ArePlainItems no_items = ⊤
  ArePlainItems (item d ds) = IsPlain d × ArePlainItems ds

  pub ArePlainMembers : Members → Type 0
  ArePlainMembers no_members = ⊤
  ArePlainMembers (member k d ms) = IsUtf8 k × IsPlain d × ArePlainMembers ms

-- ---- numbers

number_again : (n : Num) → FitsNumber n → number_of (number_text n) ≡ Some n
number_again (unsigned n) fits = number_of-decimal n fits
number_again (negative (pos n)) fits = absurd fits
number_again (negative (negsuc n)) fits = number_of-negative n fits
number_again (float x) fits = absurd fits

is_number : (n : Num) → FitsNumber n → IsNumber (number_text n)
is_number (unsigned n) fits = IsNumber-decimal n fits
is_number (negative (pos n)) fits = absurd fits
is_number (negative (negsuc n)) fits = IsNumber-signed_decimal (negsuc n) fits
is_number (float x) fits = absurd fits

digits_ascii : (ds : List ℕ) → AllDigits 10 ds → are_ascii ds ≡ true
digits_ascii [] h = refl
digits_ascii (d ∷ ds) h =
    let digit : digit_value d < 10 = h.0 in
    let small : d < 128 = grind arith in
    and_from _ _ (lt-ltb d 128 small) (digits_ascii ds h.1)

decimal_ascii : (n : ℕ) → n < 2 ^ 64 → are_ascii (decimal n) ≡ true
decimal_ascii n fits = digits_ascii (decimal n) (decimal_is_IsNumeral n fits).0.1

number_utf8 : (n : Num) → FitsNumber n → IsUtf8 (number_text n)
number_utf8 (unsigned n) fits = IsUtf8-are_ascii _ (decimal_ascii n fits)
number_utf8 (negative (pos n)) fits = absurd fits
number_utf8 (negative (negsuc n)) fits = IsUtf8-are_ascii _ (decimal_ascii (suc n) (omega arith))
number_utf8 (float x) fits = absurd fits

-- ---- members

-- the members of one object and then those of another
abbrev joined : Members → Members → Members
joined no_members more = more
joined (member k d ms) more = member k d (joined ms more)

joined-none : (ms : Members) → joined ms no_members ≡ ms
joined-none no_members = refl
joined-none (member k d ms) = ap (member k d) (joined-none ms)

joined-one : (k : List ℕ) (d : Data) (found ms : Members) → joined (joined found (member k d no_members)) ms ≡ joined found (member k d ms)
joined-one k d no_members ms = refl
joined-one k d (member l e es) ms = ap (member l e) (joined-one k d es ms)

among : (first k : List ℕ) (d : Data) (found ms : Members) → AllByRecursion (λ key. slice_cmp nat_cmp first key ≡ Less) (keys (joined found (member k d ms))) → slice_cmp nat_cmp first k ≡ Less
among first k d no_members ms h = h.0
among first k d (member l e es) ms h = among first k d es ms h.1

-- a key that comes after those found goes last
put_last : (k : List ℕ) (d : Data) (found ms : Members) → IsStrictlySortedBy (slice_cmp nat_cmp) (keys (joined found (member k d ms))) → put k d found ≡ joined found (member k d no_members)
unfolding IsStrictlySortedBy
put_last k d no_members ms h = refl
put_last k d (member l e es) ms h =
    let later : slice_cmp nat_cmp k l ≡ Greater = nat_list_cmp_total.antisymm k l ∙ ap ordering_reverse (among l k d es ms h.0) in
    rw later (ap (member l e) (put_last k d es ms h.1))

-- ---- the value is made of its outline

mutual
  made_value : (d : Data) → IsPlain d → of_json (outline d) ≡ Some d
  made_value null h = refl
  made_value (boolean b) h = refl
  made_value (number n) h = ap (option_map number) (number_again n h)
  made_value (string s) h = refl
  made_value (array ds) h = ap (option_map array) (made_items ds h)
  made_value (object ms) h = ap (option_map object) (made_members no_members ms h.0 h.1)

  made_items : (ds : Items) → ArePlainItems ds → of_items (items_outline ds) ≡ Some ds
  made_items no_items h = refl
  made_items (item d ds) h = rw (made_value d h.0, made_items ds h.1) refl

  made_members : (found ms : Members) → IsStrictlySortedBy (slice_cmp nat_cmp) (keys (joined found ms)) → ArePlainMembers ms → of_members (members_outline ms) found ≡ Some (joined found ms)
  made_members found no_members ascend h = ap (λ (ms : Members). Some ms) (sym (joined-none found))
  made_members found (member k d ms) ascend h =
      let one : joined (joined found (member k d no_members)) ms ≡ joined found (member k d ms) = joined-one k d found ms in
      ap (option_and_then (λ e. of_members (members_outline ms) (put k e found))) (made_value d h.1)
      ∙ ap (of_members (members_outline ms)) (put_last k d found ms ascend)
      ∙ made_members (joined found (member k d no_members)) ms (subst (λ (xs : Members). IsStrictlySortedBy (slice_cmp nat_cmp) (keys xs)) (sym one) ascend) h.2
      ∙ ap (λ (ms : Members). Some ms) one

mutual
  same_depth : (d : Data) → tree.depth (outline d) ≡ depth d
  same_depth null = refl
  same_depth (boolean b) = refl
  same_depth (number n) = refl
  same_depth (string s) = refl
  same_depth (array ds) = ap (λ n. suc n) (same_items_depth ds)
  same_depth (object ms) = ap (λ n. suc n) (same_members_depth ms)

  same_items_depth : (ds : Items) → tree.items_depth (items_outline ds) ≡ items_depth ds
  same_items_depth no_items = refl
  same_items_depth (item d ds) = ap₂ max (same_depth d) (same_items_depth ds)

  same_members_depth : (ms : Members) → tree.members_depth (members_outline ms) ≡ members_depth ms
  same_members_depth no_members = refl
  same_members_depth (member k d ms) = ap₂ max (same_depth d) (same_members_depth ms)

mutual
  has_numbers : (d : Data) → IsPlain d → tree.HasNumbers (outline d)
  has_numbers null h = tt
  has_numbers (boolean b) h = tt
  has_numbers (number n) h = is_number n h
  has_numbers (string s) h = tt
  has_numbers (array ds) h = items_have_numbers ds h
  has_numbers (object ms) h = members_have_numbers ms h.1

  items_have_numbers : (ds : Items) → ArePlainItems ds → tree.ItemsHaveNumbers (items_outline ds)
  items_have_numbers no_items h = tt
  items_have_numbers (item d ds) h = (has_numbers d h.0, items_have_numbers ds h.1)

  members_have_numbers : (ms : Members) → ArePlainMembers ms → tree.MembersHaveNumbers (members_outline ms)
  members_have_numbers no_members h = tt
  members_have_numbers (member k d ms) h = (has_numbers d h.1, members_have_numbers ms h.2)

-- ---- the text

pub plain_read : (d : Data) → IsPlain d → depth d ≤ max_depth → read (compact_text d) ≡ Some d
plain_read d plain shallow =
    let j : json.Json = outline d in
    let lexed : tokens (compact_text d) ≡ tree.json_tokens j = ap tokens (sym (print-outline d)) ∙ tokens-print (tree.json_tokens j) (ArePrintable-json_tokens j (has_numbers d plain)) in
    let found : json.value max_depth (tokens (compact_text d)) ≡ Some (j, []) =
    ap (json.value max_depth) (lexed ∙ sym (append-nil (tree.json_tokens j))) ∙ value-json_tokens j max_depth [] (omega (arith, same_depth d)) in
    ap (λ o. option_and_then of_json (option_and_then (λ p. json.if_last p.0 p.1) o)) found ∙ made_value d plain

comma_utf8 : (later : Bool) → IsUtf8 (comma_if later)
comma_utf8 true = IsUtf8-are_ascii (44 ∷ []) refl
comma_utf8 false = IsUtf8-nil

mutual
  pub plain_utf8 : (d : Data) → IsPlain d → IsUtf8 (compact_text d)
  plain_utf8 null h = IsUtf8-are_ascii _ refl
  plain_utf8 (boolean b) h = IsUtf8-boolean b
  plain_utf8 (number n) h = number_utf8 n h
  plain_utf8 (string s) h = IsUtf8-quoted s h
  plain_utf8 (array ds) h = IsUtf8-append (91 ∷ []) _ (IsUtf8-are_ascii (91 ∷ []) refl) (items_utf8 false ds h)
  plain_utf8 (object ms) h = IsUtf8-append (123 ∷ []) _ (IsUtf8-are_ascii (123 ∷ []) refl) (members_utf8 false ms h.1)

  items_utf8 : (later : Bool) (ds : Items) → ArePlainItems ds → IsUtf8 (items_text later ds)
  items_utf8 later no_items h = IsUtf8-are_ascii (93 ∷ []) refl
  items_utf8 later (item d ds) h = IsUtf8-append _ _ (comma_utf8 later) (IsUtf8-append _ _ (plain_utf8 d h.0) (items_utf8 true ds h.1))

  members_utf8 : (later : Bool) (ms : Members) → ArePlainMembers ms → IsUtf8 (members_text later ms)
  members_utf8 later no_members h = IsUtf8-are_ascii (125 ∷ []) refl
  members_utf8 later (member k d ms) h =
      IsUtf8-append _ _ (comma_utf8 later)
      (IsUtf8-append _ _ (IsUtf8-quoted k h.0)
      (IsUtf8-append (58 ∷ []) _ (IsUtf8-are_ascii (58 ∷ []) refl) (IsUtf8-append _ _ (plain_utf8 d h.1) (members_utf8 true ms h.2))))
