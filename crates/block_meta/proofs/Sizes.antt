-- A JSON text has no more values, and no more bytes in its strings, than bytes.
use Rattle.std.proofs.Common.{◌≡◌, ℕ, zero, suc, ◌+◌, ◌-◌, ◌≤◌, Bool, true, false, cond, List, [], ◌∷◌, length, take, drop, Option, Some, None, option_map, option_and_then, refl, subst, arith}
use Rattle.std.specs.Prelude.{nat_eq, ◌&&◌, ◌==◌}
use Rattle.std.specs.List.{starts_with}
use Rattle.std.specs.Ordering.{match_ordering}
use Rattle.std.specs.declared.cmp.Ordering.{Ordering}
use Rattle.std.specs.declared.cmp.Ordering.TheVariants.{Less, Equal, Greater}
use Rattle.json.specs.Json.{Json, Items, Members, Parse, parse_map, after_end_array, read_key, items_step, members_step, items, members, value_with, value, if_last}
use Rattle.json.specs.Token as token
use Rattle.json.specs.Token.{Token}
use Rattle.json.specs.Lex.{Lexeme, Class, Mode, Place, lex_byte, lex, class, operator_lexeme, string_token, begins_colon, if_allowed, place_token, punctuate, tokens}
use Rattle.json.specs.Align.{span_byte, span}
use Rattle.json.specs.Text.{content, plain}
use Rattle.json.specs.Word.{word, head, literal, number_before, after_number, ends_word}
use Rattle.json.specs.Ascii as ascii
use Rattle.block_meta.proofs.StringSpans.{AtMost, content-span}
use Rattle.json.specs.Json as json
use Rattle.json.specs.Lex as lexing
use Rattle.serde_json.specs.Data as values
use Rattle.serde_json.specs.Data.{Data, put}
use Rattle.serde_json.specs.Read.{of_json, of_items, of_members, read}

-- ---- how many values a value is, with the bytes of its strings and of its names

abbrev mutual
  json_size : Json → ℕ
  json_size json.null = 1
  json_size (json.boolean b) = 1
  json_size (json.number s) = 1
  json_size (json.string s) = suc (length s)
  json_size (json.array js) = suc (items_size js)
  json_size (json.object ms) = suc (members_size ms)

  items_size : Items → ℕ
  items_size json.no_items = 0
  items_size (json.item j js) = json_size j + items_size js

  members_size : Members → ℕ
  members_size json.no_members = 0
  members_size (json.member k j ms) = length k + (json_size j + members_size ms)

abbrev mutual
  pub size_of : Data → ℕ
  size_of values.null = 1
  size_of (values.boolean b) = 1
  size_of (values.number n) = 1
  size_of (values.string s) = suc (length s)
  size_of (values.array ds) = suc (size_of_items ds)
  size_of (values.object ms) = suc (size_of_members ms)

  pub size_of_items : values.Items → ℕ
  size_of_items values.no_items = 0
  size_of_items (values.item d ds) = size_of d + size_of_items ds

  pub size_of_members : values.Members → ℕ
  size_of_members values.no_members = 0
  size_of_members (values.member k d ms) = length k + (size_of d + size_of_members ms)

-- ---- tokens: what is read and what is left have no more than there was

abbrev token_size : Token → ℕ
token_size token.begin_object = 1
token_size token.end_object = 1
token_size token.begin_array = 1
token_size token.end_array = 1
token_size (token.key s) = suc (length s)
token_size (token.string s) = suc (length s)
token_size (token.number s) = 1
token_size (token.boolean b) = 1
token_size token.null = 1
token_size token.bad = 1

some_size : (t : Token) → 1 ≤ token_size t
some_size token.begin_object = omega arith
some_size token.end_object = omega arith
some_size token.begin_array = omega arith
some_size token.end_array = omega arith
some_size (token.key s) = omega arith
some_size (token.string s) = omega arith
some_size (token.number s) = omega arith
some_size (token.boolean b) = omega arith
some_size token.null = omega arith
some_size token.bad = omega arith

abbrev weight : List Token → ℕ
weight [] = 0
weight (t ∷ ts) = token_size t + weight ts

abbrev Fits : {A : Type 0} → (A → ℕ) → ℕ → Option (A × List Token) → Type 0
Fits size n None = Unit {0}
Fits size n (Some p) = size p.0 + weight p.1 ≤ n

abbrev Leaves : ℕ → Option (List Token) → Type 0
Leaves n None = Unit {0}
Leaves n (Some rest) = weight rest ≤ n

mapped_fits : {A B : Type 0} (small : A → ℕ) (large : B → ℕ) (f : A → B) (extra m n : ℕ) (o : Option (A × List Token))
    → ((a : A) → large (f a) ≡ extra + small a) → Fits small m o → extra + m ≤ n → Fits large n (parse_map f o)
mapped_fits _ _ f _ m n None same fits le = tt
mapped_fits _ _ f _ m n (Some p) same fits le = omega arith

weaker_fits : {A : Type 0} (size : A → ℕ) (m n : ℕ) (o : Option (A × List Token)) → Fits size m o → m ≤ n → Fits size n o
weaker_fits _ m n None fits le = tt
weaker_fits _ m n (Some p) fits le = omega arith

array_ends : (ts : List Token) → Leaves (weight ts) (after_end_array ts)
array_ends [] = tt
array_ends (token.begin_object ∷ ts) = tt
array_ends (token.end_object ∷ ts) = tt
array_ends (token.begin_array ∷ ts) = tt
array_ends (token.end_array ∷ ts) = omega arith
array_ends (token.key s ∷ ts) = tt
array_ends (token.string s ∷ ts) = tt
array_ends (token.number s ∷ ts) = tt
array_ends (token.boolean b ∷ ts) = tt
array_ends (token.null ∷ ts) = tt
array_ends (token.bad ∷ ts) = tt

abbrev key_size : Option (List ℕ) → ℕ
key_size None = 0
key_size (Some s) = length s

key_fits : (ts : List Token) → Fits key_size (weight ts) (read_key ts)
key_fits [] = tt
key_fits (token.begin_object ∷ ts) = tt
key_fits (token.end_object ∷ ts) = omega arith
key_fits (token.begin_array ∷ ts) = tt
key_fits (token.end_array ∷ ts) = tt
key_fits (token.key s ∷ ts) = omega arith
key_fits (token.string s ∷ ts) = tt
key_fits (token.number s ∷ ts) = tt
key_fits (token.boolean b ∷ ts) = tt
key_fits (token.null ∷ ts) = tt
key_fits (token.bad ∷ ts) = tt

abbrev AllFit : {A : Type 0} → (A → ℕ) → Parse A → Type 0
AllFit size parse = (ts : List Token) → Fits size (weight ts) (parse ts)

item_fits : (more : Parse Items) → AllFit items_size more → (n : ℕ) (o : Option (Json × List Token)) → Fits json_size n o
    → Fits items_size n (option_and_then (λ p. parse_map (json.item p.0) (more p.1)) o)
item_fits _ h n None fits = tt
item_fits _ h n (Some p) fits = mapped_fits _ _ _ _ _ n _ (λ a. refl) (h p.1) fits

step_fits : (one : Parse Json) (more : Parse Items) → AllFit json_size one → AllFit items_size more → (ts : List Token) (o : Option (List Token)) → Leaves (weight ts) o
    → Fits items_size (weight ts) (items_step one more ts o)
step_fits _ _ h k ts None ends = item_fits _ k _ _ (h ts)
step_fits _ _ h k _ (Some rest) ends = omega arith

items_fit : (one : Parse Json) → AllFit json_size one → (n : ℕ) → AllFit items_size (items one n)
unfolding items
items_fit _ h zero ts = tt
items_fit _ h (suc n) ts = step_fits _ _ h (items_fit _ h n) _ _ (array_ends _)

member_fits : (key : List ℕ) (more : Parse Members) → AllFit members_size more → (n : ℕ) (o : Option (Json × List Token)) → Fits json_size n o
    → Fits members_size (length key + n) (option_and_then (λ p. parse_map (json.member key p.0) (more p.1)) o)
member_fits key _ h n None fits = tt
member_fits key more h n (Some p) fits = mapped_fits members_size members_size (json.member key p.0) (length key + json_size p.0) (weight p.1) (length key + n) (more p.1) (λ a. omega arith) (h p.1) (omega arith)

keyed_fits : (one : Parse Json) (more : Parse Members) → AllFit json_size one → AllFit members_size more → (key : Option (List ℕ)) (ts : List Token)
    → Fits members_size (key_size key + weight ts) (members_step one more key ts)
keyed_fits _ _ h k None _ = omega arith
keyed_fits _ _ h k (Some key) ts = member_fits key _ k _ _ (h ts)

after_key_fits : (one : Parse Json) (more : Parse Members) → AllFit json_size one → AllFit members_size more → (n : ℕ) (o : Option (Option (List ℕ) × List Token))
    → Fits key_size n o → Fits members_size n (option_and_then (λ p. members_step one more p.0 p.1) o)
after_key_fits _ _ h k n None fits = tt
after_key_fits _ _ h k n (Some p) fits = weaker_fits _ _ n _ (keyed_fits _ _ h k _ _) fits

members_fit : (one : Parse Json) → AllFit json_size one → (n : ℕ) → AllFit members_size (members one n)
unfolding members
members_fit _ h zero ts = tt
members_fit _ h (suc n) ts = after_key_fits _ _ h (members_fit _ h n) _ _ (key_fits _)

with_fits : (a : Parse Items) (o : Parse Members) → AllFit items_size a → AllFit members_size o → AllFit json_size (value_with a o)
with_fits a o h k [] = tt
with_fits a o h k (token.begin_object ∷ ts) = mapped_fits _ _ _ 1 _ _ _ (λ x. omega arith) (k ts) (omega arith)
with_fits a o h k (token.end_object ∷ ts) = tt
with_fits a o h k (token.begin_array ∷ ts) = mapped_fits _ _ _ 1 _ _ _ (λ x. omega arith) (h ts) (omega arith)
with_fits a o h k (token.end_array ∷ ts) = tt
with_fits a o h k (token.key s ∷ ts) = tt
with_fits a o h k (token.string s ∷ ts) = omega arith
with_fits a o h k (token.number s ∷ ts) = omega arith
with_fits a o h k (token.boolean b ∷ ts) = omega arith
with_fits a o h k (token.null ∷ ts) = omega arith
with_fits a o h k (token.bad ∷ ts) = tt

value_fits : (depth : ℕ) → AllFit json_size (value depth)
unfolding value
value_fits zero ts = with_fits (λ l. None) (λ l. None) (λ l. tt) (λ l. tt) ts
value_fits (suc depth) ts =
    with_fits _ _
    (λ l. items_fit (value depth) (value_fits depth) (length l) l) (λ l. members_fit (value depth) (value_fits depth) (length l) l) ts

-- ---- bytes: each begins one lexeme at most, and what a string holds is no longer than its bytes

abbrev lexeme_size : Lexeme → ℕ
lexeme_size (lexing.token t) = token_size t
lexeme_size lexing.comma = 1
lexeme_size lexing.colon = 1

abbrev total : List Lexeme → ℕ
total [] = 0
total (l ∷ ls) = lexeme_size l + total ls

operator_by : (a b c d e : Bool)
    → lexeme_size (cond a (lexing.token token.begin_object) (cond b (lexing.token token.end_object) (cond c (lexing.token token.begin_array) (cond d (lexing.token token.end_array) (cond e lexing.comma lexing.colon))))) ≤ 1
operator_by true b c d e = omega arith
operator_by false true c d e = omega arith
operator_by false false true d e = omega arith
operator_by false false false true e = omega arith
operator_by false false false false true = omega arith
operator_by false false false false false = omega arith

operator_small : (x : ℕ) → lexeme_size (operator_lexeme x) ≤ 1
operator_small x = operator_by (x == 123) (x == 125) (x == 91) (x == 93) (x == 44)

token_by : (b : Bool) (t u : Token) → token_size t ≤ 1 → token_size u ≤ 1 → token_size (cond b t u) ≤ 1
token_by true t u x y = x
token_by false t u x y = y

number_small : (t : List ℕ) (after : Option (List ℕ)) → token_size (number_before t after) ≤ 1
number_small t None = omega arith
number_small t (Some rest) = token_by (ends_word rest) (token.number (take (length t - length rest) t)) token.bad (omega arith) (omega arith)

literal_small : (name : List ℕ) (one : Token) (t : List ℕ) → token_size one ≤ 1 → token_size (literal name one t) ≤ 1
literal_small name one t le = token_by (starts_with nat_eq t name && ends_word (drop (length name) t)) one token.bad le (omega arith)

word_by : (a b c : Bool) (x y z w : Token) → token_size x ≤ 1 → token_size y ≤ 1 → token_size z ≤ 1 → token_size w ≤ 1 → token_size (cond a x (cond b y (cond c z w))) ≤ 1
word_by true b c x y z w k l m n = k
word_by false true c x y z w k l m n = l
word_by false false true x y z w k l m n = m
word_by false false false x y z w k l m n = n

word_small : (t : List ℕ) → token_size (word t) ≤ 1
unfolding word
word_small t =
    word_by (head t == 116) (head t == 102) (head t == 110) (literal ascii.true_text (token.boolean true) t) (literal ascii.false_text (token.boolean false) t) (literal ascii.null_text token.null t) (number_before t (after_number t))
    (literal_small ascii.true_text (token.boolean true) t (omega arith)) (literal_small ascii.false_text (token.boolean false) t (omega arith)) (literal_small ascii.null_text token.null t (omega arith)) (number_small t (after_number t))

string_small : (n : ℕ) (s : Option (List ℕ)) → AtMost n s → token_size (string_token s) ≤ suc n
string_small n None most = omega arith
string_small n (Some s) most = omega (arith, most)

module _ (x : ℕ) (xs : List ℕ) (k : Mode → List Lexeme) (j : Mode → ℕ) (n : ℕ) (h : (next : Mode) → total (k next) + j next ≤ n) (string : token_size (string_token (content plain xs)) ≤ suc (j lexing.in_string)) where
  byte_fits : (m : Mode) (c : Class) → total (lex_byte m c x xs k) + span_byte m c j ≤ suc n
  byte_fits lexing.between lexing.quote = omega (arith, string, h lexing.in_string)
  byte_fits lexing.between lexing.backslash = omega (arith, h lexing.in_word)
  byte_fits lexing.between lexing.operator = omega (arith, operator_small x, h lexing.between)
  byte_fits lexing.between lexing.space = omega (arith, h lexing.between)
  byte_fits lexing.between lexing.other = omega (arith, word_small (x ∷ xs), h lexing.in_word)
  byte_fits lexing.in_word lexing.quote = omega (arith, h lexing.in_word)
  byte_fits lexing.in_word lexing.backslash = omega (arith, h lexing.in_word)
  byte_fits lexing.in_word lexing.operator = omega (arith, operator_small x, h lexing.between)
  byte_fits lexing.in_word lexing.space = omega (arith, h lexing.between)
  byte_fits lexing.in_word lexing.other = omega (arith, h lexing.in_word)
  byte_fits lexing.in_string lexing.quote = omega (arith, h lexing.between)
  byte_fits lexing.in_string lexing.backslash = omega (arith, h lexing.in_escape)
  byte_fits lexing.in_string lexing.operator = omega (arith, h lexing.in_string)
  byte_fits lexing.in_string lexing.space = omega (arith, h lexing.in_string)
  byte_fits lexing.in_string lexing.other = omega (arith, h lexing.in_string)
  byte_fits lexing.in_escape c = omega (arith, h lexing.in_string)

lex_fits : (m : Mode) (xs : List ℕ) → total (lex m xs) + span m xs ≤ length xs
unfolding lex span
lex_fits m [] = omega arith
lex_fits m (x ∷ xs) = byte_fits x xs (λ next. lex next xs) (λ next. span next xs) (length xs) (λ next. lex_fits next xs) (string_small (span lexing.in_string xs) (content plain xs) (content-span plain xs)) m (class x)

allowed_fits : (b : Bool) (t : Token) (k : Place → List Token) (next : Place) (n : ℕ) → ((p : Place) → weight (k p) ≤ n) → weight (if_allowed b t k next) ≤ token_size t + n
allowed_fits true t k next n h = omega (arith, h next)
allowed_fits false t k _ n h = omega (arith, some_size t)

placed_fits : (p : Place) (t : Token) (b : Bool) (k : Place → List Token) (n : ℕ) → ((next : Place) → weight (k next) ≤ n) → weight (place_token p t b k) ≤ token_size t + n
placed_fits p token.begin_object b k n h = allowed_fits _ token.begin_object k _ n h
placed_fits p token.end_object b k n h = allowed_fits _ token.end_object k _ n h
placed_fits p token.begin_array b k n h = allowed_fits _ token.begin_array k _ n h
placed_fits p token.end_array b k n h = allowed_fits _ token.end_array k _ n h
placed_fits p (token.key s) b k n h = omega arith
placed_fits p (token.string s) true k n h = allowed_fits _ (token.key s) k _ n h
placed_fits p (token.string s) false k n h = allowed_fits _ (token.string s) k _ n h
placed_fits p (token.number s) b k n h = allowed_fits _ (token.number s) k _ n h
placed_fits p (token.boolean c) b k n h = allowed_fits _ (token.boolean c) k _ n h
placed_fits p token.null b k n h = allowed_fits _ token.null k _ n h
placed_fits p token.bad b k n h = omega arith

-- a text that breaks off has a token more
punctuated_fits : (p : Place) (ls : List Lexeme) → weight (punctuate p ls) ≤ suc (total ls)
unfolding punctuate
punctuated_fits lexing.fresh [] = omega arith
punctuated_fits lexing.after_value [] = omega arith
punctuated_fits lexing.after_comma [] = omega arith
punctuated_fits lexing.after_key [] = omega arith
punctuated_fits lexing.fresh (lexing.token t ∷ ls) = omega (arith, placed_fits lexing.fresh t (begins_colon ls) (λ next. punctuate next ls) (suc (total ls)) (λ next. punctuated_fits next ls))
punctuated_fits lexing.after_value (lexing.token t ∷ ls) = omega (arith, placed_fits lexing.after_value t (begins_colon ls) (λ next. punctuate next ls) (suc (total ls)) (λ next. punctuated_fits next ls))
punctuated_fits lexing.after_comma (lexing.token t ∷ ls) = omega (arith, placed_fits lexing.after_comma t (begins_colon ls) (λ next. punctuate next ls) (suc (total ls)) (λ next. punctuated_fits next ls))
punctuated_fits lexing.after_key (lexing.token t ∷ ls) = omega (arith, placed_fits lexing.after_key t (begins_colon ls) (λ next. punctuate next ls) (suc (total ls)) (λ next. punctuated_fits next ls))
punctuated_fits lexing.fresh (lexing.comma ∷ ls) = omega arith
punctuated_fits lexing.after_value (lexing.comma ∷ ls) = omega (arith, punctuated_fits lexing.after_comma ls)
punctuated_fits lexing.after_comma (lexing.comma ∷ ls) = omega arith
punctuated_fits lexing.after_key (lexing.comma ∷ ls) = omega arith
punctuated_fits lexing.fresh (lexing.colon ∷ ls) = omega arith
punctuated_fits lexing.after_value (lexing.colon ∷ ls) = omega arith
punctuated_fits lexing.after_comma (lexing.colon ∷ ls) = omega arith
punctuated_fits lexing.after_key (lexing.colon ∷ ls) = omega (arith, punctuated_fits lexing.fresh ls)

tokens_fit : (text : List ℕ) → weight (tokens text) ≤ suc (length text)
tokens_fit text = omega (arith, punctuated_fits lexing.fresh (lex lexing.between text), lex_fits lexing.between text)

-- ---- numbers are told and keys joined: no value more

abbrev IsWithin : {A : Type 0} → (A → ℕ) → ℕ → Option A → Type 0
IsWithin size n None = Unit {0}
IsWithin size n (Some a) = size a ≤ n

weaker_within : {A : Type 0} (size : A → ℕ) (m n : ℕ) (o : Option A) → IsWithin size m o → m ≤ n → IsWithin size n o
weaker_within _ m n None fits le = tt
weaker_within _ m n (Some a) fits le = omega arith

mapped_within : {A B : Type 0} (small : A → ℕ) (large : B → ℕ) (f : A → B) (extra m n : ℕ) (o : Option A) → ((a : A) → large (f a) ≡ extra + small a)
    → IsWithin small m o → extra + m ≤ n → IsWithin large n (option_map f o)
mapped_within _ _ f _ m n None same fits le = tt
mapped_within _ _ f _ m n (Some a) same fits le = omega arith

number_within : (o : Option values.Num) → IsWithin size_of 1 (option_map values.number o)
number_within None = tt
number_within (Some n) = omega arith

order_within : (o : Ordering) (n : ℕ) (a b c : values.Members) → size_of_members a ≤ n → size_of_members b ≤ n → size_of_members c ≤ n
    → size_of_members (match_ordering o a b c) ≤ n
order_within Less n a b c x y z = x
order_within Equal n a b c x y z = y
order_within Greater n a b c x y z = z

put_within : (k : List ℕ) (d : Data) (ms : values.Members) → size_of_members (put k d ms) ≤ length k + (size_of d + size_of_members ms)
put_within k d values.no_members = omega arith
put_within k d (values.member l e ms) =
    order_within _ _ (values.member k d (values.member l e ms)) (values.member l d ms) (values.member l e (put k d ms))
    (omega arith) (omega arith) (omega (arith, put_within k d ms))

item_within : (n m : ℕ) (js : Items) (o : Option Data) → IsWithin size_of n o → IsWithin size_of_items m (of_items js)
    → IsWithin size_of_items (n + m) (option_and_then (λ d. option_map (values.item d) (of_items js)) o)
item_within n m _ None within others = tt
item_within n m _ (Some d) within others = mapped_within _ _ _ _ m _ _ (λ a. refl) others (omega arith)

member_within : (n m : ℕ) (k : List ℕ) (ms : Members) (found : values.Members) (o : Option Data) → IsWithin size_of n o
    → ((more : values.Members) → IsWithin size_of_members (m + size_of_members more) (of_members ms more))
    → IsWithin size_of_members (length k + (n + m) + size_of_members found) (option_and_then (λ d. of_members ms (put k d found)) o)
member_within n m k _ _ None within others = tt
member_within n m k ms found (Some d) within others =
    weaker_within _ _ _ _ (others (put k d found))
    (omega (arith, put_within k d found))

mutual
  told_within : (j : Json) → IsWithin size_of (json_size j) (of_json j)
  told_within json.null = omega arith
  told_within (json.boolean b) = omega arith
  told_within (json.number s) = number_within _
  told_within (json.string s) = omega arith
  told_within (json.array js) = mapped_within _ _ _ 1 _ _ _ (λ a. omega arith) (items_within js) (omega arith)
  told_within (json.object ms) = mapped_within _ _ _ 1 (members_size ms) (suc (members_size ms)) (of_members ms values.no_members) (λ a. omega arith)
      (weaker_within size_of_members (members_size ms + 0) (members_size ms) (of_members ms values.no_members) (members_within ms values.no_members) (omega arith)) (omega arith)

  items_within : (js : Items) → IsWithin size_of_items (items_size js) (of_items js)
  items_within json.no_items = omega arith
  items_within (json.item j js) = item_within _ (items_size js) js _ (told_within j) (items_within js)

  members_within : (ms : Members) (found : values.Members) → IsWithin size_of_members (members_size ms + size_of_members found) (of_members ms found)
  members_within json.no_members found = omega arith
  members_within (json.member k j ms) found =
      member_within _ (members_size ms) k ms found _ (told_within j) (λ more. members_within ms more)

-- ---- a whole text

last_within : (n : ℕ) (j : Json) (ts : List Token) → json_size j ≤ n → IsWithin json_size n (if_last j ts)
last_within n j [] fits = fits
last_within n j (t ∷ ts) fits = tt

document_within : (n : ℕ) (o : Option (Json × List Token)) → Fits json_size n o → IsWithin json_size n (option_and_then (λ p. if_last p.0 p.1) o)
document_within n None fits = tt
document_within n (Some p) fits = last_within n _ _ (omega arith)

read_within : (n : ℕ) (o : Option Json) → IsWithin json_size n o → IsWithin size_of n (option_and_then of_json o)
read_within n None fits = tt
read_within n (Some j) fits = weaker_within size_of (json_size j) n _ (told_within j) fits

text_within : (text : List ℕ) → IsWithin size_of (suc (length text)) (read text)
text_within text =
    read_within _ _
    (document_within _ _ (weaker_fits _ _ _ _ (value_fits _ (tokens text)) (tokens_fit _)))

-- The value of a text has one value or byte more than the text has bytes, at most.
pub reads_few : (text : List ℕ) (v : Data) → read text ≡ Some v → size_of v ≤ suc (length text)
reads_few text v is = subst (IsWithin size_of (suc (length text))) is (text_within _)
