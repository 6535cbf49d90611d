-- Label sets as text: `{name="value",other="value"}`. A name is an ASCII letter or `_`, and then letters, digits or `_`.
-- A value stands in double quotes; in it `\\`, `\"` and `\n` stand for a backslash, a quote and a newline, and nothing else
-- follows a backslash, and no newline stands for itself. Nothing stands between the parts. Where a text is read, the place
-- of a `BadText` counts the bytes that are left; only `read_set` makes it the place from the front.
use Rattle.std.specs.Prelude.{ℕ, zero, suc, ◌-◌, List, [], ◌∷◌, ◌++◌, length, take, drop, Bool, true, false, ◌&&◌, ◌||◌, ◌==◌, Result, Ok, Err, if◌then◌else◌, nat_lt}
use Rattle.std.specs.Char.{is_ascii_alphabetic, is_ascii_digit}
use Rattle.std.specs.List.{prefix_len, flat_map, list_all}
use Rattle.base.specs.Reading.{◌>>=◌, ◌>>◌, unless}
use Rattle.base.specs.Lines.{line_feed}
use Rattle.label_sets.specs.Characters.{double_quote, comma, equals_sign, backslash, underscore, letter_n, open_brace, close_brace}
use Rattle.label_sets.specs.declared.label.Label.{Label}
use Rattle.label_sets.specs.declared.label_refusal.LabelRefusal.{LabelRefusal}
use Rattle.label_sets.specs.declared.label_refusal.LabelRefusal.TheVariants.{EmptyName, EmptyValue, Repeated, BadText, NoMemory}
use Rattle.label_sets.specs.Labels.{names_of, has_lesser_name}
use Rattle.label_sets.specs.Ordered.{in_order}
use Rattle.label_sets.specs.Finals.{is_among}

-- ---- the text of a set

abbrev pub is_name_start : ℕ → Bool
is_name_start byte = is_ascii_alphabetic byte || byte == underscore

abbrev pub is_name_byte : ℕ → Bool
is_name_byte byte = is_name_start byte || is_ascii_digit byte

unfoldable pub is_name : List ℕ → Bool
is_name [] = false
is_name (byte ∷ bytes) = is_name_start byte && list_all is_name_byte bytes

-- what stands in quotes for a byte of a value
unfoldable pub quoted_byte : ℕ → List ℕ
quoted_byte byte =
    if byte == backslash then backslash ∷ backslash ∷ []
    else (if byte == double_quote then backslash ∷ double_quote ∷ []
    else (if byte == line_feed then backslash ∷ letter_n ∷ []
    else byte ∷ []))

-- what stands in quotes for a value
unfoldable pub quoted : List ℕ → List ℕ
quoted value = flat_map quoted_byte value

-- `name="value"`
unfoldable pub pair_text : Label → List ℕ
pair_text label = label.name ++ equals_sign ∷ double_quote ∷ quoted label.value ++ double_quote ∷ []

-- the same after a comma
unfoldable pub comma_pair_text : Label → List ℕ
comma_pair_text label = comma ∷ pair_text label

-- the pairs, with a comma before each but the first
unfoldable pub pairs_text : List Label → List ℕ
pairs_text [] = []
pairs_text (label ∷ labels) = pair_text label ++ flat_map comma_pair_text labels

-- the labels in braces, in this order
unfoldable pub set_text : List Label → List ℕ
set_text labels = open_brace ∷ pairs_text labels ++ close_brace ∷ []

-- ---- reading

-- goes on past this byte
unfoldable pub rest_past : ℕ → List ℕ → Result (List ℕ) LabelRefusal
rest_past byte [] = Err (BadText 0)
rest_past byte (first ∷ text) = if first == byte then Ok text else Err (BadText (length (first ∷ text)))

-- how long the longest name at the front of a text is
unfoldable pub name_length : List ℕ → ℕ
name_length [] = 0
name_length (byte ∷ text) = if is_name_start byte then prefix_len is_name_byte (byte ∷ text) else 0

-- that name, which may be empty
unfoldable pub name_at : List ℕ → List ℕ
name_at text = take (name_length text) text

-- the same value with a byte before it
unfoldable pub with_byte : ℕ → Result (List ℕ × List ℕ) LabelRefusal → Result (List ℕ × List ℕ) LabelRefusal
with_byte byte (Ok read) = Ok (byte ∷ read.0, read.1)
with_byte byte (Err refusal) = Err refusal

-- The value that stands in front of a closing quote, and what follows the quote. The flag tells that the byte before the
-- text is a backslash.
unfoldable pub value_at : Bool → List ℕ → Result (List ℕ × List ℕ) LabelRefusal
value_at escaping [] = Err (BadText 0)
value_at true (byte ∷ text) =
    if byte == letter_n then with_byte line_feed (value_at false text)
    else (if byte == backslash || byte == double_quote then with_byte byte (value_at false text)
    else Err (BadText (length (byte ∷ text))))
value_at false (byte ∷ text) =
    if byte == double_quote then Ok ([], text)
    else (if byte == line_feed then Err (BadText (length (byte ∷ text)))
    else (if byte == backslash then value_at true text
    else with_byte byte (value_at false text)))

-- the label of the pair at the front of a text, and what follows the pair
unfoldable pub pair_at : List ℕ → Result (Label × List ℕ) LabelRefusal
pair_at text = do
  after ← rest_past equals_sign (drop (name_length text) text)
  unless (nat_lt 0 (name_length text)) EmptyName
  inside ← rest_past double_quote after
  value ← value_at false inside
  unless (nat_lt 0 (length value.0)) EmptyValue
  Ok (record { name = name_at text; value = value.0 }, value.1)

-- The labels that were read, in the order of the text, and what follows them; or why reading stopped, and what was left
-- from the pair on in which it did.
abbrev pub Walk : Type 0
Walk = List Label × Result (List ℕ) (LabelRefusal × List ℕ)

unfoldable pub with_label : Label → Walk → Walk
with_label label walk = (label ∷ walk.0, walk.1)

-- nothing goes on here
unfoldable pub stopped_at : List ℕ → Walk
stopped_at text = ([], Err (BadText (length text), []))

-- after a pair: a comma and more, or the closing brace
unfoldable pub at_end : List ℕ → Result (List ℕ) LabelRefusal → Walk
at_end text (Ok after) = ([], Ok after)
at_end text (Err refusal) = stopped_at text

unfoldable pub end_at : List ℕ → Walk
end_at text = at_end text (rest_past close_brace text)

unfoldable pub at_comma : (List ℕ → Walk) → List ℕ → Result (List ℕ) LabelRefusal → Walk
at_comma more text (Ok next) = more next
at_comma more text (Err refusal) = end_at text

unfoldable pub after_pair : (List ℕ → Walk) → List ℕ → Walk
after_pair more text = at_comma more text (rest_past comma text)

unfoldable pub on_pair : (List ℕ → Walk) → List ℕ → Result (Label × List ℕ) LabelRefusal → Walk
on_pair more text (Ok read) = with_label read.0 (after_pair more read.1)
on_pair more text (Err refusal) = ([], Err (refusal, text))

-- the pairs up to the braces' end, of which there are at most so many
unfoldable pub pairs_at : ℕ → List ℕ → Walk
pairs_at zero text = stopped_at text
pairs_at (suc n) text = on_pair (pairs_at n) text (pair_at text)

-- what stands after the opening brace: the closing one, or pairs
unfoldable pub after_brace : List ℕ → Result (List ℕ) LabelRefusal → Walk
after_brace text (Ok after) = ([], Ok after)
after_brace text (Err refusal) = pairs_at (suc (length text)) text

unfoldable pub at_brace : List ℕ → Result (List ℕ) LabelRefusal → Walk
at_brace text (Ok inside) = after_brace inside (rest_past close_brace inside)
at_brace text (Err refusal) = stopped_at text

-- the whole set
unfoldable pub walk_at : List ℕ → Walk
walk_at text = at_brace text (rest_past open_brace text)

-- whether some name stands twice
unfoldable pub repeats : List (List ℕ) → Bool
repeats [] = false
repeats (name ∷ names) = is_among names name || repeats names

-- a refusal with its place from the front
unfoldable pub placed_at : ℕ → LabelRefusal → LabelRefusal
placed_at total EmptyName = EmptyName
placed_at total EmptyValue = EmptyValue
placed_at total Repeated = Repeated
placed_at total (BadText left) = BadText (total - left)
placed_at total NoMemory = NoMemory

-- A name that stands twice is refused where it is read, which is before all that follows it.
unfoldable pub conclusion : ℕ → List Label → Result (List ℕ) (LabelRefusal × List ℕ) → Result (List Label × ℕ) LabelRefusal
conclusion total labels (Ok after) =
    if repeats (names_of labels) then Err Repeated else Ok (in_order has_lesser_name labels, total - length after)
conclusion total labels (Err stop) =
    if repeats (name_at stop.1 ∷ names_of labels) then Err Repeated else Err (placed_at total stop.0)

-- What reading one set at the front of a text gives: the set and how many bytes it took, or the first refusal.
unfoldable pub read_set : List ℕ → Result (List Label × ℕ) LabelRefusal
read_set text = conclusion (length text) (walk_at text).0 (walk_at text).1
