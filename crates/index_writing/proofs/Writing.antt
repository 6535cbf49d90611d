-- Lists that are written stand where they were written.
use Rattle.std.proofs.Common.{◌≡◌, ℕ, ◌+◌, ◌*◌, ◌^◌, ◌<◌, ◌≤◌, List, [], ◌∷◌, ◌++◌, length, Option, Some, None, Result, Ok, Err, refl, sym, ap, subst, ◌∙◌, append_assoc, length-append, arith, inl, inr}
use Rattle.std.proofs.lemmas.Bool.{cases_lt, le-ltb, lt-ltb}
use Rattle.std.specs.Prelude.{OnOk}
use Rattle.std.specs.Int.{Width, byte_len, w32, w64, to_be_bytes}
use Rattle.std.specs.List.{All, AllByRecursion, flat_map}
use Rattle.std.specs.Str.{IsUtf8}
use Rattle.std.specs.Ordering.{nat_cmp}
use Rattle.base.specs.Order.{ComesAfter}
use Rattle.std.proofs.lemmas.List.{append-nil}
use Rattle.std.proofs.lemmas.List.Elements.{recursion_from_All}
use Rattle.std.proofs.lemmas.List.Concat.{flat_map-cons}
use Rattle.base.specs.Grammar.{AreTexts}
use Rattle.wire_bytes.specs.FieldTexts.{IsFixed}
use Rattle.wire_bytes.specs.Written.{uvarint_text, groups_text}
use Rattle.wire_bytes.proofs.GroupTexts.{uvarint_text_is}
use Rattle.index_parts.specs.Turns.{AreInTurn, InOrderAfter, InOrder}
use Rattle.index_parts.specs.Framed.{IsSection, IsText, text_field}
use Rattle.index_parts.specs.Lists.{IsList, list_content}
use Rattle.index_parts.specs.Symbols.{IsNextSymbol}
use Rattle.index_parts.specs.Postings.{IsNextPosting, IsPostings}
use Rattle.wire_bytes.specs.Crc.{crc}
use Rattle.label_sets.specs.Labels.{compare_texts}
use Rattle.index_parts.specs.declared.toc_reading.Toc.{Toc}
use Rattle.index_parts.specs.declared.postings_row.PostingsRow.{PostingsRow}
use Rattle.index_parts.specs.Contents.{references_of, IsToc, references_text}
use Rattle.index_parts.specs.Rows.{MayComeAfter, IsNextRow, IsWritable, row_text}
use Rattle.index_parts.specs.LabelIndices.{IsLabelIndex, label_index_content}

-- the content that was appended, by how it was made
pub same_content : {X : Type 0} (text_of : X → List ℕ) (index : List ℕ) (at : ℕ) (lent made : List ℕ) (seen given : X) → IsSection index at lent → lent ≡ made → made ≡ text_of seen → seen ≡ given → IsSection index at (text_of given)
same_content text_of index at _ _ _ _ section a b c = subst (IsSection index at) (a ∙ b ∙ ap text_of c) section

-- ---- how many there are

pub few_members : {A : Type 0} (text_of : A → List ℕ) → ((x : A) → 1 ≤ length (text_of x)) → (xs : List A) → length xs ≤ length (flat_map text_of xs)
few_members _ one [] = omega arith
few_members text_of one (x ∷ xs) = omega (arith, one x, few_members text_of one xs, ap length (flat_map-cons text_of x xs), length-append (text_of x) (flat_map text_of xs))

pub count_fits : {A : Type 0} (text_of : A → List ℕ) → ((x : A) → 1 ≤ length (text_of x)) → (xs : List A) → length (list_content text_of xs) < 2 ^ 32 → length xs < 2 ^ 32
count_fits text_of one xs fits = omega (arith, few_members text_of one xs, length-append (to_be_bytes w32 (length xs)) (flat_map text_of xs))

-- ---- members in turn

-- Members of this kind may be written so: each takes a byte at least, and is the next one where it may follow.
pub record IsWrittenBy {A : Type 0} (IsNext : Option A → List ℕ → A → Type 0) (Follows : Option A → A → Type 0) (Fits : A → Type 0) (text_of : A → List ℕ) : Type 0 where
  pub some : (x : A) → 1 ≤ length (text_of x)
  pub one : (before : Option A) (x : A) → Follows before x → Fits x → length (text_of x) < 2 ^ 32 → IsNext before (text_of x) x

module _ {A : Type 0} (IsNext : Option A → List ℕ → A → Type 0) (Follows : Option A → A → Type 0) (Fits : A → Type 0) (text_of : A → List ℕ) (w : IsWrittenBy IsNext Follows Fits text_of) where
  turns_written : (before : Option A) (xs : List A) → InOrderAfter Follows before xs → AllByRecursion Fits xs → length (flat_map text_of xs) < 2 ^ 32 → AreInTurn IsNext before (flat_map text_of xs) xs
  turns_written before [] order fit small = refl
  turns_written before (x ∷ xs) order fit small =
      let whole = ap length (flat_map-cons text_of x xs) ∙ length-append (text_of x) (flat_map text_of xs) in
      (text_of x, flat_map text_of xs, w.one before x order.0 fit.0 (omega arith), turns_written (Some x) xs order.1 fit.1 (omega arith), flat_map-cons text_of x xs)

  pub list_stands : (index : List ℕ) (at : ℕ) (xs : List A) → length (list_content text_of xs) < 2 ^ 32 → AllByRecursion Fits xs → InOrder Follows xs → IsSection index at (list_content text_of xs) → IsList IsNext index at xs
  list_stands index at xs small fit order section = record {
    content = list_content text_of xs;
    count = to_be_bytes w32 (length xs);
    texts = flat_map text_of xs;
    left_over = [];
    section = section;
    content_is = sym (append-nil (list_content text_of xs));
    count_is = record { digits = refl; fits = count_fits text_of w.some xs small };
    texts_are = turns_written None xs order fit (omega (arith, length-append (to_be_bytes w32 (length xs)) (flat_map text_of xs)));
  }

  -- from the members that were lent
  pub list_written : {E : Type 0} (r : Result (Unit {0}) E) (index : List ℕ) (at : ℕ) (lent given : List A) → lent ≡ given → length (list_content text_of given) < 2 ^ 32 → OnOk r (AllByRecursion Fits lent) → InOrder Follows given → OnOk r (IsSection index at (list_content text_of lent)) → OnOk r (IsList IsNext index at given)
  list_written (Ok x) index at lent given same small fit order section = list_stands index at given small (subst (λ xs. AllByRecursion Fits xs) same fit) order (subst (λ xs. IsSection index at (list_content text_of xs)) same section)
  list_written (Err e) _ _ _ _ same small fit order section = tt

-- ---- symbols

pub text_written : (text : List ℕ) → IsUtf8 text → length text < 2 ^ 64 → IsText (text_field text) text
text_written text utf8 fits = record { size = uvarint_text (length text); size_is = uvarint_text_is _ fits; utf8 = utf8; bytes_are = refl }

pub uvarint_text_size : (n : ℕ) → 1 ≤ length (uvarint_text n)
unfolding groups_text
uvarint_text_size n =
    elim (cases_lt n 128) [
      | inl low ↦ rw (lt-ltb n 128 low) (omega arith)
      | inr large ↦ rw (le-ltb n 128 large) (omega arith)
    ]

pub text_field_size : (text : List ℕ) → 1 ≤ length (text_field text)
text_field_size text = omega (arith, uvarint_text_size (length text), length-append (uvarint_text (length text)) text)

pub symbol_writing : IsWrittenBy IsNextSymbol (ComesAfter compare_texts) IsUtf8 text_field
symbol_writing = record {
  some = text_field_size;
  one = λ before x follows utf8 small. record { text_is = text_written x utf8 (omega (arith, length-append (uvarint_text (length x)) x)); ascends = follows };
}

-- ---- numbers

number_size : (n : ℕ) → 1 ≤ length (to_be_bytes w32 n)
number_size n = omega arith

pub posting_writing : IsWrittenBy IsNextPosting (ComesAfter nat_cmp) (λ n. n < 2 ^ 32) (to_be_bytes w32)
posting_writing = record { some = number_size; one = λ before n rises fits small. record { text_is = record { digits = refl; fits = fits }; rises = rises } }

pub postings_stand : (index : List ℕ) (at : ℕ) (numbers : List ℕ) → length (list_content (to_be_bytes w32) numbers) < 2 ^ 32 → All (λ number. number < 2 ^ 32) numbers → InOrder (ComesAfter nat_cmp) numbers → IsSection index at (list_content (to_be_bytes w32) numbers) → IsPostings index at numbers
postings_stand index at numbers small all order section = list_stands IsNextPosting (ComesAfter nat_cmp) (λ n. n < 2 ^ 32) (to_be_bytes w32) posting_writing index at numbers small (recursion_from_All (λ n. n < 2 ^ 32) _ all) order section

fixed_written : (w : Width) (numbers : List ℕ) → AllByRecursion (λ n. n < 2 ^ (8 * byte_len w)) numbers → AreTexts (IsFixed w) (flat_map (to_be_bytes w) numbers) numbers
fixed_written w [] all = refl
fixed_written w (n ∷ numbers) all = (to_be_bytes w n, flat_map (to_be_bytes w) numbers, record { digits = refl; fits = all.0 }, fixed_written w numbers all.1, flat_map-cons (to_be_bytes w) n _)

pub values_few : (values : List ℕ) → length (label_index_content values) < 2 ^ 32 → length values < 2 ^ 32
values_few values fits = count_fits (to_be_bytes w32) number_size values (omega (arith, length-append (to_be_bytes w32 1) (list_content (to_be_bytes w32) values)))

pub values_stand : (index : List ℕ) (at : ℕ) (values : List ℕ) → length (label_index_content values) < 2 ^ 32 → All (λ number. number < 2 ^ 32) values → IsSection index at (label_index_content values) → IsLabelIndex index at values
values_stand _ _ values fits all section = record {
  content = label_index_content values;
  one = to_be_bytes w32 1;
  count = to_be_bytes w32 (length values);
  texts = flat_map (to_be_bytes w32) values;
  section = section;
  content_is = sym (append_assoc (to_be_bytes w32 1) (to_be_bytes w32 (length values)) (flat_map (to_be_bytes w32) values));
  one_is = record { digits = refl; fits = omega arith };
  count_is = record { digits = refl; fits = values_few _ fits };
  texts_are = fixed_written _ _ (recursion_from_All (λ n. n < 2 ^ 32) _ all);
}

-- ---- rows

row_text_size : (row : PostingsRow) → 1 ≤ length (row_text row)
row_text_size _ = omega arith

row_written : (before : Option PostingsRow) (x : PostingsRow) → MayComeAfter before x → IsWritable x → length (row_text x) < 2 ^ 32 → IsNextRow before (row_text x) x
row_written _ x follows lawful small =
    let whole : length (row_text x) ≡ 1 + (length (text_field x.name) + length (text_field x.value) + length (uvarint_text x.offset)) = omega (arith, length-append (text_field x.name ++ text_field x.value) (uvarint_text x.offset), length-append (text_field x.name) (text_field x.value)) in
    record {
      name = text_field x.name;
      value = text_field x.value;
      offset = uvarint_text x.offset;
      name_is = text_written x.name lawful.0 (omega (arith, length-append (uvarint_text (length x.name)) x.name));
      value_is = text_written x.value lawful.1 (omega (arith, length-append (uvarint_text (length x.value)) x.value));
      offset_is = uvarint_text_is x.offset lawful.2;
      text_is = refl;
      ascends = follows;
    }

pub row_writing : IsWrittenBy IsNextRow MayComeAfter IsWritable row_text
row_writing = record { some = row_text_size; one = row_written }

-- ---- the table of contents

pub toc_stands : (before index content : List ℕ) (toc : Toc) → AllByRecursion (λ n. n < 2 ^ 64) (references_of toc) → content ≡ references_text toc → crc content < 2 ^ 32 → index ≡ before ++ content ++ to_be_bytes w32 (crc content) → IsToc index toc
unfolding references_text
toc_stands before _ content toc all made sum is = record {
  before = before;
  references = content;
  sum = to_be_bytes w32 (crc content);
  references_are = subst (λ a. AreTexts (IsFixed w64) a (references_of toc)) (sym made) (fixed_written w64 (references_of toc) all);
  sum_is = record { digits = refl; fits = sum };
  stands = is;
}

pub toc_written : {E : Type 0} (r : Result (Unit {0}) E) (before index lent content : List ℕ) (toc : Toc) → AllByRecursion (λ n. n < 2 ^ 64) (references_of toc) → lent ≡ content → content ≡ references_text toc → OnOk r (crc lent < 2 ^ 32) → OnOk r (index ≡ before ++ lent ++ to_be_bytes w32 (crc lent)) → OnOk r (IsToc index toc)
toc_written (Ok x) before index lent content _ all a b sum is = toc_stands _ _ _ _ all (a ∙ b) sum is
toc_written (Err d) _ _ _ _ _ all a b sum is = tt
