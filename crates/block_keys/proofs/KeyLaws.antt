-- What ties the text of a key to the key.
use Rattle.std.proofs.Common.{◌≡◌, ◌↔◌, ℕ, ◌+◌, ◌<◌, Bool, true, false, not, Option, None, Some, Result, Ok, Err, cond, eqb, ltb, List, [], ◌∷◌, ◌++◌, map, length, take, drop, ◌⊎◌, inl, inr, ⊎_elim, refl, sym, ap, subst, ◌∙◌, arith, codes, append_assoc, length-append, Ordering}
use Rattle.std.specs.List.{before_first, after_first, position_or_len, list_all}
use Rattle.std.specs.Int.Digits.{AllBelowBase}
use Rattle.std.specs.Cmp.Lexicographic.{slice_cmp}
use Rattle.std.specs.Option.{option_map}
use Rattle.std.specs.Ordering.{nat_cmp, ordering_then}
use Rattle.std.specs.Result.{IfOk, IsErr, result_ok}
use Rattle.std.proofs.lemmas.Bool.{and_parts, ltb-true, true≢false}
use Rattle.std.proofs.lemmas.Option.{none-some, same_Some}
use Rattle.std.proofs.lemmas.Fmt.{IsAscii-from_digits}
use Rattle.std.proofs.Math.Numerals.{one-add}
use Rattle.ulid_core.proofs.AsciiTexts.{IsAscii-ulid_text}
use Rattle.std.specs.Str.{bytes_eq, IsUtf8, IsAscii}
use Rattle.std.proofs.lemmas.Str.{IsUtf8-from_ascii, IsAscii-append}
use Rattle.std.proofs.lemmas.Str.Ascii.{IsAscii-nil, IsAscii-cons}
use Rattle.std.proofs.lemmas.Str.Pattern.{IsSplitOnceResult}
use Rattle.std.proofs.lemmas.Bool.Decides.{nat_tests}
use Rattle.std.proofs.lemmas.List.{length-map}
use Rattle.std.proofs.lemmas.Slice.Eq.{bytes_eq-Decides}
use Rattle.std.proofs.Math.Seq.{take-append_seam, drop-append_seam}
use Rattle.ulid_core.specs.UlidText.{IsUlidText, text_of, ulid_of, character}
use Rattle.ulid_core.specs.declared.ulid.UlidRefusal.{UlidRefusal}
use Rattle.base.proofs.Positional.{then_assoc, then_equal}
use Rattle.ulid_core.proofs.Tables.{character-range}
use Rattle.ulid_core.proofs.UlidLaws.{ulid_of-found, ulid_of-only, IsUlidText-unique, length-text_of}
use Rattle.block_keys.specs.Keys.{key_ulid, key_kind, key_number, key_cmp, IsLawfulKey}
use Rattle.block_keys.specs.KeyText.{IsName, IsKeyText, name_of, key_text, segment_of, key_named, key_within, key_of, is_slash}
use Rattle.block_keys.specs.declared.key.Key.{Key}
use Rattle.block_keys.specs.declared.key.Key.TheVariants.{Meta, Index, Segment, Mark}
use Rattle.block_keys.proofs.SixDigits.{IsSegmentName-six_digits, IsSegmentName-small, IsSegmentName-unique, slice_cmp-six_digits}
use Rattle.block_keys.proofs.NameText.{slash_cases, cut_at_slash, after_first-none, uncut, segment_of-found, segment_of-only, segment_of-none}

-- a choice that gave a key
key_test : (b : Bool) (x y : Option Key) (key : Key) → cond b x y ≡ Some key → ((b ≡ true) × (x ≡ Some key)) ⊎ (y ≡ Some key)
key_test true x y key is = inl (refl, is)
key_test false x y key is = inr is

map_found : (ulid : ℕ) (o : Option ℕ) (key : Key) → option_map (λ n. Segment ulid n) o ≡ Some key → (n : ℕ) × (o ≡ Some n) × (key ≡ Segment ulid n)
map_found ulid None key is = absurd (none-some key is)
map_found ulid (Some n) key is = (n, refl, sym (same_Some (Segment ulid n) key is))

-- a key of the block with the name
abbrev Named : ℕ → List ℕ → Key → Type 0
Named ulid name key = (key_ulid key ≡ ulid) × IsName name key

found_named : (ulid : ℕ) (name : List ℕ) (found key : Key) → Some found ≡ Some key → Named ulid name found → Named ulid name key
found_named ulid name found key e is = subst (Named ulid name) (same_Some found key e) is

key_named-found : (ulid : ℕ) (name : List ℕ) (key : Key) → key_named ulid name ≡ Some key → Named ulid name key
unfolding key_named
key_named-found ulid name key is =
    let segment : option_map (λ n. Segment ulid n) (segment_of name) ≡ Some key → Named ulid name key = λ e.
    let known = map_found ulid (segment_of name) key e in
    subst (Named ulid name) (sym known.2) (refl, segment_of-found name known.0 known.1) in
    let test : (text : List ℕ) → bytes_eq name text ≡ true → name ≡ text = λ text passed. (bytes_eq-Decides name text).0 passed in
    ⊎_elim (λ meta. found_named ulid name (Meta ulid) key meta.1 (refl, test (codes "meta.json") meta.0))
    (λ others. ⊎_elim (λ index. found_named ulid name (Index ulid) key index.1 (refl, test (codes "index") index.0))
    (λ further. ⊎_elim (λ mark. found_named ulid name (Mark ulid) key mark.1 (refl, test (codes "deletion-mark.json") mark.0)) segment
    (key_test (bytes_eq name (codes "deletion-mark.json")) _ _ key further))
    (key_test (bytes_eq name (codes "index")) _ _ key others))
    (key_test (bytes_eq name (codes "meta.json")) _ _ key is)

key_named-nil : (ulid : ℕ) → key_named ulid [] ≡ None
unfolding key_named
key_named-nil ulid = ap (option_map (λ n. Segment ulid n)) (segment_of-none [] refl)

within_found : (r : Result ℕ UlidRefusal) (name : List ℕ) (key : Key) → key_within r name ≡ Some key → (ulid : ℕ) × (r ≡ Ok ulid) × (key_named ulid name ≡ Some key)
within_found (Ok ulid) name key is = (ulid, refl, is)
within_found (Err e) name key is = absurd (none-some key is)

within_nil : (r : Result ℕ UlidRefusal) → key_within r [] ≡ None
within_nil (Ok ulid) = key_named-nil ulid
within_nil (Err e) = refl

pub key_of-none : (text : List ℕ) → position_or_len is_slash text ≡ length text → key_of text ≡ None
unfolding key_of
key_of-none text none = ap (key_within (ulid_of (before_first is_slash text))) (after_first-none text none) ∙ within_nil (ulid_of (before_first is_slash text))

pub key_of-uncut : (text : List ℕ) → IsSplitOnceResult 47 text None → key_of text ≡ None
key_of-uncut text none = key_of-none text (uncut text none)

-- what is read is a key's text
pub key_of-found : (text : List ℕ) (key : Key) → key_of text ≡ Some key → IsKeyText text key
unfolding key_of
key_of-found text key is =
    let parts = within_found (ulid_of (before_first is_slash text)) (after_first is_slash text) key is in
    let block : IsUlidText (before_first is_slash text) parts.0 = ulid_of-found (before_first is_slash text) parts.0 parts.1 in
    let known = key_named-found parts.0 (after_first is_slash text) key parts.2 in
    let found : position_or_len is_slash text < length text → IsKeyText text key = λ some. record {
      block = before_first is_slash text;
      name = after_first is_slash text;
      text_is = cut_at_slash text some ∙ sym (append_assoc (before_first is_slash text) (47 ∷ []) (after_first is_slash text));
      is_block = subst (IsUlidText (before_first is_slash text)) (sym known.0) block;
      is_name = known.1;
    } in
    let empty : position_or_len is_slash text ≡ length text → IsKeyText text key = λ none.
    absurd (none-some key (sym (key_named-nil parts.0) ∙ ap (key_named parts.0) (sym (after_first-none text none)) ∙ parts.2)) in
    ⊎_elim empty found (slash_cases text)

pub before_slash : (digits name : List ℕ) → AllBelowBase 32 digits → position_or_len is_slash (map character digits ++ (47 ∷ name)) ≡ length digits
before_slash [] name all = refl
before_slash (d ∷ digits) name all =
    let range = character-range d all.0 in
    let other : eqb (character d) 47 ≡ false = grind (arith, nat_tests) in
    ap (λ b. cond (not b) (1 + position_or_len is_slash (map character digits ++ (47 ∷ name))) 0) other
    ∙ ap (λ n. 1 + n) (before_slash digits name all.1) ∙ one-add (length digits)

cut : (text : List ℕ) (digits name : List ℕ) → AllBelowBase 32 digits → text ≡ (map character digits ++ codes "/") ++ name
    → (before_first is_slash text ≡ map character digits) × (after_first is_slash text ≡ name)
cut text digits name all is =
    let split : text ≡ map character digits ++ (47 ∷ name) = is ∙ append_assoc (map character digits) (47 ∷ []) name in
    let place : position_or_len is_slash text ≡ length (map character digits) =
    ap (position_or_len is_slash) split ∙ before_slash digits name all ∙ sym (length-map digits character) in
    let longer : length (map character digits) + 1 ≡ length (map character digits ++ codes "/") = sym (length-append (map character digits) (47 ∷ [])) in (
      ap (λ k. take k text) place ∙ ap (take (length (map character digits))) split ∙ take-append_seam (map character digits) (47 ∷ name),
      ap (λ k. drop (k + 1) text) place ∙ ap (drop (length (map character digits) + 1)) is
          ∙ ap (λ k. drop k ((map character digits ++ codes "/") ++ name)) longer ∙ drop-append_seam (map character digits ++ codes "/") name,
    )

key_named-only : (name : List ℕ) (key : Key) → IsName name key → key_named (key_ulid key) name ≡ Some key
unfolding key_named
key_named-only name (Meta ulid) is = rw is refl
key_named-only name (Index ulid) is = rw is refl
key_named-only name (Segment ulid number) is =
    let read : segment_of name ≡ Some number = segment_of-only name number is in
    ap (key_named ulid) is.name_is
    ∙ ap (λ n. option_map (λ m. Segment ulid m) (segment_of n)) (sym is.name_is)
    ∙ ap (option_map (λ m. Segment ulid m)) read
key_named-only name (Mark ulid) is = rw is refl

-- a key's text is read
pub key_of-only : (text : List ℕ) (key : Key) → IsKeyText text key → key_of text ≡ Some key
unfolding key_of
key_of-only text key is =
    let block = is.is_block in
    let whole : text ≡ (map character block.digits ++ codes "/") ++ is.name = is.text_is ∙ ap (λ (b : List ℕ). (b ++ codes "/") ++ is.name) block.characters in
    let parts = cut text block.digits is.name block.below_base whole in
    let read : ulid_of (before_first is_slash text) ≡ Ok (key_ulid key) =
    ap ulid_of (parts.0 ∙ sym block.characters) ∙ ulid_of-only is.block (key_ulid key) block in
    ap (λ r. key_within r (after_first is_slash text)) read ∙ ap (key_named (key_ulid key)) parts.1 ∙ key_named-only is.name key is.is_name

IsLawfulKey-name : (name : List ℕ) (key : Key) → IsName name key → IsLawfulKey key
IsLawfulKey-name name (Meta ulid) is = tt
IsLawfulKey-name name (Index ulid) is = tt
IsLawfulKey-name name (Segment ulid number) is = (is.first, IsSegmentName-small name number is)
IsLawfulKey-name name (Mark ulid) is = tt

pub IsLawfulKey-text : (text : List ℕ) (key : Key) → IsKeyText text key → IsLawfulKey key
IsLawfulKey-text text key is = IsLawfulKey-name is.name key is.is_name

pub IsName-name_of : (key : Key) → IsLawfulKey key → IsName (name_of key) key
unfolding name_of
IsName-name_of (Meta ulid) lawful = refl
IsName-name_of (Index ulid) lawful = refl
IsName-name_of (Segment ulid number) lawful = IsSegmentName-six_digits number lawful.0 lawful.1
IsName-name_of (Mark ulid) lawful = refl

pub IsKeyText-key_text : (key : Key) → IsLawfulKey key → IsUlidText (text_of (key_ulid key)) (key_ulid key) → IsKeyText (key_text key) key
unfolding key_text
IsKeyText-key_text key lawful is = record { block = text_of (key_ulid key); name = name_of key; text_is = refl; is_block = is; is_name = IsName-name_of key lawful }

name_of-unique : (name : List ℕ) (key : Key) → IsName name key → name ≡ name_of key
unfolding name_of
name_of-unique name (Meta ulid) is = is
name_of-unique name (Index ulid) is = is
name_of-unique name (Segment ulid number) is = IsSegmentName-unique name number is
name_of-unique name (Mark ulid) is = is

pub IsKeyText-written : (text : List ℕ) (key : Key) → IsLawfulKey key → IsUlidText (text_of (key_ulid key)) (key_ulid key) → text ≡ key_text key → IsKeyText text key
IsKeyText-written text key lawful block is = subst (λ t. IsKeyText t key) (sym is) (IsKeyText-key_text key lawful block)

-- a key has one text
pub IsKeyText-unique : (text : List ℕ) (key : Key) → IsKeyText text key → text ≡ key_text key
unfolding key_text
IsKeyText-unique text key is =
    is.text_is ∙ ap (λ (b : List ℕ). (b ++ codes "/") ++ is.name) (IsUlidText-unique is.block (key_ulid key) is.is_block)
    ∙ ap (λ (n : List ℕ). (text_of (key_ulid key) ++ codes "/") ++ n) (name_of-unique is.name key is.is_name)

-- what a result says of the text, where its key is the one that is read
pub IfOk-key_text : {E : Type 0} (text : List ℕ) (r : Result Key E) → result_ok r ≡ key_of text → IfOk r (IsKeyText text)
IfOk-key_text text (Ok key) is = key_of-found text key (sym is)
IfOk-key_text text (Err e) is = tt

pub IfOk-lawful : {E : Type 0} (text : List ℕ) (r : Result Key E) → result_ok r ≡ key_of text → IfOk r IsLawfulKey
IfOk-lawful text (Ok key) is = IsLawfulKey-text text key (key_of-found text key (sym is))
IfOk-lawful text (Err e) is = tt

pub IfOk-one_text : {E : Type 0} (text : List ℕ) (r : Result Key E) → result_ok r ≡ key_of text → IfOk r (λ key. text ≡ key_text key)
IfOk-one_text text (Ok key) is = IsKeyText-unique text key (key_of-found text key (sym is))
IfOk-one_text text (Err e) is = tt

pub Ok-key_text : {E : Type 0} (text : List ℕ) (r : Result Key E) → result_ok r ≡ key_of text → (key : Key) → IsKeyText text key → r ≡ Ok key
Ok-key_text text (Ok read) is key of_key = ap Ok (same_Some read key (is ∙ key_of-only text key of_key))
Ok-key_text text (Err e) is key of_key = absurd (none-some key (is ∙ key_of-only text key of_key))

pub IsErr-key_text : {E : Type 0} (text : List ℕ) (r : Result Key E) → result_ok r ≡ key_of text → IsErr r ↔ ((key : Key) → ¬ IsKeyText text key)
IsErr-key_text text (Ok key) is = (λ e. absurd (true≢false (sym e)), λ none. absurd (none key (key_of-found text key (sym is))))
IsErr-key_text text (Err e) is = (λ r key of_key. none-some key (is ∙ key_of-only text key of_key), λ none. refl)

IsAscii-tested : (text : List ℕ) → list_all (λ c. ltb c 128) text ≡ true → IsAscii text
IsAscii-tested [] all = IsAscii-nil
IsAscii-tested (c ∷ text) all =
    let parts = and_parts (ltb c 128) (list_all (λ c. ltb c 128) text) all in
    IsAscii-cons c text (ltb-true c 128 parts.0) (IsAscii-tested text parts.1)

IsAscii-name : (name : List ℕ) (key : Key) → IsName name key → IsAscii name
IsAscii-name name (Meta ulid) is = rw is (IsAscii-tested (codes "meta.json") refl)
IsAscii-name name (Index ulid) is = rw is (IsAscii-tested (codes "index") refl)
IsAscii-name name (Segment ulid number) is =
    rw is.name_is (IsAscii-append (codes "chunks/") is.digits (IsAscii-tested (codes "chunks/") refl) (IsAscii-from_digits is.digits is.decimal))
IsAscii-name name (Mark ulid) is = rw is (IsAscii-tested (codes "deletion-mark.json") refl)

pub IsUtf8-key_text : (text : List ℕ) (key : Key) → IsKeyText text key → IsUtf8 text
IsUtf8-key_text text key is =
    let block = IsAscii-ulid_text is.block (key_ulid key) is.is_block in
    let front : IsAscii (is.block ++ codes "/") = IsAscii-append is.block (codes "/") block (IsAscii-tested (codes "/") refl) in
    IsUtf8-from_ascii text (rw is.text_is (IsAscii-append (is.block ++ codes "/") is.name front (IsAscii-name is.name key is.is_name)))

pub IsUtf8-key_text_of : (text : List ℕ) (key : Key) → IsLawfulKey key → IsUlidText (text_of (key_ulid key)) (key_ulid key) → text ≡ key_text key → IsUtf8 text
IsUtf8-key_text_of text key lawful block is = IsUtf8-key_text text key (IsKeyText-written text key lawful block is)

-- two keys have one text only where they are one
pub key_text-distinct : (one other : Key) → IsKeyText (key_text one) one → IsKeyText (key_text other) other → key_text one ≡ key_text other → one ≡ other
key_text-distinct one other is_one is_other same =
    same_Some one other (sym (key_of-only (key_text one) one is_one) ∙ ap key_of same ∙ key_of-only (key_text other) other is_other)

-- lists that begin with equally many others
cmp-append : (xs ys vs ws : List ℕ) → length xs ≡ length ys
    → slice_cmp nat_cmp (xs ++ vs) (ys ++ ws) ≡ ordering_then (slice_cmp nat_cmp xs ys) (slice_cmp nat_cmp vs ws)
cmp-append [] [] vs ws same = refl
cmp-append [] (y ∷ ys) vs ws same = absurd (omega arith)
cmp-append (x ∷ xs) [] vs ws same = absurd (omega arith)
cmp-append (x ∷ xs) (y ∷ ys) vs ws same =
    ap (λ o. ordering_then (nat_cmp x y) o) (cmp-append xs ys vs ws (omega arith))
    ∙ sym (then_assoc (nat_cmp x y) (slice_cmp nat_cmp xs ys) (slice_cmp nat_cmp vs ws))

abbrev name_cmp : Key → Key → Ordering
name_cmp one other = ordering_then (nat_cmp (key_kind one) (key_kind other)) (nat_cmp (key_number one) (key_number other))

cmp-names : (one other : Key) → IsLawfulKey one → IsLawfulKey other → slice_cmp nat_cmp (name_of one) (name_of other) ≡ name_cmp one other
unfolding name_of
cmp-names (Meta u) (Meta v) lawful_one lawful_other = refl
cmp-names (Meta u) (Index v) lawful_one lawful_other = refl
cmp-names (Meta u) (Segment v n) lawful_one lawful_other = refl
cmp-names (Meta u) (Mark v) lawful_one lawful_other = refl
cmp-names (Index u) (Meta v) lawful_one lawful_other = refl
cmp-names (Index u) (Index v) lawful_one lawful_other = refl
cmp-names (Index u) (Segment v n) lawful_one lawful_other = refl
cmp-names (Index u) (Mark v) lawful_one lawful_other = refl
cmp-names (Segment u m) (Meta v) lawful_one lawful_other = refl
cmp-names (Segment u m) (Index v) lawful_one lawful_other = refl
cmp-names (Segment u m) (Segment v n) lawful_one lawful_other = slice_cmp-six_digits m n lawful_one.1 lawful_other.1
cmp-names (Segment u m) (Mark v) lawful_one lawful_other = refl
cmp-names (Mark u) (Meta v) lawful_one lawful_other = refl
cmp-names (Mark u) (Index v) lawful_one lawful_other = refl
cmp-names (Mark u) (Segment v n) lawful_one lawful_other = refl
cmp-names (Mark u) (Mark v) lawful_one lawful_other = refl

-- texts are in the order of their keys
pub slice_cmp-key_text : (one other : Key) → IsLawfulKey one → IsLawfulKey other
    → slice_cmp nat_cmp (text_of (key_ulid one)) (text_of (key_ulid other)) ≡ nat_cmp (key_ulid one) (key_ulid other)
    → slice_cmp nat_cmp (key_text one) (key_text other) ≡ key_cmp one other
unfolding key_text
slice_cmp-key_text one other lawful_one lawful_other blocks =
    let size : (ulid : ℕ) → length (text_of ulid ++ codes "/") ≡ 27 = λ ulid. length-append (text_of ulid) (47 ∷ []) ∙ ap (λ n. n + 1) (length-text_of ulid) in
    let front : slice_cmp nat_cmp (text_of (key_ulid one) ++ codes "/") (text_of (key_ulid other) ++ codes "/") ≡ nat_cmp (key_ulid one) (key_ulid other) =
    cmp-append (text_of (key_ulid one)) (text_of (key_ulid other)) (47 ∷ []) (47 ∷ []) (length-text_of (key_ulid one) ∙ sym (length-text_of (key_ulid other)))
    ∙ then_equal (slice_cmp nat_cmp (text_of (key_ulid one)) (text_of (key_ulid other))) ∙ blocks in
    cmp-append (text_of (key_ulid one) ++ codes "/") (text_of (key_ulid other) ++ codes "/") (name_of one) (name_of other) (size (key_ulid one) ∙ sym (size (key_ulid other)))
    ∙ ap (λ o. ordering_then o (slice_cmp nat_cmp (name_of one) (name_of other))) front
    ∙ ap (λ o. ordering_then (nat_cmp (key_ulid one) (key_ulid other)) o) (cmp-names one other lawful_one lawful_other)
