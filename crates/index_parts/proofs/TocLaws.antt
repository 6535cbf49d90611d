-- The table of contents against its grammar.
use Rattle.std.proofs.Common.{◌≡◌, ℕ, ◌+◌, ◌-◌, ◌*◌, ◌≤◌, List, [], ◌∷◌, ◌++◌, length, take, drop, Result, Ok, Err, refl, sym, ap, subst, ◌∙◌, append_assoc, arith}
use Rattle.std.specs.Prelude.{nat_le, IfOk}
use Rattle.std.specs.Int.{w32, w64}
use Rattle.std.proofs.lemmas.Bool.{leb-true, le-leb}
use Rattle.std.proofs.lemmas.List.{take-append-drop, drop_at, length-append, length-drop, append-nil, nil_from_length}
use Rattle.base.specs.Reading.{Answers}
use Rattle.base.specs.Grammar.{IsBytes, AreTexts}
use Rattle.base.proofs.Binds.{bind_ok, unless_ok, ok_is}
use Rattle.base.proofs.Fronts.{IsBytes-after, IsBytes-drop}
use Rattle.wire_bytes.specs.Position.{Position, left}
use Rattle.wire_bytes.specs.Fields.{number_at}
use Rattle.wire_bytes.specs.FieldTexts.{IsFixed}
use Rattle.wire_bytes.specs.Crc.{crc}
use Rattle.wire_bytes.proofs.FixedLaws.{wide32, wide64}
use Rattle.index_parts.specs.declared.refusal.PartRefusal.{PartRefusal}
use Rattle.index_parts.specs.declared.refusal.PartRefusal.TheVariants.{Short}
use Rattle.index_parts.specs.declared.toc_reading.Toc.{Toc}
use Rattle.index_parts.specs.Placed.{at_place, field}
use Rattle.index_parts.specs.Framing.{summed_at}
use Rattle.index_parts.specs.Contents.{references_of, IsToc}
use Rattle.index_parts.specs.ContentsReading.{references_at, toc_at}
use Rattle.index_parts.proofs.FieldLaws.{fixed_field}
use Rattle.index_parts.proofs.FrameLaws.{summed_found, summed_again}

abbrev word : Position → Result (ℕ × Position) PartRefusal
word = field (number_at w64)

abbrev toc_of : ℕ → ℕ → ℕ → ℕ → ℕ → ℕ → Toc
toc_of a b c d e f = record { symbols = a; series = b; label_indices = c; label_offsets = d; postings = e; postings_table = f }

-- six words in a row
six : (a b c d e f : ℕ) (p0 p1 p2 p3 p4 p5 p6 : Position) → word p0 ≡ Ok (a, p1) → word p1 ≡ Ok (b, p2) → word p2 ≡ Ok (c, p3) → word p3 ≡ Ok (d, p4) → word p4 ≡ Ok (e, p5) → word p5 ≡ Ok (f, p6) → references_at p0 ≡ Ok (toc_of a b c d e f)
unfolding references_at
six a b c d e f _ _ _ _ _ _ _ h0 h1 h2 h3 h4 h5 = rw (h0, h1, h2, h3, h4, h5) refl

-- texts of words in front
pub record HasWords (bytes : List ℕ) (words : List ℕ) (after : List ℕ) : Type 0 where
  pub text : List ℕ
  pub are : AreTexts (IsFixed w64) text words
  pub front : bytes ≡ text ++ after

word_more : (p q : Position) (n : ℕ) (words after : List ℕ) → IsBytes (left p) → word p ≡ Ok (n, q) → (IsBytes (left q) → HasWords (left q) words after) → HasWords (left p) (n ∷ words) after
word_more p q n _ after are e rest =
    let fixed = fixed_field w64 wide64 in
    let first = fixed.found p q n are e in
    let others = rest (IsBytes-after _ _ _ first.2 are) in
    record {
      text = first.0 ++ others.text;
      are = (first.0, others.text, first.1, others.are, refl);
      front = first.2 ∙ ap (λ (a : List ℕ). first.0 ++ a) others.front ∙ sym (append_assoc first.0 others.text after);
    }

no_words : (p : Position) → HasWords (left p) [] (left p)
no_words p = record { text = []; are = refl; front = refl }

references_found : (p : Position) (toc : Toc) → IsBytes (left p) → references_at p ≡ Ok toc → (q : Position) × HasWords (left p) (references_of toc) (left q)
unfolding references_at
references_found p _ are h =
    let a = bind_ok _ _ _ h in
    let b = bind_ok _ _ _ a.2 in
    let c = bind_ok _ _ _ b.2 in
    let d = bind_ok _ _ _ c.2 in
    let e = bind_ok _ _ _ d.2 in
    let f = bind_ok _ _ _ e.2 in
    let same = ok_is {E = PartRefusal} _ _ f.2 in
    let words =
    word_more p _ _ _ _ are a.1 (λ are1. word_more a.0.1 b.0.1 b.0.0 _ _ are1 b.1 (λ are2. word_more b.0.1 c.0.1 c.0.0 _ _ are2 c.1 (λ are3. word_more c.0.1 d.0.1 d.0.0 _ _ are3 d.1 (λ are4. word_more d.0.1 e.0.1 e.0.0 _ _ are4 e.1 (λ are5. word_more e.0.1 f.0.1 f.0.0 _ _ are5 f.1 (λ are6. no_words f.0.1)))))) in
    (f.0.1, subst (λ t. HasWords (left p) (references_of t) (left f.0.1)) same words)

word_again : (p : Position) (text : List ℕ) (n : ℕ) (words others after : List ℕ) → IsFixed w64 text n → left p ≡ (text ++ others) ++ after → (q : Position) × (word p ≡ Ok (n, q)) × (left q ≡ others ++ after)
word_again p text n words others after is e = let fixed = fixed_field _ wide64 in fixed.again p text n (others ++ after) is (e ∙ append_assoc text others after)

next_word : (p : Position) (text : List ℕ) (n : ℕ) (words after : List ℕ) → AreTexts (IsFixed w64) text (n ∷ words) → left p ≡ text ++ after → (q : Position) × (others : List ℕ) × (word p ≡ Ok (n, q)) × AreTexts (IsFixed w64) others words × (left q ≡ others ++ after)
next_word p _ n words after are e =
    let r = word_again p _ n words _ _ are.2 (e ∙ ap (λ a. a ++ after) are.4) in
    (r.0, are.1, r.1, are.3, r.2)

references_again : (p : Position) (text after : List ℕ) (toc : Toc) → AreTexts (IsFixed w64) text (references_of toc) → left p ≡ text ++ after → references_at p ≡ Ok toc
references_again p text after toc are h =
    let a = next_word p text toc.symbols (toc.series ∷ toc.label_indices ∷ toc.label_offsets ∷ toc.postings ∷ toc.postings_table ∷ []) after are h in
    let b = next_word a.0 a.1 _ (toc.label_indices ∷ toc.label_offsets ∷ toc.postings ∷ toc.postings_table ∷ []) _ a.3 a.4 in
    let c = next_word _ b.1 _ (toc.label_offsets ∷ toc.postings ∷ toc.postings_table ∷ []) _ b.3 b.4 in
    let d = next_word _ _ _ (toc.postings ∷ toc.postings_table ∷ []) _ c.3 c.4 in
    let e = next_word _ d.1 _ (toc.postings_table ∷ []) after d.3 d.4 in
    let f = next_word _ e.1 _ [] after e.3 e.4 in
    six _ _ _ _ _ _ p _ _ _ _ _ _ a.2 b.2 c.2 d.2 e.2 f.2

-- words have eight bytes each
words_size : (text words : List ℕ) → AreTexts (IsFixed w64) text words → length text ≡ 8 * length words
words_size _ [] are = ap length are
words_size _ (n ∷ words) are =
    let first = ap length are.2.digits ∙ wide64.len n in
    let others = words_size _ words are.3 in
    omega (arith, ap length are.4, length-append are.0 are.1)

pub toc_found : (index : List ℕ) (toc : Toc) → IsBytes index → toc_at index ≡ Ok toc → IsToc index toc
unfolding toc_at
toc_found index toc are e =
    let at = length index - 52 in
    let enough = unless_ok (nat_le 52 (length index)) (Short 0) _ _ e in
    let long : 52 ≤ length index = leb-true 52 (length index) enough.0 in
    let content = bind_ok _ _ _ enough.1 in
    let summed = summed_found at 48 (at_place index at) content.0 (IsBytes-drop at index are) content.1 in
    let words = references_found content.0 toc summed.3 content.2 in
    let text = words.1.text in
    let size : length text ≡ 48 = words_size _ (references_of toc) words.1.are in
    let nothing : left words.0 ≡ [] = nil_from_length _ (omega (arith, ap length words.1.front, length-append text (left words.0), summed.2)) in
    let whole : left content.0 ≡ text = words.1.front ∙ ap (λ (a : List ℕ). text ++ a) nothing ∙ append-nil text in
    let four : length summed.1.sum ≡ 4 = ap length summed.1.sum_is.digits ∙ wide32.len (crc (left content.0)) in
    let ended : summed.0 ≡ [] = nil_from_length _ (omega (arith, ap length summed.1.bytes_are, length-drop at index, length-append (left content.0 ++ summed.1.sum) summed.0, length-append (left content.0) summed.1.sum, summed.2)) in
    record {
      before = take at index;
      references = text;
      sum = summed.1.sum;
      references_are = words.1.are;
      sum_is = subst (λ (a : List ℕ). IsFixed w32 summed.1.sum (crc a)) whole summed.1.sum_is;
      stands = sym (take-append-drop at index) ∙ ap (λ (a : List ℕ). take at index ++ a) (summed.1.bytes_are ∙ ap (λ (a : List ℕ). left content.0 ++ summed.1.sum ++ a) ended ∙ append-nil (left content.0 ++ summed.1.sum) ∙ ap (λ (a : List ℕ). a ++ summed.1.sum) whole) ∙ sym (append_assoc (take at index) text summed.1.sum);
    }

pub toc_again : (index : List ℕ) (toc : Toc) → IsToc index toc → toc_at index ≡ Ok toc
unfolding toc_at
toc_again index toc is =
    let at = length index - 52 in
    let size : length is.references ≡ 48 = words_size is.references (references_of toc) is.references_are in
    let four : length is.sum ≡ 4 = ap length is.sum_is.digits ∙ wide32.len (crc is.references) in
    let all : length index ≡ length is.before + 48 + 4 = ap length is.stands ∙ length-append (is.before ++ is.references) is.sum ∙ ap (λ (n : ℕ). n + length is.sum) (length-append _ is.references) ∙ omega arith in
    let here : at ≡ length is.before = omega arith in
    let rest : drop at index ≡ is.references ++ is.sum ++ [] = ap (drop at) (is.stands ∙ append_assoc is.before is.references is.sum) ∙ drop_at is.before (is.references ++ is.sum) at (sym here) ∙ sym (append-nil (is.references ++ is.sum)) in
    let summed = summed_again at (at_place index at) is.references [] (record { sum = is.sum; sum_is = is.sum_is; bytes_are = rest }) in
    let read = ap (λ n. summed_at at n (at_place index at)) (sym size) ∙ summed.1 in
    let references = references_again _ _ _ _ is.references_are (summed.2 ∙ sym (append-nil is.references)) in
    rw (le-leb 52 (length index) (omega arith), read) references

pub toc_answers : (Is : Toc → Type 0) (r read : Result Toc PartRefusal) → ((toc : Toc) → read ≡ Ok toc → Is toc) → Answers (λ toc. toc) r read → IfOk r Is
toc_answers Is (Ok toc) _ one h = one toc h
toc_answers Is (Err d) _ one h = tt

pub toc_only : (r read : Result Toc PartRefusal) (toc : Toc) → read ≡ Ok toc → Answers (λ toc. toc) r read → r ≡ Ok toc
toc_only (Ok t) _ _ one h = sym h ∙ one
toc_only (Err d) _ _ one h = let not = sym h ∙ one in absurd cc
