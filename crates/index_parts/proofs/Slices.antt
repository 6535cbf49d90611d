-- What is read in a part of an index is what is read in the index.
use Rattle.std.proofs.Common.{◌≡◌, ℕ, zero, suc, ◌+◌, ◌-◌, ◌^◌, ◌<◌, ◌≤◌, true, false, List, [], ◌++◌, length, take, drop, replicate, Option, Result, Ok, Err, refl, sym, ap, subst, ◌∙◌, arith, ◌⊎◌, inl, inr, append_assoc}
use Rattle.std.specs.Int.{w32, from_be_bytes}
use Rattle.std.specs.Result.{IsOkAnd}
use Rattle.wire_bytes.specs.declared.varint.WireRefusal.{WireRefusal}
use Rattle.wire_bytes.specs.declared.varint.WireRefusal.TheVariants as wire
use Rattle.std.proofs.lemmas.Bool.{cases_lt, le-leb, leb-true, lt-ltb, le-ltb, false_from_ne_true}
use Rattle.base.proofs.Binds.{cond_is, by_result}
use Rattle.std.specs.Prelude.{Bool, nat_lt, nat_le, if◌then◌else◌}
use Rattle.std.proofs.lemmas.List.{length-drop, length-append, length-replicate, take-append-le, drop-append-le, drop-drop, drop_at}
use Rattle.wire_bytes.specs.Position.{Position, left, further}
use Rattle.wire_bytes.specs.Fields.{number_at}
use Rattle.wire_bytes.specs.FieldTexts.{IsFixed}
use Rattle.wire_bytes.proofs.FixedLaws.{wide32}
use Rattle.index_parts.specs.declared.refusal.PartRefusal.{PartRefusal}
use Rattle.index_parts.specs.declared.refusal.PartRefusal.TheVariants.{Short, BadSum, Unordered, Overlong, NotText, NoMemory}
use Rattle.index_parts.specs.Placed.{at_place, refused_at}
use Rattle.index_parts.specs.Framed.{IsFramed}
use Rattle.index_parts.specs.Framing.{summed_at, framed_at}
use Rattle.index_parts.specs.Lists.{IsList}
use Rattle.index_parts.specs.ListReading.{list_at}
use Rattle.index_parts.specs.PostingsReading.{posting_at, postings_at}
use Rattle.index_parts.specs.Parts.{Part, file, known, is_before, list_in, IsPartOf, LiesIn, HoldsSection, told, list_size}
use Rattle.index_parts.specs.Shifting.{shifted_refusal, FitsShifted}
use Rattle.index_parts.proofs.Shifts.{IsWithin, IsMoved, IsSame, SameBy}
use Rattle.index_parts.proofs.FieldShifts.{StepBy, IsField, number_field}
use Rattle.index_parts.proofs.SectionShifts.{Turned, same_list, posting_turned}
use Rattle.index_parts.proofs.Longer.{IsLonger, framed_is, framed_refused, no_content, no_sum, framed_longer, section_longer}

-- ---- the same result, with places in the index

fits_within : (begin most : ℕ) (d : PartRefusal) → begin + most < 2 ^ 64 → IsWithin most d → FitsShifted begin d
fits_within begin most (Short place) small le = omega (arith, small, le)
fits_within begin most (BadSum kept computed) small le = tt
fits_within begin most (Unordered place) small le = omega (arith, small, le)
fits_within begin most (Overlong place) small le = omega (arith, small, le)
fits_within begin most (NotText place) small le = omega (arith, small, le)
fits_within begin most NoMemory small le = tt

-- one result in the part, and one in the index
pub record IsTold {X : Type 0} (begin : ℕ) (r s : Result X PartRefusal) : Type 0 where
  pub found : (x : X) → r ≡ Ok x → s ≡ Ok x
  pub refused : (d : PartRefusal) → r ≡ Err d → s ≡ Err (shifted_refusal begin d)
  pub fits : (d : PartRefusal) → r ≡ Err d → FitsShifted begin d

refused_one : {X : Type 0} (d c : PartRefusal) → ◌≡◌ {A = Result X PartRefusal} (Err d) (Err c) → d ≡ c
refused_one d c e = cc

told_by : {X : Type 0} (front : List ℕ) (most : ℕ) (r s : Result X PartRefusal) → length front + most < 2 ^ 64 → SameBy front most (λ x y. x ≡ y) r s → IsTold (length front) r s
told_by front most (Ok x) (Ok y) small h = record { found = λ z e. ap Ok (sym h) ∙ e; refused = λ d e. absurd cc; fits = λ d e. absurd cc }
told_by front most (Ok x) (Err e) small h = absurd h
told_by front most (Err d) (Ok y) small h = absurd h
told_by {X} front most (Err d) (Err e) small h = record {
  found = λ z e. absurd cc;
  refused = λ c same. ap Err (h.0 ∙ ap (shifted_refusal (length front)) (refused_one {X = X} d c same));
  fits = λ c same. subst (FitsShifted (length front)) (refused_one {X = X} d c same) (fits_within (length front) most d small h.1);
}

pub told_from : {X : Type 0} (front : List ℕ) (begin most : ℕ) (r s : Result X PartRefusal) → length front ≡ begin → begin + most < 2 ^ 64 → IsSame front most (λ x y. x ≡ y) r s → IsTold begin r s
told_from front begin most r s is small h = subst (λ (n : ℕ). IsTold n r s) is (told_by front most r s (omega (arith, is, small)) h.same)

-- an end of the code
pub refused_in : {X : Type 0} (begin : ℕ) (r s : Result X PartRefusal) (d e : PartRefusal) → IsTold begin r s → e ≡ shifted_refusal begin d → (d ≡ NoMemory) ⊎ (r ≡ Err d) → (e ≡ NoMemory) ⊎ (s ≡ Err e)
refused_in begin r s d e told is (inl none) = inl (is ∙ ap (shifted_refusal begin) none)
refused_in begin r s d e told is (inr h) = inr (told.refused d h ∙ ap Err (sym is))

pub fits_in : {X : Type 0} (begin : ℕ) (r s : Result X PartRefusal) (d : PartRefusal) → IsTold begin r s → (d ≡ NoMemory) ⊎ (r ≡ Err d) → FitsShifted begin d
fits_in begin r s d told (inl none) = subst (FitsShifted begin) (sym none) tt
fits_in begin r s d told (inr h) = told.fits d h

-- ---- what stands in the part stands in the index

dropped : (part : Part) (index : List ℕ) (at : ℕ) (is : IsPartOf part index) → part.begin ≤ at → at - part.begin ≤ length part.bytes → drop at index ≡ drop (at - part.begin) part.bytes ++ is.after
dropped part index at is le within =
    let k = at - part.begin in
    let whole : index ≡ is.before ++ (part.bytes ++ is.after) = is.stands ∙ append_assoc is.before part.bytes is.after in
    let begins = is.begins in
    let place : at ≡ length is.before + k = omega (arith, le, begins) in
    ap (λ (n : ℕ). drop n index) place ∙ ap (drop (length is.before + k)) whole ∙ sym (drop-drop k (length is.before) (is.before ++ (part.bytes ++ is.after))) ∙ ap (drop k) (drop_at is.before (part.bytes ++ is.after) (length is.before) refl) ∙ drop-append-le k part.bytes is.after within

pub frame_stands : (IsSize : List ℕ → ℕ → Type 0) → ((text : List ℕ) (n : ℕ) → IsSize text n → 1 ≤ length text) → (part : Part) (index : List ℕ) (at : ℕ) (content : List ℕ) → IsPartOf part index → part.begin ≤ at → IsFramed IsSize part.bytes (at - part.begin) content → IsFramed IsSize index at content
frame_stands IsSize some part index at content is le frame =
    let k = at - part.begin in
    let one = some frame.size (length content) frame.size_is in
    let sizes = ap length frame.stands in
    let within : k ≤ length part.bytes = omega (arith, one, sizes, length-drop k part.bytes, length-append (frame.size ++ content ++ frame.sum) frame.after, length-append (frame.size ++ content) frame.sum, length-append frame.size content) in
    record {
      size = frame.size;
      sum = frame.sum;
      after = frame.after ++ is.after;
      size_is = frame.size_is;
      sum_is = frame.sum_is;
      stands = dropped part index at is le within ∙ ap (λ (xs : List ℕ). xs ++ is.after) frame.stands ∙ append_assoc (frame.size ++ content ++ frame.sum) frame.after is.after;
    }

section_some : (text : List ℕ) (n : ℕ) → IsFixed w32 text n → 1 ≤ length text
section_some text n is = let e = ap length is.digits in let four = wide32.len n in omega arith

pub list_stands : {A : Type 0} (IsNext : Option A → List ℕ → A → Type 0) (part : Part) (index : List ℕ) (at : ℕ) (members : List A) → IsPartOf part index → part.begin ≤ at → IsList IsNext part.bytes (at - part.begin) members → IsList IsNext index at members
list_stands IsNext part index at members is le list = record {
  content = list.content;
  count = list.count;
  texts = list.texts;
  left_over = list.left_over;
  section = frame_stands (IsFixed w32) section_some part index at list.content is le list.section;
  content_is = list.content_is;
  count_is = list.count_is;
  texts_are = list.texts_are;
}

-- the greatest place that fits behind a begin
abbrev pub room_behind : ℕ → ℕ
room_behind begin = 2 ^ 64 - 1 - begin

-- ---- what ends within the part is the same in the index

lies_by : (front : List ℕ) (most : ℕ) (bytes : List ℕ) (r s : Result (ℕ × Position) WireRefusal) → StepBy front most r s → IsOkAnd r (λ (size : ℕ × Position). size.1.place + size.0 + 4 ≤ length bytes) → IsOkAnd s (λ (size : ℕ × Position). size.1.place + size.0 + 4 ≤ length (front ++ bytes))
lies_by front most bytes (Ok x) (Ok y) step lies = let p = step.state.place_is in let v = step.value in omega (arith, p, v, lies, length-append front bytes)
lies_by front most bytes (Ok x) (Err e) step lies = absurd step
lies_by front most bytes (Err d) (Ok y) step lies = absurd lies
lies_by front most bytes (Err d) (Err e) step lies = absurd lies

module _ (size_at : Position → Result (ℕ × Position) WireRefusal) (field : (front : List ℕ) (most : ℕ) → IsField front most size_at) (longer : IsLonger size_at) where
  pub frame_in_index : (part : Part) (index : List ℕ) (at : ℕ) → (is : IsPartOf part index) → LiesIn size_at part at → framed_at size_at index at ≡ framed_at size_at (is.before ++ part.bytes) at
  frame_in_index part index at is lies =
      let begins = is.begins in
      let le = lies.0 in
      let k = at - part.begin in
      let most = length part.bytes + k in
      let place : length is.before + k ≡ at = omega (arith, begins, le) in
      let here : IsMoved is.before most (at_place part.bytes k) (at_place (is.before ++ part.bytes) (length is.before + k)) = record { bytes_are = refl; place_is = refl; few = omega arith; within = omega arith } in
      let ends = lies_by is.before most part.bytes (size_at (at_place part.bytes k)) (size_at (at_place (is.before ++ part.bytes) (length is.before + k))) ((field is.before most).steps (at_place part.bytes k) (at_place (is.before ++ part.bytes) (length is.before + k)) here) lies.1 in
      ap (λ (xs : List ℕ). framed_at size_at xs at) is.stands
      ∙ framed_longer size_at longer (is.before ++ part.bytes) is.after at (subst (λ (n : ℕ). IsOkAnd (size_at (at_place (is.before ++ part.bytes) n)) (λ (size : ℕ × Position). size.1.place + size.0 + 4 ≤ length (is.before ++ part.bytes))) place ends)

list_refused : {A : Type 0} (read : Option A × Position → Result (A × (Option A × Position)) PartRefusal) (index : List ℕ) (at : ℕ) (d : PartRefusal) → framed_at (number_at w32) index at ≡ Err d → list_at read index at ≡ Err d
unfolding list_at
list_refused read index at d e = rw e refl

list_by_frame : {A : Type 0} (read : Option A × Position → Result (A × (Option A × Position)) PartRefusal) (index other : List ℕ) (at : ℕ) → framed_at (number_at w32) index at ≡ framed_at (number_at w32) other at → list_at read index at ≡ list_at read other at
unfolding list_at
list_by_frame read index other at e = rw e refl

-- ---- what does not end within the part is not there

number_short : (p : Position) (e : WireRefusal) → number_at w32 p ≡ Err e → e ≡ wire.Short
unfolding number_at
number_short p e h =
    elim (cond_is (nat_lt (length (left p)) 4) (Err wire.Short) (Ok (from_be_bytes w32 (take 4 (left p)), further 4 p)) (Err e) h) [
      | inl short ↦ let same = short.1 in cc
      | inr read ↦ let no = read.1 in absurd cc
    ]

summed_short : (place : ℕ) (bytes : List ℕ) (at count : ℕ) → length bytes < at + count + 4 → summed_at place count (at_place bytes at) ≡ Err (Short place)
summed_short place bytes at count past =
    elim (cases_lt (length (drop at bytes)) count) [
      | inl few ↦ no_content place bytes at count few
      | inr enough ↦ no_sum place bytes at count enough (omega (arith, past, length-drop (at + count) bytes))
    ]

section_short : (bytes : List ℕ) (at : ℕ) → (IsOkAnd (number_at w32 (at_place bytes at)) (λ (size : ℕ × Position). size.1.place + size.0 + 4 ≤ length bytes) → ⊥) → framed_at (number_at w32) bytes at ≡ Err (Short at)
section_short bytes at outside = by_result (number_at w32 (at_place bytes at))
    (λ size e.
    let here : at_place bytes size.1.place ≡ size.1 = ap (λ (xs : List ℕ). at_place xs size.1.place) (sym (section_longer.again bytes [] at size e).0) in
    elim (cases_lt (length bytes) (size.1.place + size.0 + 4)) [
      | inl past ↦ framed_is (number_at w32) bytes at size e ∙ ap (summed_at at size.0) (sym here) ∙ summed_short at bytes size.1.place size.0 past
      | inr within ↦ absurd (outside (subst (λ (r : Result (ℕ × Position) WireRefusal). IsOkAnd r (λ (size : ℕ × Position). size.1.place + size.0 + 4 ≤ length bytes)) (sym e) within))
    ])
    (λ d e. framed_refused (number_at w32) bytes at d e ∙ ap (λ (x : WireRefusal). Err (refused_at at x)) (number_short (at_place bytes at) d e))

-- ---- lists

module _ {A : Type 0} (read : Option A × Position → Result (A × (Option A × Position)) PartRefusal) (turned : (front : List ℕ) (most : ℕ) → Turned front most read) (part : Part) (at : ℕ) (begins : part.begin ≤ at) (small : at < 2 ^ 64) (fits : part.begin + length part.bytes < 2 ^ 64) where
  told_behind : (front : List ℕ) (bytes : List ℕ) → length front ≡ part.begin → part.begin + length bytes < 2 ^ 64 → IsTold part.begin (list_at read bytes (at - part.begin)) (list_at read (front ++ bytes) at)
  told_behind front bytes is room =
      let most = room_behind part.begin in
      let place : length front + (at - part.begin) ≡ at = omega (arith, is, begins) in
      told_from front part.begin most (list_at read bytes (at - part.begin)) (list_at read (front ++ bytes) at) is (omega (arith, small, begins))
      (subst (λ (n : ℕ). IsSame front most (λ xs ys. xs ≡ ys) (list_at read bytes (at - part.begin)) (list_at read (front ++ bytes) n)) place
      (same_list front most read (turned front most) bytes (at - part.begin) (omega (arith, room)) (omega (arith, small, begins))))

  pub known_told : IsTold part.begin (list_at read part.bytes (at - part.begin)) (list_at read (known part) at)
  known_told = told_behind (replicate part.begin 0) part.bytes (length-replicate part.begin 0) fits

  -- in an index of which this is a part, where the list ends within the part
  pub index_told : (index : List ℕ) → IsPartOf part index → HoldsSection part at → IsTold part.begin (list_at read part.bytes (at - part.begin)) (list_at read index at)
  index_told index is lies =
      let same : list_at read index at ≡ list_at read (is.before ++ part.bytes) at = list_by_frame read index (is.before ++ part.bytes) at (frame_in_index (number_at w32) (λ front most. number_field front most w32) section_longer part index at is lies) in
      subst (λ (s : Result (List A) PartRefusal). IsTold part.begin (list_at read part.bytes (at - part.begin)) s) (sym same) (told_behind is.before part.bytes is.begins fits)

  pub none_outside : (HoldsSection part at → ⊥) → list_at read part.bytes (at - part.begin) ≡ Err (Short (at - part.begin))
  none_outside outside = list_refused read part.bytes (at - part.begin) (Short (at - part.begin)) (section_short part.bytes (at - part.begin) (λ lies. outside (begins, lies)))

not_before : (at begin : ℕ) → begin ≤ at → is_before at begin ≡ false
not_before at zero le = refl
not_before at (suc begin) le = false_from_ne_true (nat_le at begin) (λ e. let no = leb-true at begin e in omega (arith, no, le))

before : (at begin : ℕ) → at < begin → is_before at begin ≡ true
before at zero lt = absurd (omega (arith, lt))
before at (suc begin) lt = le-leb at begin (omega (arith, lt))

pub list_here : (part : Part) (at : ℕ) → part.begin ≤ at → list_in part at ≡ postings_at (known part) at
list_here part at le = rw (not_before at part.begin le) refl

pub list_before : (part : Part) (at : ℕ) → at < part.begin → list_in part at ≡ Err (Short at)
list_before part at lt = rw (before at part.begin lt) refl

-- the place of what is not there
pub short_told : (part : Part) (at : ℕ) (r : Result (List ℕ) PartRefusal) (d e : PartRefusal) → part.begin ≤ at → r ≡ Err (Short (at - part.begin)) → e ≡ shifted_refusal part.begin d → (d ≡ NoMemory) ⊎ (r ≡ Err d) → (e ≡ Short at) ⊎ (e ≡ NoMemory)
short_told part at r d e le short is (inl none) = inr (is ∙ ap (shifted_refusal part.begin) none)
short_told part at r d e le short is (inr refused) =
    let same : d ≡ Short (at - part.begin) = refused_one {X = List ℕ} d (Short (at - part.begin)) (sym refused ∙ short) in
    inl (is ∙ ap (shifted_refusal part.begin) same ∙ ap Short (omega (arith, le)))

pub not_refused : {X : Type 0} (r : Result X PartRefusal) (x : X) (d : PartRefusal) → r ≡ Ok x → r ≡ Err d → ⊥
not_refused r x d e h = let no = sym e ∙ h in absurd cc

pub refusal_of : {X : Type 0} (e c d : PartRefusal) → (e ≡ c) ⊎ (e ≡ d) → ◌⊎◌ (◌≡◌ {A = Result X PartRefusal} (Err e) (Err c)) (◌≡◌ {A = Result X PartRefusal} (Err e) (Err d))
refusal_of e c d (inl h) = inl (ap Err h)
refusal_of e c d (inr h) = inr (ap Err h)

pub refused_here : (part : Part) (at : ℕ) (e : PartRefusal) → part.begin ≤ at → (e ≡ NoMemory) ⊎ (postings_at (known part) at ≡ Err e) → (e ≡ NoMemory) ⊎ (list_in part at ≡ Err e)
refused_here part at e le (inl none) = inl none
refused_here part at e le (inr h) = inr (list_here part at le ∙ h)

-- ---- one result in the part, two in indexes that have it at one place

one_by : {X : Type 0} (front other : List ℕ) (most : ℕ) (r s t : Result X PartRefusal) → length front ≡ length other → SameBy front most (λ x y. x ≡ y) r s → SameBy other most (λ x y. x ≡ y) r t → s ≡ t
one_by front other most (Ok x) (Ok y) (Ok z) is h k = ap Ok (sym h ∙ k)
one_by front other most (Ok x) (Ok y) (Err e) is h k = absurd k
one_by front other most (Ok x) (Err e) t is h k = absurd h
one_by front other most (Err d) (Ok y) t is h k = absurd h
one_by front other most (Err d) (Err e) (Ok z) is h k = absurd k
one_by front other most (Err d) (Err e) (Err f) is h k = ap Err (h.0 ∙ ap (λ (n : ℕ). shifted_refusal n d) is ∙ sym k.0)

-- a list that lies within the part is the index's
pub list_known : {A : Type 0} (read : Option A × Position → Result (A × (Option A × Position)) PartRefusal) (turned : (front : List ℕ) (most : ℕ) → Turned front most read) (part : Part) (index : List ℕ) (at : ℕ) → IsPartOf part index → HoldsSection part at → list_at read (known part) at ≡ list_at read index at
list_known read turned part index at is lies =
    let le = lies.0 in
    let k = at - part.begin in
    let most = length part.bytes + k in
    let zeros = replicate part.begin 0 in
    let size = length-replicate part.begin 0 in
    let begins = is.begins in
    let far : length zeros + k ≡ at = omega (arith, size, le) in
    let place : length is.before + k ≡ at = omega (arith, begins, le) in
    let here : IsSame zeros most (λ xs ys. xs ≡ ys) (list_at read part.bytes k) (list_at read (zeros ++ part.bytes) (length zeros + k)) = same_list zeros most read (turned zeros most) part.bytes k (omega arith) (omega arith) in
    let there : IsSame is.before most (λ xs ys. xs ≡ ys) (list_at read part.bytes k) (list_at read (is.before ++ part.bytes) (length is.before + k)) = same_list is.before most read (turned is.before most) part.bytes k (omega arith) (omega arith) in
    ap (list_at read (known part)) (sym far) ∙ one_by zeros is.before most (list_at read part.bytes k) (list_at read (zeros ++ part.bytes) (length zeros + k)) (list_at read (is.before ++ part.bytes) (length is.before + k)) (size ∙ sym begins) here.same there.same ∙ ap (list_at read (is.before ++ part.bytes)) place
    ∙ sym (list_by_frame read index (is.before ++ part.bytes) at (frame_in_index (number_at w32) (λ front most. number_field front most w32) section_longer part index at is lies))

pub list_of_index : (part : Part) (index : List ℕ) (at : ℕ) → IsPartOf part index → HoldsSection part at → list_in part at ≡ postings_at index at
list_of_index part index at is lies = list_here part at lies.0 ∙ list_known posting_at posting_turned part index at is lies

-- ---- how long a list is said to be

size_told : (p : Position) → 4 ≤ length (left p) → told (number_at w32 p) ≡ from_be_bytes w32 (take 4 (left p))
unfolding number_at
size_told p enough = rw (le-ltb (length (left p)) 4 enough) refl

some_four : (P : ℕ × Position → Type 0) (p : Position) → IsOkAnd (number_at w32 p) P → 4 ≤ length (left p)
unfolding number_at
some_four P p is =
    elim (cases_lt (length (left p)) 4) [
      | inl few ↦ absurd (subst (λ (b : Bool). IsOkAnd (if b then Err wire.Short else Ok (from_be_bytes w32 (take 4 (left p)), further 4 p)) P) (lt-ltb (length (left p)) 4 few) is)
      | inr enough ↦ enough
    ]

pub size_of_index : (part : Part) (index : List ℕ) (at : ℕ) → IsPartOf part index → HoldsSection part at → list_size part at ≡ list_size (file index) at
size_of_index part index at is lies =
    let k = at - part.begin in
    let four = some_four (λ (size : ℕ × Position). size.1.place + size.0 + 4 ≤ length part.bytes) (at_place part.bytes k) lies.1 in
    let stands : drop at index ≡ drop k part.bytes ++ is.after = dropped part index at is lies.0 (omega (arith, four, length-drop k part.bytes)) in
    let here : told (number_at w32 (at_place part.bytes k)) ≡ from_be_bytes w32 (take 4 (drop k part.bytes)) = size_told (at_place part.bytes k) four in
    let there : told (number_at w32 (at_place index at)) ≡ from_be_bytes w32 (take 4 (drop at index)) = size_told (at_place index at) (omega (arith, four, ap length stands, length-append (drop k part.bytes) is.after)) in
    let zero_off : at - 0 ≡ at = omega arith in
    rw (le-ltb at part.begin lies.0, le-ltb at 0 (omega arith), zero_off) (here ∙ ap (from_be_bytes w32) (sym (take-append-le 4 (drop k part.bytes) is.after four) ∙ ap (take 4) (sym stands)) ∙ sym there)
