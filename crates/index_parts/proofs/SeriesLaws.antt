-- Series against their grammar.
use Rattle.std.proofs.Common.{◌≡◌, ℕ, ◌+◌, ◌*◌, ◌≤◌, List, [], ◌∷◌, ◌++◌, length, zip, Ok, refl, sym, ap, subst, ◌∙◌, append_assoc, length-append, arith}
use Rattle.base.specs.Members.{members_at}
use Rattle.base.specs.Grammar.{IsBytes, HasFront, AreTexts}
use Rattle.base.proofs.Fronts.{IsBytes-after, members_found}
use Rattle.base.proofs.Binds.{bind_ok, ok_is}
use Rattle.base.proofs.Counted.{length-members, members_first}
use Rattle.wire_bytes.specs.Position.{Position, left}
use Rattle.wire_bytes.specs.Fields.{uvarint_at}
use Rattle.wire_bytes.specs.FieldTexts.{IsUvarint}
use Rattle.index_parts.specs.declared.refusal.PartRefusal.{PartRefusal}
use Rattle.index_parts.specs.declared.chunk_place.ChunkPlace.{ChunkPlace}
use Rattle.index_parts.specs.declared.raw_series.SymbolNumber.{SymbolNumber}
use Rattle.index_parts.specs.declared.raw_series.RawLabel.{RawLabel}
use Rattle.index_parts.specs.declared.raw_series.RawSeries.{RawSeries}
use Rattle.index_parts.specs.Placed.{field}
use Rattle.index_parts.specs.SeriesEntry.{IsLabel, IsNextChunk, IsSeries}
use Rattle.index_parts.specs.SeriesReading.{labels_begin_at, symbol_number_at, label_at, names_of, values_of, labels_at, chunk_at, chunks_at, series_at}
use Rattle.index_parts.proofs.FieldLaws.{uvarint_field}
use Rattle.index_parts.proofs.FrameLaws.{framed_found, framed_again, framed_small}
use Rattle.index_parts.proofs.TurnLaws.{field_found, turns_few}
use Rattle.index_parts.proofs.ListLaws.{counted_found, counted_again}
use Rattle.base.proofs.Lists.{length-zip}
use Rattle.std.proofs.lemmas.List.{length-map}
use Rattle.index_parts.proofs.SymbolLaws.{uvarint_size}
use Rattle.index_parts.proofs.ChunkLaws.{chunk_turn, chunk_size}

-- ---- labels

number_found : (p : Position) (x : SymbolNumber) (q : Position) → symbol_number_at p ≡ Ok (x, q) → field uvarint_at p ≡ Ok (x.number, q)
unfolding symbol_number_at
number_found p x q e =
    let number = bind_ok _ _ _ e in
    number.1 ∙ ap (λ (r : SymbolNumber × Position). Ok (r.0.number, r.1)) (ok_is {E = PartRefusal} _ _ number.2)

-- the text of a label's symbol numbers, wherever they stand
abbrev IsRaw : List ℕ → RawLabel → Type 0
IsRaw text label = IsLabel text (label.name.number, label.value.number)

label_found : (p : Position) (x : RawLabel) (q : Position) → IsBytes (left p) → label_at p ≡ Ok (x, q) → HasFront IsRaw (left p) x (left q)
unfolding label_at
label_found p x q are e =
    let name = bind_ok _ _ _ e in
    let value = bind_ok _ _ _ name.2 in
    let f0 = uvarint_field.found p name.0.1 name.0.0.number are (number_found _ _ _ name.1) in
    let f1 = uvarint_field.found name.0.1 value.0.1 value.0.0.number (IsBytes-after f0.0 (left name.0.1) _ f0.2 are) (number_found _ _ _ value.1) in
    field_found IsRaw p value.0.1 q (f0.0 ++ f1.0) (record { name = name.0.0; value = value.0.0 }) x (record { name = f0.0; value = f1.0; name_is = f0.1; value_is = f1.1; text_is = refl }) (f0.2 ∙ ap (λ a. f0.0 ++ a) f1.2 ∙ sym (append_assoc f0.0 f1.0 (left value.0.1))) value.2

are_zipped : (text : List ℕ) (labels : List RawLabel) → AreTexts IsRaw text labels → AreTexts IsLabel text (zip (names_of labels) (values_of labels))
are_zipped _ [] are = are
are_zipped _ (label ∷ labels) are = (are.0, are.1, are.2, are_zipped _ labels are.3, are.4)

-- what was read again of these texts
record AreAgain (names values : List ℕ) (p : Position) (after : List ℕ) : Type 0 where
  labels : List RawLabel
  end : Position
  read_is : members_at label_at (length names) p ≡ Ok (labels, end)
  names_are : names_of labels ≡ names
  values_are : values_of labels ≡ values
  left_is : left end ≡ after

label_again : (p : Position) (text : List ℕ) (x : ℕ × ℕ) (after : List ℕ) → IsLabel text x → left p ≡ text ++ after
    → (place : ℕ) × (q : Position) × (label_at p ≡ Ok (record { name = record { number = x.0; place = p.place }; value = record { number = x.1; place = place } }, q)) × (left q ≡ after)
unfolding label_at symbol_number_at
label_again p _ x after is e =
    let name = uvarint_field.again p is.name x.0 (is.value ++ after) is.name_is (e ∙ ap (λ a. a ++ after) is.text_is ∙ append_assoc is.name is.value after) in
    let value = uvarint_field.again name.0 is.value x.1 after is.value_is name.2 in
    (name.0.place, value.0, rw (name.1, value.1) refl, value.2)

all_again : (p : Position) (text names values after : List ℕ) → length names ≡ length values → AreTexts IsLabel text (zip names values) → left p ≡ text ++ after → AreAgain names values p after
unfolding members_at
all_again p _ [] [] after many are e = record { labels = []; end = p; read_is = refl; names_are = refl; values_are = refl; left_is = e ∙ ap (λ front. front ++ after) are }
all_again p _ [] (value ∷ values) after many are e = absurd (omega arith)
all_again p _ (name ∷ names) [] after many are e = absurd (omega arith)
all_again p _ (name ∷ names) (value ∷ values) after many are e =
    let first = label_again p are.0 (name, value) (are.1 ++ after) are.2 (e ∙ ap (λ front. front ++ after) are.4 ∙ append_assoc are.0 are.1 after) in
    let others = all_again first.1 are.1 names values after (omega arith) are.3 first.3 in
    record {
      labels = record { name = record { number = name; place = p.place }; value = record { number = value; place = first.0 } } ∷ others.labels;
      end = others.end;
      read_is = members_first label_at _ p _ _ _ _ first.2 others.read_is;
      names_are = ap (λ ns. name ∷ ns) others.names_are;
      values_are = ap (λ vs. value ∷ vs) others.values_are;
      left_is = others.left_is;
    }

labels_few : (text : List ℕ) (labels : List (ℕ × ℕ)) → AreTexts IsLabel text labels → 2 * length labels ≤ length text
labels_few _ [] are = omega arith
labels_few _ (label ∷ labels) are =
    let a = uvarint_size _ _ are.2.name_is in
    let b = uvarint_size _ _ are.2.value_is in
    let others = labels_few _ labels are.3 in
    omega (arith, ap length are.4, length-append are.0 are.1, ap length are.2.text_is, length-append are.2.name are.2.value)

-- ---- the series

abbrev series_with : (List ℕ × List ℕ) × Position → List ChunkPlace → RawSeries
series_with labels chunks = record { names = labels.0.0; values = labels.0.1; chunks = chunks }

regroup : (a b c d after : List ℕ) → a ++ b ++ c ++ d ++ after ≡ a ++ (b ++ (c ++ (d ++ after)))
regroup a b c d after = append_assoc (a ++ b ++ c) d after ∙ append_assoc (a ++ b) c (d ++ after) ∙ append_assoc a b (c ++ (d ++ after))

-- labels that were read: their texts, as many as were asked for, and what follows
record HasLabels (bytes : List ℕ) (count : ℕ) (names values after : List ℕ) : Type 0 where
  text : List ℕ
  are : AreTexts IsLabel text (zip names values)
  front : bytes ≡ text ++ after
  names_many : length names ≡ count
  values_many : length values ≡ count

labels_found : (count : ℕ) (p q : Position) (names values : List ℕ) → IsBytes (left p) → labels_at count p ≡ Ok ((names, values), q) → HasLabels (left p) count names values (left q)
unfolding labels_at
labels_found count p q _ _ are e =
    let x = bind_ok _ _ _ e in
    let same = ok_is {E = PartRefusal} _ _ x.2 in
    let texts = members_found left label_at IsRaw label_found _ p _ _ are x.1 in
    let many = length-members label_at _ p _ _ x.1 in
    let has : HasLabels (left p) count (names_of x.0.0) (values_of x.0.0) (left x.0.1) = record {
      text = texts.0;
      are = are_zipped _ _ texts.1;
      front = texts.2;
      names_many = length-map _ _ ∙ many;
      values_many = length-map _ _ ∙ many;
    } in
    subst (λ r. HasLabels (left p) count r.0.0 r.0.1 (left r.1)) same has

labels_again : (p : Position) (text names values after : List ℕ) → length names ≡ length values → AreTexts IsLabel text (zip names values) → left p ≡ text ++ after → (q : Position) × (labels_at (length names) p ≡ Ok ((names, values), q)) × (left q ≡ after)
unfolding labels_at
labels_again p text names values after many are e =
    let r = all_again p text names values after many are e in
    (r.end, rw (r.read_is, r.names_are, r.values_are) refl, r.left_is)

pub series_found : (index : List ℕ) (at : ℕ) (series : RawSeries) → IsBytes index → series_at index at ≡ Ok series → IsSeries index at series
unfolding series_at labels_begin_at chunks_at
series_found index at series are e =
    let label_count = bind_ok _ _ _ e in
    let content = bind_ok _ _ _ label_count.1 in
    let labels = bind_ok _ _ _ label_count.2 in
    let chunks = bind_ok _ _ _ labels.2 in
    let chunk_count = bind_ok _ _ _ chunks.1 in
    let same : series_with labels.0 chunks.0 ≡ series = ok_is {E = PartRefusal} _ _ chunks.2 in
    let entry = framed_found IsUvarint uvarint_at uvarint_field index at content.0 are content.1 in
    let f0 = uvarint_field.found content.0 label_count.0.1 label_count.0.0 entry.1 content.2 in
    let are1 = IsBytes-after f0.0 (left label_count.0.1) (left content.0) f0.2 entry.1 in
    let f1 = labels_found label_count.0.0 label_count.0.1 labels.0.1 labels.0.0.0 labels.0.0.1 are1 labels.1 in
    let are2 = IsBytes-after _ _ _ f1.front are1 in
    let f2 = uvarint_field.found labels.0.1 chunk_count.0.1 chunk_count.0.0 are2 chunk_count.1 in
    let are3 = IsBytes-after _ _ _ f2.2 are2 in
    let f3 = counted_found IsNextChunk chunk_at chunk_turn chunk_count.0.0 chunk_count.0.1 chunks.0 are3 chunk_count.2 in
    let is : IsSeries index at (series_with labels.0 chunks.0) = record {
      content = left content.0;
      label_count = f0.0;
      labels = f1.text;
      chunk_count = f2.0;
      chunks = f3.text;
      left_over = f3.after;
      entry = entry.0;
      content_is = f0.2 ∙ ap (λ a. f0.0 ++ a) (f1.front ∙ ap (λ a. f1.text ++ a) (f2.2 ∙ ap (λ a. f2.0 ++ a) f3.front)) ∙ sym (regroup f0.0 f1.text f2.0 f3.text f3.after);
      as_many = f1.names_many ∙ sym f1.values_many;
      label_count_is = subst (IsUvarint f0.0) (sym f1.names_many) f0.1;
      labels_are = f1.are;
      chunk_count_is = subst (IsUvarint f2.0) (sym f3.many) f2.1;
      chunks_are = f3.are;
    } in
    subst (λ s. IsSeries index at s) same is

pub series_again : (index : List ℕ) (at : ℕ) (series : RawSeries) → IsSeries index at series → series_at index at ≡ Ok series
unfolding series_at labels_begin_at chunks_at
series_again index at series is =
    let entry = framed_again IsUvarint uvarint_at uvarint_field index at is.content is.entry in
    let whole = entry.2 ∙ is.content_is ∙ regroup is.label_count is.labels is.chunk_count is.chunks is.left_over in
    let label_count = uvarint_field.again entry.0 is.label_count (length series.names) (is.labels ++ (is.chunk_count ++ (is.chunks ++ is.left_over))) is.label_count_is whole in
    let labels = labels_again label_count.0 is.labels series.names series.values (is.chunk_count ++ (is.chunks ++ is.left_over)) is.as_many is.labels_are label_count.2 in
    let chunk_count = uvarint_field.again labels.0 is.chunk_count (length series.chunks) (is.chunks ++ is.left_over) is.chunk_count_is labels.2 in
    let chunks = counted_again IsNextChunk chunk_at chunk_turn chunk_count.0 is.chunks is.left_over series.chunks is.chunks_are chunk_count.2 in
    rw (entry.1, label_count.1, labels.1, chunk_count.1, chunks) refl

-- what a series has is no more than what its content takes
pub content_few : (index : List ℕ) (at : ℕ) (series : RawSeries) (is : IsSeries index at series) → length series.names + length series.values + 3 * length series.chunks ≤ length is.content
content_few _ at series is =
    let labels = labels_few _ _ is.labels_are in
    let chunks = turns_few _ 3 chunk_size _ _ _ is.chunks_are in
    let many = length-zip _ _ is.as_many in
    let whole = ap length (is.content_is ∙ regroup _ is.labels is.chunk_count is.chunks is.left_over) in
    omega (arith, length-append is.label_count (is.labels ++ (is.chunk_count ++ (is.chunks ++ is.left_over))), length-append is.labels (is.chunk_count ++ (is.chunks ++ is.left_over)), length-append is.chunk_count (is.chunks ++ is.left_over), length-append is.chunks is.left_over)

pub content_some : (index : List ℕ) (at : ℕ) (series : RawSeries) (is : IsSeries index at series) → 1 ≤ length is.content
content_some _ at series is =
    let whole = ap length (is.content_is ∙ regroup _ is.labels is.chunk_count is.chunks is.left_over) in
    omega (arith, uvarint_size _ _ is.label_count_is, length-append is.label_count (is.labels ++ (is.chunk_count ++ (is.chunks ++ is.left_over))))

pub series_few : (index : List ℕ) (at : ℕ) (series : RawSeries) → IsSeries index at series → length series.names + length series.values + 3 * length series.chunks ≤ length index
series_few index at series is = omega (arith, content_few index at series is, framed_small _ _ at is.content is.entry)
