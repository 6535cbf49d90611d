-- Series that stand one behind the other have together no more than the index has bytes.
use Rattle.std.proofs.Common.{◌≡◌, ℕ, ◌+◌, ◌*◌, ◌^◌, ◌<◌, ◌≤◌, true, false, List, [], ◌∷◌, ◌++◌, length, sum_by, zip, Option, Some, None, Ok, refl, sym, ap, ◌∙◌, arith}
use Rattle.std.specs.Prelude.{IfSome}
use Rattle.std.specs.List.{Contains}
use Rattle.std.proofs.lemmas.Bool.{leb-true, le-leb, lt-leb}
use Rattle.std.proofs.lemmas.List.{drop_all, length-map}
use Rattle.std.proofs.lemmas.List.Sums.{sum_by-cons}
use Rattle.base.specs.Grammar.{IsBytes}
use Rattle.base.specs.Reading.{◌>>=◌, ◌>>◌}
use Rattle.base.proofs.Binds.{bind_ok, then_ok, ok_is}
use Rattle.base.proofs.Membership.{contains_first, contains_later}
use Rattle.wire_bytes.specs.FieldTexts.{IsUvarint}
use Rattle.wire_bytes.specs.Fields.{groups_of, uvarint_at}
use Rattle.wire_bytes.proofs.FieldLaws.{uvarint_again}
use Rattle.index_parts.specs.Framed.{IsEntry}
use Rattle.index_parts.specs.Placed.{at_place}
use Rattle.index_parts.specs.Turns.{InOrderAfter}
use Rattle.index_parts.specs.declared.index_series.IndexSeries.{IndexSeries}
use Rattle.index_parts.specs.IndexFile.{StandsBehind, IsSeriesOf}
use Rattle.index_parts.proofs.FrameLaws.{regroup, framed_within}
use Rattle.index_parts.proofs.SeriesLaws as parts
use Rattle.index_v2.specs.declared.refusal.IndexRefusal.{IndexRefusal}
use Rattle.index_v2.specs.Held.{Held}
use Rattle.index_v2.specs.PostingsLists.{postings_of}
use Rattle.index_parts.specs.Parts.{told}
use Rattle.index_v2.specs.Sizes.{members_of, series_bytes}
use Rattle.index_v2.specs.SeriesLabels.{numbered_at}
use Rattle.index_v2.specs.WholeReading.{present_at, stands_behind, all_at, few_at, differing_at, unless_differ, whole_at}
use Rattle.index_v2.proofs.FewLaws.{as_many}
use Rattle.index_v2.proofs.LabelLaws.{numbered_found}
use Rattle.index_v2.proofs.WholeParts.{AreApart, all_found}

-- a length that leads past each place of a series
pub behind_past : (index : List ℕ) (before : Option ℕ) (last number size : ℕ) → before ≡ Some last → size ≡ series_bytes index last → number < 2 ^ 32 → 2 ^ 64 ≤ 16 * last + size → false ≡ stands_behind index before number
behind_past index before last number size is told small past =
    sym (lt-leb (16 * last + series_bytes index last) (16 * number) (omega (arith, told, small, past))) ∙ sym (ap (λ (o : Option ℕ). stands_behind index o number) is)

-- past the end no length is told
pub no_entry : (index : List ℕ) (at : ℕ) → length index < at → 0 ≡ told (uvarint_at (at_place index at))
unfolding uvarint_at groups_of
no_entry index at past = rw (drop_all at index (omega arith)) refl

-- the length that is told is that of the content which stands there
content_told : (index : List ℕ) (number : ℕ) (content : List ℕ) → IsEntry index (16 * number) content → series_bytes index number ≡ length content
content_told index number content is =
    ap told (uvarint_again (at_place index (16 * number)) is.size (length content) (content ++ is.sum ++ is.after) is.size_is (is.stands ∙ sym (regroup is.size content is.sum is.after)))

module _ (index : List ℕ) where
  behind_found : (last : Option ℕ) (number : ℕ) → stands_behind index last number ≡ true → StandsBehind index last number
  behind_found None number e = tt
  behind_found (Some before) number e = λ content is. omega (arith, leb-true (16 * before + series_bytes index before) (16 * number) e, content_told index before content is)

  pub apart_found : (last : Option ℕ) (numbers : List ℕ) → AreApart index last numbers → InOrderAfter (StandsBehind index) last numbers
  apart_found last [] are = tt
  apart_found last (number ∷ numbers) are = (behind_found last number are.0, apart_found (Some number) numbers are.1)

  abbrev HasEntry : ℕ → Type 0
  HasEntry number = (content : List ℕ) × IsEntry index (16 * number) content

  behind_again : (last : Option ℕ) (number : ℕ) → IfSome last HasEntry → StandsBehind index last number → stands_behind index last number ≡ true
  behind_again None number entry behind = refl
  behind_again (Some before) number entry behind = le-leb (16 * before + series_bytes index before) (16 * number) (omega (arith, behind entry.0 entry.1, content_told index before entry.0 entry.1))

  pub apart_again : (last : Option ℕ) (numbers : List ℕ) → IfSome last HasEntry → ((n : ℕ) → Contains numbers n → HasEntry n) → InOrderAfter (StandsBehind index) last numbers → AreApart index last numbers
  apart_again last [] entry entries order = tt
  apart_again last (number ∷ numbers) entry entries order =
      (behind_again last number entry order.0, apart_again (Some number) numbers (entries number (contains_first number numbers)) (λ n has. entries n (contains_later number n numbers has)) order.1)

  -- ---- how much they have

  abbrev start_of : Option ℕ → ℕ
  start_of None = 0
  start_of (Some last) = 16 * last + series_bytes index last

  starts_behind : (last : Option ℕ) (number : ℕ) → stands_behind index last number ≡ true → start_of last ≤ 16 * number
  starts_behind None number e = omega arith
  starts_behind (Some before) number e = leb-true (16 * before + series_bytes index before) (16 * number) e

  module _ (symbols : List (List ℕ)) (bytes : IsBytes index) where
    one_few : (number : ℕ) (one : IndexSeries) → IsSeriesOf index symbols number one → (members_of one ≤ series_bytes index number) × (16 * number + series_bytes index number ≤ length index)
    one_few number one is =
        let raw = parts.content_few index (16 * number) (record { names = is.names; values = is.values; chunks = one.chunks }) is.stands in
        let names = as_many _ _ _ is.names_are in
        let told = content_told index number is.stands.content is.stands.entry in
        let some = parts.content_some index (16 * number) (record { names = is.names; values = is.values; chunks = one.chunks }) is.stands in
        let within = framed_within IsUvarint index (16 * number) is.stands.content is.stands.entry some in
        (omega (arith, raw, names, told, length-map one.labels (λ l. l.name)), omega (arith, told, within))

    all_few : (last : Option ℕ) (numbers : List ℕ) (list : List IndexSeries) → length numbers ≡ length list → ((number : ℕ) (one : IndexSeries) → Contains (zip numbers list) (number, one) → numbered_at index symbols number ≡ Ok one) → AreApart index last numbers
        → start_of last ≤ length index → start_of last + sum_by members_of list ≤ length index
    all_few last [] [] many each apart within = omega (arith, within)
    all_few last [] (one ∷ list) many each apart within = absurd (omega (arith, many))
    all_few last (number ∷ numbers) [] many each apart within = absurd (omega (arith, many))
    all_few last (number ∷ numbers) (one ∷ list) many each apart within =
        let few = one_few number one (numbered_found index symbols number one bytes (each number one (contains_first _ _))) in
        let others = all_few (Some number) numbers list (omega (arith, many)) (λ n o has. each n o (contains_later _ _ _ has)) apart.1 few.1 in
        omega (arith, few.0, few.1, others, starts_behind last number apart.0, sum_by-cons members_of one list)

-- series that are read one behind the other have together no more labels and chunks than the index has bytes
pub all_bounded : (index : List ℕ) (symbols : List (List ℕ)) (numbers : List ℕ) (list : List IndexSeries) → IsBytes index → all_at index symbols None None numbers ≡ Ok list → sum_by members_of list ≤ length index
all_bounded index symbols numbers list bytes e =
    let read = all_found index symbols None None numbers list e in
    omega (arith, all_few index symbols bytes None numbers list read.many read.each read.apart (omega arith))

-- and so has what is read of a whole index
pub whole_bounded : (held : Held) (list : List IndexSeries) → IsBytes held.bytes → whole_at held ≡ Ok list → sum_by members_of list ≤ length held.bytes
unfolding whole_at
whole_bounded held list bytes e =
    let numbers = bind_ok (postings_of held [] []) (λ numbers. present_at held.toc numbers >> (all_at held.bytes held.symbols None None numbers >>= λ series. few_at held.toc held.lists held.rows series >> (differing_at held.lists held.rows (zip numbers series) >>= λ found. unless_differ found >> Ok series))) list e in
    let present = then_ok (present_at held.toc numbers.0) (all_at held.bytes held.symbols None None numbers.0 >>= λ series. few_at held.toc held.lists held.rows series >> (differing_at held.lists held.rows (zip numbers.0 series) >>= λ found. unless_differ found >> Ok series)) list numbers.2 in
    let series = bind_ok (all_at held.bytes held.symbols None None numbers.0) (λ series. few_at held.toc held.lists held.rows series >> (differing_at held.lists held.rows (zip numbers.0 series) >>= λ found. unless_differ found >> Ok series)) list present.2 in
    let few_lists = then_ok (few_at held.toc held.lists held.rows series.0) (differing_at held.lists held.rows (zip numbers.0 series.0) >>= λ found. unless_differ found >> Ok series.0) list series.2 in
    let found = bind_ok (differing_at held.lists held.rows (zip numbers.0 series.0)) (λ found. unless_differ found >> Ok series.0) list few_lists.2 in
    let same = then_ok (unless_differ found.0) (Ok series.0) list found.2 in
    let few = all_bounded held.bytes held.symbols numbers.0 series.0 bytes series.1 in
    omega (arith, few, ap (sum_by members_of) (ok_is {E = IndexRefusal} series.0 list same.2))
