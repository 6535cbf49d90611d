-- A whole index is read exactly where the bytes are an index of the list, and where the lists differ the first place is told.
use Rattle.std.proofs.Common.{◌≡◌, ◌≢◌, ℕ, ◌+◌, ◌*◌, Bool, true, false, List, [], ◌∷◌, length, map, zip, Option, Some, None, Result, Ok, Err, refl, sym, ap, subst, ◌∙◌, ◌⊎◌, inl, inr}
use Rattle.std.specs.Prelude.{nat_lt, nat_le, ◌&&◌}
use Rattle.std.proofs.lemmas.Bool.{cases_lt}
use Rattle.std.proofs.lemmas.Cmp.{tied_itself}
use Rattle.base.proofs.Lists.{zip_parts}
use Rattle.base.proofs.Membership.{contains_place, place_of_member}
use Rattle.base.specs.Reading.{◌>>=◌, ◌>>◌, unless, refused_as, Gives}
use Rattle.base.specs.Grammar.{IsBytes}
use Rattle.base.proofs.Binds.{bind_ok, refused_as_err, ok_is, err_is}
use Rattle.label_sets.specs.declared.label.Label.{Label}
use Rattle.index_parts.specs.declared.refusal.PartRefusal.{PartRefusal}
use Rattle.index_parts.specs.declared.refusal.PartRefusal.TheVariants as part
use Rattle.index_parts.specs.declared.toc_reading.Toc.{Toc}
use Rattle.index_parts.specs.declared.postings_row.PostingsRow.{PostingsRow}
use Rattle.index_parts.specs.Postings.{IsNextPosting}
use Rattle.index_parts.specs.PostingsReading.{posting_at}
use Rattle.index_parts.proofs.ListLaws.{list_found}
use Rattle.index_parts.proofs.PostingsLaws.{posting_turn}
use Rattle.index_parts.specs.declared.index_series.IndexSeries.{IndexSeries}
use Rattle.index_parts.specs.Opened.{Opened}
use Rattle.index_parts.specs.IndexFile.{labels_of, HasRow, IsOpened, AreFewLists, IsIndex}
use Rattle.index_v2.specs.declared.refusal.IndexRefusal.{IndexRefusal}
use Rattle.index_v2.specs.declared.refusal.IndexRefusal.TheVariants.{BadSeries, PostingsDiffer, NoMemory}
use Rattle.index_v2.specs.Opening.{refused_in, refused_of, opened_at}
use Rattle.index_parts.specs.RowOrder.{StandsAt}
use Rattle.index_parts.specs.Parts.{Part, file, lists_size}
use Rattle.index_v2.specs.Held.{whole_file}
use Rattle.index_v2.specs.PostingsLists.{row_of, list_of, postings_of}
use Rattle.index_v2.specs.WholeReading.{present_at, stands_behind, may_stand_behind, behind_at, all_at, lists_at, few_at, difference, differing_at, unless_differ, whole_at}
use Rattle.index_v2.specs.Differing.{DiffersAt, DifferFirstAt}
use Rattle.index_parts.proofs.RowPlaces.{rows_total, equal_texts}
use Rattle.index_parts.proofs.RowsBegin.{same_compare}
use Rattle.index_v2.proofs.OpeningLaws.{opened_again}
use Rattle.index_v2.proofs.LeastPlaces.{IsLeast, least_is}
use Rattle.index_v2.proofs.WholeParts.{both_none, gaps_found}
use Rattle.index_v2.proofs.ListsFew.{few_found}
use Rattle.index_v2.proofs.WholeLaws.{HasRead, AreTaken, series_known, as_listed, are_taken, read_again, ok_same}
use Rattle.index_v2.proofs.Faults.{FaultAt, no_fault_listed, faults_least, differs_least}

-- ---- only the last step of reading tells a difference

abbrev NeverDiffers : {A : Type 0} → Result A IndexRefusal → Type 0
NeverDiffers r = (place : ℕ) → r ≡ Err (PostingsDiffer place) → ⊥

in_section : (section : ℕ) (refusal : PartRefusal) (place : ℕ) → refused_in section refusal ≢ PostingsDiffer place
in_section _ (part.Short n) _ e = absurd cc
in_section _ (part.BadSum kept computed) _ e = absurd cc
in_section _ (part.Unordered n) _ e = absurd cc
in_section _ (part.Overlong n) _ e = absurd cc
in_section _ (part.NotText n) _ e = absurd cc
in_section _ part.NoMemory _ e = absurd cc

of_series : (number : ℕ) (refusal : PartRefusal) (place : ℕ) → refused_of number refusal ≢ PostingsDiffer place
of_series _ (part.Short n) _ e = absurd cc
of_series _ (part.BadSum kept computed) _ e = absurd cc
of_series _ (part.Unordered n) _ e = absurd cc
of_series _ (part.Overlong n) _ e = absurd cc
of_series _ (part.NotText n) _ e = absurd cc
of_series _ part.NoMemory _ e = absurd cc

refused_never : {A : Type 0} (f : PartRefusal → IndexRefusal) (r : Result A PartRefusal) → ((refusal : PartRefusal) (place : ℕ) → f refusal ≢ PostingsDiffer place) → NeverDiffers (refused_as f r)
refused_never f r never place e = let h = refused_as_err f r _ e in never h.0 place h.2

unless_never : (b : Bool) (refusal : IndexRefusal) → ((place : ℕ) → refusal ≢ PostingsDiffer place) → NeverDiffers (unless b refusal)
unless_never true _ never place e = absurd cc
unless_never false _ never place e = never place (err_is {A = Unit {0}} _ _ e)

ok_never : {A : Type 0} (x : A) → NeverDiffers (Ok x)
ok_never x place e = absurd cc

bind_never : {A B : Type 0} (r : Result A IndexRefusal) (f : A → Result B IndexRefusal) → NeverDiffers r → ((x : A) → NeverDiffers (f x)) → NeverDiffers (r >>= f)
bind_never (Ok x) f first next place e = next x place e
bind_never (Err d) f first next place e = first place cc

then_never : {A B : Type 0} (r : Result A IndexRefusal) (next : Result B IndexRefusal) → NeverDiffers r → NeverDiffers next → NeverDiffers (r >> next)
then_never (Ok x) _ first later place e = later place e
then_never (Err d) _ first later place e = first place cc

-- What reading comes to in the end: a list, or that the lists differ.
abbrev IsEnd : {A : Type 0} → Result A IndexRefusal → Type 0
IsEnd r = (refusal : IndexRefusal) → r ≡ Err refusal → (place : ℕ) × (refusal ≡ PostingsDiffer place)

-- what comes before it was read
bind_end : {A B : Type 0} (r : Result A IndexRefusal) (f : A → Result B IndexRefusal) (end : Result B IndexRefusal) → NeverDiffers r → IsEnd end → (r >>= f) ≡ end → (x : A) × (r ≡ Ok x) × (f x ≡ end)
bind_end (Ok x) f _ never is e = (x, refl, e)
bind_end (Err d) f _ never is e = let why = is d (sym e) in absurd (never why.0 (ap Err why.1))

then_end : {A B : Type 0} (r : Result A IndexRefusal) (next end : Result B IndexRefusal) → NeverDiffers r → IsEnd end → (r >> next) ≡ end → (x : A) × (r ≡ Ok x) × (next ≡ end)
then_end (Ok x) _ _ never is e = (x, refl, e)
then_end (Err d) _ _ never is e = let why = is d (sym e) in absurd (never why.0 (ap Err why.1))

list_never : (part : Part) (row : Option PostingsRow) → NeverDiffers (list_of part row)
list_never _ None = ok_never _
list_never _ (Some row) = refused_never _ _ (in_section 5)

present_never : (toc : Toc) (numbers : List ℕ) → NeverDiffers (present_at toc numbers)
unfolding present_at
present_never _ [] = ok_never _
present_never toc (number ∷ numbers) =
    then_never _ _ (unless_never (nat_lt 0 toc.symbols) _ (in_section 1 (part.Short 0)))
    (then_never _ _ (unless_never (nat_lt 0 toc.series) _ (in_section 2 (part.Short 0)))
    (then_never _ _ (unless_never (nat_lt 0 toc.postings) _ (in_section 5 (part.Short 0))) (ok_never _)))

behind_never : (index : List ℕ) (symbols : List (List ℕ)) (last : Option ℕ) (before : Option IndexSeries) (number : ℕ) → NeverDiffers (behind_at index symbols last before number)
unfolding behind_at
behind_never index _ last before number =
    bind_never _ _
    (refused_never _ _ (of_series _))
    (λ series. then_never (unless (stands_behind index last number && may_stand_behind before series) (BadSeries number (part.Unordered (16 * number)))) (Ok series) (unless_never _ _ (of_series number (part.Unordered (16 * number)))) (ok_never _))

all_never : (index : List ℕ) (symbols : List (List ℕ)) (last : Option ℕ) (before : Option IndexSeries) (numbers : List ℕ) → NeverDiffers (all_at index symbols last before numbers)
unfolding all_at
all_never index symbols last before [] = ok_never {A = List IndexSeries} _
all_never index symbols last before (number ∷ numbers) =
    bind_never _ _ (behind_never _ _ _ _ _)
    (λ series. bind_never (all_at index symbols (Some number) (Some series) numbers) (λ others. Ok (series ∷ others)) (all_never index symbols (Some number) (Some series) numbers) (λ others. ok_never (series ∷ others)))

few_never : (toc : Toc) (here : Part) (rows : List PostingsRow) (series : List IndexSeries) → NeverDiffers (few_at toc here rows series)
unfolding few_at
few_never toc here rows series = unless_never (nat_le (lists_size here rows) (8 * (toc.postings_table + length rows + labels_of series))) _ (in_section 5 (part.Unordered toc.postings))

lists_never : (part : Part) (rows : List PostingsRow) → NeverDiffers (lists_at part rows)
unfolding lists_at
lists_never _ [] = ok_never {A = List (List ℕ)} _
lists_never part (row ∷ rows) =
    bind_never _ _ (refused_never _ _ (in_section 5))
    (λ list. bind_never (lists_at part rows) (λ others. Ok (list ∷ others)) (lists_never part rows) (λ others. ok_never (list ∷ others)))

differing_never : (part : Part) (rows : List PostingsRow) (listed : List (ℕ × IndexSeries)) → NeverDiffers (differing_at part rows listed)
unfolding differing_at
differing_never part rows listed = bind_never (lists_at part rows) (λ lists. Ok (difference rows lists listed)) (lists_never part rows) (λ lists. ok_never _)

-- the lists that were read
differing_parts : (part : Part) (rows : List PostingsRow) (listed : List (ℕ × IndexSeries)) (found : Option ℕ) → differing_at part rows listed ≡ Ok found → (lists : List (List ℕ)) × (lists_at part rows ≡ Ok lists) × (difference rows lists listed ≡ found)
unfolding differing_at
differing_parts part rows listed found e =
    let lists = bind_ok (lists_at part rows) _ found e in
    (lists.0, lists.1, ok_is {E = IndexRefusal} _ _ lists.2)

-- ---- the whole

-- what was read where the end is reached
whole_parts : (opened : Opened) (end : Result (List IndexSeries) IndexRefusal) → IsEnd end → whole_at (whole_file opened) ≡ end
    → (numbers : List ℕ) × (list : List IndexSeries) × (lists : List (List ℕ)) × HasRead opened numbers list lists × ((unless_differ (difference opened.rows lists (zip numbers list)) >> Ok list) ≡ end)
unfolding whole_at
whole_parts opened end is e =
    let numbers = bind_end (postings_of (whole_file opened) [] []) (λ numbers. present_at opened.toc numbers >> (all_at opened.bytes opened.symbols None None numbers >>= λ series. few_at opened.toc (file opened.bytes) opened.rows series >> (differing_at (file opened.bytes) opened.rows (zip numbers series) >>= λ found. unless_differ found >> Ok series))) _ (list_never (file opened.bytes) (row_of opened.rows [] [])) is e in
    let present = then_end _ _ _ (present_never _ _) is numbers.2 in
    let series = bind_end _ _ _ (all_never _ _ _ _ _) is present.2 in
    let few = then_end _ _ _ (few_never opened.toc (file opened.bytes) opened.rows series.0) is series.2 in
    let found = bind_end _ _ _ (differing_never (file opened.bytes) opened.rows (zip numbers.0 series.0)) is few.2 in
    let lists = differing_parts (file opened.bytes) opened.rows (zip numbers.0 series.0) found.0 found.1 in
    (numbers.0, series.0, lists.0, record { listed = numbers.1; present = present.1; series = series.1; few = few.1; read = lists.1 }, subst (λ (o : Option ℕ). (unless_differ o >> Ok series.0) ≡ end) (sym lists.2) found.2)

-- what was read of each part, and where the lists differ, is what reading gives
whole_joined : (opened : Opened) (numbers : List ℕ) (list : List IndexSeries) (lists : List (List ℕ)) (where_differ : Option ℕ) → HasRead opened numbers list lists → difference opened.rows lists (zip numbers list) ≡ where_differ → whole_at (whole_file opened) ≡ (unless_differ where_differ >> Ok list)
unfolding whole_at differing_at
whole_joined _ _ _ _ _ has e = rw (has.listed, has.present, has.series, has.few, has.read, e) refl

ok_end : {A : Type 0} (x : A) → IsEnd (Ok x)
ok_end x refusal e = absurd cc

no_difference : (o : Option ℕ) (list found : List IndexSeries) → (unless_differ o >> Ok list) ≡ Ok found → (o ≡ None) × (list ≡ found)
no_difference None _ _ e = (refl, ok_is {E = IndexRefusal} _ _ e)
no_difference (Some place) _ _ e = absurd cc

differ_told : {A : Type 0} (o : Option ℕ) (x : A) (place : ℕ) → (unless_differ o >> Ok x) ≡ Err (PostingsDiffer place) → o ≡ Some place
differ_told None x _ e = absurd cc
differ_told (Some k) x _ e = cc

module _ (opened : Opened) (are : IsBytes opened.bytes) (is : IsOpened opened) where
  index_of : (numbers : List ℕ) (list : List IndexSeries) (lists : List (List ℕ)) → HasRead opened numbers list lists → difference opened.rows lists (zip numbers list) ≡ None → IsIndex opened.bytes list
  index_of numbers list lists has exact =
      let listed = zip numbers list in
      let taken = are_taken opened numbers list lists are is has in
      let none = subst (IsLeast (FaultAt _ _ listed)) exact (faults_least opened.bytes _ _ _ numbers taken) in
      let gaps = both_none _ _ exact in
      record {
        opened = opened;
        bytes_are = refl;
        is_opened = is;
        listed = listed;
        list_is = as_listed opened numbers list lists are is has;
        series_are = series_known opened numbers list lists are is has;
        rows_are = λ row h. let at = place_of_member opened.rows row h in no_fault_listed opened.bytes opened.rows lists listed numbers taken at.0 (none at.0) row at.1;
        complete = λ number series h label labelled.
            let found = gaps_found opened.rows lists listed gaps.1 number series h label labelled in
            let texts = equal_texts found.1 label.name label.value found.3 in
            (found.1, contains_place opened.rows found.0 found.1 found.2, texts.0, texts.1);
        lists_few = few_found opened list has.few;
      }

  pub whole_found : (list : List IndexSeries) → whole_at (whole_file opened) ≡ Ok list → IsIndex opened.bytes list
  whole_found list e =
      let parts = whole_parts opened (Ok list) (ok_end _) e in
      let exact = no_difference _ _ _ parts.4 in
      subst (IsIndex opened.bytes) exact.1 (index_of _ _ _ parts.3 exact.0)

  pub differ_found : (place : ℕ) → whole_at (whole_file opened) ≡ Err (PostingsDiffer place) → DifferFirstAt opened place
  differ_found place e =
      let parts = whole_parts opened (Err (PostingsDiffer place)) (λ refusal same. (place, err_is {A = List IndexSeries} refusal (PostingsDiffer place) (sym same))) e in
      let listed = zip parts.0 parts.1 in
      let told = differ_told (difference opened.rows parts.2 listed) _ _ parts.4 in
      let taken = are_taken opened parts.0 parts.1 parts.2 are is parts.3 in
      let least = subst (IsLeast (DiffersAt opened.bytes opened.rows listed)) told (differs_least _ _ _ _ parts.0 taken) in
      record {
        listed = listed;
        series_are = series_known opened parts.0 parts.1 parts.2 are is parts.3;
        lists_stand = λ row h. let at = place_of_member opened.rows row h in let each = taken.lists_are.each at.0 row at.1 in (each.0, list_found IsNextPosting posting_at posting_turn opened.bytes row.offset each.0 are each.2);
        lists_few = subst (AreFewLists opened) (sym (as_listed opened parts.0 parts.1 parts.2 are is parts.3)) (few_found opened parts.1 parts.3.few);
        differs = least.0;
        first = least.1;
      }

  -- such a place is told
  pub differ_again : (place : ℕ) → DifferFirstAt opened place → whole_at (whole_file opened) ≡ Err (PostingsDiffer place)
  differ_again place d =
      let numbers = map (λ (one : ℕ × IndexSeries). one.0) d.listed in
      let list = map (λ (one : ℕ × IndexSeries). one.1) d.listed in
      let read = read_again opened d.listed is d.series_are d.lists_few d.lists_stand in
      let taken : AreTaken opened.bytes opened.rows read.0 d.listed numbers = subst (λ (ps : List (ℕ × IndexSeries)). AreTaken opened.bytes opened.rows read.0 ps numbers) (zip_parts d.listed) (are_taken opened _ _ _ are is read.1) in
      let told : difference opened.rows read.0 d.listed ≡ Some place = least_is _ _ _ (differs_least _ _ _ _ numbers taken) d.differs d.first in
      whole_joined _ _ _ _ _ read.1 (ap (difference opened.rows read.0) (zip_parts _) ∙ told)

-- ---- an index of a list is read

missing_row : (rows : List PostingsRow) (label : Label) (place : ℕ) → StandsAt rows label.name label.value place → HasRow rows label → ⊥
missing_row _ label place stands has =
    let at = place_of_member _ _ has.1 in
    let equal = same_compare has.0 has.0 label.name label.value has.2 has.3 ∙ tied_itself rows_total has.0 in
    elim (cases_lt at.0 place) [
      | inl below ↦ let less = stands.below at.0 has.0 below at.1 in absurd cc
      | inr above ↦ let greater = stands.above at.0 has.0 above at.1 in absurd cc
    ]

module _ (index : List ℕ) (list : List IndexSeries) (is : IsIndex index list) (are : IsBytes is.opened.bytes) where
  agrees : (k : ℕ) → DiffersAt is.opened.bytes is.opened.rows is.listed k → ⊥
  agrees k (inl other) = other.2 (is.rows_are other.0 (contains_place _ k _ other.1))
  agrees k (inr h) = missing_row _ _ k h.5 (is.complete h.0 h.1 h.3 h.2 h.4)

  nowhere : (P : ℕ → Type 0) (o : Option ℕ) → IsLeast P o → ((k : ℕ) → P k → ⊥) → o ≡ None
  nowhere P None least none = refl
  nowhere P (Some k) least none = absurd (none k least.0)

  read_opened : whole_at (whole_file is.opened) ≡ Ok list
  read_opened =
      let numbers = map (λ one. one.0) is.listed in
      let series = map (λ one. one.1) is.listed in
      let read = read_again _ _ is.is_opened is.series_are (subst (AreFewLists is.opened) (sym is.list_is) is.lists_few) (λ row h. ((is.rows_are row h).numbers, (is.rows_are row h).stands)) in
      let taken = subst (λ ps. AreTaken is.opened.bytes is.opened.rows read.0 ps numbers) (zip_parts _) (are_taken is.opened _ _ _ are is.is_opened read.1) in
      let exact = nowhere _ _ (differs_least _ _ _ _ numbers taken) agrees in
      whole_joined _ _ _ _ _ read.1 (ap (difference is.opened.rows read.0) (zip_parts _) ∙ exact) ∙ ap Ok is.list_is

pub whole_again : (opened : Opened) (list : List IndexSeries) → IsBytes opened.bytes → opened_at opened.bytes ≡ Ok opened → IsIndex opened.bytes list → whole_at (whole_file opened) ≡ Ok list
whole_again opened list are read is =
    let again : opened_at opened.bytes ≡ Ok is.opened = opened_again opened.bytes is.opened is.bytes_are is.is_opened in
    let same : is.opened ≡ opened = ok_same (opened_at opened.bytes) _ _ again read in
    ap (λ o. whole_at (whole_file o)) (sym same) ∙ read_opened opened.bytes _ is (subst IsBytes (sym is.bytes_are) are)

-- ---- from a call's clauses

-- a refusal other than want of memory is what reading gives
pub differ_from : {X Y : Type 0} (view : X → Y) (r : Result X IndexRefusal) (read : Result Y IndexRefusal) (place : ℕ) → Gives NoMemory view r read → r ≡ Err (PostingsDiffer place) → read ≡ Err (PostingsDiffer place)
differ_from _ (Ok x) _ _ given e = absurd cc
differ_from _ (Err d) _ _ (inl none) e = absurd cc
differ_from _ (Err d) _ _ (inr is) e = is ∙ cc

-- a refusal that reading gives is told, unless memory runs out
pub differing_from : {X Y : Type 0} (view : X → Y) (r : Result X IndexRefusal) (read : Result Y IndexRefusal) (place : ℕ) → Gives NoMemory view r read → read ≡ Err (PostingsDiffer place) → (r ≡ Err (PostingsDiffer place)) ⊎ (r ≡ Err NoMemory)
differing_from _ (Ok x) _ _ given e = let no = sym given ∙ e in absurd cc
differing_from _ (Err d) _ _ (inl none) e = inr (ap Err none)
differing_from {Y = Y} _ (Err d) _ _ (inr is) e = inl (ap Err (err_is {A = Y} d _ (sym is ∙ e)))
