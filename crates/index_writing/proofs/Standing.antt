-- What stands in a text still stands where more is put behind it.
use Rattle.std.proofs.Common.{◌≡◌, ℕ, ◌+◌, ◌*◌, ◌/◌, ◌<◌, ◌≤◌, List, [], ◌∷◌, ◌++◌, length, get_or, take, map, replicate, sym, ap, ◌∙◌, subst, arith, append_assoc, length-append}
use Rattle.std.proofs.lemmas.List.{take_more, take_all, append-nil, length-replicate}
use Rattle.base.specs.Order.{ComesAfter}
use Rattle.label_sets.specs.Labels.{compare_texts}
use Rattle.index_parts.specs.declared.raw_series.RawSeries.{RawSeries}
use Rattle.index_parts.specs.Turns.{InOrder}
use Rattle.index_parts.specs.SeriesEntry.{IsSeries, series_text}
use Rattle.index_parts.specs.Symbols.{IsSymbols}
use Rattle.index_parts.specs.declared.index_series.IndexSeries.{IndexSeries}
use Rattle.index_writing.specs.SymbolsInUse.{symbols_of}
use Rattle.index_writing.specs.Aligned.{gap, padded, each_at}
use Rattle.index_writing.specs.WriteSteps.{EachStands}
use Rattle.index_writing.specs.Written.{up_to_series}
use Rattle.index_writing.proofs.SortedTexts.{symbols_strict}
use Rattle.index_writing.proofs.SymbolNumbers.{symbols_in_order}

-- ---- the text goes on

-- a text that is the front of a whole
pub record StartsWith (whole front : List ℕ) : Type 0 where
  pub more : List ℕ
  pub is : whole ≡ front ++ more

pub goes_on : {whole middle front : List ℕ} → StartsWith whole middle → StartsWith middle front → StartsWith whole front
goes_on {front = front} one two = record { more = two.more ++ one.more; is = one.is ∙ ap (λ l. l ++ one.more) two.is ∙ append_assoc front two.more one.more }

pub longer : {whole front : List ℕ} → StartsWith whole front → length front ≤ length whole
longer {front = front} one = omega (arith, ap length one.is, length-append front one.more)

pub each_begins : (unit : ℕ) (text : List ℕ) (texts : List (List ℕ)) → StartsWith (each_at unit text texts) text
unfolding each_at padded
each_begins _ text [] = record { more = []; is = sym (append-nil text) }
each_begins unit text (next ∷ texts) =
    let zeros = replicate (gap unit (length text)) 0 in
    goes_on (each_begins unit (padded unit text ++ next) texts) (record { more = zeros ++ next; is = append_assoc text zeros next })

-- ---- series

behind : (text new more after : List ℕ) → new ≡ text ++ more → new ++ after ≡ text ++ (more ++ after)
behind text _ more after is = ap (λ l. l ++ after) is ∙ append_assoc text more after

pub stands_more : (text new more numbers : List ℕ) (series : List RawSeries) → new ≡ text ++ more → EachStands text numbers series → EachStands new numbers series
stands_more _ _ _ [] [] is stand = tt
stands_more _ _ _ [] (one ∷ series) is stand = stand
stands_more _ _ _ (number ∷ numbers) [] is stand = stand
stands_more text new more (number ∷ numbers) (one ∷ series) is stand =
    (λ after. subst (λ l. IsSeries l (16 * number) one) (sym (behind _ _ _ _ is)) (stand.0 (more ++ after)), stands_more text new more numbers _ is stand.1)

stands_push : (text numbers : List ℕ) (number : ℕ) (series : List RawSeries) (one : RawSeries) → EachStands text numbers series → ((after : List ℕ) → IsSeries (text ++ after) (16 * number) one) → EachStands text (numbers ++ number ∷ []) (series ++ one ∷ [])
stands_push _ [] _ [] _ stand here = (here, tt)
stands_push _ [] _ (y ∷ series) _ stand here = absurd stand
stands_push _ (n ∷ numbers) _ [] _ stand here = absurd stand
stands_push text (n ∷ numbers) number (y ∷ series) one stand here = (stand.0, stands_push text numbers _ _ _ stand.1 here)

rounded : (n t : ℕ) → t ≡ n + gap 16 n → 16 * (t / 16) ≡ t
rounded n t e = omega arith

pub multiple : (text : List ℕ) → 16 * (length (padded 16 text) / 16) ≡ length (padded 16 text)
unfolding padded
multiple text = rounded _ _ (length-append _ _ ∙ ap (λ n. length text + n) (length-replicate _ 0))

pub stands_next : (series : List RawSeries) (i : ℕ) (out new numbers more : List ℕ) (one : RawSeries) (number : ℕ) → EachStands out numbers (take i series) → i < length series → one ≡ get_or series i one → new ≡ padded 16 out ++ series_text one → number ≡ length (padded 16 out) / 16 → more ≡ numbers ++ number ∷ []
    → ((after : List ℕ) → IsSeries (new ++ after) (length (padded 16 out)) one) → EachStands new more (take (i + 1) series)
unfolding padded
stands_next series i out new _ more one _ stand lt at is number_is more_is here =
    let zeros = replicate (gap 16 (length out)) 0 in
    let still = stands_more _ _ _ _ _ (is ∙ append_assoc out zeros (series_text one)) stand in
    let place = sym (multiple out) ∙ ap (λ n. 16 * n) (sym number_is) in
    let last = stands_push _ _ _ _ _ still (λ after. subst (λ n. IsSeries (new ++ after) n one) place (here after)) in
    let taken = take_more _ i _ lt ∙ ap (λ s. take i series ++ s ∷ []) (sym at) in
    subst (λ l. EachStands new more l) (sym taken) (subst (λ l. EachStands new l (take i series ++ one ∷ [])) (sym more_is) last)

pub stands_end : (series : List RawSeries) (i : ℕ) (out numbers : List ℕ) → EachStands out numbers (take i series) → length series ≤ i → EachStands out numbers series
stands_end series i out numbers stand past = subst (λ l. EachStands out numbers l) (take_all i series past) stand

-- ---- symbols

pub symbols_still : (list : List IndexSeries) (symbols : List (List ℕ)) (out new : List ℕ) (series : List RawSeries) → symbols ≡ symbols_of list → new ≡ up_to_series out series → (InOrder (ComesAfter compare_texts) symbols → (after : List ℕ) → IsSymbols (out ++ after) 5 symbols) → (after : List ℕ) → IsSymbols (new ++ after) 5 (symbols_of list)
symbols_still list symbols out new series is new_is stands after =
    let more = each_begins 16 out (map series_text series) in
    let order : InOrder (ComesAfter compare_texts) symbols = subst (λ (l : List (List ℕ)). InOrder (ComesAfter compare_texts) l) (sym is) (symbols_in_order _ (symbols_strict _)) in
    subst (λ l. IsSymbols (new ++ after) 5 l) is (subst (λ l. IsSymbols l 5 symbols) (sym (behind _ _ _ _ (new_is ∙ more.is))) (stands order (more.more ++ after)))
