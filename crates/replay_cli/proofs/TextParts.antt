-- Parts of a text, which were put beside each other and are joined.
use Rattle.std.proofs.Common.{◌≡◌, ℕ, suc, ◌+◌, ◌<◌, List, [], ◌∷◌, ◌++◌, length, refl, sym, ◌∙◌, ap, ap₂, subst, arith, append_assoc, get_or, set, take, Ok}
use Rattle.std.specs.Prelude.{Err, Result, OnOk}
use Rattle.std.specs.List.{All, flat_map}
use Rattle.std.proofs.lemmas.List.Concat.{flat_map-append}
use Rattle.std.proofs.lemmas.List.{flat_map_more, take_more}
use Rattle.std.proofs.lemmas.List.Elements.{All-head, All-tail, All-more}
use Rattle.base.specs.declared.memory.NoMemory.{NoMemory}
use Rattle.label_sets.specs.declared.series.Series.{Series}
use Rattle.call_verdicts.specs.report_lines.specs.Reports.{series_line}
use Rattle.replay_cli.specs.TextParts.{IsPut, series_in}
use Rattle.replay_cli.specs.declared.text_parts.TextPart.{TextPart}

abbrev text_in : TextPart → List ℕ
text_in part = part.text.items

abbrev Empty : TextPart → Type 0
Empty part = part.text.items ≡ []

abbrev Came : TextPart → Type 0
Came part = part.came ≡ Ok tt

abbrev lines_of : List Series → List ℕ
lines_of series = flat_map series_line series

-- what stands in a part whose lines were put
text_put : (old new : TextPart) → IsPut old new → Came new → new.text.items ≡ old.text.items ++ lines_of (series_in old)
text_put old new is came = subst (λ (r : Result (Unit {0}) NoMemory). OnOk r (new.text.items ≡ old.text.items ++ lines_of (series_in old))) came is.put

-- what stands in all parts, where each was empty
texts_put : (olds news : List TextPart) → length news ≡ length olds → ((i : ℕ) (d : TextPart) → i < length olds → IsPut (get_or olds i d) (get_or news i d))
    → All Empty olds → All Came news → flat_map text_in news ≡ lines_of (flat_map series_in olds)
texts_put [] [] long each empty came = refl
texts_put [] (new ∷ news) long each empty came = absurd (omega (arith, long))
texts_put (old ∷ olds) [] long each empty came = absurd (omega (arith, long))
texts_put (old ∷ olds) (new ∷ news) long each empty came =
    let one = text_put old new (each 0 old (omega arith)) (All-head Came new news came) ∙ ap (λ (t : List ℕ). t ++ lines_of (series_in old)) (All-head Empty old olds empty) in
    let more = texts_put olds news (omega (arith, long)) (λ i d l. each (suc i) d (omega (arith, l))) (All-tail Empty old olds empty) (All-tail Came new news came) in
    ap₂ (λ (xs ys : List ℕ). xs ++ ys) one more ∙ sym (flat_map-append series_line (series_in old) (flat_map series_in olds))

-- The first part's text was traded for the one before, its lines were put behind that, and it was traded back. Then the texts of all
-- parts are joined.
joined : (olds news : List TextPart) (d e lent back : TextPart) (out : List ℕ) → 0 < length olds → length news ≡ length (set olds 0 lent)
    → ((i : ℕ) (d : TextPart) → i < length (set olds 0 lent) → IsPut (get_or (set olds 0 lent) i d) (get_or news i d)) → All Empty olds
    → lent.series ≡ (get_or olds 0 d).series → lent.text.items ≡ out
    → back.text.items ≡ (get_or olds 0 d).text.items → back.came ≡ (get_or news 0 e).came → All Came (set news 0 back)
    → (get_or news 0 e).text.items ++ flat_map text_in (set news 0 back) ≡ out ++ lines_of (flat_map series_in olds)
joined [] news d e lent back out some long each empty series text none same came = absurd (omega (arith, some))
joined (old ∷ olds) [] d e lent back out some long each empty series text none same came = absurd (omega (arith, long))
joined (old ∷ olds) (new ∷ news) d e lent back out some long each empty series text none same came =
    let series_is : series_in lent ≡ series_in old = ap (λ s. s.now) series in
    let one : new.text.items ≡ out ++ lines_of (series_in old) = text_put lent new (each 0 lent (omega arith)) (sym same ∙ All-head Came back news came) ∙ ap₂ (λ (xs : List ℕ) (ss : List Series). xs ++ lines_of ss) text series_is in
    let nothing : back.text.items ≡ [] = none ∙ All-head Empty old olds empty in
    let more : flat_map text_in news ≡ lines_of (flat_map series_in olds) = texts_put olds news (omega (arith, long)) (λ i d l. each (suc i) d (omega (arith, l))) (All-tail Empty old olds empty) (All-tail Came back news came) in
    ap₂ (λ (xs ys : List ℕ). xs ++ ys) one (ap₂ (λ (xs ys : List ℕ). xs ++ ys) nothing more)
    ∙ append_assoc out (lines_of (series_in old)) (lines_of (flat_map series_in olds))
    ∙ ap (λ (ys : List ℕ). out ++ ys) (sym (flat_map-append series_line (series_in old) (flat_map series_in olds)))

pub joined_on : (r : Result (Unit {0}) NoMemory) (olds news : List TextPart) (d e lent back : TextPart) (out kept whole : List ℕ) → 0 < length olds → length news ≡ length (set olds 0 lent)
    → ((i : ℕ) (d : TextPart) → i < length (set olds 0 lent) → IsPut (get_or (set olds 0 lent) i d) (get_or news i d)) → All Empty olds
    → lent.series ≡ (get_or olds 0 d).series → lent.text.items ≡ out
    → back.text.items ≡ (get_or olds 0 d).text.items → back.came ≡ (get_or news 0 e).came
    → kept ≡ (get_or news 0 e).text.items → OnOk r (All Came (set news 0 back)) → OnOk r (whole ≡ kept ++ flat_map text_in (set news 0 back))
    → OnOk r (whole ≡ out ++ lines_of (flat_map series_in olds))
joined_on (Ok done) olds news d e lent back out kept whole some long each empty series text none same kept_is came is =
    is ∙ ap (λ (t : List ℕ). t ++ flat_map text_in (set news 0 back)) kept_is ∙ joined olds news d e lent back out some long each empty series text none same came
joined_on (Err error) olds news d e lent back out kept whole some long each empty series text none same kept_is came is = tt

-- a part more
pub joined_more : (parts : List TextPart) (k : ℕ) (d : TextPart) (out before after : List ℕ) → k < length parts → (get_or parts k d).came ≡ Ok tt → after ≡ before ++ text_in (get_or parts k d)
    → All Came (take k parts) × (before ≡ out ++ flat_map text_in (take k parts)) → All Came (take (k + 1) parts) × (after ≡ out ++ flat_map text_in (take (k + 1) parts))
joined_more parts k d out before after within came is so_far = (
  All-more Came parts k d within so_far.0 came,
  is ∙ ap (λ (t : List ℕ). t ++ text_in (get_or parts k d)) so_far.1 ∙ flat_map_more text_in out (take k parts) (get_or parts k d)
      ∙ ap (λ (ps : List TextPart). out ++ flat_map text_in ps) (sym (take_more parts k d within)),
)
