-- The walks over ranks: what they find of ranks they find of the texts.
use Rattle.std.proofs.Common.{◌≡◌, ℕ, zero, suc, ◌+◌, ◌<◌, ◌≤◌, Bool, true, false, List, [], ◌∷◌, length, zip, drop, get_or, Option, Some, None, Ok, refl, sym, ap, ◌∙◌, arith}
use Rattle.std.specs.Prelude.{slice_get, is_none, ◌&&◌}
use Rattle.std.specs.List.{list_all}
use Rattle.std.proofs.lemmas.List.{drop_all}
use Rattle.std.proofs.lemmas.Option.{slice_get-get_or}
use Rattle.base.proofs.Lists.{drop_none}
use Rattle.label_sets.specs.declared.label.Label.{Label}
use Rattle.index_parts.specs.declared.postings_row.PostingsRow.{PostingsRow}
use Rattle.index_parts.specs.declared.index_series.IndexSeries.{IndexSeries}
use Rattle.index_v2.specs.declared.ranks.Ranks.{Ranks}
use Rattle.index_v2.specs.Ranks.{IsLabelRank, AreLabelRanks, IsRanked, AreRanked}
use Rattle.index_v2.specs.WholeReading.{belongs, is_of_row, gap_from, gap_of, earlier_place}
use Rattle.index_v2.proofs.Differences.{TellsPlace, of_row, GapsSoFar, gaps_step, gaps_end, GapSoFar, gap_step}
use Rattle.index_v2.proofs.RankPlaces.{as_many, one_rank}
use Rattle.index_v2.proofs.WholeLoops.{at_front}

pub nth : {A : Type 0} (xs : List A) (k : ℕ) → k < length xs → (x : A) × (slice_get xs k ≡ Some x) × (x ≡ get_or xs k x)
nth [] k lt = absurd (omega (arith, lt))
nth (x ∷ xs) zero lt = (x, refl, refl)
nth (x ∷ xs) (suc k) lt = nth xs k (omega (arith, lt))

-- ---- a number against a row

module _ (symbols : List (List ℕ)) (numbers : List ℕ) (series : List IndexSeries) (ranks : List (List Ranks)) (row : PostingsRow) (number place : ℕ) (are : AreRanked symbols series ranks) (many : length numbers ≡ length ranks) where
  pub ranked_of_row : (its members : List Ranks) (answer : Bool) → TellsPlace numbers number (Ok place) → its ≡ get_or ranks place its → members ≡ its → ((one : IndexSeries) → IsRanked symbols one members → answer ≡ belongs row.name row.value one) → answer ≡ is_of_row (zip numbers series) row number
  ranked_of_row its members answer tells at m say =
      let x = nth series place (omega (arith, tells.0, many, are.many)) in
      let there = slice_get-get_or ranks place its (omega (arith, tells.0, many)) ∙ ap Some (sym at ∙ sym m) in
      say x.0 (are.each place x.0 members x.1 there) ∙ of_row numbers series row number place x.0 (omega (arith, many, are.many)) tells x.2

-- ---- all numbers of a list

module _ (f : ℕ → Bool) (list : List ℕ) where
  pub all_start : list_all f list ≡ list_all f (drop 0 list)
  all_start = ap (list_all f) (sym (drop_none list))

  one_of_all : (x : ℕ) (xs : List ℕ) → f x ≡ true → list_all f (x ∷ xs) ≡ list_all f xs
  one_of_all x xs e = rw e refl

  none_of_all : (x : ℕ) (xs : List ℕ) → f x ≡ false → list_all f (x ∷ xs) ≡ false
  none_of_all x xs e = rw e refl

  pub all_step : (i x : ℕ) → list_all f list ≡ list_all f (drop i list) → i < length list → x ≡ get_or list i 0 → f x ≡ true → list_all f list ≡ list_all f (drop (i + 1) list)
  all_step i x far lt at e = far ∙ ap (list_all f) (at_front list i x lt at) ∙ one_of_all x (drop (i + 1) list) e

  pub all_stop : (i x : ℕ) → list_all f list ≡ list_all f (drop i list) → i < length list → x ≡ get_or list i 0 → f x ≡ false → false ≡ list_all f list
  all_stop i x far lt at e = sym (far ∙ ap (list_all f) (at_front list i x lt at) ∙ none_of_all x (drop (i + 1) list) e)

  pub all_end : (i : ℕ) → list_all f list ≡ list_all f (drop i list) → length list ≤ i → true ≡ list_all f list
  all_end i far le = sym (far ∙ ap (list_all f) (drop_all i list le))

pub kept_where : (stray : Option ℕ) (b test : Bool) → stray ≡ None → b ≡ test → b ≡ (is_none stray && test)
kept_where None b test none e = e
kept_where (Some k) b test none e = absurd cc

pub kept_nowhere : (stray : Option ℕ) (place : ℕ) (test : Bool) → stray ≡ Some place → false ≡ (is_none stray && test)
kept_nowhere None place test some = absurd cc
kept_nowhere (Some k) place test some = refl

-- ---- gaps

module _ (symbols : List (List ℕ)) (rows : List PostingsRow) (lists : List (List ℕ)) where
  pub ranked_gap : (number : ℕ) (labels : List Label) (ranks : List Ranks) (place : ℕ) (r d : Ranks) (least here new : Option ℕ) → AreLabelRanks symbols labels ranks → GapsSoFar rows lists number labels place least → place < length ranks → r ≡ get_or ranks place d
      → ((one : Label) → IsLabelRank symbols one r → here ≡ gap_from 0 rows lists number one) → new ≡ earlier_place least here → GapsSoFar rows lists number labels (place + 1) new
  ranked_gap number labels ranks place r d least here new are far lt at tells e =
      let long = as_many symbols labels ranks are in
      let x = nth labels place (omega (arith, lt, long)) in
      let its = one_rank symbols labels ranks place x.0 r are x.1 (slice_get-get_or ranks place d lt ∙ ap Some (sym at)) in
      gaps_step rows lists number labels place x.0 least here new far (omega (arith, lt, long)) x.2 (tells x.0 its) e

  pub ranked_gaps : (number : ℕ) (labels : List Label) (ranks : List Ranks) (place : ℕ) (least : Option ℕ) → AreLabelRanks symbols labels ranks → GapsSoFar rows lists number labels place least → length ranks ≤ place → least ≡ gap_of rows lists number labels
  ranked_gaps number labels ranks place least are far le = gaps_end rows lists number labels place least far (omega (arith, le, as_many symbols labels ranks are))

  pub ranked_among : (numbers : List ℕ) (series : List IndexSeries) (ranks : List (List Ranks)) (place number : ℕ) (its members : List Ranks) (least here new : Option ℕ) → AreRanked symbols series ranks → GapSoFar rows lists numbers series place least → length numbers ≡ length ranks → place < length numbers → number ≡ get_or numbers place 0 → its ≡ get_or ranks place its → members ≡ its
      → ((all : List Label) → AreLabelRanks symbols all members → here ≡ gap_of rows lists number all) → new ≡ earlier_place least here → GapSoFar rows lists numbers series (place + 1) new
  ranked_among numbers series ranks place number its members least here new are far many lt n at m tells e =
      let x = nth series place (omega (arith, lt, many, are.many)) in
      let there = slice_get-get_or ranks place its (omega (arith, lt, many)) ∙ ap Some (sym at ∙ sym m) in
      let known = are.each place x.0 members x.1 there in
      gap_step rows lists numbers series place number x.0 x.0.labels least here new far (omega (arith, many, are.many)) lt n x.2 refl (tells x.0.labels known.labels) e
