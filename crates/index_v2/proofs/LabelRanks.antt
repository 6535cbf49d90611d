-- The ranks of a series' labels, read from its symbol numbers; and labels whose order is told by numbers.
use Rattle.std.proofs.Common.{◌≡◌, ℕ, zero, suc, ◌+◌, ◌*◌, ◌^◌, ◌<◌, List, [], ◌∷◌, ◌++◌, length, map, Some, Result, Ok, Err, refl, sym, ap, subst, ◌∙◌, arith, ◌⊎◌, inl, inr}
use Rattle.std.specs.Prelude.{slice_get}
use Rattle.std.proofs.lemmas.Bool.{lt-ltb}
use Rattle.std.proofs.lemmas.List.{map_push, length-append}
use Rattle.std.proofs.lemmas.Option.{slice_get_within, same_Some}
use Rattle.base.specs.Members.{members_at}
use Rattle.base.proofs.Binds.{bind_ok, ok_is}
use Rattle.base.proofs.Counted.{members_more, members_stop}
use Rattle.wire_bytes.specs.Position.{Position}
use Rattle.label_sets.specs.declared.label.Label.{Label}
use Rattle.index_parts.specs.declared.refusal.PartRefusal.{PartRefusal}
use Rattle.index_parts.specs.declared.raw_series.RawLabel.{RawLabel}
use Rattle.index_parts.specs.declared.index_series.IndexSeries.{IndexSeries}
use Rattle.index_parts.specs.SeriesReading.{labels_begin_at, label_at, chunks_at}
use Rattle.index_v2.specs.declared.ranks.Ranks.{Ranks}
use Rattle.index_v2.specs.SeriesLabels.{labels_of, texts_at, labelled_at}
use Rattle.index_v2.specs.Ranks.{AreSymbols, IsSymbolRank, IsLabelRank, AreLabelRanks, IsRanked, AreRanked, rank_of, ranks_of, ranks_at, series_ranks_at}
use Rattle.index_v2.proofs.LabelReading.{label_parts}
use Rattle.index_v2.proofs.LabelLaws.{labels_found, labels_parts, no_labels, set_from_chain}

-- ---- the loop over the labels

pub record RanksSoFar (count : ℕ) (start : Position) (made : List Ranks) (rest : Position) : Type 0 where
  pub raws : List RawLabel
  pub read : members_at label_at count start ≡ Ok (raws, rest)
  pub made_is : made ≡ map ranks_of raws

pub ranks_start : (start : Position) (made : List Ranks) → made ≡ [] → RanksSoFar 0 start made start
unfolding members_at
ranks_start start made none = record { raws = []; read = refl; made_is = none }

pub ranks_more : (count : ℕ) (start : Position) (made new : List Ranks) (p q : Position) (raw : RawLabel) (its : Ranks) → RanksSoFar count start made p → label_at p ≡ Ok (raw, q) → its ≡ ranks_of raw → new ≡ made ++ its ∷ [] → RanksSoFar (count + 1) start new q
ranks_more count start made new p q raw its far read is pushed = record {
  raws = far.raws ++ raw ∷ [];
  read = members_more label_at count start p q far.raws raw far.read read;
  made_is = pushed ∙ ap (λ (r : Ranks). made ++ r ∷ []) is ∙ ap (λ (l : List Ranks). l ++ ranks_of raw ∷ []) far.made_is ∙ sym (map_push ranks_of far.raws raw);
}

refused_all : (count : ℕ) (start : Position) (refusal : PartRefusal) → members_at label_at count start ≡ Err refusal → ranks_at count start ≡ Err refusal
unfolding ranks_at
refused_all count start refusal e = rw e refl

pub ranks_stop : (so_far count : ℕ) (start : Position) (made : List Ranks) (p : Position) (refusal : PartRefusal) → RanksSoFar so_far start made p → so_far < count → label_at p ≡ Err refusal → ranks_at count start ≡ Err refusal
ranks_stop so_far count start made p refusal far lt refused = refused_all count start refusal (members_stop label_at so_far count start p far.raws refusal lt far.read refused)

pub ranks_end : (so_far count : ℕ) (start : Position) (made : List Ranks) (p : Position) → RanksSoFar so_far start made p → so_far ≡ count → ranks_at count start ≡ Ok made
unfolding ranks_at
ranks_end so_far count start made p far e =
    let read : members_at label_at count start ≡ Ok (far.raws, p) = ap (λ (n : ℕ). members_at label_at n start) (sym e) ∙ far.read in
    rw read (ap Ok (sym far.made_is))

-- ---- what they are

small_rank : (number : ℕ) → number < 2 ^ 32 → rank_of number ≡ 2 * number + 1
small_rank number lt = rw (lt-ltb number (2 ^ 32) lt) refl

symbol_rank : (symbols : List (List ℕ)) (number : ℕ) (text : List ℕ) → AreSymbols symbols → slice_get symbols number ≡ Some text → IsSymbolRank symbols text (rank_of number)
symbol_rank symbols number text are at = record { number = number; stands = at; rank_is = small_rank number (omega (arith, are.small, slice_get_within symbols number text at)) }

ranks_so : (symbols : List (List ℕ)) (before : List ℕ) (raws : List RawLabel) (labels : List Label) → AreSymbols symbols → labels_of symbols before raws ≡ Ok labels → AreLabelRanks symbols labels (map ranks_of raws)
ranks_so symbols before [] labels are e = subst (λ (ls : List Label). AreLabelRanks symbols ls []) (no_labels symbols before labels e) tt
ranks_so symbols before (raw ∷ others) labels are e =
    let p = labels_parts symbols before raw others labels e in
    let is = label_parts symbols before raw p.0 p.2 in
    let first : IsLabelRank symbols p.0 (ranks_of raw) = record { name_is = symbol_rank symbols raw.name.number p.0.name are is.name_is; value_is = symbol_rank symbols raw.value.number p.0.value are is.value_is } in
    subst (λ (ls : List Label). AreLabelRanks symbols ls (map ranks_of (raw ∷ others))) p.4 (first, ranks_so symbols p.0.name others p.1 are p.3)

read_is : (index : List ℕ) (at count : ℕ) (p q : Position) (raws : List RawLabel) → labels_begin_at index at ≡ Ok (count, p) → members_at label_at count p ≡ Ok (raws, q) → series_ranks_at index at ≡ Ok (map ranks_of raws)
unfolding series_ranks_at ranks_at
read_is index at count p q raws a b = rw (a, b) refl

pub record AreRead (index : List ℕ) (symbols : List (List ℕ)) (at : ℕ) (series : IndexSeries) : Type 0 where
  pub ranks : List Ranks
  pub read : series_ranks_at index at ≡ Ok ranks
  pub ranked : IsRanked symbols series ranks

pub are_read : (index : List ℕ) (symbols : List (List ℕ)) (at : ℕ) (series : IndexSeries) → AreSymbols symbols → labelled_at index symbols at ≡ Ok series → AreRead index symbols at series
unfolding labelled_at texts_at
are_read index symbols at series are e =
    let begin = bind_ok (labels_begin_at index at) _ _ e in
    let texts = bind_ok _ _ _ begin.2 in
    let raws = bind_ok (members_at label_at begin.0.0 begin.0.1) _ _ texts.1 in
    let chunks = bind_ok (chunks_at texts.0.1) _ _ texts.2 in
    let labels = bind_ok texts.0.0 _ _ chunks.2 in
    let same = ok_is {E = PartRefusal} _ _ raws.2 in
    let labels_are : labels_of symbols [] raws.0.0 ≡ Ok labels.0 = ap (λ (r : Result (List Label) PartRefusal × Position). r.0) same ∙ labels.1 in
    let series_is = ok_is {E = PartRefusal} _ _ labels.2 in
    record {
      ranks = map ranks_of raws.0.0;
      read = read_is index at begin.0.0 begin.0.1 raws.0.1 raws.0.0 begin.1 raws.1;
      ranked = subst (λ (s : IndexSeries). IsRanked symbols s (map ranks_of raws.0.0)) series_is (record {
        labels = ranks_so symbols [] raws.0.0 labels.0 are labels_are;
        lawful = (set_from_chain _ _ (labels_found symbols [] raws.0.0 labels.0 labels_are).2).0;
      });
    }

-- ---- one series more

pub slice_front : {A : Type 0} (xs : List A) (y x : A) (k : ℕ) → slice_get (xs ++ y ∷ []) k ≡ Some x → (slice_get xs k ≡ Some x) ⊎ ((k ≡ length xs) × (y ≡ x))
slice_front [] y x zero e = inr (refl, same_Some y x e)
slice_front [] y x (suc k) e = absurd cc
slice_front (z ∷ xs) y x zero e = inl e
slice_front (z ∷ xs) y x (suc k) e = elim (slice_front xs y x k e) [
  | inl before ↦ inl before
  | inr here ↦ inr (ap suc here.0, here.1)
]

none_ranked : (symbols : List (List ℕ)) → AreRanked symbols [] []
none_ranked symbols = record { many = refl; each = λ k one its at there. absurd cc }

pub no_series_ranked : (symbols : List (List ℕ)) (series : List IndexSeries) (ranks : List (List Ranks)) → series ≡ [] → ranks ≡ [] → AreRanked symbols series ranks
no_series_ranked symbols series ranks e f = subst (λ (l : List IndexSeries). AreRanked symbols l ranks) (sym e) (subst (AreRanked symbols []) (sym f) (none_ranked symbols))

pub one_more_ranked : (symbols : List (List ℕ)) (series new : List IndexSeries) (ranks newer : List (List Ranks)) (one : IndexSeries) (its : List Ranks) → AreRanked symbols series ranks → IsRanked symbols one its → new ≡ series ++ one ∷ [] → newer ≡ ranks ++ its ∷ [] → AreRanked symbols new newer
one_more_ranked symbols series new ranks newer one its are is e f =
    let here : AreRanked symbols (series ++ one ∷ []) (ranks ++ its ∷ []) = record {
      many = omega (arith, are.many, length-append series (one ∷ []), length-append ranks (its ∷ []));
      each = λ k x r at there. elim (slice_front series one x k at) [
        | inl before ↦ elim (slice_front ranks its r k there) [
          | inl also ↦ are.each k x r before also
          | inr last ↦ absurd (omega (arith, slice_get_within series k x before, last.0, are.many))
        ]
        | inr last ↦ elim (slice_front ranks its r k there) [
          | inl also ↦ absurd (omega (arith, slice_get_within ranks k r also, last.0, are.many))
          | inr same ↦ subst (λ (y : List Ranks). IsRanked symbols x y) same.1 (subst (λ (y : IndexSeries). IsRanked symbols y its) last.1 is)
        ]
      ];
    } in
    subst (λ (l : List IndexSeries). AreRanked symbols l newer) (sym e) (subst (AreRanked symbols (series ++ one ∷ [])) (sym f) here)
