-- What is put as it may be leaves all that was put lawful.
use Rattle.std.proofs.Common.{◌≡◌, ℕ, ◌-◌, List, [], ◌∷◌, ◌++◌, length, map, Option, None, Some, Result, sym, subst, ap, ◌∙◌, inl, inr, ℤ}
use Rattle.std.specs.Prelude.{slice_get, OnOk}
use Rattle.std.specs.Cmp.{IsTotalOrder}
use Rattle.std.specs.Cmp.Lexicographic.{on_texts, lists_total}
use Rattle.std.specs.List.Sorted.{IsStrictlySortedBy}
use Rattle.std.proofs.lemmas.Cmp.{then_total}
use Rattle.std.proofs.lemmas.List.{map-append}
use Rattle.base.proofs.Lists.{AllByRecursion-push, last_or_none}
use Rattle.base.proofs.Order.{sorted_nil, sorted_cons, sorted_push}
use Rattle.label_sets.specs.Labels.{compare_sets}
use Rattle.label_sets.specs.declared.label.Label.{Label}
use Rattle.label_sets.specs.declared.sample.Sample.{Sample}
use Rattle.xor_chunks.specs.Grammar.{IsText}
use Rattle.block_writing.specs.Put.{PutChunk, PutSeries, PlanFields, Put, IsStored, IsAfter, IsAfterChunks, AreApart, IsAfterSeries, AreOfSeries, IsEnded, IsPut, nothing_put, with_chunk, with_series}
use Rattle.block_writing.proofs.Runs.{order_more}
use Rattle.block_writing.proofs.Lists.{last_at}

-- ---- chunks

-- the same chunk, whose times were handed on
pub carried : {U E : Type 0} (r : Result U E) (old new : Put) (content : List ℕ) (min max min' max' : ℤ) → min' ≡ min → max' ≡ max
    → ((samples : List Sample) → IsText 8 content samples → OnOk r (new ≡ with_chunk old (record { content = content; min = min'; max = max' }) (length samples)))
    → (samples : List Sample) → IsText 8 content samples → OnOk r (new ≡ with_chunk old (record { content = content; min = min; max = max }) (length samples))
carried r old new content min max min' max' e f ok samples text =
    subst (λ (t : ℤ). OnOk r (new ≡ with_chunk old (record { content = content; min = t; max = max }) (length samples))) e
    (subst (λ (t : ℤ). OnOk r (new ≡ with_chunk old (record { content = content; min = min'; max = t }) (length samples))) f (ok samples text))

pub after_last : (front : List PutChunk) (last : PutChunk) (time : ℤ) → IsAfterChunks (front ++ last ∷ []) time → IsAfter (Some last) time
after_last front last time after = subst (λ (o : Option PutChunk). IsAfter o time) (last_at front last) after

pub behind_last : (front : List PutChunk) (last : PutChunk) (time : ℤ) → IsAfter (Some last) time → IsAfterChunks (front ++ last ∷ []) time
behind_last front last time after = subst (λ (o : Option PutChunk). IsAfter o time) (sym (last_at front last)) after

apart_more : (chunks : List PutChunk) (chunk : PutChunk) → AreApart chunks → IsAfterChunks chunks chunk.min → AreApart (chunks ++ chunk ∷ [])
apart_more chunks chunk apart after = elim (last_or_none chunks) [
  | inl none ↦ subst (λ (l : List PutChunk). AreApart (l ++ chunk ∷ [])) (sym none) (tt, tt)
  | inr (front, last, e) ↦
      let split : AreApart (front ++ last ∷ []) = subst AreApart e apart in
      let follows : IsAfter (Some last) chunk.min = after_last front last chunk.min (subst (λ (l : List PutChunk). IsAfterChunks l chunk.min) e after) in
      subst (λ (l : List PutChunk). AreApart (l ++ chunk ∷ [])) (sym e) (order_more (λ (before : Option PutChunk) (c : PutChunk). IsAfter before c.min) front None last chunk split follows)
]

none_put : (plan : PlanFields) → AreOfSeries plan []
none_put plan = record { stored = tt; apart = tt }

-- ---- series

sets_total : IsTotalOrder compare_sets
sets_total = lists_total (then_total (on_texts (λ (l : Label). l.name)) (on_texts (λ (l : Label). l.value)))

abbrev labels_of : List PutSeries → List (List Label)
labels_of series = map (λ s. s.labels) series

ascend_more : (series : List PutSeries) (one : PutSeries) → IsStrictlySortedBy compare_sets (labels_of series) → IsAfterSeries series one.labels → IsStrictlySortedBy compare_sets (labels_of (series ++ one ∷ []))
ascend_more series one ascend after = elim (last_or_none series) [
  | inl none ↦ subst (λ (l : List PutSeries). IsStrictlySortedBy compare_sets (labels_of (l ++ one ∷ []))) (sym none) (sorted_cons compare_sets one.labels [] tt (sorted_nil compare_sets))
  | inr (front, last, e) ↦
      let less = after last (ap (λ (l : List PutSeries). slice_get l (length l - 1)) e ∙ last_at front last) in
      let split : labels_of series ≡ labels_of front ++ last.labels ∷ [] = ap labels_of e ∙ map-append (λ (s : PutSeries). s.labels) front (last ∷ []) in
      let more : labels_of (series ++ one ∷ []) ≡ (labels_of front ++ last.labels ∷ []) ++ one.labels ∷ [] = map-append (λ (s : PutSeries). s.labels) series (one ∷ []) ∙ ap (λ (l : List (List Label)). l ++ one.labels ∷ []) split in
      subst (IsStrictlySortedBy compare_sets) (sym more) (sorted_push compare_sets sets_total (labels_of front) last.labels one.labels (subst (IsStrictlySortedBy compare_sets) split ascend) less)
]

-- ---- what is put

pub nothing_lawful : (plan : PlanFields) → IsPut (nothing_put plan)
nothing_lawful plan = record { series = tt; ascend = sorted_nil compare_sets; chunks = none_put plan }

pub chunk_lawful : (put : Put) (chunk : PutChunk) (count : ℕ) → IsPut put → IsStored put.plan chunk → IsAfterChunks put.chunks chunk.min → IsPut (with_chunk put chunk count)
chunk_lawful put chunk count h stored after = record {
  series = h.series;
  ascend = h.ascend;
  chunks = record {
    stored = AllByRecursion-push (IsStored put.plan) put.chunks chunk h.chunks.stored stored;
    apart = apart_more put.chunks chunk h.chunks.apart after;
  };
}

pub series_lawful : (put : Put) (labels : List Label) → IsPut put → (put.chunks ≡ [] → ⊥) → IsAfterSeries put.series labels → IsPut (with_series put labels)
series_lawful put labels h some after = record {
  series = AllByRecursion-push (IsEnded put.plan) put.series (record { labels = labels; chunks = put.chunks }) h.series (record { some = some; chunks = h.chunks });
  ascend = ascend_more put.series (record { labels = labels; chunks = put.chunks }) h.ascend after;
  chunks = none_put put.plan;
}
