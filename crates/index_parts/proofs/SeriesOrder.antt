-- The order of series is total.
use Rattle.std.specs.Cmp.{IsTotalOrder}
use Rattle.std.specs.Cmp.Lexicographic.{on_texts, lists_total}
use Rattle.std.proofs.lemmas.Cmp.{then_total, on_total}
use Rattle.label_sets.specs.declared.label.Label.{Label}
use Rattle.index_parts.specs.declared.index_series.IndexSeries.{IndexSeries}
use Rattle.index_parts.specs.IndexFile.{compare_series}

pub series_total : IsTotalOrder compare_series
series_total = on_total (λ (s : IndexSeries). s.labels) (lists_total (then_total (on_texts (λ (l : Label). l.name)) (on_texts (λ (l : Label). l.value))))
