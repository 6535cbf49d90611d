-- The summary of a run of the generated day, as text.
use Rattle.std.specs.Prelude.{ℕ, List, ◌++◌, codes}
use Rattle.base.specs.Decimal.{decimal_text}
use Rattle.base.specs.Lines.{newline}
use Rattle.generated_day.specs.declared.summary.QueryCounts.{QueryCounts}
use Rattle.generated_day.specs.declared.summary.Summary.{Summary}

-- words, and a number behind them
unfoldable pub counted : List ℕ → ℕ → List ℕ
counted words number = words ++ decimal_text number

unfoldable pub generated_line : Summary → List ℕ
generated_line s =
    counted (codes "generated blocks ") s.blocks ++ counted (codes " series ") s.series ++ counted (codes " samples ") s.samples
    ++ newline

unfoldable pub uploaded_line : Summary → List ℕ
uploaded_line s = counted (codes "uploaded ") s.uploaded ++ newline

unfoldable pub rounds_line : Summary → List ℕ
rounds_line s =
    counted (codes "rounds ") s.rounds ++ counted (codes " compacted ") s.compacted ++ counted (codes " collected ") s.collected
    ++ newline

unfoldable pub cleaned_line : Summary → List ℕ
cleaned_line s = counted (codes "cleaned blocks ") s.cleaned ++ counted (codes " partials ") s.partials ++ newline

unfoldable pub query_line : ℕ → QueryCounts → List ℕ
query_line number counts =
    counted (codes "query ") number ++ counted (codes " series ") counts.series ++ counted (codes " samples ") counts.samples
    ++ counted (codes " sources ") counts.sources
    ++ newline

unfoldable pub queries_text : Summary → List ℕ
queries_text s = query_line 1 s.first ++ query_line 2 s.second ++ query_line 3 s.third

unfoldable pub summary_text : Summary → List ℕ
summary_text s = generated_line s ++ uploaded_line s ++ rounds_line s ++ cleaned_line s ++ queries_text s
