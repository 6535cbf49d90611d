use Rattle.std.proofs.Common.{ap, arith}
use Rattle.std.specs.List.{sum_by}
use Rattle.index_writing.specs.WriteSteps.{row_size}
use Rattle.index_writing.specs.Written.{table_rows}
use Rattle.index_writing.proofs.SectionSizes.{rows_fit, rows_large}
use Rattle.index_writing.proofs.TableRows.{refused_stop}
use Rattle.index_writing.proofs.section_tables.put_table.Goals as goal

pub returns-in_err-table-clause-makes : goal.returns-in_err-table-clause-makes
returns-in_err-table-clause-makes c =
    refused_stop _ _ _ _ _ c.from_residual.ensures.1 c.in_err-table.ensures.large
    (λ large. rows_large c.args.out.now.items (table_rows c.args.symbols.now c.args.rows.now c.args.places.now) large)

pub write_postings_table-requires : goal.write_postings_table-requires
write_postings_table-requires c = rows_fit _ (let fits = c.in_ok-table.ensures.fit in omega (arith, ap (sum_by row_size) c.in_ok-table.ensures.rows))
