use Rattle.index_parts.specs.Symbols.{IsNextSymbol}
use Rattle.index_parts.specs.SymbolsReading.{symbol_at}
use Rattle.index_parts.specs.Parts.{part_of}
use Rattle.index_parts.proofs.SectionShifts.{symbol_turned}
use Rattle.index_parts.proofs.Slices.{refused_in, fits_in, list_stands, known_told, index_told}
use Rattle.index_parts.proofs.part_sections.symbols_in.Goals as goal

pub shifted_refusal-requires : goal.shifted_refusal-requires
shifted_refusal-requires c =
    let part = part_of c.args.part in
    let told = known_told symbol_at symbol_turned part c.args.at c.requires.begins c.ranges.at.fits c.requires.fits in
    fits_in c.args.part.begin _ _ c.in-Err.refusal told c.in-Err.ensures.exact

pub returns-in-Ok : goal.returns-in-Ok
returns-in-Ok c =
    let part = part_of c.args.part in
    let told = known_told symbol_at symbol_turned part c.args.at c.requires.begins c.ranges.at.fits c.requires.fits in
    record {
      found = λ index is. list_stands IsNextSymbol part index c.args.at c.in-Ok.table is c.requires.begins c.in-Ok.ensures.found;
      same = λ index is lies. (index_told symbol_at symbol_turned part c.args.at c.requires.begins c.ranges.at.fits c.requires.fits index is lies).found c.in-Ok.table c.in-Ok.ensures.exact;
      exact = told.found c.in-Ok.table c.in-Ok.ensures.exact;
      few = c.in-Ok.ensures.few;
    }

pub returns-in-Err : goal.returns-in-Err
returns-in-Err c =
    let part = part_of c.args.part in
    let told = known_told symbol_at symbol_turned part c.args.at c.requires.begins c.ranges.at.fits c.requires.fits in
    record {
      found = λ index is. tt;
      same = λ index is lies. refused_in c.args.part.begin _ _ c.in-Err.refusal c.shifted_refusal.result (index_told symbol_at symbol_turned part c.args.at c.requires.begins c.ranges.at.fits c.requires.fits index is lies) c.shifted_refusal.ensures c.in-Err.ensures.exact;
      exact = refused_in c.args.part.begin _ _ c.in-Err.refusal c.shifted_refusal.result told c.shifted_refusal.ensures c.in-Err.ensures.exact;
      few = tt;
    }
