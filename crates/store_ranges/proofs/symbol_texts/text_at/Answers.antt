use Rattle.store_ranges.proofs.symbol_texts.text_at.Goals as goal

pub range-requires : goal.range-requires
range-requires c = record { start_le_end = c.requires.0; start_boundary = λ _. c.requires.1; end_boundary = c.requires.2 }
