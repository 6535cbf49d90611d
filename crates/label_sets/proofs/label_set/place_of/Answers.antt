use Rattle.std.proofs.Common.{rules}
use Rattle.std.proofs.lemmas.Fn.{always_returns_same}
use Rattle.label_sets.specs.Labels.{compare_texts}
use Rattle.label_sets.proofs.LabelPlaces.{found_place, absent_place}
use Rattle.label_sets.proofs.label_set.place_of.Goals as goal

pub returns-clause-found : goal.returns-clause-found
returns-clause-found c = found_place _ _ _ c.requires c.binary_search_by.ensures.bound
    (c.binary_search_by.ensures.position (λ l. compare_texts l.name c.args.name.now) (always_returns_same _ _ _ (λ a r f k. search rules)))

pub returns-clause-absent : goal.returns-clause-absent
returns-clause-absent c = absent_place _ _ _ c.requires c.binary_search_by.ensures.bound
    (c.binary_search_by.ensures.position (λ l. compare_texts l.name c.args.name.now) (always_returns_same _ _ _ (λ a r f k. search rules)))
