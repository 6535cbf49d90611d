use Rattle.std.proofs.Common.{◌≡◌, sym, subst, ◌∙◌}
use Rattle.std.specs.List.{flat_map}
use Rattle.std.specs.List.Sorted.{IsStrictlyIncreasing}
use Rattle.std.proofs.lemmas.List.{nil_from_length}
use Rattle.label_sets.specs.Triples.{triples_of}
use Rattle.store_chunks.specs.Taken.{shown}
use Rattle.store_ranges.specs.Asking.{query_asked, block_asked}
use Rattle.store_chunks.specs.ChunksRead.{reads_of, references_in}
use Rattle.store_calls.proofs.ChunkPlans.{all_read, group_asked}
use Rattle.store_calls.proofs.chunk_steps.go_on_groups.Goals as goal

pub returns-in_ok-all_shown-in-None : goal.returns-in_ok-all_shown-in-None
returns-in_ok-all_shown-in-None c = λ cache.
    let made = c.in_ok-all_shown-in-None.field-0 in
    all_read c.args.asked.now cache c.args.series.items c.args.places.items c.args.groups.items c.args.found.items made
    (nil_from_length c.args.groups.items (sym c.args.groups.ok.0 ∙ c.in-None.ensures.cases.0))
    (subst (λ m. IsStrictlyIncreasing (references_in c.args.found.items) → triples_of made ≡ flat_map (shown (query_asked c.args.asked.now) (block_asked c.args.asked.now) (reads_of c.args.found.items)) m) c.deref.ensures.value
    c.in_ok-all_shown-in-None.ensures)

pub returns-in-Some : goal.returns-in-Some
returns-in-Some c = λ cache.
    group_asked c.args.asked.now cache c.args.groups.items (record { series = c.args.series; places = c.args.places; group = c.in-Some.group; later = c.pop_front.new.self; found = c.args.found }) c.in-Some.ensures.items
