-- What becomes of blocks that were read.
use Rattle.std.proofs.Common.{◌≡◌, ◌≤◌, ℕ, suc, Bool, true, false, List, [], ◌∷◌, map, length, Some, Result, Ok, Err, refl, sym, ap, subst, ◌∙◌, arith}
use Rattle.std.specs.Prelude.{nat_le}
use Rattle.std.specs.List.{AllByRecursion, AllZip}
use Rattle.std.proofs.lemmas.Bool.{leb-true}
use Rattle.label_sets.specs.declared.label.Label.{Label}
use Rattle.index_parts.specs.declared.index_series.IndexSeries.{IndexSeries}
use Rattle.index_v2.specs.declared.refusal.IndexRefusal.{IndexRefusal}
use Rattle.block_content.specs.ContentReading.{index_at}
use Rattle.block_meta.specs.declared.block_plan.BlockPlan.{BlockPlan}
use Rattle.block_meta.specs.declared.block_files.BlockFiles.{BlockFiles}
use Rattle.vertical_merge.specs.Compacted.{IsCompactedPlan}
use Rattle.std.proofs.lemmas.List.{length-map}
use Rattle.compactor.specs.Inputs.{IsInput, HasNamed, HasFew}
use Rattle.compactor.specs.InputFiles.{numbers_of, AreFiles, AreNamed}
use Rattle.compactor.specs.Named.{last_named, if_few, named_by, named_segments}
use Rattle.compactor.specs.declared.input.Read.{Read}
use Rattle.compactor.specs.declared.input_files.Numbers.{Numbers}
use Rattle.block_writing.specs.WrittenMeta.{meta_with}
use Rattle.block_meta.specs.MetaFields.{MetaFields}
use Rattle.compactor.specs.Merges.{Given, IsMerging}
use Rattle.compactor.specs.declared.merging.Merging.TheVariants.{Merged}
use Rattle.compactor.specs.declared.input.Input.{Input}

same_count : (inputs : List Input) (blocks : List BlockFiles) → AllZip IsInput inputs blocks → length blocks ≡ length inputs
same_count [] [] are = refl
same_count [] (b ∷ bs) are = absurd are
same_count (i ∷ inputs) [] are = absurd are
same_count (i ∷ inputs) (b ∷ bs) are = ap (λ n. suc n) (same_count inputs bs are.1)

pub blocks_many : (inputs : List Input) (blocks : List BlockFiles) → AllZip IsInput inputs blocks → 2 ≤ length inputs → 2 ≤ length blocks
blocks_many inputs blocks are many = omega (arith, many, same_count inputs blocks are)

-- what an index names is no more than a block may have
most : (b : Bool) (count n : ℕ) → (b ≡ true → count ≤ 999_999) → if_few b count ≡ Some n → n ≤ 999_999
most true count n le is = let same : count ≡ n = cc (is) in subst (λ (m : ℕ). m ≤ 999_999) same (le refl)
most false count n le is = absurd (cc (is))

few_by : (read : Result (List IndexSeries) IndexRefusal) (n : ℕ) → named_by read ≡ Some n → n ≤ 999_999
few_by (Err e) n is = absurd (cc (is))
few_by (Ok indexed) n is = most (nat_le (last_named indexed) 999_999) (last_named indexed) n (leb-true _ _) is

pub named_few : (inputs : List Input) → AllByRecursion HasNamed inputs → AllByRecursion HasFew inputs
named_few [] named = tt
named_few (i ∷ inputs) named = (few_by (index_at i.index.bytes) (length i.segments) named.0, named_few inputs named.1)

-- of each block just the segments were read that its index names
each_named : (inputs : List Input) (blocks : List BlockFiles) → AllByRecursion HasNamed inputs → AllZip IsInput inputs blocks → AllZip AreNamed blocks (map numbers_of inputs)
each_named [] [] named are = tt
each_named [] (b ∷ bs) named are = absurd are
each_named (i ∷ inputs) [] named are = absurd are
each_named (i ∷ inputs) (b ∷ bs) named are =
    (ap named_segments are.0.index ∙ named.0 ∙ ap (λ (n : ℕ). Some n) (sym (length-map i.segments (λ (s : Read). s.number))), each_named inputs bs named.1 are.1)

pub all_named : (inputs : List Input) (blocks : List BlockFiles) (numbers : List Numbers) → AllByRecursion HasNamed inputs → AreFiles inputs blocks numbers → AllZip AreNamed blocks numbers
all_named inputs blocks numbers named are = subst (AllZip AreNamed blocks) (sym are.numbers_are) (each_named inputs blocks named are.read)

abbrev pub given_so : (inputs : List Input) (blocks : List BlockFiles) (ulid : ℕ) (labels : List Label) (plan : BlockPlan) → AllZip IsInput inputs blocks
    → IsCompactedPlan (map (λ (b : BlockFiles). b.meta) blocks) ulid labels plan → Given ulid labels inputs
given_so inputs blocks ulid labels plan are planned = record { blocks = blocks; read = are; plan = plan; planned = planned }

pub merged_ulid : (replicas : List (List ℕ)) (ulid : ℕ) (labels : List Label) (inputs : List Input) (block : BlockFiles) → IsMerging replicas ulid labels inputs (Merged block) → block.meta.ulid ≡ ulid
unfolding meta_with
merged_ulid replicas ulid labels inputs block (given, is) =
    ap (λ (m : MetaFields). m.ulid) is.block_is.meta ∙ ap (λ p. p.ulid) is.put_is.plan_is ∙ given.planned.ulid_is
