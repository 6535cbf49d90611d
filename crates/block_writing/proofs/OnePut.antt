-- Samples are put in one way: the chunks of a series are determined.
use Rattle.std.proofs.Common.{◌≡◌, ◌⊎◌, ℕ, suc, ◌≤◌, List, [], ◌∷◌, ◌++◌, length, take, drop, Option, None, Some, Result, Ok, Err, refl, sym, ap, subst, ◌∙◌, length-append, arith, inl, inr, ℤ}
use Rattle.std.specs.Prelude.{IfOk}
use Rattle.std.specs.List.{AllByRecursion, AllZip}
use Rattle.std.proofs.lemmas.List.{take_at, drop_at}
use Rattle.base.specs.Grammar.{IsBytes}
use Rattle.label_sets.specs.declared.label.Label.{Label}
use Rattle.label_sets.specs.declared.sample.Sample.{Sample}
use Rattle.label_sets.specs.declared.series.Series.{Series}
use Rattle.block_meta.specs.declared.block_plan.BlockPlan.{BlockPlan}
use Rattle.wire_bytes.specs.Bits.{bits_of, bits_in}
use Rattle.wire_bytes.proofs.BitLists.{length-bits_of, same_from_bits_of}
use Rattle.index_parts.specs.Turns.{InOrderAfter}
use Rattle.block_meta.specs.declared.block_files.BlockFiles.{BlockFiles}
use Rattle.block_meta.specs.declared.build_refusal.BuildRefusal.{BuildRefusal}
use Rattle.block_meta.specs.declared.build_refusal.BuildRefusal.TheVariants.{TooLarge, NoMemory}
use Rattle.block_writing.specs.Put.{PutChunk, PutSeries}
use Rattle.block_writing.specs.Files.{HaveNoIndex}
use Rattle.block_writing.specs.Built.{IsPart, IsEncoded, IsPutAs, IsBuilt, HaveNoBlock}
use Rattle.block_writing.proofs.OneText.{cut_once}
use Rattle.block_writing.proofs.Finished.{refused_where}
use Rattle.block_writing.proofs.DataLaws.{same_some}

-- ---- parts

abbrev AreFew : List Sample → Type 0
AreFew part = length part ≤ 120

some_part : (before : Option (List Sample)) → IsPart before [] → ⊥
some_part None part = let some = part.0 in absurd (omega arith)
some_part (Some before) part = let some = part.1 in absurd (omega arith)

part_full : (run after more : List Sample) (z : Sample) → IsPart (Some run) (z ∷ after) → AreFew (run ++ z ∷ more) → ⊥
part_full run after more z part few = absurd (omega (arith, part.0, few, length-append run (z ∷ more)))

few_each : (before : Option (List Sample)) (parts : List (List Sample)) → InOrderAfter IsPart before parts → AllByRecursion AreFew parts
few_each before [] order = tt
few_each None (part ∷ parts) order = (order.0.1, few_each (Some part) parts order.1)
few_each (Some before) (part ∷ parts) order = (order.0.2, few_each (Some part) parts order.1)

-- ---- a chunk

same_bytes : (xs ys : List ℕ) → IsBytes xs → IsBytes ys → bits_in xs ≡ bits_in ys → xs ≡ ys
same_bytes [] [] are too e = refl
same_bytes [] (y ∷ ys) are too e = absurd (omega (arith, ap length e, length-append (bits_of 8 y) (bits_in ys), length-bits_of 8 y))
same_bytes (x ∷ xs) [] are too e = absurd (omega (arith, ap length e, length-append (bits_of 8 x) (bits_in xs), length-bits_of 8 x))
same_bytes (x ∷ xs) (y ∷ ys) are too e =
    let heads : bits_of 8 x ≡ bits_of 8 y = sym (take_at (bits_of 8 x) (bits_in xs) 8 (length-bits_of 8 x)) ∙ ap (take 8) e ∙ take_at (bits_of 8 y) (bits_in ys) 8 (length-bits_of 8 y) in
    let tails : bits_in xs ≡ bits_in ys = sym (drop_at (bits_of 8 x) (bits_in xs) 8 (length-bits_of 8 x)) ∙ ap (drop 8) e ∙ drop_at (bits_of 8 y) (bits_in ys) 8 (length-bits_of 8 y) in
    ap (λ (n : ℕ). n ∷ xs) (same_from_bits_of 8 x y (are 0) (too 0) heads) ∙ ap (λ (l : List ℕ). y ∷ l) (same_bytes xs ys (λ i. are (suc i)) (λ i. too (suc i)) tails)

encoded_once : (part : List Sample) (c d : PutChunk) → IsEncoded part c → IsEncoded part d → c ≡ d
encoded_once part c d is too =
    let content : c.content ≡ d.content = same_bytes c.content d.content is.bytes too.bytes (is.bits ∙ sym too.bits) in
    let low : c.min ≡ d.min = same_some c.min d.min (sym is.begins ∙ too.begins) in
    let high : c.max ≡ d.max = same_some c.max d.max (sym is.ends ∙ too.ends) in
    ap (λ (l : List ℕ). record { content = l; min = c.min; max = c.max }) content
    ∙ ap (λ (t : ℤ). record { content = d.content; min = t; max = c.max }) low
    ∙ ap (λ (t : ℤ). record { content = d.content; min = d.min; max = t }) high

-- ---- series

module _ {A B : Type 0} (R : A → B → Type 0) (once : (x : A) (y z : B) → R x y → R x z → y ≡ z) where
  each_once : (xs : List A) (ys zs : List B) → AllZip R xs ys → AllZip R xs zs → ys ≡ zs
  each_once [] [] [] is too = refl
  each_once [] (y ∷ ys) zs is too = absurd is
  each_once [] [] (z ∷ zs) is too = absurd too
  each_once (x ∷ xs) [] zs is too = absurd is
  each_once (x ∷ xs) (y ∷ ys) [] is too = absurd too
  each_once (x ∷ xs) (y ∷ ys) (z ∷ zs) is too = ap (λ (b : B). b ∷ ys) (once x y z is.0 too.0) ∙ ap (λ (l : List B). z ∷ l) (each_once xs ys zs is.1 too.1)

pub series_once : (series : Series) (p q : PutSeries) → IsPutAs series p → IsPutAs series q → p ≡ q
series_once series p q is too =
    let parts : is.parts ≡ too.parts = cut_once IsPart AreFew some_part part_full None None is.parts too.parts is.cut too.cut (few_each None is.parts is.cut) (few_each None too.parts too.cut) (is.whole ∙ sym too.whole) in
    let chunks : p.chunks ≡ q.chunks = each_once IsEncoded encoded_once is.parts p.chunks q.chunks is.chunks (subst (λ (l : List (List Sample)). AllZip IsEncoded l q.chunks) (sym parts) too.chunks) in
    ap (λ (l : List Label). record { labels = l; chunks = p.chunks }) (is.labels ∙ sym too.labels) ∙ ap (λ (l : List PutChunk). record { labels = q.labels; chunks = l }) chunks

pub put_once : (series : List Series) (ps qs : List PutSeries) → AllZip IsPutAs series ps → AllZip IsPutAs series qs → ps ≡ qs
put_once series ps qs is too = each_once IsPutAs series_once series ps qs is too

-- a block that was built has no index that is too large
pub block_refused : (plan : BlockPlan) (series : List Series) (r : Result BlockFiles BuildRefusal) → IfOk r (IsBuilt plan series) → HaveNoBlock plan series → (r ≡ Err TooLarge) ⊎ (r ≡ Err NoMemory)
block_refused plan series (Ok block) is none =
    refused_where (Ok block) is.put is.block_is (subst HaveNoIndex (put_once series none.put.series is.put.series none.put_is.series_are is.put_is.series_are) none.large)
block_refused plan series (Err TooLarge) is none = inl refl
block_refused plan series (Err NoMemory) is none = inr refl
