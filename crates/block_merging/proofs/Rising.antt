-- The times of a chunk's samples rise.
use Rattle.std.proofs.Common.{◌≡◌, ℕ, Bool, List, [], ◌∷◌, sym, ap, subst, arith, ℤ, Less}
use Rattle.std.specs.Prelude.{◌<ℤ◌}
use Rattle.std.specs.List.{AllByRecursion}
use Rattle.std.specs.List.Sorted.{IsStrictlySortedBy}
use Rattle.std.specs.Ordering.{int_cmp}
use Rattle.std.proofs.lemmas.Int.{ints}
use Rattle.std.proofs.lemmas.Cmp.{int_cmp_total}
use Rattle.base.proofs.Lists.{AllByRecursion-weaker}
use Rattle.base.proofs.Order.{sorted_nil, sorted_cons}
use Rattle.label_sets.specs.declared.sample.Sample.{Sample}
use Rattle.label_sets.specs.Times.{times_of}
use Rattle.xor_chunks.specs.State.{State}
use Rattle.xor_chunks.specs.Grammar.{AreOthers, IsText, Follows}

abbrev pub AllAfter : ℤ → List Sample → Type 0
AllAfter time samples = AllByRecursion (λ t. int_cmp time t ≡ Less) (times_of samples)

pub less_time : (a b : ℤ) → a <ℤ b → int_cmp a b ≡ Less
less_time a b h = grind (arith, ints)

later : (a b : ℤ) (delta : ℕ) → Follows a b delta → int_cmp a b ≡ Less
later a b delta is = less_time a b (let e = is.later in let some = is.rises in omega (arith, ints, e, some))

all_later : (a b : ℤ) (samples : List Sample) → int_cmp a b ≡ Less → AllAfter b samples → AllAfter a samples
all_later a b samples less all = AllByRecursion-weaker (λ t. int_cmp b t ≡ Less) (λ t. int_cmp a t ≡ Less) (λ t more. int_cmp_total.trans a b t less more) (times_of samples) all

others_ascend : (last : State) (bits : List Bool) (others : List Sample) → AreOthers last bits others → AllAfter last.time others × IsStrictlySortedBy int_cmp (times_of others)
others_ascend last bits [] are = (tt, sorted_nil int_cmp)
others_ascend last bits (s ∷ ss) (next, first, behind, text, is, same, are) =
    let deeper = others_ascend next behind ss are in
    let time : next.time ≡ s.time = sym (ap (λ (x : Sample). x.time) same) in
    let less : int_cmp last.time s.time ≡ Less = subst (λ (t : ℤ). int_cmp last.time t ≡ Less) time (later last.time next.time next.delta is.follows) in
    let rest : AllAfter s.time ss = subst (λ (t : ℤ). AllAfter t ss) time deeper.0 in
    ((less, all_later last.time s.time ss less rest), sorted_cons int_cmp s.time (times_of ss) rest deeper.1)

pub text_ascends : (content : List ℕ) (samples : List Sample) → IsText 8 content samples → IsStrictlySortedBy int_cmp (times_of samples)
text_ascends content [] is = sorted_nil int_cmp
text_ascends content (s ∷ []) is = sorted_cons int_cmp s.time [] tt (sorted_nil int_cmp)
text_ascends content (s ∷ t ∷ ss) is =
    let second = is.samples_are.rest_are in
    let less : int_cmp s.time t.time ≡ Less = later s.time t.time second.gap second.follows in
    let deeper = others_ascend _ second.rest ss second.others_are in
    sorted_cons int_cmp s.time (t.time ∷ times_of ss) (less, all_later s.time t.time ss less deeper.0) (sorted_cons int_cmp t.time (times_of ss) deeper.0 deeper.1)
