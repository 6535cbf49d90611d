-- Parts that are appended one after another, for the numbers of a range.
use Rattle.std.proofs.Common.{◌≡◌, ℕ, suc, ◌+◌, ◌-◌, ◌<◌, ◌≤◌, List, [], ◌++◌, refl, sym, ap, ◌∙◌, arith, append-nil, append_assoc, subst}
use Rattle.std.specs.List.{flat_map, range_with_len}
use Rattle.script_core.specs.declared.part_reader.PartReader.{PartReader}
use Rattle.script_core.specs.Parts.{Reads}
use Rattle.script_fields.specs.declared.script_refusal.ScriptRefusal.{ScriptRefusal}
use Rattle.script_core.proofs.PartLaws.{reads_nothing, reads_both}
use Rattle.generated_day.specs.Wanting.{IsWanting}
use Rattle.generated_day.proofs.Wanting.{first_wants, then_wants}

module _ {A : Type 0} (f : ℕ → List A) where
  -- one part more
  pub part_more : (old new whole : List A) (place last : ℕ) → place < last → new ≡ old ++ f place → old ++ flat_map f (range_with_len place (last - place)) ≡ whole → new ++ flat_map f (range_with_len (place + 1) (last - (place + 1))) ≡ whole
  part_more old new whole place last below is so_far =
      let rest : List A = flat_map f (range_with_len (place + 1) (last - (place + 1))) in
      let count : last - place ≡ suc (last - (place + 1)) = omega (arith, below) in
      ap (λ l. l ++ rest) is ∙ append_assoc old (f place) rest ∙ sym (ap (λ n. old ++ flat_map f (range_with_len place n)) count) ∙ so_far

  -- no part is left
  pub part_end : (old whole : List A) (place last : ℕ) → last ≤ place → old ++ flat_map f (range_with_len place (last - place)) ≡ whole → old ≡ whole
  part_end old whole place last past so_far =
      let none : last - place ≡ 0 = omega (arith, past) in
      sym (append-nil old) ∙ sym (ap (λ n. old ++ flat_map f (range_with_len place n)) none) ∙ so_far

-- three parts, one behind another
pub three_parts : (old one two all first middle last : List ℕ) → one ≡ old ++ first → two ≡ one ++ middle → all ≡ two ++ last → all ≡ old ++ (first ++ middle ++ last)
three_parts old one two all first middle last is more whole =
    whole ∙ ap (λ l. l ++ last) (more ∙ ap (λ l. l ++ middle) is ∙ append_assoc old first middle) ∙ append_assoc old (first ++ middle) last

-- and four
pub four_parts : (old one two three all first second third last : List ℕ) → one ≡ old ++ first → two ≡ one ++ second → three ≡ two ++ third → all ≡ three ++ last → all ≡ old ++ (first ++ second ++ third ++ last)
four_parts old one two three all first second third last is more further whole =
    whole ∙ ap (λ l. l ++ last) (three_parts old one two three first second third is more further) ∙ append_assoc old (first ++ second ++ third) last

-- ---- parts that are read one after another

-- what is appended to nothing
pub from_none : (old new text : List ℕ) → old ≡ [] → new ≡ old ++ text → new ≡ text
from_none old new text none is = is ∙ ap (λ front. front ++ text) none

-- what has read a front of the parts
pub record ReadParts (f : ℕ → List ℕ) (old now : PartReader) (whole : List ℕ) (place last : ℕ) : Type 0 where
  pub front : List ℕ
  pub whole_is : whole ≡ front ++ flat_map f (range_with_len place (last - place))
  pub reads : Reads old now front

-- no part so far
pub no_parts : (f : ℕ → List ℕ) (reader : PartReader) (place last : ℕ) → ReadParts f reader reader (flat_map f (range_with_len place (last - place))) place last
no_parts f reader place last =
    record { front = []; whole_is = refl; reads = reads_nothing reader [] refl }

module _ (f : ℕ → List ℕ) (old now : PartReader) (whole : List ℕ) (place last : ℕ) where
  next_part : place < last → ReadParts f old now whole place last → (so_far : List ℕ) × (whole ≡ so_far ++ (f place ++ flat_map f (range_with_len (place + 1) (last - (place + 1))))) × Reads old now so_far
  next_part below so_far =
      let count : last - place ≡ suc (last - (place + 1)) = omega (arith, below) in
      (so_far.front, so_far.whole_is ∙ ap (λ n. so_far.front ++ flat_map f (range_with_len place n)) count, so_far.reads)

  -- one part more
  pub reads_more : (next : PartReader) → place < last → Reads now next (f place) → ReadParts f old now whole place last → ReadParts f old next whole (place + 1) last
  reads_more next below one so_far =
      let front = next_part below so_far in
      record {
        front = front.0 ++ f place;
        whole_is = front.1 ∙ sym (append_assoc front.0 (f place) (flat_map f (range_with_len (place + 1) (last - (place + 1)))));
        reads = reads_both old now next front.0 (f place) front.2 one;
      }

  -- one that is not read
  pub part_wants : (refusal : ScriptRefusal) → place < last → IsWanting now (f place) refusal → ReadParts f old now whole place last → IsWanting old whole refusal
  part_wants refusal below wants so_far =
      let front = next_part below so_far in
      let rest : List ℕ = flat_map f (range_with_len (place + 1) (last - (place + 1))) in
      subst (λ t. IsWanting old t refusal) (sym front.1) (then_wants now (f place ++ rest) refusal old front.0 front.2 (first_wants now (f place) refusal rest wants))

  -- no part is left
  pub reads_end : last ≤ place → ReadParts f old now whole place last → Reads old now whole
  reads_end past so_far =
      let none : last - place ≡ 0 = omega (arith, past) in
      subst (Reads old now) (sym (so_far.whole_is ∙ ap (λ n. so_far.front ++ flat_map f (range_with_len place n)) none ∙ append-nil so_far.front)) so_far.reads
