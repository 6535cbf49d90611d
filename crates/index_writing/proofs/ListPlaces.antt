-- Postings lists and label indices stand at their places in a text that is not too long.
use Rattle.std.proofs.Common.{◌≡◌, ℕ, ◌/◌, ◌^◌, ◌<◌, ◌≤◌, Bool, true, false, cond, List, [], ◌∷◌, ◌++◌, length, zip, fold, None, sym, ap, ◌∙◌, subst, arith, inl, inr, length-append, append_assoc}
use Rattle.std.specs.Prelude.{bit_xor}
use Rattle.std.specs.Ordering.{nat_cmp}
use Rattle.std.specs.declared.cmp.Ordering.TheVariants.{Less}
use Rattle.base.specs.Order.{ComesAfter}
use Rattle.base.proofs.Bools.{nat_cmp-Less}
use Rattle.std.specs.List.{All, AllByRecursion, flat_map, Contains, AllPairs}
use Rattle.std.proofs.lemmas.List.{map-id}
use Rattle.std.proofs.lemmas.Nat.{xor_of_32}
use Rattle.wire_bytes.specs.Crc.{crc, remainder, with_bit, castagnoli, coefficients, ones}
use Rattle.index_parts.specs.Framed.{section_text, IsSection}
use Rattle.index_parts.specs.LabelIndices.{IsLabelIndex, label_index_text}
use Rattle.index_parts.specs.Turns.{InOrder}
use Rattle.index_parts.specs.Postings.{IsPostings, postings_text}
use Rattle.index_writing.proofs.Stands.{section_stands}
use Rattle.index_writing.proofs.Writing.{postings_stand, values_stand}
use Rattle.index_writing.specs.Aligned.{padded, each_at, places_at}
use Rattle.index_writing.specs.WriteSteps.{greatest}
use Rattle.base.proofs.Membership.{no_member, member_cases, all_members}
use Rattle.base.proofs.Lists.{AllByRecursion-append}
use Rattle.index_writing.proofs.OrderedEntries.{Below, pairs_in_order, pairs_so}
use Rattle.index_writing.proofs.SectionSizes.{section_least}
use Rattle.index_writing.proofs.Standing.{each_begins}

-- ---- sums have 32 bits

pub halved : (b : Bool) (r : ℕ) → r < 2 ^ 32 → cond b (bit_xor (r / 2) castagnoli) (r / 2) < 2 ^ 32
halved true r lt = xor_of_32 _ castagnoli (omega arith) (omega arith)
halved false r lt = omega arith

bit_fits : (r bit : ℕ) → r < 2 ^ 32 → bit < 2 → with_bit r bit < 2 ^ 32
bit_fits r _ lt small = halved _ _ (xor_of_32 r _ lt (omega arith))

abbrev Bits : List ℕ → Type 0
Bits bits = AllByRecursion (λ bit. bit < 2) bits

fold_fits : (bits : List ℕ) (r : ℕ) → r < 2 ^ 32 → Bits bits → fold with_bit r bits < 2 ^ 32
fold_fits [] r lt all = lt
fold_fits (bit ∷ bits) r lt all = fold_fits bits _ (bit_fits r _ lt all.0) all.1

bits_of : (byte : ℕ) → Bits (coefficients byte)
bits_of _ = (omega arith, (omega arith, (omega arith, (omega arith, (omega arith, (omega arith, (omega arith, (omega arith, tt))))))))

all_bits : (bytes : List ℕ) → Bits (flat_map coefficients bytes)
all_bits [] = tt
all_bits (byte ∷ bytes) = AllByRecursion-append _ (coefficients byte) _ (bits_of byte) (all_bits bytes)

pub crc_fits : (bytes : List ℕ) → crc bytes < 2 ^ 32
unfolding crc remainder
crc_fits bytes = xor_of_32 (fold with_bit ones (flat_map coefficients bytes)) _ (fold_fits _ ones (omega arith) (all_bits bytes)) (omega arith)

-- ---- places

-- A text stands at a place of a whole.
pub record StandsAt (whole : List ℕ) (place : ℕ) (text : List ℕ) : Type 0 where
  pub before : List ℕ
  pub after : List ℕ
  pub is : whole ≡ (before ++ text) ++ after
  pub at : length before ≡ place

pub each_stands : (unit : ℕ) (start : List ℕ) (texts : List (List ℕ)) (place : ℕ) (text : List ℕ) → Contains (zip (places_at unit start texts) texts) (place, text) → StandsAt (each_at unit start texts) place text
unfolding each_at places_at
each_stands _ _ [] _ _ h = absurd (no_member _ h)
each_stands unit start (next ∷ texts) place text h =
    elim (member_cases _ _ _ h) [
      | inl is ↦ let more = each_begins unit _ texts in
          record {
            before = padded unit start;
            after = more.more;
            is = more.is ∙ ap (λ (l : List ℕ). (padded unit start ++ l) ++ more.more) (ap (λ (x : ℕ × List ℕ). x.1) is);
            at = ap (λ (x : ℕ × List ℕ). x.0) is;
          }
      | inr i ↦ each_stands unit (padded unit start ++ next) texts place text i
    ]

pub stands_on : (whole more : List ℕ) (place : ℕ) (text longer : List ℕ) → StandsAt whole place text → longer ≡ whole ++ more → StandsAt longer place text
stands_on _ more _ text _ stands is = record {
  before = stands.before;
  after = stands.after ++ more;
  is = is ∙ ap (λ l. l ++ more) stands.is ∙ append_assoc (stands.before ++ text) stands.after more;
  at = stands.at;
}

-- ---- lists of numbers

-- numbers that rise are in order
pub in_order : (numbers : List ℕ) → AllPairs Below numbers → InOrder (ComesAfter nat_cmp) numbers
in_order numbers up = subst (InOrder (ComesAfter nat_cmp)) (map-id numbers) (pairs_in_order (ComesAfter nat_cmp) (λ n. n) None numbers (all_members _ _ (λ n h. tt)) (pairs_so Below (λ x y. nat_cmp x y ≡ Less) numbers (λ x y _ _ less. nat_cmp-Less x y less) up))

section_at : (whole : List ℕ) (place : ℕ) (content : List ℕ) → length whole ≤ greatest → StandsAt whole place (section_text content) → (length content < 2 ^ 32) × IsSection whole place content
section_at whole _ content room stands =
    let fits : length content < 2 ^ 32 = omega (arith, ap length stands.is, section_least content, length-append (stands.before ++ section_text content) stands.after, length-append stands.before (section_text content)) in
    (fits, subst (λ n. IsSection whole n content) stands.at (subst (λ l. IsSection l (length stands.before) content) (sym stands.is) (section_stands _ _ _ fits (crc_fits _))))

pub list_stands : (whole : List ℕ) (place : ℕ) (numbers : List ℕ) → length whole ≤ greatest → StandsAt whole place (postings_text numbers) → All (λ n. n < 2 ^ 32) numbers → AllPairs Below numbers → IsPostings whole place numbers
list_stands _ _ _ room stands small up = let at = section_at _ _ _ room stands in postings_stand _ _ _ at.0 small (in_order _ up) at.1

pub index_stands : (whole : List ℕ) (place : ℕ) (values : List ℕ) → length whole ≤ greatest → StandsAt whole place (label_index_text values) → All (λ n. n < 2 ^ 32) values → IsLabelIndex whole place values
index_stands _ _ _ room stands small = let at = section_at _ _ _ room stands in values_stand _ _ _ at.0 small at.1
