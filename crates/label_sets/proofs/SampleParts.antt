-- The samples of a series as text, part by part.
use Rattle.std.proofs.Common.{◌≡◌, ℕ, ◌+◌, ◌-◌, ◌<◌, ◌≤◌, List, [], ◌∷◌, ◌++◌, length, get_or, take, drop, refl, sym, ap, ◌∙◌, arith, append-nil, append_assoc, take_at, take_all, take-append-drop, length-drop}
use Rattle.std.proofs.lemmas.Grind.{flat_map-append}
use Rattle.std.proofs.lemmas.List.{drop_more, drop_all, nil_from_length}
use Rattle.std.specs.List.{flat_map}
use Rattle.label_sets.specs.declared.sample.Sample.{Sample}
use Rattle.label_sets.specs.SampleText.{spaced_sample_text}

abbrev texts : List Sample → List ℕ
texts samples = flat_map spaced_sample_text samples

-- what was put, and the text of the samples that are left, are the text of all
pub record SoFar (begun out : List ℕ) (samples left : List Sample) : Type 0 where
  pub put : List ℕ
  pub out_is : out ≡ begun ++ put
  pub whole : put ++ flat_map spaced_sample_text left ≡ flat_map spaced_sample_text samples

pub none_put : (begun : List ℕ) (samples : List Sample) → SoFar begun begun samples samples
none_put begun samples = record { put = []; out_is = sym (append-nil begun); whole = refl }

pub part_put : (begun out new : List ℕ) (samples left part after : List Sample) (count : ℕ) → SoFar begun out samples left → part ≡ take count left → after ≡ drop count left
    → new ≡ out ++ flat_map spaced_sample_text part → SoFar begun new samples after
part_put begun out new samples left part after count so_far part_is after_is put_is =
    let both : part ++ after ≡ left = (λ i. part_is i ++ after_is i) ∙ take-append-drop count left in
    record {
      put = so_far.put ++ texts part;
      out_is = put_is ∙ ap (λ t. t ++ texts part) so_far.out_is ∙ append_assoc begun so_far.put (texts part);
      whole = append_assoc so_far.put (texts part) (texts after) ∙ ap (λ t. so_far.put ++ t) (sym (flat_map-append spaced_sample_text part after) ∙ ap texts both) ∙ so_far.whole;
    }

pub all_put : (begun out : List ℕ) (samples left : List Sample) → length left ≡ 0 → SoFar begun out samples left → out ≡ begun ++ flat_map spaced_sample_text samples
all_put begun out samples left none so_far =
    so_far.out_is ∙ ap (λ t. begun ++ t) (sym (append-nil so_far.put) ∙ ap (λ xs. so_far.put ++ texts xs) (sym (nil_from_length left none)) ∙ so_far.whole)

pub begun_kept : (begun out : List ℕ) (samples left : List Sample) → SoFar begun out samples left → take (length begun) out ≡ begun
begun_kept begun out samples left so_far = ap (take (length begun)) so_far.out_is ∙ take_at begun so_far.put (length begun) refl

-- what is lent of a field from a place on is all that stands there
pub tail_whole : (field : List ℕ) (start : ℕ) → length field ≡ 480 → take (480 - start) (drop start field) ≡ drop start field
tail_whole field start long = take_all (480 - start) (drop start field) (omega (arith, length-drop start field))

-- ---- a part, from its last sample to its first

pub none_stand : (field : List ℕ) (samples : List Sample) → length field ≡ 480 → drop 480 field ≡ flat_map spaced_sample_text (drop (length samples) samples)
none_stand field samples long = drop_all 480 field (omega arith) ∙ ap texts (sym (drop_all (length samples) samples (omega arith)))

-- a sample more stands before those that stand
pub sample_before : (old new : List ℕ) (samples : List Sample) (any : Sample) (place end start : ℕ) → 0 < place → place ≤ length samples
    → drop end old ≡ flat_map spaced_sample_text (drop place samples) → drop start new ≡ spaced_sample_text (get_or samples (place - 1) any) ++ drop end old
    → drop start new ≡ flat_map spaced_sample_text (drop (place - 1) samples)
sample_before old new samples any place end start some within so_far written =
    let back : place - 1 + 1 ≡ place = omega arith in
    let first = drop_more samples (place - 1) any (omega arith) ∙ ap (λ n. get_or samples (place - 1) any ∷ drop n samples) back in
    written ∙ ap (λ t. spaced_sample_text (get_or samples (place - 1) any) ++ t) so_far ∙ ap texts (sym first)
