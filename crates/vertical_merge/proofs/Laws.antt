-- The first patterns at the keys of a list: they are a one-to-one deduplication, and the only one
-- in order where the patterns agree.
use Rattle.std.proofs.Common.{◌≡◌, Bool, true, false, cond, List, ◌∷◌, sym, ap, ◌∙◌, subst}
use Rattle.std.specs.Prelude.{Contains, Some, is_some}
use Rattle.std.specs.Ordering.{is_eq}
use Rattle.std.specs.List.{find, list_any}
use Rattle.std.specs.List.Sorted.{IsStrictlySortedBy}
use Rattle.std.proofs.lemmas.Cmp.{tied_itself}
use Rattle.std.proofs.lemmas.List.Elements.{All-contains, All-contains_itself, All-weaker}
use Rattle.std.proofs.lemmas.Map.Keys.{IsDistinct-from_sorted}
use Rattle.label_sets.specs.declared.series.Series.{Series}
use Rattle.label_sets.specs.Triples.{Triple, triples_of, has_same_key, compare_keys, IsOneToOne}
use Rattle.base.proofs.Membership.{member_of_any, any_of_member, found_among}
use Rattle.base.proofs.SameMembers.{same_members}
use Rattle.vertical_merge.specs.Merged.{AreFirst, IsMerge, IsDeduplication, PatternsAgree}
use Rattle.vertical_merge.proofs.Firsts.{found_itself, is_some-find}
use Rattle.vertical_merge.proofs.Orders.{keys_total, same_key}

-- a member that passes nothing does not change what is found
pub find_skip : (p : Triple → Bool) (x : Triple) (xs : List Triple)
    → p x ≡ false → find p (x ∷ xs) ≡ find p xs
find_skip p x xs f = ap (λ b. cond b (Some x) (find p xs)) f

pub find_here : (p : Triple → Bool) (x : Triple) (xs : List Triple)
    → p x ≡ true → find p (x ∷ xs) ≡ Some x
find_here p x xs h = ap (λ b. cond b (Some x) (find p xs)) h

pub found_contains : (p : Triple → Bool) (xs : List Triple) (t : Triple)
    → find p xs ≡ Some t → Contains xs t
found_contains p xs t e = found_among p xs t e

-- ascending triples, among which is found what is found in the list
pub are_first : (list kept : List Triple) → IsStrictlySortedBy compare_keys kept
    → ((t : Triple) → find (has_same_key t) kept ≡ find (has_same_key t) list) → AreFirst list kept
are_first list kept up same = record {
  ascending = up;
  first = All-weaker (Contains kept) _
      (λ t c. sym (same t) ∙ found_itself keys_total kept t up c) _ (All-contains_itself _);
  complete = All-weaker (Contains list) _
      (λ t c. sym (is_some-find _ kept) ∙ ap is_some (same t) ∙ is_some-find _ list
      ∙ any_of_member _ list t c (ap is_eq (tied_itself keys_total t))) _ (All-contains_itself _);
}

-- a merge is the deduplication of what was added
pub deduplicates : (was list : List Triple) (series : List Series) → was ≡ list
    → IsMerge was series → IsDeduplication (triples_of series) list
deduplicates _ list series same is =
    let first = subst (λ l. AreFirst l (triples_of series)) same is.first in
    record {
      ascending = first.ascending;
      one_to_one = record {
        once = IsDistinct-from_sorted compare_keys _ first.ascending;
        taken = All-weaker (λ t. find (has_same_key t) list ≡ Some t) _
            (λ t e. found_among _ list t e) _ first.first;
        complete = first.complete;
      };
    }

-- each triple of one deduplication is in another
each_in : (list one other : List Triple) → PatternsAgree list
    → IsOneToOne one list → IsOneToOne other list → (t : Triple) → Contains one t → Contains other t
each_in list one other agree p q t among =
    let listed = All-contains (Contains list) _ t p.taken among in
    let found = member_of_any _ other
    (All-contains (λ t. list_any (has_same_key t) other ≡ true) _ t q.complete listed) in
    let key = same_key t found.0 found.2 in
    let pattern =
    agree t found.0 listed (All-contains (Contains list) _ _ q.taken found.1) found.2 in
    let is : t ≡ found.0 = λ i. record { labels = key.0 i; time = key.1 i; pattern = pattern i } in
    subst (Contains other) (sym is) found.1

-- where the patterns agree there is one deduplication
pub only_one : (was list : List Triple) (series : List Series) → was ≡ list → IsMerge was series
    → PatternsAgree list → (kept : List Triple) → IsDeduplication kept list
    → kept ≡ triples_of series
only_one _ list series same is agree kept p =
    let q = deduplicates _ list series same is in
    same_members keys_total kept _ p.ascending q.ascending
    (each_in list _ _ agree p.one_to_one q.one_to_one)
    (each_in list _ _ agree q.one_to_one p.one_to_one)
