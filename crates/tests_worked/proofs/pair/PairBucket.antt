-- What a bucket shows that holds the two blocks, and then the new one and the marks.
use Rattle.std.proofs.Common.{◌≡◌, ◌≤◌, inl, inr, ℕ, true, List, [], ◌∷◌, All, Contains, Some, None, is_some, bytes_eq, refl, sym, ◌∙◌, ap, subst, length, lit<, lit≤}
use Rattle.std.proofs.lemmas.List.Elements.{All-contains, All-from_recursion}
use Rattle.std.proofs.lemmas.Slice.Eq.{bytes_eq-Decides}
use Rattle.base.proofs.Membership.{contains_first, contains_later}
use Rattle.base.specs.Order.{InOrderAfter, ComesAfter}
use Rattle.ulid_core.specs.FixedDigits.{fixed_digits}
use Rattle.ulid_core.specs.UlidText.{text_of, character, alphabet}
use Rattle.label_sets.specs.Labels.{compare_texts}
use Rattle.block_keys.specs.KeyText.{key_text, name_of, six_digits}
use Rattle.block_keys.specs.declared.key.Key.TheVariants as key
use Rattle.block_keys.specs.declared.object.Object.{Object}
use Rattle.bucket_core.specs.Contents.{Contents, nothing, with_object}
use Rattle.bucket_core.specs.Pages.{IsName, IsPage}
use Rattle.tests_worked.specs.CompactedPair as row
use Rattle.tests_worked.specs.SmallBlock as small
use Rattle.tests_worked.proofs.small.Bucket.{first_part}
use Rattle.tests_worked.proofs.expired.MarkedBucket.{either_of}

-- these objects stand, of which the last put one is the first
abbrev pub contents_of : List Object → Contents
contents_of [] = nothing
contents_of (o ∷ os) = with_object (key_text o.key) o.bytes (contents_of os)

-- whatever stands is one of them
pub one_stands : (os : List Object) (text : List ℕ) → is_some (contents_of os text) ≡ true → (o : Object) × Contains os o × (key_text o.key ≡ text)
one_stands [] text some = absurd (cc (some))
one_stands (o ∷ os) text some = elim (either_of (bytes_eq (key_text o.key) text) o.bytes (contents_of os text) some) [
  | inl same ↦ (o, contains_first o os, (bytes_eq-Decides (key_text o.key) text).0 same)
  | inr before ↦ let one = one_stands os text before in (one.0, contains_later o one.0 os one.1, one.2)
]

-- so a page of their folders' names has them all
pub page_of_blocks : (os : List Object) (names : List (List ℕ)) → InOrderAfter (ComesAfter compare_texts) (Some []) names → length names ≤ 1_000 → All (IsName (contents_of os) []) names → All (λ (o : Object). Contains names (first_part (key_text o.key))) os → IsPage (contents_of os) [] [] 1_000 names
unfolding first_part
page_of_blocks os names ascend few stand folders = record {
  ascend = ascend;
  few = few;
  stand = stand;
  whole = λ name is after.
      let one = one_stands os is.0 is.1 in
      inl (subst (Contains names) (ap first_part one.2 ∙ sym is.2) (All-contains (λ (o : Object). Contains names (first_part (key_text o.key))) os one.0 folders one.1));
}

-- ---- what stands

abbrev pub a_up : List Object
a_up =
    record { key = key.Meta small.a; bytes = small.meta }
    ∷ record { key = key.Index small.a; bytes = small.index }
    ∷ record { key = key.Segment small.a 1; bytes = small.segment }
    ∷ []

abbrev pub both_up : List Object
both_up =
    record { key = key.Meta row.b; bytes = row.b_meta }
    ∷ record { key = key.Index row.b; bytes = small.index }
    ∷ record { key = key.Segment row.b 1; bytes = small.segment }
    ∷ a_up

-- and the data of the new block
abbrev pub data_up : List Object
data_up = record { key = key.Index row.n; bytes = small.index } ∷ record { key = key.Segment row.n 1; bytes = small.segment } ∷ both_up

-- and its meta
abbrev pub new_up : List Object
new_up = record { key = key.Meta row.n; bytes = row.n_meta } ∷ data_up

abbrev pub one_marked : List Object
one_marked = record { key = key.Mark small.a; bytes = row.a_mark } ∷ new_up

abbrev pub all_up : List Object
all_up = record { key = key.Mark row.b; bytes = row.b_mark } ∷ one_marked

-- ---- the pages

abbrev pub two_names : List (List ℕ)
two_names = small.a_text ∷ row.b_text ∷ []

abbrev pub three_names : List (List ℕ)
three_names = small.a_text ∷ row.b_text ∷ row.n_text ∷ []

two_stand : All (IsName (contents_of both_up) []) two_names
unfolding key_text name_of six_digits text_of character alphabet fixed_digits
two_stand = All-from_recursion (IsName (contents_of both_up) []) two_names ((key_text (key.Meta small.a), refl, refl), ((key_text (key.Meta row.b), refl, refl), tt))

two_folders : All (λ (o : Object). Contains two_names (first_part (key_text o.key))) both_up
unfolding first_part key_text name_of six_digits text_of character alphabet fixed_digits
two_folders = All-from_recursion (λ (o : Object). Contains (two_names) (first_part (key_text o.key))) both_up ((1, lit< tt, refl), ((1, lit< tt, refl), ((1, lit< tt, refl), ((0, lit< tt, refl), ((0, lit< tt, refl), ((0, lit< tt, refl), tt))))))

pub two_listed : IsPage (contents_of both_up) [] [] 1_000 two_names
two_listed = page_of_blocks both_up two_names (refl, (refl, tt)) (lit≤ tt) two_stand two_folders

data_stand : All (IsName (contents_of data_up) []) three_names
unfolding key_text name_of six_digits text_of character alphabet fixed_digits
data_stand = All-from_recursion (IsName (contents_of data_up) []) three_names ((key_text (key.Meta small.a), refl, refl), ((key_text (key.Meta row.b), refl, refl), ((key_text (key.Index row.n), refl, refl), tt)))

data_folders : All (λ (o : Object). Contains three_names (first_part (key_text o.key))) data_up
unfolding first_part key_text name_of six_digits text_of character alphabet fixed_digits
data_folders = All-from_recursion (λ (o : Object). Contains (three_names) (first_part (key_text o.key))) data_up ((2, lit< tt, refl), ((2, lit< tt, refl), ((1, lit< tt, refl), ((1, lit< tt, refl), ((1, lit< tt, refl), ((0, lit< tt, refl), ((0, lit< tt, refl), ((0, lit< tt, refl), tt))))))))

pub data_listed : IsPage (contents_of data_up) [] [] 1_000 three_names
data_listed = page_of_blocks data_up three_names (refl, (refl, (refl, tt))) (lit≤ tt) data_stand data_folders

three_stand : All (IsName (contents_of all_up) []) three_names
unfolding key_text name_of six_digits text_of character alphabet fixed_digits
three_stand = All-from_recursion (IsName (contents_of all_up) []) three_names ((key_text (key.Meta small.a), refl, refl), ((key_text (key.Meta row.b), refl, refl), ((key_text (key.Meta row.n), refl, refl), tt)))

three_folders : All (λ (o : Object). Contains three_names (first_part (key_text o.key))) all_up
unfolding first_part key_text name_of six_digits text_of character alphabet fixed_digits
three_folders = All-from_recursion (λ (o : Object). Contains (three_names) (first_part (key_text o.key))) all_up ((1, lit< tt, refl), ((0, lit< tt, refl), ((2, lit< tt, refl), ((2, lit< tt, refl), ((2, lit< tt, refl), ((1, lit< tt, refl), ((1, lit< tt, refl), ((1, lit< tt, refl), ((0, lit< tt, refl), ((0, lit< tt, refl), ((0, lit< tt, refl), tt)))))))))))

pub three_listed : IsPage (contents_of all_up) [] [] 1_000 three_names
three_listed = page_of_blocks all_up three_names (refl, (refl, (refl, tt))) (lit≤ tt) three_stand three_folders

-- ---- what it shows under each key

pub shows_b_unmet : contents_of a_up (key_text (key.Meta row.b)) ≡ None
unfolding key_text name_of six_digits text_of character alphabet fixed_digits
shows_b_unmet = refl

pub shows_a_unmarked : contents_of both_up (key_text (key.Mark small.a)) ≡ None
unfolding key_text name_of six_digits text_of character alphabet fixed_digits
shows_a_unmarked = refl

pub shows_a_meta : contents_of both_up (key_text (key.Meta small.a)) ≡ Some small.meta
unfolding key_text name_of six_digits text_of character alphabet fixed_digits
shows_a_meta = refl

pub shows_b_unmarked : contents_of both_up (key_text (key.Mark row.b)) ≡ None
unfolding key_text name_of six_digits text_of character alphabet fixed_digits
shows_b_unmarked = refl

pub shows_b_meta : contents_of both_up (key_text (key.Meta row.b)) ≡ Some row.b_meta
unfolding key_text name_of six_digits text_of character alphabet fixed_digits
shows_b_meta = refl

pub shows_a_index : contents_of both_up (key_text (key.Index small.a)) ≡ Some small.index
unfolding key_text name_of six_digits text_of character alphabet fixed_digits
shows_a_index = refl

pub shows_a_segment : contents_of both_up (key_text (key.Segment small.a 1)) ≡ Some small.segment
unfolding key_text name_of six_digits text_of character alphabet fixed_digits
shows_a_segment = refl

pub shows_b_index : contents_of both_up (key_text (key.Index row.b)) ≡ Some small.index
unfolding key_text name_of six_digits text_of character alphabet fixed_digits
shows_b_index = refl

pub shows_b_segment : contents_of both_up (key_text (key.Segment row.b 1)) ≡ Some small.segment
unfolding key_text name_of six_digits text_of character alphabet fixed_digits
shows_b_segment = refl

pub shows_n_unmet : contents_of both_up (key_text (key.Meta row.n)) ≡ None
unfolding key_text name_of six_digits text_of character alphabet fixed_digits
shows_n_unmet = refl

pub shows_a_looked : contents_of new_up (key_text (key.Mark small.a)) ≡ None
unfolding key_text name_of six_digits text_of character alphabet fixed_digits
shows_a_looked = refl

pub shows_b_looked : contents_of one_marked (key_text (key.Mark row.b)) ≡ None
unfolding key_text name_of six_digits text_of character alphabet fixed_digits
shows_b_looked = refl

pub shows_a_mark : contents_of all_up (key_text (key.Mark small.a)) ≡ Some row.a_mark
unfolding key_text name_of six_digits text_of character alphabet fixed_digits
shows_a_mark = refl

pub shows_a_meta_later : contents_of all_up (key_text (key.Meta small.a)) ≡ Some small.meta
unfolding key_text name_of six_digits text_of character alphabet fixed_digits
shows_a_meta_later = refl

pub shows_b_mark : contents_of all_up (key_text (key.Mark row.b)) ≡ Some row.b_mark
unfolding key_text name_of six_digits text_of character alphabet fixed_digits
shows_b_mark = refl

pub shows_b_meta_later : contents_of all_up (key_text (key.Meta row.b)) ≡ Some row.b_meta
unfolding key_text name_of six_digits text_of character alphabet fixed_digits
shows_b_meta_later = refl

pub shows_n_unmarked : contents_of all_up (key_text (key.Mark row.n)) ≡ None
unfolding key_text name_of six_digits text_of character alphabet fixed_digits
shows_n_unmarked = refl

pub shows_n_meta : contents_of all_up (key_text (key.Meta row.n)) ≡ Some row.n_meta
unfolding key_text name_of six_digits text_of character alphabet fixed_digits
shows_n_meta = refl
