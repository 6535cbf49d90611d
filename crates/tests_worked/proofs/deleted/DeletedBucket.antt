-- What the bucket shows where a block is deleted while it is uploaded: its data, and then its meta alone.
use Rattle.std.proofs.Common.{◌≡◌, inl, inr, ℕ, Bool, true, false, cond, List, [], ◌∷◌, ◌++◌, All, Contains, Option, Some, None, bytes_eq, codes, is_some, refl, sym, ◌∙◌, ap, subst, lit<, lit≤}
use Rattle.std.specs.Prelude.{drop}
use Rattle.std.proofs.lemmas.List.Elements.{All-contains, All-from_recursion}
use Rattle.ulid_core.specs.FixedDigits.{fixed_digits}
use Rattle.ulid_core.specs.UlidText.{text_of, character, alphabet}
use Rattle.block_keys.specs.KeyText.{key_text, name_of, six_digits}
use Rattle.block_keys.specs.declared.key.Key.TheVariants as key
use Rattle.block_keys.specs.declared.object.Object.{Object}
use Rattle.bucket_core.specs.Contents.{Contents, with_object, without_object}
use Rattle.bucket_core.specs.Pages.{IsName, IsPage}
use Rattle.tests_worked.specs.DeletedUpload as row
use Rattle.tests_worked.specs.SmallBlock as small
use Rattle.tests_worked.proofs.small.Bucket.{first_part, one_folder, page_of}
use Rattle.tests_worked.proofs.expired.MarkedBucket.{either_of}
use Rattle.tests_worked.proofs.pair.PairBucket.{contents_of, one_stands}

-- the segment and the index
abbrev pub data_up : List Object
data_up = record { key = key.Index small.a; bytes = small.index } ∷ record { key = key.Segment small.a 1; bytes = small.segment } ∷ []

abbrev InFolder : Object → Type 0
InFolder o = first_part (key_text o.key) ≡ small.a_text

in_folder : All InFolder data_up
unfolding first_part key_text name_of six_digits text_of character alphabet fixed_digits
in_folder = All-from_recursion InFolder data_up (refl, (refl, tt))

data_folder : (text : List ℕ) → is_some (contents_of data_up text) ≡ true → first_part text ≡ small.a_text
data_folder text some = let one = one_stands data_up text some in subst (λ (t : List ℕ). first_part t ≡ small.a_text) one.2 (All-contains InFolder data_up one.0 in_folder one.1)

data_there : IsName (contents_of data_up) [] small.a_text
unfolding key_text name_of six_digits text_of character alphabet fixed_digits
data_there = (key_text (key.Segment small.a 1), refl, refl)

pub data_listed : IsPage (contents_of data_up) [] [] 1_000 (small.a_text ∷ [])
data_listed = page_of (contents_of data_up) data_there data_folder

-- ---- the names of its objects

abbrev Named : List ℕ → Type 0
Named = IsName (contents_of data_up) (text_of small.a)

objects_stand : All Named row.objects
unfolding key_text name_of six_digits text_of character alphabet fixed_digits
objects_stand = All-from_recursion Named row.objects ((key_text (key.Segment small.a 1), refl, refl), ((key_text (key.Index small.a), refl, refl), tt))

abbrev IsListed : Object → Type 0
IsListed o = (name : List ℕ) → key_text o.key ≡ small.a_text ++ 47 ∷ name → Contains row.objects name

own_name : (key own name : List ℕ) → Contains row.objects own → drop 27 key ≡ own → key ≡ small.a_text ++ 47 ∷ name → Contains row.objects name
own_name key own name among same is = subst (Contains row.objects) (sym same ∙ ap (drop 27) is) among

all_listed : All IsListed data_up
unfolding key_text name_of six_digits text_of character alphabet fixed_digits
all_listed = All-from_recursion IsListed data_up (
  λ name is. own_name (key_text (key.Index small.a)) (codes "index") name (1, lit< tt, refl) refl is,
  (λ name is. own_name (key_text (key.Segment small.a 1)) (codes "chunks/000001") name (0, lit< tt, refl) refl is, tt),
)

within : (name : List ℕ) → (own : Named name) → own.0 ≡ small.a_text ++ 47 ∷ name
unfolding text_of character alphabet fixed_digits
within name own = own.2

pub objects_listed : IsPage (contents_of data_up) (text_of small.a) [] 1_000 row.objects
objects_listed = record {
  ascend = (refl, (refl, tt));
  few = lit≤ tt;
  stand = objects_stand;
  whole = λ name own after.
      let one = one_stands data_up own.0 own.1 in
      inl (All-contains IsListed data_up one.0 all_listed one.1 name (one.2 ∙ within name own));
}

pub shows_no_mark : contents_of data_up (key_text (key.Mark small.a)) ≡ None
unfolding key_text name_of six_digits text_of character alphabet fixed_digits
shows_no_mark = refl

pub shows_no_meta : contents_of data_up (key_text (key.Meta small.a)) ≡ None
unfolding key_text name_of six_digits text_of character alphabet fixed_digits
shows_no_meta = refl

-- ---- where the meta alone is left

abbrev emptied : Contents
emptied =
    without_object (key_text (key.Mark small.a)) (without_object (key_text (key.Index small.a))
    (without_object (key_text (key.Segment small.a 1)) (without_object (key_text (key.Meta small.a)) (contents_of data_up))))

abbrev pub left : Contents
left = with_object (key_text (key.Meta small.a)) small.meta emptied

stood_before : (test : Bool) (before : Option (List ℕ)) → is_some (cond test None before) ≡ true → is_some before ≡ true
stood_before true before some = absurd (cc (some))
stood_before false before some = some

meta_folder : first_part (key_text (key.Meta small.a)) ≡ small.a_text
unfolding first_part key_text name_of six_digits text_of character alphabet fixed_digits
meta_folder = refl

left_folder : (text : List ℕ) → is_some (left text) ≡ true → first_part text ≡ small.a_text
left_folder text some = elim (either_of (bytes_eq (key_text (key.Meta small.a)) text) small.meta (emptied text) some) [
  | inl same ↦ one_folder (key_text (key.Meta small.a)) text same meta_folder
  | inr before ↦
      data_folder text (stood_before (bytes_eq (key_text (key.Meta small.a)) text) (contents_of data_up text)
      (stood_before (bytes_eq (key_text (key.Segment small.a 1)) text) _ (stood_before (bytes_eq (key_text (key.Index small.a)) text) _ (stood_before (bytes_eq (key_text (key.Mark small.a)) text) _ before))))
]

left_there : IsName left [] small.a_text
unfolding key_text name_of six_digits text_of character alphabet fixed_digits
left_there = (key_text (key.Meta small.a), refl, refl)

pub left_listed : IsPage left [] [] 1_000 (small.a_text ∷ [])
left_listed = page_of left left_there left_folder

pub left_unmarked : left (key_text (key.Mark small.a)) ≡ None
unfolding key_text name_of six_digits text_of character alphabet fixed_digits
left_unmarked = refl

pub left_meta : left (key_text (key.Meta small.a)) ≡ Some small.meta
unfolding key_text name_of six_digits text_of character alphabet fixed_digits
left_meta = refl

pub left_no_index : left (key_text (key.Index small.a)) ≡ None
unfolding key_text name_of six_digits text_of character alphabet fixed_digits
left_no_index = refl
