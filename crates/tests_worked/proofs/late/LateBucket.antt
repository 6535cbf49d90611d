-- What the bucket shows where a compaction reads late: it holds two blocks, the mark of the second one, and at last the first block alone.
use Rattle.std.proofs.Common.{◌≡◌, inl, ℕ, List, [], ◌∷◌, ◌++◌, All, Contains, Some, None, codes, refl, sym, ◌∙◌, ap, subst, arith, lit<, lit≤}
use Rattle.std.specs.Prelude.{drop, get_or, take}
use Rattle.std.proofs.lemmas.List.Elements.{All-contains, All-from_recursion}
use Rattle.ulid_core.specs.FixedDigits.{fixed_digits}
use Rattle.ulid_core.specs.UlidText.{text_of, character, alphabet}
use Rattle.block_keys.specs.KeyText.{key_text, name_of, six_digits}
use Rattle.block_keys.specs.declared.key.Key.TheVariants as key
use Rattle.block_keys.specs.declared.object.Object.{Object}
use Rattle.bucket_core.specs.Contents.{Contents, without_object}
use Rattle.bucket_core.specs.Pages.{IsName, IsPage}
use Rattle.tests_worked.specs.CompactedPair as pair
use Rattle.tests_worked.specs.LateCompaction as row
use Rattle.tests_worked.specs.SmallBlock as small
use Rattle.tests_worked.proofs.small.Bucket.{first_part}
use Rattle.tests_worked.proofs.pair.PairBucket.{both_up, contents_of, one_stands, page_of_blocks}

-- both blocks, and the second one's mark
abbrev pub marked_up : List Object
marked_up = record { key = key.Mark row.b; bytes = row.mark } ∷ both_up

-- ---- the names of the blocks

names_stand : All (IsName (contents_of marked_up) []) row.both_names
unfolding key_text name_of six_digits text_of character alphabet fixed_digits
names_stand = All-from_recursion (IsName (contents_of marked_up) []) row.both_names ((key_text (key.Meta small.a), refl, refl), ((key_text (key.Meta row.b), refl, refl), tt))

names_only : All (λ (o : Object). Contains row.both_names (first_part (key_text o.key))) marked_up
unfolding first_part key_text name_of six_digits text_of character alphabet fixed_digits
names_only = All-from_recursion (λ (o : Object). Contains row.both_names (first_part (key_text o.key))) marked_up ((1, lit< tt, refl), ((1, lit< tt, refl), ((1, lit< tt, refl), ((1, lit< tt, refl), ((0, lit< tt, refl), ((0, lit< tt, refl), ((0, lit< tt, refl), tt)))))))

pub both_listed : IsPage (contents_of marked_up) [] [] 1_000 row.both_names
both_listed = page_of_blocks marked_up row.both_names (refl, (refl, tt)) (lit≤ tt) names_stand names_only

-- ---- the names of the second block's objects

abbrev Named : List ℕ → Type 0
Named = IsName (contents_of marked_up) (text_of row.b)

objects_stand : All Named row.objects
unfolding key_text name_of six_digits text_of character alphabet fixed_digits
objects_stand = All-from_recursion Named row.objects ((key_text (key.Segment row.b 1), refl, refl), ((key_text (key.Mark row.b), refl, refl), ((key_text (key.Index row.b), refl, refl), ((key_text (key.Meta row.b), refl, refl), tt))))

-- an object of another block is listed under no name, and one of this block under its own
abbrev IsListed : Object → Type 0
IsListed o = (name : List ℕ) → key_text o.key ≡ pair.b_text ++ 47 ∷ name → Contains row.objects name

other_block : (key name : List ℕ) → take 26 key ≡ small.a_text → key ≡ pair.b_text ++ 47 ∷ name → Contains row.objects name
other_block key name own is =
    let same : small.a_text ≡ pair.b_text = sym own ∙ ap (take 26) is in
    let last : 65 ≡ 66 = ap (λ (l : List ℕ). get_or l 25 0) same in absurd (omega (arith, last))

own_name : (key own name : List ℕ) → Contains row.objects own → drop 27 key ≡ own → key ≡ pair.b_text ++ 47 ∷ name → Contains row.objects name
own_name key own name among same is = subst (Contains row.objects) (sym same ∙ ap (drop 27) is) among

all_listed : All IsListed marked_up
unfolding key_text name_of six_digits text_of character alphabet fixed_digits
all_listed = All-from_recursion IsListed marked_up (
  λ name is. own_name (key_text (key.Mark row.b)) (codes "deletion-mark.json") name (1, lit< tt, refl) refl is,
  (
    λ name is. own_name (key_text (key.Meta row.b)) (codes "meta.json") name (3, lit< tt, refl) refl is,
    (
      λ name is. own_name (key_text (key.Index row.b)) (codes "index") name (2, lit< tt, refl) refl is,
      (
        λ name is. own_name (key_text (key.Segment row.b 1)) (codes "chunks/000001") name (0, lit< tt, refl) refl is,
        (
          λ name is. other_block (key_text (key.Meta small.a)) name refl is,
          (λ name is. other_block (key_text (key.Index small.a)) name refl is, (λ name is. other_block (key_text (key.Segment small.a 1)) name refl is, tt)),
        ),
      ),
    ),
  ),
)

in_folder : (name : List ℕ) → (own : Named name) → own.0 ≡ pair.b_text ++ 47 ∷ name
unfolding text_of character alphabet fixed_digits
in_folder name own = own.2

pub objects_listed : IsPage (contents_of marked_up) (text_of row.b) [] 1_000 row.objects
objects_listed = record {
  ascend = (refl, (refl, (refl, (refl, tt))));
  few = lit≤ tt;
  stand = objects_stand;
  whole = λ name own after.
      let one = one_stands marked_up own.0 own.1 in
      inl (All-contains IsListed marked_up one.0 all_listed one.1 name (one.2 ∙ in_folder name own));
}

-- ---- what it shows under each key

pub shows_a_unmarked : contents_of marked_up (key_text (key.Mark small.a)) ≡ None
unfolding key_text name_of six_digits text_of character alphabet fixed_digits
shows_a_unmarked = refl

pub shows_a_meta : contents_of marked_up (key_text (key.Meta small.a)) ≡ Some small.meta
unfolding key_text name_of six_digits text_of character alphabet fixed_digits
shows_a_meta = refl

pub shows_mark : contents_of marked_up (key_text (key.Mark row.b)) ≡ Some row.mark
unfolding key_text name_of six_digits text_of character alphabet fixed_digits
shows_mark = refl

pub shows_b_meta : contents_of marked_up (key_text (key.Meta row.b)) ≡ Some pair.b_meta
unfolding key_text name_of six_digits text_of character alphabet fixed_digits
shows_b_meta = refl

pub shows_a_index : contents_of marked_up (key_text (key.Index small.a)) ≡ Some small.index
unfolding key_text name_of six_digits text_of character alphabet fixed_digits
shows_a_index = refl

pub shows_a_segment : contents_of marked_up (key_text (key.Segment small.a 1)) ≡ Some small.segment
unfolding key_text name_of six_digits text_of character alphabet fixed_digits
shows_a_segment = refl

-- behind the deletes
abbrev pub emptied : Contents
emptied =
    without_object (key_text (key.Mark row.b)) (without_object (key_text (key.Index row.b))
    (without_object (key_text (key.Segment row.b 1)) (without_object (key_text (key.Meta row.b)) (contents_of marked_up))))

pub shows_nothing : emptied (key_text (key.Index row.b)) ≡ None
unfolding key_text name_of six_digits text_of character alphabet fixed_digits
shows_nothing = refl
