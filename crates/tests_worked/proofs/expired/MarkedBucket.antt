-- What a bucket that holds the small block and its mark shows, and one from which both were deleted.
use Rattle.std.proofs.Common.{◌≡◌, ◌⊎◌, inl, inr, ℕ, Bool, true, false, cond, List, [], ◌∷◌, ◌++◌, Contains, Option, Some, None, is_some, bytes_eq, codes, refl, sym, ap, ◌∙◌, lit<, lit≤}
use Rattle.std.specs.Prelude.{drop}
use Rattle.std.proofs.lemmas.List.Elements.{All-from_recursion}
use Rattle.std.proofs.lemmas.Slice.Eq.{bytes_eq-Decides}
use Rattle.base.specs.FixedDigits.{fixed_digits}
use Rattle.ulid_core.specs.UlidText.{text_of, character, alphabet}
use Rattle.block_keys.specs.KeyText.{key_text, name_of, six_digits}
use Rattle.block_keys.specs.declared.key.Key.TheVariants as key
use Rattle.bucket_core.specs.Contents.{Contents, with_object, without_object}
use Rattle.bucket_core.specs.Pages.{IsPage, IsName}
use Rattle.tests_worked.specs.ExpiredBlock as row
use Rattle.tests_worked.specs.SmallBlock as small
use Rattle.tests_worked.proofs.small.Bucket.{first_part, folder_of, full, index_key, mark_folder, mark_key, meta_key, one_folder, page_of, segment_key}

abbrev pub marked : Contents
marked = with_object (key_text (key.Mark small.a)) row.mark full

-- ---- the page of its names

-- either it passes the test, or it stood before
pub either_of : (test : Bool) (bytes : List ℕ) (before : Option (List ℕ)) → is_some (cond test (Some bytes) before) ≡ true → (test ≡ true) ⊎ (is_some before ≡ true)
either_of true bytes before some = inl refl
either_of false bytes before some = inr some

marked_folder : (text : List ℕ) → is_some (marked text) ≡ true → first_part text ≡ small.a_text
marked_folder text some = elim (either_of (bytes_eq (key_text (key.Mark small.a)) text) row.mark (full text) some) [
  | inl same ↦ one_folder (key_text (key.Mark small.a)) text same mark_folder
  | inr stood ↦ folder_of text stood
]

stands_there : IsName marked [] small.a_text
unfolding key_text name_of text_of character alphabet fixed_digits
stands_there = (key_text (key.Meta small.a), refl, refl)

pub page : IsPage marked [] [] 1_000 (small.a_text ∷ [])
page = page_of marked stands_there marked_folder

-- ---- the names of the block's objects

abbrev Named : List ℕ → Type 0
Named = IsName marked (text_of small.a)

segment_named : Named (codes "chunks/000001")
unfolding key_text name_of six_digits text_of character alphabet fixed_digits
segment_named = (key_text (key.Segment small.a 1), refl, refl)

mark_named : Named (codes "deletion-mark.json")
unfolding key_text name_of text_of character alphabet fixed_digits
mark_named = (key_text (key.Mark small.a), refl, refl)

index_named : Named (codes "index")
unfolding key_text name_of six_digits text_of character alphabet fixed_digits
index_named = (key_text (key.Index small.a), refl, refl)

meta_named : Named (codes "meta.json")
unfolding key_text name_of text_of character alphabet fixed_digits
meta_named = (key_text (key.Meta small.a), refl, refl)

-- the name that a key's text lists behind the block's
behind : (k text name : List ℕ) → bytes_eq k text ≡ true → text ≡ small.a_text ++ 47 ∷ name → drop 27 k ≡ name
behind k text name same is = ap (drop 27) ((bytes_eq-Decides k text).0 same ∙ is)

own_text : (key name : List ℕ) → (own : Named name) → own.0 ≡ small.a_text ++ 47 ∷ name
unfolding text_of character alphabet fixed_digits
own_text key name own = own.2

no_other : (name : List ℕ) → Named name → Contains row.objects name
no_other name own =
    let text = own.0 in
    let is = own_text [] name own in
    elim (either_of (bytes_eq (key_text (key.Mark small.a)) text) row.mark (full text) own.1) [
      | inl same ↦ (1, lit< tt, sym mark_rest ∙ behind (key_text (key.Mark small.a)) text name same is)
      | inr stood ↦ elim (either_of (bytes_eq (key_text (key.Meta small.a)) text) small.meta _ stood) [
        | inl same ↦ (3, lit< tt, sym meta_rest ∙ behind (key_text (key.Meta small.a)) text name same is)
        | inr before ↦ elim (either_of (bytes_eq (key_text (key.Index small.a)) text) small.index _ before) [
          | inl same ↦ (2, lit< tt, sym index_rest ∙ behind (key_text (key.Index small.a)) text name same is)
          | inr first ↦ elim (either_of (bytes_eq (key_text (key.Segment small.a 1)) text) small.segment None first) [
            | inl same ↦ (0, lit< tt, sym segment_rest ∙ behind (key_text (key.Segment small.a 1)) text name same is)
            | inr none ↦ absurd (cc (none))
          ]
        ]
      ]
    ]
  where
    mark_rest : drop 27 (key_text (key.Mark small.a)) ≡ codes "deletion-mark.json"
    mark_rest = rw mark_key refl

    meta_rest : drop 27 (key_text (key.Meta small.a)) ≡ codes "meta.json"
    meta_rest = rw meta_key refl

    index_rest : drop 27 (key_text (key.Index small.a)) ≡ codes "index"
    index_rest = rw index_key refl

    segment_rest : drop 27 (key_text (key.Segment small.a 1)) ≡ codes "chunks/000001"
    segment_rest = rw segment_key refl

pub names : IsPage marked (text_of small.a) [] 1_000 row.objects
names = record {
  ascend = (refl, (refl, (refl, (refl, tt))));
  few = lit≤ tt;
  stand = All-from_recursion Named row.objects (segment_named, (mark_named, (index_named, (meta_named, tt))));
  whole = λ name own after. inl (no_other name own);
}

-- ---- what it shows, and what is left after the deletes

pub shows_mark : marked (key_text (key.Mark small.a)) ≡ Some row.mark
shows_mark = rw mark_key refl

abbrev pub emptied : Contents
emptied =
    without_object (key_text (key.Mark small.a)) (without_object (key_text (key.Index small.a))
    (without_object (key_text (key.Segment small.a 1)) (without_object (key_text (key.Meta small.a)) marked)))

pub shows_nothing : emptied (key_text (key.Index small.a)) ≡ None
shows_nothing = rw (mark_key, index_key) refl
