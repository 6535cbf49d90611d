-- What a bucket that holds the small block shows.
use Rattle.std.proofs.Common.{◌≡◌, ◌⊎◌, inl, inr, ℕ, Bool, true, false, cond, List, [], ◌∷◌, Option, Some, None, is_some, bytes_eq, codes, refl, sym, ap, ◌∙◌, ◌==◌, lit<, lit≤}
use Rattle.std.specs.Prelude.{option_map}
use Rattle.std.specs.List.{AllByRecursion, before_first}
use Rattle.std.proofs.lemmas.List.Elements.{All-nil, All-cons}
use Rattle.std.proofs.lemmas.Slice.Eq.{bytes_eq-Decides}
use Rattle.ulid_core.specs.FixedDigits.{fixed_digits}
use Rattle.ulid_core.specs.UlidText.{text_of, character, alphabet}
use Rattle.block_keys.specs.KeyText.{key_text, name_of, six_digits}
use Rattle.block_keys.specs.declared.key.Key.TheVariants as key
use Rattle.bucket_core.specs.Contents.{Contents, nothing, range_of, with_object}
use Rattle.bucket_core.specs.Pages.{IsPage, IsName}
use Rattle.world_core.specs.Standing.{Tells}
use Rattle.world_core.specs.declared.entry.Entry.{Entry}
use Rattle.tests_worked.specs.SmallBlock as small
use Rattle.tests_worked.specs.SmallFiles as files
use Rattle.tests_worked.specs.SmallRuns as runs

-- ---- the texts of its keys

pub segment_key : key_text (key.Segment small.a 1) ≡ codes "0000000000000000000000000A/chunks/000001"
unfolding key_text name_of six_digits text_of character alphabet fixed_digits
segment_key = refl

pub index_key : key_text (key.Index small.a) ≡ codes "0000000000000000000000000A/index"
unfolding key_text name_of text_of character alphabet fixed_digits
index_key = refl

pub meta_key : key_text (key.Meta small.a) ≡ codes "0000000000000000000000000A/meta.json"
unfolding key_text name_of text_of character alphabet fixed_digits
meta_key = refl

pub mark_key : key_text (key.Mark small.a) ≡ codes "0000000000000000000000000A/deletion-mark.json"
unfolding key_text name_of text_of character alphabet fixed_digits
mark_key = refl

-- ---- the bucket after the upload

abbrev pub full : Contents
full = with_object (key_text (key.Meta small.a)) small.meta (with_object (key_text (key.Index small.a)) small.index (with_object (key_text (key.Segment small.a 1)) small.segment nothing))

-- a text that passes one of three tests
either_of : (meta index segment : Bool) (m i s : List ℕ) → is_some (cond meta (Some m) (cond index (Some i) (cond segment (Some s) None))) ≡ true → (meta ≡ true) ⊎ ((index ≡ true) ⊎ (segment ≡ true))
either_of true index segment m i s some = inl refl
either_of false true segment m i s some = inr (inl refl)
either_of false false true m i s some = inr (inr refl)
either_of false false false m i s some = absurd (cc)

unfoldable pub first_part : List ℕ → List ℕ
first_part = before_first (λ byte. byte == 47)

meta_folder : first_part (key_text (key.Meta small.a)) ≡ small.a_text
unfolding first_part key_text name_of text_of character alphabet fixed_digits
meta_folder = refl

index_folder : first_part (key_text (key.Index small.a)) ≡ small.a_text
unfolding first_part key_text name_of text_of character alphabet fixed_digits
index_folder = refl

pub segment_folder : first_part (key_text (key.Segment small.a 1)) ≡ small.a_text
unfolding first_part key_text name_of six_digits text_of character alphabet fixed_digits
segment_folder = refl

pub mark_folder : first_part (key_text (key.Mark small.a)) ≡ small.a_text
unfolding first_part key_text name_of text_of character alphabet fixed_digits
mark_folder = refl

pub one_folder : (k text : List ℕ) → bytes_eq k text ≡ true → first_part k ≡ small.a_text → first_part text ≡ small.a_text
one_folder k text same folder = ap first_part (sym ((bytes_eq-Decides k text).0 same)) ∙ folder

pub folder_of : (text : List ℕ) → is_some (full text) ≡ true → first_part text ≡ small.a_text
folder_of text some =
    elim (either_of (bytes_eq (key_text (key.Meta small.a)) text) (bytes_eq (key_text (key.Index small.a)) text) (bytes_eq (key_text (key.Segment small.a 1)) text) small.meta small.index small.segment some) [
      | inl h ↦ one_folder (key_text (key.Meta small.a)) text h meta_folder
      | inr (inl h) ↦ one_folder (key_text (key.Index small.a)) text h index_folder
      | inr (inr h) ↦ one_folder (key_text (key.Segment small.a 1)) text h segment_folder
    ]

stands_there : IsName full [] small.a_text
unfolding key_text name_of text_of character alphabet fixed_digits
stands_there = (key_text (key.Meta small.a), refl, refl)

-- the page of a bucket whose keys all lie in the small block's folder
pub page_of : (contents : Contents) → IsName contents [] small.a_text → ((text : List ℕ) → is_some (contents text) ≡ true → first_part text ≡ small.a_text) → IsPage contents [] [] 1_000 (small.a_text ∷ [])
unfolding first_part
page_of contents there folder = record {
  ascend = (refl, tt);
  few = lit≤ tt;
  stand = All-cons (IsName contents []) small.a_text [] there (All-nil (IsName contents []));
  whole = λ name is after. inl (0, lit< tt, sym (is.2 ∙ folder is.0 is.1));
}

pub page : IsPage full [] [] 1_000 (small.a_text ∷ [])
page = page_of full stands_there folder_of

pub nothing_listed : IsPage nothing [] [] 1_000 []
nothing_listed = record { ascend = tt; few = lit≤ tt; stand = All-nil (IsName nothing []); whole = λ name is after. absurd (cc (is.1)) }

-- ---- what it shows under each key

pub shows_meta : full (key_text (key.Meta small.a)) ≡ Some small.meta
shows_meta = rw meta_key refl

pub shows_index : full (key_text (key.Index small.a)) ≡ Some small.index
shows_index = rw (meta_key, index_key) refl

pub shows_segment : full (key_text (key.Segment small.a 1)) ≡ Some small.segment
shows_segment = rw (meta_key, index_key, segment_key) refl

pub shows_no_mark : full (key_text (key.Mark small.a)) ≡ None
shows_no_mark = rw (meta_key, index_key, segment_key, mark_key) refl

-- ---- the ranges that a query reads

contents_shown : range_of 153 52 small.index ≡ files.contents
unfolding small.index files.symbols files.series files.label_index files.lists files.label_offsets files.table files.contents
contents_shown = refl

symbols_shown : range_of 5 27 small.index ≡ files.symbols
unfolding small.index files.symbols files.series files.label_index files.lists files.label_offsets files.table files.contents
symbols_shown = refl

table_shown : range_of 123 30 small.index ≡ files.table
unfolding small.index files.symbols files.series files.label_index files.lists files.label_offsets files.table files.contents
table_shown = refl

lists_shown : range_of 68 32 small.index ≡ files.lists
unfolding small.index files.symbols files.series files.label_index files.lists files.label_offsets files.table files.contents
lists_shown = refl

series_shown : range_of 32 16 small.index ≡ files.series
unfolding small.index files.symbols files.series files.label_index files.lists files.label_offsets files.table files.contents
series_shown = refl

chunk_shown : range_of 8 4096 small.segment ≡ files.chunk
unfolding small.segment files.chunk files.content
chunk_shown = refl

-- bytes of an object that stands
part_shown : (object : Option (List ℕ)) (bytes part : List ℕ) (from len : ℕ) → object ≡ Some bytes → range_of from len bytes ≡ part → option_map (range_of from len) object ≡ Some part
part_shown object bytes part from len stands is = rw stands (ap Some is)

pub contents_told : (contents : Contents) → contents (key_text (key.Index small.a)) ≡ Some small.index → option_map (range_of 153 52) (contents (key_text (key.Index small.a))) ≡ Some files.contents
contents_told contents index = part_shown _ small.index files.contents 153 52 index contents_shown

pub chunk_told : (contents : Contents) → contents (key_text (key.Segment small.a 1)) ≡ Some small.segment → option_map (range_of 8 4096) (contents (key_text (key.Segment small.a 1))) ≡ Some files.chunk
chunk_told contents segment = part_shown _ small.segment files.chunk 8 4096 segment chunk_shown

-- a query's reads show what stands where the two objects do
pub query_told : (contents : Contents) → contents (key_text (key.Index small.a)) ≡ Some small.index → contents (key_text (key.Segment small.a 1)) ≡ Some small.segment → (seq seat moment : ℕ)
    → AllByRecursion (λ (e : Entry). Tells contents e.op e.reply) (runs.query seq seat moment)
query_told contents index segment seq seat moment = (
  contents_told contents index,
  (
    part_shown _ small.index files.symbols 5 27 index symbols_shown,
    (
      part_shown _ small.index files.table 123 30 index table_shown,
      (
        part_shown _ small.index files.lists 68 32 index lists_shown,
        (part_shown _ small.index files.series 32 16 index series_shown, (chunk_told contents segment, tt)),
      ),
    ),
  ),
)
