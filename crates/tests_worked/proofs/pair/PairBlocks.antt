-- The blocks of the run in which two are compacted: what they hold, why they were marked, and that they are settled.
use Rattle.std.proofs.Common.{◌≡◌, ◌==◌, ◌<◌, ◌≤◌, ◌⊎◌, ◌+◌, inl, inr, ℕ, zero, suc, pos, Bool, true, false, cond, List, [], ◌∷◌, ◌++◌, Contains, Some, None, is_some, refl, ap, subst, arith, lit<, lit≤}
use Rattle.std.specs.Prelude.{drop, slice_get}
use Rattle.std.specs.List.{All, IsDistinct, list_any}
use Rattle.std.specs.List.Sorted.{IsStrictlySortedBy}
use Rattle.std.proofs.lemmas.Bool.Decides.{nat_tests}
use Rattle.std.proofs.lemmas.Int.{ints}
use Rattle.std.proofs.lemmas.List.Elements.{All-cons, All-contains, All-from_recursion, All-head, All-nil}
use Rattle.base.proofs.Membership.{contains_first, only_member}
use Rattle.label_sets.specs.Finals.{is_among, without, final_of}
use Rattle.label_sets.specs.Ordered.{in_order, placed}
use Rattle.label_sets.specs.Triples.{has_same_key, triples_under}
use Rattle.block_keys.specs.Keys.{key_ulid}
use Rattle.block_keys.specs.declared.key.Key.{Key}
use Rattle.block_keys.specs.declared.key.Key.TheVariants as key
use Rattle.block_meta.specs.MetaFields.{fields_of}
use Rattle.block_content.specs.Content.{IsContent}
use Rattle.world_core.specs.declared.op.Op.TheVariants as op
use Rattle.world_core.specs.declared.entry.Entry.{Entry}
use Rattle.lifecycle_core.specs.Completed.{IsCompletedAt, IsSettled, IsUploadedBefore, PutsMeta}
use Rattle.lifecycle_core.specs.Guarantees.{LeavesNoneOut, Named, NamesAll}
use Rattle.lifecycle_core.specs.Held.{held, held_by}
use Rattle.lifecycle_core.specs.Marked.{HasBetterBefore, IsFirstMark, IsMarkedFor, PutsSomeMark}
use Rattle.lifecycle_core.specs.PutBlocks.{HoldsItsSources, IsPutAs, LiesWithin, WasPutBefore}
use Rattle.lifecycle_core.specs.Tasks.{sync_rules}
use Rattle.tests_worked.specs.CompactedPair as row
use Rattle.tests_worked.specs.Entries.{absent, clock, stored}
use Rattle.tests_worked.specs.SmallBlock as small
use Rattle.tests_worked.proofs.small.BuiltBlock.{content}
use Rattle.tests_worked.proofs.pair.PairMerge.{merged_files}
use Rattle.tests_worked.proofs.pair.PairMetas.{a_is_mark, b_is_meta, n_is_meta}
use Rattle.tests_worked.proofs.small.SmallMeta.{is_meta_text}

-- ---- complete

above : (most new : ℕ) → most < new → (ulid : ℕ) → ulid ≤ most → ulid ≡ new → ⊥
above most new more ulid low same = omega (arith, more, low, same)

-- the new block's ULID is above both
pub not_new : (ulid : ℕ) → ulid ≤ row.b → ulid ≡ row.n → ⊥
not_new ulid low same = above row.b row.n (lit< tt) ulid low same

abbrev a_before : List Entry
a_before = clock 1 0 ∷ absent 2 1 1 (key.Meta small.a) ∷ stored 3 1 2 (key.Segment small.a 1) small.segment ∷ stored 4 1 3 (key.Index small.a) small.index ∷ []

a_completed : IsCompletedAt row.journal small.a 5 (fields_of small.said)
a_completed = record {
  before = a_before;
  entry = stored 5 1 4 (key.Meta small.a) small.meta;
  after = drop 5 row.journal;
  is = refl;
  number = refl;
  bytes = small.meta;
  puts = refl;
  landed = refl;
  text = is_meta_text;
  first = All-from_recursion (λ (e : Entry). ¬ PutsMeta small.a e) a_before (λ put. cc (put.1), (λ put. cc (put.1), (λ put. cc (put.1), (λ put. cc (put.1), tt))));
}

abbrev b_before : List Entry
b_before =
    clock 1 0 ∷ row.a_upload ++ absent 6 2 5 (key.Meta row.b) ∷ stored 7 2 6 (key.Segment row.b 1) small.segment ∷ stored 8 2 7 (key.Index row.b) small.index ∷ []

b_completed : IsCompletedAt row.journal row.b 9 (fields_of (small.said_of row.b))
b_completed = record {
  before = b_before;
  entry = stored 9 2 8 (key.Meta row.b) row.b_meta;
  after = drop 9 row.journal;
  is = refl;
  number = refl;
  bytes = row.b_meta;
  puts = refl;
  landed = refl;
  text = b_is_meta;
  first = All-from_recursion (λ (e : Entry). ¬ PutsMeta row.b e) b_before (λ put. cc (put.1), (λ put. cc (put.1), (λ put. cc (put.1), (λ put. cc (put.1), (λ put. let same : key.Meta small.a ≡ key.Meta row.b = cc (put.1) in omega (arith, ap key_ulid same), (λ put. cc (put.1), (λ put. cc (put.1), (λ put. cc (put.1), tt))))))));
}

pub completed : IsCompletedAt row.journal row.n 23 (fields_of row.said)
completed = record {
  before = row.until_meta;
  entry = row.meta_put;
  after = drop 23 row.journal;
  is = refl;
  number = refl;
  bytes = row.n_meta;
  puts = refl;
  landed = refl;
  text = n_is_meta;
  first = All-from_recursion (λ (e : Entry). ¬ PutsMeta row.n e) row.until_meta (λ put. cc (put.1), (λ put. cc (put.1), (λ put. cc (put.1), (λ put. cc (put.1), (λ put. let same : key.Meta small.a ≡ key.Meta row.n = cc (put.1) in not_new small.a (lit≤ tt) (ap key_ulid same), (λ put. cc (put.1), (λ put. cc (put.1), (λ put. cc (put.1), (λ put. let same : key.Meta row.b ≡ key.Meta row.n = cc (put.1) in not_new row.b (lit≤ tt) (ap key_ulid same), (λ put. cc (put.1), (λ put. cc (put.1), (λ put. cc (put.1), (λ put. cc (put.1), (λ put. cc (put.1), (λ put. cc (put.1), (λ put. cc (put.1), (λ put. cc (put.1), (λ put. cc (put.1), (λ put. cc (put.1), (λ put. cc (put.1), (λ put. cc (put.1), (λ put. cc (put.1), tt))))))))))))))))))))));
}

-- ---- what it holds

-- no put of this key has other bytes
abbrev PutsAs : Key → List ℕ → Entry → Type 0
PutsAs k own e = (bytes : List ℕ) → e.op ≡ op.Put k bytes → bytes ≡ own

one_index : All (PutsAs (key.Index row.n) small.index) row.journal
one_index = All-from_recursion (PutsAs (key.Index row.n) small.index) row.journal (λ bs is. absurd (cc (is)), (λ bs is. absurd (cc (is)), (λ bs is. absurd (cc (is)), (λ bs is. absurd (let same : key.Index small.a ≡ key.Index row.n = cc (is) in not_new small.a (lit≤ tt) (ap key_ulid same)), (λ bs is. absurd (cc (is)), (λ bs is. absurd (cc (is)), (λ bs is. absurd (cc (is)), (λ bs is. absurd (let same : key.Index row.b ≡ key.Index row.n = cc (is) in not_new row.b (lit≤ tt) (ap key_ulid same)), (λ bs is. absurd (cc (is)), (λ bs is. absurd (cc (is)), (λ bs is. absurd (cc (is)), (λ bs is. absurd (cc (is)), (λ bs is. absurd (cc (is)), (λ bs is. absurd (cc (is)), (λ bs is. absurd (cc (is)), (λ bs is. absurd (cc (is)), (λ bs is. absurd (cc (is)), (λ bs is. absurd (cc (is)), (λ bs is. absurd (cc (is)), (λ bs is. absurd (cc (is)), (λ bs is. absurd (cc (is)), (λ bs is. cc (is), (λ bs is. absurd (cc (is)), (λ bs is. absurd (cc (is)), (λ bs is. absurd (cc (is)), (λ bs is. absurd (cc (is)), (λ bs is. absurd (cc (is)), (λ bs is. absurd (cc (is)), (λ bs is. absurd (cc (is)), (λ bs is. absurd (cc (is)), (λ bs is. absurd (cc (is)), (λ bs is. absurd (cc (is)), (λ bs is. absurd (cc (is)), (λ bs is. absurd (cc (is)), (λ bs is. absurd (cc (is)), tt)))))))))))))))))))))))))))))))))))

segments_put : (place : ℕ) (bytes : List ℕ) → slice_get (small.segment ∷ []) place ≡ Some bytes → WasPutBefore row.journal (key.Segment row.n (place + 1)) bytes 23
segments_put zero bytes is =
    let same : small.segment ≡ bytes = cc (is) in (stored 21 3 1_800_011 (key.Segment row.n 1) small.segment, (20, lit< tt, refl), ap (op.Put (key.Segment row.n 1)) same, refl, lit< tt)
segments_put (suc place) bytes is = absurd (cc (is))

-- a number that a segment's key tells
abbrev segment_number : Key → ℕ
segment_number (key.Segment ulid number) = number
segment_number (key.Meta ulid) = 0
segment_number (key.Index ulid) = 0
segment_number (key.Mark ulid) = 0

-- a segment of another number was never put
abbrev PutsOther : Entry → Type 0
PutsOther e = (place : ℕ) (bytes : List ℕ) → e.op ≡ op.Put (key.Segment row.n (place + 1)) bytes → slice_get (small.segment ∷ []) place ≡ Some bytes

own_segment : PutsOther (stored 21 3 1_800_011 (key.Segment row.n 1) small.segment)
own_segment zero bytes is = cc (is)
own_segment (suc place) bytes is =
    let same : key.Segment row.n 1 ≡ key.Segment row.n (suc place + 1) = cc (is) in let numbers : 1 ≡ suc place + 1 = ap segment_number same in absurd (omega (arith, numbers))

others_put : All PutsOther row.journal
others_put = All-from_recursion PutsOther row.journal (λ place bs is. absurd (cc (is)), (λ place bs is. absurd (cc (is)), (λ place bs is. absurd (let same : key.Segment small.a 1 ≡ key.Segment row.n (place + 1) = cc (is) in not_new small.a (lit≤ tt) (ap key_ulid same)), (λ place bs is. absurd (cc (is)), (λ place bs is. absurd (cc (is)), (λ place bs is. absurd (cc (is)), (λ place bs is. absurd (let same : key.Segment row.b 1 ≡ key.Segment row.n (place + 1) = cc (is) in not_new row.b (lit≤ tt) (ap key_ulid same)), (λ place bs is. absurd (cc (is)), (λ place bs is. absurd (cc (is)), (λ place bs is. absurd (cc (is)), (λ place bs is. absurd (cc (is)), (λ place bs is. absurd (cc (is)), (λ place bs is. absurd (cc (is)), (λ place bs is. absurd (cc (is)), (λ place bs is. absurd (cc (is)), (λ place bs is. absurd (cc (is)), (λ place bs is. absurd (cc (is)), (λ place bs is. absurd (cc (is)), (λ place bs is. absurd (cc (is)), (λ place bs is. absurd (cc (is)), (own_segment, (λ place bs is. absurd (cc (is)), (λ place bs is. absurd (cc (is)), (λ place bs is. absurd (cc (is)), (λ place bs is. absurd (cc (is)), (λ place bs is. absurd (cc (is)), (λ place bs is. absurd (cc (is)), (λ place bs is. absurd (cc (is)), (λ place bs is. absurd (cc (is)), (λ place bs is. absurd (cc (is)), (λ place bs is. absurd (cc (is)), (λ place bs is. absurd (cc (is)), (λ place bs is. absurd (cc (is)), (λ place bs is. absurd (cc (is)), (λ place bs is. absurd (cc (is)), tt)))))))))))))))))))))))))))))))))))

put_as : IsPutAs row.journal row.n 23 merged_files
put_as = record {
  completed = completed;
  index = (stored 22 3 1_800_012 (key.Index row.n) small.index, (21, lit< tt, refl), refl, refl, lit< tt);
  segments = segments_put;
  one_index = λ bytes number put. All-contains (PutsAs (key.Index row.n) small.index) row.journal put.0 one_index put.1 bytes put.2;
  one_segment = λ place bytes number put. All-contains PutsOther row.journal put.0 others_put put.1 place bytes put.2;
}

contents : IsContent merged_files (small.up ∷ [])
contents =
    let built = content small.a in
    record { indexed = built.indexed; index_is = built.index_is; series_are = built.series_are; within = built.within; apart = built.apart }

pub holds : HoldsItsSources row.setting row.journal row.n 23
unfolding held held_by triples_under final_of without is_among in_order placed IsDistinct IsStrictlySortedBy
holds = record {
  files = merged_files;
  put = put_as;
  list = small.up ∷ [];
  content = contents;
  taken = All-cons (Contains (small.triple ∷ small.triple ∷ [])) small.triple [] (0, lit< tt, refl) (All-nil (Contains (small.triple ∷ small.triple ∷ [])));
  complete = All-from_recursion (λ t. list_any (has_same_key t) (small.triple ∷ []) ≡ true) (small.triple ∷ small.triple ∷ []) (refl, (refl, tt));
  once = λ none. (tt, tt);
  gives = λ some. absurd (cc (some));
}

-- ---- its sources

abbrev uploaded_before : (last : ℕ) → 5 < last → IsUploadedBefore row.setting row.journal small.a last
uploaded_before last later = record { is_declared = refl; seq = 5; meta = fields_of small.said; completed = a_completed; earlier = later }

pub within : LiesWithin row.setting row.journal 23 (fields_of row.said) small.a
within = record { uploaded = uploaded_before 24 (lit< tt); from = omega (arith, ints); upto = omega (arith, ints) }

-- ---- the marks

pub first_mark : IsFirstMark small.a 1_800 row.until_mark row.mark_put
first_mark = record {
  marks = (row.a_mark, row.marked small.a, refl, refl, a_is_mark, refl);
  first = All-from_recursion (λ (e : Entry). ¬ PutsSomeMark small.a e) row.until_mark (λ put. cc (put.1), (λ put. cc (put.1), (λ put. cc (put.1), (λ put. cc (put.1), (λ put. cc (put.1), (λ put. cc (put.1), (λ put. cc (put.1), (λ put. cc (put.1), (λ put. cc (put.1), (λ put. cc (put.1), (λ put. cc (put.1), (λ put. cc (put.1), (λ put. cc (put.1), (λ put. cc (put.1), (λ put. cc (put.1), (λ put. cc (put.1), (λ put. cc (put.1), (λ put. cc (put.1), (λ put. cc (put.1), (λ put. cc (put.1), (λ put. cc (put.1), (λ put. cc (put.1), (λ put. cc (put.1), (λ put. cc (put.1), tt))))))))))))))))))))))));
}

better : HasBetterBefore row.journal (fields_of small.said) 24
better = record {
  ulid = row.n;
  seq = 23;
  better = fields_of row.said;
  completed = completed;
  earlier = lit< tt;
  is = record {
    whole = refl;
    also = refl;
    all = λ source among. subst (Contains (small.a ∷ row.b ∷ [])) (only_member small.a source among) (contains_first small.a (row.b ∷ []));
    more = inl (lit< tt);
  };
}

pub marked_for : IsMarkedFor row.setting row.journal small.a 1_800 row.mark_put
marked_for = record {
  look = row.look;
  looked = (23, lit< tt, refl);
  same = refl;
  before = lit< tt;
  asks = refl;
  absent = refl;
  from = lit≤ tt;
  upto = lit< tt;
  seq = 5;
  meta = fields_of small.said;
  completed = a_completed;
  earlier = lit< tt;
  cause = inl better;
}

-- ---- settled, with a young mark

pub settled : IsSettled row.setting row.journal (sync_rules row.setting 0) row.used small.a
settled = record { uploaded = uploaded_before 29 (lit< tt); old = lit≤ tt; fresh = λ expired. expired; passes = record { from = omega (arith, ints); upto = omega (arith, ints) } }

abbrev named_with : List ℕ → Named
named_with sources = record { gateway = 0; used = row.used; low = pos 0; high = pos 5000; sources = sources }

pub left_out : ¬ LeavesNoneOut row.setting row.journal (row.answered_with [])
left_out none = let among = All-head (NamesAll row.setting row.journal) (named_with []) [] none small.a settled in omega (arith, among.1)

-- the declared blocks are these two
two_ulids : (ulid : ℕ) (first second : Bool) → first ≡ (small.a == ulid) → second ≡ (row.b == ulid) → is_some (cond first (Some small.block) (cond second (Some (small.block_of row.b)) None)) ≡ true → (small.a ≡ ulid) ⊎ (row.b ≡ ulid)
two_ulids ulid true second one other some = inl (grind (arith, nat_tests))
two_ulids ulid false true one other some = inr (grind (arith, nat_tests))
two_ulids ulid false false one other some = absurd (cc (some))

names_both : NamesAll row.setting row.journal (named_with (small.a ∷ row.b ∷ []))
names_both ulid settled = elim (two_ulids ulid (small.a == ulid) (row.b == ulid) refl refl settled.uploaded.is_declared) [
  | inl is ↦ subst (Contains (small.a ∷ row.b ∷ [])) is (0, lit< tt, refl)
  | inr is ↦ subst (Contains (small.a ∷ row.b ∷ [])) is (1, lit< tt, refl)
]

pub none_left_out : LeavesNoneOut row.setting row.journal (row.answered_with (small.a ∷ row.b ∷ []))
none_left_out = All-cons (NamesAll row.setting row.journal) (named_with (small.a ∷ row.b ∷ [])) [] names_both (All-nil (NamesAll row.setting row.journal))
