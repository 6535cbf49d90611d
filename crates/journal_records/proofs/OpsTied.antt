-- Operations: what is read stands there, and what stands there is read.
use Rattle.std.proofs.Common.{◌≡◌, ℕ, true, List, Ok, subst, inl, inr}
use Rattle.std.specs.Prelude.{◌==◌}
use Rattle.std.proofs.lemmas.Bool.{eqb-true}
use Rattle.base.specs.Reading.{◌>>=◌}
use Rattle.base.specs.Grammar.{IsBytes}
use Rattle.base.proofs.Binds.{ok_is, cond_is}
use Rattle.wire_bytes.specs.Position.{Position, left}
use Rattle.block_keys.specs.declared.key.Key.{Key}
use Rattle.world_core.specs.declared.op.Op.{Op}
use Rattle.world_core.specs.declared.op.Op.TheVariants.{Clock, Put, Get, GetRange, Delete, RootPage, BlockPage}
use Rattle.journal_records.specs.declared.cause.RecordCause.{RecordCause}
use Rattle.journal_records.specs.FieldReading.{byte_at, small_at, large_at, ulid_at, blob_at, key_at, text_at}
use Rattle.journal_records.specs.RecordReading.{clock_at, put_at, get_at, range_at, delete_at, root_page_at, block_page_at, op_by, op_at}
use Rattle.journal_records.specs.RecordText.{◌▸◌, IsByte, IsSmall, IsLarge, IsUlid, IsBlob, IsText, IsKey, IsOp}
use Rattle.journal_records.proofs.Standing.{Stands, Reads, Ties, step, goes, ends, join}
use Rattle.journal_records.proofs.FieldsTied.{byte_tied, small_tied, large_tied, blob_tied, text_tied, key_tied}
use Rattle.journal_records.proofs.UlidsTied.{ulid_tied}

-- ---- what is read stands there

abbrev OpStands : Position → Op × Position → Type 0
OpStands p r = Stands (IsOp r.0) p r.1

module _ (p q : Position) (r : Op × Position) (are : IsBytes (left q)) where
  clock_stands : Stands (IsByte 1) p q → clock_at q ≡ Ok r → OpStands p r
  unfolding clock_at
  clock_stands kind e =
      let a = step large_at IsLarge _ q r large_tied are e in
      subst (OpStands p) (ok_is {E = RecordCause} _ _ a.3) (join (IsByte 1) (IsLarge a.0.0) p q a.0.1 kind a.1)

  put_stands : Stands (IsByte 2) p q → put_at q ≡ Ok r → OpStands p r
  unfolding put_at
  put_stands kind e =
      let a = step key_at IsKey _ q r key_tied are e in
      let b = step blob_at IsBlob _ a.0.1 r blob_tied a.2 a.3 in
      subst (OpStands p) (ok_is {E = RecordCause} _ _ b.3)
      (join (IsByte 2) (IsKey a.0.0 ▸ IsBlob b.0.0) p q b.0.1 kind (join (IsKey a.0.0) (IsBlob b.0.0) q a.0.1 b.0.1 a.1 b.1))

  get_stands : Stands (IsByte 3) p q → get_at q ≡ Ok r → OpStands p r
  unfolding get_at
  get_stands kind e =
      let a = step key_at IsKey _ q r key_tied are e in
      subst (OpStands p) (ok_is {E = RecordCause} _ _ a.3) (join (IsByte 3) (IsKey a.0.0) p q a.0.1 kind a.1)

  range_stands : Stands (IsByte 4) p q → range_at q ≡ Ok r → OpStands p r
  unfolding range_at
  range_stands kind e =
      let a = step key_at IsKey _ q r key_tied are e in
      let b = step large_at IsLarge _ a.0.1 r large_tied a.2 a.3 in
      let c = step large_at IsLarge _ b.0.1 r large_tied b.2 b.3 in
      let numbers = join (IsLarge b.0.0) (IsLarge c.0.0) a.0.1 b.0.1 c.0.1 b.1 c.1 in
      subst (OpStands p) (ok_is {E = RecordCause} _ _ c.3)
      (join (IsByte 4) (IsKey a.0.0 ▸ IsLarge b.0.0 ▸ IsLarge c.0.0) p q c.0.1 kind (join (IsKey a.0.0) (IsLarge b.0.0 ▸ IsLarge c.0.0) q a.0.1 c.0.1 a.1 numbers))

  delete_stands : Stands (IsByte 5) p q → delete_at q ≡ Ok r → OpStands p r
  unfolding delete_at
  delete_stands kind e =
      let a = step key_at IsKey _ q r key_tied are e in
      subst (OpStands p) (ok_is {E = RecordCause} _ _ a.3) (join (IsByte 5) (IsKey a.0.0) p q a.0.1 kind a.1)

  root_page_stands : Stands (IsByte 6) p q → root_page_at q ≡ Ok r → OpStands p r
  unfolding root_page_at
  root_page_stands kind e =
      let a = step text_at IsText _ q r text_tied are e in
      let b = step small_at IsSmall _ a.0.1 r small_tied a.2 a.3 in
      subst (OpStands p) (ok_is {E = RecordCause} _ _ b.3)
      (join (IsByte 6) (IsText a.0.0 ▸ IsSmall b.0.0) p q b.0.1 kind (join (IsText a.0.0) (IsSmall b.0.0) q a.0.1 b.0.1 a.1 b.1))

  block_page_stands : Stands (IsByte 7) p q → block_page_at q ≡ Ok r → OpStands p r
  unfolding block_page_at
  block_page_stands kind e =
      let a = step ulid_at IsUlid _ q r ulid_tied are e in
      let b = step text_at IsText _ a.0.1 r text_tied a.2 a.3 in
      let c = step small_at IsSmall _ b.0.1 r small_tied b.2 b.3 in
      let page = join (IsText b.0.0) (IsSmall c.0.0) a.0.1 b.0.1 c.0.1 b.1 c.1 in
      subst (OpStands p) (ok_is {E = RecordCause} _ _ c.3)
      (join (IsByte 7) (IsUlid a.0.0 ▸ IsText b.0.0 ▸ IsSmall c.0.0) p q c.0.1 kind (join (IsUlid a.0.0) (IsText b.0.0 ▸ IsSmall c.0.0) q a.0.1 c.0.1 a.1 page))

pub kind_is : (k n : ℕ) (p q : Position) → Stands (IsByte k) p q → (k == n) ≡ true → Stands (IsByte n) p q
kind_is k n p q stands same = subst (λ (m : ℕ). Stands (IsByte m) p q) (eqb-true k n same) stands

by_kind : (place k : ℕ) (p q : Position) (r : Op × Position) → IsBytes (left q) → Stands (IsByte k) p q → op_by place k q ≡ Ok r → OpStands p r
by_kind place k p q r are kind e =
    elim (cond_is (k == 1) _ _ _ e) [
      | inl one ↦ clock_stands p q r are (kind_is k 1 p q kind one.0) one.1
      | inr a ↦ elim (cond_is (k == 2) _ _ _ a.1) [
        | inl one ↦ put_stands p q r are (kind_is k 2 p q kind one.0) one.1
        | inr b ↦ elim (cond_is (k == 3) _ _ _ b.1) [
          | inl one ↦ get_stands p q r are (kind_is k 3 p q kind one.0) one.1
          | inr c ↦ elim (cond_is (k == 4) _ _ _ c.1) [
            | inl one ↦ range_stands p q r are (kind_is k 4 p q kind one.0) one.1
            | inr d ↦ elim (cond_is (k == 5) _ _ _ d.1) [
              | inl one ↦ delete_stands p q r are (kind_is k 5 p q kind one.0) one.1
              | inr f ↦ elim (cond_is (k == 6) _ _ _ f.1) [
                | inl one ↦ root_page_stands p q r are (kind_is k 6 p q kind one.0) one.1
                | inr g ↦ elim (cond_is (k == 7) _ _ _ g.1) [
                  | inl one ↦ block_page_stands p q r are (kind_is k 7 p q kind one.0) one.1
                  | inr none ↦ let no = none.1 in absurd cc
                ]
              ]
            ]
          ]
        ]
      ]
    ]

op_stands : (p : Position) (r : Op × Position) → IsBytes (left p) → op_at p ≡ Ok r → OpStands p r
unfolding op_at
op_stands p r are e =
    let kind = step byte_at IsByte (λ k. op_by p.place k.0 k.1) p r byte_tied are e in
    by_kind p.place kind.0.0 p kind.0.1 r kind.2 kind.1 kind.3

-- ---- what stands there is read

clock_read : (ms : ℕ) → Reads clock_at (IsLarge ms) (Clock (record { ms = ms }))
unfolding clock_at
clock_read ms = ends large_at (IsLarge ms) ms (λ n. Clock (record { ms = n })) (large_tied.again ms)

put_read : (key : Key) (blob : List ℕ) → Reads put_at (IsKey key ▸ IsBlob blob) (Put key blob)
unfolding put_at
put_read key blob =
    goes key_at (IsKey key) key (λ k. blob_at k.1 >>= λ b. Ok (Put k.0 b.0, b.1)) (IsBlob blob) (Put key blob) (key_tied.again key) (ends blob_at (IsBlob blob) blob (λ b. Put key b) (blob_tied.again blob))

get_read : (key : Key) → Reads get_at (IsKey key) (Get key)
unfolding get_at
get_read key = ends key_at (IsKey key) key (λ k. Get k) (key_tied.again key)

range_read : (key : Key) (from len : ℕ) → Reads range_at (IsKey key ▸ IsLarge from ▸ IsLarge len) (GetRange key from len)
unfolding range_at
range_read key from len =
    goes key_at (IsKey key) key (λ k. large_at k.1 >>= λ f. (large_at f.1 >>= λ n. Ok (GetRange k.0 f.0 n.0, n.1))) (IsLarge from ▸ IsLarge len) (GetRange key from len) (key_tied.again key)
    (goes large_at (IsLarge from) from (λ f. large_at f.1 >>= λ n. Ok (GetRange key f.0 n.0, n.1)) (IsLarge len) (GetRange key from len) (large_tied.again from)
    (ends large_at (IsLarge len) len (λ n. GetRange key from n) (large_tied.again len)))

delete_read : (key : Key) → Reads delete_at (IsKey key) (Delete key)
unfolding delete_at
delete_read key = ends key_at (IsKey key) key (λ k. Delete k) (key_tied.again key)

root_page_read : (after : List ℕ) (limit : ℕ) → Reads root_page_at (IsText after ▸ IsSmall limit) (RootPage after limit)
unfolding root_page_at
root_page_read after limit =
    goes text_at (IsText after) after (λ a. small_at a.1 >>= λ n. Ok (RootPage a.0 n.0, n.1)) (IsSmall limit) (RootPage after limit) (text_tied.again after)
    (ends small_at (IsSmall limit) limit (λ n. RootPage after n) (small_tied.again limit))

block_page_read : (ulid : ℕ) (after : List ℕ) (limit : ℕ) → Reads block_page_at (IsUlid ulid ▸ IsText after ▸ IsSmall limit) (BlockPage ulid after limit)
unfolding block_page_at
block_page_read ulid after limit =
    goes ulid_at (IsUlid ulid) ulid (λ u. text_at u.1 >>= λ a. (small_at a.1 >>= λ n. Ok (BlockPage u.0 a.0 n.0, n.1))) (IsText after ▸ IsSmall limit) (BlockPage ulid after limit) (ulid_tied.again ulid)
    (goes text_at (IsText after) after (λ a. small_at a.1 >>= λ n. Ok (BlockPage ulid a.0 n.0, n.1)) (IsSmall limit) (BlockPage ulid after limit) (text_tied.again after)
    (ends small_at (IsSmall limit) limit (λ n. BlockPage ulid after n) (small_tied.again limit)))

op_read : (op : Op) → Reads op_at (IsOp op) op
unfolding op_at
op_read (Clock moment) p = goes byte_at (IsByte 1) 1 (λ k. op_by p.place k.0 k.1) (IsLarge moment.ms) (Clock moment) (byte_tied.again 1) (clock_read moment.ms) p
op_read (Put key blob) p = goes byte_at (IsByte 2) 2 (λ k. op_by p.place k.0 k.1) (IsKey key ▸ IsBlob blob) (Put key blob) (byte_tied.again 2) (put_read key blob) p
op_read (Get key) p = goes byte_at (IsByte 3) 3 (λ k. op_by p.place k.0 k.1) (IsKey key) (Get key) (byte_tied.again 3) (get_read key) p
op_read (GetRange key from len) p = goes byte_at (IsByte 4) 4 (λ k. op_by p.place k.0 k.1) (IsKey key ▸ IsLarge from ▸ IsLarge len) (GetRange key from len) (byte_tied.again 4) (range_read key from len) p
op_read (Delete key) p = goes byte_at (IsByte 5) 5 (λ k. op_by p.place k.0 k.1) (IsKey key) (Delete key) (byte_tied.again 5) (delete_read key) p
op_read (RootPage after limit) p = goes byte_at (IsByte 6) 6 (λ k. op_by p.place k.0 k.1) (IsText after ▸ IsSmall limit) (RootPage after limit) (byte_tied.again 6) (root_page_read after limit) p
op_read (BlockPage ulid after limit) p =
    goes byte_at (IsByte 7) 7 (λ k. op_by p.place k.0 k.1) (IsUlid ulid ▸ IsText after ▸ IsSmall limit) (BlockPage ulid after limit) (byte_tied.again 7) (block_page_read ulid after limit) p

pub op_tied : Ties op_at IsOp
op_tied = record { found = op_stands; again = op_read }
