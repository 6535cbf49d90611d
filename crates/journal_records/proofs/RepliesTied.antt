-- Replies: what is read stands there and is one that the operation may have, and each such reply that stands there is read.
use Rattle.std.proofs.Common.{◌≡◌, ℕ, Bool, true, false, List, length, Result, Ok, refl, sym, subst, ◌∙◌, ◌⊎◌, inl, inr}
use Rattle.std.specs.Prelude.{◌==◌, ◌||◌, ◌&&◌}
use Rattle.std.proofs.lemmas.Bool.{eqb-true, and_parts}
use Rattle.base.specs.Reading.{◌>>◌, unless}
use Rattle.base.specs.Grammar.{IsBytes}
use Rattle.base.proofs.Binds.{ok_is, cond_is, unless_ok}
use Rattle.wire_bytes.specs.Position.{Position, left, further}
use Rattle.world_core.specs.Operations.{IsReplyTo}
use Rattle.world_core.specs.declared.op.Op.{Op}
use Rattle.world_core.specs.declared.op.Op.TheVariants.{Clock, Put, Get, GetRange, Delete, RootPage, BlockPage}
use Rattle.world_core.specs.declared.reply.Reply.{Reply}
use Rattle.world_core.specs.declared.reply.Reply.TheVariants.{Clocked, Stored, Found, Absent, Deleted, Names, Failed}
use Rattle.journal_records.specs.declared.cause.RecordCause.{RecordCause}
use Rattle.journal_records.specs.declared.cause.RecordCause.TheVariants.{BadKind}
use Rattle.journal_records.specs.FieldReading.{byte_at, blob_at, names_at}
use Rattle.journal_records.specs.RecordReading.{may_have, may_land, found_at, listed_at, failed_at, reply_by, reply_at}
use Rattle.journal_records.specs.RecordText.{Field, ◌▸◌, IsByte, IsBlob, AreNames, IsFlag, IsReply}
use Rattle.journal_records.proofs.Standing.{Stands, Reads, step, goes, ends, join}
use Rattle.journal_records.proofs.FieldsTied.{byte_tied, blob_tied}
use Rattle.journal_records.proofs.ManyTied.{names_tied}
use Rattle.journal_records.proofs.OpsTied.{kind_is}

-- the byte of a reply's kind
kind_of : Reply → ℕ
kind_of Clocked = 1
kind_of Stored = 2
kind_of (Found blob) = 3
kind_of Absent = 4
kind_of Deleted = 5
kind_of (Names names) = 6
kind_of (Failed landed) = 7

has_landed : Reply → Bool
has_landed (Failed landed) = landed
has_landed reply = false

-- a reply of a lawful kind is one of the operation's
fits : (op : Op) (reply : Reply) → may_have op (kind_of reply) ≡ true → (has_landed reply ≡ true → may_land op ≡ true) → IsReplyTo op reply
unfolding kind_of has_landed
fits (Clock moment) Clocked may lands = tt
fits (Clock moment) reply may lands = absurd cc
fits (Put key blob) Stored may lands = tt
fits (Put key blob) (Failed landed) may lands = tt
fits (Put key blob) reply may lands = absurd cc
fits (Get key) (Found blob) may lands = tt
fits (Get key) Absent may lands = tt
fits (Get key) (Failed false) may lands = tt
fits (Get key) (Failed true) may lands = let no = lands refl in absurd cc
fits (Get key) reply may lands = absurd cc
fits (GetRange key from len) (Found blob) may lands = tt
fits (GetRange key from len) Absent may lands = tt
fits (GetRange key from len) (Failed false) may lands = tt
fits (GetRange key from len) (Failed true) may lands = let no = lands refl in absurd cc
fits (GetRange key from len) reply may lands = absurd cc
fits (Delete key) Deleted may lands = tt
fits (Delete key) (Failed landed) may lands = tt
fits (Delete key) reply may lands = absurd cc
fits (RootPage after limit) (Names names) may lands = tt
fits (RootPage after limit) (Failed false) may lands = tt
fits (RootPage after limit) (Failed true) may lands = let no = lands refl in absurd cc
fits (RootPage after limit) reply may lands = absurd cc
fits (BlockPage ulid after limit) (Names names) may lands = tt
fits (BlockPage ulid after limit) (Failed false) may lands = tt
fits (BlockPage ulid after limit) (Failed true) may lands = let no = lands refl in absurd cc
fits (BlockPage ulid after limit) reply may lands = absurd cc

-- and the other way round
may : (op : Op) (reply : Reply) → IsReplyTo op reply → may_have op (kind_of reply) ≡ true
unfolding kind_of
may (Clock moment) Clocked is = refl
may (Clock moment) reply is = absurd is
may (Put key blob) Stored is = refl
may (Put key blob) (Failed landed) is = refl
may (Put key blob) reply is = absurd is
may (Get key) (Found blob) is = refl
may (Get key) Absent is = refl
may (Get key) (Failed landed) is = refl
may (Get key) reply is = absurd is
may (GetRange key from len) (Found blob) is = refl
may (GetRange key from len) Absent is = refl
may (GetRange key from len) (Failed landed) is = refl
may (GetRange key from len) reply is = absurd is
may (Delete key) Deleted is = refl
may (Delete key) (Failed landed) is = refl
may (Delete key) reply is = absurd is
may (RootPage after limit) (Names names) is = refl
may (RootPage after limit) (Failed landed) is = refl
may (RootPage after limit) reply is = absurd is
may (BlockPage ulid after limit) (Names names) is = refl
may (BlockPage ulid after limit) (Failed landed) is = refl
may (BlockPage ulid after limit) reply is = absurd is

-- what took effect though it failed is a put or a delete
may_have_landed : (op : Op) → IsReplyTo op (Failed true) → may_land op ≡ true
may_have_landed (Put key blob) is = refl
may_have_landed (Delete key) is = refl
may_have_landed op is = absurd is

-- ---- what is read stands there

-- a reply of a kind that stands there, and was lawful
abbrev HasStood : Bool → ℕ → Position → Reply × Position → Type 0
HasStood lands k p r = Stands (IsReply r.0) p r.1 × (kind_of r.0 ≡ k) × (has_landed r.0 ≡ true → lands ≡ true)

or_is : (a b : Bool) → (a || b) ≡ true → (a ≡ true) ⊎ (b ≡ true)
or_is true b e = inl refl
or_is false b e = inr e

flag_stands : (q s : Position) (flag : ℕ) (lands : Bool) → ((flag == 0) || ((flag == 1) && lands)) ≡ true → Stands (IsByte flag) q s → Stands (IsFlag (flag == 1)) q s × ((flag == 1) ≡ true → lands ≡ true)
flag_stands q s flag lands test stands =
    elim (or_is (flag == 0) ((flag == 1) && lands) test) [
      | inl first ↦ let same = eqb-true flag 0 first in subst (λ (n : ℕ). Stands (IsFlag (n == 1)) q s × ((n == 1) ≡ true → lands ≡ true)) (sym same) (subst (λ (n : ℕ). Stands (IsByte n) q s) same stands, λ no. absurd cc)
      | inr one ↦ let parts = and_parts (flag == 1) lands one in
          let same = eqb-true flag 1 parts.0 in
          subst (λ (n : ℕ). Stands (IsFlag (n == 1)) q s × ((n == 1) ≡ true → lands ≡ true)) (sym same) (subst (λ (n : ℕ). Stands (IsByte n) q s) same stands, λ is. parts.1)
    ]

module _ (lands : Bool) (p q : Position) (r : Reply × Position) (are : IsBytes (left q)) where
  plain_stands : (reply : Reply) (k : ℕ) → Stands (IsReply reply) p q → kind_of reply ≡ k → has_landed reply ≡ false → ◌≡◌ {A = Result (Reply × Position) RecordCause} (Ok (reply, q)) (Ok r) → HasStood lands k p r
  plain_stands reply k stands kind landed e =
      subst (HasStood lands k p) (ok_is {E = RecordCause} (reply, q) r e) (stands, kind, λ is. let no = sym landed ∙ is in absurd cc)

  found_stands : Stands (IsByte 3) p q → found_at q ≡ Ok r → HasStood lands 3 p r
  unfolding found_at kind_of has_landed
  found_stands kind e =
      let a = step blob_at IsBlob _ q r blob_tied are e in
      subst (HasStood lands 3 p) (ok_is {E = RecordCause} _ _ a.3) (join (IsByte 3) (IsBlob a.0.0) p q a.0.1 kind a.1, refl, λ is. absurd cc)

  listed_stands : Stands (IsByte 6) p q → listed_at q ≡ Ok r → HasStood lands 6 p r
  unfolding listed_at kind_of has_landed
  listed_stands kind e =
      let a = step names_at AreNames _ q r names_tied are e in
      subst (HasStood lands 6 p) (ok_is {E = RecordCause} _ _ a.3) (join (IsByte 6) (AreNames a.0.0) p q a.0.1 kind a.1, refl, λ is. absurd cc)

  failed_stands : Stands (IsByte 7) p q → failed_at lands q ≡ Ok r → HasStood lands 7 p r
  unfolding failed_at kind_of has_landed
  failed_stands kind e =
      let a = step byte_at IsByte _ q r byte_tied are e in
      let tested = unless_ok ((a.0.0 == 0) || ((a.0.0 == 1) && lands)) (BadKind q.place) _ r a.3 in
      let flag = flag_stands q a.0.1 a.0.0 lands tested.0 a.1 in
      subst (HasStood lands 7 p) (ok_is {E = RecordCause} _ _ tested.1) (join (IsByte 7) (IsFlag (a.0.0 == 1)) p q a.0.1 kind flag.0, refl, flag.1)

-- no lawful kind is above 7
lawful_kind : (op : Op) (k : ℕ) → may_have op k ≡ true → (k == 1) ≡ false → (k == 2) ≡ false → (k == 3) ≡ false → (k == 4) ≡ false → (k == 5) ≡ false → (k == 6) ≡ false → (k == 7) ≡ true
lawful_kind (Clock moment) k may a b c d e f = absurd cc
lawful_kind (Put key blob) k may a b c d e f = rw b at may
lawful_kind (Get key) k may a b c d e f = rw (c, d) at may
lawful_kind (GetRange key from len) k may a b c d e f = rw (c, d) at may
lawful_kind (Delete key) k may a b c d e f = rw e at may
lawful_kind (RootPage after limit) k may a b c d e f = rw f at may
lawful_kind (BlockPage ulid after limit) k may a b c d e f = rw f at may

by_kind : (op : Op) (k : ℕ) (p q : Position) (r : Reply × Position) → IsBytes (left q) → may_have op k ≡ true → Stands (IsByte k) p q → reply_by (may_land op) k q ≡ Ok r → HasStood (may_land op) k p r
unfolding kind_of has_landed
by_kind op k p q r are lawful kind e =
    let lands = may_land op in
    elim (cond_is (k == 1) _ _ _ e) [
      | inl one ↦ plain_stands lands p q r are Clocked k (kind_is k 1 p q kind one.0) (sym (eqb-true k 1 one.0)) refl one.1
      | inr a ↦ elim (cond_is (k == 2) _ _ _ a.1) [
        | inl one ↦ plain_stands lands p q r are Stored k (kind_is k 2 p q kind one.0) (sym (eqb-true k 2 one.0)) refl one.1
        | inr b ↦ elim (cond_is (k == 3) _ _ _ b.1) [
          | inl one ↦ subst (λ (n : ℕ). HasStood lands n p r) (sym (eqb-true k 3 one.0)) (found_stands lands p q r are (kind_is k 3 p q kind one.0) one.1)
          | inr c ↦ elim (cond_is (k == 4) _ _ _ c.1) [
            | inl one ↦ plain_stands lands p q r are Absent k (kind_is k 4 p q kind one.0) (sym (eqb-true k 4 one.0)) refl one.1
            | inr d ↦ elim (cond_is (k == 5) _ _ _ d.1) [
              | inl one ↦ plain_stands lands p q r are Deleted k (kind_is k 5 p q kind one.0) (sym (eqb-true k 5 one.0)) refl one.1
              | inr f ↦ elim (cond_is (k == 6) _ _ _ f.1) [
                | inl one ↦ subst (λ (n : ℕ). HasStood lands n p r) (sym (eqb-true k 6 one.0)) (listed_stands lands p q r are (kind_is k 6 p q kind one.0) one.1)
                | inr g ↦
                    let seven = lawful_kind op k lawful a.0 b.0 c.0 d.0 f.0 g.0 in
                    subst (λ (n : ℕ). HasStood lands n p r) (sym (eqb-true k 7 seven)) (failed_stands lands p q r are (kind_is k 7 p q kind seven) g.1)
              ]
            ]
          ]
        ]
      ]
    ]

pub reply_stands : (op : Op) (p : Position) (r : Reply × Position) → IsBytes (left p) → reply_at op p ≡ Ok r → Stands (IsReply r.0) p r.1 × IsReplyTo op r.0
unfolding reply_at
reply_stands op p r are e =
    let kind = step byte_at IsByte _ p r byte_tied are e in
    let tested = unless_ok (may_have op kind.0.0) (BadKind p.place) _ r kind.3 in
    let stood = by_kind op kind.0.0 p kind.0.1 r kind.2 tested.0 kind.1 tested.1 in
    (stood.0, fits op r.0 (subst (λ (n : ℕ). may_have op n ≡ true) (sym stood.1) tested.0) stood.2)

-- ---- what stands there is read

-- what follows the byte of a lawful kind
behind_kind : (op : Op) (k : ℕ) (G : Field) (reply : Reply) → may_have op k ≡ true → Reads (λ q. reply_by (may_land op) k q) G reply → Reads (reply_at op) (IsByte k ▸ G) reply
unfolding reply_at
behind_kind op k G reply lawful others p =
    goes byte_at (IsByte k) k (λ n. unless (may_have op n.0) (BadKind p.place) >> reply_by (may_land op) n.0 n.1) G reply (byte_tied.again k) (λ q bytes after is e. rw lawful (others q bytes after is e)) p

-- the byte of a kind behind which nothing stands
only_kind : (op : Op) (k : ℕ) (reply : Reply) → may_have op k ≡ true → ((q : Position) → reply_by (may_land op) k q ≡ Ok (reply, q)) → Reads (reply_at op) (IsByte k) reply
unfolding reply_at
only_kind op k reply lawful same p bytes after is e =
    rw (byte_tied.again k p bytes after is e, lawful) (same (further (length bytes) p))

found_read : (blob : List ℕ) → Reads found_at (IsBlob blob) (Found blob)
unfolding found_at
found_read blob = ends blob_at (IsBlob blob) blob (λ b. Found b) (blob_tied.again blob)

listed_read : (names : List (List ℕ)) → Reads listed_at (AreNames names) (Names names)
unfolding listed_at
listed_read names = ends names_at (AreNames names) names (λ n. Names n) (names_tied.again names)

failed_read : (lands landed : Bool) → (landed ≡ true → lands ≡ true) → Reads (failed_at lands) (IsFlag landed) (Failed landed)
unfolding failed_at
failed_read lands true may p bytes after is e = let yes = may refl in rw (byte_tied.again 1 p bytes after is e, yes) refl
failed_read lands false may p bytes after is e = rw (byte_tied.again 0 p bytes after is e) refl

landed_as : (op : Op) (landed : Bool) → IsReplyTo op (Failed landed) → landed ≡ true → may_land op ≡ true
landed_as op true is e = may_have_landed op is
landed_as op false is e = absurd cc

pub reply_read : (op : Op) (reply : Reply) → IsReplyTo op reply → Reads (reply_at op) (IsReply reply) reply
unfolding kind_of
reply_read op Clocked is = only_kind op 1 Clocked (may op Clocked is) (λ q. refl)
reply_read op Stored is = only_kind op 2 Stored (may op Stored is) (λ q. refl)
reply_read op (Found blob) is = behind_kind op 3 (IsBlob blob) (Found blob) (may op (Found blob) is) (found_read blob)
reply_read op Absent is = only_kind op 4 Absent (may op Absent is) (λ q. refl)
reply_read op Deleted is = only_kind op 5 Deleted (may op Deleted is) (λ q. refl)
reply_read op (Names names) is = behind_kind op 6 (AreNames names) (Names names) (may op (Names names) is) (listed_read names)
reply_read op (Failed landed) is = behind_kind op 7 (IsFlag landed) (Failed landed) (may op (Failed landed) is) (failed_read (may_land op) landed (landed_as op landed is))
