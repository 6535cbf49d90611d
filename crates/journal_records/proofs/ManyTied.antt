-- So many fields one after another: what is read stands there, and what stands there is read.
use Rattle.std.proofs.Common.{◌≡◌, ℕ, zero, suc, ◌+◌, List, [], ◌∷◌, ◌++◌, length, Ok, refl, sym, ap, subst, ◌∙◌, append_assoc, arith}
use Rattle.base.specs.Members.{members_at}
use Rattle.base.specs.Grammar.{IsBytes, AreTexts}
use Rattle.base.proofs.Binds.{ok_is}
use Rattle.base.proofs.Counted.{members_first, members_parts, length-members}
use Rattle.wire_bytes.specs.Position.{Position, left, further}
use Rattle.wire_bytes.proofs.FieldLaws.{left_after}
use Rattle.journal_records.specs.declared.cause.RecordCause.{RecordCause}
use Rattle.journal_records.specs.FieldReading.{At, small_at, text_at, names_at}
use Rattle.journal_records.specs.RecordText.{Field, IsSmall, IsText, AreNames}
use Rattle.journal_records.proofs.Standing.{Stands, Reads, Ties, step, goes, join, bytes_behind, further_joined}
use Rattle.journal_records.proofs.FieldsTied.{small_tied, text_tied}

-- fields of these values one after another
abbrev pub Many : {A : Type 0} → (A → Field) → List A → Field
Many F xs = λ bytes. AreTexts (λ text x. F x text) bytes xs

pub many_none : {A : Type 0} (F : A → Field) (p : Position) → Stands (Many F []) p p
many_none F p =
    let places : p.place + 0 ≡ p.place = omega arith in
    ([], refl, refl, ap (λ (place : ℕ). record { bytes = p.bytes; place = place }) places)

pub many_more : {A : Type 0} (F : A → Field) (x : A) (xs : List A) (p q r : Position) → Stands (F x) p q → Stands (Many F xs) q r → Stands (Many F (x ∷ xs)) p r
many_more F x xs p q r one others =
    let both = join (F x) (Many F xs) p q r one others in
    (both.0, (both.1.0, both.1.1, both.1.2, both.1.3, both.1.4), both.2, both.3)

module _ {A : Type 0} (read : Position → At A) (F : A → Field) (tied : Ties read F) where
  pub members_stand : (n : ℕ) (p : Position) (r : List A × Position) → IsBytes (left p) → members_at read n p ≡ Ok r → Stands (Many F r.0) p r.1
  unfolding members_at
  members_stand zero p r are e = subst (λ (y : List A × Position). Stands (Many F y.0) p y.1) (ok_is {E = RecordCause} _ _ e) (many_none F p)
  members_stand (suc n) p r are e =
      let parts = members_parts read n p r.1 r.0 e in
      let one = tied.found p (parts.0, parts.1) are parts.3 in
      let others = members_stand n parts.1 (parts.2, r.1) (bytes_behind (F parts.0) p parts.1 one are) parts.4 in
      subst (λ (xs : List A). Stands (Many F xs) p r.1) parts.5 (many_more F parts.0 parts.2 p parts.1 r.1 one others)

  pub members_read : (xs : List A) → Reads (λ p. members_at read (length xs) p) (Many F xs) xs
  unfolding members_at
  members_read [] p bytes after is e =
      let places : p.place ≡ p.place + 0 = omega arith in
      let same : p ≡ further (length bytes) p = ap (λ (place : ℕ). record { bytes = p.bytes; place = place }) places ∙ ap (λ (t : List ℕ). further (length t) p) (sym is) in
      ap (λ (z : Position). Ok ([], z)) same
  members_read (x ∷ xs) p bytes after is e =
      let whole : left p ≡ is.0 ++ (is.1 ++ after) = e ∙ ap (λ (t : List ℕ). t ++ after) is.4 ∙ append_assoc is.0 is.1 after in
      let q = further (length is.0) p in
      let first = tied.again x p is.0 (is.1 ++ after) is.2 whole in
      let others = members_read xs q is.1 after is.3 (left_after is.0 (is.1 ++ after) p whole) in
      let place : further (length is.1) q ≡ further (length bytes) p = further_joined is.0 is.1 p ∙ ap (λ (t : List ℕ). further (length t) p) (sym is.4) in
      members_first read (length xs) p q (further (length is.1) q) x xs first others ∙ ap (λ (z : Position). Ok (x ∷ xs, z)) place

-- ---- names

names_stand : (p : Position) (r : List (List ℕ) × Position) → IsBytes (left p) → names_at p ≡ Ok r → Stands (AreNames r.0) p r.1
unfolding names_at
names_stand p r are e =
    let count = step small_at IsSmall (λ s. members_at text_at s.0 s.1) p r small_tied are e in
    let many = length-members text_at count.0.0 count.0.1 r.1 r.0 count.3 in
    let first = subst (λ (n : ℕ). Stands (IsSmall n) p count.0.1) (sym many) count.1 in
    join (IsSmall (length r.0)) (Many IsText r.0) p count.0.1 r.1 first (members_stand text_at IsText text_tied count.0.0 count.0.1 r count.2 count.3)

names_read : (names : List (List ℕ)) → Reads names_at (AreNames names) names
unfolding names_at
names_read names =
    goes small_at (IsSmall (length names)) (length names) (λ s. members_at text_at s.0 s.1) (Many IsText names) names (small_tied.again (length names)) (members_read text_at IsText text_tied names)

pub names_tied : Ties names_at AreNames
names_tied = record { found = names_stand; again = names_read }
