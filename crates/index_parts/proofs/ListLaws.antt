-- Sections that hold a list: what is read is in the grammar, and what is in the grammar is read.
use Rattle.std.proofs.Common.{◌≡◌, ℕ, ◌+◌, ◌*◌, ◌≤◌, List, ◌++◌, length, Option, Some, None, Result, Ok, Err, refl, sym, ap, subst, ◌∙◌, append_assoc, length-append, arith, ◌⊎◌, inl, inr}
use Rattle.std.specs.Prelude.{IfOk}
use Rattle.std.specs.Result.{IsOkAnd}
use Rattle.std.specs.Int.{w32}
use Rattle.base.specs.Reading.{Gives}
use Rattle.base.specs.Grammar.{IsBytes, HasFront}
use Rattle.base.proofs.Binds.{bind_ok, ok_is}
use Rattle.base.proofs.Counted.{length-members}
use Rattle.base.proofs.Fronts.{IsBytes-after}
use Rattle.wire_bytes.specs.Position.{Position, left}
use Rattle.wire_bytes.specs.Fields.{number_at}
use Rattle.wire_bytes.specs.FieldTexts.{IsFixed}
use Rattle.wire_bytes.proofs.FixedLaws.{wide32}
use Rattle.index_parts.specs.declared.refusal.PartRefusal.{PartRefusal}
use Rattle.index_parts.specs.declared.refusal.PartRefusal.TheVariants.{NoMemory}
use Rattle.index_parts.specs.Turns.{AreInTurn}
use Rattle.index_parts.specs.Lists.{IsList}
use Rattle.index_parts.specs.ListReading.{turns_at, list_at}
use Rattle.index_parts.proofs.FieldLaws.{fixed_field}
use Rattle.index_parts.proofs.FrameLaws.{framed_found, framed_again, framed_small}
use Rattle.index_parts.proofs.TurnLaws.{turns_found, turns_again, turns_few}

-- a way to read the next member, and the texts that it reads
pub record IsTurnOf {A : Type 0} (IsNext : Option A → List ℕ → A → Type 0) (read : Option A × Position → Result (A × (Option A × Position)) PartRefusal) : Type 0 where
  pub found : (before : Option A) (p : Position) (x : A) (t : Option A × Position) → IsBytes (left p) → read (before, p) ≡ Ok (x, t) → HasFront (IsNext before) (left p) x (left t.1) × (t.0 ≡ Some x)
  pub again : (before : Option A) (p : Position) (text : List ℕ) (x : A) (after : List ℕ) → IsNext before text x → left p ≡ text ++ after → (q : Position) × (read (before, p) ≡ Ok (x, (Some x, q))) × (left q ≡ after)

-- members that were read: their texts, as many as were asked for, and what follows
pub record HasTurns {A : Type 0} (IsNext : Option A → List ℕ → A → Type 0) (bytes : List ℕ) (count : ℕ) (members : List A) : Type 0 where
  pub text : List ℕ
  pub after : List ℕ
  pub are : AreInTurn IsNext None text members
  pub front : bytes ≡ text ++ after
  pub many : length members ≡ count

module _ {A : Type 0} (IsNext : Option A → List ℕ → A → Type 0) (read : Option A × Position → Result (A × (Option A × Position)) PartRefusal) (turn : IsTurnOf IsNext read) where
  pub counted_found : (count : ℕ) (p : Position) (members : List A) → IsBytes (left p) → turns_at read count p ≡ Ok members → HasTurns IsNext (left p) count members
  unfolding turns_at
  counted_found count p members are e =
      let x = bind_ok _ _ _ e in
      let texts = turns_found read IsNext turn.found count None p x.0.0 x.0.1 are x.1 in
      subst (λ (xs : List A). HasTurns IsNext (left p) count xs) (ok_is {E = PartRefusal} _ _ x.2) (record { text = texts.0; after = left x.0.1.1; are = texts.1; front = texts.2; many = length-members read count (None, p) x.0.1 x.0.0 x.1 })

  pub counted_again : (p : Position) (text after : List ℕ) (members : List A) → AreInTurn IsNext None text members → left p ≡ text ++ after → turns_at read (length members) p ≡ Ok members
  unfolding turns_at
  counted_again p text after members are e = let r = turns_again read IsNext turn.again None p text members after are e in rw r.1 refl

  pub list_found : (index : List ℕ) (at : ℕ) (members : List A) → IsBytes index → list_at read index at ≡ Ok members → IsList IsNext index at members
  unfolding list_at
  list_found index at members are e =
      let content = bind_ok _ _ _ e in
      let count = bind_ok _ _ _ content.2 in
      let fixed = fixed_field w32 wide32 in
      let section = framed_found (IsFixed w32) (number_at w32) fixed index at content.0 are content.1 in
      let counted = fixed.found content.0 count.0.1 count.0.0 section.1 count.1 in
      let all = counted_found count.0.0 count.0.1 members (IsBytes-after counted.0 (left count.0.1) (left content.0) counted.2 section.1) count.2 in
      record {
        content = left content.0;
        count = counted.0;
        texts = all.text;
        left_over = all.after;
        section = section.0;
        content_is = counted.2 ∙ ap (λ (a : List ℕ). counted.0 ++ a) all.front ∙ sym (append_assoc counted.0 all.text all.after);
        count_is = subst (IsFixed w32 counted.0) (sym all.many) counted.1;
        texts_are = all.are;
      }

  pub list_again : (index : List ℕ) (at : ℕ) (members : List A) → IsList IsNext index at members → list_at read index at ≡ Ok members
  unfolding list_at
  list_again index at members is =
      let fixed = fixed_field w32 wide32 in
      let section = framed_again (IsFixed w32) (number_at w32) fixed index at is.content is.section in
      let counted = fixed.again section.0 is.count (length members) (is.texts ++ is.left_over) is.count_is (section.2 ∙ is.content_is ∙ append_assoc is.count is.texts is.left_over) in
      rw (section.1, counted.1) (counted_again counted.0 is.texts is.left_over members is.texts_are counted.2)

-- members that each take some bytes are no more than the index allows
pub list_few : {A : Type 0} (IsNext : Option A → List ℕ → A → Type 0) (least : ℕ) → ((before : Option A) (text : List ℕ) (x : A) → IsNext before text x → least ≤ length text) → (index : List ℕ) (at : ℕ) (members : List A) → IsList IsNext index at members → least * length members ≤ length index
list_few IsNext _ one _ at _ is =
    let small = framed_small _ _ at is.content is.section in
    let texts = turns_few _ _ one _ _ _ is.texts_are in
    let whole = ap length is.content_is ∙ length-append _ _ ∙ ap (λ (n : ℕ). n + length is.left_over) (length-append is.count is.texts) in
    omega arith

-- ---- from a reading function to the call

pub found_from : {X Y E : Type 0} (Is : Y → Type 0) (no_memory : E) (view : X → Y) (r : Result X E) (read : Result Y E) → ((y : Y) → read ≡ Ok y → Is y) → Gives no_memory view r read → IfOk r (λ x. Is (view x))
found_from Is _ view (Ok x) _ one h = one (view x) h
found_from Is _ _ (Err d) _ one h = tt

pub only_from : {X Y E : Type 0} (no_memory : E) (view : X → Y) (r : Result X E) (read : Result Y E) (y : Y) → read ≡ Ok y → Gives no_memory view r read → IsOkAnd r (λ x. view x ≡ y) ⊎ (r ≡ Err no_memory)
only_from {X} {Y} {E} _ _ (Ok x) _ y one h = inl (ok_is {E = E} _ _ (sym h ∙ one))
only_from _ _ (Err d) _ y one (inl out) = inr (ap Err out)
only_from _ _ (Err d) _ y one (inr refused) = let no = sym refused ∙ one in absurd cc

pub same_from : {Y E : Type 0} (no_memory : E) (r : Result Y E) (y : Y) → IsOkAnd r (λ x. x ≡ y) ⊎ (r ≡ Err no_memory) → (r ≡ Ok y) ⊎ (r ≡ Err no_memory)
same_from _ (Ok x) y (inl same) = inl (ap Ok same)
same_from _ (Ok x) y (inr e) = inr e
same_from _ (Err d) y (inl none) = absurd none
same_from _ (Err d) y (inr e) = inr e

-- what a call that reads a list gives
module _ {A X : Type 0} (IsNext : Option A → List ℕ → A → Type 0) (read : Option A × Position → Result (A × (Option A × Position)) PartRefusal) (turn : IsTurnOf IsNext read) (view : X → List A) (index : List ℕ) (at : ℕ) (r : Result X PartRefusal) (given : Gives NoMemory view r (list_at read index at)) where
  pub read_found : IsBytes index → IfOk r (λ x. IsList IsNext index at (view x))
  read_found are = found_from _ _ _ r _ (λ members e. list_found IsNext read turn index at members are e) given

  pub read_only : (members : List A) → IsList IsNext index at members → IsOkAnd r (λ x. view x ≡ members) ⊎ (r ≡ Err NoMemory)
  read_only members is = only_from _ _ r _ _ (list_again IsNext read turn _ at members is) given

  pub read_few : (least : ℕ) → ((before : Option A) (text : List ℕ) (x : A) → IsNext before text x → least ≤ length text) → IsBytes index → IfOk r (λ x. least * length (view x) ≤ length index)
  read_few least one are = found_from _ _ _ r _ (λ members e. list_few IsNext least one index at members (list_found IsNext read turn index at members are e)) given
