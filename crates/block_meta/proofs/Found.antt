-- What is read stands in the text, and what stands there is read: members, kinds and lists.
use Rattle.std.proofs.Common.{◌≡◌, ◌≢◌, ℕ, List, [], ◌∷◌, true, false, Option, Some, None, is_some, option_and_then, Ok, Err, ◌⊎◌, inl, inr, refl, ap, arith}
use Rattle.std.specs.Option.{ok_or}
use Rattle.std.proofs.lemmas.Bool.Decides.{nat_tests}
use Rattle.base.specs.Reading.{◌>>=◌}
use Rattle.base.proofs.Bound.{OfValue, of_ok, of_err, of_weaker, of_bind, of_test, of_refused}
use Rattle.ulid_core.specs.UlidText as ulid
use Rattle.ulid_core.proofs.UlidLaws.{ulid_of-found, ulid_of-only}
use Rattle.serde_json.specs.Data.{Data, Num, null, number, unsigned, string, array, object, Items, no_items, item}
use Rattle.serde_json.specs.Find.{get, as_null, as_number, as_array, as_object, as_i64, as_integer}
use Rattle.block_meta.specs.declared.refusal.MetaRefusal.{MetaRefusal}
use Rattle.block_meta.specs.declared.refusal.MetaRefusal.TheVariants.{MissingField}
use Rattle.block_meta.specs.Members.{Read, member_of, needed_of, of_kind, unsigned_of, signed_of, whole_of, text_of, ulid_of, version_of, or_absent, count_of, each, list_of}
use Rattle.block_meta.specs.MetaReading.{text_or_empty}
use Rattle.block_meta.specs.MetaText.{IsMember, Lacks, Has, HasOr, IsText, IsUlid, IsUnsigned, IsSigned, IsWhole, IsVersion, IsObject, AreItems, IsList}

-- a way to read a value, and what it reads
pub record IsReadAs {A : Type 0} (read : Data → Read A) (Is : Data → A → Type 0) : Type 0 where
  pub found : (value : Data) → OfValue (read value) (Is value)
  pub only : {value : Data} {x : A} → Is value x → read value ≡ Ok x

-- a step, and what follows on its value
pub step : {A B : Type 0} {read : Data → Read A} {Is : Data → A → Type 0} {value : Data} {next : A → Read B} {Q : B → Type 0} → IsReadAs read Is → ((x : A) → Is value x → OfValue (next x) Q) → OfValue (read value >>= next) Q
step r follows = of_bind _ (r.found _) follows

-- ---- members

-- a null is passed over, and nothing else
not_null : (value : Data) → value ≢ null → is_some (as_null value) ≡ false
not_null null h = absurd (h refl)
not_null _ h = refl

member_only : {name : List ℕ} {within value : Data} → IsMember name within value → member_of name within ≡ Some value
unfolding member_of
member_only is = rw (is.there, not_null _ is.not_null) refl

lacks_only : (name : List ℕ) (within : Data) → Lacks name within → member_of name within ≡ None
unfolding member_of
lacks_only _ _ (inl e) = rw e refl
lacks_only _ _ (inr e) = rw e refl

cases_at : (name : List ℕ) (within : Data) (o : Option Data) → get name within ≡ o → ((value : Data) × IsMember name within value) ⊎ Lacks name within
cases_at _ _ None e = inr (inl e)
cases_at _ _ (Some null) e = inr (inr e)
cases_at _ _ (Some value) e = inl (value, record { there = e; not_null = λ n. absurd cc })

-- what next reads where the member stands, or where there is none
module _ {A : Type 0} {Is : Data → A → Type 0} (name : List ℕ) (next : Option Data → Read A) (r : IsReadAs (λ value. next (Some value)) Is) where
  pub needed_by : {e : MetaRefusal} → next None ≡ Err e → IsReadAs (λ within. next (member_of name within)) (Has Is name)
  needed_by none = record {
    found = λ within. elim (cases_at name within _ refl) [
      | inl m ↦ rw (member_only m.1) (of_weaker (λ x is. (m.0, m.1, is)) (r.found m.0))
      | inr lacks ↦ rw (lacks_only name within lacks, none) of_err
    ];
    only = λ has. rw (member_only has.1) (r.only has.2);
  }

  optional_only : {default : A} → next None ≡ Ok default → (within : Data) (x : A) → HasOr default Is name within x → next (member_of name within) ≡ Ok x
  optional_only none within x (inl lacks) = rw (lacks_only name within lacks.0, none, lacks.1) refl
  optional_only none within x (inr has) = rw (member_only has.1) (r.only has.2)

  pub optional_by : {default : A} → next None ≡ Ok default → IsReadAs (λ within. next (member_of name within)) (HasOr default Is name)
  optional_by none = record {
    found = λ within. elim (cases_at name within _ refl) [
      | inl m ↦ rw (member_only m.1) (of_weaker (λ x is. inr (m.0, m.1, is)) (r.found m.0))
      | inr lacks ↦ rw (lacks_only name within lacks, none) (of_ok (inl (lacks, refl)))
    ];
    only = λ has. optional_only none _ _ has;
  }

module _ {A : Type 0} {read : Data → Read A} {Is : Data → A → Type 0} (name : List ℕ) (r : IsReadAs read Is) where
  pub needed : IsReadAs (λ within. needed_of name within >>= read) (Has Is name)
  unfolding needed_of
  needed = needed_by name (λ o. ok_or o (MissingField name) >>= read) r refl

  pub optional : (default : A) → IsReadAs (λ within. or_absent default read (member_of name within)) (HasOr default Is name)
  optional default = optional_by name (or_absent default read) r refl

-- ---- kinds

pub some_found : {A E : Type 0} (e : E) (o : Option A) → OfValue (ok_or o e) (λ x. o ≡ Some x)
some_found _ None = of_err
some_found _ (Some x) = of_ok refl

pub text : (name : List ℕ) → IsReadAs (text_of name) IsText
unfolding text_of of_kind
text _ = record { found = elim [ string s ↦ of_ok refl | _ ↦ of_err ]; only = λ is. rw is refl }

pub members_found : (name : List ℕ) (value : Data) → OfValue (of_kind name (as_object value)) (λ members. value ≡ object members)
unfolding of_kind
members_found _ (object ms) = of_ok refl
members_found _ _ = of_err

pub is_object_found : (value : Data) → is_some (as_object value) ≡ true → IsObject value
is_object_found (object ms) e = (ms, refl)
is_object_found _ e = absurd cc

pub is_object_only : (value : Data) → IsObject value → is_some (as_object value) ≡ true
is_object_only _ is = rw is.1 refl

pub unsigned_number : (name : List ℕ) → IsReadAs (unsigned_of name) IsUnsigned
unfolding unsigned_of of_kind
unsigned_number _ = record { found = elim [ number (unsigned n) ↦ of_ok refl | _ ↦ of_err ]; only = λ is. rw is refl }

number_read : {A : Type 0} (f : Num → Option A) (name : List ℕ) → IsReadAs (λ value. of_kind name (option_and_then f (as_number value))) (λ value x. (n : Num) × (value ≡ number n) × (f n ≡ Some x))
unfolding of_kind
number_read f _ = record {
  found = elim [ number n ↦ of_weaker (λ x e. (n, refl, e)) (some_found _ (f n)) | _ ↦ of_err ];
  only = λ is. rw (is.1, is.2) refl;
}

pub signed_number : (name : List ℕ) → IsReadAs (signed_of name) IsSigned
unfolding signed_of
signed_number = number_read as_i64

pub whole_number : (name : List ℕ) → IsReadAs (whole_of name) IsWhole
unfolding whole_of
whole_number = number_read as_integer

pub ulid_text : (name : List ℕ) → IsReadAs (ulid_of name) IsUlid
unfolding ulid_of
ulid_text name = record {
  found = λ value. step (text name) (λ t is. of_refused _ (ulid.ulid_of t) (λ u e. (t, is, ulid_of-found t u e)));
  only = λ is. rw ((text name).only is.1, ulid_of-only is.0 _ is.2) refl;
}

pub version : IsReadAs version_of IsVersion
unfolding version_of
version = record {
  found = elim [
    | number (unsigned n) ↦ of_test _ _ (λ one. let same : n ≡ 1 = grind (arith, nat_tests) in ap (λ m. number (unsigned m)) same)
    | _ ↦ of_err
  ];
  only = λ is. rw is refl;
}

-- ---- numbers that count, texts that may be absent, and lists

pub counted : (name : List ℕ) → IsReadAs (count_of name) (HasOr 0 IsUnsigned name)
unfolding count_of
counted _ = optional _ (unsigned_number _) 0

pub optional_text : (name : List ℕ) → IsReadAs (text_or_empty name) (HasOr [] IsText name)
unfolding text_or_empty
optional_text _ = optional _ (text _) _

items_found : (name : List ℕ) (value : Data) → OfValue (of_kind name (as_array value)) (λ items. value ≡ array items)
unfolding of_kind
items_found _ (array ds) = of_ok refl
items_found _ _ = of_err

module _ {A : Type 0} {read : Data → Read A} {Is : Data → A → Type 0} (r : IsReadAs read Is) where
  each_found : (items : Items) → OfValue (each read items) (AreItems Is items)
  unfolding each
  each_found no_items = of_ok tt
  each_found (item value values) = step r (λ x is. of_bind _ (each_found values) (λ xs are. of_ok (is, are)))

  each_only : (items : Items) (xs : List A) → AreItems Is items xs → each read items ≡ Ok xs
  unfolding each
  each_only no_items [] are = refl
  each_only (item value values) (x ∷ xs) are = rw (r.only are.0, each_only values xs are.1) refl
  each_only _ _ are = absurd are

pub listed : {A : Type 0} (read : List ℕ → Data → Read A) {Is : Data → A → Type 0} (name : List ℕ) → IsReadAs (read name) Is → IsReadAs (list_of read name) (HasOr [] (IsList Is) name)
unfolding list_of of_kind
listed _ name r = optional _ (record {
  found = λ value. of_bind _ (items_found name value) (λ items is. of_weaker (λ xs are. (items, is, are)) (each_found r _));
  only = λ is. rw is.1 (each_only r _ _ is.2);
}) _
