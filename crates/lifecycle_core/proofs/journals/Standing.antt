-- What was put stands, and what stands was put, where nothing is deleted.
use Rattle.std.proofs.Common.{◌≡◌, ◌≢◌, ◌⊎◌, inl, inr, ℕ, zero, suc, ◌+◌, ◌-◌, ◌==◌, Bool, true, false, cond, IsTrue, List, [], ◌∷◌, ◌++◌, length, Contains, Some, refl, ◌∙◌, ap, arith}
use Rattle.std.specs.Prelude.{slice_get}
use Rattle.std.specs.List.{fold}
use Rattle.std.specs.Str.{bytes_eq}
use Rattle.std.proofs.lemmas.Bool.Decides.{nat_tests}
use Rattle.std.proofs.lemmas.List.Elements.{Contains-append_right}
use Rattle.std.proofs.lemmas.Slice.Eq.{bytes_eq-Decides}
use Rattle.base.proofs.Membership.{contains_first}
use Rattle.block_keys.specs.KeyText.{key_text}
use Rattle.block_keys.specs.declared.key.Key.{Key}
use Rattle.bucket_core.specs.Contents.{Contents, with_object, without_object}
use Rattle.world_core.specs.Journals.{entry_at}
use Rattle.world_core.specs.Standing.{has_landed, left_by}
use Rattle.world_core.specs.declared.entry.Entry.{Entry}
use Rattle.world_core.specs.declared.op.Op.{Op}
use Rattle.world_core.specs.declared.op.Op.TheVariants as op
use Rattle.world_core.specs.declared.reply.Reply.{Reply}

-- ---- what stands

-- a put of the key has landed among the entries
abbrev pub HasPut : List Entry → Key → Type 0
HasPut entries k = (e : Entry) × Contains entries e × ((bytes : List ℕ) × (e.op ≡ op.Put k bytes) × IsTrue (has_landed e.reply))

-- what stands after entries that delete nothing
put_or_not : (landed same : Bool) (text k bytes old : List ℕ) (c : Contents) → bytes_eq k text ≡ same → c text ≡ Some old → (other : List ℕ) × (cond landed (with_object k bytes c) c text ≡ Some other)
put_or_not true true text k bytes old c test is = (bytes, rw test refl)
put_or_not true false text k bytes old c test is = (old, rw test is)
put_or_not false same text k bytes old c test is = (old, is)

stays_by : (o : Op) (r : Reply) (c : Contents) (text bytes : List ℕ) → ((k : Key) → o ≢ op.Delete k) → c text ≡ Some bytes → (other : List ℕ) × (left_by o r c text ≡ Some other)
stays_by (op.Clock moment) r c text bytes keeps is = (bytes, is)
stays_by (op.Put k new) r c text bytes keeps is = put_or_not (has_landed r) (bytes_eq (key_text k) text) text (key_text k) new bytes c refl is
stays_by (op.Get k) r c text bytes keeps is = (bytes, is)
stays_by (op.GetRange k from len) r c text bytes keeps is = (bytes, is)
stays_by (op.Delete k) r c text bytes keeps is = absurd (keeps k refl)
stays_by (op.RootPage after limit) r c text bytes keeps is = (bytes, is)
stays_by (op.BlockPage ulid after limit) r c text bytes keeps is = (bytes, is)

stays : (entries : List Entry) (c : Contents) (text bytes : List ℕ) → ((e : Entry) → Contains entries e → (k : Key) → e.op ≢ op.Delete k) → c text ≡ Some bytes → (other : List ℕ) × (fold (λ d x. left_by x.op x.reply d) c entries text ≡ Some other)
stays [] c text bytes keeps is = (bytes, is)
stays (e ∷ entries) c text bytes keeps is =
    let one = stays_by e.op e.reply c text bytes (keeps e (contains_first e entries)) is in
    stays entries (left_by e.op e.reply c) text one.0 (λ x among. keeps x (Contains-append_right (e ∷ []) entries x among)) one.1

put_lands : (o : Op) (r : Reply) (c : Contents) (k : Key) (bytes : List ℕ) → o ≡ op.Put k bytes → IsTrue (has_landed r) → left_by o r c (key_text k) ≡ Some bytes
put_lands o r c k bytes is landed =
    ap (λ x. left_by x r c (key_text k)) is ∙ ap (λ b. cond b (with_object (key_text k) bytes c) c (key_text k)) landed
    ∙ ap (λ b. cond b (Some bytes) (c (key_text k))) ((bytes_eq-Decides (key_text k) (key_text k)).1 refl)

-- what was put stands
pub put_stays : (entries : List Entry) (c : Contents) (k : Key) → ((e : Entry) → Contains entries e → (other : Key) → e.op ≢ op.Delete other) → HasPut entries k → (bytes : List ℕ) × (fold (λ d x. left_by x.op x.reply d) c entries (key_text k) ≡ Some bytes)
put_stays [] c k keeps (e, (i, below, at), put) = absurd (omega (arith, below))
put_stays (x ∷ entries) c k keeps (e, (zero, below, at), (bytes, is, landed)) =
    stays entries (left_by x.op x.reply c) (key_text k) bytes (λ y among. keeps y (Contains-append_right (x ∷ []) entries y among))
    (put_lands x.op x.reply c k bytes (ap (λ (y : Entry). y.op) at ∙ is) (ap (λ (y : Entry). has_landed y.reply) at ∙ landed))
put_stays (x ∷ entries) c k keeps (e, (suc i, below, at), put) =
    put_stays entries (left_by x.op x.reply c) k (λ y among. keeps y (Contains-append_right (x ∷ []) entries y among)) (e, (i, omega (arith, below), at), put)

-- these bytes were put under a key with this text, and the put landed
pub record WasPut (entries : List Entry) (text bytes : List ℕ) : Type 0 where
  pub front : List Entry
  pub back : List Entry
  pub entry : Entry
  pub key_is : Key
  pub parts : entries ≡ front ++ entry ∷ back
  pub puts : entry.op ≡ op.Put key_is bytes
  pub landed : IsTrue (has_landed entry.reply)
  pub same : key_text key_is ≡ text

put_first : (x : Entry) (entries : List Entry) (text bytes : List ℕ) → WasPut entries text bytes → WasPut (x ∷ entries) text bytes
put_first x entries text bytes w = record { front = x ∷ w.front; back = w.back; entry = w.entry; key_is = w.key_is; parts = ap (λ es. x ∷ es) w.parts; puts = w.puts; landed = w.landed; same = w.same }

put_here : (x : Entry) (entries : List Entry) (text : List ℕ) (k : Key) (new : List ℕ) (c : Contents) (bytes : List ℕ) (landed same : Bool) → x.op ≡ op.Put k new → has_landed x.reply ≡ landed → bytes_eq (key_text k) text ≡ same
    → cond landed (with_object (key_text k) new c) c text ≡ Some bytes → WasPut (x ∷ entries) text bytes ⊎ (c text ≡ Some bytes)
put_here x entries text k new c bytes true true is landed test holds =
    let e : Some new ≡ Some bytes = rw test at holds in
    let b : new ≡ bytes = cc (e) in
    inl (record { front = []; back = entries; entry = x; key_is = k; parts = refl; puts = is ∙ ap (op.Put k) b; landed = landed; same = (bytes_eq-Decides (key_text k) text).0 test })
put_here x entries text k new c bytes true false is landed test holds = inr (rw test at holds)
put_here x entries text k new c bytes false same is landed test holds = inr holds

delete_here : (text k : List ℕ) (c : Contents) (bytes : List ℕ) (landed same : Bool) → bytes_eq k text ≡ same → cond landed (without_object k c) c text ≡ Some bytes → c text ≡ Some bytes
delete_here text k c bytes true true test holds = absurd (cc (rw test at holds))
delete_here text k c bytes true false test holds = rw test at holds
delete_here text k c bytes false same test holds = holds

left_here : (x : Entry) (entries : List Entry) (text : List ℕ) (o : Op) (c : Contents) (bytes : List ℕ) → x.op ≡ o → left_by o x.reply c text ≡ Some bytes → WasPut (x ∷ entries) text bytes ⊎ (c text ≡ Some bytes)
left_here x entries text (op.Clock moment) c bytes is holds = inr holds
left_here x entries text (op.Put k new) c bytes is holds = put_here x entries text k new c bytes (has_landed x.reply) (bytes_eq (key_text k) text) is refl refl holds
left_here x entries text (op.Get k) c bytes is holds = inr holds
left_here x entries text (op.GetRange k from len) c bytes is holds = inr holds
left_here x entries text (op.Delete k) c bytes is holds = inr (delete_here text (key_text k) c bytes (has_landed x.reply) (bytes_eq (key_text k) text) refl holds)
left_here x entries text (op.RootPage after limit) c bytes is holds = inr holds
left_here x entries text (op.BlockPage ulid after limit) c bytes is holds = inr holds

-- what stands was put, or stood before
pub was_put : (entries : List Entry) (c : Contents) (text bytes : List ℕ) → fold (λ d x. left_by x.op x.reply d) c entries text ≡ Some bytes → WasPut entries text bytes ⊎ (c text ≡ Some bytes)
was_put [] c text bytes holds = inr holds
was_put (x ∷ entries) c text bytes holds = elim (was_put entries (left_by x.op x.reply c) text bytes holds) [
  | inl put ↦ inl (put_first x entries text bytes put)
  | inr is ↦ left_here x entries text x.op c bytes refl is
]

-- ---- entries by their numbers

at_number : (front back : List Entry) (e : Entry) → slice_get (front ++ e ∷ back) (length front) ≡ Some e
at_number [] back e = refl
at_number (x ∷ front) back e = at_number front back e

entry_next : (entries : List Entry) (n : ℕ) → entry_at entries (n + 1) ≡ slice_get entries n
entry_next entries n =
    let some : (n + 1 == 0) ≡ false = grind (arith, nat_tests) in
    let back : n + 1 - 1 ≡ n = omega arith in
    rw (some, back) refl

pub the_entry : (journal front back : List Entry) (e : Entry) (number : ℕ) → journal ≡ front ++ e ∷ back → number ≡ length front + 1 → entry_at journal number ≡ Some e
the_entry journal front back e number parts is = ap (entry_at journal) is ∙ entry_next journal (length front) ∙ ap (λ (es : List Entry). slice_get es (length front)) parts ∙ at_number front back e

-- ---- reads

pub parted : {X : Type 0} (xs : List X) (x : X) → Contains xs x → (front : List X) × (back : List X) × (xs ≡ front ++ x ∷ back)
parted [] x (k, below, is) = absurd (omega (arith, below))
parted (y ∷ xs) x (zero, below, is) = ([], xs, ap (λ z. z ∷ xs) is)
parted (y ∷ xs) x (suc k, below, is) = let rest = parted xs x (k, omega (arith, below), is) in (y ∷ rest.0, rest.1, ap (λ es. y ∷ es) rest.2)
