-- The first put of a block's meta that landed: from there on the block is complete.
use Rattle.base.proofs.Membership.{member_cases, no_member}
use Rattle.std.proofs.Common.{◌≡◌, ◌⊎◌, inl, inr, ℕ, ◌≤◌, List, [], ◌∷◌, ◌++◌, All, Contains, refl, sym, ◌∙◌, ap, subst, arith}
use Rattle.std.proofs.lemmas.Bool.{cases_Bool}
use Rattle.std.proofs.lemmas.Bool.Decides.{eqb_tells}
use Rattle.std.proofs.lemmas.List.Elements.{All-cons, All-contains, All-nil, Contains-append_cases}
use Rattle.block_keys.specs.declared.key.Key.TheVariants as key
use Rattle.block_meta.specs.MetaFields.{MetaFields}
use Rattle.block_meta.specs.MetaText.{IsMetaText}
use Rattle.world_core.specs.Standing.{has_landed}
use Rattle.world_core.specs.declared.op.Op.{Op}
use Rattle.world_core.specs.declared.op.Op.TheVariants as op
use Rattle.world_core.specs.declared.entry.Entry.{Entry}
use Rattle.lifecycle_core.specs.Completed.{IsCompletedAt, PutsMeta}
use Rattle.lifecycle_core.proofs.deeds.Orders.{back_is_later}
use Rattle.lifecycle_core.proofs.journals.Told.{Rises}

-- whether an entry puts a block's meta can be told
puts_meta : (ulid : ℕ) (e : Entry) (o : Op) → e.op ≡ o → PutsMeta ulid e ⊎ ¬ PutsMeta ulid e
puts_meta ulid e (op.Put (key.Meta own) bytes) is = elim (eqb_tells own ulid) [
  | inl same ↦ elim (cases_Bool (has_landed e.reply)) [
    | inl landed ↦ inl (bytes, is ∙ ap (λ (u : ℕ). op.Put (key.Meta u) bytes) same.1, landed)
    | inr lost ↦ inr (λ p. let landed = p.2 in cc (landed, lost))
  ]
  | inr other ↦ inr (λ p. other.1 (let e' : op.Put (key.Meta own) bytes ≡ op.Put (key.Meta ulid) p.0 = sym is ∙ p.1 in cc (e')))
]
puts_meta ulid e (op.Put (key.Index own) bytes) is = inr (λ p. let no : op.Put (key.Index own) bytes ≡ op.Put (key.Meta ulid) p.0 = sym is ∙ p.1 in cc (no))
puts_meta ulid e (op.Put (key.Segment own number) bytes) is = inr (λ p. let no : op.Put (key.Segment own number) bytes ≡ op.Put (key.Meta ulid) p.0 = sym is ∙ p.1 in cc (no))
puts_meta ulid e (op.Put (key.Mark own) bytes) is = inr (λ p. let no : op.Put (key.Mark own) bytes ≡ op.Put (key.Meta ulid) p.0 = sym is ∙ p.1 in cc (no))
puts_meta ulid e (op.Clock moment) is = inr (λ p. let no : op.Clock moment ≡ op.Put (key.Meta ulid) p.0 = sym is ∙ p.1 in cc (no))
puts_meta ulid e (op.Get k) is = inr (λ p. let no : op.Get k ≡ op.Put (key.Meta ulid) p.0 = sym is ∙ p.1 in cc (no))
puts_meta ulid e (op.GetRange k from len) is = inr (λ p. let no : op.GetRange k from len ≡ op.Put (key.Meta ulid) p.0 = sym is ∙ p.1 in cc (no))
puts_meta ulid e (op.Delete k) is = inr (λ p. let no : op.Delete k ≡ op.Put (key.Meta ulid) p.0 = sym is ∙ p.1 in cc (no))
puts_meta ulid e (op.RootPage after limit) is = inr (λ p. let no : op.RootPage after limit ≡ op.Put (key.Meta ulid) p.0 = sym is ∙ p.1 in cc (no))
puts_meta ulid e (op.BlockPage own after limit) is = inr (λ p. let no : op.BlockPage own after limit ≡ op.Put (key.Meta ulid) p.0 = sym is ∙ p.1 in cc (no))

record HasFirst (ulid : ℕ) (entries : List Entry) : Type 0 where
  front : List Entry
  entry : Entry
  back : List Entry
  parts : entries ≡ front ++ entry ∷ back
  puts : PutsMeta ulid entry
  first : All (λ e. ¬ PutsMeta ulid e) front

has_first : (ulid : ℕ) (entries : List Entry) (e : Entry) → Contains entries e → PutsMeta ulid e → HasFirst ulid entries
has_first ulid [] e among puts = absurd (no_member e among)
has_first ulid (x ∷ entries) e among puts = elim (puts_meta ulid x x.op refl) [
  | inl here ↦ record { front = []; entry = x; back = entries; parts = refl; puts = here; first = All-nil (λ (y : Entry). ¬ PutsMeta ulid y) }
  | inr other ↦
      let f = has_first ulid entries e (elim (member_cases x e entries among) [ inl same ↦ absurd (other (subst (PutsMeta ulid) (sym same) puts)) | inr later ↦ later ]) puts in
      record { front = x ∷ f.front; entry = f.entry; back = f.back; parts = ap (λ es. x ∷ es) f.parts; puts = f.puts; first = All-cons (λ (y : Entry). ¬ PutsMeta ulid y) x f.front other f.first }
]

-- The first put of the block's meta that landed, which is that of an entry or earlier.
pub record FirstPut (journal : List Entry) (ulid : ℕ) (e : Entry) : Type 0 where
  pub front : List Entry
  pub entry : Entry
  pub back : List Entry
  pub parts : journal ≡ front ++ entry ∷ back
  pub puts : PutsMeta ulid entry
  pub first : All (λ x. ¬ PutsMeta ulid x) front
  pub upto : entry.seq ≤ e.seq

pub first_put : (journal : List Entry) → Rises journal → (ulid : ℕ) (e : Entry) → Contains journal e → PutsMeta ulid e → FirstPut journal ulid e
first_put journal rises ulid e among puts =
    let f = has_first ulid journal e among puts in
    let later : f.entry.seq ≤ e.seq = elim (Contains-append_cases f.front (f.entry ∷ f.back) e (subst (λ es. Contains es e) f.parts among)) [
      | inl early ↦ absurd (All-contains (λ (y : Entry). ¬ PutsMeta ulid y) f.front e f.first early puts)
      | inr rest ↦ elim (member_cases f.entry e f.back rest) [
        | inl same ↦ omega (arith, ap (λ (y : Entry). y.seq) same)
        | inr behind ↦ let higher = back_is_later f.front f.back f.entry e (subst Rises f.parts rises) behind in omega (arith, higher.0)
      ]
    ] in
    record { front = f.front; entry = f.entry; back = f.back; parts = f.parts; puts = f.puts; first = f.first; upto = later }

pub complete_from : (journal : List Entry) (ulid : ℕ) (e : Entry) (f : FirstPut journal ulid e) (meta : MetaFields) → IsMetaText (f.puts).0 meta → IsCompletedAt journal ulid f.entry.seq meta
complete_from journal ulid e f meta text =
    record { before = f.front; entry = f.entry; after = f.back; is = f.parts; number = refl; bytes = (f.puts).0; puts = (f.puts).1; landed = (f.puts).2; text = text; first = f.first }
