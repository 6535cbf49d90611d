-- What stands in a journal of deeds: what was put last and not deleted since.
use Rattle.base.proofs.Membership.{contains_later, member_cases}
use Rattle.std.proofs.Common.{◌≡◌, ◌≢◌, ◌⊎◌, inl, inr, ℕ, ◌<◌, ◌^◌, Bool, true, false, cond, List, [], ◌∷◌, ◌++◌, Contains, Option, Some, None, IsTrue, refl, sym, ◌∙◌, ap, subst, append_assoc}
use Rattle.std.specs.Str.{bytes_eq}
use Rattle.std.proofs.lemmas.List.Elements.{All-contains, All-contains_itself, All-from_recursion, All-weaker, Contains-append_cases, Contains-append_right, recursion_from_All}
use Rattle.std.proofs.lemmas.Slice.Eq.{bytes_eq-Decides}
use Rattle.block_keys.specs.Keys.{IsLawfulKey, key_ulid}
use Rattle.block_keys.specs.KeyText.{key_text}
use Rattle.block_keys.specs.declared.key.Key.{Key}
use Rattle.bucket_core.specs.Contents.{nothing}
use Rattle.world_core.specs.Operations.{IsLawful}
use Rattle.world_core.specs.Standing.{IsHonest, IsUnchanged, Tells, changed_by, has_landed, stands}
use Rattle.world_core.specs.declared.op.Op.{Op}
use Rattle.world_core.specs.declared.op.Op.TheVariants as op
use Rattle.world_core.specs.declared.reply.Reply.{Reply}
use Rattle.world_core.specs.declared.reply.Reply.TheVariants as reply
use Rattle.world_core.specs.declared.entry.Entry.{Entry}
use Rattle.world_core.proofs.LastLanded.{deleted_stands, put_stands, unchanged_along}
use Rattle.script_core.specs.Lawful.{IsLawfulScript}
use Rattle.lifecycle_core.specs.Marked.{LandsDelete}
use Rattle.lifecycle_core.specs.Setting.{Setting}
use Rattle.lifecycle_core.proofs.deeds.Orders.{front_is_earlier}
use Rattle.lifecycle_core.proofs.deeds.Sources.{delete_source, put_is_small}
use Rattle.lifecycle_core.proofs.deeds.Words.{AreDeeds}
use Rattle.lifecycle_core.proofs.journals.Positions.{stands_in}
use Rattle.lifecycle_core.proofs.journals.Standing.{parted}
use Rattle.lifecycle_core.proofs.journals.Rising.{journal_rises, one_key}
use Rattle.lifecycle_core.proofs.journals.Told.{Rises}

-- the entry put these bytes under the key, and the put has landed
abbrev pub LandsPut : Key → List ℕ → Entry → Type 0
LandsPut k bytes e = (e.op ≡ op.Put k bytes) × IsTrue (has_landed e.reply)

-- It was put, and behind that neither put nor deleted.
pub record WasPutLast (entries : List Entry) (k : Key) (bytes : List ℕ) : Type 0 where
  pub front : List Entry
  pub put : Entry
  pub back : List Entry
  pub parts : entries ≡ front ++ put ∷ back
  pub puts : LandsPut k bytes put
  pub unput : (e : Entry) (other : List ℕ) → Contains back e → ¬ LandsPut k other e
  pub undeleted : (e : Entry) → Contains back e → ¬ LandsDelete k e

-- It was deleted behind that put.
pub record WasDeleted (entries : List Entry) (put : Entry) (k : Key) : Type 0 where
  pub before : List Entry
  pub delete : Entry
  pub after : List Entry
  pub parts : entries ≡ before ++ delete ∷ after
  pub deletes : LandsDelete k delete
  pub since : put.seq < delete.seq

-- ---- the last change

abbrev Changes : List ℕ → Entry → Type 0
Changes text e = changed_by e.op e.reply ≡ Some text

is_some_text : (o : Option (List ℕ)) (text : List ℕ) → (o ≡ Some text) ⊎ (o ≢ Some text)
is_some_text None text = inr (λ e. cc (e))
is_some_text (Some other) text = by (bytes_eq other text) refl
  where
    by : (b : Bool) → bytes_eq other text ≡ b → (Some other ≡ Some text) ⊎ (Some other ≢ Some text)
    by true test = inl (ap (λ (t : List ℕ). Some t) ((bytes_eq-Decides other text).0 test))
    by false test = inr (λ e. let same : other ≡ text = cc (e) in let yes : bytes_eq other text ≡ true = (bytes_eq-Decides other text).1 same in cc (yes, test))

abbrev LastChange : List ℕ → List Entry → Type 0
LastChange text entries = (front : List Entry) × (c : Entry) × (back : List Entry) × (entries ≡ front ++ c ∷ back) × Changes text c × IsUnchanged text back

last_change : (text : List ℕ) (entries : List Entry) → IsUnchanged text entries ⊎ LastChange text entries
last_change text [] = inl tt
last_change text (e ∷ entries) = elim (last_change text entries) [
  | inr (front, c, back, is, changes, rest) ↦ inr (e ∷ front, c, back, ap (λ es. e ∷ es) is, changes, rest)
  | inl none ↦ elim (is_some_text (changed_by e.op e.reply) text) [
    | inl here ↦ inr ([], e, entries, refl, here, none)
    | inr other ↦ inl (other, none)
  ]
]

put_changes : (e : Entry) (k : Key) (bytes : List ℕ) → LandsPut k bytes e → Changes (key_text k) e
put_changes e k bytes (puts, landed) = ap (λ o. changed_by o e.reply) puts ∙ ap (λ b. cond b (Some (key_text k)) None) landed

delete_changes : (e : Entry) (k : Key) → LandsDelete k e → Changes (key_text k) e
delete_changes e k (deletes, landed) = ap (λ o. changed_by o e.reply) deletes ∙ ap (λ b. cond b (Some (key_text k)) None) landed

-- what a change is
abbrev IsChange : List ℕ → Entry → Type 0
IsChange text e = (own : Key) × (key_text own ≡ text) × (((bytes : List ℕ) × LandsPut own bytes e) ⊎ LandsDelete own e)

landed_text : (b : Bool) (one text : List ℕ) → cond b (Some one) None ≡ Some text → (b ≡ true) × (one ≡ text)
landed_text true one text is = (refl, cc (is))
landed_text false one text is = absurd (cc (is))

change_is : (e : Entry) (o : Op) (text : List ℕ) → e.op ≡ o → changed_by o e.reply ≡ Some text → IsChange text e
change_is e (op.Put k bytes) text is changes = let l = landed_text (has_landed e.reply) (key_text k) text changes in (k, l.1, inl (bytes, (is, l.0)))
change_is e (op.Delete k) text is changes = let l = landed_text (has_landed e.reply) (key_text k) text changes in (k, l.1, inr (is, l.0))
change_is e (op.Clock moment) text is changes = absurd (cc (changes))
change_is e (op.Get k) text is changes = absurd (cc (changes))
change_is e (op.GetRange k from len) text is changes = absurd (cc (changes))
change_is e (op.RootPage after limit) text is changes = absurd (cc (changes))
change_is e (op.BlockPage ulid after limit) text is changes = absurd (cc (changes))

-- ---- in a journal

module _ (setting : Setting) (journal : List Entry) (lawful : IsLawfulScript setting.script) (deeds : AreDeeds setting journal) (before after : List Entry) (parts : journal ≡ before ++ after) (k : Key) (small : key_ulid k < 2 ^ 128) (written : IsLawfulKey k) where
  whole : (front back : List Entry) (e : Entry) → before ≡ front ++ e ∷ back → journal ≡ front ++ e ∷ (back ++ after)
  whole front back e is = parts ∙ ap (λ es. es ++ after) is ∙ append_assoc front (e ∷ back) after

  -- a change of its text is one of the object
  change_here : (e : Entry) → Contains before e → Changes (key_text k) e → ((bytes : List ℕ) × LandsPut k bytes e) ⊎ LandsDelete k e
  change_here e among changes = by (change_is e e.op (key_text k) refl changes)
    where
      at : (front : List Entry) × (back : List Entry) × (before ≡ front ++ e ∷ back)
      at = parted before e among

      here : journal ≡ at.0 ++ e ∷ (at.1 ++ after)
      here = whole at.0 at.1 e at.2

      by : IsChange (key_text k) e → ((bytes : List ℕ) × LandsPut k bytes e) ⊎ LandsDelete k e
      by (own, same, inl (bytes, (puts, landed))) =
          let tiny = put_is_small setting journal deeds at.0 (at.1 ++ after) e here lawful own bytes puts in
          let key_is : own ≡ k = one_key own k (subst IsLawful puts (deeds.kept.lawful at.0 (at.1 ++ after) e here)) written tiny small same in
          inl (bytes, (puts ∙ ap (λ x. op.Put x bytes) key_is, landed))
      by (own, same, inr (deletes, landed)) =
          let tiny = (delete_source setting journal deeds at.0 (at.1 ++ after) e here own deletes).small in
          let key_is : own ≡ k = one_key own k (subst IsLawful deletes (deeds.kept.lawful at.0 (at.1 ++ after) e here)) written tiny small same in
          inr (deletes ∙ ap op.Delete key_is, landed)

  not_back : (back : List Entry) → IsUnchanged (key_text k) back → (e : Entry) → Contains back e → ¬ Changes (key_text k) e
  not_back back none e among = All-contains (λ (x : Entry). changed_by x.op x.reply ≢ Some (key_text k)) back e (All-from_recursion (λ (x : Entry). changed_by x.op x.reply ≢ Some (key_text k)) back none) among

  last_stands : (front back : List Entry) (c : Entry) (o : Option (List ℕ)) → before ≡ front ++ c ∷ back → stands (front ++ c ∷ back) (key_text k) ≡ o → stands before (key_text k) ≡ o
  last_stands front back c o is holds = ap (λ es. stands es (key_text k)) is ∙ holds

  -- what stands was put last
  pub stood : (bytes : List ℕ) → stands before (key_text k) ≡ Some bytes → WasPutLast before k bytes
  stood bytes holds = elim (last_change (key_text k) before) [
    | inl none ↦ absurd (let e = sym holds ∙ unchanged_along before (key_text k) nothing none in cc (e))
    | inr (front, c, back, is, changes, rest) ↦ by front c back is rest (change_here c (subst (λ es. Contains es c) (sym is) (stands_in front back c)) changes)
  ]
    where
      by : (front : List Entry) (c : Entry) (back : List Entry) → before ≡ front ++ c ∷ back → IsUnchanged (key_text k) back → ((new : List ℕ) × LandsPut k new c) ⊎ LandsDelete k c → WasPutLast before k bytes
      by front c back is rest (inl (new, (puts, landed))) =
          let stands_new = last_stands front back c (Some new) is (put_stands front back c k new puts landed rest) in
          let same : new ≡ bytes = let e = sym stands_new ∙ holds in cc (e) in
          record {
            front = front;
            put = c;
            back = back;
            parts = is;
            puts = (puts ∙ ap (op.Put k) same, landed);
            unput = λ e other among again. not_back back rest e among (put_changes e k other again);
            undeleted = λ e among gone. not_back back rest e among (delete_changes e k gone);
          }
      by front c back is rest (inr (deletes, landed)) =
          absurd (let e = sym holds ∙ last_stands front back c None is (deleted_stands front back c k deletes landed rest) in cc (e))

  pub stands_last : (bytes : List ℕ) → WasPutLast before k bytes → stands before (key_text k) ≡ Some bytes
  stands_last bytes last =
      let into : (e : Entry) → Contains last.back e → Contains before e = λ e among. subst (λ es. Contains es e) (sym last.parts) (in_back last.front last.put last.back e among) in
      let none : IsUnchanged (key_text k) last.back =
      recursion_from_All (λ (x : Entry). changed_by x.op x.reply ≢ Some (key_text k)) last.back
      (All-weaker (Contains last.back) (λ (x : Entry). changed_by x.op x.reply ≢ Some (key_text k))
      (λ e among changes. elim (change_here e (into e among) changes) [ inl (other, puts) ↦ last.unput e other among puts | inr gone ↦ last.undeleted e among gone ]) last.back (All-contains_itself last.back)) in
      last_stands last.front last.back last.put (Some bytes) last.parts (put_stands last.front last.back last.put k bytes (last.puts).0 (last.puts).1 none)
    where
      in_back : (front : List Entry) (c : Entry) (back : List Entry) (e : Entry) → Contains back e → Contains (front ++ c ∷ back) e
      in_back front c back e among = Contains-append_right front (c ∷ back) e (contains_later c e back among)

  -- what was put and does not stand was deleted since
  pub deleted_since : (put : Entry) (bytes : List ℕ) → Contains before put → LandsPut k bytes put → stands before (key_text k) ≡ None → WasDeleted before put k
  deleted_since put bytes among puts lost = elim (last_change (key_text k) before) [
    | inl none ↦ absurd (not_back before none put among (put_changes put k bytes puts))
    | inr (front, c, back, is, changes, rest) ↦ by front c back is rest (change_here c (subst (λ es. Contains es c) (sym is) (stands_in front back c)) changes)
  ]
    where
      rising : (front : List Entry) (c : Entry) (back : List Entry) → before ≡ front ++ c ∷ back → Rises (front ++ c ∷ (back ++ after))
      rising front c back is = subst Rises (whole front back c is) (journal_rises setting.script.rules.tick.ms journal deeds.kept)

      by : (front : List Entry) (c : Entry) (back : List Entry) → before ≡ front ++ c ∷ back → IsUnchanged (key_text k) back → ((new : List ℕ) × LandsPut k new c) ⊎ LandsDelete k c → WasDeleted before put k
      by front c back is rest (inl (new, (again, landed))) = absurd (let e = sym lost ∙ last_stands front back c (Some new) is (put_stands front back c k new again landed rest) in cc (e))
      by front c back is rest (inr (deletes, landed)) =
          elim (Contains-append_cases front (c ∷ back) put (subst (λ es. Contains es put) is among)) [
            | inl early ↦ record { before = front; delete = c; after = back; parts = is; deletes = (deletes, landed); since = (front_is_earlier front (back ++ after) c put (rising front c back is) early).0 }
            | inr late ↦ elim (member_cases c put back late) [
              | inl same ↦ absurd (let e : op.Delete k ≡ op.Put k bytes = sym deletes ∙ ap (λ (x : Entry). x.op) same ∙ puts.0 in cc (e))
              | inr behind ↦ absurd (not_back back rest put behind (put_changes put k bytes puts))
            ]
          ]

-- ---- reads

-- a read of an honest journal that found an object shows what stands
pub found_stands : (setting : Setting) (journal before after : List Entry) (e : Entry) → IsHonest journal → journal ≡ before ++ e ∷ after → (k : Key) (bytes : List ℕ) → e.op ≡ op.Get k → e.reply ≡ reply.Found bytes → stands before (key_text k) ≡ Some bytes
found_stands setting journal before after e honest parts k bytes asks found =
    subst (λ (o : Op). Tells (stands before) o (reply.Found bytes)) asks (subst (λ (r : Reply). Tells (stands before) e.op r) found (honest before after e parts))

pub absent_stands : (setting : Setting) (journal before after : List Entry) (e : Entry) → IsHonest journal → journal ≡ before ++ e ∷ after → (k : Key) → e.op ≡ op.Get k → e.reply ≡ reply.Absent → stands before (key_text k) ≡ None
absent_stands setting journal before after e honest parts k asks absent =
    subst (λ (o : Op). Tells (stands before) o reply.Absent) asks (subst (λ (r : Reply). Tells (stands before) e.op r) absent (honest before after e parts))
