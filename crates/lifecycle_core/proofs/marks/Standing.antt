-- While the meta of a block stands, its files do.
use Rattle.std.proofs.Common.{◌≡◌, inl, inr, ℕ, ◌+◌, ◌<◌, ◌^◌, List, ◌∷◌, ◌++◌, Contains, Option, Some, None, IsTrue, refl, sym, ◌∙◌, ap, subst, append_assoc, arith}
use Rattle.std.specs.Prelude.{slice_get}
use Rattle.std.proofs.lemmas.List.Elements.{All-contains, Contains-append_left}
use Rattle.block_keys.specs.Keys.{IsLawfulKey, key_ulid}
use Rattle.block_keys.specs.KeyText.{key_text}
use Rattle.block_keys.specs.declared.key.Key.{Key}
use Rattle.block_keys.specs.declared.key.Key.TheVariants as key
use Rattle.block_meta.specs.MetaFields.{MetaFields}
use Rattle.block_meta.specs.declared.block_files.BlockFiles.{BlockFiles}
use Rattle.world_core.specs.Operations.{IsLawful}
use Rattle.world_core.specs.Standing.{IsHonest, has_landed, stands}
use Rattle.world_core.specs.declared.op.Op.TheVariants as op
use Rattle.world_core.specs.declared.entry.Entry.{Entry}
use Rattle.script_core.specs.Lawful.{IsLawfulScript}
use Rattle.lifecycle_core.specs.Completed.{IsCompletedAt, PutsMeta}
use Rattle.lifecycle_core.specs.PutBlocks.{IsPutAs, WasPutBefore}
use Rattle.lifecycle_core.specs.Setting.{Setting}
use Rattle.lifecycle_core.specs.TimeRules.{IsUploadedInTime}
use Rattle.lifecycle_core.proofs.deeds.Orders.{lower_is_in_front, ordered}
use Rattle.lifecycle_core.proofs.deeds.Sources.{put_is_small}
use Rattle.lifecycle_core.proofs.deeds.Stood.{deleted_since, stood}
use Rattle.lifecycle_core.proofs.deeds.Words.{AreDeeds}
use Rattle.lifecycle_core.proofs.journals.Positions.{stands_in}
use Rattle.lifecycle_core.proofs.journals.Rising.{journal_rises}
use Rattle.lifecycle_core.proofs.journals.Standing.{parted}
use Rattle.lifecycle_core.proofs.journals.Told.{Rises}
use Rattle.lifecycle_core.proofs.marks.Deletions.{nothing_deleted}

module _ (setting : Setting) (journal : List Entry) (lawful : IsLawfulScript setting.script) (deeds : AreDeeds setting journal) (honest : IsHonest journal) (ulid : ℕ) (timely : IsUploadedInTime setting.script.rules ulid journal) (before after : List Entry) (parts : journal ≡ before ++ after) where
  rising : Rises journal
  rising = journal_rises setting.script.rules.tick.ms journal deeds.kept

  inside : (x : Entry) → Contains before x → Contains journal x
  inside x among = subst (λ es. Contains es x) (sym parts) (Contains-append_left before after x among)

  -- what was put before the block was complete was put before, where its meta stands
  put_early : (seq : ℕ) (meta : MetaFields) (bytes : List ℕ) → IsCompletedAt journal ulid seq meta → ulid < 2 ^ 128 → stands before (key_text (key.Meta ulid)) ≡ Some bytes → (p : Entry) → Contains journal p → p.seq < seq → Contains before p
  put_early seq meta bytes c small is p among less =
      let last = stood setting journal lawful deeds before after parts (key.Meta ulid) small tt bytes is in
      let m : Entry = last.put in
      let put_at : journal ≡ last.front ++ m ∷ (last.back ++ after) = parts ∙ ap (λ es. es ++ after) last.parts ∙ append_assoc last.front (m ∷ last.back) after in
      let m_in : Contains journal m = subst (λ es. Contains es m) (sym put_at) (stands_in last.front (last.back ++ after) m) in
      let c_in : Contains journal c.entry = subst (λ es. Contains es c.entry) (sym c.is) (stands_in c.before c.after c.entry) in
      let number : c.entry.seq ≡ seq = c.number in
      let puts : PutsMeta ulid m = (bytes, (last.puts).0, (last.puts).1) in
      let front : Contains last.front p = lower_is_in_front last.front (last.back ++ after) m p (subst Rises put_at rising) (subst (λ es. Contains es p) put_at among) (lower m m_in c_in puts number) in
      subst (λ es. Contains es p) (sym last.parts) (Contains-append_left last.front (m ∷ last.back) p front)
    where
      lower : (m : Entry) → Contains journal m → Contains journal c.entry → PutsMeta ulid m → c.entry.seq ≡ seq → p.seq < m.seq
      lower m m_in c_in puts number = elim (ordered journal rising m c.entry m_in c_in) [
        | inl (inl first) ↦ absurd (All-contains (λ (x : Entry). ¬ PutsMeta ulid x) c.before m c.first
            (lower_is_in_front c.before c.after c.entry m (subst Rises c.is rising) (subst (λ es. Contains es m) c.is m_in) first.0) puts)
        | inl (inr later) ↦ omega (arith, less, number, later.0)
        | inr same ↦ omega (arith, less, number, ap (λ (x : Entry). x.seq) same)
      ]

  -- so it stands
  key_stands : (k : Key) (bytes meta_bytes : List ℕ) → key_ulid k ≡ ulid → ulid < 2 ^ 128 → stands before (key_text (key.Meta ulid)) ≡ Some meta_bytes → (p : Entry) → Contains before p → p.op ≡ op.Put k bytes → IsTrue (has_landed p.reply)
      → ((other : List ℕ) (number : ℕ) → WasPutBefore journal k other number → other ≡ bytes) → stands before (key_text k) ≡ Some bytes
  key_stands k bytes meta_bytes own small is p among puts landed one = by (stands before (key_text k)) refl
    where
      at : (front : List Entry) × (back : List Entry) × (before ≡ front ++ p ∷ back)
      at = parted before p among

      written : IsLawfulKey k
      written = subst IsLawful puts (deeds.kept.lawful at.0 (at.1 ++ after) p (parts ∙ ap (λ es. es ++ after) at.2 ∙ append_assoc at.0 (p ∷ at.1) after))

      tiny : key_ulid k < 2 ^ 128
      tiny = subst (λ (u : ℕ). u < 2 ^ 128) (sym own) small

      by : (o : Option (List ℕ)) → stands before (key_text k) ≡ o → stands before (key_text k) ≡ Some bytes
      by (Some other) holds =
          let last = stood setting journal lawful deeds before after parts k tiny written other holds in
          let there : Contains before last.put = subst (λ es. Contains es last.put) (sym last.parts) (stands_in last.front last.back last.put) in
          let same : other ≡ bytes = one other (last.put.seq + 1) (last.put, inside last.put there, (last.puts).0, (last.puts).1, omega arith) in
          holds ∙ ap (λ (b : List ℕ). Some b) same
      by None holds =
          let gone = deleted_since setting journal lawful deeds before after parts k tiny written p bytes among (puts, landed) holds in
          absurd (nothing_deleted setting journal lawful deeds honest ulid timely before after parts meta_bytes is gone.delete k (subst (λ es. Contains es gone.delete) (sym gone.parts) (stands_in gone.before gone.after gone.delete)) own small gone.deletes)

  pub files_stand : (seq : ℕ) (files : BlockFiles) (bytes : List ℕ) → IsPutAs journal ulid seq files → stands before (key_text (key.Meta ulid)) ≡ Some bytes
      → (stands before (key_text (key.Index ulid)) ≡ Some files.index)
      × ((place : ℕ) (segment : List ℕ) → slice_get files.segments place ≡ Some segment → stands before (key_text (key.Segment ulid (place + 1))) ≡ Some segment)
  files_stand seq files bytes put is =
      let c = put.completed in
      let small : ulid < 2 ^ 128 = put_is_small setting journal deeds c.before c.after c.entry c.is lawful (key.Meta ulid) c.bytes c.puts in
      let early = put_early seq _ bytes c small is in (
        let i = put.index in key_stands (key.Index ulid) files.index bytes refl small is i.0 (early i.0 i.1 i.4) i.2 i.3 put.one_index,
        λ place segment named.
            let s = put.segments place segment named in
            key_stands (key.Segment ulid (place + 1)) segment bytes refl small is s.0 (early s.0 s.1 s.4) s.2 s.3
            (λ other number was. let both = sym (put.one_segment place other number was) ∙ named in cc (both)),
      )
