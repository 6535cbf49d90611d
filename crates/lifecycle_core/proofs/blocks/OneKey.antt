-- All puts under one key, marks aside, have the same bytes.
use Rattle.base.proofs.Membership.{into_filter, member_cases, no_member}
use Rattle.base.proofs.Pairs.{AllZip-second}
use Rattle.std.proofs.Common.{◌≡◌, inl, inr, ℕ, ◌+◌, ◌*◌, ◌%◌, ◌<◌, ◌≤◌, ◌^◌, ◌==◌, true, List, [], ◌∷◌, ◌++◌, length, Contains, Some, refl, sym, ◌∙◌, ap, subst, append_assoc, arith}
use Rattle.std.proofs.lemmas.Bool.Decides.{nat_tests}
use Rattle.std.proofs.lemmas.Bool.{le-leb}
use Rattle.std.proofs.lemmas.List.{length-append}
use Rattle.std.proofs.lemmas.List.Elements.{Contains-append_cases, Contains-append_left}
use Rattle.block_keys.specs.Keys.{key_ulid}
use Rattle.block_keys.specs.declared.key.Key.{Key}
use Rattle.block_keys.specs.declared.object.Object.{Object}
use Rattle.block_meta.specs.Built.{objects_of}
use Rattle.block_meta.specs.MetaFields.{fields_of}
use Rattle.block_meta.specs.MetaValue.{meta_text}
use Rattle.world_core.specs.declared.op.Op.TheVariants as op
use Rattle.world_core.specs.declared.entry.Entry.{Entry}
use Rattle.script_core.specs.Lawful.{IsLawfulScript}
use Rattle.script_fields.specs.Values.{is_reserved}
use Rattle.script_core.specs.declared.block.Block.{Block as Declared}
use Rattle.compactor.specs.NewBlocks.{new_ulid}
use Rattle.ulid_core.specs.Limits.{entropy_count}
use Rattle.ulid_core.specs.Reserved.{least_reserved, reserved_count}
use Rattle.lifecycle_core.specs.CompactionOps.{IsObjectMade, Stores}
use Rattle.world_core.specs.Journals.{of_seat}
use Rattle.lifecycle_core.specs.Held.{declared}
use Rattle.lifecycle_core.specs.Setting.{Setting}
use Rattle.lifecycle_core.specs.Shipped.{IsShipped}
use Rattle.lifecycle_core.specs.TimeRules.{IsBlockObject}
use Rattle.lifecycle_core.proofs.blocks.Declared.{declared_lawful, declared_ulid}
use Rattle.lifecycle_core.proofs.blocks.Objects.{object, object_is, object_once, object_ulid}
use Rattle.lifecycle_core.proofs.blocks.Readable.{is_readable}
use Rattle.lifecycle_core.proofs.blocks.Whole.{IsWholeBlock}
use Rattle.lifecycle_core.proofs.deeds.Orders.{IsEarlier, front_is_earlier, in_seat, lower_is_in_front, one_entry, ordered, stands_whole}
use Rattle.lifecycle_core.proofs.deeds.Sources.{IsSource, by_compaction, by_upload, object_source}
use Rattle.lifecycle_core.proofs.deeds.Words.{AreDeeds}
use Rattle.lifecycle_core.proofs.journals.Positions.{stands_in}
use Rattle.lifecycle_core.proofs.journals.Rising.{journal_rises}
use Rattle.lifecycle_core.proofs.journals.Standing.{parted}
use Rattle.lifecycle_core.proofs.journals.Told.{IsReadable, IsShippedObject, Rises}

-- ---- declared blocks

same_shipped : (setting : Setting) → IsReadable setting → (k : Key) (one other : List ℕ) → IsShippedObject setting k one → IsShippedObject setting k other → one ≡ other
same_shipped setting readable k one other first second =
    let blocks : second.block ≡ first.block = let both = sym second.is ∙ first.is in cc (both) in
    let also : IsShipped setting first.block second.objects = subst (λ (b : Declared). IsShipped setting b second.objects) blocks second.shipped in
    let objects : second.objects ≡ first.objects = readable.once (key_ulid k) first.block first.is second.objects first.objects also first.shipped in
    let w : IsWholeBlock setting first.block first.objects = readable.whole (key_ulid k) first.block first.is first.objects first.shipped in
    let is = object_is first.block.ulid w.segments w.index (meta_text w.meta) k in
    object_once first.block.ulid w.segments w.index (meta_text w.meta) k one other
    (is one (subst (λ os. Contains os (object k one)) w.are first.among))
    (is other (subst (λ os. Contains os (object k other)) w.are (subst (λ os. Contains os (object k other)) objects second.among)))

-- ---- new blocks

pub reserved_new : (number moment : ℕ) → is_reserved (new_ulid number (record { ms = moment })) ≡ true
reserved_new number moment = le-leb least_reserved (new_ulid number (record { ms = moment }) % entropy_count) (omega arith)

-- the number of an entry is told by a new block's ULID
pub same_number : (n m : ℕ) (t u : ℕ) → 1 ≤ n → n ≤ reserved_count → 1 ≤ m → m ≤ reserved_count
    → t * entropy_count + (least_reserved + n % reserved_count) ≡ u * entropy_count + (least_reserved + m % reserved_count) → n ≡ m
same_number n m t u low high little great same = omega (arith, low, high, little, great, same)

module _ (setting : Setting) (journal : List Entry) (lawful : IsLawfulScript setting.script) (deeds : AreDeeds setting journal) where
  rising : Rises journal
  rising = journal_rises setting.script.rules.tick.ms journal deeds.kept

  -- numbers lie within the journal's
  number_low : (x : Entry) → Contains journal x → (1 ≤ x.seq) × (x.seq ≤ 2 ^ 20)
  number_low x among =
      let at = parted journal x among in
      let number = deeds.kept.numbered at.0 at.1 x at.2 in
      (omega (arith, number), omega (arith, number, deeds.kept.few, ap (length {A = Entry}) at.2, length-append at.0 (x ∷ at.1)))

  module _ (before after : List Entry) (e : Entry) (parts : journal ≡ before ++ e ∷ after) (k : Key) (bytes : List ℕ) (m : IsObjectMade setting.script.rules (of_seat e.seat before) k bytes) where
    abbrev last : Entry
    last = (m.merged).last

    last_own : Contains (of_seat e.seat before) last
    last_own = subst (λ es. Contains es last) (sym m.parts) (Contains-append_left m.read (m.look ∷ m.puts) last (subst (λ es. Contains es last) (sym (m.merged).ends) (stands_in (m.merged).front [] last)))

    last_before : Contains before last × (last.seat ≡ e.seat)
    last_before = in_seat e.seat before last last_own

    last_in : Contains journal last
    last_in = subst (λ es. Contains es last) (sym parts) (Contains-append_left before (e ∷ after) last last_before.0)

    last_early : IsEarlier last e
    last_early = front_is_earlier before after e last (subst Rises parts rising) last_before.0

    abbrev all_objects : List Object
    all_objects = objects_of m.ulid (m.block).segments (m.block).index (meta_text (fields_of (m.block).meta))

    of_block : (k' : Key) (b : List ℕ) → Contains all_objects (object k' b) → key_ulid k' ≡ m.ulid
    of_block k' b inside = object_ulid m.ulid (m.block).segments (m.block).index (meta_text (fields_of (m.block).meta)) k' b (object_is m.ulid (m.block).segments (m.block).index (meta_text (fields_of (m.block).meta)) k' b inside)

    itself : Contains all_objects (object k bytes)
    itself = subst (λ os. Contains os (object k bytes)) (sym m.objects) (stands_in m.done m.left (object k bytes))

    ulid_is : key_ulid k ≡ m.ulid
    ulid_is = of_block k bytes itself

    once : (b : List ℕ) → Contains all_objects (object k b) → b ≡ bytes
    once b inside =
        object_once m.ulid (m.block).segments (m.block).index (meta_text (fields_of (m.block).meta)) k b bytes
        (object_is m.ulid (m.block).segments (m.block).index (meta_text (fields_of (m.block).meta)) k b inside)
        (object_is m.ulid (m.block).segments (m.block).index (meta_text (fields_of (m.block).meta)) k bytes itself)

  -- a new block's ULID is no declared one
  pub new_is_not_declared : (before after : List Entry) (e : Entry) (parts : journal ≡ before ++ e ∷ after) (k : Key) (bytes : List ℕ) → IsObjectMade setting.script.rules (of_seat e.seat before) k bytes
      → (block : Declared) → declared setting.script (key_ulid k) ≡ Some block → ⊥
  new_is_not_declared before after e parts k bytes m block is =
      let own : key_ulid k ≡ new_ulid (last before after e parts k bytes m).seq (last before after e parts k bytes m).moment = ulid_is before after e parts k bytes m ∙ (m.merged).ulid_is in
      let block_is : block.ulid ≡ key_ulid k = declared_ulid setting (key_ulid k) block is in
      let free = (declared_lawful setting (key_ulid k) block is lawful).not_reserved in
      let yes : is_reserved block.ulid ≡ true = ap is_reserved (block_is ∙ own) ∙ reserved_new (last before after e parts k bytes m).seq (last before after e parts k bytes m).moment.ms in
      cc (yes, free)

  pub not_declared : (before after : List Entry) (e : Entry) (parts : journal ≡ before ++ e ∷ after) (k : Key) (bytes other : List ℕ) → IsObjectMade setting.script.rules (of_seat e.seat before) k bytes → IsShippedObject setting k other → ⊥
  not_declared before after e parts k bytes other m s = new_is_not_declared before after e parts k bytes m s.block s.is

  -- two puts of one new block: the earlier one is among those before the later one
  module _ (before after : List Entry) (e : Entry) (parts : journal ≡ before ++ e ∷ after) (front back : List Entry) (x : Entry) (at : journal ≡ front ++ x ∷ back) (k other : Key) (bytes also : List ℕ) (one_block : key_ulid other ≡ key_ulid k) (puts : x.op ≡ op.Put other also)
      (m : IsObjectMade setting.script.rules (of_seat e.seat before) k bytes) (n : IsObjectMade setting.script.rules (of_seat x.seat front) other also) (early : IsEarlier x e) where
    same_last : last front back x at other also n ≡ last before after e parts k bytes m
    same_last =
        let one = last front back x at other also n in
        let two = last before after e parts k bytes m in
        let ulids : new_ulid one.seq one.moment ≡ new_ulid two.seq two.moment =
        sym (n.merged).ulid_is ∙ sym (ulid_is front back x at other also n) ∙ one_block ∙ ulid_is before after e parts k bytes m ∙ (m.merged).ulid_is in
        let a = number_low one (last_in front back x at other also n) in
        let b = number_low two (last_in before after e parts k bytes m) in
        one_entry journal rising one two (last_in front back x at other also n) (last_in before after e parts k bytes m) (same_number one.seq two.seq one.moment.ms two.moment.ms a.0 a.1 b.0 b.1 ulids)

    same_seat : x.seat ≡ e.seat
    same_seat = sym (last_before front back x at other also n).1 ∙ ap (λ (z : Entry). z.seat) same_last ∙ (last_before before after e parts k bytes m).1

    x_before : Contains before x
    x_before = lower_is_in_front before after e x (subst Rises parts rising) (subst (λ es. Contains es x) parts (subst (λ es. Contains es x) (sym at) (stands_in front back x))) early.0

    x_own : Contains (of_seat e.seat before) x
    x_own = let test : (x.seat == e.seat) ≡ true = grind (arith, nat_tests, same_seat) in into_filter (λ (z : Entry). z.seat == e.seat) before x x_before test

    -- it is not among what was read
    not_read : Contains m.read x → ⊥
    not_read inside =
        let later = last_early front back x at other also n in
        let lower : (last before after e parts k bytes m).seq < x.seq = subst (λ (z : Entry). z.seq < x.seq) same_last later.0 in
        elim (Contains-append_cases (m.merged).front ((m.merged).last ∷ []) x (subst (λ es. Contains es x) (m.merged).ends inside)) [
          | inl first ↦ absurd (front_lower first lower)
          | inr rest ↦ elim (member_cases (m.merged).last x [] rest) [
            | inl same ↦ absurd (omega (arith, lower, ap (λ (z : Entry). z.seq) same))
            | inr none ↦ absurd (no_member x none)
          ]
        ]
      where
        front_lower : Contains (m.merged).front x → (m.merged).last.seq < x.seq → ⊥
        front_lower first lower =
            let own_is : of_seat e.seat before ≡ (m.merged).front ++ (m.merged).last ∷ (m.look ∷ m.puts) = m.parts ∙ ap (λ es. es ++ m.look ∷ m.puts) (m.merged).ends ∙ append_assoc (m.merged).front ((m.merged).last ∷ []) (m.look ∷ m.puts) in
            let w = stands_whole e.seat before (m.merged).front (m.look ∷ m.puts) (m.merged).last own_is in
            let inside = (in_seat e.seat w.before x (subst (λ es. Contains es x) (sym w.own) first)).0 in
            let here : journal ≡ w.before ++ (m.merged).last ∷ (w.after ++ e ∷ after) = parts ∙ ap (λ es. es ++ e ∷ after) w.parts ∙ append_assoc w.before ((m.merged).last ∷ w.after) (e ∷ after) in
            let earlier = front_is_earlier w.before (w.after ++ e ∷ after) (m.merged).last x (subst Rises here rising) inside in
            omega (arith, earlier.0, lower)

    among_puts : Contains m.puts x
    among_puts = elim (Contains-append_cases m.read (m.look ∷ m.puts) x (subst (λ es. Contains es x) m.parts x_own)) [
      | inl first ↦ absurd (not_read first)
      | inr rest ↦ elim (member_cases m.look x m.puts rest) [
        | inl same ↦ absurd (let e' : op.Get _ ≡ op.Put other also = sym m.asks ∙ ap (λ (z : Entry). z.op) same ∙ puts in cc (e'))
        | inr later ↦ later
      ]
    ]

    -- so what the earlier one put is one of the objects that the block's puts before the later one stored
    pub in_done : Contains m.done (object other also)
    in_done =
        let o = AllZip-second Stores m.puts m.done x m.stored among_puts in
        let put_is : op.Put (o.0).key (o.0).bytes ≡ op.Put other also = sym (o.2).0 ∙ puts in
        let keys : (o.0).key ≡ other = cc (put_is) in
        let texts : (o.0).bytes ≡ also = cc (put_is) in
        subst (λ (y : Key). Contains m.done (object y also)) keys (subst (λ b. Contains m.done (object (o.0).key b)) texts o.1)

  earlier_same : (before after : List Entry) (e : Entry) (parts : journal ≡ before ++ e ∷ after) (front back : List Entry) (x : Entry) (at : journal ≡ front ++ x ∷ back) (k : Key) (bytes also : List ℕ) → x.op ≡ op.Put k also
      → (m : IsObjectMade setting.script.rules (of_seat e.seat before) k bytes) → IsObjectMade setting.script.rules (of_seat x.seat front) k also → IsEarlier x e → also ≡ bytes
  earlier_same before after e parts front back x at k bytes also puts m n early =
      let inside : Contains (all_objects before after e parts k bytes m) (object k also) =
      subst (λ os. Contains os (object k also)) (sym m.objects) (Contains-append_left m.done (object k bytes ∷ m.left) (object k also) (in_done before after e parts front back x at k k bytes also refl puts m n early)) in
      once before after e parts k bytes m also inside

  -- ---- all puts

  module _ (k : Key) (bytes also : List ℕ) (before after : List Entry) (e : Entry) (parts : journal ≡ before ++ e ∷ after) (front back : List Entry) (x : Entry) (at : journal ≡ front ++ x ∷ back) (puts : e.op ≡ op.Put k bytes) (too : x.op ≡ op.Put k also) where
    both_made : IsObjectMade setting.script.rules (of_seat e.seat before) k bytes → IsObjectMade setting.script.rules (of_seat x.seat front) k also → bytes ≡ also
    both_made m n = elim (ordered journal rising e x (subst (λ es. Contains es e) (sym parts) (stands_in before after e)) (subst (λ es. Contains es x) (sym at) (stands_in front back x))) [
      | inl (inl first) ↦ earlier_same front back x at before after e parts k also bytes puts n m first
      | inl (inr second) ↦ sym (earlier_same before after e parts front back x at k bytes also too m n second)
      | inr same ↦ let one : op.Put k bytes ≡ op.Put k also = sym puts ∙ ap (λ (z : Entry). z.op) same ∙ too in cc (one)
    ]

    by_sources : IsSource setting (of_seat e.seat before) k bytes → IsSource setting (of_seat x.seat front) k also → bytes ≡ also
    by_sources (by_upload s) (by_upload t) = same_shipped setting (is_readable setting lawful) k bytes also s.is t.is
    by_sources (by_upload s) (by_compaction n) = absurd (not_declared front back x at k also bytes n s.is)
    by_sources (by_compaction m) (by_upload t) = absurd (not_declared before after e parts k bytes also m t.is)
    by_sources (by_compaction m) (by_compaction n) = both_made m n

pub one_text : (setting : Setting) (journal : List Entry) → IsLawfulScript setting.script → AreDeeds setting journal → (one other : Entry) → Contains journal one → Contains journal other → (k : Key) (bytes also : List ℕ)
    → one.op ≡ op.Put k bytes → other.op ≡ op.Put k also → IsBlockObject k → bytes ≡ also
one_text setting journal lawful deeds one other among inside k bytes also puts too is_object =
    let a = parted journal one among in
    let b = parted journal other inside in
    by_sources setting journal lawful deeds k bytes also a.0 a.1 one a.2 b.0 b.1 other b.2 puts too
    (object_source setting journal deeds a.0 a.1 one a.2 k bytes puts is_object) (object_source setting journal deeds b.0 b.1 other b.2 k also too is_object)
