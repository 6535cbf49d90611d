-- Why a call misses an object.
use Rattle.base.proofs.Membership.{member_cases, no_member, of_filter, of_map}
use Rattle.std.proofs.Common.{◌≡◌, ◌⊎◌, inl, inr, ℕ, suc, ◌<◌, ◌^◌, List, [], ◌∷◌, ◌++◌, get_or, Contains, Option, Some, None, refl, sym, ◌∙◌, ap, subst, append_assoc, arith}
use Rattle.std.specs.List.{All, AllPairs, filter}
use Rattle.std.proofs.lemmas.List.Elements.{All-contains, Contains-append_cases, Contains-append_left}
use Rattle.block_keys.specs.Keys.{key_ulid}
use Rattle.block_keys.specs.KeyText.{key_text}
use Rattle.block_keys.specs.declared.key.Key.{Key}
use Rattle.bucket_core.specs.Contents.{Contents}
use Rattle.store_ranges.specs.Reads.{Block, Query as Question, block_of}
use Rattle.store_calls.specs.Asking.{IsReadOfOne}
use Rattle.store_calls.specs.LastEntries.{EndsWith}
use Rattle.store_calls.specs.SeriesCalls.{CallEnd, SeriesRun, meets, to_read}
use Rattle.store_calls.specs.declared.series_call.SeriesEnd.TheVariants as called
use Rattle.store_calls.proofs.CallLaws.{call_asks}
use Rattle.store_calls.proofs.LastAbsent.{call_present}
use Rattle.store_calls.proofs.ShownEnds.{shows_missing}
use Rattle.sync_filters.specs.declared.found.Found.{Found}
use Rattle.world_core.specs.Standing.{IsHonest}
use Rattle.world_core.specs.Worlds.{IsOfBytes}
use Rattle.world_core.specs.declared.op.Op.TheVariants as op
use Rattle.world_core.specs.declared.reply.Reply.{Reply}
use Rattle.world_core.specs.declared.reply.Reply.TheVariants as reply
use Rattle.world_core.specs.declared.entry.Entry.{Entry}
use Rattle.script_core.specs.Lawful.{IsLawfulScript}
use Rattle.lifecycle_core.specs.Breaches.{HoldsSamples, ReadsSamples, Watch, read_key, watched_call}
use Rattle.lifecycle_core.specs.Causes.{IsExplainedUnder}
use Rattle.lifecycle_core.specs.Holdings.{Use}
use Rattle.lifecycle_core.specs.PutBlocks.{WasPutBefore}
use Rattle.lifecycle_core.specs.Setting.{Setting}
use Rattle.lifecycle_core.specs.SyncsAndCalls.{IsCallIn, IsViewOf}
use Rattle.lifecycle_core.specs.Tasks.{sync_rules}
use Rattle.lifecycle_core.proofs.answers.KeptSources.{own_end}
use Rattle.lifecycle_core.proofs.answers.KeptCalls.{call_finds, ever, ever_was, held_found, lawful_read, read_of_block}
use Rattle.lifecycle_core.proofs.deeds.Orders.{front_is_earlier, lower_is_in_front}
use Rattle.lifecycle_core.proofs.deeds.Words.{AreDeeds, Cleans}
use Rattle.lifecycle_core.proofs.journals.Positions.{stands_in}
use Rattle.lifecycle_core.proofs.journals.Rising.{journal_rises}
use Rattle.lifecycle_core.proofs.journals.Standing.{parted}
use Rattle.lifecycle_core.proofs.journals.Told.{Rises}
use Rattle.lifecycle_core.proofs.misses.Deleted.{undeleted_is_found}
use Rattle.lifecycle_core.proofs.misses.ReadMisses.{bytes_upto, deeds_upto, explained, is_object, part_upto, sees}

-- where numbers rise, each before the last entry has a lower one
pairs_last : (front : List Entry) (last x : Entry) → AllPairs (λ (one other : Entry). one.seq < other.seq) (front ++ last ∷ []) → Contains front x → x.seq < last.seq
pairs_last [] last x pairs among = absurd (no_member x among)
pairs_last (y ∷ front) last x pairs among = elim (member_cases y x front among) [
  | inl same ↦
      let k = stands_in front [] last in
      let less : y.seq < (get_or (front ++ last ∷ []) k.0 last).seq = pairs 0 (suc k.0) last (omega arith) (let b = k.1 in omega (arith, b)) in
      let is : get_or (front ++ last ∷ []) k.0 last ≡ last = k.2 in
      subst (λ (z : Entry). z.seq < last.seq) same (subst (λ (z : Entry). y.seq < z.seq) is less)
  | inr later ↦ pairs_last front last x (λ i j d one two. pairs (suc i) (suc j) d (omega (arith, one)) (omega (arith, two))) later
]

-- behind an entry of the front stands one more
behind_one : (front rest : List Entry) (x last : Entry) → (y : Entry) × (more : List Entry) × (rest ++ last ∷ [] ≡ y ∷ more)
behind_one front [] x last = (last, [], refl)
behind_one front (z ∷ zs) x last = (z, zs ++ last ∷ [], refl)

module _ (setting : Setting) (journal : List Entry) (lawful : IsLawfulScript setting.script) (deeds : AreDeeds setting journal) (of_bytes : IsOfBytes journal) (gateway : ℕ) (used : Use) (sync : List Entry)
    (gave : IsViewOf (sync_rules setting gateway) journal used sync) (question : Question) (entries : List Entry) (number : ℕ) (call : IsCallIn journal used question entries (Some (called.Missing number))) where
  own : (end : CallEnd) × (call.own ≡ Some end) × (end.end ≡ called.Missing number)
  own = own_end call.own (called.Missing number) call.is

  came : SeriesRun used.view question call.cache entries (Some own.0)
  came = subst (SeriesRun used.view question call.cache entries) own.1 call.run

  ends : EndsWith entries number (λ (r : Reply). r ≡ reply.Absent)
  ends = shows_missing used.view question call.cache entries own.0 number came own.2

  abbrev e : Entry
  e = ends.last

  among : Contains entries e
  among = subst (λ (es : List Entry). Contains es e) (sym ends.parts) (stands_in ends.front [] e)

  at : (before : List Entry) × (after : List Entry) × (journal ≡ before ++ e ∷ after)
  at = parted journal e (call.among e among)

  later : used.last < e.seq
  later = All-contains (λ (x : Entry). used.last < x.seq) entries e call.later among

  asks : IsReadOfOne (to_read question used.view.kept) e.op
  asks = All-contains (λ (x : Entry). IsReadOfOne (to_read question used.view.kept) x.op) entries e (call_asks used.view question call.cache entries call.own call.run) among

  record IsMissed : Type 0 where
    found : Found
    kept : Contains used.view.kept found
    k : Key
    reads : read_key e.op ≡ Some k
    own_ulid : key_ulid k ≡ found.ulid
    holds : HoldsSamples k

  missed : IsMissed
  missed =
      let f = of_map (λ (b : Found). block_of b.ulid b.meta) (filter (meets question) used.view.kept) asks.0 asks.1 in
      let ulid : asks.0.ulid ≡ f.0.ulid = sym (ap (λ (b : Block). b.ulid) f.2) in
      let r = read_of_block asks.0.ulid e.op asks.2 in
      record { found = f.0; kept = of_filter (meets question) used.view.kept f.0 f.1; k = r.0; reads = r.1; own_ulid = r.2 ∙ ulid; holds = r.3 }

  abbrev k : Key
  k = missed.k

  abbrev upto : List Entry
  upto = at.0 ++ e ∷ []

  rises : Rises journal
  rises = journal_rises setting.script.rules.tick.ms journal deeds.kept

  in_upto : (x : Entry) → Contains journal x → x.seq < e.seq → Contains upto x
  in_upto x inside less = Contains-append_left at.0 (e ∷ []) x (lower_is_in_front at.0 at.1 e x (subst Rises at.2 rises) (subst (λ (es : List Entry). Contains es x) at.2 inside) less)

  own_front : (x : Entry) → Contains entries x → Contains ends.front x ⊎ (e ≡ x)
  own_front x inside = elim (Contains-append_cases ends.front (e ∷ []) x (subst (λ (es : List Entry). Contains es x) ends.parts inside)) [
    | inl front ↦ inl front
    | inr last ↦ elim (member_cases e x [] last) [ inl same ↦ inr same | inr none ↦ absurd (no_member x none) ]
  ]

  call_upto : (x : Entry) → Contains entries x → Contains upto x
  call_upto x inside = elim (own_front x inside) [
    | inl front ↦ in_upto x (call.among x inside) (pairs_last ends.front e x (subst (AllPairs (λ (one other : Entry). one.seq < other.seq)) ends.parts call.rising) front)
    | inr same ↦ subst (Contains upto) same (stands_in at.0 [] e)
  ]

  -- only the last one finds nothing
  absent_last : (x : Entry) → Contains entries x → x.reply ≡ reply.Absent → e ≡ x
  absent_last x inside absent = elim (own_front x inside) [
    | inr same ↦ same
    | inl front ↦
        let p = parted ends.front x front in
        let b = behind_one p.0 p.1 x e in
        let whole : entries ≡ p.0 ++ x ∷ (b.0 ∷ b.1) = ends.parts ∙ ap (λ (es : List Entry). es ++ e ∷ []) p.2 ∙ append_assoc p.0 (x ∷ p.1) (e ∷ []) ∙ ap (λ (es : List Entry). p.0 ++ x ∷ es) b.2 in
        absurd (call_present used.view question call.cache entries call.own call.run p.0 x b.0 b.1 whole absent)
  ]

  module _ (honest : IsHonest upto) where
    abbrev its : AreDeeds setting upto
    its = deeds_upto setting journal lawful deeds gateway used sync gave missed.found missed.kept at.0 at.1 e at.2 later k missed.holds missed.reads missed.own_ulid ends.replied

    abbrev put_so : Contents
    put_so = ever setting upto lawful its

    owed : put_so (key_text k) ≡ None → (x : Entry) → Contains entries x → x.reply ≡ reply.Absent → (other : Key) → read_key x.op ≡ Some other → put_so (key_text other) ≡ None
    owed none x inside absent other reads =
        let same = absent_last x inside absent in
        let both : Some other ≡ Some k = sym reads ∙ ap (λ (z : Entry). read_key z.op) (sym same) ∙ missed.reads in
        let keys : other ≡ k = cc (both) in
        ap (λ (z : Key). put_so (key_text z)) keys ∙ none

    was_put : (bytes : List ℕ) × WasPutBefore upto k bytes e.seq
    was_put = by (put_so (key_text k)) refl
      where
        small : key_ulid k < 2 ^ 128
        small = subst (λ (n : ℕ). n < 2 ^ 128) (sym missed.own_ulid)
            (held_found setting upto lawful its (bytes_upto setting journal lawful deeds gateway used sync gave missed.found missed.kept at.0 at.1 e at.2 later k missed.holds missed.reads missed.own_ulid ends.replied of_bytes) honest
            (sync_rules setting gateway) sync used.view
            (sees setting journal lawful deeds gateway used sync gave missed.found missed.kept at.0 at.1 e at.2 later k missed.holds missed.reads missed.own_ulid ends.replied)
            (part_upto setting journal lawful deeds gateway used sync gave missed.found missed.kept at.0 at.1 e at.2 later k missed.holds missed.reads missed.own_ulid ends.replied) missed.found missed.kept).small

        not_it : (p : Entry) (bytes : List ℕ) → p.op ≡ op.Put k bytes → e ≡ p → ⊥
        not_it p bytes puts same = let none : None ≡ Some k = ap read_key (sym puts) ∙ ap (λ (z : Entry). read_key z.op) (sym same) ∙ missed.reads in cc (none)

        by : (o : Option (List ℕ)) → put_so (key_text k) ≡ o → (bytes : List ℕ) × WasPutBefore upto k bytes e.seq
        by (Some bytes) is =
            let w = ever_was setting upto lawful its k bytes small (lawful_read e.op k missed.reads (deeds.kept.lawful at.0 at.1 e at.2)) is in
            elim (Contains-append_cases at.0 (e ∷ []) w.0 w.1) [
              | inl front ↦ let less = front_is_earlier at.0 at.1 e w.0 (subst Rises at.2 rises) front in (bytes, (w.0, w.1, w.2.0, w.2.1, less.0))
              | inr last ↦ elim (member_cases e w.0 [] last) [ inl same ↦ absurd (not_it w.0 bytes w.2.0 same) | inr none ↦ absurd (no_member w.0 none) ]
            ]
        by None none =
            absurd ((call_finds setting upto lawful its (bytes_upto setting journal lawful deeds gateway used sync gave missed.found missed.kept at.0 at.1 e at.2 later k missed.holds missed.reads missed.own_ulid ends.replied of_bytes) honest
            (sync_rules setting gateway) sync used.view
            (sees setting journal lawful deeds gateway used sync gave missed.found missed.kept at.0 at.1 e at.2 later k missed.holds missed.reads missed.own_ulid ends.replied)
            (part_upto setting journal lawful deeds gateway used sync gave missed.found missed.kept at.0 at.1 e at.2 later k missed.holds missed.reads missed.own_ulid ends.replied)
            question entries call_upto call.cache call.earlier
            (λ one inside.
            let known = All-contains (λ (z : Entry). Contains journal z × All (λ (x : Entry). z.seq < x.seq) entries) call.earlier one call.known inside in
            in_upto one known.0 (All-contains (λ (x : Entry). one.seq < x.seq) entries e known.1 among))
            call.cached call.reads call.own call.run (owed none) own.0 own.1 number).0 own.2)

  -- where nothing is deleted, it is found
  pub call_stands : IsHonest journal → ((seat : ℕ) → ¬ Cleans (deeds.deed seat)) → ⊥
  call_stands honest undeleted =
      let whole : journal ≡ upto ++ at.1 = at.2 ∙ sym (append_assoc at.0 (e ∷ []) at.1) in
      let honest_upto : IsHonest upto = λ front back x is. honest front (back ++ at.1) x (whole ∙ ap (λ (es : List Entry). es ++ at.1) is ∙ append_assoc front (x ∷ back) at.1) in
      let w = was_put honest_upto in
      let p = w.1 in
      undeleted_is_found setting journal lawful deeds honest at.0 at.1 e at.2 k (is_object k missed.holds) w.0 e.seq missed.reads undeleted
      (p.0, subst (λ (es : List Entry). Contains es p.0) (sym whole) (Contains-append_left upto at.1 p.0 p.1), p.2, p.3, p.4) ends.replied

  -- where it is watched, the journal shows why
  pub watched_explained : (watch : Watch) → ((x : Entry) → Contains entries x → ReadsSamples x → (front back : List Entry) → journal ≡ front ++ x ∷ back → IsHonest (front ++ x ∷ []) → watch.reads x used.view) → IsExplainedUnder setting watch journal number
  watched_explained watch watches =
      subst (IsExplainedUnder setting watch journal) ends.is
      (explained setting journal lawful deeds gateway used sync gave missed.found missed.kept at.0 at.1 e at.2 later k missed.holds missed.reads missed.own_ulid ends.replied watch
      (watches e among (k, missed.reads, missed.holds) at.0 at.1 at.2) of_bytes was_put)

  pub call_explained : IsExplainedUnder setting (watched_call used sync entries) journal number
  call_explained = watched_explained (watched_call used sync entries) (λ x inside samples front back parts honest. (inside, samples, refl))
