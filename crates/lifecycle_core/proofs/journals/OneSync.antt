-- Two syncs of a journal whose last reads are one entry are one sync.
use Rattle.std.proofs.Common.{◌≡◌, ℕ, ◌+◌, ◌<◌, ◌≤◌, ◌==◌, List, [], ◌∷◌, ◌++◌, length, Contains, Option, sym, ◌∙◌, ap, subst, append_assoc, append-nil, arith}
use Rattle.std.specs.List.{All}
use Rattle.std.proofs.lemmas.List.{length-append}
use Rattle.std.proofs.lemmas.List.Elements.{All-contains}
use Rattle.world_core.specs.declared.entry.Entry.{Entry}
use Rattle.meta_fetcher.specs.Syncs.{SyncRun}
use Rattle.meta_fetcher.specs.declared.sync.SyncEnd.{SyncEnd}
use Rattle.lifecycle_core.specs.Breaches.{IsSyncIn}
use Rattle.world_core.specs.Journals.{of_seat}
use Rattle.lifecycle_core.specs.Setting.{Setting}
use Rattle.lifecycle_core.specs.SyncsAndCalls.{IsSyncBy}
use Rattle.lifecycle_core.specs.Tasks.{sync_rules}
use Rattle.lifecycle_core.proofs.journals.Positions.{stands_in}
use Rattle.lifecycle_core.proofs.journals.Told.{Rises}
use Rattle.lifecycle_core.proofs.phases.Stretches.{all_of_seat, rises_filter, rises_right}
use Rattle.lifecycle_core.proofs.deeds.Orders.{one_place}

-- ---- an entry stands once

not_behind_itself : (e : Entry) (entries : List Entry) → All (λ (x : Entry). (e.seq < x.seq) × (e.moment.ms ≤ x.moment.ms)) entries → ¬ Contains entries e
not_behind_itself e entries all among = let follows = All-contains (λ (x : Entry). (e.seq < x.seq) × (e.moment.ms ≤ x.moment.ms)) entries e all among in absurd (omega (arith, follows.0))

no_second : (front back also behind more : List Entry) (e : Entry) → Rises (front ++ e ∷ back) → also ≡ front ++ more → e ∷ back ≡ more ++ e ∷ behind → front ≡ also
no_second front back also behind [] e rises begins goes = sym (begins ∙ append-nil front)
no_second front back also behind (x ∷ more) e rises begins goes =
    let rest : back ≡ more ++ e ∷ behind = cc (goes) in
    absurd (not_behind_itself e back (rises_right front (e ∷ back) rises).0 (subst (λ (es : List Entry). Contains es e) (sym rest) (stands_in more behind e)))

-- lists that begin as long are parted alike
same_fronts : (one other rest more : List Entry) → length one ≡ length other → one ++ rest ≡ other ++ more → rest ≡ more
same_fronts [] [] rest more n is = is
same_fronts [] (y ∷ other) rest more n is = absurd (omega (arith, n))
same_fronts (x ∷ one) [] rest more n is = absurd (omega (arith, n))
same_fronts (x ∷ one) (y ∷ other) rest more n is = same_fronts one other rest more (omega (arith, n)) (cc (is))

-- ---- two syncs

module _ (setting : Setting) (journal : List Entry) (rises : Rises journal) (e : Entry) where
  -- the parts of a seat around the last read of a sync
  around : (seat : ℕ) (before entries front after : List Entry) → of_seat seat journal ≡ (before ++ entries) ++ after → entries ≡ front ++ e ∷ [] → of_seat seat journal ≡ (before ++ front) ++ e ∷ after
  around seat before entries front after parts ends =
      parts ∙ ap (λ (es : List Entry). (before ++ es) ++ after) ends ∙ ap (λ (es : List Entry). es ++ after) (sym (append_assoc before front (e ∷ []))) ∙ append_assoc (before ++ front) (e ∷ []) after

  seat_is : (seat : ℕ) (front after : List Entry) → of_seat seat journal ≡ front ++ e ∷ after → e.seat ≡ seat
  seat_is seat front after parts = All-contains (λ (x : Entry). x.seat ≡ seat) (of_seat seat journal) e (all_of_seat seat journal) (subst (λ (es : List Entry). Contains es e) (sym parts) (stands_in front after e))

  module _ (gateway also : ℕ) (entries others front begin : List Entry) (end own : Option SyncEnd) (s : IsSyncIn setting journal gateway entries end) (t : IsSyncIn setting journal also others own) (ends : entries ≡ front ++ e ∷ []) (stops : others ≡ begin ++ e ∷ []) where
    first_parts : of_seat s.seat journal ≡ (s.sync.before ++ front) ++ e ∷ s.sync.after
    first_parts = around s.seat s.sync.before entries front s.sync.after s.sync.parts ends

    second_parts : of_seat t.seat journal ≡ (t.sync.before ++ begin) ++ e ∷ t.sync.after
    second_parts = around t.seat t.sync.before others begin t.sync.after t.sync.parts stops

    pub same_seat : s.seat ≡ t.seat
    same_seat = sym (seat_is s.seat (s.sync.before ++ front) s.sync.after first_parts) ∙ seat_is t.seat (t.sync.before ++ begin) t.sync.after second_parts

    same_front : s.sync.before ++ front ≡ t.sync.before ++ begin
    same_front = one_place (s.sync.before ++ front) s.sync.after (t.sync.before ++ begin) t.sync.after e
        (subst Rises first_parts (rises_filter (λ (x : Entry). x.seat == s.seat) journal rises))
        (sym first_parts ∙ ap (λ (n : ℕ). of_seat n journal) same_seat ∙ second_parts)

    lengths : length s.sync.before + length front ≡ length t.sync.before + length begin
    lengths = sym (length-append s.sync.before front) ∙ ap (length {A = Entry}) same_front ∙ length-append t.sync.before begin

    -- the one as a sync of the other's seat, where both are one gateway's
    moved : gateway ≡ also → IsSyncBy (sync_rules setting also) journal t.seat entries end
    moved whose = record { before = s.sync.before; after = s.sync.after; parts = ap (λ (n : ℕ). of_seat n journal) (sym same_seat) ∙ s.sync.parts; run = subst (λ (n : ℕ). SyncRun (sync_rules setting n) entries end) whose s.sync.run; whole = s.sync.whole }

    not_earlier : gateway ≡ also → ¬ (length s.sync.before < length t.sync.before)
    unfolding moved
    not_earlier whose less =
        let most = t.alone entries end (moved whose) less in
        let long : length entries ≡ length front + 1 = ap (length {A = Entry}) ends ∙ length-append front (e ∷ []) in
        absurd (omega (arith, most, long, lengths))

-- ---- the one sync

module _ (setting : Setting) (journal : List Entry) (rises : Rises journal) (e : Entry) (gateway also : ℕ) (entries others front begin : List Entry) (end own : Option SyncEnd) (s : IsSyncIn setting journal gateway entries end) (t : IsSyncIn setting journal also others own)
    (ends : entries ≡ front ++ e ∷ []) (stops : others ≡ begin ++ e ∷ []) (whose : gateway ≡ also) where
  same_length : length s.sync.before ≡ length t.sync.before
  same_length =
      let one = not_earlier setting journal rises e gateway also entries others front begin end own s t ends stops whose in
      let other = not_earlier setting journal rises e also gateway others entries begin front own end t s stops ends (sym whose) in
      omega (arith, one, other)

  pub one_sync : entries ≡ others
  one_sync =
      let parts : front ≡ begin = same_fronts s.sync.before t.sync.before front begin same_length (same_front setting journal rises e gateway also entries others front begin end own s t ends stops) in
      ends ∙ ap (λ (es : List Entry). es ++ e ∷ []) parts ∙ sym stops
