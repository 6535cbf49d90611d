-- What holds of an unbroken journal by the other words.
use Rattle.base.proofs.Membership.{of_filter}
use Rattle.std.proofs.Common.{◌≡◌, ◌<◌, ◌≤◌, ◌+◌, ◌*◌, ◌/◌, ◌==◌, ℕ, zero, suc, List, [], ◌∷◌, ◌++◌, Contains, Option, inl, inr, refl, sym, ◌∙◌, ap, subst, append-nil, append_assoc, arith}
use Rattle.std.specs.List.{All}
use Rattle.std.proofs.lemmas.List.Elements.{All-cons, All-nil, Contains-append_cases, Contains-append_right}
use Rattle.ulid_core.specs.Times.{time_of}
use Rattle.world_core.specs.Journals.{Each, of_seat}
use Rattle.world_core.specs.Moments.{HasMoments, last_moment, moment_after}
use Rattle.world_core.specs.declared.entry.Entry.{Entry}
use Rattle.world_core.specs.declared.op.Op.{Op}
use Rattle.world_core.specs.declared.op.Op.TheVariants as op
use Rattle.world_core.proofs.Growing.{last_more}
use Rattle.meta_fetcher.specs.declared.sync.SyncEnd.{SyncEnd}
use Rattle.meta_fetcher.specs.declared.view.View.{View}
use Rattle.moment_core.specs.declared.moment.Moment.{Moment}
use Rattle.lifecycle_core.specs.Breaches.{IsBreach, IsCallRead, IsCompactorSeat, IsKept, IsReadSince, IsSyncIn, IsUnbroken, IsViewAt, Rule, mark_time, read_time, sync_time, upload_time, view_time}
use Rattle.lifecycle_core.specs.Causes.{IsExplained}
use Rattle.lifecycle_core.specs.Setting.{Setting}
use Rattle.lifecycle_core.specs.TimeRules.{IsCompactionReadInTime, IsMarkedInTime, IsReadInTime, IsSyncedInTime, IsUploadedInTime, PutsMark, PutsObject}
use Rattle.lifecycle_core.proofs.journals.Positions.{unfilter}

pub explains_nothing : (setting : Setting) (journal : List Entry) (number : ℕ) → IsUnbroken setting journal → ¬ IsExplained setting journal number
explains_nothing setting journal number unbroken e = unbroken e.before e.after e.entry e.parts e.rule e.x e.y e.refused

pub has_no_breach : (setting : Setting) (journal : List Entry) (rule : Rule) (number x y : ℕ) → IsUnbroken setting journal → ¬ IsBreach setting journal rule number x y
has_no_breach setting journal rule number x y unbroken b = unbroken b.before b.after b.entry b.parts rule x y b.refused

-- what each entry gives by the entries before it, all give
all_of_each : (P : List Entry → Entry → Type 0) (Q : Entry → Type 0) → ((before : List Entry) (e : Entry) → P before e → Q e) → (before entries journal : List Entry) → journal ≡ before ++ entries → Each P journal → All Q entries
all_of_each P Q gives before [] journal is each = All-nil Q
all_of_each P Q gives before (e ∷ entries) journal is each =
    All-cons Q e entries (gives before e (each before entries e is)) (all_of_each P Q gives (before ++ e ∷ []) entries journal (is ∙ sym (append_assoc before (e ∷ []) entries)) each)

not_over : (is most : ℕ) → ¬ (most < is) → is ≤ most
not_over is most not = omega (arith, not)

-- ---- moments

pub after_more : (tick last : ℕ) (o : Op) → last ≤ moment_after tick last o
after_more tick last (op.Clock moment) = omega arith
after_more tick last (op.Put key bytes) = omega arith
after_more tick last (op.Get key) = omega arith
after_more tick last (op.GetRange key from len) = omega arith
after_more tick last (op.Delete key) = omega arith
after_more tick last (op.RootPage after limit) = omega arith
after_more tick last (op.BlockPage ulid after limit) = omega arith

only : (y x : Entry) → Contains (y ∷ []) x → y ≡ x
only y x (zero, below, is) = is
only y x (suc k, below, is) = absurd (omega (arith, below))

module _ (tick : ℕ) (journal : List Entry) (moments : HasMoments tick journal) where
  abbrev AreBelow : List Entry → Type 0
  AreBelow done = (x : Entry) → Contains done x → x.moment.ms ≤ last_moment done

  own_rises : (done rest : List Entry) (e : Entry) → journal ≡ done ++ e ∷ rest → AreBelow done → (x : Entry) → Contains done x → x.moment.ms ≤ e.moment.ms
  own_rises done rest e is below x among = omega (arith, below x among, after_more tick (last_moment done) e.op, moments done rest e is)

  one_more : (done rest : List Entry) (e : Entry) → journal ≡ done ++ e ∷ rest → AreBelow done → AreBelow (done ++ e ∷ [])
  one_more done rest e is below x among = elim (Contains-append_cases done (e ∷ []) x among) [
    | inl there ↦ omega (arith, own_rises done rest e is below x there, last_more done e)
    | inr here ↦ omega (arith, ap (λ (y : Entry). y.moment.ms) (only e x here), last_more done e)
  ]

  rises : (done rest : List Entry) → journal ≡ done ++ rest → AreBelow done → (front back : List Entry) (e : Entry) → rest ≡ front ++ e ∷ back → (x : Entry) → Contains (done ++ front) x → x.moment.ms ≤ e.moment.ms
  rises done rest is below [] back e same x among =
      own_rises done back e (is ∙ ap (λ (es : List Entry). done ++ es) same) below x (subst (λ (es : List Entry). Contains es x) (append-nil done) among)
  rises done rest is below (y ∷ front) back e same x among =
      let at : journal ≡ done ++ y ∷ (front ++ e ∷ back) = is ∙ ap (λ (es : List Entry). done ++ es) same in
      rises (done ++ y ∷ []) (front ++ e ∷ back) (at ∙ sym (append_assoc done (y ∷ []) (front ++ e ∷ back))) (one_more done (front ++ e ∷ back) y at below) front back e refl x
      (subst (λ (es : List Entry). Contains es x) (sym (append_assoc done (y ∷ []) front)) among)

  -- an entry is no earlier than one before it
  earlier : (front back : List Entry) (e : Entry) → journal ≡ front ++ e ∷ back → (x : Entry) → Contains front x → x.moment.ms ≤ e.moment.ms
  earlier front back e is x among = rises [] journal refl (λ x none. absurd (omega (arith, none.1))) front back e is x among

-- a list that has a first entry has a last one
pub ends_with : (e : Entry) (entries : List Entry) → (front : List Entry) × (last : Entry) × (e ∷ entries ≡ front ++ last ∷ [])
ends_with e [] = ([], e, refl)
ends_with e (x ∷ entries) = let rest = ends_with x entries in (e ∷ rest.0, rest.1, ap (λ (es : List Entry). e ∷ es) rest.2)

-- ---- the rules

module _ (setting : Setting) (journal : List Entry) (unbroken : IsUnbroken setting journal) where
  pub uploaded : (ulid : ℕ) → IsUploadedInTime setting.script.rules ulid journal
  uploaded ulid = all_of_each (IsKept setting journal) (λ e. PutsObject ulid e → (time_of ulid ≤ e.moment.ms) × (e.moment.ms ≤ time_of ulid + setting.script.rules.upload.ms)) (λ before e kept puts. (
    not_over (time_of ulid) e.moment.ms (λ over. kept upload_time (time_of ulid) e.moment.ms (ulid, puts, inl (refl, refl, over))),
    not_over e.moment.ms (time_of ulid + setting.script.rules.upload.ms) (λ over. kept upload_time e.moment.ms (time_of ulid + setting.script.rules.upload.ms) (ulid, puts, inr (refl, refl, over))),
  )) [] journal journal refl unbroken

  pub marked : (ulid : ℕ) → IsMarkedInTime setting.script.rules ulid journal
  marked ulid = all_of_each (IsKept setting journal) (λ e. (second : ℕ) → PutsMark ulid second e → e.moment.ms ≤ 1000 * second + setting.script.rules.ignore.ms) (λ before e kept second puts.
      not_over e.moment.ms (1000 * second + setting.script.rules.ignore.ms)
      (λ over. kept mark_time e.moment.ms (1000 * second + setting.script.rules.ignore.ms) (ulid, second, puts, (refl, refl, over)))) [] journal journal refl unbroken

  last_synced : (gateway : ℕ) (entries : List Entry) (end : Option SyncEnd) (first last : Entry) (others front : List Entry) → IsSyncIn setting journal gateway entries end → entries ≡ first ∷ others → entries ≡ front ++ last ∷ []
      → (last.moment.ms + 1000 ≤ first.moment.ms + setting.script.rules.ignore.ms)
      × ((one : List Entry) × (two : List Entry) × (journal ≡ one ++ last ∷ two) × ((x : Entry) → Contains front x → Contains one x))
  last_synced gateway entries end first last others front sync begins ends =
      let within : of_seat sync.seat journal ≡ (sync.sync.before ++ (front ++ last ∷ [])) ++ sync.sync.after = sync.sync.parts ∙ ap (λ (es : List Entry). (sync.sync.before ++ es) ++ sync.sync.after) ends in
      let moved : (sync.sync.before ++ (front ++ last ∷ [])) ++ sync.sync.after ≡ ((sync.sync.before ++ front) ++ last ∷ []) ++ sync.sync.after = ap (λ (es : List Entry). es ++ sync.sync.after) (sym (append_assoc sync.sync.before front (last ∷ []))) in
      let parts : of_seat sync.seat journal ≡ (sync.sync.before ++ front) ++ last ∷ sync.sync.after = within ∙ moved ∙ append_assoc (sync.sync.before ++ front) (last ∷ []) sync.sync.after in
      let at = unfilter (λ (e : Entry). e.seat == sync.seat) journal (sync.sync.before ++ front) sync.sync.after last parts in (
        not_over (last.moment.ms + 1000) (first.moment.ms + setting.script.rules.ignore.ms)
            (λ over. unbroken at.0 at.1 last at.2 sync_time (last.moment.ms + 1000) (first.moment.ms + setting.script.rules.ignore.ms) (entries, end, first, others, front, (gateway, sync), begins, ends, (refl, refl, over))),
        (
          at.0,
          at.1,
          at.2,
          λ x among. of_filter (λ (e : Entry). e.seat == sync.seat) at.0 x (subst (λ (es : List Entry). Contains es x) (sym at.3) (Contains-append_right sync.sync.before front x among)),
        ),
      )

  pub synced : (tick : ℕ) → HasMoments tick journal → (gateway : ℕ) (entries : List Entry) (end : Option SyncEnd) → IsSyncIn setting journal gateway entries end → IsSyncedInTime setting.script.rules entries
  synced tick moments gateway entries end sync first read others begins among =
      let tail = ends_with first others in
      let ends : entries ≡ tail.0 ++ tail.1 ∷ [] = begins ∙ tail.2 in
      let last = last_synced gateway entries end first tail.1 others tail.0 sync begins ends in
      let at = last.1 in
      elim (Contains-append_cases tail.0 (tail.1 ∷ []) read (subst (λ (es : List Entry). Contains es read) ends among)) [
        | inl there ↦ omega (arith, last.0, earlier tick journal moments at.0 at.1 tail.1 at.2 read (at.3 read there))
        | inr here ↦ omega (arith, last.0, ap (λ (e : Entry). e.moment.ms) (only tail.1 read here))
      ]

  pub read : (gateway : ℕ) (view : View) → Each (λ before e. IsCallRead setting gateway e → IsViewAt setting journal gateway e.seq view → IsReadInTime setting.script.rules view e) journal
  read gateway view before after e parts reads has =
      not_over (e.moment.ms + setting.script.rules.ignore.ms) (view.begin.ms + setting.script.rules.delete.ms)
      (λ over. unbroken before after e parts view_time (e.moment.ms + setting.script.rules.ignore.ms) (view.begin.ms + setting.script.rules.delete.ms) (view, (gateway, reads, has), (refl, refl, over)))

  pub compaction_read : (begin : Moment) → Each (λ before e. IsCompactorSeat setting e.seat → IsReadSince journal e.seat begin e → IsCompactionReadInTime setting.script.rules begin e) journal
  compaction_read begin before after e parts sits reads =
      not_over e.moment.ms (begin.ms + setting.script.rules.delete.ms / 2)
      (λ over. unbroken before after e parts read_time e.moment.ms (begin.ms + setting.script.rules.delete.ms / 2) (begin, (sits, reads), (refl, refl, over)))
