-- An upload's steps are those of its plan.
use Rattle.std.proofs.Common.{◌≡◌, ℕ, ◌<◌, ◌+◌, ◌-◌, zero, suc, ◌==◌, Bool, true, false, List, [], ◌∷◌, length, drop, refl, sym, ◌∙◌, ap, subst, inr, arith, Some, None, Ok}
use Rattle.std.specs.Prelude.{IsSomeAnd}
use Rattle.std.proofs.lemmas.Bool.{and_parts, eqb-true}
use Rattle.shipper.specs.Limits.{have_lawful_keys, begun}
use Rattle.std.proofs.lemmas.List.{drop_all, length-drop}
use Rattle.block_keys.specs.Keys.{IsLawfulKey, is_lawful_key}
use Rattle.block_keys.specs.declared.key.Key.{Key}
use Rattle.block_keys.specs.declared.key.Key.TheVariants as key
use Rattle.block_keys.specs.declared.object.Object.{Object}
use Rattle.block_keys.proofs.LawfulKeys.{lawful_key}
use Rattle.world_core.proofs.LeadSteps.{on_entry, opens_by, steps_by}
use Rattle.world_core.proofs.PlanLaws.{answered, breaks_off}
use Rattle.world_core.proofs.Replies.{answer_of}
use Rattle.world_core.specs.Leads.{LeadsBy, after_entry, does}
use Rattle.world_core.specs.Machines.{GoesOn, Falls}
use Rattle.world_core.specs.Operations.{IsAnswer, IsReplyTo, IsLawful, entry_of}
use Rattle.world_core.specs.Plans.{Runs, ends, after_get, after_put, asked}
use Rattle.world_core.specs.declared.op.Op.{Op}
use Rattle.world_core.specs.declared.op.Op.TheVariants as op
use Rattle.world_core.specs.declared.reply.Reply.{Reply}
use Rattle.world_core.specs.declared.reply.Reply.TheVariants as reply
use Rattle.world_core.specs.declared.seen.Seen.{Seen}
use Rattle.world_core.specs.declared.act.Act.{Act}
use Rattle.world_core.specs.declared.act.Act.TheVariants.{Do, Done as Over}
use Rattle.shipper.specs.UploadStates.{PutsNext, asked_upload, count_at, left_at, left_of}
use Rattle.shipper.specs.Uploads.{putting}
use Rattle.shipper.specs.contracts.upload.UploadMachine.TheImpl.{ghosts}
use Rattle.shipper.specs.declared.upload.Stage.{Stage}
use Rattle.shipper.specs.declared.upload.Stage.TheVariants.{Looking, Putting}
use Rattle.shipper.specs.declared.upload.Upload.{Upload}
use Rattle.shipper.specs.declared.upload.UploadEnd.{UploadEnd}
use Rattle.shipper.specs.declared.upload.UploadEnd.TheVariants.{Done, Already, Fault}
use Rattle.base.proofs.Numbers.{above_zero}

-- the object at a place, with what is left behind it
record ObjectAt (objects : List Object) (place : ℕ) : Type 0 where
  object : Object
  split : drop place objects ≡ object ∷ drop (place + 1) objects
  lawful : have_lawful_keys objects ≡ true → IsLawfulKey object.key

object_at : (objects : List Object) (place : ℕ) → place < length objects → ObjectAt objects place
object_at [] place lt = absurd (omega arith)
object_at (o ∷ os) zero lt = record { object = o; split = refl; lawful = λ keys. lawful_key o.key (and_parts (is_lawful_key o.key) (have_lawful_keys os) keys).0 }
object_at (o ∷ os) (suc place) lt =
    let at : ObjectAt os place = object_at os place (omega arith) in
    let one : suc place + 1 ≡ suc (place + 1) = omega arith in
    record {
      object = at.object;
      split = at.split ∙ ap (λ n. at.object ∷ drop n (o ∷ os)) (sym one);
      lawful = λ keys. at.lawful (and_parts (is_lawful_key o.key) (have_lawful_keys os) keys).1;
    }

-- what is left begins with the operation that is waited for
asks_own : (u : Upload) (o : Op) → asked_upload u ≡ Some o → asked (left_of u) ≡ Some o
asks_own u o is = is

-- it may be stopped wherever it stands, and as soon as its operation is answered
pub rests : (u : Upload) → ghosts.may u [] None u
rests u = breaks_off (left_of u)

pub answers : (u : Upload) (seat : ℕ) (o : Op) (seen : Seen) → ghosts.asked u ≡ Some o → ghosts.may u (entry_of seat o seen ∷ []) None u
answers u seat o seen is = answered (left_of u) (entry_of seat o seen) is

-- what waits, from the object at the place on
pub waits_first : (stage : Stage) (objects waiting : List Object) (at place : ℕ) → waiting ≡ drop (begun stage at) objects → begun stage at ≡ place → waiting ≡ drop place objects
waits_first stage objects waiting at place rest next = rest ∙ ap (λ (n : ℕ). drop n objects) next

pub some_wait : (objects waiting : List Object) (place : ℕ) → waiting ≡ drop place objects → place < length objects → 0 < length waiting
some_wait objects waiting place rest lt = omega (arith, ap length rest, length-drop place objects)

-- what waits behind it
pub waits_behind : (objects waiting : List Object) (place : ℕ) (object : Object) → place < length objects → drop place objects ≡ object ∷ waiting → waiting ≡ drop (place + 1) objects
waits_behind objects waiting place object lt is = ap (drop 1) (sym is ∙ (object_at objects place lt).split)

-- the last object leaves none that waits
pub last_is : (objects waiting : List Object) (place count : ℕ) (empty : Bool) → waiting ≡ drop (place + 1) objects → place < length objects → count ≡ length waiting → empty ≡ (count == 0) → empty ≡ true → place + 1 ≡ length objects
last_is objects waiting place count empty rest within many is yes' =
    let none : count ≡ 0 = eqb-true count 0 (sym is ∙ yes') in
    omega (arith, none, many, ap length rest, length-drop (place + 1) objects)

-- and any other does
pub more_wait : (objects waiting : List Object) (place count : ℕ) (empty : Bool) → waiting ≡ drop (place + 1) objects → count ≡ length waiting → empty ≡ (count == 0) → empty ≡ false → place + 1 < length objects
more_wait objects waiting place count empty rest many is no' =
    let some : 0 < count = above_zero count (sym is ∙ no') in
    omega (arith, some, many, ap length rest, length-drop (place + 1) objects)

-- its put is what the plan asks for
pub asks_put : (objects waiting : List Object) (place : ℕ) (object : Object) → drop place objects ≡ object ∷ waiting → asked (putting (length objects) (drop place objects)) ≡ Some (op.Put object.key object.bytes)
asks_put objects waiting place object is = ap (λ l. asked (putting (length objects) l)) is

-- a call that asks for the put at the place
leads_put : (new : Upload) (objects : List Object) (place : ℕ) (act : Act UploadEnd)
    → PutsNext objects place act → new.stage ≡ Putting → new.objects.value.items ≡ objects → new.place ≡ place
    → LeadsBy left_of asked_upload (putting (length objects) (drop place objects)) (Ok act) new
leads_put new objects place (Do o) puts waits same_objects same_place =
    let kept : place < length objects = subst (λ n. n < length objects) same_place (subst (λ (l : List Object). new.place < length l) same_objects new.within) in
    let at : ObjectAt objects place = object_at objects place kept in
    let keys : IsLawfulKey at.object.key = at.lawful (ap have_lawful_keys (sym same_objects) ∙ new.keys) in
    let is : Some (op.Put at.object.key at.object.bytes) ≡ Some o = ap (λ l. asked (putting (length objects) l)) (sym at.split) ∙ puts in
    let put : op.Put at.object.key at.object.bytes ≡ o = cc (is) in
    let left : left_of new ≡ putting (length objects) (drop place objects) =
    ap (λ s. left_at s new.ulid new.objects.value.items new.place) waits
    ∙ ap (λ (l : List Object). putting (length l) (drop new.place l)) same_objects ∙ ap (λ n. putting (length objects) (drop n objects)) same_place in
    record {
      lawful = subst IsLawful put keys;
      asks = ap asked left ∙ puts;
      onward = λ entries end run. subst (λ p. Runs p entries end) left run;
    }
leads_put new objects place (Over end) puts waits same_objects same_place = absurd puts

-- and its count falls
pub falls_put : (count : ℕ) (new : Upload) (objects : List Object) (place : ℕ) (act : Act UploadEnd)
    → PutsNext objects place act → new.stage ≡ Putting → new.objects.value.items ≡ objects → new.place ≡ place
    → length objects - place < count → Falls count (Ok act) (count_at new.stage new.objects.value.items new.place)
falls_put count new objects place (Do o) puts waits same_objects same_place less =
    let is : count_at new.stage new.objects.value.items new.place ≡ length objects - place =
    ap (λ s. count_at s new.objects.value.items new.place) waits ∙ ap (λ (l : List Object). length l - new.place) same_objects ∙ ap (λ n. length objects - n) same_place in
    omega (arith, is)
falls_put count new objects place (Over end) puts waits same_objects same_place less = tt

-- ---- the look

absent_reply : (k : Key) (r : Reply) → IsReplyTo (op.Get k) r → ((b : List ℕ) → r ≡ reply.Found b → ⊥) → ((l : Bool) → r ≡ reply.Failed l → ⊥) → r ≡ reply.Absent
absent_reply k reply.Absent kind found failed = refl
absent_reply k (reply.Found b) kind found failed = absurd (found b refl)
absent_reply k (reply.Failed l) kind found failed = absurd (failed l refl)
absent_reply k reply.Clocked kind found failed = absurd kind
absent_reply k reply.Stored kind found failed = absurd kind
absent_reply k reply.Deleted kind found failed = absurd kind
absent_reply k (reply.Names ns) kind found failed = absurd kind

-- the look is asked for
pub asks_look : (u : Upload) → u.stage ≡ Looking → GoesOn (does left_of) asked_upload u [] (Ok (Do (op.Get (key.Meta u.ulid)))) u
asks_look u looking = opens_by left_of asked_upload asks_own u u (Ok (Do (op.Get (key.Meta u.ulid)))) (record {
  lawful = tt;
  asks = ap (λ s. asked (left_at s u.ulid u.objects.value.items u.place)) looking;
  onward = λ entries end run. run;
})

-- after a look that found nothing, the first put
pub look_goes : (u new : Upload) (seat : ℕ) (o : Op) (seen : Seen) (act : Act UploadEnd) → u.stage ≡ Looking
    → IsSomeAnd (asked_upload u) (λ p. IsAnswer p seen) → ((b : List ℕ) → seen.reply ≡ reply.Found b → ⊥) → ((l : Bool) → seen.reply ≡ reply.Failed l → ⊥)
    → PutsNext u.objects.value.items 0 act → new.stage ≡ Putting → new.objects.value.items ≡ u.objects.value.items → new.place ≡ 0
    → asked_upload u ≡ Some o → GoesOn (does left_of) asked_upload u (entry_of seat o seen ∷ []) (Ok act) new
look_goes u new seat o seen act looking answer found failed puts waits same_objects same_place asks =
    let is : Some o ≡ Some (op.Get (key.Meta u.ulid)) = sym asks ∙ ap (λ s. asked (left_at s u.ulid u.objects.value.items u.place)) looking in
    let get : o ≡ op.Get (key.Meta u.ulid) = cc (is) in
    let kind : IsReplyTo (op.Get (key.Meta u.ulid)) seen.reply = subst (λ p. IsReplyTo p seen.reply) get (answer_of seen (asked_upload u) o answer asks).kind in
    let absent : seen.reply ≡ reply.Absent = absent_reply (key.Meta u.ulid) seen.reply kind found failed in
    let left : after_entry (left_of u) (entry_of seat o seen) ≡ putting (length u.objects.value.items) u.objects.value.items =
    ap (λ s. after_entry (left_at s u.ulid u.objects.value.items u.place) (entry_of seat o seen)) looking
    ∙ ap (λ q. after_get q (λ bytes. ends Already) (putting (length u.objects.value.items) u.objects.value.items) (ends (Fault seen.seq))) absent in
    steps_by left_of asked_upload asks_own u new seat o seen (Ok act) asks
    (subst (λ p. LeadsBy left_of asked_upload p (Ok act) new) (sym left) (leads_put new u.objects.value.items 0 act puts waits same_objects same_place))

-- ---- the puts

stored_reply : (o : Op) (k : Key) (bytes : List ℕ) (r : Reply) → o ≡ op.Put k bytes → IsReplyTo o r → ((l : Bool) → r ≡ reply.Failed l → ⊥) → r ≡ reply.Stored
stored_reply o k bytes r is kind failed = stored r (subst (λ p. IsReplyTo p r) is kind) failed
  where
    stored : (r : Reply) → IsReplyTo (op.Put k bytes) r → ((l : Bool) → r ≡ reply.Failed l → ⊥) → r ≡ reply.Stored
    stored reply.Stored kind failed = refl
    stored (reply.Failed l) kind failed = absurd (failed l refl)
    stored reply.Absent kind failed = absurd kind
    stored (reply.Found b) kind failed = absurd kind
    stored reply.Clocked kind failed = absurd kind
    stored reply.Deleted kind failed = absurd kind
    stored (reply.Names ns) kind failed = absurd kind

-- what follows a put, by its reply
after_this : (u : Upload) (seat : ℕ) (o : Op) (seen : Seen) → u.stage ≡ Putting
    → after_entry (left_of u) (entry_of seat o seen) ≡ after_put seen.reply (putting (length u.objects.value.items) (drop (u.place + 1) u.objects.value.items)) (ends (Fault seen.seq))
after_this u seat o seen putting' =
    let at : ObjectAt u.objects.value.items u.place = object_at u.objects.value.items u.place u.within in
    ap (λ s. after_entry (left_at s u.ulid u.objects.value.items u.place) (entry_of seat o seen)) putting'
    ∙ ap (λ l. after_entry (putting (length u.objects.value.items) l) (entry_of seat o seen)) at.split

-- an end to which this reply leads
comes_to : (u : Upload) (seat : ℕ) (o : Op) (seen : Seen) (r : Reply) (end : UploadEnd) → u.stage ≡ Putting → asked_upload u ≡ Some o → seen.reply ≡ r
    → Runs (after_put r (putting (length u.objects.value.items) (drop (u.place + 1) u.objects.value.items)) (ends (Fault seen.seq))) [] (Some end)
    → Runs (left_of u) (entry_of seat o seen ∷ []) (Some end)
comes_to u seat o seen r end putting' asks is run =
    let left : after_entry (left_of u) (entry_of seat o seen) ≡ after_put r (putting (length u.objects.value.items) (drop (u.place + 1) u.objects.value.items)) (ends (Fault seen.seq)) =
    after_this u seat o seen putting' ∙ ap (λ q. after_put q (putting (length u.objects.value.items) (drop (u.place + 1) u.objects.value.items)) (ends (Fault seen.seq))) is in
    on_entry (left_of u) (entry_of seat o seen) [] (Some end) asks (subst (λ p. Runs p [] (Some end)) (sym left) run)

-- a put that failed
pub put_fails : (u : Upload) (seat : ℕ) (o : Op) (seen : Seen) (landed : Bool) → u.stage ≡ Putting → asked_upload u ≡ Some o → seen.reply ≡ reply.Failed landed
    → Runs (left_of u) (entry_of seat o seen ∷ []) (Some (Fault seen.seq))
put_fails u seat o seen landed putting' asks failed = comes_to u seat o seen (reply.Failed landed) (Fault seen.seq) putting' asks failed (refl, inr refl)

module _ (u : Upload) (seat : ℕ) (o : Op) (seen : Seen) (putting' : u.stage ≡ Putting) (answer : IsSomeAnd (asked_upload u) (λ p. IsAnswer p seen)) (failed : (l : Bool) → seen.reply ≡ reply.Failed l → ⊥) (asks : asked_upload u ≡ Some o) where
  was_stored : seen.reply ≡ reply.Stored
  was_stored =
      let at : ObjectAt u.objects.value.items u.place = object_at u.objects.value.items u.place u.within in
      let is : Some o ≡ Some (op.Put at.object.key at.object.bytes) =
      sym asks ∙ ap (λ s. asked (left_at s u.ulid u.objects.value.items u.place)) putting' ∙ ap (λ l. asked (putting (length u.objects.value.items) l)) at.split in
      stored_reply o at.object.key at.object.bytes seen.reply (cc (is)) (answer_of seen (asked_upload u) o answer asks).kind failed

  -- the last put was stored
  pub put_last : u.place + 1 ≡ length u.objects.value.items → Runs (left_of u) (entry_of seat o seen ∷ []) (Some (Done (u.place + 1)))
  put_last last =
      comes_to u seat o seen reply.Stored (Done (u.place + 1)) putting' asks was_stored
      (subst (λ (l : List Object). Runs (putting (length u.objects.value.items) l) [] (Some (Done (u.place + 1)))) (sym (drop_all (u.place + 1) u.objects.value.items (omega arith)))
      (refl, inr (ap (λ n. Some (Done n)) last)))

  -- the next put follows one that was stored
  pub put_goes : (new : Upload) (act : Act UploadEnd) → PutsNext u.objects.value.items (u.place + 1) act → new.stage ≡ Putting
      → new.objects.value.items ≡ u.objects.value.items → new.place ≡ u.place + 1 → GoesOn (does left_of) asked_upload u (entry_of seat o seen ∷ []) (Ok act) new
  put_goes new act puts waits same_objects same_place =
      let left : after_entry (left_of u) (entry_of seat o seen) ≡ putting (length u.objects.value.items) (drop (u.place + 1) u.objects.value.items) =
      after_this u seat o seen putting' ∙ ap (λ q. after_put q (putting (length u.objects.value.items) (drop (u.place + 1) u.objects.value.items)) (ends (Fault seen.seq))) was_stored in
      steps_by left_of asked_upload asks_own u new seat o seen (Ok act) asks
      (subst (λ p. LeadsBy left_of asked_upload p (Ok act) new) (sym left) (leads_put new u.objects.value.items (u.place + 1) act puts waits same_objects same_place))
