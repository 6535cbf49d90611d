-- What a bucket was asked, over plain variables.
use Rattle.std.proofs.Common.{◌≡◌, inl, inr, ℕ, List, [], ◌∷◌, ◌++◌, Option, Some, None, IfSome, refl, sym, ap, subst, ◌∙◌, append_assoc, append-nil}
use Rattle.std.specs.Prelude.{◌≢◌, Result, Ok, Err}
use Rattle.std.proofs.lemmas.List.Concat.{flat_map-append}
use Rattle.base.specs.declared.memory.NoMemory.{NoMemory}
use Rattle.bucket_core.specs.Asking.{Call, Asks, AsksOnce}
use Rattle.bucket_core.specs.Told.{BucketTold}
use Rattle.world_core.specs.Asking.{calls_for, calls_of, opening, AsksIn, AsksBy, IsAllAsked}
use Rattle.world_core.specs.Machines.{gained}
use Rattle.world_core.specs.Operations.{entry_of}
use Rattle.world_core.specs.Worlds.{WorldView}
use Rattle.world_core.specs.declared.op.Op.{Op}
use Rattle.world_core.specs.declared.reply.Reply.{Reply}
use Rattle.world_core.specs.declared.entry.Entry.{Entry}
use Rattle.world_core.specs.declared.act.Acted.{Acted}
use Rattle.world_core.specs.declared.act.Acted.TheVariants as answer

none_since : (told : Option (List Call)) → IfSome told (λ before. told ≡ Some (before ++ []))
none_since None = tt
none_since (Some before) = ap (λ (calls : List Call). Some calls) (sym (append-nil before))

told_more : (old new : Option (List Call)) (calls since : List Call) → IfSome old (λ before. new ≡ Some (before ++ since)) → old ≡ Some calls → new ≡ Some (calls ++ since)
told_more None new calls since asks is = absurd cc
told_more (Some before) new calls since asks is = let same : before ≡ calls = cc in asks ∙ ap (λ (b : List Call). Some (b ++ since)) same

module _ {B : Type 0} (tells : B → BucketTold) where
  -- a bucket that was left alone
  pub asks_none : (bucket : B) → Asks (tells bucket).asked (tells bucket).asked []
  asks_none bucket = none_since (tells bucket).asked

  asks_in : (old new : B) (op : Op) (result : Result Reply NoMemory) → Asks (tells old).asked (tells new).asked (calls_for op) → AsksIn tells old new op result
  asks_in old new op (Ok reply) asks = asks
  asks_in old new op (Err none) asks = inl asks

  -- one call, which was noted
  pub asks_call : (old new : B) (op : Op) (call made : Call) (result : Result Reply NoMemory) → calls_for op ≡ call ∷ [] → made ≡ call → Asks (tells old).asked (tells new).asked (made ∷ []) → AsksIn tells old new op result
  asks_call old new op call made result is same asks =
      asks_in old new op result (subst (λ calls. Asks (tells old).asked (tells new).asked calls) (ap (λ (c : Call). c ∷ []) same ∙ sym is) asks)

  -- one call, whose answer is the reply
  pub asks_once : {A : Type 0} (reply : A → Result Reply NoMemory) (old new : B) (op : Op) (call made : Call) (got no_memory : A) (none : NoMemory) (result : Result Reply NoMemory)
      → calls_for op ≡ call ∷ [] → made ≡ call → reply no_memory ≡ Err none → result ≡ reply got → AsksOnce (tells old).asked (tells new).asked made got no_memory → AsksIn tells old new op result
  asks_once reply old new op call made got no_memory none result is same wants replied (inl asks) =
      asks_call old new op call made result is same asks
  asks_once reply old new op call made got no_memory none result is same wants replied (inr (unnoted, wanted)) =
      subst (λ r. AsksIn tells old new op r) (sym (replied ∙ ap reply wanted ∙ wants)) (inr unnoted)

  -- the whole of what was asked, after one more operation
  all_then : (old new : B) (journal later : List Entry) (before : List Call) (since : List Call) → Asks (tells old).asked (tells new).asked since → calls_of later ≡ calls_of journal ++ since
      → (tells old).asked ≡ Some (before ++ opening ∷ calls_of journal) → (tells new).asked ≡ Some (before ++ opening ∷ calls_of later)
  all_then old new journal later before since asks more all =
      told_more (tells old).asked (tells new).asked (before ++ opening ∷ calls_of journal) since asks all
      ∙ ap (λ (calls : List Call). Some calls) (append_assoc before (opening ∷ calls_of journal) since ∙ ap (λ (calls : List Call). before ++ opening ∷ calls) (sym more))

  calls_more : (journal : List Entry) (e : Entry) → calls_of (journal ++ e ∷ []) ≡ calls_of journal ++ calls_for e.op
  calls_more journal e = flat_map-append (λ x. calls_for x.op) journal (e ∷ []) ∙ ap (λ (calls : List Call). calls_of journal ++ calls) (append-nil (calls_for e.op))

  pub all_more : (old new : WorldView B) (seat : ℕ) (op : Op) (acted : Acted) → new.journal ≡ old.journal ++ gained seat op acted → AsksBy tells old.bucket new.bucket op acted → acted ≢ answer.NoMemory
      → (before : List Call) → IsAllAsked tells before old → IsAllAsked tells before new
  all_more old new seat op (answer.Done seen) added asks done before all =
      all_then old.bucket new.bucket old.journal new.journal before (calls_for op) asks (ap calls_of added ∙ calls_more old.journal (entry_of seat op seen)) all
  all_more old new seat op answer.Full added asks done before all =
      asks ∙ all ∙ ap (λ (j : List Entry). Some (before ++ opening ∷ calls_of j)) (sym (added ∙ append-nil old.journal))
  all_more old new seat op answer.NoMemory added asks done before all = absurd (done refl)

  -- a world that was opened
  pub all_opened : (old new : B) (journal : List Entry) → Asks (tells old).asked (tells new).asked (opening ∷ []) → journal ≡ [] → (before : List Call) → (tells old).asked ≡ Some before → (tells new).asked ≡ Some (before ++ opening ∷ calls_of journal)
  all_opened old new journal asks none before is =
      told_more (tells old).asked (tells new).asked before (opening ∷ []) asks is ∙ ap (λ (j : List Entry). Some (before ++ opening ∷ calls_of j)) (sym none)
