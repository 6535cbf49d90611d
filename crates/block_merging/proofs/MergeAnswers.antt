-- What a merge of blocks answers.
use Rattle.std.proofs.Common.{◌≡◌, ℕ, List, Result, Ok, Err, sym, ap, subst, ◌∙◌, inl, inr, ◌⊎◌}
use Rattle.std.specs.Prelude.{IfOk, IfErr}
use Rattle.std.specs.Result.{IsErrAnd}
use Rattle.std.specs.List.{AllByRecursion}
use Rattle.base.specs.Lists.{joined}
use Rattle.block_meta.specs.declared.block_plan.BlockPlan.{BlockPlan}
use Rattle.block_meta.specs.declared.block_files.BlockFiles.{BlockFiles}
use Rattle.block_content.specs.ContentReading.{fitted}
use Rattle.block_content.specs.declared.check_refusal.CheckRefusal.{CheckRefusal}
use Rattle.block_writing.specs.Put.{Put}
use Rattle.block_writing.specs.Files.{HaveNoIndex}
use Rattle.block_writing.specs.Writing.{plan_fields}
use Rattle.block_writing.specs.WrittenMeta.{IsWritten}
use Rattle.block_merging.specs.declared.merge_refusal.MergeRefusal.{MergeRefusal}
use Rattle.block_merging.specs.declared.merge_refusal.MergeRefusal.TheVariants.{Input, TooLarge, NoMemory}
use Rattle.block_merging.specs.declared.series_queue.SeriesQueue.{SeriesQueue}
use Rattle.block_merging.specs.Inputs.{LiesWithin, HasContent, IsFirstRefused}
use Rattle.block_merging.specs.MergedBlock.{IsMergedPut, IsMergeOf, HaveNoMerge}
use Rattle.block_merging.specs.MergeSteps.{HasAll}
use Rattle.block_merging.specs.Queues.{lefts_in, HasQueues}
use Rattle.block_merging.proofs.GroupsTaken.{merges_alike}
use Rattle.block_merging.proofs.InputWalks.{FirstTold, FirstDecides}
use Rattle.block_merging.proofs.OneMerged.{puts_once}

put_of : (plan : BlockPlan) (replicas : List (List ℕ)) (inputs : List BlockFiles) (queues : List SeriesQueue) (writer : Put) → AllByRecursion HasContent inputs → HasQueues plan.labels replicas inputs queues → HasAll (plan_fields plan) (joined (lefts_in plan.labels replicas queues)) writer
    → IsMergedPut plan replicas inputs writer
put_of plan replicas inputs queues writer held h has = record {
  held = held;
  all = h.all;
  all_are = h.are;
  series_are = merges_alike (joined (lefts_in plan.labels replicas queues)) h.all writer.series h.alike has.merged;
  plan_is = has.plan_is;
  nothing_left = has.nothing_left;
  list = has.list;
  list_is = has.list_is;
  samples_are = has.samples_are;
}

-- ---- answers

pub record IsMergeAnswer (plan : BlockPlan) (replicas : List (List ℕ)) (inputs : List BlockFiles) (r : Result BlockFiles MergeRefusal) : Type 0 where
  pub merged : IfOk r (IsMergeOf plan replicas inputs)
  pub refused : (number : ℕ) (cause : CheckRefusal) → r ≡ Err (Input number cause) → (place : ℕ) × IsFirstRefused inputs place cause × (number ≡ fitted place)
  pub refuses : (place : ℕ) (cause : CheckRefusal) → IsFirstRefused inputs place cause → (r ≡ Err (Input (fitted place) cause)) ⊎ (r ≡ Err NoMemory)
  pub too_large : r ≡ Err TooLarge → HaveNoMerge plan replicas inputs
  pub large : HaveNoMerge plan replicas inputs → (r ≡ Err TooLarge) ⊎ (r ≡ Err NoMemory)

module _ (plan : BlockPlan) (replicas : List (List ℕ)) (inputs : List BlockFiles) where
  told_number : (n m : ℕ) (c d : CheckRefusal) → ◌≡◌ {A = MergeRefusal} (Input n c) (Input m d) → (n ≡ m) × (c ≡ d)
  told_number n m c d e = (cc, cc)

  err_is : (e f : MergeRefusal) → ◌≡◌ {A = Result BlockFiles MergeRefusal} (Err e) (Err f) → e ≡ f
  err_is e f h = cc

  err_of : {X : Type 0} (e f : MergeRefusal) → ◌≡◌ {A = Result X MergeRefusal} (Err e) (Err f) → e ≡ f
  err_of {X} e f h = cc

  -- a block was refused
  pub test_stopped : {X : Type 0} (r : Result BlockFiles MergeRefusal) (e : MergeRefusal) → IsErrAnd r (λ x. x ≡ e) → FirstTold inputs e → (AllByRecursion HasContent inputs → e ≡ NoMemory) → FirstDecides {X = X} inputs (Err e) → IsMergeAnswer plan replicas inputs r
  test_stopped {X} (Ok b) e is told only decides = absurd is
  test_stopped {X} (Err f) e is told only decides = record {
    merged = tt;
    refused = λ number cause told_too. let named = sym is ∙ err_is f (Input number cause) told_too in elim told [
      | inl none ↦ absurd (let g : NoMemory ≡ Input number cause = sym none ∙ named in cc)
      | inr (place, why, first, told_is) ↦ let p = told_number number (fitted place) cause why (sym named ∙ told_is) in (place, subst (IsFirstRefused inputs place) (sym p.1) first, p.0)
    ];
    refuses = λ place cause first. elim (decides place cause first) [
      | inl here ↦ inl (ap Err (is ∙ err_of {X = X} e (Input (fitted place) cause) here))
      | inr none ↦ inr (ap Err (is ∙ err_of {X = X} e NoMemory none))
    ];
    too_large = λ large. let named = sym is ∙ err_is f TooLarge large in elim told [
      | inl none ↦ absurd (let g : NoMemory ≡ TooLarge = sym none ∙ named in cc)
      | inr (place, why, first, told_is) ↦ absurd (let g : Input (fitted place) why ≡ TooLarge = sym told_is ∙ named in cc)
    ];
    large = λ none. inr (ap Err (is ∙ only none.put_is.held));
  }

  -- memory ran out
  pub memory_stopped : (r : Result BlockFiles MergeRefusal) → IsErrAnd r (λ x. x ≡ NoMemory) → IsMergeAnswer plan replicas inputs r
  memory_stopped (Ok b) is = absurd is
  memory_stopped (Err f) is = record {
    merged = tt;
    refused = λ number cause told. absurd (let g : NoMemory ≡ Input number cause = sym is ∙ err_is f (Input number cause) told in cc);
    refuses = λ place cause first. inr (ap Err is);
    too_large = λ large. absurd (let g : NoMemory ≡ TooLarge = sym is ∙ err_is f TooLarge large in cc);
    large = λ none. inr (ap Err is);
  }

  nothing_refused : {P X : Type 0} (x : X) → FirstDecides inputs (Ok x) → (place : ℕ) (cause : CheckRefusal) → IsFirstRefused inputs place cause → P
  nothing_refused {P} {X} x decides place cause first = absurd (elim (decides place cause first) [ inl here ↦ cc | inr none ↦ cc ])

  pub merge_ended : {X : Type 0} (r : Result BlockFiles MergeRefusal) (x : X) (queues : List SeriesQueue) (writer : Put) → AllByRecursion (LiesWithin plan) inputs → FirstDecides inputs (Ok x) → AllByRecursion HasContent inputs → HasQueues plan.labels replicas inputs queues
      → HasAll (plan_fields plan) (joined (lefts_in plan.labels replicas queues)) writer → IfOk r (IsWritten writer) → IfErr r (λ refusal. (refusal ≡ NoMemory) ⊎ ((refusal ≡ TooLarge) × HaveNoIndex writer.series))
      → (HaveNoIndex writer.series → (r ≡ Err TooLarge) ⊎ (r ≡ Err NoMemory)) → IsMergeAnswer plan replicas inputs r
  merge_ended {X} (Ok block) x queues writer lie decides held h has written refused large = record {
    merged = record { put = writer; put_is = put_of plan replicas inputs queues writer held h has; block_is = written };
    refused = λ number cause told. absurd cc;
    refuses = λ place cause first. nothing_refused x decides place cause first;
    too_large = λ large. absurd cc;
    large = λ none. large (subst HaveNoIndex (puts_once plan replicas inputs lie h.bytes none.put writer none.put_is (put_of plan replicas inputs queues writer held h has)) none.large);
  }
  merge_ended {X} (Err f) x queues writer lie decides held h has written refused large = record {
    merged = tt;
    refused = λ number cause told. let named = err_is f (Input number cause) told in elim refused [
      | inl none ↦ absurd (let g : NoMemory ≡ Input number cause = sym none ∙ named in cc)
      | inr large ↦ absurd (let g : TooLarge ≡ Input number cause = sym large.0 ∙ named in cc)
    ];
    refuses = λ place cause first. nothing_refused x decides place cause first;
    too_large = λ told. let named = err_is f TooLarge told in elim refused [
      | inl none ↦ absurd (let g : NoMemory ≡ TooLarge = sym none ∙ named in cc)
      | inr large ↦ record { put = writer; put_is = put_of plan replicas inputs queues writer held h has; large = large.1 }
    ];
    large = λ none. elim refused [
      | inl short ↦ inr (ap Err short)
      | inr large ↦ inl (ap Err large.0)
    ];
  }
