-- The series of all blocks: the least labels, the group that is taken, and how the queues begin.
use Rattle.std.proofs.Common.{◌≡◌, Vec, Global, inl, inr, ℕ, zero, suc, ◌+◌, ◌-◌, ◌^◌, ◌<◌, ◌≤◌, Bool, true, false, cond, List, [], ◌∷◌, ◌++◌, length, map, take, drop, set, get_or, Option, None, Some, Result, Ok, Err, refl, sym, ap, subst, ◌∙◌, append-nil, append_assoc, arith}
use Rattle.std.specs.Prelude.{min, option_map}
use Rattle.std.specs.Result.{IsErrAnd}
use Rattle.std.specs.List.{AllByRecursion, filter}
use Rattle.std.specs.Ordering.{is_lt}
use Rattle.std.proofs.lemmas.List.{map-append, take_more, take_more_set, take_all, drop_more, drop-set-lt, length-set}
use Rattle.std.proofs.lemmas.List.Elements.{Contains-append_left, Contains-append_right}
use Rattle.base.specs.Ordered.{in_order}
use Rattle.base.proofs.Bools.{by_bool}
use Rattle.base.proofs.Lists.{take_none, AllByRecursion-append, AllByRecursion-push, joined-push}
use Rattle.base.proofs.StableSorts.{Rises, Rises-in_order}
use Rattle.base.specs.Lists.{joined}
use Rattle.base.specs.Grammar.{IsBytes}
use Rattle.label_sets.specs.declared.label.Label.{Label}
use Rattle.label_sets.specs.Labels.{compare_sets}
use Rattle.index_v2.specs.declared.lent_series.LentLabel.{LentLabel}
use Rattle.index_v2.specs.LentLabels.{as_label}
use Rattle.block_meta.specs.declared.block_files.BlockFiles.{BlockFiles}
use Rattle.block_content.specs.declared.check_refusal.CheckRefusal.{CheckRefusal}
use Rattle.block_writing.specs.Put.{PutChunk, PutSeries}
use Rattle.block_merging.specs.declared.merge_refusal.MergeRefusal.{MergeRefusal}
use Rattle.block_merging.specs.declared.merge_refusal.MergeRefusal.TheVariants.{NoMemory}
use Rattle.block_merging.specs.declared.series_queue.SeriesQueue.{SeriesQueue}
use Rattle.block_merging.specs.Inputs.{AreTaken, taken}
use Rattle.block_merging.specs.MergedBlock.{has_labels}
use Rattle.block_merging.specs.MergeSteps.{IsTest, AreTests}
use Rattle.block_merging.specs.Queues.{have_lesser_labels, chunks_of, IsQueue, left_in, lefts_in, HasQueue, HasQueues, IsLeastOf, LeastIs, lesser, IsFrontOf, TakesGroup}
use Rattle.block_merging.proofs.GroupsTaken.{labels_ranked, alike_append, in_order_alike, not_greater}
use Rattle.block_merging.proofs.InputWalks.{TestedSoFar, tested_none, tested_more, taken_push}

-- ---- the least labels

-- labels that are not above the least are not above the others either
below_all : (one other : List Label) (xs : List PutSeries) → is_lt (compare_sets other one) ≡ false → AllByRecursion (λ s. is_lt (compare_sets s.labels other) ≡ false) xs → AllByRecursion (λ s. is_lt (compare_sets s.labels one) ≡ false) xs
below_all one other [] low all = tt
below_all one other (x ∷ xs) low all = (not_greater one other x.labels low all.0, below_all one other xs low all.1)

least_left : (one : List Label) (xs ys : List PutSeries) → IsLeastOf one xs → AllByRecursion (λ s. is_lt (compare_sets s.labels one) ≡ false) ys → IsLeastOf one (xs ++ ys)
least_left one xs ys h all = record {
  among = (h.among.0, Contains-append_left xs ys h.among.0 h.among.1, h.among.2);
  least = AllByRecursion-append (λ s. is_lt (compare_sets s.labels one) ≡ false) xs ys h.least all;
  lawful = h.lawful;
}

least_right : (one : List Label) (xs ys : List PutSeries) → IsLeastOf one ys → AllByRecursion (λ s. is_lt (compare_sets s.labels one) ≡ false) xs → IsLeastOf one (xs ++ ys)
least_right one xs ys h all = record {
  among = (h.among.0, Contains-append_right xs ys h.among.0 h.among.1, h.among.2);
  least = AllByRecursion-append (λ s. is_lt (compare_sets s.labels one) ≡ false) xs ys all h.least;
  lawful = h.lawful;
}

not_both_less : (one other : List Label) → is_lt (compare_sets other one) ≡ true → is_lt (compare_sets one other) ≡ false
not_both_less one other t = labels_ranked.one_way (record { labels = other; chunks = [] }) (record { labels = one; chunks = [] }) t

lesser_least : (one other : Option (List Label)) (xs ys : List PutSeries) → LeastIs one xs → LeastIs other ys → LeastIs (lesser one other) (xs ++ ys)
lesser_least None None xs ys h k = ap (λ (l : List PutSeries). l ++ ys) h ∙ k
lesser_least None (Some other) xs ys h k = subst (λ (l : List PutSeries). IsLeastOf other (l ++ ys)) (sym h) k
lesser_least (Some one) None xs ys h k = subst (λ (l : List PutSeries). IsLeastOf one (xs ++ l)) (sym k) (subst (IsLeastOf one) (sym (append-nil xs)) h)
lesser_least (Some one) (Some other) xs ys h k = by_bool (is_lt (compare_sets other one))
    (λ t. subst (λ (b : Bool). LeastIs (cond b (Some other) (Some one)) (xs ++ ys)) (sym t) (least_right other xs ys k (below_all other one xs (not_both_less one other t) h.least)))
    (λ f. subst (λ (b : Bool). LeastIs (cond b (Some other) (Some one)) (xs ++ ys)) (sym f) (least_left one xs ys h (below_all one other ys f k.least)))

lefts_more : (external : List Label) (replicas : List (List ℕ)) (queues : List SeriesQueue) (k : ℕ) (queue d : SeriesQueue) → k < length queues → queue ≡ get_or queues k d → lefts_in external replicas (take (k + 1) queues) ≡ lefts_in external replicas (take k queues) ++ left_in external replicas queue ∷ []
lefts_more external replicas queues k queue d lt at =
    ap (lefts_in external replicas) (take_more queues k d lt ∙ ap (λ (q : SeriesQueue). take k queues ++ q ∷ []) (sym at)) ∙ map-append (left_in external replicas) (take k queues) (queue ∷ [])

pub least_none : (external : List Label) (replicas : List (List ℕ)) (queues : List SeriesQueue) → joined (lefts_in external replicas (take 0 queues)) ≡ []
least_none external replicas queues = ap (λ (l : List SeriesQueue). joined (lefts_in external replicas l)) (take_none queues)

pub least_more : (external : List Label) (replicas : List (List ℕ)) (queues : List SeriesQueue) (k : ℕ) (queue d : SeriesQueue) (least next result : Option (List Label)) → k < length queues → queue ≡ get_or queues k d → LeastIs least (joined (lefts_in external replicas (take k queues)))
    → LeastIs next (left_in external replicas queue) → result ≡ lesser least next → LeastIs result (joined (lefts_in external replicas (take (k + 1) queues)))
least_more external replicas queues k queue d least next result lt at h own is =
    subst (λ (o : Option (List Label)). LeastIs o (joined (lefts_in external replicas (take (k + 1) queues)))) (sym is)
    (subst (LeastIs (lesser least next)) (sym (ap joined (lefts_more external replicas queues k queue d lt at) ∙ joined-push (lefts_in external replicas (take k queues)) (left_in external replicas queue)))
    (lesser_least least next (joined (lefts_in external replicas (take k queues))) (left_in external replicas queue) h own))

pub least_all : (external : List Label) (replicas : List (List ℕ)) (queues : List SeriesQueue) (k : ℕ) (least : Option (List Label)) → length queues ≤ k → LeastIs least (joined (lefts_in external replicas (take k queues))) → LeastIs least (joined (lefts_in external replicas queues))
least_all external replicas queues k least all h = subst (λ (l : List SeriesQueue). LeastIs least (joined (lefts_in external replicas l))) (take_all k queues all) h

-- the labels that were copied are the least of what is left
pub least_here : {A : Type 0} (f : A → List Label) (o : Option A) (x : A) (external : List Label) (replicas : List (List ℕ)) (items queues : List SeriesQueue) → items ≡ queues → o ≡ Some x → LeastIs (option_map f o) (joined (lefts_in external replicas items))
    → IsLeastOf (f x) (joined (lefts_in external replicas queues))
least_here {A} f o x external replicas items queues same is least =
    subst (λ (l : List SeriesQueue). IsLeastOf (f x) (joined (lefts_in external replicas l))) same (subst (λ (p : Option A). LeastIs (option_map f p) (joined (lefts_in external replicas items))) is least)

pub none_here : {A : Type 0} (f : A → List Label) (o : Option A) (external : List Label) (replicas : List (List ℕ)) (items queues : List SeriesQueue) → items ≡ queues → ((x : A) → o ≡ Some x → ⊥) → LeastIs (option_map f o) (joined (lefts_in external replicas items))
    → joined (lefts_in external replicas queues) ≡ []
none_here {A} f None external replicas items queues same none least = ap (λ (l : List SeriesQueue). joined (lefts_in external replicas l)) (sym same) ∙ least
none_here {A} f (Some x) external replicas items queues same none least = absurd (none x refl)

abbrev pub copied : Vec LentLabel Global → List Label
copied labels = map as_label labels.items

pub group_least : (external : List Label) (replicas : List (List ℕ)) (items queues : List SeriesQueue) (o : Option (Vec LentLabel Global)) (labels : Vec LentLabel Global) (lent : List LentLabel) → items ≡ queues → o ≡ Some labels → lent ≡ labels.items
    → LeastIs (option_map copied o) (joined (lefts_in external replicas items)) → IsLeastOf (map as_label lent) (joined (lefts_in external replicas queues))
group_least external replicas items queues o labels lent same is lent_is least =
    subst (λ (l : List LentLabel). IsLeastOf (map as_label l) (joined (lefts_in external replicas queues))) (sym lent_is) (least_here copied o labels external replicas items queues same is least)

-- the series of one queue ascend
pub one_rises : (external : List Label) (replicas : List (List ℕ)) (queues : List SeriesQueue) (k : ℕ) (queue d : SeriesQueue) → k < length queues → queue ≡ get_or queues k d → AllByRecursion (Rises have_lesser_labels) (lefts_in external replicas queues) → Rises have_lesser_labels (left_in external replicas queue)
one_rises external replicas [] k queue d lt at rise = absurd (omega (arith, lt))
one_rises external replicas (q ∷ queues) zero queue d lt at rise = subst (λ (x : SeriesQueue). Rises have_lesser_labels (left_in external replicas x)) (sym at) rise.0
one_rises external replicas (q ∷ queues) (suc k) queue d lt at rise = one_rises external replicas queues k queue d (omega (arith, lt)) at rise.1

-- ---- a group that is taken

takes_push : (labels : List Label) (olds news : List (List PutSeries)) (old new : List PutSeries) (chunks own all : List PutChunk) → TakesGroup labels olds news chunks → IsFrontOf labels old new [] own → all ≡ chunks ++ own → TakesGroup labels (olds ++ old ∷ []) (news ++ new ∷ []) all
takes_push labels [] [] old new chunks own all none is added = (own, [], is, refl, added ∙ ap (λ (l : List PutChunk). l ++ own) none ∙ sym (append-nil own))
takes_push labels [] (n ∷ news) old new chunks own all none is added = absurd none
takes_push labels (o ∷ olds) [] old new chunks own all none is added = absurd none
takes_push labels (o ∷ olds) (n ∷ news) old new chunks own all (first, others, first_is, more, chunks_is) is added = (
  first,
  others ++ own,
  first_is,
  takes_push labels olds news old new others own (others ++ own) more is refl,
  added ∙ ap (λ (l : List PutChunk). l ++ own) chunks_is ∙ append_assoc first others own,
)

front_alone : (labels : List Label) (old new : List PutSeries) (before after : List PutChunk) (is : IsFrontOf labels old new before after) → IsFrontOf labels old new [] (chunks_of is.front)
front_alone labels old new before after is = record { front = is.front; whole = is.whole; same = is.same; others = is.others; chunks = refl }

pub record TakenSoFar (external : List Label) (replicas : List (List ℕ)) (labels : List Label) (olds nows : List SeriesQueue) (place : ℕ) (chunks : List PutChunk) : Type 0 where
  pub queues : AllByRecursion (IsQueue external replicas) nows
  pub takes : TakesGroup labels (lefts_in external replicas (take place olds)) (lefts_in external replicas (take place nows)) chunks
  pub others : drop place nows ≡ drop place olds
  pub as_many : length nows ≡ length olds

pub taken_begins : (external : List Label) (replicas : List (List ℕ)) (labels : List Label) (queues : List SeriesQueue) (chunks : List PutChunk) → AllByRecursion (IsQueue external replicas) queues → chunks ≡ [] → TakenSoFar external replicas labels queues queues 0 chunks
taken_begins external replicas labels queues chunks is none = record {
  queues = is;
  takes = subst (λ (l : List SeriesQueue). TakesGroup labels (lefts_in external replicas l) (lefts_in external replicas l) chunks) (sym (take_none queues)) none;
  others = refl;
  as_many = refl;
}

all_set : (P : SeriesQueue → Type 0) (xs : List SeriesQueue) (k : ℕ) (x : SeriesQueue) → AllByRecursion P xs → P x → AllByRecursion P (set xs k x)
all_set P [] k x all p = tt
all_set P (y ∷ xs) zero x all p = (p, all.1)
all_set P (y ∷ xs) (suc k) x all p = (all.0, all_set P xs k x all.1 p)

first_of_rest : (xs ys : List SeriesQueue) (k : ℕ) (d : SeriesQueue) → k < length xs → k < length ys → drop k xs ≡ drop k ys → get_or xs k d ≡ get_or ys k d
first_of_rest xs ys k d lt less same = let e : get_or xs k d ∷ drop (k + 1) xs ≡ get_or ys k d ∷ drop (k + 1) ys = sym (drop_more xs k d lt) ∙ same ∙ drop_more ys k d less in cc

rest_of_rest : (xs ys : List SeriesQueue) (k : ℕ) (d : SeriesQueue) → k < length xs → k < length ys → drop k xs ≡ drop k ys → drop (k + 1) xs ≡ drop (k + 1) ys
rest_of_rest xs ys k d lt less same = let e : get_or xs k d ∷ drop (k + 1) xs ≡ get_or ys k d ∷ drop (k + 1) ys = sym (drop_more xs k d lt) ∙ same ∙ drop_more ys k d less in cc

pub taken_on : (external : List Label) (replicas : List (List ℕ)) (labels : List Label) (olds nows news : List SeriesQueue) (place : ℕ) (before after : List PutChunk) (old new d : SeriesQueue) → TakenSoFar external replicas labels olds nows place before → place < length nows → old ≡ get_or nows place d → news ≡ set nows place new
    → IsQueue external replicas new → IsFrontOf labels (left_in external replicas old) (left_in external replicas new) before after → TakenSoFar external replicas labels olds news (place + 1) after
taken_on external replicas labels olds nows news place before after old new d h lt at news_are is front =
    let less : place < length olds = omega (arith, lt, h.as_many) in
    let was : old ≡ get_or olds place d = at ∙ first_of_rest nows olds place d lt less h.others in
    let now_lefts : lefts_in external replicas (take (place + 1) news) ≡ lefts_in external replicas (take place nows) ++ left_in external replicas new ∷ [] =
    ap (λ (l : List SeriesQueue). lefts_in external replicas (take (place + 1) l)) news_are ∙ ap (lefts_in external replicas) (take_more_set nows place new lt) ∙ map-append (left_in external replicas) (take place nows) (new ∷ []) in
    record {
      queues = subst (AllByRecursion (IsQueue external replicas)) (sym news_are) (all_set (IsQueue external replicas) nows place new h.queues is);
      takes = subst (λ (l : List (List PutSeries)). TakesGroup labels l (lefts_in external replicas (take (place + 1) news)) after) (sym (lefts_more external replicas olds place old d less was))
          (subst (λ (l : List (List PutSeries)). TakesGroup labels (lefts_in external replicas (take place olds) ++ left_in external replicas old ∷ []) l after) (sym now_lefts)
          (takes_push labels (lefts_in external replicas (take place olds)) (lefts_in external replicas (take place nows)) (left_in external replicas old) (left_in external replicas new) before (chunks_of front.front) after h.takes (front_alone labels (left_in external replicas old) (left_in external replicas new) before after front) front.chunks));
      others = ap (λ (l : List SeriesQueue). drop (place + 1) l) news_are ∙ drop-set-lt (place + 1) nows place new (omega arith) ∙ rest_of_rest nows olds place d lt less h.others;
      as_many = ap length news_are ∙ length-set nows place new ∙ h.as_many;
    }

pub taken_all : (external : List Label) (replicas : List (List ℕ)) (labels : List Label) (olds nows : List SeriesQueue) (place : ℕ) (chunks : List PutChunk) → length nows ≤ place → TakenSoFar external replicas labels olds nows place chunks
    → TakesGroup labels (lefts_in external replicas olds) (lefts_in external replicas nows) chunks
taken_all external replicas labels olds nows place chunks all h =
    subst (λ (l : List SeriesQueue). TakesGroup labels (lefts_in external replicas l) (lefts_in external replicas nows) chunks) (take_all place olds (omega (arith, all, h.as_many)))
    (subst (λ (l : List SeriesQueue). TakesGroup labels (lefts_in external replicas (take place olds)) (lefts_in external replicas l) chunks) (take_all place nows all) h.takes)

-- ---- the queues of all blocks

none_has : (external : List Label) (replicas : List (List ℕ)) (blocks : List BlockFiles) (queues : List SeriesQueue) → queues ≡ [] → blocks ≡ [] → HasQueues external replicas blocks queues
none_has external replicas blocks queues none no_blocks = record {
  all = [];
  are = subst (λ (l : List BlockFiles). AreTaken external replicas l []) (sym no_blocks) refl;
  bytes = subst (AllByRecursion (λ block. IsBytes block.index)) (sym no_blocks) tt;
  each = subst (AllByRecursion (IsQueue external replicas)) (sym none) tt;
  rise = subst (λ (l : List SeriesQueue). AllByRecursion (Rises have_lesser_labels) (lefts_in external replicas l)) (sym none) tt;
  alike = λ labels. ap (λ (l : List SeriesQueue). filter (has_labels labels) (joined (lefts_in external replicas l))) none;
}

queue_pushed : (external : List Label) (replicas : List (List ℕ)) (blocks : List BlockFiles) (block : BlockFiles) (queues news : List SeriesQueue) (queue : SeriesQueue) → HasQueues external replicas blocks queues → HasQueue external replicas block queue → news ≡ queues ++ queue ∷ [] → HasQueues external replicas (blocks ++ block ∷ []) news
queue_pushed external replicas blocks block queues news queue h one added =
    let series : List PutSeries = map (taken external replicas block.segments) one.series in
    let lefts : lefts_in external replicas news ≡ lefts_in external replicas queues ++ left_in external replicas queue ∷ [] = ap (lefts_in external replicas) added ∙ map-append (left_in external replicas) queues (queue ∷ []) in
    let all_lefts : joined (lefts_in external replicas news) ≡ joined (lefts_in external replicas queues) ++ in_order have_lesser_labels series =
    ap joined lefts ∙ joined-push (lefts_in external replicas queues) (left_in external replicas queue) ∙ ap (λ (l : List PutSeries). joined (lefts_in external replicas queues) ++ l) one.left in
    record {
      all = h.all ++ series;
      are = taken_push external replicas blocks block h.all (h.all ++ series) one.series h.are one.index_is refl;
      bytes = AllByRecursion-append (λ block. IsBytes block.index) blocks (block ∷ []) h.bytes (one.bytes, tt);
      each = subst (AllByRecursion (IsQueue external replicas)) (sym added) (AllByRecursion-push (IsQueue external replicas) queues queue h.each one.is);
      rise = subst (AllByRecursion (Rises have_lesser_labels)) (sym lefts)
          (AllByRecursion-push (Rises have_lesser_labels) (lefts_in external replicas queues) (left_in external replicas queue) h.rise (subst (Rises have_lesser_labels) (sym one.left) (Rises-in_order have_lesser_labels labels_ranked series)));
      alike = λ labels. ap (filter (has_labels labels)) all_lefts ∙ alike_append (joined (lefts_in external replicas queues)) h.all (in_order have_lesser_labels series) series h.alike (in_order_alike series) labels;
    }

pub record QueuesSoFar (external : List Label) (replicas : List (List ℕ)) (inputs : List BlockFiles) (i number : ℕ) (queues : List SeriesQueue) : Type 0 where
  pub tested : TestedSoFar inputs i number
  pub has : HasQueues external replicas (take i inputs) queues

pub queues_begin : (external : List Label) (replicas : List (List ℕ)) (inputs : List BlockFiles) (queues : List SeriesQueue) → queues ≡ [] → QueuesSoFar external replicas inputs 0 0 queues
queues_begin external replicas inputs queues none = record { tested = tested_none inputs; has = none_has external replicas (take 0 inputs) queues none (take_none inputs) }

pub queues_go_on : {X : Type 0} (external : List Label) (replicas : List (List ℕ)) (inputs : List BlockFiles) (i number next : ℕ) (queues news : List SeriesQueue) (queue : SeriesQueue) (block d : BlockFiles) (r : Result X CheckRefusal) (x : X) → QueuesSoFar external replicas inputs i number queues → i < length inputs → block ≡ get_or inputs i d
    → IsTest block r → r ≡ Ok x → HasQueue external replicas block queue → news ≡ queues ++ queue ∷ [] → next ≡ min (number + 1) (2 ^ 32 - 1) → QueuesSoFar external replicas inputs (i + 1) next news
queues_go_on {X} external replicas inputs i number next queues news queue block d r x h lt at test ok one added is = record {
  tested = tested_more inputs i number next block d r x h.tested lt at test ok is;
  has = subst (λ (l : List BlockFiles). HasQueues external replicas l news) (ap (λ (b : BlockFiles). take i inputs ++ b ∷ []) at ∙ sym (take_more inputs i d lt)) (queue_pushed external replicas (take i inputs) block queues news queue h.has one added);
}

pub queues_end : (external : List Label) (replicas : List (List ℕ)) (inputs : List BlockFiles) (i : ℕ) (queues : List SeriesQueue) → length inputs ≤ i → HasQueues external replicas (take i inputs) queues → HasQueues external replicas inputs queues
queues_end external replicas inputs i queues all h = subst (λ (l : List BlockFiles). HasQueues external replicas l queues) (take_all i inputs all) h

-- memory ran out
pub tests_short : {X : Type 0} (inputs : List BlockFiles) (r : Result X MergeRefusal) → IsErrAnd r (λ e. e ≡ NoMemory) → AreTests inputs r
tests_short {X} inputs (Ok x) is = absurd is
tests_short {X} inputs (Err e) is = record { held = tt; refused = inl is; only = λ held. is; refuses = λ place cause first. inr (ap Err is) }
