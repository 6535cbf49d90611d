-- A reply that shows what stands lists no empty name.
use Rattle.std.proofs.Common.{◌≢◌, inl, inr, ℕ, Bool, List, [], ◌∷◌, Some, sym, subst}
use Rattle.std.specs.List.{AllByRecursion, filter}
use Rattle.std.proofs.lemmas.Bool.{cases_Bool}
use Rattle.base.proofs.Lists.{filter_hit, filter_miss}
use Rattle.base.specs.Order.{InOrderAfter, ComesAfter}
use Rattle.label_sets.specs.Labels.{compare_texts}
use Rattle.label_sets.proofs.LabelValues.{above_nothing}
use Rattle.bucket_core.specs.Contents.{Contents}
use Rattle.world_core.specs.Operations.{IsReplyTo}
use Rattle.world_core.specs.Standing.{Tells}
use Rattle.world_core.specs.declared.entry.Entry.{Entry}
use Rattle.world_core.specs.declared.op.Op.{Op}
use Rattle.world_core.specs.declared.op.Op.TheVariants as op
use Rattle.world_core.specs.declared.reply.Reply.{Reply}
use Rattle.world_core.specs.declared.reply.Reply.TheVariants as reply
use Rattle.lifecycle_core.proofs.views.OneOpening.{AllList, ListsNames}

ascend_named : (after : List ℕ) (names : List (List ℕ)) → InOrderAfter (ComesAfter compare_texts) (Some after) names → AllByRecursion (λ name. name ≢ []) names
ascend_named after [] up = tt
ascend_named after (name ∷ names) up = (above_nothing after name up.0, ascend_named name names up.1)

by_names : (c : Contents) (o : Op) (names : List (List ℕ)) → IsReplyTo o (reply.Names names) → Tells c o (reply.Names names) → AllByRecursion (λ name. name ≢ []) names
by_names c (op.RootPage after limit) names kind tells = ascend_named after names tells.ascend
by_names c (op.BlockPage ulid after limit) names kind tells = ascend_named after names tells.ascend
by_names c (op.Clock moment) names kind tells = absurd kind
by_names c (op.Put key bytes) names kind tells = absurd kind
by_names c (op.Get key) names kind tells = absurd kind
by_names c (op.GetRange key start len) names kind tells = absurd kind
by_names c (op.Delete key) names kind tells = absurd kind

pub tells_names : (c : Contents) (o : Op) (r : Reply) → IsReplyTo o r → Tells c o r → ListsNames r
tells_names c o r kind tells = λ names same. by_names c o names (subst (IsReplyTo o) same kind) (subst (Tells c o) same tells)

pub filtered_list : (p : Entry → Bool) (entries : List Entry) → AllList entries → AllList (filter p entries)
filtered_list p [] all = tt
filtered_list p (e ∷ entries) all = elim (cases_Bool (p e)) [
  | inl hit ↦ subst AllList (sym (filter_hit p e entries hit)) (all.0, filtered_list p entries all.1)
  | inr miss ↦ subst AllList (sym (filter_miss p e entries miss)) (filtered_list p entries all.1)
]
