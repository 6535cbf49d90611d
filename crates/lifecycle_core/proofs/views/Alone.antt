-- Where no page lists an empty name, no sync of a seat reaches into another one's beginning.
use Rattle.std.proofs.Common.{◌≡◌, ℕ, ◌+◌, ◌<◌, ◌≤◌, List, [], ◌∷◌, ◌++◌, length, Option, refl, sym, ◌∙◌, ap, subst, arith, append_assoc, append-nil, inl, inr}
use Rattle.std.proofs.lemmas.Bool.{cases_lt}
use Rattle.std.proofs.lemmas.List.{length-append}
use Rattle.world_core.specs.declared.entry.Entry.{Entry}
use Rattle.world_core.specs.declared.op.Op.{Op}
use Rattle.world_core.specs.declared.op.Op.TheVariants as op
use Rattle.world_core.proofs.PlanLaws.{EachAfter}
use Rattle.meta_fetcher.specs.Syncs.{SyncRun}
use Rattle.meta_fetcher.specs.declared.rules.SyncRules.{SyncRules}
use Rattle.meta_fetcher.specs.declared.sync.SyncEnd.{SyncEnd}
use Rattle.lifecycle_core.specs.SyncsAndCalls.{IsSyncBy}
use Rattle.lifecycle_core.proofs.views.OneOpening.{AllList, Is, one_opening, sync_begins}

-- one list in two parts, in two ways
pub cut_front : (a b c d : List Entry) → a ++ b ≡ c ++ d → length a ≤ length c → (m : List Entry) × (c ≡ a ++ m) × (b ≡ m ++ d)
cut_front [] b c d is less = (c, refl, is)
cut_front (x ∷ a) b [] d is less = absurd (omega (arith, less))
cut_front (x ∷ a) b (y ∷ c) d is less =
    let others = cut_front a b c d (cc (is)) (omega (arith, less)) in
    let first : x ≡ y = cc (is) in (others.0, cc (first, others.1), others.2)

pub each_at : (P : List Entry → Op → Type 0) (made front back : List Entry) (e : Entry) → EachAfter P made (front ++ e ∷ back) → P (made ++ front) e.op
each_at P made [] back e all = subst (λ (m : List Entry). P m e.op) (sym (append-nil made)) all.0
each_at P made (x ∷ front) back e all = subst (λ (m : List Entry). P m e.op) (append_assoc made (x ∷ []) front) (each_at P (made ++ x ∷ []) front back e all.1)

pub right_list : (a b : List Entry) → AllList (a ++ b) → AllList b
right_list [] b all = all
right_list (x ∷ a) b all = right_list a b all.1

module _ (rules : SyncRules) (low : 1 ≤ rules.page_limit) (first : Entry) (begins : first.op ≡ op.RootPage [] rules.page_limit) where
  -- a sync that goes over such an entry begins with it, or lists an empty name before it
  not_over : (front back : List Entry) (own : Option SyncEnd) → 1 ≤ length front → AllList front → SyncRun rules (front ++ first ∷ back) own → ⊥
  not_over [] back own some all run = absurd (omega (arith, some))
  not_over (x ∷ front) back own some all run = each_at Is (x ∷ []) front back first (one_opening rules low x (front ++ first ∷ back) own run) all rules.page_limit begins

  over_it : (m n after rest : List Entry) → first ∷ rest ≡ n ++ after → 1 ≤ length n → (back : List Entry) × (n ≡ first ∷ back)
  over_it m [] after rest is some = absurd (omega (arith, some))
  over_it m (y ∷ n) after rest is some = let same : y ≡ first = cc (is) in (n, ap (λ (z : Entry). z ∷ n) same)

module _ (rules : SyncRules) (low : 1 ≤ rules.page_limit) (journal : List Entry) (seat : ℕ) (first : Entry) (others : List Entry) (end : Option SyncEnd) (s : IsSyncBy rules journal seat (first ∷ others) end) (named : AllList s.before) where
  reaches : (o : List Entry) (own : Option SyncEnd) (t : IsSyncBy rules journal seat o own) → length t.before < length s.before → length s.before < length t.before + length o → ⊥
  reaches o own t earlier over =
      let all : t.before ++ (o ++ t.after) ≡ s.before ++ (first ∷ (others ++ s.after)) = sym (append_assoc t.before o t.after) ∙ sym t.parts ∙ s.parts ∙ append_assoc s.before (first ∷ others) s.after in
      let one = cut_front t.before (o ++ t.after) s.before (first ∷ (others ++ s.after)) all (omega (arith, earlier)) in
      let m = one.0 in
      let long : length s.before ≡ length t.before + length m = ap (length {A = Entry}) one.1 ∙ length-append t.before m in
      let two = cut_front m (first ∷ (others ++ s.after)) o t.after (sym one.2) (omega (arith, long, over)) in
      let size : length o ≡ length m + length two.0 = ap (length {A = Entry}) two.1 ∙ length-append m two.0 in
      let begins = sync_begins rules first others end s.run in
      let here = over_it rules low first begins m two.0 t.after (others ++ s.after) two.2 (omega (arith, long, size, over)) in
      not_over rules low first begins m here.0 own (omega (arith, long, earlier)) (right_list t.before m (subst AllList one.1 named))
      (subst (λ (es : List Entry). SyncRun rules es own) (two.1 ∙ ap (λ (es : List Entry). m ++ es) here.1) t.run)

  -- no sync that began earlier reaches into it
  pub alone_here : (o : List Entry) (own : Option SyncEnd) (t : IsSyncBy rules journal seat o own) → length t.before < length s.before → length t.before + length o ≤ length s.before
  alone_here o own t earlier = elim (cases_lt (length s.before) (length t.before + length o)) [ inl over ↦ absurd (reaches o own t earlier over) | inr most ↦ most ]
