-- What operations one after another leave of a hand.
use Rattle.std.proofs.Common.{◌≡◌, ◌≢◌, ◌||◌, ◌⊎◌, inl, inr, ◌<◌, ◌≤◌, Bool, IsTrue, true, false, List, [], ◌∷◌, ◌++◌, IfSome, refl, sym, ap, ◌∙◌, arith, append-nil, append_assoc}
use Rattle.base.proofs.Bools.{or_false}
use Rattle.std.proofs.lemmas.List.Elements.{All-nil, All-cons, All-append, All-weaker}
use Rattle.world_core.specs.Keeping.{IsFull}
use Rattle.world_core.specs.Machines.{IfDone, gained, is_driven_full, is_driven_wanting, is_full, is_wanting}
use Rattle.world_core.specs.Operations.{entry_of}
use Rattle.world_core.specs.Told.{HandTold}
use Rattle.world_core.specs.Turning.{AddsOn, Turned}
use Rattle.world_core.specs.declared.act.Acted.{Acted}
use Rattle.world_core.specs.declared.act.Acted.TheVariants.{Done, Full, NoMemory}
use Rattle.world_core.specs.declared.driving.Driven.{Driven}
use Rattle.world_core.specs.declared.driving.Driven.TheVariants as driven
use Rattle.world_core.specs.declared.entry.Entry.{Entry}
use Rattle.world_core.specs.declared.op.Op.{Op}

-- ---- what a drive came to

pub driven_wanting : {E : Type 0} (came : Driven E) → IsTrue (is_driven_wanting came) → came ≡ driven.NoMemory
driven_wanting (driven.Ended end) is = absurd (cc (is))
driven_wanting (driven.Stopped n) is = absurd (cc (is))
driven_wanting driven.Full is = absurd (cc (is))
driven_wanting driven.NoMemory is = refl

-- a drive that did not end for want of memory wanted none
pub not_wanted : {E : Type 0} (before now : Bool) (came : Driven E) → (IsTrue now → IsTrue before ⊎ IsTrue (is_driven_wanting came)) → before ≡ false → came ≢ driven.NoMemory → now ≡ false
not_wanted before false came step was done = refl
not_wanted before true came step was done = elim (step refl) [ inl wanted ↦ absurd (cc (wanted, was)) | inr is ↦ absurd (done (driven_wanting came is)) ]

pub driven_to_full : {E : Type 0} (came : Driven E) (journal : List Entry) → (IsTrue (is_driven_full came) → IsFull journal) → came ≡ driven.Full → IsFull journal
driven_to_full came journal full is = full (ap is_driven_full is)

-- ---- one operation after another

none_added : (hand : HandTold) → AddsOn hand hand
none_added hand = record {
  made = [];
  added = sym (append-nil hand.entries);
  above = All-nil (λ e. hand.known < e.seq);
  within = All-nil (λ e. e.seq ≤ hand.known);
  later = omega arith;
}

one_added : (old new : HandTold) (op : Op) (acted : Acted) → new.entries ≡ old.entries ++ gained old.seat op acted → IfDone acted (λ seen. old.known < seen.seq)
    → IfDone acted (λ seen. seen.seq ≤ new.known) → old.known ≤ new.known → AddsOn old new
one_added old new op (Done seen) added above within later =
    let e = entry_of old.seat op seen in
    record {
      made = e ∷ [];
      added = added;
      above = All-cons (λ x. old.known < x.seq) e [] above (All-nil (λ x. old.known < x.seq));
      within = All-cons (λ x. x.seq ≤ new.known) e [] within (All-nil (λ x. x.seq ≤ new.known));
      later = later;
    }
one_added old new op Full added above within later = record { made = []; added = added; above = All-nil (λ e. old.known < e.seq); within = All-nil (λ e. e.seq ≤ new.known); later = later }
one_added old new op NoMemory added above within later =
    record { made = []; added = added; above = All-nil (λ e. old.known < e.seq); within = All-nil (λ e. e.seq ≤ new.known); later = later }

more_added : (first next last : HandTold) → AddsOn first next → AddsOn next last → AddsOn first last
more_added first next last one two =
    let l = one.later in
    let k = two.later in
    record {
      made = one.made ++ two.made;
      added = two.added ∙ ap (λ es. es ++ two.made) one.added ∙ append_assoc first.entries one.made two.made;
      above = All-append (λ e. first.known < e.seq) one.made two.made one.above (All-weaker (λ e. next.known < e.seq) (λ e. first.known < e.seq) (λ e h. omega (arith, h, l)) two.made two.above);
      within = All-append (λ e. e.seq ≤ last.known) one.made two.made (All-weaker (λ e. e.seq ≤ next.known) (λ e. e.seq ≤ last.known) (λ e h. omega (arith, h, k)) one.made one.within) two.within;
      later = omega (arith, l, k);
    }

module _ {H : Type 0} (told : H → HandTold) (keeps : H → H → Type 0) where
  abbrev Left : H → H → Bool → Bool → Type 0
  Left old new full short = Turned told keeps old new full short

  -- nothing was done
  pub none_turned : ((hand : H) → keeps hand hand) → (hand : H) (short : Bool) → Left hand hand false short
  none_turned none hand short = record {
    same_seat = refl;
    adds = none_added (told hand);
    was_refused = sym (or_false (told hand).refused);
    is_full = λ full. absurd (cc (full));
    was_wanted = λ was. inl was;
    kept = none hand;
  }

  -- one operation was asked for
  pub acted_turned : (old new : H) (op : Op) (acted : Acted) → (told new).entries ≡ (told old).entries ++ gained (told old).seat op acted → (told new).seat ≡ (told old).seat → (told new).refused ≡ ((told old).refused || is_full acted)
      → (acted ≡ Full → IfSome (told new).front IsFull) → (IsTrue (told new).wanted → IsTrue (told old).wanted ⊎ (acted ≡ NoMemory)) → keeps old new
      → IfDone acted (λ seen. (told old).known < seen.seq) → IfDone acted (λ seen. seen.seq ≤ (told new).known) → (told old).known ≤ (told new).known → Left old new (is_full acted) (is_wanting acted)
  acted_turned old new op acted added seated refused_is full wanted_is kept above within later = record {
    same_seat = seated;
    adds = one_added (told old) (told new) op acted added above within later;
    was_refused = refused_is;
    is_full = by_full acted full;
    was_wanted = λ was. elim (wanted_is was) [ inl before ↦ inl before | inr none ↦ inr (ap is_wanting none) ];
    kept = kept;
  }
    where
      by_full : (acted : Acted) → (acted ≡ Full → IfSome (told new).front IsFull) → IsTrue (is_full acted) → IfSome (told new).front IsFull
      by_full (Done seen) full is = absurd (cc (is))
      by_full Full full is = full refl
      by_full NoMemory full is = absurd (cc (is))

  -- what was neither refused nor short, and then more
  pub more_turned : ((first next last : H) → keeps first next → keeps next last → keeps first last) → (first next last : H) (full short : Bool) → Left first next false false → Left next last full short → Left first last full short
  more_turned more first next last full short one two = record {
    same_seat = two.same_seat ∙ one.same_seat;
    adds = more_added (told first) (told next) (told last) one.adds two.adds;
    was_refused = two.was_refused ∙ ap (λ (b : Bool). b || full) (one.was_refused ∙ or_false (told first).refused);
    is_full = two.is_full;
    was_wanted = λ was. elim (two.was_wanted was) [ inl before ↦ elim (one.was_wanted before) [ inl first_was ↦ inl first_was | inr none ↦ absurd (cc (none)) ] | inr now ↦ inr now ];
    kept = more first next last one.kept two.kept;
  }
