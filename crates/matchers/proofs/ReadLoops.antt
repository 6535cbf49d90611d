-- The loop over the bytes of a selector.
use Rattle.std.proofs.Common.{◌≡◌, ℕ, ◌+◌, ◌<◌, ◌≤◌, List, [], length, drop, get_or, Result, Ok, Err, ◌⊎◌, inl, inr, sym, ap, ◌∙◌, subst}
use Rattle.std.proofs.lemmas.List.{drop_more, drop_all}
use Rattle.std.specs.Prelude.{IsErrAnd}
use Rattle.base.specs.Reading.{◌>>=◌, Gives}
use Rattle.matchers.specs.declared.draft.Draft.{Draft}
use Rattle.matchers.specs.declared.selector_refusal.SelectorRefusal.{SelectorRefusal}
use Rattle.matchers.specs.declared.selector_refusal.SelectorRefusal.TheVariants.{NoMemory}
use Rattle.matchers.specs.Stages.{Next, step, ended_draft, read_from, read_whole}

pub byte_more : (draft next : Draft) (place : ℕ) (text : List ℕ) (byte : ℕ) → place < length text → get_or text place 0 ≡ byte
    → read_whole text ≡ read_from draft place (drop place text) → step draft place byte ≡ Ok next → read_whole text ≡ read_from next (place + 1) (drop (place + 1) text)
unfolding read_from
byte_more draft next place text byte within here so_far goes =
    so_far ∙ ap (read_from draft place) (drop_more text place 0 within)
    ∙ ap (λ (b : ℕ). step draft place b >>= λ one. read_from one (place + 1) (drop (place + 1) text)) here
    ∙ ap (λ (r : Next). r >>= λ one. read_from one (place + 1) (drop (place + 1) text)) goes

stopped : (draft : Draft) (place : ℕ) (text : List ℕ) (byte : ℕ) (e : SelectorRefusal) → place < length text → get_or text place 0 ≡ byte
    → read_whole text ≡ read_from draft place (drop place text) → step draft place byte ≡ Err e → read_whole text ≡ Err e
unfolding read_from
stopped draft place text byte e within here so_far stops =
    so_far ∙ ap (read_from draft place) (drop_more text place 0 within)
    ∙ ap (λ (b : ℕ). step draft place b >>= λ one. read_from one (place + 1) (drop (place + 1) text)) here
    ∙ ap (λ (r : Next). r >>= λ one. read_from one (place + 1) (drop (place + 1) text)) stops

pub byte_stops : {X : Type 0} (view : X → Draft) (result : Result X SelectorRefusal) (draft : Draft) (place : ℕ) (text : List ℕ) (byte : ℕ) (e : SelectorRefusal)
    → place < length text → get_or text place 0 ≡ byte → read_whole text ≡ read_from draft place (drop place text)
    → IsErrAnd result (λ d. d ≡ e) → (e ≡ NoMemory) ⊎ (step draft place byte ≡ Err e) → Gives NoMemory view result (read_whole text)
byte_stops view (Ok x) draft place text byte e within here so_far is cause = absurd is
byte_stops view (Err d) draft place text byte e within here so_far is (inl out) = inl (is ∙ out)
byte_stops view (Err d) draft place text byte e within here so_far is (inr stops) = inr (stopped draft place text byte e within here so_far stops ∙ ap Err (sym is))

pub bytes_end : {X : Type 0} (view : X → Draft) (result : Result X SelectorRefusal) (draft : Draft) (place : ℕ) (text : List ℕ) → length text ≤ place
    → read_whole text ≡ read_from draft place (drop place text) → Gives NoMemory view result (ended_draft draft (length text)) → place ≡ length text → Gives NoMemory view result (read_whole text)
unfolding read_from
bytes_end view result draft place text past so_far gives at =
    let none : drop place text ≡ [] = drop_all place text past in
    let is : read_whole text ≡ ended_draft draft (length text) = so_far ∙ ap (read_from draft place) none ∙ ap (ended_draft draft) at in
    subst (Gives NoMemory view result) (sym is) gives
