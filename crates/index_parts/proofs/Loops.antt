-- Loops over members that are told from the one before them.
use Rattle.std.proofs.Common.{◌≡◌, ℕ, ◌<◌, ◌≤◌, List, [], ◌∷◌, ◌++◌, Result, Ok, Err, refl, sym, ap, ◌∙◌, ◌+◌, arith, inr}
use Rattle.std.proofs.lemmas.List.{map_push}
use Rattle.std.specs.Prelude.{IsErrAnd}
use Rattle.base.specs.Reading.{◌>>=◌, Gives}
use Rattle.base.specs.Members.{members_at}
use Rattle.wire_bytes.specs.Position.{Position}
use Rattle.index_parts.specs.declared.refusal.PartRefusal.{PartRefusal}
use Rattle.index_parts.specs.declared.raw_series.RawLabel.{RawLabel}
use Rattle.index_parts.specs.SeriesReading.{label_at, names_of, values_of}
use Rattle.base.proofs.Counted.{loop_start, members_more, members_stop}

pub turns_exit : {X A S E : Type 0} (read : S → Result (A × S) E) (no_memory : E) (view : X → List A) (result : Result X E) (i n : ℕ) (s t : S) (front : List A) (e : E) → members_at read i s ≡ Ok (front, t) → IsErrAnd result (λ d. d ≡ e) → read t ≡ Err e → i < n
    → Gives no_memory view result (members_at read n s >>= λ members. Ok members.0)
turns_exit _ _ _ (Ok y) i n s t _ e so_far is refused lt = absurd is
turns_exit read _ _ (Err d) i n s t front e so_far is refused lt = rw (is, members_stop read i n s t front e lt so_far refused) (inr refl)

pub turns_end : {A S E : Type 0} (read : S → Result (A × S) E) (i n : ℕ) (s t : S) (xs : List A) → members_at read i s ≡ Ok (xs, t) → n ≤ i → i ≤ n → (members_at read n s >>= λ members. Ok members.0) ≡ Ok xs
turns_end _ i n s t _ so_far above below = let all : n ≡ i = omega arith in rw (all, so_far) refl

-- labels whose symbol numbers go into two lists
pub record AreRead (names values : List ℕ) (count : ℕ) (s t : Position) : Type 0 where
  pub found : List RawLabel
  pub names_are : names ≡ names_of found
  pub values_are : values ≡ values_of found
  pub read_is : members_at label_at count s ≡ Ok (found, t)

abbrev split : Result (List RawLabel × Position) PartRefusal → Result ((List ℕ × List ℕ) × Position) PartRefusal
split r = r >>= λ labels. Ok ((names_of labels.0, values_of labels.0), labels.1)

pub labels_begin : (names values : List ℕ) (s : Position) → names ≡ [] → values ≡ [] → AreRead names values 0 s s
labels_begin _ _ s a b = record { found = []; names_are = a; values_are = b; read_is = loop_start label_at s }

pub labels_more : (names values more others : List ℕ) (count : ℕ) (s t u : Position) (label : RawLabel) → AreRead names values count s t → label_at t ≡ Ok (label, u) → more ≡ names ++ label.name.number ∷ [] → others ≡ values ++ label.value.number ∷ [] → AreRead more others (count + 1) s u
labels_more _ _ _ _ _ s t u label h one a b = record {
  found = h.found ++ label ∷ [];
  names_are = a ∙ ap (λ l. l ++ label.name.number ∷ []) h.names_are ∙ sym (map_push (λ label. label.name.number) _ _);
  values_are = b ∙ ap (λ l. l ++ label.value.number ∷ []) h.values_are ∙ sym (map_push (λ label. label.value.number) _ _);
  read_is = members_more label_at _ s t u _ _ h.read_is one;
}

pub labels_end : (names values : List ℕ) (i n : ℕ) (s t : Position) → AreRead names values i s t → n ≤ i → i ≤ n → split (members_at label_at n s) ≡ Ok ((names, values), t)
labels_end _ _ i n s t h above below = let all : n ≡ i = omega arith in rw (all, h.read_is, h.names_are, h.values_are) refl

pub labels_exit : {X : Type 0} (no_memory : PartRefusal) (view : X → (List ℕ × List ℕ) × Position) (result : Result X PartRefusal) (names values : List ℕ) (i n : ℕ) (s t : Position) (e : PartRefusal) → AreRead names values i s t → IsErrAnd result (λ d. d ≡ e) → label_at t ≡ Err e → i < n → Gives no_memory view result (split (members_at label_at n s))
labels_exit _ _ (Ok y) _ _ i n s t e h is refused lt = absurd is
labels_exit _ _ (Err d) _ _ i n s t e h is refused lt = rw (is, members_stop label_at i n s t h.found e lt h.read_is refused) (inr refl)
