-- Each refusal of a label set has its cause, and each cause its refusal.
use Rattle.std.proofs.Common.{◌≡◌, ◌≢◌, ℕ, zero, suc, true, false, cond, ◌||◌, ◌+◌, ◌-◌, ◌<◌, ◌≤◌, List, [], ◌∷◌, ◌++◌, length, take, drop, replicate, Some, Result, Ok, Err, refl, sym, ap, ◌∙◌, subst, arith, append_assoc, append-nil, ◌⊎◌, inl, inr}
use Rattle.std.proofs.Math.Bool.{or-true}
use Rattle.std.proofs.lemmas.Bool.{true≢false, cases_order, or_parts}
use Rattle.std.proofs.lemmas.List.{length-append, length-replicate, take_at, take-take, take-append-drop}
use Rattle.std.proofs.lemmas.List.Elements.{All-push, All-pop}
use Rattle.std.specs.Prelude.{IfErr, IsErr, IsErrAnd}
use Rattle.std.specs.Result.{is_err}
use Rattle.std.specs.List.{flat_map, list_all}
use Rattle.base.specs.Reading.{Gives}
use Rattle.base.proofs.Binds.{cond_is, err_is, ok_not_err}
use Rattle.label_sets.specs.declared.label.Label.{Label}
use Rattle.label_sets.specs.declared.label_refusal.LabelRefusal.{LabelRefusal}
use Rattle.label_sets.specs.declared.label_refusal.LabelRefusal.TheVariants.{EmptyName, EmptyValue, Repeated, BadText, NoMemory}
use Rattle.label_sets.specs.Labels.{names_of, has_lesser_name}
use Rattle.label_sets.specs.Ordered.{in_order}
use Rattle.label_sets.specs.Finals.{is_among}
use Rattle.label_sets.specs.Notation.{is_name, is_name_byte, Walk, name_length, name_at, rest_past, pair_at, pairs_at, on_pair, with_label, value_at, at_end, end_at, after_pair, stopped_at, walk_at, repeats, placed_at, conclusion, read_set, pair_text, pairs_text, set_text}
use Rattle.label_sets.specs.SetText.{ArePairs, IsSetText}
use Rattle.label_sets.specs.SetRefusals.{pair_comma_text, HasPairs, LacksName, LacksValue, RepeatsName, BeginsASet, GoesOnTo, StopsAt, IsRefused}
use Rattle.label_sets.proofs.LabelValues.{bytes_eq_differs}
use Rattle.label_sets.proofs.RepeatedNames.{repeats-nameless, repeats-last, repeats-more}
use Rattle.label_sets.proofs.ReadSets.{pair_steps, after_equals, after_quote, with_value}
use Rattle.label_sets.proofs.SetsFound.{pair_found, pair_written, pairs_and_last, BehindPairs, StopsBehind, InBraces, IsWalk, walk_is, concluded}
use Rattle.label_sets.proofs.SetsAgain.{name_again, past_it, pair_again, begins_no_end, pair_named, walk_goes_on, walk_ends_behind}
use Rattle.label_sets.proofs.SetLaws.{pairs_make_text, set_text_found, set_text_again}
use Rattle.label_sets.proofs.StopPlaces.{Stops, past_first, HasName, PairRefused, pair_refused}

abbrev commas : List Label → List ℕ
commas labels = flat_map pair_comma_text labels

-- ---- a name that no label has

total_names : List Label → ℕ
total_names [] = 0
total_names (l ∷ ls) = length l.name + total_names ls

fresh : List Label → List ℕ
fresh labels = replicate (suc (total_names labels)) 97

letters_named : (n : ℕ) → list_all is_name_byte (replicate n 97) ≡ true
letters_named zero = refl
letters_named (suc n) = letters_named n

fresh_named : (labels : List Label) → is_name (fresh labels) ≡ true
unfolding is_name fresh
fresh_named labels = letters_named (total_names labels)

not_long : (labels : List Label) (n : ℕ) → total_names labels < n → is_among (names_of labels) (replicate n 97) ≡ false
unfolding total_names is_among
not_long [] n few = refl
not_long (l ∷ ls) n few = λ i. bytes_eq_differs l.name (replicate n 97) (λ e. let same = ap length e ∙ length-replicate n _ in absurd (omega arith)) i || not_long ls n (omega arith) i

fresh_new : (labels : List Label) → repeats (names_of labels) ≡ false → repeats (fresh labels ∷ names_of labels) ≡ false
unfolding repeats fresh
fresh_new labels once = λ i. not_long labels (suc (total_names labels)) (omega arith) i || once i

-- ---- what begins a set

begun : (labels : List Label) → ArePairs labels → repeats (names_of labels) ≡ false → BeginsASet (123 ∷ pairs_text labels)
unfolding set_text
begun labels are once = record { after = 125 ∷ []; set = in_order has_lesser_name labels; is_text = pairs_make_text labels are once }

shorter_begins : (front more : List ℕ) → BeginsASet (front ++ more) → BeginsASet front
shorter_begins front more b = record { after = more ++ b.after; set = b.set; is_text = subst (λ t. IsSetText t b.set) (append_assoc front more b.after) b.is_text }

begun_pair : (labels : List Label) (l : Label) (front more : List ℕ) → ArePairs labels → (is_name l.name ≡ true) × (l.value ≢ []) → repeats (l.name ∷ names_of labels) ≡ false → front ++ more ≡ pair_text l → BeginsASet (123 ∷ (commas labels ++ front))
begun_pair labels l front more are one once shape =
    shorter_begins (123 ∷ (commas labels ++ front)) more
    (rw (append_assoc (commas labels) front more, shape, ← pairs_and_last labels l)
    (begun _ (All-push (λ l. (is_name l.name ≡ true) × (l.value ≢ [])) _ l are one) (repeats-last _ l ∙ once)))

-- what is refused whatever follows begins none
no_beginning : (front : List ℕ) → ((more : List ℕ) → IsErr (walk_at (front ++ more)).1) → ¬ BeginsASet front
unfolding read_set
no_beginning front bad b =
    let text : List ℕ = front ++ b.after in
    let c = concluded (length text) _ _ _ _ (ap read_set (sym (append-nil text)) ∙ set_text_again _ _ _ b.is_text) in
    true≢false (sym (bad b.after) ∙ ap is_err c.1)

-- ---- a place where it stops

further : (front after : List ℕ) → ((c : ℕ) (others : List ℕ) → after ≡ c ∷ others → ¬ BeginsASet (front ++ c ∷ [])) → length front < length (front ++ after) → ¬ BeginsASet (take (suc (length front)) (front ++ after))
further front [] h l = absurd (omega (arith, length-append front []))
further front (c ∷ others) h l =
    let one : length (front ++ c ∷ []) ≡ suc (length front) = omega (arith, length-append front (c ∷ [])) in
    let cut = ap (take (suc (length front))) (sym (append_assoc front (c ∷ []) others)) ∙ take_at _ _ _ one in
    λ b. h c others refl (subst BeginsASet cut b)

reaches : (text front after : List ℕ) → text ≡ front ++ after → BeginsASet front → ((c : ℕ) (others : List ℕ) → after ≡ c ∷ others → ¬ BeginsASet (front ++ c ∷ [])) → GoesOnTo text (length text - length after)
reaches text front after e b h =
    let at : length front ≡ length text - length after = omega (arith, ap length e, length-append front after) in
    rw (← at, e) (record {
      within = omega (arith, length-append front after);
      so_far = rw (take_at) b;
      no_further = further _ _ h;
    })

on_pair_bad : (more : List ℕ → Walk) (text : List ℕ) (r : Result (Label × List ℕ) LabelRefusal) → IsErr r → IsErr (on_pair more text r).1
unfolding on_pair
on_pair_bad _ _ (Ok read) bad = absurd (true≢false (sym bad))
on_pair_bad _ _ (Err e) bad = refl

end_bad : (text : List ℕ) (r : Result (List ℕ) LabelRefusal) → IsErr r → IsErr (at_end text r).1
unfolding at_end stopped_at
end_bad _ (Ok after) bad = absurd (true≢false (sym bad))
end_bad _ (Err e) bad = refl

past_same : (front : List ℕ) (c : ℕ) (others more : List ℕ) → IsErr (rest_past 125 (front ++ c ∷ others)) → IsErr (rest_past 125 (front ++ c ∷ more))
past_same [] c _ _ h = past_first _ c _ _ h
past_same (x ∷ front) c _ _ h = past_first _ x _ _ h

-- behind pairs with commas, where with this byte every walk is refused
stops_after : (text : List ℕ) (labels : List Label) (front after : List ℕ) → HasPairs text labels (front ++ after) → BeginsASet (123 ∷ (commas labels ++ front))
    → ((c : ℕ) (others behind : List ℕ) → after ≡ c ∷ others → IsErr (walk_at (123 ∷ (commas labels ++ (front ++ c ∷ behind)))).1) → GoesOnTo text (length text - length after)
stops_after _ labels front after p b bad =
    reaches _ _ _ (p.begins ∙ ap (λ t. 123 ∷ t) (sym (append_assoc (commas labels) front after))) b
    (λ c others g. no_beginning ((123 ∷ (commas labels ++ front)) ++ c ∷ []) (λ behind. simp append_assoc (bad c others behind g)))

-- within a pair
in_pair_reaches : (text : List ℕ) (labels : List Label) (pair : List ℕ) (e : LabelRefusal) → HasPairs text labels pair → (labels ≡ [] → IsErr (rest_past 125 pair)) → repeats (name_at pair ∷ names_of labels) ≡ false
    → (s : Stops pair_at (HasName (name_at pair) (fresh labels)) pair e) → GoesOnTo text (length text - length s.after)
unfolding repeats
in_pair_reaches text labels pair e p closed once s =
    let more = s.so_far in
    let found : s.front ++ more.0 ≡ pair_text more.1.0 = pair_found (s.front ++ more.0) more.1.0 _ more.2 ∙ ap (λ t. pair_text more.1.0 ++ t) more.3.0 ∙ append-nil (pair_text more.1.0) in
    let new : repeats (more.1.0.name ∷ names_of labels) ≡ false = elim more.3.1 [
      | inl own ↦ rw (own, once)
      | inr its ↦ rw its (fresh_new _ (or_parts _ _ once).1)
    ] in
    stops_after _ _ _ _ (subst (HasPairs text labels) s.whole p)
    (begun_pair _ _ _ more.0 p.lawful (pair_written (s.front ++ more.0) more.1.0 more.1.1 more.2) new found)
    (λ c others behind g.
    let other : List ℕ = s.front ++ c ∷ behind in
    let walk = walk_goes_on labels other p.lawful (λ none. past_same s.front c others behind (subst (λ t. IsErr (rest_past 125 t)) (s.whole ∙ ap (λ t. s.front ++ t) g) (closed none))) in
    rw walk.1 (on_pair_bad (pairs_at walk.0) other (pair_at other) (s.here c others behind g)))

-- behind a pair
behind_reaches : (text : List ℕ) (labels : List Label) (stop : LabelRefusal × List ℕ) (s : StopsBehind text labels stop) → repeats (names_of labels) ≡ false → GoesOnTo text (length text - length s.rest)
unfolding end_at
behind_reaches _ _ _ s once =
    let b = s.behind in
    stops_after _ _ _ _ b.pairs
    (subst (λ t. BeginsASet (123 ∷ t)) (ap pairs_text b.labels_are ∙ pairs_and_last _ _) (begun _ b.lawful once))
    (λ c others behind g.
    let first : (byte : ℕ) → IsErr (rest_past byte s.rest) → IsErr (rest_past byte (c ∷ behind)) = λ byte bad. past_first byte c others behind (subst (λ t. IsErr (rest_past byte t)) g bad) in
    rw (walk_ends_behind b.front b.last (c ∷ behind) (subst ArePairs b.labels_are b.lawful) (first 44 s.no_comma)) (end_bad _ _ (first 125 s.no_end)))

-- at the start of a text without the opening brace
start_reaches : (text : List ℕ) → IsErr (rest_past 123 text) → GoesOnTo text (length text - length text)
unfolding set_text repeats pairs_text
start_reaches text bad =
    reaches _ _ _ refl (shorter_begins [] (123 ∷ []) (begun [] (λ k d lt. absurd (omega arith)) refl))
    (λ c others g b. true≢false (sym (past_first _ c _ _ (subst (λ t. IsErr (rest_past 123 t)) g bad)) ∙ ap (λ t. is_err (rest_past 123 t)) b.is_text.written ∙ ap is_err (past_it _ _)))

-- ---- each refusal has its cause

abbrev Cause : List ℕ → LabelRefusal → Type 0
Cause text EmptyName = LacksName text
Cause text EmptyValue = LacksValue text
Cause text Repeated = RepeatsName text
Cause text (BadText place) = GoesOnTo text place
Cause text NoMemory = ⊥

-- a name that stands twice among whole pairs
repeated_pairs : (text : List ℕ) (labels : List Label) (rest : List ℕ) → BehindPairs text labels rest → repeats (names_of labels) ≡ true → RepeatsName text
repeated_pairs text labels rest b t =
    let parts = All-pop (λ (l : Label). (is_name l.name ≡ true) × (l.value ≢ [])) labels b.front (Some b.last) b.labels_are b.lawful in
    let name_is = (pair_steps (pair_text b.last ++ rest) b.last rest (pair_again b.last rest parts.1.0 parts.1.1)).name_is in
    record {
      listed = b.front;
      after = pair_text b.last ++ rest;
      pairs = b.pairs;
      again = rw (← name_is, ← repeats-last b.front b.last, ← b.labels_are, t);
    }

-- where a walk stopped and no name stands twice
stop_cause : (text : List ℕ) (labels : List Label) (pair : List ℕ) (d : LabelRefusal) → HasPairs text labels pair → (labels ≡ [] → IsErr (rest_past 125 pair)) → repeats (name_at pair ∷ names_of labels) ≡ false
    → PairRefused (fresh labels) pair d → Cause text (placed_at (length text) d)
unfolding placed_at name_at name_length
stop_cause text labels _ d p closed once (inl why) = rw why.0 (record {
  listed = labels;
  after = why.1.0;
  pairs = subst (HasPairs text labels) why.1.1 p;
  once = sym (repeats-nameless _ p.lawful) ∙ ap (λ t. repeats (name_at t ∷ names_of labels)) (sym why.1.1) ∙ once;
})
stop_cause text labels pair d p closed once (inr (inl why)) = rw why.0 (record {
  listed = labels;
  name = name_at pair;
  after = why.1.0;
  pairs = subst (HasPairs text labels) (why.1.1 ∙ sym (append_assoc (name_at pair) (61 ∷ 34 ∷ 34 ∷ []) why.1.0)) p;
  named = why.1.2;
  once = once;
})
stop_cause _ _ _ d p closed once (inr (inr s)) = rw s.place_is (in_pair_reaches _ _ _ d p closed once s)

-- where a walk behind the opening brace came to its end
braces_cause : (text : List ℕ) (labels : List Label) (end : Result (List ℕ) (LabelRefusal × List ℕ)) (e : LabelRefusal) → InBraces text labels end → conclusion (length text) labels end ≡ Err e → Cause text e
unfolding conclusion name_at name_length placed_at
braces_cause text labels (Ok after) e b h = elim (cond_is (repeats (names_of labels)) (Err Repeated) (Ok (in_order has_lesser_name labels, length text - length after)) (Err e) h) [
  | inl t ↦ subst (Cause text) (err_is Repeated e t.1) (repeated_pairs _ _ _ b.1 t.0)
  | inr f ↦ absurd (true≢false (sym (ap is_err f.1)))
]
braces_cause text labels (Err stop) e b h =
    let whole : StopsBehind text labels stop → repeats (names_of labels) ≡ repeats (name_at stop.1 ∷ names_of labels) = λ s. sym (repeats-nameless _ s.behind.lawful) ∙ ap (λ x. repeats (name_at x.1 ∷ names_of labels)) (sym s.stop_is) in
    elim (cond_is _ (Err Repeated) (Err (placed_at (length text) stop.0)) (Err e) h) [
      | inl t ↦ subst (Cause text) (err_is _ e t.1) (elim b.1 [
        | inl s ↦ record { listed = labels; after = stop.1; pairs = s.0; again = t.0 }
        | inr s ↦ repeated_pairs _ _ _ s.behind (whole s ∙ t.0)
      ])
      | inr f ↦ subst (Cause text) (err_is _ e f.1) (elim b.1 [
        | inl s ↦ stop_cause _ _ _ _ s.0 (λ none. subst (λ ls. IsErr (rest_past 125 (commas ls ++ stop.1))) none (b.0 (commas labels ++ stop.1) s.0.begins)) f.0
            (pair_refused _ _ _ (fresh_named _) s.1)
        | inr s ↦ subst (λ x. Cause text (placed_at (length text) x.0)) (sym s.stop_is) (behind_reaches _ _ _ s (whole s ∙ f.0))
      ])
    ]

walk_cause : (text : List ℕ) (w : Walk) (e : LabelRefusal) → IsWalk text w → conclusion (length text) w.0 w.1 ≡ Err e → Cause text e
unfolding conclusion stopped_at placed_at repeats name_at name_length is_among
walk_cause text w e (inl stop) h =
    subst (Cause text) (err_is _ e (rw stop.1 at h)) (start_reaches _ stop.0)
walk_cause text w e (inr (inl empty)) h = absurd (true≢false (sym (ap is_err (rw empty.2 at h))))
walk_cause text w e (inr (inr braces)) h = braces_cause _ _ _ e braces h

cause_of : (text : List ℕ) (e : LabelRefusal) → read_set text ≡ Err e → Cause text e
unfolding read_set
cause_of _ e h = walk_cause _ _ e (walk_is _) h

-- ---- and back

-- a pair that is refused behind others
refused_behind : (text : List ℕ) (labels : List Label) (pair : List ℕ) (d : LabelRefusal) → HasPairs text labels pair → (labels ≡ [] → IsErr (rest_past 125 pair)) → pair_at pair ≡ Err d
    → read_set text ≡ cond (repeats (name_at pair ∷ names_of labels)) (Err Repeated) (Err (placed_at (length text) d))
unfolding on_pair conclusion read_set
refused_behind text labels _ d p unclosed h = let w = walk_goes_on _ _ p.lawful unclosed in rw (p.begins, w.1, h, append-nil labels)

-- the equals sign, and the empty value
lacks_name_again : (text : List ℕ) → LacksName text → read_set text ≡ Err EmptyName
unfolding placed_at name_at name_length pair_at rest_past after_equals after_quote with_value
lacks_name_again _ t =
    refused_behind _ _ _ _ t.pairs (λ none. refl) refl
    ∙ rw (repeats-nameless t.listed t.pairs.lawful ∙ t.once)

named_at : (name rest : List ℕ) → is_name name ≡ true → name_at (name ++ 61 ∷ rest) ≡ name
unfolding name_at
named_at name rest is = rw (name_again name rest 61 is refl) (take_at _ _ _ refl)

lacks_value_again : (text : List ℕ) → LacksValue text → read_set text ≡ Err EmptyValue
unfolding placed_at rest_past after_quote with_value value_at
lacks_value_again text t =
    let pair = t.name ++ 61 ∷ 34 ∷ 34 ∷ t.after in
    refused_behind _ _ _ _ (subst (HasPairs text t.listed) (append_assoc t.name (61 ∷ 34 ∷ 34 ∷ []) t.after) t.pairs)
    (λ none. begins_no_end t.name (61 ∷ 34 ∷ 34 ∷ t.after) t.named) (pair_named _ _ _ t.named refl)
    ∙ rw (named_at t.name (34 ∷ 34 ∷ t.after) t.named, t.once)

-- a name that stands twice among what was read is refused whatever the end
repeated_whole : (total : ℕ) (labels : List Label) (end : Result (List ℕ) (LabelRefusal × List ℕ)) → repeats (names_of labels) ≡ true → conclusion total labels end ≡ Err Repeated
unfolding conclusion repeats
repeated_whole _ _ (Ok after) t = rw t
repeated_whole _ _ (Err stop) t = rw (t, or-true)

repeated_pair : (text : List ℕ) (labels : List Label) (pair : List ℕ) (r : Result (Label × List ℕ) LabelRefusal) → pair_at pair ≡ r → HasPairs text labels pair → (labels ≡ [] → IsErr (rest_past 125 pair))
    → repeats (name_at pair ∷ names_of labels) ≡ true → read_set text ≡ Err Repeated
unfolding on_pair with_label read_set
repeated_pair _ _ _ (Err d) h p unclosed t = refused_behind _ _ _ d p unclosed h ∙ rw t
repeated_pair _ labels _ (Ok read) h p unclosed t =
    let w = walk_goes_on _ _ p.lawful unclosed in
    let more = after_pair (pairs_at w.0) read.1 in
    let once : repeats (names_of (labels ++ read.0 ∷ [])) ≡ true = rw (repeats-last, (pair_steps _ _ _ h).name_is, t) in
    rw (p.begins, w.1, h) (repeated_whole _ _ _
    (ap (λ ls. repeats (names_of ls)) (sym (append_assoc labels (read.0 ∷ []) more.0)) ∙ repeats-more _ _ once))

repeats_again : (text : List ℕ) → RepeatsName text → read_set text ≡ Err Repeated
unfolding repeats is_among
repeats_again _ t = repeated_pair _ _ _ _ refl t.pairs (λ none. absurd (true≢false (sym (rw none at t.again)))) t.again

-- ---- the laws

stops_from : (text : List ℕ) (place : ℕ) → read_set text ≡ Err (BadText place) → GoesOnTo text place → StopsAt text place
stops_from text place h r = record {
  goes_on = r;
  no_set = λ front after set is e. ok_not_err (set, length front) (BadText place) (read_set text) (ap read_set e ∙ set_text_again _ _ _ is) h;
  no_lack = λ t. absurd (cc (sym (lacks_name_again _ t) ∙ h));
  no_empty = λ t. absurd (cc (sym (lacks_value_again _ t) ∙ h));
  no_repeat = λ t. absurd (cc (sym (repeats_again _ t) ∙ h));
}

-- each refusal has its cause
pub refused_is : (text : List ℕ) (e : LabelRefusal) → read_set text ≡ Err e → IsRefused text e
refused_is _ EmptyName h = cause_of _ _ h
refused_is _ EmptyValue h = cause_of _ _ h
refused_is _ Repeated h = cause_of _ _ h
refused_is _ (BadText place) h = stops_from _ _ h (cause_of _ _ h)
refused_is _ NoMemory h = cause_of _ _ h

begins_before : (text : List ℕ) (p q : ℕ) → p ≤ q → BeginsASet (take q text) → BeginsASet (take p text)
begins_before text p q l b =
    let cut = sym (take-append-drop p _) ∙ ap (λ t. t ++ drop p (take q text)) (take-take p q _ l) in
    shorter_begins _ _ (subst BeginsASet cut b)

same_place : (text : List ℕ) (p q : ℕ) → GoesOnTo text p → GoesOnTo text q → p ≡ q
same_place _ p q s r = elim (cases_order p q) [
  | inl same ↦ same
  | inr differs ↦ elim differs [
    | inl below ↦ absurd (s.no_further (omega arith) (begins_before _ (suc p) q (omega arith) r.so_far))
    | inr above ↦ absurd (r.no_further (omega arith) (begins_before _ (suc q) p (omega arith) s.so_far))
  ]
]

stop_again : (text : List ℕ) (place : ℕ) (r : Result (List Label × ℕ) LabelRefusal) → StopsAt text place → read_set text ≡ r → r ≡ Err (BadText place)
stop_again text place (Ok read) s h = absurd (s.no_set (take read.1 text) (drop read.1 text) read.0 (set_text_found text read.0 read.1 h) (sym (take-append-drop read.1 text)))
stop_again text place (Err EmptyName) s h = absurd (s.no_lack (refused_is text EmptyName h))
stop_again text place (Err EmptyValue) s h = absurd (s.no_empty (refused_is _ _ h))
stop_again text _ (Err Repeated) s h = absurd (s.no_repeat (refused_is _ _ h))
stop_again _ _ (Err (BadText other)) s h = ap (λ p. Err (BadText p)) (same_place _ _ _ (cause_of _ _ h) s.goes_on)
stop_again _ _ (Err NoMemory) s h = absurd (refused_is _ _ h)

-- and each cause its refusal
pub refused_exactly : (text : List ℕ) (e : LabelRefusal) → IsRefused text e → read_set text ≡ Err e
refused_exactly _ EmptyName t = lacks_name_again _ t
refused_exactly _ EmptyValue t = lacks_value_again _ t
refused_exactly _ Repeated t = repeats_again _ t
refused_exactly _ (BadText place) t = stop_again _ _ _ t refl
refused_exactly _ NoMemory t = absurd t

-- what a call that reads a set refuses
pub refused_of : {X : Type 0} (view : X → List Label × ℕ) (r : Result X LabelRefusal) (text : List ℕ) → Gives NoMemory view r (read_set text) → IfErr r (λ e. (e ≡ NoMemory) ⊎ IsRefused text e)
refused_of _ (Ok x) _ h = tt
refused_of _ (Err e) _ (inl none) = inl none
refused_of _ (Err e) _ (inr h) = inr (refused_is _ e h)

pub exact_of : {X : Type 0} (view : X → List Label × ℕ) (r : Result X LabelRefusal) (text : List ℕ) (refusal : LabelRefusal) → Gives NoMemory view r (read_set text) → IsRefused text refusal → IsErrAnd r (λ e. (e ≡ NoMemory) ⊎ (e ≡ refusal))
exact_of _ (Ok x) _ _ h t = absurd (ok_not_err _ _ _ h (refused_exactly _ _ t))
exact_of _ (Err e) _ _ (inl none) t = inl none
exact_of _ (Err e) _ _ (inr h) t = inr (err_is e _ (sym h ∙ refused_exactly _ _ t))
