-- Where the reading of a value or a pair stops: what stands before the place can go on to one, and with another byte than
-- a good one at the place nothing can, whatever follows.
use Rattle.std.proofs.Common.{◌≡◌, ◌≢◌, ℕ, suc, Bool, true, false, cond, eqb, ◌||◌, nat_lt, ◌+◌, List, [], ◌∷◌, ◌++◌, length, drop, Result, Ok, Err, refl, sym, ap, ◌∙◌, subst, arith, append_assoc, ◌⊎◌, inl, inr}
use Rattle.std.proofs.lemmas.Bool.{true≢false, cases_Bool}
use Rattle.std.proofs.lemmas.Bool.Decides.{nat_tests}
use Rattle.std.proofs.lemmas.List.{take-append-drop, drop_at, nil_from_length}
use Rattle.std.specs.Prelude.{IsErr}
use Rattle.std.specs.Result.{is_err}
use Rattle.std.specs.List.{prefix_len}
use Rattle.base.specs.Reading.{◌>>=◌, ◌>>◌, unless}
use Rattle.base.proofs.Binds.{bind_err, err_is}
use Rattle.label_sets.specs.declared.label.Label.{Label}
use Rattle.label_sets.specs.declared.label_refusal.LabelRefusal.{LabelRefusal}
use Rattle.label_sets.specs.declared.label_refusal.LabelRefusal.TheVariants.{EmptyName, EmptyValue, BadText}
use Rattle.label_sets.specs.Notation.{is_name, is_name_byte, name_length, name_at, rest_past, with_byte, value_at, pair_at, quoted}
use Rattle.base.proofs.Lists.{cons_parts, nil_not_cons}
use Rattle.label_sets.proofs.ReadPairs.{rest_past-only, value_is_quoted}
use Rattle.label_sets.proofs.ReadSets.{with_value, after_quote, after_equals}
use Rattle.label_sets.proofs.SetsFound.{name_read}
use Rattle.label_sets.proofs.SetsAgain.{name_again, value_some, pair_named}

-- a refusal at a place of a text: what was read up to it, and that no good byte stands there
pub record Stops {A : Type 0} (read : List ℕ → Result A LabelRefusal) (Well : A → Type 0) (text : List ℕ) (e : LabelRefusal) : Type 0 where
  pub front : List ℕ
  pub after : List ℕ
  pub whole : text ≡ front ++ after
  pub place_is : e ≡ BadText (length after)
  pub so_far : (more : List ℕ) × (x : A) × (read (front ++ more) ≡ Ok x) × Well x
  pub here : (c : ℕ) (others more : List ℕ) → after ≡ c ∷ others → IsErr (read (front ++ c ∷ more))

-- a stop behind what is read first
later : {A B : Type 0} {read : List ℕ → Result A LabelRefusal} {next : List ℕ → Result B LabelRefusal} {Well : A → Type 0} {Fine : B → Type 0} {text : List ℕ} {e : LabelRefusal} (used : List ℕ)
    → ((t : List ℕ) (y : B) → next t ≡ Ok y → Fine y → (x : A) × (read (used ++ t) ≡ Ok x) × Well x)
    → ((t : List ℕ) → IsErr (next t) → IsErr (read (used ++ t)))
    → Stops next Fine text e → Stops read Well (used ++ text) e
later {read = read} used well bad s = record {
  front = used ++ s.front;
  after = s.after;
  whole = ap (λ t. used ++ t) s.whole ∙ sym (append_assoc used s.front s.after);
  place_is = s.place_is;
  so_far =
      let w = well (s.front ++ s.so_far.0) s.so_far.1 s.so_far.2 s.so_far.3 in
      (s.so_far.0, w.0, ap read (append_assoc used s.front s.so_far.0) ∙ w.1, w.2);
  here = λ c others more f. subst (λ t. IsErr (read t)) (sym (append_assoc used s.front (c ∷ more))) (bad (s.front ++ c ∷ more) (s.here c others more f));
}

-- a stop at the first byte
at_once : {A : Type 0} {read : List ℕ → Result A LabelRefusal} {Well : A → Type 0} {text : List ℕ} {e : LabelRefusal} (more : List ℕ) (x : A) → read more ≡ Ok x → Well x → e ≡ BadText (length text)
    → ((c : ℕ) (others behind : List ℕ) → text ≡ c ∷ others → IsErr (read (c ∷ behind))) → Stops read Well text e
at_once {text = text} more x r w p h = record { front = []; after = text; whole = refl; place_is = p; so_far = (more, x, r, w); here = h }

-- whether a byte is good does not depend on what follows it
pub past_first : (byte c : ℕ) (others more : List ℕ) → IsErr (rest_past byte (c ∷ others)) → IsErr (rest_past byte (c ∷ more))
unfolding rest_past
past_first byte c others more = elim (eqb c byte) as (λ b. IsErr (cond b (Ok others) (Err (BadText (length (c ∷ others))))) → IsErr (cond b (Ok more) (Err (BadText (length (c ∷ more)))))) [ true ↦ λ h. h | false ↦ λ h. h ]

past_bad : (byte : ℕ) (text : List ℕ) (e : LabelRefusal) → rest_past byte text ≡ Err e → e ≡ BadText (length text)
unfolding rest_past
past_bad _ [] e h = sym (err_is _ e h)
past_bad byte (c ∷ text) e h = elim (cases_Bool (eqb c byte)) [
  | inl t ↦ absurd (true≢false (sym (ap is_err (rw t at h))))
  | inr f ↦ sym (err_is (BadText (length (c ∷ text))) e (rw f at h))
]

bind_bad : {A B : Type 0} (r : Result A LabelRefusal) (f : A → Result B LabelRefusal) → IsErr r → IsErr (r >>= f)
bind_bad (Ok x) f h = absurd (true≢false (sym h))
bind_bad (Err e) f h = refl

-- ---- a value

abbrev IsValue : List ℕ × List ℕ → Type 0
IsValue v = (v.0 ≢ []) × (v.1 ≡ [])

with_byte_bad : (byte : ℕ) (r : Result (List ℕ × List ℕ) LabelRefusal) → IsErr r → IsErr (with_byte byte r)
unfolding with_byte
with_byte_bad _ (Ok x) h = absurd (true≢false (sym h))
with_byte_bad _ (Err e) h = refl

with_byte_refused : (byte : ℕ) (e : LabelRefusal) (r : Result (List ℕ × List ℕ) LabelRefusal) → with_byte byte r ≡ Err e → r ≡ Err e
unfolding with_byte
with_byte_refused _ e (Ok x) h = absurd (true≢false (sym (ap is_err h)))
with_byte_refused _ e (Err d) h = ap (λ x. Err x) (err_is d e h)

-- behind a byte of a value
behind_byte : (escaping : Bool) (byte sign : ℕ) (text : List ℕ) (e : LabelRefusal) → ((t : List ℕ) → value_at escaping (byte ∷ t) ≡ with_byte sign (value_at false t)) → Stops (value_at false) IsValue text e → Stops (value_at escaping) IsValue (byte ∷ text) e
unfolding with_byte
behind_byte _ byte sign _ e step s = later (byte ∷ [])
    (λ t y h w. ((sign ∷ y.0, y.1), step t ∙ ap (with_byte sign) h, (λ none. absurd cc, w.1)))
    (λ t h. subst IsErr (sym (step t)) (with_byte_bad _ _ h)) s

-- a value of one byte after each front
one_more : (escaping : Bool) → (more : List ℕ) × (v : List ℕ × List ℕ) × (value_at escaping more ≡ Ok v) × IsValue v
unfolding value_at with_byte
one_more true = (110 ∷ 34 ∷ [], (10 ∷ [], []), refl, (λ none. absurd cc, refl))
one_more false = (120 ∷ 34 ∷ [], (120 ∷ [], []), refl, (λ none. absurd cc, refl))

refused_here : (escaping : Bool) (text : List ℕ) (e : LabelRefusal) → ◌≡◌ {A = Result (List ℕ × List ℕ) LabelRefusal} (Err (BadText (length text))) (Err e) → ((c : ℕ) (others more : List ℕ) → text ≡ c ∷ others → IsErr (value_at escaping (c ∷ more))) → Stops (value_at escaping) IsValue text e
refused_here _ _ e h bad = let w = one_more _ in at_once _ _ w.2 w.3 (sym (err_is _ e h)) bad

refused_byte : (escaping : Bool) (byte : ℕ) (text : List ℕ) (e : LabelRefusal) → ◌≡◌ {A = Result (List ℕ × List ℕ) LabelRefusal} (Err (BadText (length (byte ∷ text)))) (Err e) → ((more : List ℕ) → IsErr (value_at escaping (byte ∷ more))) → Stops (value_at escaping) IsValue (byte ∷ text) e
refused_byte escaping _ _ e h bad = refused_here _ _ e h (λ c others more n. subst (λ x. IsErr (value_at escaping (x ∷ more))) (cons_parts _ c _ _ n).0 (bad more))

value_refused : (escaping : Bool) (text : List ℕ) (e : LabelRefusal) → value_at escaping text ≡ Err e → Stops (value_at escaping) IsValue text e
unfolding value_at
value_refused escaping [] e h = refused_here _ _ e h (λ c others more n. absurd (nil_not_cons c _ n))
value_refused true (byte ∷ text) e h = elim (cases_Bool (eqb byte 110)) [
  | inl n ↦ behind_byte true byte 10 text e (λ more. rw n) (value_refused false text e (with_byte_refused 10 e (value_at false text) (rw n at h)))
  | inr n ↦ elim (cases_Bool (eqb byte 92 || eqb byte 34)) [
    | inl s ↦ behind_byte _ byte byte text e (λ more. rw (n, s)) (value_refused _ text e (with_byte_refused byte e (value_at false text) (rw (n, s) at h)))
    | inr s ↦ refused_byte true byte text e (rw (n, s) at h) (λ more. rw (n, s))
  ]
]
value_refused false (byte ∷ text) e h = elim (cases_Bool (eqb byte 34)) [
  | inl q ↦ absurd (true≢false (sym (ap is_err (rw q at h))))
  | inr q ↦ elim (cases_Bool (eqb byte 10)) [
    | inl n ↦ refused_byte false byte text e (rw (q, n) at h) (λ more. rw (q, n))
    | inr n ↦ elim (cases_Bool (eqb byte 92)) [
      | inl b ↦ later (byte ∷ []) (λ t y r w. (y, rw (q, n, b) r, w)) (λ t bad. rw (q, n, b) bad) (value_refused _ text e (rw (q, n, b) at h))
      | inr b ↦ behind_byte false byte byte text e (λ more. rw (q, n, b)) (value_refused false text e (with_byte_refused byte e (value_at false text) (rw (q, n, b) at h)))
    ]
  ]
]

-- ---- a pair

-- A pair that was read to its end, under the name that stands in the text, or under any name where none has begun.
abbrev pub HasName : List ℕ → List ℕ → Label × List ℕ → Type 0
HasName name fresh read = (read.1 ≡ []) × ((read.0.name ≡ name) ⊎ (read.0.name ≡ fresh))

-- Why a pair is refused: an equals sign stands in the name's place, its value is empty, or it stops.
abbrev pub PairRefused : List ℕ → List ℕ → LabelRefusal → Type 0
PairRefused fresh text e =
    ((e ≡ EmptyName) × ((after : List ℕ) × (text ≡ 61 ∷ after)))
    ⊎ (((e ≡ EmptyValue) × ((after : List ℕ) × (text ≡ name_at text ++ 61 ∷ 34 ∷ 34 ∷ after) × (is_name (name_at text) ≡ true))) ⊎ Stops pair_at (HasName (name_at text) fresh) text e)

-- what follows the equals sign
abbrev after_sign : List ℕ → List ℕ → Result (Label × List ℕ) LabelRefusal
after_sign name after = rest_past 34 after >>= after_quote name

unless_err : {B : Type 0} (b : Bool) (d e : LabelRefusal) (r : Result B LabelRefusal) → (unless b d >> r) ≡ Err e → ((b ≡ false) × (d ≡ e)) ⊎ ((b ≡ true) × (r ≡ Err e))
unless_err true d e r h = inr (refl, h)
unless_err false d e r h = inl (refl, err_is d e h)

no_more : (n : ℕ) → nat_lt 0 n ≡ false → n ≡ 0
no_more n none = grind (arith, nat_tests)

-- with a name
named_refused : (fresh text after : List ℕ) (e : LabelRefusal) → is_name (name_at text) ≡ true → text ≡ name_at text ++ 61 ∷ after → after_sign (name_at text) after ≡ Err e → PairRefused fresh text e
unfolding after_quote with_value rest_past value_at with_byte quoted
named_refused fresh text after e is shape h =
    let name : List ℕ = name_at text in
    let used : List ℕ = name ++ 61 ∷ [] in
    let step : (t : List ℕ) → pair_at (used ++ t) ≡ after_sign name t = λ t. pair_named (used ++ t) name t is (append_assoc name (61 ∷ []) t) in
    let stops : Stops (after_sign name) (HasName name fresh) after e → PairRefused fresh text e = λ s. inr (inr
    (subst (λ t. Stops pair_at (HasName name fresh) t e) (append_assoc name (61 ∷ []) after ∙ sym shape)
    (later used (λ t y r w. (y, step t ∙ r, w)) (λ t bad. subst IsErr (sym (step t)) bad) s))) in
    elim (bind_err (rest_past 34 after) (after_quote name) e h) [
      | inl stop ↦ stops (at_once (34 ∷ 120 ∷ 34 ∷ []) (record { name = name; value = 120 ∷ [] }, []) refl (refl, inl refl) (past_bad 34 after e stop)
          (λ c others more n. bind_bad (rest_past 34 (c ∷ more)) (after_quote name) (past_first _ c _ _ (subst (λ t. IsErr (rest_past 34 t)) n (ap is_err stop)))))
      | inr x ↦
          let quote = rest_past-only _ _ _ x.1 in
          elim (bind_err _ _ e x.2) [
            | inl stop ↦ stops (subst (λ t. Stops (after_sign name) (HasName name fresh) t e) (sym quote) (later (34 ∷ [])
                (λ t y r w. ((record { name = name; value = y.0 }, y.1), rw (r, value_some y.0 w.0), (w.1, inl refl)))
                (λ t bad. bind_bad (value_at false t) (with_value name) bad) (value_refused false x.0 e stop)))
            | inr y ↦ elim (unless_err (nat_lt 0 (length y.0.0)) _ e _ y.2) [
              | inl none ↦
                  let empty = nil_from_length _ (no_more _ none.0) in
                  inr (inl (sym none.1, (y.0.1, shape ∙ ap (λ t. name ++ 61 ∷ t) (quote ∙ ap (λ t. 34 ∷ t) (value_is_quoted _ _ _ y.1 ∙ ap (λ v. quoted v ++ 34 ∷ y.0.1) empty)), is)))
              | inr read ↦ absurd (true≢false (sym (ap is_err read.1)))
            ]
          ]
    ]

-- ---- the name

-- what follows the longest front of this kind is not of it
prefix_ends : (p : ℕ → Bool) (xs : List ℕ) (c : ℕ) (others : List ℕ) → drop (prefix_len p xs) xs ≡ c ∷ others → p c ≡ false
prefix_ends p [] c _ e = absurd (nil_not_cons c _ e)
prefix_ends p (x ∷ xs) c others e = let longer : 1 + prefix_len p xs ≡ suc (prefix_len p xs) = omega arith in elim (cases_Bool (p x)) [
  | inl t ↦ prefix_ends p xs c others (rw (t, longer) at e)
  | inr f ↦ ap p (sym (cons_parts x c _ _ (rw f at e)).0) ∙ f
]

-- the name at the front stays the same whatever follows the byte behind it
name_stays : (text : List ℕ) (c : ℕ) (others more : List ℕ) → drop (name_length text) text ≡ c ∷ others → name_length (name_at text ++ c ∷ more) ≡ length (name_at text)
unfolding name_length name_at
name_stays [] c others more e = absurd (nil_not_cons c others e)
name_stays (x ∷ xs) c others more e = elim (cases_Bool _) [
  | inl t ↦ name_again _ more c (name_read (x ∷ xs) (rw t (grind (arith, nat_tests)))) (prefix_ends is_name_byte (x ∷ xs) c _ (ap (λ b. drop (cond b (prefix_len is_name_byte (x ∷ xs)) 0) (x ∷ xs)) (sym t) ∙ e))
  | inr f ↦ let same : x ≡ c = (cons_parts x c _ _ (rw f at e)).0 in rw (f, ← same, f)
]

abbrev ending : List ℕ
ending = 61 ∷ 34 ∷ 120 ∷ 34 ∷ []

short_pair : (name : List ℕ) → is_name name ≡ true → pair_at (name ++ ending) ≡ Ok (record { name = name; value = 120 ∷ [] }, [])
unfolding after_quote with_value rest_past value_at with_byte
short_pair _ is = pair_named _ _ _ is refl

pub pair_refused : (fresh text : List ℕ) (e : LabelRefusal) → is_name fresh ≡ true → pair_at text ≡ Err e → PairRefused fresh text e
unfolding pair_at name_at after_equals after_quote with_value
pair_refused fresh text e is h =
    let n : ℕ = name_length text in
    let rest : List ℕ = drop n text in
    let whole : text ≡ name_at text ++ rest = sym (take-append-drop n text) in
    elim (bind_err (rest_past 61 rest) _ e h) [
      | inl stop ↦ inr (inr (record {
        front = name_at text;
        after = rest;
        whole = whole;
        place_is = past_bad _ _ e stop;
        so_far = elim (cases_Bool _) [
          | inl some ↦ (ending, (record { name = name_at text; value = 120 ∷ [] }, []), short_pair _ (name_read _ some), (refl, inl refl))
          | inr none ↦ rw (no_more n none) (fresh ++ ending, (record { name = fresh; value = 120 ∷ [] }, []), short_pair _ is, (refl, inr refl))
        ];
        here = λ c others more f.
            let next = name_at text ++ c ∷ more in
            let d = drop_at (name_at text) (c ∷ more) (name_length next) (sym (name_stays _ c others more f)) in
            bind_bad _ _
            (subst (λ t. IsErr (rest_past 61 t)) (sym d) (past_first _ c _ _ (subst (λ t. IsErr (rest_past 61 t)) f (ap is_err stop))));
      }))
      | inr x ↦
          let sign = rest_past-only _ rest x.0 x.1 in
          elim (unless_err (nat_lt 0 n) EmptyName e (rest_past 34 x.0 >>= after_quote (name_at text)) x.2) [
            | inl none ↦ inl (sym none.1, (x.0, ap (λ k. drop k text) (sym (no_more n none.0)) ∙ sign))
            | inr named ↦ named_refused _ _ _ e (name_read _ named.0) (whole ∙ ap (λ t. name_at text ++ t) sign) named.1
          ]
    ]
