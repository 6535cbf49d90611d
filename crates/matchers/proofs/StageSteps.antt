-- A byte more leads to the text of the next stage.
use Rattle.std.proofs.Common.{◌≡◌, inl, inr, ℕ, ◌+◌, List, [], ◌∷◌, ◌++◌, length, Ok, Err, refl, sym, ap, ◌∙◌, subst, arith, Bool, true, false, cond, eqb, ◌||◌, ◌&&◌, append_assoc, append-nil}
use Rattle.std.specs.List.{All, flat_map, list_all}
use Rattle.std.proofs.lemmas.List.{length-append}
use Rattle.std.proofs.lemmas.List.Concat.{flat_map-append}
use Rattle.std.proofs.lemmas.List.Folds.{list_all-append}
use Rattle.std.proofs.lemmas.List.Elements.{All-push, All-nil}
use Rattle.std.proofs.lemmas.Bool.{eqb-true}
use Rattle.base.proofs.Binds.{ok_is}
use Rattle.label_sets.specs.Notation.{is_name, is_name_start, is_name_byte, quoted, quoted_byte}
use Rattle.label_sets.proofs.ReadPairs.{escaped_sign, plain_byte, newline}
use Rattle.matchers.specs.declared.asked.Asked.{Asked}
use Rattle.matchers.specs.declared.draft.Draft.{Draft}
use Rattle.matchers.specs.declared.asked.Operator.{Operator}
use Rattle.matchers.specs.declared.asked.Operator.TheVariants.{Equal, NotEqual, Matches, MatchesNot}
use Rattle.matchers.specs.declared.selector_refusal.SelectorRefusal.{SelectorRefusal}
use Rattle.matchers.specs.declared.stage.Stage.{Stage}
use Rattle.matchers.specs.declared.stage.Stage.TheVariants.{Start, Metric, Comma, Name, Exclamation, Equals, Sign, Value, Backslash, Quote, End}
use Rattle.matchers.specs.Selectors.{is_metric_name, is_metric_start, is_metric_byte}
use Rattle.matchers.specs.SelectorText.{IsMetric, matcher_text}
use Rattle.matchers.specs.Stages.{Next, matcher_of, nothing_asked, with_operator, with_quote, with_value, after_start, after_metric, after_comma, after_name, after_exclamation, after_equals, after_sign, in_value, after_backslash, after_quote, step, step_from}
use Rattle.matchers.proofs.StageTexts.{sign, opening, matcher_is, whole_text, whole_more, quoted_more, before_text, AreRead, IsInside, IsNamed, IsOpened, AreQuoted, Reached}

abbrev Leads : Next → List ℕ → Type 0
Leads r text = (next : Draft) → r ≡ Ok next → Reached next.stage next text

leads : (d : Draft) (text : List ℕ) → Reached d.stage d text → Leads (Ok d) text
leads d text r next e = subst (λ (n : Draft). Reached n.stage n text) (ok_is {E = SelectorRefusal} d next e) r

leads_nowhere : (e : SelectorRefusal) (text : List ℕ) → Leads (Err e) text
leads_nowhere e text next h = absurd cc

-- a test, and what follows on each of its answers
by_test : (b : Bool) (r s : Next) (text : List ℕ) → (b ≡ true → Leads r text) → (b ≡ false → Leads s text) → Leads (cond b r s) text
by_test true r s text f g = f refl
by_test false r s text f g = g refl

-- ---- names

more : (a b c : Bool) → (a && b) ≡ true → c ≡ true → (a && (b && (c && true))) ≡ true
more true true true is t = refl
more true true false is t = absurd cc
more true false c is t = absurd cc
more false b c is t = absurd cc

metric_begins : (byte : ℕ) → is_metric_start byte ≡ true → is_metric_name (byte ∷ []) ≡ true
unfolding is_metric_name
metric_begins byte t = λ i. t i && true

metric_goes_on : (name : List ℕ) (byte : ℕ) → is_metric_name name ≡ true → is_metric_byte byte ≡ true → is_metric_name (name ++ byte ∷ []) ≡ true
unfolding is_metric_name
metric_goes_on [] byte is t = absurd cc
metric_goes_on (x ∷ xs) byte is t =
    ap (λ b. is_metric_start x && b) (list_all-append is_metric_byte xs (byte ∷ [])) ∙ more (is_metric_start x) (list_all is_metric_byte xs) (is_metric_byte byte) is t

name_begins : (byte : ℕ) → is_name_start byte ≡ true → is_name (byte ∷ []) ≡ true
unfolding is_name
name_begins byte t = λ i. t i && true

name_goes_on : (name : List ℕ) (byte : ℕ) → is_name name ≡ true → is_name_byte byte ≡ true → is_name (name ++ byte ∷ []) ≡ true
unfolding is_name
name_goes_on [] byte is t = absurd cc
name_goes_on (x ∷ xs) byte is t =
    ap (λ b. is_name_start x && b) (list_all-append is_name_byte xs (byte ∷ [])) ∙ more (is_name_start x) (list_all is_name_byte xs) (is_name_byte byte) is t

-- ---- texts

-- one more byte of what stands behind the last comma
further : (metric : List ℕ) (listed : List Asked) (text part longer : List ℕ) (byte : ℕ) → IsInside metric listed text part → part ++ byte ∷ [] ≡ longer → IsInside metric listed (text ++ byte ∷ []) longer
further metric listed text part longer byte inside e = record {
  read = inside.read;
  text_is = ap (λ t. t ++ byte ∷ []) inside.text_is ∙ append_assoc (before_text metric listed) part (byte ∷ []) ∙ ap (λ t. before_text metric listed ++ t) e;
}

opens : (metric : List ℕ) (listed : List Asked) (text : List ℕ) (byte : ℕ) → IsMetric metric → text ≡ metric → listed ≡ [] → byte ≡ 123 → IsInside metric listed (text ++ byte ∷ []) []
opens metric listed text byte is same none b = record {
  read = record {
    is_metric = is;
    named = subst (λ (l : List Asked). All (λ (a : Asked). is_name a.name ≡ true) l) (sym none) (All-nil (λ (a : Asked). is_name a.name ≡ true));
    placed = subst (AreQuoted (length metric + 1)) (sym none) tt;
  };
  text_is = (λ i. same i ++ b i ∷ []) ∙ ap (λ (l : List Asked). before_text metric l) (sym none) ∙ sym (append-nil (before_text metric listed));
}

start_leads : (d : Draft) (text : List ℕ) (place byte : ℕ) → Reached Start d text → Leads (after_start d place byte) (text ++ byte ∷ [])
unfolding after_start
start_leads d text place byte r =
    by_test (eqb byte 123) _ _ _
    (λ t. leads (record d { stage = Comma }) _ (opens d.metric d.listed text byte (inl r.1) (r.0 ∙ sym r.1) r.2 (eqb-true byte 123 t), r.3))
    (λ f. by_test (is_metric_start byte) _ _ _
    (λ t. leads (record d { stage = Metric; metric = d.metric ++ byte ∷ [] }) _
    (ap (λ x. x ++ byte ∷ []) (r.0 ∙ sym r.1), ap (λ m. is_metric_name (m ++ byte ∷ [])) r.1 ∙ metric_begins byte t, r.2, r.3))
    (λ g. leads_nowhere _ _))

metric_leads : (d : Draft) (text : List ℕ) (place byte : ℕ) → Reached Metric d text → Leads (after_metric d place byte) (text ++ byte ∷ [])
unfolding after_metric
metric_leads d text place byte r =
    by_test (eqb byte 123) _ _ _
    (λ t. leads (record d { stage = Comma }) _ (opens d.metric d.listed text byte (inr r.1) r.0 r.2 (eqb-true byte 123 t), r.3))
    (λ f. by_test (is_metric_byte byte) _ _ _
    (λ t. leads (record d { stage = Metric; metric = d.metric ++ byte ∷ [] }) _
    (ap (λ x. x ++ byte ∷ []) r.0, metric_goes_on d.metric byte r.1 t, r.2, r.3))
    (λ g. leads_nowhere _ _))

comma_leads : (d : Draft) (text : List ℕ) (place byte : ℕ) → Reached Comma d text → Leads (after_comma d place byte) (text ++ byte ∷ [])
unfolding after_comma
comma_leads d text place byte r =
    by_test (eqb byte 125) _ _ _
    (λ t. leads (record d { stage = End }) _ (record {
      read = r.0.read;
      inside = whole_text d.listed;
      text_is = (λ i. (r.0.text_is ∙ append-nil (before_text d.metric d.listed)) i ++ eqb-true byte 125 t i ∷ []) ∙ append_assoc d.metric (123 ∷ whole_text d.listed) (125 ∷ []);
      lists = inl refl;
    }))
    (λ f. by_test (is_name_start byte) _ _ _
    (λ t. leads (record d { stage = Name; asked = record d.asked { name = d.asked.name ++ byte ∷ [] } }) _ (
      further d.metric d.listed text [] (d.asked.name ++ byte ∷ []) byte r.0 (ap (λ (a : Asked). a.name ++ byte ∷ []) (sym r.1)),
      record { named = ap (λ (a : Asked). is_name (a.name ++ byte ∷ [])) r.1 ∙ name_begins byte t; no_value = ap (λ (a : Asked). a.value) r.1 },
    ))
    (λ g. leads_nowhere _ _))

name_leads : (d : Draft) (text : List ℕ) (place byte : ℕ) → Reached Name d text → Leads (after_name d place byte) (text ++ byte ∷ [])
unfolding after_name
name_leads d text place byte r =
    by_test (eqb byte 61) _ _ _
    (λ t. leads (record d { stage = Equals; asked = record d.asked { operator = Equal } }) _ (
      further d.metric d.listed text d.asked.name _ byte r.0 (ap (λ b. d.asked.name ++ b ∷ []) (eqb-true byte 61 t)),
      record { named = r.1.named; no_value = r.1.no_value },
      refl,
    ))
    (λ f. by_test (eqb byte 33) _ _ _
    (λ t. leads (record d { stage = Exclamation }) _ (
      further d.metric d.listed text d.asked.name _ byte r.0 (ap (λ b. d.asked.name ++ b ∷ []) (eqb-true byte 33 t)),
      r.1,
    ))
    (λ g. by_test (is_name_byte byte) _ _ _
    (λ t. leads (record d { stage = Name; asked = record d.asked { name = d.asked.name ++ byte ∷ [] } }) _ (
      further d.metric d.listed text d.asked.name _ byte r.0 refl,
      record { named = name_goes_on d.asked.name byte r.1.named t; no_value = r.1.no_value },
    ))
    (λ h. leads_nowhere _ _)))

-- a second byte of an operator
signed : (d : Draft) (text : List ℕ) (first byte second : ℕ) (operator : Operator) → IsInside d.metric d.listed text (d.asked.name ++ first ∷ []) → IsNamed d.asked → byte ≡ second
    → sign operator ≡ first ∷ second ∷ [] → Leads (with_operator operator Sign d) (text ++ byte ∷ [])
signed d text first byte second operator inside named is s =
    leads (record d { stage = Sign; asked = record d.asked { operator = operator } }) _ (
      further d.metric d.listed text (d.asked.name ++ first ∷ []) (d.asked.name ++ sign operator) byte inside
          (append_assoc d.asked.name (first ∷ []) (byte ∷ []) ∙ ap (λ b. d.asked.name ++ first ∷ b ∷ []) is ∙ ap (λ x. d.asked.name ++ x) (sym s)),
      record { named = named.named; no_value = named.no_value },
    )

exclamation_leads : (d : Draft) (text : List ℕ) (place byte : ℕ) → Reached Exclamation d text → Leads (after_exclamation d place byte) (text ++ byte ∷ [])
unfolding after_exclamation
exclamation_leads d text place byte r =
    by_test (eqb byte 61) _ _ _
    (λ t. signed d text 33 byte 61 NotEqual r.0 r.1 (eqb-true byte 61 t) refl)
    (λ f. by_test (eqb byte 126) _ _ _
    (λ t. signed d text 33 byte 126 MatchesNot r.0 r.1 (eqb-true byte 126 t) refl)
    (λ g. leads_nowhere _ _))

-- the opening quote
quote_leads : (d : Draft) (text : List ℕ) (place byte : ℕ) → place ≡ length text → IsInside d.metric d.listed text (opening d.asked) → IsNamed d.asked → byte ≡ 34 → Leads (with_quote place d) (text ++ byte ∷ [])
unfolding quoted
quote_leads d text place byte at inside named is =
    leads (record d { stage = Value; asked = record d.asked { quote = place } }) _ (
      further d.metric d.listed text (opening d.asked) (opening d.asked ++ 34 ∷ quoted d.asked.value) byte inside
          ((λ i. opening d.asked ++ is i ∷ []) ∙ ap (λ v. opening d.asked ++ 34 ∷ quoted v) (sym named.no_value)),
      record { named = named.named; quote = at ∙ ap length inside.text_is },
    )

equals_leads : (d : Draft) (text : List ℕ) (place byte : ℕ) → place ≡ length text → Reached Equals d text → Leads (after_equals d place byte) (text ++ byte ∷ [])
unfolding after_equals
equals_leads d text place byte at r =
    by_test (eqb byte 34) _ _ _
    (λ t. quote_leads d text place byte at (subst (IsInside d.metric d.listed text) (ap (λ o. d.asked.name ++ sign o) (sym r.2)) r.0) r.1 (eqb-true byte 34 t))
    (λ f. by_test (eqb byte 126) _ _ _
    (λ t. signed d text 61 byte 126 Matches r.0 r.1 (eqb-true byte 126 t) refl)
    (λ g. leads_nowhere _ _))

sign_leads : (d : Draft) (text : List ℕ) (place byte : ℕ) → place ≡ length text → Reached Sign d text → Leads (after_sign d place byte) (text ++ byte ∷ [])
unfolding after_sign
sign_leads d text place byte at r =
    by_test (eqb byte 34) _ _ _
    (λ t. quote_leads d text place byte at r.0 r.1 (eqb-true byte 34 t))
    (λ f. leads_nowhere _ _)

-- ---- values

pub quoted_longer : (value : List ℕ) (byte : ℕ) → quoted (value ++ byte ∷ []) ≡ quoted value ++ quoted_byte byte
unfolding quoted
quoted_longer value byte = flat_map-append quoted_byte value (byte ∷ []) ∙ ap (λ t. flat_map quoted_byte value ++ t) (append-nil (quoted_byte byte))

-- behind a part of the value's quoted form, the byte that makes it whole
value_leads : (d : Draft) (text part : List ℕ) (byte stands : ℕ) → IsInside d.metric d.listed text (opening d.asked ++ 34 ∷ (quoted d.asked.value ++ part)) → IsOpened d.metric d.listed d.asked
    → quoted_byte stands ≡ part ++ byte ∷ [] → Leads (with_value stands d) (text ++ byte ∷ [])
value_leads d text part byte stands inside opened is =
    leads (record d { stage = Value; asked = record d.asked { value = d.asked.value ++ stands ∷ [] } }) _ (
      further d.metric d.listed text (opening d.asked ++ 34 ∷ (quoted d.asked.value ++ part)) (opening d.asked ++ 34 ∷ quoted (d.asked.value ++ stands ∷ [])) byte inside
          (append_assoc (opening d.asked) (34 ∷ (quoted d.asked.value ++ part)) (byte ∷ [])
          ∙ ap (λ t. opening d.asked ++ 34 ∷ t) (append_assoc (quoted d.asked.value) part (byte ∷ []) ∙ ap (λ t. quoted d.asked.value ++ t) (sym is) ∙ sym (quoted_longer d.asked.value stands))),
      record { named = opened.named; quote = opened.quote },
    )

-- a quote or a backslash behind the value
value_ends : (d : Draft) (text : List ℕ) (byte c : ℕ) → Reached Value d text → byte ≡ c → IsInside d.metric d.listed (text ++ byte ∷ []) (opening d.asked ++ 34 ∷ (quoted d.asked.value ++ c ∷ []))
value_ends d text byte c r is =
    further d.metric d.listed text (opening d.asked ++ 34 ∷ quoted d.asked.value) _ byte r.0
    (append_assoc (opening d.asked) (34 ∷ quoted d.asked.value) (byte ∷ []) ∙ ap (λ b. opening d.asked ++ 34 ∷ (quoted d.asked.value ++ b ∷ [])) is)

in_value_leads : (d : Draft) (text : List ℕ) (place byte : ℕ) → Reached Value d text → Leads (in_value d place byte) (text ++ byte ∷ [])
unfolding in_value
in_value_leads d text place byte r =
    by_test (eqb byte 34) _ _ _
    (λ t. leads (record d { stage = Quote }) _ (value_ends d text byte 34 r (eqb-true byte 34 t), r.1))
    (λ q. by_test (eqb byte 92) _ _ _
    (λ t. leads (record d { stage = Backslash }) _ (value_ends d text byte 92 r (eqb-true byte 92 t), r.1))
    (λ b. by_test (eqb byte 10) _ _ _
    (λ t. leads_nowhere _ _)
    (λ n. value_leads d text [] byte byte (subst (λ v. IsInside d.metric d.listed text (opening d.asked ++ 34 ∷ v)) (sym (append-nil (quoted d.asked.value))) r.0) r.1 (plain_byte byte q n b))))

backslash_leads : (d : Draft) (text : List ℕ) (place byte : ℕ) → Reached Backslash d text → Leads (after_backslash d place byte) (text ++ byte ∷ [])
unfolding after_backslash
backslash_leads d text place byte r =
    by_test (eqb byte 110) _ _ _
    (λ t. value_leads d text (92 ∷ []) byte 10 r.0 r.1 (newline ∙ ap (λ b. 92 ∷ b ∷ []) (sym (eqb-true byte 110 t))))
    (λ f. by_test (eqb byte 92 || eqb byte 34) _ _ _
    (λ t. value_leads d text (92 ∷ []) byte byte r.0 r.1 (escaped_sign byte t))
    (λ g. leads_nowhere _ _))

-- ---- whole matchers

-- one matcher more is well formed
asked_more : (metric : List ℕ) (listed : List Asked) (a : Asked) → AreRead metric listed → IsOpened metric listed a → AreRead metric (listed ++ a ∷ [])
asked_more metric listed a read opened = record {
  is_metric = read.is_metric;
  named = All-push (λ (x : Asked). is_name x.name ≡ true) listed a read.named opened.named;
  placed = quoted_more (length metric + 1) listed a read.placed
      (omega (arith, opened.quote, length-append (before_text metric listed) (opening a), length-append metric (123 ∷ whole_text listed)));
}

-- the text up to its closing quote
up_to_quote : (metric : List ℕ) (listed : List Asked) (text : List ℕ) (a : Asked) → IsInside metric listed text (opening a ++ 34 ∷ (quoted a.value ++ 34 ∷ [])) → text ≡ metric ++ 123 ∷ (whole_text listed ++ matcher_text (matcher_of a))
up_to_quote metric listed text a inside =
    inside.text_is ∙ append_assoc metric (123 ∷ whole_text listed) (opening a ++ 34 ∷ (quoted a.value ++ 34 ∷ [])) ∙ ap (λ t. metric ++ 123 ∷ (whole_text listed ++ t)) (sym (matcher_is a))

with_comma : (listed : List Asked) (a : Asked) → (whole_text listed ++ matcher_text (matcher_of a)) ++ 44 ∷ [] ≡ whole_text (listed ++ a ∷ [])
with_comma listed a = append_assoc (whole_text listed) (matcher_text (matcher_of a)) (44 ∷ []) ∙ sym (whole_more listed a)

after_quote_leads : (d : Draft) (text : List ℕ) (place byte : ℕ) → Reached Quote d text → Leads (after_quote d place byte) (text ++ byte ∷ [])
unfolding after_quote
after_quote_leads d text place byte r =
    let all : List Asked = d.listed ++ d.asked ∷ [] in
    let up = up_to_quote d.metric d.listed text d.asked r.0 in
    let read = asked_more d.metric d.listed d.asked r.0.read r.1 in
    by_test (eqb byte 44) _ _ _
    (λ t. leads (record d { stage = Comma; listed = all; asked = nothing_asked }) _ (
      record {
        read = read;
        text_is = (λ i. up i ++ eqb-true byte 44 t i ∷ []) ∙ append_assoc d.metric (123 ∷ (whole_text d.listed ++ matcher_text (matcher_of d.asked))) (44 ∷ [])
            ∙ ap (λ t. d.metric ++ 123 ∷ t) (with_comma d.listed d.asked) ∙ sym (append-nil (before_text d.metric all));
      },
      refl,
    ))
    (λ f. by_test (eqb byte 125) _ _ _
    (λ t. leads (record d { stage = End; listed = all; asked = nothing_asked }) _ (record {
      read = read;
      inside = whole_text d.listed ++ matcher_text (matcher_of d.asked);
      text_is = (λ i. up i ++ eqb-true byte 125 t i ∷ []) ∙ append_assoc d.metric (123 ∷ (whole_text d.listed ++ matcher_text (matcher_of d.asked))) (125 ∷ []);
      lists = inr (with_comma d.listed d.asked);
    }))
    (λ g. leads_nowhere _ _))

stage_leads : (stage : Stage) (d : Draft) (text : List ℕ) (place byte : ℕ) → place ≡ length text → Reached stage d text → Leads (step_from stage d place byte) (text ++ byte ∷ [])
stage_leads Start d text place byte at r = start_leads d text place byte r
stage_leads Metric d text place byte at r = metric_leads d text place byte r
stage_leads Comma d text place byte at r = comma_leads d text place byte r
stage_leads Name d text place byte at r = name_leads d text place byte r
stage_leads Exclamation d text place byte at r = exclamation_leads d text place byte r
stage_leads Equals d text place byte at r = equals_leads d text place byte at r
stage_leads Sign d text place byte at r = sign_leads d text place byte at r
stage_leads Value d text place byte at r = in_value_leads d text place byte r
stage_leads Backslash d text place byte at r = backslash_leads d text place byte r
stage_leads Quote d text place byte at r = after_quote_leads d text place byte r
stage_leads End d text place byte at r = leads_nowhere _ _

-- the byte behind a text leads to the longer text
pub step_reaches : (d next : Draft) (text : List ℕ) (place byte : ℕ) → place ≡ length text → Reached d.stage d text → step d place byte ≡ Ok next → Reached next.stage next (text ++ byte ∷ [])
unfolding step
step_reaches d next text place byte at r e = stage_leads d.stage d text place byte at r next e
