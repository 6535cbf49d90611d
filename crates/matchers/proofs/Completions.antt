-- From each stage on some selector's text can still be completed.
use Rattle.std.proofs.Common.{◌≡◌, inl, inr, ℕ, List, [], ◌∷◌, ◌++◌, map, refl, sym, ap, ◌∙◌, subst, arith, true, append_assoc, append-nil}
use Rattle.std.specs.List.{All}
use Rattle.std.proofs.lemmas.List.Elements.{All-push, All-cons, All-head, All-tail}
use Rattle.label_sets.specs.Notation.{is_name, quoted}
use Rattle.label_sets.proofs.ReadPairs.{newline}
use Rattle.matchers.specs.declared.asked.Asked.{Asked}
use Rattle.matchers.specs.declared.draft.Draft.{Draft}
use Rattle.matchers.specs.declared.matcher.Matcher.{Matcher}
use Rattle.matchers.specs.declared.asked.Operator.{Operator}
use Rattle.matchers.specs.declared.asked.Operator.TheVariants.{Equal, NotEqual}
use Rattle.matchers.specs.declared.stage.Stage.{Stage}
use Rattle.matchers.specs.declared.stage.Stage.TheVariants.{Start, Metric, Comma, Name, Exclamation, Equals, Sign, Value, Backslash, Quote, End}
use Rattle.matchers.specs.Selectors.{is_metric_name}
use Rattle.matchers.specs.SelectorText.{metric_part, matcher_text, HasBraces}
use Rattle.matchers.specs.SelectorRefusals.{BeginsASelector}
use Rattle.matchers.specs.Stages.{matcher_of}
use Rattle.matchers.proofs.StageTexts.{opening, matcher_is, whole_text, commas_more, before_text, IsInside, IsClosed, Reached}
use Rattle.matchers.proofs.StageSteps.{quoted_longer}

abbrev IsNamedMatcher : Matcher → Type 0
IsNamedMatcher m = is_name m.name ≡ true

all_named : (listed : List Asked) → All (λ (a : Asked). is_name a.name ≡ true) listed → All IsNamedMatcher (map matcher_of listed)
all_named [] all = λ k d lt. absurd (omega arith)
all_named (a ∷ listed) all = All-cons IsNamedMatcher (matcher_of a) (map matcher_of listed) (All-head (λ (a : Asked). is_name a.name ≡ true) a listed all) (all_named listed (All-tail (λ (a : Asked). is_name a.name ≡ true) a listed all))

-- a text that was read to the closing brace
pub closed_text : (metric : List ℕ) (listed : List Asked) (text : List ℕ) → IsClosed metric listed text → HasBraces text (metric_part metric ++ map matcher_of listed)
closed_text metric listed text closed = record {
  metric = metric;
  matchers = map matcher_of listed;
  inside = closed.inside;
  written = closed.text_is;
  is_metric = closed.read.is_metric;
  listed = closed.lists;
  named = all_named listed closed.read.named;
  selector_is = refl;
}

-- one matcher more, and the closing brace
completes : (metric : List ℕ) (listed : List Asked) (text part rest : List ℕ) (a : Asked) → IsInside metric listed text part → is_name a.name ≡ true
    → part ++ rest ≡ (opening a ++ 34 ∷ (quoted a.value ++ 34 ∷ [])) ++ 125 ∷ [] → BeginsASelector text
completes metric listed text part rest a inside named e = record {
  after = rest;
  selector = metric_part metric ++ (map matcher_of listed ++ matcher_of a ∷ []);
  is_text = inr (record {
    metric = metric;
    matchers = map matcher_of listed ++ matcher_of a ∷ [];
    inside = whole_text listed ++ matcher_text (matcher_of a);
    written = ap (λ t. t ++ rest) inside.text_is
        ∙ append_assoc (before_text metric listed) part rest
        ∙ ap (λ t. before_text metric listed ++ t) (e ∙ ap (λ t. t ++ 125 ∷ []) (sym (matcher_is a)))
        ∙ append_assoc metric (123 ∷ whole_text listed) (matcher_text (matcher_of a) ++ 125 ∷ [])
        ∙ ap (λ t. metric ++ 123 ∷ t) (sym (append_assoc (whole_text listed) (matcher_text (matcher_of a)) (125 ∷ [])));
    is_metric = inside.read.is_metric;
    listed = inr (append_assoc (whole_text listed) (matcher_text (matcher_of a)) (44 ∷ []) ∙ sym (commas_more (map matcher_of listed) (matcher_of a)));
    named = All-push IsNamedMatcher (map matcher_of listed) (matcher_of a) (all_named listed inside.read.named) named;
    selector_is = refl;
  });
}

-- a matcher that asks for the empty value by this operator
abbrev asks_nothing : List ℕ → Operator → Asked
asks_nothing name operator = record { name = name; operator = operator; value = []; quote = 0 }

pub can_be_completed : (stage : Stage) (d : Draft) (text : List ℕ) → Reached stage d text → BeginsASelector text
unfolding quoted
can_be_completed Start d text r = record {
  after = 123 ∷ 125 ∷ [];
  selector = [];
  is_text = inr (record { metric = []; matchers = []; inside = []; written = ap (λ t. t ++ 123 ∷ 125 ∷ []) r.0; is_metric = inl refl; listed = inl refl; named = λ k d lt. absurd (omega arith); selector_is = refl });
}
can_be_completed Metric d text r = record {
  after = [];
  selector = _;
  is_text = inl (ap is_metric_name (append-nil text ∙ r.0) ∙ r.1, refl);
}
can_be_completed Comma d text r = record {
  after = 125 ∷ [];
  selector = metric_part d.metric ++ map matcher_of d.listed;
  is_text = inr (closed_text d.metric d.listed (text ++ 125 ∷ []) (record {
    read = r.0.read;
    inside = whole_text d.listed;
    text_is = ap (λ t. t ++ 125 ∷ []) (r.0.text_is ∙ append-nil (before_text d.metric d.listed)) ∙ append_assoc d.metric (123 ∷ whole_text d.listed) (125 ∷ []);
    lists = inl refl;
  }));
}
can_be_completed Name d text r =
    completes d.metric d.listed text d.asked.name (61 ∷ 34 ∷ 34 ∷ 125 ∷ []) (asks_nothing d.asked.name Equal) r.0 r.1.named (simp append_assoc)
can_be_completed Exclamation d text r =
    completes d.metric d.listed text (d.asked.name ++ 33 ∷ []) (61 ∷ 34 ∷ 34 ∷ 125 ∷ []) (asks_nothing d.asked.name NotEqual) r.0 r.1.named (simp append_assoc)
can_be_completed Equals d text r =
    completes d.metric d.listed text (d.asked.name ++ 61 ∷ []) (34 ∷ 34 ∷ 125 ∷ []) (asks_nothing d.asked.name Equal) r.0 r.1.named (simp append_assoc)
can_be_completed Sign d text r =
    completes d.metric d.listed text (opening d.asked) (34 ∷ 34 ∷ 125 ∷ []) (asks_nothing d.asked.name d.asked.operator) r.0 r.1.named (simp append_assoc)
can_be_completed Value d text r =
    completes d.metric d.listed text (opening d.asked ++ 34 ∷ quoted d.asked.value) (34 ∷ 125 ∷ []) d.asked r.0 r.1.named (simp append_assoc)
can_be_completed Backslash d text r =
    completes d.metric d.listed text (opening d.asked ++ 34 ∷ (quoted d.asked.value ++ 92 ∷ [])) (110 ∷ 34 ∷ 125 ∷ []) (record d.asked { value = d.asked.value ++ 10 ∷ [] }) r.0 r.1.named
    (append_assoc (opening d.asked) (34 ∷ (quoted d.asked.value ++ 92 ∷ [])) (110 ∷ 34 ∷ 125 ∷ [])
    ∙ ap (λ t. opening d.asked ++ 34 ∷ t) (append_assoc (quoted d.asked.value) (92 ∷ []) (110 ∷ 34 ∷ 125 ∷ [])
    ∙ sym (ap (λ t. t ++ 34 ∷ 125 ∷ []) (quoted_longer d.asked.value 10 ∙ ap (λ t. quoted d.asked.value ++ t) newline) ∙ append_assoc (quoted d.asked.value) (92 ∷ 110 ∷ []) (34 ∷ 125 ∷ [])))
    ∙ sym (append_assoc (opening d.asked) (34 ∷ (quoted (d.asked.value ++ 10 ∷ []) ++ 34 ∷ [])) (125 ∷ []) ∙ ap (λ t. opening d.asked ++ 34 ∷ t) (append_assoc (quoted (d.asked.value ++ 10 ∷ [])) (34 ∷ []) (125 ∷ []))))
can_be_completed Quote d text r =
    completes d.metric d.listed text (opening d.asked ++ 34 ∷ (quoted d.asked.value ++ 34 ∷ [])) (125 ∷ []) d.asked r.0 r.1.named refl
can_be_completed End d text r = record {
  after = [];
  selector = metric_part d.metric ++ map matcher_of d.listed;
  is_text = inr (subst (λ t. HasBraces t (metric_part d.metric ++ map matcher_of d.listed)) (sym (append-nil text)) (closed_text d.metric d.listed text r));
}
