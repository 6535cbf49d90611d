-- Names and values that are read of a text in UTF-8 are texts.
use Rattle.std.proofs.Common.{◌≡◌, inl, inr, ℕ, List, [], ◌∷◌, ◌++◌, map, Result, Ok, Err, sym, ap, ◌∙◌, subst, arith, append_assoc, rules}
use Rattle.std.specs.Prelude.{IfOk}
use Rattle.base.specs.Reading.{Gives}
use Rattle.std.specs.List.{All}
use Rattle.std.specs.Str.{IsUtf8}
use Rattle.std.proofs.lemmas.List.Elements.{All-cons, All-nil}
use Rattle.std.proofs.lemmas.Str.{IsUtf8-append}
use Rattle.label_sets.specs.Notation.{quoted}
use Rattle.label_sets.proofs.Utf8Parts.{cut_front, cut_rest, unquoted}
use Rattle.matchers.specs.declared.asked.Asked.{Asked}
use Rattle.matchers.specs.declared.draft.Draft.{Draft}
use Rattle.matchers.specs.declared.asked.Operator.{Operator}
use Rattle.matchers.specs.declared.asked.Operator.TheVariants.{Equal, NotEqual, Matches, MatchesNot}
use Rattle.matchers.specs.declared.selector_refusal.SelectorRefusal.{SelectorRefusal}
use Rattle.matchers.specs.declared.selector_refusal.SelectorRefusal.TheVariants.{NoMemory}
use Rattle.matchers.specs.SelectorText.{comma_text, matcher_text, AreListed}
use Rattle.matchers.specs.Stages.{matcher_of, read_whole, AreTexts}
use Rattle.matchers.proofs.StageTexts.{sign, opening, matcher_is, whole_text}
use Rattle.matchers.proofs.Stops.{IsWhole, read_is_whole}

name_text : (name : List ℕ) (operator : Operator) → IsUtf8 (name ++ sign operator) → IsUtf8 name
name_text name Equal u = cut_front name [] 61 (omega arith) u
name_text name NotEqual u = cut_front name (61 ∷ []) 33 (omega arith) u
name_text name Matches u = cut_front name (126 ∷ []) 61 (omega arith) u
name_text name MatchesNot u = cut_front name (126 ∷ []) 33 (omega arith) u

abbrev IsText : Asked → Type 0
IsText a = IsUtf8 a.name × IsUtf8 a.value

comma_shape : (a : Asked) (rest : List ℕ) → comma_text (matcher_of a) ++ rest ≡ opening a ++ 34 ∷ (quoted a.value ++ 34 ∷ 44 ∷ rest)
comma_shape a rest =
    append_assoc (matcher_text (matcher_of a)) (44 ∷ []) rest ∙ ap (λ t. t ++ 44 ∷ rest) (matcher_is a)
    ∙ append_assoc (opening a) (34 ∷ (quoted a.value ++ 34 ∷ [])) (44 ∷ rest) ∙ ap (λ t. opening a ++ 34 ∷ t) (append_assoc (quoted a.value) (34 ∷ []) (44 ∷ rest))

all_texts : (listed : List Asked) → IsUtf8 (whole_text listed) → All IsText listed
all_texts [] u = All-nil IsText
all_texts (a ∷ listed) u =
    let whole = subst IsUtf8 (comma_shape a (whole_text listed)) u in
    let behind = cut_rest (opening a) (quoted a.value ++ 34 ∷ 44 ∷ whole_text listed) 34 (omega arith) whole in
    All-cons IsText a listed
    (name_text a.name a.operator (cut_front (opening a) (quoted a.value ++ 34 ∷ 44 ∷ whole_text listed) 34 (omega arith) whole), unquoted a.value (cut_front (quoted a.value) (44 ∷ whole_text listed) 34 (omega arith) behind))
    (all_texts listed (cut_rest [] (whole_text listed) 44 (omega arith) (cut_rest (quoted a.value) (44 ∷ whole_text listed) 34 (omega arith) behind)))

comma_ascii : IsUtf8 (44 ∷ [])
comma_ascii = cut_rest [] (44 ∷ []) 44 (omega arith) (Prim.search rules)

inside_texts : (inside : List ℕ) (listed : List Asked) → AreListed inside (map matcher_of listed) → IsUtf8 inside → All IsText listed
inside_texts inside listed (inl all) u = all_texts listed (subst IsUtf8 all u)
inside_texts inside listed (inr less) u = all_texts listed (subst IsUtf8 less (IsUtf8-append inside (44 ∷ []) u comma_ascii))

whole_texts : (text : List ℕ) (d : Draft) → IsWhole d text → IsUtf8 text → AreTexts d
whole_texts text d (inl r) u = record { metric = subst IsUtf8 r.0 u; listed = subst (All IsText) (sym r.2) (All-nil IsText) }
whole_texts text d (inr closed) u =
    let whole = subst IsUtf8 closed.text_is u in
    let behind = cut_rest d.metric (closed.inside ++ 125 ∷ []) 123 (omega arith) whole in
    record {
      metric = cut_front d.metric (closed.inside ++ 125 ∷ []) 123 (omega arith) whole;
      listed = inside_texts closed.inside d.listed closed.lists (cut_front closed.inside [] 125 (omega arith) behind);
    }

pub read_texts : (text : List ℕ) (d : Draft) → read_whole text ≡ Ok d → IsUtf8 text → AreTexts d
read_texts text d e u = whole_texts text d (read_is_whole text d e) u

pub texts_of : (r : Result Draft SelectorRefusal) (text : List ℕ) → Gives NoMemory (λ x. x) r (read_whole text) → IsUtf8 text → IfOk r (λ d. AreTexts d)
texts_of (Ok d) text gives u = read_texts text d gives u
texts_of (Err e) text gives u = tt
