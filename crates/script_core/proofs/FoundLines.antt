-- What is read of lines is what the lines spell, and what is read of a text is the script that it spells.
use Rattle.std.proofs.Common.{◌≡◌, ℕ, ◌+◌, Bool, true, false, cond, nat_lt, List, [], ◌∷◌, length, Option, Some, None, Result, Ok, Err, refl, sym, ap, ◌∙◌, subst, arith, inl, inr}
use Rattle.std.specs.Bool.{MatchBool}
use Rattle.std.specs.Str.{is_utf8}
use Rattle.std.proofs.lemmas.Bool.Decides.{nat_tests}
use Rattle.std.proofs.lemmas.Option.{same_Some}
use Rattle.base.specs.Reading.{◌>>=◌, ◌>>◌, refused_as}
use Rattle.base.proofs.Binds.{bind_ok, ok_is, refused_as_ok, then_ok}
use Rattle.moment_core.specs.StandardRules.{standard_rules}
use Rattle.script_fields.specs.declared.cause.LineCause.TheVariants as causes
use Rattle.script_fields.specs.declared.line_kind.LineKind.{LineKind}
use Rattle.script_fields.specs.declared.line_kind.LineKind.TheVariants as kinds
use Rattle.script_core.specs.declared.script.Script.{Script}
use Rattle.script_fields.specs.declared.script_refusal.ScriptRefusal.{ScriptRefusal}
use Rattle.script_fields.specs.declared.script_refusal.ScriptRefusal.TheVariants.{BadLine, TooLong}
use Rattle.script_fields.specs.Fields.{lines_of, is_silent, next_field, line_kind}
use Rattle.script_core.specs.State.{State, start, all_blocks, has_ended, end_block, finish, script_of_state}
use Rattle.script_core.specs.Lines.{fields_line}
use Rattle.script_fields.specs.LineRefusals.{of_line}
use Rattle.script_core.specs.Reading.{is_series, kind_line, text_line, spoken_line, line_at, lines_at, script_of}
use Rattle.script_core.specs.Spelling as spelling
use Rattle.script_core.specs.Spelling.{SoFar, HasEnded, Says, Say, Spells}
use Rattle.script_fields.proofs.FieldLaws.{Cut, cut_found}
use Rattle.script_core.proofs.Kept.{Kept, so_far_of, start_kept, start_is}
use Rattle.script_core.proofs.LineTools.{cut_rest, line_word, kind_found, ended_found, unit_is}
use Rattle.script_core.proofs.FoundSetup.{Starts, closed, rule_line_found, gateway_line_found, block_line_found, shelf_line_found}
use Rattle.script_core.proofs.FoundSeries.{series_line_found}
use Rattle.script_core.proofs.FoundPhases.{at_line_found, upload_line_found, sync_line_found, compact_line_found, clean_line_found, query_line_found}
use Rattle.script_fields.specs.Limits.{longest_text}

-- the block has ended
pub end_found : (st before : State) → Kept st → end_block st ≡ Ok before → HasEnded (all_blocks st.blocks st.last st.shelved) × (closed st ≡ before)
unfolding end_block
end_found st before kept h =
    let a = then_ok (has_ended st.last) (Ok (closed st)) before h in
    (ended_found st.blocks st.last st.shelved kept.blocks.no_last kept.blocks.on_shelf (a.1 ∙ unit_is a.0), ok_is _ _ a.2)

-- the line's word is cut off
cut_of : (line : List ℕ) (kind : LineKind) → line_kind (next_field (Some line)).0 ≡ Some kind → Cut (Some line) (line_word kind) (next_field (Some line)).1
cut_of line kind is =
    subst (λ word. Cut (Some line) word (next_field (Some line)).1) (kind_found (next_field (Some line)).0 kind is) (cut_found (Some line))

starts_from : (line word : List ℕ) (left : Option (List ℕ)) → Cut (Some line) word left → Starts line word left
starts_from line word left cut rest is = same_Some _ _ (cut_rest (Some line) word left rest cut is).0

pub starts_of : (line : List ℕ) (kind : LineKind) → line_kind (next_field (Some line)).0 ≡ Some kind → Starts line (line_word kind) (next_field (Some line)).1
starts_of line kind is = starts_from line (line_word kind) (next_field (Some line)).1 (cut_of line kind is)

-- what a line says, and what is kept
abbrev pub SaysKept : State → ℕ → List ℕ → State → Type 0
SaysKept st number line after = Says (so_far_of st) number line (so_far_of after) × Kept after

module _ (st after : State) (number : ℕ) (line : List ℕ) (left : Option (List ℕ)) (kept : Kept st) where
  -- a line that ends the block
  other_found : (kind : LineKind) → Cut (Some line) (line_word kind) left → is_series (Some kind) ≡ false → HasEnded (all_blocks st.blocks st.last st.shelved) → fields_line (closed st) number kind left ≡ Ok after → SaysKept st number line after
  unfolding fields_line
  other_found kinds.Rule cut other ended h =
      let p = rule_line_found st after line left kept (starts_from line _ left cut) h in (
        elim p.0 [
          | inl one ↦ spelling.rule ended one
          | inr (inl more) ↦ spelling.replica ended more
          | inr (inr keeps) ↦ spelling.retention ended keeps
        ],
        p.1,
      )
  other_found kinds.Gateway cut other ended h = let p = gateway_line_found st after line left kept (starts_from line _ left cut) h in (spelling.gateway ended p.0, p.1)
  other_found kinds.Block cut other ended h = let p = block_line_found st after line left kept number (starts_from line _ left cut) h in (spelling.block ended p.0, p.1)
  other_found kinds.Series cut other ended h = absurd cc
  other_found kinds.Shelf cut other ended h = let p = shelf_line_found st after line left kept ended (starts_from line _ left cut) h in (spelling.shelf ended p.0, p.1)
  other_found kinds.At cut other ended h = let p = at_line_found st after number line left kept (starts_from line _ left cut) h in (spelling.at ended p.0, p.1)
  other_found kinds.Upload cut other ended h = let p = upload_line_found st after number line left kept (starts_from line _ left cut) h in (spelling.upload ended p.0, p.1)
  other_found kinds.Sync cut other ended h = let p = sync_line_found st after number line left kept (starts_from line _ left cut) h in (spelling.sync ended p.0, p.1)
  other_found kinds.Compact cut other ended h = let p = compact_line_found st after number line left kept cut h in (spelling.compact ended p.0, p.1)
  other_found kinds.Clean cut other ended h = let p = clean_line_found st after number line left kept cut h in (spelling.clean ended p.0, p.1)
  other_found kinds.Query cut other ended h = let p = query_line_found st after number line left kept (starts_from line _ left cut) h in (spelling.query ended p.0, p.1)

  ends_found : (kind : LineKind) → Cut (Some line) (line_word kind) left → is_series (Some kind) ≡ false → (end_block st >>= λ before. refused_as (of_line number) (kind_line before number (Some kind) left)) ≡ Ok after → SaysKept st number line after
  unfolding kind_line
  ends_found kind cut other h =
      let a = bind_ok (end_block st) (λ before. refused_as (of_line number) (fields_line before number kind left)) after h in
      let ended = end_found st a.0 kept a.1 in
      other_found kind cut other ended.0 (ap (λ s. fields_line s number kind left) ended.1 ∙ refused_as_ok (of_line number) (fields_line a.0 number kind left) after a.2)

  kind_by : (kind : Option LineKind) → ((known : LineKind) → kind ≡ Some known → Cut (Some line) (line_word known) left) → (cond {A = Result State ScriptRefusal} (is_series kind) (Ok st) (end_block st) >>= λ before. refused_as (of_line number) (kind_line before number kind left)) ≡ Ok after → SaysKept st number line after
  unfolding kind_line fields_line
  kind_by None cut h =
      let a = bind_ok (end_block st) (λ before. refused_as (of_line number) (kind_line before number None left)) after h in
      let b = refused_as_ok (of_line number) (kind_line a.0 number None left) after a.2 in
      absurd cc
  kind_by (Some kinds.Series) cut h =
      let p = series_line_found st after line left kept (starts_from line _ left (cut kinds.Series refl)) (refused_as_ok (of_line number) (fields_line st number kinds.Series left) after h) in (spelling.series p.0, p.1)
  kind_by (Some kind) cut h = ends_found kind (cut kind refl) refl h

pub text_found : (st after : State) (number : ℕ) (line : List ℕ) → Kept st → text_line st number line ≡ Ok after → SaysKept st number line after
unfolding text_line
text_found st after number line kept h =
    kind_by st after number line (next_field (Some line)).1 kept (line_kind (next_field (Some line)).0) (λ known is. cut_of line known is) h

spoken_by : (st after : State) (number : ℕ) (line : List ℕ) (b : Bool) → Kept st → is_utf8 line ≡ b → cond {A = Result State ScriptRefusal} b (text_line st number line) (end_block st >> Err (BadLine number causes.NotText)) ≡ Ok after → (is_utf8 line ≡ true) × SaysKept st number line after
spoken_by st after number line true kept utf8 h = (utf8, text_found st after number line kept h)
spoken_by st after number line false kept utf8 h =
    let a = then_ok (end_block st) (Err (BadLine number causes.NotText)) after h in absurd cc

-- ---- whole texts

line_by : (st next : State) (number : ℕ) (line : List ℕ) (b : Bool) → is_silent line ≡ b → line_at st number line ≡ Ok next → cond {A = Result State ScriptRefusal} b (Ok st) (spoken_line st number line) ≡ Ok next
unfolding line_at
line_by st next number line b is h = ap (λ t. cond {A = Result State ScriptRefusal} t (Ok st) (spoken_line st number line)) (sym is) ∙ h

lines_by : (st after : State) (number : ℕ) (line : List ℕ) (lines : List (List ℕ)) (next : State) → Kept st → (b : Bool) → cond {A = Result State ScriptRefusal} b (Ok st) (spoken_line st number line) ≡ Ok next → (Kept next → Say (so_far_of next) (number + 1) lines (so_far_of after) × Kept after) → MatchBool b (Say (so_far_of st) (number + 1) lines (so_far_of after)) ((middle : SoFar) × (is_utf8 line ≡ true) × Says (so_far_of st) number line middle × Say middle (number + 1) lines (so_far_of after)) × Kept after
unfolding spoken_line
lines_by st after number line lines next kept true h later =
    let same : st ≡ next = ok_is st next h in
    let p = later (subst Kept same kept) in
    (subst (λ (s : State). Say (so_far_of s) (number + 1) lines (so_far_of after)) (sym same) p.0, p.1)
lines_by st after number line lines next kept false h later =
    let a = spoken_by st next number line (is_utf8 line) kept refl h in
    let p = later a.1.1 in
    ((so_far_of next, a.0, a.1.0, p.0), p.1)

pub lines_found : (st after : State) (number : ℕ) (lines : List (List ℕ)) → Kept st → lines_at st number lines ≡ Ok after → Say (so_far_of st) number lines (so_far_of after) × Kept after
unfolding lines_at
lines_found st after number [] kept h = (ap so_far_of (ok_is _ _ h), subst Kept (ok_is _ _ h) kept)
lines_found st after number (line ∷ lines) kept h =
    let a = bind_ok (line_at st number line) (λ next. lines_at next (number + 1) lines) after h in
    lines_by st after number line lines a.0 kept (is_silent line) (line_by st a.0 number line (is_silent line) refl a.1) (λ next_kept. lines_found a.0 after (number + 1) lines next_kept a.2)

finish_found : (st : State) (script : Script) → Kept st → finish st ≡ Ok script → HasEnded (all_blocks st.blocks st.last st.shelved) × (script_of_state st ≡ script)
unfolding finish
finish_found st script kept h =
    let a = bind_ok (end_block st) (λ ended. Ok (script_of_state ended)) script h in
    let ended = end_found st a.0 kept a.1 in
    (ended.0, ap script_of_state ended.1 ∙ ok_is _ _ a.2)

spelled_by : (text : List ℕ) (script : Script) (b : Bool) → nat_lt longest_text (length text) ≡ b → cond {A = Result Script ScriptRefusal} b (Err TooLong) (lines_at (start standard_rules) 1 (lines_of text) >>= finish) ≡ Ok script → Spells text script
spelled_by text script true long h = absurd cc
spelled_by text script false long h =
    let a = bind_ok (lines_at (start standard_rules) 1 (lines_of text)) finish script h in
    let lines = lines_found (start standard_rules) a.0 1 (lines_of text) start_kept a.1 in
    let end = finish_found a.0 script lines.1 a.2 in
    record {
      short = grind (arith, nat_tests);
      in_block = a.0.continues;
      lines = subst (λ (s : Script). Say spelling.nothing 1 (lines_of text) (record { script = s; in_block = a.0.continues })) end.1 (subst (λ (s : SoFar). Say s 1 (lines_of text) (so_far_of a.0)) start_is lines.0);
      ended = subst (λ (s : Script). HasEnded s.blocks) end.1 end.0;
    }

-- what is read is spelled by the text
pub script_found : (text : List ℕ) (script : Script) → script_of text ≡ Ok script → Spells text script
unfolding script_of
script_found text script h = spelled_by text script (nat_lt longest_text (length text)) refl h
