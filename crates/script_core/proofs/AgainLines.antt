-- What lines spell is read of them, and what a text spells is read of it.
use Rattle.std.proofs.Common.{◌≡◌, ℕ, ◌+◌, Bool, true, false, cond, nat_lt, List, [], ◌∷◌, length, Option, Some, Result, Ok, refl, sym, ap, ◌∙◌, subst, arith}
use Rattle.std.specs.Bool.{MatchBool}
use Rattle.std.specs.Str.{is_utf8}
use Rattle.std.proofs.lemmas.Bool.Decides.{nat_tests}
use Rattle.base.specs.Reading.{◌>>=◌, refused_as}
use Rattle.moment_core.specs.StandardRules.{standard_rules}
use Rattle.script_fields.specs.declared.line_kind.LineKind.{LineKind}
use Rattle.script_fields.specs.declared.line_kind.LineKind.TheVariants as kinds
use Rattle.script_core.specs.declared.script.Script.{Script}
use Rattle.script_fields.specs.declared.script_refusal.ScriptRefusal.{ScriptRefusal}
use Rattle.script_fields.specs.Fields.{lines_of, is_silent, next_field, line_kind}
use Rattle.script_core.specs.Lines.{fields_line}
use Rattle.script_core.specs.State.{State, start, all_blocks, end_block, finish, script_of_state}
use Rattle.script_fields.specs.LineRefusals.{of_line}
use Rattle.script_core.specs.Reading.{is_series, kind_line, text_line, spoken_line, line_at, lines_at, script_of}
use Rattle.script_core.specs.Spelling as spelling
use Rattle.script_core.specs.Spelling.{SoFar, HasEnded, Says, Say, Spells}
use Rattle.script_core.proofs.Kept.{Kept, so_far_of, start_kept, start_is}
use Rattle.script_core.proofs.LineTools.{line_word, kind_again, ended_again}
use Rattle.script_core.proofs.FoundSetup.{closed}
use Rattle.script_core.proofs.FoundLines.{text_found}
use Rattle.script_core.proofs.AgainSetup.{IsRead, rule_line_again, replica_line_again, retention_line_again, gateway_line_again, block_line_again, shelf_line_again}
use Rattle.script_core.proofs.AgainSeries.{series_line_again}
use Rattle.script_core.proofs.AgainPhases.{at_line_again, upload_line_again, sync_line_again, compact_line_again, clean_line_again, query_line_again}
use Rattle.script_fields.specs.Limits.{longest_text}

end_again : (st : State) → Kept st → HasEnded (all_blocks st.blocks st.last st.shelved) → end_block st ≡ Ok (closed st)
unfolding end_block
end_again st kept ended = let is = ended_again st.blocks st.last st.shelved kept.blocks.ended ended in rw is refl

-- a line that is read, whatever its kind
pub record IsReadLine (st : State) (number : ℕ) (line : List ℕ) (next : SoFar) : Type 0 where
  pub after : State
  pub read : text_line st number line ≡ Ok after
  pub next_is : so_far_of after ≡ next

read_by : (st before after : State) (number : ℕ) (kind : LineKind) (left : Option (List ℕ)) → cond {A = Result State ScriptRefusal} (is_series (Some kind)) (Ok st) (end_block st) ≡ Ok before → fields_line before number kind left ≡ Ok after → (cond {A = Result State ScriptRefusal} (is_series (Some kind)) (Ok st) (end_block st) >>= λ s. refused_as (of_line number) (kind_line s number (Some kind) left)) ≡ Ok after
unfolding kind_line
read_by st before after number kind left first read = rw (first, read) refl

pub text_read : (st before : State) (number : ℕ) (line : List ℕ) (kind : LineKind) (next : SoFar) → cond {A = Result State ScriptRefusal} (is_series (Some kind)) (Ok st) (end_block st) ≡ Ok before → (is : IsRead before number line kind next) → text_line st number line ≡ Ok is.after
unfolding text_line
text_read st before number line kind next first is =
    let word : (next_field (Some line)).0 ≡ line_word kind = ap (λ p. p.0) is.cut in
    let rest : (next_field (Some line)).1 ≡ is.left = ap (λ p. p.1) is.cut in
    let known : line_kind (next_field (Some line)).0 ≡ Some kind = ap line_kind word ∙ kind_again kind in
    (λ i. cond {A = Result State ScriptRefusal} (is_series (known i)) (Ok st) (end_block st) >>= λ s. refused_as (of_line number) (kind_line s number (known i) (rest i))) ∙ read_by st before is.after number kind is.left first is.read

read_line : (st before : State) (number : ℕ) (line : List ℕ) (kind : LineKind) (next : SoFar) → cond {A = Result State ScriptRefusal} (is_series (Some kind)) (Ok st) (end_block st) ≡ Ok before → IsRead before number line kind next → IsReadLine st number line next
read_line st before number line kind next first is =
    record { after = is.after; read = text_read st before number line kind next first is; next_is = is.next_is }

says_again : (st : State) (number : ℕ) (line : List ℕ) (next : SoFar) → Kept st → Says (so_far_of st) number line next → IsReadLine st number line next
says_again st number line next kept (spelling.series says) = read_line st st number line kinds.Series next refl (series_line_again st number line next kept says)
says_again st number line next kept (spelling.rule ended says) = read_line st (closed st) number line kinds.Rule next (end_again st kept ended) (rule_line_again st number line next kept says)
says_again st number line next kept (spelling.replica ended says) = read_line st (closed st) number line kinds.Rule next (end_again st kept ended) (replica_line_again st number line next kept says)
says_again st number line next kept (spelling.retention ended says) = read_line st (closed st) number line kinds.Rule next (end_again st kept ended) (retention_line_again st number line next kept says)
says_again st number line next kept (spelling.gateway ended says) = read_line st (closed st) number line kinds.Gateway next (end_again st kept ended) (gateway_line_again st number line next kept says)
says_again st number line next kept (spelling.block ended says) = read_line st (closed st) number line kinds.Block next (end_again st kept ended) (block_line_again st number line next kept says)
says_again st number line next kept (spelling.shelf ended says) = read_line st (closed st) number line kinds.Shelf next (end_again st kept ended) (shelf_line_again st number line next kept says)
says_again st number line next kept (spelling.at ended says) = read_line st (closed st) number line kinds.At next (end_again st kept ended) (at_line_again st number line next kept says)
says_again st number line next kept (spelling.upload ended says) = read_line st (closed st) number line kinds.Upload next (end_again st kept ended) (upload_line_again st number line next kept says)
says_again st number line next kept (spelling.sync ended says) = read_line st (closed st) number line kinds.Sync next (end_again st kept ended) (sync_line_again st number line next kept says)
says_again st number line next kept (spelling.compact ended says) = read_line st (closed st) number line kinds.Compact next (end_again st kept ended) (compact_line_again st number line next kept says)
says_again st number line next kept (spelling.clean ended says) = read_line st (closed st) number line kinds.Clean next (end_again st kept ended) (clean_line_again st number line next kept says)
says_again st number line next kept (spelling.query ended says) = read_line st (closed st) number line kinds.Query next (end_again st kept ended) (query_line_again st number line next kept says)

-- ---- whole texts

-- lines that are read, and what is kept after them
pub record AreReadLines (st : State) (number : ℕ) (lines : List (List ℕ)) (last : SoFar) : Type 0 where
  pub after : State
  pub read : lines_at st number lines ≡ Ok after
  pub last_is : so_far_of after ≡ last
  pub kept : Kept after

silent_again : (st : State) (number : ℕ) (line : List ℕ) → is_silent line ≡ true → line_at st number line ≡ Ok st
unfolding line_at
silent_again st number line silent = rw silent refl

pub spoken_again : (st after : State) (number : ℕ) (line : List ℕ) → is_silent line ≡ false → is_utf8 line ≡ true → text_line st number line ≡ Ok after → line_at st number line ≡ Ok after
unfolding line_at spoken_line
spoken_again st after number line spoken utf8 read = rw (spoken, utf8) read

more_read : (st next : State) (number : ℕ) (line : List ℕ) (lines : List (List ℕ)) (last : SoFar) → line_at st number line ≡ Ok next → AreReadLines next (number + 1) lines last → AreReadLines st number (line ∷ lines) last
unfolding lines_at
more_read st next number line lines last read others =
    let rest = others.read in record { after = others.after; read = rw read rest; last_is = others.last_is; kept = others.kept }

lines_by : (st : State) (number : ℕ) (line : List ℕ) (lines : List (List ℕ)) (last : SoFar) (b : Bool) → is_silent line ≡ b → Kept st → ((next : State) → Kept next → Say (so_far_of next) (number + 1) lines last → AreReadLines next (number + 1) lines last) → MatchBool b (Say (so_far_of st) (number + 1) lines last) ((next : SoFar) × (is_utf8 line ≡ true) × Says (so_far_of st) number line next × Say next (number + 1) lines last) → AreReadLines st number (line ∷ lines) last
lines_by st number line lines last true silent kept later said =
    more_read st st number line lines last (silent_again st number line silent) (later st kept said)
lines_by st number line lines last false spoken kept later said =
    let one = says_again st number line said.0 kept said.2 in
    let next_kept = (text_found st one.after number line kept one.read).1 in
    more_read st one.after number line lines last (spoken_again st one.after number line spoken said.1 one.read) (later one.after next_kept (subst (λ (s : SoFar). Say s (number + 1) lines last) (sym one.next_is) said.3))

lines_again : (st : State) (number : ℕ) (lines : List (List ℕ)) (last : SoFar) → Kept st → Say (so_far_of st) number lines last → AreReadLines st number lines last
unfolding lines_at
lines_again st number [] last kept said = record { after = st; read = refl; last_is = said; kept = kept }
lines_again st number (line ∷ lines) last kept said =
    lines_by st number line lines last (is_silent line) refl kept (λ next next_kept rest. lines_again next (number + 1) lines last next_kept rest) said

finish_again : (st : State) → Kept st → HasEnded (all_blocks st.blocks st.last st.shelved) → finish st ≡ Ok (script_of_state st)
unfolding finish
finish_again st kept ended = let is = end_again st kept ended in rw is refl

pub read_whole : (text : List ℕ) (after : State) (script : Script) → nat_lt longest_text (length text) ≡ false → lines_at (start standard_rules) 1 (lines_of text) ≡ Ok after → finish after ≡ Ok script → script_of text ≡ Ok script
unfolding script_of
read_whole text after script short read end = rw (short, read) end

-- what a text spells is read of it
pub script_again : (text : List ℕ) (script : Script) → Spells text script → script_of text ≡ Ok script
script_again text script spells =
    let lines = lines_again (start standard_rules) 1 (lines_of text) (record { script = script; in_block = spells.in_block }) start_kept (subst (λ (s : SoFar). Say s 1 (lines_of text) (record { script = script; in_block = spells.in_block })) (sym start_is) spells.lines) in
    let same : script_of_state lines.after ≡ script = ap (λ (s : SoFar). s.script) lines.last_is in
    let fits = spells.short in
    let short : nat_lt longest_text (length text) ≡ false = grind (arith, nat_tests) in
    let ended : HasEnded (all_blocks lines.after.blocks lines.after.last lines.after.shelved) = subst (λ (s : Script). HasEnded s.blocks) (sym same) spells.ended in
    read_whole text lines.after script short lines.read (finish_again lines.after lines.kept ended ∙ ap Ok same)
