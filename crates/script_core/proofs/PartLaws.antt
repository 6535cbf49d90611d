-- A script that comes part by part is read as its text is.
use Rattle.std.proofs.Common.{◌≡◌, ◌≢◌, ℕ, ◌+◌, ◌*◌, ◌<◌, ◌≤◌, true, false, not, nat_lt, ◌==◌, List, [], ◌∷◌, ◌++◌, length, get_or, Result, Ok, Err, IfOk, inl, inr, refl, sym, ap, ◌∙◌, subst, arith, append-nil, append_assoc}
use Rattle.std.specs.List.{position_or_len, before_first, after_first}
use Rattle.std.proofs.lemmas.Bool.{not-true, not_from_false}
use Rattle.std.proofs.lemmas.Bool.Decides.{nat_tests}
use Rattle.std.proofs.lemmas.List.{length-append, length-take, get_or-take}
use Rattle.std.proofs.lemmas.List.Splits.{slice_split_at}
use Rattle.std.proofs.lemmas.List.Sums.{AllPass-from_list_all, list_all-from_AllPass, split_at_first, passes_at_first, fails_before_first}
use Rattle.base.specs.Lines.{line_feed}
use Rattle.base.specs.Reading.{Gives}
use Rattle.moment_core.specs.StandardRules.{standard_rules}
use Rattle.script_core.specs.declared.part_reader.PartReader.{PartReader}
use Rattle.script_core.specs.declared.script.Script.{Script}
use Rattle.script_fields.specs.declared.script_refusal.ScriptRefusal.{ScriptRefusal}
use Rattle.script_fields.specs.declared.script_refusal.ScriptRefusal.TheVariants.{NoMemory}
use Rattle.script_fields.specs.Fields.{is_newline, lines_of}
use Rattle.script_core.specs.Lawful.{IsLawfulScript}
use Rattle.script_fields.specs.Limits.{longest_text}
use Rattle.script_core.specs.Parts.{Leaves, HasRead, Reads, IsOneLine}
use Rattle.script_core.specs.Reading.{line_at, lines_at, script_of}
use Rattle.script_core.specs.Spelling.{Spells}
use Rattle.script_core.specs.State.{State, start, finish}
use Rattle.script_core.specs.View.{state_of}
use Rattle.script_core.proofs.AgainLines.{read_whole}
use Rattle.script_core.proofs.FoundLines.{script_found}
use Rattle.script_core.proofs.LawfulScripts.{spelled_lawful}
use Rattle.script_core.proofs.LineLists.{empty_line}
use Rattle.script_core.proofs.LinesSoFar.{lines_at-push}

newline_is : (byte : ℕ) → is_newline byte ≡ true → byte ≡ 10
newline_is byte is = grind (arith, nat_tests)

-- where there is a newline, the text stands around it
around : (text : List ℕ) → position_or_len is_newline text < length text → text ≡ before_first is_newline text ++ 10 ∷ after_first is_newline text
around text inside =
    split_at_first is_newline text 0 inside ∙ ap (λ byte. before_first is_newline text ++ byte ∷ after_first is_newline text) (newline_is (get_or text (position_or_len is_newline text) 0) (passes_at_first is_newline text 0 inside))

-- a line that is shorter than the text before which it is cut ends with a newline
pub cut_line_is : (text line rest : List ℕ) → line ≡ before_first is_newline text → rest ≡ after_first is_newline text → length line < length text → text ≡ (line ++ line_feed ∷ []) ++ rest
cut_line_is text line rest line_is rest_is shorter =
    let inside : position_or_len is_newline text < length text = omega (arith, ap length line_is, length-take (position_or_len is_newline text) text) in
    around text inside ∙ (λ i. sym line_is i ++ 10 ∷ sym rest_is i) ∙ sym (append_assoc line (10 ∷ []) rest)

pub shorter_by : (text line : List ℕ) → line ≡ before_first is_newline text → length line ≢ length text → length line < length text
shorter_by text line is other =
    let size = length-take (position_or_len is_newline text) text in
    omega (arith, size, ap length is, other)

-- ---- what is left to the lines behind

leaves_more : (text line : List ℕ) (count : ℕ) (st after : State) → Leaves text count st → ((more : List ℕ) → lines_of (line ++ line_feed ∷ more) ≡ line ∷ lines_of more) → line_at st (count + 1) line ≡ Ok after → Leaves (text ++ (line ++ line_feed ∷ [])) (count + 1) after
unfolding lines_at
leaves_more text line count st after so_far cut read more =
    let parts : (text ++ (line ++ line_feed ∷ [])) ++ more ≡ text ++ (line ++ line_feed ∷ more) = append_assoc text (line ++ line_feed ∷ []) more ∙ ap (λ t. text ++ t) (append_assoc line (line_feed ∷ []) more) in
    let first : lines_at st (count + 1) (line ∷ lines_of more) ≡ lines_at after (count + 1 + 1) (lines_of more) = rw read refl in
    ap (λ t. lines_at (start standard_rules) 1 (lines_of t)) parts ∙ so_far (line ++ line_feed ∷ more) ∙ ap (lines_at st (count + 1)) (cut more) ∙ first

pub cut_one : (line : List ℕ) → IsOneLine line → (more : List ℕ) → lines_of (line ++ line_feed ∷ more) ≡ line ∷ lines_of more
cut_one line one more =
    slice_split_at is_newline line line_feed more (λ k d below. not-true _ (AllPass-from_list_all (λ byte. not (is_newline byte)) line one k d below)) refl

-- a line that was cut off has no newline in it
pub before_one : (text line : List ℕ) → line ≡ before_first is_newline text → IsOneLine line
before_one text line is =
    subst IsOneLine (sym is) (list_all-from_AllPass (λ byte. not (is_newline byte)) (before_first is_newline text) (λ k d below.
    let inside : k < position_or_len is_newline text = omega (arith, length-take (position_or_len is_newline text) text) in
    not_from_false _ (ap is_newline (get_or-take (position_or_len is_newline text) text k d inside) ∙ fails_before_first is_newline text k d inside)))

-- ---- a reader

pub nothing_read : (reader : PartReader) → state_of reader.draft ≡ start standard_rules → reader.lines ≡ 0 → reader.bytes ≡ 0 → HasRead reader []
nothing_read reader st none empty = record {
  leaves = λ more. (λ i. lines_at (sym st i) (sym none i + 1) (lines_of more));
  size = omega arith;
  near = omega (arith, empty);
}

module _ (before after : PartReader) (line : List ℕ) (bytes : ℕ) (one : IsOneLine line) (read : line_at (state_of before.draft) (before.lines + 1) line ≡ Ok (state_of after.draft)) (lines_is : after.lines ≡ before.lines + 1) (bytes_is : after.bytes ≡ before.bytes + bytes) (fits : length line + 1 ≤ bytes) (near : bytes ≤ 2 * (length line + 1)) where
  pub line_reads : Reads before after (line ++ line_feed ∷ [])
  line_reads text has =
      let more = leaves_more text line before.lines (state_of before.draft) (state_of after.draft) has.leaves (cut_one line one) read in
      record {
        leaves = subst (λ n. Leaves (text ++ (line ++ line_feed ∷ [])) n (state_of after.draft)) (sym lines_is) more;
        size = omega (arith, has.size, bytes_is, fits, length-append text (line ++ line_feed ∷ []), length-append line (line_feed ∷ []));
        near = omega (arith, has.near, bytes_is, near, length-append text (line ++ line_feed ∷ []), length-append line (line_feed ∷ []));
      }

-- and nothing more
pub reads_nothing : (reader : PartReader) (text : List ℕ) → text ≡ [] → Reads reader reader text
reads_nothing reader text none read has =
    subst (HasRead reader) (sym (append-nil read) ∙ ap (λ t. read ++ t) (sym none)) has

-- one part, and then another
pub reads_both : (first middle last : PartReader) (front text : List ℕ) → Reads first middle front → Reads middle last text → Reads first last (front ++ text)
reads_both first middle last front text one two read has =
    subst (HasRead last) (append_assoc read front text) (two (read ++ front) (one read has))

-- ---- lines that are read one after another

-- the front of a text that was read, and what is left of it
pub record ReadFront (old now : PartReader) (text left : List ℕ) : Type 0 where
  pub front : List ℕ
  pub lines : List (List ℕ)
  pub cut : (more : List ℕ) → lines_of (front ++ more) ≡ lines ++ lines_of more
  pub whole : text ≡ front ++ left
  pub count : now.lines ≡ old.lines + length lines
  pub lead : lines_at (state_of old.draft) (old.lines + 1) lines ≡ Ok (state_of now.draft)
  pub reads : Reads old now front

pub no_front : (reader : PartReader) (text : List ℕ) → ReadFront reader reader text text
unfolding lines_at
no_front reader text =
    record { front = []; lines = []; cut = λ more. refl; whole = refl; count = omega arith; lead = refl; reads = reads_nothing reader [] refl }

module _ (old now next : PartReader) (text left line rest : List ℕ) (so_far : ReadFront old now text left) (line_is : line ≡ before_first is_newline left) (rest_is : rest ≡ after_first is_newline left) (shorter : length line < length left) (bytes_is : next.bytes ≡ now.bytes + (length line + 1)) where
  pub front_more : line_at (state_of now.draft) (now.lines + 1) line ≡ Ok (state_of next.draft) → next.lines ≡ now.lines + 1 → ReadFront old next text rest
  front_more read lines_is =
      let free = before_one left line line_is in
      let cut = cut_line_is left line rest line_is rest_is shorter in
      let place : old.lines + 1 + length so_far.lines ≡ now.lines + 1 = omega (arith, so_far.count) in
      record {
        front = so_far.front ++ (line ++ line_feed ∷ []);
        lines = so_far.lines ++ line ∷ [];
        cut = λ more. ap lines_of (append_assoc so_far.front (line ++ line_feed ∷ []) more ∙ ap (λ t. so_far.front ++ t) (append_assoc line (line_feed ∷ []) more))
            ∙ so_far.cut (line ++ line_feed ∷ more)
            ∙ ap (λ ls. so_far.lines ++ ls) (cut_one line free more)
            ∙ sym (append_assoc so_far.lines (line ∷ []) (lines_of more));
        whole = so_far.whole ∙ ap (λ t. so_far.front ++ t) cut ∙ sym (append_assoc so_far.front (line ++ line_feed ∷ []) rest);
        count = omega (arith, so_far.count, lines_is, length-append so_far.lines (line ∷ []));
        lead = lines_at-push (state_of old.draft) (state_of now.draft) (state_of next.draft) (old.lines + 1) so_far.lines line so_far.lead (ap (λ n. line_at (state_of now.draft) n line) place ∙ read);
        reads = reads_both old now next so_far.front (line ++ line_feed ∷ []) so_far.reads (line_reads now next line (length line + 1) free read lines_is bytes_is (omega arith) (omega arith));
      }

pub whole_front : (old now : PartReader) (text left : List ℕ) → ReadFront old now text left → (length left == 0) ≡ true → Reads old now text
whole_front old now text [] so_far none =
    subst (Reads old now) (sym (so_far.whole ∙ append-nil so_far.front)) so_far.reads
whole_front old now text (byte ∷ left) so_far none = absurd (grind (arith, nat_tests))

-- ---- the end

whole_read : (reader : PartReader) (text : List ℕ) → HasRead reader text → lines_at (start standard_rules) 1 (lines_of text) ≡ Ok (state_of reader.draft)
whole_read reader text has =
    ap (λ t. lines_at (start standard_rules) 1 (lines_of t)) (sym (append-nil text)) ∙ has.leaves [] ∙ empty_line (state_of reader.draft) (reader.lines + 1)

is_short : (reader : PartReader) (text : List ℕ) → HasRead reader text → nat_lt longest_text (length text) ≡ false
is_short reader text has =
    let fits = has.size in let few = reader.short in grind (arith, nat_tests)

end_refused : (text : List ℕ) (after : State) (refusal : ScriptRefusal) → nat_lt longest_text (length text) ≡ false → lines_at (start standard_rules) 1 (lines_of text) ≡ Ok after → finish after ≡ Err refusal → script_of text ≡ Err refusal
unfolding script_of
end_refused text after refusal short read refused = rw (short, read) refused

script_read : (reader : PartReader) (text : List ℕ) (script : Script) → HasRead reader text → finish (state_of reader.draft) ≡ Ok script → Spells text script
script_read reader text script has end =
    script_found text script (read_whole text (state_of reader.draft) script (is_short reader text has) (whole_read reader text has) end)

abbrev Finishes : PartReader → Result Script ScriptRefusal → Type 0
Finishes reader result = Gives NoMemory (λ (script : Script). script) result (finish (state_of reader.draft))

pub spelled_end : (reader : PartReader) (result : Result Script ScriptRefusal) → Finishes reader result → (text : List ℕ) → HasRead reader text → IfOk result (λ script. Spells text script)
spelled_end reader (Ok script) end text has = script_read reader text script has end
spelled_end reader (Err refusal) end text has = tt

pub lawful_end : (reader : PartReader) (result : Result Script ScriptRefusal) → Finishes reader result → (text : List ℕ) → HasRead reader text → IfOk result (λ script. IsLawfulScript script)
lawful_end reader (Ok script) end text has = spelled_lawful text script (script_read reader text script has end)
lawful_end reader (Err refusal) end text has = tt

pub gives_end : (reader : PartReader) (result : Result Script ScriptRefusal) → Finishes reader result → (text : List ℕ) → HasRead reader text → Gives NoMemory (λ (script : Script). script) result (script_of text)
gives_end reader (Ok script) end text has =
    read_whole text (state_of reader.draft) script (is_short reader text has) (whole_read reader text has) end
gives_end reader (Err refusal) (inl memory) text has = inl memory
gives_end reader (Err refusal) (inr refused) text has =
    inr (end_refused text (state_of reader.draft) refusal (is_short reader text has) (whole_read reader text has) refused)
