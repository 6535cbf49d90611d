-- The lines of the generated day ask by no pattern.
use Rattle.std.proofs.Common.{◌≡◌, ℕ, zero, suc, ◌+◌, ◌<◌, ◌≤◌, true, false, ◌&&◌, Some, List, [], ◌∷◌, ◌++◌, refl, sym, ap, ◌∙◌, subst, arith, codes, append-nil, append_assoc}
use Rattle.std.specs.List.{flat_map, list_all, range_with_len}
use Rattle.std.specs.Str.{bytes_eq}
use Rattle.base.specs.Lines.{line_feed}
use Rattle.base.specs.Decimal.{decimal_text}
use Rattle.ulid_core.specs.UlidText.{text_of}
use Rattle.script_fields.specs.Fields.{lines_of, next_field}
use Rattle.script_core.specs.Parts.{IsEnded, IsOneLine}
use Rattle.script_fields.proofs.FieldLaws.{cut_again, no_space}
use Rattle.script_core.proofs.PartLaws.{cut_one}
use Rattle.script_core.proofs.SampleSigns.{all_joined}
use Rattle.generated_day.specs.Day.{all_rounds_text, all_uploads_text, at_line, block_line, block_start, cleaning_text, day_start, hours, look_text, minutes, phases_text, round_text, setup_text, ulid_of, upload_line, uploads_at}
use Rattle.generated_day.proofs.DayBlocks.{digits_print, front_is, front_of, front_prints, ulid_prints}
use Rattle.generated_day.proofs.Tells.{is_print, print_line}
use Rattle.generated_day.proofs.Wanting.{ended_by, is_plain}

-- no line of the text, before others that ask by none, does
abbrev pub IsPlain : List ℕ → Type 0
IsPlain text =
    (more : List ℕ) → list_all is_plain (lines_of more) ≡ true → list_all is_plain (lines_of (text ++ more)) ≡ true

no_line : list_all is_plain (lines_of []) ≡ true
unfolding is_plain next_field
no_line = refl

pub plain_lines : (text : List ℕ) → IsPlain text → list_all is_plain (lines_of text) ≡ true
plain_lines text plain =
    subst (λ t. list_all is_plain (lines_of t) ≡ true) (append-nil text) (plain [] no_line)

plain_nothing : IsPlain []
plain_nothing more rest = rest

plain_both : (front text : List ℕ) → IsPlain front → IsPlain text → IsPlain (front ++ text)
plain_both front text one two more rest =
    subst (λ t. list_all is_plain (lines_of t) ≡ true) (sym (append_assoc front text more)) (one (text ++ more) (two more rest))

plain_line : (line : List ℕ) → IsOneLine line → is_plain line ≡ true → IsPlain (line ++ line_feed ∷ [])
plain_line line one plain more rest =
    ap (λ t. list_all is_plain (lines_of t)) (append_assoc line (line_feed ∷ []) more)
    ∙ ap (list_all is_plain) (cut_one line one more)
    ∙ (λ i. plain i && rest i)

plain_word : (line word rest : List ℕ) → line ≡ word ++ 32 ∷ rest → no_space word ≡ true → bytes_eq word (codes "query") ≡ false → is_plain line ≡ true
unfolding is_plain
plain_word line word rest is free other =
    let cut = ap (λ l. next_field (Some l)) is ∙ cut_again word rest free in rw (cut, other) refl

plain_all : (f : ℕ → List ℕ) (last : ℕ) → ((place : ℕ) → place < last → IsPlain (f place)) → (from count : ℕ) → from + count ≤ last → IsPlain (flat_map f (range_with_len from count))
plain_all f last each from zero few = plain_nothing
plain_all f last each from (suc count) few =
    plain_both (f from) (flat_map f (range_with_len (from + 1) count)) (each from (omega (arith, few))) (plain_all f last each (from + 1) count (omega (arith, few)))

-- ---- blocks

module _ (number block replica : ℕ) (early : block < 12) (two : replica < 2) where
  block_is_plain : IsPlain (block_line block replica)
  unfolding block_line
  block_is_plain =
      plain_line (front_of block replica) (print_line (front_of block replica) (front_prints number block replica early two)) (plain_word (front_of block replica) (codes "block") _ (front_is number block replica early two) refl refl)

  pub block_plain : list_all is_plain (lines_of (block_line block replica)) ≡ true
  block_plain = plain_lines (block_line block replica) block_is_plain

  pub block_ended : IsEnded (block_line block replica)
  unfolding block_line
  block_ended = ended_by (front_of block replica)

-- ---- the lines before them

pub setup_plain : list_all is_plain (lines_of setup_text) ≡ true
unfolding setup_text is_plain next_field
setup_plain = refl

pub setup_ended : IsEnded setup_text
unfolding setup_text
setup_ended = ended_by (codes "rule replica-label replica\ngateway g1\ngateway g2")

-- ---- phases

at_is_plain : (moment : ℕ) → IsPlain (at_line moment)
unfolding at_line
at_is_plain moment =
    let line : List ℕ = codes "at " ++ decimal_text moment in
    plain_line line (print_line line (all_joined is_print (codes "at ") (decimal_text moment) refl (digits_print moment))) (plain_word line (codes "at") (decimal_text moment) refl refl refl)

upload_is_plain : (block replica : ℕ) → block < 12 → replica < 2 → IsPlain (upload_line block replica)
unfolding upload_line
upload_is_plain block replica early two =
    let ulid = text_of (ulid_of block replica) in
    let line : List ℕ = codes "upload " ++ ulid in
    plain_line line (print_line line (all_joined is_print (codes "upload ") ulid refl (ulid_prints 0 block replica early two))) (plain_word line (codes "upload") ulid refl refl refl)

uploads_are_plain : (block : ℕ) → block < 12 → IsPlain (uploads_at block)
unfolding uploads_at
uploads_are_plain block early =
    let at = at_line (block_start (block + 1)) in
    plain_both (at ++ upload_line block 0) (upload_line block 1) (plain_both at (upload_line block 0) (at_is_plain (block_start (block + 1))) (upload_is_plain block 0 early (omega arith))) (upload_is_plain block 1 early (omega arith))

sync_one : is_plain (codes "sync g1") ≡ true
unfolding is_plain next_field
sync_one = refl

sync_two : is_plain (codes "sync g2") ≡ true
unfolding is_plain next_field
sync_two = refl

asks : is_plain (codes "query 1728000000000 1728086400000 {}") ≡ true
unfolding is_plain next_field
asks = refl

compacts : is_plain (codes "compact") ≡ true
unfolding is_plain next_field
compacts = refl

cleans : is_plain (codes "clean") ≡ true
unfolding is_plain next_field
cleans = refl

look_is_plain : (moment : ℕ) → IsPlain (look_text moment)
unfolding look_text
look_is_plain moment =
    let query : List ℕ = codes "query 1728000000000 1728086400000 {}\n" in
    plain_both (at_line moment) (codes "sync g1\nsync g2\nquery 1728000000000 1728086400000 {}\n") (at_is_plain moment) (plain_both (codes "sync g1\n") (codes "sync g2\nquery 1728000000000 1728086400000 {}\n") (plain_line (codes "sync g1") refl sync_one) (plain_both (codes "sync g2\n") query (plain_line (codes "sync g2") refl sync_two) (plain_line (codes "query 1728000000000 1728086400000 {}") refl asks)))

round_is_plain : (round : ℕ) → IsPlain (round_text round)
unfolding round_text
round_is_plain round =
    plain_both (at_line (day_start + hours 25 + minutes round)) (codes "compact\n") (at_is_plain (day_start + hours 25 + minutes round)) (plain_line (codes "compact") refl compacts)

cleaning_is_plain : IsPlain cleaning_text
unfolding cleaning_text
cleaning_is_plain =
    plain_both (at_line (day_start + hours 74)) (codes "clean\n") (at_is_plain (day_start + hours 74)) (plain_line (codes "clean") refl cleans)

phases_are_plain : IsPlain phases_text
unfolding phases_text all_uploads_text all_rounds_text
phases_are_plain =
    let last = look_text (day_start + hours 74 + minutes 1) in
    let one : List ℕ = all_uploads_text ++ look_text (day_start + hours 25) in
    let two : List ℕ = one ++ all_rounds_text in
    let three : List ℕ = two ++ look_text (day_start + hours 26) in
    let uploads = plain_all uploads_at 12 uploads_are_plain 0 12 (omega arith) in
    let rounds = plain_all round_text 16 (λ round below. round_is_plain round) 1 15 (omega arith) in
    plain_both (three ++ cleaning_text) last (plain_both three cleaning_text (plain_both two (look_text (day_start + hours 26)) (plain_both one all_rounds_text (plain_both all_uploads_text (look_text (day_start + hours 25)) uploads (look_is_plain (day_start + hours 25))) rounds) (look_is_plain (day_start + hours 26))) cleaning_is_plain) (look_is_plain (day_start + hours 74 + minutes 1))

pub phases_plain : list_all is_plain (lines_of phases_text) ≡ true
phases_plain = plain_lines phases_text phases_are_plain

pub phases_ended : IsEnded phases_text
unfolding phases_text look_text
phases_ended =
    let front : List ℕ = all_uploads_text ++ look_text (day_start + hours 25) ++ all_rounds_text ++ look_text (day_start + hours 26) ++ cleaning_text in
    let at = at_line (day_start + hours 74 + minutes 1) in
    let line : List ℕ = codes "sync g1\nsync g2\nquery 1728000000000 1728086400000 {}" in
    subst IsEnded (append_assoc (front ++ at) line (line_feed ∷ []) ∙ append_assoc front at (line ++ line_feed ∷ [])) (ended_by (front ++ at ++ line))
