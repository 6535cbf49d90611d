-- Numbers rise along a journal and moments do not fall, and keys are told by their texts.
use Rattle.std.proofs.Common.{◌≡◌, ℕ, ◌+◌, ◌<◌, ◌≤◌, ◌^◌, ◌==◌, false, not, cond, List, [], ◌∷◌, ◌++◌, map, length, take, refl, sym, ◌∙◌, ap, subst, append_assoc, arith}
use Rattle.std.specs.List.{All, before_first, position_or_len}
use Rattle.std.specs.Int.Digits.{AllBelowBase}
use Rattle.std.proofs.lemmas.Bool.Decides.{nat_tests}
use Rattle.std.proofs.lemmas.List.{length-append}
use Rattle.std.proofs.lemmas.List.Elements.{All-cons, All-nil, All-weaker}
use Rattle.base.proofs.Positional.{below-fixed_digits}
use Rattle.ulid_core.proofs.Tables.{character-range}
use Rattle.ulid_core.proofs.UlidLaws.{IsUlidText-text_of}
use Rattle.ulid_core.specs.FixedDigits.{fixed_digits}
use Rattle.ulid_core.specs.UlidText.{character, text_of}
use Rattle.block_keys.proofs.KeyLaws.{IsKeyText-key_text, key_text-distinct}
use Rattle.block_keys.specs.Keys.{IsLawfulKey, key_ulid}
use Rattle.block_keys.specs.KeyText.{key_text, name_of}
use Rattle.block_keys.specs.declared.key.Key.{Key}
use Rattle.world_core.specs.Journals.{IsNumbered}
use Rattle.world_core.specs.Moments.{HasMoments, last_moment, moment_after}
use Rattle.world_core.specs.Worlds.{IsJournal}
use Rattle.world_core.specs.declared.entry.Entry.{Entry}
use Rattle.world_core.proofs.Growing.{last_more}
use Rattle.lifecycle_core.proofs.journals.Told.{Rises}
use Rattle.lifecycle_core.proofs.journals.Unbroken.{after_more}
use Rattle.base.proofs.Numbers.{one_more_is}

-- ---- numbers and moments

abbrev IsLater : ℕ → ℕ → Entry → Type 0
IsLater number moment x = (number < x.seq) × (moment ≤ x.moment.ms)

all_later : (one two first second : ℕ) (entries : List Entry) → one ≤ two → first ≤ second → All (IsLater two second) entries → All (IsLater one first) entries
all_later one two first second entries lower earlier all = All-weaker (IsLater two second) (IsLater one first) (λ x p. (omega (arith, lower, p.0), omega (arith, earlier, p.1))) entries all

rises_on : (number moment : ℕ) (e : Entry) (entries : List Entry) → number < e.seq → moment ≤ e.moment.ms → All (IsLater e.seq e.moment.ms) entries × Rises entries → All (IsLater number moment) (e ∷ entries) × Rises (e ∷ entries)
rises_on number moment e entries lower earlier rest =
    (All-cons (IsLater number moment) e entries (lower, earlier) (all_later number e.seq moment e.moment.ms entries (omega (arith, lower)) earlier rest.0), rest)

rises_from : (tick : ℕ) (before entries : List Entry) → IsNumbered (before ++ entries) → HasMoments tick (before ++ entries) → All (IsLater (length before) (last_moment before)) entries × Rises entries
rises_from tick before [] numbered moments = (All-nil (IsLater (length before) (last_moment before)), tt)
rises_from tick before (e ∷ entries) numbered moments =
    let same : (before ++ e ∷ []) ++ entries ≡ before ++ e ∷ entries = append_assoc before (e ∷ []) entries in
    let rest = rises_from tick (before ++ e ∷ []) entries (subst IsNumbered (sym same) numbered) (subst (HasMoments tick) (sym same) moments) in
    let number : e.seq ≡ length before + 1 = numbered before entries e refl in
    let moment : e.moment.ms ≡ moment_after tick (last_moment before) e.op = moments before entries e refl in
    let count : length (before ++ e ∷ []) ≡ e.seq = length-append before (e ∷ []) ∙ sym number in
    rises_on (length before) (last_moment before) e entries (omega (arith, number)) (omega (arith, moment, after_more tick (last_moment before) e.op))
    (subst (λ m. All (IsLater e.seq m) entries) (last_more before e) (subst (λ n. All (IsLater n (last_moment (before ++ e ∷ []))) entries) count rest.0), rest.1)

-- numbers rise along a journal, and moments do not fall
pub journal_rises : (tick : ℕ) (journal : List Entry) → IsJournal tick journal → Rises journal
journal_rises tick journal is = (rises_from tick [] journal is.numbered is.moments).1

-- ---- texts of keys

-- a text of characters holds no slash
to_slash : (digits others : List ℕ) → AllBelowBase 32 digits → before_first (λ byte. byte == 47) (map character digits ++ 47 ∷ others) ≡ map character digits
to_slash [] others low = refl
to_slash (d ∷ digits) others low =
    let rest = map character digits ++ 47 ∷ others in
    let n = position_or_len (λ byte. byte == 47) rest in
    let range = character-range d low.0 in
    let other : (character d == 47) ≡ false = grind (arith, nat_tests) in
    ap (λ b. take (cond (not b) (1 + n) 0) (character d ∷ rest)) other ∙ ap (λ m. take m (character d ∷ rest)) (one_more_is n) ∙ ap (λ text. character d ∷ text) (to_slash digits others low.1)

-- an object of a block is listed in the root under the block's ULID
pub root_name : (k : Key) → text_of (key_ulid k) ≡ before_first (λ byte. byte == 47) (key_text k)
unfolding key_text text_of
root_name k =
    let digits = fixed_digits 32 26 (key_ulid k) in
    let name = name_of k in
    sym (ap (before_first (λ byte. byte == 47)) (append_assoc (map character digits) (47 ∷ []) name) ∙ to_slash digits name (below-fixed_digits 32 26 (key_ulid k) (omega arith)))

-- keys that can be written have one text only where they are one
pub one_key : (k other : Key) → IsLawfulKey k → IsLawfulKey other → key_ulid k < 2 ^ 128 → key_ulid other < 2 ^ 128 → key_text k ≡ key_text other → k ≡ other
one_key k other lawful also small little same =
    key_text-distinct k other (IsKeyText-key_text k lawful (IsUlidText-text_of (key_ulid k) small)) (IsKeyText-key_text other also (IsUlidText-text_of (key_ulid other) little)) same
