-- The lines before the first phase of the generated day.
use Rattle.std.proofs.Common.{◌≡◌, ℕ, zero, suc, ◌+◌, ◌-◌, ◌*◌, ◌<◌, ◌≤◌, ◌^◌, pos, Bool, true, false, not, ◌&&◌, ◌||◌, ◌==◌, nat_lt, List, [], ◌∷◌, ◌++◌, length, map, refl, sym, ap, ◌∙◌, subst, arith, rules, tests, codes, append_assoc}
use Rattle.std.specs.Char.{is_ascii_digit}
use Rattle.std.specs.List.{list_all, flat_map, range_with_len}
use Rattle.std.proofs.lemmas.Bool.{and_parts}
use Rattle.std.proofs.lemmas.Bool.Decides.{nat_tests}
use Rattle.std.proofs.lemmas.Int.{ints}
use Rattle.std.proofs.lemmas.Nat.{mod_low}
use Rattle.std.specs.Int.Digits.{AllBelowBase}
use Rattle.std.proofs.lemmas.List.{length-append, same_from_push}
use Rattle.std.proofs.lemmas.List.Sorted.{IsPermutation-refl}
use Rattle.base.specs.Lines.{line_feed}
use Rattle.base.specs.Decimal.{decimal_text, signed_text}
use Rattle.base.proofs.Decimals.{decimal_again, decimal_digits}
use Rattle.ulid_core.specs.UlidText.{alphabet, character, text_of}
use Rattle.ulid_core.proofs.UlidLaws.{IsUlidText-text_of, length-text_of}
use Rattle.label_sets.specs.Notation.{is_name, quoted, quoted_byte, pair_text, comma_pair_text, pairs_text, set_text}
use Rattle.label_sets.specs.SetText.{IsSetText}
use Rattle.label_sets.specs.declared.label.Label.{Label}
use Rattle.moment_core.specs.Partitions.{all_times}
use Rattle.moment_core.specs.StandardRules.{standard_rules}
use Rattle.moment_core.specs.declared.rules.Rules.{Rules}
use Rattle.script_core.specs.Blocks.{declares}
use Rattle.script_fields.specs.Fields.{is_silent, is_space}
use Rattle.script_core.specs.Lawful.{HasSeries}
use Rattle.script_core.specs.Spelling.{BlockLine, GatewayLine, HasEnded, IsField, IsTimeText, IsUlidField, ReplicaLine, SoFar, at_all_times, nothing, outside}
use Rattle.script_core.specs.Spelling as spelling
use Rattle.script_core.specs.declared.block.Block.{Block}
use Rattle.script_core.specs.declared.body.Body.TheVariants.{Inline}
use Rattle.script_core.specs.declared.script.Script.{Script}
use Rattle.script_core.proofs.SampleSigns.{all_joined, all_weaker}
use Rattle.script_core.proofs.Kept.{declares-append}
use Rattle.generated_day.specs.Day.{all_blocks_text, all_series_text, block_line, block_start, block_text, blocks_at, external_text, setup_text, times_text, ulid_of}
use Rattle.generated_day.proofs.DayNumbers.{decimal_short, near_by}
use Rattle.generated_day.proofs.DaySeries.{all_short, all_tell, first_series, two_named, with_first}
use Rattle.generated_day.proofs.Tells.{Tells, digit_prints, in_range, is_print, speaks, tells_both, tells_line, tells_nothing}
use Rattle.base.proofs.Bools.{or_true}
use Rattle.base.proofs.Lists.{pushed_not_nil}

-- ---- numbers

digit_no_space : (byte : ℕ) → is_ascii_digit byte ≡ true → not (is_space byte) ≡ true
digit_no_space byte is = search (rules, tests)

pub decimal_field : (n : ℕ) → IsField (decimal_text n)
decimal_field n =
    let digits = decimal_digits (decimal_text n) (decimal_again n).0 in
    record {
      some = λ none. omega (arith, digits.0, ap length none);
      no_space = all_weaker is_ascii_digit (λ byte. not (is_space byte)) digit_no_space (decimal_text n) digits.1;
    }

pub time_text : (n : ℕ) → n < 2 ^ 62 → IsTimeText (decimal_text n) (pos n)
unfolding signed_text
time_text n small = record { field = decimal_field n; written = refl; near = near_by n small }

-- ---- texts

pub digits_print : (n : ℕ) → list_all is_print (decimal_text n) ≡ true
digits_print n = all_weaker is_ascii_digit is_print digit_prints (decimal_text n) (decimal_digits (decimal_text n) (decimal_again n).0).1

-- a character of a ULID
abbrev is_good : ℕ → Bool
is_good byte = is_print byte && not (is_space byte)

all_good : list_all (λ digit. is_good (character digit)) (range_with_len 0 32) ≡ true
unfolding character alphabet
all_good = refl

good_digits : (digits : List ℕ) → AllBelowBase 32 digits → list_all is_good (map character digits) ≡ true
good_digits [] all = refl
good_digits (digit ∷ digits) all =
    let below : digit < 32 = all.0 in
    let first : is_good (character digit) ≡ true = in_range (λ d. is_good (character d)) 0 32 digit all_good (omega arith) (omega (arith, below)) in
    let rest = good_digits digits all.1 in
    rw (first, rest) refl

ulid_good : (ulid : ℕ) → ulid < 2 ^ 128 → list_all is_good (text_of ulid) ≡ true
ulid_good ulid fits =
    let text = IsUlidText-text_of ulid fits in
    ap (list_all is_good) text.characters ∙ good_digits text.digits text.below_base

good_print : (byte : ℕ) → is_good byte ≡ true → is_print byte ≡ true
good_print byte is = (and_parts (is_print byte) (not (is_space byte)) is).0

good_field : (byte : ℕ) → is_good byte ≡ true → not (is_space byte) ≡ true
good_field byte is = (and_parts (is_print byte) (not (is_space byte)) is).1

-- fields behind one another, with a space before each but the first
line_joined : (ulid first last labels : List ℕ) → codes "block " ++ ulid ++ codes " " ++ (first ++ codes " " ++ last) ++ codes " " ++ labels ≡ codes "block" ++ 32 ∷ (ulid ++ 32 ∷ (first ++ 32 ∷ (last ++ 32 ∷ labels)))
line_joined ulid first last labels =
    let front : List ℕ = codes "block " ++ ulid in
    let times : List ℕ = first ++ codes " " ++ last in
    append_assoc (front ++ codes " " ++ times) (codes " ") labels
    ∙ append_assoc (front ++ codes " ") times (32 ∷ labels)
    ∙ append_assoc front (codes " ") (times ++ 32 ∷ labels)
    ∙ append_assoc (codes "block ") ulid (32 ∷ (times ++ 32 ∷ labels))
    ∙ ap (λ t. codes "block " ++ (ulid ++ 32 ∷ t)) (append_assoc (first ++ codes " ") last (32 ∷ labels) ∙ append_assoc first (codes " ") (last ++ 32 ∷ labels))

-- ---- the setup

abbrev pub day_rules : Rules
day_rules = record standard_rules { replicas = codes "replica" ∷ [] }

abbrev pub day_gateways : List (List ℕ)
day_gateways = codes "g1" ∷ codes "g2" ∷ []

abbrev pub setup : List Block → Script
setup blocks =
    record { rules = day_rules; gateways = day_gateways; partitions = all_times ∷ all_times ∷ []; blocks = blocks; selectors = []; phases = [] }

-- the script with blocks, and whether a series line may follow
abbrev pub with_blocks : List Block → Bool → SoFar
with_blocks blocks in_block = record { script = setup blocks; in_block = in_block }

none_ended : HasEnded []
none_ended others block is = absurd (pushed_not_nil others block (sym is))

pub setup_tells : Tells nothing 1 setup_text (with_blocks [] false) 4
unfolding setup_text is_name
setup_tells =
    let replica : SoFar = outside (record nothing.script { rules = record standard_rules { replicas = codes "replica" ∷ [] } }) in
    let one : SoFar = outside (record replica.script { gateways = codes "g1" ∷ []; partitions = all_times ∷ [] }) in
    let two : SoFar = outside (record replica.script { gateways = codes "g1" ∷ codes "g2" ∷ []; partitions = all_times ∷ all_times ∷ [] }) in
    let rule_says : ReplicaLine nothing (codes "rule replica-label replica") replica = record { name = codes "replica"; spelled = refl; field = record { some = λ e. cc; no_space = refl }; is_name = refl; early = refl; adds = refl } in
    let one_says : GatewayLine replica (codes "gateway g1") one = record { name = codes "g1"; texts = []; partition = all_times; spelled = refl; field = record { some = λ e. cc; no_space = refl }; is_name = refl; are_texts = at_all_times refl refl; early = refl; new = refl; few = omega arith; adds = refl } in
    let two_says : GatewayLine one (codes "gateway g2") two = record { name = codes "g2"; texts = []; partition = all_times; spelled = refl; field = record { some = λ e. cc; no_space = refl }; is_name = refl; are_texts = at_all_times refl refl; early = refl; new = refl; few = omega arith; adds = refl } in
    let gateways = tells_both replica one two 2 3 4 (codes "gateway g1\n") (codes "gateway g2\n") (tells_line replica one 2 (codes "gateway g1") refl refl (spelling.gateway none_ended one_says)) (tells_line one two 3 (codes "gateway g2") refl refl (spelling.gateway none_ended two_says)) in
    tells_both nothing replica two 1 2 4 (codes "rule replica-label replica\n") (codes "gateway g1\ngateway g2\n") (tells_line nothing replica 1 (codes "rule replica-label replica") refl refl (spelling.replica none_ended rule_says)) gateways

-- ---- a block's line

abbrev pub external_at : ℕ → List Label
external_at replica =
    record { name = codes "cluster"; value = codes "c" } ∷ record { name = codes "replica"; value = decimal_text replica } ∷ []

-- the line but for its newline
abbrev pub front_of : ℕ → ℕ → List ℕ
front_of block replica =
    codes "block " ++ text_of (ulid_of block replica) ++ codes " " ++ times_text block ++ codes " " ++ external_text replica

external_is : (replica : ℕ) → replica < 2 → external_text replica ≡ set_text (external_at replica)
unfolding external_text set_text pairs_text pair_text comma_pair_text quoted quoted_byte decimal_text
external_is zero two = refl
external_is (suc zero) two = refl
external_is (suc (suc replica)) two = absurd (omega (arith, two))

-- ---- the blocks so far

pub record Ready (blocks : List Block) (done : ℕ) : Type 0 where
  pub ended : HasEnded blocks
  pub count : length blocks ≡ done
  -- blocks to come, in the order in which they come
  pub fresh : (block replica : ℕ) → done ≤ 2 * block + replica → replica < 2 → declares blocks (ulid_of block replica) ≡ false
  pub there : (block replica : ℕ) → 2 * block + replica < done → replica < 2 → declares blocks (ulid_of block replica) ≡ true

pub none_ready : Ready [] 0
none_ready = record {
  ended = none_ended;
  count = refl;
  fresh = λ block replica later two. refl;
  there = λ block replica before two. absurd (omega (arith, before));
}

-- a later block has a greater ULID
greater : (block replica later other : ℕ) → 2 * block + replica < 2 * later + other → other < 2 → ulid_of block replica < ulid_of later other
greater block replica later other before two = omega (arith, before, two)

same_pair : (block replica later other : ℕ) → 2 * block + replica ≡ 2 * later + other → replica < 2 → other < 2 → ulid_of block replica ≡ ulid_of later other
same_pair block replica later other same one two =
    let blocks : block ≡ later = omega (arith, same, one, two) in
    let replicas : replica ≡ other = omega (arith, same, blocks) in
    λ i. ulid_of (blocks i) (replicas i)

there_by : (blocks : List Block) (new : Block) (done block replica at other : ℕ) (b : Bool) → nat_lt (2 * at + other) done ≡ b → Ready blocks done → done ≡ 2 * block + replica → new.ulid ≡ ulid_of block replica → replica < 2 → 2 * at + other < done + 1 → other < 2 → declares (blocks ++ new ∷ []) (ulid_of at other) ≡ true
there_by blocks new done block replica at other true test ready place ulid one below two =
    let old : declares blocks (ulid_of at other) ≡ true = ready.there at other (grind (arith, nat_tests)) two in
    declares-append blocks new (ulid_of at other) ∙ ap (λ b. b || (new.ulid == ulid_of at other)) old
there_by blocks new done block replica at other false test ready place ulid one below two =
    let last : 2 * block + replica ≡ 2 * at + other = grind (arith, nat_tests) in
    let same = ulid ∙ same_pair block replica at other last one two in
    let is : (new.ulid == ulid_of at other) ≡ true = grind (arith, nat_tests) in
    declares-append blocks new (ulid_of at other) ∙ ap (λ b. declares blocks (ulid_of at other) || b) is ∙ or_true (declares blocks (ulid_of at other))

more_ready : (blocks : List Block) (new : Block) (done block replica : ℕ) → Ready blocks done → done ≡ 2 * block + replica → replica < 2 → new.ulid ≡ ulid_of block replica → HasSeries new.body → Ready (blocks ++ new ∷ []) (done + 1)
more_ready blocks new done block replica ready place two ulid some = record {
  ended = λ others last is.
      let same = same_from_push blocks others new last is in subst (λ (b : Block). HasSeries b.body) same.1 some;
  count = length-append blocks (new ∷ []) ∙ ap (λ n. n + 1) ready.count;
  fresh = λ at other later few.
      let above = greater block replica at other (omega (arith, later, place)) few in
      let apart : (new.ulid == ulid_of at other) ≡ false = grind (arith, nat_tests) in
      declares-append blocks new (ulid_of at other) ∙ (λ i. ready.fresh at other (omega (arith, later)) few i || apart i);
  there = λ at other before few. there_by blocks new done block replica at other (nat_lt (2 * at + other) done) refl ready place ulid two before few;
}

module _ (number block replica : ℕ) (early : block < 12) (two : replica < 2) where
  fits : ulid_of block replica < 2 ^ 128
  fits = omega (arith, early, two)

  pub ulid_prints : list_all is_print (text_of (ulid_of block replica)) ≡ true
  ulid_prints = all_weaker is_good is_print good_print (text_of (ulid_of block replica)) (ulid_good (ulid_of block replica) fits)

  pub is_ulid : IsUlidField (text_of (ulid_of block replica)) (ulid_of block replica)
  is_ulid = record {
    field = record {
      some = λ none. omega (arith, length-text_of (ulid_of block replica), ap (length {A = ℕ}) none);
      no_space = all_weaker is_good (λ byte. not (is_space byte)) good_field (text_of (ulid_of block replica)) (ulid_good (ulid_of block replica) fits);
    };
    written = IsUlidText-text_of (ulid_of block replica) fits;
    not_reserved = subst (λ n. n < 2 ^ 80 - 2 ^ 20) (sym (mod_low (block_start (block + 1)) 80 (2 * block + replica + 1) (omega (arith, early, two)))) (omega (arith, early, two));
  }

  external_prints : list_all is_print (external_text replica) ≡ true
  unfolding external_text
  external_prints =
      all_joined is_print (codes "{cluster=\"c\",replica=\"" ++ decimal_text replica) (codes "\"}") (all_joined is_print (codes "{cluster=\"c\",replica=\"") (decimal_text replica) refl (digits_print replica)) refl

  pub front_prints : list_all is_print (front_of block replica) ≡ true
  unfolding times_text
  front_prints =
      let ulid = text_of (ulid_of block replica) in
      let low = decimal_text (block_start block) in
      let high = decimal_text (block_start (block + 1)) in
      let one = all_joined is_print (codes "block ") ulid refl ulid_prints in
      let two = all_joined is_print (codes "block " ++ ulid) (codes " ") one refl in
      let first = all_joined is_print low (codes " ") (digits_print (block_start block)) refl in
      let times = all_joined is_print (low ++ codes " ") high first (digits_print (block_start (block + 1))) in
      let three = all_joined is_print (codes "block " ++ ulid ++ codes " ") (low ++ codes " " ++ high) two times in
      let four = all_joined is_print (codes "block " ++ ulid ++ codes " " ++ (low ++ codes " " ++ high)) (codes " ") three refl in
      all_joined is_print (codes "block " ++ ulid ++ codes " " ++ (low ++ codes " " ++ high) ++ codes " ") (external_text replica) four external_prints

  pub front_is : front_of block replica ≡ codes "block" ++ 32 ∷ (text_of (ulid_of block replica) ++ 32 ∷ (decimal_text (block_start block) ++ 32 ∷ (decimal_text (block_start (block + 1)) ++ 32 ∷ external_text replica)))
  unfolding times_text
  front_is =
      line_joined (text_of (ulid_of block replica)) (decimal_text (block_start block)) (decimal_text (block_start (block + 1))) (external_text replica)

  front_speaks : is_silent (front_of block replica) ≡ false
  front_speaks =
      speaks 98 (codes "lock " ++ text_of (ulid_of block replica) ++ codes " " ++ times_text block ++ codes " " ++ external_text replica) refl

  front_short : length (front_of block replica) ≤ 150
  unfolding times_text external_text
  front_short =
      let ulid = text_of (ulid_of block replica) in
      let low = decimal_text (block_start block) in
      let high = decimal_text (block_start (block + 1)) in
      let times : List ℕ = low ++ codes " " ++ high in
      omega (
        arith,
        length-text_of (ulid_of block replica),
        decimal_short (block_start block) (omega (arith, early)),
        decimal_short (block_start (block + 1)) (omega (arith, early)),
        decimal_short replica (omega (arith, two)),
        length-append (codes "block ") ulid,
        length-append (codes "block " ++ ulid) (codes " "),
        length-append low (codes " "),
        length-append (low ++ codes " ") high,
        length-append (codes "block " ++ ulid ++ codes " ") times,
        length-append (codes "block " ++ ulid ++ codes " " ++ times) (codes " "),
        length-append (codes "block " ++ ulid ++ codes " " ++ times ++ codes " ") (codes "{cluster=\"c\",replica=\"" ++ decimal_text replica ++ codes "\"}"),
        length-append (codes "{cluster=\"c\",replica=\"") (decimal_text replica),
        length-append (codes "{cluster=\"c\",replica=\"" ++ decimal_text replica) (codes "\"}"),
      )

  are_labels : IsSetText (external_text replica) (external_at replica)
  unfolding is_name
  are_labels = record {
    listed = external_at replica;
    written = external_is replica two;
    named = two_named (record { name = codes "cluster"; value = codes "c" }) (record { name = codes "replica"; value = decimal_text replica }) refl refl;
    arranged = IsPermutation-refl (external_at replica);
    lawful = (λ e. cc, λ e. cc, (refl, tt), (λ e. cc, (decimal_field replica).some, tt, tt));
  }

  abbrev pub made : Block
  made =
      record { ulid = ulid_of block replica; labels = external_at replica; body = Inline (pos (block_start block)) (pos (block_start (block + 1))) (first_series number block replica early 100) }

  -- the block's line, and those of its series
  line_says : (blocks : List Block) (flag : Bool) → Ready blocks (2 * block + replica) → BlockLine (with_blocks blocks flag) (front_of block replica) (with_first number block replica early (setup blocks) blocks (ulid_of block replica) (external_at replica) 0)
  unfolding times_text
  line_says blocks flag ready =
      record {
        ulid_text = text_of (ulid_of block replica);
        min_text = decimal_text (block_start block);
        max_text = decimal_text (block_start (block + 1));
        labels_text = external_text replica;
        ulid = ulid_of block replica;
        min_time = pos (block_start block);
        max_time = pos (block_start (block + 1));
        labels = external_at replica;
        spelled = front_is;
        is_ulid = is_ulid;
        is_min = time_text (block_start block) (omega (arith, early));
        is_max = time_text (block_start (block + 1)) (omega (arith, early));
        are_labels = are_labels;
        early = refl;
        times = grind (arith, ints);
        new = ready.fresh block replica (omega arith) two;
        few = omega (arith, ready.count, early, two);
        adds = refl;
      }

  pub block_tells : (blocks : List Block) (flag : Bool) (line : ℕ) → Ready blocks (2 * block + replica) → Tells (with_blocks blocks flag) line (block_text number block replica) (with_blocks (blocks ++ made ∷ []) true) (line + 101)
  unfolding block_text block_line
  block_tells blocks flag line ready =
      let begun = with_first number block replica early (setup blocks) blocks (ulid_of block replica) (external_at replica) 0 in
      let full = with_first number block replica early (setup blocks) blocks (ulid_of block replica) (external_at replica) 100 in
      let first = tells_line (with_blocks blocks flag) begun line (front_of block replica) front_speaks front_prints (spelling.block ready.ended (line_says blocks flag ready)) in
      let sum : line + 1 + 100 ≡ line + 101 = omega arith in
      subst (Tells (with_blocks blocks flag) line (block_line block replica ++ all_series_text number block replica) full) sum (tells_both (with_blocks blocks flag) begun full line (line + 1) (line + 1 + 100) (block_line block replica) (all_series_text number block replica) first (all_tell number block replica early (setup blocks) blocks (ulid_of block replica) (external_at replica) (line + 1)))

  pub then_ready : (blocks : List Block) → Ready blocks (2 * block + replica) → Ready (blocks ++ made ∷ []) (2 * block + replica + 1)
  then_ready blocks ready =
      more_ready blocks made (2 * block + replica) block replica ready refl two refl (λ e. cc)

  pub block_short : length (block_text number block replica) ≤ 1_330_201
  unfolding block_text block_line
  block_short =
      omega (arith, front_short, length-append (front_of block replica) (line_feed ∷ []), length-append (block_line block replica) (all_series_text number block replica), all_short number block replica early)

-- ---- all blocks

-- Lines lead to a script of so many blocks.
pub record Told (before : SoFar) (line : ℕ) (text : List ℕ) (done further : ℕ) : Type 0 where
  pub blocks : List Block
  pub in_block : Bool
  pub tells : Tells before line text (with_blocks blocks in_block) further
  pub ready : Ready blocks done

module _ (number : ℕ) where
  pair_told : (block line : ℕ) (blocks : List Block) (flag : Bool) → block < 12 → Ready blocks (2 * block) → Told (with_blocks blocks flag) line (blocks_at number block) (2 * (block + 1)) (line + 202)
  unfolding blocks_at
  pair_told block line blocks flag early ready =
      let even : 2 * block ≡ 2 * block + 0 = omega arith in
      let odd : 2 * block + 0 + 1 ≡ 2 * block + 1 = omega arith in
      let both : 2 * block + 1 + 1 ≡ 2 * (block + 1) = omega arith in
      let sum : line + 101 + 101 ≡ line + 202 = omega arith in
      let start = subst (Ready blocks) even ready in
      let one = blocks ++ made number block 0 early (omega arith) ∷ [] in
      let two = one ++ made number block 1 early (omega arith) ∷ [] in
      let middle = subst (Ready one) odd (then_ready number block 0 early (omega arith) blocks start) in
      record {
        blocks = two;
        in_block = true;
        tells = subst (Tells (with_blocks blocks flag) line (block_text number block 0 ++ block_text number block 1) (with_blocks two true)) sum (tells_both (with_blocks blocks flag) (with_blocks one true) (with_blocks two true) line (line + 101) (line + 101 + 101) (block_text number block 0) (block_text number block 1) (block_tells number block 0 early (omega arith) blocks flag line start) (block_tells number block 1 early (omega arith) one true (line + 101) middle));
        ready = subst (Ready two) both (then_ready number block 1 early (omega arith) one middle);
      }

  blocks_told : (block count line : ℕ) (blocks : List Block) (flag : Bool) → block + count ≡ 12 → Ready blocks (2 * block) → Told (with_blocks blocks flag) line (flat_map (blocks_at number) (range_with_len block count)) 24 (line + 202 * count)
  blocks_told block zero line blocks flag all ready =
      let last : 2 * block ≡ 24 = omega (arith, all) in
      let same : line ≡ line + 202 * 0 = omega arith in
      record {
        blocks = blocks;
        in_block = flag;
        tells = subst (Tells (with_blocks blocks flag) line [] (with_blocks blocks flag)) same (tells_nothing (with_blocks blocks flag) line);
        ready = subst (Ready blocks) last ready;
      }
  blocks_told block (suc count) line blocks flag all ready =
      let one = pair_told block line blocks flag (omega (arith, all)) ready in
      let rest = blocks_told (block + 1) count (line + 202) one.blocks one.in_block (omega (arith, all)) one.ready in
      let sum : line + 202 + 202 * count ≡ line + 202 * suc count = omega arith in
      record {
        blocks = rest.blocks;
        in_block = rest.in_block;
        tells = subst (Tells (with_blocks blocks flag) line (blocks_at number block ++ flat_map (blocks_at number) (range_with_len (block + 1) count)) (with_blocks rest.blocks rest.in_block)) sum (tells_both (with_blocks blocks flag) (with_blocks one.blocks one.in_block) (with_blocks rest.blocks rest.in_block) line (line + 202) (line + 202 + 202 * count) (blocks_at number block) (flat_map (blocks_at number) (range_with_len (block + 1) count)) one.tells rest.tells);
        ready = rest.ready;
      }

  pub all_told : Told (with_blocks [] false) 4 (all_blocks_text number) 24 2_428
  unfolding all_blocks_text
  all_told = blocks_told 0 12 4 [] false refl none_ready

  pair_short : (block : ℕ) → block < 12 → length (blocks_at number block) ≤ 2_660_402
  unfolding blocks_at
  pair_short block early =
      omega (arith, length-append (block_text number block 0) (block_text number block 1), block_short number block 0 early (omega arith), block_short number block 1 early (omega arith))

  blocks_short : (block count : ℕ) → block + count ≤ 12 → length (flat_map (blocks_at number) (range_with_len block count)) ≤ 2_660_402 * count
  blocks_short block zero few = omega arith
  blocks_short block (suc count) few =
      omega (arith, length-append (blocks_at number block) (flat_map (blocks_at number) (range_with_len (block + 1) count)), pair_short block (omega (arith, few)), blocks_short (block + 1) count (omega (arith, few)))

  pub all_blocks_short : length (all_blocks_text number) ≤ 31_924_824
  unfolding all_blocks_text
  all_blocks_short = blocks_short 0 12 (omega arith)
