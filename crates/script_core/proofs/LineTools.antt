-- What the laws of lines share: first words, what follows them, ends of lists, and the ends of blocks.
use Rattle.std.proofs.Common.{◌≡◌, ◌≢◌, ℕ, Bool, true, false, not, ◌==◌, ◌&&◌, cond, List, [], ◌∷◌, ◌++◌, length, Option, Some, None, is_none, option_map, Result, Ok, refl, sym, ap, ◌∙◌, subst, arith, codes, inl, inr, append-nil, append_assoc}
use Rattle.std.specs.Str.{bytes_eq}
use Rattle.std.proofs.lemmas.Bool.Decides.{nat_tests}
use Rattle.std.proofs.lemmas.Option.{same_Some}
use Rattle.std.proofs.lemmas.List.{same_from_push}
use Rattle.std.proofs.lemmas.List.Elements.{All-contains, All-from_recursion}
use Rattle.std.proofs.lemmas.Map.Views.{Contains-from_lookup}
use Rattle.std.specs.List.{All}
use Rattle.std.specs.Map.{lookup}
use Rattle.base.proofs.Binds.{unless_ok, ok_is, unless_is}
use Rattle.std.proofs.lemmas.Bool.{and_parts, not-true, not_from_false}
use Rattle.base.proofs.Bools.{same_texts}
use Rattle.base.proofs.Lists.{nil_not_middle, some-from_length, length-some, last_or_none, pushed_not_nil}
use Rattle.script_core.specs.declared.block.Block.{Block}
use Rattle.script_core.specs.declared.body.Body.TheVariants.{OnShelf}
use Rattle.script_fields.specs.declared.cause.LineCause.TheVariants.{BadShape}
use Rattle.script_fields.specs.declared.line_kind.LineKind.{LineKind}
use Rattle.script_fields.specs.declared.line_kind.LineKind.TheVariants as kinds
use Rattle.script_workers.specs.declared.phase.Phase.{Phase}
use Rattle.script_fields.specs.declared.rule_kind.RuleKind.{RuleKind}
use Rattle.script_fields.specs.declared.rule_kind.RuleKind.TheVariants.{Valued, ReplicaLabel, Retention}
use Rattle.script_fields.specs.declared.rule_name.RuleName.{RuleName}
use Rattle.script_fields.specs.declared.rule_name.RuleName.TheVariants as names
use Rattle.script_fields.specs.Fields.{is_empty, next_field, only_field, line_words, rule_words, line_kind, rule_kind, rule_name}
use Rattle.script_core.specs.State.{Last, block_of, with_last, all_blocks, all_phases, has_ended}
use Rattle.script_core.specs.Lawful.{HasSeries}
use Rattle.script_core.specs.Spelling.{IsField, rule_word, HasEnded}
use Rattle.script_fields.proofs.FieldLaws.{no_space, Cut, cut_nothing, cut_whole, cut_front, cut_found, cut_last}
use Rattle.script_core.proofs.LawfulParts.{All-last}
use Rattle.script_core.proofs.ValueLaws.{is_none_is}

-- ---- steps

-- there is one unit
pub unit_is : {E : Type 0} (x : Unit {0}) → ◌≡◌ {A = Result (Unit {0}) E} (Ok x) (Ok tt)
unit_is x = refl

-- ---- what is left of a line

pub is_field : (field : List ℕ) → not (is_empty field) ≡ true → no_space field ≡ true → IsField field
is_field field some free =
    record { some = λ e. let taken : not (is_empty []) ≡ true = ap (λ f. not (is_empty f)) (sym e) ∙ some in absurd cc; no_space = free }

some_byte : (field : List ℕ) → field ≢ [] → is_empty field ≡ false
some_byte [] some = absurd (some refl)
some_byte (byte ∷ field) some = grind (arith, nat_tests)

pub is_some_field : (field : List ℕ) → IsField field → not (is_empty field) ≡ true
is_some_field field is = ap not (some_byte field is.some)

module _ (left : Option (List ℕ)) (field : List ℕ) (rest : Option (List ℕ)) where
  -- more follows the field
  pub cut_rest : (text : List ℕ) → Cut left field rest → rest ≡ Some text → (left ≡ Some (field ++ 32 ∷ text)) × (no_space field ≡ true)
  cut_rest text (cut_nothing none empty end) is = absurd cc
  cut_rest text (cut_whole whole free end) is = absurd cc
  cut_rest text (cut_front others whole free end) is = let same : others ≡ text = cc in (rw (← same) whole, free)

  -- nothing follows the field
  pub cut_end : Cut left field rest → rest ≡ None → not (is_empty field) ≡ true → (left ≡ Some field) × (no_space field ≡ true)
  cut_end (cut_nothing none empty end) is some =
      let taken : not (is_empty []) ≡ true = ap (λ f. not (is_empty f)) (sym empty) ∙ some in absurd cc
  cut_end (cut_whole whole free end) is some = (whole, free)
  cut_end (cut_front others whole free end) is some = absurd cc

pub only_found : (left : Option (List ℕ)) (field : List ℕ) → only_field left ≡ Ok field → (left ≡ Some field) × IsField field
unfolding only_field
only_found left field h =
    let first = (next_field left).0 in
    let rest = (next_field left).1 in
    let a = unless_ok (not (is_empty first) && is_none rest) BadShape (Ok first) field h in
    let tests = and_parts (not (is_empty first)) (is_none rest) a.0 in
    let end = cut_end left first rest (cut_found left) (is_none_is rest tests.1) tests.0 in
    let same : first ≡ field = ok_is first field a.1 in
    (end.0 ∙ ap Some same, subst IsField same (is_field first tests.0 end.1))

pub only_again : (field : List ℕ) → IsField field → only_field (Some field) ≡ Ok field
unfolding only_field
only_again field is = rw (cut_last field is.no_space, is_some_field field is) refl

-- ---- first words

abbrev pub line_word : LineKind → List ℕ
line_word kinds.Rule = codes "rule"
line_word kinds.Gateway = codes "gateway"
line_word kinds.Block = codes "block"
line_word kinds.Series = codes "series"
line_word kinds.Shelf = codes "shelf"
line_word kinds.At = codes "at"
line_word kinds.Upload = codes "upload"
line_word kinds.Sync = codes "sync"
line_word kinds.Compact = codes "compact"
line_word kinds.Clean = codes "clean"
line_word kinds.Query = codes "query"

-- what is found in a table of words has the word that was sought
word_found : {K : Type 0} (word_of : K → List ℕ) (table : List (List ℕ × K)) (word : List ℕ) (found : K) → All (λ (e : List ℕ × K). e.0 ≡ word_of e.1) table → lookup (bytes_eq word) table ≡ Some found → word ≡ word_of found
word_found {K} word_of table word found all h =
    All-contains (λ (e : List ℕ × K). e.0 ≡ word_of e.1) table (word, found) all (Contains-from_lookup same_texts word found table h)

pub kind_found : (word : List ℕ) (found : LineKind) → line_kind word ≡ Some found → word ≡ line_word found
kind_found word found =
    word_found line_word line_words word found (All-from_recursion (λ (e : List ℕ × LineKind). e.0 ≡ line_word e.1) line_words (refl, (refl, (refl, (refl, (refl, (refl, (refl, (refl, (refl, (refl, (refl, tt))))))))))))

pub name_found : (word : List ℕ) (found : RuleName) → rule_name word ≡ Some found → word ≡ rule_word found
name_found word found =
    word_found rule_word rule_words word found (All-from_recursion (λ (e : List ℕ × RuleName). e.0 ≡ rule_word e.1) rule_words (refl, (refl, (refl, (refl, (refl, (refl, (refl, tt))))))))

-- a rule's kind by the tests of its word
abbrev kind_by : Bool → Bool → Option RuleName → Option RuleKind
kind_by replica retention named =
    cond {A = Option RuleKind} replica (Some ReplicaLabel) (cond {A = Option RuleKind} retention (Some Retention) (option_map Valued named))

valued_by : (replica retention : Bool) (named : Option RuleName) (name : RuleName) → kind_by replica retention named ≡ Some (Valued name) → named ≡ Some name
valued_by true retention named name h = absurd cc
valued_by false true named name h = let same : Retention ≡ Valued name = same_Some _ _ h in absurd cc
valued_by false false None name h = absurd cc
valued_by false false (Some own) name h = let same : Valued own ≡ Valued name = same_Some _ _ h in cc

-- the word of a rule that has one value
pub valued_found : (word : List ℕ) (name : RuleName) → rule_kind word ≡ Some (Valued name) → word ≡ rule_word name
valued_found word name h =
    name_found word name (valued_by (bytes_eq word (codes "replica-label")) (bytes_eq word (codes "retention")) (rule_name word) name h)

replica_by : (replica retention : Bool) (named : Option RuleName) → kind_by replica retention named ≡ Some ReplicaLabel → replica ≡ true
replica_by true retention named h = refl
replica_by false true named h = let same : Retention ≡ ReplicaLabel = same_Some _ _ h in absurd cc
replica_by false false None h = absurd cc
replica_by false false (Some own) h = let same : Valued own ≡ ReplicaLabel = same_Some _ _ h in absurd cc

pub replica_found : (word : List ℕ) → rule_kind word ≡ Some ReplicaLabel → word ≡ codes "replica-label"
replica_found word h =
    same_texts word (codes "replica-label") (replica_by (bytes_eq word (codes "replica-label")) (bytes_eq word (codes "retention")) (rule_name word) h)

retention_by : (replica retention : Bool) (named : Option RuleName) → kind_by replica retention named ≡ Some Retention → retention ≡ true
retention_by true retention named h = let same : ReplicaLabel ≡ Retention = same_Some _ _ h in absurd cc
retention_by false true named h = refl
retention_by false false None h = absurd cc
retention_by false false (Some own) h = let same : Valued own ≡ Retention = same_Some _ _ h in absurd cc

pub retention_found : (word : List ℕ) → rule_kind word ≡ Some Retention → word ≡ codes "retention"
retention_found word h =
    same_texts word (codes "retention") (retention_by (bytes_eq word (codes "replica-label")) (bytes_eq word (codes "retention")) (rule_name word) h)

pub valued_again : (name : RuleName) → rule_kind (rule_word name) ≡ Some (Valued name)
valued_again names.Consistency = refl
valued_again name = refl

pub replica_free : no_space (codes "replica-label") ≡ true
replica_free = refl

pub retention_free : no_space (codes "retention") ≡ true
retention_free = refl

pub kind_again : (kind : LineKind) → line_kind (line_word kind) ≡ Some kind
kind_again kinds.Rule = refl
kind_again kind = refl

pub word_free : (kind : LineKind) → no_space (line_word kind) ≡ true
word_free kinds.Rule = refl
word_free kind = refl

pub name_again : (name : RuleName) → rule_name (rule_word name) ≡ Some name
name_again names.Consistency = refl
name_again name = refl

pub name_free : (name : RuleName) → no_space (rule_word name) ≡ true
name_free names.Consistency = refl
name_free name = refl

-- ---- the last block and the last phase

ended_by : (last : Last) → last.series ≢ [] → has_ended (Some last) ≡ Ok tt
ended_by last some = let test : not (length last.series == 0) ≡ true = not_from_false (length last.series == 0) (length-some last.series some) in rw test refl

-- the last inline block has a series
last_found : (blocks : List Block) (last : Option Last) → (last ≡ None → blocks ≡ []) → has_ended last ≡ Ok tt → HasEnded (with_last blocks last)
last_found blocks None first h = λ others block is. absurd (nil_not_middle block others [] (sym (first refl) ∙ is))
last_found blocks (Some last) first h =
    let test = unless_is (not (length last.series == 0)) _ h in
    λ others block is.
    let same : block_of last ≡ block = (same_from_push blocks others (block_of last) block is).1 in
    subst (λ (b : Block). HasSeries b.body) same (some-from_length last.series (not-true (length last.series == 0) test))

last_again : (blocks : List Block) (last : Option Last) → HasEnded (with_last blocks last) → has_ended last ≡ Ok tt
last_again blocks None ended = refl
last_again blocks (Some last) ended = ended_by last (ended blocks (block_of last) refl)

-- a block of the shelf has nothing to end
abbrev pub OnShelves : List Block → Type 0
OnShelves shelved = All (λ (b : Block). b.body ≡ OnShelf) shelved

shelf_ended : (front more others : List Block) (last block : Block) → last.body ≡ OnShelf → front ++ (more ++ last ∷ []) ≡ others ++ block ∷ [] → HasSeries block.body
shelf_ended front more others last block is all =
    let same : last ≡ block = (same_from_push (front ++ more) others last block (append_assoc front more (last ∷ []) ∙ all)).1 in
    subst HasSeries (sym is ∙ ap (λ (b : Block). b.body) same) tt

pub ended_found : (blocks : List Block) (last : Option Last) (shelved : List Block) → (last ≡ None → blocks ≡ []) → OnShelves shelved → has_ended last ≡ Ok tt → HasEnded (all_blocks blocks last shelved)
ended_found blocks last shelved first on_shelf h = elim (last_or_none shelved) [
  | inl none ↦ subst HasEnded (sym (append-nil (with_last blocks last)) ∙ ap (λ bs. with_last blocks last ++ bs) (sym none)) (last_found blocks last first h)
  | inr more ↦ λ others block is.
      let one : (more.1).body ≡ OnShelf = All-last (λ (b : Block). b.body ≡ OnShelf) more.0 more.1 (subst OnShelves more.2 on_shelf) in
      shelf_ended (with_last blocks last) more.0 others more.1 block one (ap (λ bs. with_last blocks last ++ bs) (sym more.2) ∙ is)
]

pub ended_again : (blocks : List Block) (last : Option Last) (shelved : List Block) → (shelved ≢ [] → has_ended last ≡ Ok tt) → HasEnded (all_blocks blocks last shelved) → has_ended last ≡ Ok tt
ended_again blocks last [] known ended =
    last_again blocks last (subst HasEnded (append-nil (with_last blocks last)) ended)
ended_again blocks last (block ∷ shelved) known ended = known (λ none. cc)

pub early_found : (phases : List Phase) (phase : Option Phase) → (phase ≡ None → phases ≡ []) → is_none phase ≡ true → all_phases phases phase ≡ []
early_found phases None first h = first refl
early_found phases (Some phase) first h = absurd cc

pub early_again : (phases : List Phase) (phase : Option Phase) → all_phases phases phase ≡ [] → is_none phase ≡ true
early_again phases None early = refl
early_again phases (Some phase) early = absurd (pushed_not_nil phases phase early)

-- the last phase
pub last_phase : (phases : List Phase) (phase : Option Phase) (others : List Phase) (last : Phase) → (phase ≡ None → phases ≡ []) → all_phases phases phase ≡ others ++ last ∷ [] → (phase ≡ Some last) × (phases ≡ others)
last_phase phases None others last first is = absurd (nil_not_middle last others [] (sym (first refl) ∙ is))
last_phase phases (Some phase) others last first is =
    let same = same_from_push phases others phase last is in (ap Some same.1, same.0)
