-- What `regex` promises of the built text, said of the pattern.
use Rattle.std.proofs.Common.{◌≡◌, ◌≢◌, inl, inr, ℕ, ◌<◌, ◌≤◌, List, All, Option, None, Some, true, false, is_some, IsSomeAnd, IfSome, length, refl, sym, ap, ◌∙◌, arith}
use Rattle.std.proofs.lemmas.Bool.Decides.{nat_tests}
use Rattle.std.specs.Prelude.{nat_le, Result, Ok, Err, IsErrAnd}
use Rattle.regex_hir.specs.Re.{Re}
use Rattle.regex_hir.specs.Find.{find_str}
use Rattle.regex_hir.specs.Text.{is_some_and}
use Rattle.regex_syntax.specs.Brackets.{Nested}
use Rattle.regex_syntax.specs.Captures.{SameCaptures}
use Rattle.regex_syntax.specs.Grammar.{Names, group_count, read}
use Rattle.regex_syntax.specs.Verdict.{Reads, Refuses, default_config}
use Rattle.regex_syntax.specs.declared.error.ErrorKind.{ErrorKind}
use Rattle.regex_syntax.specs.declared.error.ErrorKind.TheVariants as kind
use Rattle.regex_syntax.proofs.CapturesLemmas.{find_str_alike}
use Rattle.regex_syntax.proofs.Written.{is_some-option_map}
use Rattle.regex.specs.Failures.{IsRightKind, IsPattern}
use Rattle.regex.specs.Sources.{IsRefusal}
use Rattle.regex.specs.Strings.{regex_pattern, regex_source, regex_config, IsReadFromSource}
use Rattle.regex.specs.declared.error.Error.{Error}
use Rattle.regex.specs.declared.error.Error.TheVariants.{Syntax, CompiledTooBig, Internal, OutOfMemory}
use Rattle.regex.specs.declared.string.regex.Regex.{Regex}
use Rattle.matchers.specs.Patterns.{anchored_text, is_pattern, is_matched, refusal_of}
use Rattle.matchers.specs.Searches.{SearchesFor}
use Rattle.matchers.specs.declared.pattern_refusal.PatternRefusal.{PatternRefusal}
use Rattle.matchers.specs.declared.pattern_refusal.PatternRefusal.TheVariants.{BadPattern, PatternSize}

abbrev Found : Type 0
Found = Option (Nested Re × Names)

-- what `Reads` says of what the grammar gives
abbrev AsRead : Found → ℕ → Re → Names → Type 0
AsRead found most tree names =
    IsSomeAnd found (λ (re, given). (re.depth ≤ most) × SameCaptures tree re.value × (names ≡ given) × (group_count tree ≤ length names))

found_alike : (found : Found) (most : ℕ) (tree : Re) (names : Names) → AsRead found most tree names →
    (value : List ℕ) → All (λ byte. byte < 256) value →
    is_some (find_str tree value 0) ≡ is_some_and found (λ (re, given). is_some (find_str re.value value 0))
found_alike None most tree names read value bytes = absurd read
found_alike (Some re) most tree names read value bytes =
    sym (is_some-option_map _ _) ∙ ap is_some (find_str_alike tree re.0.value read.1 value bytes 0) ∙ is_some-option_map _ _

found_flat : (found : Found) (most : ℕ) (tree : Re) (names : Names) → AsRead found most tree names →
    is_some_and found (λ (re, given). nat_le re.depth most) ≡ true
found_flat None most tree names read = absurd read
found_flat (Some re) most tree names read = let flat : re.0.depth ≤ most = read.0 in grind (arith, nat_tests)

found_deep : (found : Found) (most : ℕ) → IfSome found (λ (re, given). most < re.depth) →
    is_some_and found (λ (re, given). nat_le re.depth most) ≡ false
found_deep None most deep = refl
found_deep (Some re) most deep = let far : most < re.0.depth = deep in grind (arith, nat_tests)

-- what `Regex::new` ensures of the built text
module _ (r : Regex) (source text : List ℕ) (composed : source ≡ anchored_text text) (is_source : regex_source r ≡ source) (is_default : regex_config r ≡ default_config)
    (is_read : IsReadFromSource r) where
  pub searches : SearchesFor (regex_pattern r) text
  unfolding Reads is_matched
  searches value bytes = found_alike _ _ _ _ (rw (is_source, is_default, composed) at is_read) value bytes

  pub read_is_pattern : is_pattern text ≡ true
  unfolding Reads is_pattern
  read_is_pattern = found_flat _ _ _ _ (rw (is_source, is_default, composed) at is_read)

refuses_none : (text : List ℕ) (k : ErrorKind) → Refuses default_config (anchored_text text) k → k ≢ kind.OutOfMemory → is_pattern text ≡ false
unfolding Refuses is_pattern
refuses_none text k (inl wants) not_memory = absurd (not_memory wants)
refuses_none text k (inr (inl none)) not_memory = rw none
refuses_none text k (inr (inr deep)) not_memory = found_deep _ _ deep.1

pub refused_is_none : (e : Error) (source text : List ℕ) → source ≡ anchored_text text → IsRefusal default_config source e →
    IsRightKind default_config source e → refusal_of e ≡ BadPattern → is_pattern text ≡ false
refused_is_none (Syntax x) source text composed refusal right same = refuses_none text x.kind (rw composed at (refusal x refl)) right
refused_is_none CompiledTooBig source text composed refusal right same = absurd cc
refused_is_none Internal source text composed refusal right same = absurd cc
refused_is_none OutOfMemory source text composed refusal right same = absurd cc

reads_is_pattern : (text : List ℕ) (tree : _) (names : Names) → Reads default_config (anchored_text text) tree names → is_pattern text ≡ true
unfolding Reads is_pattern
reads_is_pattern text tree names reads = found_flat _ _ _ _ reads

pub too_big_is_pattern : (e : Error) (source text : List ℕ) → source ≡ anchored_text text → IsRightKind default_config source e →
    refusal_of e ≡ PatternSize → is_pattern text ≡ true
too_big_is_pattern (Syntax x) source text composed right same = absurd cc
too_big_is_pattern CompiledTooBig source text composed right same =
    let p : IsPattern default_config (anchored_text text) = rw composed at right in
    reads_is_pattern text p.0 p.1 p.2
too_big_is_pattern Internal source text composed right same =
    let p : IsPattern default_config (anchored_text text) = rw composed at right in
    reads_is_pattern text p.0 p.1 p.2
too_big_is_pattern OutOfMemory source text composed right same = absurd cc

-- an error that is handed on is the one that it was made of
pub handed_on : {T : Type 0} (result : Result T PatternRefusal) (made refusal : PatternRefusal) → IsErrAnd result (λ e. e ≡ made) →
    result ≡ Err refusal → made ≡ refusal
handed_on (Ok x) made refusal is same = absurd is
handed_on (Err e) made refusal is same = cc
