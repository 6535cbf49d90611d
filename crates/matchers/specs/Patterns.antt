-- What a pattern is, and which values it matches. The words of `regex` are the meaning; here is only which text is built.
use Rattle.std.specs.Prelude.{ℕ, List, ◌++◌, Bool, is_some, nat_le, codes, chars}
use Rattle.regex.specs.Patterns.{find_str, default_config}
use Rattle.regex_hir.specs.Text.{is_some_and}
use Rattle.regex_syntax.specs.Grammar.{read}
use Rattle.regex.specs.declared.error.Error.{Error}
use Rattle.regex.specs.declared.error.Error.TheVariants as regex
use Rattle.matchers.specs.declared.pattern_refusal.PatternRefusal.{PatternRefusal}
use Rattle.matchers.specs.declared.pattern_refusal.PatternRefusal.TheVariants.{BadPattern, PatternSize, NoMemory}

-- the text that is built of a pattern, so that it has to match a value from its first to its last byte
abbrev pub anchored_text : List ℕ → List ℕ
anchored_text text = codes "^(?:" ++ text ++ codes ")$"

-- The grammar of `regex` reads the built text, within the limit on nesting.
unfoldable pub is_pattern : List ℕ → Bool
is_pattern text =
    is_some_and (read default_config (chars (anchored_text text))) (λ (re, names). nat_le re.depth default_config.nest_limit)

-- The definition of `regex` finds, in the value, what its grammar reads in the built text.
unfoldable pub is_matched : List ℕ → List ℕ → Bool
is_matched text value =
    is_some_and (read default_config (chars (anchored_text text))) (λ (re, names). is_some (find_str re.value value 0))

-- the refusal for one of `regex`
abbrev pub refusal_of : Error → PatternRefusal
refusal_of (regex.Syntax e) = BadPattern
refusal_of regex.CompiledTooBig = PatternSize
refusal_of regex.Internal = PatternSize
refusal_of regex.OutOfMemory = NoMemory
