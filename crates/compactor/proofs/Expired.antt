-- The blocks of a list that pass a test, one after another.
use Rattle.std.proofs.Common.{◌≡◌, ℕ, ◌+◌, ◌<◌, Bool, true, false, List, [], ◌∷◌, ◌++◌, length, take, get_or, sym, ap, ◌∙◌, append-nil}
use Rattle.std.specs.List.{filter}
use Rattle.std.proofs.lemmas.List.{take_more, map-append}
use Rattle.std.proofs.lemmas.List.Elements.{filter-append}
use Rattle.base.proofs.Lists.{filter_hit, filter_miss}
use Rattle.sync_filters.specs.declared.found.Found.{Found}
use Rattle.compactor.specs.FoundNames.{names_of}

module _ (passes : Found → Bool) (blocks : List Found) (i : ℕ) (block : Found) (before after : List ℕ) (lt : i < length blocks) (at : block ≡ get_or blocks i block) (far : before ≡ names_of (filter passes (take i blocks))) where
  split : names_of (filter passes (take (i + 1) blocks)) ≡ names_of (filter passes (take i blocks)) ++ names_of (filter passes (block ∷ []))
  split =
      ap (λ (l : List Found). names_of (filter passes l)) (take_more blocks i block lt ∙ ap (λ (b : Found). take i blocks ++ b ∷ []) (sym at))
      ∙ ap names_of (filter-append passes (take i blocks) (block ∷ [])) ∙ map-append (λ (b : Found). b.ulid) (filter passes (take i blocks)) (filter passes (block ∷ []))

  pub one_more : passes block ≡ true → after ≡ before ++ block.ulid ∷ [] → after ≡ names_of (filter passes (take (i + 1) blocks))
  one_more hit added =
      added ∙ ap (λ (l : List ℕ). l ++ block.ulid ∷ []) far
      ∙ ap (λ (l : List Found). names_of (filter passes (take i blocks)) ++ names_of l) (sym (filter_hit passes block [] hit)) ∙ sym split

  pub no_more : passes block ≡ false → after ≡ before → after ≡ names_of (filter passes (take (i + 1) blocks))
  no_more miss same =
      same ∙ far ∙ sym (append-nil (names_of (filter passes (take i blocks))))
      ∙ ap (λ (l : List Found). names_of (filter passes (take i blocks)) ++ names_of l) (sym (filter_miss passes block [] miss)) ∙ sym split
