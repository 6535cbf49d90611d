-- Files of blocks are the same where their parts are.
use Rattle.std.proofs.Common.{◌≡◌, ℕ, ◌≤◌, List, length, ap, subst, ◌∙◌}
use Rattle.std.proofs.Props.{props}
use Rattle.block_meta.specs.MetaFields.{fields_of}
use Rattle.block_meta.specs.declared.meta.Meta.{Meta}
use Rattle.block_meta.proofs.SameMetas.{same_meta}
use Rattle.block_meta.specs.declared.block_files.BlockFiles.{BlockFiles}

few_prop : (segments : List (List ℕ)) → IsProp (length segments ≤ 999_999)
few_prop segments = hlevel props

abbrev files_made : Meta → List ℕ → (segments : List (List ℕ)) → length segments ≤ 999_999 → BlockFiles
files_made meta index segments few = record { meta = meta; index = index; segments = segments; numbered = few }

same_segments : (meta : Meta) (index : List ℕ) (s t : List (List ℕ)) → s ≡ t → (few : length s ≤ 999_999) (few' : length t ≤ 999_999) → files_made meta index s few ≡ files_made meta index t few'
same_segments meta index s t e few =
    subst (λ (u : List (List ℕ)). (few' : length u ≤ 999_999) → files_made meta index s few ≡ files_made meta index u few') e (λ few'. ap (λ (x : length s ≤ 999_999). files_made meta index s x) (few_prop s few few'))

pub same_files : (a b : BlockFiles) → fields_of a.meta ≡ fields_of b.meta → a.index ≡ b.index → a.segments ≡ b.segments → a ≡ b
same_files a b fields index segments =
    same_segments a.meta a.index a.segments b.segments segments a.numbered b.numbered
    ∙ ap (λ (i : List ℕ). files_made a.meta i b.segments b.numbered) index
    ∙ ap (λ (m : Meta). files_made m b.index b.segments b.numbered) (same_meta a.meta b.meta fields)
