-- The files of blocks that were read, put together one after another.
use Rattle.std.proofs.Common.{◌≡◌, ℕ, List, [], ◌∷◌, ◌++◌, map, refl, sym, ap, subst, ◌∙◌}
use Rattle.std.specs.List.{AllByRecursion, AllZip}
use Rattle.base.proofs.Lists.{AllByRecursion-push, map-push}
use Rattle.base.proofs.Pairs.{AllZip-push}
use Rattle.base.specs.Grammar.{IsBytes}
use Rattle.block_meta.specs.declared.block_files.BlockFiles.{BlockFiles}
use Rattle.compactor.specs.Inputs.{IsInput}
use Rattle.compactor.specs.InputFiles.{numbers_of, AreFiles, AreSegments}
use Rattle.compactor.specs.declared.input.Input.{Input}
use Rattle.compactor.specs.declared.input.Read.{Read}
use Rattle.compactor.specs.declared.input_files.Numbers.{Numbers}

-- a list that is read member by member, one more
more : {A B : Type 0} (f : A → B) (xs : List A) (x : A) (ys new : List B) → ys ≡ map f xs → new ≡ ys ++ f x ∷ [] → new ≡ map f (xs ++ x ∷ [])
more f xs x ys new are is = is ∙ ap (λ l. l ++ f x ∷ []) are ∙ sym (map-push f xs x)

-- ---- segments

pub segments_more : (segments : List Read) (files new_files : List (List ℕ)) (numbers new_numbers : List ℕ) (segment : Read) → AreSegments segments files numbers
    → new_files ≡ files ++ segment.bytes ∷ [] → new_numbers ≡ numbers ++ segment.number ∷ [] → IsBytes segment.bytes → AreSegments (segments ++ segment ∷ []) new_files new_numbers
segments_more segments files new_files numbers new_numbers segment are added numbered bytes = record {
  files_are = more (λ (s : Read). s.bytes) segments segment files new_files are.files_are added;
  numbers_are = more (λ (s : Read). s.number) segments segment numbers new_numbers are.numbers_are numbered;
  bytes = subst (AllByRecursion IsBytes) (sym added) (AllByRecursion-push IsBytes files segment.bytes are.bytes bytes);
}

pub no_segments : (files : List (List ℕ)) (numbers : List ℕ) → files ≡ [] → numbers ≡ [] → AreSegments [] files numbers
no_segments files numbers none empty = record { files_are = none; numbers_are = empty; bytes = subst (AllByRecursion IsBytes) (sym none) tt }

pub segments_all : (segments yielded : List Read) (files : List (List ℕ)) (numbers : List ℕ) → map (λ (x : Read). x) yielded ≡ segments → AreSegments yielded files numbers → AreSegments segments files numbers
segments_all segments yielded files numbers all are = subst (λ l. AreSegments l files numbers) (sym (same_map yielded) ∙ all) are
  where
    same_map : (xs : List Read) → map (λ (x : Read). x) xs ≡ xs
    same_map [] = refl
    same_map (x ∷ xs) = ap (λ l. x ∷ l) (same_map xs)

-- ---- blocks

pub files_more : (inputs : List Input) (blocks new_blocks : List BlockFiles) (numbers new_numbers : List Numbers) (input : Input) (block : BlockFiles) (read : Numbers) → IsInput input block → read ≡ numbers_of input
    → new_blocks ≡ blocks ++ block ∷ [] → new_numbers ≡ numbers ++ read ∷ [] → AreFiles inputs blocks numbers → AreFiles (inputs ++ input ∷ []) new_blocks new_numbers
files_more inputs blocks new_blocks numbers new_numbers input block read is shown added numbered are = record {
  read = subst (AllZip IsInput (inputs ++ input ∷ [])) (sym added) (AllZip-push IsInput inputs blocks input block are.read is);
  numbers_are = more numbers_of inputs input numbers new_numbers are.numbers_are (numbered ∙ ap (λ (r : Numbers). numbers ++ r ∷ []) shown);
}

pub no_files : (blocks : List BlockFiles) (numbers : List Numbers) → blocks ≡ [] → numbers ≡ [] → AreFiles [] blocks numbers
no_files blocks numbers none empty = record { read = subst (AllZip IsInput []) (sym none) tt; numbers_are = empty }

pub files_all : (inputs yielded : List Input) (blocks : List BlockFiles) (numbers : List Numbers) → map (λ (x : Input). x) yielded ≡ inputs → AreFiles yielded blocks numbers → AreFiles inputs blocks numbers
files_all inputs yielded blocks numbers all are = subst (λ l. AreFiles l blocks numbers) (sym (same_map yielded) ∙ all) are
  where
    same_map : (xs : List Input) → map (λ (x : Input). x) xs ≡ xs
    same_map [] = refl
    same_map (x ∷ xs) = ap (λ l. x ∷ l) (same_map xs)
