-- What the questions that are asked of an entry tell.
use Rattle.std.specs.Prelude.{◌≡◌, ◌<◌, ◌+◌, ◌*◌, ℕ, List, [], ◌∷◌, ◌++◌, codes, Option, Some, None}
use Rattle.std.specs.List.{flat_map}
use Rattle.block_meta.specs.MetaFields.{MarkFields}
use Rattle.block_meta.specs.MetaText.{IsMarkText}
use Rattle.block_meta.specs.Lawful.{deletion_limit}
use Rattle.bucket_core.specs.Contents.{Contents}
use Rattle.bucket_core.specs.Pages.{IsPage}
use Rattle.world_core.specs.declared.reply.Reply.{Reply}
use Rattle.lifecycle_core.specs.Breaches.{FirstDiffer, IsOver, shown_by, name_end}
use Rattle.moment_core.specs.Limits.{one_second}

-- none where a rule does not refuse, and else the two numbers with which it does
abbrev pub IsTold : (ℕ → ℕ → Type 0) → Option (ℕ × ℕ) → Type 0
IsTold Refuses None = (x y : ℕ) → ¬ Refuses x y
IsTold Refuses (Some told) = Refuses told.0 told.1

-- none where the texts are the same, and else the first bytes in which they differ
abbrev pub IsDifference : List ℕ → List ℕ → Option (ℕ × ℕ) → Type 0
IsDifference one other None = one ≡ other
IsDifference one other (Some told) = FirstDiffer one other told.0 told.1

-- the difference between what is shown and what is owed, where something is shown
abbrev pub IsShownWrong : Option (List ℕ) → List ℕ → Option (ℕ × ℕ) → Type 0
IsShownWrong None owed told = told ≡ None
IsShownWrong (Some shown) owed told = IsDifference shown owed told

-- the text of an object, or of its absence
abbrev pub object_text : Option (List ℕ) → List ℕ
object_text None = codes "A"
object_text (Some bytes) = codes "F" ++ bytes

-- names, each with the byte at its end
abbrev pub ended_names : List (List ℕ) → List ℕ
ended_names names = flat_map (λ name. name ++ name_end ∷ []) names

abbrev pub names_text : List (List ℕ) → List ℕ
names_text names = codes "N" ++ ended_names names

-- the second that the text of a mark tells, and none where the bytes are no such text
abbrev pub IsSecondOf : List ℕ → Option ℕ → Type 0
IsSecondOf bytes None = (mark : MarkFields) → ¬ IsMarkText bytes mark
IsSecondOf bytes (Some second) = ((mark : MarkFields) × IsMarkText bytes mark × (mark.deletion_time ≡ second)) × (second < deletion_limit)

-- the bytes are a mark's text, and the moment is more than the span behind the second that it tells
abbrev pub IsLateMark : List ℕ → ℕ → ℕ → ℕ → ℕ → Type 0
IsLateMark bytes moment span x y =
    (mark : MarkFields) × IsMarkText bytes mark × IsOver moment (one_second * mark.deletion_time + span) x y

-- the difference between what is shown and the page that is owed
abbrev pub IsPageWrong : Contents → List ℕ → List ℕ → ℕ → Reply → Option (ℕ × ℕ) → Type 0
IsPageWrong contents within after limit reply told =
    (names : List (List ℕ)) × IsPage contents within after limit names × IsShownWrong (shown_by reply) (names_text names) told
