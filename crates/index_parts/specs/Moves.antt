-- What a call gives that moves a cursor on: what the reading function gives, with the cursor behind it. On a refusal the cursor
-- may stand anywhere.
use Rattle.std.specs.Prelude.{◌≡◌, Option, Some, Result, Ok, Err, MatchResult}
use Rattle.wire_bytes.specs.Position.{Position}
use Rattle.index_parts.specs.declared.refusal.PartRefusal.{PartRefusal}

abbrev pub MovesOn : {X Y : Type 0} → (X → Y) → Position → Result X PartRefusal → Result (Y × Position) PartRefusal → Type 0
MovesOn view after result read = MatchResult result (λ x. read ≡ Ok (view x, after)) (λ e. read ≡ Err e)

-- a member of a list, from which the next one is told
abbrev pub MovesOnTo : {X Y : Type 0} → (X → Y) → Position → Result X PartRefusal → Result (Y × (Option Y × Position)) PartRefusal → Type 0
MovesOnTo view after result read = MatchResult result (λ x. read ≡ Ok (view x, (Some (view x), after))) (λ e. read ≡ Err e)
