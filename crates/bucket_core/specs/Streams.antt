-- What a read takes from a source, and what a write adds to a sink.
use Rattle.std.specs.Prelude.{◌≡◌, ℕ, List, [], Option, IfSome}
use Rattle.bucket_core.specs.declared.answer.ReadAnswer.{ReadAnswer}
use Rattle.bucket_core.specs.declared.answer.ReadAnswer.TheVariants as read
use Rattle.bucket_core.specs.declared.answer.WriteAnswer.{WriteAnswer}
use Rattle.bucket_core.specs.declared.answer.WriteAnswer.TheVariants as write

-- how many bytes a read got
abbrev pub count_got : ReadAnswer → ℕ
count_got (read.Got count) = count
count_got read.Failed = 0

-- how many bytes a write took
abbrev pub count_taken : WriteAnswer → ℕ
count_taken (write.Took count) = count
count_taken write.Failed = 0

-- nothing is got only at the end
abbrev pub EndsWhereNone : ReadAnswer → Option (List ℕ) → Type 0
EndsWhereNone (read.Got count) left = count ≡ 0 → IfSome left (λ bytes. bytes ≡ [])
EndsWhereNone read.Failed left = Unit {0}

-- a piece with bytes is taken by one byte at least
abbrev pub TakesSome : WriteAnswer → List ℕ → Type 0
TakesSome (write.Took count) piece = count ≡ 0 → piece ≡ []
TakesSome write.Failed piece = Unit {0}
