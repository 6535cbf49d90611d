-- What is told of samples of which none is kept: how many there are, and the first and the last time.
use Rattle.std.specs.Prelude.{ℕ, suc, ℤ, Bool, List, [], ◌∷◌, length, Option, None, Some, Result, Ok}
use Rattle.base.specs.Reading.{◌>>=◌}
use Rattle.label_sets.specs.declared.sample.Sample.{Sample}
use Rattle.xor_chunks.specs.declared.spanning.SampleSpan.{SampleSpan}
use Rattle.xor_chunks.specs.declared.refusal.XorRefusal.{XorRefusal}
use Rattle.xor_chunks.specs.State.{State}
use Rattle.xor_chunks.specs.Data.{others_at, data_at}

-- the time of the last of the samples that follow on a time
abbrev pub end_of : ℤ → List Sample → ℤ
end_of time [] = time
end_of time (sample ∷ samples) = end_of sample.time samples

abbrev pub span_of : List Sample → Option SampleSpan
span_of [] = None
span_of (first ∷ others) = Some (record { count = suc (length others); first = first.time; last = end_of first.time others })

-- the end of the samples that are read, and the bits after them
abbrev pub with_end : ℤ → Result (List Sample × List Bool) XorRefusal → Result (ℤ × List Bool) XorRefusal
with_end time read = read >>= λ x. Ok (end_of time x.0, x.1)

-- the end of so many samples after the second, and the bits after them
abbrev pub end_at : ℕ → State → List Bool → Result (ℤ × List Bool) XorRefusal
end_at count second bits = with_end second.time (others_at count second bits)

-- the span of the samples that are read, and the bits after them
abbrev pub with_span : Result (List Sample × List Bool) XorRefusal → Result (Option SampleSpan × List Bool) XorRefusal
with_span read = read >>= λ x. Ok (span_of x.0, x.1)

-- the span of the samples of all the bytes, after which at most so many bits are left
abbrev pub span_at : ℕ → List ℕ → Result (Option SampleSpan) XorRefusal
span_at most bytes = data_at most bytes >>= λ samples. Ok (span_of samples)
