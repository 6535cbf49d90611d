use Rattle.lifecycle_core.proofs.answers.RunCalls.{honest_misses_nothing}
use Rattle.lifecycle_core.proofs.laws.honest_buckets_miss_nothing.Goals as goal

pub returns : goal.returns
returns c = λ setting journal ends lawful undeleted run of_bytes honest. honest_misses_nothing setting journal ends lawful run honest of_bytes undeleted
