-- What an index lists is few for its bytes.
use Rattle.std.proofs.Common.{◌≡◌, ℕ, ◌+◌, ◌*◌, ◌≤◌, List, length, sum_by, Result, Ok, Err, subst}
use Rattle.std.specs.Prelude.{All, IfOk}
use Rattle.index_parts.specs.declared.index_series.IndexSeries.{IndexSeries}
use Rattle.index_v2.specs.Sizes.{members_of}
use Rattle.index_v2.specs.declared.refusal.IndexRefusal.{IndexRefusal}
use Rattle.block_content.specs.ContentReading.{ListsFew}

pub lists_few : (r : Result (List IndexSeries) IndexRefusal) (bytes index : List ℕ) → bytes ≡ index
    → IfOk r (λ list. (4 * length list ≤ length bytes) × All (λ series. 2 * length series.labels + 3 * length series.chunks ≤ length bytes) list)
    → IfOk r (λ list. sum_by members_of list ≤ length bytes) → IfOk r (ListsFew index)
lists_few (Ok list) bytes index same few members = subst (λ (b : List ℕ). ListsFew b list) same (record { series = few.0; each = few.1; members = members })
lists_few (Err refusal) bytes index same few members = tt
