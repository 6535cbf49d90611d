-- Two neighbouring blocks of a list that are exchanged.
use Rattle.std.proofs.Common.{◌≡◌, ℕ, ◌+◌, ◌-◌, ◌≤◌, List, ◌++◌, length, take, drop, refl, sym, ap, ◌∙◌, arith, append_assoc, length-append}
use Rattle.std.proofs.lemmas.List.{take_at, drop_at}
use borrow.Rule.Slice.PartMut.{put_mid, mid_of, post_of}

-- what stands in the middle, and the list with something else there
mid_is : {X : Type 0} (before middle behind xs : List X) (at size : ℕ) → xs ≡ before ++ (middle ++ behind) → length before ≡ at → length middle ≡ size → mid_of at size xs ≡ middle
mid_is before middle behind xs at size is long wide =
    ap (λ l. take size (drop at l)) is ∙ ap (take size) (drop_at before (middle ++ behind) at long) ∙ take_at middle behind size wide

put_is : {X : Type 0} (before middle behind new xs : List X) (at size : ℕ) → xs ≡ before ++ (middle ++ behind) → length before ≡ at → length middle ≡ size → put_mid at size xs new ≡ before ++ (new ++ behind)
put_is before middle behind new xs at size is long wide =
    let front = ap (take at) is ∙ take_at before (middle ++ behind) at long in
    let back = ap (λ l. drop size (drop at l)) is ∙ ap (drop size) (drop_at before (middle ++ behind) at long) ∙ drop_at middle behind size wide in
    ap (λ l. l ++ (new ++ post_of at size xs)) front ∙ ap (λ l. before ++ (new ++ l)) back

pub exchanged : {X : Type 0} (before one other behind xs new : List X) (at first second size : ℕ) → xs ≡ before ++ (one ++ (other ++ behind)) → length before ≡ at → length one ≡ first → length other ≡ second → size ≡ first + second
    → new ≡ drop first (mid_of at size xs) ++ take first (mid_of at size xs) → put_mid at size xs new ≡ before ++ (other ++ (one ++ behind))
exchanged before one other behind xs new at first second size is long wide broad both rotated =
    let sizes = length-append one other in
    let parts : xs ≡ before ++ ((one ++ other) ++ behind) = is ∙ ap (λ l. before ++ l) (sym (append_assoc one other behind)) in
    let whole : length (one ++ other) ≡ size = omega (arith, sizes, wide, broad, both) in
    let mid = mid_is before (one ++ other) behind xs at size parts long whole in
    let turned : new ≡ other ++ one = rotated ∙ ap (λ l. drop first l ++ take first l) mid ∙ ap (λ l. l ++ take first (one ++ other)) (drop_at one other first wide) ∙ ap (λ l. other ++ l) (take_at one other first wide) in
    put_is before (one ++ other) behind new xs at size parts long whole ∙ ap (λ l. before ++ (l ++ behind)) turned ∙ ap (λ l. before ++ l) (append_assoc other one behind)
