-- Lists that are kept up to the first with a number of another series tell the same least place as all of them.
use Rattle.std.proofs.Common.{◌≡◌, ℕ, zero, suc, ◌+◌, ◌<◌, ◌≤◌, Bool, true, false, List, [], ◌∷◌, ◌++◌, length, get_or, take, take_all, drop, Option, Some, None, Ok, Err, refl, sym, ap, ap₂, subst, ◌∙◌, arith}
use Rattle.std.specs.Prelude.{slice_get, is_none, IfSome, ◌&&◌, if◌then◌else◌}
use Rattle.std.specs.List.{All, list_all}
use Rattle.std.specs.List.Sorted.{IsStrictlyIncreasing}
use Rattle.std.specs.declared.cmp.Ordering.{Ordering}
use Rattle.std.specs.declared.cmp.Ordering.TheVariants.{Less, Equal, Greater}
use Rattle.std.proofs.lemmas.List.{length-append, length-take, take-append-le}
use Rattle.std.proofs.lemmas.Option.{slice_get_within}
use Rattle.std.proofs.lemmas.List.Elements.{All-push}
use Rattle.base.specs.Firsts.{or_else}
use Rattle.base.specs.Lists.{is_one_of}
use Rattle.base.specs.Reading.{refused_as}
use Rattle.label_sets.specs.declared.label.Label.{Label}
use Rattle.index_parts.specs.declared.postings_row.PostingsRow.{PostingsRow}
use Rattle.index_parts.specs.declared.index_series.IndexSeries.{IndexSeries}
use Rattle.index_parts.specs.Parts.{Part, list_in}
use Rattle.index_parts.specs.RowOrder.{compare_row}
use Rattle.index_v2.specs.declared.refusal.IndexRefusal.{IndexRefusal}
use Rattle.index_v2.specs.Opening.{refused_in}
use Rattle.index_v2.specs.WholeReading.{is_of_row, stray_from, gap_from, gap_of, gap_among, earlier_place, by_order, lists_at, differing_at, SameBefore, AreKept}
use Rattle.index_v2.proofs.Differences.{difference_within}
use Rattle.index_v2.proofs.ListNumbers.{none_rise}
use Rattle.index_v2.proofs.WholeLoops.{ListsSoFar, lists_step, lists_end, front_more}

-- ---- the lesser of places

-- no place before this one tells them apart
abbrev SamePlace : ℕ → Option ℕ → Option ℕ → Type 0
SamePlace b x y = earlier_place (Some b) x ≡ earlier_place (Some b) y

lesser_apart : (b : ℕ) (x y : Option ℕ) → earlier_place (Some b) (earlier_place x y) ≡ earlier_place (earlier_place (Some b) x) (earlier_place (Some b) y)
lesser_apart b None None = ap Some (omega arith)
lesser_apart b None (Some y) = ap Some (omega arith)
lesser_apart b (Some x) None = ap Some (omega arith)
lesser_apart b (Some x) (Some y) = ap Some (omega arith)

both_same : (b : ℕ) (x y x' y' : Option ℕ) → SamePlace b x x' → SamePlace b y y' → SamePlace b (earlier_place x y) (earlier_place x' y')
both_same b x y x' y' one other = lesser_apart b x y ∙ ap₂ earlier_place one other ∙ sym (lesser_apart b x' y')

by_order_same : (b : ℕ) (o : Ordering) (f f' here here' missing : Option ℕ) → SamePlace b f f' → here ≡ here' → SamePlace b (by_order o f here missing) (by_order o f' here' missing)
by_order_same b Less f f' here here' missing same e = same
by_order_same b Equal f f' here here' missing same e = ap (earlier_place (Some b)) e
by_order_same b Greater f f' here here' missing same e = refl

-- ---- the gap of a label

late_here : (b p : ℕ) (has : Bool) → b ≤ p → earlier_place (Some b) (if has then None else Some p) ≡ Some b
late_here b p true le = refl
late_here b p false le = ap Some (omega (arith, le))

late_by : (b p : ℕ) (o : Ordering) (f here : Option ℕ) → b ≤ p → earlier_place (Some b) f ≡ Some b → earlier_place (Some b) here ≡ Some b → earlier_place (Some b) (by_order o f here (Some p)) ≡ Some b
late_by b p Less f here le further now = further
late_by b p Equal f here le further now = now
late_by b p Greater f here le further now = ap Some (omega (arith, le))

module _ (number : ℕ) (label : Label) where
  late : (b p : ℕ) (rows : List PostingsRow) (xs : List (List ℕ)) → b ≤ p → earlier_place (Some b) (gap_from p rows xs number label) ≡ Some b
  unfolding gap_from
  late b p [] xs le = ap Some (omega (arith, le))
  late b p (r ∷ rows) [] le = ap Some (omega (arith, le))
  late b p (r ∷ rows) (x ∷ xs) le = late_by b p (compare_row r label.name label.value) _ _ le (late b (p + 1) rows xs (omega (arith, le))) (late_here b p (is_one_of x number) le)

  same_gap : (k b p : ℕ) (rows : List PostingsRow) (xs ys : List (List ℕ)) → b ≡ p + k → take k xs ≡ take k ys → SamePlace b (gap_from p rows xs number label) (gap_from p rows ys number label)
  unfolding gap_from
  same_gap k b p [] xs ys at same = refl
  same_gap zero b p (r ∷ rows) xs ys at same = late b p (r ∷ rows) xs (omega (arith, at)) ∙ sym (late b p (r ∷ rows) ys (omega (arith, at)))
  same_gap (suc k) b p (r ∷ rows) [] [] at same = refl
  same_gap (suc k) b p (r ∷ rows) [] (y ∷ ys) at same = absurd (omega (arith, ap length same))
  same_gap (suc k) b p (r ∷ rows) (x ∷ xs) [] at same = absurd (omega (arith, ap length same))
  same_gap (suc k) b p (r ∷ rows) (x ∷ xs) (y ∷ ys) at same =
      let first : x ≡ y = ap (λ (l : List (List ℕ)). get_or l 0 x) same in
      let others : take k xs ≡ take k ys = ap (drop 1) same in
      by_order_same b (compare_row r label.name label.value) _ _ _ _ (Some p) (same_gap k b (p + 1) rows xs ys (omega (arith, at)) others) (ap (λ (l : List ℕ). if is_one_of l number then None else Some p) first)

module _ (k : ℕ) (rows : List PostingsRow) (xs ys : List (List ℕ)) (same : take k xs ≡ take k ys) where
  same_gaps : (number : ℕ) (labels : List Label) → SamePlace k (gap_of rows xs number labels) (gap_of rows ys number labels)
  unfolding gap_of
  same_gaps number [] = refl
  same_gaps number (l ∷ labels) = both_same k _ _ _ _ (same_gap number l k k 0 rows xs ys (omega arith) same) (same_gaps number labels)

  same_among : (listed : List (ℕ × IndexSeries)) → SamePlace k (gap_among rows xs listed) (gap_among rows ys listed)
  unfolding gap_among
  same_among [] = refl
  same_among (one ∷ listed) = both_same k _ _ _ _ (same_gaps one.0 one.1.labels) (same_among listed)

-- what is kept tells the difference
kept_by : (stray : Option ℕ) (rows : List PostingsRow) (kept full : List (List ℕ)) (listed : List (ℕ × IndexSeries)) → SameBefore stray kept full → earlier_place stray (gap_among rows kept listed) ≡ earlier_place stray (gap_among rows full listed)
kept_by None rows kept full listed same = ap (λ (l : List (List ℕ)). earlier_place None (gap_among rows l listed)) same
kept_by (Some k) rows kept full listed same = same_among k rows kept full same.1 listed

-- ---- one row more

stray_end : (p : ℕ) (listed : List (ℕ × IndexSeries)) (c : Bool) → (if c then stray_from (p + 1) [] [] listed else Some p) ≡ (if c then None else Some (p + 0))
unfolding stray_from
stray_end p listed true = refl
stray_end p listed false = ap Some (omega arith)

stray_turn : (p n m : ℕ) (c d : Bool) (found : Option ℕ) → n ≡ m → (if c then or_else found (if d then None else Some n) else Some p) ≡ or_else (if c then found else Some p) (if d then None else Some m)
stray_turn p n m true d found e = ap (λ (k : ℕ). or_else found (if d then None else Some k)) e
stray_turn p n m false d found e = refl

stray_push : (p : ℕ) (rows : List PostingsRow) (lists : List (List ℕ)) (row : PostingsRow) (list : List ℕ) (listed : List (ℕ × IndexSeries)) → length rows ≡ length lists
    → stray_from p (rows ++ row ∷ []) (lists ++ list ∷ []) listed ≡ or_else (stray_from p rows lists listed) (if list_all (is_of_row listed row) list then None else Some (p + length rows))
unfolding stray_from
stray_push p [] [] row list listed many = stray_end p listed (list_all (is_of_row listed row) list)
stray_push p [] (l ∷ lists) row list listed many = absurd (omega (arith, many))
stray_push p (r ∷ rows) [] row list listed many = absurd (omega (arith, many))
stray_push p (r ∷ rows) (l ∷ lists) row list listed many =
    ap (λ (o : Option ℕ). if list_all (is_of_row listed r) l then o else Some p) (stray_push (p + 1) rows lists row list listed (omega (arith, many)))
    ∙ stray_turn p (p + 1 + length rows) (p + length (r ∷ rows)) (list_all (is_of_row listed r) l) (list_all (is_of_row listed row) list) (stray_from (p + 1) rows lists listed) (omega arith)

told_once : (stray : Option ℕ) (c : Bool) (place : ℕ) → or_else stray (if is_none stray && c then None else Some place) ≡ or_else stray (if c then None else Some place)
told_once None c place = refl
told_once (Some k) c place = refl

-- ---- the loop

pub record KeptSoFar (part : Part) (rows : List PostingsRow) (listed : List (ℕ × IndexSeries)) (place : ℕ) (kept : List (List ℕ)) (stray : Option ℕ) : Type 0 where
  pub full : List (List ℕ)
  pub far : ListsSoFar part rows place full
  pub many : length kept ≡ place
  pub rise : All IsStrictlyIncreasing kept
  pub stray_is : stray ≡ stray_from 0 (take place rows) full listed
  pub same : SameBefore stray kept full

pub kept_start : (part : Part) (rows : List PostingsRow) (listed : List (ℕ × IndexSeries)) (kept : List (List ℕ)) (far : ListsSoFar part rows 0 []) → kept ≡ [] → KeptSoFar part rows listed 0 kept None
unfolding stray_from
kept_start part rows listed kept far none = subst (λ (l : List (List ℕ)). KeptSoFar part rows listed 0 l None) (sym none) (record { full = []; far = far; many = refl; rise = far.rise; stray_is = refl; same = refl })

same_more : (stray : Option ℕ) (c : Bool) (kept full : List (List ℕ)) (list : List ℕ) → length kept ≡ length full → SameBefore stray kept full
    → SameBefore (or_else stray (if is_none stray && c then None else Some (length full))) (kept ++ (if is_none stray && c then list else []) ∷ []) (full ++ list ∷ [])
same_more None true kept full list many same = ap (λ (l : List (List ℕ)). l ++ list ∷ []) same
same_more None false kept full list many same = (
  omega (arith, many, length-append kept ([] ∷ [])),
  take-append-le (length full) kept ([] ∷ []) (omega (arith, many)) ∙ ap (take (length full)) same ∙ sym (take-append-le (length full) full (list ∷ []) (omega arith)),
)
same_more (Some k) c kept full list many same = (
  omega (arith, same.0, length-append kept ([] ∷ [])),
  take-append-le k kept ([] ∷ []) same.0 ∙ same.1 ∙ sym (take-append-le k full (list ∷ []) (omega (arith, many, same.0))),
)

rise_by : (b : Bool) (list : List ℕ) → IsStrictlyIncreasing list → IsStrictlyIncreasing (if b then list else [])
rise_by true list rises = rises
rise_by false list rises = none_rise

pub kept_step : (part : Part) (rows : List PostingsRow) (listed : List (ℕ × IndexSeries)) (place : ℕ) (row : PostingsRow) (kept new : List (List ℕ)) (stray next : Option ℕ) (seen list put : List ℕ) (is : Bool)
    → KeptSoFar part rows listed place kept stray → slice_get rows place ≡ Some row → refused_as (refused_in 5) (list_in part row.offset) ≡ Ok list → IsStrictlyIncreasing list → seen ≡ list
    → is ≡ (is_none stray && list_all (is_of_row listed row) seen) → put ≡ (if is then list else []) → new ≡ kept ++ put ∷ [] → next ≡ or_else stray (if is then None else Some place) → KeptSoFar part rows listed (place + 1) new next
kept_step part rows listed place row kept new stray next seen list put is h at read rises s is_is put_is new_is next_is =
    let c = list_all (is_of_row listed row) list in
    let test : is ≡ (is_none stray && c) = is_is ∙ ap (λ (l : List ℕ). is_none stray && list_all (is_of_row listed row) l) s in
    let far = lists_step part rows place row h.full (h.full ++ list ∷ []) list h.far at read rises refl in
    let as_many = h.far.many in
    let within : length (take place rows) ≡ place = omega (arith, slice_get_within rows place row at, length-take place rows) in
    let placed : place ≡ 0 + length (take place rows) = omega (arith, within) in
    let put_is' : put ≡ (if is_none stray && c then list else []) = put_is ∙ ap (λ (b : Bool). if b then list else []) test in
    let next_is' : next ≡ or_else stray (if is_none stray && c then None else Some place) = next_is ∙ ap (λ (b : Bool). or_else stray (if b then None else Some place)) test in
    let strays : or_else stray (if is_none stray && c then None else Some place) ≡ stray_from 0 (take (place + 1) rows) (h.full ++ list ∷ []) listed =
    told_once stray c place ∙ ap₂ (λ (o : Option ℕ) (n : ℕ). or_else o (if c then None else Some n)) h.stray_is placed ∙ sym (stray_push 0 (take place rows) h.full row list listed (within ∙ sym as_many)) ∙ ap (λ (rs : List PostingsRow). stray_from 0 rs (h.full ++ list ∷ []) listed) (sym (front_more rows place row at)) in
    let here : KeptSoFar part rows listed (place + 1) (kept ++ (if is_none stray && c then list else []) ∷ []) (or_else stray (if is_none stray && c then None else Some place)) = record {
      full = h.full ++ list ∷ [];
      far = far;
      many = omega (arith, h.many, length-append kept ((if is_none stray && c then list else []) ∷ []));
      rise = All-push IsStrictlyIncreasing kept _ h.rise (rise_by (is_none stray && c) list rises);
      stray_is = strays;
      same = subst (λ (n : ℕ). SameBefore (or_else stray (if is_none stray && c then None else Some n)) (kept ++ (if is_none stray && c then list else []) ∷ []) (h.full ++ list ∷ [])) as_many (same_more stray c kept h.full list (h.many ∙ sym as_many) h.same);
    } in
    subst (KeptSoFar part rows listed (place + 1) new) (sym next_is') (subst (λ (l : List (List ℕ)). KeptSoFar part rows listed (place + 1) l (or_else stray (if is_none stray && c then None else Some place))) (sym (new_is ∙ ap (λ (x : List ℕ). kept ++ x ∷ []) put_is')) here)

pub kept_end : (part : Part) (rows : List PostingsRow) (listed : List (ℕ × IndexSeries)) (place : ℕ) (kept : List (List ℕ)) (stray : Option ℕ) → KeptSoFar part rows listed place kept stray → place ≡ length rows → AreKept part rows listed kept stray
kept_end part rows listed place kept stray h end = record {
  lists = h.full;
  read = lists_end part rows place h.full h.far (omega (arith, end));
  many = sym end ∙ sym h.many;
  rise = h.rise;
  stray_is = h.stray_is ∙ ap (λ (rs : List PostingsRow). stray_from 0 rs h.full listed) (take_all place rows (omega (arith, end)));
  same = h.same;
}

-- ---- what it tells

if_less : (o : Option ℕ) (n most : ℕ) → n < most → IfSome o (λ place. place ≤ n) → IfSome o (λ place. place < most)
if_less None n most lt le = tt
if_less (Some place) n most lt le = omega (arith, lt, le)

pub told_by : (part : Part) (rows : List PostingsRow) (listed : List (ℕ × IndexSeries)) (kept : List (List ℕ)) (stray found : Option ℕ) → AreKept part rows listed kept stray → found ≡ earlier_place stray (gap_among rows kept listed) → differing_at part rows listed ≡ Ok found
unfolding differing_at
told_by part rows listed kept stray found are e =
    rw (are.read) (ap Ok (ap (λ (o : Option ℕ). earlier_place o (gap_among rows are.lists listed)) (sym are.stray_is) ∙ sym (kept_by stray rows kept are.lists listed are.same) ∙ sym e))

pub refused_by : (part : Part) (rows : List PostingsRow) (listed : List (ℕ × IndexSeries)) (e : IndexRefusal) → lists_at part rows ≡ Err e → differing_at part rows listed ≡ Err e
unfolding differing_at
refused_by part rows listed e refused = rw refused refl

-- such a place is one of so many
pub small_by : (most : ℕ) (part : Part) (rows : List PostingsRow) (listed : List (ℕ × IndexSeries)) (kept : List (List ℕ)) (stray found : Option ℕ) → length rows < most → AreKept part rows listed kept stray → found ≡ earlier_place stray (gap_among rows kept listed) → IfSome found (λ place. place < most)
small_by most part rows listed kept stray found few are e =
    if_less found (length rows) most few (difference_within rows are.lists listed found (e ∙ kept_by stray rows kept are.lists listed are.same ∙ ap (λ (o : Option ℕ). earlier_place o (gap_among rows are.lists listed)) are.stray_is))
