-- A sync comes to one view: what was seen of a block tells the block.
use Rattle.std.proofs.Common.{◌≡◌, ℕ, ◌<◌, List, [], ◌∷◌, ◌++◌, map, Option, Some, None, refl, sym, ap, subst, ◌∙◌, inl, inr, append-nil}
use Rattle.std.specs.Prelude.{option_map}
use Rattle.std.specs.List.Sorted.{IsNonDecreasingBy}
use Rattle.std.proofs.Props.{props}
use Rattle.block_meta.proofs.SameMetas.{same_meta}
use Rattle.block_meta.specs.MetaFields.{MarkFields, mark_fields_of}
use Rattle.block_meta.specs.declared.deletion_mark.DeletionMark.{DeletionMark}
use Rattle.block_meta.specs.Lawful.{deletion_limit}
use Rattle.moment_core.specs.declared.moment.Moment.{Moment}
use Rattle.world_core.specs.declared.entry.Entry.{Entry}
use Rattle.world_core.specs.Plans.{Plan, Runs, IsAtMostOne, and_then, finds, ends}
use Rattle.world_core.proofs.PlanParts.{Parts, broken, both, parts, joined}
use Rattle.sync_filters.specs.declared.found.Found.{Found}
use Rattle.meta_fetcher.specs.Sightings.{IsView, Sighting, covered_by, kept_by, sighting_of}
use Rattle.meta_fetcher.specs.Syncs.{Course, IsEnd, SyncRun, Synced, damaged, fault, sighted, sync, too_many}
use Rattle.meta_fetcher.specs.declared.rules.SyncRules.{SyncRules}
use Rattle.meta_fetcher.specs.declared.sync.SyncEnd.{SyncEnd}
use Rattle.meta_fetcher.specs.declared.sync.SyncEnd.TheVariants as fetched
use Rattle.meta_fetcher.specs.declared.view.View.{View}

-- ---- marks

early_prop : (second : ℕ) → IsProp (second < deletion_limit)
early_prop second = hlevel props

abbrev mark_made : (f : MarkFields) → f.deletion_time < deletion_limit → DeletionMark
mark_made f early = record { id = f.id; deletion_time = f.deletion_time; details = f.details; early = early }

same_mark_made : (f g : MarkFields) → f ≡ g → (e : f.deletion_time < deletion_limit) (e' : g.deletion_time < deletion_limit) → mark_made f e ≡ mark_made g e'
same_mark_made f g same e =
    subst (λ (h : MarkFields). (e' : h.deletion_time < deletion_limit) → mark_made f e ≡ mark_made h e') same
    (λ e'. ap (λ (x : f.deletion_time < deletion_limit). mark_made f x) (early_prop f.deletion_time e e'))

same_mark : (m n : DeletionMark) → mark_fields_of m ≡ mark_fields_of n → m ≡ n
same_mark m n same = same_mark_made (mark_fields_of m) (mark_fields_of n) same m.early n.early

same_marks : (o p : Option DeletionMark) → option_map mark_fields_of o ≡ option_map mark_fields_of p → o ≡ p
same_marks None None same = refl
same_marks None (Some n) same = absurd (cc (same))
same_marks (Some m) None same = absurd (cc (same))
same_marks (Some m) (Some n) same = ap (λ (x : DeletionMark). Some x) (same_mark m n (cc (same)))

-- ---- views

same_found : (a b : Found) → sighting_of a ≡ sighting_of b → a ≡ b
same_found a b same =
    let ulids : a.ulid ≡ b.ulid = ap (λ (s : Sighting). s.ulid) same in
    let marks : a.mark ≡ b.mark = same_marks a.mark b.mark (ap (λ (s : Sighting). s.mark) same) in
    let reads : a.mark_read ≡ b.mark_read = ap (λ (s : Sighting). s.mark_read) same in
    let metas : a.meta ≡ b.meta = same_meta a.meta b.meta (ap (λ (s : Sighting). s.meta) same) in
    let meta_reads : a.meta_read ≡ b.meta_read = ap (λ (s : Sighting). s.meta_read) same in
    λ i. record { ulid = ulids i; mark = marks i; mark_read = reads i; meta = metas i; meta_read = meta_reads i }

same_founds : (xs ys : List Found) → map sighting_of xs ≡ map sighting_of ys → xs ≡ ys
same_founds [] [] same = refl
same_founds [] (y ∷ ys) same = absurd (cc (same))
same_founds (x ∷ xs) [] same = absurd (cc (same))
same_founds (x ∷ xs) (y ∷ ys) same =
    let first : x ≡ y = same_found x y (cc (same)) in
    let rest : xs ≡ ys = same_founds xs ys (cc (same)) in λ i. first i ∷ rest i

abbrev AreByUlid : List Found → Type 0
AreByUlid blocks = IsNonDecreasingBy (λ block. block.ulid) blocks

rises_prop : (blocks : List Found) → IsProp (AreByUlid blocks)
rises_prop blocks = hlevel props

abbrev view_made : ℕ → Moment → Moment → (kept covered : List Found) → AreByUlid kept → AreByUlid covered → View
view_made first begin end kept covered kept_rise covered_rise =
    record { first = first; begin = begin; end = end; kept = kept; covered = covered; kept_rise = kept_rise; covered_rise = covered_rise }

same_lists : (first : ℕ) (begin end : Moment) (kept kept' covered covered' : List Found) → kept ≡ kept' → covered ≡ covered' → (k : AreByUlid kept) (c : AreByUlid covered) (k' : AreByUlid kept') (c' : AreByUlid covered')
    → view_made first begin end kept covered k c ≡ view_made first begin end kept' covered' k' c'
same_lists first begin end kept kept' covered covered' same also k c =
    subst (λ (ks : List Found). (k' : AreByUlid ks) (c' : AreByUlid covered') → view_made first begin end kept covered k c ≡ view_made first begin end ks covered' k' c') same
    (subst (λ (cs : List Found). (k' : AreByUlid kept) (c' : AreByUlid cs) → view_made first begin end kept covered k c ≡ view_made first begin end kept cs k' c') also
    (λ k' c'. ap (λ (x : AreByUlid kept). view_made first begin end kept covered x c) (rises_prop kept k k') ∙ ap (λ (x : AreByUlid covered). view_made first begin end kept covered k' x) (rises_prop covered c c')))

same_view : (first first' : ℕ) (begin begin' end end' : Moment) (kept covered : List Found) (k : AreByUlid kept) (c : AreByUlid covered) → first ≡ first' → begin ≡ begin' → end ≡ end'
    → view_made first begin end kept covered k c ≡ view_made first' begin' end' kept covered k c
same_view first first' begin begin' end end' kept covered k c firsts begun ended = λ i. view_made (firsts i) (begun i) (ended i) kept covered k c

one_view : (rules : SyncRules) (number : ℕ) (begun ended : Moment) (sightings : List Sighting) (v w : View) → IsView rules number begun ended sightings v → IsView rules number begun ended sightings w → v ≡ w
one_view rules number begun ended sightings v w a b =
    let found : a.found ≡ b.found = same_founds a.found b.found (a.sighted ∙ sym b.sighted) in
    let kept : v.kept ≡ w.kept = a.kept ∙ ap (kept_by rules) found ∙ sym b.kept in
    let covered : v.covered ≡ w.covered = a.covered ∙ ap (covered_by rules) found ∙ sym b.covered in
    same_view v.first w.first v.begin w.begin v.end w.end v.kept v.covered v.kept_rise v.covered_rise (a.first ∙ sym b.first) (a.begin ∙ sym b.begin) (a.end ∙ sym b.end)
    ∙ same_lists w.first w.begin w.end v.kept w.kept v.covered w.covered kept covered v.kept_rise v.covered_rise w.kept_rise w.covered_rise

one_sync_end : (rules : SyncRules) (told : Synced) (course : Option Course) (one other : SyncEnd) → IsEnd rules (told, course) one → IsEnd rules (told, course) other → one ≡ other
one_sync_end rules (sighted sightings) (Some course) one other (v, is, view) (w, so, also) =
    is ∙ ap fetched.View (one_view rules course.first course.begin course.end sightings v w view also) ∙ sym so
one_sync_end rules (sighted sightings) None one other is so = absurd is
one_sync_end rules (fault number) course one other is so = is ∙ sym so
one_sync_end rules (damaged number) course one other is so = is ∙ sym so
one_sync_end rules too_many course one other is so = is ∙ sym so

-- a sync comes to one end
pub one_end_of : (rules : SyncRules) (told : Synced × Option Course) → IsAtMostOne (IsEnd rules told)
one_end_of rules (told, course) one other is so = one_sync_end rules told course one other is so

abbrev pub end_found : SyncRules → Synced × Option Course → Plan SyncEnd
end_found rules told = finds (IsEnd rules told) (one_end_of rules told) (λ end. ends end)

-- a sync as a plan whose end is the sync's
abbrev pub whole_sync : SyncRules → Plan SyncEnd
whole_sync rules = and_then (sync rules) (end_found rules)

pub to_plan : (rules : SyncRules) (entries : List Entry) (end : SyncEnd) → SyncRun rules entries (Some end) → Runs (whole_sync rules) entries (Some end)
to_plan rules entries end (told, run, is) =
    subst (λ (es : List Entry). Runs (whole_sync rules) es (Some end)) (append-nil entries)
    (joined (sync rules) (end_found rules) entries [] told (Some end) run (inr (end, is, (refl, inr refl))))

pub of_plan : (rules : SyncRules) (entries : List Entry) (end : SyncEnd) → Runs (whole_sync rules) entries (Some end) → SyncRun rules entries (Some end)
of_plan rules entries end run = told_of (parts (sync rules) (end_found rules) entries (Some end) run)
  where
    told_of : Parts (sync rules) (end_found rules) entries (Some end) → SyncRun rules entries (Some end)
    told_of (broken one none) = absurd (cc (none))
    told_of (both own others last is first (inl none)) = absurd (cc (none.1))
    told_of (both own others last is first (inr (found, ended, (nil, inl none)))) = absurd (cc (none))
    told_of (both own others last is first (inr (found, ended, (nil, inr same)))) =
        let e : end ≡ found = cc (same) in
        let all : entries ≡ own = is ∙ ap (λ (es : List Entry). own ++ es) nil ∙ append-nil own in
        (last, subst (λ (es : List Entry). Runs (sync rules) es (Some last)) (sym all) first, subst (λ (x : SyncEnd). IsEnd rules last x) (sym e) ended)
