-- Where a call found an object missing it ended: no entry of a call but its last one finds nothing.
use Rattle.std.proofs.Common.{◌≡◌, ◌≢◌, ◌⊎◌, ℕ, List, [], ◌∷◌, ◌++◌, Option, Some, None, refl, sym, ◌∙◌, ap, subst, inl, inr, append_assoc, append-nil}
use Rattle.std.specs.List.{AllByRecursion}
use Rattle.base.proofs.Lists.{AllByRecursion-append, nil_not_middle}
use Rattle.label_sets.specs.Triples.{Triple}
use Rattle.label_sets.specs.declared.series.Series.{Series}
use Rattle.world_core.specs.Plans.{Plan, Runs, after_get, ends}
use Rattle.world_core.specs.declared.op.Op.{Op}
use Rattle.world_core.specs.declared.reply.Reply.{Reply}
use Rattle.world_core.specs.declared.reply.Reply.TheVariants.{Clocked, Stored, Found, Absent, Deleted, Names, Failed}
use Rattle.world_core.specs.declared.entry.Entry.{Entry}
use Rattle.world_core.proofs.PlanLaws.{AsksFor, EachAfter, EndsAre, asked_are, end_is, nothing_given}
use Rattle.world_core.proofs.PlanParts.{Parts, broken, both, parts}
use Rattle.meta_fetcher.specs.declared.view.View.{View}
use Rattle.store_ranges.specs.Reads.{Block, Break, Cache, Query, damaged, fault, missing, reads}
use Rattle.store_calls.specs.BlockReads.{BlockEnd, gives, breaks_off, block_call}
use Rattle.store_calls.specs.SeriesCalls.{Called, took, broke, CallEnd, Gives, SeriesRun, after_block, reading, sources_of, to_read}
use Rattle.store_calls.specs.declared.series_call.SeriesEnd.TheVariants as ended
use Rattle.store_calls.proofs.BlockWalk.{walk_holds}

-- each of the entries finds something
abbrev pub ArePresent : List Entry → Type 0
ArePresent entries = AllByRecursion (λ (e : Entry). e.reply ≢ Absent) entries

-- each but the last one does
abbrev pub OnlyLast : List Entry → Type 0
OnlyLast entries = (front : List Entry) (x y : Entry) (rest : List Entry) → entries ≡ front ++ x ∷ (y ∷ rest) → x.reply ≢ Absent

-- ---- a block

abbrev Behind : List Entry → Op → Type 0
Behind before op = ArePresent before

abbrev ShowsAll : List Entry → BlockEnd → Type 0
ShowsAll made (gives triples cache) = ArePresent made
ShowsAll made (breaks_off (missing number) cache) = Unit {0}
ShowsAll made (breaks_off (damaged number) cache) = ArePresent made
ShowsAll made (breaks_off (fault number) cache) = Unit {0}

abbrev Holds : List Entry → Plan BlockEnd → Type 0
Holds made plan = ArePresent made → AsksFor Behind made plan × EndsAre (λ e. Unit {0}) ShowsAll made plan

one_more : (made : List Entry) (e : Entry) → ArePresent made → e.reply ≢ Absent → ArePresent (made ++ e ∷ [])
one_more made e all own = AllByRecursion-append (λ (x : Entry). x.reply ≢ Absent) made (e ∷ []) all (own, tt)

read_holds : (made : List Entry) (op : Op) (cache : Cache) (next : ℕ → List ℕ → Plan BlockEnd) → Unit {0} → Unit {0}
    → ((e : Entry) (bytes : List ℕ) → e.op ≡ op → Unit {0} → e.reply ≡ Found bytes → Holds (made ++ e ∷ []) (next e.seq bytes)) → Holds made (reads breaks_off op cache next)
read_holds made op cache next is fine on all = ((all, λ e same. asks_by e same e.reply refl), λ e same given. ends_by e same e.reply refl)
  where
    here : (e : Entry) (bytes : List ℕ) → e.reply ≡ Found bytes → e.reply ≢ Absent
    here e bytes so absent = cc (so, absent)

    asks_by : (e : Entry) → e.op ≡ op → (r : Reply) → e.reply ≡ r → AsksFor Behind (made ++ e ∷ []) (after_get r (next e.seq) (ends (breaks_off (missing e.seq) cache)) (ends (breaks_off (fault e.seq) cache)))
    asks_by e same (Found bytes) so = (on e bytes same tt so (one_more made e all (here e bytes so))).0
    asks_by e same Absent so = tt
    asks_by e same (Failed landed) so = tt
    asks_by e same Clocked so = tt
    asks_by e same Stored so = tt
    asks_by e same Deleted so = tt
    asks_by e same (Names names) so = tt

    ends_by : (e : Entry) → e.op ≡ op → (r : Reply) → e.reply ≡ r → EndsAre (λ x. Unit {0}) ShowsAll (made ++ e ∷ []) (after_get r (next e.seq) (ends (breaks_off (missing e.seq) cache)) (ends (breaks_off (fault e.seq) cache)))
    ends_by e same (Found bytes) so = (on e bytes same tt so (one_more made e all (here e bytes so))).1
    ends_by e same Absent so = tt
    ends_by e same (Failed landed) so = tt
    ends_by e same Clocked so = tt
    ends_by e same Stored so = tt
    ends_by e same Deleted so = tt
    ends_by e same (Names names) so = tt

block_present : (query : Query) (block : Block) (cache : Cache) → AsksFor Behind [] (block_call query block cache) × EndsAre (λ e. Unit {0}) ShowsAll [] (block_call query block cache)
block_present query block cache =
    walk_holds {E = BlockEnd} breaks_off Holds (λ op. Unit {0}) (λ e. Unit {0}) (λ c. Unit {0}) (λ key piece bytes. Unit {0}) (λ key bytes. Unit {0})
    read_holds (λ A made Such one next on all. ((λ a is. (on a is all).0), (λ a is. (on a is all).1))) (λ range c fine. tt)
    (λ e key piece bytes c same given found none fine. tt) (λ e key piece bytes same given found. tt) (λ key piece bytes c fine has. tt) (λ e key bytes same given found. tt)
    query block tt (λ from len. tt) (λ series are reference sought from len. tt) (λ made number c spoilt fine all. (tt, all)) (λ after triples. ends (gives triples after)) (λ made after series all_read are read_so set fine all. (tt, all)) [] cache tt tt

-- ---- a call

-- what stands behind an entry
before_at : (made front : List Entry) (y : Entry) (rest : List Entry) → EachAfter Behind made (front ++ y ∷ rest) → ArePresent (made ++ front)
before_at made [] y rest each = subst ArePresent (sym (append-nil made)) each.0
before_at made (e ∷ front) y rest each = subst ArePresent (append_assoc made (e ∷ []) front) (before_at (made ++ e ∷ []) front y rest each.1)

last_of : (front : List Entry) (x : Entry) → ArePresent (front ++ x ∷ []) → x.reply ≢ Absent
last_of [] x all = all.0
last_of (e ∷ front) x all = last_of front x all.1

only_last : (entries : List Entry) → EachAfter Behind [] entries → OnlyLast entries
only_last entries each front x y rest is =
    last_of front x (before_at [] (front ++ x ∷ []) y rest (subst (EachAfter Behind []) (is ∙ sym (append_assoc front (x ∷ []) (y ∷ rest))) each))

only_append : (own others : List Entry) → ArePresent own → OnlyLast others → OnlyLast (own ++ others)
only_append [] others all only front x y rest is = only front x y rest is
only_append (e ∷ own) others all only [] x y rest is = let same : e ≡ x = cc (is) in subst (λ (z : Entry). z.reply ≢ Absent) same all.0
only_append (e ∷ own) others all only (f ∷ front) x y rest is = only_append own others all.1 only front x y rest (cc (is))

-- where all was taken, or something was damaged, each entry found something
abbrev TookAll : List Entry → Option Called → Type 0
TookAll entries None = Unit {0}
TookAll entries (Some (took taken cache)) = ArePresent entries
TookAll entries (Some (broke (missing number) cache)) = Unit {0}
TookAll entries (Some (broke (damaged number) cache)) = ArePresent entries
TookAll entries (Some (broke (fault number) cache)) = Unit {0}

abbrev Shows : List Entry → Option Called → Type 0
Shows entries end = OnlyLast entries × TookAll entries end

took_append : (own others : List Entry) (end : Option Called) → ArePresent own → TookAll others end → TookAll (own ++ others) end
took_append own others None all rest = tt
took_append own others (Some (took taken cache)) all rest = AllByRecursion-append (λ (x : Entry). x.reply ≢ Absent) own others all rest
took_append own others (Some (broke (missing number) cache)) all rest = tt
took_append own others (Some (broke (damaged number) cache)) all rest = AllByRecursion-append (λ (x : Entry). x.reply ≢ Absent) own others all rest
took_append own others (Some (broke (fault number) cache)) all rest = tt

abbrev AllShow : Query → List Block → Type 0
AllShow query blocks = (taken : List Triple) (cache : Cache) (entries : List Entry) (end : Option Called) → Runs (reading query blocks taken cache) entries end → Shows entries end

first_shows : (query : Query) (block : Block) (blocks : List Block) → AllShow query blocks → AllShow query (block ∷ blocks)
first_shows query block blocks later taken cache entries end run = by_parts (parts (block_call query block cache) (after_block taken (reading query blocks)) entries end run)
  where
    own_only : (own : List Entry) (last : Option BlockEnd) → Runs (block_call query block cache) own last → OnlyLast own
    own_only own last first = only_last own (asked_are Behind (block_call query block cache) [] own last (block_present query block cache).0 first)

    broke_all : (own : List Entry) (why : Break) (next : Cache) → ShowsAll own (breaks_off why next) → TookAll own (Some (broke why next))
    broke_all own (missing number) next all = tt
    broke_all own (damaged number) next all = all
    broke_all own (fault number) next all = tt

    broke_took : (own : List Entry) (why : Break) (next : Cache) (last : Option Called) → ShowsAll own (breaks_off why next) → (last ≡ None) ⊎ (last ≡ Some (broke why next)) → TookAll own last
    broke_took own why next last all (inl none) = subst (TookAll own) (sym none) tt
    broke_took own why next last all (inr same) = subst (TookAll own) (sym same) (broke_all own why next all)

    by_end : (own others : List Entry) (last : BlockEnd) → Runs (block_call query block cache) own (Some last) → ShowsAll own last → Runs (after_block taken (reading query blocks) last) others end → Shows (own ++ others) end
    by_end own others (gives share next) first all rest =
        let l = later (taken ++ share) next others end rest in (only_append own others all l.0, took_append own others end all l.1)
    by_end own others (breaks_off why next) first all (none, is) =
        let same : own ≡ own ++ others = sym (ap (λ (es : List Entry). own ++ es) none ∙ append-nil own) in
        (subst OnlyLast same (own_only own (Some (breaks_off why next)) first), subst (λ (es : List Entry). TookAll es end) same (broke_took own why next end all is))

    by_parts : Parts (block_call query block cache) (after_block taken (reading query blocks)) entries end → Shows entries end
    by_parts (broken first none) = (own_only entries None first, subst (TookAll entries) (sym none) tt)
    by_parts (both own others last is first rest) =
        subst (λ (es : List Entry). Shows es end) (sym is)
        (by_end own others last first (end_is (λ e. Unit {0}) ShowsAll (block_call query block cache) [] own last (block_present query block cache).1 (nothing_given own) first) rest)

reading_shows : (query : Query) (blocks : List Block) → AllShow query blocks
reading_shows query [] taken cache entries end (none, is) =
    (subst OnlyLast (sym none) (λ front x y rest parts. absurd (nil_not_middle x front (y ∷ rest) parts)), by end is)
  where
    by : (last : Option Called) → (last ≡ None) ⊎ (last ≡ Some (took taken cache)) → TookAll entries last
    by last (inl nothing) = subst (TookAll entries) (sym nothing) tt
    by last (inr same) = subst (TookAll entries) (sym same) (subst ArePresent (sym none) tt)
reading_shows query (block ∷ blocks) taken cache entries end run = first_shows query block blocks (reading_shows query blocks) taken cache entries end run

-- no entry of a call but its last one finds nothing
pub call_present : (view : View) (query : Query) (before : Cache) (entries : List Entry) (end : Option CallEnd) → SeriesRun view query before entries end → OnlyLast entries
call_present view query before entries None run = (reading_shows query (to_read query view.kept) [] before entries None run).0
call_present view query before entries (Some call) (told, run, is) = (reading_shows query (to_read query view.kept) [] before entries (Some told) run).0

told_all : (sources : List ℕ) (entries : List Entry) (told : Called) (call : CallEnd) (series : List Series) (set : List ℕ) → Gives sources told call → call.end ≡ ended.Answer series set → TookAll entries (Some told) → ArePresent entries
told_all sources entries (took taken cache) call series set is same all = all
told_all sources entries (broke (missing number) cache) call series set (is, left) same all = absurd (cc (is, same))
told_all sources entries (broke (damaged number) cache) call series set (is, left) same all = absurd (cc (is, same))
told_all sources entries (broke (fault number) cache) call series set (is, left) same all = absurd (cc (is, same))

-- and no entry of a call that answers
pub answer_present : (view : View) (query : Query) (before : Cache) (entries : List Entry) (call : CallEnd) (series : List Series) (set : List ℕ) → SeriesRun view query before entries (Some call) → call.end ≡ ended.Answer series set → ArePresent entries
answer_present view query before entries call series set (told, run, is) same =
    told_all (sources_of view.kept) entries told call series set is same (reading_shows query (to_read query view.kept) [] before entries (Some told) run).1

told_damaged : (sources : List ℕ) (entries : List Entry) (told : Called) (call : CallEnd) (number : ℕ) → Gives sources told call → call.end ≡ ended.Damaged number → TookAll entries (Some told) → ArePresent entries
told_damaged sources entries (took taken cache) call number is same all = all
told_damaged sources entries (broke (missing n) cache) call number (is, left) same all = absurd (cc (is, same))
told_damaged sources entries (broke (damaged n) cache) call number (is, left) same all = all
told_damaged sources entries (broke (fault n) cache) call number (is, left) same all = absurd (cc (is, same))

-- or that tells of damage
pub damaged_present : (view : View) (query : Query) (before : Cache) (entries : List Entry) (call : CallEnd) (number : ℕ) → SeriesRun view query before entries (Some call) → call.end ≡ ended.Damaged number → ArePresent entries
damaged_present view query before entries call number (told, run, is) same =
    told_damaged (sources_of view.kept) entries told call number is same (reading_shows query (to_read query view.kept) [] before entries (Some told) run).1
