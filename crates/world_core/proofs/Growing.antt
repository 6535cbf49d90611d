-- What holds of a journal, and of a world, after one more entry.
use Rattle.std.proofs.Common.{◌≡◌, ◌⊎◌, ◌↔◌, inl, inr, ℕ, ◌+◌, ◌*◌, ◌^◌, ◌<◌, ◌≤◌, min, Bool, true, false, cond, IsTrue, Option, Some, None, IfSome, option_map, List, [], ◌∷◌, ◌++◌, length, refl, sym, ap, ◌∙◌, subst, arith, length-append}
use Rattle.std.specs.List.{count_by}
use Rattle.std.proofs.lemmas.List.Sums.{fold-append, sum_by-append, count_by-le-length}
use Rattle.bucket_core.specs.Causes.{Rose}
use Rattle.bucket_core.specs.Contents.{Contents, nothing}
use Rattle.bucket_core.specs.Told.{BucketTold}
use Rattle.world_core.specs.Operations.{IsLawful, IsReplyTo, PutsBytes, ShowsBytes, has_failed, entry_of}
use Rattle.world_core.specs.Journals.{Each}
use Rattle.world_core.specs.Moments.{moment_after, last_moment}
use Rattle.world_core.specs.Keeping.{bytes_put, bytes_told, kept_bytes, IsFull}
use Rattle.world_core.specs.Standing.{left_by, stands, Tells}
use Rattle.world_core.specs.Worlds.{IsTrueOf, IsCountedWorld}
use Rattle.world_core.specs.declared.op.Op.{Op}
use Rattle.world_core.specs.declared.op.Op.TheVariants.{Clock, Put, Get, GetRange, Delete, RootPage, BlockPage}
use Rattle.world_core.specs.declared.seen.Seen.{Seen}
use Rattle.world_core.specs.declared.entry.Entry.{Entry}
use Rattle.moment_core.specs.Limits.{longest_tick, moment_limit}

-- an entry of a list with one more is the last one, or stands in the list
split_push : (entries : List Entry) (e : Entry) (before after : List Entry) (x : Entry) → entries ++ e ∷ [] ≡ before ++ x ∷ after → ((before ≡ entries) × (x ≡ e)) ⊎ ((others : List Entry) × (entries ≡ before ++ x ∷ others))
split_push [] e [] after x is = inl (refl, cc)
split_push [] e (b ∷ []) after x is = absurd (cc)
split_push [] e (b ∷ c ∷ bs) after x is = absurd (cc)
split_push (y ∷ ys) e [] after x is = inr (ys, cc)
split_push (y ∷ ys) e (b ∷ bs) after x is =
    let same : y ≡ b = cc in
    elim (split_push ys e bs after x (cc)) [ inl h ↦ inl (cc (h.0, same), h.1) | inr h ↦ inr (h.0, cc (h.1, same)) ]

-- anything holds of each entry where there is none
pub Each-none : (P : List Entry → Entry → Type 0) → Each P []
Each-none P [] after e is = absurd (cc)
Each-none P (b ∷ bs) after e is = absurd (cc)

-- what holds of each entry holds of one more
pub Each-push : (P : List Entry → Entry → Type 0) (entries : List Entry) (e : Entry) → Each P entries → P entries e → Each P (entries ++ e ∷ [])
Each-push P entries e each last before after x is =
    elim (split_push entries e before after x is) [ inl h ↦ subst (λ b. P b x) (sym h.0) (subst (λ y. P entries y) (sym h.1) last) | inr h ↦ each before h.0 x h.1 ]

-- the numbers of a list with one more entry
pub last_more : (entries : List Entry) (e : Entry) → last_moment (entries ++ e ∷ []) ≡ e.moment.ms
last_more entries e = fold-append (λ last x. x.moment.ms) 0 entries (e ∷ [])

kept_more : (entries : List Entry) (e : Entry) → kept_bytes (entries ++ e ∷ []) ≡ kept_bytes entries + (bytes_put e.op + bytes_told e.reply)
kept_more entries e = let h = sum_by-append (λ x. bytes_put x.op + bytes_told x.reply) entries (e ∷ []) in omega (arith, h)

pub failed_more : (entries : List Entry) (e : Entry) → count_by (λ x. has_failed x.reply) (entries ++ e ∷ []) ≡ count_by (λ x. has_failed x.reply) entries + cond (has_failed e.reply) 1 0
failed_more entries e = let h = sum_by-append (λ x. cond (has_failed x.reply) 1 0) entries (e ∷ []) in omega (arith, h)

-- no moment passes what the clock's limit and the ticks allow
bound_more : (tick last count : ℕ) (op : Op) → IsLawful op → tick ≤ longest_tick → last ≤ moment_limit + longest_tick * count → moment_after tick last op ≤ moment_limit + longest_tick * (count + 1)
bound_more tick last count (Clock moment) lawful short bound = omega arith
bound_more tick last count (Put key bytes) lawful short bound = omega arith
bound_more tick last count (Get key) lawful short bound = omega arith
bound_more tick last count (GetRange key from len) lawful short bound = omega arith
bound_more tick last count (Delete key) lawful short bound = omega arith
bound_more tick last count (RootPage after limit) lawful short bound = omega arith
bound_more tick last count (BlockPage ulid after limit) lawful short bound = omega arith

-- a failure is counted
count_failed : (failed : Bool) (old new before : ℕ) → old ≤ new → (IsTrue failed → Rose old new) → before ≤ old → before < 1048576 → before + cond failed 1 0 ≤ new
count_failed true old new before later cause counted few = omega (arith, cause refl)
count_failed false old new before later cause counted few = omega arith

-- what stands after one more entry
stands_more : (entries : List Entry) (e : Entry) → stands (entries ++ e ∷ []) ≡ left_by e.op e.reply (stands entries)
stands_more entries e = fold-append (λ c x. left_by x.op x.reply c) nothing entries (e ∷ [])

-- a journal stays true of its bucket
true_more : (old new : Option Contents) (entries : List Entry) (e : Entry) → IfSome old (λ c. IsTrueOf c entries) → IfSome old (λ c. Tells c e.op e.reply) → new ≡ option_map (left_by e.op e.reply) old → IfSome new (λ c. IsTrueOf c (entries ++ e ∷ []))
true_more None new entries e is_true told left = rw left tt
true_more (Some c) new entries e is_true told left =
    rw left (record {
      honest = Each-push (λ before x. Tells (stands before) x.op x.reply) entries e is_true.honest (subst (λ d. Tells d e.op e.reply) is_true.held told);
      held = ap (λ d. left_by e.op e.reply d) is_true.held ∙ sym (stands_more entries e);
    })

still_true : (old new : Option Contents) (entries : List Entry) → IfSome old (λ c. IsTrueOf c entries) → new ≡ option_map (λ c. c) old → IfSome new (λ c. IsTrueOf c entries)
still_true None new entries is_true left = rw left tt
still_true (Some c) new entries is_true left = rw left is_true

module _ {B : Type 0} (tells : B → BucketTold) (old_bucket new_bucket : B) (old new : List Entry) (tick last kept moment size : ℕ) (seat : ℕ) (op : Op) (seen : Seen) where
  -- a world after one more entry
  pub sound_more : IsCountedWorld tells old_bucket old tick last kept → length old < 1048576 → IsLawful op → IsReplyTo op seen.reply → PutsBytes op → ShowsBytes seen.reply → seen.seq ≡ length old + 1 → seen.moment.ms ≡ moment → moment ≡ moment_after tick (last_moment old) op → moment < 2 ^ 48 → size ≡ min (min (kept + bytes_put op) 18446744073709551615 + min (bytes_told seen.reply) 18446744073709551615) 18446744073709551615 → (tells old_bucket).faults ≤ (tells new_bucket).faults → (IsTrue (has_failed seen.reply) → Rose (tells old_bucket).faults (tells new_bucket).faults) → IfSome (tells old_bucket).contents (λ c. Tells c op seen.reply) → (tells new_bucket).contents ≡ option_map (left_by op seen.reply) (tells old_bucket).contents → new ≡ old ++ entry_of seat op seen ∷ [] → IsCountedWorld tells new_bucket new tick moment size
  sound_more sound few lawful kind puts shows seq is_moment follows small is_size later cause told left added =
      let e = entry_of seat op seen in
      let longer = length-append old (e ∷ []) in
      let counted = sound.counted in
      let journal = sound.world.journal in
      subst (λ entries. IsCountedWorld tells new_bucket entries tick moment size) (sym added)
      (record {
        counted = record {
          short = counted.short;
          latest = sym is_moment ∙ sym (last_more old e);
          bound = let b = bound_more tick last (length old) op lawful counted.short counted.bound in let m = follows ∙ ap (λ n. moment_after tick n op) (sym counted.latest) in omega (arith, b, m, longer);
          size = omega (arith, counted.size, is_size, kept_more old e);
        };
        world = record {
          journal = record {
            few = omega (arith, longer);
            numbered = Each-push (λ before x. x.seq ≡ length before + 1) old e journal.numbered seq;
            lawful = Each-push (λ before x. IsLawful x.op) old e journal.lawful lawful;
            kinds = Each-push (λ before x. IsReplyTo x.op x.reply) old e journal.kinds kind;
            moments = Each-push (λ before x. x.moment.ms ≡ moment_after tick (last_moment before) x.op) old e journal.moments (is_moment ∙ follows);
            small = Each-push (λ before x. x.moment.ms < 2 ^ 48) old e journal.small (omega arith);
          };
          bytes = Each-push (λ before x. PutsBytes x.op × ShowsBytes x.reply) old e sound.world.bytes (puts, shows);
          failures = let f = count_failed (has_failed seen.reply) (tells old_bucket).faults (tells new_bucket).faults (count_by (λ x. has_failed x.reply) old) later cause sound.world.failures (omega (arith, count_by-le-length (λ x. has_failed x.reply) old)) in omega (arith, f, failed_more old e);
          honest = true_more (tells old_bucket).contents (tells new_bucket).contents old e sound.world.honest told left;
        };
      })

-- a world whose bucket alone went on
pub sound_later : {B : Type 0} (tells : B → BucketTold) (old_bucket new_bucket : B) (old new : List Entry) (tick last kept : ℕ) → IsCountedWorld tells old_bucket old tick last kept → (tells old_bucket).faults ≤ (tells new_bucket).faults → (tells new_bucket).contents ≡ option_map (λ c. c) (tells old_bucket).contents → new ≡ old → IsCountedWorld tells new_bucket new tick last kept
sound_later tells old_bucket new_bucket old new tick last kept sound later left same =
    subst (λ entries. IsCountedWorld tells new_bucket entries tick last kept) (sym same)
    (record {
      counted = sound.counted;
      world = record {
        journal = sound.world.journal;
        bytes = sound.world.bytes;
        failures = omega (arith, sound.world.failures);
        honest = still_true (tells old_bucket).contents (tells new_bucket).contents old sound.world.honest left;
      };
    })

-- a journal that is not full has room for an entry
pub room : (full : Bool) (entries : List Entry) → (IsTrue full ↔ IsFull entries) → full ≡ false → length entries < 1048576
room full entries iff is_false = let never : 1048576 ≤ length entries → ⊥ = λ h. let yes = iff.1 (inl h) in cc in omega (arith, never)
