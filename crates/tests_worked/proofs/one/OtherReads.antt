-- The runs of the script of one block in which the reads of the index are answered otherwise.
use Rattle.std.proofs.Common.{◌≡◌, ◌+◌, ◌^◌, ◌<◌, List, [], ◌∷◌, length, Contains, All, Some, Err, false, inr, refl, lit<, lit≤}
use Rattle.std.proofs.lemmas.List.Elements.{All-from_recursion}
use Rattle.block_keys.specs.declared.key.Key.TheVariants as key
use Rattle.world_core.specs.Moments.{moment_after, last_moment}
use Rattle.world_core.specs.Operations.{IsLawful, IsReplyTo}
use Rattle.world_core.specs.Standing.{stands, Tells, IsHonest}
use Rattle.world_core.specs.Worlds.{IsJournal}
use Rattle.world_core.specs.declared.entry.Entry.{Entry}
use Rattle.world_core.specs.declared.op.Op.TheVariants as op
use Rattle.world_core.specs.declared.reply.Reply.{Reply}
use Rattle.world_core.specs.declared.reply.Reply.TheVariants as reply
use Rattle.index_parts.specs.declared.refusal.PartRefusal.TheVariants as part
use Rattle.index_v2.specs.Opening.{contents_at, opened_at}
use Rattle.index_v2.specs.declared.refusal.IndexRefusal.TheVariants.{BadSection}
use Rattle.store_ranges.specs.Reads.{damaged, fault}
use Rattle.store_calls.specs.SeriesCalls.{CallEnd, broke}
use Rattle.store_calls.specs.declared.series_call.SeriesEnd.{SeriesEnd}
use Rattle.store_calls.specs.declared.series_call.SeriesEnd.TheVariants as called
use Rattle.lifecycle_core.specs.Causes.{AreUndamaged, AreWell, SomeCame}
use Rattle.lifecycle_core.specs.Holdings.{empty_cache}
use Rattle.lifecycle_core.specs.Phases.{IsFinished, IsRunOf}
use Rattle.lifecycle_core.specs.Tasks.{QueryTask, answered}
use Rattle.tests_worked.specs.SmallBlock as small
use Rattle.tests_worked.specs.OneBlock as one
use Rattle.tests_worked.specs.OtherReads as other
use Rattle.tests_worked.proofs.small.Bucket.{page, shows_meta, shows_no_mark}
use Rattle.tests_worked.proofs.small.Each.{each_of}
use Rattle.tests_worked.proofs.one.OneBlock.{finished_by, holding, run_by}
use Rattle.tests_worked.proofs.small.SmallCalls.{question}

abbrev one_read : Reply → List Entry
one_read reply = other.index_read reply ∷ []

read_seat : (reply : Reply) → All (λ (e : Entry). Contains (2 ∷ []) e.seat) (one_read reply)
read_seat reply = All-from_recursion (λ (e : Entry). Contains (2 ∷ []) e.seat) (one_read reply) ((0, lit< tt, refl), tt)

kept_with : (reply : Reply) → IsReplyTo (op.GetRange (key.Index small.a) 153 52) reply → IsJournal 1 (other.journal_with (one_read reply))
kept_with reply kind = record {
  few = lit≤ tt;
  numbered = each_of (λ before e. e.seq ≡ length before + 1) (other.journal_with (one_read reply)) (refl, (refl, (refl, (refl, (refl, (refl, (refl, (refl, (refl, (refl, tt))))))))));
  lawful = each_of (λ before e. IsLawful e.op) (other.journal_with (one_read reply)) (lit< tt, (tt, ((lit≤ tt, lit≤ tt), (tt, (tt, (lit< tt, (lit≤ tt, (tt, (tt, (tt, tt))))))))));
  kinds = each_of (λ before e. IsReplyTo e.op e.reply) (other.journal_with (one_read reply)) (tt, (tt, (tt, (tt, (tt, (tt, (tt, (tt, (tt, (kind, tt))))))))));
  moments = each_of (λ before e. e.moment.ms ≡ moment_after 1 (last_moment before) e.op) (other.journal_with (one_read reply)) (refl, (refl, (refl, (refl, (refl, (refl, (refl, (refl, (refl, (refl, tt))))))))));
  small = each_of (λ before e. e.moment.ms < 2 ^ 48) (other.journal_with (one_read reply)) (lit< tt, (lit< tt, (lit< tt, (lit< tt, (lit< tt, (lit< tt, (lit< tt, (lit< tt, (lit< tt, (lit< tt, tt))))))))));
}

-- the query came to this end by these reads, which leave nothing in the cache
abbrev Came : List Entry → SeriesEnd → Type 0
Came made came = QueryTask (Some one.used) (Some (question one.selector)) holding made (Some (answered one.used came)) holding

-- by one read alone
pub run_with : (reply : Reply) (came : SeriesEnd) → IsReplyTo (op.GetRange (key.Index small.a) 153 52) reply → Came (one_read reply) came → IsRunOf one.setting (other.journal_with (one_read reply)) (other.ends_with came)
run_with reply came kind task = run_by (one_read reply) came holding (read_seat reply) refl task (kept_with reply kind)

pub finished_with : (reply : Reply) (came : SeriesEnd) → Came (one_read reply) came → IsFinished one.setting (other.ends_with came)
finished_with reply came task = finished_by (one_read reply) came holding (read_seat reply) refl task

pub query_came : (came : SeriesEnd) → SomeCame (other.ends_with came) (answered one.used came)
query_came came = (_, _, (1, lit< tt, refl), (0, lit< tt, refl), (1, lit< tt, refl))

-- the call broke off so
abbrev pub broken : SeriesEnd → CallEnd
broken came = record { end = came; cache = empty_cache }

-- ---- where it is spoiled

no_index : opened_at [] ≡ Err (BadSection 0 (part.Short 0))
unfolding opened_at contents_at
no_index = refl

spoiled_task : Came other.spoiled_reads (called.Damaged 11)
spoiled_task = (Some (broken (called.Damaged 11)), (broke (damaged 11) empty_cache, (refl, (refl, rw no_index (refl, inr refl))), (refl, refl)), refl, refl)

spoiled_seats : All (λ (e : Entry). Contains (2 ∷ []) e.seat) other.spoiled_reads
spoiled_seats = All-from_recursion (λ (e : Entry). Contains (2 ∷ []) e.seat) other.spoiled_reads ((0, lit< tt, refl), ((0, lit< tt, refl), tt))

spoiled_kept : IsJournal 1 other.spoiled
spoiled_kept = record {
  few = lit≤ tt;
  numbered = each_of (λ before e. e.seq ≡ length before + 1) other.spoiled (refl, (refl, (refl, (refl, (refl, (refl, (refl, (refl, (refl, (refl, (refl, tt)))))))))));
  lawful = each_of (λ before e. IsLawful e.op) other.spoiled (lit< tt, (tt, ((lit≤ tt, lit≤ tt), (tt, (tt, (lit< tt, (lit≤ tt, (tt, (tt, (tt, (tt, tt)))))))))));
  kinds = each_of (λ before e. IsReplyTo e.op e.reply) other.spoiled (tt, (tt, (tt, (tt, (tt, (tt, (tt, (tt, (tt, (tt, (tt, tt)))))))))));
  moments = each_of (λ before e. e.moment.ms ≡ moment_after 1 (last_moment before) e.op) other.spoiled (refl, (refl, (refl, (refl, (refl, (refl, (refl, (refl, (refl, (refl, (refl, tt)))))))))));
  small = each_of (λ before e. e.moment.ms < 2 ^ 48) other.spoiled (lit< tt, (lit< tt, (lit< tt, (lit< tt, (lit< tt, (lit< tt, (lit< tt, (lit< tt, (lit< tt, (lit< tt, (lit< tt, tt)))))))))));
}

pub spoiled_run : IsRunOf one.setting other.spoiled other.spoiled_ends
spoiled_run = run_by other.spoiled_reads (called.Damaged 11) holding spoiled_seats refl spoiled_task spoiled_kept

pub damaged_so : ¬ AreUndamaged other.spoiled_ends
damaged_so none = none (answered one.used (called.Damaged 11)) (query_came (called.Damaged 11)) tt

-- ---- where the call fails

pub failed_run : IsRunOf one.setting other.failed other.failed_ends
failed_run = run_with (reply.Failed false) (called.Fault 10) tt (Some (broken (called.Fault 10)), (broke (fault 10) empty_cache, (refl, (refl, inr refl)), (refl, refl)), refl, refl)

pub failed_honest : IsHonest other.failed
failed_honest = each_of (λ before e. Tells (stands before) e.op e.reply) other.failed (tt, (refl, (tt, (tt, (tt, (tt, (page, (shows_no_mark, (shows_meta, (tt, tt))))))))))

pub failed_unwell : ¬ AreWell other.failed_ends
failed_unwell well = well (answered one.used (called.Fault 10)) (query_came (called.Fault 10))
