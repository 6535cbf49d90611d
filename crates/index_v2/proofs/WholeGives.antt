-- What is read by `whole_at` is what reading a whole index gives.
use Rattle.std.proofs.Common.{◌≡◌, ◌⊎◌, ◌*◌, ◌≤◌, ◌∙◌, List, [], Result, length, sum_by, ap, sym, subst}
use Rattle.std.specs.Prelude.{IfOk}
use Rattle.base.specs.Reading.{Gives}
use Rattle.base.specs.Grammar.{IsBytes}
use Rattle.index_parts.specs.declared.refusal.PartRefusal.TheVariants.{Short}
use Rattle.index_parts.proofs.ListLaws.{found_from, only_from}
use Rattle.index_parts.specs.declared.index_series.IndexSeries.{IndexSeries}
use Rattle.index_parts.specs.IndexFile.{IsIndex}
use Rattle.index_v2.specs.declared.refusal.IndexRefusal.{IndexRefusal}
use Rattle.index_v2.specs.declared.refusal.IndexRefusal.TheVariants.{NoMemory, BadSeries}
use Rattle.index_v2.specs.Held.{Held, IsWhole, opened_of}
use Rattle.index_v2.specs.Sizes.{members_of}
use Rattle.index_v2.specs.WholeReading.{whole_at}
use Rattle.index_v2.specs.WholeGiven.{GivesWhole}
use Rattle.index_v2.proofs.SeriesSlices.{refused_or_none}
use Rattle.index_v2.proofs.HeldLaws.{whole_is, whole_or_none, opened_whole, whole_same, whole_absent}
use Rattle.index_v2.proofs.FewLaws.{if_ok, whole_few}
use Rattle.index_v2.proofs.SeriesApart.{whole_bounded}
use Rattle.index_v2.proofs.WholeRead.{whole_found, whole_again, differ_found, differ_again, differ_from, differing_from}

abbrev Reads : Result (List IndexSeries) IndexRefusal → Held → Type 0
Reads r held = Gives NoMemory (λ xs. xs) r (whole_at held)

index_found : (h : Held) (r : Result (List IndexSeries) IndexRefusal) → IsBytes h.bytes → Reads r h → IsWhole h → IfOk r (λ list. IsIndex h.bytes list)
index_found h r bytes exact is =
    found_from (IsIndex h.bytes) NoMemory (λ xs. xs) r _ (λ list e. whole_found (opened_of h) bytes is.is_opened list (ap whole_at (sym (whole_is h is)) ∙ e)) exact

pub gives_whole : (h : Held) (r : Result (List IndexSeries) IndexRefusal) → IsWhole h ⊎ (h.bytes ≡ []) → IsBytes h.bytes → Reads r h → GivesWhole h r
gives_whole h r kind bytes exact = record {
  found = index_found h r bytes exact;
  only = λ list index. let is = whole_or_none h kind list index in only_from NoMemory (λ (xs : List IndexSeries). xs) r (whole_at h) list (ap whole_at (whole_is h is) ∙ whole_again (opened_of h) _ bytes (opened_whole h is) index) exact;
  differs = λ is place told. differ_found (opened_of h) bytes is.is_opened place (ap whole_at (sym (whole_is h is)) ∙ differ_from _ r _ _ exact told);
  differing = λ is place differs. differing_from (λ (xs : List IndexSeries). xs) r (whole_at h) place exact (ap whole_at (whole_is h is) ∙ differ_again _ bytes is.is_opened _ differs);
  exact = exact;
  absent = λ number numbers none listed present. refused_or_none (λ xs. xs) r (whole_at h) (BadSeries number (Short (16 * number))) (whole_absent h _ _ none listed present) exact;
  same = λ opened held lie none. subst (λ read. Gives NoMemory (λ xs. xs) r read) (whole_same h _ held lie none) exact;
  bounded = found_from (λ list. sum_by members_of list ≤ length h.bytes) NoMemory (λ xs. xs) r _ (λ list e. whole_bounded h list bytes e) exact;
  few = λ is. if_ok _ _ r (λ list index. whole_few _ list index) (index_found h r bytes exact is);
}
