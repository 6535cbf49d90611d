-- What a page of names leads to in a walk.
use Rattle.std.proofs.Common.{◌≡◌, ℕ, zero, suc, ◌+◌, ◌<◌, ◌≤◌, Bool, true, false, List, [], ◌++◌, length, refl, sym, ◌∙◌, ap, subst, Option, Some, arith, length-append}
use Rattle.std.specs.Prelude.{nat_lt, nat_le}
use Rattle.base.specs.Order.{are_in_order_after, comes_after}
use Rattle.label_sets.specs.Labels.{compare_texts}
use Rattle.world_core.specs.Limits.{most_listed}
use Rattle.world_core.specs.Plans.{Plan, Runs, ends, choose}
use Rattle.world_core.specs.Walks.{after_page, last_listed}
use Rattle.world_core.specs.declared.reply.Reply.{Reply}
use Rattle.world_core.specs.declared.reply.Reply.TheVariants as reply
use Rattle.world_core.specs.declared.entry.Entry.{Entry}
use Rattle.cleaner.specs.Pages.{page_by, page_of}
use Rattle.cleaner.specs.Cleanings.{walk_ends}
use Rattle.cleaner.specs.CleanStates.{AreListed}
use Rattle.cleaner.specs.declared.walk.Page.{Page}
use Rattle.cleaner.specs.declared.walk.Page.TheVariants as page_is
use Rattle.cleaner.specs.declared.walk.Walk.{Walk}
use Rattle.cleaner.specs.declared.clean.CleanEnd.{CleanEnd}
use Rattle.cleaner.specs.declared.clean.CleanEnd.TheVariants.{Damaged, Fault, TooMany}
use Rattle.world_core.proofs.PageNames.{last_listed-append}
use Rattle.world_core.proofs.LeadSteps.{ended}

-- what follows a page that is such
abbrev pub followed : Page → ℕ → Plan CleanEnd → Plan CleanEnd → Plan CleanEnd
followed page_is.Unordered seq last more = ends (Damaged seq)
followed page_is.Last seq last more = last
followed page_is.TooMany seq last more = ends TooMany
followed page_is.Full seq last more = more

by_tests : (up short many : Bool) (seq : ℕ) (last more : Plan CleanEnd) (entries : List Entry) (end : Option CleanEnd)
    → Runs (followed (page_by up short many) seq last more) entries end
    → Runs (choose up (choose short last (choose many (ends TooMany) more)) (ends (Damaged seq))) entries end
by_tests false short many seq last more entries end run = run
by_tests true true many seq last more entries end run = run
by_tests true false true seq last more entries end run = run
by_tests true false false seq last more entries end run = run

-- it is the page that the walk makes of it
pub page_follows : {A : Type 0} (read : List (List ℕ) → List A) (kept : List A) (limit seq : ℕ) (walk : Walk) (names page : List (List ℕ)) (left : ℕ) (next others : List (List ℕ) → Plan CleanEnd) (kind : Page) (entries : List Entry) (end : Option CleanEnd)
    → AreListed walk read kept names left → kind ≡ page_of limit walk.listed walk.last page
    → Runs (followed kind seq (next (names ++ page)) (others (names ++ page))) entries end
    → Runs (after_page walk_ends limit names seq (reply.Names page) next others) entries end
page_follows read kept limit seq walk names page left next others kind entries end listed is run =
    let all : length (names ++ page) ≡ walk.listed + length page = length-append names page ∙ ap (λ n. n + length page) listed.many in
    let same : page_of limit walk.listed walk.last page ≡ page_by (are_in_order_after (comes_after compare_texts) (last_listed names) page) (nat_lt (length page) limit) (nat_le most_listed (length (names ++ page))) =
    ap (λ l. page_by (are_in_order_after (comes_after compare_texts) l page) (nat_lt (length page) limit) (nat_le most_listed (walk.listed + length page))) (sym listed.ends)
    ∙ ap (λ n. page_by (are_in_order_after (comes_after compare_texts) (last_listed names) page) (nat_lt (length page) limit) (nat_le most_listed n)) (sym all) in
    by_tests (are_in_order_after (comes_after compare_texts) (last_listed names) page) (nat_lt (length page) limit) (nat_le most_listed (length (names ++ page))) seq (next (names ++ page)) (others (names ++ page)) entries end
    (subst (λ k. Runs (followed k seq (next (names ++ page)) (others (names ++ page))) entries end) (is ∙ same) run)

-- the page came
pub page_came : (limit seq : ℕ) (names page : List (List ℕ)) (next others : List (List ℕ) → Plan CleanEnd) (given : Reply) (entries : List Entry) (end : Option CleanEnd) → given ≡ reply.Names page
    → Runs (after_page walk_ends limit names seq (reply.Names page) next others) entries end → Runs (after_page walk_ends limit names seq given next others) entries end
page_came limit seq names page next others given entries end is run = subst (λ r. Runs (after_page walk_ends limit names seq r next others) entries end) (sym is) run

-- the call failed
pub page_failed : (limit seq : ℕ) (names : List (List ℕ)) (next others : List (List ℕ) → Plan CleanEnd) (given : Reply) (landed : Bool) → given ≡ reply.Failed landed
    → Runs (after_page walk_ends limit names seq given next others) [] (Some (Fault seq))
page_failed limit seq names next others given landed is =
    subst (λ r. Runs (after_page walk_ends limit names seq r next others) [] (Some (Fault seq))) (sym is) (ended (Fault seq))

-- the walk after a page that another follows
pub record WalksOn {A : Type 0} (new : Walk) (read : List (List ℕ) → List A) (kept : List A) (names : List (List ℕ)) (left : ℕ) : Type 0 where
  pub one_less : ℕ
  pub is : left ≡ suc one_less
  pub listed : AreListed new read kept names one_less

pub walks_on : {A : Type 0} (read : List (List ℕ) → List A) (before kept : List A) (walk new : Walk) (names page : List (List ℕ)) (left : ℕ) → AreListed walk read before names left → read (names ++ page) ≡ kept
    → new.listed ≡ walk.listed + length page → new.listed < 1_000_000 → 0 < length page → new.last ≡ last_listed page
    → WalksOn new read kept (names ++ page) left
walks_on {A} read before kept walk new names page left listed reads counted few some last =
    let both : length (names ++ page) ≡ length names + length page = length-append names page in
    let many : length (names ++ page) ≡ new.listed = both ∙ ap (λ n. n + length page) listed.many ∙ sym counted in
    less left listed.enough both many
  where
    less : (left : ℕ) → 1_000_000 ≤ length names + suc left → length (names ++ page) ≡ length names + length page → length (names ++ page) ≡ new.listed → WalksOn new read kept (names ++ page) left
    less zero enough both many = absurd (omega (arith, enough, both, many, few, some))
    less (suc n) enough both many = record {
      one_less = n;
      is = refl;
      listed = record {
        many = many;
        ends = last_listed-append names page some ∙ sym last;
        reads = reads;
        few = omega (arith, many, few);
        enough = omega (arith, enough, both, some);
      };
    }
