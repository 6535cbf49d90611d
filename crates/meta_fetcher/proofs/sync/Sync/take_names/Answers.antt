use Rattle.std.proofs.Common.{◌≡◌, ◌∙◌, ◌+◌, ◌<◌, ◌++◌, refl, sym, ap, arith, length, Some, false}
use Rattle.std.specs.Prelude.{nat_lt}
use Rattle.std.proofs.lemmas.Bool.{ltb-false}
use Rattle.world_core.specs.Walks.{last_listed, ulids_in}
use Rattle.world_core.specs.declared.op.Op.TheVariants as op
use Rattle.meta_fetcher.specs.SyncStates.{goes_by_names}
use Rattle.meta_fetcher.proofs.Pages.{last_page, full_page, last_page_falls, full_page_falls, too_many_names}
use Rattle.world_core.proofs.LeadSteps.{falls_more}
use Rattle.meta_fetcher.proofs.Steps.{leads_as}
use Rattle.meta_fetcher.proofs.sync.Sync.take_names.Goals as goal

pub returns-then-is_short-clause-leads : goal.returns-then-is_short-clause-leads
returns-then-is_short-clause-leads c =
    leads_as _ (goes_by_names c.args.self.now c.args.names.now) c.read_next.result c.read_next.new.self
    (λ entries end run. last_page c.args.self.now c.args.names.now c.add_ulids.new.ulids.items entries end (c.in_ok-add_ulids.ensures ∙ ap (λ l. c.args.self.now.waiting.items ++ ulids_in l) c.members.ensures)
    (ap (λ n. nat_lt n c.args.self.now.rules.page_limit) (sym c.len.ensures) ∙ sym c.is_short.ensures.value ∙ c.if-is_short.true) run)
    c.read_next.ensures.leads

pub returns-then-is_short-clause-falls : goal.returns-then-is_short-clause-falls
returns-then-is_short-clause-falls c =
    let short : c.len.result < 4294967296 = c.if-is_short.ensures.few refl in
    falls_more _ _ c.read_next.result _ (last_page_falls c.args.self.now c.args.names.now c.add_ulids.new.ulids.items (c.in_ok-add_ulids.ensures ∙ ap (λ l. c.args.self.now.waiting.items ++ ulids_in l) c.members.ensures)
    (omega (arith, short, c.len.ensures))) c.read_next.ensures.falls

pub returns-then-self-ge-MOST_LISTED-clause-leads : goal.returns-then-self-ge-MOST_LISTED-clause-leads
returns-then-self-ge-MOST_LISTED-clause-leads c =
    too_many_names c.args.self.now c.args.names.now c.saturating_add-self.result
    (ap (λ n. nat_lt n c.args.self.now.rules.page_limit) (sym c.len.ensures) ∙ sym c.is_short.ensures.value ∙ c.if-is_short.false)
    (omega (arith, c.saturating_add-self.ensures, c.len-2.ensures)) c.if-self-ge-MOST_LISTED.true

pub returns-clause-leads : goal.returns-clause-leads
returns-clause-leads c =
    let full : nat_lt c.len.result c.args.self.now.rules.page_limit ≡ false = sym c.is_short.ensures.value ∙ c.if-is_short.false in
    let counted : c.saturating_add-self.result ≡ c.args.self.now.listed + length c.args.names.now = omega (arith, c.saturating_add-self.ensures, c.len-2.ensures, c.if-self-ge-MOST_LISTED.false) in
    record {
      lawful = c.args.self.now.limit;
      asks = ap (λ cursor. Some (op.RootPage cursor c.args.self.now.rules.page_limit)) (sym c.in_ok-copy.ensures);
      onward = λ entries end run. full_page c.args.self.now c.args.names.now c.add_ulids.new.ulids.items c.saturating_add-self.result c.in_ok-self.field-0 entries end
          (c.in_ok-add_ulids.ensures ∙ ap (λ l. c.args.self.now.waiting.items ++ ulids_in l) c.members.ensures)
          (ap (λ n. nat_lt n c.args.self.now.rules.page_limit) (sym c.len.ensures) ∙ sym c.is_short.ensures.value ∙ c.if-is_short.false)
          (omega (arith, ltb-false _ _ full, c.len.ensures, c.args.self.now.limit)) counted c.if-self-ge-MOST_LISTED.false (ap last_listed (sym c.members-2.ensures) ∙ c.in_ok-self.ensures) run;
    }

pub returns-clause-falls : goal.returns-clause-falls
returns-clause-falls c =
    let full : nat_lt c.len.result c.args.self.now.rules.page_limit ≡ false = sym c.is_short.ensures.value ∙ c.if-is_short.false in
    let counted : c.saturating_add-self.result ≡ c.args.self.now.listed + length c.args.names.now = omega (arith, c.saturating_add-self.ensures, c.len-2.ensures, c.if-self-ge-MOST_LISTED.false) in
    full_page_falls c.args.self.now c.args.names.now c.add_ulids.new.ulids.items c.saturating_add-self.result (c.in_ok-add_ulids.ensures ∙ ap (λ l. c.args.self.now.waiting.items ++ ulids_in l) c.members.ensures)
    (omega (arith, ltb-false _ _ full, c.len.ensures, c.args.self.now.limit)) counted c.if-self-ge-MOST_LISTED.false
