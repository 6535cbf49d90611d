use Rattle.std.proofs.Common.{◌∙◌, sym, ap, None}
use Rattle.base.specs.Order.{are_in_order_after, comes_after}
use Rattle.label_sets.specs.Labels.{compare_texts}
use Rattle.meta_fetcher.proofs.Pages.{first_damaged, first_failed, first_page}
use Rattle.meta_fetcher.proofs.sync.Sync.after_first_page.Goals as goal

pub returns-then-ascends-clause-leads : goal.returns-then-ascends-clause-leads
returns-then-ascends-clause-leads c = λ seat op.
    first_page c.args.self.now seat op c.args.seen c.in-Names.names c.take_names.result c.take_names.new.self c.in-Names.is
    (ap (are_in_order_after (comes_after compare_texts) None) (sym c.members.ensures) ∙ sym c.ascends.ensures ∙ c.if-ascends.true) c.take_names.ensures.leads

pub returns-in-Names-clause-leads : goal.returns-in-Names-clause-leads
returns-in-Names-clause-leads c = λ seat op.
    first_damaged c.args.self.now seat op c.args.seen c.in-Names.names c.in-Names.is
    (ap (are_in_order_after (comes_after compare_texts) None) (sym c.members.ensures) ∙ sym c.ascends.ensures ∙ c.if-ascends.false)

pub returns-in-Failed-clause-leads : goal.returns-in-Failed-clause-leads
returns-in-Failed-clause-leads c = λ seat op. first_failed c.args.self.now seat op c.args.seen _ c.in-Failed.is
