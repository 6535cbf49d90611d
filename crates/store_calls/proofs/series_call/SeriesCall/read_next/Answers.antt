use Rattle.std.proofs.Common.{rules}
use Rattle.std.proofs.lemmas.List.{take_rest}
use Rattle.store_ranges.specs.Caches.{held}
use Rattle.store_calls.proofs.Steps.{next_leads}
use Rattle.store_calls.proofs.series_call.SeriesCall.read_next.Goals as goal

pub returns-in-len1-up-clause-leads : goal.returns-in-len1-up-clause-leads
returns-in-len1-up-clause-leads c =
    next_leads c.args.self.now c.from_first_meeting.result.now _ c.block-item.result (held c.args.cache) c.begin.result c.begin.new.self c.from_first_meeting.ensures.same
    c.from_first_meeting.ensures.first c.in-len1-up.len_at_least c.block-item.is c.begin.ensures.leads (search (rules, take_rest))
