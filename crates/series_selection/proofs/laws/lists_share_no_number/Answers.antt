use Rattle.series_selection.proofs.ListsApart.{no_more_than_all}
use Rattle.series_selection.proofs.laws.lists_share_no_number.Goals as goal

pub returns : goal.returns
returns c = λ bytes list is external matcher numbers e. no_more_than_all bytes list is matcher external numbers e
