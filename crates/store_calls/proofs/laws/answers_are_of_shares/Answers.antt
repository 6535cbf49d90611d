use Rattle.store_calls.proofs.SharesOf.{answered}
use Rattle.store_calls.proofs.laws.answers_are_of_shares.Goals as goal

pub returns : goal.returns
returns c = record {
  shares = λ view query before after entries series sources run.
      let is = answered view query before after entries series sources run in (is.shares, is.are, is.merged);
  ascend = λ view query before after entries series sources run. (answered view query before after entries series sources run).ascend;
}
