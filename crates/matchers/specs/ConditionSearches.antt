-- What a searcher asks of values.
use Rattle.matchers.specs.declared.condition.Condition.{Condition}
use Rattle.matchers.specs.declared.condition.Condition.TheVariants as conditions
use Rattle.matchers.specs.declared.condition_searcher.ConditionSearcher.{ConditionSearcher}
use Rattle.matchers.specs.declared.condition_searcher.ConditionSearcher.TheVariants.{Equal, NotEqual, Matches, MatchesNot}

-- the condition that it is a searcher of
abbrev pub condition_asked : ConditionSearcher → Condition
condition_asked (Equal asked) = conditions.Equal asked.now
condition_asked (NotEqual asked) = conditions.NotEqual asked.now
condition_asked (Matches searcher) = conditions.Matches searcher
condition_asked (MatchesNot searcher) = conditions.MatchesNot searcher
