use Rattle.rankings.proofs.Orders.{strict_order}
use Rattle.rankings.proofs.ahead.is_ahead.Goals as goal

pub returns-clause-order : goal.returns-clause-order
returns-clause-order g c = strict_order _ _ (g.met.R.Ranking.one_way _ _) (g.met.R.Ranking.through _ _)
