use Rattle.mega_node_laws.proofs.Acting.{acquires_at_asks, background_asks, news_ask}
use Rattle.mega_node_laws.proofs.laws.nodes_only_ask.Goals as goal

pub returns-clause-news : goal.returns-clause-news
returns-clause-news c = news_ask

pub returns-clause-background : goal.returns-clause-background
returns-clause-background c = background_asks

pub returns-clause-acquires : goal.returns-clause-acquires
returns-clause-acquires c = acquires_at_asks
