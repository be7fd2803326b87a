use Rattle.mega_format_laws.proofs.Replies.{acquires_at_formed, background_formed, news_formed, reply_formed}
use Rattle.mega_format_laws.proofs.laws.replies_are_of_the_format.Goals as goal

pub returns-clause-replies : goal.returns-clause-replies
returns-clause-replies c = reply_formed

pub returns-clause-news : goal.returns-clause-news
returns-clause-news c = news_formed

pub returns-clause-background : goal.returns-clause-background
returns-clause-background c = background_formed

pub returns-clause-acquires : goal.returns-clause-acquires
returns-clause-acquires c = acquires_at_formed
