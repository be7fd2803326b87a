use Rattle.mega_tape_laws.proofs.GrowingTexts.{continues, nicknamed_declared, users_declared}
use Rattle.mega_tape_laws.proofs.growing.a_nickname_extends_users.Goals as goal

pub returns-clause-before : goal.returns-clause-before
returns-clause-before c = users_declared

pub returns-clause-after : goal.returns-clause-after
returns-clause-after c = nicknamed_declared

pub returns-clause-continues : goal.returns-clause-continues
returns-clause-continues c = continues
