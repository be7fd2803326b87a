use Rattle.mega_served_laws.proofs.Called.{two_are_calls, two_of_schemas, two_send}
use Rattle.mega_served_laws.proofs.examples.a_promise_outlasts_its_call.Goals as goal

pub returns-clause-calls : goal.returns-clause-calls
returns-clause-calls c = two_are_calls

pub returns-clause-schemas : goal.returns-clause-schemas
returns-clause-schemas c = two_of_schemas

pub returns-clause-sends : goal.returns-clause-sends
returns-clause-sends c = two_send
