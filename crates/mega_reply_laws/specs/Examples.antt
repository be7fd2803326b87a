-- A client that asks twice under one token, at a node alone to which nothing else comes.
use Rattle.std.specs.Prelude.{ℕ, List, [], ◌∷◌, Some}
use Rattle.mega_wire.specs.Messages.{message_text}
use Rattle.mega_outcome.specs.declared.answer.Answer.TheVariants.{TimedOut}
use Rattle.mega_promises.specs.of_transcript.Answers.{answer_words}
use Rattle.mega_promises.specs.of_rules.Examples.{schema}
use Rattle.mega_promises.specs.Served.{Line, OfClient, Served, Turn, reply_line, served}
use Rattle.mega_promises.specs.Worked.{asked_by, op, short_log, wish_put}
use Rattle.mega_reply_laws.specs.Requests.{Asked, RequestState, Ended, Opened}

-- a turn that brings a request of the first client, under token 7
abbrev pub asks : ℕ → Turn
asks clock = record { handlers = []; clock = clock; datagram = Some (OfClient 1, message_text (asked_by 1 7).1) }

abbrev pub run : List Turn → Served
run turns = served short_log 1 wish_put [] [] turns

abbrev pub asked : RequestState → Asked
asked came = record { client = 1; token = 7; came = came }

-- the first operation of the node's first start, and the second
abbrev pub opened : ℕ → Asked
opened number = asked (Opened (op 1 1 number))

abbrev pub timed_out : ℕ → Asked
timed_out number = asked (Ended (op 1 1 number) TimedOut)

abbrev pub told_so : Line
told_so = reply_line 1 1 7 (answer_words schema TimedOut)

-- both wait; then the patience of the first is over, and then that of the second
abbrev pub both : List Turn
both = asks 5 ∷ asks 6 ∷ []
