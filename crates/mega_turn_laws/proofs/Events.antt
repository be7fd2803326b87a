-- What a datagram brings is of the format.
use Rattle.std.proofs.Common.{◌≡◌, ℕ, ◌<◌, ◌^◌, ◌==◌, ◌&&◌, Bool, true, false, cond, List, Option, Some, None, Result, Ok, Err, refl, arith}
use Rattle.mega_base.specs.Reading.{whole_of}
use Rattle.mega_base.specs.Whole.{whole_found}
use Rattle.mega_wire.specs.declared.message.Message.{Message}
use Rattle.mega_wire.specs.declared.message.Body.{Body}
use Rattle.mega_wire.specs.declared.message.Body.TheVariants.{Request as Requests}
use Rattle.mega_wire.specs.Messages.{IsMessage, OpensMessage, message_at, message_text}
use Rattle.mega_wire.specs.MessageLaws.{message_codec}
use Rattle.mega_schema.specs.declared.schema.Schema.{Schema}
use Rattle.mega_schedule.specs.declared.asking.Ask.{Ask}
use Rattle.mega_schedule.specs.Asking.{asked_of}
use Rattle.mega_outcome.specs.declared.request.Request.{Request}
use Rattle.mega_rules.specs.Steps.{Begin, Event, Take}
use Rattle.mega_format_laws.specs.Nodes.{IsEvent}
use Rattle.mega_format_laws.specs.Requests.{IsRequest}
use Rattle.mega_line_laws.proofs.Clients.{client_asked}
use Rattle.mega_promises.specs.Runs.{names_nothing}
use Rattle.mega_promises.specs.Served.{OfClient, OfNode, Peer, is_from}
use Rattle.mega_serve.specs.Turns.{IfSome, brought_by, event_in, message_event, requested_event, wished_event}
use Rattle.mega_serve.specs.Wishes.{wish_in, wish_of}

module _ (schema : Schema) (me : ℕ) (small : me < 2 ^ 64) where
  wished : (json : List ℕ) (r : Result Ask ℕ) → asked_of schema me json ≡ r → IfSome IsEvent (wished_event (wish_in r))
  wished json (Err reason) is = tt
  wished json (Ok ask) is = by (names_nothing ask.request)
    where
      by : (t : Bool) → IfSome IsEvent (cond t None (Some (Begin ask.request ask.text)))
      by true = tt
      by false = client_asked schema me json ask small is

  requested : (body : Body) → IfSome IsEvent (requested_event (wish_of schema me) body)
  requested (Requests token json) = wished json (asked_of schema me json) refl
  requested _ = tt

  came : (from : Peer) (m : Message) → IsMessage m → IfSome IsEvent (message_event (wish_of schema me) from m)
  came (OfNode node) m is = is
  came (OfClient client) m is = requested m.body

  brought : (from : Peer) (bytes : List ℕ) (r : Result Message ℕ) → whole_of message_at bytes ≡ r → IfSome IsEvent (brought_by me (wish_of schema me) from r)
  brought from bytes (Err at) is = tt
  brought from bytes (Ok m) is = by (is_from from m.from && m.to == me)
    where
      by : (t : Bool) → IfSome IsEvent (cond t (message_event (wish_of schema me) from m) None)
      by true = came from m (whole_found message_at message_text OpensMessage IsMessage message_codec bytes m is).0
      by false = tt

  pub event_formed : (datagram : Option (Peer × List ℕ)) → IfSome IsEvent (event_in me (wish_of schema me) datagram)
  event_formed None = tt
  event_formed (Some one) = brought one.0 one.1 (whole_of message_at one.1) refl
