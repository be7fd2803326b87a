-- What a log entered and handled.
use Rattle.std.specs.Prelude.{◌||◌, ◌++◌, Bool, true, false, not, List, [], ◌∷◌, filter, Option, Some, None}
use Rattle.mega_entry.specs.declared.content.Content.{Content}
use Rattle.mega_entry.specs.declared.content.Enter.{Enter}
use Rattle.mega_entry.specs.declared.content.Name.{Name}
use Rattle.mega_rules.specs.Queues.{entered_in, handled_in, is_named, names_entered}
use Rattle.mega_queues.specs.declared.mailbox.Mailbox.{Mailbox}
use Rattle.mega_queues.specs.Named.{is_known, names_of}

-- which messages are entered, which are handled, and those that are entered and not handled, the oldest first
pub record Mail : Type 0 where
  pub entered : Name → Bool
  pub handled : Name → Bool
  pub waiting : List Enter

abbrev pub no_mail : Mail
no_mail = record { entered = λ name. false; handled = λ name. false; waiting = [] }

-- a message is not among those that are handled
abbrev pub is_left : List Name → Enter → Bool
is_left handled message = not (is_named message.name handled)

-- the mail of a log
abbrev pub mail_of : List Content → Mail
mail_of entries = record {
  entered = λ name. is_named name (names_entered entries);
  handled = λ name. is_named name (handled_in entries);
  waiting = filter (is_left (handled_in entries)) (entered_in entries);
}

-- the mail with what an entry enters and handles
abbrev pub with_marks : List Enter → List Name → Mail → Mail
with_marks enters handles mail = record {
  entered = λ name. mail.entered name || is_named name (names_of enters);
  handled = λ name. mail.handled name || is_named name handles;
  waiting = filter (is_left handles) mail.waiting ++ filter (λ (message : Enter). not (mail.handled message.name || is_named message.name handles)) enters;
}

abbrev pub with_entry : Content → Mail → Mail
with_entry entry mail = with_marks entry.enters entry.handles mail

-- what a mailbox shows
abbrev pub seen : Mailbox → Mail
seen box = record { entered = is_known box.entered; handled = is_known box.handled; waiting = box.waiting.items }

abbrev pub first_of : List Enter → Option Enter
first_of [] = None
first_of (message ∷ messages) = Some message

abbrev pub only_if : Bool → Enter → List Enter
only_if true message = message ∷ []
only_if false message = []
