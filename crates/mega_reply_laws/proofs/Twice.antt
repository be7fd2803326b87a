-- The run in which a client asks twice under one token, computed.
use Rattle.std.proofs.Common.{◌≡◌, [], ◌∷◌, ◌++◌, refl}
use Rattle.mega_base.specs.Codec.{number_text}
use Rattle.mega_base.specs.Pairs.{pair_at}
use Rattle.mega_base.specs.Reading.{byte_in, bytes_in, bytes_of_len, digits_in, whole_of}
use Rattle.mega_wire.specs.Messages.{addressed_at, body_of, kinded_at, mark_at, message_at}
use Rattle.mega_promises.specs.Worked.{quiet, wish_put}
use Rattle.mega_reply_laws.specs.Examples.{both, opened, run, timed_out, told_so}
use Rattle.mega_reply_laws.specs.Requests.{replies, requests}

pub none_replied : replies (run both).lines ≡ []
unfolding number_text whole_of message_at mark_at byte_in kinded_at addressed_at pair_at body_of digits_in bytes_in bytes_of_len
none_replied = refl

pub both_opened : requests 1 wish_put (run both).lines ≡ opened 1 ∷ opened 2 ∷ []
unfolding number_text whole_of message_at mark_at byte_in kinded_at addressed_at pair_at body_of digits_in bytes_in bytes_of_len
both_opened = refl

pub one_replied : replies (run (both ++ quiet 1005 ∷ [])).lines ≡ told_so ∷ []
unfolding number_text whole_of message_at mark_at byte_in kinded_at addressed_at pair_at body_of digits_in bytes_in bytes_of_len
one_replied = refl

pub one_ended : requests 1 wish_put (run (both ++ quiet 1005 ∷ [])).lines ≡ timed_out 1 ∷ opened 2 ∷ []
unfolding number_text whole_of message_at mark_at byte_in kinded_at addressed_at pair_at body_of digits_in bytes_in bytes_of_len
one_ended = refl

pub two_replied : replies (run (both ++ quiet 1005 ∷ quiet 1006 ∷ [])).lines ≡ told_so ∷ told_so ∷ []
unfolding number_text whole_of message_at mark_at byte_in kinded_at addressed_at pair_at body_of digits_in bytes_in bytes_of_len
two_replied = refl

pub all_ended : requests 1 wish_put (run (both ++ quiet 1005 ∷ quiet 1006 ∷ [])).lines ≡ timed_out 1 ∷ timed_out 2 ∷ []
unfolding number_text whole_of message_at mark_at byte_in kinded_at addressed_at pair_at body_of digits_in bytes_in bytes_of_len
all_ended = refl
