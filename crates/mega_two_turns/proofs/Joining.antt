-- Turns are joined.
use Rattle.std.proofs.Common.{◌≡◌, ℕ, List, [], ◌∷◌, ◌++◌, None, Option, Some, Result, Ok, Err, true, ap, append_assoc, subst, ◌∙◌}
use Rattle.std.specs.Prelude.{OnOk, is_none, option_map}
use Rattle.mega_link.specs.Datagrams.{Datagram, Gains}
use Rattle.mega_two_turns.specs.declared.driving.Driving.{Driving}
use Rattle.mega_two_turns.specs.Turns.{AreOpen, Drives, GainsAll, all_sent, came_in, driven, ending, sends, turned, proceeds_out}

gains_one : {A : Type 0} (old new : Option (List A)) (item : A) → Gains old new item → GainsAll old new (item ∷ [])
gains_one (Some all) (Some more) item is = is
gains_one None (Some more) item is = is
gains_one (Some all) None item is = tt
gains_one None None item is = tt

gains_more : {A : Type 0} (a b c : Option (List A)) (xs ys : List A) → GainsAll a b xs → GainsAll b c ys → GainsAll a c (xs ++ ys)
gains_more (Some all) (Some more) (Some last) xs ys one two = two ∙ ap (λ (front : List _). front ++ ys) one ∙ append_assoc all xs ys
gains_more (Some all) None (Some last) xs ys one two = absurd two
gains_more None (Some more) (Some last) xs ys one two = absurd one
gains_more None None (Some last) xs ys one two = absurd two
gains_more (Some all) b None xs ys one two = tt
gains_more None b None xs ys one two = tt

sends_more : (a b c : Option (List Datagram)) (xs ys : List Datagram) → b ≡ option_map (λ all. all ++ xs) a → c ≡ option_map (λ all. all ++ ys) b → c ≡ option_map (λ all. all ++ (xs ++ ys)) a
sends_more (Some all) b c xs ys one two = two ∙ ap (λ (o : Option (List Datagram)). option_map (λ (all : List Datagram). all ++ ys) o) one ∙ ap Some (append_assoc all xs ys)
sends_more None b c xs ys one two = two ∙ ap (λ (o : Option (List Datagram)). option_map (λ (all : List Datagram). all ++ ys) o) one

pub one_turn : (node patience : ℕ) (first mid last : Driving) (read more_read : Option (List ℕ)) (taken mid_taken more_taken : Option (List (Option Datagram))) (sent mid_sent more_sent : Option (List Datagram)) (now : ℕ) (got : Option Datagram)
    → is_none (ending first.two) ≡ true → Gains read more_read now → mid_taken ≡ taken → Gains mid_taken more_taken got → mid_sent ≡ option_map (λ all. all ++ sends node first) sent → more_sent ≡ mid_sent
    → mid ≡ proceeds_out patience first now → last ≡ came_in node mid got → Drives node patience first last read more_read taken more_taken sent more_sent ((now, got) ∷ [])
one_turn node patience first mid last read more_read taken mid_taken more_taken sent mid_sent more_sent now got still reads kept receives sends same out come = record {
  readings = gains_one read more_read now reads;
  received = gains_one taken more_taken got (subst (λ (told : Option (List (Option Datagram))). Gains told more_taken got) kept receives);
  sends = same ∙ sends;
  leads = come ∙ ap (λ (d : Driving). came_in node d got) out;
  open_so_far = (still, tt);
}

pub turns_on : (node patience : ℕ) (first mid last : Driving) (a b c : Option (List ℕ)) (x y z : Option (List (Option Datagram))) (s t u : Option (List Datagram)) (given : List (ℕ × Option Datagram)) (one : ℕ × Option Datagram)
    → Drives node patience first mid a b x y s t given → Drives node patience mid last b c y z t u (one ∷ []) → Drives node patience first last a c x z s u (one ∷ given)
turns_on node patience first mid last a b c x y z s t u given one before now = record {
  readings = gains_more a b c _ _ before.readings now.readings;
  received = gains_more x y z _ _ before.received now.received;
  sends = subst (λ (d : Driving). u ≡ option_map (λ (all : List Datagram). all ++ (all_sent node patience first given ++ sends node d)) s) before.leads (sends_more s t u _ _ before.sends now.sends);
  leads = now.leads ∙ ap (λ (d : Driving). turned node patience d one) before.leads;
  open_so_far = (subst (λ (d : Driving). is_none (ending d.two) ≡ true) before.leads now.open_so_far.0, before.open_so_far);
}

-- ---- what a last call answers

pub on_ok_then : {X E P Q : Type 0} (r : Result X E) → (P → Q) → OnOk r P → OnOk r Q
on_ok_then (Ok x) more held = more held
on_ok_then (Err e) more held = tt
