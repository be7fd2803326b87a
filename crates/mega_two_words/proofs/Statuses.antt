-- With which status a run ends, by what ended it.
use Rattle.std.proofs.Common.{◌≡◌, ◌+◌, ℕ, Bool, true, false, refl, sym, ◌∙◌, ap, subst, arith, inl, inr}
use Rattle.std.specs.Prelude.{◌⊎◌}
use Rattle.mega_base.specs.Causes.{Rose}
use Rattle.mega_two_words.specs.declared.last.Last.{Last}
use Rattle.mega_two_words.specs.declared.last.Last.TheVariants.{Header, Refused, Ended}
use Rattle.mega_two_words.specs.declared.stop.Stop.{Stop}
use Rattle.mega_two_words.specs.declared.stop.Stop.TheVariants.{Source, Link, NoMemory}
use Rattle.mega_two_words.specs.Endings.{IsStatus, is_cut, status_of, stop_status}

pub stop_cut : {A : Type 0} (stop : Stop) → is_cut (stop_status stop) ≡ false → A
stop_cut Source is = absurd (let none : ◌≡◌ {A = Bool} true false = is in cc)
stop_cut Link is = absurd (let none : ◌≡◌ {A = Bool} true false = is in cc)
stop_cut NoMemory is = absurd (let none : ◌≡◌ {A = Bool} true false = is in cc)

pub stop_source : (stop : Stop) → stop_status stop ≡ 5 → stop ≡ Source
stop_source Source is = refl
stop_source Link is = absurd (omega (arith, is))
stop_source NoMemory is = absurd (omega (arith, is))

pub stop_link : (stop : Stop) → stop_status stop ≡ 9 → stop ≡ Link
stop_link Source is = absurd (omega (arith, is))
stop_link Link is = refl
stop_link NoMemory is = absurd (omega (arith, is))

pub stop_sink : {A : Type 0} (stop : Stop) → stop_status stop ≡ 6 → A
stop_sink Source is = absurd (omega (arith, is))
stop_sink Link is = absurd (omega (arith, is))
stop_sink NoMemory is = absurd (omega (arith, is))

pub stop_is : (stop : Stop) → IsStatus (stop_status stop)
stop_is Source = inr (inr (inr (inl refl)))
stop_is Link = inr (inr (inr (inr (inr (inr refl)))))
stop_is NoMemory = inr (inr (inr (inr (inr (inl refl)))))

-- ---- a last line

last_is : (last : Last) → IsStatus (status_of last)
last_is (Header rule) = inr (inl refl)
last_is (Refused reason) = inr (inr (inl refl))
last_is (Ended name ended) = inl refl

pub told_is : (last : Last) (status : ℕ) → (status ≡ status_of last) ⊎ (status ≡ 6) ⊎ (status ≡ 8) → IsStatus status
told_is last status (inl is) = subst IsStatus (sym is) (last_is last)
told_is last status (inr (inl is)) = inr (inr (inr (inr (inl is))))
told_is last status (inr (inr is)) = inr (inr (inr (inr (inr (inl is)))))

-- the status of no last line is that of a fault
pub last_small : {A : Type 0} (last : Last) (n : ℕ) → status_of last ≡ n + 5 → A
last_small (Header rule) n is = absurd (omega (arith, is))
last_small (Refused reason) n is = absurd (omega (arith, is))
last_small (Ended name ended) n is = absurd (omega (arith, is))

pub told_other : {A : Type 0} (last : Last) (status n : ℕ) → (status ≡ status_of last) ⊎ (status ≡ 6) ⊎ (status ≡ 8) → status ≡ n → (n ≡ 5) ⊎ (n ≡ 9) → A
told_other last status n (inl is) same (inl five) = last_small last 0 (sym is ∙ same ∙ five)
told_other last status n (inl is) same (inr nine) = last_small last 4 (sym is ∙ same ∙ nine)
told_other last status n (inr (inl is)) same (inl five) = absurd (omega (arith, is, same, five))
told_other last status n (inr (inl is)) same (inr nine) = absurd (omega (arith, is, same, nine))
told_other last status n (inr (inr is)) same (inl five) = absurd (omega (arith, is, same, five))
told_other last status n (inr (inr is)) same (inr nine) = absurd (omega (arith, is, same, nine))

pub either_told : (last : Last) (one two : ℕ) → (status_of last ≡ 6) ⊎ Rose one two → Rose one two
either_told last one two (inl six) = last_small last 1 six
either_told last one two (inr rose) = rose
