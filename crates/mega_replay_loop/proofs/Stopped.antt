-- What a stop and its status tell.
use Rattle.std.proofs.Common.{◌≡◌, ℕ, ◌≤◌, ◌⊎◌, inl, inr, Option, List, [], ◌++◌, refl, sym, ◌∙◌, subst, arith}
use Rattle.std.specs.Io.KnownBytes.{Appends}
use Rattle.mega_base.specs.Causes.{Rose}
use Rattle.mega_io.specs.Pieces.{AppendsFront}
use Rattle.mega_words.specs.declared.command.Report.{Report}
use Rattle.mega_replay_output.specs.declared.status.Stop.{Stop}
use Rattle.mega_replay_output.specs.declared.status.Stop.TheVariants.{Header, Schedule, Refused, Limit, Source, Sink, NoMemory}
use Rattle.mega_replay_output.specs.LastLines.{last_line}
use Rattle.mega_replay_loop.specs.Known.{InputBegun, InputFailed, InputBroken, InputCut, InputNoEvent, InputRefused, InputPastLast}
use Rattle.mega_replay_output.specs.Progress.{Writes, WritesFront}
use Rattle.mega_replay_output.specs.Statuses.{IsReplayStatus, status_of}
use Rattle.mega_replay_output.specs.Stops.{IsTold}
use Rattle.mega_replay_loop.proofs.Said.{begun_front, failed_held, broken_front, none_front, refused_front, limit_front}

pub stop_front : (report : Report) (stop : Stop) (known before mid after : Option (List ℕ)) (waiting : List ℕ) → ((rule : ℕ) → stop ≡ Header rule → InputBroken known rule (Writes before mid waiting))
    → ((at reason : ℕ) → stop ≡ Schedule at reason → InputNoEvent report known at reason (Writes before mid waiting)) → ((at why : ℕ) → stop ≡ Refused at why → InputRefused report known at why (Writes before mid waiting))
    → ((at : ℕ) → stop ≡ Limit at → InputPastLast report known at (Writes before mid waiting)) → InputBegun report known (WritesFront before mid waiting) → AppendsFront mid after (waiting ++ last_line stop) → InputCut report known (AppendsFront before after)
stop_front report (Header rule) known before mid after waiting header none refused limit begun written = broken_front report known before mid after waiting rule (header rule refl) written
stop_front report (Schedule at reason) known before mid after waiting header none refused limit begun written = none_front report known before mid after waiting at reason (none at reason refl) written
stop_front report (Refused at why) known before mid after waiting header none refused limit begun written = refused_front report known before mid after waiting at why (refused at why refl) written
stop_front report (Limit at) known before mid after waiting header none refused limit begun written = limit_front report known before mid after waiting at (limit at refl) written
stop_front report Source known before mid after waiting header none refused limit begun written = begun_front report known before mid after waiting begun written
stop_front report Sink known before mid after waiting header none refused limit begun written = begun_front report known before mid after waiting begun written
stop_front report NoMemory known before mid after waiting header none refused limit begun written = begun_front report known before mid after waiting begun written

-- the last line of a stop that is told was written
pub told_stop : (result stop one : Stop) (mid after : Option (List ℕ)) (waiting : List ℕ) → result ≡ one → IsTold one → (IsTold result → (result ≡ stop) × Appends mid after (waiting ++ last_line stop))
    → (stop ≡ one) × Appends mid after (waiting ++ last_line one)
told_stop result stop one mid after waiting is told says =
    let said = says (subst IsTold (sym is) told) in
    let same : stop ≡ one = sym said.0 ∙ is in
    (same, subst (λ (s : Stop). Appends mid after (waiting ++ last_line s)) same said.1)

-- what was done before a fault of the source was written, unless the sink failed
pub held_or_rose : (report : Report) (known left before mid after : Option (List ℕ)) (waiting : List ℕ) (one two three : ℕ) → one ≤ two → two ≤ three → InputFailed report known left (Writes before mid waiting) → Appends mid after waiting ⊎ Rose two three
    → InputFailed report known left (Appends before after) ⊎ Rose one three
held_or_rose report known left before mid after waiting one two three le on failed (inl written) = inl (failed_held report known left before mid after waiting failed written)
held_or_rose report known left before mid after waiting one two three le on failed (inr rose) = inr (omega (arith, le, rose))

-- what a status tells of the stop behind it
pub header_by : (stop : Stop) (Tells : ℕ → Type 0) → status_of stop ≡ 3 → ((rule : ℕ) → stop ≡ Header rule → Tells rule) → (rule : ℕ) × Tells rule
header_by (Header rule) Tells is said = (rule, said rule refl)
header_by (Schedule line reason) Tells is said = absurd (omega arith)
header_by (Refused line why) Tells is said = absurd (omega arith)
header_by (Limit line) Tells is said = absurd (omega arith)
header_by Source Tells is said = absurd (omega arith)
header_by Sink Tells is said = absurd (omega arith)
header_by NoMemory Tells is said = absurd (omega arith)

pub refused_by : (stop : Stop) (None Tells : ℕ → ℕ → Type 0) → status_of stop ≡ 4 → ((line reason : ℕ) → stop ≡ Schedule line reason → None line reason) → ((line why : ℕ) → stop ≡ Refused line why → Tells line why)
    → ((line : ℕ) × (reason : ℕ) × None line reason) ⊎ ((line : ℕ) × (why : ℕ) × Tells line why)
refused_by (Schedule line reason) None Tells is none said = inl (line, reason, none line reason refl)
refused_by (Refused line why) None Tells is none said = inr (line, why, said line why refl)
refused_by (Header rule) None Tells is none said = absurd (omega arith)
refused_by (Limit line) None Tells is none said = absurd (omega arith)
refused_by Source None Tells is none said = absurd (omega arith)
refused_by Sink None Tells is none said = absurd (omega arith)
refused_by NoMemory None Tells is none said = absurd (omega arith)

pub limit_by : (stop : Stop) (Tells : ℕ → Type 0) → status_of stop ≡ 10 → ((line : ℕ) → stop ≡ Limit line → Tells line) → (line : ℕ) × Tells line
limit_by (Limit line) Tells is said = (line, said line refl)
limit_by (Header rule) Tells is said = absurd (omega arith)
limit_by (Schedule line reason) Tells is said = absurd (omega arith)
limit_by (Refused line why) Tells is said = absurd (omega arith)
limit_by Source Tells is said = absurd (omega arith)
limit_by Sink Tells is said = absurd (omega arith)
limit_by NoMemory Tells is said = absurd (omega arith)

pub source_by : (stop : Stop) → status_of stop ≡ 5 → stop ≡ Source
source_by Source is = refl
source_by (Header rule) is = absurd (omega arith)
source_by (Schedule line reason) is = absurd (omega arith)
source_by (Refused line why) is = absurd (omega arith)
source_by (Limit line) is = absurd (omega arith)
source_by Sink is = absurd (omega arith)
source_by NoMemory is = absurd (omega arith)

pub sink_by : (stop : Stop) → status_of stop ≡ 6 → stop ≡ Sink
sink_by Sink is = refl
sink_by (Header rule) is = absurd (omega arith)
sink_by (Schedule line reason) is = absurd (omega arith)
sink_by (Refused line why) is = absurd (omega arith)
sink_by (Limit line) is = absurd (omega arith)
sink_by Source is = absurd (omega arith)
sink_by NoMemory is = absurd (omega arith)

pub status_known : (stop : Stop) → IsReplayStatus (status_of stop)
status_known (Header rule) = inr (inl refl)
status_known (Schedule line reason) = inr (inr (inl refl))
status_known (Refused line why) = inr (inr (inl refl))
status_known (Limit line) = inr (inr (inr (inl refl)))
status_known Source = inr (inr (inr (inr (inl refl))))
status_known Sink = inr (inr (inr (inr (inr (inl refl)))))
status_known NoMemory = inr (inr (inr (inr (inr (inr refl)))))
