-- A step that ends: what is kept represents the node of the rules then.
use Rattle.std.proofs.Common.{◌≡◌, ℕ, min, nat_lt, length, List, ◌∷◌, ◌++◌, map, sym, ap, subst, ◌∙◌}
use Rattle.std.specs.List.{All}
use Rattle.std.proofs.lemmas.List.Elements.{All-weaker}
use Rattle.mega_base.specs.declared.names.GroupId.{GroupId}
use Rattle.mega_disk.specs.VersionMaps.{Versions}
use Rattle.mega_entry.specs.declared.content.Content.{Content}
use Rattle.mega_wal.specs.declared.item.JournalItem.{JournalItem}
use Rattle.mega_wal.specs.declared.kept.Kept.{Kept}
use Rattle.mega_wire.specs.declared.message.Message.{Message}
use Rattle.mega_rules.specs.Met.{Met, Sends}
use Rattle.mega_rules.specs.Clock.{begun_of, last_number}
use Rattle.mega_rules.specs.Logs.{log_of}
use Rattle.mega_rules.specs.Operations.{Node, Now, Operation, Setting}
use Rattle.mega_rules.specs.Steps.{apply_notes, onto}
use Rattle.mega_step_parts.specs.of_voter.Telling.{Tells}
use Rattle.mega_step_parts.specs.of_leases.declared.leases.Leases.{Leases}
use Rattle.mega_step_parts.specs.of_leases.Tells.{Tells as TellsLeases}
use Rattle.mega_replica.specs.declared.progress.Progress.{Progress}
use Rattle.mega_replica.specs.Applying.{applied}
use Rattle.mega_replica.specs.Following.{Follows}
use Rattle.mega_replica.specs.Stored.{GroupLogs}
use Rattle.mega_actions.specs.of_node_laws.About.{IsAbout}
use Rattle.mega_actions.specs.of_node_laws.Sending.{MaySend}
use Rattle.mega_actions.specs.of_marks.declared.indexed.Indexed.{Indexed}
use Rattle.mega_actions.specs.of_pumps.declared.digest.Digest.{Digest}
use Rattle.mega_actions.proofs.of_pumps.Lasting.{noted_after}
use Rattle.mega_actions.specs.Turns.{IsServable}
use Rattle.mega_actions.proofs.of_node_laws.Ending.{onto_append}
use Rattle.mega_actions.proofs.of_node_laws.Logs.{log_after}
use Rattle.mega_actions.specs.of_step_work.declared.work.Work.{Work}
use Rattle.mega_core.specs.Acted.{Acted, HasActed, IsEnd, IsValidate, ended}
use Rattle.mega_step_parts.specs.declared.note.Note.{Note}
use Rattle.mega_node_events.specs.Kind.{FitsKind}
use Rattle.mega_core.specs.Made.{Made}
use Rattle.mega_step_parts.specs.Notes.{met_of}
use Rattle.mega_step_parts.specs.Behind.{Keeps, is_behind}
use Rattle.mega_node_events.specs.Represents.{Represents}
use Rattle.mega_step_parts.specs.Staging.{Stages}
use Rattle.mega_core.proofs.Alike.{IsApart, alike_tells, alike_then, all_apart_alike, validates_alike}
use Rattle.mega_core.proofs.Unshown.{applies_unshown, ended_marked, validates_unshown}
use Rattle.mega_core.proofs.Silent.{IsMute, IsQuiet, applies_quiet, end_mute, ends_apart, mute_begun, mute_staged, mute_told, mute_undecided, sent_apart, sent_begun, sent_undecided, validate_mute}

-- the notes of a step, one list after another
onto_notes : (locks durable applies valid answers met : List Met) → onto ((((locks ++ durable) ++ applies) ++ valid) ++ answers) met ≡ onto answers (onto valid (onto applies (onto durable (onto locks met))))
onto_notes locks durable applies valid answers met =
    onto_append (((locks ++ durable) ++ applies) ++ valid) answers met
    ∙ ap (onto answers) (onto_append ((locks ++ durable) ++ applies) valid met
    ∙ ap (onto valid) (onto_append (locks ++ durable) applies met
    ∙ ap (onto applies) (onto_append locks durable met)))

module _ (s : Setting) (base : List Met) (applies : List Met) (sends : List Message) (now : Now) (quiet : All IsQuiet applies) (acted : Acted base now) where
  abbrev noted : List Met
  noted = onto now.answers (onto now.valid (onto applies base))

  mute_applies : All IsMute applies
  mute_applies = All-weaker IsQuiet IsMute (λ one q. q.mute) applies quiet

  mute_valid : All IsMute now.valid
  mute_valid = All-weaker IsValidate IsMute validate_mute now.valid acted.valid

  mute_answers : All IsMute now.answers
  mute_answers = All-weaker IsEnd IsMute end_mute now.answers acted.answers

  noted_told : (kept : Kept) → Tells kept base → Tells kept noted
  noted_told kept tells = mute_told kept now.answers (onto now.valid (onto applies base)) mute_answers (mute_told kept now.valid (onto applies base) mute_valid (mute_told kept applies base mute_applies tells))

  noted_staged : (staged : List JournalItem) (before : List Met) → Stages staged before base → Stages staged before noted
  noted_staged staged before stages =
      mute_staged staged before now.answers (onto now.valid (onto applies base)) mute_answers
      (mute_staged staged before now.valid (onto applies base) mute_valid (mute_staged staged before applies base mute_applies stages))

  noted_begun : begun_of (onto (map Sends sends) noted) ≡ begun_of base
  noted_begun = sent_begun sends noted ∙ (mute_begun now.answers (onto now.valid (onto applies base)) mute_answers ∙ (mute_begun now.valid (onto applies base) mute_valid ∙ mute_begun applies base mute_applies))

  noted_logs : (group : GroupId) → log_of (onto (map Sends sends) noted) group ≡ log_of now.met group
  noted_logs group =
      log_after (map Sends sends) noted group (sent_undecided sends)
      ∙ (log_after now.answers (onto now.valid (onto applies base)) group (mute_undecided now.answers mute_answers)
      ∙ (log_after now.valid (onto applies base) group (mute_undecided now.valid mute_valid)
      ∙ (log_after applies base group (mute_undecided applies mute_applies)
      ∙ (sym (log_after now.valid base group (mute_undecided now.valid mute_valid)) ∙ ap (λ met. log_of met group) (sym acted.met_is)))))

  noted_leased : (leases : Leases) → TellsLeases s.cluster s.me leases now.met → TellsLeases s.cluster s.me leases (onto (map Sends sends) noted)
  noted_leased leases tells =
      alike_tells s.cluster s.me leases (onto now.valid base) (onto (map Sends sends) noted)
      (alike_then s.cluster s.me (onto now.valid base) noted (onto (map Sends sends) noted)
      (alike_then s.cluster s.me (onto now.valid base) (onto now.valid (onto applies base)) noted
      (validates_alike s.cluster s.me now.valid base (onto applies base) acted.valid (all_apart_alike s.cluster s.me applies base (All-weaker IsQuiet IsApart (λ one q. q.apart) applies quiet)))
      (all_apart_alike s.cluster s.me now.answers (onto now.valid (onto applies base)) (ends_apart now.answers acted.answers)))
      (all_apart_alike s.cluster s.me (map Sends sends) noted (sent_apart sends)))
      (subst (TellsLeases s.cluster s.me leases) acted.met_is tells)

-- what is kept after a step, where what is sent is told
pub step_represents : {indexed : Indexed} {digest : Digest} (s : Setting) (node : Node) (own : Met) (locks durable : List Met) (sends : List Message) (now : Now)
    (kept after : Kept) (leases : Leases) (version : Versions) (progress : GroupId → Progress) (begun : ℕ) (work : Work)
    → HasActed s kept leases indexed digest version progress begun work (onto durable (onto locks (own ∷ node.met))) now
    → MaySend (onto (ended s node own locks durable sends now).notes (own ∷ node.met)) sends
    → ((met : List Met) → MaySend met sends → Tells kept met → Tells after (onto (map Sends sends) met))
    → Represents s after leases indexed digest version progress work.kept begun (ended s node own locks durable sends now).node
step_represents {indexed} {digest} s node own locks durable sends now kept after leases version progress begun work h may sent =
    subst (λ (met : List Met). Represents s after leases indexed digest version progress work.kept begun (record { met = onto (map Sends sends) met; open_operations = now.kept; stored = now.stored }))
    (sym notes_are)
    (record {
      kind = subst (λ (os : List Operation). FitsKind s.cluster s.me os now.stored) (sym (ap (λ (w : Work). w.kept) h.work_is)) h.kind;
      tells = sent all (subst (λ (met : List Met). MaySend met sends) notes_are may) (noted_told s base applies sends now quiet h.acted kept h.tells);
      leased = noted_leased s base applies sends now quiet h.acted leases h.leased;
      follows = subst (λ (log : GroupLogs). Follows version progress log now.stored) (sym (λ i group. noted_logs s base applies sends now quiet h.acted group i)) h.follows;
      marked = ended_marked s.cluster.schema indexed base applies now.valid now.answers sends (applies_unshown s node.met node.stored now.met now.stored) (validates_unshown now.valid h.acted.valid) h.marked;
      noted = noted_after kept after (map Sends sends) all digest (noted_told s base applies sends now quiet h.acted kept h.tells) (sent all (subst (λ (met : List Met). MaySend met sends) notes_are may) (noted_told s base applies sends now quiet h.acted kept h.tells)) h.noted;
      opened = sym (ap (λ (w : Work). w.kept) h.work_is);
      begun_is = h.begun_is ∙ ap (λ (n : ℕ). min n last_number) (sym (noted_begun s base applies sends now quiet h.acted));
      about = subst (All IsAbout) (sym (ap (λ (w : Work). w.kept) h.work_is)) h.acted.about;
      built = subst (All IsServable) (sym (ap (λ (w : Work). w.kept) h.work_is)) h.built;
    })
  where
    base : List Met
    base = onto durable (onto locks (own ∷ node.met))

    applies : List Met
    applies = apply_notes s node.met node.stored now.met now.stored

    quiet : All IsQuiet applies
    quiet = applies_quiet s node.met node.stored now.met now.stored

    all : List Met
    all = onto now.answers (onto now.valid (onto applies base))

    notes_are : onto ((((locks ++ durable) ++ applies) ++ now.valid) ++ now.answers) (own ∷ node.met) ≡ all
    notes_are = onto_notes locks durable applies now.valid now.answers (own ∷ node.met)

-- and each group is behind then where it is as the operations leave it
pub step_behind : (s : Setting) (node : Node) (own : Met) (locks durable : List Met) (sends : List Message) (now : Now) → Acted (onto durable (onto locks (own ∷ node.met))) now → (group : GroupId)
    → is_behind (ended s node own locks durable sends now).node.met (ended s node own locks durable sends now).node.stored group ≡ is_behind now.met now.stored group
step_behind s node own locks durable sends now acted group =
    ap (λ (log : List Content). nat_lt (applied log (now.stored group)) (length log))
    (ap (λ (met : List Met). log_of (onto (map Sends sends) met) group) (onto_notes locks durable applies now.valid now.answers (own ∷ node.met))
    ∙ noted_logs s (onto durable (onto locks (own ∷ node.met))) applies sends now (applies_quiet s node.met node.stored now.met now.stored) acted group)
  where
    applies : List Met
    applies = apply_notes s node.met node.stored now.met now.stored

-- the logs tell what the operations have met as well
pub acted_tells : {indexed : Indexed} {digest : Digest} (s : Setting) (kept : Kept) (leases : Leases) (version : Versions) (progress : GroupId → Progress) (begun : ℕ) (work : Work) (base : List Met) (now : Now)
    → HasActed s kept leases indexed digest version progress begun work base now → Keeps kept version progress now.met now.stored
acted_tells s kept leases version progress begun work base now h = record {
  tells = subst (Tells kept) (sym h.acted.met_is) (mute_told kept now.valid base (All-weaker IsValidate IsMute validate_mute now.valid h.acted.valid) h.tells);
  follows = h.follows;
}

-- a step is made by its notes, its sends and what is kept then
pub step_made : {indexed : Indexed} {digest : Digest} (s : Setting) (node : Node) (own : Met) (locks durable : List Met) (opening closing : List Message) (now : Now)
    (kept after : Kept) (leases : Leases) (version : Versions) (progress : GroupId → Progress) (begun : ℕ) (work : Work)
    (first applies notes : List Note) (sends : List Message)
    → HasActed s kept leases indexed digest version progress begun work (onto durable (onto locks (own ∷ node.met))) now
    → map met_of first ≡ locks ++ durable
    → map met_of applies ≡ apply_notes s node.met node.stored now.met now.stored
    → map met_of notes ≡ ((map met_of first ++ map met_of applies) ++ work.valid) ++ work.answers
    → sends ≡ (opening ++ work.sends) ++ closing
    → MaySend (onto (ended s node own locks durable ((opening ++ now.sends) ++ closing) now).notes (own ∷ node.met)) ((opening ++ now.sends) ++ closing)
    → ((met : List Met) → MaySend met sends → Tells kept met → Tells after (onto (map Sends sends) met))
    → Made s (record { notes = notes; sends = sends }) after leases indexed digest version progress work.kept begun (ended s node own locks durable ((opening ++ now.sends) ++ closing) now)
step_made s node own locks durable opening closing now kept after leases version progress begun work first applies notes sends h first_is applies_is notes_is sends_is may sent = record {
  notes = notes_is ∙ (λ i. ((first_is i ++ applies_is i) ++ (h.work_is i).valid) ++ (h.work_is i).answers);
  sends = all_sent;
  state = step_represents s node own locks durable ((opening ++ now.sends) ++ closing) now kept after leases version progress begun work h may
      (subst (λ (all : List Message). (met : List Met) → MaySend met all → Tells kept met → Tells after (onto (map Sends all) met)) all_sent sent);
}
  where
    all_sent : sends ≡ (opening ++ now.sends) ++ closing
    all_sent = sends_is ∙ ap (λ (w : Work). (opening ++ w.sends) ++ closing) h.work_is

-- what is staged then, where what is sent is staged
pub step_staged : {indexed : Indexed} {digest : Digest} (s : Setting) (node : Node) (own : Met) (locks durable : List Met) (opening closing : List Message) (now : Now)
    (kept : Kept) (staged after : List JournalItem) (leases : Leases) (version : Versions) (progress : GroupId → Progress) (begun : ℕ) (work : Work)
    (sends : List Message) (before : List Met)
    → HasActed s kept leases indexed digest version progress begun work (onto durable (onto locks (own ∷ node.met))) now
    → sends ≡ (opening ++ work.sends) ++ closing
    → MaySend (onto (ended s node own locks durable ((opening ++ now.sends) ++ closing) now).notes (own ∷ node.met)) ((opening ++ now.sends) ++ closing)
    → ((before met : List Met) → MaySend met sends → Tells kept met → Stages staged before met → Stages after before (onto (map Sends sends) met))
    → Stages staged before (onto durable (onto locks (own ∷ node.met)))
    → Stages after before (ended s node own locks durable ((opening ++ now.sends) ++ closing) now).node.met
step_staged s node own locks durable opening closing now kept staged after leases version progress begun work sends before h sends_is may sent stages =
    coe 0 1 (i. Stages after before (onto (map Sends (all_sent i)) (sym notes_are i)))
    (sent before all (subst (λ (sent_ones : List Message). MaySend all sent_ones) (sym all_sent) (subst (λ (met : List Met). MaySend met ((opening ++ now.sends) ++ closing)) notes_are may)) (noted_told s base applies sends now quiet h.acted kept h.tells)
    (noted_staged s base applies sends now quiet h.acted staged before stages))
  where
    base : List Met
    base = onto durable (onto locks (own ∷ node.met))

    applies : List Met
    applies = apply_notes s node.met node.stored now.met now.stored

    quiet : All IsQuiet applies
    quiet = applies_quiet s node.met node.stored now.met now.stored

    all : List Met
    all = onto now.answers (onto now.valid (onto applies base))

    notes_are : onto ((((locks ++ durable) ++ applies) ++ now.valid) ++ now.answers) (own ∷ node.met) ≡ all
    notes_are = onto_notes locks durable applies now.valid now.answers (own ∷ node.met)

    all_sent : sends ≡ (opening ++ now.sends) ++ closing
    all_sent = sends_is ∙ ap (λ (w : Work). (opening ++ w.sends) ++ closing) h.work_is
