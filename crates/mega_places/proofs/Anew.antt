-- Logs that are opened anew over what a node left, and a node that starts over them.
use Rattle.std.proofs.Common.{◌≡◌, ℕ, ◌+◌, ◌&&◌, cond, true, false, List, [], ◌∷◌, map, Option, None, refl, sym, ap, ◌∙◌, subst, arith}
use Rattle.mega_cluster.specs.declared.cluster.Cluster.{Cluster}
use Rattle.mega_disk.specs.declared.mem_records.MemRecords.{MemRecords}
use Rattle.mega_disk.specs.Fuse.{Unset, after_append as less, is_short, keeps_record}
use Rattle.mega_disk.specs.MemDisk.{fuse_of, image_of}
use Rattle.mega_handler.specs.Named.{Meanings}
use Rattle.mega_rules.specs.Met.{Met, Starts}
use Rattle.mega_rules.specs.Steps.{onto, start, start_notes}
use Rattle.mega_rows.specs.declared.rows.VersionedRows.{VersionedRows}
use Rattle.mega_voter.specs.Holding.{HoldsMet}
use Rattle.mega_durable.specs.of_core.of_step_parts.Notes.{met_of}
use Rattle.mega_durable.specs.declared.cut.Cut.{Cut}
use Rattle.mega_durable.specs.declared.down.Down.{Down as DownNode}
use Rattle.mega_promises.specs.Runs.{AsItWas, Fuse, Recorded, after_append, is_burning, is_kept, setting}
use Rattle.mega_places.specs.declared.fallen.Fallen.{Fallen}
use Rattle.mega_places.specs.declared.log_fuse.LogFuse.{LogFuse}
use Rattle.mega_places.specs.declared.starting.Begun.{Begun}
use Rattle.mega_places.specs.declared.remains.Remains.TheVariants.{OnDisk}
use Rattle.mega_places.specs.Kept.{AreReady, IsFallen, IsReady, records_below}
use Rattle.mega_places.specs.LogFuses.{HasRoom, IsFused, run_fuse}
use Rattle.mega_places.specs.Members.{IsUpAs, node_in, records_of}
use Rattle.mega_places.specs.Starting.{BeginsSo, FallsAgain, IsOpened}
use Rattle.mega_places.proofs.Fuses.{fused_more, fused_same, leaves, short_is}
use Rattle.mega_places.proofs.StepsMade.{as_member}

-- records that hold nothing
pub nothing_held : (records : MemRecords) → records.list.items ≡ [] → HoldsMet records.list.items 0 []
nothing_held records is = subst (λ (items : List (List ℕ)). HoldsMet items 0 []) (sym is) (record {
  good = refl;
  agrees = record { slots = λ group n. refl; granted = λ node. refl };
  counted = refl;
  later = omega arith;
  honest = tt;
})

-- ---- logs that are opened
pub opened_over : (c : Cluster) (me : ℕ) (fallen : Fallen) (down : DownNode MemRecords VersionedRows) (starts : ℕ) (owed met : List Met) (fuse : Option Fuse) → IsFallen c me fallen starts owed met fuse
    → (HoldsMet (records_below fallen.remains).list.items starts (onto owed met) → AreReady c me fallen.remains starts (onto owed met) → IsReady c me down starts (onto owed met))
    → down.voter.logs.records.list.items ≡ (records_below fallen.remains).list.items → fuse_of down.voter.logs.records.fuse ≡ fuse_of (records_below fallen.remains).fuse
    → image_of down.voter.logs.records.fuse ≡ image_of (records_below fallen.remains).fuse → IsOpened c me down fallen.fuse starts owed met fuse
opened_over c me fallen down starts owed met fuse is stands list left image = record {
  follows = is.follows;
  stands = stands is.holds is.ready;
  holds = subst (λ (items : List (List ℕ)). HoldsMet items starts (onto owed met)) (sym list) is.holds;
  fused = fused_same fallen.fuse (records_below fallen.remains) down.voter.logs.records fuse is.fused left image;
}

not_short : (fuse : Option Fuse) (kept : Option LogFuse) (records : MemRecords) → IsFused kept records fuse → (true && is_short (fuse_of records.fuse)) ≡ false → is_burning fuse ≡ false
not_short fuse kept records is long = sym (ap is_short is.left ∙ short_is fuse is.unburnt) ∙ long

-- ---- a node that starts over them
pub started_over : (c : Cluster) (me : ℕ) (down : DownNode MemRecords VersionedRows) (kept : Option LogFuse) (owing : Option Cut) (starts : ℕ) (owed met : List Met) (fuse : Option Fuse) (begun : Begun) → IsOpened c me down kept starts owed met fuse
    → begun.start ≡ down.voter.logs.kept.starts + 1 → begun.owed ≡ owing → ((h : Meanings) → map met_of begun.notes ≡ start_notes (setting c h me) (onto owed (Starts (starts + 1) ∷ met)))
    → (node_in begun.member).replica.members ≡ c → (node_in begun.member).replica.me ≡ me → ((h : Meanings) → IsUpAs h (node_in begun.member) (start (setting c h me) (starts + 1) owed met))
    → (true && is_short (fuse_of down.voter.logs.records.fuse)) ≡ false → fuse_of (records_of begun.member).fuse ≡ less (fuse_of down.voter.logs.records.fuse) → image_of (records_of begun.member).fuse ≡ image_of down.voter.logs.records.fuse
    → (HasRoom (run_fuse kept) → run_fuse begun.member.fuse ≡ after_append (run_fuse kept)) → BeginsSo c me starts owed met fuse owing begun
started_over c me down kept owing starts owed met fuse begun is number owes notes members mine here long left image counts =
    let burning = not_short fuse kept down.voter.logs.records is.fused long in record {
      number = number ∙ ap (λ n. n + 1) is.stands.recalls.counted;
      owes = owes;
      notes = notes;
      long = burning;
      is = λ h. as_member c h me begun.member (start (setting c h me) (starts + 1) owed met) members mine (here h);
      fused = fused_more kept begun.member.fuse down.voter.logs.records (records_of begun.member) fuse is.fused burning left image counts;
    }

-- or its start is cut off
pub cut_over : (c : Cluster) (me : ℕ) (down : DownNode MemRecords VersionedRows) (kept : Option LogFuse) (owing : Option Cut) (starts : ℕ) (owed met : List Met) (fuse : Option Fuse) (records : MemRecords) (fallen : Fallen) → IsOpened c me down kept starts owed met fuse
    → record { remains = OnDisk records; fuse = None; owed = owing } ≡ fallen → is_short (fuse_of down.voter.logs.records.fuse) ≡ true → fuse_of records.fuse ≡ Unset
    → HoldsMet records.list.items (cond (is_kept (cond (keeps_record (fuse_of down.voter.logs.records.fuse) (image_of down.voter.logs.records.fuse)) Recorded AsItWas)) (starts + 1) starts) (onto owed met)
    → FallsAgain starts owed met fuse owing fallen
cut_over c me down kept owing starts owed met fuse records fallen is same short gone holds = subst (FallsAgain starts owed met fuse owing) same (record {
  records = records;
  burning = sym (ap is_short is.fused.left ∙ short_is fuse is.fused.unburnt) ∙ short;
  holds = subst (λ left. HoldsMet records.list.items (cond (is_kept left) (starts + 1) starts) (onto owed met)) (leaves down.voter.logs.records fuse is.fused.left is.fused.image is.fused.unburnt) holds;
  remains = refl;
  owes = refl;
  gone = gone;
  unset = refl;
})
