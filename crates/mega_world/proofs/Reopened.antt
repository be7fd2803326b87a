-- A world one of whose nodes started again stands as the run does afterwards.
use Rattle.std.proofs.Common.{◌≡◌, ℕ, ◌+◌, ◌==◌, ◌++◌, ◌∷◌, [], Bool, true, false, cond, List, flat_map, nat_lt, refl, sym, ap, ◌∙◌, subst, append_assoc}
use Rattle.std.specs.List.{All}
use Rattle.mega_base.specs.declared.names.GroupId.{GroupId}
use Rattle.mega_base.specs.declared.names.Epoch.{Epoch}
use Rattle.mega_base.specs.declared.names.NodeId.{NodeId}
use Rattle.mega_cluster.specs.declared.cluster.Cluster.{Cluster}
use Rattle.mega_places.specs.of_handler.Named.{Meanings}
use Rattle.mega_places.specs.of_promises.of_schedule.declared.world_event.WorldEvent.TheVariants.{Start as StartEvent}
use Rattle.mega_places.specs.of_promises.of_transcript.declared.item.Item.{Item}
use Rattle.mega_places.specs.of_promises.of_transcript.declared.item.Item.TheVariants.{Start}
use Rattle.mega_places.specs.of_promises.of_transcript.Lines.{HasLine}
use Rattle.mega_places.specs.of_promises.of_transcript.Tape.{newest}
use Rattle.mega_format_laws.specs.Histories.{IsMet}
use Rattle.mega_places.specs.of_voter.of_rules.Logs.{groups_of, prefix_of}
use Rattle.mega_places.specs.of_voter.of_rules.Members.{has_rows}
use Rattle.mega_places.specs.of_voter.of_rules.Met.{Applies, Met, Starts}
use Rattle.mega_places.specs.of_voter.of_rules.Operations.{Node, Setting}
use Rattle.mega_places.specs.of_voter.of_rules.Steps.{onto, start, start_items, start_note, start_notes}
use Rattle.mega_places.specs.of_promises.Items.{number, shown}
use Rattle.mega_places.specs.of_promises.Runs.{Standing, after_event, by_fuse, has_lapsed, setting, with_items}
use Rattle.mega_places.specs.declared.place.Place.{Place}
use Rattle.mega_world.specs.declared.restarting.Shown.{Shown}
use Rattle.mega_world.specs.declared.world.World.{World}
use Rattle.mega_places.specs.Carries.{Carries}
use Rattle.mega_places.specs.Kept.{AreNodes, owed_of}
use Rattle.mega_safety.specs.Lapses.{KnowsLeases}
use Rattle.mega_world.specs.Formed.{IsFormed}
use Rattle.mega_world.specs.Owing.{IsOwing, ShowsStart}
use Rattle.mega_world.specs.Restarting.{Opens, started}
use Rattle.mega_world.specs.Shown.{notes_shown}
use Rattle.mega_world.specs.AtRun.{StandsWith}
use Rattle.mega_world.proofs.Again.{started_lapsed}
use Rattle.mega_places.proofs.Carrying.{notes_same, same_on}
use Rattle.mega_world.proofs.Fates.{start_whole}
use Rattle.mega_world.proofs.Lining.{notes_lines}

flat_both : (me : ℕ) (xs ys : List Met) → flat_map (shown me) (xs ++ ys) ≡ flat_map (shown me) xs ++ flat_map (shown me) ys
flat_both me [] ys = refl
flat_both me (x ∷ xs) ys = ap (λ t. shown me x ++ t) (flat_both me xs ys) ∙ sym (append_assoc (shown me x) (flat_map (shown me) xs) (flat_map (shown me) ys))

-- before the start is shown
pub owing_at : (c : Cluster) (h : Meanings) (now : Standing) (me : ℕ) (old mid : World) (items : List Item) (opening : Shown) → StandsWith c old items now → Opens c now me mid.places.items opening → mid.safety ≡ old.safety
    → IsOwing c mid me (owed_of opening.owed) now.node (started c h now me).node (newest items)
owing_at c h now me old mid items opening r opens safety = record {
  nodes = (opens.nodes h).members;
  lapsed = λ cell node epoch. by (me == cell) cell node epoch;
  leases = subst (KnowsLeases mid.safety now.node) (sym r.tape) (subst (λ s. KnowsLeases s now.node now.tape) (sym safety) r.leases);
}
  where
    by : (t : Bool) (cell node : ℕ) (epoch : Epoch)
        → has_lapsed (cond t (start (setting c h me) (now.starts me + 1) (now.owed me) (now.node me).met) (now.node cell)).met node epoch ≡ has_lapsed (cond t (onto (owed_of opening.owed) (now.node me).met) (now.node cell).met) node epoch
    by true cell node epoch = started_lapsed (setting c h me) (now.starts me + 1) (now.owed me) (now.node me).met node epoch ∙ ap (λ owed. has_lapsed (onto owed (now.node me).met) node epoch) (sym opens.owed)
    by false cell node epoch = refl

-- what a start shows is what the rules' start shows
start_tape : (c : Cluster) (h : Meanings) (now : Standing) (me : ℕ) (places : List Place) (items after : List Item) (opening : Shown) → newest items ≡ now.tape → Opens c now me places opening
    → newest after ≡ with_items c (started c h now me).node (newest items) (Start (number me) opening.start ∷ flat_map (shown me) (owed_of opening.owed) ++ notes_shown me opening.notes) → newest after ≡ (started c h now me).tape
start_tape c h now me places items after opening tape opens shows =
    shows
    ∙ ap (λ t. with_items c node t (Start (number me) opening.start ∷ flat_map (shown me) (owed_of opening.owed) ++ notes_shown me opening.notes)) tape
    ∙ ap (λ n. with_items c node now.tape (Start (number me) n ∷ flat_map (shown me) (owed_of opening.owed) ++ notes_shown me opening.notes)) opens.number
    ∙ ap (λ owed. with_items c node now.tape (Start (number me) (now.starts me + 1) ∷ flat_map (shown me) owed ++ notes_shown me opening.notes)) opens.owed
    ∙ ap (λ notes. with_items c node now.tape (Start (number me) (now.starts me + 1) ∷ flat_map (shown me) (now.owed me) ++ flat_map (shown me) notes)) (opens.notes h)
    ∙ ap (with_items c node now.tape) (sym (flat_both me (Starts (now.starts me + 1) ∷ now.owed me) (start_notes (setting c h me) (onto (now.owed me) (Starts (now.starts me + 1) ∷ (now.node me).met)))))
  where
    node : ℕ → Node
    node = (started c h now me).node

pub reopened_at : (c : Cluster) (h : Meanings) (now : Standing) (node : NodeId) (old mid new : World) (items after : List Item) (opening : Shown) → StandsWith c old items now → Opens c now node.0 mid.places.items opening
    → mid.cluster ≡ old.cluster → mid.mail ≡ old.mail → mid.safety ≡ old.safety
    → (IsOwing c mid node.0 (owed_of opening.owed) now.node (started c h now node.0).node (newest items) → ShowsStart c mid new node.0 opening (started c h now node.0).node (newest items) (newest after))
    → StandsWith c new after (after_event c h by_fuse now (StartEvent node))
reopened_at c h now node old mid new items after opening r opens cluster mail safety show = subst (StandsWith c new after) (sym (start_whole c h now me opens.long)) (record {
  cluster = shows.cluster ∙ cluster ∙ r.cluster;
  served = r.served;
  nodes = subst (λ places. AreNodes c places.items (started c h now me)) (sym shows.places) (opens.nodes h);
  mail = subst (λ m. Carries m (started c h now me).tape) (sym (shows.mail ∙ mail)) (same_on old.mail now.tape (started c h now me).tape (notes_same c (started c h now me).node me items_of now.tape) r.mail);
  tape = tape;
  leases = subst (KnowsLeases new.safety (started c h now me).node) tape shows.leases;
})
  where
    me : ℕ
    me = node.0

    items_of : List Met
    items_of = start_items (setting c h me) (now.starts me + 1) (now.owed me) (now.node me).met

    shows : ShowsStart c mid new me opening (started c h now me).node (newest items) (newest after)
    shows = show (owing_at c h now me old mid items opening r opens safety)

    tape : newest after ≡ (started c h now me).tape
    tape = start_tape c h now me mid.places.items items after opening r.tape opens shows.tape

-- what it shows has lines
pub reopened_lined : (c : Cluster) (now : Standing) (me : ℕ) (mid : World) (items after : List Item) (opening : Shown) → IsFormed now → Opens c now me mid.places.items opening
    → (All HasLine items → All HasLine (flat_map (shown me) (owed_of opening.owed)) → All HasLine (notes_shown me opening.notes) → All HasLine after) → All HasLine items → All HasLine after
reopened_lined c now me mid items after opening formed opens lines lined =
    lines lined (subst (λ owed. All HasLine (flat_map (shown me) owed)) (sym opens.owed) (notes_lines me (now.owed me) (formed.owed me)))
    (subst (λ notes. All HasLine (flat_map (shown me) notes)) (sym (opens.notes [])) (notes_lines me (start_notes (setting c [] me) (onto (now.owed me) (Starts (now.starts me + 1) ∷ (now.node me).met))) (start_formed (setting c [] me) (onto (now.owed me) (Starts (now.starts me + 1) ∷ (now.node me).met)))))
  where
    applied_formed : (known : List Met) (groups : List GroupId) → IsMet (flat_map (start_note known) groups)
    applied_formed known [] = tt
    applied_formed known (group ∷ groups) = by (nat_lt 0 (prefix_of known group)) (applied_formed known groups)
      where
        by : (t : Bool) → IsMet (flat_map (start_note known) groups) → IsMet (cond t (Applies group (prefix_of known group) ∷ []) [] ++ flat_map (start_note known) groups)
        by true rest = (tt, rest)
        by false rest = rest

    either_formed : (t : Bool) (notes : List Met) → IsMet notes → IsMet (cond t notes [])
    either_formed true notes formed = formed
    either_formed false notes formed = tt

    start_formed : (s : Setting) (known : List Met) → IsMet (start_notes s known)
    start_formed s known = either_formed (has_rows s.cluster s.me) (flat_map (start_note known) (groups_of known)) (applied_formed known (groups_of known))
