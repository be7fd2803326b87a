use Rattle.std.proofs.Common.{◌+◌, ◌∙◌, ap, Err, refl, subst, sym}
use Rattle.mega_durable.specs.declared.fault.UpFault.TheVariants.{Step as Failed}
use Rattle.mega_rules.specs.Operations.{Setting}
use Rattle.mega_durable.specs.of_core.of_step_parts.Events.{event_of}
use Rattle.mega_durable.specs.Standing.{MayHappen}
use Rattle.mega_places.specs.declared.member.Member.{Member}
use Rattle.mega_places.specs.Members.{node_in, records_of}
use Rattle.mega_places.proofs.Failing.{is_no_stranger, is_timely, log_memory, may_serve, not_strange}
use Rattle.mega_places.proofs.StepsMade.{Counts, Steps, made_step, own_setting, was_cut}
use Rattle.mega_places.proofs.member.Member.step.Goals as goal

pub returns-in-Ok-clause-made : goal.returns-in-Ok-clause-made
returns-in-Ok-clause-made g c cluster h me ruled fuse is fused may =
    let old = c.args.self.now in
    let stepped : Member = record { up = c.step.new.self; fuse = c.counted-self.result } in
    let steps : Steps _ (node_in old) (node_in stepped) c.in-Ok.made (event_of c.args.event) = record {
      notes = λ g one here its. c.in-Ok.ensures.notes refl g one here its;
      sends = λ g one here its. c.in-Ok.ensures.sends refl g one here its;
      state = λ g one here its. c.in-Ok.ensures.state refl g one here its;
      whole = λ g one here its.
          let whole = c.in-Ok.ensures.whole refl refl g one here its in
          record { long = whole.long; fuse = whole.fuse; image = whole.image; count = c.in-Ok.ensures.appended refl g one here its };
      members = c.in-Ok.ensures.members;
      me = c.in-Ok.ensures.me;
    } in
    let counts : Counts old.fuse c.counted-self.result (records_of old).count (records_of stepped).count = record {
      same = λ e. c.counted-self.ensures.same (c.records-before.ensures ∙ e ∙ sym c.records.ensures);
      more = λ e. c.counted-self.ensures.more (c.records.ensures ∙ e ∙ ap (λ n. n + 1) (sym c.records-before.ensures));
    } in
    made_step cluster h me ruled fuse old stepped c.in-Ok.made (event_of c.args.event) is fused may steps counts

pub returns-in-Err-Cut-clause-made : goal.returns-in-Err-Cut-clause-made
returns-in-Err-Cut-clause-made g c cluster h me ruled fuse is fused may =
    let old = c.args.self.now in
    let stepped : Member = record { up = c.step.new.self; fuse = old.fuse } in
    was_cut cluster h me ruled fuse old stepped c.in-Err-Cut.cut (event_of c.args.event) is fused may refl
    (λ here its.
    let burnt = rw c.in-Err-Cut.field-0-is at (c.in-Err-Cut.ensures.burnt refl refl refl h ruled here its) in
    let owed = rw c.in-Err-Cut.field-0-is at (c.in-Err-Cut.ensures.owed refl h ruled here its) in record {
      appending = burnt.burnt.appending;
      short = burnt.burnt.short;
      gone = burnt.burnt.gone;
      holds = burnt.holds;
      owed = owed.0;
      follows = owed.1;
    })

pub log_fault_of-requires : goal.log_fault_of-requires
log_fault_of-requires g c =
    let k = c.requires.known in
    let here = k.is.up k.handlers in
    let may = subst (λ (s : Setting). MayHappen (g.H.QueueHandlers.meant c.args.handlers.now) s k.ruled (event_of c.args.event)) (own_setting k.cluster k.handlers k.me c.args.self.now k.ruled k.is) k.may in
    log_memory _ _ c.in-Err-Log.fault _ _ (rw c.in-Err-Log.field-0-is at c.in-Err-Log.ensures.proceeds.1) here.ready refl (rw c.in-Err-Log.field-0-is at (c.in-Err-Log.ensures.owed refl k.handlers k.ruled here may))

pub fault_of-requires-clause-own : goal.fault_of-requires-clause-own
fault_of-requires-clause-own g c =
    let k = c.requires.known in
    let here = k.is.up k.handlers in
    let event = event_of c.args.event in
    not_strange c.in-Err-Step.fault
    (λ is. may_serve _ k.cluster event k.near (c.in-Err-Step.ensures.unserved (ap Err (c.in-Err-Step.field-0-is ∙ ap Failed is))) k.handlers k.ruled here)
    (λ is. is_no_stranger k.cluster event k.near (c.in-Err-Step.ensures.stranger (ap Err (c.in-Err-Step.field-0-is ∙ ap Failed is))))
    (λ is. is_timely _ k.cluster event k.is.members k.near (c.in-Err-Step.ensures.late (ap Err (c.in-Err-Step.field-0-is ∙ ap Failed is))) k.handlers k.ruled here)

pub unreachable-requires : goal.unreachable-requires
unreachable-requires g c =
    let k = c.requires.known in
    let here = k.is.up k.handlers in
    let may = subst (λ (s : Setting). MayHappen (g.H.QueueHandlers.meant c.args.handlers.now) s k.ruled (event_of c.args.event)) (own_setting k.cluster k.handlers k.me c.args.self.now k.ruled k.is) k.may in
    c.in-Err-Unformed.ensures.formed refl (ap Err c.in-Err-Unformed.field-0-is) k.handlers k.ruled here may
