use Rattle.std.proofs.Common.{◌-◌, length, take, Err, Ok, sym, ◌∙◌, ap}
use Rattle.std.specs.List.{flat_map}
use Rattle.mega_base.specs.declared.values.Value.TheVariants.{Str}
use Rattle.mega_keys.specs.Spelling.{escape}
use Rattle.mega_keys.proofs.ReadValues.{text_ok, text_fails}
use Rattle.mega_keys.proofs.read.text_of.Goals as goal

pub returns-in_ok-from_str-in-Ok : goal.returns-in_ok-from_str-in-Ok
returns-in_ok-from_str-in-Ok c =
    let h = c.in-Ok.ensures.cases in
    text_ok c.args.bytes.now c.args.left h.1 ∙ sym (ap (λ t. Ok (Str t)) (c.in_ok-from_str-in-Ok.ensures ∙ h.0))

pub returns-in-Err : goal.returns-in-Err
returns-in-Err c =
    let h = c.in-Err.ensures in
    let front = c.split_at.ensures.front ∙ ap (λ n. take n c.args.bytes.now) (c.valid_up_to.ensures ∙ h.valid_len) in
    text_fails c.args.bytes.now c.args.left h.cases.0 ∙ sym (ap Err (c.saturating_sub.ensures ∙ ap (λ n. c.args.left - n) (c.escaped_len.ensures ∙ ap (λ l. length (flat_map escape l)) front)))
