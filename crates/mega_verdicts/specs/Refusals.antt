-- Why a message is not dropped or not delivered.
use Rattle.std.specs.Prelude.{ℕ, Bool, if◌then◌else◌, not, Option, Some, None}

-- none of its number was sent, or it was dropped before
abbrev pub drop_refusal : Bool → Bool → Option ℕ
drop_refusal is_sent is_dropped = if not is_sent then Some 3 else (if is_dropped then Some 4 else None)

-- or its receiver is down
abbrev pub delivery_refusal : Bool → Bool → Bool → Option ℕ
delivery_refusal is_sent is_dropped is_down = if not is_sent then Some 3 else (if is_dropped then Some 4 else (if is_down then Some 1 else None))
