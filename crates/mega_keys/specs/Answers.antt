-- What the calls answer.
use Rattle.std.specs.Prelude.{◌≡◌, ℕ, List, length, nat_lt, if◌then◌else◌, Option, Some, None, Result, Ok, Err}
use Rattle.mega_base.specs.declared.values.Value.{Value}
use Rattle.mega_base.specs.declared.values.Kind.{Kind}
use Rattle.mega_base.specs.declared.values.Shape.{Shape}
use Rattle.mega_base.specs.declared.names.GroupId.{GroupId}
use Rattle.mega_keys.specs.declared.fault.KeyFault.{KeyFault}
use Rattle.mega_keys.specs.declared.fault.KeyFault.TheVariants.{Kind as OtherKind, Missing, TooLong, NotKey, NoMemory}
use Rattle.mega_keys.specs.Spelling.{row_bytes, group_bytes, index_bytes}
use Rattle.mega_keys.specs.Fit.{misplaced, key_kinds}

-- the fault is want of memory, or the answer
abbrev pub Refuses : {A : Type 0} → KeyFault → Result A KeyFault → Type 0
Refuses NoMemory answer = Unit {0}
Refuses (OtherKind i) answer = answer ≡ Err (OtherKind i)
Refuses (Missing i) answer = answer ≡ Err (Missing i)
Refuses (TooLong n) answer = answer ≡ Err (TooLong n)
Refuses (NotKey at) answer = answer ≡ Err (NotKey at)

-- the result, seen by view, is the answer, unless memory ran out
abbrev pub GivesBy : {X A : Type 0} → (X → A) → Result X KeyFault → Result A KeyFault → Type 0
GivesBy view (Ok x) answer = answer ≡ Ok (view x)
GivesBy view (Err fault) answer = Refuses fault answer

abbrev pub Gives : {A : Type 0} → Result A KeyFault → Result A KeyFault → Type 0
Gives result answer = GivesBy (λ x. x) result answer

abbrev pub GivesGroup : Result GroupId KeyFault → Result (List ℕ) KeyFault → Type 0
GivesGroup result answer = GivesBy (λ group. group.key) result answer

-- at most 1,024 bytes
abbrev pub limited : List ℕ → Result (List ℕ) KeyFault
limited bytes = if nat_lt 1024 (length bytes) then Err (TooLong (length bytes)) else Ok bytes

-- the fault of values in places of these kinds: the first that is misplaced, else the first place without one
abbrev pub fault_or_missing : Option ℕ → ℕ → ℕ → Result (Unit {0}) KeyFault
fault_or_missing (Some i) have want = Err (OtherKind i)
fault_or_missing None have want = if nat_lt have want then Err (Missing have) else Ok tt

abbrev pub fault_of : List Kind → List Value → Result (Unit {0}) KeyFault
fault_of kinds values = fault_or_missing (misplaced kinds values 0) (length values) (length kinds)

-- the bytes, where the values have no fault
abbrev pub unless_fault : Result (Unit {0}) KeyFault → List ℕ → Result (List ℕ) KeyFault
unless_fault (Ok _) bytes = limited bytes
unless_fault (Err fault) bytes = Err fault

abbrev pub row_key_of : Shape → List Value → Result (List ℕ) KeyFault
row_key_of shape values = unless_fault (fault_of (key_kinds shape) values) (row_bytes shape values)

abbrev pub group_key_of : Shape → List Value → Result (List ℕ) KeyFault
group_key_of shape values = unless_fault (fault_of shape.root_kinds values) (group_bytes shape values)

abbrev pub index_key_of : ℕ → List ℕ → List Value → List Value → Result (List ℕ) KeyFault
index_key_of number prefix indexed key = limited (index_bytes number prefix indexed key)
